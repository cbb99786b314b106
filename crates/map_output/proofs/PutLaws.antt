-- Laws of texts written into a buffer one behind the other. Assumes nothing.
use mathlib.Core.{Path.{◌≡◌, sym, ap, ◌∙◌}, List.{List, ◌++◌, append_assoc}}
use Prim.Native.Nat.{ℕ, ◌+◌, ◌≤◌}
use native.Mathlib.Nat.{zero-add}
use native.Mathlib.Omega.{arith}
use lib.{ListN.{length, take, drop, length-append}, Seq.{take_at, drop-append-add, drop-drop, length-take-le}}
use Rattle.map_output.specs.MapOutput.{Written, Rendered}

-- two texts, the second at the position behind the first
module _ {m n : ℕ} {a b before between after : List ℕ} {at p q : ℕ} (first : Written m a before at between p)
    (second : Written n b between p after q) where
  front_length : length (take at before ++ a) ≡ p
  front_length =
      let fits : at ≤ length before = omega (arith, first.position, first.room) in
      length-append (take at before) a ∙ ap (λ (k : ℕ). k + length a) (length-take-le at before fits) ∙ sym first.position

  front : take p between ≡ take at before ++ a
  front = ap (take p) first.content ∙ take_at (take at before ++ a) (drop p before) p front_length

  rest : drop q between ≡ drop q before
  rest =
      ap (λ (k : ℕ). drop k between) (second.position ∙ ap (λ (k : ℕ). k + length b) (sym front_length))
      ∙ ap (drop (length (take at before ++ a) + length b)) first.content
      ∙ drop-append-add (take at before ++ a) (drop p before) (length b)
      ∙ drop-drop (length b) p before
      ∙ ap (λ (k : ℕ). drop k before) (sym second.position)

  pub written_append : Written (m + n) (a ++ b) before at after q
  written_append =
      record {
        position = omega (arith, first.position, second.position, length-append a b);
        content =
            second.content ∙ ap (λ (l : List ℕ). l ++ b ++ drop q between) front ∙ ap (λ (l : List ℕ). take at before ++ a ++ b ++ l) rest
            ∙ ap (λ (l : List ℕ). l ++ drop q before) (append_assoc (take at before) a b);
        within = omega (arith, first.within, second.within);
        room = omega (arith, second.room, first.same);
        same = second.same ∙ first.same;
      }

-- a text that has room for more
pub written_within : {m n : ℕ} {text before after : List ℕ} {at next : ℕ} → m ≤ n
    → Written m text before at after next → Written n text before at after next
written_within h w =
    record { position = w.position; content = w.content; within = omega (arith, w.within); room = w.room; same = w.same }

-- a text at the start
pub written_first : {m : ℕ} {text before after : List ℕ} {count : ℕ} → Written m text before 0 after count
    → Rendered text before after count
written_first {text = text} {before = before} {after = after} {count = count} w =
    let e = w.position ∙ zero-add (length text) in
    let fits : count ≤ length after = omega (arith, w.room, w.same) in
    record {
      counts = e;
      content = w.content ∙ ap (λ (k : ℕ). text ++ drop k before) e;
      fits = fits;
      borrowed = sym (length-take-le count after fits);
    }
