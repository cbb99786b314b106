-- Two models are the same for a side: its lock, the image's length, and each sector of its own. A call of the side keeps that, and a call
-- of the other side changes nothing of it. Assumes nothing.
use Prim.Native.Nat.{ℕ}
use mathlib.Core.{Path.{◌≡◌, refl, sym, ap, ap₂, ◌∙◌}, Bool.{Bool, true, false, not, ◌&&◌, cond, true≢false}}
use mathlib.Core.List.{List, [], ◌∷◌}
use lib.ListN.{length}
use borrow.Author.Tests.{not-true}
use Rattle.model.specs.{Sectors.{sector_at, piece_for}, Model.{Rules, State, judged, sector_after, next}}
use Rattle.model.specs.Sides.{Side, outer, hidden, Turn, turn, Both, at, sided}
use Rattle.model.proofs.CallLaws.{length_next, sector_next}
use Rattle.model.proofs.Cases.{test_cases, both_true}
use Rattle.model.proofs.Lawful.{Every, Accepts, Lawful, sided_lawful}
use Rattle.model.proofs.LayLaws.{piece_absent}
use Rattle.model.proofs.SideLaws.{is_side, at_put_same, at_put_other}

-- a sector is a side's own: the hidden side's are the protected ones, the outer side's the others
unfoldable pub owns : (ℕ → Bool) → Side → ℕ → Bool
owns protects outer host = not (protects host)
owns protects hidden host = protects host

-- what two sides owe each other: no accepted write of the outer one covers a protected sector, and no accepted call of the hidden one any other
pub record Apart {Call Lock Answer : Type 0} (rules : Side → Rules Call Lock Answer) (protects : ℕ → Bool) : Type 0 where
  pub outer_writes : (call : Call) (lock : Lock) (size : ℕ) → Accepts (rules outer) call lock size → (rules outer).writes call ≡ true
      → Every (λ host. protects host ≡ false) ((rules outer).hosts call)
  pub hidden_calls : (call : Call) (lock : Lock) (size : ℕ) → Accepts (rules hidden) call lock size
      → Every (λ host. protects host ≡ true) ((rules hidden).hosts call)

-- numbers of which a test says one thing do not include one of which it says another
absent_by : (test : ℕ → Bool) (host : ℕ) (b c : Bool) (hosts : List ℕ) → test host ≡ b → (b ≡ c → ⊥) → Every (λ other. test other ≡ c) hosts
    → Every (λ other. host ≡ other → ⊥) hosts
absent_by test host b c [] is ne each = tt
absent_by test host b c (other ∷ hosts) is ne each =
    (λ same. ne (sym is ∙ ap test same ∙ each.0), absent_by test host b c hosts is ne each.1)

module _ {Call Lock Answer : Type 0} (rules : Side → Rules Call Lock Answer) (protects : ℕ → Bool) where
  pub record Same (side : Side) (model other : State (Both Lock)) : Type 0 where
    pub same_lock : at side model.held ≡ at side other.held
    pub same_length : length model.image ≡ length other.image
    pub same_sector : (host : ℕ) → owns protects side host ≡ true → sector_at host model.image ≡ sector_at host other.image

  pub same_refl : {side : Side} {model : State (Both Lock)} → Same side model model
  same_refl = record { same_lock = refl; same_length = refl; same_sector = λ host h. refl }

  pub same_sym : {side : Side} {model other : State (Both Lock)} → Same side model other → Same side other model
  same_sym s = record { same_lock = sym s.same_lock; same_length = sym s.same_length; same_sector = λ host h. sym (s.same_sector host h) }

  pub same_trans : {side : Side} {model other third : State (Both Lock)} → Same side model other → Same side other third → Same side model third
  same_trans s t =
      record {
        same_lock = s.same_lock ∙ t.same_lock;
        same_length = s.same_length ∙ t.same_length;
        same_sector = λ host h. s.same_sector host h ∙ t.same_sector host h;
      }

  pub judged_same : (side : Side) (call : Call) (model other : State (Both Lock)) → Same side model other
      → judged (sided rules) (turn side call) model ≡ judged (sided rules) (turn side call) other
  unfolding judged sided
  judged_same side call model other s = ap₂ ((rules side).judge call) s.same_lock s.same_length

  module _ (lawful : (side : Side) → Lawful (rules side)) (apart : Apart rules protects) where
    pub next_same : (side : Side) (call : Call) (model other : State (Both Lock)) → Same side model other
        → Same side (next (sided rules) (turn side call) model) (next (sided rules) (turn side call) other)
    unfolding next sided
    next_same side call model other s =
        let both = sided rules in
        let answer = judged_same side call model other s in
        let lawfully = sided_lawful rules lawful in
        record {
          same_lock =
              at_put_same side _ model.held ∙ ap₂ ((rules side).lock_after call) answer s.same_lock ∙ sym (at_put_same side _ other.held);
          same_length =
              length_next both lawfully (turn side call) model ∙ s.same_length ∙ sym (length_next both lawfully (turn side call) other);
          same_sector = λ host h.
              sector_next both lawfully (turn side call) model host
              ∙ ap₂ (sector_after both host (turn side call)) answer (s.same_sector host h)
              ∙ sym (sector_next both lawfully (turn side call) other host);
        }

    -- an accepted write of one side covers no sector of the other's own
    absent_other : (side other : Side) (call : Call) (lock : Lock) (size host : ℕ) → is_side side other ≡ false → owns protects side host ≡ true
        → Accepts (rules other) call lock size → (rules other).writes call ≡ true → Every (λ covered. host ≡ covered → ⊥) ((rules other).hosts call)
    unfolding is_side owns
    absent_other outer outer call lock size host e own accepted is_write = absurd (true≢false e)
    absent_other hidden hidden call lock size host e own accepted is_write = absurd (true≢false e)
    absent_other outer hidden call lock size host e own accepted is_write =
        absent_by protects host false true ((rules hidden).hosts call) (not-true (protects host) own) (λ ne. true≢false (sym ne))
        (apart.hidden_calls call lock size accepted)
    absent_other hidden outer call lock size host e own accepted is_write =
        absent_by protects host true false ((rules outer).hosts call) own true≢false (apart.outer_writes call lock size accepted is_write)

    pub next_other : (side : Side) (t : Turn Call) (model : State (Both Lock)) → is_side side t.side ≡ false
        → Same side (next (sided rules) t model) model
    unfolding next sector_after judged sided
    next_other side t model e =
        let both = sided rules in
        let lawfully = sided_lawful rules lawful in
        let own = rules t.side in
        let lock = at t.side model.held in
        let size = length model.image in
        record {
          same_lock = at_put_other side t.side _ model.held e;
          same_length = length_next both lawfully t model;
          same_sector = λ host h.
              let before = sector_at host model.image in
              let piece = piece_for (own.stored t.call) host (own.hosts t.call) (own.buffer t.call) before in
              sector_next both lawfully t model host
              ∙ test_cases (λ b. cond b piece before ≡ before) (own.writes t.call && own.accepts t.call (own.judge t.call lock size))
              (λ moves.
              let both = both_true (own.writes t.call) _ moves in
              piece_absent (own.stored t.call) host (own.hosts t.call) (own.buffer t.call) before
              (absent_other side t.side t.call lock size host e h both.1 both.0))
              (λ stays. refl);
        }
