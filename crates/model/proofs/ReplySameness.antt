-- Models that are the same for a side give a call of that side the same: the hidden side its reply, the outer side all but what a read gives of
-- protected sectors. Assumes nothing.
use Prim.Native.Nat.{ℕ, ◌+◌, ◌*◌, ◌≤◌}
use native.Mathlib.Omega.{arith}
use mathlib.Core.{Path.{◌≡◌, refl, ap, ap₂, ◌∙◌}, Bool.{Bool, true, false, not, ◌&&◌, cond}, List.{List, [], ◌∷◌}}
use lib.{ListN.length, Seq.{take_at, drop_at}}
use Rattle.model.specs.{Sectors.{sector_at, gather}, Model.{Rules, State, judged, buffer_after, reply}}
use Rattle.model.specs.Sides.{Side, outer, hidden, turn, Both, at, sided, unprotected_pieces, unprotected}
use Rattle.model.proofs.Cases.{test_cases, both_true}
use Rattle.model.proofs.Lawful.{Every, Sized, Lawful}
use Rattle.model.proofs.LayLaws.{gather_same}
use Rattle.model.proofs.Sameness.{owns, Apart, Same, judged_same}
use Rattle.model.proofs.SectorLaws.{length_sector}

-- the pieces that stay of what is copied out of two images that agree on the unprotected sectors
pieces_same : (protects : ℕ → Bool) (show : ℕ → List ℕ → List ℕ) → Sized show → (image other : List ℕ) → length image ≡ length other
    → ((host : ℕ) → protects host ≡ false → sector_at host image ≡ sector_at host other)
    → (hosts : List ℕ) → Every (λ host. host * 512 + 512 ≤ length image) hosts
    → unprotected_pieces protects hosts (gather (λ host. show host (sector_at host image)) hosts)
    ≡ unprotected_pieces protects hosts (gather (λ host. show host (sector_at host other)) hosts)
unfolding unprotected_pieces gather
pieces_same protects show sized image other size same [] inside = refl
pieces_same protects show sized image other size same (host ∷ hosts) inside =
    let one = show host (sector_at host image) in
    let another = show host (sector_at host other) in
    let long = sized host (sector_at host image) (length_sector host image inside.0) in
    let other_long = sized host (sector_at host other) (length_sector host other (omega (arith, size, inside.0))) in
    let rest = gather (λ h. show h (sector_at h image)) hosts in
    let other_rest = gather (λ h. show h (sector_at h other)) hosts in
    rw (take_at one rest 512 long, drop_at one rest 512 long, take_at another other_rest 512 other_long, drop_at another other_rest 512 other_long)
    (ap₂ ◌∷◌
    (test_cases (λ b. cond b [] one ≡ cond b [] another) (protects host) (λ e. refl) (λ e. ap (show host) (same host e)))
    (pieces_same protects show sized image other size same hosts inside.1))

module _ {Call Lock Answer : Type 0} (rules : Side → Rules Call Lock Answer) (protects : ℕ → Bool)
    (lawful : (side : Side) → Lawful (rules side)) (apart : Apart rules protects) (call : Call) (model other : State (Both Lock)) where
  pub reply_hidden_same : Same rules protects hidden model other
      → reply (sided rules) (turn hidden call) model ≡ reply (sided rules) (turn hidden call) other
  unfolding reply buffer_after judged sided owns
  reply_hidden_same s =
      let own = rules hidden in
      let answer = judged_same rules protects hidden call model other s in
      let given = own.judge call (at hidden model.held) (length model.image) in
      let read : List ℕ → List ℕ = λ image. gather (λ host. own.shown call host (sector_at host image)) (own.hosts call) in
      let buffers =
      test_cases (λ b. cond b (read model.image) (own.buffer call) ≡ cond b (read other.image) (own.buffer call))
      (not (own.writes call) && own.accepts call given)
      (λ e.
      gather_same _ _ (own.hosts call)
      (every_same (own.hosts call) (apart.hidden_calls call (at hidden model.held) (length model.image) (both_true (not (own.writes call)) _ e).1)))
      (λ e. refl) in
      λ i. record {
        answer = answer i;
        buffer =
            (buffers ∙ ap (λ (a : Answer). cond (not (own.writes call) && own.accepts call a) (read other.image) (own.buffer call)) answer) i;
      }
    where
      every_same : (hosts : List ℕ) → Every (λ host. protects host ≡ true) hosts
          → Every (λ host. (rules hidden).shown call host (sector_at host model.image) ≡ (rules hidden).shown call host (sector_at host other.image)) hosts
      every_same [] each = tt
      every_same (host ∷ hosts) each = (ap ((rules hidden).shown call host) (s.same_sector host each.0), every_same hosts each.1)

  pub unprotected_outer_same : Same rules protects outer model other
      → unprotected (rules outer) protects (call, reply (sided rules) (turn outer call) model)
      ≡ unprotected (rules outer) protects (call, reply (sided rules) (turn outer call) other)
  unfolding unprotected reply buffer_after judged sided owns
  unprotected_outer_same s =
      let own = rules outer in
      let given = own.judge call (at outer model.held) (length model.image) in
      let answer = judged_same rules protects outer call model other s in
      let read : List ℕ → List ℕ = λ image. gather (λ host. own.shown call host (sector_at host image)) (own.hosts call) in
      let pieces : Bool → List ℕ → List (List ℕ) = λ b image.
      cond b (unprotected_pieces protects (own.hosts call) (cond b (read image) (own.buffer call))) (cond b (read image) (own.buffer call) ∷ []) in
      let shown =
      test_cases (λ b. pieces b model.image ≡ pieces b other.image) (not (own.writes call) && own.accepts call given)
      (λ e.
      pieces_same protects (own.shown call) ((lawful outer).shown_sized call) model.image other.image s.same_length
      (λ host free. s.same_sector host (ap not free)) (own.hosts call)
      ((lawful outer).fitting call (at outer model.held) (length model.image) (both_true (not (own.writes call)) _ e).1).inside)
      (λ e. refl) in
      λ i. (answer i, (shown ∙ ap (λ (a : Answer). pieces (not (own.writes call) && own.accepts call a) other.image) answer) i)
