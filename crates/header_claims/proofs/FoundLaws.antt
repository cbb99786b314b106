-- What the search found settles the claims about opening: of two firsts neither is before the other.
-- Assumes nothing.
use Prim.Native.Nat.{ℕ, ◌<◌}
use native.Mathlib.Omega.{arith}
use mathlib.Core.{Path.{◌≡◌, refl, ap, subst}, Logic.{◌⊎◌, inl, inr}, List.List}
use lib.ListN.{length, get_or}
use Rattle.layout.specs.declared.Layout.{Layout}
use Rattle.header_claims.specs.Header.{IsHeader, Line, number, FirstBroken}
use Rattle.header_claims.specs.Opening.{candidate, kind_of, IsAccepted, FirstAccepted, FirstHeader, TellsAt}
use Rattle.header_claims.proofs.FirstAcceptedLaws.{Found, an_accepted, a_header, no_header}
use Rattle.std.specs.Prelude.{Ok}
use Rattle.answers.specs.Answers.{Answer, refuse}

same_first : {i j : ℕ} → (i < j → ⊥) → (j < i → ⊥) → i ≡ j
same_first f g = omega arith

pub refused_is_not_accepted : {n : ℕ} {layout : Layout} → refuse n ≡ Ok layout → ⊥
refused_is_not_accepted e = let z : ◌≡◌ {A = ℕ} 0 1 = cc in omega arith

module _ (candidates codes : List ℕ) (host_size : ℕ) where
  pub found_accepts : {o : Answer Layout} → Found candidates codes host_size (length codes) o → (i : ℕ) → FirstAccepted candidates codes host_size i
      → (layout : Layout) × (o ≡ Ok layout) × TellsAt candidates codes host_size i layout
  found_accepts (an_accepted j layout r told) i s =
      let same : j ≡ i = same_first (λ lt. s.first j lt r.accepted) (λ lt. r.first i lt s.accepted) in
      (layout, refl, subst (λ k. TellsAt candidates codes host_size k layout) same told)
  found_accepts (a_header f j line h) i s = absurd (f i s.accepted.inside s.accepted)
  found_accepts (no_header f g) i s = absurd (f i s.accepted.inside s.accepted)

  pub found_only_accepts : {o : Answer Layout} → Found candidates codes host_size (length codes) o → (layout : Layout) → o ≡ Ok layout
      → (i : ℕ) × FirstAccepted candidates codes host_size i × TellsAt candidates codes host_size i layout
  found_only_accepts (an_accepted j given r told) layout e = let same : given ≡ layout = cc in (j, r, subst (TellsAt candidates codes host_size j) same told)
  found_only_accepts (a_header f j line h) layout e = absurd (refused_is_not_accepted e)
  found_only_accepts (no_header f g) layout e = absurd (refused_is_not_accepted e)

  pub found_refuses : {o : Answer Layout} → Found candidates codes host_size (length codes) o → ((i : ℕ) → IsAccepted candidates codes host_size i → ⊥)
      → (i : ℕ) (line : Line) → FirstHeader candidates codes host_size i line → o ≡ refuse (number line)
  found_refuses (an_accepted j layout r told) none i line h = absurd (none j r.accepted)
  found_refuses (a_header f j other r) none i line h =
      let same : j ≡ i = same_first (λ lt. h.first j lt r.is_header) (λ lt. r.first i lt h.is_header) in
      let breaks : FirstBroken other (kind_of (get_or codes i 0)) host_size (candidate candidates i) = rw same at r.breaks in
      ap refuse (same_first (λ lt. breaks.broken (h.breaks.earlier other lt)) (λ lt. h.breaks.broken (breaks.earlier line lt)))
  found_refuses (no_header f g) none i line h = absurd (g i h.inside h.is_header)

  pub found_refuses4 : {o : Answer Layout} → Found candidates codes host_size (length codes) o → ((i : ℕ) → i < length codes → IsHeader (candidate candidates i) → ⊥)
      → o ≡ refuse 4
  found_refuses4 (an_accepted j layout r told) none = absurd (none j r.accepted.inside r.accepted.is_header)
  found_refuses4 (a_header f j line r) none = absurd (none j r.inside r.is_header)
  found_refuses4 (no_header f g) none = refl

  pub found_one : {o : Answer Layout} → Found candidates codes host_size (length codes) o
      → ((i : ℕ) × FirstAccepted candidates codes host_size i)
      ⊎ (((i : ℕ) → IsAccepted candidates codes host_size i → ⊥)
      × (((i : ℕ) × (line : Line) × FirstHeader candidates codes host_size i line)
      ⊎ ((i : ℕ) → i < length codes → IsHeader (candidate candidates i) → ⊥)))
  found_one (an_accepted j layout r told) = inl (j, r)
  found_one (a_header f j line r) = inr (λ i a. f i a.inside a, inl (j, line, r))
  found_one (no_header f g) = inr (λ i a. f i a.inside a, inr g)
