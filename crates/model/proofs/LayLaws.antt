-- A buffer laid into distinct sectors of an image: each covered sector keeps its piece, each other one stays, and so does the length.
-- Assumes nothing.
use Prim.Native.Nat.{ℕ, ◌+◌, ◌*◌, ◌≤◌}
use native.Mathlib.Omega.{arith}
use mathlib.Core.{Path.{◌≡◌, refl, sym, ap₂, ◌∙◌}, Bool.cond, List.{List, [], ◌∷◌, ◌++◌}}
use lib.ListN.{length, take, drop, length-take, length-drop}
use Rattle.model.specs.Sectors.{sector_at, set_sector, lay, gather, piece_for}
use Rattle.model.proofs.Cases.{eqb_cases}
use Rattle.model.proofs.Lawful.{Every, Fitting, Sized}
use Rattle.model.proofs.SectorLaws.{length_set_sector, sector_set_same, sector_set_other}

-- where two say the same of each sector, the same is copied out
pub gather_same : (f g : ℕ → List ℕ) (hosts : List ℕ) → Every (λ host. f host ≡ g host) hosts → gather f hosts ≡ gather g hosts
unfolding gather
gather_same f g [] same = refl
gather_same f g (host ∷ hosts) same = ap₂ ◌++◌ same.0 (gather_same f g hosts same.1)

inside_same : (size other : ℕ) (hosts : List ℕ) → size ≡ other → Every (λ host. host * 512 + 512 ≤ size) hosts
    → Every (λ host. host * 512 + 512 ≤ other) hosts
inside_same size other [] e i = i
inside_same size other (host ∷ hosts) e i = (omega (arith, e, i.0), inside_same size other hosts e i.1)

-- no piece is for a sector that is not covered
pub piece_absent : (stored : ℕ → List ℕ → List ℕ) (host : ℕ) (hosts buffer before : List ℕ) → Every (λ other. host ≡ other → ⊥) hosts
    → piece_for stored host hosts buffer before ≡ before
unfolding piece_for
piece_absent stored host [] buffer before absent = refl
piece_absent stored host (covered ∷ hosts) buffer before absent =
    eqb_cases
    (λ b. cond b (stored covered (take 512 buffer)) (piece_for stored host hosts (drop 512 buffer) before) ≡ before) host covered
    (λ same. absurd (absent.0 same))
    (λ apart. piece_absent stored host hosts (drop 512 buffer) before absent.1)

module _ (stored : ℕ → List ℕ → List ℕ) (sized : Sized stored) where
  -- the first piece, laid into the first of several sectors
  module _ (host : ℕ) (hosts buffer image : List ℕ) (fits : Fitting (length image) (host ∷ hosts) buffer) where
    abbrev piece : List ℕ
    piece = stored host (take 512 buffer)

    abbrev laid : List ℕ
    laid = set_sector host piece image

    piece_sized : length piece ≡ 512
    piece_sized = sized host (take 512 buffer) (simp length-take (omega (arith, fits.whole)))

    length_laid : length laid ≡ length image
    length_laid = length_set_sector host piece image piece_sized fits.inside.0

    fitting_rest : Fitting (length laid) hosts (drop 512 buffer)
    fitting_rest =
        record {
          whole = simp length-drop (omega (arith, fits.whole));
          inside = inside_same (length image) (length laid) hosts (sym length_laid) fits.inside.1;
          distinct = fits.distinct.1;
        }

  pub length_lay : (hosts buffer image : List ℕ) → Fitting (length image) hosts buffer → length (lay stored hosts buffer image) ≡ length image
  unfolding lay
  length_lay [] buffer image fits = refl
  length_lay (host ∷ hosts) buffer image fits =
      length_lay hosts (drop 512 buffer) (laid host hosts buffer image fits) (fitting_rest host hosts buffer image fits)
      ∙ length_laid host hosts buffer image fits

  pub sector_lay : (host : ℕ) (hosts buffer image : List ℕ) → Fitting (length image) hosts buffer
      → sector_at host (lay stored hosts buffer image) ≡ piece_for stored host hosts buffer (sector_at host image)
  unfolding lay piece_for
  sector_lay host [] buffer image fits = refl
  sector_lay host (first ∷ hosts) buffer image fits =
      let bytes = stored first (take 512 buffer) in
      let rest = drop 512 buffer in
      let size = piece_sized first hosts buffer image fits in
      sector_lay host hosts rest (set_sector first bytes image) (fitting_rest first hosts buffer image fits)
      ∙ eqb_cases
      (λ b.
      piece_for stored host hosts rest (sector_at host (set_sector first bytes image)) ≡ cond b bytes (piece_for stored host hosts rest (sector_at host image)))
      host first
      (λ same.
      rw same
      (piece_absent stored first hosts rest (sector_at first (set_sector first bytes image)) fits.distinct.0
      ∙ sector_set_same first bytes image size fits.inside.0))
      (λ apart. rw (sector_set_other first bytes image size fits.inside.0 host apart))
