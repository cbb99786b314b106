-- The sectors of an image: what replacing one does to each, and that they make up the image.
-- Assumes nothing.
use Prim.Native.Nat.{ℕ, ◌+◌, ◌-◌, ◌*◌, ◌/◌, ◌%◌, ◌≤◌, ◌<◌}
use native.Mathlib.Omega.{arith}
use mathlib.Core.{Path.{◌≡◌, sym, ap, ◌∙◌}, List.{List, ◌++◌, append_assoc}}
use lib.{Dec.ltb, ListN.{length, take, drop, get_or, length-append, length-take, length-drop, take-append-drop}}
use lib.Seq.{take-append-le, drop-append-le, drop-append-add, take_at, drop_at, get_or-take, get_or-drop, ext_get_or}
use borrow.Author.Tests.{ltb-true, ltb-false}
use Rattle.model.specs.Sectors.{sector_at, set_sector}
use Rattle.model.proofs.Cases.{test_cases}

-- of two lists end to end, a sector that lies whole in the first
sector_append_left : (host : ℕ) (p q : List ℕ) → host * 512 + 512 ≤ length p → sector_at host (p ++ q) ≡ sector_at host p
unfolding sector_at
sector_append_left host p q h =
    let left : host * 512 ≤ length p = omega arith in
    let rest : 512 ≤ length (drop (host * 512) p) = simp length-drop (omega arith) in
    rw (drop-append-le, take-append-le)

-- .. and one that starts in the second or later
sector_append_right : (host : ℕ) (p q : List ℕ) → length p ≤ host * 512 → sector_at host (p ++ q) ≡ take 512 (drop (host * 512 - length p) q)
unfolding sector_at
sector_append_right host p q h =
    let split : host * 512 ≡ length p + (host * 512 - length p) = omega arith in
    ap (λ n. take 512 (drop n (p ++ q))) split ∙ ap (take 512) (drop-append-add p q (host * 512 - length p))

pub length_sector : (host : ℕ) (image : List ℕ) → host * 512 + 512 ≤ length image → length (sector_at host image) ≡ 512
unfolding sector_at
length_sector host image h = simp (length-take, length-drop) (omega arith)

module _ (host : ℕ) (bytes image : List ℕ) (sector : length bytes ≡ 512) (inside : host * 512 + 512 ≤ length image) where
  pub length_set_sector : length (set_sector host bytes image) ≡ length image
  unfolding set_sector
  length_set_sector = simp (length-append, length-take, length-drop) (omega arith)

  pub sector_set_same : sector_at host (set_sector host bytes image) ≡ bytes
  unfolding sector_at set_sector
  sector_set_same =
      let front : length (take (host * 512) image) ≡ host * 512 = simp length-take (omega arith) in
      rw (append_assoc, drop_at (take (host * 512) image) (bytes ++ drop (host * 512 + 512) image) (host * 512) front, take_at)

  sector_set_before : (other : ℕ) → other < host → sector_at other (set_sector host bytes image) ≡ sector_at other image
  unfolding set_sector
  sector_set_before other h =
      let whole : other * 512 + 512 ≤ length (take (host * 512) image) = simp length-take (omega arith) in
      ap (sector_at other) (append_assoc (take (host * 512) image) bytes (drop (host * 512 + 512) image))
      ∙ sector_append_left other (take (host * 512) image) (bytes ++ drop (host * 512 + 512) image) whole
      ∙ sym (sector_append_left other (take (host * 512) image) (drop (host * 512) image) whole)
      ∙ ap (sector_at other) (take-append-drop (host * 512) image)

  sector_set_behind : (other : ℕ) → host < other → sector_at other (set_sector host bytes image) ≡ sector_at other image
  unfolding set_sector
  sector_set_behind other h =
      let size : length (take (host * 512) image ++ bytes) ≡ host * 512 + 512 = simp (length-append, length-take) (omega arith) in
      let old : length (take (host * 512 + 512) image) ≡ host * 512 + 512 = simp length-take (omega arith) in
      sector_append_right other (take (host * 512) image ++ bytes) (drop (host * 512 + 512) image) (omega arith)
      ∙ ap (λ n. take 512 (drop (other * 512 - n) (drop (host * 512 + 512) image))) (size ∙ sym old)
      ∙ sym (sector_append_right other (take (host * 512 + 512) image) (drop (host * 512 + 512) image) (omega arith))
      ∙ ap (sector_at other) (take-append-drop (host * 512 + 512) image)

  pub sector_set_other : (other : ℕ) → (other ≡ host → ⊥) → sector_at other (set_sector host bytes image) ≡ sector_at other image
  sector_set_other other apart =
      test_cases (λ b. sector_at other (set_sector host bytes image) ≡ sector_at other image) (ltb other host)
      (λ e. sector_set_before other (ltb-true other host e)) (λ e. sector_set_behind other (omega (arith, ltb-false other host e, apart)))

-- a byte of an image, in its sector
get_d_sector : (image : List ℕ) (i : ℕ) → get_or (sector_at (i / 512) image) (i % 512) 0 ≡ get_or image i 0
unfolding sector_at
get_d_sector image i =
    let below : i % 512 < 512 = omega arith in
    let split : i / 512 * 512 + i % 512 ≡ i = omega arith in
    rw (get_or-take, get_or-drop, split)

pub sectors_ext : (image other : List ℕ) → length image ≡ length other → ((host : ℕ) → sector_at host image ≡ sector_at host other) → image ≡ other
sectors_ext image other size same =
    ext_get_or 0 image other size λ i h. sym (get_d_sector image i) ∙ ap (λ s. get_or s (i % 512) 0) (same (i / 512)) ∙ get_d_sector other i
