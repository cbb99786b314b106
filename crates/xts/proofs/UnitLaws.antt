-- The blocks of a unit and the units of a run are converted piece by piece. Assumes nothing.
use Prim.Native.Nat.{ℕ, zero, suc, ◌+◌, ◌-◌, ◌*◌, ◌/◌, ◌≤◌, ◌<◌}
use native.Mathlib.Omega.{arith}
use mathlib.Core.{Path.{◌≡◌, refl, ap, ap₂, ◌∙◌}, List.{List, [], ◌++◌, append-nil}}
use lib.{ListN.{length, get_or, take, drop, length-append, length-drop}, Seq.take_all}
use Rattle.std.specs.Simd.{first_chunks}
use Rattle.bits.specs.Bits.{entries}
use Rattle.fields.specs.Bytes.{overlay}
use Rattle.aes_words.specs.Words.{Words, in_fours}
use Rattle.aes_steps.specs.Blocks.{bytes_of}
use Rattle.aes.specs.{Cipher.through_cipher, declared.Direction.Direction}
use Rattle.xts.specs.{Runs.in_units, Units.{under_tweak, blocks_under, first_tweak, converted_by, data_keys, tweak_keys, converted}}
use Rattle.xts_tweaks.specs.Tweaks.{times_alpha}
use Rattle.xts.proofs.PieceLaws.{next_piece, all_done}

pub length_bytes_of : (s : Words) → length (bytes_of s) ≡ 16
unfolding bytes_of entries
length_bytes_of s = refl

module _ (through : Words → Words) where
  -- a block of a unit
  block_piece : Words → List ℕ → List ℕ
  block_piece t from = bytes_of (under_tweak through t (in_fours 4 from))

  pub next_block : (i : ℕ) (t s : Words) (from into : List ℕ) → i < 32 → length into ≡ 512 → s ≡ under_tweak through t (in_fours 4 (drop (16 * i) from))
      → take (16 * (i + 1)) (overlay (16 * i) (bytes_of s) into) ++ blocks_under through (32 - (i + 1)) (times_alpha t) (drop (16 * (i + 1)) from)
      ≡ take (16 * i) into ++ blocks_under through (32 - i) t (drop (16 * i) from)
  unfolding blocks_under block_piece
  next_block i t s from into h size e =
      let more : 16 * (i + 1) ≡ 16 * i + 16 = omega arith in
      ap (λ (k : ℕ). take k (overlay (16 * i) (bytes_of s) into) ++ blocks_under through (32 - (i + 1)) (times_alpha t) (drop k from)) more
      ∙ next_piece 16 times_alpha block_piece (blocks_under through) (λ t b. refl) (λ n t b. refl)
      (32 - (i + 1)) (32 - i) (16 * i) t from into (bytes_of s) (omega arith) (length_bytes_of s) (omega arith) (ap bytes_of e)

  pub blocks_done : (i : ℕ) (t : Words) (rest into : List ℕ) → 32 ≤ i → length into ≡ 512 → into ≡ take (16 * i) into ++ blocks_under through (32 - i) t rest
  unfolding blocks_under block_piece
  blocks_done i t rest into h size =
      all_done 16 times_alpha block_piece (blocks_under through) (λ t b. refl) (λ n t b. refl) (16 * i) (32 - i) t rest into (omega arith) (omega arith)

-- n blocks have 16 * n bytes
length-blocks : (through : Words → Words) (n : ℕ) (t : Words) (bytes : List ℕ) → length (blocks_under through n t bytes) ≡ n * 16
unfolding blocks_under
length-blocks through zero t bytes = refl
length-blocks through (suc n) t bytes =
    let rest = blocks_under through n (times_alpha t) (drop 16 bytes) in
    let first = bytes_of (under_tweak through t (in_fours 4 bytes)) in
    length-append first rest ∙ omega (arith, length_bytes_of (under_tweak through t (in_fours 4 bytes)), length-blocks through n (times_alpha t) (drop 16 bytes))

pub length_converted_by : (direction : Direction) (for_data for_tweaks : List Words) (number : ℕ) (unit : List ℕ)
    → length (converted_by direction for_data for_tweaks number unit) ≡ 512
unfolding converted_by
length_converted_by direction for_data for_tweaks number unit = length-blocks (through_cipher direction for_data) 32 (first_tweak for_tweaks number) unit

-- a unit of a run
module _ (form : ℕ → List ℕ → List ℕ) where
  unit_piece : ℕ → List ℕ → List ℕ
  unit_piece number from = form number (take 512 from)

  pub next_unit : (i count number : ℕ) (from into unit : List ℕ) → i < count → length into ≡ 512 * count → length unit ≡ 512
      → unit ≡ form (number + i) (take 512 (drop (512 * i) from))
      → take (512 * (i + 1)) (overlay (512 * i) unit into) ++ in_units form (count - (i + 1)) (number + (i + 1)) (drop (512 * (i + 1)) from)
      ≡ take (512 * i) into ++ in_units form (count - i) (number + i) (drop (512 * i) from)
  unfolding in_units unit_piece
  next_unit i count number from into unit h long whole e =
      let more : 512 * (i + 1) ≡ 512 * i + 512 = omega arith in
      let later : number + (i + 1) ≡ suc (number + i) = omega arith in
      ap₂ (λ (k m : ℕ). take k (overlay (512 * i) unit into) ++ in_units form (count - (i + 1)) m (drop k from)) more later
      ∙ next_piece 512 suc unit_piece (in_units form) (λ n b. refl) (λ n k b. refl)
      (count - (i + 1)) (count - i) (512 * i) (number + i) from into unit (omega arith) whole (omega arith) e

  pub units_done : (i count number : ℕ) (rest into : List ℕ) → count ≤ i → length into ≡ 512 * count
      → into ≡ take (512 * i) into ++ in_units form (count - i) number rest
  unfolding in_units unit_piece
  units_done i count number rest into h long =
      all_done 512 suc unit_piece (in_units form) (λ n b. refl) (λ n k b. refl) (512 * i) (count - i) number rest into (omega arith) (omega arith)

  -- a run of one unit
  pub one_unit : (number : ℕ) (unit : List ℕ) → length unit ≡ 512 → in_units form (length unit / 512) number unit ≡ form number unit
  unfolding in_units
  one_unit number unit whole =
      let one : length unit / 512 ≡ 1 = omega arith in
      ap (λ (n : ℕ). in_units form n number unit) one ∙ append-nil (form number (take 512 unit)) ∙ ap (form number) (take_all 512 unit (omega arith))

-- n units have 512 * n bytes
pub length_units : (form : ℕ → List ℕ → List ℕ) → ((number : ℕ) (unit : List ℕ) → length (form number unit) ≡ 512)
    → (n number : ℕ) (bytes : List ℕ) → length (in_units form n number bytes) ≡ n * 512
unfolding in_units
length_units form whole zero number bytes = refl
length_units form whole (suc n) number bytes =
    length-append (form number (take 512 bytes)) (in_units form n (suc number) (drop 512 bytes))
    ∙ omega (arith, whole number (take 512 bytes), length_units form whole n (suc number) (drop 512 bytes))

pub length_converted : (direction : Direction) (key : List ℕ) (number : ℕ) (unit : List ℕ) → length (converted direction key number unit) ≡ 512
unfolding converted
length_converted direction key = length_converted_by direction (data_keys key) (tweak_keys key)

-- the halves of a key
module _ (key : List ℕ) (whole : length key ≡ 64) where
  halves : first_chunks 32 (length key / 32) key ≡ first_chunks 32 2 key
  halves = let two : length key / 32 ≡ 2 = omega arith in ap (λ (n : ℕ). first_chunks 32 n key) two

  pub first_half : get_or (first_chunks 32 (length key / 32) key) 0 [] ≡ take 32 key
  first_half = ap (λ (pieces : List (List ℕ)). get_or pieces 0 []) halves

  pub second_half : get_or (first_chunks 32 (length key / 32) key) 1 [] ≡ drop 32 key
  second_half = ap (λ (pieces : List (List ℕ)). get_or pieces 1 []) halves ∙ take_all 32 (drop 32 key) (simp length-drop (omega arith))
