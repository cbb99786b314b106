-- Units one behind the other come back from a form that another form undoes. Assumes nothing.
use Prim.Native.Nat.{ℕ, zero, suc, ◌*◌}
use native.Mathlib.Omega.{arith}
use mathlib.Core.{Path.{◌≡◌, refl, ap₂, ◌∙◌}, List.{List, [], ◌∷◌, ◌++◌}}
use lib.{ListN.{length, take, drop, length-drop, take-append-drop}, Seq.{length-take-le, take_at, drop_at}}
use Rattle.bits.specs.Bits.{Bytes}
use Rattle.bits.proofs.BytesLaws.{bytes_take, bytes_drop}
use Rattle.aes.specs.declared.Direction.{Direction, TheVariants.{Encipher, Decipher}}
use Rattle.xts.specs.{Runs.in_units, Units.{converted, enciphered, deciphered}}
use Rattle.xts.proofs.UnitLaws.{length_converted}
use Rattle.cipher_laws.specs.Directions.{opposite}
use Rattle.cipher_laws.proofs.UnitLaws.{converted_back}

no_unit : (bytes : List ℕ) → length bytes ≡ 0 → [] ≡ bytes
no_unit [] whole = refl
no_unit (b ∷ bytes) whole = absurd (omega arith)

first_unit : (n : ℕ) (bytes : List ℕ) → length bytes ≡ suc n * 512 → length (take 512 bytes) ≡ 512
first_unit n bytes whole = length-take-le 512 bytes (omega arith)

other_units : (n : ℕ) (bytes : List ℕ) → length bytes ≡ suc n * 512 → length (drop 512 bytes) ≡ n * 512
other_units n bytes whole = length-drop 512 bytes ∙ omega arith

module _ (form : ℕ → List ℕ → List ℕ) (size : (number : ℕ) (unit : List ℕ) → length unit ≡ 512 → length (form number unit) ≡ 512) where
  pub in_units_back : (back : ℕ → List ℕ → List ℕ)
      → ((number : ℕ) (unit : List ℕ) → length unit ≡ 512 → Bytes unit → back number (form number unit) ≡ unit) → (n number : ℕ) (bytes : List ℕ)
      → length bytes ≡ n * 512 → Bytes bytes → in_units back n number (in_units form n number bytes) ≡ bytes
  unfolding in_units
  in_units_back back same zero number bytes whole small = no_unit bytes whole
  in_units_back back same (suc n) number bytes whole small =
      let there = form number (take 512 bytes) in
      let rest = in_units form n (suc number) (drop 512 bytes) in
      let sized = size number (take 512 bytes) (first_unit n bytes whole) in
      let first = same number (take 512 bytes) (first_unit n bytes whole) (bytes_take 512 bytes small) in
      let others = in_units_back back same n (suc number) (drop 512 bytes) (other_units n bytes whole) (bytes_drop 512 bytes small) in
      ap₂ (λ (x y : List ℕ). back number x ++ in_units back n (suc number) y) (take_at there rest 512 sized) (drop_at there rest 512 sized)
      ∙ ap₂ (λ (x y : List ℕ). x ++ y) first others
      ∙ take-append-drop 512 bytes

pub run_back : (direction : Direction) (key : List ℕ) (n number : ℕ) (bytes : List ℕ) → Bytes key → length bytes ≡ n * 512 → Bytes bytes
    → in_units (converted (opposite direction) key) n number (in_units (converted direction key) n number bytes) ≡ bytes
run_back direction key n number bytes key_bytes =
    in_units_back (converted direction key) (λ number unit whole. length_converted direction key number unit) (converted (opposite direction) key)
    (λ number unit. converted_back direction key number unit key_bytes) n number bytes

pub run_deciphered_enciphered : (key : List ℕ) (n number : ℕ) (bytes : List ℕ) → Bytes key → length bytes ≡ n * 512 → Bytes bytes
    → in_units (deciphered key) n number (in_units (enciphered key) n number bytes) ≡ bytes
run_deciphered_enciphered = run_back Encipher

pub run_enciphered_deciphered : (key : List ℕ) (n number : ℕ) (bytes : List ℕ) → Bytes key → length bytes ≡ n * 512 → Bytes bytes
    → in_units (enciphered key) n number (in_units (deciphered key) n number bytes) ≡ bytes
run_enciphered_deciphered = run_back Decipher
