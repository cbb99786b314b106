-- Bytes that have the same parts, one behind the other, are the same. Assumes nothing.
use Prim.Native.Nat.{ℕ, ◌+◌, ◌≤◌}
use mathlib.Core.{Path.{◌≡◌, refl, sym, ◌∙◌, ap, ap₂}, List.{List, [], ◌∷◌, ◌++◌}}
use lib.{ListN.{length, take, drop}, Seq.{take-add, take_all, drop-drop}}
use Rattle.fields.specs.Bytes.{part}

-- a part of two others, one behind the other
part_add : (offset a b : ℕ) (bytes : List ℕ) → part offset (a + b) bytes ≡ part offset a bytes ++ part (offset + a) b bytes
part_add offset a b bytes = take-add a b (drop offset bytes) ∙ ap (λ (rest : List ℕ). part offset a bytes ++ take b rest) (drop-drop a offset bytes)

-- the sum of sizes
abbrev pub total : List ℕ → ℕ
total [] = 0
total (size ∷ sizes) = size + total sizes

module _ (bytes others : List ℕ) where
  -- parts of these sizes, the first at an offset and each behind the one before, are the same
  abbrev pub SameParts : ℕ → List ℕ → Type 0
  SameParts offset [] = Unit
  SameParts offset (size ∷ sizes) = (part offset size bytes ≡ part offset size others) × SameParts (offset + size) sizes

  pub same_parts : (offset : ℕ) (sizes : List ℕ) → SameParts offset sizes → part offset (total sizes) bytes ≡ part offset (total sizes) others
  same_parts offset [] same = refl
  same_parts offset (size ∷ sizes) same =
      part_add offset size (total sizes) bytes
      ∙ ap₂ (λ (front rest : List ℕ). front ++ rest) same.0 (same_parts (offset + size) sizes same.1)
      ∙ sym (part_add offset size (total sizes) others)

  pub same_whole : (n : ℕ) → length bytes ≤ n → length others ≤ n → part 0 n bytes ≡ part 0 n others → bytes ≡ others
  same_whole n h k same = sym (take_all n bytes h) ∙ same ∙ take_all n others k
