-- What the judgement of one candidate says: a layout where it is a header that keeps every line, the number of the first line
-- that a header breaks, and 4 where it is no header.
-- Assumes nothing.
use Prim.Native.Nat.{ℕ, suc, ◌-◌, ◌≤◌, ◌<◌}
use native.Mathlib.Omega.{arith}
use mathlib.Core.{Path.{◌≡◌, refl, sym, ◌∙◌, ap, subst}, Bool.{Bool, cond}, List.{List, [], ◌∷◌}}
use lib.ListN.{length, get_or}
use Rattle.header.specs.Header.{fields_of, judge}
use Rattle.header_claims.specs.Header.{SectorSize, KnownKind, IsHeader, Line, version, reserved, flags, sector_size, hidden_size, data_area, number, Keeps, FirstBroken}
use Rattle.header_claims.proofs.Reflects.{Reflects, holds, fails, below_suc}
use Rattle.header_claims.proofs.HeaderLaws.{magic_of_says, is_header_reflects}
use Rattle.header_claims.proofs.ToldLaws.{Told}
use Rattle.header_claims.proofs.LineLaws.{version_reflects, reserved_reflects, flags_reflects}
use Rattle.header_claims.proofs.LineLaws.{sectors_reflect, hidden_size_reflects, data_area_reflects}
use Rattle.std.specs.Prelude.{Ok}
use Rattle.answers.specs.Answers.{Answer, refuse}
use Rattle.layout.specs.declared.Layout.{Layout}

-- the line of a number
abbrev line_of : ℕ → Line
line_of n = get_or (version ∷ reserved ∷ flags ∷ sector_size ∷ hidden_size ∷ data_area ∷ []) (n - 5) data_area

line_of_number : (line : Line) → line_of (number line) ≡ line
unfolding number
line_of_number version = refl
line_of_number reserved = refl
line_of_number flags = refl
line_of_number sector_size = refl
line_of_number hidden_size = refl
line_of_number data_area = refl

number_injective : (a b : Line) → number a ≡ number b → a ≡ b
number_injective a b e = sym (line_of_number a) ∙ ap line_of e ∙ line_of_number b

pub number_bounds : (line : Line) → (5 ≤ number line) × (number line ≤ 10)
unfolding number
number_bounds version = omega arith
number_bounds reserved = omega arith
number_bounds flags = omega arith
number_bounds sector_size = omega arith
number_bounds hidden_size = omega arith
number_bounds data_area = omega arith

module _ (kind host_size index : ℕ) (h : List ℕ) where
  -- what the judgement of a candidate says
  pub data Judgement : Answer Layout → Type 0 where
    accepts : IsHeader h → ((line : Line) → Keeps line kind host_size h) → Judgement (Ok (Told kind host_size index h))
    refuses : IsHeader h → (line : Line) → FirstBroken line kind host_size h → Judgement (refuse (number line))
    refuses4 : (IsHeader h → ⊥) → Judgement (refuse 4)

  header_says : {b : Bool} {later : Answer Layout} → Reflects (IsHeader h) b → (IsHeader h → Judgement later) → Judgement (cond b later (refuse 4))
  header_says (holds r) after = after r
  header_says (fails f) after = refuses4 f

  -- the line of a number is kept
  abbrev KeepsAt : ℕ → Type 0
  KeepsAt n = (line : Line) → number line ≡ n → Keeps line kind host_size h

  -- one line of a header, where those before it are kept
  line_says : IsHeader h → (line : Line) {b : Bool} {later : Answer Layout} → Reflects (Keeps line kind host_size h) b
      → ((n : ℕ) → n < number line → KeepsAt n) → (((n : ℕ) → n < suc (number line) → KeepsAt n) → Judgement later)
      → Judgement (cond b later (refuse (number line)))
  line_says r line (holds p) before after =
      after (below_suc KeepsAt (number line) before (λ other e. subst (λ l. Keeps l kind host_size h) (sym (number_injective other line e)) p))
  line_says r line (fails f) before after = refuses r line (record { broken = f; earlier = λ other lt. before (number other) lt other refl })

  -- a kept line of the hidden size tells a known kind
  known_kind : Keeps hidden_size kind host_size h → KnownKind kind
  unfolding Keeps
  known_kind keeps = keeps.0

  -- .. and that of the sectors a known size of them
  known_sectors : Keeps sector_size kind host_size h → SectorSize (fields_of h).sector_size
  unfolding Keeps fields_of
  known_sectors keeps = keeps

  pub judge_says : length h ≡ 512 → Judgement (judge kind host_size index h)
  unfolding judge number
  judge_says size =
      header_says (is_header_reflects h size) λ r.
      line_says r version (version_reflects kind host_size h r.magic (magic_of_says h)) (λ n lt line e. absurd (omega (arith, number_bounds line))) λ to5.
      line_says r reserved (reserved_reflects kind host_size h r.magic (magic_of_says h)) to5 λ to6.
      line_says r flags (flags_reflects kind host_size h) to6 λ to7.
      line_says r sector_size (sectors_reflect kind host_size h) to7 λ to8.
      line_says r hidden_size (hidden_size_reflects kind host_size h) to8 λ to9.
      line_says r data_area (data_area_reflects kind host_size index h (known_kind (to9 9 (omega arith) hidden_size refl)) (known_sectors (to9 8 (omega arith) sector_size refl))) to9 λ to10.
      accepts r (λ line. to10 (number line) (omega (arith, number_bounds line)) line refl)
