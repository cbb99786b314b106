-- The map program (RULES.md, Map program): what it opens of its input, and the bytes that it prints.
-- `opened_input`, `layout_lines` and `refusal_line` are the definitions that the contracts of `map_input` and `map_output` cite. Assumes nothing.
use Prim.Native.{Nat.{ℕ, ◌+◌, ◌-◌, ◌*◌, ◌/◌, ◌^◌, ◌≤◌, ◌<◌}, Char.code}
use Prim.Native.String as text
use mathlib.Core.{Path.◌≡◌, List.{List, [], ◌∷◌, ◌++◌}}
use Rattle.std.specs.Prelude.{length, get_or, take, drop, Ok}
use Rattle.numbers.specs.Numbers.{big_endian}
use Rattle.layout.specs.declared.Layout.{Layout}
use Rattle.opening.specs.Opening.{opened}
use Rattle.sector_map.specs.SectorMap.{sector_count, host_sector}
use Rattle.map_input.specs.MapInput.{opened_input}
use Rattle.map_output.specs.Decimal.{decimal}
use Rattle.map_output.specs.MapOutput.{layout_lines, refusal_line, Rendered}
use Rattle.header_claims.specs.SectorMap.{Sound}
use Rattle.answers.specs.Answers.{refuse}

-- the input: eight bytes that spell S, the first the most significant, then a code and a candidate; any other length is refused 1
pub record ReadsInput : Type 0 where
  pub opens : (size : List ℕ) (code : ℕ) (candidate : List ℕ) → length size ≡ 8 → length candidate ≡ 512
      → opened_input (size ++ (code ∷ candidate)) ≡ opened candidate (code ∷ []) (big_endian size)
  pub other_length : (input : List ℕ) → (length input ≡ 521 → ⊥) → opened_input input ≡ refuse 1

-- the number that ASCII digits spell, written on from a number
unfoldable pub spelled : ℕ → List ℕ → ℕ
spelled a [] = a
spelled a (digit ∷ digits) = spelled (a * 10 + (digit - 48)) digits

-- bytes are a number in decimal: ASCII digits, at least one, that spell it, and a 0 in front stands alone
pub record IsDecimal (number : ℕ) (bytes : List ℕ) : Type 0 where
  pub some : 0 < length bytes
  pub digits : (i : ℕ) → i < length bytes → (48 ≤ get_or bytes i 0) × (get_or bytes i 0 ≤ 57)
  pub spells : spelled 0 bytes ≡ number
  pub alone : get_or bytes 0 0 ≡ 48 → length bytes ≡ 1

-- the bytes of a text in ASCII
abbrev pub letters : text.String → List ℕ
letters text.[] = []
letters (text.◌∷◌ c s) = code c ∷ letters s

-- a line: a label, a space, a value and a line feed
abbrev pub labelled : text.String → List ℕ → List ℕ
labelled label value = letters label ++ (32 ∷ []) ++ value ++ (10 ∷ [])

-- the word of a magic: VERA for 0, TRUE for any other
pub data MagicWord : ℕ → List ℕ → Type 0 where
  vera : MagicWord 0 (letters "VERA")
  other : {magic : ℕ} → (magic ≡ 0 → ⊥) → MagicWord magic (letters "TRUE")

-- the word of a kind: hidden for 1, standard for any other
pub data KindWord : ℕ → List ℕ → Type 0 where
  hidden : KindWord 1 (letters "hidden")
  standard : {kind : ℕ} → (kind ≡ 1 → ⊥) → KindWord kind (letters "standard")

-- the output
pub record PrintsLines : Type 0 where
  -- the ten lines of any layout, in order
  pub lines : (layout : Layout) (magic kind : List ℕ) → MagicWord layout.magic magic → KindWord layout.kind kind
      → layout_lines layout
      ≡ labelled "mark" magic
      ++ labelled "version" (decimal layout.version)
      ++ labelled "needs" (decimal layout.min_program_version)
      ++ labelled "kind" kind
      ++ labelled "host" (decimal layout.host_size)
      ++ labelled "start" (decimal layout.data_start)
      ++ labelled "size" (decimal layout.data_size)
      ++ labelled "sectors" (decimal (layout.data_size / 512))
      ++ labelled "first" (decimal (layout.data_start / 512))
      ++ labelled "last" (decimal (layout.data_start / 512 + (layout.data_size / 512 - 1)))
  -- of a sound layout the last three are the map's
  pub mapped : (layout : Layout) → Sound layout
      → (sector_count layout ≡ Ok (layout.data_size / 512))
      × (host_sector layout 0 ≡ Ok (layout.data_start / 512))
      × (host_sector layout (layout.data_size / 512 - 1) ≡ Ok (layout.data_start / 512 + (layout.data_size / 512 - 1)))
  -- the one line of any refusal
  pub refusal : (number : ℕ) → refusal_line number ≡ labelled "refused" (decimal number)
  -- numbers of 64 bits are in decimal
  pub decimals : (number : ℕ) → number < 2 ^ 64 → IsDecimal number (decimal number)
  -- what is printed, the buffer's first count bytes, is the text, and the rest of the buffer is left as it was
  pub printed : (text before after : List ℕ) (count : ℕ) → Rendered text before after count → take count after ≡ text
  pub untouched : (text before after : List ℕ) (count : ℕ) → Rendered text before after count → drop count after ≡ drop count before
