-- The map program's output (RULES.md, Map program), in ASCII: what the contracts of `map_output` cite. Assumes nothing.
use Prim.Native.{Nat.{ℕ, ◌+◌, ◌-◌, ◌≤◌}, Char.code}
use Prim.Native.String as text
use mathlib.Core.{Path.◌≡◌, Bool.{Bool, cond}, List.{List, [], ◌∷◌, ◌++◌}}
use lib.{Dec.eqb, ListN.{length, take, drop}}
use Rattle.layout.specs.{Rules.hidden, declared.Layout.Layout}
use Rattle.header_format.specs.Format.{vera, vera_magic, true_magic}
use Rattle.sector_map.specs.SectorMap.{sectors, first_sector}
use Rattle.map_output.specs.Decimal.{decimal}

-- the bytes of a text in ASCII
abbrev pub ascii : text.String → List ℕ
ascii text.[] = []
ascii (text.◌∷◌ c s) = code c ∷ ascii s

-- a line: a label, a space, a value and a line feed
unfoldable pub text_line : List ℕ → List ℕ → List ℕ
text_line label value = label ++ (32 ∷ []) ++ value ++ (10 ∷ [])

-- a line whose value is a number
unfoldable pub number_line : List ℕ → ℕ → List ℕ
number_line label number = text_line label (decimal number)

-- a line whose value is one of two words: the first where the test holds
unfoldable pub either_line : List ℕ → Bool → List ℕ → List ℕ → List ℕ
either_line label test one other = text_line label (cond test one other)

-- the mark: VERA for that magic, TRUE for any other
unfoldable pub magic_line : ℕ → List ℕ
magic_line magic = either_line (ascii "mark") (eqb magic vera) vera_magic true_magic

-- the kind: hidden for that kind, standard for any other
unfoldable pub kind_line : ℕ → List ℕ
kind_line kind = either_line (ascii "kind") (eqb kind hidden) (ascii "hidden") (ascii "standard")

-- what the header says of itself
unfoldable pub header_lines : Layout → List ℕ
header_lines layout =
    magic_line layout.magic
    ++ number_line (ascii "version") layout.version
    ++ number_line (ascii "needs") layout.min_program_version

-- where the data area lies in its host, in bytes
unfoldable pub area_lines : Layout → List ℕ
area_lines layout =
    kind_line layout.kind
    ++ number_line (ascii "host") layout.host_size
    ++ number_line (ascii "start") layout.data_start
    ++ number_line (ascii "size") layout.data_size

-- the host sector of the last user sector; of no sectors, that of the first
unfoldable pub last_sector : Layout → ℕ
last_sector layout = first_sector layout + (sectors layout - 1)

-- the same in sectors of the host
unfoldable pub sector_lines : Layout → List ℕ
sector_lines layout =
    number_line (ascii "sectors") (sectors layout)
    ++ number_line (ascii "first") (first_sector layout)
    ++ number_line (ascii "last") (last_sector layout)

-- the ten lines of a layout
unfoldable pub layout_lines : Layout → List ℕ
layout_lines layout = header_lines layout ++ area_lines layout ++ sector_lines layout

-- the one line of a refusal
unfoldable pub refusal_line : ℕ → List ℕ
refusal_line number = number_line (ascii "refused") number

-- a buffer that a text was written to the start of: the count is the text's, and what stands behind it is left as it was.
-- The last two parts follow, where the text fits: a caller that borrows the first count bytes of the buffer has to show them
pub record Rendered (text before after : List ℕ) (count : ℕ) : Type 0 where
  pub counts : count ≡ length text
  pub content : after ≡ text ++ drop (length text) before
  pub fits : count ≤ length after
  pub borrowed : count ≡ length (take count after)

-- the room that a line takes at most: eight bytes of label, a space, twenty digits and a line feed
abbrev pub line_room : ℕ
line_room = 30

-- a text of at most so many bytes was written into a buffer at a position, and next is the position behind it
pub record Written (most : ℕ) (text before : List ℕ) (at : ℕ) (after : List ℕ) (next : ℕ) : Type 0 where
  pub position : next ≡ at + length text
  pub content : after ≡ take at before ++ text ++ drop next before
  pub within : next ≤ at + most
  pub room : next ≤ length before
  pub same : length after ≡ length before
