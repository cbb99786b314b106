-- The map program opens the candidate of its input, and prints the ten lines of a layout or the one of a refusal, byte for byte.
-- Assumes nothing.
use Prim.Native.Nat.{ℕ, ◌+◌, ◌-◌, ◌/◌, ◌<◌}
use native.Mathlib.Omega.{arith}
use mathlib.Core.{Path.{◌≡◌, refl, sym, ap, ◌∙◌}, List.{List, [], ◌∷◌, ◌++◌, append_assoc}}
use lib.{ListN.{length, drop, length-append}, Seq.{take_at, drop_at, take_all, drop-drop, take-append_seam, drop-append_seam}}
use borrow.Author.Tests.{eq-eqb, ne_eqb}
use Rattle.numbers.specs.Numbers.{big_endian}
use Rattle.layout.specs.declared.Layout.{Layout}
use Rattle.opening.specs.Opening.{opened}
use Rattle.sector_map.specs.SectorMap.{sectors, first_sector, sector_count, host_sector}
use Rattle.map_input.specs.MapInput.{opened_input}
use Rattle.map_output.specs.MapOutput.{ascii}
use Rattle.map_output.specs.MapOutput.{text_line, number_line, either_line, magic_line, kind_line, header_lines, area_lines, sector_lines, last_sector}
use Rattle.map_output.specs.MapOutput.{layout_lines, refusal_line}
use Rattle.header_claims.specs.SectorMap.{Sound}
use Rattle.header_claims.specs.MapProgram.{ReadsInput, MagicWord, vera, other, KindWord, hidden, standard, PrintsLines}
use Rattle.header_claims.proofs.DecimalLaws.{is_decimal}
use Rattle.header_claims.proofs.SectorMap.{maps_exactly}
use Rattle.std.specs.Prelude.{Ok}
use Rattle.answers.specs.Answers.{refuse}

-- the three parts of an input
module _ (size : List ℕ) (code : ℕ) (candidate : List ℕ) (eight : length size ≡ 8) (whole : length candidate ≡ 512) where
  all_bytes : length (size ++ (code ∷ candidate)) ≡ 521
  all_bytes = length-append size (code ∷ candidate) ∙ omega arith

  behind : drop 8 (size ++ (code ∷ candidate)) ≡ code ∷ candidate
  behind = drop_at size (code ∷ candidate) 8 eight

  behind_code : drop 9 (size ++ (code ∷ candidate)) ≡ candidate
  behind_code = sym (drop-drop 1 8 (size ++ (code ∷ candidate))) ∙ ap (drop 1) behind

  input_opens : opened_input (size ++ (code ∷ candidate)) ≡ opened candidate (code ∷ []) (big_endian size)
  unfolding opened_input
  input_opens =
      rw (eq-eqb _ _ all_bytes, behind, behind_code, take_at size (code ∷ candidate) 8 eight, take_all 512 candidate (omega arith))

input_refused : (input : List ℕ) → (length input ≡ 521 → ⊥) → opened_input input ≡ refuse 1
unfolding opened_input
input_refused input f = rw (ne_eqb (length input) 521 f)

pub reads_input : ReadsInput
reads_input = record { opens = input_opens; other_length = input_refused }

mark_line : {magic : ℕ} {word : List ℕ} → MagicWord magic word → magic_line magic ≡ text_line (ascii "mark") word
unfolding magic_line either_line
mark_line vera = refl
mark_line (other f) = rw (ne_eqb _ 0 f)

kind_line_lem : {kind : ℕ} {word : List ℕ} → KindWord kind word → kind_line kind ≡ text_line (ascii "kind") word
unfolding kind_line either_line
kind_line_lem hidden = refl
kind_line_lem (standard f) = rw (ne_eqb _ 1 f)

-- three lines, four and three are ten
ten : {a k m n : List ℕ} (b c d e f g h i : List ℕ) → a ≡ m → k ≡ n
    → (a ++ b ++ c) ++ (k ++ d ++ e ++ f) ++ (g ++ h ++ i) ≡ m ++ b ++ c ++ n ++ d ++ e ++ f ++ g ++ h ++ i
ten b c d e f g h i p q = rw (p, q) (simp append_assoc)

maps : (layout : Layout) → Sound layout
    → (sector_count layout ≡ Ok (layout.data_size / 512))
    × (host_sector layout 0 ≡ Ok (layout.data_start / 512))
    × (host_sector layout (layout.data_size / 512 - 1) ≡ Ok (layout.data_start / 512 + (layout.data_size / 512 - 1)))
maps layout s =
    let map = (maps_exactly layout).sound s in
    let some : 0 < layout.data_size / 512 = omega (arith, s.area.at_least) in
    (map.count, map.there 0 some ∙ ap Ok (omega arith), map.there (layout.data_size / 512 - 1) (omega arith))

pub prints_lines : PrintsLines
unfolding layout_lines header_lines area_lines sector_lines number_line text_line sectors first_sector last_sector refusal_line
prints_lines =
    record {
      lines = λ layout mark kind m k.
          ten (number_line (ascii "version") layout.version) (number_line (ascii "needs") layout.min_program_version)
          (number_line (ascii "host") layout.host_size) (number_line (ascii "start") layout.data_start)
          (number_line (ascii "size") layout.data_size) (number_line (ascii "sectors") (sectors layout))
          (number_line (ascii "first") (first_sector layout)) (number_line (ascii "last") (last_sector layout))
          (mark_line m) (kind_line_lem k);
      mapped = maps;
      refusal = λ number. refl;
      decimals = is_decimal;
      printed = λ text before after count r. rw (r.content, r.counts) (take-append_seam text (drop (length text) before));
      untouched = λ text before after count r. rw (r.content, r.counts) (drop-append_seam text (drop (length text) before));
    }
