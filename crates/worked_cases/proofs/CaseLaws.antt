-- The worked cases hold: antt computes both sides.
-- Assumes nothing.
use mathlib.Core.{Path.{◌≡◌, refl}, List.◌++◌}
use Rattle.bits.specs.Cases.{Right}
use Rattle.bits.proofs.CaseLaws.{join}
use Rattle.numbers.specs.Numbers.{little_endian_bytes}
use Rattle.layout.specs.Rules.{multiple, host_size_rule, sector_size_rule, place_rule, sectors_rule, data_area_rule, sound}
use Rattle.sector_map.specs.SectorMap.{sectors, first_sector, host_sector, user_sector}
use Rattle.tweaks.specs.Tweaks.{tweak_number, block_of, tweak_of}
use Rattle.judgement.specs.Judging.{alignment_rule, blocked_by, end_answer, checked, lock_answer, read_answer, write_answer}
use Rattle.answers.specs.Answers.{answer_sector, locked_after, refusal_number}
use Rattle.extent.specs.Extents.{has, larger, overlap, beyond}
use Rattle.protection.specs.Protection.{area_end, protection_rule, sound_protection, protected_extent}
use Rattle.pairing.specs.Pairs.{nests, paired}
use Rattle.view.specs.Outcomes.{after}
use Rattle.making.specs.Views.{plain_of, protected_of, made_by, plain_view, protected_view}
use Rattle.map_output.specs.Decimal.{digits, decimal}
use Rattle.map_output.specs.MapOutput.{text_line, number_line, either_line, magic_line, kind_line, header_lines, area_lines, sector_lines, last_sector, layout_lines}
use Rattle.header_claims.specs.MapProgram.{letters}
use Rattle.worked_headers.specs.Openings.{opening_cases}
use Rattle.worked_headers.proofs.OpeningRows.{opening_rows}
use Rattle.worked_sectors.specs.SectorSizes.{sector_size_cases}
use Rattle.worked_sectors.proofs.SectorSizeRows.{sector_size_rows}
use Rattle.worked_cipher.specs.Units.{cipher_cases}
use Rattle.worked_cipher.proofs.UnitRows.{cipher_rows}
use Rattle.worked_cases.specs.WorkedCases.{volume, volume_m, volume_n, large_m, mapped_told, tweak_told, sector_told, on_view, writing_from, writing}
use Rattle.worked_cases.specs.WorkedCases.{reading, leaving, map_cases, access_cases, cases, AsWorked}

map_rows : Right map_cases
unfolding map_cases volume volume_m volume_n mapped_told tweak_told host_sector user_sector tweak_number tweak_of block_of sectors first_sector
    sound host_size_rule sector_size_rule data_area_rule sectors_rule multiple place_rule little_endian_bytes
map_rows = refl

access_rows : Right access_cases
unfolding access_cases volume volume_m volume_n large_m on_view writing_from writing reading leaving plain_view protected_view plain_of protected_of
    sound host_size_rule sector_size_rule data_area_rule sectors_rule multiple place_rule nests area_end protection_rule sound_protection protected_extent paired
    made_by sectors blocked_by end_answer alignment_rule checked lock_answer read_answer write_answer locked_after after
    refusal_number answer_sector sector_told has larger overlap beyond
access_rows = refl

table : Right cases
unfolding cases
table =
    join opening_cases (sector_size_cases ++ (map_cases ++ (access_cases ++ cipher_cases))) opening_rows
    (join sector_size_cases (map_cases ++ (access_cases ++ cipher_cases)) sector_size_rows
    (join map_cases (access_cases ++ cipher_cases) map_rows (join access_cases cipher_cases access_rows cipher_rows)))

output : layout_lines volume_m
    ≡ letters "mark TRUE\nversion 5\nneeds 1792\nkind standard\nhost 1048576\nstart 131072\nsize 786432\nsectors 1536\nfirst 256\nlast 1791\n"
unfolding layout_lines header_lines area_lines sector_lines magic_line kind_line either_line number_line text_line
    decimal digits sectors first_sector last_sector volume volume_m
output = refl

pub as_worked : AsWorked
as_worked = record { table = table; output = output }
