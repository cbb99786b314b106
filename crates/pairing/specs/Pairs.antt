-- A hidden volume in an outer one (RULES.md, Views). What the contract of `check_pair` cites. Assumes nothing.
use Rattle.std.specs.Prelude.{Bool, ◌&&◌, leb, eqb, Ok, ⊤}
use Rattle.answers.specs.Answers.{line, Answer, refuse}
use Rattle.layout.specs.{Rules.{standard, hidden, sound}, declared.Layout.Layout}
use Rattle.protection.specs.Protection.{area_end}

-- a pair nests: a standard layout and a hidden one with the same S and Z, whose data area does not reach out of the first's
unfoldable pub nests : Layout → Layout → Bool
nests outer hidden_layout =
    eqb outer.kind standard && eqb hidden_layout.kind hidden && eqb outer.host_size hidden_layout.host_size
    && eqb outer.sector_size hidden_layout.sector_size
    && leb outer.data_start hidden_layout.data_start && leb (area_end hidden_layout) (area_end outer)

-- whether a hidden volume can be protected in an outer one: both layouts are sound, and then they nest
unfoldable pub paired : Layout → Layout → Answer ⊤
paired outer hidden_layout = line (refuse 11) (sound outer && sound hidden_layout) (line (refuse 12) (nests outer hidden_layout) (Ok tt))
