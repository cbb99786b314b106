-- `judgement::Call::judge_read` asks for whole sectors of the disk only past the test of the layout.
use mathlib.Core.{Path.{sym, ◌∙◌}}
use Rattle.protection.specs.Protection.{protection_rule, sound_protection}
use Rattle.layout.specs.Rules.{sound}
use Rattle.layout.proofs.RuleLaws.{and_true_left, sound_sector_size}
use Rattle.judgement.proofs.Call.judge_read.Goals as goal

pub is_aligned-requires : goal.is_aligned-requires
unfolding sound_protection
is_aligned-requires c =
    let a = c.args.self in
    sound_sector_size a.layout
    (and_true_left (sound a.layout) (protection_rule a.layout a.protection) (sym c.is_sound.ensures ∙ c.if-not-is_sound.false))
