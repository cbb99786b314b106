-- `key_expansion::key_words` meets its contract.
use Rattle.std.proofs.Common.{rules, ◌≡◌, length, ◌∙◌}
use Rattle.std.proofs.Math.Seq.{take_at}
use Rattle.aes_words.proofs.FoursLaws.{cut_in_fours}
use Rattle.key_expansion.proofs.key_words.Goals as goal

pub returns : goal.returns
returns c =
    let whole : length c.args.key ≡ 32 = search rules in
    let eight : length c.copy_from_slice.new.self ≡ 8 = search rules in
    take_at c.copy_from_slice.new.self _ 8 eight ∙ c.copy_from_slice.ensures.after ∙ c.as_chunks.ensures.front ∙ cut_in_fours 8 c.args.key whole
