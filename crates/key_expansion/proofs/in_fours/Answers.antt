-- `key_expansion::in_fours` meets its contract.
use Rattle.std.proofs.Common.{rules, ◌≡◌, length, ◌∙◌}
use Rattle.aes_words.proofs.FoursLaws.{cut_in_fours}
use Rattle.key_expansion.proofs.in_fours.Goals as goal

pub returns : goal.returns
returns c =
    let whole : length c.args.words ≡ 60 = search rules in
    c.copy_from_slice.ensures.after ∙ c.as_chunks.ensures.front ∙ cut_in_fours 15 c.args.words whole
