-- `xts::blocks::block_at` meets its contract.
use Rattle.std.proofs.Common.{arith, ℕ, List, ◌≡◌, ◌+◌, ◌-◌, take, drop, ap, ◌∙◌}
use Rattle.fields.proofs.OverlayLaws.{part_size}
use Rattle.aes_words.specs.Words.{in_fours}
use Rattle.aes_words.proofs.FoursLaws.{cut_in_fours, fours_of_part}
use Rattle.xts.proofs.blocks.block_at.Goals as goal

pub returns : goal.returns
returns c =
    let bytes : List ℕ = c.args.bytes.now in
    let at = c.args.at in
    let cut : at + 16 - at ≡ 16 = omega arith in
    c.copy_from_slice.ensures.after
    ∙ c.as_chunks.ensures.front
    ∙ cut_in_fours 4 _ (part_size at 16 bytes c.requires)
    ∙ ap (λ (n : ℕ). in_fours 4 (take n (drop at bytes))) cut
    ∙ fours_of_part 4 (drop at bytes)
