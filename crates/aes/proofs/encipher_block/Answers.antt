use Rattle.std.proofs.Common.{arith, ◌≡◌, ◌-◌, refl, ap, ap₂, ◌∙◌}
use Rattle.aes_words.specs.Words.{Words}
use Rattle.aes_steps.specs.Blocks.{sub_bytes, shift_rows, add_round_key}
use Rattle.aes.specs.Cipher.{round_key, rounds, cipher}
use Rattle.aes.proofs.RoundLaws.{after_round}
use Rattle.aes.proofs.encipher_block.Goals as goal

pub loop-r-init : goal.loop-r-init
unfolding rounds
loop-r-init c = λ tables. refl

pub loop-r-preserved : goal.loop-r-preserved
unfolding round_key
loop-r-preserved c =
    let loop = c.loop-r in
    λ tables. c.round-after.ensures tables ∙ after_round _ loop.r _ _ (omega arith) (loop.invariant tables)

pub returns : goal.returns
unfolding cipher round_key
returns c tables =
    let keys = c.args.keys in
    let last : c.loop-r.r - 1 ≡ 13 = omega arith in
    c.last_round.ensures tables
    ∙ ap (λ (s : Words). add_round_key (round_key keys 14) (shift_rows (sub_bytes s)))
    (c.loop-r.invariant tables ∙ ap₂ (rounds keys) last c.add_round_key-state.ensures)
