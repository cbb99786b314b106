use Rattle.std.proofs.Common.{rules, arith, ℕ, ◌≡◌, ◌-◌, refl, ap, ◌∙◌}
use Rattle.aes_words.specs.Words.{Words}
use Rattle.aes_steps.specs.Blocks.{inv_sub_bytes, inv_shift_rows, add_round_key}
use Rattle.aes.specs.Cipher.{round_key, inv_rounds, inv_cipher}
use Rattle.aes.proofs.RoundLaws.{after_inv_round}
use Rattle.aes.proofs.decipher_block.Goals as goal

pub loop-r-init : goal.loop-r-init
loop-r-init c = (search rules, λ tables. refl)

pub loop-r-preserved : goal.loop-r-preserved
unfolding round_key
loop-r-preserved c =
    let loop = c.loop-r in
    (search rules, λ tables. after_inv_round _ (loop.r - 1) _ _ (omega arith) (c.inv_round-after.ensures tables) ∙ loop.invariant.1 tables)

pub returns : goal.returns
unfolding inv_cipher inv_rounds round_key
returns c tables =
    let keys = c.args.keys in
    let last : 0 ≡ c.loop-r.r - 1 = omega arith in
    c.last_inv_round.ensures tables
    ∙ ap (λ (s : Words). add_round_key (round_key keys 0) (inv_sub_bytes (inv_shift_rows s)))
    (ap (λ (n : ℕ). inv_rounds keys n c.loop-r.state) last ∙ c.loop-r.invariant.1 tables ∙ ap (inv_rounds keys 13) c.add_round_key-state.ensures)
