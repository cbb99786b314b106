use Rattle.std.proofs.Common.{rules, arith, ℕ, List, ◌+◌, ◌-◌, ◌*◌, ◌≤◌, ◌++◌, length, take, drop, refl, ap, ap₂, ◌∙◌}
use Rattle.fields.proofs.OverlayLaws.{length_overlay}
use Rattle.aes_words.specs.Words.{Words}
use Rattle.aes_steps.specs.Blocks.{bytes_of}
use Rattle.aes.specs.Cipher.{through_cipher}
use Rattle.xts.specs.Units.{under_tweak, blocks_under, converted_by}
use Rattle.xts.proofs.UnitLaws.{next_block, blocks_done, length_bytes_of}
use Rattle.xts.proofs.conversion.Conversion.convert_unit.Goals as goal

pub loop-i-init : goal.loop-i-init
loop-i-init c = (search rules, refl)

pub loop-i-preserved : goal.loop-i-preserved
loop-i-preserved c =
    let loop = c.loop-i in
    let self = c.args.self.now in
    let through = through_cipher self.direction self.for_data.now in
    let from : List ℕ = c.args.from.now in
    let block = c.under_tweak-block.result in
    let stored = c.store.ensures in
    let fits : 16 * loop.i + length (bytes_of block) ≤ length loop.into = omega (arith, length_bytes_of block, loop.invariant.0) in (
      ap length stored ∙ length_overlay (16 * loop.i) (bytes_of block) loop.into fits ∙ loop.invariant.0,
      ap₂ (λ (bytes : List ℕ) (t : Words). take (16 * (loop.i + 1)) bytes ++ blocks_under through (32 - (loop.i + 1)) t (drop (16 * (loop.i + 1)) from)) stored
          c.times_alpha-next.ensures
          ∙ next_block through loop.i loop.tweak block from loop.into (omega arith) loop.invariant.0
          (c.under_tweak-block.ensures ∙ ap (under_tweak through loop.tweak) c.block_at.ensures)
          ∙ loop.invariant.1,
    )

pub returns : goal.returns
unfolding converted_by
returns c =
    let loop = c.loop-i in
    let self = c.args.self.now in
    let through = through_cipher self.direction self.for_data.now in
    blocks_done through loop.i loop.tweak _ loop.into (omega arith) loop.invariant.0
    ∙ loop.invariant.1
    ∙ ap (λ (t : Words). blocks_under through 32 t c.args.from.now) c.first_tweak-tweak.ensures
