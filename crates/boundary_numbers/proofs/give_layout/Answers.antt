-- `boundary_numbers::give_layout` meets its contract: what is given is the answer in numbers.
use mathlib.Core.Path.{◌≡◌, refl, ◌∙◌}
use borrow.Author.Rules.{rules}
use Rattle.answers.specs.Answers.{refusal_number}
use Rattle.boundary_numbers.specs.BoundaryNumbers.{layout_numbers, opened_left}
use Rattle.boundary_numbers.proofs.MappedLaws.{mapped_refusal, mapped_given}
use Rattle.boundary_numbers.proofs.give_layout.Goals as goal

pub returns : goal.returns
unfolding opened_left
returns c =
    let mapped = c.map.ensures.cases in
    let told : c.give.result ≡ refusal_number c.args.answer =
    c.give.ensures.value ∙ mapped_refusal layout_numbers c.args.answer c.map.result mapped in
    record {
      value = search (rules, told);
      numbers_after = c.give.ensures.place_after
          ∙ mapped_given layout_numbers opened_left c.args.numbers.now (λ value. refl) (λ refusal. refl) c.args.answer c.map.result mapped;
    }
