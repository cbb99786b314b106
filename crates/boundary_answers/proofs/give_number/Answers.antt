-- `boundary_answers::give_number` meets its contract: what is given is the answer as an array of one number.
use mathlib.Core.{Path.{◌≡◌, refl, ◌∙◌}, List.{[], ◌∷◌}}
use borrow.Author.Rules.{rules}
use Rattle.answers.specs.Answers.{refusal_number}
use Rattle.boundary_answers.specs.BoundaryAnswers.{numbered_left}
use Rattle.boundary_numbers.proofs.MappedLaws.{mapped_refusal, mapped_given}
use Rattle.boundary_answers.proofs.give_number.Goals as goal

pub returns : goal.returns
unfolding numbered_left
returns c =
    let mapped = c.map.ensures.cases in
    let told : c.give.result ≡ refusal_number c.args.answer =
    c.give.ensures.value ∙ mapped_refusal (λ number. number ∷ []) c.args.answer c.map.result mapped in
    record {
      value = search (rules, told);
      place_after = c.give.ensures.place_after
          ∙ mapped_given (λ number. number ∷ []) numbered_left c.args.place.now (λ number. refl) (λ refusal. refl) c.args.answer c.map.result mapped;
    }
