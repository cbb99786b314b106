-- `view::View::read_extent` meets its contract: where the read finds its bytes, and the same view.
use mathlib.Core.Path.{refl}
use Rattle.view.specs.Outcomes.{read_placed}
use Rattle.view.proofs.View.read_extent.Goals as goal

pub returns : goal.returns
unfolding read_placed
returns c = rw c.read_extent-answer.ensures refl
