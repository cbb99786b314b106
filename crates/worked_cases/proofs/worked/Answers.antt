-- `worked_cases::worked` meets its contract.
use Rattle.worked_cases.proofs.CaseLaws.{as_worked}
use Rattle.worked_cases.proofs.worked.Goals as goal

pub returns : goal.returns
returns c = as_worked
