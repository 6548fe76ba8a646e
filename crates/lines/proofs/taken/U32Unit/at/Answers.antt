use mathlib.Core.Path.{◌∙◌}
use native.Mathlib.Omega.{arith}
use Rattle.lines.proofs.TakenLaws.{number-here}
use Rattle.lines.proofs.taken.U32Unit.at.Goals as goal

pub returns : goal.returns
returns c = λ d. c.number.ensures ∙ number-here c.args.line.now c.args.k d (omega arith)
