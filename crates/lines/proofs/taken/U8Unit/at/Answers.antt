use mathlib.Core.Path.{◌∙◌}
use native.Mathlib.Omega.{arith}
use Rattle.lines.proofs.TakenLaws.{octet-here}
use Rattle.lines.proofs.taken.U8Unit.at.Goals as goal

pub returns : goal.returns
returns c = λ d. c.octet.ensures ∙ octet-here c.args.line.now c.args.k d (omega arith)
