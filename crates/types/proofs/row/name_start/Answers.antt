use mathlib.Core.Path.{◌∙◌}
use native.Mathlib.Omega.{arith}
use Rattle.types.proofs.row.name_start.Goals as goal

pub returns : goal.returns
returns c = (λ ns. c.wide.ensures.0 ∙ c.field.ensures ns, omega arith)
