use mathlib.Core.Path.{◌∙◌}
use native.Mathlib.Omega.{arith}
use Rattle.jer.specs.Table.{first_of}
use Rattle.types.proofs.row.first_of.Goals as goal

pub returns : goal.returns
unfolding first_of
returns c = (λ ns. c.wide.ensures.0 ∙ c.field.ensures ns, omega arith)
