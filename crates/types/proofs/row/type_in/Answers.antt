use mathlib.Core.Path.{◌∙◌}
use Rattle.types.proofs.row.type_in.Goals as goal

pub returns : goal.returns
returns c = λ ns. c.wide.ensures.0 ∙ c.field.ensures ns
