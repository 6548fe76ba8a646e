use mathlib.Core.Path.{◌∙◌}
use Rattle.jer.specs.Table.{element_of}
use Rattle.types.proofs.row.element_of.Goals as goal

pub returns : goal.returns
unfolding element_of
returns c = λ ns. c.wide.ensures.0 ∙ c.field.ensures ns
