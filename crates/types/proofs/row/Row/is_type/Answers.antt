use mathlib.Core.Path.{ap, ◌∙◌}
use Rattle.jer.specs.Table.{type_kind, is_type}
use Rattle.types.proofs.RowLaws.{tag_of_lem}
use Rattle.types.proofs.row.Row.is_type.Goals as goal

pub returns : goal.returns
unfolding is_type
returns c = λ t r e. c.type_kind.ensures ∙ ap type_kind (tag_of_lem t r e)
