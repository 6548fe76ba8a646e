use mathlib.Core.Path.{ap, ◌∙◌}
use Rattle.std.specs.Prelude.{is_some}
use Rattle.jer.specs.declared.Carried.{Carried}
use Rattle.jer.specs.Table.{type_kind}
use Rattle.types.proofs.row.Row.type_kind.Goals as goal

pub returns : goal.returns
unfolding type_kind
returns c = c.is_some.ensures ∙ ap (λ (x : Carried). is_some x.token) c.carries.ensures
