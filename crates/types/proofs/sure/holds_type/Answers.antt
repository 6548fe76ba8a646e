use mathlib.Core.Path.{◌∙◌}
use Rattle.types.proofs.SureLaws.{type-told}
use Rattle.types.proofs.sure.holds_type.Goals as goal

pub returns : goal.returns
returns c =
    let a = c.args in
    λ ns. c.type_kind.ensures ∙ type-told a.rows.now ns a.r
