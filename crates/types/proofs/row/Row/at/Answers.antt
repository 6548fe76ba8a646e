use Rattle.types.proofs.RowLaws.{row-of}
use Rattle.types.proofs.row.Row.at.Goals as goal

pub returns : goal.returns
returns c =
    let a = c.args in
    λ ns. row-of a.rows.now ns a.r (c.field.ensures ns) (c.field-2.ensures ns)
    (c.field-3.ensures ns) (c.field-4.ensures ns) (c.field-5.ensures ns)
