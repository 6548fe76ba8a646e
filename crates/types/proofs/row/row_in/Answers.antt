use mathlib.Core.Path.{refl}
use Rattle.jer.specs.Table.{field}
use Rattle.types.proofs.RowLaws.{row-of}
use Rattle.types.proofs.RowLaws.{field-zero}
use Rattle.types.proofs.row.row_in.Goals as goal

pub returns : goal.returns
unfolding field
returns c =
    let a = c.args in
    λ ns. row-of a.rows.now ns a.r (field-zero a.rows.now ns a.r) refl refl refl refl
