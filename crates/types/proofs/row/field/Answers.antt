use mathlib.Core.Path.{refl}
use native.Mathlib.Omega.{arith}
use Rattle.jer.specs.Table.{field}
use Rattle.types.proofs.RowLaws.{field_out}
use Rattle.types.proofs.row.field.Goals as goal

pub returns-then-end-r : goal.returns-then-end-r
returns-then-end-r c =
    let a = c.args in
    λ ns. field_out a.rows.now ns a.r a.i (omega arith)

pub returns-then-end-k : goal.returns-then-end-k
returns-then-end-k c =
    let a = c.args in
    λ ns. field_out a.rows.now ns a.r a.i (omega arith)

pub returns : goal.returns
unfolding field
returns c = λ ns. refl
