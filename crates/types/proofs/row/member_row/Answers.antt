use Rattle.types.proofs.RowLaws.{member-row}
use Rattle.types.proofs.row.member_row.Goals as goal

pub returns : goal.returns
returns c =
    let a = c.args in
    λ ns. member-row a.rows.now ns a.r a.i (c.first_of.ensures.0 ns) c.wide.ensures.0
