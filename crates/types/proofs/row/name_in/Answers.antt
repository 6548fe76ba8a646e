use Rattle.types.proofs.RowLaws.{name_in_lem}
use Rattle.types.proofs.row.name_in.Goals as goal

pub returns : goal.returns
returns c =
    let a = c.args in
    let ns = a.names.now in
    name_in_lem a.rows.now ns a.m (c.name_start.ensures.0 ns) (c.name_length.ensures.0 ns) c.part.ensures
