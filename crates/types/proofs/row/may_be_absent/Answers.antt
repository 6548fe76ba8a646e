use Rattle.types.proofs.RowLaws.{may_be_absent_lem}
use Rattle.types.proofs.row.may_be_absent.Goals as goal

pub returns : goal.returns
returns c =
    let a = c.args in
    λ ns. may_be_absent_lem a.rows.now ns a.r a.i (c.optional.ensures _ _ _ (c.member_at.ensures ns))
    (c.root_of.ensures ns)
