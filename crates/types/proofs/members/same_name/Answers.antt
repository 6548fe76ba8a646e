use Rattle.jer.specs.Table.{name_at}
use Rattle.types.proofs.members.same_name.Goals as goal

pub returns : goal.returns
unfolding name_at
returns c =
    let ns = c.args.names.now in
    rw (c.same_bytes.ensures, c.name_in-a.ensures, c.name_in-b.ensures, c.member_row.ensures ns, c.member_row-2.ensures ns)
