use Rattle.jer.specs.Table.{table}
use Rattle.leaf.proofs.StoreLaws.{stepped}
use Rattle.leaf.proofs.LeafLaws.{string-item}
use Rattle.leaf.proofs.strings.string.Goals as goal

pub returns-in-2 : goal.returns-in-2
returns-in-2 c =
    let a = c.args in
    let ns = a.names.now in
    stepped (string-item (table a.types.now ns) a.s.now a.row a.place (c.kind_of-kind.ensures ns) c.in-2.is) (c.item.ensures a.pool.now a.offset)
