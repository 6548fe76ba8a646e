use Rattle.written.specs.Text.{type_table}
use Rattle.written.proofs.LeafLaws.{string-ends}
use Rattle.written.proofs.leaf.string.Goals as goal

pub returns : goal.returns
returns c =
    let a = c.args in
    let w = a.w in
    λ i ws. string-ends i (type_table a.tables.now) a.tables.now.pool.now a.row w.a w.b w.size ws a.slot a.offset c.requires.0 c.requires.1 c.requires.2 c.wide-start.ensures.1 c.wide-len.ensures.1
    c.wide-start.ensures.0 c.wide-len.ensures.0 c.part-s.ensures c.put_content-content.ensures.good_value c.add.ensures (c.put_content-content.ensures.puts c.requires.0) c.ended.ensures
