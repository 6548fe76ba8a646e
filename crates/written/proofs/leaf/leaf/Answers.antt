use Rattle.written.specs.Text.{type_table}
use Rattle.written.proofs.LeafLaws.{bool_ends, int-ends, enum_ends, null-ends}
use Rattle.written.proofs.leaf.leaf.Goals as goal
use Rattle.written.proofs.leaf.leaf.Goals.{in-0, in-1, in-2, in-3}

pub returns : goal.returns
returns c =
    let a = c.args in
    let w = a.w in
    let t = type_table a.tables.now in
    λ i ws. elim c.match-w.branch [
      | in-0 v ↦ rw v.text-is (bool_ends i t a.tables.now.pool.now a.row w.a w.b w.size ws a.slot a.offset c.requires.0 v.in-0.is v.put_bool.ensures (rw v.good-is at c.ended.ensures))
      | in-1 v ↦ rw v.text-is (int-ends i t a.tables.now.pool.now a.row w.a w.b w.size ws a.slot a.offset c.requires.0 v.in-1.is v.put_integer.ensures (rw v.good-is at c.ended.ensures))
      | in-2 v ↦ rw v.text-is (enum_ends i t a.tables.now.pool.now a.row w.a w.b w.size ws a.slot a.offset c.requires.0 v.in-2.is (v.count_of.ensures a.tables.now.names.now) v.name_at-name.ensures v.put_chars.ensures.puts (rw v.good-is at c.ended.ensures))
      | in-3 v ↦ rw v.text-is (null-ends i t a.tables.now.pool.now a.row w.a w.b w.size ws a.slot a.offset c.requires.0 v.in-3.is v.put_null.ensures (rw v.good-is at c.ended.ensures))
    ]
