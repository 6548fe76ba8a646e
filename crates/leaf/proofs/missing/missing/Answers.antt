use mathlib.Core.Path.{sym, ◌∙◌}
use Rattle.jer.specs.Table.{table}
use Rattle.leaf.proofs.LeafLaws.{missing-two}
use Rattle.leaf.proofs.missing.missing.Goals as goal

pub returns-in-Some : goal.returns-in-Some
returns-in-Some c =
    let a = c.args in
    let m = c.type_at-m in
    let w = c.at-w in
    λ ns pool o. missing-two a.row a.place a.member a.next (m.ensures ns) (sym (c.is_unwrapped.ensures (table a.types.now ns) m.result (w.ensures ns)) ∙ c.if-is_unwrapped.true) (sym (c.alternative.ensures ns) ∙ c.in-Some.is) (w.ensures ns) (c.type_at.ensures ns) (c.kind_of.ensures ns) c.put_row.ensures c.put_row-in-Some.ensures c.read.ensures
