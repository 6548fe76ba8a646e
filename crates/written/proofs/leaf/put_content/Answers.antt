use Rattle.written.specs.Text.{type_table}
use Rattle.written.proofs.LeafLaws.{chars-text}
use Rattle.written.proofs.leaf.put_content.Goals as goal

pub returns-then-chars-clause-puts : goal.returns-then-chars-clause-puts
returns-then-chars-clause-puts c =
    let a = c.args in
    λ y. chars-text (type_table a.tables.now) a.row a.s.now y c.if-kind-eq-UTF8_STRING.true c.put_chars-chars.ensures.puts

pub returns-else-chars-clause-puts : goal.returns-else-chars-clause-puts
returns-else-chars-clause-puts c =
    let a = c.args in
    λ y. chars-text (type_table a.tables.now) a.row a.s.now y c.if-kind-eq-UTF8_STRING.true c.put_chars-chars.ensures.puts
