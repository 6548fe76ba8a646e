use Rattle.jer.specs.Table.{table}
use Rattle.written.proofs.RowLaws.{never, absent-row, absent-other, absent_none}
use Rattle.written.proofs.rows.absent_at.Goals as goal

pub returns-then-w-ne-ABSENT : goal.returns-then-w-ne-ABSENT
returns-then-w-ne-ABSENT c =
    let a = c.args in
    let found = rw c.in-Some.is at c.row_at.ensures in
    record { by_index = (λ ns. absent-other (table a.types.now ns) a.r a.i found.0 c.if-w-ne-ABSENT.true); q_bound = never }

pub returns-else-w-ne-ABSENT : goal.returns-else-w-ne-ABSENT
returns-else-w-ne-ABSENT c =
    let a = c.args in
    let found = rw c.in-Some.is at c.row_at.ensures in
    record { by_index = (λ ns. absent-row (table a.types.now ns) a.r a.i found.0 (c.may_be_absent.ensures ns) c.is_absent.ensures); q_bound = λ _. found.2 }

pub returns-in-None : goal.returns-in-None
returns-in-None c =
    let a = c.args in
    let found = rw c.in-None.is at c.row_at.ensures in
    record { by_index = (λ ns. absent_none (table a.types.now ns) a.r a.i found); q_bound = never }
