use Rattle.leaf.proofs.leaf.Goals as goal

pub returns-in-Null : goal.returns-in-Null
returns-in-Null c = let a = c.args in rw c.in-Null.is (c.null.ensures a.names.now a.pool.now a.offset)

pub returns-in-Boolean : goal.returns-in-Boolean
returns-in-Boolean c = let a = c.args in rw c.in-Boolean.is (c.boolean.ensures a.names.now a.pool.now a.offset)

pub returns-in-Number : goal.returns-in-Number
returns-in-Number c = let a = c.args in rw c.in-Number.is (c.number.ensures a.names.now a.pool.now a.offset)
