use Rattle.jer.specs.Table.{table}
use Rattle.types.proofs.SureMembers.{SoFar}
use Rattle.types.proofs.sure.sure_members.Given as goal

abbrev pub invariant-loop-j : goal.invariant-loop-j
invariant-loop-j l = SoFar (table l.rows l.names) l.first l.marks l.types l.seen l.j
