use native.Mathlib.Omega.{arith}
use Rattle.jer.specs.Programs.{write_shown}
use Rattle.jer.specs.Table.{table}
use Rattle.lines.proofs.ShownLaws.{shown_as}
use Rattle.shell.proofs.AnswerLaws.{writing_shown}
use Rattle.shell.proofs.writes.show.Goals as goal

pub returns : goal.returns
unfolding write_shown
returns c =
    let a = c.args in
    shown_as a.out.now 0 (writing_shown _ (table a.types.now a.names.now) (omega arith) a.values.now a.pool.now c.write-w.ensures) c.put_writing.ensures
