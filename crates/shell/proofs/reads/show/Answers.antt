use native.Mathlib.Omega.{arith}
use Rattle.jer.specs.Programs.{read_shown}
use Rattle.jer.specs.Table.{table}
use Rattle.lines.proofs.ShownLaws.{shown_as}
use Rattle.shell.proofs.AnswerLaws.{reading_shown}
use Rattle.shell.proofs.reads.show.Goals as goal

pub returns : goal.returns
unfolding read_shown
returns c =
    let a = c.args in
    shown_as a.out.now 0 (reading_shown (table a.types.now a.names.now) _ _ (omega arith) (omega arith) a.text.now c.read-r.ensures) c.put_reading.ensures
