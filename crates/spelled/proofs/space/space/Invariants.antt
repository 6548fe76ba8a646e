use Rattle.json_text.specs.Grammar.{Space}
use Rattle.spelled.specs.Stretch.{Stretch}
use Rattle.spelled.proofs.space.space.Given as goal

abbrev pub invariant-loop-i : goal.invariant-loop-i
invariant-loop-i l = Stretch Space l.s l.p l.i
