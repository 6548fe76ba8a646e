use Rattle.spelled.specs.Stretch.{Stretch, Selves}
use Rattle.spelled.proofs.plain.Flags.run_short.Given as goal

abbrev pub invariant-loop-i : goal.invariant-loop-i
invariant-loop-i l = Stretch Selves l.s l.p l.i
