use mathlib.Core.Path.{◌≡◌}
use Rattle.tokens.specs.Places.{run_from}
use Rattle.tokens.specs.Enums.{passes}
use Rattle.tokens.proofs.cursor.run.Given as goal

abbrev pub invariant-loop-i : goal.invariant-loop-i
invariant-loop-i l = run_from (passes l.class) l.s l.p ≡ run_from (passes l.class) l.s l.i
