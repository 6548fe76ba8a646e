use mathlib.Core.Path.{◌≡◌}
use lib.ListN.{drop}
use Rattle.jer.specs.Calls.{text_judged}
use Rattle.text.specs.Outline.{judged_from}
use Rattle.text.proofs.check.Given as goal

abbrev pub invariant-loop-at : goal.invariant-loop-at
invariant-loop-at l = judged_from l.at l.state (drop l.at l.s) ≡ text_judged l.s
