use Rattle.json_text.specs.Grammar.{Onward}
use Rattle.spelled.specs.Stretch.{Stretch}
use Rattle.spelled.proofs.NumberLaws.{Few}
use Rattle.spelled.proofs.integer.digits.Given as goal

abbrev pub invariant-loop-q : goal.invariant-loop-q
invariant-loop-q l = Stretch (Onward l.first l.m) l.s l.p l.q × Few l.m l.p l.q
