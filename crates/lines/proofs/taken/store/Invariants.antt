use mathlib.Core.Path.{◌≡◌}
use lib.ListN.{drop}
use lib.Seq.{sets}
use Rattle.lines.specs.Taken.{octets_of}
use Rattle.lines.proofs.taken.store.Given as goal

abbrev pub invariant-loop-k : goal.invariant-loop-k
invariant-loop-k g l = sets l.out l.k (drop l.k (g.U.Unit.units (octets_of l.line))) ≡ sets l.initial.out 0 (g.U.Unit.units (octets_of l.line))
