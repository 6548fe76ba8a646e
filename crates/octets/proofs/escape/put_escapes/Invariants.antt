use lib.ListN.{drop}
use Rattle.jer.specs.Write.{escapes}
use Rattle.octets.proofs.PutLaws.{Putting}
use Rattle.octets.proofs.escape.put_escapes.Given as goal

abbrev pub invariant-loop-b : goal.invariant-loop-b
invariant-loop-b l = Putting (escapes l.octets) (escapes (drop l.b-index l.octets)) l.initial.text l.text l.k l.n
