use lib.ListN.{drop}
use Rattle.jer.specs.Octets.{hex}
use Rattle.octets.proofs.PutLaws.{Putting}
use Rattle.octets.proofs.encode.put_hex.Given as goal

abbrev pub invariant-loop-b : goal.invariant-loop-b
invariant-loop-b l = Putting (hex l.octets) (hex (drop l.b-index l.octets)) l.initial.text l.text l.k l.n
