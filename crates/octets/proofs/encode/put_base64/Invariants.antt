use lib.ListN.{length}
use Rattle.jer.specs.Octets.{base64}
use Rattle.octets.proofs.PutLaws.{Putting}
use Rattle.octets.proofs.encode.put_base64.Given as goal

abbrev pub invariant-loop-left : goal.invariant-loop-left
invariant-loop-left l = Putting (base64 l.octets) (base64 l.left) l.initial.text l.text l.k l.n

abbrev pub decreases-loop-left : goal.decreases-loop-left
decreases-loop-left l = length l.left
