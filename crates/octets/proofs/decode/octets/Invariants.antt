use Prim.Native.Nat.{◌-◌}
use lib.ListN.{length}
use Rattle.octets.proofs.GroupLaws.{Decoding}
use Rattle.octets.proofs.decode.octets.Given as goal

abbrev pub invariant-loop-x : goal.invariant-loop-x
invariant-loop-x g l = Decoding g.C.Coding.octets l.s l.p l.initial.pool l.j l.pool l.i l.n

abbrev pub decreases-loop-x : goal.decreases-loop-x
decreases-loop-x g l = length l.s - l.i
