use Rattle.octets.proofs.IntegerLaws.{CountingDigits}
use Rattle.octets.proofs.integer.digit_count.Given as goal

abbrev pub invariant-loop-m : goal.invariant-loop-m
invariant-loop-m l = CountingDigits l.n l.m l.count

abbrev pub decreases-loop-m : goal.decreases-loop-m
decreases-loop-m l = l.m
