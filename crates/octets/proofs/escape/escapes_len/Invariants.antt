use Rattle.octets.proofs.EscapeLaws.{Counting}
use Rattle.octets.proofs.escape.escapes_len.Given as goal

abbrev pub invariant-loop-b : goal.invariant-loop-b
invariant-loop-b l = Counting l.octets l.b-index l.n
