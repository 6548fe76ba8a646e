use Rattle.std.proofs.Common.{◌≡◌, ◌+◌, drop}
use Rattle.std.proofs.lemmas.List.Edits.{sets}
use Rattle.slices.proofs.put_all.Given as goal

abbrev pub invariant-loop-j : goal.invariant-loop-j
invariant-loop-j g l = sets l.s (l.at + l.j) (drop l.j l.x) ≡ sets l.initial.s l.at l.x
