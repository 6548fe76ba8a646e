use mathlib.Core.Path.{◌≡◌}
use lib.ListN.{length}
use Rattle.written.specs.Literal.{PutsLiteral}
use Rattle.written.proofs.literal.Literal.put_literal.Given as goal

-- The bytes before j have the mark and are put.
abbrev pub invariant-loop-j : goal.invariant-loop-j
invariant-loop-j l = (length l.text ≡ length l.initial.text) × PutsLiteral l.least l.s l.k l.initial.text l.text l.j
