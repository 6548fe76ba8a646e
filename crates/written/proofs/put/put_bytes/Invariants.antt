use mathlib.Core.Path.{◌≡◌}
use lib.ListN.{length, take}
use Rattle.written.specs.Text.{Puts}
use Rattle.written.proofs.put.put_bytes.Given as goal

abbrev pub invariant-loop-b : goal.invariant-loop-b
invariant-loop-b l = (length l.text ≡ length l.initial.text) × Puts (take l.b-index l.s) l.k l.initial.text l.text l.p
