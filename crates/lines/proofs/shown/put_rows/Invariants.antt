use Prim.Native.Nat.{◌-◌}
use Rattle.octets.proofs.PutLaws.{Putting}
use Rattle.lines.specs.Shown.{four_lines}
use Rattle.lines.proofs.shown.put_rows.Given as goal

abbrev pub invariant-loop : goal.invariant-loop
invariant-loop l = Putting (four_lines l.n l.rows) (four_lines (l.n - l.counter) l.left) l.initial.text l.text 0 l.k
