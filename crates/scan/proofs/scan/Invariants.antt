use mathlib.Core.List.{List}
use Prim.Native.Nat.{ℕ}
use lib.ListN.{length}
use Rattle.jer.specs.Table.{table}
use Rattle.std.specs.Prelude.{Result}
use Rattle.places.specs.declared.Scanned.{Scanned}
use Rattle.places.specs.declared.Stopped.{Stopped}
use Rattle.places.specs.ByPlaces.{first_part, scan_at, no_places}
use Rattle.scan.proofs.ScanLaws.{left, Loop}
use Rattle.scan.proofs.scan.Given as goal

-- the whole scan
abbrev pub whole : List ℕ → List ℕ → List ℕ → ℕ → ℕ → ℕ → Result Scanned Stopped
whole types names s row p depth = scan_at depth (table types names) s row (length s) (first_part s 0x7D p) 0 no_places

abbrev pub invariant-loop-next : goal.invariant-loop-next
invariant-loop-next l = Loop l.depth (table l.types l.names) l.s l.row (whole l.types l.names l.s l.row l.p l.depth) l.next l.met l.places

abbrev pub decreases-loop-next : goal.decreases-loop-next
decreases-loop-next l = left l.s l.next
