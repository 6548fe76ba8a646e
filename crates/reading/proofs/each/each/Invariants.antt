use Prim.Native.Nat.{◌-◌}
use mathlib.Core.Path.{◌≡◌}
use lib.ListN.{length}
use Rattle.jer.specs.Table.{table}
use Rattle.reading.proofs.EachLaws.{Sofar}
use Rattle.reading.proofs.each.each.Given as goal

abbrev pub invariant-loop-k : goal.invariant-loop-k
invariant-loop-k l = (length l.rows ≡ length l.initial.rows) × (length l.pool ≡ length l.initial.pool) × (length l.tells ≡ length l.initial.tells) × Sofar (table l.types l.names) l.texts l.ends l.initial.rows l.initial.pool l.initial.tells l.k l.from l.n l.m l.rows l.pool l.tells
