-- An answer of reading tells its counts.
use Prim.Native.Nat.{ℕ}
use mathlib.Core.Path.{◌≡◌, ap}
use Rattle.std.specs.Prelude.{Ok, Err}
use Rattle.jer.specs.declared.Counts.{Counts}
use Rattle.jer.specs.Answer.{Reading, read_as}

abbrev counts_in : Reading → Counts
counts_in (Ok c) = c
counts_in (Err e) = record { rows = 0; pool = 0 }

pub same_counts : {n m a b : ℕ} → read_as n m ≡ read_as a b → (n ≡ a) × (m ≡ b)
same_counts e = let f = ap counts_in e in (ap (λ (c : Counts). c.rows) f, ap (λ (c : Counts). c.pool) f)
