-- The value table as the code holds it: a row as a struct, and what stands at a row's number.
use Rattle.std.specs.Prelude.{ℕ, suc, ◌<◌, ◌≡◌, List, [], ◌∷◌, Bool, false, ◌&&◌, ◌||◌, eqb, length, drop}
use Rattle.jer.specs.Table.{Table, NULL, kind_of, is_unwrapped, type_at, may_be_absent}
use Rattle.jer.specs.Rows.{ValueRow, row}
use Rattle.jer.specs.Judge.{is_absent, rows_in}
use Rattle.written.specs.declared.rows.ValueRow.{ValueRow as Cells}
use Rattle.std.specs.Prelude.{Option, Some, None}

abbrev pub value_row : Cells → ValueRow
value_row w = row w.kind w.a w.b w.size

-- the rows from the number q on
abbrev pub rows_from : List ℕ → ℕ → List ValueRow
rows_from ns q = drop q (rows_in ns)

-- what is found at the number q of the table ns
abbrev pub Finds : List ℕ → ℕ → Option Cells → Type 0
Finds ns q (Some w) = (rows_from ns q ≡ value_row w ∷ rows_from ns (suc q)) × (q < length ns) × (q < 18446744073709551615)
Finds ns q None = rows_from ns q ≡ []

-- is the member at i absent, by the rows that are left?
unfoldable pub absent_next : Table → ℕ → ℕ → List ValueRow → Bool
absent_next t r i [] = false
absent_next t r i (w ∷ ws) = may_be_absent t r i && is_absent w

-- is the text of a value of the type at r null, if the rows that are left begin with one?
unfoldable pub null_next : Table → ℕ → List ValueRow → Bool
null_next t r [] = false
null_next t r (w ∷ ws) = eqb (kind_of t r) NULL || (is_unwrapped t r && eqb (kind_of t (type_at t r w.a)) NULL)
