-- A row of the type table as the code holds it.
use Rattle.std.specs.Prelude.{ℕ}
use Rattle.jer.specs.Table.{Table, tag_of, marks_of, first_of, count_of, root_of}
use Rattle.types.specs.declared.row.Row.{Row}

-- the row r of a table, by the accessors of `jer`; a member's row has its type row, and its name's start and length, in fields 2 to 4
abbrev pub row_of : Table → ℕ → Row
row_of t r = record { kind = tag_of t r; marks = marks_of t r; first = first_of t r; members = count_of t r; root = root_of t r }
