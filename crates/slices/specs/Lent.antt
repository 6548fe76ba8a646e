-- A slice as a contract speaks of it: one that is only read, by what it holds; a lent one, by what it holds when the call begins, and when it ends.
use Rattle.std.specs.Prelude.{List, ℕ}
use Rattle.std.specs.Borrow.{Bor, MutBor}
use denote.Triple.Both.{Both}
use Rattle.jer.specs.Table.{Table, table}

abbrev pub Shown : Type 0
Shown = Both (Bor (List ℕ)) (Bor (List ℕ))

abbrev pub held : Shown → List ℕ
held x = x.entry.now

abbrev pub Lent : Type 0
Lent = Both (MutBor (List ℕ)) (MutBor (List ℕ))

abbrev pub before : Lent → List ℕ
before x = x.entry.now

abbrev pub after : Lent → List ℕ
after x = x.exit.now

-- the type table whose rows and names are shown
abbrev pub table_in : Shown → Shown → Table
table_in types names = table (held types) (held names)
