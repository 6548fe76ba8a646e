use Rattle.jer.specs.Table.{table}
use Rattle.types.proofs.RowLaws.{kind-of}
use Rattle.written.proofs.RowLaws.{null-row, null-none}
use Rattle.written.proofs.tables.Tables.null_at.Goals as goal

pub returns-in-Some : goal.returns-in-Some
returns-in-Some c =
    let a = c.args in
    let found = rw c.in-Some.is at c.row_at.ensures in
    let type = c.at-row.ensures in
    λ ns. null-row (table a.self.now.types.now ns) a.r found.0 (kind-of _ a.r (type ns)) (c.is_unwrapped.ensures _ _ (type ns)) (c.kind_of-chosen.ensures ns) (c.type_at.ensures ns)

pub returns-in-None : goal.returns-in-None
returns-in-None c =
    let a = c.args in
    let found = rw c.in-None.is at c.row_at.ensures in
    λ ns. null-none (table a.self.now.types.now ns) a.r found
