use Rattle.jer.specs.Table.{table}
use mathlib.Core.Path.{refl}
use Rattle.written.proofs.RowLaws.{member-name}
use Rattle.written.proofs.PutLaws.{leads-array, leads-object}
use Rattle.written.proofs.tables.Tables.put_lead.Goals as goal

pub returns-then-array : goal.returns-then-array
returns-then-array c = λ types r h. leads-array _ _ _ _ c.if-array.true c.put_nulls-start.ensures c.put_comma.ensures

pub returns : goal.returns
returns c =
    let a = c.args in
    λ types r h. let t = table types a.self.now.names.now in
    leads-object t r a.i a.n c.if-array.false c.put_comma-start.ensures refl
    (member-name t r a.i h c.wide.ensures.0 c.wide-2.ensures.0 c.part-name.ensures) c.put_name.ensures
