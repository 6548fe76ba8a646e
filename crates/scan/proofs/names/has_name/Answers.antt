use mathlib.Core.Path.{refl, sym}
use Rattle.jer.specs.Table.{name_length, table}
use Rattle.tokens.specs.Strings.{denoted}
use Rattle.scan.proofs.NameLaws.{in-row}
use Rattle.scan.proofs.names.has_name.Goals as goal

pub returns-then-first_differs : goal.returns-then-first_differs
returns-then-first_differs c =
    let a = c.args in
    let ns = a.names.now in
    let differs = c.first_differs.ensures c.if-first_differs.true a.s.now a.p (name_length (table a.types.now ns) a.m) c.requires.1 in
    in-row a.types.now ns a.m (denoted a.s.now a.p) (c.name_start-start.ensures.0 ns) refl (sym differs)

pub returns : goal.returns
returns c =
    let a = c.args in
    let ns = a.names.now in
    in-row a.types.now ns a.m (denoted a.s.now a.p) (c.name_start-start.ensures.0 ns) (c.name_length.ensures.0 ns) c.same.ensures
