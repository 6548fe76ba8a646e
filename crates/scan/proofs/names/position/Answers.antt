use Rattle.std.proofs.Common.{rules, ◌+◌, refl, arith, sym, ◌∙◌}
use Rattle.std.proofs.lemmas.Iterator.{YieldsList-from_range, serves_from_Range}
use Rattle.std.proofs.lemmas.Iterator.Search.{find_from_yields_List}
use Rattle.jer.specs.Table.{table, count_of, position, name_at, member_row}
use Rattle.tokens.specs.Strings.{denoted}
use Rattle.types.proofs.LoopLaws.{first-list, map-same}
use Rattle.scan.proofs.NameLaws.{named}
use Rattle.scan.proofs.names.position.Goals as goal

pub find-requires-clause-callable : goal.find-requires-clause-callable
find-requires-clause-callable c = serves_from_Range (λ x q k. search rules) (λ x l h. search rules)

pub returns : goal.returns
unfolding position name_at member_row
returns c =
    let a = c.args in
    let t = table a.types.now a.names.now in
    let test = named t a.row (denoted a.s.now (a.q + 1)) in
    let e = c.first_of-first.ensures.0 a.names.now in
    sym (map-same c.find.result)
    ∙ find_from_yields_List test _ _ c.find.result c.find.ensures.ran (YieldsList-from_range 0 c.count_of-count.result (count_of t a.row) refl (omega (arith, c.count_of-count.ensures a.names.now))) (λ x b q k. search rules)
    ∙ first-list test 0 (count_of t a.row)
