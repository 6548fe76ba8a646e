use Rattle.std.proofs.Common.{rules, ℕ, refl, arith, sym, ◌∙◌, ◌≡◌, ◌+◌}
use lib.ListN.{take, drop}
use Rattle.std.proofs.lemmas.Iterator.{YieldsList-from_range}
use Rattle.std.proofs.lemmas.Iterator.Search.{find_from_yields_List}
use Rattle.jer.specs.Table.{table, name_in, same_bytes}
use Rattle.types.proofs.LoopLaws.{map-same}
use Rattle.spelled.proofs.NameLaws.{among-found}
use Rattle.spelled.proofs.names.search.Goals as goal

pub returns : goal.returns
returns c =
    let a = c.args in
    let t = table a.types.now a.names.now in
    let x = take a.n (drop a.p a.s.now) in
    let test = λ (k : ℕ). same_bytes (name_in t (a.first + k)) x in
    let e = sym (map-same c.find.result) ∙ find_from_yields_List test _ _ c.find.result c.find.ensures.ran (YieldsList-from_range 0 a.count a.count refl (omega arith)) (λ x b q k. search rules) in
    let f : 0 + a.count ≡ a.count = omega arith in
    rw e (rw f at (among-found t a.first x 0 a.count (λ j l. absurd (omega arith))))
