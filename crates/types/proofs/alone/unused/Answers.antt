use Rattle.std.proofs.Common.{rules, ◌-◌, refl, arith, ◌∙◌}
use Rattle.std.proofs.lemmas.Iterator.{YieldsList-from_range}
use Rattle.std.proofs.lemmas.Iterator.Search.{all_from_yields_List}
use Rattle.jer.specs.Table.{field, table}
use Rattle.jer.specs.Valid.{unused}
use Rattle.types.proofs.LoopLaws.{every-list}
use Rattle.types.proofs.AloneLaws.{zero-at}
use Rattle.types.proofs.alone.unused.Goals as goal

pub returns : goal.returns
unfolding unused field
returns c = λ ns.
    let a = c.args in
    let n = 8 - a.from in
    let test = zero-at (table a.rows.now ns) a.r in
    all_from_yields_List test _ _ c.all.result c.all.ensures.ran (YieldsList-from_range a.from 8 n refl (omega (arith, c.requires.1))) (λ x b q k. search rules) ∙ every-list test a.from n
