use Rattle.std.proofs.Common.{rules, ℕ, refl, arith, ◌∙◌, not}
use Rattle.std.proofs.lemmas.Iterator.{YieldsList-from_range}
use Rattle.std.proofs.lemmas.Iterator.Search.{all_from_yields_List}
use Rattle.jer.specs.Table.{table, name_at, same_bytes}
use Rattle.types.specs.Check.{name_is_new}
use Rattle.types.proofs.LoopLaws.{every-list}
use Rattle.types.proofs.members.new_name.Goals as goal

pub returns : goal.returns
unfolding name_is_new
returns c =
    let a = c.args in
    let t = table a.rows.now a.names.now in
    let test = λ (i : ℕ). not (same_bytes (name_at t a.r i) (name_at t a.r a.j)) in
    all_from_yields_List test _ _ c.all.result c.all.ensures.ran (YieldsList-from_range 0 a.j a.j refl (omega arith)) (λ x b q k. search rules) ∙ every-list test 0 a.j
