use Rattle.std.proofs.Common.{rules, ℕ, refl, arith, ◌∙◌, not}
use Rattle.std.proofs.lemmas.Iterator.{YieldsList-from_range}
use Rattle.std.proofs.lemmas.Iterator.Search.{all_from_yields_List}
use Rattle.jer.specs.Table.{table, type_at, token_of, same_token}
use Rattle.types.specs.Check.{token_is_new}
use Rattle.types.proofs.LoopLaws.{every-list}
use Rattle.types.proofs.members.new_token.Goals as goal

pub returns : goal.returns
unfolding token_is_new
returns c = λ ns.
    let a = c.args in
    let t = table a.rows.now ns in
    let due = c.token_of-due.ensures ns in
    let at = c.type_at.ensures ns in
    let test = λ (i : ℕ). not (same_token (token_of t (type_at t a.r i)) (token_of t (type_at t a.r a.j))) in
    all_from_yields_List test _ _ c.all.result c.all.ensures.ran (YieldsList-from_range 0 a.j a.j refl (omega arith)) (λ x b q k. search rules) ∙ every-list test 0 a.j
