use Rattle.std.proofs.Common.{◌∙◌, ap, not}
use Rattle.std.proofs.lemmas.Result.{err_from_is_err_and}
use Rattle.jer.specs.Table.{table}
use Rattle.types.specs.Check.{row_judged}
use Rattle.types.proofs.CheckLaws.{alone-all, check_sizes, check_alone, check_sure, check_pointers, check_rules}
use Rattle.types.proofs.check.Goals as goal

pub returns-then-not-good_sizes : goal.returns-then-not-good_sizes
returns-then-not-good_sizes c = c.judged.ensures ∙ check_sizes (table c.args.rows.now c.args.names.now) c.good_sizes.ensures (ap not c.if-not-good_sizes.true)

pub sure-requires : goal.sure-requires
sure-requires c = alone-all (table c.args.rows.now c.args.names.now) (c.judged-2.ensures ∙ ap row_judged c.bad_alone.ensures) c.in_ok-judged.was

pub returns-in_err-judged : goal.returns-in_err-judged
returns-in_err-judged c =
    let p = err_from_is_err_and c.from_residual.result c.from_residual.ensures.1 in
    let t = table c.args.rows.now c.args.names.now in
    rw (p.1, p.2) (check_alone t c.good_sizes.ensures (ap not c.if-not-good_sizes.false) (c.judged-2.ensures ∙ ap row_judged c.bad_alone.ensures) c.in_err-judged.was)

pub returns-then-sure : goal.returns-then-sure
returns-then-sure c =
    let t = table c.args.rows.now c.args.names.now in
    check_sure t c.good_sizes.ensures (ap not c.if-not-good_sizes.false) (c.judged-2.ensures ∙ ap row_judged c.bad_alone.ensures) c.in_ok-judged.was (c.sure.ensures c.if-sure.true)

pub returns-in_err-judged-2 : goal.returns-in_err-judged-2
returns-in_err-judged-2 c =
    let r = c.from_residual-in_err-judged-2 in
    let p = err_from_is_err_and r.result r.ensures.1 in
    let t = table c.args.rows.now c.args.names.now in
    rw (p.1, p.2) (check_pointers t c.good_sizes.ensures (ap not c.if-not-good_sizes.false) (c.judged-2.ensures ∙ ap row_judged c.bad_alone.ensures) c.in_ok-judged.was (c.judged-3.ensures ∙ ap row_judged c.bad_pointers.ensures) c.in_err-judged-2.was)

pub returns : goal.returns
returns c =
    let t = table c.args.rows.now c.args.names.now in
    check_rules t c.good_sizes.ensures (ap not c.if-not-good_sizes.false) (c.judged-2.ensures ∙ ap row_judged c.bad_alone.ensures) c.in_ok-judged.was (c.judged-3.ensures ∙ ap row_judged c.bad_pointers.ensures) c.in_ok-judged-2.was (c.judged-4.ensures ∙ ap row_judged c.bad_rules.ensures)
