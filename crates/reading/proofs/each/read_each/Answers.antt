use mathlib.Core.Path.{sym, ◌∙◌}
use Rattle.std.proofs.lemmas.Result.{err_from_is_err_and}
use Rattle.jer.specs.Table.{table}
use Rattle.reading.proofs.EachLaws.{each-bad, each-good}
use Rattle.reading.proofs.each.read_each.Goals as goal

pub each-requires : goal.each-requires
each-requires c = sym c.in_ok-check.was ∙ c.check.ensures

pub returns-in_err-check : goal.returns-in_err-check
returns-in_err-check c =
    let a = c.args in
    let t = table a.types.now a.names.now in
    let p = err_from_is_err_and c.from_residual.result c.from_residual.ensures.1 in
    rw (p.1, p.2) (each-bad t a.texts.now a.ends.now a.rows.now a.pool.now a.tells.now (sym c.in_err-check.was ∙ c.check.ensures))

pub returns : goal.returns
returns c =
    let a = c.args in
    let t = table a.types.now a.names.now in
    each-good t a.texts.now a.ends.now a.rows.now a.pool.now a.tells.now (sym c.in_ok-check.was ∙ c.check.ensures) c.each.ensures
