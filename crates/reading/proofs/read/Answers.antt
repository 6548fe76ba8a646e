use mathlib.Core.Path.{sym, ◌∙◌}
use Rattle.std.proofs.lemmas.Result.{err_from_is_err_and}
use Rattle.jer.specs.Table.{table}
use Rattle.reading.proofs.ReadLaws.{bad-table, refuses, tell}
use Rattle.reading.proofs.read.Goals as goal

pub read_good-requires : goal.read_good-requires
read_good-requires c = sym c.in_ok-check.was ∙ c.check.ensures

pub returns-in_err-check : goal.returns-in_err-check
returns-in_err-check c =
    let tab = table c.args.types.now c.args.names.now in
    let p = err_from_is_err_and c.from_residual.result c.from_residual.ensures.1 in
    rw (p.1, p.2) (tell (refuses tab c.args.rows.now c.args.pool.now (bad-table tab c.args.s.now (sym c.in_err-check.was ∙ c.check.ensures))))

pub returns : goal.returns
returns c = c.read_good.ensures
