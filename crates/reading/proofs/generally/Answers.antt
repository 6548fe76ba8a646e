use mathlib.Core.Path.{sym, ◌∙◌}
use Rattle.std.proofs.lemmas.Result.{err_from_is_err_and}
use Rattle.jer.specs.Table.{table}
use Rattle.reading.proofs.ReadLaws.{bad-text, refuses, tell}
use Rattle.reading.proofs.generally.Goals as goal

pub measured-requires : goal.measured-requires
measured-requires c = (c.requires, sym c.in_ok-check.was ∙ c.check.ensures)

pub returns-in_err-check : goal.returns-in_err-check
returns-in_err-check c =
    let tab = table c.args.types.now c.args.names.now in
    let p = err_from_is_err_and c.from_residual.result c.from_residual.ensures.1 in
    rw (p.1, p.2) (tell (refuses tab c.args.rows.now c.args.pool.now (bad-text tab c.args.s.now c.requires (sym c.in_err-check.was ∙ c.check.ensures))))

pub returns : goal.returns
returns c = c.measured.ensures
