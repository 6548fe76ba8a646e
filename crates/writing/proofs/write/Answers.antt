use mathlib.Core.Path.{sym, ◌∙◌}
use Rattle.std.proofs.lemmas.Result.{err_from_is_err_and}
use Rattle.jer.specs.Table.{table}
use Rattle.writing.proofs.CallLaws.{answers_as, refuses, table-good, table-bad}
use Rattle.writing.proofs.write.Goals as goal

pub write_value-requires : goal.write_value-requires
write_value-requires c =
    let a = c.args in
    let g = table-good {t = table a.types.now a.names.now} {ns = a.values.now} {pool = a.pool.now} (sym c.in_ok-check.was ∙ c.check.ensures) in
    record { good = g.table }

pub returns-in_err-check : goal.returns-in_err-check
returns-in_err-check c =
    let a = c.args in
    let p = err_from_is_err_and c.from_residual.result c.from_residual.ensures.1 in
    let r = refuses a.text.now (table-bad (table a.types.now a.names.now) a.values.now a.pool.now (sym c.in_err-check.was ∙ c.check.ensures)) in
    rw (p.1, p.2) record { answer = r.answer; text_left = r.text }

pub returns : goal.returns
returns c =
    let a = c.args in
    let g = table-good {t = table a.types.now a.names.now} {ns = a.values.now} {pool = a.pool.now} (sym c.in_ok-check.was ∙ c.check.ensures) in
    let r = answers_as g.text c.write_value.ensures in
    record { answer = r.answer; text_left = r.text }
