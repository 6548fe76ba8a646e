use mathlib.Core.Path.{refl}
use Rattle.jer.specs.Judge.{rows_in}
use Rattle.jer.specs.Write.{write}
use Rattle.written.specs.Text.{type_table}
use Rattle.written.proofs.TextLaws.{value-got, value-wrong}
use native.Mathlib.Omega.{arith}
use Rattle.writing.proofs.CallLaws.{copied, front-few, answers_as, refuses, too_long, too_small, written, value-bad, left_over, all-taken, end_of, stored-again}
use Rattle.std.proofs.lemmas.Result.{err_from_is_err_and}
use Rattle.writing.proofs.through.Goals as goal

pub returns-then-not-rows-tables : goal.returns-then-not-rows-tables
returns-then-not-rows-tables c =
    let a = c.args in
    let t = type_table a.tables.now in
    let v = value-got (rows_in a.tables.now.values.now) refl 0 c.value.ensures c.in_ok-took.was in
    refuses a.text.now (left_over t a.tables.now.values.now a.tables.now.pool.now v c.if-not-rows-tables.true)

pub returns-then-end-gt-TEXT : goal.returns-then-end-gt-TEXT
returns-then-end-gt-TEXT c =
    let a = c.args in
    let t = type_table a.tables.now in
    let v = value-got (rows_in a.tables.now.values.now) refl 0 c.value.ensures c.in_ok-took.was in
    answers_as (all-taken t a.tables.now.values.now a.tables.now.pool.now v c.if-not-rows-tables.false) (too_long a.text.now (write v.what t 0) (end_of v.puts) c.if-end-gt-TEXT.true)

pub returns-then-text-end : goal.returns-then-text-end
returns-then-text-end c =
    let a = c.args in
    let t = type_table a.tables.now in
    let v = value-got (rows_in a.tables.now.values.now) refl 0 c.value.ensures c.in_ok-took.was in
    answers_as (all-taken t a.tables.now.values.now a.tables.now.pool.now v c.if-not-rows-tables.false) (too_small a.text.now (write v.what t 0) (end_of v.puts) c.if-end-gt-TEXT.false c.if-text-end.true)

pub copy-requires : goal.copy-requires
copy-requires c = omega (arith, front-few c.in_ok-took.took.end c.value.new.text c.part.ensures, c.if-text-end.false)

pub returns-then-end-room : goal.returns-then-end-room
returns-then-end-room c =
    let a = c.args in
    let t = type_table a.tables.now in
    let v = value-got (rows_in a.tables.now.values.now) refl 0 c.value.ensures c.in_ok-took.was in
    let e = end_of v.puts in
    answers_as (all-taken t a.tables.now.values.now a.tables.now.pool.now v c.if-not-rows-tables.false)
    (written a.text.now (write v.what t 0) e c.if-end-gt-TEXT.false c.if-text-end.false (copied a.text.now v.puts c.if-end-gt-TEXT.false (omega (arith, c.if-end-room.true, c.value.auto.text)) c.part.ensures c.copy.ensures))

pub returns-in_err-took : goal.returns-in_err-took
returns-in_err-took c =
    let a = c.args in
    let t = type_table a.tables.now in
    let p = err_from_is_err_and c.from_residual.result c.from_residual.ensures.1 in
    rw (p.1, p.2) (refuses a.text.now (value-bad t a.tables.now.values.now a.tables.now.pool.now (value-wrong (rows_in a.tables.now.values.now) refl 0 c.value.ensures c.in_err-took.was)))

pub returns : goal.returns
returns c =
    let a = c.args in
    let t = type_table a.tables.now in
    let v = value-got (rows_in a.tables.now.values.now) refl 0 c.value.ensures c.in_ok-took.was in
    let e = end_of v.puts in
    answers_as (all-taken t a.tables.now.values.now a.tables.now.pool.now v c.if-not-rows-tables.false) (written a.text.now (write v.what t 0) e c.if-end-gt-TEXT.false c.if-text-end.false (stored-again t a.tables.now.values.now a.tables.now.pool.now v c.value-2.ensures e c.if-end-gt-TEXT.false))
