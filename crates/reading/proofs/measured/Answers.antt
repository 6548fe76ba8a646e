use mathlib.Core.Path.{refl, ap}
use Rattle.std.specs.Prelude.{Err}
use Rattle.std.proofs.lemmas.Result.{err_from_is_err_and}
use native.Mathlib.Omega.{arith}
use Rattle.jer.specs.Table.{table}
use Rattle.places.specs.ByPlaces.{read_at}
use Rattle.typed.proofs.CycleLaws.{passed, failed, at_place}
use Rattle.reading.proofs.ReadLaws.{given, means-no, means-ok, refuses, few-rows, few_bytes_lem, stored, whole-rows, whole-pool, tell}
use Rattle.reading.proofs.measured.Goals as goal

pub value-requires : goal.value-requires
value-requires c =
    let s = c.args.s.now in
    given (table c.args.types.now c.args.names.now) s c.requires.0 c.requires.1 c.outermost-p.ensures

pub overflow_mul-counts : goal.overflow_mul-counts
overflow_mul-counts c =
    let s = c.args.s.now in
    omega (arith, (passed (at_place (λ q u. read_at 32 (table c.args.types.now c.args.names.now) s q u) refl c.outermost-p.ensures c.value.ensures) c.in_ok-whole.was).few_rows)

pub returns-then-rows-counts : goal.returns-then-rows-counts
returns-then-rows-counts c =
    let s = c.args.s.now in
    let tab = table c.args.types.now c.args.names.now in
    let went = passed (at_place (λ q u. read_at 32 tab s q u) refl c.outermost-p.ensures c.value.ensures) c.in_ok-whole.was in
    tell (few-rows tab (means-ok tab s c.requires.0 c.requires.1 went.took.is) went.took.many went.took.long c.args.rows.now c.args.pool.now (ap Err c.needed.ensures) c.if-rows-counts.true)

pub returns-then-pool-counts : goal.returns-then-pool-counts
returns-then-pool-counts c =
    let s = c.args.s.now in
    let tab = table c.args.types.now c.args.names.now in
    let went = passed (at_place (λ q u. read_at 32 tab s q u) refl c.outermost-p.ensures c.value.ensures) c.in_ok-whole.was in
    tell (few_bytes_lem tab (means-ok tab s c.requires.0 c.requires.1 went.took.is) went.took.many went.took.long c.args.rows.now c.args.pool.now (ap Err c.needed-then-pool-counts.ensures) c.if-rows-counts.false c.if-pool-counts.true)

pub value-requires-2 : goal.value-requires-2
value-requires-2 c =
    let s = c.args.s.now in
    given (table c.args.types.now c.args.names.now) s c.requires.0 c.requires.1 c.outermost-p.ensures

pub returns-in_err-whole : goal.returns-in_err-whole
returns-in_err-whole c =
    let p = err_from_is_err_and c.from_residual.result c.from_residual.ensures.1 in
    let s = c.args.s.now in
    let tab = table c.args.types.now c.args.names.now in
    rw (p.1, p.2) (tell (refuses tab c.args.rows.now c.args.pool.now (means-no tab s c.requires.0 c.requires.1 (failed (at_place (λ q u. read_at 32 tab s q u) refl c.outermost-p.ensures c.value.ensures) c.in_err-whole.was))))

pub returns : goal.returns
returns c =
    let s = c.args.s.now in
    let tab = table c.args.types.now c.args.names.now in
    let went = passed (at_place (λ q u. read_at 32 tab s q u) refl c.outermost-p.ensures c.value.ensures) c.in_ok-whole.was in
    let it = went.took in
    let it' = went.few_bytes in
    let it'₂ = (at_place (λ q u. read_at 32 tab s q u) refl c.outermost-p.ensures c.value-2.ensures).stepped in
    tell (stored tab (means-ok tab s c.requires.0 c.requires.1 went.took.is) went.took.many went.took.long c.args.rows.now c.args.pool.now c.if-rows-counts.false c.if-pool-counts.false (whole-rows it it' it'₂) (whole-pool it it' it'₂))
