use mathlib.Core.Logic.{inl, inr}
use mathlib.Core.Path.{ap}
use Rattle.std.specs.Prelude.{Err}
use native.Mathlib.Omega.{arith}
use Rattle.quick.proofs.CallLaws.{sane-table, few-rows, few_bytes_lem, whole_noted, whole-stored}
use Rattle.quick.proofs.read.over.Goals as goal

pub take-requires : goal.take-requires
take-requires c = (sane-table _ c.requires.0, c.requires.1)

pub overflow_mul-counts : goal.overflow_mul-counts
overflow_mul-counts c = let whole = c.in_ok-g.ensures in let rows = c.args.rows.now in let pool = c.args.pool.now in omega (arith, whole.words, c.take.auto.tape, c.requires.1)

pub returns-then-rows-counts : goal.returns-then-rows-counts
returns-then-rows-counts c =
    let whole = c.in_ok-g.ensures in
    let rows = c.args.rows.now in
    let pool = c.args.pool.now in
    elim c.then-rows-counts.either [
      | inl h ↦ few-rows c.requires.0 whole rows pool (ap Err c.needed.ensures) h
      | inr h ↦ few_bytes_lem c.requires.0 whole rows pool (ap Err c.needed.ensures) (omega (arith, h.0)) h.1
    ]

pub emit-requires : goal.emit-requires
emit-requires c = let whole = c.in_ok-g.ensures in let rows = c.args.rows.now in let pool = c.args.pool.now in (whole_noted c.requires.0 whole rows pool c.args.source.now.short (omega arith) (omega arith), (c.args.source.now.short, omega (arith, c.take.auto.tape, c.requires.1)))

pub returns : goal.returns
returns c = let whole = c.in_ok-g.ensures in let rows = c.args.rows.now in let pool = c.args.pool.now in whole-stored c.requires.0 whole rows pool (omega arith) (omega arith) c.emit.ensures
