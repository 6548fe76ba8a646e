use mathlib.Core.Path.{refl, sym, ◌∙◌}
use native.Mathlib.Omega.{arith}
use Rattle.tokens.proofs.NumberLaws.{digits-end, digits-one, digits-over, digits-fit}
use Rattle.tokens.proofs.numbers.magnitude_at.Goals as goal

pub loop-i-init : goal.loop-i-init
loop-i-init c = (refl, omega arith)

pub overflow_sub-d : goal.overflow_sub-d
overflow_sub-d c = omega arith

pub returns-then-d-m : goal.returns-then-d-m
returns-then-d-m c =
    let l = c.loop-i in
    let d = c.value_of-d in
    digits-over c.args.s.now l.i c.args.end l.m d.result c.byte_at.result c.loop-i-test.true d.ensures.0 c.byte_at.ensures.value _ (omega arith) l.invariant.0

pub overflow_mul-m : goal.overflow_mul-m
overflow_mul-m c = omega arith

pub overflow_add-m : goal.overflow_add-m
overflow_add-m c = omega arith

pub loop-i-preserved : goal.loop-i-preserved
loop-i-preserved c =
    let l = c.loop-i in
    let d = c.value_of-d in
    (sym (digits-one c.args.s.now l.i c.args.end l.m d.result c.byte_at.result c.loop-i-test.true d.ensures.0 c.byte_at.ensures.value) ∙ l.invariant.0, omega arith)

pub returns : goal.returns
returns c =
    let l = c.loop-i in
    digits-fit l.m _ l.invariant.1 (sym (digits-end c.args.s.now l.i c.args.end l.m c.loop-i-test.false) ∙ l.invariant.0)
