use mathlib.Core.Path.{◌∙◌}
use native.Mathlib.Omega.{arith}
use Rattle.tokens.proofs.PlaceLaws.{inside}
use Rattle.tokens.proofs.NumberLaws.{integer_minus, integer_plain}
use Rattle.tokens.proofs.numbers.signed.Goals as goal

pub overflow_add-p : goal.overflow_add-p
overflow_add-p c =
    let s = c.args.s.now in
    let p = c.args.p in
    omega (arith, inside s p (λ e. omega (arith, c.byte_at.ensures.value)))

pub returns-then-byte_at-eq45 : goal.returns-then-byte_at-eq45
returns-then-byte_at-eq45 c = c.whole.ensures ∙ integer_minus c.args.s.now c.args.p c.byte_at.result c.byte_at.ensures.value c.if-byte_at-eq45.true

pub returns : goal.returns
returns c = c.whole-2.ensures ∙ integer_plain c.args.s.now c.args.p c.byte_at.result c.byte_at.ensures.value c.if-byte_at-eq45.false
