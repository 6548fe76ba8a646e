use mathlib.Core.Path.{refl, sym, ◌∙◌}
use native.Mathlib.Omega.{arith}
use borrow.Author.Tests.{ltb-false}
use Rattle.tokens.proofs.PlaceLaws.{byte_past, inside}
use Rattle.tokens.proofs.SkipLaws.{between_is, word-is, value-string, value-bracket, value-word, bracket-deep, passing_start, passing_end, passing_close, passing_next, passing_ahead}
use Rattle.tokens.proofs.skip.+skip_bracket_skip_value.Goals as goal

pub skip_bracket-returns-then-depth-eq0 : goal.skip_bracket-returns-then-depth-eq0
skip_bracket-returns-then-depth-eq0 t c = bracket-deep c.args.depth c.args.s.now c.args.p c.if-depth-eq0.true

pub skip_bracket-loop-b-init : goal.skip_bracket-loop-b-init
skip_bracket-loop-b-init t c = passing_start c.args.depth c.args.s.now c.args.p c.if-depth-eq0.false

pub skip_bracket-returns-in_default : goal.skip_bracket-returns-in_default
skip_bracket-returns-in_default t c =
    let s = c.args.s.now in
    let q = c.run-q in
    passing_end c.loop-b.invariant (q.ensures ∙ between_is s c.loop-b.i) refl (byte_past s q.result (ltb-false _ _ (sym c.in_default.ensures.lookup.0)))

pub skip_bracket-returns-then-closes : goal.skip_bracket-returns-then-closes
skip_bracket-returns-then-closes t c =
    let byte = c.in-Some.ensures.lookup.3.1 in
    let fits = (c.type_inv.s c.run-q.result).fits in
    passing_close c.loop-b.invariant (c.run-q.ensures ∙ between_is c.args.s.now c.loop-b.i) (byte 256) (λ e. omega (arith, byte 0, fits)) (sym c.if-closes.ensures)

pub skip_bracket-loop-b-smaller : goal.skip_bracket-loop-b-smaller
skip_bracket-loop-b-smaller t c =
    let byte = c.in-Some.ensures.lookup.3.1 in
    let fits = (c.type_inv.s c.run-q.result).fits in
    passing_ahead c.loop-b.invariant (c.run-q.ensures ∙ between_is c.args.s.now c.loop-b.i) (byte 256) (λ e. omega (arith, byte 0, fits)) (sym c.if-closes.ensures) c.skip_value-i.ensures

pub skip_bracket-loop-b-preserved : goal.skip_bracket-loop-b-preserved
skip_bracket-loop-b-preserved t c =
    let byte = c.in-Some.ensures.lookup.3.1 in
    let fits = (c.type_inv.s c.run-q.result).fits in
    passing_next c.loop-b.invariant (c.run-q.ensures ∙ between_is c.args.s.now c.loop-b.i) (byte 256) (λ e. omega (arith, byte 0, fits)) (sym c.if-closes.ensures) c.skip_value-i.ensures

pub skip_value-overflow_add-p : goal.skip_value-overflow_add-p
skip_value-overflow_add-p t c = omega (arith, inside c.args.s.now c.args.p (λ e. omega (arith, c.byte_at-b.ensures.value)))

pub skip_value-returns-then-b-eq34 : goal.skip_value-returns-then-b-eq34
skip_value-returns-then-b-eq34 t c =
    let a = c.args in
    c.string_end.ensures ∙ value-string a.depth a.s.now a.p c.byte_at-b.result c.byte_at-b.ensures.value c.if-b-eq34.true

pub skip_value-returns-then-opens : goal.skip_value-returns-then-opens
skip_value-returns-then-opens t c =
    let a = c.args in
    c.skip_bracket.ensures ∙ value-bracket a.depth a.s.now a.p c.byte_at-b.result c.byte_at-b.ensures.value c.if-b-eq34.false (sym c.opens.ensures ∙ c.if-opens.true)

pub skip_value-returns : goal.skip_value-returns
skip_value-returns t c =
    let a = c.args in
    c.run.ensures ∙ word-is a.s.now a.p ∙ value-word a.depth a.s.now a.p c.byte_at-b.result c.byte_at-b.ensures.value c.if-b-eq34.false (sym c.opens.ensures ∙ c.if-opens.false)
