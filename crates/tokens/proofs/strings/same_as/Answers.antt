use mathlib.Core.Path.{refl, sym, ◌∙◌}
use native.Mathlib.Omega.{arith}
use Rattle.tokens.proofs.StringLaws.{piece_past, piece_quote, piece_escape, piece_bare, escaped-inside, comparing_close, comparing_differ, comparing_bare, comparing_other, comparing_escaped}
use Rattle.tokens.proofs.strings.same_as.Goals as goal

pub loop-i-init : goal.loop-i-init
loop-i-init c = record { same = refl; within = omega arith }

pub returns-then-b-eq34 : goal.returns-then-b-eq34
returns-then-b-eq34 c =
    let l = c.loop-i in
    comparing_close l.invariant (piece_quote c.args.s.now l.i c.loop-i-test.true c.if-b-eq34.true)

pub slice_bounds-starts_with-start : goal.slice_bounds-starts_with-start
slice_bounds-starts_with-start c = c.loop-i.invariant.within

pub returns-then-not-starts_with : goal.returns-then-not-starts_with
returns-then-not-starts_with c =
    let l = c.loop-i in
    let here = c.escape-e.ensures.next_value ∙ piece_escape c.args.s.now l.i c.loop-i-test.true c.if-b-eq92.true in
    comparing_other l.invariant here c.encoded-bytes.ensures (sym c.if-not-starts_with.ensures.value)

pub overflow_add-k : goal.overflow_add-k
overflow_add-k c =
    let l = c.loop-i in
    let here = c.escape-e.ensures.next_value ∙ piece_escape c.args.s.now l.i c.loop-i-test.true c.if-b-eq92.true in
    omega (arith, comparing_escaped l.invariant here c.encoded-bytes.ensures (sym c.if-not-starts_with.ensures.value))

pub loop-i-smaller-then-b-eq92 : goal.loop-i-smaller-then-b-eq92
loop-i-smaller-then-b-eq92 c =
    let here = c.escape-e.ensures.next_value ∙ piece_escape c.args.s.now c.loop-i.i c.loop-i-test.true c.if-b-eq92.true in
    omega (arith, escaped-inside _ _ here)

pub loop-i-preserved-then-b-eq92 : goal.loop-i-preserved-then-b-eq92
loop-i-preserved-then-b-eq92 c =
    let l = c.loop-i in
    let here = c.escape-e.ensures.next_value ∙ piece_escape c.args.s.now l.i c.loop-i-test.true c.if-b-eq92.true in
    comparing_escaped l.invariant here c.encoded-bytes.ensures (sym c.if-not-starts_with.ensures.value)

pub returns-then-byte_at-from : goal.returns-then-byte_at-from
returns-then-byte_at-from c =
    let l = c.loop-i in
    let here = piece_bare c.args.s.now l.i c.loop-i-test.true (c.type_inv.s l.i).fits c.if-b-eq34.false c.if-b-eq92.false in
    comparing_differ l.invariant here (λ e. c.if-byte_at-from.true (c.byte_at.ensures.value ∙ e ∙ sym c.from.ensures))

pub overflow_add-i-else-b-eq92 : goal.overflow_add-i-else-b-eq92
overflow_add-i-else-b-eq92 c = omega arith

pub loop-i-smaller : goal.loop-i-smaller
loop-i-smaller c = omega arith

pub loop-i-preserved : goal.loop-i-preserved
loop-i-preserved c =
    let l = c.loop-i in
    let here = piece_bare c.args.s.now l.i c.loop-i-test.true (c.type_inv.s l.i).fits c.if-b-eq34.false c.if-b-eq92.false in
    comparing_bare l.invariant here (sym c.byte_at.ensures.value ∙ c.if-byte_at-from.false ∙ c.from.ensures) (c.type_inv.s l.i).fits

pub returns : goal.returns
returns c =
    let l = c.loop-i in
    comparing_close l.invariant (piece_past c.args.s.now l.i c.loop-i-test.false)
