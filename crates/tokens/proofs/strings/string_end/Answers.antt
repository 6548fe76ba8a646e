use mathlib.Core.Path.{refl, sym, ◌∙◌}
use Rattle.tokens.proofs.StringLaws.{end-past, end-quote, end-pair, end-other}
use Rattle.tokens.proofs.strings.string_end.Goals as goal

pub loop-i-init : goal.loop-i-init
loop-i-init c = refl

pub returns-then-b-eq34 : goal.returns-then-b-eq34
returns-then-b-eq34 c =
    let s = c.args.s.now in
    let l = c.loop-i in
    sym (end-quote s l.i c.loop-i-test.true c.if-b-eq34.true) ∙ l.invariant

pub loop-i-preserved-then-b-eq92 : goal.loop-i-preserved-then-b-eq92
loop-i-preserved-then-b-eq92 c =
    let s = c.args.s.now in
    let l = c.loop-i in
    sym (end-pair s l.i c.loop-i-test.true c.if-b-eq92.true) ∙ l.invariant

pub loop-i-preserved : goal.loop-i-preserved
loop-i-preserved c =
    let s = c.args.s.now in
    let l = c.loop-i in
    sym (end-other s l.i c.loop-i-test.true (c.type_inv.s l.i).fits c.if-b-eq34.false c.if-b-eq92.false) ∙ l.invariant

pub returns : goal.returns
returns c =
    let s = c.args.s.now in
    let l = c.loop-i in
    sym (end-past s l.i c.loop-i-test.false) ∙ l.invariant
