use mathlib.Core.Path.{◌∙◌, sym}
use mathlib.Core.Bool.{true, false}
use Rattle.text.specs.Outline.{judged_end}
use Rattle.text.proofs.Texts.{ends}
use Rattle.text.proofs.check.Goals as goal

pub returns-then-whole : goal.returns-then-whole
unfolding judged_end
returns-then-whole c =
    let l = c.loop-at in
    ends c.args.s.now l.at l.state l.invariant l.auto.at-end c.loop-at-test.false true (sym c.if-whole.true ∙ c.whole.ensures)

pub returns : goal.returns
unfolding judged_end
returns c =
    let l = c.loop-at in
    ends c.args.s.now l.at l.state l.invariant l.auto.at-end c.loop-at-test.false false (sym c.if-whole.false ∙ c.whole.ensures)
