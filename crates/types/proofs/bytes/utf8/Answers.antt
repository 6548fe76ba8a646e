use mathlib.Core.Path.{refl, ◌∙◌}
use Rattle.json_text.specs.Utf8.{utf8}
use Rattle.types.specs.Bytes.{due_of}
use Rattle.types.proofs.ByteLaws.{utf8-next, utf8-ends}
use Rattle.types.proofs.bytes.utf8.Goals as goal

pub loop-b-init : goal.loop-b-init
unfolding utf8 due_of
loop-b-init c = refl

pub loop-b-preserved : goal.loop-b-preserved
loop-b-preserved c =
    utf8-next c.args.s.now c.loop-b.b-index
    (due_of c.loop-b.due) (due_of c.step-due.result) c.loop-b-test.true c.step-due.ensures ∙
    c.loop-b.invariant

pub returns : goal.returns
returns c =
    c.ended.ensures ∙ utf8-ends c.args.s.now c.loop-b.b-index
    (due_of c.loop-b.due) c.loop-b-test.false ∙ c.loop-b.invariant
