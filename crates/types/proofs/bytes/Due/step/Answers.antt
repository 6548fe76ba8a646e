use mathlib.Core.Path.{◌∙◌}
use Rattle.json_text.specs.Utf8.{due_step}
use Rattle.types.specs.Bytes.{due_of}
use Rattle.types.proofs.ByteLaws.{step-below, step-above, step_in}
use Rattle.types.proofs.bytes.Due.step.Goals as goal

pub returns-then-b-low : goal.returns-then-b-low
unfolding due_of
returns-then-b-low c =
    let a = c.args in
    step-below a.self a.b _ _ _ c.in-Next.is c.if-b-low.true

pub returns-then-high-b : goal.returns-then-high-b
unfolding due_of
returns-then-high-b c =
    let a = c.args in
    step-above a.self a.b _ _ _ c.in-Next.is c.if-high-b.true

pub returns-in-Start : goal.returns-in-Start
unfolding due_of
returns-in-Start c = c.first.ensures ∙ rw c.in-Start.is

pub returns-else-high-b : goal.returns-else-high-b
returns-else-high-b c =
    let a = c.args in
    step_in a.self a.b _ _ _ c.in-Next.is (due_of c.tail.result) c.if-b-low.false
    c.if-high-b.false c.tail.ensures

pub returns-in-Never : goal.returns-in-Never
unfolding due_of due_step
returns-in-Never c = rw c.in-Never.is
