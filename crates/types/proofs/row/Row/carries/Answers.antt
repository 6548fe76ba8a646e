use mathlib.Core.Path.{◌∙◌}
use Rattle.json_text.specs.Bytes.{pick}
use Rattle.jer.specs.Table.{carries}
use Rattle.types.proofs.RowLaws.{carries-none}
use native.Mathlib.Omega.{arith}
use Rattle.types.proofs.row.Row.carries.Goals as goal

pub returns-in-0 : goal.returns-in-0
unfolding carries pick
returns-in-0 c = c.line.ensures ∙ rw c.in-0.is

pub returns-in-1 : goal.returns-in-1
unfolding carries pick
returns-in-1 c = c.line-in-1.ensures ∙ rw c.in-1.is

pub returns-in-2 : goal.returns-in-2
unfolding carries pick
returns-in-2 c = c.line-in-2.ensures ∙ rw c.in-2.is

pub returns-in-3 : goal.returns-in-3
unfolding carries pick
returns-in-3 c = c.line-in-3.ensures ∙ rw c.in-3.is

pub returns-in-4 : goal.returns-in-4
unfolding carries pick
returns-in-4 c = c.line-in-4.ensures ∙ rw c.in-4.is

pub returns-in-5 : goal.returns-in-5
unfolding carries pick
returns-in-5 c = c.line-in-5.ensures ∙ rw c.in-5.is

pub returns-in-6 : goal.returns-in-6
unfolding carries pick
returns-in-6 c = rw c.in-6.is

pub returns-in-7 : goal.returns-in-7
unfolding carries pick
returns-in-7 c = c.line-in-7.ensures ∙ rw c.in-7.is

pub returns-in-8 : goal.returns-in-8
unfolding carries pick
returns-in-8 c = c.line-in-8.ensures ∙ rw c.in-8.is

pub returns-in-9 : goal.returns-in-9
unfolding carries pick
returns-in-9 c = c.line-in-9.ensures ∙ rw c.in-9.is

pub returns-in_default : goal.returns-in_default
returns-in_default c =
    c.line-in_default.ensures
    ∙ carries-none _
    (λ i. omega arith)
    (λ i. omega arith)
    (λ i. omega arith)
    (λ i. omega arith)
    (λ i. omega arith)
    (λ i. omega arith)
    (λ i. omega arith)
    (λ i. omega arith)
    (λ i. omega arith)
    (λ i. omega arith)
