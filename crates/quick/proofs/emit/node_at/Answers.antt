use mathlib.Core.Path.{◌∙◌}
use mathlib.Core.List.{[]}
use native.Mathlib.Omega.{arith}
use Rattle.quick.proofs.EmitLaws.{node_leaf, node_bracket}
use Rattle.quick.proofs.emit.node_at.Goals as goal

pub returns-then-kind_of-lt-SEQUENCE : goal.returns-then-kind_of-lt-SEQUENCE
returns-then-kind_of-lt-SEQUENCE c = λ s ns v k w. node_leaf (omega (arith, c.if-kind_of-lt-SEQUENCE.true, c.kind_of.ensures ns)) w

pub bounds-tape-top : goal.bounds-tape-top
bounds-tape-top c = omega (arith, c.requires.1 [] (omega (arith, c.if-kind_of-lt-SEQUENCE.false, c.kind_of.ensures [])))

pub returns : goal.returns
returns c = λ s ns v k w. let n = node_bracket (omega (arith, c.if-kind_of-lt-SEQUENCE.false, c.kind_of.ensures ns)) w in (c.wide.ensures.0 ∙ n.0, c.wide-2.ensures.0 ∙ n.1)
