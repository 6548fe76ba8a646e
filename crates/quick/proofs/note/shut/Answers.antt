use native.Mathlib.Omega.{arith}
use mathlib.Core.List.{[]}
use borrow.Author.Tests.{not-false}
use Rattle.quick.proofs.WalkLaws.{alike_same, headed-kept, shut-here}
use Rattle.quick.proofs.note.shut.Goals as goal

pub returns-then-not-complete-clause-alike : goal.returns-then-not-complete-clause-alike
returns-then-not-complete-clause-alike c = alike_same _ _ _

pub overflow_sub-absent : goal.overflow_sub-absent
overflow_sub-absent c = omega (arith, c.requires.0 [], c.count_of.ensures [], c.ones-a.ensures)

pub overflow_add-n : goal.overflow_add-n
overflow_add-n c = omega (arith, c.requires.0 [], c.count_of.ensures [], c.ones-a.ensures, c.wide.ensures.0)

pub head-requires : goal.head-requires
head-requires c = omega (arith, c.requires.1, c.requires.2, c.requires.0 [], c.count_of.ensures [], c.ones-a.ensures, c.wide.ensures.0)

pub returns : goal.returns
returns c = record { alike = headed-kept _ _ _ _ _ _ c.head.ensures.tape_after; shut = λ ns. shut-here c.ones-a.result c.wide.result c.count_of.result (c.complete.ensures (not-false _ c.if-not-complete.false-raw) ns) c.ones-a.ensures (c.count_of.ensures ns) c.wide.ensures.0 c.head.ensures.tape_after c.head.ensures.headed }
