use native.Mathlib.Omega.{arith}
use Rattle.text.proofs.ClassLaws.{class_range, act_range}
use borrow.Author.Rules.{rules}
use Rattle.text.proofs.tables.Tables.act.Goals as goal

pub overflow_sub-self : goal.overflow_sub-self
overflow_sub-self c = rw c.from.ensures (omega (arith, class_range c.args.b (search rules), c.args.self.now.right_classes c.args.b (search rules)))

pub bounds-self-column : goal.bounds-self-column
bounds-self-column c =
    let e = rw c.from.ensures at c.from-column.ensures in
    omega (arith, e, class_range c.args.b (search rules), c.args.self.now.right_classes c.args.b (search rules))

pub returns-clause-lower_bound : goal.returns-clause-lower_bound
returns-clause-lower_bound c =
    let a = c.args in
    rw (c.from-column.ensures, c.from.ensures, c.from-row.ensures, a.self.now.right_classes a.b (search rules), a.self.now.right_acts a.mode a.b c.requires (search rules)) (act_range a.mode a.b c.requires (search rules))
