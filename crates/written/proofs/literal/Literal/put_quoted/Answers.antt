use native.Mathlib.Omega.{arith}
use Rattle.written.proofs.LiteralLaws.{whole-all, whole-some}
use Rattle.written.proofs.literal.Literal.put_quoted.Goals as goal

pub returns-then-n-s : goal.returns-then-n-s
returns-then-n-s c =
    let a = c.args in
    whole-some a.s.now a.k a.text.now c.put_literal-n.ensures

pub returns : goal.returns
returns c =
    let a = c.args in
    whole-all a.s.now a.k a.text.now c.put_literal-n.ensures c.if-n-s.false (c.has_quoted.ensures c.if-not-has_quoted.false) (omega arith)
