use Rattle.written.proofs.LiteralLaws.{literal-next}
use borrow.Author.Rules.{rules}
use Rattle.written.proofs.literal.Literal.put_literal.Goals as goal

pub loop-j-preserved : goal.loop-j-preserved
loop-j-preserved c =
    let a = c.args in
    let inv = c.loop-j.invariant in
    (search rules, literal-next a.s.now a.k a.text.now c.loop-j.j inv.1 c.loop-j-test.true (c.has.ensures c.if-not-has.false))
