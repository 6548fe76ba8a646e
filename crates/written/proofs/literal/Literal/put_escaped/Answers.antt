use Rattle.written.proofs.LiteralLaws.{escaped-all, whole-over}
use Rattle.written.proofs.literal.Literal.put_escaped.Goals as goal

pub returns : goal.returns
returns c = whole-over c.put_quoted.ensures c.if-put_quoted.false (escaped-all c.args.s.now c.put_string.ensures)
