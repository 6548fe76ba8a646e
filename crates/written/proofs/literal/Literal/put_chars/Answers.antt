use Rattle.written.proofs.LiteralLaws.{literal-utf8, whole-over}
use Rattle.written.proofs.literal.Literal.put_chars.Goals as goal

pub returns-then-put_quoted-clause-s_value : goal.returns-then-put_quoted-clause-s_value
returns-then-put_quoted-clause-s_value c = λ _. literal-utf8 c.args.s.now (c.put_quoted.ensures.all c.if-put_quoted.true).2

pub returns-clause-puts : goal.returns-clause-puts
returns-clause-puts c = whole-over c.put_quoted.ensures c.if-put_quoted.false c.put_escaped-end.ensures
