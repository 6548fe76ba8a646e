use Rattle.spelled.proofs.CharLaws.{escape-letter}
use Rattle.spelled.proofs.character.escape.Goals as goal

pub returns-then-letter : goal.returns-then-letter
returns-then-letter c = escape-letter c.args.s.now c.args.p _ c.requires c.byte_at.ensures.value (c.letter.ensures c.if-letter.true)
