use Rattle.spelled.proofs.CharLaws.{letter-of}
use Rattle.spelled.proofs.character.letter.Goals as goal

pub returns-in-34 : goal.returns-in-34
returns-in-34 c = λ h. letter-of c.in-34.is
