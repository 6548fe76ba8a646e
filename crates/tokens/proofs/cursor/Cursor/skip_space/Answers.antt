use Rattle.tokens.specs.Places.{past_space}
use Rattle.tokens.proofs.cursor.Cursor.skip_space.Goals as goal

pub returns : goal.returns
unfolding past_space
returns c = c.run.ensures
