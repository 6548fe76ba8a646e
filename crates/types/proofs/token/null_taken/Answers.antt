use Rattle.jer.specs.Table.{null_taken}
use Rattle.types.proofs.token.null_taken.Goals as goal

pub returns : goal.returns
unfolding null_taken
returns c = λ ns. rw (c.can_be_null.ensures ns, c.open_unwrapped.ensures ns)
