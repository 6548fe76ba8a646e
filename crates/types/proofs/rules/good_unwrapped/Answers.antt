use Rattle.jer.specs.Valid.{good_unwrapped}
use Rattle.types.proofs.rules.good_unwrapped.Goals as goal

pub returns : goal.returns
unfolding good_unwrapped
returns c = λ ns. rw (c.none_unwrapped.ensures ns, c.tokens_differ.ensures ns)
