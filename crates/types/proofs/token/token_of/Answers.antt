use Rattle.types.proofs.token.token_of.Goals as goal

pub returns : goal.returns
returns c = λ ns. c.begins.ensures _ _ (c.at.ensures ns)
