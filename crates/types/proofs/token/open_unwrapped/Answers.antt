use Rattle.jer.specs.Table.{open_unwrapped}
use Rattle.types.proofs.token.open_unwrapped.Goals as goal

pub returns : goal.returns
unfolding open_unwrapped
returns c =
    λ ns. rw
    (c.is_unwrapped.ensures _ _ (c.at-row.ensures ns), c.extensible.ensures _ _ (c.at-row.ensures ns))
