use Rattle.jer.specs.Table.{kind_of, form_of, tag_of}
use Rattle.types.proofs.row.kind_of.Goals as goal

pub returns : goal.returns
unfolding kind_of form_of tag_of
returns c = c.field.ensures
