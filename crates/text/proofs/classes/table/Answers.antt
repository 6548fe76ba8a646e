use mathlib.Core.Path.{◌∙◌, ap}
use native.Mathlib.Nat.{zero-add}
use Rattle.text.specs.Class.{class_of}
use Rattle.text.proofs.Computed.{table_at}
use Rattle.text.proofs.classes.table.Goals as goal

pub returns : goal.returns
unfolding class_of
returns c b h = table_at class_of 0 256 b 0 h ∙ ap class_of (zero-add b)
