use mathlib.Core.Path.{◌≡◌}
use lib.ListN.{drop}
use Rattle.json_text.specs.Utf8.{utf8, utf8_from}
use Rattle.types.specs.Bytes.{due_of}
use Rattle.types.proofs.bytes.utf8.Given as goal

abbrev pub invariant-loop-b : goal.invariant-loop-b
invariant-loop-b l = utf8_from (due_of l.due) (drop l.b-index l.s) ≡ utf8 l.s
