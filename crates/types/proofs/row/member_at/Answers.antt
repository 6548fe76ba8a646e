use mathlib.Core.Path.{ap, ◌∙◌}
use Prim.Native.Nat.{ℕ}
use Rattle.types.specs.Rows.{row_of}
use Rattle.jer.specs.Table.{table}
use Rattle.types.proofs.row.member_at.Goals as goal

pub returns : goal.returns
returns c = λ ns. c.at.ensures ns ∙ ap (λ (m : ℕ). row_of (table c.args.rows.now ns) m) (c.member_row.ensures ns)
