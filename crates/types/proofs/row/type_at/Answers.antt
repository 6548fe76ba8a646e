use mathlib.Core.Path.{ap, ◌∙◌}
use Prim.Native.Nat.{ℕ}
use Rattle.jer.specs.Table.{type_in, type_at, table}
use Rattle.types.proofs.row.type_at.Goals as goal

pub returns : goal.returns
unfolding type_at
returns c = λ ns. c.type_in.ensures ns ∙ ap (λ (m : ℕ). type_in (table c.args.rows.now ns) m) (c.member_row.ensures ns)
