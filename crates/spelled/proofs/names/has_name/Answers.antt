use mathlib.Core.Path.{ap, ◌∙◌}
use Prim.Native.Nat.{ℕ}
use mathlib.Core.List.{List}
use lib.ListN.{take, drop}
use Rattle.jer.specs.Table.{same_bytes}
use Rattle.spelled.proofs.NameLaws.{name-other}
use Rattle.spelled.proofs.names.has_name.Goals as goal

pub returns-then-x-n : goal.returns-then-x-n
returns-then-x-n c = name-other c.args.s.now c.args.p c.args.n _ c.requires c.if-x-n.true ∙ ap (λ (y : List ℕ). same_bytes y (take c.args.n (drop c.args.p c.args.s.now))) c.name_in-x.ensures
