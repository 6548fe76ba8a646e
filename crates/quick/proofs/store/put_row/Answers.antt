use Prim.Native.Nat.{◌*◌}
use mathlib.Core.List.{[], ◌∷◌}
use native.Mathlib.Omega.{arith}
use Rattle.quick.proofs.StoreLaws.{copied}
use Rattle.quick.proofs.store.put_row.Goals as goal

pub returns : goal.returns
returns c = copied (c.args.slot * 4) c.args.rows.now (c.args.kind ∷ c.args.a ∷ c.args.b ∷ c.args.size ∷ []) (omega arith) c.copy_from_slice.ensures.after (omega arith)
