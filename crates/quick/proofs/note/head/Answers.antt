use Prim.Native.Nat.{◌+◌}
use native.Mathlib.Omega.{arith}
use lib.ListN.{set, length-set}
use Rattle.quick.proofs.note.head.Goals as goal

pub bounds-tape-top-2 : goal.bounds-tape-top-2
bounds-tape-top-2 c = omega (arith, length-set c.args.tape.now c.args.top c.args.a)

pub bounds-tape-top-3 : goal.bounds-tape-top-3
bounds-tape-top-3 c = omega (arith, length-set c.args.tape.now c.args.top c.args.a, length-set (set c.args.tape.now c.args.top c.args.a) (c.args.top + 1) (c.args.n + 1))
