use Prim.Native.Nat.{◌+◌}
use native.Mathlib.Omega.{arith}
use Rattle.quick.proofs.StoreLaws.{part_short, plain-stored, escaped-stored}
use Rattle.quick.proofs.store.put_text.Goals as goal

pub copy_all-requires : goal.copy_all-requires
copy_all-requires c = omega (arith, part_short c.args.s.now (c.wide.result + 1) c.wide-then-b-lt-ESCAPED.result _ c.part.ensures, c.wide-then-b-lt-ESCAPED.ensures.0, c.if-b-lt-ESCAPED.true, c.requires.1)

pub returns-then-b-lt-ESCAPED-clause-pool_after : goal.returns-then-b-lt-ESCAPED-clause-pool_after
returns-then-b-lt-ESCAPED-clause-pool_after c = (plain-stored c.args.pool.now c.args.offset c.args.s.now c.wide.result c.wide-then-b-lt-ESCAPED.result _ c.wide.ensures.0 c.wide-then-b-lt-ESCAPED.ensures.0 c.part.ensures c.copy_all.ensures c.if-b-lt-ESCAPED.true).0

pub returns-then-b-lt-ESCAPED-clause-pool_after_2 : goal.returns-then-b-lt-ESCAPED-clause-pool_after_2
returns-then-b-lt-ESCAPED-clause-pool_after_2 c = (plain-stored c.args.pool.now c.args.offset c.args.s.now c.wide.result c.wide-then-b-lt-ESCAPED.result _ c.wide.ensures.0 c.wide-then-b-lt-ESCAPED.ensures.0 c.part.ensures c.copy_all.ensures c.if-b-lt-ESCAPED.true).1

pub returns-else-b-lt-ESCAPED-clause-pool_after : goal.returns-else-b-lt-ESCAPED-clause-pool_after
returns-else-b-lt-ESCAPED-clause-pool_after c = (escaped-stored c.args.pool.now c.args.offset c.args.s.now c.wide-else-b-lt-ESCAPED.result c.wide-else-b-lt-ESCAPED.ensures.0 c.copy.ensures.pool_after c.if-b-lt-ESCAPED.false).0

pub returns-else-b-lt-ESCAPED-clause-pool_after_2 : goal.returns-else-b-lt-ESCAPED-clause-pool_after_2
returns-else-b-lt-ESCAPED-clause-pool_after_2 c = (escaped-stored c.args.pool.now c.args.offset c.args.s.now c.wide-else-b-lt-ESCAPED.result c.wide-else-b-lt-ESCAPED.ensures.0 c.copy.ensures.pool_after c.if-b-lt-ESCAPED.false).1
