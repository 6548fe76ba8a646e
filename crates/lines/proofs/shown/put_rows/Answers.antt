use Prim.Native.Nat.{◌-◌}
use native.Mathlib.Omega.{arith}
use Rattle.octets.proofs.PutLaws.{putting_done}
use Rattle.lines.proofs.ShownLaws.{four-length, fours_length, fours_start, fours_none, fours_short, fours_next}
use Rattle.lines.proofs.shown.put_rows.Goals as goal

pub loop-init : goal.loop-init
loop-init c = fours_start c.args.n c.args.rows.now c.args.text.now

pub returns-in_default : goal.returns-in_default
returns-in_default c = putting_done c.loop.invariant (fours_short _ c.loop.left.now (omega arith))

pub put_four-k-requires : goal.put_four-k-requires
put_four-k-requires c = omega (arith, fours_length c.args.n c.args.rows.now, c.loop.invariant.count)

pub overflow_add-k : goal.overflow_add-k
overflow_add-k c = omega (arith, fours_length c.args.n c.args.rows.now, c.loop.invariant.count, c.put_four-k.ensures.0, four-length c.from.result c.from-in-loop.result c.from-in-loop-2.result c.from-in-loop-3.result)

pub loop-preserved : goal.loop-preserved
loop-preserved c =
    let l = c.loop in
    fours_next l.left.now c.args.n l.counter l.invariant c.in-len4-up.len_at_least c.loop-test.true c.from.ensures c.from-in-loop.ensures c.from-in-loop-2.ensures c.from-in-loop-3.ensures
    c.put_four-k.ensures.0 c.put_four-k.ensures.1 c.put_four-k.auto.text

pub returns : goal.returns
returns c = putting_done c.loop.invariant (fours_none (c.args.n - c.loop.counter) c.loop.left.now (omega arith))
