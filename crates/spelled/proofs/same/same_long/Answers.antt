use Prim.Native.Nat.{◌-◌, ◌*◌}
use lib.ListN.{length}
use native.Mathlib.Omega.{arith}
use Rattle.spelled.proofs.SameLaws.{long-last, long-differs}
use Rattle.spelled.proofs.same.same_long.Goals as goal

pub returns-then-eight : goal.returns-then-eight
returns-then-eight c =
    let s = c.args.s.now in
    let p = c.args.p in
    let x = c.args.x.now in
    let i = c.loop-k.k * 8 in
    long-differs s p x c.requires.0 i _ _ (omega (arith, c.loop-k-test.true, c.requires)) c.eight.ensures c.eight-in-loop-k.ensures c.if-eight.true

pub returns : goal.returns
returns c =
    let s = c.args.s.now in
    let p = c.args.p in
    let x = c.args.x.now in
    let i = c.loop-k.k * 8 in
    long-last s p x c.requires.0 (length x - 8) i _ _ (omega (arith, c.requires)) (omega (arith, c.loop-k-test.false)) c.loop-k.invariant c.eight-2.ensures c.eight-3.ensures
