use mathlib.Core.Path.{◌∙◌}
use native.Mathlib.Omega.{arith}
use Prim.Native.Nat.{◌+◌, ◌*◌, ◌-◌, ◌/◌}
use mathlib.Core.Path.{◌≡◌}
use Rattle.spelled.proofs.PutLaws.{base64-short, base64-more, base64-end}
use Rattle.spelled.proofs.put.put_base64.Goals as goal

pub returns-then-n-lt4 : goal.returns-then-n-lt4
returns-then-n-lt4 c = base64-short c.args.s.now c.args.p c.args.n c.args.pool.now c.args.o c.requires.0 c.if-n-lt4.true

pub loop-g-preserved : goal.loop-g-preserved
loop-g-preserved c =
    let g = c.loop-g.g in
    let e : (g + 1) * 4 ≡ g * 4 + 4 = omega arith in
    let f : (g + 1) * 3 ≡ g * 3 + 3 = omega arith in
    (rw (e, f) (base64-more c.args.s.now c.args.p c.args.n c.requires.0 c.loop-g.pool c.args.pool.now c.args.o (g * 4) (g * 3) c.put_group.new.pool (omega arith) c.put_group.ensures c.loop-g.invariant.0), c.put_group.auto.pool ∙ c.loop-g.invariant.1)

pub returns : goal.returns
returns c =
    let g = c.loop-g.g in
    let e : (c.args.n - 1) / 4 ≡ g = omega arith in
    base64-end c.args.s.now c.args.p c.args.n c.requires.0 c.loop-g.pool c.args.pool.now c.args.o (g * 4) (g * 3) c.put_last.new.pool (omega arith) (omega arith) (omega arith) (rw e at c.put_last.ensures) c.loop-g.invariant.0
