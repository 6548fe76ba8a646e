use mathlib.Core.Path.{◌≡◌}
use Prim.Native.Nat.{◌/◌}
use native.Mathlib.Omega.{arith}
use lib.ListN.{length}
use Rattle.lines.specs.Taken.{octets_of}
use Rattle.lines.proofs.TakenLaws.{octets-length, stored-next, stored-all}
use Rattle.lines.proofs.taken.store.Goals as goal

pub loop-k-preserved : goal.loop-k-preserved
loop-k-preserved g c =
    let l = c.args.line.now in
    let us = g.U.Unit.units (octets_of l) in
    let many : length us ≡ length l / 2 / c.OCTETS.result = rw (c.OCTETS.ensures, ← octets-length l) (g.met.U.Unit.count (octets_of l)) in
    stored-next us c.args.out.now c.loop-k.k c.at.result c.loop-k.out (omega arith) c.at.ensures c.put.ensures c.loop-k.invariant

pub returns : goal.returns
returns g c =
    let l = c.args.line.now in
    let us = g.U.Unit.units (octets_of l) in
    let many : length us ≡ length l / 2 / c.OCTETS.result = rw (c.OCTETS.ensures, ← octets-length l) (g.met.U.Unit.count (octets_of l)) in
    stored-all us c.args.out.now c.loop-k.k c.loop-k.out (omega arith) c.loop-k.invariant
