use mathlib.Core.Path.{subst}
use native.Mathlib.Omega.{arith}
use Rattle.octets.specs.Decode.{Groups}
use Rattle.octets.proofs.GroupLaws.{decoding-start, decoding-end, decoding-bad, group_length, decoding-more}
use Rattle.octets.proofs.decode.octets.Goals as goal

pub loop-x-init : goal.loop-x-init
loop-x-init g c = decoding-start g.C.Coding.octets c.args.s.now c.args.p c.args.pool.now c.args.j

pub returns-in-End-clause-value : goal.returns-in-End-clause-value
returns-in-End-clause-value g c = (decoding-end c.loop-x.invariant (subst (Groups g.C.Coding.octets c.args.s.now c.loop-x.i) c.in-End.is c.group.ensures)).0

pub returns-in-End-clause-stored : goal.returns-in-End-clause-stored
returns-in-End-clause-stored g c = (decoding-end c.loop-x.invariant (subst (Groups g.C.Coding.octets c.args.s.now c.loop-x.i) c.in-End.is c.group.ensures)).1

pub returns-in-Other-clause-value : goal.returns-in-Other-clause-value
returns-in-Other-clause-value g c = (decoding-bad c.loop-x.invariant (subst (Groups g.C.Coding.octets c.args.s.now c.loop-x.i) c.in-Other.is c.group.ensures)).0

pub returns-in-Other-clause-stored : goal.returns-in-Other-clause-stored
returns-in-Other-clause-stored g c = (decoding-bad c.loop-x.invariant (subst (Groups g.C.Coding.octets c.args.s.now c.loop-x.i) c.in-Other.is c.group.ensures)).1

pub overflow_add-j : goal.overflow_add-j
overflow_add-j g c =
    let inv = c.loop-x.invariant in
    let d = subst (Groups g.C.Coding.octets c.args.s.now c.loop-x.i) c.in-Octets.is c.group.ensures in
    omega (arith, d.inside, inv.few, c.requires)

pub slice_bounds-group-end : goal.slice_bounds-group-end
slice_bounds-group-end g c =
    let inv = c.loop-x.invariant in
    let d = subst (Groups g.C.Coding.octets c.args.s.now c.loop-x.i) c.in-Octets.is c.group.ensures in
    d.few

pub slice_bounds-put_all-end : goal.slice_bounds-put_all-end
slice_bounds-put_all-end g c =
    let inv = c.loop-x.invariant in
    let d = subst (Groups g.C.Coding.octets c.args.s.now c.loop-x.i) c.in-Octets.is c.group.ensures in
    group_length inv d

pub put_all-requires : goal.put_all-requires
put_all-requires g c =
    let inv = c.loop-x.invariant in
    let d = subst (Groups g.C.Coding.octets c.args.s.now c.loop-x.i) c.in-Octets.is c.group.ensures in
    omega (arith, d.inside, d.few, group_length inv d, inv.few, c.requires)

pub overflow_add-n : goal.overflow_add-n
overflow_add-n g c =
    let inv = c.loop-x.invariant in
    let d = subst (Groups g.C.Coding.octets c.args.s.now c.loop-x.i) c.in-Octets.is c.group.ensures in
    omega (arith, d.inside, d.few, inv.few, c.requires)

pub loop-x-smaller : goal.loop-x-smaller
loop-x-smaller g c =
    let inv = c.loop-x.invariant in
    let d = subst (Groups g.C.Coding.octets c.args.s.now c.loop-x.i) c.in-Octets.is c.group.ensures in
    omega (arith, d.inside, d.ahead)

pub loop-x-preserved : goal.loop-x-preserved
loop-x-preserved g c =
    let inv = c.loop-x.invariant in
    let d = subst (Groups g.C.Coding.octets c.args.s.now c.loop-x.i) c.in-Octets.is c.group.ensures in
    decoding-more inv d c.put_all.ensures c.put_all.auto.s
