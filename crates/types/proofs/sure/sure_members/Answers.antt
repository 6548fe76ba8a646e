use Prim.Native.Nat.{◌+◌}
use native.Mathlib.Omega.{arith}
use borrow.Author.Tests.{not-false}
use Rattle.jer.specs.Table.{table}
use Rattle.types.proofs.SureLaws.{no_true, alone-name}
use Rattle.types.proofs.SureMembers.{name-length, so_far_starts, so_far_next, members-room, members-told}
use Rattle.types.proofs.sure.sure_members.Goals as goal

pub loop-j-init : goal.loop-j-init
loop-j-init c =
    let a = c.args in
    let t = table a.rows.now a.names.now in
    so_far_starts t c.wide-first.result a.marks a.types

pub overflow_add-m : goal.overflow_add-m
overflow_add-m c = omega (arith, c.wide-first.ensures.0, c.wide-first.ensures.1, c.wide-count.ensures.0, c.wide-count.ensures.1, c.loop-j-test.true)

pub fits-requires : goal.fits-requires
fits-requires c =
    let a = c.args in
    let t = table a.rows.now a.names.now in
    omega (arith, members-room t a.r (c.row_in-row.ensures a.names.now) c.wide-first.ensures.0 c.wide-count.ensures.0 c.requires.2, c.loop-j-test.true)

pub returns-then-not-fits : goal.returns-then-not-fits
returns-then-not-fits c = λ q. no_true q

pub name_inside-name-requires : goal.name_inside-name-requires
name_inside-name-requires c =
    let a = c.args in
    let t = table a.rows.now a.names.now in
    let l = members-room t a.r (c.row_in-row.ensures a.names.now) c.wide-first.ensures.0 c.wide-count.ensures.0 c.requires.2 in
    let m = c.wide-first.result + c.loop-j.j in
    (omega (arith, c.loop-j-test.true), (alone-name t m (c.requires.1 m (omega (arith, c.loop-j-test.true))) (c.fits.ensures a.names.now (not-false _ c.if-not-fits.false-raw)).kind).1)

pub sign-s-requires : goal.sign-s-requires
sign-s-requires c =
    let a = c.args in
    let t = table a.rows.now a.names.now in
    let l = members-room t a.r (c.row_in-row.ensures a.names.now) c.wide-first.ensures.0 c.wide-count.ensures.0 c.requires.2 in
    let m = c.wide-first.result + c.loop-j.j in
    let n = alone-name t m (c.requires.1 m (omega (arith, c.loop-j-test.true))) (c.fits.ensures a.names.now (not-false _ c.if-not-fits.false-raw)).kind in
    name-length t m _ n.0 n.1 c.name_inside-name.ensures

pub bounds-seen-s : goal.bounds-seen-s
bounds-seen-s c = omega (arith, c.sign-s.ensures.1)

pub fresh-requires : goal.fresh-requires
fresh-requires c =
    let a = c.args in
    let t = table a.rows.now a.names.now in
    let l = members-room t a.r (c.row_in-row.ensures a.names.now) c.wide-first.ensures.0 c.wide-count.ensures.0 c.requires.2 in
    (omega (arith, c.loop-j-test.true), λ i u. (alone-name t (c.wide-first.result + i) (c.requires.1 (c.wide-first.result + i) (omega (arith, c.loop-j-test.true))) (c.loop-j.invariant.sure i u).fit.kind).1)

pub returns-then-not-fresh : goal.returns-then-not-fresh
returns-then-not-fresh c = λ q. no_true q

pub bounds-seen-s-in-loop-j : goal.bounds-seen-s-in-loop-j
bounds-seen-s-in-loop-j c = omega (arith, c.sign-s.ensures.1)

pub loop-j-smaller : goal.loop-j-smaller
loop-j-smaller c = omega (arith, c.loop-j-test.true)

pub loop-j-preserved : goal.loop-j-preserved
loop-j-preserved c =
    let a = c.args in
    let t = table a.rows.now a.names.now in
    so_far_next t c.wide-first.result a.marks a.types c.loop-j.seen c.loop-j.j c.sign-s.result _ c.loop-j.invariant c.name_inside-name.ensures c.sign-s.ensures.0 (c.fits.ensures a.names.now (not-false _ c.if-not-fits.false-raw)) c.sign-s.ensures.1 (c.fresh.ensures (not-false _ c.if-not-fresh.false-raw))

pub returns : goal.returns
returns c =
    let a = c.args in
    let t = table a.rows.now a.names.now in
    λ q. members-told t a.r a.marks a.types (c.row_in-row.ensures a.names.now) c.wide-first.ensures.0 c.wide-count.ensures.0 c.loop-j-test.false c.loop-j.invariant
