use mathlib.Core.Path.{◌≡◌}
use Prim.Native.Nat.{◌+◌, ◌-◌}
use native.Mathlib.Omega.{arith}
use Rattle.octets.proofs.IntegerLaws.{putting_start, putting_few, putting_more, putting_small, putting_next, putting_done}
use Rattle.octets.proofs.integer.put_digits.Goals as goal

pub loop-j-init : goal.loop-j-init
loop-j-init c = putting_start c.args.n c.args.text.now c.args.k c.digit_count-count.result c.ranges.n.fits c.digit_count-count.ensures.value c.digit_count-count.ensures.lower_bound.0

pub overflow_add-k : goal.overflow_add-k
overflow_add-k c = omega (arith, putting_few c.loop-j.invariant, c.requires)

pub loop-j-preserved : goal.loop-j-preserved
loop-j-preserved c =
    let l = c.loop-j in
    let next : c.digit_count-count.result - (l.j + 1) ≡ c.digit_count-count.result - l.j - 1 = omega arith in
    rw next (putting_next l.invariant (putting_more l.invariant (omega arith)) c.put.ensures c.put.auto.s)

pub returns : goal.returns
returns c =
    let l = c.loop-j in
    let small = putting_small l.invariant (omega (arith, c.digit_count-count.ensures.lower_bound)) in
    record { value = c.digit_count-count.ensures.value; upper_bound = c.digit_count-count.ensures.lower_bound.1; text_after = putting_done l.invariant small c.put-2.ensures }

pub overflow_cast-m-2 : goal.overflow_cast-m-2
overflow_cast-m-2 c = omega (arith, putting_small c.loop-j.invariant (omega (arith, c.digit_count-count.ensures.lower_bound)))

pub overflow_add-m-2 : goal.overflow_add-m-2
overflow_add-m-2 c = omega (arith, putting_small c.loop-j.invariant (omega (arith, c.digit_count-count.ensures.lower_bound)))
