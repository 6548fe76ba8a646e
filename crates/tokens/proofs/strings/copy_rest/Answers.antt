use mathlib.Core.Path.{ap, ◌∙◌}
use native.Mathlib.Omega.{arith}
use lib.ListN.{length}
use Rattle.tokens.proofs.StringLaws.{piece_past, piece_quote, piece_escape, piece_bare, escaped-inside, encode-few, counting-close, copying_start, copying_close, copying_bare, copying_escaped}
use Rattle.tokens.proofs.strings.copy_rest.Goals as goal

pub loop-i-init : goal.loop-i-init
loop-i-init c =
    let a = c.args in
    copying_start a.s.now a.p a.pool.now a.j

pub returns-then-b-eq34 : goal.returns-then-b-eq34
returns-then-b-eq34 c =
    let l = c.loop-i in
    let here = piece_quote c.args.s.now l.i c.loop-i-test.true c.if-b-eq34.true in
    record { value = counting-close l.invariant.counting here; pool_after = copying_close l.invariant here }

pub overflow_add-j : goal.overflow_add-j
overflow_add-j c = omega (arith, c.loop-i.invariant.counting)

pub put_all-requires : goal.put_all-requires
put_all-requires c = omega (arith, ap length c.encoded-bytes.ensures, encode-few c.escape-e.result.code, c.loop-i.invariant.counting)

pub overflow_add-n : goal.overflow_add-n
overflow_add-n c = omega (arith, ap length c.encoded-bytes.ensures, encode-few c.escape-e.result.code, c.loop-i.invariant.counting)

pub loop-i-smaller-then-b-eq92 : goal.loop-i-smaller-then-b-eq92
loop-i-smaller-then-b-eq92 c =
    let here = c.escape-e.ensures.next_value ∙ piece_escape c.args.s.now c.loop-i.i c.loop-i-test.true c.if-b-eq92.true in
    omega (arith, escaped-inside _ _ here)

pub loop-i-preserved-then-b-eq92 : goal.loop-i-preserved-then-b-eq92
loop-i-preserved-then-b-eq92 c =
    let l = c.loop-i in
    let here = c.escape-e.ensures.next_value ∙ piece_escape c.args.s.now l.i c.loop-i-test.true c.if-b-eq92.true in
    copying_escaped l.invariant here c.encoded-bytes.ensures c.put_all.ensures c.put_all.auto.s

pub overflow_add-j-else-b-eq92 : goal.overflow_add-j-else-b-eq92
overflow_add-j-else-b-eq92 c = omega (arith, c.loop-i.invariant.counting)

pub overflow_add-n-else-b-eq92 : goal.overflow_add-n-else-b-eq92
overflow_add-n-else-b-eq92 c = omega (arith, c.loop-i.invariant.counting, c.requires)

pub overflow_add-i-else-b-eq92 : goal.overflow_add-i-else-b-eq92
overflow_add-i-else-b-eq92 c = omega arith

pub loop-i-smaller : goal.loop-i-smaller
loop-i-smaller c = omega arith

pub loop-i-preserved : goal.loop-i-preserved
loop-i-preserved c =
    let l = c.loop-i in
    let here = piece_bare c.args.s.now l.i c.loop-i-test.true (c.type_inv.s l.i).fits c.if-b-eq34.false c.if-b-eq92.false in
    copying_bare l.invariant here c.put.ensures c.put.auto.s

pub returns : goal.returns
returns c =
    let l = c.loop-i in
    let here = piece_past c.args.s.now l.i c.loop-i-test.false in
    record { value = counting-close l.invariant.counting here; pool_after = copying_close l.invariant here }
