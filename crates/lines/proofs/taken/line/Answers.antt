use native.Mathlib.Omega.{arith}
use Rattle.lines.specs.Taken.{octets_of}
use Rattle.lines.proofs.TakenLaws.{line_ends, unit-missing, unit-bad, unit-taken}
use Rattle.lines.proofs.taken.line.Goals as goal

pub returns-then-s-at : goal.returns-then-s-at
returns-then-s-at g c =
    let u = g.U.Unit in
    let all = unit-missing u.units u.OCTETS c.args.s.now c.args.at c.args.out.now c.if-s-at.true in
    record { value = all.0; out_after = all.1 }

pub returns-then-not-is_good : goal.returns-then-not-is_good
returns-then-not-is_good g c =
    let u = g.U.Unit in
    let all = unit-bad u.units u.OCTETS c.args.s.now c.args.at c.args.out.now c.if-s-at.false c.line_len-n.ensures c.part-line.ensures c.OCTETS.ensures c.if-not-is_good.ensures in
    record { value = all.0; out_after = all.1 }

pub overflow_add-result : goal.overflow_add-result
overflow_add-result g c = omega (arith, line_ends c.args.s.now c.args.at c.if-s-at.false c.line_len-n.ensures)

pub overflow_add-result-2 : goal.overflow_add-result-2
overflow_add-result-2 g c = omega (arith, line_ends c.args.s.now c.args.at c.if-s-at.false c.line_len-n.ensures)

pub returns : goal.returns
returns g c =
    let u = g.U.Unit in
    let l = c.part-line.result.now in
    let all =
    unit-taken u.units u.OCTETS c.args.s.now c.args.at c.args.out.now c.if-s-at.false c.line_len-n.ensures c.part-line.ensures c.OCTETS.ensures
    c.OCTETS-2.ensures c.if-not-is_good.ensures (g.met.U.Unit.count (octets_of l)) c.store.ensures in
    record { value = all.0; out_after = all.1 }
