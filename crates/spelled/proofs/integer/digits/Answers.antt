use native.Mathlib.Omega.{arith}
use Rattle.spelled.proofs.NumberLaws.{onto_none, onto_more, few-one, few-more, few-small, few-room}
use Rattle.spelled.proofs.integer.digits.Goals as goal

pub loop-q-init : goal.loop-q-init
loop-q-init c = (onto_none c.args.s.now c.args.p c.args.first, few-one c.args.first c.args.p c.requires)

pub returns-then-not-matches-clause-within : goal.returns-then-not-matches-clause-within
returns-then-not-matches-clause-within c = let w = c.until-end.ensures in (omega (arith, w), few-small c.loop-q.m c.args.p c.loop-q.q (omega (arith, w)) c.loop-q.invariant.1)

pub overflow_mul-m : goal.overflow_mul-m
overflow_mul-m c = omega (arith, few-room c.loop-q.m c.args.p c.loop-q.q (omega arith) c.loop-q.invariant.1)

pub overflow_add-m : goal.overflow_add-m
overflow_add-m c = omega (arith, few-room c.loop-q.m c.args.p c.loop-q.q (omega arith) c.loop-q.invariant.1)

pub loop-q-preserved : goal.loop-q-preserved
loop-q-preserved c = (onto_more c.args.s.now c.args.p c.loop-q.q c.args.first c.loop-q.m _ c.loop-q.invariant.0 (omega (arith, c.until-end.ensures)) c.from-b.ensures (omega arith) (omega arith), few-more c.loop-q.m _ c.args.p c.loop-q.q (omega arith) (omega arith) c.loop-q.invariant.1)

pub returns-clause-within : goal.returns-clause-within
returns-clause-within c = let w = c.until-end.ensures in (omega (arith, w), few-small c.loop-q.m c.args.p c.loop-q.q (omega (arith, w)) c.loop-q.invariant.1)
