use Rattle.spelled.proofs.PutLaws.{last-full, last_one, last-two}
use Rattle.spelled.proofs.put.put_last.Goals as goal

pub returns-then-s-q-ne61 : goal.returns-then-s-q-ne61
returns-then-s-q-ne61 c = last-full c.args.s.now c.args.q c.args.pool.now _ c.args.o c.if-s-q-ne61.true c.put_group.ensures

pub returns-then-s-q-ne61-2 : goal.returns-then-s-q-ne61-2
returns-then-s-q-ne61-2 c = last-two c.args.s.now c.args.q c.args.pool.now c.put.new.s c.args.o _ _ c.value_at-x.ensures.0 c.value_at-y.ensures.0 c.if-s-q-ne61.false c.put.ensures _ _ c.if-s-q-ne61-2.true c.value_at-z.ensures.0 c.put-then-s-q-ne61-2.ensures

pub returns-else-s-q-ne61-2 : goal.returns-else-s-q-ne61-2
returns-else-s-q-ne61-2 c = last_one c.args.s.now c.args.q c.args.pool.now c.put.new.s c.args.o _ _ c.value_at-x.ensures.0 c.value_at-y.ensures.0 c.if-s-q-ne61.false c.put.ensures c.if-s-q-ne61-2.false
