use Rattle.spelled.proofs.AnyNumber.{digits-some}
use Rattle.spelled.proofs.number.some_digits.Goals as goal

pub returns-else-q-p : goal.returns-else-q-p
returns-else-q-p c = digits-some c.args.s.now c.args.p c.digits-q.result (c.digits-q.ensures.by_index 0) c.digits-q.ensures.within.0 c.if-q-p.false
