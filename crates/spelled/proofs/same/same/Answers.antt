use Rattle.spelled.proofs.SameLaws.{same-eq}
use Rattle.spelled.proofs.same.same.Goals as goal

pub returns : goal.returns
returns c = same-eq c.args.s.now c.args.p c.args.x.now c.eq.ensures
