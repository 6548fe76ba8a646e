use Rattle.std.proofs.lemmas.Option.{IfSome_then}
use Rattle.spelled.proofs.AnyNumber.{number-here}
use Rattle.spelled.proofs.number.number.Goals as goal

pub returns : goal.returns
returns c = IfSome_then c.power.result c.power.ensures (λ q k d. number-here c.args.s.now d c.args.p _ _ q c.in_ok-q.ensures c.in_ok-f.ensures k)
