use Rattle.std.proofs.lemmas.Option.{IfSome_then}
use Rattle.spelled.proofs.AnyNumber.{power-none, power-some}
use Rattle.spelled.proofs.number.power.Goals as goal

pub returns-in-69 : goal.returns-in-69
returns-in-69 c = IfSome_then c.raised.result c.raised.ensures (λ q k. power-some c.args.s.now c.args.p q _ c.byte_at.ensures.value c.in-69.is k)

pub returns-in_default : goal.returns-in_default
returns-in_default c = power-none c.args.s.now c.args.p
