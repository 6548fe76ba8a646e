use Rattle.std.proofs.lemmas.Option.{IfSome_then}
use Rattle.spelled.proofs.AnyNumber.{raised-bare, raised-signed}
use Rattle.spelled.proofs.number.raised.Goals as goal

pub returns-in-43 : goal.returns-in-43
returns-in-43 c = IfSome_then c.some_digits.result c.some_digits.ensures (λ q k. raised-signed c.args.s.now c.args.p q _ c.byte_at.ensures.value c.in-43.is k)

pub returns-in_default : goal.returns-in_default
returns-in_default c = IfSome_then c.some_digits-in_default.result c.some_digits-in_default.ensures (λ q k. raised-bare c.args.s.now c.args.p q k)
