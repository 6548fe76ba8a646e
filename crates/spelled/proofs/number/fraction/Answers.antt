use Rattle.std.proofs.lemmas.Option.{IfSome_then}
use Rattle.spelled.proofs.AnyNumber.{dotted_none, dotted_some}
use Rattle.spelled.proofs.number.fraction.Goals as goal

pub returns-then-byte_at-eq46 : goal.returns-then-byte_at-eq46
returns-then-byte_at-eq46 c = IfSome_then c.some_digits.result c.some_digits.ensures (λ q k. dotted_some c.args.s.now c.args.p q _ c.byte_at.ensures.value c.if-byte_at-eq46.true k)

pub returns : goal.returns
returns c = dotted_none c.args.s.now c.args.p
