use Rattle.std.proofs.lemmas.Option.{IfSome_then}
use Rattle.spelled.proofs.AnyNumber.{signed-bare, signed-minus}
use Rattle.spelled.proofs.number.signed.Goals as goal

pub returns-then-byte_at-eq45 : goal.returns-then-byte_at-eq45
returns-then-byte_at-eq45 c = IfSome_then c.whole.result c.whole.ensures (λ q k. signed-minus c.args.s.now c.args.p q _ c.byte_at.ensures.value c.if-byte_at-eq45.true k)

pub returns : goal.returns
returns c = IfSome_then c.whole-2.result c.whole-2.ensures (λ q k. signed-bare c.args.s.now c.args.p q k)
