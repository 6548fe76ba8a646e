use mathlib.Core.Path.{sym, ◌∙◌}
use native.Mathlib.Omega.{arith}
use Rattle.tokens.proofs.PlaceLaws.{inside}
use Rattle.spelled.proofs.SkipLaws.{name-here}
use Rattle.spelled.proofs.skip.name.Goals as goal

pub returns : goal.returns
returns c = let s = c.args.s.now in let z = c.space-c.result in let k = c.in_ok-w.ensures in (λ o x. name-here s k.chars o c.args.p _ z x k.passed c.space-c.ensures.stretch (sym c.byte_at.ensures.value ∙ c.if-byte_at-ne58.false), omega (arith, k.passed.ahead, c.space-c.ensures.within.0), omega (arith, inside s z (λ e. omega (arith, c.byte_at.ensures.value))))
