use mathlib.Core.Path.{ap, ◌∙◌}
use Prim.Native.Nat.{ℕ, ◌+◌, ◌-◌, ◌*◌}
use native.Mathlib.Omega.{arith}
use Rattle.tokens.proofs.StringLaws.{high-range, pair-sum}
use Rattle.tokens.proofs.strings.pair.Goals as goal

pub returns : goal.returns
returns c =
    let a = c.args in
    (ap (λ (n : ℕ). 0x10000 + (a.high - 0xD800) * 0x400 + n) c.saturating_sub.ensures ∙ pair-sum a.high a.low, omega (arith, high-range a.high c.requires.0, c.saturating_sub.ensures, c.requires.1))
