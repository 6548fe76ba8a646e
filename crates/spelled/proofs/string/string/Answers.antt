use mathlib.Core.Path.{refl, sym, ◌∙◌}
use native.Mathlib.Omega.{arith}
use Prim.Native.Nat.{◌+◌, ◌-◌}
use mathlib.Core.Bool.{false}
use Rattle.spelled.specs.Leaves.{CharsAt}
use Rattle.spelled.proofs.StringLaws.{chars_selves, chars-then, string-of}
use Rattle.spelled.proofs.string.string.Goals as goal

pub returns-then-byte_at-eq34 : goal.returns-then-byte_at-eq34
returns-then-byte_at-eq34 c = let s = c.args.s.now in let p = c.args.p in let q = c.run-q.result in string-of s p q _ false (sym c.byte_at.ensures.value ∙ c.if-byte_at-ne34.false) (chars_selves s (p + 1) q _ c.run-q.ensures.stretch (omega (arith, c.run-q.ensures.within.0))) (sym c.byte_at-2.ensures.value ∙ c.if-byte_at-eq34.true)

pub returns : goal.returns
returns c =
    let s = c.args.s.now in
    let p = c.args.p in
    let q = c.run-q.result in
    let r = c.in_ok-r.r in
    let k = c.in_ok-r.ensures in
    let x : CharsAt s (p + 1) q (q - p - 1) false = chars_selves s (p + 1) q (q - p - 1) c.run-q.ensures.stretch (omega (arith, c.run-q.ensures.within.0)) in
    string-of s p r.next _ r.escaped (sym c.byte_at.ensures.value ∙ c.if-byte_at-ne34.false) (chars-then s (p + 1) q r.next (q - p - 1) r.count false r.escaped r.escaped x k.0 (λ i. refl) (λ i. i)) k.1
