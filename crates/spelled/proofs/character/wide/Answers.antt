use mathlib.Core.Path.{sym, ◌∙◌}
use native.Mathlib.Omega.{arith}
use mathlib.Core.List.{[], ◌∷◌}
use Rattle.tokens.proofs.PlaceLaws.{byte_inside}
use Rattle.spelled.proofs.CharLaws.{wide-here, wide-two}
use Rattle.spelled.proofs.character.wide.Goals as goal

pub returns-then-later : goal.returns-then-later
returns-then-later c =
    let s = c.args.s.now in
    let p = c.args.p in
    let a = c.byte-a in
    let e = sym (c.byte-a.ensures.0 ∙ byte_inside s p c.requires) in
    let i = c.later.ensures c.if-later.true in
    (wide-here s p a.result (c.byte_at-b.result ∷ []) e a.ensures.1 (sym c.byte_at-b.ensures.value, omega (arith, i.1), tt) (wide-two _ _ (omega (arith, c.if-a-lt194.false)) c.if-a-lt224.true i), omega arith)

pub returns-then-three : goal.returns-then-three
returns-then-three c =
    let s = c.args.s.now in
    let p = c.args.p in
    let a = c.byte-a in
    let e = sym (c.byte-a.ensures.0 ∙ byte_inside s p c.requires) in
    let i = c.three.ensures c.if-three.true in
    (wide-here s p a.result (c.byte_at-b.result ∷ c.byte_at-c.result ∷ []) e a.ensures.1 (sym c.byte_at-b.ensures.value, omega (arith, c.if-b-gt255.false), (sym c.byte_at-c.ensures.value, i.1, tt)) i.0, omega arith)

pub returns-then-four : goal.returns-then-four
returns-then-four c =
    let s = c.args.s.now in
    let p = c.args.p in
    let a = c.byte-a in
    let e = sym (c.byte-a.ensures.0 ∙ byte_inside s p c.requires) in
    let i = c.four.ensures c.if-four.true in
    (wide-here s p a.result (c.byte_at-b.result ∷ c.byte_at-c.result ∷ c.byte_at.result ∷ []) e a.ensures.1 (sym c.byte_at-b.ensures.value, omega (arith, c.if-b-gt255.false), (sym c.byte_at-c.ensures.value, omega (arith, c.if-c-gt255.false), (sym c.byte_at.ensures.value, i.1, tt))) i.0, omega arith)
