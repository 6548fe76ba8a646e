use borrow.Author.Tests.{leb-true, not-false}
use native.Mathlib.Omega.{arith}
use Rattle.spelled.proofs.CharLaws.{false-true, three-low, three-high, three-other}
use Rattle.spelled.proofs.character.three.Goals as goal

pub returns-then-not-later : goal.returns-then-not-later
returns-then-not-later c = λ h. false-true h

pub returns-then-not-later-2 : goal.returns-then-not-later-2
returns-then-not-later-2 c = λ h. false-true h

pub returns-then-a-eq224 : goal.returns-then-a-eq224
returns-then-a-eq224 c =
    let a = c.args in
    let i = c.later.ensures (not-false _ c.if-not-later.false-raw) in
    let j = c.later-2.ensures (not-false _ c.if-not-later-2.false-raw) in
    λ h. (three-low a.a a.b a.c i j c.if-a-eq224.true (leb-true _ _ h), omega (arith, j.1))

pub returns-then-a-eq237 : goal.returns-then-a-eq237
returns-then-a-eq237 c =
    let a = c.args in
    let i = c.later.ensures (not-false _ c.if-not-later.false-raw) in
    let j = c.later-2.ensures (not-false _ c.if-not-later-2.false-raw) in
    λ h. (three-high a.a a.b a.c i j c.if-a-eq237.true (leb-true _ _ h), omega (arith, j.1))

pub returns : goal.returns
returns c =
    let a = c.args in
    let i = c.later.ensures (not-false _ c.if-not-later.false-raw) in
    let j = c.later-2.ensures (not-false _ c.if-not-later-2.false-raw) in
    λ h. (three-other a.a a.b a.c i j c.requires.0 c.requires.1 c.if-a-eq224.false c.if-a-eq237.false, omega (arith, j.1))
