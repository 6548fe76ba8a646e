use borrow.Author.Tests.{leb-true, ltb-true, not-false}
use native.Mathlib.Omega.{arith}
use Rattle.spelled.proofs.CharLaws.{false-true, four_low, four-high, four-other}
use Rattle.spelled.proofs.character.four.Goals as goal

pub returns-then-not-later : goal.returns-then-not-later
returns-then-not-later c = λ h. false-true h

pub returns-then-not-later-2 : goal.returns-then-not-later-2
returns-then-not-later-2 c = λ h. false-true h

pub returns-then-not-later-3 : goal.returns-then-not-later-3
returns-then-not-later-3 c = λ h. false-true h

pub returns-then-a-eq240 : goal.returns-then-a-eq240
returns-then-a-eq240 c =
    let a = c.args in
    let i = c.later.ensures (not-false _ c.if-not-later.false-raw) in
    let j = c.later-2.ensures (not-false _ c.if-not-later-2.false-raw) in
    let k = c.later-3.ensures (not-false _ c.if-not-later-3.false-raw) in
    λ h. (four_low a.a a.b a.c i j a.d k c.if-a-eq240.true (leb-true _ _ h), omega (arith, k.1))

pub returns-then-a-eq244 : goal.returns-then-a-eq244
returns-then-a-eq244 c =
    let a = c.args in
    let i = c.later.ensures (not-false _ c.if-not-later.false-raw) in
    let j = c.later-2.ensures (not-false _ c.if-not-later-2.false-raw) in
    let k = c.later-3.ensures (not-false _ c.if-not-later-3.false-raw) in
    λ h. (four-high a.a a.b a.c i j a.d k c.if-a-eq244.true (leb-true _ _ h), omega (arith, k.1))

pub returns : goal.returns
returns c =
    let a = c.args in
    let i = c.later.ensures (not-false _ c.if-not-later.false-raw) in
    let j = c.later-2.ensures (not-false _ c.if-not-later-2.false-raw) in
    let k = c.later-3.ensures (not-false _ c.if-not-later-3.false-raw) in
    λ h. (four-other a.a a.b a.c i j a.d k c.requires c.if-a-eq240.false (ltb-true _ _ h), omega (arith, k.1))
