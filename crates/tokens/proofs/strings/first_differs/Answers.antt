use mathlib.Core.Path.{sym, ◌∙◌}
use borrow.Author.Tests.{eqb-false, not-true}
use Rattle.tokens.proofs.StringLaws.{denoted-other}
use Rattle.tokens.proofs.strings.first_differs.Goals as goal

pub returns-in-Some : goal.returns-in-Some
returns-in-Some c e s p n h =
    let a = c.args in
    let differs = eqb-false _ _ (not-true _ e) in
    let here = rw c.in-Some.is at h in
    denoted-other s p a.names.now a.from here (λ w. differs (c.byte_at.ensures.value ∙ w ∙ sym c.from.ensures)) n
