use mathlib.Core.Path.{sym, ◌∙◌}
use Prim.Native.Nat.{◌-◌}
use Rattle.tokens.specs.Numbers.{digits_at}
use Rattle.tokens.proofs.NumberLaws.{within-fits, whole_broken, whole-over, whole-fits}
use Rattle.tokens.proofs.numbers.whole.Goals as goal

pub returns-then-breaks : goal.returns-then-breaks
returns-then-breaks c =
    let a = c.args in
    let r = c.run-end in
    whole_broken a.s.now a.p r.result c.byte_at.result a.minus r.ensures c.byte_at.ensures.value (sym c.breaks.ensures ∙ c.if-breaks.true)

pub returns-in_err-magnitude_at : goal.returns-in_err-magnitude_at
returns-in_err-magnitude_at c =
    let a = c.args in
    let r = c.run-end in
    c.from_residual.ensures ∙ whole-over a.s.now a.p r.result c.byte_at.result a.minus r.ensures c.byte_at.ensures.value (sym c.breaks.ensures ∙ c.if-breaks.false) (sym (c.in_err-magnitude_at.was) ∙ c.magnitude_at.ensures)

pub complement-requires : goal.complement-requires
complement-requires c =
    let a = c.args in
    let r = c.run-end in
    (within-fits c.in_ok-magnitude_at.field-0 (digits_at a.s.now a.p (r.result - a.p) 0) (sym (c.in_ok-magnitude_at.was) ∙ c.magnitude_at.ensures)).1

pub returns : goal.returns
returns c =
    let a = c.args in
    let r = c.run-end in
    c.complement.ensures ∙ whole-fits a.s.now a.p r.result c.byte_at.result a.minus r.ensures c.byte_at.ensures.value (sym c.breaks.ensures ∙ c.if-breaks.false) c.in_ok-magnitude_at.field-0 (sym c.in_ok-magnitude_at.was ∙ c.magnitude_at.ensures)
