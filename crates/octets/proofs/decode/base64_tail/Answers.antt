use mathlib.Core.Path.{sym, subst, ◌∙◌}
use native.Mathlib.Omega.{arith}
use borrow.Author.Tests.{not-true, not-false}
use Rattle.jer.specs.Octets.{base64_value}
use Rattle.octets.specs.Decode.{Reads}
use Rattle.octets.proofs.DigitLaws.{base64-below}
use Rattle.octets.proofs.GroupLaws.{without, tail-bits, tail-other, tail-one, tail-bits_2, tail-other_2, tail-two, tail-three}
use Rattle.octets.proofs.decode.base64_tail.Goals as goal

pub returns-then-y-ne0 : goal.returns-then-y-ne0
returns-then-y-ne0 c = tail-bits (without c.base64_digit.result c.in_default.not-Is c.base64_digit.ensures) (λ e. c.if-y-ne0.true (omega arith))

pub returns-then-not-same_as : goal.returns-then-not-same_as
returns-then-not-same_as c = tail-other (without c.base64_digit.result c.in_default.not-Is c.base64_digit.ensures) (sym c.same_as.ensures ∙ not-true c.same_as.result c.if-not-same_as.true-raw)

pub returns-in_default : goal.returns-in_default
returns-in_default c = tail-one c.args.s.now c.args.i (omega arith) (sym c.same_as.ensures ∙ not-false c.same_as.result c.if-not-same_as.false-raw)

pub returns-then-z-ne0 : goal.returns-then-z-ne0
returns-then-z-ne0 c =
    let d = subst (Reads base64_value c.args.s.now c.args.i) c.in-Is.is c.base64_digit.ensures in
    tail-bits_2 d (without c.base64_digit-2.result c.in_default-base64_digit.not-Is c.base64_digit-2.ensures) (λ e. c.if-z-ne0.true (omega arith))

pub returns-then-not-same_as-2 : goal.returns-then-not-same_as-2
returns-then-not-same_as-2 c =
    let d = subst (Reads base64_value c.args.s.now c.args.i) c.in-Is.is c.base64_digit.ensures in
    tail-other_2 d (without c.base64_digit-2.result c.in_default-base64_digit.not-Is c.base64_digit-2.ensures) (sym c.same_as-in_default-base64_digit.ensures ∙ not-true c.same_as-in_default-base64_digit.result c.if-not-same_as-2.true-raw)

pub overflow_add-result-in_default-base64_digit-2 : goal.overflow_add-result-in_default-base64_digit-2
overflow_add-result-in_default-base64_digit-2 c =
    let d = subst (Reads base64_value c.args.s.now c.args.i) c.in-Is.is c.base64_digit.ensures in
    omega (arith, base64-below d)

pub returns-in_default-base64_digit : goal.returns-in_default-base64_digit
returns-in_default-base64_digit c =
    let d = subst (Reads base64_value c.args.s.now c.args.i) c.in-Is.is c.base64_digit.ensures in
    tail-two d (omega arith) (sym c.same_as-in_default-base64_digit.ensures ∙ not-false c.same_as-in_default-base64_digit.result c.if-not-same_as-2.false-raw)

pub overflow_add-result-3 : goal.overflow_add-result-3
overflow_add-result-3 c =
    let d = subst (Reads base64_value c.args.s.now c.args.i) c.in-Is.is c.base64_digit.ensures in
    omega (arith, base64-below d)

pub overflow_add-result-4 : goal.overflow_add-result-4
overflow_add-result-4 c =
    let d = subst (Reads base64_value c.args.s.now c.args.i) c.in-Is.is c.base64_digit.ensures in
    let e = subst (Reads base64_value c.args.s.now c.in-Is.p) c.in-Is-base64_digit.is c.base64_digit-2.ensures in
    omega (arith, base64-below d, base64-below e)

pub returns : goal.returns
returns c =
    let d = subst (Reads base64_value c.args.s.now c.args.i) c.in-Is.is c.base64_digit.ensures in
    let e = subst (Reads base64_value c.args.s.now c.in-Is.p) c.in-Is-base64_digit.is c.base64_digit-2.ensures in
    tail-three d e
