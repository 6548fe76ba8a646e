use mathlib.Core.Path.{subst}
use Rattle.jer.specs.Octets.{base64_value}
use Rattle.octets.specs.Decode.{Reads}
use Rattle.octets.proofs.DigitLaws.{base64-below}
use Rattle.octets.proofs.GroupLaws.{without, base64-end, base64-none, base64_half, base64-first}
use Rattle.octets.proofs.decode.Base64Coding.group.Goals as goal

pub returns-in_default : goal.returns-in_default
returns-in_default c =
    let d = subst (Reads base64_value c.args.s.now c.args.i) c.in-Is.is c.base64_digit.ensures in
    base64_half d (without c.base64_digit-in-Is.result c.in_default.not-Is c.base64_digit-in-Is.ensures)

pub base64_tail-requires : goal.base64_tail-requires
base64_tail-requires c =
    let d = subst (Reads base64_value c.args.s.now c.args.i) c.in-Is.is c.base64_digit.ensures in
    let e = subst (Reads base64_value c.args.s.now c.in-Is.p) c.in-Is-base64_digit.is c.base64_digit-in-Is.ensures in
    (c.requires, base64-below d, base64-below e)

pub returns-in-End : goal.returns-in-End
returns-in-End c = base64-end (subst (Reads base64_value c.args.s.now c.args.i) c.in-End.is c.base64_digit.ensures)

pub returns-in-Other : goal.returns-in-Other
returns-in-Other c = base64-none (subst (Reads base64_value c.args.s.now c.args.i) c.in-Other.is c.base64_digit.ensures)

pub returns-in-Is-base64_digit : goal.returns-in-Is-base64_digit
returns-in-Is-base64_digit c =
    let d = subst (Reads base64_value c.args.s.now c.args.i) c.in-Is.is c.base64_digit.ensures in
    let e = subst (Reads base64_value c.args.s.now c.in-Is.p) c.in-Is-base64_digit.is c.base64_digit-in-Is.ensures in
    base64-first d e c.base64_tail.result c.base64_tail.ensures
