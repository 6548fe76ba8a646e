use mathlib.Core.Path.{subst}
use native.Mathlib.Omega.{arith}
use Rattle.jer.specs.Octets.{hex_value}
use Rattle.octets.specs.Decode.{Reads}
use Rattle.octets.proofs.DigitLaws.{hex-below}
use Rattle.octets.proofs.GroupLaws.{without, hex-end, hex-none, hex_half, hex-octet}
use Rattle.octets.proofs.decode.HexCoding.group.Goals as goal

pub returns-in_default : goal.returns-in_default
returns-in_default c =
    let d = subst (Reads hex_value c.args.s.now c.args.i) c.in-Is.is c.hex_digit.ensures in
    hex_half d (without c.hex_digit-in-Is.result c.in_default.not-Is c.hex_digit-in-Is.ensures)

pub overflow_mul-result : goal.overflow_mul-result
overflow_mul-result c =
    let d = subst (Reads hex_value c.args.s.now c.args.i) c.in-Is.is c.hex_digit.ensures in
    omega (arith, hex-below d)

pub overflow_add-result : goal.overflow_add-result
overflow_add-result c =
    let d = subst (Reads hex_value c.args.s.now c.args.i) c.in-Is.is c.hex_digit.ensures in
    let e = subst (Reads hex_value c.args.s.now c.in-Is.p) c.in-Is-hex_digit.is c.hex_digit-in-Is.ensures in
    omega (arith, hex-below d, hex-below e)

pub returns-in-End : goal.returns-in-End
returns-in-End c = hex-end (subst (Reads hex_value c.args.s.now c.args.i) c.in-End.is c.hex_digit.ensures)

pub returns-in-Other : goal.returns-in-Other
returns-in-Other c = hex-none (subst (Reads hex_value c.args.s.now c.args.i) c.in-Other.is c.hex_digit.ensures)

pub returns-in-Is-hex_digit : goal.returns-in-Is-hex_digit
returns-in-Is-hex_digit c =
    let d = subst (Reads hex_value c.args.s.now c.args.i) c.in-Is.is c.hex_digit.ensures in
    let e = subst (Reads hex_value c.args.s.now c.in-Is.p) c.in-Is-hex_digit.is c.hex_digit-in-Is.ensures in
    hex-octet d e
