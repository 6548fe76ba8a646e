use mathlib.Core.Path.{sym, subst, ◌∙◌}
use Rattle.octets.specs.Decode.{ascii_value, Reads}
use Rattle.octets.proofs.DigitLaws.{digit-some, digit-none, digit-wide, hex-wide}
use Rattle.octets.proofs.decode.hex_digit.Goals as goal

pub returns-in-End : goal.returns-in-End
returns-in-End c = subst (Reads ascii_value c.args.s.now c.args.i) c.in-End.is c.next_char.ensures

pub returns-in-Other : goal.returns-in-Other
returns-in-Other c = digit-wide hex-wide (subst (Reads ascii_value c.args.s.now c.args.i) c.in-Other.is c.next_char.ensures)

pub returns-in-Some : goal.returns-in-Some
returns-in-Some c =
    let d = subst (Reads ascii_value c.args.s.now c.args.i) c.in-Is.is c.next_char.ensures in
    digit-some d (sym c.hex_value.ensures.value ∙ c.in-Some.is)

pub returns-in-None : goal.returns-in-None
returns-in-None c =
    let d = subst (Reads ascii_value c.args.s.now c.args.i) c.in-Is.is c.next_char.ensures in
    digit-none d (sym c.hex_value.ensures.value ∙ c.in-None.is)
