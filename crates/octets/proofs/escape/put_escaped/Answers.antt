use mathlib.Core.Path.{sym, ap, ◌∙◌}
use lib.ListN.{length}
use Rattle.octets.proofs.EscapeLaws.{escaped-letter, escaped-plain, escaped_control, control_digits}
use Rattle.octets.proofs.PutLaws.{sets_as}
use Rattle.octets.proofs.escape.put_escaped.Goals as goal

pub returns-in-Some : goal.returns-in-Some
returns-in-Some c =
    let e = escaped-letter c.ranges.b.fits c.in-Some.ensures in
    record { value = sym (ap length e); text_after = sets_as c.args.text.now c.args.k (sym e) c.put_all.ensures }

pub returns-then-b-ge32 : goal.returns-then-b-ge32
returns-then-b-ge32 c =
    let e = escaped-plain c.ranges.b.fits c.in_default.ensures c.if-b-ge32.true in
    record { value = sym (ap length e); text_after = sets_as c.args.text.now c.args.k (sym e) c.put.ensures }

pub returns : goal.returns
returns c =
    let e = escaped_control c.ranges.b.fits c.in_default.ensures c.if-b-ge32.false in
    record { value = sym (ap length e); text_after = sets_as c.args.text.now c.args.k (control_digits c.args.b c.hex_digit.ensures c.hex_digit-2.ensures ∙ sym e) c.put_all-2.ensures }
