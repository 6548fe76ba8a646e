use mathlib.Core.Path.{sym, ap, ◌∙◌}
use native.Mathlib.Omega.{arith}
use lib.ListN.{length}
use Rattle.jer.specs.Write.{int_text}
use Rattle.octets.proofs.IntegerLaws.{int-plus, int-minus}
use Rattle.octets.proofs.integer.integer_len.Goals as goal

pub returns-then-n-lt9223372036854775808 : goal.returns-then-n-lt9223372036854775808
returns-then-n-lt9223372036854775808 c = c.digit_count.ensures.value ∙ ap length (sym (int-plus c.joined-n.result c.if-n-lt9223372036854775808.true) ∙ ap int_text c.joined-n.ensures)

pub returns : goal.returns
returns c =
    let e = sym (int-minus c.joined-n.result c.wrapping_neg.result c.if-n-lt9223372036854775808.false c.joined-n.type_inv c.wrapping_neg.type_inv c.wrapping_neg.ensures) ∙ ap int_text c.joined-n.ensures in
    omega (arith, ap length e, c.digit_count-2.ensures.value)
