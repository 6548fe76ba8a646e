use Prim.Native.Nat.{ℕ}
use mathlib.Core.Path.{sym, ap, ◌∙◌}
use mathlib.Core.List.{List, [], ◌∷◌}
use native.Mathlib.Omega.{arith}
use lib.ListN.{length}
use lib.Seq.{sets}
use Rattle.jer.specs.Write.{digits, int_text}
use Rattle.octets.proofs.IntegerLaws.{int-plus, int-minus}
use Rattle.octets.proofs.PutLaws.{sets-next}
use Rattle.octets.proofs.integer.put_integer.Goals as goal

pub returns-then-n-lt9223372036854775808 : goal.returns-then-n-lt9223372036854775808
returns-then-n-lt9223372036854775808 c =
    let a = c.args in
    let e = sym (int-plus c.joined-n.result c.if-n-lt9223372036854775808.true) ∙ ap int_text c.joined-n.ensures in
    record { value = c.put_digits.ensures.value ∙ ap length e; text_after = c.put_digits.ensures.text_after ∙ ap (λ (l : List ℕ). sets a.text.now a.k l) e }

pub returns : goal.returns
returns c =
    let a = c.args in
    let e = sym (int-minus c.joined-n.result c.wrapping_neg.result c.if-n-lt9223372036854775808.false c.joined-n.type_inv c.wrapping_neg.type_inv c.wrapping_neg.ensures) ∙ ap int_text c.joined-n.ensures in
    record { value = omega (arith, ap length e, c.put_digits-2.ensures.value); text_after = sets-next a.text.now a.k (0x2D ∷ []) (digits 20 c.wrapping_neg.result []) c.put.ensures c.put_digits-2.ensures.text_after ∙ ap (λ (l : List ℕ). sets a.text.now a.k l) e }
