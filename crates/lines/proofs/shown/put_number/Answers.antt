use mathlib.Core.Path.{◌∙◌}
use native.Mathlib.Omega.{arith}
use Rattle.octets.proofs.PutLaws.{sets_as}
use Rattle.lines.proofs.ShownLaws.{number_digits, number-length}
use Rattle.lines.proofs.shown.put_number.Goals as goal

pub put_hex-requires : goal.put_hex-requires
put_hex-requires c = omega (arith, number-length c.args.x c.octets_of-four.ensures)

pub returns : goal.returns
returns c =
    let a = c.args in
    let four = c.octets_of-four.ensures in
    record { value = c.put_hex.ensures.value ∙ number-length a.x four; text_after = sets_as a.text.now a.k (number_digits a.x four) c.put_hex.ensures.text_after }
