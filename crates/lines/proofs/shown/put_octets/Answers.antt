use native.Mathlib.Omega.{arith}
use Rattle.jer.specs.Octets.{hex}
use Rattle.octets.proofs.EncodeLaws.{hex-length}
use Rattle.lines.proofs.ShownLaws.{line_length, line_stored}
use Rattle.lines.proofs.shown.put_octets.Goals as goal

pub put_hex-n-requires : goal.put_hex-n-requires
put_hex-n-requires c = omega (arith, hex-length c.args.octets.now)

pub overflow_add-k : goal.overflow_add-k
overflow_add-k c = omega (arith, hex-length c.args.octets.now)

pub overflow_add-result : goal.overflow_add-result
overflow_add-result c = omega (arith, hex-length c.args.octets.now)

pub returns : goal.returns
returns c =
    let a = c.args in
    (omega (arith, line_length (hex a.octets.now), c.put_hex-n.ensures.value), line_stored (hex a.octets.now) a.text.now a.k c.put_hex-n.ensures.value c.put_hex-n.ensures.text_after c.put.ensures)
