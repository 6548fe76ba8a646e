use native.Mathlib.Omega.{arith}
use Rattle.octets.proofs.EncodeLaws.{hex-length, base64-length}
use Rattle.octets.proofs.EscapeLaws.{escapes-few}
use Rattle.written.proofs.put.store.Goals as goal

pub put_escapes-requires : goal.put_escapes-requires
put_escapes-requires c = omega (arith, escapes-few c.args.s.now)

pub put_hex-requires : goal.put_hex-requires
put_hex-requires c = omega (arith, hex-length c.args.s.now)

pub put_base64-requires : goal.put_base64-requires
put_base64-requires c = omega (arith, base64-length c.args.s.now)
