use Prim.Native.Nat.{◌*◌}
use mathlib.Core.Path.{◌≡◌, ◌∙◌}
use native.Mathlib.Omega.{arith}
use lib.ListN.{length}
use Rattle.jer.specs.Octets.{hex}
use Rattle.octets.proofs.AmountLaws.{amount-within}
use Rattle.octets.proofs.EncodeLaws.{hex-length}
use Rattle.octets.proofs.encode.hex_len.Goals as goal

pub returns : goal.returns
returns c =
    let os = c.args.octets.now in
    let n : length os * 2 ≡ length (hex os) = omega (arith, hex-length os) in
    n ∙ amount-within (length (hex os)) (omega arith)
