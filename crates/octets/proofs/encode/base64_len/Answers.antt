use Prim.Native.Nat.{◌+◌, ◌*◌, ◌/◌}
use mathlib.Core.Path.{◌≡◌, ◌∙◌}
use native.Mathlib.Omega.{arith}
use lib.ListN.{length}
use Rattle.jer.specs.Octets.{base64}
use Rattle.octets.proofs.AmountLaws.{amount-within}
use Rattle.octets.proofs.EncodeLaws.{base64-length}
use Rattle.octets.proofs.encode.base64_len.Goals as goal

pub returns : goal.returns
returns c =
    let os = c.args.octets.now in
    let n : (length os + 2) / 3 * 4 ≡ length (base64 os) = omega (arith, base64-length os) in
    n ∙ amount-within (length (base64 os)) (omega arith)
