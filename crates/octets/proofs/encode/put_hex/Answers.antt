use Prim.Native.Nat.{◌+◌}
use native.Mathlib.Omega.{arith}
use lib.ListN.{get_or}
use Rattle.jer.specs.Octets.{hex}
use Rattle.octets.proofs.EncodeLaws.{hex-one, hex-done, hex-next}
use Rattle.octets.proofs.PutLaws.{sets_as, putting_start, putting_done}
use Rattle.octets.proofs.encode.put_hex.Goals as goal

pub loop-b-init : goal.loop-b-init
loop-b-init c = putting_start (hex c.args.octets.now) c.args.text.now c.args.k

pub hex_digit-requires : goal.hex_digit-requires
hex_digit-requires c = omega (arith, c.type_inv.octets c.loop-b.b-index)

pub loop-b-preserved : goal.loop-b-preserved
loop-b-preserved c =
    let b = get_or c.args.octets.now c.loop-b.b-index 0 in
    hex-next c.args.octets.now c.loop-b.b-index c.loop-b.invariant c.loop-b-test.true
    (sets_as c.loop-b.text (c.args.k + c.loop-b.n) (hex-one b c.hex_digit.ensures c.hex_digit-in-loop-b.ensures) c.put_all.ensures)
    c.put_all.auto.s

pub returns-clause-value : goal.returns-clause-value
returns-clause-value c = (putting_done c.loop-b.invariant (hex-done c.args.octets.now c.loop-b.b-index c.loop-b-test.false)).0

pub returns-clause-text_after : goal.returns-clause-text_after
returns-clause-text_after c = (putting_done c.loop-b.invariant (hex-done c.args.octets.now c.loop-b.b-index c.loop-b-test.false)).1
