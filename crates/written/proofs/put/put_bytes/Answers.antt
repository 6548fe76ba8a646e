use mathlib.Core.Path.{refl}
use native.Mathlib.Omega.{arith}
use Rattle.written.proofs.PutLaws.{puts_none, puts-next, puts-stored}
use Rattle.octets.proofs.AmountLaws.{amount-within}
use borrow.Author.Rules.{rules}
use Rattle.written.proofs.put.put_bytes.Goals as goal

pub returns-then-has_room : goal.returns-then-has_room
returns-then-has_room c = puts-stored (amount-within _ (omega (arith, c.has_room.ensures c.if-has_room.true))) c.copy.ensures

pub loop-b-init : goal.loop-b-init
loop-b-init c = (refl, puts_none _ _ (omega arith))

pub loop-b-preserved : goal.loop-b-preserved
loop-b-preserved c =
    let inv = c.loop-b.invariant in
    (search rules, puts-next _ c.loop-b.b-index c.loop-b-test.true inv.1 c.put_byte-p.ensures)
