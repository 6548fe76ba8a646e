use Prim.Native.Nat.{◌-◌}
use lib.ListN.{length}
use native.Mathlib.Omega.{arith}
use Rattle.spelled.proofs.SameLaws.{middle_first, middle_differs, middle_last}
use Rattle.spelled.proofs.same.same_middle.Goals as goal

pub returns-then-four : goal.returns-then-four
returns-then-four c =
    let s = c.args.s.now in
    let p = c.args.p in
    let x = c.args.x.now in
    middle_differs s p x c.requires.0 _ _ c.requires.1 c.four.ensures c.four-2.ensures c.if-four.true

pub returns : goal.returns
returns c =
    let s = c.args.s.now in
    let p = c.args.p in
    let x = c.args.x.now in
    middle_last s p x c.requires.0 (length x - 4) _ _ (omega (arith, c.requires)) (omega (arith, c.requires)) (middle_first s p x c.requires.0 _ _ c.four.ensures c.four-2.ensures c.if-four.false) c.four-3.ensures c.four-4.ensures
