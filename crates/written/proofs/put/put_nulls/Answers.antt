use mathlib.Core.Path.{refl}
use native.Mathlib.Omega.{arith}
use Rattle.written.proofs.PutLaws.{puts-nulls-none, puts-null, puts-nulls}
use borrow.Author.Rules.{rules}
use Rattle.written.proofs.put.put_nulls.Goals as goal

pub loop-j-init : goal.loop-j-init
loop-j-init c = (refl, omega arith, puts-nulls-none _ _ _ (omega arith))

pub loop-j-preserved : goal.loop-j-preserved
loop-j-preserved c =
    let inv = c.loop-j.invariant in
    (search rules, omega arith, puts-null _ c.loop-j.j c.loop-j.auto.j inv.2 c.put_comma-start.ensures c.put_null-p.ensures)

pub returns : goal.returns
returns c = puts-nulls _ c.loop-j.j _ (omega arith) c.loop-j.invariant.2
