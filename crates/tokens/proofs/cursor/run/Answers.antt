use mathlib.Core.Path.{sym, ◌∙◌}
use native.Mathlib.Omega.{arith}
use Rattle.tokens.specs.Enums.{passes}
use Rattle.tokens.proofs.PlaceLaws.{run_more, run-stop, run_end}
use Rattle.tokens.proofs.cursor.run.Goals as goal

pub returns-then-not-is_in : goal.returns-then-not-is_in
returns-then-not-is_in c =
    let l = c.loop-i in
    sym (l.invariant ∙ run-stop (passes c.args.class) c.args.s.now l.i c.loop-i-test.true (sym c.if-not-is_in.ensures))

pub loop-i-preserved : goal.loop-i-preserved
loop-i-preserved c =
    let l = c.loop-i in
    l.invariant ∙ run_more (passes c.args.class) c.args.s.now l.i c.loop-i-test.true (sym c.if-not-is_in.ensures)

pub returns : goal.returns
returns c =
    let end = run_end (passes c.args.class) c.args.s.now in
    grind (arith, end c.args.p, end c.loop-i.i, c.loop-i.invariant)
