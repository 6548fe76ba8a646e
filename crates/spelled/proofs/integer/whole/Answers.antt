use mathlib.Core.Path.{sym, ◌∙◌}
use native.Mathlib.Omega.{arith}
use Rattle.spelled.proofs.NumberLaws.{whole-nought, whole_from}
use Rattle.spelled.proofs.integer.whole.Goals as goal

pub returns-in-48 : goal.returns-in-48
returns-in-48 c = let k = c.in_ok-b.ensures.lookup.3 in (whole-nought c.args.s.now c.args.p k.0 (sym (k.1 0) ∙ c.in-48.is), omega arith)

pub returns-in-49-to-57 : goal.returns-in-49-to-57
returns-in-49-to-57 c = let k = c.in_ok-b.ensures.lookup.3 in let e = k.1 0 in (whole_from c.args.s.now c.args.p k.0 _ _ (omega arith) (omega arith) (rw (c.from.ensures, e) at c.digits.ensures.stretch) c.digits.ensures.within.0.0, c.digits.ensures.within.1)
