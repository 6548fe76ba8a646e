use mathlib.Core.Path.{sym, ◌∙◌}
use native.Mathlib.Omega.{arith}
use Rattle.spelled.proofs.AnyNumber.{some-nought, some-from}
use Rattle.spelled.proofs.number.whole.Goals as goal

pub returns-in-48 : goal.returns-in-48
returns-in-48 c = let k = c.in_ok-get.ensures.lookup.3 in some-nought c.args.s.now c.args.p k.0 (sym (k.1 0) ∙ c.in-48.is)

pub returns-in-49-to-57 : goal.returns-in-49-to-57
returns-in-49-to-57 c = let k = c.in_ok-get.ensures.lookup.3 in let e = k.1 0 in some-from c.args.s.now c.args.p k.0 c.digits.result (omega arith) (omega arith) c.digits.ensures.by_index c.digits.ensures.within.0
