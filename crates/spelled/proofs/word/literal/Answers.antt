use mathlib.Core.Path.{sym, ◌∙◌}
use native.Mathlib.Omega.{arith}
use Rattle.spelled.proofs.WordLaws.{word-here}
use Rattle.spelled.proofs.word.literal.Goals as goal

pub returns-then-same : goal.returns-then-same
returns-then-same c = (word-here c.args.s.now c.args.p c.args.word.now (omega arith) (sym c.same.ensures ∙ c.if-same.true), omega arith)
