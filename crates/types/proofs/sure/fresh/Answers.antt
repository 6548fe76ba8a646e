use mathlib.Core.Path.{sym, ◌∙◌}
use borrow.Author.Tests.{not-true}
use Rattle.types.proofs.SureLaws.{no_true}
use Rattle.types.proofs.sure.fresh.Goals as goal

pub returns-then-not-marked : goal.returns-then-not-marked
returns-then-not-marked c = λ q n. no_true (sym (not-true _ c.if-not-marked.true-raw) ∙ n)

pub unlike-requires : goal.unlike-requires
unlike-requires c = c.requires

pub returns : goal.returns
returns c = λ q n. c.unlike.ensures q
