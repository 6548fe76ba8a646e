use native.Mathlib.Omega.{arith}
use borrow.Author.Tests.{not-true, eqb-false}
use Rattle.spelled.proofs.NameLaws.{name-unlike}
use Rattle.spelled.proofs.names.other_length.Goals as goal

pub returns : goal.returns
returns c = let a = c.args in λ h. name-unlike a.types.now a.names.now a.m a.n c.wide-start.ensures.0 c.wide-len.ensures.0 (omega (arith, c.if-names-start.false)) (eqb-false _ _ (not-true _ h))
