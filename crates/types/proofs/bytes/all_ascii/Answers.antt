use native.Mathlib.Omega.{arith}
use Rattle.std.proofs.lemmas.Bool.{MatchBool-at_true}
use Rattle.types.proofs.bytes.all_ascii.Goals as goal

pub returns : goal.returns
returns c = λ h i l. let a = MatchBool-at_true _ _ h c.is_ascii.ensures.cases in omega (arith, a i)
