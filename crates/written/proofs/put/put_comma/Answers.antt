use native.Mathlib.Omega.{arith}
use Rattle.written.proofs.PutLaws.{no_comma, a_comma}
use Rattle.written.proofs.put.put_comma.Goals as goal

pub returns-then-n-eq0 : goal.returns-then-n-eq0
returns-then-n-eq0 c = no_comma _ _ c.if-n-eq0.true (omega arith)

pub returns : goal.returns
returns c = a_comma c.if-n-eq0.false c.put_byte.ensures
