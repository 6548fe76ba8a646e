use native.Mathlib.Omega.{arith}
use Rattle.tokens.proofs.StringLaws.{piece_plain}
use Rattle.tokens.proofs.strings.plain_first.Goals as goal

pub returns : goal.returns
returns c =
    let here = c.in_ok-b.ensures.lookup.3.1 in
    piece_plain c.args.s.now c.args.p (here 256) (omega (arith, here 0, (c.type_inv.s c.args.p).fits)) (λ e. omega arith) (λ e. omega arith)
