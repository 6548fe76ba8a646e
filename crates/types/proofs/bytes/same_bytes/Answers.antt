use Rattle.std.proofs.Common.{◌∙◌}
use Rattle.types.proofs.ByteLaws.{pointwise-same}
use Rattle.types.proofs.bytes.same_bytes.Goals as goal

pub returns : goal.returns
returns c = c.eq.ensures ∙ pointwise-same c.args.a.now c.args.b.now
