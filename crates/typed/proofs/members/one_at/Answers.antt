use Rattle.scan.proofs.PartLaws.{first-inside}
use native.Mathlib.Omega.{arith}
use mathlib.Core.Path.{sym, ◌∙◌}
use Rattle.typed.proofs.members.one_at.Goals as goal

pub value_place-requires : goal.value_place-requires
value_place-requires c =
    let pre = c.requires.0 in
    (pre, omega (arith, pre, first-inside c.args.s.now 0x7D c.args.p c.in-Part.q c.requires.1 (sym c.first_part.ensures ∙ c.in-Part.is)))
