use mathlib.Core.Path.{ap, ◌∙◌}
use native.Mathlib.Omega.{arith}
use Rattle.tokens.specs.Places.{past_space}
use Rattle.scan.proofs.NameLaws.{value-place, colon-within, place-within}
use Rattle.scan.proofs.names.value_place.Goals as goal

pub advance-requires : goal.advance-requires
advance-requires c =
    let a = c.args in
    omega (arith, c.skip_space.ensures ∙ ap (past_space a.s.now) c.string_end.ensures, colon-within a.s.now a.q 65537 (omega arith) (omega arith))

pub returns : goal.returns
returns c =
    let a = c.args in
    let e = value-place a.s.now a.q c.string_end.ensures c.skip_space.ensures c.advance.ensures c.skip_space-value.ensures in
    (e, omega (arith, place-within a.s.now a.q 65537 (omega arith) (omega arith)))
