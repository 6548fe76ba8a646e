use native.Mathlib.Omega.{arith}
use mathlib.Core.Path.{sym, ◌∙◌, refl}
use Rattle.quick.proofs.WalkLaws.{mark-inside}
use Rattle.quick.proofs.NameLaws.{name-taken}
use Rattle.quick.proofs.name.name_at.Goals as goal

pub overflow_add-result : goal.overflow_add-result
overflow_add-result c = let colon = mark-inside c.args.source.now.s.now c.space-c.result c.byte_at.result 0x3A c.byte_at.ensures.value c.if-byte_at-ne58.false (omega arith) in omega (arith, colon)

pub position_of-requires : goal.position_of-requires
position_of-requires c = let mark = c.in_ok-w.ensures in (c.requires.0, c.requires.1, λ e. omega (arith, (mark.plain e).1, mark.passed.inside))

pub returns : goal.returns
returns c =
    let mark = c.in_ok-w.ensures in
    let colon = mark-inside c.args.source.now.s.now c.space-c.result c.byte_at.result 0x3A c.byte_at.ensures.value c.if-byte_at-ne58.false (omega arith) in
    name-taken mark c.space-c.ensures.stretch (sym c.byte_at.ensures.value ∙ c.if-byte_at-ne58.false) refl c.space-c.ensures.within.0 colon (c.position_of.ensures _ mark)
