use mathlib.Core.Path.{◌≡◌, sym, ap, ◌∙◌}
use Rattle.std.specs.Prelude.{None, Some}
use Prim.Native.Nat.{◌+◌, ◌<◌}
use native.Mathlib.Omega.{arith}
use borrow.Author.Tests.{not-true, not-false}
use Rattle.jer.specs.Table.{extensible, position, table}
use Rattle.jer.proofs.ValidLaws.{position_some}
use Rattle.tokens.specs.Strings.{denoted}
use Rattle.tokens.specs.Skip.{past_value}
use Rattle.places.specs.ByPlaces.{after_part, no_places}
use Rattle.scan.proofs.WithinLaws.{value-within}
use Rattle.scan.proofs.ScanLaws.{left, beyond, falls, Turn, loop_start, loop_shut, loop_turn, turn-unknown, turn_repeated, turn-skipped, turn-known}
use Rattle.scan.proofs.scan.Goals.{After-after_part-after, In-Some, In-None, In-Part}
use Rattle.scan.proofs.scan.Invariants.{whole}
use Rattle.scan.proofs.scan.Goals as goal

-- at a name
turn : (c : In-Part)
    → let a = c.args in
    Turn a.depth (table a.types.now a.names.now) a.s.now a.row (whole a.types.now a.names.now a.s.now a.row a.p a.depth) c.in-Part.q c.loop-next.met c.loop-next.places
turn c = loop_turn _ _ _ _ c.loop-next.invariant c.in-Part.is

-- past its value
onward : (c : After-after_part-after) → let a = c.args in c.after_part-after.result ≡ beyond a.depth a.s.now c.in-Part.q
onward c =
    let a = c.args in
    c.after_part-after.ensures ∙ ap (after_part a.s.now) (c.skip_value.ensures ∙ ap (past_value a.depth a.s.now) c.value_place-value.ensures.0)

less : (c : After-after_part-after) → left c.args.s.now c.after_part-after.result < left c.args.s.now c.loop-next.next
less c =
    let a = c.args in
    let w : Turn a.depth (table a.types.now a.names.now) a.s.now a.row (whole a.types.now a.names.now a.s.now a.row a.p a.depth) c.in-Part.q c.loop-next.met c.loop-next.places = loop_turn _ _ _ _ c.loop-next.invariant c.in-Part.is in
    falls a.depth a.s.now _ c.after_part-after.result w.within c.in-Part.is (onward c)

-- at a name that no member has
unknown : (c : In-None)
    → let a = c.args in
    position (table a.types.now a.names.now) a.row (denoted a.s.now (c.in-Part.q + 1)) ≡ None
unknown c = sym (sym c.in-None.is ∙ c.position.ensures)

mark : (c : In-None) → let a = c.args in extensible (table a.types.now a.names.now) a.row ≡ c.extensible-extensible.result
mark c = sym (c.extensible-extensible.ensures _ _ (c.at.ensures c.args.names.now))

-- at a member's name
known : (c : In-Some)
    → let a = c.args in
    position (table a.types.now a.names.now) a.row (denoted a.s.now (c.in-Part.q + 1)) ≡ Some c.in-Some.i
known c = sym (sym c.in-Some.is ∙ c.position.ensures)

few : (c : In-Some) → c.in-Some.i < 64
few c = omega (arith, (position_some _ _ _ _ (known c)).0, c.requires)

pub loop-next-init : goal.loop-next-init
unfolding no_places
loop-next-init c = loop_start _ _ _ _ 0x7D c.args.p c.first_part-next.result c.requires.1 c.first_part-next.ensures

pub returns-in-Shut : goal.returns-in-Shut
returns-in-Shut c = loop_shut _ _ _ _ c.loop-next.invariant c.in-Shut.is

pub after_part-after-requires : goal.after_part-after-requires
after_part-after-requires c = omega (arith, c.skip_value.ensures, value-within c.args.s.now 65538 (omega arith) c.args.depth c.value_place-value.result (omega arith))

pub returns-then-not-extensible : goal.returns-then-not-extensible
returns-then-not-extensible c = turn-unknown _ _ _ _ (turn (goal.at.returns-then-not-extensible c).In-Part) (unknown (goal.at.returns-then-not-extensible c).In-None) (mark (goal.at.returns-then-not-extensible c).In-None ∙ not-true _ c.if-not-extensible.true-raw)

pub loop-next-smaller-in-None : goal.loop-next-smaller-in-None
loop-next-smaller-in-None c = less (goal.at.loop-next-smaller-in-None c).After-after_part-after

pub loop-next-preserved-in-None : goal.loop-next-preserved-in-None
loop-next-preserved-in-None c = turn-skipped _ _ _ _ (turn (goal.at.loop-next-preserved-in-None c).In-Part) (onward (goal.at.loop-next-preserved-in-None c).After-after_part-after) (unknown (goal.at.loop-next-preserved-in-None c).In-None) (mark (goal.at.loop-next-preserved-in-None c).In-None ∙ not-false _ c.if-not-extensible.false-raw)

pub bit-requires : goal.bit-requires
bit-requires c = few (goal.at.bit-requires c).In-Some

pub returns-then-bit : goal.returns-then-bit
returns-then-bit c = turn_repeated _ _ _ _ (turn (goal.at.returns-then-bit c).In-Part) (known (goal.at.returns-then-bit c).In-Some) (sym c.bit.ensures ∙ c.if-bit.true)

pub with-met-requires : goal.with-met-requires
with-met-requires c = few (goal.at.with-met-requires c).In-Some

pub bounds-places-wide : goal.bounds-places-wide
bounds-places-wide c = omega (arith, few (goal.at.bounds-places-wide c).In-Some, c.wide.ensures)

pub loop-next-smaller : goal.loop-next-smaller
loop-next-smaller c = less (goal.at.loop-next-smaller c).After-after_part-after

pub loop-next-preserved : goal.loop-next-preserved
loop-next-preserved c = turn-known _ _ _ _ (turn (goal.at.loop-next-preserved c).In-Part) (onward (goal.at.loop-next-preserved c).After-after_part-after) (known (goal.at.loop-next-preserved c).In-Some) (sym c.bit.ensures ∙ c.if-bit.false) c.with-met.ensures c.wide.ensures.0 c.value_place-value.ensures.0
