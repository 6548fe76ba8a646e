use Prim.Native.Nat.{◌+◌, ◌-◌}
use mathlib.Core.Path.{sym, ◌∙◌}
use native.Mathlib.Omega.{arith}
use Rattle.tokens.proofs.PlaceLaws.{inside}
use Rattle.std.proofs.lemmas.Option.{IfSome_then}
use Rattle.spelled.proofs.WordLaws.{null-here, true-here, false-here, spells-ahead}
use Rattle.spelled.proofs.StretchLaws.{passed}
use Rattle.spelled.proofs.SkipLaws.{value_as, value-string, listing_more, listing_last, naming_more, naming_last, array-none, array-some, object-none, object-some}
use Rattle.spelled.proofs.skip.+array_object_skip.Goals as goal

pub array-returns-then-byte_at-eq93 : goal.array-returns-then-byte_at-eq93
array-returns-then-byte_at-eq93 t c =
    let s = c.args.s.now in
    let p = c.args.p in
    let d = c.args.depth in
    array-none s d p c.if-depth-eq0.false c.space-at.result c.requires c.space-at.ensures.stretch (sym c.byte_at.ensures.value ∙ c.if-byte_at-eq93.true)

pub array-returns-then-b-eq93 : goal.array-returns-then-b-eq93
array-returns-then-b-eq93 t c =
    let s = c.args.s.now in
    let p = c.args.p in
    let d = c.args.depth in
    let l = c.loop-q in
    let v = c.in_ok-q.ensures in
    array-some s d p c.if-depth-eq0.false _ c.requires (listing_last s (d - 1) (p + 1) l.at c.in_ok-q.q c.space-c.result l.invariant.0 v c.space-c.ensures.stretch (sym c.byte_at-b.ensures.value ∙ c.if-b-eq93.true))
    (omega (arith, l.invariant.1, v.passed.ahead, c.space-c.ensures.within.0))

pub array-loop-q-preserved : goal.array-loop-q-preserved
array-loop-q-preserved t c =
    let s = c.args.s.now in
    let p = c.args.p in
    let d = c.args.depth in
    let l = c.loop-q in
    let v = c.in_ok-q.ensures in (
      listing_more s (d - 1) (p + 1) l.at c.in_ok-q.q c.space-c.result l.invariant.0 v c.space-c.ensures.stretch c.space-at-in-loop-q.result (sym c.byte_at-b.ensures.value ∙ c.if-b-ne44.false) c.space-at-in-loop-q.ensures.stretch,
      omega (arith, l.invariant.1, v.passed.ahead, c.space-c.ensures.within.0, c.space-at-in-loop-q.ensures.within.0),
      omega (arith, c.space-at-in-loop-q.ensures.within, inside s c.space-c.result (λ e. omega (arith, c.byte_at-b.ensures.value))),
    )

pub object-returns-then-byte_at-eq125 : goal.object-returns-then-byte_at-eq125
object-returns-then-byte_at-eq125 t c =
    let s = c.args.s.now in
    let p = c.args.p in
    let d = c.args.depth in
    object-none s d p c.if-depth-eq0.false c.space-at.result c.requires c.space-at.ensures.stretch (sym c.byte_at.ensures.value ∙ c.if-byte_at-eq125.true)

pub object-returns-then-b-eq125 : goal.object-returns-then-b-eq125
object-returns-then-b-eq125 t c =
    let s = c.args.s.now in
    let p = c.args.p in
    let d = c.args.depth in
    let l = c.loop-v in
    let v = c.in_ok-q.ensures in
    object-some s d p c.if-depth-eq0.false _ c.requires
    (naming_last s (d - 1) (p + 1) l.at c.in_ok-v.v c.space.result c.in_ok-q.q c.space-c.result l.invariant.0 c.in_ok-v.ensures.0 c.space.ensures.stretch v c.space-c.ensures.stretch (sym c.byte_at-b.ensures.value ∙ c.if-b-eq125.true))
    (omega (arith, l.invariant.1, c.in_ok-v.ensures.1, c.space.ensures.within.0, v.passed.ahead, c.space-c.ensures.within.0))

pub object-loop-v-preserved : goal.object-loop-v-preserved
object-loop-v-preserved t c =
    let s = c.args.s.now in
    let p = c.args.p in
    let d = c.args.depth in
    let l = c.loop-v in
    let v = c.in_ok-q.ensures in (
      naming_more s (d - 1) (p + 1) l.at c.in_ok-v.v c.space.result c.in_ok-q.q c.space-c.result l.invariant.0 c.in_ok-v.ensures.0 c.space.ensures.stretch v c.space-c.ensures.stretch c.space-at-in-loop-v.result (sym c.byte_at-b.ensures.value ∙ c.if-b-ne44.false) c.space-at-in-loop-v.ensures.stretch,
      omega (arith, l.invariant.1, c.in_ok-v.ensures.1, v.passed.ahead, c.space.ensures.within.0, c.space-c.ensures.within.0, c.space-at-in-loop-v.ensures.within.0),
      omega (arith, c.space-at-in-loop-v.ensures.within, inside s c.space-c.result (λ e. omega (arith, c.byte_at-b.ensures.value))),
    )

pub skip-returns-in_ok-string-in-34 : goal.skip-returns-in_ok-string-in-34
skip-returns-in_ok-string-in-34 t c = let k = c.in_ok-string-in-34.ensures in value-string c.args.s.now k.chars c.args.depth c.args.p _ k.passed

pub skip-returns-in-102 : goal.skip-returns-in-102
skip-returns-in-102 t c = IfSome_then c.literal.result c.literal.ensures (λ q k. value_as c.args.s.now c.args.depth c.args.p q _ (passed _ c.args.s.now c.args.p q (false-here k.0 c.args.depth) (spells-ahead k.0 (omega arith))))

pub skip-returns-in-110 : goal.skip-returns-in-110
skip-returns-in-110 t c = IfSome_then c.literal-in-110.result c.literal-in-110.ensures (λ q k. value_as c.args.s.now c.args.depth c.args.p q _ (passed _ c.args.s.now c.args.p q (null-here k.0 c.args.depth) (spells-ahead k.0 (omega arith))))

pub skip-returns-in-116 : goal.skip-returns-in-116
skip-returns-in-116 t c = IfSome_then c.literal-in-116.result c.literal-in-116.ensures (λ q k. value_as c.args.s.now c.args.depth c.args.p q _ (passed _ c.args.s.now c.args.p q (true-here k.0 c.args.depth) (spells-ahead k.0 (omega arith))))
