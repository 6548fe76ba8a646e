use Prim.Native.Nat.{◌+◌}
use mathlib.Core.Path.{refl, sym, ap, ◌∙◌}
use native.Mathlib.Omega.{arith}
use Rattle.jer.specs.Table.{alternative, table}
use borrow.Author.Tests.{not-false}
use Rattle.spelled.proofs.StretchLaws.{passed}
use Rattle.spelled.proofs.WordLaws.{null-here, spells-ahead}
use Rattle.quick.proofs.NameLaws.{name-inside}
use Rattle.quick.proofs.TapeLaws.{alike_part}
use Rattle.quick.proofs.WalkLaws.{alike_same, alike_then, mark-inside, given-at, walked_from, walked_if, spaced, within-at}
use Rattle.quick.proofs.ChoiceLaws.{choice-here, picked-given, picked-plain, picked-here}
use Rattle.quick.proofs.StepLaws.{member-given, step-null, step_value, step-passed, element-surplus, element-null, element-value, link-kept, known_at, links-at, cleared_below}
use Rattle.quick.proofs.ArrayingLaws.{arraying_start, arraying_more, arraying_last, arraying_behind, shuts_behind, array-none}
use Rattle.quick.proofs.ObjectingLaws.{objecting_start, objecting_more, objecting_last, objecting_after, shuts_any, shuts_after, object-none}
use Rattle.quick.proofs.ListingLaws.{listing_start, listing_more, listing_last, list-none}
use Rattle.quick.proofs.walk.+array_bracket_choice_element_list_member_object_picked_plain_sequence_value.Goals as goal

pub array-returns-then-byte_at-eq93 : goal.array-returns-then-byte_at-eq93
array-returns-then-byte_at-eq93 t c =
    let names = c.args.source.now.names.now in
    let top = c.args.top in
    let links = links-at (c.args.top + 3) _ _ _ c.wide.ensures.0 (c.count_of-count.ensures names) in
    let cleared = cleared_below c.clear.new.tape (c.args.top + 3) _ _ c.clear.ensures.by_index (c.count_of-count.ensures names) in
    walked_if _ (alike_then _ _ _ 0 top (alike_part 0 top c.clear.ensures.alike (omega arith) (omega arith)) c.shut.ensures.alike) (λ g e. array-none c.args.depth c.space-at.ensures.stretch c.space-at.ensures.within.0 c.clear.ensures.alike cleared links (omega (arith, c.if-tape-end.false, c.clear.auto.tape)) c.requires.row_value.0 c.requires.row_value.1 c.byte_at.ensures.value c.if-byte_at-ne91.false c.byte_at-2.ensures.value c.if-byte_at-eq93.true ((rw e at c.shut.ensures.shut) names))

pub array-loop-g-init : goal.array-loop-g-init
array-loop-g-init t c =
    let names = c.args.source.now.names.now in
    let t = table c.args.source.now.types.now c.args.source.now.names.now in
    let s = c.args.source.now.s.now in
    let row = c.args.row in
    let place = c.args.place in
    let top = c.args.top in
    let links = links-at (c.args.top + 3) _ _ _ c.wide.ensures.0 (c.count_of-count.ensures names) in
    let cleared = cleared_below c.clear.new.tape (c.args.top + 3) _ _ c.clear.ensures.by_index (c.count_of-count.ensures names) in
    arraying_start t s _ _ c.args.depth row place top c.space-at.result c.space-at.ensures.stretch c.space-at.ensures.within.0 (within-at c.args.source.now.s.now c.space-at.ensures.within (omega (arith, mark-inside s place c.byte_at.result 0x5B c.byte_at.ensures.value c.if-byte_at-ne91.false (omega arith)))) (alike_same _ _ _) cleared refl (top + 3 + c.wide.result) links (omega (arith, c.if-tape-end.false, c.clear.auto.tape))

pub array-shut-requires-then-b-eq93 : goal.array-shut-requires-then-b-eq93
array-shut-requires-then-b-eq93 t c =
    let names = c.args.source.now.names.now in
    let row = c.args.row in
    let given = c.requires.given in
    let reached = c.in_ok-g.ensures.came in
    (shuts_any c.args.source.now.types.now names row _ _ (shuts_behind (arraying_behind c.loop-g.invariant reached c.element.auto.tape c.element.ensures.alike c.space-c.ensures.stretch) given.sane given.typed (omega (arith, reached.words, reached.inside, c.element.auto.tape, c.loop-g.invariant.same, c.clear.auto.tape, c.loop-g.invariant.words, given.room))), omega (arith, c.element.auto.tape, c.loop-g.invariant.start, c.loop-g.invariant.inside), omega (arith, reached.inside, c.element.auto.tape, c.loop-g.invariant.same, c.clear.auto.tape, given.room))

pub array-returns-then-b-eq93 : goal.array-returns-then-b-eq93
array-returns-then-b-eq93 t c =
    let names = c.args.source.now.names.now in
    let top = c.args.top in
    let step = c.in_ok-g.ensures.came in
    let before = alike_part 0 top c.clear.ensures.alike (omega arith) (omega arith) in
    walked_from before (walked_if _ (alike_then _ _ _ 0 top (alike_then _ _ _ 0 top c.loop-g.invariant.kept (alike_part 0 top c.element.ensures.alike (omega arith) (omega arith))) c.shut-then-b-eq93.ensures.alike)
    (λ g e. arraying_last c.loop-g.invariant step c.element.auto.tape c.element.ensures.alike c.space-c.ensures.stretch c.requires.row_value.0 c.requires.row_value.1 c.byte_at.ensures.value c.if-byte_at-ne91.false c.byte_at-b.ensures.value c.if-b-eq93.true c.space-c.ensures.within.0 ((rw e at c.shut-then-b-eq93.ensures.shut) names)))

pub array-loop-g-preserved : goal.array-loop-g-preserved
array-loop-g-preserved t c =
    let s = c.args.source.now.s.now in
    let reached = c.in_ok-g.ensures.came in
    arraying_more c.loop-g.invariant reached c.element.auto.tape c.element.ensures.alike c.space-c.ensures.stretch c.byte_at-b.ensures.value c.if-b-ne44.false c.space-c.ensures.within.0 c.space-at-in-loop-g.ensures.stretch c.space-at-in-loop-g.ensures.within.0 (within-at c.args.source.now.s.now c.space-at-in-loop-g.ensures.within (omega (arith, mark-inside s c.space-c.result c.byte_at-b.result 0x2C c.byte_at-b.ensures.value c.if-b-ne44.false (omega arith))))

pub choice-value-requires : goal.choice-value-requires
choice-value-requires t c =
    let names = c.args.source.now.names.now in
    let s = c.args.source.now.s.now in
    let row = c.args.row in
    let given = c.requires.given in
    (omega arith, given-at s c.args.source.now.short given (given.sane.member row _ given.typed (name-inside c.in_ok-name.ensures c.in_ok-k.was)) (c.type_at.ensures names) (within-at s c.space-at.ensures.within c.in_ok-name.ensures.placed) (omega (arith, c.requires.top_in_bounds.0)))

pub choice-returns : goal.choice-returns
choice-returns t c =
    let names = c.args.source.now.names.now in
    choice-here c.requires.top_in_bounds.1 c.requires.top_in_bounds.2 c.byte_at.ensures.value c.if-byte_at-ne123.false c.space.ensures.stretch c.space.ensures.within.0 c.in_ok-name.ensures c.in_ok-k.was c.space-at.ensures.stretch c.space-at.ensures.within.0 (c.type_at.ensures names) c.in_ok-g.ensures c.space-c.ensures.stretch c.space-c.ensures.within.0 c.byte_at-2.ensures.value c.if-byte_at-ne125.false c.head.ensures.tape_after c.head.ensures.headed

pub element-returns-then-count_of-k : goal.element-returns-then-count_of-k
element-returns-then-count_of-k t c =
    let names = c.args.source.now.names.now in
    let t = table c.args.source.now.types.now c.args.source.now.names.now in
    let row = c.args.row in
    record { alike = alike_same _ _ _; came = element-surplus (omega (arith, c.if-count_of-k.true, c.count_of.ensures names)) (c.extensible.ensures t row (c.at.ensures names)) (not-false _ c.if-not-extensible.false-raw) _ c.in_ok-skip.ensures (refl, refl, refl, refl, refl, refl) c.requires.row_bound.1 }

pub element-returns-then-missing_at : goal.element-returns-then-missing_at
element-returns-then-missing_at t c =
    let names = c.args.source.now.names.now in
    let below = known_at c.if-count_of-k.false (c.count_of.ensures names) in
    record { alike = alike_same _ _ _; came = element-null below (c.missing_at.ensures names) c.if-missing_at.true _ (λ d. passed _ c.args.source.now.s.now c.args.place _ (null-here c.in_ok-literal.ensures.0 d) (spells-ahead c.in_ok-literal.ensures.0 (omega arith))) c.with.ensures (refl, refl, refl, refl, refl, refl) c.requires.row_bound.1 }

pub element-returns : goal.element-returns
element-returns t c =
    let names = c.args.source.now.names.now in
    let below = known_at c.if-count_of-k.false (c.count_of.ensures names) in
    record { alike = link-kept (c.args.top + 3) c.wide.result c.in_ok-g.ensures (omega (arith, c.requires.row_bound.0)); came = element-value below (c.missing_at.ensures names) c.if-missing_at.false c.type_at-m.result c.wide.result c.in_ok-g.g c.value.new.tape (c.type_at-m.ensures names) c.wide.ensures.0 c.in_ok-g.ensures c.with-2.ensures c.with-3.ensures (refl, refl, refl, refl, refl, refl) }

pub list-returns-then-byte_at-eq93 : goal.list-returns-then-byte_at-eq93
list-returns-then-byte_at-eq93 t c =
    let t = table c.args.source.now.types.now c.args.source.now.names.now in
    let s = c.args.source.now.s.now in
    let row = c.args.row in
    let place = c.args.place in
    let top = c.args.top in
    list-none t s c.args.tape.now _ c.args.depth row place top c.space-at.result c.byte_at-2.result c.byte_at.result _ c.requires.top_in_bounds.1 c.requires.top_in_bounds.0 c.byte_at.ensures.value c.if-byte_at-ne91.false c.space-at.ensures.stretch c.space-at.ensures.within.0 c.byte_at-2.ensures.value c.if-byte_at-eq93.true c.head.ensures.tape_after c.head.ensures.headed

pub list-loop-at-init : goal.list-loop-at-init
list-loop-at-init t c =
    let t = table c.args.source.now.types.now c.args.source.now.names.now in
    let s = c.args.source.now.s.now in
    let row = c.args.row in
    let place = c.args.place in
    let top = c.args.top in
    listing_start t s c.args.tape.now c.args.depth row place top c.space-at.result c.space-at.ensures.stretch c.space-at.ensures.within.0 c.requires.top_in_bounds.0

pub list-returns-then-b-eq93 : goal.list-returns-then-b-eq93
list-returns-then-b-eq93 t c =
    let names = c.args.source.now.names.now in
    listing_last c.loop-at.invariant (c.element_of-element.ensures names) c.in_ok-g.ensures c.value.auto.tape (spaced c.space-c.ensures.stretch c.space-c.ensures.within) c.byte_at-b.ensures.value c.requires.top_in_bounds.1 c.byte_at.ensures.value c.if-byte_at-ne91.false c.if-b-eq93.true c.head-then-b-eq93.ensures.tape_after c.head-then-b-eq93.ensures.headed

pub list-loop-at-preserved : goal.list-loop-at-preserved
list-loop-at-preserved t c =
    let names = c.args.source.now.names.now in
    listing_more c.loop-at.invariant (c.element_of-element.ensures names) c.in_ok-g.ensures c.value.auto.tape (spaced c.space-c.ensures.stretch c.space-c.ensures.within) c.byte_at-b.ensures.value c.if-b-ne44.false (spaced c.space-at-in-loop-at.ensures.stretch c.space-at-in-loop-at.ensures.within)

pub member-returns-in_default : goal.member-returns-in_default
member-returns-in_default t c =
    let names = c.args.source.now.names.now in
    let t = table c.args.source.now.types.now c.args.source.now.names.now in
    let row = c.args.row in
    record { alike = alike_same _ _ _; stepped = step-passed c.in_ok-name.ensures c.in_default.is (spaced c.space-at.ensures.stretch c.space-at.ensures.within) (c.extensible.ensures t row (c.at.ensures names)) (not-false _ c.if-not-extensible.false-raw) _ c.in_ok-skip.ensures (refl, refl, refl, refl, refl, refl) c.requires.row_bound.1 }

pub member-bit-requires : goal.member-bit-requires
member-bit-requires t c =
    let names = c.args.source.now.names.now in
    let row = c.args.row in
    let given = c.requires.given in
    let known = name-inside c.in_ok-name.ensures c.in-Some.is in
    omega (arith, known, given.sane.few row given.typed)

pub member-overflow_add-result : goal.member-overflow_add-result
member-overflow_add-result t c =
    let row = c.args.row in
    let given = c.requires.given in
    let known = name-inside c.in_ok-name.ensures c.in-Some.is in
    omega (arith, known, given.sane.few row given.typed)

pub member-overflow_add-result-2 : goal.member-overflow_add-result-2
member-overflow_add-result-2 t c =
    let row = c.args.row in
    let given = c.requires.given in
    let known = name-inside c.in_ok-name.ensures c.in-Some.is in
    omega (arith, known, given.sane.few row given.typed)

pub member-with-requires : goal.member-with-requires
member-with-requires t c =
    let names = c.args.source.now.names.now in
    let row = c.args.row in
    let given = c.requires.given in
    let known = name-inside c.in_ok-name.ensures c.in-Some.is in
    omega (arith, known, given.sane.few row given.typed)

pub member-returns-then-absent_at : goal.member-returns-then-absent_at
member-returns-then-absent_at t c =
    let names = c.args.source.now.names.now in
    let known = name-inside c.in_ok-name.ensures c.in-Some.is in
    let named = c.in_ok-name.ensures in
    record { alike = alike_same _ _ _; stepped = step-null named c.in-Some.is known (sym c.bit.ensures ∙ c.if-bit.false) (spaced c.space-at.ensures.stretch c.space-at.ensures.within) (c.absent_at.ensures names) c.if-absent_at.true _ (λ d. passed _ c.args.source.now.s.now _ _ (null-here c.in_ok-literal.ensures.0 d) (spells-ahead c.in_ok-literal.ensures.0 (omega arith))) c.with.ensures (refl, refl, refl, refl, refl, refl) c.requires.row_bound.1 }

pub member-value-requires : goal.member-value-requires
member-value-requires t c =
    let names = c.args.source.now.names.now in
    let s = c.args.source.now.s.now in
    let given = c.requires.given in
    let known = name-inside c.in_ok-name.ensures c.in-Some.is in
    let named = c.in_ok-name.ensures in
    (omega arith, member-given s c.args.source.now.short given known (c.type_at-m.ensures names) (within-at s c.space-at.ensures.within named.placed))

pub member-bounds-tape-top : goal.member-bounds-tape-top
member-bounds-tape-top t c =
    let names = c.args.source.now.names.now in
    let known = name-inside c.in_ok-name.ensures c.in-Some.is in
    omega (arith, c.requires.row_bound.0, c.requires.row_bound.1, known, c.wide.ensures.0, c.value.auto.tape)

pub member-with-requires-2 : goal.member-with-requires-2
member-with-requires-2 t c =
    let names = c.args.source.now.names.now in
    let row = c.args.row in
    let given = c.requires.given in
    let known = name-inside c.in_ok-name.ensures c.in-Some.is in
    omega (arith, known, given.sane.few row given.typed)

pub member-with-requires-3 : goal.member-with-requires-3
member-with-requires-3 t c =
    let names = c.args.source.now.names.now in
    let row = c.args.row in
    let given = c.requires.given in
    let known = name-inside c.in_ok-name.ensures c.in-Some.is in
    omega (arith, known, given.sane.few row given.typed)

pub member-returns : goal.member-returns
member-returns t c =
    let names = c.args.source.now.names.now in
    let known = name-inside c.in_ok-name.ensures c.in-Some.is in
    let named = c.in_ok-name.ensures in
    record { alike = link-kept (c.args.top + 3) c.wide.result c.in_ok-g.ensures (omega (arith, c.requires.row_bound.0)); stepped = step_value named c.in-Some.is known (sym c.bit.ensures ∙ c.if-bit.false) (spaced c.space-at.ensures.stretch c.space-at.ensures.within) (c.absent_at.ensures names) c.if-absent_at.false c.type_at-m.result c.wide.result c.in_ok-g.g c.value.new.tape (c.type_at-m.ensures names) c.wide.ensures.0 c.in_ok-g.ensures c.with-2.ensures c.with-3.ensures (refl, refl, refl, refl, refl, refl) }

pub object-returns-then-byte_at-eq125 : goal.object-returns-then-byte_at-eq125
object-returns-then-byte_at-eq125 t c =
    let names = c.args.source.now.names.now in
    let top = c.args.top in
    let links = links-at (c.args.top + 3) _ _ _ c.wide.ensures.0 (c.count_of-count.ensures names) in
    let cleared = cleared_below c.clear.new.tape (c.args.top + 3) _ _ c.clear.ensures.by_index (c.count_of-count.ensures names) in
    walked_if _ (alike_then _ _ _ 0 top (alike_part 0 top c.clear.ensures.alike (omega arith) (omega arith)) c.shut.ensures.alike) (λ g e. object-none c.args.depth c.space-at.ensures.stretch c.space-at.ensures.within.0 c.clear.ensures.alike cleared links (omega (arith, c.if-tape-end.false, c.clear.auto.tape)) c.requires.row_value.0 c.requires.row_value.1 c.byte_at.ensures.value c.if-byte_at-ne123.false c.byte_at-2.ensures.value c.if-byte_at-eq125.true ((rw e at c.shut.ensures.shut) names))

pub object-loop-g-init : goal.object-loop-g-init
object-loop-g-init t c =
    let names = c.args.source.now.names.now in
    let t = table c.args.source.now.types.now c.args.source.now.names.now in
    let s = c.args.source.now.s.now in
    let row = c.args.row in
    let place = c.args.place in
    let top = c.args.top in
    let links = links-at (c.args.top + 3) _ _ _ c.wide.ensures.0 (c.count_of-count.ensures names) in
    let cleared = cleared_below c.clear.new.tape (c.args.top + 3) _ _ c.clear.ensures.by_index (c.count_of-count.ensures names) in
    objecting_start t s _ _ c.args.depth row place top c.space-at.result c.space-at.ensures.stretch c.space-at.ensures.within.0 (within-at c.args.source.now.s.now c.space-at.ensures.within (omega (arith, mark-inside s place c.byte_at.result 0x7B c.byte_at.ensures.value c.if-byte_at-ne123.false (omega arith)))) (alike_same _ _ _) cleared refl (top + 3 + c.wide.result) links (omega (arith, c.if-tape-end.false, c.clear.auto.tape))

pub object-shut-requires-then-b-eq125 : goal.object-shut-requires-then-b-eq125
object-shut-requires-then-b-eq125 t c =
    let names = c.args.source.now.names.now in
    let row = c.args.row in
    let given = c.requires.given in
    let stepped = c.in_ok-g.ensures.stepped in
    (shuts_any c.args.source.now.types.now names row _ _ (shuts_after (objecting_after c.loop-g.invariant given.sane given.typed stepped c.member.auto.tape c.member.ensures.alike c.space-c.ensures.stretch) given.sane given.typed (omega (arith, stepped.words, stepped.inside, c.member.auto.tape, c.loop-g.invariant.same, c.clear.auto.tape, c.loop-g.invariant.words, given.room))), omega (arith, c.member.auto.tape, c.loop-g.invariant.start, c.loop-g.invariant.inside), omega (arith, stepped.inside, c.member.auto.tape, c.loop-g.invariant.same, c.clear.auto.tape, given.room))

pub object-returns-then-b-eq125 : goal.object-returns-then-b-eq125
object-returns-then-b-eq125 t c =
    let names = c.args.source.now.names.now in
    let top = c.args.top in
    let given = c.requires.given in
    let step = c.in_ok-g.ensures.stepped in
    let before = alike_part 0 top c.clear.ensures.alike (omega arith) (omega arith) in
    walked_from before (walked_if _ (alike_then _ _ _ 0 top (alike_then _ _ _ 0 top c.loop-g.invariant.kept (alike_part 0 top c.member.ensures.alike (omega arith) (omega arith))) c.shut-then-b-eq125.ensures.alike)
    (λ g e. objecting_last c.loop-g.invariant given.sane given.typed step c.member.auto.tape c.member.ensures.alike c.space-c.ensures.stretch c.requires.row_value.0 c.requires.row_value.1 c.byte_at.ensures.value c.if-byte_at-ne123.false c.byte_at-b.ensures.value c.if-b-eq125.true c.space-c.ensures.within.0 ((rw e at c.shut-then-b-eq125.ensures.shut) names)))

pub object-loop-g-preserved : goal.object-loop-g-preserved
object-loop-g-preserved t c =
    let s = c.args.source.now.s.now in
    let given = c.requires.given in
    let stepped = c.in_ok-g.ensures.stepped in
    objecting_more c.loop-g.invariant given.sane given.typed stepped c.member.auto.tape c.member.ensures.alike c.space-c.ensures.stretch c.byte_at-b.ensures.value c.if-b-ne44.false c.space-c.ensures.within.0 c.space-at-in-loop-g.ensures.stretch c.space-at-in-loop-g.ensures.within.0 (within-at c.args.source.now.s.now c.space-at-in-loop-g.ensures.within (omega (arith, mark-inside s c.space-c.result c.byte_at-b.result 0x2C c.byte_at-b.ensures.value c.if-b-ne44.false (omega arith))))

pub picked-plain-requires : goal.picked-plain-requires
picked-plain-requires t c =
    let names = c.args.source.now.names.now in
    let t = table c.args.source.now.types.now c.args.source.now.names.now in
    let s = c.args.source.now.s.now in
    let row = c.args.row in
    let place = c.args.place in
    let given = c.requires.given in
    let pick = sym c.in_ok-k.was ∙ c.alternative.ensures names ∙ ap (alternative t c.args.row) c.token_at.ensures in
    (omega arith, (picked-given t s row place c.in_ok-k.k given.sane c.requires.row_value pick given (c.type_at.ensures names) (omega (arith, c.if-tape-top.false)), rw (c.type_at.ensures names) (picked-plain t s row place c.in_ok-k.k given.sane c.requires.row_value pick)))

pub picked-returns : goal.picked-returns
picked-returns t c =
    let names = c.args.source.now.names.now in
    let t = table c.args.source.now.types.now c.args.source.now.names.now in
    let s = c.args.source.now.s.now in
    let row = c.args.row in
    let place = c.args.place in
    let given = c.requires.given in
    let pick = sym c.in_ok-k.was ∙ c.alternative.ensures names ∙ ap (alternative t c.args.row) c.token_at.ensures in
    picked-here t s row place c.in_ok-k.k given.sane c.requires.row_value pick (c.type_at.ensures names) c.in_ok-g.ensures c.head.ensures.tape_after c.head.ensures.headed

pub plain-returns-then-kind_of-lt-SEQUENCE : goal.plain-returns-then-kind_of-lt-SEQUENCE
plain-returns-then-kind_of-lt-SEQUENCE t c = c.note.ensures c.args.depth

pub value-returns-then-kind_of-lt-SEQUENCE : goal.value-returns-then-kind_of-lt-SEQUENCE
value-returns-then-kind_of-lt-SEQUENCE t c = c.note.ensures c.args.depth
