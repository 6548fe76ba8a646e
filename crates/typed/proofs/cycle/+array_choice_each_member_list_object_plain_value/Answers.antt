use Prim.Native.Nat.{ℕ, ◌<◌, ◌≤◌, ◌+◌, ◌-◌}
use mathlib.Core.Path.{◌≡◌, refl, sym, ap, subst, ◌∙◌}
use native.Mathlib.Omega.{arith}
use borrow.Author.Tests.{not-true, not-false}
use lib.ListN.{length}
use mathlib.Core.Logic.{inl, inr}
use Rattle.jer.specs.Table.{alternative, extensible, count_of, element_of, type_at, table}
use Rattle.jer.specs.Value.{Val}
use Rattle.jer.specs.Answer.{Res, bind}
use Rattle.jer.specs.declared.Cause.TheVariants.{OtherKind, UnknownName}
use Rattle.jer.specs.Read.{missing_element}
use Rattle.places.specs.ByPlaces.{ending, Got, first_part, token_at, leaf_at, within, read_at, no_places}
use Rattle.scan.proofs.WithinLaws.{space-within}
use Rattle.tokens.specs.Places.{past_space}
use Rattle.tokens.specs.Strings.{denoted}
use Rattle.typed.specs.Cycle.{limit, plain_at}
use Rattle.types.proofs.RowLaws.{kind-of}
use Rattle.typed.proofs.StoredLaws.{took, not-took, whole-list, whole_seq, whole-choice, closed, along, reads-no}
use Rattle.typed.proofs.ListLaws.{near_first, near-after, near_part, near-shut, loop_start, loop_shut, loop_full, loop_refused, loop_more}
use Rattle.typed.proofs.SequenceLaws.{elements-start, elements-absent, elements_lost, elements-null, elements-refused, elements-more, near-absent, near-follows, near-there, order_start, order_missing, order_absent, order_refused, order_more, order_end, object-ok, object-no, member_is, there-place, object-scanned, object_stopped, Ends, scan_near}
use Rattle.typed.proofs.PlainLaws.{array_kind, object-kind, unwrapped-kind, value-plain, value_none, value-refused, value-picked, plain-leaf, plain-deep, plain-list, plain-array, plain-no-array, plain-choice, plain-object, plain-no-object, string_stands, bracket_inside, positive, sequence-is, choice-not-one, choice-none, choice-refused, choice-picked, missing-small, missing-no, bounded-reads, bounded-near, leaf-near}
use Rattle.typed.proofs.CycleLaws.{passed, failed, given-type, given_part, given-one, over-ok, over_no, list-ok, list-no, array-no, array-surplus, array-end, at_row, at_place, one-near, unknown-reads, unknown-over}
use Rattle.places.proofs.MeaningNames.{alternative-found, position-found}
use Rattle.std.proofs.Common.{rules}
use Rattle.std.specs.Prelude.{Err}
use Rattle.typed.proofs.cycle.+array_choice_each_member_list_object_plain_value.Goals.{array-in-Absent, array-in-Missing+in_ok-null-in-Missing, array-in-There+in_ok-element-in-There, each_member-in-Absent, each_member-in-There+in_ok-member-in-There}
use Rattle.typed.proofs.cycle.+array_choice_each_member_list_object_plain_value.Goals as goal

pub array-loop-k-init : goal.array-loop-k-init
array-loop-k-init t c =
    let names = c.args.names.now in
    let tab = table c.args.types.now names in
    let s = c.args.s.now in
    let d = c.args.depth in
    let first = c.first_part-next.result in
    let first-part-said = c.first_part-next.ensures in
    (c.count_of-count.ensures names, omega (arith, c.requires.given.sane.few c.args.row c.requires.given.typed, c.count_of-count.ensures names), near_first s 0x5D c.args.place (65539 + d) first c.requires.given.short c.requires.place_in_bounds.0 (omega (arith, c.requires.place_in_bounds.1)) first-part-said, elements-start (λ q u. read_at (d - 1) tab s q u) (d - 1) tab s c.args.row c.args.place (first_part s 0x5D c.args.place) first c.args.slot c.args.offset c.args.rows.now c.args.pool.now first-part-said)

pub array-element_found-requires : goal.array-element_found-requires
array-element_found-requires t c = (c.requires.given.short, near-follows (65539 + c.args.depth) 4294967295 c.loop-k.next (omega (arith, c.requires.given.row_room)) (omega arith) c.loop-k.invariant.2)

pub array-returns-in_err-null-in-Missing : goal.array-returns-in_err-null-in-Missing
array-returns-in_err-null-in-Missing t c =
    let names = c.args.names.now in
    let tab = table c.args.types.now names in
    let s = c.args.s.now in
    let loop = c.loop-k in
    let out : c.from_residual.result ≡ Err c.in_err-null-in-Missing.field-0.0 = search rules in
    reads-no out (over_no tab c.args.row (array-no (λ q u. read_at (c.args.depth - 1) tab s q u) tab s c.args.row c.args.place (c.args.depth - 1) (elements_lost (λ q u. read_at (c.args.depth - 1) tab s q u) (c.args.depth - 1) tab s c.args.row c.args.place loop.invariant.3 (rw (← loop.invariant.0) c.loop-k-test.true) (sym c.in-Missing.is ∙ c.element_found.ensures names) (missing-no tab c.args.row c.args.place loop.k c.in-Missing.q (not-took tab (type_at tab c.args.row loop.k) _ _ (sym c.in_err-null-in-Missing.was ∙ (c.missing.ensures names loop.pool (c.args.offset + loop.m)).answer))))))

pub array-overflow_add-n-in-Missing : goal.array-overflow_add-n-in-Missing
array-overflow_add-n-in-Missing t c =
    let names = c.args.names.now in
    let tab = table c.args.types.now names in
    let loop = c.loop-k in
    let q = c.in-Missing.q in
    omega (arith, (missing-small tab c.args.row c.args.place loop.k q (took tab (type_at tab c.args.row loop.k) (ending q (missing_element tab c.args.row c.args.place loop.k)) c.in_ok-null-in-Missing.null (sym c.in_ok-null-in-Missing.was ∙ (c.missing.ensures names loop.pool (c.args.offset + loop.m)).answer))).0, loop.invariant.3.done.sofar.few_rows, loop.invariant.1, c.loop-k-test.true)

pub array-overflow_add-m : goal.array-overflow_add-m
array-overflow_add-m t c =
    let names = c.args.names.now in
    let tab = table c.args.types.now names in
    let loop = c.loop-k in
    let q = c.in-Missing.q in
    omega (arith, (missing-small tab c.args.row c.args.place loop.k q (took tab (type_at tab c.args.row loop.k) (ending q (missing_element tab c.args.row c.args.place loop.k)) c.in_ok-null-in-Missing.null (sym c.in_ok-null-in-Missing.was ∙ (c.missing.ensures names loop.pool (c.args.offset + loop.m)).answer))).1, loop.invariant.3.done.sofar.few_bytes, loop.invariant.1, c.loop-k-test.true)

pub array-value-requires : goal.array-value-requires
array-value-requires t c =
    let names = c.args.names.now in
    let loop = c.loop-k in
    let loop-test-yes = c.loop-k-test.true in
    let loop-inv = loop.invariant.1 in
    (omega arith, given_part c.requires.given c.requires.place_in_bounds.1 (rw (c.type_at-t.ensures names) (c.requires.given.sane.member c.args.row loop.k c.requires.given.typed (rw (← loop.invariant.0) c.loop-k-test.true))) (omega (arith, near-there (table c.args.types.now names) c.args.s.now c.args.row loop.k (65539 + c.args.depth) loop.next loop.invariant.2 (sym c.in-There.is ∙ c.element_found.ensures names))) (omega (arith, loop.invariant.3.done.sofar.few_rows, loop-inv, loop-test-yes)) (omega (arith, loop.invariant.3.done.sofar.few_bytes, loop-inv, loop-test-yes)))

pub array-returns-in_err-element-in-There : goal.array-returns-in_err-element-in-There
array-returns-in_err-element-in-There t c =
    let names = c.args.names.now in
    let tab = table c.args.types.now names in
    let s = c.args.s.now in
    let loop = c.loop-k in
    let out : c.from_residual-in_err-element-in-There.result ≡ Err c.in_err-element-in-There.field-0.0 = search rules in
    reads-no out (over_no tab c.args.row (array-no (λ q u. read_at (c.args.depth - 1) tab s q u) tab s c.args.row c.args.place (c.args.depth - 1) (elements-refused (λ q u. read_at (c.args.depth - 1) tab s q u) (c.args.depth - 1) tab s c.args.row c.args.place loop.invariant.3 (rw (← loop.invariant.0) c.loop-k-test.true) (sym c.in-There.is ∙ c.element_found.ensures names) (failed (at_row (λ q u. read_at (c.args.depth - 1) tab s q u) c.in-There.q (c.type_at-t.ensures names) c.value.ensures) c.in_err-element-in-There.was))))

pub array-after_part-next-requires : goal.array-after_part-next-requires
array-after_part-next-requires t c =
    let names = c.args.names.now in
    let tab = table c.args.types.now names in
    let s = c.args.s.now in
    let d = c.args.depth in
    let loop = c.loop-k in
    (c.requires.given.short, omega (arith, (passed (at_row (λ q u. read_at (d - 1) tab s q u) c.in-There.q (c.type_at-t.ensures names) c.value.ensures) c.in_ok-element-in-There.was).near, near-there tab s c.args.row loop.k (65539 + d) loop.next loop.invariant.2 (sym c.in-There.is ∙ c.element_found.ensures names), c.requires.given.row_room))

pub array-returns-in_err-end : goal.array-returns-in_err-end
array-returns-in_err-end t c =
    let names = c.args.names.now in
    let tab = table c.args.types.now names in
    let s = c.args.s.now in
    let loop = c.loop-k in
    let out : c.from_residual-in_err-end.result ≡ Err c.in_err-end.field-0.0 = search rules in
    reads-no out (over_no tab c.args.row (array-surplus (λ q u. read_at (c.args.depth - 1) tab s q u) tab s c.args.row c.args.place (c.args.depth - 1) loop.invariant.3 (omega (arith, loop.invariant.0, c.loop-k-test.false)) (sym c.in_err-end.was ∙ c.surplus.ensures names)))

pub array-returns : goal.array-returns
array-returns t c =
    let names = c.args.names.now in
    let tab = table c.args.types.now names in
    let s = c.args.s.now in
    let loop = c.loop-k in
    array-end (λ q u. read_at (c.args.depth - 1) tab s q u) tab s c.args.row c.args.place (c.args.depth - 1) loop.invariant.3 (omega (arith, loop.invariant.0, c.loop-k-test.false)) c.requires.place_in_bounds.2 c.ones.ensures c.requires.given.short (omega (arith, c.requires.place_in_bounds.1)) (omega (arith, c.requires.place_in_bounds.0, c.requires.given.short)) loop.invariant.2 (sym c.in_ok-end.was ∙ c.surplus.ensures names) c.close.ensures.value c.close.ensures.rows_after

pub choice-position-requires : goal.choice-position-requires
choice-position-requires t c = (c.requires.given.short, one-near (c.args.depth - 1) c.args.s.now c.args.place c.requires.given.short c.requires.place_in_bounds.0 (sym c.in-Some.is ∙ c.one_at.ensures))

pub choice-value_place-at-requires : goal.choice-value_place-at-requires
choice-value_place-at-requires t c = (c.requires.given.short, one-near (c.args.depth - 1) c.args.s.now c.args.place c.requires.given.short c.requires.place_in_bounds.0 (sym c.in-Some.is ∙ c.one_at.ensures))

pub choice-value-requires : goal.choice-value-requires
choice-value-requires t c =
    let names = c.args.names.now in
    (omega arith, given-one c.requires.given c.requires.place_in_bounds.1 (rw (c.type_at-t.ensures names) (c.requires.given.sane.member c.args.row c.in-Some-position.k c.requires.given.typed (position-found (table c.args.types.now names) c.args.row (denoted c.args.s.now (c.in-Some.q + 1)) c.in-Some-position.k (sym (sym c.in-Some-position.is ∙ c.position.ensures))).1)) (omega (arith, c.value_place-at.ensures.1)))

pub choice-advance-c-requires : goal.choice-advance-c-requires
choice-advance-c-requires t c = let z : c.skip_space.result.at + 1 < 18446744073709551616 = omega (arith, c.skip_space.ensures, c.value_place-at.ensures.1, c.requires.given.row_room, space-within c.args.s.now (limit c.value_place-at.result + (c.args.depth - 1)) c.in_ok-one.one.next (omega (arith, c.requires.given.short)) (passed c.value.ensures c.in_ok-one.was).near) in z

pub choice-returns-in_default : goal.choice-returns-in_default
choice-returns-in_default t c =
    let s = c.args.s.now in
    let tab = table c.args.types.now c.args.names.now in
    reads-no c.refused.ensures (over_no tab c.args.row (choice-not-one (λ q u. read_at (c.args.depth - 1) tab s q u) (c.args.depth - 1) tab s c.args.row c.args.place (sym c.in_default.is ∙ c.one_at.ensures)))

pub choice-returns-in_default-position : goal.choice-returns-in_default-position
choice-returns-in_default-position t c =
    let names = c.args.names.now in
    let tab = table c.args.types.now names in
    let s = c.args.s.now in
    unknown-over UnknownName c.args.place c.in-Some.q (extensible tab c.args.row) (c.unknown.ensures names) (choice-none (λ q u. read_at (c.args.depth - 1) tab s q u) (c.args.depth - 1) tab s c.args.row c.args.place (sym c.in-Some.is ∙ c.one_at.ensures) (sym (sym c.in_default-position.is ∙ c.position.ensures)))

pub choice-returns-in_err-one : goal.choice-returns-in_err-one
choice-returns-in_err-one t c =
    let names = c.args.names.now in
    let tab = table c.args.types.now names in
    let s = c.args.s.now in
    let out : c.from_residual.result ≡ Err c.in_err-one.field-0.0 = search rules in
    reads-no out (over_no tab c.args.row (choice-refused (λ q u. read_at (c.args.depth - 1) tab s q u) (c.args.depth - 1) tab s c.args.row c.args.place (sym c.in-Some.is ∙ c.one_at.ensures) (sym (sym c.in-Some-position.is ∙ c.position.ensures)) (failed (at_place (λ q u. read_at (c.args.depth - 1) tab s q u) (c.type_at-t.ensures names) c.value_place-at.ensures.0 c.value.ensures) c.in_err-one.was)))

pub choice-returns : goal.choice-returns
choice-returns t c =
    let names = c.args.names.now in
    let tab = table c.args.types.now names in
    let s = c.args.s.now in
    let next = c.in_ok-one.was in
    let value-place = c.value_place-at in
    let value-said = c.value.ensures in
    let here = at_place (λ q u. read_at (c.args.depth - 1) tab s q u) (c.type_at-t.ensures names) value-place.ensures.0 value-said in
    let went = passed here next in
    along (over-ok tab c.args.row (choice-picked (λ q u. read_at (c.args.depth - 1) tab s q u) (c.args.depth - 1) tab s c.args.row c.args.place (sym c.in-Some.is ∙ c.one_at.ensures) (sym (sym c.in-Some-position.is ∙ c.position.ensures)) went.took.is)) (closed (whole-choice went.took here.stepped c.requires.place_in_bounds.2) (omega (arith, space-within s (limit value-place.result + (c.args.depth - 1)) went.took.g.next (omega (arith, c.requires.given.short)) (omega (arith, went.took.next, (passed value-said next).near)), c.requires.place_in_bounds.0, c.requires.place_in_bounds.1, value-place.ensures.1, c.requires.given.short)) (rw (sym (c.advance-c.ensures ∙ ap (λ (x : ℕ). x + 1) (c.skip_space.ensures ∙ ap (λ (x : ℕ). past_space s x) (sym went.took.next)))) c.close.ensures.value) c.close.ensures.rows_after)

pub each_member-loop-k-init : goal.each_member-loop-k-init
each_member-loop-k-init t c =
    let names = c.args.names.now in
    let tab = table c.args.types.now names in
    let s = c.args.s.now in
    (c.count_of-count.ensures names, omega (arith, c.requires.given.sane.few c.args.row c.requires.given.typed, c.count_of-count.ensures names), order_start (λ q u. read_at (c.args.depth - 1) tab s q u) tab s c.args.row c.args.place c.args.found.now.met c.args.found.now.places c.args.slot c.args.offset c.args.rows.now c.args.pool.now)

pub each_member-returns-in-Missing : goal.each_member-returns-in-Missing
each_member-returns-in-Missing t c =
    let names = c.args.names.now in
    let tab = table c.args.types.now names in
    let s = c.args.s.now in
    let loop = c.loop-k in
    reads-no c.refused.ensures (over_no tab c.args.row (object-no (λ q u. read_at (c.args.depth - 1) tab s q u) tab s c.args.row c.args.place c.args.found.now (order_missing (λ q u. read_at (c.args.depth - 1) tab s q u) tab s c.args.row c.args.place c.args.found.now.met c.args.found.now.places loop.invariant.2 (rw (← loop.invariant.0) c.loop-k-test.true) (sym c.in-Missing.is ∙ member_is tab s c.args.row loop.k c.args.found.now.met c.args.found.now.places c.wide.ensures.0 c.wide-there.ensures.0 c.bit.ensures (c.member_found.ensures names)))))

pub each_member-value-requires : goal.each_member-value-requires
each_member-value-requires t c =
    let names = c.args.names.now in
    let loop = c.loop-k in
    let loop-test-yes = c.loop-k-test.true in
    let wide2 = c.wide-there in
    let loop-inv = loop.invariant.1 in
    (omega arith, given_part c.requires.given c.requires.depth_nonzero.0 (rw (c.type_at-t.ensures names) (c.requires.given.sane.member c.args.row loop.k c.requires.given.typed (rw (← loop.invariant.0) c.loop-k-test.true))) (omega (arith, there-place (table c.args.types.now names) c.args.s.now c.args.row loop.k c.bit.result wide2.result (sym c.in-There.is ∙ c.member_found.ensures names), wide2.ensures.0, wide2.ensures.1)) (omega (arith, loop.invariant.2.done.sofar.few_rows, loop-inv, loop-test-yes)) (omega (arith, loop.invariant.2.done.sofar.few_bytes, loop-inv, loop-test-yes)))

pub each_member-returns-in_err-member-in-There : goal.each_member-returns-in_err-member-in-There
each_member-returns-in_err-member-in-There t c =
    let names = c.args.names.now in
    let tab = table c.args.types.now names in
    let s = c.args.s.now in
    let loop = c.loop-k in
    let out : c.from_residual.result ≡ Err c.in_err-member-in-There.field-0.0 = search rules in
    reads-no out (over_no tab c.args.row (object-no (λ q u. read_at (c.args.depth - 1) tab s q u) tab s c.args.row c.args.place c.args.found.now (order_refused (λ q u. read_at (c.args.depth - 1) tab s q u) tab s c.args.row c.args.place c.args.found.now.met c.args.found.now.places loop.invariant.2 (rw (← loop.invariant.0) c.loop-k-test.true) (sym c.in-There.is ∙ member_is tab s c.args.row loop.k c.args.found.now.met c.args.found.now.places c.wide.ensures.0 c.wide-there.ensures.0 c.bit.ensures (c.member_found.ensures names)) (failed (at_row (λ q u. read_at (c.args.depth - 1) tab s q u) c.in-There.q (c.type_at-t.ensures names) c.value.ensures) c.in_err-member-in-There.was))))

pub each_member-returns : goal.each_member-returns
each_member-returns t c =
    let s = c.args.s.now in
    let loop = c.loop-k in
    let tab = table c.args.types.now c.args.names.now in
    along (over-ok tab c.args.row (object-ok (λ q u. read_at (c.args.depth - 1) tab s q u) tab s c.args.row c.args.place c.args.found.now (order_end (λ q u. read_at (c.args.depth - 1) tab s q u) tab s c.args.row c.args.place c.args.found.now.met c.args.found.now.places loop.invariant.2 (omega (arith, loop.invariant.0, c.loop-k-test.false))))) (closed (whole_seq loop.invariant.2.done.sofar c.requires.depth_nonzero.2 loop.invariant.2.done.members (c.ones.ensures ∙ loop.invariant.2.done.count)) c.requires.depth_nonzero.1 c.close.ensures.value c.close.ensures.rows_after)

pub list-loop-next-init : goal.list-loop-next-init
list-loop-next-init t c =
    let names = c.args.names.now in
    let tab = table c.args.types.now names in
    let s = c.args.s.now in
    let d = c.args.depth in
    let first = c.first_part-next.result in
    let first-part-said = c.first_part-next.ensures in
    let elementOf' = element_of tab c.args.row in
    (c.element_of-t.ensures names, near_first s 0x5D c.args.place (65539 + d) first c.requires.given.short c.requires.place_in_bounds.0 (omega (arith, c.requires.place_in_bounds.1)) first-part-said, loop_start (λ q. read_at (d - 1) tab s elementOf' q) s tab elementOf' (first_part s 0x5D c.args.place) first c.args.slot c.args.offset c.args.rows.now c.args.pool.now first-part-said)

pub list-returns-in-Shut : goal.list-returns-in-Shut
list-returns-in-Shut t c =
    let s = c.args.s.now in
    let d = c.args.depth in
    let loop = c.loop-next in
    let here = c.in-Shut.is in
    let tab = table c.args.types.now c.args.names.now in
    along (over-ok tab c.args.row (list-ok (λ q u. read_at (d - 1) tab s q u) tab s c.args.row c.args.place (loop_shut loop.invariant.2 here))) (closed (whole-list loop.invariant.2.sofar c.requires.place_in_bounds.2 loop.invariant.2.items (c.narrow.ensures (omega (arith, c.requires.given.short, loop.invariant.2.few)))) (omega (arith, c.requires.place_in_bounds.0, near-shut (65539 + d) here loop.invariant.1)) c.close.ensures.value c.close.ensures.rows_after)

pub list-returns-then-s-count : goal.list-returns-then-s-count
list-returns-then-s-count t c =
    let s = c.args.s.now in
    let d = c.args.depth in
    let loop = c.loop-next in
    let here = c.in-Part.is in
    let tab = table c.args.types.now c.args.names.now in
    along (over-ok tab c.args.row (list-ok (λ q u. read_at (d - 1) tab s q u) tab s c.args.row c.args.place (loop_full loop.invariant.2 here c.if-s-count.true))) (closed (whole-list loop.invariant.2.sofar c.requires.place_in_bounds.2 loop.invariant.2.items (c.narrow-then-s-count.ensures (omega (arith, c.requires.given.short, loop.invariant.2.few)))) (omega (arith, c.requires.place_in_bounds.0, near_part (65539 + d) here loop.invariant.1)) c.close-then-s-count.ensures.value c.close-then-s-count.ensures.rows_after)

pub list-returns-in_err-item-in-Part : goal.list-returns-in_err-item-in-Part
list-returns-in_err-item-in-Part t c =
    let s = c.args.s.now in
    let loop = c.loop-next in
    let tab = table c.args.types.now c.args.names.now in
    let out : c.from_residual.result ≡ Err c.in_err-item-in-Part.field-0.0 = search rules in
    reads-no out (over_no tab c.args.row (list-no (λ q u. read_at (c.args.depth - 1) tab s q u) tab s c.args.row c.args.place (loop_refused loop.invariant.2 c.in-Part.is c.if-s-count.false (failed (at_row (λ q u. read_at (c.args.depth - 1) tab s q u) c.in-Part.q loop.invariant.0 c.value.ensures) c.in_err-item-in-Part.was))))

pub list-loop-next-preserved : goal.list-loop-next-preserved
list-loop-next-preserved t c =
    let s = c.args.s.now in
    let d = c.args.depth in
    let loop = c.loop-next in
    let loop-inv = loop.invariant.0 in
    let it = 65539 + d in
    let after-part-said = c.after_part-next.ensures in
    let end = c.in_ok-item-in-Part.was in
    let here = c.in-Part.is in
    let there = at_row (λ q u. read_at (d - 1) (table c.args.types.now c.args.names.now) s q u) c.in-Part.q loop-inv c.value.ensures in
    (loop-inv, near-after s c.in_ok-item-in-Part.item.next it c.after_part-next.result c.requires.given.short (omega (arith, (passed c.value.ensures end).near, near_part it here loop.invariant.1, c.requires.place_in_bounds.1)) (omega arith) after-part-said, loop_more loop.invariant.2 here c.if-s-count.false (passed there end).took there.stepped (passed c.value.ensures end).few_rows (passed c.value.ensures end).few_bytes c.value.auto.rows c.value.auto.pool after-part-said)

pub object-each_member-requires : goal.object-each_member-requires
object-each_member-requires t c =
    let s = c.args.s.now in
    let d = c.args.depth in
    let short = c.requires.given.short in
    let start = first_part s 0x7D c.args.place in
    let near : c.in_ok-found.found.next ≤ 65540 = subst (Ends 65540) (sym (sym c.in_ok-found.was ∙ c.scan.ensures)) (scan_near (d - 1) (table c.args.types.now c.args.names.now) s c.args.row 65540 short (omega arith) (length s) start 0 no_places (near_first s 0x7D c.args.place 65540 start short c.requires.place_in_bounds.0 (omega arith) refl)) in
    (omega arith, (c.requires.given, (c.requires.place_in_bounds.1, omega arith, c.requires.place_in_bounds.2)))

pub object-returns-in_err-found : goal.object-returns-in_err-found
object-returns-in_err-found t c =
    let s = c.args.s.now in
    let tab = table c.args.types.now c.args.names.now in
    let out : c.from_residual.result ≡ Err c.in_err-found.field-0.0.why = search rules in
    reads-no out (over_no tab c.args.row (object_stopped (λ q u. read_at (c.args.depth - 1) tab s q u) (c.args.depth - 1) tab s c.args.row c.args.place (sym c.in_err-found.was ∙ c.scan.ensures)))

pub object-returns : goal.object-returns
object-returns t c =
    let s = c.args.s.now in
    let tab = table c.args.types.now c.args.names.now in
    along (ap (λ (x : Res (Got Val)). bind x (within tab c.args.row)) (object-scanned (λ q u. read_at (c.args.depth - 1) tab s q u) (c.args.depth - 1) tab s c.args.row c.args.place (sym c.in_ok-found.was ∙ c.scan.ensures))) c.each_member.ensures

pub plain-leaf-requires : goal.plain-leaf-requires
plain-leaf-requires t c = (c.requires.given.short, λ h. omega (arith, string_stands c.args.s.now c.args.place (sym c.requires.token_value ∙ h), c.requires.given.short), omega (arith, c.requires.given.row_room))

pub plain-returns-in_err-leaf-in_default : goal.plain-returns-in_err-leaf-in_default
plain-returns-in_err-leaf-in_default t c =
    let s = c.args.s.now in
    let tab = table c.args.types.now c.args.names.now in
    let k = c.args.token in
    let out : c.from_residual.result ≡ Err c.in_err-leaf-in_default.field-0.0 = search rules in
    reads-no out (over_no tab c.args.row (rw c.requires.token_value at (sym (not-took tab c.args.row (leaf_at tab s k c.args.row c.args.place) _ (sym c.in_err-leaf-in_default.was ∙ c.leaf.ensures.answer)) ∙ plain-leaf tab s c.args.row c.args.place c.args.depth k c.in_default.not-Array c.in_default.not-Object)))

pub plain-returns-in_ok-leaf-in_default : goal.plain-returns-in_ok-leaf-in_default
plain-returns-in_ok-leaf-in_default t c =
    let s = c.args.s.now in
    let k = c.args.token in
    let tab = table c.args.types.now c.args.names.now in
    rw c.requires.token_value at (along (ap (λ (x : Res (Got Val)). bind x (within tab c.args.row)) (plain-leaf tab s c.args.row c.args.place c.args.depth k c.in_default.not-Array c.in_default.not-Object)) (bounded-near c.args.place c.args.depth (bounded-reads (leaf_at tab s k c.args.row c.args.place) c.leaf.ensures c.in_ok-leaf-in_default.was c.bounded.ensures (λ g e. leaf-near tab s c.args.row c.args.place c.requires.given.short k (λ h. string_stands s c.args.place (sym c.requires.token_value ∙ h)) e))))

pub plain-returns-then-depth-eq0 : goal.plain-returns-then-depth-eq0
plain-returns-then-depth-eq0 t c =
    let s = c.args.s.now in
    let tab = table c.args.types.now c.args.names.now in
    reads-no c.refused.ensures (over_no tab c.args.row (plain-deep tab s c.args.row c.args.place c.args.depth (inl (sym c.requires.token_value ∙ c.in-Array.is)) c.if-depth-eq0.true))

pub plain-list-requires : goal.plain-list-requires
plain-list-requires t c = (omega arith, (c.requires.given, (bracket_inside c.args.s.now c.args.place c.requires.token_value (inl c.in-Array.is), positive c.args.depth c.if-depth-eq0.false, sym (kind-of _ c.args.row (c.at-w.ensures c.args.names.now)) ∙ c.if-w-eq-SEQUENCE_OF.true)))

pub plain-returns-then-w-eq-SEQUENCE_OF : goal.plain-returns-then-w-eq-SEQUENCE_OF
plain-returns-then-w-eq-SEQUENCE_OF t c =
    let names = c.args.names.now in
    let tab = table c.args.types.now names in
    let s = c.args.s.now in
    along (ap (λ (x : Res (Got Val)). bind x (within tab c.args.row)) (plain-list tab s c.args.row c.args.place c.args.depth c.if-depth-eq0.false (sym c.requires.token_value ∙ c.in-Array.is) (sym (kind-of _ c.args.row (c.at-w.ensures names)) ∙ c.if-w-eq-SEQUENCE_OF.true))) c.list.ensures

pub plain-array-requires : goal.plain-array-requires
plain-array-requires t c =
    let names = c.args.names.now in
    (omega arith, (c.requires.given, (bracket_inside c.args.s.now c.args.place c.requires.token_value (inl c.in-Array.is), positive c.args.depth c.if-depth-eq0.false, array_kind (table c.args.types.now names) c.args.row (sym (c.is_array.ensures _ _ (c.at-w.ensures names)) ∙ c.if-is_array.true))))

pub plain-returns-then-is_array : goal.plain-returns-then-is_array
plain-returns-then-is_array t c =
    let names = c.args.names.now in
    let tab = table c.args.types.now names in
    let s = c.args.s.now in
    along (ap (λ (x : Res (Got Val)). bind x (within tab c.args.row)) (plain-array tab s c.args.row c.args.place c.args.depth c.if-depth-eq0.false (sym c.requires.token_value ∙ c.in-Array.is) (λ h. c.if-w-eq-SEQUENCE_OF.false (sym (sym (kind-of _ c.args.row (c.at-w.ensures names))) ∙ h)) (sym (c.is_array.ensures _ _ (c.at-w.ensures names)) ∙ c.if-is_array.true))) c.array.ensures

pub plain-returns-else-is_array : goal.plain-returns-else-is_array
plain-returns-else-is_array t c =
    let names = c.args.names.now in
    let tab = table c.args.types.now names in
    let s = c.args.s.now in
    reads-no c.refused-in-Array.ensures (over_no tab c.args.row (plain-no-array tab s c.args.row c.args.place c.args.depth c.if-depth-eq0.false (sym c.requires.token_value ∙ c.in-Array.is) (λ h. c.if-w-eq-SEQUENCE_OF.false (sym (sym (kind-of _ c.args.row (c.at-w.ensures names))) ∙ h)) (sym (c.is_array.ensures _ _ (c.at-w.ensures names)) ∙ c.if-is_array.false)))

pub plain-returns-then-depth-eq0-2 : goal.plain-returns-then-depth-eq0-2
plain-returns-then-depth-eq0-2 t c =
    let s = c.args.s.now in
    let tab = table c.args.types.now c.args.names.now in
    reads-no c.refused-then-depth-eq0-2.ensures (over_no tab c.args.row (plain-deep tab s c.args.row c.args.place c.args.depth (inr (sym c.requires.token_value ∙ c.in-Object.is)) c.if-depth-eq0-2.true))

pub plain-choice-requires : goal.plain-choice-requires
plain-choice-requires t c = (omega arith, (c.requires.given, (bracket_inside c.args.s.now c.args.place c.requires.token_value (inr c.in-Object.is), positive c.args.depth c.if-depth-eq0-2.false, sym (kind-of _ c.args.row (c.at-w-in-Object.ensures c.args.names.now)) ∙ c.if-w-eq-CHOICE.true)))

pub plain-returns-then-w-eq-CHOICE : goal.plain-returns-then-w-eq-CHOICE
plain-returns-then-w-eq-CHOICE t c =
    let names = c.args.names.now in
    let tab = table c.args.types.now names in
    let s = c.args.s.now in
    along (ap (λ (x : Res (Got Val)). bind x (within tab c.args.row)) (plain-choice tab s c.args.row c.args.place c.args.depth c.if-depth-eq0-2.false (sym c.requires.token_value ∙ c.in-Object.is) (sym (kind-of _ c.args.row (c.at-w-in-Object.ensures names)) ∙ c.if-w-eq-CHOICE.true))) c.choice.ensures

pub plain-object-requires : goal.plain-object-requires
plain-object-requires t c =
    let names = c.args.names.now in
    let tab = table c.args.types.now names in
    (omega arith, (c.requires.given, (bracket_inside c.args.s.now c.args.place c.requires.token_value (inr c.in-Object.is), positive c.args.depth c.if-depth-eq0-2.false, object-kind tab c.args.row (sequence-is tab c.args.row (c.at-w-in-Object.ensures names) (c.is_array-in-Object.ensures _ _ (c.at-w-in-Object.ensures names)) ∙ c.if-w-is_array.true))))

pub plain-returns-then-w-is_array : goal.plain-returns-then-w-is_array
plain-returns-then-w-is_array t c =
    let names = c.args.names.now in
    let tab = table c.args.types.now names in
    let s = c.args.s.now in
    along (ap (λ (x : Res (Got Val)). bind x (within tab c.args.row)) (plain-object tab s c.args.row c.args.place c.args.depth c.if-depth-eq0-2.false (sym c.requires.token_value ∙ c.in-Object.is) (λ h. c.if-w-eq-CHOICE.false (sym (sym (kind-of _ c.args.row (c.at-w-in-Object.ensures names))) ∙ h)) (sequence-is tab c.args.row (c.at-w-in-Object.ensures names) (c.is_array-in-Object.ensures _ _ (c.at-w-in-Object.ensures names)) ∙ c.if-w-is_array.true))) c.object.ensures

pub plain-returns-else-w-is_array : goal.plain-returns-else-w-is_array
plain-returns-else-w-is_array t c =
    let names = c.args.names.now in
    let tab = table c.args.types.now names in
    let s = c.args.s.now in
    reads-no c.refused-in-Object.ensures (over_no tab c.args.row (plain-no-object tab s c.args.row c.args.place c.args.depth c.if-depth-eq0-2.false (sym c.requires.token_value ∙ c.in-Object.is) (λ h. c.if-w-eq-CHOICE.false (sym (sym (kind-of _ c.args.row (c.at-w-in-Object.ensures names))) ∙ h)) (sequence-is tab c.args.row (c.at-w-in-Object.ensures names) (c.is_array-in-Object.ensures _ _ (c.at-w-in-Object.ensures names)) ∙ c.if-w-is_array.false)))

pub value-returns-then-not-is_unwrapped : goal.value-returns-then-not-is_unwrapped
value-returns-then-not-is_unwrapped t c =
    let names = c.args.names.now in
    along (value-plain c.args.depth (table c.args.types.now names) c.args.s.now c.args.row c.args.place (sym (c.is_unwrapped.ensures _ _ (c.at.ensures names)) ∙ not-true _ c.if-not-is_unwrapped.true-raw)) c.plain.ensures

pub value-plain-requires-in-Some : goal.value-plain-requires-in-Some
value-plain-requires-in-Some t c =
    let names = c.args.names.now in
    let tokenAt' = token_at c.args.s.now c.args.place in
    let token-at-said = c.token_at-token.ensures in
    (omega arith, (given-type c.requires (rw (c.type_at-m.ensures names) (c.requires.sane.member c.args.row c.in-Some.k c.requires.typed (alternative-found (table c.args.types.now names) c.args.row tokenAt' c.in-Some.k ((sym (sym c.in-Some.is ∙ (c.alternative.ensures names ∙ ap (alternative (table c.args.types.now names) c.args.row) c.token_at-token.ensures))))))), token-at-said))

pub value-returns-in-None : goal.value-returns-in-None
value-returns-in-None t c =
    let names = c.args.names.now in
    let tab = table c.args.types.now names in
    unknown-reads OtherKind c.args.place c.args.place (extensible tab c.args.row) (c.unknown.ensures names) (value_none c.args.depth tab c.args.s.now c.args.row c.args.place (sym (c.is_unwrapped.ensures _ _ (c.at.ensures names)) ∙ not-false _ c.if-not-is_unwrapped.false-raw) ((sym (sym c.in-None.is ∙ (c.alternative.ensures names ∙ ap (alternative (table c.args.types.now names) c.args.row) c.token_at-token.ensures)))))

pub value-returns-in_err-one-in-Some : goal.value-returns-in_err-one-in-Some
value-returns-in_err-one-in-Some t c =
    let names = c.args.names.now in
    let tab = table c.args.types.now names in
    let s = c.args.s.now in
    let tokenAt' = token_at s c.args.place in
    let out : c.from_residual.result ≡ Err c.in_err-one-in-Some.field-0.0 = search rules in
    reads-no out (value-refused c.args.depth tab s c.args.row c.args.place (sym (c.is_unwrapped.ensures _ _ (c.at.ensures names)) ∙ not-false _ c.if-not-is_unwrapped.false-raw) ((sym (sym c.in-Some.is ∙ (c.alternative.ensures names ∙ ap (alternative (table c.args.types.now names) c.args.row) c.token_at-token.ensures)))) (failed (at_row (λ r u. bind (plain_at c.args.depth tab s tokenAt' r u) (within tab r)) c.args.place (c.type_at-m.ensures names) c.plain-in-Some.ensures) c.in_err-one-in-Some.was))

pub value-returns-in_ok-one-in-Some : goal.value-returns-in_ok-one-in-Some
value-returns-in_ok-one-in-Some t c =
    let names = c.args.names.now in
    let tab = table c.args.types.now names in
    let s = c.args.s.now in
    let next = c.in_ok-one-in-Some.was in
    let tokenAt' = token_at s c.args.place in
    let back = sym (c.is_unwrapped.ensures _ _ (c.at.ensures names)) ∙ not-false _ c.if-not-is_unwrapped.false-raw in
    let there = at_row (λ r u. bind (plain_at c.args.depth tab s tokenAt' r u) (within tab r)) c.args.place (c.type_at-m.ensures names) c.plain-in-Some.ensures in
    along (value-picked c.args.depth tab s c.args.row c.args.place back ((sym (sym c.in-Some.is ∙ (c.alternative.ensures names ∙ ap (alternative (table c.args.types.now names) c.args.row) c.token_at-token.ensures)))) (passed there next).took.is) (closed (whole-choice (passed there next).took there.stepped (unwrapped-kind tab c.args.row back)) (omega (arith, (passed there next).near, (passed there next).took.next)) (rw (passed there next).took.next c.close.ensures.value) c.close.ensures.rows_after)

pub array-loop-k-preserved : goal.array-loop-k-preserved
array-loop-k-preserved t c =
    let names = c.args.names.now in
    let tab = table c.args.types.now names in
    let s = c.args.s.now in
    let d = c.args.depth in
    let b = 65539 + d in
    let loop = c.loop-k in
    let old = loop.invariant in
    let short = c.requires.given.short in
    let deep = c.requires.place_in_bounds.1 in
    let value = λ (q u : ℕ). read_at (d - 1) tab s q u in
    let below : loop.k < count_of tab c.args.row = rw (← old.0) c.loop-k-test.true in
    let found = c.element_found.ensures names in
    elim c.match-element_found.branch [
      | array-in-Absent w ↦
          let back = sym w.in-Absent.is ∙ found in
          rw (w.rows-is, w.pool-is, w.next-is, w.present-is, w.n-is, w.m-is)
          (old.0, old.1, near-absent tab s c.args.row loop.k b loop.next w.in-Absent.f short (omega arith) old.2 back, elements-absent value (d - 1) tab s c.args.row c.args.place old.3 below back w.put_row.ensures w.put_row.auto.rows)
      | array-in-Missing+in_ok-null-in-Missing w ↦
          let said = w.missing.ensures names loop.pool (c.args.offset + loop.m) in
          let x = ending w.in-Missing.q (missing_element tab c.args.row c.args.place loop.k) in
          let took' = took tab (type_at tab c.args.row loop.k) x w.in_ok-null-in-Missing.null (sym w.in_ok-null-in-Missing.was ∙ said.answer) in
          let small = missing-small tab c.args.row c.args.place loop.k w.in-Missing.q took' in
          rw (w.rows-is, w.pool-is, w.next-is, w.present-is, w.n-is, w.m-is)
          (old.0, old.1, old.2, elements-null value (d - 1) tab s c.args.row c.args.place old.3 below (sym w.in-Missing.is ∙ found) took' said small.0 small.1 w.missing.auto.rows refl w.with-present.ensures)
      | array-in-There+in_ok-element-in-There w ↦
          let back = sym w.in-There.is ∙ found in
          let there = at_row value w.in-There.q (w.type_at-t.ensures names) w.value.ensures in
          let went = passed there w.in_ok-element-in-There.was in
          let next = w.after_part-next.ensures in
          rw (w.rows-is, w.pool-is, w.next-is, w.present-is, w.n-is, w.m-is)
          (old.0, old.1, near-after s _ b w.after_part-next.result short (omega (arith, went.near, near-there tab s c.args.row loop.k b loop.next old.2 back)) (omega arith) next, elements-more value (d - 1) tab s c.args.row c.args.place old.3 below back went.took there.stepped went.few_rows went.few_bytes w.value.auto.rows w.value.auto.pool w.with-present-in-There.ensures next)
    ]

pub each_member-loop-k-preserved : goal.each_member-loop-k-preserved
each_member-loop-k-preserved t c =
    let names = c.args.names.now in
    let tab = table c.args.types.now names in
    let s = c.args.s.now in
    let d = c.args.depth in
    let found = c.args.found.now in
    let loop = c.loop-k in
    let old = loop.invariant in
    let value = λ (q u : ℕ). read_at (d - 1) tab s q u in
    let below : loop.k < count_of tab c.args.row = rw (← old.0) c.loop-k-test.true in
    let is = member_is tab s c.args.row loop.k found.met found.places c.wide.ensures.0 c.wide-there.ensures.0 c.bit.ensures (c.member_found.ensures names) in
    elim c.match-member_found.branch [
      | each_member-in-Absent w ↦
          rw (w.rows-is, w.pool-is, w.present-is, w.n-is, w.m-is)
          (old.0, old.1, order_absent value tab s c.args.row c.args.place found.met found.places old.2 below (sym w.in-Absent.is ∙ is) w.put_row.ensures w.put_row.auto.rows)
      | each_member-in-There+in_ok-member-in-There w ↦
          let there = at_row value w.in-There.q (w.type_at-t.ensures names) w.value.ensures in
          let went = passed there w.in_ok-member-in-There.was in
          rw (w.rows-is, w.pool-is, w.present-is, w.n-is, w.m-is)
          (old.0, old.1, order_more value tab s c.args.row c.args.place found.met found.places old.2 below (sym w.in-There.is ∙ is) went.took there.stepped went.few_rows went.few_bytes w.value.auto.rows w.value.auto.pool w.with-present.ensures)
    ]
