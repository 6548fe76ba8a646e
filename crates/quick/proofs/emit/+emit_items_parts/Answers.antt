use Prim.Native.Nat.{ℕ, ◌+◌}
use mathlib.Core.Path.{refl, ap, ◌∙◌}
use native.Mathlib.Omega.{arith}
use lib.ListN.{get_or}
use Rattle.quick.proofs.EmitLaws.{noted_two, noted_three, noted_nodes, noted_slot, row-stored, parts-given, items-given, choice-given, list_emitted, parts_emitted, choice_emitted}
use Rattle.quick.proofs.PourLaws.{pouring-start, items_noted, items-step, items-again, items-end, filling-start, link-inside, parts-some, parts-absent, parts_noted, parts-ahead, parts_again, parts-step, parts-end}
use Rattle.quick.proofs.emit.+emit_items_parts.Goals as goal
use Rattle.quick.proofs.emit.+emit_items_parts.Goals.{parts-then-w-eq0, parts-else-w-eq0}

pub emit-offset_bounds-tape-top : goal.emit-offset_bounds-tape-top
emit-offset_bounds-tape-top t c =
    let two = noted_two c.requires.0 in
    omega (arith, two, c.requires.1.1)

pub emit-bounds-tape-top : goal.emit-bounds-tape-top
emit-bounds-tape-top t c =
    let two = noted_two c.requires.0 in
    omega (arith, two)

pub emit-overflow_add-b : goal.emit-overflow_add-b
emit-overflow_add-b t c =
    let two = noted_two c.requires.0 in
    omega (arith, two, c.requires.1.1)

pub emit-offset_bounds-tape-top-2 : goal.emit-offset_bounds-tape-top-2
emit-offset_bounds-tape-top-2 t c =
    let two = noted_two c.requires.0 in
    omega (arith, two, c.requires.1.1)

pub emit-bounds-tape-top-2 : goal.emit-bounds-tape-top-2
emit-bounds-tape-top-2 t c =
    let two = noted_two c.requires.0 in
    omega (arith, two)

pub emit-put_row-requires : goal.emit-put_row-requires
emit-put_row-requires t c =
    let here = noted_slot c.requires.0 in
    omega (arith, here)

pub emit-returns-then-kind-lt-OCTET_STRING : goal.emit-returns-then-kind-lt-OCTET_STRING
emit-returns-then-kind-lt-OCTET_STRING t c =
    let rows = c.args.rows.now in
    let pool = c.args.pool.now in
    λ ns v k w. row-stored c.args.offset c.args.slot rows c.put_row.new.rows pool (c.kind_of-kind.ensures ns) c.if-kind-lt-OCTET_STRING.true c.put_row.ensures w

pub emit-string-requires : goal.emit-string-requires
emit-string-requires t c =
    let noted = c.requires.0 in
    (noted, c.requires.1, λ ns. (omega (arith, c.if-kind-lt-OCTET_STRING.false, c.kind_of-kind.ensures ns), omega (arith, c.if-kind-lt-SEQUENCE.true, c.kind_of-kind.ensures ns)))

pub emit-returns-then-kind-lt-SEQUENCE : goal.emit-returns-then-kind-lt-SEQUENCE
emit-returns-then-kind-lt-SEQUENCE t c = c.string.ensures

pub emit-put_row-requires-2 : goal.emit-put_row-requires-2
emit-put_row-requires-2 t c =
    let here = noted_slot c.requires.0 in
    omega (arith, here)

pub emit-overflow_add-top : goal.emit-overflow_add-top
emit-overflow_add-top t c =
    let two = noted_two c.requires.0 in
    omega (arith, two, c.requires.1.1)

pub emit-parts-requires : goal.emit-parts-requires
emit-parts-requires t c =
    let noted = c.requires.0 in
    let three = noted_three c.requires.0 c.kind_of-kind.result c.kind_of-kind.ensures c.if-kind-lt-SEQUENCE.false in
    (omega (arith, three, c.requires.1.1), (parts-given noted c.put_row-2.new.rows c.put_row-2.auto.rows c.kind_of-kind.result c.kind_of-kind.ensures c.in-6.is, c.requires.1, omega arith))

pub emit-overflow_add-top-in-7 : goal.emit-overflow_add-top-in-7
emit-overflow_add-top-in-7 t c =
    let two = noted_two c.requires.0 in
    omega (arith, two, c.requires.1.1)

pub emit-offset_bounds-tape-top-in-7 : goal.emit-offset_bounds-tape-top-in-7
emit-offset_bounds-tape-top-in-7 t c =
    let two = noted_two c.requires.0 in
    omega (arith, two, c.requires.1.1)

pub emit-bounds-tape-top-in-7 : goal.emit-bounds-tape-top-in-7
emit-bounds-tape-top-in-7 t c =
    let three = noted_three c.requires.0 c.kind_of-kind.result c.kind_of-kind.ensures c.if-kind-lt-SEQUENCE.false in
    omega (arith, three)

pub emit-overflow_add-top-in-7-2 : goal.emit-overflow_add-top-in-7-2
emit-overflow_add-top-in-7-2 t c =
    let two = noted_two c.requires.0 in
    omega (arith, two, c.requires.1.1)

pub emit-items-requires : goal.emit-items-requires
emit-items-requires t c =
    let noted = c.requires.0 in
    let three = noted_three c.requires.0 c.kind_of-kind.result c.kind_of-kind.ensures c.if-kind-lt-SEQUENCE.false in
    (omega (arith, three, c.requires.1.1), (items-given noted c.put_row-2.new.rows c.put_row-2.auto.rows c.kind_of-kind.result c.kind_of-kind.ensures c.in-7.is c.element_of.result c.wide-end.result c.element_of.ensures c.wide-end.ensures.0, c.requires.1))

pub emit-overflow_add-top-in_default : goal.emit-overflow_add-top-in_default
emit-overflow_add-top-in_default t c =
    let two = noted_two c.requires.0 in
    omega (arith, two, c.requires.1.1)

pub emit-emit-requires : goal.emit-emit-requires
emit-emit-requires t c =
    let noted = c.requires.0 in
    let three = noted_three c.requires.0 c.kind_of-kind.result c.kind_of-kind.ensures c.if-kind-lt-SEQUENCE.false in
    (omega (arith, three, c.requires.1.1), (choice-given noted c.put_row-2.new.rows c.put_row-2.auto.rows c.kind_of-kind.result c.kind_of-kind.ensures c.if-kind-lt-SEQUENCE.false (λ i. omega arith) (λ i. omega arith) c.type_at.result c.type_at.ensures, c.requires.1))

pub emit-returns-in-6 : goal.emit-returns-in-6
emit-returns-in-6 t c =
    let types = c.args.types.now in
    let s = c.args.s.now in
    let z = c.args.tape.now in
    let row = c.args.row in
    let top = c.args.top in
    let rows = c.args.rows.now in
    let pool = c.args.pool.now in
    parts_emitted types s z rows c.put_row-2.new.rows c.parts.new.rows pool c.parts.new.pool row top c.args.slot c.args.offset c.parts.result c.kind_of-kind.result c.kind_of-kind.ensures c.put_row-2.ensures c.in-6.is c.parts.ensures

pub emit-returns-in-7 : goal.emit-returns-in-7
emit-returns-in-7 t c =
    let types = c.args.types.now in
    let s = c.args.s.now in
    let z = c.args.tape.now in
    let row = c.args.row in
    let top = c.args.top in
    let rows = c.args.rows.now in
    let pool = c.args.pool.now in
    list_emitted types s z rows c.put_row-2.new.rows c.items.new.rows pool c.items.new.pool row top c.args.slot c.args.offset c.items.result c.kind_of-kind.result c.kind_of-kind.ensures c.put_row-2.ensures c.in-7.is c.element_of.result c.wide-end.result c.element_of.ensures c.wide-end.ensures.0 c.items.ensures

pub emit-returns-in_default : goal.emit-returns-in_default
emit-returns-in_default t c =
    let types = c.args.types.now in
    let s = c.args.s.now in
    let z = c.args.tape.now in
    let row = c.args.row in
    let top = c.args.top in
    let rows = c.args.rows.now in
    let pool = c.args.pool.now in
    choice_emitted types s z rows c.put_row-2.new.rows c.emit.new.rows pool c.emit.new.pool row top c.args.slot c.args.offset c.emit.result c.kind_of-kind.result c.kind_of-kind.ensures c.put_row-2.ensures c.if-kind-lt-SEQUENCE.false (λ i. omega arith) (λ i. omega arith) c.type_at.result c.type_at.ensures c.emit.ensures

pub items-loop-at-init : goal.items-loop-at-init
items-loop-at-init t c =
    let s = c.args.s.now in
    let z = c.args.tape.now in
    let row = c.args.row in
    let rows = c.args.rows.now in
    let pool = c.args.pool.now in
    (refl, refl, omega arith, λ ns vs w. pouring-start _ s z rows pool row vs c.args.end c.args.slot c.args.offset c.args.from w)

pub items-emit-o-requires : goal.items-emit-o-requires
items-emit-o-requires t c =
    let types = c.args.types.now in
    let s = c.args.s.now in
    let z = c.args.tape.now in
    let row = c.args.row in
    let noted = c.requires.0 in
    let rows = c.args.rows.now in
    let pool = c.args.pool.now in
    let again = items_noted types s z rows c.loop-at.rows pool c.loop-at.pool row c.args.from c.args.end c.args.slot c.args.offset c.loop-at.at c.loop-at.q c.loop-at.o noted c.loop-at.invariant c.loop-at-test.true in
    (omega (arith, c.loop-at.invariant.2, noted_two again, c.requires.1.1), (again, c.requires.1))

pub items-node_at-g-requires : goal.items-node_at-g-requires
items-node_at-g-requires t c =
    let types = c.args.types.now in
    let s = c.args.s.now in
    let z = c.args.tape.now in
    let row = c.args.row in
    let noted = c.requires.0 in
    let rows = c.args.rows.now in
    let pool = c.args.pool.now in
    let again = items_noted types s z rows c.loop-at.rows pool c.loop-at.pool row c.args.from c.args.end c.args.slot c.args.offset c.loop-at.at c.loop-at.q c.loop-at.o noted c.loop-at.invariant c.loop-at-test.true in
    noted_nodes again

pub items-overflow_add-q : goal.items-overflow_add-q
items-overflow_add-q t c =
    let types = c.args.types.now in
    let s = c.args.s.now in
    let z = c.args.tape.now in
    let row = c.args.row in
    let noted = c.requires.0 in
    let rows = c.args.rows.now in
    let pool = c.args.pool.now in
    let step = items-step types s z rows c.loop-at.rows pool c.loop-at.pool row c.args.from c.args.end c.args.slot c.args.offset c.loop-at.at c.loop-at.q c.loop-at.o noted c.loop-at.invariant c.loop-at-test.true c.node_at-g.result.end c.node_at-g.result.rows c.node_at-g.ensures in
    omega (arith, step.1)

pub items-loop-at-smaller : goal.items-loop-at-smaller
items-loop-at-smaller t c =
    let types = c.args.types.now in
    let s = c.args.s.now in
    let z = c.args.tape.now in
    let row = c.args.row in
    let noted = c.requires.0 in
    let rows = c.args.rows.now in
    let pool = c.args.pool.now in
    let step = items-step types s z rows c.loop-at.rows pool c.loop-at.pool row c.args.from c.args.end c.args.slot c.args.offset c.loop-at.at c.loop-at.q c.loop-at.o noted c.loop-at.invariant c.loop-at-test.true c.node_at-g.result.end c.node_at-g.result.rows c.node_at-g.ensures in
    omega (arith, step.0, c.loop-at-test.true)

pub items-loop-at-preserved : goal.items-loop-at-preserved
items-loop-at-preserved t c =
    let types = c.args.types.now in
    let s = c.args.s.now in
    let z = c.args.tape.now in
    let row = c.args.row in
    let noted = c.requires.0 in
    let rows = c.args.rows.now in
    let pool = c.args.pool.now in
    items-again types s z rows c.loop-at.rows pool c.loop-at.pool row c.args.from c.args.end c.args.slot c.args.offset c.loop-at.at c.loop-at.q c.loop-at.o noted c.loop-at.invariant c.loop-at-test.true c.emit-o.new.rows c.emit-o.new.pool c.node_at-g.result.end c.node_at-g.result.rows c.emit-o.result c.emit-o.auto.rows c.emit-o.auto.pool c.emit-o.ensures c.node_at-g.ensures

pub items-returns : goal.items-returns
items-returns t c =
    let types = c.args.types.now in
    let s = c.args.s.now in
    let z = c.args.tape.now in
    let row = c.args.row in
    let rows = c.args.rows.now in
    let pool = c.args.pool.now in
    items-end types s z rows c.loop-at.rows pool c.loop-at.pool row c.args.from c.args.end c.args.slot c.args.offset c.loop-at.at c.loop-at.q c.loop-at.o c.loop-at.invariant c.loop-at-test.false

pub parts-loop-k-init : goal.parts-loop-k-init
parts-loop-k-init t c =
    let s = c.args.s.now in
    let z = c.args.tape.now in
    let row = c.args.row in
    let rows = c.args.rows.now in
    let pool = c.args.pool.now in
    (refl, refl, λ ns ps end w. filling-start _ s z rows pool row ps c.args.from end c.args.slot c.args.offset w)

pub parts-overflow_add-from : goal.parts-overflow_add-from
parts-overflow_add-from t c =
    let types = c.args.types.now in
    let s = c.args.s.now in
    let z = c.args.tape.now in
    let row = c.args.row in
    let noted = c.requires.0 in
    let rows = c.args.rows.now in
    let pool = c.args.pool.now in
    let link = link-inside types s z rows pool row c.args.from c.args.slot c.args.offset noted c.count_of-count.result c.count_of-count.ensures c.loop-k.k c.loop-k-test.true in
    omega (arith, link, c.wide.ensures.0, c.requires.1.1)

pub parts-offset_bounds-tape-from : goal.parts-offset_bounds-tape-from
parts-offset_bounds-tape-from t c =
    let types = c.args.types.now in
    let s = c.args.s.now in
    let z = c.args.tape.now in
    let row = c.args.row in
    let noted = c.requires.0 in
    let rows = c.args.rows.now in
    let pool = c.args.pool.now in
    let link = link-inside types s z rows pool row c.args.from c.args.slot c.args.offset noted c.count_of-count.result c.count_of-count.ensures c.loop-k.k c.loop-k-test.true in
    omega (arith, link, c.wide.ensures.0, c.requires.1.1)

pub parts-bounds-tape-from : goal.parts-bounds-tape-from
parts-bounds-tape-from t c =
    let types = c.args.types.now in
    let s = c.args.s.now in
    let z = c.args.tape.now in
    let row = c.args.row in
    let noted = c.requires.0 in
    let rows = c.args.rows.now in
    let pool = c.args.pool.now in
    let link = link-inside types s z rows pool row c.args.from c.args.slot c.args.offset noted c.count_of-count.result c.count_of-count.ensures c.loop-k.k c.loop-k-test.true in
    omega (arith, link, c.wide.ensures.0)

pub parts-put_row-requires : goal.parts-put_row-requires
parts-put_row-requires t c =
    let types = c.args.types.now in
    let s = c.args.s.now in
    let z = c.args.tape.now in
    let row = c.args.row in
    let noted = c.requires.0 in
    let rows = c.args.rows.now in
    let pool = c.args.pool.now in
    parts-some types s z rows pool row c.args.from c.args.slot c.args.offset noted c.count_of-count.result c.count_of-count.ensures c.loop-k.rows c.loop-k.pool c.loop-k.k c.loop-k.q c.loop-k.o c.loop-k.invariant c.loop-k-test.true

pub parts-overflow_add-q : goal.parts-overflow_add-q
parts-overflow_add-q t c =
    let types = c.args.types.now in
    let s = c.args.s.now in
    let z = c.args.tape.now in
    let row = c.args.row in
    let noted = c.requires.0 in
    let rows = c.args.rows.now in
    let pool = c.args.pool.now in
    omega (arith, parts-some types s z rows pool row c.args.from c.args.slot c.args.offset noted c.count_of-count.result c.count_of-count.ensures c.loop-k.rows c.loop-k.pool c.loop-k.k c.loop-k.q c.loop-k.o c.loop-k.invariant c.loop-k-test.true)

pub parts-emit-o-requires : goal.parts-emit-o-requires
parts-emit-o-requires t c =
    let types = c.args.types.now in
    let s = c.args.s.now in
    let z = c.args.tape.now in
    let row = c.args.row in
    let noted = c.requires.0 in
    let rows = c.args.rows.now in
    let pool = c.args.pool.now in
    let word = c.wide-w.ensures.0 ∙ ap (λ (x : ℕ). get_or z (c.args.from + x) 0) c.wide.ensures.0 in
    let part = parts_noted types s z rows pool row c.args.from c.args.slot c.args.offset noted c.count_of-count.result c.count_of-count.ensures c.loop-k.rows c.loop-k.pool c.loop-k.k c.loop-k.q c.loop-k.o c.loop-k.invariant c.loop-k-test.true c.wide-w.result word c.type_at-m.result c.type_at-m.ensures c.if-w-eq0.false in
    (omega (arith, parts-ahead types s z rows pool row c.args.from c.args.slot c.args.offset noted c.count_of-count.result c.count_of-count.ensures c.loop-k.rows c.loop-k.pool c.loop-k.k c.loop-k.q c.loop-k.o c.loop-k.invariant c.loop-k-test.true c.wide-w.result word c.type_at-m.result c.type_at-m.ensures c.if-w-eq0.false, noted_two part, c.requires.1.1), (part, c.requires.1))

pub parts-node_at-g-requires : goal.parts-node_at-g-requires
parts-node_at-g-requires t c =
    let types = c.args.types.now in
    let s = c.args.s.now in
    let z = c.args.tape.now in
    let row = c.args.row in
    let noted = c.requires.0 in
    let rows = c.args.rows.now in
    let pool = c.args.pool.now in
    let word = c.wide-w.ensures.0 ∙ ap (λ (x : ℕ). get_or z (c.args.from + x) 0) c.wide.ensures.0 in
    let part = parts_noted types s z rows pool row c.args.from c.args.slot c.args.offset noted c.count_of-count.result c.count_of-count.ensures c.loop-k.rows c.loop-k.pool c.loop-k.k c.loop-k.q c.loop-k.o c.loop-k.invariant c.loop-k-test.true c.wide-w.result word c.type_at-m.result c.type_at-m.ensures c.if-w-eq0.false in
    noted_nodes part

pub parts-overflow_add-q-else-w-eq0 : goal.parts-overflow_add-q-else-w-eq0
parts-overflow_add-q-else-w-eq0 t c =
    let types = c.args.types.now in
    let s = c.args.s.now in
    let z = c.args.tape.now in
    let row = c.args.row in
    let noted = c.requires.0 in
    let rows = c.args.rows.now in
    let pool = c.args.pool.now in
    let word = c.wide-w.ensures.0 ∙ ap (λ (x : ℕ). get_or z (c.args.from + x) 0) c.wide.ensures.0 in
    omega (arith, c.loop-k.invariant.0, parts-step types s z rows pool row c.args.from c.args.slot c.args.offset noted c.count_of-count.result c.count_of-count.ensures c.loop-k.rows c.loop-k.pool c.loop-k.k c.loop-k.q c.loop-k.o c.loop-k.invariant c.loop-k-test.true c.wide-w.result word c.type_at-m.result c.type_at-m.ensures c.if-w-eq0.false c.node_at-g.result.end c.node_at-g.result.rows c.node_at-g.ensures)

pub parts-loop-k-preserved : goal.parts-loop-k-preserved
parts-loop-k-preserved t c =
    let types = c.args.types.now in
    let s = c.args.s.now in
    let z = c.args.tape.now in
    let row = c.args.row in
    let noted = c.requires.0 in
    let rows = c.args.rows.now in
    let pool = c.args.pool.now in
    let word = c.wide-w.ensures.0 ∙ ap (λ (x : ℕ). get_or z (c.args.from + x) 0) c.wide.ensures.0 in
    elim c.if-w-eq0.branch [
      | parts-then-w-eq0 w ↦ rw (w.rows-is, w.pool-is, w.q-is, w.o-is) (parts-absent types s z rows pool row c.args.from c.args.slot c.args.offset noted c.count_of-count.result c.count_of-count.ensures c.loop-k.rows c.loop-k.pool c.loop-k.k c.loop-k.q c.loop-k.o c.loop-k.invariant c.loop-k-test.true c.wide-w.result word w.put_row.new.rows c.requires.2 w.if-w-eq0.true w.put_row.auto.rows w.put_row.ensures)
      | parts-else-w-eq0 w ↦ rw (w.rows-is, w.pool-is, w.q-is, w.o-is) (parts_again types s z rows pool row c.args.from c.args.slot c.args.offset noted c.count_of-count.result c.count_of-count.ensures c.loop-k.rows c.loop-k.pool c.loop-k.k c.loop-k.q c.loop-k.o c.loop-k.invariant c.loop-k-test.true c.wide-w.result word w.type_at-m.result w.type_at-m.ensures w.if-w-eq0.false w.emit-o.new.rows w.emit-o.new.pool w.node_at-g.result.end w.node_at-g.result.rows w.emit-o.result w.emit-o.auto.rows w.emit-o.auto.pool w.emit-o.ensures w.node_at-g.ensures)
    ]

pub parts-returns : goal.parts-returns
parts-returns t c =
    let types = c.args.types.now in
    let s = c.args.s.now in
    let z = c.args.tape.now in
    let row = c.args.row in
    let rows = c.args.rows.now in
    let pool = c.args.pool.now in
    parts-end types s z rows c.loop-k.rows pool c.loop-k.pool row c.args.from c.args.slot c.args.offset c.loop-k.k c.loop-k.q c.loop-k.o c.count_of-count.result c.count_of-count.ensures c.loop-k.invariant c.loop-k-test.false
