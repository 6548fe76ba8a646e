use Prim.Native.Nat.{◌+◌}
use mathlib.Core.Path.{refl, sym, ap, ◌∙◌}
use native.Mathlib.Omega.{arith}
use lib.ListN.{drop}
use Rattle.std.proofs.lemmas.Result.{err_from_is_err_and}
use Rattle.types.specs.declared.row.Row.{Row}
use Rattle.written.specs.Text.{type_table}
use Rattle.written.proofs.RowLaws.{member_is, member-type}
use Rattle.types.proofs.RowLaws.{kind-of}
use Rattle.written.proofs.StartLaws.{leaf-plain, start-fails, start-ends}
use Rattle.jer.specs.Judge.{rows_in}
use Rattle.written.specs.Rows.{value_row}
use Rattle.written.proofs.TextLaws.{gives-wrong, writes-is, writes_as, writes-none, value-got, value-wrong}
use Rattle.written.proofs.ListLaws.{items-start, items-next, items-wrong, items-end}
use Rattle.written.proofs.SequenceLaws.{null_is, members-start, members-absent, members-null, members_part, members-wrong, members-end}
use Rattle.written.proofs.ValueLaws.{text-none, row-text, plain_other, plain-deep, plain-b, plain-kind, plain-position, plain_seq, plain-list, plain-choice, choice-ends, choice-wrong}
use borrow.Author.Rules.{rules}
use Rattle.written.proofs.value.+bracket_choice_judged_leaf_or_value_list_plain_sequence_value.Goals as goal
use Rattle.written.proofs.value.+bracket_choice_judged_leaf_or_value_list_plain_sequence_value.Goals.{sequence-then-absent_at, sequence-else-absent_at+then-null_in+in_ok-null, sequence-else-absent_at+else-null_in+in_ok-took}

pub bracket-returns-then-depth-eq0 : goal.bracket-returns-then-depth-eq0
bracket-returns-then-depth-eq0 t c =
    let a = c.args in
    let t = type_table a.tables.now in
    let w = a.w in
    let found = c.requires.bracket_row in
    gives-wrong (plain-deep a.depth t a.tables.now.pool.now a.row w.kind w.a w.b w.size a.slot a.offset found.4 found.0 found.3 c.if-depth-eq0.true)

pub bracket-returns-then-w-ne0 : goal.bracket-returns-then-w-ne0
bracket-returns-then-w-ne0 t c =
    let a = c.args in
    let t = type_table a.tables.now in
    let w = a.w in
    let found = c.requires.bracket_row in
    gives-wrong (plain-b a.depth t a.tables.now.pool.now a.row w.kind w.a w.b w.size a.slot a.offset found.4 found.0 found.3 c.if-w-ne0.true)

pub bracket-returns-then-kind-eq-SEQUENCE : goal.bracket-returns-then-kind-eq-SEQUENCE
bracket-returns-then-kind-eq-SEQUENCE t c =
    let a = c.args in
    let t = type_table a.tables.now in
    let w = a.w in
    let found = c.requires.bracket_row in
    writes_as (plain_seq a.depth t a.tables.now.pool.now a.row w.kind w.a w.b w.size a.slot a.offset found.4 found.0 c.if-depth-eq0.false found.2 c.if-w-ne0.false c.if-kind-eq-SEQUENCE.true) c.sequence.ensures

pub bracket-returns-then-kind-eq-SEQUENCE_OF : goal.bracket-returns-then-kind-eq-SEQUENCE_OF
bracket-returns-then-kind-eq-SEQUENCE_OF t c =
    let a = c.args in
    let t = type_table a.tables.now in
    let w = a.w in
    let found = c.requires.bracket_row in
    writes_as (plain-list a.depth t a.tables.now.pool.now a.row w.kind w.a w.b w.size a.slot a.offset found.4 found.0 c.if-depth-eq0.false found.2 c.if-w-ne0.false c.if-kind-eq-SEQUENCE_OF.true) c.list.ensures

pub bracket-returns-then-kind-ne-CHOICE : goal.bracket-returns-then-kind-ne-CHOICE
bracket-returns-then-kind-ne-CHOICE t c =
    let a = c.args in
    let t = type_table a.tables.now in
    let w = a.w in
    let found = c.requires.bracket_row in
    gives-wrong (plain-kind a.depth t a.tables.now.pool.now a.row w.kind w.a w.b w.size a.slot a.offset found.4 found.0 found.3 c.if-kind-eq-SEQUENCE.false c.if-kind-eq-SEQUENCE_OF.false c.if-kind-ne-CHOICE.true)

pub bracket-returns-then-count_of-w : goal.bracket-returns-then-count_of-w
bracket-returns-then-count_of-w t c =
    let a = c.args in
    let t = type_table a.tables.now in
    let w = a.w in
    let found = c.requires.bracket_row in
    gives-wrong (plain-position a.depth t a.tables.now.pool.now a.row w.kind w.a w.b w.size a.slot a.offset found.4 found.0 found.3 c.if-kind-eq-SEQUENCE.false c.if-kind-eq-SEQUENCE_OF.false (omega (arith, c.count_of.ensures a.tables.now.names.now, c.if-count_of-w.true)))

pub bracket-returns : goal.bracket-returns
bracket-returns t c =
    let a = c.args in
    let t = type_table a.tables.now in
    let w = a.w in
    let found = c.requires.bracket_row in
    writes_as (plain-choice a.depth t a.tables.now.pool.now a.row w.kind w.a w.b w.size a.slot a.offset found.4 found.0 c.if-depth-eq0.false found.2 c.if-w-ne0.false c.if-kind-ne-CHOICE.false (omega (arith, c.count_of.ensures a.tables.now.names.now, c.if-count_of-w.false))) c.choice.ensures

pub choice-returns-in_err-took : goal.choice-returns-in_err-took
choice-returns-in_err-took t c =
    let a = c.args in
    let rows = rows_in a.tables.now.values.now in
    let p = err_from_is_err_and c.from_residual.result c.from_residual.ensures.1 in
    rw (p.1, p.2) (gives-wrong (choice-wrong _ _ _ rows _ a.slot _ (value_row a.w) (value-wrong rows (c.type_at-e.ensures a.tables.now.names.now) (a.slot + 1) c.value.ensures c.in_err-took.was)))

pub choice-returns : goal.choice-returns
choice-returns t c =
    let a = c.args in
    let rows = rows_in a.tables.now.values.now in
    let v = value-got rows (c.type_at-e.ensures a.tables.now.names.now) (a.slot + 1) c.value.ensures c.in_ok-took.was in
    writes-is c.ended.ensures (choice-ends _ _ _ rows _ a.slot _ (value_row a.w) c.requires.plain_row c.put_byte-p.ensures c.name_at.ensures c.put_name-start.ensures v c.put_byte-end.ensures)

pub judged-returns : goal.judged-returns
judged-returns t c = writes-none c.value.ensures

pub leaf_or_value-returns-in_default : goal.leaf_or_value-returns-in_default
leaf_or_value-returns-in_default t c =
    let a = c.args in
    gives-wrong (text-none _ _ _ _ a.slot _ (rw c.in_default.is at c.row_at.ensures))

pub leaf_or_value-returns-then-w-kind : goal.leaf_or_value-returns-then-w-kind
leaf_or_value-returns-then-w-kind t c =
    let a = c.args in
    let t = type_table a.tables.now in
    let w = c.in-Some.w in
    let found = rw c.in-Some.is at c.row_at.ensures in
    let kind = kind-of t a.row (c.type_row-own.ensures a.tables.now.names.now) in
    gives-wrong (plain_other a.depth t a.tables.now.pool.now a.row w.kind w.a w.b w.size a.slot a.offset (leaf-plain t a.row kind c.if-kind-ge-SEQUENCE.false) found.0 (λ e. c.if-w-kind.true (e ∙ sym kind)))

pub leaf_or_value-leaf-requires : goal.leaf_or_value-leaf-requires
leaf_or_value-leaf-requires t c =
    let a = c.args in
    let t = type_table a.tables.now in
    let w = c.in-Some.w in
    let found = rw c.in-Some.is at c.row_at.ensures in
    (c.if-w-kind.false ∙ kind-of t a.row (c.type_row-own.ensures a.tables.now.names.now), omega (arith, c.if-w-kind.false, c.if-kind-ge-SEQUENCE.false), found.2)

pub leaf_or_value-returns : goal.leaf_or_value-returns
leaf_or_value-returns t c =
    let a = c.args in
    let t = type_table a.tables.now in
    let w = c.in-Some.w in
    let found = rw c.in-Some.is at c.row_at.ensures in
    let kind = kind-of t a.row (c.type_row-own.ensures a.tables.now.names.now) in
    writes_as (row-text a.depth t a.tables.now.pool.now a.row w.kind w.a w.b w.size a.slot a.offset (leaf-plain t a.row kind c.if-kind-ge-SEQUENCE.false) found.0) (c.leaf.ensures _ _)

pub list-loop-i-init : goal.list-loop-i-init
list-loop-i-init t c =
    let a = c.args in
    (c.element_of-e.ensures a.tables.now.names.now, refl, items-start (omega arith))

pub list-returns-in_err-took : goal.list-returns-in_err-took
list-returns-in_err-took t c =
    let a = c.args in
    let inv = c.loop-i.invariant in
    let p = err_from_is_err_and c.from_residual.result c.from_residual.ensures.1 in
    rw (p.1, p.2) (gives-wrong (items-wrong inv.2 c.loop-i-test.true (value-wrong (rows_in a.tables.now.values.now) inv.0 c.loop-i.took.next c.value.ensures c.in_err-took.was)))

pub list-loop-i-preserved : goal.list-loop-i-preserved
list-loop-i-preserved t c =
    let a = c.args in
    let inv = c.loop-i.invariant in
    let v = value-got (rows_in a.tables.now.values.now) inv.0 c.loop-i.took.next c.value.ensures c.in_ok-took.was in
    (inv.0, search rules, items-next inv.2 c.loop-i-test.true c.put_comma-s.ensures v)

pub list-returns : goal.list-returns
list-returns t c =
    let inv = c.loop-i.invariant in
    writes-is c.ended.ensures (items-end inv.2 c.loop-i-test.false c.put_byte.ensures c.put_byte-end.ensures)

pub plain-returns-in_default : goal.plain-returns-in_default
plain-returns-in_default t c =
    let a = c.args in
    gives-wrong (text-none _ _ _ _ a.slot _ (rw c.in_default.is at c.row_at.ensures))

pub plain-returns-then-kind-due : goal.plain-returns-then-kind-due
plain-returns-then-kind-due t c =
    let a = c.args in
    let t = type_table a.tables.now in
    let w = c.in-Some.w in
    let found = rw c.in-Some.is at c.row_at.ensures in
    let kind = c.requires.plain_row.0 in
    gives-wrong (plain_other a.depth t a.tables.now.pool.now a.row w.kind w.a w.b w.size a.slot a.offset c.requires.plain_row.1 found.0 (λ e. c.if-kind-due.true (e ∙ sym kind)))

pub plain-returns-then-kind-lt-SEQUENCE : goal.plain-returns-then-kind-lt-SEQUENCE
plain-returns-then-kind-lt-SEQUENCE t c =
    let a = c.args in
    let t = type_table a.tables.now in
    let w = c.in-Some.w in
    let found = rw c.in-Some.is at c.row_at.ensures in
    writes_as (row-text a.depth t a.tables.now.pool.now a.row w.kind w.a w.b w.size a.slot a.offset c.requires.plain_row.1 found.0) (c.leaf.ensures _ _)

pub sequence-loop-i-init : goal.sequence-loop-i-init
sequence-loop-i-init t c =
    let a = c.args in
    let t = type_table a.tables.now in
    let own = c.type_row-own.ensures a.tables.now.names.now in
    (c.wide-first.ensures.0 ∙ ap (λ (v : Row). v.first) own, ap (λ (v : Row). v.members) own, refl, members-start (sym (c.is_array-array.ensures t a.row own)) (omega arith))

pub sequence-returns-in_err-null : goal.sequence-returns-in_err-null
sequence-returns-in_err-null t c =
    let a = c.args in
    let t = type_table a.tables.now in
    let rows = rows_in a.tables.now.values.now in
    let inv = c.loop-i.invariant in
    let member = member_is t a.row c.loop-i.i (c.type_row-member.ensures a.tables.now.names.now) inv.0 c.wide.ensures.0 in
    let type = member-type t a.row c.loop-i.i member c.wide-e.ensures.0 in
    let absent = sym (c.absent_at.ensures.by_index a.tables.now.names.now) ∙ c.if-absent_at.false in
    let inside = rw inv.1 at c.loop-i-test.true in
    let p = err_from_is_err_and c.from_residual.result c.from_residual.ensures.1 in
    rw (p.1, p.2) (gives-wrong (members-wrong inv.3 inside absent (value-wrong rows type c.loop-i.took.next c.judged.ensures c.in_err-null.was)))

pub sequence-returns-in_err-took : goal.sequence-returns-in_err-took
sequence-returns-in_err-took t c =
    let a = c.args in
    let t = type_table a.tables.now in
    let rows = rows_in a.tables.now.values.now in
    let inv = c.loop-i.invariant in
    let member = member_is t a.row c.loop-i.i (c.type_row-member.ensures a.tables.now.names.now) inv.0 c.wide.ensures.0 in
    let type = member-type t a.row c.loop-i.i member c.wide-e.ensures.0 in
    let absent = sym (c.absent_at.ensures.by_index a.tables.now.names.now) ∙ c.if-absent_at.false in
    let inside = rw inv.1 at c.loop-i-test.true in
    let p = err_from_is_err_and c.from_residual-in_err-took.result c.from_residual-in_err-took.ensures.1 in
    rw (p.1, p.2) (gives-wrong (members-wrong inv.3 inside absent (value-wrong rows type c.loop-i.took.next c.leaf_or_value.ensures c.in_err-took.was)))

pub sequence-loop-i-preserved : goal.sequence-loop-i-preserved
sequence-loop-i-preserved t c =
    let a = c.args in
    let t = type_table a.tables.now in
    let rows = rows_in a.tables.now.values.now in
    let inv = c.loop-i.invariant in
    let member = member_is t a.row c.loop-i.i (c.type_row-member.ensures a.tables.now.names.now) inv.0 c.wide.ensures.0 in
    let type = member-type t a.row c.loop-i.i member c.wide-e.ensures.0 in
    let inside = rw inv.1 at c.loop-i-test.true in
    let asked = c.absent_at.ensures.by_index a.tables.now.names.now in
    elim c.if-absent_at.branch [
      | sequence-then-absent_at w ↦ rw (w.text-is, w.present-is, w.kept-is, w.took-is) (inv.0, inv.1, inv.2, members-absent inv.3 inside (sym asked ∙ w.if-absent_at.true))
      | sequence-else-absent_at+then-null_in+in_ok-null w ↦
          let null = null_is t (drop c.loop-i.took.next rows) c.is_array-array.result type (w.null_in.ensures a.tables.now.names.now) w.if-null_in.true in
          let v = value-got rows type c.loop-i.took.next w.judged.ensures w.in_ok-null.was in
          rw (w.text-is, w.present-is, w.kept-is, w.took-is) (inv.0, inv.1, inv.2, members-null inv.3 inside (sym asked ∙ w.if-absent_at.false) c.requires.good.wrapped v null)
      | sequence-else-absent_at+else-null_in+in_ok-took w ↦
          let null = null_is t (drop c.loop-i.took.next rows) c.is_array-array.result type (w.null_in.ensures a.tables.now.names.now) w.if-null_in.false in
          let v = value-got rows type c.loop-i.took.next w.leaf_or_value.ensures w.in_ok-took.was in
          rw (w.text-is, w.present-is, w.kept-is, w.took-is, w.kept_after-kept.ensures)
          (inv.0, inv.1, w.leaf_or_value.auto.text ∙ w.put_lead-s.auto.text ∙ inv.2, members_part inv.3 inside (sym asked ∙ w.if-absent_at.false) c.requires.good.wrapped v null (w.put_lead-s.ensures a.tables.now.types.now a.row member))
    ]

pub sequence-returns : goal.sequence-returns
sequence-returns t c =
    let inv = c.loop-i.invariant in
    writes-is c.ended.ensures (members-end inv.3 (rw inv.1 at c.loop-i-test.false) (rw c.brackets-brackets.ensures.opening at c.put_byte.ensures) (rw c.brackets-brackets.ensures.closing at c.put_byte-end.ensures))

pub value-returns-in_err-start : goal.value-returns-in_err-start
value-returns-in_err-start t c =
    let a = c.args in
    let p = err_from_is_err_and c.from_residual.result c.from_residual.ensures.1 in
    let s = c.in_err-start.ensures a.tables.now.names.now in
    rw (p.1, p.2) (gives-wrong (rw s.0 (s.1 a.depth a.tables.now.pool.now a.offset)))

pub value-returns-in_err-took : goal.value-returns-in_err-took
value-returns-in_err-took t c =
    let a = c.args in
    let t = type_table a.tables.now in
    let rows = rows_in a.tables.now.values.now in
    let s = c.in_ok-start in
    let p = err_from_is_err_and c.from_residual-in_err-took.result c.from_residual-in_err-took.ensures.1 in
    rw (p.1, p.2) (gives-wrong (start-fails a.depth t a.tables.now.pool.now rows a.row a.slot a.offset (s.ensures a.tables.now.names.now) c.requires.good.wrapped (value-wrong rows refl s.start.slot c.plain.ensures c.in_err-took.was)))

pub value-returns : goal.value-returns
value-returns t c =
    let a = c.args in
    let t = type_table a.tables.now in
    let rows = rows_in a.tables.now.values.now in
    let s = c.in_ok-start in
    start-ends a.depth t a.tables.now.pool.now rows a.row a.slot a.offset (s.ensures a.tables.now.names.now) c.requires.good.wrapped (value-got rows refl s.start.slot c.plain.ensures c.in_ok-took.was) c.closed.ensures
