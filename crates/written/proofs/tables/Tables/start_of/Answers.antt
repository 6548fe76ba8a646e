use mathlib.Core.Path.{refl, sym, ap, ◌∙◌}
use native.Mathlib.Omega.{arith}
use Rattle.jer.specs.Table.{table}
use Rattle.jer.specs.Judge.{rows_in}
use Rattle.types.proofs.RowLaws.{kind-of}
use Rattle.types.specs.declared.row.Row.{Row}
use Rattle.written.specs.Rows.{value_row}
use Rattle.written.specs.Start.{own, chosen}
use Rattle.written.proofs.ValueLaws.{right_is, text-none, unwrapped-bad}
use Rattle.written.proofs.tables.Tables.start_of.Goals as goal

pub returns-then-not-is_unwrapped : goal.returns-then-not-is_unwrapped
returns-then-not-is_unwrapped c =
    let a = c.args in
    λ ns. own (sym (c.is_unwrapped.ensures _ _ (c.type_row-own.ensures ns)) ∙ c.if-not-is_unwrapped.true) refl (kind-of _ a.row (c.type_row-own.ensures ns)) refl refl

pub returns-in_default : goal.returns-in_default
returns-in_default c =
    let a = c.args in
    λ ns. (refl, λ d pool o. text-none _ _ _ _ a.slot _ (rw c.in_default.is at c.row_at.ensures))

pub returns-then-not-right : goal.returns-then-not-right
returns-then-not-right c =
    let a = c.args in
    let rows = rows_in a.self.now.values.now in
    let found = rw c.in-Some.is at c.row_at.ensures in
    let w = c.in-Some.w in
    λ ns. let t = table a.self.now.types.now ns in (
      refl,
      λ d pool o. unwrapped-bad d t pool rows a.row a.slot o (value_row w) (sym (c.is_unwrapped.ensures t a.row (c.type_row-own.ensures ns)) ∙ c.if-not-is_unwrapped.false) found.0
          (right_is w.kind w.a w.b (ap (λ (v : Row). v.members) (c.type_row-own.ensures ns)) c.if-not-right.true),
    )

pub overflow_add-result : goal.overflow_add-result
overflow_add-result c =
    let found = rw c.in-Some.is at c.row_at.ensures in
    omega (arith, found.2)

pub returns : goal.returns
returns c =
    let a = c.args in
    let found = rw c.in-Some.is at c.row_at.ensures in
    let w = c.in-Some.w in
    λ ns. let t = table a.self.now.types.now ns in
    chosen (value_row w) (sym (c.is_unwrapped.ensures t a.row (c.type_row-own.ensures ns)) ∙ c.if-not-is_unwrapped.false) found.0
    (right_is w.kind w.a w.b (ap (λ (v : Row). v.members) (c.type_row-own.ensures ns)) c.if-not-right.false)
    (c.type_at-e.ensures ns) (c.kind_of-chosen.ensures ns) refl refl
