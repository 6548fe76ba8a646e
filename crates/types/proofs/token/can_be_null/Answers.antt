use Rattle.jer.specs.Table.{table}
use Rattle.types.proofs.TokenLaws.{null-kind, null-wrapped, null-picked}
use Rattle.types.proofs.token.can_be_null.Goals as goal

pub returns-then-row-eq-NULL : goal.returns-then-row-eq-NULL
returns-then-row-eq-NULL c = λ ns. null-kind (table c.args.rows.now ns) c.args.r (c.at-row.ensures ns) c.if-row-eq-NULL.true

pub returns-then-is_unwrapped : goal.returns-then-is_unwrapped
returns-then-is_unwrapped c =
    let a = c.args in
    λ ns. null-picked (table a.rows.now ns) a.r (c.at-row.ensures ns) c.if-row-eq-NULL.false
    (c.is_unwrapped.ensures _ _ (c.at-row.ensures ns)) c.if-is_unwrapped.true (c.alternative.ensures ns) c.is_some.ensures

pub returns-else-is_unwrapped : goal.returns-else-is_unwrapped
returns-else-is_unwrapped c =
    let a = c.args in
    λ ns. null-wrapped (table a.rows.now ns) a.r (c.at-row.ensures ns) c.if-row-eq-NULL.false
    (c.is_unwrapped.ensures _ _ (c.at-row.ensures ns)) c.if-is_unwrapped.false
