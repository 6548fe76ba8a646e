use Rattle.jer.specs.Table.{table}
use Rattle.types.proofs.RuleLaws.{rules-enumerated, rules-array, rules-sequence, rules-unwrapped, rules-choice, rules-none}
use native.Mathlib.Omega.{arith}
use Rattle.types.proofs.rules.good_rules.Goals as goal

pub returns-then-is_array : goal.returns-then-is_array
returns-then-is_array c =
    let a = c.args in
    let ns = a.names.now in
    rules-array (table a.rows.now ns) a.r (c.at-row.ensures ns)
    c.names_differ-named.ensures c.in-6.is
    (c.is_array.ensures _ _ (c.at-row.ensures ns)) c.if-is_array.true
    (c.good_array.ensures ns)

pub returns-then-is_unwrapped : goal.returns-then-is_unwrapped
returns-then-is_unwrapped c =
    let a = c.args in
    let ns = a.names.now in
    rules-unwrapped (table a.rows.now ns) a.r (c.at-row.ensures ns)
    c.names_differ-in-8.ensures c.in-8.is
    (c.none_optional-in-8.ensures ns)
    (c.is_unwrapped.ensures _ _ (c.at-row.ensures ns)) c.if-is_unwrapped.true
    (c.good_unwrapped.ensures ns)

pub returns-in-2 : goal.returns-in-2
returns-in-2 c =
    let a = c.args in
    let ns = a.names.now in
    rules-enumerated (table a.rows.now ns) a.r (c.at-row.ensures ns) c.names_differ.ensures
    c.in-2.is (c.none_optional.ensures ns) (c.untyped.ensures ns)

pub returns-else-is_array : goal.returns-else-is_array
returns-else-is_array c =
    let a = c.args in
    let ns = a.names.now in
    rules-sequence (table a.rows.now ns) a.r (c.at-row.ensures ns) c.names_differ-named.ensures
    c.in-6.is (c.is_array.ensures _ _ (c.at-row.ensures ns)) c.if-is_array.false

pub returns-else-is_unwrapped : goal.returns-else-is_unwrapped
returns-else-is_unwrapped c =
    let a = c.args in
    let ns = a.names.now in
    rules-choice (table a.rows.now ns) a.r (c.at-row.ensures ns)
    c.names_differ-in-8.ensures c.in-8.is (c.none_optional-in-8.ensures ns)
    (c.is_unwrapped.ensures _ _ (c.at-row.ensures ns)) c.if-is_unwrapped.false

pub returns-in_default : goal.returns-in_default
returns-in_default c =
    rules-none (table c.args.rows.now c.args.names.now) c.args.r (c.at-row.ensures c.args.names.now) (λ i. omega arith) (λ i. omega arith) (λ i. omega arith)
