use borrow.Author.Tests.{not-false}
use mathlib.Core.Logic.{inl, inr}
use Rattle.jer.specs.Table.{table}
use Rattle.types.proofs.SureLaws.{no_true, block_room}
use Rattle.types.proofs.SureMembers.{links-enumerated, links-array, links-sequence, links-unwrapped, links-choice}
use Rattle.types.proofs.sure.sure_holder.Goals as goal

pub sure_members-requires : goal.sure_members-requires
sure_members-requires c =
    let a = c.args in
    let ns = a.names.now in
    let t = table a.rows.now ns in
    (c.requires.0, c.requires.1, block_room t a.r (c.row_in-row.ensures ns) (c.requires.1 a.r c.requires.0) (inl c.in-2.is))

pub sure_members-requires-in-6 : goal.sure_members-requires-in-6
sure_members-requires-in-6 c =
    let a = c.args in
    let ns = a.names.now in
    let t = table a.rows.now ns in
    (c.requires.0, c.requires.1, block_room t a.r (c.row_in-row.ensures ns) (c.requires.1 a.r c.requires.0) (inr (inl c.in-6.is)))

pub returns-then-not-sure_members : goal.returns-then-not-sure_members
returns-then-not-sure_members c = λ q. no_true q

pub returns-then-is_array : goal.returns-then-is_array
returns-then-is_array c =
    let a = c.args in
    let ns = a.names.now in
    let t = table a.rows.now ns in
    λ q. links-array t a.r (c.row_in-row.ensures ns) c.in-6.is (c.sure_members-in-6.ensures (not-false _ c.if-not-sure_members.false-raw)) (c.is_array.ensures _ _ (c.row_in-row.ensures ns)) c.if-is_array.true (c.good_array.ensures a.names.now) q

pub sure_members-requires-in-8 : goal.sure_members-requires-in-8
sure_members-requires-in-8 c =
    let a = c.args in
    let ns = a.names.now in
    let t = table a.rows.now ns in
    (c.requires.0, c.requires.1, block_room t a.r (c.row_in-row.ensures ns) (c.requires.1 a.r c.requires.0) (inr (inr c.in-8.is)))

pub returns-then-not-sure_members-2 : goal.returns-then-not-sure_members-2
returns-then-not-sure_members-2 c = λ q. no_true q

pub returns-then-is_unwrapped : goal.returns-then-is_unwrapped
returns-then-is_unwrapped c =
    let a = c.args in
    let ns = a.names.now in
    let t = table a.rows.now ns in
    λ q. links-unwrapped t a.r (c.row_in-row.ensures ns) c.in-8.is (c.sure_members-in-8.ensures (not-false _ c.if-not-sure_members-2.false-raw)) (c.is_unwrapped.ensures _ _ (c.row_in-row.ensures ns)) c.if-is_unwrapped.true (c.good_unwrapped.ensures a.names.now) q

pub returns-in-2 : goal.returns-in-2
returns-in-2 c =
    let a = c.args in
    let ns = a.names.now in
    let t = table a.rows.now ns in
    λ q. links-enumerated t a.r (c.row_in-row.ensures ns) c.in-2.is (c.sure_members.ensures q)

pub returns-else-is_array : goal.returns-else-is_array
returns-else-is_array c =
    let a = c.args in
    let ns = a.names.now in
    let t = table a.rows.now ns in
    λ q. links-sequence t a.r (c.row_in-row.ensures ns) c.in-6.is (c.sure_members-in-6.ensures (not-false _ c.if-not-sure_members.false-raw)) (c.is_array.ensures _ _ (c.row_in-row.ensures ns)) c.if-is_array.false

pub returns-else-is_unwrapped : goal.returns-else-is_unwrapped
returns-else-is_unwrapped c =
    let a = c.args in
    let ns = a.names.now in
    let t = table a.rows.now ns in
    λ q. links-choice t a.r (c.row_in-row.ensures ns) c.in-8.is (c.sure_members-in-8.ensures (not-false _ c.if-not-sure_members-2.false-raw)) (c.is_unwrapped.ensures _ _ (c.row_in-row.ensures ns)) c.if-is_unwrapped.false

pub returns-in_default : goal.returns-in_default
returns-in_default c = λ q. no_true q
