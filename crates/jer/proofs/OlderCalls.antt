-- Demand 3 of the reading call: with the room in which the newer table's value was stored, the older table stores that value cut down
-- to what it knows, or refuses by 11 and touches nothing, exactly when the cut value still holds an item or alternative that it lacks.
use Rattle.std.specs.Prelude.{Err, Ok}
use Prim.Native.Nat.{ℕ}
use mathlib.Core.Path.{◌≡◌, refl}
use mathlib.Core.List.{List}
use mathlib.Core.Bool.{Bool, true, false}
use Rattle.std.specs.Prelude.{None}
use lib.ListN.{length}
use Rattle.jer.specs.declared.Refusal.{Refusal}
use Rattle.jer.specs.Table.{Table}
use Rattle.jer.specs.Valid.{first_bad}
use Rattle.jer.specs.Value.{Val}
use Rattle.jer.specs.Answer.{read_as}
use Rattle.jer.specs.Answer.{Res, ok, bind, number_of}
use Rattle.jer.specs.Rows.{rows_of, pool_of}
use Rattle.jer.specs.Cut.{ByAdditions, cut, lacks}
use Rattle.jer.specs.Calls.{table_of, good_table, good_text, read_text, over, row_numbers, roomy, read_answer, rows_after, pool_after}
use Rattle.jer.proofs.WeightGot.{steps}
use Rattle.jer.proofs.OlderAgrees.{Agrees, reads, eleven}
use Rattle.jer.proofs.Whole.{whole-older}
use Rattle.jer.proofs.OlderRoom.{cut-roomy}

pub older-reads-text : {new old : Table} {R : ℕ → ℕ → Type 0} → ByAdditions new old R → first_bad old ≡ None → (s : List ℕ) (v : Val) → read_text new s ≡ ok v
    → Agrees (read_text old s) (cut v old 0) (lacks (cut v old 0) old 0)
unfolding read_text good_table table_of bind
older-reads-text {new} {old} pair good s v e =
    let t = steps (good_table new) _ v e in
    let j = steps (good_text s) _ v t.then in
    rw (good, good_table) (rw (j.first, bind) (whole-older pair j.val v j.then))

-- The call's answer and the buffers afterwards, for the result x: the value w is stored, or 11.
pub data Stored (t : Table) (rows pool : List ℕ) (x : Res Val) (w : Val) : Bool → Type 0 where
  stored : read_answer t (length rows) (length pool) x ≡ read_as (length (rows_of w t 0 0)) (length (pool_of w))
      → rows_after t rows (length pool) x ≡ over (row_numbers t w) rows → pool_after t (length rows) pool x ≡ over (pool_of w) pool → Stored t rows pool x w false
  refused : {e : Refusal} → number_of e ≡ 11 → read_answer t (length rows) (length pool) x ≡ Err e
      → rows_after t rows (length pool) x ≡ rows → pool_after t (length rows) pool x ≡ pool → Stored t rows pool x w true

agrees-stored : {x : Res Val} {w : Val} {c : Bool} (t : Table) (rows pool : List ℕ) → roomy t w (length rows) (length pool) ≡ true → Agrees x w c → Stored t rows pool x w c
unfolding read_answer rows_after pool_after
agrees-stored t rows pool room reads = stored (rw (room, read_answer)) (rw (room, rows_after)) (rw (room, pool_after))
agrees-stored t rows pool room (eleven e) = refused e refl refl refl

pub older-stores : {new old : Table} {R : ℕ → ℕ → Type 0} → ByAdditions new old R → first_bad old ≡ None → (s rows pool : List ℕ) (v : Val) → read_text new s ≡ ok v
    → roomy new v (length rows) (length pool) ≡ true → Stored old rows pool (read_text old s) (cut v old 0) (lacks (cut v old 0) old 0)
older-stores {new} {old} pair good s rows pool v e room = agrees-stored old rows pool (cut-roomy v new old _ _ room) (older-reads-text pair good s v e)
