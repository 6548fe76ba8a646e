-- Buffers that a call leaves, and the value that it stores there.
use Rattle.jer.specs.Answer.{Reading}
use Prim.Native.Nat.{ℕ, ◌*◌, ◌≤◌}
use mathlib.Core.Path.{◌≡◌, refl, ap, ◌∙◌}
use mathlib.Core.List.{List, [], ◌∷◌}
use mathlib.Core.Bool.{true}
use native.Mathlib.Omega.{arith}
use lib.ListN.{length, take, drop}
use lib.Seq.{take_at, drop_at}
use borrow.Author.Tests.{le-leb}
use Rattle.jer.specs.Table.{Table}
use Rattle.jer.specs.Value.{Val}
use Rattle.jer.specs.Answer.{ok}
use Rattle.jer.specs.Rows.{ValueRow, numbers, rows_of, pool_of}
use Rattle.jer.specs.Calls.{read_text, over, row_numbers, roomy, read_answer, rows_after, pool_after}
use Rattle.jer.specs.CallClauses.{ReadCall}
use Rattle.promises.specs.Statements.{Stores}

pub over-taken : (xs buffer : List ℕ) (n : ℕ) → length xs ≡ n → take n (over xs buffer) ≡ xs
unfolding over
over-taken xs buffer n e = take_at xs (drop (length xs) buffer) n e

pub over-left : (xs buffer : List ℕ) (n : ℕ) → length xs ≡ n → drop n (over xs buffer) ≡ drop n buffer
unfolding over
over-left xs buffer n e = drop_at xs (drop (length xs) buffer) n e ∙ ap (λ (k : ℕ). drop k buffer) e

pub numbers-length : (t : Table) (v : Val) → length (row_numbers t v) ≡ length (rows_of v t 0 0) * 4
unfolding row_numbers numbers
numbers-length t v = go (rows_of v t 0 0)
  where
    go : (ws : List ValueRow) → length (numbers ws) ≡ length ws * 4
    go [] = refl
    go (w ∷ ws) = omega (arith, go ws)

-- a value with room for it is stored
pub stores : {t : Table} {s rows pool : List ℕ} {r : Reading} {rows' pool' : List ℕ} (v : Val) → read_text t s ≡ ok v → roomy t v (length rows) (length pool) ≡ true
    → ReadCall t s rows pool r rows' pool' → Stores t v rows pool r rows' pool'
unfolding read_answer rows_after pool_after
stores v e w c =
    let a = rw e at c.answer in
    let b = rw e at c.rows_left in
    let d = rw e at c.pool_left in
    record { answer = rw (w, read_answer) at a; rows_left = rw (w, rows_after) at b; pool_left = rw (w, pool_after) at d }

pub has_room : (t : Table) (v : Val) (n m : ℕ) → length (row_numbers t v) ≤ n → length (pool_of v) ≤ m → roomy t v n m ≡ true
unfolding roomy
has_room t v n m a b = rw (le-leb _ _ a, le-leb _ _ b)
