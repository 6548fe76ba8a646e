-- What an answer tells: of a reading that stored, its value; of a writing that wrote, its text; of a refusal, that nothing was touched.
use Rattle.std.specs.Prelude.{Err, Ok}
use Prim.Native.Nat.{ℕ, ◌*◌, ◌≤◌}
use mathlib.Core.Path.{◌≡◌, refl, sym, ap, ◌∙◌}
use mathlib.Core.List.{List}
use mathlib.Core.Logic.{◌⊎◌, inl, inr}
use mathlib.Core.Bool.{Bool, true, false}
use lib.Dec.{leb}
use native.Mathlib.Omega.{arith}
use lib.ListN.{length, take, drop}
use borrow.Author.Tests.{leb-true}
use Rattle.jer.specs.declared.Which.TheVariants.{TypeTable, ValueTable}
use Rattle.jer.specs.declared.Refusal.{Refusal}
use Rattle.jer.specs.declared.Refusal.TheVariants.{Amounts}
use Rattle.jer.specs.declared.Limit.TheVariants.{HouseSize, LentRoom}
use Rattle.jer.specs.Table.{Table}
use Rattle.jer.specs.Value.{Val}
use Rattle.jer.specs.Answer.{read_as}
use Rattle.jer.specs.Answer.{Res, ok, no, number_of}
use Rattle.jer.specs.Rows.{rows_of, pool_of}
use Rattle.jer.specs.Calls.{read_text, over, row_numbers, roomy, read_answer, rows_after, pool_after, write_text, amount, write_answer, text_after}
use Rattle.jer.proofs.MeansCalls.{never}
use Rattle.jer.proofs.Counted.{same_counts}
use Rattle.jer.proofs.MeansReads.{text-reads, ReadRefusal, read-refusal, refusal_range, WriteRefusal, at_row, write-refusal}
use Rattle.jer.specs.CallClauses.{ReadCall, WriteCall}
use Rattle.promises.proofs.Buffers.{over-taken, over-left, numbers-length}

-- ---- reading

-- the value that a reading stored
pub record Stored (t : Table) (s rows pool : List ℕ) (n m : ℕ) (rows' pool' : List ℕ) : Type 0 where
  pub value : Val
  pub means : read_text t s ≡ ok value
  pub room : roomy t value (length rows) (length pool) ≡ true
  pub row_count : n ≡ length (rows_of value t 0 0)
  pub pool_count : m ≡ length (pool_of value)
  pub rows_left : rows' ≡ over (row_numbers t value) rows
  pub pool_left : pool' ≡ over (pool_of value) pool

module _ (t : Table) (s rows pool : List ℕ) where
  pub stored : (n m : ℕ) (rows' pool' : List ℕ) → ReadCall t s rows pool (read_as n m) rows' pool' → Stored t s rows pool n m rows' pool'
  unfolding read_answer rows_after pool_after
  stored n m rows' pool' c = go (read_text t s) refl c.answer c.rows_left c.pool_left
    where
      go : (x : Res Val) → read_text t s ≡ x → read_as n m ≡ read_answer t (length rows) (length pool) x → rows' ≡ rows_after t rows (length pool) x → pool' ≡ pool_after t (length rows) pool x
          → Stored t s rows pool n m rows' pool'
      go (no e) h a b d = never (cc)
      go (ok v) h a b d = room (roomy t v (length rows) (length pool)) refl
        where
          room : (y : Bool) → roomy t v (length rows) (length pool) ≡ y → Stored t s rows pool n m rows' pool'
          room true w =
              let a' = rw (w, read_answer) at a in
              record { value = v; means = h; room = w; row_count = (same_counts a').0; pool_count = (same_counts a').1; rows_left = rw (w, rows_after) at b; pool_left = rw (w, pool_after) at d }
          room false w = let a' = rw (w, read_answer) at a in never (cc)

  module _ {n m : ℕ} {rows' pool' : List ℕ} (w : Stored t s rows pool n m rows' pool') where
    number-count : length (row_numbers t w.value) ≡ n * 4
    number-count = omega (arith, numbers-length t w.value, w.row_count)

    -- the table that stands in the buffers
    pub stored-rows : take (n * 4) rows' ≡ row_numbers t w.value
    stored-rows = ap (take (n * 4)) w.rows_left ∙ over-taken (row_numbers t w.value) rows (n * 4) number-count

    pub stored-pool : take m pool' ≡ pool_of w.value
    stored-pool = ap (take m) w.pool_left ∙ over-taken (pool_of w.value) pool m (sym w.pool_count)

    -- what stands behind it is as it was
    rows_behind : drop (n * 4) rows' ≡ drop (n * 4) rows
    rows_behind = ap (drop (n * 4)) w.rows_left ∙ over-left (row_numbers t w.value) rows (n * 4) number-count

    pool-behind : drop m pool' ≡ drop m pool
    pool-behind = ap (drop m) w.pool_left ∙ over-left (pool_of w.value) pool m (sym w.pool_count)

  -- "Success changes only the rows, pool bytes (..) used."
  pub read_changes : {n m : ℕ} {rows' pool' : List ℕ} → ReadCall t s rows pool (read_as n m) rows' pool' → (drop (n * 4) rows' ≡ drop (n * 4) rows) × (drop m pool' ≡ drop m pool)
  read_changes {n} {m} {rows'} {pool'} c = let w = stored n m rows' pool' c in (rows_behind w, pool-behind w)

  -- how a reading comes to be refused: by the type table or at a byte of the text, or because the room is too small for its value
  pub data ReadRefused : Refusal → Type 0 where
    early : {e : Refusal} → ReadRefusal e → ReadRefused e
    cramped : {v : Val} → read_text t s ≡ ok v → roomy t v (length rows) (length pool) ≡ false → ReadRefused (Amounts LentRoom (length (rows_of v t 0 0)) (length (pool_of v)))

  pub read-refused : {e : Refusal} {rows' pool' : List ℕ} → ReadCall t s rows pool (Err e) rows' pool' → ReadRefused e
  unfolding read_answer
  read-refused {e} c = go (read_text t s) refl c.answer
    where
      go : (x : Res Val) → read_text t s ≡ x → Err e ≡ read_answer t (length rows) (length pool) x → ReadRefused e
      go (no f) h a = let q : e ≡ f = cc in rw q (early (read-refusal (rw h at (text-reads t s))))
      go (ok v) h a = room (roomy t v (length rows) (length pool)) refl
        where
          room : (y : Bool) → roomy t v (length rows) (length pool) ≡ y → ReadRefused e
          room true w = let a' = rw (w, read_answer) at a in never (cc)
          room false w = let a' = rw (w, read_answer) at a in let q : e ≡ Amounts LentRoom (length (rows_of v t 0 0)) (length (pool_of v)) = cc in rw q (cramped h w)

  -- a refused reading has 01's numbers for it
  pub read-numbers : {e : Refusal} {rows' pool' : List ℕ} → ReadCall t s rows pool (Err e) rows' pool' → ((1 ≤ number_of e) × (number_of e ≤ 11)) ⊎ (number_of e ≡ 14)
  unfolding number_of
  read-numbers c = go (read-refused c)
    where
      go : {e : Refusal} → ReadRefused e → ((1 ≤ number_of e) × (number_of e ≤ 11)) ⊎ (number_of e ≡ 14)
      go (early f) = inl (refusal_range f)
      go (cramped x w) = inr refl

  -- a refused reading leaves both buffers as they were
  pub read_untouched : (e : Refusal) (rows' pool' : List ℕ) → ReadCall t s rows pool (Err e) rows' pool' → (rows' ≡ rows) × (pool' ≡ pool)
  unfolding read_answer rows_after pool_after
  read_untouched e rows' pool' c = go (read_text t s) c.answer c.rows_left c.pool_left
    where
      go : (x : Res Val) → Err e ≡ read_answer t (length rows) (length pool) x → rows' ≡ rows_after t rows (length pool) x → pool' ≡ pool_after t (length rows) pool x
          → (rows' ≡ rows) × (pool' ≡ pool)
      go (no f) a b d = (b, d)
      go (ok v) a b d = room (roomy t v (length rows) (length pool)) refl
        where
          room : (y : Bool) → roomy t v (length rows) (length pool) ≡ y → (rows' ≡ rows) × (pool' ≡ pool)
          room true w = let a' = rw (w, read_answer) at a in never (cc)
          room false w = (rw (w, rows_after) at b, rw (w, pool_after) at d)

-- ---- writing

-- the text that was written
pub record Written (t : Table) (ns pool text : List ℕ) (n : ℕ) (text' : List ℕ) : Type 0 where
  pub bytes : List ℕ
  pub means : write_text t ns pool ≡ ok bytes
  pub count : n ≡ length bytes
  pub size : length bytes ≤ 65536
  pub room : length bytes ≤ length text
  pub text_left : text' ≡ over bytes text

-- how a text that is at hand is answered for, by the two tests
pub data Fate (text bytes : List ℕ) : Type 0 where
  long : leb (length bytes) 65536 ≡ false → Fate text bytes
  cramped : leb (length bytes) 65536 ≡ true → leb (length bytes) (length text) ≡ false → Fate text bytes
  fits : leb (length bytes) 65536 ≡ true → leb (length bytes) (length text) ≡ true → Fate text bytes

pub fate : (text bytes : List ℕ) → Fate text bytes
fate text bytes = go (leb (length bytes) 65536) refl (leb (length bytes) (length text)) refl
  where
    go : (a : Bool) → leb (length bytes) 65536 ≡ a → (b : Bool) → leb (length bytes) (length text) ≡ b → Fate text bytes
    go false p b q = long p
    go true p false q = cramped p q
    go true p true q = fits p q

module _ (t : Table) (ns pool text : List ℕ) where
  pub written : (n : ℕ) (text' : List ℕ) → WriteCall t ns pool text (Ok n) text' → Written t ns pool text n text'
  unfolding write_answer text_after
  written n text' c = go (write_text t ns pool) refl c.answer c.text_left
    where
      go : (x : Res (List ℕ)) → write_text t ns pool ≡ x → Ok n ≡ write_answer (length text) x → text' ≡ text_after text x → Written t ns pool text n text'
      go (no e) h a b = never (cc)
      go (ok bs) h a b = by (fate text bs)
        where
          by : Fate text bs → Written t ns pool text n text'
          by (long p) = let a' = rw (p, write_answer) at a in never (cc)
          by (cramped p q) = let a' = rw (p, write_answer) at a in let a'' = rw (q, write_answer) at a' in never (cc)
          by (fits p q) =
              let a' = rw (p, write_answer) at a in
              let a'' = rw (q, write_answer) at a' in
              record { bytes = bs; means = h; count = cc; size = leb-true _ _ p; room = leb-true _ _ q; text_left = let b' = rw (p, text_after) at b in rw (q, text_after) at b' }

  -- "Success changes only the (..) text bytes used."
  pub write_changes : {n : ℕ} {text' : List ℕ} → WriteCall t ns pool text (Ok n) text' → drop n text' ≡ drop n text
  write_changes {n} {text'} c = let w = written n text' c in ap (drop n) w.text_left ∙ over-left w.bytes text n (sym w.count)

  -- a refused writing has 01's numbers for it
  pub write-numbers : {e : Refusal} {text' : List ℕ} → WriteCall t ns pool text (Err e) text' → (number_of e ≡ 1) ⊎ ((12 ≤ number_of e) × (number_of e ≤ 14))
  unfolding write_answer number_of
  write-numbers {e} c = go (write_text t ns pool) refl c.answer
    where
      row : {f : Refusal} → WriteRefusal f → (number_of f ≡ 1) ⊎ ((12 ≤ number_of f) × (number_of f ≤ 14))
      row (at_row {w = TypeTable}) = inl refl
      row (at_row {w = ValueTable}) = inr (omega arith)

      go : (x : Res (List ℕ)) → write_text t ns pool ≡ x → Err e ≡ write_answer (length text) x → (number_of e ≡ 1) ⊎ ((12 ≤ number_of e) × (number_of e ≤ 14))
      go (no f) h a = let q : e ≡ f = cc in rw q (row (write-refusal t ns pool f h))
      go (ok bs) h a = by (fate text bs)
        where
          by : Fate text bs → (number_of e ≡ 1) ⊎ ((12 ≤ number_of e) × (number_of e ≤ 14))
          by (long p) = let a' = rw (p, write_answer) at a in let q : e ≡ Amounts HouseSize (amount (length bs)) 0 = cc in rw q (inr (omega arith))
          by (cramped p q) = let a' = rw (p, write_answer) at a in let a'' = rw (q, write_answer) at a' in let f : e ≡ Amounts LentRoom (length bs) 0 = cc in rw f (inr (omega arith))
          by (fits p q) = let a' = rw (p, write_answer) at a in let a'' = rw (q, write_answer) at a' in never (cc)

  -- a refused writing leaves the room as it was
  pub write_untouched : (e : Refusal) (text' : List ℕ) → WriteCall t ns pool text (Err e) text' → text' ≡ text
  unfolding write_answer text_after
  write_untouched e text' c = go (write_text t ns pool) c.answer c.text_left
    where
      go : (x : Res (List ℕ)) → Err e ≡ write_answer (length text) x → text' ≡ text_after text x → text' ≡ text
      go (no f) a b = b
      go (ok bs) a b = by (fate text bs)
        where
          by : Fate text bs → text' ≡ text
          by (long p) = rw (p, text_after) at b
          by (cramped p q) = let b' = rw (p, text_after) at b in rw (q, text_after) at b'
          by (fits p q) = let a' = rw (p, write_answer) at a in let a'' = rw (q, write_answer) at a' in never (cc)
