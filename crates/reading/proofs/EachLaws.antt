-- Many texts, one after another: what is done, before what the rest gives.
use Rattle.std.specs.Prelude.{Err, Ok}
use Rattle.jer.specs.Answer.{Reading}
use Prim.Native.Nat.{ℕ, suc, ◌+◌, ◌-◌, ◌*◌, ◌/◌, ◌^◌, ◌<◌, ◌≤◌}
use mathlib.Core.Path.{◌≡◌, refl, sym, ap, ◌∙◌}
use mathlib.Core.List.{List, ◌∷◌, ◌++◌, append_assoc, append-nil}
use mathlib.Core.Bool.{Bool, true, false, ◌&&◌, false≢true}
use native.Mathlib.Nat.{add-zero}
use native.Mathlib.Omega.{arith}
use lib.Dec.{eqb, leb}
use lib.ListN.{length, get_or, take, drop, length-append, length-drop, take-append-drop, drop_of_length-le}
use borrow.Rule.Slice.PartMut.{put_mid}
use lib.Seq.{take_all, sets, length-sets, sets-eq, drop-cons, drop-drop, length-take-le, take_at, drop_at, take-append-add, drop-append-add}
use borrow.Author.Tests.{le-leb, lt-leb, leb-true, eq-eqb, ne_eqb}
use Rattle.jer.specs.Table.{Table}
use Rattle.jer.specs.Value.{Val}
use Rattle.jer.specs.Answer.{Res, ok, no, bind}
use Rattle.jer.specs.Rows.{rows_of, pool_of, numbers}
use Rattle.jer.specs.Calls.{good_table, table_judged, read_text, read_answer, rows_after, pool_after, roomy, over, row_numbers}
use Rattle.leaf.proofs.StoreLaws.{numbers-length}
use Rattle.jer.specs.declared.Refusal.{Refusal}
use Rattle.jer.specs.declared.Reported.{Reported}
use Rattle.jer.specs.Reports.{reported_of}
use Rattle.slices.specs.Lent.{Lent, before, after}
use Rattle.jer.specs.CallClauses.{ReadCall}
use Rattle.jer.specs.Each.{Each, each, text_from, values_in, rows_used, pool_used, told, ahead, read_one, alone, read_each, each_read, each_answer, each_left, EachCall}
use Rattle.reading.specs.Run.{ReadFrom, told_of}
use Rattle.reading.proofs.ReadLaws.{table-refused, table-ok}

abbrev glued : ℕ → List ℕ → List ℕ → List ℕ → Each → Each
glued k a b c z = each (k + z.count) (a ++ z.rows) (b ++ z.pool) (c ++ z.tells)

-- ---- a list cut after a part whose length is known

module _ (a b : List ℕ) (p q : ℕ) (e : length a ≡ p) where
  take_past : take (p + q) (a ++ b) ≡ a ++ take q b
  take_past = rw (sym e) (take-append-add a b q)

  drop_past : drop (p + q) (a ++ b) ≡ drop q b
  drop_past = rw (sym e) (drop-append-add a b q)

-- what one text tells, stored
module _ (tells line : List ℕ) (k : ℕ) (five : length line ≡ 5) (room : k * 5 + 5 ≤ length tells) where
  told_is : sets tells (k * 5) line ≡ (take (k * 5) tells ++ line) ++ drop 5 (drop (k * 5) tells)
  told_is = sets-eq line tells (k * 5) (omega arith) ∙ ap (λ (z : List ℕ). (take (k * 5) tells ++ line) ++ z) (ap (λ (j : ℕ). drop (k * 5 + j) tells) five ∙ sym (drop-drop 5 (k * 5) tells))

  told-length : length (take (k * 5) tells ++ line) ≡ suc k * 5
  told-length = length-append (take (k * 5) tells) line ∙ omega (arith, length-take-le (k * 5) tells (omega arith))

-- a list cut after its first part and so many more
cut : (a b l : List ℕ) (p q : ℕ) → length a ≡ p → l ≡ a ++ b → (take (p + q) l ≡ a ++ take q b) × (drop (p + q) l ≡ drop q b)
cut a b l p q e h = (ap (take (p + q)) h ∙ take_past a b p q e, ap (drop (p + q)) h ∙ drop_past a b p q e)

ends_at : (a b l : List ℕ) (p : ℕ) → length a ≡ p → l ≡ a ++ b → (take p l ≡ a) × (drop p l ≡ b)
ends_at a b l p e h = (ap (take p) h ∙ take_at a b p e, ap (drop p) h ∙ drop_at a b p e)

-- the last text, and one more
last-is : (k i j o : ℕ) (rows pool tells line after : List ℕ) → after ≡ (take o tells ++ line) ++ drop 5 (drop o tells)
    → each (k + 1) rows pool after ≡ glued k (take i rows) (take j pool) (take o tells) (each 1 (drop i rows) (drop j pool) (line ++ drop 5 (drop o tells)))
last-is k i j o rows pool tells line after e = rw (e, take-append-drop i rows, take-append-drop j pool, append_assoc (take o tells) line (drop 5 (drop o tells)))

one_more : (k : ℕ) (a b c ra pa line : List ℕ) (z : Each) → glued (suc k) (a ++ ra) (b ++ pa) (c ++ line) z ≡ glued k a b c (ahead ra pa line z)
unfolding ahead
one_more k a b c ra pa line z =
    let e : suc k + z.count ≡ k + suc z.count = omega arith in
    rw (e, append_assoc a ra z.rows, append_assoc b pa z.pool, append_assoc c line z.tells)

module _ (t : Table) (x : Res Val) (r : Reading) (n m : ℕ) (rows pool tells : List ℕ) (rest : ℕ → ℕ → List ℕ → List ℕ → List ℕ → Each) where
  no_room : eqb (values_in r).number 14 ≡ true → read_one t x r n m rows pool tells rest ≡ each 1 rows pool (told (values_in r) n m ++ drop 5 tells)
  unfolding read_one
  no_room h = rw (h, read_one)

  has_room : eqb (values_in r).number 14 ≡ false → read_one t x r n m rows pool tells rest
      ≡ ahead (take (rows_used r * 4) (rows_after t rows (length pool) x)) (take (pool_used r) (pool_after t (length rows) pool x)) (told (values_in r) (n + rows_used r) (m + pool_used r))
      (rest (n + rows_used r) (m + pool_used r) (drop (rows_used r * 4) (rows_after t rows (length pool) x)) (drop (pool_used r) (pool_after t (length rows) pool x)) (drop 5 tells))
  unfolding read_one
  has_room h = rw (h, read_one)

-- ---- what an answer takes up is there

over-long : (xs l : List ℕ) → length xs ≤ length (over xs l)
unfolding over
over-long xs l = omega (arith, length-append xs (drop (length xs) l))

both : (a b : Bool) → (a && b) ≡ true → (a ≡ true) × (b ≡ true)
both true b e = (refl, e)
both false b e = absurd (false≢true e)

room-rows : (t : Table) (v : Val) (n m : ℕ) → roomy t v n m ≡ true → length (row_numbers t v) ≤ n
unfolding roomy
room-rows t v n m e = leb-true (length (row_numbers t v)) n (both (leb (length (row_numbers t v)) n) (leb (length (pool_of v)) m) e).0

room-pool : (t : Table) (v : Val) (n m : ℕ) → roomy t v n m ≡ true → length (pool_of v) ≤ m
unfolding roomy
room-pool t v n m e = leb-true (length (pool_of v)) m (both (leb (length (row_numbers t v)) n) (leb (length (pool_of v)) m) e).1

module _ (t : Table) (rows pool : List ℕ) where
  rows-there : (x : Res Val) → rows_used (read_answer t (length rows) (length pool) x) * 4 ≤ length (rows_after t rows (length pool) x)
  unfolding rows_used read_answer rows_after row_numbers
  rows-there (no e) = omega arith
  rows-there (ok v) = go (roomy t v (length rows) (length pool)) refl
    where
      go : (b : Bool) → roomy t v (length rows) (length pool) ≡ b → rows_used (read_answer t (length rows) (length pool) (ok v)) * 4 ≤ length (rows_after t rows (length pool) (ok v))
      go true e = rw (e, read_answer, rows_after) (omega (arith, over-long (numbers (rows_of v t 0 0)) rows, numbers-length (rows_of v t 0 0)))
      go false e = rw (e, read_answer, rows_after) (omega arith)

  pool-there : (x : Res Val) → pool_used (read_answer t (length rows) (length pool) x) ≤ length (pool_after t (length rows) pool x)
  unfolding pool_used read_answer pool_after
  pool-there (no e) = omega arith
  pool-there (ok v) = go (roomy t v (length rows) (length pool)) refl
    where
      go : (b : Bool) → roomy t v (length rows) (length pool) ≡ b → pool_used (read_answer t (length rows) (length pool) (ok v)) ≤ length (pool_after t (length rows) pool (ok v))
      go true e = rw (e, read_answer, pool_after) (over-long (pool_of v) pool)
      go false e = rw (e, read_answer, pool_after) (omega arith)

  -- the buffers keep their lengths
  length-kept : (xs l : List ℕ) → length xs ≤ length l → length (over xs l) ≡ length l
  unfolding over
  length-kept xs l h = length-append xs (drop (length xs) l) ∙ omega (arith, length-drop (length xs) l)

  -- an answer that is not a success leaves the buffers
  rows-kept : (x : Res Val) → eqb (values_in (read_answer t (length rows) (length pool) x)).number 14 ≡ true → rows_after t rows (length pool) x ≡ rows
  unfolding values_in read_answer rows_after
  rows-kept (no e) h = refl
  rows-kept (ok v) h = go (roomy t v (length rows) (length pool)) refl h
    where
      go : (b : Bool) → roomy t v (length rows) (length pool) ≡ b → eqb (values_in (read_answer t (length rows) (length pool) (ok v))).number 14 ≡ true → rows_after t rows (length pool) (ok v) ≡ rows
      go true e h = absurd (false≢true (rw (e, read_answer) at h))
      go false e h = rw (e, rows_after)

  pool-kept : (x : Res Val) → eqb (values_in (read_answer t (length rows) (length pool) x)).number 14 ≡ true → pool_after t (length rows) pool x ≡ pool
  unfolding values_in read_answer pool_after
  pool-kept (no e) h = refl
  pool-kept (ok v) h = go (roomy t v (length rows) (length pool)) refl h
    where
      go : (b : Bool) → roomy t v (length rows) (length pool) ≡ b → eqb (values_in (read_answer t (length rows) (length pool) (ok v))).number 14 ≡ true → pool_after t (length rows) pool (ok v) ≡ pool
      go true e h = absurd (false≢true (rw (e, read_answer) at h))
      go false e h = rw (e, pool_after)

length-rows : (t : Table) (rows : List ℕ) (m : ℕ) (x : Res Val) → length (rows_after t rows m x) ≡ length rows
unfolding rows_after
length-rows t rows m (no e) = refl
length-rows t rows m (ok v) = go (roomy t v (length rows) m) refl
  where
    go : (b : Bool) → roomy t v (length rows) m ≡ b → length (rows_after t rows m (ok v)) ≡ length rows
    go true e = rw (e, rows_after) (length-kept t rows rows (row_numbers t v) rows (room-rows t v (length rows) m e))
    go false e = rw (e, rows_after)

length-pool : (t : Table) (n : ℕ) (pool : List ℕ) (x : Res Val) → length (pool_after t n pool x) ≡ length pool
unfolding pool_after
length-pool t n pool (no e) = refl
length-pool t n pool (ok v) = go (roomy t v n (length pool)) refl
  where
    go : (b : Bool) → roomy t v n (length pool) ≡ b → length (pool_after t n pool (ok v)) ≡ length pool
    go true e = rw (e, pool_after) (length-kept t pool pool (pool_of v) pool (room-pool t v n (length pool) e))
    go false e = rw (e, pool_after)

-- ---- the loop

module _ (t : Table) (texts ends : List ℕ) where
  -- with k texts done, whatever the rest gives completes what was asked
  pub record Sofar (rows₀ pool₀ tells₀ : List ℕ) (k from n m : ℕ) (rows pool tells : List ℕ) : Type 0 where
    pub few : k ≤ length ends
    pub rows_in : n * 4 ≤ length rows
    pub pool_in : m ≤ length pool
    pub told_in : k * 5 ≤ length tells
    pub whole : glued k (take (n * 4) rows) (take m pool) (take (k * 5) tells) (read_each t texts from (drop k ends) n m (drop (n * 4) rows) (drop m pool) (drop (k * 5) tells))
        ≡ read_each t texts 0 ends 0 0 rows₀ pool₀ tells₀

  pub sofar-start : (rows pool tells : List ℕ) → Sofar rows pool tells 0 0 0 0 rows pool tells
  sofar-start rows pool tells = record { few = omega arith; rows_in = omega arith; pool_in = omega arith; told_in = omega arith; whole = let e : 0 + (read_each t texts 0 ends 0 0 rows pool tells).count ≡ (read_each t texts 0 ends 0 0 rows pool tells).count = omega arith in rw e }

  module _ {rows₀ pool₀ tells₀ rows pool tells : List ℕ} {k from n m : ℕ} (f : Sofar rows₀ pool₀ tells₀ k from n m rows pool tells) where
    -- nothing more is read
    ends-here : read_each t texts from (drop k ends) n m (drop (n * 4) rows) (drop m pool) (drop (k * 5) tells) ≡ each 0 (drop (n * 4) rows) (drop m pool) (drop (k * 5) tells)
        → each k rows pool tells ≡ read_each t texts 0 ends 0 0 rows₀ pool₀ tells₀
    ends-here e =
        sym (ap (λ (z : Each). glued k (take (n * 4) rows) (take m pool) (take (k * 5) tells) z) e
        ∙ rw (add-zero k, take-append-drop (n * 4) rows, take-append-drop m pool, take-append-drop (k * 5) tells))
        ∙ f.whole

    pub sofar-all : length ends ≤ k → each k rows pool tells ≡ read_each t texts 0 ends 0 0 rows₀ pool₀ tells₀
    unfolding read_each
    sofar-all l = ends-here (rw (drop_of_length-le ends l))

    module _ (l : k < length ends) where
      next : List ℕ
      next = get_or ends k 0 ∷ drop (suc k) ends

      next-is : drop k ends ≡ next
      unfolding next
      next-is = drop-cons ends k 0 l

      pub sofar_untold : length tells / 5 ≤ k → each k rows pool tells ≡ read_each t texts 0 ends 0 0 rows₀ pool₀ tells₀
      unfolding read_each next
      sofar_untold h = ends-here (rw next-is (rw (lt-leb 5 (length (drop (k * 5) tells)) (omega (arith, length-drop (k * 5) tells)), read_each)))

      module _ (room : k < length tells / 5) where
        abbrev pub s : List ℕ
        s = text_from texts from (get_or ends k 0)

        abbrev pub x : Res Val
        x = read_text t s

        abbrev pub ro : List ℕ
        ro = drop (n * 4) rows

        abbrev pub po : List ℕ
        po = drop m pool

        abbrev pub r : Reading
        r = alone t s ro po

        -- what comes of the text
        one-is : read_each t texts from (drop k ends) n m ro po (drop (k * 5) tells)
            ≡ read_one t x r n m ro po (drop (k * 5) tells) (λ n' m' rows' pool' tells'. read_each t texts (get_or ends k 0) (drop (suc k) ends) n' m' rows' pool' tells')
        unfolding read_each next
        one-is = rw next-is (rw (le-leb 5 (length (drop (k * 5) tells)) (omega (arith, length-drop (k * 5) tells)), read_each))

        enough : k * 5 + 5 ≤ length tells
        enough = omega arith

        -- it finds no room
        pub sofar-last : eqb (values_in r).number 14 ≡ true → each (k + 1) rows pool (sets tells (k * 5) (told (values_in r) n m)) ≡ read_each t texts 0 ends 0 0 rows₀ pool₀ tells₀
        unfolding told
        sofar-last h =
            let line = told (values_in r) n m in
            last-is k (n * 4) m (k * 5) rows pool tells line _ (told_is tells line k refl enough)
            ∙ ap (λ (z : Each). glued k (take (n * 4) rows) (take m pool) (take (k * 5) tells) z) (sym (one-is ∙ no_room t x r n m ro po (drop (k * 5) tells) _ h))
            ∙ f.whole

        -- it is answered, and there may be more
        pub sofar-next : eqb (values_in r).number 14 ≡ false → (rows' pool' : List ℕ) → rows' ≡ take (n * 4) rows ++ rows_after t ro (length po) x → pool' ≡ take m pool ++ pool_after t (length ro) po x
            → Sofar rows₀ pool₀ tells₀ (k + 1) (get_or ends k 0) (n + rows_used r) (m + pool_used r) rows' pool' (sets tells (k * 5) (told (values_in r) (n + rows_used r) (m + pool_used r)))
        unfolding told
        sofar-next h rows' pool' p q =
            let line = told (values_in r) (n + rows_used r) (m + pool_used r) in
            let e : (n + rows_used r) * 4 ≡ n * 4 + rows_used r * 4 = omega arith in
            let g : k + 1 ≡ suc k = omega arith in
            let a = cut (take (n * 4) rows) _ rows' (n * 4) (rows_used r * 4) (length-take-le (n * 4) rows f.rows_in) p in
            let b = cut (take m pool) _ pool' m (pool_used r) (length-take-le m pool f.pool_in) q in
            let c = ends_at (take (k * 5) tells ++ line) (drop 5 (drop (k * 5) tells)) (sets tells (k * 5) line) (suc k * 5) (told-length tells line k refl enough) (told_is tells line k refl enough) in
            record {
              few = omega arith;
              rows_in = omega (arith, ap length p, length-append (take (n * 4) rows) (rows_after t ro (length po) x), length-take-le (n * 4) rows f.rows_in, rows-there t ro po x);
              pool_in = omega (arith, ap length q, length-append (take m pool) (pool_after t (length ro) po x), length-take-le m pool f.pool_in, pool-there t ro po x);
              told_in = omega (arith, length-sets tells (k * 5) line);
              whole =
                  rw (e, g, a.0, a.1, b.0, b.1, c.0, c.1)
                  (one_more k (take (n * 4) rows) (take m pool) (take (k * 5) tells) _ _ line _
                  ∙ ap (λ (z : Each). glued k (take (n * 4) rows) (take m pool) (take (k * 5) tells) z) (sym (one-is ∙ has_room t x r n m ro po (drop (k * 5) tells) _ h))
                  ∙ f.whole);
            }

-- ---- one text

pub text-none : (texts : List ℕ) (from end : ℕ) → end < from → take 0 (drop from texts) ≡ text_from texts from end
unfolding text_from
text-none texts from end h = let e : end - from ≡ 0 = omega arith in rw e

-- ---- a part lent from a place on

module _ (l : List ℕ) (a : ℕ) where
  pub from_is : take (length l - a) (drop a l) ≡ drop a l
  from_is = take_all (length l - a) (drop a l) (omega (arith, length-drop a l))

  pub put_from : (e : List ℕ) → a ≤ length l → put_mid a (length l - a) l e ≡ take a l ++ e
  put_from e h = ap (λ (z : List ℕ). take a l ++ (e ++ z)) (drop_of_length-le (drop a l) {i = length l - a} (omega (arith, length-drop a l))) ∙ ap (λ (z : List ℕ). take a l ++ z) (append-nil e)

module _ (t : Table) (s rows pool : List ℕ) (a m : ℕ) {r : Reading} {rows' pool' : List ℕ} (h : a ≤ length rows) (k : m ≤ length pool)
    (c : ReadCall t s (take (length rows - a) (drop a rows)) (take (length pool - m) (drop m pool)) r rows' pool') where
  pub one_answer : r ≡ alone t s (drop a rows) (drop m pool)
  one_answer = rw (from_is rows a, from_is pool m) at c.answer

  pub one-few : (a + rows_used r * 4 ≤ length rows) × (m + pool_used r ≤ length pool)
  one-few =
      let x = read_text t s in
      let e = rows-there t (drop a rows) (drop m pool) x in
      let f = pool-there t (drop a rows) (drop m pool) x in
      rw one_answer
      (omega (arith, e, length-rows t (drop a rows) (length (drop m pool)) x, length-drop a rows), omega (arith, f, length-pool t (length (drop a rows)) (drop m pool) x, length-drop m pool))

  pub one-rows : put_mid a (length rows - a) rows rows' ≡ take a rows ++ rows_after t (drop a rows) (length (drop m pool)) (read_text t s)
  one-rows = put_from rows a rows' h ∙ ap (λ (z : List ℕ). take a rows ++ z) (rw (from_is rows a, from_is pool m) at c.rows_left)

  pub one-pool : put_mid m (length pool - m) pool pool' ≡ take m pool ++ pool_after t (length (drop a rows)) (drop m pool) (read_text t s)
  one-pool = put_from pool m pool' k ∙ ap (λ (z : List ℕ). take m pool ++ z) (rw (from_is rows a, from_is pool m) at c.pool_left)

-- what the call does, of the lent rows and pool whose parts these are
pub read-from : (t : Table) (s : List ℕ) (n m : ℕ) {r : Reading} (rows pool : Lent) {rows' pool' : List ℕ} → n * 4 ≤ length (before rows) → m ≤ length (before pool)
    → ReadCall t s (take (length (before rows) - n * 4) (drop (n * 4) (before rows))) (take (length (before pool) - m) (drop m (before pool))) r rows' pool'
    → after rows ≡ put_mid (n * 4) (length (before rows) - n * 4) (before rows) rows' → after pool ≡ put_mid m (length (before pool) - m) (before pool) pool'
    → n + rows_used r < 2 ^ 62 → m + pool_used r < 2 ^ 64 → ReadFrom t s n m r rows pool
read-from t s n m rows pool h k c e f x y = record {
  answer = one_answer t s (before rows) (before pool) (n * 4) m h k c;
  rows_left = e ∙ one-rows t s (before rows) (before pool) (n * 4) m h k c;
  pool_left = f ∙ one-pool t s (before rows) (before pool) (n * 4) m h k c;
  rows_fit = x;
  pool_fit = y;
}

-- ---- a turn of the loop

no-used : (r : Reading) → eqb (values_in r).number 14 ≡ true → (rows_used r ≡ 0) × (pool_used r ≡ 0)
unfolding values_in rows_used pool_used
no-used (Ok c) h = absurd (false≢true h)
no-used (Err e) h = (refl, refl)

module _ (t : Table) (texts ends : List ℕ) {rows₀ pool₀ tells₀ tells : List ℕ} {k from n m : ℕ} (rows pool : Lent) (f : Sofar t texts ends rows₀ pool₀ tells₀ k from n m (before rows) (before pool) tells)
    (l : k < length ends) (room : k < length tells / 5) {s : List ℕ} {end : ℕ} (d : end ≡ get_or ends k 0) (e : s ≡ text_from texts from end) {r : Reading} (o : ReadFrom t s n m r rows pool)
    {v : Reported} (w : v ≡ reported_of (values_in r)) {n' m' : ℕ} (g : n' ≡ n + rows_used r) (h : m' ≡ m + pool_used r) {tells' : List ℕ} (z : tells' ≡ sets tells (k * 5) (told_of v n' m')) where
  s-is : s ≡ text_from texts from (get_or ends k 0)
  s-is = e ∙ ap (text_from texts from) d

  r-is : r ≡ alone t (text_from texts from (get_or ends k 0)) (drop (n * 4) (before rows)) (drop m (before pool))
  r-is = o.answer ∙ ap (λ (u : List ℕ). alone t u (drop (n * 4) (before rows)) (drop m (before pool))) s-is

  rows_is : after rows ≡ take (n * 4) (before rows) ++ rows_after t (drop (n * 4) (before rows)) (length (drop m (before pool))) (read_text t (text_from texts from (get_or ends k 0)))
  rows_is = o.rows_left ∙ ap (λ (u : List ℕ). take (n * 4) (before rows) ++ rows_after t (drop (n * 4) (before rows)) (length (drop m (before pool))) (read_text t u)) s-is

  pool-is : after pool ≡ take m (before pool) ++ pool_after t (length (drop (n * 4) (before rows))) (drop m (before pool)) (read_text t (text_from texts from (get_or ends k 0)))
  pool-is = o.pool_left ∙ ap (λ (u : List ℕ). take m (before pool) ++ pool_after t (length (drop (n * 4) (before rows))) (drop m (before pool)) (read_text t u)) s-is

  tells_is : (q : Reading) → r ≡ q → tells' ≡ sets tells (k * 5) (told (values_in q) (n + rows_used q) (m + pool_used q))
  unfolding told
  tells_is q y = z ∙ rw (w, g, h, y)

  told-number : (b : Bool) → eqb v.number 14 ≡ b → eqb (values_in (alone t (text_from texts from (get_or ends k 0)) (drop (n * 4) (before rows)) (drop m (before pool)))).number 14 ≡ b
  told-number b y = ap (λ (q : Reading). eqb (values_in q).number 14) (sym r-is) ∙ ap (λ (q : Reported). eqb q.number 14) (sym w) ∙ y

  pub turn_last : v.number ≡ 14 → each (k + 1) (after rows) (after pool) tells' ≡ read_each t texts 0 ends 0 0 rows₀ pool₀ tells₀
  turn_last y =
      let q = alone t (text_from texts from (get_or ends k 0)) (drop (n * 4) (before rows)) (drop m (before pool)) in
      let c = told-number true (eq-eqb v.number 14 y) in
      let u = no-used q c in
      let a = rows_is ∙ ap (λ (x : List ℕ). take (n * 4) (before rows) ++ x) (rows-kept t (drop (n * 4) (before rows)) (drop m (before pool)) (read_text t (text_from texts from (get_or ends k 0))) c) ∙ take-append-drop (n * 4) (before rows) in
      let b = pool-is ∙ ap (λ (x : List ℕ). take m (before pool) ++ x) (pool-kept t (drop (n * 4) (before rows)) (drop m (before pool)) (read_text t (text_from texts from (get_or ends k 0))) c) ∙ take-append-drop m (before pool) in
      let j : tells' ≡ sets tells (k * 5) (told (values_in q) n m) = tells_is q r-is ∙ rw (u.0, u.1, add-zero n, add-zero m) in
      rw (a, b, j) (sofar-last t texts ends f l room c)

  pub turn-next : (v.number ≡ 14 → ⊥) → Sofar t texts ends rows₀ pool₀ tells₀ (k + 1) end n' m' (after rows) (after pool) tells'
  turn-next y =
      let q = alone t (text_from texts from (get_or ends k 0)) (drop (n * 4) (before rows)) (drop m (before pool)) in
      let c = told-number false (ne_eqb v.number 14 y) in
      let i : n' ≡ n + rows_used q = g ∙ ap (λ (p : Reading). n + rows_used p) r-is in
      let j : m' ≡ m + pool_used q = h ∙ ap (λ (p : Reading). m + pool_used p) r-is in
      rw (d, i, j, tells_is q r-is) (sofar-next t texts ends f l room c (after rows) (after pool) rows_is pool-is)

-- ---- the call

module _ (t : Table) (texts ends rows pool tells : List ℕ) where
  pub each-bad : {e : Refusal} → Err e ≡ table_judged t → EachCall t texts ends rows pool tells (Err e) rows pool tells
  unfolding table_judged each_read each_answer each_left bind
  each-bad h =
      let g = table-refused t (good_table t) h in
      record { answer = rw g; rows_left = rw g; pool_left = rw g; tells_left = rw g }

  pub each-good : {n : ℕ} {rows' pool' tells' : List ℕ} → Ok tt ≡ table_judged t → each n rows' pool' tells' ≡ read_each t texts 0 ends 0 0 rows pool tells
      → EachCall t texts ends rows pool tells (Ok n) rows' pool' tells'
  unfolding each_read each_answer each_left bind
  each-good h e =
      let g = table-ok t h in
      record {
        answer = rw g (ap (λ (z : Each). Ok z.count) e);
        rows_left = rw g (ap (λ (z : Each). z.rows) e);
        pool_left = rw g (ap (λ (z : Each). z.pool) e);
        tells_left = rw g (ap (λ (z : Each). z.tells) e);
      }
