-- Demand 2: what is written is read back as the same table; what was read is written, and never longer; reading needs bounded room.
use Rattle.std.specs.Prelude.{Err, Ok}
use Rattle.jer.specs.Answer.{read_as}
use Rattle.jer.specs.Answer.{Reading, Writing}
use Prim.Native.Nat.{ℕ, ◌*◌, ◌≤◌}
use mathlib.Core.Path.{◌≡◌, refl, sym, ap, ◌∙◌}
use mathlib.Core.List.{List}
use Rattle.std.specs.Prelude.{None}
use native.Mathlib.Omega.{arith}
use lib.ListN.{length, take}
use borrow.Author.Tests.{le-leb}
use Rattle.jer.specs.declared.Limit.TheVariants.{LentRoom}
use Rattle.jer.specs.declared.Refusal.{Refusal}
use Rattle.jer.specs.declared.Refusal.TheVariants.{Amounts}
use Rattle.jer.specs.Table.{Table}
use Rattle.jer.specs.Valid.{first_bad}
use Rattle.jer.specs.Value.{Val}
use Rattle.jer.specs.Answer.{ok, number_of}
use Rattle.jer.specs.Rows.{rows_of, pool_of}
use Rattle.jer.specs.Fits.{Octets, Words, Fits}
use Rattle.jer.specs.Write.{write}
use Rattle.jer.specs.Means.{Means}
use Rattle.jer.specs.Calls.{over, row_numbers, read_text, write_text, write_answer, text_after}
use Rattle.jer.proofs.ValidSane.{valid_sane}
use Rattle.jer.proofs.JudgeTable.{judge-fits, judged-rows}
use Rattle.jer.proofs.SpellCalls.{written-reads-text}
use Rattle.jer.specs.CallClauses.{ReadCall, WriteCall}
use Rattle.jer.proofs.MeansCalls.{never, means, means-read, means-fits, means-bounds, says, said}
use Rattle.jer.proofs.MeansReads.{ReadRefusal, at_table, at_byte, refusal_range}
use Rattle.promises.specs.Statements.{Stores}
use Rattle.promises.proofs.Buffers.{over-taken, numbers-length, stores, has_room}
use Rattle.promises.proofs.Outcomes.{stored, stored-rows, stored-pool, ReadRefused, early, cramped, read-refused, written}

-- a text with room for it, within the house size, is written
writes : {t : Table} {ns pool text text' : List ℕ} {w : Writing} (bs : List ℕ) → write_text t ns pool ≡ ok bs → length bs ≤ 65536 → length bs ≤ length text
    → WriteCall t ns pool text w text' → (w ≡ Ok (length bs)) × (text' ≡ over bs text)
unfolding write_answer text_after
writes bs e size room c =
    let a = rw e at c.answer in
    let b = rw e at c.text_left in
    let a' = rw (le-leb _ _ size, write_answer) at a in
    let b' = rw (le-leb _ _ size, text_after) at b in
    (rw (le-leb _ _ room, write_answer) at a', rw (le-leb _ _ room, text_after) at b')

-- "Given room and within the sizes, writing a well-formed value gives the one text that document 01 describes"
pub well_formed_is-written : {t : Table} {v : Val} {text text' : List ℕ} {w : Writing} → first_bad t ≡ None → Fits t 32 0 v → length (write v t 0) ≤ 65536 → length (write v t 0) ≤ length text
    → WriteCall t (row_numbers t v) (pool_of v) text w text' → (w ≡ Ok (length (write v t 0))) × (text' ≡ over (write v t 0) text)
unfolding row_numbers
well_formed_is-written {t} {v} good f size room c = writes (write v t 0) (said t _ _ v good (judged-rows t (valid_sane t good) f)) size room c

-- "and reading that text gives that value": whatever table was written, reading the text that was stored gives that table, in each buffer
pub written-is-read : {t : Table} {ns pool text text' rows bytes rows' bytes' : List ℕ} {n : ℕ} {r : Reading} → Words ns → Octets pool → WriteCall t ns pool text (Ok n) text'
    → length ns ≤ length rows → length pool ≤ length bytes → ReadCall t (take n text') rows bytes r rows' bytes'
    → (k : ℕ) × (length ns ≡ k * 4) × (r ≡ read_as k (length pool)) × (rows' ≡ over ns rows) × (bytes' ≡ over pool bytes)
unfolding row_numbers
written-is-read {t} {ns} {pool} {text} {text'} {rows} {bytes} {n = n} ws os c row_room poolRoom d =
    let w = written t ns pool text n text' c in
    let y = says t ns pool w.bytes w.means in
    let v = y.value in
    let f = judge-fits t ns pool v ws os y.judged in
    let s : take n text' ≡ write v t 0 = ap (λ (x : List ℕ). take n x) w.text_left ∙ over-taken w.bytes text n (sym w.count) ∙ y.text in
    let e = written-reads-text y.good f.fits (omega (arith, w.size, ap length y.text)) in
    let rn : row_numbers t v ≡ ns = sym f.rows in
    let pn : pool_of v ≡ pool = sym f.bytes in
    let room = has_room t v (length rows) (length bytes) (omega (arith, ap length rn)) (omega (arith, ap length pn)) in
    let got = stores v (ap (read_text t) s ∙ e) room d in
    (length (rows_of v t 0 0), omega (arith, ap length rn, numbers-length t v), rw pn at got.answer, rw rn at got.rows_left, rw pn at got.pool_left)

-- "Writing what was read never gives a longer text": the table that a reading stored is written, with room for as many bytes as the text
-- had, and the text written is not longer than the one read
pub read-is-written : {t : Table} {s rows pool rows' pool' text text' : List ℕ} {n m : ℕ} {w : Writing} → ReadCall t s rows pool (read_as n m) rows' pool'
    → length s ≤ length text → WriteCall t (take (n * 4) rows') (take m pool') text w text' → (k : ℕ) × (w ≡ Ok k) × (k ≤ length s)
unfolding row_numbers
read-is-written {t} {s} {rows} {pool} {rows'} {pool'} {text} {n = n} {m = m} c room d =
    let x = stored t s rows pool n m rows' pool' c in
    let v = x.value in
    let y = means t s v x.means in
    let g = valid_sane t y.good in
    let small = means-bounds y in
    let rs = stored-rows t s rows pool x in
    let ps = stored-pool t s rows pool x in
    let e : write_text t (take (n * 4) rows') (take m pool') ≡ ok (write v t 0)
    = ap (λ (z : List ℕ). write_text t z (take m pool')) rs ∙ ap (write_text t (row_numbers t v)) ps ∙ said t (row_numbers t v) (pool_of v) v y.good (judged-rows t g (means-fits t s v y)) in
    let size = y.size in
    let r = writes (write v t 0) e (omega (arith, small, size)) (omega (arith, small)) d in
    (length (write v t 0), r.0, small.2)

-- ---- "A read needs at most 130 rows for each byte of text, and no more pool bytes than text."

-- with so much room a text that has a value is read
pub room-enough : {t : Table} {s rows pool rows' pool' : List ℕ} {r : Reading} {v : Val} → Means t s v → 130 * length s * 4 ≤ length rows → length s ≤ length pool → ReadCall t s rows pool r rows' pool'
    → Stores t v rows pool r rows' pool'
room-enough {t} {s} {rows} {pool} {v = v} y a b c =
    let k = means-bounds y in
    stores v (means-read t s v y) (has_room t v (length rows) (length pool) (omega (arith, k, numbers-length t v)) (omega (arith, k))) c

-- what a reading used
pub read-bounds : {t : Table} {s rows pool rows' pool' : List ℕ} {n m : ℕ} → ReadCall t s rows pool (read_as n m) rows' pool' → (n ≤ 130 * length s) × (m ≤ length s)
read-bounds {t} {s} {rows} {pool} {rows'} {pool'} {n} {m} c =
    let x = stored t s rows pool n m rows' pool' c in
    let k = means-bounds (means t s x.value x.means) in
    (omega (arith, k, x.row_count), omega (arith, k, x.pool_count))

-- the amounts of 14
pub needed_bounds : {t : Table} {s rows pool rows' pool' : List ℕ} {n m : ℕ} → ReadCall t s rows pool (Err (Amounts LentRoom n m)) rows' pool' → (n ≤ 130 * length s) × (m ≤ length s)
needed_bounds {t} {s} {rows} {pool} {n = n} {m = m} c = go (Amounts LentRoom n m) (read-refused t s rows pool c) refl
  where
    none-early : (e : Refusal) → ReadRefusal e → e ≡ Amounts LentRoom n m → ⊥
    none-early e at_table h = never (cc)
    none-early e at_byte h = never (cc)

    go : (e : Refusal) → ReadRefused t s rows pool e → e ≡ Amounts LentRoom n m → (n ≤ 130 * length s) × (m ≤ length s)
    go e (early f) h = absurd (none-early e f h)
    go e (cramped {v} x w) h =
        let k = means-bounds (means t s v x) in
        let p : n ≡ length (rows_of v t 0 0) = cc in
        let q : m ≡ length (pool_of v) = cc in
        (omega (arith, k), omega (arith, k))

-- with so much room 14 is never the answer
pub never_14 : {t : Table} {s rows pool rows' pool' : List ℕ} {e : Refusal} → 130 * length s * 4 ≤ length rows → length s ≤ length pool → ReadCall t s rows pool (Err e) rows' pool'
    → number_of e ≡ 14 → ⊥
unfolding number_of
never_14 {t} {s} {rows} {pool} a b c = go (read-refused t s rows pool c)
  where
    go : {e : Refusal} → ReadRefused t s rows pool e → number_of e ≡ 14 → ⊥
    go (early f) h = let k = refusal_range f in omega arith
    go (cramped {v} x w) h =
        let k = means-bounds (means t s v x) in
        let y = has_room t v (length rows) (length pool) (omega (arith, k, numbers-length t v)) (omega (arith, k)) in
        never (cc)
