-- Demand 2, the sender's options; the mapper's question; and skipped values: of two calls, whatever their buffers hold.
use Rattle.std.specs.Prelude.{Ok}
use Rattle.jer.specs.Answer.{read_as}
use Rattle.jer.specs.Answer.{Reading}
use Prim.Native.Nat.{ℕ, ◌≤◌}
use mathlib.Core.Path.{◌≡◌, refl, sym, ap, ◌∙◌}
use mathlib.Core.List.{List, [], ◌∷◌}
use mathlib.Core.Bool.{true, false}
use Rattle.std.specs.Prelude.{None}
use native.Mathlib.Omega.{arith}
use lib.Dec.{lit<}
use lib.ListN.{length}
use Rattle.json_text.specs.Tree.{Json, jnull, jint, jarr, inil, icons}
use Rattle.json_text.specs.Grammar.{Text}
use Rattle.jer.specs.declared.Cause.TheVariants.{OtherKind, Missing}
use Rattle.jer.specs.declared.Refusal.TheVariants.{AtByte}
use Rattle.jer.specs.Table.{Table}
use Rattle.jer.specs.Valid.{first_bad}
use Rattle.jer.specs.Value.{Val}
use Rattle.jer.specs.Answer.{Res, ok, no}
use Rattle.jer.specs.Rows.{pool_of}
use Rattle.jer.specs.Read.{read}
use Rattle.jer.specs.Judge.{judge}
use Rattle.jer.specs.Calls.{row_numbers, roomy, read_text, read_answer}
use Rattle.jer.specs.Moved.{number}
use Rattle.jer.specs.Respelled.{Respelled, moved, elements, no_element, element, null_added}
use Rattle.jer.specs.Samples.{outcome}
use Rattle.jer.specs.Skipped.{SameAnswer, same_value, same_number, SkipAlike, SameReading, same_reading, same_refusal}
use Rattle.jer.specs.CallClauses.{ReadCall}
use Rattle.jer.proofs.ValidSane.{valid_sane}
use Rattle.jer.proofs.JudgeTable.{judged-rows}
use Rattle.jer.proofs.WeightGot.{got}
use Rattle.jer.proofs.AlikeCalls.{respelled_texts, only_respelled_texts, skipped-texts}
use Rattle.jer.proofs.MeansCalls.{means, means-fits}
use Rattle.promises.specs.Statements.{Exactly, SameRoom, SameTable}
use Rattle.promises.proofs.Buffers.{stores}
use Rattle.promises.proofs.Outcomes.{Stored, stored, stored-rows, stored-pool}

-- ---- one value in two pairs of buffers

module _ {t : Table} {s u rows pool rows₂ pool₂ a b c d : List ℕ} {n m n₂ m₂ : ℕ} (w : Stored t s rows pool n m a b) (z : Stored t u rows₂ pool₂ n₂ m₂ c d) where
  -- equal values are stored as equal tables
  same-stored : w.value ≡ z.value → SameTable n m a b n₂ m₂ c d
  same-stored e = record { numbers = stored-rows t s rows pool w ∙ ap (row_numbers t) e ∙ sym (stored-rows t u rows₂ pool₂ z); bytes = stored-pool t s rows pool w ∙ ap pool_of e ∙ sym (stored-pool t u rows₂ pool₂ z) }

  -- and equal tables are those of one value
  one_value : SameTable n m a b n₂ m₂ c d → w.value ≡ z.value
  unfolding row_numbers
  one_value h =
      let x = means t s w.value w.means in
      let y = means t u z.value z.means in
      let g = valid_sane t x.good in
      let rs : row_numbers t w.value ≡ row_numbers t z.value = sym (stored-rows t s rows pool w) ∙ h.numbers ∙ stored-rows t u rows₂ pool₂ z in
      let ps : pool_of w.value ≡ pool_of z.value = sym (stored-pool t s rows pool w) ∙ h.bytes ∙ stored-pool t u rows₂ pool₂ z in
      got (sym (judged-rows t g (means-fits t s w.value x)) ∙ ap (λ (l : List ℕ). judge t l (pool_of w.value)) rs ∙ ap (judge t (row_numbers t z.value)) ps
      ∙ judged-rows t g (means-fits t u z.value y))

-- in the same room a value is stored alike
same-room-stores : {t : Table} {s u rows pool rows₂ pool₂ a b c d : List ℕ} {n m : ℕ} {r : Reading} → SameRoom rows pool rows₂ pool₂ → (w : Stored t s rows pool n m a b) → read_text t u ≡ ok w.value
    → ReadCall t u rows₂ pool₂ r c d → (r ≡ read_as n m) × SameTable n m a b n m c d
same-room-stores {t} {s} {u} {rows} {pool} {rows₂} {pool₂} {a} {b} {c} {d} {n} {m} {r} same w e y =
    let room : roomy t w.value (length rows₂) (length pool₂) ≡ true = ap (λ (k : ℕ). roomy t w.value k (length pool₂)) (sym same.numbers) ∙ ap (roomy t w.value (length rows)) (sym same.bytes) ∙ w.room in
    let z = stores w.value e room y in
    let q : r ≡ read_as n m = z.answer ∙ sym (ap (λ (i : ℕ). read_as i (length (pool_of w.value))) w.row_count) ∙ sym (ap (read_as n) w.pool_count) in
    (q, same-stored w (record { value = w.value; means = e; room = room; row_count = w.row_count; pool_count = w.pool_count; rows_left = z.rows_left; pool_left = z.pool_left }) refl)

module _ {t : Table} {j k : Json} (s u : List ℕ) (js : Text 32 j s) (ku : Text 32 k u) {rows pool rows₂ pool₂ : List ℕ} where
  -- "A text is read as the value that X.697 gives it, whatever options its sender chose": a text that says the same with other options
  -- gets, in the same room, the same answer and the same value table
  pub respelled_calls : {n m : ℕ} {r : Reading} {a b c d : List ℕ} → length u ≤ 65536 → SameRoom rows pool rows₂ pool₂ → Respelled t 0 j k → ReadCall t s rows pool (read_as n m) a b
      → ReadCall t u rows₂ pool₂ r c d → (r ≡ read_as n m) × SameTable n m a b n m c d
  respelled_calls {n} {m} {r} {a} {b} {c} {d} size same h x y =
      let w = stored t s rows pool n m a b x in
      let e = means t s w.value w.means in
      same-room-stores same w (respelled_texts s u e.good js ku e.size size h w.means) y

  -- The mapper's question: of two texts that are read, into any buffers, the value tables are equal exactly when one text says what the
  -- other says.
  pub equal_exactly : {n m n₂ m₂ : ℕ} {a b c d : List ℕ} → ReadCall t s rows pool (read_as n m) a b → ReadCall t u rows₂ pool₂ (read_as n₂ m₂) c d
      → Exactly (SameTable n m a b n₂ m₂ c d) (Respelled t 0 j k)
  equal_exactly {n} {m} {n₂} {m₂} {a} {b} {c} {d} x y =
      let w = stored t s rows pool n m a b x in
      let z = stored t u rows₂ pool₂ n₂ m₂ c d y in
      let e = means t s w.value w.means in
      let f = means t u z.value z.means in (
        λ h. only_respelled_texts s u e.good js ku e.size f.size w.means (z.means ∙ ap ok (sym (one_value w z h))),
        λ h. same-stored w z (got (sym (respelled_texts s u e.good js ku e.size f.size h w.means) ∙ z.means)),
      )

  -- "Two texts that differ only inside the values of skipped members, both JSON within the sizes, get the same rows and pool, or the same
  -- refusal number."
  pub skipped_calls : {r q : Reading} {a b c d : List ℕ} → first_bad t ≡ None → length s ≤ 65536 → length u ≤ 65536 → SameRoom rows pool rows₂ pool₂ → SkipAlike t 0 j k → ReadCall t s rows pool r a b
      → ReadCall t u rows₂ pool₂ q c d → SameReading r q × ((n m : ℕ) → r ≡ read_as n m → SameTable n m a b n m c d)
  unfolding read_answer
  skipped_calls {r} {q} {a} {b} {c} {d} good l size same h x y = (rw (x.answer, y.answer) (answers (read_text t s) (read_text t u) alike), λ n m e. table n m e)
    where
      alike : SameAnswer (read_text t s) (read_text t u)
      alike = skipped-texts s u good js ku l size h

      answers : (v w : Res Val) → SameAnswer v w → SameReading (read_answer t (length rows) (length pool) v) (read_answer t (length rows₂) (length pool₂) w)
      answers v w (same_value {a = i}) = rw (same.numbers, same.bytes) same_reading
      answers v w (same_number e) = same_refusal e

      value : (v w : Res Val) {i : Val} → SameAnswer v w → v ≡ ok i → w ≡ ok i
      value v w same_value e = e
      value v w (same_number f) e = absurd (let z : ◌≡◌ {A = ℕ} 0 1 = cc in omega arith)

      table : (n m : ℕ) → r ≡ read_as n m → SameTable n m a b n m c d
      table n m e =
          let v = stored t s rows pool n m a b (rw e at x) in
          (same-room-stores same v (value (read_text t s) (read_text t u) alike v.means) y).1

-- ---- refused texts

-- an ARRAY of two INTEGERs
unfoldable pub two : Table
two =
    record {
      rows = 6 ∷ 1 ∷ 1 ∷ 2 ∷ 2 ∷ 0 ∷ 0 ∷ 0 ∷ 9 ∷ 0 ∷ 3 ∷ 0 ∷ 1 ∷ 0 ∷ 0 ∷ 0 ∷ 9 ∷ 0 ∷ 3 ∷ 1 ∷ 1 ∷ 0 ∷ 0 ∷ 0 ∷ 1 ∷ 0 ∷ 0 ∷ 0 ∷ 0 ∷ 0 ∷ 0 ∷ 0 ∷ [];
      names = 0x61 ∷ 0x62 ∷ [];
    }

-- Where one of two respelled texts is refused the other is, and their numbers may differ: [1] is 10 for the missing element, and [1,null],
-- which says the same, is 5 at the null.
pub numbers_may_differ : (read (jarr 0 (icons (jint 1 false 1) inil)) two 0 ≡ no (AtByte (Missing 1) 0))
    × (read (jarr 0 (icons (jint 1 false 1) (icons (jnull 3) inil))) two 0 ≡ no (AtByte OtherKind 3))
    × Respelled two 0 (jarr 0 (icons (jint 1 false 1) inil)) (jarr 0 (icons (jint 1 false 1) (icons (jnull 3) inil)))
unfolding outcome two
numbers_may_differ = (refl, refl, elements refl (element (moved number) (null_added {r = 0} {i = 1} (lit< tt) no_element)))
