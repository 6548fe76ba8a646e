-- The call from outside: document 01's order of refusals, 1, 12, 13, 14.
use Rattle.std.specs.Prelude.{Err, Ok}
use Rattle.jer.specs.Answer.{Writing}
use mathlib.Core.Path.{◌≡◌, refl, sym, ap, ◌∙◌}
use mathlib.Core.List.{List, [], ◌∷◌, ◌++◌}
use mathlib.Core.Bool.{Bool, true, false, ◌&&◌}
use Rattle.std.specs.Prelude.{Option, None, Some}
use Prim.Native.Nat.{ℕ, zero, suc, ◌+◌, ◌*◌, ◌/◌, ◌%◌, ◌≤◌, ◌<◌}
use native.Mathlib.Omega.{arith}
use lib.Dec.{eqb, leb}
use lib.ListN.{length, drop, take}
use lib.Seq.{sets, sets-eq}
use borrow.Author.Tests.{eq-eqb, ne_eqb, eqb-true, eqb-false, le-leb, lt-leb, leb-true, leb-false}
use Rattle.jer.specs.declared.Which.TheVariants.{ValueTable}
use Rattle.jer.specs.declared.Limit.TheVariants.{HouseSize, LentRoom}
use Rattle.jer.specs.declared.Refusal.{Refusal}
use Rattle.jer.specs.declared.Refusal.TheVariants.{AtRow, Amounts}
use Rattle.jer.specs.Table.{Table}
use Rattle.jer.specs.Valid.{good_alone, good_pointers, good_rules, good_sizes, or_else, pass, first_bad}
use Rattle.jer.proofs.ValidRows.{both}
use Rattle.jer.specs.Value.{Val}
use Rattle.jer.specs.Answer.{Res, ok, no, bind}
use Rattle.jer.specs.Rows.{ValueRow}
use Rattle.jer.specs.Judge.{took, rows_in, all_taken, judge}
use Rattle.jer.specs.Write.{write}
use Rattle.jer.specs.Calls.{table_of, good_table, judged_by, table_judged, over, write_text, amount, write_answer, text_after}
use Rattle.jer.proofs.ValidSane.{valid_sane}
use Rattle.octets.proofs.AmountLaws.{amount-within}
use Rattle.written.specs.Tables.{GoodTable}
use Rattle.written.specs.Text.{Taken, Puts, value_text, Stored, Writes}
use Rattle.written.proofs.PutLaws.{fits}
use Rattle.written.proofs.TextLaws.{Value, NoValue, text-of}
use Rattle.writing.specs.Call.{value_written, Answers}

-- ---- 1

pub record Good (t : Table) (ns pool : List ℕ) : Type 0 where
  pub table : GoodTable t.rows t.names
  pub text : value_written t ns pool ≡ write_text t ns pool

rows_whole : (t : Table) → first_bad t ≡ None → length t.rows % 8 ≡ 0
unfolding first_bad good_sizes
rows_whole t e = go (good_sizes t) refl e
  where
    go : (c : Bool) → good_sizes t ≡ c → ◌≡◌ {A = Option ℕ} (elim c [ false ↦ Some 0 | true ↦ or_else (pass t (good_alone t)) (or_else (pass t (good_pointers t)) (pass t (good_rules t))) ]) None → length t.rows % 8 ≡ 0
    go true s w = let p = simp both at s in eqb-true (length t.rows % 8) 0 p.1.0
    go false s w = absurd (let z : ◌≡◌ {A = ℕ} 0 1 = cc in omega arith)

pub table-good : {t : Table} {ns pool : List ℕ} → Ok tt ≡ table_judged t → Good t ns pool
unfolding table_judged judged_by good_table table_of write_text value_written bind
table-good {t} {ns} {pool} h = go (first_bad t) refl h
  where
    go : (x : Option ℕ) → first_bad t ≡ x → Ok tt ≡ judged_by (table_of t x) → Good t ns pool
    go None e f = record { table = record { wrapped = (valid_sane t e).plain; whole = rows_whole t e }; text = rw e }
    go (Some r) e f = absurd (let z : ◌≡◌ {A = ℕ} 0 1 = cc in omega arith)

pub table-bad : (t : Table) (ns pool : List ℕ) {e : Refusal} → Err e ≡ table_judged t → no e ≡ write_text t ns pool
unfolding table_judged judged_by write_text value_written bind
table-bad t ns pool {e} h = go (good_table t) h
  where
    go : (x : Res Table) → Err e ≡ judged_by x → no e ≡ bind x (λ u. value_written t ns pool)
    go (no f) g = cc
    go (ok u) g = absurd (let z : ◌≡◌ {A = ℕ} 0 1 = cc in omega arith)

-- ---- answers

pub answers_as : {x y : Res (List ℕ)} {l m : List ℕ} {a : Writing} → x ≡ y → Answers x l m a → Answers y l m a
answers_as h f = rw h at f

pub refuses : {x : Res (List ℕ)} {e : Refusal} (l : List ℕ) → no e ≡ x → Answers x l l (Err e)
unfolding write_answer text_after
refuses l h = rw (← h) record { answer = refl; text = refl }

module _ (l s : List ℕ) {e : ℕ} (h : e ≡ amount (length s)) where
  end_is : e ≤ 65536 → e ≡ length s
  end_is b = let z = fits s 0 (h ∙ ap amount (let y : length s ≡ 0 + length s = omega arith in y)) b in h ∙ sym (amount-within (length s) (omega arith))

  -- 13
  pub too_long : 65536 < e → Answers (ok s) l l (Err (Amounts HouseSize e 0))
  unfolding write_answer text_after
  too_long b =
      let n : 65536 < length s = long in
      record { answer = rw (lt-leb (length s) 65536 n, write_answer) (ap (λ (x : ℕ). Err (Amounts HouseSize x 0)) h); text = rw (lt-leb (length s) 65536 n, text_after) }
    where
      long : 65536 < length s
      long = go (leb (length s) 65536) refl
        where
          go : (c : Bool) → leb (length s) 65536 ≡ c → 65536 < length s
          go true d = let x = leb-true (length s) 65536 d in absurd (omega (arith, amount-within (length s) (omega arith)))
          go false d = leb-false (length s) 65536 d

  module _ (b : e ≤ 65536) where
    -- 14
    pub too_small : length l < e → Answers (ok s) l l (Err (Amounts LentRoom e 0))
    unfolding write_answer text_after
    too_small c =
        let f = end_is b in
        let n : length l < length s = omega arith in
        let m : length s ≤ 65536 = omega arith in
        record { answer = rw (le-leb (length s) 65536 m, write_answer) (rw (lt-leb (length s) (length l) n) (ap (λ (x : ℕ). Err (Amounts LentRoom x 0)) f)); text = rw (le-leb (length s) 65536 m, lt-leb (length s) (length l) n, text_after) }

    pub written : {m : List ℕ} → e ≤ length l → m ≡ sets l 0 s → Answers (ok s) l m (Ok e)
    unfolding write_answer text_after over
    written c g =
        let f = end_is b in
        let n : length s ≤ length l = omega arith in
        let m : length s ≤ 65536 = omega arith in
        record { answer = rw (le-leb (length s) 65536 m, write_answer) (rw (le-leb (length s) (length l) n) (ap Ok f)); text = rw (le-leb (length s) 65536 m, le-leb (length s) (length l) n, text_after) (g ∙ sets-eq s l 0 (omega arith) ∙ ap (λ (i : ℕ). s ++ drop i l) (let z : 0 + length s ≡ length s = omega arith in z)) }

-- ---- 12

-- rows and pool are used up, as the code asks
all-rows : (n q : ℕ) → (eqb (n % 4) 0 && eqb (n / 4) q) ≡ eqb n (q * 4)
all-rows n q = go (eqb n (q * 4)) refl
  where
    go : (c : Bool) → eqb n (q * 4) ≡ c → (eqb (n % 4) 0 && eqb (n / 4) q) ≡ c
    go true e =
        let h = eqb-true n (q * 4) e in
        let a : n % 4 ≡ 0 = omega arith in
        let b : n / 4 ≡ q = omega arith in
        rw (eq-eqb (n % 4) 0 a, eq-eqb (n / 4) q b)
    go false e = rest (eqb (n % 4) 0) refl
      where
        rest : (c : Bool) → eqb (n % 4) 0 ≡ c → (eqb (n % 4) 0 && eqb (n / 4) q) ≡ false
        rest true f = let a = eqb-true (n % 4) 0 f in rw f (ne_eqb (n / 4) q (λ x. eqb-false n (q * 4) e (omega arith)))
        rest false f = rw f

module _ (t : Table) (ns pool : List ℕ) where
  taken_is : (v : Val) (ws : List ValueRow) (q o : ℕ) (c : Bool) → (eqb (length ns) (q * 4) && eqb (length pool) o) ≡ c → all_taken (length ns) (length pool) (took v ws q o) ≡ elim c [ true ↦ ok v | false ↦ no (AtRow ValueTable q) ]
  unfolding all_taken
  taken_is v ws q o c h = rw (h, all_taken)

  pub value-bad : {q : ℕ} → NoValue 32 t pool (rows_in ns) 0 0 0 q → no (AtRow ValueTable q) ≡ value_written t ns pool
  unfolding value_written judge all_taken bind
  value-bad v = sym (rw v.is)

  module _ {k q o e : ℕ} {l m : List ℕ} (v : Value 32 t pool (rows_in ns) 0 0 0 k l m q o e) where
    taken-text : (c : Bool) → ((eqb (length ns % 4) 0 && eqb (length ns / 4) q) && eqb (length pool) o) ≡ c → bind (elim c [ true ↦ ok v.what | false ↦ no (AtRow ValueTable q) ]) (λ u. ok (write u t 0)) ≡ value_written t ns pool
    unfolding value_written judge
    taken-text c h =
        let g : (eqb (length ns) (q * 4) && eqb (length pool) o) ≡ c = ap (λ (x : Bool). x && eqb (length pool) o) (sym (all-rows (length ns) q)) ∙ h in
        sym (rw v.is (ap (λ (x : Res Val). bind x (λ u. ok (write u t 0))) (taken_is v.what (drop q (rows_in ns)) q o c g)))

    pub left_over : ((eqb (length ns % 4) 0 && eqb (length ns / 4) q) && eqb (length pool) o) ≡ false → no (AtRow ValueTable q) ≡ value_written t ns pool
    unfolding bind
    left_over h = taken-text false h

    pub all-taken : ((eqb (length ns % 4) 0 && eqb (length ns / 4) q) && eqb (length pool) o) ≡ true → ok (write v.what t 0) ≡ value_written t ns pool
    unfolding bind
    all-taken h = taken-text true h

-- where it ends, from the start of the text
pub end_of : {s : List ℕ} {l m : List ℕ} {e : ℕ} → Puts s 0 l m e → e ≡ amount (length s)
end_of {s} f = f.ends ∙ ap amount (let z : 0 + length s ≡ length s = omega arith in z)

-- ---- copied

front-is : (s x : List ℕ) → take (length s) (s ++ x) ≡ s
front-is [] x = refl
front-is (b ∷ s) x = ap (λ (l : List ℕ). b ∷ l) (front-is s x)

-- a text that was put into room of its own, and the front c of the room into the lent text
pub copied : {s c : List ℕ} {l m : List ℕ} (l₁ : List ℕ) {m₁ : List ℕ} {e : ℕ} → Puts s 0 l m e → e ≤ 65536 → e ≤ length l → c ≡ take e (drop 0 m) → m₁ ≡ sets l₁ 0 c → m₁ ≡ sets l₁ 0 s
copied {s} {c} {l} {m} l₁ {m₁} {e} p b r f g =
    let n : e ≡ length s = end_is l s (end_of p) b in
    let w : m ≡ s ++ drop (0 + length s) l = p.stands (omega arith) ∙ sets-eq s l 0 (omega arith) in
    let d : take e m ≡ s = ap (λ (i : ℕ). take i m) n ∙ ap (take (length s)) w ∙ front-is s (drop (0 + length s) l) in
    g ∙ ap (sets l₁ 0) (f ∙ d)

pub front-few : (e : ℕ) {c : List ℕ} (m : List ℕ) → c ≡ take e (drop 0 m) → length c ≤ e
front-few e m f = rw f (few e m)
  where
    few : (e : ℕ) (l : List ℕ) → length (take e l) ≤ e
    few zero l = omega arith
    few (suc e) [] = omega arith
    few (suc e) (x ∷ l) = let h = few e l in omega arith

-- the same value once more
pub stored-again : (t : Table) (ns pool : List ℕ) {k q o e : ℕ} {l m l₁ m₁ : List ℕ} {a : Taken} (v : Value 32 t pool (rows_in ns) 0 0 0 k l m q o e) → Writes (value_text 32 t pool (drop 0 (rows_in ns)) 0 0 0) 0 l₁ m₁ a → e ≡ amount (length (write v.what t 0)) → e ≤ 65536 → m₁ ≡ sets l₁ 0 (write v.what t 0)
stored-again t ns pool {q = q} {o = o} {l₁ = l₁} {m₁ = m₁} v w h b =
    let x : value_text 32 t pool (drop 0 (rows_in ns)) 0 0 0 ≡ took (write v.what t 0) (drop q (rows_in ns)) q o = text-of v in
    let g : Stored (took (write v.what t 0) (drop q (rows_in ns)) q o) 0 l₁ m₁ = rw x at w.stored in
    let z = fits (write v.what t 0) 0 (h ∙ ap amount (let y : length (write v.what t 0) ≡ 0 + length (write v.what t 0) = omega arith in y)) b in
    g z
