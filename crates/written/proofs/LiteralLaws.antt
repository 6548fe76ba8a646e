-- Strings whose bytes stand for themselves, put between quotation marks.
use mathlib.Core.Path.{◌≡◌, refl, sym, ap, ◌∙◌}
use mathlib.Core.List.{List, [], ◌∷◌, ◌++◌}
use mathlib.Core.Bool.{Bool, true, false}
use Prim.Native.Nat.{ℕ, zero, suc, ◌+◌, ◌<◌, ◌≤◌}
use native.Mathlib.Omega.{arith}
use native.Mathlib.Nat.{add-zero}
use native.Mathlib.Numerals.{add-one}
use borrow.Author.Tests.{eqb-true, eqb-false, leb-true}
use lib.Dec.{eqb, leb}
use lib.ListN.{length, get_or, set, take, length-append}
use lib.Seq.{sets, take-suc, take_all, length-take-le, set_comm, set-set}
use Rattle.json_text.specs.Utf8.{utf8}
use Rattle.jer.specs.Table.{same_bytes}
use Rattle.jer.specs.Write.{escaped, escapes, quotes, string_text}
use Rattle.jer.specs.Calls.{amount}
use Rattle.jer.proofs.ValidLaws.{same_bytes-eq}
use Rattle.slices.proofs.PartLaws.{sets_append}
use Rattle.octets.proofs.AmountLaws.{amount-within}
use Rattle.octets.proofs.EscapeLaws.{escapes-few}
use Rattle.types.proofs.ByteLaws.{ascii-utf8}
use Rattle.written.specs.Literal.{LiteralByte, IsLiteral, PutsLiteral}
use Rattle.written.specs.Text.{Puts, PutsWhole, spelled}
use Rattle.written.specs.declared.put.Form.TheVariants.{Escaped}
use Rattle.written.proofs.RowLaws.{never}

-- ---- the table

-- the entry for a byte
unfoldable pub literal_of : ℕ → ℕ
literal_of b = elim (same_bytes (escaped b) (b ∷ [])) [ true ↦ elim (leb b 0x7F) [ true ↦ 0x2E | false ↦ 0x2D ] | false ↦ 0x21 ]

-- the entries for n bytes from b on
abbrev pub entries : ℕ → ℕ → List ℕ
entries b zero = []
entries b (suc n) = literal_of b ∷ entries (suc b) n

entry_at : (b n i : ℕ) → i < n → get_or (entries b n) i 0 ≡ literal_of (b + i)
entry_at b zero i h = absurd (omega arith)
entry_at b (suc n) zero h = ap literal_of (sym (add-zero b))
entry_at b (suc n) (suc i) h = entry_at (suc b) n i (omega arith) ∙ ap literal_of (let e : suc b + i ≡ b + suc i = omega arith in e)

entry-right : (b mark : ℕ) → 0x2D ≤ mark → mark ≤ literal_of b → LiteralByte mark b
unfolding literal_of
entry-right b mark h l = go (same_bytes (escaped b) (b ∷ [])) (leb b 0x7F) refl refl l
  where
    go : (c d : Bool) → same_bytes (escaped b) (b ∷ []) ≡ c → leb b 0x7F ≡ d → mark ≤ elim c as (λ x. ℕ) [ true ↦ elim d as (λ x. ℕ) [ true ↦ 0x2E | false ↦ 0x2D ] | false ↦ 0x21 ] → LiteralByte mark b
    go true true u w l = (same_bytes-eq (escaped b) (b ∷ []) u, λ _. leb-true b 0x7F w)
    go true false u w l = (same_bytes-eq (escaped b) (b ∷ []) u, λ z. absurd (omega arith))
    go false d u w l = absurd (omega arith)

pub table-literal : IsLiteral (entries 0 256)
table-literal b mark h low l =
    let e : get_or (entries 0 256) b 0 ≡ literal_of b = entry_at 0 256 b h ∙ ap literal_of (let z : 0 + b ≡ b = omega arith in z) in
    entry-right b mark low (rw e at l)

-- ---- a string of such bytes

pub literal-escapes : (mark : ℕ) (s : List ℕ) → ((i : ℕ) → i < length s → LiteralByte mark (get_or s i 0)) → escapes s ≡ s
unfolding escapes
literal-escapes mark [] h = refl
literal-escapes mark (b ∷ s) h = rw ((h 0 (omega arith)).0, literal-escapes mark s (λ i l. h (suc i) (omega arith)))

pub literal-utf8 : (s : List ℕ) → ((i : ℕ) → i < length s → LiteralByte 0x2E (get_or s i 0)) → utf8 s ≡ true
unfolding utf8
literal-utf8 s h = ascii-utf8 s (λ i l. (h i l).1 (omega arith))

-- ---- the loop

pub literal-next : {mark : ℕ} (s : List ℕ) (k : ℕ) (l : List ℕ) {m : List ℕ} (j : ℕ) → PutsLiteral mark s k l m j → j < length s → LiteralByte mark (get_or s j 0) → PutsLiteral mark s k l (set m (k + j) (get_or s j 0)) (j + 1)
literal-next {mark} s k l {m} j p h b = record { few = omega arith; same = λ i c. go i c (eqb i j) refl; stands = stand }
  where
    go : (i : ℕ) → i < j + 1 → (c : Bool) → eqb i j ≡ c → LiteralByte mark (get_or s i 0)
    go i c true e = rw (eqb-true i j e) b
    go i c false e = p.same i (omega (arith, eqb-false i j e))

    stand : set m (k + j) (get_or s j 0) ≡ sets l k (take (j + 1) s)
    stand =
        let n : length (take j s) ≡ j = length-take-le j s (omega arith) in
        ap (λ (u : List ℕ). set u (k + j) (get_or s j 0)) p.stands
        ∙ ap (λ (i : ℕ). set (sets l k (take j s)) (k + i) (get_or s j 0)) (sym n)
        ∙ sym (sets_append l k (take j s) (get_or s j 0 ∷ []))
        ∙ ap (sets l k) (sym (ap (λ (i : ℕ). take i s) (add-one j) ∙ take-suc s j 0 h))

-- ---- between quotation marks

-- all of them
pub quoted : {mark : ℕ} (s : List ℕ) (k : ℕ) (l : List ℕ) {m : List ℕ} {n : ℕ} → PutsLiteral mark s (k + 1) (set l k 0x22) m n → length s ≤ n → k + length s + 2 ≤ length l → length l ≤ 18446744073709551615
    → Puts (string_text s) k l (set m (k + 1 + n) 0x22) (k + n + 2)
unfolding string_text quotes
quoted {mark} s k l {m} {n} p h r f =
    let e : n ≡ length s = omega (arith, p.few) in
    let x : escapes s ≡ s = literal-escapes mark s (λ i c. p.same i (omega arith)) in
    let y : length (0x22 ∷ (s ++ (0x22 ∷ []))) ≡ n + 2 = omega (arith, length-append s (0x22 ∷ [])) in
    rw x record { ends = sym (ap (λ (i : ℕ). amount (k + i)) y ∙ sym (amount-within (k + (n + 2)) (omega arith)) ∙ (let z : k + (n + 2) ≡ k + n + 2 = omega arith in z)); stands = λ _. stand e }
  where
    stand : n ≡ length s → set m (k + 1 + n) 0x22 ≡ sets (set l k 0x22) (suc k) (s ++ (0x22 ∷ []))
    stand e =
        ap (λ (u : List ℕ). set u (k + 1 + n) 0x22) (p.stands ∙ ap (sets (set l k 0x22) (k + 1)) (take_all n s (omega arith)))
        ∙ ap (λ (i : ℕ). set (sets (set l k 0x22) (k + 1) s) (k + 1 + i) 0x22) e
        ∙ sym (sets_append (set l k 0x22) (k + 1) s (0x22 ∷ []))
        ∙ ap (λ (i : ℕ). sets (set l k 0x22) i (s ++ (0x22 ∷ []))) (add-one k)

set-sets : (l : List ℕ) (i j v : ℕ) (vs : List ℕ) → i < j → set (sets l j vs) i v ≡ sets (set l i v) j vs
set-sets l i j v [] h = refl
set-sets l i j v (x ∷ vs) h = set-sets (set l j x) i (suc j) v vs (omega arith) ∙ ap (λ (m : List ℕ). sets m (suc j) vs) (set_comm l j i x v (λ e. omega arith))

-- what is put over a shorter run
over : (l : List ℕ) (k : ℕ) (ys xs : List ℕ) → length ys ≤ length xs → sets (sets l k ys) k xs ≡ sets l k xs
over l k [] xs h = refl
over l k (y ∷ ys) [] h = absurd (omega arith)
over l k (y ∷ ys) (x ∷ xs) h =
    ap (λ (m : List ℕ). sets m (suc k) xs) (set-sets (set l k y) k (suc k) x ys (omega arith) ∙ ap (λ (m : List ℕ). sets m (suc k) ys) (set-set l k y x))
    ∙ over (set l k x) (suc k) ys xs (omega arith)

pub escaped-all : (s : List ℕ) {k e : ℕ} {l o : List ℕ} → Puts (quotes (spelled Escaped s)) k l o e → Puts (string_text s) k l o e
unfolding string_text spelled
escaped-all s f = f

-- ---- whole, or some of it

pub whole-all : {mark : ℕ} (s : List ℕ) (k : ℕ) (l : List ℕ) {m : List ℕ} {n : ℕ} → PutsLiteral mark s (k + 1) (set l k 0x22) m n → length s ≤ n → k + length s + 2 ≤ length l → length l ≤ 18446744073709551615 → PutsWhole mark s k l (set m (k + 1 + n) 0x22) true
whole-all s k l {m} {n} p h r f =
    let e : n ≡ length s = omega (arith, p.few) in
    record { all = λ _. (ap-end (ap (λ (i : ℕ). k + i + 2) e) (quoted s k l p h r f), r, λ i c. p.same i (omega arith)); some = λ z. never (sym z) }
  where
    ap-end : {x : List ℕ} {o : List ℕ} {a b : ℕ} → a ≡ b → Puts x k l o a → Puts x k l o b
    ap-end h f = rw h at f

pub whole-some : {mark : ℕ} (s : List ℕ) (k : ℕ) (l : List ℕ) {m : List ℕ} {n : ℕ} → PutsLiteral mark s (k + 1) (set l k 0x22) m n → PutsWhole mark s k l m false
whole-some s k l {n = n} p = record { all = λ z. never z; some = λ _. (suc n, omega (arith, p.few), p.stands ∙ ap (λ (i : ℕ). sets (set l k 0x22) i (take n s)) (add-one k)) }

-- the whole string over some of it
pub whole-over : {mark : ℕ} {s : List ℕ} {k : ℕ} {l m o : List ℕ} {b : Bool} {e : ℕ} → PutsWhole mark s k l m b → b ≡ false → Puts (string_text s) k m o e → Puts (string_text s) k l o e
unfolding string_text quotes
whole-over {s = s} {k} {l} {m} {o} p z f =
    let g = p.some z in
    let n = g.0 in
    let few : length (take n (0x22 ∷ s)) ≤ length (0x22 ∷ (escapes s ++ (0x22 ∷ []))) = omega (arith, length-take-le n (0x22 ∷ s) (omega (arith, g.1)), escapes-few s, g.1, length-append (escapes s) (0x22 ∷ [])) in
    record { ends = f.ends; stands = λ y. f.stands y ∙ ap (λ (u : List ℕ). sets u k (0x22 ∷ (escapes s ++ (0x22 ∷ [])))) g.2 ∙ over l k (take n (0x22 ∷ s)) (0x22 ∷ (escapes s ++ (0x22 ∷ []))) few }
