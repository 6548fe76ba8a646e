-- The whole value table: those that are judged good are the tables of the well-formed values, one for each.
use Prim.Native.Nat.{ℕ, zero, suc, ◌+◌, ◌*◌}
use mathlib.Core.Path.{◌≡◌, refl, sym, ap, ◌∙◌}
use mathlib.Core.List.{List, [], ◌∷◌, ◌++◌, append-nil}
use mathlib.Core.Bool.{Bool, true, false, ◌&&◌}
use native.Mathlib.Omega.{arith}
use lib.Dec.{eqb}
use lib.ListN.{length, length-append}
use lib.Seq.{take-length}
use borrow.Author.Tests.{eqb-true, eq-eqb}
use Rattle.jer.specs.declared.Refusal.TheVariants.{AtRow}
use Rattle.jer.specs.declared.Which.TheVariants.{ValueTable}
use Rattle.jer.specs.Table.{Table}
use Rattle.jer.specs.Value.{Val}
use Rattle.jer.specs.Answer.{Res, ok, no}
use Rattle.jer.specs.Rows.{ValueRow, numbers, pool_of, rows_of}
use Rattle.jer.specs.Judge.{Took, took, wrong, take_value, rows_in, all_taken, judge}
use Rattle.jer.specs.Fits.{Octets, Words, word, Fits}
use Rattle.jer.specs.Means.{TableOf}
use Rattle.jer.specs.Sane.{Sane}
use Rattle.jer.proofs.ValidRows.{both}
use Rattle.jer.proofs.JudgeRows.{takes_rows}
use Rattle.jer.proofs.JudgeSpent.{After, WordRows, no_row, word_row}
use Rattle.jer.proofs.JudgeFits.{Taken, value_sound}

-- ---- the table of a value

rows_in_lem : (ws : List ValueRow) → rows_in (numbers ws) ≡ ws
unfolding rows_in numbers
rows_in_lem [] = refl
rows_in_lem (w ∷ ws) = ap (λ (x : List ValueRow). w ∷ x) (rows_in_lem ws)

numbers-length : (ws : List ValueRow) → length (numbers ws) ≡ length ws * 4
unfolding numbers
numbers-length [] = refl
numbers-length (w ∷ ws) = omega (arith, numbers-length ws)

-- the rows and the pool of a well-formed value are a table of it
pub judged-rows : (t : Table) → Sane t → {v : Val} → Fits t 32 0 v → judge t (numbers (rows_of v t 0 0)) (pool_of v) ≡ ok v
unfolding judge all_taken
judged-rows t g {v} f =
    let ws = rows_of v t 0 0 in
    let e = rw append-nil at (takes_rows t g (pool_of v) f [] 0 0 record { inside = omega arith; same = take-length (pool_of v) }) in
    let n = numbers-length ws in
    rw (rows_in_lem ws, e, all_taken) (rw (eq-eqb (length (numbers ws)) ((0 + length ws) * 4) (omega arith), eq-eqb (length (pool_of v)) (0 + length (pool_of v)) (omega arith)))

-- ---- a table that is judged good

word_rows : (ns : List ℕ) → Words ns → WordRows (rows_in ns)
unfolding rows_in
word_rows [] h = no_row
word_rows (k ∷ []) h = no_row
word_rows (k ∷ a ∷ []) h = no_row
word_rows (k ∷ a ∷ b ∷ []) h = no_row
word_rows (k ∷ a ∷ b ∷ n ∷ ns) (word x (word y (word z (word u h)))) = word_row y z (word_rows ns h)

-- a list of 4 n numbers is n rows and no more
rows_whole : (ns : List ℕ) (n : ℕ) → length ns ≡ n * 4 → (numbers (rows_in ns) ≡ ns) × (length (rows_in ns) ≡ n)
unfolding rows_in numbers
rows_whole [] n e = (refl, omega arith)
rows_whole (k ∷ []) n e = absurd (omega arith)
rows_whole (k ∷ a ∷ []) n e = absurd (omega arith)
rows_whole (k ∷ a ∷ b ∷ []) n e = absurd (omega arith)
rows_whole (k ∷ a ∷ b ∷ z ∷ ns) zero e = absurd (omega arith)
rows_whole (k ∷ a ∷ b ∷ z ∷ ns) (suc n) e = let h = rows_whole ns n (omega arith) in (ap (λ (x : List ℕ). k ∷ a ∷ b ∷ z ∷ x) h.0, ap suc h.1)

none_left : {A : Type 0} (xs ys zs : List A) → xs ≡ ys ++ zs → length xs ≡ length ys → xs ≡ ys
none_left xs ys [] e n = e ∙ append-nil ys
none_left xs ys (z ∷ zs) e n = absurd (omega (arith, ap length e, length-append ys (z ∷ zs)))

-- what is judged good is the table of a well-formed value, and nothing else
pub judge-fits : (t : Table) (ns pool : List ℕ) (v : Val) → Words ns → Octets pool → judge t ns pool ≡ ok v → TableOf t v ns pool
unfolding judge all_taken
judge-fits t ns pool v ws os e = go (take_value 32 t pool 0 (rows_in ns) 0 0) (value_sound t pool os 32 0 (rows_in ns) 0 0 record { words = word_rows ns ws; within = omega arith }) e
  where
    whole : (u : Val) (us : List ValueRow) (q o : ℕ) → Taken t pool os 32 0 (rows_in ns) 0 0 u us q o → length ns ≡ q * 4 → length pool ≡ o → TableOf t u ns pool
    whole u us q o h x y =
        let s = h.spent in
        let n = rows_whole ns q x in
        let r = none_left (rows_in ns) (rows_of u t 0 0) us s.rows (omega arith) in
        let z : length (pool_of u) ≡ length pool = omega arith in
        record { fits = h.fits; rows = sym n.0 ∙ ap numbers r; bytes = sym (take-length pool) ∙ rw z at s.stands.same }

    go : (x : Took Val) → After (Taken t pool os 32 0 (rows_in ns) 0 0) x → all_taken (length ns) (length pool) x ≡ ok v → TableOf t v ns pool
    go (wrong q) h w = absurd (let z : ◌≡◌ {A = ℕ} 0 1 = cc in omega arith)
    go (took u us q o) h w = good (eqb (length ns) (q * 4) && eqb (length pool) o) refl w
      where
        good : (c : Bool) → (eqb (length ns) (q * 4) && eqb (length pool) o) ≡ c → ◌≡◌ {A = Res Val} (elim c [ true ↦ ok u | false ↦ no (AtRow ValueTable q) ]) (ok v) → TableOf t v ns pool
        good true c w = let p = simp both at c in let y : u ≡ v = cc in rw y at (whole u us q o h (eqb-true _ _ p.0) (eqb-true _ _ p.1))
        good false c w = absurd (let z : ◌≡◌ {A = ℕ} 0 1 = cc in omega arith)
