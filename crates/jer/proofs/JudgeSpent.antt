-- What is taken of a value table: which rows and which bytes of the pool.
use Prim.Native.Nat.{ℕ, suc, ◌+◌, ◌^◌, ◌≤◌, ◌<◌}
use mathlib.Core.Path.{◌≡◌, refl, sym, ap, ◌∙◌}
use mathlib.Core.List.{List, [], ◌∷◌, ◌++◌, append_assoc}
use mathlib.Core.Bool.{Bool, true, false}
use native.Mathlib.Omega.{arith}
use lib.ListN.{length, length-append}
use Rattle.jer.specs.Rows.{ValueRow}
use Rattle.jer.specs.Judge.{Took, took, wrong, and_then}
use Rattle.jer.proofs.JudgeTakes.{Stands, stands-both}

-- ---- facts of what was taken

-- P of what was taken, if anything was
abbrev pub After : {A : Type 0} → (A → List ValueRow → ℕ → ℕ → Type 0) → Took A → Type 0
After P (took a ws q o) = P a ws q o
After P (wrong q) = Unit {0}

pub after_then : {A B : Type 0} (P : A → List ValueRow → ℕ → ℕ → Type 0) (Q : B → List ValueRow → ℕ → ℕ → Type 0) (x : Took A) (f : A → List ValueRow → ℕ → ℕ → Took B)
    → After P x → ((a : A) (ws : List ValueRow) (q o : ℕ) → P a ws q o → After Q (f a ws q o)) → After Q (and_then x f)
unfolding and_then
after_then P Q (took a ws q o) f h k = k a ws q o h
after_then P Q (wrong q) f h k = tt

pub after_if : {A : Type 0} (P : A → List ValueRow → ℕ → ℕ → Type 0) (c : Bool) (x : Took A) (q : ℕ) → (c ≡ true → After P x) → After P (elim c [ true ↦ x | false ↦ wrong q ])
after_if P true x q h = h refl
after_if P false x q h = tt

-- ---- rows of 32-bit numbers

pub data WordRows : List ValueRow → Type 0 where
  no_row : WordRows []
  word_row : {w : ValueRow} {ws : List ValueRow} → w.a < 2 ^ 32 → w.b < 2 ^ 32 → WordRows ws → WordRows (w ∷ ws)

-- ---- rows and bytes

-- the rows that are left, with the pool used up to o
pub record Left (pool : List ℕ) (ws : List ValueRow) (o : ℕ) : Type 0 where
  pub words : WordRows ws
  pub within : o ≤ length pool

-- of the rows ws, from the number q on, the rows rs were taken, and the bytes bs of the pool, which is used up to o before them; the rest is ws' q' o'
pub record Spent (pool : List ℕ) (ws : List ValueRow) (q o : ℕ) (rs : List ValueRow) (bs : List ℕ) (ws' : List ValueRow) (q' o' : ℕ) : Type 0 where
  pub rows : ws ≡ rs ++ ws'
  pub next : q' ≡ q + length rs
  pub used : o' ≡ o + length bs
  pub stands : Stands pool o bs
  pub left : Left pool ws' o'

module _ {pool : List ℕ} where
  pub spent-none : {ws : List ValueRow} {q o : ℕ} → Left pool ws o → Spent pool ws q o [] [] ws q o
  spent-none l = record { rows = refl; next = omega arith; used = omega arith; stands = record { inside = omega arith; same = refl }; left = l }

  -- a row, and what follows it
  pub spent-row : {w x : ValueRow} {ws rs ws' : List ValueRow} {bs : List ℕ} {q o q' o' : ℕ} → w ≡ x → Spent pool ws (suc q) o rs bs ws' q' o' → Spent pool (w ∷ ws) q o (x ∷ rs) bs ws' q' o'
  spent-row e s = record { rows = cc; next = omega arith; used = s.used; stands = s.stands; left = s.left }

  -- the rows rs, and those that f gives from where the pool has got to
  pub spent_append : {ws rs us ws' : List ValueRow} {bs cs : List ℕ} {q o p u q' o' : ℕ} (f : ℕ → List ValueRow) → Spent pool ws q o rs bs us p u → Spent pool us p u (f u) cs ws' q' o'
      → Spent pool ws q o (rs ++ f (o + length bs)) (bs ++ cs) ws' q' o'
  spent_append {rs = rs} {ws' = ws'} {bs = bs} {cs = cs} {o = o} {u = u} f s k =
      let n = length-append rs (f u) in
      let m = length-append bs cs in
      rw (← s.used) record {
        rows = s.rows ∙ ap (λ (x : List ValueRow). rs ++ x) k.rows ∙ sym (append_assoc rs (f u) ws');
        next = omega arith;
        used = omega arith;
        stands = stands-both pool o bs cs s.stands (rw s.used at k.stands);
        left = k.left;
      }
