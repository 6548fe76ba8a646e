-- Runs of stores, and what a reading stores, by what its parts store. Assumes nothing.
use mathlib.Core.Path.{◌≡◌, refl, sym, ap, subst, ◌∙◌}
use mathlib.Core.List.{List, [], ◌∷◌, ◌++◌}
use Prim.Native.Nat.{ℕ, suc, ◌+◌, ◌*◌, ◌<◌}
use native.Mathlib.Omega.{arith}
use lib.ListN.{length, set}
use lib.Seq.{sets, set_comm}
use Rattle.jer.specs.Table.{Table}
use Rattle.jer.specs.Value.{Val}
use Rattle.jer.specs.Answer.{Res, ok, no}
use Rattle.jer.specs.Rows.{ValueRow, row, numbers}
use Rattle.jer.specs.declared.Refusal.{Refusal}
use Rattle.slices.proofs.PartLaws.{sets_append}
use Rattle.places.specs.ByPlaces.{Got, got}
use Rattle.std.specs.Prelude.{Err}
use Rattle.leaf.specs.Step.{Step, step_of, RowsStored, PoolStored, Stepped}

-- ---- runs of stores

-- a store below a run
set-sets : (l : List ℕ) (i j v : ℕ) (vs : List ℕ) → i < j → set (sets l j vs) i v ≡ sets (set l i v) j vs
set-sets l i j v [] h = refl
set-sets l i j v (x ∷ vs) h = set-sets (set l j x) i (suc j) v vs (omega arith) ∙ ap (λ (m : List ℕ). sets m (suc j) vs) (set_comm l j i x v (λ e. omega arith))

-- a run below a run
sets-sets : (l : List ℕ) (i j : ℕ) (us vs : List ℕ) → i + length us < j + 1 → sets (sets l j vs) i us ≡ sets (sets l i us) j vs
sets-sets l i j [] vs h = refl
sets-sets l i j (u ∷ us) vs h = ap (λ (m : List ℕ). sets m (suc i) us) (set-sets l i j u vs (omega arith)) ∙ sets-sets (set l i u) (suc i) j us vs (omega arith)

pub numbers-length : (ws : List ValueRow) → length (numbers ws) ≡ length ws * 4
unfolding numbers
numbers-length [] = refl
numbers-length (w ∷ ws) = omega (arith, numbers-length ws)

pub numbers_append : (ws us : List ValueRow) → numbers (ws ++ us) ≡ numbers ws ++ numbers us
unfolding numbers
numbers_append [] us = refl
numbers_append (w ∷ ws) us = ap (λ (l : List ℕ). w.kind ∷ w.a ∷ w.b ∷ w.size ∷ l) (numbers_append ws us)

-- rows after rows
pub rows-after : (l : List ℕ) (i : ℕ) (ws us : List ValueRow) {l₁ l₂ : List ℕ} {j : ℕ} → l₁ ≡ sets l (i * 4) (numbers ws) → j ≡ i + length ws → l₂ ≡ sets l₁ (j * 4) (numbers us)
    → l₂ ≡ sets l (i * 4) (numbers (ws ++ us))
rows-after l i ws us {j = j} e f g =
    let n : j * 4 ≡ i * 4 + length (numbers ws) = omega (arith, numbers-length ws) in
    g ∙ rw (e, n, numbers_append) (sym (sets_append l (i * 4) (numbers ws) (numbers us)))

-- a row that is stored after those that follow it
pub own_row : (l : List ℕ) (i k a b n : ℕ) (ws : List ValueRow) {l₁ l₂ : List ℕ} → l₁ ≡ sets l ((i + 1) * 4) (numbers ws) → l₂ ≡ sets l₁ (i * 4) (k ∷ a ∷ b ∷ n ∷ [])
    → l₂ ≡ sets l (i * 4) (numbers (row k a b n ∷ ws))
unfolding numbers
own_row l i k a b n ws e f =
    let m : (i + 1) * 4 ≡ i * 4 + 4 = omega arith in
    f ∙ rw (e, m) (sets-sets l (i * 4) (i * 4 + 4) (k ∷ a ∷ b ∷ n ∷ []) (numbers ws) (omega arith) ∙ sym (sets_append l (i * 4) (k ∷ a ∷ b ∷ n ∷ []) (numbers ws)))

-- ---- readings

module _ {rows₁ rows₀ pool₁ pool₀ : List ℕ} {i o : ℕ} {t : Table} {r : ℕ} {z : Step} {x : Res (Got Val)} where
  -- along an equation
  pub stepped : {y : Res (Got Val)} → x ≡ y → Stepped z rows₁ rows₀ pool₁ pool₀ i o t r y → Stepped z rows₁ rows₀ pool₁ pool₀ i o t r x
  stepped h f = subst (λ (y : Res (Got Val)). Stepped z rows₁ rows₀ pool₁ pool₀ i o t r y) (sym h) f

  pub refuses : {e : Refusal} → x ≡ no e → z ≡ Err e → Stepped z rows₁ rows₀ pool₁ pool₀ i o t r x
  refuses h a = stepped h (record { answer = a; rows = tt; pool = tt })

  pub reads : (v : Val) {q : ℕ} → x ≡ ok (got v q) → z ≡ step_of t r (ok (got v q)) → RowsStored rows₁ rows₀ i o t r (ok (got v q)) → PoolStored pool₁ pool₀ o (ok (got v q))
      → Stepped z rows₁ rows₀ pool₁ pool₀ i o t r x
  reads v h a f g = stepped h (record { answer = a; rows = f; pool = g })
