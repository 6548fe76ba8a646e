-- What stands so far of a value that has parts, and the value closed above them. Assumes nothing.
use mathlib.Core.Path.{◌≡◌, refl, sym, ap, subst, ◌∙◌}
use mathlib.Core.List.{List, [], ◌∷◌, ◌++◌, append-nil, append_assoc}
use mathlib.Core.Bool.{Bool, true, false, ◌&&◌}
use Prim.Native.Nat.{ℕ, suc, ◌+◌, ◌*◌, ◌^◌, ◌<◌, ◌≤◌}
use native.Mathlib.Nat.{add-zero, pow-suc}
use native.Mathlib.Numerals.{add-one}
use native.Mathlib.Omega.{arith}
use borrow.Author.Tests.{ltb-true}
use lib.Bits.{bit_or, or_shifted_r}
use lib.Count.{ones, ones_cat, ones_step}
use lib.Dec.{ltb}
use lib.ListN.{length, length-append}
use lib.Seq.{sets}
use Rattle.jer.specs.declared.Limit.TheVariants.{LentRoom}
use Rattle.jer.specs.declared.Refusal.{Refusal}
use Rattle.jer.specs.declared.Refusal.TheVariants.{Amounts}
use Rattle.jer.specs.Table.{Table, kind_of, element_of, type_at}
use Rattle.jer.proofs.Forms.{kind_tag}
use Rattle.jer.specs.Value.{Val, v_seq, v_list, v_choice, Vals, vnil, vcons, Parts, pnil, absent, present, count_vals, count_present}
use Rattle.jer.specs.Answer.{Res, ok, no}
use Rattle.jer.specs.Rows.{ValueRow, row, absent_row, numbers, above, rows_of, item_rows, part_rows, pool_of, item_pool, part_pool}
use Rattle.jer.proofs.WeightMeasure.{rows-length}
use Rattle.slices.proofs.PartLaws.{sets_append}
use Rattle.places.specs.ByPlaces.{Got, got, within, with_bit}
use Rattle.std.specs.Prelude.{Ok, Err}
use Rattle.leaf.specs.declared.Taken.{Taken}
use Rattle.leaf.specs.Step.{Step, taken, step_of, RowsStored, PoolStored, Stepped}
use Rattle.leaf.proofs.StoreLaws.{rows-after, own_row}
use Rattle.typed.specs.Cycle.{Reads, bounded}

-- ---- a value that was read

pub record Took (t : Table) (r : ℕ) (x : Res (Got Val)) (y a b : ℕ) : Type 0 where
  pub g : Got Val
  pub is : x ≡ ok g
  pub next : g.next ≡ y
  pub many : length (rows_of g.value t r 0) ≡ a
  pub long : length (pool_of g.value) ≡ b

pub took : (t : Table) (r : ℕ) (x : Res (Got Val)) (y : Taken) → Ok y ≡ step_of t r x → Took t r x y.next y.rows y.pool
took t r (ok g) y h =
    let e : taken g.next (length (rows_of g.value t r 0)) (length (pool_of g.value)) ≡ y = cc in
    record { g = g; is = refl; next = ap (λ (z : Taken). z.next) e; many = ap (λ (z : Taken). z.rows) e; long = ap (λ (z : Taken). z.pool) e }
took t r (no e) y h = absurd (let z : ◌≡◌ {A = ℕ} 0 1 = cc in omega arith)

pub not-took : (t : Table) (r : ℕ) (x : Res (Got Val)) (e : Refusal) → Err e ≡ step_of t r x → x ≡ no e
not-took t r (ok g) e h = absurd (let z : ◌≡◌ {A = ℕ} 0 1 = cc in omega arith)
not-took t r (no f) e h = let w : f ≡ e = cc in rw w

rows-any : (v : Val) (t : Table) (r u : ℕ) → length (rows_of v t r u) ≡ length (rows_of v t r 0)
rows-any v t r u = rows-length v t r u ∙ sym (rows-length v t r 0)

-- ---- rows and bytes of the parts

-- n rows ws and m bytes ps of the first k parts stand after the row i, and in the pool from o on
pub record Sofar (ws : ℕ → List ValueRow) (ps : List ℕ) (i o n m k : ℕ) (rows₁ rows₀ pool₁ pool₀ : List ℕ) : Type 0 where
  pub many : (u : ℕ) → length (ws u) ≡ n
  pub long : length ps ≡ m
  pub rows : o + m < 2 ^ 32 → rows₁ ≡ sets rows₀ ((i + 1) * 4) (numbers (ws o))
  pub pool : o + m < 2 ^ 32 → pool₁ ≡ sets pool₀ o ps
  pub kept_rows : length rows₁ ≡ length rows₀
  pub kept_pool : length pool₁ ≡ length pool₀
  pub few_rows : n ≤ k * 4294967296
  pub few_bytes : m ≤ k * 4294967296

abbrev pub no_rows : ℕ → List ValueRow
no_rows u = []

pub sofar-start : (i o : ℕ) (rows pool : List ℕ) → Sofar no_rows [] i o 0 0 0 rows rows pool pool
unfolding numbers
sofar-start i o rows pool = record { many = λ u. refl; long = refl; rows = λ l. refl; pool = λ l. refl; kept_rows = refl; kept_pool = refl; few_rows = omega arith; few_bytes = omega arith }

module _ {ws : ℕ → List ValueRow} {ps : List ℕ} {i o n m k : ℕ} {rows₁ rows₀ pool₁ pool₀ : List ℕ} (f : Sofar ws ps i o n m k rows₁ rows₀ pool₁ pool₀) where
  -- one that is absent
  pub sofar-gap : {rows₂ : List ℕ} → rows₂ ≡ sets rows₁ ((i + 1 + n) * 4) (15 ∷ 0 ∷ 0 ∷ 1 ∷ []) → length rows₂ ≡ length rows₁
      → Sofar (λ u. ws u ++ (absent_row ∷ [])) ps i o (n + 1) m (k + 1) rows₂ rows₀ pool₁ pool₀
  unfolding numbers
  sofar-gap e h = record {
    many = λ u. length-append (ws u) (absent_row ∷ []) ∙ omega (arith, f.many u);
    long = f.long;
    rows = λ l. rows-after rows₀ (i + 1) (ws o) (absent_row ∷ []) (f.rows l) (omega (arith, f.many o)) e;
    pool = f.pool;
    kept_rows = h ∙ f.kept_rows;
    kept_pool = f.kept_pool;
    few_rows = omega (arith, f.few_rows);
    few_bytes = omega (arith, f.few_bytes);
  }

  -- one that was read
  module _ {z : Step} {rows₂ pool₂ : List ℕ} {t : Table} {r : ℕ} {x : Res (Got Val)} {y a b : ℕ} (w : Took t r x y a b) (st : Stepped z rows₂ rows₁ pool₂ pool₁ (i + 1 + n) (o + m) t r x) where
    rows-stored : o + (m + b) < 2 ^ 32 → rows₂ ≡ sets rows₁ ((i + 1 + n) * 4) (numbers (rows_of w.g.value t r (o + length ps)))
    rows-stored l =
        subst (λ (y : Res (Got Val)). RowsStored rows₂ rows₁ (i + 1 + n) (o + m) t r y) w.is st.rows (omega (arith, w.long))
        ∙ ap (λ (u : ℕ). sets rows₁ ((i + 1 + n) * 4) (numbers (rows_of w.g.value t r (o + u)))) (sym f.long)

    pool-stored : o + (m + b) < 2 ^ 32 → pool₂ ≡ sets pool₁ (o + length ps) (pool_of w.g.value)
    pool-stored l =
        subst (λ (y : Res (Got Val)). PoolStored pool₂ pool₁ (o + m) y) w.is st.pool (omega (arith, w.long))
        ∙ ap (λ (u : ℕ). sets pool₁ (o + u) (pool_of w.g.value)) (sym f.long)

    pub sofar-more : a < 2 ^ 32 → b < 2 ^ 32 → length rows₂ ≡ length rows₁ → length pool₂ ≡ length pool₁
        → Sofar (λ u. ws u ++ rows_of w.g.value t r (u + length ps)) (ps ++ pool_of w.g.value) i o (n + a) (m + b) (k + 1) rows₂ rows₀ pool₂ pool₀
    sofar-more la lb h₁ h₂ = record {
      many = λ u. length-append (ws u) (rows_of w.g.value t r (u + length ps)) ∙ omega (arith, f.many u, rows-any w.g.value t r (u + length ps), w.many);
      long = length-append ps (pool_of w.g.value) ∙ omega (arith, f.long, w.long);
      rows = λ l. rows-after rows₀ (i + 1) (ws o) (rows_of w.g.value t r (o + length ps)) (f.rows (omega arith)) (omega (arith, f.many o)) (rows-stored l);
      pool = λ l. pool-stored l ∙ ap (λ (q : List ℕ). sets q (o + length ps) (pool_of w.g.value)) (f.pool (omega arith)) ∙ sym (sets_append pool₀ o ps (pool_of w.g.value));
      kept_rows = h₁ ∙ f.kept_rows;
      kept_pool = h₂ ∙ f.kept_pool;
      few_rows = omega (arith, f.few_rows);
      few_bytes = omega (arith, f.few_bytes);
    }

-- ---- the parts, as a value with more of them to come

-- k items of a list
pub record Items (t : Table) (e : ℕ) (acc : Vals → Vals) (ws : ℕ → List ValueRow) (ps : List ℕ) (k : ℕ) : Type 0 where
  pub rows : (g : Vals) (u : ℕ) → item_rows (acc g) t e u ≡ ws u ++ item_rows g t e (u + length ps)
  pub pool : (g : Vals) → item_pool (acc g) ≡ ps ++ item_pool g
  pub count : (g : Vals) → count_vals (acc g) ≡ k + count_vals g

pub items-start : (t : Table) (e : ℕ) → Items t e (λ g. g) no_rows [] 0
items-start t e = record { rows = λ g u. ap (λ (z : ℕ). item_rows g t e z) (sym (add-zero u)); pool = λ g. refl; count = λ g. omega arith }

regroup : {A : Type 0} (a b c : List A) → a ++ (b ++ c) ≡ (a ++ b) ++ c
regroup a b c = sym (append_assoc a b c)

pub items_more_lem : {t : Table} {e k : ℕ} {acc : Vals → Vals} {ws : ℕ → List ValueRow} {ps : List ℕ} → Items t e acc ws ps k → (v : Val)
    → Items t e (λ g. acc (vcons v g)) (λ u. ws u ++ rows_of v t e (u + length ps)) (ps ++ pool_of v) (k + 1)
unfolding item_rows item_pool count_vals
items_more_lem {t} {e} {k} {acc} {ws} {ps} f v = record {
  rows = λ g u. f.rows (vcons v g) u ∙ regroup (ws u) (rows_of v t e (u + length ps)) (item_rows g t e (u + length ps + length (pool_of v)))
      ∙ ap (λ (z : ℕ). (ws u ++ rows_of v t e (u + length ps)) ++ item_rows g t e z) (let h = length-append ps (pool_of v) in let w : u + length ps + length (pool_of v) ≡ u + length (ps ++ pool_of v) = omega arith in w);
  pool = λ g. f.pool (vcons v g) ∙ regroup ps (pool_of v) (item_pool g);
  count = λ g. f.count (vcons v g) ∙ omega arith;
}

-- k members of a sequence, c of them present
pub record Members (t : Table) (r k : ℕ) (acc : Parts → Parts) (ws : ℕ → List ValueRow) (ps : List ℕ) (c : ℕ) : Type 0 where
  pub rows : (g : Parts) (u : ℕ) → part_rows (acc g) t r 0 u ≡ ws u ++ part_rows g t r k (u + length ps)
  pub pool : (g : Parts) → part_pool (acc g) ≡ ps ++ part_pool g
  pub count : (g : Parts) → count_present (acc g) ≡ c + count_present g

pub members-start : (t : Table) (r : ℕ) → Members t r 0 (λ g. g) no_rows [] 0
members-start t r = record { rows = λ g u. ap (λ (z : ℕ). part_rows g t r 0 z) (sym (add-zero u)); pool = λ g. refl; count = λ g. omega arith }

module _ {t : Table} {r k c : ℕ} {acc : Parts → Parts} {ws : ℕ → List ValueRow} {ps : List ℕ} (f : Members t r k acc ws ps c) where
  pub members-gap : Members t r (k + 1) (λ g. acc (absent g)) (λ u. ws u ++ (absent_row ∷ [])) ps c
  unfolding part_rows part_pool count_present
  members-gap = record {
    rows = λ g u. f.rows (absent g) u ∙ regroup (ws u) (absent_row ∷ []) (part_rows g t r (suc k) (u + length ps)) ∙ ap (λ (z : ℕ). (ws u ++ (absent_row ∷ [])) ++ part_rows g t r z (u + length ps)) (sym (add-one k));
    pool = λ g. f.pool (absent g);
    count = λ g. f.count (absent g);
  }

  pub members-more : (v : Val) → Members t r (k + 1) (λ g. acc (present v g)) (λ u. ws u ++ rows_of v t (type_at t r k) (u + length ps)) (ps ++ pool_of v) (c + 1)
  unfolding part_rows part_pool count_present
  members-more v = record {
    rows = λ g u. f.rows (present v g) u ∙ regroup (ws u) (rows_of v t (type_at t r k) (u + length ps)) (part_rows g t r (suc k) (u + length ps + length (pool_of v)))
        ∙ ap (λ (z : ℕ). (ws u ++ rows_of v t (type_at t r k) (u + length ps)) ++ part_rows g t r (suc k) z) (let h = length-append ps (pool_of v) in let w : u + length ps + length (pool_of v) ≡ u + length (ps ++ pool_of v) = omega arith in w)
        ∙ ap (λ (z : ℕ). (ws u ++ rows_of v t (type_at t r k) (u + length ps)) ++ part_rows g t r z (u + length (ps ++ pool_of v))) (sym (add-one k));
    pool = λ g. f.pool (present v g) ∙ regroup ps (pool_of v) (part_pool g);
    count = λ g. f.count (present v g) ∙ omega arith;
  }

-- ---- the members present, one bit for each

pub ones-zero : ones 0 ≡ 0
unfolding ones
ones-zero = refl

ones-one : ones 1 ≡ 1
ones-one = ones_step 1 ∙ rw ones-zero

module _ (x k : ℕ) (l : x < 2 ^ k) where
  with_is : with_bit x k ≡ 1 * 2 ^ k + x
  with_is = ap (λ (z : ℕ). bit_or x z) (let w : 2 ^ k ≡ 1 * 2 ^ k = omega arith in w) ∙ or_shifted_r 1 k x l

  pub ones_with : ones (with_bit x k) ≡ ones x + 1
  ones_with = ap ones with_is ∙ ones_cat k 1 x l ∙ omega (arith, ones-one)

  pub with_low : with_bit x k < 2 ^ (k + 1)
  with_low = rw (with_is, add-one k, pow-suc 2 k) (omega arith)

  pub more-low : x < 2 ^ (k + 1)
  more-low = rw (add-one k, pow-suc 2 k) (omega arith)

-- ---- a value closed above its parts

-- n rows and m bytes of the parts of v stand after the row i; its own row is (kind, a, 0, n + 1)
pub record Whole (t : Table) (r : ℕ) (v : Val) (kind a n m i o : ℕ) (rows₁ rows₀ pool₁ pool₀ : List ℕ) : Type 0 where
  pub parts : ℕ → List ValueRow
  pub above : (u : ℕ) → rows_of v t r u ≡ row kind a 0 (suc (length (parts u))) ∷ parts u
  pub many : (u : ℕ) → length (parts u) ≡ n
  pub long : length (pool_of v) ≡ m
  pub rows : o + m < 2 ^ 32 → rows₁ ≡ sets rows₀ ((i + 1) * 4) (numbers (parts o))
  pub pool : o + m < 2 ^ 32 → pool₁ ≡ sets pool₀ o (pool_of v)

module _ {t : Table} {r kind a n m i o k : ℕ} {ws : ℕ → List ValueRow} {ps rows₁ rows₀ pool₁ pool₀ : List ℕ} (f : Sofar ws ps i o n m k rows₁ rows₀ pool₁ pool₀) (h : kind_of t r ≡ kind) where
  pub whole-list : {acc : Vals → Vals} → Items t (element_of t r) acc ws ps k → a ≡ k → Whole t r (v_list (acc vnil)) kind a n m i o rows₁ rows₀ pool₁ pool₀
  unfolding rows_of item_rows pool_of item_pool count_vals above
  whole-list {acc} w e =
      let p : item_pool (acc vnil) ≡ ps = w.pool vnil ∙ append-nil ps in
      record {
        parts = ws;
        above = λ u. let q : item_rows (acc vnil) t (element_of t r) u ≡ ws u = w.rows vnil u ∙ append-nil (ws u) in let c : count_vals (acc vnil) ≡ a = w.count vnil ∙ omega arith in rw (← kind_tag t r, h, c, q);
        many = f.many;
        long = ap length p ∙ f.long;
        rows = f.rows;
        pool = λ l. f.pool l ∙ ap (λ (z : List ℕ). sets pool₀ o z) (sym p);
      }

  pub whole_seq : {acc : Parts → Parts} {c j : ℕ} → Members t r j acc ws ps c → a ≡ c → Whole t r (v_seq (acc pnil)) kind a n m i o rows₁ rows₀ pool₁ pool₀
  unfolding rows_of part_rows pool_of part_pool count_present above
  whole_seq {acc} w e =
      let p : part_pool (acc pnil) ≡ ps = w.pool pnil ∙ append-nil ps in
      record {
        parts = ws;
        above = λ u. let q : part_rows (acc pnil) t r 0 u ≡ ws u = w.rows pnil u ∙ append-nil (ws u) in let c : count_present (acc pnil) ≡ a = w.count pnil ∙ omega arith in rw (← kind_tag t r, h, c, q);
        many = f.many;
        long = ap length p ∙ f.long;
        rows = f.rows;
        pool = λ l. f.pool l ∙ ap (λ (z : List ℕ). sets pool₀ o z) (sym p);
      }

pub whole-choice : {t : Table} {r j kind n m i o y : ℕ} {x : Res (Got Val)} {z : Step} {rows₁ rows₀ pool₁ pool₀ : List ℕ} (w : Took t (type_at t r j) x y n m) → Stepped z rows₁ rows₀ pool₁ pool₀ (i + 1) o t (type_at t r j) x
    → kind_of t r ≡ kind → Whole t r (v_choice j w.g.value) kind j n m i o rows₁ rows₀ pool₁ pool₀
unfolding rows_of pool_of above
whole-choice {t} {r} {j} {i = i} {o = o} {rows₁ = rows₁} {rows₀ = rows₀} {pool₁ = pool₁} {pool₀ = pool₀} w st h = record {
  parts = λ u. rows_of w.g.value t (type_at t r j) u;
  above = λ u. rw (← kind_tag t r, h);
  many = λ u. rows-any w.g.value t (type_at t r j) u ∙ w.many;
  long = w.long;
  rows = λ l. subst (λ (y : Res (Got Val)). RowsStored rows₁ rows₀ (i + 1) o t (type_at t r j) y) w.is st.rows (omega (arith, w.long));
  pool = λ l. subst (λ (y : Res (Got Val)). PoolStored pool₁ pool₀ o y) w.is st.pool (omega (arith, w.long));
}

module _ {t : Table} {r kind a n m i o : ℕ} {v : Val} {rows₁ rows₀ pool₁ pool₀ : List ℕ} (f : Whole t r v kind a n m i o rows₁ rows₀ pool₁ pool₀) where
  whole-many : length (rows_of v t r 0) ≡ n + 1
  whole-many = ap length (f.above 0) ∙ omega (arith, f.many 0)

  whole-rows : {rows₂ : List ℕ} → o + m < 2 ^ 32 → rows₂ ≡ sets rows₁ (i * 4) (kind ∷ a ∷ 0 ∷ (n + 1) ∷ []) → rows₂ ≡ sets rows₀ (i * 4) (numbers (rows_of v t r o))
  whole-rows l e =
      own_row rows₀ i kind a 0 (n + 1) (f.parts o) (f.rows l) e
      ∙ ap (λ (ws : List ValueRow). sets rows₀ (i * 4) (numbers ws)) (ap (λ (u : ℕ). row kind a 0 u ∷ f.parts o) (let w : n + 1 ≡ suc (length (f.parts o)) = omega (arith, f.many o) in w) ∙ sym (f.above o))

  -- its own row is stored after those of its parts
  pub closed : {q b : ℕ} {z : Step} {rows₂ : List ℕ} → q ≤ b → z ≡ bounded (taken q (n + 1) m) → (n + 1 < 2 ^ 32 → rows₂ ≡ sets rows₁ (i * 4) (kind ∷ a ∷ 0 ∷ (n + 1) ∷ [])) → Reads z rows₂ rows₀ pool₁ pool₀ i o b t r (within t r (got v q))
  unfolding within bounded
  closed {q} {b} {z} {rows₂} l e s = rw (e, whole-many, f.long, within, bounded) (go (ltb (n + 1) (2 ^ 32)) (ltb m (2 ^ 32)) refl refl)
    where
      go : (x y : Bool) → ltb (n + 1) (2 ^ 32) ≡ x → ltb m (2 ^ 32) ≡ y
          → Reads (elim (x && y) as (λ c. Step) [ true ↦ Ok (taken q (n + 1) m) | false ↦ Err (Amounts LentRoom (2 ^ 32) (2 ^ 32)) ]) rows₂ rows₀ pool₁ pool₀ i o b t r (elim (x && y) as (λ c. Res (Got Val)) [ true ↦ ok (got v q) | false ↦ no (Amounts LentRoom (2 ^ 32) (2 ^ 32)) ])
      go true true e₁ e₂ = record {
        stepped = record { answer = rw (whole-many, f.long); rows = λ h. whole-rows (omega (arith, f.long)) (s (ltb-true (n + 1) (2 ^ 32) e₁)); pool = λ h. f.pool (omega (arith, f.long)) };
        small = (l, ltb-true (n + 1) (2 ^ 32) e₁, ltb-true m (2 ^ 32) e₂);
      }
      go true false e₁ e₂ = record { stepped = record { answer = refl; rows = tt; pool = tt }; small = tt }
      go false y e₁ e₂ = record { stepped = record { answer = refl; rows = tt; pool = tt }; small = tt }

-- ---- along equations

module _ {z : Step} {rows₁ rows₀ pool₁ pool₀ : List ℕ} {i o b : ℕ} {t : Table} {r : ℕ} {x y : Res (Got Val)} where
  pub along : x ≡ y → Reads z rows₁ rows₀ pool₁ pool₀ i o b t r x → Reads z rows₁ rows₀ pool₁ pool₀ i o b t r y
  along e h = subst (λ (w : Res (Got Val)). Reads z rows₁ rows₀ pool₁ pool₀ i o b t r w) e h

-- a refusal stores nothing that is promised
pub reads-no : {z : Step} {e : Refusal} {rows₁ rows₀ pool₁ pool₀ : List ℕ} {i o b : ℕ} {t : Table} {r : ℕ} {y : Res (Got Val)} → z ≡ Err e → no e ≡ y → Reads z rows₁ rows₀ pool₁ pool₀ i o b t r y
reads-no h e = rw h (along e record { stepped = record { answer = refl; rows = tt; pool = tt }; small = tt })
