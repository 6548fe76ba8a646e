-- Runs of parts: what stands in the rows and the pool after some parts of a value, and after its own row. For the readings above. Assumes nothing.
use mathlib.Core.Path.{◌≡◌, refl, sym, ap, ◌∙◌}
use mathlib.Core.List.{List, [], ◌∷◌, ◌++◌, append_assoc, append-nil}
use mathlib.Core.Bool.{Bool, true, false, ◌&&◌}
use Prim.Native.Nat.{ℕ, suc, ◌+◌, ◌*◌, ◌^◌, ◌<◌, ◌≤◌}
use native.Mathlib.Nat.{add-zero}
use native.Mathlib.Omega.{arith}
use borrow.Author.Tests.{lt-ltb, le-ltb}
use lib.Dec.{ltb}
use lib.ListN.{length, length-append}
use lib.Seq.{sets}
use Rattle.jer.proofs.Forms.{kind_tag}
use Rattle.jer.specs.Table.{Table, kind_of, element_of, type_at}
use Rattle.jer.specs.Value.{Val, v_seq, v_list, v_choice, Vals, vnil, vcons, Parts, pnil, absent, present, count_vals, count_present}
use Rattle.jer.specs.Answer.{Res, ok, no, bind}
use Rattle.jer.specs.declared.Limit.TheVariants.{LentRoom}
use Rattle.jer.specs.declared.Refusal.{Refusal}
use Rattle.jer.specs.declared.Refusal.TheVariants.{Amounts}
use Rattle.jer.specs.Rows.{ValueRow, row, absent_row, numbers, above, rows_of, item_rows, part_rows, pool_of, item_pool, part_pool}
use Rattle.jer.proofs.WeightMeasure.{rows-length}
use Rattle.slices.proofs.PartLaws.{sets_append}
use Rattle.places.specs.ByPlaces.{Got, got, within}
use Rattle.std.specs.Prelude.{Ok, Err}
use Rattle.leaf.specs.declared.Taken.{Taken}
use Rattle.leaf.specs.Step.{taken, step_of, Stepped}
use Rattle.leaf.proofs.StoreLaws.{rows-after, own_row}

-- ---- any parts

-- the parts have n rows, ws by the place of their strings in the pool, and the m bytes bs: they stand from row i and from the pool's byte o on
pub record Run (rows₁ rows₀ pool₁ pool₀ : List ℕ) (i o : ℕ) (ws : ℕ → List ValueRow) (bs : List ℕ) (n m : ℕ) : Type 0 where
  pub size : (u : ℕ) → length (ws u) ≡ n
  pub bytes : length bs ≡ m
  pub rows : o + m < 2 ^ 32 → rows₁ ≡ sets rows₀ (i * 4) (numbers (ws o))
  pub pool : o + m < 2 ^ 32 → pool₁ ≡ sets pool₀ o bs

pub run_none : {rows pool : List ℕ} {i o : ℕ} → Run rows rows pool pool i o (λ u. []) [] 0 0
unfolding numbers
run_none = record { size = λ u. refl; bytes = refl; rows = λ f. refl; pool = λ f. refl }

module _ {rows₁ rows₀ pool₁ pool₀ : List ℕ} {i o : ℕ} {ws : ℕ → List ValueRow} {bs : List ℕ} {n m : ℕ} (f : Run rows₁ rows₀ pool₁ pool₀ i o ws bs n m) where
  -- the same rows and bytes
  pub run-same : {us : ℕ → List ValueRow} {ds : List ℕ} → ((u : ℕ) → ws u ≡ us u) → bs ≡ ds → Run rows₁ rows₀ pool₁ pool₀ i o us ds n m
  run-same h e = record {
    size = λ u. sym (ap length (h u)) ∙ f.size u;
    bytes = sym (ap length e) ∙ f.bytes;
    rows = λ l. f.rows l ∙ ap (λ (x : List ValueRow). sets rows₀ (i * 4) (numbers x)) (h o);
    pool = λ l. f.pool l ∙ ap (λ (x : List ℕ). sets pool₀ o x) e;
  }

  -- one more value
  pub run_more : {rows₂ pool₂ : List ℕ} {t : Table} {r q j k : ℕ} (v : Val) → Stepped (Ok (taken q j k)) rows₂ rows₁ pool₂ pool₁ (i + n) (o + m) t r (ok (got v q))
      → Run rows₂ rows₀ pool₂ pool₀ i o (λ u. ws u ++ rows_of v t r (u + m)) (bs ++ pool_of v) (n + j) (m + k)
  run_more {t = t} {r = r} {q = q} {j = j} {k = k} v g =
      let y : taken q j k ≡ taken q (length (rows_of v t r 0)) (length (pool_of v)) = cc g.answer in
      let a : j ≡ length (rows_of v t r 0) = ap (λ (z : Taken). z.rows) y in
      let b : k ≡ length (pool_of v) = ap (λ (z : Taken). z.pool) y in
      record {
        size = λ u. length-append (ws u) (rows_of v t r (u + m)) ∙ omega (arith, f.size u, rows-length v t r (u + m), rows-length v t r 0);
        bytes = length-append bs (pool_of v) ∙ omega (arith, f.bytes);
        rows = λ l. rows-after rows₀ i (ws o) (rows_of v t r (o + m)) (f.rows (omega arith)) (omega (arith, f.size o)) (g.rows (omega arith));
        pool = λ l. g.pool (omega arith) ∙ ap (λ (x : List ℕ). sets x (o + m) (pool_of v)) (f.pool (omega arith)) ∙ ap (λ (x : ℕ). sets (sets pool₀ o bs) (o + x) (pool_of v)) (sym f.bytes) ∙ sym (sets_append pool₀ o bs (pool_of v));
      }

  -- one more row, without bytes
  pub run_row : {rows₂ : List ℕ} (k a b c : ℕ) → rows₂ ≡ sets rows₁ ((i + n) * 4) (k ∷ a ∷ b ∷ c ∷ []) → Run rows₂ rows₀ pool₁ pool₀ i o (λ u. ws u ++ (row k a b c ∷ [])) bs (n + 1) m
  unfolding numbers
  run_row k a b c g = record {
    size = λ u. length-append (ws u) (row k a b c ∷ []) ∙ omega (arith, f.size u);
    bytes = f.bytes;
    rows = λ l. rows-after rows₀ i (ws o) (row k a b c ∷ []) (f.rows l) (omega (arith, f.size o)) g;
    pool = f.pool;
  }

-- the value's own row above its parts
pub run-above : {rows₂ rows₁ rows₀ pool₁ pool₀ : List ℕ} {i o : ℕ} {ws : ℕ → List ValueRow} {bs : List ℕ} {n m : ℕ} → Run rows₁ rows₀ pool₁ pool₀ (i + 1) o ws bs n m
    → {t : Table} {r q : ℕ} (k a : ℕ) (v : Val) → ((u : ℕ) → rows_of v t r u ≡ above k a (ws u)) → pool_of v ≡ bs → rows₂ ≡ sets rows₁ (i * 4) (k ∷ a ∷ 0 ∷ (n + 1) ∷ [])
    → Stepped (Ok (taken q (n + 1) m)) rows₂ rows₀ pool₁ pool₀ i o t r (ok (got v q))
unfolding above
run-above {rows₀ = rows₀} {i = i} {o = o} {ws = ws} {n = n} f {t = t} {r = r} k a v h e s =
    let c : n + 1 ≡ suc (length (ws 0)) = omega (arith, f.size 0) in
    let d : n + 1 ≡ suc (length (ws o)) = omega (arith, f.size o) in
    record {
      answer = rw (h 0, e, f.bytes, c);
      rows = λ l. rw (h o) (own_row rows₀ i k a 0 (suc (length (ws o))) (ws o) (f.rows (rw (e, f.bytes) at l)) (rw d at s));
      pool = λ l. rw e (f.pool (rw (e, f.bytes) at l));
    }

-- ---- items

unfoldable pub joined : Vals → Vals → Vals
joined vnil vs = vs
joined (vcons u us) vs = vcons u (joined us vs)

pub joined-none : (us : Vals) → joined us vnil ≡ us
unfolding joined
joined-none vnil = refl
joined-none (vcons u us) = ap (vcons u) (joined-none us)

pub joined-item : (us : Vals) (v : Val) (vs : Vals) → joined (joined us (vcons v vnil)) vs ≡ joined us (vcons v vs)
unfolding joined
joined-item vnil v vs = refl
joined-item (vcons u us) v vs = ap (vcons u) (joined-item us v vs)

module _ (v : Val) where
  pub item_count_lem : (us : Vals) → count_vals (joined us (vcons v vnil)) ≡ count_vals us + 1
  unfolding joined count_vals
  item_count_lem vnil = refl
  item_count_lem (vcons u us) = omega (arith, item_count_lem us)

  item-pool : (us : Vals) → item_pool us ++ pool_of v ≡ item_pool (joined us (vcons v vnil))
  unfolding joined pool_of
  item-pool vnil = sym (append-nil (pool_of v))
  item-pool (vcons u us) = append_assoc (pool_of u) (item_pool us) (pool_of v) ∙ ap (λ (x : List ℕ). pool_of u ++ x) (item-pool us)

  item-rows : (us : Vals) (t : Table) (r o : ℕ) → item_rows us t r o ++ rows_of v t r (o + length (item_pool us)) ≡ item_rows (joined us (vcons v vnil)) t r o
  unfolding joined rows_of pool_of
  item-rows vnil t r o = rw (add-zero o) (sym (append-nil (rows_of v t r o)))
  item-rows (vcons u us) t r o =
      let e : o + length (pool_of u ++ item_pool us) ≡ o + length (pool_of u) + length (item_pool us) = omega (arith, length-append (pool_of u) (item_pool us)) in
      append_assoc (rows_of u t r o) (item_rows us t r (o + length (pool_of u))) (rows_of v t r (o + length (pool_of u ++ item_pool us)))
      ∙ rw e (ap (λ (x : List ValueRow). rows_of u t r o ++ x) (item-rows us t r (o + length (pool_of u))))

-- the items us of a SEQUENCE OF, of the type at r
abbrev pub Items : List ℕ → List ℕ → List ℕ → List ℕ → ℕ → ℕ → Table → ℕ → Vals → ℕ → ℕ → Type 0
Items rows₁ rows₀ pool₁ pool₀ i o t r us n m = Run rows₁ rows₀ pool₁ pool₀ i o (λ u. item_rows us t r u) (item_pool us) n m

pub items-none : {rows pool : List ℕ} {i o : ℕ} (t : Table) (r : ℕ) → Items rows rows pool pool i o t r vnil 0 0
unfolding rows_of pool_of
items-none t r = run_none

pub items_more_lem : {rows₂ rows₁ rows₀ pool₂ pool₁ pool₀ : List ℕ} {i o q n m j k : ℕ} {t : Table} {r : ℕ} (us : Vals) (v : Val) → Items rows₁ rows₀ pool₁ pool₀ i o t r us n m
    → Stepped (Ok (taken q j k)) rows₂ rows₁ pool₂ pool₁ (i + n) (o + m) t r (ok (got v q)) → Items rows₂ rows₀ pool₂ pool₀ i o t r (joined us (vcons v vnil)) (n + j) (m + k)
items_more_lem {t = t} {r = r} us v f g =
    run-same (run_more f v g) (λ u. ap (λ (x : ℕ). item_rows us t r u ++ rows_of v t r (u + x)) (sym f.bytes) ∙ item-rows v us t r u) (item-pool v us)

pub list-above : {rows₂ rows₁ rows₀ pool₁ pool₀ : List ℕ} {i o q n m c kind : ℕ} {t : Table} {r : ℕ} (us : Vals) → Items rows₁ rows₀ pool₁ pool₀ (i + 1) o t (element_of t r) us n m
    → kind ≡ kind_of t r → c ≡ count_vals us → rows₂ ≡ sets rows₁ (i * 4) (kind ∷ c ∷ 0 ∷ (n + 1) ∷ []) → Stepped (Ok (taken q (n + 1) m)) rows₂ rows₀ pool₁ pool₀ i o t r (ok (got (v_list us) q))
unfolding rows_of pool_of
list-above {t = t} {r = r} us f e d s = run-above f _ _ (v_list us) (λ u. rw (e, kind_tag t r, d)) refl s

-- ---- members

unfoldable pub joined_parts : Parts → Parts → Parts
joined_parts pnil qs = qs
joined_parts (absent ps) qs = absent (joined_parts ps qs)
joined_parts (present v ps) qs = present v (joined_parts ps qs)

-- how many members, present or absent
unfoldable pub count_parts : Parts → ℕ
count_parts pnil = 0
count_parts (absent ps) = suc (count_parts ps)
count_parts (present v ps) = suc (count_parts ps)

pub parts_none : (ps : Parts) → joined_parts ps pnil ≡ ps
unfolding joined_parts
parts_none pnil = refl
parts_none (absent ps) = ap absent (parts_none ps)
parts_none (present v ps) = ap (present v) (parts_none ps)

module _ (one : Parts → Parts) where
  assoc : (ps qs : Parts) → joined_parts (joined_parts ps (one pnil)) qs ≡ joined_parts ps (joined_parts (one pnil) qs)
  unfolding joined_parts
  assoc pnil qs = refl
  assoc (absent ps) qs = ap absent (assoc ps qs)
  assoc (present v ps) qs = ap (present v) (assoc ps qs)

pub count-parts : (ps qs : Parts) → count_parts (joined_parts ps qs) ≡ count_parts ps + count_parts qs
unfolding joined_parts count_parts
count-parts pnil qs = omega arith
count-parts (absent ps) qs = omega (arith, count-parts ps qs)
count-parts (present v ps) qs = omega (arith, count-parts ps qs)

pub count-present : (ps qs : Parts) → count_present (joined_parts ps qs) ≡ count_present ps + count_present qs
unfolding joined_parts count_present
count-present pnil qs = omega arith
count-present (absent ps) qs = count-present ps qs
count-present (present v ps) qs = omega (arith, count-present ps qs)

pub joined-absent : (ps qs : Parts) → joined_parts (joined_parts ps (absent pnil)) qs ≡ joined_parts ps (absent qs)
unfolding joined_parts
joined-absent ps qs = assoc absent ps qs

pub joined-present : (ps : Parts) (v : Val) (qs : Parts) → joined_parts (joined_parts ps (present v pnil)) qs ≡ joined_parts ps (present v qs)
unfolding joined_parts
joined-present ps v qs = assoc (present v) ps qs

module _ (qs : Parts) where
  parts-pool : (ps : Parts) → part_pool ps ++ part_pool qs ≡ part_pool (joined_parts ps qs)
  unfolding joined_parts pool_of
  parts-pool pnil = refl
  parts-pool (absent ps) = parts-pool ps
  parts-pool (present v ps) = append_assoc (pool_of v) (part_pool ps) (part_pool qs) ∙ ap (λ (x : List ℕ). pool_of v ++ x) (parts-pool ps)

  parts-rows : (ps : Parts) (t : Table) (r i o : ℕ) → part_rows ps t r i o ++ part_rows qs t r (i + count_parts ps) (o + length (part_pool ps)) ≡ part_rows (joined_parts ps qs) t r i o
  unfolding joined_parts count_parts rows_of pool_of
  parts-rows pnil t r i o = rw (add-zero i, add-zero o)
  parts-rows (absent ps) t r i o =
      let d : i + suc (count_parts ps) ≡ suc i + count_parts ps = omega arith in
      ap (λ (x : List ValueRow). absent_row ∷ x) (rw d (parts-rows ps t r (suc i) o))
  parts-rows (present v ps) t r i o =
      let d : i + suc (count_parts ps) ≡ suc i + count_parts ps = omega arith in
      let e : o + length (pool_of v ++ part_pool ps) ≡ o + length (pool_of v) + length (part_pool ps) = omega (arith, length-append (pool_of v) (part_pool ps)) in
      append_assoc (rows_of v t (type_at t r i) o) (part_rows ps t r (suc i) (o + length (pool_of v))) (part_rows qs t r (i + suc (count_parts ps)) (o + length (pool_of v ++ part_pool ps)))
      ∙ rw (d, e) (ap (λ (x : List ValueRow). rows_of v t (type_at t r i) o ++ x) (parts-rows ps t r (suc i) (o + length (pool_of v))))

-- the first members ps of the SEQUENCE at r
abbrev pub Members : List ℕ → List ℕ → List ℕ → List ℕ → ℕ → ℕ → Table → ℕ → Parts → ℕ → ℕ → Type 0
Members rows₁ rows₀ pool₁ pool₀ i o t r ps n m = Run rows₁ rows₀ pool₁ pool₀ i o (λ u. part_rows ps t r 0 u) (part_pool ps) n m

pub members-none : {rows pool : List ℕ} {i o : ℕ} (t : Table) (r : ℕ) → Members rows rows pool pool i o t r pnil 0 0
unfolding rows_of pool_of
members-none t r = run_none

module _ (t : Table) (r : ℕ) (ps : Parts) where
  absent-rows : (u : ℕ) → part_rows ps t r 0 u ++ (row 15 0 0 1 ∷ []) ≡ part_rows (joined_parts ps (absent pnil)) t r 0 u
  unfolding rows_of
  absent-rows u = parts-rows (absent pnil) ps t r 0 u

  absent-pool : part_pool ps ≡ part_pool (joined_parts ps (absent pnil))
  unfolding pool_of
  absent-pool = sym (append-nil (part_pool ps)) ∙ parts-pool (absent pnil) ps

  present-rows : (v : Val) (p u : ℕ) → p ≡ count_parts ps → part_rows ps t r 0 u ++ rows_of v t (type_at t r p) (u + length (part_pool ps)) ≡ part_rows (joined_parts ps (present v pnil)) t r 0 u
  unfolding rows_of
  present-rows v p u e =
      let d : p ≡ 0 + count_parts ps = omega arith in
      rw d (ap (λ (x : List ValueRow). part_rows ps t r 0 u ++ x) (sym (append-nil (rows_of v t (type_at t r (0 + count_parts ps)) (u + length (part_pool ps))))) ∙ parts-rows (present v pnil) ps t r 0 u)

  present-pool : (v : Val) → part_pool ps ++ pool_of v ≡ part_pool (joined_parts ps (present v pnil))
  unfolding pool_of
  present-pool v = ap (λ (x : List ℕ). part_pool ps ++ x) (sym (append-nil (pool_of v))) ∙ parts-pool (present v pnil) ps

  module _ {rows₂ rows₁ rows₀ pool₁ pool₀ : List ℕ} {i o n m : ℕ} where
    pub members-absent : Members rows₁ rows₀ pool₁ pool₀ i o t r ps n m → rows₂ ≡ sets rows₁ ((i + n) * 4) (15 ∷ 0 ∷ 0 ∷ 1 ∷ [])
        → Members rows₂ rows₀ pool₁ pool₀ i o t r (joined_parts ps (absent pnil)) (n + 1) m
    members-absent f g = run-same (run_row f 15 0 0 1 g) absent-rows absent-pool

    pub members-present : {pool₂ : List ℕ} {q j k : ℕ} (v : Val) (p : ℕ) → p ≡ count_parts ps → Members rows₁ rows₀ pool₁ pool₀ i o t r ps n m
        → Stepped (Ok (taken q j k)) rows₂ rows₁ pool₂ pool₁ (i + n) (o + m) t (type_at t r p) (ok (got v q)) → Members rows₂ rows₀ pool₂ pool₀ i o t r (joined_parts ps (present v pnil)) (n + j) (m + k)
    members-present v p e f g =
        run-same (run_more f v g) (λ u. ap (λ (x : ℕ). part_rows ps t r 0 u ++ rows_of v t (type_at t r p) (u + x)) (sym f.bytes) ∙ present-rows v p u e) (present-pool v)

    pub seq_above : {q c kind : ℕ} → Members rows₁ rows₀ pool₁ pool₀ (i + 1) o t r ps n m → kind ≡ kind_of t r → c ≡ count_present ps → rows₂ ≡ sets rows₁ (i * 4) (kind ∷ c ∷ 0 ∷ (n + 1) ∷ [])
        → Stepped (Ok (taken q (n + 1) m)) rows₂ rows₀ pool₁ pool₀ i o t r (ok (got (v_seq ps) q))
    unfolding rows_of pool_of
    seq_above f e d s = run-above f _ _ (v_seq ps) (λ u. rw (e, kind_tag t r, d)) refl s

-- ---- one part

pub run-one : {rows₁ rows₀ pool₁ pool₀ : List ℕ} {i o q n m : ℕ} {t : Table} {r : ℕ} (v : Val) → Stepped (Ok (taken q n m)) rows₁ rows₀ pool₁ pool₀ i o t r (ok (got v q))
    → Run rows₁ rows₀ pool₁ pool₀ i o (λ u. rows_of v t r u) (pool_of v) n m
run-one {q = q} {n = n} {m = m} {t = t} {r = r} v g =
    let y : taken q n m ≡ taken q (length (rows_of v t r 0)) (length (pool_of v)) = cc g.answer in
    let a : n ≡ length (rows_of v t r 0) = ap (λ (z : Taken). z.rows) y in
    let b : m ≡ length (pool_of v) = ap (λ (z : Taken). z.pool) y in
    record { size = λ u. omega (arith, rows-length v t r u, rows-length v t r 0); bytes = sym b; rows = λ l. g.rows (omega arith); pool = λ l. g.pool (omega arith) }

pub choice-above : {rows₂ rows₁ rows₀ pool₁ pool₀ : List ℕ} {i o q e n m kind : ℕ} {t : Table} {r : ℕ} (k : ℕ) (v : Val)
    → Stepped (Ok (taken q n m)) rows₁ rows₀ pool₁ pool₀ (i + 1) o t (type_at t r k) (ok (got v q)) → kind ≡ kind_of t r → rows₂ ≡ sets rows₁ (i * 4) (kind ∷ k ∷ 0 ∷ (n + 1) ∷ [])
    → Stepped (Ok (taken e (n + 1) m)) rows₂ rows₀ pool₁ pool₀ i o t r (ok (got (v_choice k v) e))
unfolding rows_of pool_of
choice-above {t = t} {r = r} k v f g s = run-above (run-one v f) _ k (v_choice k v) (λ u. rw (g, kind_tag t r)) refl s

-- ---- readings in readings

module _ (t : Table) (r : ℕ) (x : Res (Got Val)) where
  pub answer-read : {q n m : ℕ} → Ok (taken q n m) ≡ step_of t r x → (v : Val) × (x ≡ ok (got v q))
  answer-read {q = q} {n = n} {m = m} h = go x h
    where
      go : (y : Res (Got Val)) → Ok (taken q n m) ≡ step_of t r y → (v : Val) × (y ≡ ok (got v q))
      go (ok g) e =
          let y : taken q n m ≡ taken g.next (length (rows_of g.value t r 0)) (length (pool_of g.value)) = cc in
          (g.value, ap (λ (z : Taken). ok (got g.value z.next)) (sym y))
      go (no e) f = absurd (let z : ◌≡◌ {A = ℕ} 0 1 = cc in omega arith)

  pub answer-refused : {e : Refusal} → Err e ≡ step_of t r x → x ≡ no e
  answer-refused {e = e} h = go x h
    where
      go : (y : Res (Got Val)) → Err e ≡ step_of t r y → y ≡ no e
      go (ok g) f = absurd (let z : ◌≡◌ {A = ℕ} 0 1 = cc in omega arith)
      go (no d) f = let w : d ≡ e = cc in ap no w

  -- a part that is refused
  pub refused_part : {B : Type 0} {e : Refusal} (f : Got Val → Res B) → Err e ≡ step_of t r x → bind x f ≡ no e
  unfolding bind
  refused_part f h = rw (answer-refused h)

  -- counts of 32 bits
  module _ {q n m : ℕ} (h : Ok (taken q n m) ≡ step_of t r x) where
    counted : (b : Bool) → (ltb n (2 ^ 32) && ltb m (2 ^ 32)) ≡ b → bind x (within t r) ≡ elim b [ true ↦ x | false ↦ no (Amounts LentRoom (2 ^ 32) (2 ^ 32)) ]
    unfolding bind within
    counted b e = go x h
      where
        go : (y : Res (Got Val)) → Ok (taken q n m) ≡ step_of t r y → bind y (within t r) ≡ elim b as (λ c. Res (Got Val)) [ true ↦ y | false ↦ no (Amounts LentRoom (2 ^ 32) (2 ^ 32)) ]
        go (ok g) f =
            let y : taken q n m ≡ taken g.next (length (rows_of g.value t r 0)) (length (pool_of g.value)) = cc in
            let c : n ≡ length (rows_of g.value t r 0) = ap (λ (z : Taken). z.rows) y in
            let d : m ≡ length (pool_of g.value) = ap (λ (z : Taken). z.pool) y in
            rw (rw (c, d) at e, within)
        go (no d) f = absurd (let z : ◌≡◌ {A = ℕ} 0 1 = cc in omega arith)

    pub within-fits : n < 2 ^ 32 → m < 2 ^ 32 → bind x (within t r) ≡ x
    within-fits k l = counted true (rw (lt-ltb n (2 ^ 32) k, lt-ltb m (2 ^ 32) l))

    pub within-rows : 2 ^ 32 ≤ n → bind x (within t r) ≡ no (Amounts LentRoom (2 ^ 32) (2 ^ 32))
    within-rows k = counted false (rw (le-ltb n (2 ^ 32) k))

    pub within-pool : n < 2 ^ 32 → 2 ^ 32 ≤ m → bind x (within t r) ≡ no (Amounts LentRoom (2 ^ 32) (2 ^ 32))
    within-pool k l = counted false (rw (lt-ltb n (2 ^ 32) k, le-ltb m (2 ^ 32) l))
