-- The loops of the walk over the tape: what is left of a list or of a sequence, once stored, completes it.
use Prim.Native.Nat.{ℕ, suc, ◌+◌, ◌*◌, ◌<◌, ◌≤◌}
use mathlib.Core.Path.{◌≡◌, refl, sym, ap, ◌∙◌}
use mathlib.Core.List.{List, [], ◌∷◌}
use native.Mathlib.Numerals.{add-one}
use native.Mathlib.Omega.{arith}
use lib.ListN.{length, get_or}
use lib.Seq.{sets}
use Rattle.jer.specs.Table.{Table, table, count_of, type_at}
use Rattle.jer.specs.Value.{Val, Vals, vnil, vcons, Parts, pnil, absent, present}
use Rattle.jer.specs.Rows.{numbers, rows_of, item_rows, part_rows, pool_of, item_pool, part_pool}
use Rattle.slices.proofs.PartLaws.{sets_append}
use Rattle.leaf.proofs.StoreLaws.{numbers-length, numbers_append}
use Rattle.quick.specs.Tape.{Stands, Listed, no_item, item, Linked, no_link, no_value, a_value}
use Rattle.quick.specs.Emit.{Noted, NotedItems, NotedParts, Stores, Emits, Pours, EmitsParts, Passes}
use Rattle.quick.proofs.ListLaws.{rows-any, cons-rows, nil-rows, cons-pool, nil-pool}
use Rattle.quick.proofs.PartLaws.{parts-any, absent-rows, present-rows, absent-pool, present-pool}
use Rattle.quick.proofs.TapeLaws.{stands-ahead, listed-ahead, linked-ahead}
use Rattle.quick.proofs.EmitLaws.{some-rows, noted_row}

-- ---- items

pub record Pouring (t : Table) (s z rows₀ rows pool₀ pool : List ℕ) (e : ℕ) (vs : Vals) (end i o₀ at q o : ℕ) : Type 0 where
  pub left : Vals
  pub listed : Listed s z t e left at end
  pub finish : sets rows (q * 4) (numbers (item_rows left t e o)) ≡ sets rows₀ (i * 4) (numbers (item_rows vs t e o₀))
  pub poured : sets pool o (item_pool left) ≡ sets pool₀ o₀ (item_pool vs)
  pub offset : o + length (item_pool left) ≡ o₀ + length (item_pool vs)
  pub tally : q + length (item_rows left t e o) ≡ i + length (item_rows vs t e o₀)

record Next (s z : List ℕ) (t : Table) (e : ℕ) (left : Vals) (at end : ℕ) : Type 0 where
  value : Val
  rest : Vals
  next : ℕ
  is : left ≡ vcons value rest
  stands : Stands s z t e value at next
  listed : Listed s z t e rest next end

next-item : {s z : List ℕ} {t : Table} {e at end : ℕ} {left : Vals} → Listed s z t e left at end → at < end → Next s z t e left at end
next-item (no_item f) l = absurd (omega arith)
next-item (item {k = k} {v = v} {vs = vs} w m) l = record { value = v; rest = vs; next = k; is = refl; stands = w; listed = m }

none_left : {s z : List ℕ} {t : Table} {e at end : ℕ} {left : Vals} → Listed s z t e left at end → end ≤ at → left ≡ vnil
none_left (no_item f) l = refl
none_left (item w m) l = absurd (omega (arith, stands-ahead w, listed-ahead m))

items-sets : (rows : List ℕ) (q q' o : ℕ) (t : Table) (e : ℕ) (v : Val) (vs : Vals) → q' ≡ q + length (rows_of v t e o)
    → sets (sets rows (q * 4) (numbers (rows_of v t e o))) (q' * 4) (numbers (item_rows vs t e (o + length (pool_of v)))) ≡ sets rows (q * 4) (numbers (item_rows (vcons v vs) t e o))
unfolding rows_of
items-sets rows q q' o t e v vs h =
    let n : q' * 4 ≡ q * 4 + length (numbers (rows_of v t e o)) = omega (arith, numbers-length (rows_of v t e o)) in
    rw (n, numbers_append) (sym (sets_append rows (q * 4) (numbers (rows_of v t e o)) (numbers (item_rows vs t e (o + length (pool_of v))))))

items-pool : (pool : List ℕ) (o : ℕ) (v : Val) (vs : Vals) → sets (sets pool o (pool_of v)) (o + length (pool_of v)) (item_pool vs) ≡ sets pool o (item_pool (vcons v vs))
unfolding pool_of
items-pool pool o v vs = sym (sets_append pool o (pool_of v) (item_pool vs))

no_items_lem : (l : List ℕ) (p : ℕ) (t : Table) (e o : ℕ) (u : Vals) → u ≡ vnil → l ≡ sets l p (numbers (item_rows u t e o))
unfolding rows_of numbers
no_items_lem l p t e o u h = rw h

no_bytes : (l : List ℕ) (p : ℕ) (u : Vals) → u ≡ vnil → l ≡ sets l p (item_pool u)
unfolding pool_of
no_bytes l p u h = rw h

pub pouring-start : (t : Table) (s z rows pool : List ℕ) (e : ℕ) (vs : Vals) (end i o at : ℕ) → Listed s z t e vs at end → Pouring t s z rows rows pool pool e vs end i o at i o
pouring-start t s z rows pool e vs end i o at l = record { left = vs; listed = l; finish = refl; poured = refl; offset = refl; tally = refl }

abbrev pub ItemsLoop : List ℕ → List ℕ → List ℕ → List ℕ → List ℕ → List ℕ → List ℕ → ℕ → ℕ → ℕ → ℕ → ℕ → ℕ → ℕ → ℕ → Type 0
ItemsLoop types s z rows₀ rows pool₀ pool e from end i o₀ at q o =
    (length rows ≡ length rows₀) × (length pool ≡ length pool₀) × (from ≤ at) × ((ns : List ℕ) (vs : Vals) → Listed s z (table types ns) e vs from end → Pouring (table types ns) s z rows₀ rows pool₀ pool e vs end i o₀ at q o)

module _ {t : Table} {s z rows₀ rows pool₀ pool : List ℕ} {e : ℕ} {vs : Vals} {end i o₀ at q o : ℕ} (k : Pouring t s z rows₀ rows pool₀ pool e vs end i o₀ at q o) where
  pouring-more : (rows' pool' : List ℕ) (at' n o' : ℕ) → at < end → ((v : Val) (m : ℕ) → Stands s z t e v at m → Stores rows rows' pool pool' q o o' (numbers (rows_of v t e o)) (pool_of v))
      → ((v : Val) (m : ℕ) → Stands s z t e v at m → (at' ≡ m) × (n ≡ length (rows_of v t e 0))) → Pouring t s z rows₀ rows' pool₀ pool' e vs end i o₀ at' (q + n) o'
  pouring-more rows' pool' at' n o' l f g =
      let x = next-item k.listed l in
      let a = f x.value x.next x.stands in
      let b = g x.value x.next x.stands in
      record {
        left = x.rest;
        listed = rw b.0 x.listed;
        finish = rw (a.0, a.2) (items-sets rows q (q + n) o t e x.value x.rest (omega (arith, b.1, rows-any x.value t e o)) ∙ ap (λ (u : Vals). sets rows (q * 4) (numbers (item_rows u t e o))) (sym x.is) ∙ k.finish);
        poured = rw (a.1, a.2) (items-pool pool o x.value x.rest ∙ ap (λ (u : Vals). sets pool o (item_pool u)) (sym x.is) ∙ k.poured);
        offset = omega (arith, a.2, cons-pool x.value x.rest, ap (λ (u : Vals). length (item_pool u)) x.is, k.offset);
        tally = rw a.2 (omega (arith, b.1, rows-any x.value t e o, k.tally, ap (λ (u : Vals). length (item_rows u t e o)) x.is, cons-rows x.value x.rest t e o));
      }

  pouring-end : end ≤ at → Stores rows₀ rows pool₀ pool i o₀ o (numbers (item_rows vs t e o₀)) (item_pool vs)
  pouring-end l =
      let n = none_left k.listed l in
      (no_items_lem rows (q * 4) t e o k.left n ∙ k.finish, no_bytes pool o k.left n ∙ k.poured, omega (arith, k.offset, ap (λ (u : Vals). length (item_pool u)) n, nil-pool))

any-items : (vs : Vals) (t : Table) (e o : ℕ) → length (item_rows vs t e 0) ≡ length (item_rows vs t e o)
any-items vnil t e o = omega (arith, nil-rows t e 0, nil-rows t e o)
any-items (vcons v vs) t e o = omega (arith, cons-rows v vs t e 0, cons-rows v vs t e o, rows-any v t e o, any-items vs t e (0 + length (pool_of v)), any-items vs t e (o + length (pool_of v)))

module _ (types s z rows₀ rows pool₀ pool : List ℕ) (e from end i o₀ at q o : ℕ) (noted : NotedItems types s z rows₀ pool₀ e from end i o₀) (k : ItemsLoop types s z rows₀ rows pool₀ pool e from end i o₀ at q o) (l : at < end) where
  pouring : Pouring (table types noted.names) s z rows₀ rows pool₀ pool e noted.items end i o₀ at q o
  pouring = k.3 noted.names noted.items noted.listed

  pub items_noted : Noted types s z rows pool e at q o
  items_noted =
      let p = pouring in
      let t = table types noted.names in
      let x = next-item p.listed l in
      let m = noted.room in
      let a = cons-rows x.value x.rest t e o in
      let b = ap (λ (u : Vals). length (item_rows u t e o)) x.is in
      let c = any-items noted.items t e o₀ in
      let d = rows-any x.value t e o in
      let f = cons-pool x.value x.rest in
      let g = ap (λ (u : Vals). length (item_pool u)) x.is in
      record {
        names = noted.names;
        value = x.value;
        end = x.next;
        stands = x.stands;
        inside = omega (arith, listed-ahead x.listed, noted.inside);
        room = record { slots = omega (arith, p.tally, m.slots, k.0); bytes = omega (arith, p.offset, m.bytes, k.1); small = omega (arith, p.offset, m.small) };
      }

  pub items-step : (at' n : ℕ) → Passes types z e at at' n → (at < at') × (q * 4 + n * 4 ≤ length rows)
  items-step at' n g =
      let w = items_noted in
      let b = g s w.names w.value w.end w.stands in
      (omega (arith, b.0, stands-ahead w.stands), omega (arith, b.1, w.room.slots))

  pub items-again : (rows' pool' : List ℕ) (at' n o' : ℕ) → length rows' ≡ length rows → length pool' ≡ length pool → Emits types s z e at q o rows rows' pool pool' o' → Passes types z e at at' n
      → ItemsLoop types s z rows₀ rows' pool₀ pool' e from end i o₀ at' (q + n) o'
  items-again rows' pool' at' n o' kr kp f g = (
    omega (arith, kr, k.0),
    omega (arith, kp, k.1),
    omega (arith, k.2, (items-step at' n g).0),
    λ ns vs w. pouring-more (k.3 ns vs w) rows' pool' at' n o' l (f ns) (g s ns),
  )

pub items-end : (types s z rows₀ rows pool₀ pool : List ℕ) (e from end i o₀ at q o : ℕ) → ItemsLoop types s z rows₀ rows pool₀ pool e from end i o₀ at q o → end ≤ at → Pours types s z e from end i o₀ rows₀ rows pool₀ pool o
items-end types s z rows₀ rows pool₀ pool e from end i o₀ at q o k l ns vs w = pouring-end (k.3 ns vs w) l

-- ---- members

pub record Filling (t : Table) (s z rows₀ rows pool₀ pool : List ℕ) (r : ℕ) (ps : Parts) (b end i o₀ k q o : ℕ) : Type 0 where
  pub left : Parts
  pub linked : Linked s z t r b end k left
  pub finish : sets rows (q * 4) (numbers (part_rows left t r k o)) ≡ sets rows₀ (i * 4) (numbers (part_rows ps t r 0 o₀))
  pub poured : sets pool o (part_pool left) ≡ sets pool₀ o₀ (part_pool ps)
  pub offset : o + length (part_pool left) ≡ o₀ + length (part_pool ps)
  pub tally : q + length (part_rows left t r k o) ≡ i + length (part_rows ps t r 0 o₀)

data NextPart (s z : List ℕ) (t : Table) (r b end k : ℕ) : Parts → Type 0 where
  next_absent : {ps : Parts} → get_or z (b + k) 0 ≡ 0 → Linked s z t r b end (suc k) ps → NextPart s z t r b end k (absent ps)
  next_value : {w l : ℕ} {v : Val} {ps : Parts} → get_or z (b + k) 0 ≡ w → b + count_of t r ≤ w → l ≤ end → Stands s z t (type_at t r k) v w l → Linked s z t r b end (suc k) ps → NextPart s z t r b end k (present v ps)

next_part : {s z : List ℕ} {t : Table} {r b end k : ℕ} {ps : Parts} → Linked s z t r b end k ps → k < count_of t r → NextPart s z t r b end k ps
next_part (no_link e f) l = absurd (omega arith)
next_part (no_value a e m) l = next_absent e m
next_part (a_value a e f g v m) l = next_value e f g v m

no-parts : {s z : List ℕ} {t : Table} {r b end k : ℕ} {ps : Parts} → Linked s z t r b end k ps → count_of t r ≤ k → ps ≡ pnil
no-parts (no_link e f) l = refl
no-parts (no_value a e m) l = absurd (omega arith)
no-parts (a_value a e f g v m) l = absurd (omega arith)

absent-sets : (rows : List ℕ) (q o : ℕ) (t : Table) (r k : ℕ) (ps : Parts) → sets (sets rows (q * 4) (15 ∷ 0 ∷ 0 ∷ 1 ∷ [])) ((q + 1) * 4) (numbers (part_rows ps t r (suc k) o)) ≡ sets rows (q * 4) (numbers (part_rows (absent ps) t r k o))
unfolding rows_of numbers
absent-sets rows q o t r k ps =
    let m : (q + 1) * 4 ≡ q * 4 + 4 = omega arith in
    rw m (sym (sets_append rows (q * 4) (15 ∷ 0 ∷ 0 ∷ 1 ∷ []) (numbers (part_rows ps t r (suc k) o))))

absent-poured : (pool : List ℕ) (o : ℕ) (ps : Parts) → sets pool o (part_pool ps) ≡ sets pool o (part_pool (absent ps))
unfolding pool_of
absent-poured pool o ps = refl

part_sets : (rows : List ℕ) (q q' o : ℕ) (t : Table) (r k : ℕ) (v : Val) (ps : Parts) → q' ≡ q + length (rows_of v t (type_at t r k) o)
    → sets (sets rows (q * 4) (numbers (rows_of v t (type_at t r k) o))) (q' * 4) (numbers (part_rows ps t r (suc k) (o + length (pool_of v)))) ≡ sets rows (q * 4) (numbers (part_rows (present v ps) t r k o))
unfolding rows_of
part_sets rows q q' o t r k v ps h =
    let e = type_at t r k in
    let n : q' * 4 ≡ q * 4 + length (numbers (rows_of v t e o)) = omega (arith, numbers-length (rows_of v t e o)) in
    rw (n, numbers_append) (sym (sets_append rows (q * 4) (numbers (rows_of v t e o)) (numbers (part_rows ps t r (suc k) (o + length (pool_of v))))))

part_poured : (pool : List ℕ) (o : ℕ) (v : Val) (ps : Parts) → sets (sets pool o (pool_of v)) (o + length (pool_of v)) (part_pool ps) ≡ sets pool o (part_pool (present v ps))
unfolding pool_of
part_poured pool o v ps = sym (sets_append pool o (pool_of v) (part_pool ps))

no_part_rows : (l : List ℕ) (p : ℕ) (t : Table) (r k o : ℕ) (u : Parts) → u ≡ pnil → l ≡ sets l p (numbers (part_rows u t r k o))
unfolding rows_of numbers
no_part_rows l p t r k o u h = rw h

no_part_bytes : (l : List ℕ) (p : ℕ) (u : Parts) → u ≡ pnil → l ≡ sets l p (part_pool u)
unfolding pool_of
no_part_bytes l p u h = rw h

nil-bytes : length (part_pool pnil) ≡ 0
unfolding pool_of
nil-bytes = refl

abbrev pub PartsLoop : List ℕ → List ℕ → List ℕ → List ℕ → List ℕ → List ℕ → List ℕ → ℕ → ℕ → ℕ → ℕ → ℕ → ℕ → ℕ → Type 0
PartsLoop types s z rows₀ rows pool₀ pool r b i o₀ k q o =
    (length rows ≡ length rows₀) × (length pool ≡ length pool₀)
    × ((ns : List ℕ) (ps : Parts) (end : ℕ) → Linked s z (table types ns) r b end 0 ps → Filling (table types ns) s z rows₀ rows pool₀ pool r ps b end i o₀ k q o)

pub filling-start : (t : Table) (s z rows pool : List ℕ) (r : ℕ) (ps : Parts) (b end i o : ℕ) → Linked s z t r b end 0 ps → Filling t s z rows rows pool pool r ps b end i o 0 i o
filling-start t s z rows pool r ps b end i o l = record { left = ps; linked = l; finish = refl; poured = refl; offset = refl; tally = refl }

module _ {t : Table} {s z rows₀ rows pool₀ pool : List ℕ} {r : ℕ} {ps : Parts} {b end i o₀ k q o : ℕ} (f : Filling t s z rows₀ rows pool₀ pool r ps b end i o₀ k q o) where
  filling-absent : (rows' : List ℕ) → k < count_of t r → 0 < b → get_or z (b + k) 0 ≡ 0 → rows' ≡ sets rows (q * 4) (15 ∷ 0 ∷ 0 ∷ 1 ∷ []) → Filling t s z rows₀ rows' pool₀ pool r ps b end i o₀ (suc k) (q + 1) o
  filling-absent rows' l p h u = go (next_part f.linked l) f.finish f.poured f.offset f.tally
    where
      go : {us : Parts} → NextPart s z t r b end k us → sets rows (q * 4) (numbers (part_rows us t r k o)) ≡ sets rows₀ (i * 4) (numbers (part_rows ps t r 0 o₀)) → sets pool o (part_pool us) ≡ sets pool₀ o₀ (part_pool ps)
          → o + length (part_pool us) ≡ o₀ + length (part_pool ps) → q + length (part_rows us t r k o) ≡ i + length (part_rows ps t r 0 o₀) → Filling t s z rows₀ rows' pool₀ pool r ps b end i o₀ (suc k) (q + 1) o
      go (next_absent {ps = us} e m) x y w v =
          record { left = us; linked = m; finish = rw u (absent-sets rows q o t r k us ∙ x); poured = absent-poured pool o us ∙ y; offset = omega (arith, absent-pool us); tally = omega (arith, absent-rows us t r k o) }
      go (next_value e g c s m) x y w v = absurd (omega arith)

  filling-value : (rows' pool' : List ℕ) (w n o' : ℕ) → k < count_of t r → get_or z (b + k) 0 ≡ w → (w ≡ 0 → ⊥)
      → ((v : Val) (l : ℕ) → Stands s z t (type_at t r k) v w l → Stores rows rows' pool pool' q o o' (numbers (rows_of v t (type_at t r k) o)) (pool_of v))
      → ((v : Val) (l : ℕ) → Stands s z t (type_at t r k) v w l → n ≡ length (rows_of v t (type_at t r k) 0)) → Filling t s z rows₀ rows' pool₀ pool' r ps b end i o₀ (suc k) (q + n) o'
  filling-value rows' pool' w n o' l h nz g c = go (next_part f.linked l) f.finish f.poured f.offset f.tally
    where
      go : {us : Parts} → NextPart s z t r b end k us → sets rows (q * 4) (numbers (part_rows us t r k o)) ≡ sets rows₀ (i * 4) (numbers (part_rows ps t r 0 o₀)) → sets pool o (part_pool us) ≡ sets pool₀ o₀ (part_pool ps)
          → o + length (part_pool us) ≡ o₀ + length (part_pool ps) → q + length (part_rows us t r k o) ≡ i + length (part_rows ps t r 0 o₀) → Filling t s z rows₀ rows' pool₀ pool' r ps b end i o₀ (suc k) (q + n) o'
      go (next_absent e m) x y z' v = absurd (nz (sym h ∙ e))
      go (next_value {w = w'} {l = m} {v = u} {ps = us} e a d st p) x y z' v =
          let eq : w' ≡ w = sym e ∙ h in
          let s' : Stands s z t (type_at t r k) u w m = rw eq at st in
          let A = g u m s' in
          let B = c u m s' in
          let any = rows-any u t (type_at t r k) o in
          record {
            left = us;
            linked = p;
            finish = rw (A.0, A.2) (part_sets rows q (q + n) o t r k u us (omega (arith, B, any)) ∙ x);
            poured = rw (A.1, A.2) (part_poured pool o u us ∙ y);
            offset = omega (arith, A.2, present-pool u us, z');
            tally = rw A.2 (omega (arith, B, any, present-rows u us t r k o, v));
          }

  filling-end : count_of t r ≤ k → Stores rows₀ rows pool₀ pool i o₀ o (numbers (part_rows ps t r 0 o₀)) (part_pool ps)
  filling-end l =
      let e = no-parts f.linked l in
      (no_part_rows rows (q * 4) t r k o f.left e ∙ f.finish, no_part_bytes pool o f.left e ∙ f.poured, omega (arith, f.offset, ap (λ (u : Parts). length (part_pool u)) e, nil-bytes))

  -- room for the next one
  pub record Ahead (w : ℕ) : Type 0 where
    pub value : Val
    pub last : ℕ
    pub stands : Stands s z t (type_at t r k) value w last
    pub links : b + count_of t r ≤ w
    pub inside : last ≤ end
    pub rows_fit : q + length (rows_of value t (type_at t r k) 0) ≤ i + length (part_rows ps t r 0 o₀)
    pub bytes_fit : o + length (pool_of value) ≤ o₀ + length (part_pool ps)

  filling-ahead : (w : ℕ) → k < count_of t r → get_or z (b + k) 0 ≡ w → (w ≡ 0 → ⊥) → Ahead w
  filling-ahead w l h nz = go (next_part f.linked l) f.offset f.tally
    where
      go : {us : Parts} → NextPart s z t r b end k us → o + length (part_pool us) ≡ o₀ + length (part_pool ps) → q + length (part_rows us t r k o) ≡ i + length (part_rows ps t r 0 o₀) → Ahead w
      go (next_absent e m) x y = absurd (nz (sym h ∙ e))
      go (next_value {w = w'} {l = m} {v = u} {ps = us} e a d st p) x y =
          let eq : w' ≡ w = sym e ∙ h in
          record { value = u; last = m; stands = rw eq at st; links = omega arith; inside = d; rows_fit = omega (arith, rows-any u t (type_at t r k) o, present-rows u us t r k o); bytes_fit = omega (arith, present-pool u us) }

  filling-some : k < count_of t r → q + 1 ≤ i + length (part_rows ps t r 0 o₀)
  filling-some l = go (next_part f.linked l) f.tally
    where
      go : {us : Parts} → NextPart s z t r b end k us → q + length (part_rows us t r k o) ≡ i + length (part_rows ps t r 0 o₀) → q + 1 ≤ i + length (part_rows ps t r 0 o₀)
      go (next_absent {ps = us} e m) y = omega (arith, absent-rows us t r k o)
      go (next_value {v = u} {ps = us} e a d st p) y = omega (arith, present-rows u us t r k o, some-rows st o)

module _ (types s z rows₀ pool₀ : List ℕ) (r b i o₀ : ℕ) (noted : NotedParts types s z rows₀ pool₀ r b i o₀) (count : ℕ) (c : (ns : List ℕ) → count ≡ count_of (table types ns) r) where
  -- the link is inside
  pub link-inside : (k : ℕ) → k < count → b + k < length z
  link-inside k l = omega (arith, linked-ahead noted.linked, noted.inside, c noted.names)

  module _ (rows pool : List ℕ) (k q o : ℕ) (f : PartsLoop types s z rows₀ rows pool₀ pool r b i o₀ k q o) (l : k < count) where
    filling : Filling (table types noted.names) s z rows₀ rows pool₀ pool r noted.parts b noted.end i o₀ k q o
    filling = f.2 noted.names noted.parts noted.end noted.linked

    below : (ns : List ℕ) → k < count_of (table types ns) r
    below ns = omega (arith, c ns)

    all-rows : length (part_rows noted.parts (table types noted.names) r 0 0) ≡ length (part_rows noted.parts (table types noted.names) r 0 o₀)
    all-rows = parts-any noted.parts (table types noted.names) r 0 0 o₀

    pub parts-some : q * 4 + 4 ≤ length rows
    parts-some = let x = filling-some filling (below noted.names) in omega (arith, noted.room.slots, all-rows, f.0)

    module _ (w : ℕ) (h : w ≡ get_or z (b + k) 0) where
      pub parts-absent : (rows' : List ℕ) → 0 < b → w ≡ 0 → length rows' ≡ length rows → rows' ≡ sets rows (q * 4) (15 ∷ 0 ∷ 0 ∷ 1 ∷ []) → PartsLoop types s z rows₀ rows' pool₀ pool r b i o₀ (k + 1) (q + 1) o
      parts-absent rows' p e kr u =
          rw (add-one k) (omega (arith, kr, f.0), f.1, λ ns ps end x. filling-absent (f.2 ns ps end x) rows' (below ns) p (sym h ∙ e) u)

      module _ (m : ℕ) (em : (ns : List ℕ) → m ≡ type_at (table types ns) r k) (nz : w ≡ 0 → ⊥) where
        ahead : Ahead filling w
        ahead = filling-ahead filling w (below noted.names) (sym h) nz

        pub parts_noted : Noted types s z rows pool m w q o
        parts_noted =
            let a = ahead in
            let x = noted.room in
            let y = all-rows in
            noted_row (em noted.names) (record {
              names = noted.names;
              value = a.value;
              end = a.last;
              stands = a.stands;
              inside = omega (arith, a.inside, noted.inside);
              room = record { slots = omega (arith, a.rows_fit, x.slots, f.0); bytes = omega (arith, a.bytes_fit, x.bytes, f.1); small = omega (arith, a.bytes_fit, x.small) };
            })

        pub parts-ahead : b ≤ w
        parts-ahead = omega (arith, ahead.links)

        pub parts_again : (rows' pool' : List ℕ) (end' n o' : ℕ) → length rows' ≡ length rows → length pool' ≡ length pool → Emits types s z m w q o rows rows' pool pool' o' → Passes types z m w end' n
            → PartsLoop types s z rows₀ rows' pool₀ pool' r b i o₀ (k + 1) (q + n) o'
        parts_again rows' pool' end' n o' kr kp g p =
            rw (add-one k) (
              omega (arith, kr, f.0),
              omega (arith, kp, f.1),
              λ ns ps end x. filling-value (f.2 ns ps end x) rows' pool' w n o' (below ns) (sym h) nz (λ v l y. rw (em ns) at (g ns v l (rw (em ns) y))) (λ v l y. rw (em ns) at (p s ns v l (rw (em ns) y)).1),
            )

        pub parts-step : (end' n : ℕ) → Passes types z m w end' n → q * 4 + n * 4 ≤ length rows
        parts-step end' n p = let x = parts_noted in omega (arith, (p s x.names x.value x.end x.stands).1, x.room.slots)

pub parts-end : (types s z rows₀ rows pool₀ pool : List ℕ) (r b i o₀ k q o count : ℕ) → ((ns : List ℕ) → count ≡ count_of (table types ns) r) → PartsLoop types s z rows₀ rows pool₀ pool r b i o₀ k q o → count ≤ k
    → EmitsParts types s z r b i o₀ rows₀ rows pool₀ pool o
parts-end types s z rows₀ rows pool₀ pool r b i o₀ k q o count c f l ns ps end x = filling-end (f.2 ns ps end x) (omega (arith, c ns))
