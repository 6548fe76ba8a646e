-- Objects: what an older table makes of the members of a sequence and of a wrapped choice.
use Rattle.std.specs.Prelude.{is_some}
use Prim.Native.Nat.{ℕ, zero, suc, ◌+◌, ◌<◌}
use mathlib.Core.Path.{◌≡◌, refl, sym, ◌∙◌}
use mathlib.Core.List.{List, [], ◌∷◌}
use mathlib.Core.Bool.{Bool, true, false, ◌&&◌, not}
use Rattle.std.specs.Prelude.{Option, None, Some}
use native.Mathlib.Omega.{arith}
use lib.Dec.{eqb}
use Rattle.jer.specs.declared.Cause.TheVariants.{OtherKind}
use Rattle.jer.specs.Table.{Table, SEQUENCE, CHOICE, kind_of, extensible, is_array, count_of, name_at, may_miss, same_bytes, position}
use Rattle.jer.specs.Value.{Val, v_seq, Parts}
use Rattle.jer.specs.Answer.{Res, ok, bind, at}
use Rattle.jer.specs.Read.{Entry, lookup, names_good, null_absent, read_member, read_members, read_object, read_chosen, read_choice, read_braces}
use Rattle.jer.specs.Cut.{ByAdditions, cut, lacks}
use Rattle.jer.proofs.ValidLaws.{same_bytes-eq, same_bytes-refl, position-none}
use Rattle.jer.proofs.WeightGot.{cases, refused, got, steps}
use Rattle.jer.proofs.OlderNames.{kind-same, Found, known, added, neither, extensible-same, array_same, miss-same, position-found, null-same}
use Rattle.jer.proofs.OlderAgrees.{agrees-map, AgreesAt, Follows, TwinEntry, twin_entry, Each, end, more, PartsAgree, absent-agrees, present-agrees, none-agree}
use Rattle.jer.proofs.OlderChoice.{refused-both, chosen-known, chosen-added}

-- ---- looking a name up

pub data Looked (old : Table) (R : ℕ → ℕ → Type 0) : Option Entry → Option Entry → Type 0 where
  absent : Looked old R None None
  present : {e f : Entry} → TwinEntry old R e f → Looked old R (Some e) (Some f)

-- What the newer table met, beside what the older one met: without the names that it does not know at the row b.
pub data Met (old : Table) (R : ℕ → ℕ → Type 0) (b : ℕ) : List Entry → List Entry → Type 0 where
  empty : Met old R b [] []
  both : {e f : Entry} {es fs : List Entry} → TwinEntry old R e f → Met old R b es fs → Met old R b (e ∷ es) (f ∷ fs)
  newer : {e : Entry} {es fs : List Entry} → position old b e.name ≡ None → Met old R b es fs → Met old R b (e ∷ es) fs

module _ {old : Table} {R : ℕ → ℕ → Type 0} {b : ℕ} (s : List ℕ) (knows : position old b s ≡ None → ⊥) where
  -- a name that the older one knows is found in both or in neither
  looked : {es fs : List Entry} → Met old R b es fs → Looked old R (lookup s es) (lookup s fs)
  unfolding lookup
  looked empty = absent
  looked (both {es = es} {fs = fs} (twin_entry {p = p} {s = u} {z = z} {m = m} {n = n} h) t) = go (same_bytes u s) refl (looked t)
    where
      go : (c : Bool) → same_bytes u s ≡ c → Looked old R (lookup s es) (lookup s fs)
          → Looked old R (lookup s (record { place = p; name = u; is_null = z; means = m } ∷ es)) (lookup s (record { place = p; name = u; is_null = z; means = n } ∷ fs))
      go true w ih = rw (w, lookup) (present (twin_entry h))
      go false w ih = rw (w, lookup) ih
  looked (newer {e = e} {es = es} {fs = fs} x t) = go (same_bytes e.name s) refl (looked t)
    where
      go : (c : Bool) → same_bytes e.name s ≡ c → Looked old R (lookup s es) (lookup s fs) → Looked old R (lookup s (e ∷ es)) (lookup s fs)
      go true w ih = absurd (knows (rw (same_bytes-eq e.name s w) at x))
      go false w ih = rw (w, lookup) ih

  not-met : {xs ys : List Entry} → lookup s xs ≡ None → Met old R b xs ys → lookup s ys ≡ None
  not-met {xs} {ys} e t = go (lookup s xs) (lookup s ys) e (looked t)
    where
      go : (x y : Option Entry) → x ≡ None → Looked old R x y → y ≡ None
      go x y e absent = refl
      go x y e (present u) = cc

-- a type knows the names of its members
pub own_name : (t : Table) (r i : ℕ) → i < count_of t r → position t r (name_at t r i) ≡ None → ⊥
own_name t r i l e = let p = position-none t r (name_at t r i) e i l in let q = same_bytes-refl (name_at t r i) in let z : ◌≡◌ {A = ℕ} 0 1 = cc in omega arith

-- ---- one name of an object

module _ (t : Table) (r : ℕ) (e : Entry) (xs es met : List Entry) where
  -- a known name was not met before
  first-met : (i : ℕ) → position t r e.name ≡ Some i → names_good t r xs (e ∷ es) ≡ ok met → (lookup e.name xs ≡ None) × (names_good t r (e ∷ xs) es ≡ ok met)
  unfolding names_good
  first-met i k h = cases (is_some (lookup e.name xs)) (λ w f. refused f) (λ w f. (absence (lookup e.name xs) w, f)) (rw (k, names_good) at h)
    where
      absence : (x : Option Entry) → is_some x ≡ false → x ≡ None
      absence None w = refl
      absence (Some f) w = cc

  -- an unknown one is skipped
  skipped : position t r e.name ≡ None → names_good t r xs (e ∷ es) ≡ ok met → (extensible t r ≡ true) × (names_good t r xs es ≡ ok met)
  unfolding names_good
  skipped k h = cases (extensible t r) (λ w f. (w, f)) (λ w f. refused f) (rw (k, names_good) at h)

-- the names fs as the older table takes them after ys, where the newer one ends with xs
pub record Taken (old : Table) (R : ℕ → ℕ → Type 0) (b : ℕ) (xs ys fs : List Entry) : Type 0 where
  pub list : List Entry
  pub good : names_good old b ys fs ≡ ok list
  pub met : Met old R b xs list

module _ {new old : Table} {R : ℕ → ℕ → Type 0} (pair : ByAdditions new old R) {a b : ℕ} (r : R a b) where
  -- ---- the names of an object

  abbrev TakenAll : List Entry → List Entry → Type 0
  TakenAll es fs = (xs ys : List Entry) → Met old R b xs ys → (zs : List Entry) → names_good new a xs es ≡ ok zs → Taken old R b zs ys fs

  name-taken : (e f : Entry) (es fs : List Entry) → TwinEntry old R e f → TakenAll es fs → TakenAll (e ∷ es) (f ∷ fs)
  unfolding names_good
  name-taken en eo es fs (twin_entry {s = s} h) ih xs ys k zs e = go (position new a s) refl (position old b s) refl (position-found pair r s)
    where
      go : (x : Option ℕ) → position new a s ≡ x → (y : Option ℕ) → position old b s ≡ y → Found (count_of old b) (count_of new a) x y → Taken old R b zs ys (eo ∷ fs)
      go x v y w (known l) =
          let q = first-met new a en xs es zs _ v e in
          let n = not-met s (λ u. let z : ◌≡◌ {A = ℕ} 0 1 = cc in omega arith) q.0 k in
          let t = ih (en ∷ xs) (eo ∷ ys) (both (twin_entry h) k) zs q.1 in
          record { list = t.list; good = rw (w, n, names_good) t.good; met = t.met }
      go x v y w (added l u) =
          let q = first-met new a en xs es zs _ v e in
          let t = ih (en ∷ xs) ys (newer w k) zs q.1 in
          record { list = t.list; good = rw (w, pair.grown a b r (omega arith), names_good) t.good; met = t.met }
      go x v y w neither =
          let q = skipped new a en xs es zs v e in
          let t = ih xs ys k zs q.1 in
          let g : extensible old b ≡ true = sym (extensible-same pair r) ∙ q.0 in
          record { list = t.list; good = rw (w, g, names_good) t.good; met = t.met }

  names-taken : {es fs : List Entry} → Each (TwinEntry old R) es fs → TakenAll es fs
  unfolding names_good
  names-taken end xs ys k zs e = record { list = ys; good = refl; met = rw (← got e) k }
  names-taken (more {e = c} {f = d} {es = cs} {fs = ds} t ts) xs ys k zs e = name-taken c d cs ds t (names-taken ts) xs ys k zs e

  -- ---- members in table order

  null-absent-same : (i : ℕ) → i < count_of old b → null_absent new a i ≡ null_absent old b i
  unfolding null_absent
  null-absent-same i l = rw (pair.optionals a b i r l, null-same pair (pair.types a b i r l))

  member-agrees : {x y : Option Entry} (o i n : ℕ) (u w : Res Parts) → i < count_of old b → Looked old R x y → PartsAgree old b (suc i) n u w
      → PartsAgree old b i (suc n) (read_member new a o i x u) (read_member old b o i y w)
  unfolding read_member
  member-agrees o i n u w l absent h ps e =
      cases (may_miss old b i)
      (λ q f. rw (q, read_member) (absent-agrees old b i n u w h ps f))
      (λ q f. refused f)
      (rw (miss-same pair r i l, read_member) at e)
  member-agrees o i n u w l (present (twin_entry {z = z} t)) h ps e =
      cases (z && null_absent old b i)
      (λ q f. rw (q, read_member) (absent-agrees old b i n u w h ps f))
      (λ q f. rw (q, read_member) (present-agrees old b i n _ _ u w (t _ _ (pair.types a b i r l)) h ps f))
      (rw (null-absent-same i l, read_member) at e)

  members-agree : {es fs : List Entry} (o i n m : ℕ) → i + n ≡ count_of old b → i + m ≡ count_of new a → Met old R b es fs
      → PartsAgree old b i n (read_members new a o es i m) (read_members old b o fs i n)
  unfolding read_members
  members-agree o i zero m p q k = none-agree old b i _
  members-agree o i (suc n) zero p q k = absurd (let z = pair.fewer a b r in omega arith)
  members-agree o i (suc n) (suc m) p q k =
      let l : i < count_of old b = omega arith in
      member-agrees o i n _ _ l (rw (pair.names a b i r l) (looked (name_at old b i) (own_name old b i l) k)) (members-agree o (suc i) n m (omega arith) (omega arith) k)

  object-agrees : {es fs : List Entry} (o : ℕ) → Each (TwinEntry old R) es fs → (v : Val) → read_object new o es a ≡ ok v → AgreesAt old b (read_object old o fs b) v
  unfolding read_object bind cut lacks
  object-agrees {es} o t v e =
      let g = steps (names_good new a [] es) _ v e in
      let k = names-taken t [] [] empty g.val g.first in
      let p = steps (read_members new a o g.val 0 (count_of new a)) _ v g.then in
      rw (← got p.then) (rw k.good (agrees-map v_seq (members-agree o 0 (count_of old b) (count_of new a) (omega arith) (omega arith) k.met p.val p.first)))

  sequence-agrees : {es fs : List Entry} (o : ℕ) → Each (TwinEntry old R) es fs → (v : Val)
      → elim (eqb (kind_of new a) SEQUENCE && not (is_array new a)) as (λ c. Res Val) [ true ↦ read_object new o es a | false ↦ at OtherKind o ] ≡ ok v
      → AgreesAt old b (elim (eqb (kind_of old b) SEQUENCE && not (is_array old b)) as (λ c. Res Val) [ true ↦ read_object old o fs b | false ↦ at OtherKind o ]) v
  sequence-agrees o t v e =
      cases (eqb (kind_of old b) SEQUENCE && not (is_array old b)) (λ w f. rw w (object-agrees o t v f)) (λ w f. refused f) (rw (kind-same pair r, array_same pair r) at e)

  -- ---- a wrapped choice

  chosen-agrees : {e f : Entry} {x y : Option ℕ} (o : ℕ) → TwinEntry old R e f → Found (count_of old b) (count_of new a) x y → (v : Val)
      → read_chosen new a o e x ≡ ok v → AgreesAt old b (read_chosen old b o f y) v
  unfolding read_chosen
  chosen-agrees o (twin_entry h) (known {i = i} l) v e = chosen-known pair a b i r l h v e
  chosen-agrees o (twin_entry h) (added {i = i} l u) v e = rw (pair.grown a b r (omega arith), read_chosen) (chosen-added pair b i o l _ v e)
  chosen-agrees o (twin_entry h) neither v e = refused-both (extensible new a) _ _ e

  choice-agrees : {es fs : List Entry} (o : ℕ) → Each (TwinEntry old R) es fs → (v : Val) → read_choice new a o es ≡ ok v → AgreesAt old b (read_choice old b o fs) v
  unfolding read_choice
  choice-agrees o end v e = refused e
  choice-agrees o (more (twin_entry {s = s} h) end) v e = chosen-agrees o (twin_entry h) (position-found pair r s) v e
  choice-agrees o (more t (more u ts)) v e = refused e

-- ---- an object

pub braces_follow : {new old : Table} {R : ℕ → ℕ → Type 0} (pair : ByAdditions new old R) {es fs : List Entry} (o : ℕ) → Each (TwinEntry old R) es fs
    → Follows old R (read_braces new o es) (read_braces old o fs)
unfolding read_braces
braces_follow {new} {old} pair o t a b r v e =
    cases (eqb (kind_of old b) CHOICE)
    (λ w f. rw (w, read_braces) (choice-agrees pair r o t v f))
    (λ w f. rw (w, read_braces) (sequence-agrees pair r o t v f))
    (rw (kind-same pair r, read_braces) at e)
