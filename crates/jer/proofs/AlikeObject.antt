-- Objects whose members are read alike, if the type knows them: as SEQUENCE and as wrapped CHOICE.
use Rattle.std.specs.Prelude.{is_some}
use Prim.Native.Nat.{ℕ, zero, suc, ◌+◌}
use mathlib.Core.Path.{◌≡◌, refl}
use mathlib.Core.List.{List, ◌∷◌}
use mathlib.Core.Bool.{Bool, true, false, ◌&&◌, not}
use Rattle.std.specs.Prelude.{Option, None, Some}
use native.Mathlib.Omega.{arith}
use lib.Dec.{eqb}
use borrow.Author.Tests.{eqb-true}
use Rattle.jer.specs.declared.Cause.TheVariants.{OtherKind}
use Rattle.jer.specs.declared.Refusal.{Refusal}
use Rattle.jer.specs.Table.{Table, SEQUENCE, CHOICE, kind_of, is_type, extensible, is_array, count_of, type_at, name_at, may_miss, same_bytes, position}
use Rattle.jer.specs.Value.{Val, v_seq, Parts}
use Rattle.jer.specs.Answer.{Res, ok, no, bind, at, number_of}
use Rattle.jer.specs.Read.{Meaning, Entry, lookup, names_good, null_absent, read_member, read_members, read_object, read_chosen, read_choice, read_braces}
use Rattle.jer.specs.Skipped.{SameAnswer, same_value, same_number}
use Rattle.jer.specs.Sane.{Sane}
use Rattle.jer.proofs.ValidLaws.{same_bytes-eq, position-of}
use Rattle.jer.proofs.ValidRows.{both, sequence-type}
use Rattle.jer.proofs.OlderAgrees.{Each, end, more}
use Rattle.jer.proofs.AlikeSame.{same_cause, same_map, same_test}
use Rattle.jer.proofs.AlikeArray.{same-absent, same-present}

module _ (t : Table) (r : ℕ) where
  -- two meanings under the name s that the row r reads alike, if it knows the name
  abbrev pub Named : List ℕ → Bool → Bool → Meaning → Meaning → Type 0
  Named s z y m n = (i : ℕ) → position t r s ≡ Some i → (z ≡ y) × SameAnswer (m (type_at t r i)) (n (type_at t r i))

  pub data Twin : Entry → Entry → Type 0 where
    twin : {p q : ℕ} {s : List ℕ} {z y : Bool} {m n : Meaning} → Named s z y m n
        → Twin record { place = p; name = s; is_null = z; means = m } record { place = q; name = s; is_null = y; means = n }

  -- ---- looking a name up

  data Looked (s : List ℕ) : Option Entry → Option Entry → Type 0 where
    nothing : Looked s None None
    found : {e f : Entry} → Named s e.is_null f.is_null e.means f.means → Looked s (Some e) (Some f)

  looked : (s : List ℕ) {es fs : List Entry} → Each Twin es fs → Looked s (lookup s es) (lookup s fs)
  unfolding lookup
  looked s end = nothing
  looked s (more {es = es} {fs = fs} (twin {p = p} {q = q} {s = u} {z = z} {y = y} {m = m} {n = n} h) t) = go (same_bytes u s) refl (looked s t)
    where
      go : (c : Bool) → same_bytes u s ≡ c → Looked s (lookup s es) (lookup s fs)
          → Looked s (lookup s (record { place = p; name = u; is_null = z; means = m } ∷ es)) (lookup s (record { place = q; name = u; is_null = y; means = n } ∷ fs))
      go true w ih = rw (w, lookup) (found (rw (same_bytes-eq u s w) at h))
      go false w ih = rw (w, lookup) ih

  -- ---- the names of an object

  data Met : Res (List Entry) → Res (List Entry) → Type 0 where
    met : {xs ys : List Entry} → Each Twin xs ys → Met (ok xs) (ok ys)
    refused : {e f : Refusal} → number_of e ≡ number_of f → Met (no e) (no f)

  seen_same : (s : List ℕ) {xs ys : List Entry} → Each Twin xs ys → is_some (lookup s xs) ≡ is_some (lookup s ys)
  seen_same s {xs} {ys} h = go (looked s h)
    where
      go : {x y : Option Entry} → Looked s x y → is_some x ≡ is_some y
      go nothing = refl
      go (found h) = refl

  name-met : (es fs : List Entry) {e f : Entry} {xs ys : List Entry} → Twin e f → Each Twin xs ys → Met (names_good t r xs es) (names_good t r ys fs) → Met (names_good t r (e ∷ xs) es) (names_good t r (f ∷ ys) fs)
      → Met (names_good t r xs (e ∷ es)) (names_good t r ys (f ∷ fs))
  unfolding names_good number_of
  name-met es fs {e} {f} {xs} {ys} (twin {s = s} h) m skip keep = go (position t r s) refl
    where
      skipping : (c : Bool) → extensible t r ≡ c → position t r s ≡ None → Met (names_good t r xs (e ∷ es)) (names_good t r ys (f ∷ fs))
      skipping true x w = rw (w, x, names_good) skip
      skipping false x w = rw (w, x, names_good) (refused refl)

      keeping : (c : Bool) → is_some (lookup s ys) ≡ c → (i : ℕ) → position t r s ≡ Some i → Met (names_good t r xs (e ∷ es)) (names_good t r ys (f ∷ fs))
      keeping true x i w = rw (w, seen_same s m, x, names_good) (refused refl)
      keeping false x i w = rw (w, seen_same s m, x, names_good) keep

      go : (x : Option ℕ) → position t r s ≡ x → Met (names_good t r xs (e ∷ es)) (names_good t r ys (f ∷ fs))
      go None w = skipping (extensible t r) refl w
      go (Some i) w = keeping (is_some (lookup s ys)) refl i w

  names-met : {es fs xs ys : List Entry} → Each Twin es fs → Each Twin xs ys → Met (names_good t r xs es) (names_good t r ys fs)
  unfolding names_good
  names-met end m = met m
  names-met (more {es = es} {fs = fs} h t) m = name-met es fs h m (names-met t m) (names-met t (more h m))

  -- ---- members in table order

  member-same : (o u i : ℕ) {x y : Option Entry} {v w : Res Parts} → position t r (name_at t r i) ≡ Some i → Looked (name_at t r i) x y → SameAnswer v w
      → SameAnswer (read_member t r o i x v) (read_member t r u i y w)
  unfolding read_member
  member-same o u i a nothing h = same_test (may_miss t r i) (same-absent h) (same_cause _ o u)
  member-same o u i a (found {e = e} {f = f} k) h =
      let b = k i a in rw (b.0, read_member) (same_test (f.is_null && null_absent t r i) (same-absent h) (same-present b.1 h))

  module _ (g : Sane t) (k : is_type t r ≡ true) (o u : ℕ) where
    members-same : (i n : ℕ) {xs ys : List Entry} → i + n ≡ count_of t r → Each Twin xs ys → SameAnswer (read_members t r o xs i n) (read_members t r u ys i n)
    unfolding read_members
    members-same i zero c h = same_value
    members-same i (suc n) c h = member-same o u i (position-of t r i g k (omega arith)) (looked (name_at t r i) h) (members-same (suc i) n (omega arith) h)

    object-same : {es fs : List Entry} → Each Twin es fs → SameAnswer (read_object t o es r) (read_object t u fs r)
    unfolding read_object bind
    object-same h = go (names-met h end)
      where
        go : {x y : Res (List Entry)} → Met x y
            → SameAnswer (bind x (λ xs. bind (read_members t r o xs 0 (count_of t r)) (λ ps. ok (v_seq ps)))) (bind y (λ ys. bind (read_members t r u ys 0 (count_of t r)) (λ ps. ok (v_seq ps))))
        go (met m) = same_map v_seq (members-same 0 (count_of t r) (omega arith) m)
        go (refused n) = same_number n

  -- ---- a wrapped choice

  chosen-same : (o u : ℕ) {e f : Entry} → Twin e f → SameAnswer (read_chosen t r o e (position t r e.name)) (read_chosen t r u f (position t r f.name))
  unfolding read_chosen
  chosen-same o u {e} {f} (twin {s = s} h) = go (position t r s) h
    where
      go : (x : Option ℕ) → ((i : ℕ) → x ≡ Some i → (e.is_null ≡ f.is_null) × SameAnswer (e.means (type_at t r i)) (f.means (type_at t r i))) → SameAnswer (read_chosen t r o e x) (read_chosen t r u f x)
      go None k = same_test (extensible t r) (same_cause _ o u) (same_cause _ _ _)
      go (Some i) k = same_map _ (k i refl).1

  choice-same : (o u : ℕ) {es fs : List Entry} → Each Twin es fs → SameAnswer (read_choice t r o es) (read_choice t r u fs)
  unfolding read_choice
  choice-same o u end = same_cause _ o u
  choice-same o u (more h end) = chosen-same o u h
  choice-same o u (more h (more k t)) = same_cause _ o u

-- ---- an object

pub braces-same : (t : Table) (r o u : ℕ) → Sane t → {es fs : List Entry} → Each (Twin t r) es fs → SameAnswer (read_braces t o es r) (read_braces t u fs r)
unfolding read_braces
braces-same t r o u g {es} {fs} h =
    same_test (eqb (kind_of t r) CHOICE) (choice-same t r o u h) (sequence (eqb (kind_of t r) SEQUENCE && not (is_array t r)) refl)
  where
    sequence : (c : Bool) → (eqb (kind_of t r) SEQUENCE && not (is_array t r)) ≡ c
        → SameAnswer {A = Val} (elim c [ true ↦ read_object t o es r | false ↦ at OtherKind o ]) (elim c [ true ↦ read_object t u fs r | false ↦ at OtherKind u ])
    sequence true w = object-same t r g (sequence-type t r (eqb-true (kind_of t r) SEQUENCE ((both _ _).0 w).0)) o u h
    sequence false w = same_cause _ o u
