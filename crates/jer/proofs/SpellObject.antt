-- Objects: the members of a sequence are found by their names, and those that are absent are not.
use Rattle.std.specs.Prelude.{is_some}
use Prim.Native.Nat.{ℕ, zero, suc, ◌+◌, ◌≤◌, ◌<◌}
use mathlib.Core.Path.{◌≡◌, refl, ap, ◌∙◌}
use mathlib.Core.List.{List, [], ◌∷◌}
use mathlib.Core.Bool.{Bool, true, false, ◌&&◌, and-false}
use Rattle.std.specs.Prelude.{Option, None, Some}
use native.Mathlib.Omega.{arith}
use lib.Dec.{ltb}
use borrow.Author.Tests.{ltb-true, ltb-false}
use Rattle.json_text.specs.Tree.{Json, Members, mnil, mcons}
use Rattle.jer.specs.Table.{Table, is_type, count_of, type_at, name_at, may_miss, same_bytes, position}
use Rattle.jer.specs.Value.{Val, v_seq, Parts, pnil, absent, present}
use Rattle.jer.specs.Answer.{Res, ok, bind}
use Rattle.jer.specs.Read.{Entry, lookup, names_good, null_absent, read_member, read_members, read_object, null?, read, entries}
use Rattle.jer.specs.Cut.{absents}
use Rattle.jer.specs.Sane.{Sane}
use Rattle.jer.proofs.ValidLaws.{same_bytes-eq, same_bytes-refl, position-of}
use Rattle.jer.proofs.SpellRead.{null-is-value, value_takes_null}
use Rattle.jer.proofs.SpellArray.{with_absent_lem, with_present_lem}

-- null is a value of the member, not its absence
null-present : (t : Table) (r i : ℕ) (j : Json) (w : Val) → read j t (type_at t r i) ≡ ok w → (null? j && null_absent t r i) ≡ false
unfolding null_absent
null-present t r i j w e = go (null? j) refl
  where
    go : (c : Bool) → null? j ≡ c → (c && null_absent t r i) ≡ false
    go true n = rw (value_takes_null t (type_at t r i) w (null-is-value j t (type_at t r i) w n e), and-false)
    go false n = refl

-- ---- one entry

lookup-here : (e : Entry) (es : List Entry) (s : List ℕ) → e.name ≡ s → lookup s (e ∷ es) ≡ Some e
unfolding lookup
lookup-here e es s q = let h : same_bytes e.name s ≡ true = ap (λ (x : List ℕ). same_bytes x s) q ∙ same_bytes-refl s in rw (h, lookup)

lookup-other : (e : Entry) (es : List Entry) (s : List ℕ) → same_bytes e.name s ≡ false → lookup s (e ∷ es) ≡ lookup s es
unfolding lookup
lookup-other e es s h = rw (h, lookup)

name-good : (t : Table) (r i : ℕ) (e : Entry) (met es : List Entry) → position t r e.name ≡ Some i → lookup e.name met ≡ None → names_good t r met (e ∷ es) ≡ names_good t r (e ∷ met) es
unfolding names_good
name-good t r i e met es p l = rw (p, l, names_good)

absent-member : (t : Table) (r o i : ℕ) (y : Option Entry) (x : Res Parts) (qs : Parts) → y ≡ None → may_miss t r i ≡ true → x ≡ ok qs → read_member t r o i y x ≡ ok (absent qs)
unfolding read_member
absent-member t r o i y x qs l m e = rw (l, m, read_member) (with_absent_lem x qs e)

present-member : (t : Table) (r o i : ℕ) (y : Option Entry) (x : Res Parts) (qs : Parts) (e : Entry) (w : Val) → y ≡ Some e → (e.is_null && null_absent t r i) ≡ false → e.means (type_at t r i) ≡ ok w → x ≡ ok qs
    → read_member t r o i y x ≡ ok (present w qs)
unfolding read_member
present-member t r o i y x qs e w l z m h = rw (l, z, read_member) (with_present_lem _ w x qs m h)

-- ---- all entries

-- entries of the members from i on, n in number, with the parts that they are read as
pub data Made (t : Table) (r : ℕ) : ℕ → ℕ → Parts → List Entry → Type 0 where
  ended : {i : ℕ} → Made t r i 0 pnil []
  without : {i n : ℕ} {qs : Parts} {es : List Entry} → may_miss t r i ≡ true → Made t r (suc i) n qs es → Made t r i (suc n) (absent qs) es
  having : {i n : ℕ} {w : Val} {qs : Parts} {e : Entry} {es : List Entry} → e.name ≡ name_at t r i → (e.is_null && null_absent t r i) ≡ false → e.means (type_at t r i) ≡ ok w
      → Made t r (suc i) n qs es → Made t r i (suc n) (present w qs) (e ∷ es)

module _ (t : Table) (g : Sane t) (r : ℕ) (k : is_type t r ≡ true) where
  -- the names of two members are not the same
  apart : (i j : ℕ) → (i ≡ j → ⊥) → i < count_of t r → j < count_of t r → same_bytes (name_at t r i) (name_at t r j) ≡ false
  apart i j d u v = go (ltb i j) refl
    where
      turned : (c : Bool) → same_bytes (name_at t r i) (name_at t r j) ≡ c → same_bytes (name_at t r j) (name_at t r i) ≡ false → c ≡ false
      turned true e h = cc (same_bytes-eq _ _ e, same_bytes-refl (name_at t r j))
      turned false e h = refl

      go : (c : Bool) → ltb i j ≡ c → same_bytes (name_at t r i) (name_at t r j) ≡ false
      go true l = g.differ r i j k (ltb-true i j l) v
      go false l = let m = ltb-false i j l in turned _ refl (g.differ r j i k (let n : i ≡ j → ⊥ = d in omega arith) u)

  entry-apart : (e : Entry) (i j : ℕ) → e.name ≡ name_at t r i → (i ≡ j → ⊥) → i < count_of t r → j < count_of t r → same_bytes e.name (name_at t r j) ≡ false
  entry-apart e i j q d u v = ap (λ (x : List ℕ). same_bytes x (name_at t r j)) q ∙ apart i j d u v

  -- the entries in the order in which their names were met
  record Gathered (i n : ℕ) (qs : Parts) (met es : List Entry) : Type 0 where
    all : List Entry
    names : names_good t r met es ≡ ok all
    before : (j : ℕ) → j < i → lookup (name_at t r j) all ≡ lookup (name_at t r j) met
    members : (o : ℕ) → read_members t r o all i n ≡ ok qs

  gather : {i n : ℕ} {qs : Parts} {es : List Entry} → Made t r i n qs es → i + n ≡ count_of t r → (met : List Entry) → ((j : ℕ) → i ≤ j → j < count_of t r → lookup (name_at t r j) met ≡ None) → Gathered i n qs met es
  unfolding names_good read_members
  gather ended c met clean = record { all = met; names = refl; before = λ j l. refl; members = λ o. refl }
  gather {i = i} (without {n = n} {qs = qs} m h) c met clean =
      let f = gather h (omega arith) met (λ j l u. clean j (omega arith) u) in
      record {
        all = f.all;
        names = f.names;
        before = λ j l. f.before j (omega arith);
        members = λ o. absent-member t r o i _ _ qs (f.before i (omega arith) ∙ clean i (omega arith) (omega arith)) m (f.members o);
      }
  gather {i = i} (having {n = n} {w = w} {qs = qs} {e = e} {es = es} q z m h) c met clean =
      let u : i < count_of t r = omega arith in
      let f = gather h (omega arith) (e ∷ met) (λ j l v. lookup-other e met _ (entry-apart e i j q (λ x. omega arith) u v) ∙ clean j (omega arith) v) in
      record {
        all = f.all;
        names = name-good t r i e met es (ap (position t r) q ∙ position-of t r i g k u) (ap (λ (x : List ℕ). lookup x met) q ∙ clean i (omega arith) u) ∙ f.names;
        before = λ j l. f.before j (omega arith) ∙ lookup-other e met _ (entry-apart e i j q (λ x. omega arith) u (omega arith));
        members = λ o. present-member t r o i _ _ qs e w (f.before i (omega arith) ∙ lookup-here e met _ q) z m (f.members o);
      }

  pub object-made : {qs : Parts} {es : List Entry} (o : ℕ) → Made t r 0 (count_of t r) qs es → read_object t o es r ≡ ok (v_seq qs)
  unfolding read_object bind lookup
  object-made o h = let f = gather h (omega arith) [] (λ j l u. refl) in rw (f.names, f.members o)

-- ---- entries of a tree

pub no_member_lem : (t : Table) (r i : ℕ) → Made t r i 0 pnil (entries mnil t)
unfolding read
no_member_lem t r i = ended

pub one-member : (t : Table) (r i n p : ℕ) (j : Json) (ms : Members) (w : Val) (qs : Parts) → read j t (type_at t r i) ≡ ok w → Made t r (suc i) n qs (entries ms t)
    → Made t r i (suc n) (present w qs) (entries (mcons p (name_at t r i) j ms) t)
unfolding read
one-member t r i n p j ms w qs e h = having refl (null-present t r i j w e) e h

-- additions that are absent
pub no_additions : (t : Table) (r i n : ℕ) → ((k : ℕ) → i ≤ k → k < i + n → may_miss t r k ≡ true) → Made t r i n (absents n) (entries mnil t)
unfolding read absents
no_additions t r i zero h = ended
no_additions t r i (suc n) h = without (h i (omega arith) (omega arith)) (no_additions t r (suc i) n (λ k l u. h k (omega arith) (omega arith)))
