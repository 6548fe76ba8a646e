-- Objects with members in any order: which names are met, and what is found under them.
use Rattle.std.specs.Prelude.{is_some}
use Prim.Native.Nat.{ℕ, zero, suc, ◌+◌, ◌≤◌, ◌<◌}
use mathlib.Core.Path.{◌≡◌, refl, sym, ◌∙◌}
use mathlib.Core.List.{List, [], ◌∷◌}
use mathlib.Core.Bool.{Bool, true, false, ◌&&◌, ◌||◌, not}
use Rattle.std.specs.Prelude.{Option, None, Some}
use native.Mathlib.Omega.{arith}
use Rattle.json_text.specs.Tree.{Json, jnull, Members, mnil, mcons}
use Rattle.jer.specs.Table.{Table, extensible, count_of, optional, type_at, name_at, may_miss, addition, same_bytes, position, null_taken}
use Rattle.jer.specs.Value.{v_seq, Parts}
use Rattle.jer.specs.Answer.{Res, ok, bind}
use Rattle.jer.specs.Read.{Entry, lookup, names_good, null_absent, read_member, read_members, read_object, null?, read, entries}
use Rattle.jer.specs.Skipped.{same_value}
use Rattle.jer.specs.Respelled.{held, NamesTaken, no_name, known, unknown}
use Rattle.jer.proofs.OlderObject.{own_name}
use Rattle.jer.proofs.ValidLaws.{same_bytes-eq, same_bytes-refl}
use Rattle.jer.proofs.WeightGot.{nothing}
use Rattle.jer.proofs.AlikeSame.{same_cause}
use Rattle.jer.proofs.AlikeKept.{Keeps, keeps_same, keeps-map, keeps-test, keeps-absent, keeps-present}

-- ---- what an object holds under a name

-- a member as the typed reading meets it
abbrev pub entry_of : Table → ℕ → List ℕ → Json → Entry
entry_of t p s j = record { place = p; name = s; is_null = null? j; means = λ r. read j t r }

pub data Holds (t : Table) : Option Json → Option Entry → Type 0 where
  empty : Holds t None None
  holds : {p : ℕ} {s : List ℕ} {j : Json} → Holds t (Some j) (Some (entry_of t p s j))

-- one member more, looked at by its name: it is found, or what is found without it
pub data Ahead (t : Table) (s : List ℕ) (p : ℕ) (u : List ℕ) (j : Json) (ms : Members) : Type 0 where
  same : u ≡ s → held (mcons p u j ms) s ≡ Some j → ((xs : List Entry) → lookup s (entry_of t p u j ∷ xs) ≡ Some (entry_of t p u j)) → Ahead t s p u j ms
  other : held (mcons p u j ms) s ≡ held ms s → ((xs : List Entry) → lookup s (entry_of t p u j ∷ xs) ≡ lookup s xs) → Ahead t s p u j ms

pub ahead : (t : Table) (s : List ℕ) (p : ℕ) (u : List ℕ) (j : Json) (ms : Members) → Ahead t s p u j ms
unfolding held lookup
ahead t s p u j ms = go (same_bytes u s) refl
  where
    go : (c : Bool) → same_bytes u s ≡ c → Ahead t s p u j ms
    go true w = same (same_bytes-eq u s w) (rw (w, held)) (λ xs. rw (w, lookup))
    go false w = other (rw (w, held)) (λ xs. rw (w, lookup))

pub held_found : (t : Table) (s : List ℕ) (ms : Members) → Holds t (held ms s) (lookup s (entries ms t))
unfolding held lookup read
held_found t s mnil = empty
held_found t s (mcons p u j ms) = go (ahead t s p u j ms) (held_found t s ms)
  where
    go : Ahead t s p u j ms → Holds t (held ms s) (lookup s (entries ms t)) → Holds t (held (mcons p u j ms) s) (lookup s (entry_of t p u j ∷ entries ms t))
    go (same w h l) ih = rw (h, l (entries ms t)) holds
    go (other h l) ih = rw (h, l (entries ms t)) ih

-- ---- the names met

-- nothing that was met is held by what follows
abbrev Apart : List Entry → Members → Type 0
Apart xs ms = (s : List ℕ) (e : Entry) → lookup s xs ≡ Some e → held ms s ≡ None

-- what was met before, or else what is found later
unfoldable either : Option Entry → Option Entry → Option Entry
either None y = y
either (Some e) y = Some e

either-none : (x : Option Entry) → x ≡ either x None
unfolding either
either-none None = refl
either-none (Some e) = refl

record Meets (t : Table) (r : ℕ) (xs : List Entry) (ms : Members) : Type 0 where
  list : List Entry
  good : names_good t r xs (entries ms t) ≡ ok list
  finds : (s : List ℕ) → (position t r s ≡ None → ⊥) → lookup s list ≡ either (lookup s xs) (lookup s (entries ms t))

module _ (t : Table) (r p : ℕ) (u : List ℕ) (j : Json) (ms : Members) (xs : List Entry) where
  not-met : Apart xs (mcons p u j ms) → lookup u xs ≡ None
  unfolding held
  not-met a = go (lookup u xs) refl
    where
      go : (x : Option Entry) → lookup u xs ≡ x → x ≡ None
      go None w = refl
      go (Some e) w = absurd (let h : Some j ≡ None = rw (same_bytes-refl u, held) at (a u e w) in nothing (sym h))

  apart-known : held ms u ≡ None → Apart xs (mcons p u j ms) → Apart (entry_of t p u j ∷ xs) ms
  apart-known h a s e w = go (ahead t s p u j ms)
    where
      go : Ahead t s p u j ms → held ms s ≡ None
      go (same v k l) = rw v at h
      go (other k l) = sym k ∙ a s e (sym (l xs) ∙ w)

  apart-unknown : Apart xs (mcons p u j ms) → Apart xs ms
  apart-unknown a s e w = go (ahead t s p u j ms)
    where
      go : Ahead t s p u j ms → held ms s ≡ None
      go (same v k l) = nothing (sym (a s e w) ∙ k)
      go (other k l) = sym k ∙ a s e w

  meets-known : (i : ℕ) → position t r u ≡ Some i → Apart xs (mcons p u j ms) → Meets t r (entry_of t p u j ∷ xs) ms → Meets t r xs (mcons p u j ms)
  unfolding names_good either read
  meets-known i k a m = record { list = m.list; good = rw (k, not-met a, names_good) m.good; finds = λ s n. m.finds s n ∙ go s (ahead t s p u j ms) }
    where
      go : (s : List ℕ) → Ahead t s p u j ms → either (lookup s (entry_of t p u j ∷ xs)) (lookup s (entries ms t)) ≡ either (lookup s xs) (lookup s (entry_of t p u j ∷ entries ms t))
      go s (same v k l) = let n : lookup s xs ≡ None = rw v at (not-met a) in rw (l xs, n, l (entries ms t))
      go s (other k l) = rw (l xs, l (entries ms t))

  meets-unknown : position t r u ≡ None → extensible t r ≡ true → Meets t r xs ms → Meets t r xs (mcons p u j ms)
  unfolding names_good read
  meets-unknown k x m = record { list = m.list; good = rw (k, x, names_good) m.good; finds = λ s n. m.finds s n ∙ go s n (ahead t s p u j ms) }
    where
      go : (s : List ℕ) → (position t r s ≡ None → ⊥) → Ahead t s p u j ms → either (lookup s xs) (lookup s (entries ms t)) ≡ either (lookup s xs) (lookup s (entry_of t p u j ∷ entries ms t))
      go s n (same v _ l) = absurd (n (rw v at k))
      go s n (other _ l) = rw (l (entries ms t))

meets : (t : Table) (r : ℕ) {ms : Members} → NamesTaken t r ms → (xs : List Entry) → Apart xs ms → Meets t r xs ms
unfolding names_good read lookup
meets t r no_name xs a = record { list = xs; good = refl; finds = λ s n. either-none (lookup s xs) }
meets t r (known {p = p} {i = i} {s = s} {j = j} {ms = ms} k h n) xs a = meets-known t r p s j ms xs i k a (meets t r n (entry_of t p s j ∷ xs) (apart-known t r p s j ms xs h a))
meets t r (unknown {p = p} {s = s} {j = j} {ms = ms} k x n) xs a = meets-unknown t r p s j ms xs k x (meets t r n xs (apart-unknown t r p s j ms xs a))

-- the names of an object are good, and under the name of each member stands what the object holds
pub record Listed (t : Table) (r : ℕ) (ms : Members) : Type 0 where
  pub list : List Entry
  pub good : names_good t r [] (entries ms t) ≡ ok list
  pub finds : (i : ℕ) → i < count_of t r → Holds t (held ms (name_at t r i)) (lookup (name_at t r i) list)

pub listed : (t : Table) (r : ℕ) {ms : Members} → NamesTaken t r ms → Listed t r ms
unfolding lookup either
listed t r {ms} n =
    let m = meets t r n [] (λ s e w. nothing w) in
    record { list = m.list; good = m.good; finds = λ i l. rw (m.finds (name_at t r i) (own_name t r i l)) (held_found t (name_at t r i) ms) }

-- ---- members in table order

-- null means absent only for a member that may miss
null_misses : (t : Table) (r i : ℕ) → null_absent t r i ≡ true → may_miss t r i ≡ true
unfolding null_absent may_miss
null_misses t r i e = go (optional t r i) refl e
  where
    go : (c : Bool) → optional t r i ≡ c → (c && not (null_taken t (type_at t r i))) ≡ true → (optional t r i || addition t r i) ≡ true
    go true w h = rw w
    go false w h = cc

-- what the member i is read as where an object holds x for it, it is read as where y is held
abbrev pub MemberKept : Table → ℕ → ℕ → Option Json → Option Json → Type 0
MemberKept t r i x y = (e f : Option Entry) → Holds t x e → Holds t y f → (o u : ℕ) (v w : Res Parts) → Keeps v w → Keeps (read_member t r o i e v) (read_member t r u i f w)

module _ (t : Table) (r i : ℕ) where
  pub present-kept : (j k : Json) → null? j ≡ null? k → Keeps (read j t (type_at t r i)) (read k t (type_at t r i)) → MemberKept t r i (Some j) (Some k)
  unfolding read_member
  present-kept j k z h e f holds holds o u v w rest = rw (z, read_member) (keeps-test (null? k && null_absent t r i) (keeps-absent rest) (keeps-present h rest))

  pub absent-kept : MemberKept t r i None None
  unfolding read_member
  absent-kept e f empty empty o u v w rest = keeps-test (may_miss t r i) (keeps-absent rest) (keeps_same (same_cause _ o u))

  pub null-left : (p : ℕ) → null_absent t r i ≡ true → MemberKept t r i (Some (jnull p)) None
  unfolding read_member null?
  null-left p a e f holds empty o u v w rest = rw (a, null_misses t r i a, read_member) (keeps-absent rest)

  pub null-right : (q : ℕ) → null_absent t r i ≡ true → MemberKept t r i None (Some (jnull q))
  unfolding read_member null?
  null-right q a e f empty holds o u v w rest = rw (a, null_misses t r i a, read_member) (keeps-absent rest)

-- the same for the members from i on
abbrev pub MembersKept : Table → ℕ → ℕ → Members → Members → Type 0
MembersKept t r i ms ns = (a : Listed t r ms) (b : Listed t r ns) (o u n : ℕ) → i + n ≡ count_of t r → Keeps (read_members t r o a.list i n) (read_members t r u b.list i n)

module _ (t : Table) (r i : ℕ) (ms ns : Members) where
  pub last-kept : count_of t r ≤ i → MembersKept t r i ms ns
  unfolding read_members
  last-kept l a b o u zero c = keeps_same same_value
  last-kept l a b o u (suc n) c = absurd (omega arith)

  pub next-kept : MemberKept t r i (held ms (name_at t r i)) (held ns (name_at t r i)) → MembersKept t r (suc i) ms ns → MembersKept t r i ms ns
  unfolding read_members
  next-kept h hs a b o u zero c = keeps_same same_value
  next-kept h hs a b o u (suc n) c = h _ _ (a.finds i (omega arith)) (b.finds i (omega arith)) o u _ _ (hs a b o u n (omega arith))

pub object-kept : (t : Table) (r o u : ℕ) (ms ns : Members) → NamesTaken t r ms → NamesTaken t r ns → MembersKept t r 0 ms ns → Keeps (read_object t o (entries ms t) r) (read_object t u (entries ns t) r)
unfolding read_object bind
object-kept t r o u ms ns m n h =
    let a = listed t r m in
    let b = listed t r n in
    rw (a.good, b.good, read_object) (keeps-map v_seq (h a b o u (count_of t r) (omega arith)))
