-- Paired rows of a newer and an older table: what is equal in both, and what a name or a token finds in each.
-- None of these laws asks that the tables be good.
use Rattle.std.specs.Prelude.{is_some}
use Rattle.jer.specs.declared.Token.{Token}
use Rattle.jer.specs.declared.Token.TheVariants as tok
use Prim.Native.Nat.{ℕ, zero, suc, ◌+◌, ◌≤◌, ◌<◌}
use mathlib.Core.Path.{◌≡◌, refl, sym, ◌∙◌}
use mathlib.Core.List.{List}
use mathlib.Core.Bool.{Bool, true, false, ◌&&◌, ◌||◌}
use Rattle.std.specs.Prelude.{Option, None, Some}
use native.Mathlib.Omega.{arith}
use lib.Dec.{eqb}
use Rattle.jer.specs.Table.{Table, NULL, kind_of, BASE64, ARRAY, UNWRAPPED, EXTENSIBLE, marked, extensible, is_base64, is_array, is_unwrapped, count_of, addition, may_miss, first_where, position, token_of, alternative, can_be_null, open_unwrapped, null_taken}
use Rattle.jer.specs.Cut.{ByAdditions}

-- What a search finds among all n members of the newer type, and the same search among the m of the older one.
pub data Found (m n : ℕ) : Option ℕ → Option ℕ → Type 0 where
  known : {i : ℕ} → i < m → Found m n (Some i) (Some i)
  added : {i : ℕ} → m ≤ i → i < n → Found m n (Some i) None
  neither : Found m n None None

-- past the older's members
found-added : (f : ℕ → Bool) (i k m n : ℕ) → m ≤ i → i + k ≡ n → Found m n (first_where f i k) None
unfolding first_where
found-added f i zero m n l e = neither
found-added f i (suc k) m n l e = go (f i) refl (found-added f (suc i) k m n (omega arith) (omega arith))
  where
    go : (c : Bool) → f i ≡ c → Found m n (first_where f (suc i) k) None → Found m n (first_where f i (suc k)) None
    go true w ih = rw (w, first_where) (added l (omega arith))
    go false w ih = rw (w, first_where) ih

-- A search by tests that agree on the older's members.
first_found : (f g : ℕ → Bool) (i j k m n : ℕ) → i + j ≡ m → i + k ≡ n → m ≤ n → ((x : ℕ) → x < m → f x ≡ g x) → Found m n (first_where f i k) (first_where g i j)
unfolding first_where
first_found f g i zero k m n p q l same = found-added f i k m n (omega arith) q
first_found f g i (suc j) zero m n p q l same = absurd (omega arith)
first_found f g i (suc j) (suc k) m n p q l same = go (f i) refl (first_found f g (suc i) j k m n (omega arith) (omega arith) l same)
  where
    go : (c : Bool) → f i ≡ c → Found m n (first_where f (suc i) k) (first_where g (suc i) j) → Found m n (first_where f i (suc k)) (first_where g i (suc j))
    go true w ih = let u : g i ≡ true = sym (same i (omega arith)) ∙ w in rw (w, u, first_where) (known {i = i} (omega arith))
    go false w ih = let u : g i ≡ false = sym (same i (omega arith)) ∙ w in rw (w, u, first_where) ih

-- whether null is taken, by what the token null finds: an alternative is added only if the choice is extensible
found-null : {m n : ℕ} {x y : Option ℕ} (null unwrapped grows : Bool) → Found m n x y → (m < n → grows ≡ true)
    → ((null || (unwrapped && is_some x)) || (unwrapped && grows)) ≡ ((null || (unwrapped && is_some y)) || (unwrapped && grows))
found-null null unwrapped grows (known l) h = refl
found-null null unwrapped grows neither h = refl
found-null true unwrapped grows (added l u) h = refl
found-null false true grows (added l u) h = rw (h (omega arith))
found-null false false grows (added l u) h = refl

module _ {new old : Table} {R : ℕ → ℕ → Type 0} (pair : ByAdditions new old R) {a b : ℕ} (r : R a b) where
  pub marked-same : (mark : ℕ) → marked new a mark ≡ marked old b mark
  unfolding marked
  marked-same mark = rw (pair.marks a b r)

  pub extensible-same : extensible new a ≡ extensible old b
  unfolding extensible
  extensible-same = marked-same EXTENSIBLE

  pub kind-same : kind_of new a ≡ kind_of old b
  unfolding kind_of
  kind-same = rw (pair.tags a b r)

  pub base64-same : is_base64 new a ≡ is_base64 old b
  unfolding is_base64
  base64-same = rw (kind-same, marked-same BASE64)

  pub array_same : is_array new a ≡ is_array old b
  unfolding is_array
  array_same = rw (kind-same, marked-same ARRAY)

  pub unwrapped-same : is_unwrapped new a ≡ is_unwrapped old b
  unfolding is_unwrapped
  unwrapped-same = rw (kind-same, marked-same UNWRAPPED)

  pub token-same : token_of new a ≡ token_of old b
  unfolding token_of
  token-same = rw (kind-same, marked-same 1)

  pub miss-same : (i : ℕ) → i < count_of old b → may_miss new a i ≡ may_miss old b i
  unfolding may_miss addition
  miss-same i l = rw (pair.optionals a b i r l, pair.roots a b r)

  pub position-found : (s : List ℕ) → Found (count_of old b) (count_of new a) (position new a s) (position old b s)
  unfolding position
  position-found s = first_found _ _ 0 _ _ _ _ (omega arith) (omega arith) (pair.fewer a b r) (λ i l. rw (pair.names a b i r l))

module _ {new old : Table} {R : ℕ → ℕ → Type 0} (pair : ByAdditions new old R) {a b : ℕ} (r : R a b) where
  pub alternative-found : (k : Token) → Found (count_of old b) (count_of new a) (alternative new a k) (alternative old b k)
  unfolding alternative
  alternative-found k = first_found _ _ 0 _ _ _ _ (omega arith) (omega arith) (pair.fewer a b r) (λ i l. rw (token-same pair (pair.types a b i r l)))

  pub null-same : null_taken new a ≡ null_taken old b
  unfolding null_taken can_be_null open_unwrapped
  null-same =
      rw (kind-same pair r, unwrapped-same pair r, extensible-same pair r)
      (found-null (eqb (kind_of old b) NULL) (is_unwrapped old b) (extensible old b) (alternative-found tok.Null) (pair.grown a b r))
