-- Laws of searching a type's members: the first that passes a test, the position of a name, the alternative of a token.
use Rattle.jer.specs.declared.Token.{Token}
use Rattle.jer.specs.declared.Token.TheVariants as tok
use Prim.Native.Nat.{ℕ, zero, suc, ◌+◌, ◌≤◌, ◌<◌}
use mathlib.Core.Path.{◌≡◌, refl, sym, ap}
use mathlib.Core.List.{List, [], ◌∷◌}
use mathlib.Core.Bool.{Bool, true, false}
use Rattle.std.specs.Prelude.{Option, None, Some}
use native.Mathlib.Omega.{arith}
use lib.Dec.{eqb, ltb}
use lib.ListN.{get_or}
use borrow.Author.Tests.{ltb-true, ltb-false, eqb-true, eqb-false, eq-eqb, not-true}
use Rattle.jer.specs.Table.{Table, is_type, is_unwrapped, count_of, type_at, name_at, first_where, same_bytes, position, token_code, code_of, same_token, token_of, alternative}
use Rattle.jer.specs.Valid.{every, all_differ}
use Rattle.jer.specs.Sane.{Sane}

-- what a test says at i, and at j if j is later, it says at j
from_next : (f : ℕ → Bool) (c : Bool) (i j : ℕ) → f i ≡ c → i ≤ j → (suc i ≤ j → f j ≡ c) → f j ≡ c
from_next f c i j e l h = go (eqb i j) refl
  where
    go : (b : Bool) → eqb i j ≡ b → f j ≡ c
    go true w = rw (← eqb-true i j w) e
    go false w = h (let n = eqb-false i j w in omega arith)

-- ---- all positions pass

pub every-at : (f : ℕ → Bool) (i n : ℕ) → every f i n ≡ true → (j : ℕ) → i ≤ j → j < i + n → f j ≡ true
unfolding every
every-at f i zero e j l u = absurd (omega arith)
every-at f i (suc n) e j l u = go (f i) refl e (every-at f (suc i) n)
  where
    go : (c : Bool) → f i ≡ c → elim c as (λ x. Bool) [ true ↦ every f (suc i) n | false ↦ false ] ≡ true → (every f (suc i) n ≡ true → (j : ℕ) → suc i ≤ j → j < suc i + n → f j ≡ true) → f j ≡ true
    go true h w ih = from_next f true i j h l (λ m. ih w j m (omega arith))
    go false h w ih = cc

pub every-below : (f : ℕ → Bool) (n : ℕ) → every f 0 n ≡ true → (i : ℕ) → i < n → f i ≡ true
every-below f n e i u = every-at f 0 n e i (omega arith) (omega arith)

pub differ-at : (same : ℕ → ℕ → Bool) (n : ℕ) → all_differ same n ≡ true → (i j : ℕ) → i < j → j < n → same i j ≡ false
unfolding all_differ
differ-at same n e i j l u = not-true _ (every-below _ j (every-below _ n e j u) i l)

-- ---- the first position that passes

pub record First (f : ℕ → Bool) (i n k : ℕ) : Type 0 where
  pub from : i ≤ k
  pub within : k < i + n
  pub passes : f k ≡ true
  pub before : (j : ℕ) → i ≤ j → j < k → f j ≡ false

pub first_some : (f : ℕ → Bool) (i n k : ℕ) → first_where f i n ≡ Some k → First f i n k
unfolding first_where
first_some f i zero k e = absurd (let z : ◌≡◌ {A = ℕ} 0 1 = cc in omega arith)
first_some f i (suc n) k e = go (f i) refl e (first_some f (suc i) n k)
  where
    go : (c : Bool) → f i ≡ c → elim c as (λ x. Option ℕ) [ true ↦ Some i | false ↦ first_where f (suc i) n ] ≡ Some k → (first_where f (suc i) n ≡ Some k → First f (suc i) n k) → First f i (suc n) k
    go true h w ih = let q : i ≡ k = cc in record { from = omega arith; within = omega arith; passes = rw q at h; before = λ j l u. absurd (omega arith) }
    go false h w ih = let r = ih w in record { from = omega arith; within = omega arith; passes = r.passes; before = λ j l u. from_next f false i j h l (λ m. r.before j m u) }

pub first-none : (f : ℕ → Bool) (i n : ℕ) → first_where f i n ≡ None → (j : ℕ) → i ≤ j → j < i + n → f j ≡ false
unfolding first_where
first-none f i zero e j l u = absurd (omega arith)
first-none f i (suc n) e j l u = go (f i) refl e (first-none f (suc i) n)
  where
    go : (c : Bool) → f i ≡ c → ◌≡◌ {A = Option ℕ} (elim c [ true ↦ Some i | false ↦ first_where f (suc i) n ]) None → (first_where f (suc i) n ≡ None → (j : ℕ) → suc i ≤ j → j < suc i + n → f j ≡ false) → f j ≡ false
    go true h w ih = cc
    go false h w ih = from_next f false i j h l (λ m. ih w j m (omega arith))

first_least : (f : ℕ → Bool) (i n j k : ℕ) → First f i n j → i ≤ k → f k ≡ true → j ≤ k
first_least f i n j k r l e = go (ltb k j) refl
  where
    go : (b : Bool) → ltb k j ≡ b → j ≤ k
    go true w = absurd (let q = r.before k l (ltb-true k j w) in let z : ◌≡◌ {A = ℕ} 0 1 = cc in omega arith)
    go false w = ltb-false k j w

pub first_of : (f : ℕ → Bool) (i n k : ℕ) → First f i n k → first_where f i n ≡ Some k
first_of f i n k r = go (first_where f i n) refl
  where
    go : (x : Option ℕ) → first_where f i n ≡ x → x ≡ Some k
    go None w = cc (r.passes, first-none f i n w k r.from r.within)
    go (Some j) w =
        let s = first_some f i n j w in
        let down = first_least f i n j k s r.from r.passes in
        let up = first_least f i n k j r s.from s.passes in
        ap Some (omega arith)

-- ---- names

pub same_bytes-eq : (a b : List ℕ) → same_bytes a b ≡ true → a ≡ b
unfolding same_bytes
same_bytes-eq [] [] e = refl
same_bytes-eq [] (b ∷ bs) e = cc
same_bytes-eq (a ∷ xs) [] e = cc
same_bytes-eq (a ∷ xs) (b ∷ bs) e = go (eqb a b) refl e (same_bytes-eq xs bs)
  where
    go : (c : Bool) → eqb a b ≡ c → elim c as (λ x. Bool) [ true ↦ same_bytes xs bs | false ↦ false ] ≡ true → (same_bytes xs bs ≡ true → xs ≡ bs) → (a ∷ xs) ≡ (b ∷ bs)
    go true h w ih = cc (eqb-true a b h, ih w)
    go false h w ih = cc

pub same_bytes-refl : (a : List ℕ) → same_bytes a a ≡ true
unfolding same_bytes
same_bytes-refl [] = refl
same_bytes-refl (b ∷ bs) = rw (eq-eqb b b refl, same_bytes) (same_bytes-refl bs)

pub position_some : (t : Table) (r : ℕ) (s : List ℕ) (i : ℕ) → position t r s ≡ Some i → (i < count_of t r) × (same_bytes (name_at t r i) s ≡ true)
unfolding position
position_some t r s i e = let f = first_some _ 0 (count_of t r) i e in (omega arith, f.passes)

pub position-none : (t : Table) (r : ℕ) (s : List ℕ) → position t r s ≡ None → (i : ℕ) → i < count_of t r → same_bytes (name_at t r i) s ≡ false
unfolding position
position-none t r s e i u = first-none _ 0 (count_of t r) e i (omega arith) (omega arith)

pub position-of : (t : Table) (r i : ℕ) → Sane t → is_type t r ≡ true → i < count_of t r → position t r (name_at t r i) ≡ Some i
unfolding position
position-of t r i g k u = first_of _ 0 (count_of t r) i record { from = omega arith; within = omega arith; passes = same_bytes-refl (name_at t r i); before = λ j l m. g.differ r j i k m u }

-- ---- tokens

code-token : (k : Token) → get_or (tok.Null ∷ tok.Boolean ∷ tok.Number ∷ tok.String ∷ tok.Array ∷ tok.Object ∷ []) (token_code k) tok.Null ≡ k
unfolding token_code
code-token tok.Null = refl
code-token tok.Boolean = refl
code-token tok.Number = refl
code-token tok.String = refl
code-token tok.Array = refl
code-token tok.Object = refl

pub code-eq : (a b : Token) → token_code a ≡ token_code b → a ≡ b
code-eq a b e = cc (code-token a, code-token b, e)

code-known : (k : Token) → token_code k ≡ 6 → ⊥
unfolding token_code
code-known tok.Null e = omega arith
code-known tok.Boolean e = omega arith
code-known tok.Number e = omega arith
code-known tok.String e = omega arith
code-known tok.Array e = omega arith
code-known tok.Object e = omega arith

pub same_token-eq : (a b : Token) → same_token (Some a) (Some b) ≡ true → a ≡ b
unfolding same_token code_of
same_token-eq a b e = code-eq a b (eqb-true _ _ e)

same_some : (x : Option Token) (k : Token) → code_of x ≡ token_code k → x ≡ Some k
unfolding code_of
same_some None k e = absurd (code-known k (sym e))
same_some (Some j) k e = ap Some (code-eq j k e)

same_token-some : (x : Option Token) (k : Token) → same_token x (Some k) ≡ true → x ≡ Some k
unfolding same_token code_of
same_token-some x k e = same_some x k (eqb-true _ _ e)

same_token-refl : (x : Option Token) → same_token x x ≡ true
unfolding same_token
same_token-refl x = eq-eqb (code_of x) (code_of x) refl

pub alternative-some : (t : Table) (r : ℕ) (k : Token) (i : ℕ) → alternative t r k ≡ Some i → (i < count_of t r) × (token_of t (type_at t r i) ≡ Some k)
unfolding alternative
alternative-some t r k i e = let f = first_some _ 0 (count_of t r) i e in (omega arith, same_token-some _ k f.passes)

pub alternative-of : (t : Table) (r i : ℕ) (k : Token) → Sane t → is_unwrapped t r ≡ true → i < count_of t r → token_of t (type_at t r i) ≡ Some k → alternative t r k ≡ Some i
unfolding alternative
alternative-of t r i k g w u e =
    first_of _ 0 (count_of t r) i record { from = omega arith; within = omega arith; passes = rw (← e) (same_token-refl (token_of t (type_at t r i))); before = λ j l m. rw (← e) (g.tokens r j i w m u) }
