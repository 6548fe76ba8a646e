-- What a chain over a range tells: `every` and `first_where` over any test f. Assumes nothing.
use mathlib.Core.Path.{◌≡◌, refl, ◌∙◌}
use mathlib.Core.Bool.{Bool, true, false, cond, ◌&&◌}
use Rattle.std.specs.Prelude.{Option, None, Some}
use Prim.Native.Nat.{ℕ, zero, suc, ◌+◌, ◌<◌}
use native.Mathlib.Numerals.{add-one}
use native.Mathlib.Omega.{arith}
use Rattle.std.specs.Option.{option_map}
use lib.ListN.{length, get_or}
use Rattle.std.specs.Bool.{MatchBool}
use Rattle.std.specs.List.{AllWithin, list_all, find, range_with_len}
use Rattle.std.proofs.lemmas.Bool.{MatchBool-at_true}
use Rattle.std.proofs.lemmas.List.FromFn.{length-range_with_len, get_or-range_with_len}
use Rattle.jer.specs.Table.{first_where}
use Rattle.jer.specs.Valid.{every}

pub every-list : (f : ℕ → Bool) (i n : ℕ) → list_all f (range_with_len i n) ≡ every f i n
unfolding every
every-list f i zero = refl
every-list f i (suc n) =
    elim (f i) as (λ b. (b && list_all f (range_with_len (i + 1) n)) ≡ elim b [ true ↦ every f (suc i) n | false ↦ false ])
    [ true ↦ rw (add-one i) (every-list f (suc i) n) | false ↦ refl ]

pub first-list : (f : ℕ → Bool) (i n : ℕ) → find f (range_with_len i n) ≡ first_where f i n
unfolding first_where
first-list f i zero = refl
first-list f i (suc n) =
    elim (f i) as (λ b. cond b (Some i) (find f (range_with_len (i + 1) n)) ≡ elim b [ true ↦ Some i | false ↦ first_where f (suc i) n ])
    [ true ↦ refl | false ↦ rw (add-one i) (first-list f (suc i) n) ]

pub map-same : {A : Type 0} (o : Option A) → option_map (λ x. x) o ≡ o
map-same None = refl
map-same (Some x) = refl

-- what `all` told of a range from 0 holds of each number below its end
pub told-below : (P : ℕ → Type 0) (Q : Type 0) (n : ℕ) {r : Bool} → MatchBool r (AllWithin P (range_with_len 0 n) 0 (length (range_with_len 0 n))) Q → r ≡ true → (i : ℕ) → i < n → P i
told-below P Q n m h i l =
    let a = MatchBool-at_true (AllWithin P (range_with_len 0 n) 0 (length (range_with_len 0 n))) Q h m in
    let e : length (range_with_len 0 n) ≡ n = length-range_with_len 0 n in
    let z : 0 + i ≡ i = omega arith in
    let g : get_or (range_with_len 0 n) i i ≡ i = get_or-range_with_len 0 n i i l ∙ z in
    rw g at (a i i (omega arith) (omega arith))
