-- What is printed for a line that was taken, and for one that is bad.
use Prim.Native.Nat.{ℕ, suc, ◌+◌, ◌≤◌}
use mathlib.Core.Path.{◌≡◌, refl, sym, ap, ◌∙◌}
use mathlib.Core.List.{List, ◌++◌}
use Rattle.std.specs.Prelude.{Option, None, Some}
use native.Mathlib.Omega.{arith}
use lib.ListN.{length, take, drop}
use lib.Seq.{sets, sets-eq, take_at, drop-drop}
use Rattle.jer.specs.Octets.{also}
use Rattle.jer.specs.Answer.{values}
use Rattle.jer.specs.Programs.{line_from, line_at, numbers_in, refusal_line, with_line}
use Rattle.lines.specs.Taken.{numbers_line, taken_of, after}
use Rattle.lines.specs.declared.taken.Taken.{Taken}
use Rattle.lines.proofs.TakenLaws.{line_rest, octets-few, numbers-few}

-- ---- what taking a line answered

module _ (s : List ℕ) (at : ℕ) where
  is_none : (o : Option (List ℕ)) → None ≡ taken_of s at o → o ≡ None
  unfolding taken_of
  is_none None e = refl
  is_none (Some xs) e = absurd (let z : ◌≡◌ {A = ℕ} 0 1 = cc in omega arith)

  -- a line of so many octets or numbers was taken, and p is the place after it
  record Given (o : Option (List ℕ)) (n p : ℕ) : Type 0 where
    pub xs : List ℕ
    pub is : o ≡ Some xs
    pub count : length xs ≡ n
    pub next : p ≡ at + length (line_from (drop at s)).bytes + 1

  given : (o : Option (List ℕ)) {t : Taken} → Some t ≡ taken_of s at o → Given o t.count t.next
  unfolding taken_of
  given None e = absurd (let z : ◌≡◌ {A = ℕ} 0 1 = cc in omega arith)
  given (Some xs) {t} e =
      let w : t ≡ record { count = length xs; next = at + length (line_from (drop at s)).bytes + 1 } = cc in
      record { xs = xs; is = refl; count = sym (ap (λ (x : Taken). x.count) w); next = ap (λ (x : Taken). x.next) w }

  module _ {o : Option (List ℕ)} {n p : ℕ} (g : Given o n p) where
    given-rest : drop p s ≡ (line_from (drop at s)).rest
    given-rest =
        let k = length (line_from (drop at s)).bytes in
        let e : p ≡ at + suc k = omega (arith, g.next) in
        ap (λ (j : ℕ). drop j s) e ∙ sym (drop-drop (suc k) at s) ∙ line_rest (drop at s)

    given-first : (out : List ℕ) {m : List ℕ} → m ≡ after out o → length g.xs ≤ length out → take n m ≡ g.xs
    unfolding after
    given-first out {m} e h =
        let f : m ≡ sets out 0 g.xs = e ∙ ap (after out) g.is in
        let k : sets out 0 g.xs ≡ g.xs ++ drop (0 + length g.xs) out = sets-eq g.xs out 0 (omega arith) in
        ap (take n) (f ∙ k) ∙ take_at g.xs (drop (0 + length g.xs) out) n g.count

-- ---- what is printed for it

module _ (i n : ℕ) (l : List ℕ) (f : List ℕ → List ℕ → List ℕ) where
  with_bad : line_at n l ≡ None → refusal_line (values 15 i 0) ≡ with_line i n l f
  unfolding with_line
  with_bad e = rw (e, with_line)

  with_good : {os : List ℕ} → line_at n l ≡ Some os → f os (line_from l).rest ≡ with_line i n l f
  unfolding with_line
  with_good e = rw (e, with_line)

module _ (i : ℕ) (s : List ℕ) (at : ℕ) (f : List ℕ → List ℕ → List ℕ) where
  pub octets-refused : None ≡ taken_of s at (line_at 1 (drop at s)) → refusal_line (values 15 i 0) ≡ with_line i 1 (drop at s) f
  octets-refused e = with_bad i 1 (drop at s) f (is_none s at (line_at 1 (drop at s)) e)

  pub octets-given : (out : List ℕ) {m : List ℕ} {t : Taken} → 8192 ≤ length out → Some t ≡ taken_of s at (line_at 1 (drop at s)) → m ≡ after out (line_at 1 (drop at s))
      → f (take t.count m) (drop t.next s) ≡ with_line i 1 (drop at s) f
  octets-given out h e k =
      let g = given s at (line_at 1 (drop at s)) e in
      rw (given-first s at g out k (omega (arith, octets-few 1 (drop at s) g.is)), given-rest s at g) (with_good i 1 (drop at s) f g.is)

  -- numbers of eight digits
  abbrev counted : List ℕ → List ℕ → List ℕ
  counted os rest = f (numbers_in os) rest

  numbers_of : (o : Option (List ℕ)) (xs : List ℕ) → also o (λ os. Some (numbers_in os)) ≡ Some xs → (os : List ℕ) × (o ≡ Some os) × (numbers_in os ≡ xs)
  unfolding also
  numbers_of None xs e = absurd (let z : ◌≡◌ {A = ℕ} 0 1 = cc in omega arith)
  numbers_of (Some os) xs e = (os, refl, cc)

  none_of : (o : Option (List ℕ)) → also o (λ os. Some (numbers_in os)) ≡ None → o ≡ None
  unfolding also
  none_of None e = refl
  none_of (Some os) e = absurd (let z : ◌≡◌ {A = ℕ} 0 1 = cc in omega arith)

  pub numbers-refused : None ≡ taken_of s at (numbers_line (drop at s)) → refusal_line (values 15 i 0) ≡ with_line i 4 (drop at s) (λ os rest. f (numbers_in os) rest)
  unfolding numbers_line
  numbers-refused e = with_bad i 4 (drop at s) counted (none_of (line_at 4 (drop at s)) (is_none s at (numbers_line (drop at s)) e))

  pub numbers-given : (out : List ℕ) {m : List ℕ} {t : Taken} → 2048 ≤ length out → Some t ≡ taken_of s at (numbers_line (drop at s)) → m ≡ after out (numbers_line (drop at s))
      → f (take t.count m) (drop t.next s) ≡ with_line i 4 (drop at s) (λ os rest. f (numbers_in os) rest)
  unfolding numbers_line
  numbers-given out h e k =
      let g = given s at (numbers_line (drop at s)) e in
      let w = numbers_of (line_at 4 (drop at s)) g.xs g.is in
      rw (given-first s at g out k (omega (arith, numbers-few (drop at s) g.is)), given-rest s at g, ← w.2) (with_good i 4 (drop at s) counted w.1)
