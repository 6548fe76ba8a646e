-- Stretches of a text: none, the bytes that stand there, and one after another.
use Prim.Native.Nat.{ℕ, zero, suc, ◌+◌, ◌<◌, ◌≤◌}
use mathlib.Core.Path.{◌≡◌, refl, sym, ap, ◌∙◌}
use mathlib.Core.List.{List, [], ◌∷◌, ◌++◌, append_assoc}
use native.Mathlib.Nat.{add-zero}
use native.Mathlib.Numerals.{add-one}
use native.Mathlib.Omega.{arith}
use lib.ListN.{length, get_or, drop, length-drop, length-append}
use lib.Seq.{drop-cons}
use Prim.Native.Nat.{max}
use mathlib.Core.Bool.{Bool, true, false}
use borrow.Author.Tests.{leb-true, leb-false}
use lib.Dec.{leb}
use Rattle.std.specs.Prelude.{Some}
use Rattle.std.specs.Option.{unwrap_or}
use Rattle.std.specs.List.{find, range_with_len}
use mathlib.Core.Bool.{cond}
use Rattle.json_text.specs.Bytes.{past}
use Rattle.tokens.specs.Places.{byte_at}
use Rattle.tokens.proofs.PlaceLaws.{byte_inside, inside}
use Rattle.tokens.proofs.TiePlace.{past_append, past-length}
use Rattle.spelled.specs.Stretch.{Stretch, Passed}

pub stretch-none : (R : List ℕ → Type 0) (s : List ℕ) (p : ℕ) → R [] → Stretch R s p p
unfolding past
stretch-none R s p h = record { bytes = []; holds = h; text = refl; end = refl }

unfoldable pub stretch_join : (R S T : List ℕ → Type 0) (s : List ℕ) (p q r : ℕ) → ((xs ys : List ℕ) → R xs → S ys → T (xs ++ ys)) → Stretch R s p q → Stretch S s q r → Stretch T s p r
stretch_join R S T s p q r f k l =
    record {
      bytes = k.bytes ++ l.bytes;
      holds = f k.bytes l.bytes k.holds l.holds;
      text = k.text ∙ rw (append_assoc, l.text);
      end = past_append p k.bytes l.bytes ∙ rw k.end l.end;
    }

unfoldable pub stretch_as : (R S : List ℕ → Type 0) (s : List ℕ) (p q : ℕ) → ((xs : List ℕ) → R xs → S xs) → Stretch R s p q → Stretch S s p q
stretch_as R S s p q f k = record { bytes = k.bytes; holds = f k.bytes k.holds; text = k.text; end = k.end }

-- ---- the bytes that stand there

abbrev pub Exactly : List ℕ → List ℕ → Type 0
Exactly xs ys = ys ≡ xs

-- these stand from the i-th place after p on
abbrev pub Bytes : List ℕ → ℕ → ℕ → List ℕ → Type 0
Bytes s p i [] = Unit {0}
Bytes s p i (x ∷ xs) = (byte_at s (p + i) ≡ x) × (x < 256) × Bytes s p (suc i) xs

pub byte_next : (s : List ℕ) (p b : ℕ) → byte_at s p ≡ b → b < 256 → drop p s ≡ b ∷ drop (suc p) s
byte_next s p b e l = let i = inside s p (λ w. omega arith) in rw (drop-cons s p 0 i, byte_inside s p i, e)

bytes-from : (s : List ℕ) (p i : ℕ) (xs : List ℕ) → Bytes s p i xs → drop (p + i) s ≡ xs ++ drop (p + (i + length xs)) s
bytes-from s p i [] h = rw (add-zero i)
bytes-from s p i (x ∷ xs) h =
    let e : suc (p + i) ≡ p + suc i = omega arith in
    let f : suc i + length xs ≡ i + suc (length xs) = omega arith in
    byte_next s (p + i) x h.0 h.1 ∙ rw (e, bytes-from s p (suc i) xs h.2, f)

pub bytes-here : (s : List ℕ) (p x : ℕ) (xs : List ℕ) → byte_at s p ≡ x → x < 256 → Bytes s p 1 xs → Stretch (Exactly (x ∷ xs)) s p (p + suc (length xs))
bytes-here s p x xs e l h =
    let f : 1 + length xs ≡ suc (length xs) = omega arith in
    record {
      bytes = x ∷ xs;
      holds = refl;
      text = byte_next s p x e l ∙ rw (← add-one p, bytes-from s p 1 xs h, f);
      end = past-length p (x ∷ xs);
    }

pub byte_here : (s : List ℕ) (p b : ℕ) → byte_at s p ≡ b → b < 256 → Stretch (Exactly (b ∷ [])) s p (p + 1)
byte_here s p b e l = bytes-here s p b [] e l tt

-- one byte more
pub stretch-more : (R T : List ℕ → Type 0) (s : List ℕ) (p q b : ℕ) → ((xs : List ℕ) → R xs → T (xs ++ (b ∷ []))) → Stretch R s p q → q < length s → b ≡ get_or s q 0 → b < 256 → Stretch T s p (q + 1)
stretch-more R T s p q b f k l e m =
    stretch_join R (Exactly (b ∷ [])) T s p q (q + 1) (λ xs ys h i. rw i (f xs h)) k (byte_here s q b (sym (e ∙ byte_inside s q l)) m)

-- ---- places

-- what holds at each place that a loop from p to n comes to holds at its end, which is p where it never began
pub at-end : (P : ℕ → Type 0) {p q n e : ℕ} → P p → P q → p ≤ q → (p ≤ n → q ≤ n) → n ≤ q → e ≡ max n p → P e
at-end P {p} {q} {n} {e} a b h k l f = go (leb p n) refl
  where
    go : (t : Bool) → leb p n ≡ t → P e
    go true u = let w = leb-true p n u in let v : q ≡ e = omega (arith, k w) in rw v at b
    go false u = let w = leb-false p n u in let v : p ≡ e = omega arith in rw v at a

-- so does what holds at each place that a search from i on comes to: at the place found, or at the end
pub found-end : (P : ℕ → Type 0) (test : ℕ → Bool) (i n : ℕ) → P i → ((q : ℕ) → i ≤ q → q < i + n → test q ≡ false → P q → P (q + 1)) → P (unwrap_or (find test (range_with_len i n)) (i + n))
found-end P test i zero a f = let e : i + 0 ≡ i = omega arith in rw e a
found-end P test i (suc n) a f = go (test i) refl (λ b. found-end P test (i + 1) n b (λ q h m t k. f q (omega arith) (omega arith) t k))
  where
    go : (b : Bool) → test i ≡ b → (P (i + 1) → P (unwrap_or (find test (range_with_len (i + 1) n)) (i + 1 + n))) → P (unwrap_or (cond b (Some i) (find test (range_with_len (i + 1) n))) (i + suc n))
    go true e k = a
    go false e k = let g : i + 1 + n ≡ i + suc n = omega arith in rw g at (k (f i (omega arith) (omega arith) e a))

-- what stands somewhere ends inside the text
pub stretch-inside : (R : List ℕ → Type 0) (s : List ℕ) (p q : ℕ) → Stretch R s p q → p < q → q ≤ length s
stretch-inside R s p q k l =
    let a = length-drop p s in
    let b = length-drop q s in
    let c = ap (length {A = ℕ}) k.text in
    let d = length-append k.bytes (drop q s) in
    let f = past-length p k.bytes in
    let g = k.end in
    omega arith

pub passed : (R : List ℕ → Type 0) (s : List ℕ) (p q : ℕ) → Stretch R s p q → p < q → Passed R s p q
passed R s p q k l = record { stretch = k; ahead = l; inside = stretch-inside R s p q k l }
