-- A value's first byte tells its kind; its place is the tree's.
use Prim.Native.Nat.{ℕ}
use mathlib.Core.Path.{◌≡◌, refl, sym, ap, ◌∙◌}
use mathlib.Core.List.{List, ◌∷◌, ◌++◌}
use mathlib.Core.Bool.{Bool, true, false}
use native.Mathlib.Omega.{arith}
use borrow.Author.Tests.{ne_eqb}
use lib.Dec.{eqb}
use lib.ListN.{drop}
use Rattle.json_text.specs.Bytes.{In}
use Rattle.json_text.specs.Tree.{Json, jnull, jbool, jint, jreal, jstr, jarr, jobj, Items, Members, place_of}
use Rattle.json_text.specs.Grammar.{Signed, bare, minus, Quoted, quoted, Value, literal_null, literal_true, literal_false, whole, real, string, no_elements, elements, no_members, members}
use Rattle.json_text.proofs.Feed.{in-true}
use Rattle.tokens.specs.Places.{byte_at, is_space}
use Rattle.tokens.specs.Skip.{is_between, is_closing}
use Rattle.tokens.specs.Numbers.{is_digit}
use Rattle.tokens.proofs.TiePlace.{byte_here}
use Rattle.tokens.proofs.TieSpace.{Stops, before}
use Rattle.tokens.proofs.TieNumber.{whole-first}

-- the first byte of a value with this tree
pub data FirstByte : Json → ℕ → Type 0 where
  of_null : {p : ℕ} → FirstByte (jnull p) 0x6E
  of_true : {p : ℕ} → FirstByte (jbool p true) 0x74
  of_false : {p : ℕ} → FirstByte (jbool p false) 0x66
  of_minus : {p n : ℕ} → FirstByte (jint p true n) 0x2D
  of_digit : {p n b : ℕ} → In 0x30 0x39 b → FirstByte (jint p false n) b
  of_real_minus : {p : ℕ} → FirstByte (jreal p) 0x2D
  of_real_digit : {p b : ℕ} → In 0x30 0x39 b → FirstByte (jreal p) b
  of_string : {p : ℕ} {s : List ℕ} → FirstByte (jstr p s) 0x22
  of_array : {p : ℕ} {is : Items} → FirstByte (jarr p is) 0x5B
  of_object : {p : ℕ} {ms : Members} → FirstByte (jobj p ms) 0x7B

integer_first : {m : Bool} {n : ℕ} {bs : List ℕ} (p : ℕ) (P : List ℕ → Type 0) → ((b : ℕ) (cs : List ℕ) → FirstByte (jint p m n) b → P (b ∷ cs)) → Signed m n bs → P bs
integer_first p P f (bare w) = whole-first P (λ b cs h. f b cs (of_digit h)) w
integer_first p P f (minus {bs = bs} w) = f 0x2D bs of_minus

real-first : {m : Bool} {n : ℕ} {bs : List ℕ} (p : ℕ) (P : List ℕ → Type 0) → ((b : ℕ) (cs : List ℕ) → FirstByte (jreal p) b → P (b ∷ cs)) → Signed m n bs → P bs
real-first p P f (bare w) = whole-first P (λ b cs h. f b cs (of_real_digit h)) w
real-first p P f (minus {bs = bs} w) = f 0x2D bs of_real_minus

quoted-first : {t bs : List ℕ} (P : List ℕ → Type 0) → ((cs : List ℕ) → P (0x22 ∷ cs)) → Quoted t bs → P bs
quoted-first P f (quoted c e) = f _

-- what holds of all bytes that begin so holds of a value's
pub value-first : {d p : ℕ} {j : Json} {bs : List ℕ} (P : List ℕ → Type 0) → ((b : ℕ) (cs : List ℕ) → FirstByte j b → P (b ∷ cs)) → Value d p j bs → P bs
value-first P f literal_null = f _ _ of_null
value-first P f literal_true = f _ _ of_true
value-first P f literal_false = f _ _ of_false
value-first P f (whole {p = p} w) = integer_first p P f w
value-first P f (real {p = p} {cs = cs} w k e) = rw e (real-first p (λ x. P (x ++ cs)) (λ b ds h. f b (ds ++ cs) h) w)
value-first P f (string q) = quoted-first P (λ cs. f 0x22 cs of_string) q
value-first P f (no_elements z e) = f _ _ of_array
value-first P f (elements g) = f _ _ of_array
value-first P f (no_members z e) = f _ _ of_object
value-first P f (members g) = f _ _ of_object

pub first_byte : {d p : ℕ} {j : Json} {bs : List ℕ} (s ys : List ℕ) → Value d p j bs → drop p s ≡ bs ++ ys → FirstByte j (byte_at s p)
first_byte {p = p} {j = j} s ys v h = value-first (λ bs. drop p s ≡ bs ++ ys → FirstByte j (byte_at s p)) (λ b cs f e. rw (byte_here s p b (cs ++ ys) e) f) v h

pub value-place : {d p : ℕ} {j : Json} {bs : List ℕ} → Value d p j bs → place_of j ≡ p
unfolding place_of
value-place literal_null = refl
value-place literal_true = refl
value-place literal_false = refl
value-place (whole w) = refl
value-place (real w k e) = refl
value-place (string q) = refl
value-place (no_elements z e) = refl
value-place (elements g) = refl
value-place (no_members z e) = refl
value-place (members g) = refl

-- ---- what a first byte is not

pub record Opener (b : ℕ) : Type 0 where
  pub space : is_space b ≡ false
  pub between : is_between b ≡ false
  pub closing : is_closing b ≡ false
  pub inside : eqb b 256 ≡ false

-- a byte that passes a test is none that does not
pub differs : (f : ℕ → Bool) (b c : ℕ) → f b ≡ true → f c ≡ false → eqb b c ≡ false
differs f b c h g = ne_eqb b c (λ e. let z : true ≡ false = sym h ∙ ap f e ∙ g in let y : ◌≡◌ {A = ℕ} 0 1 = cc in omega arith)

digit_opener : {b : ℕ} → In 0x30 0x39 b → Opener b
digit_opener {b} h =
    record {
      space = rw (other 0x20 refl, other 0x09 refl, other 0x0A refl, other 0x0D refl);
      between = rw (other 0x20 refl, other 0x09 refl, other 0x0A refl, other 0x0D refl, other 0x2C refl, other 0x3A refl);
      closing = rw (other 0x5D refl, other 0x7D refl);
      inside = other 256 refl;
    }
  where
    other : (c : ℕ) → is_digit c ≡ false → eqb b c ≡ false
    other c g = differs is_digit b c (in-true 0x30 0x39 b h) g

pub first-opens : {j : Json} {b : ℕ} → FirstByte j b → Opener b
first-opens of_null = record { space = refl; between = refl; closing = refl; inside = refl }
first-opens of_true = record { space = refl; between = refl; closing = refl; inside = refl }
first-opens of_false = record { space = refl; between = refl; closing = refl; inside = refl }
first-opens of_minus = record { space = refl; between = refl; closing = refl; inside = refl }
first-opens (of_digit h) = digit_opener h
first-opens of_real_minus = record { space = refl; between = refl; closing = refl; inside = refl }
first-opens (of_real_digit h) = digit_opener h
first-opens of_string = record { space = refl; between = refl; closing = refl; inside = refl }
first-opens of_array = record { space = refl; between = refl; closing = refl; inside = refl }
first-opens of_object = record { space = refl; between = refl; closing = refl; inside = refl }

pub value-begins : {d p : ℕ} {j : Json} {bs : List ℕ} (s ys : List ℕ) → Value d p j bs → drop p s ≡ bs ++ ys → Opener (byte_at s p)
value-begins s ys v h = first-opens (first_byte s ys v h)

-- white space before a value ends at the value
pub value-stops : {d p : ℕ} {j : Json} {bs : List ℕ} (ys : List ℕ) → Value d p j bs → Stops is_space (bs ++ ys)
value-stops ys v = value-first (λ bs. Stops is_space (bs ++ ys)) (λ b cs f. before (first-opens f).space) v
