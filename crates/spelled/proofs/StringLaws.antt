-- Characters one after another, and the string that they make.
use Prim.Native.Nat.{ℕ, ◌+◌, ◌<◌, ◌≤◌}
use mathlib.Core.Path.{◌≡◌, refl, sym, ap, ◌∙◌}
use mathlib.Core.List.{List, [], ◌∷◌, ◌++◌, append_assoc, append-nil}
use mathlib.Core.Bool.{Bool, true, false}
use native.Mathlib.Numerals.{add-one}
use native.Mathlib.Omega.{arith}
use lib.ListN.{length, get_or, drop, length-append}
use lib.Seq.{take-append_seam}
use Rattle.json_text.specs.Grammar.{Char, plain, wide, Chars, no_char, char, Quoted, quoted}
use Rattle.json_text.specs.Utf8.{Wide}
use Rattle.json_text.specs.Bytes.{past}
use Rattle.tokens.specs.Places.{byte_at}
use Rattle.tokens.specs.Strings.{denoted}
use Rattle.tokens.proofs.TieString.{quoted-read}
use Rattle.tokens.proofs.PlaceLaws.{byte_inside}
use Rattle.tokens.proofs.TiePlace.{past_append, past-length}
use Rattle.spelled.specs.Stretch.{Stretch, Passed, Selves}
use Rattle.spelled.specs.Leaves.{SelfByte, CharAt, CharsAt, StringAt}
use Rattle.spelled.proofs.StretchLaws.{Exactly, stretch-none, stretch_as, stretch_join, stretch-more, byte_here, passed}

chars_join : {u v ds es : List ℕ} → Chars u ds → Chars v es → Chars (u ++ v) (ds ++ es)
chars_join no_char k = k
chars_join {u} {v} {ds} {es} (char {c = c} {s = s} {bs = bs} {cs = cs} h m e f) k =
    let g : u ++ v ≡ c ++ (s ++ v) = rw (e, append_assoc) in
    let i : ds ++ es ≡ bs ++ (cs ++ es) = rw (f, append_assoc) in
    char h (chars_join m k) g i

self-char : (b : ℕ) → SelfByte b → Selves (b ∷ [])
self-char b h = char (plain (h.0, h.1) h.2 h.3) no_char refl refl

-- ---- runs of characters that stand for themselves

pub selves_none : (s : List ℕ) (p : ℕ) → Stretch Selves s p p
selves_none s p = stretch-none Selves s p no_char

pub selves_more : (s : List ℕ) (p q : ℕ) → Stretch Selves s p q → q < length s → SelfByte (get_or s q 0) → Stretch Selves s p (q + 1)
selves_more s p q k l h = stretch-more Selves Selves s p q (get_or s q 0) (λ xs m. chars_join m (self-char (get_or s q 0) h)) k l refl (omega arith)

module _ (s : List ℕ) (p q : ℕ) (k : Stretch Selves s p q) (a : SelfByte (get_or s q 0)) (b : SelfByte (get_or s (q + 1) 0)) where
  pub selves_two : q + 2 ≤ length s → Stretch Selves s p (q + 2)
  selves_two l = let e : q + 1 + 1 ≡ q + 2 = omega arith in rw e at (selves_more s p (q + 1) (selves_more s p q k (omega arith) a) (omega arith) b)

  module _ (c : SelfByte (get_or s (q + 2) 0)) where
    pub selves_three : q + 3 ≤ length s → Stretch Selves s p (q + 3)
    selves_three l = let e : q + 2 + 1 ≡ q + 3 = omega arith in rw e at (selves_more s p (q + 2) (selves_two (omega arith)) (omega arith) c)

    pub selves_four : q + 4 ≤ length s → SelfByte (get_or s (q + 3) 0) → Stretch Selves s p (q + 4)
    selves_four l d = let e : q + 3 + 1 ≡ q + 4 = omega arith in rw e at (selves_more s p (q + 3) (selves_three (omega arith)) (omega arith) d)

pub selves_join : (s : List ℕ) (p q r : ℕ) → Stretch Selves s p q → Stretch Selves s q r → Stretch Selves s p r
selves_join s p q r k l = stretch_join Selves Selves Selves s p q r (λ xs ys g h. chars_join g h) k l

-- ---- characters one after another

length-of : (s : List ℕ) (R : List ℕ → Type 0) (p q : ℕ) (k : Stretch R s p q) → p + length k.bytes ≡ q
length-of s R p q k = sym (past-length p k.bytes) ∙ k.end

pub chars-none : (s : List ℕ) (p : ℕ) → CharsAt s p p 0 false
unfolding past
chars-none s p = record { chars = []; stretch = record { bytes = []; holds = no_char; text = refl; end = refl }; size = refl; few = omega arith; plain = λ h. refl }

-- some that stand for themselves
pub chars_selves : (s : List ℕ) (p q n : ℕ) → Stretch Selves s p q → p + n ≡ q → CharsAt s p q n false
chars_selves s p q n k e =
    let f = length-of s Selves p q k in
    record { chars = k.bytes; stretch = record { bytes = k.bytes; holds = k.holds; text = k.text; end = k.end }; size = omega arith; few = omega arith; plain = λ h. refl }

one_char : {c bs : List ℕ} → Char c bs → Chars c bs
one_char {c} {bs} k = char k no_char (sym (append-nil c)) (sym (append-nil bs))

pub chars-then : (s : List ℕ) (p q r n m : ℕ) (e f g : Bool) → CharsAt s p q n e → CharsAt s q r m f → (g ≡ false → e ≡ false) → (g ≡ false → f ≡ false) → CharsAt s p r (n + m) g
unfolding stretch_join
chars-then s p q r n m e f g k l x y =
    record {
      chars = k.chars ++ l.chars;
      stretch = stretch_join (Chars k.chars) (Chars l.chars) (Chars (k.chars ++ l.chars)) s p q r (λ xs ys h i. chars_join h i) k.stretch l.stretch;
      size = omega (arith, k.size, l.size, length-append k.chars l.chars);
      few = omega (arith, k.few, l.few);
      plain = λ h. rw (k.plain (x h), l.plain (y h));
    }

chars-one : (s : List ℕ) (p q n : ℕ) (e : Bool) → CharAt s p q n e → CharsAt s p q n e
unfolding stretch_as
chars-one s p q n e k =
    record { chars = k.chars; stretch = stretch_as (Char k.chars) (Chars k.chars) s p q (λ xs h. one_char h) k.stretch; size = k.size; few = k.few; plain = k.plain }

-- one more: it stands for itself, has more than one byte, or is escaped
pub chars-self : (s : List ℕ) (p q n : ℕ) (e : Bool) → CharsAt s p q n e → q < length s → SelfByte (get_or s q 0) → CharsAt s p (q + 1) (n + 1) e
chars-self s p q n e k l h =
    let b = get_or s q 0 in
    let m : Stretch Selves s q (q + 1) = stretch_as (Exactly (b ∷ [])) Selves s q (q + 1) (λ xs i. rw i (self-char b h)) (byte_here s q b (sym (byte_inside s q l)) (omega arith)) in
    chars-then s p q (q + 1) n 1 e false e k (chars_selves s q (q + 1) 1 m refl) (λ i. i) (λ i. refl)

pub chars-wide : (s : List ℕ) (p q n w : ℕ) (e : Bool) → CharsAt s p q n e → Passed Wide s q (q + w) → CharsAt s p (q + w) (n + w) e
chars-wide s p q n w e k l =
    let m : Stretch Selves s q (q + w) = stretch_as Wide Selves s q (q + w) (λ xs i. one_char (wide i)) l.stretch in
    chars-then s p q (q + w) n w e false e k (chars_selves s q (q + w) w m refl) (λ i. i) (λ i. refl)

pub chars-escape : (s : List ℕ) (p q r n m : ℕ) (e : Bool) → CharsAt s p q n e → CharAt s q r m true → CharsAt s p r (n + m) true
chars-escape s p q r n m e k l = chars-then s p q r n m e true true k (chars-one s q r m true l) (λ i. absurd (not_so i)) (λ i. i)
  where
    not_so : true ≡ false → ⊥
    not_so i = let z : ◌≡◌ {A = ℕ} 0 1 = cc in omega arith

-- ---- between quotation marks

quote_join : {t : List ℕ} (xs ys zs : List ℕ) → xs ≡ 0x22 ∷ [] → Chars t ys → zs ≡ 0x22 ∷ [] → Quoted t ((xs ++ ys) ++ zs)
quote_join xs ys zs e k f = rw (e, f) (quoted k refl)

pub string-of : (s : List ℕ) (p q n : ℕ) (e : Bool) → byte_at s p ≡ 0x22 → CharsAt s (p + 1) q n e → byte_at s q ≡ 0x22 → StringAt s p (q + 1) n e
string-of s p q n e a k b =
    let t = k.chars in
    let x : Stretch (Exactly (0x22 ∷ [])) s p (p + 1) = byte_here s p 0x22 a (omega arith) in
    let y : Stretch (Exactly (0x22 ∷ [])) s q (q + 1) = byte_here s q 0x22 b (omega arith) in
    let st : Stretch (Quoted t) s p (q + 1) =
    record {
      bytes = (x.bytes ++ k.stretch.bytes) ++ y.bytes;
      holds = quote_join x.bytes k.stretch.bytes y.bytes x.holds k.stretch.holds y.holds;
      text = x.text ∙ rw (append_assoc, append_assoc, k.stretch.text, y.text);
      end = past_append p (x.bytes ++ k.stretch.bytes) y.bytes ∙ rw (past_append p x.bytes k.stretch.bytes, x.end, k.stretch.end) y.end;
    } in
    let g = length-of s (Chars t) (p + 1) q k.stretch in
    record {
      chars = t;
      passed = passed (Quoted t) s p (q + 1) st (omega (arith, k.few));
      size = k.size;
      few = omega (arith, k.few);
      plain = λ h. let i = k.plain h in
          (sym (rw (k.stretch.text, i, k.size) (take-append_seam t (drop q s))), omega (arith, k.size, ap (length {A = ℕ}) i));
    }

-- ---- for whoever reads it by places

-- what the string denotes by places is what it denotes
pub string_denotes : (s : List ℕ) (p q n : ℕ) (e : Bool) (k : StringAt s p q n e) → denoted s (p + 1) ≡ k.chars
string_denotes s p q n e k = rw (add-one p) (quoted-read s p (drop q s) k.passed.stretch.holds k.passed.stretch.text).0
