-- One character of a string: escaped, or of more than one byte.
use Prim.Native.Nat.{ℕ, suc, ◌+◌, ◌*◌, ◌<◌, ◌≤◌}
use mathlib.Core.Path.{◌≡◌, refl, sym, ◌∙◌}
use mathlib.Core.List.{List, [], ◌∷◌, ◌++◌}
use mathlib.Core.Logic.{◌⊎◌, inl, inr}
use mathlib.Core.Bool.{Bool, true, false}
use native.Mathlib.Omega.{arith}
use borrow.Author.Tests.{leb-true, leb-false, lt-ltb, le-ltb}
use lib.Dec.{leb}
use lib.ListN.{length, get_or}
use Rattle.json_text.specs.Bytes.{In}
use Rattle.json_text.specs.Utf8.{encode, Wide, two, three_e0, three_e1, three_eD, three_eE, four_f0, four_f1, four_f4}
use Rattle.json_text.specs.Grammar as grammar
use Rattle.json_text.specs.Grammar.{Hex, digit, upper, lower, four, Escape, paired, Char, escape, unit, pair}
use Rattle.std.specs.Prelude.{Option, None, Some}
use Rattle.json_text.proofs.SoundRows.{pick-within, ◌⨾◌}
use Rattle.jer.specs.Octets.{hex_value}
use Rattle.tokens.specs.Places.{byte_at}
use Rattle.tokens.proofs.PlaceLaws.{byte_inside}
use Rattle.spelled.specs.Stretch.{Stretch, Passed}
use Rattle.spelled.specs.Leaves.{Letter, Coded, coded, CharAt}
use Rattle.spelled.proofs.StretchLaws.{Exactly, Bytes, stretch_as, stretch_join, bytes-here, passed}

pub false-true : {A : Type 0} → false ≡ true → A
false-true e = absurd (let z : ◌≡◌ {A = ℕ} 0 1 = cc in omega arith)

true-false : true ≡ false → ⊥
true-false e = let z : ◌≡◌ {A = ℕ} 0 1 = cc in omega arith

-- ---- of more than one byte

module _ (a b c : ℕ) (i : In 0x80 0xBF b) (j : In 0x80 0xBF c) where
  pub three-low : a ≡ 0xE0 → 0xA0 ≤ b → Wide (a ∷ b ∷ c ∷ [])
  three-low e h = rw e (three_e0 (h, i.1) j)

  pub three-high : a ≡ 0xED → b ≤ 0x9F → Wide (a ∷ b ∷ c ∷ [])
  three-high e h = rw e (three_eD (i.0, h) j)

  pub three-other : 0xE0 ≤ a → a ≤ 0xEF → (a ≡ 0xE0 → ⊥) → (a ≡ 0xED → ⊥) → Wide (a ∷ b ∷ c ∷ [])
  three-other l h x y = go (leb a 0xEC) refl
    where
      go : (t : Bool) → leb a 0xEC ≡ t → Wide (a ∷ b ∷ c ∷ [])
      go true e = three_e1 {a = a} (omega arith, leb-true a 0xEC e) i j
      go false e = let g = leb-false a 0xEC e in three_eE {a = a} (omega arith, h) i j

  module _ (d : ℕ) (k : In 0x80 0xBF d) where
    pub four_low : a ≡ 0xF0 → 0x90 ≤ b → Wide (a ∷ b ∷ c ∷ d ∷ [])
    four_low e h = rw e (four_f0 (h, i.1) j k)

    pub four-high : a ≡ 0xF4 → b ≤ 0x8F → Wide (a ∷ b ∷ c ∷ d ∷ [])
    four-high e h = rw e (four_f4 (i.0, h) j k)

    pub four-other : 0xF0 ≤ a → (a ≡ 0xF0 → ⊥) → a < 0xF4 → Wide (a ∷ b ∷ c ∷ d ∷ [])
    four-other l x h = four_f1 {a = a} (omega arith, omega arith) i j k

pub wide-here : (s : List ℕ) (p x : ℕ) (xs : List ℕ) → byte_at s p ≡ x → x < 256 → Bytes s p 1 xs → Wide (x ∷ xs) → Passed Wide s p (p + suc (length xs))
wide-here s p x xs e l h w =
    passed Wide s p (p + suc (length xs)) (stretch_as (Exactly (x ∷ xs)) Wide s p (p + suc (length xs)) (λ ys i. rw i w) (bytes-here s p x xs e l h)) (omega arith)

pub wide-two : (a b : ℕ) → 0xC2 ≤ a → a < 0xE0 → In 0x80 0xBF b → Wide (a ∷ b ∷ [])
wide-two a b l h i = two (l, omega arith) i

-- ---- escapes by four digits

abbrev HexOf : ℕ → Option ℕ → Type 0
HexOf b o = (x : ℕ) → o ≡ Some x → Hex x b

some-own : {x y : ℕ} → Some x ≡ Some y → y ≡ x
some-own e = cc

none-not : {A : Type 0} {y : ℕ} → None ≡ Some y → A
none-not e = absurd (let z : ◌≡◌ {A = ℕ} 0 1 = cc in omega arith)

pub hex-is : (b x : ℕ) → hex_value b ≡ Some x → Hex x b
unfolding hex_value
hex-is b = pick-within (HexOf b) b _ None ((λ i x e. digit i (some-own e)) ⨾ (λ i x e. upper i (some-own e)) ⨾ (λ i x e. lower i (some-own e)) ⨾ tt) (λ x e. none-not e)

hex-small : {x b : ℕ} → Hex x b → b < 256
hex-small (digit h e) = omega arith
hex-small (upper h e) = omega arith
hex-small (lower h e) = omega arith

pub unit-here : (s : List ℕ) (p i j k l : ℕ) → p + 6 ≤ length s → get_or s p 0 ≡ 0x5C → get_or s (p + 1) 0 ≡ 0x75 → Hex i (get_or s (p + 2) 0) → Hex j (get_or s (p + 3) 0) → Hex k (get_or s (p + 4) 0)
    → Hex l (get_or s (p + 5) 0) → Passed (Coded (((i * 16 + j) * 16 + k) * 16 + l)) s p (p + 6)
unit-here s p i j k l n e f a b c d =
    let x : ℕ = ((i * 16 + j) * 16 + k) * 16 + l in
    let at : (q : ℕ) → q < length s → byte_at s q ≡ get_or s q 0 = λ q m. sym (byte_inside s q m) in
    passed (Coded x) s p (p + 6)
    (stretch_as (Exactly (0x5C ∷ 0x75 ∷ get_or s (p + 2) 0 ∷ get_or s (p + 3) 0 ∷ get_or s (p + 4) 0 ∷ get_or s (p + 5) 0 ∷ [])) (Coded x) s p (p + 6) (λ ys g. rw g (coded (four a b c d refl)))
    (bytes-here s p 0x5C (0x75 ∷ get_or s (p + 2) 0 ∷ get_or s (p + 3) 0 ∷ get_or s (p + 4) 0 ∷ get_or s (p + 5) 0 ∷ []) (at p (omega arith) ∙ e) (omega arith)
    (at (p + 1) (omega arith) ∙ f, omega arith, (at (p + 2) (omega arith), hex-small a, (at (p + 3) (omega arith), hex-small b, (at (p + 4) (omega arith), hex-small c, (at (p + 5) (omega arith), hex-small d, tt)))))))
    (omega arith)

-- ---- how many bytes a character has

pub encode_one : (x : ℕ) → x < 0x80 → 1 ≡ length (encode x)
unfolding encode
encode_one x h = rw (lt-ltb x 0x80 h, encode)

pub encode-two : (x : ℕ) → 0x80 ≤ x → x < 0x800 → 2 ≡ length (encode x)
unfolding encode
encode-two x g h = rw (le-ltb x 0x80 g, encode, lt-ltb x 0x800 h)

pub encode-three : (x : ℕ) → 0x800 ≤ x → x < 0x10000 → 3 ≡ length (encode x)
unfolding encode
encode-three x g h = rw (le-ltb x 0x80 (omega arith), encode, le-ltb x 0x800 g, lt-ltb x 0x10000 h)

encode-four : (x : ℕ) → 0x10000 ≤ x → 4 ≡ length (encode x)
unfolding encode
encode-four x g = rw (le-ltb x 0x80 (omega arith), encode, le-ltb x 0x800 (omega arith), le-ltb x 0x10000 g)

pair-four : (x y : ℕ) → 4 ≡ length (encode (paired x y))
unfolding paired
pair-four x y = encode-four (paired x y) (omega arith)

-- ---- the character

abbrev Found : List ℕ → ℕ → ℕ → ℕ → Type 0
Found s p q n = CharAt s p q n true × (p < q)

found : (s c : List ℕ) (p q n : ℕ) → Stretch (Char c) s p q → n ≡ length c → p + n ≤ q → 0 < n → Found s p q n
found s c p q n k e l m = (record { chars = c; stretch = k; size = e; few = l; plain = λ h. absurd (true-false h) }, omega arith)

letter-small : {c b : ℕ} → Escape c b → b < 256
letter-small grammar.quote = omega arith
letter-small grammar.backslash = omega arith
letter-small grammar.slash = omega arith
letter-small grammar.backspace = omega arith
letter-small grammar.form_feed = omega arith
letter-small grammar.line_feed = omega arith
letter-small grammar.carriage_return = omega arith
letter-small grammar.tabulation = omega arith

pub letter-of : {b : ℕ} → ((b ≡ 0x22) ⊎ ((b ≡ 0x2F) ⊎ ((b ≡ 0x5C) ⊎ ((b ≡ 0x62) ⊎ ((b ≡ 0x66) ⊎ ((b ≡ 0x6E) ⊎ ((b ≡ 0x72) ⊎ (b ≡ 0x74)))))))) → Letter b
letter-of (inl e) = record { char = 0x22; escape = rw e grammar.quote }
letter-of (inr (inl e)) = record { char = 0x2F; escape = rw e grammar.slash }
letter-of (inr (inr (inl e))) = record { char = 0x5C; escape = rw e grammar.backslash }
letter-of (inr (inr (inr (inl e)))) = record { char = 0x08; escape = rw e grammar.backspace }
letter-of (inr (inr (inr (inr (inl e))))) = record { char = 0x0C; escape = rw e grammar.form_feed }
letter-of (inr (inr (inr (inr (inr (inl e)))))) = record { char = 0x0A; escape = rw e grammar.line_feed }
letter-of (inr (inr (inr (inr (inr (inr (inl e))))))) = record { char = 0x0D; escape = rw e grammar.carriage_return }
letter-of (inr (inr (inr (inr (inr (inr (inr e))))))) = record { char = 0x09; escape = rw e grammar.tabulation }

pub escape-letter : (s : List ℕ) (p b : ℕ) → byte_at s p ≡ 0x5C → b ≡ byte_at s (p + 1) → Letter b → Found s p (p + 2) 1
escape-letter s p b e f k =
    let c = k.char in
    found s (c ∷ []) p (p + 2) 1
    (stretch_as (Exactly (0x5C ∷ b ∷ [])) (Char (c ∷ [])) s p (p + 2) (λ ys g. rw g (escape k.escape)) (bytes-here s p 0x5C (b ∷ []) e (omega arith) (sym f, letter-small k.escape, tt)))
    refl (omega arith) (omega arith)

unit-char : {x : ℕ} {bs : List ℕ} → (In 0xD800 0xDFFF x → ⊥) → Coded x bs → Char (encode x) bs
unit-char n (coded f) = unit f n refl

pair-char : {x y : ℕ} {xs ys : List ℕ} → In 0xD800 0xDBFF x → In 0xDC00 0xDFFF y → Coded x xs → Coded y ys → Char (encode (paired x y)) (xs ++ ys)
pair-char i j (coded f) (coded g) = pair f i g j refl refl

pub escape-unit : (s : List ℕ) (p x n : ℕ) → Passed (Coded x) s p (p + 6) → (In 0xD800 0xDFFF x → ⊥) → n ≡ length (encode x) → 0 < n → n ≤ 3 → Found s p (p + 6) n
escape-unit s p x n k h e l m = found s (encode x) p (p + 6) n (stretch_as (Coded x) (Char (encode x)) s p (p + 6) (λ ys i. unit-char h i) k.stretch) e (omega arith) l

pub escape-pair : (s : List ℕ) (p x y : ℕ) → Passed (Coded x) s p (p + 6) → In 0xD800 0xDBFF x → Passed (Coded y) s (p + 6) (p + 6 + 6) → In 0xDC00 0xDFFF y → Found s p (p + 12) 4
escape-pair s p x y k i l j =
    let e : p + 6 + 6 ≡ p + 12 = omega arith in
    let m : Passed (Coded y) s (p + 6) (p + 12) = rw (← e) l in
    found s (encode (paired x y)) p (p + 12) 4
    (stretch_join (Coded x) (Coded y) (Char (encode (paired x y))) s p (p + 6) (p + 12) (λ xs ys a b. pair-char i j a b) k.stretch m.stretch) (pair-four x y) (omega arith) (omega arith)
