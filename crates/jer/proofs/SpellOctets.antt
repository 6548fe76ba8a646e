-- The written octets, hexadecimal or Base64, spell themselves, and are read back.
use Prim.Native.Nat.{ℕ, ◌+◌, ◌-◌, ◌*◌, ◌≤◌, ◌<◌, ◌/◌, ◌%◌}
use mathlib.Core.Path.{◌≡◌, refl, ap, ◌∙◌}
use mathlib.Core.List.{List, [], ◌∷◌}
use mathlib.Core.Bool.{false}
use Rattle.std.specs.Prelude.{Option, Some}
use native.Mathlib.Omega.{arith}
use native.Mathlib.Nat.{div-add-mod', mod-lt, div-lt_iff_lt-mul, mul-add-div_right, div-eq_of_lt, mul-add-mod_self_right, mod-eq_of_lt}
use lib.Dec.{eqb, lit<}
use borrow.Author.Tests.{ne_eqb}
use Rattle.json_text.specs.Bytes.{In, pick}
use Rattle.json_text.specs.Grammar.{Hex, digit, upper, lower, Char, plain, Chars, no_char, char}
use Rattle.json_text.proofs.Feed.{pick-row}
use Rattle.json_text.proofs.SoundRows.{pick_first, pick-within, ◌⨾◌}
use Rattle.jer.specs.Fits.{Octets, no_octets, octet}
use Rattle.jer.specs.Octets.{also, hex_value, unhex, hex_digit, hex, base64_value, only_if, last_group, full_group, unbase64, base64_digit, base64}
use Rattle.jer.proofs.SpellString.{outside, pick-last, hex-digit}

-- a character that spells itself
plain-char : (b : ℕ) → In 0x23 0x7F b → (b ≡ 0x5C → ⊥) → Char (b ∷ []) (b ∷ [])
plain-char b i h = plain {b = b} (omega arith) (λ e. omega arith) h

-- ---- hexadecimal

hex-back : {x b : ℕ} → Hex x b → hex_value b ≡ Some x
unfolding hex_value
hex-back (digit i e) = rw e (pick-row 0 _ _ _ (omega arith))
hex-back (upper i e) = rw e (pick-row 1 _ _ _ (omega arith))
hex-back (lower i e) = rw e (pick-row 2 _ _ _ (omega arith))

digit-back : (x : ℕ) → x < 16 → hex_value (hex_digit x) ≡ Some x
digit-back x h = hex-back (hex-digit x h)

high_half : (o : ℕ) → o < 256 → o / 16 < 16
high_half o h = (div-lt_iff_lt-mul (lit< tt)).1 (omega arith)

low_half : (o : ℕ) → o % 16 < 16
low_half o = mod-lt o (lit< tt)

pub unhex-hex : (s : List ℕ) → Octets s → unhex (hex s) ≡ Some s
unfolding unhex hex also
unhex-hex [] no_octets = refl
unhex-hex (o ∷ s) (octet h hs) = rw (digit-back (o / 16) (high_half o h), digit-back (o % 16) (low_half o), unhex-hex s hs, div-add-mod' o 16)

hex-plain : {x b : ℕ} → Hex x b → Char (b ∷ []) (b ∷ [])
hex-plain (digit i e) = plain-char _ (omega arith) (λ z. omega arith)
hex-plain (upper i e) = plain-char _ (omega arith) (λ z. omega arith)
hex-plain (lower i e) = plain-char _ (omega arith) (λ z. omega arith)

pub hex-chars : {s : List ℕ} → Octets s → Chars (hex s) (hex s)
unfolding hex
hex-chars no_octets = no_char
hex-chars (octet {b = o} h hs) = char (hex-plain (hex-digit (o / 16) (high_half o h))) (char (hex-plain (hex-digit (o % 16) (low_half o))) (hex-chars hs) refl refl) refl refl

-- ---- the digits of Base64

large-back : (x : ℕ) → x ≤ 25 → base64_value (x + 0x41) ≡ Some x
unfolding base64_value
large-back x h = pick-row 0 _ _ _ (omega arith) ∙ ap Some (omega arith)

small-back : (x : ℕ) → In 26 51 x → base64_value (x + 0x47) ≡ Some x
unfolding base64_value
small-back x h = pick-row 1 _ _ _ (omega arith) ∙ ap Some (omega arith)

number-back : (x : ℕ) → In 52 61 x → base64_value (x - 0x04) ≡ Some x
unfolding base64_value
number-back x h = pick-row 2 _ _ _ (omega arith) ∙ ap Some (omega arith)

plus-back : base64_value 0x2B ≡ Some 62
unfolding base64_value pick
plus-back = refl

slash-back : base64_value 0x2F ≡ Some 63
unfolding base64_value pick
slash-back = refl

sextet_back : (x : ℕ) → x < 64 → base64_value (base64_digit x) ≡ Some x
unfolding base64_digit
sextet_back x h =
    pick_first (λ y. base64_value y ≡ Some x) x 0 25 _ _ _ (λ i. large-back x i.1)
    (λ a. pick_first (λ y. base64_value y ≡ Some x) x 26 51 _ _ _ (small-back x)
    (λ b. pick_first (λ y. base64_value y ≡ Some x) x 52 61 _ _ _ (number-back x)
    (λ c. pick_first (λ y. base64_value y ≡ Some x) x 62 62 _ _ _ (λ i. plus-back ∙ ap Some (omega arith))
    (λ d. pick-last (λ y. base64_value y ≡ Some x) x _ (slash-back ∙ ap Some (last a b c d))))))
  where
    last : (In 0 25 x → ⊥) → (In 26 51 x → ⊥) → (In 52 61 x → ⊥) → (In 62 62 x → ⊥) → 63 ≡ x
    last a b c d =
        let k = outside 0 25 x a (omega arith) in
        let l = outside 26 51 x b (omega arith) in
        let m = outside 52 61 x c (omega arith) in
        let n = outside 62 62 x d (omega arith) in
        omega arith

-- the padding is no digit
not-pad : (x : ℕ) → eqb (base64_digit x) 0x3D ≡ false
unfolding base64_digit
not-pad x =
    pick-within (λ y. eqb y 0x3D ≡ false) x _ _
    ((λ i. ne_eqb (x + 0x41) 0x3D (λ e. omega arith)) ⨾ (λ i. ne_eqb (x + 0x47) 0x3D (λ e. omega arith)) ⨾ (λ i. ne_eqb (x - 0x04) 0x3D (λ e. omega arith)) ⨾ (λ i. refl) ⨾ tt)
    refl

sextet_plain : (x : ℕ) → Char (base64_digit x ∷ []) (base64_digit x ∷ [])
unfolding base64_digit
sextet_plain x =
    pick-within (λ y. Char (y ∷ []) (y ∷ [])) x _ _
    ((λ i. plain-char _ (omega arith) (λ e. omega arith))
    ⨾ (λ i. plain-char _ (omega arith) (λ e. omega arith))
    ⨾ (λ i. plain-char _ (omega arith) (λ e. omega arith))
    ⨾ (λ i. plain-char _ (omega arith) (λ e. omega arith))
    ⨾ tt)
    (plain-char _ (omega arith) (λ e. omega arith))

-- a digit before characters that spell themselves, and the padding
before : (x : ℕ) {s : List ℕ} → Chars s s → Chars (base64_digit x ∷ s) (base64_digit x ∷ s)
before x h = char (sextet_plain x) h refl refl

padded : {s : List ℕ} → Chars s s → Chars (0x3D ∷ s) (0x3D ∷ s)
padded h = char (plain-char 0x3D (omega arith) (λ e. omega arith)) h refl refl

pub base64-chars : (s : List ℕ) → Chars (base64 s) (base64 s)
unfolding base64
base64-chars [] = no_char
base64-chars (a ∷ []) = before _ (before _ (padded (padded no_char)))
base64-chars (a ∷ b ∷ []) = before _ (before _ (before _ (padded no_char)))
base64-chars (a ∷ b ∷ c ∷ s) = before _ (before _ (before _ (before _ (base64-chars s))))

-- ---- groups of four digits

last_one : (x y : ℕ) → x < 64 → y < 64 → y % 16 ≡ 0 → last_group (base64_digit x) (base64_digit y) 0x3D 0x3D ≡ Some ((x * 4 + y / 16) ∷ [])
unfolding last_group also only_if
last_one x y p q e = rw (sextet_back x p, sextet_back y q, e)

last-two : (x y z : ℕ) → x < 64 → y < 64 → z < 64 → z % 4 ≡ 0 → last_group (base64_digit x) (base64_digit y) (base64_digit z) 0x3D ≡ Some ((x * 4 + y / 16) ∷ (y % 16 * 16 + z / 4) ∷ [])
unfolding last_group also only_if
last-two x y z p q r e = rw (sextet_back x p, sextet_back y q, not-pad z, sextet_back z r, e)

last-three : (x y z w : ℕ) → x < 64 → y < 64 → z < 64 → w < 64
    → last_group (base64_digit x) (base64_digit y) (base64_digit z) (base64_digit w) ≡ Some ((x * 4 + y / 16) ∷ (y % 16 * 16 + z / 4) ∷ (z % 4 * 64 + w) ∷ [])
unfolding last_group also
last-three x y z w p q r s = rw (sextet_back x p, sextet_back y q, not-pad w, sextet_back z r, sextet_back w s)

-- a group that others follow
more-groups : (a b c d e : ℕ) (u : List ℕ) → unbase64 (a ∷ b ∷ c ∷ d ∷ e ∷ u) ≡ full_group a b c d (unbase64 (e ∷ u))
unfolding unbase64
more-groups a b c d e u = refl

not_last : (x y z w e : ℕ) (u os : List ℕ) → x < 64 → y < 64 → z < 64 → w < 64 → unbase64 (e ∷ u) ≡ Some os
    → unbase64 (base64_digit x ∷ base64_digit y ∷ base64_digit z ∷ base64_digit w ∷ e ∷ u) ≡ Some ((x * 4 + y / 16) ∷ (y % 16 * 16 + z / 4) ∷ (z % 4 * 64 + w) ∷ os)
unfolding full_group also
not_last x y z w e u os p q r t h = more-groups _ _ _ _ e u ∙ rw (sextet_back x p, sextet_back y q, sextet_back z r, sextet_back w t, h)

-- ---- the octets of a group

high_part : (m q u y : ℕ) → y ≡ q * m + u → 0 < m → u < m → y / m ≡ q
high_part m q u y e z h = rw e (omega (arith, mul-add-div_right z q u, div-eq_of_lt h))

low_part : (m q u y : ℕ) → y ≡ q * m + u → u < m → y % m ≡ u
low_part m q u y e h = rw e (mul-add-mod_self_right q m u ∙ mod-eq_of_lt h)

first-octet : (a y u : ℕ) → y ≡ a % 4 * 16 + u → u < 16 → a / 4 * 4 + y / 16 ≡ a
first-octet a y u e h = omega (arith, high_part 16 (a % 4) u y e (lit< tt) h, div-add-mod' a 4)

second-octet : (q b z u : ℕ) → b < 256 → z ≡ b % 16 * 4 + u → u < 4 → (q * 16 + b / 16) % 16 * 16 + z / 4 ≡ b
second-octet q b z u l e h = omega (arith, low_part 16 q (b / 16) _ refl (high_half b l), high_part 4 (b % 16) u z e (lit< tt) h, div-add-mod' b 16)

two-bits : (c : ℕ) → c < 256 → c / 64 < 4
two-bits c l = (div-lt_iff_lt-mul (lit< tt)).1 (omega arith)

third-octet : (q c : ℕ) → c < 256 → (q * 4 + c / 64) % 4 * 64 + c % 64 ≡ c
third-octet q c l = omega (arith, low_part 4 q (c / 64) _ refl (two-bits c l), div-add-mod' c 64)

-- the digits of three octets
record Sextets (a b c : ℕ) : Type 0 where
  first : a / 4 < 64
  second : a % 4 * 16 + b / 16 < 64
  third : b % 16 * 4 + c / 64 < 64
  fourth : c % 64 < 64

sextets : (a b c : ℕ) → a < 256 → b < 256 → c < 256 → Sextets a b c
sextets a b c h k l =
    let x : a % 4 < 4 = mod-lt a (lit< tt) in
    let y : b / 16 < 16 = high_half b k in
    let z : b % 16 < 16 = low_half b in
    let w : c / 64 < 4 = two-bits c l in
    record { first = (div-lt_iff_lt-mul (lit< tt)).1 (omega arith); second = omega arith; third = omega arith; fourth = mod-lt c (lit< tt) }

same-three : {x y z a b c : ℕ} (s : List ℕ) → x ≡ a → y ≡ b → z ≡ c → ◌≡◌ {A = Option (List ℕ)} (Some (x ∷ y ∷ z ∷ s)) (Some (a ∷ b ∷ c ∷ s))
same-three s p q r = cc

one-back : (a : ℕ) → a < 256 → unbase64 (base64 (a ∷ [])) ≡ Some (a ∷ [])
unfolding unbase64 base64
one-back a h =
    let s : Sextets a 0 0 = sextets a 0 0 h (lit< tt) (lit< tt) in
    last_one (a / 4) (a % 4 * 16) s.first (omega arith) (low_part 16 (a % 4) 0 _ (omega arith) (lit< tt)) ∙ ap (λ (x : ℕ). Some (x ∷ [])) (first-octet a _ 0 (omega arith) (lit< tt))

two_back : (a b : ℕ) → a < 256 → b < 256 → unbase64 (base64 (a ∷ b ∷ [])) ≡ Some (a ∷ b ∷ [])
unfolding unbase64 base64
two_back a b h k =
    let s : Sextets a b 0 = sextets a b 0 h k (lit< tt) in
    last-two (a / 4) (a % 4 * 16 + b / 16) (b % 16 * 4) s.first s.second (omega arith) (low_part 4 (b % 16) 0 _ (omega arith) (lit< tt))
    ∙ cc (first-octet a _ (b / 16) refl (high_half b k), second-octet (a % 4) b (b % 16 * 4) 0 k (omega arith) (lit< tt))

three_back : (a b c : ℕ) (s : List ℕ) → a < 256 → b < 256 → c < 256 → unbase64 (base64 s) ≡ Some s → unbase64 (base64 (a ∷ b ∷ c ∷ s)) ≡ Some (a ∷ b ∷ c ∷ s)
unfolding unbase64 base64
three_back a b c s h k l ih = go s ih ∙ same-three s (first-octet a _ (b / 16) refl (high_half b k)) (second-octet (a % 4) b _ (c / 64) k refl (two-bits c l)) (third-octet (b % 16) c l)
  where
    f : Sextets a b c
    f = sextets a b c h k l

    -- the digits' octets before the others
    Group : List ℕ → Type 0
    Group s = unbase64 (base64 (a ∷ b ∷ c ∷ s)) ≡ Some ((a / 4 * 4 + (a % 4 * 16 + b / 16) / 16) ∷ ((a % 4 * 16 + b / 16) % 16 * 16 + (b % 16 * 4 + c / 64) / 4) ∷ ((b % 16 * 4 + c / 64) % 4 * 64 + c % 64) ∷ s)

    more : (s : List ℕ) (e : ℕ) (u : List ℕ) → base64 s ≡ e ∷ u → unbase64 (base64 s) ≡ Some s → Group s
    more s e u q i = rw q (not_last _ _ _ _ e u s f.first f.second f.third f.fourth (rw q at i))

    go : (s : List ℕ) → unbase64 (base64 s) ≡ Some s → Group s
    go [] i = last-three _ _ _ _ f.first f.second f.third f.fourth
    go (x ∷ []) i = more _ _ _ refl i
    go (x ∷ y ∷ []) i = more _ _ _ refl i
    go (x ∷ y ∷ z ∷ s) i = more _ _ _ refl i

pub unbase64-base64 : (s : List ℕ) → Octets s → unbase64 (base64 s) ≡ Some s
unfolding unbase64 base64
unbase64-base64 [] no_octets = refl
unbase64-base64 (a ∷ []) (octet h no_octets) = one-back a h
unbase64-base64 (a ∷ b ∷ []) (octet h (octet k no_octets)) = two_back a b h k
unbase64-base64 (a ∷ b ∷ c ∷ s) (octet h (octet k (octet l hs))) = three_back a b c s h k l (unbase64-base64 s hs)
