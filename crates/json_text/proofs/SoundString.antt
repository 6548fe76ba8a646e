-- From inside a character, what the machine takes up to the closing quotation mark is the rest of the character and further ones.
use Prim.Native.Nat.{ℕ, zero, suc, ◌+◌, ◌*◌, ◌≤◌}
use mathlib.Core.Path.{◌≡◌, refl}
use mathlib.Core.List.{List, [], ◌∷◌, ◌++◌, append-nil}
use native.Mathlib.Omega.{arith}
use Rattle.json_text.specs.Bytes.{In}
use Rattle.json_text.specs.Utf8.{Wide, two, three_e0, three_e1, three_eD, three_eE, four_f0, four_f1, four_f4, encode, wide_rows}
use Rattle.json_text.specs.Grammar.{Hex, digit, upper, lower, Four, four, Escape, quote, backslash, slash, backspace, form_feed, line_feed, carriage_return, tabulation, paired, Char, plain, wide, escape, unit, pair, Chars, no_char, char}
use Rattle.json_text.specs.Machine.{Mid, m_text, m_wide, m_slash, m_unit, m_unit_d, m_hex, m_high, m_pair, m_pair_u, m_pair_d, m_pair_digit, m_low, Act, still, close, never, wide_next, hex_rows, hex_next, high_next, low_next, char_step}
use Rattle.json_text.proofs.SoundRows.{pick_first, Within, pick-within, ◌⨾◌, only, behind, grouped}

-- ---- what each state still wants

-- n bytes from 80 to BF
pub data Conts : ℕ → List ℕ → Type 0 where
  no_cont : Conts zero []
  cont : {n b : ℕ} {bs : List ℕ} → In 0x80 0xBF b → Conts n bs → Conts (suc n) (b ∷ bs)

-- a byte from lo to hi, then n from 80 to BF
pub data WideEnd (lo hi n : ℕ) : List ℕ → Type 0 where
  wide_end : {b : ℕ} {bs : List ℕ} → In lo hi b → Conts n bs → WideEnd lo hi n (b ∷ bs)

-- one hexadecimal digit and n more bring the value x to y
pub data Hexes : ℕ → ℕ → ℕ → List ℕ → Type 0 where
  last_hex : {x y i a : ℕ} → Hex i a → y ≡ x * 16 + i → Hexes zero x y (a ∷ [])
  more_hex : {n x y i a : ℕ} {bs : List ℕ} → Hex i a → Hexes n (x * 16 + i) y bs → Hexes (suc n) x y (a ∷ bs)

pub data HexEnd (n x : ℕ) (c bs : List ℕ) : Type 0 where
  hex_end : {y : ℕ} → Hexes n x y bs → c ≡ encode y → HexEnd n x c bs

pub data LowEnd (h n x : ℕ) (c bs : List ℕ) : Type 0 where
  low_end : {l : ℕ} → Hexes n x l bs → c ≡ encode (paired h l) → LowEnd h n x c bs

-- the bytes bs end a character that begins with the high surrogate h
abbrev pub Upon : ℕ → List ℕ → List ℕ → Type 0
Upon h c bs = (hs : List ℕ) → Four h hs → In 0xD800 0xDBFF h → Char c (0x5C ∷ 0x75 ∷ (hs ++ bs))

pub data HighEnd (n x : ℕ) (c bs : List ℕ) : Type 0 where
  high_end : {h : ℕ} {cs ds : List ℕ} → Hexes n x h cs → Upon h c ds → bs ≡ cs ++ ds → HighEnd n x c bs

-- the bytes bs end the character, and the string has the bytes c more
abbrev pub Next : Mid → List ℕ → List ℕ → Type 0
Next m_text c bs = (c ≡ []) × (bs ≡ [])
Next (m_wide lo hi n) c bs = (c ≡ bs) × WideEnd lo hi n bs
Next m_slash c bs = Char c (0x5C ∷ bs)
Next m_unit c bs = Char c (0x5C ∷ 0x75 ∷ bs)
Next m_unit_d c bs = (a : ℕ) → Hex 0xD a → Char c (0x5C ∷ 0x75 ∷ a ∷ bs)
Next (m_hex n x) c bs = HexEnd n x c bs
Next (m_high n x) c bs = HighEnd n x c bs
Next (m_pair h) c bs = Upon h c bs
Next (m_pair_u h) c bs = Upon h c (0x5C ∷ bs)
Next (m_pair_d h) c bs = Upon h c (0x5C ∷ 0x75 ∷ bs)
Next (m_pair_digit h) c bs = (a : ℕ) → Hex 0xD a → Upon h c (0x5C ∷ 0x75 ∷ a ∷ bs)
Next (m_low h n x) c bs = LowEnd h n x c bs

-- the bytes xs end the character and spell further ones, and the string has the bytes t more
pub data CharsFrom (m : Mid) (t xs : List ℕ) : Type 0 where
  from : (c bs : List ℕ) {s cs : List ℕ} → Next m c bs → Chars s cs → t ≡ c ++ s → xs ≡ bs ++ cs → CharsFrom m t xs

pub chars-text : {t xs : List ℕ} → CharsFrom m_text t xs → Chars t xs
chars-text (from c bs n s e g) = rw (e, g, n.0, n.1) s

pub no-chars : CharsFrom m_text [] []
no-chars = from [] [] (refl, refl) no_char refl refl

-- what a step from m with the byte b says: what follows after it follows the byte at m; or the string ends; or nothing
pub data Kept : Mid → ℕ → Act → Type 0 where
  keeps : {m m' : Mid} {b : ℕ} {ys : List ℕ} → ((t xs : List ℕ) → CharsFrom m' t xs → CharsFrom m (ys ++ t) (b ∷ xs)) → Kept m b (still m' ys)
  closes : {b : ℕ} → b ≡ 0x22 → Kept m_text b close
  fails : {m : Mid} {b : ℕ} → Kept m b never

-- the byte goes on with a character
inside : {m m' : Mid} {b : ℕ} {ys : List ℕ} → ((c bs : List ℕ) → Next m' c bs → Next m (ys ++ c) (b ∷ bs)) → Kept m b (still m' ys)
inside {m = m} {m' = m'} {b = b} {ys = ys} f = keeps kept
  where
    kept : (t xs : List ℕ) → CharsFrom m' t xs → CharsFrom m (ys ++ t) (b ∷ xs)
    kept t xs (from c bs n s e g) = from _ _ (f c bs n) s (grouped ys c _ e) (behind g)

-- the byte begins a character
begins : {m' : Mid} {b : ℕ} {ys : List ℕ} → ((c bs : List ℕ) → Next m' c bs → Char (ys ++ c) (b ∷ bs)) → Kept m_text b (still m' ys)
begins {m' = m'} {b = b} {ys = ys} f = keeps kept
  where
    kept : (t xs : List ℕ) → CharsFrom m' t xs → CharsFrom m_text (ys ++ t) (b ∷ xs)
    kept t xs (from c bs n s e g) = from [] [] (refl, refl) (char (f c bs n) s (grouped ys c _ e) (behind g)) refl refl

hex-within : (Q : Act → Type 0) (b : ℕ) (f : ℕ → Act) → ((x : ℕ) → Hex x b → Q (f x)) → Within Q b (hex_rows f)
unfolding hex_rows
hex-within Q b f h = (λ i. h _ (digit i refl)) ⨾ (λ i. h _ (upper i refl)) ⨾ (λ i. h _ (lower i refl)) ⨾ tt

-- ---- digits

hex_bound : {x b : ℕ} → Hex x b → x ≤ 15
hex_bound (digit i e) = omega arith
hex_bound (upper i e) = omega arith
hex_bound (lower i e) = omega arith

-- the first two digits make x, the others bring it to y
four-last : {x y i j a b : ℕ} {bs : List ℕ} → Hex i a → Hex j b → x ≡ i * 16 + j → Hexes 1 x y bs → Four y (a ∷ b ∷ bs)
four-last {y = y} h g e (more_hex k (last_hex l f)) = four {x = y} h g k l (omega arith)

two_bound : {x y : ℕ} {bs : List ℕ} → Hexes 1 x y bs → In (x * 256) (x * 256 + 255) y
two_bound (more_hex k (last_hex l f)) = let a = hex_bound k in let b = hex_bound l in omega arith

-- ---- the steps, state by state

wide-begins : {b lo hi n : ℕ} → ((bs : List ℕ) → WideEnd lo hi n bs → Wide (b ∷ bs)) → Kept m_text b (still (m_wide lo hi n) (b ∷ []))
wide-begins h = begins (λ c bs n. rw n.0 (wide (h bs n.1)))

pub with_one : {b lo hi : ℕ} → ((x : ℕ) → In lo hi x → Wide (b ∷ x ∷ [])) → (bs : List ℕ) → WideEnd lo hi 0 bs → Wide (b ∷ bs)
with_one h bs (wide_end {b = x} i no_cont) = h x i

pub with_two : {b lo hi : ℕ} → ((x y : ℕ) → In lo hi x → In 0x80 0xBF y → Wide (b ∷ x ∷ y ∷ [])) → (bs : List ℕ) → WideEnd lo hi 1 bs → Wide (b ∷ bs)
with_two h bs (wide_end {b = x} i (cont {b = y} j no_cont)) = h x y i j

pub with_three : {b lo hi : ℕ} → ((x y z : ℕ) → In lo hi x → In 0x80 0xBF y → In 0x80 0xBF z → Wide (b ∷ x ∷ y ∷ z ∷ [])) → (bs : List ℕ) → WideEnd lo hi 2 bs → Wide (b ∷ bs)
with_three h bs (wide_end {b = x} i (cont {b = y} j (cont {b = z} k no_cont))) = h x y z i j k

wide-within : (b : ℕ) → Within (Kept m_text b) b (wide_rows (λ b lo hi n. still (m_wide lo hi n) (b ∷ [])))
unfolding wide_rows
wide-within b =
    (λ i. wide-begins (with_one (λ x h. two i h)))
    ⨾ (λ i. wide-begins (with_two (λ x y h k. rw (only i) (three_e0 h k))))
    ⨾ (λ i. wide-begins (with_two (λ x y h k. three_e1 i h k)))
    ⨾ (λ i. wide-begins (with_two (λ x y h k. rw (only i) (three_eD h k))))
    ⨾ (λ i. wide-begins (with_two (λ x y h k. three_eE i h k)))
    ⨾ (λ i. wide-begins (with_three (λ x y z h k l. rw (only i) (four_f0 h k l))))
    ⨾ (λ i. wide-begins (with_three (λ x y z h k l. four_f1 i h k l)))
    ⨾ (λ i. wide-begins (with_three (λ x y z h k l. rw (only i) (four_f4 h k l))))
    ⨾ tt

text-kept : (b : ℕ) → Kept m_text b (char_step m_text b)
unfolding char_step
text-kept b =
    pick_first (Kept m_text b) b 0x22 0x22 _ _ _ (λ i. closes (only i))
    (λ q. pick_first (Kept m_text b) b 0x5C 0x5C _ _ _ (λ i. begins (λ c bs n. rw (only i) n))
    (λ s. pick_first (Kept m_text b) b 0x20 0x7F _ _ _ (λ i. begins (λ c bs n. rw (n.0, n.1) (plain i (λ e. q (omega arith)) (λ e. s (omega arith)))))
    (λ _. pick-within (Kept m_text b) b _ _ (wide-within b) fails)))

wide_conts : {n : ℕ} {bs : List ℕ} → WideEnd 0x80 0xBF n bs → Conts (suc n) bs
wide_conts (wide_end i r) = cont i r

wide-next : (n : ℕ) (c bs : List ℕ) → Next (wide_next n) c bs → (c ≡ bs) × Conts n bs
unfolding wide_next
wide-next zero c bs h = (cc, rw h.1 no_cont)
wide-next (suc n) c bs h = (h.0, wide_conts h.1)

wide-kept : (lo hi n b : ℕ) → Kept (m_wide lo hi n) b (char_step (m_wide lo hi n) b)
unfolding char_step
wide-kept lo hi n b =
    pick-within (Kept (m_wide lo hi n) b) b _ _ ((λ i. inside (λ c bs h. let w = wide-next n c bs h in (cc, wide_end i w.1))) ⨾ tt) fails

escaped : {c l b : ℕ} → Escape c l → In l l b → Kept m_slash b (still m_text (c ∷ []))
escaped e i = rw (only i) (inside (λ c bs n. rw (n.0, n.1) (escape e)))

slash-kept : (b : ℕ) → Kept m_slash b (char_step m_slash b)
unfolding char_step
slash-kept b =
    pick-within (Kept m_slash b) b _ _
    (escaped quote
    ⨾ escaped slash
    ⨾ escaped backslash
    ⨾ escaped backspace
    ⨾ escaped form_feed
    ⨾ escaped line_feed
    ⨾ escaped carriage_return
    ⨾ escaped tabulation
    ⨾ (λ i. inside (λ c bs n. rw (only i) n))
    ⨾ tt)
    fails

upper-d : {b : ℕ} → In 0x44 0x44 b → Hex 0xD b
upper-d {b = b} i = upper {b = b} {x = 0xD} (omega arith) (omega arith)

lower-d : {b : ℕ} → In 0x64 0x64 b → Hex 0xD b
lower-d {b = b} i = lower {b = b} {x = 0xD} (omega arith) (omega arith)

not-d : {x b : ℕ} → Hex x b → (In 0x44 0x44 b → ⊥) → (In 0x64 0x64 b → ⊥) → x ≡ 0xD → ⊥
not-d (digit i e) u l z = omega arith
not-d (upper i e) u l z = u (omega arith)
not-d (lower i e) u l z = l (omega arith)

-- a first digit that is not D makes no surrogate
unit-begins : {x b : ℕ} (c bs : List ℕ) → Hex x b → (x ≡ 0xD → ⊥) → HexEnd 2 x c bs → Char c (0x5C ∷ 0x75 ∷ b ∷ bs)
unit-begins c bs h n (hex_end (more_hex g r) e) =
    let u = two_bound r in let v = hex_bound g in
    unit (four-last h g refl r) (λ s. n (omega arith)) e

unit_kept : (b : ℕ) → Kept m_unit b (char_step m_unit b)
unfolding char_step
unit_kept b =
    pick_first (Kept m_unit b) b 0x44 0x44 _ _ _ (λ i. inside (λ c bs n. n b (upper-d i)))
    (λ u. pick_first (Kept m_unit b) b 0x64 0x64 _ _ _ (λ i. inside (λ c bs n. n b (lower-d i)))
    (λ l. pick-within (Kept m_unit b) b _ _ (hex-within (Kept m_unit b) b _ (λ x h. inside (λ c bs n. unit-begins c bs h (not-d h u l) n))) fails))

-- after D a digit up to 7 makes no surrogate
low_digit : {i b : ℕ} (c bs : List ℕ) → Hex i b → i ≤ 7 → HexEnd 1 (0xD0 + i) c bs → (a : ℕ) → Hex 0xD a → Char c (0x5C ∷ 0x75 ∷ a ∷ b ∷ bs)
low_digit c bs h l (hex_end r e) a g = let u = two_bound r in unit (four-last g h (omega arith) r) (λ s. omega arith) e

-- after D a digit from 8 to B makes a high surrogate
high_digit : {i b : ℕ} (c bs : List ℕ) → Hex i b → In 8 11 i → HighEnd 1 (0xD0 + i) c bs → (a : ℕ) → Hex 0xD a → Char c (0x5C ∷ 0x75 ∷ a ∷ b ∷ bs)
high_digit c bs h l (high_end r u e) a g = let v = two_bound r in rw e (u _ (four-last g h (omega arith) r) (omega arith))

unitd_kept : (b : ℕ) → Kept m_unit_d b (char_step m_unit_d b)
unfolding char_step
unitd_kept b =
    pick-within (Kept m_unit_d b) b _ _
    ((λ i. inside (λ c bs n. low_digit c bs (digit (omega arith) refl) (omega arith) n))
    ⨾ (λ i. inside (λ c bs n. high_digit c bs (digit (omega arith) refl) (omega arith) n))
    ⨾ (λ i. inside (λ c bs n. high_digit c bs (upper (omega arith) refl) (omega arith) n))
    ⨾ (λ i. inside (λ c bs n. high_digit c bs (lower (omega arith) refl) (omega arith) n))
    ⨾ tt)
    fails

hex-next : (n x : ℕ) {i b : ℕ} → Hex i b → Kept (m_hex n x) b (hex_next n (x * 16 + i))
unfolding hex_next
hex-next zero x h = inside (λ c bs n. rw (n.0, n.1, append-nil) (hex_end (last_hex h refl) refl))
hex-next (suc n) x h = inside (λ c bs. elim [ hex_end r e ↦ hex_end (more_hex h r) e ])

high-next : (n x : ℕ) {i b : ℕ} → Hex i b → Kept (m_high n x) b (high_next n (x * 16 + i))
unfolding high_next
high-next zero x h = inside (λ c bs n. high_end (last_hex h refl) n refl)
high-next (suc n) x h = inside (λ c bs. elim [ high_end r u e ↦ high_end (more_hex h r) u (cc) ])

low-next : (k n x : ℕ) {i b : ℕ} → Hex i b → Kept (m_low k n x) b (low_next k n (x * 16 + i))
unfolding low_next
low-next k zero x h = inside (λ c bs n. rw (n.0, n.1, append-nil) (low_end (last_hex h refl) refl))
low-next k (suc n) x h = inside (λ c bs. elim [ low_end r e ↦ low_end (more_hex h r) e ])

-- after D a digit from C to F makes a low surrogate
pair-digit : {h i b : ℕ} (c bs : List ℕ) → Hex i b → In 12 15 i → LowEnd h 1 (0xD0 + i) c bs → (a : ℕ) → Hex 0xD a → Upon h c (0x5C ∷ 0x75 ∷ a ∷ b ∷ bs)
pair-digit c bs g l (low_end r e) a k hs f i = let v = two_bound r in pair f i (four-last k g (omega arith) r) (omega arith) e refl

pub char-kept : (m : Mid) (b : ℕ) → Kept m b (char_step m b)
unfolding char_step
char-kept m_text b = text-kept b
char-kept (m_wide lo hi n) b = wide-kept lo hi n b
char-kept m_slash b = slash-kept b
char-kept m_unit b = unit_kept b
char-kept m_unit_d b = unitd_kept b
char-kept (m_hex n x) b = pick-within (Kept (m_hex n x) b) b _ _ (hex-within (Kept (m_hex n x) b) b _ (λ i h. hex-next n x h)) fails
char-kept (m_high n x) b = pick-within (Kept (m_high n x) b) b _ _ (hex-within (Kept (m_high n x) b) b _ (λ i h. high-next n x h)) fails
char-kept (m_pair h) b = pick-within (Kept (m_pair h) b) b _ _ ((λ i. inside (λ c bs n. rw (only i) n)) ⨾ tt) fails
char-kept (m_pair_u h) b = pick-within (Kept (m_pair_u h) b) b _ _ ((λ i. inside (λ c bs n. rw (only i) n)) ⨾ tt) fails
char-kept (m_pair_d h) b = pick-within (Kept (m_pair_d h) b) b _ _ ((λ i. inside (λ c bs n. n b (upper-d i))) ⨾ (λ i. inside (λ c bs n. n b (lower-d i))) ⨾ tt) fails
char-kept (m_pair_digit h) b =
    pick-within (Kept (m_pair_digit h) b) b _ _
    ((λ i. inside (λ c bs n. pair-digit c bs (upper (omega arith) refl) (omega arith) n))
    ⨾ (λ i. inside (λ c bs n. pair-digit c bs (lower (omega arith) refl) (omega arith) n))
    ⨾ tt)
    fails
char-kept (m_low k n x) b = pick-within (Kept (m_low k n x) b) b _ _ (hex-within (Kept (m_low k n x) b) b _ (λ i h. low-next k n x h)) fails
