-- A string by places denotes and ends as the grammar says. Each law on its pieces takes what is so after them to what is so before them.
use Prim.Native.Nat.{ℕ, zero, suc, ◌+◌, ◌≤◌, ◌<◌}
use mathlib.Core.Path.{◌≡◌, refl, ap, ◌∙◌}
use mathlib.Core.List.{List, [], ◌∷◌, ◌++◌, append_assoc}
use mathlib.Core.Bool.{false}
use native.Mathlib.Numerals.{add-one, add-two}
use native.Mathlib.Omega.{arith}
use borrow.Author.Tests.{ne_eqb}
use lib.Dec.{eqb}
use lib.ListN.{length, drop, length-append}
use Rattle.json_text.specs.Bytes.{In, pick, past}
use Rattle.json_text.specs.Utf8.{encode, Wide, two, three_e0, three_e1, three_eD, three_eE, four_f0, four_f1, four_f4}
use Rattle.json_text.specs.Grammar.{Hex, digit, upper, lower, Four, four, Escape, quote, backslash, slash, backspace, form_feed, line_feed, carriage_return, tabulation, paired, Char, plain, wide, escape, unit, pair, Chars, no_char, char, Quoted, quoted}
use Rattle.json_text.proofs.Feed.{in-true, in-false}
use Rattle.tokens.specs.Places.{byte_at}
use Rattle.tokens.specs.declared.strings.Piece.TheVariants as piece
use Rattle.slices.proofs.DigitLaws.{hex-of}
use Rattle.tokens.specs.Strings.{digit_at, unit_at, letter_of, unit_piece, escape_at, piece_at, denoted_in, denoted, close_in, string_end}
use Rattle.tokens.proofs.TiePlace.{byte_on, byte_here, drop-next, drop_past, past_append, length-left}

-- ---- bytes that stand for themselves

abbrev Bare : ℕ → Type 0
Bare b = (b < 256) × (b ≡ 0x22 → ⊥) × (b ≡ 0x5C → ⊥)

abbrev Bares : List ℕ → Type 0
Bares [] = Unit {0}
Bares (b ∷ bs) = Bare b × Bares bs

wide_bares : {c : List ℕ} → Wide c → Bares c
wide_bares (two h g) = omega arith
wide_bares (three_e0 g i) = omega arith
wide_bares (three_e1 h g i) = omega arith
wide_bares (three_eD g i) = omega arith
wide_bares (three_eE h g i) = omega arith
wide_bares (four_f0 g i j) = omega arith
wide_bares (four_f1 h g i j) = omega arith
wide_bares (four_f4 g i j) = omega arith

hex-bare : {x b : ℕ} → Hex x b → Bare b
hex-bare (digit h e) = omega arith
hex-bare (upper h e) = omega arith
hex-bare (lower h e) = omega arith

four_bares : {x : ℕ} {bs : List ℕ} → Four x bs → Bares bs
four_bares (four i j k l e) = (hex-bare i, (hex-bare j, (hex-bare k, (hex-bare l, tt))))

-- ---- where the string ends

-- From p on the bytes bs and a closing quotation mark are passed with any fuel above their number.
record Closes (s : List ℕ) (p : ℕ) (bs : List ℕ) : Type 0 where
  passed : (n : ℕ) → length bs < n → close_in n s p ≡ suc (past p bs)

close-bare : (s : List ℕ) (p b n : ℕ) → byte_at s p ≡ b → Bare b → close_in (suc n) s p ≡ close_in n s (suc p)
unfolding close_in
close-bare s p b n e h = rw (e, close_in, ne_eqb b 256 (λ q. omega arith), e, ne_eqb b 0x22 h.1, e, ne_eqb b 0x5C h.2, add-one p)

close-slash : (s : List ℕ) (p n : ℕ) → byte_at s p ≡ 0x5C → close_in (suc n) s p ≡ close_in n s (suc (suc p))
unfolding close_in
close-slash s p n e = rw (e, close_in, e, e, add-two p)

close-mark : (s : List ℕ) (p n : ℕ) → byte_at s p ≡ 0x22 → close_in (suc n) s p ≡ suc p
unfolding close_in
close-mark s p n e = rw (e, close_in, e, add-one p)

-- one step from p to q
step-closes : {s : List ℕ} {p q : ℕ} {xs bs : List ℕ} → ((n : ℕ) → close_in (suc n) s p ≡ close_in n s q) → length bs < length xs → past q bs ≡ past p xs → Closes s q bs → Closes s p xs
step-closes {s} {p} {q} {xs} {bs} f l e c = record { passed = go' }
  where
    go' : (n : ℕ) → length xs < n → close_in n s p ≡ suc (past p xs)
    go' zero m = absurd (omega arith)
    go' (suc n) m = f n ∙ c.passed n (omega arith) ∙ ap suc e

mark-closes : {s : List ℕ} {p : ℕ} {ys : List ℕ} → drop p s ≡ 0x22 ∷ ys → Closes s p []
unfolding past
mark-closes {s} {p} {ys} h = record { passed = go' }
  where
    go' : (n : ℕ) → 0 < n → close_in n s p ≡ suc p
    go' zero l = absurd (omega arith)
    go' (suc n) l = close-mark s p n (byte_here s p 0x22 ys h)

slash-closes : {s : List ℕ} {p b : ℕ} {bs ws : List ℕ} → drop p s ≡ 0x5C ∷ b ∷ ws → Closes s (suc (suc p)) bs → Closes s p (0x5C ∷ b ∷ bs)
unfolding past
slash-closes {s} {p} h c = step-closes (λ n. close-slash s p n (byte_here s p 0x5C _ h)) (omega arith) refl c

bares_close : {s : List ℕ} {p : ℕ} {bs : List ℕ} (xs ws : List ℕ) → Bares xs → drop p s ≡ xs ++ ws → Closes s (past p xs) bs → Closes s p (xs ++ bs)
unfolding past
bares_close [] ws g h c = c
bares_close {s} {p} (b ∷ xs) ws g h c =
    step-closes (λ n. close-bare s p b n (byte_here s p b _ h) g.0) (omega arith) refl (bares_close xs ws g.1 (drop-next s p b (xs ++ ws) h) c)

-- \u and four digits
unit-closes : {s : List ℕ} {p x : ℕ} {fs bs : List ℕ} (ws : List ℕ) → Four x fs → drop p s ≡ 0x5C ∷ 0x75 ∷ (fs ++ ws) → Closes s (past p (0x5C ∷ 0x75 ∷ fs)) bs
    → Closes s p (0x5C ∷ 0x75 ∷ (fs ++ bs))
unfolding past
unit-closes {s} {p} {fs = fs} ws f h c = slash-closes h (bares_close fs ws (four_bares f) (drop_past s p (0x5C ∷ 0x75 ∷ []) (fs ++ ws) h) c)

pair-closes : {s : List ℕ} {p x y : ℕ} {fs gs bs : List ℕ} (ws : List ℕ) → Four x fs → Four y gs → drop p s ≡ 0x5C ∷ 0x75 ∷ ((fs ++ (0x5C ∷ 0x75 ∷ gs)) ++ ws)
    → Closes s (past p (0x5C ∷ 0x75 ∷ (fs ++ (0x5C ∷ 0x75 ∷ gs)))) bs → Closes s p (0x5C ∷ 0x75 ∷ ((fs ++ (0x5C ∷ 0x75 ∷ gs)) ++ bs))
unfolding past
pair-closes {s} {p} {gs = gs} ws (four {a = a} {b = b} {c = c} {d = d} i j k l e) g h w =
    unit-closes (0x5C ∷ 0x75 ∷ (gs ++ ws)) (four i j k l e) h (unit-closes ws g (drop_past s p (0x5C ∷ 0x75 ∷ a ∷ b ∷ c ∷ d ∷ []) _ h) w)

char-closes : {s : List ℕ} {p : ℕ} {c xs bs : List ℕ} (ws : List ℕ) → Char c xs → drop p s ≡ xs ++ ws → Closes s (past p xs) bs → Closes s p (xs ++ bs)
unfolding past
char-closes ws (plain {b = b} g n m) h c = bares_close (b ∷ []) ws (omega arith) h c
char-closes ws (wide {c = xs} w) h c = bares_close xs ws (wide_bares w) h c
char-closes ws (escape e) h c = slash-closes h c
char-closes ws (unit f n e) h c = unit-closes ws f h c
char-closes ws (pair f i g j e d) h c = rw d (pair-closes ws f g (rw d at h) (rw d at c))

chars-close : {s : List ℕ} {p : ℕ} {t bs : List ℕ} (ys : List ℕ) → Chars t bs → drop p s ≡ bs ++ (0x22 ∷ ys) → Closes s p bs
unfolding past
chars-close ys no_char h = mark-closes h
chars-close {s} {p} ys (char {bs = bs} {cs = cs} c cc' e d) h =
    let g : drop p s ≡ bs ++ (cs ++ (0x22 ∷ ys)) = rw (d, append_assoc) at h in
    rw d (char-closes (cs ++ (0x22 ∷ ys)) c g (chars-close ys cc' (drop_past s p bs _ g)))

-- ---- pieces

bare_piece : (s : List ℕ) (p b : ℕ) → byte_at s p ≡ b → Bare b → piece_at s p ≡ piece.Bare b
unfolding piece_at
bare_piece s p b e h = rw (e, piece_at, ne_eqb b 0x22 h.1, ne_eqb b 256 (λ q. omega arith), e, ne_eqb b 0x5C h.2, e)

mark_piece : (s : List ℕ) (p : ℕ) → byte_at s p ≡ 0x22 → piece_at s p ≡ piece.Close
unfolding piece_at
mark_piece s p e = rw (e, piece_at)

slash_piece : (s : List ℕ) (p : ℕ) (ws : List ℕ) → drop p s ≡ 0x5C ∷ ws → piece_at s p ≡ escape_at s (suc p)
unfolding piece_at
slash_piece s p ws h = let e = byte_here s p 0x5C ws h in rw (e, piece_at, e, add-one p)

-- a letter after a backslash is not u
letter_facts : {c b : ℕ} → Escape c b → (eqb b 0x75 ≡ false) × (letter_of b ≡ c) × (encode c ≡ c ∷ [])
unfolding letter_of pick encode
letter_facts quote = (refl, refl, refl)
letter_facts backslash = (refl, refl, refl)
letter_facts slash = (refl, refl, refl)
letter_facts backspace = (refl, refl, refl)
letter_facts form_feed = (refl, refl, refl)
letter_facts line_feed = (refl, refl, refl)
letter_facts carriage_return = (refl, refl, refl)
letter_facts tabulation = (refl, refl, refl)

letter_piece : {c b : ℕ} (s : List ℕ) (p : ℕ) (ws : List ℕ) → Escape c b → drop p s ≡ 0x5C ∷ b ∷ ws → piece_at s p ≡ piece.Escaped c (suc (suc p))
unfolding escape_at
letter_piece {b = b} s p ws x h =
    let f = letter_facts x in
    let e = byte_here s (suc p) b ws (drop-next s p 0x5C (b ∷ ws) h) in
    slash_piece s p (b ∷ ws) h ∙ rw (e, escape_at, f.0, e, f.1, add-one (suc p))

hex-at : {x b : ℕ} (s : List ℕ) (p : ℕ) → Hex x b → byte_at s p ≡ b → digit_at s p ≡ x
unfolding digit_at
hex-at s p h q = rw (q, hex-of h)

four-at : {x : ℕ} {fs : List ℕ} (s : List ℕ) (p : ℕ) (ws : List ℕ) → Four x fs → drop p s ≡ fs ++ ws → unit_at s p ≡ x
unfolding unit_at
four-at s p ws (four {a = a} i j k l e) h =
    rw (hex-at s p i (byte_here s p a _ h), hex-at s (p + 1) j (byte_on s p 1 _ h), hex-at s (p + 2) k (byte_on s p 2 _ h), hex-at s (p + 3) l (byte_on s p 3 _ h), e)

escape-unit : {x : ℕ} {fs : List ℕ} (s : List ℕ) (p : ℕ) (ws : List ℕ) → Four x fs → drop p s ≡ 0x5C ∷ 0x75 ∷ (fs ++ ws) → piece_at s p ≡ unit_piece s (suc (suc p)) x
unfolding escape_at
escape-unit {fs = fs} s p ws f h =
    let g = drop-next s p 0x5C _ h in
    let e = byte_here s (suc p) 0x75 _ g in
    slash_piece s p _ h ∙ rw (e, escape_at, add-one (suc p), four-at s (suc (suc p)) ws f (drop-next s (suc p) 0x75 _ g))

unit_piece_lem : {x : ℕ} {fs : List ℕ} (s : List ℕ) (p : ℕ) (ws : List ℕ) → Four x fs → (In 0xD800 0xDFFF x → ⊥) → drop p s ≡ 0x5C ∷ 0x75 ∷ (fs ++ ws)
    → piece_at s p ≡ piece.Escaped x (past p (0x5C ∷ 0x75 ∷ fs))
unfolding unit_piece past
unit_piece_lem {x} s p ws (four i j k l e) n h =
    escape-unit s p ws (four i j k l e) h ∙ rw (in-false 0xD800 0xDBFF x (λ g. n (omega arith)), unit_piece) (ap (piece.Escaped x) (omega arith))

pair_piece : {x y : ℕ} {fs gs : List ℕ} (s : List ℕ) (p : ℕ) (ws : List ℕ) → Four x fs → In 0xD800 0xDBFF x → Four y gs → drop p s ≡ 0x5C ∷ 0x75 ∷ ((fs ++ (0x5C ∷ 0x75 ∷ gs)) ++ ws)
    → piece_at s p ≡ piece.Escaped (paired x y) (past p (0x5C ∷ 0x75 ∷ (fs ++ (0x5C ∷ 0x75 ∷ gs))))
unfolding unit_piece past
pair_piece {x} {y} s p ws (four {a = a} {b = b} {c = c} {d = d} i j k l e) n (four i' j' k' l' e') h =
    let xs : List ℕ = 0x5C ∷ 0x75 ∷ a ∷ b ∷ c ∷ d ∷ 0x5C ∷ 0x75 ∷ [] in
    let q : suc (suc p) + 6 ≡ past p xs = omega arith in
    let g = four-at s (past p xs) ws (four i' j' k' l' e') (drop_past s p xs _ h) in
    escape-unit s p _ (four i j k l e) h ∙ rw (in-true 0xD800 0xDBFF x n, unit_piece, q, g) (ap (piece.Escaped (paired x y)) (omega arith))

-- ---- what the string denotes

-- From p on the bytes bs before a closing quotation mark denote t with any fuel that is at least their number.
record Denotes (s : List ℕ) (p : ℕ) (bs t : List ℕ) : Type 0 where
  spelled : (n : ℕ) → length bs ≤ n → denoted_in n s p ≡ t

-- one piece, from p to q
step_denotes : {s : List ℕ} {p q : ℕ} {xs bs t : List ℕ} (c : List ℕ) → ((n : ℕ) → denoted_in (suc n) s p ≡ c ++ denoted_in n s q) → length bs < length xs → Denotes s q bs t → Denotes s p xs (c ++ t)
step_denotes {s} {p} {q} {xs} {bs} {t} c f l d = record { spelled = go' }
  where
    go' : (n : ℕ) → length xs ≤ n → denoted_in n s p ≡ c ++ t
    go' zero m = absurd (omega arith)
    go' (suc n) m = f n ∙ ap (λ (u : List ℕ). c ++ u) (d.spelled n (omega arith))

denoted-bare : (s : List ℕ) (p b n : ℕ) → piece_at s p ≡ piece.Bare b → denoted_in (suc n) s p ≡ b ∷ denoted_in n s (suc p)
unfolding denoted_in
denoted-bare s p b n e = rw (e, denoted_in, add-one p)

denoted-escaped : (s : List ℕ) (p x q n : ℕ) → piece_at s p ≡ piece.Escaped x q → denoted_in (suc n) s p ≡ encode x ++ denoted_in n s q
unfolding denoted_in
denoted-escaped s p x q n e = rw (e, denoted_in)

mark_denotes : {s : List ℕ} {p : ℕ} {ys : List ℕ} → drop p s ≡ 0x22 ∷ ys → Denotes s p [] []
unfolding denoted_in
mark_denotes {s} {p} {ys} h = record { spelled = go' }
  where
    go' : (n : ℕ) → 0 ≤ n → denoted_in n s p ≡ []
    go' zero l = refl
    go' (suc n) l = rw (mark_piece s p (byte_here s p 0x22 ys h), denoted_in)

bares_denote : {s : List ℕ} {p : ℕ} {bs t : List ℕ} (xs ws : List ℕ) → Bares xs → drop p s ≡ xs ++ ws → Denotes s (past p xs) bs t → Denotes s p (xs ++ bs) (xs ++ t)
unfolding past
bares_denote [] ws g h d = d
bares_denote {s} {p} (b ∷ xs) ws g h d =
    step_denotes (b ∷ []) (λ n. denoted-bare s p b n (bare_piece s p b (byte_here s p b _ h) g.0)) (omega arith) (bares_denote xs ws g.1 (drop-next s p b (xs ++ ws) h) d)

escape_denotes : {s : List ℕ} {p x : ℕ} {bs t : List ℕ} (b : ℕ) (xs : List ℕ) → piece_at s p ≡ piece.Escaped x (past p (b ∷ xs)) → Denotes s (past p (b ∷ xs)) bs t → Denotes s p (b ∷ xs ++ bs) (encode x ++ t)
escape_denotes {s} {p} {x} {bs} b xs e d = step_denotes (encode x) (λ n. denoted-escaped s p x _ n e) (omega (arith, length-append xs bs)) d

char_denotes : {s : List ℕ} {p : ℕ} {c xs bs t : List ℕ} (ws : List ℕ) → Char c xs → drop p s ≡ xs ++ ws → Denotes s (past p xs) bs t → Denotes s p (xs ++ bs) (c ++ t)
unfolding past
char_denotes ws (plain {b = b} g n m) h d = bares_denote (b ∷ []) ws (omega arith) h d
char_denotes ws (wide {c = xs} w) h d = bares_denote xs ws (wide_bares w) h d
char_denotes {s} {p} ws (escape {b = b} e) h d = rw (letter_facts e).2 at (escape_denotes 0x5C (b ∷ []) (letter_piece s p ws e h) d)
char_denotes {s} {p} ws (unit {bs = fs} f n e) h d = rw e (escape_denotes 0x5C (0x75 ∷ fs) (unit_piece_lem s p ws f n h) d)
char_denotes {s} {p} ws (pair {bs = fs} {cs = gs} f i g j e q) h d = rw (q, e) (escape_denotes 0x5C (0x75 ∷ (fs ++ (0x5C ∷ 0x75 ∷ gs))) (pair_piece s p ws f i g (rw q at h)) (rw q at d))

chars_denote : {s : List ℕ} {p : ℕ} {t bs : List ℕ} (ys : List ℕ) → Chars t bs → drop p s ≡ bs ++ (0x22 ∷ ys) → Denotes s p bs t
chars_denote ys no_char h = mark_denotes h
chars_denote {s} {p} ys (char {bs = bs} {cs = cs} c cc' e d) h =
    let g : drop p s ≡ bs ++ (cs ++ (0x22 ∷ ys)) = rw (d, append_assoc) at h in
    rw (d, e) (char_denotes (cs ++ (0x22 ∷ ys)) c g (chars_denote {p = past p bs} ys cc' (drop_past s p bs _ g)))

-- ---- the laws

-- after the opening quotation mark
pub chars-read : {t bs : List ℕ} (s : List ℕ) (p : ℕ) (ys : List ℕ) → Chars t bs → drop p s ≡ bs ++ (0x22 ∷ ys) → (denoted s p ≡ t) × (string_end s p ≡ suc (past p bs))
unfolding denoted string_end
chars-read {bs = bs} s p ys c h =
    let l : length bs < length s = omega (arith, length-left s p _ h, length-append bs (0x22 ∷ ys)) in
    ((chars_denote ys c h).spelled (length s) (omega arith), (chars-close ys c h).passed (length s) l)

-- from the opening quotation mark on
pub quoted-read : {t bs : List ℕ} (s : List ℕ) (p : ℕ) (ys : List ℕ) → Quoted t bs → drop p s ≡ bs ++ ys
    → (denoted s (suc p) ≡ t) × (string_end s (suc p) ≡ past p bs) × (byte_at s p ≡ 0x22)
unfolding past
quoted-read s p ys (quoted {bs = bs} {cs = cs} c e) h =
    let g : drop (suc p) s ≡ bs ++ (0x22 ∷ ys) = rw (e, append_assoc) at (drop-next s p 0x22 (cs ++ ys) h) in
    let k = chars-read s (suc p) ys c g in
    (k.0, k.1 ∙ rw (e, past_append), byte_here s p 0x22 (cs ++ ys) h)
