-- Lines of hexadecimal: their digits, their ends, and what is stored of them.
use mathlib.Core.Path.{◌≡◌, refl, sym, ap, ◌∙◌}
use mathlib.Core.List.{List, [], ◌∷◌}
use mathlib.Core.Bool.{Bool, true, false, false≢true}
use Rattle.std.specs.Prelude.{Option, None, Some}
use Rattle.std.specs.Option.{option_map, unwrap_or, is_some}
use Rattle.std.proofs.Common.{cond}
use Rattle.std.specs.List.{position, position_or_len}
use Prim.Native.Nat.{ℕ, zero, suc, ◌+◌, ◌-◌, ◌*◌, ◌/◌, ◌%◌, ◌<◌, ◌≤◌}
use native.Mathlib.Numerals.{add-one}
use native.Mathlib.Omega.{arith}
use borrow.Author.Tests.{eq-eqb, ne_eqb, eqb-true, eqb-false, leb-true, leb-false, le-leb, lt-leb, ltb-false}
use lib.Dec.{eqb, leb, ltb}
use lib.ListN.{length, get_or, take, drop, set, drop_of_length-le, length-drop}
use lib.Seq.{drop-cons, get_or-drop, take-length, sets}
use native.Mathlib.Nat.{add-zero}
use Rattle.jer.specs.Octets.{also, only_if, hex_value, unhex}
use Rattle.jer.specs.Programs.{line_from, line_at, octets_in, numbers_in}
use Rattle.lines.specs.Taken.{is_hex, octets_of, octet_at, number_at, numbers_line, taken_of, after, numbers_each}

-- ---- lines that are hexadecimal

module _ (b : ℕ) (s : List ℕ) where
  hex-not : hex_value b ≡ None → is_hex (b ∷ s) ≡ false
  hex-not e = rw e

  hex-rest : {x : ℕ} → hex_value b ≡ Some x → is_hex (b ∷ s) ≡ is_hex s
  hex-rest e = rw e

  -- its first byte is a digit, and so is all the rest
  hex-first : is_hex (b ∷ s) ≡ true → (x : ℕ) × (hex_value b ≡ Some x) × (is_hex s ≡ true)
  hex-first h = go (hex_value b) refl
    where
      go : (o : Option ℕ) → hex_value b ≡ o → (x : ℕ) × (hex_value b ≡ Some x) × (is_hex s ≡ true)
      go None e = absurd (false≢true (sym (hex-not e) ∙ h))
      go (Some x) e = (x, e, sym (hex-rest e) ∙ h)

unhex-good : (bs : List ℕ) → is_hex bs ≡ true → length bs % 2 ≡ 0 → unhex bs ≡ Some (octets_of bs)
unfolding unhex also octets_of
unhex-good [] h e = refl
unhex-good (a ∷ []) h e = absurd (omega arith)
unhex-good (a ∷ b ∷ s) h e =
    let f = hex-first a (b ∷ s) h in
    let g = hex-first b s f.2 in
    rw (f.1, g.1, unhex-good s g.2 (omega arith))

unhex-other : (bs : List ℕ) → is_hex bs ≡ false → unhex bs ≡ None
unfolding unhex also
unhex-other [] h = absurd (let z : ◌≡◌ {A = ℕ} 0 1 = cc in omega arith)
unhex-other (a ∷ []) h = refl
unhex-other (a ∷ b ∷ s) h = go (hex_value a) (hex_value b) refl refl (unhex-other s)
  where
    go : (x y : Option ℕ) → hex_value a ≡ x → hex_value b ≡ y → (is_hex s ≡ false → unhex s ≡ None) → unhex (a ∷ b ∷ s) ≡ None
    go None y e f rest = rw e
    go (Some x) None e f rest = rw (e, f)
    go (Some x) (Some y) e f rest = rw (e, f, rest (sym (hex-rest b s f) ∙ sym (hex-rest a (b ∷ s) e) ∙ h))

unhex_odd : (bs : List ℕ) → (length bs % 2 ≡ 0 → ⊥) → unhex bs ≡ None
unfolding unhex also
unhex_odd [] h = absurd (h refl)
unhex_odd (a ∷ []) h = refl
unhex_odd (a ∷ b ∷ s) h = go (hex_value a) (hex_value b) refl refl (unhex_odd s (λ w. h (omega arith)))
  where
    go : (x y : Option ℕ) → hex_value a ≡ x → hex_value b ≡ y → unhex s ≡ None → unhex (a ∷ b ∷ s) ≡ None
    go None y e f rest = rw e
    go (Some x) None e f rest = rw (e, f)
    go (Some x) (Some y) e f rest = rw (e, f, rest)

pub octets-length : (bs : List ℕ) → length (octets_of bs) ≡ length bs / 2
unfolding octets_of
octets-length [] = refl
octets-length (a ∷ []) = refl
octets-length (a ∷ b ∷ s) = omega (arith, octets-length s)

-- ---- good lines

pub not_some : (o : Option (List ℕ)) → false ≡ is_some o → o ≡ None
not_some None e = refl
not_some (Some xs) e = absurd (false≢true e)

module _ (n : ℕ) (bs : List ℕ) where
  over_none : 16384 < length bs → octets_in n bs ≡ None
  unfolding octets_in
  over_none h = rw (lt-leb (length bs) 16384 h, octets_in)

  pub over-long : 16384 < length bs → false ≡ is_some (octets_in n bs)
  over-long h = rw (over_none h)

  module _ (h : length bs ≤ 16384) where
    in-short : octets_in n bs ≡ also (unhex bs) (λ os. only_if (eqb (length os % n) 0) os)
    unfolding octets_in
    in-short = rw (le-leb (length bs) 16384 h, octets_in)

    pub odd_line : (length bs % 2 ≡ 0 → ⊥) → false ≡ is_some (octets_in n bs)
    unfolding also
    odd_line e = rw (in-short, unhex_odd bs e)

    not-digits : is_hex bs ≡ false → octets_in n bs ≡ None
    unfolding also
    not-digits d = rw (in-short, unhex-other bs d)

    module _ (e : length bs % 2 ≡ 0) where
      in-digits : is_hex bs ≡ true → octets_in n bs ≡ only_if (eqb (length bs / 2 % n) 0) (octets_of bs)
      unfolding also
      in-digits d = rw (in-short, unhex-good bs d e, octets-length bs)

      pub not-whole : (length bs / 2 % n ≡ 0 → ⊥) → false ≡ is_some (octets_in n bs)
      unfolding only_if
      not-whole w = go (is_hex bs) refl
        where
          go : (d : Bool) → is_hex bs ≡ d → false ≡ is_some (octets_in n bs)
          go true d = rw (in-digits d, ne_eqb (length bs / 2 % n) 0 w)
          go false d = rw (not-digits d)

      module _ (w : length bs / 2 % n ≡ 0) where
        in-good : is_hex bs ≡ true → octets_in n bs ≡ Some (octets_of bs)
        unfolding only_if
        in-good d = rw (in-digits d, eq-eqb (length bs / 2 % n) 0 w)

        pub whole : is_hex bs ≡ is_some (octets_in n bs)
        whole = go (is_hex bs) refl
          where
            go : (d : Bool) → is_hex bs ≡ d → d ≡ is_some (octets_in n bs)
            go true d = rw (in-good d)
            go false d = rw (not-digits d)

  -- a line of which the octets are taken
  pub record Good : Type 0 where
    pub short : length bs ≤ 16384
    pub even : length bs % 2 ≡ 0
    pub units : length bs / 2 % n ≡ 0
    pub digits : is_hex bs ≡ true
    pub octets : octets_in n bs ≡ Some (octets_of bs)

  pub good : true ≡ is_some (octets_in n bs) → Good
  good g = short (leb (length bs) 16384) refl
    where
      no : false ≡ is_some (octets_in n bs) → Good
      no f = absurd (false≢true (f ∙ sym g))

      digits : (d : Bool) → is_hex bs ≡ d → length bs ≤ 16384 → length bs % 2 ≡ 0 → length bs / 2 % n ≡ 0 → Good
      digits true d h e w = record { short = h; even = e; units = w; digits = d; octets = in-good h e w d }
      digits false d h e w = no (sym d ∙ whole h e w)

      units : (u : Bool) → eqb (length bs / 2 % n) 0 ≡ u → length bs ≤ 16384 → length bs % 2 ≡ 0 → Good
      units true u h e = digits (is_hex bs) refl h e (eqb-true (length bs / 2 % n) 0 u)
      units false u h e = no (not-whole h e (eqb-false (length bs / 2 % n) 0 u))

      even : (u : Bool) → eqb (length bs % 2) 0 ≡ u → length bs ≤ 16384 → Good
      even true u h = units (eqb (length bs / 2 % n) 0) refl h (eqb-true (length bs % 2) 0 u)
      even false u h = no (odd_line h (eqb-false (length bs % 2) 0 u))

      short : (u : Bool) → leb (length bs) 16384 ≡ u → Good
      short true u = even (eqb (length bs % 2) 0) refl (leb-true (length bs) 16384 u)
      short false u = no (over-long (leb-false (length bs) 16384 u))

-- ---- where a line ends

pub line_bytes : (l : List ℕ) → take (length (line_from l).bytes) l ≡ (line_from l).bytes
unfolding line_from
line_bytes [] = refl
line_bytes (b ∷ l) = go (eqb b 0x0A) refl (line_bytes l)
  where
    go : (t : Bool) → eqb b 0x0A ≡ t → take (length (line_from l).bytes) l ≡ (line_from l).bytes → take (length (line_from (b ∷ l)).bytes) (b ∷ l) ≡ (line_from (b ∷ l)).bytes
    go true e rest = rw (e, line_from)
    go false e rest = rw (e, line_from) (ap (λ (m : List ℕ). b ∷ m) rest)

pub line_rest : (l : List ℕ) → drop (suc (length (line_from l).bytes)) l ≡ (line_from l).rest
unfolding line_from
line_rest [] = refl
line_rest (b ∷ l) = go (eqb b 0x0A) refl (line_rest l)
  where
    go : (t : Bool) → eqb b 0x0A ≡ t → drop (suc (length (line_from l).bytes)) l ≡ (line_from l).rest → drop (suc (length (line_from (b ∷ l)).bytes)) (b ∷ l) ≡ (line_from (b ∷ l)).rest
    go true e rest = rw (e, line_from)
    go false e rest = rw (e, line_from) rest

pub line_short : (l : List ℕ) → length (line_from l).bytes ≤ length l
unfolding line_from
line_short [] = omega arith
line_short (b ∷ l) = go (eqb b 0x0A) refl (line_short l)
  where
    go : (t : Bool) → eqb b 0x0A ≡ t → length (line_from l).bytes ≤ length l → length (line_from (b ∷ l)).bytes ≤ suc (length l)
    go true e rest = rw (e, line_from) (omega arith)
    go false e rest = rw (e, line_from) (omega arith)

line_end : (l : List ℕ) → position_or_len (λ b. eqb b 0x0A) l ≡ length (line_from l).bytes
unfolding line_from
line_end [] = refl
line_end (b ∷ l) = go (eqb b 0x0A) refl (line_end l)
  where
    go : (t : Bool) → eqb b 0x0A ≡ t → position_or_len (λ b. eqb b 0x0A) l ≡ length (line_from l).bytes → position_or_len (λ b. eqb b 0x0A) (b ∷ l) ≡ length (line_from (b ∷ l)).bytes
    go true e ih = rw (e, line_from)
    go false e ih = rw (e, line_from) (omega (arith, ih))

-- the first line's end, as the code seeks it
pub line_place : (l : List ℕ) → unwrap_or (position (λ b. eqb b 0x0A) l) (length l) ≡ length (line_from l).bytes
line_place l = go (ltb (position_or_len (λ b. eqb b 0x0A) l) (length l)) refl
  where
    go : (t : Bool) → ltb (position_or_len (λ b. eqb b 0x0A) l) (length l) ≡ t → unwrap_or (cond t (Some (position_or_len (λ b. eqb b 0x0A) l)) None) (length l) ≡ length (line_from l).bytes
    go true e = line_end l
    go false e = omega (arith, ltb-false (position_or_len (λ b. eqb b 0x0A) l) (length l) e, line_end l, line_short l)

-- what is left of s, as the code cuts it
pub rest_is : (s : List ℕ) (i : ℕ) → take (length s - i) (drop i s) ≡ drop i s
rest_is s i = rw (← length-drop i s) (take-length (drop i s))

module _ (s : List ℕ) (i : ℕ) where
  pub line_missing : (n : ℕ) → length s ≤ i → line_at n (drop i s) ≡ None
  unfolding line_at
  line_missing n h = rw (drop_of_length-le s h)

  module _ (h : i < length s) where
    pub line_at_lem : (n : ℕ) → line_at n (drop i s) ≡ octets_in n (line_from (drop i s)).bytes
    unfolding line_at
    line_at_lem n = rw (drop-cons s i 0 h)

-- ---- octets and numbers, each by its digits

module _ (l : List ℕ) where
  octets-two : (i : ℕ) → 1 < length l - i → octets_of (drop i l) ≡ octet_at l i ∷ octets_of (drop (i + 2) l)
  unfolding octets_of
  octets-two i h =
      let e : i + 2 ≡ suc (suc i) = omega arith in
      rw (drop-cons l i 0 (omega arith), drop-cons l (suc i) 0 (omega arith), add-one i, e)

  numbers_eight : (i : ℕ) → 7 < length l - i → numbers_in (octets_of (drop i l)) ≡ number_at l i ∷ numbers_in (octets_of (drop (i + 8) l))
  unfolding numbers_in
  numbers_eight i h =
      let e₁ : i + 2 + 2 ≡ i + 4 = omega arith in
      let e₂ : i + 4 + 2 ≡ i + 6 = omega arith in
      let e₃ : i + 6 + 2 ≡ i + 8 = omega arith in
      rw (octets-two i (omega arith), octets-two (i + 2) (omega arith), e₁, octets-two (i + 4) (omega arith), e₂, octets-two (i + 6) (omega arith), e₃)

drop-octets : (l : List ℕ) (k : ℕ) → drop k (octets_of l) ≡ octets_of (drop (k * 2) l)
unfolding octets_of
drop-octets l zero = refl
drop-octets [] (suc k) = rw (drop_of_length-le {A = ℕ} [] {i = suc k * 2} (omega arith))
drop-octets (a ∷ []) (suc k) = rw (drop_of_length-le (a ∷ []) {i = suc k * 2} (omega arith))
drop-octets (a ∷ b ∷ l) (suc k) = let e : suc k * 2 ≡ suc (suc (k * 2)) = omega arith in rw e (drop-octets l k)

drop_numbers : (os : List ℕ) (k : ℕ) → drop k (numbers_in os) ≡ numbers_in (drop (k * 4) os)
unfolding numbers_in
drop_numbers os zero = refl
drop_numbers [] (suc k) = rw (drop_of_length-le {A = ℕ} [] {i = suc k * 4} (omega arith))
drop_numbers (a ∷ []) (suc k) = rw (drop_of_length-le (a ∷ []) {i = suc k * 4} (omega arith))
drop_numbers (a ∷ b ∷ []) (suc k) = rw (drop_of_length-le (a ∷ b ∷ []) {i = suc k * 4} (omega arith))
drop_numbers (a ∷ b ∷ c ∷ []) (suc k) = rw (drop_of_length-le (a ∷ b ∷ c ∷ []) {i = suc k * 4} (omega arith))
drop_numbers (a ∷ b ∷ c ∷ d ∷ os) (suc k) = let e : suc k * 4 ≡ suc (suc (suc (suc (k * 4)))) = omega arith in rw e (drop_numbers os k)

-- the item before what is left
first-left : (xs : List ℕ) (k d x : ℕ) {ys : List ℕ} → drop k xs ≡ x ∷ ys → x ≡ get_or xs k d
first-left xs k d x e = sym (ap (λ (l : List ℕ). get_or l 0 d) e) ∙ get_or-drop k xs 0 d ∙ ap (λ (j : ℕ). get_or xs j d) (add-zero k)

pub octet-here : (l : List ℕ) (k d : ℕ) → k < length l / 2 → octet_at l (k * 2) ≡ get_or (octets_of l) k d
octet-here l k d h = first-left (octets_of l) k d (octet_at l (k * 2)) (drop-octets l k ∙ octets-two l (k * 2) (omega arith))

pub number-here : (l : List ℕ) (k d : ℕ) → k < length l / 2 / 4 → number_at l (k * 8) ≡ get_or (numbers_in (octets_of l)) k d
number-here l k d h =
    let e : k * 4 * 2 ≡ k * 8 = omega arith in
    first-left (numbers_in (octets_of l)) k d (number_at l (k * 8))
    (drop_numbers (octets_of l) k ∙ ap numbers_in (drop-octets l (k * 4) ∙ ap (λ (j : ℕ). octets_of (drop j l)) e) ∙ numbers_eight l (k * 8) (omega arith))

-- stored one by one
pub stored-next : {A : Type 0} (xs before : List A) (k : ℕ) (x : A) (now : List A) {after : List A} → k < length xs → ((d : A) → x ≡ get_or xs k d) → after ≡ set now k x
    → sets now k (drop k xs) ≡ sets before 0 xs → sets after (k + 1) (drop (k + 1) xs) ≡ sets before 0 xs
stored-next xs before k x now h f e inv =
    let first : drop k xs ≡ x ∷ drop (suc k) xs = drop-cons xs k x h ∙ ap (λ y. y ∷ drop (suc k) xs) (sym (f x)) in
    rw (e, add-one k) (rw first at inv)

pub stored-all : {A : Type 0} (xs before : List A) (k : ℕ) (now : List A) → length xs ≤ k → sets now k (drop k xs) ≡ sets before 0 xs → now ≡ sets before 0 xs
stored-all xs before k now h inv = rw (drop_of_length-le xs h) at inv

-- ---- what taking a line answers

module _ {A : Type 0} (s : List ℕ) (at : ℕ) (out : List A) {o : Option (List A)} where
  taken_none : o ≡ None → (None ≡ taken_of s at o) × (out ≡ after out o)
  unfolding taken_of after
  taken_none e = rw e (refl, refl)

  taken-some : (xs : List A) {m : List A} {n k : ℕ} → o ≡ Some xs → k ≡ length xs → n ≡ length (line_from (drop at s)).bytes → m ≡ sets out 0 xs
      → (Some (record { count = k; next = at + n + 1 }) ≡ taken_of s at o) × (m ≡ after out o)
  unfolding taken_of after
  taken-some xs e f g h = rw e (rw (f, g), h)

-- a line ends within s
pub line_ends : (s : List ℕ) (at : ℕ) → at < length s → {n : ℕ} → n ≡ length (line_from (drop at s)).bytes → at + n ≤ length s
line_ends s at h e = omega (arith, e, line_short (drop at s), length-drop at s)

-- the units of a line, which have u octets each
module _ {A : Type 0} (units : List ℕ → List A) (u : ℕ) (s : List ℕ) (at : ℕ) (out : List A) where
  -- no byte is left at that place
  pub unit-missing : length s ≤ at → (None ≡ taken_of s at (option_map units (line_at u (drop at s)))) × (out ≡ after out (option_map units (line_at u (drop at s))))
  unit-missing h = taken_none s at out (rw (line_missing s at u h))

  -- the line l of n bytes stands there
  module _ (h : at < length s) {n : ℕ} {l : List ℕ} (e : n ≡ length (line_from (drop at s)).bytes) (f : l ≡ take n (drop at s)) where
    own : l ≡ (line_from (drop at s)).bytes
    own = f ∙ ap (λ (k : ℕ). take k (drop at s)) e ∙ line_bytes (drop at s)

    count : length l ≡ n
    count = ap length own ∙ sym e

    of : line_at u (drop at s) ≡ octets_in u l
    of = line_at_lem s at h u ∙ ap (octets_in u) (sym own)

    pub unit-bad : {v : ℕ} → v ≡ u → false ≡ is_some (octets_in v l) → (None ≡ taken_of s at (option_map units (line_at u (drop at s)))) × (out ≡ after out (option_map units (line_at u (drop at s))))
    unit-bad {v} w g = taken_none s at out (rw (of, ← w, not_some (octets_in v l) g))

    pub unit-taken : {v x : ℕ} {m : List A} → v ≡ u → x ≡ u → true ≡ is_some (octets_in v l) → length (units (octets_of l)) ≡ length (octets_of l) / u → m ≡ sets out 0 (units (octets_of l))
        → (Some (record { count = n / 2 / x; next = at + n + 1 }) ≡ taken_of s at (option_map units (line_at u (drop at s)))) × (m ≡ after out (option_map units (line_at u (drop at s))))
    unit-taken {v} {x} w y g c k =
        let many : n / 2 / x ≡ length (units (octets_of l)) = rw (c, octets-length l, count, y) in
        taken-some s at out (units (octets_of l)) (rw (of, ← w, (good v l g).octets)) many e k

pub same-units : (o : Option (List ℕ)) → option_map (λ os. os) o ≡ o
same-units None = refl
same-units (Some os) = refl

pub numbers_line-is : (l : List ℕ) → option_map numbers_in (line_at 4 l) ≡ numbers_line l
unfolding numbers_line also
numbers_line-is l = go (line_at 4 l) refl
  where
    go : (o : Option (List ℕ)) → line_at 4 l ≡ o → option_map numbers_in o ≡ also o (λ os. Some (numbers_in os))
    go None e = refl
    go (Some os) e = refl

-- ---- no line has many

some-true : {o : Option (List ℕ)} {xs : List ℕ} → o ≡ Some xs → true ≡ is_some o
some-true e = rw e

pub octets-few : (n : ℕ) (l : List ℕ) {xs : List ℕ} → line_at n l ≡ Some xs → length xs ≤ 8192
unfolding line_at
octets-few n [] e = absurd (let z : ◌≡◌ {A = ℕ} 0 1 = cc in omega arith)
octets-few n (b ∷ l) {xs} e =
    let bs = (line_from (b ∷ l)).bytes in
    let g = good n bs (some-true e) in
    let f : octets_of bs ≡ xs = let w : Some (octets_of bs) ≡ Some xs = sym g.octets ∙ e in cc in
    omega (arith, ap length f, octets-length bs, g.short)

pub numbers-few : (l : List ℕ) {xs : List ℕ} → numbers_line l ≡ Some xs → length xs ≤ 2048
unfolding numbers_line also
numbers-few l {xs} e = go (line_at 4 l) refl e
  where
    go : (o : Option (List ℕ)) → line_at 4 l ≡ o → also o (λ os. Some (numbers_in os)) ≡ Some xs → length xs ≤ 2048
    go None w f = absurd (let z : ◌≡◌ {A = ℕ} 0 1 = cc in omega arith)
    go (Some os) w f = let v : numbers_in os ≡ xs = cc in omega (arith, ap length v, numbers_each os, octets-few 4 l w)
