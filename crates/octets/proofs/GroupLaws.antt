-- Groups of digits, and the octets of a string group by group.
use mathlib.Core.Path.{◌≡◌, refl, sym, ap, ◌∙◌}
use mathlib.Core.List.{List, [], ◌∷◌, ◌++◌, append-nil, append_assoc}
use mathlib.Core.Bool.{Bool, true, false}
use Rattle.std.specs.Prelude.{Option, None, Some}
use Rattle.std.specs.Option.{option_map}
use Prim.Native.Nat.{ℕ, ◌+◌, ◌*◌, ◌/◌, ◌%◌, ◌<◌, ◌≤◌}
use native.Mathlib.Omega.{arith}
use borrow.Author.Tests.{eq-eqb, ne_eqb, eqb-true, ltb-true, ltb-false}
use lib.Dec.{eqb, ltb}
use lib.ListN.{length, take, length-append}
use lib.Seq.{sets, length-take-le}
use Rattle.json_text.specs.Bytes.{pick}
use Rattle.jer.specs.Octets.{also, only_if, hex_value, unhex, base64_value, last_group, full_group, unbase64}
use Rattle.jer.specs.Table.{same_bytes}
use Rattle.jer.proofs.ValidLaws.{same_bytes-eq}
use Rattle.tokens.specs.Strings.{denoted}
use Rattle.slices.proofs.PartLaws.{sets_append}
use Rattle.tokens.proofs.StringLaws.{piece_past, denoted-close}
use Rattle.octets.specs.declared.decode.Next.{Next}
use Rattle.octets.specs.declared.decode.Next.TheVariants.{End, Is, Other}
use Rattle.octets.specs.declared.decode.Group.{Group}
use Rattle.octets.specs.declared.decode.Group.TheVariants as group
use Rattle.octets.specs.Decode.{Stored, Digit, NoDigit, Reads, followed, Grouped, First, Tail}

-- ---- no digit comes first

abbrev NoFirst : (ℕ → Option ℕ) → List ℕ → Type 0
NoFirst value cs = (c : ℕ) (l : List ℕ) → cs ≡ c ∷ l → value c ≡ None

pub record Without (value : ℕ → Option ℕ) (s : List ℕ) (i : ℕ) : Type 0 where
  pub first : NoFirst value (denoted s i)

-- the string's end or another character: what `let Next::Is(..) = .. else` has left
pub without : {value : ℕ → Option ℕ} {s : List ℕ} {i : ℕ} (r : Next) → ((x q : ℕ) → r ≡ Is x q → ⊥) → Reads value s i r → Without value s i
without End k h = record { first = λ c l e. absurd (let z : ◌≡◌ {A = ℕ} 0 1 = cc in omega arith) }
without (Is x q) k h = absurd (k x q refl)
without {value} Other k h = record { first = λ c l e. let w : h.char ≡ c = cc h.here in ap value (sym w) ∙ h.is }

-- ---- hexadecimal

pub hex-end : {cs : List ℕ} → cs ≡ [] → unhex cs ≡ Some []
unfolding unhex
hex-end e = rw e

pub hex-none : {s : List ℕ} {i : ℕ} → NoDigit hex_value s i → unhex (denoted s i) ≡ None
unfolding unhex also
hex-none d = ap unhex d.here ∙ go d.rest
  where
    go : (l : List ℕ) → unhex (d.char ∷ l) ≡ None
    go [] = refl
    go (b ∷ l) = rw d.is

module _ {s : List ℕ} {i x p : ℕ} (d : Digit hex_value s i x p) where
  pub hex_half : Without hex_value s p → unhex (denoted s i) ≡ None
  unfolding unhex also
  hex_half f = ap unhex d.here ∙ go (denoted s p) f.first
    where
      go : (l : List ℕ) → NoFirst hex_value l → unhex (d.char ∷ l) ≡ None
      go [] f = refl
      go (b ∷ l) f = rw (d.is, f b l refl)

  pub hex-octet : {y q : ℕ} → Digit hex_value s p y q → Grouped unhex s (unhex (denoted s i)) i (x * 16 + y) 0 0 1 q
  unfolding unhex also followed
  hex-octet e = record { here = ap unhex (d.here ∙ ap (λ (l : List ℕ). d.char ∷ l) e.here) ∙ rw (d.is, e.is); few = omega arith; inside = d.inside; ahead = let h = e.ahead in let k = d.ahead in omega arith }

-- ---- Base64

pub base64-end : {cs : List ℕ} → cs ≡ [] → unbase64 cs ≡ Some []
unfolding unbase64
base64-end e = rw e

base64-no : (a : ℕ) (l : List ℕ) → base64_value a ≡ None → unbase64 (a ∷ l) ≡ None
unfolding unbase64 last_group full_group also
base64-no a [] e = refl
base64-no a (b ∷ []) e = refl
base64-no a (b ∷ c ∷ []) e = refl
base64-no a (b ∷ c ∷ d ∷ []) e = rw e
base64-no a (b ∷ c ∷ d ∷ f ∷ l) e = rw e

pub base64-none : {s : List ℕ} {i : ℕ} → NoDigit base64_value s i → unbase64 (denoted s i) ≡ None
base64-none d = ap unbase64 d.here ∙ base64-no d.char d.rest d.is

-- the first digit is that of x
module _ (a x : ℕ) (ea : base64_value a ≡ Some x) where
  no_second : (l : List ℕ) → NoFirst base64_value l → unbase64 (a ∷ l) ≡ None
  unfolding unbase64 last_group full_group also
  no_second [] f = refl
  no_second (b ∷ []) f = refl
  no_second (b ∷ c ∷ []) f = refl
  no_second (b ∷ c ∷ d ∷ []) f = rw (ea, f b (c ∷ d ∷ []) refl)
  no_second (b ∷ c ∷ d ∷ e ∷ l) f = rw (ea, f b (c ∷ d ∷ e ∷ l) refl)

  module _ (b y : ℕ) (eb : base64_value b ≡ Some y) where
    -- neither a third digit nor two pads
    no_third : (l : List ℕ) → NoFirst base64_value l → (l ≡ 0x3D ∷ 0x3D ∷ [] → eqb (y % 16) 0 ≡ false) → unbase64 (a ∷ b ∷ l) ≡ None
    unfolding unbase64 last_group full_group also only_if
    no_third [] f h = refl
    no_third (c ∷ []) f h = refl
    no_third (c ∷ d ∷ []) f h = go (eqb d 0x3D) (eqb c 0x3D) refl refl
      where
        go : (t u : Bool) → eqb d 0x3D ≡ t → eqb c 0x3D ≡ u → unbase64 (a ∷ b ∷ c ∷ d ∷ []) ≡ None
        go true true e g = let w : (c ∷ d ∷ []) ≡ 0x3D ∷ 0x3D ∷ [] = cc (eqb-true d 0x3D e, eqb-true c 0x3D g) in rw (ea, eb, e) (rw (g, h w))
        go true false e g = rw (ea, eb, e) (rw (g, f c (d ∷ []) refl))
        go false u e g = rw (ea, eb, e) (rw (f c (d ∷ []) refl))
    no_third (c ∷ d ∷ e ∷ l) f h = rw (ea, eb, f c (d ∷ e ∷ l) refl)

    pads : (l : List ℕ) → l ≡ 0x3D ∷ 0x3D ∷ [] → eqb (y % 16) 0 ≡ true → unbase64 (a ∷ b ∷ l) ≡ Some ((x * 4 + y / 16) ∷ [])
    unfolding unbase64 last_group also only_if
    pads l e h = rw (e, ea, eb, h)

    module _ (c z : ℕ) (ec : base64_value c ≡ Some z) where
      -- a digit is no pad
      unpadded : eqb c 0x3D ≡ false
      unfolding base64_value pick
      unpadded = ne_eqb c 0x3D (λ e. let w : None ≡ Some z = (rw e at ec) in let n : ◌≡◌ {A = ℕ} 0 1 = cc in omega arith)

      no-fourth : (l : List ℕ) → NoFirst base64_value l → (l ≡ 0x3D ∷ [] → eqb (z % 4) 0 ≡ false) → unbase64 (a ∷ b ∷ c ∷ l) ≡ None
      unfolding unbase64 last_group full_group also only_if
      no-fourth [] f h = refl
      no-fourth (d ∷ []) f h = go (eqb d 0x3D) refl
        where
          go : (t : Bool) → eqb d 0x3D ≡ t → unbase64 (a ∷ b ∷ c ∷ d ∷ []) ≡ None
          go true e = let w : (d ∷ []) ≡ 0x3D ∷ [] = cc (eqb-true d 0x3D e) in rw (ea, eb, e) (rw unpadded (rw (ec, h w)))
          go false e = rw (ea, eb, e) (rw (ec, f d [] refl))
      no-fourth (d ∷ e ∷ l) f h = rw (ea, eb, ec, f d (e ∷ l) refl)

      pad : (l : List ℕ) → l ≡ 0x3D ∷ [] → eqb (z % 4) 0 ≡ true → unbase64 (a ∷ b ∷ c ∷ l) ≡ Some ((x * 4 + y / 16) ∷ (y % 16 * 16 + z / 4) ∷ [])
      unfolding unbase64 last_group also only_if
      pad l e h = rw (e, ea, eb) (rw unpadded (rw (ec, h)))

      full : (d w : ℕ) → base64_value d ≡ Some w → (l : List ℕ)
          → unbase64 (a ∷ b ∷ c ∷ d ∷ l) ≡ followed ((x * 4 + y / 16) ∷ (y % 16 * 16 + z / 4) ∷ (z % 4 * 64 + w) ∷ []) (unbase64 l)
      unfolding unbase64 last_group full_group also followed base64_value pick
      full d w ed [] = rw (ea, eb) (rw (ne_eqb d 0x3D (λ e. let v : None ≡ Some w = (rw e at ed) in let n : ◌≡◌ {A = ℕ} 0 1 = cc in omega arith)) (rw (ec, ed)))
      full d w ed (e ∷ l) = rw (ea, eb, ec, ed)

-- ---- the second half of a group of four

denoted-past : (s : List ℕ) → denoted s (length s) ≡ []
denoted-past s = denoted-close s (length s) (piece_past s (length s) (omega arith))

denoted-inside : (s : List ℕ) (i c : ℕ) (l : List ℕ) → denoted s i ≡ c ∷ l → i < length s
denoted-inside s i c l e = go (ltb i (length s)) refl
  where
    go : (t : Bool) → ltb i (length s) ≡ t → i < length s
    go true h = ltb-true i (length s) h
    go false h = let w = denoted-close s i (piece_past s i (ltb-false i (length s) h)) in absurd (let z : ◌≡◌ {A = ℕ} 0 1 = cc in omega arith)

unlike : (x l : List ℕ) → same_bytes x x ≡ true → same_bytes x l ≡ false → l ≡ x → ⊥
unlike x l r h e = let w : same_bytes x x ≡ false = (rw e at h) in let z : ◌≡◌ {A = ℕ} 0 1 = cc in omega arith

-- no digit follows
module _ {s : List ℕ} {i x y : ℕ} (f : Without base64_value s i) where
  pub tail-bits : (y % 16 ≡ 0 → ⊥) → Tail s i x y group.Other
  tail-bits h a b ea eb = no_third a x ea b y eb (denoted s i) f.first (λ e. ne_eqb (y % 16) 0 h)

  pub tail-other : same_bytes (0x3D ∷ 0x3D ∷ []) (denoted s i) ≡ false → Tail s i x y group.Other
  unfolding same_bytes
  tail-other h a b ea eb = no_third a x ea b y eb (denoted s i) f.first (λ e. absurd (unlike (0x3D ∷ 0x3D ∷ []) (denoted s i) refl h e))

pub tail-one : (s : List ℕ) (i : ℕ) {x y : ℕ} → y % 16 ≡ 0 → same_bytes (0x3D ∷ 0x3D ∷ []) (denoted s i) ≡ true → Tail s i x y (group.Octets (x * 4 + y / 16) 0 0 1 (length s))
unfolding followed also
tail-one s i {x} {y} h e a b ea eb =
    let w = sym (same_bytes-eq (0x3D ∷ 0x3D ∷ []) (denoted s i) e) in
    let n = denoted-inside s i 0x3D (0x3D ∷ []) w in
    record { here = pads a x ea b y eb (denoted s i) w (eq-eqb (y % 16) 0 h) ∙ rw (denoted-past s, base64-end {cs = []} refl); few = omega arith; inside = n; ahead = n }

-- the digit of z follows
module _ {s : List ℕ} {i z p : ℕ} (d : Digit base64_value s i z p) where
  third : (a b : ℕ) → unbase64 (a ∷ b ∷ denoted s i) ≡ unbase64 (a ∷ b ∷ d.char ∷ denoted s p)
  third a b = ap (λ (l : List ℕ). unbase64 (a ∷ b ∷ l)) d.here

  module _ {x y : ℕ} where
    module _ (f : Without base64_value s p) where
      pub tail-bits_2 : (z % 4 ≡ 0 → ⊥) → Tail s i x y group.Other
      tail-bits_2 h a b ea eb = third a b ∙ no-fourth a x ea b y eb d.char z d.is (denoted s p) f.first (λ e. ne_eqb (z % 4) 0 h)

      pub tail-other_2 : same_bytes (0x3D ∷ []) (denoted s p) ≡ false → Tail s i x y group.Other
      unfolding same_bytes
      tail-other_2 h a b ea eb = third a b ∙ no-fourth a x ea b y eb d.char z d.is (denoted s p) f.first (λ e. absurd (unlike (0x3D ∷ []) (denoted s p) refl h e))

    pub tail-two : z % 4 ≡ 0 → same_bytes (0x3D ∷ []) (denoted s p) ≡ true → Tail s i x y (group.Octets (x * 4 + y / 16) (y % 16 * 16 + z / 4) 0 2 (length s))
    unfolding followed also
    tail-two h e a b ea eb =
        record {
          here = third a b ∙ pad a x ea b y eb d.char z d.is (denoted s p) (sym (same_bytes-eq (0x3D ∷ []) (denoted s p) e)) (eq-eqb (z % 4) 0 h)
              ∙ rw (denoted-past s, base64-end {cs = []} refl);
          few = omega arith;
          inside = d.inside;
          ahead = d.inside;
        }

    pub tail-three : {w q : ℕ} → Digit base64_value s p w q → Tail s i x y (group.Octets (x * 4 + y / 16) (y % 16 * 16 + z / 4) (z % 4 * 64 + w) 3 q)
    tail-three {w} {q} e a b ea eb =
        record {
          here = third a b ∙ ap (λ (l : List ℕ). unbase64 (a ∷ b ∷ d.char ∷ l)) e.here ∙ full a x ea b y eb d.char z d.is e.char w e.is (denoted s q);
          few = omega arith;
          inside = d.inside;
          ahead = let h = e.ahead in let k = d.ahead in omega arith;
        }

-- ---- a group of four

module _ {s : List ℕ} {i x p : ℕ} (d : Digit base64_value s i x p) where
  pub base64_half : Without base64_value s p → unbase64 (denoted s i) ≡ None
  base64_half f = ap unbase64 d.here ∙ no_second d.char x d.is (denoted s p) f.first

  pub base64-first : {y q : ℕ} → Digit base64_value s p y q → (r : Group) → Tail s q x y r → First unbase64 s (unbase64 (denoted s i)) i r
  base64-first {y} {q} e r t = go r (t d.char e.char d.is e.is)
    where
      two : unbase64 (denoted s i) ≡ unbase64 (d.char ∷ e.char ∷ denoted s q)
      two = ap unbase64 (d.here ∙ ap (λ (l : List ℕ). d.char ∷ l) e.here)

      go : (r : Group) → First unbase64 s (unbase64 (d.char ∷ e.char ∷ denoted s q)) q r → First unbase64 s (unbase64 (denoted s i)) i r
      go group.End h = two ∙ h
      go group.Other h = two ∙ h
      go (group.Octets a b c n m) h =
          record { here = two ∙ h.here; few = h.few; inside = d.inside; ahead = let v = d.ahead in let w = e.ahead in let z = h.ahead in omega arith }

-- ---- group by group

followed-nil : (o : Option (List ℕ)) → o ≡ followed [] o
unfolding followed also
followed-nil None = refl
followed-nil (Some os) = refl

followed-again : (xs ys : List ℕ) (o : Option (List ℕ)) → followed xs (followed ys o) ≡ followed (xs ++ ys) o
unfolding followed also
followed-again xs ys None = refl
followed-again xs ys (Some os) = rw append_assoc

-- up to i the string at p has n octets, which are stored from j on
pub record Decoding (octets : List ℕ → Option (List ℕ)) (s : List ℕ) (p : ℕ) (before : List ℕ) (j : ℕ) (now : List ℕ) (i n : ℕ) : Type 0 where
  pub xs : List ℕ
  pub inv : octets (denoted s p) ≡ followed xs (octets (denoted s i))
  pub count : length xs ≡ n
  pub stored : now ≡ sets before j xs
  pub few : n ≤ 3 * i
  pub kept : length now ≡ length before

pub decoding-start : (octets : List ℕ → Option (List ℕ)) (s : List ℕ) (p : ℕ) (before : List ℕ) (j : ℕ) → Decoding octets s p before j before p 0
decoding-start octets s p before j = record { xs = []; inv = followed-nil (octets (denoted s p)); count = refl; stored = refl; few = omega arith; kept = refl }

module _ {octets : List ℕ → Option (List ℕ)} {s : List ℕ} {p : ℕ} {before : List ℕ} {j : ℕ} {now : List ℕ} {i n : ℕ} (d : Decoding octets s p before j now i n) where
  pub decoding-end : octets (denoted s i) ≡ Some [] → (Some n ≡ option_map length (octets (denoted s p))) × Stored now before j (octets (denoted s p))
  unfolding followed also
  decoding-end e =
      let w : octets (denoted s p) ≡ Some d.xs = d.inv ∙ ap (followed d.xs) e ∙ ap (λ (l : List ℕ). Some l) (append-nil d.xs) in
      rw w (ap (λ (k : ℕ). Some k) (sym d.count), d.stored)

  pub decoding-bad : octets (denoted s i) ≡ None → (None ≡ option_map length (octets (denoted s p))) × Stored now before j (octets (denoted s p))
  unfolding followed also
  decoding-bad e = let w : octets (denoted s p) ≡ None = d.inv ∙ ap (followed d.xs) e in rw w (refl, tt)

  module _ {x y z k q : ℕ} (g : Grouped octets s (octets (denoted s i)) i x y z k q) where
    pub group_length : k ≡ length (take k (x ∷ y ∷ z ∷ []))
    group_length = sym (length-take-le k (x ∷ y ∷ z ∷ []) g.few)

    pub decoding-more : {after : List ℕ} → after ≡ sets now (j + n) (take k (x ∷ y ∷ z ∷ [])) → length after ≡ length now → Decoding octets s p before j after q (n + k)
    decoding-more e l =
        let ys = take k (x ∷ y ∷ z ∷ []) in
        record {
          xs = d.xs ++ ys;
          inv = d.inv ∙ ap (followed d.xs) g.here ∙ followed-again d.xs ys (octets (denoted s q));
          count = omega (arith, length-append d.xs ys, d.count, group_length);
          stored = e ∙ rw (d.stored, ← d.count) (sym (sets_append before j d.xs ys));
          few = let a = g.ahead in let b = g.few in let f = d.few in omega arith;
          kept = l ∙ d.kept;
        }
