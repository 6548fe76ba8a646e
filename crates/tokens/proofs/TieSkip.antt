-- Past a value by places is past the bytes that the grammar gives it.
use Prim.Native.Nat.{ℕ, zero, suc, ◌+◌, ◌≤◌, ◌<◌}
use mathlib.Core.Path.{◌≡◌, refl, sym, ap, ◌∙◌}
use mathlib.Core.List.{List, [], ◌∷◌, ◌++◌, append_assoc}
use mathlib.Core.Bool.{Bool, true, false, not}
use native.Mathlib.Numerals.{add-one}
use native.Mathlib.Omega.{arith}
use lib.Dec.{eqb}
use lib.ListN.{length, drop, length-append}
use Rattle.json_text.specs.Bytes.{past}
use Rattle.json_text.specs.Tree.{Json, Items, Members}
use Rattle.json_text.specs.Grammar.{Space, Quoted, Digits, last_digit, more_digits, Whole, Signed, bare, minus, Power, small, small_plus, small_minus, large, large_plus, large_minus, Broken, fraction, power, both, Value, literal_null, literal_true, literal_false, whole, real, string, no_elements, elements, no_members, members, Padded, padded, Elements, last_element, more_elements, Named, last_member, more_members, Name, name}
use Rattle.json_text.proofs.Feed.{in-true}
use Rattle.tokens.specs.Places.{byte_at}
use Rattle.tokens.specs.Numbers.{is_digit}
use Rattle.tokens.specs.Skip.{is_end, is_between, is_opening, is_closing, past_word, past_between, parts_past, past_with, past_value}
use Rattle.tokens.proofs.TiePlace.{byte_here, drop-next, drop_past, past_append, length-left}
use Rattle.tokens.proofs.TieSpace.{All, before, all_append, all_weaker, run_on, run-stop, run_past, space-all, EndsHere, space-ends}
use Rattle.tokens.proofs.TieString.{quoted-read}
use Rattle.tokens.proofs.TieNumber.{whole-first, whole-digits}
use Rattle.tokens.proofs.TieFirst.{value-first, Opener, first-opens, differs}

-- ---- the bytes of numbers

-- inside a number or a literal
abbrev within : ℕ → Bool
within b = not (is_end b)

digit-within : (b : ℕ) → is_digit b ≡ true → within b ≡ true
digit-within b h = rw (other 0x20 refl, other 0x09 refl, other 0x0A refl, other 0x0D refl, other 0x2C refl, other 0x5D refl, other 0x7D refl)
  where
    other : (c : ℕ) → is_digit c ≡ false → eqb b c ≡ false
    other c g = differs is_digit b c h g

digits-within : {bs : List ℕ} → Digits bs → All within bs
digits-within (last_digit {b = b} h) = (digit-within b (in-true 0x30 0x39 b h), tt)
digits-within (more_digits {b = b} h d) = (digit-within b (in-true 0x30 0x39 b h), digits-within d)

whole-within : {n : ℕ} {bs : List ℕ} → Whole n bs → All within bs
whole-within {bs = bs} w = all_weaker is_digit within bs digit-within (whole-digits w)

signed-within : {m : Bool} {n : ℕ} {bs : List ℕ} → Signed m n bs → All within bs
signed-within (bare w) = whole-within w
signed-within (minus w) = (refl, whole-within w)

power-within : {bs : List ℕ} → Power bs → All within bs
power-within (small d) = (refl, digits-within d)
power-within (small_plus d) = (refl, (refl, digits-within d))
power-within (small_minus d) = (refl, (refl, digits-within d))
power-within (large d) = (refl, digits-within d)
power-within (large_plus d) = (refl, (refl, digits-within d))
power-within (large_minus d) = (refl, (refl, digits-within d))

broken-within : {bs : List ℕ} → Broken bs → All within bs
broken-within (fraction d) = (refl, digits-within d)
broken-within (power e) = power-within e
broken-within (both {bs = bs} {cs = cs} d e q) = (refl, rw q (all_append within bs cs (digits-within d) (power-within e)))

-- ---- values without parts

-- neither a quotation mark nor an opening bracket
abbrev Word : ℕ → Type 0
Word b = (eqb b 0x22 ≡ false) × (is_opening b ≡ false)

-- a law for any bracket is one for the value
passed-alike : (d : ℕ) (s : List ℕ) (p q : ℕ) → ((bracket : ℕ → ℕ) → past_with bracket s p ≡ q) → past_value d s p ≡ q
unfolding past_value
passed-alike zero s p q f = f _
passed-alike (suc d) s p q f = f _

with_word : (bracket : ℕ → ℕ) (s : List ℕ) (p : ℕ) → Word (byte_at s p) → past_with bracket s p ≡ past_word s p
unfolding past_with
with_word bracket s p h = rw (h.0, past_with, h.1)

word-passed : (d : ℕ) (s : List ℕ) (p : ℕ) (bs ys : List ℕ) → All within bs → Word (byte_at s p) → drop p s ≡ bs ++ ys → EndsHere ys → past_value d s p ≡ past p bs
unfolding past_word
word-passed d s p bs ys a w h g = passed-alike d s p (past p bs) (λ bracket. with_word bracket s p w ∙ run_past within s p bs ys a g h)

-- a word whose first byte is known
literal-passed : (d : ℕ) (s : List ℕ) (p b : ℕ) (bs ys : List ℕ) → All within (b ∷ bs) → Word b → drop p s ≡ b ∷ bs ++ ys → EndsHere ys → past_value d s p ≡ past p (b ∷ bs)
literal-passed d s p b bs ys a w h g = word-passed d s p (b ∷ bs) ys a (rw (byte_here s p b _ h) w) h g

digit-word : (b : ℕ) → is_digit b ≡ true → Word b
digit-word b h = (differs is_digit b 0x22 h refl, rw (differs is_digit b 0x5B h refl, differs is_digit b 0x7B h refl))

signed_word : {m : Bool} {n : ℕ} {bs : List ℕ} (s : List ℕ) (p : ℕ) (ys : List ℕ) → Signed m n bs → drop p s ≡ bs ++ ys → Word (byte_at s p)
signed_word s p ys (bare w) h = whole-first (λ bs. drop p s ≡ bs ++ ys → Word (byte_at s p)) (λ b cs g e. rw (byte_here s p b _ e) (digit-word b (in-true 0x30 0x39 b g))) w h
signed_word s p ys (minus w) h = rw (byte_here s p 0x2D _ h) (refl, refl)

whole-passed : {m : Bool} {n : ℕ} {bs : List ℕ} (d : ℕ) (s : List ℕ) (p : ℕ) (ys : List ℕ) → Signed m n bs → drop p s ≡ bs ++ ys → EndsHere ys → past_value d s p ≡ past p bs
whole-passed {bs = bs} d s p ys w h g = word-passed d s p bs ys (signed-within w) (signed_word s p ys w h) h g

real-passed : {m : Bool} {n : ℕ} {bs cs : List ℕ} (d : ℕ) (s : List ℕ) (p : ℕ) (ys : List ℕ) → Signed m n bs → Broken cs → drop p s ≡ (bs ++ cs) ++ ys → EndsHere ys → past_value d s p ≡ past p (bs ++ cs)
real-passed {bs = bs} {cs = cs} d s p ys w k h g =
    word-passed d s p (bs ++ cs) ys (all_append within bs cs (signed-within w) (broken-within k)) (signed_word s p (cs ++ ys) w (rw append_assoc at h)) h g

string-passed : {t bs : List ℕ} (d : ℕ) (s : List ℕ) (p : ℕ) (ys : List ℕ) → Quoted t bs → drop p s ≡ bs ++ ys → past_value d s p ≡ past p bs
unfolding past_with
string-passed {bs = bs} d s p ys q h =
    let t = quoted-read s p ys q h in
    passed-alike d s p (past p bs) (λ bracket. rw (t.2, past_with, add-one p) t.1)

-- ---- the parts of a bracket

-- From p on the parts of a bracket and its closing one, zs, are passed with any fuel that is at least their length.
pub record Parts (d : ℕ) (s : List ℕ) (p : ℕ) (zs : List ℕ) : Type 0 where
  pub some : 0 < length zs
  pub passed : (n : ℕ) → length zs ≤ n → parts_past (λ r. past_value d s r) s n p ≡ past p zs

-- past the parts from a place where one of them or the closing bracket stands
abbrev parts_from : (ℕ → ℕ) → List ℕ → ℕ → ℕ → ℕ
parts_from value s n p = elim (eqb (byte_at s p) 256) [ true ↦ p | false ↦ elim (is_closing (byte_at s p)) [ true ↦ p + 1 | false ↦ parts_past value s n (value p) ] ]

parts_from_lem : (value : ℕ → ℕ) (s : List ℕ) (n p q : ℕ) → past_between s p ≡ q → parts_past value s (suc n) p ≡ parts_from value s n q
unfolding parts_past
parts_from_lem value s n p q e = ap (λ (r : ℕ). parts_from value s n r) e

from-closing : (value : ℕ → ℕ) (s : List ℕ) (n p : ℕ) → eqb (byte_at s p) 256 ≡ false → is_closing (byte_at s p) ≡ true → parts_from value s n p ≡ suc p
from-closing value s n p e f = rw (e, parts_from, f, add-one p)

from-value : (value : ℕ → ℕ) (s : List ℕ) (n p : ℕ) → Opener (byte_at s p) → parts_from value s n p ≡ parts_past value s n (value p)
from-value value s n p o = rw (o.inside, parts_from, o.closing)

-- a closing bracket
abbrev Closer : ℕ → Type 0
Closer b = (is_between b ≡ false) × (eqb b 256 ≡ false) × (is_closing b ≡ true)

closing-parts : {d : ℕ} {s : List ℕ} {p b : ℕ} (ys : List ℕ) → Closer b → drop p s ≡ b ∷ ys → Parts d s p (b ∷ [])
unfolding past_between past
closing-parts {d} {s} {p} {b} ys c h = record { some = omega arith; passed = go' }
  where
    e : byte_at s p ≡ b
    e = byte_here s p b ys h

    go' : (n : ℕ) → 1 ≤ n → parts_past (λ r. past_value d s r) s n p ≡ suc p
    go' zero l = absurd (omega arith)
    go' (suc n) l = parts_from_lem _ s n p p (run-stop s p (before c.0) h) ∙ from-closing _ s n p (rw e c.1) (rw e c.2)

-- what stands between the parts
between-parts : {d : ℕ} {s : List ℕ} {p : ℕ} {zs : List ℕ} (xs ys : List ℕ) → All is_between xs → drop p s ≡ xs ++ ys → Parts d s (past p xs) zs → Parts d s p (xs ++ zs)
unfolding past_between
between-parts {d} {s} {p} {zs} xs ys a h k = record { some = omega (arith, length-append xs zs, k.some); passed = go' }
  where
    go' : (n : ℕ) → length (xs ++ zs) ≤ n → parts_past (λ r. past_value d s r) s n p ≡ past p (xs ++ zs)
    go' zero l = absurd (omega (arith, length-append xs zs, k.some))
    go' (suc n) l =
        parts_from_lem _ s n p _ (run_on is_between s p xs ys a h) ∙ sym (parts_from_lem _ s n (past p xs) _ refl) ∙ k.passed (suc n) (omega (arith, length-append xs zs)) ∙ sym (past_append p xs zs)

-- a part that begins with b
part_parts : {d : ℕ} {s : List ℕ} {p b : ℕ} {zs : List ℕ} (bs ys : List ℕ) → Opener b → drop p s ≡ b ∷ ys → past_value d s p ≡ past p (b ∷ bs) → Parts d s (past p (b ∷ bs)) zs → Parts d s p (b ∷ bs ++ zs)
unfolding past_between
part_parts {d} {s} {p} {b} {zs} bs ys o h v k = record { some = omega arith; passed = go' }
  where
    e : byte_at s p ≡ b
    e = byte_here s p b ys h

    go' : (n : ℕ) → length (b ∷ bs ++ zs) ≤ n → parts_past (λ r. past_value d s r) s n p ≡ past p (b ∷ bs ++ zs)
    go' zero l = absurd (omega arith)
    go' (suc n) l =
        parts_from_lem _ s n p p (run-stop s p (before o.between) h) ∙ from-value _ s n p (rw e o) ∙ ap (λ (q : ℕ). parts_past (λ r. past_value d s r) s n q) v
        ∙ k.passed n (omega (arith, length-append bs zs)) ∙ sym (past_append p (b ∷ bs) zs)

-- a value
value-parts : {d p : ℕ} {j : Json} {s bs zs : List ℕ} (ys : List ℕ) → Value d p j bs → drop p s ≡ bs ++ ys → past_value d s p ≡ past p bs → Parts d s (past p bs) zs → Parts d s p (bs ++ zs)
value-parts {d} {p} {s = s} {zs = zs} ys v =
    value-first (λ bs. drop p s ≡ bs ++ ys → past_value d s p ≡ past p bs → Parts d s (past p bs) zs → Parts d s p (bs ++ zs)) (λ b cs f. part_parts cs (cs ++ ys) (first-opens f)) v

space-parts : {d p : ℕ} {s xs zs : List ℕ} (ys : List ℕ) → Space xs → drop p s ≡ xs ++ ys → Parts d s (past p xs) zs → Parts d s p (xs ++ zs)
space-parts {xs = xs} ys z h k = between-parts xs ys (space-all is_between (refl, refl, refl, refl) z) h k

-- a comma or a colon
mark-parts : {d p b : ℕ} {s zs : List ℕ} (ys : List ℕ) → is_between b ≡ true → drop p s ≡ b ∷ ys → Parts d s (suc p) zs → Parts d s p (b ∷ zs)
unfolding past
mark-parts {b = b} ys e h k = between-parts (b ∷ []) ys (e, tt) h k

-- a value with white space around it, given that the value is passed
padded-parts : {d p q : ℕ} {j : Json} {s xs bs ws zs : List ℕ} (ys : List ℕ) → Space xs → q ≡ past p xs → Value d q j bs → Space ws → drop p s ≡ (xs ++ (bs ++ ws)) ++ ys → EndsHere ys
    → (drop q s ≡ bs ++ (ws ++ ys) → EndsHere (ws ++ ys) → past_value d s q ≡ past q bs) → Parts d s (past p (xs ++ (bs ++ ws))) zs → Parts d s p ((xs ++ (bs ++ ws)) ++ zs)
padded-parts {p = p} {s = s} {xs = xs} {bs = bs} {ws = ws} ys x e v w h g f k =
    let h₁ : drop p s ≡ xs ++ (bs ++ (ws ++ ys)) = simp append_assoc at h in
    let h₂ = rw (← e) at (drop_past s p xs _ h₁) in
    let k₁ = rw (past_append p xs (bs ++ ws), ← e, past_append _ bs ws) at k in
    let k₂ = value-parts (ws ++ ys) v h₂ (f h₂ (space-ends ys w g)) (space-parts ys w (drop_past s _ bs _ h₂) k₁) in
    simp append_assoc (space-parts _ x h₁ (rw e at k₂))

-- a name with its colon
name-parts : {d p q r : ℕ} {t s bs zs : List ℕ} (ys : List ℕ) → Name p q r t bs → drop p s ≡ bs ++ ys → Parts d s r zs → Parts d s p (bs ++ zs)
name-parts {d} {s = s} {zs = zs} ys (name {p = p} {xs = xs} {ys = us} {zs = ws} x e u w c o) h k =
    let h₁ : drop p s ≡ xs ++ (us ++ (ws ++ (0x3A ∷ ys))) = simp append_assoc at (rw c at h) in
    let h₂ = drop_past s p xs _ h₁ in
    let h₃ = drop_past s _ us _ h₂ in
    let h₄ = drop_past s _ ws _ h₃ in
    let k₁ = rw (o, c, past_append p xs (us ++ (ws ++ (0x3A ∷ []))), past_append _ us (ws ++ (0x3A ∷ [])), past_append _ ws (0x3A ∷ [])) at k in
    let k₂ = value-parts _ (string {d = d} {p = past p xs} u) h₂ (string-passed d s _ _ u h₂) (space-parts _ w h₃ (between-parts (0x3A ∷ []) ys (refl, tt) h₄ k₁)) in
    rw c (simp append_assoc (space-parts _ x h₁ k₂))

-- where a name ends, its value begins
name-drop : {p q r : ℕ} {t bs : List ℕ} (s ys : List ℕ) → Name p q r t bs → drop p s ≡ bs ++ ys → drop r s ≡ ys
name-drop {p} {bs = bs} s ys (name x e u w c o) h = rw o (drop_past s p bs ys h)

-- ---- brackets

empty-parts : {d p : ℕ} {s xs bs : List ℕ} (b : ℕ) (ys : List ℕ) → Closer b → Space xs → bs ≡ xs ++ (b ∷ []) → drop p s ≡ bs ++ ys → Parts d s p bs
empty-parts {p = p} {s = s} {xs = xs} b ys c z e h =
    let h₁ : drop p s ≡ xs ++ (b ∷ ys) = rw (e, append_assoc) at h in
    rw e (space-parts _ z h₁ (closing-parts ys c (drop_past s p xs _ h₁)))

-- an opening bracket, and its parts
bracket-passed : {d p b : ℕ} {s bs : List ℕ} (ys : List ℕ) → (eqb b 0x22 ≡ false) × (is_opening b ≡ true) → drop p s ≡ b ∷ bs ++ ys → Parts d s (suc p) bs → past_value (suc d) s p ≡ past p (b ∷ bs)
unfolding past_value past_with past
bracket-passed {d} {p} {b} {s} {bs} ys o h k =
    let e = byte_here s p b _ h in
    let f : eqb (byte_at s p) 0x22 ≡ false = rw e o.0 in
    let g : is_opening (byte_at s p) ≡ true = rw e o.1 in
    let l : length bs ≤ length s = omega (arith, length-left s p _ h, length-append bs ys) in
    rw (f, past_with, g, add-one p) (k.passed (length s) l)

mutual
  pub value-passed : {d p : ℕ} {j : Json} {bs : List ℕ} (s ys : List ℕ) → Value d p j bs → drop p s ≡ bs ++ ys → EndsHere ys → past_value d s p ≡ past p bs
  value-passed s ys (literal_null {d = d} {p = p}) h g = literal-passed d s p 0x6E (0x75 ∷ 0x6C ∷ 0x6C ∷ []) ys (refl, (refl, (refl, (refl, tt)))) (refl, refl) h g
  value-passed s ys (literal_true {d = d} {p = p}) h g = literal-passed d s p 0x74 (0x72 ∷ 0x75 ∷ 0x65 ∷ []) ys (refl, (refl, (refl, (refl, tt)))) (refl, refl) h g
  value-passed s ys (literal_false {d = d} {p = p}) h g = literal-passed d s p 0x66 (0x61 ∷ 0x6C ∷ 0x73 ∷ 0x65 ∷ []) ys (refl, (refl, (refl, (refl, (refl, tt))))) (refl, refl) h g
  value-passed s ys (whole {d = d} {p = p} w) h g = whole-passed d s p ys w h g
  value-passed s ys (real {d = d} {p = p} w k e) h g = rw e (real-passed d s p ys w k (rw e at h) g)
  value-passed s ys (string {d = d} {p = p} q) h g = string-passed d s p ys q h
  value-passed s ys (no_elements {p = p} z e) h g = bracket-passed ys (refl, refl) h (empty-parts 0x5D ys (refl, refl, refl) z e (drop-next s p 0x5B _ h))
  value-passed s ys (elements {p = p} f) h g = bracket-passed ys (refl, refl) h (elements-passed s ys f (drop-next s p 0x5B _ h))
  value-passed s ys (no_members {p = p} z e) h g = bracket-passed ys (refl, refl) h (empty-parts 0x7D ys (refl, refl, refl) z e (drop-next s p 0x7B _ h))
  value-passed s ys (members {p = p} f) h g = bracket-passed ys (refl, refl) h (members-passed s ys f (drop-next s p 0x7B _ h))

  padded-passed : {d p : ℕ} {j : Json} {bs : List ℕ} (s zs ys : List ℕ) → Padded d p j bs → drop p s ≡ bs ++ ys → EndsHere ys → Parts d s (past p bs) zs → Parts d s p (bs ++ zs)
  padded-passed s zs ys (padded {zs = ws} x q v w e) h g k = rw e (padded-parts ys x q v w (rw e at h) g (λ i l. value-passed s (ws ++ ys) v i l) (rw e at k))

  pub elements-passed : {d p : ℕ} {is : Items} {bs : List ℕ} (s ys : List ℕ) → Elements d p is bs → drop p s ≡ bs ++ ys → Parts d s p bs
  elements-passed s ys (last_element {p = p} {xs = xs} v e) h =
      let h₁ : drop p s ≡ xs ++ (0x5D ∷ ys) = rw (e, append_assoc) at h in
      rw e (padded-passed s (0x5D ∷ []) (0x5D ∷ ys) v h₁ (before refl) (closing-parts ys (refl, refl, refl) (drop_past s p xs _ h₁)))
  elements-passed s ys (more_elements {p = p} {xs = xs} {ys = us} v q t e) h =
      let h₁ : drop p s ≡ xs ++ (0x2C ∷ us ++ ys) = rw (e, append_assoc) at h in
      let h₂ = drop_past s p xs _ h₁ in
      let k = elements-passed s ys t (rw (← q) at (drop-next s (past p xs) 0x2C (us ++ ys) h₂)) in
      rw e (padded-passed s (0x2C ∷ us) (0x2C ∷ us ++ ys) v h₁ (before refl) (mark-parts (us ++ ys) refl h₂ (rw q at k)))

  members-passed : {d p : ℕ} {ms : Members} {bs : List ℕ} (s ys : List ℕ) → Named d p ms bs → drop p s ≡ bs ++ ys → Parts d s p bs
  members-passed s ys (last_member {p = p} {r = r} {xs = xs} {ys = us} m v e) h =
      let h₁ : drop p s ≡ xs ++ (us ++ (0x7D ∷ ys)) = simp append_assoc at (rw e at h) in
      let h₂ = name-drop s _ m h₁ in
      rw e (name-parts _ m h₁ (padded-passed s (0x7D ∷ []) (0x7D ∷ ys) v h₂ (before refl) (closing-parts ys (refl, refl, refl) (drop_past s r us _ h₂))))
  members-passed s ys (more_members {p = p} {r = r} {xs = xs} {ys = us} {zs = ws} m v o t e) h =
      let h₁ : drop p s ≡ xs ++ (us ++ (0x2C ∷ ws ++ ys)) = simp append_assoc at (rw e at h) in
      let h₂ = name-drop s _ m h₁ in
      let h₃ = drop_past s r us _ h₂ in
      let k = members-passed s ys t (rw (← o) at (drop-next s (past r us) 0x2C (ws ++ ys) h₃)) in
      rw e (name-parts _ m h₁ (padded-passed s (0x2C ∷ ws) (0x2C ∷ ws ++ ys) v h₂ (before refl) (mark-parts (ws ++ ys) refl h₃ (rw o at k))))
