-- Any number of the grammar: digits, fraction and exponent one after another.
use Prim.Native.Nat.{ℕ, ◌+◌, ◌-◌, ◌*◌, ◌<◌, ◌≤◌}
use mathlib.Core.Path.{◌≡◌, refl, sym, ◌∙◌}
use mathlib.Core.List.{List, [], ◌∷◌, ◌++◌, append-nil, append_assoc}
use mathlib.Core.Logic.{◌⊎◌, inl, inr}
use mathlib.Core.Bool.{Bool, true, false, not, ◌&&◌}
use native.Mathlib.Omega.{arith}
use borrow.Author.Tests.{leb-true}
use lib.Dec.{leb}
use lib.ListN.{length, get_or}
use Rattle.json_text.specs.Tree.{Json, jint, jreal}
use Rattle.json_text.specs.Bytes.{In}
use Rattle.json_text.specs.Grammar as grammar
use Rattle.json_text.specs.Grammar.{Digits, last_digit, more_digits, Onward, stop, onward, nought, from, Power, Value}
use Rattle.tokens.specs.Places.{byte_at}
use Rattle.tokens.proofs.PlaceLaws.{byte_inside}
use Rattle.tokens.proofs.TiePlace.{past-length}
use Rattle.spelled.specs.Stretch.{Stretch, Passed, ValueAt}
use Rattle.spelled.specs.Number.{SomeOnward, SomeWhole, SomeSigned, Dotted, no_dot, dot, Raised, bare, plus, minus, Powered, no_power, some_power}
use Rattle.spelled.proofs.StretchLaws.{Exactly, stretch-none, stretch_as, stretch_join, stretch-more, byte_here, passed}
use Rattle.spelled.proofs.NumberLaws.{onward_snoc}

-- ---- digits

pub digits-none : (s : List ℕ) (p m : ℕ) → Stretch (SomeOnward m) s p p
digits-none s p m = stretch-none (SomeOnward m) s p (record { number = m; onward = stop })

pub digits_more : (s : List ℕ) (p q m : ℕ) → Stretch (SomeOnward m) s p q → q < length s → 0x30 ≤ get_or s q 0 → get_or s q 0 ≤ 0x39 → Stretch (SomeOnward m) s p (q + 1)
digits_more s p q m k l g h =
    stretch-more (SomeOnward m) (SomeOnward m) s p q (get_or s q 0) (λ xs o. record { number = o.number * 10 + (get_or s q 0 - 0x30); onward = onward_snoc o.onward (g, h) }) k l refl (omega arith)

pub digit-tells : (b : ℕ) → not (leb 0x30 b && leb b 0x39) ≡ false → (0x30 ≤ b) × (b ≤ 0x39)
digit-tells b e = go (leb 0x30 b) (leb b 0x39) refl refl e
  where
    go : (t u : Bool) → leb 0x30 b ≡ t → leb b 0x39 ≡ u → not (t && u) ≡ false → (0x30 ≤ b) × (b ≤ 0x39)
    go true true f g e = (leb-true 0x30 b f, leb-true b 0x39 g)
    go true false f g e = absurd (let z : ◌≡◌ {A = ℕ} 0 1 = cc in omega arith)
    go false u f g e = absurd (let z : ◌≡◌ {A = ℕ} 0 1 = cc in omega arith)

first_digit : {b : ℕ} (bs : List ℕ) → In 0x30 0x39 b → (0 < length bs → Digits bs) → Digits (b ∷ bs)
first_digit [] h f = last_digit h
first_digit (c ∷ cs) h f = more_digits h (f (omega arith))

onward-digits : {m n : ℕ} {bs : List ℕ} → Onward m n bs → 0 < length bs → Digits bs
onward-digits stop l = absurd (omega arith)
onward-digits (onward {bs = bs} h o) l = first_digit bs h (onward-digits o)

pub digits-some : (s : List ℕ) (p q : ℕ) → Stretch (SomeOnward 0) s p q → p ≤ q → (q ≡ p → ⊥) → Passed Digits s p q
digits-some s p q k l n =
    let e = past-length p k.bytes in
    let f = k.end in
    let st : Stretch Digits s p q = record { bytes = k.bytes; holds = onward-digits k.holds.onward (omega (arith, n)); text = k.text; end = k.end } in
    passed Digits s p q st (omega (arith, n))

-- ---- whole numbers

module _ (s : List ℕ) (p : ℕ) (l : p < length s) where
  pub some-nought : get_or s p 0 ≡ 0x30 → Passed SomeWhole s p (p + 1)
  some-nought h =
      passed SomeWhole s p (p + 1)
      (stretch_as (Exactly (0x30 ∷ [])) SomeWhole s p (p + 1) (λ xs e. rw e (record { number = 0; whole = nought })) (byte_here s p 0x30 (sym (byte_inside s p l) ∙ h) (omega arith))) (omega arith)

  pub some-from : (q : ℕ) → 0x31 ≤ get_or s p 0 → get_or s p 0 ≤ 0x39 → ((m : ℕ) → Stretch (SomeOnward m) s (p + 1) q) → p + 1 ≤ q → Passed SomeWhole s p q
  some-from q g h k w =
      let b = get_or s p 0 in
      passed SomeWhole s p q
      (stretch_join (Exactly (b ∷ [])) (SomeOnward (b - 0x30)) SomeWhole s p (p + 1) q (λ xs ys e o. rw e (record { number = o.number; whole = from (g, h) o.onward }))
      (byte_here s p b (sym (byte_inside s p l)) (omega arith)) (k (b - 0x30))) (omega arith)

pub signed-bare : (s : List ℕ) (p q : ℕ) → Passed SomeWhole s p q → Passed SomeSigned s p q
signed-bare s p q k =
    passed SomeSigned s p q (stretch_as SomeWhole SomeSigned s p q (λ xs w. record { minus = false; number = w.number; signed = grammar.bare w.whole }) k.stretch) k.ahead

-- a byte before the rest
pub byte_before : (R T : List ℕ → Type 0) (s : List ℕ) (p q b c : ℕ) → ((xs : List ℕ) → R xs → T (c ∷ xs)) → b ≡ byte_at s p → b ≡ c → c < 256 → Passed R s (p + 1) q → Passed T s p q
byte_before R T s p q b c f e g l k =
    passed T s p q (stretch_join (Exactly (c ∷ [])) R T s p (p + 1) q (λ xs ys h w. rw h (f ys w)) (byte_here s p c (sym e ∙ g) l) k.stretch) (omega (arith, k.ahead))

pub signed-minus : (s : List ℕ) (p q b : ℕ) → b ≡ byte_at s p → b ≡ 0x2D → Passed SomeWhole s (p + 1) q → Passed SomeSigned s p q
signed-minus s p q b e g k =
    byte_before SomeWhole SomeSigned s p q b 0x2D (λ xs w. record { minus = true; number = w.number; signed = grammar.minus w.whole }) e g (omega arith) k

-- ---- fraction and exponent

pub dotted_none : (s : List ℕ) (p : ℕ) → Stretch Dotted s p p
dotted_none s p = stretch-none Dotted s p no_dot

pub dotted_some : (s : List ℕ) (p q b : ℕ) → b ≡ byte_at s p → b ≡ 0x2E → Passed Digits s (p + 1) q → Stretch Dotted s p q
dotted_some s p q b e g k = (byte_before Digits Dotted s p q b 0x2E (λ xs d. dot d) e g (omega arith) k).stretch

pub raised-plus : (s : List ℕ) (p q b : ℕ) → b ≡ byte_at s p → b ≡ 0x2B → Passed Digits s (p + 1) q → Passed Raised s p q
raised-plus s p q b e g k = byte_before Digits Raised s p q b 0x2B (λ xs d. plus d) e g (omega arith) k

pub raised-minus : (s : List ℕ) (p q b : ℕ) → b ≡ byte_at s p → b ≡ 0x2D → Passed Digits s (p + 1) q → Passed Raised s p q
raised-minus s p q b e g k = byte_before Digits Raised s p q b 0x2D (λ xs d. minus d) e g (omega arith) k

pub raised-bare : (s : List ℕ) (p q : ℕ) → Passed Digits s p q → Passed Raised s p q
raised-bare s p q k = passed Raised s p q (stretch_as Digits Raised s p q (λ xs d. bare d) k.stretch) k.ahead

pub raised-signed : (s : List ℕ) (p q b : ℕ) → b ≡ byte_at s p → (b ≡ 0x2B) ⊎ (b ≡ 0x2D) → Passed Digits s (p + 1) q → Passed Raised s p q
raised-signed s p q b e (inl f) k = raised-plus s p q b e f k
raised-signed s p q b e (inr f) k = raised-minus s p q b e f k

pub power-none : (s : List ℕ) (p : ℕ) → Stretch Powered s p p
power-none s p = stretch-none Powered s p no_power

small : {xs : List ℕ} → Raised xs → Power (0x65 ∷ xs)
small (bare d) = grammar.small d
small (plus d) = grammar.small_plus d
small (minus d) = grammar.small_minus d

large : {xs : List ℕ} → Raised xs → Power (0x45 ∷ xs)
large (bare d) = grammar.large d
large (plus d) = grammar.large_plus d
large (minus d) = grammar.large_minus d

pub power_small : (s : List ℕ) (p q b : ℕ) → b ≡ byte_at s p → b ≡ 0x65 → Passed Raised s (p + 1) q → Stretch Powered s p q
power_small s p q b e g k = (byte_before Raised Powered s p q b 0x65 (λ xs d. some_power (small d)) e g (omega arith) k).stretch

pub power-large : (s : List ℕ) (p q b : ℕ) → b ≡ byte_at s p → b ≡ 0x45 → Passed Raised s (p + 1) q → Stretch Powered s p q
power-large s p q b e g k = (byte_before Raised Powered s p q b 0x45 (λ xs d. some_power (large d)) e g (omega arith) k).stretch

pub power-some : (s : List ℕ) (p q b : ℕ) → b ≡ byte_at s p → (b ≡ 0x45) ⊎ (b ≡ 0x65) → Passed Raised s (p + 1) q → Stretch Powered s p q
power-some s p q b e (inl f) k = power-large s p q b e f k
power-some s p q b e (inr f) k = power_small s p q b e f k

-- ---- the number

record Numeric (d p : ℕ) (bs : List ℕ) : Type 0 where
  tree : Json
  value : Value d p tree bs

numeric : {xs ys zs : List ℕ} (d p : ℕ) → SomeSigned xs → Dotted ys → Powered zs → Numeric d p ((xs ++ ys) ++ zs)
numeric {xs} d p k no_dot no_power = rw (append-nil, append-nil) (record { tree = jint p k.minus k.number; value = grammar.whole k.signed })
numeric {xs} d p k no_dot (some_power w) = rw append-nil (record { tree = jreal p; value = grammar.real k.signed (grammar.power w) refl })
numeric {xs} d p k (dot h) no_power = rw append-nil (record { tree = jreal p; value = grammar.real k.signed (grammar.fraction h) refl })
numeric {xs} d p k (dot h) (some_power w) = rw append_assoc (record { tree = jreal p; value = grammar.real k.signed (grammar.both h w refl) refl })

pub number-here : (s : List ℕ) (d p q f r : ℕ) → Passed SomeSigned s p q → Stretch Dotted s q f → Stretch Powered s f r → ValueAt d s p r
number-here s d p q f r k x y =
    let a : Stretch (λ bs. bs ≡ k.stretch.bytes ++ x.bytes) s p f = stretch_join (λ bs. bs ≡ k.stretch.bytes) (λ bs. bs ≡ x.bytes) (λ bs. bs ≡ k.stretch.bytes ++ x.bytes) s p q f (λ xs ys g h. rw (g, h))
    (record { bytes = k.stretch.bytes; holds = refl; text = k.stretch.text; end = k.stretch.end }) (record { bytes = x.bytes; holds = refl; text = x.text; end = x.end }) in
    let n = numeric d p k.stretch.holds x.holds y.holds in
    let st : Stretch (Value d p n.tree) s p r =
    stretch_join (λ bs. bs ≡ k.stretch.bytes ++ x.bytes) (λ bs. bs ≡ y.bytes) (Value d p n.tree) s p f r (λ xs ys g h. rw (g, h) n.value) a
    (record { bytes = y.bytes; holds = refl; text = y.text; end = y.end }) in
    let i = past-length q x.bytes in
    let j = past-length f y.bytes in
    record { tree = n.tree; passed = passed (Value d p n.tree) s p r st (omega (arith, k.ahead, x.end, y.end)) }
