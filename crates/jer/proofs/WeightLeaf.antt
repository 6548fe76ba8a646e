-- Leaves and UNWRAPPED choices: what is read of them fits the weight of the text.
use Rattle.jer.specs.declared.Token.{Token}
use Prim.Native.Nat.{ℕ, zero, suc, ◌+◌, ◌-◌, ◌/◌, ◌%◌, ◌^◌, ◌≤◌, ◌<◌}
use mathlib.Core.Path.{◌≡◌, refl, ap}
use mathlib.Core.List.{List, [], ◌∷◌}
use mathlib.Core.Bool.{Bool, true, false}
use Rattle.std.specs.Prelude.{Option, None, Some}
use native.Mathlib.Omega.{arith}
use lib.Dec.{ltb, leb, eqb}
use lib.ListN.{length, length-append}
use borrow.Author.Tests.{ltb-true, ltb-false, leb-true, ne_eqb, eq-eqb}
use Rattle.json_text.specs.Tree.{jbool}
use Rattle.json_text.proofs.SoundRows.{pick-within}
use Rattle.jer.specs.declared.Cause.TheVariants.{BadNumber}
use Rattle.jer.specs.Table.{Table, NULL, BOOLEAN, INTEGER, OCTET-STRING, UTF8String, kind_of, extensible, is_base64, is_unwrapped, type_at, position, alternative}
use Rattle.jer.specs.Value.{Val, v_bool, v_int, v_enum, v_null, v_bytes, v_choice}
use Rattle.jer.specs.Answer.{Res, ok, at}
use Rattle.jer.specs.Octets.{unhex, hex, unbase64, base64, hex_value, base64_value, last_group, full_group, only_if}
use Rattle.jer.specs.Read.{Meaning, read_int, read_item, read_octets, octets_of, read_string, at_kind, picked, unwrapping}
use Rattle.jer.specs.Rows.{bit, pool_of}
use Rattle.jer.specs.Write.{write, null_text, bool_text, digits, int_text, escapes, quotes, bytes_text, choice_text}
use Rattle.jer.specs.Sane.{Sane}
use Rattle.jer.proofs.ValidLaws.{same_bytes-eq, position_some, alternative-some}
use Rattle.jer.proofs.Weight.{weight, escapes_least}
use Rattle.jer.proofs.WeightGot.{branch, cases, refused, nothing, got, found, steps, finds, at-kind}
use Rattle.jer.proofs.WeightMeasure.{Light, LightUnder, Fair, FairUnder, string-length}

-- ---- UNWRAPPED choices

pub unwrapped-text : (t : Table) (r i : ℕ) (v : Val) → is_unwrapped t r ≡ true → write (v_choice i v) t r ≡ write v t (type_at t r i)
unfolding write choice_text
unwrapped-text t r i v u = rw (u, choice_text)

unwrapped-light : (t : Table) (w r i : ℕ) (v : Val) → is_unwrapped t r ≡ true → LightUnder t w (type_at t r i) v → Light t w r (v_choice i v)
unfolding pool_of
unwrapped-light t w r i v u h = rw (unwrapped-text t r i v u) (omega arith)

pub unwrapping-fair : (t : Table) → Sane t → (k : Token) (p w : ℕ) (plain : Meaning) → FairUnder t w plain → Fair t w (unwrapping t k p plain)
unfolding unwrapping picked
unwrapping-fair t g k p w plain h r v y =
    cases (is_unwrapped t r) (λ u e. chosen (alternative t r k) refl u e) (λ u e. let b = h r v y e in omega arith)
  where
    chosen : (c : Option ℕ) → alternative t r k ≡ c → is_unwrapped t r ≡ true → picked t r p plain c ≡ ok v → Light t w r v
    chosen None a u e = cases (extensible t r) (λ x f. refused f) (λ x f. refused f) e
    chosen (Some i) a u e =
        let s = steps (plain (type_at t r i)) _ v e in
        rw (← got s.then) (unwrapped-light t w r i s.val u (h _ _ (g.member r i y (alternative-some t r k i a).0) s.first))

-- ---- null, booleans, numbers

pub null-fair : (t : Table) (p : ℕ) → FairUnder t 4 (λ q. at_kind t q NULL p (ok v_null))
unfolding pool_of write null_text
null-fair t p r v y e = let q = got (at-kind t r NULL p _ v e).1 in rw (← q) (omega arith)

pub bool_fair : (t : Table) (p : ℕ) (b : Bool) → FairUnder t (weight (jbool p b)) (λ q. at_kind t q BOOLEAN p (ok (v_bool b)))
unfolding pool_of write bool_text
bool_fair t p true r v y e = let q = got (at-kind t r BOOLEAN p _ v e).1 in rw (← q) (omega arith)
bool_fair t p false r v y e = let q = got (at-kind t r BOOLEAN p _ v e).1 in rw (← q) (omega arith)

digits_least : (f n : ℕ) (ds : List ℕ) → length ds ≤ length (digits f n ds)
unfolding digits
digits_least zero n ds = omega arith
digits_least (suc f) n ds = branch (λ (x : List ℕ). length ds ≤ length x) (ltb n 10) (λ w. omega arith) (λ w. omega (arith, digits_least f (n / 10) ((0x30 + n % 10) ∷ ds)))

digits-some : (n : ℕ) → 1 ≤ length (digits 20 n [])
unfolding digits
digits-some n = branch (λ (x : List ℕ). 1 ≤ length x) (ltb n 10) (λ w. omega arith) (λ w. omega (arith, digits_least 19 (n / 10) ((0x30 + n % 10) ∷ [])))

-- the text of a number, and of a two's complement
plus-text : (n : ℕ) → n < 2 ^ 63 → int_text n ≡ digits 20 n []
unfolding int_text
plus-text n l = branch (λ (x : List ℕ). x ≡ digits 20 n []) (ltb n (2 ^ 63)) (λ w. refl) (λ w. absurd (let h = ltb-false n (2 ^ 63) w in omega arith))

minus-text : (n : ℕ) → 0 < n → n ≤ 2 ^ 63 → int_text (2 ^ 64 - n) ≡ 0x2D ∷ digits 20 n []
unfolding int_text
minus-text n z l =
    branch (λ (x : List ℕ). x ≡ 0x2D ∷ digits 20 n []) (ltb (2 ^ 64 - n) (2 ^ 63))
    (λ w. absurd (let h = ltb-true (2 ^ 64 - n) (2 ^ 63) w in omega arith))
    (λ w. ap (λ (k : ℕ). 0x2D ∷ digits 20 k []) (omega arith))

-- a number of the weight w
int-light : (t : Table) (w r n : ℕ) → 1 ≤ w → length (int_text n) ≤ w → LightUnder t w r (v_int n)
unfolding pool_of write
int-light t w r n h k = omega arith

int-read : (t : Table) (r p : ℕ) (m : Bool) (n : ℕ) (v : Val) → read_int p m n ≡ ok v → LightUnder t (bit m + length (digits 20 n [])) r v
unfolding read_int bit
int-read t r p false n v e =
    cases (ltb n (2 ^ 63))
    (λ w f. let q : v_int n ≡ v = cc in rw (← q) (int-light t _ r n (omega (arith, digits-some n)) (omega (arith, ap length (plus-text n (ltb-true _ _ w))))))
    (λ w f. refused f)
    e
int-read t r p true zero v e = let q : v_int 0 ≡ v = cc in rw (← q) (int-light t _ r 0 (omega arith) (omega (arith, ap length (plus-text 0 (omega arith)))))
int-read t r p true (suc n) v e =
    cases (leb (suc n) (2 ^ 63))
    (λ w f. let q : v_int (2 ^ 64 - suc n) ≡ v = cc in rw (← q) (int-light t _ r _ (omega arith) (omega (arith, ap length (minus-text (suc n) (omega arith) (leb-true _ _ w))))))
    (λ w f. refused f)
    e

pub int-fair : (t : Table) (p : ℕ) (m : Bool) (n : ℕ) → FairUnder t (bit m + length (digits 20 n [])) (λ q. at_kind t q INTEGER p (read_int p m n))
int-fair t p m n r v y e = int-read t r p m n v (at-kind t r INTEGER p _ v e).1

pub real-fair : (t : Table) (p : ℕ) → FairUnder t 3 (λ q. at_kind t q INTEGER p (at BadNumber p))
real-fair t p r v y e = refused (at-kind t r INTEGER p _ v e).1

-- ---- strings

-- hexadecimal and Base64 are written with as many characters as were read
unhex-length : (s os : List ℕ) → unhex s ≡ Some os → (length (hex os) ≡ length s) × (length os ≤ length s)
unfolding unhex hex
unhex-length [] os e = let q : [] ≡ os = cc in rw (← q) (omega arith)
unhex-length (a ∷ []) os e = nothing e
unhex-length (a ∷ b ∷ s) os e =
    let x = finds (hex_value a) _ os e in
    let y = finds (hex_value b) _ os x.then in
    let z = finds (unhex s) _ os y.then in
    let h = unhex-length s z.val z.first in
    rw (← found z.then) (omega arith)

only_if_lem : {A : Type 0} (c : Bool) (a b : A) → only_if c a ≡ Some b → a ≡ b
unfolding only_if
only_if_lem true a b e = cc
only_if_lem false a b e = nothing e

-- a text of n characters, and the octets that it denotes
abbrev Base64 : ℕ → List ℕ → Type 0
Base64 n os = (length (base64 os) ≡ n) × (length os ≤ n)

last_group_lem : (a b c d : ℕ) (os : List ℕ) → last_group a b c d ≡ Some os → Base64 4 os
unfolding last_group base64
last_group_lem a b c d os e =
    let x = finds (base64_value a) _ os e in
    let y = finds (base64_value b) _ os x.then in
    cases (eqb d 0x3D)
    (λ u. cases (eqb c 0x3D)
    (λ v g. let q = only_if_lem _ _ os g in rw (← q) (omega arith))
    (λ v g. let z = finds (base64_value c) _ os g in let q = only_if_lem _ _ os z.then in rw (← q) (omega arith)))
    (λ u f. let z = finds (base64_value c) _ os f in let w = finds (base64_value d) _ os z.then in let q = found w.then in rw (← q) (omega arith))
    y.then

full_group_lem : (a b c d : ℕ) (rest : Option (List ℕ)) (os : List ℕ) (n : ℕ) → ((ps : List ℕ) → rest ≡ Some ps → Base64 n ps) → full_group a b c d rest ≡ Some os → Base64 (4 + n) os
unfolding full_group base64
full_group_lem a b c d rest os n ih e =
    let x = finds (base64_value a) _ os e in
    let y = finds (base64_value b) _ os x.then in
    let z = finds (base64_value c) _ os y.then in
    let w = finds (base64_value d) _ os z.then in
    let u = finds rest _ os w.then in
    let h = ih u.val u.first in
    rw (← found u.then) (omega arith)

unbase64-length : (s os : List ℕ) → unbase64 s ≡ Some os → Base64 (length s) os
unfolding unbase64 base64
unbase64-length [] os e = let q : [] ≡ os = cc in rw (← q) (omega arith)
unbase64-length (a ∷ []) os e = nothing e
unbase64-length (a ∷ b ∷ []) os e = nothing e
unbase64-length (a ∷ b ∷ c ∷ []) os e = nothing e
unbase64-length (a ∷ b ∷ c ∷ d ∷ []) os e = last_group_lem a b c d os e
unbase64-length (a ∷ b ∷ c ∷ d ∷ e ∷ s) os h = let q = full_group_lem a b c d (unbase64 (e ∷ s)) os (length (e ∷ s)) (unbase64-length (e ∷ s)) h in omega arith

enum_light : (t : Table) (r i : ℕ) (s : List ℕ) → position t r s ≡ Some i → LightUnder t (2 + length (escapes s)) r (v_enum i)
unfolding pool_of write
enum_light t r i s e = rw (same_bytes-eq _ _ (position_some t r s i e).1) (omega (arith, string-length s))

bytes-light : (t : Table) (r : ℕ) (s os : List ℕ) → length os ≤ length s → length (bytes_text t r os) ≤ 2 + length (escapes s) → LightUnder t (2 + length (escapes s)) r (v_bytes os)
unfolding pool_of write
bytes-light t r s os l h = omega (arith, escapes_least s)

utf8-text : (t : Table) (r : ℕ) (s : List ℕ) → kind_of t r ≡ UTF8String → length (bytes_text t r s) ≤ 2 + length (escapes s)
unfolding bytes_text
utf8-text t r s k = rw (eq-eqb (kind_of t r) UTF8String k, bytes_text) (omega (arith, string-length s))

quotes-length : (s : List ℕ) → length (quotes s) ≡ 2 + length s
unfolding quotes
quotes-length s = simp length-append (omega arith)

octets-text : (t : Table) (r : ℕ) (s os : List ℕ) → kind_of t r ≡ OCTET-STRING → octets_of t r s ≡ Some os → (length os ≤ length s) × (length (bytes_text t r os) ≤ 2 + length s)
unfolding bytes_text octets_of
octets-text t r s os k e = go (is_base64 t r) refl
  where
    u : eqb (kind_of t r) UTF8String ≡ false
    u = ne_eqb (kind_of t r) UTF8String (λ q. omega arith)

    go : (c : Bool) → is_base64 t r ≡ c → (length os ≤ length s) × (length (bytes_text t r os) ≤ 2 + length s)
    go true w = let h = unbase64-length s os (rw (w, octets_of) at e) in rw (u, bytes_text) (rw (w, bytes_text) (omega (arith, quotes-length (base64 os))))
    go false w = let h = unhex-length s os (rw (w, octets_of) at e) in rw (u, bytes_text) (rw (w, bytes_text) (omega (arith, quotes-length (hex os))))

pub string-fair : (t : Table) (p : ℕ) (s : List ℕ) → FairUnder t (2 + length (escapes s)) (λ q. read_string t p s q)
unfolding read_string read_item read_octets
string-fair t p s r v y =
    pick-within (λ (x : Res Val). x ≡ ok v → LightUnder t (2 + length (escapes s)) r v) (kind_of t r) _ _
    (λ k e. item (position t r s) refl e, (λ k e. octets (octets_of t r s) refl (omega arith) e, (λ k e. rw (← got e) (bytes-light t r s s (omega arith) (utf8-text t r s (omega arith))), tt)))
    (λ e. refused e)
  where
    item : (c : Option ℕ) → position t r s ≡ c → read_item t r p c ≡ ok v → LightUnder t (2 + length (escapes s)) r v
    item None w e = cases (extensible t r) (λ x f. refused f) (λ x f. refused f) e
    item (Some i) w e = rw (← got e) (enum_light t r i s w)

    octets : (c : Option (List ℕ)) → octets_of t r s ≡ c → kind_of t r ≡ OCTET-STRING → read_octets p c ≡ ok v → LightUnder t (2 + length (escapes s)) r v
    octets None w k e = refused e
    octets (Some os) w k e = let h = octets-text t r s os k w in rw (← got e) (bytes-light t r s os h.0 (omega (arith, escapes_least s)))
