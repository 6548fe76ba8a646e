-- The members of a sequence met so far: what their bits, their links and their rows say together.
use Rattle.std.specs.Prelude.{is_some}
use Prim.Native.Nat.{ℕ, zero, suc, ◌+◌, ◌<◌, ◌≤◌}
use mathlib.Core.Path.{◌≡◌, refl, sym, ap, ◌∙◌}
use mathlib.Core.List.{List, [], ◌∷◌}
use mathlib.Core.Bool.{Bool, true, false, ◌&&◌}
use Rattle.std.specs.Prelude.{Option, None, Some}
use native.Mathlib.Omega.{arith}
use borrow.Author.Tests.{eqb-true, eqb-false}
use lib.Count.{ones}
use lib.Dec.{eqb}
use lib.ListN.{length, get_or, set}
use lib.Seq.{get_or-set_same, get_or-set_other}
use Rattle.jer.specs.Table.{Table, is_type, count_of, type_at, name_at, same_bytes, position}
use Rattle.jer.specs.Value.{Val, Parts, count_present}
use Rattle.jer.specs.Answer.{ok}
use Rattle.jer.specs.Read.{Entry, lookup, null_absent}
use Rattle.jer.specs.Rows.{rows_of, part_rows, pool_of, part_pool}
use Rattle.jer.specs.Sane.{Sane}
use Rattle.places.specs.ByPlaces.{bit_of, with_bit}
use Rattle.places.proofs.MeaningBits.{no-bit, bit-set, bit_kept}
use Rattle.places.proofs.MeaningNames.{position-found, names-differ, lookup-met, lookup-other}
use Rattle.quick.specs.Tape.{Alike, Stands, Linked}
use Rattle.quick.proofs.PartLaws.{set_part, Free, free, past_absent, past_present, set-count, set-rows, set-pool}
use Rattle.quick.proofs.TapeLaws.{alike_part, no_parts, linked-none, linked-later, linked-alike, linked-ahead, LinkSet, linked-set, stands_alike}
use Rattle.quick.proofs.WalkLaws.{alike_set}
use Rattle.quick.proofs.MemberLaws.{ones_with, both_ways}
use Rattle.quick.proofs.ObjectLaws.{Agrees, no_part, unmet, nulled, valued, agrees-nulled, agrees-valued}

no-some : {x : Entry} → Some x ≡ None → ⊥
no-some q = let y : ◌≡◌ {A = ℕ} 0 1 = cc in omega arith

none-some : (x : Option Entry) → is_some x ≡ false → x ≡ None
none-some None h = refl
none-some (Some e) h = absurd (let y : ◌≡◌ {A = ℕ} 0 1 = cc in omega arith)

-- a member that was not met is absent
agrees-free : {t : Table} {r : ℕ} {es : List Entry} {i : ℕ} {ps : Parts} (m n : ℕ) → Agrees t r es i ps → i + n ≡ m → m < count_of t r → lookup (name_at t r m) es ≡ None → Free ps n
agrees-free m n (no_part e) h l u = absurd (omega arith)
agrees-free m zero (unmet b a k) h l u = free
agrees-free m (suc n) (unmet b a k) h l u = past_absent (agrees-free m n k (omega arith) l u)
agrees-free m zero (nulled b a c k) h l u = free
agrees-free m (suc n) (nulled b a c k) h l u = past_absent (agrees-free m n k (omega arith) l u)
agrees-free {t} {r} {es = es} m zero (valued {i = i} b a c f k) h l u = let z : i ≡ m = omega arith in absurd (no-some (sym a ∙ ap (λ (y : ℕ). lookup (name_at t r y) es) z ∙ u))
agrees-free m (suc n) (valued b a c f k) h l u = past_present (agrees-free m n k (omega arith) l u)

-- the entries es were met; n rows and m pool bytes of those present
pub record Parted (t : Table) (s z : List ℕ) (r j end met has n m : ℕ) (es : List Entry) : Type 0 where
  pub parts : Parts
  pub agrees : Agrees t r es 0 parts
  pub linked : Linked s z t r (j + 3) end 0 parts
  pub bits : (i : ℕ) → i < count_of t r → is_some (lookup (name_at t r i) es) ≡ bit_of met i
  pub fewer : (i : ℕ) → i < count_of t r → bit_of met i ≡ false → bit_of has i ≡ false
  pub counted : ones has ≡ count_present parts
  pub rows : n + count_of t r ≡ length (part_rows parts t r 0 0) + count_present parts
  pub pool : m ≡ length (part_pool parts)

-- ---- none

agrees-none : (t : Table) (r i n : ℕ) → i + n ≡ count_of t r → Agrees t r [] i (no_parts n)
unfolding no_parts lookup
agrees-none t r i zero e = let g : i ≡ count_of t r = omega arith in no_part g
agrees-none t r i (suc n) e = let g : i < count_of t r = omega arith in unmet g refl (agrees-none t r (suc i) n (omega arith))

pub none-count : (n : ℕ) → count_present (no_parts n) ≡ 0
unfolding no_parts count_present
none-count zero = refl
none-count (suc n) = none-count n

pub none_rows : (t : Table) (r k n : ℕ) → length (part_rows (no_parts n) t r k 0) ≡ n
unfolding no_parts rows_of
none_rows t r k zero = refl
none_rows t r k (suc n) = ap suc (none_rows t r (suc k) n)

pub none-pool : (n : ℕ) → length (part_pool (no_parts n)) ≡ 0
unfolding no_parts pool_of
none-pool zero = refl
none-pool (suc n) = none-pool n

pub ones-zero : ones 0 ≡ 0
unfolding ones
ones-zero = refl

pub parted-none : (t : Table) (s z : List ℕ) (r j : ℕ) → ((i : ℕ) → i < count_of t r → get_or z (j + 3 + i) 0 ≡ 0) → Parted t s z r j (j + 3 + count_of t r) 0 0 0 0 []
unfolding lookup
parted-none t s z r j f =
    record {
      parts = no_parts (count_of t r);
      agrees = agrees-none t r 0 (count_of t r) (omega arith);
      linked = linked-none s z t r (j + 3) (j + 3 + count_of t r) 0 (count_of t r) (omega arith) (omega arith) f;
      bits = λ i l. sym (no-bit i);
      fewer = λ i l h. no-bit i;
      counted = ones-zero ∙ sym (none-count (count_of t r));
      rows = omega (arith, none_rows t r 0 (count_of t r), none-count (count_of t r));
      pool = sym (none-pool (count_of t r));
    }

-- ---- a known member more

module _ {t : Table} {s z : List ℕ} {r j end met has n m : ℕ} {es : List Entry} (k : Parted t s z r j end met has n m es) (sane : Sane t) (typed : is_type t r ≡ true) (e : Entry) (i : ℕ) (pos : position t r e.name ≡ Some i) (free' : bit_of met i ≡ false) where
  named-at : name_at t r i ≡ e.name
  named-at = (position-found t r e.name i pos).0

  pub inside-at : i < count_of t r
  inside-at = (position-found t r e.name i pos).1

  differ-at : (q : ℕ) → q < count_of t r → (q ≡ i → ⊥) → same_bytes e.name (name_at t r q) ≡ false
  differ-at q l h = ap (λ (x : List ℕ). same_bytes x (name_at t r q)) (sym named-at) ∙ names-differ t r i q sane typed inside-at l (λ w. h (sym w))

  unmet-at : lookup (name_at t r i) es ≡ None
  unmet-at = none-some _ (k.bits i inside-at ∙ free')

  -- its name was not met
  pub unmet-name : is_some (lookup e.name es) ≡ false
  unmet-name = ap (λ (x : List ℕ). is_some (lookup x es)) (sym named-at) ∙ k.bits i inside-at ∙ free'

  bits-more : (q : ℕ) → q < count_of t r → is_some (lookup (name_at t r q) (e ∷ es)) ≡ bit_of (with_bit met i) q
  bits-more q l = go (eqb q i) refl
    where
      go : (b : Bool) → eqb q i ≡ b → is_some (lookup (name_at t r q) (e ∷ es)) ≡ bit_of (with_bit met i) q
      go true w = let h = eqb-true q i w in ap (λ (x : ℕ). is_some (lookup (name_at t r x) (e ∷ es))) h ∙ ap (λ (x : List ℕ). is_some (lookup x (e ∷ es))) named-at ∙ ap is_some (lookup-met e es) ∙ sym (bit-set met i) ∙ ap (λ (x : ℕ). bit_of (with_bit met i) x) (sym h)
      go false w = let h = eqb-false q i w in ap is_some (lookup-other (name_at t r q) e es (differ-at q l h)) ∙ k.bits q l ∙ sym (bit_kept met i q h)

  met-before : (q : ℕ) → bit_of (with_bit met i) q ≡ false → (q ≡ i → ⊥) × (bit_of met q ≡ false)
  met-before q h = (λ w. both_ways (bit-set met i) (ap (λ (x : ℕ). bit_of (with_bit met i) x) (sym w) ∙ h), go (eqb q i) refl)
    where
      go : (b : Bool) → eqb q i ≡ b → bit_of met q ≡ false
      go true w = absurd (both_ways (bit-set met i) (ap (λ (x : ℕ). bit_of (with_bit met i) x) (sym (eqb-true q i w)) ∙ h))
      go false w = sym (bit_kept met i q (eqb-false q i w)) ∙ h

  -- its null, which means that it is absent
  pub parted-nulled : (e.is_null && null_absent t r i) ≡ true → Parted t s z r j end (with_bit met i) has n m (e ∷ es)
  parted-nulled w =
      record {
        parts = k.parts;
        agrees = agrees-nulled t r es e i named-at differ-at k.agrees i (omega arith) unmet-at w;
        linked = k.linked;
        bits = bits-more;
        fewer = λ q l h. k.fewer q l (met-before q h).1;
        counted = k.counted;
        rows = k.rows;
        pool = k.pool;
      }

  -- its value, noted from end on up to end' on y, and its link
  pub parted-valued : (y : List ℕ) (end' rows pool : ℕ) (v : Val) → (e.is_null && null_absent t r i) ≡ false → e.means (type_at t r i) ≡ ok v → Alike z y 0 end → end ≤ end' → j + 3 + count_of t r ≤ length y
      → Stands s y t (type_at t r i) v end end' → rows ≡ length (rows_of v t (type_at t r i) 0) → pool ≡ length (pool_of v)
      → Parted t s (set y (j + 3 + i) end) r j end' (with_bit met i) (with_bit has i) (n + rows) (m + pool) (e ∷ es)
  parted-valued y end' rows pool v w mv al le room st rs ps =
      let f = agrees-free i i k.agrees (omega arith) inside-at unmet-at in
      let a = linked-ahead k.linked in
      let il = inside-at in
      let x = set y (j + 3 + i) end in
      let ls : LinkSet y x (j + 3) end' i end (count_of t r) = record {
        link = get_or-set_same y (j + 3 + i) end 0 (omega arith);
        others = λ q l h. get_or-set_other y (j + 3 + i) (j + 3 + q) end 0 (λ u. h (omega arith));
        values = alike_set y (j + 3 + i) end (j + 3 + count_of t r) end' (λ q l h u. omega arith);
      } in
      record {
        parts = set_part k.parts i v;
        agrees = agrees-valued t r es e i named-at differ-at v k.agrees i (omega arith) il unmet-at w mv;
        linked = linked-set x i end ls i (linked-later end' (linked-alike y k.linked (alike_part (j + 3) end al (omega arith) (omega arith))) le) (omega arith) il a (omega arith) (stands_alike x st (alike_set y (j + 3 + i) end end end' (λ q l h u. omega arith)));
        bits = bits-more;
        fewer = λ q l h. let b = met-before q h in bit_kept has i q b.0 ∙ k.fewer q l b.1;
        counted = ones_with i has (k.fewer i il free') ∙ omega (arith, set-count v f, k.counted);
        rows = omega (arith, set-rows v t r 0 0 f, set-count v f, k.rows, rs, ap (λ (q : ℕ). length (rows_of v t (type_at t r q) 0)) (zero-add i));
        pool = omega (arith, set-pool v f, k.pool, ps);
      }
    where
      zero-add : (q : ℕ) → 0 + q ≡ q
      zero-add q = omega arith

-- there are no more present than members
present-few : {t : Table} {r : ℕ} {es : List Entry} {i : ℕ} {ps : Parts} → Agrees t r es i ps → i + count_present ps ≤ count_of t r
unfolding count_present
present-few (no_part e) = omega arith
present-few (unmet l a k) = omega (arith, present-few k)
present-few (nulled l a b k) = omega (arith, present-few k)
present-few (valued l a b c k) = omega (arith, present-few k)

pub parted-few : {t : Table} {s z : List ℕ} {r j end met has n m : ℕ} {es : List Entry} → Parted t s z r j end met has n m es → ones has ≤ count_of t r
parted-few k = omega (arith, present-few k.agrees, k.counted)

pub parted-along : {t : Table} {s z z' : List ℕ} {r j end end' met met' has has' n n' m m' : ℕ} {es : List Entry} → z' ≡ z → end' ≡ end → met' ≡ met → has' ≡ has → n' ≡ n → m' ≡ m
    → Parted t s z r j end met has n m es → Parted t s z' r j end' met' has' n' m' es
parted-along a b c d e f k = rw (a, b, c, d, e, f) k
