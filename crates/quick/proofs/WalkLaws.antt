-- The walk over the text: what is not taken, a leaf noted, a header.
use Prim.Native.Nat.{ℕ, suc, ◌+◌, ◌-◌, ◌<◌, ◌≤◌}
use mathlib.Core.Path.{◌≡◌, refl, sym, ap, ◌∙◌}
use mathlib.Core.List.{List}
use native.Mathlib.Numerals.{add-one}
use Rattle.std.specs.Prelude.{Option, None, Some}
use native.Mathlib.Omega.{arith}
use mathlib.Core.Bool.{true, false}
use lib.Count.{ones}
use lib.ListN.{length, get_or, set, length-set}
use lib.Seq.{get_or-set_same, get_or-set_other}
use Rattle.jer.specs.Table.{Table, is_type, count_of, may_miss}
use Rattle.jer.specs.Value.{Leaf, Val, v_leaf}
use Rattle.jer.specs.Rows.{leaf_pool, rows_of, pool_of}
use Rattle.tokens.specs.Places.{byte_at}
use Rattle.tokens.proofs.PlaceLaws.{inside}
use Rattle.places.specs.ByPlaces.{bit_of}
use Rattle.quick.specs.declared.Got.{Got}
use Rattle.quick.specs.declared.bare.Words as declared-leaf
use Rattle.spelled.specs.Stretch.{Within}
use Rattle.quick.specs.Stood.{Spaces, Stood}
use Rattle.quick.specs.Tape.{headed, Alike, Header, Stands, a_leaf}
use Rattle.quick.specs.Taken.{Headed, Shut, Given, LeafTaken, Walked}

pub alike_same : (z : List ℕ) (j k : ℕ) → Alike z z j k
alike_same z j k = record { same = λ i h l. refl }

pub alike_then : (z y x : List ℕ) (j k : ℕ) → Alike z y j k → Alike y x j k → Alike z x j k
alike_then z y x j k f g = record { same = λ i h l. g.same i h l ∙ f.same i h l }

pub alike_set : (z : List ℕ) (i a j k : ℕ) → ((n : ℕ) → j ≤ n → n < k → n ≡ i → ⊥) → Alike z (set z i a) j k
alike_set z i a j k h = record { same = λ n l m. get_or-set_other z i n a 0 (λ e. h n l m e) }

-- ---- white space

pub spaced : {s : List ℕ} {p q : ℕ} → Spaces s p q → Within s p q → Spaces s p q × (p ≤ q) × (p ≤ length s → q ≤ length s)
spaced x w = (x, w.0, λ l. omega (arith, w.1))

pub within-at : (s : List ℕ) {p q : ℕ} → Within s p q → p ≤ length s → q ≤ length s
within-at s w l = omega (arith, w.1)

-- ---- what is not taken

pub walked-none : {t : Table} {s z y : List ℕ} {d r p j : ℕ} {o : Option Got} → o ≡ None → Alike z y 0 j → Walked t s z y d r p j o
walked-none e f = rw e (record { kept = f; taken = tt })

pub not-here : {t : Table} {s z : List ℕ} {d r p j : ℕ} {o : Option Got} → o ≡ None → Walked t s z z d r p j o
not-here {z = z} {j = j} e = walked-none e (alike_same z 0 j)

pub mark-inside : (s : List ℕ) (p b k : ℕ) → b ≡ byte_at s p → b ≡ k → k < 256 → p < length s
mark-inside s p b k e f l = inside s p (λ w. omega arith)

-- ---- a leaf's two words

module _ (z : List ℕ) (j a b : ℕ) where
  pub pair-before : Alike z (set (set z j a) (j + 1) b) 0 j
  pair-before = alike_then z (set z j a) _ 0 j (alike_set z j a 0 j (λ n l m e. omega arith)) (alike_set (set z j a) (j + 1) b 0 j (λ n l m e. omega arith))

  module _ (l : j + 2 ≤ length z) where
    pair_0 : get_or (set (set z j a) (j + 1) b) j 0 ≡ a
    pair_0 = get_or-set_other (set z j a) (j + 1) j b 0 (λ e. omega arith) ∙ get_or-set_same z j a 0 (omega arith)

    pair_1 : get_or (set (set z j a) (j + 1) b) (j + 1) 0 ≡ b
    pair_1 = get_or-set_same (set z j a) (j + 1) b 0 (omega (arith, length-set z j a))

    pair_inside : j + 2 ≤ length (set (set z j a) (j + 1) b)
    pair_inside = omega (arith, length-set z j a, length-set (set z j a) (j + 1) b)

leaf-rows : (l : Leaf) (t : Table) (r : ℕ) → length (rows_of (v_leaf l) t r 0) ≡ 1
unfolding rows_of
leaf-rows l t r = refl

leaf-pool : (l : Leaf) (n : ℕ) → n ≡ length (leaf_pool l) → n ≡ length (pool_of (v_leaf l))
unfolding pool_of
leaf-pool l n h = h

pub leaf_noted : (t : Table) (s z : List ℕ) (r p j : ℕ) (w : declared-leaf.Words) (g : Got) → j + 2 ≤ length z → LeafTaken t s r p w → g.next ≡ w.next → g.tape ≡ j + 2 → g.rows ≡ 1 → g.pool ≡ w.pool
    → (d : ℕ) → Walked t s z (set (set z j w.a) (j + 1) w.b) d r p j (Some g)
leaf_noted t s z r p j w g l k e f h i d =
    record {
      kept = pair-before z j w.a w.b;
      taken = record {
        value = v_leaf k.leaf;
        stood = rw e (k.stood d);
        stands = a_leaf {r = r} {j = j} {l = k.leaf} (rw (pair_0 z j w.a w.b l, pair_1 z j w.a w.b l) k.words) f;
        rows = h ∙ sym (leaf-rows k.leaf t r);
        pool = i ∙ leaf-pool k.leaf w.pool k.pool;
        ahead = omega (arith, k.ahead);
        placed = omega (arith, k.placed);
        words = omega arith;
        inside = omega (arith, pair_inside z j w.a w.b l);
        few = omega (arith, k.few);
      };
    }

-- ---- a header

module _ (z : List ℕ) (j a b c : ℕ) where
  pub headed-before : Alike z (headed z j a b c) 0 j
  headed-before =
      alike_then z (set (set z j a) (j + 1) b) _ 0 j
      (alike_then z (set z j a) _ 0 j (alike_set z j a 0 j (λ n l m e. omega arith)) (alike_set (set z j a) (j + 1) b 0 j (λ n l m e. omega arith)))
      (alike_set (set (set z j a) (j + 1) b) (j + 2) c 0 j (λ n l m e. omega arith))

  pub headed-after : (k : ℕ) → Alike z (headed z j a b c) (j + 3) k
  headed-after k =
      alike_then z (set (set z j a) (j + 1) b) _ (j + 3) k
      (alike_then z (set z j a) _ (j + 3) k (alike_set z j a (j + 3) k (λ n l m e. omega arith)) (alike_set (set z j a) (j + 1) b (j + 3) k (λ n l m e. omega arith)))
      (alike_set (set (set z j a) (j + 1) b) (j + 2) c (j + 3) k (λ n l m e. omega arith))

  pub headed-length : length (headed z j a b c) ≡ length z
  headed-length = length-set (set (set z j a) (j + 1) b) (j + 2) c ∙ length-set (set z j a) (j + 1) b ∙ length-set z j a

  module _ (l : j + 3 ≤ length z) where
    headed_0 : get_or (headed z j a b c) j 0 ≡ a
    headed_0 =
        get_or-set_other (set (set z j a) (j + 1) b) (j + 2) j c 0 (λ e. omega arith)
        ∙ get_or-set_other (set z j a) (j + 1) j b 0 (λ e. omega arith)
        ∙ get_or-set_same z j a 0 (omega arith)

    headed_1 : get_or (headed z j a b c) (j + 1) 0 ≡ b
    headed_1 =
        get_or-set_other (set (set z j a) (j + 1) b) (j + 2) (j + 1) c 0 (λ e. omega arith)
        ∙ get_or-set_same (set z j a) (j + 1) b 0 (omega (arith, length-set z j a))

    headed_2 : get_or (headed z j a b c) (j + 2) 0 ≡ c
    headed_2 = get_or-set_same (set (set z j a) (j + 1) b) (j + 2) c 0 (omega (arith, length-set z j a, length-set (set z j a) (j + 1) b))

pub header : (z : List ℕ) (j a n k : ℕ) → j + 3 ≤ length z → Header (headed z j a (n + 1) k) j a n k
header z j a n k l = record { number = headed_0 z j a (n + 1) k l; rows = headed_1 z j a (n + 1) k l ∙ add-one n; end = headed_2 z j a (n + 1) k l }

-- a bracket closed: its header stands before its parts, which y has
pub bracket-closed : (t : Table) (s z y w : List ℕ) (d r p j a n m end next : ℕ) (v : Val) (g : Got) → Alike z y 0 j → j + 3 ≤ length y → w ≡ headed y j a (n + 1) end → Headed n m end next g
    → Stood t s d r p next v → Stands s (headed y j a (n + 1) end) t r v j end → suc n ≡ length (rows_of v t r 0) → m ≡ length (pool_of v)
    → p < next → next ≤ length s → j + n + 1 < end → end ≤ length y → p + m ≤ next → Walked t s z w d r p j (Some g)
bracket-closed t s z y w d r p j a n m end next v g f l e h k st rs ps ah pl wo ins fe =
    record {
      kept = rw e (alike_then z y _ 0 j f (headed-before y j a (n + 1) end));
      taken = record {
        value = v;
        stood = rw h.0 k;
        stands = rw (e, h.1) st;
        rows = omega (arith, h.2);
        pool = h.3 ∙ ps;
        ahead = omega (arith, h.0);
        placed = omega (arith, h.0);
        words = omega (arith, h.1, h.2);
        inside = omega (arith, h.1, ap (length {A = ℕ}) e, headed-length y j a (n + 1) end);
        few = omega (arith, h.0, h.3);
      };
    }

pub headed-kept : (z x : List ℕ) (j a b c : ℕ) → x ≡ headed z j a b c → Alike z x 0 j
headed-kept z x j a b c e = rw e (headed-before z j a b c)

pub shut-here : {t : Table} {r : ℕ} {z x : List ℕ} {j met has n pool end next : ℕ} {g : Got} (a w c : ℕ) → ((i : ℕ) → i < count_of t r → bit_of met i ≡ false → may_miss t r i ≡ true) → a ≡ ones has → c ≡ count_of t r → w ≡ c - a
    → x ≡ headed z j a (n + w + 1) end → Headed (n + w) pool end next g → Shut t r z x j met has n pool end next g
shut-here a w c f e h i k l = record { complete = f; tape = rw (← e, ← h, ← i) k; answer = rw (← e, ← h, ← i) l }

-- ---- what a part is given

pub given_part : {t : Table} (s : List ℕ) {z y : List ℕ} {r p j e at end : ℕ} → length s ≤ 65536 → Given t z r p j → length y ≡ length z → is_type t e ≡ true → at ≤ length s → end ≤ length y → Given t y e at end
given_part s short g k ty a b =
    record { sane = g.sane; typed = ty; room = omega (arith, g.room); here = omega (arith, short); start = omega (arith, g.room) }

pub walked_from : {t : Table} {s a z x : List ℕ} {d r p j : ℕ} {o : Option Got} → Alike a z 0 j → Walked t s z x d r p j o → Walked t s a x d r p j o
walked_from {a = a} {z = z} {x = x} {j = j} f k = record { kept = alike_then a z x 0 j f k.kept; taken = k.taken }

pub walked_if : {t : Table} {s z x : List ℕ} {d r p j : ℕ} (o : Option Got) → Alike z x 0 j → ((g : Got) → o ≡ Some g → Walked t s z x d r p j (Some g)) → Walked t s z x d r p j o
walked_if None f k = walked-none refl f
walked_if (Some g) f k = k g refl

-- another type further on, on the same tape
pub given-at : {t : Table} (s : List ℕ) {z : List ℕ} {r p j e m at end : ℕ} → length s ≤ 65536 → Given t z r p j → is_type t e ≡ true → m ≡ e → at ≤ length s → end ≤ length z → Given t z m at end
given-at s short g ty em a b = given_part s short g refl (rw em ty) a b
