-- A tape that is the same from j to k stands for the same there; one more item at its end.
use Prim.Native.Nat.{ℕ, zero, suc, ◌+◌, ◌<◌, ◌≤◌}
use mathlib.Core.Path.{◌≡◌, refl, ◌∙◌}
use mathlib.Core.List.{List}
use native.Mathlib.Omega.{arith}
use lib.ListN.{get_or}
use Rattle.jer.specs.Table.{Table, count_of, type_at}
use Rattle.jer.specs.Value.{Leaf, Val, Vals, Parts, pnil, absent}
use Rattle.quick.specs.Tape.{Alike, Words, Header, Stands, a_leaf, a_list, a_sequence, a_choice, Listed, no_item, item, Linked, no_link, no_value, a_value}
use Rattle.quick.proofs.ListLaws.{vsnoc}
use Rattle.quick.proofs.PartLaws.{set_part}

pub alike_part : {z y : List ℕ} {j k : ℕ} (a b : ℕ) → Alike z y j k → j ≤ a → b ≤ k → Alike z y a b
alike_part a b f h l = record { same = λ i m n. f.same i (omega arith) (omega arith) }

-- a value takes words, items go ahead
mutual
  pub stands-ahead : {s z : List ℕ} {t : Table} {r j k : ℕ} {v : Val} → Stands s z t r v j k → j + 2 ≤ k
  stands-ahead (a_leaf w f) = omega arith
  stands-ahead (a_list e h l) = let g = listed-ahead l in omega arith
  stands-ahead (a_sequence e h f l) = omega arith
  stands-ahead (a_choice e h v) = let g = stands-ahead v in omega arith

  pub listed-ahead : {s z : List ℕ} {t : Table} {r j k : ℕ} {vs : Vals} → Listed s z t r vs j k → j ≤ k
  listed-ahead (no_item e) = omega arith
  listed-ahead (item v l) = let h = stands-ahead v in let g = listed-ahead l in omega arith

pub linked-ahead : {s z : List ℕ} {t : Table} {r b k i : ℕ} {ps : Parts} → Linked s z t r b k i ps → b + count_of t r ≤ k
linked-ahead (no_link e f) = f
linked-ahead (no_value l e m) = linked-ahead m
linked-ahead (a_value l e f g v m) = linked-ahead m

words-alike : {s z : List ℕ} {t : Table} {r j : ℕ} {l : Leaf} (y : List ℕ) → Words s t r l (get_or z j 0) (get_or z (j + 1) 0) → Alike z y j (j + 2) → Words s t r l (get_or y j 0) (get_or y (j + 1) 0)
words-alike {j = j} y w h = rw (h.same j (omega arith) (omega arith), h.same (j + 1) (omega arith) (omega arith)) w

header-alike : {z : List ℕ} {j a n k : ℕ} (y : List ℕ) → Header z j a n k → Alike z y j (j + 3) → Header y j a n k
header-alike {j = j} y w h =
    record { number = h.same j (omega arith) (omega arith) ∙ w.number; rows = h.same (j + 1) (omega arith) (omega arith) ∙ w.rows; end = h.same (j + 2) (omega arith) (omega arith) ∙ w.end }

mutual
  pub stands_alike : {s z : List ℕ} {t : Table} {r j k : ℕ} {v : Val} (y : List ℕ) → Stands s z t r v j k → Alike z y j k → Stands s y t r v j k
  stands_alike y (a_leaf {j = j} w f) h = a_leaf (words-alike y w (alike_part j (j + 2) h (omega arith) (omega arith))) f
  stands_alike y (a_list {j = j} {k = k} e w l) h =
      let g = listed-ahead l in
      a_list e (header-alike y w (alike_part j (j + 3) h (omega arith) (omega arith))) (listed-alike y l (alike_part (j + 3) k h (omega arith) (omega arith)))
  stands_alike y (a_sequence {j = j} {k = k} e w f l) h =
      let g = linked-ahead l in
      a_sequence e (header-alike y w (alike_part j (j + 3) h (omega arith) (omega arith))) f (linked-alike y l (alike_part (j + 3) k h (omega arith) (omega arith)))
  stands_alike y (a_choice {j = j} {k = k} e w v) h =
      let g = stands-ahead v in
      a_choice e (header-alike y w (alike_part j (j + 3) h (omega arith) (omega arith))) (stands_alike y v (alike_part (j + 3) k h (omega arith) (omega arith)))

  pub linked-alike : {s z : List ℕ} {t : Table} {r b k i : ℕ} {ps : Parts} (y : List ℕ) → Linked s z t r b k i ps → Alike z y b k → Linked s y t r b k i ps
  linked-alike y (no_link e f) h = no_link e f
  linked-alike y (no_value {b = b} {i = i} l e m) h = let g = linked-ahead m in no_value l (h.same (b + i) (omega arith) (omega arith) ∙ e) (linked-alike y m h)
  linked-alike y (a_value {b = b} {i = i} {w = w} {l = q} l e f g v m) h =
      let o = linked-ahead m in
      a_value l (h.same (b + i) (omega arith) (omega arith) ∙ e) f g (stands_alike y v (alike_part w q h (omega arith) (omega arith))) (linked-alike y m h)

  pub listed-alike : {s z : List ℕ} {t : Table} {r j k : ℕ} {vs : Vals} (y : List ℕ) → Listed s z t r vs j k → Alike z y j k → Listed s y t r vs j k
  listed-alike y (no_item e) h = no_item e
  listed-alike y (item {j = j} {k = k} {l = m} v l) h =
      let f = stands-ahead v in
      let g = listed-ahead l in
      item (stands_alike y v (alike_part j k h (omega arith) (omega arith))) (listed-alike y l (alike_part k m h (omega arith) (omega arith)))

pub listed_snoc : {s z : List ℕ} {t : Table} {r j k l : ℕ} {v : Val} {vs : Vals} → Listed s z t r vs j k → Stands s z t r v k l → Listed s z t r (vsnoc vs v) j l
unfolding vsnoc
listed_snoc {s} {z} {t} {r} {l = l} {v = v} (no_item e) w = item (rw e at w) (no_item refl)
listed_snoc (item u m) w = item u (listed_snoc m w)

-- ---- links

-- all members absent, on a tape that is 0 there
unfoldable pub no_parts : ℕ → Parts
no_parts zero = pnil
no_parts (suc n) = absent (no_parts n)

pub linked-none : (s z : List ℕ) (t : Table) (r b k i n : ℕ) → i + n ≡ count_of t r → b + count_of t r ≤ k → ((m : ℕ) → m < count_of t r → get_or z (b + m) 0 ≡ 0) → Linked s z t r b k i (no_parts n)
unfolding no_parts
linked-none s z t r b k i zero e h f = let g : i ≡ count_of t r = omega arith in no_link g h
linked-none s z t r b k i (suc n) e h f = let g : i < count_of t r = omega arith in no_value g (f i g) (linked-none s z t r b k (suc i) n (omega arith) h f)

-- the end moves on, and values are noted past it
pub linked-later : {s z : List ℕ} {t : Table} {r b k i : ℕ} {ps : Parts} (l : ℕ) → Linked s z t r b k i ps → k ≤ l → Linked s z t r b l i ps
linked-later {t = t} {r = r} {b = b} l (no_link e f) h = let g : b + count_of t r ≤ l = omega arith in no_link e g
linked-later l (no_value a e m) h = no_value a e (linked-later l m h)
linked-later l (a_value {l = q} a e f g v m) h = let o : q ≤ l = omega arith in a_value a e f o v (linked-later l m h)

-- the tape y is like z but that the link of the member m has w
pub record LinkSet (z y : List ℕ) (b k m w n : ℕ) : Type 0 where
  pub link : get_or y (b + m) 0 ≡ w
  pub others : (i : ℕ) → i < n → (i ≡ m → ⊥) → get_or y (b + i) 0 ≡ get_or z (b + i) 0
  pub values : Alike z y (b + n) k

module _ {s z : List ℕ} {t : Table} {r b k : ℕ} (y : List ℕ) (m w : ℕ) (set : LinkSet z y b k m w (count_of t r)) where
  linked-past : {i : ℕ} {ps : Parts} → Linked s z t r b k i ps → m < i → Linked s y t r b k i ps
  linked-past (no_link e f) h = no_link e f
  linked-past (no_value {i = i} a e l) h = no_value a (set.others i a (λ q. omega arith) ∙ e) (linked-past l (omega arith))
  linked-past (a_value {i = i} {w = u} {l = q} a e f g v l) h = a_value a (set.others i a (λ q. omega arith) ∙ e) f g (stands_alike y v (alike_part u q set.values f g)) (linked-past l (omega arith))

  pub linked-set : {i l : ℕ} {ps : Parts} {v : Val} (n : ℕ) → Linked s z t r b k i ps → i + n ≡ m → m < count_of t r → b + count_of t r ≤ w → l ≤ k → Stands s y t (type_at t r m) v w l → Linked s y t r b k i (set_part ps n v)
  unfolding set_part
  linked-set n (no_link e f) h j g o x = absurd (omega arith)
  linked-set {v = v} zero (no_value {i = i} a e q) h j g o x = let d : m ≡ i = omega arith in a_value a (rw d at set.link) g o (rw d at x) (linked-past q (omega arith))
  linked-set (suc n) (no_value {i = i} a e q) h j g o x = no_value a (set.others i a (λ d. omega arith) ∙ e) (linked-set n q (omega arith) j g o x)
  linked-set {v = v} zero (a_value {i = i} a e f c u q) h j g o x = let d : m ≡ i = omega arith in a_value a (rw d at set.link) g o (rw d at x) (linked-past q (omega arith))
  linked-set (suc n) (a_value {i = i} {w = p} {l = l} a e f c u q) h j g o x =
      a_value a (set.others i a (λ d. omega arith) ∙ e) f c (stands_alike y u (alike_part p l set.values f c)) (linked-set n q (omega arith) j g o x)
