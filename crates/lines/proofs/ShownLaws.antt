-- What is printed, stored part by part.
use Rattle.jer.specs.declared.Counts.{Counts}
use Rattle.std.specs.Prelude.{Err, Ok}
use Rattle.jer.specs.Answer.{Judged, Reading, Writing}
use mathlib.Core.Path.{◌≡◌, refl, sym, ap, ◌∙◌}
use mathlib.Core.List.{List, [], ◌∷◌, ◌++◌, append-nil}
use Prim.Native.Nat.{ℕ, zero, suc, ◌+◌, ◌-◌, ◌*◌, ◌/◌, ◌%◌, ◌^◌, ◌<◌, ◌≤◌}
use native.Mathlib.Nat.{zero-add}
use native.Mathlib.Omega.{arith}
use lib.ListN.{length, get_or, take, drop, set, length-append, length-take}
use lib.Seq.{take-length, sets}
use Rattle.jer.specs.Octets.{hex}
use Rattle.jer.specs.Answer.{Values, values_of}
use Rattle.jer.specs.Programs.{digits8, end_line, refusal_line}
use Rattle.jer.specs.Reports.{reported_of}
use Rattle.jer.specs.declared.Reported.{Reported}
use Rattle.jer.specs.declared.Refusal.{Refusal}
use Rattle.octets.proofs.EncodeLaws.{hex-length}
use Rattle.octets.proofs.PutLaws.{sets_as, sets-next, Putting, putting_start, putting_next}
use Rattle.lines.specs.Shown.{four_line, four_lines, reading_lines, writing_lines, no_line, judged_line}

-- ---- a number

-- given the octets of a number
module _ (x : ℕ) {os : List ℕ} (e : os ≡ x / 2 ^ 24 % 256 ∷ x / 2 ^ 16 % 256 ∷ x / 2 ^ 8 % 256 ∷ x % 256 ∷ []) where
  -- their digits are its digits
  pub number_digits : hex os ≡ digits8 (x ∷ [])
  unfolding digits8
  number_digits = ap hex e ∙ sym (append-nil _)

  -- which are eight
  pub number-length : length (hex os) ≡ 8
  number-length = omega (arith, hex-length os, ap length e)

-- ---- a line

-- a line has one byte more than what it ends
pub line_length : (s : List ℕ) → length (end_line s) ≡ length s + 1
unfolding end_line
line_length s = length-append s (0x0A ∷ [])

-- it is stored with its line feed last
pub line_stored : (s l : List ℕ) (k : ℕ) {n : ℕ} {a b : List ℕ} → n ≡ length s → a ≡ sets l k s → b ≡ set a (k + n) 0x0A → b ≡ sets l k (end_line s)
unfolding end_line
line_stored s l k {n} {a} h e f = sets-next l k s (0x0A ∷ []) e (f ∙ ap (λ (m : ℕ). set a (k + m) 0x0A) h)

module _ (a b c d : ℕ) where
  -- a line of four numbers has 33 bytes
  pub four-length : 33 ≡ length (four_line a b c d)
  unfolding four_line end_line digits8 hex
  four-length = refl

  -- it is stored number by number, with its line feed last
  pub four-stored : (l : List ℕ) (k : ℕ) {m n o p q : List ℕ} → m ≡ sets l k (digits8 (a ∷ [])) → n ≡ sets m (k + 8) (digits8 (b ∷ [])) → o ≡ sets n (k + 16) (digits8 (c ∷ [])) → p ≡ sets o (k + 24) (digits8 (d ∷ [])) → q ≡ set p (k + 32) 0x0A
      → q ≡ sets l k (four_line a b c d)
  unfolding four_line end_line digits8 hex
  four-stored l k e f g h i =
      let x = digits8 (a ∷ []) in
      let y = digits8 (b ∷ []) in
      let z = digits8 (c ∷ []) in
      sets-next l k (((x ++ y) ++ z) ++ digits8 (d ∷ [])) (0x0A ∷ []) (sets-next l k ((x ++ y) ++ z) (digits8 (d ∷ [])) (sets-next l k (x ++ y) z (sets-next l k x y e f) g) h) i

-- the line of a refusal is a line of four numbers
pub refusal-four : (v : Values) {r : Reported} → r ≡ reported_of v → four_line 0xFFFFFFFF r.number r.first r.second ≡ refusal_line v
unfolding four_line refusal_line
refusal-four v e = ap (λ (x : Reported). end_line (digits8 (0xFFFFFFFF ∷ x.number ∷ x.first ∷ x.second ∷ []))) e

-- ---- rows

-- four numbers make at most 33 bytes
pub fours_length : (n : ℕ) (ns : List ℕ) → length (four_lines n ns) * 4 ≤ length ns * 33
unfolding four_lines
fours_length zero ns = omega arith
fours_length (suc n) [] = omega arith
fours_length (suc n) (a ∷ []) = omega arith
fours_length (suc n) (a ∷ b ∷ []) = omega arith
fours_length (suc n) (a ∷ b ∷ c ∷ []) = omega arith
fours_length (suc n) (a ∷ b ∷ c ∷ d ∷ ns) = omega (arith, length-append (four_line a b c d) (four_lines n ns), four-length a b c d, fours_length n ns)

-- at first all lines are left
pub fours_start : (n : ℕ) (ns l : List ℕ) → Putting (four_lines n ns) (four_lines (n - 0) ns) l l 0 0
fours_start n ns l = let e : n - 0 ≡ n = omega arith in rw e (putting_start (four_lines n ns) l 0)

-- nothing is left if no line is
pub fours_none : (n : ℕ) (ns : List ℕ) → n ≡ 0 → four_lines n ns ≡ []
unfolding four_lines
fours_none n ns h = rw h

-- nor if fewer than four numbers are
pub fours_short : (n : ℕ) (ns : List ℕ) → length ns ≤ 3 → four_lines n ns ≡ []
unfolding four_lines
fours_short zero ns h = refl
fours_short (suc n) [] h = refl
fours_short (suc n) (a ∷ []) h = refl
fours_short (suc n) (a ∷ b ∷ []) h = refl
fours_short (suc n) (a ∷ b ∷ c ∷ []) h = refl
fours_short (suc n) (a ∷ b ∷ c ∷ d ∷ ns) h = absurd (omega arith)

-- j of n lines are done, and ns is left of the numbers
module _ (ns : List ℕ) (n j : ℕ) where
  -- the next line comes first of what is left
  fours_more : 4 ≤ length ns → j < n
      → four_lines (n - j) ns ≡ four_line (get_or ns 0 0) (get_or ns 1 0) (get_or ns 2 0) (get_or ns 3 0) ++ four_lines (n - (j + 1)) (take (length ns - 4) (drop 4 ns))
  unfolding four_lines
  fours_more h l = let m : n - j ≡ suc (n - (j + 1)) = omega arith in rw m (go ns h)
    where
      go : (ns : List ℕ) → 4 ≤ length ns
          → four_lines (suc (n - (j + 1))) ns ≡ four_line (get_or ns 0 0) (get_or ns 1 0) (get_or ns 2 0) (get_or ns 3 0) ++ four_lines (n - (j + 1)) (take (length ns - 4) (drop 4 ns))
      go [] h = absurd (omega arith)
      go (a ∷ []) h = absurd (omega arith)
      go (a ∷ b ∷ []) h = absurd (omega arith)
      go (a ∷ b ∷ c ∷ []) h = absurd (omega arith)
      go (a ∷ b ∷ c ∷ d ∷ ms) h =
          let e : suc (suc (suc (suc (length ms)))) - 4 ≡ length ms = omega arith in
          rw e (ap (λ (l : List ℕ). four_line a b c d ++ four_lines (n - (j + 1)) l) (sym (take-length ms)))

  -- once it is stored, the lines after it are left
  pub fours_next : {all before now after : List ℕ} {k m a b c d : ℕ} → Putting all (four_lines (n - j) ns) before now 0 k → 4 ≤ length ns → j < n
      → a ≡ get_or ns 0 0 → b ≡ get_or ns 1 0 → c ≡ get_or ns 2 0 → d ≡ get_or ns 3 0 → m ≡ length (four_line a b c d) → after ≡ sets now k (four_line a b c d) → length after ≡ length now
      → Putting all (four_lines (n - (j + 1)) (take (length ns - 4) (drop 4 ns))) before after 0 (k + m)
  fours_next {now = now} {k = k} {a = a} {b = b} {c = c} {d = d} p h l ea eb ec ed e f s =
      let x = four_line a b c d in
      let rest = four_lines (n - (j + 1)) (take (length ns - 4) (drop 4 ns)) in
      rw e (putting_next p x rest (rw (ea, eb, ec, ed) (fours_more h l)) (f ∙ ap (λ (i : ℕ). sets now i x) (sym (zero-add k))) s)

-- ---- answers

-- how many bytes there are, and that they stand from k on: the same bytes, said otherwise
pub shown_as : (l : List ℕ) (k : ℕ) {n : ℕ} {xs ys after : List ℕ} → xs ≡ ys → (n ≡ length xs) × (after ≡ sets l k xs) → (n ≡ length ys) × (after ≡ sets l k ys)
shown_as l k e f = (f.0 ∙ ap length e, sets_as l k e f.1)

-- bytes after others that are the first
pub shown-next : (l xs ys : List ℕ) {k n : ℕ} {a b : List ℕ} → (k ≡ length xs) × (a ≡ sets l 0 xs) → (n ≡ length ys) × (b ≡ sets a k ys) → (k + n ≡ length (xs ++ ys)) × (b ≡ sets l 0 (xs ++ ys))
shown-next l xs ys {k} {n} {a} e f =
    let w : k ≡ 0 + length xs = omega (arith, e.0) in
    (omega (arith, length-append xs ys, e.0, f.0), sets-next l 0 xs ys e.1 (f.1 ∙ ap (λ (i : ℕ). sets a i ys) w))

-- a part of the octets makes the line of that part
pub part_line : {os : List ℕ} (m : ℕ) (pool : List ℕ) → os ≡ take m pool → end_line (hex os) ≡ end_line (hex (take m pool))
part_line m pool e = ap (λ (x : List ℕ). end_line (hex x)) e

-- it has no more octets than all
pub part_length : {os : List ℕ} (m : ℕ) (pool : List ℕ) → os ≡ take m pool → length os ≤ length pool
part_length m pool e = omega (arith, ap length e, length-take m pool)

-- what is printed for each answer of reading
pub reading_refused : {r : Reading} {e : Refusal} (rows pool : List ℕ) → r ≡ Err e → refusal_line (values_of e) ≡ reading_lines r rows pool
unfolding reading_lines
reading_refused rows pool h = rw h

pub reading_read : {r : Reading} {c : Counts} (rows pool : List ℕ) → r ≡ Ok c → four_lines c.rows rows ++ end_line (hex (take c.pool pool)) ≡ reading_lines r rows pool
unfolding reading_lines
reading_read rows pool h = rw h

-- and of writing
pub writing_refused : {w : Writing} {e : Refusal} (text : List ℕ) → w ≡ Err e → refusal_line (values_of e) ≡ writing_lines w text
unfolding writing_lines
writing_refused text h = rw h

pub writing_written : {w : Writing} {n : ℕ} (text : List ℕ) → w ≡ Ok n → end_line (hex (take n text)) ≡ writing_lines w text
unfolding writing_lines
writing_written text h = rw h

-- the line of a refused judgement has 21 bytes, and is stored part by part
module _ (n p : ℕ) where
  pub no-stored : (l : List ℕ) {c d e f g : List ℕ} → c ≡ sets l 0 (0x4E ∷ 0x4F ∷ 0x20 ∷ []) → d ≡ sets c 3 (digits8 (n ∷ [])) → e ≡ set d 11 0x20 → f ≡ sets e 12 (digits8 (p ∷ [])) → g ≡ set f 20 0x0A
      → (21 ≡ length (no_line n p)) × (g ≡ sets l 0 (no_line n p))
  unfolding no_line end_line digits8 hex
  no-stored l ec ed ee ef eg = (refl, rw (eg, ef, ee, ed, ec) refl)

-- what is printed for each answer of judging
pub judged-good : {j : Judged} (l : List ℕ) {a : List ℕ} → j ≡ Ok tt → a ≡ sets l 0 (0x4F ∷ 0x4B ∷ 0x0A ∷ []) → (3 ≡ length (judged_line j)) × (a ≡ sets l 0 (judged_line j))
unfolding judged_line end_line
judged-good l h e = rw h (refl, e)

pub judged-refused : {j : Judged} {e : Refusal} {r : Reported} → j ≡ Err e → r ≡ reported_of (values_of e) → no_line r.number r.first ≡ judged_line j
unfolding judged_line
judged-refused {j} {e} h k = ap (λ (x : Reported). no_line x.number x.first) k ∙ rw h
