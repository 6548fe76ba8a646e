-- A value of one row, by its kind.
use mathlib.Core.Path.{◌≡◌, refl, sym, ap, ◌∙◌}
use mathlib.Core.List.{List}
use mathlib.Core.Bool.{Bool, true, false, ◌&&◌, ◌||◌, not}
use Rattle.std.specs.Prelude.{Option}
use Prim.Native.Nat.{ℕ, suc, ◌+◌, ◌-◌, ◌*◌, ◌^◌, ◌≤◌, ◌<◌}
use native.Mathlib.Omega.{arith}
use native.Mathlib.Numerals.{add-one}
use lib.Dec.{eqb, ltb, leb}
use lib.ListN.{length, take, drop}
use borrow.Author.Tests.{eqb-true, eqb-false, eq-eqb}
use Rattle.json_text.specs.Bytes.{pick}
use Rattle.json_text.specs.Utf8.{utf8}
use Rattle.jer.specs.Table.{Table, UTF8String, tag_of, kind_of, is_base64, count_of, name_at}
use Rattle.jer.proofs.Forms.{kind_tag}
use Rattle.jer.specs.Value.{Val, v_bool, v_int, v_enum, v_null, v_bytes}
use Rattle.jer.specs.Rows.{ValueRow, row}
use Rattle.jer.specs.Judge.{Taker, right_row, leaf, string_row, take_row}
use Rattle.jer.specs.Write.{null_text, bool_text, int_text, quotes, string_text, bytes_text, write}
use Rattle.jer.specs.Calls.{amount}
use Rattle.jer.proofs.ValidRows.{both}
use Rattle.octets.proofs.AmountLaws.{amount-within}
use Rattle.written.specs.declared.put.Form.{Form}
use Rattle.written.specs.declared.put.Form.TheVariants.{Escaped}
use Rattle.written.specs.Text.{Taken, Puts, spelled, form_of, text_of, Writes, ended_as}
use Rattle.written.proofs.PutLaws.{puts_as}
use Rattle.written.proofs.TextLaws.{closed, ends, text-ended}

-- ---- how a string is spelled

module _ (t : Table) (r : ℕ) where
  form_text : {k : ℕ} → k ≡ kind_of t r → k ≡ 5 → Escaped ≡ form_of t r
  unfolding form_of
  form_text e h = sym (rw (eq-eqb (kind_of t r) UTF8String (sym e ∙ h), form_of))

  pub chars-text : {k : ℕ} (s : List ℕ) {p e : ℕ} {l m : List ℕ} → k ≡ kind_of t r → k ≡ 5 → Puts (string_text s) p l m e → Puts (quotes (spelled (form_of t r) s)) p l m e
  unfolding string_text spelled
  chars-text s y h = puts_as (ap (λ (z : Form). quotes (spelled z s)) (form_text y h))

  bytes-text : (s : List ℕ) → quotes (spelled (form_of t r) s) ≡ write (v_bytes s) t r
  unfolding write bytes_text string_text form_of spelled
  bytes-text s = go (eqb (kind_of t r) UTF8String) (is_base64 t r) refl refl
    where
      go : (c d : Bool) → eqb (kind_of t r) UTF8String ≡ c → is_base64 t r ≡ d → quotes (spelled (form_of t r) s) ≡ bytes_text t r s
      go true d e f = rw (e, form_of, bytes_text)
      go false true e f = rw (e, f, form_of, bytes_text)
      go false false e f = rw (e, f, form_of, bytes_text)

-- ---- a row that has no parts

right-text : (f : Val → List ℕ) (c : Bool) (v : Val) (ws : List ValueRow) (q o : ℕ) → closed c (f v) q ws (suc q) o ≡ text_of f (right_row c v ws q o)
unfolding right_row
right-text f true v ws q o = sym (text-ended f true v ws q (suc q) o)
right-text f false v ws q o = sym (text-ended f false v ws q (suc q) o)

one-row : (c : Bool) (n q : ℕ) → (c && eqb n 1) ≡ (c && eqb n (q + 1 - q))
one-row c n q = let e : 1 ≡ q + 1 - q = omega arith in ap (λ (x : ℕ). c && eqb n x) e

and_assoc : (a b c : Bool) → (a && (b && c)) ≡ ((a && b) && c)
and_assoc true b c = refl
and_assoc false b c = refl

module _ (i : Option Taker) (t : Table) (pool : List ℕ) (r a b n : ℕ) (ws : List ValueRow) (q o : ℕ) {k : ℕ} (m : k ≡ kind_of t r) where
  tagged : eqb k (tag_of t r) ≡ true
  tagged = eq-eqb k (tag_of t r) (m ∙ kind_tag t r)

  row_bool : k ≡ 0 → take_row i t pool r (row k a b n) ws q o ≡ right_row (ltb a 2 && (eqb b 0 && eqb n 1)) (v_bool (eqb a 1)) ws q o
  unfolding take_row pick leaf
  row_bool h = rw (tagged, take_row) (rw (sym m ∙ h))

  row-int : k ≡ 1 → take_row i t pool r (row k a b n) ws q o ≡ right_row (eqb n 1) (v_int (b * 2 ^ 32 + a)) ws q o
  unfolding take_row pick
  row-int h = rw (tagged, take_row) (rw (sym m ∙ h))

  row_enum : k ≡ 2 → take_row i t pool r (row k a b n) ws q o ≡ right_row (ltb a (count_of t r) && (eqb b 0 && eqb n 1)) (v_enum a) ws q o
  unfolding take_row pick leaf
  row_enum h = rw (tagged, take_row) (rw (sym m ∙ h))

  row-null : k ≡ 3 → take_row i t pool r (row k a b n) ws q o ≡ right_row (eqb a 0 && (eqb b 0 && eqb n 1)) v_null ws q o
  unfolding take_row pick leaf
  row-null h = rw (tagged, take_row) (rw (sym m ∙ h))

  row-string : 4 ≤ k → k ≤ 5 → take_row i t pool r (row k a b n) ws q o ≡ string_row (not (eqb k 4)) pool (row k a b n) ws q o
  unfolding take_row pick
  row-string x y = go (eqb k 4) refl
    where
      go : (c : Bool) → eqb k 4 ≡ c → take_row i t pool r (row k a b n) ws q o ≡ string_row (not (eqb k 4)) pool (row k a b n) ws q o
      go true e = rw (tagged, e, take_row) (rw (sym m ∙ eqb-true k 4 e))
      go false e = let g = eqb-false k 4 e in let h : k ≡ 5 = omega arith in rw (tagged, e, take_row) (rw (sym m ∙ h))

module _ (i : Option Taker) (t : Table) (pool : List ℕ) (r : ℕ) (w : ValueRow) (ws : List ValueRow) (q o : ℕ) {k e : ℕ} {l m : List ℕ} {x : Taken} where
  row_ends : (c : Bool) {d : Bool} (v : Val) → take_row i t pool r w ws q o ≡ right_row c v ws q o → c ≡ d → Puts (write v t r) k l m e → x ≡ ended_as d q (q + 1) o e → Writes (text_of (λ v. write v t r) (take_row i t pool r w ws q o)) k l m x
  row_ends c v h f p g = rw (g, h, ← f, add-one q) (ends c ws q (suc q) o (right-text (λ v. write v t r) c v ws q o) p)

module _ (i : Option Taker) (t : Table) (pool : List ℕ) (r a b n : ℕ) (ws : List ValueRow) (q o : ℕ) {kind : ℕ} (y : kind ≡ kind_of t r) {k e : ℕ} {l m : List ℕ} {x : Taken} where
  pub bool_ends : kind ≡ 0 → Puts (bool_text (eqb a 1)) k l m e → x ≡ ended_as ((ltb a 2 && eqb b 0) && eqb n (q + 1 - q)) q (q + 1) o e → Writes (text_of (λ v. write v t r) (take_row i t pool r (row kind a b n) ws q o)) k l m x
  unfolding write
  bool_ends h p g = row_ends i t pool r (row kind a b n) ws q o _ (v_bool (eqb a 1)) (row_bool i t pool r a b n ws q o y h) (and_assoc (ltb a 2) (eqb b 0) (eqb n 1) ∙ one-row (ltb a 2 && eqb b 0) n q) p g

  pub int-ends : kind ≡ 1 → Puts (int_text (b * 2 ^ 32 + a)) k l m e → x ≡ ended_as (true && eqb n (q + 1 - q)) q (q + 1) o e → Writes (text_of (λ v. write v t r) (take_row i t pool r (row kind a b n) ws q o)) k l m x
  unfolding write
  int-ends h p g = row_ends i t pool r (row kind a b n) ws q o _ (v_int (b * 2 ^ 32 + a)) (row-int i t pool r a b n ws q o y h) (one-row true n q) p g

  pub enum_ends : {c : ℕ} {s : List ℕ} → kind ≡ 2 → c ≡ count_of t r → s ≡ name_at t r a → Puts (string_text s) k l m e → x ≡ ended_as ((ltb a c && eqb b 0) && eqb n (q + 1 - q)) q (q + 1) o e → Writes (text_of (λ v. write v t r) (take_row i t pool r (row kind a b n) ws q o)) k l m x
  unfolding write
  enum_ends {c} h d v p g =
      let f = puts_as (ap string_text v) p in
      row_ends i t pool r (row kind a b n) ws q o _ (v_enum a) (row_enum i t pool r a b n ws q o y h) (ap (λ (z : ℕ). ltb a z && (eqb b 0 && eqb n 1)) (sym d) ∙ and_assoc (ltb a c) (eqb b 0) (eqb n 1) ∙ one-row (ltb a c && eqb b 0) n q) f g

  pub null-ends : kind ≡ 3 → Puts null_text k l m e → x ≡ ended_as ((eqb a 0 && eqb b 0) && eqb n (q + 1 - q)) q (q + 1) o e → Writes (text_of (λ v. write v t r) (take_row i t pool r (row kind a b n) ws q o)) k l m x
  unfolding write
  null-ends h p g = row_ends i t pool r (row kind a b n) ws q o _ v_null (row-null i t pool r a b n ws q o y h) (and_assoc (eqb a 0) (eqb b 0) (eqb n 1) ∙ one-row (eqb a 0 && eqb b 0) n q) p g

-- ---- a string

and_swap : (a b c : Bool) → ((a && b) && c) ≡ ((a && c) && b)
and_swap true true true = refl
and_swap true true false = refl
and_swap true false true = refl
and_swap true false false = refl
and_swap false b c = refl

not-not : (b : Bool) → not (not b) ≡ b
not-not true = refl
not-not false = refl

-- the tests of a string's row, as the code makes them
string-flag : (a b o n size : ℕ) (c u : Bool) → ((eqb a o && (leb (o + b) n && eqb size 1)) && (not (not c) || u)) ≡ (((eqb a o && leb (a + b) n) && (c || u)) && eqb size 1)
string-flag a b o n size c u = go (eqb a o) refl
  where
    go : (d : Bool) → eqb a o ≡ d → ((eqb a o && (leb (o + b) n && eqb size 1)) && (not (not c) || u)) ≡ (((eqb a o && leb (a + b) n) && (c || u)) && eqb size 1)
    go true e = let h = eqb-true a o e in rw (e, not-not c, h) (and_swap (leb (o + b) n) (eqb size 1) (c || u))
    go false e = rw e

module _ (text : Bool) (pool : List ℕ) (w : ValueRow) (ws : List ValueRow) (q o : ℕ) (f : Val → List ℕ) where
  string-text : closed ((eqb w.a o && (leb (o + w.b) (length pool) && eqb w.size 1)) && (not text || utf8 (take w.b (drop o pool)))) (f (v_bytes (take w.b (drop o pool)))) q ws (suc q) (o + w.b) ≡ text_of f (string_row text pool w ws q o)
  unfolding string_row
  string-text = go (eqb w.a o && (leb (o + w.b) (length pool) && eqb w.size 1)) refl
    where
      s : List ℕ
      s = take w.b (drop o pool)

      go : (c : Bool) → (eqb w.a o && (leb (o + w.b) (length pool) && eqb w.size 1)) ≡ c
          → closed ((eqb w.a o && (leb (o + w.b) (length pool) && eqb w.size 1)) && (not text || utf8 (take w.b (drop o pool)))) (f (v_bytes (take w.b (drop o pool)))) q ws (suc q) (o + w.b) ≡ text_of f (string_row text pool w ws q o)
      go false e = rw (e, string_row) (sym (text-ended f false (v_bytes (take w.b (drop o pool))) ws q (suc q) (o + w.b)))
      go true e = rw (e, string_row) (sym (text-ended f (not text || utf8 (take w.b (drop o pool))) (v_bytes (take w.b (drop o pool))) ws q (suc q) (o + w.b)))

module _ (i : Option Taker) (t : Table) (pool : List ℕ) (r a b n : ℕ) (ws : List ValueRow) (q o : ℕ) {kind : ℕ} (y : kind ≡ kind_of t r) {k e : ℕ} {l m : List ℕ} {x : Taken} where
  pub string-ends : {c d used : ℕ} {s : List ℕ} {u : Bool} → 4 ≤ kind → kind ≤ 5 → a < 4294967296 → b < 4294967296 → c ≡ a → d ≡ b → s ≡ take d (drop o pool) → u ≡ (eqb kind 4 || utf8 s) → used ≡ amount (o + d)
      → Puts (quotes (spelled (form_of t r) s)) k l m e → x ≡ ended_as ((((eqb c o && leb (c + d) (length pool)) && u) && eqb n (q + 1 - q))) q (q + 1) used e → Writes (text_of (λ v. write v t r) (take_row i t pool r (row kind a b n) ws q o)) k l m x
  unfolding ended_as
  string-ends {c} {d} {used} {s} {u} lo hi fa fb ca db ss uu us p h =
      let S = take b (drop o pool) in
      let flag : test ≡ (((eqb c o && leb (c + d) (length pool)) && u) && eqb n (q + 1 - q)) = string-flag a b o (length pool) n (eqb kind 4) (utf8 S) ∙ rw (ca, uu, ss, db) (one-row (((eqb a o && leb (a + b) (length pool)) && (eqb kind 4 || utf8 S))) n q) in
      let f = puts_as (ap (λ (z : List ℕ). quotes (spelled (form_of t r) z)) (ss ∙ ap (λ (z : ℕ). take z (drop o pool)) db) ∙ bytes-text t r S) p in
      let x : x ≡ ended_as test q (suc q) (o + b) e = h ∙ ap (λ (z : Bool). ended_as z q (q + 1) used e) (sym flag) ∙ moved test used (λ v. us ∙ ap (λ (z : ℕ). amount (o + z)) db ∙ within fa fb v) in
      rw x (ends test ws q (suc q) (o + b) (string-text (not (eqb kind 4)) pool (row kind a b n) ws q o (λ v. write v t r) ∙ ap (text_of (λ v. write v t r)) (sym (row-string i t pool r a b n ws q o y lo hi))) f)
    where
      test : Bool
      test = (eqb a o && (leb (o + b) (length pool) && eqb n 1)) && (not (not (eqb kind 4)) || utf8 (take b (drop o pool)))

      within : a < 4294967296 → b < 4294967296 → test ≡ true → amount (o + b) ≡ o + b
      within fa fb v = let w = simp both at v in sym (amount-within (o + b) (omega (arith, eqb-true a o w.0.0)))

      moved : (c : Bool) (used : ℕ) → (c ≡ true → used ≡ o + b) → ended_as c q (q + 1) used e ≡ ended_as c q (suc q) (o + b) e
      moved true used z = rw (add-one q, z refl)
      moved false used z = refl
