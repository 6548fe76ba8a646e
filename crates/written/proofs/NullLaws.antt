-- Which values are written as null: NULL, and an UNWRAPPED choice that holds NULL.
use mathlib.Core.Path.{◌≡◌, refl, sym, ap, ◌∙◌}
use mathlib.Core.List.{List, [], ◌∷◌}
use mathlib.Core.Bool.{Bool, true, false, ◌&&◌, ◌||◌, not}
use Rattle.std.specs.Prelude.{Option, None, Some}
use Prim.Native.Nat.{ℕ, zero, suc, ◌+◌, ◌-◌, ◌/◌, ◌%◌, ◌^◌, ◌≤◌}
use native.Mathlib.Omega.{arith}
use lib.Dec.{eqb, ltb, leb}
use lib.ListN.{length, take, drop}
use borrow.Author.Tests.{ltb-true, eq-eqb, ne_eqb}
use Rattle.json_text.specs.Utf8.{utf8}
use Rattle.json_text.proofs.SoundRows.{pick-within, ◌⨾◌}
use Rattle.jer.specs.Table.{Table, UTF8String, NULL, CHOICE, tag_of, kind_of, is_base64, is_array, is_unwrapped, element_of, count_of, type_at, same_bytes}
use Rattle.jer.specs.Value.{Val, v_bool, v_int, v_enum, v_null, v_bytes, v_seq, v_list, v_choice, Vals, Parts, count_present}
use Rattle.jer.specs.Rows.{ValueRow}
use Rattle.jer.specs.Judge.{Took, took, wrong, Taker, take_parts, take_items, right_row, leaf, string_row, sized, in_bracket, take_sequence, take_list, take_choice, take_row, on_row, take_unwrapped, take_value}
use Rattle.jer.specs.Write.{null_text, bool_text, digits, int_text, quotes, string_text, bytes_text, brackets, braces, choice_text, sequence_text, write}
use Rattle.jer.proofs.ValidRows.{both, unwrapped-kind}
use Rattle.jer.proofs.JudgeTakes.{inner, take-plain, take-unwrapped}
use Rattle.jer.proofs.JudgeSpent.{After, after_then, after_if}
use Rattle.written.specs.Rows.{null_next}
use Rattle.written.specs.Tables.{Wrapped}

abbrev pub IsNull : List ℕ → Bool → Type 0
IsNull s b = same_bytes s null_text ≡ b

-- ---- texts that are not null

other_byte : (b : ℕ) (bs : List ℕ) → (b ≡ 0x6E → ⊥) → IsNull (b ∷ bs) false
unfolding same_bytes null_text
other_byte b bs h = rw (ne_eqb b 0x6E h, same_bytes)

digits-not : (f n b : ℕ) (ds : List ℕ) → b ≤ 0x39 → IsNull (digits f n (b ∷ ds)) false
unfolding digits
digits-not zero n b ds h = other_byte b ds (λ e. omega arith)
digits-not (suc f) n b ds h = go (ltb n 10) refl (digits-not f (n / 10) (0x30 + n % 10) (b ∷ ds) (omega arith))
  where
    go : (c : Bool) → ltb n 10 ≡ c → IsNull (digits f (n / 10) ((0x30 + n % 10) ∷ b ∷ ds)) false → IsNull (digits (suc f) n (b ∷ ds)) false
    go true e ih = rw (e, digits) (other_byte (0x30 + n) (b ∷ ds) (λ x. omega (arith, ltb-true n 10 e)))
    go false e ih = rw (e, digits) ih

number-not : (n : ℕ) → IsNull (digits 20 n []) false
unfolding digits
number-not n = go (ltb n 10) refl
  where
    go : (c : Bool) → ltb n 10 ≡ c → IsNull (digits 20 n []) false
    go true e = rw (e, digits) (other_byte (0x30 + n) [] (λ x. omega (arith, ltb-true n 10 e)))
    go false e = rw (e, digits) (digits-not 19 (n / 10) (0x30 + n % 10) [] (omega arith))

int-not : (n : ℕ) → IsNull (int_text n) false
unfolding int_text
int-not n = go (ltb n (2 ^ 63)) refl
  where
    go : (c : Bool) → ltb n (2 ^ 63) ≡ c → IsNull (int_text n) false
    go true e = rw (e, int_text) (number-not n)
    go false e = rw (e, int_text) (other_byte 0x2D _ (λ x. omega arith))

quotes-not : (s : List ℕ) → IsNull (quotes s) false
unfolding quotes
quotes-not s = other_byte 0x22 _ (λ x. omega arith)

bytes-not : (t : Table) (r : ℕ) (s : List ℕ) → IsNull (bytes_text t r s) false
unfolding bytes_text string_text
bytes-not t r s = go (eqb (kind_of t r) UTF8String) refl
  where
    octets : (c : Bool) → is_base64 t r ≡ c → eqb (kind_of t r) UTF8String ≡ false → IsNull (bytes_text t r s) false
    octets true b e = rw (e, bytes_text) (rw b (quotes-not _))
    octets false b e = rw (e, bytes_text) (rw b (quotes-not _))

    go : (c : Bool) → eqb (kind_of t r) UTF8String ≡ c → IsNull (bytes_text t r s) false
    go true e = rw (e, bytes_text) (quotes-not _)
    go false e = octets (is_base64 t r) refl e

sequence-not : (t : Table) (r : ℕ) (es ms : List (List ℕ)) → IsNull (sequence_text t r es ms) false
unfolding sequence_text brackets braces
sequence-not t r es ms = go (is_array t r) refl
  where
    go : (c : Bool) → is_array t r ≡ c → IsNull (sequence_text t r es ms) false
    go true e = rw (e, sequence_text) (other_byte 0x5B _ (λ x. omega arith))
    go false e = rw (e, sequence_text) (other_byte 0x7B _ (λ x. omega arith))

module _ (t : Table) (r : ℕ) where
  bool_write : (b : Bool) → IsNull (write (v_bool b) t r) false
  unfolding write bool_text
  bool_write true = other_byte 0x74 _ (λ x. omega arith)
  bool_write false = other_byte 0x66 _ (λ x. omega arith)

  int-write : (n : ℕ) → IsNull (write (v_int n) t r) false
  unfolding write
  int-write n = int-not n

  enum_write : (n : ℕ) → IsNull (write (v_enum n) t r) false
  unfolding write string_text
  enum_write n = quotes-not _

  null-write : IsNull (write v_null t r) true
  unfolding write same_bytes null_text
  null-write = refl

  bytes-write : (s : List ℕ) → IsNull (write (v_bytes s) t r) false
  unfolding write
  bytes-write s = bytes-not t r s

  seq_write : (ps : Parts) → IsNull (write (v_seq ps) t r) false
  unfolding write
  seq_write ps = sequence-not t r _ _

  list-write : (vs : Vals) → IsNull (write (v_list vs) t r) false
  unfolding write brackets
  list-write vs = other_byte 0x5B _ (λ x. omega arith)

  wrapped-write : (i : ℕ) (v : Val) → is_unwrapped t r ≡ false → IsNull (write (v_choice i v) t r) false
  unfolding write choice_text braces
  wrapped-write i v c = rw (c, choice_text) (other_byte 0x7B _ (λ x. omega arith))

  pub unwrapped-write : (i : ℕ) (v : Val) → is_unwrapped t r ≡ true → write (v_choice i v) t r ≡ write v t (type_at t r i)
  unfolding write choice_text
  unwrapped-write i v c = rw (c, choice_text)

-- ---- what is taken

or_none : (b : Bool) → (b || false) ≡ b
or_none true = refl
or_none false = refl

record Any {A : Type 0} (a : A) (ws : List ValueRow) (q o : ℕ) : Type 0 where

any : {A : Type 0} (x : Took A) → After Any x
any (took a ws q o) = record {}
any (wrong q) = tt

module _ (t : Table) (r : ℕ) (b : Bool) where
  -- a value of the type at r whose text is null, or is not
  record Null (v : Val) (ws : List ValueRow) (q o : ℕ) : Type 0 where
    is : IsNull (write v t r) b

  right-null : (c : Bool) (v : Val) (ws : List ValueRow) (q o : ℕ) → IsNull (write v t r) b → After Null (right_row c v ws q o)
  unfolding right_row
  right-null true v ws q o h = record { is = h }
  right-null false v ws q o h = tt

  leaf-null : (c : Bool) (v : Val) (w : ValueRow) (ws : List ValueRow) (q o : ℕ) → IsNull (write v t r) b → After Null (leaf c v w ws q o)
  unfolding leaf
  leaf-null c v w ws q o h = right-null _ v ws q o h

  string-null : (text : Bool) (pool : List ℕ) (w : ValueRow) (ws : List ValueRow) (q o : ℕ) → ((s : List ℕ) → IsNull (write (v_bytes s) t r) b) → After Null (string_row text pool w ws q o)
  unfolding string_row
  string-null text pool w ws q o h = after_if Null (eqb w.a o && (leb (o + w.b) (length pool) && eqb w.size 1)) _ q (λ _. after_if Null (not text || utf8 (take w.b (drop o pool))) _ q (λ _. record { is = h _ }))

  bracket-null : (i : Option Taker) (good : Bool) (q : ℕ) (F : Taker → Took Val) → ((f : Taker) → After Null (F f)) → After Null (in_bracket i good q F)
  unfolding in_bracket
  bracket-null None good q F h = tt
  bracket-null (Some f) good q F h = after_if Null good (F f) q (λ _. h f)

  module _ (w : ValueRow) (ws : List ValueRow) (q o : ℕ) (f : Taker) where
    seq_null : ((ps : Parts) → IsNull (write (v_seq ps) t r) b) → After Null (take_sequence t r w ws q o f)
    unfolding take_sequence
    seq_null h = after_then Any Null _ _ (any (take_parts f t r 0 (count_of t r) ws (suc q) o)) (λ ps ws' q' o' y. after_if Null (eqb w.a (count_present ps) && eqb w.size (q' - q)) _ q (λ _. record { is = h ps }))

    sized-null : (x : Took Val) → After Null x → After Null (sized w q true x)
    unfolding sized
    sized-null x h = after_then Null Null x _ h (λ v ws' q' o' y. after_if Null (true && eqb w.size (q' - q)) _ q (λ _. record { is = y.is }))

    list-null : ((vs : Vals) → IsNull (write (v_list vs) t r) b) → After Null (take_list t r w ws q o f)
    unfolding take_list
    list-null h = sized-null _ (after_then Any Null _ _ (any (take_items f (element_of t r) w.a ws (suc q) o)) (λ vs ws' q' o' y. record { is = h vs }))

    choice-null : (P : Val → List ValueRow → ℕ → ℕ → Type 0) → After P (f (type_at t r w.a) ws (suc q) o) → ((v : Val) (us : List ValueRow) (p u : ℕ) → P v us p u → IsNull (write (v_choice w.a v) t r) b) → After Null (take_choice t r w ws q o f)
    unfolding take_choice
    choice-null P g h = sized-null _ (after_then P Null _ _ g (λ v ws' q' o' y. record { is = h v ws' q' o' y }))

module _ (t : Table) (pool : List ℕ) where
  -- a row of a type that is not UNWRAPPED
  row-null : (i : Option Taker) (r : ℕ) (w : ValueRow) (ws : List ValueRow) (q o : ℕ) → is_unwrapped t r ≡ false → After (Null t r (eqb (kind_of t r) NULL)) (take_row i t pool r w ws q o)
  unfolding take_row
  row-null i r w ws q o u =
      let b = eqb (kind_of t r) NULL in
      after_if (Null t r b) (eqb w.kind (tag_of t r)) _ q (λ e.
      let other : (kind_of t r ≡ NULL → ⊥) → b ≡ false = λ n. ne_eqb (kind_of t r) NULL n in
      pick-within (After (Null t r b)) (kind_of t r) _ (wrong q)
      ((λ j. leaf-null t r b _ _ w ws q o (bool_write t r _ ∙ sym (other (λ x. omega arith))))
      ⨾ (λ j. right-null t r b _ _ ws q o (int-write t r _ ∙ sym (other (λ x. omega arith))))
      ⨾ (λ j. leaf-null t r b _ _ w ws q o (enum_write t r _ ∙ sym (other (λ x. omega arith))))
      ⨾ (λ j. leaf-null t r b _ _ w ws q o (null-write t r ∙ sym (eq-eqb (kind_of t r) NULL (omega arith))))
      ⨾ (λ j. string-null t r b false pool w ws q o (λ s. bytes-write t r s ∙ sym (other (λ x. omega arith))))
      ⨾ (λ j. string-null t r b true pool w ws q o (λ s. bytes-write t r s ∙ sym (other (λ x. omega arith))))
      ⨾ (λ j. bracket-null t r b i _ q _ (λ f. seq_null t r b w ws q o f (λ ps. seq_write t r ps ∙ sym (other (λ x. omega arith)))))
      ⨾ (λ j. bracket-null t r b i _ q _ (λ f. list-null t r b w ws q o f (λ vs. list-write t r vs ∙ sym (other (λ x. omega arith)))))
      ⨾ (λ j. bracket-null t r b i _ q _ (λ f. choice-null t r b w ws q o f Any (any (f (type_at t r w.a) ws (suc q) o)) (λ v us p z y. wrapped-write t r _ v u ∙ sym (other (λ x. omega arith)))))
      ⨾ tt)
      tt)

  plain-null : (i : Option Taker) (r : ℕ) (ws : List ValueRow) (q o : ℕ) → is_unwrapped t r ≡ false → After (Null t r (eqb (kind_of t r) NULL)) (on_row (λ w us. take_row i t pool r w us q o) ws q)
  unfolding on_row
  plain-null i r [] q o u = tt
  plain-null i r (w ∷ ws) q o u = row-null i r w ws q o u

  unwrapped-null : Wrapped t → (i : Option Taker) (r : ℕ) (ws : List ValueRow) (q o : ℕ) → is_unwrapped t r ≡ true → After (Null t r (null_next t r ws)) (on_row (λ w us. take_unwrapped i t pool r w us q o) ws q)
  unfolding on_row take_unwrapped null_next
  unwrapped-null g i r [] q o u = tt
  unwrapped-null g i r (w ∷ ws) q o u =
      let b = null_next t r (w ∷ ws) in
      after_if (Null t r b) (eqb w.kind CHOICE && (ltb w.a (count_of t r) && eqb w.b 0)) _ q (λ e.
      let p = simp both at e in
      let c = g r w.a u (ltb-true w.a (count_of t r) p.1.0) in
      let n : eqb (kind_of t r) NULL ≡ false = ne_eqb (kind_of t r) NULL (λ x. omega (arith, unwrapped-kind t r u)) in
      let m : eqb (kind_of t (type_at t r w.a)) NULL ≡ (eqb (kind_of t r) NULL || (is_unwrapped t r && eqb (kind_of t (type_at t r w.a)) NULL)) = rw (n, u) in
      choice-null t r b w ws q o _ _ (plain-null i _ ws (suc q) o c) (λ v us p z y. ap (λ (s : List ℕ). same_bytes s null_text) (unwrapped-write t r w.a v u) ∙ y.is ∙ m))

  -- what is taken of a value is null as the rows say
  pub value-null : Wrapped t → (d r : ℕ) (ws : List ValueRow) (q o : ℕ) (v : Val) (us : List ValueRow) (p z : ℕ) → take_value d t pool r ws q o ≡ took v us p z → IsNull (write v t r) (null_next t r ws)
  unfolding on_row null_next
  value-null g d r ws q o v us p z e = of (take_value d t pool r ws q o) (go (is_unwrapped t r) refl) e
    where
      plain : is_unwrapped t r ≡ false → (ws : List ValueRow) → After (Null t r (eqb (kind_of t r) NULL)) (on_row (λ w us. take_row (inner d t pool) t pool r w us q o) ws q) → After (Null t r (null_next t r ws)) (on_row (λ w us. take_row (inner d t pool) t pool r w us q o) ws q)
      plain c [] h = tt
      plain c (w ∷ ws) h = rw (c, or_none (eqb (kind_of t r) NULL)) h

      go : (c : Bool) → is_unwrapped t r ≡ c → After (Null t r (null_next t r ws)) (take_value d t pool r ws q o)
      go false c = rw (take-plain t pool d r ws q o c) (plain c ws (plain-null (inner d t pool) r ws q o c))
      go true c = rw (take-unwrapped t pool d r ws q o c) (unwrapped-null g (inner d t pool) r ws q o c)

      of : (x : Took Val) → After (Null t r (null_next t r ws)) x → x ≡ took v us p z → IsNull (write v t r) (null_next t r ws)
      of x h e = (rw e at h).is
