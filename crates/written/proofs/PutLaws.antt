-- Pieces of text, one after the other.
use mathlib.Core.Path.{◌≡◌, refl, sym, ap, ◌∙◌}
use mathlib.Core.List.{List, [], ◌∷◌, ◌++◌, append_assoc, append-nil}
use mathlib.Core.Bool.{Bool, true, false}
use Prim.Native.Nat.{ℕ, zero, suc, ◌+◌, ◌-◌, ◌*◌, ◌<◌, ◌≤◌}
use native.Mathlib.Omega.{arith}
use native.Mathlib.Numerals.{add-one}
use native.Mathlib.Nat.{add-zero, add_comm}
use borrow.Author.Tests.{leb-true, leb-false}
use lib.Dec.{leb}
use lib.ListN.{length, length-append, get_or, take}
use lib.Seq.{sets, set_out, take-suc}
use Rattle.jer.specs.Table.{Table, member_row, name_in, name_at}
use Rattle.jer.specs.Calls.{amount}
use Rattle.jer.specs.Write.{null_text}
use Rattle.octets.proofs.AmountLaws.{amount-within, amount-over, amount_add}
use Rattle.octets.proofs.EncodeLaws.{hex-length, base64-length}
use Rattle.octets.proofs.EscapeLaws.{escapes-few}
use Rattle.slices.proofs.PartLaws.{sets_append}
use Rattle.written.specs.Text.{Puts, spelled, comma, nulls, name_text, lead}
use Rattle.written.specs.declared.put.Form.{Form}
use Rattle.written.specs.declared.put.Form.TheVariants.{Escaped, Hexadecimal, Base64}

-- ---- pieces

pub puts_none : (k : ℕ) (l : List ℕ) → k ≤ 18446744073709551615 → Puts [] k l l k
puts_none k l h = record { ends = sym (add-zero k) ∙ amount-within (k + 0) (omega arith); stands = λ _. refl }

pub puts_append : {x y : List ℕ} {k p e : ℕ} {l m n : List ℕ} → Puts x k l m p → Puts y p m n e → Puts (x ++ y) k l n e
puts_append {x} {y} {k} {p} {e} {l} {m} {n} f g =
    let w = length-append x y in
    record { ends = g.ends ∙ ap (λ (z : ℕ). amount (z + length y)) f.ends ∙ amount_add (k + length x) (length y) ∙ ap amount (let v : k + length x + length y ≡ k + length (x ++ y) = omega arith in v); stands = stand }
  where
    stand : k + length (x ++ y) ≤ 65536 → n ≡ sets l k (x ++ y)
    stand h =
        let w = length-append x y in
        let v = sym (amount-within (k + length x) (omega arith)) in
        let z : p ≡ k + length x = f.ends ∙ v in
        g.stands (omega arith) ∙ ap (λ (i : ℕ). sets m i y) z ∙ ap (λ (u : List ℕ). sets u (k + length x) y) (f.stands (omega arith)) ∙ sym (sets_append l k x y)

-- a text that is spelled otherwise
pub puts_as : {x y : List ℕ} {k e : ℕ} {l n : List ℕ} → x ≡ y → Puts x k l n e → Puts y k l n e
puts_as h f = rw h at f

-- one byte more of s
pub puts-next : (s : List ℕ) (j : ℕ) {k p e : ℕ} {l m n : List ℕ} → j < length s → Puts (take j s) k l m p → Puts (get_or s j 0 ∷ []) p m n e → Puts (take (j + 1) s) k l n e
puts-next s j h f g = puts_as (sym (ap (λ (i : ℕ). take i s) (add-one j) ∙ take-suc s j 0 h)) (puts_append f g)

pub no_comma : {n : ℕ} (k : ℕ) (l : List ℕ) → n ≡ 0 → k ≤ 18446744073709551615 → Puts (comma n) k l l k
unfolding comma
no_comma k l h m = rw h (puts_none k l m)

pub a_comma : {n k e : ℕ} {l m : List ℕ} → (n ≡ 0 → ⊥) → Puts (0x2C ∷ []) k l m e → Puts (comma n) k l m e
unfolding comma
a_comma {n = zero} h f = absurd (h refl)
a_comma {n = suc n} h f = f

nulls-more : (i m : ℕ) → nulls i (suc m) ≡ nulls i m ++ (comma (i + m) ++ null_text)
unfolding nulls
nulls-more i zero = rw (add-zero i) (ap (λ (s : List ℕ). comma i ++ s) (append-nil null_text))
nulls-more i (suc m) =
    let e : suc i + m ≡ i + suc m = omega arith in
    ap (λ (s : List ℕ). comma i ++ (null_text ++ s)) (nulls-more (suc i) m ∙ ap (λ (j : ℕ). nulls (suc i) m ++ (comma j ++ null_text)) e)
    ∙ sym (append_assoc (comma i) (null_text ++ nulls (suc i) m) _ ∙ ap (λ (s : List ℕ). comma i ++ s) (append_assoc null_text (nulls (suc i) m) _))

-- one null more, as the element at j
pub puts-null : (n j : ℕ) {k p p₁ e : ℕ} {l m m₁ o : List ℕ} → n ≤ j → Puts (nulls n (j - n)) k l m p → Puts (comma j) p m m₁ p₁ → Puts null_text p₁ m₁ o e → Puts (nulls n (j + 1 - n)) k l o e
puts-null n j h f g c =
    let a : suc (j - n) ≡ j + 1 - n = omega arith in
    let b : n + (j - n) ≡ j = omega arith in
    puts_as (append_assoc (nulls n (j - n)) (comma j) null_text ∙ ap (λ (x : ℕ). nulls n (j - n) ++ (comma x ++ null_text)) (sym b) ∙ sym (nulls-more n (j - n)) ∙ ap (nulls n) a) (puts_append (puts_append f g) c)

pub puts-nulls : (n j i : ℕ) {k e : ℕ} {l m : List ℕ} → j - n ≡ i - n → Puts (nulls n (j - n)) k l m e → Puts (nulls n (i - n)) k l m e
puts-nulls n j i h f = puts_as (ap (nulls n) h) f

pub puts-nulls-none : (n k : ℕ) (l : List ℕ) → k ≤ 18446744073709551615 → Puts (nulls n (n - n)) k l l k
unfolding nulls
puts-nulls-none n k l h = let e : n - n ≡ 0 = omega arith in rw e (puts_none k l h)

-- ---- what stands before a member

pub leads-array : (t : Table) (r i n : ℕ) {b : Bool} {k p e : ℕ} {l m o : List ℕ} → b ≡ true → Puts (nulls n (i - n)) k l m p → Puts (comma i) p m o e → Puts (lead b t r i n) k l o e
unfolding lead
leads-array t r i n h f g = rw h (puts_append f g)

pub leads-object : (t : Table) (r i n : ℕ) {x : ℕ} {s : List ℕ} {b : Bool} {k p e : ℕ} {l m o : List ℕ} → b ≡ false → Puts (comma n) k l m p → x ≡ member_row t r i → s ≡ name_in t x → Puts (name_text s) p m o e → Puts (lead b t r i n) k l o e
unfolding lead name_at
leads-object t r i n h f a c g = rw h (puts_append f (puts_as (ap name_text (c ∙ ap (name_in t) a)) g))

-- ---- pieces that are measured first

-- a piece that ends within the house size ends there
within : (n : ℕ) → amount n ≤ 65536 → n ≤ 65536
within n h = go (leb n 18446744073709551615) refl
  where
    go : (c : Bool) → leb n 18446744073709551615 ≡ c → n ≤ 65536
    go true e = omega (arith, amount-within n (leb-true n 18446744073709551615 e))
    go false e = let l = leb-false n 18446744073709551615 e in absurd (omega (arith, amount-over n (omega arith)))

-- its end, from its length, and from a length that is an amount
pub counted : (s : List ℕ) (k : ℕ) {n e : ℕ} → n ≡ length s → e ≡ amount (k + n) → e ≡ amount (k + length s)
counted s k f g = g ∙ ap (λ (x : ℕ). amount (k + x)) f

pub measured : (k m : ℕ) {n e : ℕ} → n ≡ amount m → e ≡ amount (k + n) → e ≡ amount (k + m)
measured k m {n} f g = g ∙ ap amount (add_comm k n) ∙ ap (λ (x : ℕ). amount (x + k)) f ∙ amount_add m k ∙ ap amount (add_comm m k)

pub fits : (s : List ℕ) (k : ℕ) {e : ℕ} → e ≡ amount (k + length s) → e ≤ 65536 → k + length s ≤ 65536
fits s k f h = within (k + length s) (omega arith)

pub puts-stored : {s : List ℕ} {k e : ℕ} {l m : List ℕ} → e ≡ amount (k + length s) → m ≡ sets l k s → Puts s k l m e
puts-stored f g = record { ends = f; stands = λ _. g }

sets_out : (l : List ℕ) (k : ℕ) (vs : List ℕ) → length l ≤ k → l ≡ sets l k vs
sets_out l k [] h = refl
sets_out l k (v ∷ vs) h = sets_out l (suc k) vs (omega arith) ∙ ap (λ (u : List ℕ). sets u (suc k) vs) (sym (set_out l k v h))

-- past the room nothing is stored
pub puts_nowhere : {s l : List ℕ} {k e : ℕ} → e ≡ amount (k + length s) → length l ≤ k → Puts s k l l e
puts_nowhere {s} {l} {k} h m = record { ends = h; stands = λ _. sets_out l k s m }

-- past the house size it may stand anywhere
pub puts-past : {s : List ℕ} {k e : ℕ} {l m : List ℕ} → e ≡ amount (k + length s) → 65536 < k + length s → Puts s k l m e
puts-past f h = record { ends = f; stands = λ z. absurd (omega arith) }

-- a spelled string is no shorter than its bytes, and at most six times as long
pub spelled_few : (f : Form) (s : List ℕ) → (length s ≤ length (spelled f s)) × (length (spelled f s) ≤ 6 * length s)
unfolding spelled
spelled_few Escaped s = escapes-few s
spelled_few Hexadecimal s = (omega (arith, hex-length s), omega (arith, hex-length s))
spelled_few Base64 s = (omega (arith, base64-length s), omega (arith, base64-length s))
