-- Spelled values, and those that are leaves: the written text and what the newer table reads it as.
use Prim.Native.Nat.{ℕ, ◌<◌, ◌^◌}
use mathlib.Core.Path.{◌≡◌, refl, ◌∙◌}
use mathlib.Core.List.{List}
use mathlib.Core.Bool.{Bool, true, false}
use native.Mathlib.Omega.{arith}
use borrow.Author.Tests.{eq-eqb, ne_eqb}
use Rattle.json_text.specs.Utf8.{utf8}
use Rattle.json_text.specs.Tree.{Json, jnull, jbool, jint, jstr}
use Rattle.json_text.specs.Grammar.{quoted, Value, literal_null, literal_true, literal_false, whole, string}
use Rattle.jer.specs.Table.{Table, BOOLEAN, INTEGER, ENUMERATED, NULL, OCTET-STRING, UTF8String, kind_of, is_type, is_base64, count_of, name_at}
use Rattle.jer.specs.Value.{Leaf, Val, v_leaf, v_bool, v_int, v_enum, v_null, v_bytes}
use Rattle.jer.specs.Answer.{ok}
use Rattle.jer.specs.Octets.{hex, base64}
use Rattle.jer.specs.Read.{octets_of, read}
use Rattle.jer.specs.Fits.{Octets, FitsLeaf, f_bool, f_int, f_enum, f_null, f_octets, f_text}
use Rattle.jer.specs.Write.{null_text, bool_text, quotes, bytes_text, write}
use Rattle.jer.specs.Cut.{ByAdditions, grow}
use Rattle.jer.specs.Sane.{Sane}
use Rattle.jer.proofs.OlderNames.{base64-same}
use Rattle.jer.proofs.SpellString.{string-quoted}
use Rattle.jer.proofs.SpellNumber.{integer_spelled}
use Rattle.jer.proofs.SpellOctets.{unhex-hex, hex-chars, unbase64-base64, base64-chars}
use Rattle.jer.proofs.SpellRead.{null-read, bool_read, int-read, item-read, octets-read, text-read}
use Rattle.jer.proofs.ValidRows.{enumerated-type}
use Rattle.jer.proofs.SpellPaired.{kind-new, position-new}

-- the text at p of a value of the older's row b, and what each of the newer's rows that are paired with b reads it as
pub record Spelled {new old : Table} {R : ℕ → ℕ → Type 0} (pair : ByAdditions new old R) (d p b : ℕ) (v : Val) : Type 0 where
  pub tree : Json
  pub text : Value d p tree (write v old b)
  pub reads : (a : ℕ) → R a b → read tree new a ≡ ok (grow v new a)

module _ {new old : Table} {R : ℕ → ℕ → Type 0} (pair : ByAdditions new old R) {d p b : ℕ} where
  spell-null : kind_of old b ≡ NULL → Spelled pair d p b v_null
  unfolding write null_text grow
  spell-null k = record { tree = jnull p; text = literal_null; reads = λ a r. null-read new a p (kind-new pair r NULL k) }

  spell_bool : {c : Bool} → kind_of old b ≡ BOOLEAN → Spelled pair d p b (v_bool c)
  unfolding write bool_text grow
  spell_bool {c = true} k = record { tree = jbool p true; text = literal_true; reads = λ a r. bool_read new a p true (kind-new pair r BOOLEAN k) }
  spell_bool {c = false} k = record { tree = jbool p false; text = literal_false; reads = λ a r. bool_read new a p false (kind-new pair r BOOLEAN k) }

  spell-int : {n : ℕ} → kind_of old b ≡ INTEGER → n < 2 ^ 64 → Spelled pair d p b (v_int n)
  unfolding write grow
  spell-int {n} k h =
      let s = integer_spelled n h in
      record { tree = jint p s.sign s.size; text = whole s.text; reads = λ a r. int-read new a p s.sign s.size (kind-new pair r INTEGER k) ∙ s.reads p }

  spell_enum : {i : ℕ} → Sane new → Sane old → kind_of old b ≡ ENUMERATED → i < count_of old b → Spelled pair d p b (v_enum i)
  unfolding write grow
  spell_enum {i} gn gO k u =
      let t : is_type old b ≡ true = enumerated-type old b k in
      record {
        tree = jstr p (name_at old b i);
        text = string (string-quoted (name_at old b i) (gO.named b i t u));
        reads = λ a r. item-read new a p (name_at old b i) i (kind-new pair r ENUMERATED k) (position-new pair r gn t i u);
      }

  spell-octets : {s : List ℕ} → kind_of old b ≡ OCTET-STRING → Octets s → Spelled pair d p b (v_bytes s)
  unfolding write bytes_text quotes grow octets_of
  spell-octets {s} k h = go (is_base64 old b) refl
    where
      go : (c : Bool) → is_base64 old b ≡ c → Spelled pair d p b (v_bytes s)
      go true e =
          record {
            tree = jstr p (base64 s);
            text = rw (ne_eqb (kind_of old b) UTF8String (λ z. omega arith), bytes_text, e) (string (quoted (base64-chars s) refl));
            reads = λ a r. octets-read new a p (base64 s) s (kind-new pair r OCTET-STRING k) (rw (base64-same pair r ∙ e, octets_of) (unbase64-base64 s h));
          }
      go false e =
          record {
            tree = jstr p (hex s);
            text = rw (ne_eqb (kind_of old b) UTF8String (λ z. omega arith), bytes_text, e) (string (quoted (hex-chars h) refl));
            reads = λ a r. octets-read new a p (hex s) s (kind-new pair r OCTET-STRING k) (rw (base64-same pair r ∙ e, octets_of) (unhex-hex s h));
          }

  spell-text : {s : List ℕ} → kind_of old b ≡ UTF8String → utf8 s ≡ true → Spelled pair d p b (v_bytes s)
  unfolding write bytes_text grow
  spell-text {s} k h = record { tree = jstr p s; text = rw (eq-eqb _ _ k, bytes_text) (string (string-quoted s h)); reads = λ a r. text-read new a p s (kind-new pair r UTF8String k) }

  pub spell-leaf : {l : Leaf} → Sane new → Sane old → FitsLeaf old b l → Spelled pair d p b (v_leaf l)
  spell-leaf gn gO (f_bool k) = spell_bool k
  spell-leaf gn gO (f_int k h) = spell-int k h
  spell-leaf gn gO (f_enum k u) = spell_enum gn gO k u
  spell-leaf gn gO (f_null k) = spell-null k
  spell-leaf gn gO (f_octets k h) = spell-octets k h
  spell-leaf gn gO (f_text k h) = spell-text k h
