-- Values without parts: what stands at the place reads as the leaf, and the words are its own.
use Prim.Native.Nat.{ℕ, ◌+◌, ◌*◌, ◌/◌, ◌%◌, ◌^◌, ◌<◌, ◌≤◌}
use mathlib.Core.Path.{◌≡◌, refl, sym, ap, ◌∙◌}
use mathlib.Core.List.{List, []}
use mathlib.Core.Bool.{Bool, true, false}
use Rattle.std.specs.Prelude.{Option, None, Some}
use native.Mathlib.Nat.{mod-eq_of_lt}
use native.Mathlib.Omega.{arith}
use lib.ListN.{length, take, drop}
use Rattle.json_text.specs.Tree.{Json, jnull, jbool, jint, jstr}
use Rattle.json_text.specs.Grammar as grammar
use Rattle.json_text.specs.Grammar.{Value, Quoted}
use Rattle.jer.specs.Table.{Table, position, kind_of, is_base64, BOOLEAN, INTEGER, ENUMERATED, NULL, OCTET-STRING, UTF8String}
use Rattle.jer.specs.Value.{Leaf, l_bool, l_int, l_enum, l_null, l_bytes, Val, v_leaf}
use Rattle.jer.specs.Answer.{ok}
use Rattle.jer.specs.Read.{read, octets_of}
use Rattle.tokens.specs.Strings.{denoted}
use Rattle.std.specs.Option.{option_map}
use Rattle.jer.specs.Rows.{bit, leaf_pool}
use Rattle.spelled.specs.Stretch.{Passed}
use Rattle.spelled.specs.Leaves.{IntegerAt, StringAt}
use Rattle.spelled.specs.Octets.{OctetsAre}
use Rattle.jer.specs.Octets.{unhex, unbase64}
use Rattle.spelled.proofs.ReadLaws.{read-null, read_bool, read_int_lem, read-item, read-utf8, read-hex, read-base64}
use Rattle.quick.specs.declared.bare.Words as declared-leaf
use Rattle.quick.specs.Stood.{Stood}
use Rattle.quick.specs.Tape.{Words, in_row, in_text, in_hex, in_base64, in_escaped}
use Rattle.quick.specs.Taken.{LeafTaken}
use Rattle.spelled.proofs.StringLaws.{string_denotes}

-- the four numbers of an answer
abbrev pub Answers : ℕ → ℕ → ℕ → ℕ → declared-leaf.Words → Type 0
Answers next a b pool g = (g.next ≡ next) × (g.a ≡ a) × (g.b ≡ b) × (g.pool ≡ pool)

-- ---- the kinds that the row holds

in-row : (t : Table) (s : List ℕ) (r p : ℕ) (l : Leaf) (g : declared-leaf.Words) (n a b : ℕ) → Answers n a b 0 g → ((d : ℕ) → Stood t s d r p n (v_leaf l)) → Words s t r l a b → leaf_pool l ≡ [] → p < n → n ≤ length s → LeafTaken t s r p g
in-row t s r p l g n a b w k x o h i =
    record {
      leaf = l;
      stood = λ d. rw w.0 (k d);
      words = rw (w.1, w.2) x;
      pool = w.3 ∙ rw o refl;
      ahead = omega (arith, w.0);
      placed = omega (arith, w.0);
      few = omega (arith, w.0, w.3);
    }

passed-stood : (t : Table) (s : List ℕ) (r p n : ℕ) (j : Json) (v : Val) → read j t r ≡ ok v → ((d : ℕ) → Passed (Value d p j) s p n) → (d : ℕ) → Stood t s d r p n v
passed-stood t s r p n j v e f d = record { tree = j; here = (f d).stretch; reads = e }

pub null-leaf : {t : Table} {s : List ℕ} {r p n : ℕ} {g : declared-leaf.Words} → kind_of t r ≡ NULL → ((d : ℕ) → Passed (Value d p (jnull p)) s p n) → Answers n 0 0 0 g → LeafTaken t s r p g
null-leaf {t} {s} {r} {p} {n} {g} e k w =
    in-row t s r p l_null g n 0 0 w (passed-stood t s r p n (jnull p) (v_leaf l_null) (read-null t r p e) k) (in_row (omega arith) refl (λ o. refl)) refl (k 0).ahead (k 0).inside

pub bool_leaf : {t : Table} {s : List ℕ} {r p n a : ℕ} {g : declared-leaf.Words} (b : Bool) → bit b ≡ a → kind_of t r ≡ BOOLEAN → ((d : ℕ) → Passed (Value d p (jbool p b)) s p n) → Answers n a 0 0 g → LeafTaken t s r p g
bool_leaf {t} {s} {r} {p} {n} {a} {g} b i e k w =
    in-row t s r p (l_bool b) g n a 0 w (passed-stood t s r p n (jbool p b) (v_leaf (l_bool b)) (read_bool t r p b e) k) (in_row {l = l_bool b} {a = a} {b = 0} (omega arith) refl (λ o. rw i)) refl (k 0).ahead (k 0).inside

pub integer_leaf : {t : Table} {s : List ℕ} {r p n a b : ℕ} {g : declared-leaf.Words} → kind_of t r ≡ INTEGER → IntegerAt s p n a b → Answers n a b 0 g → LeafTaken t s r p g
integer_leaf {t} {s} {r} {p} {n} {a} {b} {g} e k w =
    let y = k.passed.stretch in
    in-row t s r p (l_int k.number) g n a b w
    (λ d. record { tree = jint p k.minus k.magnitude; here = record { bytes = y.bytes; holds = grammar.whole y.holds; text = y.text; end = y.end }; reads = read_int_lem t r p k.magnitude k.number k.minus e k.reads })
    (in_row {l = l_int k.number} {a = a} {b = b} (omega arith) refl (λ o. rw (k.lower, k.upper))) refl k.passed.ahead k.passed.inside

-- ---- strings

text-leaf : (t : Table) (s : List ℕ) (r p n a b c : ℕ) (e' : Bool) (g : declared-leaf.Words) → kind_of t r ≡ UTF8String → StringAt s p n c e' → a ≡ p → b % 2 ^ 31 ≡ c → (b < 2 ^ 31 → (e' ≡ false) × (b ≡ c)) → Answers n a b c g → LeafTaken t s r p g
text-leaf t s r p n a b c e' g e k ea eb pl w =
    let y = k.passed.stretch in
    record {
      leaf = l_bytes k.chars;
      stood = λ d. rw w.0 (record { tree = jstr p k.chars; here = record { bytes = y.bytes; holds = grammar.string y.holds; text = y.text; end = y.end }; reads = read-utf8 t r p k.chars e });
      words = rw (w.1, w.2, ea) (in_text e (record { end = n; quoted = y; size = eb ∙ k.size; plain = λ h. let q = pl h in (k.plain q.0).0 ∙ ap (λ (m : ℕ). take m (drop (p + 1) s)) (sym q.1) }));
      pool = w.3 ∙ k.size;
      ahead = omega (arith, w.0, k.passed.ahead);
      placed = omega (arith, w.0, k.passed.inside);
      few = omega (arith, w.0, w.3, k.few);
    }

pub plain-leaf : {t : Table} {s : List ℕ} {r p n a b c : ℕ} {e' : Bool} {g : declared-leaf.Words} → kind_of t r ≡ UTF8String → StringAt s p n c e' → a ≡ p → b ≡ c → c ≤ 65536 → e' ≡ false → Answers n a b c g → LeafTaken t s r p g
plain-leaf {t} {s} {r} {p} {n} {a} {b} {c} {e'} {g} e k ea eb l f w = text-leaf t s r p n a b c e' g e k ea (rw eb (mod-eq_of_lt (omega arith))) (λ _. (f, eb)) w

pub escaped-leaf : {t : Table} {s : List ℕ} {r p n a b c : ℕ} {e' : Bool} {g : declared-leaf.Words} → kind_of t r ≡ UTF8String → StringAt s p n c e' → a ≡ p → b ≡ c + 2147483648 → c ≤ 65536 → Answers n a b c g → LeafTaken t s r p g
escaped-leaf {t} {s} {r} {p} {n} {a} {b} {c} {e'} {g} e k ea eb l w = text-leaf t s r p n a b c e' g e k ea (rw eb (omega arith)) (λ h. absurd (omega arith)) w

-- ---- octets

octets-leaf : (t : Table) (s : List ℕ) (r p n c : ℕ) (e' : Bool) (os : List ℕ) (g : declared-leaf.Words) (a b m : ℕ) (w : StringAt s p n c e') → read (jstr p w.chars) t r ≡ ok (v_leaf (l_bytes os)) → Words s t r (l_bytes os) a b → m ≡ length os → m ≤ c
    → Answers n a b m g → LeafTaken t s r p g
octets-leaf t s r p n c e' os g a b m w e x f l q =
    let y = w.passed.stretch in
    record {
      leaf = l_bytes os;
      stood = λ d. rw q.0 (record { tree = jstr p w.chars; here = record { bytes = y.bytes; holds = grammar.string y.holds; text = y.text; end = y.end }; reads = e });
      words = rw (q.1, q.2) x;
      pool = q.3 ∙ f;
      ahead = omega (arith, q.0, w.passed.ahead);
      placed = omega (arith, q.0, w.passed.inside);
      few = omega (arith, q.0, q.3, w.few);
    }

module _ {t : Table} {s : List ℕ} {r p n c m : ℕ} {e' : Bool} {g : declared-leaf.Words} (kd : kind_of t r ≡ OCTET-STRING) (w : StringAt s p n c e') (pl : e' ≡ false) {x : Bool} (bx : x ≡ is_base64 t r) where
  pub hex-leaf : x ≡ false → OctetsAre unhex (take c (drop (p + 1) s)) m → c ≡ m * 2 → c ≤ 65536 → Answers n p m m g → LeafTaken t s r p g
  hex-leaf xf k e l q =
      let y = w.plain pl in
      octets-leaf t s r p n c e' k.octets g p m m w (read-hex t r p w.chars k.octets kd (sym bx ∙ xf) (ap unhex y.0 ∙ k.decoded))
      (in_hex kd (sym bx ∙ xf) (ap (λ (z : ℕ). unhex (take z (drop (p + 1) s))) (sym e) ∙ k.decoded) k.size (omega (arith, y.1, w.passed.inside))) k.size (omega arith) q

  pub base64-leaf : {b : ℕ} → x ≡ true → OctetsAre unbase64 (take c (drop (p + 1) s)) m → m ≤ c → c ≤ 32767 → b ≡ c * 65536 + m → Answers n p b m g → LeafTaken t s r p g
  base64-leaf {b} xt k l h eb q =
      let y = w.plain pl in
      let d : b / 65536 ≡ c = omega arith in
      let d' : b % 65536 ≡ m = omega arith in
      octets-leaf t s r p n c e' k.octets g p b m w (read-base64 t r p w.chars k.octets kd (sym bx ∙ xt) (ap unbase64 y.0 ∙ k.decoded))
      (in_base64 kd (sym bx ∙ xt) (ap (λ (z : ℕ). unbase64 (take z (drop (p + 1) s))) d ∙ k.decoded) (d' ∙ k.size) (omega (arith, y.1, w.passed.inside)) (omega arith)) k.size l q

record SomeOctets (x : Option (List ℕ)) (m : ℕ) : Type 0 where
  octets : List ℕ
  is : x ≡ Some octets
  size : m ≡ length octets

read-octets : (t : Table) (r p : ℕ) (x os : List ℕ) → kind_of t r ≡ OCTET-STRING → octets_of t r x ≡ Some os → read (jstr p x) t r ≡ ok (v_leaf (l_bytes os))
unfolding octets_of
read-octets t r p x os e h = go (is_base64 t r) refl h
  where
    go : (b : Bool) → is_base64 t r ≡ b → ◌≡◌ {A = Option (List ℕ)} (elim b [ true ↦ unbase64 x | false ↦ unhex x ]) (Some os) → read (jstr p x) t r ≡ ok (v_leaf (l_bytes os))
    go true w k = read-base64 t r p x os e w k
    go false w k = read-hex t r p x os e w k

octets-some : (x : Option (List ℕ)) {m : ℕ} → Some m ≡ option_map length x → SomeOctets x m
octets-some None h = absurd (let z : ◌≡◌ {A = ℕ} 0 1 = cc in omega arith)
octets-some (Some os) h = record { octets = os; is = refl; size = cc }

pub escaped-octets : {t : Table} {s : List ℕ} {r p n c m b : ℕ} {e' : Bool} {g : declared-leaf.Words} → kind_of t r ≡ OCTET-STRING → (w : StringAt s p n c e') → Some m ≡ option_map length (octets_of t r (denoted s (p + 1))) → m ≤ c → b ≡ m + 2147483648 → p ≤ 65536 → Answers n p b m g
    → LeafTaken t s r p g
escaped-octets {t} {s} {r} {p} {n} {c} {m} {b} {e'} {g} kd w h l eb pl q =
    let k = octets-some _ h in
    octets-leaf t s r p n c e' k.octets g p b m w (read-octets t r p w.chars k.octets kd (ap (λ (y : List ℕ). octets_of t r y) (sym (string_denotes s p n c e' w)) ∙ k.is)) (in_escaped kd k.is (omega (arith, k.size)) pl) k.size l q

-- ---- an item

pub item-leaf : {t : Table} {s : List ℕ} {r p n k c : ℕ} {e' : Bool} {g : declared-leaf.Words} → kind_of t r ≡ ENUMERATED → (w : StringAt s p n c e') → position t r w.chars ≡ Some k → Answers n k 0 0 g → LeafTaken t s r p g
item-leaf {t} {s} {r} {p} {n} {k} {c} {e'} {g} e w q a =
    let y = w.passed.stretch in
    in-row t s r p (l_enum k) g n k 0 a
    (λ d. record { tree = jstr p w.chars; here = record { bytes = y.bytes; holds = grammar.string y.holds; text = y.text; end = y.end }; reads = read-item t r p w.chars k e q })
    (in_row {l = l_enum k} {a = k} {b = 0} (omega arith) refl (λ o. refl)) refl w.passed.ahead w.passed.inside

-- ---- the two booleans

pub bool_true : {t : Table} {s : List ℕ} {r p n : ℕ} {g : declared-leaf.Words} → kind_of t r ≡ BOOLEAN → ((d : ℕ) → Passed (Value d p (jbool p true)) s p n) → Answers n 1 0 0 g → LeafTaken t s r p g
unfolding bit
bool_true e f w = bool_leaf true refl e f w

pub bool_false : {t : Table} {s : List ℕ} {r p n : ℕ} {g : declared-leaf.Words} → kind_of t r ≡ BOOLEAN → ((d : ℕ) → Passed (Value d p (jbool p false)) s p n) → Answers n 0 0 0 g → LeafTaken t s r p g
unfolding bit
bool_false e f w = bool_leaf false refl e f w
