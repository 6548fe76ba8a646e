-- SEQUENCE as an array: its elements in member order, one more at a time, and their parts.
use Prim.Native.Nat.{ℕ, zero, suc, ◌+◌, ◌<◌, ◌≤◌}
use mathlib.Core.Path.{◌≡◌, refl, sym, ap, ◌∙◌}
use mathlib.Core.List.{List, [], ◌∷◌, ◌++◌, append_assoc, append-nil}
use mathlib.Core.Bool.{true, false, ◌&&◌}
use native.Mathlib.Numerals.{add-one}
use native.Mathlib.Omega.{arith}
use lib.Dec.{eqb}
use lib.ListN.{length}
use Rattle.json_text.specs.Bytes.{past}
use Rattle.json_text.specs.Tree.{Json, jarr, Items, inil, icons, isnoc, place_of}
use Rattle.json_text.specs.Grammar as grammar
use Rattle.json_text.specs.Grammar.{Padded, padded, Elements, last_element, more_elements, no_elements}
use Rattle.json_text.proofs.TakesTree.{iapp, iapp_snoc}
use Rattle.jer.specs.Table.{Table, kind_of, is_unwrapped, is_array, extensible, count_of, type_at, may_miss, SEQUENCE, SEQUENCE-OF}
use Rattle.jer.specs.Value.{Val, v_seq, Parts, pnil, absent, present, count_present}
use Rattle.jer.specs.Answer.{ok, bind}
use Rattle.jer.specs.Read.{Element, null?, read, elements, with_absent, with_present, read_element, read_elements, surplus, read_array, unwrapping}
use Rattle.tokens.specs.Places.{byte_at}
use Rattle.tokens.proofs.TiePlace.{past_append}
use Rattle.spelled.specs.Stretch.{Stretch}
use Rattle.quick.specs.Stood.{Spaces, TreeAt, Stood}
use Rattle.quick.proofs.ListLaws.{byte_drop}
use Rattle.quick.proofs.PartLaws.{set_part, Free, free, past_absent, past_present}
use Rattle.quick.proofs.TapeLaws.{no_parts}
use Rattle.quick.proofs.ObjectLaws.{not-unwrapped}

-- ---- the parts and the elements

-- the parts from the position i on are those of the elements; those without an element are absent
pub data Filled (t : Table) (r : ℕ) : List Element → ℕ → Parts → Type 0 where
  no_part : {es : List Element} {i : ℕ} → i ≡ count_of t r → Filled t r es i pnil
  lacking : {i : ℕ} {ps : Parts} → i < count_of t r → Filled t r [] (suc i) ps → Filled t r [] i (absent ps)
  nulled : {e : Element} {es : List Element} {i : ℕ} {ps : Parts} → i < count_of t r → (e.is_null && may_miss t r i) ≡ true → Filled t r es (suc i) ps → Filled t r (e ∷ es) i (absent ps)
  valued : {e : Element} {es : List Element} {i : ℕ} {ps : Parts} {v : Val} → i < count_of t r → (e.is_null && may_miss t r i) ≡ false → e.means (type_at t r i) ≡ ok v → Filled t r es (suc i) ps
      → Filled t r (e ∷ es) i (present v ps)

surplus-good : (t : Table) (r : ℕ) (es : List Element) → (0 < length es → extensible t r ≡ true) → surplus t r es ≡ ok pnil
unfolding surplus
surplus-good t r [] f = refl
surplus-good t r (e ∷ es) f = rw (f (omega arith), surplus)

pub filled-read : {t : Table} {r i : ℕ} {es : List Element} {ps : Parts} (o n : ℕ) → Filled t r es i ps → ((q : ℕ) → i + length es ≤ q → q < count_of t r → may_miss t r q ≡ true) → (count_of t r < i + length es → extensible t r ≡ true) → i + n ≡ count_of t r
    → read_elements t r o es i n ≡ ok ps
unfolding read_elements read_element with_absent with_present bind
filled-read {t} {r} {i} o zero (no_part {es = es} e) f x h = readless t r o es i (surplus-good t r es (λ l. x (omega arith)))
  where
    readless : (t : Table) (r o : ℕ) (es : List Element) (i : ℕ) → surplus t r es ≡ ok pnil → read_elements t r o es i zero ≡ ok pnil
    readless t r o [] i h = h
    readless t r o (e ∷ es) i h = h
filled-read o (suc n) (no_part e) f x h = absurd (omega arith)
filled-read o zero (lacking l k) f x h = absurd (omega arith)
filled-read {t} {r} {i} o (suc n) (lacking l k) f x h = rw (f i (omega arith) l, read_element, filled-read o n k (λ q a b. f q (omega arith) b) (λ a. x (omega arith)) (omega arith))
filled-read o zero (nulled l a k) f x h = absurd (omega arith)
filled-read o (suc n) (nulled l a k) f x h = rw (a, read_element, filled-read o n k (λ q c b. f q (omega arith) b) (λ c. x (omega arith)) (omega arith))
filled-read o zero (valued l a c k) f x h = absurd (omega arith)
filled-read o (suc n) (valued l a c k) f x h = rw (a, read_element, c, filled-read o n k (λ q c b. f q (omega arith) b) (λ c. x (omega arith)) (omega arith))

pub filled_none : (t : Table) (r i n : ℕ) → i + n ≡ count_of t r → Filled t r [] i (no_parts n)
unfolding no_parts
filled_none t r i zero e = let g : i ≡ count_of t r = omega arith in no_part g
filled_none t r i (suc n) e = let g : i < count_of t r = omega arith in lacking g (filled_none t r (suc i) n (omega arith))

-- one element more, at the position m
module _ {t : Table} {r : ℕ} (e : Element) (m : ℕ) where
  pub filled-nulled : {es : List Element} {i : ℕ} {ps : Parts} → Filled t r es i ps → i + length es ≡ m → m < count_of t r → (e.is_null && may_miss t r m) ≡ true → Filled t r (es ++ (e ∷ [])) i ps
  filled-nulled (no_part f) h l w = absurd (omega arith)
  filled-nulled (lacking {i = i} a k) h l w = let z : i ≡ m = omega arith in nulled a (ap (λ (y : ℕ). e.is_null && may_miss t r y) z ∙ w) k
  filled-nulled (nulled a b k) h l w = nulled a b (filled-nulled k (omega arith) l w)
  filled-nulled (valued a b c k) h l w = valued a b c (filled-nulled k (omega arith) l w)

  pub filled-valued : {es : List Element} {i : ℕ} {ps : Parts} (v : Val) → Filled t r es i ps → i + length es ≡ m → m < count_of t r → (e.is_null && may_miss t r m) ≡ false → e.means (type_at t r m) ≡ ok v
      → Filled t r (es ++ (e ∷ [])) i (set_part ps (length es) v)
  unfolding set_part
  filled-valued v (no_part f) h l w x = absurd (omega arith)
  filled-valued v (lacking {i = i} a k) h l w x = let z : i ≡ m = omega arith in valued a (ap (λ (y : ℕ). e.is_null && may_miss t r y) z ∙ w) (ap (λ (y : ℕ). e.means (type_at t r y)) z ∙ x) k
  filled-valued v (nulled a b k) h l w x = nulled a b (filled-valued v k (omega arith) l w x)
  filled-valued v (valued a b c k) h l w x = valued a b c (filled-valued v k (omega arith) l w x)

  pub filled-surplus : {es : List Element} {i : ℕ} {ps : Parts} → Filled t r es i ps → count_of t r ≤ i + length es → Filled t r (es ++ (e ∷ [])) i ps
  filled-surplus (no_part f) h = no_part f
  filled-surplus (lacking a k) h = absurd (omega arith)
  filled-surplus (nulled a b k) h = nulled a b (filled-surplus k (omega arith))
  filled-surplus (valued a b c k) h = valued a b c (filled-surplus k (omega arith))

pub filled-free : {t : Table} {r : ℕ} {es : List Element} {i : ℕ} {ps : Parts} → Filled t r es i ps → i + length es < count_of t r → Free ps (length es)
filled-free (no_part f) h = absurd (omega arith)
filled-free (lacking a k) h = free
filled-free (nulled a b k) h = past_absent (filled-free k (omega arith))
filled-free (valued a b c k) h = past_present (filled-free k (omega arith))

pub filled-few : {t : Table} {r i : ℕ} {es : List Element} {ps : Parts} → Filled t r es i ps → i + count_present ps ≤ count_of t r
unfolding count_present
filled-few (no_part e) = omega arith
filled-few (lacking l k) = omega (arith, filled-few k)
filled-few (nulled l a k) = omega (arith, filled-few k)
filled-few (valued l a b k) = omega (arith, filled-few k)

-- ---- the text's elements

abbrev pub element_of : Table → Json → Element
element_of t j = record { place = place_of j; is_null = null? j; means = λ r. read j t r }

module _ (t : Table) (s : List ℕ) (d : ℕ) where
  pub padded-here : (a p q b : ℕ) (j : Json) → Spaces s a p → TreeAt s d p q j → Spaces s q b → Stretch (Padded d a j) s a b
  padded-here a p q b j x k y =
      record {
        bytes = x.bytes ++ (k.bytes ++ y.bytes);
        holds = padded x.holds (sym x.end) k.holds y.holds refl;
        text = x.text ∙ rw (k.text, y.text, append_assoc, append_assoc);
        end = rw (past_append a x.bytes (k.bytes ++ y.bytes), x.end, past_append p k.bytes y.bytes, k.end) y.end;
      }

  pub elems_last : (a b : ℕ) (j : Json) → Stretch (Padded d a j) s a b → byte_at s b ≡ 0x5D → Stretch (Elements d a (icons j inil)) s a (suc b)
  unfolding past
  elems_last a b j k h =
      record { bytes = k.bytes ++ (0x5D ∷ []); holds = last_element k.holds refl; text = k.text ∙ rw (byte_drop s b 0x5D h (omega arith), append_assoc); end = past_append a k.bytes (0x5D ∷ []) ∙ rw k.end }

  pub elems_more : (a b q : ℕ) (j : Json) (is : Items) → Stretch (Padded d a j) s a b → byte_at s b ≡ 0x2C → Stretch (Elements d (suc b) is) s (suc b) q → Stretch (Elements d a (icons j is)) s a q
  unfolding past
  elems_more a b q j is k h m =
      record { bytes = k.bytes ++ (0x2C ∷ m.bytes); holds = more_elements k.holds (ap suc (sym k.end)) m.holds refl; text = k.text ∙ rw (byte_drop s b 0x2C h (omega arith), m.text, append_assoc); end = past_append a k.bytes (0x2C ∷ m.bytes) ∙ rw k.end m.end }

  -- from a₀ up to a stand the elements es, each with its comma: what follows completes them
  pub record Elements-so-far (a₀ a : ℕ) (es : List Element) : Type 0 where
    pub items : Items
    pub then : (q : ℕ) (ns : Items) → Stretch (Elements d a ns) s a q → Stretch (Elements d a₀ (iapp items ns)) s a₀ q
    pub means : (ns : Items) → elements (iapp items ns) t ≡ es ++ elements ns t

  pub elements-none : (a : ℕ) → Elements-so-far a a []
  unfolding iapp
  elements-none a = record { items = inil; then = λ q ns k. k; means = λ ns. refl }

  one_more : (j : Json) (ns : Items) (es : List Element) → es ++ elements (icons j ns) t ≡ (es ++ (element_of t j ∷ [])) ++ elements ns t
  unfolding elements
  one_more j ns es = sym (append_assoc es (element_of t j ∷ []) (elements ns t))

  pub elements-more : (a₀ a b : ℕ) (j : Json) (es : List Element) → Elements-so-far a₀ a es → Stretch (Padded d a j) s a b → byte_at s b ≡ 0x2C → Elements-so-far a₀ (suc b) (es ++ (element_of t j ∷ []))
  elements-more a₀ a b j es k m h =
      record {
        items = isnoc k.items j;
        then = λ q ns x. rw (iapp_snoc k.items j ns) (k.then q _ (elems_more a b q j ns m h x));
        means = λ ns. rw (iapp_snoc k.items j ns) (k.means _ ∙ one_more j ns es);
      }

  -- the whole array's elements
  pub record Array (a₀ q : ℕ) (es : List Element) : Type 0 where
    pub items : Items
    pub closes : Stretch (Elements d a₀ items) s a₀ q
    pub means : elements items t ≡ es

  pub elements-last : (a₀ a b : ℕ) (j : Json) (es : List Element) → Elements-so-far a₀ a es → Stretch (Padded d a j) s a b → byte_at s b ≡ 0x5D → Array a₀ (suc b) (es ++ (element_of t j ∷ []))
  unfolding elements
  elements-last a₀ a b j es k m h =
      record { items = iapp k.items (icons j inil); closes = k.then (suc b) _ (elems_last a b j m h); means = k.means _ ∙ one_more j inil es ∙ append-nil (es ++ (element_of t j ∷ [])) }

-- ---- the array

read-array : (t : Table) (r p : ℕ) (is : Items) (es : List Element) (ps : Parts) → is_unwrapped t r ≡ false → eqb (kind_of t r) SEQUENCE-OF ≡ false → is_array t r ≡ true → elements is t ≡ es → read_elements t r p es 0 (count_of t r) ≡ ok ps
    → read (jarr p is) t r ≡ ok (v_seq ps)
unfolding read unwrapping read_array bind
read-array t r p is es ps u k a e h = rw (u, unwrapping) (rw (k, read_array, a, e, h))

module _ (t : Table) (s : List ℕ) (d r p q : ℕ) (es : List Element) (ps : Parts) (k : kind_of t r ≡ SEQUENCE) (ar : is_array t r ≡ true) (h : byte_at s p ≡ 0x5B) (e : read_elements t r p es 0 (count_of t r) ≡ ok ps) where
  pub array-stood : Array t s d (p + 1) q es → Stood t s (suc d) r p q (v_seq ps)
  unfolding past
  array-stood o' =
      let o : Array t s d (suc p) q es = rw (← add-one p) o' in
      record {
        tree = jarr p o.items;
        here = record { bytes = 0x5B ∷ o.closes.bytes; holds = grammar.elements o.closes.holds; text = byte_drop s p 0x5B h (omega arith) ∙ rw o.closes.text; end = o.closes.end };
        reads = read-array t r p o.items es ps (not-unwrapped t r SEQUENCE k refl) (ap (λ (x : ℕ). eqb x SEQUENCE-OF) k) ar o.means e;
      }

  pub empty-array-stood : (b : ℕ) → es ≡ [] → Spaces s (p + 1) b → byte_at s b ≡ 0x5D → q ≡ b + 1 → Stood t s (suc d) r p q (v_seq ps)
  unfolding past elements
  empty-array-stood b en x' y w =
      let x : Spaces s (suc p) b = rw (← add-one p) x' in
      rw (w, add-one b) (record {
        tree = jarr p inil;
        here = record {
          bytes = 0x5B ∷ x.bytes ++ (0x5D ∷ []);
          holds = no_elements x.holds refl;
          text = byte_drop s p 0x5B h (omega arith) ∙ rw (x.text, byte_drop s b 0x5D y (omega arith), append_assoc);
          end = past_append (suc p) x.bytes (0x5D ∷ []) ∙ rw x.end;
        };
        reads = read-array t r p inil es ps (not-unwrapped t r SEQUENCE k refl) (ap (λ (z : ℕ). eqb z SEQUENCE-OF) k) ar (sym en) e;
      })
