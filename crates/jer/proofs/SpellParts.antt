-- Spelled lists and sequences, from their spelled parts.
use Prim.Native.Nat.{ℕ, zero, suc, ◌+◌, ◌<◌}
use mathlib.Core.Path.{◌≡◌, refl, sym, ◌∙◌}
use mathlib.Core.List.{[], ◌∷◌, ◌++◌}
use mathlib.Core.Bool.{Bool, true, false, ◌&&◌}
use native.Mathlib.Omega.{arith}
use Rattle.json_text.specs.Bytes.{past}
use Rattle.json_text.specs.Tree.{Json, jnull, jarr, jobj, Items, inil, icons, Members, mnil, mcons}
use Rattle.json_text.specs.Grammar.{literal_null}
use Rattle.jer.specs.Table.{Table, SEQUENCE, SEQUENCE-OF, kind_of, is_type, is_array, element_of, count_of, type_at, name_at, may_miss, may_be_absent}
use Rattle.jer.specs.Value.{Val, v_seq, v_list, Vals, vnil, vcons, Parts, pnil, absent, present}
use Rattle.jer.specs.Answer.{ok}
use Rattle.jer.specs.Read.{read_elements, read_items, null?, read, elements, entries}
use Rattle.jer.specs.Write.{null_text, string_text, drop_nulls, member_text, sequence_text, write, item_texts, element_texts, member_texts}
use Rattle.jer.specs.Cut.{ByAdditions, grow, grow_items, grow_parts}
use Rattle.jer.specs.Sane.{Sane}
use Rattle.jer.proofs.Absent.{absent-left}
use Rattle.jer.proofs.OlderNames.{array_same, miss-same}
use Rattle.jer.proofs.SpellString.{string-quoted}
use Rattle.jer.proofs.SpellLists.{Listed, nothing, then, array-spelled, Membered, no_more, and_then, object-spelled}
use Rattle.jer.proofs.SpellRead.{list_read, array-read, object-read, null-is-value, value_takes_null}
use Rattle.jer.proofs.SpellArray.{no_items_lem, one-item, keep_item, keep-listed, null-kept, value-kept, no-elements}
use Rattle.jer.proofs.SpellObject.{Made, without, object-made, one-member, no_additions}
use Rattle.jer.proofs.ValidRows.{sequence-type}
use Rattle.jer.proofs.SpellPaired.{kind-new, type-new, inside-new, addition_misses}
use Rattle.jer.proofs.SpellLeaf.{Spelled}

-- the items of a list
pub record SpelledItems {new old : Table} {R : ℕ → ℕ → Type 0} (pair : ByAdditions new old R) (d p b : ℕ) (vs : Vals) : Type 0 where
  items : Items
  text : Listed d p items (item_texts vs old b)
  reads : (a : ℕ) → R a b → read_items (elements items new) a ≡ ok (grow_items vs new a)

-- the members of a sequence from i on, as elements of an array
pub record SpelledElements {new old : Table} {R : ℕ → ℕ → Type 0} (pair : ByAdditions new old R) (d p b i : ℕ) (ps : Parts) : Type 0 where
  items : Items
  text : Listed d p items (drop_nulls (element_texts ps old b i))
  reads : (a : ℕ) → R a b → is_array new a ≡ true → (o n : ℕ) → i + n ≡ count_of new a → read_elements new a o (elements items new) i n ≡ ok (grow_parts ps new a i n)

-- and as members of an object
pub record SpelledMembers {new old : Table} {R : ℕ → ℕ → Type 0} (pair : ByAdditions new old R) (d p b i : ℕ) (ps : Parts) : Type 0 where
  members : Members
  text : Membered d p members (member_texts ps old b i)
  reads : (a : ℕ) → R a b → (n : ℕ) → i + n ≡ count_of new a → Made new a i n (grow_parts ps new a i n) (entries members new)

-- ---- lists

module _ {new old : Table} {R : ℕ → ℕ → Type 0} (pair : ByAdditions new old R) {d p b : ℕ} where
  pub spell-no-item : SpelledItems pair d p b vnil
  unfolding write grow
  spell-no-item = record { items = inil; text = nothing; reads = λ a r. no_items_lem new a }

  pub spell-item : {v : Val} {vs : Vals} → Spelled pair d p b v → ((q : ℕ) → SpelledItems pair d q b vs) → SpelledItems pair d p b (vcons v vs)
  unfolding write grow
  spell-item {v} s f =
      let z = f (suc (past p (write v old b))) in
      record { items = icons s.tree z.items; text = then s.text z.text; reads = λ a r. one-item new a s.tree z.items _ _ (s.reads a r) (z.reads a r) }

  pub spell-list : {vs : Vals} → kind_of old b ≡ SEQUENCE-OF → SpelledItems pair d (suc p) (element_of old b) vs → Spelled pair (suc d) p b (v_list vs)
  unfolding write grow
  spell-list k s =
      record {
        tree = jarr p s.items;
        text = array-spelled s.text;
        reads = λ a r. list_read new a p s.items _ (kind-new pair r SEQUENCE-OF k) (s.reads (element_of new a) (pair.elements a b r k));
      }

-- an element that is null is no member that may miss
null-required : (t : Table) → Sane t → (r i : ℕ) (j : Json) (w : Val) → is_array t r ≡ true → i < count_of t r → read j t (type_at t r i) ≡ ok w → (null? j && may_miss t r i) ≡ false
null-required t g r i j w e u h = go (null? j) refl (may_miss t r i) refl
  where
    go : (c : Bool) → null? j ≡ c → (m : Bool) → may_miss t r i ≡ m → (c && m) ≡ false
    go true n true m = sym (value_takes_null t (type_at t r i) w (null-is-value j t (type_at t r i) w n h)) ∙ g.array r i e u m
    go true n false m = refl
    go false n m k = refl

module _ {new old : Table} {R : ℕ → ℕ → Type 0} (pair : ByAdditions new old R) (gn : Sane new) (gO : Sane old) {d p b : ℕ} where
  -- ---- sequences as arrays

  pub spell-no-element : {i : ℕ} → is_type old b ≡ true → i ≡ count_of old b → SpelledElements pair d p b i pnil
  unfolding write drop_nulls grow
  spell-no-element {i} t e = record { items = inil; text = nothing; reads = λ a r w o n c. no-elements new a o i n (λ k l u. addition_misses pair r gO t k (omega arith)) }

  pub spell-null-element : {i : ℕ} {ps : Parts} → i < count_of old b → may_be_absent old b i ≡ true → ((q : ℕ) → SpelledElements pair d q b (suc i) ps) → SpelledElements pair d p b i (absent ps)
  unfolding write drop_nulls null_text grow null?
  spell-null-element {i} {ps} u m f = record { items = keep_item (jnull p) z.items; text = keep-listed literal_null z.text; reads = kept }
    where
      z : SpelledElements pair d (suc (past p null_text)) b (suc i) ps
      z = f (suc (past p null_text))

      kept : (a : ℕ) → R a b → is_array new a ≡ true → (o n : ℕ) → i + n ≡ count_of new a → read_elements new a o (elements (keep_item (jnull p) z.items) new) i n ≡ ok (grow_parts (absent ps) new a i n)
      kept a r w o zero c = absurd (let l = inside-new pair r i u in omega arith)
      kept a r w o (suc n) c = null-kept new a o i n z.items _ (z.reads a r w o n (omega arith)) (jnull p) refl (miss-same pair r i u ∙ absent-left old b i m)

  pub spell-element : {i : ℕ} {v : Val} {ps : Parts} → i < count_of old b → Spelled pair d p (type_at old b i) v → ((q : ℕ) → SpelledElements pair d q b (suc i) ps) → SpelledElements pair d p b i (present v ps)
  unfolding write drop_nulls grow
  spell-element {i} {v} {ps} u s f = record { items = keep_item s.tree z.items; text = keep-listed s.text z.text; reads = kept }
    where
      z : SpelledElements pair d (suc (past p (write v old (type_at old b i)))) b (suc i) ps
      z = f (suc (past p (write v old (type_at old b i))))

      kept : (a : ℕ) → R a b → is_array new a ≡ true → (o n : ℕ) → i + n ≡ count_of new a → read_elements new a o (elements (keep_item s.tree z.items) new) i n ≡ ok (grow_parts (present v ps) new a i n)
      kept a r w o zero c = absurd (let l = inside-new pair r i u in omega arith)
      kept a r w o (suc n) c =
          let h = s.reads (type_at new a i) (pair.types a b i r u) in
          value-kept new a o i n z.items _ (z.reads a r w o n (omega arith)) s.tree _ h (null-required new gn a i s.tree _ w (inside-new pair r i u) h)

  -- ---- sequences as objects

  pub spell-no-member : {i : ℕ} → is_type old b ≡ true → i ≡ count_of old b → SpelledMembers pair d p b i pnil
  unfolding write grow
  spell-no-member {i} t e = record { members = mnil; text = no_more; reads = λ a r n c. no_additions new a i n (λ k l u. addition_misses pair r gO t k (omega arith)) }

  pub spell-absent-member : {i : ℕ} {ps : Parts} → i < count_of old b → may_be_absent old b i ≡ true → SpelledMembers pair d p b (suc i) ps → SpelledMembers pair d p b i (absent ps)
  unfolding write grow
  spell-absent-member {i} {ps} u m z = record { members = z.members; text = z.text; reads = made }
    where
      made : (a : ℕ) → R a b → (n : ℕ) → i + n ≡ count_of new a → Made new a i n (grow_parts (absent ps) new a i n) (entries z.members new)
      made a r zero c = absurd (let l = inside-new pair r i u in omega arith)
      made a r (suc n) c = without (miss-same pair r i u ∙ absent-left old b i m) (z.reads a r n (omega arith))

  pub spell-member : {i : ℕ} {v : Val} {ps : Parts} → is_type old b ≡ true → i < count_of old b → ((q : ℕ) → Spelled pair d q (type_at old b i) v) → ((q : ℕ) → SpelledMembers pair d q b (suc i) ps)
      → SpelledMembers pair d p b i (present v ps)
  unfolding write grow
  spell-member {i} {v} {ps} t u f g = record { members = mcons p (name_at old b i) s.tree z.members; text = and_then (string-quoted _ (gO.named b i t u)) s.text z.text; reads = made }
    where
      s : Spelled pair d (past p (string_text (name_at old b i) ++ (0x3A ∷ []))) (type_at old b i) v
      s = f _

      z : SpelledMembers pair d (suc (past p (member_text (name_at old b i) (write v old (type_at old b i))))) b (suc i) ps
      z = g _

      made : (a : ℕ) → R a b → (n : ℕ) → i + n ≡ count_of new a → Made new a i n (grow_parts (present v ps) new a i n) (entries (mcons p (name_at old b i) s.tree z.members) new)
      made a r zero c = absurd (let l = inside-new pair r i u in omega arith)
      made a r (suc n) c =
          rw (← pair.names a b i r u) (one-member new a i n p s.tree z.members _ _ (s.reads (type_at new a i) (pair.types a b i r u)) (z.reads a r n (omega arith)))

  pub spell-sequence : {ps : Parts} → kind_of old b ≡ SEQUENCE → SpelledElements pair d (suc p) b 0 ps → SpelledMembers pair d (suc p) b 0 ps → Spelled pair (suc d) p b (v_seq ps)
  unfolding write sequence_text grow
  spell-sequence {ps} k x y = go (is_array old b) refl
    where
      go : (c : Bool) → is_array old b ≡ c → Spelled pair (suc d) p b (v_seq ps)
      go true e =
          record {
            tree = jarr p x.items;
            text = rw (e, sequence_text) (array-spelled x.text);
            reads = λ a r.
                let w : is_array new a ≡ true = array_same pair r ∙ e in
                array-read new a p x.items _ (kind-new pair r SEQUENCE k) w (x.reads a r w p (count_of new a) (omega arith));
          }
      go false e =
          record {
            tree = jobj p y.members;
            text = rw (e, sequence_text) (object-spelled y.text);
            reads = λ a r.
                object-read new a p y.members _ (kind-new pair r SEQUENCE k) (array_same pair r ∙ e)
                (object-made new gn a (type-new pair r (sequence-type old b k)) p (y.reads a r (count_of new a) (omega arith)));
          }
