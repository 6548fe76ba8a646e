-- Arrays and objects of the grammar, part by part: whatever ends a list from here completes it from its start.
use Prim.Native.Nat.{ℕ, suc, ◌+◌, ◌-◌, ◌<◌, ◌≤◌}
use mathlib.Core.Path.{◌≡◌, refl, sym, ap, ◌∙◌}
use mathlib.Core.List.{List, [], ◌∷◌, ◌++◌, append_assoc}
use native.Mathlib.Numerals.{add-one}
use native.Mathlib.Omega.{arith}
use Rattle.json_text.specs.Bytes.{past}
use Rattle.json_text.specs.Tree.{Json, jarr, jobj, jstr, Items, inil, icons, Members, mnil, mcons}
use Rattle.json_text.specs.Grammar as grammar
use Rattle.json_text.specs.Grammar.{Space, Quoted, Value, Padded, padded, Elements, last_element, more_elements, Named, last_member, more_members, name}
use Rattle.tokens.specs.Places.{byte_at}
use Rattle.tokens.proofs.TiePlace.{past_append, past-length}
use Rattle.spelled.specs.Stretch.{Stretch, Passed, ValueAt, NameAt}
use Rattle.spelled.proofs.StretchLaws.{Exactly, stretch_as, stretch_join, byte_here, byte_next, passed}

pub before_or_at : (s : List ℕ) (R : List ℕ → Type 0) (p q : ℕ) → Stretch R s p q → p ≤ q
before_or_at s R p q k = omega (arith, past-length p k.bytes, k.end)

pub value_as : (s : List ℕ) (d p q : ℕ) (tree : Json) → Passed (Value d p tree) s p q → ValueAt d s p q
value_as s d p q tree k = record { tree = tree; passed = k }

pub value-string : (s chars : List ℕ) (d p q : ℕ) → Passed (Quoted chars) s p q → ValueAt d s p q
value-string s chars d p q k =
    record { tree = jstr p chars; passed = passed (Value d p (jstr p chars)) s p q (stretch_as (Quoted chars) (Value d p (jstr p chars)) s p q (λ xs w. grammar.string w) k.stretch) k.ahead }

module _ (s : List ℕ) (d : ℕ) where
  -- a value with white space around it, from o up to c
  pub record PaddedAt (o c : ℕ) : Type 0 where
    pub tree : Json
    pub stretch : Stretch (Padded d o tree) s o c

  pub padded-here : (o p q c : ℕ) → Stretch Space s o p → ValueAt d s p q → Stretch Space s q c → PaddedAt o c
  padded-here o p q c x v y =
      let k = v.passed.stretch in
      record {
        tree = v.tree;
        stretch =
            record {
              bytes = x.bytes ++ (k.bytes ++ y.bytes);
              holds = padded x.holds (sym x.end) k.holds y.holds refl;
              text = x.text ∙ rw (k.text, y.text, append_assoc, append_assoc);
              end = rw (past_append o x.bytes (k.bytes ++ y.bytes), x.end, past_append p k.bytes y.bytes, k.end) y.end;
            };
      }

  -- ---- arrays

  -- from o on stand elements and the closing bracket, after which q follows
  pub record ElementsAt (o q : ℕ) : Type 0 where
    pub items : Items
    pub stretch : Stretch (Elements d o items) s o q

  pub elements-last : (o c : ℕ) → PaddedAt o c → byte_at s c ≡ 0x5D → ElementsAt o (c + 1)
  elements-last o c k h =
      record {
        items = icons k.tree inil;
        stretch = stretch_join (Padded d o k.tree) (Exactly (0x5D ∷ [])) (Elements d o (icons k.tree inil)) s o c (c + 1) (λ xs ys w e. last_element w (ap (λ (z : List ℕ). xs ++ z) e)) k.stretch (byte_here s c 0x5D h (omega arith));
      }

  pub elements-more : (o c q : ℕ) → PaddedAt o c → byte_at s c ≡ 0x2C → ElementsAt (c + 1) q → ElementsAt o q
  unfolding past
  elements-more o c q k h m =
      let e : c + 1 ≡ suc (past o k.stretch.bytes) = omega (arith, k.stretch.end) in
      record {
        items = icons k.tree m.items;
        stretch =
            record {
              bytes = k.stretch.bytes ++ (0x2C ∷ m.stretch.bytes);
              holds = more_elements k.stretch.holds e m.stretch.holds refl;
              text = k.stretch.text ∙ rw (byte_next s c 0x2C h (omega arith), ← add-one c, m.stretch.text, append_assoc);
              end = past_append o k.stretch.bytes (0x2C ∷ m.stretch.bytes) ∙ rw (k.stretch.end, ← add-one c) m.stretch.end;
            };
      }

  -- the elements from o on, each with its comma, have been passed up to the white space before p
  pub record Listing (o p : ℕ) : Type 0 where
    pub here : ℕ
    pub space : Stretch Space s here p
    pub then : (q : ℕ) → ElementsAt here q → ElementsAt o q

  module _ (o p q c : ℕ) (k : Listing o p) (v : ValueAt d s p q) (y : Stretch Space s q c) where
    pub listing_more : (p' : ℕ) → byte_at s c ≡ 0x2C → Stretch Space s (c + 1) p' → Listing o p'
    listing_more p' h z = record { here = c + 1; space = z; then = λ r m. k.then r (elements-more k.here c r (padded-here k.here p q c k.space v y) h m) }

    pub listing_last : byte_at s c ≡ 0x5D → ElementsAt o (c + 1)
    listing_last h = k.then (c + 1) (elements-last k.here c (padded-here k.here p q c k.space v y) h)

  -- ---- objects

  pub record NamedAt (o q : ℕ) : Type 0 where
    pub members : Members
    pub stretch : Stretch (Named d o members) s o q

  pub named-last : (o a r c : ℕ) → NameAt s o a r → PaddedAt r c → byte_at s c ≡ 0x7D → NamedAt o (c + 1)
  unfolding past
  named-last o a r c n k h =
      let ms = mcons a n.chars k.tree mnil in
      record {
        members = ms;
        stretch =
            record {
              bytes = n.stretch.bytes ++ (k.stretch.bytes ++ (0x7D ∷ []));
              holds = last_member n.stretch.holds k.stretch.holds refl;
              text = n.stretch.text ∙ rw (k.stretch.text, byte_next s c 0x7D h (omega arith), ← add-one c, append_assoc, append_assoc);
              end =
                  rw (past_append o n.stretch.bytes (k.stretch.bytes ++ (0x7D ∷ [])), n.stretch.end, past_append r k.stretch.bytes (0x7D ∷ []), k.stretch.end) (sym (add-one c));
            };
      }

  pub named_more : (o a r c q : ℕ) → NameAt s o a r → PaddedAt r c → byte_at s c ≡ 0x2C → NamedAt (c + 1) q → NamedAt o q
  unfolding past
  named_more o a r c q n k h m =
      let e : c + 1 ≡ suc (past r k.stretch.bytes) = omega (arith, k.stretch.end) in
      record {
        members = mcons a n.chars k.tree m.members;
        stretch =
            record {
              bytes = n.stretch.bytes ++ (k.stretch.bytes ++ (0x2C ∷ m.stretch.bytes));
              holds = more_members n.stretch.holds k.stretch.holds e m.stretch.holds refl;
              text = n.stretch.text ∙ rw (k.stretch.text, byte_next s c 0x2C h (omega arith), ← add-one c, m.stretch.text, append_assoc, append_assoc);
              end =
                  rw (past_append o n.stretch.bytes (k.stretch.bytes ++ (0x2C ∷ m.stretch.bytes)), n.stretch.end, past_append r k.stretch.bytes (0x2C ∷ m.stretch.bytes), k.stretch.end, ← add-one c) m.stretch.end;
            };
      }

  pub record Naming (o p : ℕ) : Type 0 where
    pub here : ℕ
    pub space : Stretch Space s here p
    pub then : (q : ℕ) → NamedAt here q → NamedAt o q

  module _ (o p r v q c : ℕ) (k : Naming o p) (n : (z : ℕ) → Stretch Space s z p → NameAt s z p r) (x : Stretch Space s r v) (w : ValueAt d s v q) (y : Stretch Space s q c) where
    pub naming_more : (p' : ℕ) → byte_at s c ≡ 0x2C → Stretch Space s (c + 1) p' → Naming o p'
    naming_more p' h z =
        record { here = c + 1; space = z; then = λ t m. k.then t (named_more k.here p r c t (n k.here k.space) (padded-here r v q c x w y) h m) }

    pub naming_last : byte_at s c ≡ 0x7D → NamedAt o (c + 1)
    naming_last h = k.then (c + 1) (named-last k.here p r c (n k.here k.space) (padded-here r v q c x w y) h)

-- ---- the brackets

pub name-here : (s chars : List ℕ) (o p q c : ℕ) → Stretch Space s o p → Passed (Quoted chars) s p q → Stretch Space s q c → byte_at s c ≡ 0x3A → NameAt s o p (c + 1)
unfolding past
name-here s chars o p q c x k y h =
    let bs : List ℕ = x.bytes ++ (k.stretch.bytes ++ (y.bytes ++ (0x3A ∷ []))) in
    let e : past o bs ≡ c + 1 =
    rw (past_append o x.bytes (k.stretch.bytes ++ (y.bytes ++ (0x3A ∷ []))), x.end, past_append p k.stretch.bytes (y.bytes ++ (0x3A ∷ [])), k.stretch.end, past_append q y.bytes (0x3A ∷ []), y.end)
    (sym (add-one c)) in
    record {
      chars = chars;
      stretch =
          record {
            bytes = bs;
            holds = name x.holds (sym x.end) k.stretch.holds y.holds refl (sym e);
            text = x.text ∙ rw (k.stretch.text, y.text, byte_next s c 0x3A h (omega arith), ← add-one c) (simp append_assoc);
            end = e;
          };
    }

module _ (s : List ℕ) (d p : ℕ) (l : d ≡ 0 → ⊥) where
  deeper : suc (d - 1) ≡ d
  deeper = omega (arith, l)

  ends : (q : ℕ) (x : Stretch Space s (p + 1) q) → past (suc p) x.bytes ≡ q
  ends q x = rw (← add-one p) x.end

  pub array-none : (q : ℕ) → byte_at s p ≡ 0x5B → Stretch Space s (p + 1) q → byte_at s q ≡ 0x5D → ValueAt d s p (q + 1)
  unfolding past
  array-none q h x g =
      rw (← deeper) (value_as s (suc (d - 1)) p (q + 1) (jarr p inil)
      (passed (Value (suc (d - 1)) p (jarr p inil)) s p (q + 1)
      (record {
        bytes = 0x5B ∷ (x.bytes ++ (0x5D ∷ []));
        holds = grammar.no_elements x.holds refl;
        text = byte_next s p 0x5B h (omega arith) ∙ rw (← add-one p, x.text, byte_next s q 0x5D g (omega arith), ← add-one q, append_assoc);
        end = past_append (suc p) x.bytes (0x5D ∷ []) ∙ rw (ends q x) (sym (add-one q));
      }) (omega (arith, before_or_at s Space (p + 1) q x))))

  pub array-some : (q : ℕ) → byte_at s p ≡ 0x5B → ElementsAt s (d - 1) (p + 1) q → p < q → ValueAt d s p q
  unfolding past
  array-some q h k m =
      let e = k.stretch in
      rw (← deeper) (value_as s (suc (d - 1)) p q (jarr p k.items)
      (passed (Value (suc (d - 1)) p (jarr p k.items)) s p q
      (record {
        bytes = 0x5B ∷ e.bytes;
        holds = grammar.elements (rw (add-one p) at e.holds);
        text = byte_next s p 0x5B h (omega arith) ∙ rw (← add-one p, e.text);
        end = rw (← add-one p) e.end;
      }) m))

  pub object-none : (q : ℕ) → byte_at s p ≡ 0x7B → Stretch Space s (p + 1) q → byte_at s q ≡ 0x7D → ValueAt d s p (q + 1)
  unfolding past
  object-none q h x g =
      rw (← deeper) (value_as s (suc (d - 1)) p (q + 1) (jobj p mnil)
      (passed (Value (suc (d - 1)) p (jobj p mnil)) s p (q + 1)
      (record {
        bytes = 0x7B ∷ (x.bytes ++ (0x7D ∷ []));
        holds = grammar.no_members x.holds refl;
        text = byte_next s p 0x7B h (omega arith) ∙ rw (← add-one p, x.text, byte_next s q 0x7D g (omega arith), ← add-one q, append_assoc);
        end = past_append (suc p) x.bytes (0x7D ∷ []) ∙ rw (ends q x) (sym (add-one q));
      }) (omega (arith, before_or_at s Space (p + 1) q x))))

  pub object-some : (q : ℕ) → byte_at s p ≡ 0x7B → NamedAt s (d - 1) (p + 1) q → p < q → ValueAt d s p q
  unfolding past
  object-some q h k m =
      let e = k.stretch in
      rw (← deeper) (value_as s (suc (d - 1)) p q (jobj p k.members)
      (passed (Value (suc (d - 1)) p (jobj p k.members)) s p q
      (record {
        bytes = 0x7B ∷ e.bytes;
        holds = grammar.members (rw (add-one p) at e.holds);
        text = byte_next s p 0x7B h (omega arith) ∙ rw (← add-one p, e.text);
        end = rw (← add-one p) e.end;
      }) m))
