-- The written text of a well-formed value is a text of the grammar, whose tree is read as that value; a newer table reads it as the
-- value with all additions absent.
use Prim.Native.Nat.{ℕ, zero, suc, ◌+◌}
use mathlib.Core.Path.{◌≡◌, refl, ap, ◌∙◌}
use mathlib.Core.Bool.{true}
use native.Mathlib.Omega.{arith}
use Rattle.json_text.specs.Tree.{Json}
use Rattle.json_text.specs.Grammar.{Text}
use Rattle.jer.specs.Table.{Table, tag_of, is_type, marks_of, element_of, count_of, root_of, optional, type_at, name_at}
use Rattle.jer.specs.Value.{Val, v_seq, v_list, v_choice, Vals, Parts, absent}
use Rattle.jer.specs.Answer.{ok}
use Rattle.jer.specs.Read.{read}
use Rattle.jer.specs.Fits.{Fits, f_leaf, f_seq, f_list, f_wrapped, f_unwrapped, FitsItems, no_item, item, FitsParts, no_member, absent_member, present_member}
use Rattle.jer.specs.Write.{write}
use Rattle.jer.specs.Cut.{ByAdditions, absents, grow, grow_items, grow_parts}
use Rattle.jer.specs.Sane.{Sane}
use Rattle.jer.proofs.SpellLists.{unpadded}
use Rattle.jer.proofs.ValidRows.{sequence-type}
use Rattle.jer.proofs.SpellLeaf.{Spelled, spell-leaf}
use Rattle.jer.proofs.SpellParts.{SpelledItems, SpelledElements, SpelledMembers, spell-no-item, spell-item, spell-list, spell-no-element, spell-null-element, spell-element, spell-no-member, spell-absent-member, spell-member, spell-sequence}
use Rattle.jer.proofs.SpellChoice.{spell-wrapped, spell-unwrapped}

module _ {new old : Table} {R : ℕ → ℕ → Type 0} (pair : ByAdditions new old R) (gn : Sane new) (gO : Sane old) where
  mutual
    pub spell : {d b : ℕ} {v : Val} → Fits old d b v → (p : ℕ) → Spelled pair d p b v
    spell (f_leaf f) p = spell-leaf pair gn gO f
    spell (f_seq {r = b} k fs) p = let t = sequence-type old b k in spell-sequence pair gn gO k (spell_elements fs t (suc p)) (spell_members fs t (suc p))
    spell (f_list k fs) p = spell-list pair k (spell_items fs (suc p))
    spell (f_wrapped k w u f) p = spell-wrapped pair gn gO k w u (λ q. spell f q)
    spell (f_unwrapped w u f) p = spell-unwrapped pair gn w u (spell f p)

    spell_items : {d b : ℕ} {vs : Vals} → FitsItems old d b vs → (p : ℕ) → SpelledItems pair d p b vs
    spell_items no_item p = spell-no-item pair
    spell_items (item f fs) p = spell-item pair (spell f p) (λ q. spell_items fs q)

    spell_elements : {d b i : ℕ} {ps : Parts} → FitsParts old d b i ps → is_type old b ≡ true → (p : ℕ) → SpelledElements pair d p b i ps
    spell_elements (no_member e) t p = spell-no-element pair gn gO t e
    spell_elements (absent_member u m fs) t p = spell-null-element pair gn gO u m (λ q. spell_elements fs t q)
    spell_elements (present_member u f fs) t p = spell-element pair gn gO u (spell f p) (λ q. spell_elements fs t q)

    spell_members : {d b i : ℕ} {ps : Parts} → FitsParts old d b i ps → is_type old b ≡ true → (p : ℕ) → SpelledMembers pair d p b i ps
    spell_members (no_member e) t p = spell-no-member pair gn gO t e
    spell_members (absent_member u m fs) t p = spell-absent-member pair gn gO u m (spell_members fs t p)
    spell_members (present_member u f fs) t p = spell-member pair gn gO t u (λ q. spell f q) (λ q. spell_members fs t q)

  -- what is written under the older table is read under the newer as that value with all additions absent
  pub older-written : {v : Val} → Fits old 32 0 v → (j : Json) × (Text 32 j (write v old 0)) × (read j new 0 ≡ ok (grow v new 0))
  older-written f = let s = spell f 0 in (s.tree, unpadded s.text, s.reads 0 pair.whole)

-- ---- one table

pub same_additions : (t : Table) → ByAdditions t t (λ a b. a ≡ b)
same_additions t =
    record {
      whole = refl;
      tags = λ a b e. ap (tag_of t) e;
      marks = λ a b e. ap (marks_of t) e;
      roots = λ a b e. ap (root_of t) e;
      elements = λ a b e k. ap (element_of t) e;
      fewer = λ a b e. omega (arith, ap (count_of t) e);
      grown = λ a b e l. absurd (omega (arith, ap (count_of t) e));
      names = λ a b i e u. ap (λ (x : ℕ). name_at t x i) e;
      optionals = λ a b i e u. ap (λ (x : ℕ). optional t x i) e;
      types = λ a b i e u. ap (λ (x : ℕ). type_at t x i) e;
    }

mutual
  unfolding grow absents

  -- under its own table a value has no additions to be absent
  pub grow-same : {t : Table} {d r : ℕ} {v : Val} → Fits t d r v → grow v t r ≡ v
  grow-same (f_leaf f) = refl
  grow-same (f_seq k fs) = ap v_seq (grow-parts fs _ (omega arith))
  grow-same (f_list k fs) = ap v_list (grow-items fs)
  grow-same (f_wrapped {i = i} k w u f) = ap (v_choice i) (grow-same f)
  grow-same (f_unwrapped {i = i} w u f) = ap (v_choice i) (grow-same f)

  grow-items : {t : Table} {d r : ℕ} {vs : Vals} → FitsItems t d r vs → grow_items vs t r ≡ vs
  grow-items no_item = refl
  grow-items (item f fs) = cc (grow-same f, grow-items fs)

  grow-parts : {t : Table} {d r i : ℕ} {ps : Parts} → FitsParts t d r i ps → (n : ℕ) → i + n ≡ count_of t r → grow_parts ps t r i n ≡ ps
  grow-parts (no_member e) zero c = refl
  grow-parts (no_member e) (suc n) c = absurd (omega arith)
  grow-parts (absent_member u m fs) zero c = absurd (omega arith)
  grow-parts (absent_member u m fs) (suc n) c = ap absent (grow-parts fs n (omega arith))
  grow-parts (present_member u f fs) zero c = absurd (omega arith)
  grow-parts (present_member u f fs) (suc n) c = cc (grow-same f, grow-parts fs n (omega arith))

-- the written text is read as the value
pub written_read : {t : Table} → Sane t → {v : Val} → Fits t 32 0 v → (j : Json) × (Text 32 j (write v t 0)) × (read j t 0 ≡ ok v)
written_read {t} g f = let w = older-written (same_additions t) g g f in (w.0, w.1, w.2 ∙ ap ok (grow-same f))
