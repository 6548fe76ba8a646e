-- Spelled choices: a wrapped one is an object of one member; the token of an UNWRAPPED one picks the alternative.
use Prim.Native.Nat.{ℕ, suc, ◌<◌}
use mathlib.Core.Path.{◌≡◌, ◌∙◌}
use mathlib.Core.List.{[], ◌∷◌, ◌++◌}
use mathlib.Core.Bool.{true, false}
use Rattle.json_text.specs.Bytes.{past}
use Rattle.json_text.specs.Tree.{jobj, mnil, mcons}
use Rattle.jer.specs.Table.{Table, CHOICE, kind_of, is_type, is_unwrapped, count_of, type_at, name_at}
use Rattle.jer.specs.Value.{Val, v_choice}
use Rattle.jer.specs.Answer.{ok}
use Rattle.jer.specs.Read.{read}
use Rattle.jer.specs.Write.{string_text, choice_text, write}
use Rattle.jer.specs.Cut.{ByAdditions, grow}
use Rattle.jer.specs.Sane.{Sane}
use Rattle.jer.proofs.ValidLaws.{alternative-of}
use Rattle.jer.proofs.OlderNames.{unwrapped-same}
use Rattle.jer.proofs.SpellString.{string-quoted}
use Rattle.jer.proofs.SpellLists.{no_more, and_then, object-spelled}
use Rattle.jer.proofs.SpellRead.{read-picked, choice-read, read-token}
use Rattle.jer.proofs.ValidRows.{choice-type}
use Rattle.jer.proofs.SpellPaired.{kind-new, inside-new, position-new}
use Rattle.jer.proofs.SpellLeaf.{Spelled}

module _ {new old : Table} {R : ℕ → ℕ → Type 0} (pair : ByAdditions new old R) (gn : Sane new) {d p b i : ℕ} {v : Val} where
  pub spell-wrapped : Sane old → kind_of old b ≡ CHOICE → is_unwrapped old b ≡ false → i < count_of old b → ((q : ℕ) → Spelled pair d q (type_at old b i) v) → Spelled pair (suc d) p b (v_choice i v)
  unfolding write choice_text grow
  spell-wrapped gO k w u f =
      let t : is_type old b ≡ true = choice-type old b k in
      let s = f (past (suc p) (string_text (name_at old b i) ++ (0x3A ∷ []))) in
      record {
        tree = jobj p (mcons (suc p) (name_at old b i) s.tree mnil);
        text = rw (w, choice_text) (object-spelled (and_then (string-quoted _ (gO.named b i t u)) s.text no_more));
        reads = λ a r.
            choice-read new a p (suc p) (name_at old b i) s.tree i _ (kind-new pair r CHOICE k) (unwrapped-same pair r ∙ w)
            (position-new pair r gn t i u) (s.reads (type_at new a i) (pair.types a b i r u));
      }

  pub spell-unwrapped : is_unwrapped old b ≡ true → i < count_of old b → Spelled pair d p (type_at old b i) v → Spelled pair d p b (v_choice i v)
  unfolding write choice_text grow
  spell-unwrapped w u s = record { tree = s.tree; text = rw (w, choice_text) s.text; reads = chosen }
    where
      chosen : (a : ℕ) → R a b → read s.tree new a ≡ ok (grow (v_choice i v) new a)
      chosen a r =
          let x : is_unwrapped new a ≡ true = unwrapped-same pair r ∙ w in
          let l : i < count_of new a = inside-new pair r i u in
          let h = s.reads (type_at new a i) (pair.types a b i r u) in
          let q : is_unwrapped new (type_at new a i) ≡ false = gn.plain a i x l in
          read-picked s.tree new a i _ x (alternative-of new a i _ gn x l (read-token s.tree new (type_at new a i) _ q h)) q h
