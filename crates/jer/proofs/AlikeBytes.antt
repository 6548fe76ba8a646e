-- Bytes: in a text, the value of a skipped member can be replaced by any other value.
use Prim.Native.Nat.{ℕ, suc, ◌+◌, ◌≤◌}
use mathlib.Core.Path.{◌≡◌, refl, ◌∙◌}
use mathlib.Core.List.{List, [], ◌∷◌, ◌++◌}
use Rattle.std.specs.Prelude.{None}
use native.Mathlib.Omega.{arith}
use lib.ListN.{length}
use Rattle.json_text.specs.Bytes.{past}
use Rattle.json_text.specs.Tree.{Json, place_of}
use Rattle.json_text.specs.Grammar.{Value, literal_null, literal_true, literal_false, whole, real, string, no_elements, elements, no_members, members, Text}
use Rattle.json_text.proofs.Takes.{takes_text}
use Rattle.jer.specs.Table.{Table}
use Rattle.jer.specs.Valid.{first_bad}
use Rattle.jer.specs.Answer.{Res}
use Rattle.jer.specs.Skipped.{SameAnswer, same_value, same_number, moved}
use Rattle.jer.specs.Replaced.{Skips, Replaceable}
use Rattle.jer.proofs.ValidSane.{valid_sane}
use Rattle.jer.proofs.AlikeBack.{moved_back}
use Rattle.jer.proofs.Whole.{whole-skipped}
use Rattle.jer.proofs.AlikeElsewhere.{padded-at}
use Rattle.jer.proofs.AlikeReplaced.{text-splits}
use Rattle.jer.proofs.SpellCalls.{read-text}

same_then : {A : Type 0} {x y z : Res A} → SameAnswer x y → SameAnswer y z → SameAnswer x z
same_then same_value same_value = same_value
same_then (same_number e) (same_number f) = same_number (e ∙ f)

-- ---- places

past-length : (p : ℕ) (xs : List ℕ) → past p xs ≡ p + length xs
unfolding past
past-length p [] = omega arith
past-length p (x ∷ xs) = omega (arith, past-length (suc p) xs)

value-place : {d p : ℕ} {j : Json} {bs : List ℕ} → Value d p j bs → place_of j ≡ p
unfolding place_of
value-place literal_null = refl
value-place literal_true = refl
value-place literal_false = refl
value-place (whole x) = refl
value-place (real x y e) = refl
value-place (string x) = refl
value-place (no_elements x e) = refl
value-place (elements x) = refl
value-place (no_members x e) = refl
value-place (members x) = refl

-- ---- texts

-- a text has one tree
one-tree : {d : ℕ} {j k : Json} (s : List ℕ) → Text d j s → Text d k s → j ≡ k
one-tree {d} {j} {k} s x y = cc (takes_text d j s x, takes_text d k s y)

pub skipped-bytes : {t : Table} {i j : Json} (s : List ℕ) → first_bad t ≡ None → Text 32 j s → length s ≤ 65536 → Skips t i 0 j → Replaceable t s i
skipped-bytes {t} {i} {j} s good x l h =
    let g = valid_sane t good in
    let c = text-splits t i 32 h x in
    let e : past 0 c.before ≡ length c.before = omega (arith, past-length 0 c.before) in
    record {
      before = c.before;
      spelled = c.spelled;
      after = c.after;
      whole = c.whole;
      place = value-place c.value ∙ e;
      brackets = c.brackets;
      value = rw e at c.value;
      instead = λ {d} {j = n} {k} other v y m.
          let a = c.instead d n other (rw (← e) at v) in
          let b = padded-at d y 0 in
          let q = one-tree (c.before ++ (other ++ c.after)) a.text b.text in
          rw (read-text t s good x l, read-text t (c.before ++ (other ++ c.after)) good y m)
          (same_then (rw q at (whole-skipped g a.like)) (whole-skipped g (moved (moved_back b.like))));
    }
