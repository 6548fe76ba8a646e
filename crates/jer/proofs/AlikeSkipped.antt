-- Trees that differ only inside the values of skipped members have the same value, or the same refusal number.
use Prim.Native.Nat.{ℕ}
use mathlib.Core.Path.{◌≡◌, refl, sym, ◌∙◌}
use mathlib.Core.List.{List}
use mathlib.Core.Bool.{true, false}
use Rattle.std.specs.Prelude.{Some}
use native.Mathlib.Omega.{arith}
use Rattle.json_text.specs.Tree.{Json, jarr, jobj, Items, Members}
use Rattle.jer.specs.Table.{Table, SEQUENCE-OF, kind_of, is_array, is_unwrapped, element_of, count_of, type_at, position, alternative}
use Rattle.jer.specs.Value.{v_choice}
use Rattle.jer.specs.Read.{null?, read, elements, entries}
use Rattle.jer.specs.Moved.{token_in}
use Rattle.jer.specs.Skipped as skip
use Rattle.jer.specs.Skipped.{SameAnswer, SkipAlike, SkipAlikeItems, SkipAlikeElements, SkipAlikeMembers}
use Rattle.jer.specs.Sane.{Sane}
use Rattle.jer.proofs.ValidLaws.{alternative-some}
use Rattle.jer.proofs.WeightGot.{nothing, found}
use Rattle.jer.proofs.OlderAgrees.{Each, end, more}
use Rattle.jer.proofs.AlikeRead.{items_as, elements_as, braces_as, picked_as}
use Rattle.jer.proofs.AlikeSame.{same_map}
use Rattle.jer.proofs.AlikeArray.{ReadAlike, items-same, Elementwise, done, each, rest, elements_same}
use Rattle.jer.proofs.AlikeObject.{Twin, twin, braces-same}
use Rattle.jer.proofs.AlikeMoved.{same-null, moved-token, moved_same}

skip_token : {t : Table} {r : ℕ} {j k : Json} → SkipAlike t r j k → token_in j ≡ token_in k
unfolding token_in
skip_token (skip.moved h) = moved-token h
skip_token (skip.items c h) = refl
skip_token (skip.elements c h) = refl
skip_token (skip.members c h) = refl
skip_token (skip.picked c a h) = skip_token h

module _ (t : Table) (g : Sane t) where
  -- ---- each case at its row

  items-case : (r p q : ℕ) (is js : Items) → kind_of t r ≡ SEQUENCE-OF → Each (ReadAlike (element_of t r)) (elements is t) (elements js t) → SameAnswer (read (jarr p is) t r) (read (jarr q js) t r)
  items-case r p q is js c h = rw (items_as t r p is c, items_as t r q js c) (same_map _ (items-same (element_of t r) h))

  elements-case : (r p q : ℕ) (is js : Items) → is_array t r ≡ true → Elementwise t r 0 (elements is t) (elements js t) → SameAnswer (read (jarr p is) t r) (read (jarr q js) t r)
  elements-case r p q is js c h = rw (elements_as t r p is c, elements_as t r q js c) (same_map _ (elements_same t r p q 0 (count_of t r) (omega arith) h))

  members-case : (r p q : ℕ) (ms ns : Members) → is_unwrapped t r ≡ false → Each (Twin t r) (entries ms t) (entries ns t) → SameAnswer (read (jobj p ms) t r) (read (jobj q ns) t r)
  members-case r p q ms ns c h = rw (braces_as t r p ms c, braces_as t r q ns c) (braces-same t r p q g h)

  picked-case : (r i : ℕ) (j k : Json) → is_unwrapped t r ≡ true → alternative t r (token_in j) ≡ Some i → token_in j ≡ token_in k → SameAnswer (read j t (type_at t r i)) (read k t (type_at t r i))
      → SameAnswer (read j t r) (read k t r)
  picked-case r i j k c a e h =
      let u = g.plain r i c (alternative-some t r (token_in j) i a).0 in
      rw (picked_as j t r i c a u, picked_as k t r i c (rw e at a) u) (same_map (v_choice i) h)

  known-case : {r p q i : ℕ} {s : List ℕ} (j k : Json) → position t r s ≡ Some i → token_in j ≡ token_in k → SameAnswer (read j t (type_at t r i)) (read k t (type_at t r i))
      → Twin t r record { place = p; name = s; is_null = null? j; means = λ r. read j t r } record { place = q; name = s; is_null = null? k; means = λ r. read k t r }
  known-case {i = i} j k a e h = twin (λ n b. let c : i ≡ n = found (sym a ∙ b) in (same-null j k e, rw c at h))

-- ---- trees

module _ (t : Table) (g : Sane t) where
  mutual
    unfolding read

    skips : {r : ℕ} {j k : Json} → SkipAlike t r j k → SameAnswer (read j t r) (read k t r)
    skips (skip.moved {r = r} h) = moved_same t g h r
    skips (skip.items {r = r} {p = p} {q = q} {is = is} {js = js} c h) = items-case t g r p q is js c (item-skips h)
    skips (skip.elements {r = r} {p = p} {q = q} {is = is} {js = js} c h) = elements-case t g r p q is js c (element-skips h)
    skips (skip.members {r = r} {p = p} {q = q} {ms = ms} {ns = ns} c h) = members-case t g r p q ms ns c (member-skips h)
    skips (skip.picked {r = r} {i = i} {j = j} {k = k} c a h) = picked-case t g r i j k c a (skip_token h) (skips h)

    item-skips : {r : ℕ} {is js : Items} → SkipAlikeItems t r is js → Each (ReadAlike r) (elements is t) (elements js t)
    item-skips skip.no_item = end
    item-skips (skip.item h hs) = more (skips h) (item-skips hs)

    element-skips : {r i : ℕ} {is js : Items} → SkipAlikeElements t r i is js → Elementwise t r i (elements is t) (elements js t)
    element-skips skip.no_element = done
    element-skips (skip.element h hs) = each (same-null _ _ (skip_token h)) (skips h) (element-skips hs)
    element-skips (skip.surplus l x) = rest l x

    member-skips : {r : ℕ} {ms ns : Members} → SkipAlikeMembers t r ms ns → Each (Twin t r) (entries ms t) (entries ns t)
    member-skips skip.no_member = end
    member-skips (skip.known a h hs) = more (known-case t g _ _ a (skip_token h) (skips h)) (member-skips hs)
    member-skips (skip.unknown a hs) = more (twin (λ i b. nothing (sym a ∙ b))) (member-skips hs)

pub skipped-alike : {t : Table} {r : ℕ} {j k : Json} → Sane t → SkipAlike t r j k → SameAnswer (read j t r) (read k t r)
skipped-alike {t} g h = skips t g h
