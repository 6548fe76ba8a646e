-- A text with a skipped value in it: with another value there it has a tree that differs only inside what is skipped.
use Prim.Native.Nat.{ℕ, suc, ◌+◌}
use mathlib.Core.Path.{◌≡◌, refl}
use mathlib.Core.List.{List, [], ◌∷◌, ◌++◌}
use Rattle.std.specs.Prelude.{Option, None, Some}
use native.Mathlib.Omega.{arith}
use Rattle.json_text.specs.Bytes.{past}
use Rattle.json_text.specs.Tree.{Json, jarr, jobj, Items, inil, icons, Members, mnil, mcons}
use Rattle.json_text.specs.Grammar.{Value, no_elements, elements, no_members, members, Padded, padded, Elements, Named}
use Rattle.jer.specs.Table.{Table, position}
use Rattle.jer.specs.Moved as moved
use Rattle.jer.specs.Moved.{Moved, MovedItems, MovedMembers}
use Rattle.jer.specs.Skipped as skip
use Rattle.jer.specs.Skipped.{SkipAlike, SkipAlikeItems, SkipAlikeElements, SkipAlikeMembers}
use Rattle.jer.specs.Replaced.{Skips, in_items, in_elements, in_members, in_picked, SkipsItems, in_item, later_item, SkipsElements, in_element, later_element, surplus_element, SkipsMembers, in_member, later_member, unknown_member}
use Rattle.jer.proofs.AlikeElsewhere.{Made, more-brackets}
use Rattle.jer.proofs.AlikeSplit.{Split, behind, before, padded-split, first-element, later-elements, first_member, later-members}

-- ---- one level of the grammar, whatever is to hold of the tree

module _ (i : Json) where
  -- each text of the tree j splits at i, and with another value there has a tree of which K holds
  abbrev pub ValueSplits : Json → (Json → Type 0) → Type 0
  ValueSplits j K = (d p : ℕ) (bs : List ℕ) → Value d p j bs → Split i p bs (λ m cs. Made (λ k. Value (m + d) p k cs) K)

  abbrev PaddedSplits : Json → (Json → Type 0) → Type 0
  PaddedSplits j K = (d p : ℕ) (bs : List ℕ) → Padded d p j bs → Split i p bs (λ m cs. Made (λ k. Padded (m + d) p k cs) K)

  abbrev ElementsSplit : Items → (Items → Type 0) → Type 0
  ElementsSplit is L = (d p : ℕ) (bs : List ℕ) → Elements d p is bs → Split i p bs (λ m cs. Made (λ js. Elements (m + d) p js cs) L)

  abbrev NamedSplit : Members → (Members → Type 0) → Type 0
  NamedSplit ms L = (d p : ℕ) (bs : List ℕ) → Named d p ms bs → Split i p bs (λ m cs. Made (λ ns. Named (m + d) p ns cs) L)

  module _ (j : Json) (K : Json → Type 0) where
    in-padded : ValueSplits j K → PaddedSplits j K
    in-padded h d p bs (padded {xs = xs} {ys = ys} {zs = zs} x e v z f) =
        behind xs f
        (before {J = λ m cs. Made (λ k. Padded (m + d) p k (xs ++ cs)) K} zs refl (h d (past p xs) ys (rw e at v)) (λ m cs a. record { tree = a.tree; text = padded x refl a.text z refl; like = a.like }))
        (λ m cs a. a)

    first-in : (is : Items) (L : Items → Type 0) → ((k : Json) (js : Items) → K k → MovedItems is js → L (icons k js)) → PaddedSplits j K → ElementsSplit (icons j is) L
    first-in is L f h d p bs x =
        let u = first-element x in
        before u.rest u.whole (h d p _ u.text) (λ m cs a. let w = u.again m a.tree cs a.text in record { tree = _; text = w.text; like = f _ _ a.like w.like })

    first-named : (q : ℕ) (s : List ℕ) (ms : Members) (L : Members → Type 0) → ((k : Json) (ns : Members) → K k → MovedMembers ms ns → L (mcons q s k ns)) → PaddedSplits j K → NamedSplit (mcons q s j ms) L
    first-named q s ms L f h d p bs x =
        let u = first_member x in
        behind u.lead u.whole
        (before {J = λ m cs. Made (λ ns. Named (m + d) p ns (u.lead ++ cs)) L} u.rest refl (h d _ _ u.text)
        (λ m cs a. let w = u.again m a.tree cs a.text in record { tree = _; text = w.text; like = f _ _ a.like w.like }))
        (λ m cs a. a)

  later-in : (j : Json) (is : Items) (K L : Items → Type 0) → (is ≡ inil → ⊥) → ((k : Json) (js : Items) → Moved j k → K js → L (icons k js)) → ElementsSplit is K → ElementsSplit (icons j is) L
  later-in j is K L n f h d p bs x =
      let u = later-elements n x in
      behind u.lead u.whole (h d _ _ u.text) (λ m cs a. let w = u.again m a.tree cs a.text in record { tree = _; text = w.text; like = f _ _ w.like a.like })

  later-named : (q : ℕ) (s : List ℕ) (j : Json) (ms : Members) (K L : Members → Type 0) → (ms ≡ mnil → ⊥) → ((k : Json) (ns : Members) → Moved j k → K ns → L (mcons q s k ns)) → NamedSplit ms K
      → NamedSplit (mcons q s j ms) L
  later-named q s j ms K L n f h d p bs x =
      let u = later-members n x in
      behind u.lead u.whole (h d _ _ u.text) (λ m cs a. let w = u.again m a.tree cs a.text in record { tree = _; text = w.text; like = f _ _ w.like a.like })

  in_array : (o : ℕ) (is : Items) (L : Items → Type 0) (K : Json → Type 0) → (is ≡ inil → ⊥) → ((q : ℕ) (js : Items) → L js → K (jarr q js)) → ElementsSplit is L → ValueSplits (jarr o is) K
  unfolding past
  in_array o is L K n f h d p bs (no_elements x e) = absurd (n refl)
  in_array o is L K n f h d p bs (elements {d = c} {bs = xs} x) =
      behind (0x5B ∷ []) refl (h c (suc p) xs x) (λ m cs a. rw (more-brackets m c) record { tree = _; text = elements a.text; like = f _ _ a.like })

  in-object : (o : ℕ) (ms : Members) (L : Members → Type 0) (K : Json → Type 0) → (ms ≡ mnil → ⊥) → ((q : ℕ) (ns : Members) → L ns → K (jobj q ns)) → NamedSplit ms L → ValueSplits (jobj o ms) K
  unfolding past
  in-object o ms L K n f h d p bs (no_members x e) = absurd (n refl)
  in-object o ms L K n f h d p bs (members {d = c} {bs = xs} x) =
      behind (0x7B ∷ []) refl (h c (suc p) xs x) (λ m cs a. rw (more-brackets m c) record { tree = _; text = members a.text; like = f _ _ a.like })

-- ---- what is not on the way has only moved

moved-items : {t : Table} {r : ℕ} {is js : Items} → MovedItems is js → SkipAlikeItems t r is js
moved-items moved.no_item = skip.no_item
moved-items (moved.item h hs) = skip.item (skip.moved h) (moved-items hs)

moved-elements : {t : Table} {r n : ℕ} {is js : Items} → MovedItems is js → SkipAlikeElements t r n is js
moved-elements moved.no_item = skip.no_element
moved-elements (moved.item h hs) = skip.element (skip.moved h) (moved-elements hs)

moved-member : (t : Table) (r p q : ℕ) (s : List ℕ) {j k : Json} {ms ns : Members} → Moved j k → SkipAlikeMembers t r ms ns → SkipAlikeMembers t r (mcons p s j ms) (mcons q s k ns)
moved-member t r p q s {j} {k} {ms} {ns} h hs = go (position t r s) refl
  where
    go : (x : Option ℕ) → position t r s ≡ x → SkipAlikeMembers t r (mcons p s j ms) (mcons q s k ns)
    go None w = skip.unknown w hs
    go (Some i) w = skip.known w (skip.moved h) hs

moved-members : {t : Table} {r : ℕ} {ms ns : Members} → MovedMembers ms ns → SkipAlikeMembers t r ms ns
moved-members moved.no_member = skip.no_member
moved-members {t} {r} (moved.member {p = p} {q = q} {s = s} h hs) = moved-member t r p q s h (moved-members hs)

-- ---- the way to a skipped value

module _ {t : Table} {i : Json} where
  some_item : {r : ℕ} {is : Items} → SkipsItems t i r is → is ≡ inil → ⊥
  some_item (in_item h) e = let z : ◌≡◌ {A = ℕ} 0 1 = cc in omega arith
  some_item (later_item h) e = let z : ◌≡◌ {A = ℕ} 0 1 = cc in omega arith

  some-element : {r n : ℕ} {is : Items} → SkipsElements t i r n is → is ≡ inil → ⊥
  some-element (in_element h) e = let z : ◌≡◌ {A = ℕ} 0 1 = cc in omega arith
  some-element (later_element h) e = let z : ◌≡◌ {A = ℕ} 0 1 = cc in omega arith
  some-element (surplus_element l x w) e = let z : ◌≡◌ {A = ℕ} 0 1 = cc in omega arith

  some-member : {r : ℕ} {ms : Members} → SkipsMembers t i r ms → ms ≡ mnil → ⊥
  some-member (in_member a h) e = let z : ◌≡◌ {A = ℕ} 0 1 = cc in omega arith
  some-member (later_member h) e = let z : ◌≡◌ {A = ℕ} 0 1 = cc in omega arith
  some-member (unknown_member a x w) e = let z : ◌≡◌ {A = ℕ} 0 1 = cc in omega arith

module _ (t : Table) (i : Json) where
  picked-splits : (j : Json) (K L : Json → Type 0) → ((k : Json) → K k → L k) → ValueSplits i j K → ValueSplits i j L
  unfolding past
  picked-splits j K L f h d p bs v = behind [] refl (h d p bs v) (λ m cs a. record { tree = a.tree; text = a.text; like = f _ a.like })

  mutual
    pub splits : {r : ℕ} {j : Json} → Skips t i r j → ValueSplits i j (SkipAlike t r j)
    splits (in_items {r = r} {p = p} {is = is} c h) = in_array i p is _ _ (some_item h) (λ q js. skip.items c) (items-split h)
    splits (in_elements {r = r} {p = p} {is = is} c h) = in_array i p is _ _ (some-element h) (λ q js. skip.elements c) (elements-split h)
    splits (in_members {r = r} {p = p} {ms = ms} c h) = in-object i p ms _ _ (some-member h) (λ q ns. skip.members c) (members-split h)
    splits (in_picked {j = j} c a h) = picked-splits j _ _ (λ k. skip.picked c a) (splits h)

    items-split : {r : ℕ} {is : Items} → SkipsItems t i r is → ElementsSplit i is (SkipAlikeItems t r is)
    items-split (in_item {j = j} {is = is} h) = first-in i j _ is _ (λ k js a m. skip.item a (moved-items m)) (in-padded i j _ (splits h))
    items-split (later_item {j = j} {is = is} h) = later-in i j is _ _ (some_item h) (λ k js m a. skip.item (skip.moved m) a) (items-split h)

    elements-split : {r n : ℕ} {is : Items} → SkipsElements t i r n is → ElementsSplit i is (SkipAlikeElements t r n is)
    elements-split (in_element {j = j} {is = is} h) = first-in i j _ is _ (λ k js a m. skip.element a (moved-elements m)) (in-padded i j _ (splits h))
    elements-split (later_element {j = j} {is = is} h) = later-in i j is _ _ (some-element h) (λ k js m a. skip.element (skip.moved m) a) (elements-split h)
    elements-split (surplus_element {j = j} {is = is} l x w) = first-in i j (λ k. Unit {0}) is _ (λ k js a m. skip.surplus l x) (λ d p bs v. padded-split (rw w at v))

    members-split : {r : ℕ} {ms : Members} → SkipsMembers t i r ms → NamedSplit i ms (SkipAlikeMembers t r ms)
    members-split (in_member {p = p} {s = s} {j = j} {ms = ms} a h) = first-named i j _ p s ms _ (λ k ns b m. skip.known a b (moved-members m)) (in-padded i j _ (splits h))
    members-split (later_member {r = r} {p = p} {s = s} {j = j} {ms = ms} h) = later-named i p s j ms _ _ (some-member h) (λ k ns m a. moved-member t r p p s m a) (members-split h)
    members-split (unknown_member {p = p} {s = s} {j = j} {ms = ms} a x w) =
        first-named i j (λ k. Unit {0}) p s ms _ (λ k ns b m. skip.unknown a (moved-members m)) (λ d p bs v. padded-split (rw w at v))

  -- a text that has a skipped value in it splits there
  pub text-splits : {j : Json} {s : List ℕ} (d : ℕ) → Skips t i 0 j → Padded d 0 j s → Split i 0 s (λ m cs. Made (λ k. Padded (m + d) 0 k cs) (SkipAlike t 0 j))
  text-splits {j} {s} d h v = in-padded i j _ (splits h) d 0 s v
