-- White space before a part of the grammar belongs to it.
use Prim.Native.Nat.{ℕ, suc}
use mathlib.Core.Path.{◌≡◌, refl}
use mathlib.Core.List.{List, ◌∷◌}
use mathlib.Core.Bool.{Bool, true, false}
use native.Mathlib.Omega.{arith}
use lib.Dec.{eqb}
use borrow.Author.Tests.{eqb-true, eqb-false}
use Rattle.json_text.specs.Bytes.{In, Row, pick, past}
use Rattle.json_text.specs.Tree.{Json, Items, Members}
use Rattle.json_text.specs.Grammar.{Space, tab, feed, return, blank, Padded, padded, Elements, last_element, more_elements, Named, last_member, more_members, Name, name}
use Rattle.json_text.specs.Machine.{Stack, State, Step, go, spaces}
use Rattle.json_text.proofs.SoundRows.{Within, pick-within, ◌⨾◌, only, behind}
use Rattle.json_text.proofs.SoundRest.{ItemsTail, items_end, items_more, MembersTail, members_end, members_more, Led, led, next_items, NextMembers, next_members, InArray, no_items, some_items, InObject, no_names, some_names, Colon, colon, After, at_base, at_array, at_object}

-- the byte is white space
pub data White : ℕ → Type 0 where
  white : {b : ℕ} → ((xs : List ℕ) → Space xs → Space (b ∷ xs)) → White b

tab_or_feed : {b : ℕ} → In 0x09 0x0A b → White b
tab_or_feed {b = b} i = go (eqb b 0x09) refl
  where
    go : (c : Bool) → eqb b 0x09 ≡ c → White b
    go true e = rw (eqb-true b 0x09 e) (white (λ xs. tab))
    go false e = let n = eqb-false b 0x09 e in let f : b ≡ 0x0A = omega arith in rw f (white (λ xs. feed))

-- the rows of white space, and then others
pub pick-spaced : (Q : Step → Type 0) (b : ℕ) (st : State) (rs : List (Row Step)) (d : Step) → (White b → Q (go st)) → Within Q b rs → Q d → Q (pick b (spaces st rs) d)
unfolding spaces
pick-spaced Q b st rs d h k z =
    pick-within Q b _ _ ((λ i. h (rw (only i) (white (λ xs. blank)))) ⨾ (λ i. h (tab_or_feed i)) ⨾ (λ i. h (rw (only i) (white (λ xs. return)))) ⨾ k) z

pub white-led : {d p b : ℕ} {j : Json} {bs : List ℕ} → White b → Led d (suc p) j bs → Led d p j (b ∷ bs)
unfolding past
white-led (white w) (led {xs = xs} s e v h) = led (w xs s) e v (behind h)

white-padded : {d p b : ℕ} {j : Json} {bs : List ℕ} → White b → Padded d (suc p) j bs → Padded d p j (b ∷ bs)
unfolding past
white-padded (white w) (padded {xs = xs} s e v t h) = padded (w xs s) e v t (behind h)

white-elements : {d p b : ℕ} {is : Items} {bs : List ℕ} → White b → Elements d (suc p) is bs → Elements d p is (b ∷ bs)
unfolding past
white-elements w (last_element v h) = last_element (white-padded w v) (behind h)
white-elements w (more_elements v e r h) = more_elements (white-padded w v) e r (behind h)

white-name : {p q r b : ℕ} {s bs : List ℕ} → White b → Name (suc p) q r s bs → Name p q r s (b ∷ bs)
unfolding past
white-name (white w) (name {xs = xs} s e u t h g) = name (w xs s) e u t (behind h) g

white-named : {d p b : ℕ} {ms : Members} {bs : List ℕ} → White b → Named d (suc p) ms bs → Named d p ms (b ∷ bs)
white-named w (last_member n v h) = last_member (white-name w n) v (behind h)
white-named w (more_members n v e r h) = more_members (white-name w n) v e r (behind h)

pub white-array : {d p o b : ℕ} {j : Json} {bs : List ℕ} → White b → InArray d (suc p) o j bs → InArray d p o j (b ∷ bs)
white-array (white w) (no_items {xs = xs} s h e) = no_items (w xs s) (behind h) e
white-array w (some_items (next_items r e)) = some_items (next_items (white-elements w r) e)

pub white-members : {d p o b : ℕ} {ms : Members} {j : Json} {bs : List ℕ} → White b → NextMembers d (suc p) o ms j bs → NextMembers d p o ms j (b ∷ bs)
white-members w (next_members r e) = next_members (white-named w r) e

pub white-object : {d p o b : ℕ} {j : Json} {bs : List ℕ} → White b → InObject d (suc p) o j bs → InObject d p o j (b ∷ bs)
white-object (white w) (no_names {xs = xs} s h e) = no_names (w xs s) (behind h) e
white-object w (some_names r) = some_names (white-members w r)

pub white-colon : {d p o q b : ℕ} {ms : Members} {s : List ℕ} {j : Json} {bs : List ℕ} → White b → Colon d (suc p) o ms q s j bs → Colon d p o ms q s j (b ∷ bs)
unfolding past
white-colon (white w) (colon {xs = xs} s r h) = colon (w xs s) r (behind h)

white-items : {d p b : ℕ} {is : Items} {bs : List ℕ} → White b → ItemsTail d (suc p) is bs → ItemsTail d p is (b ∷ bs)
unfolding past
white-items (white w) (items_end {xs = xs} s h) = items_end (w xs s) (behind h)
white-items (white w) (items_more {xs = xs} s e r h) = items_more (w xs s) e r (behind h)

white-tail : {d p b : ℕ} {ms : Members} {bs : List ℕ} → White b → MembersTail d (suc p) ms bs → MembersTail d p ms (b ∷ bs)
unfolding past
white-tail (white w) (members_end {xs = xs} s h) = members_end (w xs s) (behind h)
white-tail (white w) (members_more {xs = xs} s e r h) = members_more (w xs s) e r (behind h)

pub white-after : {top j : Json} {p b : ℕ} {k : Stack} {bs : List ℕ} → White b → After top (suc p) j k bs → After top p j k (b ∷ bs)
unfolding past
white-after (white w) (at_base {xs = xs} s e) = at_base (w xs s) e
white-after w (at_array t a e) = at_array (white-items w t) a (behind e)
white-after w (at_object t a e) = at_object (white-tail w t) a (behind e)
