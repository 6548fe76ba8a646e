-- Demand 2 on trees: what a tree is read as, it is read as with other options of its sender.
use Rattle.jer.specs.declared.Token.TheVariants as tok
use Prim.Native.Nat.{ℕ}
use mathlib.Core.Path.{◌≡◌, refl}
use mathlib.Core.List.{List}
use mathlib.Core.Bool.{Bool, true, false}
use Rattle.std.specs.Prelude.{Option, Some}
use native.Mathlib.Omega.{arith}
use Rattle.json_text.specs.Tree.{Json, jint, jstr, jarr, jobj, Items, Members, mnil, mcons, place_of}
use Rattle.jer.specs.Table.{Table, INTEGER, OCTET-STRING, SEQUENCE, SEQUENCE-OF, CHOICE, kind_of, is_array, is_unwrapped, element_of, count_of, type_at, position, alternative}
use Rattle.jer.specs.Value.{Val, v_int, v_choice}
use Rattle.jer.specs.Answer.{ok}
use Rattle.jer.specs.Read.{read_int, octets_of, read_chosen, read_choice, null?, read, elements}
use Rattle.jer.specs.Moved.{token_in}
use Rattle.jer.specs.Skipped.{same_value}
use Rattle.jer.specs.Respelled as spell
use Rattle.jer.specs.Respelled.{NamesTaken, Respelled, RespelledItems, RespelledElements, RespelledMembers, RespelledMember}
use Rattle.jer.specs.Sane.{Sane}
use Rattle.jer.proofs.ValidLaws.{alternative-some}
use Rattle.jer.proofs.OlderAgrees.{Each, end, more}
use Rattle.jer.proofs.AlikeRead.{octets_as, items_as, elements_as, object_as, choice_as, picked_as}
use Rattle.jer.proofs.AlikeSame.{octets-same, kind-same, unwrapping-same}
use Rattle.jer.proofs.AlikeMoved.{same-null, moved-token, moved_same}
use Rattle.jer.proofs.AlikeKept.{Keeps, keeps_same, keeps-map, KeptAt, items_kept, KeptFrom, none_kept, element-kept, dropped-kept, added-kept, surplus-kept}
use Rattle.jer.proofs.AlikeNames.{MemberKept, present-kept, absent-kept, null-left, null-right, MembersKept, last-kept, next-kept, object-kept}

pub respelled_token : {t : Table} {r : ℕ} {j k : Json} → Respelled t r j k → token_in j ≡ token_in k
unfolding token_in
respelled_token (spell.moved h) = moved-token h
respelled_token spell.minus_zero = refl
respelled_token (spell.letter_case c e) = refl
respelled_token (spell.items c h) = refl
respelled_token (spell.elements c h) = refl
respelled_token (spell.members c a m n h) = refl
respelled_token (spell.chosen c w a h) = refl
respelled_token (spell.picked c a h) = respelled_token h

respelled_null : {t : Table} {r : ℕ} {j k : Json} → Respelled t r j k → null? j ≡ null? k
respelled_null {j = j} {k = k} h = same-null j k (respelled_token h)

-- ---- each case at its row

zero-read : (p : ℕ) (m : Bool) → read_int p m 0 ≡ ok (v_int 0)
unfolding read_int
zero-read p true = refl
zero-read p false = refl

module _ (t : Table) (g : Sane t) (r : ℕ) where
  zero-case : (p q : ℕ) (m n : Bool) → Keeps (read (jint p m 0) t r) (read (jint q n 0) t r)
  unfolding read
  zero-case p q m n = keeps_same (unwrapping-same t p q tok.Number _ _ (λ r. kind-same t p q INTEGER r (rw (zero-read p m, zero-read q n) same_value)) r)

  octets-case : (p q : ℕ) (s u : List ℕ) → kind_of t r ≡ OCTET-STRING → octets_of t r s ≡ octets_of t r u → Keeps (read (jstr p s) t r) (read (jstr q u) t r)
  octets-case p q s u c e = rw (octets_as t r p s c, octets_as t r q u c, e) (keeps_same (octets-same t p q (octets_of t r u)))

  items-case : (p q : ℕ) (is js : Items) → kind_of t r ≡ SEQUENCE-OF → Each (KeptAt (element_of t r)) (elements is t) (elements js t) → Keeps (read (jarr p is) t r) (read (jarr q js) t r)
  items-case p q is js c h = rw (items_as t r p is c, items_as t r q js c) (keeps-map _ (items_kept (element_of t r) h))

  elements-case : (p q : ℕ) (is js : Items) → is_array t r ≡ true → KeptFrom t r 0 (elements is t) (elements js t) → Keeps (read (jarr p is) t r) (read (jarr q js) t r)
  elements-case p q is js c h = rw (elements_as t r p is c, elements_as t r q js c) (keeps-map _ (h p q (count_of t r) (omega arith)))

  members-case : (p q : ℕ) (ms ns : Members) → kind_of t r ≡ SEQUENCE → is_array t r ≡ false → NamesTaken t r ms → NamesTaken t r ns → MembersKept t r 0 ms ns
      → Keeps (read (jobj p ms) t r) (read (jobj q ns) t r)
  members-case p q ms ns c a m n h = rw (object_as t r p ms c a, object_as t r q ns c a) (object-kept t r p q ms ns m n h)

  chosen-case : (p q a b i : ℕ) (s : List ℕ) (j k : Json) → kind_of t r ≡ CHOICE → is_unwrapped t r ≡ false → position t r s ≡ Some i → Keeps (read j t (type_at t r i)) (read k t (type_at t r i))
      → Keeps (read (jobj p (mcons a s j mnil)) t r) (read (jobj q (mcons b s k mnil)) t r)
  unfolding read read_choice read_chosen
  chosen-case p q a b i s j k c w e h = rw (choice_as t r p (mcons a s j mnil) c w, choice_as t r q (mcons b s k mnil) c w, e) (keeps-map (v_choice i) h)

  picked-case : (i : ℕ) (j k : Json) → is_unwrapped t r ≡ true → alternative t r (token_in j) ≡ Some i → token_in j ≡ token_in k → Keeps (read j t (type_at t r i)) (read k t (type_at t r i))
      → Keeps (read j t r) (read k t r)
  picked-case i j k c a e h =
      let u = g.plain r i c (alternative-some t r (token_in j) i a).0 in
      rw (picked_as j t r i c a u, picked_as k t r i c (rw e at a) u) (keeps-map (v_choice i) h)

-- ---- trees

module _ (t : Table) (g : Sane t) where
  mutual
    unfolding read null? place_of

    kept : {r : ℕ} {j k : Json} → Respelled t r j k → Keeps (read j t r) (read k t r)
    kept (spell.moved {r = r} h) = keeps_same (moved_same t g h r)
    kept (spell.minus_zero {r = r} {p = p} {q = q} {m = m} {n = n}) = zero-case t g r p q m n
    kept (spell.letter_case {r = r} {p = p} {q = q} {s = s} {u = u} c e) = octets-case t g r p q s u c e
    kept (spell.items {r = r} {p = p} {q = q} {is = is} {js = js} c h) = items-case t g r p q is js c (kept-items h)
    kept (spell.elements {r = r} {p = p} {q = q} {is = is} {js = js} c h) = elements-case t g r p q is js c (kept-elements h)
    kept (spell.members {r = r} {p = p} {q = q} {ms = ms} {ns = ns} c a m n h) = members-case t g r p q ms ns c a m n (kept-members h)
    kept (spell.chosen {r = r} {p = p} {q = q} {a = a} {b = b} {i = i} {s = s} {j = j} {k = k} c w e h) = chosen-case t g r p q a b i s j k c w e (kept h)
    kept (spell.picked {r = r} {i = i} {j = j} {k = k} c a h) = picked-case t g r i j k c a (respelled_token h) (kept h)

    kept-items : {r : ℕ} {is js : Items} → RespelledItems t r is js → Each (KeptAt r) (elements is t) (elements js t)
    kept-items spell.no_item = end
    kept-items (spell.item h hs) = more (kept h) (kept-items hs)

    kept-elements : {r i : ℕ} {is js : Items} → RespelledElements t r i is js → KeptFrom t r i (elements is t) (elements js t)
    kept-elements (spell.no_element {r = r} {i = i}) = none_kept t r i
    kept-elements (spell.element {r = r} {i = i} h hs) = element-kept t r i _ _ _ _ (respelled_null h) (kept h) (kept-elements hs)
    kept-elements (spell.null_dropped {r = r} {i = i} {p = p} l hs) = dropped-kept t r i p _ l (kept-elements hs)
    kept-elements (spell.null_added {r = r} {i = i} {q = q} l hs) = added-kept t r i q _ l (kept-elements hs)
    kept-elements (spell.surplus {r = r} {i = i} l x) = surplus-kept t r i _ _ l x

    kept-members : {r i : ℕ} {ms ns : Members} → RespelledMembers t r i ms ns → MembersKept t r i ms ns
    kept-members (spell.no_member {r = r} {i = i} {ms = ms} {ns = ns} l) = last-kept t r i ms ns l
    kept-members (spell.member {r = r} {i = i} {ms = ms} {ns = ns} h hs) = next-kept t r i ms ns (kept-member h) (kept-members hs)

    kept-member : {r i : ℕ} {x y : Option Json} → RespelledMember t r i x y → MemberKept t r i x y
    kept-member (spell.present {r = r} {i = i} {j = j} {k = k} h) = present-kept t r i j k (respelled_null h) (kept h)
    kept-member (spell.absent {r = r} {i = i}) = absent-kept t r i
    kept-member (spell.null_left {r = r} {i = i} {p = p} a) = null-left t r i p a
    kept-member (spell.null_right {r = r} {i = i} {q = q} a) = null-right t r i q a

pub respelled_reads : {t : Table} {r : ℕ} {j k : Json} {v : Val} → Sane t → Respelled t r j k → read j t r ≡ ok v → read k t r ≡ ok v
respelled_reads {t} {v = v} g h e = (kept t g h).keeps v e
