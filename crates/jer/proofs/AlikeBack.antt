-- Respelling can be undone: the relation is symmetric, and every tree is a respelling of itself.
use Prim.Native.Nat.{ℕ}
use mathlib.Core.Path.{sym}
use Rattle.std.specs.Prelude.{Option}
use Rattle.json_text.specs.Tree.{Json, jnull, jbool, jint, jreal, jstr, jarr, jobj, Items, inil, icons, Members, mnil, mcons}
use Rattle.jer.specs.Table.{Table}
use Rattle.jer.specs.Moved.{Moved, null, boolean, number, real, string, array, object, MovedItems, no_item, item, MovedMembers, no_member, member}
use Rattle.jer.specs.Respelled as spell
use Rattle.jer.specs.Respelled.{Respelled, RespelledItems, RespelledElements, RespelledMembers, RespelledMember}
use Rattle.jer.proofs.AlikeRespelled.{respelled_token}

mutual
  pub moved_back : {j k : Json} → Moved j k → Moved k j
  moved_back null = null
  moved_back boolean = boolean
  moved_back number = number
  moved_back real = real
  moved_back string = string
  moved_back (array h) = array (items_back h)
  moved_back (object h) = object (members-back h)

  items_back : {is js : Items} → MovedItems is js → MovedItems js is
  items_back no_item = no_item
  items_back (item h hs) = item (moved_back h) (items_back hs)

  members-back : {ms ns : Members} → MovedMembers ms ns → MovedMembers ns ms
  members-back no_member = no_member
  members-back (member h hs) = member (moved_back h) (members-back hs)

mutual
  pub moved-itself : (j : Json) → Moved j j
  moved-itself (jnull p) = null
  moved-itself (jbool p b) = boolean
  moved-itself (jint p m n) = number
  moved-itself (jreal p) = real
  moved-itself (jstr p s) = string
  moved-itself (jarr p is) = array (items-itself is)
  moved-itself (jobj p ms) = object (members-itself ms)

  items-itself : (is : Items) → MovedItems is is
  items-itself inil = no_item
  items-itself (icons j is) = item (moved-itself j) (items-itself is)

  members-itself : (ms : Members) → MovedMembers ms ms
  members-itself mnil = no_member
  members-itself (mcons p s j ms) = member (moved-itself j) (members-itself ms)

mutual
  pub respelled_back : {t : Table} {r : ℕ} {j k : Json} → Respelled t r j k → Respelled t r k j
  respelled_back (spell.moved h) = spell.moved (moved_back h)
  respelled_back spell.minus_zero = spell.minus_zero
  respelled_back (spell.letter_case c e) = spell.letter_case c (sym e)
  respelled_back (spell.items c h) = spell.items c (back_items h)
  respelled_back (spell.elements c h) = spell.elements c (back-elements h)
  respelled_back (spell.members c a m n h) = spell.members c a n m (back-members h)
  respelled_back (spell.chosen c w a h) = spell.chosen c w a (respelled_back h)
  respelled_back (spell.picked c a h) = spell.picked c (rw (respelled_token h) at a) (respelled_back h)

  back_items : {t : Table} {r : ℕ} {is js : Items} → RespelledItems t r is js → RespelledItems t r js is
  back_items spell.no_item = spell.no_item
  back_items (spell.item h hs) = spell.item (respelled_back h) (back_items hs)

  back-elements : {t : Table} {r i : ℕ} {is js : Items} → RespelledElements t r i is js → RespelledElements t r i js is
  back-elements spell.no_element = spell.no_element
  back-elements (spell.element h hs) = spell.element (respelled_back h) (back-elements hs)
  back-elements (spell.null_dropped l hs) = spell.null_added l (back-elements hs)
  back-elements (spell.null_added l hs) = spell.null_dropped l (back-elements hs)
  back-elements (spell.surplus l x) = spell.surplus l x

  back-members : {t : Table} {r i : ℕ} {ms ns : Members} → RespelledMembers t r i ms ns → RespelledMembers t r i ns ms
  back-members (spell.no_member l) = spell.no_member l
  back-members (spell.member h hs) = spell.member (back-member h) (back-members hs)

  back-member : {t : Table} {r i : ℕ} {x y : Option Json} → RespelledMember t r i x y → RespelledMember t r i y x
  back-member (spell.present h) = spell.present (respelled_back h)
  back-member spell.absent = spell.absent
  back-member (spell.null_left a) = spell.null_right a
  back-member (spell.null_right a) = spell.null_left a
