-- The machine takes every text of the grammar, with its tree.
use Prim.Native.Nat.{ℕ, suc, ◌≤◌, ◌<◌}
use mathlib.Core.Path.{◌≡◌, refl, sym, ap, ◌∙◌}
use mathlib.Core.List.{List, [], ◌∷◌, ◌++◌, append-nil}
use mathlib.Core.Bool.{true, false}
use borrow.Author.Tests.{ne_eqb}
use native.Mathlib.Omega.{arith}
use Rattle.json_text.specs.Bytes.{pick, past}
use Rattle.json_text.specs.Tree.{Json, jnull, jbool, jstr, jarr, jobj, Items, inil, icons, isnoc, Members, mnil, mcons, msnoc}
use Rattle.json_text.specs.Grammar.{Space, Quoted, Value, literal_null, literal_true, literal_false, whole, real, string, no_elements, elements, no_members, members, Padded, padded, Elements, last_element, more_elements, Named, last_member, more_members, Name, name, Text}
use Rattle.json_text.specs.Machine.{m_text, Frame, in_arr, in_obj, Stack, base, ◌▹◌, room, as_name, as_value, State, s_val, s_elem, s_after, s_name0, s_name, s_colon, s_str, go, spaces, opened, starts, after, closed, lit_next, step, tree, ended, finish, run, parse_within}
use Rattle.json_text.proofs.Feed.{room-base, room_frame, pick-row, Feeds, stop, more, feeds_append, run-feeds, Idle, blank-row, feeds-space}
use Rattle.json_text.proofs.TakesString.{feeds-quoted}
use Rattle.json_text.proofs.TakesValue.{Starter, Opens, opens-val, opens_elem, Valued, valued, space-before, space-after, then_byte}
use Rattle.json_text.proofs.TakesNumber.{whole-valued, real-valued}
use Rattle.json_text.proofs.TakesTree.{iapp, iapp_snoc, iapp-last, mapp, mapp_snoc, mapp-last}

-- ---- literals and strings

-- a value's first byte leads where it leads from the state in which a value is due
starts_with : {b : ℕ} {bs : List ℕ} {st u w : State} {k : Stack} (p : ℕ) → Opens st k → Starter b → step p (s_val k) b ≡ go u → Feeds (suc p) u bs w → Feeds p st (b ∷ bs) w
starts_with {b} p o h e f = more (o.start p b h ∙ e) f

null-feeds : {st : State} {k : Stack} (p : ℕ) → Opens st k → Feeds p st (0x6E ∷ 0x75 ∷ 0x6C ∷ 0x6C ∷ []) (s_after (jnull p) k)
unfolding step pick spaces starts lit_next
null-feeds p o = starts_with p o (omega arith) refl (more refl (more refl (more refl stop)))

true-feeds : {st : State} {k : Stack} (p : ℕ) → Opens st k → Feeds p st (0x74 ∷ 0x72 ∷ 0x75 ∷ 0x65 ∷ []) (s_after (jbool p true) k)
unfolding step pick spaces starts lit_next
true-feeds p o = starts_with p o (omega arith) refl (more refl (more refl (more refl stop)))

false-feeds : {st : State} {k : Stack} (p : ℕ) → Opens st k → Feeds p st (0x66 ∷ 0x61 ∷ 0x6C ∷ 0x73 ∷ 0x65 ∷ []) (s_after (jbool p false) k)
unfolding step pick spaces starts lit_next
false-feeds p o = starts_with p o (omega arith) refl (more refl (more refl (more refl (more refl stop))))

first-quote : (p : ℕ) (k : Stack) → step p (s_val k) 0x22 ≡ go (s_str m_text as_value p [] k)
unfolding step pick spaces starts
first-quote p k = refl

string-feeds : {st : State} {k : Stack} {s bs : List ℕ} (p : ℕ) → Opens st k → Quoted s bs → Feeds p st bs (s_after (jstr p s) k)
unfolding closed
string-feeds {k = k} p o h = feeds-quoted as_value k (o.start p 0x22 (omega arith) ∙ first-quote p k) h

-- ---- brackets

opened-go : (k : Stack) (st : State) → 0 < room k → opened k st ≡ go st
unfolding opened
opened-go k st h = rw (ne_eqb (room k) 0 (λ e. omega arith), opened)

first-bracket : (p : ℕ) (k : Stack) → 0 < room k → step p (s_val k) 0x5B ≡ go (s_elem p k)
unfolding step pick spaces starts
first-bracket p k h = opened-go k (s_elem p k) h

first_brace : (p : ℕ) (k : Stack) → 0 < room k → step p (s_val k) 0x7B ≡ go (s_name0 p k)
unfolding step pick spaces starts
first_brace p k h = opened-go k (s_name0 p k) h

-- a bracket takes one of the room
room-inside : {d : ℕ} (f : Frame) (k : Stack) → suc d ≤ room k → d ≤ room (f ▹ k)
room-inside f k h = omega (arith, room_frame f k)

-- ---- arrays

bracket-closes : (p o : ℕ) (k : Stack) → step p (s_elem o k) 0x5D ≡ go (s_after (jarr o inil) k)
unfolding step pick spaces
bracket-closes p o k = refl

bracket-ends : (p o : ℕ) (is : Items) (j : Json) (k : Stack) → step p (s_after j (in_arr o is ▹ k)) 0x5D ≡ go (s_after (jarr o (isnoc is j)) k)
unfolding step pick spaces after
bracket-ends p o is j k = refl

comma-element : (p o : ℕ) (is : Items) (j : Json) (k : Stack) → step p (s_after j (in_arr o is ▹ k)) 0x2C ≡ go (s_val (in_arr o (isnoc is j) ▹ k))
unfolding step pick spaces after
comma-element p o is j k = refl

empty-array : {st : State} {k : Stack} {xs : List ℕ} (p : ℕ) → Opens st k → 0 < room k → Space xs → Feeds p st (0x5B ∷ xs ++ (0x5D ∷ [])) (s_after (jarr p inil) k)
empty-array {k = k} p o h z =
    starts_with p o (omega arith) (first-bracket p k h) (feeds_append (feeds-space (suc p) (opens_elem p k).idle z) (more (bracket-closes _ p k) stop))

array-feeds : {st : State} {k : Stack} {is : Items} {bs : List ℕ} (p : ℕ) → Opens st k → 0 < room k → Feeds (suc p) (s_elem p k) bs (s_after (jarr p (iapp inil is)) k)
    → Feeds p st (0x5B ∷ bs) (s_after (jarr p is) k)
unfolding iapp
array-feeds {k = k} p o h f = starts_with p o (omega arith) (first-bracket p k h) f

last-element : {p : ℕ} {st : State} {xs : List ℕ} {j : Json} (o : ℕ) (js : Items) (k : Stack) → Valued p st xs j (in_arr o js ▹ k)
    → Feeds p st (xs ++ (0x5D ∷ [])) (s_after (jarr o (iapp js (icons j inil))) k)
last-element {j = j} o js k v = rw (iapp-last js j) at (then_byte v (omega arith) (bracket-ends _ o js j k) stop)

next-element : {p : ℕ} {st : State} {xs ys : List ℕ} {j : Json} (o : ℕ) (js is : Items) (k : Stack) → Valued p st xs j (in_arr o js ▹ k)
    → Feeds (suc (past p xs)) (s_val (in_arr o (isnoc js j) ▹ k)) ys (s_after (jarr o (iapp (isnoc js j) is)) k)
    → Feeds p st (xs ++ (0x2C ∷ ys)) (s_after (jarr o (iapp js (icons j is))) k)
next-element {j = j} o js is k v f = rw (iapp_snoc js j is) at (then_byte v (omega arith) (comma-element _ o js j k) f)

-- ---- objects

-- a state that takes a name of the object at o after the members ms
pub record OpensName (st : State) (o : ℕ) (ms : Members) (k : Stack) : Type 0 where
  pub idle : Idle st
  pub start : (p : ℕ) → step p st 0x22 ≡ go (s_str m_text (as_name o ms) p [] k)

pub opens-first : (o : ℕ) (k : Stack) → OpensName (s_name0 o k) o mnil k
unfolding step spaces
opens-first o k = record { idle = λ p b h. blank-row _ _ _ h; start = λ p. pick-row 3 _ _ _ (omega arith) }

pub opens-name : (o : ℕ) (ms : Members) (k : Stack) → OpensName (s_name o ms k) o ms k
unfolding step spaces
opens-name o ms k = record { idle = λ p b h. blank-row _ _ _ h; start = λ p. pick-row 3 _ _ _ (omega arith) }

idle-colon : (o : ℕ) (ms : Members) (q : ℕ) (s : List ℕ) (k : Stack) → Idle (s_colon o ms q s k)
unfolding step
idle-colon o ms q s k p b h = blank-row _ _ _ h

colon-step : (p o : ℕ) (ms : Members) (q : ℕ) (s : List ℕ) (k : Stack) → step p (s_colon o ms q s k) 0x3A ≡ go (s_val (in_obj o ms q s ▹ k))
unfolding step pick spaces
colon-step p o ms q s k = refl

brace_closes : (p o : ℕ) (k : Stack) → step p (s_name0 o k) 0x7D ≡ go (s_after (jobj o mnil) k)
unfolding step pick spaces
brace_closes p o k = refl

brace_ends : (p o : ℕ) (ms : Members) (q : ℕ) (s : List ℕ) (j : Json) (k : Stack) → step p (s_after j (in_obj o ms q s ▹ k)) 0x7D ≡ go (s_after (jobj o (msnoc ms q s j)) k)
unfolding step pick spaces after
brace_ends p o ms q s j k = refl

comma-member : (p o : ℕ) (ms : Members) (q : ℕ) (s : List ℕ) (j : Json) (k : Stack) → step p (s_after j (in_obj o ms q s ▹ k)) 0x2C ≡ go (s_name o (msnoc ms q s j) k)
unfolding step pick spaces after
comma-member p o ms q s j k = refl

empty-object : {st : State} {k : Stack} {xs : List ℕ} (p : ℕ) → Opens st k → 0 < room k → Space xs → Feeds p st (0x7B ∷ xs ++ (0x7D ∷ [])) (s_after (jobj p mnil) k)
empty-object {k = k} p o h z =
    starts_with p o (omega arith) (first_brace p k h) (feeds_append (feeds-space (suc p) (opens-first p k).idle z) (more (brace_closes _ p k) stop))

object-feeds : {st : State} {k : Stack} {ms : Members} {bs : List ℕ} (p : ℕ) → Opens st k → 0 < room k → Feeds (suc p) (s_name0 p k) bs (s_after (jobj p (mapp mnil ms)) k)
    → Feeds p st (0x7B ∷ bs) (s_after (jobj p ms) k)
unfolding mapp
object-feeds {k = k} p o h f = starts_with p o (omega arith) (first_brace p k h) f

-- a string where a name may begin
quoted-name : {p o : ℕ} {st : State} {ms : Members} {k : Stack} {s bs : List ℕ} → OpensName st o ms k → Quoted s bs → Feeds p st bs (s_colon o ms p s k)
unfolding closed
quoted-name {p} {o} {ms = ms} {k = k} n h = feeds-quoted (as_name o ms) k (n.start p) h

-- a name with its colon
name-feeds : {p q r o : ℕ} {st : State} {ms : Members} {k : Stack} {s bs : List ℕ} → OpensName st o ms k → Name p q r s bs → Feeds p st bs (s_val (in_obj o ms q s ▹ k))
name-feeds {p} {o = o} {ms = ms} {k = k} n (name {s = s} z e h y d c) =
    rw (d, e)
    (feeds_append (feeds-space p n.idle z)
    (feeds_append (quoted-name n h) (feeds_append (feeds-space _ (idle-colon o ms _ s k) y) (more (colon-step _ o ms _ s k) stop))))

-- where a name ends, its value begins
name-past : {p q r : ℕ} {s bs : List ℕ} → Name p q r s bs → r ≡ past p bs
name-past (name z e h y d c) = c

-- a name, and what follows it
name-then : {p q r o : ℕ} {st w : State} {ms : Members} {k : Stack} {s xs ys : List ℕ} → OpensName st o ms k → Name p q r s xs → Feeds r (s_val (in_obj o ms q s ▹ k)) ys w
    → Feeds p st (xs ++ ys) w
name-then n m f = feeds_append (name-feeds n m) (rw (name-past m) at f)

last-member : {r q : ℕ} {s ys : List ℕ} {st : State} {j : Json} (o : ℕ) (ns : Members) (k : Stack) → Valued r st ys j (in_obj o ns q s ▹ k)
    → Feeds r st (ys ++ (0x7D ∷ [])) (s_after (jobj o (mapp ns (mcons q s j mnil))) k)
last-member {q = q} {s = s} {j = j} o ns k v = rw (mapp-last ns q s j) at (then_byte v (omega arith) (brace_ends _ o ns q s j k) stop)

next-member : {r q : ℕ} {s ys zs : List ℕ} {st : State} {j : Json} (o : ℕ) (ns ms : Members) (k : Stack) → Valued r st ys j (in_obj o ns q s ▹ k)
    → Feeds (suc (past r ys)) (s_name o (msnoc ns q s j) k) zs (s_after (jobj o (mapp (msnoc ns q s j) ms)) k)
    → Feeds r st (ys ++ (0x2C ∷ zs)) (s_after (jobj o (mapp ns (mcons q s j ms))) k)
next-member {q = q} {s = s} {j = j} o ns ms k v f = rw (mapp_snoc ns q s j ms) at (then_byte v (omega arith) (comma-member _ o ns q s j k) f)

-- ---- values

mutual
  pub value_taken : {d p : ℕ} {j : Json} {bs : List ℕ} → Value d p j bs → (st : State) (k : Stack) → Opens st k → d ≤ room k → Valued p st bs j k
  value_taken (literal_null {p = p}) st k o h = valued _ k (null-feeds p o)
  value_taken (literal_true {p = p}) st k o h = valued _ k (true-feeds p o)
  value_taken (literal_false {p = p}) st k o h = valued _ k (false-feeds p o)
  value_taken (whole {p = p} w) st k o h = whole-valued p o w
  value_taken (real {p = p} w b e) st k o h = rw e (real-valued p o w b)
  value_taken (string {p = p} q) st k o h = valued _ k (string-feeds p o q)
  value_taken (no_elements {p = p} z e) st k o h = rw e (valued _ k (empty-array p o (omega arith) z))
  value_taken (elements {p = p} f) st k o h = valued _ k (array-feeds p o (omega arith) (elements-taken f (s_elem p k) p inil k (opens_elem p k) h))
  value_taken (no_members {p = p} z e) st k o h = rw e (valued _ k (empty-object p o (omega arith) z))
  value_taken (members {p = p} f) st k o h = valued _ k (object-feeds p o (omega arith) (members-taken f (s_name0 p k) p mnil k (opens-first p k) h))

  pub padded-taken : {d p : ℕ} {j : Json} {bs : List ℕ} → Padded d p j bs → (st : State) (k : Stack) → Opens st k → d ≤ room k → Valued p st bs j k
  padded-taken (padded z q v y e) st k o h = rw e (space-before o.idle z (space-after (rw q at (value_taken v st k o h)) y))

  pub elements-taken : {d p : ℕ} {is : Items} {bs : List ℕ} → Elements d p is bs → (st : State) (o : ℕ) (js : Items) (k : Stack) → Opens st (in_arr o js ▹ k) → suc d ≤ room k
      → Feeds p st bs (s_after (jarr o (iapp js is)) k)
  elements-taken (last_element v e) st o js k n h = rw e (last-element o js k (padded-taken v st (in_arr o js ▹ k) n (room-inside _ k h)))
  elements-taken (more_elements {j = j} {is = is} v q t e) st o js k n h =
      rw e
      (next-element o js is k (padded-taken v st (in_arr o js ▹ k) n (room-inside _ k h))
      (rw q at (elements-taken t (s_val (in_arr o (isnoc js j) ▹ k)) o (isnoc js j) k (opens-val _) h)))

  pub members-taken : {d p : ℕ} {ms : Members} {bs : List ℕ} → Named d p ms bs → (st : State) (o : ℕ) (ns : Members) (k : Stack) → OpensName st o ns k → suc d ≤ room k
      → Feeds p st bs (s_after (jobj o (mapp ns ms)) k)
  members-taken (last_member {q = q} {s = s} m v e) st o ns k n h =
      rw e (name-then n m (last-member o ns k (padded-taken v (s_val (in_obj o ns q s ▹ k)) (in_obj o ns q s ▹ k) (opens-val _) (room-inside _ k h))))
  members-taken (more_members {q = q} {s = s} {j = j} {ms = ms} m v w t e) st o ns k n h =
      rw e
      (name-then n m
      (next-member o ns ms k (padded-taken v (s_val (in_obj o ns q s ▹ k)) (in_obj o ns q s ▹ k) (opens-val _) (room-inside _ k h))
      (rw w at (members-taken t (s_name o (msnoc ns q s j) k) o (msnoc ns q s j) k (opens-name o _ k) h))))

-- the machine takes every text of the grammar, with its tree
pub takes_text : (d : ℕ) (j : Json) (bs : List ℕ) → Text d j bs → parse_within d bs ≡ tree j
unfolding parse_within run finish ended
takes_text d j bs t =
    let v = padded-taken t (s_val (base d)) (base d) (opens-val _) (omega (arith, room-base d)) in
    ap (λ (x : List ℕ). run 0 (s_val (base d)) x) (sym (append-nil bs)) ∙ run-feeds v.feeds [] ∙ v.ends.last _
