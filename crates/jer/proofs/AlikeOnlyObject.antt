-- Objects that are read as the same value are respellings of one another.
use Rattle.std.specs.Prelude.{is_some}
use Rattle.jer.specs.declared.Token.TheVariants as tok
use Prim.Native.Nat.{ℕ, zero, suc, ◌+◌}
use mathlib.Core.Path.{◌≡◌, refl, sym, ◌∙◌}
use mathlib.Core.List.{List, [], ◌∷◌}
use mathlib.Core.Bool.{true, false, ◌&&◌}
use Rattle.std.specs.Prelude.{Option, None, Some}
use native.Mathlib.Omega.{arith}
use Rattle.json_text.specs.Tree.{Json, jobj, Members, mnil, mcons}
use Rattle.jer.specs.Table.{Table, SEQUENCE, CHOICE, kind_of, extensible, is_array, is_unwrapped, count_of, type_at, name_at, may_miss, position}
use Rattle.jer.specs.Value.{Val, v_choice, Parts, absent, present}
use Rattle.jer.specs.Answer.{Res, ok}
use Rattle.jer.specs.Read.{Entry, lookup, names_good, null_absent, read_member, read_members, read_object, read_chosen, read_choice, null?, read, entries}
use Rattle.jer.specs.Respelled as spell
use Rattle.jer.specs.Respelled.{held, NamesTaken, Respelled, RespelledMembers, RespelledMember}
use Rattle.jer.proofs.ValidLaws.{same_bytes-refl}
use Rattle.jer.proofs.ValidRows.{both}
use Rattle.jer.proofs.WeightGot.{cases, refused, nothing, got, found, steps}
use Rattle.jer.proofs.WeightParts.{with_absent_lem, with_present_lem}
use Rattle.jer.proofs.OlderChoice.{refused-both}
use Rattle.jer.proofs.AlikeNames.{entry_of, Holds, empty, holds, Ahead, same, other, ahead, Listed, listed}
use Rattle.jer.proofs.AlikeOnly.{Shape, is_null, same_name, Only}
use Rattle.jer.proofs.AlikeOnlyArray.{null-shape, nulls}

-- each member's value is read as what only its respellings are read as
abbrev pub OnlyMembers : Table → Members → Type 0
OnlyMembers t mnil = Unit {0}
OnlyMembers t (mcons p s j ms) = ((r : ℕ) → Only t j r) × OnlyMembers t ms

held-only : (t : Table) (ms : Members) → OnlyMembers t ms → (s : List ℕ) (j : Json) → held ms s ≡ Some j → (r : ℕ) → Only t j r
unfolding held
held-only t mnil h s j e r = nothing e
held-only t (mcons p u i ms) h s j e r = go (ahead t s p u i ms) (λ f. held-only t ms h.1 s j f r)
  where
    go : Ahead t s p u i ms → (held ms s ≡ Some j → Only t j r) → Only t j r
    go (same v k l) ih = rw (found (sym k ∙ e)) at (h.0 r)
    go (other k l) ih = ih (sym k ∙ e)

-- ---- the names of an object that is read

data Named (t : Table) (r p : ℕ) (s : List ℕ) (j : Json) (ms : Members) (xs list : List Entry) : Type 0 where
  known : {i : ℕ} → position t r s ≡ Some i → lookup s xs ≡ None → names_good t r (entry_of t p s j ∷ xs) (entries ms t) ≡ ok list → Named t r p s j ms xs list
  unknown : position t r s ≡ None → extensible t r ≡ true → names_good t r xs (entries ms t) ≡ ok list → Named t r p s j ms xs list

module _ (t : Table) (r : ℕ) where
  named : (p : ℕ) (s : List ℕ) (j : Json) (ms : Members) (xs list : List Entry) → names_good t r xs (entries (mcons p s j ms) t) ≡ ok list → Named t r p s j ms xs list
  unfolding names_good read
  named p s j ms xs list e = go (position t r s) refl
    where
      absence : (x : Option Entry) → is_some x ≡ false → x ≡ None
      absence None w = refl
      absence (Some f) w = cc

      go : (x : Option ℕ) → position t r s ≡ x → Named t r p s j ms xs list
      go None w = cases (extensible t r) (λ x f. unknown w x f) (λ x f. refused f) (rw (w, names_good) at e)
      go (Some i) w = cases (is_some (lookup s xs)) (λ x f. refused f) (λ x f. known w (absence (lookup s xs) x) f) (rw (w, names_good) at e)

  -- a name that was met is not held again
  not-again : (ms : Members) (xs list : List Entry) → names_good t r xs (entries ms t) ≡ ok list → (u : List ℕ) (i : ℕ) → position t r u ≡ Some i → (f : Entry) → lookup u xs ≡ Some f → held ms u ≡ None
  unfolding held
  not-again mnil xs list e u i k f m = refl
  not-again (mcons p s j ms) xs list e u i k f m =
      go (named p s j ms xs list e) (ahead t u p s j ms) (λ ys c. not-again ms ys list c u i k f)
    where
      go : Named t r p s j ms xs list → Ahead t u p s j ms → ((ys : List Entry) → names_good t r ys (entries ms t) ≡ ok list → lookup u ys ≡ Some f → held ms u ≡ None) → held (mcons p s j ms) u ≡ None
      go (known a b c) (same v _ _) ih = nothing (sym b ∙ (rw (← v) at m))
      go (known a b c) (other v l) ih = v ∙ ih (entry_of t p s j ∷ xs) c (l xs ∙ m)
      go (unknown a b c) (same v _ _) ih = nothing (sym (rw v at a) ∙ k)
      go (unknown a b c) (other v l) ih = v ∙ ih xs c m

  found_first : (p : ℕ) (s : List ℕ) (j : Json) (xs : List Entry) → lookup s (entry_of t p s j ∷ xs) ≡ Some (entry_of t p s j)
  unfolding lookup
  found_first p s j xs = rw (same_bytes-refl s, lookup)

  names-taken : (ms : Members) (xs list : List Entry) → names_good t r xs (entries ms t) ≡ ok list → NamesTaken t r ms
  names-taken mnil xs list e = spell.no_name
  names-taken (mcons p s j ms) xs list e = go (named p s j ms xs list e) (λ ys. names-taken ms ys list)
    where
      go : Named t r p s j ms xs list → ((ys : List Entry) → names_good t r ys (entries ms t) ≡ ok list → NamesTaken t r ms) → NamesTaken t r (mcons p s j ms)
      go (known a b c) ih = spell.known a (not-again ms (entry_of t p s j ∷ xs) list c s _ a (entry_of t p s j) (found_first p s j xs)) (ih _ c)
      go (unknown a b c) ih = spell.unknown a b (ih xs c)

-- ---- members in table order

-- what a member was read as, of which the object holds x
data Took (t : Table) (r i : ℕ) (rest : Res Parts) : Option Json → Parts → Type 0 where
  gone : {qs : Parts} → rest ≡ ok qs → Took t r i rest None (absent qs)
  nulled : {j : Json} {qs : Parts} → Shape tok.Null j → null_absent t r i ≡ true → rest ≡ ok qs → Took t r i rest (Some j) (absent qs)
  here : {j : Json} {v : Val} {qs : Parts} → read j t (type_at t r i) ≡ ok v → rest ≡ ok qs → Took t r i rest (Some j) (present v qs)

-- the two objects' member, and what the members after it were read as
record SameMember (t : Table) (r i : ℕ) (x y : Option Json) (v w : Res Parts) : Type 0 where
  member : RespelledMember t r i x y
  rest : Parts
  left : v ≡ ok rest
  right : w ≡ ok rest

module _ (t : Table) (r i : ℕ) where
  took : {x : Option Json} {e : Option Entry} (o : ℕ) (rest : Res Parts) (ps : Parts) → Holds t x e → read_member t r o i e rest ≡ ok ps → Took t r i rest x ps
  unfolding read_member
  took o rest ps empty = cases (may_miss t r i) (λ w. with_absent_lem (Took t r i rest None) rest ps (λ qs h. gone h)) (λ w f. refused f)
  took o rest ps (holds {j = j}) =
      cases (null? j && null_absent t r i)
      (λ w. with_absent_lem (Took t r i rest (Some j)) rest ps (λ qs h. let b = (both _ _).0 w in nulled (null-shape j b.0) b.1 h))
      (λ w. with_present_lem (Took t r i rest (Some j)) _ rest ps (λ v qs g h. here g h))

  null-left : {j : Json} → Shape tok.Null j → null_absent t r i ≡ true → RespelledMember t r i (Some j) None
  null-left is_null a = spell.null_left a

  null-right : {k : Json} → Shape tok.Null k → null_absent t r i ≡ true → RespelledMember t r i None (Some k)
  null-right is_null a = spell.null_right a

  member-only : {x y : Option Json} {v w : Res Parts} {ps : Parts} → ((j : Json) → x ≡ Some j → Only t j (type_at t r i)) → Took t r i v x ps → Took t r i w y ps → SameMember t r i x y v w
  member-only h (gone a) (gone b) = record { member = spell.absent; rest = _; left = a; right = b }
  member-only h (gone a) (nulled n c b) = record { member = null-right n c; rest = _; left = a; right = b }
  member-only h (nulled n c a) (gone b) = record { member = null-left n c; rest = _; left = a; right = b }
  member-only h (nulled n c a) (nulled m d b) = record { member = spell.present (nulls n m); rest = _; left = a; right = b }
  member-only h (here {j = j} c a) (here {j = k} d b) = record { member = spell.present (h j refl k _ c d); rest = _; left = a; right = b }

module _ (t : Table) (r o u : ℕ) (ms ns : Members) (a : Listed t r ms) (b : Listed t r ns) (h : OnlyMembers t ms) where
  members_only : (n i : ℕ) (ps : Parts) → i + n ≡ count_of t r → read_members t r o a.list i n ≡ ok ps → read_members t r u b.list i n ≡ ok ps → RespelledMembers t r i ms ns
  unfolding read_members
  members_only zero i ps c e f = spell.no_member {r = r} {i = i} (omega arith)
  members_only (suc n) i ps c e f =
      let x = took t r i o _ ps (a.finds i (omega arith)) e in
      let y = took t r i u _ ps (b.finds i (omega arith)) f in
      let m = member-only t r i (λ j w. held-only t ms h (name_at t r i) j w (type_at t r i)) x y in
      spell.member m.member (members_only n (suc i) m.rest (omega arith) m.left m.right)

pub object-only : (t : Table) (r o u : ℕ) (ms ns : Members) (v : Val) → OnlyMembers t ms → kind_of t r ≡ SEQUENCE → is_array t r ≡ false → read_object t o (entries ms t) r ≡ ok v
    → read_object t u (entries ns t) r ≡ ok v → Respelled t r (jobj o ms) (jobj u ns)
unfolding read_object
object-only t r o u ms ns v h k a e f =
    let d = steps (names_good t r [] (entries ms t)) _ v e in
    let g = steps (names_good t r [] (entries ns t)) _ v f in
    let x = steps (read_members t r o d.val 0 (count_of t r)) _ v d.then in
    let y = steps (read_members t r u g.val 0 (count_of t r)) _ v g.then in
    let m = names-taken t r ms [] d.val d.first in
    let n = names-taken t r ns [] g.val g.first in
    let p = listed t r m in
    let q = listed t r n in
    let z : y.val ≡ x.val = cc (x.then, y.then) in
    let l : read_members t r o p.list 0 (count_of t r) ≡ ok x.val = rw (got (sym p.good ∙ d.first)) x.first in
    let w : read_members t r u q.list 0 (count_of t r) ≡ ok x.val = rw (got (sym q.good ∙ g.first), ← z) y.first in
    spell.members k a m n (members_only t r o u ms ns p q h (count_of t r) 0 x.val (omega arith) l w)

-- ---- a wrapped choice

-- the one member of an object that a choice reads
data Chosen (t : Table) (r : ℕ) : Members → Val → Type 0 where
  one_member : {a i : ℕ} {s : List ℕ} {j : Json} {v : Val} → position t r s ≡ Some i → read j t (type_at t r i) ≡ ok v → Chosen t r (mcons a s j mnil) (v_choice i v)

one-member : (t : Table) (r o : ℕ) (ms : Members) (v : Val) → read_choice t r o (entries ms t) ≡ ok v → Chosen t r ms v
unfolding read_choice read_chosen read
one-member t r o mnil v e = refused e
one-member t r o (mcons a s j mnil) v e = go (position t r s) refl e
  where
    go : (x : Option ℕ) → position t r s ≡ x → read_chosen t r o (entry_of t a s j) x ≡ ok v → Chosen t r (mcons a s j mnil) v
    go None w e = refused-both (extensible t r) _ _ e
    go (Some i) w e = let k = steps (read j t (type_at t r i)) _ v e in rw (← got k.then) (one_member w k.first)
one-member t r o (mcons a s j (mcons b u k ms)) v e = refused e

pub choice-only : (t : Table) (r o u : ℕ) (ms ns : Members) (v : Val) → OnlyMembers t ms → kind_of t r ≡ CHOICE → is_unwrapped t r ≡ false → read_choice t r o (entries ms t) ≡ ok v
    → read_choice t r u (entries ns t) ≡ ok v → Respelled t r (jobj o ms) (jobj u ns)
choice-only t r o u ms ns v h k w e f = go h (one-member t r o ms v e) (one-member t r u ns v f)
  where
    go : {ms ns : Members} {v : Val} → OnlyMembers t ms → Chosen t r ms v → Chosen t r ns v → Respelled t r (jobj o ms) (jobj u ns)
    go h (one_member {s = x} a c) (one_member {s = y} b d) = rw (same_name t r y x _ b a) (spell.chosen k w a (h.0 _ _ _ c d))
