-- Objects, as SEQUENCE and as wrapped CHOICE: what is read of them fits the weight of the text.
use Prim.Native.Nat.{ℕ, zero, suc, ◌+◌, ◌-◌, ◌≤◌, ◌<◌}
use mathlib.Core.Path.{◌≡◌, refl, ap}
use mathlib.Core.List.{List, [], ◌∷◌}
use mathlib.Core.Bool.{true, false, ◌&&◌, not}
use Rattle.std.specs.Prelude.{Option, None, Some}
use native.Mathlib.Omega.{arith}
use lib.Dec.{eqb}
use lib.ListN.{length, length-append}
use borrow.Author.Tests.{not-true}
use Rattle.json_text.specs.Tree.{Members, mnil, mcons}
use Rattle.jer.specs.Table.{Table, SEQUENCE, CHOICE, kind_of, is_type, extensible, is_array, is_unwrapped, count_of, type_at, name_at, may_miss, position}
use Rattle.jer.specs.Value.{Val, v_seq, v_choice, Parts, pnil, absent, present}
use Rattle.jer.specs.Answer.{Res, ok}
use Rattle.jer.specs.Read.{Entry, null?, lookup, names_good, null_absent, read_member, read_members, read_object, read_chosen, read_choice, read_braces, read, entries}
use Rattle.jer.specs.Rows.{pool_of, part_pool}
use Rattle.jer.specs.Write.{write, member_texts, member_text, choice_text, sequence_text, braces, escapes}
use Rattle.jer.specs.Sane.{Sane}
use Rattle.jer.proofs.ValidLaws.{same_bytes-eq, position_some}
use Rattle.jer.proofs.ValidRows.{both}
use Rattle.jer.proofs.Weight.{weight, members_weight}
use Rattle.jer.proofs.WeightGot.{branch, cases, refused, got, steps}
use Rattle.jer.proofs.WeightMeasure.{Held, Light, LightUnder, Fair, FairUnder, rows_in, parts_in, commaed, member-length, braces-length}
use Rattle.jer.proofs.WeightSum.{Priced, entries_of, costs, total, price-found, total-most, Kept, names-kept}
use Rattle.jer.proofs.WeightParts.{with_absent_lem, with_present_lem}

-- every member's meaning fits its weight
abbrev pub FairMembers : Table → Members → Type 0
FairMembers t mnil = Unit {0}
FairMembers t (mcons p s j ms) = Fair t (weight j) (λ r. read j t r) × FairMembers t ms

-- an entry whose values fit the weight w, of which its name, quotation marks, colon and comma are a part
abbrev EntryFair : Table → Entry → ℕ → Type 0
EntryFair t e w = (r : ℕ) (v : Val) → is_type t r ≡ true → e.means r ≡ ok v → Held 0 w (rows_in v) (length (pool_of v)) (length (escapes e.name) + length (write v t r) + 4)

-- the entries of an object, with their weights
abbrev priced : (t : Table) (ms : Members) → FairMembers t ms → List (Priced (EntryFair t))
priced t mnil f = []
priced t (mcons p s j ms) f =
    record { entry = record { place = p; name = s; is_null = null? j; means = λ r. read j t r }; cost = length (escapes s) + weight j + 4; fair = λ r v y e. let h = f.0 r v y e in omega arith }
    ∷ priced t ms f.1

priced-entries : (t : Table) (ms : Members) (f : FairMembers t ms) → entries ms t ≡ entries_of (priced t ms f)
unfolding read
priced-entries t mnil f = refl
priced-entries t (mcons p s j ms) f = ap (λ (es : List Entry). record { place = p; name = s; is_null = null? j; means = λ r. read j t r } ∷ es) (priced-entries t ms f.1)

priced-costs : (t : Table) (ms : Members) (f : FairMembers t ms) → costs (priced t ms f) ≡ members_weight ms
priced-costs t mnil f = refl
priced-costs t (mcons p s j ms) f = omega (arith, priced-costs t ms f.1)

-- ---- SEQUENCE

-- the n members from the position i on, as members of an object, of the weight w
abbrev MembersLight : Table → ℕ → ℕ → ℕ → ℕ → Parts → Type 0
MembersLight t r i n w ps = Held n w (parts_in ps) (length (part_pool ps)) (commaed (member_texts ps t r i))

no-members : (t : Table) (r i : ℕ) → MembersLight t r i 0 0 pnil
unfolding pool_of write
no-members t r i = omega arith

member-absent : (t : Table) (r i n w m : ℕ) (qs : Parts) → MembersLight t r (suc i) n m qs → MembersLight t r i (suc n) (w + m) (absent qs)
unfolding pool_of write
member-absent t r i n w m qs h = omega arith

member-present : (t : Table) (r i n w m : ℕ) (v : Val) (qs : Parts) → Held 0 w (rows_in v) (length (pool_of v)) (length (escapes (name_at t r i)) + length (write v t (type_at t r i)) + 4)
    → MembersLight t r (suc i) n m qs → MembersLight t r i (suc n) (w + m) (present v qs)
unfolding pool_of write
member-present t r i n w m v qs f h = simp length-append (omega (arith, member-length (name_at t r i) (write v t (type_at t r i))))

object-text : (t : Table) (r : ℕ) (ps : Parts) → is_array t r ≡ false → write (v_seq ps) t r ≡ braces (member_texts ps t r 0)
unfolding write sequence_text
object-text t r ps a = rw (a, sequence_text)

module _ (t : Table) (g : Sane t) (r o : ℕ) (y : is_type t r ≡ true) where
  member-light : (x : Option Entry) (i n w m : ℕ) (rest : Res Parts) (ps : Parts) → i < count_of t r
      → ((e : Entry) → x ≡ Some e → (e.name ≡ name_at t r i) × EntryFair t e w)
      → ((qs : Parts) → rest ≡ ok qs → MembersLight t r (suc i) n m qs)
      → read_member t r o i x rest ≡ ok ps → MembersLight t r i (suc n) (w + m) ps
  unfolding read_member
  member-light None i n w m rest ps l f h e =
      cases (may_miss t r i)
      (λ u. with_absent_lem (MembersLight t r i (suc n) (w + m)) rest ps (λ qs d. member-absent t r i n w m qs (h qs d)))
      (λ u d. refused d)
      e
  member-light (Some c) i n w m rest ps l f h e =
      cases (c.is_null && null_absent t r i)
      (λ u. with_absent_lem (MembersLight t r i (suc n) (w + m)) rest ps (λ qs d. member-absent t r i n w m qs (h qs d)))
      (λ u. with_present_lem (MembersLight t r i (suc n) (w + m)) (c.means (type_at t r i)) rest ps (λ v qs d b. member-present t r i n w m v qs (here v d) (h qs b)))
      e
    where
      here : (v : Val) → c.means (type_at t r i) ≡ ok v → Held 0 w (rows_in v) (length (pool_of v)) (length (escapes (name_at t r i)) + length (write v t (type_at t r i)) + 4)
      here v d =
          let b = f c refl in
          let k = b.1 (type_at t r i) v (g.member r i y l) d in
          let q = ap (λ (s : List ℕ). length (escapes s)) b.0 in
          omega arith

  members-light : (xs : List (Priced (EntryFair t))) (i n : ℕ) (ps : Parts) → i + n ≤ count_of t r → read_members t r o (entries_of xs) i n ≡ ok ps → MembersLight t r i n (total t r xs i n) ps
  unfolding read_members total
  members-light xs i zero ps l e = rw (← got e) (no-members t r i)
  members-light xs i (suc n) ps l e =
      member-light (lookup (name_at t r i) (entries_of xs)) i n _ _ _ ps (omega arith) (λ c d. price-found (name_at t r i) xs c d) (λ qs d. members-light xs (suc i) n qs (omega arith) d) e

  kept-light : (es : List Entry) (w : ℕ) (ps : Parts) → Kept (EntryFair t) es w → read_members t r o es 0 (count_of t r) ≡ ok ps → MembersLight t r 0 (count_of t r) w ps
  kept-light es w ps k e =
      let h = members-light k.list 0 (count_of t r) ps (omega arith) (rw k.same at e) in
      let m = total-most t g r y k.list 0 (count_of t r) (omega arith) in
      omega arith

  -- an object that is read as a SEQUENCE
  object-light : (ms : Members) (v : Val) → FairMembers t ms → is_array t r ≡ false → read_object t o (entries ms t) r ≡ ok v → LightUnder t (2 + (members_weight ms - 1)) r v
  unfolding read_object pool_of
  object-light ms v f a e =
      let b = steps (names_good t r [] (entries ms t)) _ v e in
      let c = steps (read_members t r o b.val 0 (count_of t r)) _ v b.then in
      let k = names-kept t r [] (priced t ms f) b.val (rw (← priced-entries t ms f) b.first) in
      let h = kept-light b.val _ c.val k c.first in
      let q = got c.then in
      rw (← q, object-text t r c.val a) (omega (arith, g.few r y, priced-costs t ms f, braces-length (member_texts c.val t r 0)))

-- ---- wrapped CHOICE

chosen-text : (t : Table) (r i : ℕ) (v : Val) → length (write (v_choice i v) t r) ≤ length (escapes (name_at t r i)) + length (write v t (type_at t r i)) + 5
unfolding write choice_text
chosen-text t r i v =
    branch (λ (x : List ℕ). length x ≤ length (escapes (name_at t r i)) + length (write v t (type_at t r i)) + 5) (is_unwrapped t r)
    (λ u. omega arith)
    (λ u. omega (arith, braces-length (member_text (name_at t r i) (write v t (type_at t r i)) ∷ []), member-length (name_at t r i) (write v t (type_at t r i))))

chosen-light : (t : Table) (r i w : ℕ) (s : List ℕ) (v : Val) → name_at t r i ≡ s → Light t w (type_at t r i) v → LightUnder t (2 + (length (escapes s) + w + 4 + 0 - 1)) r (v_choice i v)
unfolding pool_of
chosen-light t r i w s v n h = let q = ap (λ (x : List ℕ). length (escapes x)) n in omega (arith, chosen-text t r i v)

choice-light : (t : Table) → Sane t → (r o : ℕ) → is_type t r ≡ true → (ms : Members) (v : Val) → FairMembers t ms → read_choice t r o (entries ms t) ≡ ok v → LightUnder t (2 + (members_weight ms - 1)) r v
unfolding read read_choice read_chosen
choice-light t g r o y mnil v f e = refused e
choice-light t g r o y (mcons p s j (mcons p' s' j' ms)) v f e = refused e
choice-light t g r o y (mcons p s j mnil) v f e = chosen (position t r s) refl e
  where
    chosen : (c : Option ℕ) → position t r s ≡ c → read_chosen t r o (record { place = p; name = s; is_null = null? j; means = λ q. read j t q }) c ≡ ok v → LightUnder t (2 + (length (escapes s) + weight j + 4 + 0 - 1)) r v
    chosen None w d = cases (extensible t r) (λ u b. refused b) (λ u b. refused b) d
    chosen (Some i) w d =
        let a = steps (read j t (type_at t r i)) _ v d in
        let q = got a.then in
        rw (← q) (chosen-light t r i (weight j) s a.val (same_bytes-eq _ _ (position_some t r s i w).1) (f.0 _ _ (g.member r i y (position_some t r s i w).0) a.first))

pub braces-fair : (t : Table) → Sane t → (o : ℕ) (ms : Members) → FairMembers t ms → FairUnder t (2 + (members_weight ms - 1)) (λ q. read_braces t o (entries ms t) q)
unfolding read_braces
braces-fair t g o ms f r v y =
    cases (eqb (kind_of t r) CHOICE)
    (λ k. choice-light t g r o y ms v f)
    (λ k. cases (eqb (kind_of t r) SEQUENCE && not (is_array t r))
    (λ u. object-light t g r o y ms v f (not-true (is_array t r) ((both (eqb (kind_of t r) SEQUENCE) _).0 u).1))
    (λ u e. refused e))
