-- Sequences as objects: the scan of the names, then the members in table order.
use Rattle.std.specs.Prelude.{is_some}
use Prim.Native.Nat.{ℕ, zero, suc, ◌+◌, ◌≤◌, ◌<◌}
use mathlib.Core.Path.{◌≡◌, refl, sym, ◌∙◌}
use mathlib.Core.List.{List, [], ◌∷◌}
use mathlib.Core.Bool.{Bool, true, false, ◌&&◌}
use Rattle.std.specs.Prelude.{Option, None, Some, Result, Ok, Err}
use native.Mathlib.Omega.{arith}
use borrow.Author.Tests.{eqb-true, eqb-false}
use lib.Dec.{eqb}
use lib.ListN.{length, get_or, set, length-set}
use lib.Seq.{get_or-set_same, get_or-set_other}
use Rattle.json_text.specs.Tree.{Json, Members, mcons}
use Rattle.jer.specs.Table.{Table, is_type, extensible, count_of, type_at, name_at, may_miss, position}
use Rattle.jer.specs.Value.{v_seq}
use Rattle.jer.specs.Answer.{Res, ok, no, bind}
use Rattle.jer.specs.Read.{Entry, null?, read, entries, lookup, names_good, null_absent, with_absent, with_present, read_member, read_members, read_object}
use Rattle.jer.specs.Sane.{Sane}
use Rattle.tokens.specs.Strings.{denoted}
use Rattle.tokens.specs.Skip.{past_value}
use Rattle.places.specs.ByPlaces.{ending, Reader, is_null_at, Follows, Part, follows_at, after_part, bit_of, with_bit, value_place, Scanned, scanned, Stopped, scan_at, member_found, member_then, members_at, no_places, after_scan, object_at}
use Rattle.places.proofs.MeaningBits.{no-bit, bit-set, bit_kept}
use Rattle.places.proofs.MeaningNames.{position-found, names-differ, lookup-met, lookup-other}
use Rattle.places.proofs.MeaningStands.{Stands, stands-passed, Membered, no_member, member, member_count, InObject}
use Rattle.places.proofs.MeaningFirst.{null-at}
use Rattle.places.proofs.MeaningLists.{Reads}

-- the value of the entry e stands at p
record Reached (t : Table) (s : List ℕ) (value : Reader) (p : ℕ) (e : Entry) : Type 0 where
  null : is_null_at s p ≡ e.is_null
  end : ℕ
  means : (r : ℕ) → is_type t r ≡ true → value r p ≡ ending end (e.means r)

-- a member was not met and has no entry, or was met and its value stands at p
data Met (t : Table) (s : List ℕ) (value : Reader) : Bool → ℕ → Option Entry → Type 0 where
  unmet : {p : ℕ} → Met t s value false p None
  met : {p : ℕ} {e : Entry} → Reached t s value p e → Met t s value true p (Some e)

met_some : {t : Table} {s : List ℕ} {value : Reader} {b : Bool} {p : ℕ} {o : Option Entry} → Met t s value b p o → is_some o ≡ b
met_some unmet = refl
met_some (met g) = refl

-- what does not ask where a value ends
value-only : {A B : Type 0} (q : ℕ) (x : Res A) (f : A → Res B) → bind (ending q x) (λ g. f g.value) ≡ bind x f
unfolding bind ending
value-only q (no z) f = refl
value-only q (ok a) f = refl

-- the bits and the places say what the entries met so far do
record Tied (t : Table) (s : List ℕ) (value : Reader) (r m : ℕ) (places : List ℕ) (es : List Entry) : Type 0 where
  long : length places ≡ 64
  each : (i : ℕ) → i < count_of t r → Met t s value (bit_of m i) (get_or places i 0) (lookup (name_at t r i) es)

tied_none : (t : Table) (s : List ℕ) (value : Reader) (r : ℕ) → Tied t s value r 0 no_places []
unfolding no_places lookup
tied_none t s value r = record { long = refl; each = λ i h. rw (no-bit i) unmet }

-- a scan that ends at q and the names judged alike
data Judged (t : Table) (s : List ℕ) (value : Reader) (r q : ℕ) : Result Scanned Stopped → Res (List Entry) → Type 0 where
  refused : {x : Stopped} → Judged t s value r q (Err x) (no x.why)
  taken : {m : ℕ} {places : List ℕ} {es : List Entry} → Tied t s value r m places es → Judged t s value r q (Ok (scanned q m places)) (ok es)

module _ (t : Table) (s : List ℕ) (value : Reader) (r : ℕ) (c : Sane t) (h : is_type t r ≡ true) where
  tied_more : {m u i : ℕ} {places : List ℕ} {es : List Entry} {e : Entry} → Tied t s value r m places es → i < count_of t r → name_at t r i ≡ e.name → Reached t s value u e
      → Tied t s value r (with_bit m i) (set places i u) (e ∷ es)
  tied_more {m} {u} {i} {places} {es} {e} k l n g = record { long = length-set places i u ∙ k.long; each = each' }
    where
      each' : (j : ℕ) → j < count_of t r → Met t s value (bit_of (with_bit m i) j) (get_or (set places i u) j 0) (lookup (name_at t r j) (e ∷ es))
      each' j a = go' (eqb j i) refl
        where
          go' : (b : Bool) → eqb j i ≡ b → Met t s value (bit_of (with_bit m i) j) (get_or (set places i u) j 0) (lookup (name_at t r j) (e ∷ es))
          go' true w =
              let f : i < length places = omega (arith, k.long, c.few r h) in
              rw (eqb-true j i w, bit-set m i, get_or-set_same places i u 0 f, n, lookup-met e es) (met g)
          go' false w =
              let d : j ≡ i → ⊥ = eqb-false j i w in
              let f = names-differ t r i j c h l a (λ z. d (sym z)) in
              rw (bit_kept m i j d, get_or-set_other places i j u 0 d, lookup-other (name_at t r j) e es (rw n at f)) (k.each j a)

  -- is the member met?
  tied_met : {m i : ℕ} {places : List ℕ} {es : List Entry} → Tied t s value r m places es → i < count_of t r → is_some (lookup (name_at t r i) es) ≡ bit_of m i
  tied_met {i = i} k l = met_some (k.each i l)

  -- one member, met or not, and the members after it
  member-means : {b : Bool} {p : ℕ} {x : Option Entry} (m : ℕ) (places : List ℕ) (es : List Entry) (o i n : ℕ) → is_type t (type_at t r i) ≡ true → Met t s value b p x
      → bit_of m i ≡ b → get_or places i 0 ≡ p → lookup (name_at t r i) es ≡ x → members_at value t s r o m places (suc i) n ≡ read_members t r o es (suc i) n
      → members_at value t s r o m places i (suc n) ≡ read_members t r o es i (suc n)
  unfolding member_found member_then members_at read_members read_member with_absent with_present
  member-means m places es o i n f unmet w p l ih = go' (may_miss t r i) refl
    where
      go' : (b : Bool) → may_miss t r i ≡ b → members_at value t s r o m places i (suc n) ≡ read_members t r o es i (suc n)
      go' true y = rw (w, member_found, l, read_member, y, ih)
      go' false y = rw (w, member_found, l, read_member, y)
  member-means m places es o i n f (met {e = e} g) w p l ih = go' (e.is_null && null_absent t r i) refl
    where
      go' : (b : Bool) → (e.is_null && null_absent t r i) ≡ b → members_at value t s r o m places i (suc n) ≡ read_members t r o es i (suc n)
      go' true y = rw (w, member_found, l, read_member, p, g.null, y, ih)
      go' false y = rw (w, member_found, l, read_member, p, g.null, y, p, g.means (type_at t r i) f, ih) (value-only g.end (e.means (type_at t r i)) _)

  members_mean : {m : ℕ} {places : List ℕ} {es : List Entry} (o i n : ℕ) → i + n ≤ count_of t r → Tied t s value r m places es → members_at value t s r o m places i n ≡ read_members t r o es i n
  unfolding members_at read_members
  members_mean o i zero l k = refl
  members_mean {m} {places} {es} o i (suc n) l k =
      member-means m places es o i n (c.member r i h (omega arith)) (k.each i (omega arith)) refl refl refl (members_mean o (suc i) n (omega arith) k)

  module _ (d : ℕ) (reads : Reads t s d value) where
    stands_reached : {j : Json} {q u : ℕ} (p : ℕ) (n : List ℕ) → Stands d s j u q → Reached t s value u (record { place = p; name = n; is_null = null? j; means = λ r. read j t r })
    stands_reached {q = q} p n k = record { null = null-at k; end = q; means = λ r h. reads.reads k r h }

    -- the members ms from f on, after the entries es; n names may be looked at
    abbrev Alike : ℕ → ℕ → Follows → Members → ℕ → List ℕ → List Entry → Type 0
    Alike q n f ms m places es = Judged t s value r q (scan_at d t s r n f m places) (names_good t r es (entries ms t))

    -- one name
    scan_name : {u e m : ℕ} {f : Follows} {a places : List ℕ} {j : Json} {es : List Entry} (p q n : ℕ) (ms : Members) → denoted s (p + 1) ≡ a → value_place s p ≡ u → Stands d s j u e → after_part s e ≡ f
        → ((m : ℕ) (places : List ℕ) (es : List Entry) → Tied t s value r m places es → Alike q n f ms m places es) → Tied t s value r m places es → Alike q (suc n) (Part p) (mcons p a j ms) m places es
    unfolding scan_at names_good entries
    scan_name {u} {e} {m} {f} {a} {places} {j} {es} p q n ms o v g x ih k = go' (position t r a) refl
      where
        next : after_part s (past_value d s (value_place s p)) ≡ f
        next = rw (v, stands-passed g, x)

        seen : (i : ℕ) → position t r a ≡ Some i → is_some (lookup a es) ≡ bit_of m i
        seen i w = let l = position-found t r a i w in rw l.0 at (tied_met k l.1)

        unknown : (b : Bool) → extensible t r ≡ b → position t r a ≡ None → Alike q (suc n) (Part p) (mcons p a j ms) m places es
        unknown true y w = rw (o, w, scan_at, names_good, y, next) (ih m places es k)
        unknown false y w = rw (o, w, scan_at, names_good, y) refused

        known : (b : Bool) (i : ℕ) → bit_of m i ≡ b → position t r a ≡ Some i → Alike q (suc n) (Part p) (mcons p a j ms) m places es
        known true i y w = rw (o, w, scan_at, names_good, y, seen i w ∙ y) refused
        known false i y w =
            let l = position-found t r a i w in
            rw (o, w, scan_at, names_good, y, seen i w ∙ y, next, v) (ih (with_bit m i) (set places i u) _ (tied_more k l.1 l.0 (stands_reached p a g)))

        go' : (z : Option ℕ) → position t r a ≡ z → Alike q (suc n) (Part p) (mcons p a j ms) m places es
        go' None w = unknown (extensible t r) refl w
        go' (Some i) w = known (bit_of m i) i refl w

    scan_means : {q m : ℕ} {f : Follows} {ms : Members} {places : List ℕ} {es : List Entry} → Membered d s f ms q → (n : ℕ) → member_count ms ≤ n → Tied t s value r m places es → Alike q n f ms m places es
    unfolding scan_at names_good entries follows_at
    scan_means no_member zero l k = taken k
    scan_means no_member (suc n) l k = taken k
    scan_means (member b o v g a x) zero l k = absurd (omega arith)
    scan_means (member {ms = ms} b o v g a x) (suc n) l k = scan_name _ _ n ms o v g a (λ m places es y. scan_means x n (omega arith) y) k

    pub object-means : {ms : Members} (p q : ℕ) → InObject d s ms p q → object_at value d t s r p ≡ ending q (read_object t p (entries ms t) r)
    unfolding object_at read_object after_scan bind ending
    object-means p q k = go' (scan_means k.membered (length s) k.few (tied_none t s value r))
      where
        go' : {x : Result Scanned Stopped} {y : Res (List Entry)} → Judged t s value r q x y → after_scan value t s r p x ≡ ending q (bind y (λ es. bind (read_members t r p es 0 (count_of t r)) (λ ps. ok (v_seq ps))))
        go' refused = refl
        go' (taken m) = rw (members_mean p 0 (count_of t r) (omega arith) m)
