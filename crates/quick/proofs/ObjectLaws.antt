-- Objects: the members met so far as parts in table order, of which one more is set at a time, in whatever order the text has them.
use Rattle.std.specs.Prelude.{is_some}
use Prim.Native.Nat.{ℕ, zero, suc, ◌+◌, ◌<◌}
use mathlib.Core.Path.{◌≡◌, refl, sym, ap, ◌∙◌}
use mathlib.Core.List.{List, [], ◌∷◌, ◌++◌, append_assoc}
use mathlib.Core.Bool.{true, false, ◌&&◌, not}
use Rattle.std.specs.Prelude.{None, Some}
use native.Mathlib.Numerals.{add-one}
use native.Mathlib.Omega.{arith}
use lib.Dec.{eqb}
use lib.ListN.{drop}
use Rattle.json_text.specs.Bytes.{past}
use Rattle.json_text.specs.Tree.{Json, jobj, Members, mnil, mcons, msnoc}
use Rattle.json_text.specs.Grammar as grammar
use Rattle.json_text.specs.Grammar.{Quoted, Padded, padded, Name, name, Named, last_member, more_members, no_members}
use Rattle.json_text.proofs.TakesTree.{mapp, mapp_snoc}
use Rattle.jer.specs.Table.{Table, kind_of, is_unwrapped, is_array, extensible, count_of, type_at, name_at, may_miss, same_bytes, position, SEQUENCE, CHOICE}
use Rattle.jer.specs.Value.{Val, v_seq, Parts, pnil, absent, present}
use Rattle.jer.specs.Answer.{ok, bind}
use Rattle.jer.specs.Read.{Entry, null?, read, entries, lookup, names_good, null_absent, with_absent, with_present, read_member, read_members, read_object, read_braces, unwrapping}
use Rattle.tokens.specs.Places.{byte_at}
use Rattle.tokens.proofs.TiePlace.{past_append}
use Rattle.places.proofs.MeaningNames.{lookup-met, lookup-other}
use Rattle.quick.specs.Stood.{Spaces, Stood}
use Rattle.quick.specs.Taken.{MemberAt}
use Rattle.quick.proofs.ListLaws.{byte_drop}
use Rattle.quick.proofs.PartLaws.{set_part}

-- ---- the parts and the entries met

pub data Agrees (t : Table) (r : ℕ) (es : List Entry) : ℕ → Parts → Type 0 where
  no_part : {i : ℕ} → i ≡ count_of t r → Agrees t r es i pnil
  unmet : {i : ℕ} {ps : Parts} → i < count_of t r → lookup (name_at t r i) es ≡ None → Agrees t r es (suc i) ps → Agrees t r es i (absent ps)
  nulled : {i : ℕ} {ps : Parts} {e : Entry} → i < count_of t r → lookup (name_at t r i) es ≡ Some e → (e.is_null && null_absent t r i) ≡ true → Agrees t r es (suc i) ps → Agrees t r es i (absent ps)
  valued : {i : ℕ} {ps : Parts} {e : Entry} {v : Val} → i < count_of t r → lookup (name_at t r i) es ≡ Some e → (e.is_null && null_absent t r i) ≡ false → e.means (type_at t r i) ≡ ok v → Agrees t r es (suc i) ps
      → Agrees t r es i (present v ps)

-- at the end: every member that was not met may miss
pub agrees-read : {t : Table} {r i : ℕ} {es : List Entry} {ps : Parts} (o n : ℕ) → Agrees t r es i ps → ((j : ℕ) → j < count_of t r → lookup (name_at t r j) es ≡ None → may_miss t r j ≡ true) → i + n ≡ count_of t r
    → read_members t r o es i n ≡ ok ps
unfolding read_members read_member with_absent with_present bind
agrees-read o zero (no_part e) f h = refl
agrees-read o (suc n) (no_part e) f h = absurd (omega arith)
agrees-read o zero (unmet l a k) f h = absurd (omega arith)
agrees-read o (suc n) (unmet {i = i} l a k) f h = rw (a, read_member, f i l a, agrees-read o n k f (omega arith))
agrees-read o zero (nulled l a b k) f h = absurd (omega arith)
agrees-read o (suc n) (nulled l a b k) f h = rw (a, read_member, b, agrees-read o n k f (omega arith))
agrees-read o zero (valued l a b c k) f h = absurd (omega arith)
agrees-read o (suc n) (valued l a b c k) f h = rw (a, read_member, b, c, agrees-read o n k f (omega arith))

-- an entry for the member m more, which the other names are not
module _ (t : Table) (r : ℕ) (es : List Entry) (e : Entry) (m : ℕ) (h : name_at t r m ≡ e.name) (d : (j : ℕ) → j < count_of t r → (j ≡ m → ⊥) → same_bytes e.name (name_at t r j) ≡ false) where
  same-lookup : (j : ℕ) → j < count_of t r → (j ≡ m → ⊥) → lookup (name_at t r j) (e ∷ es) ≡ lookup (name_at t r j) es
  same-lookup j l n = lookup-other (name_at t r j) e es (d j l n)

  here-lookup : (j : ℕ) → j ≡ m → lookup (name_at t r j) (e ∷ es) ≡ Some e
  here-lookup j f = ap (λ (k : ℕ). lookup (name_at t r k) (e ∷ es)) f ∙ ap (λ (n : List ℕ). lookup n (e ∷ es)) h ∙ lookup-met e es

  -- of the members after m nothing changes
  pub agrees_after : {i : ℕ} {ps : Parts} → Agrees t r es i ps → m < i → Agrees t r (e ∷ es) i ps
  agrees_after (no_part f) l = no_part f
  agrees_after (unmet {i = i} b a k) l = unmet b (same-lookup i b (λ z. omega arith) ∙ a) (agrees_after k (omega arith))
  agrees_after (nulled {i = i} b a c k) l = nulled b (same-lookup i b (λ z. omega arith) ∙ a) c (agrees_after k (omega arith))
  agrees_after (valued {i = i} b a c g k) l = valued b (same-lookup i b (λ z. omega arith) ∙ a) c g (agrees_after k (omega arith))

  -- a null for its absence
  pub agrees-nulled : {i : ℕ} {ps : Parts} → Agrees t r es i ps → (n : ℕ) → i + n ≡ m → lookup (name_at t r m) es ≡ None → (e.is_null && null_absent t r m) ≡ true → Agrees t r (e ∷ es) i ps
  agrees-nulled (no_part f) n g u w = no_part f
  agrees-nulled (unmet {i = i} b a k) zero g u w = let z : i ≡ m = omega arith in nulled b (here-lookup i z) (ap (λ (y : ℕ). e.is_null && null_absent t r y) z ∙ w) (agrees_after k (omega arith))
  agrees-nulled (unmet {i = i} b a k) (suc n) g u w = unmet b (same-lookup i b (λ z. omega arith) ∙ a) (agrees-nulled k n (omega arith) u w)
  agrees-nulled (nulled {i = i} b a c k) zero g u w = let z : i ≡ m = omega arith in absurd (no-some (sym a ∙ ap (λ (y : ℕ). lookup (name_at t r y) es) z ∙ u))
    where
      no-some : {x : Entry} → Some x ≡ None → ⊥
      no-some q = let y : ◌≡◌ {A = ℕ} 0 1 = cc in omega arith
  agrees-nulled (nulled {i = i} b a c k) (suc n) g u w = nulled b (same-lookup i b (λ z. omega arith) ∙ a) c (agrees-nulled k n (omega arith) u w)
  agrees-nulled (valued {i = i} b a c f k) zero g u w = let z : i ≡ m = omega arith in absurd (no-some (sym a ∙ ap (λ (y : ℕ). lookup (name_at t r y) es) z ∙ u))
    where
      no-some : {x : Entry} → Some x ≡ None → ⊥
      no-some q = let y : ◌≡◌ {A = ℕ} 0 1 = cc in omega arith
  agrees-nulled (valued {i = i} b a c f k) (suc n) g u w = valued b (same-lookup i b (λ z. omega arith) ∙ a) c f (agrees-nulled k n (omega arith) u w)

  -- a value
  pub agrees-valued : {i : ℕ} {ps : Parts} (v : Val) → Agrees t r es i ps → (n : ℕ) → i + n ≡ m → m < count_of t r → lookup (name_at t r m) es ≡ None → (e.is_null && null_absent t r m) ≡ false → e.means (type_at t r m) ≡ ok v
      → Agrees t r (e ∷ es) i (set_part ps n v)
  unfolding set_part
  agrees-valued v (no_part f) n g l u w x = absurd (omega arith)
  agrees-valued v (unmet {i = i} b a k) zero g l u w x =
      let z : i ≡ m = omega arith in valued b (here-lookup i z) (ap (λ (y : ℕ). e.is_null && null_absent t r y) z ∙ w) (ap (λ (y : ℕ). e.means (type_at t r y)) z ∙ x) (agrees_after k (omega arith))
  agrees-valued v (unmet {i = i} b a k) (suc n) g l u w x = unmet b (same-lookup i b (λ z. omega arith) ∙ a) (agrees-valued v k n (omega arith) l u w x)
  agrees-valued v (nulled {i = i} b a c k) zero g l u w x = let z : i ≡ m = omega arith in absurd (no-some (sym a ∙ ap (λ (y : ℕ). lookup (name_at t r y) es) z ∙ u))
    where
      no-some : {x : Entry} → Some x ≡ None → ⊥
      no-some q = let y : ◌≡◌ {A = ℕ} 0 1 = cc in omega arith
  agrees-valued v (nulled {i = i} b a c k) (suc n) g l u w x = nulled b (same-lookup i b (λ z. omega arith) ∙ a) c (agrees-valued v k n (omega arith) l u w x)
  agrees-valued v (valued {i = i} b a c f k) zero g l u w x = let z : i ≡ m = omega arith in absurd (no-some (sym a ∙ ap (λ (y : ℕ). lookup (name_at t r y) es) z ∙ u))
    where
      no-some : {x : Entry} → Some x ≡ None → ⊥
      no-some q = let y : ◌≡◌ {A = ℕ} 0 1 = cc in omega arith
  agrees-valued v (valued {i = i} b a c f k) (suc n) g l u w x = valued b (same-lookup i b (λ z. omega arith) ∙ a) c f (agrees-valued v k n (omega arith) l u w x)

-- ---- the text's members, one more at a time: what follows completes them

module _ (t : Table) (s : List ℕ) (d r : ℕ) where
  -- a member with its white space, from a up to b, where a comma or the bracket stands
  pub record Member (a b : ℕ) (e : Entry) : Type 0 where
    pub place : ℕ
    pub called : List ℕ
    pub colon : ℕ
    pub tree : Json
    pub name_bytes : List ℕ
    pub bytes : List ℕ
    pub named : Name a place colon called name_bytes
    pub value : Padded d colon tree bytes
    pub text : drop a s ≡ name_bytes ++ (bytes ++ drop b s)
    pub ended : past colon bytes ≡ b
    pub entry : e ≡ record { place = place; name = called; is_null = null? tree; means = λ q. read tree t q }

  pub record Closes (a q : ℕ) (ms : Members) : Type 0 where
    pub bytes : List ℕ
    pub value : Named d a ms bytes
    pub text : drop a s ≡ bytes ++ drop q s
    pub end : past a bytes ≡ q

  -- a name at p, with the white space before it, and its value, with the white space after it
  pub member-here : (a p q b : ℕ) (x : List ℕ) (j : Json) → Spaces s a p → MemberAt s d p q x j → Spaces s q b → Member a b (record { place = p; name = x; is_null = null? j; means = λ y. read j t y })
  unfolding past
  member-here a p q b x j u k v =
      let n = k.named in
      let g = k.gap in
      let w = k.value in
      let ns : List ℕ = n.marks ++ (n.gap ++ (0x3A ∷ [])) in
      record {
        place = p;
        called = x;
        colon = k.colon;
        tree = j;
        name_bytes = u.bytes ++ ns;
        bytes = g.bytes ++ (w.bytes ++ v.bytes);
        named = name {r = k.colon} u.holds (sym u.end) n.quoted n.space refl (sym (past_append a u.bytes ns ∙ rw u.end n.end));
        value = padded g.holds (sym g.end) w.holds v.holds refl;
        text = u.text ∙ rw (n.text, g.text, w.text, v.text) (simp append_assoc);
        ended = rw (past_append k.colon g.bytes (w.bytes ++ v.bytes), g.end, past_append k.from w.bytes v.bytes, w.end) v.end;
        entry = refl;
      }

  name-past : {a p c : ℕ} {n bs : List ℕ} → Name a p c n bs → past a bs ≡ c
  name-past (name x e u w c o) = sym o

  pub closes-last : (a b : ℕ) (e : Entry) (k : Member a b e) → byte_at s b ≡ 0x7D → Closes a (suc b) (mcons k.place k.called k.tree mnil)
  unfolding past
  closes-last a b e k h =
      record {
        bytes = k.name_bytes ++ (k.bytes ++ (0x7D ∷ []));
        value = last_member k.named k.value refl;
        text = k.text ∙ rw (byte_drop s b 0x7D h (omega arith), append_assoc, append_assoc);
        end = rw (past_append a k.name_bytes (k.bytes ++ (0x7D ∷ [])), name-past k.named, past_append k.colon k.bytes (0x7D ∷ []), k.ended);
      }

  pub closes-more : (a b q : ℕ) (e : Entry) (ms : Members) (k : Member a b e) → byte_at s b ≡ 0x2C → Closes (suc b) q ms → Closes a q (mcons k.place k.called k.tree ms)
  unfolding past
  closes-more a b q e ms k h m =
      record {
        bytes = k.name_bytes ++ (k.bytes ++ (0x2C ∷ m.bytes));
        value = more_members k.named k.value (ap suc (sym k.ended)) m.value refl;
        text = k.text ∙ rw (byte_drop s b 0x2C h (omega arith), m.text, append_assoc, append_assoc);
        end = rw (past_append a k.name_bytes (k.bytes ++ (0x2C ∷ m.bytes)), name-past k.named, past_append k.colon k.bytes (0x2C ∷ m.bytes), k.ended) m.end;
      }

  -- from a₀ up to a stand members, of which the entries es were met
  pub record Members-so-far (a₀ a : ℕ) (es : List Entry) : Type 0 where
    pub members : Members
    pub then : (q : ℕ) (ns : Members) → Closes a q ns → Closes a₀ q (mapp members ns)
    pub names : (ns : Members) → names_good t r [] (entries (mapp members ns) t) ≡ names_good t r es (entries ns t)

  pub members-none : (a : ℕ) → Members-so-far a a []
  unfolding mapp
  members-none a = record { members = mnil; then = λ q ns k. k; names = λ ns. refl }

  -- a name that is taken: known and not met, or unknown in an extensible type
  pub data Takes (es : List Entry) (e : Entry) : List Entry → Type 0 where
    knows : {i : ℕ} → position t r e.name ≡ Some i → is_some (lookup e.name es) ≡ false → Takes es e (e ∷ es)
    skips : position t r e.name ≡ None → extensible t r ≡ true → Takes es e es

  one_name : {es es' : List Entry} {e : Entry} (rest : List Entry) → Takes es e es' → names_good t r es (e ∷ rest) ≡ names_good t r es' rest
  unfolding names_good
  one_name rest (knows p n) = rw (p, names_good, n)
  one_name rest (skips p x) = rw (p, names_good, x)

  member-entries : {a b : ℕ} {e : Entry} (k : Member a b e) (ns : Members) → entries (mcons k.place k.called k.tree ns) t ≡ e ∷ entries ns t
  unfolding entries
  member-entries k ns = rw k.entry

  pub members-more : {es es' : List Entry} (a₀ a b : ℕ) (e : Entry) → Members-so-far a₀ a es → Member a b e → Takes es e es' → byte_at s b ≡ 0x2C → Members-so-far a₀ (suc b) es'
  members-more {es} {es'} a₀ a b e k m w h =
      record {
        members = msnoc k.members m.place m.called m.tree;
        then = λ q ns x. rw (mapp_snoc k.members m.place m.called m.tree ns) (k.then q _ (closes-more a b q e ns m h x));
        names = λ ns. rw (mapp_snoc k.members m.place m.called m.tree ns) (k.names _ ∙ rw (member-entries m ns) (one_name (entries ns t) w));
      }

  -- the whole object's members
  pub record Object (a₀ q : ℕ) (es : List Entry) : Type 0 where
    pub members : Members
    pub closes : Closes a₀ q members
    pub names : names_good t r [] (entries members t) ≡ ok es

  pub members-last : {es es' : List Entry} (a₀ a b : ℕ) (e : Entry) → Members-so-far a₀ a es → Member a b e → Takes es e es' → byte_at s b ≡ 0x7D → Object a₀ (suc b) es'
  unfolding names_good entries
  members-last {es} {es'} a₀ a b e k m w h =
      record {
        members = mapp k.members (mcons m.place m.called m.tree mnil);
        closes = k.then (suc b) _ (closes-last a b e m h);
        names = k.names _ ∙ rw (member-entries m mnil) (one_name [] w);
      }

-- ---- the object

read-braces : (t : Table) (r p : ℕ) (ms : Members) (es : List Entry) (ps : Parts) → is_unwrapped t r ≡ false → eqb (kind_of t r) CHOICE ≡ false → (eqb (kind_of t r) SEQUENCE && not (is_array t r)) ≡ true
    → names_good t r [] (entries ms t) ≡ ok es → read_members t r p es 0 (count_of t r) ≡ ok ps → read (jobj p ms) t r ≡ ok (v_seq ps)
unfolding read unwrapping read_braces read_object bind
read-braces t r p ms es ps u c k n m = rw (u, unwrapping) (rw (c, read_braces, k, n, m))

pub not-unwrapped : (t : Table) (r k : ℕ) → kind_of t r ≡ k → eqb k CHOICE ≡ false → is_unwrapped t r ≡ false
unfolding is_unwrapped
not-unwrapped t r k e f = rw (e, f)

object-kind : (t : Table) (r : ℕ) → kind_of t r ≡ SEQUENCE → is_array t r ≡ false → (eqb (kind_of t r) SEQUENCE && not (is_array t r)) ≡ true
object-kind t r k a = rw (k, a)

read-object : (t : Table) (r p : ℕ) (ms : Members) (es : List Entry) (ps : Parts) → kind_of t r ≡ SEQUENCE → is_array t r ≡ false
    → names_good t r [] (entries ms t) ≡ ok es → read_members t r p es 0 (count_of t r) ≡ ok ps → read (jobj p ms) t r ≡ ok (v_seq ps)
read-object t r p ms es ps k a n m = read-braces t r p ms es ps (not-unwrapped t r SEQUENCE k refl) (ap (λ (x : ℕ). eqb x CHOICE) k) (object-kind t r k a) n m

module _ (t : Table) (s : List ℕ) (d r p q : ℕ) (es : List Entry) (ps : Parts) (k : kind_of t r ≡ SEQUENCE) (na : is_array t r ≡ false) (h : byte_at s p ≡ 0x7B) (a : Agrees t r es 0 ps)
    (f : (j : ℕ) → j < count_of t r → lookup (name_at t r j) es ≡ None → may_miss t r j ≡ true) where
  pub object-stood : Object t s d r (p + 1) q es → Stood t s (suc d) r p q (v_seq ps)
  unfolding past
  object-stood o' =
      let o : Object t s d r (suc p) q es = rw (← add-one p) o' in
      record {
        tree = jobj p o.members;
        here = record { bytes = 0x7B ∷ o.closes.bytes; holds = grammar.members o.closes.value; text = byte_drop s p 0x7B h (omega arith) ∙ rw o.closes.text; end = o.closes.end };
        reads = read-object t r p o.members es ps k na o.names (agrees-read p (count_of t r) a f (omega arith));
      }

  pub empty-object-stood : (b : ℕ) → es ≡ [] → Spaces s (p + 1) b → byte_at s b ≡ 0x7D → q ≡ b + 1 → Stood t s (suc d) r p q (v_seq ps)
  unfolding past names_good entries
  empty-object-stood b e x' y w =
      let x : Spaces s (suc p) b = rw (← add-one p) x' in
      rw (w, add-one b) (record {
        tree = jobj p mnil;
        here = record {
          bytes = 0x7B ∷ x.bytes ++ (0x7D ∷ []);
          holds = no_members x.holds refl;
          text = byte_drop s p 0x7B h (omega arith) ∙ rw (x.text, byte_drop s b 0x7D y (omega arith), append_assoc);
          end = past_append (suc p) x.bytes (0x7D ∷ []) ∙ rw x.end;
        };
        reads = read-object t r p mnil es ps k na (rw e) (agrees-read p (count_of t r) a f (omega arith));
      })
