-- CHOICE: as an object of one member, and UNWRAPPED.
use Rattle.jer.specs.declared.Token.{Token}
use Rattle.jer.specs.declared.Token.TheVariants as tok
use Prim.Native.Nat.{ℕ, suc, ◌+◌, ◌<◌, ◌≤◌}
use mathlib.Core.Path.{◌≡◌, refl, sym, ap, ◌∙◌}
use mathlib.Core.List.{List, [], ◌∷◌}
use mathlib.Core.Bool.{Bool, true, false, ◌&&◌}
use Rattle.std.specs.Prelude.{Some}
use native.Mathlib.Numerals.{add-one}
use native.Mathlib.Omega.{arith}
use borrow.Author.Tests.{eqb-true}
use lib.Dec.{eqb}
use lib.ListN.{length, drop}
use Rattle.json_text.specs.Bytes.{Row, on, pick, past}
use Rattle.json_text.specs.Tree.{Json, jnull, jbool, jint, jreal, jstr, jarr, jobj, mnil, mcons}
use Rattle.json_text.specs.Grammar as grammar
use Rattle.json_text.proofs.Feed.{pick-none}
use Rattle.jer.specs.Table.{Table, kind_of, is_unwrapped, count_of, type_at, marked, position, alternative, CHOICE, UNWRAPPED}
use Rattle.jer.specs.Value.{Val, v_choice}
use Rattle.jer.specs.Answer.{ok, bind}
use Rattle.jer.specs.Read.{Entry, Meaning, read, read_braces, read_choice, read_chosen, picked, unwrapping}
use Rattle.jer.specs.Rows.{rows_of, pool_of, above}
use Rattle.jer.specs.Sane.{Sane}
use Rattle.tokens.specs.Places.{byte_at}
use Rattle.tokens.proofs.TieFirst.{FirstByte, of_null, of_true, of_false, of_minus, of_digit, of_real_minus, of_real_digit, of_string, of_array, of_object, first_byte}
use Rattle.places.specs.ByPlaces.{token_at}
use Rattle.places.proofs.MeaningFirst.{token_for, byte_token}
use Rattle.places.proofs.MeaningNames.{alternative-found}
use Rattle.quick.specs.declared.Got.{Got}
use Rattle.quick.specs.declared.name.Name as declared-name
use Rattle.quick.specs.Stood.{Spaces, TreeAt, Stood}
use Rattle.quick.specs.Tape.{headed, a_choice}
use Rattle.quick.specs.Taken.{Headed, Given, Taken, Walked, NameTaken, MemberAt}
use Rattle.quick.proofs.ListLaws.{byte_drop}
use Rattle.quick.proofs.TapeLaws.{alike_part, stands_alike}
use Rattle.quick.proofs.WalkLaws.{mark-inside, headed-after, header, bracket-closed}
use Rattle.quick.proofs.ObjectLaws.{Closes, member-here, closes-last}

choice-rows : (v : Val) (t : Table) (r i : ℕ) → length (rows_of (v_choice i v) t r 0) ≡ suc (length (rows_of v t (type_at t r i) 0))
unfolding rows_of above
choice-rows v t r i = refl

choice-pool : (v : Val) (i : ℕ) → length (pool_of (v_choice i v)) ≡ length (pool_of v)
unfolding pool_of
choice-pool v i = refl

-- a choice closed, whose value stands after its header
choice-closed : (t : Table) (s z y x : List ℕ) (d d' r p j i m at next : ℕ) (g h : Got) → kind_of t r ≡ CHOICE → m ≡ type_at t r i → Walked t s z y d m at (j + 3) (Some g) → p ≤ at → g.next ≤ next → next ≤ length s
    → x ≡ headed y j i (g.rows + 1) g.tape → Headed g.rows g.pool g.tape next h
    → ((v : Val) → Stood t s d (type_at t r i) at g.next v → Stood t s d' r p next (v_choice i v)) → Walked t s z x d' r p j (Some h)
choice-closed t s z y x d d' r p j i m at next g h k em w l l' b u hd f =
    let a : Taken t s y d (type_at t r i) at (j + 3) g = rw (← em) w.taken in
    let hh = header y j i g.rows g.tape (omega (arith, a.words, a.inside)) in
    bracket-closed t s z y x d' r p j i g.rows g.pool g.tape next (v_choice i a.value) h (alike_part 0 j w.kept (omega arith) (omega arith)) (omega (arith, a.words, a.inside)) u hd
    (f a.value a.stood)
    (a_choice k (rw (← a.rows) hh) (stands_alike (headed y j i (g.rows + 1) g.tape) a.stands (headed-after y j i (g.rows + 1) g.tape g.tape)))
    (omega (arith, choice-rows a.value t r i, a.rows)) (omega (arith, choice-pool a.value i, a.pool)) (omega (arith, a.ahead)) b (omega (arith, a.words)) a.inside (omega (arith, a.few))

-- ---- an object of one member

read-choice : (t : Table) (r p o i : ℕ) (x : List ℕ) (j : Json) (v : Val) → is_unwrapped t r ≡ false → eqb (kind_of t r) CHOICE ≡ true → position t r x ≡ Some i → read j t (type_at t r i) ≡ ok v
    → read (jobj p (mcons o x j mnil)) t r ≡ ok (v_choice i v)
unfolding read unwrapping read_braces read_choice read_chosen bind
read-choice t r p o i x j v u k q e = rw (u, unwrapping) (rw (k, read_braces) (rw (q, read_chosen, e)))

choice-stood : (t : Table) (s : List ℕ) (d r p c i : ℕ) (o : ℕ) (x : List ℕ) (j : Json) (v : Val) → is_unwrapped t r ≡ false → kind_of t r ≡ CHOICE → byte_at s p ≡ 0x7B → Closes t s d r (p + 1) (suc c) (mcons o x j mnil)
    → position t r x ≡ Some i → read j t (type_at t r i) ≡ ok v → Stood t s (d + 1) r p (c + 1) (v_choice i v)
unfolding past
choice-stood t s d r p c i o x j v u k h m' q e =
    let m : Closes t s d r (suc p) (suc c) (mcons o x j mnil) = rw (← add-one p) m' in
    rw (add-one d, add-one c) (record {
      tree = jobj p (mcons o x j mnil);
      here = record { bytes = 0x7B ∷ m.bytes; holds = grammar.members m.value; text = byte_drop s p 0x7B h (omega arith) ∙ rw m.text; end = m.end };
      reads = read-choice t r p o i x j v u (ap (λ (y : ℕ). eqb y CHOICE) k) q e;
    })

pub choice-here : {t : Table} {s z y x : List ℕ} {d r p j o at c m b q k : ℕ} {nm : declared-name.Name} {g h : Got} → kind_of t r ≡ CHOICE → is_unwrapped t r ≡ false → q ≡ byte_at s p → q ≡ 0x7B
    → Spaces s (p + 1) o → p + 1 ≤ o → (nt : NameTaken t s r o nm) → nm.position ≡ Some k → Spaces s nm.next at → nm.next ≤ at → m ≡ type_at t r k → Walked t s z y d m at (j + 3) (Some g)
    → Spaces s g.next c → g.next ≤ c → b ≡ byte_at s c → b ≡ 0x7D → x ≡ headed y j k (g.rows + 1) g.tape → Headed g.rows g.pool g.tape (c + 1) h → Walked t s z x (d + 1) r p j (Some h)
choice-here {t} {s} {z} {y} {x} {d} {r} {p} {j} {o} {at} {c} {m} {b} {q} {k} {nm} {g} {h} kd u qp qe sp l nt known sp₂ l₂ em w sp₃ l₃ bc be e hd =
    choice-closed t s z y x d (d + 1) r p j k m at (c + 1) g h kd em w (omega (arith, nt.ahead)) (omega arith) (omega (arith, mark-inside s c b 0x7D bc be (omega arith))) e hd
    (λ v st.
    let ma : MemberAt s d o g.next nt.name st.tree = record { colon = nm.next; named = nt.stood; from = at; gap = sp₂; value = st.here } in
    let mh = member-here t s d r (p + 1) o g.next c nt.name st.tree sp ma sp₃ in
    choice-stood t s d r p c k mh.place mh.called mh.tree v u kd (sym qp ∙ qe) (closes-last t s d r (p + 1) c _ mh (sym bc ∙ be))
    (ap (λ (n : List ℕ). position t r n) (sym (ap (λ (a : Entry). a.name) mh.entry)) ∙ nt.found ∙ known) (sym (ap (λ (a : Entry). a.means (type_at t r k)) mh.entry) ∙ st.reads))

-- ---- UNWRAPPED

token-at : (s : List ℕ) (d p q : ℕ) (j : Json) → TreeAt s d p q j → token_at s p ≡ token_for j
unfolding token_at
token-at s d p q j k = byte_token (first_byte s (drop q s) k.holds k.text)

unwrapped-read : (t : Table) (k : Token) (p r i : ℕ) (plain : Meaning) (v : Val) → is_unwrapped t r ≡ true → alternative t r k ≡ Some i → is_unwrapped t (type_at t r i) ≡ false → unwrapping t k p plain (type_at t r i) ≡ ok v
    → unwrapping t k p plain r ≡ ok (v_choice i v)
unfolding unwrapping picked bind
unwrapped-read t k p r i plain v u a n e =
    let f : plain (type_at t r i) ≡ ok v = rw (n, unwrapping) at e in
    rw (u, unwrapping) (rw (a, picked, f))

-- a tree is read at the alternative that its token picks
picked-read : (j : Json) (t : Table) (r i : ℕ) (v : Val) → is_unwrapped t r ≡ true → alternative t r (token_for j) ≡ Some i → is_unwrapped t (type_at t r i) ≡ false → read j t (type_at t r i) ≡ ok v → read j t r ≡ ok (v_choice i v)
unfolding read
picked-read (jnull p) t r i v u a n e = unwrapped-read t tok.Null p r i _ v u a n e
picked-read (jbool p b) t r i v u a n e = unwrapped-read t tok.Boolean p r i _ v u a n e
picked-read (jint p m k) t r i v u a n e = unwrapped-read t tok.Number p r i _ v u a n e
picked-read (jreal p) t r i v u a n e = unwrapped-read t tok.Number p r i _ v u a n e
picked-read (jstr p s) t r i v u a n e = unwrapped-read t tok.String p r i _ v u a n e
picked-read (jarr p is) t r i v u a n e = unwrapped-read t tok.Array p r i _ v u a n e
picked-read (jobj p ms) t r i v u a n e = unwrapped-read t tok.Object p r i _ v u a n e

unwrapped-kind : (t : Table) (r : ℕ) → is_unwrapped t r ≡ true → kind_of t r ≡ CHOICE
unfolding is_unwrapped
unwrapped-kind t r h = go (eqb (kind_of t r) CHOICE) refl h
  where
    go : (b : Bool) → eqb (kind_of t r) CHOICE ≡ b → (b && marked t r UNWRAPPED) ≡ true → kind_of t r ≡ CHOICE
    go true e w = eqb-true (kind_of t r) CHOICE e
    go false e w = absurd (let z : ◌≡◌ {A = ℕ} 0 1 = cc in omega arith)

module _ (t : Table) (s : List ℕ) (r p k : ℕ) (sane : Sane t) (u : is_unwrapped t r ≡ true) (f : Some k ≡ alternative t r (token_at s p)) where
  pub picked-is : alternative t r (token_at s p) ≡ Some k
  picked-is = sym f

  pub picked-inside : k < count_of t r
  picked-inside = alternative-found t r (token_at s p) k picked-is

  pub picked-plain : is_unwrapped t (type_at t r k) ≡ false
  picked-plain = sane.plain r k u picked-inside

  pub picked-given : {z : List ℕ} {j m : ℕ} → Given t z r p j → m ≡ type_at t r k → j + 3 ≤ length z → Given t z m p (j + 3)
  picked-given g em l = record { sane = sane; typed = rw em (sane.member r k g.typed picked-inside); room = g.room; here = g.here; start = omega (arith, g.room) }

  pub picked-here : {z y x : List ℕ} {d j m : ℕ} {g h : Got} → m ≡ type_at t r k → Walked t s z y d m p (j + 3) (Some g) → x ≡ headed y j k (g.rows + 1) g.tape
      → Headed g.rows g.pool g.tape g.next h → Walked t s z x d r p j (Some h)
  picked-here {z} {y} {x} {d} {j} {m} {g} {h} em w e hd =
      choice-closed t s z y x d d r p j k m p g.next g h (unwrapped-kind t r u) em w (omega arith) (omega arith) w.taken.placed e hd
      (λ v st. record { tree = st.tree; here = st.here; reads = picked-read st.tree t r k v u (ap (λ (a : Token). alternative t r a) (sym (token-at s d p g.next st.tree st.here)) ∙ picked-is) picked-plain st.reads })
