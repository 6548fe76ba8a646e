-- SEQUENCE as an object: what is known after some members, one member more, and its end.
use Rattle.std.specs.Prelude.{is_some}
use Prim.Native.Nat.{ℕ, suc, ◌+◌, ◌-◌, ◌<◌, ◌≤◌}
use mathlib.Core.Path.{◌≡◌, refl, sym, ap, ◌∙◌}
use mathlib.Core.List.{List, [], ◌∷◌}
use mathlib.Core.Bool.{true, false}
use Rattle.std.specs.Prelude.{None}
use native.Mathlib.Numerals.{add-one}
use Rattle.std.specs.Prelude.{Some}
use native.Mathlib.Omega.{arith}
use lib.Count.{ones}
use lib.ListN.{length, get_or, length-set}
use Rattle.json_text.specs.Tree.{Json}
use Rattle.jer.specs.Table.{Table, table, field, kind_of, is_type, is_array, count_of, name_at, may_miss, SEQUENCE}
use Rattle.jer.specs.Value.{v_seq, Parts}
use Rattle.jer.specs.Read.{Entry, null?, read, lookup}
use Rattle.jer.specs.Rows.{rows_of, part_rows, pool_of, part_pool, above}
use Rattle.jer.specs.Sane.{Sane}
use Rattle.tokens.specs.Places.{byte_at}
use Rattle.places.specs.ByPlaces.{bit_of}
use Rattle.quick.specs.declared.Got.{Got}
use Rattle.quick.specs.declared.step.Step as declared-step
use Rattle.quick.specs.Stood.{Spaces, Stood}
use Rattle.quick.specs.Tape.{Alike, headed, a_sequence}
use Rattle.quick.specs.Taken.{Walked, Shuts, Shut, MemberAt, Met, valued, nulled, passed, Stepped}
use Rattle.quick.proofs.TapeLaws.{alike_part, linked-alike}
use Rattle.quick.proofs.WalkLaws.{alike_then, mark-inside, headed-after, header, bracket-closed}
use Rattle.quick.proofs.ObjectLaws.{member-here, Members-so-far, members-none, members-more, Takes, knows, skips, Object, members-last, object-stood, empty-object-stood}
use Rattle.quick.proofs.PartedLaws.{Parted, parted-none, parted-nulled, parted-valued, parted-along, parted-few, unmet-name}

pub seq_rows : (ps : Parts) (t : Table) (r : ℕ) → length (rows_of (v_seq ps) t r 0) ≡ suc (length (part_rows ps t r 0 0))
unfolding rows_of above
seq_rows ps t r = refl

pub seq_pool : (ps : Parts) → length (pool_of (v_seq ps)) ≡ length (part_pool ps)
unfolding pool_of
seq_pool ps = refl

-- ---- the end

-- a sequence closed, whose text stands
pub sequence-closed : (t : Table) (s z y x : List ℕ) (d r p j end met has n m next : ℕ) (es : List Entry) (g : Got) (k : Parted t s y r j end met has n m es) → kind_of t r ≡ SEQUENCE → Alike z y 0 j
    → Shut t r y x j met has n m end next g → Stood t s d r p next (v_seq k.parts) → p < next → next ≤ length s → j + 3 + count_of t r + n ≤ end → end ≤ length y → p + m ≤ next → Walked t s z x d r p j (Some g)
sequence-closed t s z y x d r p j end met has n m next es g k kd al sh st ah pl wo ins fe =
    let c = k.counted in
    let w = parted-few k in
    let rw' : n + (count_of t r - ones has) ≡ length (part_rows k.parts t r 0 0) = omega (arith, k.rows) in
    let N = n + (count_of t r - ones has) in
    let hh = header y j (ones has) N end (omega arith) in
    bracket-closed t s z y x d r p j (ones has) N m end next (v_seq k.parts) g al (omega arith) sh.tape sh.answer st
    (a_sequence kd (rw (← c, ← rw') hh) (omega arith) (linked-alike (headed y j (ones has) (N + 1) end) k.linked (headed-after y j (ones has) (N + 1) end end)))
    (omega (arith, seq_rows k.parts t r)) (omega (arith, seq_pool k.parts, k.pool)) ah pl (omega arith) ins fe

-- what was not met may be missing
lack : {t : Table} {s y : List ℕ} {r j end met has n m : ℕ} {es : List Entry} → Parted t s y r j end met has n m es → ((i : ℕ) → i < count_of t r → bit_of met i ≡ false → may_miss t r i ≡ true)
    → (i : ℕ) → i < count_of t r → lookup (name_at t r i) es ≡ None → may_miss t r i ≡ true
lack k f i l h = f i l (sym (k.bits i l) ∙ ap is_some h)

-- ---- after some members

pub record Objecting (t : Table) (s z₀ z : List ℕ) (d r p j at end met has n m : ℕ) : Type 0 where
  pub place : ℕ
  pub entries : List Entry
  pub due : Spaces s place at
  pub so_far : Members-so-far t s d r (p + 1) place entries
  pub parted : Parted t s z r j end met has n m entries
  pub kept : Alike z₀ z 0 j
  pub same : length z ≡ length z₀
  pub start : j + 3 + count_of t r ≤ end
  pub inside : end ≤ length z
  pub words : j + 3 + count_of t r + n ≤ end
  pub ahead : p + 1 ≤ at
  pub here : at ≤ length s
  pub few : p + m ≤ at

pub objecting_start : (t : Table) (s z₀ z : List ℕ) (d r p j at : ℕ) → Spaces s (p + 1) at → p + 1 ≤ at → at ≤ length s → Alike z₀ z 0 (j + 3) → ((i : ℕ) → i < count_of t r → get_or z (j + 3 + i) 0 ≡ 0)
    → length z ≡ length z₀ → (end : ℕ) → end ≡ j + 3 + count_of t r → end ≤ length z → Objecting t s z₀ z d r p j at end 0 0 0 0
objecting_start t s z₀ z d r p j at sp a b al f e end ee l =
    rw ee (record {
      place = p + 1;
      entries = [];
      due = sp;
      so_far = members-none t s d r (p + 1);
      parted = parted-none t s z r j f;
      kept = alike_part 0 j al (omega arith) (omega arith);
      same = e;
      start = omega arith;
      inside = omega arith;
      words = omega arith;
      ahead = a;
      here = b;
      few = omega arith;
    })

-- one member more, with the white space up to c
pub record After (t : Table) (s y : List ℕ) (d r p j c end met has n m : ℕ) : Type 0 where
  pub entries : List Entry
  pub more : byte_at s c ≡ 0x2C → Members-so-far t s d r (p + 1) (c + 1) entries
  pub last : byte_at s c ≡ 0x7D → Object t s d r (p + 1) (c + 1) entries
  pub parted : Parted t s y r j end met has n m entries

-- the entry of a member
abbrev entry_of : Table → ℕ → List ℕ → Json → Entry
entry_of t p x tree = record { place = p; name = x; is_null = null? tree; means = λ q. read tree t q }

module _ {t : Table} {s z₀ z y : List ℕ} {d r p j at end met has n m : ℕ} (k : Objecting t s z₀ z d r p j at end met has n m) (sane : Sane t) (typed : is_type t r ≡ true) {g : declared-step.Step}
    (st : Stepped t s z y d r at j end met has g) (keep : length y ≡ length z) (al : Alike z y 0 (j + 3)) {c : ℕ} (sp : Spaces s g.next c) where
  after-name : (x : List ℕ) (tree : Json) (es : List Entry) → MemberAt s d at g.next x tree → Takes t s d r k.entries (entry_of t at x tree) es
      → Parted t s y r j g.tape g.met g.present (n + g.rows) (m + g.pool) es → After t s y d r p j c g.tape g.met g.present (n + g.rows) (m + g.pool)
  after-name x tree es ma ta pt =
      let mh = member-here t s d r k.place at g.next c x tree k.due ma sp in
      record {
        entries = es;
        more = λ h. rw (add-one c) (members-more t s d r (p + 1) k.place c (entry_of t at x tree) k.so_far mh ta h);
        last = λ h. rw (add-one c) (members-last t s d r (p + 1) k.place c (entry_of t at x tree) k.so_far mh ta h);
        parted = pt;
      }

  pub objecting_after : After t s y d r p j c g.tape g.met g.present (n + g.rows) (m + g.pool)
  objecting_after = go st.how
    where
      go : Met t s z y d r at j end met has g → After t s y d r p j c g.tape g.met g.present (n + g.rows) (m + g.pool)
      go (valued {i = i} {name = x} {tree = tree} {v = v} {z = w} ma pos un nn rd aw sd e rs ps me he) =
          let en = entry_of t at x tree in
          let lw = length-set w (j + 3 + i) end in
          after-name x tree (en ∷ k.entries) ma (knows pos (unmet-name k.parted sane typed en i pos un))
          (parted-along e refl me he refl refl (parted-valued k.parted sane typed en i pos un w g.tape g.rows g.pool v nn rd aw (omega (arith, st.words)) (omega (arith, ap (length {A = ℕ}) e, k.start, st.words, st.inside)) sd rs ps))
      go (nulled {i = i} {name = x} {tree = tree} ma pos un nn e et rs ps me he) =
          let en = entry_of t at x tree in
          after-name x tree (en ∷ k.entries) ma (knows pos (unmet-name k.parted sane typed en i pos un))
          (parted-along e et me he (omega arith) (omega arith) (parted-nulled k.parted sane typed en i pos un nn))
      go (passed {name = x} {tree = tree} ma pos ex e et rs ps me he) =
          after-name x tree k.entries ma (skips pos ex) (parted-along e et me he (omega arith) (omega arith) k.parted)

  after_kept : Alike z₀ y 0 j
  after_kept = alike_then z₀ z y 0 j k.kept (alike_part 0 j al (omega arith) (omega arith))

  pub objecting_more : {at' b : ℕ} → b ≡ byte_at s c → b ≡ 0x2C → g.next ≤ c → Spaces s (c + 1) at' → c + 1 ≤ at' → at' ≤ length s
      → Objecting t s z₀ y d r p j at' g.tape g.met g.present (n + g.rows) (m + g.pool)
  objecting_more bc f l h u v =
      let a = objecting_after in
      record {
        place = c + 1;
        entries = a.entries;
        due = h;
        so_far = a.more (sym bc ∙ f);
        parted = a.parted;
        kept = after_kept;
        same = omega (arith, k.same);
        start = omega (arith, k.start, st.words);
        inside = st.inside;
        words = omega (arith, k.words, st.words);
        ahead = omega (arith, k.ahead, st.ahead);
        here = v;
        few = omega (arith, k.few, st.few);
      }

  pub objecting_last : {x : List ℕ} {h : Got} {q b : ℕ} → kind_of t r ≡ SEQUENCE → is_array t r ≡ false → q ≡ byte_at s p → q ≡ 0x7B → b ≡ byte_at s c → b ≡ 0x7D → g.next ≤ c
      → Shut t r y x j g.met g.present (n + g.rows) (m + g.pool) g.tape (c + 1) h → Walked t s z₀ x (d + 1) r p j (Some h)
  objecting_last {x} {h} {q} {b} kd na qp qe bc f l sh =
      let a = objecting_after in
      let i = mark-inside s c b 0x7D bc f (omega arith) in
      sequence-closed t s z₀ y x (d + 1) r p j g.tape g.met g.present (n + g.rows) (m + g.pool) (c + 1) a.entries h a.parted kd after_kept sh
      (rw (add-one d) (object-stood t s d r p (c + 1) a.entries a.parted.parts kd na (sym qp ∙ qe) a.parted.agrees (lack a.parted sh.complete) (a.last (sym bc ∙ f))))
      (omega (arith, k.ahead, st.ahead)) (omega arith) (omega (arith, k.words, st.words)) st.inside (omega (arith, k.few, st.few))

-- no member
pub object-none : {t : Table} {s z₀ z x : List ℕ} (d : ℕ) {r p j at q b : ℕ} {h : Got} → Spaces s (p + 1) at → p + 1 ≤ at → Alike z₀ z 0 (j + 3) → ((i : ℕ) → i < count_of t r → get_or z (j + 3 + i) 0 ≡ 0) → {end : ℕ} → end ≡ j + 3 + count_of t r → end ≤ length z
    → kind_of t r ≡ SEQUENCE → is_array t r ≡ false → q ≡ byte_at s p → q ≡ 0x7B → b ≡ byte_at s at → b ≡ 0x7D → Shut t r z x j 0 0 0 0 end (at + 1) h → Walked t s z₀ x (d + 1) r p j (Some h)
object-none {t} {s} {z₀} {z} {x} d {r} {p} {j} {at} {q} {b} {h} sp a al f {end} ee l kd na qp qe bc be sh' =
    let k = parted-none t s z r j f in
    let sh : Shut t r z x j 0 0 0 0 (j + 3 + count_of t r) (at + 1) h = rw (← ee) sh' in
    let i = mark-inside s at b 0x7D bc be (omega arith) in
    sequence-closed t s z₀ z x (d + 1) r p j (j + 3 + count_of t r) 0 0 0 0 (at + 1) [] h k kd (alike_part 0 j al (omega arith) (omega arith)) sh
    (rw (add-one d) (empty-object-stood t s d r p (at + 1) [] k.parts kd na (sym qp ∙ qe) k.agrees (lack k sh.complete) at refl sp (sym bc ∙ be) refl))
    (omega arith) (omega arith) (omega arith) (omega arith) (omega arith)

-- ---- what closing it is given

pub shuts_any : (types names : List ℕ) (row has n : ℕ) → Shuts (table types names) row has n → (ns : List ℕ) → Shuts (table types ns) row has n
unfolding count_of field
shuts_any types names row has n k ns = k

ones-zero : ones 0 ≡ 0
unfolding ones
ones-zero = refl

pub shuts_after : {t : Table} {s y : List ℕ} {d r p j c end met has n m : ℕ} → After t s y d r p j c end met has n m → Sane t → is_type t r ≡ true → n + count_of t r ≤ 1048576 → Shuts t r has n
shuts_after {r = r} a sane typed l = (sane.few r typed, parted-few a.parted, l)
