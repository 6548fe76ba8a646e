-- SEQUENCE as an array: what is known after some elements, one element more, and its end.
use Prim.Native.Nat.{ℕ, ◌+◌, ◌-◌, ◌<◌, ◌≤◌}
use mathlib.Core.Path.{◌≡◌, refl, sym, ap, ◌∙◌}
use mathlib.Core.List.{List, [], ◌∷◌, ◌++◌}
use mathlib.Core.Bool.{true, false, ◌&&◌}
use native.Mathlib.Numerals.{add-one}
use Rattle.std.specs.Prelude.{Some}
use native.Mathlib.Omega.{arith}
use lib.Count.{ones}
use lib.ListN.{length, get_or, set, length-set, length-append}
use lib.Seq.{get_or-set_same, get_or-set_other}
use Rattle.json_text.specs.Tree.{Json}
use Rattle.jer.specs.Table.{Table, kind_of, is_type, is_array, extensible, count_of, type_at, may_miss, SEQUENCE}
use Rattle.jer.specs.Value.{Val, v_seq, Parts, count_present}
use Rattle.jer.specs.Answer.{ok}
use Rattle.jer.specs.Read.{Element}
use Rattle.jer.specs.Rows.{rows_of, part_rows, pool_of, part_pool}
use Rattle.jer.specs.Sane.{Sane}
use Rattle.tokens.specs.Places.{byte_at}
use Rattle.places.specs.ByPlaces.{bit_of, with_bit}
use Rattle.places.proofs.MeaningBits.{no-bit, bit_kept}
use Rattle.quick.specs.declared.Got.{Got}
use Rattle.quick.specs.declared.step.Step as declared-step
use Rattle.quick.specs.Stood.{Spaces, TreeAt, Stood}
use Rattle.quick.specs.Tape.{Alike, headed, Stands, a_sequence, Linked}
use Rattle.quick.specs.Taken as taken
use Rattle.quick.specs.Taken.{Headed, Walked, Shuts, Shut, Came}
use Rattle.quick.proofs.PartLaws.{set_part, set-count, set-rows, set-pool}
use Rattle.quick.proofs.TapeLaws.{alike_part, no_parts, linked-none, linked-later, linked-alike, linked-ahead, LinkSet, linked-set, stands_alike}
use Rattle.quick.proofs.WalkLaws.{alike_then, alike_set, mark-inside, headed-after, header, bracket-closed}
use Rattle.quick.proofs.MemberLaws.{ones_with}
use Rattle.quick.proofs.PartedLaws.{none-count, none_rows, none-pool, ones-zero}
use Rattle.quick.proofs.ObjectingLaws.{seq_rows, seq_pool}
use Rattle.quick.proofs.ArrayLaws.{Filled, filled-read, filled_none, filled-nulled, filled-valued, filled-surplus, filled-free, filled-few, element_of, padded-here, Elements-so-far, elements-none, elements-more, Array, elements-last, array-stood, empty-array-stood}

-- the elements es were met, k of them; n rows and m pool bytes of the members present
pub record Ordered (t : Table) (s z : List ℕ) (r j end k met has n m : ℕ) (es : List Element) : Type 0 where
  pub parts : Parts
  pub filled : Filled t r es 0 parts
  pub linked : Linked s z t r (j + 3) end 0 parts
  pub size : length es ≡ k
  pub bits : (i : ℕ) → k ≤ i → bit_of met i ≡ false
  pub fewer : (i : ℕ) → k ≤ i → bit_of has i ≡ false
  pub more : count_of t r < k → extensible t r ≡ true
  pub counted : ones has ≡ count_present parts
  pub rows : n + count_of t r ≡ length (part_rows parts t r 0 0) + count_present parts
  pub pool : m ≡ length (part_pool parts)

pub ordered-none : (t : Table) (s z : List ℕ) (r j : ℕ) → ((i : ℕ) → i < count_of t r → get_or z (j + 3 + i) 0 ≡ 0) → Ordered t s z r j (j + 3 + count_of t r) 0 0 0 0 0 []
ordered-none t s z r j f =
    record {
      parts = no_parts (count_of t r);
      filled = filled_none t r 0 (count_of t r) (omega arith);
      linked = linked-none s z t r (j + 3) (j + 3 + count_of t r) 0 (count_of t r) (omega arith) (omega arith) f;
      size = refl;
      bits = λ i l. no-bit i;
      fewer = λ i l. no-bit i;
      more = λ l. absurd (omega arith);
      counted = ones-zero ∙ sym (none-count (count_of t r));
      rows = omega (arith, none_rows t r 0 (count_of t r), none-count (count_of t r));
      pool = sym (none-pool (count_of t r));
    }

pub ordered-few : {t : Table} {s z : List ℕ} {r j end k met has n m : ℕ} {es : List Element} → Ordered t s z r j end k met has n m es → ones has ≤ count_of t r
ordered-few k = omega (arith, filled-few k.filled, k.counted)

pub ordered-along : {t : Table} {s z z' : List ℕ} {r j end end' k met met' has has' n n' m m' : ℕ} {es : List Element} → z' ≡ z → end' ≡ end → met' ≡ met → has' ≡ has → n' ≡ n → m' ≡ m
    → Ordered t s z r j end k met has n m es → Ordered t s z' r j end' k met' has' n' m' es
ordered-along a b c d e f k = rw (a, b, c, d, e, f) k

one_more : (es : List Element) (e : Element) (k : ℕ) → length es ≡ k → length (es ++ (e ∷ [])) ≡ k + 1
one_more es e k h = omega (arith, length-append es (e ∷ []))

module _ {t : Table} {s z : List ℕ} {r j end k met has n m : ℕ} {es : List Element} (o : Ordered t s z r j end k met has n m es) (e : Element) where
  pub ordered-nulled : k < count_of t r → (e.is_null && may_miss t r k) ≡ true → Ordered t s z r j end (k + 1) (with_bit met k) has n m (es ++ (e ∷ []))
  ordered-nulled l w =
      record {
        parts = o.parts;
        filled = filled-nulled e k o.filled (omega (arith, o.size)) l w;
        linked = o.linked;
        size = one_more es e k o.size;
        bits = λ i h. bit_kept met k i (λ u. omega arith) ∙ o.bits i (omega arith);
        fewer = λ i h. o.fewer i (omega arith);
        more = λ h. absurd (omega arith);
        counted = o.counted;
        rows = o.rows;
        pool = o.pool;
      }

  pub ordered-surplus : count_of t r ≤ k → extensible t r ≡ true → Ordered t s z r j end (k + 1) met has n m (es ++ (e ∷ []))
  ordered-surplus l x =
      record {
        parts = o.parts;
        filled = filled-surplus e k o.filled (omega (arith, o.size));
        linked = o.linked;
        size = one_more es e k o.size;
        bits = λ i h. o.bits i (omega arith);
        fewer = λ i h. o.fewer i (omega arith);
        more = λ h. x;
        counted = o.counted;
        rows = o.rows;
        pool = o.pool;
      }

  pub ordered-valued : (y : List ℕ) (end' rows pool : ℕ) (v : Val) → k < count_of t r → (e.is_null && may_miss t r k) ≡ false → e.means (type_at t r k) ≡ ok v → Alike z y 0 end → end ≤ end' → j + 3 + count_of t r ≤ length y
      → Stands s y t (type_at t r k) v end end' → rows ≡ length (rows_of v t (type_at t r k) 0) → pool ≡ length (pool_of v)
      → Ordered t s (set y (j + 3 + k) end) r j end' (k + 1) (with_bit met k) (with_bit has k) (n + rows) (m + pool) (es ++ (e ∷ []))
  ordered-valued y end' rows pool v il w mv al le room st rs ps =
      let f = filled-free o.filled (omega (arith, o.size)) in
      let a = linked-ahead o.linked in
      let x = set y (j + 3 + k) end in
      let sz = o.size in
      let ls : LinkSet y x (j + 3) end' k end (count_of t r) = record {
        link = get_or-set_same y (j + 3 + k) end 0 (omega arith);
        others = λ q l h. get_or-set_other y (j + 3 + k) (j + 3 + q) end 0 (λ u. h (omega arith));
        values = alike_set y (j + 3 + k) end (j + 3 + count_of t r) end' (λ q l h u. omega arith);
      } in
      record {
        parts = set_part o.parts (length es) v;
        filled = filled-valued e k v o.filled (omega (arith, o.size)) il w mv;
        linked = linked-set x k end ls (length es) (linked-later end' (linked-alike y o.linked (alike_part (j + 3) end al (omega arith) (omega arith))) le) (omega arith) il a (omega arith) (stands_alike x st (alike_set y (j + 3 + k) end end end' (λ q l h u. omega arith)));
        size = one_more es e k o.size;
        bits = λ i h. bit_kept met k i (λ u. omega arith) ∙ o.bits i (omega arith);
        fewer = λ i h. bit_kept has k i (λ u. omega arith) ∙ o.fewer i (omega arith);
        more = λ h. absurd (omega arith);
        counted = ones_with k has (o.fewer k (omega arith)) ∙ omega (arith, set-count v f, o.counted);
        rows = omega (arith, set-rows v t r 0 0 f, set-count v f, o.rows, rs, ap (λ (q : ℕ). length (rows_of v t (type_at t r q) 0)) (zero-add (length es) ∙ sz));
        pool = omega (arith, set-pool v f, o.pool, ps);
      }
    where
      zero-add : (q : ℕ) → 0 + q ≡ q
      zero-add q = omega arith

-- ---- the end

pub array-closed : (t : Table) (s z y x : List ℕ) (d r p j end k met has n m next : ℕ) (es : List Element) (g : Got) (o : Ordered t s y r j end k met has n m es) → kind_of t r ≡ SEQUENCE → Alike z y 0 j
    → Shut t r y x j met has n m end next g → Stood t s d r p next (v_seq o.parts) → p < next → next ≤ length s → j + 3 + count_of t r + n ≤ end → end ≤ length y → p + m ≤ next → Walked t s z x d r p j (Some g)
array-closed t s z y x d r p j end k met has n m next es g o kd al sh st ah pl wo ins fe =
    let c = o.counted in
    let w = ordered-few o in
    let rw' : n + (count_of t r - ones has) ≡ length (part_rows o.parts t r 0 0) = omega (arith, o.rows) in
    let N = n + (count_of t r - ones has) in
    let hh = header y j (ones has) N end (omega arith) in
    bracket-closed t s z y x d r p j (ones has) N m end next (v_seq o.parts) g al (omega arith) sh.tape sh.answer st
    (a_sequence kd (rw (← c, ← rw') hh) (omega arith) (linked-alike (headed y j (ones has) (N + 1) end) o.linked (headed-after y j (ones has) (N + 1) end end)))
    (omega (arith, seq_rows o.parts t r)) (omega (arith, seq_pool o.parts, o.pool)) ah pl (omega arith) ins fe

-- ---- after some elements

pub record Arraying (t : Table) (s z₀ z : List ℕ) (d r p j at end k met has n m : ℕ) : Type 0 where
  pub place : ℕ
  pub elements : List Element
  pub due : Spaces s place at
  pub so_far : Elements-so-far t s d (p + 1) place elements
  pub ordered : Ordered t s z r j end k met has n m elements
  pub kept : Alike z₀ z 0 j
  pub same : length z ≡ length z₀
  pub start : j + 3 + count_of t r ≤ end
  pub inside : end ≤ length z
  pub words : j + 3 + count_of t r + n ≤ end
  pub ahead : p + 1 ≤ at
  pub here : at ≤ length s
  pub few : p + m ≤ at
  pub many : k ≤ at

pub arraying_start : (t : Table) (s z₀ z : List ℕ) (d r p j at : ℕ) → Spaces s (p + 1) at → p + 1 ≤ at → at ≤ length s → Alike z₀ z 0 (j + 3) → ((i : ℕ) → i < count_of t r → get_or z (j + 3 + i) 0 ≡ 0)
    → length z ≡ length z₀ → (end : ℕ) → end ≡ j + 3 + count_of t r → end ≤ length z → Arraying t s z₀ z d r p j at end 0 0 0 0 0
arraying_start t s z₀ z d r p j at sp a b al f e end ee l =
    rw ee (record {
      place = p + 1;
      elements = [];
      due = sp;
      so_far = elements-none t s d (p + 1);
      ordered = ordered-none t s z r j f;
      kept = alike_part 0 j al (omega arith) (omega arith);
      same = e;
      start = omega arith;
      inside = omega arith;
      words = omega arith;
      ahead = a;
      here = b;
      few = omega arith;
      many = omega arith;
    })

-- one element more, with the white space up to c
pub record Behind (t : Table) (s y : List ℕ) (d r p j c end k met has n m : ℕ) : Type 0 where
  pub elements : List Element
  pub more : byte_at s c ≡ 0x2C → Elements-so-far t s d (p + 1) (c + 1) elements
  pub last : byte_at s c ≡ 0x5D → Array t s d (p + 1) (c + 1) elements
  pub ordered : Ordered t s y r j end k met has n m elements

module _ {t : Table} {s z₀ z y : List ℕ} {d r p j at end k met has n m : ℕ} (a : Arraying t s z₀ z d r p j at end k met has n m) {g : declared-step.Step}
    (st : Came t s z y d r at j end k met has g) (keep : length y ≡ length z) (al : Alike z y 0 (j + 3)) {c : ℕ} (sp : Spaces s g.next c) where
  behind-tree : (tree : Json) → TreeAt s d at g.next tree → Ordered t s y r j g.tape (k + 1) g.met g.present (n + g.rows) (m + g.pool) (a.elements ++ (element_of t tree ∷ []))
      → Behind t s y d r p j c g.tape (k + 1) g.met g.present (n + g.rows) (m + g.pool)
  behind-tree tree tr od =
      let ph = padded-here t s d a.place at g.next c tree a.due tr sp in
      record {
        elements = a.elements ++ (element_of t tree ∷ []);
        more = λ h. rw (add-one c) (elements-more t s d (p + 1) a.place c tree a.elements a.so_far ph h);
        last = λ h. rw (add-one c) (elements-last t s d (p + 1) a.place c tree a.elements a.so_far ph h);
        ordered = od;
      }

  pub arraying_behind : Behind t s y d r p j c g.tape (k + 1) g.met g.present (n + g.rows) (m + g.pool)
  arraying_behind = go st.how
    where
      go : taken.Element t s z y d r at j end k met has g → Behind t s y d r p j c g.tape (k + 1) g.met g.present (n + g.rows) (m + g.pool)
      go (taken.there {tree = tree} {v = v} {z = w} tr l nn rd aw sd e rs ps me he) =
          let lw = length-set w (j + 3 + k) end in
          behind-tree tree tr (ordered-along e refl me he refl refl (ordered-valued a.ordered (element_of t tree) w g.tape g.rows g.pool v l nn rd aw (omega (arith, st.words)) (omega (arith, ap (length {A = ℕ}) e, a.start, st.words, st.inside)) sd rs ps))
      go (taken.nothing {tree = tree} tr l nn e et rs ps me he) = behind-tree tree tr (ordered-along e et me he (omega arith) (omega arith) (ordered-nulled a.ordered (element_of t tree) l nn))
      go (taken.surplus {tree = tree} tr l x e et rs ps me he) = behind-tree tree tr (ordered-along e et me he (omega arith) (omega arith) (ordered-surplus a.ordered (element_of t tree) l x))

  behind-kept : Alike z₀ y 0 j
  behind-kept = alike_then z₀ z y 0 j a.kept (alike_part 0 j al (omega arith) (omega arith))

  pub arraying_more : {at' b : ℕ} → b ≡ byte_at s c → b ≡ 0x2C → g.next ≤ c → Spaces s (c + 1) at' → c + 1 ≤ at' → at' ≤ length s
      → Arraying t s z₀ y d r p j at' g.tape (k + 1) g.met g.present (n + g.rows) (m + g.pool)
  arraying_more bc f l h u v =
      let x = arraying_behind in
      record {
        place = c + 1;
        elements = x.elements;
        due = h;
        so_far = x.more (sym bc ∙ f);
        ordered = x.ordered;
        kept = behind-kept;
        same = omega (arith, a.same);
        start = omega (arith, a.start, st.words);
        inside = st.inside;
        words = omega (arith, a.words, st.words);
        ahead = omega (arith, a.ahead, st.ahead);
        here = v;
        few = omega (arith, a.few, st.few);
        many = omega (arith, a.many, st.ahead);
      }

  pub arraying_last : {x : List ℕ} {h : Got} {q b : ℕ} → kind_of t r ≡ SEQUENCE → is_array t r ≡ true → q ≡ byte_at s p → q ≡ 0x5B → b ≡ byte_at s c → b ≡ 0x5D → g.next ≤ c
      → Shut t r y x j g.met g.present (n + g.rows) (m + g.pool) g.tape (c + 1) h → Walked t s z₀ x (d + 1) r p j (Some h)
  arraying_last {x} {h} {q} {b} kd ar qp qe bc f l sh =
      let v = arraying_behind in
      let o = v.ordered in
      let i = mark-inside s c b 0x5D bc f (omega arith) in
      array-closed t s z₀ y x (d + 1) r p j g.tape (k + 1) g.met g.present (n + g.rows) (m + g.pool) (c + 1) v.elements h o kd behind-kept sh
      (rw (add-one d) (array-stood t s d r p (c + 1) v.elements o.parts kd ar (sym qp ∙ qe)
      (filled-read p (count_of t r) o.filled (λ w a₁ b₁. sh.complete w b₁ (o.bits w (omega (arith, o.size)))) (λ w. o.more (omega (arith, o.size))) (omega arith)) (v.last (sym bc ∙ f))))
      (omega (arith, a.ahead, st.ahead)) (omega arith) (omega (arith, a.words, st.words)) st.inside (omega (arith, a.few, st.few))

pub array-none : {t : Table} {s z₀ z x : List ℕ} (d : ℕ) {r p j at q b : ℕ} {h : Got} → Spaces s (p + 1) at → p + 1 ≤ at → Alike z₀ z 0 (j + 3) → ((i : ℕ) → i < count_of t r → get_or z (j + 3 + i) 0 ≡ 0) → {end : ℕ} → end ≡ j + 3 + count_of t r → end ≤ length z
    → kind_of t r ≡ SEQUENCE → is_array t r ≡ true → q ≡ byte_at s p → q ≡ 0x5B → b ≡ byte_at s at → b ≡ 0x5D → Shut t r z x j 0 0 0 0 end (at + 1) h → Walked t s z₀ x (d + 1) r p j (Some h)
array-none {t} {s} {z₀} {z} {x} d {r} {p} {j} {at} {q} {b} {h} sp a al f {end} ee l kd ar qp qe bc be sh' =
    let o = ordered-none t s z r j f in
    let sh : Shut t r z x j 0 0 0 0 (j + 3 + count_of t r) (at + 1) h = rw (← ee) sh' in
    let i = mark-inside s at b 0x5D bc be (omega arith) in
    array-closed t s z₀ z x (d + 1) r p j (j + 3 + count_of t r) 0 0 0 0 0 (at + 1) [] h o kd (alike_part 0 j al (omega arith) (omega arith)) sh
    (rw (add-one d) (empty-array-stood t s d r p (at + 1) [] o.parts kd ar (sym qp ∙ qe) (filled-read p (count_of t r) o.filled (λ w a₁ b₁. sh.complete w b₁ (no-bit w)) (λ w. absurd (omega arith)) (omega arith)) at refl sp (sym bc ∙ be) refl))
    (omega arith) (omega arith) (omega arith) (omega arith) (omega arith)

pub shuts_behind : {t : Table} {s y : List ℕ} {d r p j c end k met has n m : ℕ} → Behind t s y d r p j c end k met has n m → Sane t → is_type t r ≡ true → n + count_of t r ≤ 1048576 → Shuts t r has n
shuts_behind {r = r} a sane typed l = (sane.few r typed, ordered-few a.ordered, l)
