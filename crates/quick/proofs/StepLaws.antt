-- One member of an object: a null for its absence, or a value with its link.
use Prim.Native.Nat.{ℕ, ◌+◌, ◌<◌, ◌≤◌}
use mathlib.Core.Path.{◌≡◌, refl, sym, ap, ◌∙◌}
use mathlib.Core.List.{List}
use mathlib.Core.Bool.{Bool, true, false, ◌&&◌}
use Rattle.std.specs.Prelude.{None, Some}
use native.Mathlib.Omega.{arith}
use lib.Dec.{eqb}
use lib.ListN.{length, get_or, set, length-set}
use Rattle.json_text.specs.Tree.{Json, jnull}
use Rattle.json_text.specs.Grammar.{Value}
use Rattle.jer.specs.Table.{Table, count_of, type_at, extensible, may_miss}
use Rattle.jer.specs.Read.{null_absent, null?}
use Rattle.tokens.specs.Places.{byte_at}
use Rattle.places.specs.ByPlaces.{bit_of, with_bit}
use Rattle.quick.specs.declared.Got.{Got}
use Rattle.quick.specs.declared.name.Name as declared-name
use Rattle.quick.specs.declared.step.Step as declared-step
use Rattle.spelled.specs.Stretch.{Passed, ValueAt}
use Rattle.quick.specs.Stood.{Spaces, TreeAt}
use Rattle.quick.specs.Tape.{Alike}
use Rattle.quick.specs.Taken as taken
use Rattle.quick.specs.Taken.{Given, Taken, Walked, NameTaken, MemberAt, Met, valued, nulled, passed, Stepped, Came}
use Rattle.quick.proofs.TapeLaws.{alike_part}
use Rattle.quick.proofs.WalkLaws.{alike_then, alike_set}
use Rattle.quick.proofs.MemberLaws.{null-at}

-- the six numbers of a step
abbrev pub Gave : ℕ → ℕ → ℕ → ℕ → ℕ → ℕ → declared-step.Step → Type 0
Gave next tape rows pool met has g = (g.next ≡ next) × (g.tape ≡ tape) × (g.rows ≡ rows) × (g.pool ≡ pool) × (g.met ≡ met) × (g.present ≡ has)

no-null : (p : ℕ) → null? (jnull p) ≡ true
unfolding null?
no-null p = refl

-- what a value of the member at k is given
pub member-given : {t : Table} (s : List ℕ) {z : List ℕ} {r p j at k m : ℕ} → length s ≤ 65536 → Given t z r p j → k < count_of t r → m ≡ type_at t r k → at ≤ length s → Given t z m at j
member-given s {r = r} {k = k} short g l e a =
    record { sane = g.sane; typed = rw e (g.sane.member r k g.typed l); room = g.room; here = omega (arith, short); start = g.start }

member-at : {t : Table} {s : List ℕ} {r p at : ℕ} {nm : declared-name.Name} (nt : NameTaken t s r p nm) → Spaces s nm.next at → (d q : ℕ) (tree : Json) → TreeAt s d at q tree → MemberAt s d p q nt.name tree
member-at {at = at} {nm = nm} nt sp d q tree k = record { colon = nm.next; named = nt.stood; from = at; gap = sp; value = k }

absent-is : (t : Table) (s : List ℕ) (d r at k q : ℕ) (tree : Json) {b : Bool} → b ≡ (eqb (byte_at s at) 0x6E && null_absent t r k) → TreeAt s d at q tree → (null? tree && null_absent t r k) ≡ b
absent-is t s d r at k q tree ab w = ap (λ (x : Bool). x && null_absent t r k) (sym (null-at s d at q tree w)) ∙ sym ab

module _ {t : Table} {s z : List ℕ} {d r p top end met has at k : ℕ} {nm : declared-name.Name} (nt : NameTaken t s r p nm) (e : nm.position ≡ Some k) (l : k < count_of t r) (un : bit_of met k ≡ false)
    (sp : Spaces s nm.next at × (nm.next ≤ at) × (nm.next ≤ length s → at ≤ length s)) {b : Bool} (ab : b ≡ (eqb (byte_at s at) 0x6E && null_absent t r k)) {g : declared-step.Step} where
  pub step-null : b ≡ true → (n : ℕ) → ((d : ℕ) → Passed (Value d at (jnull at)) s at n) → {mt : ℕ} → mt ≡ with_bit met k → Gave n end 0 0 mt has g → end ≤ length z → Stepped t s z z d r p top end met has g
  step-null h n x em w i =
      let y : TreeAt s d at g.next (jnull at) = rw w.0 (x d).stretch in
      record {
        how = nulled {i = k} (member-at nt sp.0 d g.next (jnull at) y) (nt.found ∙ e) un (absent-is t s d r at k g.next (jnull at) ab y ∙ h) refl w.1 w.2 w.3 (w.4 ∙ em) w.5;
        ahead = omega (arith, w.0, sp.1, nt.ahead, (x d).ahead);
        placed = omega (arith, w.0, (x d).inside);
        words = omega (arith, w.1, w.2);
        inside = omega (arith, w.1);
        few = omega (arith, w.0, w.3, sp.1, nt.ahead, (x d).ahead);
      }

  pub step_value : b ≡ false → (m c : ℕ) (v : Got) (y : List ℕ) → m ≡ type_at t r k → c ≡ k → Walked t s z y d m at end (Some v) → {mt hs : ℕ} → mt ≡ with_bit met k → hs ≡ with_bit has k → Gave v.next v.tape v.rows v.pool mt hs g
      → Stepped t s z (set y (top + 3 + c) end) d r p top end met has g
  step_value h m c v y em ec w' e₁ e₂ w =
      let x : Taken t s y d (type_at t r k) at end v = rw (← em) w'.taken in
      let q : TreeAt s d at g.next x.stood.tree = rw w.0 x.stood.here in
      record {
        how = valued {i = k} {z = y} (member-at nt sp.0 d g.next x.stood.tree q) (nt.found ∙ e) un (absent-is t s d r at k g.next x.stood.tree ab q ∙ h) x.stood.reads w'.kept (rw w.1 x.stands) (ap (λ (n : ℕ). set y (top + 3 + n) end) ec)
            (w.2 ∙ x.rows) (w.3 ∙ x.pool) (w.4 ∙ e₁) (w.5 ∙ e₂);
        ahead = omega (arith, w.0, sp.1, nt.ahead, x.ahead);
        placed = omega (arith, w.0, x.placed);
        words = omega (arith, w.1, w.2, x.words);
        inside = omega (arith, w.1, x.inside, length-set y (top + 3 + c) end);
        few = omega (arith, w.0, w.3, sp.1, nt.ahead, x.few);
      }

tree-to : {s : List ℕ} {d at n q : ℕ} (j : Json) → q ≡ n → TreeAt s d at n j → TreeAt s d at q j
tree-to j e k = rw e k

-- an unknown one
pub step-passed : {t : Table} {s z : List ℕ} {d r p top end met has at : ℕ} {nm : declared-name.Name} (nt : NameTaken t s r p nm) → nm.position ≡ None
    → Spaces s nm.next at × (nm.next ≤ at) × (nm.next ≤ length s → at ≤ length s) → {b : Bool} → b ≡ extensible t r → b ≡ true → {g : declared-step.Step} (n : ℕ) → ValueAt d s at n
    → Gave n end 0 0 met has g → end ≤ length z → Stepped t s z z d r p top end met has g
step-passed {t} {s} {z} {d} {r} {p} {at = at} nt l sp e h {g} n x w i =
    let y = tree-to x.tree w.0 x.passed.stretch in
    record {
      how = passed (member-at nt sp.0 d g.next x.tree y) (nt.found ∙ l) (sym e ∙ h) refl w.1 w.2 w.3 w.4 w.5;
      ahead = omega (arith, w.0, sp.1, nt.ahead, x.passed.ahead);
      placed = omega (arith, w.0, x.passed.inside);
      words = omega (arith, w.1, w.2);
      inside = omega (arith, w.1);
      few = omega (arith, w.0, w.3, sp.1, nt.ahead, x.passed.ahead);
    }

-- the tape before the links is kept
pub link-kept : {t : Table} {s z y : List ℕ} {d m at end : ℕ} {v : Got} (b i : ℕ) → Walked t s z y d m at end (Some v) → b ≤ end → Alike z (set y (b + i) end) 0 b
link-kept {z = z} {y = y} {end = end} b i w l = alike_then z y _ 0 b (alike_part 0 b w.kept (omega arith) l) (alike_set y (b + i) end 0 b (λ n h u e. omega arith))

-- ---- numbers of the table, as the code has them

pub known_at : {k c n : ℕ} → k < c → c ≡ n → k < n
known_at l e = omega arith

pub links-at : (b w c n : ℕ) → w ≡ c → c ≡ n → b + w ≡ b + n
links-at b w c n e f = omega arith

pub cleared_below : (z : List ℕ) (b c n : ℕ) → ((i : ℕ) → i < c → get_or z (b + i) 0 ≡ 0) → c ≡ n → (i : ℕ) → i < n → get_or z (b + i) 0 ≡ 0
cleared_below z b c n f e i l = f i (omega arith)

-- ---- an element of an ARRAY

missing-is : (t : Table) (s : List ℕ) (d r at k q : ℕ) (tree : Json) {b : Bool} → b ≡ (eqb (byte_at s at) 0x6E && may_miss t r k) → TreeAt s d at q tree → (null? tree && may_miss t r k) ≡ b
missing-is t s d r at k q tree ab w = ap (λ (x : Bool). x && may_miss t r k) (sym (null-at s d at q tree w)) ∙ sym ab

module _ {t : Table} {s z : List ℕ} {d r p top end met has k : ℕ} {g : declared-step.Step} where
  pub element-surplus : count_of t r ≤ k → {b : Bool} → b ≡ extensible t r → b ≡ true → (n : ℕ) → ValueAt d s p n → Gave n end 0 0 met has g → end ≤ length z → Came t s z z d r p top end k met has g
  element-surplus l e h n x w i =
      record {
        how = taken.surplus (tree-to x.tree w.0 x.passed.stretch) l (sym e ∙ h) refl w.1 w.2 w.3 w.4 w.5;
        ahead = omega (arith, w.0, x.passed.ahead);
        placed = omega (arith, w.0, x.passed.inside);
        words = omega (arith, w.1, w.2);
        inside = omega (arith, w.1);
        few = omega (arith, w.0, w.3, x.passed.ahead);
      }

  module _ (l : k < count_of t r) {b : Bool} (ab : b ≡ (eqb (byte_at s p) 0x6E && may_miss t r k)) where
    pub element-null : b ≡ true → (n : ℕ) → ((d : ℕ) → Passed (Value d p (jnull p)) s p n) → {mt : ℕ} → mt ≡ with_bit met k → Gave n end 0 0 mt has g → end ≤ length z → Came t s z z d r p top end k met has g
    element-null h n x em w i =
        let y = tree-to (jnull p) w.0 (x d).stretch in
        record {
          how = taken.nothing y l (missing-is t s d r p k g.next (jnull p) ab y ∙ h) refl w.1 w.2 w.3 (w.4 ∙ em) w.5;
          ahead = omega (arith, w.0, (x d).ahead);
          placed = omega (arith, w.0, (x d).inside);
          words = omega (arith, w.1, w.2);
          inside = omega (arith, w.1);
          few = omega (arith, w.0, w.3, (x d).ahead);
        }

    pub element-value : b ≡ false → (m c : ℕ) (v : Got) (y : List ℕ) → m ≡ type_at t r k → c ≡ k → Walked t s z y d m p end (Some v) → {mt hs : ℕ} → mt ≡ with_bit met k → hs ≡ with_bit has k
        → Gave v.next v.tape v.rows v.pool mt hs g → Came t s z (set y (top + 3 + c) end) d r p top end k met has g
    element-value h m c v y em ec w' e₁ e₂ w =
        let x : Taken t s y d (type_at t r k) p end v = rw (← em) w'.taken in
        let q = tree-to x.stood.tree w.0 x.stood.here in
        record {
          how = taken.there {z = y} q l (missing-is t s d r p k g.next x.stood.tree ab q ∙ h) x.stood.reads w'.kept (rw w.1 x.stands) (ap (λ (n : ℕ). set y (top + 3 + n) end) ec) (w.2 ∙ x.rows) (w.3 ∙ x.pool) (w.4 ∙ e₁) (w.5 ∙ e₂);
          ahead = omega (arith, w.0, x.ahead);
          placed = omega (arith, w.0, x.placed);
          words = omega (arith, w.1, w.2, x.words);
          inside = omega (arith, w.1, x.inside, length-set y (top + 3 + c) end);
          few = omega (arith, w.0, w.3, x.few);
        }
