-- The name of a member.
use Prim.Native.Nat.{ℕ, ◌+◌, ◌<◌, ◌≤◌}
use mathlib.Core.Path.{◌≡◌, sym, ap, ◌∙◌}
use mathlib.Core.List.{List, [], ◌∷◌, ◌++◌}
use Rattle.std.specs.Prelude.{Option, Some}
use native.Mathlib.Numerals.{add-one}
use native.Mathlib.Omega.{arith}
use lib.ListN.{length, take, drop}
use Rattle.json_text.specs.Bytes.{past}
use mathlib.Core.Bool.{Bool, false}
use Rattle.spelled.specs.Leaves.{StringAt}
use Rattle.spelled.proofs.StringLaws.{string_denotes}
use Rattle.spelled.specs.Names.{Distinct, FoundAmong}
use Rattle.jer.specs.Table.{Table, position, first_of, count_of}
use Rattle.tokens.specs.Places.{byte_at}
use Rattle.tokens.specs.Strings.{denoted}
use Rattle.tokens.proofs.TiePlace.{past_append}
use Rattle.places.proofs.MeaningNames.{position-found}
use Rattle.quick.specs.declared.name.Name as declared-name
use Rattle.quick.specs.Stood.{Spaces, NameAt}
use Rattle.quick.specs.Taken.{NameTaken}
use Rattle.quick.proofs.ListLaws.{byte_drop}

-- a name: its string from o up to q, the colon at c
pub name-here : {s : List ℕ} {o q c n : ℕ} {e : Bool} (k : StringAt s o q n e) → Spaces s q c → byte_at s c ≡ 0x3A → NameAt s o (c + 1) k.chars
unfolding past
name-here {s} {o} {q} {c} k y cb =
    let x = k.passed.stretch in
    rw (add-one c) (record {
      marks = x.bytes;
      quoted = x.holds;
      gap = y.bytes;
      space = y.holds;
      text = x.text ∙ rw (y.text, byte_drop s c 0x3A cb (omega arith));
      end = rw (past_append o x.bytes (y.bytes ++ (0x3A ∷ [])), x.end, past_append q y.bytes (0x3A ∷ []), y.end);
    })

-- ---- the member that has it

-- the name's position, as it is found
pub name-taken : {t : Table} {s : List ℕ} {r o : ℕ} {g : declared-name.Name} {q c n : ℕ} {e : Bool} (k : StringAt s o q n e) → Spaces s q c → byte_at s c ≡ 0x3A → g.next ≡ c + 1 → q ≤ c → c < length s → position t r k.chars ≡ g.position
    → NameTaken t s r o g
name-taken {t} {s} {r} {o} {g} k y cb en l m p =
    record { name = k.chars; stood = rw en (name-here k y cb); found = p; ahead = omega (arith, k.passed.ahead); placed = omega arith }

pub plain-position : (t : Table) {s : List ℕ} (r : ℕ) {o n first count : ℕ} {e : Bool} {x : Option ℕ} → e ≡ false → first ≡ first_of t r → count ≡ count_of t r → Distinct t r → FoundAmong t first count (take n (drop (o + 1) s)) x → (q : ℕ) (w : StringAt s o q n e) → position t r w.chars ≡ x
plain-position t r u e f d h q w = ap (λ (y : List ℕ). position t r y) (w.plain u).0 ∙ h r e f d

pub denoted-position : (t : Table) (s : List ℕ) (r o n : ℕ) {x : Option ℕ} (e : Bool) → x ≡ position t r (denoted s (o + 1)) → (q : ℕ) (w : StringAt s o q n e) → position t r w.chars ≡ x
denoted-position t s r o n e h q w = ap (λ (y : List ℕ). position t r y) (sym (string_denotes s o q n e w)) ∙ sym h

-- a name that is found is a member's
pub name-inside : {t : Table} {s : List ℕ} {r o k : ℕ} {g : declared-name.Name} → NameTaken t s r o g → g.position ≡ Some k → k < count_of t r
name-inside {t} {r = r} {k = k} h e = (position-found t r h.name k (h.found ∙ e)).1
