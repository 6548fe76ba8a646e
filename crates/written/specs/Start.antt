-- Where a value begins: at its own row, or, of an UNWRAPPED choice, at its alternative's.
use Rattle.std.specs.Prelude.{ℕ, suc, ◌+◌, ◌-◌, ◌≡◌, List, ◌∷◌, true, false, ◌&&◌, eqb, ltb, drop}
use Rattle.jer.specs.Table.{Table, CHOICE, kind_of, is_unwrapped, count_of, type_at}
use Rattle.jer.specs.Rows.{ValueRow}
use Rattle.jer.specs.Judge.{wrong}
use Rattle.std.specs.Prelude.{Option, Some, None, Result, Ok, Err}
use Rattle.written.specs.Text.{Taken, took_to, value_text, ended_as}
use Rattle.written.specs.declared.start.Start.{Start}
use Rattle.written.specs.declared.taken.Wrong.{Wrong}

-- of a value of the type at r, whose rows begin at q
pub data Begins (t : Table) (rows : List ValueRow) (r q : ℕ) (s : Start) : Type 0 where
  own : is_unwrapped t r ≡ false → s.row ≡ r → s.kind ≡ kind_of t r → s.slot ≡ q → s.size ≡ None → Begins t rows r q s
  chosen : (w : ValueRow) → is_unwrapped t r ≡ true → drop q rows ≡ w ∷ drop (suc q) rows → (eqb w.kind CHOICE && (ltb w.a (count_of t r) && eqb w.b 0)) ≡ true
      → s.row ≡ type_at t r w.a → s.kind ≡ kind_of t s.row → s.slot ≡ q + 1 → s.size ≡ Some w.size → Begins t rows r q s

-- it begins there, or is not taken
abbrev pub Starts : Table → List ValueRow → ℕ → ℕ → Result Start Wrong → Type 0
Starts t rows r q (Ok s) = Begins t rows r q s
Starts t rows r q (Err e) = (e.slot ≡ q) × ((d : ℕ) (pool : List ℕ) (o : ℕ) → value_text d t pool (drop q rows) r q o ≡ wrong q)

-- taken: the value's own, or that of an alternative, after the row of its choice at q, which has the size
unfoldable pub closed_as : Option ℕ → ℕ → ℕ → ℕ → ℕ → Taken
closed_as (Some size) q next used end = ended_as (true && eqb size (next - q)) q next used end
closed_as None q next used end = took_to next used end
