-- Many texts read one after another, with a good type table: so many are answered, and the buffers are left so.
use Rattle.jer.specs.Answer.{Reading}
use Rattle.std.specs.Prelude.{ℕ, ◌+◌, ◌*◌, ◌^◌, ◌<◌, ◌≡◌, List, [], ◌∷◌, ◌++◌, length, take, drop}
use Rattle.jer.specs.declared.Reported.{Reported}
use Rattle.jer.specs.Table.{Table}
use Rattle.jer.specs.Calls.{read_text, rows_after, pool_after}
use Rattle.jer.specs.Each.{each, rows_used, pool_used, alone, read_each}
use Rattle.slices.specs.Lent.{Lent, before, after}

abbrev pub Ran : Table → List ℕ → List ℕ → Lent → Lent → Lent → ℕ → Type 0
Ran t texts ends rows pool tells r = each r (after rows) (after pool) (after tells) ≡ read_each t texts 0 ends 0 0 (before rows) (before pool) (before tells)

-- the numbers told of a text whose answer is reported so
abbrev pub told_of : Reported → ℕ → ℕ → List ℕ
told_of v rows pool = v.number ∷ v.first ∷ v.second ∷ rows ∷ pool ∷ []

-- a text read into the room that n rows and m pool bytes leave
pub record ReadFrom (t : Table) (s : List ℕ) (n m : ℕ) (r : Reading) (rows pool : Lent) : Type 0 where
  pub answer : r ≡ alone t s (drop (n * 4) (before rows)) (drop m (before pool))
  pub rows_left : after rows ≡ take (n * 4) (before rows) ++ rows_after t (drop (n * 4) (before rows)) (length (drop m (before pool))) (read_text t s)
  pub pool_left : after pool ≡ take m (before pool) ++ pool_after t (length (drop (n * 4) (before rows))) (drop m (before pool)) (read_text t s)
  pub rows_fit : n + rows_used r < 2 ^ 62
  pub pool_fit : m + pool_used r < 2 ^ 64
