-- What the call does, by what it answers.
use Rattle.jer.specs.Answer.{Reading}
use Rattle.std.specs.Prelude.{◌≡◌, List, ℕ, Option, None, Some}
use Rattle.jer.specs.Table.{Table}
use Rattle.jer.specs.CallClauses.{ReadCall}

-- an answer is that of `reading::read`, with the buffers that it leaves; without one they are as they were
abbrev pub Replied : Table → List ℕ → List ℕ → List ℕ → Option Reading → List ℕ → List ℕ → Type 0
Replied t s rows pool (Some r) rows' pool' = ReadCall t s rows pool r rows' pool'
Replied t s rows pool None rows' pool' = (rows' ≡ rows) × (pool' ≡ pool)
