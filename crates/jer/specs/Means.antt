-- What judging and reading a text answer, what a text means at a type table, and what a value table holds: by the grammar and by
-- well-formed values alone. `Calls` says the same by a machine that takes one byte at a time; `promises` shows that the two are one.
use Rattle.std.specs.Prelude.{Err, Ok}
use Rattle.jer.specs.Answer.{Judged}
use Rattle.std.specs.Prelude.{ℕ, ◌≤◌, ◌<◌, ◌≡◌, List, length}
use Rattle.std.specs.Prelude.{None, Some}
use Rattle.json_text.specs.Tree.{Json}
use Rattle.json_text.specs.Grammar.{Text, NotJsonAt, TooDeepAt}
use Rattle.jer.specs.declared.Cause.TheVariants.{TooLong, NotJson, TooDeep}
use Rattle.jer.specs.declared.Which.TheVariants.{TypeTable}
use Rattle.jer.specs.declared.Refusal.{Refusal}
use Rattle.jer.specs.declared.Refusal.TheVariants.{AtByte, AtRow}
use Rattle.jer.specs.Table.{Table}
use Rattle.jer.specs.Valid.{first_bad}
use Rattle.jer.specs.Value.{Val}
use Rattle.jer.specs.Answer.{Res, ok, no}
use Rattle.jer.specs.Read.{read_whole}
use Rattle.jer.specs.Rows.{numbers, rows_of, pool_of}
use Rattle.jer.specs.Fits.{Fits}

-- What judging the text s answers: 2 if it is too long, else 3 or 4 where the grammar says so, else it is a JSON text.
pub data Judges (s : List ℕ) : Judged → Type 0 where
  long : 65536 < length s → Judges s (Err (AtByte TooLong 65536))
  broken : {p : ℕ} → length s ≤ 65536 → NotJsonAt 32 s p → Judges s (Err (AtByte NotJson p))
  deep : {p : ℕ} → length s ≤ 65536 → TooDeepAt 32 s p → Judges s (Err (AtByte TooDeep p))
  json : {j : Json} → length s ≤ 65536 → Text 32 j s → Judges s (Ok tt)

-- What reading the text s at the table t gives: 1 if the table is bad, then what judging the text refuses, then what its tree means.
pub data Reads (t : Table) (s : List ℕ) : Res Val → Type 0 where
  bad_table : {r : ℕ} → first_bad t ≡ Some r → Reads t s (no (AtRow TypeTable r))
  bad_text : {e : Refusal} → first_bad t ≡ None → Judges s (Err e) → Reads t s (no e)
  typed : {j : Json} {x : Res Val} → first_bad t ≡ None → length s ≤ 65536 → Text 32 j s → x ≡ read_whole t j → Reads t s x

-- v is the value that the table t reads in the text s: the table is good, the text is JSON within the sizes, and v is what its tree means
pub record Means (t : Table) (s : List ℕ) (v : Val) : Type 0 where
  pub good : first_bad t ≡ None
  pub json : Json
  pub text : Text 32 json s
  pub size : length s ≤ 65536
  pub value : read_whole t json ≡ ok v

-- ns and the pool are the value table of v, which is well formed
pub record TableOf (t : Table) (v : Val) (ns pool : List ℕ) : Type 0 where
  pub fits : Fits t 32 0 v
  pub rows : ns ≡ numbers (rows_of v t 0 0)
  pub bytes : pool ≡ pool_of v
