-- The call, once the type table is good.
use Rattle.jer.specs.Answer.{Writing}
use Rattle.std.specs.Prelude.{ℕ, ◌≡◌, List, length}
use Rattle.slices.specs.Lent.{Lent, before, after}
use Rattle.jer.specs.Table.{Table}
use Rattle.jer.specs.Judge.{judge}
use Rattle.jer.specs.Write.{write}
use Rattle.jer.specs.Answer.{Res, ok, bind}
use Rattle.jer.specs.Calls.{write_answer, text_after}
use Rattle.written.specs.Text.{type_table}
use Rattle.written.specs.declared.tables.Tables.{Tables}

unfoldable pub value_written : Table → List ℕ → List ℕ → Res (List ℕ)
value_written t ns pool = bind (judge t ns pool) (λ v. ok (write v t 0))

-- what `jer` says of a written text: the answer a, and the lent text, before and after
pub record Answers (x : Res (List ℕ)) (text₀ text₁ : List ℕ) (a : Writing) : Type 0 where
  pub answer : a ≡ write_answer (length text₀) x
  pub text : text₁ ≡ text_after text₀ x

-- the text of the value table, in the lent text
abbrev pub WritesText : Tables → Lent → Writing → Type 0
WritesText tables text r = Answers (value_written (type_table tables) tables.values.now tables.pool.now) (before text) (after text) r
