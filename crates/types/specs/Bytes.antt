-- The state of the code's UTF-8 check as that of `json_text`, and bytes that need none.
use Rattle.std.specs.Prelude.{ℕ, ◌<◌, ◌≤◌, List, length, get_or}
use Rattle.json_text.specs.Utf8.{Due, start, due, never}
use Rattle.types.specs.declared.bytes.Due.{Due as State}
use Rattle.types.specs.declared.bytes.Due.TheVariants.{Start, Next, Never}

unfoldable pub due_of : State → Due
due_of Start = start
due_of (Next low high more) = due low high more
due_of Never = never

abbrev pub Ascii : List ℕ → Type 0
Ascii s = (i : ℕ) → i < length s → get_or s i 0 ≤ 0x7F
