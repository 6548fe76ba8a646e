-- The reading call on two texts: a text respelled with other options of its sender has the same value; texts that differ only inside
-- the values of skipped members get the same rows and pool, or the same refusal number.
use Prim.Native.Nat.{ℕ, ◌≤◌}
use mathlib.Core.Path.{◌≡◌, refl, sym, ◌∙◌}
use mathlib.Core.List.{List}
use Rattle.std.specs.Prelude.{None}
use lib.ListN.{length}
use Rattle.json_text.specs.Tree.{Json}
use Rattle.json_text.specs.Grammar.{Text}
use Rattle.jer.specs.Table.{Table}
use Rattle.jer.specs.Valid.{first_bad}
use Rattle.jer.specs.Value.{Val}
use Rattle.jer.specs.Answer.{Res, ok}
use Rattle.jer.specs.Calls.{read_text, read_answer, rows_after, pool_after}
use Rattle.jer.specs.Skipped.{SameAnswer, same_value, same_number, SameCall, same_reading, same_refusal, SkipAlike}
use Rattle.jer.specs.Respelled.{Respelled}
use Rattle.jer.proofs.ValidSane.{valid_sane}
use Rattle.jer.proofs.SpellCalls.{read-text}
use Rattle.jer.proofs.Whole.{whole_respelled, whole-only, whole-skipped}

-- Demand 2: "A text is read as the value that X.697 gives it, whatever options its sender chose"
pub respelled_texts : {t : Table} {j k : Json} {v : Val} (s u : List ℕ) → first_bad t ≡ None → Text 32 j s → Text 32 k u → length s ≤ 65536 → length u ≤ 65536 → Respelled t 0 j k
    → read_text t s ≡ ok v → read_text t u ≡ ok v
respelled_texts {t} s u good x y l m h e = read-text t u good y m ∙ whole_respelled (valid_sane t good) h (sym (read-text t s good x l) ∙ e)

-- no other text is read as that value
pub only_respelled_texts : {t : Table} {j k : Json} {v : Val} (s u : List ℕ) → first_bad t ≡ None → Text 32 j s → Text 32 k u → length s ≤ 65536 → length u ≤ 65536
    → read_text t s ≡ ok v → read_text t u ≡ ok v → Respelled t 0 j k
only_respelled_texts {t} s u good x y l m e f = whole-only (valid_sane t good) (sym (read-text t s good x l) ∙ e) (sym (read-text t u good y m) ∙ f)

-- "Two texts that differ only inside the values of skipped members, both JSON within the sizes, get the same rows and pool, or the same
-- refusal number."
pub skipped-texts : {t : Table} {j k : Json} (s u : List ℕ) → first_bad t ≡ None → Text 32 j s → Text 32 k u → length s ≤ 65536 → length u ≤ 65536 → SkipAlike t 0 j k
    → SameAnswer (read_text t s) (read_text t u)
skipped-texts {t} s u good x y l m h = rw (read-text t s good x l, read-text t u good y m) (whole-skipped (valid_sane t good) h)

-- ---- the buffers

pub same-call : (t : Table) (rows pool : List ℕ) {x y : Res Val} → SameAnswer x y → SameCall t rows pool x y
unfolding read_answer rows_after pool_after
same-call t rows pool same_value = record { answer = same_reading; rows_same = refl; pool-same = refl }
same-call t rows pool (same_number n) = record { answer = same_refusal n; rows_same = refl; pool-same = refl }

pub skipped-stores : {t : Table} {j k : Json} (s u rows pool : List ℕ) → first_bad t ≡ None → Text 32 j s → Text 32 k u → length s ≤ 65536 → length u ≤ 65536 → SkipAlike t 0 j k
    → SameCall t rows pool (read_text t s) (read_text t u)
skipped-stores {t} s u rows pool good x y l m h = same-call t rows pool (skipped-texts s u good x y l m h)
