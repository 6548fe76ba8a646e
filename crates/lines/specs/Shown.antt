-- What is printed, from the buffers that hold it.
use Rattle.std.specs.Prelude.{Err, Ok}
use Rattle.jer.specs.Answer.{Judged, Reading, Writing}
use Rattle.std.specs.Prelude.{ℕ, zero, suc, List, [], ◌∷◌, ◌++◌, ◌≡◌, length, take}
use Rattle.std.proofs.lemmas.List.Edits.{sets}
use Rattle.jer.specs.Octets.{hex}
use Rattle.jer.specs.Answer.{values_of}
use Rattle.jer.specs.Programs.{digits8, end_line, refusal_line}

-- a function that is to store xs from k on returned r and left out': r is how many bytes they are, and they stand there as far as there is room
abbrev pub Shows : List ℕ → ℕ → List ℕ → ℕ → List ℕ → Type 0
Shows xs k out r out' = (r ≡ length xs) × (out' ≡ sets out k xs)

unfoldable pub four_line : ℕ → ℕ → ℕ → ℕ → List ℕ
four_line a b c d = end_line (digits8 (a ∷ b ∷ c ∷ d ∷ []))

-- the first n whole rows of four numbers, a line each
unfoldable pub four_lines : ℕ → List ℕ → List ℕ
four_lines zero ns = []
four_lines (suc n) [] = []
four_lines (suc n) (a ∷ []) = []
four_lines (suc n) (a ∷ b ∷ []) = []
four_lines (suc n) (a ∷ b ∷ c ∷ []) = []
four_lines (suc n) (a ∷ b ∷ c ∷ d ∷ ns) = four_line a b c d ++ four_lines n ns

-- what stands for an answer of reading, and of writing
unfoldable pub reading_lines : Reading → List ℕ → List ℕ → List ℕ
reading_lines (Err e) rows pool = refusal_line (values_of e)
reading_lines (Ok c) rows pool = four_lines c.rows rows ++ end_line (hex (take c.pool pool))

unfoldable pub writing_lines : Writing → List ℕ → List ℕ
writing_lines (Err e) text = refusal_line (values_of e)
writing_lines (Ok n) text = end_line (hex (take n text))

-- ---- what judging answers, in a line: the programs that run stored cases print it

unfoldable pub no_line : ℕ → ℕ → List ℕ
no_line n p = end_line (0x4E ∷ 0x4F ∷ 0x20 ∷ (digits8 (n ∷ []) ++ (0x20 ∷ digits8 (p ∷ []))))

-- OK, or NO with the number and the place or row
unfoldable pub judged_line : Judged → List ℕ
judged_line (Ok tt) = end_line (0x4F ∷ 0x4B ∷ [])
judged_line (Err e) = no_line (values_of e).number (values_of e).first
