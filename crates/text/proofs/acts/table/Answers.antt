use Prim.Native.Nat.{ℕ, ◌<◌, ◌+◌, ◌-◌}
use mathlib.Core.Path.{◌≡◌, ◌∙◌, ap}
use mathlib.Core.List.{List, [], ◌∷◌}
use mathlib.Core.Bool.{Bool}
use native.Mathlib.Nat.{zero-add}
use native.Mathlib.Omega.{arith}
use lib.Dec.{T, eqb, eqb→eq}
use lib.ListN.{get_or}
use Rattle.json_text.specs.Bytes.{In, pick}
use Rattle.text.specs.Class.{class_of}
use Rattle.text.specs.Outline.{act_of}
use Rattle.text.proofs.Computed.{all, below, table, table_at}
use Rattle.text.proofs.ClassLaws.{class_range}
use Rattle.text.proofs.acts.table.Goals as goal

-- the first byte of each class
firsts : List ℕ
firsts =
    0x00 ∷ 0x09 ∷ 0x20 ∷ 0x22 ∷ 0x5C ∷ 0x5B ∷ 0x5D ∷ 0x7B ∷ 0x7D ∷ 0x2C ∷ 0x3A ∷ 0x2D ∷ 0x2B ∷ 0x2E ∷ 0x30 ∷ 0x31 ∷ 0x38 ∷ 0x41 ∷ 0x43 ∷ 0x44 ∷ 0x45
    ∷ 0x61 ∷ 0x62 ∷ 0x65 ∷ 0x66 ∷ 0x6C ∷ 0x6E ∷ 0x72 ∷ 0x73 ∷ 0x74 ∷ 0x75 ∷ 0x2F ∷ 0x21
    ∷ 0x80 ∷ 0x90 ∷ 0xA0 ∷ 0xC2 ∷ 0xE0 ∷ 0xE1 ∷ 0xED ∷ 0xF0 ∷ 0xF1 ∷ 0xF4 ∷ []

entry : ℕ → ℕ → ℕ
entry m c = act_of m (get_or firsts c 0)

row : ℕ → List ℕ
row m = table (entry m) 0 43

acts : List (List ℕ)
acts = table row 48 43

right : ℕ → ℕ → Bool
right m b = eqb (entry m (class_of b - 48)) (act_of m b)

test : T (all (λ n. all (right (48 + n)) 256) 43)
unfolding right entry firsts class_of act_of pick
test = tt

cell : (m c : ℕ) → In 48 90 m → c < 43 → get_or (get_or acts (m - 48) []) c 0 ≡ entry m c
unfolding acts row
cell m c h l =
    let e : 48 + (m - 48) ≡ m = omega arith in
    ap (λ (r : List ℕ). get_or r c 0) (table_at row 48 43 (m - 48) [] (omega arith) ∙ ap row e) ∙ table_at (entry m) 0 43 c 0 l ∙ ap (entry m) (zero-add c)

passed : (m b : ℕ) → In 48 90 m → b < 256 → entry m (class_of b - 48) ≡ act_of m b
unfolding right
passed m b h l =
    let e : 48 + (m - 48) ≡ m = omega arith in
    eqb→eq (entry m (class_of b - 48)) (act_of m b) (rw e at (below (right (48 + (m - 48))) 256 (below (λ n. all (right (48 + n)) 256) 43 test (m - 48) (omega arith)) b l))

pub returns : goal.returns
unfolding acts row entry firsts act_of pick
returns c m b h l = cell m (class_of b - 48) h (omega (arith, class_range b l)) ∙ passed m b h l
