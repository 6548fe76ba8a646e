-- Demand 3 speaks of something: the summer table of `examples/booking` is made from the spring table by additions.
use Rattle.std.specs.Prelude.{Ok}
use Rattle.jer.specs.Answer.{read_as}
use Rattle.jer.specs.Answer.{Reading}
use Prim.Native.Nat.{ℕ}
use mathlib.Core.Path.{◌≡◌, refl}
use mathlib.Core.List.{List}
use mathlib.Core.Bool.{true}
use Rattle.std.specs.Prelude.{None}
use Rattle.jer.specs.Valid.{first_bad}
use Rattle.jer.specs.Value.{Val}
use Rattle.jer.specs.Means.{Means}
use Rattle.jer.specs.Cut.{ByAdditions, cut, lacks}
use Rattle.jer.specs.Samples.{outcome}
use Rattle.jer.specs.CallClauses.{ReadCall}
use Rattle.jer.proofs.CutTested.{among, Listed, same, keeps_member, keeps, all_keep, by_additions, by_additions_lem}
use Rattle.promises.specs.Statements.{SameRoom, Stores, Older}
use Rattle.promises.proofs.BookingTables.{spring, summer, rows_paired}
use Rattle.promises.proofs.Demand3.{older-reads-cut}

-- both tables are good
pub spring-good : first_bad spring ≡ None
unfolding outcome spring
spring-good = refl

pub summer-good : first_bad summer ≡ None
unfolding outcome summer
summer-good = refl

tested : by_additions summer spring rows_paired ≡ true
unfolding outcome by_additions all_keep keeps keeps_member among same spring summer rows_paired
tested = refl

pub summer-from-spring : ByAdditions summer spring (Listed rows_paired)
summer-from-spring = by_additions_lem summer spring rows_paired tested

-- so whatever the summer table reads, the spring table reads cut down, or refuses by 11 exactly when the cut value holds what it lacks
pub spring-reads-summer : {s rows pool rows₂ pool₂ a b c d : List ℕ} {n m : ℕ} {r : Reading} → SameRoom rows pool rows₂ pool₂ → ReadCall summer s rows pool (read_as n m) a b
    → ReadCall spring s rows₂ pool₂ r c d → (v : Val) × Means summer s v × Stores summer v rows pool (read_as n m) a b × Older spring rows₂ pool₂ v r c d (lacks (cut v spring 0) spring 0)
spring-reads-summer same x y = older-reads-cut summer-from-spring spring-good same x y
