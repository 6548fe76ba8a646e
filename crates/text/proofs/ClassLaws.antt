-- Classes and acts are characters from 0 on, by computed tests over all bytes.
use Prim.Native.Nat.{ℕ, ◌<◌, ◌≤◌, ◌+◌, ◌-◌}
use mathlib.Core.Path.{◌≡◌}
use mathlib.Core.Bool.{Bool, ◌&&◌}
use native.Mathlib.Omega.{arith}
use lib.Dec.{T, leb, leb→le}
use Rattle.json_text.specs.Bytes.{In, pick}
use Rattle.text.specs.Class.{class_of}
use Rattle.text.specs.Outline.{act_of}
use Rattle.text.proofs.Computed.{both, all, below}

-- a class is a character from 0 to Z
ranged : ℕ → Bool
ranged b = leb 48 (class_of b) && leb (class_of b) 90

ranged-all : T (all ranged 256)
unfolding ranged class_of
ranged-all = tt

pub class_range : (b : ℕ) → b < 256 → (48 ≤ class_of b) × (class_of b ≤ 90)
unfolding ranged
class_range b h = let t = both (leb 48 (class_of b)) (leb (class_of b) 90) (below ranged 256 ranged-all b h) in (leb→le 48 (class_of b) t.0, leb→le (class_of b) 90 t.1)

-- so is an act
acts_all : T (all (λ n. all (λ b. leb 48 (act_of (48 + n) b)) 256) 43)
unfolding act_of pick
acts_all = tt

pub act_range : (m b : ℕ) → In 48 90 m → b < 256 → 48 ≤ act_of m b
act_range m b h l =
    let e : 48 + (m - 48) ≡ m = omega arith in
    leb→le 48 (act_of m b) (rw e at (below (λ b. leb 48 (act_of (48 + (m - 48)) b)) 256 (below (λ n. all (λ b. leb 48 (act_of (48 + n) b)) 256) 43 acts_all (m - 48) (omega arith)) b l))
