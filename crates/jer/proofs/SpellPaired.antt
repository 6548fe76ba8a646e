-- Rows of a newer and an older table that are paired: where the newer's row finds the older's members, and what it has besides.
use Prim.Native.Nat.{ℕ, ◌≤◌, ◌<◌}
use mathlib.Core.Path.{◌≡◌, sym, ap, ◌∙◌}
use mathlib.Core.Bool.{true, or-true}
use Rattle.std.specs.Prelude.{Some}
use native.Mathlib.Omega.{arith}
use borrow.Author.Tests.{le-leb}
use Rattle.jer.specs.Table.{Table, kind_of, is_type, count_of, root_of, name_at, addition, may_miss, position}
use Rattle.jer.specs.Cut.{ByAdditions}
use Rattle.jer.specs.Sane.{Sane}
use Rattle.jer.proofs.OlderNames.{kind-same}
use Rattle.jer.proofs.ValidLaws.{position-of}

module _ {new old : Table} {R : ℕ → ℕ → Type 0} (pair : ByAdditions new old R) {a b : ℕ} (r : R a b) where
  pub kind-new : (k : ℕ) → kind_of old b ≡ k → kind_of new a ≡ k
  kind-new k e = kind-same pair r ∙ e

  pub type-new : is_type old b ≡ true → is_type new a ≡ true
  unfolding is_type
  type-new e = rw (pair.tags a b r) e

  pub inside-new : (i : ℕ) → i < count_of old b → i < count_of new a
  inside-new i u = omega (arith, pair.fewer a b r)

  pub position-new : Sane new → is_type old b ≡ true → (i : ℕ) → i < count_of old b → position new a (name_at old b i) ≡ Some i
  position-new g k i u = ap (position new a) (sym (pair.names a b i r u)) ∙ position-of new a i g (type-new k) (inside-new i u)

  -- what the older lacks may miss
  pub addition_misses : Sane old → is_type old b ≡ true → (i : ℕ) → count_of old b ≤ i → may_miss new a i ≡ true
  unfolding may_miss addition
  addition_misses g k i u = rw (le-leb (root_of new a) i (omega (arith, pair.roots a b r, g.roots b k)), or-true)
