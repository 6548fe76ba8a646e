-- Left out of the text and absent in the value: as long as no member has a default, a member may be the one exactly where it may be the other.
use Prim.Native.Nat.{ℕ}
use mathlib.Core.Path.{◌≡◌}
use mathlib.Core.Bool.{true}
use Rattle.jer.specs.Table.{Table, may_miss, may_be_absent}

module _ (t : Table) (r i : ℕ) where
  pub left-absent : may_miss t r i ≡ true → may_be_absent t r i ≡ true
  unfolding may_miss may_be_absent
  left-absent m = m

  pub absent-left : may_be_absent t r i ≡ true → may_miss t r i ≡ true
  unfolding may_miss may_be_absent
  absent-left m = m
