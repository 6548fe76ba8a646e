-- Tokens of types, and null. Assumes nothing.
use Rattle.std.specs.Prelude.{is_some}
use Rattle.jer.specs.declared.Token.{Token}
use Rattle.jer.specs.declared.Token.TheVariants as tok
use mathlib.Core.Path.{◌≡◌, sym, ap, ◌∙◌}
use Rattle.std.specs.Prelude.{Option, Some}
use Rattle.types.specs.declared.row.Row.{Row}
use Rattle.types.specs.Rows.{row_of}
use Rattle.types.proofs.RowLaws.{kind-of, kind-is}
use mathlib.Core.Bool.{Bool, true, false}
use Prim.Native.Nat.{ℕ}
use borrow.Author.Tests.{ne_eqb}
use lib.Dec.{eqb}
use Rattle.jer.specs.Table.{Table, kind_of, type_at, token_of, same_token, alternative, is_unwrapped, can_be_null}

-- the alternative at i has the token
abbrev pub picks : Table → ℕ → Token → ℕ → Bool
picks t r k i = same_token (token_of t (type_at t r i)) (Some k)

-- ---- null

module _ (t : Table) (r : ℕ) {w : Row} (e : w ≡ row_of t r) where
  pub null-kind : w.kind ≡ 3 → eqb w.kind 3 ≡ can_be_null t r
  unfolding can_be_null
  null-kind k = rw (kind-is t r e k, k)

  module _ {b : Bool} (k : w.kind ≡ 3 → ⊥) (p : b ≡ is_unwrapped t r) where
    not_null : eqb (kind_of t r) 3 ≡ false
    not_null = ne_eqb (kind_of t r) 3 (λ q. k (kind-of t r e ∙ q))

    pub null-wrapped : b ≡ false → b ≡ can_be_null t r
    unfolding can_be_null
    null-wrapped h = rw (not_null, sym p ∙ h, h)

    pub null-picked : {o : Option ℕ} {s : Bool} → b ≡ true → o ≡ alternative t r tok.Null → s ≡ is_some o → s ≡ can_be_null t r
    unfolding can_be_null
    null-picked h q s = rw (not_null, sym p ∙ h) (s ∙ ap is_some q)
