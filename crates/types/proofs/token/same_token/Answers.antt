use mathlib.Core.Path.{◌≡◌, refl, ◌∙◌}
use Rattle.std.specs.Prelude.{Option, None, Some}
use Rattle.std.specs.Option.{option_eq}
use Rattle.jer.specs.declared.Token.{Token}
use Rattle.jer.specs.declared.Token.TheVariants.{Null, Boolean, Number, String, Array, Object}
use Rattle.jer.specs.Table.{token_code, code_of, same_token}
use Rattle.jer.specs.contracts.TokenPartialEq.TheImpl as derived
use Rattle.types.proofs.token.same_token.Goals as goal

-- the derived equality, and none, compare by the codes
abbrev equal : Option Token → Option Token → Type 0
equal a b = option_eq derived.eq-value.it a b ≡ same_token a b

by_codes : (a b : Option Token) → equal a b
unfolding same_token code_of token_code
by_codes None None = refl
by_codes None (Some y) = elim y as (λ y. equal None (Some y)) [ Null ↦ refl | Boolean ↦ refl | Number ↦ refl | String ↦ refl | Array ↦ refl | Object ↦ refl ]
by_codes (Some x) None = elim x as (λ x. equal (Some x) None) [ Null ↦ refl | Boolean ↦ refl | Number ↦ refl | String ↦ refl | Array ↦ refl | Object ↦ refl ]
by_codes (Some x) (Some y) =
    elim x as (λ x. equal (Some x) (Some y)) [
      | Null ↦ elim y as (λ y. equal (Some Null) (Some y)) [ Null ↦ refl | Boolean ↦ refl | Number ↦ refl | String ↦ refl | Array ↦ refl | Object ↦ refl ]
      | Boolean ↦ elim y as (λ y. equal (Some Boolean) (Some y)) [ Null ↦ refl | Boolean ↦ refl | Number ↦ refl | String ↦ refl | Array ↦ refl | Object ↦ refl ]
      | Number ↦ elim y as (λ y. equal (Some Number) (Some y)) [ Null ↦ refl | Boolean ↦ refl | Number ↦ refl | String ↦ refl | Array ↦ refl | Object ↦ refl ]
      | String ↦ elim y as (λ y. equal (Some String) (Some y)) [ Null ↦ refl | Boolean ↦ refl | Number ↦ refl | String ↦ refl | Array ↦ refl | Object ↦ refl ]
      | Array ↦ elim y as (λ y. equal (Some Array) (Some y)) [ Null ↦ refl | Boolean ↦ refl | Number ↦ refl | String ↦ refl | Array ↦ refl | Object ↦ refl ]
      | Object ↦ elim y as (λ y. equal (Some Object) (Some y)) [ Null ↦ refl | Boolean ↦ refl | Number ↦ refl | String ↦ refl | Array ↦ refl | Object ↦ refl ]
    ]

pub returns : goal.returns
returns c = c.eq.ensures ∙ by_codes c.args.a c.args.b
