-- Rules on the members of a type by name, and what a first bad row answers.
use Rattle.std.specs.Prelude.{ℕ, Bool, not, eqb, Option, None, Some, Ok, Err}
use Rattle.jer.specs.declared.Which.TheVariants.{TypeTable}
use Rattle.jer.specs.declared.Refusal.TheVariants.{AtRow}
use Rattle.jer.specs.Answer.{Judged}
use Rattle.jer.specs.Table.{Table, count_of, type_at, name_at, same_bytes, is_unwrapped, same_token, token_of}
use Rattle.jer.specs.Valid.{every, all_differ}

-- the type row of each member of the type at r is 0
abbrev pub untyped : Table → ℕ → Bool
untyped t r = every (λ i. eqb (type_at t r i) 0) 0 (count_of t r)

-- no type of one is UNWRAPPED
abbrev pub none_unwrapped : Table → ℕ → Bool
none_unwrapped t r = every (λ i. not (is_unwrapped t (type_at t r i))) 0 (count_of t r)

-- no member before the one at j has its name
unfoldable pub name_is_new : Table → ℕ → ℕ → Bool
name_is_new t r j = every (λ i. not (same_bytes (name_at t r i) (name_at t r j))) 0 j

-- no member before the one at j has a type whose values begin with the same token
unfoldable pub token_is_new : Table → ℕ → ℕ → Bool
token_is_new t r j = every (λ i. not (same_token (token_of t (type_at t r i)) (token_of t (type_at t r j)))) 0 j

-- the values of their types begin with different tokens
abbrev pub tokens_differ : Table → ℕ → Bool
tokens_differ t r = all_differ (λ i j. same_token (token_of t (type_at t r i)) (token_of t (type_at t r j))) (count_of t r)

-- refusal 1 at the first bad row, if there is one
abbrev pub row_judged : Option ℕ → Judged
row_judged None = Ok tt
row_judged (Some r) = Err (AtRow TypeTable r)
