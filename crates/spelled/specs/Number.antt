-- Numbers whose value is of no account: the grammar's relations with some number.
use Rattle.std.specs.Prelude.{ℕ, Bool, List, [], ◌∷◌}
use Rattle.json_text.specs.Grammar.{Digits, Onward, Whole, Signed, Power}

pub record SomeOnward (m : ℕ) (bs : List ℕ) : Type 0 where
  pub number : ℕ
  pub onward : Onward m number bs

pub record SomeWhole (bs : List ℕ) : Type 0 where
  pub number : ℕ
  pub whole : Whole number bs

pub record SomeSigned (bs : List ℕ) : Type 0 where
  pub minus : Bool
  pub number : ℕ
  pub signed : Signed minus number bs

-- a fraction, or none
pub data Dotted : List ℕ → Type 0 where
  no_dot : Dotted []
  dot : {bs : List ℕ} → Digits bs → Dotted (0x2E ∷ bs)

-- what follows the letter of an exponent
pub data Raised : List ℕ → Type 0 where
  bare : {bs : List ℕ} → Digits bs → Raised bs
  plus : {bs : List ℕ} → Digits bs → Raised (0x2B ∷ bs)
  minus : {bs : List ℕ} → Digits bs → Raised (0x2D ∷ bs)

-- an exponent, or none
pub data Powered : List ℕ → Type 0 where
  no_power : Powered []
  some_power : {bs : List ℕ} → Power bs → Powered bs
