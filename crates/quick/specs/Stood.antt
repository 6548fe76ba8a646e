-- What stands at a place of the text, by the grammar and `read` alone, nothing by places.
use Rattle.std.specs.Prelude.{ℕ, ◌≡◌, List, ◌++◌, [], ◌∷◌, drop}
use Rattle.json_text.specs.Bytes.{past}
use Rattle.json_text.specs.Tree.{Json}
use Rattle.json_text.specs.Grammar.{Space, Value, Quoted}
use Rattle.jer.specs.Table.{Table}
use Rattle.jer.specs.Value.{Val}
use Rattle.jer.specs.Answer.{ok}
use Rattle.jer.specs.Read.{read}
use Rattle.spelled.specs.Stretch.{Stretch}

-- white space
abbrev pub Spaces : List ℕ → ℕ → ℕ → Type 0
Spaces s p q = Stretch Space s p q

-- a JSON value of at most d open brackets
abbrev pub TreeAt : List ℕ → ℕ → ℕ → ℕ → Json → Type 0
TreeAt s d p q tree = Stretch (Value d p tree) s p q

-- at p stands a JSON value that ends at q, and by the type at r it reads as v
pub record Stood (t : Table) (s : List ℕ) (d r p q : ℕ) (v : Val) : Type 0 where
  pub tree : Json
  pub here : TreeAt s d p q tree
  pub reads : read tree t r ≡ ok v

-- from its quotation mark at p stands the name, with its colon, up to q
pub record NameAt (s : List ℕ) (p q : ℕ) (name : List ℕ) : Type 0 where
  pub marks : List ℕ
  pub quoted : Quoted name marks
  pub gap : List ℕ
  pub space : Space gap
  pub text : drop p s ≡ marks ++ (gap ++ (0x3A ∷ drop q s))
  pub end : past p (marks ++ (gap ++ (0x3A ∷ []))) ≡ q
