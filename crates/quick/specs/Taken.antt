-- What the walk over the text is given, and what a success of it says.
use Rattle.std.specs.Prelude.{ℕ, ◌+◌, ◌-◌, ◌≤◌, ◌<◌, ◌≡◌, Bool, true, false, ◌&&◌, List, length, set}
use Rattle.std.specs.Prelude.{Option, None, Some, IfSome}
use Rattle.std.specs.Int.Count.{ones}
use Rattle.json_text.specs.Tree.{Json}
use Rattle.jer.specs.Table.{Table, table, OCTET-STRING, kind_of, is_type, extensible, position, count_of, type_at, may_miss}
use Rattle.jer.specs.Value.{Leaf, Val, v_leaf}
use Rattle.jer.specs.Answer.{ok, bind}
use Rattle.jer.specs.Read.{read, read_whole, null?, null_absent}
use Rattle.jer.specs.Calls.{good_text}
use Rattle.jer.specs.Rows.{leaf_pool, rows_of, pool_of}
use Rattle.jer.specs.Sane.{Sane}
use Rattle.places.specs.ByPlaces.{bit_of, with_bit}
use Rattle.quick.specs.declared.Got.{Got}
use Rattle.quick.specs.declared.bare.Words as declared-leaf
use Rattle.quick.specs.declared.name.Name as declared-name
use Rattle.quick.specs.declared.step.Step as declared-step
use Rattle.spelled.specs.Leaves.{StringAt}
use Rattle.quick.specs.Stood.{Spaces, TreeAt, Stood, NameAt}
use Rattle.quick.specs.Tape.{Alike, headed, Words, Stands}

-- a good table and a type's row, a tape within the size, and a place in the text and in the tape
pub record Given (t : Table) (z : List ℕ) (row place top : ℕ) : Type 0 where
  pub sane : Sane t
  pub typed : is_type t row ≡ true
  pub room : length z ≤ 1048576
  pub here : place ≤ 65536
  pub start : top ≤ 1048576

-- a leaf was taken: it stands at p, and its words are the two of the answer
pub record LeafTaken (t : Table) (s : List ℕ) (r p : ℕ) (g : declared-leaf.Words) : Type 0 where
  pub leaf : Leaf
  pub stood : (d : ℕ) → Stood t s d r p g.next (v_leaf leaf)
  pub words : Words s t r leaf g.a g.b
  pub pool : g.pool ≡ length (leaf_pool leaf)
  pub ahead : p < g.next
  pub placed : g.next ≤ length s
  pub few : p + g.pool ≤ g.next

-- so it was, if the type at r is of the kind
abbrev pub LeafOf : ℕ → Table → List ℕ → ℕ → ℕ → declared-leaf.Words → Type 0
LeafOf kind t s r p g = kind_of t r ≡ kind → LeafTaken t s r p g

-- an OCTET STRING was taken, if from p up to q a string of n bytes stands, whatever the names are
abbrev pub OctetsTaken : List ℕ → List ℕ → ℕ → ℕ → ℕ → ℕ → declared-leaf.Words → Type 0
OctetsTaken types s r p q n g = (ns : List ℕ) (e : Bool) → StringAt s p q n e → LeafOf OCTET-STRING (table types ns) s r p g

-- the value at p was taken, and the tape z stands for it from j on: the answer goes ahead and stays within the text and the tape,
-- there are fewer rows than words, and no more pool bytes than text bytes
pub record Taken (t : Table) (s z : List ℕ) (d r p j : ℕ) (g : Got) : Type 0 where
  pub value : Val
  pub stood : Stood t s d r p g.next value
  pub stands : Stands s z t r value j g.tape
  pub rows : g.rows ≡ length (rows_of value t r 0)
  pub pool : g.pool ≡ length (pool_of value)
  pub ahead : p < g.next
  pub placed : g.next ≤ length s
  pub words : j + g.rows < g.tape
  pub inside : g.tape ≤ length z
  pub few : p + g.pool ≤ g.next

-- what a reader of the walk does: it keeps the tape below j, and an answer says that the value was taken
pub record Walked (t : Table) (s z₀ z₁ : List ℕ) (d r p j : ℕ) (o : Option Got) : Type 0 where
  pub kept : Alike z₀ z₁ 0 j
  pub taken : IfSome o (λ g. Taken t s z₁ d r p j g)

-- the answer of a bracket with n rows of parts
abbrev pub Headed : ℕ → ℕ → ℕ → ℕ → Got → Type 0
Headed n pool end next g = (g.next ≡ next) × (g.tape ≡ end) × (g.rows ≡ n + 1) × (g.pool ≡ pool)

-- every member that was not met may be missing
abbrev pub Complete : Table → ℕ → ℕ → Type 0
Complete t r met = (i : ℕ) → i < count_of t r → bit_of met i ≡ false → may_miss t r i ≡ true

-- what closing a SEQUENCE is given: no more members present than there are, and their rows can be counted
abbrev pub Shuts : Table → ℕ → ℕ → ℕ → Type 0
Shuts t r present n = (count_of t r ≤ 64) × (ones present ≤ count_of t r) × (n + count_of t r ≤ 1048576)

-- a SEQUENCE is closed: of its members every one that was not met may be missing; its header counts those present, and a row for each other one
pub record Shut (t : Table) (r : ℕ) (z₀ z₁ : List ℕ) (j met present n pool end next : ℕ) (g : Got) : Type 0 where
  pub complete : Complete t r met
  pub tape : z₁ ≡ headed z₀ j (ones present) (n + (count_of t r - ones present) + 1) end
  pub answer : Headed (n + (count_of t r - ones present)) pool end next g

-- the whole text was taken: it is JSON, it reads as the value by the table's row 0, and the tape stands for it
pub record Whole (t : Table) (s z : List ℕ) (g : Got) : Type 0 where
  pub value : Val
  pub reads : bind (good_text s) (λ j. read_whole t j) ≡ ok value
  pub stands : Stands s z t 0 value 0 g.tape
  pub inside : g.tape ≤ length z
  pub rows : g.rows ≡ length (rows_of value t 0 0)
  pub pool : g.pool ≡ length (pool_of value)
  pub words : g.rows ≤ length z
  pub few : g.pool ≤ length s

-- ---- a member of an object

-- a name was taken at p, and the position is that of the member that has it
pub record NameTaken (t : Table) (s : List ℕ) (r p : ℕ) (g : declared-name.Name) : Type 0 where
  pub name : List ℕ
  pub stood : NameAt s p g.next name
  pub found : position t r name ≡ g.position
  pub ahead : p < g.next
  pub placed : g.next ≤ length s

-- at p stands a member with its value, up to q
pub record MemberAt (s : List ℕ) (d p q : ℕ) (name : List ℕ) (tree : Json) : Type 0 where
  pub colon : ℕ
  pub named : NameAt s p colon name
  pub from : ℕ
  pub gap : Spaces s colon from
  pub value : TreeAt s d from q tree

-- one member: a value noted from `end` on, to which its link leads; a null that means its absence; or an unknown one, passed over
pub data Met (t : Table) (s z₀ z₁ : List ℕ) (d r p top end met present : ℕ) (g : declared-step.Step) : Type 0 where
  valued : {i : ℕ} {name : List ℕ} {tree : Json} {v : Val} {z : List ℕ} → MemberAt s d p g.next name tree → position t r name ≡ Some i → bit_of met i ≡ false → (null? tree && null_absent t r i) ≡ false
      → read tree t (type_at t r i) ≡ ok v → Alike z₀ z 0 end → Stands s z t (type_at t r i) v end g.tape → z₁ ≡ set z (top + 3 + i) end → g.rows ≡ length (rows_of v t (type_at t r i) 0)
      → g.pool ≡ length (pool_of v) → g.met ≡ with_bit met i → g.present ≡ with_bit present i → Met t s z₀ z₁ d r p top end met present g
  nulled : {i : ℕ} {name : List ℕ} {tree : Json} → MemberAt s d p g.next name tree → position t r name ≡ Some i → bit_of met i ≡ false → (null? tree && null_absent t r i) ≡ true
      → z₁ ≡ z₀ → g.tape ≡ end → g.rows ≡ 0 → g.pool ≡ 0 → g.met ≡ with_bit met i → g.present ≡ present → Met t s z₀ z₁ d r p top end met present g
  passed : {name : List ℕ} {tree : Json} → MemberAt s d p g.next name tree → position t r name ≡ None → extensible t r ≡ true
      → z₁ ≡ z₀ → g.tape ≡ end → g.rows ≡ 0 → g.pool ≡ 0 → g.met ≡ met → g.present ≡ present → Met t s z₀ z₁ d r p top end met present g

-- what reading a member does: it keeps the tape before the links; an answer says that it was taken, with numbers like those of a value
pub record Stepped (t : Table) (s z₀ z₁ : List ℕ) (d r p top end met present : ℕ) (g : declared-step.Step) : Type 0 where
  pub how : Met t s z₀ z₁ d r p top end met present g
  pub ahead : p < g.next
  pub placed : g.next ≤ length s
  pub words : end + g.rows ≤ g.tape
  pub inside : g.tape ≤ length z₁
  pub few : p + g.pool ≤ g.next

-- ---- an element of an ARRAY

-- the element for the member at k: a value noted from `end` on, to which its link leads; a null that means its absence; or a surplus one, passed over
pub data Element (t : Table) (s z₀ z₁ : List ℕ) (d r p top end k met present : ℕ) (g : declared-step.Step) : Type 0 where
  there : {tree : Json} {v : Val} {z : List ℕ} → TreeAt s d p g.next tree → k < count_of t r → (null? tree && may_miss t r k) ≡ false → read tree t (type_at t r k) ≡ ok v → Alike z₀ z 0 end
      → Stands s z t (type_at t r k) v end g.tape → z₁ ≡ set z (top + 3 + k) end → g.rows ≡ length (rows_of v t (type_at t r k) 0) → g.pool ≡ length (pool_of v) → g.met ≡ with_bit met k → g.present ≡ with_bit present k
      → Element t s z₀ z₁ d r p top end k met present g
  nothing : {tree : Json} → TreeAt s d p g.next tree → k < count_of t r → (null? tree && may_miss t r k) ≡ true → z₁ ≡ z₀ → g.tape ≡ end → g.rows ≡ 0 → g.pool ≡ 0 → g.met ≡ with_bit met k → g.present ≡ present
      → Element t s z₀ z₁ d r p top end k met present g
  surplus : {tree : Json} → TreeAt s d p g.next tree → count_of t r ≤ k → extensible t r ≡ true → z₁ ≡ z₀ → g.tape ≡ end → g.rows ≡ 0 → g.pool ≡ 0 → g.met ≡ met → g.present ≡ present
      → Element t s z₀ z₁ d r p top end k met present g

-- what reading an element does
pub record Came (t : Table) (s z₀ z₁ : List ℕ) (d r p top end k met present : ℕ) (g : declared-step.Step) : Type 0 where
  pub how : Element t s z₀ z₁ d r p top end k met present g
  pub ahead : p < g.next
  pub placed : g.next ≤ length s
  pub words : end + g.rows ≤ g.tape
  pub inside : g.tape ≤ length z₁
  pub few : p + g.pool ≤ g.next
