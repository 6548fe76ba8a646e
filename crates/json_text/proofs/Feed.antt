-- Which row of a table has a byte, and the machine over a stretch of bytes.
use Prim.Native.Nat.{ℕ, zero, suc, pred, ◌≤◌}
use mathlib.Core.Path.{◌≡◌, refl, ◌∙◌}
use mathlib.Core.List.{List, [], ◌∷◌, ◌++◌}
use mathlib.Core.Bool.{Bool, true, false, ◌&&◌}
use borrow.Author.Tests.{le-leb, leb-true}
use lib.Dec.{leb}
use Rattle.json_text.specs.Bytes.{In, Row, on, pick, past}
use Rattle.json_text.specs.Grammar.{Space, no_space, tab, feed, return, blank}
use Rattle.json_text.specs.Machine.{Frame, Stack, base, ◌▹◌, room, State, Step, go, spaces, step, run}

-- ---- rows

-- no row has the byte
abbrev pub NoRow : {A : Type 0} → ℕ → List (Row A) → Type 0
NoRow b [] = Unit {0}
NoRow b (on lo hi f ∷ rs) = (In lo hi b → ⊥) × NoRow b rs

-- the row n has the byte, and none before it
abbrev pub RowHas : {A : Type 0} → ℕ → ℕ → List (Row A) → Type 0
RowHas n b [] = ⊥
RowHas zero b (on lo hi f ∷ rs) = In lo hi b
RowHas (suc n) b (on lo hi f ∷ rs) = (In lo hi b → ⊥) × RowHas n b rs

-- what the row n says
abbrev pub row_says : {A : Type 0} → ℕ → ℕ → List (Row A) → A → A
row_says n b [] d = d
row_says zero b (on lo hi f ∷ rs) d = f b
row_says (suc n) b (on lo hi f ∷ rs) d = row_says n b rs d

pub in-true : (lo hi b : ℕ) → In lo hi b → (leb lo b && leb b hi) ≡ true
in-true lo hi b h = rw (le-leb lo b h.0, le-leb b hi h.1)

pub in-false : (lo hi b : ℕ) → (In lo hi b → ⊥) → (leb lo b && leb b hi) ≡ false
in-false lo hi b h = low (leb lo b) refl
  where
    high : (c : Bool) → leb b hi ≡ c → lo ≤ b → c ≡ false
    high true e l = absurd (h (l, leb-true b hi e))
    high false e l = refl

    low : (c : Bool) → leb lo b ≡ c → (c && leb b hi) ≡ false
    low true e = high (leb b hi) refl (leb-true lo b e)
    low false e = refl

pub pick-miss : {A : Type 0} (b lo hi : ℕ) (f : ℕ → A) (rs : List (Row A)) (d : A) → (In lo hi b → ⊥) → pick b (on lo hi f ∷ rs) d ≡ pick b rs d
unfolding pick
pick-miss b lo hi f rs d h = rw (in-false lo hi b h, pick)

pub pick_hit : {A : Type 0} (b lo hi : ℕ) (f : ℕ → A) (rs : List (Row A)) (d : A) → In lo hi b → pick b (on lo hi f ∷ rs) d ≡ f b
unfolding pick
pick_hit b lo hi f rs d h = rw (in-true lo hi b h, pick)

pub pick-none : {A : Type 0} (b : ℕ) (rs : List (Row A)) (d : A) → NoRow b rs → pick b rs d ≡ d
unfolding pick
pick-none b [] d h = refl
pick-none b (on lo hi f ∷ rs) d h = pick-miss b lo hi f rs d h.0 ∙ pick-none b rs d h.1

pub pick-row : {A : Type 0} (n b : ℕ) (rs : List (Row A)) (d : A) → RowHas n b rs → pick b rs d ≡ row_says n b rs d
pick-row n b [] d h = absurd h
pick-row zero b (on lo hi f ∷ rs) d h = pick_hit b lo hi f rs d h
pick-row (suc n) b (on lo hi f ∷ rs) d h = pick-miss b lo hi f rs d h.0 ∙ pick-row n b rs d h.1

-- ---- stretches of bytes

-- from the place p and the state s the bytes lead to the other state
pub data Feeds : ℕ → State → List ℕ → State → Type 0 where
  stop : {p : ℕ} {s : State} → Feeds p s [] s
  more : {p b : ℕ} {bs : List ℕ} {s u w : State} → step p s b ≡ go u → Feeds (suc p) u bs w → Feeds p s (b ∷ bs) w

pub feeds_append : {p : ℕ} {xs ys : List ℕ} {s u w : State} → Feeds p s xs u → Feeds (past p xs) u ys w → Feeds p s (xs ++ ys) w
unfolding past
feeds_append stop g = g
feeds_append (more e f) g = more e (feeds_append f g)

pub run-feeds : {p : ℕ} {xs : List ℕ} {s u : State} → Feeds p s xs u → (ys : List ℕ) → run p s (xs ++ ys) ≡ run (past p xs) u ys
unfolding past run
run-feeds stop ys = refl
run-feeds (more e f) ys = rw (e, run) (run-feeds f ys)

-- ---- white space

-- a byte of white space
pub data Blank : ℕ → Type 0 where
  is_tab : Blank 0x09
  is_feed : Blank 0x0A
  is_return : Blank 0x0D
  is_blank : Blank 0x20

-- white space leaves the state as it is
abbrev pub Idle : State → Type 0
Idle s = (p b : ℕ) → Blank b → step p s b ≡ go s

pub blank-row : {b : ℕ} (s : State) (rs : List (Row Step)) (d : Step) → Blank b → pick b (spaces s rs) d ≡ go s
unfolding pick spaces
blank-row s rs d is_tab = refl
blank-row s rs d is_feed = refl
blank-row s rs d is_return = refl
blank-row s rs d is_blank = refl

pub feeds-space : {s : State} {xs : List ℕ} (p : ℕ) → Idle s → Space xs → Feeds p s xs s
feeds-space p i no_space = stop
feeds-space p i (tab h) = more (i p _ is_tab) (feeds-space (suc p) i h)
feeds-space p i (feed h) = more (i p _ is_feed) (feeds-space (suc p) i h)
feeds-space p i (return h) = more (i p _ is_return) (feeds-space (suc p) i h)
feeds-space p i (blank h) = more (i p _ is_blank) (feeds-space (suc p) i h)

-- ---- how many more brackets may be opened

pub room-base : (d : ℕ) → room (base d) ≡ d
unfolding room
room-base d = refl

pub room_frame : (f : Frame) (k : Stack) → room (f ▹ k) ≡ pred (room k)
unfolding room
room_frame f k = refl
