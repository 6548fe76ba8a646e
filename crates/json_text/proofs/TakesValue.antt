-- Where a value may begin, and where it has ended: the states that act alike there.
use Prim.Native.Nat.{ℕ, suc, ◌<◌}
use mathlib.Core.Path.{◌≡◌, refl, sym, ◌∙◌}
use mathlib.Core.List.{List, ◌∷◌, ◌++◌}
use native.Mathlib.Omega.{arith}
use Rattle.json_text.specs.Bytes.{In, Row, pick, past}
use Rattle.json_text.specs.Tree.{Json, inil}
use Rattle.json_text.specs.Grammar.{Space, no_space, tab, feed, return, blank}
use Rattle.json_text.specs.Machine.{in_arr, in_obj, Stack, base, ◌▹◌, State, s_val, s_elem, s_after, Step, go, spaces, after, step, finish}
use Rattle.json_text.proofs.Feed.{pick-miss, Feeds, stop, more, feeds_append, Blank, is_tab, is_feed, is_return, is_blank, Idle, blank-row, feeds-space}

-- ---- the beginning

-- a byte that is neither white space nor ]
abbrev pub Starter : ℕ → Type 0
Starter b = (0x20 < b) × (b ≡ 0x5D → ⊥)

-- a state that takes a value as one in which a value is due
pub record Opens (st : State) (k : Stack) : Type 0 where
  pub idle : Idle st
  pub start : (p b : ℕ) → Starter b → step p st b ≡ step p (s_val k) b

spaces-miss : {b : ℕ} (st : State) (rs : List (Row Step)) (d : Step) → 0x20 < b → pick b (spaces st rs) d ≡ pick b rs d
unfolding spaces
spaces-miss {b} st rs d h = pick-miss b _ _ _ _ _ (omega arith) ∙ pick-miss b _ _ _ _ _ (omega arith) ∙ pick-miss b _ _ _ _ _ (omega arith)

pub opens-val : (k : Stack) → Opens (s_val k) k
unfolding step
opens-val k = record { idle = λ p b h. blank-row _ _ _ h; start = λ p b h. refl }

pub opens_elem : (o : ℕ) (k : Stack) → Opens (s_elem o k) (in_arr o inil ▹ k)
unfolding step
opens_elem o k =
    record {
      idle = λ p b h. blank-row _ _ _ h;
      start = λ p b h. spaces-miss _ _ _ h.0 ∙ pick-miss b 0x5D 0x5D _ _ _ (omega arith) ∙ sym (spaces-miss _ _ _ h.0);
    }

-- ---- the end

-- a byte that no number has
pub record NoNum (b : ℕ) : Type 0 where
  pub digit : In 0x30 0x39 b → ⊥
  pub sign : (b ≡ 0x2B → ⊥) × (b ≡ 0x2D → ⊥)
  pub mark : (b ≡ 0x2E → ⊥) × (b ≡ 0x45 → ⊥) × (b ≡ 0x65 → ⊥)

blank-no_num : {b : ℕ} → Blank b → NoNum b
blank-no_num is_tab = omega arith
blank-no_num is_feed = omega arith
blank-no_num is_return = omega arith
blank-no_num is_blank = omega arith

-- a state that acts as the end of the value j: a number ends only at the next byte
pub record Ends (st : State) (j : Json) (k : Stack) : Type 0 where
  pub next : (p b : ℕ) → NoNum b → step p st b ≡ step p (s_after j k) b
  pub last : (p : ℕ) → finish st p ≡ finish (s_after j k) p

pub ends-after : (j : Json) (k : Stack) → Ends (s_after j k) j k
ends-after j k = record { next = λ p b h. refl; last = λ p. refl }

idle-after : (j : Json) (k : Stack) → Idle (s_after j k)
unfolding step after
idle-after j (base d) p b h = blank-row _ _ _ h
idle-after j (in_arr o is ▹ k) p b h = blank-row _ _ _ h
idle-after j (in_obj o ms q s ▹ k) p b h = blank-row _ _ _ h

-- the bytes lead to the end of the value j
pub record Valued (p : ℕ) (st : State) (bs : List ℕ) (j : Json) (k : Stack) : Type 0 where
  pub end : State
  pub feeds : Feeds p st bs end
  pub ends : Ends end j k

pub valued : {p : ℕ} {st : State} {bs : List ℕ} (j : Json) (k : Stack) → Feeds p st bs (s_after j k) → Valued p st bs j k
valued j k f = record { end = s_after j k; feeds = f; ends = ends-after j k }

-- white space before a value
pub space-before : {p : ℕ} {st : State} {xs bs : List ℕ} {j : Json} {k : Stack} → Idle st → Space xs → Valued (past p xs) st bs j k → Valued p st (xs ++ bs) j k
space-before {p} i h v = record { end = v.end; feeds = feeds_append (feeds-space p i h) v.feeds; ends = v.ends }

-- one byte of white space after a value, and more of it
blank-after : {st : State} {b : ℕ} {zs : List ℕ} {j : Json} {k : Stack} (p : ℕ) → Ends st j k → Blank b → Space zs → Valued p st (b ∷ zs) j k
blank-after {b = b} {j = j} {k = k} p e h z = valued j k (more (e.next p b (blank-no_num h) ∙ idle-after j k p b h) (feeds-space (suc p) (idle-after j k) z))

ends-space : {st : State} {zs : List ℕ} {j : Json} {k : Stack} (p : ℕ) → Ends st j k → Space zs → Valued p st zs j k
ends-space p e no_space = record { end = _; feeds = stop; ends = e }
ends-space p e (tab z) = blank-after p e is_tab z
ends-space p e (feed z) = blank-after p e is_feed z
ends-space p e (return z) = blank-after p e is_return z
ends-space p e (blank z) = blank-after p e is_blank z

pub space-after : {p : ℕ} {st : State} {bs zs : List ℕ} {j : Json} {k : Stack} → Valued p st bs j k → Space zs → Valued p st (bs ++ zs) j k
space-after {p} {bs = bs} v z =
    let w = ends-space (past p bs) v.ends z in
    record { end = w.end; feeds = feeds_append v.feeds w.feeds; ends = w.ends }

-- a value, the byte after it, and what follows
pub then_byte : {p b : ℕ} {st u w : State} {bs cs : List ℕ} {j : Json} {k : Stack} → Valued p st bs j k → NoNum b → step (past p bs) (s_after j k) b ≡ go u
    → Feeds (suc (past p bs)) u cs w → Feeds p st (bs ++ (b ∷ cs)) w
then_byte {p} {b} {bs = bs} v n e f = feeds_append v.feeds (more (v.ends.next (past p bs) b n ∙ e) f)
