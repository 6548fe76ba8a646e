-- The places of the machine's refusals are document 01's.
use Prim.Native.Nat.{ℕ, suc, ◌+◌, ◌-◌, ◌≤◌, ◌<◌}
use mathlib.Core.Path.{◌≡◌, refl, ap}
use mathlib.Core.List.{List, ◌++◌, append_assoc}
use native.Mathlib.Omega.{arith}
use native.Mathlib.Nat.{add_comm}
use lib.ListN.{length, take, drop, take-append-drop}
use lib.Seq.{take-take}
use Rattle.json_text.specs.Tree.{Json}
use Rattle.json_text.specs.Grammar.{Text, Begins, NotJsonAt, TooDeepAt}
use Rattle.json_text.specs.Machine.{base, s_val, Fault, not_json, too_deep, Parsed, tree, refused, parse_within}
use Rattle.json_text.proofs.Takes.{takes_text}
use Rattle.json_text.proofs.Sound.{text-taken}
use Rattle.json_text.proofs.Alive.{Alive}
use Rattle.json_text.proofs.Rebase.{Stays, run-stays}
use Rattle.json_text.proofs.PlacesRun.{Refusal, refusal}

-- ---- whole texts

-- the place of a text's refusal is the number of bytes before it
text-refusal : (d : ℕ) (bs : List ℕ) (f : Fault) (p : ℕ) → parse_within d bs ≡ refused f p → Refusal 0 (s_val (base d)) bs f p p
unfolding parse_within
text-refusal d bs f p e = go' (refusal bs 0 (s_val (base d)) f p tt e)
  where
    go' : (n : ℕ) × Refusal 0 (s_val (base d)) bs f p n → Refusal 0 (s_val (base d)) bs f p p
    go' (n, r) = let np : n ≡ p = omega arith in rw np at r

-- with more brackets the answer is the same, but where there were too many
more_stays : (e d : ℕ) (bs : List ℕ) → Stays (parse_within d bs) (parse_within (e + d) bs)
unfolding parse_within
more_stays e d bs = run-stays e bs 0 (s_val (base d)) tt

tree-stays : (e d : ℕ) (bs : List ℕ) (j : Json) → parse_within d bs ≡ tree j → parse_within (e + d) bs ≡ tree j
tree-stays e d bs j h = rw h at (more_stays e d bs)

not-json-stays : (e d : ℕ) (bs : List ℕ) (p : ℕ) → parse_within d bs ≡ refused not_json p → parse_within (e + d) bs ≡ refused not_json p
not-json-stays e d bs p h = rw h at (more_stays e d bs)

tree-refused : {j : Json} {f : Fault} {p : ℕ} (x : Parsed) → x ≡ tree j → x ≡ refused f p → ⊥
tree-refused x t r = let z : ◌≡◌ {A = ℕ} 0 1 = cc in omega arith

-- what begins a longer part of a text begins a shorter one
begins-less : (d : ℕ) (bs : List ℕ) (p q : ℕ) → p ≤ q → Begins d (take q bs) → Begins d (take p bs)
begins-less d bs p q l g = record { rest = drop p (take q bs) ++ g.rest; tree = g.tree; text = rw (← append_assoc, ← take-take p q bs l, take-append-drop) g.text }

text-begins : (d : ℕ) (bs : List ℕ) (j : Json) (p : ℕ) → Text d j bs → Begins d (take p bs)
text-begins d bs j p t = record { rest = drop p bs; tree = j; text = rw take-append-drop t }

-- ---- at most one answer fits a text

-- p is the last place before which a text of at most d open brackets can begin so
record Stops (d : ℕ) (bs : List ℕ) (p : ℕ) : Type 0 where
  inside : p ≤ length bs
  before : Begins d (take p bs)
  never : p < length bs → Begins d (take (suc p) bs) → ⊥

not-json-stops : {d : ℕ} {bs : List ℕ} {p : ℕ} → NotJsonAt d bs p → Stops d bs p
not-json-stops {d} a = record { inside = a.inside; before = a.before; never = a.never d }

too_deep-stops : {d : ℕ} {bs : List ℕ} {p : ℕ} → TooDeepAt d bs p → Stops d bs p
too_deep-stops a = record { inside = omega arith; before = a.before; never = λ l. a.never }

stops_first : {d : ℕ} {bs : List ℕ} {p q : ℕ} → Stops d bs p → Stops d bs q → p < q → ⊥
stops_first {d} {bs} {p} {q} s u l = s.never (omega arith) (begins-less d bs (suc p) q l u.before)

stops_once : {d : ℕ} {bs : List ℕ} {p q : ℕ} → Stops d bs p → Stops d bs q → p ≡ q
stops_once {d} {bs} {p} {q} s u =
    let l : p < q → ⊥ = stops_first s u in
    let g : q < p → ⊥ = stops_first u s in
    omega arith

pub not-json-not-deep : {d : ℕ} {bs : List ℕ} {p q : ℕ} → NotJsonAt d bs p → TooDeepAt d bs q → ⊥
not-json-not-deep {d} a t = let e = stops_once (too_deep-stops t) (not-json-stops a) in a.never (suc d) (omega arith) (rw e at t.deeper)

pub not-json-no-text : {d n : ℕ} {bs : List ℕ} {j : Json} {p : ℕ} → NotJsonAt d bs p → Text n j bs → ⊥
not-json-no-text {n = n} {bs = bs} {j = j} {p = p} a t =
    let l : p < length bs → ⊥ = λ l. a.never n l (text-begins n bs j (suc p) t) in
    a.short n j (omega arith) t

pub too_deep-no-text : {d : ℕ} {bs : List ℕ} {j : Json} {p : ℕ} → TooDeepAt d bs p → Text d j bs → ⊥
too_deep-no-text {d} {bs} {j} {p} a t = a.never (text-begins d bs j (suc p) t)

-- ---- the machine's answers

alive-begins : {d : ℕ} {xs : List ℕ} → Alive 0 (s_val (base d)) xs → Begins d xs
unfolding parse_within
alive-begins {d} {xs} a = record { rest = a.rest; tree = a.result; text = text-taken d a.result (xs ++ a.rest) a.completes }

-- a text of a smaller depth is one of a greater depth
pub deeper-text : {d n : ℕ} {j : Json} {bs : List ℕ} → Text d j bs → d ≤ n → Text n j bs
deeper-text {d} {n} {j} {bs} t l =
    let e : (n - d) + d ≡ n = omega arith in
    text-taken n j bs (rw e at (tree-stays (n - d) d bs j (takes_text d j bs t)))

-- what is not JSON with d brackets is no text with any number of them
not-json-text : (d n : ℕ) (bs : List ℕ) (j : Json) (p : ℕ) → parse_within d bs ≡ refused not_json p → Text n j bs → ⊥
not-json-text d n bs j p r t = tree-refused (parse_within (n + d) bs) (rw (add_comm d n) at (tree-stays d n bs j (takes_text n j bs t))) (not-json-stays n d bs p r)

-- 01, refusal 3: its place is the first byte after which no JSON text can begin so
pub not-json-place : (d : ℕ) (bs : List ℕ) (p : ℕ) → parse_within d bs ≡ refused not_json p → NotJsonAt d bs p
unfolding parse_within
not-json-place d bs p e =
    let r = text-refusal d bs not_json p e in
    record {
      inside = r.inside;
      before = alive-begins r.before;
      never = λ n l g. not-json-text d n _ g.tree p (r.stuck l g.rest) g.text;
      short = λ n j l t. not-json-text d n bs j p e t;
    }

-- 01, refusal 4: its place is that of the bracket that is one too many
pub too_deep-place : (d : ℕ) (bs : List ℕ) (p : ℕ) → parse_within d bs ≡ refused too_deep p → TooDeepAt d bs p
unfolding parse_within
too_deep-place d bs p e =
    let r = text-refusal d bs too_deep p e in
    let o = r.deeper refl in
    let one : 1 + d ≡ suc d = omega arith in
    record {
      inside = o.0;
      before = alive-begins r.before;
      never = λ g. tree-refused _ (takes_text d g.tree _ g.text) (r.stuck o.0 g.rest);
      deeper = rw one at (alive-begins o.1);
    }

-- the converses: the machine always answers, and the answers exclude each other
pub not-json-judged : (d : ℕ) (bs : List ℕ) (p : ℕ) → NotJsonAt d bs p → parse_within d bs ≡ refused not_json p
not-json-judged d bs p a = go' (parse_within d bs) refl
  where
    go' : (x : Parsed) → parse_within d bs ≡ x → x ≡ refused not_json p
    go' (tree j) e = absurd (not-json-no-text a (text-taken d j bs e))
    go' (refused not_json q) e = ap (refused not_json) (stops_once (not-json-stops (not-json-place d bs q e)) (not-json-stops a))
    go' (refused too_deep q) e = absurd (not-json-not-deep a (too_deep-place d bs q e))

pub too_deep-judged : (d : ℕ) (bs : List ℕ) (p : ℕ) → TooDeepAt d bs p → parse_within d bs ≡ refused too_deep p
too_deep-judged d bs p a = go' (parse_within d bs) refl
  where
    go' : (x : Parsed) → parse_within d bs ≡ x → x ≡ refused too_deep p
    go' (tree j) e = absurd (too_deep-no-text a (text-taken d j bs e))
    go' (refused not_json q) e = absurd (not-json-not-deep (not-json-place d bs q e) a)
    go' (refused too_deep q) e = ap (refused too_deep) (stops_once (too_deep-stops (too_deep-place d bs q e)) (too_deep-stops a))
