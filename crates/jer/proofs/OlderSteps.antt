-- Any number of tables, each made from the next by additions.
use Prim.Native.Nat.{ℕ, ◌<◌}
use mathlib.Core.Path.{◌≡◌, refl, sym, ◌∙◌}
use mathlib.Core.List.{List}
use mathlib.Core.Bool.{Bool, true, false}
use Rattle.std.specs.Prelude.{None}
use native.Mathlib.Omega.{arith}
use lib.Dec.{ltb}
use lib.ListN.{length}
use borrow.Author.Tests.{ltb-true, ltb-false}
use Rattle.jer.specs.Table.{Table, extensible, element_of, count_of, type_at}
use Rattle.jer.specs.Valid.{first_bad}
use Rattle.jer.specs.Value.{Val}
use Rattle.jer.specs.Answer.{ok}
use Rattle.jer.specs.Fits.{Fits}
use Rattle.jer.specs.Cut.{ByAdditions, cut, lacks}
use Rattle.jer.specs.Calls.{read_text, roomy}
use Rattle.jer.proofs.OlderNames.{kind-same, extensible-same}
use Rattle.jer.proofs.OlderCalls.{Stored, older-stores}
use Rattle.jer.proofs.OlderTwice.{Unless, same, unless_then, Shaped, cut_shaped, fits_shaped, cut_twice}

-- ---- pairing through a table between

pub record Through (R S : ℕ → ℕ → Type 0) (a c : ℕ) : Type 0 where
  pub between : ℕ
  pub first : R a between
  pub then : S between c

module _ {new mid old : Table} {R S : ℕ → ℕ → Type 0} (p : ByAdditions new mid R) (q : ByAdditions mid old S) where
  within : {a c : ℕ} (h : Through R S a c) (i : ℕ) → i < count_of old c → i < count_of mid h.between
  within {a} {c} h i l = omega (arith, q.fewer _ c h.then)

  grown_through : {a c : ℕ} (h : Through R S a c) → count_of old c < count_of new a → extensible old c ≡ true
  grown_through {a} {c} h l = go (ltb (count_of old c) (count_of mid h.between)) refl
    where
      go : (t : Bool) → ltb (count_of old c) (count_of mid h.between) ≡ t → extensible old c ≡ true
      go true w = q.grown _ c h.then (ltb-true _ _ w)
      go false w = sym (extensible-same q h.then) ∙ p.grown a _ h.first (omega (arith, ltb-false))

  pub additions_compose : ByAdditions new old (Through R S)
  additions_compose =
      record {
        whole = record { between = 0; first = p.whole; then = q.whole };
        tags = λ a c h. p.tags a _ h.first ∙ q.tags _ c h.then;
        marks = λ a c h. p.marks a _ h.first ∙ q.marks _ c h.then;
        roots = λ a c h. p.roots a _ h.first ∙ q.roots _ c h.then;
        elements = λ a c h k. record { between = element_of mid h.between; first = p.elements a _ h.first (kind-same q h.then ∙ k); then = q.elements _ c h.then k };
        fewer = λ a c h. omega (arith, p.fewer a _ h.first, q.fewer _ c h.then);
        grown = λ a c h. grown_through h;
        names = λ a c i h l. p.names a _ i h.first (within h i l) ∙ q.names _ c i h.then l;
        optionals = λ a c i h l. p.optionals a _ i h.first (within h i l) ∙ q.optionals _ c i h.then l;
        types = λ a c i h l. record { between = type_at mid h.between i; first = p.types a _ i h.first (within h i l); then = q.types _ c i h.then l };
      }

-- ---- a chain of tables, newest first

pub data Chain : Table → Table → Type 1 where
  one : {new old : Table} {R : ℕ → ℕ → Type 0} → ByAdditions new old R → Chain new old
  step : {new mid old : Table} {R : ℕ → ℕ → Type 0} → ByAdditions new mid R → Chain mid old → Chain new old

pub record Additions (new old : Table) : Type 1 where
  pub pairs : ℕ → ℕ → Type 0
  pub made : ByAdditions new old pairs

-- the first table is made from the last by additions
pub at_once : {new old : Table} → Chain new old → Additions new old
at_once (one {R = R} p) = record { pairs = R; made = p }
at_once (step {R = R} p c) = let q = at_once c in record { pairs = Through R q.pairs; made = additions_compose p q.made }

-- a whole value cut down to each table in turn
unfoldable pub cut_through : {new old : Table} → Chain new old → Val → Val
cut_through (one {old = old} p) v = cut v old 0
cut_through (step {mid = mid} p c) v = cut_through c (cut v mid 0)

shaped_steps : {new old : Table} (c : Chain new old) (v : Val) → Shaped v old 0 → Unless (λ w. lacks w old 0) (cut_through c v) (cut v old 0)
unfolding cut_through
shaped_steps (one p) v h = same
shaped_steps (step {mid = mid} {old = old} p c) v h =
    let q = at_once c in
    unless_then (shaped_steps c (cut v mid 0) (cut_shaped v old mid 0 0 h)) (cut_twice q.made v 0 0 q.made.whole h)

-- (xii): step by step equals at once, unless both leave an item or alternative that the last table lacks
pub cut-steps : {new old : Table} {d : ℕ} {v : Val} (c : Chain new old) → Fits new d 0 v → Unless (λ w. lacks w old 0) (cut_through c v) (cut v old 0)
cut-steps c f = let q = at_once c in shaped_steps c _ (fits_shaped q.made f 0 q.made.whole)

-- (xii): where the newest table reads a text, each older one, with the same room, stores the value cut to it at once, or refuses by 11
pub steps_store : {new old : Table} → Chain new old → first_bad old ≡ None → (s rows pool : List ℕ) (v : Val) → read_text new s ≡ ok v → roomy new v (length rows) (length pool) ≡ true
    → Stored old rows pool (read_text old s) (cut v old 0) (lacks (cut v old 0) old 0)
steps_store c = older-stores (at_once c).made
