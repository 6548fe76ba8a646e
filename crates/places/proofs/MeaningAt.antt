-- Reading by places gives what the typed reading of the text's tree gives, and ends where the value ends.
use Rattle.jer.specs.declared.Token.{Token}
use Rattle.jer.specs.declared.Token.TheVariants as tok
use Prim.Native.Nat.{ℕ, zero, suc, ◌^◌, ◌≤◌, ◌<◌}
use mathlib.Core.Path.{◌≡◌, refl, sym, ◌∙◌}
use mathlib.Core.List.{List, [], ◌++◌, append-nil}
use mathlib.Core.Bool.{Bool, true, false, ◌&&◌, not}
use Rattle.std.specs.Prelude.{Option, None, Some}
use native.Mathlib.Omega.{arith}
use borrow.Author.Tests.{lt-ltb, eqb-true}
use lib.Dec.{eqb}
use lib.ListN.{length, drop, length-append}
use Rattle.json_text.specs.Bytes.{past}
use Rattle.json_text.specs.Tree.{Json, Items, Members, place_of}
use Rattle.json_text.specs.Grammar as grammar
use Rattle.json_text.specs.Grammar.{Value, Text}
use Rattle.jer.specs.Table.{Table, SEQUENCE, SEQUENCE-OF, CHOICE, kind_of, is_type, extensible, is_array, is_unwrapped, type_at, alternative}
use Rattle.jer.specs.Value.{Val, v_choice}
use Rattle.jer.specs.Answer.{Res, ok, no, bind}
use Rattle.jer.specs.Read.{read, picked, unwrapping, read_array, read_braces, elements, entries}
use Rattle.jer.specs.Rows.{rows_of, pool_of}
use Rattle.jer.specs.Sane.{Sane}
use Rattle.jer.proofs.WeightLaws.{bounds-at}
use Rattle.tokens.specs.Places.{past_space}
use Rattle.tokens.proofs.TiePlace.{length-left}
use Rattle.tokens.proofs.TieSpace.{EndsHere, at_end}
use Rattle.tokens.proofs.TieFirst.{value-place}
use Rattle.places.specs.ByPlaces.{ending, Reader, leaf_at, within, bracket_at, shallow_at, picked_at, value_with, read_at}
use Rattle.places.proofs.MeaningNames.{alternative-found}
use Rattle.places.proofs.MeaningStands.{Stands, InArray, InObject, empty-array, some-array, empty-object, some-object, padded-within}
use Rattle.places.proofs.MeaningFirst.{token_for, token-at}
use Rattle.places.proofs.MeaningLeaves.{plain_of, read_unwraps, is_leaf, leaf-means}
use Rattle.places.proofs.MeaningLists.{Reads, made_ends, list-means, array-means}
use Rattle.places.proofs.MeaningObjects.{object-means}
use Rattle.places.proofs.MeaningChoices.{choice-means}

ending-value : {A : Type 0} (q : ℕ) (x : Res A) → bind (ending q x) (λ g. ok g.value) ≡ x
unfolding bind ending
ending-value q (no z) = refl
ending-value q (ok a) = refl

within-passes : (t : Table) (r q : ℕ) (x : Res Val) → ((v : Val) → x ≡ ok v → (length (rows_of v t r 0) < 2 ^ 32) × (length (pool_of v) < 2 ^ 32)) → bind (ending q x) (within t r) ≡ ending q x
unfolding within bind ending
within-passes t r q (no z) f = refl
within-passes t r q (ok v) f = let b = f v refl in rw (lt-ltb _ _ b.0, lt-ltb _ _ b.1, within)

read_plain : (j : Json) (t : Table) (r : ℕ) → is_unwrapped t r ≡ false → read j t r ≡ plain_of j t r
unfolding unwrapping
read_plain j t r w = read_unwraps j t r ∙ rw (w, unwrapping)

read-picked : (j : Json) (t : Table) (r : ℕ) → is_unwrapped t r ≡ true → read j t r ≡ picked t r (place_of j) (λ q. plain_of j t q) (alternative t r (token_for j))
unfolding unwrapping
read-picked j t r w = read_unwraps j t r ∙ rw (w, unwrapping)

module _ (t : Table) (s : List ℕ) (c : Sane t) (few : length s ≤ 65536) where
  -- rows and pool bytes are counted in 32 bits
  stands-within : {d p q : ℕ} {j : Json} → Stands d s j p q → (r : ℕ) → is_type t r ≡ true → bind (ending q (read j t r)) (within t r) ≡ ending q (read j t r)
  stands-within {p = p} {q = q} {j = j} k r h =
      within-passes t r q (read j t r) (λ v e. bounds-at t c r v k.value (omega (arith, length-left s p _ k.text, length-append k.bytes k.rest)) h e)

  -- ---- a value, given how one is read whose type is not UNWRAPPED

  module _ {d p q : ℕ} {j : Json} (k : Stands d s j p q) (plain : Token → Reader) (means : (r : ℕ) → is_type t r ≡ true → plain (token_for j) r p ≡ ending q (plain_of j t r)) where
    picked-means : (r : ℕ) → is_type t r ≡ true → is_unwrapped t r ≡ true → (x : Option ℕ) → alternative t r (token_for j) ≡ x
        → picked_at (plain (token_for j)) t r p x ≡ ending q (picked t r (place_of j) (λ u. plain_of j t u) x)
    unfolding picked_at picked bind ending
    picked-means r h w None e = go' (extensible t r) refl
      where
        go' : (b : Bool) → extensible t r ≡ b → picked_at (plain (token_for j)) t r p None ≡ ending q (picked t r (place_of j) (λ u. plain_of j t u) None)
        go' true y = rw (y, picked_at, picked, value-place k.value)
        go' false y = rw (y, picked_at, picked, value-place k.value)
    picked-means r h w (Some i) e =
        let l = alternative-found t r (token_for j) i e in
        let a : ℕ = type_at t r i in
        let h₁ = c.member r i h l in
        let f : bind (plain (token_for j) a p) (within t a) ≡ ending q (plain_of j t a) = rw (means a h₁, ← read_plain j t a (c.plain r i w l)) (stands-within k a h₁) in
        rw f (made_ends q (λ u. u) (v_choice i) (plain_of j t a))

    value-means : (r : ℕ) → is_type t r ≡ true → value_with plain t s r p ≡ ending q (read j t r)
    unfolding value_with
    value-means r h = go' (is_unwrapped t r) refl
      where
        go' : (b : Bool) → is_unwrapped t r ≡ b → value_with plain t s r p ≡ ending q (read j t r)
        go' true w = rw (w, token-at k, picked-means r h w (alternative t r (token_for j)) refl, ← read-picked j t r w) (stands-within k r h)
        go' false w = rw (w, token-at k, means r h, ← read_plain j t r w) (stands-within k r h)

  -- ---- a value whose type is not UNWRAPPED

  abbrev LeafMeans : Json → ℕ → ℕ → ℕ → Type 0
  LeafMeans j r p q = is_leaf j ≡ true → leaf_at t s (token_for j) r p ≡ ending q (plain_of j t r)

  module _ (d : ℕ) (value : Reader) (reads : Reads t s d value) where
    array_plain : {is : Items} (p q r : ℕ) → is_type t r ≡ true → InArray d s is p q → bracket_at value d t s tok.Array r p ≡ ending q (read_array t p (elements is t) r)
    unfolding bracket_at read_array bind ending
    array_plain {is} p q r h k = list (eqb (kind_of t r) SEQUENCE-OF) refl
      where
        sequence : (b : Bool) → is_array t r ≡ b → eqb (kind_of t r) SEQUENCE-OF ≡ false → bracket_at value d t s tok.Array r p ≡ ending q (read_array t p (elements is t) r)
        sequence true y w = rw (w, bracket_at, read_array, y) (array-means t s d value reads r p q c h k)
        sequence false y w = rw (w, bracket_at, read_array, y)

        list : (b : Bool) → eqb (kind_of t r) SEQUENCE-OF ≡ b → bracket_at value d t s tok.Array r p ≡ ending q (read_array t p (elements is t) r)
        list true w = rw (w, bracket_at, read_array) (list-means t s d value reads r p q (c.element r (eqb-true (kind_of t r) SEQUENCE-OF w)) k)
        list false w = sequence (is_array t r) refl w

    object-plain : {ms : Members} (p q r : ℕ) → is_type t r ≡ true → InObject d s ms p q → bracket_at value d t s tok.Object r p ≡ ending q (read_braces t p (entries ms t) r)
    unfolding bracket_at read_braces bind ending
    object-plain {ms} p q r h k = choice (eqb (kind_of t r) CHOICE) refl
      where
        sequence : (b : Bool) → (eqb (kind_of t r) SEQUENCE && not (is_array t r)) ≡ b → eqb (kind_of t r) CHOICE ≡ false → bracket_at value d t s tok.Object r p ≡ ending q (read_braces t p (entries ms t) r)
        sequence true y w = rw (w, bracket_at, read_braces, y) (object-means t s value r c h d reads p q k)
        sequence false y w = rw (w, bracket_at, read_braces, y)

        choice : (b : Bool) → eqb (kind_of t r) CHOICE ≡ b → bracket_at value d t s tok.Object r p ≡ ending q (read_braces t p (entries ms t) r)
        choice true w = rw (w, bracket_at, read_braces) (choice-means t s d value reads r c h p q k)
        choice false w = sequence (eqb (kind_of t r) SEQUENCE && not (is_array t r)) refl w

    bracket-value : {p q : ℕ} {j : Json} {bs : List ℕ} (r : ℕ) (ys : List ℕ) → is_type t r ≡ true → Value (suc d) p j bs → drop p s ≡ bs ++ ys → past p bs ≡ q → LeafMeans j r p q
        → bracket_at value d t s (token_for j) r p ≡ ending q (plain_of j t r)
    unfolding bracket_at
    bracket-value r ys i grammar.literal_null h e l = l refl
    bracket-value r ys i grammar.literal_true h e l = l refl
    bracket-value r ys i grammar.literal_false h e l = l refl
    bracket-value r ys i (grammar.whole v) h e l = l refl
    bracket-value r ys i (grammar.real v k c) h e l = l refl
    bracket-value r ys i (grammar.string u) h e l = l refl
    bracket-value {q = q} r ys i (grammar.no_elements {p = p} z c) h e l = array_plain p q r i (rw (← e) (empty-array s ys z c h))
    bracket-value {q = q} r ys i (grammar.elements {p = p} f) h e l = array_plain p q r i (rw (← e) (some-array s ys f h))
    bracket-value {q = q} r ys i (grammar.no_members {p = p} z c) h e l = object-plain p q r i (rw (← e) (empty-object s ys z c h))
    bracket-value {q = q} r ys i (grammar.members {p = p} f) h e l = object-plain p q r i (rw (← e) (some-object s ys f h))

    bracket-reads : Reads t s (suc d) (λ r p. value_with (bracket_at value d t s) t s r p)
    bracket-reads = record { reads = λ {j} {p} {q} k. value-means k (bracket_at value d t s) (λ r i. bracket-value r k.rest i k.value k.text k.end (leaf-means t r k)) }

  -- where no bracket may be opened any more
  shallow_value : {p : ℕ} {j : Json} {bs : List ℕ} (q r : ℕ) → Value 0 p j bs → LeafMeans j r p q → shallow_at t s (token_for j) r p ≡ ending q (plain_of j t r)
  unfolding shallow_at
  shallow_value q r grammar.literal_null l = l refl
  shallow_value q r grammar.literal_true l = l refl
  shallow_value q r grammar.literal_false l = l refl
  shallow_value q r (grammar.whole v) l = l refl
  shallow_value q r (grammar.real v k c) l = l refl
  shallow_value q r (grammar.string u) l = l refl

  shallow_reads : Reads t s 0 (λ r p. value_with (shallow_at t s) t s r p)
  shallow_reads = record { reads = λ {j} {p} {q} k. value-means k (shallow_at t s) (λ r i. shallow_value q r k.value (leaf-means t r k)) }

  -- ---- the knot

  places_read : (d : ℕ) → Reads t s d (λ r p. read_at d t s r p)
  unfolding read_at
  places_read zero = shallow_reads
  places_read (suc d) = bracket-reads d (λ r p. read_at d t s r p) (places_read d)

-- ---- the laws

pub reads_at : (t : Table) → Sane t → (s : List ℕ) → length s ≤ 65536 → {d p : ℕ} {j : Json} {bs : List ℕ} → Value d p j bs → (ys : List ℕ) → drop p s ≡ bs ++ ys → EndsHere ys
    → (r : ℕ) → is_type t r ≡ true → read_at d t s r p ≡ ending (past p bs) (read j t r)
reads_at t c s few {d} {p} {j} {bs} v ys h g r i = (places_read t s c few d).reads (record { bytes = bs; rest = ys; value = v; text = h; ends = g; end = refl }) r i

-- a whole text; row 0 is its type
pub reads-text : (t : Table) → Sane t → (s : List ℕ) → length s ≤ 65536 → {d : ℕ} {j : Json} → Text d j s → bind (read_at d t s 0 (past_space s 0)) (λ g. ok g.value) ≡ read j t 0
reads-text t c s few {d} {j} x =
    let w = padded-within x s [] at_end at_end (sym (append-nil s)) in
    rw ((places_read t s c few d).reads w.stands 0 c.whole) (ending-value w.end (read j t 0))
