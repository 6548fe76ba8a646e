-- Which reader reads a value, by the tests that the code makes. Assumes nothing.
use Rattle.jer.specs.declared.Token.{Token}
use Rattle.jer.specs.declared.Token.TheVariants as tok
use mathlib.Core.Path.{◌≡◌, refl, sym, ap, subst, ◌∙◌}
use mathlib.Core.Logic.{◌⊎◌, inl, inr}
use mathlib.Core.List.{List}
use mathlib.Core.Bool.{Bool, true, false, ◌&&◌, not}
use Rattle.std.specs.Prelude.{Option, None, Some, Ok, Err}
use Prim.Native.Nat.{ℕ, zero, suc, ◌+◌, ◌-◌, ◌^◌, ◌<◌, ◌≤◌}
use native.Mathlib.Omega.{arith}
use borrow.Author.Tests.{eqb-true, eq-eqb, ne_eqb, ltb-true}
use lib.Dec.{eqb, ltb}
use lib.ListN.{length}
use Rattle.json_text.specs.Bytes.{pick}
use Rattle.jer.specs.declared.Cause.TheVariants.{Missing, TooDeep, OtherKind, Unknown, UnknownName, NotOne}
use Rattle.jer.specs.declared.Limit.TheVariants.{LentRoom}
use Rattle.jer.specs.declared.Refusal.{Refusal}
use Rattle.jer.specs.declared.Refusal.TheVariants.{Amounts}
use Rattle.jer.specs.Table.{Table, NULL, SEQUENCE, SEQUENCE-OF, CHOICE, kind_of, open_unwrapped, type_at, is_array, is_unwrapped, extensible, alternative, position, token_code}
use Rattle.jer.proofs.Forms.{kind_tag}
use Rattle.jer.specs.Value.{Val, v_choice, v_null}
use Rattle.jer.specs.Answer.{Res, ok, no, bind, at}
use Rattle.jer.specs.Read.{null_value, missing_element}
use Rattle.jer.specs.Rows.{rows_of, pool_of, above}
use Rattle.jer.proofs.WeightGot.{found, got as unok}
use Rattle.tokens.specs.Places.{byte_at, past_space}
use Rattle.tokens.specs.Strings.{denoted}
use Rattle.tokens.proofs.PlaceLaws.{inside}
use Rattle.places.specs.ByPlaces.{Got, got, ending, Reader, first_part, value_place, token_at, leaf_at, list_at, array_at, object_at, one_at, member_at, chosen_at, choice_at, within, bracket_at, shallow_at, picked_at, value_with, read_at}
use Rattle.scan.proofs.WithinLaws.{end-within}
use Rattle.leaf.specs.declared.Taken.{Taken}
use Rattle.leaf.specs.Step.{Step, taken, Stepped}
use Rattle.types.specs.declared.row.Row.{Row}
use Rattle.types.specs.Rows.{row_of}
use Rattle.typed.specs.Cycle.{Small, Reads, limit, plain_at, bounded}
use Rattle.typed.proofs.SequenceLaws.{word-near}
use Rattle.typed.proofs.StoredLaws.{Took}

both : (a b : Bool) → (a && b) ≡ true → a ≡ true
both true b e = refl
both false b e = e

-- ---- tokens

token_end : (s : List ℕ) (p : ℕ) → byte_at s p ≡ 256 → token_at s p ≡ tok.Number
unfolding token_at pick
token_end s p e = rw (e, token_at)

-- a token that is no number stands inside the text
pub token-inside : (s : List ℕ) (p : ℕ) → (token_at s p ≡ tok.Number → ⊥) → p < length s
token-inside s p h = inside s p (λ e. h (token_end s p e))

pub bracket_inside : (s : List ℕ) (p : ℕ) {k : Token} → k ≡ token_at s p → (k ≡ tok.Array) ⊎ (k ≡ tok.Object) → p < length s
unfolding token_code
bracket_inside s p e (inl h) = token-inside s p (λ z. let y : ◌≡◌ {A = ℕ} 4 2 = ap token_code (sym h ∙ e ∙ z) in omega arith)
bracket_inside s p e (inr h) = token-inside s p (λ z. let y : ◌≡◌ {A = ℕ} 5 2 = ap token_code (sym h ∙ e ∙ z) in omega arith)

pub string_stands : (s : List ℕ) (p : ℕ) → token_at s p ≡ tok.String → p < length s
unfolding token_code
string_stands s p h = token-inside s p (λ z. let y : ◌≡◌ {A = ℕ} 3 2 = ap token_code (sym h ∙ z) in omega arith)

-- ---- a type that is not UNWRAPPED

module _ (t : Table) (s : List ℕ) (r p : ℕ) where
  pub plain-leaf : (d : ℕ) (k : Token) → (k ≡ tok.Array → ⊥) → (k ≡ tok.Object → ⊥) → leaf_at t s k r p ≡ plain_at d t s k r p
  unfolding plain_at shallow_at bracket_at
  plain-leaf zero tok.Null g h = refl
  plain-leaf zero tok.Boolean g h = refl
  plain-leaf zero tok.Number g h = refl
  plain-leaf zero tok.String g h = refl
  plain-leaf zero tok.Array g h = absurd (g refl)
  plain-leaf zero tok.Object g h = absurd (h refl)
  plain-leaf (suc d) tok.Null g h = refl
  plain-leaf (suc d) tok.Boolean g h = refl
  plain-leaf (suc d) tok.Number g h = refl
  plain-leaf (suc d) tok.String g h = refl
  plain-leaf (suc d) tok.Array g h = absurd (g refl)
  plain-leaf (suc d) tok.Object g h = absurd (h refl)

  pub plain-deep : (d : ℕ) {k : Token} → (k ≡ tok.Array) ⊎ (k ≡ tok.Object) → d ≡ 0 → at TooDeep p ≡ plain_at d t s k r p
  unfolding plain_at shallow_at
  plain-deep d (inl h) e = rw (h, e)
  plain-deep d (inr h) e = rw (h, e)

  plain_open : (d : ℕ) (k : Token) → (d ≡ 0 → ⊥) → bracket_at (λ q u. read_at (d - 1) t s q u) (d - 1) t s k r p ≡ plain_at d t s k r p
  unfolding plain_at
  plain_open zero k h = absurd (h refl)
  plain_open (suc d) k h = let z : suc d - 1 ≡ d = omega arith in rw z

  module _ (d : ℕ) {k : Token} (o : d ≡ 0 → ⊥) where
    module _ (e : k ≡ tok.Array) where
      square : bracket_at (λ q u. read_at (d - 1) t s q u) (d - 1) t s tok.Array r p ≡ plain_at d t s k r p
      square = rw (← e) (plain_open d k o)

      pub plain-list : kind_of t r ≡ SEQUENCE-OF → list_at (λ q u. read_at (d - 1) t s q u) t s r p ≡ plain_at d t s k r p
      unfolding bracket_at
      plain-list h = rw (eq-eqb (kind_of t r) SEQUENCE-OF h, bracket_at) at square

      module _ (h : kind_of t r ≡ SEQUENCE-OF → ⊥) where
        pub plain-array : is_array t r ≡ true → array_at (λ q u. read_at (d - 1) t s q u) (d - 1) t s r p ≡ plain_at d t s k r p
        unfolding bracket_at
        plain-array a = rw a at (rw (ne_eqb (kind_of t r) SEQUENCE-OF h, bracket_at) at square)

        pub plain-no-array : is_array t r ≡ false → at OtherKind p ≡ plain_at d t s k r p
        unfolding bracket_at
        plain-no-array a = rw a at (rw (ne_eqb (kind_of t r) SEQUENCE-OF h, bracket_at) at square)

    module _ (e : k ≡ tok.Object) where
      braces : bracket_at (λ q u. read_at (d - 1) t s q u) (d - 1) t s tok.Object r p ≡ plain_at d t s k r p
      braces = rw (← e) (plain_open d k o)

      pub plain-choice : kind_of t r ≡ CHOICE → choice_at (λ q u. read_at (d - 1) t s q u) (d - 1) t s r p ≡ plain_at d t s k r p
      unfolding bracket_at
      plain-choice h = rw (eq-eqb (kind_of t r) CHOICE h, bracket_at) at braces

      module _ (h : kind_of t r ≡ CHOICE → ⊥) where
        pub plain-object : (eqb (kind_of t r) SEQUENCE && not (is_array t r)) ≡ true → object_at (λ q u. read_at (d - 1) t s q u) (d - 1) t s r p ≡ plain_at d t s k r p
        unfolding bracket_at
        plain-object a = rw a at (rw (ne_eqb (kind_of t r) CHOICE h, bracket_at) at braces)

        pub plain-no-object : (eqb (kind_of t r) SEQUENCE && not (is_array t r)) ≡ false → at OtherKind p ≡ plain_at d t s k r p
        unfolding bracket_at
        plain-no-object a = rw a at (rw (ne_eqb (kind_of t r) CHOICE h, bracket_at) at braces)

-- ---- values

value_unfold : (d : ℕ) (t : Table) (s : List ℕ) (r p : ℕ) → value_with (λ k q u. plain_at d t s k q u) t s r p ≡ read_at d t s r p
unfolding read_at plain_at
value_unfold zero t s r p = refl
value_unfold (suc d) t s r p = refl

module _ (d : ℕ) (t : Table) (s : List ℕ) (r p : ℕ) where
  pub value-plain : is_unwrapped t r ≡ false → bind (plain_at d t s (token_at s p) r p) (within t r) ≡ read_at d t s r p
  unfolding value_with
  value-plain h = rw (h, value_with) at (value_unfold d t s r p)

  module _ (h : is_unwrapped t r ≡ true) where
    unwrapped : bind (picked_at (λ q u. plain_at d t s (token_at s p) q u) t r p (alternative t r (token_at s p))) (within t r) ≡ read_at d t s r p
    unfolding value_with
    unwrapped = rw (h, value_with) at (value_unfold d t s r p)

    pub value_none : alternative t r (token_at s p) ≡ None → elim (extensible t r) as (λ b. Res (Got Val)) [ true ↦ at Unknown p | false ↦ at OtherKind p ] ≡ read_at d t s r p
    unfolding picked_at bind
    value_none e = go (extensible t r) (rw e at unwrapped)
      where
        go : (b : Bool) → bind (elim b as (λ c. Res (Got Val)) [ true ↦ at Unknown p | false ↦ at OtherKind p ]) (within t r) ≡ read_at d t s r p → elim b as (λ c. Res (Got Val)) [ true ↦ at Unknown p | false ↦ at OtherKind p ] ≡ read_at d t s r p
        go true w = w
        go false w = w

    module _ {i : ℕ} (e : alternative t r (token_at s p) ≡ Some i) where
      pub value-refused : {y : Refusal} → bind (plain_at d t s (token_at s p) (type_at t r i) p) (within t (type_at t r i)) ≡ no y → no y ≡ read_at d t s r p
      unfolding picked_at bind
      value-refused w = rw w at (rw e at unwrapped)

      pub value-picked : {g : Got Val} → bind (plain_at d t s (token_at s p) (type_at t r i) p) (within t (type_at t r i)) ≡ ok g → within t r (got (v_choice i g.value) g.next) ≡ read_at d t s r p
      unfolding picked_at bind
      value-picked w = rw w at (rw e at unwrapped)

-- ---- leaves

ended : {A : Type 0} (q : ℕ) (x : Res A) {g : Got A} → ending q x ≡ ok g → g.next ≡ q
unfolding ending bind
ended {A} q (ok y) h = sym (ap (λ (g : Got A). g.next) (unok h))
ended q (no y) h = absurd (let z : ◌≡◌ {A = ℕ} 0 1 = cc in omega arith)

module _ (t : Table) (s : List ℕ) (r p : ℕ) (l : length s ≤ 65536) where
  pub leaf-near : (k : Token) {g : Got Val} → (k ≡ tok.String → p < length s) → leaf_at t s k r p ≡ ok g → g.next ≤ limit p
  unfolding leaf_at
  leaf-near tok.Null h e = omega (arith, ended _ _ e, word-near s p (limit p) (omega arith) (omega arith))
  leaf-near tok.Boolean h e = omega (arith, ended _ _ e, word-near s p (limit p) (omega arith) (omega arith))
  leaf-near tok.Number h e = omega (arith, ended _ _ e, word-near s p (limit p) (omega arith) (omega arith))
  leaf-near tok.String h e = let i = h refl in omega (arith, ended _ _ e, end-within s 65539 (omega arith) (p + 1) (omega arith))
  leaf-near tok.Array h e = absurd (let z : ◌≡◌ {A = ℕ} 0 1 = cc in omega arith)
  leaf-near tok.Object h e = absurd (let z : ◌≡◌ {A = ℕ} 0 1 = cc in omega arith)

-- what a value took, bounded
pub bounded-reads : {z u : Step} {y : Taken} {rows₁ rows₀ pool₁ pool₀ : List ℕ} {i o b : ℕ} {t : Table} {r : ℕ} (x : Res (Got Val)) → Stepped u rows₁ rows₀ pool₁ pool₀ i o t r x → u ≡ Ok y → z ≡ bounded y → ((g : Got Val) → x ≡ ok g → g.next ≤ b)
    → Reads z rows₁ rows₀ pool₁ pool₀ i o b t r (bind x (within t r))
unfolding bind within bounded
bounded-reads (no e) st h w n = absurd (let z : ◌≡◌ {A = ℕ} 0 1 = cc in omega arith)
bounded-reads {y = y} {rows₁ = rows₁} {rows₀ = rows₀} {pool₁ = pool₁} {pool₀ = pool₀} {i = i} {o = o} {b = b} {t = t} {r = r} (ok g) st h w n =
    let e : y ≡ taken g.next (length (rows_of g.value t r 0)) (length (pool_of g.value)) = cc in
    let f = w ∙ ap bounded e in
    rw (f, within, bounded) (go (ltb (length (rows_of g.value t r 0)) (2 ^ 32)) (ltb (length (pool_of g.value)) (2 ^ 32)) refl refl)
  where
    go : (x y : Bool) → ltb (length (rows_of g.value t r 0)) (2 ^ 32) ≡ x → ltb (length (pool_of g.value)) (2 ^ 32) ≡ y
        → Reads (elim (x && y) as (λ c. Step) [ true ↦ Ok (taken g.next (length (rows_of g.value t r 0)) (length (pool_of g.value))) | false ↦ Err (Amounts LentRoom (2 ^ 32) (2 ^ 32)) ]) rows₁ rows₀ pool₁ pool₀ i o b t r (elim (x && y) as (λ c. Res (Got Val)) [ true ↦ ok g | false ↦ no (Amounts LentRoom (2 ^ 32) (2 ^ 32)) ])
    go true true e₁ e₂ = record { stepped = record { answer = refl; rows = st.rows; pool = st.pool }; small = (n g refl, ltb-true (length (rows_of g.value t r 0)) (2 ^ 32) e₁, ltb-true (length (pool_of g.value)) (2 ^ 32) e₂) }
    go true false e₁ e₂ = record { stepped = record { answer = refl; rows = tt; pool = tt }; small = tt }
    go false y e₁ e₂ = record { stepped = record { answer = refl; rows = tt; pool = tt }; small = tt }

-- ---- wrapped choices

module _ (value : Reader) (d : ℕ) (t : Table) (s : List ℕ) (r p : ℕ) where
  pub choice-not-one : None ≡ one_at d s (first_part s 0x7D p) → at NotOne p ≡ choice_at value d t s r p
  unfolding choice_at member_at
  choice-not-one e = rw (← e)

  module _ {q : ℕ} (e : Some q ≡ one_at d s (first_part s 0x7D p)) where
    chosen : chosen_at value t s r p q (position t r (denoted s (q + 1))) ≡ choice_at value d t s r p
    unfolding choice_at member_at
    chosen = rw (← e)

    pub choice-none : position t r (denoted s (q + 1)) ≡ None → elim (extensible t r) as (λ b. Res (Got Val)) [ true ↦ at Unknown p | false ↦ at UnknownName q ] ≡ choice_at value d t s r p
    unfolding chosen_at
    choice-none h = rw h at chosen

    module _ {i : ℕ} (h : position t r (denoted s (q + 1)) ≡ Some i) where
      pub choice-refused : {y : Refusal} → value (type_at t r i) (value_place s q) ≡ no y → no y ≡ choice_at value d t s r p
      unfolding chosen_at bind
      choice-refused w = rw w at (rw h at chosen)

      pub choice-picked : {g : Got Val} → value (type_at t r i) (value_place s q) ≡ ok g → ok (got (v_choice i g.value) (past_space s g.next + 1)) ≡ choice_at value d t s r p
      unfolding chosen_at bind
      choice-picked w = rw w at (rw h at chosen)

-- ---- the value of a missing element

null-small : (t : Table) (r q : ℕ) (v : Val) → null_value t r ≡ Some v → (length (rows_of v t q 0) ≤ 2) × (length (pool_of v) ≡ 0)
unfolding null_value rows_of pool_of above
null-small t r q v e = go (is_unwrapped t r) (alternative t r tok.Null) (eqb (kind_of t r) NULL) e
  where
    one : (length (rows_of v_null t q 0) ≤ 2) × (length (pool_of v_null) ≡ 0)
    one = (omega arith, refl)

    two : (i : ℕ) → (length (rows_of (v_choice i v_null) t q 0) ≤ 2) × (length (pool_of (v_choice i v_null)) ≡ 0)
    two i = (omega arith, refl)

    go : (a : Bool) (x : Option ℕ) (b : Bool) → elim a as (λ c. Option Val) [ true ↦ elim x as (λ c. Option Val) [ None ↦ None | Some i ↦ Some (v_choice i v_null) ] | false ↦ elim b as (λ c. Option Val) [ true ↦ Some v_null | false ↦ None ] ] ≡ Some v
        → (length (rows_of v t q 0) ≤ 2) × (length (pool_of v) ≡ 0)
    go true None b e = absurd (let z : ◌≡◌ {A = ℕ} 0 1 = cc in omega arith)
    go true (Some i) b e = subst (λ (u : Val). (length (rows_of u t q 0) ≤ 2) × (length (pool_of u) ≡ 0)) (found e) (two i)
    go false x true e = subst (λ (u : Val). (length (rows_of u t q 0) ≤ 2) × (length (pool_of u) ≡ 0)) (found e) one
    go false x false e = absurd (let z : ◌≡◌ {A = ℕ} 0 1 = cc in omega arith)

missing-value : (t : Table) (r o i : ℕ) (v : Val) → missing_element t r o i ≡ ok v → null_value t (type_at t r i) ≡ Some v
unfolding missing_element
missing-value t r o i v e = go (null_value t (type_at t r i)) (open_unwrapped t (type_at t r i)) e
  where
    go : (x : Option Val) (b : Bool) → elim x as (λ c. Res Val) [ Some v ↦ ok v | None ↦ elim b as (λ c. Res Val) [ true ↦ at Unknown o | false ↦ at (Missing i) o ] ] ≡ ok v → x ≡ Some v
    go (Some u) b e = let z : u ≡ v = cc in rw z
    go None true e = absurd (let z : ◌≡◌ {A = ℕ} 0 1 = cc in omega arith)
    go None false e = absurd (let z : ◌≡◌ {A = ℕ} 0 1 = cc in omega arith)

pub missing-small : (t : Table) (r o i q : ℕ) {y a b : ℕ} → Took t (type_at t r i) (ending q (missing_element t r o i)) y a b → (a < 2 ^ 32) × (b < 2 ^ 32)
unfolding ending bind
missing-small t r o i q {a = a} {b = b} w = go (missing_element t r o i) refl w.is
  where
    go : (x : Res Val) → missing_element t r o i ≡ x → ending q x ≡ ok w.g → (a < 2 ^ 32) × (b < 2 ^ 32)
    go (ok v) e h = let z : v ≡ w.g.value = ap (λ (g : Got Val). g.value) (unok h) in let n = null-small t (type_at t r i) (type_at t r i) w.g.value (missing-value t r o i w.g.value (e ∙ ap (λ (u : Val). ok u) z)) in omega (arith, w.many, w.long)
    go (no v) e h = absurd (let z : ◌≡◌ {A = ℕ} 0 1 = cc in omega arith)

pub missing-no : (t : Table) (r o i q : ℕ) {y : Refusal} → ending q (missing_element t r o i) ≡ no y → missing_element t r o i ≡ no y
unfolding ending bind
missing-no t r o i q h = go (missing_element t r o i) h
  where
    go : {y : Refusal} (x : Res Val) → ending q x ≡ no y → x ≡ no y
    go (ok v) h = absurd (let z : ◌≡◌ {A = ℕ} 0 1 = cc in omega arith)
    go (no v) h = cc

-- ---- kinds by the tests of the code

pub array_kind : (t : Table) (r : ℕ) → is_array t r ≡ true → kind_of t r ≡ SEQUENCE
unfolding is_array
array_kind t r e = eqb-true (kind_of t r) SEQUENCE (both (eqb (kind_of t r) SEQUENCE) _ e)

pub object-kind : (t : Table) (r : ℕ) → (eqb (kind_of t r) SEQUENCE && not (is_array t r)) ≡ true → kind_of t r ≡ SEQUENCE
object-kind t r e = eqb-true (kind_of t r) SEQUENCE (both (eqb (kind_of t r) SEQUENCE) _ e)

pub unwrapped-kind : (t : Table) (r : ℕ) → is_unwrapped t r ≡ true → kind_of t r ≡ CHOICE
unfolding is_unwrapped
unwrapped-kind t r e = eqb-true (kind_of t r) CHOICE (both (eqb (kind_of t r) CHOICE) _ e)

pub positive : (d : ℕ) → (d ≡ 0 → ⊥) → 0 < d
positive zero h = absurd (h refl)
positive (suc d) h = omega arith

pub sequence-is : (t : Table) (r : ℕ) {w : Row} {b : Bool} → w ≡ row_of t r → b ≡ is_array t r → (eqb (kind_of t r) SEQUENCE && not (is_array t r)) ≡ (eqb w.kind SEQUENCE && not b)
sequence-is t r e h = rw (e, h, kind_tag t r)

-- the bound of a bracket, from that of a leaf
pub bounded-near : (p d : ℕ) {z : Step} {rows₁ rows₀ pool₁ pool₀ : List ℕ} {i o : ℕ} {t : Table} {r : ℕ} {x : Res (Got Val)} → Reads z rows₁ rows₀ pool₁ pool₀ i o (limit p) t r x → Reads z rows₁ rows₀ pool₁ pool₀ i o (limit p + d) t r x
bounded-near p d {z} f = record { stepped = f.stepped; small = go z f.small }
  where
    go : (z : Step) → Small (limit p) z → Small (limit p + d) z
    go (Ok x) h = (omega (arith, h.0), h.1, h.2)
    go (Err e) h = tt
