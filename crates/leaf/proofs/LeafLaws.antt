-- Leaves of strings, and a missing element of two rows. Assumes nothing.
use mathlib.Core.Path.{◌≡◌, refl, sym, ◌∙◌}
use mathlib.Core.List.{List, [], ◌∷◌}
use mathlib.Core.Bool.{Bool, true, false}
use Rattle.std.specs.Prelude.{Some, Ok}
use Prim.Native.Nat.{ℕ, ◌+◌, ◌*◌}
use lib.Seq.{sets}
use Rattle.json_text.specs.Bytes.{pick}
use Rattle.jer.specs.declared.Token.TheVariants as tok
use Rattle.jer.proofs.Forms.{kind_tag}
use Rattle.jer.specs.Table.{Table, kind_of, type_at, position, is_base64, is_unwrapped, alternative}
use Rattle.jer.specs.Value.{v_choice, v_null}
use Rattle.jer.specs.Answer.{bind}
use Rattle.jer.specs.Rows.{row, numbers, above, rows_of, pool_of}
use Rattle.jer.specs.Read.{read_string, read_item, octets_of, null_value, missing_element}
use Rattle.jer.specs.Octets.{unhex, unbase64}
use Rattle.tokens.specs.Strings.{denoted, string_end}
use Rattle.types.specs.declared.row.Row.{Row}
use Rattle.types.specs.Rows.{row_of}
use Rattle.places.specs.ByPlaces.{ending, leaf_at}
use Rattle.leaf.specs.Step.{Step, taken, Stepped}
use Rattle.leaf.proofs.StoreLaws.{reads, rows-after}

module _ (t : Table) (s : List ℕ) (r p : ℕ) {kind : ℕ} (e : kind ≡ kind_of t r) where
  pub string-item : kind ≡ 2 → leaf_at t s tok.String r p ≡ ending (string_end s (p + 1)) (read_item t r p (position t r (denoted s (p + 1))))
  unfolding leaf_at read_string pick
  string-item h = let f : kind_of t r ≡ 2 = sym e ∙ h in rw f

-- the octets, by how the type spells them
module _ (t : Table) (r : ℕ) (d : List ℕ) {b : Bool} (e : b ≡ is_base64 t r) where
  pub base64-of : b ≡ true → unbase64 d ≡ octets_of t r d
  unfolding octets_of
  base64-of h = rw (sym e ∙ h, octets_of)

  pub hex-of : b ≡ false → unhex d ≡ octets_of t r d
  unfolding octets_of
  hex-of h = rw (sym e ∙ h, octets_of)

-- a missing element whose type is an UNWRAPPED choice with an alternative for null: two rows
pub missing-two : {t : Table} (r p j q : ℕ) {m k n x i o : ℕ} {w : Row} {z : Step} {rows rows₁ rows₀ pool : List ℕ} → m ≡ type_at t r j → is_unwrapped t m ≡ true → alternative t m tok.Null ≡ Some k
    → w ≡ row_of t m → x ≡ type_at t m k → n ≡ kind_of t x → rows ≡ sets rows₀ (i * 4) (w.kind ∷ k ∷ 0 ∷ 2 ∷ []) → rows₁ ≡ sets rows ((i + 1) * 4) (n ∷ 0 ∷ 0 ∷ 1 ∷ []) → z ≡ Ok (taken q 2 0)
    → Stepped z rows₁ rows₀ pool pool i o t (type_at t r j) (ending q (missing_element t r p j))
unfolding missing_element null_value ending bind pool_of rows_of above numbers
missing-two {t = t} r p j q {m} {k} {n} {i = i} {w = w} {rows₀ = rows₀} e u f g y d s₁ s₂ a =
    let u' : is_unwrapped t (type_at t r j) ≡ true = rw (← e) u in
    let f' : alternative t (type_at t r j) tok.Null ≡ Some k = rw (← e) f in
    reads (v_choice k v_null) (rw (missing_element, u', null_value, f')) a
    (λ l. rows-after rows₀ i (row w.kind k 0 2 ∷ []) (row n 0 0 1 ∷ []) s₁ refl s₂ ∙ rw (g, d, y, e, kind_tag t _)) (λ l. refl)
