-- The loop over the items of a SEQUENCE OF.
use mathlib.Core.Path.{◌≡◌, refl, sym, ap, ◌∙◌}
use mathlib.Core.List.{List, [], ◌∷◌, ◌++◌, append_assoc, append-nil}
use mathlib.Core.Bool.{true, ◌&&◌}
use Prim.Native.Nat.{ℕ, suc, ◌+◌, ◌-◌, ◌≤◌, ◌<◌}
use native.Mathlib.Omega.{arith}
use native.Mathlib.Numerals.{add-one}
use lib.Dec.{eqb}
use lib.ListN.{length, drop, length-append}
use Rattle.jer.specs.Table.{Table, element_of}
use Rattle.jer.specs.Value.{Val, v_list, Vals, vcons}
use Rattle.jer.specs.Rows.{ValueRow}
use Rattle.jer.specs.Judge.{Took, took, wrong, and_then, Taker, take_items, sized, take_list, take_value}
use Rattle.jer.specs.Write.{joined, brackets, write, item_texts}
use Rattle.written.specs.Text.{Puts, text_of, bracket_text, Writes, comma, ended_as}
use Rattle.written.proofs.PutLaws.{puts_none, puts_append, puts_as}
use Rattle.written.proofs.TextLaws.{Value, NoValue, then_as, then-then, closed, ends, text-ended, text-wrong, joined-more}

-- what the items give, after the texts xs of those before them
unfoldable pub items_text : Table → ℕ → ValueRow → ℕ → List (List ℕ) → Took Vals → Took (List ℕ)
items_text t e w q xs x = and_then x (λ vs ws' q' o'. closed (true && eqb w.size (q' - q)) (brackets (xs ++ item_texts vs t e)) q ws' q' o')

list-text : (t : Table) (r : ℕ) (w : ValueRow) (q : ℕ) (x : Took Vals) → text_of (λ v. write v t r) (sized w q true (and_then x (λ vs ws' q' o'. took (v_list vs) ws' q' o'))) ≡ items_text t (element_of t r) w q [] x
unfolding items_text and_then sized write
list-text t r w q (took vs ws q' o') = text-ended (λ v. write v t r) (true && eqb w.size (q' - q)) (v_list vs) ws q q' o'
list-text t r w q (wrong q') = text-wrong (λ v. write v t r) q'

module _ (f : Taker) (t : Table) (e : ℕ) (w : ValueRow) (q : ℕ) (xs : List (List ℕ)) where
  none_left : (ws : List ValueRow) (p u : ℕ) → items_text t e w q xs (take_items f e 0 ws p u) ≡ closed (true && eqb w.size (p - q)) (brackets xs) q ws p u
  unfolding items_text take_items and_then item_texts
  none_left ws p u = rw append-nil

  one-taken : (n : ℕ) (ws us : List ValueRow) (p u p' u' : ℕ) (v : Val) → f e ws p u ≡ took v us p' u' → items_text t e w q xs (take_items f e (suc n) ws p u) ≡ items_text t e w q (xs ++ (write v t e ∷ [])) (take_items f e n us p' u')
  unfolding items_text take_items and_then item_texts
  one-taken n ws us p u p' u' v h =
      rw (h, and_then) (then-then (take_items f e n us p' u') (λ vs ws' q' o'. took (vcons v vs) ws' q' o') (λ vs ws' q' o'. closed (true && eqb w.size (q' - q)) (brackets (xs ++ item_texts vs t e)) q ws' q' o')
      ∙ then_as (take_items f e n us p' u') (λ vs ws' q' o'. ap (λ (ys : List (List ℕ)). closed (true && eqb w.size (q' - q)) (brackets ys) q ws' q' o') (sym (append_assoc xs (write v t e ∷ []) (item_texts vs t e)))))

  one-wrong : (n : ℕ) (ws : List ValueRow) (p u p' : ℕ) → f e ws p u ≡ wrong p' → items_text t e w q xs (take_items f e (suc n) ws p u) ≡ wrong p'
  unfolding items_text take_items and_then
  one-wrong n ws p u p' h = rw (h, and_then)

-- i items are written from k on, of those of the row w of number q; the next stands at the row `next`, and the text has got to p
pub record Items (d : ℕ) (t : Table) (pool : List ℕ) (rows : List ValueRow) (w : ValueRow) (r q o k : ℕ) (l m : List ℕ) (i next used p : ℕ) : Type 0 where
  pub xs : List (List ℕ)
  pub n : ℕ
  pub count : i + n ≡ w.a
  pub left : items_text t (element_of t r) w q xs (take_items (take_value d t pool) (element_of t r) n (drop next rows) next used) ≡ bracket_text (take_list t r w (drop (suc q) rows) q o) d t pool r
  pub size : length xs ≡ i
  pub puts : Puts (joined xs) k l m p

module _ {d : ℕ} {t : Table} {pool : List ℕ} {rows : List ValueRow} {w : ValueRow} {r q o k : ℕ} {l : List ℕ} where
  pub items-start : k ≤ 18446744073709551615 → Items d t pool rows w r q o k l l 0 (q + 1) o k
  unfolding bracket_text take_list joined
  items-start f = rw (add-one q) record { xs = []; n = w.a; count = omega arith; left = sym (list-text t r w q _); size = refl; puts = puts_none k l f }

  module _ {m : List ℕ} {i next used p : ℕ} (h : Items d t pool rows w r q o k l m i next used p) where
    left_over : (n : ℕ) → Type 0
    left_over n = items_text t (element_of t r) w q h.xs (take_items (take_value d t pool) (element_of t r) n (drop next rows) next used) ≡ bracket_text (take_list t r w (drop (suc q) rows) q o) d t pool r

    module _ (b : i < w.a) where
      -- the item at i is left
      one_left : left_over (suc (w.a - suc i))
      unfolding left_over
      one_left = let e : h.n ≡ suc (w.a - suc i) = omega (arith, h.count) in rw e at h.left

      pub items-next : {m₁ m₂ : List ℕ} {p₁ q' o' e : ℕ} → Puts (comma i) p m m₁ p₁ → Value d t pool rows (element_of t r) next used p₁ m₁ m₂ q' o' e → Items d t pool rows w r q o k l m₂ (i + 1) q' o' e
      unfolding left_over
      items-next {e = e} f v = record {
        xs = h.xs ++ (write v.what t (element_of t r) ∷ []);
        n = w.a - suc i;
        count = omega arith;
        left = sym (one-taken (take_value d t pool) t (element_of t r) w q h.xs (w.a - suc i) _ _ _ _ _ _ v.what v.is) ∙ one_left;
        size = length-append h.xs _ ∙ ap (λ (j : ℕ). j + 1) h.size;
        puts = puts_as (append_assoc (joined h.xs) (comma i) _ ∙ ap (λ (j : ℕ). joined h.xs ++ (comma j ++ write v.what t (element_of t r))) (sym h.size) ∙ sym (joined-more h.xs _)) (puts_append (puts_append h.puts f) v.puts);
      }

      pub items-wrong : {q' : ℕ} → NoValue d t pool rows (element_of t r) next used q' → bracket_text (take_list t r w (drop (suc q) rows) q o) d t pool r ≡ wrong q'
      unfolding left_over
      items-wrong v = sym one_left ∙ one-wrong (take_value d t pool) t (element_of t r) w q h.xs (w.a - suc i) _ _ _ _ v.is

    pub items-end : {l₁ m₁ : List ℕ} {k₁ e : ℕ} → w.a ≤ i → Puts (0x5B ∷ []) k₁ l₁ l k → Puts (0x5D ∷ []) p m m₁ e → Writes (bracket_text (take_list t r w (drop (suc q) rows) q o) d t pool r) k₁ l₁ m₁ (ended_as (true && eqb w.size (next - q)) q next used e)
    unfolding brackets left_over
    items-end b g f =
        let n : h.n ≡ 0 = omega (arith, h.count) in
        let z : left_over 0 = rw n at h.left in
        ends (true && eqb w.size (next - q)) (drop next rows) q next used (sym (none_left (take_value d t pool) t (element_of t r) w q h.xs (drop next rows) next used) ∙ z) (puts_append g (puts_append h.puts f))
