-- The loop over the members of a SEQUENCE.
use mathlib.Core.Path.{◌≡◌, refl, sym, ap, ◌∙◌}
use mathlib.Core.List.{List, [], ◌∷◌, ◌++◌, append_assoc}
use mathlib.Core.Bool.{Bool, true, false, ◌&&◌}
use Prim.Native.Nat.{ℕ, suc, ◌+◌, ◌-◌, ◌≤◌, ◌<◌}
use native.Mathlib.Omega.{arith}
use native.Mathlib.Nat.{add-zero}
use native.Mathlib.Numerals.{add-one}
use lib.Dec.{eqb}
use lib.ListN.{length, drop}
use Rattle.jer.specs.Table.{Table, is_array, count_of, type_at, same_bytes}
use Rattle.jer.specs.Value.{Val, v_seq, Parts, absent, present, count_present}
use Rattle.jer.specs.Rows.{ValueRow}
use Rattle.jer.specs.Judge.{Took, took, wrong, and_then, Taker, take_parts, take_sequence, take_value}
use Rattle.jer.specs.Write.{null_text, joined, drop_nulls, write}
use Rattle.jer.proofs.ValidRows.{both}
use Rattle.written.specs.Rows.{absent_next, null_next}
use Rattle.written.specs.Text.{Puts, text_of, bracket_text, Writes, lead, ended_as, opening, closing, kept_after}
use Rattle.written.specs.Tables.{Wrapped}
use Rattle.written.proofs.PutLaws.{puts_none, puts_append, puts_as}
use Rattle.written.proofs.RowLaws.{never}
use Rattle.written.proofs.RestLaws.{next-rows}
use Rattle.written.proofs.NullLaws.{value-null}
use Rattle.written.proofs.TextLaws.{Value, NoValue, value_none, then_as, then-then, closed, ends, text-ended, text-wrong}
use Rattle.written.proofs.PartLaws.{after, whole, enclosed, whole-start, whole-end, whole-absent, whole-null, whole_part, after-length, after_kept, lead-joined}

-- whether an ARRAY's element is null, by what the code asked
pub null_is : (t : Table) (ws : List ValueRow) (b : Bool) {e x : ℕ} {n c : Bool} → e ≡ x → n ≡ (b && null_next t e ws) → n ≡ c → (b && null_next t x ws) ≡ c
null_is t ws b f g h = rw (← f) (sym g ∙ h)

-- ---- what the members give

-- what is left of the row w of number q, after the parts ks, with n members present before i
module _ (t : Table) (r : ℕ) (b : Bool) (w : ValueRow) (q : ℕ) where
  unfoldable pub parts_end : ℕ → List (List ℕ) → ℕ → Parts → List ValueRow → ℕ → ℕ → Took (List ℕ)
  parts_end i ks n ps ws' q' o' = closed (eqb w.a (n + count_present ps) && eqb w.size (q' - q)) (enclosed b (whole b t r i ks ps)) q ws' q' o'

  unfoldable pub parts_text : ℕ → List (List ℕ) → ℕ → Took Parts → Took (List ℕ)
  parts_text i ks n x = and_then x (parts_end i ks n)

  seq_text : is_array t r ≡ b → (x : Took Parts) → text_of (λ v. write v t r) (and_then x (λ ps ws' q' o'. elim (eqb w.a (count_present ps) && eqb w.size (q' - q)) [ true ↦ took (v_seq ps) ws' q' o' | false ↦ wrong q ])) ≡ parts_text 0 [] 0 x
  unfolding parts_text parts_end and_then
  seq_text h (took ps ws q' o') =
      let e : count_present ps ≡ 0 + count_present ps = omega arith in
      text-ended (λ v. write v t r) (eqb w.a (count_present ps) && eqb w.size (q' - q)) (v_seq ps) ws q q' o'
      ∙ ap (λ (s : List ℕ). closed (eqb w.a (count_present ps) && eqb w.size (q' - q)) s q ws q' o') (whole-start b t r ps h)
      ∙ ap (λ (n : ℕ). closed (eqb w.a n && eqb w.size (q' - q)) (enclosed b (whole b t r 0 [] ps)) q ws q' o') e
  seq_text h (wrong q') = text-wrong (λ v. write v t r) q'

  end_as : (i j n m : ℕ) (ks ls : List (List ℕ)) (ps qs : Parts) (ws : List ValueRow) (q' o' : ℕ) → n + count_present ps ≡ m + count_present qs → whole b t r i ks ps ≡ whole b t r j ls qs → parts_end i ks n ps ws q' o' ≡ parts_end j ls m qs ws q' o'
  unfolding parts_end
  end_as i j n m ks ls ps qs ws q' o' e f =
      ap (λ (x : ℕ). closed (eqb w.a x && eqb w.size (q' - q)) (enclosed b (whole b t r i ks ps)) q ws q' o') e
      ∙ ap (λ (xs : List (List ℕ)). closed (eqb w.a (m + count_present qs) && eqb w.size (q' - q)) (enclosed b xs) q ws q' o') f

  module _ (f : Taker) (i : ℕ) (ks : List (List ℕ)) (n : ℕ) where
    none_left : (ws : List ValueRow) (p u : ℕ) → (b ≡ true → drop_nulls ks ≡ ks) → parts_text i ks n (take_parts f t r i 0 ws p u) ≡ closed (eqb w.a n && eqb w.size (p - q)) (enclosed b ks) q ws p u
    unfolding parts_text parts_end take_parts and_then count_present
    none_left ws p u h = rw (add-zero n, whole-end t r i ks b h)

    absent-taken : (m : ℕ) (ws : List ValueRow) (p u : ℕ) → absent_next t r i ws ≡ true → length ks ≤ i → parts_text i ks n (take_parts f t r i (suc m) ws p u) ≡ parts_text (suc i) ks n (take_parts f t r (suc i) m (drop 1 ws) (suc p) u)
    unfolding parts_text take_parts and_then absent_next count_present
    absent-taken m [] p u h l = never h
    absent-taken m (x ∷ ws) p u h l =
        rw (h, take_parts) (then-then (take_parts f t r (suc i) m ws (suc p) u) (λ ps ws' q' o'. took (absent ps) ws' q' o') (parts_end i ks n)
        ∙ then_as (take_parts f t r (suc i) m ws (suc p) u) (λ ps ws' q' o'. end_as i (suc i) n n ks ks (absent ps) ps ws' q' o' (same ps) (whole-absent t r i ks l b ps)))
      where
        same : (ps : Parts) → n + count_present (absent ps) ≡ n + count_present ps
        same ps = refl

    -- the member at i is taken, and what follows goes on from the parts ls
    part_taken : (m : ℕ) (ws us : List ValueRow) (p u p' u' : ℕ) (v : Val) (ls : List (List ℕ)) → f (type_at t r i) [] p u ≡ wrong p → absent_next t r i ws ≡ false → f (type_at t r i) ws p u ≡ took v us p' u' → ((ps : Parts) → whole b t r i ks (present v ps) ≡ whole b t r (suc i) ls ps)
        → parts_text i ks n (take_parts f t r i (suc m) ws p u) ≡ parts_text (suc i) ls (n + 1) (take_parts f t r (suc i) m us p' u')
    unfolding parts_text take_parts and_then absent_next count_present
    part_taken m [] us p u p' u' v ls z h e k = absurd (let y : ◌≡◌ {A = ℕ} 0 1 = cc in omega arith)
    part_taken m (x ∷ ws) us p u p' u' v ls z h e k =
        rw (h, take_parts) (rw (e, and_then) (then-then (take_parts f t r (suc i) m us p' u') (λ ps ws' q' o'. took (present v ps) ws' q' o') (parts_end i ks n)
        ∙ then_as (take_parts f t r (suc i) m us p' u') (λ ps ws' q' o'. end_as i (suc i) n (n + 1) ks ls (present v ps) ps ws' q' o' (more ps) (k ps))))
      where
        more : (ps : Parts) → n + count_present (present v ps) ≡ n + 1 + count_present ps
        more ps = omega arith

    part_wrong : (m : ℕ) (ws : List ValueRow) (p u p' : ℕ) → f (type_at t r i) [] p u ≡ wrong p → absent_next t r i ws ≡ false → f (type_at t r i) ws p u ≡ wrong p' → parts_text i ks n (take_parts f t r i (suc m) ws p u) ≡ wrong p'
    unfolding parts_text take_parts and_then absent_next
    part_wrong m [] p u p' z h e = let y : p ≡ p' = cc in rw y
    part_wrong m (x ∷ ws) p u p' z h e = rw (h, take_parts) (rw (e, and_then))

-- ---- the loop

-- the members before i are taken, n of them present, and `kept` parts are written; the next stands at the row `next`, and the text has got to p
pub record Members (d : ℕ) (t : Table) (pool : List ℕ) (rows : List ValueRow) (w : ValueRow) (r q o k : ℕ) (b : Bool) (l m : List ℕ) (i n kept next used p : ℕ) : Type 0 where
  pub ks : List (List ℕ)
  pub rest : ℕ
  pub count : i + rest ≡ count_of t r
  pub left : parts_text t r b w q i ks n (take_parts (take_value d t pool) t r i rest (drop next rows) next used) ≡ bracket_text (take_sequence t r w (drop (suc q) rows) q o) d t pool r
  pub size : length ks ≡ kept
  pub few : kept ≤ i
  pub some : n ≤ i
  pub shut : b ≡ true → drop_nulls ks ≡ ks
  pub puts : Puts (joined ks) k l m p

module _ {d : ℕ} {t : Table} {pool : List ℕ} {rows : List ValueRow} {w : ValueRow} {r q o k : ℕ} {b : Bool} {l : List ℕ} where
  pub members-start : is_array t r ≡ b → k ≤ 18446744073709551615 → Members d t pool rows w r q o k b l l 0 0 0 (q + 1) o k
  unfolding bracket_text take_sequence joined drop_nulls
  members-start a f = rw (add-one q) record { ks = []; rest = count_of t r; count = omega arith; left = sym (seq_text t r b w q a _); size = refl; few = omega arith; some = omega arith; shut = λ _. refl; puts = puts_none k l f }

  module _ {m : List ℕ} {i n kept next used p : ℕ} (h : Members d t pool rows w r q o k b l m i n kept next used p) where
    left_over : (rest : ℕ) → Type 0
    left_over rest = parts_text t r b w q i h.ks n (take_parts (take_value d t pool) t r i rest (drop next rows) next used) ≡ bracket_text (take_sequence t r w (drop (suc q) rows) q o) d t pool r

    pub members-end : {l₁ m₁ : List ℕ} {k₁ e : ℕ} → count_of t r ≤ i → Puts (opening b ∷ []) k₁ l₁ l k → Puts (closing b ∷ []) p m m₁ e → Writes (bracket_text (take_sequence t r w (drop (suc q) rows) q o) d t pool r) k₁ l₁ m₁ (ended_as (eqb w.a n && eqb w.size (next - q)) q next used e)
    unfolding left_over enclosed
    members-end a g f =
        let y : h.rest ≡ 0 = omega (arith, h.count) in
        let z : left_over 0 = rw y at h.left in
        ends (eqb w.a n && eqb w.size (next - q)) (drop next rows) q next used (sym (none_left t r b w q (take_value d t pool) i h.ks n (drop next rows) next used h.shut) ∙ z) (puts_append g (puts_append h.puts f))

    module _ (a : i < count_of t r) where
      -- the member at i is left
      one_left : left_over (suc (count_of t r - suc i))
      unfolding left_over
      one_left = let e : h.rest ≡ suc (count_of t r - suc i) = omega (arith, h.count) in rw e at h.left

      pub members-absent : absent_next t r i (drop next rows) ≡ true → Members d t pool rows w r q o k b l m (i + 1) n kept (next + 1) used p
      unfolding left_over absent_next
      members-absent c = rw (add-one i, add-one next) record {
        ks = h.ks;
        rest = count_of t r - suc i;
        count = omega arith;
        left = ap (λ (us : List ValueRow). parts_text t r b w q (suc i) h.ks n (take_parts (take_value d t pool) t r (suc i) (count_of t r - suc i) us (suc next) used)) (sym (next-drop (drop next rows) refl))
            ∙ sym (absent-taken t r b w q (take_value d t pool) i h.ks n (count_of t r - suc i) (drop next rows) next used c (omega (arith, h.size, h.few)))
            ∙ one_left;
        size = h.size;
        few = omega (arith, h.few);
        some = omega (arith, h.some);
        shut = h.shut;
        puts = h.puts;
      }
        where
          next-drop : (ws : List ValueRow) → ws ≡ drop next rows → drop 1 ws ≡ drop (suc next) rows
          next-drop [] e = never (rw (← e) at c)
          next-drop (x ∷ ws) e = next-rows rows next e

      module _ (c : absent_next t r i (drop next rows) ≡ false) where
        pub members-wrong : {q' : ℕ} → NoValue d t pool rows (type_at t r i) next used q' → bracket_text (take_sequence t r w (drop (suc q) rows) q o) d t pool r ≡ wrong q'
        unfolding left_over
        members-wrong v = sym one_left ∙ part_wrong t r b w q (take_value d t pool) i h.ks n (count_of t r - suc i) _ _ _ _ (value_none d t pool _ _ _) c v.is

        module _ (g : Wrapped t) {q' o' e k₁ : ℕ} {m₁ m₂ : List ℕ} (v : Value d t pool rows (type_at t r i) next used k₁ m₁ m₂ q' o' e) where
          is-null : same_bytes (write v.what t (type_at t r i)) null_text ≡ null_next t (type_at t r i) (drop next rows)
          is-null = value-null t pool g d (type_at t r i) (drop next rows) next used v.what _ _ _ v.is

          -- what follows, after the parts ls
          goes_on : (ls : List (List ℕ)) → ((ps : Parts) → whole b t r i h.ks (present v.what ps) ≡ whole b t r (suc i) ls ps)
              → parts_text t r b w q (suc i) ls (n + 1) (take_parts (take_value d t pool) t r (suc i) (count_of t r - suc i) (drop q' rows) q' o') ≡ bracket_text (take_sequence t r w (drop (suc q) rows) q o) d t pool r
          unfolding left_over
          goes_on ls x = sym (part_taken t r b w q (take_value d t pool) i h.ks n (count_of t r - suc i) _ _ _ _ _ _ v.what ls (value_none d t pool _ _ _) c v.is x) ∙ one_left

          pub members-null : (b && null_next t (type_at t r i) (drop next rows)) ≡ true → Members d t pool rows w r q o k b l m (i + 1) (n + 1) kept q' o' p
          members-null f = let yz = simp both at f in rw (add-one i) record {
            ks = h.ks;
            rest = count_of t r - suc i;
            count = omega arith;
            left = goes_on h.ks (λ ps. rw yz.0 (whole-null t r i h.ks (omega (arith, h.size, h.few)) v.what ps (is-null ∙ yz.1)));
            size = h.size;
            few = omega (arith, h.few);
            some = omega (arith, h.some);
            shut = h.shut;
            puts = h.puts;
          }

          pub members_part : (b && null_next t (type_at t r i) (drop next rows)) ≡ false → Puts (lead b t r i kept) p m m₁ k₁ → Members d t pool rows w r q o k b l m₂ (i + 1) (n + 1) (kept_after b i kept) q' o' e
          unfolding kept_after
          members_part y f =
              let s = write v.what t (type_at t r i) in
              let x : length h.ks ≤ i = omega (arith, h.size, h.few) in
              rw (add-one i) record {
                ks = after b t r i h.ks s;
                rest = count_of t r - suc i;
                count = omega arith;
                left = goes_on (after b t r i h.ks s) (λ ps. whole_part t r i h.ks x b v.what ps);
                size = after-length t r i h.ks x b s ∙ ap (kept_after b i) h.size;
                few = kept-few b h.few;
                some = omega (arith, h.some);
                shut = not_null b y;
                puts = puts_as (append_assoc (joined h.ks) (lead b t r i kept) s ∙ ap (λ (j : ℕ). joined h.ks ++ (lead b t r i j ++ s)) (sym h.size) ∙ lead-joined t r i h.ks x b s)
                    (puts_append (puts_append h.puts f) v.puts);
              }
            where
              kept-few : (b : Bool) → kept ≤ i → kept_after b i kept ≤ suc i
              kept-few true z = omega arith
              kept-few false z = omega arith

              not_null : (b : Bool) → (b && null_next t (type_at t r i) (drop next rows)) ≡ false → b ≡ true → drop_nulls (after b t r i h.ks (write v.what t (type_at t r i))) ≡ after b t r i h.ks (write v.what t (type_at t r i))
              not_null true z u = after_kept t r i h.ks _ (is-null ∙ z)
              not_null false z u = never u
