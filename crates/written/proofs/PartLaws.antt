-- The texts of the members of a SEQUENCE, one by one: as an object, and as an ARRAY, whose nulls wait until another element follows.
use mathlib.Core.Path.{◌≡◌, refl, sym, ap, ◌∙◌}
use mathlib.Core.List.{List, [], ◌∷◌, ◌++◌, append_assoc, append-nil}
use mathlib.Core.Bool.{Bool, true, false}
use Prim.Native.Nat.{ℕ, zero, suc, ◌-◌, ◌≤◌}
use native.Mathlib.Omega.{arith}
use lib.ListN.{length, length-append, replicate}
use Rattle.jer.specs.Table.{Table, is_array, type_at, name_at, same_bytes}
use Rattle.jer.specs.Value.{Val, v_seq, Parts, pnil, absent, present}
use Rattle.jer.specs.Write.{null_text, string_text, joined, keep, drop_nulls, brackets, braces, member_text, sequence_text, write, element_texts, member_texts}
use Rattle.jer.proofs.ValidLaws.{same_bytes-eq, same_bytes-refl}
use Rattle.written.specs.Text.{comma, nulls, name_text, lead, opening, closing, kept_after}
use Rattle.written.proofs.TextLaws.{joined-more}

-- ---- nulls

unfoldable pub waiting : ℕ → List (List ℕ)
waiting m = replicate m null_text

waiting-length : (m : ℕ) → length (waiting m) ≡ m
unfolding waiting
waiting-length zero = refl
waiting-length (suc m) = ap suc (waiting-length m)

waiting-more : (m : ℕ) → waiting (suc m) ≡ waiting m ++ (null_text ∷ [])
unfolding waiting
waiting-more zero = refl
waiting-more (suc m) = ap (λ (xs : List (List ℕ)). null_text ∷ xs) (waiting-more m)

keep-null : (x : List ℕ) → same_bytes x null_text ≡ true → keep x [] ≡ []
unfolding keep
keep-null x h = rw (h, keep)

keep-other : (x : List ℕ) → same_bytes x null_text ≡ false → keep x [] ≡ x ∷ []
unfolding keep
keep-other x h = rw (h, keep)

drop-waiting : (m : ℕ) → drop_nulls (waiting m) ≡ []
unfolding waiting drop_nulls
drop-waiting zero = refl
drop-waiting (suc m) = ap (keep null_text) (drop-waiting m) ∙ keep-null null_text (same_bytes-refl null_text)

drop-last : (xs : List (List ℕ)) (m : ℕ) → drop_nulls (xs ++ waiting m) ≡ drop_nulls xs
unfolding drop_nulls
drop-last [] m = drop-waiting m
drop-last (x ∷ xs) m = ap (keep x) (drop-last xs m)

kept-last : (xs : List (List ℕ)) (s : List ℕ) → same_bytes s null_text ≡ false → drop_nulls (xs ++ (s ∷ [])) ≡ xs ++ (s ∷ [])
unfolding drop_nulls keep
kept-last [] s h = keep-other s h
kept-last (x ∷ []) s h = ap (keep x) (kept-last [] s h)
kept-last (x ∷ y ∷ xs) s h = ap (keep x) (kept-last (y ∷ xs) s h)

joined-nulls : (xs : List (List ℕ)) (m : ℕ) → joined (xs ++ waiting m) ≡ joined xs ++ nulls (length xs) m
unfolding waiting nulls
joined-nulls xs zero = rw append-nil (sym (append-nil (joined xs)))
joined-nulls xs (suc m) =
    let n : length (xs ++ (null_text ∷ [])) ≡ suc (length xs) = omega (arith, length-append xs (null_text ∷ [])) in
    ap joined (sym (append_assoc xs (null_text ∷ []) (replicate m null_text)))
    ∙ joined-nulls (xs ++ (null_text ∷ [])) m
    ∙ ap (λ (s : List ℕ). s ++ nulls (length (xs ++ (null_text ∷ []))) m) (joined-more xs null_text)
    ∙ ap (λ (j : ℕ). (joined xs ++ (comma (length xs) ++ null_text)) ++ nulls j m) n
    ∙ append_assoc (joined xs) (comma (length xs) ++ null_text) (nulls (suc (length xs)) m)
    ∙ ap (λ (s : List ℕ). joined xs ++ s) (append_assoc (comma (length xs)) null_text (nulls (suc (length xs)) m))

-- ---- the parts written

-- with the member at i, whose text is s, after the parts ks
unfoldable pub after : Bool → Table → ℕ → ℕ → List (List ℕ) → List ℕ → List (List ℕ)
after true t r i ks s = (ks ++ waiting (i - length ks)) ++ (s ∷ [])
after false t r i ks s = ks ++ (member_text (name_at t r i) s ∷ [])

-- all parts, once the members ps from i on are written too
unfoldable pub whole : Bool → Table → ℕ → ℕ → List (List ℕ) → Parts → List (List ℕ)
whole true t r i ks ps = drop_nulls ((ks ++ waiting (i - length ks)) ++ element_texts ps t r i)
whole false t r i ks ps = ks ++ member_texts ps t r i

unfoldable pub enclosed : Bool → List (List ℕ) → List ℕ
enclosed b ks = opening b ∷ (joined ks ++ (closing b ∷ []))

pub whole-start : (b : Bool) (t : Table) (r : ℕ) (ps : Parts) → is_array t r ≡ b → write (v_seq ps) t r ≡ enclosed b (whole b t r 0 [] ps)
unfolding write sequence_text enclosed whole waiting opening closing brackets braces
whole-start true t r ps h = rw (h, sequence_text)
whole-start false t r ps h = rw (h, sequence_text)

module _ (t : Table) (r i : ℕ) (ks : List (List ℕ)) where
  pub whole-end : (b : Bool) → (b ≡ true → drop_nulls ks ≡ ks) → whole b t r i ks pnil ≡ ks
  unfolding whole element_texts member_texts
  whole-end true h = rw append-nil (drop-last ks (i - length ks) ∙ h refl)
  whole-end false h = append-nil ks

  module _ (l : length ks ≤ i) where
    one_more : (es : List (List ℕ)) → (ks ++ waiting (i - length ks)) ++ (null_text ∷ es) ≡ (ks ++ waiting (suc i - length ks)) ++ es
    one_more es =
        let e : suc i - length ks ≡ suc (i - length ks) = omega arith in
        sym (append_assoc (ks ++ waiting (i - length ks)) (null_text ∷ []) es)
        ∙ ap (λ (xs : List (List ℕ)). xs ++ es) (append_assoc ks (waiting (i - length ks)) (null_text ∷ []) ∙ ap (λ (xs : List (List ℕ)). ks ++ xs) (sym (waiting-more (i - length ks))) ∙ ap (λ (n : ℕ). ks ++ waiting n) (sym e))

    pub whole-absent : (b : Bool) (ps : Parts) → whole b t r i ks (absent ps) ≡ whole b t r (suc i) ks ps
    unfolding whole element_texts member_texts
    whole-absent true ps = ap drop_nulls (one_more (element_texts ps t r (suc i)))
    whole-absent false ps = refl

    pub whole-null : (v : Val) (ps : Parts) → same_bytes (write v t (type_at t r i)) null_text ≡ true → whole true t r i ks (present v ps) ≡ whole true t r (suc i) ks ps
    unfolding whole element_texts
    whole-null v ps h = rw (same_bytes-eq _ _ h) (ap drop_nulls (one_more (element_texts ps t r (suc i))))

    waited_length : length (ks ++ waiting (i - length ks)) ≡ i
    waited_length = omega (arith, length-append ks (waiting (i - length ks)), waiting-length (i - length ks))

    pub after-length : (b : Bool) (s : List ℕ) → length (after b t r i ks s) ≡ kept_after b i (length ks)
    unfolding after kept_after
    after-length true s = omega (arith, length-append (ks ++ waiting (i - length ks)) (s ∷ []), waited_length)
    after-length false s = omega (arith, length-append ks (member_text (name_at t r i) s ∷ []))

    pub whole_part : (b : Bool) (v : Val) (ps : Parts) → whole b t r i ks (present v ps) ≡ whole b t r (suc i) (after b t r i ks (write v t (type_at t r i))) ps
    unfolding whole after element_texts member_texts waiting kept_after
    whole_part true v ps =
        let s = write v t (type_at t r i) in
        let e : suc i - length ((ks ++ waiting (i - length ks)) ++ (s ∷ [])) ≡ 0 = omega (arith, after-length true s) in
        ap drop_nulls (sym (append_assoc (ks ++ waiting (i - length ks)) (s ∷ []) _) ∙ ap (λ (xs : List (List ℕ)). xs ++ element_texts ps t r (suc i)) (sym (append-nil ((ks ++ waiting (i - length ks)) ++ (s ∷ []))) ∙ ap (λ (n : ℕ). ((ks ++ waiting (i - length ks)) ++ (s ∷ [])) ++ waiting n) (sym e)))
    whole_part false v ps = sym (append_assoc ks (member_text (name_at t r i) (write v t (type_at t r i)) ∷ []) _)

    pub lead-joined : (b : Bool) (s : List ℕ) → joined ks ++ (lead b t r i (length ks) ++ s) ≡ joined (after b t r i ks s)
    unfolding lead after name_text member_text
    lead-joined true s =
        let n = length ks in
        ap (λ (x : List ℕ). joined ks ++ x) (append_assoc (nulls n (i - n)) (comma i) s)
        ∙ sym (append_assoc (joined ks) (nulls n (i - n)) (comma i ++ s))
        ∙ ap (λ (x : List ℕ). x ++ (comma i ++ s)) (sym (joined-nulls ks (i - n)))
        ∙ ap (λ (j : ℕ). joined (ks ++ waiting (i - n)) ++ (comma j ++ s)) (sym waited_length)
        ∙ sym (joined-more (ks ++ waiting (i - n)) s)
    lead-joined false s =
        ap (λ (x : List ℕ). joined ks ++ x) (append_assoc (comma (length ks)) (string_text (name_at t r i) ++ (0x3A ∷ [])) s ∙ ap (λ (x : List ℕ). comma (length ks) ++ x) (append_assoc (string_text (name_at t r i)) (0x3A ∷ []) s))
        ∙ sym (joined-more ks (string_text (name_at t r i) ++ (0x3A ∷ s)))

  pub after_kept : (s : List ℕ) → same_bytes s null_text ≡ false → drop_nulls (after true t r i ks s) ≡ after true t r i ks s
  unfolding after
  after_kept s h = kept-last (ks ++ waiting (i - length ks)) s h
