-- What is read from a JSON text is a well-formed value.
use Rattle.std.specs.Prelude.{is_some}
use Rattle.jer.specs.declared.Token.{Token}
use Rattle.jer.specs.declared.Token.TheVariants as tok
use Rattle.jer.specs.declared.Carried.{Carried}
use Prim.Native.Nat.{ℕ, zero, suc, ◌+◌, ◌-◌, ◌^◌, ◌<◌}
use mathlib.Core.Path.{◌≡◌, refl}
use mathlib.Core.List.{List, [], ◌∷◌}
use mathlib.Core.Bool.{Bool, true, false, ◌&&◌, not}
use Rattle.std.specs.Prelude.{Option, None, Some}
use native.Mathlib.Omega.{arith}
use lib.Dec.{eqb, ltb, leb}
use borrow.Author.Tests.{ltb-true, eqb-true}
use Rattle.json_text.specs.Tree.{Json, jnull, jbool, jint, jreal, jstr, jarr, jobj, Items, inil, Members, mnil}
use Rattle.json_text.specs.Utf8.{utf8}
use Rattle.json_text.specs.Grammar.{Value, literal_null, literal_true, literal_false, whole, real, string, no_elements, no_members, members, Padded, padded, Elements, last_element, more_elements, Named, last_member, more_members}
use Rattle.json_text.specs.Grammar as grammar
use Rattle.json_text.proofs.SoundRows.{pick-within, only, ◌⨾◌}
use Rattle.jer.specs.Table.{Table, BOOLEAN, INTEGER, ENUMERATED, NULL, OCTET-STRING, SEQUENCE, SEQUENCE-OF, CHOICE, carries, kind_of, marked, extensible, is_base64, is_array, is_unwrapped, element_of, count_of, type_at, name_at, may_miss, same_bytes, position, token_pick, token_of, alternative, open_unwrapped}
use Rattle.jer.specs.Value.{Val, v_null, v_choice, Parts}
use Rattle.jer.specs.declared.Cause.TheVariants.{UnknownName, RepeatedName}
use Rattle.jer.specs.Answer.{Res, ok, no, bind, at}
use Rattle.jer.specs.Octets.{unhex, unbase64}
use Rattle.jer.specs.Read.{Meaning, Element, Entry, read_int, read_item, read_octets, octets_of, read_string, at_kind, picked, unwrapping, lookup, names_good, null_absent, with_absent, with_present, read_member, read_members, read_object, null_value, missing_element, read_element, surplus, read_elements, read_items, read_array, read_chosen, read_choice, read_braces, read, elements, entries}
use Rattle.jer.specs.Fits.{Octets, Fits, f_leaf, f_bool, f_int, f_enum, f_null, f_octets, f_text, f_seq, f_list, f_wrapped, f_unwrapped, FitsItems, no_item, item, FitsParts, no_member, absent_member, present_member}
use Rattle.jer.specs.Sane.{Sane}
use Rattle.jer.proofs.Absent.{left-absent}
use Rattle.jer.proofs.ValidLaws.{position_some, alternative-some}
use Rattle.jer.proofs.ValidRows.{both, array_kind}
use Rattle.jer.proofs.JudgeUtf8.{quoted-utf8}
use Rattle.jer.proofs.JudgeOctets.{Holds, unhex-octets, unbase64-octets}

-- ---- results

-- P of the result, if it is none of the refusals
abbrev pub Gives : {A : Type 0} → (A → Type 0) → Res A → Type 0
Gives P (ok a) = P a
Gives P (no e) = Unit {0}

pub gives-ok : {A : Type 0} (P : A → Type 0) (x : Res A) (a : A) → Gives P x → x ≡ ok a → P a
gives-ok P x a h e = rw e at h

gives-bind : {A B : Type 0} (P : A → Type 0) (Q : B → Type 0) (x : Res A) (f : A → Res B) → Gives P x → ((a : A) → P a → Gives Q (f a)) → Gives Q (bind x f)
unfolding bind
gives-bind P Q (ok a) f h k = k a h
gives-bind P Q (no e) f h k = tt

gives_if : {A : Type 0} (P : A → Type 0) (c : Bool) (x y : Res A) → (c ≡ true → Gives P x) → (c ≡ false → Gives P y) → Gives P (elim c [ true ↦ x | false ↦ y ])
gives_if P true x y h k = h refl
gives_if P false x y h k = k refl

-- ---- leaves

module _ (t : Table) (d : ℕ) where
  at-kind : (r k p : ℕ) (x : Res Val) → (kind_of t r ≡ k → Gives (Fits t d r) x) → Gives (Fits t d r) (at_kind t r k p x)
  unfolding at_kind
  at-kind r k p x h = gives_if (Fits t d r) (eqb (kind_of t r) k) _ _ (λ e. h (eqb-true _ _ e)) (λ e. tt)

  int-fits : (r p : ℕ) (m : Bool) (n : ℕ) → kind_of t r ≡ INTEGER → Gives (Fits t d r) (read_int p m n)
  unfolding read_int
  int-fits r p false n k = gives_if (Fits t d r) (ltb n (2 ^ 63)) _ _ (λ e. let l : n < 2 ^ 64 = omega (arith, ltb-true) in f_leaf (f_int k l)) (λ e. tt)
  int-fits r p true zero k = let l : 0 < 2 ^ 64 = omega arith in f_leaf (f_int k l)
  int-fits r p true (suc n) k = gives_if (Fits t d r) (leb (suc n) (2 ^ 63)) _ _ (λ e. let l : 2 ^ 64 - suc n < 2 ^ 64 = omega arith in f_leaf (f_int k l)) (λ e. tt)

  item-fits : (r p : ℕ) (s : List ℕ) → kind_of t r ≡ ENUMERATED → Gives (Fits t d r) (read_item t r p (position t r s))
  unfolding read_item
  item-fits r p s k = go (position t r s) refl
    where
      go : (x : Option ℕ) → position t r s ≡ x → Gives (Fits t d r) (read_item t r p x)
      go None e = gives_if (Fits t d r) (extensible t r) _ _ (λ c. tt) (λ c. tt)
      go (Some i) e = f_leaf (f_enum k (position_some t r s i e).0)

  octets-fits : (r p : ℕ) (s : List ℕ) → kind_of t r ≡ OCTET-STRING → Gives (Fits t d r) (read_octets p (octets_of t r s))
  unfolding read_octets octets_of
  octets-fits r p s k = go (is_base64 t r)
    where
      of : (x : Option (List ℕ)) → Holds Octets x → Gives (Fits t d r) (read_octets p x)
      of None h = tt
      of (Some os) h = f_leaf (f_octets k h)

      go : (c : Bool) → Gives (Fits t d r) (read_octets p (elim c [ true ↦ unbase64 s | false ↦ unhex s ]))
      go true = of (unbase64 s) (unbase64-octets s)
      go false = of (unhex s) (unhex-octets s)

  string-fits : (p : ℕ) (s : List ℕ) → utf8 s ≡ true → (r : ℕ) → Gives (Fits t d r) (read_string t p s r)
  unfolding read_string
  string-fits p s u r =
      pick-within (Gives (Fits t d r)) (kind_of t r) _ _
      ((λ i. item-fits r p s (only i)) ⨾ (λ i. octets-fits r p s (only i)) ⨾ (λ i. f_leaf (f_text (only i) u)) ⨾ tt)
      tt

-- ---- null

null-plain : (k : ℕ) → (carries k).token ≡ Some tok.Null → k ≡ NULL
unfolding carries
null-plain k =
    pick-within (λ (x : Carried). x.token ≡ Some tok.Null → k ≡ NULL) k _ _
    ((λ i e. cc) ⨾ (λ i e. cc) ⨾ (λ i e. cc) ⨾ (λ i e. only i) ⨾ (λ i e. cc) ⨾ (λ i e. cc) ⨾ (λ i e. cc) ⨾ (λ i e. cc) ⨾ (λ i e. cc) ⨾ (λ i e. cc) ⨾ tt)
    (λ e. cc)

null-marked : (k : ℕ) → (carries k).other ≡ Some tok.Null → k ≡ NULL
unfolding carries
null-marked k =
    pick-within (λ (x : Carried). x.other ≡ Some tok.Null → k ≡ NULL) k _ _
    ((λ i e. cc) ⨾ (λ i e. cc) ⨾ (λ i e. cc) ⨾ (λ i e. only i) ⨾ (λ i e. cc) ⨾ (λ i e. cc) ⨾ (λ i e. cc) ⨾ (λ i e. cc) ⨾ (λ i e. cc) ⨾ (λ i e. cc) ⨾ tt)
    (λ e. cc)

pub null-kind : (t : Table) (r : ℕ) → token_of t r ≡ Some tok.Null → kind_of t r ≡ NULL
unfolding token_of token_pick
null-kind t r = go (marked t r 1)
  where
    go : (b : Bool) → token_pick b (carries (kind_of t r)).other (carries (kind_of t r)).token ≡ Some tok.Null → kind_of t r ≡ NULL
    go true e = null-marked (kind_of t r) e
    go false e = null-plain (kind_of t r) e

null-value : (t : Table) (d r : ℕ) → Holds (Fits t d r) (null_value t r)
unfolding null_value
null-value t d r = go (is_unwrapped t r) refl
  where
    chosen : (x : Option ℕ) → is_unwrapped t r ≡ true → alternative t r tok.Null ≡ x → Holds (Fits t d r) (elim x as (λ _. Option Val) [ None ↦ None | Some i ↦ Some (v_choice i v_null) ])
    chosen None c e = tt
    chosen (Some i) c e = let a = alternative-some t r tok.Null i e in f_unwrapped c a.0 (f_leaf (f_null (null-kind t (type_at t r i) a.1)))

    itself : (c : Bool) → eqb (kind_of t r) NULL ≡ c → Holds (Fits t d r) (elim c as (λ _. Option Val) [ true ↦ Some v_null | false ↦ None ])
    itself true e = f_leaf (f_null (eqb-true _ _ e))
    itself false e = tt

    go : (c : Bool) → is_unwrapped t r ≡ c → Holds (Fits t d r) (null_value t r)
    go true c = rw (c, null_value) (chosen (alternative t r tok.Null) c refl)
    go false c = rw (c, null_value) (itself (eqb (kind_of t r) NULL) refl)

-- ---- parts

module _ (t : Table) (d : ℕ) where
  -- every value that the meaning has is well formed
  abbrev pub Means : Meaning → Type 0
  Means m = (r : ℕ) → Gives (Fits t d r) (m r)

  pub data AllElements : List Element → Type 0 where
    no_element : AllElements []
    element : {e : Element} {es : List Element} → Means e.means → AllElements es → AllElements (e ∷ es)

  abbrev pub EntryMeans : Entry → Type 0
  EntryMeans e = Means e.means

  pub data AllEntries : List Entry → Type 0 where
    no_entry : AllEntries []
    entry : {e : Entry} {es : List Entry} → EntryMeans e → AllEntries es → AllEntries (e ∷ es)

  absent-fits : (r i : ℕ) (rest : Res Parts) → i < count_of t r → may_miss t r i ≡ true → Gives (FitsParts t d r (suc i)) rest → Gives (FitsParts t d r i) (with_absent rest)
  unfolding with_absent
  absent-fits r i rest l m h = gives-bind (FitsParts t d r (suc i)) (FitsParts t d r i) rest _ h (λ ps f. absent_member l (left-absent t r i m) f)

  present-fits : (r i : ℕ) (v : Res Val) (rest : Res Parts) → i < count_of t r → Gives (Fits t d (type_at t r i)) v → Gives (FitsParts t d r (suc i)) rest → Gives (FitsParts t d r i) (with_present v rest)
  unfolding with_present
  present-fits r i v rest l h k =
      gives-bind (Fits t d (type_at t r i)) (FitsParts t d r i) v _ h
      (λ w f. gives-bind (FitsParts t d r (suc i)) (FitsParts t d r i) rest _ k (λ ps fs. present_member l f fs))

  -- ---- arrays

  items-fit : (r : ℕ) (es : List Element) → AllElements es → Gives (FitsItems t d r) (read_items es r)
  unfolding read_items
  items-fit r [] h = no_item
  items-fit r (e ∷ es) (element m h) =
      gives-bind (Fits t d r) (FitsItems t d r) (e.means r) _ (m r) (λ v f. gives-bind (FitsItems t d r) (FitsItems t d r) (read_items es r) _ (items-fit r es h) (λ vs fs. item f fs))

  missing-fits : (r o i : ℕ) → Gives (Fits t d (type_at t r i)) (missing_element t r o i)
  unfolding missing_element
  missing-fits r o i = go (null_value t (type_at t r i)) refl (null-value t d (type_at t r i))
    where
      go : (x : Option Val) → null_value t (type_at t r i) ≡ x → Holds (Fits t d (type_at t r i)) x → Gives (Fits t d (type_at t r i)) (missing_element t r o i)
      go (Some v) e h = rw (e, missing_element) h
      go None e h = rw (e, missing_element) (gives_if (Fits t d (type_at t r i)) (open_unwrapped t (type_at t r i)) _ _ (λ c. tt) (λ c. tt))

  surplus-fits : (r i : ℕ) (es : List Element) → i ≡ count_of t r → Gives (FitsParts t d r i) (surplus t r es)
  unfolding surplus
  surplus-fits r i [] l = no_member l
  surplus-fits r i (e ∷ es) l = gives_if (FitsParts t d r i) (extensible t r) _ _ (λ c. no_member l) (λ c. tt)

  no-element : (r o i : ℕ) (rest : Res Parts) → i < count_of t r → Gives (FitsParts t d r (suc i)) rest → Gives (FitsParts t d r i) (read_element t r o i None rest)
  unfolding read_element
  no-element r o i rest l h = gives_if (FitsParts t d r i) (may_miss t r i) _ _ (λ m. absent-fits r i rest l m h) (λ m. present-fits r i _ rest l (missing-fits r o i) h)

  an_element : (r o i : ℕ) (e : Element) (rest : Res Parts) → i < count_of t r → Means e.means → Gives (FitsParts t d r (suc i)) rest → Gives (FitsParts t d r i) (read_element t r o i (Some e) rest)
  unfolding read_element
  an_element r o i e rest l m h =
      gives_if (FitsParts t d r i) (e.is_null && may_miss t r i) _ _ (λ c. let p = simp both at c in absent-fits r i rest l p.1 h) (λ c. present-fits r i _ rest l (m (type_at t r i)) h)

  elements-fit : (r o : ℕ) (es : List Element) (i n : ℕ) → i + n ≡ count_of t r → AllElements es → Gives (FitsParts t d r i) (read_elements t r o es i n)
  unfolding read_elements
  elements-fit r o es i zero e h = surplus-fits r i es (omega arith)
  elements-fit r o [] i (suc n) e h = no-element r o i _ (omega arith) (elements-fit r o [] (suc i) n (omega arith) no_element)
  elements-fit r o (x ∷ es) i (suc n) e (element m h) = an_element r o i x _ (omega arith) m (elements-fit r o es (suc i) n (omega arith) h)

  array-fits : (o : ℕ) (es : List Element) → AllElements es → (r : ℕ) → Gives (Fits t (suc d) r) (read_array t o es r)
  unfolding read_array
  array-fits o es h r =
      gives_if (Fits t (suc d) r) (eqb (kind_of t r) SEQUENCE-OF) _ _
      (λ c. gives-bind (FitsItems t d (element_of t r)) (Fits t (suc d) r) _ _ (items-fit (element_of t r) es h) (λ vs f. f_list (eqb-true _ _ c) f))
      (λ _. gives_if (Fits t (suc d) r) (is_array t r) _ _
      (λ c. gives-bind (FitsParts t d r 0) (Fits t (suc d) r) _ _ (elements-fit r o es 0 (count_of t r) (omega arith) h) (λ ps f. f_seq (array_kind t r c) f))
      (λ c. tt))

  -- ---- objects

  lookup-means : (s : List ℕ) (es : List Entry) → AllEntries es → Holds EntryMeans (lookup s es)
  unfolding lookup
  lookup-means s [] h = tt
  lookup-means s (e ∷ es) (entry m h) = go (same_bytes e.name s) (lookup-means s es h)
    where
      go : (c : Bool) → Holds EntryMeans (lookup s es) → Holds EntryMeans (elim c as (λ _. Option Entry) [ true ↦ Some e | false ↦ lookup s es ])
      go true k = m
      go false k = k

  names-fit : (r : ℕ) (met es : List Entry) → AllEntries met → AllEntries es → Gives AllEntries (names_good t r met es)
  unfolding names_good
  names-fit r met [] h k = h
  names-fit r met (e ∷ es) h (entry m k) = go (position t r e.name) (names-fit r met es h k) (names-fit r (e ∷ met) es (entry m h) k)
    where
      go : (x : Option ℕ) → Gives AllEntries (names_good t r met es) → Gives AllEntries (names_good t r (e ∷ met) es) → Gives AllEntries (elim x as (λ _. Res (List Entry)) [
        | None ↦ elim (extensible t r) [ true ↦ names_good t r met es | false ↦ at UnknownName e.place ]
        | Some i ↦ elim (is_some (lookup e.name met)) [ true ↦ at RepeatedName e.place | false ↦ names_good t r (e ∷ met) es ]
      ])
      go None a b = gives_if AllEntries (extensible t r) _ _ (λ c. a) (λ c. tt)
      go (Some i) a b = gives_if AllEntries (is_some (lookup e.name met)) _ _ (λ c. tt) (λ c. b)

  null-absent : (r i : ℕ) → null_absent t r i ≡ true → may_miss t r i ≡ true
  unfolding null_absent may_miss
  null-absent r i e = rw (simp both at e).0

  member-fits : (r o i : ℕ) (x : Option Entry) (rest : Res Parts) → i < count_of t r → Holds EntryMeans x → Gives (FitsParts t d r (suc i)) rest → Gives (FitsParts t d r i) (read_member t r o i x rest)
  unfolding read_member
  member-fits r o i None rest l m h = gives_if (FitsParts t d r i) (may_miss t r i) _ _ (λ c. absent-fits r i rest l c h) (λ c. tt)
  member-fits r o i (Some e) rest l m h =
      gives_if (FitsParts t d r i) (e.is_null && null_absent t r i) _ _ (λ c. let p = simp both at c in absent-fits r i rest l (null-absent r i p.1) h) (λ c. present-fits r i _ rest l (m (type_at t r i)) h)

  members-fit : (r o : ℕ) (es : List Entry) (i n : ℕ) → i + n ≡ count_of t r → AllEntries es → Gives (FitsParts t d r i) (read_members t r o es i n)
  unfolding read_members
  members-fit r o es i zero e h = let l : i ≡ count_of t r = omega arith in no_member l
  members-fit r o es i (suc n) e h = member-fits r o i _ _ (omega arith) (lookup-means (name_at t r i) es h) (members-fit r o es (suc i) n (omega arith) h)

  object-fits : (o : ℕ) (es : List Entry) → AllEntries es → (r : ℕ) → kind_of t r ≡ SEQUENCE → Gives (Fits t (suc d) r) (read_object t o es r)
  unfolding read_object
  object-fits o es h r k =
      gives-bind AllEntries (Fits t (suc d) r) _ _ (names-fit r [] es no_entry h)
      (λ met m. gives-bind (FitsParts t d r 0) (Fits t (suc d) r) _ _ (members-fit r o met 0 (count_of t r) (omega arith) m) (λ ps f. f_seq k f))

  -- ---- choices

  chosen-fits : (r o : ℕ) (e : Entry) → EntryMeans e → kind_of t r ≡ CHOICE → is_unwrapped t r ≡ false → Gives (Fits t (suc d) r) (read_chosen t r o e (position t r e.name))
  unfolding read_chosen
  chosen-fits r o e m k c = go (position t r e.name) refl
    where
      go : (x : Option ℕ) → position t r e.name ≡ x → Gives (Fits t (suc d) r) (read_chosen t r o e x)
      go None w = gives_if (Fits t (suc d) r) (extensible t r) _ _ (λ _. tt) (λ _. tt)
      go (Some i) w = gives-bind (Fits t d (type_at t r i)) (Fits t (suc d) r) _ _ (m (type_at t r i)) (λ v f. f_wrapped k c (position_some t r e.name i w).0 f)

  choice-fits : (r o : ℕ) (es : List Entry) → AllEntries es → kind_of t r ≡ CHOICE → is_unwrapped t r ≡ false → Gives (Fits t (suc d) r) (read_choice t r o es)
  unfolding read_choice
  choice-fits r o [] h k c = tt
  choice-fits r o (e ∷ []) (entry m h) k c = chosen-fits r o e m k c
  choice-fits r o (e ∷ f ∷ es) h k c = tt

  braces-fit : (o : ℕ) (es : List Entry) → AllEntries es → (r : ℕ) → is_unwrapped t r ≡ false → Gives (Fits t (suc d) r) (read_braces t o es r)
  unfolding read_braces
  braces-fit o es h r c =
      gives_if (Fits t (suc d) r) (eqb (kind_of t r) CHOICE) _ _ (λ k. choice-fits r o es h (eqb-true _ _ k) c)
      (λ _. gives_if (Fits t (suc d) r) (eqb (kind_of t r) SEQUENCE && not (is_array t r)) _ _ (λ k. let p = simp both at k in object-fits o es h r (eqb-true _ _ p.0)) (λ _. tt))

-- ---- trees

module _ (t : Table) (g : Sane t) where
  -- what a token means at the types that are not UNWRAPPED, it means at each
  unwrapping-fits : (d : ℕ) (k : Token) (p : ℕ) (plain : Meaning) → ((r : ℕ) → is_unwrapped t r ≡ false → Gives (Fits t d r) (plain r)) → Means t d (unwrapping t k p plain)
  unfolding unwrapping picked
  unwrapping-fits d k p plain h r =
      gives_if (Fits t d r) (is_unwrapped t r) _ _ (λ c. go c (alternative t r k) refl) (λ c. h r c)
    where
      go : is_unwrapped t r ≡ true → (x : Option ℕ) → alternative t r k ≡ x → Gives (Fits t d r) (picked t r p plain x)
      go c None w = gives_if (Fits t d r) (extensible t r) _ _ (λ _. tt) (λ _. tt)
      go c (Some i) w =
          let l = (alternative-some t r k i w).0 in
          gives-bind (Fits t d (type_at t r i)) (Fits t d r) _ _ (h (type_at t r i) (g.plain r i c l)) (λ v f. f_unwrapped c l f)

  null-read : (d p : ℕ) → Means t d (read (jnull p) t)
  unfolding read
  null-read d p = unwrapping-fits d tok.Null p _ (λ r c. at-kind t d r NULL p _ (λ k. f_leaf (f_null k)))

  bool_read : (d p : ℕ) (b : Bool) → Means t d (read (jbool p b) t)
  unfolding read
  bool_read d p b = unwrapping-fits d tok.Boolean p _ (λ r c. at-kind t d r BOOLEAN p _ (λ k. f_leaf (f_bool k)))

  int-read : (d p : ℕ) (m : Bool) (n : ℕ) → Means t d (read (jint p m n) t)
  unfolding read
  int-read d p m n = unwrapping-fits d tok.Number p _ (λ r c. at-kind t d r INTEGER p _ (λ k. int-fits t d r p m n k))

  real_read : (d p : ℕ) → Means t d (read (jreal p) t)
  unfolding read
  real_read d p = unwrapping-fits d tok.Number p _ (λ r c. at-kind t d r INTEGER p _ (λ k. tt))

  string-read : (d p : ℕ) (s : List ℕ) → utf8 s ≡ true → Means t d (read (jstr p s) t)
  unfolding read
  string-read d p s u = unwrapping-fits d tok.String p _ (λ r c. string-fits t d p s u r)

  array-read : (d p : ℕ) (is : Items) → AllElements t d (elements is t) → Means t (suc d) (read (jarr p is) t)
  unfolding read
  array-read d p is h = unwrapping-fits (suc d) tok.Array p _ (λ r c. array-fits t d p (elements is t) h r)

  braces-read : (d p : ℕ) (ms : Members) → AllEntries t d (entries ms t) → Means t (suc d) (read (jobj p ms) t)
  unfolding read
  braces-read d p ms h = unwrapping-fits (suc d) tok.Object p _ (λ r c. braces-fit t d p (entries ms t) h r c)

  mutual
    unfolding elements

    value-means : {d p : ℕ} {j : Json} {bs : List ℕ} → Value d p j bs → Means t d (read j t)
    value-means literal_null = null-read _ _
    value-means literal_true = bool_read _ _ true
    value-means literal_false = bool_read _ _ false
    value-means (whole s) = int-read _ _ _ _
    value-means (real s b e) = real_read _ _
    value-means (string q) = string-read _ _ _ (quoted-utf8 q)
    value-means (no_elements s e) = array-read _ _ inil no_element
    value-means (grammar.elements {is = is} h) = array-read _ _ is (elements_mean h)
    value-means (no_members s e) = braces-read _ _ mnil no_entry
    value-means (members {ms = ms} h) = braces-read _ _ ms (members_mean h)

    padded-means : {d p : ℕ} {j : Json} {bs : List ℕ} → Padded d p j bs → Means t d (read j t)
    padded-means (padded x q v z e) = value-means v

    elements_mean : {d p : ℕ} {is : Items} {bs : List ℕ} → Elements d p is bs → AllElements t d (elements is t)
    elements_mean (last_element h e) = element (padded-means h) no_element
    elements_mean (more_elements h q r e) = element (padded-means h) (elements_mean r)

    members_mean : {d p : ℕ} {ms : Members} {bs : List ℕ} → Named d p ms bs → AllEntries t d (entries ms t)
    members_mean (last_member n h e) = entry (padded-means h) no_entry
    members_mean (more_members n h o r e) = entry (padded-means h) (members_mean r)

  -- what the tree of a JSON value with at most d open brackets gives at a type fits the type with as many
  pub read_fits : {d p : ℕ} {j : Json} {bs : List ℕ} → Value d p j bs → (r : ℕ) (v : Val) → read j t r ≡ ok v → Fits t d r v
  read_fits {d = d} {j = j} h r v e = gives-ok (Fits t d r) (read j t r) v (value-means h r) e

  -- with white space around it
  pub text-fits : {d p : ℕ} {j : Json} {bs : List ℕ} → Padded d p j bs → (r : ℕ) (v : Val) → read j t r ≡ ok v → Fits t d r v
  text-fits (padded x q h z e) = read_fits h
