-- Leaves and choices: what an older table makes of them.
use Rattle.jer.specs.declared.Token.{Token}
use Prim.Native.Nat.{ℕ, zero, suc, ◌^◌, ◌≤◌, ◌<◌}
use mathlib.Core.Path.{◌≡◌, refl}
use mathlib.Core.List.{List, [], ◌∷◌}
use mathlib.Core.Bool.{Bool, true, false, ◌&&◌}
use Rattle.std.specs.Prelude.{Option, None, Some}
use native.Mathlib.Omega.{arith}
use lib.Dec.{eqb, ltb, leb}
use borrow.Author.Tests.{lt-ltb, le-ltb}
use Rattle.json_text.specs.Bytes.{Row, on, pick}
use Rattle.jer.specs.declared.Cause.TheVariants.{Unknown}
use Rattle.jer.specs.declared.Refusal.{Refusal}
use Rattle.jer.specs.Table.{Table, ENUMERATED, OCTET-STRING, UTF8String, kind_of, extensible, is_unwrapped, count_of, type_at}
use Rattle.jer.specs.Value.{Val, v_bool, v_int, v_null, v_bytes, v_choice}
use Rattle.jer.specs.Answer.{Res, ok, no, bind, at}
use Rattle.jer.specs.Read.{Meaning, read_int, read_item, read_octets, octets_of, read_string, at_kind, picked, unwrapping}
use Rattle.jer.specs.Cut.{ByAdditions, cut, lacks, cut_chosen, lacks_chosen}
use Rattle.jer.proofs.WeightGot.{cases, refused, got, steps}
use Rattle.jer.proofs.OlderNames.{kind-same, Found, known, added, neither, base64-same, unwrapped-same, position-found, alternative-found}
use Rattle.jer.proofs.OlderAgrees.{reads, unknown, agrees-map, AgreesAt, Follows}

-- a test that refuses either way reads nothing
pub refused-both : {C : Type 0} (c : Bool) (e f : Refusal) {v : Val} → ◌≡◌ {A = Res Val} (elim c [ true ↦ no e | false ↦ no f ]) (ok v) → C
refused-both c e f = cases c (λ w e. refused e) (λ w e. refused e)

-- ---- leaves: both tables read the same value, and there is nothing to cut

module _ (old : Table) (b : ℕ) (v : Val) where
  pub null-agrees : ok v_null ≡ ok v → AgreesAt old b (ok v_null) v
  unfolding cut lacks
  null-agrees e = rw (← got e) reads

  pub bool_agrees : (c : Bool) → ok (v_bool c) ≡ ok v → AgreesAt old b (ok (v_bool c)) v
  unfolding cut lacks
  bool_agrees c e = rw (← got e) reads

  bytes-agree : (s : List ℕ) → ok (v_bytes s) ≡ ok v → AgreesAt old b (ok (v_bytes s)) v
  unfolding cut lacks
  bytes-agree s e = rw (← got e) reads

  octets-agree : (p : ℕ) (x : Option (List ℕ)) → read_octets p x ≡ ok v → AgreesAt old b (read_octets p x) v
  unfolding read_octets
  octets-agree p None e = refused e
  octets-agree p (Some s) e = bytes-agree s e

  number-agrees : (n : ℕ) → ok (v_int n) ≡ ok v → AgreesAt old b (ok (v_int n)) v
  unfolding cut lacks
  number-agrees n e = rw (← got e) reads

  pub int-agrees : (p : ℕ) (minus : Bool) (n : ℕ) → read_int p minus n ≡ ok v → AgreesAt old b (read_int p minus n) v
  unfolding read_int
  int-agrees p false n e = cases (ltb n (2 ^ 63)) (λ w f. rw (w, read_int) (number-agrees _ f)) (λ w f. refused f) e
  int-agrees p true zero e = number-agrees 0 e
  int-agrees p true (suc n) e = cases (leb (suc n) (2 ^ 63)) (λ w f. rw (w, read_int) (number-agrees _ f)) (λ w f. refused f) e

-- two tables of rows with the same ranges
both-pick : {A B : Type 0} (Q : A → B → Type 0) (k lo hi : ℕ) (f : ℕ → A) (g : ℕ → B) (rs : List (Row A)) (us : List (Row B)) (x : A) (y : B)
    → Q (f k) (g k) → Q (pick k rs x) (pick k us y) → Q (pick k (on lo hi f ∷ rs) x) (pick k (on lo hi g ∷ us) y)
unfolding pick
both-pick Q k lo hi f g rs us x y h t = go (leb lo k && leb k hi) refl
  where
    go : (c : Bool) → (leb lo k && leb k hi) ≡ c → Q (pick k (on lo hi f ∷ rs) x) (pick k (on lo hi g ∷ us) y)
    go true w = rw (w, pick) h
    go false w = rw (w, pick) t

no_row : {C : Type 0} (k : ℕ) (e : Refusal) {v : Val} → pick {A = Res Val} k [] (no e) ≡ ok v → C
unfolding pick
no_row k e h = refused h

module _ {new old : Table} {R : ℕ → ℕ → Type 0} (pair : ByAdditions new old R) where
  -- ---- leaves by kind

  pub kind-follows : (k p : ℕ) (x : Res Val) → ((b : ℕ) (v : Val) → x ≡ ok v → AgreesAt old b x v) → Follows old R (λ q. at_kind new q k p x) (λ q. at_kind old q k p x)
  unfolding at_kind
  kind-follows k p x h a b r v e = cases (eqb (kind_of old b) k) (λ w f. rw (w, at_kind) (h b v f)) (λ w f. refused f) (rw (kind-same pair r, at_kind) at e)

  item-agrees : {x y : Option ℕ} (a b p : ℕ) → R a b → Found (count_of old b) (count_of new a) x y → (v : Val) → read_item new a p x ≡ ok v → AgreesAt old b (read_item old b p y) v
  unfolding read_item cut lacks
  item-agrees a b p r (known {i = i} l) v e = rw (← got e) (rw (lt-ltb i (count_of old b) l) reads)
  item-agrees a b p r (added {i = i} l u) v e = rw (← got e) (rw (le-ltb i (count_of old b) l, pair.grown a b r (omega arith), read_item) (unknown p))
  item-agrees a b p r neither v e = refused-both (extensible new a) _ _ e

  octets-same : (a b : ℕ) → R a b → (s : List ℕ) → octets_of new a s ≡ octets_of old b s
  unfolding octets_of
  octets-same a b r s = rw (base64-same pair r, octets_of)

  pub string-follows : (p : ℕ) (s : List ℕ) → Follows old R (read_string new p s) (read_string old p s)
  unfolding read_string
  string-follows p s a b r v =
      let Q : Res Val → Res Val → Type 0 = λ x y. x ≡ ok v → AgreesAt old b y v in
      rw (kind-same pair r)
      (both-pick Q (kind_of old b) ENUMERATED ENUMERATED _ _ _ _ _ _ (item-agrees a b p r (position-found pair r s) v)
      (both-pick Q (kind_of old b) OCTET-STRING OCTET-STRING _ _ _ _ _ _ (rw (octets-same a b r s) (octets-agree old b v p (octets_of old b s)))
      (both-pick Q (kind_of old b) UTF8String UTF8String _ _ _ _ _ _ (bytes-agree old b v s) (no_row (kind_of old b) _))))

  -- ---- choices

  -- an alternative that both have
  pub chosen-known : {m n : Meaning} (a b i : ℕ) → R a b → i < count_of old b → Follows old R m n → (v : Val) → bind (m (type_at new a i)) (λ u. ok (v_choice i u)) ≡ ok v
      → AgreesAt old b (bind (n (type_at old b i)) (λ u. ok (v_choice i u))) v
  unfolding cut lacks cut_chosen lacks_chosen
  chosen-known {m} a b i r l h v e =
      let k = steps (m (type_at new a i)) _ v e in
      let c = lt-ltb i (count_of old b) l in
      rw (← got k.then) (rw c (rw c (agrees-map (v_choice i) (h _ _ (pair.types a b i r l) k.val k.first))))

  -- an alternative that the older one lacks
  pub chosen-added : (b i p : ℕ) → count_of old b ≤ i → (x : Res Val) (v : Val) → bind x (λ u. ok (v_choice i u)) ≡ ok v → AgreesAt old b (at Unknown p) v
  unfolding cut lacks cut_chosen lacks_chosen
  chosen-added b i p l x v e = let c = le-ltb i (count_of old b) l in rw (← got (steps x _ v e).then) (rw c (rw c (unknown p)))

  picked-agrees : {m n : Meaning} {x y : Option ℕ} (a b p : ℕ) → R a b → Follows old R m n → Found (count_of old b) (count_of new a) x y → (v : Val)
      → picked new a p m x ≡ ok v → AgreesAt old b (picked old b p n y) v
  unfolding picked
  picked-agrees a b p r h (known {i = i} l) v e = chosen-known a b i r l h v e
  picked-agrees a b p r h (added {i = i} l u) v e = rw (pair.grown a b r (omega arith), picked) (chosen-added b i p l _ v e)
  picked-agrees a b p r h neither v e = refused-both (extensible new a) _ _ e

  pub unwrapping-follows : {m n : Meaning} (k : Token) (p : ℕ) → Follows old R m n → Follows old R (unwrapping new k p m) (unwrapping old k p n)
  unfolding unwrapping
  unwrapping-follows k p h a b r v e =
      cases (is_unwrapped old b)
      (λ w f. rw (w, unwrapping) (picked-agrees a b p r h (alternative-found pair r k) v f))
      (λ w f. rw (w, unwrapping) (h a b r v f))
      (rw (unwrapped-same pair r, unwrapping) at e)
