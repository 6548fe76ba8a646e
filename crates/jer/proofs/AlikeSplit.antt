-- A text that splits before and after a value in it, and what it is with another value there.
use Prim.Native.Nat.{ℕ, suc, ◌+◌}
use mathlib.Core.Path.{◌≡◌, refl, sym, ◌∙◌}
use mathlib.Core.List.{List, [], ◌∷◌, ◌++◌, append_assoc}
use native.Mathlib.Omega.{arith}
use Rattle.json_text.specs.Bytes.{past}
use Rattle.json_text.specs.Tree.{Json, Items, inil, icons, Members, mnil, mcons}
use Rattle.json_text.specs.Grammar.{Value, Padded, padded, Elements, last_element, more_elements, Named, last_member, more_members, Name, name}
use Rattle.json_text.proofs.SoundRows.{past_append}
use Rattle.jer.specs.Moved as moved
use Rattle.jer.specs.Moved.{Moved, MovedItems, MovedMembers}
use Rattle.jer.proofs.AlikeElsewhere.{Made, value-at, padded-at, elements-at, named-at}

-- The bytes bs at p have the value i in them; with another value of m brackets there, they are as Instead says.
pub record Split (i : Json) (p : ℕ) (bs : List ℕ) (Instead : ℕ → List ℕ → Type 0) : Type 0 where
  pub before : List ℕ
  pub spelled : List ℕ
  pub after : List ℕ
  pub brackets : ℕ
  pub whole : bs ≡ before ++ (spelled ++ after)
  pub value : Value brackets (past p before) i spelled
  pub instead : (m : ℕ) (j : Json) (y : List ℕ) → Value m (past p before) j y → Instead m (before ++ (y ++ after))

-- bytes before that do not change
pub behind : {i : Json} {p : ℕ} {xs bs : List ℕ} {I J : ℕ → List ℕ → Type 0} (lead : List ℕ) → bs ≡ lead ++ xs → Split i (past p lead) xs I → ((m : ℕ) (cs : List ℕ) → I m cs → J m (lead ++ cs))
    → Split i p bs J
behind {p = p} lead e h f =
    record {
      before = lead ++ h.before;
      spelled = h.spelled;
      after = h.after;
      brackets = h.brackets;
      whole = e ∙ rw h.whole (sym (append_assoc lead _ _));
      value = rw (past_append p lead h.before) h.value;
      instead = λ m j y v. rw append_assoc (f m _ (h.instead m j y (rw (past_append p lead h.before) at v)));
    }

-- bytes after, of which what they spell may move
pub before : {i : Json} {p : ℕ} {xs bs : List ℕ} {I J : ℕ → List ℕ → Type 0} (ws : List ℕ) → bs ≡ xs ++ ws → Split i p xs I → ((m : ℕ) (cs : List ℕ) → I m cs → J m (cs ++ ws)) → Split i p bs J
before {J = J} ws e h f =
    record {
      before = h.before;
      spelled = h.spelled;
      after = h.after ++ ws;
      brackets = h.brackets;
      whole = e ∙ rw h.whole (simp append_assoc);
      value = h.value;
      instead = λ m j y v. rw (sym (append_assoc y h.after ws)) (rw (sym (append_assoc h.before (y ++ h.after) ws)) (f m _ (h.instead m j y v)));
    }

-- ---- a value with white space around it

-- any tree that has the text
abbrev pub AnyPadded : ℕ → ℕ → ℕ → List ℕ → Type 0
AnyPadded d p m cs = Made (λ k. Padded (m + d) p k cs) (λ k. Unit {0})

pub padded-split : {d p : ℕ} {i : Json} {bs : List ℕ} → Padded d p i bs → Split i p bs (AnyPadded d p)
padded-split {d} {p} (padded {xs = xs} {ys = ys} {zs = zs} x e v z f) =
    record {
      before = xs;
      spelled = ys;
      after = zs;
      brackets = d;
      whole = f;
      value = rw e at v;
      instead = λ m j y w. let u = value-at d w (past p xs) in record { tree = _; text = padded x refl (rw (plus d m) at u.text) z refl; like = tt };
    }
  where
    plus : (m d : ℕ) → m + d ≡ d + m
    plus m d = omega arith

-- ---- elements and members: the first one, and those after it

pub record First (d p : ℕ) (j : Json) (is : Items) (bs : List ℕ) : Type 0 where
  pub element : List ℕ
  pub rest : List ℕ
  pub whole : bs ≡ element ++ rest
  pub text : Padded d p j element
  pub again : (m : ℕ) (k : Json) (cs : List ℕ) → Padded (m + d) p k cs → Made (λ js. Elements (m + d) p (icons k js) (cs ++ rest)) (λ js. MovedItems is js)

pub first-element : {d p : ℕ} {j : Json} {is : Items} {bs : List ℕ} → Elements d p (icons j is) bs → First d p j is bs
first-element (last_element {xs = xs} v e) =
    record { element = xs; rest = 0x5D ∷ []; whole = e; text = v; again = λ m k cs w. record { tree = inil; text = last_element w refl; like = moved.no_item } }
first-element (more_elements {p = p} {xs = xs} {ys = ys} v f x e) =
    record {
      element = xs;
      rest = 0x2C ∷ ys;
      whole = e;
      text = v;
      again = λ m k cs w. let y = elements-at m x (suc (past p cs)) in record { tree = _; text = more_elements w refl y.text refl; like = y.like };
    }

-- the place after bytes and a comma
after-comma : (p : ℕ) (xs : List ℕ) → past p (xs ++ (0x2C ∷ [])) ≡ suc (past p xs)
unfolding past
after-comma p xs = past_append p xs (0x2C ∷ [])

pub record Later (d p : ℕ) (j : Json) (is : Items) (bs : List ℕ) : Type 0 where
  pub lead : List ℕ
  pub rest : List ℕ
  pub whole : bs ≡ lead ++ rest
  pub text : Elements d (past p lead) is rest
  pub again : (m : ℕ) (js : Items) (cs : List ℕ) → Elements (m + d) (past p lead) js cs → Made (λ k. Elements (m + d) p (icons k js) (lead ++ cs)) (λ k. Moved j k)

pub later-elements : {d p : ℕ} {j : Json} {is : Items} {bs : List ℕ} → (is ≡ inil → ⊥) → Elements d p (icons j is) bs → Later d p j is bs
later-elements n (last_element v e) = absurd (n refl)
later-elements n (more_elements {p = p} {xs = xs} {ys = ys} v f x e) =
    record {
      lead = xs ++ (0x2C ∷ []);
      rest = ys;
      whole = e ∙ sym (append_assoc xs (0x2C ∷ []) ys);
      text = rw (f ∙ sym (after-comma p xs)) at x;
      again = λ m js cs w. let y = padded-at m v p in record { tree = _; text = more_elements y.text (after-comma p xs) w (append_assoc xs (0x2C ∷ []) cs); like = y.like };
    }

-- the name, its value, and what follows
pub record FirstMember (d p q : ℕ) (s : List ℕ) (j : Json) (ms : Members) (bs : List ℕ) : Type 0 where
  pub lead : List ℕ
  pub element : List ℕ
  pub rest : List ℕ
  pub whole : bs ≡ lead ++ (element ++ rest)
  pub text : Padded d (past p lead) j element
  pub again : (m : ℕ) (k : Json) (cs : List ℕ) → Padded (m + d) (past p lead) k cs → Made (λ ns. Named (m + d) p (mcons q s k ns) (lead ++ (cs ++ rest))) (λ ns. MovedMembers ms ns)

-- a name ends after its bytes
name-end : {p q r : ℕ} {s bs : List ℕ} → Name p q r s bs → r ≡ past p bs
name-end (name x e y z f g) = g

pub first_member : {d p q : ℕ} {s : List ℕ} {j : Json} {ms : Members} {bs : List ℕ} → Named d p (mcons q s j ms) bs → FirstMember d p q s j ms bs
first_member (last_member {xs = xs} {ys = ys} n v e) =
    let g = name-end n in
    record {
      lead = xs;
      element = ys;
      rest = 0x7D ∷ [];
      whole = e;
      text = rw g at v;
      again = λ m k cs w. record { tree = mnil; text = last_member (rw g at n) w refl; like = moved.no_member };
    }
first_member (more_members {p = p} {xs = xs} {ys = ys} {zs = zs} n v f x e) =
    let g = name-end n in
    record {
      lead = xs;
      element = ys;
      rest = 0x2C ∷ zs;
      whole = e;
      text = rw g at v;
      again = λ m k cs w. let y = named-at m x (suc (past (past p xs) cs)) in record { tree = _; text = more_members (rw g at n) w refl y.text refl; like = y.like };
    }

pub record LaterMembers (d p q : ℕ) (s : List ℕ) (j : Json) (ms : Members) (bs : List ℕ) : Type 0 where
  pub lead : List ℕ
  pub rest : List ℕ
  pub whole : bs ≡ lead ++ rest
  pub text : Named d (past p lead) ms rest
  pub again : (m : ℕ) (ns : Members) (cs : List ℕ) → Named (m + d) (past p lead) ns cs → Made (λ k. Named (m + d) p (mcons q s k ns) (lead ++ cs)) (λ k. Moved j k)

regroup : (xs ys zs : List ℕ) → (xs ++ (ys ++ (0x2C ∷ []))) ++ zs ≡ xs ++ (ys ++ (0x2C ∷ zs))
regroup xs ys zs = simp append_assoc

pub later-members : {d p q : ℕ} {s : List ℕ} {j : Json} {ms : Members} {bs : List ℕ} → (ms ≡ mnil → ⊥) → Named d p (mcons q s j ms) bs → LaterMembers d p q s j ms bs
later-members h (last_member n v e) = absurd (h refl)
later-members h (more_members {p = p} {r = r} {xs = xs} {ys = ys} {zs = zs} n v f x e) =
    let g = name-end n in
    let o : past p (xs ++ (ys ++ (0x2C ∷ []))) ≡ suc (past r ys) = past_append p xs _ ∙ rw (← g) (after-comma r ys) in
    record {
      lead = xs ++ (ys ++ (0x2C ∷ []));
      rest = zs;
      whole = e ∙ sym (regroup xs ys zs);
      text = rw (f ∙ sym o) at x;
      again = λ m ns cs w. let y = padded-at m v r in record { tree = _; text = more_members n y.text o w (regroup xs ys cs); like = y.like };
    }
