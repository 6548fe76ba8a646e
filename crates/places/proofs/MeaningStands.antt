-- A value, the elements of an array and the members of an object as they stand in a text, by the places that typed reading meets.
use Prim.Native.Nat.{ℕ, suc, ◌+◌, ◌≤◌}
use mathlib.Core.Path.{◌≡◌, refl, sym, ◌∙◌}
use mathlib.Core.List.{List, [], ◌∷◌, ◌++◌, append_assoc}
use mathlib.Core.Bool.{Bool, true, false, ◌||◌}
use native.Mathlib.Numerals.{add-one}
use native.Mathlib.Omega.{arith}
use borrow.Author.Tests.{eq-eqb}
use lib.Dec.{eqb}
use lib.ListN.{length, drop, length-append}
use Rattle.json_text.specs.Bytes.{past}
use Rattle.json_text.specs.Tree.{Json, Items, inil, icons, Members, mnil, mcons}
use Rattle.json_text.specs.Grammar.{Space, no_space, Quoted, Value, string, Padded, padded, Elements, last_element, more_elements, Named, last_member, more_members, Name, name}
use Rattle.tokens.specs.Places.{byte_at, is_space, past_space}
use Rattle.tokens.specs.Strings.{denoted}
use Rattle.tokens.specs.Skip.{is_closing, parts_past, past_value}
use Rattle.tokens.proofs.TiePlace.{byte_here, drop-next, drop_past, past_append, length-left}
use Rattle.tokens.proofs.TieSpace.{Stops, before, space-passed, EndsHere, space-ends}
use Rattle.tokens.proofs.TieString.{quoted-read}
use Rattle.tokens.proofs.TieFirst.{FirstByte, first_byte, first-opens, value-stops}
use Rattle.tokens.proofs.TieSkip.{value-passed, elements-passed}
use Rattle.places.specs.ByPlaces.{Follows, Part, Shut, after_part, first_part, value_place}

-- in the text s the value j, in which at most d brackets are open at one time, stands at p and ends at q
pub record Stands (d : ℕ) (s : List ℕ) (j : Json) (p q : ℕ) : Type 0 where
  pub bytes : List ℕ
  pub rest : List ℕ
  pub value : Value d p j bytes
  pub text : drop p s ≡ bytes ++ rest
  pub ends : EndsHere rest
  pub end : past p bytes ≡ q

pub stands-passed : {d p q : ℕ} {j : Json} {s : List ℕ} → Stands d s j p q → past_value d s p ≡ q
stands-passed {s = s} k = value-passed s k.rest k.value k.text k.ends ∙ k.end

-- from f on these elements stand, and the place q follows their bracket
pub data Listed (d : ℕ) (s : List ℕ) : Follows → Items → ℕ → Type 0 where
  no_item : {q : ℕ} → Listed d s (Shut q) inil q
  item : {p q e : ℕ} {f : Follows} {j : Json} {is : Items} → Stands d s j p e → after_part s e ≡ f → parts_past (λ r. past_value d s r) s (length s) p ≡ q → Listed d s f is q
      → Listed d s (Part p) (icons j is) q

-- from f on these members stand
pub data Membered (d : ℕ) (s : List ℕ) : Follows → Members → ℕ → Type 0 where
  no_member : {q : ℕ} → Membered d s (Shut q) mnil q
  member : {p q u e : ℕ} {f : Follows} {n : List ℕ} {j : Json} {ms : Members} → byte_at s p ≡ 0x22 → denoted s (p + 1) ≡ n → value_place s p ≡ u → Stands d s j u e → after_part s e ≡ f → Membered d s f ms q
      → Membered d s (Part p) (mcons p n j ms) q

-- how many there are
abbrev pub item_count : Items → ℕ
item_count inil = 0
item_count (icons j is) = suc (item_count is)

abbrev pub member_count : Members → ℕ
member_count mnil = 0
member_count (mcons p n j ms) = suc (member_count ms)

-- ---- a value with white space around it

-- past white space at p it stands; that leaves `back` of its bytes bs
pub record Within (d : ℕ) (s : List ℕ) (j : Json) (p : ℕ) (bs : List ℕ) : Type 0 where
  pub end : ℕ
  pub stands : Stands d s j (past_space s p) end
  pub after : past_space s end ≡ past p bs
  pub front : List ℕ
  pub back : List ℕ
  pub bare : Padded d (past_space s p) j back
  pub split : bs ≡ front ++ back
  pub begins : past_space s p ≡ past p front

pub padded-within : {d p : ℕ} {j : Json} {bs : List ℕ} → Padded d p j bs → (s ys : List ℕ) → EndsHere ys → Stops is_space ys → drop p s ≡ bs ++ ys → Within d s j p bs
unfolding past
padded-within {d} {p} {j} (padded {q = q} {xs = xs} {ys = us} {zs = zs} x e v z b) s ys g o h =
    let h₁ : drop p s ≡ xs ++ (us ++ (zs ++ ys)) = simp append_assoc at (rw b at h) in
    let h₂ : drop q s ≡ us ++ (zs ++ ys) = rw e (drop_past s p xs _ h₁) in
    let n : past_space s p ≡ q = space-passed s p _ x h₁ (value-stops (zs ++ ys) v) ∙ sym e in
    record {
      end = past q us;
      stands = rw n (record { bytes = us; rest = zs ++ ys; value = v; text = h₂; ends = space-ends ys z g; end = refl });
      after = space-passed s (past q us) ys z (drop_past s q us _ h₂) o ∙ rw (b, past_append p xs (us ++ zs), past_append (past p xs) us zs, e);
      front = xs;
      back = us ++ zs;
      bare = rw n (padded no_space refl v z refl);
      split = b;
      begins = n ∙ e;
    }

-- ---- what follows a part

after-comma : (s ys : List ℕ) (e q : ℕ) → past_space s e ≡ q → drop q s ≡ 0x2C ∷ ys → after_part s e ≡ Part (past_space s (suc q))
unfolding after_part
after-comma s ys e q k h = rw (k, after_part, byte_here s q 0x2C ys h) (rw (k, add-one q))

after-close : (s ys : List ℕ) (b e q : ℕ) → past_space s e ≡ q → drop q s ≡ b ∷ ys → eqb b 0x2C ≡ false → after_part s e ≡ Shut (suc q)
unfolding after_part
after-close s ys b e q k h n = rw (k, after_part, byte_here s q b ys h, n) (rw (k, add-one q))

-- ---- elements

module _ {d p : ℕ} {j : Json} {bs : List ℕ} (s : List ℕ) (w : Within d s j p bs) where
  bare-past : past (past_space s p) w.back ≡ past p bs
  bare-past = rw (w.begins, w.split, past_append p w.front w.back)

  -- from past white space on the parts of a bracket are passed
  bare_parts : {is : Items} (cs ys : List ℕ) → Elements d (past_space s p) is (w.back ++ cs) → drop p s ≡ bs ++ (cs ++ ys)
      → parts_past (λ r. past_value d s r) s (length s) (past_space s p) ≡ past p (bs ++ cs)
  bare_parts cs ys f h =
      let h₁ : drop p s ≡ w.front ++ ((w.back ++ cs) ++ ys) = simp append_assoc (h ∙ rw (w.split, append_assoc)) in
      let h₂ = rw (← w.begins) at (drop_past s p w.front _ h₁) in
      let l : length (w.back ++ cs) ≤ length s = omega (arith, length-left s (past_space s p) _ h₂, length-append (w.back ++ cs) ys) in
      (elements-passed s ys f h₂).passed (length s) l ∙ rw (past_append (past_space s p) w.back cs, bare-past, past_append p bs cs)

pub elements-listed : {d p : ℕ} {is : Items} {bs : List ℕ} → Elements d p is bs → (s ys : List ℕ) → drop p s ≡ bs ++ ys → Listed d s (Part (past_space s p)) is (past p bs)
unfolding past
elements-listed (last_element {p = p} {xs = xs} v c) s ys h =
    let h₁ : drop p s ≡ xs ++ (0x5D ∷ ys) = rw (c, append_assoc) at h in
    let w = padded-within v s (0x5D ∷ ys) (before refl) (before refl) h₁ in
    let f = after-close s ys 0x5D w.end (past p xs) w.after (drop_past s p xs _ h₁) refl in
    rw (c, past_append p xs (0x5D ∷ [])) (item w.stands f (bare_parts s w (0x5D ∷ []) ys (last_element w.bare refl) h₁ ∙ past_append p xs (0x5D ∷ [])) no_item)
elements-listed (more_elements {p = p} {q = q} {xs = xs} {ys = us} v o t c) s ys h =
    let h₁ : drop p s ≡ xs ++ (0x2C ∷ us ++ ys) = rw (c, append_assoc) at h in
    let w = padded-within v s (0x2C ∷ us ++ ys) (before refl) (before refl) h₁ in
    let h₂ = drop_past s p xs _ h₁ in
    let f = rw (← o) at (after-comma s (us ++ ys) w.end (past p xs) w.after h₂) in
    let k = elements-listed t s ys (rw (← o) at (drop-next s (past p xs) 0x2C (us ++ ys) h₂)) in
    let e : past p (xs ++ (0x2C ∷ us)) ≡ past q us = past_append p xs (0x2C ∷ us) ∙ rw o in
    rw (c, e) (item w.stands f (bare_parts s w (0x2C ∷ us) ys (more_elements w.bare (rw bare-past o) t refl) h₁ ∙ e) k)

-- ---- members

-- past white space at p the name n stands at q; its value's white space begins at r
record NameAt (s : List ℕ) (p q r : ℕ) (n bs ys : List ℕ) : Type 0 where
  begins : past_space s p ≡ q
  quotes : byte_at s q ≡ 0x22
  spelled : denoted s (q + 1) ≡ n
  leads : value_place s q ≡ past_space s r
  end : past p bs ≡ r
  left : drop r s ≡ ys

quoted-stops : {n bs : List ℕ} (ys : List ℕ) → Quoted n bs → Stops is_space (bs ++ ys)
quoted-stops ys u = value-stops ys (string {d = 0} {p = 0} u)

name-at : {p q r : ℕ} {n bs : List ℕ} → Name p q r n bs → (s ys : List ℕ) → drop p s ≡ bs ++ ys → NameAt s p q r n bs ys
unfolding past value_place
name-at {p} {q} {r} {bs = bs} (name {xs = xs} {ys = us} {zs = zs} x e u z c o) s ys h =
    let h₁ : drop p s ≡ xs ++ (us ++ (zs ++ (0x3A ∷ ys))) = simp append_assoc at (rw c at h) in
    let h₂ : drop q s ≡ us ++ (zs ++ (0x3A ∷ ys)) = rw e (drop_past s p xs _ h₁) in
    let k = quoted-read s q _ u h₂ in
    let f : past_space s (past q us) ≡ past (past q us) zs = space-passed s (past q us) (0x3A ∷ ys) z (drop_past s q us _ h₂) (before refl) in
    let l : suc (past (past q us) zs) ≡ r = rw (o, c, past_append p xs (us ++ (zs ++ (0x3A ∷ []))), past_append (past p xs) us (zs ++ (0x3A ∷ [])), past_append _ zs (0x3A ∷ []), e) in
    record {
      begins = space-passed s p _ x h₁ (quoted-stops _ u) ∙ sym e;
      quotes = k.2;
      spelled = rw (add-one q) k.0;
      leads = rw (add-one q, k.1, f, add-one, l);
      end = sym o;
      left = rw o (drop_past s p bs ys h);
    }

pub members-membered : {d p : ℕ} {ms : Members} {bs : List ℕ} → Named d p ms bs → (s ys : List ℕ) → drop p s ≡ bs ++ ys → Membered d s (Part (past_space s p)) ms (past p bs)
unfolding past
members-membered (last_member {p = p} {q = q} {r = r} {xs = xs} {ys = us} m v c) s ys h =
    let h₁ : drop p s ≡ xs ++ (us ++ (0x7D ∷ ys)) = simp append_assoc at (rw c at h) in
    let k = name-at m s (us ++ (0x7D ∷ ys)) h₁ in
    let w = padded-within v s (0x7D ∷ ys) (before refl) (before refl) k.left in
    let f = after-close s ys 0x7D w.end (past r us) w.after (drop_past s r us _ k.left) refl in
    let e : past p (xs ++ (us ++ (0x7D ∷ []))) ≡ suc (past r us) = rw (past_append p xs (us ++ (0x7D ∷ [])), k.end, past_append r us (0x7D ∷ [])) in
    rw (c, e, k.begins) (member k.quotes k.spelled k.leads w.stands f no_member)
members-membered (more_members {p = p} {q = q} {r = r} {o = o'} {xs = xs} {ys = us} {zs = zs} m v o t c) s ys h =
    let h₁ : drop p s ≡ xs ++ (us ++ (0x2C ∷ zs ++ ys)) = simp append_assoc at (rw c at h) in
    let k = name-at m s (us ++ (0x2C ∷ zs ++ ys)) h₁ in
    let w = padded-within v s (0x2C ∷ zs ++ ys) (before refl) (before refl) k.left in
    let h₂ = drop_past s r us _ k.left in
    let f = rw (← o) at (after-comma s (zs ++ ys) w.end (past r us) w.after h₂) in
    let l = members-membered t s ys (rw (← o) at (drop-next s (past r us) 0x2C (zs ++ ys) h₂)) in
    let e : past p (xs ++ (us ++ (0x2C ∷ zs))) ≡ past o' zs = rw (past_append p xs (us ++ (0x2C ∷ zs)), k.end, past_append r us (0x2C ∷ zs), o) in
    rw (c, e, k.begins) (member k.quotes k.spelled k.leads w.stands f l)

-- ---- as many as bytes, at most

pub items-few : {d p : ℕ} {is : Items} {bs : List ℕ} → Elements d p is bs → item_count is ≤ length bs
items-few (last_element {xs = xs} v c) = rw c (omega (arith, length-append xs (0x5D ∷ [])))
items-few (more_elements {xs = xs} {ys = us} v o t c) = rw c (omega (arith, length-append xs (0x2C ∷ us), items-few t))

pub members-few : {d p : ℕ} {ms : Members} {bs : List ℕ} → Named d p ms bs → member_count ms ≤ length bs
members-few (last_member {xs = xs} {ys = us} m v c) = rw c (simp length-append (omega arith))
members-few (more_members {xs = xs} {ys = us} {zs = zs} m v o t c) = let k = members-few t in rw c (simp length-append (omega arith))

-- ---- in their brackets

first-shut : (s xs ys : List ℕ) (p b : ℕ) → Space xs → is_space b ≡ false → drop (suc p) s ≡ xs ++ (b ∷ ys) → first_part s b p ≡ Shut (suc (past (suc p) xs))
unfolding first_part
first-shut s xs ys p b z n h =
    let e = space-passed s (suc p) (b ∷ ys) z h (before n) in
    let f = byte_here s (past (suc p) xs) b ys (drop_past s (suc p) xs _ h) in
    rw (add-one p, first_part, e, f, eq-eqb b b refl) (rw (add-one p, e, add-one))

first_part_lem : (s : List ℕ) (p c : ℕ) → eqb (byte_at s (past_space s (suc p))) c ≡ false → first_part s c p ≡ Part (past_space s (suc p))
unfolding first_part
first_part_lem s p c h = rw (add-one p, first_part, h, add-one p)

closing-not : (b : ℕ) → is_closing b ≡ false → eqb b 0x5D ≡ false
closing-not b h = go' (eqb b 0x5D) refl
  where
    go' : (c : Bool) → eqb b 0x5D ≡ c → c ≡ false
    go' false e = refl
    go' true e = sym (rw (e, ◌||◌)) ∙ h

pub stands_byte : {d p q : ℕ} {j : Json} {s : List ℕ} → Stands d s j p q → FirstByte j (byte_at s p)
stands_byte {s = s} k = first_byte s k.rest k.value k.text

listed-opens : {d q : ℕ} {s : List ℕ} {f : Follows} {is : Items} (u : ℕ) → Listed d s f is q → f ≡ Part u → eqb (byte_at s u) 0x5D ≡ false
listed-opens u no_item e = cc
listed-opens {s = s} u (item {p = p} k a c l) e = let g : p ≡ u = cc in rw (← g) (closing-not (byte_at s p) (first-opens (stands_byte k)).closing)

membered-opens : {d q : ℕ} {s : List ℕ} {f : Follows} {ms : Members} (u : ℕ) → Membered d s f ms q → f ≡ Part u → eqb (byte_at s u) 0x7D ≡ false
membered-opens u no_member e = cc
membered-opens {s = s} u (member {p = p} b n v k a l) e = let g : p ≡ u = cc in rw (← g, b)

-- in the array at p, and in the object at p; there are no more than the text has bytes
pub record InArray (d : ℕ) (s : List ℕ) (is : Items) (p q : ℕ) : Type 0 where
  pub listed : Listed d s (first_part s 0x5D p) is q
  pub few : item_count is ≤ length s

pub record InObject (d : ℕ) (s : List ℕ) (ms : Members) (p q : ℕ) : Type 0 where
  pub membered : Membered d s (first_part s 0x7D p) ms q
  pub few : member_count ms ≤ length s

empty-first : {xs bs : List ℕ} (s ys : List ℕ) (p a b : ℕ) → is_space b ≡ false → Space xs → bs ≡ xs ++ (b ∷ []) → drop p s ≡ a ∷ bs ++ ys → first_part s b p ≡ Shut (past p (a ∷ bs))
unfolding past
empty-first {xs} s ys p a b n z c h = first-shut s xs ys p b z n (rw (c, append_assoc) at (drop-next s p a _ h)) ∙ rw (c, past_append (suc p) xs (b ∷ []))

pub empty-array : {d p : ℕ} {xs bs : List ℕ} (s ys : List ℕ) → Space xs → bs ≡ xs ++ (0x5D ∷ []) → drop p s ≡ 0x5B ∷ bs ++ ys → InArray d s inil p (past p (0x5B ∷ bs))
empty-array {p = p} s ys z c h = record { listed = rw (empty-first s ys p 0x5B 0x5D refl z c h) no_item; few = omega arith }

pub empty-object : {d p : ℕ} {xs bs : List ℕ} (s ys : List ℕ) → Space xs → bs ≡ xs ++ (0x7D ∷ []) → drop p s ≡ 0x7B ∷ bs ++ ys → InObject d s mnil p (past p (0x7B ∷ bs))
empty-object {p = p} s ys z c h = record { membered = rw (empty-first s ys p 0x7B 0x7D refl z c h) no_member; few = omega arith }

pub some-array : {d p : ℕ} {is : Items} {bs : List ℕ} (s ys : List ℕ) → Elements d (suc p) is bs → drop p s ≡ 0x5B ∷ bs ++ ys → InArray d s is p (past p (0x5B ∷ bs))
unfolding past
some-array {p = p} {bs = bs} s ys f h =
    let h₁ = drop-next s p 0x5B _ h in
    let k = elements-listed f s ys h₁ in
    record {
      listed = rw (first_part_lem s p 0x5D (listed-opens _ k refl)) k;
      few = omega (arith, items-few f, length-append bs ys, length-left s (suc p) _ h₁);
    }

pub some-object : {d p : ℕ} {ms : Members} {bs : List ℕ} (s ys : List ℕ) → Named d (suc p) ms bs → drop p s ≡ 0x7B ∷ bs ++ ys → InObject d s ms p (past p (0x7B ∷ bs))
unfolding past
some-object {p = p} {bs = bs} s ys f h =
    let h₁ = drop-next s p 0x7B _ h in
    let k = members-membered f s ys h₁ in
    record {
      membered = rw (first_part_lem s p 0x7D (membered-opens _ k refl)) k;
      few = omega (arith, members-few f, length-append bs ys, length-left s (suc p) _ h₁);
    }
