-- What the machine takes is a text of the grammar, with its tree.
use Prim.Native.Nat.{ℕ, suc, pred}
use mathlib.Core.Path.{◌≡◌, refl}
use mathlib.Core.List.{List, [], ◌∷◌, ◌++◌, append-nil, append_assoc}
use mathlib.Core.Bool.{Bool, true, false}
use Rattle.std.specs.Prelude.{Option, None, Some}
use native.Mathlib.Omega.{arith}
use lib.Dec.{eqb}
use borrow.Author.Tests.{eqb-false}
use Rattle.json_text.specs.Bytes.{pick, past}
use Rattle.json_text.specs.Tree.{Json, jstr, jarr, jobj, Items, inil, Members, isnoc, msnoc}
use Rattle.json_text.specs.Grammar.{Space, no_space, Chars, quoted, Value, literal_null, literal_true, literal_false, string, no_elements, elements, no_members, members, Name, name, Text}
use Rattle.json_text.specs.Machine.{Mid, m_text, Act, still, close, never, char_step, Num, num_step, num_tree, in_arr, in_obj, Stack, base, ◌▹◌, room, Role, as_name, as_value, State, s_val, s_elem, s_after, s_name0, s_name, s_colon, s_str, s_num, s_lit, Fault, not_json, Step, go, bad, opened, starts, after, closed, str_step, num_end, num_go, lit_next, step, Parsed, tree, refused, ended, finish, run, parse_within}
use Rattle.json_text.proofs.TakesTree.{iapp, iapp_snoc, iapp-last, mapp, mapp_snoc, mapp-last}
use Rattle.json_text.proofs.SoundRows.{Within, pick-within, ◌⨾◌, only, past_append, behind}
use Rattle.json_text.proofs.SoundString.{CharsFrom, chars-text, no-chars, Kept, keeps, closes, fails, char-kept}
use Rattle.json_text.proofs.SoundNumber.{NumFrom, Grows, num_grows, num_ends, minus-value, zero-value, digit_value}
use Rattle.json_text.proofs.SoundRest.{items_end, items_more, members_end, members_more, Led, led, NextItems, next_items, NextMembers, next_members, InArray, no_items, some_items, InObject, no_names, some_names, after_colon, colon, InString, in_string, After, at_base, at_array, at_object, Then, then, Rest, then-cons, then_map, led-padded, array-closes, object-closes}
use Rattle.json_text.proofs.SoundSpace.{pick-spaced, white-led, white-array, white-members, white-object, white-colon, white-after}

-- if the rest of the text after the step at p is the bytes xs, then T
abbrev Back : Json → ℕ → List ℕ → Type 0 → Step → Type 0
Back top p xs T (go u) = Rest top (suc p) u xs → T
Back top p xs T (bad f) = Unit {0}

back-map : (top : Json) (p : ℕ) (xs : List ℕ) {T U : Type 0} (x : Step) → (T → U) → Back top p xs T x → Back top p xs U x
back-map top p xs (go u) f h = λ r. f (h r)
back-map top p xs (bad e) f h = tt

-- ---- a value from its first byte

string-value : {d e p : ℕ} {j : Json} {bs : List ℕ} → InString d m_text as_value (suc p) p [] j bs → Value e p j (0x22 ∷ bs)
string-value (in_string t ys c r h) = rw r.0 (string (quoted (chars-text c) (rw r.1 at h)))

array-value : {d n p : ℕ} {j : Json} {bs : List ℕ} → n ≡ suc d → InArray d (suc p) p j bs → Value n p j (0x5B ∷ bs)
unfolding iapp
array-value g (no_items s h e) = rw (g, e) (no_elements s h)
array-value g (some_items (next_items r e)) = rw (g, e) (elements r)

object-value : {d n p : ℕ} {j : Json} {bs : List ℕ} → n ≡ suc d → InObject d (suc p) p j bs → Value n p j (0x7B ∷ bs)
unfolding mapp
object-value g (no_names s h e) = rw (g, e) (no_members s h)
object-value g (some_names (next_members r e)) = rw (g, e) (members r)

-- a bracket is opened only where there is room for it
opened-back : (top : Json) (p : ℕ) (xs : List ℕ) (T : Type 0) (k : Stack) (st : State) → (room k ≡ suc (pred (room k)) → Rest top (suc p) st xs → T) → Back top p xs T (opened k st)
unfolding opened
opened-back top p xs T k st h = pass (eqb (room k) 0) refl
  where
    pass : (c : Bool) → eqb (room k) 0 ≡ c → Back top p xs T (opened k st)
    pass true e = rw (e, opened) tt
    pass false e = let n = eqb-false (room k) 0 e in rw (e, opened) (h (omega arith))

starts-back : (top : Json) (p : ℕ) (xs : List ℕ) (T : Type 0) (k : Stack) (b : ℕ) → (Then (Value (room k) p) top p k (b ∷ xs) → T) → Within (Back top p xs T) b (starts p k)
unfolding starts
starts-back top p xs T k b f =
    (λ i r. f (then-cons (λ j ys s. rw (only i) (string-value s)) r))
    ⨾ (λ i r. f (then-cons (λ j ys s. rw (only i) (minus-value s)) r))
    ⨾ (λ i r. f (then-cons (λ j ys s. rw (only i) (zero-value s)) r))
    ⨾ (λ i r. f (then-cons (λ j ys s. digit_value i s) r))
    ⨾ (λ i. opened-back top p xs T k _ (λ e r. f (then-cons (λ j ys s. rw (only i) (array-value e s)) r)))
    ⨾ (λ i r. f (then-cons (λ j ys s. rw (only i, s.0, s.1) literal_false) r))
    ⨾ (λ i r. f (then-cons (λ j ys s. rw (only i, s.0, s.1) literal_null) r))
    ⨾ (λ i r. f (then-cons (λ j ys s. rw (only i, s.0, s.1) literal_true) r))
    ⨾ (λ i. opened-back top p xs T k _ (λ e r. f (then-cons (λ j ys s. rw (only i) (object-value e s)) r)))
    ⨾ tt

-- ---- the steps, state by state

value-led : {d p : ℕ} (j : Json) (bs : List ℕ) → Value d p j bs → Led d p j bs
unfolding past
value-led j bs v = led no_space refl v refl

value-back : (top : Json) (p : ℕ) (k : Stack) (b : ℕ) (xs : List ℕ) → Back top p xs (Rest top p (s_val k) (b ∷ xs)) (step p (s_val k) b)
unfolding step
value-back top p k b xs = pick-spaced (Back top p xs (Rest top p (s_val k) (b ∷ xs))) b _ _ _ (λ w. then-cons (λ j ys. white-led w)) (starts-back top p xs _ k b (then_map value-led)) tt

element-back : (top : Json) (p o : ℕ) (k : Stack) (b : ℕ) (xs : List ℕ) → Back top p xs (Rest top p (s_elem o k) (b ∷ xs)) (step p (s_elem o k) b)
unfolding step room past
element-back top p o k b xs =
    pick-spaced (Back top p xs (Rest top p (s_elem o k) (b ∷ xs))) b _ _ _
    (λ w. then-cons (λ j ys. white-array w))
    ((λ i r. then {xs = b ∷ []} (no_items no_space (rw (only i)) refl) r refl)
    ⨾ starts-back top p xs _ (in_arr o inil ▹ k) b (λ r. then_map (λ j ys. some_items) (array-closes (then_map value-led r))))
    tt

comma-array : {top j : Json} {p o : ℕ} {is : Items} {k : Stack} {bs : List ℕ} → Then (NextItems (pred (room k)) (suc p) o (isnoc is j)) top (suc p) k bs → After top p j (in_arr o is ▹ k) (0x2C ∷ bs)
unfolding past
comma-array (then (next_items l e) a f) = at_array (items_more no_space refl l refl) (rw (e, iapp_snoc) at a) (behind f)

end-array : {top j : Json} {p o : ℕ} {is : Items} {k : Stack} {bs : List ℕ} → After top (suc p) (jarr o (isnoc is j)) k bs → After top p j (in_arr o is ▹ k) (0x5D ∷ bs)
unfolding past
end-array a = at_array (items_end no_space refl) (rw iapp-last at a) refl

comma-object : {top j : Json} {p o q : ℕ} {ms : Members} {s : List ℕ} {k : Stack} {bs : List ℕ} → Then (NextMembers (pred (room k)) (suc p) o (msnoc ms q s j)) top (suc p) k bs → After top p j (in_obj o ms q s ▹ k) (0x2C ∷ bs)
unfolding past
comma-object (then (next_members l e) a f) = at_object (members_more no_space refl l refl) (rw (e, mapp_snoc) at a) (behind f)

end-object : {top j : Json} {p o q : ℕ} {ms : Members} {s : List ℕ} {k : Stack} {bs : List ℕ} → After top (suc p) (jobj o (msnoc ms q s j)) k bs → After top p j (in_obj o ms q s ▹ k) (0x7D ∷ bs)
unfolding past
end-object a = at_object (members_end no_space refl) (rw mapp-last at a) refl

after-back : (top : Json) (p : ℕ) (j : Json) (k : Stack) (b : ℕ) (xs : List ℕ) → Back top p xs (After top p j k (b ∷ xs)) (pick b (after j k) (bad not_json))
unfolding after room
after-back top p j (base d) b xs = pick-spaced (Back top p xs (After top p j (base d) (b ∷ xs))) b _ _ _ (λ w. white-after w) tt tt
after-back top p j (in_arr o is ▹ k) b xs =
    pick-spaced (Back top p xs (After top p j (in_arr o is ▹ k) (b ∷ xs))) b _ _ _
    (λ w. white-after w)
    ((λ i r. rw (only i) (comma-array (array-closes r))) ⨾ (λ i r. rw (only i) (end-array r)) ⨾ tt)
    tt
after-back top p j (in_obj o ms q s ▹ k) b xs =
    pick-spaced (Back top p xs (After top p j (in_obj o ms q s ▹ k) (b ∷ xs))) b _ _ _
    (λ w. white-after w)
    ((λ i r. rw (only i) (comma-object r)) ⨾ (λ i r. rw (only i) (end-object r)) ⨾ tt)
    tt

-- the bytes of a name and its colon, with the white space between them
abbrev spelled : List ℕ → List ℕ → List ℕ
spelled xs vs = 0x22 ∷ ((xs ++ (0x22 ∷ [])) ++ (vs ++ (0x3A ∷ [])))

name-spelled : (p : ℕ) {t xs vs : List ℕ} → Chars t xs → Space vs → Name p p (suc (past (suc (past (suc p) xs)) vs)) t (spelled xs vs)
unfolding past
name-spelled p {xs = xs} {vs = vs} c s = name no_space refl (quoted c refl) s refl ends
  where
    ends : suc (past (suc (past (suc p) xs)) vs) ≡ past p (spelled xs vs)
    ends = simp past_append

-- a name, its colon, and the rest of the object
string-name : {d p o : ℕ} {ms : Members} {j : Json} {bs : List ℕ} → InString d m_text (as_name o ms) (suc p) p [] j bs → NextMembers d p o ms j (0x22 ∷ bs)
string-name {p = p} {bs = bs} (in_string t ys {xs = xs} c (colon {xs = vs} {ys = ws} s (after_colon v e) h) g) = rw bytes (next_members (v p (spelled xs vs) (name-spelled p (chars-text c) s)) e)
  where
    bytes : ◌≡◌ {A = List ℕ} (0x22 ∷ bs) (spelled xs vs ++ ws)
    bytes = simp append_assoc (cc)

name_back : (top : Json) (p o : ℕ) (ms : Members) (k : Stack) (b : ℕ) (xs : List ℕ) → Back top p xs (Rest top p (s_name o ms k) (b ∷ xs)) (step p (s_name o ms k) b)
unfolding step
name_back top p o ms k b xs =
    pick-spaced (Back top p xs (Rest top p (s_name o ms k) (b ∷ xs))) b _ _ _
    (λ w. then-cons (λ j ys. white-members w))
    ((λ i. then-cons (λ j ys s. rw (only i) (string-name s))) ⨾ tt)
    tt

name0_back : (top : Json) (p o : ℕ) (k : Stack) (b : ℕ) (xs : List ℕ) → Back top p xs (Rest top p (s_name0 o k) (b ∷ xs)) (step p (s_name0 o k) b)
unfolding step past
name0_back top p o k b xs =
    pick-spaced (Back top p xs (Rest top p (s_name0 o k) (b ∷ xs))) b _ _ _
    (λ w. then-cons (λ j ys. white-object w))
    ((λ i. then-cons (λ j ys s. rw (only i) (some_names (string-name s)))) ⨾ (λ i r. then {xs = b ∷ []} (no_names no_space (rw (only i)) refl) r refl) ⨾ tt)
    tt

colon-back : (top : Json) (p o : ℕ) (ms : Members) (q : ℕ) (s : List ℕ) (k : Stack) (b : ℕ) (xs : List ℕ) → Back top p xs (Rest top p (s_colon o ms q s k) (b ∷ xs)) (step p (s_colon o ms q s k) b)
unfolding step room past
colon-back top p o ms q s k b xs =
    pick-spaced (Back top p xs (Rest top p (s_colon o ms q s k) (b ∷ xs))) b _ _ _
    (λ w. then-cons (λ j ys. white-colon w))
    ((λ i r. then-cons (λ j ys c. colon no_space c (rw (only i))) (object-closes r)) ⨾ tt)
    tt

string-still : {d p q b : ℕ} {m m' : Mid} {r : Role} {j : Json} {bs : List ℕ} (s us : List ℕ) → ((t xs : List ℕ) → CharsFrom m' t xs → CharsFrom m (us ++ t) (b ∷ xs)) → InString d m' r (suc p) q (s ++ us) j bs
    → InString d m r p q s j (b ∷ bs)
unfolding past
string-still s us f (in_string t ys {xs = xs} c h e) = in_string (us ++ t) ys (f t xs c) (rw (append_assoc s us t) at h) (behind e)

closed-back : (top : Json) (p : ℕ) (r : Role) (q : ℕ) (s : List ℕ) (k : Stack) (xs : List ℕ) → Rest top (suc p) (closed r q s k) xs → Rest top p (s_str m_text r q s k) (0x22 ∷ xs)
unfolding closed past
closed-back top p (as_name o ms) q s k xs r = then-cons (λ j ys c. in_string [] ys no-chars (rw append-nil c) refl) r
closed-back top p as_value q s k xs a = then {j = jstr q s} {xs = 0x22 ∷ []} (in_string [] [] no-chars (rw append-nil, refl) refl) a refl

string-back : (top : Json) (p : ℕ) (m : Mid) (r : Role) (q : ℕ) (s : List ℕ) (k : Stack) (b : ℕ) (xs : List ℕ) (a : Act) → Kept m b a → Back top p xs (Rest top p (s_str m r q s k) (b ∷ xs)) (str_step a r q s k)
unfolding str_step
string-back top p m r q s k b xs (still m' us) (keeps f) = then-cons (λ j ys. string-still s us f)
string-back top p m r q s k b xs close (closes e) = rw e (closed-back top p r q s k xs)
string-back top p m r q s k b xs never fails = tt

end_back : (top : Json) (p : ℕ) (n : Num) (q : ℕ) (k : Stack) (b : ℕ) (xs : List ℕ) (o : Option Json) → num_tree n q ≡ o → Back top p xs (Rest top p (s_num n q k) (b ∷ xs)) (num_end o k b)
unfolding num_end past
end_back top p n q k b xs None e = tt
end_back top p n q k b xs (Some j) e = back-map top p xs (pick b (after j k) (bad not_json)) (λ a. then {xs = []} (num_ends n q j e) a refl) (after-back top p j k b xs)

number-back : (top : Json) (p : ℕ) (n : Num) (q : ℕ) (k : Stack) (b : ℕ) (xs : List ℕ) (o : Option Num) → Grows (NumFrom n) b o → Back top p xs (Rest top p (s_num n q k) (b ∷ xs)) (num_go o n q k b)
unfolding num_go
number-back top p n q k b xs (Some m) f = then-cons (λ j ys. f q j ys)
number-back top p n q k b xs None f = end_back top p n q k b xs (num_tree n q) refl

literal-next : (top : Json) (p c : ℕ) (cs : List ℕ) (i : Json) (k : Stack) (xs : List ℕ) → Rest top (suc p) (lit_next cs i k) xs → Rest top p (s_lit c cs i k) (c ∷ xs)
unfolding lit_next past
literal-next top p c [] i k xs a = then {xs = c ∷ []} (refl, refl) a refl
literal-next top p c (d ∷ cs) i k xs r = then-cons (λ j ys l. (l.0, behind l.1)) r

-- the rest after a step, behind the step's byte, is the rest before it
step_back : (top : Json) (p : ℕ) (st : State) (b : ℕ) (xs : List ℕ) → Back top p xs (Rest top p st (b ∷ xs)) (step p st b)
unfolding step
step_back top p (s_val k) b xs = value-back top p k b xs
step_back top p (s_elem o k) b xs = element-back top p o k b xs
step_back top p (s_after j k) b xs = after-back top p j k b xs
step_back top p (s_name0 o k) b xs = name0_back top p o k b xs
step_back top p (s_name o ms k) b xs = name_back top p o ms k b xs
step_back top p (s_colon o ms q s k) b xs = colon-back top p o ms q s k b xs
step_back top p (s_str m r q s k) b xs = string-back top p m r q s k b xs (char_step m b) (char-kept m b)
step_back top p (s_num n q k) b xs = number-back top p n q k b xs (num_step n b) (num_grows n b)
step_back top p (s_lit c cs i k) b xs = pick-within (Back top p xs (Rest top p (s_lit c cs i k) (b ∷ xs))) b _ _ ((λ h. rw (only h) (literal-next top p c cs i k xs)) ⨾ tt) tt

-- ---- the whole text

never-tree : {f : Fault} {p : ℕ} {t : Json} → refused f p ≡ tree t → ⊥
never-tree e = let z : ◌≡◌ {A = ℕ} 0 1 = cc in omega arith

ended-after : (top j : Json) (k : Stack) (p : ℕ) → ended (Some j) k p ≡ tree top → After top p j k []
unfolding ended
ended-after top j (base d) p e = at_base {j = j} no_space (cc)
ended-after top j (f ▹ k) p e = absurd (never-tree e)

number-finish : (top : Json) (n : Num) (q : ℕ) (k : Stack) (p : ℕ) (o : Option Json) → num_tree n q ≡ o → ended o k p ≡ tree top → Rest top p (s_num n q k) []
unfolding ended past
number-finish top n q k p None g e = absurd (never-tree e)
number-finish top n q k p (Some j) g e = then {xs = []} (num_ends n q j g) (ended-after top j k p e) refl

finish-rest : (top : Json) (st : State) (p : ℕ) → finish st p ≡ tree top → Rest top p st []
unfolding finish
finish-rest top (s_val k) p e = absurd (never-tree e)
finish-rest top (s_elem o k) p e = absurd (never-tree e)
finish-rest top (s_after j k) p e = ended-after top j k p e
finish-rest top (s_name0 o k) p e = absurd (never-tree e)
finish-rest top (s_name o ms k) p e = absurd (never-tree e)
finish-rest top (s_colon o ms q s k) p e = absurd (never-tree e)
finish-rest top (s_str m r q s k) p e = absurd (never-tree e)
finish-rest top (s_num n q k) p e = number-finish top n q k p (num_tree n q) refl e
finish-rest top (s_lit c cs j k) p e = absurd (never-tree e)

-- from any state, what the machine takes is what the grammar wants there
pub run-rest : (top : Json) (bs : List ℕ) (p : ℕ) (st : State) → run p st bs ≡ tree top → Rest top p st bs
unfolding run
run-rest top [] p st e = finish-rest top st p e
run-rest top (b ∷ bs) p st e = onward (step p st b) (step_back top p st b bs) (λ u. run-rest top bs (suc p) u) e
  where
    onward : (x : Step) → Back top p bs (Rest top p st (b ∷ bs)) x → ((u : State) → run (suc p) u bs ≡ tree top → Rest top (suc p) u bs) → elim x as (λ y. Parsed) [ go u ↦ run (suc p) u bs | bad f ↦ refused f p ] ≡ tree top
        → Rest top p st (b ∷ bs)
    onward (go u) h ih g = h (ih u g)
    onward (bad f) h ih g = absurd (never-tree g)

rest-text : {d : ℕ} {top : Json} {bs : List ℕ} → Then (Led d 0) top 0 (base d) bs → Text d top bs
rest-text (then l (at_base s e) f) = rw (f, ← e) (led-padded l s)

-- what the machine takes is a text of the grammar, with its tree
pub text-taken : (d : ℕ) (j : Json) (bs : List ℕ) → parse_within d bs ≡ tree j → Text d j bs
unfolding parse_within room
text-taken d j bs e = rest-text (run-rest j bs 0 (s_val (base d)) e)
