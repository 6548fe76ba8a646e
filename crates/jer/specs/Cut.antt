-- Newer and older tables, and cutting a value down to the older one.
use Rattle.std.specs.Prelude.{ℕ, zero, suc, ◌≤◌, ◌<◌, ◌≡◌, Bool, true, false, ◌||◌, not, ltb}
use Rattle.jer.specs.Table.{Table, SEQUENCE-OF, tag_of, kind_of, marks_of, extensible, element_of, count_of, root_of, optional, type_at, name_at}
use Rattle.jer.specs.Value.{Leaf, l_bool, l_int, l_enum, l_null, l_bytes, Val, v_leaf, v_seq, v_list, v_choice, Vals, vnil, vcons, Parts, pnil, absent, present}

-- 01, Type table: "A newer table is made from an older one by additions if rows can be paired, row 0 with row 0, so that paired types
-- have equal kind, marks and number of root members; elements of SEQUENCE OF are paired; and the older's members, in order, pair with
-- the newer's first ones, with equal names, equal OPTIONAL marks and paired types. More members stand only in extensible types. A row
-- may have several partners." R a b says that the newer's row a is paired with the older's row b.
pub record ByAdditions (new old : Table) (R : ℕ → ℕ → Type 0) : Type 0 where
  pub whole : R 0 0
  pub tags : (a b : ℕ) → R a b → tag_of new a ≡ tag_of old b
  pub marks : (a b : ℕ) → R a b → marks_of new a ≡ marks_of old b
  pub roots : (a b : ℕ) → R a b → root_of new a ≡ root_of old b
  pub elements : (a b : ℕ) → R a b → kind_of old b ≡ SEQUENCE-OF → R (element_of new a) (element_of old b)
  pub fewer : (a b : ℕ) → R a b → count_of old b ≤ count_of new a
  pub grown : (a b : ℕ) → R a b → count_of old b < count_of new a → extensible old b ≡ true
  pub names : (a b i : ℕ) → R a b → i < count_of old b → name_at new a i ≡ name_at old b i
  pub optionals : (a b i : ℕ) → R a b → i < count_of old b → optional new a i ≡ optional old b i
  pub types : (a b i : ℕ) → R a b → i < count_of old b → R (type_at new a i) (type_at old b i)

-- an alternative that the table lacks stays, with all it holds
unfoldable pub cut_chosen : Bool → ℕ → Val → Val → Val
cut_chosen true i cut whole = v_choice i cut
cut_chosen false i cut whole = v_choice i whole

-- "Cutting a value to the older table drops the members it lacks; an item or alternative that it lacks stays, with all it holds."
unfoldable mutual
  pub cut : Val → Table → ℕ → Val
  cut (v_leaf l) t r = v_leaf l
  cut (v_seq ps) t r = v_seq (cut_parts ps t r 0 (count_of t r))
  cut (v_list vs) t r = v_list (cut_items vs t (element_of t r))
  cut (v_choice i v) t r = cut_chosen (ltb i (count_of t r)) i (cut v t (type_at t r i)) v

  pub cut_items : Vals → Table → ℕ → Vals
  cut_items vnil t r = vnil
  cut_items (vcons v vs) t r = vcons (cut v t r) (cut_items vs t r)

  -- n members from i on
  pub cut_parts : Parts → Table → ℕ → ℕ → ℕ → Parts
  cut_parts pnil t r i n = pnil
  cut_parts (absent ps) t r i zero = pnil
  cut_parts (absent ps) t r i (suc n) = absent (cut_parts ps t r (suc i) n)
  cut_parts (present v ps) t r i zero = pnil
  cut_parts (present v ps) t r i (suc n) = present (cut v t (type_at t r i)) (cut_parts ps t r (suc i) n)

abbrev pub lacks_leaf : Leaf → Table → ℕ → Bool
lacks_leaf (l_bool b) t r = false
lacks_leaf (l_int n) t r = false
lacks_leaf (l_enum i) t r = not (ltb i (count_of t r))
lacks_leaf l_null t r = false
lacks_leaf (l_bytes s) t r = false

unfoldable pub lacks_chosen : Bool → Bool → Bool
lacks_chosen true inside = inside
lacks_chosen false inside = true

-- does the value hold an item or alternative that the table lacks?
unfoldable mutual
  pub lacks : Val → Table → ℕ → Bool
  lacks (v_leaf l) t r = lacks_leaf l t r
  lacks (v_seq ps) t r = lacks_parts ps t r 0
  lacks (v_list vs) t r = lacks_items vs t (element_of t r)
  lacks (v_choice i v) t r = lacks_chosen (ltb i (count_of t r)) (lacks v t (type_at t r i))

  pub lacks_items : Vals → Table → ℕ → Bool
  lacks_items vnil t r = false
  lacks_items (vcons v vs) t r = lacks v t r || lacks_items vs t r

  pub lacks_parts : Parts → Table → ℕ → ℕ → Bool
  lacks_parts pnil t r i = false
  lacks_parts (absent ps) t r i = lacks_parts ps t r (suc i)
  lacks_parts (present v ps) t r i = lacks v t (type_at t r i) || lacks_parts ps t r (suc i)

-- the other way: the value of an older table as one of the newer, with all additions absent
unfoldable pub absents : ℕ → Parts
absents zero = pnil
absents (suc n) = absent (absents n)

unfoldable mutual
  pub grow : Val → Table → ℕ → Val
  grow (v_leaf l) t r = v_leaf l
  grow (v_seq ps) t r = v_seq (grow_parts ps t r 0 (count_of t r))
  grow (v_list vs) t r = v_list (grow_items vs t (element_of t r))
  grow (v_choice i v) t r = v_choice i (grow v t (type_at t r i))

  pub grow_items : Vals → Table → ℕ → Vals
  grow_items vnil t r = vnil
  grow_items (vcons v vs) t r = vcons (grow v t r) (grow_items vs t r)

  -- the members from i on, of which the newer table has n
  pub grow_parts : Parts → Table → ℕ → ℕ → ℕ → Parts
  grow_parts pnil t r i n = absents n
  grow_parts (absent ps) t r i zero = pnil
  grow_parts (absent ps) t r i (suc n) = absent (grow_parts ps t r (suc i) n)
  grow_parts (present v ps) t r i zero = pnil
  grow_parts (present v ps) t r i (suc n) = present (grow v t (type_at t r i)) (grow_parts ps t r (suc i) n)
