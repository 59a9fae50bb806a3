-- Initializers give each leaf of their objects what it holds at first.
use Rattle.std.proofs.Common.{arith, ◌≡◌, ◌≤◌, ◌+◌, ◌-◌, ◌*◌, ℕ, zero, suc, Bool, true, false, ◌&&◌, ◌||◌, nat_le, nat_lt, if◌then◌else◌, List, [], ◌∷◌, ◌++◌, length, map, take, drop, replicate, slice_get, refl, sym, ap, ◌∙◌, length-append, Option, Some, None, option_map}
use Rattle.std.proofs.lemmas.List.{length-replicate, length-map}
use Rattle.c_lex.specs.declared.token.Place.{Place}
use Rattle.c_trees.specs.Expressions.{Tree}
use Rattle.c_trees.specs.Initializers.{InitialTree, Value, Braces, Item}
use Rattle.c_tree.specs.declared.types.StructDef.{StructDef}
use Rattle.c_tree.specs.declared.types.Member.{Member}
use Rattle.c_tree.specs.Layout.{members_of}
use Rattle.c_typing.specs.Plain.{Plain, Char, Int, Unsigned, Void, Pointer, Array, Struct, plain, is_struct, is_complete}
use Rattle.c_judge.specs.Answers.{Known, Unknown, Broken}
use Rattle.c_judge.specs.Places.{place_of}
use Rattle.c_defs.specs.Depths.{deepest, is_within, are_within}
use Rattle.c_scope.specs.Findings.{Finding, nothing, fine, ◌beside◌, holds}
use Rattle.c_scope.specs.Spelling.{initial_at}
use Rattle.c_scope.specs.Environment.{Environment}
use Rattle.c_initial.specs.Initials.{Spot, spot, text_of, number, fits, rule_of, is_aggregate, count_of, part_of, value_found, initial_found}
use Rattle.c_initial.specs.Begins.{Begin, Bits, Text, zeros, zeros_of_members, rest, behind_items, bits_of, character, characters, spot_begin, address_begin, value_begins, strings_of, items_begin, begins_of}
use Rattle.c_defs.specs.Leaves.{leaf_count, leaves_of_members}
use Rattle.c_initial.specs.Filled.{IsInitial, IsList, AreComplete, AreWhole}

and_left : (a b : Bool) → (a && b) ≡ true → a ≡ true
and_left true b h = refl
and_left false b h = h

and_right : (a b : Bool) → (a && b) ≡ true → b ≡ true
and_right true b h = h
and_right false b h = absurd (let x : false ≡ true = h in cc)

both_true : (a b : Bool) → a ≡ true → b ≡ true → (a && b) ≡ true
both_true a b h k = ap (λ x. x && b) h ∙ k

or_more : (a b c : Bool) → (b ≡ true → c ≡ true) → (a || b) ≡ true → (a || c) ≡ true
or_more true b c f h = refl
or_more false b c f h = f h

-- ---- deeper counts are the same where a type is not too deep

counts_stay : (f g : Plain → ℕ) (b : Plain → Bool) → ((t : Plain) → b t ≡ true → f t ≡ g t) → (ms : List Member) → are_within b ms ≡ true → leaves_of_members f ms ≡ leaves_of_members g ms
counts_stay f g b e [] h = refl
counts_stay f g b e (m ∷ ms) h = λ i. e (plain m.ctype) (and_left (b (plain m.ctype)) (are_within b ms) h) i + counts_stay f g b e ms (and_right (b (plain m.ctype)) (are_within b ms) h) i

count_stays : (defs : List StructDef) (deep : ℕ) (t : Plain) → is_within defs deep t ≡ true → leaf_count defs deep t ≡ leaf_count defs (suc deep) t
count_stays defs zero t h = absurd (let x : false ≡ true = h in cc)
count_stays defs (suc deep) Char h = refl
count_stays defs (suc deep) Int h = refl
count_stays defs (suc deep) Unsigned h = refl
count_stays defs (suc deep) Void h = refl
count_stays defs (suc deep) (Pointer t) h = refl
count_stays defs (suc deep) (Array t n) h = ap (λ k. n * k) (count_stays defs deep t h)
count_stays defs (suc deep) (Struct s) h = counts_stay (leaf_count defs deep) (leaf_count defs (suc deep)) (is_within defs deep) (λ t. count_stays defs deep t) (members_of defs s) h

all_within : (b c : Plain → Bool) → ((t : Plain) → b t ≡ true → c t ≡ true) → (ms : List Member) → are_within b ms ≡ true → are_within c ms ≡ true
all_within b c e [] h = refl
all_within b c e (m ∷ ms) h = both_true (c (plain m.ctype)) (are_within c ms) (e (plain m.ctype) (and_left (b (plain m.ctype)) (are_within b ms) h)) (all_within b c e ms (and_right (b (plain m.ctype)) (are_within b ms) h))

within_more : (defs : List StructDef) (deep : ℕ) (t : Plain) → is_within defs deep t ≡ true → is_within defs (suc deep) t ≡ true
within_more defs zero t h = absurd (let x : false ≡ true = h in cc)
within_more defs (suc deep) Char h = refl
within_more defs (suc deep) Int h = refl
within_more defs (suc deep) Unsigned h = refl
within_more defs (suc deep) Void h = refl
within_more defs (suc deep) (Pointer t) h = or_more (is_struct t) (is_within defs deep t) (is_within defs (suc deep) t) (within_more defs deep t) h
within_more defs (suc deep) (Array t n) h = within_more defs deep t h
within_more defs (suc deep) (Struct s) h = all_within (is_within defs deep) (is_within defs (suc deep)) (λ t. within_more defs deep t) (members_of defs s) h

-- ---- parts of aggregates

chosen : (b : Bool) (t u : Plain) → (if b then Some t else None) ≡ Some u → (b ≡ true) × (t ≡ u)
chosen true t u h = let x : Some t ≡ Some u = h in let e : t ≡ u = cc in (refl, e)
chosen false t u h = absurd (let x : None ≡ Some u = h in cc)

member_within : (b : Plain → Bool) (ms : List Member) (k : ℕ) (u : Plain) → option_map (λ m. plain m.ctype) (slice_get ms k) ≡ Some u → are_within b ms ≡ true → b u ≡ true
member_within b [] k u h w = absurd (let x : None ≡ Some u = h in cc)
member_within b (m ∷ ms) zero u h w = let x : Some (plain m.ctype) ≡ Some u = h in let e : plain m.ctype ≡ u = cc in ap b (sym e) ∙ and_left (b (plain m.ctype)) (are_within b ms) w
member_within b (m ∷ ms) (suc k) u h w = member_within b ms k u h (and_right (b (plain m.ctype)) (are_within b ms) w)

member_complete : (defs : List StructDef) (ms : List Member) (k : ℕ) (u : Plain) → option_map (λ m. plain m.ctype) (slice_get ms k) ≡ Some u → AreComplete defs ms → is_complete defs u ≡ true
member_complete defs [] k u h w = absurd (let x : None ≡ Some u = h in cc)
member_complete defs (m ∷ ms) zero u h w = let x : Some (plain m.ctype) ≡ Some u = h in let e : plain m.ctype ≡ u = cc in ap (is_complete defs) (sym e) ∙ w.0
member_complete defs (m ∷ ms) (suc k) u h w = member_complete defs ms k u h w.1

member_adds : (f : Plain → ℕ) (ms : List Member) (k : ℕ) (u : Plain) → option_map (λ m. plain m.ctype) (slice_get ms k) ≡ Some u → leaves_of_members f (take (suc k) ms) ≡ leaves_of_members f (take k ms) + f u
member_adds f [] k u h = absurd (let x : None ≡ Some u = h in cc)
member_adds f (m ∷ ms) zero u h = let x : Some (plain m.ctype) ≡ Some u = h in let e : plain m.ctype ≡ u = cc in omega (arith, ap f e)
member_adds f (m ∷ ms) (suc k) u h = omega (arith, member_adds f ms k u h)

split_members : (f : Plain → ℕ) (ms : List Member) (k : ℕ) → leaves_of_members f (take k ms) + leaves_of_members f (drop k ms) ≡ leaves_of_members f ms
split_members f [] zero = refl
split_members f [] (suc k) = refl
split_members f (m ∷ ms) zero = omega arith
split_members f (m ∷ ms) (suc k) = omega (arith, split_members f ms k)

zeros_length : (defs : List StructDef) (ms : List Member) → length (zeros_of_members defs ms) ≡ leaves_of_members (leaf_count defs deepest) ms
zeros_length defs [] = refl
zeros_length defs (m ∷ ms) =
    length-append (zeros defs (plain m.ctype)) (zeros_of_members defs ms) ∙
    (λ i. length-replicate (leaf_count defs deepest (plain m.ctype)) (Bits 0) i + zeros_length defs ms i)

more_items : (k l : ℕ) → suc k * l ≡ k * l + l
more_items k l = omega arith

shared : (k d l : ℕ) → k * l + d * l ≡ (k + d) * l
shared k d l = omega arith

less : (k n : ℕ) → nat_lt k n ≡ true → suc k ≤ n
less k n h = grind arith

at_most : (k n : ℕ) → nat_le k n ≡ true → k ≤ n
at_most k n h = grind arith

holds_true : (b : Bool) (r at : ℕ) → holds b r at ≡ nothing → b ≡ true
holds_true true r at h = refl
holds_true false r at h = absurd (let x : Broken r at ≡ nothing = h in cc)

beside_left : (f g : Finding) → (f beside g) ≡ nothing → f ≡ nothing
beside_left (Known fine) g h = refl
beside_left (Unknown name) (Known y) h = absurd (let x : Unknown name ≡ nothing = h in cc)
beside_left (Unknown name) (Unknown n) h = absurd (let x : Unknown name ≡ nothing = h in cc)
beside_left (Unknown name) (Broken r at) h = absurd (let x : Broken r at ≡ nothing = h in cc)
beside_left (Broken r at) g h = absurd (let x : Broken r at ≡ nothing = h in cc)

beside_right : (g : Finding) → (nothing beside g) ≡ nothing → g ≡ nothing
beside_right (Known fine) h = refl
beside_right (Unknown name) h = absurd (let x : Unknown name ≡ nothing = h in cc)
beside_right (Broken r at) h = absurd (let x : Broken r at ≡ nothing = h in cc)

-- the leaves of an aggregate's first parts
abbrev first_parts : List StructDef → Plain → ℕ → ℕ
first_parts defs (Array t n) k = k * leaf_count defs deepest t
first_parts defs (Struct s) k = leaves_of_members (leaf_count defs deepest) (take k (members_of defs s))
first_parts defs t k = 0

abbrev IsAtMost : Plain → ℕ → Type 0
IsAtMost (Array t n) k = k ≤ n
IsAtMost t k = Unit {0}

all_parts : (defs : List StructDef) (t : Plain) (k : ℕ) → is_aggregate t ≡ true → IsAtMost t k → first_parts defs t k + length (rest defs t k) ≡ leaf_count defs (suc deepest) t
all_parts defs Char k a h = absurd (let x : false ≡ true = a in cc)
all_parts defs Int k a h = absurd (let x : false ≡ true = a in cc)
all_parts defs Unsigned k a h = absurd (let x : false ≡ true = a in cc)
all_parts defs Void k a h = absurd (let x : false ≡ true = a in cc)
all_parts defs (Pointer t) k a h = absurd (let x : false ≡ true = a in cc)
all_parts defs (Array t n) k a h =
    let l = leaf_count defs deepest t in
    let e : k + (n - k) ≡ n = omega (arith, h) in
    ap (λ m. k * l + m) (length-replicate ((n - k) * l) (Bits 0)) ∙ (shared k (n - k) l ∙ ap (λ m. m * l) e)
all_parts defs (Struct s) k a h =
    ap (λ m. leaves_of_members (leaf_count defs deepest) (take k (members_of defs s)) + m) (zeros_length defs (drop k (members_of defs s))) ∙
    split_members (leaf_count defs deepest) (members_of defs s) k

none_yet : (defs : List StructDef) (t : Plain) → IsAtMost t 0 × (0 ≡ first_parts defs t 0)
none_yet defs Char = (tt, refl)
none_yet defs Int = (tt, refl)
none_yet defs Unsigned = (tt, refl)
none_yet defs Void = (tt, refl)
none_yet defs (Pointer t) = (tt, refl)
none_yet defs (Array t n) = (omega arith, omega arith)
none_yet defs (Struct s) = (tt, refl)

module _ (v : Environment) where
  -- a part is within the limits of its aggregate
  part_known : (whole : AreWhole v.defs) (t : Plain) (k : ℕ) (u : Plain) → part_of v t k ≡ Some u → is_within v.defs (suc deepest) t ≡ true → is_complete v.defs t ≡ true
      → (is_within v.defs deepest u ≡ true) × (is_complete v.defs u ≡ true) × IsAtMost t (suc k) × (first_parts v.defs t (suc k) ≡ first_parts v.defs t k + leaf_count v.defs deepest u)
  part_known whole Char k u h w c = absurd (let x : None ≡ Some u = h in cc)
  part_known whole Int k u h w c = absurd (let x : None ≡ Some u = h in cc)
  part_known whole Unsigned k u h w c = absurd (let x : None ≡ Some u = h in cc)
  part_known whole Void k u h w c = absurd (let x : None ≡ Some u = h in cc)
  part_known whole (Pointer t) k u h w c = absurd (let x : None ≡ Some u = h in cc)
  part_known whole (Array t n) k u h w c =
      let e = chosen (nat_lt k n) t u h in (
        ap (is_within v.defs deepest) (sym e.1) ∙ w,
        ap (is_complete v.defs) (sym e.1) ∙ and_right (nat_le 1 n) (is_complete v.defs t) c,
        less k n e.0,
        more_items k (leaf_count v.defs deepest t) ∙ ap (λ x. k * leaf_count v.defs deepest t + leaf_count v.defs deepest x) e.1,
      )
  part_known whole (Struct s) k u h w c = (
    member_within (is_within v.defs deepest) (members_of v.defs s) k u h w,
    member_complete v.defs (members_of v.defs s) k u h (whole s),
    tt,
    member_adds (leaf_count v.defs deepest) (members_of v.defs s) k u h,
  )

  -- ---- expressions

  bits_length : (t : Plain) (o : Option ℕ) → length (bits_of t o) ≡ 1
  bits_length t None = refl
  bits_length t (Some n) = refl

  spot_length : (s : Option Spot) → length (spot_begin v s) ≡ 1
  spot_length None = refl
  spot_length (Some s) = refl

  text_length : (k : ℕ) (o : Option (List ℕ)) (s : Option Spot) → length (elim o as (λ _. List Begin) [ Some text ↦ Text k ∷ [] | None ↦ spot_begin v s ]) ≡ 1
  text_length k None s = spot_length s
  text_length k (Some text) s = refl

  address_length : (k : ℕ) (e : Tree) (n : Option ℕ) → length (address_begin v k e n) ≡ 1
  address_length k e None = text_length k (text_of e) (spot v e)
  address_length k e (Some n) = refl

  characters_length : (n : ℕ) (text : List ℕ) → nat_le (length text) n ≡ true → length (characters n (Some text)) ≡ n * 1
  characters_length n text h =
      let l = at_most (length text) n h in
      length-append (map character text) (replicate (n - length text) (Bits 0)) ∙
      ((λ i. length-map text character i + length-replicate (n - length text) (Bits 0) i) ∙ (let e : length text + (n - length text) ≡ n * 1 = omega (arith, l) in e))

  string_length : (t : Plain) (n : ℕ) (o : Option (List ℕ)) → fits t n o ≡ true → length (characters n o) ≡ n * leaf_count v.defs 63 t
  string_length t n None h = absurd (let x : false ≡ true = h in cc)
  string_length Char n (Some text) h = characters_length n text h
  string_length Int n (Some text) h = absurd (let x : false ≡ true = h in cc)
  string_length Unsigned n (Some text) h = absurd (let x : false ≡ true = h in cc)
  string_length Void n (Some text) h = absurd (let x : false ≡ true = h in cc)
  string_length (Pointer t) n (Some text) h = absurd (let x : false ≡ true = h in cc)
  string_length (Array t m) n (Some text) h = absurd (let x : false ≡ true = h in cc)
  string_length (Struct s) n (Some text) h = absurd (let x : false ≡ true = h in cc)

  value_length : (k : ℕ) (t : Plain) (e : Tree) → is_complete v.defs t ≡ true → value_found v t e ≡ nothing → length (value_begins v k t e) ≡ leaf_count v.defs deepest t
  unfolding deepest
  value_length k Char e c h = bits_length Char (number v e)
  value_length k Int e c h = bits_length Int (number v e)
  value_length k Unsigned e c h = bits_length Unsigned (number v e)
  value_length k Void e c h = absurd (let x : false ≡ true = c in cc)
  value_length k (Pointer t) e c h = address_length k e (number v e)
  value_length k (Array t n) e c h = string_length t n (text_of e) (holds_true (fits t n (text_of e)) 13 (place_of e).at h)
  value_length k (Struct s) e c h = absurd (let x : Broken 13 (place_of e).at ≡ nothing = h in cc)

  -- ---- lists in braces

  abbrev Fills : InitialTree → Type 0
  Fills i = (k : ℕ) (t : Plain) → is_within v.defs deepest t ≡ true → is_complete v.defs t ≡ true → initial_found v t i ≡ nothing → length (begins_of v k t i) ≡ leaf_count v.defs deepest t

  abbrev Begins : InitialTree → Type 0
  Begins i = (k : ℕ) (t : Plain) → is_within v.defs deepest t ≡ true → is_complete v.defs t ≡ true → initial_found v t i ≡ nothing
      → (is_aggregate t ≡ true) × IsAtMost t (count_of i) × (length (items_begin v k t i) ≡ first_parts v.defs t (count_of i))

  rest_of : (i : InitialTree) → IsList i → (t : Plain) → behind_items v.defs t i ≡ rest v.defs t (count_of i)
  rest_of (Value e) l t = absurd l
  rest_of (Braces at) l t = refl
  rest_of (Item i j) l t = refl

  list_fills : (i : InitialTree) → IsList i → Begins i → Fills i
  list_fills i l b k t w c h =
      let p = b k t w c h in
      length-append (items_begin v k t i) (behind_items v.defs t i) ∙
      ((λ x. p.2 x + length (rest_of i l t x)) ∙ (all_parts v.defs t (count_of i) p.0 p.1 ∙ sym (count_stays v.defs deepest t w)))

  part_fills : (whole : AreWhole v.defs) (t : Plain) (n k m : ℕ) (o : Option Plain) (j : InitialTree) → Fills j → is_within v.defs (suc deepest) t ≡ true → is_complete v.defs t ≡ true → part_of v t n ≡ o
      → (elim o as (λ _. Finding) [ None ↦ Broken (rule_of t) (initial_at j) | Some u ↦ initial_found v u j ]) ≡ nothing → m ≡ first_parts v.defs t n
      → IsAtMost t (suc n) × (m + length (elim o as (λ _. List Begin) [ None ↦ [] | Some u ↦ items_begin v k u j ++ behind_items v.defs u j ]) ≡ first_parts v.defs t (suc n))
  part_fills whole t n k m None j f w c e h q = absurd (let x : Broken (rule_of t) (initial_at j) ≡ nothing = h in cc)
  part_fills whole t n k m (Some u) j f w c e h q =
      let p = part_known whole t n u e w c in
      (p.2, (λ x. q x + f k u p.0 p.1 h x) ∙ sym p.3)

  item_fills : (whole : AreWhole v.defs) (i j : InitialTree) → Begins i → Fills j → Begins (Item i j)
  item_fills whole i j b f k t w c h =
      let left = beside_left (initial_found v t i) (elim (part_of v t (count_of i)) as (λ _. Finding) [ None ↦ Broken (rule_of t) (initial_at j) | Some u ↦ initial_found v u j ]) h in
      let right = beside_right (elim (part_of v t (count_of i)) as (λ _. Finding) [ None ↦ Broken (rule_of t) (initial_at j) | Some u ↦ initial_found v u j ])
      (ap (λ x. x beside (elim (part_of v t (count_of i)) as (λ _. Finding) [ None ↦ Broken (rule_of t) (initial_at j) | Some u ↦ initial_found v u j ])) (sym left) ∙ h) in
      let p = b k t w c left in
      let q = part_fills whole t (count_of i) (k + length (strings_of v t i)) (length (items_begin v k t i)) (part_of v t (count_of i)) j f (within_more v.defs deepest t w) c refl right p.2 in
      (p.0, q.0, length-append (items_begin v k t i) (elim (part_of v t (count_of i)) as (λ _. List Begin) [ None ↦ [] | Some u ↦ items_begin v (k + length (strings_of v t i)) u j ++ behind_items v.defs u j ]) ∙ q.1)

  braces_begin : (at : Place) → Begins (Braces at)
  braces_begin at k t w c h = let n = none_yet v.defs t in (holds_true (is_aggregate t) (rule_of t) at.at h, n.0, n.1)

  value_fills : (e : Tree) → Fills (Value e)
  value_fills e k t w c h =
      let n : length (value_begins v k t e) + 0 ≡ leaf_count v.defs deepest t = omega (arith, value_length k t e c h) in
      length-append (value_begins v k t e) [] ∙ n

  mutual
    pub fills : AreWhole v.defs → (i : InitialTree) → IsInitial i → Fills i
    fills whole (Value e) l = value_fills e
    fills whole (Braces at) l = list_fills (Braces at) tt (braces_begin at)
    fills whole (Item i j) l = list_fills (Item i j) l (item_fills whole i j (begins whole i l.0) (fills whole j l.1))

    begins : AreWhole v.defs → (i : InitialTree) → IsList i → Begins i
    begins whole (Value e) l = absurd l
    begins whole (Braces at) l = braces_begin at
    begins whole (Item i j) l = item_fills whole i j (begins whole i l.0) (fills whole j l.1)
