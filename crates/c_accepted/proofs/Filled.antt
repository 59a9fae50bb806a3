-- An initializer gives each leaf of its object what a leaf of its kind may hold, where the expressions in it do.
use Rattle.std.proofs.Common.{◌≡◌, ◌≤◌, refl, sym, ap, ◌∙◌, subst, arith, ℕ, zero, suc, ◌+◌, ◌-◌, ◌*◌, Bool, true, false, true≢false, List, [], ◌∷◌, ◌++◌, length, map, take, drop, replicate, slice_get, append_assoc, length-append, Option, Some, None, option_map, if◌then◌else◌}
use Rattle.std.specs.Prelude.{nat_le, nat_lt}
use Rattle.c_lex.specs.declared.token.Place.{Place}
use Rattle.c_trees.specs.Expressions.{Tree}
use Rattle.c_trees.specs.Initializers.{InitialTree, Value, Braces, Item}
use Rattle.ldb_words.specs.declared.kinds.Kind.{Kind}
use Rattle.c_tree.specs.declared.types.StructDef.{StructDef}
use Rattle.c_tree.specs.declared.types.Member.{Member}
use Rattle.c_tree.specs.declared.rows.Program.{Program}
use Rattle.c_tree.specs.Layout.{members_of}
use Rattle.c_typing.specs.Plain.{Plain, Char, Int, Unsigned, Void, Pointer, Array, Struct, plain, is_complete}
use Rattle.c_defs.specs.Depths.{deepest, is_within, are_within}
use Rattle.c_defs.specs.Leaves.{leaf_count}
use Rattle.c_judge.specs.Answers.{Broken}
use Rattle.c_scope.specs.Findings.{Finding, nothing, holds}
use Rattle.c_scope.specs.Spelling.{initial_at}
use Rattle.c_scope.specs.Environment.{Environment}
use Rattle.c_initial.specs.Initials.{rule_of, is_aggregate, count_of, part_of, value_found, initial_found}
use Rattle.c_initial.specs.Begins.{Begin, Bits, zeros, zeros_of_members, rest, behind_items, value_begins, strings_of_value, strings_of, items_begin, begins_of}
use Rattle.c_initial.specs.Filled.{IsInitial, IsList, AreComplete, AreWhole}
use Rattle.c_file.specs.Files.{State}
use Rattle.c_file.specs.Made.{started}
use Rattle.c_accepted.specs.Grown.{ctype_of}
use Rattle.c_accepted.proofs.Growth.{both_parts}
use Rattle.c_accepted.proofs.Structs.{within_more}
use Rattle.c_accepted.proofs.Walked.{two_parts}
use Rattle.c_accepted.proofs.KindsOfLeaves.{times_of, kinds_of_all, kinds_of, kinds_count, Hold, both_hold, one_zero}

-- ---- kinds of parts

same_kinds : (f k : Plain → List Kind) (b : Plain → Bool) → ((t : Plain) → b t ≡ true → f t ≡ k t) → (ms : List Member) → are_within b ms ≡ true → kinds_of_all f (map ctype_of ms) ≡ kinds_of_all k (map ctype_of ms)
same_kinds f k b e [] h = refl
same_kinds f k b e (m ∷ ms) h =
    let q = both_parts (b (ctype_of m)) (are_within b ms) h in
    λ i. e (ctype_of m) q.0 i ++ same_kinds f k b e ms q.1 i

kinds_stay : (defs : List StructDef) (n : ℕ) (t : Plain) → is_within defs n t ≡ true → kinds_of defs n t ≡ kinds_of defs (suc n) t
kinds_stay defs zero t h = absurd (true≢false (sym h))
kinds_stay defs (suc n) Char h = refl
kinds_stay defs (suc n) Int h = refl
kinds_stay defs (suc n) Unsigned h = refl
kinds_stay defs (suc n) Void h = refl
kinds_stay defs (suc n) (Pointer t) h = refl
kinds_stay defs (suc n) (Array t k) h = ap (times_of k) (kinds_stay defs n t h)
kinds_stay defs (suc n) (Struct s) h = same_kinds (kinds_of defs n) (kinds_of defs (suc n)) (is_within defs n) (λ t k. kinds_stay defs n t k) (members_of defs s) h

times_both : (a b : ℕ) (ks : List Kind) → times_of a ks ++ times_of b ks ≡ times_of (a + b) ks
times_both zero b ks = ap (λ n. times_of n ks) (let e : b ≡ 0 + b = omega arith in e)
times_both (suc a) b ks =
    append_assoc ks (times_of a ks) (times_of b ks) ∙ ap (λ l. ks ++ l) (times_both a b ks) ∙ ap (λ n. times_of n ks) (let e : suc (a + b) ≡ suc a + b = omega arith in e)

nothing_behind : (ks : List Kind) → ks ++ [] ≡ ks
nothing_behind [] = refl
nothing_behind (k ∷ ks) = ap (λ l. k ∷ l) (nothing_behind ks)

times_last : (a : ℕ) (ks : List Kind) → times_of (suc a) ks ≡ times_of a ks ++ ks
times_last a ks =
    ap (λ n. times_of n ks) (let e : suc a ≡ a + 1 = omega arith in e) ∙ sym (times_both a 1 ks) ∙ ap (λ l. times_of a ks ++ l) (nothing_behind ks)

parts_both : (f : Plain → List Kind) (ms : List Member) (k : ℕ) → kinds_of_all f (map ctype_of (take k ms)) ++ kinds_of_all f (map ctype_of (drop k ms)) ≡ kinds_of_all f (map ctype_of ms)
parts_both f [] zero = refl
parts_both f [] (suc k) = refl
parts_both f (m ∷ ms) zero = refl
parts_both f (m ∷ ms) (suc k) = append_assoc (f (ctype_of m)) (kinds_of_all f (map ctype_of (take k ms))) (kinds_of_all f (map ctype_of (drop k ms))) ∙ ap (λ l. f (ctype_of m) ++ l) (parts_both f ms k)

member_last : (f : Plain → List Kind) (ms : List Member) (k : ℕ) (u : Plain) → option_map (λ (m : Member). plain m.ctype) (slice_get ms k) ≡ Some u → kinds_of_all f (map ctype_of (take (suc k) ms)) ≡ kinds_of_all f (map ctype_of (take k ms)) ++ f u
member_last f [] k u h = absurd (let x : None ≡ Some u = h in cc)
member_last f (m ∷ ms) zero u h = let x : Some (plain m.ctype) ≡ Some u = h in let e : plain m.ctype ≡ u = cc in nothing_behind (f (plain m.ctype)) ∙ ap f e
member_last f (m ∷ ms) (suc k) u h = ap (λ l. f (ctype_of m) ++ l) (member_last f ms k u h) ∙ sym (append_assoc (f (ctype_of m)) (kinds_of_all f (map ctype_of (take k ms))) (f u))

member_within : (b : Plain → Bool) (ms : List Member) (k : ℕ) (u : Plain) → option_map (λ (m : Member). plain m.ctype) (slice_get ms k) ≡ Some u → are_within b ms ≡ true → b u ≡ true
member_within b [] k u h w = absurd (let x : None ≡ Some u = h in cc)
member_within b (m ∷ ms) zero u h w = let x : Some (plain m.ctype) ≡ Some u = h in let e : plain m.ctype ≡ u = cc in ap b (sym e) ∙ (both_parts (b (plain m.ctype)) (are_within b ms) w).0
member_within b (m ∷ ms) (suc k) u h w = member_within b ms k u h (both_parts (b (plain m.ctype)) (are_within b ms) w).1

member_complete : (defs : List StructDef) (ms : List Member) (k : ℕ) (u : Plain) → option_map (λ (m : Member). plain m.ctype) (slice_get ms k) ≡ Some u → AreComplete defs ms → is_complete defs u ≡ true
member_complete defs [] k u h w = absurd (let x : None ≡ Some u = h in cc)
member_complete defs (m ∷ ms) zero u h w = let x : Some (plain m.ctype) ≡ Some u = h in let e : plain m.ctype ≡ u = cc in ap (is_complete defs) (sym e) ∙ w.0
member_complete defs (m ∷ ms) (suc k) u h w = member_complete defs ms k u h w.1

chosen : (b : Bool) (t u : Plain) → (if b then Some t else None) ≡ Some u → (b ≡ true) × (t ≡ u)
chosen true t u h = let x : Some t ≡ Some u = h in let e : t ≡ u = cc in (refl, e)
chosen false t u h = absurd (let x : None ≡ Some u = h in cc)

less : (k n : ℕ) → nat_lt k n ≡ true → suc k ≤ n
less k n h = grind arith

holds_true : (b : Bool) (r at : ℕ) → holds b r at ≡ nothing → b ≡ true
holds_true true r at h = refl
holds_true false r at h = absurd (let x : Broken r at ≡ nothing = h in cc)

abbrev first_kinds : List StructDef → Plain → ℕ → List Kind
first_kinds defs (Array t n) k = times_of k (kinds_of defs deepest t)
first_kinds defs (Struct s) k = kinds_of_all (kinds_of defs deepest) (map ctype_of (take k (members_of defs s)))
first_kinds defs t k = []

abbrev rest_kinds : List StructDef → Plain → ℕ → List Kind
rest_kinds defs (Array t n) k = times_of (n - k) (kinds_of defs deepest t)
rest_kinds defs (Struct s) k = kinds_of_all (kinds_of defs deepest) (map ctype_of (drop k (members_of defs s)))
rest_kinds defs t k = []

abbrev IsAtMost : Plain → ℕ → Type 0
IsAtMost (Array t n) k = k ≤ n
IsAtMost t k = Unit {0}

all_parts : (defs : List StructDef) (t : Plain) (k : ℕ) → is_aggregate t ≡ true → IsAtMost t k → first_kinds defs t k ++ rest_kinds defs t k ≡ kinds_of defs (suc deepest) t
all_parts defs Char k a h = absurd (true≢false (sym a))
all_parts defs Int k a h = absurd (true≢false (sym a))
all_parts defs Unsigned k a h = absurd (true≢false (sym a))
all_parts defs Void k a h = absurd (true≢false (sym a))
all_parts defs (Pointer t) k a h = absurd (true≢false (sym a))
all_parts defs (Array t n) k a h = times_both k (n - k) (kinds_of defs deepest t) ∙ ap (λ m. times_of m (kinds_of defs deepest t)) (let e : k + (n - k) ≡ n = omega (arith, h) in e)
all_parts defs (Struct s) k a h = parts_both (kinds_of defs deepest) (members_of defs s) k

none_yet : (defs : List StructDef) (t : Plain) → IsAtMost t 0 × (first_kinds defs t 0 ≡ [])
none_yet defs Char = (tt, refl)
none_yet defs Int = (tt, refl)
none_yet defs Unsigned = (tt, refl)
none_yet defs Void = (tt, refl)
none_yet defs (Pointer t) = (tt, refl)
none_yet defs (Array t n) = (omega arith, refl)
none_yet defs (Struct s) = (tt, refl)

module _ (p : Program) (q : State) (unit : ℕ) (v : Environment) where
  abbrev pub Gives : List Kind → List Begin → Type 0
  Gives ks bs = Hold p ks (map (started q unit) bs)

  -- what an expression gives, where its strings are among those of the program
  abbrev pub ValueGives : Tree → Type 0
  ValueGives e = (k : ℕ) (t : Plain) → is_within v.defs deepest t ≡ true → is_complete v.defs t ≡ true → value_found v t e ≡ nothing → k + length (strings_of_value v t e) ≤ length p.strings → Gives (kinds_of v.defs deepest t) (value_begins v k t e)

module _ (p : Program) (q : State) (unit : ℕ) (v : Environment) (w : AreWhole v.defs) where
  abbrev Given : List Kind → List Begin → Type 0
  Given ks bs = Gives p q unit v ks bs

  gives_both : (ks ls : List Kind) (xs ys : List Begin) → Given ks xs → Given ls ys → Given (ks ++ ls) (xs ++ ys)
  gives_both ks ls xs ys h g = subst (Hold p (ks ++ ls)) (sym (both_maps xs ys)) (both_hold p ks ls (map (started q unit) xs) (map (started q unit) ys) h g)
    where
      both_maps : (xs ys : List Begin) → map (started q unit) (xs ++ ys) ≡ map (started q unit) xs ++ map (started q unit) ys
      both_maps [] ys = refl
      both_maps (x ∷ xs) ys = ap (λ l. started q unit x ∷ l) (both_maps xs ys)

  zeros_give : (ks : List Kind) (n : ℕ) → length ks ≡ n → Given ks (replicate n (Bits 0))
  zeros_give [] zero e = tt
  zeros_give (k ∷ ks) (suc n) e = (one_zero p k, zeros_give ks n (let f : length ks ≡ n = omega (arith, e) in f))
  zeros_give [] (suc n) e = absurd (omega (arith, e))
  zeros_give (k ∷ ks) zero e = absurd (omega (arith, e))

  members_give : (ms : List Member) → Given (kinds_of_all (kinds_of v.defs deepest) (map ctype_of ms)) (zeros_of_members v.defs ms)
  members_give [] = tt
  members_give (m ∷ ms) =
      gives_both (kinds_of v.defs deepest (ctype_of m)) (kinds_of_all (kinds_of v.defs deepest) (map ctype_of ms)) (zeros v.defs (plain m.ctype)) (zeros_of_members v.defs ms)
      (zeros_give (kinds_of v.defs deepest (ctype_of m)) (leaf_count v.defs deepest (ctype_of m)) (kinds_count v.defs deepest (ctype_of m))) (members_give ms)

  times_count : (n : ℕ) (ks : List Kind) → length (times_of n ks) ≡ n * length ks
  times_count zero ks = omega arith
  times_count (suc n) ks = let e = times_count n ks in let f = length-append ks (times_of n ks) in f ∙ ap (λ k. length ks + k) e ∙ (let g : length ks + n * length ks ≡ suc n * length ks = omega arith in g)

  rest_gives : (t : Plain) (k : ℕ) → Given (rest_kinds v.defs t k) (rest v.defs t k)
  rest_gives (Array t n) k = zeros_give (times_of (n - k) (kinds_of v.defs deepest t)) ((n - k) * leaf_count v.defs deepest t) (times_count (n - k) (kinds_of v.defs deepest t) ∙ ap (λ c. (n - k) * c) (kinds_count v.defs deepest t))
  rest_gives (Struct s) k = members_give (drop k (members_of v.defs s))
  rest_gives Char k = tt
  rest_gives Int k = tt
  rest_gives Unsigned k = tt
  rest_gives Void k = tt
  rest_gives (Pointer t) k = tt

  -- a part is within the limits of its aggregate
  part_known : (t : Plain) (k : ℕ) (u : Plain) → part_of v t k ≡ Some u → is_within v.defs (suc deepest) t ≡ true → is_complete v.defs t ≡ true
      → (is_within v.defs deepest u ≡ true) × (is_complete v.defs u ≡ true) × IsAtMost t (suc k) × (first_kinds v.defs t (suc k) ≡ first_kinds v.defs t k ++ kinds_of v.defs deepest u)
  part_known (Array t n) k u h i c =
      let e = chosen (nat_lt k n) t u h in
      let s = kinds_of v.defs deepest t in (
        ap (is_within v.defs deepest) (sym e.1) ∙ i,
        ap (is_complete v.defs) (sym e.1) ∙ (both_parts (nat_le 1 n) (is_complete v.defs t) c).1,
        less k n e.0,
        times_last k s ∙ ap (λ x. times_of k s ++ kinds_of v.defs deepest x) e.1,
      )
  part_known (Struct s) k u h i c = (
    member_within (is_within v.defs deepest) (members_of v.defs s) k u h i,
    member_complete v.defs (members_of v.defs s) k u h (w s),
    tt,
    member_last (kinds_of v.defs deepest) (members_of v.defs s) k u h,
  )
  part_known Char k u h i c = absurd (let x : None ≡ Some u = h in cc)
  part_known Int k u h i c = absurd (let x : None ≡ Some u = h in cc)
  part_known Unsigned k u h i c = absurd (let x : None ≡ Some u = h in cc)
  part_known Void k u h i c = absurd (let x : None ≡ Some u = h in cc)
  part_known (Pointer t) k u h i c = absurd (let x : None ≡ Some u = h in cc)

  abbrev pub ValuesGive : InitialTree → Type 0
  ValuesGive (Value e) = ValueGives p q unit v e
  ValuesGive (Braces at) = Unit {0}
  ValuesGive (Item i j) = ValuesGive i × ValuesGive j

  abbrev Fills : InitialTree → Type 0
  Fills i = (k : ℕ) (t : Plain) → is_within v.defs deepest t ≡ true → is_complete v.defs t ≡ true → initial_found v t i ≡ nothing → k + length (strings_of v t i) ≤ length p.strings → Given (kinds_of v.defs deepest t) (begins_of v k t i)

  abbrev Opens : InitialTree → Type 0
  Opens i = (k : ℕ) (t : Plain) → is_within v.defs deepest t ≡ true → is_complete v.defs t ≡ true → initial_found v t i ≡ nothing → k + length (strings_of v t i) ≤ length p.strings
      → (is_aggregate t ≡ true) × IsAtMost t (count_of i) × Given (first_kinds v.defs t (count_of i)) (items_begin v k t i)

  rest_of : (i : InitialTree) → IsList i → (t : Plain) → behind_items v.defs t i ≡ rest v.defs t (count_of i)
  rest_of (Value e) l t = absurd l
  rest_of (Braces at) l t = refl
  rest_of (Item i j) l t = refl

  list_fills : (i : InitialTree) → IsList i → Opens i → Fills i
  list_fills i l b k t n c h s =
      let o = b k t n c h s in
      let g = gives_both (first_kinds v.defs t (count_of i)) (rest_kinds v.defs t (count_of i)) (items_begin v k t i) (rest v.defs t (count_of i)) o.2 (rest_gives t (count_of i)) in
      let e : first_kinds v.defs t (count_of i) ++ rest_kinds v.defs t (count_of i) ≡ kinds_of v.defs deepest t = all_parts v.defs t (count_of i) o.0 o.1 ∙ sym (kinds_stay v.defs deepest t n) in
      subst (λ ks. Given ks (begins_of v k t i)) e (subst (λ bs. Given (first_kinds v.defs t (count_of i) ++ rest_kinds v.defs t (count_of i)) (items_begin v k t i ++ bs)) (sym (rest_of i l t)) g)

  abbrev PartFound : Plain → Option Plain → InitialTree → Finding
  PartFound t o j = elim o as (λ _. Finding) [ None ↦ Broken (rule_of t) (initial_at j) | Some u ↦ initial_found v u j ]

  abbrev PartBegins : ℕ → Option Plain → InitialTree → List Begin
  PartBegins k o j = elim o as (λ _. List Begin) [ None ↦ [] | Some u ↦ items_begin v k u j ++ behind_items v.defs u j ]

  abbrev PartStrings : Option Plain → InitialTree → List (List ℕ)
  PartStrings o j = elim o as (λ _. List (List ℕ)) [ None ↦ [] | Some u ↦ strings_of v u j ]

  part_fills : (t : Plain) (n k : ℕ) (before : List Begin) (o : Option Plain) (j : InitialTree) → Fills j → is_within v.defs (suc deepest) t ≡ true → is_complete v.defs t ≡ true → part_of v t n ≡ o → PartFound t o j ≡ nothing
      → k + length (PartStrings o j) ≤ length p.strings → Given (first_kinds v.defs t n) before → IsAtMost t (suc n) × Given (first_kinds v.defs t (suc n)) (before ++ PartBegins k o j)
  part_fills t n k before None j f i c e h s g = absurd (let x : Broken (rule_of t) (initial_at j) ≡ nothing = h in cc)
  part_fills t n k before (Some u) j f i c e h s g =
      let d = part_known t n u e i c in
      (d.2, subst (λ ks. Given ks (before ++ begins_of v k u j)) (sym d.3) (gives_both (first_kinds v.defs t n) (kinds_of v.defs deepest u) before (begins_of v k u j) g (f k u d.0 d.1 h s)))

  item_fills : (i j : InitialTree) → Opens i → Fills j → Opens (Item i j)
  item_fills i j b f k t n c h s =
      let q = two_parts (initial_found v t i) (PartFound t (part_of v t (count_of i)) j) h in
      let many : length (strings_of v t i ++ PartStrings (part_of v t (count_of i)) j) ≡ length (strings_of v t i) + length (PartStrings (part_of v t (count_of i)) j) = length-append (strings_of v t i) (PartStrings (part_of v t (count_of i)) j) in
      let o = b k t n c q.0 (omega (arith, s, many)) in
      let r = part_fills t (count_of i) (k + length (strings_of v t i)) (items_begin v k t i) (part_of v t (count_of i)) j f (within_more v.defs deepest t n) c refl q.1 (omega (arith, s, many)) o.2 in
      (o.0, r.0, r.1)

  braces_open : (at : Place) → Opens (Braces at)
  braces_open at k t n c h s = let z = none_yet v.defs t in (holds_true (is_aggregate t) (rule_of t) at.at h, z.0, subst (λ ks. Given ks []) (sym z.1) tt)

  value_fills : (e : Tree) → ValueGives p q unit v e → Fills (Value e)
  value_fills e g k t n c h s = subst (Given (kinds_of v.defs deepest t)) (sym (none_behind (value_begins v k t e))) (g k t n c h s)
    where
      none_behind : (bs : List Begin) → bs ++ [] ≡ bs
      none_behind [] = refl
      none_behind (b ∷ bs) = ap (λ l. b ∷ l) (none_behind bs)

  mutual
    pub fills : (i : InitialTree) → IsInitial i → ValuesGive i → Fills i
    fills (Value e) l g = value_fills e g
    fills (Braces at) l g = list_fills (Braces at) tt (braces_open at)
    fills (Item i j) l g = list_fills (Item i j) l (item_fills i j (opens i l.0 g.0) (fills j l.1 g.1))

    opens : (i : InitialTree) → IsList i → ValuesGive i → Opens i
    opens (Value e) l g = absurd l
    opens (Braces at) l g = braces_open at
    opens (Item i j) l g = item_fills i j (opens i l.0 g.0) (fills j l.1 g.1)
