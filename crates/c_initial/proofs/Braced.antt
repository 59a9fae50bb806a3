-- The items of initializers, one after another.
use Rattle.std.proofs.Common.{arith, ◌≡◌, ◌≢◌, ◌+◌, ◌≤◌, ℕ, zero, suc, true, false, List, [], ◌∷◌, ◌++◌, length, drop, refl, sym, ap, subst, ◌∙◌, length-append, Option, Some, None}
use Rattle.std.proofs.lemmas.List.{append_assoc}
use Rattle.c_lex.specs.declared.token.Place.{Place}
use Rattle.c_trees.specs.Initializers.{InitialTree, Braces, Item, with_items}
use Rattle.c_tree.specs.declared.types.StructDef.{StructDef}
use Rattle.c_typing.specs.Plain.{Plain, Array}
use Rattle.c_judge.specs.Answers.{Broken}
use Rattle.c_scope.specs.Findings.{Finding, nothing, ◌beside◌, holds}
use Rattle.c_scope.specs.Spelling.{initial_at}
use Rattle.c_scope.specs.Environment.{Environment}
use Rattle.c_initial.specs.Initials.{Late, bound_set, with_bound, part_of, count_of, rule_of, is_aggregate, initial_found, late_in}
use Rattle.c_initial.specs.Begins.{Begin, items_begin, behind_items, strings_of, rest}
use Rattle.c_scope.specs.declared.refusal.Refusal.{Refusal}
use Rattle.c_scope.specs.declared.refusal.Refusal.TheVariants.{Rule, NoMemory}
use Rattle.c_scope.specs.Refused.{IsRefused}
use Rattle.c_initial.specs.Starts.{Given, with_more, part_found, part_begins, part_strings}
use Rattle.c_initial.proofs.TextStarts.{count_braces}

at_more : (i : InitialTree) (js : List InitialTree) → initial_at (with_items i js) ≡ initial_at i
at_more i [] = refl
at_more i (j ∷ js) = at_more (Item i j) js

pub braces_at : (at : Place) (js : List InitialTree) → initial_at (with_items (Braces at) js) ≡ at.at
braces_at at js = at_more (Braces at) js

-- ---- what is given, and more

nil : {A : Type 0} (xs : List A) → (xs ++ []) ≡ xs
nil [] = refl
nil (x ∷ xs) = ap (λ ys. x ∷ ys) (nil xs)

more_none : (g : Given) → g ≡ with_more g [] [] []
more_none g = λ i. record { begins = sym (nil g.begins) i; strings = sym (nil g.strings) i; late = sym (nil g.late) i }

more_twice : (g : Given) (bs cs : List Begin) (ss ts : List (List ℕ)) (ls ms : List Late) → with_more (with_more g bs ss ls) cs ts ms ≡ with_more g (bs ++ cs) (ss ++ ts) (ls ++ ms)
more_twice g bs cs ss ts ls ms = λ i. record { begins = append_assoc g.begins bs cs i; strings = append_assoc g.strings ss ts i; late = append_assoc g.late ls ms i }

-- an expression gives its place last
pub value_added : (g h k : Given) (bs : List Begin) (ss : List (List ℕ)) (ls : List Late) → h ≡ with_more g bs ss [] → k.begins ≡ h.begins → k.strings ≡ h.strings → k.late ≡ (h.late ++ ls)
    → k ≡ with_more g (bs ++ []) ss ls
value_added g h k bs ss ls e b s l =
    (λ i. record { begins = b i; strings = s i; late = l i }) ∙
    (ap (λ x. record { begins = x.begins; strings = x.strings; late = x.late ++ ls }) e ∙
    (λ i. record { begins = g.begins ++ sym (nil bs) i; strings = g.strings ++ ss; late = nil g.late i ++ ls }))

-- a leaf and the strings of its expression
pub leaf_added : (g h : Given) (bs : List Begin) (ss : List (List ℕ)) → h.begins ≡ (g.begins ++ bs) → h.strings ≡ (g.strings ++ ss) → h.late ≡ g.late → h ≡ with_more g bs ss []
leaf_added g h bs ss b s l = λ i. record { begins = b i; strings = s i; late = (l ∙ sym (nil g.late)) i }

-- zeros behind the items
pub rest_added : (g h k : Given) (bs cs : List Begin) (ss : List (List ℕ)) (ls : List Late) → h ≡ with_more g bs ss ls → k.begins ≡ (h.begins ++ cs) → k.strings ≡ h.strings → k.late ≡ h.late
    → k ≡ with_more g (bs ++ cs) ss ls
rest_added g h k bs cs ss ls e b s l =
    (λ i. record { begins = b i; strings = s i; late = l i }) ∙
    (ap (λ x. record { begins = x.begins ++ cs; strings = x.strings; late = x.late }) e ∙
    (λ i. record { begins = append_assoc g.begins bs cs i; strings = g.strings ++ ss; late = g.late ++ ls }))

-- ---- items

module _ (v : Environment) (t : Plain) where
  found_of : (o : Option Plain) (j : InitialTree) → (elim o as (λ _. Finding) [ None ↦ Broken (rule_of t) (initial_at j) | Some u ↦ initial_found v u j ]) ≡ part_found v t o j
  found_of None j = refl
  found_of (Some u) j = refl

  begins_of_part : (k : ℕ) (o : Option Plain) (j : InitialTree) → (elim o as (λ _. List Begin) [ None ↦ [] | Some u ↦ items_begin v k u j ++ behind_items v.defs u j ]) ≡ part_begins v k o j
  begins_of_part k None j = refl
  begins_of_part k (Some u) j = refl

  strings_of_part : (o : Option Plain) (j : InitialTree) → (elim o as (λ _. List (List ℕ)) [ None ↦ [] | Some u ↦ strings_of v u j ]) ≡ part_strings v o j
  strings_of_part None j = refl
  strings_of_part (Some u) j = refl

  beside_part : (i j : InitialTree) (f : Finding) → initial_found v t i ≡ nothing → part_found v t (part_of v t (count_of i)) j ≡ f → (nothing beside f) ≡ f → initial_found v t (Item i j) ≡ f
  beside_part i j f h k e = ap (λ x. x beside (elim (part_of v t (count_of i)) as (λ _. Finding) [ None ↦ Broken (rule_of t) (initial_at j) | Some u ↦ initial_found v u j ])) h ∙ (ap (λ x. nothing beside x) (found_of (part_of v t (count_of i)) j ∙ k) ∙ e)

  -- a broken rule stays what is found, whatever follows
  broken_stays : (i : InitialTree) (js : List InitialTree) (r at : ℕ) → initial_found v t i ≡ Broken r at → initial_found v t (with_items i js) ≡ Broken r at
  broken_stays i [] r at h = h
  broken_stays i (j ∷ js) r at h =
      broken_stays (Item i j) js r at (ap (λ x. x beside (elim (part_of v t (count_of i)) as (λ _. Finding) [ None ↦ Broken (rule_of t) (initial_at j) | Some u ↦ initial_found v u j ])) h)

  pub no_aggregate : (at : Place) (js : List InitialTree) → is_aggregate t ≡ false → initial_found v t (with_items (Braces at) js) ≡ Broken (rule_of t) at.at
  no_aggregate at js h = broken_stays (Braces at) js (rule_of t) at.at (ap (λ b. holds b (rule_of t) at.at) h)

  pub item_refused : (i j : InitialTree) (at : Place) (js : List InitialTree) (k : ℕ) (why : Refusal) → with_items i (drop k js) ≡ with_items (Braces at) js → count_of i ≡ k → initial_found v t i ≡ nothing
      → drop k js ≡ (j ∷ drop (k + 1) js) → IsRefused (part_found v t (part_of v t k) j) why → IsRefused (initial_found v t (with_items (Braces at) js)) why
  item_refused i j at js k (Rule r n) w c f d h =
      ap (initial_found v t) (sym w ∙ ap (with_items i) d) ∙
      broken_stays (Item i j) (drop (k + 1) js) r n (beside_part i j (Broken r n) f (ap (λ m. part_found v t (part_of v t m) j) c ∙ h) refl)
  item_refused i j at js k NoMemory w c f d h = tt

  item_given : (i j : InitialTree) (first : ℕ) (g h k : Given) → h ≡ with_more g (items_begin v (first + length g.strings) t i) (strings_of v t i) (late_in v i)
      → k ≡ with_more h (part_begins v (first + length h.strings) (part_of v t (count_of i)) j) (part_strings v (part_of v t (count_of i)) j) (late_in v j)
      → k ≡ with_more g (items_begin v (first + length g.strings) t (Item i j)) (strings_of v t (Item i j)) (late_in v (Item i j))
  item_given i j first g h k e d =
      let o = part_of v t (count_of i) in
      let bs = items_begin v (first + length g.strings) t i in
      let ss = strings_of v t i in
      let n : first + length (g.strings ++ ss) ≡ first + length g.strings + length ss = omega (arith, length-append g.strings ss) in
      d ∙ (ap (λ x. with_more x (part_begins v (first + length x.strings) o j) (part_strings v o j) (late_in v j)) e ∙
      (more_twice g bs (part_begins v (first + length (g.strings ++ ss)) o j) ss (part_strings v o j) (late_in v i) (late_in v j) ∙
      (ap (λ m. with_more g (bs ++ part_begins v m o j) (ss ++ part_strings v o j) (late_in v i ++ late_in v j)) n ∙
      (λ x. with_more g (bs ++ sym (begins_of_part (first + length g.strings + length ss) o j) x) (ss ++ sym (strings_of_part o j) x) (late_in v i ++ late_in v j)))))

  abbrev pub AreAdded : (at : Place) (js : List InitialTree) (k first : ℕ) → Given → Given → Type 0
  AreAdded at js k first g h =
      (i : InitialTree) × (with_items i (drop k js) ≡ with_items (Braces at) js) × (count_of i ≡ k) × (initial_found v t i ≡ nothing) ×
      (h ≡ with_more g (items_begin v (first + length g.strings) t i) (strings_of v t i) (late_in v i))

  pub none_added : (at : Place) (js : List InitialTree) (first : ℕ) (g : Given) → is_aggregate t ≡ true → AreAdded at js 0 first g g
  none_added at js first g h = (Braces at, refl, refl, ap (λ b. holds b (rule_of t) at.at) h, more_none g)

  pub one_added : (at : Place) (js : List InitialTree) (j : InitialTree) (k first : ℕ) (g h m : Given) → AreAdded at js k first g h → drop k js ≡ (j ∷ drop (k + 1) js)
      → part_found v t (part_of v t k) j ≡ nothing → m ≡ with_more h (part_begins v (first + length h.strings) (part_of v t k) j) (part_strings v (part_of v t k) j) (late_in v j)
      → AreAdded at js (k + 1) first g m
  one_added at js j k first g h m a d f e = (
    Item a.0 j,
    ap (with_items a.0) (sym d) ∙ a.1,
    (let c : suc (count_of a.0) ≡ k + 1 = omega (arith, a.2) in c),
    beside_part a.0 j nothing a.3 (ap (λ n. part_found v t (part_of v t n) j) a.2 ∙ f) refl,
    item_given a.0 j first g h m a.4 (e ∙ ap (λ n. with_more h (part_begins v (first + length h.strings) (part_of v t n) j) (part_strings v (part_of v t n) j) (late_in v j)) (sym a.2)),
  )

  none_left : (js : List InitialTree) (k : ℕ) → length js ≤ k → drop k js ≡ []
  none_left [] zero h = refl
  none_left [] (suc k) h = refl
  none_left (j ∷ js) zero h = absurd (omega arith)
  none_left (j ∷ js) (suc k) h = none_left js k (omega arith)

  pub all_added : (at : Place) (js : List InitialTree) (k first : ℕ) (g h : Given) → AreAdded at js k first g h → length js ≤ k
      → (initial_found v t (with_items (Braces at) js) ≡ nothing) × (h ≡ with_more g (items_begin v (first + length g.strings) t (with_items (Braces at) js)) (strings_of v t (with_items (Braces at) js)) (late_in v (with_items (Braces at) js)))
  all_added at js k first g h a l =
      let e : a.0 ≡ with_items (Braces at) js = sym (ap (with_items a.0) (none_left js k l)) ∙ a.1 in
      subst (λ i. (initial_found v t i ≡ nothing) × (h ≡ with_more g (items_begin v (first + length g.strings) t i) (strings_of v t i) (late_in v i))) e (a.3, a.4)

-- ---- the zeros behind a list in braces

behind_more : (defs : List StructDef) (t : Plain) (i j : InitialTree) (js : List InitialTree) → behind_items defs t (with_items (Item i j) js) ≡ rest defs t (count_of (with_items (Item i j) js))
behind_more defs t i j [] = refl
behind_more defs t i j (k ∷ js) = behind_more defs t (Item i j) k js

pub behind_braces : (defs : List StructDef) (t : Plain) (at : Place) (js : List InitialTree) → behind_items defs t (with_items (Braces at) js) ≡ rest defs t (length js)
behind_braces defs t at [] = refl
behind_braces defs t at (j ∷ js) = behind_more defs t (Braces at) j js ∙ ap (rest defs t) (count_braces at (j ∷ js))

-- ---- bounds

bound_more : (t : Plain) (i j : InitialTree) (js : List InitialTree) → bound_set t (with_items (Item i j) js) ≡ count_of (with_items (Item i j) js)
bound_more t i j [] = refl
bound_more t i j (k ∷ js) = bound_more t (Item i j) k js

pub bound_braces : (t : Plain) (at : Place) (js : List InitialTree) → bound_set t (with_items (Braces at) js) ≡ length js
bound_braces t at [] = refl
bound_braces t at (j ∷ js) = bound_more t (Braces at) j js ∙ count_braces at (j ∷ js)

pub bound_kept : (t : Plain) (n : ℕ) (i : InitialTree) → n ≢ 0 → with_bound (Array t n) i ≡ Array t n
bound_kept t zero i h = absurd (h refl)
bound_kept t (suc n) i h = refl

pub bound_given : (t : Plain) (n : ℕ) (i : InitialTree) → n ≡ 0 → with_bound (Array t n) i ≡ Array t (bound_set t i)
bound_given t n i h = ap (λ m. with_bound (Array t m) i) h
