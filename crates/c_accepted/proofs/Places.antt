-- The places that an initializer tells are in objects that are declared in its file (C90 6.4, 6.5.7).
use Rattle.std.proofs.Common.{◌≡◌, ◌⊎◌, inl, inr, refl, sym, ap, ◌∙◌, subst, arith, ℕ, zero, suc, ◌-◌, ◌*◌, ◌==◌, Bool, true, false, ◌||◌, List, [], ◌∷◌, ◌++◌, length, map, drop, replicate, Option, Some, None, bytes_eq, if◌then◌else◌}
use Rattle.std.specs.Prelude.{nat_le, slice_get, option_map, option_and_then}
use Rattle.std.specs.List.{AllByRecursion}
use Rattle.std.proofs.lemmas.Slice.Eq.{bytes_eq-Decides}
use Rattle.c_symbol.specs.declared.symbol.LeafKind.TheVariants as leaf
use Rattle.c_symbol.specs.declared.symbol.PrefixOp.TheVariants.{Address}
use Rattle.c_symbol.specs.declared.symbol.BinaryOp.TheVariants.{Add}
use Rattle.c_trees.specs.Expressions.{Tree, Leaf, Index, Prefix, Binary}
use Rattle.c_trees.specs.Initializers.{InitialTree, Value, Braces, Item}
use Rattle.c_tree.specs.declared.types.StructDef.{StructDef}
use Rattle.c_tree.specs.declared.types.Member.{Member}
use Rattle.c_tree.specs.Layout.{members_of}
use Rattle.c_defs.specs.Depths.{deepest}
use Rattle.c_defs.specs.Leaves.{leaf_count}
use Rattle.c_typing.specs.Plain.{Plain, Char, Int, Unsigned, Void, Pointer, Array, Struct, plain, same, is_complete}
use Rattle.c_typing.specs.Values.{size_of}
use Rattle.c_typing.specs.Expressions.{Denoted, Object}
use Rattle.c_judge.specs.Answers.{Broken}
use Rattle.c_judge.specs.Judgement.{judged}
use Rattle.c_judge.specs.Places.{place_of}
use Rattle.c_scope.specs.Declarators.{constant}
use Rattle.c_scope.specs.Environment.{Environment, Row, Visible, scope_of, meant, number_of, denoted_at, denoted_by}
use Rattle.c_scope.specs.Findings.{Finding, nothing}
use Rattle.c_scope.specs.Spelling.{initial_at}
use Rattle.c_initial.specs.Initials.{Spot, spot, is_spot, item_of, whole_of, text_of, number, rule_of, count_of, part_of, is_characters, address_found, value_found, initial_found, Late, late_of, late_in}
use Rattle.c_initial.specs.Begins.{Begin, Bits, Within, Text, zeros, zeros_of_members, rest, behind_items, bits_of, character, characters, spot_begin, value_begins, items_begin, begins_of}
use Rattle.c_linkage.specs.Names.{FileName}
use Rattle.c_linkage.specs.Wanted.{Awaited}
use Rattle.c_accepted.specs.Grown.{IsMade, Grows}
use Rattle.c_accepted.proofs.Growth.{both_parts, complete_grows, size_grows}
use Rattle.c_accepted.proofs.Walked.{two_parts}
use Rattle.c_accepted.proofs.Names.{all_last}
use Rattle.c_accepted.proofs.Values.{spotted, or_right}

-- ---- lists

all_parts : {A : Type 0} (P : A → Type 0) (xs ys : List A) → AllByRecursion P (xs ++ ys) → AllByRecursion P xs × AllByRecursion P ys
all_parts P [] ys h = (tt, h)
all_parts P (x ∷ xs) ys h = let q = all_parts P xs ys h.1 in ((h.0, q.0), q.1)

-- what stands in one list stands in another
abbrev pub AreAmong : {A : Type 0} → List A → List A → Type 0
AreAmong {A} xs ys = (n : ℕ) (x : A) → slice_get xs n ≡ Some x → (m : ℕ) × (slice_get ys m ≡ Some x)

-- ---- what is known of a place

-- a name is declared in a file as an object of this type
pub record IsDeclaredAs (fs : List FileName) (unit : ℕ) (text : List ℕ) (t : Plain) : Type 0 where
  pub declaration : FileName
  pub number : ℕ
  pub there : slice_get fs number ≡ Some declaration
  pub name : declaration.name ≡ text
  pub file : declaration.unit ≡ unit
  pub register : Bool
  pub denotes : declaration.denoted ≡ Object t register

-- the program's end tells whether so many items are within the object of a name
pub record IsAwaited (ls : List Awaited) (unit : ℕ) (text : List ℕ) (many : ℕ) : Type 0 where
  pub awaited : Awaited
  pub number : ℕ
  pub there : slice_get ls number ≡ Some awaited
  pub file : awaited.unit ≡ unit
  pub name : awaited.place.name ≡ text
  pub items : awaited.place.items ≡ many

-- so many bytes are some items of an array, within its bound where it tells one
pub record IsItem (defs : List StructDef) (ls : List Awaited) (unit : ℕ) (text : List ℕ) (offset : ℕ) (t : Plain) : Type 0 where
  pub ctype : Plain
  pub bound : ℕ
  pub items : ℕ
  pub array : t ≡ Array ctype bound
  pub complete : is_complete defs ctype ≡ true
  pub bytes : offset ≡ items * size_of defs ctype
  pub inside : ((bound == 0) || nat_le items bound) ≡ true
  pub late : bound ≡ 0 → IsAwaited ls unit text items

pub record IsPlace (defs : List StructDef) (fs : List FileName) (ls : List Awaited) (unit : ℕ) (text : List ℕ) (offset : ℕ) : Type 0 where
  pub ctype : Plain
  pub declared : IsDeclaredAs fs unit text ctype
  pub reached : (offset ≡ 0) ⊎ IsItem defs ls unit text offset ctype

abbrev pub IsSet : List StructDef → List FileName → List Awaited → ℕ → Begin → Type 0
IsSet defs fs ls unit (Within text n) = IsPlace defs fs ls unit text n
IsSet defs fs ls unit _ = Unit {0}

abbrev pub AreAwaited : List Awaited → ℕ → List Late → Type 0
AreAwaited ls unit places = AllByRecursion (λ (l : Late). IsAwaited ls unit l.name l.items) places

-- ---- more structs, names and places

pub declared_more : (fs gs : List FileName) (unit : ℕ) (text : List ℕ) (t : Plain) → AreAmong fs gs → IsDeclaredAs fs unit text t → IsDeclaredAs gs unit text t
declared_more fs gs unit text t w h =
    let k = w h.number h.declaration h.there in
    record { declaration = h.declaration; number = k.0; there = k.1; name = h.name; file = h.file; register = h.register; denotes = h.denotes }

module _ (before behind : List StructDef) (g : Grows before behind) (fs gs : List FileName) (names : AreAmong fs gs) (ls ms : List Awaited) (places : AreAmong ls ms) where
  awaited_more : (unit : ℕ) (text : List ℕ) (many : ℕ) → IsAwaited ls unit text many → IsAwaited ms unit text many
  awaited_more unit text many h =
      let k = places h.number h.awaited h.there in
      record { awaited = h.awaited; number = k.0; there = k.1; file = h.file; name = h.name; items = h.items }

  reached_more : (unit : ℕ) (text : List ℕ) (n : ℕ) (t : Plain) → (n ≡ 0) ⊎ IsItem before ls unit text n t → (n ≡ 0) ⊎ IsItem behind ms unit text n t
  reached_more unit text n t (inl e) = inl e
  reached_more unit text n t (inr h) = inr (record {
    ctype = h.ctype;
    bound = h.bound;
    items = h.items;
    array = h.array;
    complete = complete_grows before behind g h.ctype h.complete;
    bytes = h.bytes ∙ ap (λ k. h.items * k) (sym (size_grows before behind g h.ctype h.complete));
    inside = h.inside;
    late = λ z. awaited_more unit text h.items (h.late z);
  })

  pub set_more : (unit : ℕ) (b : Begin) → IsSet before fs ls unit b → IsSet behind gs ms unit b
  set_more unit (Within text n) h = record { ctype = h.ctype; declared = declared_more fs gs unit text h.ctype names h.declared; reached = reached_more unit text n h.ctype h.reached }
  set_more unit (Bits n) h = tt
  set_more unit (Text k) h = tt

-- ---- what expressions tell of places

-- an object in scope, and where in it
record IsSpotOf (v : Environment) (s : Spot) : Type 0 where
  ctype : Plain
  register : Bool
  means : meant v s.name ≡ Some (Object ctype register)
  reached : (s.items ≡ 0) ⊎ (ctype ≡ Array s.ctype s.bound)

module _ (v : Environment) where
  item_spot : (text : List ℕ) (o : Option Denoted) (n : Option ℕ) (s : Spot) → meant v text ≡ o → item_of text o n ≡ Some s → IsSpotOf v s
  item_spot text (Some (Object (Array t n) r)) (Some i) s e h =
      let x : Some (record { name = text; ctype = t; items = i; bound = n }) ≡ Some s = h in
      let k : ◌≡◌ {A = Spot} (record { name = text; ctype = t; items = i; bound = n }) s = cc in
      subst (IsSpotOf v) k (record { ctype = Array t n; register = r; means = e; reached = inr refl })
  item_spot text o n s e h = absurd (let x : None ≡ Some s = h in cc)

  whole_spot : (text : List ℕ) (o : Option Denoted) (s : Spot) → meant v text ≡ o → whole_of text o ≡ Some s → IsSpotOf v s
  whole_spot text (Some (Object t r)) s e h =
      let x : Some (record { name = text; ctype = t; items = 0; bound = 1 }) ≡ Some s = h in
      let k : ◌≡◌ {A = Spot} (record { name = text; ctype = t; items = 0; bound = 1 }) s = cc in
      subst (IsSpotOf v) k (record { ctype = t; register = r; means = e; reached = inl refl })
  whole_spot text o s e h = absurd (let x : None ≡ Some s = h in cc)

  spot_is : (e : Tree) (s : Spot) → spot v e ≡ Some s → IsSpotOf v s
  spot_is (Leaf at leaf.Name text) s h = item_spot text (meant v text) (Some 0) s refl h
  spot_is (Binary at Add (Leaf b leaf.Name text) c) s h = item_spot text (meant v text) (number v c) s refl h
  spot_is (Prefix at Address (Leaf b leaf.Name text)) s h = whole_spot text (meant v text) s refl h
  spot_is (Prefix at Address (Index b (Leaf c leaf.Name text) d)) s h = item_spot text (meant v text) (number v d) s refl h
  spot_is e s h = absurd (let x : None ≡ Some s = h in cc)

-- ---- names in scope

-- an object in scope is declared in the file
abbrev pub IsShown : List FileName → ℕ → List Row → Visible → Type 0
IsShown fs unit rows x = (r : Row) × (slice_get rows x.number ≡ Some r) × ((t : Plain) (g : Bool) → r.denoted ≡ Object t g → IsDeclaredAs fs unit x.name t)

meant_as : (fs : List FileName) (unit : ℕ) (v : Environment) (xs : List Visible) → AllByRecursion (IsShown fs unit v.names) xs → (text : List ℕ) (t : Plain) (g : Bool) → option_and_then (denoted_at v) (number_of xs text) ≡ Some (Object t g) → IsDeclaredAs fs unit text t
meant_as fs unit v [] h text t g e = absurd (let x : None ≡ Some (Object t g) = e in cc)
meant_as fs unit v (x ∷ xs) h text t g e = by (bytes_eq x.name text) refl e (meant_as fs unit v xs h.1 text t g)
  where
    by : (b : Bool) → bytes_eq x.name text ≡ b → option_and_then (denoted_at v) (if b then Some x.number else number_of xs text) ≡ Some (Object t g)
        → (option_and_then (denoted_at v) (number_of xs text) ≡ Some (Object t g) → IsDeclaredAs fs unit text t) → IsDeclaredAs fs unit text t
    by true k e w =
        let (r, at, is) = h.0 in
        let d : Some r.denoted ≡ Some (Object t g) = sym (ap (option_map denoted_by) at) ∙ e in
        subst (λ s. IsDeclaredAs fs unit s t) ((bytes_eq-Decides x.name text).0 k) (is t g (let same : r.denoted ≡ Object t g = cc in same))
    by false k e w = w e

-- ---- what an initializer gives

module _ (fs : List FileName) (ls : List Awaited) (unit : ℕ) (v : Environment) (shown : AllByRecursion (IsShown fs unit v.names) v.visible) (made : (text : List ℕ) (t : Plain) → IsDeclaredAs fs unit text t → IsMade v.defs t) where
  abbrev Set : Begin → Type 0
  Set b = IsSet v.defs fs ls unit b

  abbrev Sets : List Begin → Type 0
  Sets bs = AllByRecursion Set bs

  late_one : (at : ℕ) (s : Spot) → AreAwaited ls unit (late_of v at (Some s)) → s.bound ≡ 0 → IsAwaited ls unit s.name s.items
  late_one at s l z =
      let first : (s.bound == 0) ≡ true = ap (λ n. n == 0) z in
      (subst (λ b. AreAwaited ls unit (if b then record { name = s.name; items = s.items; at = at } ∷ [] else [])) first l).0

  place_set : (t : Plain) (at : ℕ) (s : Spot) → IsSpotOf v s → is_spot v t (Some s) ≡ true → AreAwaited ls unit (late_of v at (Some s)) → IsPlace v.defs fs ls unit s.name (s.items * size_of v.defs s.ctype)
  place_set t at s w h l =
      let d = meant_as fs unit v v.visible shown s.name w.ctype w.register w.means in
      record { ctype = w.ctype; declared = d; reached = by (made s.name w.ctype d) w.reached }
    where
      by : IsMade v.defs w.ctype → (s.items ≡ 0) ⊎ (w.ctype ≡ Array s.ctype s.bound) → (s.items * size_of v.defs s.ctype ≡ 0) ⊎ IsItem v.defs ls unit s.name (s.items * size_of v.defs s.ctype) w.ctype
      by m (inl e) = inl (ap (λ k. k * size_of v.defs s.ctype) e ∙ (let z : 0 * size_of v.defs s.ctype ≡ 0 = omega arith in z))
      by m (inr e) = inr (record {
        ctype = s.ctype;
        bound = s.bound;
        items = s.items;
        array = e;
        complete = (subst (IsMade v.defs) e m).1;
        bytes = refl;
        inside = (both_parts (same t s.ctype) ((s.bound == 0) || nat_le s.items s.bound) h).1;
        late = late_one at s l;
      })

  spot_set : (t : Plain) (at : ℕ) (e : Tree) → is_spot v t (spot v e) ≡ true → AreAwaited ls unit (late_of v at (spot v e)) → Sets (spot_begin v (spot v e))
  spot_set t at e h l = by (spot v e) refl h l
    where
      by : (o : Option Spot) → spot v e ≡ o → is_spot v t o ≡ true → AreAwaited ls unit (late_of v at o) → Sets (spot_begin v o)
      by None x h l = (tt, tt)
      by (Some s) x h l = (place_set t at s (spot_is v e s x) h l, tt)

  address_set : (k : ℕ) (t : Plain) (e : Tree) → address_found v t e ≡ nothing → AreAwaited ls unit (late_in v (Value e)) → Sets (value_begins v k (Pointer t) e)
  address_set k t e h l = by (number v e) refl (text_of e) refl
    where
      by : (o : Option ℕ) → number v e ≡ o → (x : Option (List ℕ)) → text_of e ≡ x
          → Sets (elim o as (λ _. List Begin) [ Some n ↦ Bits 0 ∷ [] | None ↦ (elim x as (λ _. List Begin) [ Some text ↦ Text k ∷ [] | None ↦ spot_begin v (spot v e) ]) ])
      by (Some n) f x g = (tt, tt)
      by None f (Some text) g = (tt, tt)
      by None f None g =
          let z = spotted v t e (constant (judged (scope_of v) e)) f h in
          spot_set t (place_of e).at e (or_right (is_characters v t (text_of e)) (is_spot v t (spot v e)) (ap (is_characters v t) g) z) l

  bits_set : (t : Plain) (o : Option ℕ) → Sets (bits_of t o)
  bits_set t None = (tt, tt)
  bits_set t (Some n) = (tt, tt)

  zeros_set : (n : ℕ) → Sets (replicate n (Bits 0))
  zeros_set zero = tt
  zeros_set (suc n) = (tt, zeros_set n)

  text_set : (text : List ℕ) → Sets (map character text)
  text_set [] = tt
  text_set (c ∷ text) = (tt, text_set text)

  characters_set : (n : ℕ) (o : Option (List ℕ)) → Sets (characters n o)
  characters_set n None = tt
  characters_set n (Some text) = all_last Set (map character text) (replicate (n - length text) (Bits 0)) (text_set text) (zeros_set (n - length text))

  value_set : (k : ℕ) (t : Plain) (e : Tree) → value_found v t e ≡ nothing → AreAwaited ls unit (late_in v (Value e)) → Sets (value_begins v k t e)
  value_set k (Pointer t) e h l = address_set k t e h l
  value_set k (Array t n) e h l = characters_set n (text_of e)
  value_set k Char e h l = bits_set Char (number v e)
  value_set k Int e h l = bits_set Int (number v e)
  value_set k Unsigned e h l = bits_set Unsigned (number v e)
  value_set k Void e h l = bits_set Void (number v e)
  value_set k (Struct s) e h l = bits_set (Struct s) (number v e)

  members_set : (ms : List Member) → Sets (zeros_of_members v.defs ms)
  members_set [] = tt
  members_set (m ∷ ms) = all_last Set (zeros v.defs (plain m.ctype)) (zeros_of_members v.defs ms) (zeros_set (leaf_count v.defs deepest (plain m.ctype))) (members_set ms)

  rest_set : (t : Plain) (k : ℕ) → Sets (rest v.defs t k)
  rest_set (Array t n) k = zeros_set ((n - k) * leaf_count v.defs deepest t)
  rest_set (Struct s) k = members_set (drop k (members_of v.defs s))
  rest_set Char k = tt
  rest_set Int k = tt
  rest_set Unsigned k = tt
  rest_set Void k = tt
  rest_set (Pointer t) k = tt

  behind_set : (t : Plain) (i : InitialTree) → Sets (behind_items v.defs t i)
  behind_set t (Value e) = tt
  behind_set t (Braces at) = rest_set t 0
  behind_set t (Item i j) = rest_set t (count_of (Item i j))

  abbrev PartFound : Plain → Option Plain → InitialTree → Finding
  PartFound t o j = elim o as (λ _. Finding) [ None ↦ Broken (rule_of t) (initial_at j) | Some u ↦ initial_found v u j ]

  abbrev PartBegins : ℕ → Option Plain → InitialTree → List Begin
  PartBegins k o j = elim o as (λ _. List Begin) [ None ↦ [] | Some u ↦ items_begin v k u j ++ behind_items v.defs u j ]

  part_set : (k : ℕ) (t : Plain) (o : Option Plain) (j : InitialTree) → ((u : Plain) → initial_found v u j ≡ nothing → Sets (items_begin v k u j)) → PartFound t o j ≡ nothing → Sets (PartBegins k o j)
  part_set k t None j w h = tt
  part_set k t (Some u) j w h = all_last Set (items_begin v k u j) (behind_items v.defs u j) (w u h) (behind_set u j)

  items_set : (i : InitialTree) (k : ℕ) (t : Plain) → initial_found v t i ≡ nothing → AreAwaited ls unit (late_in v i) → Sets (items_begin v k t i)
  items_set (Value e) k t h l = value_set k t e h l
  items_set (Braces at) k t h l = tt
  items_set (Item i j) k t h l =
      let q = two_parts (initial_found v t i) (PartFound t (part_of v t (count_of i)) j) h in
      let p = all_parts (λ (x : Late). IsAwaited ls unit x.name x.items) (late_in v i) (late_in v j) l in
      all_last Set (items_begin v k t i) _ (items_set i k t q.0 p.0) (part_set _ t (part_of v t (count_of i)) j (λ u g. items_set j _ u g p.1) q.1)

  -- each place that an initializer tells is one of these
  pub initial_set : (i : InitialTree) (k : ℕ) (t : Plain) → initial_found v t i ≡ nothing → AreAwaited ls unit (late_in v i) → Sets (begins_of v k t i)
  initial_set i k t h l = all_last Set (items_begin v k t i) (behind_items v.defs t i) (items_set i k t h l) (behind_set t i)
