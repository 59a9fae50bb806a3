-- Objects are defined with complete types.
use Rattle.std.proofs.Common.{◌≡◌, refl, sym, ap, ◌∙◌, subst, ℕ, zero, suc, Bool, true, false, true≢false, List, [], ◌∷◌, ◌++◌, length, Option, Some, None, if◌then◌else◌}
use Rattle.std.specs.List.{AllByRecursion}
use Rattle.c_trees.specs.Declarators.{DeclaratorTree, begins}
use Rattle.c_trees.specs.Initializers.{InitialTree, Value, Braces, Item}
use Rattle.c_trees.specs.declared.declaration.Declared.{Declared}
use Rattle.c_trees.specs.declared.declaration.Storage.{Storage}
use Rattle.c_trees.specs.declared.declaration.Storage.TheVariants as storage
use Rattle.c_trees.specs.Statements.{StatementTree}
use Rattle.c_trees.specs.declared.unit.External.{External}
use Rattle.c_trees.specs.declared.unit.External.TheVariants.{Declaration, Definition}
use Rattle.c_tree.specs.declared.types.StructDef.{StructDef}
use Rattle.c_typing.specs.Plain.{Plain, Char, Int, Unsigned, Void, Pointer, Array, Struct, is_complete}
use Rattle.c_typing.specs.Expressions as typing
use Rattle.c_typing.specs.Expressions.{Denoted}
use Rattle.c_judge.specs.Answers.{Answer, Known, Unknown, Broken, ◌then◌}
use Rattle.c_judge.specs.Places.{place_of}
use Rattle.c_scope.specs.Environment.{Environment}
use Rattle.c_scope.specs.Declarators.{Shape, Object, Function, denoted, shape}
use Rattle.c_scope.specs.Findings.{Fine, fine, nothing, holds}
use Rattle.c_initial.specs.Initials.{text_of, fits, initial_found, with_bound}
use Rattle.c_linkage.specs.declared.definitions.Manner.{Manner}
use Rattle.c_linkage.specs.declared.definitions.Manner.TheVariants.{Body}
use Rattle.c_linkage.specs.Names.{FileName, Defining, name_found}
use Rattle.c_linkage.specs.Telling.{is_unbounded}
use Rattle.c_file.specs.Files.{State, manner_of, defining, with_name, with_strings, with_definition, row_of, function_row, after_all, after_name, after_what, after_function, what, declared_found, found_as, all_found, initial_or_none, with_spec, Externals}
use Rattle.c_linkage.specs.Types.{type_or, object_type, in_limits, may_stand, is_extern, standing}
use Rattle.c_accepted.specs.Grown.{Grows}
use Rattle.c_accepted.specs.Sources.{IsInitialized, IsDeclared, IsText}
use Rattle.c_accepted.proofs.Declarations.{IsWholeIn}
use Rattle.c_accepted.proofs.Growth.{complete_grows}
use Rattle.c_accepted.proofs.Known.{never, one_known, then_known}
use Rattle.c_accepted.proofs.Merged.{grows_others}
use Rattle.c_accepted.proofs.Typed.{whole, grows_to, grows_more}
use Rattle.c_accepted.proofs.Walked.{Stands, Goes, all_keep, what_keeps, two_parts, unbroken, behind_one}

all_last : {A : Type 0} (P : A → Type 0) (xs ys : List A) → AllByRecursion P xs → AllByRecursion P ys → AllByRecursion P (xs ++ ys)
all_last P [] ys h k = k
all_last P (x ∷ xs) ys h k = (h.0, all_last P xs ys h.1 k)

all_as : {A : Type 0} (P Q : A → Type 0) → ((x : A) → P x → Q x) → (xs : List A) → AllByRecursion P xs → AllByRecursion Q xs
all_as P Q w [] h = tt
all_as P Q w (x ∷ xs) h = (w x h.0, all_as P Q w xs h.1)

-- ---- bounds

holds_known : (b : Bool) (r at : ℕ) (z : Fine) → holds b r at ≡ Known z → b ≡ true
holds_known true r at z h = refl
holds_known false r at z h = never (Broken r at) z (λ k. k) h

-- an initializer sets a bound
bound_there : (v : Environment) (t : Plain) (i : InitialTree) → IsInitialized (Some i) → initial_found v (with_bound t i) i ≡ nothing → is_unbounded (with_bound t i) ≡ false
bound_there v (Array t zero) (Value e) n h = by (text_of e) h
  where
    by : (o : Option (List ℕ)) → holds (fits t (elim o as (λ _. ℕ) [ None ↦ 0 | Some text ↦ suc (length text) ]) o) 13 (place_of e).at ≡ nothing
        → is_unbounded (Array t (elim o as (λ _. ℕ) [ None ↦ 0 | Some text ↦ suc (length text) ])) ≡ false
    by None k = absurd (true≢false (sym (holds_known false 13 (place_of e).at fine k)))
    by (Some text) k = refl
bound_there v (Array t zero) (Braces at) n h = absurd n
bound_there v (Array t zero) (Item i j) n h = refl
bound_there v (Array t (suc k)) i n h = refl
bound_there v Char i n h = refl
bound_there v Int i n h = refl
bound_there v Unsigned i n h = refl
bound_there v Void i n h = refl
bound_there v (Pointer t) i n h = refl
bound_there v (Struct s) i n h = refl

bounded_complete : (v : Environment) (b : Bool) (u : Plain) (at : ℕ) (z : Fine) → may_stand v b u at ≡ Known z → is_unbounded u ≡ false → is_complete v.defs u ≡ true
bounded_complete v b (Array t zero) at z h k = absurd (true≢false k)
bounded_complete v b (Array t (suc n)) at z h k = holds_known (is_complete v.defs (Array t (suc n))) 1 at z h
bounded_complete v b Char at z h k = refl
bounded_complete v b Int at z h k = refl
bounded_complete v b Unsigned at z h k = refl
bounded_complete v b Void at z h k = holds_known false 1 at z h
bounded_complete v b (Pointer t) at z h k = refl
bounded_complete v b (Struct s) at z h k = holds_known (is_complete v.defs (Struct s)) 1 at z h

pub plain_complete : (v : Environment) (u : Plain) (at : ℕ) (z : Fine) → may_stand v false u at ≡ Known z → is_complete v.defs u ≡ true
plain_complete v (Array t zero) at z h = absurd (true≢false (sym (holds_known false 2 at z h)))
plain_complete v (Array t (suc n)) at z h = bounded_complete v false (Array t (suc n)) at z h refl
plain_complete v Char at z h = refl
plain_complete v Int at z h = refl
plain_complete v Unsigned at z h = refl
plain_complete v Void at z h = bounded_complete v false Void at z h refl
plain_complete v (Pointer t) at z h = refl
plain_complete v (Struct s) at z h = bounded_complete v false (Struct s) at z h refl

abbrev IsBoundBy : Option InitialTree → Plain → Type 0
IsBoundBy None u = Unit {0}
IsBoundBy (Some i) u = is_unbounded u ≡ false

-- what a definition asks of the type
abbrev pub AsksFor : List StructDef → Option Manner → Denoted → Type 0
AsksFor defs None d = Unit {0}
AsksFor defs (Some m) d = (t : Plain) × (r : Bool) × (d ≡ typing.Object t r) × (is_complete defs t ≡ true)

object_whole : (v : Environment) (s : Storage) (i : Option InitialTree) (u : Plain) (at : ℕ) (z : Fine) → may_stand v (is_extern s) u at ≡ Known z → IsBoundBy i u → AsksFor v.defs (manner_of s i (typing.Object u false)) (typing.Object u false)
object_whole v storage.Extern None u at z h b = tt
object_whole v storage.Static None u at z h b = (u, false, refl, plain_complete v u at z h)
object_whole v storage.Plain None u at z h b = (u, false, refl, plain_complete v u at z h)
object_whole v s (Some i) u at z h b = (u, false, refl, bounded_complete v (is_extern s) u at z h b)

-- only objects are defined by declarations
function_whole : (defs : List StructDef) (s : Storage) (t : Plain) (ps : List Plain) → AsksFor defs (manner_of s None (typing.Function t ps)) (typing.Function t ps)
function_whole defs storage.Extern t ps = tt
function_whole defs storage.Static t ps = tt
function_whole defs storage.Plain t ps = tt

module _ (v o : Environment) where
  pub standing_whole : (s : Storage) (i : Option InitialTree) (at : ℕ) (y : Shape) (x : Denoted) → standing v s i at y ≡ Known x → IsInitialized i → ((j : InitialTree) → i ≡ Some j → initial_found o (type_or x) j ≡ nothing) → AsksFor v.defs (manner_of s i x) x
  standing_whole s i at (Object t) x h n f =
      let u = object_type t i in
      let (w, e, k) = then_known (in_limits v u at) (λ z. may_stand v (is_extern s) u at then λ y. Known (typing.Object u false)) x h in
      let (z, g, l) = then_known (may_stand v (is_extern s) u at) (λ y. Known (typing.Object u false)) x k in
      let is : typing.Object u false ≡ x = one_known (typing.Object u false) x l in
      subst (λ d. AsksFor v.defs (manner_of s i d) d) is (object_whole v s i u at z g (bound i n (λ j p. ap (λ d. initial_found o (type_or d) j) is ∙ f j p)))
    where
      bound : (i : Option InitialTree) → IsInitialized i → ((j : InitialTree) → i ≡ Some j → initial_found o (object_type t i) j ≡ nothing) → IsBoundBy i (object_type t i)
      bound None n w = tt
      bound (Some j) n w = bound_there o t j n (w j refl)
  standing_whole s None at (Function t ps) x h n f =
      let is : denoted false (Function t ps) ≡ x = one_known (denoted false (Function t ps)) x h in
      subst (λ d. AsksFor v.defs (manner_of s None d) d) is (function_whole v.defs s t _)
  standing_whole s (Some i) at (Function t ps) x h n f = never (Broken 9 at) x (λ k. k) h

-- ---- definitions

module _ (before behind : List StructDef) (g : Grows before behind) where
  whole_grows : (fs : List FileName) (d : Defining) → IsWholeIn before fs d → IsWholeIn behind fs d
  whole_grows fs d w o =
      let h = w o in
      record { declaration = h.declaration; number = h.number; there = h.there; name = h.name; unit = h.unit; linkage = h.linkage; ctype = h.ctype; register = h.register; denotes = h.denotes; complete = complete_grows before behind g h.ctype h.complete }

  pub wholes_grow : (fs : List FileName) (ds : List Defining) → AllByRecursion (IsWholeIn before fs) ds → AllByRecursion (IsWholeIn behind fs) ds
  wholes_grow fs ds h = all_as (IsWholeIn before fs) (IsWholeIn behind fs) (whole_grows fs) ds h

module _ (defs : List StructDef) (f : FileName) (fs : List FileName) where
  one_on : (d : Defining) → IsWholeIn defs fs d → IsWholeIn defs (f ∷ fs) d
  one_on d w o =
      let h = w o in
      record { declaration = h.declaration; number = suc h.number; there = h.there; name = h.name; unit = h.unit; linkage = h.linkage; ctype = h.ctype; register = h.register; denotes = h.denotes; complete = h.complete }

  wholes_on : (ds : List Defining) → AllByRecursion (IsWholeIn defs fs) ds → AllByRecursion (IsWholeIn defs (f ∷ fs)) ds
  wholes_on ds h = all_as (IsWholeIn defs fs) (IsWholeIn defs (f ∷ fs)) one_on ds h

  defined_whole : (m : Option Manner) → AsksFor defs m f.denoted → AllByRecursion (IsWholeIn defs (f ∷ fs)) (defining f m)
  defined_whole None h = tt
  defined_whole (Some m) (t, r, e, c) = ((λ o. record { declaration = f; number = 0; there = refl; name = refl; unit = refl; linkage = refl; ctype = t; register = r; denotes = e; complete = c }), tt)

abbrev pub AreWhole : List StructDef → State → Type 0
AreWhole defs p = AllByRecursion (IsWholeIn defs p.names) p.definitions

asks_grow : (before behind : List StructDef) → Grows before behind → (m : Option Manner) (d : Denoted) → AsksFor before m d → AsksFor behind m d
asks_grow before behind g None d h = tt
asks_grow before behind g (Some m) d (t, r, e, c) = (t, r, e, complete_grows before behind g t c)

module _ (here defs : List StructDef) (g : Grows here defs) (s : Storage) where
  definition_whole : (p : State) (f : FileName) (i : Option InitialTree) → AllByRecursion (IsWholeIn defs p.names) p.definitions → AllByRecursion (IsWholeIn defs p.names) (defining f (manner_of s i f.denoted)) → AreWhole defs (with_definition s p f i)
  definition_whole p f None h k = all_last (IsWholeIn defs p.names) p.definitions (defining f (manner_of s None f.denoted)) h k
  definition_whole p f (Some i) h k = all_last (IsWholeIn defs p.names) p.definitions (defining f (manner_of s (Some i) f.denoted)) h k

  module _ (t : Plain) where
    one_whole : (p : State) (d : Declared) (a : Answer Denoted) → what s t p d ≡ a → found_as s p d a ≡ nothing → IsDeclared d → p.here.defs ≡ here → AreWhole defs p → AreWhole defs (after_what s p d a)
    one_whole p d (Unknown name) e h n j w = w
    one_whole p d (Broken r at) e h n j w = w
    one_whole p d (Known x) e h n j w =
        let f = row_of s p d x in
        let m = manner_of s d.initial x in
        let after_it = after_what s p d (Known x) in
        let (y, k, l) = then_known (shape p.here d.declarator t) (λ y. standing p.here s d.initial (begins d.declarator).at y) x e in
        let q = two_parts (name_found p.names f (begins d.declarator).at) (initial_or_none s after_it d.initial x) h in
        let initial : (i : InitialTree) → d.initial ≡ Some i → initial_found after_it.here (type_or x) i ≡ nothing = λ i o. sym (ap (λ z. initial_or_none s after_it z x) o) ∙ q.1 in
        let asks = standing_whole p.here after_it.here s d.initial (begins d.declarator).at y x l n initial in
        let asks_now : AsksFor defs m x = asks_grow here defs g m x (subst (λ ds. AsksFor ds m x) j asks) in
        definition_whole (with_strings s (with_name p f) d.declarator) f d.initial (wholes_on defs f p.names p.definitions w) (defined_whole defs f p.names m asks_now)

    all_whole : (p : State) (ds : List Declared) → all_found s t p ds ≡ nothing → AllByRecursion IsDeclared ds → p.here.defs ≡ here → AreWhole defs p → AreWhole defs (after_all s t p ds)
    all_whole p [] h n j w = w
    all_whole p (d ∷ ds) h n j w =
        let q = two_parts (declared_found s t p d) (all_found s t (after_name s t p d) ds) h in
        all_whole (after_name s t p d) ds q.1 n.1 ((what_keeps s p d (what s t p d)).here.defs ∙ j) (one_whole p d (what s t p d) refl q.0 n.0 j w)

function_whole_on : (defs : List StructDef) (s : Storage) (d : DeclaratorTree) (x : StatementTree) (p : State) (y : Shape) → AreWhole defs p → AreWhole defs (after_function s d x p y)
function_whole_on defs s d x p (Object t) w = w
function_whole_on defs s d x p (Function t ps) w =
    let f = function_row s d p (Function t ps) in
    all_last (IsWholeIn defs (f ∷ p.names)) p.definitions (defining f (Some Body)) (wholes_on defs f p.names p.definitions w) ((λ o. absurd (true≢false o)), tt)

module _ (tags : List (List ℕ)) where
  pub external_whole : (p : State) (e : External) (q : State) → Stands tags p → IsText e → Externals p e nothing q → Goes tags p q → AreWhole (whole p) p → AreWhole (whole q) q
  external_whole p (Declaration h) q s n (a, v, i, e, k) go w =
      let (u, known) = unbroken a _ (sym e) in
      let m = with_spec p h.spec v in
      let last = k ∙ behind_one m a _ u known in
      let found : all_found h.storage u m h.names ≡ nothing = ap (λ (b : Answer Plain). b then λ z. all_found h.storage z m h.names) (sym known) ∙ sym e in
      let kept : q.here.defs ≡ v.defs = ap (λ (r : State). r.here.defs) last ∙ (all_keep h.storage u m h.names).here.defs in
      let g : Grows v.defs (whole q) = subst (λ ds. Grows ds (whole q)) kept (grows_to tags q go.stands) in
      let now : AreWhole (whole q) m = wholes_grow (whole p) (whole q) (grows_more tags p q s go) p.names p.definitions w in
      subst (AreWhole (whole q)) (sym last) (all_whole v.defs (whole q) g h.storage u m h.names found n refl now)
  external_whole p (Definition h x) q s n (a, b, v, i, c, e, k) go w =
      let (y, known) = unbroken a _ (sym e) in
      let m = with_spec p h.spec v in
      let last = k ∙ behind_one m a _ y known in
      let now : AreWhole (whole q) m = wholes_grow (whole p) (whole q) (grows_more tags p q s go) p.names p.definitions w in
      subst (AreWhole (whole q)) (sym last) (function_whole_on (whole q) h.storage h.declarator x m y now)

  pub begins_whole : (p : State) → Stands tags p → AreWhole p.others p → AreWhole (whole p) p
  begins_whole p s w = wholes_grow p.others (whole p) (grows_others p.others p.here.defs s.here.pairs s.here.sound s.others s.here.agree) p.names p.definitions w
