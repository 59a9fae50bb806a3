-- What a name at file scope adds to a program weighs no more than its declaration.
use Rattle.std.proofs.Common.{◌≡◌, refl, sym, ap, subst, ◌∙◌, ℕ, zero, suc, ◌+◌, ◌*◌, ◌≤◌, false, List, [], ◌∷◌, ◌++◌, length, length-append, Option, Some, None, arith}
use Rattle.std.specs.Prelude.{slice_get}
use Rattle.c_trees.specs.Declarators.{DeclaratorTree, begins}
use Rattle.c_trees.specs.Initializers.{InitialTree, Value, Braces, Item}
use Rattle.c_trees.specs.declared.declaration.Declared.{Declared}
use Rattle.c_trees.specs.declared.declaration.Storage.{Storage}
use Rattle.c_trees.specs.declared.declaration.Storage.TheVariants as storage
use Rattle.c_trees.specs.Expressions.{Tree}
use Rattle.c_typing.specs.Plain.{Plain}
use Rattle.c_typing.specs.Plain as types
use Rattle.c_typing.specs.Expressions as typing
use Rattle.c_typing.specs.Expressions.{Denoted}
use Rattle.c_judge.specs.Answers.{Answer, Known, Unknown, Broken, ◌then◌}
use Rattle.c_scope.specs.Environment.{Environment}
use Rattle.c_scope.specs.Declarators.{Shape, Object, Function, shape, denoted, name_in}
use Rattle.c_mentions.specs.Literals.{in_tree, in_declarator}
use Rattle.c_initial.specs.Initials.{count_of, part_of, with_bound}
use Rattle.c_initial.specs.Begins.{strings_of_value, strings_of}
use Rattle.c_linkage.specs.declared.definitions.Manner.{Manner}
use Rattle.c_linkage.specs.declared.definitions.Manner.TheVariants.{Body, Initialized, Tentative}
use Rattle.c_linkage.specs.Names.{FileName, Defining}
use Rattle.c_file.specs.Files.{State, with_name, with_initial, with_definition, with_strings, file_name, defining, manner_of, what, after_what, after_name, after_all}
use Rattle.c_linkage.specs.Types.{type_or, object_type, in_limits, may_stand, is_extern, standing}
use Rattle.compiled_tables.specs.Weights.{Rates, AreCovered, total, constructors, derived, literals, literals_or_none, of_type, of_name}
use Rattle.compiled_tables.proofs.Files.{stop_count}
use Rattle.compiled_tables.proofs.ShapeTypes.{then_known, known_same, shape_type, shape_more}
use Rattle.compiled_tables.proofs.StructRows.{times_more, all_members}
use Rattle.compiled_tables.proofs.Agreeing.{IsOf, IsDeclaredAs, declared_on}
use Rattle.compiled_tables.proofs.Sums.{times_append}
use Rattle.compiled_tables.proofs.BodyAdds.{texts_long, made, strings_more, named_made}

-- ---- declared types

-- what is declared is an object whose type has at most so many constructors, or a function whose result has, without an initializer
abbrev Declares : ℕ → Option InitialTree → Denoted → Type 0
Declares n i (typing.Object t register) = constructors t ≤ n
Declares n i (typing.Function t ps) = (constructors t ≤ n) × (i ≡ None)
Declares n i typing.Hidden = ⊥

bound_same : (t : Plain) (i : InitialTree) → constructors (with_bound t i) ≡ constructors t
bound_same types.Char i = refl
bound_same types.Int i = refl
bound_same types.Unsigned i = refl
bound_same types.Void i = refl
bound_same (types.Pointer t) i = refl
bound_same (types.Array t zero) i = refl
bound_same (types.Array t (suc n)) i = refl
bound_same (types.Struct s) i = refl

object_same : (t : Plain) (i : Option InitialTree) → constructors (object_type t i) ≡ constructors t
object_same t None = refl
object_same t (Some i) = bound_same t i

stands : (v : Environment) (s : Storage) (i : Option InitialTree) (at : ℕ) (y : Shape) (x : Denoted) (n : ℕ) → constructors (shape_type y) ≤ n → standing v s i at y ≡ Known x → Declares n i x
stands v s i at (Object t) x n l e =
    let u : Plain = object_type t i in
    let (z, f, g) = then_known (in_limits v u at) (λ w. may_stand v (is_extern s) u at then λ y. Known (typing.Object u false)) x e in
    let (y, h, k) = then_known (may_stand v (is_extern s) u at) (λ y. Known (typing.Object u false)) x g in
    subst (Declares n i) (known_same (typing.Object u false) x k) (omega (arith, l, object_same t i))
stands v s None at (Function t ps) x n l e = subst (Declares n None) (known_same (denoted false (Function t ps)) x e) (l, refl)
stands v s (Some i) at (Function t ps) x n l e = absurd cc

what_declares : (s : Storage) (t : Plain) (p : State) (d : Declared) (x : Denoted) → constructors t ≡ 1 → what s t p d ≡ Known x → Declares (suc (derived d.declarator)) d.initial x
what_declares s t p d x one e =
    let (y, f, g) = then_known (shape p.here d.declarator t) (standing p.here s d.initial (begins d.declarator).at) x e in
    stands p.here s d.initial (begins d.declarator).at y x (suc (derived d.declarator)) (omega (arith, shape_more p.here d.declarator t y f, one)) g

-- ---- strings

value_strings : (v : Environment) (t : Plain) (e : Tree) → length (strings_of_value v t e) ≤ length (in_tree e)
value_strings v types.Char e = omega (arith, texts_long (in_tree e))
value_strings v types.Int e = omega (arith, texts_long (in_tree e))
value_strings v types.Unsigned e = omega (arith, texts_long (in_tree e))
value_strings v types.Void e = omega (arith, texts_long (in_tree e))
value_strings v (types.Pointer t) e = omega (arith, texts_long (in_tree e))
value_strings v (types.Array t n) e = omega arith
value_strings v (types.Struct s) e = omega (arith, texts_long (in_tree e))

initial_strings : (v : Environment) (t : Plain) (i : InitialTree) → length (strings_of v t i) ≤ literals i
initial_strings v t (Value e) = value_strings v t e
initial_strings v t (Braces at) = omega arith
initial_strings v t (Item i j) = by (part_of v t (count_of i)) (initial_strings v t i) (λ u. initial_strings v u j)
  where
    by : (o : Option Plain) → length (strings_of v t i) ≤ literals i → ((u : Plain) → length (strings_of v u j) ≤ literals j)
        → length (strings_of v t i ++ (elim o as (λ _. List (List ℕ)) [ None ↦ [] | Some u ↦ strings_of v u j ])) ≤ literals i + literals j
    by None h k = omega (arith, h, length-append (strings_of v t i) [])
    by (Some u) h k = omega (arith, h, k u, length-append (strings_of v t i) (strings_of v u j))

module _ (r : Rates) where
  -- ---- what a program so far weighs

  -- the structs with their members
  abbrev pub of_structs : State → ℕ
  of_structs p = r.struct * length p.others + (all_members r p.others + all_members r p.here.defs)

  abbrev pub held : State → ℕ
  held p = made r p + of_structs p

  -- a definition of an object weighs at most so much, with its type
  abbrev pub Weighs : Manner → List FileName → Defining → ℕ → Type 0
  Weighs Body fs d k = Unit {0}
  Weighs m fs d k = (c : ℕ) × IsDeclaredAs fs d c × (r.object + r.constructor * c ≤ k)

  abbrev pub AreWeighed : List FileName → List Defining → ℕ → Type 0
  AreWeighed fs [] n = Unit {0}
  AreWeighed fs (d ∷ ds) n = (k : ℕ) × (m : ℕ) × Weighs d.manner fs d k × AreWeighed fs ds m × (k + m ≤ n)

  weighs_on : (m : Manner) (f : FileName) (fs : List FileName) (d : Defining) (k : ℕ) → Weighs m fs d k → Weighs m (f ∷ fs) d k
  weighs_on Body f fs d k h = tt
  weighs_on Initialized f fs d k h = (h.0, declared_on f fs d h.0 h.1, h.2)
  weighs_on Tentative f fs d k h = (h.0, declared_on f fs d h.0 h.1, h.2)

  pub weighed_on : (f : FileName) (fs : List FileName) (ds : List Defining) (n : ℕ) → AreWeighed fs ds n → AreWeighed (f ∷ fs) ds n
  weighed_on f fs [] n h = tt
  weighed_on f fs (d ∷ ds) n h = (h.0, h.1, weighs_on d.manner f fs d h.0 h.2, weighed_on f fs ds h.1 h.3, h.4)

  -- one more at the end
  pub weighed_more : (fs : List FileName) (ds : List Defining) (n : ℕ) (d : Defining) (k : ℕ) → AreWeighed fs ds n → Weighs d.manner fs d k → AreWeighed fs (ds ++ d ∷ []) (n + k)
  weighed_more fs [] n d k h w = (k, 0, w, tt, omega arith)
  weighed_more fs (e ∷ ds) n d k h w = (h.0, h.1 + k, h.2, weighed_more fs ds h.1 d k h.3 w, (let l = h.4 in omega (arith, l)))

  -- the program so far weighs at most so much
  pub record Costs (p : State) (n : ℕ) : Type 0 where
    pub objects : ℕ
    pub weighed : AreWeighed p.names p.definitions objects
    pub within : objects + held p ≤ n
    pub points : p.points ≡ stop_count p.bodies

  pub looser : (p : State) (m n : ℕ) → m ≤ n → Costs p m → Costs p n
  looser p m n l c = record { objects = c.objects; weighed = c.weighed; within = (let w = c.within in omega (arith, l, w)); points = c.points }

  -- ---- a name is defined

  strings_held : (s : Storage) (p : State) (d : DeclaratorTree) → held (with_strings s p d) ≡ held p + r.string * length (in_declarator d)
  strings_held s p d = omega (arith, strings_more r p.strings (in_declarator d))

  initial_held : (s : Storage) (p : State) (f : FileName) (i : Option InitialTree) → held (with_initial s p f i) ≤ held p + r.string * literals_or_none i
  initial_held s p f None = omega arith
  initial_held s p f (Some i) =
      let v : List (List ℕ) = strings_of p.here (type_or f.denoted) i in
      let l = times_more r.string (length v) (literals i) (initial_strings p.here (type_or f.denoted) i) in
      omega (arith, l, times_append r.string p.strings v)

  -- an initializer leaves these
  record Stays (p q : State) : Type 0 where
    names : q.names ≡ p.names
    points : q.points ≡ p.points
    bodies : q.bodies ≡ p.bodies

  initial_stays : (s : Storage) (p : State) (f : FileName) (i : Option InitialTree) → Stays p (with_initial s p f i)
  initial_stays s p f None = record { names = refl; points = refl; bodies = refl }
  initial_stays s p f (Some i) = record { names = refl; points = refl; bodies = refl }

  weighed_looser : (fs : List FileName) (ds : List Defining) (m n : ℕ) → m ≤ n → AreWeighed fs ds m → AreWeighed fs ds n
  weighed_looser fs [] m n l h = tt
  weighed_looser fs (d ∷ ds) m n l h = (h.0, h.1, h.2, h.3, (let k = h.4 in omega (arith, l, k)))

  no_more : (fs : List FileName) (ds : List Defining) (n : ℕ) → AreWeighed fs ds n → AreWeighed fs (ds ++ []) n
  no_more fs [] n h = tt
  no_more fs (d ∷ ds) n h = (h.0, h.1, h.2, no_more fs ds h.1 h.3, h.4)

  weighs_object : (m : Manner) (fs : List FileName) (d : Defining) (c : ℕ) → IsDeclaredAs fs d c → Weighs m fs d (r.object + r.constructor * c)
  weighs_object Body fs d c h = tt
  weighs_object Initialized fs d c h = (c, h, omega arith)
  weighs_object Tentative fs d c h = (c, h, omega arith)

  defined_more : (fs : List FileName) (ds : List Defining) (n : ℕ) (f : FileName) (m : Option Manner) (c : ℕ) → slice_get fs 0 ≡ Some f → IsOf c f.denoted → AreWeighed fs ds n → AreWeighed fs (ds ++ defining f m) (n + (r.object + r.constructor * c))
  defined_more fs ds n f None c e o h = weighed_looser fs (ds ++ []) n (n + (r.object + r.constructor * c)) (omega arith) (no_more fs ds n h)
  defined_more fs ds n f (Some m) c e o h =
      let d : Defining = record { name = f.name; unit = f.unit; is_static = f.is_static; manner = m } in
      weighed_more fs ds n d (r.object + r.constructor * c) h (weighs_object m fs d c (record { declaration = f; number = 0; there = e; name = refl; unit = refl; linkage = refl; is = o }))

  undefined : (s : Storage) (t : Plain) (ps : List Plain) → manner_of s None (typing.Function t ps) ≡ None
  undefined storage.Extern t ps = refl
  undefined storage.Static t ps = refl
  undefined storage.Plain t ps = refl

  module _ (covered : AreCovered r) (s : Storage) where
    name_costs : (p : State) (d : DeclaratorTree) (i : Option InitialTree) (u : ℕ) (name : List ℕ) (x : Denoted) (n : ℕ) → Declares (suc (derived d)) i x → Costs p n
        → Costs (with_definition s (with_strings s (with_name p (file_name u s name x)) d) (file_name u s name x) i) (n + (r.object + r.object_symbol + of_type r d + r.string * (length (in_declarator d) + literals_or_none i)))
    name_costs p d i u name (typing.Object t b) n h c =
        let f : FileName = file_name u s name (typing.Object t b) in
        let q : State = with_strings s (with_name p f) d in
        let a = initial_stays s q f i in
        let w = c.within in
        let l = times_more r.constructor (constructors t) (suc (derived d)) h in
        record {
          objects = c.objects + (r.object + r.constructor * constructors t);
          weighed = subst (λ (fs : List FileName). AreWeighed fs (p.definitions ++ defining f (manner_of s i f.denoted)) (c.objects + (r.object + r.constructor * constructors t))) (sym a.names)
              (defined_more (f ∷ p.names) p.definitions c.objects f (manner_of s i f.denoted) (constructors t) refl refl (weighed_on f p.names p.definitions c.objects c.weighed));
          within = omega (arith, w, l, initial_held s q f i, strings_held s (with_name p f) d, named_made r p f);
          points = a.points ∙ (c.points ∙ ap stop_count (sym a.bodies));
        }
    name_costs p d None u name (typing.Function t ps) n h c =
        let f : FileName = file_name u s name (typing.Function t ps) in
        let q : State = with_strings s (with_name p f) d in
        let w = c.within in
        let l = times_more r.constructor (constructors t) (suc (derived d)) h.0 in
        let k = covered.declared in
        record {
          objects = c.objects;
          weighed = subst (λ (m : Option Manner). AreWeighed (f ∷ p.names) (p.definitions ++ defining f m) c.objects) (sym (undefined s t ps))
              (no_more (f ∷ p.names) p.definitions c.objects (weighed_on f p.names p.definitions c.objects c.weighed));
          within = omega (arith, w, l, k, strings_held s (with_name p f) d, named_made r p f);
          points = c.points;
        }
    name_costs p d (Some i) u name (typing.Function t ps) n h c = absurd (let e : Some i ≡ None = h.1 in cc)
    name_costs p d i u name typing.Hidden n h c = absurd h

    what_costs : (t : Plain) (p : State) (d : Declared) (a : Answer Denoted) (n : ℕ) → constructors t ≡ 1 → what s t p d ≡ a → Costs p n → Costs (after_what s p d a) (n + of_name r d)
    what_costs t p d (Known x) n one e c = name_costs p d.declarator d.initial p.here.unit (name_in d.declarator) x n (what_declares s t p d x one e) c
    what_costs t p d (Unknown name) n one e c = looser p n (n + of_name r d) (omega arith) c
    what_costs t p d (Broken q at) n one e c = looser p n (n + of_name r d) (omega arith) c

    pub names_cost : (t : Plain) (p : State) (ds : List Declared) (n : ℕ) → constructors t ≡ 1 → Costs p n → Costs (after_all s t p ds) (n + total (of_name r) ds)
    names_cost t p [] n one c = looser p n (n + 0) (omega arith) c
    names_cost t p (d ∷ ds) n one c =
        let a : Costs (after_name s t p d) (n + of_name r d) = what_costs t p d (what s t p d) n one refl c in
        looser (after_all s t (after_name s t p d) ds) (n + of_name r d + total (of_name r) ds) (n + (of_name r d + total (of_name r) ds)) (omega arith) (names_cost t (after_name s t p d) ds (n + of_name r d) one a)
