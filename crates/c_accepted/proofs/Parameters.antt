-- The types of a function's named parameters are within the limits of types (C90 6.7.1).
use Rattle.std.proofs.Common.{◌≡◌, refl, sym, subst, ℕ, Bool, true, false, ◌&&◌, ◌||◌, true≢false, List, [], ◌∷◌, ◌++◌, length, Option, Some, None, if◌then◌else◌}
use Rattle.std.specs.List.{AllByRecursion}
use Rattle.c_trees.specs.Declarators.{DeclaratorTree, Name, Parens, Pointers, Array as Bounds, Function as Applied, Taking, Named, Unnamed, begins}
use Rattle.c_tree.specs.declared.types.StructDef.{StructDef}
use Rattle.c_typing.specs.Plain.{Plain, Char, Int, Unsigned, Void, Pointer, Array, Struct, is_void, is_complete, is_scalar, value_type}
use Rattle.c_typing.specs.Declarations.{is_result}
use Rattle.c_defs.specs.Depths.{deepest}
use Rattle.c_judge.specs.Answers.{Answer, Known, Broken, ◌then◌}
use Rattle.c_judge.specs.Judgement.{spec_type, pointers}
use Rattle.c_scope.specs.Environment.{Environment, scope_of}
use Rattle.c_scope.specs.Declarators.{Shape, Object, Function, Parameter, is_name, is_function, unbounded, bounded, function, unsized, shape, parameters, taken, parameter, unnamed, is_taken, with_one, name_in}
use Rattle.c_mentions.specs.Tags.{in_spec, in_declarator, in_part, in_tree}
use Rattle.c_accepted.proofs.Known.{never, one_known, then_known, if_known}
use Rattle.c_accepted.proofs.Written.{IsNamed}
use Rattle.c_accepted.proofs.Shapes.{AreTags, both_tags, spec_named, IsShaped, shape_named}

or_right : (a b : Bool) → b ≡ true → (a || b) ≡ true
or_right true b h = refl
or_right false b h = h

not_void : (defs : List StructDef) (t : Plain) → is_complete defs t ≡ true → is_void t ≡ false
not_void defs Void h = absurd (true≢false (sym h))
not_void defs Char h = refl
not_void defs Int h = refl
not_void defs Unsigned h = refl
not_void defs (Pointer t) h = refl
not_void defs (Array t n) h = refl
not_void defs (Struct s) h = refl

-- an array's value is a pointer to its first item
value_named : (defs : List StructDef) (t : Plain) → IsNamed defs t → IsNamed defs (value_type t)
unfolding deepest
value_named defs (Array t n) h = ((h.0.0, not_void defs t h.0.1), or_right _ _ h.1)
value_named defs Char h = h
value_named defs Int h = h
value_named defs Unsigned h = h
value_named defs Void h = h
value_named defs (Pointer t) h = h
value_named defs (Struct s) h = h

abbrev pub IsTyped : List StructDef → Option (List ℕ) → Plain → Type 0
IsTyped defs None t = Unit {0}
IsTyped defs (Some name) t = IsNamed defs t

abbrev pub IsParameter : List StructDef → Parameter → Type 0
IsParameter defs p = IsTyped defs p.name p.ctype

abbrev pub AreParameters : List StructDef → Shape → Type 0
AreParameters defs (Object t) = Unit {0}
AreParameters defs (Function t ps) = AllByRecursion (IsParameter defs) ps

one_more : (P : Parameter → Type 0) (ps : List Parameter) (p : Parameter) → AllByRecursion P ps → P p → AllByRecursion P (ps ++ p ∷ [])
one_more P [] p h k = (k, tt)
one_more P (x ∷ ps) p h k = (h.0, one_more P ps p h.1 k)

module _ (v : Environment) (count : length v.defs ≡ length v.tags) where
  given : (ps qs : List Parameter) (at : ℕ) (p : Parameter) → AllByRecursion (IsParameter v.defs) ps → IsParameter v.defs p → with_one ps at p ≡ Known qs → AllByRecursion (IsParameter v.defs) qs
  given ps qs at p h k e = by (is_taken ps p.name) e
    where
      by : (b : Bool) → (if b then Broken 5 at else Known (ps ++ p ∷ [])) ≡ Known qs → AllByRecursion (IsParameter v.defs) qs
      by true f = never (Broken 5 at) qs (λ x. x) f
      by false f = subst (AllByRecursion (IsParameter v.defs)) (one_known (ps ++ p ∷ []) qs f) (one_more (IsParameter v.defs) ps p h k)

  one_parameter : (name : List ℕ) (r : Bool) (at : ℕ) (y : Shape) (p : Parameter) → IsShaped v.defs y → parameter (Some name) r at y ≡ Known p → IsParameter v.defs p
  one_parameter name r at (Object t) p m h =
      let q = if_known (is_scalar (value_type t)) (record { name = Some name; ctype = value_type t; register = r }) p 9 at h in
      subst (IsParameter v.defs) q.1 (value_named v.defs t m)
  one_parameter name r at (Function t ps) p m h = never (Broken 9 at) p (λ k. k) h

  no_name : (r : Bool) (at : ℕ) (y : Shape) (p : Parameter) → parameter None r at y ≡ Known p → IsParameter v.defs p
  no_name r at (Object t) p h =
      let q = if_known (is_scalar (value_type t)) (record { name = None; ctype = value_type t; register = r }) p 9 at h in
      subst (IsParameter v.defs) q.1 tt
  no_name r at (Function t ps) p h = never (Broken 9 at) p (λ k. k) h

  one_taken : (d : DeclaratorTree) (p : Parameter) → AreTags v.tags (in_declarator d) → taken v d ≡ Known p → IsParameter v.defs p
  one_taken (Named at r s d) p g h =
      let q = both_tags v.tags (in_spec s) (in_declarator d) g in
      let (y, e, k) = then_known (shape v d (spec_type (scope_of v) s)) (parameter (Some (name_in d)) r at.at) p h in
      one_parameter (name_in d) r at.at y p (shape_named v d (spec_type (scope_of v) s) y (spec_named v s count q.0) e) k
  one_taken (Unnamed at s d) p g h =
      let (t, e, k) = then_known (unnamed v at.at d (spec_type (scope_of v) s)) (λ t. parameter None false at.at (Object t)) p h in
      no_name false at.at (Object t) p k
  one_taken (Name at x) p g h = subst (IsParameter v.defs) (one_known (record { name = None; ctype = Int; register = false }) p h) tt
  one_taken (Parens at d) p g h = subst (IsParameter v.defs) (one_known (record { name = None; ctype = Int; register = false }) p h) tt
  one_taken (Pointers at n d) p g h = subst (IsParameter v.defs) (one_known (record { name = None; ctype = Int; register = false }) p h) tt
  one_taken (Bounds at d e) p g h = subst (IsParameter v.defs) (one_known (record { name = None; ctype = Int; register = false }) p h) tt
  one_taken (Applied at d) p g h = subst (IsParameter v.defs) (one_known (record { name = None; ctype = Int; register = false }) p h) tt
  one_taken (Taking d x) p g h = subst (IsParameter v.defs) (one_known (record { name = None; ctype = Int; register = false }) p h) tt

  -- one parameter behind others
  with_taken : (d : DeclaratorTree) (before : Answer (List Parameter)) (qs : List Parameter) → ((ps : List Parameter) → before ≡ Known ps → AllByRecursion (IsParameter v.defs) ps) → AreTags v.tags (in_declarator d)
      → (before then λ ps. taken v d then with_one ps (begins d).at) ≡ Known qs → AllByRecursion (IsParameter v.defs) qs
  with_taken d before qs w g h =
      let (ps, e, k) = then_known before (λ ps. taken v d then with_one ps (begins d).at) qs h in
      let (p, f, l) = then_known (taken v d) (with_one ps (begins d).at) qs k in
      given ps qs (begins d).at p (w ps e) (one_taken d p g f) l

  none_yet : (ps : List Parameter) → ◌≡◌ {A = Answer (List Parameter)} (Known []) (Known ps) → AllByRecursion (IsParameter v.defs) ps
  none_yet ps h = subst (AllByRecursion (IsParameter v.defs)) (one_known [] ps h) tt

  all_taken : (d : DeclaratorTree) (qs : List Parameter) → AreTags v.tags (in_declarator d) → parameters v d ≡ Known qs → AllByRecursion (IsParameter v.defs) qs
  all_taken (Taking d p) qs g h =
      let q = both_tags v.tags (in_declarator d) (in_declarator p) g in
      with_taken p (parameters v d) qs (λ ps e. all_taken d ps q.0 e) q.1 h
  all_taken (Name at x) qs g h = none_yet qs h
  all_taken (Parens at d) qs g h = none_yet qs h
  all_taken (Pointers at n d) qs g h = none_yet qs h
  all_taken (Bounds at d e) qs g h = none_yet qs h
  all_taken (Applied at d) qs g h = none_yet qs h
  all_taken (Named at r s d) qs g h = none_yet qs h
  all_taken (Unnamed at s d) qs g h = none_yet qs h

  function_of : (b : Bool) (at : ℕ) (t : Plain) (ps : List Parameter) (y : Shape) → AllByRecursion (IsParameter v.defs) ps → function b at t ps ≡ Known y → AreParameters v.defs y
  function_of b at t ps y h e =
      let q = if_known (b && is_result t) (Function t ps) y 9 at e in
      subst (AreParameters v.defs) q.1 h

  -- the named parameters of what a declarator declares
  pub parameters_named : (d : DeclaratorTree) (t : Plain) (y : Shape) → AreTags v.tags (in_declarator d) → shape v d t ≡ Known y → AreParameters v.defs y
  parameters_named (Name at x) t y g h = subst (AreParameters v.defs) (one_known (Object t) y h) tt
  parameters_named (Parens at d) t y g h = parameters_named d t y g h
  parameters_named (Pointers at n d) t y g h =
      let (u, e, k) = then_known (pointers v.defs at.at n t) (λ u. shape v d u) y h in
      parameters_named d u y g k
  parameters_named (Bounds at d (Some x)) t y g h =
      let (u, e, k) = then_known (bounded v x t) (λ u. shape v d u) y h in
      parameters_named d u y (both_tags v.tags (in_declarator d) (in_part in_tree (Some x)) g).0 k
  parameters_named (Bounds at d None) t y g h = by (is_name d) h
    where
      by : (b : Bool) → unsized v b at.at t ≡ Known y → AreParameters v.defs y
      by true e =
          let (u, f, k) = then_known (unbounded v at.at t) (λ u. Known (Object u)) y e in
          subst (AreParameters v.defs) (one_known (Object u) y k) tt
      by false e = never (Broken 2 at.at) y (λ k. k) e
  parameters_named (Applied at d) t y g h = function_of (is_name d) at.at t [] y tt h
  parameters_named (Taking d p) t y g h =
      let q = both_tags v.tags (in_declarator d) (in_declarator p) g in
      let (ps, e, k) = then_known (parameters v d then λ ps. taken v p then with_one ps (begins p).at) (function (is_function d) (begins d).at t) y h in
      function_of (is_function d) (begins d).at t ps y (with_taken p (parameters v d) ps (λ qs f. all_taken d qs q.0 f) q.1 e) k
  parameters_named (Named at r s d) t y g h = never (Broken 9 0) y (λ k. k) h
  parameters_named (Unnamed at s d) t y g h = never (Broken 9 0) y (λ k. k) h
