-- No name is unknown in what declarators declare, nor in what initializes static objects: an expression there is a constant.
use Rattle.std.proofs.Common.{◌≡◌, ℕ, zero, suc, Bool, true, false, ◌&&◌, ◌||◌, not, if◌then◌else◌, nat_le, List, [], ◌∷◌, ◌++◌, map, Option, Some, None, refl, sym, ap, subst, option_map, slice_get}
use Rattle.c_trees.specs.Expressions as tree
use Rattle.c_trees.specs.Expressions.{Tree}
use Rattle.c_trees.specs.Declarators.{DeclaratorTree, Name, Parens, Pointers, Array, Function as Applied, Taking, Named, Unnamed, begins}
use Rattle.c_trees.specs.Initializers.{InitialTree, Value, Braces, Item}
use Rattle.c_trees.specs.declared.declaration.FileSpec.{FileSpec}
use Rattle.c_trees.specs.declared.declaration.FileSpec.TheVariants as spec
use Rattle.c_trees.specs.declared.declaration.MemberPart.{MemberPart}
use Rattle.c_trees.specs.declared.declaration.MemberPart.TheVariants.{Opens, Row, Closes}
use Rattle.c_trees.specs.declared.declaration.Storage.{Storage}
use Rattle.c_tree.specs.declared.types.StructDef.{StructDef}
use Rattle.c_typing.specs.Plain as plain
use Rattle.c_typing.specs.Plain.{Plain, is_complete, is_void, is_scalar, value_type}
use Rattle.c_typing.specs.Expressions as typing
use Rattle.c_typing.specs.declared.constant.Constant.{Constant}
use Rattle.c_typing.specs.declared.constant.Constant.TheVariants.{Variable, Undefined, Number}
use Rattle.c_judge.specs.declared.fault.Fault.{Fault}
use Rattle.c_judge.specs.declared.fault.Fault.TheVariants as fault
use Rattle.c_judge.specs.Answers.{Answer, Known, Unknown, Broken, ◌then◌}
use Rattle.c_judge.specs.Judges.{IsFault}
use Rattle.c_judge.specs.Judgement.{Verdict, judged, spec_type, pointer, pointers, array, bound, limited, starred, stars_of}
use Rattle.c_defs.specs.Depths.{is_within, deepest}
use Rattle.c_judge.specs.Places.{place_of}
use Rattle.c_scope.specs.Findings.{Finding, Fine, fine, nothing, holds, asked, ◌beside◌}
use Rattle.c_scope.specs.Environment.{Environment, scope_of, struct_of}
use Rattle.c_scope.specs.Declarators.{Shape, Object, Function, Parameter, denoted, constant, bounded, unbounded, unnamed_within, unnamed, parameter, with_one, is_taken, function, unsized, shape, parameters, taken}
use Rattle.c_scope.specs.Spelling.{initial_at}
use Rattle.c_typing.specs.Declarations.{is_named}
use Rattle.c_struct.specs.Structs.{written_names, Open, Written, members, member, object_member, completed_found, Completes}
use Rattle.c_initial.specs.Initials.{initial_found, value_found, address_found, is_address, part_of, count_of, rule_of, is_aggregate}
use Rattle.c_linkage.specs.Names.{FileName, name_found}
use Rattle.c_linkage.specs.Types.{may_stand, is_extern, in_limits, object_standing, standing, object_type}
use Rattle.c_struct.specs.Specifies.{Goes, Ends, Inside, Specifies}

abbrev pub IsDecided : {A : Type 0} → Answer A → Type 0
IsDecided (Known x) = Unit {0}
IsDecided (Unknown name) = ⊥
IsDecided (Broken r at) = Unit {0}

pub then_decided : {A B : Type 0} (a : Answer A) (f : A → Answer B) → IsDecided a → ((x : A) → IsDecided (f x)) → IsDecided (a then f)
then_decided (Known x) f h k = k x
then_decided (Unknown name) f h k = h
then_decided (Broken r at) f h k = tt

pub if_decided : {A : Type 0} (b : Bool) (x y : Answer A) → IsDecided x → IsDecided y → IsDecided (if b then x else y)
if_decided true x y h k = h
if_decided false x y h k = k

pub beside_decided : {A B : Type 0} (a : Answer A) (b : Answer B) → IsDecided a → IsDecided b → IsDecided (a beside b)
beside_decided (Known x) (Known y) h k = tt
beside_decided (Known x) (Unknown name) h k = k
beside_decided (Known x) (Broken r at) h k = tt
beside_decided (Unknown name) b h k = absurd h
beside_decided (Broken r at) b h k = tt

pub never : {A : Type 0} (a : Answer A) (name : List ℕ) → IsDecided a → a ≡ Unknown name → ⊥
never a name h e = subst IsDecided e h

pub holds_decided : (b : Bool) (r at : ℕ) → IsDecided (holds b r at)
holds_decided b r at = if_decided b nothing (Broken r at) tt tt

asked_decided : {A : Type 0} (ok : A → Bool) (r at : ℕ) (a : Answer A) → IsDecided a → IsDecided (asked ok r at a)
asked_decided ok r at (Known x) h = holds_decided (ok x) r at
asked_decided ok r at (Unknown name) h = absurd h
asked_decided ok r at (Broken q i) h = tt

pub constant_decided : (j : Verdict) → IsDecided (constant j)
constant_decided (Known x) = tt
constant_decided (Unknown name) = tt
constant_decided (Broken r at) = tt

-- ---- types

limited_decided : (defs : List StructDef) (at : ℕ) (t : Plain) → IsDecided (limited defs at t)
limited_decided defs at t = if_decided (is_within defs deepest t && nat_le _ 1048576) (Known t) (Broken 1 at) tt tt

pointer_decided : (defs : List StructDef) (at : ℕ) (t : Plain) → IsDecided (pointer defs at t)
pointer_decided defs at t = if_decided (is_void t) (Broken 9 at) (limited defs at (plain.Pointer t)) tt (limited_decided defs at (plain.Pointer t))

pointers_decided : (defs : List StructDef) (at n : ℕ) (t : Plain) → IsDecided (pointers defs at n t)
pointers_decided defs at zero t = tt
pointers_decided defs at (suc n) t = then_decided (pointer defs at t) (pointers defs at n) (pointer_decided defs at t) (λ u. pointers_decided defs at n u)

array_decided : (defs : List StructDef) (at : ℕ) (t : Plain) (n : ℕ) → IsDecided (array defs at t n)
array_decided defs at t n = if_decided (is_complete defs t) (limited defs at (plain.Array t n)) (Broken 2 at) (limited_decided defs at (plain.Array t n)) tt

bound_decided : (at : ℕ) (c : Constant) → IsDecided (bound at c)
bound_decided at (Number n) = if_decided (nat_le 1 n && nat_le n 1048576) (Known n) (Broken 2 at) tt tt
bound_decided at Variable = tt
bound_decided at Undefined = tt

module _ (v : Environment) where
  bounded_decided : (e : Tree) (t : Plain) → IsDecided (bounded v e t)
  bounded_decided e t = then_decided (constant (judged (scope_of v) e)) (λ c. bound (place_of e).at c then array v.defs (place_of e).at t) (constant_decided (judged (scope_of v) e))
      (λ c. then_decided (bound (place_of e).at c) (array v.defs (place_of e).at t) (bound_decided (place_of e).at c) (λ n. array_decided v.defs (place_of e).at t n))

  unbounded_decided : (at : ℕ) (t : Plain) → IsDecided (unbounded v at t)
  unbounded_decided at t = if_decided (is_complete v.defs t) (limited v.defs at (plain.Array t 0)) (Broken 2 at) (limited_decided v.defs at (plain.Array t 0)) tt

  within_decided : (at : ℕ) (d : Tree) (t : Plain) → IsDecided (unnamed_within v at d t)
  within_decided at (tree.Stars n) t = tt
  within_decided at (tree.Around n d) t = then_decided (starred (scope_of v) at d (Known t)) (unnamed_within v at d) (pointers_decided v.defs at (stars_of d) t) (λ u. within_decided at d u)
  within_decided at (tree.Bounded d e) t = then_decided (bounded v e t) (unnamed_within v at d) (bounded_decided e t) (λ u. within_decided at d u)
  within_decided at (tree.Unbounded (tree.Stars n)) t = unbounded_decided at t
  within_decided at _ t = tt

  unnamed_decided : (at : ℕ) (d : Tree) (t : Plain) → IsDecided (unnamed v at d t)
  unnamed_decided at d t = then_decided (starred (scope_of v) at d (Known t)) (unnamed_within v at d) (pointers_decided v.defs at (stars_of d) t) (λ u. within_decided at d u)

  parameter_decided : (name : Option (List ℕ)) (r : Bool) (at : ℕ) (s : Shape) → IsDecided (parameter name r at s)
  parameter_decided name r at (Object t) = if_decided (is_scalar (value_type t)) (Known (record { name = name; ctype = value_type t; register = r })) (Broken 9 at) tt tt
  parameter_decided name r at (Function t ps) = tt

  one_decided : (ps : List Parameter) (at : ℕ) (p : Parameter) → IsDecided (with_one ps at p)
  one_decided ps at p = if_decided (is_taken ps p.name) (Broken 5 at) _ tt tt

  function_decided : (b : Bool) (at : ℕ) (t : Plain) (ps : List Parameter) → IsDecided (function b at t ps)
  function_decided b at t ps = if_decided _ (Known (Function t ps)) (Broken 9 at) tt tt

  unsized_decided : (b : Bool) (at : ℕ) (t : Plain) → IsDecided (unsized v b at t)
  unsized_decided true at t = then_decided (unbounded v at t) (λ u. Known (Object u)) (unbounded_decided at t) (λ u. tt)
  unsized_decided false at t = tt

  mutual
    pub shape_decided : (d : DeclaratorTree) (t : Plain) → IsDecided (shape v d t)
    shape_decided (Name at text) t = tt
    shape_decided (Parens at d) t = shape_decided d t
    shape_decided (Pointers at n d) t = then_decided (pointers v.defs at.at n t) (shape v d) (pointers_decided v.defs at.at n t) (λ u. shape_decided d u)
    shape_decided (Array at d (Some e)) t = then_decided (bounded v e t) (shape v d) (bounded_decided e t) (λ u. shape_decided d u)
    shape_decided (Array at d None) t = unsized_decided _ at.at t
    shape_decided (Applied at d) t = function_decided _ at.at t []
    shape_decided (Taking d p) t = then_decided (parameters v d then (λ ps. taken v p then with_one ps (begins p).at)) (function _ (begins d).at t)
        (then_decided (parameters v d) (λ ps. taken v p then with_one ps (begins p).at) (parameters_decided d) (λ ps. then_decided (taken v p) (with_one ps (begins p).at) (taken_decided p) (λ q. one_decided ps (begins p).at q)))
        (λ ps. function_decided _ (begins d).at t ps)
    shape_decided _ t = tt

    parameters_decided : (d : DeclaratorTree) → IsDecided (parameters v d)
    parameters_decided (Taking d p) = then_decided (parameters v d) (λ ps. taken v p then with_one ps (begins p).at) (parameters_decided d) (λ ps. then_decided (taken v p) (with_one ps (begins p).at) (taken_decided p) (λ q. one_decided ps (begins p).at q))
    parameters_decided _ = tt

    taken_decided : (d : DeclaratorTree) → IsDecided (taken v d)
    taken_decided (Named at r s d) = then_decided (shape v d (spec_type (scope_of v) s)) _ (shape_decided d (spec_type (scope_of v) s)) (λ x. parameter_decided _ r at.at x)
    taken_decided (Unnamed at s d) = then_decided (unnamed v at.at d (spec_type (scope_of v) s)) _ (unnamed_decided at.at d (spec_type (scope_of v) s)) (λ t. parameter_decided None false at.at (Object t))
    taken_decided _ = tt

-- ---- declared names

may_decided : (v : Environment) (x : Bool) (t : Plain) (at : ℕ) → IsDecided (may_stand v x t at)
may_decided v x (plain.Array t zero) at = holds_decided x 2 at
may_decided v x (plain.Array t (suc n)) at = holds_decided (is_complete v.defs (plain.Array t (suc n))) 1 at
may_decided v x plain.Char at = holds_decided (is_complete v.defs plain.Char) 1 at
may_decided v x plain.Int at = holds_decided (is_complete v.defs plain.Int) 1 at
may_decided v x plain.Unsigned at = holds_decided (is_complete v.defs plain.Unsigned) 1 at
may_decided v x plain.Void at = holds_decided (is_complete v.defs plain.Void) 1 at
may_decided v x (plain.Pointer t) at = holds_decided (is_complete v.defs (plain.Pointer t)) 1 at
may_decided v x (plain.Struct s) at = holds_decided (is_complete v.defs (plain.Struct s)) 1 at

in_limits_decided : (v : Environment) (t : Plain) (at : ℕ) → IsDecided (in_limits v t at)
in_limits_decided v t at = if_decided (is_complete v.defs t) (limited v.defs at t) (Known t) (limited_decided v.defs at t) tt

pub object_decided : (v : Environment) (s : Storage) (t : Plain) (at : ℕ) → IsDecided (object_standing v s t at)
object_decided v s t at = then_decided (in_limits v t at) _ (in_limits_decided v t at) (λ u. then_decided (may_stand v (is_extern s) t at) _ (may_decided v (is_extern s) t at) (λ x. tt))

pub name_decided : (fs : List FileName) (f : FileName) (at : ℕ) → IsDecided (name_found fs f at)
name_decided fs f at = beside_decided _ _ (beside_decided _ _ (beside_decided _ _ (holds_decided _ 15 at) (holds_decided _ 10 at)) (holds_decided _ 7 at)) (holds_decided _ 6 at)

-- ---- initializers

module _ (v : Environment) where
  value_decided : (t : Plain) (e : Tree) → IsDecided (value_found v t e)
  value_decided (plain.Pointer t) e = then_decided (constant (judged (scope_of v) e)) _ (constant_decided (judged (scope_of v) e)) (λ c. holds_decided _ 12 (place_of e).at)
  value_decided (plain.Array t n) e = holds_decided _ 13 (place_of e).at
  value_decided (plain.Struct s) e = tt
  value_decided plain.Char e = asked_decided _ 11 (place_of e).at (constant (judged (scope_of v) e)) (constant_decided (judged (scope_of v) e))
  value_decided plain.Int e = asked_decided _ 11 (place_of e).at (constant (judged (scope_of v) e)) (constant_decided (judged (scope_of v) e))
  value_decided plain.Unsigned e = asked_decided _ 11 (place_of e).at (constant (judged (scope_of v) e)) (constant_decided (judged (scope_of v) e))
  value_decided plain.Void e = asked_decided _ 11 (place_of e).at (constant (judged (scope_of v) e)) (constant_decided (judged (scope_of v) e))

  item_decided : (r at : ℕ) (o : Option Plain) (f : Plain → Finding) → ((u : Plain) → IsDecided (f u)) → IsDecided (elim o as (λ _. Finding) [ None ↦ Broken r at | Some u ↦ f u ])
  item_decided r at None f h = tt
  item_decided r at (Some u) f h = h u

  pub initial_decided : (t : Plain) (i : InitialTree) → IsDecided (initial_found v t i)
  initial_decided t (Value e) = value_decided t e
  initial_decided t (Braces at) = holds_decided (is_aggregate t) (rule_of t) at.at
  initial_decided t (Item i j) = beside_decided (initial_found v t i) _ (initial_decided t i) (item_decided (rule_of t) (initial_at j) (part_of v t (count_of i)) (λ u. initial_found v u j) (λ u. initial_decided u j))

-- ---- structs

module _ (v : Environment) where
  member_decided : (ms : List Written) (at : ℕ) (name : List ℕ) (s : Shape) → IsDecided (member v ms at name s)
  member_decided ms at name (Object t) = if_decided (is_complete v.defs t && not (is_named (written_names ms) name)) (Known (ms ++ record { name = name; ctype = t } ∷ [])) (Broken 3 at) tt tt
  member_decided ms at name (Function t ps) = tt

  members_decided : (ms : List Written) (t : Plain) (ds : List DeclaratorTree) → IsDecided (members v ms t ds)
  members_decided ms t [] = tt
  members_decided ms t (d ∷ ds) = then_decided (shape v d t then member v ms (begins d).at _) _ (then_decided (shape v d t) _ (shape_decided v d t) (λ s. member_decided ms (begins d).at _ s)) (λ more. members_decided more t ds)

completed_decided : (others : List StructDef) (v : Environment) (o : Open) → IsDecided (completed_found others v o)
completed_decided others v o = beside_decided _ _ (holds_decided _ 3 o.at) (holds_decided _ 4 o.at)

-- what comes of a part that is decided is that of what is behind it
goes_decided : {A B : Type 0} (p : Answer A) (v : Environment) (a : Answer B) (w : Environment) (P : A → Type 0) → IsDecided p → ((x : A) → P x → IsDecided a) → Goes p v a w P → IsDecided a
goes_decided (Known x) v a w P h k g = k x g
goes_decided (Unknown name) v a w P h k g = absurd h
goes_decided (Broken r at) v a w P h k g = subst IsDecided (sym g.0) tt

module _ (others : List StructDef) where
  ends_decided : (v : Environment) (o : Open) (a : Answer Plain) (w : Environment) (P : Environment → Type 0) → ((u : Environment) → P u → IsDecided a) → Ends others v o a w P → IsDecided a
  ends_decided v o a w P k g = goes_decided (completed_found others v o) v a w _ (completed_decided others v o)
      (λ x h. goes_decided (limited h.0.defs o.at (plain.Struct (struct_of h.0.tags o.tag))) h.0 a w _ (limited_decided h.0.defs o.at (plain.Struct (struct_of h.0.tags o.tag))) (λ t p. k h.0 p) h.2) g

  inside_decided : (v : Environment) (os : List Open) (ps : List MemberPart) (a : Answer Plain) (w : Environment) → Inside others v os ps a w → IsDecided a
  inside_decided v [] ps a w g = subst IsDecided (sym g.0) tt
  inside_decided v (o ∷ []) [] a w g = ends_decided v o a w _ (λ u p. subst IsDecided (sym p.0) tt) g
  inside_decided v (o ∷ p ∷ os) [] a w g = subst IsDecided (sym g.0) tt
  inside_decided v (o ∷ os) (Opens at tag ∷ ps) a w g = inside_decided v (record { at = at.at; tag = tag; members = [] } ∷ o ∷ os) ps a w g
  inside_decided v (o ∷ os) (Row at s ds ∷ ps) a w g = goes_decided (members v o.members (spec_type (scope_of v) s) ds) v a w _ (members_decided v o.members (spec_type (scope_of v) s) ds)
      (λ ms h. inside_decided v (record o { members = ms } ∷ os) ps a w h) g
  inside_decided v (o ∷ []) (Closes ds ∷ ps) a w g = subst IsDecided (sym g.0) tt
  inside_decided v (o ∷ p ∷ os) (Closes ds ∷ ps) a w g = ends_decided v o a w _
      (λ u h. goes_decided (members u p.members (plain.Struct (struct_of u.tags o.tag)) ds) u a w _ (members_decided u p.members (plain.Struct (struct_of u.tags o.tag)) ds) (λ ms k. inside_decided u (record p { members = ms } ∷ os) ps a w k) h) g

  pub spec_decided : (v : Environment) (s : FileSpec) (a : Answer Plain) (w : Environment) → Specifies others v s a w → IsDecided a
  spec_decided v (spec.Named s) a w g = subst IsDecided (sym g.0) tt
  spec_decided v (spec.Members []) a w g = subst IsDecided (sym g.0) tt
  spec_decided v (spec.Members (Opens at tag ∷ ps)) a w g = inside_decided v (record { at = at.at; tag = tag; members = [] } ∷ []) ps a w g
  spec_decided v (spec.Members (Row at s ds ∷ ps)) a w g = subst IsDecided (sym g.0) tt
  spec_decided v (spec.Members (Closes ds ∷ ps)) a w g = subst IsDecided (sym g.0) tt

-- ---- what a name declares

pub standing_decided : (v : Environment) (s : Storage) (i : Option InitialTree) (at : ℕ) (x : Shape) → IsDecided (standing v s i at x)
standing_decided v s i at (Object t) = object_decided v s (object_type t i) at
standing_decided v s None at (Function t ps) = tt
standing_decided v s (Some i) at (Function t ps) = tt

pub standing_none : (v : Environment) (s : Storage) (i : Option InitialTree) (at : ℕ) (t : Plain) (ps : List Parameter) → i ≡ None → Known (denoted false (Function t ps)) ≡ standing v s i at (Function t ps)
standing_none v s None at t ps e = refl
standing_none v s (Some i) at t ps e = absurd (cc)
