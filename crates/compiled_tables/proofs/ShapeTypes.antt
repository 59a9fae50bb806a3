-- How many constructors the type has that a declarator makes of another.
use Rattle.std.proofs.Common.{◌≡◌, refl, sym, ap, ℕ, zero, suc, ◌+◌, ◌≤◌, Bool, true, false, if◌then◌else◌, List, [], Some, None, arith}
use Rattle.c_trees.specs.Declarators.{DeclaratorTree, Name, Parens, Pointers, Array, Function as Applied, Taking, Named, Unnamed, begins}
use Rattle.c_trees.specs.Expressions.{Tree}
use Rattle.c_tree.specs.declared.types.StructDef.{StructDef}
use Rattle.c_typing.specs.Plain as types
use Rattle.c_typing.specs.Plain.{Plain, is_void, is_complete}
use Rattle.c_judge.specs.Answers.{Answer, Known, Unknown, Broken, ◌then◌}
use Rattle.c_judge.specs.Judgement.{judged, pointer, pointers, limited, array, bound}
use Rattle.c_judge.specs.Places.{place_of}
use Rattle.c_scope.specs.Environment.{Environment, scope_of}
use Rattle.c_scope.specs.Declarators.{Shape, Object, Function, Parameter, is_name, is_function, constant, bounded, unbounded, unsized, function, shape, parameters, taken, with_one}
use Rattle.compiled_tables.specs.Weights.{constructors, derived}

-- ---- answers

pub then_known : {A B : Type 0} (m : Answer A) (f : A → Answer B) (j : B) → (m then f) ≡ Known j → (x : A) × (m ≡ Known x) × (f x ≡ Known j)
then_known (Known x) f j e = (x, refl, e)
then_known (Unknown n) f j e = absurd cc
then_known (Broken r at) f j e = absurd cc

pub known_same : {A : Type 0} (x y : A) → Known x ≡ Known y → x ≡ y
known_same {A} x y e = ap (λ (a : Answer A). elim a as (λ _. A) [ Known z ↦ z | Unknown n ↦ x | Broken r at ↦ x ]) e

pub if_known : {A : Type 0} (b : Bool) (x y : A) (r at : ℕ) → (if b then Known x else Broken r at) ≡ Known y → x ≡ y
if_known true x y r at e = known_same x y e
if_known false x y r at e = absurd cc

-- ---- types

abbrev pub shape_type : Shape → Plain
shape_type (Object t) = t
shape_type (Function t ps) = t

pointer_more : (defs : List StructDef) (at : ℕ) (t u : Plain) (b : Bool) → (if b then Broken 9 at else limited defs at (types.Pointer t)) ≡ Known u → constructors u ≡ 1 + constructors t
pointer_more defs at t u true e = absurd cc
pointer_more defs at t u false e = omega (arith, ap constructors (sym (if_known _ (types.Pointer t) u 1 at e)))

pub pointers_more : (defs : List StructDef) (at n : ℕ) (t u : Plain) → pointers defs at n t ≡ Known u → constructors u ≡ n + constructors t
pointers_more defs at zero t u e = omega (arith, ap constructors (sym (known_same t u e)))
pointers_more defs at (suc n) t u e =
    let (w, f, g) = then_known (pointer defs at t) (pointers defs at n) u e in
    omega (arith, pointer_more defs at t w (is_void t) f, pointers_more defs at n w u g)

array_more : (defs : List StructDef) (at n : ℕ) (t u : Plain) (b : Bool) → (if b then limited defs at (types.Array t n) else Broken 2 at) ≡ Known u → constructors u ≡ 1 + constructors t
array_more defs at n t u true e = omega (arith, ap constructors (sym (if_known _ (types.Array t n) u 1 at e)))
array_more defs at n t u false e = absurd cc

function_same : (b : Bool) (at : ℕ) (t : Plain) (ps : List Parameter) (s : Shape) → (if b then Known (Function t ps) else Broken 9 at) ≡ Known s → constructors (shape_type s) ≡ constructors t
function_same b at t ps s e = ap (λ (x : Shape). constructors (shape_type x)) (sym (if_known b (Function t ps) s 9 at e))

module _ (v : Environment) where
  pub bounded_more : (e : Tree) (t u : Plain) → bounded v e t ≡ Known u → constructors u ≡ 1 + constructors t
  bounded_more e t u h =
      let (c, f, g) = then_known (constant (judged (scope_of v) e)) (λ c. bound (place_of e).at c then array v.defs (place_of e).at t) u h in
      let (n, k, l) = then_known (bound (place_of e).at c) (array v.defs (place_of e).at t) u g in
      array_more v.defs (place_of e).at n t u (is_complete v.defs t) l

  pub unbounded_more : (at : ℕ) (t u : Plain) → unbounded v at t ≡ Known u → constructors u ≡ 1 + constructors t
  unbounded_more at t u h = array_more v.defs at 0 t u (is_complete v.defs t) h

  unsized_more : (named : Bool) (at : ℕ) (t : Plain) (s : Shape) → unsized v named at t ≡ Known s → constructors (shape_type s) ≡ 1 + constructors t
  unsized_more true at t s e =
      let (u, f, g) = then_known (unbounded v at t) (λ u. Known (Object u)) s e in
      omega (arith, unbounded_more at t u f, ap (λ (x : Shape). constructors (shape_type x)) (sym (known_same (Object u) s g)))
  unsized_more false at t s e = absurd cc

  pub shape_more : (d : DeclaratorTree) (t : Plain) (s : Shape) → shape v d t ≡ Known s → constructors (shape_type s) ≤ constructors t + derived d
  shape_more (Name at text) t s e = omega (arith, ap (λ (x : Shape). constructors (shape_type x)) (sym (known_same (Object t) s e)))
  shape_more (Parens at d) t s e = shape_more d t s e
  shape_more (Pointers at n d) t s e =
      let (u, f, g) = then_known (pointers v.defs at.at n t) (shape v d) s e in
      omega (arith, pointers_more v.defs at.at n t u f, shape_more d u s g)
  shape_more (Array at d (Some b)) t s e =
      let (u, f, g) = then_known (bounded v b t) (shape v d) s e in
      omega (arith, bounded_more b t u f, shape_more d u s g)
  shape_more (Array at d None) t s e = omega (arith, unsized_more (is_name d) at.at t s e)
  shape_more (Applied at d) t s e = omega (arith, function_same _ at.at t [] s e)
  shape_more (Taking d p) t s e =
      let (ps, f, g) = then_known (parameters v d then (λ ps. taken v p then with_one ps (begins p).at)) (function (is_function d) (begins d).at t) s e in
      omega (arith, function_same _ (begins d).at t ps s g)
  shape_more (Named at r w d) t s e = absurd cc
  shape_more (Unnamed at w d) t s e = absurd cc
