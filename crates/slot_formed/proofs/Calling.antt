-- The code of any well-typed expression, calls among them, takes no number but 0 as a pointer.
use Rattle.std.proofs.Common.{◌≡◌, refl, sym, ap, subst, ◌∙◌, arith, ℕ, zero, suc, ◌+◌, ◌<◌, List, [], ◌∷◌, ◌++◌, length, append_assoc, Bool, true, false, not, ◌&&◌, ◌||◌, Option, Some, None, true≢false, slice_get}
use Rattle.std.specs.Prelude.{map, take, drop, reverse, bytes_eq, codes, if◌then◌else◌}
use Rattle.std.proofs.lemmas.Grind.{reverse_onto}
use Rattle.std.proofs.lemmas.List.{append-nil}
use Rattle.c_tree.specs.declared.types.CType.{CType}
use Rattle.c_tree.specs.declared.typed.BinaryOp.{BinaryOp}
use Rattle.c_tree.specs.declared.typed.BinaryOp.TheVariants.{Add}
use Rattle.c_tree.specs.declared.typed.Head.{Head}
use Rattle.c_tree.specs.declared.typed.Typed.{Typed, Row_of-Typed, end_of-Typed, more_of-Typed}
use Rattle.c_tree.specs.declared.typed.Typed.TheVariants.{Comma', Assign', Choice', Or', And', Binary', Cast', Before', Address', Follow', Unary', SizeOf', SizeOfType, Index', Call', Dot', Arrow', After', Name, Constant, Literal, Parens'}
use Rattle.c_tree.specs.declared.rows.Program.{Program}
use Rattle.c_tree.specs.declared.rows.Function.{Function}
use Rattle.c_tree.specs.declared.rows.Local.{Local as ALocal}
use Rattle.c_tree.specs.declared.rows.SymbolRow.{SymbolRow}
use Rattle.c_tree.specs.declared.rows.Referent.{Referent}
use Rattle.c_tree.specs.declared.rows.Referent.TheVariants.{Object, Local, Function as Defined, Declared}
use Rattle.c_tree.specs.Rows.{exprs}
use Rattle.c_tree.specs.Types.{type_of}
use Rattle.c_tree.specs.Layout.{size_of}
use Rattle.c_source.specs.Source.{dot_offset, arrow_offset}
use Rattle.c_typing.specs.Plain.{Plain, Char, Int, Unsigned, Void, Pointer, Array, Struct, plain, same, is_pointer, is_scalar, is_void, value_type}
use Rattle.c_typing.specs.declared.constant.Constant.TheVariants as folds
use Rattle.c_typing.specs.Constants.{constant}
use Rattle.c_typing.specs.Rules.{Operand, takes as takes_all, may_drop, followed, sum_type, converts, stepping as stepped, member_type}
use Rattle.c_typing.specs.Expressions.{Object as AnObject, Function as AFunction, Hidden, Scope, is_lvalue, is_register, is_string, operand, operands, value, call_type, result_type, IsTyped, AreTyped}
use Rattle.c_typing.specs.Declarations.{has, parameters, local_type, function_in, local_in, locals_in, built_in, is_result, denoted_by, scope_at}
use Rattle.c_typing.specs.Programs.{KeepsRules}
use Rattle.c_store.specs.Store.{Value}
use Rattle.slot_ir.specs.declared.code.SlotCode.{SlotCode}
use Rattle.slot_ir.specs.declared.code.SlotOp.{SlotOp}
use Rattle.slot_ir.specs.declared.code.SlotOp.TheVariants as op
use Rattle.c_store.specs.Frames.{Here, new_activation}
use Rattle.slot_ir.specs.Slots.{SlotState, Temps, with_temp, no_temps, Frame, local_row, locals_in as slot_locals, last_temps, entered}
use Rattle.slot_ir.specs.Slots as slots
use Rattle.slot_pointers.specs.Taken.{is_pointer as points, serves_in, serve_from, serve}
use Rattle.slot_gen.specs.Expressions.{combine_op, name_code, register_in, register_inside, call_code, built_in_code, enter_code, registers_from, expr_code, place_code, row_code}
use Rattle.slot_formed.specs.Code.{local_rows, IsProgramCode}
use Rattle.slot_formed.proofs.Lists.{no_none, some_same, and_parts, then_some}
use Rattle.slot_formed.proofs.Sizes.{formed, size_plain}
use Rattle.slot_formed.proofs.Constants.{no_variable}
use Rattle.slot_formed.proofs.Evaluated.{variable_is}
use Rattle.slot_formed.proofs.Types.{type_formed, function_there, callee_there}
use Rattle.slot_formed.proofs.Safe.{Safe, at_op, ok_after, temps_after}
use Rattle.slot_formed.proofs.Objects.{IsAs, GivesAs, given_as}
use Rattle.slot_formed.proofs.Formed.{function_row_at}
use Rattle.slot_formed.proofs.Claims.{Held, Claim, only_is, cast_serves, binary_value, integer_constant, converted_points, value_twice}
use Rattle.slot_formed.proofs.Triples as triples
use Rattle.slot_formed.proofs.Triples.{Enters, Gives, Runs, Any, Below, Sets, Casts, Zero, sets_below, sets_above, sets_held, held_same, below_less, below_then, seq, post, nothing, weaker}
use Rattle.slot_formed.proofs.Scalars.{register_value, followed_pointer}
use Rattle.slot_formed.proofs.Taking.{Result, Place, Combined, Kept, read_runs, set_place, name_runs, Expr, Spot, any, both_runs, loaded, offset_runs, value_runs, place_any, result_any, assign_runs, compound_assign, step_runs, choose_runs, and_runs, or_runs, unary_value, cast_value, constant_value, size_small, unsigned_is}

-- ---- calls

-- the arguments, of which the last comes first, serve the parameters
abbrev Serve : SlotCode → (function : ℕ) → ℕ → List Value → Type 0
Serve c g n [] = Unit {0}
Serve c g zero (x ∷ vs) = ⊥
Serve c g (suc n) (x ∷ vs) = (serves_in (local_row c g n) x ≡ true) × Serve c g n vs

served : (c : SlotCode) (g n : ℕ) (vs acc : List Value) → length vs ≡ n → Serve c g n vs → serve_from c g n acc ≡ true → serve_from c g 0 (reverse vs ++ acc) ≡ true
served c g zero [] acc e h k = k
served c g zero (x ∷ vs) acc e h k = absurd h
served c g (suc n) [] acc e h k = absurd (omega (arith, e))
served c g (suc n) (x ∷ vs) acc e h k =
    let same : reverse (x ∷ vs) ++ acc ≡ reverse vs ++ (x ∷ acc) = ap (λ (l : List Value). l ++ acc) (reverse_onto vs x []) ∙ append_assoc (reverse vs) (x ∷ []) acc in
    ap (serve_from c g 0) same ∙ served c g n vs (x ∷ acc) (omega (arith, e)) h.1 (ap (λ b. b && serve_from c g (suc n) acc) h.0 ∙ k)

module _ (c : SlotCode) (g d : ℕ) (t : Temps) where
  abbrev Arguments : ℕ → Type 0
  Arguments n = (i : ℕ) → i < n → Held (λ z. serves_in (local_row c g i) z ≡ true) (t (d + i))

  joined_parts : (o : Option Value) (q : Option (List Value)) (vs : List Value) → slots.joined o q ≡ Some vs → (x : Value) × (o ≡ Some x) × (xs : List Value) × (q ≡ Some xs) × (x ∷ xs ≡ vs)
  joined_parts None q vs e = no_none vs e
  joined_parts (Some x) None vs e = no_none vs e
  joined_parts (Some x) (Some xs) vs e = (x, refl, xs, refl, some_same (x ∷ xs) vs e)

  last_serve : (n : ℕ) (vs : List Value) → last_temps t d n ≡ Some vs → Arguments n → (length vs ≡ n) × Serve c g n vs
  last_serve zero vs e h = let s = some_same [] vs e in (ap (λ (l : List Value). length l) (sym s), subst (Serve c g 0) s tt)
  last_serve (suc n) vs e h =
      let q = joined_parts (t (d + n)) (last_temps t d n) vs e in
      let rest = last_serve n q.2 q.3 (λ i lt. h i (omega (arith, lt))) in
      (subst (λ (l : List Value). length l ≡ suc n) q.4 (ap suc rest.0), subst (Serve c g (suc n)) q.4 (h n (omega arith) q.0 q.1, rest.1))

  arguments_serve : (n : ℕ) → Arguments n → serve c g (last_temps t d n) ≡ true
  arguments_serve n h = by (last_temps t d n) refl
    where
      by : (o : Option (List Value)) → last_temps t d n ≡ o → serve c g o ≡ true
      by None e = refl
      by (Some vs) e = let q = last_serve n vs e h in ap (serve_from c g 0) (sym (append-nil (reverse vs))) ∙ served c g n vs [] q.0 q.1 refl

module _ (p : Program) (accepted : KeepsRules p) (c : SlotCode) (is : IsProgramCode p c) (f : ℕ) (v : List ℕ) (r : ℕ) (frames : List Frame) (K : ℕ) (enters : Enters p c K) where
  abbrev S : Scope
  S = scope_at p f v

  abbrev T : ℕ → (Temps → Type 0) → List SlotOp → (Temps → Temps → Type 0) → Type 0
  T at P l Q = Runs c f r frames K at P l Q

  abbrev pub ExprRuns : Typed → Type 0
  ExprRuns e = Expr p accepted c f v r frames K e

  abbrev pub SpotRuns : Typed → Type 0
  SpotRuns e = Spot p accepted c f v r frames K e

  call_runs : (at d g n : ℕ) (fn : Function) → slice_get p.functions g ≡ Some fn → (P : Temps → Type 0) → ((t : Temps) → P t → Arguments c g d t n) → T at P (op.Call d g n ∷ []) (Sets d (Gives fn))
  call_runs at d g n fn there P w k le has h i temps pre go =
      at_op c f r frames k h i temps at (op.Call d g n) has.0 (arguments_serve c g d temps n (w temps pre)) λ j lt.
      temps_after c (Safe c j) (last_temps temps d n) _ λ vs s.
      ok_after c (Safe c j) (entered c (suc h.activation.number) g (reverse vs) h.world) _ λ h' e.
      let begun : Here = record { world = h.world; activation = new_activation (suc h.activation.number) g } in
      let same : IsAs begun.activation h' = subst (GivesAs begun.activation) e (given_as c g 0 (reverse vs) begun) in
      enters j (omega (arith, lt, le)) g fn there d (record { activation = h.activation; temps = temps; pc = at + 1; result_at = r } ∷ frames)
      (λ m lm w z gives. go m (omega (arith, lm, lt)) (record { world = w; activation = h.activation }) i (with_temp temps d z) (z, gives, refl)) h' same.1 no_temps

  abbrev HeldRow : {m : _} → Row_of-Typed m → ℕ → Temps → Type 0
  HeldRow end_of-Typed d u = Unit {0}
  HeldRow (more_of-Typed e rest) d u = Held (Claim S e) (u d) × HeldRow rest (suc d) u

  argued : (ls : List ALocal) (rs : List (Option ℕ)) (n : ℕ) {m : _} (row : Row_of-Typed m) (d : ℕ) (u : Temps) → takes_all (take n (map local_type ls)) (operands S row) ≡ true → HeldRow row d u
      → (i : ℕ) → i < length (exprs row) → Held (λ z. serves_in (slice_get (local_rows p.defs ls rs) i) z ≡ true) (u (d + i))
  argued ls rs n end_of-Typed d u h k i lt = absurd (omega (arith, lt))
  argued ls rs zero (more_of-Typed e rest) d u h k i lt = absurd (true≢false (sym h))
  argued [] rs (suc n) (more_of-Typed e rest) d u h k i lt = absurd (true≢false (sym h))
  argued (l ∷ ls) rs (suc n) (more_of-Typed e rest) d u h k zero lt =
      let a = and_parts (converts (plain l.ctype) (operand S e)) (takes_all (take n (map local_type ls)) (operands S rest)) h in
      let z : d + 0 ≡ d = omega arith in
      λ y g. cast_serves l.ctype y (converted_points S (plain l.ctype) e y a.0 (k.0 y (ap u (sym z) ∙ g)))
  argued (l ∷ ls) rs (suc n) (more_of-Typed e rest) d u h k (suc i) lt =
      let a = and_parts (converts (plain l.ctype) (operand S e)) (takes_all (take n (map local_type ls)) (operands S rest)) h in
      let z : suc d + i ≡ d + suc i = omega arith in
      subst (λ j. Held (λ y. serves_in (slice_get (local_rows p.defs ls (drop 1 rs)) i) y ≡ true) (u j)) z (argued ls (drop 1 rs) n rest (suc d) u a.1 k.1 i (omega (arith, lt)))

  row_at : (g i : ℕ) (fn : Function) → slice_get p.functions g ≡ Some fn → local_row c g i ≡ slice_get (local_rows p.defs fn.locals (registers_from fn.locals 0)) i
  row_at g i fn e =
      let q = function_row_at p g fn c.functions e is.functions in
      ap (λ o. slice_get (slot_locals o) i) q.1 ∙ ap (λ ls. slice_get ls i) q.2.locals

  -- ---- what is called

  no_local : (t u : Plain) (args : List Operand) (b : Bool) (o : Option ALocal) → result_type (if b then local_in t o else Hidden) args ≡ Some u → ⊥
  no_local t u args true (Some l) e = by (same t (plain l.ctype)) e
    where
      by : (b : Bool) → result_type (if b then AnObject t l.register else Hidden) args ≡ Some u → ⊥
      by true e = no_none u e
      by false e = no_none u e
  no_local t u args true None e = no_none u e
  no_local t u args false o e = no_none u e

  result_is : (b : Bool) (t q : Plain) → (if b then Some t else None) ≡ Some q → (b ≡ true) × (t ≡ q)
  result_is true t q e = (refl, some_same t q e)
  result_is false t q e = no_none q e

  built_no : (name : List ℕ) (args : List Operand) (t : Plain) → result_type (built_in name) args ≡ Some t → is_pointer (value_type t) ≡ true → ⊥
  built_no name args t e k = first (bytes_eq name (codes "getchar")) e
    where
      gives : (a : Plain) (ts : List Plain) → (is_pointer (value_type a) ≡ true → ⊥) → result_type (AFunction a ts) args ≡ Some t → ⊥
      gives a ts never e = never (subst (λ z. is_pointer (value_type z) ≡ true) (sym (result_is (takes_all ts args) a t e).1) k)

      third : (b : Bool) → result_type (if b then AFunction Void (Int ∷ []) else Hidden) args ≡ Some t → ⊥
      third true e = gives Void (Int ∷ []) (λ z. true≢false (sym z)) e
      third false e = no_none t e

      second : (b : Bool) → result_type (if b then AFunction Int (Int ∷ []) else (if bytes_eq name (codes "exit") then AFunction Void (Int ∷ []) else Hidden)) args ≡ Some t → ⊥
      second true e = gives Int (Int ∷ []) (λ z. true≢false (sym z)) e
      second false e = third (bytes_eq name (codes "exit")) e

      first : (b : Bool) → result_type (if b then AFunction Int [] else (if bytes_eq name (codes "putchar") then AFunction Int (Int ∷ []) else (if bytes_eq name (codes "exit") then AFunction Void (Int ∷ []) else Hidden))) args ≡ Some t → ⊥
      first true e = gives Int [] (λ z. true≢false (sym z)) e
      first false e = second (bytes_eq name (codes "putchar")) e

  -- a call of this type, which is no constant
  module _ (E : Typed) (ct : CType) (is_value : value S E ≡ value_type (plain ct)) (is_call : constant p.defs E ≡ folds.Variable) {m : _} (row : Row_of-Typed m) (d : ℕ) where
    abbrev Before : Temps → Temps → Type 0
    Before t u = Below d t u × HeldRow row d u

    claimed : (C : Value → Type 0) (t u w : Temps) → ((z : Value) → C z → is_pointer (value_type (plain ct)) ≡ true → points z ≡ true) → Below d t u → Sets d C u w → Result p accepted c f v r frames K E d t w
    claimed C t u w k b q = (below_then d t u w b (sets_below d C u w q), λ z e. (λ i. k z (sets_held d C u w q z e) (subst (λ a. is_pointer a ≡ true) is_value i), variable_is z (constant p.defs E) is_call))

    function_runs : (at gi : ℕ) (o : Option Function) (t : Temps) → slice_get p.functions gi ≡ o → result_type (function_in o) (operands S row) ≡ Some (plain ct) → T at (Before t) (op.Call d gi (length (exprs row)) ∷ []) (λ u w. Result p accepted c f v r frames K E d t w)
    function_runs at gi None t e k = no_none (plain ct) k
    function_runs at gi (Some fn) t e k =
        let q = result_is (takes_all (parameters fn) (operands S row)) (plain fn.result) (plain ct) k in
        let result : value_type (plain ct) ≡ plain fn.result = ap value_type (sym q.1) ∙ result_value fn (function_there p accepted gi fn e).result in
        post c f r frames K at (Before t) (op.Call d gi (length (exprs row)) ∷ []) (Sets d (Gives fn)) (λ u w. Result p accepted c f v r frames K E d t w)
        (λ u w b y. claimed (Gives fn) t u w (λ z gives i. gives (subst (λ a. is_pointer a ≡ true) result i)) b.0 y)
        (call_runs at d gi (length (exprs row)) fn e (Before t)
        (λ u b i lt. subst (λ o. Held (λ z. serves_in o z ≡ true) (u (d + i))) (sym (row_at gi i fn e)) (argued fn.locals (registers_from fn.locals 0) fn.params row d u q.0 b.1 i lt)))
      where
        scalar_value : (t : Plain) → is_void t || is_scalar t ≡ true → value_type t ≡ t
        scalar_value (Array t n) h = absurd (true≢false (sym h))
        scalar_value Char h = refl
        scalar_value Int h = refl
        scalar_value Unsigned h = refl
        scalar_value Void h = refl
        scalar_value (Pointer t) h = refl
        scalar_value (Struct n) h = refl

        result_value : (fn : Function) → is_result (plain fn.result) ≡ true → value_type (plain fn.result) ≡ plain fn.result
        result_value fn i = scalar_value (plain fn.result) i

    built_runs : (at n : ℕ) (name : List ℕ) (t : Temps) → result_type (built_in name) (operands S row) ≡ Some (plain ct) → T at (Before t) (built_in_code d name n) (λ u w. Result p accepted c f v r frames K E d t w)
    built_runs at n name t e = by n
      where
        free : (u w : Temps) → Before t u → Sets d (λ z. Unit {0}) u w → Result p accepted c f v r frames K E d t w
        free u w b y = claimed (λ z. Unit {0}) t u w (λ z q i. absurd (built_no name (operands S row) (plain ct) e i)) b.0 y

        get : (b : Bool) → T at (Before t) (if b then op.GetChar d ∷ [] else []) (λ u w. Result p accepted c f v r frames K E d t w)
        get true = post c f r frames K at (Before t) (op.GetChar d ∷ []) (Sets d (λ z. Unit {0})) (λ u w. Result p accepted c f v r frames K E d t w) free (triples.get_runs c f r frames K at (Before t) d)
        get false = nothing c f r frames K at (Before t) (λ u w. Result p accepted c f v r frames K E d t w) (λ u b. (b.0, λ z q. (λ i. absurd (built_no name (operands S row) (plain ct) e (subst (λ a. is_pointer a ≡ true) is_value i)), variable_is z (constant p.defs E) is_call)))

        put : (b : Bool) → T at (Before t) (if b then op.PutChar d ∷ [] else op.Exit d ∷ []) (λ u w. Result p accepted c f v r frames K E d t w)
        put true = post c f r frames K at (Before t) (op.PutChar d ∷ []) (Sets d (λ z. Unit {0})) (λ u w. Result p accepted c f v r frames K E d t w) free (triples.put_runs c f r frames K at (Before t) d)
        put false = triples.exit_runs c f r frames K at (Before t) d (λ u w. Result p accepted c f v r frames K E d t w)

        by : (n : ℕ) → T at (Before t) (built_in_code d name n) (λ u w. Result p accepted c f v r frames K E d t w)
        by zero = get (bytes_eq name (codes "getchar"))
        by (suc n) = put (bytes_eq name (codes "putchar"))

    referred_runs : (at : ℕ) (t : Temps) (sr : SymbolRow) (o : Referent) → result_type (denoted_by p f v (plain sr.ctype) sr.name o) (operands S row) ≡ Some (plain ct)
        → T at (Before t) (call_code d o sr.name (length (exprs row))) (λ u w. Result p accepted c f v r frames K E d t w)
    referred_runs at t sr (Object o) e = no_none (plain ct) e
    referred_runs at t sr (Local y) e = absurd (no_local (plain sr.ctype) (plain ct) (operands S row) (has v y) (slice_get (locals_in (slice_get p.functions f)) y) e)
    referred_runs at t sr (Defined gi) e = function_runs at gi (slice_get p.functions gi) t refl e
    referred_runs at t sr Declared e = built_runs at (length (exprs row)) sr.name t e

    enter_runs : (at g : ℕ) (t : Temps) → call_type S g (operands S row) ≡ Some (plain ct) → T at (Before t) (enter_code d (slice_get p.symbols g) (length (exprs row))) (λ u w. Result p accepted c f v r frames K E d t w)
    enter_runs at g t e =
        let q = callee_there p accepted f v g (operands S row) (plain ct) e in
        subst (λ o. T at (Before t) (enter_code d o (length (exprs row))) (λ u w. Result p accepted c f v r frames K E d t w)) (sym q.1) (referred_runs at t q.0 q.0.refers q.2)

  -- ---- all expressions

  dot_lvalue : (b : Bool) (t : Plain) (m : ℕ) (q : Plain) → (if b then member_type p.defs t m else None) ≡ Some q → b ≡ true
  dot_lvalue true t m q e = refl
  dot_lvalue false t m q e = no_none q e

  follow_runs : (h : Head) (x : _) (a : Typed) → IsTyped S (Follow' h x a) → ExprRuns a → (at d : ℕ) → T at Any (expr_code p f at d a) (Place p accepted c f v r frames K d)
  follow_runs h x a t go at d =
      post c f r frames K at Any (expr_code p f at d a) (Result p accepted c f v r frames K a d) (Place p accepted c f v r frames K d) (λ u w pre m. (m.0, λ z g. (m.1 z g).0 (followed_pointer p (value S a) (plain h.ctype) t.1))) (go at d)

  index_runs : (h : Head) (x y : _) (a b : Typed) → IsTyped S (Index' h x a y b) → ExprRuns a → ExprRuns b → (at d : ℕ)
      → T at Any (expr_code p f at d a ++ (expr_code p f (at + length (expr_code p f at d a)) (suc d) b ++ combine_op p d d (suc d) Add (type_of a) (type_of b) ∷ [])) (Place p accepted c f v r frames K d)
  index_runs h x y a b t ga gb at d =
      let q = then_some (followed p.defs) (sum_type p.defs (value S a) (value S b)) (plain h.ctype) t.2 in
      post c f r frames K at Any (expr_code p f at d a ++ (expr_code p f (at + length (expr_code p f at d a)) (suc d) b ++ combine_op p d d (suc d) Add (type_of a) (type_of b) ∷ [])) (Kept p accepted c f v r frames K d (Combined p accepted c f v r frames K a b Add q.0)) (Place p accepted c f v r frames K d)
      (λ u w pre m. (m.0, λ z g. (m.1 z g).0 (followed_pointer p q.0 (plain h.ctype) q.2)))
      (both_runs p accepted c f v r frames K a b Add q.0 t.0 t.1 q.1 ga gb at d)

  dot_runs : (h : Head) (x : _) (a : Typed) (n : ℕ) → IsTyped S (Dot' h x a n) → (is_lvalue a ≡ true → SpotRuns a) → (at d : ℕ) → T at Any (place_code p f at d a ++ op.Offset d (dot_offset p a n) ∷ []) (Place p accepted c f v r frames K d)
  dot_runs h x a n t go at d =
      offset_runs p accepted c f v r frames K at d (dot_offset p a n) (place_code p f at d a)
      (place_any p accepted c f v r frames K at d (place_code p f at d a) (go (dot_lvalue (is_lvalue a) (plain (type_of a)) n (plain h.ctype) t.1) at d))

  arrow_runs : (a : Typed) (n : ℕ) → ExprRuns a → (at d : ℕ) → T at Any (expr_code p f at d a ++ op.Offset d (arrow_offset p a n) ∷ []) (Place p accepted c f v r frames K d)
  arrow_runs a n go at d = offset_runs p accepted c f v r frames K at d (arrow_offset p a n) (expr_code p f at d a) (result_any p accepted c f v r frames K a at d (expr_code p f at d a) (go at d))

  text_runs : (at d n : ℕ) → T at Any (op.TextAddress d n ∷ []) (Place p accepted c f v r frames K d)
  text_runs at d n = set_place p accepted c f v r frames K at d (op.TextAddress d n) (triples.text_runs c f r frames K at Any d n)

  binary_runs : (h : Head) (x y : _) (a b : Typed) (o : BinaryOp) → IsTyped S (Binary' h x a o y b) → ExprRuns a → ExprRuns b → ExprRuns (Binary' h x a o y b)
  binary_runs h x y a b o t ga gb at d =
      post c f r frames K at Any (expr_code p f at d a ++ (expr_code p f (at + length (expr_code p f at d a)) (suc d) b ++ combine_op p d d (suc d) o (type_of a) (type_of b) ∷ [])) (Kept p accepted c f v r frames K d (Combined p accepted c f v r frames K a b o (plain h.ctype))) (Result p accepted c f v r frames K (Binary' h x a o y b) d)
      (λ u w pre m. (m.0, λ z g. let q = m.1 z g in (λ k. q.0 (subst (λ i. is_pointer i ≡ true) (binary_value p.defs o S a b (plain h.ctype) t.2) k), q.1)))
      (both_runs p accepted c f v r frames K a b o (plain h.ctype) t.0 t.1 t.2 ga gb at d)

  mutual
    pub expr_runs : (e : Typed) → IsTyped S e → ExprRuns e
    expr_runs (Comma' h x a y b) t at d =
        let ca = expr_code p f at d a in
        let cb = expr_code p f (at + length ca) d b in
        let q = only_is (may_drop (operand S a) && is_scalar (value S b)) (value S b) (plain h.ctype) t.2 in
        let same_value : value_type (plain h.ctype) ≡ value S b = ap value_type (sym q.1) ∙ value_twice (plain (type_of b)) in
        seq c f r frames K at Any ca cb (Below d) (Result p accepted c f v r frames K (Comma' h x a y b) d) (result_any p accepted c f v r frames K a at d ca (expr_runs a t.0 at d)) λ t0 pre.
        post c f r frames K (at + length ca) (Below d t0) cb (Result p accepted c f v r frames K b d) (λ u w. Result p accepted c f v r frames K (Comma' h x a y b) d t0 w)
        (λ u w q m. (below_then d t0 u w q m.0, λ z g. (λ k. (m.1 z g).0 (subst (λ i. is_pointer i ≡ true) same_value k), λ n k. no_variable n k)))
        (any p accepted c f v r frames K (at + length ca) (Below d t0) cb (Result p accepted c f v r frames K b d) (expr_runs b t.1 (at + length ca) d))
    expr_runs (Assign' h x a None y b) t at d = assign_runs p accepted c f v r frames K h x y a b t (λ i m n. spot_runs a t.0 i m n) (λ i m n. spot_runs b t.1 i m n) (λ m n. expr_runs b t.1 m n) at d
    expr_runs (Assign' h x a (Some o) y b) t at d = compound_assign p accepted c f v r frames K h x y a b o t (λ i m n. spot_runs a t.0 i m n) (λ m n. expr_runs b t.1 m n) at d
    expr_runs (Choice' h x e y a z b) t at d = choose_runs p accepted c f v r frames K h x y z e a b t (λ m n. expr_runs e t.0 m n) (λ m n. expr_runs a t.1 m n) (λ m n. expr_runs b t.2 m n) at d
    expr_runs (Or' h x a y b) t at d = or_runs p accepted c f v r frames K h x y a b t (λ m n. expr_runs a t.0 m n) (λ m n. expr_runs b t.1 m n) at d
    expr_runs (And' h x a y b) t at d = and_runs p accepted c f v r frames K h x y a b t (λ m n. expr_runs a t.0 m n) (λ m n. expr_runs b t.1 m n) at d
    expr_runs (Binary' h x a o y b) t at d = binary_runs h x y a b o t (λ m n. expr_runs a t.0 m n) (λ m n. expr_runs b t.1 m n) at d
    expr_runs (Cast' h x a) t at d = cast_value p accepted c f v r frames K h x a t (λ m n. expr_runs a t.0 m n) at d
    expr_runs (Before' h o x a) t at d = step_runs p accepted c f v r frames K (Before' h o x a) a (stepped o) true t.1 refl (λ i m n. spot_runs a t.0 i m n) at d
    expr_runs (Address' h x a) t at d =
        let q = only_is (is_lvalue a && not (is_register S a) && not (is_string a)) (Pointer (plain (type_of a))) (plain h.ctype) t.1 in
        let i = and_parts (is_lvalue a) (not (is_register S a)) (and_parts (is_lvalue a && not (is_register S a)) (not (is_string a)) q.0).0 in
        post c f r frames K at Any (place_code p f at d a) (Place p accepted c f v r frames K d) (Result p accepted c f v r frames K (Address' h x a) d) (λ u w pre m. (m.0, λ z g. (λ k. m.1 z g, λ n k. no_variable n k))) (spot_runs a t.0 i.0 at d)
    expr_runs (Unary' h o x a) t at d = unary_value p accepted c f v r frames K h o x a t (λ m n. expr_runs a t.0 m n) at d
    expr_runs (SizeOf' h x a) t at d = constant_value p accepted c f v r frames K (SizeOf' h x a) (size_of p.defs (type_of a)) (unsigned_is p accepted c f v r frames K _ (plain h.ctype) t.1) (size_small p accepted c f v r frames K (type_of a) (type_formed p accepted f v a t.0)) (ap folds.Number (sym (size_plain p.defs (type_of a)))) at d
    expr_runs (SizeOfType h u) t at d = constant_value p accepted c f v r frames K (SizeOfType h u) (size_of p.defs u) (unsigned_is p accepted c f v r frames K _ (plain h.ctype) t.1) (size_small p accepted c f v r frames K u (formed p.defs u t.0.1)) (ap folds.Number (sym (size_plain p.defs u))) at d
    expr_runs (Call' h g x row) t at d =
        let cr = row_code p f at d row in
        seq c f r frames K at Any cr (enter_code d (slice_get p.symbols g) (length (exprs row))) (λ t u. Below d t u × HeldRow row d u) (Result p accepted c f v r frames K (Call' h g x row) d) (row_runs row t.0 at d) λ t0 pre. enter_runs (Call' h g x row) h.ctype refl refl row d (at + length cr) g t0 t.1
    expr_runs (After' h x a o) t at d = step_runs p accepted c f v r frames K (After' h x a o) a (stepped o) false t.1 refl (λ i m n. spot_runs a t.0 i m n) at d
    expr_runs (Constant h n) t at d = constant_value p accepted c f v r frames K (Constant h n) n (integer_constant S (plain h.ctype) t.0) t.1 refl at d
    expr_runs (Parens' h x a) t at d =
        post c f r frames K at Any (expr_code p f at d a) (Result p accepted c f v r frames K a d) (Result p accepted c f v r frames K (Parens' h x a) d)
        (λ u w pre m. (m.0, λ z g. (λ k. (m.1 z g).0 (subst (λ i. is_pointer (value_type i) ≡ true) (sym t.1) k), (m.1 z g).1))) (expr_runs a t.0 at d)
    expr_runs (Name h n) t at d =
        value_runs p accepted c f v r frames K (Name h n) h.ctype at d (expr_code p f at d (Name h n)) refl refl
        (read_runs p accepted c f v r frames K at d (register_in p f (Name h n)) h.ctype (name_code p f d (slice_get p.symbols n)) (λ x e. register_value h.ctype (register_inside p f (Name h n)) x e) (λ e. name_runs p accepted c f v r frames K at d n (plain h.ctype) t))
    expr_runs (Literal h n) t at d = value_runs p accepted c f v r frames K (Literal h n) h.ctype at d (expr_code p f at d (Literal h n)) refl refl (loaded p accepted c f v r frames K at d h.ctype (op.TextAddress d n ∷ []) (text_runs at d n))
    expr_runs (Follow' h x a) t at d = value_runs p accepted c f v r frames K (Follow' h x a) h.ctype at d (expr_code p f at d (Follow' h x a)) refl refl (loaded p accepted c f v r frames K at d h.ctype (expr_code p f at d a) (follow_runs h x a t (λ m n. expr_runs a t.0 m n) at d))
    expr_runs (Index' h x a y b) t at d = value_runs p accepted c f v r frames K (Index' h x a y b) h.ctype at d (expr_code p f at d (Index' h x a y b)) refl refl (loaded p accepted c f v r frames K at d h.ctype (place_code p f at d (Index' h x a y b)) (index_runs h x y a b t (λ m n. expr_runs a t.0 m n) (λ m n. expr_runs b t.1 m n) at d))
    expr_runs (Dot' h x a n) t at d = value_runs p accepted c f v r frames K (Dot' h x a n) h.ctype at d (expr_code p f at d (Dot' h x a n)) refl refl (loaded p accepted c f v r frames K at d h.ctype (place_code p f at d (Dot' h x a n)) (dot_runs h x a n t (λ l i j. spot_runs a t.0 l i j) at d))
    expr_runs (Arrow' h x a n) t at d = value_runs p accepted c f v r frames K (Arrow' h x a n) h.ctype at d (expr_code p f at d (Arrow' h x a n)) refl refl (loaded p accepted c f v r frames K at d h.ctype (place_code p f at d (Arrow' h x a n)) (arrow_runs a n (λ m n. expr_runs a t.0 m n) at d))

    pub spot_runs : (e : Typed) → IsTyped S e → is_lvalue e ≡ true → SpotRuns e
    spot_runs (Name h n) t l at d = name_runs p accepted c f v r frames K at d n (plain h.ctype) t
    spot_runs (Literal h n) t l at d = text_runs at d n
    spot_runs (Follow' h x a) t l at d = follow_runs h x a t (λ m n. expr_runs a t.0 m n) at d
    spot_runs (Index' h x a y b) t l at d = index_runs h x y a b t (λ m n. expr_runs a t.0 m n) (λ m n. expr_runs b t.1 m n) at d
    spot_runs (Dot' h x a n) t l at d = dot_runs h x a n t (λ l i j. spot_runs a t.0 l i j) at d
    spot_runs (Arrow' h x a n) t l at d = arrow_runs a n (λ m n. expr_runs a t.0 m n) at d
    spot_runs (Parens' h x a) t l at d = spot_runs a t.0 l at d
    spot_runs _ t l at d = absurd (true≢false (sym l))

    row_runs : {m : _} (row : Row_of-Typed m) → AreTyped S row → (at d : ℕ) → T at Any (row_code p f at d row) (λ t u. Below d t u × HeldRow row d u)
    row_runs end_of-Typed t at d = nothing c f r frames K at Any (λ t u. Below d t u × Unit {0}) (λ t pre. (λ x lt. refl, tt))
    row_runs (more_of-Typed e rest) t at d =
        let ce = expr_code p f at d e in
        let cr = row_code p f (at + length ce) (suc d) rest in
        seq c f r frames K at Any ce cr (Result p accepted c f v r frames K e d) (λ t u. Below d t u × (Held (Claim S e) (u d) × HeldRow rest (suc d) u)) (expr_runs e t.0 at d) λ t0 pre.
        post c f r frames K (at + length ce) (Result p accepted c f v r frames K e d t0) cr (λ u w. Below (suc d) u w × HeldRow rest (suc d) w) (λ u w. Below d t0 w × (Held (Claim S e) (w d) × HeldRow rest (suc d) w))
        (λ u w q m. (below_then d t0 u w q.0 (below_less d (suc d) u w (omega arith) m.0), (held_same (Claim S e) (u d) (w d) (m.0 d (omega arith)) q.1, m.1)))
        (any p accepted c f v r frames K (at + length ce) (Result p accepted c f v r frames K e d t0) cr (λ u w. Below (suc d) u w × HeldRow rest (suc d) w) (row_runs rest t.1 (at + length ce) (suc d)))
