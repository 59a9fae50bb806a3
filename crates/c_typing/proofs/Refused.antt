-- Expressions and statements that break a rule aren't well typed.
use Rattle.std.proofs.Common.{◌≡◌, refl, sym, subst, ℕ, [], ◌∷◌, Option, Some, None, Bool, false, true, true≢false, lit<, lit≤}
use Rattle.std.specs.Prelude.{Box, codes}
use Rattle.std.specs.declared.alloc.Global.{Global}
use Rattle.std.specs.declared.rc.Rc.{Rc}
use Rattle.c_tree.specs.declared.types.CType.{CType}
use Rattle.c_tree.specs.declared.types.CType.TheVariants.{Char, Int, Unsigned, Pointer', Array'}
use Rattle.c_tree.specs.declared.typed.BinaryOp.TheVariants.{ShiftLeft, Add, Subtract, Multiply, Divide}
use Rattle.c_tree.specs.declared.typed.Typed.{Typed, end_of-Typed, more_of-Typed}
use Rattle.c_tree.specs.declared.typed.Typed.TheVariants.{Assign', Choice', Or', And', Binary', Cast', Address', Follow', SizeOf', Call', Name, Constant, Literal, Parens'}
use Rattle.c_tree.specs.declared.typed.Stmt.{Stmt, end_of-Stmt, more_of-Stmt}
use Rattle.c_tree.specs.declared.typed.Stmt.TheVariants.{Value, Block', Switch', Case', Break, Continue, Return}
use Rattle.c_tree.specs.declared.rows.Program.{Program}
use Rattle.c_typing.specs.Plain as plain
use Rattle.c_typing.specs.Constants.{constant_of, is_null}
use Rattle.c_typing.specs.Rules.{binary_type}
use Rattle.c_typing.specs.Expressions.{Scope, Object, Function, operand, IsTyped}
use Rattle.c_typing.specs.Statements.{in_function, in_loop, IsStatement}
use Rattle.c_typing.specs.Programs.{KeepsRules}
use Rattle.c_typing.proofs.Trees.{somewhere, of_type, at, shape_of}

abbrev Refuted : Type 0 → Type 0
Refuted A = A → ⊥

-- a rule that gives no type, or another one
abbrev IsSome : {A : Type 0} → Option A → Type 0
IsSome None = ⊥
IsSome (Some x) = Unit {0}

none_some : {A : Type 0} (x : A) → ◌≡◌ {A = Option A} None (Some x) → ⊥
none_some x e = subst IsSome (sym e) tt

module _ (b : Box (Unit {0}) Global) (rc : Rc (Unit {0}) Global) where
  -- `int i, *p; unsigned *q; register int r; int f(int); char *c; int a[4];`
  abbrev scope : Scope
  scope = record {
    names = Object plain.Int false ∷ Object (plain.Pointer plain.Int) false ∷ Object (plain.Pointer plain.Unsigned) false ∷ Object plain.Int true ∷ Function plain.Int (plain.Int ∷ []) ∷ Object (plain.Pointer plain.Char) false ∷ Object (plain.Array plain.Int 4) false ∷ [];
    defs = [];
    strings = codes "ab" ∷ [];
  }

  abbrev i : Typed
  i = Name (of_type Int) 0

  abbrev ptr : CType → CType
  ptr t = Pointer' rc t

  abbrev p : Typed
  p = Name (of_type (ptr Int)) 1

  abbrev q : Typed
  q = Name (of_type (ptr Unsigned)) 2

  abbrev r : Typed
  r = Name (of_type Int) 3

  abbrev a : Typed
  a = Name (of_type (Array' rc Int 4)) 6

  abbrev number : ℕ → Typed
  number n = Constant (of_type Int) n

  -- `i = p`, `p = i`, `p = q`, `a = p`; but `p = 0`, `p = a` and `p = (char) 256`
  int_from_pointer : Refuted (IsTyped scope (Assign' (of_type Int) b i None b p))
  int_from_pointer h = none_some plain.Int h.2

  pointer_from_int : Refuted (IsTyped scope (Assign' (of_type (ptr Int)) b p None b i))
  pointer_from_int h = none_some (plain.Pointer plain.Int) h.2

  pointer_of_another_type : Refuted (IsTyped scope (Assign' (of_type (ptr Int)) b p None b q))
  pointer_of_another_type h = none_some (plain.Pointer plain.Int) h.2

  array_assigned : Refuted (IsTyped scope (Assign' (of_type (Array' rc Int 4)) b a None b p))
  array_assigned h = none_some (plain.Array plain.Int 4) h.2

  null_assigned : IsTyped scope (Assign' (of_type (ptr Int)) b p None b (number 0))
  null_assigned = Prim.search (lit<)

  array_is_pointer : IsTyped scope (Assign' (of_type (ptr Int)) b p None b a)
  array_is_pointer = Prim.search

  null_by_value : IsTyped scope (Assign' (of_type (ptr Int)) b p None b (Cast' (of_type Char) b (number 256)))
  null_by_value = Prim.search (lit<)

  -- `&(r)` of a register variable, `&"ab"`, `f` as a value, `*i`, `p * 2`, `p - q`
  register_address : Refuted (IsTyped scope (Address' (of_type (ptr Int)) b (Parens' (of_type Int) b r)))
  register_address h = none_some (plain.Pointer plain.Int) h.1

  string_address : Refuted (IsTyped scope (Address' (of_type (ptr (Array' rc Char 3))) b (Literal (of_type (Array' rc Char 3)) 0)))
  string_address h = none_some (plain.Pointer (plain.Array plain.Char 3)) h.1

  function_as_value : Refuted (IsTyped scope (Name (of_type Int) 4))
  function_as_value h = none_some plain.Int h

  number_followed : Refuted (IsTyped scope (Follow' (of_type Int) b i))
  number_followed h = none_some plain.Int h.1

  pointer_multiplied : Refuted (IsTyped scope (Binary' (of_type Int) b p Multiply b (number 2)))
  pointer_multiplied h = none_some plain.Int h.2

  pointers_of_two_types : Refuted (IsTyped scope (Binary' (of_type Int) b p Subtract b q))
  pointers_of_two_types h = none_some plain.Int h.2

  -- calls with too few arguments and with a pointer
  no_argument : Refuted (IsTyped scope (Call' (of_type Int) 4 (shape_of b 0 (lit< tt)) end_of-Typed))
  no_argument h = none_some plain.Int h.1

  wrong_argument : Refuted (IsTyped scope (Call' (of_type Int) 4 (shape_of b 1 (lit< tt)) (more_of-Typed p end_of-Typed)))
  wrong_argument h = none_some plain.Int h.1

  right_argument : IsTyped scope (Call' (of_type Int) 4 (shape_of b 1 (lit< tt)) (more_of-Typed i end_of-Typed))
  right_argument = Prim.search

  -- a shift has the promoted type of its left operand: `(char) 1 << 1u` is an `int`
  shift_by_unsigned : binary_type [] ShiftLeft (operand scope (Cast' (of_type Char) b (number 1))) (operand scope (Constant (of_type Unsigned) 1)) ≡ Some plain.Int
  shift_by_unsigned = refl

  sum_with_unsigned : binary_type [] Add (operand scope (number 1)) (operand scope (Constant (of_type Unsigned) 1)) ≡ Some plain.Unsigned
  sum_with_unsigned = refl

  -- `sizeof a` is 16, of an array and no pointer; `a + 1` is a pointer
  array_size : constant_of [] (SizeOf' (of_type Unsigned) b a) ≡ Some 16
  array_size = refl

  moved_array : binary_type [] Add (operand scope a) (operand scope (number 1)) ≡ Some (plain.Pointer plain.Int)
  moved_array = refl

  -- `1 || 1 / 0` is a constant, and `1 / 0` is none
  short_circuit : constant_of [] (Or' (of_type Int) b (number 1) b (Binary' (of_type Int) b (number 1) Divide b (number 0))) ≡ Some 1
  short_circuit = refl

  no_quotient : constant_of [] (Binary' (of_type Int) b (number 1) Divide b (number 0)) ≡ None
  no_quotient = refl

  -- `0 && i`, `1 || i` and `1 ? 0 : i` are none, for `i` is no constant; `0 && 1 / 0` is one
  variable_not_evaluated : constant_of [] (And' (of_type Int) b (number 0) b i) ≡ None
  variable_not_evaluated = refl

  variable_behind_true : constant_of [] (Or' (of_type Int) b (number 1) b i) ≡ None
  variable_behind_true = refl

  variable_not_chosen : constant_of [] (Choice' (of_type Int) b (number 1) b (number 0) b i) ≡ None
  variable_not_chosen = refl

  quotient_not_evaluated : constant_of [] (And' (of_type Int) b (number 0) b (Binary' (of_type Int) b (number 1) Divide b (number 0))) ≡ Some 0
  quotient_not_evaluated = refl

  -- 2147483647 + 1 is none, and 4294967295u + 1 is a null constant
  no_sum : constant_of [] (Binary' (of_type Int) b (number 2147483647) Add b (number 1)) ≡ None
  no_sum = refl

  null_sum : is_null [] (Binary' (of_type Unsigned) b (Constant (of_type Unsigned) 4294967295) Add b (number 1)) ≡ true
  null_sum = refl

  -- ---- statements, in a program of one point and no names

  abbrev nothing : Program
  nothing = record { units = []; defs = []; objects = []; strings = []; functions = []; points = record { function = 0; line = 1; column = 1; symbol = None } ∷ []; symbols = [] }

  abbrev Stands : (in_a_loop : Bool) → Stmt → Type 0
  Stands true s = IsStatement nothing 0 plain.Int [] in_loop s
  Stands false s = IsStatement nothing 0 plain.Int [] in_function s

  break_outside : Refuted (Stands false (Break somewhere))
  break_outside h = true≢false (sym h)

  break_in_loop : Stands true (Break somewhere)
  break_in_loop = refl

  continue_in_switch : Refuted (Stands false (Switch' somewhere (at 0 (number 1)) b (Block' somewhere [] (shape_of b 1 (lit< tt)) (more_of-Stmt (Continue somewhere) end_of-Stmt) 1 1)))
  continue_in_switch h = true≢false (sym h.1.1.0)

  label_outside : Refuted (Stands false (Case' somewhere 1 b (Value somewhere None)))
  label_outside h = true≢false (sym h.0)

  return_without : Refuted (Stands false (Return somewhere 0 None))
  return_without h = true≢false (sym h.0)

  one_label_twice : Refuted (Stands false (Switch' somewhere (at 0 (number 1)) b (Block' somewhere [] (shape_of b 2 (lit< tt)) (more_of-Stmt (Case' somewhere 3 b (Break somewhere)) (more_of-Stmt (Case' somewhere 3 b (Break somewhere)) end_of-Stmt)) 1 1)))
  one_label_twice h = true≢false h.1.2.0

  two_labels : Stands false (Switch' somewhere (at 0 (number 1)) b (Block' somewhere [] (shape_of b 2 (lit< tt)) (more_of-Stmt (Case' somewhere 3 b (Break somewhere)) (more_of-Stmt (Case' somewhere 4 b (Break somewhere)) end_of-Stmt)) 1 1))
  two_labels = Prim.search (lit<, lit≤)

  -- a program has to have a `main`
  no_main : Refuted (KeepsRules nothing)
  no_main h = true≢false (sym h.main)
