-- The code of an expression names the temporaries that it is said to take alone.
use Rattle.std.proofs.Common.{ℕ, zero, suc, ◌+◌, ◌<◌, ◌≤◌, List, [], ◌∷◌, ◌++◌, length, Bool, true, false, Option, Some, None, arith}
use Rattle.std.specs.Prelude.{slice_get, bytes_eq, codes, if◌then◌else◌}
use Rattle.c_tree.specs.declared.types.CType.{CType}
use Rattle.c_tree.specs.declared.types.CType.TheVariants.{Int}
use Rattle.c_tree.specs.declared.typed.BinaryOp.{BinaryOp}
use Rattle.c_tree.specs.declared.typed.BinaryOp.TheVariants.{BitOr, BitXor, BitAnd, Equal, Unequal, Less, Greater, LessEqual, GreaterEqual, ShiftLeft, ShiftRight, Add, Subtract, Multiply, Divide, Remainder}
use Rattle.c_tree.specs.declared.typed.Typed.{Typed, Row_of-Typed, end_of-Typed, more_of-Typed}
use Rattle.c_tree.specs.declared.typed.Typed.TheVariants.{Comma', Assign', Choice', Or', And', Binary', Cast', Before', Address', Follow', Unary', SizeOf', SizeOfType, Index', Call', Dot', Arrow', After', Name, Constant, Literal, Parens'}
use Rattle.c_tree.specs.declared.rows.Program.{Program}
use Rattle.c_tree.specs.declared.rows.SymbolRow.{SymbolRow}
use Rattle.c_tree.specs.declared.rows.Referent.{Referent}
use Rattle.c_tree.specs.declared.rows.Referent.TheVariants.{Object, Local, Function as Defined, Declared}
use Rattle.c_tree.specs.Rows.{exprs}
use Rattle.c_tree.specs.Types.{type_of, target_of, is_array, is_struct, kind_of}
use Rattle.c_tree.specs.Layout.{size_of}
use Rattle.c_source.specs.Size.{nodes_of, list_nodes, row_nodes}
use Rattle.c_source.specs.Source.{stepping}
use Rattle.slot_ir.specs.declared.code.Access.{Access}
use Rattle.slot_ir.specs.declared.code.Access.TheVariants as access
use Rattle.slot_ir.specs.declared.code.SlotOp.{SlotOp}
use Rattle.slot_ir.specs.declared.code.SlotOp.TheVariants as op
use Rattle.slot_gen.specs.Expressions.{access_of, converting, cast_code, load_code, mixed_op, pointers_op, targets_op, combine_op, call_code, built_in_code, enter_code, choice_code, and_code, or_code, name_code, referent_code, read_at, write_at, update_at, unless_register, register_in, expr_code, place_code, row_code}
use Rattle.slot_gen.specs.Bounds.{temps_of, row_temps, IsBelow, AreBelow}

pub below_append : (n : ℕ) (a b : List SlotOp) → AreBelow n a → AreBelow n b → AreBelow n (a ++ b)
below_append n [] b x y = y
below_append n (o ∷ a) b x y = (x.0, below_append n a b x.1 y)

pub some_temps : (e : Typed) → 1 ≤ temps_of e
some_temps (Comma' h x a y b) = omega (arith, some_temps a)
some_temps (Assign' h x a o y b) = omega arith
some_temps (Choice' h x c y a z b) = omega (arith, some_temps c)
some_temps (Or' h x a y b) = omega (arith, some_temps a)
some_temps (And' h x a y b) = omega (arith, some_temps a)
some_temps (Binary' h x a o y b) = omega (arith, some_temps a)
some_temps (Cast' h x a) = some_temps a
some_temps (Before' h o x a) = omega arith
some_temps (Address' h x a) = some_temps a
some_temps (Follow' h x a) = some_temps a
some_temps (Unary' h o x a) = some_temps a
some_temps (SizeOf' h x a) = omega arith
some_temps (SizeOfType h t) = omega arith
some_temps (Index' h x a y b) = omega (arith, some_temps a)
some_temps (Call' h f x row) = omega arith
some_temps (Dot' h x a m) = some_temps a
some_temps (Arrow' h x a m) = some_temps a
some_temps (After' h x a o) = omega arith
some_temps (Name h m) = omega arith
some_temps (Constant h m) = omega arith
some_temps (Literal h m) = omega arith
some_temps (Parens' h x a) = some_temps a

length-row : {m : _} (row : Row_of-Typed m) → length (exprs row) ≤ row_temps row
length-row end_of-Typed = omega arith
length-row (more_of-Typed e rest) = omega (arith, length-row rest)

-- an expression takes one temporary more than it has nodes, at most
nodes_some : (e : Typed) → 1 ≤ nodes_of e
nodes_some (Comma' h x a y b) = omega arith
nodes_some (Assign' h x a o y b) = omega arith
nodes_some (Choice' h x c y a z b) = omega arith
nodes_some (Or' h x a y b) = omega arith
nodes_some (And' h x a y b) = omega arith
nodes_some (Binary' h x a o y b) = omega arith
nodes_some (Cast' h x a) = omega arith
nodes_some (Before' h o x a) = omega arith
nodes_some (Address' h x a) = omega arith
nodes_some (Follow' h x a) = omega arith
nodes_some (Unary' h o x a) = omega arith
nodes_some (SizeOf' h x a) = omega arith
nodes_some (SizeOfType h t) = omega arith
nodes_some (Index' h x a y b) = omega arith
nodes_some (Call' h f x row) = omega arith
nodes_some (Dot' h x a m) = omega arith
nodes_some (Arrow' h x a m) = omega arith
nodes_some (After' h x a o) = omega arith
nodes_some (Name h m) = omega arith
nodes_some (Constant h m) = omega arith
nodes_some (Literal h m) = omega arith
nodes_some (Parens' h x a) = omega arith

list_some : {m : _} (row : Row_of-Typed m) → row_nodes row ≤ list_nodes row
list_some end_of-Typed = omega arith
list_some (more_of-Typed e rest) = omega arith

mutual
  pub temps_few : (e : Typed) → temps_of e ≤ nodes_of e + 1
  temps_few (Comma' h x a y b) = omega (arith, temps_few a, nodes_some a, temps_few b, nodes_some b)
  temps_few (Assign' h x a o y b) = omega (arith, temps_few a, nodes_some a, temps_few b, nodes_some b)
  temps_few (Choice' h x c y a z b) = omega (arith, temps_few c, nodes_some c, temps_few a, nodes_some a, temps_few b, nodes_some b)
  temps_few (Or' h x a y b) = omega (arith, temps_few a, nodes_some a, temps_few b, nodes_some b)
  temps_few (And' h x a y b) = omega (arith, temps_few a, nodes_some a, temps_few b, nodes_some b)
  temps_few (Binary' h x a o y b) = omega (arith, temps_few a, nodes_some a, temps_few b, nodes_some b)
  temps_few (Cast' h x a) = omega (arith, temps_few a, nodes_some a)
  temps_few (Before' h o x a) = omega (arith, temps_few a, nodes_some a)
  temps_few (Address' h x a) = omega (arith, temps_few a, nodes_some a)
  temps_few (Follow' h x a) = omega (arith, temps_few a, nodes_some a)
  temps_few (Unary' h o x a) = omega (arith, temps_few a, nodes_some a)
  temps_few (SizeOf' h x a) = omega (arith, temps_few a, nodes_some a)
  temps_few (SizeOfType h t) = omega arith
  temps_few (Index' h x a y b) = omega (arith, temps_few a, nodes_some a, temps_few b, nodes_some b)
  temps_few (Call' h f x row) = omega (arith, row_few row, list_some row)
  temps_few (Dot' h x a m) = omega (arith, temps_few a, nodes_some a)
  temps_few (Arrow' h x a m) = omega (arith, temps_few a, nodes_some a)
  temps_few (After' h x a o) = omega (arith, temps_few a, nodes_some a)
  temps_few (Name h m) = omega arith
  temps_few (Constant h m) = omega arith
  temps_few (Literal h m) = omega arith
  temps_few (Parens' h x a) = omega (arith, temps_few a, nodes_some a)

  row_few : {m : _} (row : Row_of-Typed m) → row_temps row ≤ row_nodes row + 1
  row_few end_of-Typed = omega arith
  row_few (more_of-Typed e rest) = omega (arith, temps_few e, nodes_some e, row_few rest)

-- ---- operators

pub cast_below : (n d : ℕ) (a : Access) → d < n → AreBelow n (converting d a)
cast_below n d access.Word lt = tt
cast_below n d access.SignedByte lt = (lt, tt)
cast_below n d access.UnsignedByte lt = (lt, tt)
cast_below n d access.SignedHalf lt = (lt, tt)
cast_below n d access.UnsignedHalf lt = (lt, tt)
cast_below n d access.Pointer lt = (lt, tt)

load_below : (n d : ℕ) (t : CType) → d < n → AreBelow n (load_code d t)
load_below n d t lt = by (is_array t)
  where
    by : (b : Bool) → AreBelow n (if b then [] else op.Load d d (kind_of t) (access_of t) ∷ [])
    by true = tt
    by false = ((lt, lt), tt)

module _ (n to l r : ℕ) (a : to < n) (b : l < n) (c : r < n) where
  mixed_below : (size : ℕ) (o : BinaryOp) (t : CType) → IsBelow n (mixed_op to l r size o t)
  mixed_below size BitOr t = (a, b, c)
  mixed_below size BitXor t = (a, b, c)
  mixed_below size BitAnd t = (a, b, c)
  mixed_below size Equal t = (a, b, c)
  mixed_below size Unequal t = (a, b, c)
  mixed_below size Less t = (a, b, c)
  mixed_below size Greater t = (a, b, c)
  mixed_below size LessEqual t = (a, b, c)
  mixed_below size GreaterEqual t = (a, b, c)
  mixed_below size ShiftLeft t = (a, b, c)
  mixed_below size ShiftRight t = (a, b, c)
  mixed_below size Add t = (a, b, c)
  mixed_below size Subtract t = (a, b, c)
  mixed_below size Multiply t = (a, b, c)
  mixed_below size Divide t = (a, b, c)
  mixed_below size Remainder t = (a, b, c)

  pointers_below : (size : ℕ) (o : BinaryOp) → IsBelow n (pointers_op to l r size o)
  pointers_below size BitOr = (a, b, c)
  pointers_below size BitXor = (a, b, c)
  pointers_below size BitAnd = (a, b, c)
  pointers_below size Equal = (a, b, c)
  pointers_below size Unequal = (a, b, c)
  pointers_below size Less = (a, b, c)
  pointers_below size Greater = (a, b, c)
  pointers_below size LessEqual = (a, b, c)
  pointers_below size GreaterEqual = (a, b, c)
  pointers_below size ShiftLeft = (a, b, c)
  pointers_below size ShiftRight = (a, b, c)
  pointers_below size Add = (a, b, c)
  pointers_below size Subtract = (a, b, c)
  pointers_below size Multiply = (a, b, c)
  pointers_below size Divide = (a, b, c)
  pointers_below size Remainder = (a, b, c)

targets_below : (p : Program) (n to l r : ℕ) → to < n → l < n → r < n → (o : BinaryOp) (s t : CType) (u v : Option CType) → IsBelow n (targets_op p to l r o s t u v)
targets_below p n to l r a b c o s t None None = (a, b, c)
targets_below p n to l r a b c o s t (Some u) None = mixed_below n to l r a b c (size_of p.defs u) o t
targets_below p n to l r a b c o s t None (Some v) = mixed_below n to r l a c b (size_of p.defs v) o s
targets_below p n to l r a b c o s t (Some u) (Some v) = pointers_below n to l r a b c (size_of p.defs u) o

combine_below : (p : Program) (n to l r : ℕ) → to < n → l < n → r < n → (o : BinaryOp) (s t : CType) → IsBelow n (combine_op p to l r o s t)
combine_below p n to l r a b c o s t = targets_below p n to l r a b c o s t (target_of s) (target_of t)

built_below : (n d m : ℕ) (name : List ℕ) → d < n → AreBelow n (built_in_code d name m)
built_below n d zero name lt = by (bytes_eq name (codes "getchar"))
  where
    by : (b : Bool) → AreBelow n (if b then op.GetChar d ∷ [] else [])
    by true = (lt, tt)
    by false = tt
built_below n d (suc m) name lt = by (bytes_eq name (codes "putchar"))
  where
    by : (b : Bool) → AreBelow n (if b then op.PutChar d ∷ [] else op.Exit d ∷ [])
    by true = (lt, tt)
    by false = (lt, tt)

enter_below : (n d m : ℕ) (o : Option SymbolRow) → d < n → d + m ≤ n → AreBelow n (enter_code d o m)
enter_below n d m None lt le = tt
enter_below n d m (Some s) lt le = by s.refers
  where
    by : (r : Referent) → AreBelow n (call_code d r s.name m)
    by (Object o) = tt
    by (Local x) = tt
    by (Defined j) = ((lt, le), tt)
    by Declared = built_below n d m s.name lt

module _ (p : Program) (f n : ℕ) where
  name_below : (d : ℕ) (o : Option SymbolRow) → d < n → AreBelow n (name_code p f d o)
  name_below d None lt = tt
  name_below d (Some s) lt = by s.refers
    where
      by : (r : Referent) → AreBelow n (referent_code d r)
      by (Object o) = (lt, tt)
      by (Local x) = (lt, tt)
      by (Defined j) = tt
      by Declared = tt

  unless_below : (o : Option ℕ) (is : List SlotOp) → AreBelow n is → AreBelow n (unless_register o is)
  unless_below None is b = b
  unless_below (Some x) is b = tt

  read_below : (d : ℕ) (o : Option ℕ) (t : CType) → d < n → AreBelow n (read_at p f d o t)
  read_below d None t lt = load_below n d t lt
  read_below d (Some x) t lt = (lt, tt)

  pub write_below : (d : ℕ) (o : Option ℕ) (t : CType) → suc d < n → AreBelow n (write_at p f d o t)
  write_below d None t lt = below_append n (cast_code (suc d) t) _ (cast_below n (suc d) (access_of t) lt) ((omega (arith, lt), lt), ((omega (arith, lt), lt), tt))
  write_below d (Some x) t lt = below_append n (cast_code (suc d) t) _ (cast_below n (suc d) (access_of t) lt) (lt, ((omega (arith, lt), lt), tt))

  take_below : (d : ℕ) (new : Bool) → suc (suc d) < n → IsBelow n (op.Take d (if new then suc d else suc (suc d)))
  take_below d true lt = (omega (arith, lt), omega (arith, lt))
  take_below d false lt = (omega (arith, lt), lt)

  update_below : (d : ℕ) (o : Option ℕ) (t : CType) (b : BinaryOp) (s : CType) (new : Bool) → suc (suc d) < n → AreBelow n (update_at p f d o t b s new)
  update_below d None t b s new lt = (
    (lt, omega (arith, lt)),
    (
      combine_below p n (suc d) (suc (suc d)) (suc d) (omega (arith, lt)) lt (omega (arith, lt)) b t s,
      below_append n (cast_code (suc d) t) _ (cast_below n (suc d) (access_of t) (omega (arith, lt))) ((omega (arith, lt), omega (arith, lt)), (take_below d new lt, tt)),
    ),
  )
  update_below d (Some x) t b s new lt = (
    lt,
    (
      combine_below p n (suc d) (suc (suc d)) (suc d) (omega (arith, lt)) lt (omega (arith, lt)) b t s,
      below_append n (cast_code (suc d) t) _ (cast_below n (suc d) (access_of t) (omega (arith, lt))) (omega (arith, lt), (take_below d new lt, tt)),
    ),
  )

  choice_below : (at d : ℕ) (a b : List SlotOp) → d < n → AreBelow n a → AreBelow n b → AreBelow n (choice_code at d a b)
  choice_below at d a b lt x y = (lt, below_append n a _ x (tt, y))

  and_below : (at d : ℕ) (b : List SlotOp) → d < n → AreBelow n b → AreBelow n (and_code at d b)
  and_below at d b lt y = (lt, below_append n b _ y (lt, (tt, (lt, tt))))

  or_below : (at d : ℕ) (b : List SlotOp) → d < n → AreBelow n b → AreBelow n (or_code at d b)
  or_below at d b lt y = (lt, below_append n b _ y (lt, (tt, (lt, tt))))

  -- ---- expressions

  assign_below : (c : Bool) (x y : List SlotOp) → AreBelow n x → AreBelow n y → AreBelow n (if c then x else y)
  assign_below true x y a b = a
  assign_below false x y a b = b

  mutual
    pub expr_below : (e : Typed) (at d : ℕ) → d + temps_of e ≤ n → AreBelow n (expr_code p f at d e)
    expr_below (Comma' h x a y b) at d le = below_append n (expr_code p f at d a) _ (expr_below a at d (omega (arith, le))) (expr_below b (at + length (expr_code p f at d a)) d (omega (arith, le)))
    expr_below (Assign' h x a None y b) at d le =
        assign_below (is_struct (type_of a)) _ _
        (below_append n (place_code p f at d a) _ (place_below a at d (omega (arith, le))) (below_append n (place_code p f (at + length (place_code p f at d a)) (suc d) b) _ (place_below b (at + length (place_code p f at d a)) (suc d) (omega (arith, le))) ((omega (arith, le), omega (arith, le)), (omega (arith, le), tt))))
        (below_append n (unless_register (register_in p f a) (place_code p f at d a)) _ (unless_below (register_in p f a) (place_code p f at d a) (place_below a at d (omega (arith, le))))
        (below_append n (expr_code p f (at + length (unless_register (register_in p f a) (place_code p f at d a))) (suc d) b) _ (expr_below b (at + length (unless_register (register_in p f a) (place_code p f at d a))) (suc d) (omega (arith, le))) (write_below d (register_in p f a) (type_of a) (omega (arith, le)))))
    expr_below (Assign' h x a (Some o) y b) at d le =
        below_append n (unless_register (register_in p f a) (place_code p f at d a)) _ (unless_below (register_in p f a) (place_code p f at d a) (place_below a at d (omega (arith, le))))
        (below_append n (expr_code p f (at + length (unless_register (register_in p f a) (place_code p f at d a))) (suc d) b) _ (expr_below b (at + length (unless_register (register_in p f a) (place_code p f at d a))) (suc d) (omega (arith, le))) (update_below d (register_in p f a) (type_of a) o (type_of b) true (omega (arith, le))))
    expr_below (Choice' h x c y a z b) at d le =
        let cc = expr_code p f at d c in
        let ca = expr_code p f (at + length cc + 1) d a ++ cast_code d h.ctype in
        let lt : d < n = omega (arith, le, some_temps c) in
        below_append n cc _ (expr_below c at d (omega (arith, le)))
        (choice_below (at + length cc) d ca _ lt
        (below_append n (expr_code p f (at + length cc + 1) d a) _ (expr_below a (at + length cc + 1) d (omega (arith, le))) (cast_below n d (access_of h.ctype) lt))
        (below_append n (expr_code p f (at + length cc + 1 + length ca + 1) d b) _ (expr_below b (at + length cc + 1 + length ca + 1) d (omega (arith, le))) (cast_below n d (access_of h.ctype) lt)))
    expr_below (Or' h x a y b) at d le =
        let ca = expr_code p f at d a in
        below_append n ca _ (expr_below a at d (omega (arith, le))) (or_below (at + length ca) d _ (omega (arith, le, some_temps a)) (expr_below b (at + length ca + 1) d (omega (arith, le))))
    expr_below (And' h x a y b) at d le =
        let ca = expr_code p f at d a in
        below_append n ca _ (expr_below a at d (omega (arith, le))) (and_below (at + length ca) d _ (omega (arith, le, some_temps a)) (expr_below b (at + length ca + 1) d (omega (arith, le))))
    expr_below (Binary' h x a o y b) at d le =
        let ca = expr_code p f at d a in
        let lt : suc d < n = omega (arith, le, some_temps b) in
        below_append n ca _ (expr_below a at d (omega (arith, le))) (below_append n (expr_code p f (at + length ca) (suc d) b) _ (expr_below b (at + length ca) (suc d) (omega (arith, le))) (combine_below p n d d (suc d) (omega (arith, lt)) (omega (arith, lt)) lt o (type_of a) (type_of b), tt))
    expr_below (Cast' h x a) at d le = below_append n (expr_code p f at d a) _ (expr_below a at d le) (cast_below n d (access_of h.ctype) (omega (arith, le, some_temps a)))
    expr_below (Before' h o x a) at d le =
        below_append n (unless_register (register_in p f a) (place_code p f at d a)) _ (unless_below (register_in p f a) (place_code p f at d a) (place_below a at d (omega (arith, le)))) (omega (arith, le), update_below d (register_in p f a) (type_of a) (stepping o) Int true (omega (arith, le)))
    expr_below (Address' h x a) at d le = place_below a at d le
    expr_below (Unary' h o x a) at d le = below_append n (expr_code p f at d a) _ (expr_below a at d le) (omega (arith, le, some_temps a), tt)
    expr_below (SizeOf' h x a) at d le = (omega (arith, le), tt)
    expr_below (SizeOfType h t) at d le = (omega (arith, le), tt)
    expr_below (Call' h g x row) at d le = below_append n (row_code p f at d row) _ (row_below row at d (omega (arith, le))) (enter_below n d (length (exprs row)) (slice_get p.symbols g) (omega (arith, le)) (omega (arith, le, length-row row)))
    expr_below (After' h x a o) at d le =
        below_append n (unless_register (register_in p f a) (place_code p f at d a)) _ (unless_below (register_in p f a) (place_code p f at d a) (place_below a at d (omega (arith, le)))) (omega (arith, le), update_below d (register_in p f a) (type_of a) (stepping o) Int false (omega (arith, le)))
    expr_below (Constant h m) at d le = (omega (arith, le), tt)
    expr_below (Parens' h x a) at d le = expr_below a at d le
    expr_below (Name h m) at d le =
        below_append n (unless_register (register_in p f (Name h m)) (name_code p f d (slice_get p.symbols m))) _ (unless_below (register_in p f (Name h m)) (name_code p f d (slice_get p.symbols m)) (name_below d (slice_get p.symbols m) (omega (arith, le)))) (read_below d (register_in p f (Name h m)) h.ctype (omega (arith, le)))
    expr_below (Literal h m) at d le = (omega (arith, le), load_below n d h.ctype (omega (arith, le)))
    expr_below (Follow' h x a) at d le = below_append n (expr_code p f at d a) _ (expr_below a at d le) (load_below n d h.ctype (omega (arith, le, some_temps a)))
    expr_below (Index' h x a y b) at d le =
        let ca = expr_code p f at d a in
        let lt : suc d < n = omega (arith, le, some_temps b) in
        below_append n _ (load_code d h.ctype) (below_append n ca _ (expr_below a at d (omega (arith, le))) (below_append n (expr_code p f (at + length ca) (suc d) b) _ (expr_below b (at + length ca) (suc d) (omega (arith, le))) (combine_below p n d d (suc d) (omega (arith, lt)) (omega (arith, lt)) lt Add (type_of a) (type_of b), tt))) (load_below n d h.ctype (omega (arith, lt)))
    expr_below (Dot' h x a m) at d le =
        let lt : d < n = omega (arith, le, some_temps a) in
        below_append n _ (load_code d h.ctype) (below_append n (place_code p f at d a) _ (place_below a at d le) (lt, tt)) (load_below n d h.ctype lt)
    expr_below (Arrow' h x a m) at d le =
        let lt : d < n = omega (arith, le, some_temps a) in
        below_append n _ (load_code d h.ctype) (below_append n (expr_code p f at d a) _ (expr_below a at d le) (lt, tt)) (load_below n d h.ctype lt)

    pub place_below : (e : Typed) (at d : ℕ) → d + temps_of e ≤ n → AreBelow n (place_code p f at d e)
    place_below (Name h m) at d le = name_below d (slice_get p.symbols m) (omega (arith, le))
    place_below (Literal h m) at d le = (omega (arith, le), tt)
    place_below (Follow' h x a) at d le = expr_below a at d le
    place_below (Index' h x a y b) at d le =
        let ca = expr_code p f at d a in
        let lt : suc d < n = omega (arith, le, some_temps b) in
        below_append n ca _ (expr_below a at d (omega (arith, le))) (below_append n (expr_code p f (at + length ca) (suc d) b) _ (expr_below b (at + length ca) (suc d) (omega (arith, le))) (combine_below p n d d (suc d) (omega (arith, lt)) (omega (arith, lt)) lt Add (type_of a) (type_of b), tt))
    place_below (Dot' h x a m) at d le = below_append n (place_code p f at d a) _ (place_below a at d le) (omega (arith, le, some_temps a), tt)
    place_below (Arrow' h x a m) at d le = below_append n (expr_code p f at d a) _ (expr_below a at d le) (omega (arith, le, some_temps a), tt)
    place_below (Parens' h x a) at d le = place_below a at d le
    place_below e at d le = tt

    row_below : {m : _} (row : Row_of-Typed m) (at d : ℕ) → d + row_temps row ≤ n → AreBelow n (row_code p f at d row)
    row_below end_of-Typed at d le = tt
    row_below (more_of-Typed e rest) at d le =
        below_append n (expr_code p f at d e) _ (expr_below e at d (omega (arith, le))) (row_below rest (at + length (expr_code p f at d e)) (suc d) (omega (arith, le)))
