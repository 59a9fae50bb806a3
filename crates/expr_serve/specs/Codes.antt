-- The text of PostScript that has the value of a checked expression.
use Rattle.std.specs.Prelude.{ℕ, ℤ, Bool, true, false, ◌&&◌, pos, neg_ℤ, ◌/◌, ◌%◌, ◌^◌, ◌==◌, nat_lt, if◌then◌else◌, List, ◌++◌, codes, slice_get, Option, Some, None}
use Rattle.c_tree.specs.declared.types.CType.{CType}
use Rattle.c_tree.specs.declared.types.CType.TheVariants.{Struct}
use Rattle.c_tree.specs.declared.types.StructDef.{StructDef}
use Rattle.c_tree.specs.declared.types.Member.{Member}
use Rattle.c_tree.specs.declared.typed.BinaryOp.{BinaryOp}
use Rattle.c_tree.specs.declared.typed.BinaryOp.TheVariants.{Add, Subtract}
use Rattle.c_tree.specs.declared.typed.Typed.{Typed}
use Rattle.c_tree.specs.declared.typed.Typed.TheVariants.{Comma', Assign', Choice', Or', And', Binary', Cast', Address', Follow', Unary', SizeOf', SizeOfType, Index', Dot', Arrow', Name, Constant, Parens'}
use Rattle.c_tree.specs.Types.{type_of, target_of, is_unsigned, is_array, is_struct}
use Rattle.c_tree.specs.Layout.{members_of}
use Rattle.c_judge.specs.declared.symbol.Symbol.{Symbol}
use Rattle.c_judge.specs.declared.check.Mode.{Mode}
use Rattle.c_judge.specs.declared.check.Mode.TheVariants.{Value, Assign}
use Rattle.ps_text.specs.Code.{Code, Stop, Proc, render}
use Rattle.ps_emit.specs.Terms.{◌⋯◌, word, name, integer, number}
use Rattle.expr_serve.specs.declared.emit.Standing.{Standing}
use Rattle.expr_serve.specs.declared.emit.Standing.TheVariants.{Named, Pointed}
use Rattle.expr_serve.specs.Literals.{literal}
use Rattle.expr_serve.specs.Types.{bytes_of, struct_leaves}
use Rattle.expr_serve.specs.Operators.{chosen, by_zero, on_ints, on_integers, on_pointers, on_one, conversion, kind}

-- How the place of an lvalue stands among the operands: that of a name, and of its members, as a space and an offset; any other as a pointer.
abbrev pub standing_of : Typed → Standing
standing_of (Name _ n) = Named
standing_of (Dot' _ _ a m) = standing_of a
standing_of (Parens' _ _ a) = standing_of a
standing_of _ = Pointed

abbrev pub by_standing : {A : Type 0} → Standing → (named pointed : A) → A
by_standing Named x y = x
by_standing Pointed x y = y

-- ---- pointers

-- The operator takes a number with a sign, and multiplies it by a size exactly. A pointer so many bytes further: 2^31 or more are the lowest bit, and then half of them
-- by two.
abbrev pub near : ℕ → Code
near n = number n ⋯ integer (pos 1) ⋯ word "ptradd"

abbrev pub far : ℕ → Code
far n = near (n % 2) ⋯ number (n / 2) ⋯ integer (pos 2) ⋯ word "ptradd"

abbrev pub further : ℕ → Code
further n = if nat_lt n (2 ^ 31) then near n else far n

-- so many bytes further, or back
abbrev pub bytes_by : (is_back : Bool) → ℕ → ℤ
bytes_by is_back n = if is_back then neg_ℤ (pos n) else pos n

-- An `unsigned` number of 2^31 or more, and the size to multiply it by: of single bytes it is taken as above; of larger items it leads out of every object, as some other
-- number does.
abbrev pub halved : (one two : ℤ) → Code
halved one two =
    word "exch" ⋯ integer (pos 1) ⋯ word "index" ⋯ integer (pos 1) ⋯ word "and" ⋯ integer one ⋯ word "ptradd"
    ⋯ word "exch" ⋯ integer (pos 1) ⋯ word "ushr" ⋯ integer two

abbrev pub beyond : Code
beyond = word "pop" ⋯ integer (pos 2147483647) ⋯ integer (pos 2147483647)

abbrev pub large_items : (is_back : Bool) → (size : ℕ) → Code
large_items is_back size = if size == 1 then halved (bytes_by is_back 1) (bytes_by is_back 2) else beyond

-- a pointer moved by so many items of a size
abbrev pub signed_items : (is_back : Bool) → (size : ℕ) → Code
signed_items is_back size = integer (bytes_by is_back size) ⋯ word "ptradd"

abbrev pub unsigned_items : (is_back : Bool) → (size : ℕ) → Code
unsigned_items is_back size = word "dup" ⋯ integer (pos 0) ⋯ word "lt" ⋯ chosen (large_items is_back size) (integer (bytes_by is_back size)) ⋯ word "ptradd"

-- those of size 0 lead nowhere
abbrev pub by_items : (is_back : Bool) → (size : ℕ) → CType → Code
by_items is_back size t = if is_unsigned t && nat_lt 0 size then unsigned_items is_back size else signed_items is_back size

-- ---- places

-- the place of a name, by its symbol
abbrev pub place_of_name : Option Symbol → Code
place_of_name None = word "Where"
place_of_name (Some x) = literal x.name ⋯ word "Where"

-- the pointer to a place
abbrev pub address_of : Standing → Code
address_of s = by_standing s (word "exch" ⋯ word "pop") Stop

-- a scalar is fetched, and its leaf has to be live where a pointer leads to it
abbrev pub fetched : Standing → CType → Code
fetched s t = by_standing s Stop (kind t ⋯ word "Leaf") ⋯ kind t ⋯ word "fetch"

-- the value at a place: an array is its place
abbrev pub value_at : Standing → CType → Code
value_at s t = if is_array t then address_of s else fetched s t

-- a place so many bytes further
abbrev pub place_further : Standing → ℕ → Code
place_further s at = by_standing s (number at ⋯ word "uadd") (further at)

-- a place as a space and an offset, whose leaves needn't be live
abbrev pub as_spot : Standing → Code
as_spot s = by_standing s Stop (name "d" ⋯ word "exch")

-- the scalar's leaf below the value that it is to have: it has to be live where a pointer led to it
abbrev pub live_scalar : Standing → CType → Code
live_scalar s t = by_standing s Stop (integer (pos 1) ⋯ word "index" ⋯ kind t ⋯ word "Leaf" ⋯ word "pop" ⋯ word "pop")

abbrev offset_in : Option Member → ℕ
offset_in None = 0
offset_in (Some m) = m.at

-- the pointer that is on top, or below another place
abbrev pub brought : (is_below : Bool) → Code
brought is_below = if is_below then integer (pos 2) ⋯ word "index" else word "dup"

module _ (defs : List StructDef) where
  -- the offset of a member, in a struct and in what a pointer to one leads to
  abbrev pub offset_of : CType → (member : ℕ) → ℕ
  offset_of (Struct s) m = offset_in (slice_get (members_of defs s) m)
  offset_of _ m = 0

  abbrev pub offset_behind : Option CType → (member : ℕ) → ℕ
  offset_behind None m = 0
  offset_behind (Some t) m = offset_of t m

  -- the struct at a pointer: all of its leaves have to be live
  abbrev pub all_leaves : CType → Code
  all_leaves (Struct s) = struct_leaves defs s
  all_leaves _ = Stop

  -- a struct whose pointer is brought on top, and dropped again
  abbrev pub live_leaves : (is_below : Bool) → CType → Code
  live_leaves is_below t = brought is_below ⋯ all_leaves t ⋯ word "pop" ⋯ word "pop"

  abbrev pub live_struct : Standing → (is_below : Bool) → CType → Code
  live_struct s is_below t = by_standing s Stop (live_leaves is_below t)

  -- ---- two operands

  -- a pointer to an item, and an integer
  abbrev pub on_pointer : BinaryOp → (item t : CType) → Code
  on_pointer Add item t = by_items false (bytes_of defs item) t
  on_pointer Subtract item t = by_items true (bytes_of defs item) t
  on_pointer op item t = on_ints op

  abbrev pub on_two_pointers : BinaryOp → (item : CType) → Code
  on_two_pointers Subtract item = integer (pos (bytes_of defs item)) ⋯ word "ptrsub"
  on_two_pointers op item = on_pointers op

  abbrev pub by_targets : BinaryOp → CType → CType → Option CType → Option CType → Code
  by_targets op s t None None = on_integers op s t
  by_targets op s t (Some a) None = on_pointer op a t
  by_targets op s t None (Some b) = word "exch" ⋯ on_pointer op b s
  by_targets op s t (Some a) (Some b) = on_two_pointers op a

  -- a binary operator on operands of two types
  abbrev pub on_two : BinaryOp → CType → CType → Code
  on_two op s t = by_targets op s t (target_of s) (target_of t)

-- ---- expressions

module _ (names : List Symbol) (defs : List StructDef) where
  abbrev mutual
    -- the value of an expression
    pub value_code : Typed → Code
    value_code (Comma' _ _ a _ b) = value_code a ⋯ word "pop" ⋯ value_code b
    value_code (Choice' h _ c _ a _ b) = value_code c ⋯ by_zero (value_code b ⋯ conversion h.ctype) (value_code a ⋯ conversion h.ctype)
    value_code (Or' _ _ a _ b) = value_code a ⋯ by_zero (value_code b ⋯ by_zero (integer (pos 0)) (integer (pos 1))) (integer (pos 1))
    value_code (And' _ _ a _ b) = value_code a ⋯ by_zero (integer (pos 0)) (value_code b ⋯ by_zero (integer (pos 0)) (integer (pos 1)))
    value_code (Binary' _ _ a op _ b) = value_code a ⋯ value_code b ⋯ on_two defs op (type_of a) (type_of b)
    value_code (Cast' h _ a) = value_code a ⋯ conversion h.ctype
    value_code (Address' _ _ a) = place_code a ⋯ address_of (standing_of a)
    value_code (Unary' _ op _ a) = value_code a ⋯ on_one op (type_of a)
    value_code (SizeOf' _ _ a) = integer (pos (bytes_of defs (type_of a)))
    value_code (SizeOfType _ t) = integer (pos (bytes_of defs t))
    value_code (Constant _ n) = number n
    value_code (Parens' _ _ a) = value_code a
    value_code (Name h n) = place_of_name (slice_get names n) ⋯ value_at Named h.ctype
    value_code (Follow' h _ a) = value_code a ⋯ value_at Pointed h.ctype
    value_code (Index' h _ a _ b) = (value_code a ⋯ value_code b ⋯ on_two defs Add (type_of a) (type_of b)) ⋯ value_at Pointed h.ctype
    value_code (Dot' h _ a m) = (place_code a ⋯ place_further (standing_of a) (offset_of defs (type_of a) m)) ⋯ value_at (standing_of a) h.ctype
    value_code (Arrow' h _ a m) = (value_code a ⋯ further (offset_behind defs (target_of (type_of a)) m)) ⋯ value_at Pointed h.ctype
    value_code _ = Stop

    -- the place of an lvalue
    pub place_code : Typed → Code
    place_code (Name _ n) = place_of_name (slice_get names n)
    place_code (Follow' _ _ a) = value_code a
    place_code (Index' _ _ a _ b) = value_code a ⋯ value_code b ⋯ on_two defs Add (type_of a) (type_of b)
    place_code (Dot' _ _ a m) = place_code a ⋯ place_further (standing_of a) (offset_of defs (type_of a) m)
    place_code (Arrow' _ _ a m) = value_code a ⋯ further (offset_behind defs (target_of (type_of a)) m)
    place_code (Parens' _ _ a) = place_code a
    place_code _ = Stop

  -- a place as a space and an offset
  abbrev pub spot_code : Typed → Code
  spot_code e = place_code e ⋯ as_spot (standing_of e)

  -- a struct's place, all of whose leaves are live
  abbrev pub struct_code : Typed → Code
  struct_code e = place_code e ⋯ by_standing (standing_of e) Stop (all_leaves defs (type_of e))

  -- what an evaluation takes
  abbrev pub whole_code : Typed → Code
  whole_code e = if is_struct (type_of e) then struct_code e else value_code e

  -- ---- assignments

  -- the places of two structs, of which the leaves of those through pointers are live
  abbrev pub copying_code : Typed → Typed → Code
  copying_code a b =
      spot_code a ⋯ spot_code b ⋯ live_struct defs (standing_of a) true (type_of a) ⋯ live_struct defs (standing_of b) false (type_of b)

  -- a scalar's place and its new value
  abbrev pub setting_code : Typed → Typed → Code
  setting_code a b = spot_code a ⋯ value_code b ⋯ conversion (type_of a) ⋯ live_scalar (standing_of a) (type_of a)

  -- what an assignment takes: the place, and then the right side
  abbrev pub assignment_code : Typed → Code
  assignment_code (Assign' _ _ a None _ b) = if is_struct (type_of a) then copying_code a b else setting_code a b
  assignment_code _ = Stop

  -- the pieces of a text by its mode
  abbrev pub code_of : Mode → Typed → Code
  code_of Value e = whole_code e
  code_of Assign e = assignment_code e

  -- the text: it is read as one procedure, and then run
  abbrev pub text_of : Mode → Typed → List ℕ
  text_of mode e = render (Proc (code_of mode e) Stop) ++ codes "exec"
