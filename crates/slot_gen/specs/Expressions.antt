-- The slot code of expressions.
use Rattle.std.specs.Prelude.{ℕ, suc, zero, ◌+◌, List, [], ◌∷◌, ◌++◌, Bool, true, false, ◌&&◌, nat_lt, Option, Some, None, slice_get, length, bytes_eq, codes, if◌then◌else◌}
use Rattle.c_tree.specs.declared.types.CType.{CType}
use Rattle.c_tree.specs.declared.types.CType.TheVariants.{Char, Int, Pointer'}
use Rattle.c_tree.specs.declared.typed.BinaryOp.{BinaryOp}
use Rattle.c_tree.specs.declared.typed.BinaryOp.TheVariants as tree
use Rattle.c_tree.specs.declared.typed.UnaryOp.{UnaryOp}
use Rattle.c_tree.specs.declared.typed.UnaryOp.TheVariants as sign
use Rattle.c_tree.specs.declared.typed.Typed.{Typed, Row_of-Typed, end_of-Typed, more_of-Typed}
use Rattle.c_tree.specs.declared.typed.Typed.TheVariants.{Comma', Assign', Choice', Or', And', Binary', Cast', Before', Address', Follow', Unary', SizeOf', SizeOfType, Index', Call', Dot', Arrow', After', Name, Constant, Literal, Parens'}
use Rattle.c_tree.specs.declared.rows.Program.{Program}
use Rattle.c_tree.specs.declared.rows.Local.{Local}
use Rattle.c_tree.specs.declared.rows.SymbolRow.{SymbolRow}
use Rattle.c_tree.specs.declared.rows.Referent.{Referent}
use Rattle.c_tree.specs.declared.rows.Referent.TheVariants.{Object, Local as LocalName, Function as Defined, Declared}
use Rattle.c_tree.specs.Rows.{exprs}
use Rattle.c_tree.specs.Types.{type_of, target_of, kind_of, is_struct, is_array, is_unsigned}
use Rattle.c_tree.specs.Layout.{size_of}
use Rattle.c_source.specs.Blocks.{locals_in}
use Rattle.c_operators.specs.Arithmetic.{operating_type}
use Rattle.c_source.specs.Source.{dot_offset, arrow_offset, stepping, struct_number}
use Rattle.slot_ir.specs.declared.code.Access.{Access}
use Rattle.slot_ir.specs.declared.code.Access.TheVariants.{SignedByte, Word, Pointer}
use Rattle.slot_ir.specs.declared.code.WordOp.{WordOp}
use Rattle.slot_ir.specs.declared.code.WordOp.TheVariants as word
use Rattle.slot_ir.specs.declared.code.UnaryWordOp.{UnaryWordOp}
use Rattle.slot_ir.specs.declared.code.UnaryWordOp.TheVariants.{Plus, Minus, MinusUnsigned, Complement, Not, Truth}
use Rattle.slot_ir.specs.declared.code.PointerOp.TheVariants as pointer
use Rattle.slot_ir.specs.declared.code.SlotOp.{SlotOp}
use Rattle.slot_ir.specs.declared.code.SlotOp.TheVariants.{Const, StaticAddress, TextAddress, LocalAddress, Load, Store, ReadRegister, WriteRegister, Convert, Unary, Binary, Compare, Index, Distance, Offset, Take, Jump, JumpIfZero, JumpIfNotZero, Call, Move, GetChar, PutChar, Exit}

-- ---- locals in registers: the first eight scalars of a function that are `register`

abbrev pub is_scalar : CType → Bool
is_scalar t = if is_array t then false else (if is_struct t then false else true)

abbrev pub wants_register : Local → Bool
wants_register l = l.register && is_scalar l.ctype

-- the register of each local, where so many are taken
abbrev pub registers_from : List Local → (taken : ℕ) → List (Option ℕ)
registers_from [] n = []
registers_from (l ∷ ls) n = if wants_register l && nat_lt n 8 then Some n ∷ registers_from ls (suc n) else None ∷ registers_from ls n

abbrev register_in_row : Option (Option ℕ) → Option ℕ
register_in_row None = None
register_in_row (Some r) = r

abbrev pub register_at : List (Option ℕ) → (local : ℕ) → Option ℕ
register_at rs x = register_in_row (slice_get rs x)

-- ---- values of a type

-- how a value is converted to a type (C90 6.2.1)
abbrev pub access_of : CType → Access
access_of Char = SignedByte
access_of (Pointer' _ t) = Pointer
access_of _ = Word

abbrev pub converting : ℕ → Access → List SlotOp
converting d Word = []
converting d a = Convert d a ∷ []

abbrev pub cast_code : ℕ → CType → List SlotOp
cast_code d t = converting d (access_of t)

abbrev pub load_code : ℕ → CType → List SlotOp
load_code d t = if is_array t then [] else Load d d (kind_of t) (access_of t) ∷ []

-- the value in the next temporary is written to the place in d, and is the value of the assignment
abbrev pub store_code : ℕ → CType → List SlotOp
store_code d t = cast_code (suc d) t ++ Store d (suc d) (kind_of t) ∷ Take d (suc d) ∷ []

abbrev pub write_code : ℕ → (local : ℕ) → CType → List SlotOp
write_code d x t = cast_code (suc d) t ++ WriteRegister (suc d) x (kind_of t) ∷ Take d (suc d) ∷ []

-- ---- operators

abbrev pub word_op : BinaryOp → Bool → WordOp
word_op tree.BitOr u = word.Or
word_op tree.BitXor u = word.Xor
word_op tree.BitAnd u = word.And
word_op tree.Equal u = word.Equal
word_op tree.Unequal u = word.Unequal
word_op tree.Less u = if u then word.LessUnsigned else word.Less
word_op tree.Greater u = if u then word.GreaterUnsigned else word.Greater
word_op tree.LessEqual u = if u then word.LessEqualUnsigned else word.LessEqual
word_op tree.GreaterEqual u = if u then word.GreaterEqualUnsigned else word.GreaterEqual
word_op tree.ShiftLeft u = word.ShiftLeft
word_op tree.ShiftRight u = if u then word.ShiftRightUnsigned else word.ShiftRight
word_op tree.Add u = if u then word.AddUnsigned else word.Add
word_op tree.Subtract u = if u then word.SubtractUnsigned else word.Subtract
word_op tree.Multiply u = if u then word.MultiplyUnsigned else word.Multiply
word_op tree.Divide u = if u then word.DivideUnsigned else word.Divide
word_op tree.Remainder u = if u then word.RemainderUnsigned else word.Remainder

-- a pointer in temporary l and an integer of type t in r; there are no other operators on these
abbrev pub mixed_op : (to l r size : ℕ) → BinaryOp → CType → SlotOp
mixed_op to l r size tree.Add t = Index to l r size (is_unsigned t) false
mixed_op to l r size tree.Subtract t = Index to l r size (is_unsigned t) true
mixed_op to l r size tree.Equal t = Compare to l r pointer.Equal
mixed_op to l r size tree.Unequal t = Compare to l r pointer.Unequal
mixed_op to l r size op t = Binary to l r word.Or

-- two pointers to items of a size
abbrev pub pointers_op : (to l r size : ℕ) → BinaryOp → SlotOp
pointers_op to l r size tree.Equal = Compare to l r pointer.Equal
pointers_op to l r size tree.Unequal = Compare to l r pointer.Unequal
pointers_op to l r size tree.Less = Compare to l r pointer.Less
pointers_op to l r size tree.Greater = Compare to l r pointer.Greater
pointers_op to l r size tree.LessEqual = Compare to l r pointer.LessEqual
pointers_op to l r size tree.GreaterEqual = Compare to l r pointer.GreaterEqual
pointers_op to l r size tree.Subtract = Distance to l r size
pointers_op to l r size op = Binary to l r word.Or

module _ (p : Program) where
  abbrev pub targets_op : (to l r : ℕ) → BinaryOp → CType → CType → Option CType → Option CType → SlotOp
  targets_op to l r op s t None None = Binary to l r (word_op op (is_unsigned (operating_type op s t)))
  targets_op to l r op s t (Some a) None = mixed_op to l r (size_of p.defs a) op t
  targets_op to l r op s t None (Some b) = mixed_op to r l (size_of p.defs b) op s
  targets_op to l r op s t (Some a) (Some b) = pointers_op to l r (size_of p.defs a) op

  -- a binary operator on operands of types s and t in temporaries l and r
  abbrev pub combine_op : (to l r : ℕ) → BinaryOp → CType → CType → SlotOp
  combine_op to l r op s t = targets_op to l r op s t (target_of s) (target_of t)

abbrev pub unary_op : UnaryOp → CType → UnaryWordOp
unary_op sign.Plus t = Plus
unary_op sign.Minus t = if is_unsigned t then MinusUnsigned else Minus
unary_op sign.Complement t = Complement
unary_op sign.Not t = Not

-- ---- choices, at this place in the code

-- the test's outcome is in temporary d
abbrev pub choice_code : (at d : ℕ) → List SlotOp → List SlotOp → List SlotOp
choice_code at d a b = JumpIfZero d (at + 1 + length a + 1) ∷ (a ++ Jump (at + 1 + length a + 1 + length b) ∷ b)

-- `&&` and `||`, whose left operand is in temporary d
abbrev pub and_code : (at d : ℕ) → List SlotOp → List SlotOp
and_code at d b = JumpIfZero d (at + 1 + length b + 2) ∷ (b ++ Unary d Truth ∷ Jump (at + 1 + length b + 3) ∷ Const d 0 ∷ [])

abbrev pub or_code : (at d : ℕ) → List SlotOp → List SlotOp
or_code at d b = JumpIfNotZero d (at + 1 + length b + 2) ∷ (b ++ Unary d Truth ∷ Jump (at + 1 + length b + 3) ∷ Const d 1 ∷ [])

-- ---- calls, with the arguments in the temporaries from d on

abbrev pub built_in_code : ℕ → List ℕ → (arguments : ℕ) → List SlotOp
built_in_code d name zero = if bytes_eq name (codes "getchar") then GetChar d ∷ [] else []
built_in_code d name (suc n) = if bytes_eq name (codes "putchar") then PutChar d ∷ [] else Exit d ∷ []

abbrev pub call_code : ℕ → Referent → List ℕ → (arguments : ℕ) → List SlotOp
call_code d (Defined f) name n = Call d f n ∷ []
call_code d Declared name n = built_in_code d name n
call_code d _ name n = []

abbrev pub enter_code : ℕ → Option SymbolRow → (arguments : ℕ) → List SlotOp
enter_code d None n = []
enter_code d (Some s) n = call_code d s.refers s.name n

abbrev pub referent_code : ℕ → Referent → List SlotOp
referent_code d (Object o) = StaticAddress d o ∷ []
referent_code d (LocalName x) = LocalAddress d x ∷ []
referent_code d (Defined g) = []
referent_code d Declared = []

abbrev pub if_register : (local : ℕ) → Option ℕ → Option ℕ
if_register x None = None
if_register x (Some r) = Some x

abbrev pub unless_register : Option ℕ → List SlotOp → List SlotOp
unless_register None place = place
unless_register (Some x) place = []

-- ---- expressions of function number f

module _ (p : Program) (f : ℕ) where
  abbrev pub registers_of : List (Option ℕ)
  registers_of = registers_from (locals_in (slice_get p.functions f)) 0

  abbrev pub register_of : (local : ℕ) → Option ℕ
  register_of x = register_at registers_of x

  abbrev pub referent_register : Referent → Option ℕ
  referent_register (Object o) = None
  referent_register (LocalName x) = if_register x (register_of x)
  referent_register (Defined g) = None
  referent_register Declared = None

  abbrev pub register_named : Option SymbolRow → Option ℕ
  register_named None = None
  register_named (Some s) = referent_register s.refers

  abbrev pub register_inside : Typed → Option ℕ
  register_inside (Name t n) = register_named (slice_get p.symbols n)
  register_inside (Parens' t _ a) = register_inside a
  register_inside _ = None

  -- the local in a register that a scalar lvalue is
  abbrev pub register_in : Typed → Option ℕ
  register_in e = if is_scalar (type_of e) then register_inside e else None

  abbrev pub name_code : ℕ → Option SymbolRow → List SlotOp
  name_code d None = []
  name_code d (Some s) = referent_code d s.refers

  -- a compound assignment: the place or the register, the operand in the next temporary
  abbrev pub update_code : ℕ → CType → BinaryOp → CType → Bool → List SlotOp
  update_code d t op s new =
      Load (suc (suc d)) d (kind_of t) (access_of t) ∷ combine_op p (suc d) (suc (suc d)) (suc d) op t s
      ∷ (cast_code (suc d) t ++ Store d (suc d) (kind_of t) ∷ Take d (if new then suc d else suc (suc d)) ∷ [])

  abbrev pub change_code : ℕ → (local : ℕ) → CType → BinaryOp → CType → Bool → List SlotOp
  change_code d x t op s new =
      ReadRegister (suc (suc d)) x (kind_of t) (access_of t) ∷ combine_op p (suc d) (suc (suc d)) (suc d) op t s
      ∷ (cast_code (suc d) t ++ WriteRegister (suc d) x (kind_of t) ∷ Take d (if new then suc d else suc (suc d)) ∷ [])

  -- what is done where an lvalue's place has been computed to d, or where it is a local in a register
  abbrev pub read_at : ℕ → Option ℕ → CType → List SlotOp
  read_at d None t = load_code d t
  read_at d (Some x) t = ReadRegister d x (kind_of t) (access_of t) ∷ []

  abbrev pub write_at : ℕ → Option ℕ → CType → List SlotOp
  write_at d None t = store_code d t
  write_at d (Some x) t = write_code d x t

  abbrev pub update_at : ℕ → Option ℕ → CType → BinaryOp → CType → Bool → List SlotOp
  update_at d None t op s new = update_code d t op s new
  update_at d (Some x) t op s new = change_code d x t op s new

  -- the code at this place of an expression, which leaves its value in temporary d and changes none below
  abbrev mutual
    pub expr_code : (at d : ℕ) → Typed → List SlotOp
    expr_code at d (Comma' t _ a _ b) = let ca = expr_code at d a in ca ++ expr_code (at + length ca) d b
    expr_code at d (Assign' t _ a None _ b) =
        if is_struct (type_of a) then
        (let ca = place_code at d a in let cb = place_code (at + length ca) (suc d) b in ca ++ (cb ++ Move d (suc d) (struct_number (type_of a)) ∷ Const d 0 ∷ []))
        else
        (let ca = unless_register (register_in a) (place_code at d a) in ca ++ (expr_code (at + length ca) (suc d) b ++ write_at d (register_in a) (type_of a)))
    expr_code at d (Assign' t _ a (Some op) _ b) =
        let ca = unless_register (register_in a) (place_code at d a) in
        ca ++ (expr_code (at + length ca) (suc d) b ++ update_at d (register_in a) (type_of a) op (type_of b) true)
    expr_code at d (Choice' t _ c _ a _ b) =
        let cc = expr_code at d c in
        let ca = expr_code (at + length cc + 1) d a ++ cast_code d t.ctype in
        cc ++ choice_code (at + length cc) d ca (expr_code (at + length cc + 1 + length ca + 1) d b ++ cast_code d t.ctype)
    expr_code at d (Or' t _ a _ b) = let ca = expr_code at d a in ca ++ or_code (at + length ca) d (expr_code (at + length ca + 1) d b)
    expr_code at d (And' t _ a _ b) = let ca = expr_code at d a in ca ++ and_code (at + length ca) d (expr_code (at + length ca + 1) d b)
    expr_code at d (Binary' t _ a op _ b) =
        let ca = expr_code at d a in
        ca ++ (expr_code (at + length ca) (suc d) b ++ combine_op p d d (suc d) op (type_of a) (type_of b) ∷ [])
    expr_code at d (Cast' t _ a) = expr_code at d a ++ cast_code d t.ctype
    expr_code at d (Before' t op _ a) =
        unless_register (register_in a) (place_code at d a) ++ Const (suc d) 1 ∷ update_at d (register_in a) (type_of a) (stepping op) Int true
    expr_code at d (Address' t _ a) = place_code at d a
    expr_code at d (Unary' t op _ a) = expr_code at d a ++ Unary d (unary_op op (type_of a)) ∷ []
    expr_code at d (SizeOf' t _ a) = Const d (size_of p.defs (type_of a)) ∷ []
    expr_code at d (SizeOfType t of) = Const d (size_of p.defs of) ∷ []
    expr_code at d (Call' t g _ row) = row_code at d row ++ enter_code d (slice_get p.symbols g) (length (exprs row))
    expr_code at d (After' t _ a op) =
        unless_register (register_in a) (place_code at d a) ++ Const (suc d) 1 ∷ update_at d (register_in a) (type_of a) (stepping op) Int false
    expr_code at d (Constant t n) = Const d n ∷ []
    expr_code at d (Parens' t _ a) = expr_code at d a
    expr_code at d (Name t n) = unless_register (register_in (Name t n)) (name_code d (slice_get p.symbols n)) ++ read_at d (register_in (Name t n)) t.ctype
    expr_code at d (Literal t n) = TextAddress d n ∷ load_code d t.ctype
    expr_code at d (Follow' t _ a) = expr_code at d a ++ load_code d t.ctype
    expr_code at d (Index' t _ a _ b) =
        let ca = expr_code at d a in
        (ca ++ (expr_code (at + length ca) (suc d) b ++ combine_op p d d (suc d) tree.Add (type_of a) (type_of b) ∷ [])) ++ load_code d t.ctype
    expr_code at d (Dot' t _ a m) = (place_code at d a ++ Offset d (dot_offset p a m) ∷ []) ++ load_code d t.ctype
    expr_code at d (Arrow' t _ a m) = (expr_code at d a ++ Offset d (arrow_offset p a m) ∷ []) ++ load_code d t.ctype

    -- the same of where an lvalue stands
    pub place_code : (at d : ℕ) → Typed → List SlotOp
    place_code at d (Name t n) = name_code d (slice_get p.symbols n)
    place_code at d (Literal t n) = TextAddress d n ∷ []
    place_code at d (Follow' t _ a) = expr_code at d a
    place_code at d (Index' t _ a _ b) =
        let ca = expr_code at d a in
        ca ++ (expr_code (at + length ca) (suc d) b ++ combine_op p d d (suc d) tree.Add (type_of a) (type_of b) ∷ [])
    place_code at d (Dot' t _ a m) = place_code at d a ++ Offset d (dot_offset p a m) ∷ []
    place_code at d (Arrow' t _ a m) = expr_code at d a ++ Offset d (arrow_offset p a m) ∷ []
    place_code at d (Parens' t _ a) = place_code at d a
    place_code at d _ = []

    -- arguments, each in the next temporary
    pub row_code : {m : _} → (at d : ℕ) → Row_of-Typed m → List SlotOp
    row_code at d end_of-Typed = []
    row_code at d (more_of-Typed e rest) = let ce = expr_code at d e in ce ++ row_code (at + length ce) (suc d) rest

  -- the arguments as a list
  abbrev pub args_code : (at d : ℕ) → List Typed → List SlotOp
  args_code at d [] = []
  args_code at d (e ∷ es) = let ce = expr_code at d e in ce ++ args_code (at + length ce) (suc d) es
