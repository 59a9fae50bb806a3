-- Expressions and statements whose parts have the shapes that the steps need. This is what is left of the typing rules where only numbers and addresses are told apart.
use Rattle.std.proofs.Common.{◌≡◌, ℕ, suc, List, [], ◌∷◌, ◌++◌, Bool, true, false, Option, Some, None, length}
use Rattle.std.specs.Prelude.{slice_get, bytes_eq, codes}
use Rattle.c_tree.specs.declared.types.CType.{CType}
use Rattle.c_tree.specs.declared.types.CType.TheVariants.{Char, Int, Unsigned, Void, Pointer', Array', Struct}
use Rattle.c_tree.specs.declared.typed.BinaryOp.{BinaryOp}
use Rattle.c_tree.specs.declared.typed.BinaryOp.TheVariants.{Add}
use Rattle.c_tree.specs.declared.typed.Typed.{Typed, Row_of-Typed, end_of-Typed, more_of-Typed}
use Rattle.c_tree.specs.declared.typed.Typed.TheVariants.{Comma', Assign', Choice', Or', And', Binary', Cast', Before', Address', Follow', Unary', SizeOf', SizeOfType, Index', Call', Dot', Arrow', After', Name, Constant, Literal, Parens'}
use Rattle.c_tree.specs.declared.typed.Pointed.{Pointed}
use Rattle.c_tree.specs.declared.typed.DeclaredLocal.{DeclaredLocal}
use Rattle.c_tree.specs.declared.typed.Stmt.{Stmt, Row_of-Stmt, end_of-Stmt, more_of-Stmt, Held-Stmt-If-3, None', Some'}
use Rattle.c_tree.specs.declared.typed.Stmt.TheVariants.{Value as Expression, Block', If', While', Do', For', Switch', Case', Default', Break, Continue, Return}
use Rattle.c_tree.specs.declared.rows.Program.{Program}
use Rattle.c_tree.specs.declared.rows.Function.{Function}
use Rattle.c_tree.specs.declared.rows.SymbolRow.{SymbolRow}
use Rattle.c_tree.specs.declared.rows.Referent.{Referent}
use Rattle.c_tree.specs.declared.rows.Referent.TheVariants.{Object, Local, Function as Defined, Declared}
use Rattle.c_tree.specs.Types.{type_of, is_struct}
use Rattle.c_source.specs.Blocks.{local_type, result_type}
use Rattle.c_typing.specs.Rules.{stepping}
use Rattle.c_typing.specs.Declarations.{has}
use Rattle.c_sound.proofs.Operators.{addr, conv, takes, gives, takes_one}

-- whether an expression's value is an address
abbrev pub shape : Typed → Bool
shape e = addr (type_of e)

-- the first shape of a stack
abbrev pub top : List Bool → (Bool → List Bool → Type 0) → Type 0
top [] go = ⊥
top (s ∷ ss) go = go s ss

-- an operand of type t, computed with an operand of type s and shape b, can be written back
abbrev pub Updates : (t : CType) → BinaryOp → (s : CType) → (b : Bool) → Type 0
Updates t op s b = (takes op t s (addr t) b ≡ true) × (conv t (gives op t s) ≡ addr t)

abbrev pub is_getchar : List ℕ → Bool
is_getchar name = bytes_eq name (codes "getchar")

abbrev pub is_putchar : List ℕ → Bool
is_putchar name = bytes_eq name (codes "putchar")

abbrev pub is_exit : List ℕ → Bool
is_exit name = bytes_eq name (codes "exit")

-- scalars, which are one leaf
abbrev pub is_one_leaf : CType → Bool
is_one_leaf Char = true
is_one_leaf Int = true
is_one_leaf Unsigned = true
is_one_leaf Void = false
is_one_leaf (Pointer' _ t) = true
is_one_leaf (Array' _ t n) = false
is_one_leaf (Struct s) = false

-- one of two facts, by a condition
abbrev pub ByCase : Bool → Type 0 → Type 0 → Type 0
ByCase true A B = A
ByCase false A B = B

abbrev pub row_shapes : {m : _} → Row_of-Typed m → List Bool
row_shapes end_of-Typed = []
row_shapes (more_of-Typed e rest) = shape e ∷ row_shapes rest

abbrev pub local_numbers : List DeclaredLocal → List ℕ
local_numbers [] = []
local_numbers (d ∷ ds) = d.local ∷ local_numbers ds

-- locals that begin one after another where these are in scope: none of them is in scope already
abbrev pub Fresh : List ℕ → List ℕ → Type 0
Fresh ls [] = Unit {0}
Fresh ls (x ∷ xs) = (has ls x ≡ false) × Fresh (ls ++ x ∷ []) xs

module _ (p : Program) where
  -- ---- calls

  abbrev pub IsParameter : CType → Bool → Type 0
  IsParameter t s = (conv t s ≡ addr t) × (is_one_leaf t ≡ true)

  -- arguments of these shapes fit the parameters from number x on
  abbrev pub Given : ℕ → ℕ → List Bool → Type 0
  Given g x [] = Unit {0}
  Given g x (s ∷ ss) = IsParameter (local_type p g x) s × Given g (suc x) ss

  abbrev pub CalledFunction : ℕ → Option Function → List Bool → Bool → Type 0
  CalledFunction g None ss r = ⊥
  CalledFunction g (Some fn) ss r = (length ss ≡ fn.params) × Given g 0 ss × (addr (result_type p g) ≡ r)

  abbrev pub OneNumber : List Bool → Type 0
  OneNumber [] = ⊥
  OneNumber (s ∷ []) = s ≡ false
  OneNumber (s ∷ t ∷ ss) = ⊥

  -- a call of `getchar`, or of `putchar` or `exit`
  abbrev pub CalledBuiltIn : (get put exit : Bool) → List Bool → Type 0
  CalledBuiltIn true b c ss = ss ≡ []
  CalledBuiltIn false true c ss = OneNumber ss
  CalledBuiltIn false false true ss = OneNumber ss
  CalledBuiltIn false false false ss = ⊥

  abbrev pub CalledBy : Referent → List ℕ → List Bool → Bool → Type 0
  CalledBy (Object o) name ss r = ⊥
  CalledBy (Local x) name ss r = ⊥
  CalledBy (Defined g) name ss r = CalledFunction g (slice_get p.functions g) ss r
  CalledBy Declared name ss r = CalledBuiltIn (is_getchar name) (is_putchar name) (is_exit name) ss × (r ≡ false)

  abbrev pub Called : Option SymbolRow → List Bool → Bool → Type 0
  Called None ss r = ⊥
  Called (Some row) ss r = CalledBy row.refers row.name ss r

  -- ---- expressions, where these locals are in scope

  module _ (ls : List ℕ) where
    abbrev pub NamedBy : Referent → Type 0
    NamedBy (Object o) = Unit {0}
    NamedBy (Local x) = has ls x ≡ true
    NamedBy (Defined f) = ⊥
    NamedBy Declared = ⊥

    abbrev pub Named : Option SymbolRow → Type 0
    Named None = ⊥
    Named (Some row) = NamedBy row.refers

    abbrev mutual
      -- an expression that can be evaluated
      pub ShapedE : Typed → Type 0
      ShapedE (Comma' h _ a _ b) = ShapedE a × ShapedE b × (shape b ≡ addr h.ctype)
      ShapedE (Assign' h _ a None _ b) = ShapedL a × ByCase (is_struct (type_of a)) (ShapedL b) (ShapedE b × (conv (type_of a) (shape b) ≡ shape a)) × (shape a ≡ addr h.ctype)
      ShapedE (Assign' h _ a (Some op) _ b) = ShapedL a × ShapedE b × Updates (type_of a) op (type_of b) (shape b) × (shape a ≡ addr h.ctype)
      ShapedE (Choice' h _ c _ a _ b) = ShapedE c × ShapedE a × ShapedE b × (conv h.ctype (shape a) ≡ addr h.ctype) × (conv h.ctype (shape b) ≡ addr h.ctype)
      ShapedE (Or' h _ a _ b) = ShapedE a × ShapedE b × (false ≡ addr h.ctype)
      ShapedE (And' h _ a _ b) = ShapedE a × ShapedE b × (false ≡ addr h.ctype)
      ShapedE (Binary' h _ a op _ b) = ShapedE a × ShapedE b × (takes op (type_of a) (type_of b) (shape a) (shape b) ≡ true) × (gives op (type_of a) (type_of b) ≡ addr h.ctype)
      ShapedE (Cast' h _ a) = ShapedE a × (conv h.ctype (shape a) ≡ addr h.ctype)
      ShapedE (Before' h op _ a) = ShapedL a × Updates (type_of a) (stepping op) Int false × (shape a ≡ addr h.ctype)
      ShapedE (Address' h _ a) = ShapedL a × (true ≡ addr h.ctype)
      ShapedE (Follow' h _ a) = ShapedE a × (shape a ≡ true)
      ShapedE (Unary' h op _ a) = ShapedE a × (takes_one op (shape a) ≡ true) × (false ≡ addr h.ctype)
      ShapedE (SizeOf' h _ a) = false ≡ addr h.ctype
      ShapedE (SizeOfType h t) = false ≡ addr h.ctype
      ShapedE (Index' h _ a _ b) = ShapedE a × ShapedE b × (takes Add (type_of a) (type_of b) (shape a) (shape b) ≡ true) × (gives Add (type_of a) (type_of b) ≡ true)
      ShapedE (Call' h f _ row) = ShapedRow row × Called (slice_get p.symbols f) (row_shapes row) (addr h.ctype)
      ShapedE (Dot' h _ a m) = ShapedL a
      ShapedE (Arrow' h _ a m) = ShapedE a × (shape a ≡ true)
      ShapedE (After' h _ a op) = ShapedL a × Updates (type_of a) (stepping op) Int false × (shape a ≡ addr h.ctype)
      ShapedE (Name h n) = Named (slice_get p.symbols n)
      ShapedE (Constant h n) = false ≡ addr h.ctype
      ShapedE (Literal h n) = Unit {0}
      ShapedE (Parens' h _ a) = ShapedE a × (shape a ≡ addr h.ctype)

      -- an lvalue that can be located
      pub ShapedL : Typed → Type 0
      ShapedL (Name h n) = Named (slice_get p.symbols n)
      ShapedL (Literal h n) = Unit {0}
      ShapedL (Follow' h _ a) = ShapedE a × (shape a ≡ true)
      ShapedL (Index' h _ a _ b) = ShapedE a × ShapedE b × (takes Add (type_of a) (type_of b) (shape a) (shape b) ≡ true) × (gives Add (type_of a) (type_of b) ≡ true)
      ShapedL (Dot' h _ a m) = ShapedL a
      ShapedL (Arrow' h _ a m) = ShapedE a × (shape a ≡ true)
      ShapedL (Parens' h _ a) = ShapedL a
      ShapedL _ = ⊥

      pub ShapedRow : {m : _} → Row_of-Typed m → Type 0
      ShapedRow end_of-Typed = Unit {0}
      ShapedRow (more_of-Typed e rest) = ShapedE e × ShapedRow rest

    abbrev pub ShapedPart : Option Pointed → Type 0
    ShapedPart None = Unit {0}
    ShapedPart (Some q) = ShapedE q.e

  -- ---- statements of function f

  module _ (f : ℕ) where
    abbrev pub ShapedInit : List ℕ → ℕ → Option Pointed → Type 0
    ShapedInit ls x None = Unit {0}
    ShapedInit ls x (Some q) = (has ls x ≡ true) × ShapedE ls q.e × (conv (local_type p f x) (shape q.e) ≡ addr (local_type p f x))

    abbrev pub ShapedInits : List ℕ → List DeclaredLocal → Type 0
    ShapedInits ls [] = Unit {0}
    ShapedInits ls (d ∷ ds) = ShapedInit ls d.local d.init × ShapedInits ls ds

    abbrev pub ShapedReturn : List ℕ → Option Typed → Type 0
    ShapedReturn ls None = false ≡ addr (result_type p f)
    ShapedReturn ls (Some e) = ShapedE ls e × (conv (result_type p f) (shape e) ≡ addr (result_type p f))

    abbrev mutual
      -- a statement, where `continue` may stand and where `break` may
      pub ShapedS : List ℕ → (loop breaks : Bool) → Stmt → Type 0
      ShapedS ls l b (Expression at e) = ShapedPart ls e
      ShapedS ls l b (Block' at ds _ row line column) = ShapedInits (ls ++ local_numbers ds) ds × ShapedRows (ls ++ local_numbers ds) l b row × Fresh ls (local_numbers ds)
      ShapedS ls l b (If' at q _ s t) = ShapedE ls q.e × ShapedS ls l b s × ShapedElse ls l b t
      ShapedS ls l b (Switch' at q _ s) = ShapedE ls q.e × (shape q.e ≡ false) × ShapedBody ls l s
      ShapedS ls l b (While' at q _ s) = ShapedE ls q.e × ShapedS ls true true s
      ShapedS ls l b (Do' at _ s q) = ShapedE ls q.e × ShapedS ls true true s
      ShapedS ls l b (For' at i q t _ s) = ShapedPart ls i × ShapedPart ls q × ShapedPart ls t × ShapedS ls true true s
      ShapedS ls l b (Case' at c _ s) = ShapedS ls l b s
      ShapedS ls l b (Default' at _ s) = ShapedS ls l b s
      ShapedS ls l b (Break at) = b ≡ true
      ShapedS ls l b (Continue at) = l ≡ true
      ShapedS ls l b (Return at q e) = ShapedReturn ls e

      pub ShapedRows : {m : _} → List ℕ → (loop breaks : Bool) → Row_of-Stmt m → Type 0
      ShapedRows ls l b end_of-Stmt = Unit {0}
      ShapedRows ls l b (more_of-Stmt s rest) = ShapedS ls l b s × ShapedRows ls l b rest

      pub ShapedElse : List ℕ → (loop breaks : Bool) → Held-Stmt-If-3 → Type 0
      ShapedElse ls l b None' = Unit {0}
      ShapedElse ls l b (Some' _ s) = ShapedS ls l b s

      -- the statements of a `switch`'s block
      pub ShapedBody : List ℕ → (loop : Bool) → Stmt → Type 0
      ShapedBody ls l (Block' at ds _ row line column) = ShapedRows ls l true row
      ShapedBody ls l _ = Unit {0}

    abbrev pub EachShaped : List ℕ → (loop breaks : Bool) → List Stmt → Type 0
    EachShaped ls l b [] = Unit {0}
    EachShaped ls l b (s ∷ rest) = ShapedS ls l b s × EachShaped ls l b rest

    -- a loop that goes on
    abbrev pub ShapedLoop : List ℕ → Stmt → Type 0
    ShapedLoop ls (While' at q _ s) = ShapedE ls q.e × ShapedS ls true true s
    ShapedLoop ls (Do' at _ s q) = ShapedE ls q.e × ShapedS ls true true s
    ShapedLoop ls (For' at i q t _ s) = ShapedPart ls q × ShapedPart ls t × ShapedS ls true true s
    ShapedLoop ls _ = ⊥
