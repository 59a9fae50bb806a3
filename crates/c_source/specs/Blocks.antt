-- The objects of a block and of a call.
use Rattle.std.specs.Prelude.{ℕ, suc, ◌+◌, Bool, true, ◌&&◌, List, [], ◌∷◌, Option, Some, None, Result, Ok, Err, slice_get, length, map}
use Rattle.c_tree.specs.declared.types.CType.{CType}
use Rattle.c_tree.specs.declared.types.CType.TheVariants.{Char, Void, Pointer'}
use Rattle.c_tree.specs.declared.types.StructDef.{StructDef}
use Rattle.c_tree.specs.declared.types.Leaf.{Leaf}
use Rattle.c_tree.specs.declared.typed.DeclaredLocal.{DeclaredLocal}
use Rattle.c_tree.specs.declared.rows.Program.{Program}
use Rattle.c_tree.specs.declared.rows.Function.{Function}
use Rattle.c_tree.specs.declared.rows.Local.{Local}
use Rattle.c_tree.specs.Layout.{size_of, leaves_of}
use Rattle.runs.specs.Runs.{Why, IllTyped}
use Rattle.c_operators.specs.Bits.{low_byte}
use Rattle.c_store.specs.Store.{Value, Number, Null, Cell, World, zero_of, with_first, ◌>>=◌}
use Rattle.c_store.specs.Frames.{Here, made, is_free, new_activation}

-- a pointer operand; an integer there is a null pointer constant (C90 6.2.2.3)
abbrev pub as_pointer : Value → Result Value Why
as_pointer (Number n) = Ok Null
as_pointer v = Ok v

-- A value as one of an integer or pointer type (C90 6.2.1.2, 6.2.2.3). An `int` and an `unsigned` have the same pattern; an address is no `char`.
abbrev pub converted : CType → Value → Result Value Why
converted Char (Number n) = Ok (Number (low_byte n))
converted Char v = Err IllTyped
converted (Pointer' _ t) v = as_pointer v
converted _ v = Ok v

-- what a function gives whose end is reached
abbrev pub zero_as : CType → Value
zero_as (Pointer' _ t) = Null
zero_as _ = Number 0

-- the leaves of a type, with zeros
abbrev pub zero_cell : Leaf → Cell
zero_cell l = record { at = l.at; kind = l.kind; value = zero_of l.kind }

abbrev pub cells_of : List StructDef → CType → List Cell
cells_of defs t = map zero_cell (leaves_of defs t)

-- ---- rows

abbrev pub locals_in : Option Function → List Local
locals_in None = []
locals_in (Some f) = f.locals

abbrev type_in : Option Local → CType
type_in None = Void
type_in (Some l) = l.ctype

-- the type of a local, by the numbers of its function and of itself
abbrev pub local_type : Program → ℕ → ℕ → CType
local_type p f x = type_in (slice_get (locals_in (slice_get p.functions f)) x)

abbrev result_in : Option Function → CType
result_in None = Void
result_in (Some f) = f.result

abbrev pub result_type : Program → ℕ → CType
result_type p f = result_in (slice_get p.functions f)

-- ---- objects that begin

-- a new object for a local of function f, with zeros
abbrev pub opened_one : Program → (f local : ℕ) → Here → Here
opened_one p f x h = made x (size_of p.defs (local_type p f x)) (cells_of p.defs (local_type p f x)) h

-- a block of function f is entered: each of its objects is made anew
abbrev pub opened : Program → (f : ℕ) → List DeclaredLocal → Here → Here
opened p f [] h = h
opened p f (d ∷ ds) h = opened p f ds (opened_one p f d.local h)

-- each of its locals has no object of this activation yet, since a local has one at a time
abbrev pub can_open : Program → (f : ℕ) → List DeclaredLocal → Here → Bool
can_open p f [] h = true
can_open p f (d ∷ ds) h = is_free d.local h.activation.locals && can_open p f ds (opened_one p f d.local h)

-- how many leaves that makes
abbrev pub leaf_count : Program → ℕ → List DeclaredLocal → ℕ
leaf_count p f [] = 0
leaf_count p f (d ∷ ds) = length (leaves_of p.defs (local_type p f d.local)) + leaf_count p f ds

-- a parameter of function f, with its argument
abbrev pub given_one : Program → (f local : ℕ) → Value → Here → Result Here Why
given_one p f x v h =
    let t = local_type p f x in
    converted t v >>= λ u. with_first u (cells_of p.defs t) >>= λ cells. Ok (made x (size_of p.defs t) cells h)

-- the parameters from number x on
abbrev pub given : Program → (f local : ℕ) → List Value → Here → Result Here Why
given p f x [] h = Ok h
given p f x (v ∷ vs) h = given_one p f x v h >>= given p f (suc x) vs

-- a new activation of a function
abbrev pub entered : Program → (number function : ℕ) → List Value → World → Result Here Why
entered p n f args w = given p f 0 args (record { world = w; activation = new_activation n f })
