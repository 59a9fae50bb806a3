-- The rows of a program's slot code, each for one of the program.
use Rattle.std.specs.Prelude.{◌≡◌, ◌≤◌, ℕ, suc, ◌*◌, List, [], ◌∷◌, Bool, false, ◌==◌, Option, Some, None, length, map, slice_get}
use Rattle.std.specs.List.{AllZip, Contains, range_with_len}
use Rattle.ldb_words.specs.declared.kinds.Kind.{Kind}
use Rattle.ldb_words.specs.declared.kinds.Kind.TheVariants.{Byte, Word, Address}
use Rattle.c_tree.specs.declared.types.CType.{CType}
use Rattle.c_tree.specs.declared.types.CType.TheVariants.{Char, Int, Unsigned, Void, Pointer', Array', Struct}
use Rattle.c_tree.specs.declared.types.Member.{Member}
use Rattle.c_tree.specs.declared.types.StructDef.{StructDef}
use Rattle.c_tree.specs.declared.types.Leaf.{Leaf}
use Rattle.c_tree.specs.declared.rows.Program.{Program}
use Rattle.c_tree.specs.declared.rows.Function.{Function}
use Rattle.c_tree.specs.declared.rows.Local.{Local}
use Rattle.c_tree.specs.declared.rows.ObjectRow.{ObjectRow}
use Rattle.c_tree.specs.declared.rows.Start.{Start}
use Rattle.c_tree.specs.declared.rows.Start.TheVariants as start
use Rattle.c_tree.specs.Layout.{size_of, leaves_of}
use Rattle.c_tree.specs.Ordered.{AllLaidOut}
use Rattle.c_tree.specs.Points.{first_of}
use Rattle.c_source.specs.Begin.{main_from}
use Rattle.slot_ir.specs.declared.code.SlotCode.{SlotCode}
use Rattle.slot_ir.specs.declared.code.SlotFunction.{SlotFunction}
use Rattle.slot_ir.specs.declared.code.SlotLocal.{SlotLocal}
use Rattle.slot_ir.specs.declared.code.SlotObject.{SlotObject}
use Rattle.slot_ir.specs.declared.code.SlotItem.{SlotItem}
use Rattle.slot_ir.specs.declared.code.SlotItem.TheVariants as an_item
use Rattle.slot_ir.specs.declared.code.SlotMember.{SlotMember}
use Rattle.slot_ir.specs.declared.code.SlotStruct.{SlotStruct}
use Rattle.slot_ir.specs.declared.code.SlotStart.{SlotStart}
use Rattle.slot_ir.specs.declared.code.SlotValue.{SlotValue}
use Rattle.slot_ir.specs.declared.code.SlotValue.TheVariants as slot
use Rattle.slot_ir.specs.declared.code.SlotOp.{SlotOp}
use Rattle.slot_ir.specs.declared.code.SlotOp.TheVariants.{Stop}
use Rattle.slot_ir.specs.declared.code.Home.{Home}
use Rattle.slot_ir.specs.declared.code.Home.TheVariants.{Block, Register}
use Rattle.slot_gen.specs.Expressions.{access_of, registers_from, register_at}
use Rattle.slot_gen.specs.Statements.{function_code}
use Rattle.slot_gen.specs.Bounds.{AreBelow, function_temps}
use Rattle.slot_gen.specs.Correct.{HasMain}

-- a row for each item, by its number from n on
abbrev pub EachFrom : {A B : Type 0} → (ℕ → A → B → Type 0) → (n : ℕ) → List A → List B → Type 0
EachFrom P n [] [] = Unit {0}
EachFrom P n (a ∷ xs) (b ∷ bs) = P n a b × EachFrom P (suc n) xs bs
EachFrom P n [] (b ∷ bs) = ⊥
EachFrom P n (a ∷ xs) [] = ⊥

abbrev pub home_of : Option ℕ → Home
home_of None = Block
home_of (Some r) = Register r

-- ---- members

-- what a member of a type has items of, and how many
abbrev pub item_of : CType → SlotItem
item_of Char = an_item.Scalar Byte
item_of Int = an_item.Scalar Word
item_of Unsigned = an_item.Scalar Word
item_of Void = an_item.Scalar Byte
item_of (Pointer' _ t) = an_item.Scalar Address
item_of (Array' _ t n) = item_of t
item_of (Struct s) = an_item.Struct s

abbrev pub items_of : CType → ℕ
items_of Void = 0
items_of (Array' _ t n) = n * items_of t
items_of t = 1

abbrev pub member_of : Member → SlotMember
member_of m = record { at = m.at; items = items_of m.ctype; item = item_of m.ctype }

-- ---- the places of stops

abbrev pub is_stop : ℕ → SlotOp → Bool
is_stop q (Stop r) = q == r
is_stop q op = false

-- numbers that follow one another
abbrev pub AreConsecutive : List ℕ → Type 0
AreConsecutive qs = qs ≡ range_with_len (first_of qs) (length qs)

-- a point's stop stands at a place, if it stands in the code
abbrev pub StandsAt : List SlotOp → ℕ → ℕ → Type 0
StandsAt code q i = Contains code (Stop q) → slice_get code i ≡ Some (Stop q)

-- ---- functions

module _ (p : Program) where
  -- a local, where these are in registers
  pub record IsLocalOf (registers : List (Option ℕ)) (x : ℕ) (l : Local) (s : SlotLocal) : Type 0 where
    pub home : s.home ≡ home_of (register_at registers x)
    pub access : s.access ≡ access_of l.ctype
    pub size : s.size ≡ size_of p.defs l.ctype
    pub leaves : s.leaves ≡ leaves_of p.defs l.ctype

  pub record IsFunctionOf (f : ℕ) (fn : Function) (g : SlotFunction) : Type 0 where
    pub name : g.name ≡ fn.name
    pub params : g.params ≡ fn.params
    pub locals : EachFrom (IsLocalOf (registers_from fn.locals 0)) 0 fn.locals g.locals
    pub points : g.points ≡ fn.points
    pub code : g.code ≡ function_code p f fn
    -- it has the temporaries that its code names, and at most those that its expressions are said to take
    pub below : AreBelow g.temporaries g.code
    pub few : g.temporaries ≤ function_temps fn
    -- where its points are consecutive, each has a place at which its stop stands
    pub places : AreConsecutive g.points → AllZip (StandsAt g.code) g.points g.places

  pub record IsStructOf (s : ℕ) (d : StructDef) (row : SlotStruct) : Type 0 where
    pub size : row.size ≡ d.size
    pub members : row.members ≡ map member_of d.members
    pub leaves : row.leaves ≡ leaves_of p.defs (Struct s)

-- ---- static objects

abbrev pub width_of : Kind → ℕ
width_of Byte = 1
width_of Word = 4
width_of Address = 4

-- an address that is a number is null
abbrev pub value_of : Kind → Start → SlotValue
value_of k (start.Object o i) = slot.Object o i
value_of k (start.Str t) = slot.Str t
value_of Address (start.Number n) = slot.Null
value_of Byte (start.Number n) = slot.Number n
value_of Word (start.Number n) = slot.Number n

abbrev pub start_of : Leaf → Start → SlotStart
start_of l x = record { at = l.at; width = width_of l.kind; value = value_of l.kind x }

abbrev pub one_start : Option Leaf → Option Start → List SlotStart
one_start None x = []
one_start (Some l) None = []
one_start (Some l) (Some x) = start_of l x ∷ []

abbrev pub starts_of : List Leaf → List Start → List SlotStart
starts_of [] xs = []
starts_of (l ∷ ls) [] = []
starts_of (l ∷ ls) (x ∷ xs) = start_of l x ∷ starts_of ls xs

pub record IsObjectOf (p : Program) (o : ℕ) (row : ObjectRow) (s : SlotObject) : Type 0 where
  pub name : s.name ≡ row.name
  pub size : s.size ≡ size_of p.defs row.ctype
  pub start : s.start ≡ starts_of (leaves_of p.defs row.ctype) row.start

-- ---- the whole

pub record HasRowsOf (p : Program) (c : SlotCode) : Type 0 where
  pub functions : EachFrom (IsFunctionOf p) 0 p.functions c.functions
  pub structs : EachFrom (IsStructOf p) 0 p.defs c.structs
  pub objects : EachFrom (IsObjectOf p) 0 p.objects c.objects
  pub strings : c.strings ≡ p.strings
  pub main : c.main ≡ main_from 0 p.functions

-- ---- what is asked of a program

-- no address stands in place of a number of four bytes
abbrev pub Fits : Kind → Start → Type 0
Fits Word (start.Object o i) = ⊥
Fits Word (start.Str k) = ⊥
Fits k x = Unit {0}

abbrev pub AreFitting : List Leaf → List Start → Type 0
AreFitting [] xs = Unit {0}
AreFitting (l ∷ ls) [] = Unit {0}
AreFitting (l ∷ ls) (x ∷ xs) = Fits l.kind x × AreFitting ls xs

abbrev pub AllFitting : Program → List ObjectRow → Type 0
AllFitting p [] = Unit {0}
AllFitting p (row ∷ rows) = AreFitting (leaves_of p.defs row.ctype) row.start × AllFitting p rows

-- its structs are laid out, its objects hold what their types say, and it has a `main`
pub record IsLowerable (p : Program) : Type 0 where
  pub laid_out : AllLaidOut p.defs
  pub fitting : AllFitting p p.objects
  pub main : HasMain p
