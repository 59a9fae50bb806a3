-- Places in static objects, by the parts of the expressions that tell them.
use Rattle.std.specs.Prelude.{ℕ, Bool, true, false, if◌then◌else◌, List, Option, Some, None}
use Rattle.c_symbol.specs.declared.symbol.LeafKind.{LeafKind}
use Rattle.c_symbol.specs.declared.symbol.LeafKind.TheVariants as leaf
use Rattle.c_symbol.specs.declared.symbol.PrefixOp.{PrefixOp}
use Rattle.c_symbol.specs.declared.symbol.PrefixOp.TheVariants.{Address}
use Rattle.c_symbol.specs.declared.symbol.BinaryOp.{BinaryOp}
use Rattle.c_symbol.specs.declared.symbol.BinaryOp.TheVariants.{Add}
use Rattle.c_trees.specs.Expressions.{Tree, Leaf, Index}
use Rattle.c_typing.specs.Plain.{Plain, Array, plain}
use Rattle.c_typing.specs.Expressions.{Denoted, Object}
use Rattle.c_judge.specs.declared.symbol.Symbol.{Symbol}
use Rattle.c_judge.specs.Judgement.{name_alone}
use Rattle.c_initial.specs.declared.spots.StaticPlace.{StaticPlace}
use Rattle.c_scope.specs.Environment.{Environment, meant}
use Rattle.c_initial.specs.Initials.{Spot, number, item_of, whole_of}

abbrev pub spot_of : StaticPlace → Spot
spot_of s = record { name = s.name.now; ctype = plain s.ctype.now; items = s.items; bound = s.bound }

-- the type of the object that a name denotes
abbrev pub object_of : Option Denoted → Option Plain
object_of (Some (Object t r)) = Some t
object_of _ = None

-- the same by the row of the name
abbrev pub object_in : Option Symbol → Option Plain
object_in None = None
object_in (Some s) = if s.function then None else Some (plain s.ctype)

-- an item of an object of this type
abbrev pub item_in : List ℕ → Option Plain → Option ℕ → Option Spot
item_in name (Some (Array t n)) (Some i) = Some (record { name = name; ctype = t; items = i; bound = n })
item_in name _ _ = None

-- a whole object of this type
abbrev pub whole_in : List ℕ → Option Plain → Option Spot
whole_in name (Some t) = Some (record { name = name; ctype = t; items = 0; bound = 1 })
whole_in name None = None

abbrev pub is_add : BinaryOp → Bool
is_add Add = true
is_add _ = false

abbrev pub is_address : PrefixOp → Bool
is_address Address = true
is_address _ = false

module _ (v : Environment) where
  -- NAME + c, and NAME[c]
  abbrev pub item_behind : Option (List ℕ) → Tree → Option Spot
  item_behind (Some name) c = item_of name (meant v name) (number v c)
  item_behind None c = None

  abbrev pub item_leaf : LeafKind → List ℕ → Option Spot
  item_leaf leaf.Name name = item_of name (meant v name) (Some 0)
  item_leaf _ name = None

  abbrev pub whole_leaf : LeafKind → List ℕ → Option Spot
  whole_leaf leaf.Name name = whole_of name (meant v name)
  whole_leaf _ name = None

  -- the place whose address is taken
  abbrev pub address : Tree → Option Spot
  address (Leaf _ kind name) = whole_leaf kind name
  address (Index _ a c) = item_behind (name_alone a) c
  address _ = None
