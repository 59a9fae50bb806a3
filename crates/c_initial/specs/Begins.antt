-- What static objects hold at first (C90 6.5.7): one item for each leaf, where an object is named by its name.
use Rattle.std.specs.Prelude.{ℕ, ◌+◌, ◌*◌, ◌-◌, List, [], ◌∷◌, ◌++◌, map, length, replicate, drop, Option, Some, None}
use Rattle.c_trees.specs.Expressions.{Tree}
use Rattle.c_trees.specs.Initializers.{InitialTree, Value, Braces, Item}
use Rattle.c_tree.specs.declared.types.StructDef.{StructDef}
use Rattle.c_tree.specs.declared.types.Member.{Member as MemberRow}
use Rattle.c_tree.specs.Layout.{members_of}
use Rattle.c_operators.specs.Bits.{low_byte}
use Rattle.c_typing.specs.Plain.{Plain, Char, Pointer, Array, Struct, plain}
use Rattle.c_typing.specs.Values.{size_of}
use Rattle.c_defs.specs.Depths.{deepest}
use Rattle.c_defs.specs.Leaves.{leaf_count}
use Rattle.c_scope.specs.Environment.{Environment}
use Rattle.c_mentions.specs.Literals.{in_tree, texts}
use Rattle.c_initial.specs.Initials.{Spot, spot, text_of, number, count_of, part_of}

pub data Begin : Type 0 where
  -- the bits of a number; in a pointer 0, the null pointer
  Bits : ℕ → Begin
  -- so many bytes past the begin of the object of this name
  Within : List ℕ → ℕ → Begin
  -- a string by its number
  Text : ℕ → Begin

-- ---- zeros

abbrev pub zeros : List StructDef → Plain → List Begin
zeros defs t = replicate (leaf_count defs deepest t) (Bits 0)

abbrev pub zeros_of_members : List StructDef → List MemberRow → List Begin
zeros_of_members defs [] = []
zeros_of_members defs (m ∷ ms) = zeros defs (plain m.ctype) ++ zeros_of_members defs ms

-- the parts of an aggregate behind its first k
abbrev pub rest : List StructDef → Plain → ℕ → List Begin
rest defs (Array t n) k = replicate ((n - k) * leaf_count defs deepest t) (Bits 0)
rest defs (Struct s) k = zeros_of_members defs (drop k (members_of defs s))
rest defs t k = []

-- the zeros behind what an initializer gives: an expression gives the whole object, and a list in braces its first parts
abbrev pub behind_items : List StructDef → Plain → InitialTree → List Begin
behind_items defs t (Value e) = []
behind_items defs t i = rest defs t (count_of i)

-- ---- values

-- a `char` keeps the low 8 bits with their sign
abbrev pub kept_as : Plain → ℕ → ℕ
kept_as Char n = low_byte n
kept_as t n = n

abbrev pub bits_of : Plain → Option ℕ → List Begin
bits_of t None = Bits 0 ∷ []
bits_of t (Some n) = Bits (kept_as t n) ∷ []

abbrev pub character : ℕ → Begin
character c = Bits (low_byte c)

-- the characters of a string, and zeros behind them
abbrev pub characters : (bound : ℕ) → Option (List ℕ) → List Begin
characters n None = []
characters n (Some text) = map character text ++ replicate (n - length text) (Bits 0)

module _ (v : Environment) where
  abbrev pub spot_begin : Option Spot → List Begin
  spot_begin None = Bits 0 ∷ []
  spot_begin (Some s) = Within s.name (s.items * size_of v.defs s.ctype) ∷ []

  -- a string that is no array's has this number
  abbrev pub address_begin : (string : ℕ) → Tree → Option ℕ → List Begin
  address_begin k e (Some n) = Bits 0 ∷ []
  address_begin k e None = elim (text_of e) as (λ _. List Begin) [ Some text ↦ Text k ∷ [] | None ↦ spot_begin (spot v e) ]

  abbrev pub value_begins : (string : ℕ) → Plain → Tree → List Begin
  value_begins k (Pointer t) e = address_begin k e (number v e)
  value_begins k (Array t n) e = characters n (text_of e)
  value_begins k t e = bits_of t (number v e)

  -- the strings of an initializer that are objects: all but the one that a `char` array starts with
  abbrev pub strings_of_value : Plain → Tree → List (List ℕ)
  strings_of_value (Array t n) e = []
  strings_of_value t e = texts (in_tree e)

  abbrev pub strings_of : Plain → InitialTree → List (List ℕ)
  strings_of t (Value e) = strings_of_value t e
  strings_of t (Braces at) = []
  strings_of t (Item i j) = strings_of t i ++ (elim (part_of v t (count_of i)) as (λ _. List (List ℕ)) [ None ↦ [] | Some u ↦ strings_of u j ])

  -- what the items so far give, without what is zero behind them; and the whole object
  abbrev pub items_begin : (string : ℕ) → Plain → InitialTree → List Begin
  items_begin k t (Value e) = value_begins k t e
  items_begin k t (Braces at) = []
  items_begin k t (Item i j) = items_begin k t i ++
      (elim (part_of v t (count_of i)) as (λ _. List Begin) [ None ↦ [] | Some u ↦ items_begin (k + length (strings_of t i)) u j ++ behind_items v.defs u j ])

  abbrev pub begins_of : (string : ℕ) → Plain → InitialTree → List Begin
  begins_of k t i = items_begin k t i ++ behind_items v.defs t i
