-- How structs are copied: leaf by leaf, and no padding.
use Rattle.std.specs.Prelude.{ℕ, zero, suc, ◌+◌, ◌*◌, List, [], ◌∷◌, ◌++◌, map, reverse, nat_eq, if◌then◌else◌, Option, Some, None, slice_get}
use Rattle.ldb_words.specs.Word.{difference_of}
use Rattle.slot_ir.specs.declared.code.SlotCode.{SlotCode}
use Rattle.slot_ir.specs.declared.code.SlotItem.{SlotItem}
use Rattle.slot_ir.specs.declared.code.SlotItem.TheVariants.{Scalar, Struct}
use Rattle.slot_ir.specs.declared.code.SlotMember.{SlotMember}
use Rattle.slot_ir.specs.declared.code.SlotStruct.{SlotStruct}
use Rattle.slot_ir.specs.WellFormed.{item_size}
use Rattle.flat_ir.specs.declared.moves.MoveStep.{MoveStep}
use Rattle.flat_ir.specs.declared.moves.MoveStep.TheVariants as step
use Rattle.flat_ir.specs.declared.moves.Mover.{Mover}

-- the only member of a struct that has one
abbrev pub only_of : List SlotMember → Option SlotMember
only_of [] = None
only_of (m ∷ []) = Some m
only_of (m ∷ n ∷ ms) = None

abbrev pub only_in : Option SlotStruct → Option SlotMember
only_in None = None
only_in (Some s) = only_of s.members

-- both places moved from one offset to another
abbrev pub skip : (from to : ℕ) → List MoveStep
skip from to = if nat_eq (difference_of to from) 0 then [] else step.Skip (difference_of to from) ∷ []

-- an item, whose copy keeps its words behind so many of this one
abbrev pub item_step : (words : ℕ) → SlotItem → MoveStep
item_step words (Scalar kind) = step.Leaf kind
item_step words (Struct number) = step.Struct number words

-- Items are copied in a loop where they are not one. A copy keeps where it was called, and in a loop a count.
abbrev pub items_steps : (items : ℕ) → SlotItem → List MoveStep
items_steps items item =
    if nat_eq items 1
    then item_step 1 item ∷ []
    else step.Items items ∷ item_step 2 item ∷ step.Again ∷ []

abbrev pub found_by : (SlotMember → SlotMember) → SlotMember → Option SlotMember → SlotMember
found_by more m None = m
found_by more m (Some found) = more found

module _ (c : SlotCode) where
  -- An array of structs that have one member each is one of the items of these.
  abbrev pub inner_by : SlotMember → Option SlotMember → Option SlotMember
  inner_by m None = None
  inner_by m (Some only) = Some (record { at = m.at; items = m.items * only.items; item = only.item })

  abbrev pub inner_of : SlotMember → SlotItem → Option SlotMember
  inner_of m (Scalar kind) = None
  inner_of m (Struct number) = inner_by m (only_in (slice_get c.structs number))

  abbrev pub inner : SlotMember → Option SlotMember
  inner m = inner_of m m.item

  -- so through as many structs as may be nested
  abbrev pub innermost : (deep : ℕ) → SlotMember → SlotMember
  innermost zero m = m
  innermost (suc deep) m = found_by (innermost deep) m (inner m)

  abbrev pub deepest : ℕ
  deepest = 64

  abbrev pub member_steps : SlotMember → List MoveStep
  member_steps m = items_steps (innermost deepest m).items (innermost deepest m).item

  abbrev pub end_of : SlotMember → ℕ
  end_of m = m.at + item_size c m.item * m.items

  -- the members from an offset on, up to the struct's end
  abbrev pub ascending : (size at : ℕ) → List SlotMember → List MoveStep
  ascending size at [] = skip at size
  ascending size at (m ∷ ms) = skip at m.at ++ member_steps m ++ ascending size (end_of m) ms

  -- the same from the struct's end on, the last member first
  abbrev pub descending : (at : ℕ) → List SlotMember → List MoveStep
  descending at [] = skip at 0
  descending at (m ∷ ms) = skip at (end_of m) ++ member_steps m ++ descending m.at ms

  unfoldable pub mover : SlotStruct → Mover
  mover s = record { size = s.size; ascending = ascending s.size 0 s.members; descending = descending s.size (reverse s.members) }

  -- one for each struct, in their order
  abbrev pub movers : List Mover
  movers = map mover c.structs
