-- Comparison of objects.
use Rattle.std.specs.Prelude.{ℕ, ◌==◌, Bool, true, false, ◌&&◌, Option, Some, None, Result, Ok, Err, List, bytes_eq}
use Rattle.std.specs.Ordering.{int_eq, int_cmp, nat_cmp}
use Rattle.std.specs.Bool.{beq}
use Rattle.std.specs.Cmp.Lexicographic.{slice_cmp}
use Rattle.std.specs.declared.cmp.Ordering.{Ordering}
use Rattle.std.specs.declared.cmp.Ordering.TheVariants.{Less, Equal, Greater}
use Rattle.ps_store.specs.declared.object.Part.{Part}
use Rattle.ps_store.specs.declared.object.Part.TheVariants.{Table, Command}
use Rattle.ps_store.specs.declared.object.PsObj.{PsObj}
use Rattle.ps_store.specs.declared.object.PsObj.TheVariants.{Int, Bool as Truth, Name, Str, Array, Dict, Op, Mark, Null}
use Rattle.ps_store.specs.declared.object.StringId.{StringId}
use Rattle.ps_store.specs.StoreState.{StoreState}
use Rattle.ps_store.specs.Store.{bytes_of}
use Rattle.ps_step.specs.Results.{◌>>=◌}
use Rattle.ps_step.specs.declared.compare.Relation.{Relation}
use Rattle.ps_step.specs.declared.compare.Relation.TheVariants.{Lt, Le, Gt, Ge}
use Rattle.ps_step.specs.declared.fault.PsError.{PsError}
use Rattle.ps_step.specs.declared.fault.PsError.TheVariants.{TypeCheck}

abbrev pub same_part : Part → Part → Bool
same_part Table Table = true
same_part Command Command = true
same_part a b = false

-- Objects that are no strings and no names: equal integers, booleans and operators, the same array or dictionary,
-- whatever their attributes, and marks and nulls.
abbrev pub same_plain : PsObj → PsObj → Bool
same_plain (Int x) (Int y) = int_eq x y
same_plain (Truth x) (Truth y) = beq x y
same_plain (Array a x) (Array b y) = same_part a.part b.part && a.index == b.index
same_plain (Dict a) (Dict b) = same_part a.part b.part && a.index == b.index
same_plain (Op m) (Op n) = m == n
same_plain Mark Mark = true
same_plain Null Null = true
same_plain a b = false

-- the characters of a string or a name
abbrev pub characters_of : PsObj → Option StringId
characters_of (Name t x) = Some t
characters_of (Str t x) = Some t
characters_of other = None

-- whether two objects are equal; strings and names are compared by their characters
abbrev pub same_object : StoreState → PsObj → PsObj → Bool
same_object s a b = elim (characters_of a) [
  | None ↦ same_plain a b
  | Some t ↦ elim (characters_of b) [ None ↦ same_plain a b | Some u ↦ bytes_eq (bytes_of s t) (bytes_of s u) ]
]

-- the order of two integers, or of two strings by their first bytes that differ, and else by their lengths
abbrev pub order_of : StoreState → PsObj → PsObj → Result Ordering PsError
order_of s (Int x) (Int y) = Ok (int_cmp x y)
order_of s (Str t x) (Str u y) = Ok (slice_cmp nat_cmp (bytes_of s t) (bytes_of s u))
order_of s a b = Err TypeCheck

abbrev pub holds : Relation → Ordering → Bool
holds Lt Less = true
holds Lt other = false
holds Le Greater = false
holds Le other = true
holds Gt Greater = true
holds Gt other = false
holds Ge Less = false
holds Ge other = true

abbrev pub relation_of : Relation → StoreState → PsObj → PsObj → Result PsObj PsError
relation_of relation s a b = order_of s a b >>= λ order. Ok (Truth (holds relation order))
