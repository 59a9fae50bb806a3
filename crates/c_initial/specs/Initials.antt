-- Initializers of objects at file scope (C90 6.5.7).
use Rattle.std.specs.Prelude.{ℕ, zero, suc, Bool, true, false, ◌&&◌, ◌||◌, ◌==◌, nat_le, nat_lt, slice_get, if◌then◌else◌, List, [], ◌∷◌, ◌++◌, length, Option, Some, None, option_map}
use Rattle.c_symbol.specs.declared.symbol.LeafKind.TheVariants as leaf
use Rattle.c_symbol.specs.declared.symbol.PrefixOp.TheVariants.{Address}
use Rattle.c_symbol.specs.declared.symbol.BinaryOp.TheVariants.{Add}
use Rattle.c_trees.specs.Expressions.{Tree, Leaf, Index, Prefix, Binary}
use Rattle.c_trees.specs.Initializers.{InitialTree, Value, Braces, Item}
use Rattle.c_tree.specs.Layout.{members_of}
use Rattle.c_typing.specs.Plain.{Plain, Char, Pointer, Array, Struct, plain, same}
use Rattle.c_typing.specs.Expressions.{Denoted, Object}
use Rattle.c_typing.specs.declared.constant.Constant.{Constant}
use Rattle.c_typing.specs.declared.constant.Constant.TheVariants.{Number}
use Rattle.c_judge.specs.Answers.{Answer, Known, Broken, ◌then◌}
use Rattle.c_judge.specs.Judgement.{judged}
use Rattle.c_judge.specs.Places.{place_of}
use Rattle.c_scope.specs.Findings.{Finding, ◌beside◌, holds, asked}
use Rattle.c_scope.specs.Environment.{Environment, scope_of, meant}
use Rattle.c_scope.specs.Declarators.{constant}
use Rattle.c_scope.specs.Spelling.{initial_at}
use Rattle.c_scope.specs.Spelling.{is_number}

-- the items of a list in braces, in order
abbrev pub items_of : InitialTree → List InitialTree
items_of (Item i j) = items_of i ++ j ∷ []
items_of _ = []

abbrev pub text_of : Tree → Option (List ℕ)
text_of (Leaf _ leaf.Text text) = Some text
text_of _ = None

abbrev pub count_of : InitialTree → ℕ
count_of (Item i j) = suc (count_of i)
count_of _ = 0

-- ---- places in static objects

-- a place in the array that a name denotes, or the whole object: what stands there, how many items before it, and how many the array has
pub record Spot : Type 0 where
  pub name : List ℕ
  pub ctype : Plain
  pub items : ℕ
  pub bound : ℕ

abbrev pub item_of : List ℕ → Option Denoted → Option ℕ → Option Spot
item_of name (Some (Object (Array t n) r)) (Some i) = Some (record { name = name; ctype = t; items = i; bound = n })
item_of name _ _ = None

abbrev pub whole_of : List ℕ → Option Denoted → Option Spot
whole_of name (Some (Object t r)) = Some (record { name = name; ctype = t; items = 0; bound = 1 })
whole_of name _ = None

-- a place that only the program's end tells to be within its object
pub record Late : Type 0 where
  pub name : List ℕ
  pub items : ℕ
  pub at : ℕ

abbrev pub number_in : Answer Constant → Option ℕ
number_in (Known (Number n)) = Some n
number_in _ = None

-- 13. A char array may take a string whose characters without the NUL fit.
abbrev pub fits : Plain → (bound : ℕ) → Option (List ℕ) → Bool
fits t n None = false
fits t n (Some text) = same t Char && nat_le (length text) n

-- the rule that a list in braces breaks before an object that is no aggregate, and a list that is too long
abbrev pub rule_of : Plain → ℕ
rule_of (Pointer t) = 12
rule_of (Array t n) = 13
rule_of (Struct s) = 13
rule_of t = 11

abbrev pub is_aggregate : Plain → Bool
is_aggregate (Array t n) = true
is_aggregate (Struct s) = true
is_aggregate t = false

module _ (v : Environment) where
  -- the value of a constant expression
  abbrev pub number : Tree → Option ℕ
  number e = number_in (constant (judged (scope_of v) e))

  -- NAME, NAME + c, &NAME, &NAME[c]
  abbrev pub spot : Tree → Option Spot
  spot (Leaf _ leaf.Name text) = item_of text (meant v text) (Some 0)
  spot (Binary _ Add (Leaf _ leaf.Name text) c) = item_of text (meant v text) (number c)
  spot (Prefix _ Address (Leaf _ leaf.Name text)) = whole_of text (meant v text)
  spot (Prefix _ Address (Index _ (Leaf _ leaf.Name text) c)) = item_of text (meant v text) (number c)
  spot _ = None

  -- of the pointer's type, and within the object; where the bound is not known yet, the program's end tells
  abbrev pub is_spot : Plain → Option Spot → Bool
  is_spot t None = false
  is_spot t (Some s) = same t s.ctype && ((s.bound == 0) || nat_le s.items s.bound)

  abbrev pub is_characters : Plain → Option (List ℕ) → Bool
  is_characters t None = false
  is_characters t (Some text) = same t Char

  -- 12. a null constant, a string, or a place of the pointer's type (C90 6.4, 6.5.7)
  abbrev pub is_address : Plain → Tree → Answer Constant → Bool
  is_address t e (Known (Number zero)) = true
  is_address t e _ = is_characters t (text_of e) || is_spot t (spot e)

  abbrev pub address_found : Plain → Tree → Finding
  address_found t e = constant (judged (scope_of v) e) then λ c. holds (is_address t e (Known c)) 12 (place_of e).at

  -- an expression as the initializer of an object of a type
  abbrev pub value_found : Plain → Tree → Finding
  value_found (Pointer t) e = address_found t e
  value_found (Array t n) e = holds (fits t n (text_of e)) 13 (place_of e).at
  value_found (Struct s) e = Broken 13 (place_of e).at
  value_found t e = asked is_number 11 (place_of e).at (constant (judged (scope_of v) e))

  -- the type of a part of an aggregate by its number
  abbrev pub part_of : Plain → ℕ → Option Plain
  part_of (Array t n) i = if nat_lt i n then Some t else None
  part_of (Struct s) i = option_map (λ m. plain m.ctype) (slice_get (members_of v.defs s) i)
  part_of t i = None

  -- What is found in an initializer of an object of a type. An aggregate has a list in braces of one to as many items as it has.
  abbrev pub initial_found : Plain → InitialTree → Finding
  initial_found t (Value e) = value_found t e
  initial_found t (Braces at) = holds (is_aggregate t) (rule_of t) at.at
  initial_found t (Item i j) = initial_found t i beside (elim (part_of t (count_of i)) as (λ _. Finding) [ None ↦ Broken (rule_of t) (initial_at j) | Some u ↦ initial_found u j ])

  abbrev pub late_of : (at : ℕ) → Option Spot → List Late
  late_of at None = []
  late_of at (Some s) = if s.bound == 0 then record { name = s.name; items = s.items; at = at } ∷ [] else []

  abbrev pub late_in : InitialTree → List Late
  late_in (Value e) = late_of (place_of e).at (spot e)
  late_in (Braces at) = []
  late_in (Item i j) = late_in i ++ late_in j

-- the bound that an initializer sets: the number of its items, or of its characters and the NUL
abbrev pub bound_set : Plain → InitialTree → ℕ
bound_set t (Value e) = elim (text_of e) as (λ _. ℕ) [ None ↦ 0 | Some text ↦ suc (length text) ]
bound_set t i = count_of i

abbrev pub with_bound : Plain → InitialTree → Plain
with_bound (Array t zero) i = Array t (bound_set t i)
with_bound t i = t
