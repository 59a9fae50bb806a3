-- What the items weigh that a part of a program may become, at some rates: in bytes of the table's text, in steps, or in units that are made. Each literal, each mention of a
-- struct, each declared name and each stopping point counts, also those that the program's table has only once.
use Rattle.std.specs.Prelude.{ℕ, suc, ◌+◌, ◌*◌, ◌≤◌, List, [], ◌∷◌, length, Option, Some, None}
use Rattle.c_trees.specs.Declarators.{DeclaratorTree, Name, Parens, Pointers, Array, Function, Taking, Named, Unnamed}
use Rattle.c_trees.specs.Initializers.{InitialTree, Value, Braces, Item}
use Rattle.c_trees.specs.declared.declaration.Declared.{Declared}
use Rattle.c_trees.specs.declared.declaration.Local.{Local}
use Rattle.c_trees.specs.declared.declaration.FileSpec.{FileSpec}
use Rattle.c_trees.specs.declared.declaration.FileSpec.TheVariants as file
use Rattle.c_trees.specs.declared.declaration.MemberPart.{MemberPart}
use Rattle.c_trees.specs.declared.declaration.MemberPart.TheVariants.{Opens, Row, Closes}
use Rattle.c_trees.specs.Statements.{StatementTree, Evaluate, Declares, Also, Closed, If, IfElse, Headed, Do, Return}
use Rattle.c_trees.specs.declared.statement.Head.{Head}
use Rattle.c_trees.specs.declared.statement.Head.TheVariants as head
use Rattle.c_trees.specs.declared.unit.External.{External}
use Rattle.c_trees.specs.declared.unit.External.TheVariants.{Declaration, Definition}
use Rattle.c_typing.specs.Plain.{Plain}
use Rattle.c_typing.specs.Plain as types
use Rattle.c_typing.specs.Expressions.{Denoted}
use Rattle.c_typing.specs.Expressions as typing
use Rattle.c_scope.specs.Environment.{Row as NameRow}
use Rattle.c_mentions.specs.Literals.{in_tree, in_declarator, in_file_spec, in_statement}
use Rattle.c_mentions.specs.Tags.{in_external}
use Rattle.ps_emit.specs.Bounds.{Cost, per_constructor, per_object_symbol, per_symbol, per_point, per_function, per_struct, per_member, per_object, per_string, per_token}

-- ---- rates

-- what one item of each kind costs, and the most that a token pays for
pub record Rates : Type 0 where
  pub constructor : ℕ
  pub object : ℕ
  pub object_symbol : ℕ
  pub symbol : ℕ
  pub point : ℕ
  pub function : ℕ
  pub struct : ℕ
  pub member : ℕ
  pub string : ℕ
  pub token : ℕ

abbrev pub rates : (Cost → ℕ) → (token : ℕ) → Rates
rates of token = record {
  constructor = of per_constructor;
  object = of per_object;
  object_symbol = of per_object_symbol;
  symbol = of per_symbol;
  point = of per_point;
  function = of per_function;
  struct = of per_struct;
  member = of per_member;
  string = of per_string;
  token = token;
}

abbrev pub rates_of_bytes : Rates
rates_of_bytes = rates (λ c. c.bytes) per_token.bytes

abbrev pub rates_of_steps : Rates
rates_of_steps = rates (λ c. c.steps) per_token.steps

-- of units there are more than enough, so the two parentheses of a function pay for it alone
abbrev pub rates_of_made : Rates
rates_of_made = rates (λ c. c.made) 50

-- What tokens pay for: a `*` and the `[` of a bound each pay for one item, and so do the tag of a struct and the word, `=`, `;` or brace at a stopping
-- point. A string is paid for by itself and the token behind it, which may stand at a point; a declared name by itself and the token
-- behind it, or, of a function or a parameter, a word of its type; and a function by its two parentheses.
pub record AreCovered (r : Rates) : Type 0 where
  pub string : r.string + r.point ≤ 2 * r.token
  pub struct : r.struct ≤ r.token
  pub constructor : r.constructor ≤ r.token
  pub point : r.point ≤ r.token
  pub local : r.symbol + r.constructor ≤ 2 * r.token
  pub member : r.member + r.constructor ≤ 2 * r.token
  pub object : r.object + r.object_symbol + r.constructor ≤ 2 * r.token
  -- a name at file scope that is a function's weighs no more than an object's
  pub declared : r.symbol ≤ r.object + r.object_symbol
  pub function : r.function ≤ 2 * r.token

-- ---- counts

-- of all items of a list
abbrev pub total : {A : Type 0} → (A → ℕ) → List A → ℕ
total f [] = 0
total f (x ∷ xs) = f x + total f xs

-- the constructors of a type
abbrev pub constructors : Plain → ℕ
constructors (types.Pointer t) = suc (constructors t)
constructors (types.Array t n) = suc (constructors t)
constructors _ = 1

-- the pointers and arrays that a declarator makes of the type that it begins with; of a function's, those of its result
abbrev pub derived : DeclaratorTree → ℕ
derived (Name _ _) = 0
derived (Parens _ d) = derived d
derived (Pointers _ n d) = n + derived d
derived (Array _ d _) = suc (derived d)
derived (Function _ d) = derived d
derived (Taking d _) = derived d
derived (Named _ _ _ d) = derived d
derived (Unnamed _ _ _) = 0

-- the string literals of an initializer
abbrev pub literals : InitialTree → ℕ
literals (Value e) = length (in_tree e)
literals (Braces _) = 0
literals (Item i j) = literals i + literals j

abbrev pub literals_or_none : Option InitialTree → ℕ
literals_or_none None = 0
literals_or_none (Some i) = literals i

-- how many points there are at a part that may be absent
abbrev pub present : {A : Type 0} → Option A → ℕ
present None = 0
present (Some e) = 1

-- the stopping points before the statement of a loop, a `switch` or a label
abbrev pub head_points : Head → ℕ
head_points (head.While _ e) = 1
head_points (head.For _ i e k) = present i + present e + present k
head_points (head.Switch _ e) = 1
head_points (head.Case _ e) = 0
head_points (head.Default _) = 0

module _ (r : Rates) where
  -- ---- rows

  -- a name with its type, which is that of a function's result
  abbrev pub of_typed : Plain → ℕ
  of_typed t = r.symbol + r.constructor * constructors t

  abbrev pub of_inner : Denoted → ℕ
  of_inner (typing.Object t is_register) = of_typed t
  of_inner (typing.Function t ps) = of_typed t
  of_inner typing.Hidden = of_typed types.Void

  -- the symbol of an object has no type of its own
  abbrev pub of_global : Denoted → ℕ
  of_global (typing.Function t ps) = of_typed t
  of_global _ = r.object_symbol

  -- a row of the names, of a local or at file scope
  abbrev pub of_row : NameRow → ℕ
  of_row n = elim n.local as (λ _. ℕ) [ Some x ↦ of_inner n.denoted | None ↦ of_global n.denoted ]

  -- ---- declared names

  -- the type of what a declarator declares
  abbrev pub of_type : DeclaratorTree → ℕ
  of_type d = r.constructor * suc (derived d)

  abbrev pub of_local : DeclaratorTree → ℕ
  of_local d = r.symbol + of_type d

  abbrev pub of_member : DeclaratorTree → ℕ
  of_member d = r.member + of_type d

  -- the parameters of a function with a body, which have names
  abbrev pub of_parameter : DeclaratorTree → ℕ
  of_parameter (Named _ _ _ d) = of_local d
  of_parameter _ = 0

  abbrev pub of_parameters : DeclaratorTree → ℕ
  of_parameters (Parens _ d) = of_parameters d
  of_parameters (Pointers _ _ d) = of_parameters d
  of_parameters (Array _ d _) = of_parameters d
  of_parameters (Taking d p) = of_parameters d + of_parameter p
  of_parameters _ = 0

  -- a function, at its parentheses
  abbrev pub of_function : DeclaratorTree → ℕ
  of_function (Parens _ d) = of_function d
  of_function (Pointers _ _ d) = of_function d
  of_function (Array _ d _) = of_function d
  of_function (Function _ _) = r.function
  of_function (Taking d _) = of_function d
  of_function _ = 0

  -- ---- bodies: their locals and stopping points

  -- an initialized local has a point
  abbrev pub of_declared_local : Declared → ℕ
  of_declared_local d = of_local d.declarator + r.point * present d.initial

  abbrev pub of_locals : Local → ℕ
  of_locals l = total of_declared_local l.names

  abbrev pub of_statement : StatementTree → ℕ
  of_statement (Evaluate _) = r.point
  of_statement (Declares b l) = of_statement b + of_locals l
  of_statement (Also b s) = of_statement b + of_statement s
  of_statement (Closed b _) = of_statement b
  of_statement (If _ _ s) = r.point + of_statement s
  of_statement (IfElse _ _ s t) = r.point + of_statement s + of_statement t
  of_statement (Headed h s) = r.point * head_points h + of_statement s
  of_statement (Do _ s _) = of_statement s + r.point
  of_statement (Return _ _) = r.point
  of_statement _ = 0

  -- with the strings in it
  abbrev pub of_body : StatementTree → ℕ
  of_body x = of_statement x + r.string * length (in_statement x)

  -- ---- file scope

  abbrev pub of_part : MemberPart → ℕ
  of_part (Opens _ _) = 0
  of_part (Row _ _ ds) = total of_member ds
  of_part (Closes ds) = total of_member ds

  abbrev pub of_members : FileSpec → ℕ
  of_members (file.Named _) = 0
  of_members (file.Members ps) = total of_part ps

  -- the members of a struct that a declaration begins with, and the strings in it
  abbrev pub of_spec : FileSpec → ℕ
  of_spec s = of_members s + r.string * length (in_file_spec s)

  -- a declared name is an object with its symbol, or a function, which weighs less; with the strings in its bounds and its initializer
  abbrev pub of_name : Declared → ℕ
  of_name d = r.object + r.object_symbol + of_type d.declarator + r.string * (length (in_declarator d.declarator) + literals_or_none d.initial)

  -- a function with its symbol, its parameters, and the points at its braces
  abbrev pub of_head : DeclaratorTree → ℕ
  of_head d = of_function d + of_local d + of_parameters d + 2 * r.point + r.string * length (in_declarator d)

  -- what an external declaration declares
  abbrev pub of_declared : External → ℕ
  of_declared (Declaration h) = of_spec h.spec + total of_name h.names
  of_declared (Definition h x) = of_spec h.spec + of_head h.declarator + of_body x

  -- and with the structs that it mentions
  abbrev pub of_external : External → ℕ
  of_external e = of_declared e + r.struct * length (in_external e)

  -- a file, and some files
  abbrev pub of_unit : List External → ℕ
  of_unit es = total of_external es

  abbrev pub of_units : List (List External) → ℕ
  of_units us = total of_unit us
