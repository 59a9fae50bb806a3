-- Trees with their heights, grown until they are too high.
use Rattle.std.specs.Prelude.{ℕ, ◌+◌, max, List, [], ◌∷◌, ◌++◌, Bool, true, false, Option, Some, None, nat_le, nat_lt, if◌then◌else◌}
use Rattle.c_lex.specs.declared.token.Place.{Place}
use Rattle.c_trees.specs.declared.expression.Spec.{Spec}
use Rattle.c_expr.specs.declared.grown.Built as expr_built
use Rattle.c_trees.specs.Expressions.{Tree, Stars, Around, Bounded, Unbounded}
use Rattle.c_expr.specs.Grammar.{stars_height}
use Rattle.c_declaration.specs.declared.built.Built.{Built}
use Rattle.c_declaration.specs.declared.front.Stars as front
use Rattle.c_trees.specs.declared.declaration.Declared.{Declared}
use Rattle.c_trees.specs.Declarators.{DeclaratorTree, begins}
use Rattle.c_trees.specs.Declarators as tree
use Rattle.c_trees.specs.Initializers.{InitialTree, Value, Braces, Item}

-- the tree where it is at most 64 high
abbrev pub cut : {T : Type 0} → T → ℕ → Option (Built T)
cut t h = if nat_le h 64 then Some (record { height = h; tree = t }) else None

-- a tree one higher than its parts
abbrev pub taller : {T : Type 0} → ℕ → T → Option (Built T)
taller height t = if nat_lt height 64 then Some (record { height = height + 1; tree = t }) else None

abbrev pub grow : {A B : Type 0} → (A → B) → Option (Built A) → Option (Built B)
grow f None = None
grow f (Some a) = taller a.height (f a.tree)

abbrev pub grow_two : {A B C : Type 0} → (A → B → C) → Option (Built A) → Option (Built B) → Option (Built C)
grow_two f None b = None
grow_two f (Some a) None = None
grow_two f (Some a) (Some b) = taller (max a.height b.height) (f a.tree b.tree)

-- a tree with one more in its list, which makes it at least `more` higher than that one
abbrev pub grow_list : {A B C : Type 0} → ℕ → ℕ → (A → B → C) → Option (Built A) → Option (Built B) → Option (Built C)
grow_list most more f None b = None
grow_list most more f (Some a) None = None
grow_list most more f (Some a) (Some b) = if nat_lt b.height most then Some (record { height = max a.height (b.height + more); tree = f a.tree b.tree }) else None

-- an expression
abbrev pub expr_of : Option expr_built.Built → Option (Built Tree)
expr_of None = None
expr_of (Some e) = Some (record { height = e.height; tree = e.expr })

-- declarators
abbrev pub name_of : Place → List ℕ → Option (Built DeclaratorTree)
name_of at text = taller 0 (tree.Name at text)

abbrev pub parens_of : Place → Option (Built DeclaratorTree) → Option (Built DeclaratorTree)
parens_of at d = grow (tree.Parens at) d

abbrev pub array_at : DeclaratorTree → Tree → DeclaratorTree
array_at d e = tree.Array (begins d) d (Some e)

abbrev pub array_of : Option (Built DeclaratorTree) → Option (Built Tree) → Option (Built DeclaratorTree)
array_of d e = grow_two array_at d e

abbrev pub open_array_at : DeclaratorTree → DeclaratorTree
open_array_at d = tree.Array (begins d) d None

abbrev pub open_array_of : Option (Built DeclaratorTree) → Option (Built DeclaratorTree)
open_array_of d = grow open_array_at d

abbrev pub function_at : DeclaratorTree → DeclaratorTree
function_at d = tree.Function (begins d) d

abbrev pub function_of : Option (Built DeclaratorTree) → Option (Built DeclaratorTree)
function_of d = grow function_at d

abbrev pub taking_of : Option (Built DeclaratorTree) → Option (Built DeclaratorTree) → Option (Built DeclaratorTree)
taking_of f p = grow_list 63 2 tree.Taking f p

abbrev pub higher_pointers : front.Stars → Built DeclaratorTree → Option (Built DeclaratorTree)
higher_pointers s d = taller (max 2 d.height) (tree.Pointers s.place s.count d.tree)

abbrev pub pointers_of : front.Stars → Option (Built DeclaratorTree) → Option (Built DeclaratorTree)
pointers_of s None = None
pointers_of s (Some d) = higher_pointers s d

-- a declarator behind its `*`
abbrev pub pointed : Option front.Stars → Option (Built DeclaratorTree) → Option (Built DeclaratorTree)
pointed None d = d
pointed (Some s) d = pointers_of s d

-- parameters
abbrev pub named_of : Place → Bool → Spec → Option (Built DeclaratorTree) → Option (Built DeclaratorTree)
named_of at r spec d = grow (tree.Named at r spec) d

abbrev pub unnamed_of : Place → Spec → Option (Built Tree) → Option (Built DeclaratorTree)
unnamed_of at spec None = None
unnamed_of at spec (Some a) = taller (max 1 a.height) (tree.Unnamed at spec a.tree)

-- declarators without a name: the height is the greatest of the parts
abbrev pub stars_of : ℕ → Option (Built Tree)
stars_of n = Some (record { height = stars_height n; tree = Stars n })

abbrev pub around_of : ℕ → Option (Built Tree) → Option (Built Tree)
around_of n None = None
around_of n (Some a) = if nat_lt a.height 64 then Some (record { height = max (stars_height n) (a.height + 1); tree = Around n a.tree }) else None

abbrev pub bounded_of : Option (Built Tree) → Option (Built Tree) → Option (Built Tree)
bounded_of a b = grow_list 64 1 Bounded a b

abbrev pub unbounded_of : Option (Built Tree) → Option (Built Tree)
unbounded_of None = None
unbounded_of (Some a) = Some (record { height = max a.height 2; tree = Unbounded a.tree })

-- initializers; a list in braces has the height of its list until it is closed
abbrev pub value_at : Built Tree → Built InitialTree
value_at e = record { height = e.height; tree = Value e.tree }

abbrev pub value_of : Option (Built Tree) → Option (Built InitialTree)
value_of None = None
value_of (Some e) = Some (value_at e)

abbrev pub braces_of : Place → Option (Built InitialTree)
braces_of at = Some (record { height = 0; tree = Braces at })

abbrev pub item_of : Option (Built InitialTree) → Option (Built InitialTree) → Option (Built InitialTree)
item_of i j = grow_list 64 1 Item i j

abbrev pub itself : InitialTree → InitialTree
itself i = i

abbrev pub closed_of : Option (Built InitialTree) → Option (Built InitialTree)
closed_of i = grow itself i

-- declared names in a block
abbrev pub bare_name : DeclaratorTree → Declared
bare_name d = record { declarator = d; initial = None }

abbrev pub name_with : DeclaratorTree → InitialTree → Declared
name_with d i = record { declarator = d; initial = Some i }

abbrev pub bare_of : Option (Built DeclaratorTree) → Option (Built Declared)
bare_of None = None
bare_of (Some d) = Some (record { height = d.height; tree = bare_name d.tree })

abbrev pub with_of : Option (Built DeclaratorTree) → Option (Built InitialTree) → Option (Built Declared)
with_of d i = grow_two name_with d i

abbrev pub put_last : {T : Type 0} → List T → T → List T
put_last ts t = ts ++ t ∷ []

abbrev pub names_of : Option (Built (List Declared)) → Option (Built Declared) → Option (Built (List Declared))
names_of ds d = grow_list 64 1 put_last ds d

abbrev pub no_names : Option (Built (List Declared))
no_names = Some (record { height = 0; tree = [] })
