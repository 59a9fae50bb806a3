-- Parts of an expression: where they begin, the level of their rule, and their tree and its height, where that is at most 64.
use Rattle.std.specs.Prelude.{ℕ, List, ◌+◌, max, Option, Some, None, nat_le, nat_lt, if◌then◌else◌}
use Rattle.c_lex.specs.declared.token.Place.{Place}
use Rattle.c_symbol.specs.declared.symbol.LeafKind.{LeafKind}
use Rattle.c_symbol.specs.declared.symbol.Step.{Step}
use Rattle.c_symbol.specs.declared.symbol.Access.{Access}
use Rattle.c_symbol.specs.declared.symbol.PrefixOp.{PrefixOp}
use Rattle.c_symbol.specs.declared.symbol.BinaryOp.{BinaryOp}
use Rattle.c_trees.specs.declared.expression.Spec.{Spec}
use Rattle.c_expr.specs.declared.grown.Built.{Built}
use Rattle.c_expr.specs.declared.grown.Grown.{Grown}
use Rattle.c_expr.specs.declared.call.GrownCall.{GrownCall}
use Rattle.c_trees.specs.Expressions.{Tree, Leaf, Paren, Index, Call, With, Member, After, Prefix, SizeofType, Cast, Binary, Choice, Stars, Around, Bounded, Unbounded}
use Rattle.c_expr.specs.Levels.{level_of}
use Rattle.c_expr.specs.Grammar.{stars_height, name_height}

-- the tree where it is at most 64 high
abbrev pub cut : Tree → ℕ → Option Built
cut e h = if nat_le h 64 then Some (record { height = h; expr = e }) else None

-- a tree one higher than its parts
abbrev pub taller : ℕ → Tree → Option Built
taller height t = if nat_lt height 64 then Some (record { height = height + 1; expr = t }) else None

abbrev pub grow : (Tree → Tree) → Option Built → Option Built
grow f None = None
grow f (Some a) = taller a.height (f a.expr)

abbrev pub grow_two : (Tree → Tree → Tree) → Option Built → Option Built → Option Built
grow_two f None b = None
grow_two f (Some a) None = None
grow_two f (Some a) (Some b) = taller (max a.height b.height) (f a.expr b.expr)

abbrev pub grow_three : (Tree → Tree → Tree → Tree) → Option Built → Option Built → Option Built → Option Built
grow_three f None b c = None
grow_three f (Some a) None c = None
grow_three f (Some a) (Some b) None = None
grow_three f (Some a) (Some b) (Some c) = taller (max a.height (max b.height c.height)) (f a.expr b.expr c.expr)

-- a tree with one more in its list, which makes it at least `more` higher than that one
abbrev pub grow_list : ℕ → ℕ → (Tree → Tree → Tree) → Option Built → Option Built → Option Built
grow_list most more f None b = None
grow_list most more f (Some a) None = None
grow_list most more f (Some a) (Some b) = if nat_lt b.height most then Some (record { height = max a.height (b.height + more); expr = f a.expr b.expr }) else None

abbrev pub leaf_of : Place → LeafKind → List ℕ → Grown
leaf_of at kind text = record { place = at; level = 17; tree = taller 0 (Leaf at kind text) }

abbrev pub paren_of : Place → Grown → Grown
paren_of at a = record { place = at; level = 17; tree = grow (Paren at) a.tree }

abbrev pub index_of : Grown → Grown → Grown
index_of a b = record { place = a.place; level = 16; tree = grow_two (Index a.place) a.tree b.tree }

-- a call without arguments, with one more, and at its end
abbrev pub call_of : Grown → GrownCall
call_of a = record { place = a.place; tree = grow (Call a.place) a.tree }

abbrev pub with_of : GrownCall → Grown → GrownCall
with_of a b = record { place = a.place; tree = grow_list 63 2 With a.tree b.tree }

abbrev pub called_of : GrownCall → Grown
called_of a = record { place = a.place; level = 16; tree = a.tree }

abbrev pub member_of : Grown → Access → Place → List ℕ → Grown
member_of a access name text = record { place = a.place; level = 16; tree = grow (λ t. Member a.place t access name text) a.tree }

abbrev pub after_of : Grown → Step → Grown
after_of a step = record { place = a.place; level = 16; tree = grow (λ t. After a.place t step) a.tree }

abbrev pub prefix_of : Place → PrefixOp → Grown → Grown
prefix_of at op a = record { place = at; level = 15; tree = grow (Prefix at op) a.tree }

-- declarators: the height is the greatest of the parts
abbrev pub stars_of : ℕ → Option Built
stars_of n = Some (record { height = stars_height n; expr = Stars n })

abbrev pub around_of : ℕ → Option Built → Option Built
around_of n None = None
around_of n (Some a) = if nat_lt a.height 64 then Some (record { height = max (stars_height n) (a.height + 1); expr = Around n a.expr }) else None

abbrev pub bounded_of : Option Built → Option Built → Option Built
bounded_of a b = grow_list 64 1 Bounded a b

abbrev pub unbounded_of : Option Built → Option Built
unbounded_of None = None
unbounded_of (Some a) = Some (record { height = max a.height 2; expr = Unbounded a.expr })

abbrev pub sized : Place → Spec → Option Built → Option Built
sized at spec None = None
sized at spec (Some d) = taller (name_height d.height) (SizeofType at spec d.expr)

abbrev pub sizeof_type_of : Place → Spec → Option Built → Grown
sizeof_type_of at spec d = record { place = at; level = 15; tree = sized at spec d }

abbrev pub cast_tree : Place → Spec → Option Built → Option Built → Option Built
cast_tree at spec None b = None
cast_tree at spec (Some d) None = None
cast_tree at spec (Some d) (Some b) = taller (max (name_height d.height) b.height) (Cast at spec d.expr b.expr)

abbrev pub cast_of : Place → Spec → Option Built → Grown → Grown
cast_of at spec d a = record { place = at; level = 14; tree = cast_tree at spec d a.tree }

abbrev pub binary_of : BinaryOp → Grown → Grown → Grown
binary_of op a b = record { place = a.place; level = level_of op; tree = grow_two (Binary a.place op) a.tree b.tree }

abbrev pub choice_of : Grown → Grown → Grown → Grown
choice_of a b c = record { place = a.place; level = 3; tree = grow_three (Choice a.place) a.tree b.tree c.tree }
