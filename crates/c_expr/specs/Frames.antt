-- Frames: what is begun and waits for an expression, the innermost first.
use Rattle.std.specs.Prelude.{ℕ, Bool, true, false, nat_le, if◌then◌else◌, List, [], ◌∷◌, Option, Some, None}
use Rattle.c_lex.specs.declared.token.Place.{Place}
use Rattle.c_symbol.specs.declared.symbol.PrefixOp.TheVariants.{Sizeof}
use Rattle.c_trees.specs.declared.expression.Spec.{Spec}
use Rattle.c_trees.specs.declared.expression.Spec.TheVariants.{Unsigned}
use Rattle.c_expr.specs.declared.grown.Grown.{Grown}
use Rattle.c_expr.specs.declared.call.GrownCall.{GrownCall}
use Rattle.c_expr.specs.declared.frame.Least.{Least}
use Rattle.c_expr.specs.declared.frame.Least.TheVariants.{Expression, Assignment, Constant}
use Rattle.c_expr.specs.declared.frame.Frame.{Frame}
use Rattle.c_expr.specs.declared.frame.Frame.TheVariants.{Start, Prefix, Typed, Nest, Bound, Cast, Binary, Then, Else, Paren, Index, Begun, Call}
use Rattle.c_expr.specs.declared.frame.Opener.{Opener}
use Rattle.c_expr.specs.declared.frame.Opener.TheVariants as o
use Rattle.c_expr.specs.declared.frame.Opener.TheVariants.{Chooses, Begins, Other}
use Rattle.c_expr.specs.declared.frame.Closer.{Closer}
use Rattle.c_expr.specs.declared.frame.Closer.TheVariants.{Parens, Calls, NoParen}
use Rattle.c_expr.specs.declared.frame.Square.{Square}
use Rattle.c_expr.specs.declared.frame.Square.TheVariants.{Indexes, Bounds, NoBracket}
use Rattle.c_expr.specs.declared.frame.NameCloser.{NameCloser}
use Rattle.c_expr.specs.declared.frame.NameCloser.TheVariants.{Names, Nests, NoName}
use Rattle.c_expr.specs.Grown.{prefix_of, cast_of, binary_of, choice_of}
use Rattle.c_expr.specs.Levels.{level_of, right_of, operand_of}

-- the level of an expression, an assignment, a constant expression
abbrev pub least_of : Least → ℕ
least_of Expression = 1
least_of Assignment = 2
least_of Constant = 3

-- the level of what the frame makes by itself, or 0 where it waits for a token
abbrev pub frame_level : Frame → ℕ
frame_level (Prefix _ _) = 15
frame_level (Cast _ _ _) = 14
frame_level (Binary op _) = level_of op
frame_level (Else _ _) = 3
frame_level _ = 0

-- the least level of the expression that the frame waits for
abbrev pub need_of : Frame → ℕ
need_of (Start least) = least_of least
need_of (Prefix _ op) = operand_of op
need_of (Bound _) = 3
need_of (Cast _ _ _) = 14
need_of (Binary op _) = right_of op
need_of (Else _ _) = 3
need_of (Begun _) = 2
need_of (Call _) = 2
need_of _ = 1

abbrev pub need : List Frame → ℕ
need [] = 0
need (f ∷ s) = need_of f

abbrev pub top_level : List Frame → ℕ
top_level [] = 0
top_level (f ∷ s) = frame_level f

abbrev pub sizeof_place : List Frame → Option Place
sizeof_place (Prefix at Sizeof ∷ s) = Some at
sizeof_place _ = None

-- what a frame waits for behind what comes next
abbrev pub opener_of : Frame → Opener
opener_of (Start _) = Other
opener_of (Prefix _ _) = Other
opener_of (Typed at spec) = o.Names at spec
opener_of (Nest n) = o.Nests n
opener_of (Bound d) = o.Bounds d
opener_of (Cast _ _ _) = Other
opener_of (Binary _ _) = Other
opener_of (Then a) = Chooses a
opener_of (Else _ _) = Other
opener_of (Paren at) = o.Parens at
opener_of (Index a) = o.Indexes a
opener_of (Begun c) = Begins c
opener_of (Call c) = o.Calls c

abbrev pub awaited : Option Frame → Opener
awaited None = Other
awaited (Some f) = opener_of f

abbrev pub parens_by : Opener → Option Place
parens_by (o.Parens at) = Some at
parens_by _ = None

abbrev pub paren_part : Option Frame → Option Place
paren_part f = parens_by (awaited f)

abbrev pub then_by : Opener → Option Grown
then_by (Chooses a) = Some a
then_by _ = None

abbrev pub then_part : Option Frame → Option Grown
then_part f = then_by (awaited f)

abbrev pub begun_by : Opener → Option GrownCall
begun_by (Begins c) = Some c
begun_by _ = None

abbrev pub begun_part : Option Frame → Option GrownCall
begun_part f = begun_by (awaited f)

abbrev pub call_by : Opener → Option GrownCall
call_by (Begins c) = Some c
call_by (o.Calls c) = Some c
call_by _ = None

abbrev pub call_part : Option Frame → Option GrownCall
call_part f = call_by (awaited f)

-- the `(` before a type's name that is `unsigned` so far
abbrev pub unsigned_name : Place → Spec → Option Place
unsigned_name at Unsigned = Some at
unsigned_name at _ = None

abbrev pub unsigned_by : Opener → Option Place
unsigned_by (o.Names at spec) = unsigned_name at spec
unsigned_by _ = None

abbrev pub unsigned_part : Option Frame → Option Place
unsigned_part f = unsigned_by (awaited f)

-- what a ) behind an expression ends
abbrev pub closer_by : Opener → Closer
closer_by (o.Parens at) = Parens at
closer_by (Begins c) = Calls c
closer_by (o.Calls c) = Calls c
closer_by _ = NoParen

abbrev pub closer_of : Option Frame → Closer
closer_of f = closer_by (awaited f)

-- what a ] ends
abbrev pub square_by : Opener → Square
square_by (o.Indexes a) = Indexes a
square_by (o.Bounds d) = Bounds d
square_by _ = NoBracket

abbrev pub square_of : Option Frame → Square
square_of f = square_by (awaited f)

-- what a ) behind a declarator ends
abbrev pub name_closer_by : Opener → NameCloser
name_closer_by (o.Names at spec) = Names at spec
name_closer_by (o.Nests n) = Nests n
name_closer_by _ = NoName

abbrev pub name_closer_of : Option Frame → NameCloser
name_closer_of f = name_closer_by (awaited f)

-- whether nothing is begun
abbrev pub is_start : Option Frame → Bool
is_start None = false
is_start (Some (Start _)) = true
is_start (Some _) = false

-- the expression in its frame
abbrev pub plug : Frame → Grown → Grown
plug (Prefix at op) g = prefix_of at op g
plug (Cast at spec d) g = cast_of at spec d g
plug (Binary op a) g = binary_of op a g
plug (Else a b) g = choice_of a b g
plug _ g = g

-- the expressions that bind at least as tightly as the level are ended
abbrev pub reduce : ℕ → Grown → List Frame → Grown × List Frame
reduce level g [] = (g, [])
reduce level g (f ∷ s) = if nat_le level (frame_level f) then reduce level (plug f g) s else (g, f ∷ s)
