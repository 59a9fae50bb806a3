-- Reading an expression token by token, with what is begun on a stack.
use Rattle.std.specs.Prelude.{◌≡◌, ℕ, drop, ◌+◌, ◌&&◌, Bool, false, nat_le, nat_lt, nat_eq, if◌then◌else◌, List, [], ◌∷◌, Option, Some, None, Result, Ok, Err}
use Rattle.c_lex.specs.declared.token.Place.{Place}
use Rattle.c_symbol.specs.declared.terminal.Terminal.{Terminal}
use Rattle.c_symbol.specs.declared.symbol.Access.{Access}
use Rattle.c_symbol.specs.declared.symbol.LeafKind.TheVariants.{Name}
use Rattle.c_symbol.specs.declared.symbol.BinaryOp.{BinaryOp}
use Rattle.c_symbol.specs.declared.symbol.BinaryOp.TheVariants.{Comma, BitAnd, Multiply, Add, Subtract}
use Rattle.c_symbol.specs.declared.symbol.PrefixOp.{PrefixOp}
use Rattle.c_symbol.specs.declared.symbol.PrefixOp.TheVariants as ops
use Rattle.c_symbol.specs.declared.symbol.Symbol.{Symbol}
use Rattle.c_symbol.specs.declared.symbol.Symbol.TheVariants.{Leaf, Word, Binary, Step, Access as Selects, Complement, Not, Sizeof, Struct as StructWord, Question, Colon, OpenParen, CloseParen, OpenBracket, CloseBracket}
use Rattle.c_symbol.specs.declared.symbol.TypeWord.TheVariants as a_word
use Rattle.c_trees.specs.declared.expression.Spec.{Spec}
use Rattle.c_trees.specs.declared.expression.Spec.TheVariants.{UnsignedInt, Struct}
use Rattle.c_expr.specs.Grammar.{spec_of}
use Rattle.c_expr.specs.declared.grown.Built.{Built}
use Rattle.c_expr.specs.declared.grown.Grown.{Grown}
use Rattle.c_expr.specs.declared.call.GrownCall.{GrownCall}
use Rattle.c_expr.specs.declared.frame.Least.{Least}
use Rattle.c_expr.specs.declared.frame.Frame.{Frame}
use Rattle.c_expr.specs.declared.frame.Frame.TheVariants as frame
use Rattle.c_expr.specs.declared.frame.Closer.{Closer}
use Rattle.c_expr.specs.declared.frame.Closer.TheVariants.{Parens, Calls, NoParen}
use Rattle.c_expr.specs.declared.frame.Square.{Square}
use Rattle.c_expr.specs.declared.frame.Square.TheVariants.{Indexes, Bounds, NoBracket}
use Rattle.c_expr.specs.declared.frame.NameCloser.{NameCloser}
use Rattle.c_expr.specs.declared.frame.NameCloser.TheVariants.{Names, Nests, NoName}
use Rattle.c_expr.specs.declared.state.Part.{Part}
use Rattle.c_expr.specs.declared.state.Part.TheVariants.{Front, Back}
use Rattle.c_expr.specs.declared.state.Mode.{Mode}
use Rattle.c_expr.specs.declared.state.Mode.TheVariants.{Want, Have, Naming, Typing, Tagging}
use Rattle.c_expr.specs.declared.state.Parser.{Parser}
use Rattle.c_expr.specs.declared.state.SynFault.{SynFault}
use Rattle.c_expr.specs.declared.state.SynFault.TheVariants.{Syntax, Deep, NoMemory}
use Rattle.c_expr.specs.Grown.{leaf_of, paren_of, index_of, call_of, with_of, called_of, member_of, after_of, stars_of, around_of, bounded_of, unbounded_of, sizeof_type_of}
use Rattle.c_expr.specs.Frames.{least_of, need, reduce, sizeof_place, paren_part, then_part, begun_part, call_part, unsigned_part, closer_of, square_of, name_closer_of, is_start}
use Rattle.c_expr.specs.First.{first}
use Rattle.c_expr.specs.Levels.{level_of, left_of, ends_of}

-- the next state, or no tree
abbrev pub Next : Type 0
Next = Option Parser

abbrev pub goes : Mode → List Frame → Next
goes mode s = Some (record { stack = s; mode = mode })

-- an answer is the next state, unless memory ran out
abbrev pub Gives : Result Parser SynFault → Next → Type 0
Gives (Ok p) next = next ≡ Some p
Gives (Err (Syntax _)) next = next ≡ None
Gives (Err (Deep _)) next = ⊥
Gives (Err NoMemory) next = Unit {0}

-- the operator that a symbol is where it stands in front of an expression
abbrev pub prefix_symbol_of : Symbol → Option PrefixOp
prefix_symbol_of (Step step) = Some (ops.Step step)
prefix_symbol_of (Binary BitAnd) = Some ops.Address
prefix_symbol_of (Binary Multiply) = Some ops.Dereference
prefix_symbol_of (Binary Add) = Some ops.Plus
prefix_symbol_of (Binary Subtract) = Some ops.Minus
prefix_symbol_of Complement = Some ops.Complement
prefix_symbol_of Not = Some ops.Not
prefix_symbol_of Sizeof = Some ops.Sizeof
prefix_symbol_of _ = None

-- the first word of a type's name
abbrev pub opened_type : Option Place → Spec → List Frame → Next
opened_type None spec s = None
opened_type (Some begun) spec s = goes (Typing (Front 0)) (frame.Typed begun spec ∷ s)

abbrev pub opened_tag : Option Place → List Frame → Next
opened_tag None s = None
opened_tag (Some begun) s = goes (Tagging begun) s

abbrev pub before : Option PrefixOp → Place → List Frame → Next
before None at s = None
before (Some op) at s = goes Want (frame.Prefix at op ∷ s)

-- the ) of a call with no argument
abbrev pub called : Option GrownCall → List Frame → Next
called None s = None
called (Some c) s = goes (Have (called_of c)) s

-- the ] of an array without a bound
abbrev pub emptied : Square → List Frame → Next
emptied (Bounds d) s = goes (Typing (Back (unbounded_of d))) s
emptied (Indexes _) s = None
emptied NoBracket s = None

-- a token where an expression begins
abbrev pub wanting : List Frame → Symbol → Place → List ℕ → Next
wanting s (Leaf kind) at text = goes (Have (leaf_of at kind text)) s
wanting s OpenParen at text = goes Want (frame.Paren at ∷ s)
wanting s (Word w) at text = opened_type (paren_part (first s)) (spec_of w) (drop 1 s)
wanting s StructWord at text = opened_tag (paren_part (first s)) (drop 1 s)
wanting s CloseParen at text = called (begun_part (first s)) (drop 1 s)
wanting s CloseBracket at text = emptied (square_of (first s)) (drop 1 s)
wanting s symbol at text = before (prefix_symbol_of symbol) at s

-- a token where a member's name stands
abbrev pub naming : List Frame → Grown → Access → Symbol → Place → List ℕ → Next
naming s a access (Leaf Name) at text = goes (Have (member_of a access at text)) s
naming s a access _ at text = None

-- a token where a tag stands
abbrev pub tagging : List Frame → Place → Symbol → List ℕ → Next
tagging s begun (Leaf Name) text = goes (Typing (Front 0)) (frame.Typed begun (Struct text) ∷ s)
tagging s begun _ text = None

-- the declarator that was read
abbrev pub part_of : Part → Option Built
part_of (Front n) = stars_of n
part_of (Back d) = d

-- a `*`, which stands before all else of a declarator
abbrev pub starred : Part → List Frame → Next
starred (Front n) s = goes (Typing (Front (n + 1))) s
starred (Back d) s = None

-- a `(` behind them
abbrev pub nested : Part → List Frame → Next
nested (Front n) s = goes (Typing (Front 0)) (frame.Nest n ∷ s)
nested (Back d) s = None

-- nothing of a declarator was read
abbrev pub is_empty : Part → Bool
is_empty (Front n) = nat_eq n 0
is_empty (Back d) = false

-- `int` right behind `unsigned`
abbrev pub two_words : Option Place → List Frame → Next
two_words None s = None
two_words (Some begun) s = goes (Typing (Front 0)) (frame.Typed begun UnsignedInt ∷ s)

abbrev pub worded : Part → Option Place → List Frame → Next
worded part begun s = if is_empty part then two_words begun s else None

-- the ) of a declarator in parentheses, which has tokens
abbrev pub unnested : ℕ → Part → List Frame → Next
unnested m part s = if is_empty part then None else goes (Typing (Back (around_of m (part_of part)))) s

-- the ) of a type's name: a cast, or the end of `sizeof`
abbrev pub closed_type : Option Place → Place → Spec → Option Built → List Frame → Next
closed_type (Some operator) begun spec d s = goes (Have (sizeof_type_of operator spec d)) (drop 1 s)
closed_type None begun spec d s = if nat_le (need s) 14 then goes Want (frame.Cast begun spec d ∷ s) else None

abbrev pub closed_name : NameCloser → Part → List Frame → Next
closed_name (Names begun spec) part s = closed_type (sizeof_place s) begun spec (part_of part) s
closed_name (Nests m) part s = unnested m part s
closed_name NoName part s = None

-- a token in a type's name
abbrev pub typing : List Frame → Part → Symbol → Next
typing s part (Binary Multiply) = starred part s
typing s part (Word a_word.Int) = worded part (unsigned_part (first s)) (drop 1 s)
typing s part OpenParen = nested part s
typing s part OpenBracket = goes Want (frame.Bound (part_of part) ∷ s)
typing s part CloseParen = closed_name (name_closer_of (first s)) part (drop 1 s)
typing s part _ = None

-- a comma behind an argument
abbrev pub argued : Option GrownCall → Grown → List Frame → Next
argued None a s = None
argued (Some c) a s = goes Want (frame.Call (with_of c a) ∷ s)

abbrev pub argument : BinaryOp → Grown → List Frame → Next
argument Comma a s = argued (call_part (first s)) a (drop 1 s)
argument _ a s = None

-- a binary operator behind an expression
abbrev pub joined : BinaryOp → Grown × List Frame → Next
joined op (a, s) = if nat_le (left_of op) a.level && nat_le (need s) (level_of op) then goes Want (frame.Binary op a ∷ s) else argument op a s

abbrev pub joining : List Frame → Grown → BinaryOp → Next
joining s g op = joined op (reduce (ends_of op) g s)

-- a ? behind an expression
abbrev pub chosen : Grown × List Frame → Next
chosen (a, s) = if nat_le 4 a.level && nat_le (need s) 3 then goes Want (frame.Then a ∷ s) else None

abbrev pub choosing : List Frame → Grown → Next
choosing s g = chosen (reduce 4 g s)

abbrev pub chosen_first : Option Grown → Grown → List Frame → Next
chosen_first None g s = None
chosen_first (Some a) g s = goes Want (frame.Else a g ∷ s)

abbrev pub in_parens : Closer → Grown → List Frame → Next
in_parens NoParen g s = None
in_parens (Parens begun) g s = goes (Have (paren_of begun g)) s
in_parens (Calls c) g s = goes (Have (called_of (with_of c g))) s

abbrev pub in_brackets : Square → Grown → List Frame → Next
in_brackets NoBracket g s = None
in_brackets (Indexes a) g s = goes (Have (index_of a g)) s
in_brackets (Bounds d) g s = goes (Typing (Back (bounded_of d g.tree))) s

-- a :, ) or ] behind an expression
abbrev pub closed : Symbol → Grown × List Frame → Next
closed Colon (g, s) = chosen_first (then_part (first s)) g (drop 1 s)
closed CloseParen (g, s) = in_parens (closer_of (first s)) g (drop 1 s)
closed CloseBracket (g, s) = in_brackets (square_of (first s)) g (drop 1 s)
closed _ (g, s) = None

abbrev pub closing : List Frame → Grown → Symbol → Next
closing s g symbol = closed symbol (reduce 1 g s)

-- a token behind an expression
abbrev pub having : List Frame → Grown → Symbol → Next
having s g (Binary op) = joining s g op
having s g Question = choosing s g
having s g OpenBracket = if nat_lt g.level 16 then None else goes Want (frame.Index g ∷ s)
having s g (Selects access) = if nat_lt g.level 16 then None else goes (Naming g access) s
having s g (Step step) = if nat_lt g.level 16 then None else goes (Have (after_of g step)) s
having s g OpenParen = if nat_lt g.level 16 then None else goes Want (frame.Begun (call_of g) ∷ s)
having s g symbol = closing s g symbol

abbrev pub shift_mode : Mode → List Frame → Symbol → Place → List ℕ → Next
shift_mode Want s symbol at text = wanting s symbol at text
shift_mode (Have g) s symbol at text = having s g symbol
shift_mode (Naming g access) s symbol at text = naming s g access symbol at text
shift_mode (Typing part) s symbol at text = typing s part symbol
shift_mode (Tagging begun) s symbol at text = tagging s begun symbol text

-- one token more
abbrev pub shift : Parser → Terminal → Next
shift p t = shift_mode p.mode p.stack t.symbol t.place t.text

-- all tokens
abbrev pub run : List Terminal → Parser → Next
run [] p = Some p
run (t ∷ ts) p = elim (shift p t) [ None ↦ None | Some q ↦ run ts q ]

-- what was read, where it is whole
-- the level is asked for again, so that nothing has to be known of the stack
abbrev pub ended : Least → Grown × List Frame → Option Grown
ended least (g, s) = if is_start (first s) && nat_le (least_of least) g.level then Some g else None

abbrev pub whole_mode : Least → Mode → List Frame → Option Grown
whole_mode least (Have g) s = ended least (reduce 1 g s)
whole_mode least _ s = None

abbrev pub whole : Least → Next → Option Grown
whole least None = None
whole least (Some p) = whole_mode least p.mode p.stack

-- nothing was read of an expression of this level
abbrev pub start : Least → Parser
start least = record { stack = frame.Start least ∷ []; mode = Want }

abbrev pub reading : Least → List Terminal → Option Grown
reading least ts = whole least (run ts (start least))

-- an answer is what was read, unless memory ran out
abbrev pub Reads : Result Grown SynFault → Option Grown → Type 0
Reads (Ok g) read = read ≡ Some g
Reads (Err (Syntax _)) read = read ≡ None
Reads (Err (Deep _)) read = ⊥
Reads (Err NoMemory) read = Unit {0}
