-- Reading a declarator token by token, with what is begun on a stack. It ends before a token that cannot be part of it.
use Rattle.std.specs.Prelude.{ℕ, ◌+◌, drop, ◌&&◌, not, Bool, true, false, if◌then◌else◌, List, [], ◌∷◌, Option, Some, None}
use Rattle.c_lex.specs.declared.token.Place.{Place}
use Rattle.c_lex.specs.declared.keyword.Keyword.TheVariants.{Register}
use Rattle.c_symbol.specs.declared.terminal.Terminal.{Terminal}
use Rattle.c_symbol.specs.declared.symbol.LeafKind.TheVariants.{Name}
use Rattle.c_symbol.specs.declared.symbol.BinaryOp.TheVariants.{Comma, Multiply}
use Rattle.c_symbol.specs.declared.symbol.TypeWord.TheVariants as a_word
use Rattle.c_symbol.specs.declared.symbol.Symbol.{Symbol}
use Rattle.c_symbol.specs.declared.symbol.Symbol.TheVariants.{Leaf, Word, Binary, Keyword, Struct as StructWord, OpenParen, CloseParen, OpenBracket, CloseBracket}
use Rattle.c_expr.specs.First.{first}
use Rattle.c_expr.specs.Machine.{start}
use Rattle.c_expr.specs.Inside.{offer}
use Rattle.c_expr.specs.Grammar.{spec_of}
use Rattle.c_trees.specs.Expressions.{Tree}
use Rattle.c_expr.specs.declared.frame.Least.TheVariants.{Constant}
use Rattle.c_expr.specs.declared.grown.Grown.{Grown}
use Rattle.c_expr.specs.declared.inside.Offered.{Offered}
use Rattle.c_expr.specs.declared.inside.Offered.TheVariants as offered
use Rattle.c_trees.specs.declared.expression.Spec.{Spec}
use Rattle.c_trees.specs.declared.expression.Spec.TheVariants.{Unsigned, UnsignedInt, Void, Struct}
use Rattle.c_expr.specs.declared.state.Parser.{Parser}
use Rattle.c_trees.specs.Declarators.{DeclaratorTree}
use Rattle.c_declaration.specs.Grammar.{is_void_type}
use Rattle.c_declaration.specs.declared.built.Built.{Built}
use Rattle.c_declaration.specs.declared.front.Stars.{Stars}
use Rattle.c_declaration.specs.declared.state.Taking.{Taking}
use Rattle.c_declaration.specs.declared.state.Frame.{Frame}
use Rattle.c_declaration.specs.declared.state.Frame.TheVariants.{Nest, Parameter}
use Rattle.c_declaration.specs.declared.state.Bounded.{Bounded}
use Rattle.c_declaration.specs.declared.state.Bounded.TheVariants as before
use Rattle.c_declaration.specs.declared.state.Mode.{Mode}
use Rattle.c_declaration.specs.declared.state.Mode.TheVariants.{Front, Direct, Unnamed, Bounding, Bound, Parameters, Registered, Tagging}
use Rattle.c_declaration.specs.declared.state.DeclaratorParser.{DeclaratorParser}
use Rattle.c_declaration.specs.declared.step.Step.{Step}
use Rattle.c_declaration.specs.declared.step.Step.TheVariants.{Goes, Ends}
use Rattle.c_declaration.specs.Grown.{expr_of, name_of, parens_of, array_of, open_array_of, function_of, taking_of, pointed, named_of, unnamed_of, stars_of, around_of, bounded_of, unbounded_of}

-- the next state, the declarator, or none
abbrev pub Next : Type 0
Next = Option (Step DeclaratorParser (Option (Built DeclaratorTree)))

abbrev pub goes : Mode → List Frame → Next
goes mode s = Some (Goes (record { stack = s; mode = mode }))

-- one `*` more
abbrev pub starred : Option Stars → Place → Option Stars
starred None at = Some (record { place = at; count = 1 })
starred (Some s) at = Some (record { place = s.place; count = s.count + 1 })

abbrev pub count_of : Option Stars → ℕ
count_of None = 0
count_of (Some s) = s.count

abbrev pub is_none : Option Stars → Bool
is_none None = true
is_none (Some s) = false

-- whether a declarator without a name may stand in a frame: in a parameter without `register`, also inside parentheses
abbrev pub unnamed_in : Frame → Bool
unnamed_in (Nest _ _ b) = b
unnamed_in (Parameter _ _ r _) = not r

abbrev pub may_be_unnamed : Option Frame → Bool
may_be_unnamed None = false
may_be_unnamed (Some f) = unnamed_in f

-- `int` behind `unsigned`
abbrev pub both_words : Spec → Option Spec
both_words Unsigned = Some UnsignedInt
both_words _ = None

abbrev pub spec_is : Option Spec → Taking → Place → Bool → List Frame → Next
spec_is None t at r s = None
spec_is (Some spec) t at r s = goes (Front None) (Parameter t at r spec ∷ s)

abbrev pub worded_in : Frame → List Frame → Next
worded_in (Nest _ _ _) s = None
worded_in (Parameter t at r spec) s = spec_is (both_words spec) t at r s

abbrev pub worded : Option Frame → List Frame → Next
worded None s = None
worded (Some f) s = worded_in f s

-- a function with the parameter that was read
abbrev pub taken : Taking → Option (Built DeclaratorTree) → Taking
taken t p = record { first = false; stars = t.stars; function = taking_of t.function p }

-- the ) of parameters
abbrev pub called : Taking → List Frame → Next
called t s = goes (Direct t.stars t.function) s

-- a ) behind a declarator with a name, and a comma
abbrev pub named_closed : Frame → Option (Built DeclaratorTree) → List Frame → Next
named_closed (Nest stars at _) d s = goes (Direct stars (parens_of at d)) s
named_closed (Parameter t at r spec) d s = called (taken t (named_of at r spec d)) s

abbrev pub named_divided : Frame → Option (Built DeclaratorTree) → List Frame → Next
named_divided (Nest _ _ _) d s = None
named_divided (Parameter t at r spec) d s = goes (Parameters (taken t (named_of at r spec d))) s

-- any token behind one; where nothing is begun it has ended
abbrev pub behind_named : Option Frame → Symbol → Option (Built DeclaratorTree) → List Frame → Next
behind_named None symbol d s = Some (Ends d)
behind_named (Some f) CloseParen d s = named_closed f d s
behind_named (Some f) (Binary Comma) d s = named_divided f d s
behind_named (Some f) _ d s = None

-- the same behind a declarator without a name, of which `none` tells whether it is without tokens
-- `void` as the only parameter stands for none
abbrev pub void_alone : Taking → Bool → Spec → Bool
void_alone t none spec = t.first && (none && is_void_type spec)

abbrev pub unnamed_last : Bool → Taking → Option (Built DeclaratorTree) → List Frame → Next
unnamed_last alone t p s = if alone then called t s else called (taken t p) s

abbrev pub unnamed_closed : Frame → Bool → Option (Built Tree) → List Frame → Next
unnamed_closed (Nest stars _ b) none a s = if b && not none then goes (Unnamed (around_of (count_of stars) a)) s else None
unnamed_closed (Parameter t at r spec) none a s = if r then None else unnamed_last (void_alone t none spec) t (unnamed_of at spec a) s

abbrev pub unnamed_divided : Frame → Option (Built Tree) → List Frame → Next
unnamed_divided (Nest _ _ _) a s = None
unnamed_divided (Parameter t at r spec) a s = if r then None else goes (Parameters (taken t (unnamed_of at spec a))) s

abbrev pub behind_unnamed : Option Frame → Symbol → Bool → Option (Built Tree) → List Frame → Next
behind_unnamed None symbol none a s = None
behind_unnamed (Some f) CloseParen none a s = unnamed_closed f none a s
behind_unnamed (Some f) (Binary Comma) none a s = unnamed_divided f a s
behind_unnamed (Some f) _ none a s = None

-- a token behind `*`, a declarator with a name, and one without
abbrev pub fronting : List Frame → Option Stars → Symbol → Place → List ℕ → Next
fronting s stars (Binary Multiply) at text = goes (Front (starred stars at)) s
fronting s stars (Leaf Name) at text = goes (Direct stars (name_of at text)) s
fronting s stars OpenParen at text = goes (Front None) (Nest stars at (may_be_unnamed (first s)) ∷ s)
fronting s stars OpenBracket at text = if may_be_unnamed (first s) then goes (Bounding (before.Unnamed (stars_of (count_of stars)))) s else None
fronting s stars (Word a_word.Int) at text = if is_none stars then worded (first s) (drop 1 s) else None
fronting s stars symbol at text = behind_unnamed (first s) symbol (is_none stars) (stars_of (count_of stars)) (drop 1 s)

abbrev pub directing : List Frame → Option Stars → Option (Built DeclaratorTree) → Symbol → Next
directing s stars d OpenBracket = goes (Bounding (before.Named stars d)) s
directing s stars d OpenParen = goes (Parameters (record { first = true; stars = stars; function = function_of d })) s
directing s stars d symbol = behind_named (first s) symbol (pointed stars d) (drop 1 s)

abbrev pub unnaming : List Frame → Option (Built Tree) → Symbol → Next
unnaming s a OpenBracket = goes (Bounding (before.Unnamed a)) s
unnaming s a symbol = behind_unnamed (first s) symbol false a (drop 1 s)

-- the ] behind a bound, and without one
abbrev pub bounded : Bounded → Option (Built Tree) → List Frame → Next
bounded (before.Named stars d) e s = goes (Direct stars (array_of d e)) s
bounded (before.Unnamed a) e s = goes (Unnamed (bounded_of a e)) s

abbrev pub unbounded : Bounded → List Frame → Next
unbounded (before.Named stars d) s = goes (Direct stars (open_array_of d)) s
unbounded (before.Unnamed a) s = goes (Unnamed (unbounded_of a)) s

abbrev pub bound_read : List Frame → Bounded → Symbol → Grown → Next
bound_read s b CloseBracket g = bounded b (expr_of g.tree) s
bound_read s b _ g = None

abbrev pub bound_offered : List Frame → Bounded → Symbol → Option Offered → Next
bound_offered s b symbol None = None
bound_offered s b symbol (Some (offered.Goes q)) = goes (Bound b q) s
bound_offered s b symbol (Some (offered.Ends g)) = bound_read s b symbol g

abbrev pub bounding_by : List Frame → Bounded → Parser → Terminal → Next
bounding_by s b p t = bound_offered s b t.symbol (offer Constant p t)

abbrev pub is_bracket : Symbol → Bool
is_bracket CloseBracket = true
is_bracket _ = false

abbrev pub bounding : List Frame → Bounded → Terminal → Next
bounding s b t = if is_bracket t.symbol then unbounded b s else bounding_by s b (start Constant) t

-- a parameter's type
abbrev pub typed : List Frame → Taking → Place → Bool → Symbol → Next
typed s t at r (Word w) = goes (Front None) (Parameter t at r (spec_of w) ∷ s)
typed s t at r StructWord = goes (Tagging t at r) s
typed s t at r _ = None

abbrev pub parameters : List Frame → Taking → Symbol → Place → Next
parameters s t CloseParen at = if t.first then called t s else None
parameters s t (Keyword Register) at = goes (Registered t at) s
parameters s t symbol at = typed s t at false symbol

abbrev pub tagging : List Frame → Taking → Place → Bool → Symbol → List ℕ → Next
tagging s t at r (Leaf Name) text = goes (Front None) (Parameter t at r (Struct text) ∷ s)
tagging s t at r _ text = None

abbrev pub shift_mode : Mode → List Frame → Terminal → Next
shift_mode (Front stars) s t = fronting s stars t.symbol t.place t.text
shift_mode (Direct stars d) s t = directing s stars d t.symbol
shift_mode (Unnamed a) s t = unnaming s a t.symbol
shift_mode (Bounding b) s t = bounding s b t
shift_mode (Bound b p) s t = bounding_by s b p t
shift_mode (Parameters f) s t = parameters s f t.symbol t.place
shift_mode (Registered f at) s t = typed s f at true t.symbol
shift_mode (Tagging f at r) s t = tagging s f at r t.symbol t.text

-- one token more, or the declarator before it
abbrev pub declarator_offer : DeclaratorParser → Terminal → Next
declarator_offer p t = shift_mode p.mode p.stack t

-- nothing was read
abbrev pub declarator_start : DeclaratorParser
declarator_start = record { stack = []; mode = Front None }
