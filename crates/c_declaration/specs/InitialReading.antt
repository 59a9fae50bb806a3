-- Reading an initializer token by token, with the lists that are open on a stack. It ends before the token behind it.
use Rattle.std.specs.Prelude.{drop, Bool, true, false, if◌then◌else◌, List, [], ◌∷◌, Option, Some, None}
use Rattle.c_symbol.specs.declared.terminal.Terminal.{Terminal}
use Rattle.c_symbol.specs.declared.symbol.BinaryOp.TheVariants.{Comma}
use Rattle.c_symbol.specs.declared.symbol.Symbol.{Symbol}
use Rattle.c_symbol.specs.declared.symbol.Symbol.TheVariants.{Binary, OpenBrace, CloseBrace}
use Rattle.c_expr.specs.First.{first}
use Rattle.c_expr.specs.Machine.{start}
use Rattle.c_expr.specs.Inside.{offer}
use Rattle.c_expr.specs.declared.frame.Least.TheVariants.{Assignment}
use Rattle.c_expr.specs.declared.inside.Offered.{Offered}
use Rattle.c_expr.specs.declared.inside.Offered.TheVariants as offered
use Rattle.c_expr.specs.declared.state.Parser.{Parser}
use Rattle.c_trees.specs.Initializers.{InitialTree}
use Rattle.c_declaration.specs.declared.built.Built.{Built}
use Rattle.c_declaration.specs.declared.state.OpenBraces.{OpenBraces}
use Rattle.c_declaration.specs.declared.state.InitialMode.{InitialMode}
use Rattle.c_declaration.specs.declared.state.InitialMode.TheVariants.{Want, Another, Value, Done}
use Rattle.c_declaration.specs.declared.state.InitialParser.{InitialParser}
use Rattle.c_declaration.specs.declared.step.Step.{Step}
use Rattle.c_declaration.specs.declared.step.Step.TheVariants.{Goes, Ends}
use Rattle.c_declaration.specs.Grown.{expr_of, value_of, braces_of, item_of, closed_of}

abbrev pub Next : Type 0
Next = Option (Step InitialParser (Option (Built InitialTree)))

abbrev pub goes : InitialMode → List OpenBraces → Next
goes mode s = Some (Goes (record { stack = s; mode = mode }))

abbrev pub braces_with : Option (Built InitialTree) → OpenBraces
braces_with i = record { list = i }

-- an initializer that is whole, and the token behind it
abbrev pub done : Option OpenBraces → Symbol → Option (Built InitialTree) → List OpenBraces → Next
done None symbol i s = Some (Ends i)
done (Some f) (Binary Comma) i s = goes Another (braces_with (item_of f.list i) ∷ s)
done (Some f) CloseBrace i s = goes (Done (closed_of (item_of f.list i))) s
done (Some f) _ i s = None

abbrev pub value_offered : List OpenBraces → Symbol → Option Offered → Next
value_offered s symbol None = None
value_offered s symbol (Some (offered.Goes q)) = goes (Value q) s
value_offered s symbol (Some (offered.Ends g)) = done (first s) symbol (value_of (expr_of g.tree)) (drop 1 s)

abbrev pub valuing : List OpenBraces → Parser → Terminal → Next
valuing s p t = value_offered s t.symbol (offer Assignment p t)

abbrev pub is_open_brace : Symbol → Bool
is_open_brace OpenBrace = true
is_open_brace _ = false

abbrev pub wanting : List OpenBraces → Terminal → Next
wanting s t = if is_open_brace t.symbol then goes Want (braces_with (braces_of t.place) ∷ s) else valuing s (start Assignment) t

-- the } behind a comma
abbrev pub closed : Option OpenBraces → List OpenBraces → Next
closed None s = None
closed (Some f) s = goes (Done (closed_of f.list)) s

abbrev pub is_close_brace : Symbol → Bool
is_close_brace CloseBrace = true
is_close_brace _ = false

abbrev pub another : List OpenBraces → Terminal → Next
another s t = if is_close_brace t.symbol then closed (first s) (drop 1 s) else wanting s t

abbrev pub shift_mode : InitialMode → List OpenBraces → Terminal → Next
shift_mode Want s t = wanting s t
shift_mode Another s t = another s t
shift_mode (Value p) s t = valuing s p t
shift_mode (Done i) s t = done (first s) t.symbol i (drop 1 s)

-- one token more, or the initializer before it
abbrev pub initial_offer : InitialParser → Terminal → Next
initial_offer p t = shift_mode p.mode p.stack t

-- nothing was read
abbrev pub initial_start : InitialParser
initial_start = record { stack = []; mode = Want }
