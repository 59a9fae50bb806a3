-- An expression inside something else: it goes on while it can, and ends at a token that may stand behind it.
use Rattle.std.specs.Prelude.{◌≡◌, ℕ, nat_le, ◌&&◌, not, if◌then◌else◌, Bool, true, false, List, [], ◌∷◌, ◌++◌, Option, Some, None, Result, Ok, Err}
use Rattle.c_lex.specs.declared.token.Place.{Place}
use Rattle.c_symbol.specs.declared.terminal.Terminal.{Terminal}
use Rattle.c_symbol.specs.declared.symbol.BinaryOp.TheVariants.{Comma}
use Rattle.c_symbol.specs.declared.symbol.Symbol.{Symbol}
use Rattle.c_symbol.specs.declared.symbol.Symbol.TheVariants.{Binary, Colon, CloseParen, CloseBracket, CloseBrace, Semicolon}
use Rattle.c_trees.specs.Expressions.{Tree}
use Rattle.c_expr.specs.Grammar.{IsExpr}
use Rattle.c_expr.specs.declared.grown.Grown.{Grown}
use Rattle.c_expr.specs.declared.frame.Least.{Least}
use Rattle.c_expr.specs.declared.frame.Least.TheVariants.{Expression}
use Rattle.c_expr.specs.declared.state.Parser.{Parser}
use Rattle.c_expr.specs.declared.state.SynFault.{SynFault}
use Rattle.c_expr.specs.declared.state.SynFault.TheVariants.{Syntax, Deep, NoMemory}
use Rattle.c_expr.specs.declared.inside.Offered.{Offered}
use Rattle.c_expr.specs.declared.inside.Offered.TheVariants.{Goes, Ends}
use Rattle.c_expr.specs.Frames.{least_of, need, is_start}
use Rattle.c_expr.specs.First.{first}
use Rattle.c_expr.specs.declared.frame.Frame.{Frame}
use Rattle.c_expr.specs.Grown.{cut}
use Rattle.c_expr.specs.Machine.{Next, joined, closed, ended, shift, whole, start}

-- a comma stands behind an assignment or a constant expression, but is an operator in an expression
abbrev pub comma_closes : Least → Bool
comma_closes Expression = false
comma_closes _ = true

-- whether a token may stand behind an expression of this level
abbrev pub closes : Least → Symbol → Bool
closes least Colon = true
closes least CloseParen = true
closes least CloseBracket = true
closes least CloseBrace = true
closes least Semicolon = true
closes least (Binary Comma) = comma_closes least
closes least _ = false

abbrev pub ends : Bool → Option Grown → Option Offered
ends closing None = None
ends closing (Some g) = if closing then Some (Ends g) else None

abbrev pub offered : Bool → Option Grown → Next → Option Offered
offered closing g (Some q) = Some (Goes q)
offered closing g None = ends closing g

-- the same for a token that may stand behind, where all of the expression is ended
abbrev pub takes_comma : List Frame → Symbol → Bool
takes_comma s (Binary _) = nat_le (need s) 1
takes_comma s _ = false

abbrev pub has_ended : List Frame → Symbol → Bool
has_ended s symbol = is_start (first s) && not (takes_comma s symbol)

abbrev pub behind : Symbol → Grown × List Frame → Next
behind (Binary op) r = joined op r
behind symbol r = closed symbol r

abbrev pub wrapped : Next → Option Offered
wrapped None = None
wrapped (Some q) = Some (Goes q)

abbrev pub ends_with : Option Grown → Option Offered
ends_with None = None
ends_with (Some g) = Some (Ends g)

abbrev pub offered_ended : Least → Symbol → Grown × List Frame → Option Offered
offered_ended least symbol (g, s) = if has_ended s symbol then ends_with (ended least (g, s)) else wrapped (behind symbol (g, s))

-- what is read with one token more, or that the expression ends before it
abbrev pub offer : Least → Parser → Terminal → Option Offered
offer least p t = offered (closes least t.symbol) (whole least (Some p)) (shift p t)

abbrev pub Offers : Result Offered SynFault → Option Offered → Type 0
Offers (Ok o) offered = offered ≡ Some o
Offers (Err (Syntax _)) offered = offered ≡ None
Offers (Err (Deep _)) offered = ⊥
Offers (Err NoMemory) offered = Unit {0}

-- the expression at the front, and the tokens behind it
abbrev pub until : Least → List Terminal → Parser → Option (Grown × List Terminal)
until least [] p = None
until least (t ∷ ts) p = elim (offer least p t) [ None ↦ None | Some o ↦ elim o [ Goes q ↦ until least ts q | Ends g ↦ Some (g, t ∷ ts) ] ]

-- the tokens are an expression of this level, which is kept where it is at most 64 high
abbrev pub Keeps : Least → Grown → List Terminal → Type 0
Keeps least g ts = (e : Tree) × (h : ℕ) × IsExpr (least_of least) e g.place h ts × (g.tree ≡ cut e h)

-- an expression before a token that may stand behind it is read, and ends there
abbrev pub EndsThere : Type 0
EndsThere = (least : Least) (e : Tree) (at : Place) (h : ℕ) (ts : List Terminal) → IsExpr (least_of least) e at h ts
    → (t : Terminal) (rest : List Terminal) → closes least t.symbol ≡ true
    → (g : Grown) × (until least (ts ++ t ∷ rest) (start least) ≡ Some (g, t ∷ rest)) × (g.place ≡ at) × (g.tree ≡ cut e h)

-- what is read before the tokens that are left is an expression
abbrev pub EndsBehind : Type 0
EndsBehind = (least : Least) (all : List Terminal) (g : Grown) (rest : List Terminal) → until least all (start least) ≡ Some (g, rest)
    → (ts : List Terminal) × (all ≡ ts ++ rest) × Keeps least g ts
