-- Tokens that begin no expression or no statement, and those that may stand behind an expression.
use Rattle.std.proofs.Common.{◌≡◌, ℕ, Bool, true, false, List, [], ◌∷◌, Option, Some, None, refl, sym, ◌∙◌, ap}
use Rattle.c_lex.specs.declared.token.Place.{Place}
use Rattle.c_lex.specs.declared.keyword.Keyword.{Keyword}
use Rattle.c_lex.specs.declared.keyword.Keyword.TheVariants as word
use Rattle.c_symbol.specs.declared.terminal.Terminal.{Terminal}
use Rattle.c_symbol.specs.declared.symbol.Symbol.{Symbol}
use Rattle.c_symbol.specs.declared.symbol.Symbol.TheVariants as symbol
use Rattle.c_expr.specs.declared.grown.Grown.{Grown}
use Rattle.c_expr.specs.declared.frame.Least.{Least}
use Rattle.c_expr.specs.declared.frame.Least.TheVariants.{Expression}
use Rattle.c_expr.specs.declared.frame.Frame.TheVariants.{Start}
use Rattle.c_expr.specs.declared.inside.Offered.{Offered}
use Rattle.c_expr.specs.declared.inside.Offered.TheVariants.{Goes, Ends}
use Rattle.c_expr.specs.Machine.{start, wanting}
use Rattle.c_expr.specs.Inside.{closes, offered, offer, until}
use Rattle.c_statement.specs.declared.state.Closer.{Closer}
use Rattle.c_statement.specs.declared.state.Closer.TheVariants as closer
use Rattle.c_statement.specs.declared.state.Frame.{Frame}
use Rattle.c_statement.specs.declared.state.Purpose.TheVariants.{Must}
use Rattle.c_statement.specs.declared.state.Required.TheVariants.{Evaluate}
use Rattle.c_statement.specs.Machine.{is_closer, begins, valued, value_begins, starts_local}

pub true_false : true ≡ false → ⊥
true_false e = cc

-- what is found
abbrev pub got : Grown → List Terminal → Option (Grown × List Terminal)
got g l = Some (g, l)

pub none_found : (g : Grown) (l : List Terminal) → None ≡ got g l → ⊥
none_found g l e = cc

-- whether no expression begins with a token
abbrev pub no_value : Symbol → Bool
no_value (symbol.Word _) = true
no_value symbol.Struct = true
no_value symbol.Colon = true
no_value symbol.CloseParen = true
no_value symbol.OpenBrace = true
no_value symbol.CloseBrace = true
no_value symbol.Semicolon = true
no_value (symbol.Keyword _) = true
no_value _ = false

wants_none : (least : Least) (y : Symbol) → no_value y ≡ true → (at : Place) (text : List ℕ) → wanting (Start least ∷ []) y at text ≡ None
wants_none least (symbol.Word _) e at text = refl
wants_none least symbol.Struct e at text = refl
wants_none least symbol.Colon e at text = refl
wants_none least symbol.CloseParen e at text = refl
wants_none least symbol.OpenBrace e at text = refl
wants_none least symbol.CloseBrace e at text = refl
wants_none least symbol.Semicolon e at text = refl
wants_none least (symbol.Keyword _) e at text = refl
wants_none least _ e at text = absurd (true_false (sym e))

pub offer_none : (least : Least) (t : Terminal) → no_value t.symbol ≡ true → offer least (start least) t ≡ None
offer_none least t e = ap (offered (closes least t.symbol) None) (wants_none least t.symbol e t.place t.text)

pub closer_no_value : (k : Closer) (y : Symbol) → is_closer k y ≡ true → no_value y ≡ true
closer_no_value closer.Semicolon symbol.Semicolon e = refl
closer_no_value closer.Semicolon _ e = absurd (true_false (sym e))
closer_no_value closer.Paren symbol.CloseParen e = refl
closer_no_value closer.Paren _ e = absurd (true_false (sym e))
closer_no_value closer.Colon symbol.Colon e = refl
closer_no_value closer.Colon _ e = absurd (true_false (sym e))

pub closes_closer : (least : Least) (k : Closer) (y : Symbol) → is_closer k y ≡ true → closes least y ≡ true
closes_closer least closer.Semicolon symbol.Semicolon e = refl
closes_closer least closer.Semicolon _ e = absurd (true_false (sym e))
closes_closer least closer.Paren symbol.CloseParen e = refl
closes_closer least closer.Paren _ e = absurd (true_false (sym e))
closes_closer least closer.Colon symbol.Colon e = refl
closes_closer least closer.Colon _ e = absurd (true_false (sym e))

-- what is read from an answer on
abbrev pub answered : Least → Terminal → List Terminal → Option Offered → Option (Grown × List Terminal)
answered least t ts o = elim o [ None ↦ None | Some a ↦ elim a [ Goes q ↦ until least ts q | Ends g ↦ Some (g, t ∷ ts) ] ]

-- an expression's first token begins one
first_by : (least : Least) (t : Terminal) (ts : List Terminal) (g : Grown) (l : List Terminal) → until least (t ∷ ts) (start least) ≡ Some (g, l) → (b : Bool) → no_value t.symbol ≡ b → b ≡ false
first_by least t ts g l k true e = absurd (none_found g l (sym (ap (answered least t ts) (offer_none least t e)) ∙ k))
first_by least t ts g l k false e = refl

pub first_value : (least : Least) (t : Terminal) (ts : List Terminal) (g : Grown) (l : List Terminal) → until least (t ∷ ts) (start least) ≡ Some (g, l) → no_value t.symbol ≡ false
first_value least t ts g l k = first_by least t ts g l k (no_value t.symbol) refl

not_by : (k : Closer) (y : Symbol) → no_value y ≡ false → (b : Bool) → is_closer k y ≡ b → b ≡ false
not_by k y e true c = absurd (true_false (sym (closer_no_value k y c) ∙ e))
not_by k y e false c = refl

pub not_closer : (k : Closer) (y : Symbol) → no_value y ≡ false → is_closer k y ≡ false
not_closer k y e = not_by k y e (is_closer k y) refl

-- a statement that begins with an expression
pub begin_value : (y : Symbol) (s : List Frame) (t : Terminal) → no_value y ≡ false → begins y s t ≡ value_begins (Must Evaluate) s t
begin_value symbol.Semicolon s t e = absurd (true_false e)
begin_value symbol.OpenBrace s t e = absurd (true_false e)
begin_value (symbol.Keyword _) s t e = absurd (true_false e)
begin_value _ s t e = refl

-- tokens that begin no statement
abbrev pub no_statement : Symbol → Bool
no_statement (symbol.Word _) = true
no_statement symbol.Struct = true
no_statement symbol.CloseBrace = true
no_statement (symbol.Keyword word.Register) = true
no_statement (symbol.Keyword word.Else) = true
no_statement _ = false

begins_by : (y : Symbol) (s : List Frame) (t : Terminal) → no_statement y ≡ true → t.symbol ≡ y → begins y s t ≡ None
begins_by (symbol.Word w) s t k e = ap (valued (Must Evaluate) s t.symbol) (offer_none Expression t (ap no_value e))
begins_by symbol.Struct s t k e = ap (valued (Must Evaluate) s t.symbol) (offer_none Expression t (ap no_value e))
begins_by symbol.CloseBrace s t k e = ap (valued (Must Evaluate) s t.symbol) (offer_none Expression t (ap no_value e))
begins_by (symbol.Keyword word.Register) s t k e = refl
begins_by (symbol.Keyword word.Else) s t k e = refl
begins_by _ s t k e = absurd (true_false (sym k))

pub begins_none : (s : List Frame) (t : Terminal) → no_statement t.symbol ≡ true → begins t.symbol s t ≡ None
begins_none s t k = begins_by t.symbol s t k refl

-- a token that begins a statement begins no declaration
pub statement_local : (y : Symbol) → no_statement y ≡ false → starts_local y ≡ false
statement_local (symbol.Word w) e = absurd (true_false e)
statement_local symbol.Struct e = absurd (true_false e)
statement_local (symbol.Keyword word.Register) e = absurd (true_false e)
statement_local _ e = refl
