-- A text has one reading.
use Rattle.std.proofs.Common.{◌≡◌, ◌<◌, ℕ, List, length, ap, subst, Err, arith}
use Rattle.c_lex.specs.declared.token.Token.{Token}
use Rattle.c_lex.specs.declared.token.Place.{Place}
use Rattle.c_lex.specs.declared.token.LexFault.TheVariants.{TooMany}
use Rattle.c_lex.specs.Grammar.{Faults, start, HasTokens, HasFault}
use Rattle.c_lex.proofs.Lexing.{one_list, not_both}
use Rattle.c_symbol.specs.declared.terminal.Terminal.{Terminal}
use Rattle.c_symbol.specs.Terminals.{terminals}
use Rattle.c_trees.specs.Expressions.{Tree}
use Rattle.c_expr.specs.Grammar.{Spells}
use Rattle.c_expr.specs.declared.state.SynFault.{SynFault}
use Rattle.c_expr.specs.declared.state.SynFault.TheVariants.{Syntax, Deep}
use Rattle.c_expr.specs.Parses.{Parses}
use Rattle.c_expr.proofs.Exact.{one}
use Rattle.expr_serve.specs.Texts.{AreExpression, IsExpression}

pub none_with_fault : (text : List ℕ) (at : ℕ) → Faults start text at → (ts : List Token) → HasTokens text ts → ⊥
none_with_fault text at f ts t = not_both t.0 f

pub none_too_many : (text : List ℕ) → HasFault text TooMany → (ts : List Token) → HasTokens text ts → ⊥
none_too_many text (us, l, m) ts (k, few) = let e : length ts ≡ length us = ap length (one_list k l) in omega (arith, e, m, few)

pub none_deep : (ts : List Terminal) (e : Tree) (h : ℕ) → 64 < h → Spells ts e h → AreExpression ts → ⊥
none_deep ts e h high s (d, n, low, r) = let p = one ts d e n h low r s in let q : n ≡ h = p.1 in omega (arith, q, high, low)

-- why a reading of tokens was refused
pub none_by_grammar : (ts : List Terminal) (p : Place) (f : SynFault) → f ≡ Syntax p → Parses (Err f) ts → AreExpression ts → ⊥
none_by_grammar ts p f is h (d, n, low, r) = let none : Parses (Err (Syntax p)) ts = subst (λ g. Parses (Err g) ts) is h in none d n r

pub none_by_depth : (ts : List Terminal) (p : Place) (f : SynFault) → f ≡ Deep p → Parses (Err f) ts → AreExpression ts → ⊥
none_by_depth ts p f is h low = let high : Parses (Err (Deep p)) ts = subst (λ g. Parses (Err g) ts) is h in none_deep ts high.0 high.1 high.2 high.3 low

-- where the tokens of a text are no expression, the text is none
pub none_by_tokens : (text : List ℕ) (ts : List Token) → HasTokens text ts → (AreExpression (terminals text ts) → ⊥) → IsExpression text → ⊥
none_by_tokens text ts (k, few) none (us, (l, more), x) = none (subst (λ vs. AreExpression (terminals text vs)) (one_list l k) x)
