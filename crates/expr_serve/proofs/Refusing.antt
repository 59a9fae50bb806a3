-- Why a text is not served.
use Rattle.std.proofs.Common.{◌≡◌, ◌≢◌, inl, inr, refl, sym, subst, ℕ, ◌≤◌, true, false, List, None, Result, Ok, Err}
use Rattle.std.specs.Prelude.{IfOk}
use Rattle.c_lex.specs.declared.token.Token.{Token}
use Rattle.c_lex.specs.Grammar.{HasTokens}
use Rattle.c_symbol.specs.Terminals.{terminals}
use Rattle.c_trees.specs.Expressions.{Tree}
use Rattle.c_expr.specs.Grammar.{Spells}
use Rattle.c_tree.specs.declared.types.CType.{CType}
use Rattle.c_tree.specs.declared.types.StructDef.{StructDef}
use Rattle.c_tree.specs.declared.typed.Typed.{Typed}
use Rattle.c_tree.specs.Types.{type_of}
use Rattle.c_typing.specs.Plain.{plain}
use Rattle.c_judge.specs.declared.symbol.Symbol.{Symbol}
use Rattle.c_judge.specs.declared.check.Mode.{Mode}
use Rattle.c_judge.specs.declared.fault.ExprFault.{ExprFault}
use Rattle.c_judge.specs.declared.fault.ExprFault.TheVariants.{Scope, Rule, Forbidden, NoMemory}
use Rattle.c_judge.specs.Session.{session}
use Rattle.c_judge.specs.Checks.{Checks}
use Rattle.expr_serve.specs.declared.fault.Refuse.{Refuse}
use Rattle.expr_serve.specs.declared.fault.Refuse.TheVariants.{Syntax as NoExpression, Scope as NotInScope, Rule as BrokenRule, NoMemory as Wanting}
use Rattle.expr_serve.specs.declared.serving.Server.{Server}
use Rattle.expr_serve.specs.Texts.{AreExpression, IsLine}
use Rattle.expr_serve.specs.Codes.{text_of}
use Rattle.expr_serve.proofs.Lines.{text_line}
use Rattle.expr_serve.proofs.Texts.{none_by_tokens}
use Rattle.expr_serve.specs.Serving.{HasTree, IsByGrammar, IsParsed, IsAnswered, IsRefused, refusal_of, given_type, IsServed, asked, IsTurn}

-- what is read of a text's tokens is read of the text
pub parsed_tree : (text : List ℕ) (ts : List Token) (r : Result Tree Refuse) → HasTokens text ts → IfOk r (λ e. (h : ℕ) × (h ≤ 64) × Spells (terminals text ts) e h)
    → (r ≡ Err NoExpression → AreExpression (terminals text ts) → ⊥) → IsByGrammar r → IsParsed text r
parsed_tree text ts (Ok e) has read none by = (ts, read.0, has, read.1, read.2)
parsed_tree text ts (Err NoExpression) has read none by = λ few is. none_by_tokens text ts has (none refl) is
parsed_tree text ts (Err NotInScope) has read none by = absurd by
parsed_tree text ts (Err BrokenRule) has read none by = absurd by
parsed_tree text ts (Err Wanting) has read none by = tt

-- what the checker answers is why the text is refused
pub refused_by : (text : List ℕ) (m : Mode) (names : List Symbol) (defs : List StructDef) (tree : Tree) (f : ExprFault) → HasTree text tree → Checks (session names defs) m tree (Err f) → IsRefused text m names defs (refusal_of f)
refused_by text m names defs tree (Scope name) read checks = (name, (tree, read, checks))
refused_by text m names defs tree (Rule rule) read checks = inl (rule, (tree, read, checks))
refused_by text m names defs tree (Forbidden at) read checks = inr (at, (tree, read, checks))
refused_by text m names defs tree NoMemory read checks = tt

pub out_of_scope : (s : Server) → s.is_unknown ≡ true → IsTurn s (Err NotInScope)
out_of_scope s e = rw e refl

pub refused_turn : (s : Server) (r : Refuse) → s.is_unknown ≡ false → (r ≢ Wanting → asked s ≡ None) → IsRefused s.text s.mode s.symbols.items s.defs.items r → IsTurn s (Err r)
refused_turn s r e all why = rw e (all, why)

pub wanting_turn : (s : Server) → s.is_unknown ≡ false → IsTurn s (Err Wanting)
wanting_turn s e = refused_turn s Wanting e (λ n. absurd (n refl)) tt

-- ---- of what a server holds

module _ (m : Mode) {text text' : List ℕ} {names names' : List Symbol} {defs defs' : List StructDef} (e : text ≡ text') (n : names ≡ names') (d : defs ≡ defs') where
  pub held_refused : (r : Refuse) → IsRefused text m names defs r → IsRefused text' m names' defs' r
  held_refused r why =
      subst (λ (x : List ℕ). IsRefused x m names' defs' r) e (subst (λ (x : List Symbol). IsRefused text m x defs' r) n (subst (λ (x : List StructDef). IsRefused text m names x r) d why))

  pub held_served : (typed : Typed) (postscript : List ℕ) (t : CType) → IsAnswered text m names defs (Ok typed) → postscript ≡ text_of names defs m typed → plain t ≡ given_type m (type_of typed)
      → IsServed text' m names' defs' postscript t
  held_served typed postscript t answered written ctype =
      subst (λ (x : List ℕ). IsServed x m names' defs' postscript t) e (subst (λ (x : List Symbol). IsServed text m x defs' postscript t) n
      (subst (λ (x : List StructDef). IsServed text m names x postscript t) d (record { typed = typed; checks = answered; written = written; line = subst IsLine (sym written) (text_line names defs m typed); ctype = ctype })))
