-- Where each name that a text mentions was answered, each is in scope.
use Rattle.std.proofs.Common.{◌≡◌, refl, sym, subst, ◌∙◌, ℕ, suc, Bool, true, false, ◌||◌, if◌then◌else◌, bytes_eq, List, [], ◌∷◌, ◌++◌, map, Option, Some, None, Err}
use Rattle.std.specs.List.{list_any}
use Rattle.c_symbol.specs.declared.symbol.LeafKind.{LeafKind}
use Rattle.c_symbol.specs.declared.symbol.LeafKind.TheVariants as leaf
use Rattle.c_lex.proofs.Lexing.{one_list}
use Rattle.c_symbol.specs.Terminals.{terminals}
use Rattle.c_trees.specs.Expressions.{Tree, Leaf, Paren, Index, Call, With, Member, After, Prefix, SizeofType, Cast, Binary, Choice, Stars, Around, Bounded, Unbounded}
use Rattle.c_expr.specs.Grammar.{Spells}
use Rattle.c_expr.proofs.Exact.{one}
use Rattle.c_tree.specs.declared.types.StructDef.{StructDef}
use Rattle.c_names.specs.declared.mention.Mention.{Mention}
use Rattle.c_names.specs.declared.mention.Mention.TheVariants as mention
use Rattle.c_names.specs.Mentions.{mentions, of_leaf, of_spec}
use Rattle.c_defs.specs.Numbers.{number_from}
use Rattle.c_judge.specs.declared.symbol.Symbol.{Symbol}
use Rattle.c_judge.specs.Forms.{unknown, unknown_leaf, unless_numbered, first_of}
use Rattle.c_judge.specs.Session.{session, symbol_name}
use Rattle.expr_serve.specs.declared.fault.Refuse.TheVariants.{Scope}
use Rattle.expr_serve.specs.declared.serving.Server.{Server}
use Rattle.expr_serve.specs.Serving.{HasTree, AreMentions, is_known, is_named, first_open, EndsBy, IsTurn}

by_first : (b : Bool) (m : Mention) (r : Option Mention) → (if b then r else Some m) ≡ None → (b ≡ true) × (r ≡ None)
by_first true m r e = (refl, e)
by_first false m r e = cc

first_known : (b : Bool) (m : Mention) (r : Option Mention) → b ≡ true → r ≡ None → (if b then r else Some m) ≡ None
first_known true m r is e = e
first_known false m r is e = cc

both : (a b : Option (List ℕ)) → a ≡ None → b ≡ None → first_of a b ≡ None
both a b p q = rw (p, q) refl

by_name : (b any : Bool) (n : ℕ) (o : Option ℕ) (text : List ℕ) → (b || any) ≡ true → (any ≡ true → unless_numbered text o ≡ None) → unless_numbered text (if b then Some n else o) ≡ None
by_name true any n o text e rest = refl
by_name false any n o text e rest = rest e

numbered : (n : ℕ) (names : List Symbol) (text : List ℕ) → list_any (is_named text) names ≡ true → unless_numbered text (number_from n (map symbol_name names) text) ≡ None
numbered n [] text e = cc
numbered n (x ∷ xs) text e = by_name (bytes_eq x.name text) (list_any (is_named text) xs) n (number_from (suc n) (map symbol_name xs) text) text e (numbered (suc n) xs text)

module _ (names : List Symbol) (defs : List StructDef) where
  abbrev AreKnown : List Mention → Type 0
  AreKnown ms = first_open ms names defs ≡ None

  parts : (ms rest : List Mention) → AreKnown (ms ++ rest) → AreKnown ms × AreKnown rest
  parts [] rest e = (refl, e)
  parts (m ∷ ms) rest e =
      let h = by_first (is_known m names defs) m (first_open (ms ++ rest) names defs) e in
      let p = parts ms rest h.1 in
      (first_known (is_known m names defs) m (first_open ms names defs) h.0 p.0, p.1)

  leaf_known : (kind : LeafKind) (text : List ℕ) → AreKnown (of_leaf kind text) → unknown_leaf (session names defs) kind text ≡ None
  leaf_known leaf.Name text e = numbered 0 names text (by_first (list_any (is_named text) names) (mention.Name text) None e).0
  leaf_known (leaf.Constant n) text e = refl
  leaf_known (leaf.Character n) text e = refl
  leaf_known leaf.Text text e = refl

  -- each name that was answered is in scope
  pub in_scope : (e : Tree) → AreKnown (mentions e) → unknown (session names defs) e ≡ None
  in_scope (Leaf _ kind text) k = leaf_known kind text k
  in_scope (Paren _ a) k = in_scope a k
  in_scope (Index _ a b) k = let p = parts (mentions a) (mentions b) k in both _ _ (in_scope a p.0) (in_scope b p.1)
  in_scope (Call _ f) k = in_scope f k
  in_scope (With c a) k = let p = parts (mentions c) (mentions a) k in both _ _ (in_scope c p.0) (in_scope a p.1)
  in_scope (Member _ a _ _ _) k = in_scope a k
  in_scope (After _ a _) k = in_scope a k
  in_scope (Prefix _ _ a) k = in_scope a k
  in_scope (SizeofType _ s d) k = in_scope d (parts (of_spec s) (mentions d) k).1
  in_scope (Cast _ s d a) k = let p = parts (mentions d) (mentions a) (parts (of_spec s) (mentions d ++ mentions a) k).1 in both _ _ (in_scope d p.0) (in_scope a p.1)
  in_scope (Binary _ _ a b) k = let p = parts (mentions a) (mentions b) k in both _ _ (in_scope a p.0) (in_scope b p.1)
  in_scope (Choice _ c a b) k =
      let p = parts (mentions c) (mentions a ++ mentions b) k in
      let q = parts (mentions a) (mentions b) p.1 in
      both _ _ (in_scope c p.0) (both _ _ (in_scope a q.0) (in_scope b q.1))
  in_scope (Stars _) k = refl
  in_scope (Around _ d) k = in_scope d k
  in_scope (Bounded d e) k = let p = parts (mentions d) (mentions e) k in both _ _ (in_scope d p.0) (in_scope e p.1)
  in_scope (Unbounded d) k = in_scope d k

-- a text has one tree
one_tree : (text : List ℕ) (a b : Tree) → HasTree text a → HasTree text b → a ≡ b
one_tree text a b (ts, h, has, low, s) (us, k, has', low', s') =
    let same : us ≡ ts = one_list has'.0 has.0 in
    (one (terminals text ts) a b h k low s (subst (λ vs. Spells (terminals text vs) b k) same s')).0

ends : (b : Bool) (s : Server) → AreMentions s.text s.mentions.items → EndsBy b s Scope → b ≡ true
ends true s m e = refl
ends false s (tree, has, are) (all, (name, (tree', has', checks))) =
    let answered : first_open (mentions tree) s.symbols.items s.defs.items ≡ None = subst (λ ms. first_open ms s.symbols.items s.defs.items ≡ None) are (all (λ q. cc)) in
    let known : unknown (session s.symbols.items s.defs.items) tree' ≡ None =
    subst (λ t. unknown (session s.symbols.items s.defs.items) t ≡ None) (one_tree s.text tree tree' has has') (in_scope s.symbols.items s.defs.items tree answered) in
    let not : None ≡ Some name = sym known ∙ checks in
    cc

-- a server that asks for what its text mentions refuses for the scope only where a name was answered to be none
pub scope_answered : (s : Server) → AreMentions s.text s.mentions.items → IsTurn s (Err Scope) → s.is_unknown ≡ true
scope_answered s m e = ends s.is_unknown s m e
