-- A text is one thing at a stopping point.
use Rattle.std.proofs.Common.{◌≡◌, refl, sym, subst, ℕ, List, Option, Some, None, inl, inr}
use Rattle.c_lex.proofs.Lexing.{one_list}
use Rattle.c_symbol.specs.Terminals.{terminals}
use Rattle.c_trees.specs.Expressions.{Tree}
use Rattle.c_expr.specs.Grammar.{Spells}
use Rattle.c_expr.proofs.Exact.{one}
use Rattle.c_tree.specs.declared.typed.Typed.{Typed}
use Rattle.c_tree.specs.declared.rows.Program.{Program}
use Rattle.c_judge.specs.Answers.{Known, Unknown, Broken}
use Rattle.c_judge.specs.Judgement.{Verdict}
use Rattle.c_judge.specs.Checks.{IsKnown, Breaks}
use Rattle.c_store.specs.Frames.{Here}
use Rattle.c_tree.specs.Types.{type_of}
use Rattle.c_typing.specs.Plain.{plain}
use Rattle.c_reading.specs.Scope.{scope_of}
use Rattle.c_reading.proofs.Meanings.{Same, same, heads_agree}
use Rattle.c_reading.specs.Readings.{Use, Unreadable, BadSyntax, NoScope, BadType, Reading, Read, Unread, IsExpression, IsTypedAs, LacksName, BreaksRule, Reads, Agree}

same_tree : (text : List ℕ) (e f : Tree) → IsExpression text e → IsExpression text f → e ≡ f
same_tree text e f a b =
    let same : a.tokens ≡ b.tokens = one_list a.has.0 b.has.0 in
    let s : Spells (terminals text b.tokens) e a.height = subst (λ ts. Spells (terminals text ts) e a.height) same a.spells in
    (one (terminals text b.tokens) e f a.height b.height a.low s b.spells).0

none_some : {A B : Type 0} (x : A) (o : Option A) → o ≡ None → o ≡ Some x → B
none_some x o n s = absurd cc

known_broken : {A : Type 0} (v : Verdict) (r : ℕ) → IsKnown v → Breaks v r → A
known_broken (Known j) r k b = absurd b
known_broken (Unknown name) r k b = absurd b
known_broken (Broken n at) r k b = absurd k

module _ (p : Program) (u : Use) (q : ℕ) where
  typed_lacks : {A : Type 0} (e : Tree) (x : Typed) → IsTypedAs p u q e x → LacksName p u q e → A
  typed_lacks e x a b = none_some b.0 _ a.0 b.1

  typed_breaks : {A : Type 0} (e : Tree) (x : Typed) → IsTypedAs p u q e x → BreaksRule p u q e → A
  typed_breaks e x a (inl b) = known_broken _ b.0 a.1 b.1.1
  typed_breaks e x a (inr b) = none_some b.0 _ a.2 b.1.2

  lacks_breaks : {A : Type 0} (e : Tree) → LacksName p u q e → BreaksRule p u q e → A
  lacks_breaks e a (inl b) = none_some a.0 _ b.1.0 a.1
  lacks_breaks e a (inr b) = none_some a.0 _ b.1.0 a.1

  module _ (text : List ℕ) where
    abbrev Is : (Tree → Type 0) → Type 0
    Is P = (e : Tree) × IsExpression text e × P e

    -- two things of one tree
    on_one : {A : Type 0} (P Q : Tree → Type 0) → ((e : Tree) → P e → Q e → A) → Is P → Is Q → A
    on_one P Q f (e, a, x) (e', b, y) = f e x (subst Q (sym (same_tree text e e' a b)) y)

    no_tree : {A : Type 0} (P : Tree → Type 0) → ((e : Tree) → IsExpression text e → ⊥) → Is P → A
    no_tree P n (e, a, x) = absurd (n e a)

    refused : (r r' : Unreadable) → Reads p u q text (Unread r) → Reads p u q text (Unread r') → r ≡ r'
    refused BadSyntax BadSyntax a b = refl
    refused BadSyntax NoScope a b = no_tree (LacksName p u q) a b
    refused BadSyntax BadType a b = no_tree (BreaksRule p u q) a b
    refused NoScope BadSyntax a b = no_tree (LacksName p u q) b a
    refused NoScope NoScope a b = refl
    refused NoScope BadType a b = on_one (LacksName p u q) (BreaksRule p u q) (λ e. lacks_breaks e) a b
    refused BadType BadSyntax a b = no_tree (BreaksRule p u q) b a
    refused BadType NoScope a b = on_one (LacksName p u q) (BreaksRule p u q) (λ e. lacks_breaks e) b a
    refused BadType BadType a b = refl

    -- a text that is refused is no expression that keeps to the rules
    unread : {A : Type 0} (r : Unreadable) (x : Typed) → Reads p u q text (Unread r) → Is (λ e. IsTypedAs p u q e x) → A
    unread BadSyntax x a b = no_tree (λ e. IsTypedAs p u q e x) a b
    unread NoScope x a b = on_one (λ e. IsTypedAs p u q e x) (LacksName p u q) (λ e. typed_lacks e x) b a
    unread BadType x a b = on_one (λ e. IsTypedAs p u q e x) (BreaksRule p u q) (λ e. typed_breaks e x) b a

    read : (x y : Typed) → Is (λ e. IsTypedAs p u q e x) → Is (λ e. IsTypedAs p u q e y) → Agree p u q text (Read x) (Read y)
    read x y (e, a, t) (e', b, s) = (e, a, t, subst (λ f. IsTypedAs p u q f y) (sym (same_tree text e e' a b)) s)

    pub agree : (x y : Reading) → Reads p u q text x → Reads p u q text y → Agree p u q text x y
    agree (Unread r) (Unread r') a b = refused r r' a b
    agree (Unread r) (Read y) a b = unread r y a b
    agree (Read x) (Unread r) a b = unread r x b a
    agree (Read x) (Read y) a b = read x y a b

    -- two readings are typed trees of one expression
    pub one_meaning : (h : Here) (x y : Typed) → Reads p u q text (Read x) → Reads p u q text (Read y) → Same p h x y
    one_meaning h x y a b = let (e, i, s, t) = read x y a b in same p h (scope_of p q) e x y s.3 t.3

    pub one_type_read : (x y : Typed) → Reads p u q text (Read x) → Reads p u q text (Read y) → plain (type_of x) ≡ plain (type_of y)
    one_type_read x y a b = let (e, i, s, t) = read x y a b in heads_agree p (scope_of p q) e x y s.3 t.3
