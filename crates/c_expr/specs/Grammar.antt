-- Which tokens are an expression, one case for each alternative of the grammar (C90 6.3.1 to 6.3.17).
use Rattle.std.specs.Prelude.{◌≡◌, ℕ, suc, ◌+◌, ◌≤◌, max, Bool, false, nat_eq, if◌then◌else◌, List, [], ◌∷◌, ◌++◌}
use Rattle.c_lex.specs.declared.token.Place.{Place}
use Rattle.c_symbol.specs.declared.terminal.Terminal.{Terminal}
use Rattle.c_symbol.specs.declared.symbol.LeafKind.{LeafKind}
use Rattle.c_symbol.specs.declared.symbol.LeafKind.TheVariants.{Name}
use Rattle.c_symbol.specs.declared.symbol.Step.{Step}
use Rattle.c_symbol.specs.declared.symbol.Access.{Access}
use Rattle.c_symbol.specs.declared.symbol.TypeWord.{TypeWord}
use Rattle.c_symbol.specs.declared.symbol.TypeWord.TheVariants as a_word
use Rattle.c_symbol.specs.declared.symbol.PrefixOp.{PrefixOp}
use Rattle.c_symbol.specs.declared.symbol.PrefixOp.TheVariants as prefix
use Rattle.c_symbol.specs.declared.symbol.BinaryOp.{BinaryOp}
use Rattle.c_symbol.specs.declared.symbol.BinaryOp.TheVariants.{Comma, BitAnd, Multiply, Add, Subtract}
use Rattle.c_symbol.specs.declared.symbol.Symbol.{Symbol}
use Rattle.c_symbol.specs.declared.symbol.Symbol.TheVariants as symbol
use Rattle.c_trees.specs.declared.expression.Spec.{Spec}
use Rattle.c_trees.specs.declared.expression.Spec.TheVariants.{Char, Int, Unsigned, UnsignedInt, Void, Struct}
use Rattle.c_trees.specs.Expressions.{Tree, Leaf, Paren, Index, Call, With, Member, After, Prefix, SizeofType, Cast, Binary, Choice, Stars, Around, Bounded, Unbounded}
use Rattle.c_expr.specs.Levels.{level_of, left_of, right_of, operand_of}

-- how a prefix operator is written
abbrev pub prefix_symbol : PrefixOp → Symbol
prefix_symbol (prefix.Step step) = symbol.Step step
prefix_symbol prefix.Address = symbol.Binary BitAnd
prefix_symbol prefix.Dereference = symbol.Binary Multiply
prefix_symbol prefix.Plus = symbol.Binary Add
prefix_symbol prefix.Minus = symbol.Binary Subtract
prefix_symbol prefix.Complement = symbol.Complement
prefix_symbol prefix.Not = symbol.Not
prefix_symbol prefix.Sizeof = symbol.Sizeof

-- as many `*` as there are tokens
pub data AreStars : ℕ → List Terminal → Type 0 where
  no_star : AreStars 0 []
  star : {n : ℕ} {ts : List Terminal} (t : Terminal) → AreStars n ts → t.symbol ≡ symbol.Binary Multiply → AreStars (suc n) (ts ++ t ∷ [])

-- how a type's name of one word begins
abbrev pub spec_of : TypeWord → Spec
spec_of a_word.Char = Char
spec_of a_word.Int = Int
spec_of a_word.Unsigned = Unsigned
spec_of a_word.Void = Void

-- how a type's name begins (C90 6.5.2)
pub data IsSpec : Spec → List Terminal → Type 0 where
  one_word : (t : Terminal) (w : TypeWord) → t.symbol ≡ symbol.Word w → IsSpec (spec_of w) (t ∷ [])
  unsigned_int : (t i : Terminal) → t.symbol ≡ symbol.Word a_word.Unsigned → i.symbol ≡ symbol.Word a_word.Int → IsSpec UnsignedInt (t ∷ i ∷ [])
  tagged : (t name : Terminal) → t.symbol ≡ symbol.Struct → name.symbol ≡ symbol.Leaf Name → IsSpec (Struct name.text) (t ∷ name ∷ [])

-- the height of the list of so many `*`, where there are some
abbrev pub stars_height : ℕ → ℕ
stars_height n = if nat_eq n 0 then 0 else 2

-- a declarator of no tokens
abbrev pub is_nothing : Tree → Bool
is_nothing (Stars n) = nat_eq n 0
is_nothing _ = false

-- the height of a type's name whose declarator has parts of height m and less
abbrev pub name_height : ℕ → ℕ
name_height m = max 1 m + 1

-- Below, IsExpr p e at h ts: the tokens are the expression e of height h, by a rule of level p or of one that binds more tightly. It begins at `at`.
mutual
  pub data IsExpr : ℕ → Tree → Place → ℕ → List Terminal → Type 0 where
    leaf : (p : ℕ) (t : Terminal) (kind : LeafKind) → p ≤ 17 → t.symbol ≡ symbol.Leaf kind → IsExpr p (Leaf t.place kind t.text) t.place 1 (t ∷ [])
    paren : (p : ℕ) (o c : Terminal) {a : Tree} {at : Place} {h : ℕ} {ts : List Terminal} → p ≤ 17
        → o.symbol ≡ symbol.OpenParen → IsExpr 1 a at h ts → c.symbol ≡ symbol.CloseParen
        → IsExpr p (Paren o.place a) o.place (suc h) (o ∷ (ts ++ c ∷ []))
    index : (p : ℕ) (o c : Terminal) {a b : Tree} {at at' : Place} {m n : ℕ} {us vs : List Terminal} → p ≤ 16
        → IsExpr 16 a at m us → o.symbol ≡ symbol.OpenBracket → IsExpr 1 b at' n vs → c.symbol ≡ symbol.CloseBracket
        → IsExpr p (Index at a b) at (suc (max m n)) (us ++ o ∷ (vs ++ c ∷ []))
    member : (p : ℕ) (t name : Terminal) (access : Access) {a : Tree} {at : Place} {h : ℕ} {ts : List Terminal} → p ≤ 16
        → IsExpr 16 a at h ts → t.symbol ≡ symbol.Access access → name.symbol ≡ symbol.Leaf Name
        → IsExpr p (Member at a access name.place name.text) at (suc h) (ts ++ t ∷ name ∷ [])
    after : (p : ℕ) (t : Terminal) (step : Step) {a : Tree} {at : Place} {h : ℕ} {ts : List Terminal} → p ≤ 16
        → IsExpr 16 a at h ts → t.symbol ≡ symbol.Step step
        → IsExpr p (After at a step) at (suc h) (ts ++ t ∷ [])
    prefixed : (p : ℕ) (t : Terminal) (op : PrefixOp) {a : Tree} {at : Place} {h : ℕ} {ts : List Terminal} → p ≤ 15
        → t.symbol ≡ prefix_symbol op → IsExpr (operand_of op) a at h ts
        → IsExpr p (Prefix t.place op a) t.place (suc h) (t ∷ ts)
    sizeof_type : (p : ℕ) (t o c : Terminal) {spec : Spec} {d : Tree} {m : ℕ} {us ts : List Terminal} → p ≤ 15
        → t.symbol ≡ symbol.Sizeof → o.symbol ≡ symbol.OpenParen → IsSpec spec us → IsAbstract d m ts → c.symbol ≡ symbol.CloseParen
        → IsExpr p (SizeofType t.place spec d) t.place (suc (name_height m)) (t ∷ o ∷ (us ++ (ts ++ c ∷ [])))
    cast : (p : ℕ) (o c : Terminal) {spec : Spec} {d : Tree} {m : ℕ} {us ts : List Terminal} {a : Tree} {at : Place} {h : ℕ} {vs : List Terminal} → p ≤ 14
        → o.symbol ≡ symbol.OpenParen → IsSpec spec us → IsAbstract d m ts → c.symbol ≡ symbol.CloseParen → IsExpr 14 a at h vs
        → IsExpr p (Cast o.place spec d a) o.place (suc (max (name_height m) h)) (o ∷ (us ++ (ts ++ c ∷ vs)))
    binary : (p : ℕ) (t : Terminal) (op : BinaryOp) {a b : Tree} {at at' : Place} {m n : ℕ} {us vs : List Terminal} → p ≤ level_of op
        → IsExpr (left_of op) a at m us → t.symbol ≡ symbol.Binary op → IsExpr (right_of op) b at' n vs
        → IsExpr p (Binary at op a b) at (suc (max m n)) (us ++ t ∷ vs)
    choice : (p : ℕ) (q c : Terminal) {a b e : Tree} {at at' at'' : Place} {l m n : ℕ} {us vs ws : List Terminal} → p ≤ 3
        → IsExpr 4 a at l us → q.symbol ≡ symbol.Question → IsExpr 1 b at' m vs → c.symbol ≡ symbol.Colon → IsExpr 3 e at'' n ws
        → IsExpr p (Choice at a b e) at (suc (max l (max m n))) (us ++ q ∷ (vs ++ c ∷ ws))
    call : (p : ℕ) (o c : Terminal) {f : Tree} {at : Place} {h : ℕ} {us : List Terminal} → p ≤ 16
        → IsExpr 16 f at h us → o.symbol ≡ symbol.OpenParen → c.symbol ≡ symbol.CloseParen
        → IsExpr p (Call at f) at (suc h) (us ++ o ∷ c ∷ [])
    call_with : (p : ℕ) (c : Terminal) {e : Tree} {at : Place} {h : ℕ} {us : List Terminal} → p ≤ 16
        → IsCall e at h us → c.symbol ≡ symbol.CloseParen
        → IsExpr p e at h (us ++ c ∷ [])

  -- IsCall e at h ts: a call with at least one argument, without its ). The list of the arguments is a level.
  pub data IsCall : Tree → Place → ℕ → List Terminal → Type 0 where
    first_argument : (o : Terminal) {f a : Tree} {at at' : Place} {m n : ℕ} {us vs : List Terminal}
        → IsExpr 16 f at m us → o.symbol ≡ symbol.OpenParen → IsExpr 2 a at' n vs
        → IsCall (With (Call at f) a) at (max (suc m) (n + 2)) (us ++ o ∷ vs)
    next_argument : (t : Terminal) {f a : Tree} {at at' : Place} {m n : ℕ} {us vs : List Terminal}
        → IsCall f at m us → t.symbol ≡ symbol.Binary Comma → IsExpr 2 a at' n vs
        → IsCall (With f a) at (max m (n + 2)) (us ++ t ∷ vs)

  -- IsAbstract d m ts: the declarator of a type's name (C90 6.5.5), whose parts are of height m and less: its list of `*`, the declarator
  -- in parentheses, which has tokens, and its list of bounds.
  pub data IsAbstract : Tree → ℕ → List Terminal → Type 0 where
    stars : {n : ℕ} {ts : List Terminal} → AreStars n ts → IsAbstract (Stars n) (stars_height n) ts
    around : (o c : Terminal) {n : ℕ} {d : Tree} {m : ℕ} {us ts : List Terminal}
        → AreStars n us → o.symbol ≡ symbol.OpenParen → IsAbstract d m ts → is_nothing d ≡ false → c.symbol ≡ symbol.CloseParen
        → IsAbstract (Around n d) (max (stars_height n) (m + 1)) (us ++ o ∷ (ts ++ c ∷ []))
    bounded : (o c : Terminal) {d e : Tree} {at : Place} {m h : ℕ} {us vs : List Terminal}
        → IsAbstract d m us → o.symbol ≡ symbol.OpenBracket → IsExpr 3 e at h vs → c.symbol ≡ symbol.CloseBracket
        → IsAbstract (Bounded d e) (max m (h + 1)) (us ++ o ∷ (vs ++ c ∷ []))
    unbounded : (o c : Terminal) {d : Tree} {m : ℕ} {us : List Terminal}
        → IsAbstract d m us → o.symbol ≡ symbol.OpenBracket → c.symbol ≡ symbol.CloseBracket
        → IsAbstract (Unbounded d) (max m 2) (us ++ o ∷ c ∷ [])

-- the tokens are this expression, of this height
abbrev pub Spells : List Terminal → Tree → ℕ → Type 0
Spells ts e h = (at : Place) × IsExpr 1 e at h ts
