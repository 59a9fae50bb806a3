-- Which tokens are a declarator, an initializer or a declaration, one case for each alternative of the grammar (C90 6.5).
-- In each relation h is the height of the tree: one more than that of its highest part, where a list of siblings that is not empty is a level.
use Rattle.std.specs.Prelude.{◌≡◌, ℕ, suc, ◌+◌, max, ◌&&◌, Bool, true, false, List, [], ◌∷◌, ◌++◌, Option, Some, None}
use Rattle.c_lex.specs.declared.token.Place.{Place}
use Rattle.c_lex.specs.declared.keyword.Keyword.TheVariants as word
use Rattle.c_symbol.specs.declared.terminal.Terminal.{Terminal}
use Rattle.c_symbol.specs.declared.symbol.LeafKind.TheVariants as leaf
use Rattle.c_symbol.specs.declared.symbol.AssignOp.TheVariants.{Plain}
use Rattle.c_symbol.specs.declared.symbol.BinaryOp.TheVariants.{Comma, Assign}
use Rattle.c_symbol.specs.declared.symbol.TypeWord.TheVariants as type_word
use Rattle.c_symbol.specs.declared.symbol.Symbol.{Symbol}
use Rattle.c_symbol.specs.declared.symbol.Symbol.TheVariants as symbol
use Rattle.c_trees.specs.declared.expression.Spec.{Spec}
use Rattle.c_trees.specs.declared.expression.Spec.TheVariants as spec
use Rattle.c_trees.specs.Expressions.{Tree}
use Rattle.c_trees.specs.Expressions as expr
use Rattle.c_expr.specs.Grammar.{is_nothing, AreStars, IsSpec, IsExpr, IsAbstract}
use Rattle.c_trees.specs.declared.declaration.Storage.{Storage}
use Rattle.c_trees.specs.declared.declaration.Storage.TheVariants as storage
use Rattle.c_trees.specs.declared.declaration.Declared.{Declared}
use Rattle.c_trees.specs.declared.declaration.Local.{Local}
use Rattle.c_trees.specs.declared.declaration.FileSpec.{FileSpec}
use Rattle.c_trees.specs.declared.declaration.FileSpec.TheVariants.{Named, Members}
use Rattle.c_trees.specs.declared.declaration.MemberPart.{MemberPart}
use Rattle.c_trees.specs.declared.declaration.MemberPart.TheVariants.{Opens, Row, Closes}
use Rattle.c_trees.specs.declared.declaration.Head.{Head}
use Rattle.c_trees.specs.declared.declaration.FunctionHead.{FunctionHead}
use Rattle.c_trees.specs.Declarators.{DeclaratorTree, begins}
use Rattle.c_trees.specs.Declarators as tree
use Rattle.c_trees.specs.Initializers.{InitialTree, Value, Braces, Item}

abbrev pub Is : Terminal → Symbol → Type 0
Is t y = t.symbol ≡ y

-- the place of the first of some tokens
abbrev pub first_place : List Terminal → Option Place
first_place [] = None
first_place (t ∷ ts) = Some t.place

-- nothing, or one `register`
pub data IsRegister : Bool → List Terminal → Type 0 where
  unmarked : IsRegister false []
  marked : (t : Terminal) → Is t (symbol.Keyword word.Register) → IsRegister true (t ∷ [])

abbrev pub is_void_type : Spec → Bool
is_void_type spec.Void = true
is_void_type _ = false

-- `void` without a name
abbrev pub is_void : DeclaratorTree → Bool
is_void (tree.Unnamed _ s a) = is_nothing a && is_void_type s
is_void _ = false

-- a function whose only parameter is `void` without a name: such a list of parameters is the list of none (C90 6.5.4.3)
abbrev pub takes_void : DeclaratorTree → Bool
takes_void (tree.Taking (tree.Function _ _) p) = is_void p
takes_void _ = false

-- declarators (C90 6.5.4)
mutual
  -- a declarator without `*` in front
  pub data IsDirect : DeclaratorTree → ℕ → List Terminal → Type 0 where
    name : (t : Terminal) → Is t (symbol.Leaf leaf.Name) → IsDirect (tree.Name t.place t.text) 1 (t ∷ [])
    parens : (o c : Terminal) {d : DeclaratorTree} {h : ℕ} {ts : List Terminal} → Is o symbol.OpenParen → IsDeclarator d h ts → Is c symbol.CloseParen
        → IsDirect (tree.Parens o.place d) (suc h) (o ∷ (ts ++ c ∷ []))
    array : (o c : Terminal) {d : DeclaratorTree} {e : Tree} {at : Place} {m n : ℕ} {us vs : List Terminal}
        → IsDirect d m us → Is o symbol.OpenBracket → IsExpr 3 e at n vs → Is c symbol.CloseBracket
        → IsDirect (tree.Array (begins d) d (Some e)) (suc (max m n)) (us ++ o ∷ (vs ++ c ∷ []))
    open_array : (o c : Terminal) {d : DeclaratorTree} {m : ℕ} {us : List Terminal}
        → IsDirect d m us → Is o symbol.OpenBracket → Is c symbol.CloseBracket
        → IsDirect (tree.Array (begins d) d None) (suc m) (us ++ o ∷ c ∷ [])
    no_parameters : (o c : Terminal) {d : DeclaratorTree} {m : ℕ} {us : List Terminal}
        → IsDirect d m us → Is o symbol.OpenParen → Is c symbol.CloseParen
        → IsDirect (tree.Function (begins d) d) (suc m) (us ++ o ∷ c ∷ [])
    void_parameters : (o v c : Terminal) {d : DeclaratorTree} {m : ℕ} {us : List Terminal}
        → IsDirect d m us → Is o symbol.OpenParen → Is v (symbol.Word type_word.Void) → Is c symbol.CloseParen
        → IsDirect (tree.Function (begins d) d) (suc m) (us ++ o ∷ v ∷ c ∷ [])
    parameters : (c : Terminal) {d : DeclaratorTree} {h : ℕ} {us : List Terminal}
        → AreParameters d h us → takes_void d ≡ false → Is c symbol.CloseParen
        → IsDirect d h (us ++ c ∷ [])

  pub data IsDeclarator : DeclaratorTree → ℕ → List Terminal → Type 0 where
    direct : {d : DeclaratorTree} {h : ℕ} {ts : List Terminal} → IsDirect d h ts → IsDeclarator d h ts
    -- the list of `*` is of height 2
    pointers : (t : Terminal) {n h : ℕ} {d : DeclaratorTree} {us vs : List Terminal} → AreStars (suc n) (t ∷ us) → IsDirect d h vs
        → IsDeclarator (tree.Pointers t.place (suc n) d) (suc (max 2 h)) (t ∷ (us ++ vs))

  -- a function's declarator with its parameters so far, without the `)`; their list is a level
  pub data AreParameters : DeclaratorTree → ℕ → List Terminal → Type 0 where
    first_parameter : (o : Terminal) {d p : DeclaratorTree} {m n : ℕ} {us vs : List Terminal}
        → IsDirect d m us → Is o symbol.OpenParen → IsParameter p n vs
        → AreParameters (tree.Taking (tree.Function (begins d) d) p) (max (suc m) (n + 2)) (us ++ o ∷ vs)
    next_parameter : (t : Terminal) {d p : DeclaratorTree} {m n : ℕ} {us vs : List Terminal}
        → AreParameters d m us → Is t (symbol.Binary Comma) → IsParameter p n vs
        → AreParameters (tree.Taking d p) (max m (n + 2)) (us ++ t ∷ vs)

  -- a parameter
  pub data IsParameter : DeclaratorTree → ℕ → List Terminal → Type 0 where
    named : {at : Place} {r : Bool} {base : Spec} {d : DeclaratorTree} {h : ℕ} {us vs ws : List Terminal}
        → IsRegister r us → IsSpec base vs → first_place (us ++ vs) ≡ Some at → IsDeclarator d h ws
        → IsParameter (tree.Named at r base d) (suc h) (us ++ (vs ++ ws))
    unnamed : {at : Place} {base : Spec} {a : Tree} {m : ℕ} {us vs : List Terminal}
        → IsSpec base us → first_place us ≡ Some at → IsAbstract a m vs
        → IsParameter (tree.Unnamed at base a) (suc (max 1 m)) (us ++ vs)

-- initializers (C90 6.5.7)
mutual
  pub data IsInitial : InitialTree → ℕ → List Terminal → Type 0 where
    value : {e : Tree} {at : Place} {h : ℕ} {ts : List Terminal} → IsExpr 2 e at h ts → IsInitial (Value e) h ts
    braces : (c : Terminal) {i : InitialTree} {h : ℕ} {ts : List Terminal} → AreItems i h ts → Is c symbol.CloseBrace → IsInitial i (suc h) (ts ++ c ∷ [])
    braces_comma : (t c : Terminal) {i : InitialTree} {h : ℕ} {ts : List Terminal} → AreItems i h ts → Is t (symbol.Binary Comma) → Is c symbol.CloseBrace
        → IsInitial i (suc h) (ts ++ t ∷ c ∷ [])

  -- `{` and the initializers so far; h is the height of their list
  pub data AreItems : InitialTree → ℕ → List Terminal → Type 0 where
    first_item : (o : Terminal) {i : InitialTree} {h : ℕ} {ts : List Terminal} → Is o symbol.OpenBrace → IsInitial i h ts → AreItems (Item (Braces o.place) i) (suc h) (o ∷ ts)
    next_item : (t : Terminal) {i j : InitialTree} {m n : ℕ} {us vs : List Terminal} → AreItems i m us → Is t (symbol.Binary Comma) → IsInitial j n vs
        → AreItems (Item i j) (max m (suc n)) (us ++ t ∷ vs)

-- a name that is declared in a block: its declarator and its initializer are parts of one tree
pub data IsDeclared : Declared → ℕ → List Terminal → Type 0 where
  plain : {d : DeclaratorTree} {h : ℕ} {ts : List Terminal} → IsDeclarator d h ts → IsDeclared (record { declarator = d; initial = None }) h ts
  with_initial : (t : Terminal) {d : DeclaratorTree} {i : InitialTree} {m n : ℕ} {us vs : List Terminal}
      → IsDeclarator d m us → Is t (symbol.Binary (Assign Plain)) → IsInitial i n vs
      → IsDeclared (record { declarator = d; initial = Some i }) (suc (max m n)) (us ++ t ∷ vs)

-- the names that a declaration in a block declares; h is the height of their list
pub data AreDeclared : List Declared → ℕ → List Terminal → Type 0 where
  one_name : {d : Declared} {h : ℕ} {ts : List Terminal} → IsDeclared d h ts → AreDeclared (d ∷ []) (suc h) ts
  more_names : (t : Terminal) {d : Declared} {ds : List Declared} {m n : ℕ} {us vs : List Terminal}
      → AreDeclared ds m us → Is t (symbol.Binary Comma) → IsDeclared d n vs → AreDeclared (ds ++ d ∷ []) (max m (suc n)) (us ++ t ∷ vs)

-- a declaration in a block, with its `;`
pub data IsLocal : Local → ℕ → List Terminal → Type 0 where
  local : (c : Terminal) {r : Bool} {base : Spec} {at : Place} {ds : List Declared} {h : ℕ} {us vs ws : List Terminal}
      → IsRegister r us → IsSpec base vs → first_place (us ++ vs) ≡ Some at → AreDeclared ds h ws → Is c symbol.Semicolon
      → IsLocal (record { place = at; register = r; spec = base; names = ds }) (suc h) (us ++ (vs ++ (ws ++ c ∷ [])))

-- At file scope each declarator and each initializer is a tree of its own, so h is the greatest height of one.
pub data IsStorage : Storage → List Terminal → Type 0 where
  plain_storage : IsStorage storage.Plain []
  extern_storage : (t : Terminal) → Is t (symbol.Keyword word.Extern) → IsStorage storage.Extern (t ∷ [])
  static_storage : (t : Terminal) → Is t (symbol.Keyword word.Static) → IsStorage storage.Static (t ∷ [])

-- the members that a row declares
pub data AreDeclarators : List DeclaratorTree → ℕ → List Terminal → Type 0 where
  one_declarator : {d : DeclaratorTree} {h : ℕ} {ts : List Terminal} → IsDeclarator d h ts → AreDeclarators (d ∷ []) h ts
  more_declarators : (t : Terminal) {d : DeclaratorTree} {ds : List DeclaratorTree} {m n : ℕ} {us vs : List Terminal}
      → AreDeclarators ds m us → Is t (symbol.Binary Comma) → IsDeclarator d n vs → AreDeclarators (ds ++ d ∷ []) (max m n) (us ++ t ∷ vs)

-- a struct with its members so far, without its `}`
pub data AreMembers : List MemberPart → ℕ → List Terminal → Type 0 where
  no_members : (t name o : Terminal) → Is t symbol.Struct → Is name (symbol.Leaf leaf.Name) → Is o symbol.OpenBrace
      → AreMembers (Opens t.place name.text ∷ []) 0 (t ∷ name ∷ o ∷ [])
  named_row : (c : Terminal) {ps : List MemberPart} {base : Spec} {at : Place} {ds : List DeclaratorTree} {m n : ℕ} {us vs ws : List Terminal}
      → AreMembers ps m us → IsSpec base vs → first_place vs ≡ Some at → AreDeclarators ds n ws → Is c symbol.Semicolon
      → AreMembers (ps ++ Row at base ds ∷ []) (max m n) (us ++ (vs ++ (ws ++ c ∷ [])))
  struct_row : (o c : Terminal) {ps qs : List MemberPart} {ds : List DeclaratorTree} {l m n : ℕ} {us vs ws : List Terminal}
      → AreMembers ps l us → AreMembers qs m vs → Is o symbol.CloseBrace → AreDeclarators ds n ws → Is c symbol.Semicolon
      → AreMembers (ps ++ (qs ++ Closes ds ∷ [])) (max l (max m n)) (us ++ (vs ++ o ∷ (ws ++ c ∷ [])))

pub data IsFileSpec : FileSpec → ℕ → List Terminal → Type 0 where
  named_spec : {base : Spec} {ts : List Terminal} → IsSpec base ts → IsFileSpec (Named base) 0 ts
  struct_spec : (c : Terminal) {ps : List MemberPart} {h : ℕ} {ts : List Terminal} → AreMembers ps h ts → Is c symbol.CloseBrace → IsFileSpec (Members ps) h (ts ++ c ∷ [])

-- a name that is declared at file scope
pub data IsFileDeclared : Declared → ℕ → List Terminal → Type 0 where
  bare : {d : DeclaratorTree} {h : ℕ} {ts : List Terminal} → IsDeclarator d h ts → IsFileDeclared (record { declarator = d; initial = None }) h ts
  with_value : (t : Terminal) {d : DeclaratorTree} {i : InitialTree} {m n : ℕ} {us vs : List Terminal}
      → IsDeclarator d m us → Is t (symbol.Binary (Assign Plain)) → IsInitial i n vs
      → IsFileDeclared (record { declarator = d; initial = Some i }) (max m n) (us ++ t ∷ vs)

pub data AreFileDeclared : List Declared → ℕ → List Terminal → Type 0 where
  one_file_name : {d : Declared} {h : ℕ} {ts : List Terminal} → IsFileDeclared d h ts → AreFileDeclared (d ∷ []) h ts
  more_file_names : (t : Terminal) {d : Declared} {ds : List Declared} {m n : ℕ} {us vs : List Terminal}
      → AreFileDeclared ds m us → Is t (symbol.Binary Comma) → IsFileDeclared d n vs → AreFileDeclared (ds ++ d ∷ []) (max m n) (us ++ t ∷ vs)

-- a declaration at file scope, with its `;`
pub data IsHead : Head → ℕ → List Terminal → Type 0 where
  only_spec : (c : Terminal) {st : Storage} {f : FileSpec} {at : Place} {h : ℕ} {us vs : List Terminal}
      → IsStorage st us → IsFileSpec f h vs → first_place (us ++ vs) ≡ Some at → Is c symbol.Semicolon
      → IsHead (record { place = at; storage = st; spec = f; names = [] }) h (us ++ (vs ++ c ∷ []))
  with_names : (c : Terminal) {st : Storage} {f : FileSpec} {at : Place} {ds : List Declared} {m n : ℕ} {us vs ws : List Terminal}
      → IsStorage st us → IsFileSpec f m vs → first_place (us ++ vs) ≡ Some at → AreFileDeclared ds n ws → Is c symbol.Semicolon
      → IsHead (record { place = at; storage = st; spec = f; names = ds }) (max m n) (us ++ (vs ++ (ws ++ c ∷ [])))

-- what stands before the `{` of a function's body (C90 6.7.1)
pub data IsFunctionHead : FunctionHead → ℕ → List Terminal → Type 0 where
  function_head : {st : Storage} {f : FileSpec} {at : Place} {d : DeclaratorTree} {m n : ℕ} {us vs ws : List Terminal}
      → IsStorage st us → IsFileSpec f m vs → first_place (us ++ vs) ≡ Some at → IsDeclarator d n ws
      → IsFunctionHead (record { place = at; storage = st; spec = f; declarator = d }) (max m n) (us ++ (vs ++ ws))
