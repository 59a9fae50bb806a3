-- What reading promises: the tokens that are read to an answer are exactly those of the grammar.
use Rattle.std.specs.Prelude.{◌≡◌, ◌≤◌, ℕ, nat_le, if◌then◌else◌, Bool, true, false, List, [], ◌∷◌, ◌++◌, Option, Some, None}
use Rattle.c_lex.specs.declared.token.Place.{Place}
use Rattle.c_symbol.specs.declared.terminal.Terminal.{Terminal}
use Rattle.c_symbol.specs.declared.symbol.Symbol.{Symbol}
use Rattle.c_symbol.specs.declared.symbol.Symbol.TheVariants.{OpenParen, OpenBracket, OpenBrace}
use Rattle.c_expr.specs.declared.frame.Least.TheVariants.{Assignment}
use Rattle.c_expr.specs.Inside.{closes}
use Rattle.c_trees.specs.Declarators.{DeclaratorTree}
use Rattle.c_trees.specs.Initializers.{InitialTree}
use Rattle.c_declaration.specs.declared.built.Built.{Built}
use Rattle.c_trees.specs.declared.declaration.Local.{Local}
use Rattle.c_trees.specs.declared.declaration.Head.{Head}
use Rattle.c_trees.specs.declared.declaration.FunctionHead.{FunctionHead}
use Rattle.c_declaration.specs.declared.state.LocalParser.{LocalParser}
use Rattle.c_declaration.specs.declared.state.LocalParser.TheVariants as local
use Rattle.c_declaration.specs.declared.state.ReadLocal.{ReadLocal}
use Rattle.c_declaration.specs.declared.state.FileParser.{FileParser}
use Rattle.c_declaration.specs.declared.state.FileParser.TheVariants as file
use Rattle.c_declaration.specs.declared.state.ReadHead.{ReadHead}
use Rattle.c_declaration.specs.declared.state.ReadHead.TheVariants.{Declaration, Function}
use Rattle.c_declaration.specs.declared.step.Step.{Step}
use Rattle.c_declaration.specs.declared.step.Step.TheVariants.{Goes, Ends}
use Rattle.c_declaration.specs.Grammar.{Is, IsDeclarator, IsInitial, IsLocal, IsHead, IsFunctionHead}
use Rattle.c_declaration.specs.Feeding.{feed}
use Rattle.c_declaration.specs.Grown.{cut}
use Rattle.c_declaration.specs.DeclaratorReading.{declarator_offer, declarator_start}
use Rattle.c_declaration.specs.InitialReading.{initial_offer, initial_start}
use Rattle.c_declaration.specs.LocalReading.{local_offer}
use Rattle.c_declaration.specs.FileReading.{file_offer}

-- whether a token goes on behind a declarator
abbrev pub goes_on : Symbol → Bool
goes_on OpenParen = true
goes_on OpenBracket = true
goes_on _ = false

-- the value where it is at most 64 high
abbrev pub kept : {T : Type 0} → T → ℕ → Option T
kept t h = if nat_le h 64 then Some t else None

-- a declarator before a token that does not go on behind it is read, and ends there; and what is read is a declarator
abbrev pub DeclaratorEnds : Type 0
DeclaratorEnds = (d : DeclaratorTree) (h : ℕ) (ts : List Terminal) (t : Terminal) → IsDeclarator d h ts → goes_on t.symbol ≡ false
    → feed declarator_offer (ts ++ t ∷ []) (Goes declarator_start) ≡ Some (Ends (cut d h))

abbrev pub DeclaratorIs : Type 0
DeclaratorIs = (ts : List Terminal) (t : Terminal) (a : Option (Built DeclaratorTree)) → feed declarator_offer (ts ++ t ∷ []) (Goes declarator_start) ≡ Some (Ends a)
    → (d : DeclaratorTree) × (h : ℕ) × IsDeclarator d h ts × (a ≡ cut d h)

-- the same of an initializer
abbrev pub InitialEnds : Type 0
InitialEnds = (i : InitialTree) (h : ℕ) (ts : List Terminal) (t : Terminal) → IsInitial i h ts → closes Assignment t.symbol ≡ true
    → feed initial_offer (ts ++ t ∷ []) (Goes initial_start) ≡ Some (Ends (cut i h))

abbrev pub InitialIs : Type 0
InitialIs = (ts : List Terminal) (t : Terminal) (a : Option (Built InitialTree)) → feed initial_offer (ts ++ t ∷ []) (Goes initial_start) ≡ Some (Ends a)
    → (i : InitialTree) × (h : ℕ) × IsInitial i h ts × (a ≡ cut i h)

-- a declaration in a block is read to its end, and what is read is one
abbrev pub reading_local : List Terminal → Option (Step LocalParser ReadLocal)
reading_local ts = feed local_offer ts (Goes local.Begin)

abbrev pub LocalEnds : Type 0
LocalEnds = (l : Local) (h : ℕ) (ts : List Terminal) → IsLocal l h ts → reading_local ts ≡ Some (Ends (record { place = l.place; local = cut l h }))

abbrev pub LocalIs : Type 0
LocalIs = (ts : List Terminal) (a : ReadLocal) → reading_local ts ≡ Some (Ends a)
    → (l : Local) × (h : ℕ) × IsLocal l h ts × (a.place ≡ l.place) × (a.local ≡ cut l h)

-- a declaration at file scope, and what stands before a function's body, with the `{` of the body
abbrev pub reading_file : List Terminal → Option (Step FileParser ReadHead)
reading_file ts = feed file_offer ts (Goes file.Begin)

abbrev pub HeadEnds : Type 0
HeadEnds = (e : Head) (h : ℕ) (ts : List Terminal) → IsHead e h ts → reading_file ts ≡ Some (Ends (Declaration e.place (kept e h)))

abbrev pub FunctionEnds : Type 0
FunctionEnds = (e : FunctionHead) (h : ℕ) (ts : List Terminal) (o : Terminal) → IsFunctionHead e h ts → Is o OpenBrace → reading_file (ts ++ o ∷ []) ≡ Some (Ends (Function e.place (kept e h)))

-- what a reading is of
abbrev pub HeadOf : ReadHead → List Terminal → Type 0
HeadOf (Declaration at e) ts = (d : Head) × (h : ℕ) × IsHead d h ts × (at ≡ d.place) × (e ≡ kept d h)
HeadOf (Function at e) ts = (d : FunctionHead) × (h : ℕ) × (us : List Terminal) × (o : Terminal) × IsFunctionHead d h us × Is o OpenBrace × (ts ≡ us ++ o ∷ []) × (at ≡ d.place) × (e ≡ kept d h)

abbrev pub FileIs : Type 0
FileIs = (ts : List Terminal) (a : ReadHead) → reading_file ts ≡ Some (Ends a) → HeadOf a ts

-- tokens have one tree of at most 64 levels
abbrev pub OneDeclarator : Type 0
OneDeclarator = (ts : List Terminal) (a b : DeclaratorTree) (m n : ℕ) → m ≤ 64 → IsDeclarator a m ts → IsDeclarator b n ts → (a ≡ b) × (m ≡ n)

abbrev pub OneLocal : Type 0
OneLocal = (ts : List Terminal) (a b : Local) (m n : ℕ) → m ≤ 64 → IsLocal a m ts → IsLocal b n ts → (a ≡ b) × (m ≡ n)

-- at file scope they are the same tree, of which no part is too high
abbrev pub OneHead : Type 0
OneHead = (ts : List Terminal) (a b : Head) (m n : ℕ) → m ≤ 64 → IsHead a m ts → IsHead b n ts → (a ≡ b) × (n ≤ 64)

abbrev pub OneFunction : Type 0
OneFunction = (ts : List Terminal) (a b : FunctionHead) (m n : ℕ) → m ≤ 64 → IsFunctionHead a m ts → IsFunctionHead b n ts → (a ≡ b) × (n ≤ 64)
