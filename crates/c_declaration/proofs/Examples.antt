-- Declarations by the grammar, and what reading them gives, computed.
use Rattle.std.proofs.Common.{◌≡◌, ℕ, true, false, List, [], ◌∷◌, Option, Some, None, refl}
use Rattle.c_lex.specs.declared.token.Place.{Place}
use Rattle.c_lex.specs.declared.number.Integer.{Integer}
use Rattle.c_symbol.specs.declared.terminal.Terminal.{Terminal}
use Rattle.c_symbol.specs.declared.symbol.LeafKind.TheVariants.{Name, Character}
use Rattle.c_symbol.specs.declared.symbol.AssignOp.TheVariants.{Plain}
use Rattle.c_symbol.specs.declared.symbol.BinaryOp.TheVariants.{Comma, Assign, Multiply}
use Rattle.c_symbol.specs.declared.symbol.TypeWord.TheVariants as a_word
use Rattle.c_symbol.specs.declared.symbol.Symbol.{Symbol}
use Rattle.c_symbol.specs.declared.symbol.Symbol.TheVariants.{Leaf, Word, Binary, Struct as StructWord, OpenParen, CloseParen, OpenBracket, CloseBracket, OpenBrace, CloseBrace, Semicolon}
use Rattle.c_trees.specs.declared.expression.Spec.TheVariants.{Int, Char, Void}
use Rattle.c_expr.specs.Grammar.{no_star, star, one_word}
use Rattle.c_expr.specs.Grammar as expr
use Rattle.c_trees.specs.Declarators as tree
use Rattle.c_trees.specs.Declarators.{DeclaratorTree}
use Rattle.c_trees.specs.declared.declaration.Local.{Local}
use Rattle.c_trees.specs.declared.declaration.Head.{Head}
use Rattle.c_trees.specs.declared.declaration.FileSpec.TheVariants as file_spec
use Rattle.c_trees.specs.declared.declaration.MemberPart.TheVariants.{Opens, Row, Closes}
use Rattle.c_trees.specs.declared.declaration.Storage.TheVariants as storage
use Rattle.c_declaration.specs.declared.state.ReadHead.TheVariants.{Declaration, Function}
use Rattle.c_declaration.specs.declared.step.Step.TheVariants.{Goes, Ends}
use Rattle.c_declaration.specs.Grammar.{IsDirect, IsDeclarator, IsLocal, unmarked, name, void_parameters, direct, pointers, plain, one_name, local}
use Rattle.c_declaration.specs.Laws.{reading_local, reading_file}

at : ℕ → Place
at n = record { at = n; line = 1; column = n }

abbrev token : Symbol → ℕ → Terminal
token y n = record { symbol = y; place = at n; text = n ∷ [] }

-- `int x;` has three levels: the name, the list of names and the declaration
abbrev int_x : Local
int_x = record { place = at 0; register = false; spec = Int; names = record { declarator = tree.Name (at 1) (1 ∷ []); initial = None } ∷ [] }

int_x_is : IsLocal int_x 3 (token (Word a_word.Int) 0 ∷ token (Leaf Name) 1 ∷ token Semicolon 2 ∷ [])
int_x_is = local (token Semicolon 2) unmarked (one_word (token (Word a_word.Int) 0) a_word.Int refl) refl (one_name (plain (direct (name (token (Leaf Name) 1) refl)))) refl

int_x_read : reading_local (token (Word a_word.Int) 0 ∷ token (Leaf Name) 1 ∷ token Semicolon 2 ∷ []) ≡ Some (Ends (record { place = at 0; local = Some (record { height = 3; tree = int_x }) }))
int_x_read = refl

-- `f(void)` has no parameters
abbrev f_void : DeclaratorTree
f_void = tree.Function (at 1) (tree.Name (at 1) (1 ∷ []))

f_void_is : IsDirect f_void 2 (token (Leaf Name) 1 ∷ token OpenParen 2 ∷ token (Word a_word.Void) 3 ∷ token CloseParen 4 ∷ [])
f_void_is = void_parameters (token OpenParen 2) (token (Word a_word.Void) 3) (token CloseParen 4) (name (token (Leaf Name) 1) refl) refl refl refl

f_void_read : reading_file (token (Word a_word.Int) 0 ∷ token (Leaf Name) 1 ∷ token OpenParen 2 ∷ token (Word a_word.Void) 3 ∷ token CloseParen 4 ∷ token OpenBrace 5 ∷ [])
    ≡ Some (Ends (Function (at 0) (Some (record { place = at 0; storage = storage.Plain; spec = file_spec.Named Int; declarator = f_void }))))
f_void_read = refl

-- a struct in a struct is kept flat
struct_read : reading_file (
    token StructWord 0 ∷ token (Leaf Name) 1 ∷ token OpenBrace 2
    ∷ token StructWord 3 ∷ token (Leaf Name) 4 ∷ token OpenBrace 5 ∷ token (Word a_word.Char) 6 ∷ token (Leaf Name) 7 ∷ token Semicolon 8 ∷ token CloseBrace 9 ∷ token (Leaf Name) 10 ∷ token Semicolon 11
    ∷ token CloseBrace 12 ∷ token Semicolon 13 ∷ []
    )
    ≡ Some (Ends (Declaration (at 0) (Some (record {
      place = at 0;
      storage = storage.Plain;
      spec = file_spec.Members (Opens (at 0) (1 ∷ []) ∷ Opens (at 3) (4 ∷ []) ∷ Row (at 6) Char (tree.Name (at 7) (7 ∷ []) ∷ []) ∷ Closes (tree.Name (at 10) (10 ∷ []) ∷ []) ∷ []);
      names = [];
    }))))
struct_read = refl

-- `int *[` is nothing
star_bracket_read : reading_local (token (Word a_word.Int) 0 ∷ token (Binary Multiply) 1 ∷ token OpenBracket 2 ∷ []) ≡ None
star_bracket_read = refl
