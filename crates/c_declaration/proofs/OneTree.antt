-- Tokens have one tree of at most 64 levels.
use Rattle.std.proofs.Common.{◌≡◌, ℕ, ◌≤◌, ◌<◌, List, [], ◌∷◌, ◌++◌, Option, Some, None, refl, sym, ◌∙◌, ap, inl, inr}
use Rattle.std.proofs.lemmas.Bool.{cases_lt}
use Rattle.c_symbol.specs.declared.terminal.Terminal.{Terminal}
use Rattle.c_symbol.specs.declared.symbol.Symbol.TheVariants.{OpenBrace, Semicolon}
use Rattle.c_trees.specs.Declarators.{DeclaratorTree}
use Rattle.c_declaration.specs.declared.built.Built.{Built}
use Rattle.c_trees.specs.declared.declaration.Local.{Local}
use Rattle.c_trees.specs.declared.declaration.Head.{Head}
use Rattle.c_trees.specs.declared.declaration.FunctionHead.{FunctionHead}
use Rattle.c_declaration.specs.declared.state.LocalParser.{LocalParser}
use Rattle.c_declaration.specs.declared.state.ReadLocal.{ReadLocal}
use Rattle.c_declaration.specs.declared.state.FileParser.{FileParser}
use Rattle.c_declaration.specs.declared.state.ReadHead.{ReadHead}
use Rattle.c_declaration.specs.declared.state.ReadHead.TheVariants.{Declaration, Function}
use Rattle.c_declaration.specs.declared.state.DeclaratorParser.{DeclaratorParser}
use Rattle.c_declaration.specs.declared.step.Step.{Step}
use Rattle.c_declaration.specs.declared.step.Step.TheVariants.{Goes, Ends}
use Rattle.c_declaration.specs.Grammar.{IsDeclarator, IsLocal, IsHead, IsFunctionHead}
use Rattle.c_declaration.specs.Grown.{cut}
use Rattle.c_declaration.specs.Laws.{kept, OneDeclarator, OneLocal, OneHead, OneFunction}
use Rattle.c_declaration.proofs.Pieces.{cut_some, cut_none}
use Rattle.c_declaration.proofs.DeclaratorComplete.{declarator_ends}
use Rattle.c_declaration.proofs.DeclaredNames.{kept_some, kept_none}
use Rattle.c_declaration.proofs.Locals.{local_ends}
use Rattle.c_declaration.proofs.Files.{head_ends, function_ends}

none_some : {T : Type 0} (x : T) → Some x ≡ None → ⊥
none_some x e = cc

some_is : {T : Type 0} (x y : T) → Some x ≡ Some y → x ≡ y
some_is x y e = cc

abbrev made_of : {A : Type 0} (S : Type 0) → A → Option (Step S A)
made_of S x = Some (Ends x)

ends_are : {A : Type 0} (S : Type 0) (x y : A) → made_of S x ≡ made_of S y → x ≡ y
ends_are S x y e = cc

cut_one : {T : Type 0} (a b : T) (m n : ℕ) → m ≤ 64 → cut a m ≡ cut b n → (a ≡ b) × (m ≡ n)
cut_one {T} a b m n le e =
    let made : T → ℕ → Built T = λ t h. record { height = h; tree = t } in
    elim (cases_lt 64 n) [
      | inl hi ↦ absurd (none_some (made a m) (sym (cut_some a m le) ∙ e ∙ cut_none b n hi))
      | inr lo ↦ let same : made a m ≡ made b n = some_is (made a m) (made b n) (sym (cut_some a m le) ∙ e ∙ cut_some b n lo) in (ap (λ x. x.tree) same, ap (λ x. x.height) same)
    ]

kept_one : {T : Type 0} (a b : T) (m n : ℕ) → m ≤ 64 → kept a m ≡ kept b n → (a ≡ b) × (n ≤ 64)
kept_one a b m n le e =
    elim (cases_lt 64 n) [
      | inl hi ↦ absurd (none_some a (sym (kept_some a m le) ∙ e ∙ kept_none b n hi))
      | inr lo ↦ (some_is a b (sym (kept_some a m le) ∙ e ∙ kept_some b n lo), lo)
    ]

abbrev a_semicolon : Terminal
a_semicolon = record { symbol = Semicolon; place = record { at = 0; line = 0; column = 0 }; text = [] }

pub one_declarator : OneDeclarator
one_declarator ts a b m n le d e = cut_one a b m n le (ends_are DeclaratorParser (cut a m) (cut b n) (sym (declarator_ends a m ts a_semicolon d refl) ∙ declarator_ends b n ts a_semicolon e refl))

pub one_local : OneLocal
one_local ts a b m n le d e =
    let made : Local → ℕ → ReadLocal = λ l h. record { place = l.place; local = cut l h } in
    cut_one a b m n le (ap (λ x. x.local) (ends_are LocalParser (made a m) (made b n) (sym (local_ends a m ts d) ∙ local_ends b n ts e)))

abbrev head_in : ReadHead → Option Head
head_in (Declaration at e) = e
head_in (Function at e) = None

abbrev function_in : ReadHead → Option FunctionHead
function_in (Declaration at e) = None
function_in (Function at e) = e

pub one_head : OneHead
one_head ts a b m n le d e = kept_one a b m n le (ap head_in (ends_are FileParser (Declaration a.place (kept a m)) (Declaration b.place (kept b n)) (sym (head_ends a m ts d) ∙ head_ends b n ts e)))

abbrev a_brace : Terminal
a_brace = record { symbol = OpenBrace; place = record { at = 0; line = 0; column = 0 }; text = [] }

pub one_function : OneFunction
one_function ts a b m n le d e =
    kept_one a b m n le (ap function_in (ends_are FileParser (Function a.place (kept a m)) (Function b.place (kept b n)) (sym (function_ends a m ts a_brace d refl) ∙ function_ends b n ts a_brace e refl)))
