-- A name with a number is what the number denotes.
use Rattle.std.proofs.Common.{◌≡◌, ℕ, List, ◌∙◌, sym, ap, subst, refl, Some, Result, ℤ}
use Rattle.c_lex.specs.declared.token.Place.{Place}
use Rattle.c_symbol.specs.declared.symbol.LeafKind.TheVariants as kind
use Rattle.c_trees.specs.Expressions.{Leaf}
use Rattle.c_tree.specs.declared.typed.Typed.{Typed}
use Rattle.c_tree.specs.declared.typed.Typed.TheVariants.{Name, Literal}
use Rattle.c_judge.specs.declared.part.Part.{Part}
use Rattle.c_judge.specs.declared.fault.Fault.{Fault}
use Rattle.c_judge.specs.declared.scope.Scope.{Scope as Names}
use Rattle.c_defs.specs.Numbers.{number_in}
use Rattle.c_judge.specs.Scope.{Scope}
use Rattle.c_judge.specs.Judgement.{named, folded, integer_type, leaf_of}
use Rattle.c_judge.specs.Answers.{Known}
use Rattle.c_typing.specs.declared.constant.Constant.TheVariants.{Number}
use Rattle.c_typing.specs.Plain.{Int}
use Rattle.ldb_words.specs.Word.{word_of_signed}
use Rattle.c_lex.specs.declared.number.Integer.{Integer}
use Rattle.c_judge.specs.Elaboration.{IsNamed, IsLeaf, IsConstant, IsLiteral}
use Rattle.c_judge.specs.Judges.{Judges, Makes, scope_of}
use Rattle.c_judge.proofs.Made.{made}

is_leaf : (v : Scope) (at : Place) (text : List ℕ) (n : ℕ) (z : Typed) → v.number text ≡ Some n → IsNamed n z → IsLeaf v at kind.Name text z
is_leaf v at text n (Name h m) e i = e ∙ ap Some (sym i)
is_leaf v at text n z e i = absurd i

pub name_judges : (v : Names) (at : Place) (text : List ℕ) (n : ℕ) (r : Result Part Fault) → number_in v.names.now text ≡ Some n → Makes (named (scope_of v) at.at text (Some n)) (IsNamed n) at r → Judges (scope_of v) (Leaf at kind.Name text) r
name_judges v at text n r e m = made (scope_of v) (Leaf at kind.Name text) at _ (IsNamed n) r refl (ap (named (scope_of v) at.at text) e) (λ z h i. (h, is_leaf (scope_of v) at text n z e i)) m

is_constant : (v : Scope) (at : Place) (i : Integer) (text : List ℕ) (z : Typed) → IsConstant i.value z → IsLeaf v at (kind.Constant i) text z
is_constant v at i text z h = h

is_literal : (v : Scope) (at : Place) (text : List ℕ) (z : Typed) → IsLiteral (v.literal at.at) z → IsLeaf v at kind.Text text z
is_literal v at text (Literal h n) e = e
is_literal v at text z e = absurd e

pub integer_judges : (v : Names) (at : Place) (i : Integer) (text : List ℕ) (r : Result Part Fault) → Makes (Known (folded (Number i.value) (integer_type i))) (IsConstant i.value) at r → Judges (scope_of v) (Leaf at (kind.Constant i) text) r
integer_judges v at i text r m = made (scope_of v) (Leaf at (kind.Constant i) text) at _ (IsConstant i.value) r refl refl (λ z h w. (h, w)) m

pub character_judges : (v : Names) (at : Place) (c : ℤ) (n : ℕ) (text : List ℕ) (r : Result Part Fault) → n ≡ word_of_signed c → Makes (Known (folded (Number n) Int)) (IsConstant n) at r → Judges (scope_of v) (Leaf at (kind.Character c) text) r
character_judges v at c n text r e m = made (scope_of v) (Leaf at (kind.Character c) text) at _ (IsConstant n) r refl (ap (λ k. Known (folded (Number k) Int)) (sym e)) (λ z h w. (h, subst (λ k. IsConstant k z) e w)) m

pub string_judges : (v : Names) (at : Place) (text : List ℕ) (r : Result Part Fault) → Makes (leaf_of (scope_of v) at.at kind.Text text) (IsLiteral ((scope_of v).literal at.at)) at r → Judges (scope_of v) (Leaf at kind.Text text) r
string_judges v at text r m = made (scope_of v) (Leaf at kind.Text text) at _ (IsLiteral ((scope_of v).literal at.at)) r refl refl (λ z h w. (h, is_literal (scope_of v) at text z w)) m
