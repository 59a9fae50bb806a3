-- Texts of small trees, written out: x is an `int` and p a pointer to `unsigned`, and none of them is made by the definitions.
use Rattle.std.proofs.Common.{◌≡◌, refl, [], ◌∷◌, codes, false}
use Rattle.std.specs.Fmt.{digits}
use Rattle.c_tree.specs.declared.types.CType.{CType}
use Rattle.c_tree.specs.declared.types.CType.TheVariants.{Char, Int, Pointer'}
use Rattle.c_tree.specs.declared.typed.Head.{Head}
use Rattle.c_tree.specs.declared.typed.Site.{Site}
use Rattle.c_tree.specs.declared.typed.BinaryOp.TheVariants.{Subtract}
use Rattle.c_tree.specs.declared.typed.Typed.TheVariants.{And', Binary', Cast', Address', Name, Constant}
use Rattle.c_judge.specs.declared.symbol.Symbol.{Symbol}
use Rattle.c_judge.specs.declared.check.Mode.TheVariants.{Value}
use Rattle.expr_serve.specs.Codes.{text_of}

abbrev x : Symbol
x = record { name = codes "x"; ctype = Int; register = false; function = false }

module _ (at : Site) where
  abbrev of : CType → Head
  of t = record { site = at; ctype = t }

  -- `x`
  named : text_of (x ∷ []) [] Value (Name (of Int) 0) ≡ codes "{ /x Where /w fetch } exec"
  named = refl

  -- `&x`
  address : (a : _) (b : _) → text_of (x ∷ []) [] Value (Address' (of (Pointer' b Int)) a (Name (of Int) 0)) ≡ codes "{ /x Where exch pop } exec"
  address a b = refl

  -- `x - 7`
  difference : (a b : _) → text_of (x ∷ []) [] Value (Binary' (of Int) a (Name (of Int) 0) Subtract b (Constant (of Int) 7)) ≡ codes "{ /x Where /w fetch 7 isub } exec"
  unfolding digits
  difference a b = refl

  -- `(char) x && x`
  both : (a b c : _) → text_of (x ∷ []) [] Value (And' (of Int) a (Cast' (of Char) b (Name (of Int) 0)) c (Name (of Int) 0))
      ≡ codes "{ /x Where /w fetch 24 ishl 24 ishr 0 eq { 0 } { /x Where /w fetch 0 eq { 0 } { 1 } ifelse } ifelse } exec"
  unfolding digits
  both a b c = refl
