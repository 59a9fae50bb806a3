-- Calls with their arguments in a `Vec`.
use Rattle.std.proofs.Common.{◌≡◌, ℕ, false, List, ◌∷◌, ◌∙◌, sym, refl, ap, Option, Some, None, Result, Vec, unwrap_or}
use Rattle.std.specs.declared.alloc.Global.{Global}
use Rattle.c_lex.specs.declared.token.Place.{Place}
use Rattle.c_tree.specs.declared.types.CType.{CType}
use Rattle.c_tree.specs.declared.typed.Head.{Head}
use Rattle.c_tree.specs.declared.typed.Typed.{Typed, Row_of-Typed, end_of-Typed, more_of-Typed, items-the_row-Typed, items_hidden-the_row-Typed-0}
use Rattle.c_tree.specs.declared.typed.Typed.TheVariants.{Call, Call'}
use Rattle.c_tree.specs.Rows.{exprs}
use Rattle.c_typing.specs.Plain.{plain}
use Rattle.c_typing.specs.declared.constant.Constant.TheVariants.{Variable}
use Rattle.c_judge.specs.Answers.{Known}
use Rattle.c_judge.specs.Judgement.{Callee, result_of, called, value}
use Rattle.c_judge.specs.Elaboration.{IsCall, site_of}
use Rattle.c_judge.specs.Judges.{IsPart, Makes}
use Rattle.c_judge.specs.declared.part.Part.{Part}
use Rattle.c_judge.specs.declared.fault.Fault.{Fault}
use Rattle.c_judge.proofs.Wholly.{makes_part}
use Rattle.c_judge.specs.Calls.{number_or_none}

exprs_of : (n : _) (row : Row_of-Typed n) → exprs row ≡ items-the_row-Typed n row
exprs_of n end_of-Typed = refl
exprs_of n (more_of-Typed e rest) = ap (λ es. e ∷ es) (exprs_of _ rest)

abbrev row_in : Typed → (n : _) × Row_of-Typed n
row_in (Call' h f _ row) = (_, row)
row_in _ = (_, end_of-Typed)

call_is : (h : Head) (n m : ℕ) (v : Vec Typed Global) (xs : List Typed) → n ≡ m → v.items ≡ xs → IsCall (λ k. k ≡ m) xs (Call h n v)
call_is h n m v xs e w = let row = row_in (Call h n v) in (e, exprs_of row.0 row.1 ∙ (items_hidden-the_row-Typed-0 v ∙ w))

number_unwrap : (o : Option ℕ) → unwrap_or o 0 ≡ number_or_none o
number_unwrap None = refl
number_unwrap (Some n) = refl

pub call_makes : (at : Place) (f : Callee) (xs : List Typed) (o : Option ℕ) (n : ℕ) (t : CType) (h : Head) (v : Vec Typed Global) (r : Result Part Fault)
    → IsPart (Call h n v) (record { lvalue = false; register = false; string = false; constant = Variable }) r
    → plain t ≡ result_of f → h.site ≡ site_of at → h.ctype ≡ t → n ≡ unwrap_or o 0 → v.items ≡ xs
    → Makes (called f) (IsCall (λ k. k ≡ number_or_none o) xs) at r
call_makes at f xs o n t h v r p e s c w i =
    makes_part (called f) (IsCall (λ k. k ≡ number_or_none o) xs) at (Call h n v) _ r p
    (ap (λ u. Known (value u)) (sym (ap plain c ∙ e))) (call_is h n (number_or_none o) v xs (w ∙ number_unwrap o) i) s
