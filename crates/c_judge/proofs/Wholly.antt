-- A part that is made of a tree and of what is known of it.
use Rattle.std.proofs.Common.{◌≡◌, ◌∙◌, sym, ap, subst, Result, Ok, Err}
use Rattle.c_lex.specs.declared.token.Place.{Place}
use Rattle.c_tree.specs.declared.typed.Typed.{Typed}
use Rattle.c_tree.specs.Types.{type_of, head_of}
use Rattle.c_typing.specs.Plain.{plain}
use Rattle.c_judge.specs.declared.part.Part.{Part}
use Rattle.c_judge.specs.declared.part.Facts.{Facts}
use Rattle.c_judge.specs.declared.fault.Fault.{Fault}
use Rattle.c_judge.specs.Answers.{Known}
use Rattle.c_judge.specs.Judgement.{Verdict}
use Rattle.c_judge.specs.Parts.{judged_as}
use Rattle.c_judge.specs.Elaboration.{site_of}
use Rattle.c_judge.specs.Judges.{IsPart, IsFault, Makes}

pub makes_part : (j : Verdict) (P : Typed → Type 0) (at : Place) (z : Typed) (f : Facts) (r : Result Part Fault) → IsPart z f r → j ≡ Known (judged_as (plain (type_of z)) f) → P z → (head_of z).site ≡ site_of at → Makes j P at r
makes_part j P at z f (Ok p) (w, u) k i s = (
  k ∙ (ap (λ y. Known (judged_as (plain (type_of y)) f)) (sym w) ∙ ap (λ g. Known (judged_as (plain (type_of p.typed.value)) g)) (sym u)),
  subst P (sym w) i,
  ap (λ y. (head_of y).site) w ∙ s,
)
makes_part j P at z f (Err e) h k i s = subst (λ e. IsFault j e) (sym h) tt
