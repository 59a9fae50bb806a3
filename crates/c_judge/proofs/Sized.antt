-- `sizeof` of a complete type that is not too large.
use Rattle.std.proofs.Common.{◌≡◌, ◌≤◌, ℕ, Bool, true, false, List, ◌∙◌, sym, ap, subst}
use Rattle.std.proofs.lemmas.Bool.{le-leb}
use Rattle.c_tree.specs.declared.types.StructDef.{StructDef}
use Rattle.c_typing.specs.Plain.{Plain, Unsigned, is_complete}
use Rattle.c_typing.specs.declared.constant.Constant.TheVariants.{Number}
use Rattle.c_judge.specs.Answers.{Known}
use Rattle.c_typing.specs.Values.{size_of}
use Rattle.c_judge.specs.Judgement.{sized, folded}

pub sized_known : (defs : List StructDef) (at : ℕ) (b : Bool) (u t : Plain) (m : ℕ) → u ≡ t → b ≡ is_complete defs u → b ≡ true → (m ≡ size_of defs u) × (size_of defs u ≤ 1048576) → sized defs at t ≡ Known (folded (Number m) Unsigned)
sized_known defs at true u t m e h n (w, k) =
    let c : is_complete defs t ≡ true = sym (h ∙ ap (is_complete defs) e) in
    let l = le-leb (size_of defs t) 1048576 (subst (λ q. size_of defs q ≤ 1048576) e k) in
    rw (c, l) (ap (λ n. Known (folded (Number n) Unsigned)) (sym (w ∙ ap (size_of defs) e)))
sized_known defs at false u t m e h n k = cc
