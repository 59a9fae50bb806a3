-- What is made of one part.
use Rattle.std.proofs.Common.{◌≡◌, sym, ap, subst, Result}
use Rattle.c_judge.specs.declared.fault.Fault.{Fault}
use Rattle.c_judge.specs.declared.fault.Fault.TheVariants.{Unknown, Rule, NoMemory}
use Rattle.c_judge.specs.Answers as answer
use Rattle.c_judge.specs.Answers.{Answer, ◌then◌}
use Rattle.c_judge.specs.Judges.{IsFault, Gives}

pub fails : {A B : Type 0} (j : Answer A) (f : A → Answer B) (e : Fault) → IsFault j e → IsFault (◌then◌ j f) e
fails j f (Unknown name) h = ap (λ w. ◌then◌ w f) h
fails j f (Rule r at) h = ap (λ w. ◌then◌ w f) h
fails j f NoMemory h = tt

pub goes_on : {A B : Type 0} (j : Answer A) (x : A) (f : A → Answer B) → j ≡ answer.Known x → ◌then◌ j f ≡ f x
goes_on j x f h = ap (λ w. ◌then◌ w f) h

pub gives : {A B C : Type 0} (g : C → B) (j : Answer A) (x : A) (f : A → Answer B) (r : Result C Fault) → j ≡ answer.Known x → Gives g (f x) r → Gives g (◌then◌ j f) r
gives g j x f r h k = subst (λ w. Gives g (◌then◌ w f) r) (sym h) k
