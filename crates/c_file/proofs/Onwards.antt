-- External declarations one after another, and files.
use Rattle.std.proofs.Common.{◌≡◌, ◌++◌, ◌∷◌, [], ℕ, suc, List, length, map, Option, Some, None, refl, sym, ap, ◌∙◌, subst}
use Rattle.c_trees.specs.declared.unit.External.{External}
use Rattle.c_judge.specs.Answers.{Answer, Known, Unknown, Broken}
use Rattle.c_file.specs.Files.{State, Externals, AllExternals, Onward}
use Rattle.c_scope.specs.Findings.{Finding, Fine, fine, nothing, ◌beside◌}
use Rattle.c_file.specs.Programs.{Told, Well, Lacks, Breaks, in_file, ◌before◌, AllFiles, next_file}
use Rattle.c_file.specs.Progress.{found_so_far}
use Rattle.c_file.specs.Standing.{told}

none_broken : (o : Option (List ℕ)) (r at : ℕ) → ◌≡◌ {A = Finding} (Broken r at) (found_so_far o) → ⊥
none_broken None r at e = cc
none_broken (Some n) r at e = cc

-- where no rule is broken, what is behind is looked at
pub goes_onward : (u o : Option (List ℕ)) (f : Finding) (A B : Type 0) → (found_so_far u beside f) ≡ found_so_far o → B → Onward f A B
goes_onward u o (Known x) A B e b = b
goes_onward u o (Unknown n) A B e b = b
goes_onward None o (Broken r at) A B e b = absurd (none_broken o r at e)
goes_onward (Some n) o (Broken r at) A B e b = absurd (none_broken o r at e)

module _ (p : State) (e : External) (es : List External) where
  pub one_then : (u o : Option (List ℕ)) (f h : Finding) (q r : State) → (found_so_far u beside f) ≡ found_so_far o → Externals p e f q → AllExternals q es h r → AllExternals p (e ∷ es) (f beside h) r
  one_then u o f h q r t x k = (f, q, x, goes_onward u o f _ _ t (h, k, refl))

  pub one_broken : (r at : ℕ) (q : State) → Externals p e (Broken r at) q → AllExternals p (e ∷ es) (Broken r at) q
  one_broken r at q x = (Broken r at, q, x, (refl, refl))

-- ---- files

-- what is told so far, and what is found in the next file
same_name : (m n : List ℕ) → ◌≡◌ {A = Finding} (Unknown m) (Unknown n) → m ≡ n
same_name m n e = cc

nothing_told : (n : List ℕ) → ◌≡◌ {A = Finding} nothing (Unknown n) → ⊥
nothing_told n e = cc

name_told : (n : List ℕ) → ◌≡◌ {A = Finding} (Unknown n) nothing → ⊥
name_told n e = cc

lacks_first : (m n : List ℕ) (h : Told) → (Lacks m before (Lacks n before h)) ≡ (Lacks m before h)
lacks_first m n Well = refl
lacks_first m n (Lacks k) = refl
lacks_first m n (Breaks r u at) = refl

pub told_on : (a o : Option (List ℕ)) (f : Finding) (u : ℕ) (h : Told) → (found_so_far a beside f) ≡ found_so_far o → (told a before (in_file u f before h)) ≡ (told o before h)
told_on None None (Known x) u h e = refl
told_on None (Some n) (Known x) u h e = absurd (nothing_told n e)
told_on None None (Unknown m) u h e = absurd (name_told m e)
told_on None (Some n) (Unknown m) u h e = ap (λ k. Lacks k before h) (same_name m n e)
told_on None o (Broken r at) u h e = absurd (none_broken o r at e)
told_on (Some m) None (Known x) u h e = absurd (name_told m e)
told_on (Some m) (Some n) (Known x) u h e = ap (λ k. Lacks k before h) (same_name m n e)
told_on (Some m) None (Unknown k) u h e = absurd (name_told m e)
told_on (Some m) (Some n) (Unknown k) u h e = lacks_first m k h ∙ ap (λ k. Lacks k before h) (same_name m n e)
told_on (Some m) o (Broken r at) u h e = absurd (none_broken o r at e)

pub told_breaks : (a : Option (List ℕ)) (r u at : ℕ) → (told a before Breaks r u at) ≡ Breaks r u at
told_breaks None r u at = refl
told_breaks (Some n) r u at = refl

pub told_last : (a : Option (List ℕ)) → (told a before Well) ≡ told a
told_last None = refl
told_last (Some n) = refl

module _ (tags : List (List ℕ)) (p : State) (u : List External) (us : List (List External)) where
  pub file_then : (a o : Option (List ℕ)) (f : Finding) (h : Told) (q r : State) → (found_so_far a beside f) ≡ found_so_far o → AllExternals p u f q → AllFiles tags (next_file tags q) us h r
      → AllFiles tags p (u ∷ us) (in_file p.here.unit f before h) r
  file_then a o f h q r t x k = (f, q, x, goes_onward a o f _ _ t (h, k, refl))

  pub file_broken : (r at : ℕ) (q : State) → AllExternals p u (Broken r at) q → AllFiles tags p (u ∷ us) (Breaks r p.here.unit at) q
  file_broken r at q x = (Broken r at, q, x, (refl, refl))
