-- What the code's names at file scope are.
use Rattle.std.specs.Prelude.{◌≡◌, ℕ, true, List, [], ◌∷◌, Result, Ok, Err}
use Rattle.c_judge.specs.declared.fault.Fault.{Fault}
use Rattle.c_judge.specs.Judges.{IsFault}
use Rattle.c_linkage.specs.declared.file_names.FileName.{FileName as Row}
use Rattle.c_scope.specs.declared.meaning.Meaning.{Meaning}
use Rattle.c_scope.specs.Here.{meaning_of}
use Rattle.c_scope.specs.Findings.{nothing}
use Rattle.c_linkage.specs.Names.{FileName, one_linkage, one_type, name_found, told_before}

abbrev pub file_name : Row → FileName
file_name f = record { name = f.name.now; unit = f.unit; is_static = f.is_static; denoted = meaning_of f.meaning }

-- each declaration agrees with those before it
abbrev pub AreConsistent : List FileName → Type 0
AreConsistent [] = Unit {0}
AreConsistent (f ∷ fs) = (one_linkage f fs ≡ true) × (one_type f fs ≡ true) × AreConsistent fs

abbrev pub IsDeclared : List FileName → FileName → ℕ → Result Meaning Fault → List FileName → Type 0
IsDeclared fs f at (Ok m) gs = (name_found fs f at ≡ nothing) × (meaning_of m ≡ told_before fs f) × (gs ≡ f ∷ fs)
IsDeclared fs f at (Err e) gs = IsFault (name_found fs f at) e × (gs ≡ fs)
