-- One pointer, and the rest.
use Rattle.std.proofs.Common.{◌≡◌, ◌<◌, ◌-◌, ℕ, zero, suc, List, refl, sym, ◌∙◌, arith}
use Rattle.c_tree.specs.declared.types.StructDef.{StructDef}
use Rattle.c_typing.specs.Plain.{Plain}
use Rattle.c_judge.specs.Answers.{Known, ◌then◌}
use Rattle.c_judge.specs.declared.fault.Fault.{Fault}
use Rattle.c_judge.specs.Judgement.{pointer, pointers}
use Rattle.c_judge.specs.Judges.{IsFault}
use Rattle.c_judge.proofs.Faults.{then_fails, then_gives}

pointers_step : (defs : List StructDef) (at n : ℕ) (t : Plain) → 0 < n → pointers defs at n t ≡ ◌then◌ (pointer defs at t) (pointers defs at (n - 1))
pointers_step defs at zero t h = absurd (omega arith)
pointers_step defs at (suc n) t h = let e : suc n - 1 ≡ n = omega arith in rw e refl

-- one pointer less to make
pub pointers_next : (defs : List StructDef) (at n : ℕ) (t u : Plain) → 0 < n → pointer defs at t ≡ Known u → pointers defs at (n - 1) u ≡ pointers defs at n t
pointers_next defs at n t u h k = sym (pointers_step defs at n t h ∙ then_gives (pointer defs at t) u (pointers defs at (n - 1)) k)

pub pointers_fail : (defs : List StructDef) (at n : ℕ) (t : Plain) (f : Fault) → 0 < n → IsFault (pointer defs at t) f → IsFault (pointers defs at n t) f
pointers_fail defs at n t f h k = let e = pointers_step defs at n t h in rw e (then_fails (pointer defs at t) (pointers defs at (n - 1)) f k)
