-- A walk as a look-up.
use Rattle.std.proofs.Common.{◌≡◌, Bool, true, false, Option, Some, None, Result, Ok, Err, refl, ap, subst, ◌∙◌}
use Rattle.ps_store.specs.StoreState.{StoreState}
use Rattle.ps_step.specs.declared.fault.PsError.TheVariants.{Undefined, TypeCheck}
use Rattle.frame_bytes.specs.Bytes.{Bytes}
use Rattle.table_model.specs.declared.lack.Lack.TheVariants.{Missing, WrongType, Outside, NoPoint, TooDeep, Unforced}
use Rattle.table_model.specs.Reading.{Walked}
use Rattle.abs_mem.specs.Meaning.{Seen}
use Rattle.abs_mem.specs.Walking.{Walks, shape_of}
use Rattle.abs_mem.specs.declared.memory.MemFault.TheVariants as memory
use Rattle.abs_mem.specs.declared.walk.WalkFault.{WalkFault}
use Rattle.abs_mem.specs.declared.walk.WalkFault.TheVariants as fault
use Rattle.dialect_model.specs.Dial.{Acted, Raises, looked}
use Rattle.ps_bare.proofs.Lacking.{Lacks}
use Rattle.ps_ops.specs.Halts.{halted_of}
use Rattle.ps_ops.specs.Asking.{LooksUp}

missing : {A : Type 0} (w : Walked A) → shape_of w ≡ Some true → looked w ≡ Err (Raises Undefined)
missing (Ok x) h = absurd (let k = h in cc)
missing (Err Missing) h = refl
missing (Err NoPoint) h = refl
missing (Err WrongType) h = absurd (let k = h in cc)
missing (Err TooDeep) h = absurd (let k = h in cc)
missing (Err Outside) h = absurd (let k = h in cc)
missing (Err (Unforced u)) h = absurd (let k = h in cc)

mistyped : {A : Type 0} (t : StoreState) (w : Walked A) → Lacks t w → shape_of w ≡ Some false → looked w ≡ Err (Raises TypeCheck)
mistyped t (Ok x) l h = absurd (let k = h in cc)
mistyped t (Err Missing) l h = absurd (let k = h in cc)
mistyped t (Err NoPoint) l h = absurd (let k = h in cc)
mistyped t (Err WrongType) l h = refl
mistyped t (Err TooDeep) l h = absurd l
mistyped t (Err Outside) l h = absurd (let k = h in cc)
mistyped t (Err (Unforced u)) l h = absurd (let k = h in cc)

pub looks_up : {R A : Type 0} (t : StoreState) (f : Bytes → Walked A) (s s' : Seen R) (r : Result A WalkFault) → ((b : Bytes) → Lacks t (f b)) → Walks f s r s' → LooksUp t (λ b. looked (f b)) s (halted_of r) s'
looks_up t f s s' (Ok x) l h = (h.0, record { holds = λ b r k. ap looked (h.1.holds b r k) })
looks_up t f s s' (Err (fault.Memory (memory.Outside p))) l h = (h.0, record { holds = λ b r k. ap looked (h.1.holds b r k) })
looks_up t f s s' (Err (fault.Memory memory.LinkFault)) l h = h
looks_up t f s s' (Err (fault.Memory (memory.BadReply frame))) l h = h
looks_up t f s s' (Err (fault.Shape true)) l h = (h.0, record { holds = λ b r k. missing (f b) (h.1.holds b r k) })
looks_up t f s s' (Err (fault.Shape false)) l h = (h.0, record { holds = λ b r k. mistyped t (f b) (l b) (h.1.holds b r k) })
looks_up t f s s' (Err (fault.Unforced u)) l h = (h.0, record { holds = λ b r k. (ap looked (h.1.holds b r k), subst (Lacks t) (h.1.holds b r k) (l b)) })
