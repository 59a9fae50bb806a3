-- An operator that looks something up, and then leaves its result.
use Rattle.std.proofs.Common.{◌≡◌, ℕ, List, Result, Ok, Err, refl, ap, subst, ◌∙◌}
use Rattle.ldb_edge.specs.Count.{Rose}
use Rattle.machine_state.specs.Regions.{Regions}
use Rattle.ps_store.specs.StoreState.{StoreState}
use Rattle.ps_step.specs.declared.fault.PsError.{PsError}
use Rattle.ps_step.specs.declared.fault.PsFault.TheVariants.{Error, Spent, Link, NoMemory}
use Rattle.ps_step.specs.declared.machine.PsCore.{PsCore}
use Rattle.ps_step.specs.Results.{◌>>=◌}
use Rattle.ps_step.specs.State.{Made}
use Rattle.ps_step.specs.Effects.{Does}
use Rattle.ps_run.specs.Runs.{Answer}
use Rattle.frame_bytes.specs.Bytes.{Bytes, no_regions}
use Rattle.abs_mem.specs.Meaning.{Seen, Same}
use Rattle.abs_mem.specs.declared.memory.MemFault.TheVariants.{Outside, LinkFault, BadReply}
use Rattle.dialect_model.specs.Dial.{Dial, Act, Acted, Raises}
use Rattle.dialect_model.specs.Acting.{with_state, with_text}
use Rattle.dialect_model.specs.Operators.{act}
use Rattle.ps_append.specs.Appending.{Appends, appending}
use Rattle.ps_bare.specs.Bare.{ActsAlone}
use Rattle.ps_ops.specs.declared.halt.Halt.{Halt}
use Rattle.ps_ops.specs.declared.halt.Halt.TheVariants.{Raised, Wanting, Broken, Needs}
use Rattle.ps_ops.specs.Desk.{Desk, dial_of, memory_of}
use Rattle.ps_ops.specs.Halts.{left}
use Rattle.ps_ops.specs.Asking.{LooksUp}
use Rattle.ps_ops.specs.Acting.{ActsOn}

module _ {R : Type 0} (op : ℕ) (k : Desk) (s : Seen R) (c : PsCore) where
  -- its operands raise an error
  pub unasked : (e : PsError) → ((rg : Regions) → act op (dial_of k rg) c ≡ Err (Raises e)) → ActsOn op k s c (Err (Raised e)) k s c
  unasked e h = (refl, refl, λ rg r t. (t, refl, h rg))

  -- what it looks up raises an error, needs a unit, or has no answer
  pub look_halts : {A : Type 0} (f : Bytes → Acted A) (more : Dial → A → Act) (s' : Seen R) (x : Halt) → ((rg : Regions) → act op (dial_of k rg) c ≡ (f (memory_of k rg) >>= more (dial_of k rg)))
      → LooksUp c.store f s (Err x) s' → ActsOn op k s c (Err x) k s' c
  look_halts f more s' (Raised e) a h = (h.0.faults, refl, λ rg r t. (h.0.keeps (memory_of k rg) r t, refl, a rg ∙ ap (λ m. m >>= more (dial_of k rg)) (h.1.holds (memory_of k rg) r t)))
  look_halts f more s' (Needs u) a h = (
    h.0.faults,
    refl,
    λ rg r t. let on = h.1.holds (memory_of k rg) r t in (h.0.keeps (memory_of k rg) r t, refl, a rg ∙ ap (λ m. m >>= more (dial_of k rg)) on.0, on.1),
  )
  look_halts f more s' Wanting a h = absurd h
  look_halts f more s' (Broken LinkFault) a h = h
  look_halts f more s' (Broken (BadReply frame)) a h = record { faults = h.faults; never = λ rg r t. h.never (memory_of k rg) r t }
  look_halts f more s' (Broken (Outside p)) a h = h

  -- it leaves a state
  pub look_leaves : {A : Type 0} (f : Bytes → Acted A) (leave : A → Made) (x : A) (s' : Seen R) (r : Answer) (c' : PsCore)
      → ((rg : Regions) → act op (dial_of k rg) c ≡ (f (memory_of k rg) >>= λ x. with_state (dial_of k rg) (leave x))) → LooksUp c.store f s (Ok x) s' → Does r c c' (leave x) → ActsOn op k s c (left r) k s' c'
  look_leaves f leave x s' (Ok u) c' a h d = (
    h.0.faults,
    λ rg r t. (rg, h.0.keeps (memory_of k rg) r t, a rg ∙ ap (λ m. m >>= λ x. with_state (dial_of k rg) (leave x)) (h.1.holds (memory_of k rg) r t) ∙ ap (with_state (dial_of k rg)) d),
  )
  look_leaves f leave x s' (Err (Error e)) c' a h d = (
    h.0.faults,
    d.1,
    λ rg r t. (h.0.keeps (memory_of k rg) r t, refl, a rg ∙ ap (λ m. m >>= λ x. with_state (dial_of k rg) (leave x)) (h.1.holds (memory_of k rg) r t) ∙ ap (with_state (dial_of k rg)) d.0),
  )
  look_leaves f leave x s' (Err NoMemory) c' a h d = (record { faults = h.0.faults; keeps = λ rg r t. h.0.keeps (memory_of k rg) r t }, λ rg r t. refl)
  look_leaves f leave x s' (Err Spent) c' a h d = absurd d
  look_leaves f leave x s' (Err Link) c' a h d = absurd d

  -- an operator on the state alone
  pub state_acts : (made : Made) (r : Answer) (c' : PsCore) → ((rg : Regions) → act op (dial_of k rg) c ≡ with_state (dial_of k rg) made) → Does r c c' made → ActsOn op k s c (left r) k s c'
  state_acts made (Ok x) c' a d = (refl, λ rg r t. (rg, t, a rg ∙ ap (with_state (dial_of k rg)) d))
  state_acts made (Err (Error e)) c' a d = (refl, d.1, λ rg r t. (t, refl, a rg ∙ ap (with_state (dial_of k rg)) d.0))
  state_acts made (Err NoMemory) c' a d = (record { faults = refl; keeps = λ rg r t. t }, λ rg r t. refl)
  state_acts made (Err Spent) c' a d = absurd d
  state_acts made (Err Link) c' a d = absurd d

  pub alone_acts : (r : Answer) (c' : PsCore) → ((d : Dial) → ActsAlone op d c r c') → ActsOn op k s c (left r) k s c'
  alone_acts (Ok x) c' h = (refl, λ rg r t. (rg, t, h (dial_of k rg)))
  alone_acts (Err (Error e)) c' h = let one = h (dial_of k no_regions) in (refl, one.1, λ rg r t. let all = h (dial_of k rg) in (t, refl, all.0))
  alone_acts (Err NoMemory) c' h = (record { faults = refl; keeps = λ rg r t. t }, λ rg r t. refl)
  alone_acts (Err Spent) c' h = absurd (h (dial_of k no_regions))
  alone_acts (Err Link) c' h = absurd (h (dial_of k no_regions))

  -- text is appended
  pub text_acts : {A : Type 0} (f : Bytes → Acted A) (given : A → Result (List ℕ) PsError) (x : A) (s' : Seen R) (r : Answer) (out : List ℕ) (c' : PsCore)
      → ((rg : Regions) → act op (dial_of k rg) c ≡ (f (memory_of k rg) >>= λ x. with_text (dial_of k rg) (appending 1 (given x) k.out c))) → LooksUp c.store f s (Ok x) s'
      → Appends 1 (given x) k.out c r out c' → ActsOn op k s c (left r) (record k { out = out }) s' c'
  text_acts f given x s' (Ok u) out c' a h d = (
    h.0.faults,
    λ rg r t.
        (rg, h.0.keeps (memory_of k rg) r t, a rg ∙ ap (λ m. m >>= λ x. with_text (dial_of k rg) (appending 1 (given x) k.out c)) (h.1.holds (memory_of k rg) r t) ∙ ap (with_text (dial_of k rg)) d),
  )
  text_acts f given x s' (Err (Error e)) out c' a h d = (
    h.0.faults,
    d.2,
    λ rg r t. (
      h.0.keeps (memory_of k rg) r t,
      ap (λ o. dial_of (record k { out = o }) rg) d.1,
      a rg ∙ ap (λ m. m >>= λ x. with_text (dial_of k rg) (appending 1 (given x) k.out c)) (h.1.holds (memory_of k rg) r t)
          ∙ ap (λ g. with_text (dial_of k rg) (appending 1 g k.out c)) d.0,
    ),
  )
  text_acts f given x s' (Err NoMemory) out c' a h d = (record { faults = h.0.faults; keeps = λ rg r t. h.0.keeps (memory_of k rg) r t }, λ rg r t. refl)
  text_acts f given x s' (Err Spent) out c' a h d = absurd d
  text_acts f given x s' (Err Link) out c' a h d = absurd d

together : {R : Type 0} (s s₁ s₂ : Seen R) → Same s s₁ → Same s₁ s₂ → Same s s₂
together s s₁ s₂ h k = record { faults = k.faults ∙ h.faults; keeps = λ b r q. k.keeps b r (h.keeps b r q) }

-- one look-up behind another
pub looks_then : {R A B : Type 0} (t : StoreState) (f : Bytes → Acted A) (g : A → Bytes → Acted B) (s s₁ s₂ : Seen R) (x : A) (r : Result B Halt) → LooksUp t f s (Ok x) s₁ → LooksUp t (g x) s₁ r s₂
    → LooksUp t (λ b. f b >>= λ x. g x b) s r s₂
looks_then t f g s s₁ s₂ x (Ok y) h k =
    (together s s₁ s₂ h.0 k.0, record { holds = λ b r q. ap (λ m. m >>= λ x. g x b) (h.1.holds b r q) ∙ k.1.holds b r (h.0.keeps b r q) })
looks_then t f g s s₁ s₂ x (Err (Raised e)) h k =
    (together s s₁ s₂ h.0 k.0, record { holds = λ b r q. ap (λ m. m >>= λ x. g x b) (h.1.holds b r q) ∙ k.1.holds b r (h.0.keeps b r q) })
looks_then t f g s s₁ s₂ x (Err (Needs u)) h k =
    (together s s₁ s₂ h.0 k.0, record { holds = λ b r q. let on = k.1.holds b r (h.0.keeps b r q) in (ap (λ m. m >>= λ x. g x b) (h.1.holds b r q) ∙ on.0, on.1) })
looks_then t f g s s₁ s₂ x (Err Wanting) h k = k
looks_then t f g s s₁ s₂ x (Err (Broken LinkFault)) h k = subst (λ n. Rose n s₂.faults) h.0.faults k
looks_then t f g s s₁ s₂ x (Err (Broken (BadReply frame))) h k = record { faults = k.faults ∙ h.0.faults; never = λ b r q. k.never b r (h.0.keeps b r q) }
looks_then t f g s s₁ s₂ x (Err (Broken (Outside p))) h k = k
