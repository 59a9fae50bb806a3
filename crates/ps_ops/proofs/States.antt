-- Operators that look nothing up, by their numbers.
use Rattle.std.proofs.Common.{◌≡◌, ◌≤◌, ℕ, true, List, Err, sym, subst}
use Rattle.ldb_words.specs.declared.kinds.Order.{Order}
use Rattle.machine_state.specs.Regions.{Regions}
use Rattle.ps_step.specs.declared.fault.PsError.TheVariants.{Undefined}
use Rattle.ps_step.specs.declared.machine.PsCore.{PsCore}
use Rattle.ps_step.specs.State.{Made}
use Rattle.ps_step.specs.Effects.{Does}
use Rattle.ps_run.specs.Runs.{Answer}
use Rattle.frame_bytes.specs.declared.frame.Space.TheVariants.{Memory, Registers}
use Rattle.abs_mem.specs.Meaning.{Seen}
use Rattle.ps_places.specs.Places.{placing_at}
use Rattle.ps_symbols.specs.Naming.{anchoring, giving_struct}
use Rattle.dialect_model.specs.Dial.{Dial}
use Rattle.dialect_model.specs.Acting.{with_state}
use Rattle.dialect_model.specs.Operators.{act}
use Rattle.ps_bare.specs.Bare.{ActsAlone}
use Rattle.ps_bare.proofs.Acts.{acts_0, acts_1, acts_3, acts_27, acts_past}
use Rattle.ps_ops.specs.declared.view.View.{View}
use Rattle.ps_ops.specs.declared.halt.Halt.TheVariants.{Raised}
use Rattle.ps_ops.specs.Desk.{Desk, desk_of, dial_of}
use Rattle.ps_ops.specs.Halts.{left}
use Rattle.ps_ops.specs.Acting.{ActsOn}
use Rattle.ps_ops.proofs.Asked.{unasked, state_acts, alone_acts}

module _ {R : Type 0} (v : View) (o : Order) (cell : ℕ) (out : List ℕ) (s : Seen R) (c : PsCore) (op : ℕ) where
  abbrev k : Desk
  k = desk_of v o cell out

  at : (n : ℕ) (made : Made) (r : Answer) (c' : PsCore) → op ≡ n → ((rg : Regions) → act n (dial_of k rg) c ≡ with_state (dial_of k rg) made) → Does r c c' made
      → ActsOn op (desk_of v o cell out) s c (left r) (desk_of v o cell out) s c'
  at n made r c' e a d = subst (λ j. ActsOn j k s c (left r) k s c') (sym e) (state_acts n k s c made r c' a d)

  module _ (r : Answer) (c' : PsCore) where
    pub anchor_acts : op ≡ 0 → Does r c c' (anchoring true c) → ActsOn op (desk_of v o cell out) s c (left r) (desk_of v o cell out) s c'
    anchor_acts e d = at 0 (anchoring true c) r c' e (λ rg. acts_0 (dial_of k rg) c) d

    pub absolute_acts : op ≡ 1 → Does r c c' (placing_at Memory c) → ActsOn op (desk_of v o cell out) s c (left r) (desk_of v o cell out) s c'
    absolute_acts e d = at 1 (placing_at Memory c) r c' e (λ rg. acts_1 (dial_of k rg) c) d

    pub register_acts : op ≡ 3 → Does r c c' (placing_at Registers c) → ActsOn op (desk_of v o cell out) s c (left r) (desk_of v o cell out) s c'
    register_acts e d = at 3 (placing_at Registers c) r c' e (λ rg. acts_3 (dial_of k rg) c) d

    pub struct_acts : op ≡ 27 → Does r c c' (giving_struct true c) → ActsOn op (desk_of v o cell out) s c (left r) (desk_of v o cell out) s c'
    struct_acts e d = at 27 (giving_struct true c) r c' e (λ rg. acts_27 (dial_of k rg) c) d

    pub words_act : ((d : Dial) → ActsAlone op d c r c') → ActsOn op (desk_of v o cell out) s c (left r) (desk_of v o cell out) s c'
    words_act h = alone_acts op k s c r c' h

  pub past_acts : 33 ≤ op → ActsOn op (desk_of v o cell out) s c (Err (Raised Undefined)) (desk_of v o cell out) s c
  past_acts h = unasked op k s c Undefined (λ rg. acts_past (dial_of k rg) c op h)
