-- `print` of a variable, by its two runs.
use Rattle.std.proofs.Common.{◌≡◌, ◌∙◌, refl, sym, ap, subst, ℕ, false, List, [], ◌∷◌, ◌++◌, append_assoc, codes, Option, Result, Ok, Err}
use Rattle.machine_state.specs.Regions.{Regions}
use Rattle.ps_store.specs.declared.object.Part.TheVariants.{Command}
use Rattle.ps_store.specs.declared.object.DictId.{DictId}
use Rattle.ps_step.specs.declared.item.Item.{Item}
use Rattle.frame_bytes.specs.declared.frame.Frame.{Frame}
use Rattle.abs_mem.specs.Meaning.{Seen}
use Rattle.abs_mem.specs.declared.memory.MemFault.TheVariants.{Outside, LinkFault, BadReply}
use Rattle.dialect_model.specs.Dial.{Target, memory_bytes}
use Rattle.dialect_model.specs.TableUse.{TableUse, use_of, Trouble, Kind, Eval, gives, ◌>>=◌, Refused as RefusedFor, Spent as StepsSpent}
use Rattle.dialect_model.specs.Running.{Run}
use Rattle.ps_ops.specs.declared.dialect.Operators.{Operators}
use Rattle.told_runs.specs.Told.{target}
use Rattle.table_asks.specs.declared.fault.Cause.{Cause}
use Rattle.table_asks.specs.declared.fault.AskFault.{AskFault}
use Rattle.table_asks.specs.declared.fault.AskFault.TheVariants.{Refused, Raised, Spent, NoMemory, Broken}
use Rattle.table_asks.specs.declared.inquiry.Inquiry.{Inquiry}
use Rattle.table_asks.specs.Asking.{left_of, Comes}
use Rattle.asking.specs.Lines.{line}
use Rattle.asking.specs.Printing.{EndsOnTold, EndsFrom, EndsOver, target_with, used_at, run_at, PlacedOver, ShownOver, placed, shown, printed, variable_type, dial_in}
use Rattle.asking.proofs.Ending.{fails_then, then_ends, fails_from, then_from, asked_fails}

abbrev answered : List ℕ → Result (List ℕ) (Trouble Cause)
answered text = Ok text

-- ---- a variable

module _ {W R : Type 0} (seen : W → Seen R) (x : DictId) (f : Frame) (scope : Option DictId) (i : Inquiry) (t : Operators W) where
  abbrev s : Seen R
  s = target seen t

  abbrev at : Regions → Target
  at regions = target_with t regions

  abbrev start : TableUse
  start = use_of i.core.store (left_of i)

  abbrev whole : Target → Eval Cause (List ℕ)
  whole target = printed x (dial_in target f scope)

  abbrev said : Run → Eval Cause (List ℕ)
  said run = gives (line (codes "value " ++ run.dial.out))

  abbrev behind_type : Regions → DictId → Eval Cause (List ℕ)
  behind_type regions type = placed x (dial_in (at regions) f scope) >>= λ place. shown type place >>= said

  pub type_fails : (f' : AskFault) → Comes (variable_type x) i (Err f') i → EndsOver whole at i s (Err f') i s
  type_fails f' h part = fails_from (λ regions. variable_type x) behind_type at start s s i f' (asked_fails (variable_type x) at i i s f' h)

  module _ (type : DictId) (typed : Comes (variable_type x) i (Ok type) i) where
    abbrev behind_place : Run → Eval Cause (List ℕ)
    behind_place place = shown type place >>= said

    with_type : (r : Result (List ℕ) AskFault) (i' : Inquiry) (s' : Seen R) → EndsFrom (λ regions. behind_type regions type) at start s r i' s' → EndsFrom (λ regions. whole (at regions)) at start s r i' s'
    with_type r i' s' h = then_from (λ regions. variable_type x) behind_type at start s s' i' s type start (λ regions rest t. (t, typed start)) r h

    pub unplaced : (f' : AskFault) (i' : Inquiry) (t' : Operators W) → PlacedOver seen x f scope i t (Err f') i' t' → EndsOver whole at i s (Err f') i' (target seen t')
    unplaced f' i' t' h part =
        with_type (Err f') i' (target seen t')
        (fails_from (λ regions. placed x (dial_in (at regions) f scope)) (λ regions. behind_place) at start s (target seen t') i' f' (h part))

    module _ (j i' : Inquiry) (u t' : Operators W) (place : PlacedOver seen x f scope i t (Ok tt) j u) where
      -- what the printer's run comes to is what the whole does
      unshown_on : (e : Trouble Cause) → (u.view.raw ≡ false → (own : Option DictId) (execution : List Item) → EndsOnTold (λ regions. shown type (run_at u j execution regions)) (target_with u) (used_at u j own) (target seen u) (Err e) i' (target seen t'))
          → i.core.store.part ≡ Command → EndsOnTold (λ regions. behind_type regions type) at start s (Err e) i' (target seen t')
      unshown_on e h part regions rest told_here =
          let r = place part regions rest told_here in
          let w = h r.raw r.own r.execution r.regions' rest r.tells in (
            subst (λ (b : Target). (target seen t').tells (memory_bytes b) rest) r.same w.0,
            then_ends (placed x (dial_in (at regions) f scope)) behind_place start i' (run_at u j r.execution r.regions') (used_at u j r.own) (Err e) r.comes
                (fails_then (shown type (run_at u j r.execution r.regions')) said (used_at u j r.own) i' e w.1),
          )

      pub unshown : (f' : AskFault) → ShownOver seen type j u (Err f') i' t' → EndsOver whole at i s (Err f') i' (target seen t')
      unshown (Refused cause) h part = with_type (Err (Refused cause)) i' (target seen t') (unshown_on (RefusedFor cause) h part)
      unshown (Raised e) h part = with_type (Err (Raised e)) i' (target seen t') (unshown_on (Kind e) h part)
      unshown Spent h part = with_type (Err Spent) i' (target seen t') (unshown_on StepsSpent h part)
      unshown NoMemory h part =
          λ regions rest told_here.
          let r = place part regions rest told_here in
          subst (λ (b : Target). (target seen t').tells (memory_bytes b) rest) r.same (h r.raw r.own r.execution r.regions' rest r.tells)
      unshown (Broken LinkFault) h part = tt
      unshown (Broken (BadReply frame)) h part =
          with_type (Err (Broken (BadReply frame))) i' (target seen t') (λ regions rest told_here. (let r = place part regions rest told_here in h r.raw r.own r.execution r.regions' rest r.tells))
      unshown (Broken (Outside p)) h part = tt

      -- there is no memory for the line
      pub unworded : ShownOver seen type j u (Ok tt) i' t' → EndsOver whole at i s (Err NoMemory) i' (target seen t')
      unworded h part =
          λ regions rest told_here.
          let r = place part regions rest told_here in
          let v = h r.raw r.own r.execution r.regions' rest r.tells in
          subst (λ (b : Target). (target seen t').tells (memory_bytes b) rest) (v.same ∙ r.same) v.tells

      pub shown_done : ShownOver seen type j u (Ok tt) i' t' → (text : List ℕ) → text ≡ codes "value " ++ (t'.out ++ 10 ∷ []) → EndsOver whole at i s (Ok text) i' (target seen t')
      shown_done h text says part =
          let is : text ≡ line (codes "value " ++ t'.out) = says ∙ sym (append_assoc (codes "value ") t'.out (10 ∷ [])) in
          with_type (Ok text) i' (target seen t') (λ regions rest told_here.
          let r = place part regions rest told_here in
          let v = h r.raw r.own r.execution r.regions' rest r.tells in (
            subst (λ (b : Target). (target seen t').tells (memory_bytes b) rest) (v.same ∙ r.same) v.tells,
            then_ends (placed x (dial_in (at regions) f scope)) behind_place start i' (run_at u j r.execution r.regions') (used_at u j r.own) (Ok text) r.comes
                (then_ends (shown type (run_at u j r.execution r.regions')) said (used_at u j r.own) i' (run_at t' i' v.execution v.regions') (used_at t' i' v.own) (Ok text) v.comes
                (record { use_after = used_at t' i' v.own; comes = (ap (λ (t : List ℕ). answered t) is, refl); store = refl; left = refl })),
          ))
