-- `print` in a frame: the symbol of the name in scope there.
use Rattle.std.proofs.Common.{◌≡◌, refl, sym, subst, ℕ, Bool, true, false, List, Option, Some, None, Result, Ok, Err}
use Rattle.machine_state.specs.Regions.{Regions}
use Rattle.ps_store.specs.declared.object.DictId.{DictId}
use Rattle.ps_store.specs.Store.{closed_part}
use Rattle.frame_bytes.specs.declared.frame.Frame.{Frame}
use Rattle.abs_mem.specs.Meaning.{Seen}
use Rattle.dialect_model.specs.Dial.{Target}
use Rattle.dialect_model.specs.TableUse.{TableUse, use_of, Eval, Looks, ◌>>=◌, Refused as RefusedFor}
use Rattle.table_asks.specs.declared.fault.Cause.{Cause}
use Rattle.table_asks.specs.declared.fault.AskFault.{AskFault}
use Rattle.table_asks.specs.declared.fault.AskFault.TheVariants.{Refused}
use Rattle.table_asks.specs.declared.inquiry.Inquiry.{Inquiry}
use Rattle.table_asks.specs.Asking.{left_of, Comes}
use Rattle.table_asks.specs.Closing.{Settles}
use Rattle.asking.specs.Printing.{EndsFrom, EndsOver, printed, dial_in, one_name, or_no_scope, printed_in}
use Rattle.table_model.specs.Symbols.{scope_of, symbol_named}
use Rattle.c_reading.specs.Readings.{is_identifier}
use Rattle.table_asks.specs.declared.fault.Cause.TheVariants.{BadSyntax, NoScope}
use Rattle.asking.proofs.Ending.{part_stays, fails_from, then_from, asked_fails}

module _ {R A : Type 0} (m : Regions → Eval Cause A) (at : Regions → Target) (before : TableUse) (i : Inquiry) (s : Seen R) where
  -- a part that answers here
  pub here_fails : (cause : Cause) → before.store ≡ i.core.store → before.left ≡ left_of i → ((regions : Regions) → m regions before (Err (RefusedFor cause)) before) → EndsFrom m at before s (Err (Refused cause)) i s
  here_fails cause store left h = λ regions rest t. (t, record { use_after = before; comes = h regions; store = store; left = left })

-- ---- in a frame

module _ {R : Type 0} (at : Regions → Target) (n : ℕ) (f : Frame) (name : List ℕ) (i : Inquiry) (s : Seen R) where
  abbrev start : TableUse
  start = use_of i.core.store (left_of i)

  abbrev whole : Target → Eval Cause (List ℕ)
  whole t = printed_in n f name t

  abbrev scoped : Eval Cause (Option DictId)
  scoped = Looks (λ s. scope_of s n f)

  abbrev behind_symbol : Option DictId → Regions → Option DictId → Eval Cause (List ℕ)
  behind_symbol scope regions found = or_no_scope found >>= λ x. printed x (dial_in (at regions) f scope)

  abbrev behind_scope : Regions → Option DictId → Eval Cause (List ℕ)
  behind_scope regions scope = Looks (λ s. symbol_named s scope name) >>= behind_symbol scope regions

  abbrev behind_name : Regions → Unit {0} → Eval Cause (List ℕ)
  behind_name regions u = scoped >>= behind_scope regions

  pub no_name : is_identifier name ≡ false → EndsOver whole at i s (Err (Refused BadSyntax)) i s
  no_name unnamed part =
      fails_from (λ regions. one_name (is_identifier name)) behind_name at start s s i (Refused BadSyntax)
      (here_fails (λ regions. one_name (is_identifier name)) at start i s BadSyntax refl refl (λ regions. subst (λ (b : Bool). one_name b start (Err (RefusedFor BadSyntax)) start) (sym unnamed) (refl, refl)))

  module _ (is_one : is_identifier name ≡ true) where
    named : (r : Result (List ℕ) AskFault) (i' : Inquiry) (s' : Seen R) → EndsFrom (λ regions. scoped >>= behind_scope regions) at start s r i' s' → EndsFrom (λ regions. whole (at regions)) at start s r i' s'
    named r i' s' h =
        then_from (λ regions. one_name (is_identifier name)) behind_name at start s s' i' s tt start
        (λ regions rest t. (t, subst (λ (b : Bool). one_name b start (Ok tt) start) (sym is_one) (refl, refl))) r h

    pub no_scope : (f' : AskFault) (i' : Inquiry) → Comes scoped i (Err f') i' → EndsOver whole at i s (Err f') i' s
    no_scope f' i' h part = named (Err f') i' s (fails_from (λ regions. scoped) behind_scope at start s s i' f' (asked_fails scoped at i i' s f' h))

    module _ (j : Inquiry) (scope : Option DictId) (in_scope : Comes scoped i (Ok scope) j) where
      abbrev mid : TableUse
      mid = use_of j.core.store (left_of j)

      abbrev looked : Eval Cause (Option DictId)
      looked = Looks (λ s. symbol_named s scope name)

      scope_then : (r : Result (List ℕ) AskFault) (i' : Inquiry) (s' : Seen R) → EndsFrom (λ regions. behind_scope regions scope) at mid s r i' s' → EndsFrom (λ regions. whole (at regions)) at start s r i' s'
      scope_then r i' s' h = named r i' s' (then_from (λ regions. scoped) behind_scope at start s s' i' s scope mid (λ regions rest t. (t, in_scope start)) r h)

      pub no_symbol : (f' : AskFault) → Comes looked j (Err f') j → EndsOver whole at i s (Err f') j s
      no_symbol f' h part = scope_then (Err f') j s (fails_from (λ regions. looked) (behind_symbol scope) at mid s s j f' (asked_fails looked at j j s f' h))

      module _ (found : Option DictId) (is : Comes looked j (Ok found) j) where
        symbol_then : (r : Result (List ℕ) AskFault) (i' : Inquiry) (s' : Seen R) → EndsFrom (λ regions. behind_symbol scope regions found) at mid s r i' s' → EndsFrom (λ regions. whole (at regions)) at start s r i' s'
        symbol_then r i' s' h = scope_then r i' s' (then_from (λ regions. looked) (behind_symbol scope) at mid s s' i' s found mid (λ regions rest t. (t, is mid)) r h)

        pub unfound : found ≡ None → EndsOver whole at i s (Err (Refused NoScope)) j s
        unfound none part =
            symbol_then (Err (Refused NoScope)) j s
            (fails_from (λ regions. or_no_scope found) (λ regions x. printed x (dial_in (at regions) f scope)) at mid s s j (Refused NoScope)
            (here_fails (λ regions. or_no_scope found) at mid j s NoScope refl refl (λ regions. subst (λ (o : Option DictId). or_no_scope o mid (Err (RefusedFor NoScope)) mid) (sym none) (refl, refl))))

        pub found_then : (x : DictId) → found ≡ Some x → Settles (closed_part i.core.store) (closed_part j.core.store) → (r : Result (List ℕ) AskFault) (i' : Inquiry) (s' : Seen R)
            → EndsOver (λ t. printed x (dial_in t f scope)) at j s r i' s' → EndsOver whole at i s r i' s'
        found_then x some settles r i' s' h part =
            symbol_then r i' s'
            (then_from (λ regions. or_no_scope found) (λ regions x. printed x (dial_in (at regions) f scope)) at mid s s' i' s x mid
            (λ regions rest t. (t, subst (λ (o : Option DictId). or_no_scope o mid (Ok x) mid) (sym some) (refl, refl))) r
            (h (part_stays i.core.store j.core.store settles part)))
