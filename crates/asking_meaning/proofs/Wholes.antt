-- Whole commands, between their begin and their end.
use Rattle.std.proofs.Common.{◌≡◌, ℕ, min, ◌-◌, Option, Some, Result, Ok, Err, inl, refl, sym, ap, ◌∙◌, subst, arith}
use Rattle.ps_store.specs.declared.object.Part.TheVariants.{Command}
use Rattle.ps_store.specs.StoreState.{StoreState}
use Rattle.ps_store.specs.Held.{Held}
use Rattle.ps_store.specs.Cut.{mark_of, cut}
use Rattle.dialect_model.specs.TableUse.{TableUse, Trouble, Kind, Eval, use_of}
use Rattle.dialect_model.specs.TableUse.{Refused as RefusedFor, Spent as StepsSpent}
use Rattle.table_asks.specs.declared.fault.Cause.{Cause}
use Rattle.table_asks.specs.declared.fault.AskFault.{AskFault}
use Rattle.table_asks.specs.declared.fault.AskFault.TheVariants.{Refused, Raised, Spent, NoMemory, Broken}
use Rattle.table_asks.specs.declared.inquiry.Inquiry.{Inquiry}
use Rattle.table_asks.specs.Asking.{Comes, left_of, used_by}
use Rattle.claims.specs.Side.{SideState, Change, OnSide, Troubled, MOST_STEPS, table_after, side_after}
use Rattle.claims.specs.Outcome as outcome
use Rattle.asking_meaning.specs.Meant.{Covers, Matched, answer_of, NOTHING, Stands, Begun, IsEnded, AreMeant}

abbrev pub some_of : {A : Type 0} → A → Option A
some_of x = Some x

pub some_is : {A : Type 0} (x y : A) → some_of x ≡ some_of y → x ≡ y
some_is x y h = cc

module _ {A : Type 0} (m : Eval Cause A) (j k : Inquiry) (t : TableUse) where
  abbrev To : Result A (Trouble Cause) → Type 0
  To r = m (used_by j t) r (used_by k t)

  answers : (result : Result A AskFault) (r : Result A (Trouble Cause)) → Comes m j result k → answer_of result ≡ Some r → To r
  answers (Ok x) r h e = subst To (some_is (Ok x) r e) (h t)
  answers (Err (Refused cause)) r h e = subst To (some_is (Err (RefusedFor cause)) r e) (h t)
  answers (Err (Raised x)) r h e = subst To (some_is (Err (Kind x)) r e) (h t)
  answers (Err Spent) r h e = subst To (some_is (Err StepsSpent) r e) (h t)
  answers (Err NoMemory) r h e = absurd (let w = e in cc)
  answers (Err (Broken f)) r h e = absurd (let w = e in cc)

-- memory was there before and behind a command
pub ample : (n : OnSide Change) (t : TableUse) (r : Result Change Troubled) (t' : TableUse) → n t r t' → outcome.with_memory_wanting n t r t'
ample n t (Ok x) t' h = (Ok tt, t, (refl, inl refl), (Ok x, t', h, (Ok tt, t', (refl, inl refl), (refl, refl))))
ample n t (Err e) t' h = (Ok tt, t, (refl, inl refl), (Err e, t', h, (refl, refl)))

-- where a command begins
pub begun_at : (a : SideState) (i j : Inquiry) → Stands i a → Begun i j → use_of j.core.store (left_of j) ≡ use_of a.table MOST_STEPS
begun_at a i j s b =
    ap (λ (x : StoreState). use_of x (j.steps.limit - j.steps.taken)) (b.store ∙ sym s.table)
    ∙ (ap (λ n. use_of a.table (n - j.steps.taken)) b.limit ∙ ap (λ n. use_of a.table (MOST_STEPS - n)) b.taken)

begun_use : (a : SideState) (i j : Inquiry) → Stands i a → Begun i j → used_by j (use_of a.table MOST_STEPS) ≡ use_of a.table MOST_STEPS
begun_use a i j s b = begun_at a i j s b

least : (n : ℕ) → min 0 n ≡ 0
least n = omega arith

cut_to_nothing : (h : Held) → cut h (mark_of NOTHING) ≡ NOTHING
cut_to_nothing h = ap (λ n. record NOTHING { units = n }) (least h.units)

cut_back : (h old : Held) → old ≡ NOTHING → cut h (mark_of old) ≡ NOTHING
cut_back h old e = ap (λ o. cut h (mark_of o)) e ∙ cut_to_nothing h

-- the side after a command has the table that is left
pub table_is : (a : SideState) (r : Result Change Troubled) (t : TableUse) → (side_after a r t).table ≡ table_after a t.store
table_is a (Ok change) t = refl
table_is a (Err e) t = refl

pub same_table : (a : SideState) (i k l : Inquiry) → Stands i a → IsEnded i k l → table_after a k.core.store ≡ record l.core.store { part = Command }
same_table a i k l s e =
    ap (λ (x : StoreState). record k.core.store { command = x.command; part = x.part }) s.table
    ∙ (ap (λ h. record k.core.store { command = h; part = Command }) (s.nothing ∙ sym (cut_back k.core.store.command i.core.store.command s.nothing))
    ∙ ap (λ (x : StoreState). record x { part = Command }) (sym e))

pub left_nothing : (i k l : Inquiry) (a : SideState) → Stands i a → IsEnded i k l → l.core.store.command ≡ NOTHING
left_nothing i k l a s ended = ap (λ (x : StoreState). x.command) ended ∙ cut_back k.core.store.command i.core.store.command s.nothing

pub meant : {A : Type 0} (P : A → Change → Type 0) (asked : Eval Cause A) (m : OnSide Change) (a : SideState) → Covers P asked m → AreMeant P asked m a
meant P asked m a c i j k l result r s b h e ended =
    let t = use_of a.table MOST_STEPS in
    let w : Matched P m t r (used_by k t) = c t r (used_by k t) (subst (λ u. asked u r (used_by k t)) (begun_use a i j s b) (answers asked j k t result r h e)) in
    record {
      result = w.result;
      side = side_after a w.result (used_by k t);
      matches = w.matches;
      comes = record { use_after = used_by k t; comes = ample m t w.result (used_by k t) w.comes; leaves = refl };
      stands = record {
        table = table_is a w.result (used_by k t) ∙ same_table a i k l s ended;
        nothing = left_nothing i k l a s ended;
      };
    }
