-- Commands over the bytes that a memory tells.
use Rattle.std.proofs.Common.{◌≡◌, ℕ, List, Option, Some, None, Result, Ok, Err, refl, sym, ap, ◌∙◌, subst}
use Rattle.machine_state.specs.State.{MachineState, order_of}
use Rattle.frame_bytes.specs.Bytes.{Bytes, no_places}
use Rattle.abs_mem.specs.Meaning.{Seen}
use Rattle.table_model.specs.Rows.{PointRow}
use Rattle.dialect_model.specs.TableUse.{TableUse, Trouble, Kind, Eval}
use Rattle.dialect_model.specs.TableUse.{Refused as RefusedFor, Spent as StepsSpent}
use Rattle.table_asks.specs.declared.fault.Cause.{Cause}
use Rattle.table_asks.specs.declared.fault.AskFault.{AskFault}
use Rattle.table_asks.specs.declared.fault.AskFault.TheVariants.{Refused, Raised, Spent, NoMemory, Broken}
use Rattle.table_asks.specs.declared.inquiry.Inquiry.{Inquiry}
use Rattle.table_asks.specs.Asking.{Comes, ComesOver}
use Rattle.asking.specs.Doing.{Change as Stored}
use Rattle.claims.specs.Side.{SideState, Change, OnSide, Troubled, memory_of, with_memory, side_after}
use Rattle.claims.specs.Outcome as outcome
use Rattle.asking_meaning.specs.Meant.{Matches, Covers, Says, Stores, answer_of, Stands, Begun, IsEnded, Meant}
use Rattle.asking_meaning.specs.Told.{if_done, MeantOver, AsksAreMeant, StoresAreMeant}
use Rattle.asking_meaning.proofs.Wholes.{some_is, meant}

abbrev bytes_of : MachineState → Bytes
bytes_of m = record { order = order_of m; regions = m.memory; registers = no_places; cell = None }

-- ---- what the side is after a command

-- what of a side a command may change beside its table
abbrev Keeps : (a b : SideState) → Type 0
Keeps a b = (b.machine ≡ a.machine) × (b.frame ≡ a.frame) × (b.breaks ≡ a.breaks)

done_side : (a b : SideState) (change : Change) (t : TableUse) → change.side ≡ b → Keeps b (side_after a (Ok change) t)
done_side a b change t e = (ap (λ (x : SideState). x.machine) e, ap (λ (x : SideState). x.frame) e, ap (λ (x : SideState). x.breaks) e)

undone_side : (a : SideState) (e : Troubled) (t : TableUse) → Keeps a (side_after a (Err e) t)
undone_side a e t = (refl, refl, refl)

kept_by : (a b c : SideState) → b ≡ c → Keeps a c → Keeps a b
kept_by a b c e k = subst (Keeps a) (sym e) k

-- ---- commands that ask

module _ {R : Type 0} (s s' : Seen R) (a : SideState) (rest : R) where
  over : {A : Type 0} (m : Bytes → Eval Cause A) (j k : Inquiry) (result : Result A AskFault) (r : Result A (Trouble Cause)) → s.tells (memory_of a) rest → ComesOver m j s result k s' → answer_of result ≡ Some r
      → Comes (m (memory_of a)) j result k × s'.tells (memory_of a) rest
  over m j k (Ok x) r told h e = (h.1.holds (memory_of a) rest told, h.0.keeps (memory_of a) rest told)
  over m j k (Err (Refused cause)) r told h e = (h.1.holds (memory_of a) rest told, h.0.keeps (memory_of a) rest told)
  over m j k (Err (Raised x)) r told h e = (h.1.holds (memory_of a) rest told, h.0.keeps (memory_of a) rest told)
  over m j k (Err Spent) r told h e = (h.1.holds (memory_of a) rest told, h.0.keeps (memory_of a) rest told)
  over m j k (Err NoMemory) r told h e = absurd (let w = e in cc)
  over m j k (Err (Broken f)) r told h e = absurd (let w = e in cc)

  -- the side after a command that only chooses a frame
  pub asked_side : (frame : ℕ) (m : OnSide Change) (l : Inquiry) (r : Result (List ℕ) (Trouble Cause)) (result : Result Change Troubled) (side : SideState) (use_after : TableUse)
      → Matches (Says (record a { frame = frame })) r result → outcome.Comes m a result side → side ≡ side_after a result use_after → Stands l side → s'.tells (memory_of a) rest
      → MeantOver m a r (if_done r frame a.frame) a.breaks l s' rest
  asked_side frame m l (Ok text) (Ok change) side u w c e st told =
      let k : Keeps (record a { frame = frame }) side = kept_by (record a { frame = frame }) side (side_after a (Ok change) u) e (done_side a (record a { frame = frame }) change u w.1) in
      record { result = Ok change; side = side; matches = w.0; comes = c; frame_is = k.1; breaks_are = k.2; stands = st; tells = subst (λ (x : MachineState). s'.tells (bytes_of x) rest) (sym k.0) told }
  asked_side frame m l (Ok text) (Err f) side u w c e st told = absurd w
  asked_side frame m l (Err x) (Ok change) side u w c e st told = absurd w
  asked_side frame m l (Err x) (Err f) side u w c e st told =
      let k : Keeps a side = kept_by a side (side_after a (Err f) u) e (undone_side a f u) in
      record { result = Err f; side = side; matches = w; comes = c; frame_is = k.1; breaks_are = k.2; stands = st; tells = subst (λ (x : MachineState). s'.tells (bytes_of x) rest) (sym k.0) told }

pub asks_meant : {R : Type 0} (s s' : Seen R) (asked : Bytes → Eval Cause (List ℕ)) (m : OnSide Change) (a : SideState) (frame : ℕ) → Covers (Says (record a { frame = frame })) (asked (memory_of a)) m → AsksAreMeant s s' asked m a frame
asks_meant s s' asked m a frame c rest i j k l result r told stands begun comes e ended =
    let o = over s s' a rest asked j k result r told comes e in
    let w : Meant (Says (record a { frame = frame })) m a r l = meant (Says (record a { frame = frame })) (asked (memory_of a)) m a c i j k l result r stands begun o.0 e ended in
    asked_side s s' a rest frame m l r w.result w.side w.comes.use_after w.matches w.comes w.comes.leaves w.stands o.1

-- ---- commands that store

abbrev undone_answer : Trouble Cause → Option (Result (List ℕ) (Trouble Cause))
undone_answer x = Some (Err x)

abbrev stored_fault : AskFault → Result Stored AskFault
stored_fault f = Err f

module _ {R : Type 0} (s s' : Seen R) (a : SideState) (rest : R) (m : OnSide Change) (l : Inquiry) where
  stored_side : (x : Stored) (result : Result Change Troubled) (side : SideState) (u : TableUse) → Matches (Stores a) (Ok x) result → outcome.Comes m a result side → side ≡ side_after a result u → Stands l side
      → s'.tells x.bytes rest → MeantOver m a (Ok x.text) a.frame x.breaks l s' rest
  stored_side x (Ok change) side u w c e st told =
      let b : SideState = record (with_memory x.bytes.regions a) { breaks = x.breaks } in
      let k : Keeps b side = kept_by b side (side_after a (Ok change) u) e (done_side a b change u w.0.1) in
      let machine : side.machine ≡ change.side.machine = ap (λ (y : SideState). y.machine) e in
      record { result = Ok change; side = side; matches = w.0.0; comes = c; frame_is = k.1; breaks_are = k.2; stands = st; tells = subst (λ (y : Bytes). s'.tells y rest) (w.1 ∙ ap bytes_of (sym machine)) told }
  stored_side x (Err f) side u w c e st told = absurd w

  unstored_side : (x : Trouble Cause) (result : Result Change Troubled) (side : SideState) (u : TableUse) → Matches (Stores a) (Err x) result → outcome.Comes m a result side → side ≡ side_after a result u → Stands l side
      → s'.tells (memory_of a) rest → MeantOver m a (Err x) a.frame a.breaks l s' rest
  unstored_side x (Ok change) side u w c e st told = absurd w
  unstored_side x (Err f) side u w c e st told =
      let k : Keeps a side = kept_by a side (side_after a (Err f) u) e (undone_side a f u) in
      record { result = Err f; side = side; matches = w; comes = c; frame_is = k.1; breaks_are = k.2; stands = st; tells = subst (λ (y : MachineState). s'.tells (bytes_of y) rest) (sym k.0) told }

  unstored : (x : Trouble Cause) (r : Result (List ℕ) (Trouble Cause)) (breaks : List PointRow) → undone_answer x ≡ Some r → Meant (Stores a) m a (Err x) l → s'.tells (memory_of a) rest → MeantOver m a r a.frame (if_done r breaks a.breaks) l s' rest
  unstored x r breaks e w told =
      subst (λ (r : Result (List ℕ) (Trouble Cause)). MeantOver m a r a.frame (if_done r breaks a.breaks) l s' rest) (some_is (Err x) r e)
      (unstored_side x w.result w.side w.comes.use_after w.matches w.comes w.comes.leaves w.stands told)

module _ {R : Type 0} (s s' : Seen R) (asked : Bytes → Eval Cause Stored) (m : OnSide Change) (a : SideState) (c : Covers (Stores a) (asked (memory_of a)) m) where
  whole : (i j k l : Inquiry) (x : Trouble Cause) (f : AskFault) → Stands i a → Begun i j → Comes (asked (memory_of a)) j (Err f) k → answer_of (stored_fault f) ≡ Some (Err x) → IsEnded i k l → Meant (Stores a) m a (Err x) l
  whole i j k l x f stands begun comes e ended = meant (Stores a) (asked (memory_of a)) m a c i j k l (Err f) (Err x) stands begun comes e ended

  pub stores_meant : StoresAreMeant s s' asked m a
  stores_meant rest i j k l (Ok text) r breaks told stands begun comes e ended =
      let h = comes.1 (memory_of a) rest told in
      let x : Stored = record { text = text; breaks = breaks; bytes = h.0 } in
      let w : Meant (Stores a) m a (Ok x) l = meant (Stores a) (asked (memory_of a)) m a c i j k l (Ok x) (Ok x) stands begun h.1 refl ended in
      subst (λ (r : Result (List ℕ) (Trouble Cause)). MeantOver m a r a.frame (if_done r breaks a.breaks) l s' rest) (some_is (Ok text) r e)
      (stored_side s s' a rest m l x w.result w.side w.comes.use_after w.matches w.comes w.comes.leaves w.stands h.2)
  stores_meant rest i j k l (Err (Refused cause)) r breaks told stands begun comes e ended =
      let o = over s s' a rest asked j k (Err (Refused cause)) (Err (RefusedFor cause)) told comes refl in
      unstored s s' a rest m l (RefusedFor cause) r breaks e (whole i j k l (RefusedFor cause) (Refused cause) stands begun o.0 refl ended) o.1
  stores_meant rest i j k l (Err (Raised x)) r breaks told stands begun comes e ended =
      let o = over s s' a rest asked j k (Err (Raised x)) (Err (Kind x)) told comes refl in
      unstored s s' a rest m l (Kind x) r breaks e (whole i j k l (Kind x) (Raised x) stands begun o.0 refl ended) o.1
  stores_meant rest i j k l (Err Spent) r breaks told stands begun comes e ended =
      let o = over s s' a rest asked j k (Err Spent) (Err StepsSpent) told comes refl in
      unstored s s' a rest m l StepsSpent r breaks e (whole i j k l StepsSpent Spent stands begun o.0 refl ended) o.1
  stores_meant rest i j k l (Err NoMemory) r breaks told stands begun comes e ended = absurd (let w = e in cc)
  stores_meant rest i j k l (Err (Broken f)) r breaks told stands begun comes e ended = absurd (let w = e in cc)
