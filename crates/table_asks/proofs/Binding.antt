-- What comes behind a query.
use Rattle.std.proofs.Common.{◌≡◌, refl, sym, ap, Result, Ok, Err}
use Rattle.ps_store.specs.StoreState.{StoreState}
use Rattle.frame_bytes.specs.Bytes.{Bytes}
use Rattle.abs_mem.specs.Meaning.{Seen, OnTold}
use Rattle.abs_mem.specs.declared.memory.MemFault.TheVariants.{Outside, LinkFault, BadReply}
use Rattle.table_model.specs.declared.lack.Lack.{Lack}
use Rattle.table_model.specs.declared.lack.Lack.TheVariants as lack
use Rattle.table_model.specs.Reading.{Walked}
use Rattle.table_read.specs.Reads.{in_ok}
use Rattle.dialect_model.specs.TableUse.{TableUse, with_store, trouble_of, Trouble, Refused as RefusedFor, Kind, Spent as StepsSpent, Wanting, Eval, gives, ◌>>=◌, Looks, told, lacks, forced, broken, wanting}
use Rattle.table_asks.specs.declared.fault.Cause.{Cause}
use Rattle.table_asks.specs.declared.fault.AskFault.{AskFault}
use Rattle.table_asks.specs.declared.fault.AskFault.TheVariants.{Refused, Raised, Spent, NoMemory, Broken}
use Rattle.table_asks.specs.declared.inquiry.Inquiry.{Inquiry}
use Rattle.table_asks.specs.Asking.{used_by, Comes, ComesOver}

-- ---- a fault ends all

module _ {A B : Type 0} (m : Eval Cause A) (k : A → Eval Cause B) (old new : Inquiry) where
  pub behind_fault : (f : AskFault) → Comes m old (Err f) new → Comes (m >>= k) old (Err f) new
  behind_fault (Refused cause) h = λ t. (Err (RefusedFor cause), used_by new t, h t, (refl, refl))
  behind_fault (Raised e) h = λ t. (Err (Kind e), used_by new t, h t, (refl, refl))
  behind_fault Spent h = λ t. (Err StepsSpent, used_by new t, h t, (refl, refl))
  behind_fault NoMemory h = λ t. let w = h t in record { use_after = w.use_after; comes = (Err Wanting, w.use_after, w.comes, (refl, refl)); closed = w.closed }
  behind_fault (Broken f) h = λ t. absurd (h t)

module _ {R A B : Type 0} (m : Bytes → Eval Cause A) (k : Bytes → A → Eval Cause B) (old new : Inquiry) (s s' : Seen R) where
  on_told : (f : AskFault) → OnTold s (λ b. Comes (m b) old (Err f) new) → OnTold s (λ b. Comes (m b >>= k b) old (Err f) new)
  on_told f h = record { holds = λ (b : Bytes) (r : R) t. behind_fault (m b) (k b) old new f (h.holds b r t) }

  pub behind_fault_over : (f : AskFault) → ComesOver m old s (Err f) new s' → ComesOver (λ b. m b >>= k b) old s (Err f) new s'
  behind_fault_over (Refused cause) h = (h.0, on_told (Refused cause) h.1)
  behind_fault_over (Raised e) h = (h.0, on_told (Raised e) h.1)
  behind_fault_over Spent h = (h.0, on_told Spent h.1)
  behind_fault_over NoMemory h = (h.0, on_told NoMemory h.1)
  behind_fault_over (Broken LinkFault) h = h
  behind_fault_over (Broken (BadReply frame)) h = h
  behind_fault_over (Broken (Outside p)) h = h

  -- what comes behind an answer that was had, and takes nothing more
  pub behind_answer : (x : A) (y : B) → ComesOver m old s (Ok x) new s' → ((b : Bytes) (u : TableUse) → k b x u (Ok y) u) → ComesOver (λ b. m b >>= k b) old s (Ok y) new s'
  behind_answer x y h f = (h.0, record { holds = λ (b : Bytes) (r : R) told t. (Ok x, used_by new t, h.1.holds b r told t, f b (used_by new t)) })

  pub behind_refusal : (x : A) (cause : Cause) → ComesOver m old s (Ok x) new s' → ((b : Bytes) (u : TableUse) → k b x u (Err (RefusedFor cause)) u) → ComesOver (λ b. m b >>= k b) old s (Err (Refused cause)) new s'
  behind_refusal x cause h f = (h.0, record { holds = λ (b : Bytes) (r : R) told t. (Ok x, used_by new t, h.1.holds b r told t, f b (used_by new t)) })

-- ---- memory may be wanting where a query was answered

abbrev answers : {A : Type 0} → A → Result A (Trouble Cause)
answers x = Ok x

pub looks_wants : {A : Type 0} (q : StoreState → Walked A) (t t' : TableUse) (r : Result A (Trouble Cause)) (x : A) → Looks q t r t' → r ≡ answers x → Looks {R = Cause} {A = A} q t (Err Wanting) t'
looks_wants q _ _ _ x (told e) h = wanting
looks_wants q _ _ _ x (lacks e k) h = absurd (let i = h in cc)
looks_wants q _ _ _ x (forced e f l) h = forced e f (looks_wants q _ _ _ x l h)
looks_wants q _ _ _ x (broken e f) h = absurd (let i = h in cc)
looks_wants q _ _ _ x wanting h = wanting

module _ {R A : Type 0} (q : Bytes → StoreState → Walked A) (old new : Inquiry) (s s' : Seen R) where
  pub wanting_behind : (x : A) → ComesOver (λ b. Looks (q b)) old s (Ok x) new s' → ComesOver (λ b. Looks (q b)) old s (Err NoMemory) new s'
  wanting_behind x h = (
    h.0,
    record { holds = λ (b : Bytes) (r : R) told t. record { use_after = used_by new t; comes = looks_wants (q b) (used_by old t) (used_by new t) (Ok x) x (h.1.holds b r told t) refl; closed = refl } },
  )

-- ---- what a query gives, and what is made of it

record Gave {A B : Type 0} (w : Walked A) (f : A → B) (y : B) : Type 0 where
  pub value : A
  pub is : w ≡ Ok value
  pub gives_it : y ≡ f value

abbrev ok_of : {B : Type 0} → B → Walked B
ok_of y = Ok y

ok_is : {B : Type 0} (x y : B) → ok_of x ≡ ok_of y → x ≡ y
ok_is x y h = cc

gave : {A B : Type 0} (w : Walked A) (f : A → B) (y : B) → in_ok f w ≡ Ok y → Gave w f y
gave (Ok x) f y h = record { value = x; is = refl; gives_it = ok_is y (f x) (sym h) }
gave (Err l) f y h = absurd (let k = h in cc)

lacked : {A B : Type 0} (w : Walked A) (f : A → B) (l : Lack) → in_ok f w ≡ Err l → w ≡ Err l
lacked (Ok x) f l h = absurd (let k = h in cc)
lacked (Err m) f l h = let k = h in cc

module _ {A B : Type 0} (q : StoreState → Walked A) (f : A → B) where
  pub looks_mapped : (t : TableUse) (r : Result B (Trouble Cause)) (t' : TableUse) → Looks (λ s. in_ok f (q s)) t r t' → (Looks q >>= λ x. gives (f x)) t r t'
  looks_mapped t _ _ (told {x = y} e) = let g = gave (q t.store) f y e in (Ok g.value, t, told g.is, (ap (λ (z : B). answers z) g.gives_it, refl))
  looks_mapped t _ _ (lacks {l = l} {e = x} e k) = (Err (Kind x), t, lacks (lacked (q t.store) f l e) k, (refl, refl))
  looks_mapped t r t' (forced {u = u} {n = n} {c = c} e h l) = let i = looks_mapped (with_store t c.store n) r t' l in (i.0, i.1, forced (lacked (q t.store) f (lack.Unforced u) e) h i.2, i.3)
  looks_mapped t _ _ (broken {u = u} {n = n} {c = c} {f = x} e h) = (Err (trouble_of x), with_store t c.store n, broken (lacked (q t.store) f (lack.Unforced u) e) h, (refl, refl))
  looks_mapped t _ _ wanting = (Err Wanting, t, wanting, (refl, refl))

-- ---- another way to say what a part of a command is

module _ {A : Type 0} (m m' : Eval Cause A) (says : (t : TableUse) (r : Result A (Trouble Cause)) (t' : TableUse) → m t r t' → m' t r t') (old new : Inquiry) where
  pub comes_as : (r : Result A AskFault) → Comes m old r new → Comes m' old r new
  comes_as (Ok x) h = λ t. says (used_by old t) (Ok x) (used_by new t) (h t)
  comes_as (Err (Refused cause)) h = λ t. says (used_by old t) (Err (RefusedFor cause)) (used_by new t) (h t)
  comes_as (Err (Raised e)) h = λ t. says (used_by old t) (Err (Kind e)) (used_by new t) (h t)
  comes_as (Err Spent) h = λ t. says (used_by old t) (Err StepsSpent) (used_by new t) (h t)
  comes_as (Err NoMemory) h = λ t. let w = h t in record { use_after = w.use_after; comes = says (used_by old t) (Err Wanting) w.use_after w.comes; closed = w.closed }
  comes_as (Err (Broken f)) h = λ t. absurd (h t)

module _ {R A : Type 0} (m m' : Bytes → Eval Cause A) (same : (b : Bytes) (t : TableUse) (r : Result A (Trouble Cause)) (t' : TableUse) → m b t r t' → m' b t r t') (old new : Inquiry) (s s' : Seen R) where
  told_as : (r : Result A AskFault) → OnTold s (λ b. Comes (m b) old r new) → OnTold s (λ b. Comes (m' b) old r new)
  told_as r h = record { holds = λ (b : Bytes) (rest : R) t. comes_as (m b) (m' b) (same b) old new r (h.holds b rest t) }

  pub over_as : (r : Result A AskFault) → ComesOver m old s r new s' → ComesOver m' old s r new s'
  over_as (Ok x) h = (h.0, told_as (Ok x) h.1)
  over_as (Err (Refused cause)) h = (h.0, told_as (Err (Refused cause)) h.1)
  over_as (Err (Raised e)) h = (h.0, told_as (Err (Raised e)) h.1)
  over_as (Err Spent) h = (h.0, told_as (Err Spent) h.1)
  over_as (Err NoMemory) h = (h.0, told_as (Err NoMemory) h.1)
  over_as (Err (Broken LinkFault)) h = h
  over_as (Err (Broken (BadReply frame))) h = h
  over_as (Err (Broken (Outside p))) h = h
