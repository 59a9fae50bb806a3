-- How the count of the link's faults stands behind parts of commands.
use Rattle.std.proofs.Common.{◌≡◌, ◌≢◌, ◌∙◌, ◌≤◌, refl, sym, subst, inl, inr, ℕ, List, Option, Result, Ok, Err}
use Rattle.ldb_edge.specs.Count.{Rose}
use Rattle.frame_bytes.specs.Bytes.{Bytes}
use Rattle.abs_mem.specs.Meaning.{Seen}
use Rattle.abs_mem.specs.declared.memory.MemFault.{MemFault}
use Rattle.abs_mem.specs.declared.memory.MemFault.TheVariants.{Outside, LinkFault, BadReply}
use Rattle.wire_talk.specs.declared.fault.TalkFault.{TalkFault}
use Rattle.wire_talk.specs.declared.fault.TalkFault.TheVariants as talk
use Rattle.debug_side.specs.Wrote.{Puts}
use Rattle.debug_side.specs.Planting.{mem_fault, PlantsAll}
use Rattle.table_points.specs.declared.row.Point.{Point}
use Rattle.table_model.specs.Rows.{PointRow}
use Rattle.dialect_model.specs.TableUse.{Eval}
use Rattle.table_asks.specs.declared.fault.Cause.{Cause}
use Rattle.table_asks.specs.declared.fault.AskFault.{AskFault}
use Rattle.table_asks.specs.declared.fault.AskFault.TheVariants.{Refused, Raised, Spent, NoMemory, Broken}
use Rattle.table_asks.specs.declared.inquiry.Inquiry.{Inquiry}
use Rattle.table_asks.specs.Asking.{ComesOver}
use Rattle.table_asks.specs.Faults.{IsUnbroken, memory_fault}
use Rattle.table_asks.specs.Running.{RanOver}
use Rattle.asking.specs.Doing.{Asks, ChangesOver}
use Rattle.asking.specs.Doing.{Change as Stored}
use Rattle.ps_ops.specs.declared.dialect.Operators.{Operators}
use Rattle.evaluating.specs.Told.{StoresNone, StoresAll}
use Rattle.session.specs.Kept.{IsBrokenOff}
use Rattle.session.specs.Counted.{CountsFault, CountsAsk, CountsTalk}

-- since a time before, when it was the same
pub counts_on : {A : Type 0} (f f1 f2 : ℕ) (r : Result A AskFault) → f1 ≡ f → CountsAsk f1 f2 r → CountsAsk f f2 r
counts_on f f1 f2 r e k = subst (λ n. CountsAsk n f2 r) e k

pub fault_on : (f f1 f2 : ℕ) (e : AskFault) → f1 ≡ f → CountsFault f1 f2 e → CountsFault f f2 e
fault_on f f1 f2 r e k = subst (λ n. CountsFault n f2 r) e k

-- what asks nothing of the target
pub unbroken_counts : (f : ℕ) (e : AskFault) → IsUnbroken e → CountsFault f f e
unbroken_counts f (Refused cause) u = refl
unbroken_counts f (Raised e) u = refl
unbroken_counts f Spent u = refl
unbroken_counts f NoMemory u = refl
unbroken_counts f (Broken x) u = absurd u

pub unbroken_on : (f f' : ℕ) → f' ≡ f → (e : AskFault) → IsUnbroken e → CountsFault f f' e
unbroken_on f f' same e u = subst (λ n. CountsFault f n e) (sym same) (unbroken_counts f e u)

-- a talk, told as a command's fault
pub talk_counts : (f f' : ℕ) (e : TalkFault) (why : AskFault) → why ≡ Broken (mem_fault e) → CountsTalk {A = Unit {0}} f f' (Err e) → CountsFault f f' why
talk_counts f f' talk.LinkFault why is k = subst (λ (z : AskFault). CountsFault f f' z) (sym is) k
talk_counts f f' (talk.BadReply frame) why is k = subst (λ (z : AskFault). CountsFault f f' z) (sym is) k

pub broken_whole : (e : MemFault) (why : AskFault) → why ≡ Broken e → why ≢ NoMemory
broken_whole e why is k = let h = sym is ∙ k in cc

module _ {R : Type 0} (s s' : Seen R) where
  pub asks_counts : {A : Type 0} (m : Bytes → Eval Cause A) (i i' : Inquiry) (r : Result A AskFault) → ComesOver m i s r i' s' → CountsAsk s.faults s'.faults r
  asks_counts m i i' (Ok x) d = d.0.faults
  asks_counts m i i' (Err (Refused cause)) d = d.0.faults
  asks_counts m i i' (Err (Raised e)) d = d.0.faults
  asks_counts m i i' (Err Spent) d = d.0.faults
  asks_counts m i i' (Err NoMemory) d = d.0.faults
  asks_counts m i i' (Err (Broken LinkFault)) d = d
  asks_counts m i i' (Err (Broken (BadReply bad))) d = d.faults
  asks_counts m i i' (Err (Broken (Outside p))) d = absurd d

  pub stores_counts : (m : Bytes → Eval Cause Stored) (i i' : Inquiry) (r : Result (List ℕ) AskFault) (rows : List PointRow) → ChangesOver m i s r rows i' s' → CountsAsk s.faults s'.faults r
  stores_counts m i i' (Ok x) rows d = d.0
  stores_counts m i i' (Err f) rows d = asks_counts m i i' (Err f) d

  -- `regs`
  pub read_counts : {A : Type 0} (f : Bytes → Option A) (r : Result A AskFault) → Asks s f r s' → CountsAsk s.faults s'.faults r
  read_counts f (Ok x) d = d.0.faults
  read_counts f (Err (Raised e)) d = d.1.faults
  read_counts f (Err NoMemory) d = d.faults
  read_counts f (Err (Broken LinkFault)) d = d
  read_counts f (Err (Broken (BadReply bad))) d = d.faults
  read_counts f (Err (Broken (Outside p))) d = absurd d
  read_counts f (Err (Refused cause)) d = absurd d
  read_counts f (Err Spent) d = absurd d

  pub puts_counts : (P : _) (r : Result (Unit {0}) TalkFault) → Puts s r P s' → CountsTalk s.faults s'.faults r
  puts_counts P (Ok x) p = p.faults
  puts_counts P (Err talk.LinkFault) p = p
  puts_counts P (Err (talk.BadReply frame)) p = p.faults

  pub plants_counts : (target : ℕ) (old new : List Point) (e : MemFault) (why : AskFault) → why ≡ memory_fault e → PlantsAll target old s (Err e) new s' → CountsFault s.faults s'.faults why
  plants_counts target old new (Outside place) why is p = subst (λ (z : AskFault). CountsFault s.faults s'.faults z) (sym is) p.0
  plants_counts target old new LinkFault why is p = subst (λ (z : AskFault). CountsFault s.faults s'.faults z) (sym is) p
  plants_counts target old new (BadReply frame) why is p = subst (λ (z : AskFault). CountsFault s.faults s'.faults z) (sym is) p.faults

module _ {W R : Type 0} (seen : W → Seen R) where
  pub ran_counts : {A : Type 0} (leads : W → Option (List ℕ) → W → Type 0) (x y : W) (r : Result A AskFault) → RanOver seen leads x r y → CountsAsk (seen x).faults (seen y).faults r
  ran_counts leads x y (Ok text) d = d.0
  ran_counts leads x y (Err (Refused cause)) d = d.0
  ran_counts leads x y (Err (Raised e)) d = d.0
  ran_counts leads x y (Err Spent) d = d.0
  ran_counts leads x y (Err NoMemory) d = d.0
  ran_counts leads x y (Err (Broken LinkFault)) d = d
  ran_counts leads x y (Err (Broken (BadReply bad))) d = d.0
  ran_counts leads x y (Err (Broken (Outside p))) d = absurd d

  abbrev faults : Operators W → ℕ
  faults o = (seen o.memory.below.below.below).faults

  -- `eval`, `code` and `assign`
  pub comes_counts : {A : Type 0} (o o' : Operators W) (r : Result A AskFault) → StoresNone seen o r o' → CountsAsk (faults o) (faults o') r
  comes_counts o o' (Ok x) d = d.faults
  comes_counts o o' (Err (Refused cause)) d = d.faults
  comes_counts o o' (Err (Raised e)) d = d.faults
  comes_counts o o' (Err Spent) d = d.faults
  comes_counts o o' (Err NoMemory) d = d.faults
  comes_counts o o' (Err (Broken LinkFault)) d = d
  comes_counts o o' (Err (Broken (BadReply bad))) d = d.faults
  comes_counts o o' (Err (Broken (Outside p))) d = absurd d

  pub leaves_counts : (o o' : Operators W) (r : Result (Unit {0}) AskFault) → StoresAll seen o r o' → CountsAsk (faults o) (faults o') r
  leaves_counts o o' (Ok x) d = d.faults
  leaves_counts o o' (Err (Raised e)) d = d.faults
  leaves_counts o o' (Err (Broken LinkFault)) d = d
  leaves_counts o o' (Err (Broken (BadReply bad))) d = d.faults
  leaves_counts o o' (Err (Broken (Outside p))) d = absurd d
  leaves_counts o o' (Err (Refused cause)) d = absurd d
  leaves_counts o o' (Err Spent) d = absurd d
  leaves_counts o o' (Err NoMemory) d = absurd d
