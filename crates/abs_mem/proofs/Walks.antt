-- Walks one after another.
use Rattle.std.proofs.Common.{◌≡◌, ◌∙◌, refl, sym, ap, subst, ℕ, Bool, true, false, List, Option, Some, None, Result, Ok, Err}
use Rattle.ldb_edge.specs.Count.{Rose}
use Rattle.ldb_words.specs.declared.kinds.Kind.TheVariants.{Word}
use Rattle.frame_bytes.specs.declared.frame.Space.TheVariants.{Memory}
use Rattle.frame_bytes.specs.Bytes.{Bytes, fetched}
use Rattle.ps_step.specs.Results.{◌>>=◌}
use Rattle.table_model.specs.declared.lack.Lack.{Lack}
use Rattle.table_model.specs.declared.lack.Lack.TheVariants as lack
use Rattle.table_model.specs.Reading.{Walked}
use Rattle.abs_mem.specs.declared.memory.MemFault.{MemFault}
use Rattle.abs_mem.specs.declared.memory.MemFault.TheVariants.{Outside, LinkFault, BadReply}
use Rattle.abs_mem.specs.declared.walk.WalkFault.{WalkFault}
use Rattle.abs_mem.specs.declared.walk.WalkFault.TheVariants as fault
use Rattle.abs_mem.specs.Meaning.{Seen, Same, OnTold, Untold, Led}
use Rattle.abs_mem.specs.Walking.{Walks, LedWalk, told, told_of, shape_of}

-- ---- what is told

pub same_here : {R : Type 0} (s : Seen R) → Same s s
same_here {R = R} s = record { faults = refl; keeps = λ (b : Bytes) (r : R) t. t }

pub same_then : {R : Type 0} (s u t : Seen R) → Same s u → Same u t → Same s t
same_then {R = R} s u t h k = record { faults = k.faults ∙ h.faults; keeps = λ (b : Bytes) (r : R) x. k.keeps b r (h.keeps b r x) }

pub rose_then : (a b c : ℕ) → b ≡ a → Rose b c → Rose a c
rose_then a b c e h = subst (λ (n : ℕ). Rose n c) e h

-- ---- a step that can be left out: the functions are the same where the bytes are told

on_both : {R A B : Type 0} (s u : Seen R) (f : Bytes → Walked A) (g : Bytes → Walked B) (x : Walked A) (y : Walked B) → Same s u → OnTold u (λ b. f b ≡ x) → ((b : Bytes) → f b ≡ x → g b ≡ y) → OnTold s (λ b. g b ≡ y)
on_both {R = R} s u f g x y h k same = record { holds = λ (b : Bytes) (r : R) t. same b (k.holds b r (h.keeps b r t)) }

on_told : {R : Type 0} (s u : Seen R) (P Q : Bytes → Type 0) → Same s u → OnTold s (λ b. Q b) → OnTold u (λ b. P b) → (W : Bytes → Type 0) → ((b : Bytes) → Q b → P b → W b) → OnTold s (λ b. W b)
on_told {R = R} s u P Q h q p W f = record { holds = λ (b : Bytes) (r : R) t. f b (q.holds b r t) (p.holds b r (h.keeps b r t)) }

-- what comes behind a walk that had an answer
pub walks_then : {R A B : Type 0} (s u t : Seen R) (f : Bytes → Walked A) (g : A → Bytes → Walked B) (w : Bytes → Walked B) (x : A) (r : Result B WalkFault)
    → Walks f s (Ok x) u → Walks (g x) u r t → ((b : Bytes) → f b ≡ Ok x → w b ≡ g x b) → Walks w s r t
walks_then s u t f g w x (Ok y) h k e =
    (same_then s u t h.0 k.0, on_told s u (λ b. g x b ≡ Ok y) (λ b. f b ≡ Ok x) h.0 h.1 k.1 (λ b. w b ≡ Ok y) (λ b p q. e b p ∙ q))
walks_then s u t f g w x (Err (fault.Memory (Outside p))) h k e =
    (same_then s u t h.0 k.0, on_told s u (λ b. g x b ≡ Err lack.Outside) (λ b. f b ≡ Ok x) h.0 h.1 k.1 (λ b. w b ≡ Err lack.Outside) (λ b p q. e b p ∙ q))
walks_then s u t f g w x (Err (fault.Memory LinkFault)) h k e = rose_then s.faults u.faults t.faults h.0.faults k
walks_then {R = R} s u t f g w x (Err (fault.Memory (BadReply frame))) h k e =
    record { faults = k.faults ∙ h.0.faults; never = λ (b : Bytes) (r : R) y. k.never b r (h.0.keeps b r y) }
walks_then s u t f g w x (Err (fault.Shape missing)) h k e = (
  same_then s u t h.0 k.0,
  on_told s u (λ b. shape_of (g x b) ≡ Some missing) (λ b. f b ≡ Ok x) h.0 h.1 k.1 (λ b. shape_of (w b) ≡ Some missing) (λ b p q. ap shape_of (e b p) ∙ q),
)
walks_then s u t f g w x (Err (fault.Unforced n)) h k e =
    (same_then s u t h.0 k.0, on_told s u (λ b. g x b ≡ Err (lack.Unforced n)) (λ b. f b ≡ Ok x) h.0 h.1 k.1 (λ b. w b ≡ Err (lack.Unforced n)) (λ b p q. e b p ∙ q))

shape_kept : {A B : Type 0} (x : Walked A) (k : A → Walked B) (m : Bool) → shape_of x ≡ Some m → shape_of (x >>= k) ≡ Some m
shape_kept (Ok y) k m e = cc
shape_kept (Err lack.Missing) k m e = e
shape_kept (Err lack.NoPoint) k m e = e
shape_kept (Err lack.WrongType) k m e = e
shape_kept (Err lack.TooDeep) k m e = e
shape_kept (Err (lack.Unforced u)) k m e = cc
shape_kept (Err lack.Outside) k m e = cc

-- a walk that had none
pub walks_fail : {R A B : Type 0} (s u : Seen R) (f : Bytes → Walked A) (k : Bytes → A → Walked B) (x : WalkFault) → Walks f s (Err x) u → Walks (λ b. f b >>= k b) s (Err x) u
walks_fail {R = R} s u f k (fault.Memory (Outside p)) h = (h.0, record { holds = λ (b : Bytes) (r : R) t. ap (λ y. y >>= k b) (h.1.holds b r t) })
walks_fail s u f k (fault.Memory LinkFault) h = h
walks_fail s u f k (fault.Memory (BadReply frame)) h = h
walks_fail {R = R} s u f k (fault.Shape missing) h = (h.0, record { holds = λ (b : Bytes) (r : R) t. shape_kept (f b) (k b) missing (h.1.holds b r t) })
walks_fail {R = R} s u f k (fault.Unforced n) h = (h.0, record { holds = λ (b : Bytes) (r : R) t. ap (λ y. y >>= k b) (h.1.holds b r t) })

-- the same function of the bytes, put otherwise
pub walks_as : {R A : Type 0} (s u : Seen R) (f g : Bytes → Walked A) (r : Result A WalkFault) → ((b : Bytes) → g b ≡ f b) → Walks f s r u → Walks g s r u
walks_as {R = R} s u f g (Ok x) e h = (h.0, record { holds = λ (b : Bytes) (r : R) t. e b ∙ h.1.holds b r t })
walks_as {R = R} s u f g (Err (fault.Memory (Outside p))) e h = (h.0, record { holds = λ (b : Bytes) (r : R) t. e b ∙ h.1.holds b r t })
walks_as s u f g (Err (fault.Memory LinkFault)) e h = h
walks_as s u f g (Err (fault.Memory (BadReply frame))) e h = h
walks_as {R = R} s u f g (Err (fault.Shape missing)) e h = (h.0, record { holds = λ (b : Bytes) (r : R) t. ap shape_of (e b) ∙ h.1.holds b r t })
walks_as {R = R} s u f g (Err (fault.Unforced n)) e h = (h.0, record { holds = λ (b : Bytes) (r : R) t. e b ∙ h.1.holds b r t })

-- ---- the table alone

pub walks_table : {R A : Type 0} (s : Seen R) (f : Bytes → Walked A) (x : Walked A) → ((b : Bytes) → f b ≡ x) → Walks f s (told_of x) s
walks_table {R = R} s f (Ok x) e = (same_here s, record { holds = λ (b : Bytes) (r : R) t. e b })
walks_table {R = R} s f (Err lack.Missing) e = (same_here s, record { holds = λ (b : Bytes) (r : R) t. ap shape_of (e b) })
walks_table {R = R} s f (Err lack.NoPoint) e = (same_here s, record { holds = λ (b : Bytes) (r : R) t. ap shape_of (e b) })
walks_table {R = R} s f (Err lack.WrongType) e = (same_here s, record { holds = λ (b : Bytes) (r : R) t. ap shape_of (e b) })
walks_table {R = R} s f (Err lack.TooDeep) e = (same_here s, record { holds = λ (b : Bytes) (r : R) t. ap shape_of (e b) })
walks_table {R = R} s f (Err (lack.Unforced u)) e = (same_here s, record { holds = λ (b : Bytes) (r : R) t. e b })
walks_table {R = R} s f (Err lack.Outside) e = (same_here s, record { holds = λ (b : Bytes) (r : R) t. e b })

-- ---- calls

pub led_table : {M A : Type 0} (leads : M → Option (List ℕ) → M → Type 0) (m : M) (x : Walked A) → leads m None m → LedWalk leads m (told_of x) m
led_table leads m (Ok x) h = h
led_table leads m (Err lack.Missing) h = h
led_table leads m (Err lack.NoPoint) h = h
led_table leads m (Err lack.WrongType) h = h
led_table leads m (Err lack.TooDeep) h = h
led_table leads m (Err (lack.Unforced u)) h = h
led_table leads m (Err lack.Outside) h = h

-- calls behind calls that brought an answer
pub led_then : {M A B : Type 0} (leads : M → Option (List ℕ) → M → Type 0) (a b c : M) (x : A) (r : Result B WalkFault)
    → ((o : Option (List ℕ)) → leads a None b → leads b o c → leads a o c) → LedWalk leads a (Ok x) b → LedWalk leads b r c → LedWalk leads a r c
led_then leads a b c x (Ok y) go h k = go None h k
led_then leads a b c x (Err (fault.Memory (Outside p))) go h k = go None h k
led_then leads a b c x (Err (fault.Memory LinkFault)) go h k = tt
led_then leads a b c x (Err (fault.Memory (BadReply frame))) go h k = go (Some frame.items) h k
led_then leads a b c x (Err (fault.Shape missing)) go h k = go None h k
led_then leads a b c x (Err (fault.Unforced u)) go h k = go None h k

pub led_fail : {M : Type 0} (A B : Type 0) (leads : M → Option (List ℕ) → M → Type 0) (a b : M) (x : WalkFault) → LedWalk {A = A} leads a (Err x) b → LedWalk {A = B} leads a (Err x) b
led_fail A B leads a b (fault.Memory (Outside p)) h = h
led_fail A B leads a b (fault.Memory LinkFault) h = h
led_fail A B leads a b (fault.Memory (BadReply frame)) h = h
led_fail A B leads a b (fault.Shape missing) h = h
led_fail A B leads a b (fault.Unforced u) h = h

-- where a walk stands on another one's way: the same function of the bytes is left
pub walks_on : {R A : Type 0} (s u t : Seen R) (w h : Bytes → Walked A) (r : Result A WalkFault) → Same s u → OnTold s (λ b. w b ≡ h b) → Walks h u r t → Walks w s r t
walks_on s u t w h (Ok y) x e k = (same_then s u t x k.0, on_told s u (λ b. h b ≡ Ok y) (λ b. w b ≡ h b) x e k.1 (λ b. w b ≡ Ok y) (λ b p q. p ∙ q))
walks_on s u t w h (Err (fault.Memory (Outside p))) x e k =
    (same_then s u t x k.0, on_told s u (λ b. h b ≡ Err lack.Outside) (λ b. w b ≡ h b) x e k.1 (λ b. w b ≡ Err lack.Outside) (λ b p q. p ∙ q))
walks_on s u t w h (Err (fault.Memory LinkFault)) x e k = rose_then s.faults u.faults t.faults x.faults k
walks_on {R = R} s u t w h (Err (fault.Memory (BadReply frame))) x e k =
    record { faults = k.faults ∙ x.faults; never = λ (b : Bytes) (r : R) y. k.never b r (x.keeps b r y) }
walks_on s u t w h (Err (fault.Shape missing)) x e k =
    (same_then s u t x k.0, on_told s u (λ b. shape_of (h b) ≡ Some missing) (λ b. w b ≡ h b) x e k.1 (λ b. shape_of (w b) ≡ Some missing) (λ b p q. ap shape_of p ∙ q))
walks_on s u t w h (Err (fault.Unforced n)) x e k =
    (same_then s u t x k.0, on_told s u (λ b. h b ≡ Err (lack.Unforced n)) (λ b. w b ≡ h b) x e k.1 (λ b. w b ≡ Err (lack.Unforced n)) (λ b p q. p ∙ q))
