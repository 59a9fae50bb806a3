-- What a nub has still to tell of its reply.
use Rattle.std.proofs.Common.{◌≡◌, ◌≢◌, ◌∙◌, refl, sym, ap, subst, ℕ, ◌+◌, List, [], ◌∷◌, ◌++◌, Option, Some, None, arith}
use Rattle.machine_state.specs.State.{Behaviour}
use Rattle.nub_wire.specs.declared.message.Msg.{Msg}
use Rattle.nub_wire.specs.Spelling.{frame_of}
use Rattle.nub_wire.specs.Feeding.{frames}
use Rattle.nub_wire.specs.Nub.{Host, Replied, running, turn_of, if_open}
use Rattle.nub_wire.specs.Delivery.{Conduct}
use Rattle.nub_wire.specs.Resumes.{Tells, tells_end, tells_more}
use Rattle.nub_wire.specs.Exchange.{Replies, at_once, later}
use Rattle.nub_wire.proofs.Turns.{turn_of-add, turn_of-more}

apart : (m : Msg) → None ≡ Some m → ⊥
apart m e = cc

-- where no resume is open nothing is told, and nothing changes
pub none_told : {A : Type 0} (b : Behaviour) (n : ℕ) (left : Option ℕ) (h h' : Host) (m : Msg) → left ≡ None
    → if_open left (None, h) (running b n h) ≡ (Some m, h') → A
none_told b n None h h' m e x = let y : None ≡ Some m = ap (λ (p : Replied). p.0) x in absurd (apart m y)
none_told b n (Some k) h h' m e x = cc

pub same_told : (b : Behaviour) (n : ℕ) (left : Option ℕ) (h h' : Host) → left ≡ None → if_open left (None, h) (running b n h) ≡ (None, h') → h ≡ h'
same_told b n None h h' e x = ap (λ (p : Replied). p.1) x
same_told b n (Some k) h h' e x = cc

-- nothing is left to tell, or the messages of an open resume
pub data Pending (b : Behaviour) : Host → List Msg → Host → Type 0 where
  over : {h : Host} → h.nub.left ≡ None → Pending b h [] h
  running_on : {g h : Host} {ms : List Msg} → Tells b g ms h → Pending b g ms h

-- the first of some messages was told
pub record Next (b : Behaviour) (m : Msg) (ms : List Msg) (t h : Host) : Type 0 where
  pub rest : List Msg
  pub is : ms ≡ m ∷ rest
  pub pending : Pending b t rest h

pub record BothTold (m m' : Msg) (t t' : Host) : Type 0 where
  pub message_is : m ≡ m'
  pub host_is : t ≡ t'

both_told : (m m' : Msg) (t t' : Host) → (let p : Replied = (Some m, t) in let q : Replied = (Some m', t') in p ≡ q) → BothTold m m' t t'
both_told m m' t t' e = let o : Some m ≡ Some m' = ap (λ (p : Replied). p.0) e in record { message_is = cc; host_is = ap (λ (p : Replied). p.1) e }

-- a nub tells one message next, whatever its turns
same_turn : (b : Behaviour) (k n : ℕ) (g t t' : Host) (m m' : Msg) → turn_of b k g ≡ (Some m, t) → turn_of b n g ≡ (Some m', t') → BothTold m m' t t'
same_turn b k n g t t' m m' e f =
    let both : k + n ≡ n + k = omega arith in
    both_told m m' t t' (sym (turn_of-more b k n g t m e) ∙ ap (λ (i : ℕ). turn_of b i g) both ∙ turn_of-more b n k g t' m' f)

-- and tells it after turns in which it told nothing
after_quiet : (b : Behaviour) (k n : ℕ) (g h t : Host) (m : Msg) → turn_of b k g ≡ (Some m, t) → turn_of b n g ≡ (None, h) → turn_of b k h ≡ (Some m, t)
after_quiet b k n g h t m e f =
    let both : n + k ≡ k + n = omega arith in
    sym (turn_of-add b n k g h f) ∙ ap (λ (i : ℕ). turn_of b i g) both ∙ turn_of-more b k n g t m e

pub pending_quiet : {b : Behaviour} {g h : Host} {ms : List Msg} (n : ℕ) (t : Host) → Pending b g ms h → turn_of b n g ≡ (None, t) → Pending b t ms h
unfolding turn_of
pending_quiet {b = b} {g = g} n t (over none) e = subst (λ (x : Host). Pending b x [] g) (same_told b n g.nub.left g t none e) (over none)
pending_quiet {b = b} {g = g} n t (running_on (tells_end {t = h} k m turn shut)) e = running_on (tells_end k m (after_quiet b k n g t h m turn e) shut)
pending_quiet {b = b} {g = g} n t (running_on (tells_more {t = v} k left m ms turn is more)) e = running_on (tells_more k left m ms (after_quiet b k n g t v m turn e) is more)

pub pending_told : {b : Behaviour} {g h : Host} {ms : List Msg} (n : ℕ) (m : Msg) (t : Host) → Pending b g ms h → turn_of b n g ≡ (Some m, t) → Next b m ms t h
unfolding turn_of
pending_told {b = b} {g = g} n m t (over none) e = none_told b n g.nub.left g t m none e
pending_told {b = b} {g = g} n m t (running_on (tells_end {t = h} k m' turn shut)) e =
    let s = same_turn b k n g h t m' m turn e in
    record { rest = []; is = ap (λ (x : Msg). x ∷ []) s.message_is; pending = subst (λ (x : Host). Pending b x [] h) s.host_is (over shut) }
pending_told {b = b} {g = g} {h = h} n m t (running_on (tells_more {t = v} k left m' ms turn is more)) e =
    let s = same_turn b k n g v t m' m turn e in
    record { rest = ms; is = ap (λ (x : Msg). x ∷ ms) s.message_is; pending = subst (λ (x : Host). Pending b x ms h) s.host_is (running_on more) }

-- where no resume is open nothing is left to tell
pub pending_shut : {b : Behaviour} {g h : Host} {ms : List Msg} → Pending b g ms h → g.nub.left ≡ None → ms ≡ []
unfolding turn_of
pending_shut (over none) e = refl
pending_shut {b = b} {g = g} (running_on (tells_end {t = h} k m turn shut)) e = none_told b k g.nub.left g h m e turn
pending_shut {b = b} {g = g} (running_on (tells_more {t = v} k left m ms turn is more)) e = none_told b k g.nub.left g v m e turn

pub record IsOver (g h : Host) : Type 0 where
  pub same : g ≡ h
  pub none_open : h.nub.left ≡ None

-- where nothing is left to tell no resume is open
pub pending_over : {b : Behaviour} {g h : Host} {ms : List Msg} → Pending b g ms h → ms ≡ [] → IsOver g h
pending_over (over none) e = record { same = refl; none_open = none }
pending_over (running_on (tells_end k m turn shut)) e = cc
pending_over (running_on (tells_more k left m ms turn is more)) e = cc

-- ---- frames

pub frame_some : (m : Msg) → frame_of m ≢ []
unfolding frame_of
frame_some m e = cc

front_nil : (xs ys : List ℕ) → xs ++ ys ≡ [] → xs ≡ []
front_nil [] ys e = refl
front_nil (x ∷ xs) ys e = cc

pub frames_nil : (ms : List Msg) → frames ms ≡ [] → ms ≡ []
frames_nil [] e = refl
frames_nil (m ∷ ms) e = absurd (frame_some m (front_nil (frame_of m) (frames ms) e))

pub replies_some : {c : Conduct} {m : Msg} {g h : Host} {ms : List Msg} → Replies c m g ms h → ms ≢ []
replies_some (at_once r is none) e = cc
replies_some (later g is (tells_end k m turn shut)) e = cc
replies_some (later g is (tells_more k left m ms turn left_is rest)) e = cc
