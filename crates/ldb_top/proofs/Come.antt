-- What a call comes to whose words ask for a session.
use Rattle.std.proofs.Common.{◌≡◌, ◌⊎◌, ℕ, Bool, true, false, List, [], take, drop, Option, None, Some, Ok, Err, inl, inr, refl, sym, ap, ◌∙◌, subst}
use Rattle.std.specs.declared.result.Result.{Result}
use Rattle.std.specs.Prelude.{◌≢◌, OnOk, OnErr}
use Rattle.nub_wire.specs.Delivery.{World}
use Rattle.ldb_edge.specs.Known.{FileMap, known_and}
use Rattle.claims.specs.Side.{SessionState}
use Rattle.ldb_cc.specs.declared.aim.Aim.{Aim}
use Rattle.session.specs.declared.conversation.Session.{Session}
use Rattle.cc_call.specs.declared.ended.Fault.{Fault}
use Rattle.cc_call.specs.declared.ended.Fault.TheVariants as fault
use Rattle.cc_call.specs.Faults.{TakesFront}
use Rattle.ldb_top.specs.declared.status.Status.{Status}
use Rattle.ldb_top.specs.declared.status.Status.TheVariants.{Done, Refused, Words, ReadFault, WriteFault, NoMemory, NoFile, BadFile, TooLong}
use Rattle.ldb_top.specs.declared.status.Stop.{Stop}
use Rattle.ldb_top.specs.declared.status.Stop.TheVariants as stop
use Rattle.ldb_top.specs.declared.words.DebugRequest.{DebugRequest}
use Rattle.ldb_top.specs.declared.words.GoRequest.{GoRequest}
use Rattle.ldb_top.specs.declared.words.Request.{Request}
use Rattle.ldb_top.specs.declared.words.Request.TheVariants as request
use Rattle.ldb_top.specs.Ahead.{lines_of}
use Rattle.ldb_top.specs.Bytes.{IsBehind}
use Rattle.ldb_top.specs.Comes.{Outside, EndsEarly, Comes, ComesTo, Served, ServedSo, HasConversedOver, HasConversedLateOver, HasFaultedOver, Faults, SessionComes, SessionComesTo}
use Rattle.ldb_top.specs.Conversed.{HasConversed}
use Rattle.ldb_top.specs.Conversing.{IsOver}
use Rattle.ldb_top.specs.Late.{LateAs}
use Rattle.ldb_top.specs.Names.{Names, names_of, names_in_debug, names_in_go}
use Rattle.ldb_top.specs.Output.{held_under, is_there}
use Rattle.ldb_top.specs.Said.{BeginsWith, IsNamed}
use Rattle.ldb_top.specs.Stops.{ending_of, fault_of}
use Rattle.ldb_top.specs.Lines.{line_of, late_line, IsLine}
use Rattle.ldb_top.specs.Why.{IsWhy, CompiledFor, BeginsAs, Opens}
use Rattle.ldb_top.specs.Words.{Form, Debug, Go, Make, Own, form_of, form_in}
use Rattle.ldb_top.proofs.Growing.{front_none, take_front, known_nothing}

-- ---- before the session

early : (form : Form) (n : Names) (old new : Outside) (s : Stop) (status : Status) (r : Result Status Fault) → r ≡ Ok status → ending_of s ≡ Ok status → ((known : FileMap) → old.held ≡ Some known → IsWhy form n known s) → IsLine n s → OnOk r (new.taken ≡ known_and old.taken (line_of s)) → new.held ≡ old.held → new.left ≡ old.left → EndsEarly form n old new status
early form n old new s status r e st why line said h u = record { stop = s; status_is = st; why = why; line = line; told = subst (λ x. OnOk x (new.taken ≡ known_and old.taken (line_of s))) e said; held_is = h; unread = u }

-- of a stop that has no line nothing is printed
silent_for : (s : Stop) (taken taken' : Option (List ℕ)) → TakesFront taken taken' (line_of s) → fault_of s ≢ fault.Write → taken' ≡ taken
silent_for stop.Read taken taken' f w = f.front ∙ ap (known_and taken) (front_none (take f.count []) [] refl (take_front f.count [])) ∙ known_nothing taken
silent_for stop.NoMemory taken taken' f w = f.front ∙ ap (known_and taken) (front_none (take f.count []) [] refl (take_front f.count [])) ∙ known_nothing taken
silent_for (stop.Missing line) taken taken' f w = absurd (w refl)
silent_for (stop.TooLong line) taken taken' f w = absurd (w refl)
silent_for (stop.Refused line) taken taken' f w = absurd (w refl)
silent_for (stop.Bad line) taken taken' f w = absurd (w refl)

faulted : (form : Form) (n : Names) (old new : Outside) (s : Stop) (r : Result Status Fault) → r ≡ Err (fault_of s) → ((known : FileMap) → old.held ≡ Some known → IsWhy form n known s) → IsLine n s → OnErr r (TakesFront old.taken new.taken (line_of s)) → new.held ≡ old.held → new.left ≡ old.left → ComesTo form n old new r
faulted form n old new s r e why line front h u =
    let told : TakesFront old.taken new.taken (line_of s) = subst (λ x. OnErr x (TakesFront old.taken new.taken (line_of s))) e front in
    subst (ComesTo form n old new) (sym e) (inl (record { stop = s; fault_is = refl; why = why; line = line; told = told; silent = silent_for s old.taken new.taken told; held_is = h; unread = u }))

pub told_comes : (form : Form) (n : Names) (old new : Outside) (s : Stop) (r : Result Status Fault) → (r ≡ ending_of s) ⊎ (r ≡ Err (fault_of s)) → ((known : FileMap) → old.held ≡ Some known → IsWhy form n known s) → IsLine n s → OnOk r (new.taken ≡ known_and old.taken (line_of s))
    → OnErr r (TakesFront old.taken new.taken (line_of s)) → new.held ≡ old.held → new.left ≡ old.left → ComesTo form n old new r
told_comes form n old new s r (inr e) why is said front h u = faulted form n old new s r e why is front h u
told_comes form n old new stop.Read r (inl e) why is said front h u = faulted form n old new stop.Read r e why is front h u
told_comes form n old new stop.NoMemory r (inl e) why is said front h u = faulted form n old new stop.NoMemory r e why is front h u
told_comes form n old new (stop.Missing line) r (inl e) why is said front h u = subst (ComesTo form n old new) (sym e) (early form n old new (stop.Missing line) NoFile r e refl why is said h u)
told_comes form n old new (stop.TooLong line) r (inl e) why is said front h u = subst (ComesTo form n old new) (sym e) (inl (early form n old new (stop.TooLong line) TooLong r e refl why is said h u))
told_comes form n old new (stop.Refused line) r (inl e) why is said front h u = subst (ComesTo form n old new) (sym e) (early form n old new (stop.Refused line) Refused r e refl why is said h u)
told_comes form n old new (stop.Bad line) r (inl e) why is said front h u = subst (ComesTo form n old new) (sym e) (early form n old new (stop.Bad line) BadFile r e refl why is said h u)

-- ---- a session

-- what holds of the machine session that is begun
module _ (P Q : (raw : Bool) → SessionState → Type 0) (to : (raw : Bool) (st : SessionState) → st.written ≡ [] → P raw st → Q raw st) where
  compiled_as : (aim : Option Aim) (names texts : List (List ℕ)) (input : List ℕ) → CompiledFor P aim names texts input → CompiledFor Q aim names texts input
  compiled_as None names texts input p = (p.0, p.1, to false _ refl p.2)
  compiled_as (Some one) names texts input p = (p.0, to false _ refl p.1)

  begins_as : (form : Form) (n : Names) (known : FileMap) → BeginsAs P form n known → BeginsAs Q form n known
  begins_as Go n known p = (p.0, p.1, (p.2.0, p.2.1, compiled_as n.aim n.about p.2.0 p.0 p.2.2))
  begins_as Debug n known p = (p.0, p.1, (p.2.0, p.2.1, p.2.2, p.2.3, (p.2.4.0, to true _ refl p.2.4.1)))
  begins_as Make n known p = absurd p
  begins_as Own n known p = absurd p

-- what is said of a session from each machine session on for which it stands
abbrev pub SaysSo : (name : List ℕ) → Session World → (old new : Outside) → Result Status Fault → Type 0
SaysSo name session old new r = (raw : Bool) (st : SessionState) (known : FileMap) → IsOver raw session st → st.written ≡ [] → old.held ≡ Some known → ServedSo name raw st old new r

pub served_comes : (form : Form) (n : Names) (old new : Outside) (session : Session World) (r : Result Status Fault) → ((known : FileMap) → old.held ≡ Some known → Opens form n known (Ok session)) → Served old new r → OnOk r (is_there n.output new.held ≡ true)
    → SaysSo n.output session old new r → IsBehind old.left new.left → ComesTo form n old new r
served_comes form n old new session (Ok Done) b s t so l = record {
  begun = λ known h. (b known h).0;
  read = s;
  there = t;
  conversed = λ known h. begins_as (λ (raw : Bool) (st : SessionState). IsOver raw session st) (HasConversedOver n old new) (λ raw st w over. so raw st known over w h) form n known (b known h).1;
}
served_comes form n old new session (Ok TooLong) b s t so l = inr (record {
  begun = λ known h. (b known h).0;
  late = s;
  there = t;
  conversed = λ known h. begins_as (λ (raw : Bool) (st : SessionState). IsOver raw session st) (HasConversedLateOver n old new) (λ raw st w over. so raw st known over w h) form n known (b known h).1;
})
served_comes form n old new session (Ok Refused) b s t so l = absurd s
served_comes form n old new session (Ok Words) b s t so l = absurd s
served_comes form n old new session (Ok ReadFault) b s t so l = absurd s
served_comes form n old new session (Ok WriteFault) b s t so l = absurd s
served_comes form n old new session (Ok NoMemory) b s t so l = absurd s
served_comes form n old new session (Ok NoFile) b s t so l = absurd s
served_comes form n old new session (Ok BadFile) b s t so l = absurd s
served_comes form n old new session (Err f) b s t so l = inr (record {
  left = l;
  begun = λ known h. (b known h).0;
  conversed = λ known h. begins_as (λ (raw : Bool) (st : SessionState). IsOver raw session st) (HasFaultedOver n old new f) (λ raw st w over. so raw st known over w h) form n known (b known h).1;
})

-- what holds whatever is answered
pub on_ok : {A E : Type 0} (r : Result A E) (P : Type 0) → P → OnOk r P
on_ok (Ok x) P p = p
on_ok (Err e) P p = tt

-- the last line of one whose commands were too many
pub served_late : (old new : Outside) (before : Option (List ℕ)) (r : Result Status Fault) → LateAs true (lines_of old.left) → ((front : List ℕ) → BeginsWith front old.taken → BeginsWith front before) → (r ≡ Ok TooLong) ⊎ (r ≡ Err fault.Write)
    → OnOk r (new.taken ≡ known_and before late_line) → Served old new r
served_late old new before r l m (inr e) said = subst (Served old new) (sym e) tt
served_late old new before r l m (inl e) said = subst (Served old new) (sym e) (record { long = l; before = before; more = m; told = subst (λ x. OnOk x (new.taken ≡ known_and before late_line)) e said })

-- what came before it
pub late_so : (name : List ℕ) (raw : Bool) (st : SessionState) (old new : Outside) (between : Option (List ℕ)) (r : Result Status Fault) → LateAs true (lines_of old.left) → HasConversed raw st (lines_of old.left) old.taken between (held_under new.held name)
    → (r ≡ Ok TooLong) ⊎ (r ≡ Err fault.Write) → OnOk r (new.taken ≡ known_and between late_line) → OnErr r (TakesFront between new.taken late_line) → ServedSo name raw st old new r
late_so name raw st old new between r long so (inr e) said front =
    subst (ServedSo name raw st old new) (sym e) (inr (inr (record { unwritten = refl; long = long; between = between; conversed = so; front = subst (λ x. OnErr x (TakesFront between new.taken late_line)) e front })))
late_so name raw st old new between r long so (inl e) said front = subst (ServedSo name raw st old new) (sym e) (between, subst (λ x. OnOk x (new.taken ≡ known_and between late_line)) e said, so)

-- ---- words of a form

-- the status of a fault says what the fault does
pub fault_comes : (form : Option Form) (asked : List (List ℕ)) (old new : Outside) (f : Fault) (status : Status) → ((g : Form) (n : Names) → Faults g n old new f → Comes g n old new status) → SessionComesTo form asked old new (Err f) → SessionComes form asked old new status
fault_comes None asked old new f status to c = tt
fault_comes (Some Debug) asked old new f status to c = to Debug (names_of Debug (drop 1 asked)) c
fault_comes (Some Go) asked old new f status to c = to Go (names_of Go (drop 1 asked)) c
fault_comes (Some Make) asked old new f status to c = tt
fault_comes (Some Own) asked old new f status to c = tt

-- and another one what it does as an answer
pub status_comes : (form : Option Form) (asked : List (List ℕ)) (old new : Outside) (status : Status) → SessionComesTo form asked old new (Ok status) → SessionComes form asked old new status
status_comes None asked old new status c = tt
status_comes (Some Debug) asked old new status c = c
status_comes (Some Go) asked old new status c = c
status_comes (Some Make) asked old new status c = tt
status_comes (Some Own) asked old new status c = tt

pub debug_comes : (asked : List (List ℕ)) (q : Request) (d : DebugRequest) (old new : Outside) (r : Result Status Fault) → q ≡ request.Debug d → Some (form_in q) ≡ form_of asked → IsNamed (drop 1 asked) q → ComesTo Debug (names_in_debug d) old new r → SessionComesTo (form_of asked) asked old new r
debug_comes asked q d old new r e f n c =
    let named : names_in_debug d ≡ names_of Debug (drop 1 asked) = subst (IsNamed (drop 1 asked)) e n in
    let form : Some Debug ≡ form_of asked = ap (λ (x : Request). Some (form_in x)) (sym e) ∙ f in
    subst (λ o. SessionComesTo o asked old new r) form (subst (λ x. ComesTo Debug x old new r) named c)

pub go_comes : (asked : List (List ℕ)) (q : Request) (d : GoRequest) (old new : Outside) (r : Result Status Fault) → q ≡ request.Go d → Some (form_in q) ≡ form_of asked → IsNamed (drop 1 asked) q → ComesTo Go (names_in_go d) old new r → SessionComesTo (form_of asked) asked old new r
go_comes asked q d old new r e f n c =
    let named : names_in_go d ≡ names_of Go (drop 1 asked) = subst (IsNamed (drop 1 asked)) e n in
    let form : Some Go ≡ form_of asked = ap (λ (x : Request). Some (form_in x)) (sym e) ∙ f in
    subst (λ o. SessionComesTo o asked old new r) form (subst (λ x. ComesTo Go x old new r) named c)
