-- What ends a call before its session, told.
use Rattle.std.proofs.Common.{◌≡◌, ◌⊎◌, ◌<◌, ℕ, zero, suc, List, [], ◌∷◌, length, map, get_or, String, string_bytes, Option, Ok, Err, inl, inr, ap, subst, ◌∙◌, arith}
use Rattle.std.specs.Global.{Global}
use Rattle.std.specs.declared.result.Result.{Result}
use Rattle.std.specs.Prelude.{OnOk, MatchResult}
use Rattle.ldb_edge.specs.Known.{known_and}
use Rattle.cc_call.specs.Lines.{name_in}
use Rattle.cc_call.specs.declared.ended.Fault.{Fault}
use Rattle.nub_wire.specs.Delivery.{World}
use Rattle.session.specs.declared.conversation.Session.{Session}
use Rattle.ldb_top.specs.declared.status.Status.{Status}
use Rattle.ldb_top.specs.declared.status.Status.TheVariants as status
use Rattle.ldb_top.specs.declared.status.Stop.{Stop}
use Rattle.ldb_top.specs.declared.status.Stop.TheVariants.{Read, NoMemory, Missing, TooLong, Refused, Bad}
use Rattle.ldb_top.specs.Causes.{IsMissed, TellsMissed}
use Rattle.ldb_top.specs.Lines.{line_of, IsLine}
use Rattle.ldb_top.specs.Names.{Names}
use Rattle.ldb_top.specs.Stops.{ending_of, fault_of, IsMissing, IsReadStop, IsGoStop, IsDebugStop, IsOpenStop}
use Rattle.ldb_top.specs.Why.{IsBuildWhy, IsLoadWhy, BuildsFrom, LoadsFrom}

-- the name at a place
pub name_read : (names : List (String Global)) (i : ℕ) (v : String Global) → i < length names → v ≡ get_or names i v → string_bytes v ≡ name_in (map string_bytes names) i
name_read [] i v l e = absurd (omega arith)
name_read (n ∷ names) zero v l e = ap string_bytes e
name_read (n ∷ names) (suc i) v l e = name_read names i v (omega arith) e

-- a file that isn't there ends the reading
pub missing_stops : (missed : List ℕ → Type 0) (input : List ℕ) (before now : ℕ) (name : List ℕ) (stop : Stop) → IsMissing name stop → missed name → now ≡ before → IsReadStop missed input before now stop
missing_stops missed input before now name (Missing line) m t e = (e, record { name = name; told = t; line_is = m })
missing_stops missed input before now name NoMemory m t e = e
missing_stops missed input before now name Read m t e = absurd m
missing_stops missed input before now name (TooLong line) m t e = absurd m
missing_stops missed input before now name (Refused line) m t e = absurd m
missing_stops missed input before now name (Bad line) m t e = absurd m

-- where reading begins with the count of before
pub read_on : (missed : List ℕ → Type 0) (input : List ℕ) (before mid now : ℕ) (stop : Stop) → mid ≡ before → IsReadStop missed input mid now stop → IsReadStop missed input before now stop
read_on missed input before mid now stop e s = subst (λ n. IsReadStop missed input n now stop) e s

-- ---- what is told of sources, and of an image and a table

go_stops : (names texts : List (List ℕ)) (stop : Stop) → IsBuildWhy names texts stop → IsGoStop names stop
go_stops names texts NoMemory w = tt
go_stops names texts (Refused line) w = (w.fault, w.tells)
go_stops names texts (Bad line) w = absurd w
go_stops names texts Read w = absurd w
go_stops names texts (Missing line) w = absurd w
go_stops names texts (TooLong line) w = absurd w

debug_stops : (text table : List ℕ) (stop : Stop) → IsLoadWhy text table stop → IsDebugStop stop
debug_stops text table NoMemory w = tt
debug_stops text table (Bad line) (inl w) = inl (w.0, w.2)
debug_stops text table (Bad line) (inr w) = inr (w.told.fault, w.told.tells)
debug_stops text table Read w = absurd w
debug_stops text table (Missing line) w = absurd w
debug_stops text table (TooLong line) w = absurd w
debug_stops text table (Refused line) w = absurd w

-- a session that isn't begun once all files were read
pub go_ends : {A : Type 0} (missed : List ℕ → Type 0) (input : List ℕ) (before now : ℕ) (names texts : List (List ℕ)) (r : Result A Stop) → BuildsFrom names texts r → now ≡ before
    → MatchResult r (λ _. now ≡ before) (IsOpenStop (IsGoStop names) missed input before now)
go_ends missed input before now names texts (Ok x) b e = e
go_ends missed input before now names texts (Err stop) b e = inl (go_stops names texts stop b, e)

pub debug_ends : (missed : List ℕ → Type 0) (input : List ℕ) (before now : ℕ) (text table bytes : List ℕ) (r : Result (Session World) Stop) → LoadsFrom text table bytes r → now ≡ before
    → MatchResult r (λ _. now ≡ before) (IsOpenStop IsDebugStop missed input before now)
debug_ends missed input before now text table bytes (Ok x) b e = e
debug_ends missed input before now text table bytes (Err stop) b e = inl (debug_stops text table stop b, e)

-- ---- the line

go_line : (n : Names) (stop : Stop) → IsGoStop n.about stop → IsLine n stop
go_line n NoMemory s = tt
go_line n (Refused line) s = s
go_line n (Bad line) s = absurd s
go_line n Read s = absurd s
go_line n (Missing line) s = absurd s
go_line n (TooLong line) s = absurd s

debug_line : (n : Names) (stop : Stop) → IsDebugStop stop → IsLine n stop
debug_line n NoMemory s = tt
debug_line n (Bad line) s = s
debug_line n Read s = absurd s
debug_line n (Missing line) s = absurd s
debug_line n (TooLong line) s = absurd s
debug_line n (Refused line) s = absurd s

read_line : (n : Names) (missed : List ℕ → Type 0) (before now : ℕ) (stop : Stop) → IsReadStop missed n.input before now stop → IsLine n stop
read_line n missed before now Read s = tt
read_line n missed before now NoMemory s = tt
read_line n missed before now (Missing line) s = (s.1.name, s.1.line_is)
read_line n missed before now (TooLong line) s = s.1
read_line n missed before now (Refused line) s = absurd s
read_line n missed before now (Bad line) s = absurd s

pub go_told : (n : Names) (missed : List ℕ → Type 0) (before now : ℕ) (stop : Stop) → IsOpenStop (IsGoStop n.about) missed n.input before now stop → IsLine n stop
go_told n missed before now stop (inl s) = go_line n stop s.0
go_told n missed before now stop (inr s) = read_line n missed before now stop s

pub debug_told : (n : Names) (missed : List ℕ → Type 0) (before now : ℕ) (stop : Stop) → IsOpenStop IsDebugStop missed n.input before now stop → IsLine n stop
debug_told n missed before now stop (inl s) = debug_line n stop s.0
debug_told n missed before now stop (inr s) = read_line n missed before now stop s

-- ---- a file that isn't there

missed_in : (missed : List ℕ → Type 0) (P : Stop → Type 0) (input : List ℕ) (r r' : ℕ) (line : List ℕ) → (P (Missing line) → ⊥) → IsOpenStop P missed input r r' (Missing line) → IsMissed missed line
missed_in missed P input r r' line never (inl s) = absurd (never s.0)
missed_in missed P input r r' line never (inr s) = s.1

said_missed : (missed : List ℕ → Type 0) (line : List ℕ) (taken taken' : Option (List ℕ)) → IsMissed missed line → taken' ≡ known_and taken line → TellsMissed missed taken taken'
said_missed missed line taken taken' m e = record { name = m.name; told = m.told; line_is = e ∙ ap (known_and taken) m.line_is }

pub told_missed : (P : Stop → Type 0) (missed : List ℕ → Type 0) (input : List ℕ) (r r' : ℕ) (taken taken' : Option (List ℕ)) (stop : Stop) (result : Result Status Fault) → ((line : List ℕ) → P (Missing line) → ⊥) → IsOpenStop P missed input r r' stop
    → (result ≡ ending_of stop) ⊎ (result ≡ Err (fault_of stop)) → OnOk result (taken' ≡ known_and taken (line_of stop)) → result ≡ Ok status.NoFile → TellsMissed missed taken taken'
told_missed P missed input r r' taken taken' stop result never s (inr o) said n = absurd cc
told_missed P missed input r r' taken taken' (Missing line) result never s (inl o) said n = said_missed missed line taken taken' (missed_in missed P input r r' line (never line) s) (subst (λ x. OnOk x (taken' ≡ known_and taken line)) n said)
told_missed P missed input r r' taken taken' Read result never s (inl o) said n = absurd cc
told_missed P missed input r r' taken taken' NoMemory result never s (inl o) said n = absurd cc
told_missed P missed input r r' taken taken' (TooLong line) result never s (inl o) said n = absurd cc
told_missed P missed input r r' taken taken' (Refused line) result never s (inl o) said n = absurd cc
told_missed P missed input r r' taken taken' (Bad line) result never s (inl o) said n = absurd cc

pub debug_no_missing : (line : List ℕ) → IsDebugStop (Missing line) → ⊥
debug_no_missing line s = s

pub go_no_missing : (names : List (List ℕ)) (line : List ℕ) → IsGoStop names (Missing line) → ⊥
go_no_missing names line s = s
