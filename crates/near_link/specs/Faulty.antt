-- A link of which one call goes wrong.
use Rattle.std.specs.Prelude.{◌≡◌, ℕ, zero, suc, ◌+◌, ◌-◌, ◌^◌, min, List, [], ◌∷◌, take, length, Option, None, Some, Result, Ok, Err}
use Rattle.ldb_edge.specs.declared.outside.Failed.{Failed}
use Rattle.nub_wire.specs.declared.link.Side.{Side}
use Rattle.nub_wire.specs.Delivery.{World, side_of, on_side, with_sent, fitting, Receives}
use Rattle.near_link.specs.Near.{near_conduct}
use Rattle.near_link.specs.declared.faulty.Mishap.{Mishap}
use Rattle.near_link.specs.declared.faulty.Mishap.TheVariants.{Fail, Silent, Done}

-- The link below, how many calls come before the one that goes wrong, or none where it is over, how it goes wrong, and
-- the count of faults.
pub record Faulty : Type 0 where
  pub below : World
  pub calls : Option ℕ
  pub how : Mishap
  pub count : ℕ

-- the calls before the one that goes wrong, after a call
abbrev pub after_call : Option ℕ → Option ℕ
after_call None = None
after_call (Some zero) = None
after_call (Some (suc n)) = Some n

abbrev pub called : Faulty → Faulty
called f = record f { calls = after_call f.calls }

-- whether a call goes wrong, and how
abbrev pub mishap_of : Option ℕ → Mishap → Option Mishap
mishap_of None how = None
mishap_of (Some zero) how = Some how
mishap_of (Some (suc n)) how = None

-- one more fault, of which the count stands still at its end
abbrev pub failed_once : Faulty → Faulty
failed_once f = record f { count = min (f.count + 1) (2 ^ 64 - 1) }

-- ---- send

abbrev pub SendsBelow : Side → List ℕ → Faulty → Result ℕ Failed → Faulty → Type 0
SendsBelow side piece f (Ok n) f' = (n ≡ fitting piece (side_of side f.below)) × (f' ≡ record f { below = on_side side (with_sent (take n piece)) f.below })
SendsBelow side piece f (Err e) f' = ⊥

abbrev pub SendsAs : Option Mishap → Side → List ℕ → Faulty → Result ℕ Failed → Faulty → Type 0
SendsAs (Some Fail) side piece f r f' = (r ≡ Err (record {})) × (f' ≡ failed_once f)
SendsAs (Some Silent) side piece f r f' = (r ≡ Ok 0) × (f' ≡ f)
SendsAs (Some Done) side piece f r f' = SendsBelow side piece f r f'
SendsAs None side piece f r f' = SendsBelow side piece f r f'

abbrev pub FaultySends : Side → List ℕ → Faulty → Result ℕ Failed → Faulty → Type 0
FaultySends side piece f r f' = SendsAs (mishap_of f.calls f.how) side piece (called f) r f'

-- ---- receive

-- the frame of Done
abbrev pub done_frame : List ℕ
done_frame = 0 ∷ 1 ∷ 0x82 ∷ []

abbrev pub ReceivesBelow : Side → List ℕ → Faulty → Result ℕ Failed → Faulty → Type 0
ReceivesBelow side buf f (Ok n) f' = (w : World) × Receives near_conduct side (length buf) (take n buf) f.below w × (f' ≡ record f { below = w })
ReceivesBelow side buf f (Err e) f' = ⊥

abbrev pub GivesDone : List ℕ → Result ℕ Failed → Type 0
GivesDone buf (Ok n) = take n buf ≡ take (length buf) done_frame
GivesDone buf (Err e) = ⊥

abbrev pub ReceivesAs : Option Mishap → Side → List ℕ → Faulty → Result ℕ Failed → Faulty → Type 0
ReceivesAs (Some Fail) side buf f r f' = (r ≡ Err (record {})) × (f' ≡ failed_once f)
ReceivesAs (Some Silent) side buf f r f' = (r ≡ Ok 0) × (f' ≡ f)
ReceivesAs (Some Done) side buf f r f' = GivesDone buf r × (f' ≡ f)
ReceivesAs None side buf f r f' = ReceivesBelow side buf f r f'

-- what the buffer holds after a call
abbrev pub FaultyReceives : Side → List ℕ → Faulty → Result ℕ Failed → Faulty → Type 0
FaultyReceives side buf f r f' = ReceivesAs (mishap_of f.calls f.how) side buf (called f) r f'
