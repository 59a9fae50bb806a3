-- Objects without an initializer begin with zeros.
use Rattle.std.proofs.Common.{◌≡◌, refl, sym, ap, ◌∙◌, subst, ℕ, zero, suc, Bool, true, false, ◌&&◌, ◌==◌, List, [], ◌∷◌, map, replicate, bytes_eq, if◌then◌else◌}
use Rattle.std.specs.List.{AllByRecursion}
use Rattle.c_tree.specs.declared.rows.Program.{Program}
use Rattle.c_tree.specs.declared.rows.ObjectRow.{ObjectRow}
use Rattle.c_tree.specs.declared.rows.Start.TheVariants.{Number}
use Rattle.c_tree.specs.Layout.{leaves_of}
use Rattle.c_typing.specs.Plain.{plain}
use Rattle.c_typing.specs.Starts.{AreStarts}
use Rattle.c_defs.specs.Depths.{deepest}
use Rattle.c_defs.specs.Leaves.{leaf_count}
use Rattle.c_initial.specs.Begins.{Bits, zeros}
use Rattle.c_linkage.specs.Names.{Defining}
use Rattle.c_file.specs.Files.{State}
use Rattle.c_linkage.specs.Wanted.{Started}
use Rattle.c_file.specs.Made.{Each, IsObjectOf, object_type, started, begins_in}
use Rattle.c_accepted.proofs.Starting.{IsWordStart}
use Rattle.c_accepted.proofs.KindsOfLeaves.{kinds_of, Hold, IsPlaceStart, starts_of, zeros_hold}

-- an initializer gives the object of its name what its leaves hold
abbrev pub GivesLeaves : Program → State → Defining → Started → Type 0
GivesLeaves p q d s = ((s.unit == d.unit) && bytes_eq s.name d.name) ≡ true → Hold p (kinds_of p.defs deepest (object_type q d)) (map (started q d.unit) s.begins)

abbrev pub AllGive : Program → State → Defining → Type 0
AllGive p q d = AllByRecursion (GivesLeaves p q d) q.starts

module _ (p : Program) (q : State) (same : p.defs ≡ q.others) where
  zeros_started : (u n : ℕ) → map (started q u) (replicate n (Bits 0)) ≡ replicate n (Number 0)
  zeros_started u zero = refl
  zeros_started u (suc n) = ap (λ l. Number 0 ∷ l) (zeros_started u n)

  zeros_begin : (d : Defining) → Hold p (kinds_of p.defs deepest (object_type q d)) (map (started q d.unit) (zeros q.others (object_type q d)))
  zeros_begin d =
      let e : map (started q d.unit) (zeros q.others (object_type q d)) ≡ replicate (leaf_count p.defs deepest (object_type q d)) (Number 0) =
      zeros_started d.unit (leaf_count q.others deepest (object_type q d)) ∙ ap (λ ds. replicate (leaf_count ds deepest (object_type q d)) (Number 0)) (sym same) in
      subst (Hold p (kinds_of p.defs deepest (object_type q d))) (sym e) (zeros_hold p (object_type q d))

  begun : (d : Defining) (ss : List Started) → AllByRecursion (GivesLeaves p q d) ss → Hold p (kinds_of p.defs deepest (object_type q d)) (map (started q d.unit) (begins_in q ss d))
  begun d [] h = zeros_begin d
  begun d (s ∷ ss) h = by ((s.unit == d.unit) && bytes_eq s.name d.name) refl (begun d ss h.1)
    where
      by : (b : Bool) → ((s.unit == d.unit) && bytes_eq s.name d.name) ≡ b → Hold p (kinds_of p.defs deepest (object_type q d)) (map (started q d.unit) (begins_in q ss d))
          → Hold p (kinds_of p.defs deepest (object_type q d)) (map (started q d.unit) (if b then s.begins else begins_in q ss d))
      by true e k = h.0 e
      by false e k = k

  pub all_begun : (ds : List Defining) (os : List ObjectRow) → AllByRecursion (AllGive p q) ds → Each (IsObjectOf q) ds os → AllByRecursion (λ (o : ObjectRow). AllByRecursion IsWordStart o.start) os → AllByRecursion (λ (o : ObjectRow). AllByRecursion (IsPlaceStart p) o.start) os → AllByRecursion (λ (o : ObjectRow). AreStarts p (leaves_of p.defs o.ctype) o.start) os
  all_begun [] [] h e w i = tt
  all_begun (d ∷ ds) (o ∷ os) h e w i =
      let a : Hold p (kinds_of p.defs deepest (plain o.ctype)) (map (started q d.unit) (begins_in q q.starts d)) = subst (λ t. Hold p (kinds_of p.defs deepest t) (map (started q d.unit) (begins_in q q.starts d))) (sym e.0.3) (begun d q.starts h.0) in
      (starts_of p o.ctype o.start (subst (Hold p (kinds_of p.defs deepest (plain o.ctype))) (sym e.0.4) a) w.0 i.0, all_begun ds os h.1 e.1 w.1 i.1)
  all_begun [] (o ∷ os) h e w i = absurd e
  all_begun (d ∷ ds) [] h e w i = absurd e
