-- The program that the checker gives is accepted, where its functions, its objects and its names are.
use Rattle.std.proofs.Common.{◌≡◌, refl, sym, ap, ◌∙◌, subst, ℕ, suc, Bool, true, false, not, ◌==◌, true≢false, List, [], ◌∷◌, ◌++◌, length, map, filter, Option, Some, None, if◌then◌else◌, arith}
use Rattle.std.specs.Prelude.{slice_get}
use Rattle.std.specs.List.{AllByRecursion}
use Rattle.std.proofs.lemmas.Bool.{eqb-true}
use Rattle.c_trees.specs.declared.unit.External.{External}
use Rattle.c_tree.specs.declared.rows.Program.{Program}
use Rattle.c_tree.specs.declared.rows.UnitRow.{UnitRow}
use Rattle.c_tree.specs.declared.rows.Function.{Function as FunctionRow}
use Rattle.c_tree.specs.declared.rows.ObjectRow.{ObjectRow}
use Rattle.c_typing.specs.Declarations.{IsStruct, Differ}
use Rattle.c_tree.specs.Layout.{leaves_of}
use Rattle.c_typing.specs.Starts.{AreStarts, IsObject}
use Rattle.c_typing.specs.Programs.{AllFrom, IsFunction, KeepsRules, has_main, names_of_unit}
use Rattle.c_linkage.specs.Names.{twice}
use Rattle.c_file.specs.Files.{State, Bodied}
use Rattle.c_file.specs.Programs as programs
use Rattle.c_file.specs.Programs.{Told, Well, Lacks, Breaks, Fault, Rule, Twice, Undefined, NoMain, uncalled, missing, behind_rules, first_fault, late_found, AllFiles, at_first, next_file}
use Rattle.c_linkage.specs.Bounds.{or_name}
use Rattle.c_linkage.specs.FileTags.{tags_of}
use Rattle.c_file.specs.Made.{Each}
use Rattle.c_linkage.specs.Defined.{bodies_of, objects_from}
use Rattle.c_accepted.proofs.Completed.{AreSound}
use Rattle.c_accepted.proofs.Declarations.{AreDeclared, IsWholeIn}
use Rattle.c_accepted.specs.Sources.{IsText, AreTexts}
use Rattle.c_check.specs.Faulty.{Accepts}
use Rattle.c_accepted.proofs.Asked.{CallsAreThere}
use Rattle.c_accepted.proofs.Sought.{AreSought}
use Rattle.c_accepted.proofs.AllTags.{tags_there}
use Rattle.c_accepted.proofs.Structs.{structs_keep}
use Rattle.c_accepted.proofs.Walked.{Stands, first_stands}
use Rattle.c_accepted.proofs.Walks.{walk_files, files_counted}
use Rattle.c_accepted.proofs.Names.{AreOfFiles, external_declared, first_of_files, next_of_files}
use Rattle.c_accepted.proofs.Counted.{room_kept, units_kept, units_counted, points_kept}
use Rattle.c_accepted.proofs.Typed.{TypedIn, whole, external_typed, begins_typed, next_typed, first_typed}
use Rattle.c_accepted.proofs.Wholes.{AreWhole, external_whole, begins_whole}
use Rattle.c_accepted.proofs.Objects.{IsPlaced, objects_placed, objects_kept}
use Rattle.c_accepted.proofs.Started.{AreBegun, external_begun, begins_begun}
use Rattle.c_accepted.proofs.Begun.{AllGive, all_begun}
use Rattle.c_accepted.proofs.Given.{all_give, words_given}
use Rattle.c_accepted.proofs.Symbols.{IsReferentOf, all_symbols}
use Rattle.c_accepted.proofs.Wanted.{external_sought}
use Rattle.c_accepted.proofs.Entries.{Entry}
use Rattle.c_accepted.proofs.PlacesKept.{ArePlaced, same_whole, external_placed, begins_placed, first_placed, next_placed}
use Rattle.c_accepted.proofs.PlacesFound.{places_there}
use Rattle.c_accepted.proofs.Denotes.{AreTold, external_told, first_told, next_told}
use Rattle.c_accepted.proofs.Referents.{calls_there, referents_there}
use Rattle.c_accepted.proofs.Differing.{Chooses, mains, rows_for, IsRowFor, main_there, all_differ, function_names, object_names}

-- ---- no fault

pub record IsFaultless (f : Told) (q : State) : Type 0 where
  pub well : f ≡ Well
  pub once : twice [] q.definitions ≡ None
  pub called : uncalled q q.calls ≡ None
  pub main : programs.has_main q.definitions ≡ true

main_only : (b : Bool) → ◌≡◌ {A = Option Fault} (if b then None else Some NoMain) None → b ≡ true
main_only true h = refl
main_only false h = absurd (let e : Some NoMain ≡ None = h in cc)

module _ (q : State) where
  behind : (f : Told) → behind_rules f q ≡ None → (twice [] q.definitions ≡ None) × (missing f q ≡ None) × (programs.has_main q.definitions ≡ true)
  behind f h = by (twice [] q.definitions) (missing f q) refl refl h
    where
      by : (a b : Option (List ℕ)) → twice [] q.definitions ≡ a → missing f q ≡ b
          → (elim a as (λ _. Option Fault) [ Some n ↦ Some (Twice n) | None ↦ elim b as (λ _. Option Fault) [ Some n ↦ Some (Undefined n) | None ↦ if programs.has_main q.definitions then None else Some NoMain ] ]) ≡ None
          → (twice [] q.definitions ≡ None) × (missing f q ≡ None) × (programs.has_main q.definitions ≡ true)
      by (Some n) b x y h = absurd (let e : Some (Twice n) ≡ None = h in cc)
      by None (Some n) x y h = absurd (let e : Some (Undefined n) ≡ None = h in cc)
      by None None x y h = (x, y, main_only (programs.has_main q.definitions) h)

  never_none : (a : Option (List ℕ)) (n : List ℕ) → or_name a (Some n) ≡ None → ⊥
  never_none None n h = (let e : Some n ≡ None = h in cc)
  never_none (Some m) n h = (let e : Some m ≡ None = h in cc)

  pub faultless : (f : Told) → first_fault f q ≡ None → IsFaultless f q
  faultless Well h = let b = behind Well h in record { well = refl; once = b.0; called = b.1; main = b.2 }
  faultless (Lacks n) h = let b = behind (Lacks n) h in absurd (never_none (uncalled q q.calls) n b.1)
  faultless (Breaks r u at) h = absurd (let e : Some (Rule r u at) ≡ None = h in cc)

-- ---- what stands behind the last file

abbrev NoMore : External → Type 0
NoMore e = Unit {0}

no_asking : (es : List External) → AllByRecursion NoMore es
no_asking [] = tt
no_asking (e ∷ es) = (tt, no_asking es)

none_more : (us : List (List External)) → AllByRecursion (AllByRecursion NoMore) us
none_more [] = tt
none_more (u ∷ us) = (no_asking u, none_more us)

pub declared_behind : (us : List (List External)) (q : State) → AllFiles (tags_of us) (at_first (tags_of us)) us Well q → Stands (tags_of us) q × AreOfFiles (tags_of us) q
declared_behind us q h =
    walk_files (tags_of us) NoMore AreDeclared (AreOfFiles (tags_of us)) (λ p e q s t w i g n. external_declared (tags_of us) p e q i g n) (λ p s n. n.declared) (λ p s n. next_of_files (tags_of us) p n)
    us (at_first (tags_of us)) Well q (first_stands (tags_of us), first_of_files (tags_of us)) (tags_there us) (none_more us) h refl

abbrev TypedNow : State → Type 0
TypedNow p = TypedIn (whole p) p

abbrev TypedBefore : State → Type 0
TypedBefore p = TypedIn p.others p

pub typed_behind : (us : List (List External)) (q : State) → AllFiles (tags_of us) (at_first (tags_of us)) us Well q → TypedIn q.others q
typed_behind us q h =
    (walk_files (tags_of us) NoMore TypedNow TypedBefore (λ p e q s t w i g n. external_typed (tags_of us) p e q s t i g n) (λ p s n. begins_typed (tags_of us) p s n) (λ p s n. next_typed (tags_of us) p n)
    us (at_first (tags_of us)) Well q (first_stands (tags_of us), first_typed (tags_of us)) (tags_there us) (none_more us) h refl).1

abbrev WholeNow : State → Type 0
WholeNow p = AreWhole (whole p) p

abbrev WholeBefore : State → Type 0
WholeBefore p = AreWhole p.others p

pub whole_behind : (us : List (List External)) (q : State) → AreTexts us → AllFiles (tags_of us) (at_first (tags_of us)) us Well q → AreWhole q.others q
whole_behind us q w h =
    (walk_files (tags_of us) IsText WholeNow WholeBefore (λ p e q s t w i g n. external_whole (tags_of us) p e q s w i g n) (λ p s n. begins_whole (tags_of us) p s n) (λ p s n. n)
    us (at_first (tags_of us)) Well q (first_stands (tags_of us), tt) (tags_there us) w h refl).1

abbrev BegunNow : State → Type 0
BegunNow p = AreBegun (whole p) p

abbrev BegunBefore : State → Type 0
BegunBefore p = AreBegun p.others p

pub begun_behind : (us : List (List External)) (q : State) → AreTexts us → AllFiles (tags_of us) (at_first (tags_of us)) us Well q → AreBegun q.others q
begun_behind us q w h =
    (walk_files (tags_of us) IsText BegunNow BegunBefore (λ p e q s t w i g n. external_begun (tags_of us) (same_whole (tags_of us)) p e q s t w i g n) (λ p s n. begins_begun (tags_of us) p s n) (λ p s n. n)
    us (at_first (tags_of us)) Well q (first_stands (tags_of us), tt) (tags_there us) w h refl).1

pub sought_behind : (us : List (List External)) (q : State) → AllFiles (tags_of us) (at_first (tags_of us)) us Well q → AreSought q
sought_behind us q h =
    (walk_files (tags_of us) NoMore AreSought AreSought (λ p e q s t w i g n. external_sought p e q i n) (λ p s n. n) (λ p s n. n)
    us (at_first (tags_of us)) Well q (first_stands (tags_of us), tt) (tags_there us) (none_more us) h refl).1

abbrev PlacedNow : State → Type 0
PlacedNow p = ArePlaced (whole p) p

abbrev PlacedBefore : State → Type 0
PlacedBefore p = ArePlaced p.others p

pub placed_behind : (us : List (List External)) (q : State) → AllFiles (tags_of us) (at_first (tags_of us)) us Well q → ArePlaced q.others q
placed_behind us q h =
    (walk_files (tags_of us) NoMore PlacedNow PlacedBefore (λ p e q s t w i g n. external_placed (tags_of us) p e q s t i g n) (λ p s n. begins_placed (tags_of us) p s n) (λ p s n. next_placed (tags_of us) p n)
    us (at_first (tags_of us)) Well q (first_stands (tags_of us), first_placed (tags_of us)) (tags_there us) (none_more us) h refl).1

pub told_behind : (us : List (List External)) (q : State) → AllFiles (tags_of us) (at_first (tags_of us)) us Well q → AreTold q
told_behind us q h =
    (walk_files (tags_of us) NoMore AreTold AreTold (λ p e q s t w i g n. external_told (tags_of us) p e q s t i n) (λ p s n. n) (λ p s n. next_told (tags_of us) p n)
    us (at_first (tags_of us)) Well q (first_stands (tags_of us), first_told (tags_of us)) (tags_there us) (none_more us) h refl).1

-- ---- which names are chosen

abbrev external_ones : ℕ → Bool → Bool
external_ones u s = not s

chooses_external : Chooses external_ones
chooses_external u v false false x y w = (refl, refl)
chooses_external u v true t x y w = absurd (true≢false (sym x))
chooses_external u v false true x y w = absurd (true≢false (sym y))

abbrev ones_of : ℕ → ℕ → Bool → Bool
ones_of n u s = u == n

same_number : (n : ℕ) → (n == n) ≡ true
same_number n = grind arith

chooses_file : (n : ℕ) → Chooses (ones_of n)
chooses_file n u v s t x y w =
    let e : u ≡ v = eqb-true u n x ∙ sym (eqb-true v n y) in
    absurd (true≢false (sym (same_number v) ∙ ap (λ m. m == v) (sym e) ∙ w))

module _ (names : List (List ℕ)) (us : List (List External)) (p : Program) (a : Accepts names us p) (many : length names ≡ length us) (texts : AreTexts us) where
  stands : Stands (tags_of us) a.behind × AreOfFiles (tags_of us) a.behind
  stands = declared_behind us a.behind a.files

  no_fault : IsFaultless (late_found a.behind.names a.behind.late) a.behind
  no_fault = faultless a.behind (late_found a.behind.names a.behind.late) a.faultless

  pub sound : AreSound p.defs
  sound = subst AreSound (sym a.rows.defs) stands.0.others

  structs : AllFrom (IsStruct p.defs) 0 p.defs
  structs = structs_keep p.defs sound

  rows : Each (IsRowFor a.behind) (bodies_of a.behind.definitions) p.functions
  rows = rows_for a.behind (bodies_of a.behind.definitions) a.behind.bodies p.functions stands.1.declared.bodies a.rows.functions

  main : has_main p.functions ≡ true
  main = main_there a.behind a.behind.definitions p.functions (mains a.behind.names stands.1.declared.rules a.behind.definitions stands.1.declared.defined) rows no_fault.main

  differ : (k : ℕ → Bool → Bool) → Chooses k
      → Differ (map (λ (f : FunctionRow). f.name) (filter (λ (f : FunctionRow). k f.unit f.is_static) p.functions) ++ map (λ (o : ObjectRow). o.name) (filter (λ (o : ObjectRow). k o.unit o.is_static) p.objects))
  differ k c =
      let fs = function_names a.behind k (bodies_of a.behind.definitions) p.functions rows in
      let os = object_names a.behind k (objects_from [] a.behind.definitions) p.objects a.rows.objects in
      subst Differ (sym (λ i. fs i ++ os i)) (all_differ a.behind.names stands.1.declared.consistent k c a.behind.definitions stands.1.declared.defined no_fault.once)

  in_files : (u : ℕ) (rs : List UnitRow) → AllFrom (λ u row. Differ (names_of_unit p u)) u rs
  in_files u [] = tt
  in_files u (r ∷ rs) = (differ (ones_of u) (chooses_file u), in_files (suc u) rs)

  typed : TypedIn p.defs a.behind
  typed = subst (λ ds. TypedIn ds a.behind) (sym a.rows.defs) (typed_behind us a.behind a.files)

  files : a.behind.here.unit ≡ length p.units
  files =
      let e = files_counted (tags_of us) us (at_first (tags_of us)) Well a.behind (first_stands (tags_of us)) (tags_there us) a.files refl in
      let f = units_counted a.behind 0 names p.units a.rows.units in
      omega (arith, e, f, many)

  wholes : AllByRecursion (IsWholeIn p.defs a.behind.names) a.behind.definitions
  wholes = subst (λ ds. AllByRecursion (IsWholeIn ds a.behind.names) a.behind.definitions) (sym a.rows.defs) (whole_behind us a.behind texts a.files)

  placed : AllByRecursion (IsPlaced p a.behind) (objects_from [] a.behind.definitions)
  placed =
      objects_placed p a.behind stands.1.declared.consistent typed stands.1.before a.behind.definitions wholes

  objects : AllByRecursion (λ (o : ObjectRow). AreStarts p (leaves_of p.defs o.ctype) o.start) p.objects → AllByRecursion (IsObject p) p.objects
  objects starts = objects_kept p a.behind stands.1.declared.consistent typed stands.1.before sound files (objects_from [] a.behind.definitions) p.objects placed a.rows.objects starts

  pub begun : AreBegun p.defs a.behind
  begun = subst (λ ds. AreBegun ds a.behind) (sym a.rows.defs) (begun_behind us a.behind texts a.files)

  given : AllByRecursion (AllGive p a.behind) (objects_from [] a.behind.definitions)
  given =
      all_give p a.behind stands.1.declared.consistent (ap length (sym a.rows.strings)) begun a.behind.definitions wholes

  known_places : ArePlaced p.defs a.behind
  known_places = subst (λ ds. ArePlaced ds a.behind) (sym a.rows.defs) (placed_behind us a.behind a.files)

  module _ (units : ℕ) (entries : (i : ℕ) (b : Bodied) → slice_get a.behind.bodies i ≡ Some b → Entry units a.behind.others a.behind i b) where
    told : AreTold a.behind
    told = told_behind us a.behind a.files

    pub calls : CallsAreThere p a.behind
    calls = calls_there names p a.behind a.rows stands.1.declared (sought_behind us a.behind a.files) no_fault.called wholes told units entries

    referents : AllByRecursion (IsReferentOf p a.behind) a.behind.here.names
    referents = referents_there names p a.behind a.rows stands.1.declared (sought_behind us a.behind a.files) no_fault.called wholes told units entries 0 a.behind.here.names typed.scope.rows told.rows

    -- the program is accepted where its functions are
    pub assembled : AllFrom (IsFunction p) 0 p.functions → KeepsRules p
    assembled functions = record {
      structs = structs;
      objects = objects (all_begun p a.behind a.rows.defs (objects_from [] a.behind.definitions) p.objects given a.rows.objects (words_given p.defs a.behind begun (objects_from [] a.behind.definitions) p.objects a.rows.objects)
          (places_there p a.behind stands.1.declared (sought_behind us a.behind a.files) no_fault.called wholes a.rows.objects known_places no_fault.well));
      functions = functions;
      symbols = all_symbols p a.behind sound 0 a.behind.here.names p.symbols typed.scope.rows referents a.rows.symbols;
      points = points_kept a.behind names p a.rows typed.stops;
      units = units_kept a.behind names p a.rows;
      main = main;
      external = differ external_ones chooses_external;
      internal = in_files 0 p.units;
      room = room_kept a.behind names p a.rows;
    }
