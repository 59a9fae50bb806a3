-- The first fault behind the last file, by what the code finds.
use Rattle.std.proofs.Common.{◌≡◌, ℕ, Bool, true, false, not, ◌&&◌, ◌||◌, ◌==◌, cond, List, [], ◌∷◌, map, ◌∙◌, sym, refl, ap, subst, Option, Some, None, option_map, nat_le, if◌then◌else◌, codes}
use Rattle.std.specs.List.{find}
use Rattle.c_linkage.specs.declared.state.State.{State as Standing}
use Rattle.c_linkage.specs.declared.state.Called.{Called as CalledRow}
use Rattle.c_linkage.specs.declared.state.Awaited.{Awaited as AwaitedRow}
use Rattle.c_rows.specs.declared.defined.DefinedNames.{DefinedNames}
use Rattle.c_scope.specs.Findings.{holds}
use Rattle.c_linkage.specs.Names.{FileName, Defining, defining, is_built_in, is_defined, twice}
use Rattle.c_file.specs.Files.{State}
use Rattle.c_rows.specs.Sets.{defined_in}
use Rattle.c_file.specs.Standing.{Stands, told}
use Rattle.c_linkage.specs.Wanted.{called, awaited}
use Rattle.c_check.specs.Faulty.{fault_of}
use Rattle.c_file.specs.Programs.{Told, Well, Breaks, in_file, ◌before◌, Fault, Rule, Twice, Undefined, NoMain, late_found, uncalled, missing, has_main, behind_rules, first_fault}
use Rattle.c_linkage.specs.Bounds.{greatest_bound, is_static_in, or_name}
use Rattle.c_rows.specs.Behind.{is_row_past, is_row_uncalled, called_name, uncalled_in, missing_in}

-- ---- places past the end of their objects

abbrev told_past : Option AwaitedRow → Told
told_past None = Well
told_past (Some l) = Breaks 12 l.unit l.place.at

past_told : (fs : List FileName) (ls : List AwaitedRow) → late_found fs (map awaited ls) ≡ told_past (find (is_row_past fs) ls)
past_told fs [] = refl
past_told fs (l ∷ ls) =
    let P : Bool → Type 0 = λ b. (in_file l.unit (holds b 12 l.place.at) before late_found fs (map awaited ls)) ≡ told_past (cond (not b) (Some l) (find (is_row_past fs) ls)) in
    elim ((greatest_bound fs (awaited l) == 0) || nat_le l.place.items (greatest_bound fs (awaited l))) as P [ true ↦ past_told fs ls | false ↦ refl ]

-- ---- names that are not defined

abbrev pub Knows : DefinedNames → List Defining → Type 0
Knows m ds = (u : ℕ) (s : Bool) (name : List ℕ) → defined_in m u s name ≡ is_defined ds u s name

uncalled_told : (m : DefinedNames) (q : State) (fs : List FileName) → Knows m q.definitions → fs ≡ q.names → (cs : List CalledRow) → uncalled q (map called cs) ≡ uncalled_in m fs cs
uncalled_told m q fs k e [] = refl
uncalled_told m q fs k e (c ∷ cs) =
    let rest = uncalled_told m q fs k e cs in
    let P : Bool → Type 0 = λ b. (if b then uncalled q (map called cs) else Some c.name.now) ≡ option_map called_name (cond (not b) (Some c) (find (is_row_uncalled m fs) cs)) in
    let there : (c.declared && (is_built_in c.name.now || is_defined q.definitions c.unit (is_static_in q.names c.unit c.name.now) c.name.now)) ≡ (c.declared && (is_built_in c.name.now || defined_in m c.unit (is_static_in fs c.unit c.name.now) c.name.now)) =
    ap (λ b. c.declared && (is_built_in c.name.now || b)) (sym (ap (λ gs. defined_in m c.unit (is_static_in gs c.unit c.name.now) c.name.now) e ∙ k c.unit (is_static_in q.names c.unit c.name.now) c.name.now)) in
    ap (λ b. if b then uncalled q (map called cs) else Some c.name.now) there ∙
    (elim (c.declared && (is_built_in c.name.now || defined_in m c.unit (is_static_in fs c.unit c.name.now) c.name.now)) as P [ true ↦ rest | false ↦ refl ])

or_none : (o : Option (List ℕ)) → o ≡ or_name o None
or_none None = refl
or_none (Some n) = refl

missing_told : (n : ℕ) (m : DefinedNames) (s : Standing) (q : State) → Stands n s q → Knows m (map defining s.definitions.items) → missing (told s.unknown) q ≡ missing_in m s
missing_told n m s q h k =
    let k' : Knows m q.definitions = subst (Knows m) h.definitions k in
    let all : uncalled q q.calls ≡ uncalled_in m s.names s.calls.items = ap (uncalled q) (sym h.calls) ∙ uncalled_told m q s.names k' h.names s.calls.items in
    let P : Option (List ℕ) → Type 0 = λ o. missing (told o) q ≡ or_name (uncalled_in m s.names s.calls.items) o in
    elim s.unknown as P [ Some name ↦ ap (λ o. or_name o (Some name)) all | None ↦ all ∙ or_none (uncalled_in m s.names s.calls.items) ]

-- ---- the first fault

before_breaks : (o : Option (List ℕ)) (r u at : ℕ) → (told o before Breaks r u at) ≡ Breaks r u at
before_breaks None r u at = refl
before_breaks (Some n) r u at = refl

before_well : (o : Option (List ℕ)) → (told o before Well) ≡ told o
before_well None = refl
before_well (Some n) = refl

no_rule : (o : Option (List ℕ)) (q : State) → first_fault (told o) q ≡ behind_rules (told o) q
no_rule None q = refl
no_rule (Some n) q = refl

late_is : (n : ℕ) (s : Standing) (q : State) → Stands n s q → late_found q.names q.late ≡ told_past (find (is_row_past s.names) s.late.items)
late_is n s q h = ap (λ ls. late_found q.names ls) (sym h.late) ∙ (ap (λ fs. late_found fs (map awaited s.late.items)) (sym h.names) ∙ past_told s.names s.late.items)

pub past_is_first : (n : ℕ) (s : Standing) (q : State) → Stands n s q → (l : AwaitedRow) → find (is_row_past s.names) s.late.items ≡ Some l → fault_of s q ≡ Some (Rule 12 l.unit l.place.at)
past_is_first n s q h l e = ap (λ f. first_fault (told s.unknown before f) q) (late_is n s q h ∙ ap told_past e) ∙ ap (λ f. first_fault f q) (before_breaks s.unknown 12 l.unit l.place.at)

none_past : (n : ℕ) (s : Standing) (q : State) → Stands n s q → find (is_row_past s.names) s.late.items ≡ None → fault_of s q ≡ behind_rules (told s.unknown) q
none_past n s q h e = ap (λ f. first_fault (told s.unknown before f) q) (late_is n s q h ∙ ap told_past e) ∙ (ap (λ f. first_fault f q) (before_well s.unknown) ∙ no_rule s.unknown q)

abbrev behind_twice : Option (List ℕ) → Bool → Option Fault
behind_twice o b = elim o as (λ _. Option Fault) [ Some n ↦ Some (Undefined n) | None ↦ if b then None else Some NoMain ]

abbrev behind_past : Option (List ℕ) → Option (List ℕ) → Bool → Option Fault
behind_past t o b = elim t as (λ _. Option Fault) [ Some n ↦ Some (Twice n) | None ↦ behind_twice o b ]

pub twice_is_first : (n : ℕ) (s : Standing) (q : State) → Stands n s q → (name : List ℕ) → find (is_row_past s.names) s.late.items ≡ None → twice [] (map defining s.definitions.items) ≡ Some name
    → fault_of s q ≡ Some (Twice name)
twice_is_first n s q h name e t =
    none_past n s q h e ∙ ap (λ o. behind_past o (missing (told s.unknown) q) (has_main q.definitions)) (ap (twice []) (sym h.definitions) ∙ t)

abbrev main_in : DefinedNames → Bool
main_in m = defined_in m 0 false (codes "main")

none_twice : (n : ℕ) (m : DefinedNames) (s : Standing) (q : State) → Stands n s q → Knows m (map defining s.definitions.items)
    → find (is_row_past s.names) s.late.items ≡ None → twice [] (map defining s.definitions.items) ≡ None → fault_of s q ≡ behind_twice (missing_in m s) (main_in m)
none_twice n m s q h k e t =
    none_past n s q h e ∙
    (ap (λ o. behind_past o (missing (told s.unknown) q) (has_main q.definitions)) (ap (twice []) (sym h.definitions) ∙ t) ∙
    (ap (λ o. behind_twice o (has_main q.definitions)) (missing_told n m s q h k) ∙
    ap (behind_twice (missing_in m s)) (sym (k 0 false (codes "main") ∙ ap (λ ds. is_defined ds 0 false (codes "main")) h.definitions))))

pub missing_is_first : (n : ℕ) (m : DefinedNames) (s : Standing) (q : State) → Stands n s q → Knows m (map defining s.definitions.items)
    → find (is_row_past s.names) s.late.items ≡ None → twice [] (map defining s.definitions.items) ≡ None → (name : List ℕ) → missing_in m s ≡ Some name → fault_of s q ≡ Some (Undefined name)
missing_is_first n m s q h k e t name i = none_twice n m s q h k e t ∙ ap (λ o. behind_twice o (main_in m)) i

pub main_is_last : (n : ℕ) (m : DefinedNames) (s : Standing) (q : State) → Stands n s q → Knows m (map defining s.definitions.items)
    → find (is_row_past s.names) s.late.items ≡ None → twice [] (map defining s.definitions.items) ≡ None → missing_in m s ≡ None → (b : Bool) → defined_in m 0 false (codes "main") ≡ b
    → fault_of s q ≡ (if b then None else Some NoMain)
main_is_last n m s q h k e t i b d = none_twice n m s q h k e t ∙ (ap (λ o. behind_twice o (main_in m)) i ∙ ap (λ x. if x then None else Some NoMain) d)
