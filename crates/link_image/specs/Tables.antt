-- What a table of addresses has, and what is found by it.
use Rattle.std.specs.Prelude.{◌≡◌, ℕ, Bool, true, false, if◌then◌else◌, List, [], ◌∷◌, length, Option, Some, None, slice_get, bytes_eq}
use Rattle.std.specs.List.{AllByRecursion, list_all}
use Rattle.std.specs.BTreeMap.{get_by}
use Rattle.std.specs.Cmp.Lexicographic.{slice_cmp}
use Rattle.std.specs.Ordering.{nat_cmp}
use Rattle.obj_placed.specs.Patched.{stands_in}
use Rattle.obj_placed.specs.Placed.{joined, names_of}
use Rattle.obj_file.specs.declared.object.Object.{Object}
use Rattle.obj_file.specs.declared.object.StaticDef.{StaticDef}
use Rattle.obj_file.specs.declared.object.Use.{Use}
use Rattle.link_image.specs.declared.addresses.Entry.{Entry}
use Rattle.link_image.specs.declared.addresses.Addresses.{Addresses}
use Rattle.link_image.specs.declared.fault.LinkFault.{LinkFault}
use Rattle.link_image.specs.declared.fault.LinkFault.TheVariants as fault
use Rattle.link_image.specs.Linked.{linked_addresses}
use Rattle.link_image.specs.Conditions.{are_fitting, use_lies, has_uses_inside, UsesName, IsUsed}

-- ---- names

abbrev pub entry_in : Addresses → List ℕ → Option Entry
entry_in a name = get_by (λ k. slice_cmp nat_cmp name k.now) a.of

abbrev pub address_by : Option Entry → Option ℕ
address_by None = None
address_by (Some e) = Some e.address

abbrev pub address_in : Addresses → List ℕ → Option ℕ
address_in a name = address_by (entry_in a name)

-- a name that is defined at an address once more: the first definition counts
abbrev pub again : Option Entry → (address : ℕ) → Option Entry
again None address = Some (record { address = address; doubled = false })
again (Some e) address = Some (record { address = e.address; doubled = true })

-- what is known of a name behind some definitions
abbrev pub seen : Option Entry → List (List ℕ × ℕ) → (name : List ℕ) → Option Entry
seen known [] name = known
seen known (n ∷ ns) name = seen (if bytes_eq n.0 name then again known n.1 else known) ns name

unfoldable pub linked_entry : List Object → List ℕ → Option Entry
linked_entry objects name = seen None (names_of objects (linked_addresses objects)) name

abbrev pub IsOnce : Option Entry → Type 0
IsOnce None = ⊥
IsOnce (Some e) = e.doubled ≡ false

abbrev pub IsTwice : Option Entry → Type 0
IsTwice None = ⊥
IsTwice (Some e) = e.doubled ≡ true

-- why a name has no address
abbrev pub IsNameFault : Option Entry → (name : List ℕ) → LinkFault → Type 0
IsNameFault entry name (fault.Unresolved n) = (n ≡ name) × (entry ≡ None)
IsNameFault entry name (fault.Doubled n) = (n ≡ name) × IsTwice entry
IsNameFault entry name fault.NoMemory = Unit {0}
IsNameFault entry name _ = ⊥

-- ---- uses, by what is known of each name

-- a use, if it stands there, lies there, and its name is defined once
abbrev pub IsTaken : (entry : List ℕ → Option Entry) → (in_text : Bool) → (size : ℕ) → Use → Type 0
IsTaken entry in_text size u = (use_lies in_text size u ≡ true) × (stands_in in_text u ≡ true → IsOnce (entry u.name))

abbrev pub HasText : (List ℕ → Option Entry) → Object → Type 0
HasText entry o = AllByRecursion (IsTaken entry true (length o.text)) o.uses

abbrev pub HasStatics : (List ℕ → Option Entry) → Object → Type 0
HasStatics entry o = AllByRecursion (IsTaken entry false (length (joined o.statics))) o.uses

-- why a use is not patched
abbrev pub IsUseFault : (entry : List ℕ → Option Entry) → (in_text : Bool) → (size : ℕ) → Use → LinkFault → Type 0
IsUseFault entry in_text size u fault.Uses = use_lies in_text size u ≡ false
IsUseFault entry in_text size u (fault.Unresolved n) = (n ≡ u.name) × (entry u.name ≡ None)
IsUseFault entry in_text size u (fault.Doubled n) = (n ≡ u.name) × IsTwice (entry u.name)
IsUseFault entry in_text size u fault.NoMemory = Unit {0}
IsUseFault entry in_text size u _ = ⊥

-- why those of an object are not
abbrev pub IsUsesFault : (entry : List ℕ → Option Entry) → (in_text : Bool) → (size : ℕ) → Object → LinkFault → Type 0
IsUsesFault entry in_text size o fault.Uses = list_all (use_lies in_text size) o.uses ≡ false
IsUsesFault entry in_text size o (fault.Unresolved n) = UsesName o n × (entry n ≡ None)
IsUsesFault entry in_text size o (fault.Doubled n) = UsesName o n × IsTwice (entry n)
IsUsesFault entry in_text size o fault.NoMemory = Unit {0}
IsUsesFault entry in_text size o _ = ⊥

-- why those of some objects are not
abbrev pub IsTableFault : (entry : List ℕ → Option Entry) → List Object → LinkFault → Type 0
IsTableFault entry objects fault.Uses = list_all has_uses_inside objects ≡ false
IsTableFault entry objects (fault.Unresolved n) = IsUsed objects n × (entry n ≡ None)
IsTableFault entry objects (fault.Doubled n) = IsUsed objects n × IsTwice (entry n)
IsTableFault entry objects fault.NoMemory = Unit {0}
IsTableFault entry objects _ = ⊥

-- ---- static objects, the first at this address, that do not lie in the data region

abbrev pub IsUnfit : (at : ℕ) → List StaticDef → LinkFault → Type 0
IsUnfit at ss fault.Statics = are_fitting at ss ≡ false
IsUnfit at ss fault.NoMemory = Unit {0}
IsUnfit at ss _ = ⊥
