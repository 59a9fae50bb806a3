-- Operators on the leaves of the object to which a pointer belongs.
use Rattle.std.specs.Prelude.{ℕ, Bool, true, false, ◌∷◌, drop, Option, Result, Ok, Err}
use Rattle.ps_store.specs.declared.object.PsObj.{PsObj}
use Rattle.ps_store.specs.declared.object.PsObj.TheVariants.{Dict}
use Rattle.ps_store.specs.StoreState.{StoreState}
use Rattle.ps_step.specs.declared.fault.PsError.{PsError}
use Rattle.ps_step.specs.declared.fault.PsError.TheVariants.{Pointer}
use Rattle.ps_step.specs.declared.machine.PsCore.{PsCore}
use Rattle.ps_step.specs.Results.{◌>>=◌}
use Rattle.ps_step.specs.Operands.{pair_of}
use Rattle.ps_step.specs.State.{Made, with_operands}
use Rattle.ps_step.specs.Values.{as_count}
use Rattle.ps_words.specs.Operators.{word_in, integer}
use Rattle.ps_places.specs.Places.{text_of, kind_named, space_name}
use Rattle.ps_places.specs.Lacks.{looked}
use Rattle.frame_bytes.specs.declared.frame.Space.TheVariants.{Memory}
use Rattle.table_model.specs.declared.found.Found.{Found}
use Rattle.table_model.specs.Reading.{Walked}
use Rattle.table_types.specs.Offsets.{offset_of, kind_live, type_live, checked, checked_found, byte_run}
use Rattle.ps_leaves.specs.declared.leaves.Access.{Access}
use Rattle.ps_leaves.specs.declared.leaves.Access.TheVariants.{OfKind, OfType}

-- ---- `p kind Leaf`, `p type Leaf`

-- what an access takes: a leaf of a kind, or those of a type
abbrev pub access_of : StoreState → PsObj → Result Access PsError
access_of s (Dict t) = looked (checked s t) >>= λ u. Ok (OfType t)
access_of s x = text_of s x >>= kind_named >>= λ k. Ok (OfKind k)

abbrev pub leaf_operands : PsCore → Result (ℕ × Access) PsError
leaf_operands c = pair_of c.operands >>= λ t. word_in t.0 >>= λ p. access_of c.store t.1 >>= λ a. Ok (p, a)

-- whether each leaf of it is live where the pointer leads, in the object to which it belongs
abbrev pub access_live : StoreState → Option Found → Access → Walked Bool
access_live s found (OfKind k) = kind_live s found k (offset_of found)
access_live s found (OfType t) = type_live s found 64 t (offset_of found)

abbrev pub all_live : StoreState → Option Found → Access → Walked Bool
all_live s found a = checked_found s found >>= λ u. access_live s found a

abbrev pub if_live : Bool → Result (Unit {0}) PsError
if_live true = Ok tt
if_live false = Err Pointer

abbrev pub need_live : StoreState → Option Found → Access → Result (Unit {0}) PsError
need_live s found a = looked (all_live s found a) >>= if_live

abbrev pub leaving_leaf : Option Found → PsCore → Made
leaving_leaf found c =
    leaf_operands c >>= λ a. need_live c.store found a.1 >>= λ u.
    Ok (with_operands c (integer a.0 ∷ space_name Memory ∷ drop 2 c.operands))

-- ---- `p charrun`

-- a number that no integer holds is out of range
abbrev pub run_of : StoreState → Option Found → Result PsObj PsError
run_of s found = looked (byte_run s found) >>= as_count

abbrev pub leaving_run : Option Found → PsCore → Made
leaving_run found c = run_of c.store found >>= λ x. Ok (with_operands c (x ∷ drop 1 c.operands))
