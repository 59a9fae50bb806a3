-- Names of a table as operands.
use Rattle.std.specs.Prelude.{ℕ, Bool, true, false, List, ◌∷◌, drop, codes, Option, Some, None, Result, Ok, Err}
use Rattle.ldb_words.specs.Word.{sum_of}
use Rattle.ps_store.specs.declared.object.PsObj.{PsObj}
use Rattle.ps_store.specs.declared.object.PsObj.TheVariants.{Array, Dict}
use Rattle.ps_store.specs.declared.object.DictId.{DictId}
use Rattle.ps_store.specs.StoreState.{StoreState}
use Rattle.ps_step.specs.declared.fault.PsError.{PsError}
use Rattle.ps_step.specs.declared.fault.PsError.TheVariants.{Undefined, TypeCheck}
use Rattle.ps_step.specs.declared.item.Item.TheVariants.{Object}
use Rattle.ps_step.specs.declared.machine.PsCore.{PsCore}
use Rattle.ps_step.specs.Results.{◌>>=◌}
use Rattle.ps_step.specs.Operands.{one_of, pair_of}
use Rattle.ps_step.specs.State.{Made, with_operands, scheduling}
use Rattle.ps_words.specs.Operators.{word_in, integer}
use Rattle.ps_places.specs.Places.{name_of}
use Rattle.ps_places.specs.Lacks.{looked}
use Rattle.table_model.specs.Reading.{Walked, entry, dict_at, top_of}
use Rattle.table_model.specs.Objects.{anchor_of}
use Rattle.table_model.specs.Symbols.{symbol_named}

-- where there is no target, anchors and structs are not defined
abbrev pub if_target : (has_target : Bool) → Result (Unit {0}) PsError
if_target true = Ok tt
if_target false = Err Undefined

-- `n /name Anchor`
abbrev pub anchoring : (has_target : Bool) → PsCore → Made
anchoring has_target c =
    pair_of c.operands >>= λ p. word_in p.0 >>= λ n. name_of c.store p.1 >>= λ name. if_target has_target >>= λ u.
    looked (anchor_of c.store name) >>= λ at. Ok (with_operands c (integer (sum_of n at) ∷ drop 2 c.operands))

-- the name that is the topmost operand
abbrev pub top_name : PsCore → Result (List ℕ) PsError
top_name c = one_of c.operands >>= name_of c.store

-- `/tag Struct`: the type of a tag
abbrev pub struct_named : StoreState → List ℕ → Walked DictId
struct_named s tag = top_of s >>= λ top. dict_at s top (codes "structs") >>= λ structs. dict_at s structs tag

abbrev pub giving_struct : (has_target : Bool) → PsCore → Made
giving_struct has_target c =
    top_name c >>= λ tag. if_target has_target >>= λ u. looked (struct_named c.store tag) >>= λ t. Ok (with_operands c (Dict t ∷ drop 1 c.operands))

-- the procedure that an object is
abbrev pub to_execute : PsObj → Result PsObj PsError
to_execute (Array a true) = Ok (Array a true)
to_execute x = Err TypeCheck

abbrev pub or_undefined : {A : Type 0} → Option A → Result A PsError
or_undefined None = Err Undefined
or_undefined (Some x) = Ok x

-- the procedure that leaves the place of the symbol of a name in scope
abbrev pub where_of : StoreState → (scope : Option DictId) → List ℕ → Result PsObj PsError
where_of s scope name =
    looked (symbol_named s scope name) >>= or_undefined >>= λ symbol. looked (entry s symbol (codes "where")) >>= to_execute

-- `/x Where`, in a frame where this is the innermost symbol in scope: the procedure is executed next, in the place of the name
abbrev pub asked_where : (scope : Option DictId) → PsCore → Result PsObj PsError
asked_where scope c = top_name c >>= where_of c.store scope

abbrev pub locating : (scope : Option DictId) → PsCore → Made
locating scope c = asked_where scope c >>= λ body. scheduling (Object body) (with_operands c (drop 1 c.operands))
