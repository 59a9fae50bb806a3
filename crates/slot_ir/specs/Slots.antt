-- What slot code does, operator by operator.
use Rattle.std.specs.Prelude.{ℕ, suc, zero, ◌+◌, ◌*◌, ◌%◌, List, [], ◌∷◌, ◌++◌, Bool, true, false, ◌==◌, pos, Option, Some, None, Result, Ok, Err, reverse, slice_get, drop, length, map, option_map, if◌then◌else◌}
use Rattle.ldb_words.specs.declared.kinds.Kind.{Kind}
use Rattle.ldb_words.specs.Word.{signed}
use Rattle.c_tree.specs.declared.types.Leaf.{Leaf}
use Rattle.runs.specs.Runs.{Next, Goes, Passes, Exits, Undefined, Why, IllTyped}
use Rattle.c_operators.specs.Bits.{minus_one}
use Rattle.c_store.specs.Store.{Value, Number, Null, At, Cell, World, zero_of, used, load, store, moved, load_struct, store_struct, with_first, ◌>>=◌}
use Rattle.c_store.specs.Frames.{Here, ActivationRecord, with_world, with_point, made, left, is_free, bound, new_activation}
use Rattle.slot_ir.specs.declared.code.SlotOp.{SlotOp}
use Rattle.slot_ir.specs.declared.code.SlotOp.TheVariants.{Const, Null as NullOp, StaticAddress, TextAddress, LocalAddress, Load, Store, ReadRegister, WriteRegister, Convert, Unary, Binary, Compare, Index, Distance, Offset, Take, Jump, JumpIfZero, JumpIfNotZero, JumpIfEqual, Call, Return, Stop, Move, Zero, Leave, GetChar, PutChar, Exit}
use Rattle.slot_ir.specs.declared.code.Access.{Access}
use Rattle.slot_ir.specs.declared.code.SlotCode.{SlotCode}
use Rattle.slot_ir.specs.declared.code.SlotFunction.{SlotFunction}
use Rattle.slot_ir.specs.declared.code.SlotLocal.{SlotLocal}
use Rattle.slot_ir.specs.declared.code.SlotStruct.{SlotStruct}
use Rattle.slot_ir.specs.Operators.{extended, number_in, is_zero, unary, binary, compared, indexed, distance}

-- the temporaries of an activation by number, of which those that were written hold a value
abbrev pub Temps : Type 0
Temps = ℕ → Option Value

abbrev pub with_temp : Temps → ℕ → Value → Temps
with_temp t d v i = if i == d then Some v else t i

abbrev pub no_temps : Temps
no_temps i = None

-- an outer activation: where it goes on, and which of its own caller's temporaries takes its result
pub record Frame : Type 0 where
  pub activation : ActivationRecord
  pub temps : Temps
  pub pc : ℕ
  pub result_at : ℕ

pub record SlotState : Type 0 where
  pub here : Here
  pub temps : Temps
  pub pc : ℕ
  pub result_at : ℕ
  pub outer : List Frame

-- ---- rows

abbrev pub code_in : Option SlotFunction → List SlotOp
code_in None = []
code_in (Some f) = f.code

abbrev pub code_of : SlotCode → ℕ → List SlotOp
code_of c f = code_in (slice_get c.functions f)

abbrev pub locals_in : Option SlotFunction → List SlotLocal
locals_in None = []
locals_in (Some f) = f.locals

abbrev pub local_row : SlotCode → (function local : ℕ) → Option SlotLocal
local_row c f x = slice_get (locals_in (slice_get c.functions f)) x

abbrev pub zero_cell : Leaf → Cell
zero_cell l = record { at = l.at; kind = l.kind; value = zero_of l.kind }

-- leaves that hold zeros
abbrev pub zero_cells : List Leaf → List Cell
zero_cells ls = map zero_cell ls

abbrev pub leaves_in : Option SlotStruct → List Leaf
leaves_in None = []
leaves_in (Some s) = s.leaves

-- ---- objects that begin

abbrev pub zeroed_row : Option SlotLocal → ℕ → Here → Here
zeroed_row None x h = made x 0 [] h
zeroed_row (Some l) x h = made x l.size (zero_cells l.leaves) h

abbrev pub zeroed_local : SlotCode → (local : ℕ) → Here → Here
zeroed_local c x h = zeroed_row (local_row c h.activation.function x) x h

abbrev pub leaf_count_in : Option SlotLocal → ℕ
leaf_count_in None = 0
leaf_count_in (Some l) = length l.leaves

abbrev pub given_row : Option SlotLocal → ℕ → Value → Here → Result Here Why
given_row None x v h = Ok (made x 0 [] h)
given_row (Some l) x v h = extended l.access v >>= λ u. with_first u (zero_cells l.leaves) >>= λ cells. Ok (made x l.size cells h)

-- the parameters from number x on
abbrev pub given : SlotCode → (function local : ℕ) → List Value → Here → Result Here Why
given c f x [] h = Ok h
given c f x (v ∷ vs) h = given_row (local_row c f x) x v h >>= given c f (suc x) vs

-- a new activation of a function
abbrev pub entered : SlotCode → (number function : ℕ) → List Value → World → Result Here Why
entered c n f args w = given c f 0 args (record { world = w; activation = new_activation n f })

-- ---- steps

abbrev pub on_temp : Option Value → (Value → Next SlotState) → Next SlotState
on_temp None go = Undefined IllTyped
on_temp (Some v) go = go v

abbrev pub on_ok : {A : Type 0} → Result A Why → (A → Next SlotState) → Next SlotState
on_ok (Ok x) go = go x
on_ok (Err w) go = Undefined w

abbrev pub on_some : {A : Type 0} → Option A → (A → Next SlotState) → Next SlotState
on_some None go = Undefined IllTyped
on_some (Some x) go = go x

abbrev pub joined : Option Value → Option (List Value) → Option (List Value)
joined None o = None
joined (Some v) None = None
joined (Some v) (Some vs) = Some (v ∷ vs)

-- the values of n temporaries from number d on, last first
abbrev pub last_temps : Temps → ℕ → ℕ → Option (List Value)
last_temps t d zero = Some []
last_temps t d (suc n) = joined (t (d + n)) (last_temps t d n)

abbrev pub on_temps : Option (List Value) → (List Value → Next SlotState) → Next SlotState
on_temps None go = Undefined IllTyped
on_temps (Some vs) go = go vs

abbrev pub next_byte : List ℕ → ℕ
next_byte [] = minus_one
next_byte (b ∷ bs) = b

-- a value read from an address, and extended
abbrev pub read : World → Kind → Access → Value → Result Value Why
read w k a place = load w k place >>= extended a

abbrev pub address_of : Here → (local : ℕ) → Option Value
address_of h x = option_map (λ o. At o 0) (bound x h.activation.locals)

module _ (c : SlotCode) (t : SlotState) where
  -- the next operator, with this written to a temporary
  abbrev pub sets : ℕ → Value → Next SlotState
  sets d v = Goes 1 (record t { temps = with_temp t.temps d v; pc = t.pc + 1 })

  abbrev pub goes : ℕ → Here → Next SlotState
  goes count h = Goes count (record t { here = h; pc = t.pc + 1 })

  abbrev pub jumps : ℕ → Next SlotState
  jumps place = Goes 1 (record t { pc = place })

  abbrev pub jumps_if : Bool → ℕ → Next SlotState
  jumps_if true place = jumps place
  jumps_if false place = jumps (t.pc + 1)

  -- a condition, which is a use
  abbrev pub tests : ℕ → (Value → Bool) → ℕ → Next SlotState
  tests d holds place = on_temp (t.temps d) (λ v. on_ok (used t.here.world v) (λ x. jumps_if (holds x) place))

  abbrev pub gives : ℕ → Result Value Why → Next SlotState
  gives d r = on_ok r (λ v. sets d v)

  abbrev pub on_two : ℕ → ℕ → (Value → Value → Result Value Why) → ℕ → Next SlotState
  on_two i j f d = on_temp (t.temps i) (λ x. on_temp (t.temps j) (λ y. gives d (f x y)))

  abbrev pub writes : Kind → Value → ℕ → Next SlotState
  writes k place from = on_temp (t.temps from) (λ v. on_ok (store t.here.world k place v) (λ w. goes 1 (with_world t.here w)))

  abbrev pub copies : ℕ → ℕ → List Leaf → Next SlotState
  copies to from ls =
      on_temp (t.temps to) (λ x. on_temp (t.temps from) (λ y.
      on_ok (load_struct t.here.world (zero_cells ls) y) (λ vs.
      on_ok (store_struct t.here.world (zero_cells ls) x vs) (λ w. goes (1 + 2 * length vs) (with_world t.here w)))))

  abbrev pub calls : (at function arguments : ℕ) → Next SlotState
  calls d f n =
      on_temps (last_temps t.temps d n) (λ vs.
      on_ok (entered c (suc t.here.activation.number) f (reverse vs) t.here.world) (λ h.
      Goes (1 + n) (record {
        here = h;
        temps = no_temps;
        pc = 0;
        result_at = d;
        outer = record { activation = t.here.activation; temps = t.temps; pc = t.pc + 1; result_at = t.result_at } ∷ t.outer;
      })))

  -- the innermost activation ends with a value
  abbrev pub returns : Value → List Frame → Next SlotState
  returns v [] = on_ok (number_in v) (λ n. Exits (signed n) 1 t)
  returns v (f ∷ outer) =
      Goes 1 (record {
        here = record { world = (left 0 t.here).world; activation = f.activation };
        temps = with_temp f.temps t.result_at v;
        pc = f.pc;
        result_at = f.result_at;
        outer = outer;
      })

  -- a local begins where it has no live object in the activation yet
  abbrev pub begins : ℕ → Next SlotState
  begins x =
      if is_free x t.here.activation.locals then goes (leaf_count_in (local_row c t.here.activation.function x)) (zeroed_local c x t.here)
      else Undefined IllTyped

  -- A local's object counts its leaves; that blocks are left counts nothing, since a machine does nothing then.
  abbrev pub act : SlotOp → Next SlotState
  act (Const d n) = sets d (Number n)
  act (NullOp d) = sets d Null
  act (StaticAddress d o) = sets d (At o 0)
  act (TextAddress d k) = sets d (At (length c.objects + k) 0)
  act (LocalAddress d x) = on_some (address_of t.here x) (λ v. sets d v)
  act (Load d i k a) = on_temp (t.temps i) (λ p. gives d (read t.here.world k a p))
  act (Store i j k) = on_temp (t.temps i) (λ p. writes k p j)
  act (ReadRegister d x k a) = on_some (address_of t.here x) (λ p. gives d (read t.here.world k a p))
  act (WriteRegister j x k) = on_some (address_of t.here x) (λ p. writes k p j)
  act (Convert d a) = on_temp (t.temps d) (λ v. gives d (extended a v))
  act (Unary d op) = on_temp (t.temps d) (λ v. gives d (unary t.here.world op v))
  act (Binary d i j op) = on_two i j (binary op) d
  act (Compare d i j op) = on_two i j (compared t.here.world op) d
  act (Index d i j size u back) = on_two i j (indexed t.here.world size u back) d
  act (Distance d i j size) = on_two i j (distance t.here.world size) d
  act (Offset d n) = on_temp (t.temps d) (λ v. gives d (moved t.here.world v (pos n)))
  act (Take d i) = on_temp (t.temps i) (λ v. sets d v)
  act (Jump place) = jumps place
  act (JumpIfZero d place) = tests d is_zero place
  act (JumpIfNotZero d place) = on_temp (t.temps d) (λ v. on_ok (used t.here.world v) (λ x. if is_zero x then jumps (t.pc + 1) else jumps place))
  act (JumpIfEqual d n place) = on_temp (t.temps d) (λ v. on_ok (number_in v) (λ m. jumps_if (n == m) place))
  act (Call d f n) = calls d f n
  act (Return d) = on_temp (t.temps d) (λ v. returns v t.outer)
  act (Stop q) = Passes q 1 (record t { here = with_point t.here q; pc = t.pc + 1 })
  act (Move i j s) = copies i j (leaves_in (slice_get c.structs s))
  act (Zero x) = begins x
  act (Leave n) = goes 0 (left n t.here)
  act (GetChar d) =
      Goes 1 (record t {
        here = with_world t.here (record t.here.world { input = drop 1 t.here.world.input });
        temps = with_temp t.temps d (Number (next_byte t.here.world.input));
        pc = t.pc + 1;
      })
  act (PutChar d) =
      on_temp (t.temps d) (λ v. on_ok (number_in v) (λ n.
      Goes 1 (record t {
        here = with_world t.here (record t.here.world { output = t.here.world.output ++ (n % 256) ∷ [] });
        temps = with_temp t.temps d (Number (n % 256));
        pc = t.pc + 1;
      })))
  act (Exit d) = on_temp (t.temps d) (λ v. on_ok (number_in v) (λ n. Exits (signed n) 1 t))

  abbrev pub at_op : Option SlotOp → Next SlotState
  at_op None = Undefined IllTyped
  at_op (Some op) = act op

-- one step of slot code
abbrev pub step : SlotCode → SlotState → Next SlotState
step c t = at_op c t (slice_get (code_of c t.here.activation.function) t.pc)
