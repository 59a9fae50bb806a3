-- Expressions over constants, sizes and places, whose operators, conversions and conditions nest in any way, and what their pieces come to.
use Rattle.std.specs.Prelude.{◌≡◌, ◌≢◌, ◌⊎◌, ℕ, ◌<◌, ◌≤◌, ◌^◌, true, false, List, [], ◌∷◌, slice_get, Option, Some, None, Ok, Err}
use Rattle.ldb_words.specs.Word.{sum_of}
use Rattle.c_tree.specs.declared.types.CType.{CType}
use Rattle.c_tree.specs.declared.types.CType.TheVariants.{Struct}
use Rattle.c_tree.specs.declared.types.Member.{Member}
use Rattle.c_tree.specs.declared.typed.BinaryOp.{BinaryOp}
use Rattle.c_tree.specs.declared.typed.BinaryOp.TheVariants.{Less, Greater, LessEqual, GreaterEqual, Add, Subtract}
use Rattle.c_tree.specs.declared.typed.UnaryOp.{UnaryOp}
use Rattle.c_tree.specs.declared.typed.Head.{Head}
use Rattle.c_tree.specs.declared.typed.Typed.{Typed}
use Rattle.c_tree.specs.declared.typed.Typed.TheVariants.{Comma', Choice', Or', And', Binary', Cast', Address', Follow', Unary', SizeOf', SizeOfType, Index', Dot', Arrow', Constant, Parens'}
use Rattle.c_tree.specs.Types.{type_of, target_of, is_unsigned, is_array}
use Rattle.c_tree.specs.Layout.{size_of, members_of}
use Rattle.c_judge.specs.declared.symbol.Symbol.{Symbol}
use Rattle.ps_store.specs.declared.object.PsObj.{PsObj}
use Rattle.ps_store.specs.declared.object.DictId.{DictId}
use Rattle.ps_store.specs.StoreState.{StoreState}
use Rattle.ps_step.specs.declared.fault.PsError.{PsError}
use Rattle.ps_step.specs.declared.fault.PsFault.TheVariants.{Error, Spent, NoMemory}
use Rattle.ps_step.specs.declared.item.Item.{Item}
use Rattle.ps_step.specs.declared.machine.PsCore.{PsCore}
use Rattle.ps_run.specs.Runs.{Answer, Runs}
use Rattle.ps_terms.specs.Stands.{core}
use Rattle.ps_words.specs.Words.{error_of}
use Rattle.ps_words.specs.Operators.{integer}
use Rattle.dialect_model.specs.Dial.{Dial}
use Rattle.dialect_model.specs.Operating.{Operates}
use Rattle.dialect_model.specs.TableUse.{TableUse, Trouble, Refused, Kind, Spent as StepsSpent, Wanting}
use Rattle.table_model.specs.declared.lack.Lack.{Lack}
use Rattle.table_model.specs.declared.lack.Lack.TheVariants.{Unforced}
use Rattle.table_model.specs.declared.found.Found.{Found}
use Rattle.table_model.specs.Reading.{Walked}
use Rattle.table_model.specs.Objects.{found_at}
use Rattle.c_bytes.specs.Lvalues.{Cause, Reason, Disturbed, IllTyped, Scene, bytes_with}
use Rattle.serving_laws.specs.Plain.{AreTaken}
use Rattle.serving_laws.specs.Named.{IsScalar, IsRead, dictionaries_in, use_in, ComesTo}

-- the object at an address
abbrev pub object_there : Scene → StoreState → (address : ℕ) → Walked (Option Found)
object_there sc s p = found_at sc.target.row s (bytes_with sc 0) sc.target.context p

-- No unit of the table has to be run first where the object at an address is looked up.
abbrev pub IsSettled : Scene → StoreState → Type 0
IsSettled sc s = (p u : ℕ) → object_there sc s p ≡ Err (Unforced u) → ⊥

-- Each object has less than 2^31 bytes, and at none of its addresses the table lacks what a look-up there uses.
pub record HasSmallObjects (sc : Scene) (s : StoreState) : Type 0 where
  pub small : (p : ℕ) (o : Found) → object_there sc s p ≡ Ok (Some o) → o.size < 2 ^ 31
  pub told : (p i : ℕ) (o : Found) (l : Lack) → object_there sc s p ≡ Ok (Some o) → i ≤ o.size → object_there sc s (sum_of o.base i) ≡ Err l → ⊥

-- The types of counts, and the offsets of members. Those of 2^31 and more are taken in two moves, which lead out of each object.
abbrev pub IsCount : Scene → StoreState → CType → Type 0
IsCount sc s t = (is_unsigned t ≡ false) ⊎ HasSmallObjects sc s

abbrev pub IsOffset : Scene → StoreState → ℕ → Type 0
IsOffset sc s n = (n < 2 ^ 31) ⊎ ((n < 2 ^ 32) × HasSmallObjects sc s)

-- the orders
pub data IsOrder : BinaryOp → Type 0 where
  less : IsOrder Less
  greater : IsOrder Greater
  at_most : IsOrder LessEqual
  at_least : IsOrder GreaterEqual

-- Operators that look for the object of a pointer, on operands of two types: a count is added to a pointer or taken from it, two pointers are ordered, and one is taken from
-- another. The size of an item is one of the language.
pub data OnPointers (sc : Scene) (s : StoreState) : BinaryOp → CType → CType → Type 0 where
  on : (k l item : CType) → target_of k ≡ Some item → target_of l ≡ None → IsCount sc s l → size_of sc.defs item ≤ 1048576 → OnPointers sc s Add k l
  on_by : (k l item : CType) → target_of k ≡ None → target_of l ≡ Some item → IsCount sc s k → size_of sc.defs item ≤ 1048576 → OnPointers sc s Add k l
  back : (k l item : CType) → target_of k ≡ Some item → target_of l ≡ None → IsCount sc s l → size_of sc.defs item ≤ 1048576 → OnPointers sc s Subtract k l
  ordered : (op : BinaryOp) (k l a b : CType) → IsOrder op → target_of k ≡ Some a → target_of l ≡ Some b → OnPointers sc s op k l
  apart : (k l a b : CType) → target_of k ≡ Some a → target_of l ≡ Some b → size_of sc.defs a ≤ 1048576 → OnPointers sc s Subtract k l

mutual
  -- An expression that is evaluated: `i + 1`, `s.x * 2`, `a == p ? 0 : -c`, where i, s, a, p and c are names whose places their procedures tell; and where no
  -- unit has to be run first, `*p + a[i]`, `p->next->x`, `p - a < 10`.
  pub data IsEvaluated (sc : Scene) (s : StoreState) (names : List Symbol) : Typed → Type 0 where
    -- constants and sizes are those of the language
    constant : (h : Head) (n : ℕ) → n < 2 ^ 32 → IsEvaluated sc s names (Constant h n)
    size : (h : Head) (p : _) (a : Typed) → size_of sc.defs (type_of a) ≤ 1048576 → IsEvaluated sc s names (SizeOf' h p a)
    size_of_type : (h : Head) (t : CType) → size_of sc.defs t ≤ 1048576 → IsEvaluated sc s names (SizeOfType h t)
    -- a place that a name tells, which is read or taken
    by_name : (e : Typed) → IsRead sc s names e → IsEvaluated sc s names e
    -- what is made of values
    in_parens : (h : Head) (p : _) (a : Typed) → IsEvaluated sc s names a → IsEvaluated sc s names (Parens' h p a)
    cast : (h : Head) (p : _) (a : Typed) → IsEvaluated sc s names a → IsEvaluated sc s names (Cast' h p a)
    on_one : (h : Head) (op : UnaryOp) (p : _) (a : Typed) → IsEvaluated sc s names a → IsEvaluated sc s names (Unary' h op p a)
    on_two : (h : Head) (p : _) (a : Typed) (op : BinaryOp) (q : _) (b : Typed) → AreTaken op (type_of a) (type_of b) → IsEvaluated sc s names a → IsEvaluated sc s names b
        → IsEvaluated sc s names (Binary' h p a op q b)
    in_turn : (h : Head) (p : _) (a : Typed) (q : _) (b : Typed) → IsEvaluated sc s names a → IsEvaluated sc s names b → IsEvaluated sc s names (Comma' h p a q b)
    one_of : (h : Head) (p : _) (c : Typed) (q : _) (a : Typed) (r : _) (b : Typed) → IsEvaluated sc s names c → IsEvaluated sc s names a → IsEvaluated sc s names b
        → IsEvaluated sc s names (Choice' h p c q a r b)
    either : (h : Head) (p : _) (a : Typed) (q : _) (b : Typed) → IsEvaluated sc s names a → IsEvaluated sc s names b → IsEvaluated sc s names (Or' h p a q b)
    both : (h : Head) (p : _) (a : Typed) (q : _) (b : Typed) → IsEvaluated sc s names a → IsEvaluated sc s names b → IsEvaluated sc s names (And' h p a q b)
    -- places behind pointers that are taken and not read
    pointed_array : (e : Typed) (t : CType) → IsPointed sc s names e t → is_array t ≡ true → IsEvaluated sc s names e
    pointed_address : (h : Head) (p : _) (e : Typed) (t : CType) → IsPointed sc s names e t → IsEvaluated sc s names (Address' h p e)
    -- a scalar behind a pointer, and operators on pointers, where no unit has to be run first
    pointed_scalar : (e : Typed) (t : CType) → IsPointed sc s names e t → IsScalar t → IsSettled sc s → IsEvaluated sc s names e
    on_pointers : (h : Head) (p : _) (a : Typed) (op : BinaryOp) (q : _) (b : Typed) → OnPointers sc s op (type_of a) (type_of b) → IsSettled sc s → IsEvaluated sc s names a → IsEvaluated sc s names b
        → IsEvaluated sc s names (Binary' h p a op q b)

  -- an lvalue where a pointer leads, and the type of what is read there
  pub data IsPointed (sc : Scene) (s : StoreState) (names : List Symbol) : Typed → CType → Type 0 where
    followed : (h : Head) (p : _) (a : Typed) → IsEvaluated sc s names a → IsPointed sc s names (Follow' h p a) h.ctype
    -- an item, and a member
    item : (h : Head) (p : _) (a : Typed) (q : _) (b : Typed) → OnPointers sc s Add (type_of a) (type_of b) → IsSettled sc s → IsEvaluated sc s names a → IsEvaluated sc s names b
        → IsPointed sc s names (Index' h p a q b) h.ctype
    member : (h : Head) (p : _) (a : Typed) (k m : ℕ) (row : Member) → target_of (type_of a) ≡ Some (Struct k) → slice_get (members_of sc.defs k) m ≡ Some row → IsOffset sc s row.at → IsSettled sc s
        → IsEvaluated sc s names a → IsPointed sc s names (Arrow' h p a m) h.ctype
    member_there : (h : Head) (p : _) (a : Typed) (t : CType) (k m : ℕ) (row : Member) → type_of a ≡ Struct k → slice_get (members_of sc.defs k) m ≡ Some row → IsOffset sc s row.at → IsSettled sc s
        → IsPointed sc s names a t → IsPointed sc s names (Dot' h p a m) h.ctype
    followed_in_parens : (h : Head) (p : _) (a : Typed) (t : CType) → IsPointed sc s names a t → IsPointed sc s names (Parens' h p a) t

-- The error by which a run ends where an evaluation has no value: that of what is undefined, or the operator's own.
abbrev pub told_as : Trouble Cause → Option PsError
told_as (Refused (Reason u)) = Some (error_of u)
told_as (Refused Disturbed) = None
told_as (Refused IllTyped) = None
told_as (Kind e) = Some e
told_as StepsSpent = None
told_as Wanting = None

-- The run goes on with the expression's value on the operands that were there, and the items below on the execution stack; or it ended by the error of why the expression
-- has none; or its steps were spent. Store, dictionaries and dial are as they were.
pub data Evaluates (sc : Scene) (e : Typed) (t : TableUse) (s : StoreState) (ds : List DictId) (o : List PsObj) (items : List Item) (d : Dial) : Answer → ℕ → Dial → PsCore → Type 0 where
  evaluates : (v left : ℕ) (r : Answer) (m : ℕ) (d' : Dial) (c' : PsCore) → v < 2 ^ 32 → ComesTo sc e t (Ok v)
      → Runs Operates left d (core s ds (integer v ∷ o) items) r m d' c' → Evaluates sc e t s ds o items d r m d' c'
  ends : (x : Trouble Cause) (f : PsError) (m : ℕ) (operands : List PsObj) → told_as x ≡ Some f → ComesTo sc e t (Err x)
      → Evaluates sc e t s ds o items d (Err (Error f)) m d (core s ds operands [])
  spends : (m : ℕ) (d' : Dial) (c' : PsCore) → Evaluates sc e t s ds o items d (Err Spent) m d' c'

-- each run from here, of which memory does not run out, comes to that
abbrev pub AreEvaluated : Scene → Typed → StoreState → (cell : ℕ) → (own : DictId) → List PsObj → List Item → Dial → PsCore → Type 0
AreEvaluated sc e s cell own o items d c =
    (n : ℕ) (r : Answer) (m : ℕ) (d' : Dial) (c' : PsCore) → r ≢ Err NoMemory → Runs Operates n d c r m d' c' → Evaluates sc e (use_in s cell own) s (dictionaries_in s own) o items d r m d' c'
