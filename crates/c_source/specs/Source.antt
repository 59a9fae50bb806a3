-- What a program does, step by step, from left to right. The numbers are sections of C90.
use Rattle.std.specs.Prelude.{ℕ, suc, ◌+◌, ◌*◌, ◌%◌, List, [], ◌∷◌, ◌++◌, Bool, true, false, ◌==◌, pos, Option, Some, None, Result, Ok, Err, reverse, slice_get, take, drop, length, bytes_eq, codes, option_map, if◌then◌else◌}
use Rattle.c_tree.specs.declared.types.CType.{CType}
use Rattle.c_tree.specs.declared.types.CType.TheVariants.{Int, Struct}
use Rattle.c_tree.specs.declared.types.StructDef.{StructDef}
use Rattle.c_tree.specs.declared.types.Member.{Member}
use Rattle.c_tree.specs.declared.typed.BinaryOp.{BinaryOp}
use Rattle.c_tree.specs.declared.typed.BinaryOp.TheVariants.{Add, Subtract}
use Rattle.c_tree.specs.declared.typed.StepOp.{StepOp}
use Rattle.c_tree.specs.declared.typed.StepOp.TheVariants.{Up, Down}
use Rattle.c_tree.specs.declared.typed.Typed.{Typed}
use Rattle.c_tree.specs.declared.typed.Typed.TheVariants.{Comma', Assign', Choice', Or', And', Binary', Cast', Before', Address', Follow', Unary', SizeOf', SizeOfType, Index', Call', Dot', Arrow', After', Name, Constant, Literal, Parens'}
use Rattle.c_tree.specs.declared.typed.Stmt.{Stmt}
use Rattle.c_tree.specs.declared.typed.Stmt.TheVariants.{Value as Expression, Block', If', Switch', Case', Default', Break, Continue, Return}
use Rattle.c_tree.specs.declared.typed.Stmt.{Held-Stmt-If-3, None', Some'}
use Rattle.c_tree.specs.declared.rows.Program.{Program}
use Rattle.c_tree.specs.declared.rows.SymbolRow.{SymbolRow}
use Rattle.c_tree.specs.declared.rows.Referent.{Referent}
use Rattle.c_tree.specs.declared.rows.Referent.TheVariants.{Object, Local, Function as Defined, Declared}
use Rattle.c_tree.specs.Rows.{exprs, stmts}
use Rattle.c_tree.specs.Types.{type_of, target_of, kind_of, is_struct, is_array}
use Rattle.c_tree.specs.Layout.{size_of, members_of}
use Rattle.ldb_words.specs.Word.{signed}
use Rattle.c_operators.specs.Bits.{minus_one}
use Rattle.runs.specs.Runs.{Next, Goes, Passes, Exits, Undefined, Why, IllTyped}
use Rattle.c_store.specs.Store.{Value, Number, At, used, load, store, load_struct, store_struct, moved, ◌>>=◌}
use Rattle.c_store.specs.Frames.{Here, with_world, with_point, left, bound}
use Rattle.c_source.specs.Blocks.{cells_of, converted, result_type, opened, can_open, leaf_count, entered}
use Rattle.c_source.specs.Operators.{bits_in, is_zero, combined, changed}
use Rattle.c_source.specs.Control.{Item, Eval, Locate, Push, Bound, Load, Convert, Store, Copy, Update, Change, Combine, Offset, Use, Discard, Truth, AndThen, OrElse, Pick, Joined, Enter, Run, Stop, Choose, Open, Close, Turn, Again, Select, Seek, Switched, GiveBack, Leave, State, Activation, Label, runs_of, evals_of, inits_of, part_of, loop_begins, loop_goes_on, loop_turns, broken, continued, seeks, labels_in, default_in, outermost_of, body_of}
use Rattle.c_tree.specs.Points.{last_of}
use Rattle.c_tree.specs.Rows.{statements_in}

abbrev pub on_ok : {A : Type 0} → Result A Why → (A → Next State) → Next State
on_ok (Ok x) go = go x
on_ok (Err w) go = Undefined w

abbrev pub on_some : {A : Type 0} → Option A → (A → Next State) → Next State
on_some None go = Undefined IllTyped
on_some (Some x) go = go x

abbrev pub on_one : List Value → (Value → List Value → Next State) → Next State
on_one [] go = Undefined IllTyped
on_one (v ∷ vs) go = go v vs

abbrev pub on_two : List Value → (Value → Value → List Value → Next State) → Next State
on_two [] go = Undefined IllTyped
on_two (y ∷ []) go = Undefined IllTyped
on_two (y ∷ x ∷ vs) go = go x y vs

-- the value of a `void` expression and of a struct assignment, which nothing reads
abbrev pub no_value : Value
no_value = Number 0

abbrev offset_in : Option Member → ℕ
offset_in None = 0
offset_in (Some m) = m.at

abbrev pub struct_number : CType → ℕ
struct_number (Struct s) = s
struct_number _ = 0

abbrev pub target_number : Option CType → ℕ
target_number None = 0
target_number (Some t) = struct_number t

abbrev pub stepping : StepOp → BinaryOp
stepping Up = Add
stepping Down = Subtract

-- the offset of a member of a struct, by its number, and of one that a pointer points to
abbrev pub offset_of : List StructDef → (struct member : ℕ) → ℕ
offset_of defs s m = offset_in (slice_get (members_of defs s) m)

abbrev pub dot_offset : Program → Typed → (member : ℕ) → ℕ
dot_offset p a m = offset_of p.defs (struct_number (type_of a)) m

abbrev pub arrow_offset : Program → Typed → (member : ℕ) → ℕ
arrow_offset p a m = offset_of p.defs (target_number (target_of (type_of a))) m

abbrev pub place_of : Referent → Here → Option Value
place_of (Object o) h = Some (At o 0)
place_of (Local x) h = option_map (λ o. At o 0) (bound x h.activation.locals)
place_of (Defined f) h = None
place_of Declared h = None

-- where the object of a name stands
abbrev pub place_in : Option SymbolRow → Here → Option Value
place_in None h = None
place_in (Some s) h = place_of s.refers h

abbrev pub else_of : Held-Stmt-If-3 → List Stmt
else_of None' = []
else_of (Some' _ s) = s ∷ []

-- the next input byte, or -1 at the end
abbrev pub next_byte : List ℕ → ℕ
next_byte [] = minus_one
next_byte (b ∷ bs) = b

module _ (p : Program) (h : Here) (outer : List Activation) where
  abbrev pub go : ℕ → Here → List Value → List Item → Next State
  go count h vs k = Goes count (record { here = h; values = vs; control = k; outer = outer })

  -- ---- expressions are taken up

  abbrev pub evaluate : Typed → List Value → List Item → Next State
  -- comma (C90 6.3.17)
  evaluate (Comma' t _ a _ b) vs k = go 1 h vs (Eval a ∷ Use ∷ Discard ∷ Eval b ∷ Use ∷ k)
  -- assignment (6.3.16): the place, then the right side, and for a compound one then the old value
  evaluate (Assign' t _ a None _ b) vs k = go 1 h vs (if is_struct (type_of a) then Locate a ∷ Locate b ∷ Copy (type_of a) ∷ k else Locate a ∷ Eval b ∷ Store (type_of a) ∷ k)
  evaluate (Assign' t _ a (Some op) _ b) vs k = go 1 h vs (Locate a ∷ Eval b ∷ Update (type_of a) op (type_of b) true ∷ k)
  -- `? :`, `||` and `&&` (6.3.13 to 6.3.15)
  evaluate (Choice' t _ c _ a _ b) vs k = go 1 h vs (Eval c ∷ Pick t.ctype a b ∷ k)
  evaluate (Or' t _ a _ b) vs k = go 1 h vs (Eval a ∷ OrElse b ∷ k)
  evaluate (And' t _ a _ b) vs k = go 1 h vs (Eval a ∷ AndThen b ∷ k)
  -- binary operators (6.3.5 to 6.3.12), casts (6.3.4) and unary operators (6.3.3)
  evaluate (Binary' t _ a op _ b) vs k = go 1 h vs (Eval a ∷ Eval b ∷ Combine op (type_of a) (type_of b) ∷ k)
  evaluate (Cast' t _ a) vs k = go 1 h vs (Eval a ∷ Convert t.ctype ∷ k)
  evaluate (Before' t op _ a) vs k = go 1 h vs (Locate a ∷ Push (Number 1) ∷ Update (type_of a) (stepping op) Int true ∷ k)
  evaluate (Address' t _ a) vs k = go 1 h vs (Locate a ∷ k)
  evaluate (Unary' t op _ a) vs k = go 1 h vs (Eval a ∷ Change op (type_of a) ∷ k)
  evaluate (SizeOf' t _ a) vs k = go 1 h (Number (size_of p.defs (type_of a)) ∷ vs) k
  evaluate (SizeOfType t of) vs k = go 1 h (Number (size_of p.defs of) ∷ vs) k
  -- calls (6.3.2.2), whose arguments are evaluated from left to right
  evaluate (Call' t f _ row) vs k = go 1 h vs (evals_of (exprs row) ++ Enter f (length (exprs row)) ∷ k)
  -- postfix `++` and `--` (6.3.2.4), constants and parentheses (6.3.1)
  evaluate (After' t _ a op) vs k = go 1 h vs (Locate a ∷ Push (Number 1) ∷ Update (type_of a) (stepping op) Int false ∷ k)
  evaluate (Constant t n) vs k = go 1 h (Number n ∷ vs) k
  evaluate (Parens' t _ a) vs k = go 1 h vs (Eval a ∷ k)
  -- an lvalue's value is read at its place (6.2.2.1)
  evaluate e vs k = go 1 h vs (Locate e ∷ Load (type_of e) ∷ k)

  -- where an lvalue stands
  abbrev pub locate : Typed → List Value → List Item → Next State
  -- names, strings and parentheses (6.3.1), `*` (6.3.3.2), `[]` (6.3.2.1), `.` and `->` (6.3.2.3)
  locate (Name t n) vs k = on_some (place_in (slice_get p.symbols n) h) (λ v. go 1 h (v ∷ vs) k)
  locate (Literal t n) vs k = go 1 h (At (length p.objects + n) 0 ∷ vs) k
  locate (Follow' t _ a) vs k = go 1 h vs (Eval a ∷ Use ∷ k)
  locate (Index' t _ a _ b) vs k = go 1 h vs (Eval a ∷ Eval b ∷ Combine Add (type_of a) (type_of b) ∷ k)
  locate (Dot' t _ a m) vs k = go 1 h vs (Locate a ∷ Offset (dot_offset p a m) ∷ k)
  locate (Arrow' t _ a m) vs k = go 1 h vs (Eval a ∷ Offset (arrow_offset p a m) ∷ k)
  locate (Parens' t _ a) vs k = go 1 h vs (Locate a ∷ k)
  locate _ vs k = Undefined IllTyped

  -- ---- what is done with the values computed last

  -- a scalar is read; an array is its place
  abbrev pub read : CType → Value → List Value → List Item → Next State
  read t v vs k = if is_array t then go 1 h (v ∷ vs) k else on_ok (load h.world (kind_of t) v >>= converted t) (λ x. go 2 h (x ∷ vs) k)

  -- a scalar is converted and written
  abbrev pub write : CType → Value → Value → List Value → List Item → Next State
  write t place v vs k =
      on_ok (converted t v) (λ x.
      on_ok (store h.world (kind_of t) place x) (λ w. go 2 (with_world h w) (x ∷ vs) k))

  abbrev pub copy : CType → Value → Value → List Value → List Item → Next State
  copy t to from vs k =
      on_ok (load_struct h.world (cells_of p.defs t) from) (λ xs.
      on_ok (store_struct h.world (cells_of p.defs t) to xs) (λ w. go (1 + 2 * length xs) (with_world h w) (no_value ∷ vs) k))

  -- the old value, the operation, and the write
  abbrev pub update : CType → BinaryOp → CType → Bool → Value → Value → List Value → List Item → Next State
  update t op s new place y vs k =
      on_ok (load h.world (kind_of t) place >>= converted t) (λ old.
      on_ok (combined p.defs h.world op t s old y >>= converted t) (λ x.
      on_ok (store h.world (kind_of t) place x) (λ w. go 3 (with_world h w) ((if new then x else old) ∷ vs) k)))

  -- a condition, which is a use
  abbrev pub on_test : Value → Next State → Next State → Next State
  on_test v holds fails = on_ok (used h.world v) (λ x. if is_zero x then fails else holds)

  -- ---- calls

  -- a built-in takes as many arguments as it has parameters (C90 6.3.2.2)
  abbrev pub built_in : List ℕ → (arguments : List Value) → List Value → List Item → Next State
  built_in name [] vs k =
      if bytes_eq name (codes "getchar") then go 1 (with_world h (record h.world { input = drop 1 h.world.input })) (Number (next_byte h.world.input) ∷ vs) k
      else Undefined IllTyped
  built_in name (v ∷ []) vs k =
      on_ok (bits_in v) (λ n.
      if bytes_eq name (codes "getchar") then Undefined IllTyped
      else if bytes_eq name (codes "putchar") then go 1 (with_world h (record h.world { output = h.world.output ++ (n % 256) ∷ [] })) (Number (n % 256) ∷ vs) k
      else if bytes_eq name (codes "exit") then Exits (signed n) 1 (record { here = h; values = []; control = []; outer = outer })
      else Undefined IllTyped)
  built_in name (v ∷ u ∷ us) vs k = Undefined IllTyped

  -- so does a function of the program
  abbrev pub call : Referent → List ℕ → ℕ → List Value → List Item → Next State
  call (Defined f) name n vs k =
      on_some (slice_get p.functions f) (λ fn.
      if fn.params == n then on_ok (entered p (suc h.activation.number) f (reverse (take n vs)) h.world) (λ g. Goes (1 + n) (record {
        here = g;
        values = [];
        control = body_of p f fn;
        outer = record { activation = h.activation; values = drop n vs; control = k } ∷ outer;
      }))
      else Undefined IllTyped)
  call Declared name n vs k = built_in name (take n vs) (drop n vs) k
  call _ name n vs k = Undefined IllTyped

  -- the innermost activation ends with a value
  abbrev pub end_with : Value → List Activation → Next State
  end_with v [] = on_ok (bits_in v) (λ n. Exits (signed n) 1 (record { here = h; values = v ∷ []; control = []; outer = [] }))
  end_with v (a ∷ rest) = Goes 1 (record { here = record { world = (left 0 h).world; activation = a.activation }; values = v ∷ a.values; control = a.control; outer = rest })

  -- ---- statements

  abbrev pub execute : Stmt → List Value → List Item → Next State
  -- expression statements and blocks (6.6.2, 6.6.3)
  execute (Expression at e) vs k = go 1 h vs (part_of e ++ k)
  execute (Block' at ds _ row l c) vs k = go 1 h vs (Open ds ∷ (inits_of p h.activation.function ds ++ (runs_of (stmts row) ++ Close (length h.activation.locals) ∷ k)))
  -- `if` and `switch` (6.6.4) and labels (6.6.1)
  execute (If' at q _ a b) vs k = go 1 h vs (Stop q.point ∷ Eval q.e ∷ Choose a (else_of b) ∷ k)
  execute (Switch' at q _ body) vs k = go 1 h vs (Stop q.point ∷ Eval q.e ∷ Select body (length h.activation.locals) ∷ k)
  execute (Case' at c _ s) vs k = go 1 h vs (Run s ∷ k)
  execute (Default' at _ s) vs k = go 1 h vs (Run s ∷ k)
  -- jumps (6.6.6)
  execute (Break at) vs k = on_some (broken k) (λ r. go 1 (left r.scope h) vs r.control)
  execute (Continue at) vs k = on_some (continued k) (λ r. go 1 (left r.scope h) vs r.control)
  execute (Return at q None) vs k = go 1 h vs (Stop q ∷ Push no_value ∷ GiveBack ∷ k)
  execute (Return at q (Some e)) vs k = go 1 h vs (Stop q ∷ Eval e ∷ Convert (result_type p h.activation.function) ∷ GiveBack ∷ k)
  -- loops (6.6.5)
  execute loop vs k = go 1 h vs (loop_begins loop (length h.activation.locals) ++ k)

  -- the labels of a `switch` are compared one by one
  abbrev pub seek : ℕ → Label → List Label → List Stmt → ℕ → List Value → List Item → Next State
  seek v l ls default n vs k = go 1 h vs (if l.constant == v then runs_of l.from ++ Switched n ∷ k else seeks v ls default n k)

  -- the first thing that remains to be done
  abbrev pub act : Item → List Value → List Item → Next State
  act (Eval e) vs k = evaluate e vs k
  act (Locate e) vs k = locate e vs k
  act (Push v) vs k = go 1 h (v ∷ vs) k
  act (Bound x) vs k = on_some (bound x h.activation.locals) (λ o. go 1 h (At o 0 ∷ vs) k)
  act (Load t) vs k = on_one vs (λ v rest. read t v rest k)
  act (Convert t) vs k = on_one vs (λ v rest. on_ok (converted t v) (λ x. go 1 h (x ∷ rest) k))
  act (Store t) vs k = on_two vs (λ place v rest. write t place v rest k)
  act (Copy t) vs k = on_two vs (λ to from rest. copy t to from rest k)
  act (Update t op s new) vs k = on_two vs (λ place y rest. update t op s new place y rest k)
  act (Change op t) vs k = on_one vs (λ v rest. on_ok (changed h.world op t v) (λ x. go 1 h (x ∷ rest) k))
  act (Combine op s t) vs k = on_two vs (λ x y rest. on_ok (combined p.defs h.world op s t x y) (λ z. go 1 h (z ∷ rest) k))
  act (Offset n) vs k = on_one vs (λ v rest. on_ok (moved h.world v (pos n)) (λ x. go 1 h (x ∷ rest) k))
  act Use vs k = on_one vs (λ v rest. on_ok (used h.world v) (λ x. go 1 h (x ∷ rest) k))
  act Discard vs k = on_one vs (λ v rest. go 1 h rest k)
  act Truth vs k = on_one vs (λ v rest. on_test v (go 1 h (Number 1 ∷ rest) k) (go 1 h (Number 0 ∷ rest) k))
  act (AndThen e) vs k = on_one vs (λ v rest. on_test v (go 1 h rest (Eval e ∷ Truth ∷ Joined ∷ k)) (go 1 h (Number 0 ∷ rest) k))
  act (OrElse e) vs k = on_one vs (λ v rest. on_test v (go 1 h (Number 1 ∷ rest) k) (go 1 h rest (Eval e ∷ Truth ∷ Joined ∷ k)))
  act (Pick t a b) vs k = on_one vs (λ v rest. on_test v (go 1 h rest (Eval a ∷ Use ∷ Convert t ∷ Joined ∷ k)) (go 1 h rest (Eval b ∷ Use ∷ Convert t ∷ k)))
  act Joined vs k = go 1 h vs k
  act (Enter f n) vs k = on_some (slice_get p.symbols f) (λ s. call s.refers s.name n vs k)
  act (Run s) vs k = execute s vs k
  act (Stop q) vs k = Passes q 1 (record { here = with_point h q; values = vs; control = k; outer = outer })
  act (Choose a b) vs k = on_one vs (λ v rest. on_test v (go 1 h rest (Run a ∷ Joined ∷ k)) (go 1 h rest (runs_of b ++ k)))
  act (Open ds) vs k =
      if can_open p h.activation.function ds h then go (1 + leaf_count p h.activation.function ds) (opened p h.activation.function ds h) vs k
      else Undefined IllTyped
  act (Close n) vs k = go 1 (left n h) vs k
  act (Turn s n) vs k = on_one vs (λ v rest. on_test v (go 1 h rest (loop_turns s n ++ k)) (go 1 h rest k))
  act (Again s n) vs k = go 1 h vs (loop_goes_on s n ++ k)
  act (Select body n) vs k =
      on_one vs (λ v rest. on_ok (bits_in v) (λ x.
      go 1 h rest (seeks x (labels_in (statements_in body)) (default_in (statements_in body)) n k)))
  act (Seek v l ls default n) vs k = seek v l ls default n vs k
  act (Switched n) vs k = go 1 h vs k
  act GiveBack vs k =
      on_some (slice_get p.functions h.activation.function) (λ fn.
      on_one vs (λ v rest. go 1 (left (outermost_of fn) h) (v ∷ []) (Stop (last_of fn.points) ∷ Leave ∷ [])))
  act Leave vs k = on_one vs (λ v rest. end_with v outer)

  abbrev pub on_control : List Item → List Value → Next State
  on_control [] vs = Undefined IllTyped
  on_control (i ∷ k) vs = act i vs k

-- one step of a program
abbrev pub step : Program → State → Next State
step p s = on_control p s.here s.outer s.control s.values
