-- The code of a statement, a function and a program weighs at most 6 for each of its tokens.
use Rattle.std.proofs.Common.{◌≡◌, refl, ap, ℕ, suc, ◌+◌, ◌*◌, ◌≤◌, List, [], ◌∷◌, ◌++◌, length, map, Bool, true, false, Option, Some, None, arith, length-append}
use Rattle.std.specs.Prelude.{sum}
use Rattle.c_tree.specs.declared.types.CType.{CType}
use Rattle.c_tree.specs.declared.types.CType.TheVariants as ctype
use Rattle.c_tree.specs.declared.typed.Typed.{Typed}
use Rattle.c_tree.specs.declared.typed.Pointed.{Pointed}
use Rattle.c_tree.specs.declared.typed.DeclaredLocal.{DeclaredLocal}
use Rattle.c_tree.specs.declared.typed.Stmt.{Stmt, Row_of-Stmt, end_of-Stmt, more_of-Stmt, Held-Stmt-If-3, None', Some'}
use Rattle.c_tree.specs.declared.typed.Stmt.TheVariants.{Value, Block', If', While', Do', For', Switch', Case', Default', Break, Continue, Return}
use Rattle.c_tree.specs.declared.rows.Program.{Program}
use Rattle.c_tree.specs.declared.rows.Function.{Function}
use Rattle.c_tree.specs.Types.{kind_of}
use Rattle.c_source.specs.Blocks.{local_type, result_type}
use Rattle.c_tree.specs.Rows.{declared_in, statements_in}
use Rattle.c_source.specs.Control.{outermost_of}
use Rattle.slot_ir.specs.declared.code.Access.{Access}
use Rattle.slot_ir.specs.declared.code.Access.TheVariants as access
use Rattle.slot_ir.specs.declared.code.SlotFunction.{SlotFunction}
use Rattle.slot_ir.specs.declared.code.SlotStruct.{SlotStruct}
use Rattle.c_tree.specs.declared.types.StructDef.{StructDef}
use Rattle.std.proofs.lemmas.List.{length-map}
use Rattle.slot_ir.specs.declared.code.SlotOp.{SlotOp}
use Rattle.slot_ir.specs.declared.code.SlotOp.TheVariants as op
use Rattle.slot_ir.specs.WellFormed.{weight_of, weight, function_weight, struct_weight, weight_in}
use Rattle.slot_gen.specs.Expressions.{access_of, converting, cast_code, expr_code, unless_register, register_of, if_register, write_at, choice_code}
use Rattle.slot_gen.specs.Statements.{Around, Target, nowhere, stmt_code, stmts_code, block_code, else_code, body_code, body_targets, body_defaults, row_targets, targets_at, constants_of, first_target, zeros_code, part_code, init_code, inits_code, test_code, loop_test, loop_body, loop_code, in_loop, in_switch, switch_code, seek_code, body_place, end_place, function_code, zero_code}
use Rattle.slot_gen.specs.Tokens.{tokens_of, part_tokens, init_tokens, declared_tokens, stmt_tokens, stmts_tokens, else_tokens}
use Rattle.slot_ir.specs.declared.code.SlotCode.{SlotCode}
use Rattle.slot_formed.specs.Code.{struct_row, struct_rows, AreFunctionRows, IsProgramCode}
use Rattle.slot_gen.specs.Rows.{member_of}
use Rattle.slot_formed.specs.Tokens.{function_tokens, struct_tokens, program_tokens}
use Rattle.slot_formed.proofs.Lists.{sum_more}
use Rattle.slot_formed.proofs.Stmts.{block_stmts}

cast_few : (d : ℕ) (a : Access) → weight (converting d a) ≤ 1
cast_few d access.Word = omega arith
cast_few d access.SignedByte = omega arith
cast_few d access.UnsignedByte = omega arith
cast_few d access.SignedHalf = omega arith
cast_few d access.UnsignedHalf = omega arith
cast_few d access.Pointer = omega arith

two : (a b : List SlotOp) → weight (a ++ b) ≡ weight a + weight b
two [] b = omega arith
two (o ∷ a) b = let e = two a b in omega (arith, e)

constants_few : (s : Stmt) → length (constants_of s) ≤ 6 * stmt_tokens s
constants_few (Case' x c y s) = omega (arith, constants_few s)
constants_few (Default' x y s) = omega (arith, constants_few s)
constants_few (Value x e) = omega arith
constants_few (Block' x ds y row l c) = omega arith
constants_few (If' x c y s e) = omega arith
constants_few (While' x c y s) = omega arith
constants_few (Do' x y s c) = omega arith
constants_few (For' x i c e y s) = omega arith
constants_few (Switch' x c y s) = omega arith
constants_few (Break x) = omega arith
constants_few (Continue x) = omega arith
constants_few (Return x c e) = omega arith

targets_length : (at : ℕ) (cs : List ℕ) → length (targets_at at cs) ≡ length cs
targets_length at [] = refl
targets_length at (c ∷ cs) = ap suc (targets_length at cs)

seek_length : (ls : List Target) → weight (seek_code ls) ≡ length ls
seek_length [] = refl
seek_length (l ∷ ls) = omega (arith, seek_length ls)

zero_weight : (t : CType) → weight_of (zero_code t) ≡ 1
zero_weight ctype.Char = refl
zero_weight ctype.Int = refl
zero_weight ctype.Unsigned = refl
zero_weight ctype.Void = refl
zero_weight (ctype.Pointer' b t) = refl
zero_weight (ctype.Array' b t n) = refl
zero_weight (ctype.Struct s) = refl

-- the operators of expressions are few
module _ (short : (p : Program) (f at d : ℕ) (e : Typed) → weight (expr_code p f at d e) ≤ 6 * tokens_of e) (p : Program) (f : ℕ) where
  part_few : (at : ℕ) (o : Option Pointed) → weight (part_code p f at o) ≤ 1 + 6 * part_tokens o
  part_few at None = omega arith
  part_few at (Some q) = omega (arith, short p f (at + 1) 0 q.e)

  write_few : (d : ℕ) (o : Option ℕ) (t : CType) → weight (write_at p f d o t) ≤ 3
  write_few d None t = omega (arith, cast_few (suc d) (access_of t), two (cast_code (suc d) t) (op.Store d (suc d) (kind_of t) ∷ op.Take d (suc d) ∷ []))
  write_few d (Some x) t = omega (arith, cast_few (suc d) (access_of t), two (cast_code (suc d) t) (op.WriteRegister (suc d) x (kind_of t) ∷ op.Take d (suc d) ∷ []))

  address_few : (o : Option ℕ) (x : ℕ) → weight (unless_register o (op.LocalAddress 0 x ∷ [])) ≤ 1
  address_few None x = omega arith
  address_few (Some y) x = omega arith

  init_few : (at x : ℕ) (o : Option Pointed) → weight (init_code p f at x o) ≤ 5 + 6 * init_tokens o
  init_few at x None = omega arith
  init_few at x (Some q) =
      let r = if_register x (register_of p f x) in
      let place = unless_register r (op.LocalAddress 0 x ∷ []) in
      let ce = expr_code p f (at + 1 + length place) 1 q.e in
      let cw = write_at p f 0 r (local_type p f x) in
      omega (arith, two place (ce ++ cw), two ce cw, address_few r x, short p f (at + 1 + length place) 1 q.e, write_few 0 r (local_type p f x))

  zeros_weight : (ds : List DeclaredLocal) → weight (zeros_code ds) ≡ length ds
  zeros_weight [] = refl
  zeros_weight (d ∷ ds) = omega (arith, zeros_weight ds)

  -- with the zeros of the locals
  inits_few : (at : ℕ) (ds : List DeclaredLocal) → length ds + weight (inits_code p f at ds) ≤ 6 * declared_tokens ds
  inits_few at [] = omega arith
  inits_few at (d ∷ ds) =
      let ci = init_code p f at d.local d.init in
      let cs = inits_code p f (at + length ci) ds in
      omega (arith, two ci cs, init_few at d.local d.init, inits_few (at + length ci) ds)

  test_few : (at : ℕ) (o : Option Pointed) (end : ℕ) → weight (test_code p f at o end) ≤ 2 + 6 * part_tokens o
  test_few at None end = omega arith
  test_few at (Some q) end = omega (arith, short p f (at + 1) 0 q.e, two (expr_code p f (at + 1) 0 q.e) (op.JumpIfZero 0 end ∷ []))

  loop_few : (at : ℕ) (first : Bool) (t q : Option Pointed) (body : List SlotOp) → weight (loop_code p f at first t q body) ≤ 6 + (6 * part_tokens t + (6 * part_tokens q + weight body))
  loop_few at first t q body =
      let end = loop_body p f at t q + length body + 1 in
      let ct = part_code p f (at + 2) t in
      let cq = test_code p f (loop_test p f at t) q end in
      let rest : List SlotOp = op.Jump (at + 2) ∷ [] in
      omega (arith, two ct (cq ++ (body ++ rest)), two cq (body ++ rest), two body rest, part_few (at + 2) t, test_few (loop_test p f at t) q end)

  switch_few : (at : ℕ) (body : List SlotOp) (ls : List Target) (ds : List ℕ) → weight (switch_code at body ls ds) ≡ 4 + (weight body + length ls)
  switch_few at body ls ds =
      let over = at + 2 + length body in
      let end = over + 1 + length ls + 1 in
      let last : List SlotOp = op.Jump (first_target over ds) ∷ [] in
      omega (arith, two body (op.Jump end ∷ (seek_code ls ++ last)), two (seek_code ls) last, seek_length ls)

  choice_length : (at d : ℕ) (a b : List SlotOp) → weight (choice_code at d a b) ≡ 2 + (weight a + weight b)
  choice_length at d a b = omega (arith, two a (op.Jump (at + 1 + length a + 1 + length b) ∷ b))

  mutual
    -- with the labels before the statement
    pub stmt_few : (s : Stmt) (r : Around) (m at : ℕ) → length (constants_of s) + weight (stmt_code p f r m at s) ≤ 6 * stmt_tokens s
    stmt_few (Value x e) r m at = omega (arith, part_few at e)
    stmt_few (Block' x ds y row l c) r m at =
        let zeros = zeros_code ds in
        let inits = inits_code p f (at + length zeros) ds in
        let start = at + length zeros + length inits in
        let code = block_code p f r (m + length ds) start row in
        let leave : List SlotOp = op.Leave m ∷ [] in
        omega (arith, two zeros (inits ++ (code ++ leave)), two inits (code ++ leave), two code leave, zeros_weight ds, inits_few (at + length zeros) ds, rows_few row r (m + length ds) start)
    stmt_few (If' x c y s e) r m at =
        let test = expr_code p f (at + 1) 0 c.e in
        let start = at + 1 + length test in
        let ca = stmt_code p f r m (start + 1) s in
        let ce = else_code p f r m (start + 1 + length ca + 1) e in
        omega (arith, two test (choice_code start 0 ca ce), choice_length start 0 ca ce, short p f (at + 1) 0 c.e, stmt_few s r m (start + 1), else_few e r m (start + 1 + length ca + 1))
    stmt_few (While' x c y s) r m at =
        let body = stmt_code p f (in_loop at m) m (loop_body p f at None (Some c)) s in
        omega (arith, loop_few at true None (Some c) body, stmt_few s (in_loop at m) m (loop_body p f at None (Some c)))
    stmt_few (Do' x y s c) r m at =
        let body = stmt_code p f (in_loop at m) m (loop_body p f at None (Some c)) s in
        omega (arith, loop_few at false None (Some c) body, stmt_few s (in_loop at m) m (loop_body p f at None (Some c)))
    stmt_few (For' x i c e y s) r m at =
        let ci = part_code p f at i in
        let start = at + length ci in
        let body = stmt_code p f (in_loop start m) m (loop_body p f start e c) s in
        omega (arith, two ci (loop_code p f start true e c body), part_few at i, loop_few start true e c body, stmt_few s (in_loop start m) m (loop_body p f start e c))
    stmt_few (Switch' x c y s) r m at =
        let test = expr_code p f (at + 1) 0 c.e in
        let start = at + 1 + length test in
        let around = in_switch start m r in
        let body = body_code p f around m (start + 2) s in
        let targets = body_targets p f around m (start + 2) s in
        let defaults = body_defaults p f around m (start + 2) s in
        omega (arith, two test (switch_code start body targets defaults), switch_few start body targets defaults, short p f (at + 1) 0 c.e, body_few s around m (start + 2))
    stmt_few (Case' x c y s) r m at = omega (arith, stmt_few s r m at)
    stmt_few (Default' x y s) r m at = omega (arith, stmt_few s r m at)
    stmt_few (Break x) r m at = omega arith
    stmt_few (Continue x) r m at = omega arith
    stmt_few (Return x c None) r m at = omega arith
    stmt_few (Return x c (Some e)) r m at =
        let ce = expr_code p f (at + 1) 0 e in
        let cc = cast_code 0 (result_type p f) in
        let last : List SlotOp = op.Jump end_place ∷ [] in
        omega (arith, two ce (cc ++ last), two cc last, cast_few 0 (access_of (result_type p f)), short p f (at + 1) 0 e)

    rows_few : {k : _} (row : Row_of-Stmt k) (r : Around) (m at : ℕ) → length (row_targets p f r m at row) + weight (block_code p f r m at row) ≤ 6 * stmts_tokens row
    rows_few end_of-Stmt r m at = omega arith
    rows_few (more_of-Stmt s rest) r m at =
        let cs = stmt_code p f r m at s in
        let code = block_code p f r m (at + length cs) rest in
        let more = row_targets p f r m (at + length cs) rest in
        omega (arith, two cs code, length-append (targets_at at (constants_of s)) more, targets_length at (constants_of s), stmt_few s r m at, rows_few rest r m (at + length cs))

    else_few : (e : Held-Stmt-If-3) (r : Around) (m at : ℕ) → weight (else_code p f r m at e) ≤ 6 * else_tokens e
    else_few None' r m at = omega arith
    else_few (Some' x s) r m at = omega (arith, stmt_few s r m at)

    body_few : (s : Stmt) (r : Around) (m at : ℕ) → length (body_targets p f r m at s) + weight (body_code p f r m at s) ≤ 6 * stmt_tokens s
    body_few (Block' x ds y row l c) r m at = omega (arith, rows_few row r m at)
    body_few s r m at = omega arith

  function_few : (fn : Function) → 16 + weight (function_code p f fn) ≤ 6 * function_tokens fn
  function_few fn =
      let zeros = zeros_code (declared_in fn.body) in
      let inits = inits_code p f (body_place + length zeros) (declared_in fn.body) in
      let start = body_place + length zeros + length inits in
      let code = stmts_code p f nowhere (outermost_of fn) start (statements_in fn.body) in
      let last : List SlotOp = zero_code fn.result ∷ op.Jump end_place ∷ [] in
      omega (arith, two zeros (inits ++ (code ++ last)), two inits (code ++ last), two code last, zero_weight fn.result, by fn.body (outermost_of fn))
    where
      by : (b : Stmt) (m : ℕ)
          → weight (zeros_code (declared_in b)) + (weight (inits_code p f (body_place + length (zeros_code (declared_in b))) (declared_in b))
          + weight (stmts_code p f nowhere m (body_place + length (zeros_code (declared_in b)) + length (inits_code p f (body_place + length (zeros_code (declared_in b))) (declared_in b))) (statements_in b))) ≤ 6 * stmt_tokens b
      by (Block' x ds y row l c) m =
          let zeros = zeros_code ds in
          let inits = inits_code p f (body_place + length zeros) ds in
          let start = body_place + length zeros + length inits in
          omega (arith, zeros_weight ds, inits_few (body_place + length zeros) ds, rows_few row nowhere m start, ap weight (block_stmts p f nowhere m start row))
      by _ m = omega arith

functions_few : (short : (p : Program) (f at d : ℕ) (e : Typed) → weight (expr_code p f at d e) ≤ 6 * tokens_of e) (p : Program) (f : ℕ) (fs : List Function) (gs : List SlotFunction) → AreFunctionRows p f fs gs → sum (map function_weight gs) ≤ 6 * sum (map function_tokens fs)
functions_few short p f [] [] are = omega arith
functions_few short p f [] (g ∷ gs) are = absurd are
functions_few short p f (fn ∷ fs) [] are = absurd are
functions_few short p f (fn ∷ fs) (g ∷ gs) are =
    let same : weight g.code ≡ weight (function_code p f fn) = ap weight are.0.code in
    omega (arith, same, sum_more function_weight g gs, sum_more function_tokens fn fs, function_few short p f fn, functions_few short p (suc f) fs gs are.1)

structs_few : (defs : List StructDef) (s : ℕ) (ds : List StructDef) → sum (map struct_weight (struct_rows defs s ds)) ≤ 6 * sum (map struct_tokens ds)
structs_few defs s [] = omega arith
structs_few defs s (d ∷ ds) =
    omega (arith, length-map d.members member_of, sum_more struct_weight (struct_row defs s d) (struct_rows defs (suc s) ds), sum_more struct_tokens d ds, structs_few defs (suc s) ds)

pub program_few : (short : (p : Program) (f at d : ℕ) (e : Typed) → weight (expr_code p f at d e) ≤ 6 * tokens_of e) (p : Program) (c : SlotCode) → IsProgramCode p c → weight_in c ≤ 6 * program_tokens p
program_few short p c is = omega (arith, functions_few short p 0 p.functions c.functions is.functions, structs_few p.defs 0 p.defs, ap (λ (ss : List SlotStruct). sum (map struct_weight ss)) is.structs)
