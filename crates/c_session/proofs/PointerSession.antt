-- `int a[4], b[4]; int *p, *q; int main(void) { p = a + 4; q = b; return 0; }`
use Rattle.std.proofs.Common.{◌≡◌, refl, [], ◌∷◌, Some, None, false, lit<}
use Rattle.std.specs.Prelude.{Box, codes}
use Rattle.std.specs.declared.alloc.Global.{Global}
use Rattle.std.specs.declared.rc.Rc.{Rc}
use Rattle.c_tree.specs.declared.types.CType.TheVariants.{Int, Void, Pointer', Array'}
use Rattle.c_tree.specs.declared.typed.BinaryOp.TheVariants.{Equal, Add, Subtract}
use Rattle.c_tree.specs.declared.typed.Typed.TheVariants.{Assign', Binary', Follow', Name, Constant}
use Rattle.c_tree.specs.declared.typed.Stmt.{end_of-Stmt, more_of-Stmt}
use Rattle.c_tree.specs.declared.typed.Stmt.TheVariants.{Value, Block', Return}
use Rattle.c_tree.specs.declared.rows.Program.{Program}
use Rattle.c_tree.specs.declared.rows.Start.TheVariants as starts
use Rattle.c_tree.specs.declared.rows.Referent.TheVariants as refers
use Rattle.c_session.specs.declared.command.Command.TheVariants as command
use Rattle.c_reading.specs.Readings.{Read}
use Rattle.c_session.proofs.Computed.{session, reader, computing}
use Rattle.c_session.proofs.Trees.{somewhere, of_type, at, shape_of}

module _ (b : Box (Unit {0}) Global) (rc : Rc (Unit {0}) Global) where
  abbrev pub program : Program
  program = record {
    units = (record { file = codes "p.c"; functions = (0 ∷ []) } ∷ []);
    defs = [];
    objects = (record { name = codes "a"; unit = 0; is_static = false; ctype = (Array' rc Int 4); start = (starts.Number 0 ∷ starts.Number 0 ∷ starts.Number 0 ∷ starts.Number 0 ∷ []) } ∷ record { name = codes "b"; unit = 0; is_static = false; ctype = (Array' rc Int 4); start = (starts.Number 0 ∷ starts.Number 0 ∷ starts.Number 0 ∷ starts.Number 0 ∷ []) } ∷ record { name = codes "p"; unit = 0; is_static = false; ctype = (Pointer' rc Int); start = (starts.Number 0 ∷ []) } ∷ record { name = codes "q"; unit = 0; is_static = false; ctype = (Pointer' rc Int); start = (starts.Number 0 ∷ []) } ∷ []);
    strings = [];
    functions = (record {
      name = codes "main";
      unit = 0;
      is_static = false;
      result = Int;
      params = 0;
      locals = [];
      points = (0 ∷ 1 ∷ 2 ∷ 3 ∷ 4 ∷ []);
      body = (Block' somewhere [] (shape_of b 3 (lit< tt)) (more_of-Stmt (Value somewhere (Some (at 1 (Assign' (of_type (Pointer' rc Int)) b (Name (of_type (Pointer' rc Int)) 5) None b (Binary' (of_type (Pointer' rc Int)) b (Name (of_type (Array' rc Int 4)) 3) Add b (Constant (of_type Int) 4)))))) (more_of-Stmt (Value somewhere (Some (at 2 (Assign' (of_type (Pointer' rc Int)) b (Name (of_type (Pointer' rc Int)) 6) None b (Name (of_type (Array' rc Int 4)) 4))))) (more_of-Stmt (Return somewhere 3 (Some (Constant (of_type Int) 0))) end_of-Stmt))) 1 1);
    } ∷ []);
    points = (record { function = 0; line = 1; column = 44; symbol = Some 7 } ∷ record { function = 0; line = 1; column = 46; symbol = Some 7 } ∷ record { function = 0; line = 1; column = 57; symbol = Some 7 } ∷ record { function = 0; line = 1; column = 64; symbol = Some 7 } ∷ record { function = 0; line = 1; column = 74; symbol = Some 7 } ∷ []);
    symbols = (record { name = codes "getchar"; ctype = Int; refers = refers.Declared; up = None } ∷ record { name = codes "putchar"; ctype = Int; refers = refers.Declared; up = Some 0 } ∷ record { name = codes "exit"; ctype = Void; refers = refers.Declared; up = Some 1 } ∷ record { name = codes "a"; ctype = (Array' rc Int 4); refers = refers.Object 0; up = Some 2 } ∷ record { name = codes "b"; ctype = (Array' rc Int 4); refers = refers.Object 1; up = Some 3 } ∷ record { name = codes "p"; ctype = (Pointer' rc Int); refers = refers.Object 2; up = Some 4 } ∷ record { name = codes "q"; ctype = (Pointer' rc Int); refers = refers.Object 3; up = Some 5 } ∷ record { name = codes "main"; ctype = Int; refers = refers.Function 0; up = Some 6 } ∷ []);
  }

  it_tells : (session program (reader (record { point = 3; text = codes "p == q"; reading = Read (Binary' (of_type Int) b (Name (of_type (Pointer' rc Int)) 5) Equal b (Name (of_type (Pointer' rc Int)) 6)) } ∷ record { point = 3; text = codes "*p"; reading = Read (Follow' (of_type Int) b (Name (of_type (Pointer' rc Int)) 5)) } ∷ record { point = 3; text = codes "p - a"; reading = Read (Binary' (of_type Int) b (Name (of_type (Pointer' rc Int)) 5) Subtract b (Name (of_type (Array' rc Int 4)) 3)) } ∷ record { point = 3; text = codes "p + 1"; reading = Read (Binary' (of_type (Pointer' rc Int)) b (Name (of_type (Pointer' rc Int)) 5) Add b (Constant (of_type Int) 1)) } ∷ []) []) 2000 [] ((Some command.Step) ∷ (Some command.Step) ∷ (Some command.Step) ∷ (Some command.Step) ∷ (Some (command.Eval (codes "p == q"))) ∷ (Some (command.Print (codes "p"))) ∷ (Some (command.Eval (codes "*p"))) ∷ (Some (command.Eval (codes "p - a"))) ∷ (Some (command.Eval (codes "p + 1"))) ∷ (Some command.Step) ∷ (Some command.Step) ∷ [])).lines
      ≡ (codes "stop p.c:1.44 main" ∷ codes "stop p.c:1.46 main" ∷ codes "stop p.c:1.57 main" ∷ codes "stop p.c:1.64 main" ∷ codes "value 0" ∷ codes "value &a+16" ∷ codes "refused undefined pointer" ∷ codes "value 4" ∷ codes "refused undefined pointer" ∷ codes "stop p.c:1.74 main" ∷ codes "exited 0" ∷ [])
  unfolding computing
  it_tells = refl
