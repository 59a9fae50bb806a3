-- `int x; int f(void) { return 1; } int main(void) { x = 5; return x + f(); }`
use Rattle.std.proofs.Common.{◌≡◌, refl, [], ◌∷◌, Some, None, false, lit<}
use Rattle.std.specs.Prelude.{Box, codes}
use Rattle.std.specs.declared.alloc.Global.{Global}
use Rattle.c_tree.specs.declared.types.CType.TheVariants.{Int, Void}
use Rattle.c_tree.specs.declared.typed.BinaryOp.TheVariants.{Add}
use Rattle.c_tree.specs.declared.typed.Typed.{end_of-Typed}
use Rattle.c_tree.specs.declared.typed.Typed.TheVariants.{Assign', Binary', Call', Name, Constant}
use Rattle.c_tree.specs.declared.typed.Stmt.{end_of-Stmt, more_of-Stmt}
use Rattle.c_tree.specs.declared.typed.Stmt.TheVariants.{Value, Block', Return}
use Rattle.c_tree.specs.declared.rows.Program.{Program}
use Rattle.c_tree.specs.declared.rows.Start.TheVariants as starts
use Rattle.c_tree.specs.declared.rows.Referent.TheVariants as refers
use Rattle.c_session.specs.declared.command.Command.TheVariants as command
use Rattle.c_session.specs.declared.command.Spot.TheVariants as spot
use Rattle.c_reading.specs.Readings.{Read}
use Rattle.c_session.proofs.Computed.{session, reader, computing}
use Rattle.c_session.proofs.Trees.{somewhere, of_type, at, shape_of}

module _ (b : Box (Unit {0}) Global) where
  abbrev pub program : Program
  program = record {
    units = (record { file = codes "m.c"; functions = (0 ∷ 1 ∷ []) } ∷ []);
    defs = [];
    objects = (record { name = codes "x"; unit = 0; is_static = false; ctype = Int; start = (starts.Number 0 ∷ []) } ∷ []);
    strings = [];
    functions = (record {
      name = codes "f";
      unit = 0;
      is_static = false;
      result = Int;
      params = 0;
      locals = [];
      points = (0 ∷ 1 ∷ 2 ∷ []);
      body = (Block' somewhere [] (shape_of b 1 (lit< tt)) (more_of-Stmt (Return somewhere 1 (Some (Constant (of_type Int) 1))) end_of-Stmt) 1 1);
    } ∷ record {
      name = codes "main";
      unit = 0;
      is_static = false;
      result = Int;
      params = 0;
      locals = [];
      points = (3 ∷ 4 ∷ 5 ∷ 6 ∷ []);
      body = (Block' somewhere [] (shape_of b 2 (lit< tt)) (more_of-Stmt (Value somewhere (Some (at 4 (Assign' (of_type Int) b (Name (of_type Int) 3) None b (Constant (of_type Int) 5))))) (more_of-Stmt (Return somewhere 5 (Some (Binary' (of_type Int) b (Name (of_type Int) 3) Add b (Call' (of_type Int) 4 (shape_of b 0 (lit< tt)) end_of-Typed)))) end_of-Stmt)) 1 1);
    } ∷ []);
    points = (record { function = 0; line = 2; column = 13; symbol = Some 4 } ∷ record { function = 0; line = 2; column = 15; symbol = Some 4 } ∷ record { function = 0; line = 2; column = 25; symbol = Some 4 } ∷ record { function = 1; line = 3; column = 16; symbol = Some 5 } ∷ record { function = 1; line = 3; column = 18; symbol = Some 5 } ∷ record { function = 1; line = 3; column = 25; symbol = Some 5 } ∷ record { function = 1; line = 3; column = 41; symbol = Some 5 } ∷ []);
    symbols = (record { name = codes "getchar"; ctype = Int; refers = refers.Declared; up = None } ∷ record { name = codes "putchar"; ctype = Int; refers = refers.Declared; up = Some 0 } ∷ record { name = codes "exit"; ctype = Void; refers = refers.Declared; up = Some 1 } ∷ record { name = codes "x"; ctype = Int; refers = refers.Object 0; up = Some 2 } ∷ record { name = codes "f"; ctype = Int; refers = refers.Function 0; up = Some 3 } ∷ record { name = codes "main"; ctype = Int; refers = refers.Function 1; up = Some 4 } ∷ []);
  }

  it_tells : (session program (reader [] (record { point = 5; text = codes "x = 100"; reading = Read (Assign' (of_type Int) b (Name (of_type Int) 3) None b (Constant (of_type Int) 100)) } ∷ [])) 2000 [] ((Some (command.Break (spot.Func (codes "f")))) ∷ (Some command.Continue) ∷ (Some (command.Frame 1)) ∷ (Some (command.Assign (codes "x = 100"))) ∷ (Some (command.Print (codes "x"))) ∷ (Some command.Continue) ∷ [])).lines
      ≡ (codes "break m.c:2.13" ∷ codes "stop m.c:2.13 f" ∷ codes "frame 1 main m.c:3.25" ∷ codes "set" ∷ codes "value 100" ∷ codes "exited 6" ∷ [])
  unfolding computing
  it_tells = refl
