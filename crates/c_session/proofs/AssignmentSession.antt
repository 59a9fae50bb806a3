-- `int x; int main(void) { x = 3; return x; }`
use Rattle.std.proofs.Common.{◌≡◌, refl, [], ◌∷◌, Some, None, false, lit<}
use Rattle.std.specs.Prelude.{Box, codes}
use Rattle.std.specs.declared.alloc.Global.{Global}
use Rattle.c_tree.specs.declared.types.CType.TheVariants.{Int, Void}
use Rattle.c_tree.specs.declared.typed.Typed.TheVariants.{Assign', Name, Constant}
use Rattle.c_tree.specs.declared.typed.Stmt.{end_of-Stmt, more_of-Stmt}
use Rattle.c_tree.specs.declared.typed.Stmt.TheVariants.{Value, Block', Return}
use Rattle.c_tree.specs.declared.rows.Program.{Program}
use Rattle.c_tree.specs.declared.rows.Start.TheVariants as starts
use Rattle.c_tree.specs.declared.rows.Referent.TheVariants as refers
use Rattle.c_session.specs.declared.command.Command.TheVariants as command
use Rattle.c_session.proofs.Computed.{session, reader, computing}
use Rattle.c_session.proofs.Trees.{somewhere, of_type, at, shape_of}

module _ (b : Box (Unit {0}) Global) where
  abbrev pub program : Program
  program = record {
    units = (record { file = codes "a.c"; functions = (0 ∷ []) } ∷ []);
    defs = [];
    objects = (record { name = codes "x"; unit = 0; is_static = false; ctype = Int; start = (starts.Number 0 ∷ []) } ∷ []);
    strings = [];
    functions = (record {
      name = codes "main";
      unit = 0;
      is_static = false;
      result = Int;
      params = 0;
      locals = [];
      points = (0 ∷ 1 ∷ 2 ∷ 3 ∷ []);
      body = (Block' somewhere [] (shape_of b 2 (lit< tt)) (more_of-Stmt (Value somewhere (Some (at 1 (Assign' (of_type Int) b (Name (of_type Int) 3) None b (Constant (of_type Int) 3))))) (more_of-Stmt (Return somewhere 2 (Some (Name (of_type Int) 3))) end_of-Stmt)) 1 1);
    } ∷ []);
    points = (record { function = 0; line = 1; column = 23; symbol = Some 4 } ∷ record { function = 0; line = 1; column = 25; symbol = Some 4 } ∷ record { function = 0; line = 1; column = 32; symbol = Some 4 } ∷ record { function = 0; line = 1; column = 42; symbol = Some 4 } ∷ []);
    symbols = (record { name = codes "getchar"; ctype = Int; refers = refers.Declared; up = None } ∷ record { name = codes "putchar"; ctype = Int; refers = refers.Declared; up = Some 0 } ∷ record { name = codes "exit"; ctype = Void; refers = refers.Declared; up = Some 1 } ∷ record { name = codes "x"; ctype = Int; refers = refers.Object 0; up = Some 2 } ∷ record { name = codes "main"; ctype = Int; refers = refers.Function 0; up = Some 3 } ∷ []);
  }

  it_tells : (session program (reader [] []) 2000 [] ((Some command.Step) ∷ (Some (command.Print (codes "x"))) ∷ (Some command.Step) ∷ (Some command.Step) ∷ (Some (command.Print (codes "x"))) ∷ (Some command.Step) ∷ (Some command.Step) ∷ [])).lines
      ≡ (codes "stop a.c:1.23 main" ∷ codes "value 0" ∷ codes "stop a.c:1.25 main" ∷ codes "stop a.c:1.32 main" ∷ codes "value 3" ∷ codes "stop a.c:1.42 main" ∷ codes "exited 3" ∷ [])
  unfolding computing
  it_tells = refl
