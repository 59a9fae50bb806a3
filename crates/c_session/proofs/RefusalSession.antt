-- `int x; int main(void) { x = 3; return x; }`
use Rattle.std.proofs.Common.{◌≡◌, refl, [], ◌∷◌, Some, None, false, lit<}
use Rattle.std.specs.Prelude.{Box, codes}
use Rattle.std.specs.declared.alloc.Global.{Global}
use Rattle.c_tree.specs.declared.types.CType.TheVariants.{Int, Unsigned, Void}
use Rattle.c_tree.specs.declared.typed.BinaryOp.TheVariants.{ShiftLeft, Add, Subtract, Divide}
use Rattle.c_tree.specs.declared.typed.UnaryOp.TheVariants.{Minus}
use Rattle.c_tree.specs.declared.typed.Typed.TheVariants.{Assign', Binary', Unary', Name, Constant, Parens'}
use Rattle.c_tree.specs.declared.typed.Stmt.{end_of-Stmt, more_of-Stmt}
use Rattle.c_tree.specs.declared.typed.Stmt.TheVariants.{Value, Block', Return}
use Rattle.c_tree.specs.declared.rows.Program.{Program}
use Rattle.c_tree.specs.declared.rows.Start.TheVariants as starts
use Rattle.c_tree.specs.declared.rows.Referent.TheVariants as refers
use Rattle.c_session.specs.declared.command.Command.TheVariants as command
use Rattle.c_session.specs.declared.command.Spot.TheVariants as spot
use Rattle.c_reading.specs.Readings.{Unread, Read, BadSyntax, BadType}
use Rattle.c_session.proofs.Computed.{session, reader, computing}
use Rattle.c_session.proofs.Trees.{somewhere, of_type, at, shape_of}

module _ (b : Box (Unit {0}) Global) where
  abbrev pub program : Program
  program = record {
    units = (record { file = codes "a.c"; functions = (0 ∷ []) } ∷ []);
    defs = [];
    objects = (record { name = codes "x"; unit = 0; is_static = false; ctype = Int; start = (starts.Number 0 ∷ []) } ∷ []);
    strings = [];
    functions = (record {
      name = codes "main";
      unit = 0;
      is_static = false;
      result = Int;
      params = 0;
      locals = [];
      points = (0 ∷ 1 ∷ 2 ∷ 3 ∷ []);
      body = (Block' somewhere [] (shape_of b 2 (lit< tt)) (more_of-Stmt (Value somewhere (Some (at 1 (Assign' (of_type Int) b (Name (of_type Int) 3) None b (Constant (of_type Int) 3))))) (more_of-Stmt (Return somewhere 2 (Some (Name (of_type Int) 3))) end_of-Stmt)) 1 1);
    } ∷ []);
    points = (record { function = 0; line = 1; column = 23; symbol = Some 4 } ∷ record { function = 0; line = 1; column = 25; symbol = Some 4 } ∷ record { function = 0; line = 1; column = 32; symbol = Some 4 } ∷ record { function = 0; line = 1; column = 42; symbol = Some 4 } ∷ []);
    symbols = (record { name = codes "getchar"; ctype = Int; refers = refers.Declared; up = None } ∷ record { name = codes "putchar"; ctype = Int; refers = refers.Declared; up = Some 0 } ∷ record { name = codes "exit"; ctype = Void; refers = refers.Declared; up = Some 1 } ∷ record { name = codes "x"; ctype = Int; refers = refers.Object 0; up = Some 2 } ∷ record { name = codes "main"; ctype = Int; refers = refers.Function 0; up = Some 3 } ∷ []);
  }

  it_tells : (session program (reader (record { point = 0; text = codes "2147483647 + 1"; reading = Read (Binary' (of_type Int) b (Constant (of_type Int) 2147483647) Add b (Constant (of_type Int) 1)) } ∷ record { point = 0; text = codes "4294967295u + 1u"; reading = Read (Binary' (of_type Unsigned) b (Constant (of_type Unsigned) 4294967295) Add b (Constant (of_type Unsigned) 1)) } ∷ record { point = 0; text = codes "(-2147483647 - 1) / -1"; reading = Read (Binary' (of_type Int) b (Parens' (of_type Int) b (Binary' (of_type Int) b (Unary' (of_type Int) Minus b (Constant (of_type Int) 2147483647)) Subtract b (Constant (of_type Int) 1))) Divide b (Unary' (of_type Int) Minus b (Constant (of_type Int) 1))) } ∷ record { point = 0; text = codes "1 << 32"; reading = Read (Binary' (of_type Int) b (Constant (of_type Int) 1) ShiftLeft b (Constant (of_type Int) 32)) } ∷ record { point = 0; text = codes "1 << 31"; reading = Read (Binary' (of_type Int) b (Constant (of_type Int) 1) ShiftLeft b (Constant (of_type Int) 31)) } ∷ record { point = 0; text = codes "1 +"; reading = Unread BadSyntax } ∷ record { point = 0; text = codes "putchar(1)"; reading = Unread BadType } ∷ []) []) 2000 [] ((Some command.Step) ∷ (Some (command.Eval (codes "2147483647 + 1"))) ∷ (Some (command.Eval (codes "4294967295u + 1u"))) ∷ (Some (command.Eval (codes "(-2147483647 - 1) / -1"))) ∷ (Some (command.Eval (codes "1 << 32"))) ∷ (Some (command.Eval (codes "1 << 31"))) ∷ None ∷ (Some (command.Frame 9)) ∷ (Some (command.Clear (spot.Line (codes "a.c") 1 (Some 25)))) ∷ (Some (command.Break (spot.Line (codes "a.c") 2 None))) ∷ (Some (command.Eval (codes "1 +"))) ∷ None ∷ (Some (command.Print (codes "main"))) ∷ (Some (command.Print (codes "y"))) ∷ (Some (command.Eval (codes "putchar(1)"))) ∷ (Some command.Continue) ∷ (Some command.Step) ∷ (Some command.Quit) ∷ (Some command.Step) ∷ [])).lines
      ≡ (codes "stop a.c:1.23 main" ∷ codes "refused undefined overflow" ∷ codes "value 0" ∷ codes "refused undefined division" ∷ codes "refused undefined shift" ∷ codes "value -2147483648" ∷ codes "refused line" ∷ codes "refused frame" ∷ codes "refused place" ∷ codes "refused place" ∷ codes "refused syntax" ∷ codes "refused line" ∷ codes "refused type" ∷ codes "refused scope" ∷ codes "refused type" ∷ codes "exited 3" ∷ codes "refused ended" ∷ [])
  unfolding computing
  it_tells = refl
