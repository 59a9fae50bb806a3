-- `int x; int main(void) { x = 2147483647; x = x + 1; putchar(65); return 0; }`
use Rattle.std.proofs.Common.{refl, ℕ, List, [], ◌∷◌, Some, None, false, lit<}
use Rattle.std.specs.Prelude.{Box, codes}
use Rattle.std.specs.declared.alloc.Global.{Global}
use Rattle.c_tree.specs.declared.types.CType.TheVariants.{Int, Void}
use Rattle.c_tree.specs.declared.typed.BinaryOp.TheVariants.{Add}
use Rattle.c_tree.specs.declared.typed.Typed.{end_of-Typed, more_of-Typed}
use Rattle.c_tree.specs.declared.typed.Typed.TheVariants.{Assign', Binary', Call', Name, Constant}
use Rattle.c_tree.specs.declared.typed.Stmt.{end_of-Stmt, more_of-Stmt}
use Rattle.c_tree.specs.declared.typed.Stmt.TheVariants.{Value, Block', Return}
use Rattle.c_tree.specs.declared.rows.Program.{Program}
use Rattle.c_tree.specs.declared.rows.Start.TheVariants as starts
use Rattle.c_tree.specs.declared.rows.Referent.TheVariants as refers
use Rattle.c_session.specs.declared.command.Command.TheVariants as command
use Rattle.ldb_words.specs.declared.kinds.Undef.TheVariants.{Overflow}
use Rattle.runs.specs.Runs.{Failed, Reason}
use Rattle.c_source.specs.Begin.{begin}
use Rattle.c_reading.specs.Readings.{Unread, BadSyntax}
use Rattle.c_session.specs.Commands.{OneSide}
use Rattle.c_session.specs.Allowed.{Lines, Allowed}
use Rattle.std.proofs.Common.{inl, inr}
use Rattle.c_session.proofs.Computed.{computing}
use Rattle.c_session.proofs.Trees.{somewhere, of_type, at, shape_of}

module _ (b : Box (Unit {0}) Global) where
  abbrev program : Program
  program = record {
    units = (record { file = codes "o.c"; functions = (0 ∷ []) } ∷ []);
    defs = [];
    objects = (record { name = codes "x"; unit = 0; is_static = false; ctype = Int; start = (starts.Number 0 ∷ []) } ∷ []);
    strings = [];
    functions = (record {
      name = codes "main";
      unit = 0;
      is_static = false;
      result = Int;
      params = 0;
      locals = [];
      points = (0 ∷ 1 ∷ 2 ∷ 3 ∷ 4 ∷ 5 ∷ []);
      body = (Block' somewhere [] (shape_of b 4 (lit< tt)) (more_of-Stmt (Value somewhere (Some (at 1 (Assign' (of_type Int) b (Name (of_type Int) 3) None b (Constant (of_type Int) 2147483647))))) (more_of-Stmt (Value somewhere (Some (at 2 (Assign' (of_type Int) b (Name (of_type Int) 3) None b (Binary' (of_type Int) b (Name (of_type Int) 3) Add b (Constant (of_type Int) 1)))))) (more_of-Stmt (Value somewhere (Some (at 3 (Call' (of_type Int) 1 (shape_of b 1 (lit< tt)) (more_of-Typed (Constant (of_type Int) 65) end_of-Typed))))) (more_of-Stmt (Return somewhere 4 (Some (Constant (of_type Int) 0))) end_of-Stmt)))) 1 1);
    } ∷ []);
    points = (record { function = 0; line = 1; column = 23; symbol = Some 4 } ∷ record { function = 0; line = 1; column = 25; symbol = Some 4 } ∷ record { function = 0; line = 1; column = 41; symbol = Some 4 } ∷ record { function = 0; line = 1; column = 52; symbol = Some 4 } ∷ record { function = 0; line = 1; column = 65; symbol = Some 4 } ∷ record { function = 0; line = 1; column = 75; symbol = Some 4 } ∷ []);
    symbols = (record { name = codes "getchar"; ctype = Int; refers = refers.Declared; up = None } ∷ record { name = codes "putchar"; ctype = Int; refers = refers.Declared; up = Some 0 } ∷ record { name = codes "exit"; ctype = Void; refers = refers.Declared; up = Some 1 } ∷ record { name = codes "x"; ctype = Int; refers = refers.Object 0; up = Some 2 } ∷ record { name = codes "main"; ctype = Int; refers = refers.Function 0; up = Some 3 } ∷ []);
  }

  -- where a run meets an overflow before its event, every reply and every output is allowed from there on
  it_tells : (transcript : Lines) (output : List ℕ) → Allowed program OneSide [] (Some command.Continue ∷ []) transcript output
  unfolding computing
  it_tells transcript output = inr (Unread BadSyntax, tt, inr (inl ((begin program [], _, Failed (Reason Overflow), refl, (100, refl), tt), (output, refl))))
