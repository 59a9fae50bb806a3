-- `int count(int c); static int seen; int main(void) { int c; while ((c = getchar()) != -1) { seen = seen + 1; count(c); } return count(-1); } static int`
use Rattle.std.proofs.Common.{refl, [], ◌∷◌, Some, None, false, true, lit<, lit≤}
use Rattle.std.specs.Prelude.{Box, codes}
use Rattle.std.specs.declared.alloc.Global.{Global}
use Rattle.c_tree.specs.declared.types.CType.TheVariants.{Int, Void}
use Rattle.c_tree.specs.declared.typed.BinaryOp.TheVariants.{Equal, Unequal, Add}
use Rattle.c_tree.specs.declared.typed.UnaryOp.TheVariants.{Minus}
use Rattle.c_tree.specs.declared.typed.Typed.{end_of-Typed, more_of-Typed}
use Rattle.c_tree.specs.declared.typed.Typed.TheVariants.{Assign', Binary', Unary', Call', Name, Constant, Parens'}
use Rattle.c_tree.specs.declared.typed.Stmt.{end_of-Stmt, more_of-Stmt, None'}
use Rattle.c_tree.specs.declared.typed.Stmt.TheVariants.{Value, Block', If', While', Return}
use Rattle.c_tree.specs.declared.rows.Program.{Program}
use Rattle.c_tree.specs.declared.rows.Start.TheVariants as starts
use Rattle.c_tree.specs.declared.rows.Referent.TheVariants as refers
use Rattle.c_typing.specs.Programs.{KeepsRules}
use Rattle.c_typing.proofs.Trees.{somewhere, of_type, at, shape_of}

module _ (b : Box (Unit {0}) Global) where
  abbrev pub program : Program
  program = record {
    units = (record { file = codes "main.c"; functions = (0 ∷ []) } ∷ record { file = codes "cnt.c"; functions = (1 ∷ []) } ∷ []);
    defs = [];
    objects = (record { name = codes "seen"; unit = 0; is_static = true; ctype = Int; start = (starts.Number 0 ∷ []) } ∷ record { name = codes "seen"; unit = 1; is_static = true; ctype = Int; start = (starts.Number 0 ∷ []) } ∷ []);
    strings = [];
    functions = (record {
      name = codes "main";
      unit = 0;
      is_static = false;
      result = Int;
      params = 0;
      locals = (record { name = codes "c"; ctype = Int; register = false } ∷ []);
      points = (0 ∷ 1 ∷ 2 ∷ 3 ∷ 4 ∷ 5 ∷ []);
      body = (Block' somewhere (record { local = 0; init = None } ∷ []) (shape_of b 2 (lit< tt)) (more_of-Stmt (While' somewhere (at 1 (Binary' (of_type Int) b (Parens' (of_type Int) b (Assign' (of_type Int) b (Name (of_type Int) 6) None b (Call' (of_type Int) 0 (shape_of b 0 (lit< tt)) end_of-Typed))) Unequal b (Unary' (of_type Int) Minus b (Constant (of_type Int) 1)))) b (Block' somewhere [] (shape_of b 2 (lit< tt)) (more_of-Stmt (Value somewhere (Some (at 2 (Assign' (of_type Int) b (Name (of_type Int) 4) None b (Binary' (of_type Int) b (Name (of_type Int) 4) Add b (Constant (of_type Int) 1)))))) (more_of-Stmt (Value somewhere (Some (at 3 (Call' (of_type Int) 3 (shape_of b 1 (lit< tt)) (more_of-Typed (Name (of_type Int) 6) end_of-Typed))))) end_of-Stmt)) 1 1)) (more_of-Stmt (Return somewhere 4 (Some (Call' (of_type Int) 3 (shape_of b 1 (lit< tt)) (more_of-Typed (Unary' (of_type Int) Minus b (Constant (of_type Int) 1)) end_of-Typed)))) end_of-Stmt)) 1 1);
    } ∷ record {
      name = codes "count";
      unit = 1;
      is_static = false;
      result = Int;
      params = 1;
      locals = (record { name = codes "c"; ctype = Int; register = false } ∷ []);
      points = (6 ∷ 7 ∷ 8 ∷ 9 ∷ 10 ∷ []);
      body = (Block' somewhere [] (shape_of b 2 (lit< tt)) (more_of-Stmt (If' somewhere (at 7 (Binary' (of_type Int) b (Name (of_type Int) 12) Equal b (Constant (of_type Int) 10))) b (Value somewhere (Some (at 8 (Assign' (of_type Int) b (Name (of_type Int) 10) None b (Binary' (of_type Int) b (Name (of_type Int) 10) Add b (Constant (of_type Int) 1)))))) None') (more_of-Stmt (Return somewhere 9 (Some (Name (of_type Int) 10))) end_of-Stmt)) 1 1);
    } ∷ []);
    points = (record { function = 0; line = 3; column = 16; symbol = Some 5 } ∷ record { function = 0; line = 5; column = 10; symbol = Some 6 } ∷ record { function = 0; line = 6; column = 5; symbol = Some 6 } ∷ record { function = 0; line = 7; column = 5; symbol = Some 6 } ∷ record { function = 0; line = 9; column = 3; symbol = Some 6 } ∷ record { function = 0; line = 10; column = 1; symbol = Some 6 } ∷ record { function = 1; line = 2; column = 18; symbol = Some 12 } ∷ record { function = 1; line = 3; column = 7; symbol = Some 12 } ∷ record { function = 1; line = 4; column = 5; symbol = Some 12 } ∷ record { function = 1; line = 5; column = 3; symbol = Some 12 } ∷ record { function = 1; line = 6; column = 1; symbol = Some 12 } ∷ []);
    symbols = (record { name = codes "getchar"; ctype = Int; refers = refers.Declared; up = None } ∷ record { name = codes "putchar"; ctype = Int; refers = refers.Declared; up = Some 0 } ∷ record { name = codes "exit"; ctype = Void; refers = refers.Declared; up = Some 1 } ∷ record { name = codes "count"; ctype = Int; refers = refers.Function 1; up = Some 2 } ∷ record { name = codes "seen"; ctype = Int; refers = refers.Object 0; up = Some 3 } ∷ record { name = codes "main"; ctype = Int; refers = refers.Function 0; up = Some 4 } ∷ record { name = codes "c"; ctype = Int; refers = refers.Local 0; up = Some 5 } ∷ record { name = codes "getchar"; ctype = Int; refers = refers.Declared; up = None } ∷ record { name = codes "putchar"; ctype = Int; refers = refers.Declared; up = Some 7 } ∷ record { name = codes "exit"; ctype = Void; refers = refers.Declared; up = Some 8 } ∷ record { name = codes "seen"; ctype = Int; refers = refers.Object 1; up = Some 9 } ∷ record { name = codes "count"; ctype = Int; refers = refers.Function 1; up = Some 10 } ∷ record { name = codes "c"; ctype = Int; refers = refers.Local 0; up = Some 11 } ∷ []);
  }

  it_keeps_the_rules : KeepsRules program
  it_keeps_the_rules = record {
    structs = tt;
    objects = Prim.search (lit<, lit≤);
    functions = (
      record {
        result = refl;
        written = Prim.search;
        few = Prim.search (lit≤);
        scalars = Prim.search;
        locals = Prim.search (lit<, lit≤);
        declared = refl;
        block = tt;
        body = Prim.search (lit<, lit≤);
        points = (0, 5, refl);
        numbered = (0, refl);
        ends = ((refl, refl), (refl, refl));
        unit = refl;
        main = refl;
      },
      (
        record {
          result = refl;
          written = Prim.search;
          few = Prim.search (lit≤);
          scalars = Prim.search;
          locals = Prim.search (lit<, lit≤);
          declared = refl;
          block = tt;
          body = Prim.search (lit<, lit≤);
          points = (6, 10, refl);
          numbered = (6, refl);
          ends = ((refl, refl), (refl, refl));
          unit = refl;
          main = refl;
        },
        tt,
      ),
    );
    symbols = Prim.search (lit<, lit≤);
    points = Prim.search (lit<);
    units = Prim.search;
    main = refl;
    external = Prim.search;
    internal = Prim.search;
    room = Prim.search (lit≤);
  }
