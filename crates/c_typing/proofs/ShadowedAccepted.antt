-- `int x; int main(void) { int y; x = 1; { int x; int z; x = 2; z = 3; } return x; }`
use Rattle.std.proofs.Common.{refl, [], ◌∷◌, Some, None, false, lit<, lit≤}
use Rattle.std.specs.Prelude.{Box, codes}
use Rattle.std.specs.declared.alloc.Global.{Global}
use Rattle.c_tree.specs.declared.types.CType.TheVariants.{Int, Void}
use Rattle.c_tree.specs.declared.typed.Typed.TheVariants.{Assign', Name, Constant}
use Rattle.c_tree.specs.declared.typed.Stmt.{end_of-Stmt, more_of-Stmt}
use Rattle.c_tree.specs.declared.typed.Stmt.TheVariants.{Value, Block', Return}
use Rattle.c_tree.specs.declared.rows.Program.{Program}
use Rattle.c_tree.specs.declared.rows.Start.TheVariants as starts
use Rattle.c_tree.specs.declared.rows.Referent.TheVariants as refers
use Rattle.c_typing.specs.Programs.{KeepsRules}
use Rattle.c_typing.proofs.Trees.{somewhere, of_type, at, shape_of}

module _ (b : Box (Unit {0}) Global) where
  abbrev pub program : Program
  program = record {
    units = (record { file = codes "s.c"; functions = (0 ∷ []) } ∷ []);
    defs = [];
    objects = (record { name = codes "x"; unit = 0; is_static = false; ctype = Int; start = (starts.Number 0 ∷ []) } ∷ []);
    strings = [];
    functions = (record {
      name = codes "main";
      unit = 0;
      is_static = false;
      result = Int;
      params = 0;
      locals = (record { name = codes "y"; ctype = Int; register = false } ∷ record { name = codes "x"; ctype = Int; register = false } ∷ record { name = codes "z"; ctype = Int; register = false } ∷ []);
      points = (0 ∷ 1 ∷ 2 ∷ 3 ∷ 4 ∷ 5 ∷ []);
      body = (Block' somewhere (record { local = 0; init = None } ∷ []) (shape_of b 3 (lit< tt)) (more_of-Stmt (Value somewhere (Some (at 1 (Assign' (of_type Int) b (Name (of_type Int) 3) None b (Constant (of_type Int) 1))))) (more_of-Stmt (Block' somewhere (record { local = 1; init = None } ∷ record { local = 2; init = None } ∷ []) (shape_of b 2 (lit< tt)) (more_of-Stmt (Value somewhere (Some (at 2 (Assign' (of_type Int) b (Name (of_type Int) 6) None b (Constant (of_type Int) 2))))) (more_of-Stmt (Value somewhere (Some (at 3 (Assign' (of_type Int) b (Name (of_type Int) 7) None b (Constant (of_type Int) 3))))) end_of-Stmt)) 1 1) (more_of-Stmt (Return somewhere 4 (Some (Name (of_type Int) 3))) end_of-Stmt))) 1 1);
    } ∷ []);
    points = (record { function = 0; line = 2; column = 16; symbol = Some 4 } ∷ record { function = 0; line = 4; column = 3; symbol = Some 5 } ∷ record { function = 0; line = 8; column = 5; symbol = Some 7 } ∷ record { function = 0; line = 8; column = 12; symbol = Some 7 } ∷ record { function = 0; line = 10; column = 3; symbol = Some 5 } ∷ record { function = 0; line = 11; column = 1; symbol = Some 5 } ∷ []);
    symbols = (record { name = codes "getchar"; ctype = Int; refers = refers.Declared; up = None } ∷ record { name = codes "putchar"; ctype = Int; refers = refers.Declared; up = Some 0 } ∷ record { name = codes "exit"; ctype = Void; refers = refers.Declared; up = Some 1 } ∷ record { name = codes "x"; ctype = Int; refers = refers.Object 0; up = Some 2 } ∷ record { name = codes "main"; ctype = Int; refers = refers.Function 0; up = Some 3 } ∷ record { name = codes "y"; ctype = Int; refers = refers.Local 0; up = Some 4 } ∷ record { name = codes "x"; ctype = Int; refers = refers.Local 1; up = Some 5 } ∷ record { name = codes "z"; ctype = Int; refers = refers.Local 2; up = Some 6 } ∷ []);
  }

  it_keeps_the_rules : KeepsRules program
  it_keeps_the_rules = record {
    structs = tt;
    objects = Prim.search (lit<, lit≤);
    functions = (
      record {
        result = refl;
        written = Prim.search;
        few = Prim.search (lit≤);
        scalars = Prim.search;
        locals = Prim.search (lit<, lit≤);
        declared = refl;
        block = tt;
        body = Prim.search (lit<, lit≤);
        points = (0, 5, refl);
        numbered = (0, refl);
        ends = ((refl, refl), (refl, refl));
        unit = refl;
        main = refl;
      },
      tt,
    );
    symbols = Prim.search (lit<, lit≤);
    points = Prim.search (lit<);
    units = Prim.search;
    main = refl;
    external = Prim.search;
    internal = Prim.search;
    room = Prim.search (lit≤);
  }
