-- `int deep(int d) { register int k; k = d; if (d < 12) deep(d + 1); putchar(64 + k); return k; } int main(void) { return deep(1); }`
use Rattle.std.proofs.Common.{refl, [], ◌∷◌, Some, None, false, true, lit<, lit≤}
use Rattle.std.specs.Prelude.{Box, codes}
use Rattle.std.specs.declared.alloc.Global.{Global}
use Rattle.c_tree.specs.declared.types.CType.TheVariants.{Int, Void}
use Rattle.c_tree.specs.declared.typed.BinaryOp.TheVariants.{Less, Add}
use Rattle.c_tree.specs.declared.typed.Typed.{end_of-Typed, more_of-Typed}
use Rattle.c_tree.specs.declared.typed.Typed.TheVariants.{Assign', Binary', Call', Name, Constant}
use Rattle.c_tree.specs.declared.typed.Stmt.{end_of-Stmt, more_of-Stmt, None'}
use Rattle.c_tree.specs.declared.typed.Stmt.TheVariants.{Value, Block', If', Return}
use Rattle.c_tree.specs.declared.rows.Program.{Program}
use Rattle.c_tree.specs.declared.rows.Referent.TheVariants as refers
use Rattle.c_typing.specs.Programs.{KeepsRules}
use Rattle.c_typing.proofs.Trees.{somewhere, of_type, at, shape_of}

module _ (b : Box (Unit {0}) Global) where
  abbrev pub program : Program
  program = record {
    units = (record { file = codes "r.c"; functions = (0 ∷ 1 ∷ []) } ∷ []);
    defs = [];
    objects = [];
    strings = [];
    functions = (record {
      name = codes "deep";
      unit = 0;
      is_static = false;
      result = Int;
      params = 1;
      locals = (record { name = codes "d"; ctype = Int; register = false } ∷ record { name = codes "k"; ctype = Int; register = true } ∷ []);
      points = (0 ∷ 1 ∷ 2 ∷ 3 ∷ 4 ∷ 5 ∷ 6 ∷ []);
      body = (Block' somewhere (record { local = 1; init = None } ∷ []) (shape_of b 4 (lit< tt)) (more_of-Stmt (Value somewhere (Some (at 1 (Assign' (of_type Int) b (Name (of_type Int) 5) None b (Name (of_type Int) 4))))) (more_of-Stmt (If' somewhere (at 2 (Binary' (of_type Int) b (Name (of_type Int) 4) Less b (Constant (of_type Int) 12))) b (Value somewhere (Some (at 3 (Call' (of_type Int) 3 (shape_of b 1 (lit< tt)) (more_of-Typed (Binary' (of_type Int) b (Name (of_type Int) 4) Add b (Constant (of_type Int) 1)) end_of-Typed))))) None') (more_of-Stmt (Value somewhere (Some (at 4 (Call' (of_type Int) 1 (shape_of b 1 (lit< tt)) (more_of-Typed (Binary' (of_type Int) b (Constant (of_type Int) 64) Add b (Name (of_type Int) 5)) end_of-Typed))))) (more_of-Stmt (Return somewhere 5 (Some (Name (of_type Int) 5))) end_of-Stmt)))) 1 1);
    } ∷ record {
      name = codes "main";
      unit = 0;
      is_static = false;
      result = Int;
      params = 0;
      locals = [];
      points = (7 ∷ 8 ∷ 9 ∷ []);
      body = (Block' somewhere [] (shape_of b 1 (lit< tt)) (more_of-Stmt (Return somewhere 8 (Some (Call' (of_type Int) 3 (shape_of b 1 (lit< tt)) (more_of-Typed (Constant (of_type Int) 1) end_of-Typed)))) end_of-Stmt) 1 1);
    } ∷ []);
    points = (record { function = 0; line = 1; column = 17; symbol = Some 4 } ∷ record { function = 0; line = 3; column = 3; symbol = Some 5 } ∷ record { function = 0; line = 4; column = 7; symbol = Some 5 } ∷ record { function = 0; line = 5; column = 5; symbol = Some 5 } ∷ record { function = 0; line = 6; column = 3; symbol = Some 5 } ∷ record { function = 0; line = 7; column = 3; symbol = Some 5 } ∷ record { function = 0; line = 8; column = 1; symbol = Some 5 } ∷ record { function = 1; line = 9; column = 16; symbol = Some 6 } ∷ record { function = 1; line = 9; column = 18; symbol = Some 6 } ∷ record { function = 1; line = 9; column = 34; symbol = Some 6 } ∷ []);
    symbols = (record { name = codes "getchar"; ctype = Int; refers = refers.Declared; up = None } ∷ record { name = codes "putchar"; ctype = Int; refers = refers.Declared; up = Some 0 } ∷ record { name = codes "exit"; ctype = Void; refers = refers.Declared; up = Some 1 } ∷ record { name = codes "deep"; ctype = Int; refers = refers.Function 0; up = Some 2 } ∷ record { name = codes "d"; ctype = Int; refers = refers.Local 0; up = Some 3 } ∷ record { name = codes "k"; ctype = Int; refers = refers.Local 1; up = Some 4 } ∷ record { name = codes "main"; ctype = Int; refers = refers.Function 1; up = Some 3 } ∷ []);
  }

  it_keeps_the_rules : KeepsRules program
  it_keeps_the_rules = record {
    structs = tt;
    objects = Prim.search (lit<, lit≤);
    functions = (
      record {
        result = refl;
        written = Prim.search;
        few = Prim.search (lit≤);
        scalars = Prim.search;
        locals = Prim.search (lit<, lit≤);
        declared = refl;
        block = tt;
        body = Prim.search (lit<, lit≤);
        points = (0, 6, refl);
        numbered = (0, refl);
        ends = ((refl, refl), (refl, refl));
        unit = refl;
        main = refl;
      },
      (
        record {
          result = refl;
          written = Prim.search;
          few = Prim.search (lit≤);
          scalars = Prim.search;
          locals = Prim.search (lit<, lit≤);
          declared = refl;
          block = tt;
          body = Prim.search (lit<, lit≤);
          points = (7, 9, refl);
          numbered = (7, refl);
          ends = ((refl, refl), (refl, refl));
          unit = refl;
          main = refl;
        },
        tt,
      ),
    );
    symbols = Prim.search (lit<, lit≤);
    points = Prim.search (lit<);
    units = Prim.search;
    main = refl;
    external = Prim.search;
    internal = Prim.search;
    room = Prim.search (lit≤);
  }
