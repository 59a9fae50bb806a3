-- `int fact(int n) { if (n <= 1) return 1; return n * fact(n - 1); } int main(void) { return fact(5); }`
use Rattle.std.proofs.Common.{refl, [], ◌∷◌, Some, None, false, lit<, lit≤}
use Rattle.std.specs.Prelude.{Box, codes}
use Rattle.std.specs.declared.alloc.Global.{Global}
use Rattle.c_tree.specs.declared.types.CType.TheVariants.{Int, Void}
use Rattle.c_tree.specs.declared.typed.BinaryOp.TheVariants.{LessEqual, Subtract, Multiply}
use Rattle.c_tree.specs.declared.typed.Typed.{end_of-Typed, more_of-Typed}
use Rattle.c_tree.specs.declared.typed.Typed.TheVariants.{Binary', Call', Name, Constant}
use Rattle.c_tree.specs.declared.typed.Stmt.{end_of-Stmt, more_of-Stmt, None'}
use Rattle.c_tree.specs.declared.typed.Stmt.TheVariants.{Block', If', Return}
use Rattle.c_tree.specs.declared.rows.Program.{Program}
use Rattle.c_tree.specs.declared.rows.Referent.TheVariants as refers
use Rattle.c_typing.specs.Programs.{KeepsRules}
use Rattle.c_typing.proofs.Trees.{somewhere, of_type, at, shape_of}

module _ (b : Box (Unit {0}) Global) where
  abbrev pub program : Program
  program = record {
    units = (record { file = codes "f.c"; functions = (0 ∷ 1 ∷ []) } ∷ []);
    defs = [];
    objects = [];
    strings = [];
    functions = (record {
      name = codes "fact";
      unit = 0;
      is_static = false;
      result = Int;
      params = 1;
      locals = (record { name = codes "n"; ctype = Int; register = false } ∷ []);
      points = (0 ∷ 1 ∷ 2 ∷ 3 ∷ 4 ∷ []);
      body = (Block' somewhere [] (shape_of b 2 (lit< tt)) (more_of-Stmt (If' somewhere (at 1 (Binary' (of_type Int) b (Name (of_type Int) 4) LessEqual b (Constant (of_type Int) 1))) b (Return somewhere 2 (Some (Constant (of_type Int) 1))) None') (more_of-Stmt (Return somewhere 3 (Some (Binary' (of_type Int) b (Name (of_type Int) 4) Multiply b (Call' (of_type Int) 3 (shape_of b 1 (lit< tt)) (more_of-Typed (Binary' (of_type Int) b (Name (of_type Int) 4) Subtract b (Constant (of_type Int) 1)) end_of-Typed))))) end_of-Stmt)) 1 1);
    } ∷ record {
      name = codes "main";
      unit = 0;
      is_static = false;
      result = Int;
      params = 0;
      locals = [];
      points = (5 ∷ 6 ∷ 7 ∷ []);
      body = (Block' somewhere [] (shape_of b 1 (lit< tt)) (more_of-Stmt (Return somewhere 6 (Some (Call' (of_type Int) 3 (shape_of b 1 (lit< tt)) (more_of-Typed (Constant (of_type Int) 5) end_of-Typed)))) end_of-Stmt) 1 1);
    } ∷ []);
    points = (record { function = 0; line = 1; column = 17; symbol = Some 4 } ∷ record { function = 0; line = 2; column = 7; symbol = Some 4 } ∷ record { function = 0; line = 3; column = 5; symbol = Some 4 } ∷ record { function = 0; line = 4; column = 3; symbol = Some 4 } ∷ record { function = 0; line = 5; column = 1; symbol = Some 4 } ∷ record { function = 1; line = 6; column = 16; symbol = Some 5 } ∷ record { function = 1; line = 6; column = 18; symbol = Some 5 } ∷ record { function = 1; line = 6; column = 34; symbol = Some 5 } ∷ []);
    symbols = (record { name = codes "getchar"; ctype = Int; refers = refers.Declared; up = None } ∷ record { name = codes "putchar"; ctype = Int; refers = refers.Declared; up = Some 0 } ∷ record { name = codes "exit"; ctype = Void; refers = refers.Declared; up = Some 1 } ∷ record { name = codes "fact"; ctype = Int; refers = refers.Function 0; up = Some 2 } ∷ record { name = codes "n"; ctype = Int; refers = refers.Local 0; up = Some 3 } ∷ record { name = codes "main"; ctype = Int; refers = refers.Function 1; up = Some 3 } ∷ []);
  }

  it_keeps_the_rules : KeepsRules program
  it_keeps_the_rules = record {
    structs = tt;
    objects = Prim.search (lit<, lit≤);
    functions = (
      record {
        result = refl;
        written = Prim.search;
        few = Prim.search (lit≤);
        scalars = Prim.search;
        locals = Prim.search (lit<, lit≤);
        declared = refl;
        block = tt;
        body = Prim.search (lit<, lit≤);
        points = (0, 4, refl);
        numbered = (0, refl);
        ends = ((refl, refl), (refl, refl));
        unit = refl;
        main = refl;
      },
      (
        record {
          result = refl;
          written = Prim.search;
          few = Prim.search (lit≤);
          scalars = Prim.search;
          locals = Prim.search (lit<, lit≤);
          declared = refl;
          block = tt;
          body = Prim.search (lit<, lit≤);
          points = (5, 7, refl);
          numbered = (5, refl);
          ends = ((refl, refl), (refl, refl));
          unit = refl;
          main = refl;
        },
        tt,
      ),
    );
    symbols = Prim.search (lit<, lit≤);
    points = Prim.search (lit<);
    units = Prim.search;
    main = refl;
    external = Prim.search;
    internal = Prim.search;
    room = Prim.search (lit≤);
  }
