-- `int c; int main(void) { while ((c = getchar()) != -1) putchar(c); return 0; }`
use Rattle.std.proofs.Common.{refl, [], ◌∷◌, Some, None, false, lit<, lit≤}
use Rattle.std.specs.Prelude.{Box, codes}
use Rattle.std.specs.declared.alloc.Global.{Global}
use Rattle.c_tree.specs.declared.types.CType.TheVariants.{Int, Void}
use Rattle.c_tree.specs.declared.typed.BinaryOp.TheVariants.{Unequal}
use Rattle.c_tree.specs.declared.typed.UnaryOp.TheVariants.{Minus}
use Rattle.c_tree.specs.declared.typed.Typed.{end_of-Typed, more_of-Typed}
use Rattle.c_tree.specs.declared.typed.Typed.TheVariants.{Assign', Binary', Unary', Call', Name, Constant, Parens'}
use Rattle.c_tree.specs.declared.typed.Stmt.{end_of-Stmt, more_of-Stmt}
use Rattle.c_tree.specs.declared.typed.Stmt.TheVariants.{Value, Block', While', Return}
use Rattle.c_tree.specs.declared.rows.Program.{Program}
use Rattle.c_tree.specs.declared.rows.Start.TheVariants as starts
use Rattle.c_tree.specs.declared.rows.Referent.TheVariants as refers
use Rattle.c_typing.specs.Programs.{KeepsRules}
use Rattle.c_typing.proofs.Trees.{somewhere, of_type, at, shape_of}

module _ (b : Box (Unit {0}) Global) where
  abbrev pub program : Program
  program = record {
    units = (record { file = codes "c.c"; functions = (0 ∷ []) } ∷ []);
    defs = [];
    objects = (record { name = codes "c"; unit = 0; is_static = false; ctype = Int; start = (starts.Number 0 ∷ []) } ∷ []);
    strings = [];
    functions = (record {
      name = codes "main";
      unit = 0;
      is_static = false;
      result = Int;
      params = 0;
      locals = [];
      points = (0 ∷ 1 ∷ 2 ∷ 3 ∷ 4 ∷ []);
      body = (Block' somewhere [] (shape_of b 2 (lit< tt)) (more_of-Stmt (While' somewhere (at 1 (Binary' (of_type Int) b (Parens' (of_type Int) b (Assign' (of_type Int) b (Name (of_type Int) 3) None b (Call' (of_type Int) 0 (shape_of b 0 (lit< tt)) end_of-Typed))) Unequal b (Unary' (of_type Int) Minus b (Constant (of_type Int) 1)))) b (Value somewhere (Some (at 2 (Call' (of_type Int) 1 (shape_of b 1 (lit< tt)) (more_of-Typed (Name (of_type Int) 3) end_of-Typed)))))) (more_of-Stmt (Return somewhere 3 (Some (Constant (of_type Int) 0))) end_of-Stmt)) 1 1);
    } ∷ []);
    points = (record { function = 0; line = 1; column = 23; symbol = Some 4 } ∷ record { function = 0; line = 1; column = 32; symbol = Some 4 } ∷ record { function = 0; line = 1; column = 55; symbol = Some 4 } ∷ record { function = 0; line = 1; column = 67; symbol = Some 4 } ∷ record { function = 0; line = 1; column = 77; symbol = Some 4 } ∷ []);
    symbols = (record { name = codes "getchar"; ctype = Int; refers = refers.Declared; up = None } ∷ record { name = codes "putchar"; ctype = Int; refers = refers.Declared; up = Some 0 } ∷ record { name = codes "exit"; ctype = Void; refers = refers.Declared; up = Some 1 } ∷ record { name = codes "c"; ctype = Int; refers = refers.Object 0; up = Some 2 } ∷ record { name = codes "main"; ctype = Int; refers = refers.Function 0; up = Some 3 } ∷ []);
  }

  it_keeps_the_rules : KeepsRules program
  it_keeps_the_rules = record {
    structs = tt;
    objects = Prim.search (lit<, lit≤);
    functions = (
      record {
        result = refl;
        written = Prim.search;
        few = Prim.search (lit≤);
        scalars = Prim.search;
        locals = Prim.search (lit<, lit≤);
        declared = refl;
        block = tt;
        body = Prim.search (lit<, lit≤);
        points = (0, 4, refl);
        numbered = (0, refl);
        ends = ((refl, refl), (refl, refl));
        unit = refl;
        main = refl;
      },
      tt,
    );
    symbols = Prim.search (lit<, lit≤);
    points = Prim.search (lit<);
    units = Prim.search;
    main = refl;
    external = Prim.search;
    internal = Prim.search;
    room = Prim.search (lit≤);
  }
