-- `int a[4], b[4]; int *p, *q; int main(void) { p = a + 4; q = b; return 0; }`
use Rattle.std.proofs.Common.{refl, [], ◌∷◌, Some, None, false, lit<, lit≤}
use Rattle.std.specs.Prelude.{Box, codes}
use Rattle.std.specs.declared.alloc.Global.{Global}
use Rattle.std.specs.declared.rc.Rc.{Rc}
use Rattle.c_tree.specs.declared.types.CType.TheVariants.{Int, Void, Pointer', Array'}
use Rattle.c_tree.specs.declared.typed.BinaryOp.TheVariants.{Add}
use Rattle.c_tree.specs.declared.typed.Typed.TheVariants.{Assign', Binary', Name, Constant}
use Rattle.c_tree.specs.declared.typed.Stmt.{end_of-Stmt, more_of-Stmt}
use Rattle.c_tree.specs.declared.typed.Stmt.TheVariants.{Value, Block', Return}
use Rattle.c_tree.specs.declared.rows.Program.{Program}
use Rattle.c_tree.specs.declared.rows.Start.TheVariants as starts
use Rattle.c_tree.specs.declared.rows.Referent.TheVariants as refers
use Rattle.c_typing.specs.Programs.{KeepsRules}
use Rattle.c_typing.proofs.Trees.{somewhere, of_type, at, shape_of}

module _ (b : Box (Unit {0}) Global) (rc : Rc (Unit {0}) Global) where
  abbrev pub program : Program
  program = record {
    units = (record { file = codes "p.c"; functions = (0 ∷ []) } ∷ []);
    defs = [];
    objects = (record { name = codes "a"; unit = 0; is_static = false; ctype = (Array' rc Int 4); start = (starts.Number 0 ∷ starts.Number 0 ∷ starts.Number 0 ∷ starts.Number 0 ∷ []) } ∷ record { name = codes "b"; unit = 0; is_static = false; ctype = (Array' rc Int 4); start = (starts.Number 0 ∷ starts.Number 0 ∷ starts.Number 0 ∷ starts.Number 0 ∷ []) } ∷ record { name = codes "p"; unit = 0; is_static = false; ctype = (Pointer' rc Int); start = (starts.Number 0 ∷ []) } ∷ record { name = codes "q"; unit = 0; is_static = false; ctype = (Pointer' rc Int); start = (starts.Number 0 ∷ []) } ∷ []);
    strings = [];
    functions = (record {
      name = codes "main";
      unit = 0;
      is_static = false;
      result = Int;
      params = 0;
      locals = [];
      points = (0 ∷ 1 ∷ 2 ∷ 3 ∷ 4 ∷ []);
      body = (Block' somewhere [] (shape_of b 3 (lit< tt)) (more_of-Stmt (Value somewhere (Some (at 1 (Assign' (of_type (Pointer' rc Int)) b (Name (of_type (Pointer' rc Int)) 5) None b (Binary' (of_type (Pointer' rc Int)) b (Name (of_type (Array' rc Int 4)) 3) Add b (Constant (of_type Int) 4)))))) (more_of-Stmt (Value somewhere (Some (at 2 (Assign' (of_type (Pointer' rc Int)) b (Name (of_type (Pointer' rc Int)) 6) None b (Name (of_type (Array' rc Int 4)) 4))))) (more_of-Stmt (Return somewhere 3 (Some (Constant (of_type Int) 0))) end_of-Stmt))) 1 1);
    } ∷ []);
    points = (record { function = 0; line = 1; column = 44; symbol = Some 7 } ∷ record { function = 0; line = 1; column = 46; symbol = Some 7 } ∷ record { function = 0; line = 1; column = 57; symbol = Some 7 } ∷ record { function = 0; line = 1; column = 64; symbol = Some 7 } ∷ record { function = 0; line = 1; column = 74; symbol = Some 7 } ∷ []);
    symbols = (record { name = codes "getchar"; ctype = Int; refers = refers.Declared; up = None } ∷ record { name = codes "putchar"; ctype = Int; refers = refers.Declared; up = Some 0 } ∷ record { name = codes "exit"; ctype = Void; refers = refers.Declared; up = Some 1 } ∷ record { name = codes "a"; ctype = (Array' rc Int 4); refers = refers.Object 0; up = Some 2 } ∷ record { name = codes "b"; ctype = (Array' rc Int 4); refers = refers.Object 1; up = Some 3 } ∷ record { name = codes "p"; ctype = (Pointer' rc Int); refers = refers.Object 2; up = Some 4 } ∷ record { name = codes "q"; ctype = (Pointer' rc Int); refers = refers.Object 3; up = Some 5 } ∷ record { name = codes "main"; ctype = Int; refers = refers.Function 0; up = Some 6 } ∷ []);
  }

  it_keeps_the_rules : KeepsRules program
  it_keeps_the_rules = record {
    structs = tt;
    objects = Prim.search (lit<, lit≤);
    functions = (
      record {
        result = refl;
        written = Prim.search;
        few = Prim.search (lit≤);
        scalars = Prim.search;
        locals = Prim.search (lit<, lit≤);
        declared = refl;
        block = tt;
        body = Prim.search (lit<, lit≤);
        points = (0, 4, refl);
        numbered = (0, refl);
        ends = ((refl, refl), (refl, refl));
        unit = refl;
        main = refl;
      },
      tt,
    );
    symbols = Prim.search (lit<, lit≤);
    points = Prim.search (lit<);
    units = Prim.search;
    main = refl;
    external = Prim.search;
    internal = Prim.search;
    room = Prim.search (lit≤);
  }
