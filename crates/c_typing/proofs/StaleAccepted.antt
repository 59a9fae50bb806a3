-- `int *p; void f(void) { int z; p = &z; } int main(void) { f(); return 0; }`
use Rattle.std.proofs.Common.{refl, [], ◌∷◌, Some, None, false, lit<, lit≤}
use Rattle.std.specs.Prelude.{Box, codes}
use Rattle.std.specs.declared.alloc.Global.{Global}
use Rattle.std.specs.declared.rc.Rc.{Rc}
use Rattle.c_tree.specs.declared.types.CType.TheVariants.{Int, Void, Pointer'}
use Rattle.c_tree.specs.declared.typed.Typed.{end_of-Typed}
use Rattle.c_tree.specs.declared.typed.Typed.TheVariants.{Assign', Address', Call', Name, Constant}
use Rattle.c_tree.specs.declared.typed.Stmt.{end_of-Stmt, more_of-Stmt}
use Rattle.c_tree.specs.declared.typed.Stmt.TheVariants.{Value, Block', Return}
use Rattle.c_tree.specs.declared.rows.Program.{Program}
use Rattle.c_tree.specs.declared.rows.Start.TheVariants as starts
use Rattle.c_tree.specs.declared.rows.Referent.TheVariants as refers
use Rattle.c_typing.specs.Programs.{KeepsRules}
use Rattle.c_typing.proofs.Trees.{somewhere, of_type, at, shape_of}

module _ (b : Box (Unit {0}) Global) (rc : Rc (Unit {0}) Global) where
  abbrev pub program : Program
  program = record {
    units = (record { file = codes "q.c"; functions = (0 ∷ 1 ∷ []) } ∷ []);
    defs = [];
    objects = (record { name = codes "p"; unit = 0; is_static = false; ctype = (Pointer' rc Int); start = (starts.Number 0 ∷ []) } ∷ []);
    strings = [];
    functions = (record {
      name = codes "f";
      unit = 0;
      is_static = false;
      result = Void;
      params = 0;
      locals = (record { name = codes "z"; ctype = Int; register = false } ∷ []);
      points = (0 ∷ 1 ∷ 2 ∷ []);
      body = (Block' somewhere (record { local = 0; init = None } ∷ []) (shape_of b 1 (lit< tt)) (more_of-Stmt (Value somewhere (Some (at 1 (Assign' (of_type (Pointer' rc Int)) b (Name (of_type (Pointer' rc Int)) 3) None b (Address' (of_type (Pointer' rc Int)) b (Name (of_type Int) 5)))))) end_of-Stmt) 1 1);
    } ∷ record {
      name = codes "main";
      unit = 0;
      is_static = false;
      result = Int;
      params = 0;
      locals = [];
      points = (3 ∷ 4 ∷ 5 ∷ 6 ∷ []);
      body = (Block' somewhere [] (shape_of b 2 (lit< tt)) (more_of-Stmt (Value somewhere (Some (at 4 (Call' (of_type Void) 4 (shape_of b 0 (lit< tt)) end_of-Typed)))) (more_of-Stmt (Return somewhere 5 (Some (Constant (of_type Int) 0))) end_of-Stmt)) 1 1);
    } ∷ []);
    points = (record { function = 0; line = 1; column = 22; symbol = Some 4 } ∷ record { function = 0; line = 1; column = 31; symbol = Some 5 } ∷ record { function = 0; line = 1; column = 39; symbol = Some 5 } ∷ record { function = 1; line = 1; column = 56; symbol = Some 6 } ∷ record { function = 1; line = 1; column = 58; symbol = Some 6 } ∷ record { function = 1; line = 1; column = 63; symbol = Some 6 } ∷ record { function = 1; line = 1; column = 73; symbol = Some 6 } ∷ []);
    symbols = (record { name = codes "getchar"; ctype = Int; refers = refers.Declared; up = None } ∷ record { name = codes "putchar"; ctype = Int; refers = refers.Declared; up = Some 0 } ∷ record { name = codes "exit"; ctype = Void; refers = refers.Declared; up = Some 1 } ∷ record { name = codes "p"; ctype = (Pointer' rc Int); refers = refers.Object 0; up = Some 2 } ∷ record { name = codes "f"; ctype = Void; refers = refers.Function 0; up = Some 3 } ∷ record { name = codes "z"; ctype = Int; refers = refers.Local 0; up = Some 4 } ∷ record { name = codes "main"; ctype = Int; refers = refers.Function 1; up = Some 4 } ∷ []);
  }

  it_keeps_the_rules : KeepsRules program
  it_keeps_the_rules = record {
    structs = tt;
    objects = Prim.search (lit<, lit≤);
    functions = (
      record {
        result = refl;
        written = Prim.search;
        few = Prim.search (lit≤);
        scalars = Prim.search;
        locals = Prim.search (lit<, lit≤);
        declared = refl;
        block = tt;
        body = Prim.search (lit<, lit≤);
        points = (0, 2, refl);
        numbered = (0, refl);
        ends = ((refl, refl), (refl, refl));
        unit = refl;
        main = refl;
      },
      (
        record {
          result = refl;
          written = Prim.search;
          few = Prim.search (lit≤);
          scalars = Prim.search;
          locals = Prim.search (lit<, lit≤);
          declared = refl;
          block = tt;
          body = Prim.search (lit<, lit≤);
          points = (3, 6, refl);
          numbered = (3, refl);
          ends = ((refl, refl), (refl, refl));
          unit = refl;
          main = refl;
        },
        tt,
      ),
    );
    symbols = Prim.search (lit<, lit≤);
    points = Prim.search (lit<);
    units = Prim.search;
    main = refl;
    external = Prim.search;
    internal = Prim.search;
    room = Prim.search (lit≤);
  }
