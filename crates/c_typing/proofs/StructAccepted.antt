-- `struct s { char c[3]; int i; } v = {"ab", -1}; int main(void) { return 0; }`
use Rattle.std.proofs.Common.{refl, [], ◌∷◌, Some, None, false, lit<, lit≤}
use Rattle.std.specs.Prelude.{Box, codes}
use Rattle.std.specs.declared.alloc.Global.{Global}
use Rattle.std.specs.declared.rc.Rc.{Rc}
use Rattle.c_tree.specs.declared.types.CType.TheVariants.{Char, Int, Void, Array', Struct}
use Rattle.c_tree.specs.declared.typed.Typed.TheVariants.{Constant}
use Rattle.c_tree.specs.declared.typed.Stmt.{end_of-Stmt, more_of-Stmt}
use Rattle.c_tree.specs.declared.typed.Stmt.TheVariants.{Block', Return}
use Rattle.c_tree.specs.declared.rows.Program.{Program}
use Rattle.c_tree.specs.declared.rows.Start.TheVariants as starts
use Rattle.c_tree.specs.declared.rows.Referent.TheVariants as refers
use Rattle.c_typing.specs.Programs.{KeepsRules}
use Rattle.c_typing.proofs.Trees.{somewhere, of_type, shape_of}

module _ (b : Box (Unit {0}) Global) (rc : Rc (Unit {0}) Global) where
  abbrev pub program : Program
  program = record {
    units = (record { file = codes "v.c"; functions = (0 ∷ []) } ∷ []);
    defs = (record { tag = codes "s"; size = 8; members = (record { name = codes "c"; at = 0; ctype = (Array' rc Char 3) } ∷ record { name = codes "i"; at = 4; ctype = Int } ∷ []) } ∷ []);
    objects = (record { name = codes "v"; unit = 0; is_static = false; ctype = (Struct 0); start = (starts.Number 97 ∷ starts.Number 98 ∷ starts.Number 0 ∷ starts.Number 4294967295 ∷ []) } ∷ []);
    strings = [];
    functions = (record {
      name = codes "main";
      unit = 0;
      is_static = false;
      result = Int;
      params = 0;
      locals = [];
      points = (0 ∷ 1 ∷ 2 ∷ []);
      body = (Block' somewhere [] (shape_of b 1 (lit< tt)) (more_of-Stmt (Return somewhere 1 (Some (Constant (of_type Int) 0))) end_of-Stmt) 1 1);
    } ∷ []);
    points = (record { function = 0; line = 1; column = 63; symbol = Some 4 } ∷ record { function = 0; line = 1; column = 65; symbol = Some 4 } ∷ record { function = 0; line = 1; column = 75; symbol = Some 4 } ∷ []);
    symbols = (record { name = codes "getchar"; ctype = Int; refers = refers.Declared; up = None } ∷ record { name = codes "putchar"; ctype = Int; refers = refers.Declared; up = Some 0 } ∷ record { name = codes "exit"; ctype = Void; refers = refers.Declared; up = Some 1 } ∷ record { name = codes "v"; ctype = (Struct 0); refers = refers.Object 0; up = Some 2 } ∷ record { name = codes "main"; ctype = Int; refers = refers.Function 0; up = Some 3 } ∷ []);
  }

  it_keeps_the_rules : KeepsRules program
  it_keeps_the_rules = record {
    structs = ((Prim.search (lit<, lit≤), Prim.search, Prim.search (lit<, lit≤), (8, (refl, (refl, refl)), refl)), tt);
    objects = Prim.search (lit<, lit≤);
    functions = (
      record {
        result = refl;
        written = Prim.search;
        few = Prim.search (lit≤);
        scalars = Prim.search;
        locals = Prim.search (lit<, lit≤);
        declared = refl;
        block = tt;
        body = Prim.search (lit<, lit≤);
        points = (0, 2, refl);
        numbered = (0, refl);
        ends = ((refl, refl), (refl, refl));
        unit = refl;
        main = refl;
      },
      tt,
    );
    symbols = Prim.search (lit<, lit≤);
    points = Prim.search (lit<);
    units = Prim.search;
    main = refl;
    external = Prim.search;
    internal = Prim.search;
    room = Prim.search (lit≤);
  }
