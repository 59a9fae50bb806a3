-- `char t[5]; int main(void) { t[0] = 'h'; t[1] = '"'; t[2] = 10; return 0; }`
use Rattle.std.proofs.Common.{refl, [], ◌∷◌, Some, None, false, lit<, lit≤}
use Rattle.std.specs.Prelude.{Box, codes}
use Rattle.std.specs.declared.alloc.Global.{Global}
use Rattle.std.specs.declared.rc.Rc.{Rc}
use Rattle.c_tree.specs.declared.types.CType.TheVariants.{Char, Int, Void, Array'}
use Rattle.c_tree.specs.declared.typed.Typed.TheVariants.{Assign', Index', Name, Constant}
use Rattle.c_tree.specs.declared.typed.Stmt.{end_of-Stmt, more_of-Stmt}
use Rattle.c_tree.specs.declared.typed.Stmt.TheVariants.{Value, Block', Return}
use Rattle.c_tree.specs.declared.rows.Program.{Program}
use Rattle.c_tree.specs.declared.rows.Start.TheVariants as starts
use Rattle.c_tree.specs.declared.rows.Referent.TheVariants as refers
use Rattle.c_typing.specs.Programs.{KeepsRules}
use Rattle.c_typing.proofs.Trees.{somewhere, of_type, at, shape_of}

module _ (b : Box (Unit {0}) Global) (rc : Rc (Unit {0}) Global) where
  abbrev pub program : Program
  program = record {
    units = (record { file = codes "t.c"; functions = (0 ∷ []) } ∷ []);
    defs = [];
    objects = (record { name = codes "t"; unit = 0; is_static = false; ctype = (Array' rc Char 5); start = (starts.Number 0 ∷ starts.Number 0 ∷ starts.Number 0 ∷ starts.Number 0 ∷ starts.Number 0 ∷ []) } ∷ []);
    strings = [];
    functions = (record {
      name = codes "main";
      unit = 0;
      is_static = false;
      result = Int;
      params = 0;
      locals = [];
      points = (0 ∷ 1 ∷ 2 ∷ 3 ∷ 4 ∷ 5 ∷ []);
      body = (Block' somewhere [] (shape_of b 4 (lit< tt)) (more_of-Stmt (Value somewhere (Some (at 1 (Assign' (of_type Char) b (Index' (of_type Char) b (Name (of_type (Array' rc Char 5)) 3) b (Constant (of_type Int) 0)) None b (Constant (of_type Int) 104))))) (more_of-Stmt (Value somewhere (Some (at 2 (Assign' (of_type Char) b (Index' (of_type Char) b (Name (of_type (Array' rc Char 5)) 3) b (Constant (of_type Int) 1)) None b (Constant (of_type Int) 34))))) (more_of-Stmt (Value somewhere (Some (at 3 (Assign' (of_type Char) b (Index' (of_type Char) b (Name (of_type (Array' rc Char 5)) 3) b (Constant (of_type Int) 2)) None b (Constant (of_type Int) 10))))) (more_of-Stmt (Return somewhere 4 (Some (Constant (of_type Int) 0))) end_of-Stmt)))) 1 1);
    } ∷ []);
    points = (record { function = 0; line = 1; column = 27; symbol = Some 4 } ∷ record { function = 0; line = 1; column = 29; symbol = Some 4 } ∷ record { function = 0; line = 1; column = 41; symbol = Some 4 } ∷ record { function = 0; line = 1; column = 53; symbol = Some 4 } ∷ record { function = 0; line = 1; column = 64; symbol = Some 4 } ∷ record { function = 0; line = 1; column = 74; symbol = Some 4 } ∷ []);
    symbols = (record { name = codes "getchar"; ctype = Int; refers = refers.Declared; up = None } ∷ record { name = codes "putchar"; ctype = Int; refers = refers.Declared; up = Some 0 } ∷ record { name = codes "exit"; ctype = Void; refers = refers.Declared; up = Some 1 } ∷ record { name = codes "t"; ctype = (Array' rc Char 5); refers = refers.Object 0; up = Some 2 } ∷ record { name = codes "main"; ctype = Int; refers = refers.Function 0; up = Some 3 } ∷ []);
  }

  it_keeps_the_rules : KeepsRules program
  it_keeps_the_rules = record {
    structs = tt;
    objects = Prim.search (lit<, lit≤);
    functions = (
      record {
        result = refl;
        written = Prim.search;
        few = Prim.search (lit≤);
        scalars = Prim.search;
        locals = Prim.search (lit<, lit≤);
        declared = refl;
        block = tt;
        body = Prim.search (lit<, lit≤);
        points = (0, 5, refl);
        numbered = (0, refl);
        ends = ((refl, refl), (refl, refl));
        unit = refl;
        main = refl;
      },
      tt,
    );
    symbols = Prim.search (lit<, lit≤);
    points = Prim.search (lit<);
    units = Prim.search;
    main = refl;
    external = Prim.search;
    internal = Prim.search;
    room = Prim.search (lit≤);
  }
