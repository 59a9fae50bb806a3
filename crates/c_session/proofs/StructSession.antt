-- `struct s { char c[3]; int i; } v = {"ab", -1}; int main(void) { return 0; }`
use Rattle.std.proofs.Common.{◌≡◌, refl, [], ◌∷◌, Some, None, false, lit<}
use Rattle.std.specs.Prelude.{Box, codes}
use Rattle.std.specs.declared.alloc.Global.{Global}
use Rattle.std.specs.declared.rc.Rc.{Rc}
use Rattle.c_tree.specs.declared.types.CType.TheVariants.{Char, Int, Unsigned, Void, Pointer', Array', Struct}
use Rattle.c_tree.specs.declared.typed.Typed.TheVariants.{Assign', Address', SizeOf', SizeOfType, Index', Dot', Name, Constant}
use Rattle.c_tree.specs.declared.typed.Stmt.{end_of-Stmt, more_of-Stmt}
use Rattle.c_tree.specs.declared.typed.Stmt.TheVariants.{Block', Return}
use Rattle.c_tree.specs.declared.rows.Program.{Program}
use Rattle.c_tree.specs.declared.rows.Start.TheVariants as starts
use Rattle.c_tree.specs.declared.rows.Referent.TheVariants as refers
use Rattle.c_session.specs.declared.command.Command.TheVariants as command
use Rattle.c_reading.specs.Readings.{Read}
use Rattle.c_session.proofs.Computed.{session, reader, computing}
use Rattle.c_session.proofs.Trees.{somewhere, of_type, shape_of}

module _ (b : Box (Unit {0}) Global) (rc : Rc (Unit {0}) Global) where
  abbrev pub program : Program
  program = record {
    units = (record { file = codes "v.c"; functions = (0 ∷ []) } ∷ []);
    defs = (record { tag = codes "s"; size = 8; members = (record { name = codes "c"; at = 0; ctype = (Array' rc Char 3) } ∷ record { name = codes "i"; at = 4; ctype = Int } ∷ []) } ∷ []);
    objects = (record { name = codes "v"; unit = 0; is_static = false; ctype = (Struct 0); start = (starts.Number 97 ∷ starts.Number 98 ∷ starts.Number 0 ∷ starts.Number 4294967295 ∷ []) } ∷ []);
    strings = [];
    functions = (record {
      name = codes "main";
      unit = 0;
      is_static = false;
      result = Int;
      params = 0;
      locals = [];
      points = (0 ∷ 1 ∷ 2 ∷ []);
      body = (Block' somewhere [] (shape_of b 1 (lit< tt)) (more_of-Stmt (Return somewhere 1 (Some (Constant (of_type Int) 0))) end_of-Stmt) 1 1);
    } ∷ []);
    points = (record { function = 0; line = 1; column = 63; symbol = Some 4 } ∷ record { function = 0; line = 1; column = 65; symbol = Some 4 } ∷ record { function = 0; line = 1; column = 75; symbol = Some 4 } ∷ []);
    symbols = (record { name = codes "getchar"; ctype = Int; refers = refers.Declared; up = None } ∷ record { name = codes "putchar"; ctype = Int; refers = refers.Declared; up = Some 0 } ∷ record { name = codes "exit"; ctype = Void; refers = refers.Declared; up = Some 1 } ∷ record { name = codes "v"; ctype = (Struct 0); refers = refers.Object 0; up = Some 2 } ∷ record { name = codes "main"; ctype = Int; refers = refers.Function 0; up = Some 3 } ∷ []);
  }

  it_tells : (session program (reader (record { point = 0; text = codes "sizeof v"; reading = Read (SizeOf' (of_type Unsigned) b (Name (of_type (Struct 0)) 3)) } ∷ record { point = 0; text = codes "sizeof(struct s)"; reading = Read (SizeOfType (of_type Unsigned) (Struct 0)) } ∷ record { point = 0; text = codes "v.c"; reading = Read (Dot' (of_type (Array' rc Char 3)) b (Name (of_type (Struct 0)) 3) 0) } ∷ record { point = 0; text = codes "v.c[1]"; reading = Read (Index' (of_type Char) b (Dot' (of_type (Array' rc Char 3)) b (Name (of_type (Struct 0)) 3) 0) b (Constant (of_type Int) 1)) } ∷ record { point = 0; text = codes "v"; reading = Read (Name (of_type (Struct 0)) 3) } ∷ record { point = 0; text = codes "v.c[3]"; reading = Read (Index' (of_type Char) b (Dot' (of_type (Array' rc Char 3)) b (Name (of_type (Struct 0)) 3) 0) b (Constant (of_type Int) 3)) } ∷ record { point = 0; text = codes "&v"; reading = Read (Address' (of_type (Pointer' rc (Struct 0))) b (Name (of_type (Struct 0)) 3)) } ∷ record { point = 0; text = codes "&v.i"; reading = Read (Address' (of_type (Pointer' rc Int)) b (Dot' (of_type Int) b (Name (of_type (Struct 0)) 3) 1)) } ∷ []) (record { point = 0; text = codes "v.c[1] = 300"; reading = Read (Assign' (of_type Char) b (Index' (of_type Char) b (Dot' (of_type (Array' rc Char 3)) b (Name (of_type (Struct 0)) 3) 0) b (Constant (of_type Int) 1)) None b (Constant (of_type Int) 300)) } ∷ [])) 2000 [] ((Some command.Step) ∷ (Some (command.Print (codes "v"))) ∷ (Some (command.Eval (codes "sizeof v"))) ∷ (Some (command.Eval (codes "sizeof(struct s)"))) ∷ (Some (command.Eval (codes "v.c"))) ∷ (Some (command.Eval (codes "v.c[1]"))) ∷ (Some (command.Eval (codes "v"))) ∷ (Some (command.Assign (codes "v.c[1] = 300"))) ∷ (Some (command.Print (codes "v"))) ∷ (Some (command.Eval (codes "v.c[3]"))) ∷ (Some (command.Eval (codes "&v"))) ∷ (Some (command.Eval (codes "&v.i"))) ∷ [])).lines
      ≡ (codes "stop v.c:1.63 main" ∷ codes "value {\"ab\", -1}" ∷ codes "value 8" ∷ codes "value 8" ∷ codes "value &v+0 \"ab\"" ∷ codes "value 98 'b'" ∷ codes "value {\"ab\", -1}" ∷ codes "set" ∷ codes "value {\"a,\", -1}" ∷ codes "refused undefined pointer" ∷ codes "value &v+0" ∷ codes "value &v+4" ∷ [])
  unfolding computing
  it_tells = refl
