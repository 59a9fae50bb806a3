-- struct node { int v; struct node *next; } a; struct node *head = &a; char *text = "hi"; unsigned total;
-- void add(struct node *p, int n) {
--   register int i = 0;
--   for (i = 0; i < n; i++) total += p ? p->v : 1;
--   do { if (!n) return; else n--; } while (n > 0 && total != 7u);
-- }
-- int main(void) {
--   char c[4]; int k = (char) 300, j;
--   switch (k) { case 44: j = 1; break; default: j = sizeof(struct node); }
--   { char *q = text; q += 1; *q == 'x', c[0] = (char) 2; }
--   add(&a, 3); a.v = c[0] << 1;
--   while (j) { j = j - 1; if (j == 2) continue; break; }
--   return ~a.v & 15;
-- }
use Rattle.std.proofs.Common.{refl, [], ◌∷◌, ℕ, Some, None, false, true, lit<, lit≤}
use Rattle.std.specs.Prelude.{Box, codes}
use Rattle.std.specs.declared.alloc.Global.{Global}
use Rattle.std.specs.declared.rc.Rc.{Rc}
use Rattle.c_tree.specs.declared.types.CType.{CType}
use Rattle.c_tree.specs.declared.types.CType.TheVariants.{Char, Int, Unsigned, Void, Pointer', Array', Struct}
use Rattle.c_tree.specs.declared.typed.BinaryOp.TheVariants.{BitAnd, Equal, Unequal, Less, Greater, ShiftLeft, Add, Subtract}
use Rattle.c_tree.specs.declared.typed.StepOp.TheVariants.{Up, Down}
use Rattle.c_tree.specs.declared.typed.UnaryOp.TheVariants.{Complement, Not}
use Rattle.c_tree.specs.declared.typed.Typed.{Typed, end_of-Typed, more_of-Typed}
use Rattle.c_tree.specs.declared.typed.Typed.TheVariants.{Comma', Assign', Choice', And', Binary', Cast', Address', Follow', Unary', SizeOfType, Index', Call', Dot', Arrow', After', Name, Constant}
use Rattle.c_tree.specs.declared.typed.Stmt.{Stmt, end_of-Stmt, more_of-Stmt, None', Some'}
use Rattle.c_tree.specs.declared.typed.Stmt.TheVariants.{Value, Block', If', While', Do', For', Switch', Case', Default', Break, Continue, Return}
use Rattle.c_tree.specs.declared.rows.Program.{Program}
use Rattle.c_tree.specs.declared.rows.Function.{Function}
use Rattle.c_tree.specs.declared.rows.Point.{Point}
use Rattle.c_tree.specs.declared.rows.SymbolRow.{SymbolRow}
use Rattle.c_tree.specs.declared.rows.Referent.{Referent}
use Rattle.c_tree.specs.declared.rows.Start.TheVariants as starts
use Rattle.c_tree.specs.declared.rows.Referent.TheVariants as refers
use Rattle.c_typing.specs.Plain.{plain}
use Rattle.c_typing.specs.Written.{IsFormed, IsWritten}
use Rattle.c_typing.specs.Statements.{in_function, IsStatement}
use Rattle.c_typing.specs.Programs.{KeepsRules, IsFunction}
use Rattle.c_typing.proofs.Trees.{somewhere, of_type, at, shape_of}

module _ (b : Box (Unit {0}) Global) (rc : Rc (Unit {0}) Global) where
  abbrev node : CType
  node = Pointer' rc (Struct 0)

  abbrev chars : CType
  chars = Pointer' rc Char

  abbrev int : ℕ → Typed
  int n = Constant (of_type Int) n

  abbrev name : CType → ℕ → Typed
  name t n = Name (of_type t) n

  abbrev n : Typed
  n = name Int 9

  abbrev i : Typed
  i = name Int 10

  abbrev j : Typed
  j = name Int 14

  abbrev total : Typed
  total = name Unsigned 6

  abbrev added : Typed
  added = Assign' (of_type Unsigned) b total (Some Add) b (Choice' (of_type Int) b (name node 8) b (Arrow' (of_type Int) b (name node 8) 0) b (int 1))

  abbrev counting : Stmt
  counting = For' somewhere (Some (at 2 (Assign' (of_type Int) b i None b (int 0)))) (Some (at 3 (Binary' (of_type Int) b i Less b n))) (Some (at 4 (After' (of_type Int) b i Up))) b (Value somewhere (Some (at 5 added)))

  abbrev falling : Stmt
  falling = If' somewhere (at 6 (Unary' (of_type Int) Not b n)) b (Return somewhere 7 None) (Some' b (Value somewhere (Some (at 8 (After' (of_type Int) b n Down)))))

  abbrev test : Typed
  test = And' (of_type Int) b (Binary' (of_type Int) b n Greater b (int 0)) b (Binary' (of_type Int) b total Unequal b (Constant (of_type Unsigned) 7))

  abbrev ending : Stmt
  ending = Do' somewhere b (Block' somewhere [] (shape_of b 1 (lit< tt)) (more_of-Stmt falling end_of-Stmt) 5 40) (at 9 test)

  abbrev add : Function
  add = record {
    name = codes "add";
    unit = 0;
    is_static = false;
    result = Void;
    params = 2;
    locals = (record { name = codes "p"; ctype = node; register = false } ∷ record { name = codes "n"; ctype = Int; register = false } ∷ record { name = codes "i"; ctype = Int; register = true } ∷ []);
    points = (0 ∷ 1 ∷ 2 ∷ 3 ∷ 4 ∷ 5 ∷ 6 ∷ 7 ∷ 8 ∷ 9 ∷ 10 ∷ []);
    body = (Block' somewhere (record { local = 2; init = Some (at 1 (int 0)) } ∷ []) (shape_of b 2 (lit< tt)) (more_of-Stmt counting (more_of-Stmt ending end_of-Stmt)) 6 1);
  }

  abbrev given : ℕ → Typed → Stmt
  given q e = Value somewhere (Some (at q (Assign' (of_type Int) b j None b e)))

  abbrev choosing : Stmt
  choosing = Switch' somewhere (at 13 (name Int 13)) b (Block' somewhere [] (shape_of b 3 (lit< tt)) (more_of-Stmt (Case' somewhere 44 b (given 14 (int 1))) (more_of-Stmt (Break somewhere) (more_of-Stmt (Default' somewhere b (given 15 (SizeOfType (of_type Unsigned) (Struct 0)))) end_of-Stmt))) 9 70)

  abbrev first : Typed
  first = Index' (of_type Char) b (name (Array' rc Char 4) 12) b (int 0)

  abbrev writing : Typed
  writing = Comma' (of_type Char) b (Binary' (of_type Int) b (Follow' (of_type Char) b (name chars 15)) Equal b (int 120)) b (Assign' (of_type Char) b first None b (Cast' (of_type Char) b (int 2)))

  abbrev inner : Stmt
  inner = Block' somewhere (record { local = 3; init = Some (at 16 (name chars 5)) } ∷ []) (shape_of b 2 (lit< tt)) (more_of-Stmt (Value somewhere (Some (at 17 (Assign' (of_type chars) b (name chars 15) (Some Add) b (int 1))))) (more_of-Stmt (Value somewhere (Some (at 18 writing))) end_of-Stmt)) 10 60

  abbrev calling : Typed
  calling = Call' (of_type Void) 7 (shape_of b 2 (lit< tt)) (more_of-Typed (Address' (of_type node) b (name (Struct 0) 3)) (more_of-Typed (int 3) end_of-Typed))

  abbrev member : Typed
  member = Dot' (of_type Int) b (name (Struct 0) 3) 0

  abbrev shifting : Typed
  shifting = Assign' (of_type Int) b member None b (Binary' (of_type Int) b first ShiftLeft b (int 1))

  abbrev going : Stmt
  going = While' somewhere (at 21 j) b (Block' somewhere [] (shape_of b 3 (lit< tt)) (more_of-Stmt (given 22 (Binary' (of_type Int) b j Subtract b (int 1))) (more_of-Stmt (If' somewhere (at 23 (Binary' (of_type Int) b j Equal b (int 2))) b (Continue somewhere) None') (more_of-Stmt (Break somewhere) end_of-Stmt))) 12 60)

  abbrev main : Function
  main = record {
    name = codes "main";
    unit = 0;
    is_static = false;
    result = Int;
    params = 0;
    locals = (record { name = codes "c"; ctype = Array' rc Char 4; register = false } ∷ record { name = codes "k"; ctype = Int; register = false } ∷ record { name = codes "j"; ctype = Int; register = false } ∷ record { name = codes "q"; ctype = chars; register = false } ∷ []);
    points = (11 ∷ 12 ∷ 13 ∷ 14 ∷ 15 ∷ 16 ∷ 17 ∷ 18 ∷ 19 ∷ 20 ∷ 21 ∷ 22 ∷ 23 ∷ 24 ∷ 25 ∷ []);
    body = (Block' somewhere (record { local = 0; init = None } ∷ record { local = 1; init = Some (at 12 (Cast' (of_type Char) b (int 300))) } ∷ record { local = 2; init = None } ∷ []) (shape_of b 6 (lit< tt))
        (more_of-Stmt choosing (more_of-Stmt inner (more_of-Stmt (Value somewhere (Some (at 19 calling))) (more_of-Stmt (Value somewhere (Some (at 20 shifting))) (more_of-Stmt going
        (more_of-Stmt (Return somewhere 24 (Some (Binary' (of_type Int) b (Unary' (of_type Int) Complement b member) BitAnd b (int 15)))) end_of-Stmt)))))) 14 1);
  }

  abbrev point : ℕ → ℕ → ℕ → Point
  point f line s = record { function = f; line = line; column = 3; symbol = Some s }

  abbrev symbol : ℕ → CType → Referent → ℕ → SymbolRow
  symbol letter t r up = record { name = letter ∷ []; ctype = t; refers = r; up = Some up }

  abbrev pub program : Program
  program = record {
    units = (record { file = codes "f.c"; functions = (0 ∷ 1 ∷ []) } ∷ []);
    defs = (record { tag = codes "node"; size = 8; members = (record { name = codes "v"; at = 0; ctype = Int } ∷ record { name = codes "next"; at = 4; ctype = node } ∷ []) } ∷ []);
    objects = (record { name = codes "a"; unit = 0; is_static = false; ctype = Struct 0; start = (starts.Number 0 ∷ starts.Number 0 ∷ []) } ∷ record { name = codes "head"; unit = 0; is_static = false; ctype = node; start = (starts.Object 0 0 ∷ []) } ∷ record { name = codes "text"; unit = 0; is_static = false; ctype = chars; start = (starts.Str 0 ∷ []) } ∷ record { name = codes "total"; unit = 0; is_static = false; ctype = Unsigned; start = (starts.Number 0 ∷ []) } ∷ []);
    strings = (codes "hi" ∷ []);
    functions = (add ∷ main ∷ []);
    points = (point 0 2 9 ∷ point 0 3 10 ∷ point 0 4 10 ∷ point 0 4 10 ∷ point 0 4 10 ∷ point 0 4 10 ∷ point 0 5 10 ∷ point 0 5 10 ∷ point 0 5 10 ∷ point 0 5 10 ∷ point 0 6 10 ∷ point 1 7 11 ∷ point 1 8 13 ∷ point 1 9 14 ∷ point 1 9 14 ∷ point 1 9 14 ∷ point 1 10 15 ∷ point 1 10 15 ∷ point 1 10 15 ∷ point 1 11 14 ∷ point 1 11 14 ∷ point 1 12 14 ∷ point 1 12 14 ∷ point 1 12 14 ∷ point 1 13 14 ∷ point 1 14 14 ∷ []);
    symbols = (record { name = codes "getchar"; ctype = Int; refers = refers.Declared; up = None } ∷ record { name = codes "putchar"; ctype = Int; refers = refers.Declared; up = Some 0 } ∷ record { name = codes "exit"; ctype = Void; refers = refers.Declared; up = Some 1 }
        ∷ symbol 97 (Struct 0) (refers.Object 0) 2 ∷ symbol 104 node (refers.Object 1) 3 ∷ symbol 116 chars (refers.Object 2) 4 ∷ symbol 117 Unsigned (refers.Object 3) 5 ∷ symbol 43 Void (refers.Function 0) 6
        ∷ symbol 112 node (refers.Local 0) 7 ∷ symbol 110 Int (refers.Local 1) 8 ∷ symbol 105 Int (refers.Local 2) 9 ∷ symbol 109 Int (refers.Function 1) 7
        ∷ symbol 99 (Array' rc Char 4) (refers.Local 0) 11 ∷ symbol 107 Int (refers.Local 1) 12 ∷ symbol 106 Int (refers.Local 2) 13 ∷ symbol 113 chars (refers.Local 3) 14 ∷ []);
  }

  add_is_a_function : IsFunction program 0 add
  add_is_a_function = record {
    result = refl;
    written = Prim.search;
    few = Prim.search (lit≤);
    scalars = Prim.search;
    locals = Prim.search (lit<, lit≤);
    declared = refl;
    block = tt;
    body = Prim.search (lit<, lit≤);
    points = (0, 10, refl);
    numbered = (0, refl);
    ends = ((refl, refl), (refl, refl));
    unit = refl;
    main = refl;
  }

  is_formed : IsFormed program.defs (Struct 0)
  is_formed = (lit< tt, lit≤ tt)

  is_written : IsWritten program.defs (Struct 0)
  is_written = ((tt, (tt, tt)), is_formed)

  choosing_stands : IsStatement program 1 (plain Int) (0 ∷ 1 ∷ 2 ∷ []) in_function choosing
  choosing_stands =
      ((refl, refl, (refl, refl)), (refl, (Prim.search (lit<), (refl, ((refl, ((refl, (is_written, refl), refl), refl, (refl, refl))), tt))), (refl, tt), lit≤ tt))

  main_is_a_function : IsFunction program 1 main
  main_is_a_function = record {
    result = refl;
    written = Prim.search;
    few = Prim.search (lit≤);
    scalars = Prim.search;
    locals = Prim.search (lit<, lit≤);
    declared = refl;
    block = tt;
    body = (Prim.search (lit<), (choosing_stands, (Prim.search (lit<), (Prim.search (lit<), (Prim.search (lit<), (Prim.search (lit<), (Prim.search (lit<), tt)))))));
    points = (11, 25, refl);
    numbered = (11, refl);
    ends = ((refl, refl), (refl, refl));
    unit = refl;
    main = refl;
  }

  it_keeps_the_rules : KeepsRules program
  it_keeps_the_rules = record {
    structs = ((is_written, (refl, (refl, tt)), (((tt, tt), refl), (((tt, (is_formed, refl)), refl), tt)), (8, (refl, (refl, refl)), refl)), tt);
    objects = (((is_written, refl), (lit< tt, (refl, tt)), lit< tt), (Prim.search (lit<, lit≤), (Prim.search (lit<, lit≤), (Prim.search (lit<, lit≤), tt))));
    functions = (add_is_a_function, (main_is_a_function, tt));
    symbols = (Prim.search (lit<, lit≤), (Prim.search (lit<, lit≤), (Prim.search (lit<, lit≤), ((is_written, refl, lit< tt), (Prim.search (lit<, lit≤), (Prim.search (lit<, lit≤), (Prim.search (lit<, lit≤), (Prim.search (lit<, lit≤), (Prim.search (lit<, lit≤), (Prim.search (lit<, lit≤), (Prim.search (lit<, lit≤), (Prim.search (lit<, lit≤), (Prim.search (lit<, lit≤), (Prim.search (lit<, lit≤), (Prim.search (lit<, lit≤), (Prim.search (lit<, lit≤), tt))))))))))))))));
    points = Prim.search (lit<);
    units = Prim.search;
    main = refl;
    external = Prim.search;
    internal = Prim.search;
    room = Prim.search (lit≤);
  }
