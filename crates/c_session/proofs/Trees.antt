-- Trees written out, over any box and any count.
use Rattle.std.proofs.Common.{refl, ℕ, ◌<◌, ◌^◌, le_refl, List, length, replicate, Some, None, lit<}
use Rattle.std.proofs.lemmas.List.{length-replicate}
use Rattle.std.specs.Prelude.{Box, Vec}
use Rattle.std.specs.declared.alloc.Global.{Global}
use Rattle.std.specs.declared.rc.Rc.{Rc}
use Rattle.c_tree.specs.declared.types.CType.{CType}
use Rattle.c_tree.specs.declared.types.CType.TheVariants.{Int, Pointer', Array'}
use Rattle.c_tree.specs.declared.typed.Site.{Site}
use Rattle.c_tree.specs.declared.typed.Head.{Head}
use Rattle.c_tree.specs.declared.typed.BinaryOp.{BinaryOp}
use Rattle.c_tree.specs.declared.typed.Typed.{Typed, end_of-Typed, more_of-Typed}
use Rattle.c_tree.specs.declared.typed.Typed.TheVariants.{Assign', Binary', Call', Name, Constant}
use Rattle.c_tree.specs.declared.typed.Pointed.{Pointed}
use Rattle.c_tree.specs.declared.typed.DeclaredLocal.{DeclaredLocal}
use Rattle.c_tree.specs.declared.typed.Stmt.{Stmt, end_of-Stmt, more_of-Stmt}
use Rattle.c_tree.specs.declared.typed.Stmt.TheVariants.{Value, Block', While', Return}

abbrev pub somewhere : Site
somewhere = record { at = 0; line = 1; column = 1 }

abbrev pub of_type : CType → Head
of_type t = record { site = somewhere; ctype = t }

abbrev pub at : ℕ → Typed → Pointed
at q e = record { point = q; e = e }

module _ (rc : Rc (Unit {0}) Global) where
  abbrev pub pointer : CType → CType
  pointer t = Pointer' rc t

  abbrev pub array : CType → ℕ → CType
  array t n = Array' rc t n

module _ (b : Box (Unit {0}) Global) where
  abbrev pub binary : CType → Typed → BinaryOp → Typed → Typed
  binary t x op y = Binary' (of_type t) b x op b y

  abbrev pub assign : CType → Typed → Typed → Typed
  assign t x y = Assign' (of_type t) b x None b y

  abbrev pub loop : Pointed → Stmt → Stmt
  loop q s = While' somewhere q b s

  abbrev pub shape_of : (n : ℕ) → n < 2 ^ 63 → Vec (Unit {0}) Global
  shape_of n h = record { ptr = b.ptr; len = length (replicate n tt); cap = length (replicate n tt); alloc = b.alloc; items = replicate n tt; ok = (refl, le_refl _); small = rw (length-replicate n (tt {0})) h }

  -- blocks and calls by the number of their parts
  abbrev pub block1 : List DeclaredLocal → Stmt → Stmt
  block1 ds s = Block' somewhere ds (shape_of 1 (lit< tt)) (more_of-Stmt s end_of-Stmt) 1 1

  abbrev pub block2 : List DeclaredLocal → Stmt → Stmt → Stmt
  block2 ds s t = Block' somewhere ds (shape_of 2 (lit< tt)) (more_of-Stmt s (more_of-Stmt t end_of-Stmt)) 1 1

  abbrev pub block3 : List DeclaredLocal → Stmt → Stmt → Stmt → Stmt
  block3 ds s t u = Block' somewhere ds (shape_of 3 (lit< tt)) (more_of-Stmt s (more_of-Stmt t (more_of-Stmt u end_of-Stmt))) 1 1

  abbrev pub call0 : CType → ℕ → Typed
  call0 t f = Call' (of_type t) f (shape_of 0 (lit< tt)) end_of-Typed

  abbrev pub call1 : CType → ℕ → Typed → Typed
  call1 t f e = Call' (of_type t) f (shape_of 1 (lit< tt)) (more_of-Typed e end_of-Typed)

abbrev pub expression : ℕ → Typed → Stmt
expression q e = Value somewhere (Some (at q e))

abbrev pub give_back : ℕ → Typed → Stmt
give_back q e = Return somewhere q (Some e)

abbrev pub constant : ℕ → Typed
constant n = Constant (of_type Int) n

abbrev pub name : CType → ℕ → Typed
name t n = Name (of_type t) n
