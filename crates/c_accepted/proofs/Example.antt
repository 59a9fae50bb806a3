-- `f(x[1]) + sizeof(struct s *)` among `struct s; int f(int); int x[2];`, where `struct s { int a; };` stands behind: what is known of it at its place holds in the whole program.
use Rattle.std.proofs.Common.{◌≡◌, ◌<◌, ◌^◌, refl, le_refl, arith, ℕ, zero, suc, [], ◌∷◌, List, length, replicate, true, false, lit<, lit≤}
use Rattle.std.specs.Prelude.{Box, Vec, codes}
use Rattle.std.proofs.lemmas.List.{length-replicate}
use Rattle.std.specs.List.{AllByRecursion}
use Rattle.std.specs.declared.alloc.Global.{Global}
use Rattle.std.specs.declared.rc.Rc.{Rc}
use Rattle.c_lex.specs.declared.token.Place.{Place}
use Rattle.c_symbol.specs.declared.symbol.LeafKind.TheVariants as leaf
use Rattle.c_symbol.specs.declared.symbol.BinaryOp.TheVariants as written
use Rattle.c_trees.specs.declared.expression.Spec.TheVariants as spec
use Rattle.c_trees.specs.Expressions.{Tree, Leaf, Index, Call, With, SizeofType, Binary, Stars}
use Rattle.c_tree.specs.declared.types.CType.{CType}
use Rattle.c_tree.specs.declared.types.CType.TheVariants as ctype
use Rattle.c_tree.specs.declared.types.StructDef.{StructDef}
use Rattle.c_tree.specs.declared.typed.Head.{Head}
use Rattle.c_tree.specs.declared.typed.BinaryOp.TheVariants as op
use Rattle.c_tree.specs.declared.typed.Typed.{Typed, end_of-Typed, more_of-Typed}
use Rattle.c_tree.specs.declared.typed.Typed.TheVariants.{Binary', SizeOfType as SizeOf, Index', Call', Name, Constant}
use Rattle.c_tree.specs.Layout.{members_of}
use Rattle.c_typing.specs.Plain.{Int, Unsigned, Pointer, Array, Struct, is_empty}
use Rattle.c_typing.specs.Written.{IsWritten}
use Rattle.c_typing.specs.Expressions as typing
use Rattle.c_typing.specs.Expressions.{Denoted, Object, Function, IsTyped}
use Rattle.c_defs.specs.Depths.{deepest}
use Rattle.c_defs.specs.Numbers.{first_number}
use Rattle.c_judge.specs.Scope.{Scope, tagged}
use Rattle.c_judge.specs.Answers.{Known}
use Rattle.c_judge.specs.Judgement.{judged, value}
use Rattle.c_judge.specs.Elaboration.{Elaborates}
use Rattle.c_accepted.specs.Grown.{IsHeld}
use Rattle.c_accepted.specs.Reads.{Reads}
use Rattle.c_accepted.proofs.Expressions.{told}

abbrev at : Place
at = record { at = 0; line = 1; column = 1 }

abbrev names : List Denoted
names = Function Int (Int ∷ []) ∷ Object (Array Int 2) false ∷ []

abbrev before : List StructDef
before = record { tag = codes "s"; size = 0; members = [] } ∷ []

abbrev behind : List StructDef
behind = record { tag = codes "s"; size = 4; members = record { name = codes "a"; at = 0; ctype = ctype.Int } ∷ [] } ∷ []

abbrev place : Scope
place = record {
  among = record { names = names; defs = before; strings = [] };
  number = first_number (codes "f" ∷ codes "x" ∷ []);
  tag = tagged before;
  literal = λ at. 0;
  asks = true;
}

abbrev program : typing.Scope
program = record { names = names; defs = behind; strings = [] }

none_complete : (s : ℕ) → is_empty (members_of before s) ≡ true
none_complete zero = refl
none_complete (suc s) = refl

none_held : (s : ℕ) → AllByRecursion (IsHeld before) (members_of before s)
none_held zero = tt
none_held (suc s) = tt

all_written : (n : ℕ) → n < 1 → IsWritten behind (ctype.Struct n)
all_written zero h = ((tt, tt), (lit< tt, lit≤ tt))
all_written (suc n) h = absurd (omega arith)

reads : Reads place program
reads = record {
  objects = λ text n t r e h. h;
  grows = record {
    count = lit≤ tt;
    members = λ s e. absurd (let w = none_complete s in cc);
    size = λ s e. absurd (let w = none_complete s in cc);
    held = none_held;
  };
  structs = all_written;
  asks = refl;
}

abbrev name : List ℕ → Tree
name text = Leaf at leaf.Name text

abbrev one : Tree
one = Leaf at (leaf.Constant (record { value = 1; is_unsigned = false })) []

abbrev call : Tree
call = With (Call at (name (codes "f"))) (Index at (name (codes "x")) one)

abbrev whole : Tree
whole = Binary at written.Add call (SizeofType at (spec.Struct (codes "s")) (Stars 1))

abbrev of_type : CType → Head
of_type t = record { site = record { at = 0; line = 1; column = 1 }; ctype = t }

module _ (b : Box (Unit {0}) Global) (rc : Rc (Unit {0}) Global) where
  abbrev shape_of : (n : ℕ) → n < 2 ^ 63 → Vec (Unit {0}) Global
  shape_of n h = record { ptr = b.ptr; len = length (replicate n tt); cap = length (replicate n tt); alloc = b.alloc; items = replicate n tt; ok = (refl, le_refl _); small = rw (length-replicate n (tt {0})) h }

  abbrev pointer : CType
  pointer = ctype.Pointer' rc (ctype.Struct 0)

  abbrev item : Typed
  item = Index' (of_type ctype.Int) b (Name (of_type (ctype.Array' rc ctype.Int 2)) 1) b (Constant (of_type ctype.Int) 1)

  abbrev called : Typed
  called = Call' (of_type ctype.Int) 0 (shape_of 1 (lit< tt)) (more_of-Typed item end_of-Typed)

  abbrev tree : Typed
  tree = Binary' (of_type ctype.Unsigned) b called op.Add b (SizeOf (of_type ctype.Unsigned) pointer)

  known : judged place whole ≡ Known (value Unsigned)
  unfolding deepest
  known = refl

  elaborated : Elaborates place whole tree
  unfolding deepest
  elaborated = (
    (refl, refl),
    (
      called,
      SizeOf (of_type ctype.Unsigned) pointer,
      (refl, refl, refl),
      ((refl, refl), (item ∷ [], (refl, refl), ([], item, refl, refl, ((refl, refl), (Name (of_type (ctype.Array' rc ctype.Int 2)) 1, Constant (of_type ctype.Int) 1, (refl, refl), ((refl, refl), refl), ((refl, refl), refl)))))),
      ((refl, refl), (Pointer (Struct 0), refl, refl)),
    ),
  )

  typed : IsTyped program tree
  typed = (told place program reads whole tree (value Unsigned) ((λ n r ts e h. h, (tt, tt)), lit< tt) known elaborated).typed (((tt, lit< tt), tt), tt)
