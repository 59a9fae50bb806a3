-- New objects hold values that fit.
use Rattle.std.proofs.Common.{◌≡◌, refl, sym, true, List, [], ◌∷◌, true≢false}
use Rattle.std.specs.Prelude.{map}
use Rattle.std.specs.List.{AllByRecursion}
use Rattle.ldb_words.specs.declared.kinds.Kind.{Kind}
use Rattle.ldb_words.specs.declared.kinds.Kind.TheVariants.{Byte, Word, Address}
use Rattle.c_tree.specs.declared.types.CType.{CType}
use Rattle.c_tree.specs.declared.types.CType.TheVariants.{Char, Int, Unsigned, Void, Pointer', Array', Struct}
use Rattle.c_tree.specs.declared.types.StructDef.{StructDef}
use Rattle.c_tree.specs.declared.types.Leaf.{Leaf}
use Rattle.c_tree.specs.declared.rows.Program.{Program}
use Rattle.c_tree.specs.Layout.{leaves_of}
use Rattle.c_store.specs.Store.{Value, Cell, zero_of, with_first}
use Rattle.c_source.specs.Blocks.{cells_of}
use Rattle.c_sound.specs.Shapes.{is_place, Fits}
use Rattle.c_sound.proofs.World.{Gives, CellFits, held_gives}
use Rattle.c_sound.proofs.Operators.{addr}
use Rattle.c_sound.proofs.Shaped.{is_one_leaf}

zero_fits : (k : Kind) → Fits k (zero_of k)
zero_fits Byte = refl
zero_fits Word = refl
zero_fits Address = refl

abbrev zero_cell : Leaf → Cell
zero_cell l = record { at = l.at; kind = l.kind; value = zero_of l.kind }

zeros_fit : (ls : List Leaf) → AllByRecursion CellFits (map zero_cell ls)
zeros_fit [] = tt
zeros_fit (l ∷ ls) = (zero_fits l.kind, zeros_fit ls)

pub cells_fit : (defs : List StructDef) (t : CType) → AllByRecursion CellFits (cells_of defs t)
cells_fit defs t = zeros_fit (leaves_of defs t)

-- a parameter's object begins with its argument
pub parameter_gives : (p : Program) (t : CType) (v : Value) → is_place v ≡ addr t → is_one_leaf t ≡ true → Gives (λ cells. AllByRecursion CellFits cells) (with_first v (cells_of p.defs t))
parameter_gives p Char v h one = held_gives (λ cells. AllByRecursion CellFits cells) Byte v _ h (h, tt)
parameter_gives p Int v h one = held_gives (λ cells. AllByRecursion CellFits cells) Word v _ h (h, tt)
parameter_gives p Unsigned v h one = held_gives (λ cells. AllByRecursion CellFits cells) Word v _ h (h, tt)
parameter_gives p Void v h one = absurd (true≢false (sym one))
parameter_gives p (Pointer' b t) v h one = held_gives (λ cells. AllByRecursion CellFits cells) Address v _ h (h, tt)
parameter_gives p (Array' b t n) v h one = absurd (true≢false (sym one))
parameter_gives p (Struct s) v h one = absurd (true≢false (sym one))
