-- The structs that were there before others were added.
use Rattle.std.proofs.Common.{◌≡◌, refl, ap, List, [], ◌∷◌, ◌++◌, length, map, take, drop}
use Rattle.c_tree.specs.declared.types.StructDef.{StructDef}
use Rattle.expr_serve.specs.Serving.{struct_as}

pub front : (old more now : List StructDef) → map struct_as now ≡ map struct_as (old ++ more) → map struct_as (take (length old) now) ≡ map struct_as old
front [] more now e = refl
front (d ∷ ds) more [] e = cc
front (d ∷ ds) more (x ∷ xs) e = let t = front ds more xs (ap (drop 1) e) in cc
