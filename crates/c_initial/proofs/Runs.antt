-- Rows of what leaves hold, some of which are runs of zeros.
use Rattle.std.proofs.Common.{◌≡◌, ℕ, List, [], ◌∷◌, ◌++◌, drop, replicate, refl, sym, ap, ◌∙◌}
use Rattle.std.proofs.lemmas.List.{append_assoc, append-nil, replicate-append-replicate}
use Rattle.c_tree.specs.declared.types.StructDef.{StructDef}
use Rattle.c_tree.specs.declared.types.Member.{Member}
use Rattle.c_tree.specs.Layout.{members_of}
use Rattle.c_typing.specs.Plain.{plain}
use Rattle.c_defs.specs.Depths.{deepest}
use Rattle.c_defs.specs.Leaves.{leaf_count, leaves_of_members}
use Rattle.c_initial.specs.declared.starts.Begin.{Begin as Row}
use Rattle.c_initial.specs.Begins.{Bits, zeros_of_members}
use Rattle.c_initial.specs.Starts.{begins_of_row, begins_in}

pub begins_append : (xs ys : List Row) → begins_in (xs ++ ys) ≡ begins_in xs ++ begins_in ys
begins_append [] ys = refl
begins_append (x ∷ xs) ys = ap (λ bs. begins_of_row x ++ bs) (begins_append xs ys) ∙ sym (append_assoc (begins_of_row x) (begins_in xs) (begins_in ys))

pub begins_more : (xs : List Row) (b : Row) → begins_in (xs ++ b ∷ []) ≡ begins_in xs ++ begins_of_row b
begins_more xs b = begins_append xs (b ∷ []) ∙ ap (λ bs. begins_in xs ++ bs) (append-nil (begins_of_row b))

pub zeros_of_all : (defs : List StructDef) (ms : List Member) → zeros_of_members defs ms ≡ replicate (leaves_of_members (leaf_count defs deepest) ms) (Bits 0)
zeros_of_all defs [] = refl
zeros_of_all defs (m ∷ ms) =
    let n = leaf_count defs deepest (plain m.ctype) in
    ap (λ bs. replicate n (Bits 0) ++ bs) (zeros_of_all defs ms) ∙ replicate-append-replicate n (leaves_of_members (leaf_count defs deepest) ms) (Bits 0)

pub zeros_of_rest : (defs : List StructDef) (s k : ℕ) → zeros_of_members defs (drop k (members_of defs s)) ≡ replicate (leaves_of_members (leaf_count defs deepest) (drop k (members_of defs s))) (Bits 0)
zeros_of_rest defs s k = zeros_of_all defs (drop k (members_of defs s))
