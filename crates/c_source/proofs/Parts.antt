-- The parts of a meaning, over the store.
use Rattle.std.specs.Prelude.{ℕ, pos}
use Rattle.c_tree.specs.declared.types.CType.{CType}
use Rattle.c_tree.specs.declared.rows.Program.{Program}
use Rattle.c_store.specs.Store.{Value, moved, ◌>>=◌}
use Rattle.c_store.specs.Frames.{Here}
use Rattle.c_source.specs.Evaluation as parts
use Rattle.c_source.specs.Meaning.{Meant, over_store}

module _ (p : Program) (h : Here) where
  abbrev pub value_at : CType → Value → Meant
  value_at t v = parts.value_at p.defs (over_store p h) t v

  abbrev pub tested : Meant → (holds fails : Meant) → Meant
  tested m holds fails = parts.tested p.defs (over_store p h) m holds fails

  abbrev pub truth_of : Meant → Meant
  truth_of m = parts.truth_of p.defs (over_store p h) m

  abbrev pub chosen_as : CType → Meant → Meant
  chosen_as t m = parts.chosen_as p.defs (over_store p h) t m

  abbrev pub indexed : CType → CType → Meant → Meant → Meant
  indexed s t a b = parts.indexed p.defs (over_store p h) s t a b

  abbrev pub member_at : ℕ → Meant → Meant
  member_at n m = m >>= λ v. moved h.world v (pos n)
