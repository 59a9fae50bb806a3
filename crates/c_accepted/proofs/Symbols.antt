-- The rows of names are written within the limits of types, and each has its next name outward before it.
use Rattle.std.proofs.Common.{refl, sym, subst, ℕ, suc, List, [], ◌∷◌, Option, Some, None}
use Rattle.std.specs.List.{AllByRecursion}
use Rattle.c_tree.specs.declared.types.StructDef.{StructDef}
use Rattle.c_tree.specs.declared.rows.Program.{Program}
use Rattle.c_tree.specs.declared.rows.SymbolRow.{SymbolRow}
use Rattle.c_typing.specs.Plain.{plain}
use Rattle.c_typing.specs.Expressions.{Denoted, Object, Function, Hidden}
use Rattle.c_typing.specs.Programs.{AllFrom, IsReferent, IsBelow, IsSymbol}
use Rattle.c_defs.specs.Depths.{deepest}
use Rattle.c_scope.specs.Environment.{Row}
use Rattle.c_file.specs.Files.{State}
use Rattle.c_file.specs.Made.{Each, IsSymbolOf, referent, type_of_name}
use Rattle.c_accepted.proofs.Completed.{AreSound}
use Rattle.c_accepted.proofs.Written.{IsNamed, written}
use Rattle.c_accepted.proofs.Completing.{extended, no_more}
use Rattle.c_accepted.proofs.Structs.{structs_written}
use Rattle.c_accepted.proofs.Types.{IsDenotedIn}
use Rattle.c_accepted.proofs.Scoping.{IsRowIn, IsUnder}

named_type : (defs : List StructDef) (q : State) (d : Denoted) → IsDenotedIn defs d → IsNamed defs (type_of_name q d)
unfolding deepest
named_type defs q (Object t r) h = h
named_type defs q (Function t ps) h = h.0
named_type defs q Hidden h = (tt, refl)

-- what a name stands for in the program has the type of the name
abbrev pub IsReferentOf : Program → State → Row → Type 0
IsReferentOf p q r = IsReferent p (type_of_name q r.denoted) r.name (referent q r)

module _ (p : Program) (q : State) (sound : AreSound p.defs) where
  below : (n : ℕ) (o : Option ℕ) → IsUnder n o → IsBelow p n o
  below n None h = tt
  below n (Some k) h = h

  one_symbol : (n : ℕ) (r : Row) (s : SymbolRow) → IsRowIn p.defs n r → IsReferentOf p q r → IsSymbolOf q r s → IsSymbol p n s
  one_symbol n r s h w e =
      let named : IsNamed p.defs (plain s.ctype) = subst (IsNamed p.defs) (sym e.1) (named_type p.defs q r.denoted h.0) in
      let refers : IsReferent p (plain s.ctype) s.name s.refers = subst (λ t. IsReferent p t s.name s.refers) (sym e.1) (subst (λ n. IsReferent p (type_of_name q r.denoted) n s.refers) (sym e.0) (subst (IsReferent p (type_of_name q r.denoted) r.name) (sym e.2) w)) in (
        written p.defs p.defs (extended p.defs p.defs sound (no_more p.defs)) (structs_written p.defs sound) s.ctype named.0 named.1,
        refers,
        subst (IsBelow p n) (sym e.3) (below n r.up h.1),
      )

  pub all_symbols : (n : ℕ) (rs : List Row) (ss : List SymbolRow) → AllFrom (IsRowIn p.defs) n rs → AllByRecursion (IsReferentOf p q) rs → Each (IsSymbolOf q) rs ss → AllFrom (IsSymbol p) n ss
  all_symbols n [] [] h w e = tt
  all_symbols n (r ∷ rs) (s ∷ ss) h w e = (one_symbol n r s h.0 w.0 e.0, all_symbols (suc n) rs ss h.1 w.1 e.1)
  all_symbols n [] (s ∷ ss) h w e = absurd e
  all_symbols n (r ∷ rs) [] h w e = absurd e
