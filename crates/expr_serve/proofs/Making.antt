-- Texts that make types anew.
use Rattle.std.proofs.Common.{◌≡◌, refl, sym, subst, ℕ, List, ◌++◌, codes, pos, length}
use Rattle.std.specs.Fmt.{digits}
use Rattle.c_tree.specs.declared.types.CType.{CType}
use Rattle.c_tree.specs.declared.types.CType.TheVariants.{Array'}
use Rattle.c_tree.specs.declared.types.StructDef.{StructDef}
use Rattle.c_tree.specs.declared.types.Member.{Member}
use Rattle.ps_emit.specs.Terms.{◌⋯◌, word, name, integer, number}
use Rattle.ps_emit.specs.Grown.{Grows}
use Rattle.ps_emit.proofs.Followed.{◌and◌}
use Rattle.expr_serve.specs.Types.{begun, with_structs, ended, array_begun, row_begun, with_size, with_members, bytes_of, type_code, row_code, each_row, filled_struct, filled_structs, struct_leaves}
use Rattle.expr_serve.proofs.Growing.{grown}

module _ (defs : List StructDef) where
  pub array_arm : (x : _) (item : CType) (k : ℕ) (t it : CType) {a b c d e f g h : List ℕ} → t ≡ Array' x item k → it ≡ item → b ≡ a ++ codes "<< /kind /array /size " → Grows (integer (pos (bytes_of defs t))) b c
      → d ≡ c ++ codes "/count " → Grows (number k) d e → f ≡ e ++ codes "/to " → Grows (type_code defs it) f g → Grows (word ">>") g h → Grows (type_code defs t) a h
  array_arm x item k t it {a} {b} {c} {d} {e} {f} {g} {h} is same p size q count r made s =
      subst (λ z. Grows (type_code defs z) a h) (sym is)
      (grown array_begun p refl and (subst (λ z. Grows (integer (pos (bytes_of defs z))) b c) is size and (grown (name "count") q refl
      and (count and (grown (name "to") r refl and (subst (λ z. Grows (type_code defs z) f g) same made and s))))))

  pub row_grown : (m : Member) {a b c d e : List ℕ} → b ≡ a ++ codes "[ () " → Grows (number m.at) b c → Grows (type_code defs m.ctype) c d → Grows (word "]") d e → Grows (row_code defs m) a e
  row_grown m p at made q = grown row_begun p refl and (at and (made and q))

  pub struct_grown : (s : ℕ) (d : StructDef) {a b c e f g h : List ℕ} → Grows (number s) a b → c ≡ b ++ codes "load dup /size " → Grows (number d.size) c e → f ≡ e ++ codes "put /members [ "
      → Grows (each_row defs d.members) f g → h ≡ g ++ codes "] put " → Grows (filled_struct defs s d) a h
  struct_grown s d n p size q rows r = n and (grown with_size p refl and (size and (grown with_members q refl and (rows and grown (word "]" ⋯ word "put") r refl))))

  pub leaves_grown : (s : ℕ) {a b c d e f g : List ℕ}
      → b ≡ a ++ codes "1 dict begin /c << /kind /char /size 1 >> def /w << /kind /int /size 4 >> def /p << /kind /pointer /size 4 /to << /kind /struct >> >> def 0 1 "
      → Grows (number (length defs)) b c → d ≡ c ++ codes "{ << /kind /struct >> def } for " → Grows (filled_structs defs 0 defs) d e → Grows (number s) e f → g ≡ f ++ codes "load end Leaf "
      → Grows (struct_leaves defs s) a g
  unfolding digits
  leaves_grown s p count q filled n r = grown begun p refl and (count and (grown with_structs q refl and (filled and (n and grown ended r refl))))
