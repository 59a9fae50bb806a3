-- The code whose rows are those of a program is the program's.
use Rattle.std.proofs.Common.{◌≡◌, ℕ, zero, suc, ◌+◌, List, [], ◌∷◌, Option, Some, None, length, refl, sym, ap, ◌∙◌, arith, subst}
use Rattle.std.specs.Prelude.{slice_get}
use Rattle.c_tree.specs.declared.types.CType.TheVariants.{Struct}
use Rattle.c_tree.specs.declared.types.StructDef.{StructDef}
use Rattle.c_tree.specs.declared.rows.Program.{Program}
use Rattle.c_tree.specs.declared.rows.Function.{Function}
use Rattle.c_tree.specs.declared.rows.Local.{Local}
use Rattle.c_tree.specs.Layout.{leaves_of, leaves_of_members, leaves_within, members_in}
use Rattle.c_source.specs.Blocks.{locals_in, local_type}
use Rattle.c_source.specs.Begin as sources
use Rattle.slot_ir.specs.declared.code.SlotCode.{SlotCode}
use Rattle.slot_ir.specs.declared.code.SlotLocal.{SlotLocal}
use Rattle.slot_ir.specs.Slots.{code_of, code_in, local_row, leaves_in, locals_in as slot_locals_in}
use Rattle.slot_ir.specs.Begin as beginning
use Rattle.slot_gen.specs.Expressions.{registers_from}
use Rattle.slot_gen.specs.Statements.{function_code}
use Rattle.slot_gen.specs.Rows.{EachFrom, IsLocalOf, IsFunctionOf, IsStructOf, IsObjectOf, HasRowsOf}
use Rattle.slot_gen.specs.Correct.{IsCodeOf, IsRow}
use Rattle.slot_gen.proofs.Stops.{local_none, local_some}
use Rattle.slot_gen.proofs.Pairs.{each_at, each_none, each_length}

no_leaves : (defs : List StructDef) (s : ℕ) → slice_get defs s ≡ None → [] ≡ leaves_of defs (Struct s)
no_leaves defs s e = sym (ap (λ o. leaves_of_members (leaves_within defs 63) (members_in o)) e)

module _ (p : Program) (c : SlotCode) where
  module _ (fs : EachFrom (IsFunctionOf p) 0 p.functions c.functions) where
    code_at : (f : ℕ) (fn : Function) → slice_get p.functions f ≡ Some fn → code_of c f ≡ function_code p f fn
    code_at f fn e =
        let r = each_at (IsFunctionOf p) 0 p.functions c.functions fs f fn e in
        let z : 0 + f ≡ f = omega arith in
        ap code_in r.1 ∙ r.2.code ∙ ap (λ n. function_code p n fn) z

    no_row : (f x : ℕ) → None ≡ slice_get (locals_in (slice_get p.functions f)) x → local_row c f x ≡ None → IsRow p (local_row c f x) (local_type p f x)
    no_row f x e g = subst (λ o. IsRow p o (local_type p f x)) (sym g) (sym (local_none p f x e))

    a_row : (rs : List (Option ℕ)) (f x y : ℕ) (l : Local) (s : SlotLocal) → Some l ≡ slice_get (locals_in (slice_get p.functions f)) x → local_row c f x ≡ Some s → IsLocalOf p rs y l s → IsRow p (local_row c f x) (local_type p f x)
    a_row rs f x y l s e g h =
        let t = local_some p f x l e in
        subst (λ o. IsRow p o (local_type p f x)) (sym g) (subst (λ u. IsRow p (Some s) u) t (h.size, h.leaves, h.access))

    row_in : (f x : ℕ) (fn : Function) → slice_get p.functions f ≡ Some fn → (o : Option Local) → slice_get fn.locals x ≡ o → IsRow p (local_row c f x) (local_type p f x)
    row_in f x fn e None n =
        let r = each_at (IsFunctionOf p) 0 p.functions c.functions fs f fn e in
        let g = r.0 in
        let empty : slice_get g.locals x ≡ None = each_none (IsLocalOf p (registers_from fn.locals 0)) 0 fn.locals g.locals r.2.locals x n in
        no_row f x (sym (ap (λ z. slice_get (locals_in z) x) e ∙ n)) (ap (λ z. slice_get (slot_locals_in z) x) r.1 ∙ empty)
    row_in f x fn e (Some l) n =
        let r = each_at (IsFunctionOf p) 0 p.functions c.functions fs f fn e in
        let g = r.0 in
        let q = each_at (IsLocalOf p (registers_from fn.locals 0)) 0 fn.locals g.locals r.2.locals x l n in
        a_row (registers_from fn.locals 0) f x (0 + x) l q.0 (sym (ap (λ z. slice_get (locals_in z) x) e ∙ n)) (ap (λ z. slice_get (slot_locals_in z) x) r.1 ∙ q.1) q.2

    row_of : (f x : ℕ) (o : Option Function) → slice_get p.functions f ≡ o → IsRow p (local_row c f x) (local_type p f x)
    row_of f x None e =
        let empty = each_none (IsFunctionOf p) 0 p.functions c.functions fs f e in
        no_row f x (sym (ap (λ z. slice_get (locals_in z) x) e)) (ap (λ z. slice_get (slot_locals_in z) x) empty)
    row_of f x (Some fn) e = row_in f x fn e (slice_get fn.locals x) refl

  struct_at : EachFrom (IsStructOf p) 0 p.defs c.structs → (s : ℕ) (o : Option StructDef) → slice_get p.defs s ≡ o → leaves_in (slice_get c.structs s) ≡ leaves_of p.defs (Struct s)
  struct_at ss s None e = ap leaves_in (each_none (IsStructOf p) 0 p.defs c.structs ss s e) ∙ no_leaves p.defs s e
  struct_at ss s (Some d) e =
      let r = each_at (IsStructOf p) 0 p.defs c.structs ss s d e in
      let z : 0 + s ≡ s = omega arith in
      ap leaves_in r.1 ∙ r.2.leaves ∙ ap (λ n. leaves_of p.defs (Struct n)) z

  pub code_made : HasRowsOf p c → ((input : List ℕ) → beginning.world_at_first c input ≡ sources.world_at_first p input) → IsCodeOf p c
  code_made r start = record {
    code = λ f fn e. code_at r.functions f fn e;
    rows = λ f x. row_of r.functions f x (slice_get p.functions f) refl;
    structs = λ s. struct_at r.structs s (slice_get p.defs s) refl;
    objects = each_length (IsObjectOf p) 0 p.objects c.objects r.objects;
    start = start;
    main = r.main;
  }
