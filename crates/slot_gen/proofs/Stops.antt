-- Code at stopping points.
use Rattle.std.proofs.Common.{◌≡◌, ℕ, suc, ◌+◌, ◌<◌, List, [], ◌∷◌, ◌++◌, length, refl, sym, ap, ◌∙◌, arith, append_assoc, length-append, get_or, drop}
use Rattle.std.specs.Prelude.{Option, Some, None, slice_get}
use Rattle.std.proofs.Math.Seq.{drop-cons}
use Rattle.c_tree.specs.declared.typed.Pointed.{Pointed}
use Rattle.c_tree.specs.declared.typed.DeclaredLocal.{DeclaredLocal}
use Rattle.c_tree.specs.declared.rows.Program.{Program}
use Rattle.c_tree.specs.declared.types.CType.TheVariants.{Void}
use Rattle.c_tree.specs.declared.rows.Local.{Local}
use Rattle.c_source.specs.Blocks.{locals_in, local_type}
use Rattle.slot_ir.specs.declared.code.SlotOp.{SlotOp}
use Rattle.slot_ir.specs.declared.code.SlotOp.TheVariants.{JumpIfZero, LocalAddress, Stop}
use Rattle.slot_gen.specs.Expressions.{expr_code, unless_register, if_register, register_at, register_of, registers_of, write_at}
use Rattle.slot_gen.specs.Statements.{part_code, test_code, init_code, inits_code}
use Rattle.slot_gen.proofs.Emitted.{then_code, then_two}

pub local_none : (p : Program) (f x : ℕ) → None ≡ slice_get (locals_in (slice_get p.functions f)) x → Void ≡ local_type p f x
local_none p f x e = rw (sym e) refl

pub local_some : (p : Program) (f x : ℕ) (row : Local) → Some row ≡ slice_get (locals_in (slice_get p.functions f)) x → row.ctype ≡ local_type p f x
local_some p f x row e = rw (sym e) refl

pub initial_none : (p : Program) (f x : ℕ) (r : Option ℕ) (old new : List SlotOp) → None ≡ slice_get (locals_in (slice_get p.functions f)) x → new ≡ old ++ write_at p f 0 r Void → new ≡ old ++ write_at p f 0 r (local_type p f x)
initial_none p f x r old new e q = q ∙ ap (λ t. old ++ write_at p f 0 r t) (local_none p f x e)

pub initial_some : (p : Program) (f x : ℕ) (r : Option ℕ) (old new : List SlotOp) (row : Local) → Some row ≡ slice_get (locals_in (slice_get p.functions f)) x → new ≡ old ++ write_at p f 0 r row.ctype → new ≡ old ++ write_at p f 0 r (local_type p f x)
initial_some p f x r old new row e q = q ∙ ap (λ t. old ++ write_at p f 0 r t) (local_some p f x row e)

module _ (p : Program) (f : ℕ) where
  pub pointed_done : (old c1 c2 : List SlotOp) (q : Pointed) → c1 ≡ old ++ Stop q.point ∷ [] → c2 ≡ c1 ++ expr_code p f (length c1) 0 q.e → c2 ≡ old ++ part_code p f (length old) (Some q)
  pointed_done old c1 c2 q e1 e2 = then_code old c1 c2 (Stop q.point ∷ []) (λ at. expr_code p f at 0 q.e) e1 e2

  pub condition_done : (old c1 c2 : List SlotOp) (q : Pointed) → c1 ≡ old ++ part_code p f (length old) (Some q) → c2 ≡ c1 ++ JumpIfZero 0 0 ∷ [] → c2 ≡ old ++ test_code p f (length old) (Some q) 0
  condition_done old c1 c2 q e1 e2 = e2 ∙ ap (λ c. c ++ JumpIfZero 0 0 ∷ []) e1 ∙ append_assoc old (part_code p f (length old) (Some q)) (JumpIfZero 0 0 ∷ [])

  pub init_done : (old c1 c2 c3 c4 : List SlotOp) (x : ℕ) (q : Pointed) (rs : List (Option ℕ)) (r : Option ℕ) → rs ≡ registers_of p f → r ≡ if_register x (register_at rs x)
      → c1 ≡ old ++ Stop q.point ∷ [] → c2 ≡ c1 ++ unless_register r (LocalAddress 0 x ∷ []) → c3 ≡ c2 ++ expr_code p f (length c2) 1 q.e → c4 ≡ c3 ++ write_at p f 0 r (local_type p f x)
      → c4 ≡ old ++ init_code p f (length old) x (Some q)
  init_done old c1 c2 c3 c4 x q rs r ers er e1 e2 e3 e4 =
      let r' : r ≡ if_register x (register_of p f x) = er ∙ ap (λ l. if_register x (register_at l x)) ers in
      let home = λ (z : Option ℕ). unless_register z (LocalAddress 0 x ∷ []) in
      let s = if_register x (register_of p f x) in
      let two : c2 ≡ old ++ Stop q.point ∷ home s = e2 ∙ ap (λ z. c1 ++ home z) r' ∙ ap (λ c. c ++ home s) e1 ∙ append_assoc old (Stop q.point ∷ []) (home s) in
      let four : c4 ≡ c3 ++ write_at p f 0 s (local_type p f x) = e4 ∙ ap (λ z. c3 ++ write_at p f 0 z (local_type p f x)) r' in
      let there : length old + length (Stop q.point ∷ home s) ≡ length old + 1 + length (home s) = omega arith in
      then_two old c2 c3 c4 (Stop q.point ∷ home s) (write_at p f 0 s (local_type p f x)) (λ at. expr_code p f at 1 q.e) two e3 four
      ∙ ap (λ k. old ++ Stop q.point ∷ (home s ++ (expr_code p f k 1 q.e ++ write_at p f 0 s (local_type p f x)))) there

  -- one more local
  pub inits_more : (all c0 c1 : List SlotOp) (locals : List DeclaredLocal) (i : ℕ) (d : DeclaredLocal) → i < length locals → d ≡ get_or locals i d → c0 ++ inits_code p f (length c0) (drop i locals) ≡ all → c1 ≡ c0 ++ init_code p f (length c0) d.local d.init → c1 ++ inits_code p f (length c1) (drop (i + 1) locals) ≡ all
  inits_more all c0 c1 locals i d lt at is e1 =
      let ci = init_code p f (length c0) d.local d.init in
      let rest = drop (suc i) locals in
      let there : length c1 ≡ length c0 + length ci = ap length e1 ∙ length-append c0 ci in
      let next : i + 1 ≡ suc i = omega arith in
      let front : drop i locals ≡ d ∷ rest = drop-cons locals i d lt ∙ ap (λ x. x ∷ rest) (sym at) in
      ap (λ j. c1 ++ inits_code p f (length c1) (drop j locals)) next
      ∙ ap (λ m. c1 ++ inits_code p f m rest) there
      ∙ ap (λ c. c ++ inits_code p f (length c0 + length ci) rest) e1
      ∙ append_assoc c0 ci (inits_code p f (length c0 + length ci) rest)
      ∙ ap (λ r. c0 ++ inits_code p f (length c0) r) (sym front)
      ∙ is
