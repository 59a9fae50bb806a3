-- Which locals are in registers, and the rows of a program's code.
use Rattle.std.proofs.Common.{◌≡◌, refl, sym, ap, subst, ◌∙◌, arith, ℕ, suc, zero, ◌+◌, ◌<◌, ◌≤◌, List, [], ◌∷◌, length, Bool, true, false, ◌&&◌, Option, Some, None, slice_get, drop, ◌⊎◌, inl, inr, ⊎_elim}
use Rattle.std.specs.Prelude.{if◌then◌else◌, nat_lt}
use Rattle.c_tree.specs.declared.types.StructDef.{StructDef}
use Rattle.c_tree.specs.declared.rows.Program.{Program}
use Rattle.c_tree.specs.declared.rows.Function.{Function}
use Rattle.c_tree.specs.declared.rows.Local.{Local}
use Rattle.slot_gen.specs.Expressions.{wants_register, registers_from, register_at}
use Rattle.slot_ir.specs.declared.code.Home.TheVariants.{Register}
use Rattle.slot_ir.specs.declared.code.SlotLocal.{SlotLocal}
use Rattle.slot_ir.specs.WellFormed.{HaveOwnRegisters}
use Rattle.slot_formed.specs.Code.{home_of, local_row, local_rows, function_row, function_rows, struct_rows}
use Rattle.slot_formed.proofs.Lists.{no_none, some_same, and_parts}

lower : (n : ℕ) → nat_lt n 8 ≡ true → n < 8
lower n h = grind arith

-- a local in a register
abbrev pub InRegister : List Local → (x r : ℕ) → Type 0
InRegister ls x r = (l : Local) × (slice_get ls x ≡ Some l) × (wants_register l ≡ true) × (r < 8)

first_row : (l : Local) (ls : List Local) (n r : ℕ) (A B : List (Option ℕ)) (b : Bool) → (wants_register l && nat_lt n 8) ≡ b → register_at (if b then Some n ∷ A else None ∷ B) 0 ≡ Some r → InRegister (l ∷ ls) 0 r
first_row l ls n r A B true g e = let q = and_parts (wants_register l) (nat_lt n 8) g in (l, refl, q.0, subst (λ m. m < 8) (some_same n r e) (lower n q.1))
first_row l ls n r A B false g e = no_none r e

later_row : (n x r : ℕ) (A B : List (Option ℕ)) (b : Bool) → register_at (if b then Some n ∷ A else None ∷ B) (suc x) ≡ Some r → (register_at A x ≡ Some r) ⊎ (register_at B x ≡ Some r)
later_row n x r A B true e = inl e
later_row n x r A B false e = inr e

later_local : (l : Local) (ls : List Local) (x r : ℕ) → InRegister ls x r → InRegister (l ∷ ls) (suc x) r
later_local l ls x r q = q

either_row : (l : Local) (ls : List Local) (x r : ℕ) (P Q : Type 0) → P ⊎ Q → (P → InRegister ls x r) → (Q → InRegister ls x r) → InRegister (l ∷ ls) (suc x) r
either_row l ls x r P Q (inl q) f g = later_local l ls x r (f q)
either_row l ls x r P Q (inr q) f g = later_local l ls x r (g q)

pub register_there : (ls : List Local) (n x r : ℕ) → register_at (registers_from ls n) x ≡ Some r → InRegister ls x r
register_there [] n x r e = no_none r e
register_there (l ∷ ls) n zero r e = first_row l ls n r (registers_from ls (suc n)) (registers_from ls n) (wants_register l && nat_lt n 8) refl e
register_there (l ∷ ls) n (suc x) r e =
    either_row l ls x r (register_at (registers_from ls (suc n)) x ≡ Some r) (register_at (registers_from ls n) x ≡ Some r)
    (later_row n x r (registers_from ls (suc n)) (registers_from ls n) (wants_register l && nat_lt n 8) e)
    (λ q. register_there ls (suc n) x r q) (λ q. register_there ls n x r q)

-- ---- no register twice

from_on : (l : Local) (ls : List Local) (n x r : ℕ) → register_at (registers_from ls n) x ≡ Some r → n ≤ r
from_on l [] n x r e = no_none r e
from_on l (k ∷ ls) n zero r e = by (wants_register k && nat_lt n 8) e
  where
    by : (b : Bool) → register_at (if b then Some n ∷ registers_from ls (suc n) else None ∷ registers_from ls n) 0 ≡ Some r → n ≤ r
    by true e = subst (λ m. n ≤ m) (some_same n r e) (omega arith)
    by false e = no_none r e
from_on l (k ∷ ls) n (suc x) r e =
    ⊎_elim (λ q. let h = from_on k ls (suc n) x r q in omega (arith, h)) (λ q. from_on k ls n x r q)
    (later_row n x r (registers_from ls (suc n)) (registers_from ls n) (wants_register k && nat_lt n 8) e)

first_alone : (l : Local) (ls : List Local) (n y r : ℕ) (b : Bool) → register_at (if b then Some n ∷ registers_from ls (suc n) else None ∷ registers_from ls n) 0 ≡ Some r
    → register_at (if b then Some n ∷ registers_from ls (suc n) else None ∷ registers_from ls n) (suc y) ≡ Some r → ⊥
first_alone l ls n y r true e g =
    let h = from_on l ls (suc n) y r g in
    let same : n ≡ r = some_same n r e in
    absurd (omega (arith, h, same))
first_alone l ls n y r false e g = no_none r e

own_both : (l : Local) (ls : List Local) (n x y r : ℕ) (b : Bool) → ((m : ℕ) → register_at (registers_from ls m) x ≡ Some r → register_at (registers_from ls m) y ≡ Some r → x ≡ y)
    → register_at (if b then Some n ∷ registers_from ls (suc n) else None ∷ registers_from ls n) (suc x) ≡ Some r
    → register_at (if b then Some n ∷ registers_from ls (suc n) else None ∷ registers_from ls n) (suc y) ≡ Some r → suc x ≡ suc y
own_both l ls n x y r true go e g = ap suc (go (suc n) e g)
own_both l ls n x y r false go e g = ap suc (go n e g)

own_register : (ls : List Local) (n x y r : ℕ) → register_at (registers_from ls n) x ≡ Some r → register_at (registers_from ls n) y ≡ Some r → x ≡ y
own_register [] n x y r e g = no_none r e
own_register (l ∷ ls) n zero zero r e g = refl
own_register (l ∷ ls) n zero (suc y) r e g = absurd (first_alone l ls n y r (wants_register l && nat_lt n 8) e g)
own_register (l ∷ ls) n (suc x) zero r e g = absurd (first_alone l ls n x r (wants_register l && nat_lt n 8) g e)
own_register (l ∷ ls) n (suc x) (suc y) r e g = own_both l ls n x y r (wants_register l && nat_lt n 8) (λ m. own_register ls m x y r) e g

-- ---- rows

pub next_register : (rs : List (Option ℕ)) (x : ℕ) → register_at (drop 1 rs) x ≡ register_at rs (suc x)
next_register [] x = refl
next_register (r ∷ rs) x = refl

pub local_there : (defs : List StructDef) (ls : List Local) (rs : List (Option ℕ)) (x : ℕ) (l : Local) → slice_get ls x ≡ Some l → slice_get (local_rows defs ls rs) x ≡ Some (local_row defs l (register_at rs x))
local_there defs [] rs x l e = no_none l e
local_there defs (k ∷ ls) rs zero l e = ap (λ y. Some (local_row defs y (register_at rs 0))) (some_same k l e)
local_there defs (k ∷ ls) rs (suc x) l e = local_there defs ls (drop 1 rs) x l e ∙ ap (λ r. Some (local_row defs l r)) (next_register rs x)

home_is : (o : Option ℕ) (r : ℕ) → home_of o ≡ Register r → o ≡ Some r
home_is None r e = absurd (cc e)
home_is (Some q) r e = let same : q ≡ r = cc in ap Some same

register_of_row : (defs : List StructDef) (ls : List Local) (rs : List (Option ℕ)) (x r : ℕ) (l : SlotLocal) → slice_get (local_rows defs ls rs) x ≡ Some l → l.home ≡ Register r → register_at rs x ≡ Some r
register_of_row defs [] rs x r l e h = no_none l e
register_of_row defs (k ∷ ls) rs zero r l e h = home_is (register_at rs 0) r (ap (λ (s : SlotLocal). s.home) (some_same (local_row defs k (register_at rs 0)) l e) ∙ h)
register_of_row defs (k ∷ ls) rs (suc x) r l e h = sym (next_register rs x) ∙ register_of_row defs ls (drop 1 rs) x r l e h

pub own_registers : (defs : List StructDef) (ls : List Local) → HaveOwnRegisters (local_rows defs ls (registers_from ls 0))
own_registers defs ls = λ x y r l k e g h i.
    own_register ls 0 x y r (register_of_row defs ls (registers_from ls 0) x r l e h) (register_of_row defs ls (registers_from ls 0) y r k g i)

pub locals_length : (defs : List StructDef) (ls : List Local) (rs : List (Option ℕ)) → length (local_rows defs ls rs) ≡ length ls
locals_length defs [] rs = refl
locals_length defs (l ∷ ls) rs = ap suc (locals_length defs ls (drop 1 rs))

pub structs_length : (defs : List StructDef) (s : ℕ) (ds : List StructDef) → length (struct_rows defs s ds) ≡ length ds
structs_length defs s [] = refl
structs_length defs s (d ∷ ds) = ap suc (structs_length defs (suc s) ds)

rows_from : (p : Program) (n : ℕ) (fs : List Function) (i : ℕ) (h : Function) → slice_get fs i ≡ Some h → slice_get (function_rows p n fs) i ≡ Some (function_row p (i + n) h)
rows_from p n [] i h e = no_none h e
rows_from p n (g ∷ fs) zero h e = let z : n ≡ 0 + n = omega arith in ap (λ y. Some (function_row p n y)) (some_same g h e) ∙ ap (λ m. Some (function_row p m h)) z
rows_from p n (g ∷ fs) (suc i) h e = let z : i + suc n ≡ suc i + n = omega arith in rows_from p (suc n) fs i h e ∙ ap (λ m. Some (function_row p m h)) z

pub row_there : (p : Program) (i : ℕ) (h : Function) → slice_get p.functions i ≡ Some h → slice_get (function_rows p 0 p.functions) i ≡ Some (function_row p i h)
row_there p i h e = let z : i + 0 ≡ i = omega arith in rows_from p 0 p.functions i h e ∙ ap (λ m. Some (function_row p m h)) z
