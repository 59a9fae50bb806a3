-- Code that is emitted piece by piece.
use Rattle.std.proofs.Common.{◌≡◌, ◌+◌, List, ◌∷◌, ◌++◌, length, sym, ap, ◌∙◌, arith, append_assoc, length-append}
use Rattle.std.proofs.lemmas.List.{append-nil}
use Rattle.std.specs.Prelude.{ℕ, suc, [], Result, Ok, Err, OnOk, Option, Some, None, Bool, if◌then◌else◌, option_map}
use Rattle.c_tree.specs.declared.types.CType.{CType}
use Rattle.c_tree.specs.declared.typed.BinaryOp.{BinaryOp}
use Rattle.c_tree.specs.declared.rows.Program.{Program}
use Rattle.c_tree.specs.declared.rows.SymbolRow.{SymbolRow}
use Rattle.c_tree.specs.Types.{kind_of}
use Rattle.ldb_words.specs.declared.kinds.Kind.{Kind}
use Rattle.slot_ir.specs.declared.code.Access.{Access}
use Rattle.slot_ir.specs.declared.code.SlotOp.{SlotOp}
use Rattle.slot_ir.specs.declared.code.SlotOp.TheVariants.{Jump, JumpIfZero, Load, Store, ReadRegister, WriteRegister, Take}
use Rattle.slot_gen.specs.Expressions.{choice_code, name_code, enter_code, call_code, referent_code, access_of, cast_code, combine_op, update_code, change_code}

-- a piece, and one that depends on its place
pub then_code : (old c1 c2 a : List SlotOp) (g : ℕ → List SlotOp) → c1 ≡ old ++ a → c2 ≡ c1 ++ g (length c1) → c2 ≡ old ++ (a ++ g (length old + length a))
then_code old c1 c2 a g e q =
    q
    ∙ ap (λ c. c ++ g (length c)) e
    ∙ ap (λ n. (old ++ a) ++ g n) (length-append old a)
    ∙ append_assoc old a (g (length old + length a))

-- three pieces
pub then_two : (old c1 c2 c3 a last : List SlotOp) (g : ℕ → List SlotOp) → c1 ≡ old ++ a → c2 ≡ c1 ++ g (length c1) → c3 ≡ c2 ++ last → c3 ≡ old ++ (a ++ (g (length old + length a) ++ last))
then_two old c1 c2 c3 a last g e q r =
    r
    ∙ ap (λ c. c ++ last) (then_code old c1 c2 a g e q)
    ∙ append_assoc old (a ++ g (length old + length a)) last
    ∙ ap (λ l. old ++ l) (append_assoc a (g (length old + length a)) last)

-- a choice whose two jumps are written at its end
pub choice_done : (old new1 new2 before a b : List SlotOp) (x y : SlotOp) (test over end d target : ℕ)
    → ((before' rest : List SlotOp) (z : SlotOp) → old ≡ before' ++ z ∷ rest → length before' ≡ test → new1 ≡ before' ++ JumpIfZero d target ∷ rest)
    → ((before' rest : List SlotOp) (z : SlotOp) → new1 ≡ before' ++ z ∷ rest → length before' ≡ over → new2 ≡ before' ++ Jump end ∷ rest)
    → target ≡ over + 1 → end ≡ length old
    → old ≡ before ++ x ∷ (a ++ y ∷ b) → length before ≡ test → test + 1 + length a ≡ over
    → new2 ≡ before ++ choice_code test d a b
choice_done old new1 new2 before a b x y test over end d target first second t e is at there =
    let one = first before (a ++ y ∷ b) x is at in
    let j1 = JumpIfZero d target in
    let front = before ++ j1 ∷ a in
    let one' : new1 ≡ front ++ y ∷ b = one ∙ sym (append_assoc before (j1 ∷ a) (y ∷ b)) in
    let l : length front ≡ over = omega (arith, length-append before (j1 ∷ a)) in
    let two = second front b y one' l in
    let n : end ≡ test + 1 + length a + 1 + length b = omega (arith, ap length is, length-append before (x ∷ (a ++ y ∷ b)), length-append a (y ∷ b)) in
    let m : target ≡ test + 1 + length a + 1 = omega arith in
    two
    ∙ append_assoc before (j1 ∷ a) (Jump end ∷ b)
    ∙ ap (λ k. before ++ JumpIfZero d k ∷ (a ++ Jump end ∷ b)) m
    ∙ ap (λ k. before ++ JumpIfZero d (test + 1 + length a + 1) ∷ (a ++ Jump k ∷ b)) n

-- a fact that follows where there was memory
pub on_ok : {A E : Type 0} (r : Result A E) (P Q : Type 0) → (P → Q) → OnOk r P → OnOk r Q
on_ok (Ok x) P Q f h = f h
on_ok (Err e) P Q f h = tt

-- ---- names

pub name_none : (old : List SlotOp) (p : Program) (f d : ℕ) (o : Option SymbolRow) → None ≡ o → old ≡ old ++ name_code p f d o
name_none old p f d o e = sym (ap (λ x. old ++ name_code p f d x) (sym e) ∙ append-nil old)

pub name_some : (old new : List SlotOp) (p : Program) (f d : ℕ) (o : Option SymbolRow) (row : SymbolRow) → Some row ≡ o → new ≡ old ++ referent_code d row.refers → new ≡ old ++ name_code p f d o
name_some old new p f d o row e h = h ∙ ap (λ x. old ++ name_code p f d x) e

pub enter_none : (old : List SlotOp) (d n : ℕ) (o : Option SymbolRow) → None ≡ o → old ≡ old ++ enter_code d o n
enter_none old d n o e = sym (ap (λ x. old ++ enter_code d x n) (sym e) ∙ append-nil old)

pub enter_some : (old new : List SlotOp) (d n : ℕ) (o : Option SymbolRow) (row : SymbolRow) → Some row ≡ o → new ≡ old ++ call_code d row.refers row.name n → new ≡ old ++ enter_code d o n
enter_some old new d n o row e h = h ∙ ap (λ x. old ++ enter_code d x n) e

-- ---- operators on two operands

pub combine_done : (p : Program) (old new : List SlotOp) (o : SlotOp) (d r : ℕ) (op : BinaryOp) (s t : CType) → r ≡ d + 1 → o ≡ combine_op p d d r op s t → new ≡ old ++ o ∷ [] → new ≡ old ++ combine_op p d d (suc d) op s t ∷ []
combine_done p old new o d r op s t er eo e =
    let r' : r ≡ suc d = omega arith in
    e ∙ ap (λ x. old ++ x ∷ []) (eo ∙ ap (λ k. combine_op p d d k op s t) r')

five : (old c1 c2 c3 c4 c5 cast : List SlotOp) (a b s t : SlotOp) → c1 ≡ old ++ a ∷ [] → c2 ≡ c1 ++ b ∷ [] → c3 ≡ c2 ++ cast → c4 ≡ c3 ++ s ∷ [] → c5 ≡ c4 ++ t ∷ [] → c5 ≡ old ++ a ∷ b ∷ (cast ++ s ∷ t ∷ [])
five old c1 c2 c3 c4 c5 cast a b s t e1 e2 e3 e4 e5 =
    let all : c5 ≡ ((((old ++ a ∷ []) ++ b ∷ []) ++ cast) ++ s ∷ []) ++ t ∷ [] = cc in
    let flat : ((((old ++ a ∷ []) ++ b ∷ []) ++ cast) ++ s ∷ []) ++ t ∷ [] ≡ old ++ a ∷ b ∷ (cast ++ s ∷ t ∷ []) = simp append_assoc in
    all ∙ flat

-- a compound assignment, whose two temporaries are the next ones
pub update_done : (p : Program) (f d v w from : ℕ) (t : CType) (op : BinaryOp) (s : CType) (new : Bool) (old c1 c2 c3 c4 c5 : List SlotOp) (o : SlotOp) (k : Kind) (a : Access)
    → k ≡ kind_of t → a ≡ access_of t → v ≡ d + 1 → w ≡ v + 1 → from ≡ (if new then v else w) → o ≡ combine_op p v w v op t s
    → c1 ≡ old ++ Load w d k a ∷ [] → c2 ≡ c1 ++ o ∷ [] → c3 ≡ c2 ++ cast_code v t → c4 ≡ c3 ++ Store d v k ∷ [] → c5 ≡ c4 ++ Take d from ∷ []
    → c5 ≡ old ++ update_code p f d t op s new
update_done p f d v w from t op s new old c1 c2 c3 c4 c5 o k a ek ea ev ew ef eo e1 e2 e3 e4 e5 =
    let v' : v ≡ suc d = omega arith in
    let w' : w ≡ suc (suc d) = omega arith in
    let code = λ (i j : ℕ) (l : Kind) (m : Access) (z : SlotOp) (g : ℕ). Load j d l m ∷ z ∷ (cast_code i t ++ Store d i l ∷ Take d g ∷ []) in
    five old c1 c2 c3 c4 c5 (cast_code v t) (Load w d k a) o (Store d v k) (Take d from) e1 e2 e3 e4 e5
    ∙ ap (λ z. old ++ code v w k a z from) eo
    ∙ ap (λ z. old ++ code v w k a (combine_op p v w v op t s) z) ef
    ∙ ap (λ l. old ++ code v w l a (combine_op p v w v op t s) (if new then v else w)) ek
    ∙ ap (λ m. old ++ code v w (kind_of t) m (combine_op p v w v op t s) (if new then v else w)) ea
    ∙ ap (λ i. old ++ code i w (kind_of t) (access_of t) (combine_op p i w i op t s) (if new then i else w)) v'
    ∙ ap (λ j. old ++ code (suc d) j (kind_of t) (access_of t) (combine_op p (suc d) j (suc d) op t s) (if new then suc d else j)) w'

-- a compound assignment, whose two temporaries are the next ones
pub change_done : (p : Program) (f d x v w from : ℕ) (t : CType) (op : BinaryOp) (s : CType) (new : Bool) (old c1 c2 c3 c4 c5 : List SlotOp) (o : SlotOp) (k : Kind) (a : Access)
    → k ≡ kind_of t → a ≡ access_of t → v ≡ d + 1 → w ≡ v + 1 → from ≡ (if new then v else w) → o ≡ combine_op p v w v op t s
    → c1 ≡ old ++ ReadRegister w x k a ∷ [] → c2 ≡ c1 ++ o ∷ [] → c3 ≡ c2 ++ cast_code v t → c4 ≡ c3 ++ WriteRegister v x k ∷ [] → c5 ≡ c4 ++ Take d from ∷ []
    → c5 ≡ old ++ change_code p f d x t op s new
change_done p f d x v w from t op s new old c1 c2 c3 c4 c5 o k a ek ea ev ew ef eo e1 e2 e3 e4 e5 =
    let v' : v ≡ suc d = omega arith in
    let w' : w ≡ suc (suc d) = omega arith in
    let code = λ (i j : ℕ) (l : Kind) (m : Access) (z : SlotOp) (g : ℕ). ReadRegister j x l m ∷ z ∷ (cast_code i t ++ WriteRegister i x l ∷ Take d g ∷ []) in
    five old c1 c2 c3 c4 c5 (cast_code v t) (ReadRegister w x k a) o (WriteRegister v x k) (Take d from) e1 e2 e3 e4 e5
    ∙ ap (λ z. old ++ code v w k a z from) eo
    ∙ ap (λ z. old ++ code v w k a (combine_op p v w v op t s) z) ef
    ∙ ap (λ l. old ++ code v w l a (combine_op p v w v op t s) (if new then v else w)) ek
    ∙ ap (λ m. old ++ code v w (kind_of t) m (combine_op p v w v op t s) (if new then v else w)) ea
    ∙ ap (λ i. old ++ code i w (kind_of t) (access_of t) (combine_op p i w i op t s) (if new then i else w)) v'
    ∙ ap (λ j. old ++ code (suc d) j (kind_of t) (access_of t) (combine_op p (suc d) j (suc d) op t s) (if new then suc d else j)) w'
