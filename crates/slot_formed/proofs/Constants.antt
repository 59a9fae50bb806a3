-- The number of a constant expression comes of the numbers of its parts, and a constant expression has no other parts.
use Rattle.std.proofs.Common.{◌≡◌, refl, sym, ap, ℕ, zero, suc, Bool, true, false, ◌||◌, true≢false}
use Rattle.std.specs.Prelude.{Result, Ok, Err, if◌then◌else◌}
use Rattle.ldb_words.specs.declared.kinds.Undef.{Undef}
use Rattle.c_tree.specs.declared.types.CType.{CType}
use Rattle.c_tree.specs.declared.types.CType.TheVariants as ctype
use Rattle.c_tree.specs.declared.typed.BinaryOp.{BinaryOp}
use Rattle.c_tree.specs.declared.typed.BinaryOp.TheVariants.{ShiftLeft, ShiftRight}
use Rattle.c_tree.specs.Types.{is_unsigned}
use Rattle.c_operators.specs.Arithmetic.{operating_type}
use Rattle.c_typing.specs.Plain.{plain, value_type, promoted, common}
use Rattle.c_typing.specs.declared.constant.Constant.{Constant}
use Rattle.c_typing.specs.declared.constant.Constant.TheVariants.{Variable, Undefined, Number}
use Rattle.c_typing.specs.Values as values
use Rattle.c_typing.specs.Values.{defined, with_one, with_two, chosen, works_unsigned}

-- ---- which constants there are

abbrev pub is_constant : Constant → Bool
is_constant Variable = false
is_constant Undefined = true
is_constant (Number n) = true

abbrev has_number : Constant → Bool
has_number Variable = false
has_number Undefined = false
has_number (Number n) = true

abbrev number_in : ℕ → Constant → ℕ
number_in d Variable = d
number_in d Undefined = d
number_in d (Number n) = n

pub no_variable : {B : Type 0} (n : ℕ) → Variable ≡ Number n → B
no_variable n e = absurd (true≢false (sym (ap has_number e)))

pub no_undefined : {B : Type 0} (n : ℕ) → Undefined ≡ Number n → B
no_undefined n e = absurd (true≢false (sym (ap has_number e)))

pub same_number : (m n : ℕ) → Number m ≡ Number n → m ≡ n
same_number m n e = ap (number_in m) e

pub defined_ok : (r : Result ℕ Undef) (n : ℕ) → defined r ≡ Number n → r ≡ Ok n
defined_ok (Ok m) n e = ap Ok (same_number m n e)
defined_ok (Err w) n e = no_undefined n e

-- ---- what a number comes of

pub one_number : (f : ℕ → Constant) (c : Constant) (n : ℕ) → with_one f c ≡ Number n → (m : ℕ) × (c ≡ Number m) × (f m ≡ Number n)
one_number f Variable n e = no_variable n e
one_number f Undefined n e = no_undefined n e
one_number f (Number m) n e = (m, refl, e)

pub two_numbers : (f : ℕ → ℕ → Constant) (a b : Constant) (n : ℕ) → with_two f a b ≡ Number n → (x y : ℕ) × (a ≡ Number x) × (b ≡ Number y) × (f x y ≡ Number n)
two_numbers f Variable b n e = no_variable n e
two_numbers f Undefined Variable n e = no_variable n e
two_numbers f (Number x) Variable n e = no_variable n e
two_numbers f Undefined Undefined n e = no_undefined n e
two_numbers f Undefined (Number y) n e = no_undefined n e
two_numbers f (Number x) Undefined n e = no_undefined n e
two_numbers f (Number x) (Number y) n e = (x, y, refl, refl, e)

-- the part that is evaluated
abbrev pub part_by : ℕ → Constant → Constant → Constant
part_by zero a b = b
part_by (suc m) a b = a

pub chosen_number : (c a b : Constant) (n : ℕ) → chosen c a b ≡ Number n → (m : ℕ) × (c ≡ Number m) × (part_by m a b ≡ Number n)
chosen_number Variable a b n e = no_variable n e
chosen_number Undefined Variable b n e = no_variable n e
chosen_number Undefined Undefined Variable n e = no_variable n e
chosen_number Undefined (Number x) Variable n e = no_variable n e
chosen_number Undefined Undefined Undefined n e = no_undefined n e
chosen_number Undefined Undefined (Number y) n e = no_undefined n e
chosen_number Undefined (Number x) Undefined n e = no_undefined n e
chosen_number Undefined (Number x) (Number y) n e = no_undefined n e
chosen_number (Number m) Variable b n e = no_variable n e
chosen_number (Number m) Undefined Variable n e = no_variable n e
chosen_number (Number m) (Number x) Variable n e = no_variable n e
chosen_number (Number zero) Undefined Undefined n e = (0, refl, e)
chosen_number (Number zero) Undefined (Number y) n e = (0, refl, e)
chosen_number (Number zero) (Number x) Undefined n e = (0, refl, e)
chosen_number (Number zero) (Number x) (Number y) n e = (0, refl, e)
chosen_number (Number (suc m)) Undefined Undefined n e = (suc m, refl, e)
chosen_number (Number (suc m)) Undefined (Number y) n e = (suc m, refl, e)
chosen_number (Number (suc m)) (Number x) Undefined n e = (suc m, refl, e)
chosen_number (Number (suc m)) (Number x) (Number y) n e = (suc m, refl, e)

-- ---- the parts of a constant expression are constant expressions

pub two_constants : (f : ℕ → ℕ → Constant) (a b : Constant) → is_constant (with_two f a b) ≡ true → (is_constant a ≡ true) × (is_constant b ≡ true)
two_constants f Variable b e = absurd (true≢false (sym e))
two_constants f Undefined Variable e = absurd (true≢false (sym e))
two_constants f (Number x) Variable e = absurd (true≢false (sym e))
two_constants f Undefined Undefined e = (refl, refl)
two_constants f Undefined (Number y) e = (refl, refl)
two_constants f (Number x) Undefined e = (refl, refl)
two_constants f (Number x) (Number y) e = (refl, refl)

pub chosen_constants : (c a b : Constant) → is_constant (chosen c a b) ≡ true → (is_constant a ≡ true) × (is_constant b ≡ true)
chosen_constants Variable a b e = absurd (true≢false (sym e))
chosen_constants Undefined Variable b e = absurd (true≢false (sym e))
chosen_constants Undefined Undefined Variable e = absurd (true≢false (sym e))
chosen_constants Undefined (Number x) Variable e = absurd (true≢false (sym e))
chosen_constants (Number m) Variable b e = absurd (true≢false (sym e))
chosen_constants (Number m) Undefined Variable e = absurd (true≢false (sym e))
chosen_constants (Number m) (Number x) Variable e = absurd (true≢false (sym e))
chosen_constants c Undefined Undefined e = (refl, refl)
chosen_constants c Undefined (Number y) e = (refl, refl)
chosen_constants c (Number x) Undefined e = (refl, refl)
chosen_constants c (Number x) (Number y) e = (refl, refl)

-- ---- which operators work on `unsigned`

promoted_unsigned : (t : CType) → values.is_unsigned (promoted (value_type (plain t))) ≡ is_unsigned (if is_unsigned t then ctype.Unsigned else ctype.Int)
promoted_unsigned ctype.Char = refl
promoted_unsigned ctype.Int = refl
promoted_unsigned ctype.Unsigned = refl
promoted_unsigned ctype.Void = refl
promoted_unsigned (ctype.Pointer' b t) = refl
promoted_unsigned (ctype.Array' b t n) = refl
promoted_unsigned (ctype.Struct s) = refl

value_unsigned : (t : CType) → values.is_unsigned (value_type (plain t)) ≡ is_unsigned (if is_unsigned t then ctype.Unsigned else ctype.Int)
value_unsigned ctype.Char = refl
value_unsigned ctype.Int = refl
value_unsigned ctype.Unsigned = refl
value_unsigned ctype.Void = refl
value_unsigned (ctype.Pointer' b t) = refl
value_unsigned (ctype.Array' b t n) = refl
value_unsigned (ctype.Struct s) = refl

common_unsigned : (s t : CType) → values.is_unsigned (common (value_type (plain s)) (value_type (plain t))) ≡ is_unsigned (if is_unsigned s || is_unsigned t then ctype.Unsigned else ctype.Int)
common_unsigned ctype.Char t = promoted_unsigned t
common_unsigned ctype.Int t = promoted_unsigned t
common_unsigned ctype.Unsigned t = refl
common_unsigned ctype.Void t = promoted_unsigned t
common_unsigned (ctype.Pointer' b u) t = promoted_unsigned t
common_unsigned (ctype.Array' b u n) t = promoted_unsigned t
common_unsigned (ctype.Struct s) t = promoted_unsigned t

pub works_same : (o : BinaryOp) (s t : CType) → works_unsigned o (value_type (plain s)) (value_type (plain t)) ≡ is_unsigned (operating_type o s t)
works_same ShiftLeft s t = value_unsigned s
works_same ShiftRight s t = value_unsigned s
works_same _ s t = common_unsigned s t
