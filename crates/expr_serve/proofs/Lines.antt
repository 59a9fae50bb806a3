-- The text of an expression stands on one line.
use Rattle.std.proofs.Common.{◌≡◌, ◌≢◌, refl, subst, ap, ℕ, ℤ, zero, suc, pos, negsuc, ◌+◌, ◌/◌, ◌%◌, ◌^◌, Bool, true, false, not, ◌&&◌, ◌==◌, nat_lt, if◌then◌else◌, List, [], ◌∷◌, ◌++◌, codes, slice_get, Option, Some, None, arith}
use Rattle.std.proofs.lemmas.Bool.{and_parts, and_from, ne_eqb}
use Rattle.std.specs.List.{list_all}
use Rattle.std.specs.Fmt.{digit_glyph, digits_onto, digits, decimal, signed_decimal}
use Rattle.c_tree.specs.declared.types.CType.{CType}
use Rattle.c_tree.specs.declared.types.CType.TheVariants.{Char, Int, Unsigned, Void, Pointer', Array', Struct}
use Rattle.c_tree.specs.declared.types.StructDef.{StructDef}
use Rattle.c_tree.specs.declared.types.Member.{Member}
use Rattle.c_tree.specs.declared.typed.BinaryOp.{BinaryOp}
use Rattle.c_tree.specs.declared.typed.BinaryOp.TheVariants as binary
use Rattle.c_tree.specs.declared.typed.UnaryOp.{UnaryOp}
use Rattle.c_tree.specs.declared.typed.UnaryOp.TheVariants as unary
use Rattle.c_tree.specs.declared.typed.Typed.{Typed}
use Rattle.c_tree.specs.declared.typed.Typed.TheVariants.{Comma', Assign', Choice', Or', And', Binary', Cast', Before', Address', Follow', Unary', SizeOf', SizeOfType, Index', Call', Dot', Arrow', After', Name, Constant, Literal, Parens'}
use Rattle.c_tree.specs.Types.{type_of, target_of, is_unsigned, is_array, is_struct}
use Rattle.c_operators.specs.Arithmetic.{operating_type}
use Rattle.c_judge.specs.declared.symbol.Symbol.{Symbol}
use Rattle.c_judge.specs.declared.check.Mode.{Mode}
use Rattle.c_judge.specs.declared.check.Mode.TheVariants as mode
use Rattle.ps_text.specs.Code.{Code, Stop, Num, Word, Lit, Text, Proc, render}
use Rattle.ps_emit.specs.Terms.{◌⋯◌, word, integer, number}
use Rattle.expr_serve.specs.declared.emit.Standing.{Standing}
use Rattle.expr_serve.specs.declared.emit.Standing.TheVariants.{Named, Pointed}
use Rattle.expr_serve.specs.Texts.{IsLine}
use Rattle.expr_serve.specs.Types.{bytes_of, ended, type_code, row_code, each_row, filled_struct, filled_structs}
use Rattle.expr_serve.specs.Literals.{is_part, in_digits, literal}
use Rattle.expr_serve.specs.Operators.{on_ints, on_unsigned, on_integers, on_pointers, on_one, by_zero, conversion, kind}
use Rattle.expr_serve.specs.Codes.{standing_of, near, far, further, bytes_by, halved, beyond, large_items, signed_items, unsigned_items, by_items, place_of_name, address_of, fetched, value_at, by_standing, place_further, as_spot, live_scalar, offset_of, offset_behind, all_leaves, live_leaves, live_struct, on_pointer, on_two_pointers, by_targets, on_two, value_code, place_code, spot_code, struct_code, whole_code, copying_code, setting_code, assignment_code, code_of, text_of}

abbrev is_line : List ℕ → Bool
is_line [] = true
is_line (b ∷ bs) = not (b == 10) && is_line bs

-- the words and names of a piece have no line feed
abbrev lined : Code → Bool
lined Stop = true
lined (Num i rest) = lined rest
lined (Word name rest) = is_line name && lined rest
lined (Lit name rest) = is_line name && lined rest
lined (Text [] rest) = lined rest
lined (Text (b ∷ bs) rest) = false
lined (Proc body rest) = lined body && lined rest

abbrev IsLined : Code → Type 0
IsLined k = lined k ≡ true

-- ---- bytes

other : (b : ℕ) → (b ≡ 10 → ⊥) → not (b == 10) ≡ true
other b h = ap not (ne_eqb b 10 h)

not_ten : (b : ℕ) → not (b == 10) ≡ true → b ≢ 10
not_ten b p e = let q : not (10 == 10) ≡ true = subst (λ n. not (n == 10) ≡ true) e p in cc

stands : (text : List ℕ) → is_line text ≡ true → IsLine text
stands [] p = tt
stands (b ∷ bs) p = let h = and_parts (not (b == 10)) (is_line bs) p in (not_ten b h.0, stands bs h.1)

append_line : (a b : List ℕ) → is_line a ≡ true → is_line b ≡ true → is_line (a ++ b) ≡ true
append_line [] b p q = q
append_line (x ∷ xs) b p q = let h = and_parts (not (x == 10)) (is_line xs) p in and_from (not (x == 10)) (is_line (xs ++ b)) h.0 (append_line xs b h.1 q)

one_of : (b : Bool) (x y : List ℕ) → is_line x ≡ true → is_line y ≡ true → is_line (if b then x else y) ≡ true
one_of true x y p q = p
one_of false x y p q = q

-- ---- numbers

glyph_not : (b : Bool) (d : ℕ) → (if b then 48 + d else 87 + d) ≡ 10 → ⊥
glyph_not true d e = omega (arith, e)
glyph_not false d e = omega (arith, e)

glyph_line : (d : ℕ) → not (digit_glyph false d == 10) ≡ true
glyph_line d = other (digit_glyph false d) (glyph_not (nat_lt d 10) d)

onto_line : (k n : ℕ) (acc : List ℕ) → is_line acc ≡ true → is_line (digits_onto k 10 false n acc) ≡ true
onto_line zero n acc p = p
onto_line (suc k) n acc p =
    let more : List ℕ = digit_glyph false (n % 10) ∷ acc in
    let g : is_line more ≡ true = and_from (not (digit_glyph false (n % 10) == 10)) (is_line acc) (glyph_line (n % 10)) p in
    one_of (n / 10 == 0) more (digits_onto k 10 false (n / 10) more) g (onto_line k (n / 10) more g)

decimal_line : (n : ℕ) → is_line (decimal n) ≡ true
unfolding digits
decimal_line n = onto_line 64 n [] refl

number_line : (i : ℤ) → is_line (signed_decimal i) ≡ true
number_line (pos n) = decimal_line n
number_line (negsuc n) = decimal_line (suc n)

-- ---- pieces

render_line : (k : Code) → IsLined k → is_line (render k) ≡ true
render_line Stop p = refl
render_line (Num i rest) p = append_line (signed_decimal i) (32 ∷ render rest) (number_line i) (render_line rest p)
render_line (Word name rest) p = let h = and_parts (is_line name) (lined rest) p in append_line name (32 ∷ render rest) h.0 (render_line rest h.1)
render_line (Lit name rest) p = let h = and_parts (is_line name) (lined rest) p in append_line name (32 ∷ render rest) h.0 (render_line rest h.1)
render_line (Text [] rest) p = render_line rest p
render_line (Text (b ∷ bs) rest) p = cc
render_line (Proc body rest) p = let h = and_parts (lined body) (lined rest) p in append_line (render body) (125 ∷ 32 ∷ render rest) (render_line body h.0) (render_line rest h.1)

join : (a b : Code) → IsLined a → IsLined b → IsLined (a ⋯ b)
join Stop b p q = q
join (Num i rest) b p q = join rest b p q
join (Word name rest) b p q = let h = and_parts (is_line name) (lined rest) p in and_from (is_line name) (lined (rest ⋯ b)) h.0 (join rest b h.1 q)
join (Lit name rest) b p q = let h = and_parts (is_line name) (lined rest) p in and_from (is_line name) (lined (rest ⋯ b)) h.0 (join rest b h.1 q)
join (Text [] rest) b p q = join rest b p q
join (Text (x ∷ xs) rest) b p q = cc
join (Proc body rest) b p q = let h = and_parts (lined body) (lined rest) p in and_from (lined body) (lined (rest ⋯ b)) h.0 (join rest b h.1 q)

either : (b : Bool) (x y : Code) → IsLined x → IsLined y → IsLined (if b then x else y)
either true x y p q = p
either false x y p q = q

-- ---- literal names

part_line : (b : ℕ) → is_part b ≡ true → not (b == 10) ≡ true
part_line b p = other b (λ e. let q : is_part 10 ≡ true = subst (λ n. is_part n ≡ true) e p in cc)

name_line : (name : List ℕ) → list_all is_part name ≡ true → is_line name ≡ true
name_line [] p = refl
name_line (b ∷ bs) p = let h = and_parts (is_part b) (list_all is_part bs) p in and_from (not (b == 10)) (is_line bs) (part_line b h.0) (name_line bs h.1)

digits_line : (bs : List ℕ) → is_line (in_digits bs) ≡ true
digits_line [] = refl
digits_line (b ∷ bs) =
    and_from (not (digit_glyph false (b / 16) == 10)) (is_line (digit_glyph false (b % 16) ∷ in_digits bs)) (glyph_line (b / 16))
    (and_from (not (digit_glyph false (b % 16) == 10)) (is_line (in_digits bs)) (glyph_line (b % 16)) (digits_line bs))

by_part : (b : Bool) (name : List ℕ) → list_all is_part name ≡ b → IsLined (if b then Lit name Stop else Word (60 ∷ (in_digits name ++ 62 ∷ [])) (word "cvn"))
by_part true name e = and_from (is_line name) true (name_line name e) refl
by_part false name e = and_from (is_line (60 ∷ (in_digits name ++ 62 ∷ []))) true (append_line (in_digits name) (62 ∷ []) (digits_line name) refl) refl

literal_lined : (name : List ℕ) → IsLined (literal name)
literal_lined name = by_part (list_all is_part name) name refl

-- ---- operators

ints_lined : (op : BinaryOp) → IsLined (on_ints op)
ints_lined binary.BitOr = refl
ints_lined binary.BitXor = refl
ints_lined binary.BitAnd = refl
ints_lined binary.Equal = refl
ints_lined binary.Unequal = refl
ints_lined binary.Less = refl
ints_lined binary.Greater = refl
ints_lined binary.LessEqual = refl
ints_lined binary.GreaterEqual = refl
ints_lined binary.ShiftLeft = refl
ints_lined binary.ShiftRight = refl
ints_lined binary.Add = refl
ints_lined binary.Subtract = refl
ints_lined binary.Multiply = refl
ints_lined binary.Divide = refl
ints_lined binary.Remainder = refl

unsigned_lined : (op : BinaryOp) → IsLined (on_unsigned op)
unsigned_lined binary.BitOr = refl
unsigned_lined binary.BitXor = refl
unsigned_lined binary.BitAnd = refl
unsigned_lined binary.Equal = refl
unsigned_lined binary.Unequal = refl
unsigned_lined binary.Less = refl
unsigned_lined binary.Greater = refl
unsigned_lined binary.LessEqual = refl
unsigned_lined binary.GreaterEqual = refl
unsigned_lined binary.ShiftLeft = refl
unsigned_lined binary.ShiftRight = refl
unsigned_lined binary.Add = refl
unsigned_lined binary.Subtract = refl
unsigned_lined binary.Multiply = refl
unsigned_lined binary.Divide = refl
unsigned_lined binary.Remainder = refl

pointers_lined : (op : BinaryOp) → IsLined (on_pointers op)
pointers_lined binary.BitOr = refl
pointers_lined binary.BitXor = refl
pointers_lined binary.BitAnd = refl
pointers_lined binary.Equal = refl
pointers_lined binary.Unequal = refl
pointers_lined binary.Less = refl
pointers_lined binary.Greater = refl
pointers_lined binary.LessEqual = refl
pointers_lined binary.GreaterEqual = refl
pointers_lined binary.ShiftLeft = refl
pointers_lined binary.ShiftRight = refl
pointers_lined binary.Add = refl
pointers_lined binary.Subtract = refl
pointers_lined binary.Multiply = refl
pointers_lined binary.Divide = refl
pointers_lined binary.Remainder = refl

integers_lined : (op : BinaryOp) (s t : CType) → IsLined (on_integers op s t)
integers_lined op s t = either (is_unsigned (operating_type op s t)) (on_unsigned op) (on_ints op) (unsigned_lined op) (ints_lined op)

one_lined : (op : UnaryOp) (t : CType) → IsLined (on_one op t)
one_lined unary.Plus t = refl
one_lined unary.Minus t = either (is_unsigned t) (integer (pos 0) ⋯ word "exch" ⋯ word "usub") (word "ineg") refl refl
one_lined unary.Complement t = refl
one_lined unary.Not t = refl

conversion_lined : (t : CType) → IsLined (conversion t)
conversion_lined Char = refl
conversion_lined Int = refl
conversion_lined Unsigned = refl
conversion_lined Void = refl
conversion_lined (Pointer' b t) = refl
conversion_lined (Array' b t n) = refl
conversion_lined (Struct s) = refl

kind_lined : (t : CType) → IsLined (kind t)
kind_lined Char = refl
kind_lined Int = refl
kind_lined Unsigned = refl
kind_lined Void = refl
kind_lined (Pointer' b t) = refl
kind_lined (Array' b t n) = refl
kind_lined (Struct s) = refl

zero_lined : (x y : Code) → IsLined x → IsLined y → IsLined (by_zero x y)
zero_lined x y p q = and_from (lined x) (lined y && true) p (and_from (lined y) true q refl)

-- ---- pointers and places

further_lined : (n : ℕ) → IsLined (further n)
further_lined n = either (nat_lt n (2 ^ 31)) (near n) (far n) refl refl

large_lined : (is_back : Bool) (size : ℕ) → IsLined (large_items is_back size)
large_lined is_back size = either (size == 1) (halved (bytes_by is_back 1) (bytes_by is_back 2)) beyond refl refl

items_lined : (is_back : Bool) (size : ℕ) (t : CType) → IsLined (by_items is_back size t)
items_lined is_back size t =
    either (is_unsigned t && nat_lt 0 size) (unsigned_items is_back size) (signed_items is_back size) (and_from (lined (large_items is_back size)) true (large_lined is_back size) refl) refl

address_lined : (s : Standing) → IsLined (address_of s)
address_lined Named = refl
address_lined Pointed = refl

fetched_lined : (s : Standing) (t : CType) → IsLined (fetched s t)
fetched_lined Named t = join (kind t) (word "fetch") (kind_lined t) refl
fetched_lined Pointed t =
    join (kind t ⋯ word "Leaf") (kind t ⋯ word "fetch") (join (kind t) (word "Leaf") (kind_lined t) refl) (join (kind t) (word "fetch") (kind_lined t) refl)

at_lined : (s : Standing) (t : CType) → IsLined (value_at s t)
at_lined s t = either (is_array t) (address_of s) (fetched s t) (address_lined s) (fetched_lined s t)

place_further_lined : (s : Standing) (at : ℕ) → IsLined (place_further s at)
place_further_lined Named at = refl
place_further_lined Pointed at = further_lined at

as_spot_lined : (s : Standing) → IsLined (as_spot s)
as_spot_lined Named = refl
as_spot_lined Pointed = refl

scalar_lined : (s : Standing) (t : CType) → IsLined (live_scalar s t)
scalar_lined Named t = refl
scalar_lined Pointed t = join (kind t) (word "Leaf" ⋯ word "pop" ⋯ word "pop") (kind_lined t) refl

place_of_name_lined : (x : Option Symbol) → IsLined (place_of_name x)
place_of_name_lined None = refl
place_of_name_lined (Some x) = join (literal x.name) (word "Where") (literal_lined x.name) refl

module _ (defs : List StructDef) where
  type_lined : (t : CType) → IsLined (type_code defs t)
  type_lined Char = refl
  type_lined Int = refl
  type_lined Unsigned = refl
  type_lined Void = refl
  type_lined (Pointer' b t) = refl
  type_lined (Array' b t n) = join (type_code defs t) (word ">>") (type_lined t) refl
  type_lined (Struct s) = refl

  rows_lined : (ms : List Member) → IsLined (each_row defs ms)
  rows_lined [] = refl
  rows_lined (m ∷ ms) = join (row_code defs m) (each_row defs ms) (join (type_code defs m.ctype) (word "]") (type_lined m.ctype) refl) (rows_lined ms)

  structs_lined : (s : ℕ) (ds : List StructDef) → IsLined (filled_structs defs s ds)
  structs_lined s [] = refl
  structs_lined s (d ∷ ds) =
      join (filled_struct defs s d) (filled_structs defs (suc s) ds) (join (each_row defs d.members) (word "]" ⋯ word "put") (rows_lined d.members) refl) (structs_lined (suc s) ds)

  leaves_lined : (t : CType) → IsLined (all_leaves defs t)
  leaves_lined Char = refl
  leaves_lined Int = refl
  leaves_lined Unsigned = refl
  leaves_lined Void = refl
  leaves_lined (Pointer' b t) = refl
  leaves_lined (Array' b t n) = refl
  leaves_lined (Struct s) = join (filled_structs defs 0 defs) (number s ⋯ ended) (structs_lined 0 defs) refl

  live_leaves_lined : (is_below : Bool) (t : CType) → IsLined (live_leaves defs is_below t)
  live_leaves_lined true t = join (all_leaves defs t) (word "pop" ⋯ word "pop") (leaves_lined t) refl
  live_leaves_lined false t = join (all_leaves defs t) (word "pop" ⋯ word "pop") (leaves_lined t) refl

  live_lined : (s : Standing) (is_below : Bool) (t : CType) → IsLined (live_struct defs s is_below t)
  live_lined Named is_below t = refl
  live_lined Pointed is_below t = live_leaves_lined is_below t

  pointer_lined : (op : BinaryOp) (item t : CType) → IsLined (on_pointer defs op item t)
  pointer_lined binary.BitOr item t = refl
  pointer_lined binary.BitXor item t = refl
  pointer_lined binary.BitAnd item t = refl
  pointer_lined binary.Equal item t = refl
  pointer_lined binary.Unequal item t = refl
  pointer_lined binary.Less item t = refl
  pointer_lined binary.Greater item t = refl
  pointer_lined binary.LessEqual item t = refl
  pointer_lined binary.GreaterEqual item t = refl
  pointer_lined binary.ShiftLeft item t = refl
  pointer_lined binary.ShiftRight item t = refl
  pointer_lined binary.Add item t = items_lined false (bytes_of defs item) t
  pointer_lined binary.Subtract item t = items_lined true (bytes_of defs item) t
  pointer_lined binary.Multiply item t = refl
  pointer_lined binary.Divide item t = refl
  pointer_lined binary.Remainder item t = refl

  two_pointers_lined : (op : BinaryOp) (item : CType) → IsLined (on_two_pointers defs op item)
  two_pointers_lined binary.BitOr item = refl
  two_pointers_lined binary.BitXor item = refl
  two_pointers_lined binary.BitAnd item = refl
  two_pointers_lined binary.Equal item = refl
  two_pointers_lined binary.Unequal item = refl
  two_pointers_lined binary.Less item = refl
  two_pointers_lined binary.Greater item = refl
  two_pointers_lined binary.LessEqual item = refl
  two_pointers_lined binary.GreaterEqual item = refl
  two_pointers_lined binary.ShiftLeft item = refl
  two_pointers_lined binary.ShiftRight item = refl
  two_pointers_lined binary.Add item = refl
  two_pointers_lined binary.Subtract item = refl
  two_pointers_lined binary.Multiply item = refl
  two_pointers_lined binary.Divide item = refl
  two_pointers_lined binary.Remainder item = refl

  targets_lined : (op : BinaryOp) (s t : CType) (a b : Option CType) → IsLined (by_targets defs op s t a b)
  targets_lined op s t None None = integers_lined op s t
  targets_lined op s t (Some a) None = pointer_lined op a t
  targets_lined op s t None (Some b) = pointer_lined op b s
  targets_lined op s t (Some a) (Some b) = two_pointers_lined op a

  two_lined : (op : BinaryOp) (s t : CType) → IsLined (on_two defs op s t)
  two_lined op s t = targets_lined op s t (target_of s) (target_of t)

-- ---- expressions

module _ (names : List Symbol) (defs : List StructDef) where
  pair_lined : (a b : Typed) (op : BinaryOp) → IsLined (value_code names defs a) → IsLined (value_code names defs b) → IsLined (value_code names defs a ⋯ value_code names defs b ⋯ on_two defs op (type_of a) (type_of b))
  pair_lined a b op p q =
      join (value_code names defs a) (value_code names defs b ⋯ on_two defs op (type_of a) (type_of b)) p
      (join (value_code names defs b) (on_two defs op (type_of a) (type_of b)) q (two_lined defs op (type_of a) (type_of b)))

  dot_lined : (a : Typed) (m : ℕ) → IsLined (place_code names defs a) → IsLined (place_code names defs a ⋯ place_further (standing_of a) (offset_of defs (type_of a) m))
  dot_lined a m p = join (place_code names defs a) (place_further (standing_of a) (offset_of defs (type_of a) m)) p (place_further_lined (standing_of a) (offset_of defs (type_of a) m))

  arrow_lined : (a : Typed) (m : ℕ) → IsLined (value_code names defs a) → IsLined (value_code names defs a ⋯ further (offset_behind defs (target_of (type_of a)) m))
  arrow_lined a m p = join (value_code names defs a) (further (offset_behind defs (target_of (type_of a)) m)) p (further_lined (offset_behind defs (target_of (type_of a)) m))

  mutual
    value_lined : (e : Typed) → IsLined (value_code names defs e)
    value_lined (Comma' h x a y b) = join (value_code names defs a) (word "pop" ⋯ value_code names defs b) (value_lined a) (value_lined b)
    value_lined (Choice' h x c y a z b) =
        join (value_code names defs c) (by_zero (value_code names defs b ⋯ conversion h.ctype) (value_code names defs a ⋯ conversion h.ctype)) (value_lined c)
        (zero_lined (value_code names defs b ⋯ conversion h.ctype) (value_code names defs a ⋯ conversion h.ctype)
        (join (value_code names defs b) (conversion h.ctype) (value_lined b) (conversion_lined h.ctype))
        (join (value_code names defs a) (conversion h.ctype) (value_lined a) (conversion_lined h.ctype)))
    value_lined (Or' h x a y b) =
        join (value_code names defs a) (by_zero (value_code names defs b ⋯ by_zero (integer (pos 0)) (integer (pos 1))) (integer (pos 1))) (value_lined a)
        (zero_lined (value_code names defs b ⋯ by_zero (integer (pos 0)) (integer (pos 1))) (integer (pos 1))
        (join (value_code names defs b) (by_zero (integer (pos 0)) (integer (pos 1))) (value_lined b) refl) refl)
    value_lined (And' h x a y b) =
        join (value_code names defs a) (by_zero (integer (pos 0)) (value_code names defs b ⋯ by_zero (integer (pos 0)) (integer (pos 1)))) (value_lined a)
        (zero_lined (integer (pos 0)) (value_code names defs b ⋯ by_zero (integer (pos 0)) (integer (pos 1))) refl
        (join (value_code names defs b) (by_zero (integer (pos 0)) (integer (pos 1))) (value_lined b) refl))
    value_lined (Binary' h x a op y b) = pair_lined a b op (value_lined a) (value_lined b)
    value_lined (Cast' h x a) = join (value_code names defs a) (conversion h.ctype) (value_lined a) (conversion_lined h.ctype)
    value_lined (Address' h x a) = join (place_code names defs a) (address_of (standing_of a)) (place_lined a) (address_lined (standing_of a))
    value_lined (Unary' h op x a) = join (value_code names defs a) (on_one op (type_of a)) (value_lined a) (one_lined op (type_of a))
    value_lined (SizeOf' h x a) = refl
    value_lined (SizeOfType h t) = refl
    value_lined (Constant h n) = refl
    value_lined (Parens' h x a) = value_lined a
    value_lined (Name h n) = join (place_of_name (slice_get names n)) (value_at Named h.ctype) (place_of_name_lined (slice_get names n)) (at_lined Named h.ctype)
    value_lined (Follow' h x a) = join (value_code names defs a) (value_at Pointed h.ctype) (value_lined a) (at_lined Pointed h.ctype)
    value_lined (Index' h x a y b) =
        join (value_code names defs a ⋯ value_code names defs b ⋯ on_two defs binary.Add (type_of a) (type_of b)) (value_at Pointed h.ctype) (pair_lined a b binary.Add (value_lined a) (value_lined b)) (at_lined Pointed h.ctype)
    value_lined (Dot' h x a m) =
        join (place_code names defs a ⋯ place_further (standing_of a) (offset_of defs (type_of a) m)) (value_at (standing_of a) h.ctype) (dot_lined a m (place_lined a)) (at_lined (standing_of a) h.ctype)
    value_lined (Arrow' h x a m) =
        join (value_code names defs a ⋯ further (offset_behind defs (target_of (type_of a)) m)) (value_at Pointed h.ctype) (arrow_lined a m (value_lined a)) (at_lined Pointed h.ctype)
    value_lined (Assign' h x a op y b) = refl
    value_lined (Before' h op x a) = refl
    value_lined (Call' h n x row) = refl
    value_lined (After' h x a op) = refl
    value_lined (Literal h n) = refl

    place_lined : (e : Typed) → IsLined (place_code names defs e)
    place_lined (Name h n) = place_of_name_lined (slice_get names n)
    place_lined (Follow' h x a) = value_lined a
    place_lined (Index' h x a y b) = pair_lined a b binary.Add (value_lined a) (value_lined b)
    place_lined (Dot' h x a m) = dot_lined a m (place_lined a)
    place_lined (Arrow' h x a m) = arrow_lined a m (value_lined a)
    place_lined (Parens' h x a) = place_lined a
    place_lined (Comma' h x a y b) = refl
    place_lined (Assign' h x a op y b) = refl
    place_lined (Choice' h x c y a z b) = refl
    place_lined (Or' h x a y b) = refl
    place_lined (And' h x a y b) = refl
    place_lined (Binary' h x a op y b) = refl
    place_lined (Cast' h x a) = refl
    place_lined (Before' h op x a) = refl
    place_lined (Address' h x a) = refl
    place_lined (Unary' h op x a) = refl
    place_lined (SizeOf' h x a) = refl
    place_lined (SizeOfType h t) = refl
    place_lined (Call' h n x row) = refl
    place_lined (After' h x a op) = refl
    place_lined (Constant h n) = refl
    place_lined (Literal h n) = refl

  spot_lined : (e : Typed) → IsLined (spot_code names defs e)
  spot_lined e = join (place_code names defs e) (as_spot (standing_of e)) (place_lined e) (as_spot_lined (standing_of e))

  standing_leaves : (s : Standing) (t : CType) → IsLined (by_standing s Stop (all_leaves defs t))
  standing_leaves Named t = refl
  standing_leaves Pointed t = leaves_lined defs t

  struct_lined : (e : Typed) → IsLined (struct_code names defs e)
  struct_lined e = join (place_code names defs e) (by_standing (standing_of e) Stop (all_leaves defs (type_of e))) (place_lined e) (standing_leaves (standing_of e) (type_of e))

  whole_lined : (e : Typed) → IsLined (whole_code names defs e)
  whole_lined e = either (is_struct (type_of e)) (struct_code names defs e) (value_code names defs e) (struct_lined e) (value_lined e)

  copying_lined : (a b : Typed) → IsLined (copying_code names defs a b)
  copying_lined a b =
      let of_a : Code = live_struct defs (standing_of a) true (type_of a) in
      let of_b : Code = live_struct defs (standing_of b) false (type_of b) in
      join (spot_code names defs a) (spot_code names defs b ⋯ of_a ⋯ of_b) (spot_lined a)
      (join (spot_code names defs b) (of_a ⋯ of_b) (spot_lined b) (join of_a of_b (live_lined defs (standing_of a) true (type_of a)) (live_lined defs (standing_of b) false (type_of b))))

  setting_lined : (a b : Typed) → IsLined (setting_code names defs a b)
  setting_lined a b =
      let live : Code = live_scalar (standing_of a) (type_of a) in
      join (spot_code names defs a) (value_code names defs b ⋯ conversion (type_of a) ⋯ live) (spot_lined a)
      (join (value_code names defs b) (conversion (type_of a) ⋯ live) (value_lined b) (join (conversion (type_of a)) live (conversion_lined (type_of a)) (scalar_lined (standing_of a) (type_of a))))

  assignment_lined : (e : Typed) → IsLined (assignment_code names defs e)
  assignment_lined (Assign' h x a None y b) = either (is_struct (type_of a)) (copying_code names defs a b) (setting_code names defs a b) (copying_lined a b) (setting_lined a b)
  assignment_lined (Assign' h x a (Some op) y b) = refl
  assignment_lined (Comma' h x a y b) = refl
  assignment_lined (Choice' h x c y a z b) = refl
  assignment_lined (Or' h x a y b) = refl
  assignment_lined (And' h x a y b) = refl
  assignment_lined (Binary' h x a op y b) = refl
  assignment_lined (Cast' h x a) = refl
  assignment_lined (Before' h op x a) = refl
  assignment_lined (Address' h x a) = refl
  assignment_lined (Follow' h x a) = refl
  assignment_lined (Unary' h op x a) = refl
  assignment_lined (SizeOf' h x a) = refl
  assignment_lined (SizeOfType h t) = refl
  assignment_lined (Index' h x a y b) = refl
  assignment_lined (Call' h n x row) = refl
  assignment_lined (Dot' h x a m) = refl
  assignment_lined (Arrow' h x a m) = refl
  assignment_lined (After' h x a op) = refl
  assignment_lined (Name h n) = refl
  assignment_lined (Constant h n) = refl
  assignment_lined (Literal h n) = refl
  assignment_lined (Parens' h x a) = refl

  code_lined : (m : Mode) (e : Typed) → IsLined (code_of names defs m e)
  code_lined mode.Value e = whole_lined e
  code_lined mode.Assign e = assignment_lined e

  -- so does the whole text
  pub text_line : (m : Mode) (e : Typed) → IsLine (text_of names defs m e)
  text_line m e =
      let piece : Code = Proc (code_of names defs m e) Stop in
      stands (render piece ++ codes "exec") (append_line (render piece) (codes "exec") (render_line piece (and_from (lined (code_of names defs m e)) true (code_lined m e) refl)) refl)
