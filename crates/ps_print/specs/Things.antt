-- Integers and arrays as things, and the steps that showing them takes.
use Rattle.std.specs.Prelude.{ℕ, zero, suc, ◌+◌, ◌*◌, ◌-◌, ◌/◌, ◌%◌, ◌^◌, nat_lt, if◌then◌else◌, List, [], ◌++◌, codes, decimal}
use Rattle.std.specs.Fmt.{signed_decimal}
use Rattle.ps_terms.specs.Printing.{word}
use Rattle.ps_terms.specs.Printing.{further}
use Rattle.ps_print.specs.Items.{Thing, items_text, items_left, items_steps, members_steps, less}

-- the steps for the last digit, for a number of one digit, and for one of more
abbrev pub last : ℕ → ℕ
last left = suc (further 2 (suc (suc left)))

abbrev pub one : ℕ → ℕ
one left = further 2 (suc (further 3 (further 5 (last left))))

abbrev pub many : ℕ → ℕ
many left = further 2 (suc (further 3 (further 4 left)))

-- with at most f more digits than one
abbrev pub digits_steps : ℕ → ℕ → ℕ → ℕ
digits_steps zero v left = one left
digits_steps (suc f) v left = if nat_lt v 10 then one left else many (digits_steps f (v / 10) (further 1 (last left)))

abbrev pub minus_steps : ℕ → ℕ
minus_steps left = further 3 (suc (further 2 (suc (further 1 left))))

-- the magnitude of the integer with a pattern
abbrev pub below_zero : ℕ → ℕ
below_zero v = (0 + 2 ^ 32 - v) % 2 ^ 32

abbrev pub signed_steps : ℕ → ℕ → ℕ
signed_steps v left = further 3 (if nat_lt v 2147483648 then further 3 (digits_steps 9 v left) else minus_steps (digits_steps 9 (below_zero v) left))

abbrev pub showint_steps : ℕ → ℕ → ℕ
showint_steps v left = further 2 (suc (further 1 (signed_steps v (further 2 left))))

-- an integer
abbrev pub int_thing : ℕ → Thing
int_thing v = record { text = λ r. signed_decimal (word v); room = less; steps = λ r left. further 2 (suc (further 20 (showint_steps v left))) }

-- an unsigned number
abbrev pub showunsigned_steps : ℕ → ℕ → ℕ
showunsigned_steps v left = further 2 (suc (further 1 (digits_steps 9 v (further 2 left))))

abbrev pub unsigned_thing : ℕ → Thing
unsigned_thing v = record { text = λ r. decimal v; room = less; steps = λ r left. further 2 (suc (further 26 (showunsigned_steps v left))) }

-- a character
abbrev pub showchar_steps : ℕ → ℕ
showchar_steps left = further 2 (suc (suc (further 2 left)))

abbrev pub char_thing : List ℕ → Thing
char_thing text = record { text = λ r. text; room = less; steps = λ r left. further 2 (suc (further 30 (showchar_steps left))) }

-- What follows a pointer's text: nothing where it leads to no characters, or to none that is live, and else their string.
pub data Tail : Type 0 where
  Bare Dangling Strung : Tail

abbrev pub tail_steps : Tail → ℕ → ℕ
tail_steps Bare left = further 4 (further 2 left)
tail_steps Dangling left = further 3 (further 1 (suc (further 3 (further 5 (further 2 left)))))
tail_steps Strung left = further 3 (further 1 (suc (further 3 (further 3 (further 1 (suc (further 4 (suc (further 2 left)))))))))

abbrev pub showpointer_steps : Tail → ℕ → ℕ
showpointer_steps tail left = further 4 (suc (further 1 (suc (further 2 (suc (further 1 (suc (further 2 (tail_steps tail left)))))))))

abbrev pub pointer_thing : Tail → List ℕ → Thing
pointer_thing tail text = record { text = λ r. text; room = less; steps = λ r left. further 2 (suc (further 30 (showpointer_steps tail left))) }

-- an array of characters
abbrev pub string_steps : ℕ → ℕ
string_steps left = further 2 (suc (further 1 (suc (further 2 (further 3 (further 1 (suc (suc (further 2 left)))))))))

abbrev pub string_thing : List ℕ → Thing
string_thing text = record { text = λ r. text; room = less; steps = λ r left. further 2 (suc (further 8 (string_steps left))) }

-- an array of no characters
abbrev pub list_steps : List Thing → ℕ → ℕ → ℕ
list_steps is r left = further 2 (suc (further 1 (suc (further 2 (further 4 (suc (further 6 (suc (further 4 (suc (further 1 (items_steps is r (further 1 (suc left))))))))))))))

abbrev pub array_thing : List Thing → Thing
array_thing is = record {
  text = λ r. codes "{" ++ items_text [] is r ++ codes "}";
  room = items_left is;
  steps = λ r left. further 2 (suc (further 8 (list_steps is r left)));
}

-- a struct
abbrev pub struct_steps : List Thing → ℕ → ℕ → ℕ
struct_steps is r left = further 1 (suc (further 1 (suc (further 12 (members_steps is r (further 1 (suc left)))))))

abbrev pub struct_thing : List Thing → Thing
struct_thing is = record {
  text = λ r. codes "{" ++ items_text [] is r ++ codes "}";
  room = items_left is;
  steps = λ r left. further 2 (suc (further 14 (struct_steps is r left)));
}

-- a whole value
abbrev pub print_steps : Thing → ℕ → ℕ
print_steps i left = further 5 (i.steps 1000 (further 1 left))

-- the most steps for a value of a type that is at most k arrays and structs deep: 1,000 items are shown
abbrev pub steps_within : ℕ → ℕ
steps_within k = 1000 * (202 + 123 * k) + 6
