-- How many steps printing takes at most.
use Rattle.std.proofs.Common.{◌≡◌, ℕ, zero, suc, ◌+◌, ◌*◌, ◌≤◌, ◌/◌, ◌%◌, ◌^◌, Bool, true, false, nat_lt, if◌then◌else◌, List, [], ◌∷◌, length, map, refl, sym, subst, arith}
use Rattle.ps_store.specs.declared.object.ArrayId.{ArrayId}
use Rattle.ps_store.specs.declared.object.DictId.{DictId}
use Rattle.ps_store.specs.StoreState.{StoreState}
use Rattle.ps_run.specs.Runs.{Operates}
use Rattle.c_tree.specs.declared.types.CType.{CType}
use Rattle.c_tree.specs.declared.types.StructDef.{StructDef}
use Rattle.c_tree.specs.declared.types.Member.{Member}
use Rattle.c_tree.specs.Layout.{members_of}
use Rattle.c_show.specs.Printed.{Showing, byte_of, string_text}
use Rattle.ps_terms.specs.Printing.{Printing}
use Rattle.ps_print.specs.Items.{Thing, items_left, items_steps, behind_member, members_steps}
use Rattle.ps_print.specs.Things.{Tail, Bare, Dangling, Strung, tail_steps, char_thing, pointer_thing, string_thing, struct_thing, last, one, many, digits_steps, minus_steps, below_zero, signed_steps, int_thing, unsigned_thing, array_thing, print_steps, steps_within}
use Rattle.ps_print.specs.Laid.{Laid, an_int, an_unsigned, a_char, a_pointer, a_string, an_array, a_struct, EachLaid, none, unseen, more, MembersLaid, no_member, unseen_members, a_member}

-- 16 for each digit
pub digits_at_most : (f v left : ℕ) → digits_steps f v left ≤ left + 16 * suc f
digits_at_most zero v left = omega arith
digits_at_most (suc f) v left = rest (digits_at_most f (v / 10) (suc (last left))) (nat_lt v 10)
  where
    rest : digits_steps f (v / 10) (suc (last left)) ≤ suc (last left) + 16 * suc f → (b : Bool) → (if b then one left else many (digits_steps f (v / 10) (suc (last left)))) ≤ left + 16 * suc (suc f)
    rest e true = omega arith
    rest e false = omega arith

signed_at_most : (v left : ℕ) → signed_steps v left ≤ left + 172
signed_at_most v left = by_sign (nat_lt v 2147483648)
  where
    by_sign : (b : Bool) → suc (suc (suc (if b then suc (suc (suc (digits_steps 9 v left))) else minus_steps (digits_steps 9 (below_zero v) left)))) ≤ left + 172
    by_sign true = let e = digits_at_most 9 v left in omega arith
    by_sign false = let e = digits_at_most 9 (below_zero v) left in omega arith

-- for each item that is shown, at a depth
abbrev pub item_cost : ℕ → ℕ
item_cost zero = 202
item_cost (suc k) = item_cost k + 123

cost_is : (k : ℕ) → item_cost k ≡ 202 + 123 * k
cost_is zero = refl
cost_is (suc k) = let e = cost_is k in omega arith

pub record AtMost (c r : ℕ) (i : Thing) : Type 0 where
  pub steps : (left : ℕ) → i.steps (suc r) left + c * i.room (suc r) ≤ left + c * suc r
  pub takes : i.room (suc r) ≤ r

int_at_most : (v c r : ℕ) → 202 ≤ c → AtMost c r (int_thing v)
int_at_most v c r h = record {
  steps = λ left. let e = signed_at_most v (suc (suc left)) in omega arith;
  takes = omega arith;
}

unsigned_at_most : (v c r : ℕ) → 202 ≤ c → AtMost c r (unsigned_thing v)
unsigned_at_most v c r h = record {
  steps = λ left. let e = digits_at_most 9 v (suc (suc left)) in omega arith;
  takes = omega arith;
}

-- a value that takes so many steps and one item
one_at_most : (c r : ℕ) (i : Thing) → 202 ≤ c → ((left : ℕ) → i.steps (suc r) left ≤ left + 202) → i.room (suc r) ≡ r → AtMost c r i
one_at_most c r i h f g = record {
  steps = λ left. let e = f left in subst (λ q. i.steps (suc r) left + c * q ≤ left + c * suc r) (sym g) (omega arith);
  takes = omega arith;
}

tail_at_most : (tail : Tail) (left : ℕ) → tail_steps tail left ≤ left + 24
tail_at_most Bare left = omega arith
tail_at_most Dangling left = omega arith
tail_at_most Strung left = omega arith

char_at_most : (text : List ℕ) (c r : ℕ) → 202 ≤ c → AtMost c r (char_thing text)
char_at_most text c r h = one_at_most c r (char_thing text) h (λ left. omega arith) refl

pointer_at_most : (tail : Tail) (text : List ℕ) (c r : ℕ) → 202 ≤ c → AtMost c r (pointer_thing tail text)
pointer_at_most tail text c r h = one_at_most c r (pointer_thing tail text) h (λ left. let e = tail_at_most tail left in omega arith) refl

string_at_most : (text : List ℕ) (c r : ℕ) → 202 ≤ c → AtMost c r (string_thing text)
string_at_most text c r h = one_at_most c r (string_thing text) h (λ left. omega arith) refl

cost_some : (k : ℕ) → 202 ≤ item_cost k
cost_some zero = omega arith
cost_some (suc k) = let e = cost_some k in omega arith

-- items one after another, where there is so much room
pub record AllAtMost (c room : ℕ) (is : List Thing) : Type 0 where
  pub steps : (left : ℕ) → items_steps is room left + (c + 55) * items_left is room ≤ left + (c + 55) * room + 24
  pub takes : items_left is room ≤ room

none_at_most : (c room : ℕ) → AllAtMost c room []
none_at_most c room = record { steps = λ left. omega arith; takes = omega arith }

unseen_at_most : (c : ℕ) (is : List Thing) → AllAtMost c 0 is
unseen_at_most c [] = none_at_most c 0
unseen_at_most c (i ∷ is) = record { steps = λ left. omega arith; takes = omega arith }

more_at_most : (c r : ℕ) (i : Thing) (is : List Thing) → AtMost c r i → AllAtMost c (i.room (suc r)) is → AllAtMost c (suc r) (i ∷ is)
more_at_most c r i is a b = record { steps = steps; takes = let x = a.takes in let y = b.takes in omega arith }
  where
    steps : (left : ℕ) → items_steps (i ∷ is) (suc r) left + (c + 55) * items_left (i ∷ is) (suc r) ≤ left + (c + 55) * suc r + 24
    steps left =
        let r' : ℕ = i.room (suc r) in
        let rest : items_steps is r' left + (c + 55) * items_left is r' ≤ left + (c + 55) * r' + 24 = b.steps left in
        let here = a.steps (suc (suc (suc (suc (suc (suc (suc (suc (suc (suc (suc (suc (suc (suc (suc (suc (suc (suc (suc (suc (suc (suc (suc (suc (suc (suc (suc (suc (items_steps is r' left))))))))))))))))))))))))))))) in
        let less : r' ≤ r = a.takes in
        omega arith

-- where something is shown there is less room behind it
abbrev TakesOne : ℕ → List Thing → Type 0
TakesOne room is = (r : ℕ) → room ≡ suc r → items_left is room ≤ r

list_at_most : (c r : ℕ) (is : List Thing) → AllAtMost c (suc r) is → TakesOne (suc r) is → AtMost (c + 123) r (array_thing is)
list_at_most c r is a t = record {
  steps = λ left. let e = a.steps (suc (suc left)) in let f = t r refl in omega arith;
  takes = t r refl;
}

-- members one after another
pub record MembersAtMost (c room : ℕ) (is : List Thing) : Type 0 where
  pub steps : (left : ℕ) → members_steps is room left + (c + 62) * items_left is room ≤ left + (c + 62) * room + 26
  pub takes : items_left is room ≤ room

no_member_at_most : (c room : ℕ) → MembersAtMost c room []
no_member_at_most c room = record { steps = λ left. omega arith; takes = omega arith }

unseen_members_at_most : (c : ℕ) (is : List Thing) → MembersAtMost c 0 is
unseen_members_at_most c [] = no_member_at_most c 0
unseen_members_at_most c (i ∷ is) = record { steps = λ left. omega arith; takes = omega arith }

more_members_at_most : (c r : ℕ) (i : Thing) (is : List Thing) → AtMost c r i → MembersAtMost c (i.room (suc r)) is → MembersAtMost c (suc r) (i ∷ is)
more_members_at_most c r i is a b = record { steps = steps; takes = let x = a.takes in let y = b.takes in omega arith }
  where
    steps : (left : ℕ) → members_steps (i ∷ is) (suc r) left + (c + 62) * items_left (i ∷ is) (suc r) ≤ left + (c + 62) * suc r + 26
    steps left =
        let r' : ℕ = i.room (suc r) in
        let rest : members_steps is r' left + (c + 62) * items_left is r' ≤ left + (c + 62) * r' + 26 = b.steps left in
        let here = a.steps (behind_member (members_steps is r' left)) in
        let less : r' ≤ r = a.takes in
        omega arith

struct_at_most : (c r : ℕ) (is : List Thing) → MembersAtMost c (suc r) is → TakesOne (suc r) is → AtMost (c + 123) r (struct_thing is)
struct_at_most c r is a t = record {
  steps = λ left. let e = a.steps (suc (suc left)) in let f = t r refl in omega arith;
  takes = t r refl;
}

module _ {D : Type 0} (Op : Operates D) (prints : Printing Op) (s first : StoreState) (d : D) (space : List ℕ) (defs : List StructDef) where
  mutual
    pub laid_at_most : (k r : ℕ) (t : CType) (type : DictId) (place : ℕ) (xs : List Showing) (i : Thing) → Laid Op prints s first d space defs k r t type place xs i → AtMost (item_cost k) r i
    laid_at_most _ _ _ _ _ _ _ (an_int k r type place v h kind known) = int_at_most v (item_cost k) r (cost_some k)
    laid_at_most _ _ _ _ _ _ _ (an_unsigned k r type place v h kind known) = unsigned_at_most v (item_cost k) r (cost_some k)
    laid_at_most _ _ _ _ _ _ _ (a_char k r type place n x kind known told) = char_at_most (prints.char_text n) (item_cost k) r (cost_some k)
    laid_at_most _ _ _ _ _ _ _ (a_pointer k r b t type target kind place n x text tail its to its_kind known shows told) = pointer_at_most tail text (item_cost k) r (cost_some k)
    laid_at_most _ _ _ _ _ _ _ (a_string k r b n type item kind place xs e len a to count ik lies) = string_at_most (string_text (map byte_of xs)) (item_cost (suc k)) r (cost_some (suc k))
    laid_at_most _ _ _ _ _ _ _ (a_struct k r number type members e place xs is its has many l2 l3 l4 ms) =
        let all = members_at_most k (suc r) (members_of defs number) members 0 place xs is ms in struct_at_most (item_cost k) r is all.0 (all.1 l4)
    laid_at_most _ _ _ _ _ _ _ (an_array k r b t n type item kind size place xs is c e a to count ik sized l1 l2 l3 l4 ls) =
        let all = each_at_most k (suc r) t item size n place xs is ls in list_at_most (item_cost k) r is all.0 (all.1 l4)

    each_at_most : (k room : ℕ) (t : CType) (item : DictId) (size n place : ℕ) (xs : List Showing) (is : List Thing) → EachLaid Op prints s first d space defs k room t item size n place xs is
        → AllAtMost (item_cost k) room is × (1 ≤ n → TakesOne room is)
    each_at_most _ _ _ _ _ _ _ _ _ (none k room t item size place) = (none_at_most (item_cost k) room, λ h. absurd (omega arith))
    each_at_most _ _ _ _ _ _ _ _ _ (unseen k t item size n place xs is many) = (unseen_at_most (item_cost k) is, λ h r e. absurd (omega arith))
    each_at_most _ _ _ _ _ _ _ _ _ (more k r t item size n place xs ys i is l ls) =
        let a = laid_at_most k r t item place xs i l in
        let b = each_at_most k (i.room (suc r)) t item size n ((size + place) % 2 ^ 32) ys is ls in
        (more_at_most (item_cost k) r i is a b.0, λ h r' e. let x = a.takes in let y = (b.0).takes in omega arith)

    members_at_most : (k room : ℕ) (ms : List Member) (members : ArrayId) (i place : ℕ) (xs : List Showing) (is : List Thing) → MembersLaid Op prints s first d space defs k room ms members i place xs is
        → MembersAtMost (item_cost k) room is × (1 ≤ length is → TakesOne room is)
    members_at_most _ _ _ _ _ _ _ _ (no_member k room members i place) = (no_member_at_most (item_cost k) room, λ h. absurd (omega arith))
    members_at_most _ _ _ _ _ _ _ _ (unseen_members k m ms members i place xs is many) = (unseen_members_at_most (item_cost k) is, λ h r e. absurd (omega arith))
    members_at_most _ _ _ _ _ _ _ _ (a_member k r m ms members i place offset type xs ys thing is at l ls) =
        let a = laid_at_most k r m.ctype type ((place + offset) % 2 ^ 32) xs thing l in
        let b = members_at_most k (thing.room (suc r)) ms members (suc i) place ys is ls in
        (more_members_at_most (item_cost k) r thing is a b.0, λ h r' e. let x = a.takes in let y = (b.0).takes in omega arith)

  -- a whole value takes at most so many steps for each of at most 1,000 items
  pub print_within : (k : ℕ) (t : CType) (type : DictId) (place : ℕ) (xs : List Showing) (i : Thing) (left : ℕ) → Laid Op prints s first d space defs k 999 t type place xs i → print_steps i left ≤ left + steps_within k
  print_within k t type place xs i left l = let a = laid_at_most k 999 t type place xs i l in let e = a.steps (suc left) in let f = cost_is k in omega arith

  -- at most 7,951 of the deepest type
  pub print_at_most : (t : CType) (type : DictId) (place : ℕ) (xs : List Showing) (i : Thing) (left : ℕ) → Laid Op prints s first d space defs 63 999 t type place xs i → print_steps i left ≤ left + 7951006
  print_at_most = print_within 63
