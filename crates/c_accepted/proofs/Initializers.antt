-- What initializers of a text give: lists in braces, and numbers that are words.
use Rattle.std.proofs.Common.{subst, sym, ℕ, zero, suc, ◌+◌, ◌-◌, ◌*◌, ◌<◌, ◌^◌, Bool, true, false, ◌&&◌, ◌==◌, List, [], ◌∷◌, ◌++◌, length, map, replicate, drop, bytes_eq, Option, Some, None, lit<}
use Rattle.std.specs.Prelude.{if◌then◌else◌}
use Rattle.std.specs.List.{AllByRecursion}
use Rattle.c_trees.specs.Expressions.{Tree}
use Rattle.c_trees.specs.Initializers.{InitialTree, Value, Braces, Item}
use Rattle.c_tree.specs.declared.types.StructDef.{StructDef}
use Rattle.c_tree.specs.declared.types.Member.{Member}
use Rattle.c_tree.specs.declared.rows.ObjectRow.{ObjectRow}
use Rattle.c_tree.specs.Layout.{members_of}
use Rattle.c_typing.specs.Plain.{Plain, Char, Int, Unsigned, Void, Pointer, Array, Struct, plain}
use Rattle.c_typing.specs.declared.constant.Constant.{Constant}
use Rattle.c_typing.specs.declared.constant.Constant.TheVariants.{Variable, Undefined, Number}
use Rattle.c_defs.specs.Depths.{deepest}
use Rattle.c_defs.specs.Leaves.{leaf_count}
use Rattle.c_judge.specs.Answers.{Known, Unknown, Broken}
use Rattle.c_judge.specs.Judgement.{Verdict, judged}
use Rattle.c_scope.specs.Environment.{Environment, scope_of}
use Rattle.c_scope.specs.Declarators.{constant}
use Rattle.c_initial.specs.Initials.{Spot, spot, text_of, number, number_in, count_of, part_of}
use Rattle.c_initial.specs.Begins.{Begin, Bits, Within, Text, zeros, zeros_of_members, rest, behind_items, bits_of, character, characters, spot_begin, address_begin, value_begins, strings_of, items_begin, begins_of}
use Rattle.c_initial.specs.Filled as filled
use Rattle.c_linkage.specs.Names.{Defining}
use Rattle.c_file.specs.Files.{State}
use Rattle.c_linkage.specs.Wanted.{Started}
use Rattle.c_file.specs.Made.{Each, IsObjectOf, object_type, started, begins_in}
use Rattle.c_accepted.specs.Sources.{AreWords, IsInitializer, AreItems}
use Rattle.c_accepted.proofs.Starting.{IsWordStart}
use Rattle.c_accepted.proofs.Runs.{all_both}
use Rattle.c_accepted.proofs.OperatorWords.{byte_small}
use Rattle.c_accepted.proofs.JudgedWords.{IsWordVerdict, judged_word}

-- ---- their form

mutual
  pub initializer_formed : (i : InitialTree) → IsInitializer i → filled.IsInitial i
  initializer_formed (Value e) h = tt
  initializer_formed (Braces at) h = absurd h
  initializer_formed (Item i j) h = (items_formed i h.0, initializer_formed j h.1)

  items_formed : (i : InitialTree) → AreItems i → filled.IsList i
  items_formed (Value e) h = absurd h
  items_formed (Braces at) h = tt
  items_formed (Item i j) h = (items_formed i h.0, initializer_formed j h.1)

-- ---- their numbers

abbrev IsWordBegin : Begin → Type 0
IsWordBegin (Bits n) = n < 2 ^ 32
IsWordBegin _ = Unit {0}

abbrev pub HaveWordBegins : List Begin → Type 0
HaveWordBegins bs = AllByRecursion IsWordBegin bs

both_words : (bs cs : List Begin) → HaveWordBegins bs → HaveWordBegins cs → HaveWordBegins (bs ++ cs)
both_words bs cs h k = all_both IsWordBegin bs cs h k

zeros_words : (n : ℕ) → HaveWordBegins (replicate n (Bits 0))
zeros_words zero = tt
zeros_words (suc n) = (lit< tt, zeros_words n)

members_words : (defs : List StructDef) (ms : List Member) → HaveWordBegins (zeros_of_members defs ms)
members_words defs [] = tt
members_words defs (m ∷ ms) = both_words (zeros defs (plain m.ctype)) (zeros_of_members defs ms) (zeros_words (leaf_count defs deepest (plain m.ctype))) (members_words defs ms)

rest_words : (defs : List StructDef) (t : Plain) (k : ℕ) → HaveWordBegins (rest defs t k)
rest_words defs (Array t n) k = zeros_words ((n - k) * leaf_count defs deepest t)
rest_words defs (Struct s) k = members_words defs (drop k (members_of defs s))
rest_words defs _ k = tt

behind_words : (defs : List StructDef) (t : Plain) (i : InitialTree) → HaveWordBegins (behind_items defs t i)
behind_words defs t (Value e) = tt
behind_words defs t (Braces at) = rest_words defs t 0
behind_words defs t (Item i j) = rest_words defs t (suc (count_of i))

abbrev IsWordNumber : Option ℕ → Type 0
IsWordNumber None = Unit {0}
IsWordNumber (Some n) = n < 2 ^ 32

bits_words : (t : Plain) (o : Option ℕ) → IsWordNumber o → HaveWordBegins (bits_of t o)
bits_words t None h = (lit< tt, tt)
bits_words Char (Some n) h = (byte_small n, tt)
bits_words _ (Some n) h = (h, tt)

text_words : (text : List ℕ) → HaveWordBegins (map character text)
text_words [] = tt
text_words (c ∷ text) = (byte_small c, text_words text)

characters_words : (n : ℕ) (o : Option (List ℕ)) → HaveWordBegins (characters n o)
characters_words n None = tt
characters_words n (Some text) = both_words (map character text) (replicate (n - length text) (Bits 0)) (text_words text) (zeros_words (n - length text))

module _ (v : Environment) where
  number_word : (e : Tree) → AreWords e → IsWordNumber (number v e)
  number_word e w = by (judged (scope_of v) e) (judged_word (scope_of v) e w)
    where
      known : (c : Constant) → (elim c as (λ _. Type 0) [ Variable ↦ Unit {0} | Undefined ↦ Unit {0} | Number n ↦ n < 2 ^ 32 ]) → IsWordNumber (number_in (Known c))
      known Variable h = tt
      known Undefined h = tt
      known (Number n) h = h

      by : (j : Verdict) → IsWordVerdict j → IsWordNumber (number_in (constant j))
      by (Known x) h = known x.constant h
      by (Unknown name) h = tt
      by (Broken r at) h = tt

  spot_words : (s : Option Spot) → HaveWordBegins (spot_begin v s)
  spot_words None = (lit< tt, tt)
  spot_words (Some s) = (tt, tt)

  address_words : (k : ℕ) (e : Tree) (o : Option ℕ) → HaveWordBegins (address_begin v k e o)
  address_words k e (Some n) = (lit< tt, tt)
  address_words k e None = by (text_of e)
    where
      by : (x : Option (List ℕ)) → HaveWordBegins (elim x as (λ _. List Begin) [ Some text ↦ Text k ∷ [] | None ↦ spot_begin v (spot v e) ])
      by (Some text) = (tt, tt)
      by None = spot_words (spot v e)

  value_words : (k : ℕ) (t : Plain) (e : Tree) → AreWords e → HaveWordBegins (value_begins v k t e)
  value_words k (Pointer t) e w = address_words k e (number v e)
  value_words k (Array t n) e w = characters_words n (text_of e)
  value_words k Char e w = bits_words Char (number v e) (number_word e w)
  value_words k Int e w = bits_words Int (number v e) (number_word e w)
  value_words k Unsigned e w = bits_words Unsigned (number v e) (number_word e w)
  value_words k Void e w = bits_words Void (number v e) (number_word e w)
  value_words k (Struct s) e w = bits_words (Struct s) (number v e) (number_word e w)

  item_words : (k : ℕ) (t : Plain) (i j : InitialTree) → HaveWordBegins (items_begin v k t i) → ((m : ℕ) (u : Plain) → HaveWordBegins (items_begin v m u j)) → HaveWordBegins (items_begin v k t (Item i j))
  item_words k t i j h w = by (part_of v t (count_of i))
    where
      by : (o : Option Plain) → HaveWordBegins (items_begin v k t i ++ (elim o as (λ _. List Begin) [ None ↦ [] | Some u ↦ items_begin v (k + length (strings_of v t i)) u j ++ behind_items v.defs u j ]))
      by None = both_words (items_begin v k t i) [] h tt
      by (Some u) =
          let m = k + length (strings_of v t i) in
          both_words (items_begin v k t i) (items_begin v m u j ++ behind_items v.defs u j) h (both_words (items_begin v m u j) (behind_items v.defs u j) (w m u) (behind_words v.defs u j))

  mutual
    initializer_words : (k : ℕ) (t : Plain) (i : InitialTree) → IsInitializer i → HaveWordBegins (items_begin v k t i)
    initializer_words k t (Value e) w = value_words k t e w
    initializer_words k t (Braces at) w = absurd w
    initializer_words k t (Item i j) w = item_words k t i j (items_words k t i w.0) (λ m u. initializer_words m u j w.1)

    items_words : (k : ℕ) (t : Plain) (i : InitialTree) → AreItems i → HaveWordBegins (items_begin v k t i)
    items_words k t (Value e) w = absurd w
    items_words k t (Braces at) w = tt
    items_words k t (Item i j) w = item_words k t i j (items_words k t i w.0) (λ m u. initializer_words m u j w.1)

  -- what an object begins with
  pub begins_words : (k : ℕ) (t : Plain) (i : InitialTree) → IsInitializer i → HaveWordBegins (begins_of v k t i)
  begins_words k t i w = both_words (items_begin v k t i) (behind_items v.defs t i) (initializer_words k t i w) (behind_words v.defs t i)

-- ---- objects

module _ (q : State) where
  starts_words : (u : ℕ) (bs : List Begin) → HaveWordBegins bs → AllByRecursion IsWordStart (map (started q u) bs)
  starts_words u [] h = tt
  starts_words u (Bits n ∷ bs) h = (h.0, starts_words u bs h.1)
  starts_words u (Within name n ∷ bs) h = (tt, starts_words u bs h.1)
  starts_words u (Text k ∷ bs) h = (tt, starts_words u bs h.1)

  begun_words : (d : Defining) (ss : List Started) → AllByRecursion (λ (s : Started). HaveWordBegins s.begins) ss → HaveWordBegins (begins_in q ss d)
  begun_words d [] h = zeros_words (leaf_count q.others deepest (object_type q d))
  begun_words d (s ∷ ss) h = by ((s.unit == d.unit) && bytes_eq s.name d.name) (begun_words d ss h.1)
    where
      by : (b : Bool) → HaveWordBegins (begins_in q ss d) → HaveWordBegins (if b then s.begins else begins_in q ss d)
      by true k = h.0
      by false k = k

  -- the numbers that the objects of a program begin with
  pub objects_words : (ds : List Defining) (os : List ObjectRow) → AllByRecursion (λ (s : Started). HaveWordBegins s.begins) q.starts → Each (IsObjectOf q) ds os → AllByRecursion (λ (o : ObjectRow). AllByRecursion IsWordStart o.start) os
  objects_words [] [] h e = tt
  objects_words (d ∷ ds) (o ∷ os) h e = (subst (AllByRecursion IsWordStart) (sym e.0.4) (starts_words d.unit (begins_in q q.starts d) (begun_words d q.starts h)), objects_words ds os h e.1)
  objects_words [] (o ∷ os) h e = absurd e
  objects_words (d ∷ ds) [] h e = absurd e
