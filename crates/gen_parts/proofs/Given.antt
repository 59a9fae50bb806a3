-- An object gives each of its names once.
use Rattle.std.proofs.Common.{◌≡◌, ◌≤◌, ◌<◌, ℕ, suc, zero, ◌+◌, ◌*◌, ◌^◌, List, [], ◌∷◌, ◌++◌, length, drop, ◌⊎◌, inl, inr, refl, subst, sym, ap, ◌∙◌, arith}
use Rattle.std.specs.Prelude.{decimal, codes}
use Rattle.std.proofs.lemmas.Fmt.{decimal_injective}
use Rattle.ldb_words.specs.declared.kinds.Order.{Order}
use Rattle.obj_file.specs.declared.object.Name.{Name}
use Rattle.obj_file.specs.declared.object.StaticDef.{StaticDef}
use Rattle.obj_file.specs.declared.object.Object.{Object}
use Rattle.slot_ir.specs.declared.code.SlotCode.{SlotCode}
use Rattle.slot_ir.specs.declared.code.SlotObject.{SlotObject}
use Rattle.flat_ir.specs.declared.code.FlatFunction.{FlatFunction}
use Rattle.flat_ir.specs.declared.code.FlatCode.{FlatCode}
use Rattle.flat_ir.specs.declared.moves.Mover.{Mover}
use Rattle.gen_parts.specs.Coding.{Coding}
use Rattle.gen_parts.specs.Names.{numbered}
use Rattle.gen_parts.specs.Links.{IsOneOf, AreOnce, text_names, static_names, IsCountable}
use Rattle.gen_parts.specs.Text.{function_insns, mover_insns}
use Rattle.gen_parts.specs.Parts.{mover_names, movers_names, functions_names, functions_at, program_names, IsObjectOf}
use Rattle.gen_parts.specs.Statics.{objects_statics, strings_statics, program_statics}

-- ---- names

abbrev first : List ℕ → ℕ
first [] = 0
first (c ∷ cs) = c

other_letter : (l k m n : ℕ) → (l ≡ k → ⊥) → numbered l m ≡ numbered k n → ⊥
other_letter l k m n h e = h (ap first e)

other_number : (l m n : ℕ) → m < n → n < 2 ^ 64 → numbered l m ≡ numbered l n → ⊥
other_number l m n h k e =
    let below : m < 2 ^ 64 = omega arith in
    let same : m ≡ n = decimal_injective m n below k (ap (λ (x : List ℕ). drop 1 x) e) in
    omega (arith, same)

-- ---- lists of names

more : (x y : List ℕ) (xs ys : List (List ℕ)) → IsOneOf x xs ⊎ IsOneOf x ys → IsOneOf x (y ∷ xs) ⊎ IsOneOf x ys
more x y xs ys (inl a) = inl (inr a)
more x y xs ys (inr b) = inr b

split : (x : List ℕ) (xs ys : List (List ℕ)) → IsOneOf x (xs ++ ys) → IsOneOf x xs ⊎ IsOneOf x ys
split x [] ys h = inr h
split x (y ∷ xs) ys (inl e) = inl (inl e)
split x (y ∷ xs) ys (inr h) = more x y xs ys (split x xs ys h)

neither : (x : List ℕ) (xs ys : List (List ℕ)) → (IsOneOf x xs → ⊥) → (IsOneOf x ys → ⊥) → IsOneOf x xs ⊎ IsOneOf x ys → ⊥
neither x xs ys a b (inl h) = a h
neither x xs ys a b (inr h) = b h

once_append : (xs ys : List (List ℕ)) → AreOnce xs → AreOnce ys → ((x : List ℕ) → IsOneOf x xs → IsOneOf x ys → ⊥) → AreOnce (xs ++ ys)
once_append [] ys a b h = b
once_append (x ∷ xs) ys a b h = ((λ k. neither x xs ys a.0 (h x (inl refl)) (split x xs ys k)), once_append xs ys a.1 b (λ y i. h y (inr i)))

text_append : (ns ms : List Name) → text_names (ns ++ ms) ≡ text_names ns ++ text_names ms
text_append [] ms = refl
text_append (n ∷ ns) ms = ap (λ l. n.name ∷ l) (text_append ns ms)

static_append : (ss ts : List StaticDef) → static_names (ss ++ ts) ≡ static_names ss ++ static_names ts
static_append [] ts = refl
static_append (s ∷ ss) ts = ap (λ l. s.name ∷ l) (static_append ss ts)

-- ---- names with a letter and a number

-- a name with this letter and a number from `low` on below `high`
abbrev Numbered : (letter low high : ℕ) → List ℕ → Type 0
Numbered letter low high x = (j : ℕ) × (low ≤ j) × (j < high) × (x ≡ numbered letter j)

sooner : (letter low high low₁ high₁ : ℕ) (x : List ℕ) → low ≤ low₁ → high₁ ≤ high → Numbered letter low₁ high₁ x → Numbered letter low high x
sooner letter low high low₁ high₁ x a b h = (h.0, omega (arith, h.1), omega (arith, h.2), h.3)

-- the number before is none of them
not_before : (letter n high : ℕ) → high ≤ 2 ^ 64 → Numbered letter (suc n) high (numbered letter n) → ⊥
not_before letter n high k h = other_number letter n h.0 (omega (arith, h.1)) (omega (arith, h.2)) h.3

-- another letter
not_of : (letter other n low high : ℕ) → (letter ≡ other → ⊥) → Numbered other low high (numbered letter n) → ⊥
not_of letter other n low high k h = other_letter letter other n h.0 k h.3

apart_letters : (letter other low high low₁ high₁ : ℕ) (x : List ℕ) → (letter ≡ other → ⊥) → Numbered letter low high x → Numbered other low₁ high₁ x → ⊥
apart_letters letter other low high low₁ high₁ x k a b = other_letter letter other a.0 b.0 k (sym a.3 ∙ b.3)

-- ---- functions, static objects and strings

module _ {Insn : Type 0} (t : Coding Insn) where
  functions_have : (number n : ℕ) (fs : List FlatFunction) (x : List ℕ) → IsOneOf x (text_names (functions_names t number n fs)) → Numbered 102 number (number + length fs) x
  functions_have number n [] x h = absurd h
  functions_have number n (f ∷ fs) x (inl e) = (number, omega arith, omega arith, e)
  functions_have number n (f ∷ fs) x (inr h) =
      sooner 102 number (number + suc (length fs)) (suc number) (suc number + length fs) x (omega arith) (omega arith) (functions_have (suc number) (n + length (function_insns t f)) fs x h)

  functions_once : (number n : ℕ) (fs : List FlatFunction) → number + length fs ≤ 2 ^ 64 → AreOnce (text_names (functions_names t number n fs))
  functions_once number n [] h = tt
  functions_once number n (f ∷ fs) h = (
    (λ k. not_before 102 number (suc number + length fs) (omega arith) (functions_have (suc number) (n + length (function_insns t f)) fs (numbered 102 number) k)),
    functions_once (suc number) (n + length (function_insns t f)) fs (omega arith),
  )

  -- ---- copies of structs

  abbrev Copied : (low high : ℕ) → List ℕ → Type 0
  Copied low high x = Numbered 109 low high x ⊎ (Numbered 97 low high x ⊎ Numbered 100 low high x)

  later : (low high low₁ high₁ : ℕ) (x : List ℕ) → low ≤ low₁ → high₁ ≤ high → Copied low₁ high₁ x → Copied low high x
  later low high low₁ high₁ x a b (inl h) = inl (sooner 109 low high low₁ high₁ x a b h)
  later low high low₁ high₁ x a b (inr (inl h)) = inr (inl (sooner 97 low high low₁ high₁ x a b h))
  later low high low₁ high₁ x a b (inr (inr h)) = inr (inr (sooner 100 low high low₁ high₁ x a b h))

  movers_have : (number n : ℕ) (ms : List Mover) (x : List ℕ) → IsOneOf x (text_names (movers_names t number n ms)) → Copied number (number + length ms) x
  unfolding mover_names
  movers_have number n [] x h = absurd h
  movers_have number n (m ∷ ms) x (inl e) = inl (number, omega arith, omega arith, e)
  movers_have number n (m ∷ ms) x (inr (inl e)) = inr (inl (number, omega arith, omega arith, e))
  movers_have number n (m ∷ ms) x (inr (inr (inl e))) = inr (inr (number, omega arith, omega arith, e))
  movers_have number n (m ∷ ms) x (inr (inr (inr h))) =
      later number (number + suc (length ms)) (suc number) (suc number + length ms) x (omega arith) (omega arith) (movers_have (suc number) (n + length (mover_insns t m)) ms x h)

  -- the names of a number are none of those of later ones
  m_not : (n high : ℕ) → high ≤ 2 ^ 64 → Copied (suc n) high (numbered 109 n) → ⊥
  m_not n high k (inl h) = not_before 109 n high k h
  m_not n high k (inr (inl h)) = not_of 109 97 n (suc n) high (λ e. omega (arith, e)) h
  m_not n high k (inr (inr h)) = not_of 109 100 n (suc n) high (λ e. omega (arith, e)) h

  a_not : (n high : ℕ) → high ≤ 2 ^ 64 → Copied (suc n) high (numbered 97 n) → ⊥
  a_not n high k (inl h) = not_of 97 109 n (suc n) high (λ e. omega (arith, e)) h
  a_not n high k (inr (inl h)) = not_before 97 n high k h
  a_not n high k (inr (inr h)) = not_of 97 100 n (suc n) high (λ e. omega (arith, e)) h

  d_not : (n high : ℕ) → high ≤ 2 ^ 64 → Copied (suc n) high (numbered 100 n) → ⊥
  d_not n high k (inl h) = not_of 100 109 n (suc n) high (λ e. omega (arith, e)) h
  d_not n high k (inr (inl h)) = not_of 100 97 n (suc n) high (λ e. omega (arith, e)) h
  d_not n high k (inr (inr h)) = not_before 100 n high k h

  module _ (n high : ℕ) (names : List (List ℕ)) (fits : high ≤ 2 ^ 64) (rest : (x : List ℕ) → IsOneOf x names → Copied (suc n) high x) where
    m_once : IsOneOf (numbered 109 n) (numbered 97 n ∷ numbered 100 n ∷ names) → ⊥
    m_once (inl e) = other_letter 109 97 n n (λ k. omega (arith, k)) e
    m_once (inr (inl e)) = other_letter 109 100 n n (λ k. omega (arith, k)) e
    m_once (inr (inr h)) = m_not n high fits (rest (numbered 109 n) h)

    a_once : IsOneOf (numbered 97 n) (numbered 100 n ∷ names) → ⊥
    a_once (inl e) = other_letter 97 100 n n (λ k. omega (arith, k)) e
    a_once (inr h) = a_not n high fits (rest (numbered 97 n) h)

    d_once : IsOneOf (numbered 100 n) names → ⊥
    d_once h = d_not n high fits (rest (numbered 100 n) h)

  movers_once : (number n : ℕ) (ms : List Mover) → number + length ms ≤ 2 ^ 64 → AreOnce (text_names (movers_names t number n ms))
  unfolding mover_names
  movers_once number n [] h = tt
  movers_once number n (m ∷ ms) h =
      let rest : (x : List ℕ) → IsOneOf x (text_names (movers_names t (suc number) (n + length (mover_insns t m)) ms)) → Copied (suc number) (suc number + length ms) x = movers_have (suc number) (n + length (mover_insns t m)) ms in
      let fits : suc number + length ms ≤ 2 ^ 64 = omega arith in (
        m_once number (suc number + length ms) (text_names (movers_names t (suc number) (n + length (mover_insns t m)) ms)) fits rest,
        (
          a_once number (suc number + length ms) (text_names (movers_names t (suc number) (n + length (mover_insns t m)) ms)) fits rest,
          (
            d_once number (suc number + length ms) (text_names (movers_names t (suc number) (n + length (mover_insns t m)) ms)) fits rest,
            movers_once (suc number) (n + length (mover_insns t m)) ms fits,
          ),
        ),
      )

  copied_not : (low high low₁ high₁ letter : ℕ) (x : List ℕ) → (109 ≡ letter → ⊥) → (97 ≡ letter → ⊥) → (100 ≡ letter → ⊥) → Copied low high x → Numbered letter low₁ high₁ x → ⊥
  copied_not low high low₁ high₁ letter x a b c (inl h) k = apart_letters 109 letter low high low₁ high₁ x a h k
  copied_not low high low₁ high₁ letter x a b c (inr (inl h)) k = apart_letters 97 letter low high low₁ high₁ x b h k
  copied_not low high low₁ high₁ letter x a b c (inr (inr h)) k = apart_letters 100 letter low high low₁ high₁ x c h k

objects_have : (order : Order) (number : ℕ) (os : List SlotObject) (x : List ℕ) → IsOneOf x (static_names (objects_statics order number os)) → Numbered 103 number (number + length os) x
objects_have order number [] x h = absurd h
objects_have order number (o ∷ os) x (inl e) = (number, omega arith, omega arith, e)
objects_have order number (o ∷ os) x (inr h) = sooner 103 number (number + suc (length os)) (suc number) (suc number + length os) x (omega arith) (omega arith) (objects_have order (suc number) os x h)

objects_once : (order : Order) (number : ℕ) (os : List SlotObject) → number + length os ≤ 2 ^ 64 → AreOnce (static_names (objects_statics order number os))
objects_once order number [] h = tt
objects_once order number (o ∷ os) h =
    ((λ k. not_before 103 number (suc number + length os) (omega arith) (objects_have order (suc number) os (numbered 103 number) k)), objects_once order (suc number) os (omega arith))

strings_have : (number : ℕ) (ts : List (List ℕ)) (x : List ℕ) → IsOneOf x (static_names (strings_statics number ts)) → Numbered 103 number (number + length ts) x
strings_have number [] x h = absurd h
strings_have number (t ∷ ts) x (inl e) = (number, omega arith, omega arith, e)
strings_have number (t ∷ ts) x (inr h) = sooner 103 number (number + suc (length ts)) (suc number) (suc number + length ts) x (omega arith) (omega arith) (strings_have (suc number) ts x h)

strings_once : (number : ℕ) (ts : List (List ℕ)) → number + length ts ≤ 2 ^ 64 → AreOnce (static_names (strings_statics number ts))
strings_once number [] h = tt
strings_once number (t ∷ ts) h = ((λ k. not_before 103 number (suc number + length ts) (omega arith) (strings_have (suc number) ts (numbered 103 number) k)), strings_once (suc number) ts (omega arith))

-- ---- the object

module _ {Insn : Type 0} (t : Coding Insn) (order : Order) (slots : SlotCode) (flat : FlatCode) (functions_fit : length flat.functions ≤ 2 ^ 64) (structs_fit : length flat.movers ≤ 2 ^ 64) (statics_fit : length slots.objects + length slots.strings ≤ 2 ^ 64) where
  abbrev middle : List (List ℕ)
  middle = text_names (movers_names t 0 (length t.start) flat.movers)

  abbrev behind : List (List ℕ)
  behind = text_names (functions_names t 0 (functions_at t flat) flat.functions)

  abbrev texts : List (List ℕ)
  texts = codes "start" ∷ middle ++ behind

  texts_are : text_names (program_names t flat) ≡ texts
  unfolding program_names
  texts_are = ap (λ l. codes "start" ∷ l) (text_append (movers_names t 0 (length t.start) flat.movers) (functions_names t 0 (functions_at t flat) flat.functions))

  abbrev objects : List (List ℕ)
  objects = static_names (objects_statics order 0 slots.objects)

  abbrev strings : List (List ℕ)
  strings = static_names (strings_statics (length slots.objects) slots.strings)

  statics_are : static_names (program_statics order slots) ≡ objects ++ strings
  unfolding program_statics
  statics_are = static_append (objects_statics order 0 slots.objects) (strings_statics (length slots.objects) slots.strings)

  copied_apart : (x : List ℕ) → IsOneOf x middle → IsOneOf x behind → ⊥
  copied_apart x h k =
      copied_not t 0 (0 + length flat.movers) 0 (0 + length flat.functions) 102 x (λ e. omega (arith, e)) (λ e. omega (arith, e)) (λ e. omega (arith, e))
      (movers_have t 0 (length t.start) flat.movers x h) (functions_have t 0 (functions_at t flat) flat.functions x k)

  start_not_copied : Copied t 0 (0 + length flat.movers) (codes "start") → ⊥
  start_not_copied (inl h) = let e : 115 ≡ 109 = ap first h.3 in omega (arith, e)
  start_not_copied (inr (inl h)) = let e : 115 ≡ 97 = ap first h.3 in omega (arith, e)
  start_not_copied (inr (inr h)) = let e : 115 ≡ 100 = ap first h.3 in omega (arith, e)

  start_not_numbered : (letter low high : ℕ) → (115 ≡ letter → ⊥) → Numbered letter low high (codes "start") → ⊥
  start_not_numbered letter low high k h = k (ap first h.3)

  texts_once : AreOnce texts
  texts_once = (
    (λ h. neither (codes "start") middle behind (λ k. start_not_copied (movers_have t 0 (length t.start) flat.movers (codes "start") k))
        (λ k. start_not_numbered 102 0 (0 + length flat.functions) (λ e. omega (arith, e)) (functions_have t 0 (functions_at t flat) flat.functions (codes "start") k)) (split (codes "start") middle behind h)),
    once_append middle behind (movers_once t 0 (length t.start) flat.movers (omega (arith, structs_fit))) (functions_once t 0 (functions_at t flat) flat.functions (omega (arith, functions_fit))) copied_apart,
  )

  in_statics : (x : List ℕ) → IsOneOf x objects ⊎ IsOneOf x strings → Numbered 103 0 (length slots.objects + length slots.strings) x
  in_statics x (inl h) = sooner 103 0 (length slots.objects + length slots.strings) 0 (0 + length slots.objects) x (omega arith) (omega arith) (objects_have order 0 slots.objects x h)
  in_statics x (inr h) = sooner 103 0 (length slots.objects + length slots.strings) (length slots.objects) (length slots.objects + length slots.strings) x (omega arith) (omega arith) (strings_have (length slots.objects) slots.strings x h)

  -- an object has a lower number than a string
  object_or_string : (x : List ℕ) → IsOneOf x objects → IsOneOf x strings → ⊥
  object_or_string x h k =
      let a : Numbered 103 0 (0 + length slots.objects) x = objects_have order 0 slots.objects x h in
      let b : Numbered 103 (length slots.objects) (length slots.objects + length slots.strings) x = strings_have (length slots.objects) slots.strings x k in
      let less : a.0 < b.0 = omega (arith, a.2, b.1) in
      let fits : b.0 < 2 ^ 64 = omega (arith, b.2, statics_fit) in
      other_number 103 a.0 b.0 less fits (sym a.3 ∙ b.3)

  statics_once : AreOnce (objects ++ strings)
  statics_once = once_append objects strings (objects_once order 0 slots.objects (omega (arith, statics_fit))) (strings_once (length slots.objects) slots.strings statics_fit) object_or_string

  text_or_static : (x : List ℕ) → IsOneOf x texts → IsOneOf x (objects ++ strings) → ⊥
  text_or_static x (inl e) k =
      let s : Numbered 103 0 (length slots.objects + length slots.strings) (codes "start") = subst (λ (y : List ℕ). Numbered 103 0 (length slots.objects + length slots.strings) y) e (in_statics x (split x objects strings k)) in
      start_not_numbered 103 0 (length slots.objects + length slots.strings) (λ n. omega (arith, n)) s
  text_or_static x (inr h) k =
      neither x middle behind
      (λ i. copied_not t 0 (0 + length flat.movers) 0 (length slots.objects + length slots.strings) 103 x (λ e. omega (arith, e)) (λ e. omega (arith, e)) (λ e. omega (arith, e))
      (movers_have t 0 (length t.start) flat.movers x i) (in_statics x (split x objects strings k)))
      (λ i. apart_letters 102 103 0 (0 + length flat.functions) 0 (length slots.objects + length slots.strings) x (λ e. omega (arith, e)) (functions_have t 0 (functions_at t flat) flat.functions x i) (in_statics x (split x objects strings k)))
      (split x middle behind h)

  all_once : AreOnce (text_names (program_names t flat) ++ static_names (program_statics order slots))
  all_once =
      subst (λ (l : List (List ℕ)). AreOnce (l ++ static_names (program_statics order slots))) (sym texts_are)
      (subst (λ (l : List (List ℕ)). AreOnce (texts ++ l)) (sym statics_are) (once_append texts (objects ++ strings) texts_once statics_once text_or_static))

pub names_once : {Insn : Type 0} (t : Coding Insn) (slots : SlotCode) (flat : FlatCode) (o : Object) → IsObjectOf t slots flat o
    → length flat.functions ≡ length slots.functions → length flat.movers ≡ length slots.structs → IsCountable slots → AreOnce (text_names o.names ++ static_names o.statics)
names_once t slots flat o is functions structs count =
    let f : length flat.functions ≤ 2 ^ 64 = omega (arith, functions, count.functions) in
    let m : length flat.movers ≤ 2 ^ 64 = omega (arith, structs, count.structs) in
    subst (λ (ns : List Name). AreOnce (text_names ns ++ static_names o.statics)) (sym is.names)
    (subst (λ (ss : List StaticDef). AreOnce (text_names (program_names t flat) ++ static_names ss)) (sym is.statics) (all_once t t.shape.order slots flat f m count.statics))
