-- Names, registers and calls in a well-typed expression.
use Rattle.std.proofs.Common.{◌≡◌, refl, sym, ap, subst, ◌∙◌, arith, ℕ, suc, zero, ◌+◌, ◌<◌, ◌≤◌, List, [], ◌∷◌, length, length-append, length-take-le, Bool, true, false, ◌&&◌, Option, Some, None, true≢false, slice_get, take, map}
use Rattle.std.specs.Prelude.{if◌then◌else◌, option_map, bytes_eq, codes}
use Rattle.std.proofs.lemmas.List.{length-map}
use Rattle.std.proofs.lemmas.Option.{slice_get-map}
use Rattle.c_tree.specs.declared.types.CType.{CType}
use Rattle.c_tree.specs.declared.types.CType.TheVariants as ctype
use Rattle.c_tree.specs.declared.types.StructDef.{StructDef}
use Rattle.c_tree.specs.declared.types.Member.{Member}
use Rattle.c_tree.specs.declared.typed.BinaryOp.{BinaryOp}
use Rattle.c_tree.specs.declared.typed.BinaryOp.TheVariants.{Add, Subtract}
use Rattle.c_tree.specs.declared.typed.Typed.{Typed, Row_of-Typed, end_of-Typed, more_of-Typed}
use Rattle.c_tree.specs.declared.typed.Typed.TheVariants.{Name, Parens'}
use Rattle.c_tree.specs.declared.typed.Head.{Head}
use Rattle.c_tree.specs.declared.rows.Program.{Program}
use Rattle.c_tree.specs.declared.rows.Function.{Function}
use Rattle.c_tree.specs.declared.rows.Local.{Local as ALocal}
use Rattle.c_tree.specs.declared.rows.ObjectRow.{ObjectRow}
use Rattle.c_tree.specs.declared.rows.SymbolRow.{SymbolRow}
use Rattle.c_tree.specs.declared.rows.Referent.{Referent}
use Rattle.c_tree.specs.declared.rows.Referent.TheVariants.{Object, Local, Function as Defined, Declared}
use Rattle.c_tree.specs.Rows.{exprs}
use Rattle.c_tree.specs.Types.{type_of, target_of}
use Rattle.c_tree.specs.Layout.{size_of, leaves_of, members_of}
use Rattle.c_tree.specs.Ordered.{LieIn}
use Rattle.c_source.specs.Blocks.{locals_in as rows_in}
use Rattle.c_source.specs.Source.{dot_offset, arrow_offset, struct_number}
use Rattle.c_typing.specs.Plain.{Plain, Char, Int, Unsigned, Void, Pointer, Array, Struct, plain, same, is_integer, is_complete, value_type}
use Rattle.c_typing.specs.Rules.{Operand, converts, takes, member_type, difference_type, binary_type}
use Rattle.c_typing.specs.Expressions.{Object as AnObject, Hidden, Scope, object_type, register_in as flagged, result_type, is_register, operand, operands, name_type, call_type, IsTyped}
use Rattle.c_typing.specs.Declarations.{has, parameters, local_type, function_in, local_in, locals_in, denoted_by, denoted, scope_at}
use Rattle.c_typing.specs.Statements.{locals_of}
use Rattle.c_typing.specs.Programs.{numbers, IsOfObject, IsReferent, KeepsRules}
use Rattle.slot_ir.specs.declared.code.SlotOp.TheVariants as op
use Rattle.slot_gen.specs.Expressions.{is_scalar, wants_register, register_of, if_register, referent_code, referent_register, register_named, register_inside, register_in, name_code, call_code, built_in_code, enter_code}
use Rattle.slot_formed.proofs.Lists.{no_none, some_same, and_parts, below_length}
use Rattle.slot_formed.proofs.Sizes.{size_plain, Formed, formed_size, member_offset, positive}
use Rattle.slot_formed.proofs.Types.{function_there, symbol_there, name_there, callee_there, local_object}
use Rattle.slot_formed.proofs.Homes.{InRegister, register_there}
use Rattle.slot_formed.proofs.Good.{G, Small, Apart, Registers}

-- ---- scalars

abbrev scalar_plain : Plain → Bool
scalar_plain (Array t n) = false
scalar_plain (Struct s) = false
scalar_plain _ = true

scalar_there : (t : CType) → is_scalar t ≡ scalar_plain (plain t)
scalar_there ctype.Char = refl
scalar_there ctype.Int = refl
scalar_there ctype.Unsigned = refl
scalar_there ctype.Void = refl
scalar_there (ctype.Pointer' b t) = refl
scalar_there (ctype.Array' b t n) = refl
scalar_there (ctype.Struct s) = refl

pub same_scalar : (s t : CType) → plain s ≡ plain t → is_scalar s ≡ is_scalar t
same_scalar s t e = scalar_there s ∙ ap scalar_plain e ∙ sym (scalar_there t)

told_scalar : (s t : Plain) → same s t ≡ true → scalar_plain s ≡ scalar_plain t
told_scalar Char Char h = refl
told_scalar Int Int h = refl
told_scalar Unsigned Unsigned h = refl
told_scalar Void Void h = refl
told_scalar (Pointer s) (Pointer t) h = refl
told_scalar (Array s m) (Array t n) h = refl
told_scalar (Struct m) (Struct n) h = refl
told_scalar _ _ h = absurd (true≢false (sym h))

pub member_struct : (defs : List StructDef) (t : CType) (m : ℕ) (r : Plain) → member_type defs (plain t) m ≡ Some r → is_scalar t ≡ false
member_struct defs (ctype.Struct s) m r e = refl
member_struct defs (ctype.Array' b t n) m r e = refl
member_struct defs ctype.Char m r e = no_none r e
member_struct defs ctype.Int m r e = no_none r e
member_struct defs ctype.Unsigned m r e = no_none r e
member_struct defs ctype.Void m r e = no_none r e
member_struct defs (ctype.Pointer' b t) m r e = no_none r e

some_none : {A B : Type 0} (x : A) → ◌≡◌ {A = Option A} (Some x) None → B
some_none x e = no_none x (sym e)

-- ---- members

abbrev offset_in : Option Member → ℕ
offset_in None = 0
offset_in (Some m) = m.at

abbrev target_number : Option CType → ℕ
target_number None = 0
target_number (Some t) = struct_number t

-- ---- arguments

takes_length : (ts : List Plain) (args : List Operand) → takes ts args ≡ true → length ts ≡ length args
takes_length [] [] h = refl
takes_length (t ∷ ts) (a ∷ args) h = ap suc (takes_length ts args (and_parts (converts t a) (takes ts args) h).1)
takes_length [] (a ∷ args) h = absurd (true≢false (sym h))
takes_length (t ∷ ts) [] h = absurd (true≢false (sym h))

if_taken : (b : Bool) (x r : Plain) → (if b then Some x else None) ≡ Some r → b ≡ true
if_taken true x r h = refl
if_taken false x r h = no_none r h

take_length : {A : Type 0} (n : ℕ) (xs : List A) → n ≤ length xs → length (take n xs) ≡ n
take_length n xs h = length-take-le n xs h

pub numbers_length : (from n : ℕ) → length (numbers from n) ≡ n
numbers_length from zero = refl
numbers_length from (suc n) = ap suc (numbers_length (suc from) n)

-- ---- operators on pointers

pub small_type : (p : Program) (f : ℕ) (fn : Function) (n : ℕ) (t : CType) → Formed p.defs (plain t) → Small p f fn n (target_of t)
small_type p f fn n ctype.Char h = tt
small_type p f fn n ctype.Int h = tt
small_type p f fn n ctype.Unsigned h = tt
small_type p f fn n ctype.Void h = tt
small_type p f fn n (ctype.Pointer' b t) h = subst (λ m. m ≤ 1048576) (sym (size_plain p.defs t)) (formed_size p.defs (plain t) h)
small_type p f fn n (ctype.Array' b t m) h = subst (λ m. m ≤ 1048576) (sym (size_plain p.defs t)) (formed_size p.defs (plain t) h.0)
small_type p f fn n (ctype.Struct s) h = tt

module _ (p : Program) (accepted : KeepsRules p) (ascend : (t : CType) → LieIn 0 (leaves_of p.defs t) (size_of p.defs t)) (f : ℕ) (fn : Function) (here : slice_get p.functions f ≡ Some fn) (n : ℕ) where
  -- two pointers of which the first points to a complete type
  pointers_apart : (u t : CType) (r : Plain) → difference_type p.defs (Pointer (plain u)) (value_type (plain t)) ≡ Some r → 1 ≤ size_of p.defs u
  pointers_apart u t r e = by (is_complete p.defs (plain u)) refl e
    where
      by : (c : Bool) → is_complete p.defs (plain u) ≡ c
          → (if c && is_integer (value_type (plain t)) then Some (Pointer (plain u)) else (if c && same (Pointer (plain u)) (value_type (plain t)) then Some Int else None)) ≡ Some r → 1 ≤ size_of p.defs u
      by true g e = subst (λ m. 1 ≤ m) (sym (size_plain p.defs u)) (positive p.defs accepted.structs ascend (plain u) g)
      by false g e = no_none r e

  apart_targets : (u : CType) (o : Option CType) → 1 ≤ size_of p.defs u → Apart p f fn n Subtract (Some u) o
  apart_targets u None h = tt
  apart_targets u (Some w) h = h

  difference_apart : (s t : CType) (r : Plain) → difference_type p.defs (value_type (plain s)) (value_type (plain t)) ≡ Some r → Apart p f fn n Subtract (target_of s) (target_of t)
  difference_apart ctype.Char t r e = tt
  difference_apart ctype.Int t r e = tt
  difference_apart ctype.Unsigned t r e = tt
  difference_apart ctype.Void t r e = tt
  difference_apart (ctype.Pointer' b u) t r e = apart_targets u (target_of t) (pointers_apart u t r e)
  difference_apart (ctype.Array' b u m) t r e = apart_targets u (target_of t) (pointers_apart u t r e)
  difference_apart (ctype.Struct k) t r e = tt

  pub binary_apart : (o : BinaryOp) (a b : Typed) (s : Scope) (r : Plain) → s.defs ≡ p.defs → binary_type p.defs o (operand s a) (operand s b) ≡ Some r → Apart p f fn n o (target_of (type_of a)) (target_of (type_of b))
  binary_apart Subtract a b s r g e = difference_apart (type_of a) (type_of b) r e
  binary_apart _ a b s r g e = tt

  -- an operator on an operand and an integer
  pub integer_target : (t : CType) → is_integer (value_type (plain t)) ≡ true → target_of t ≡ None
  integer_target ctype.Char h = refl
  integer_target ctype.Int h = refl
  integer_target ctype.Unsigned h = refl
  integer_target ctype.Void h = refl
  integer_target (ctype.Pointer' b u) h = absurd (true≢false (sym h))
  integer_target (ctype.Array' b u m) h = absurd (true≢false (sym h))
  integer_target (ctype.Struct k) h = refl

  none_apart : (o : BinaryOp) (s : Option CType) → Apart p f fn n o s None
  none_apart Subtract None = tt
  none_apart Subtract (Some a) = tt
  none_apart _ s = tt

  pub integer_apart : (o : BinaryOp) (s : Option CType) (t : Option CType) → t ≡ None → Apart p f fn n o s t
  integer_apart o s t e = subst (Apart p f fn n o s) (sym e) (none_apart o s)

  pub add_apart : (s t : Option CType) → Apart p f fn n Add s t
  add_apart s t = tt

  -- ---- offsets of members

  small_in : (s i : ℕ) (o : Option Member) → slice_get (members_of p.defs s) i ≡ o → offset_in o ≤ 1048576
  small_in s i None e = omega arith
  small_in s i (Some m) e = member_offset p.defs accepted.structs s i m e

  pub dot_small : (a : Typed) (m : ℕ) → dot_offset p a m ≤ 1048576
  dot_small a m = small_in (struct_number (type_of a)) m (slice_get (members_of p.defs (struct_number (type_of a))) m) refl

  pub arrow_small : (a : Typed) (m : ℕ) → arrow_offset p a m ≤ 1048576
  arrow_small a m = small_in (target_number (target_of (type_of a))) m (slice_get (members_of p.defs (target_number (target_of (type_of a)))) m) refl

  -- ---- registers

  there : (x r : ℕ) → register_of p f x ≡ Some r → InRegister fn.locals x r
  there x r e = subst (λ ls. InRegister ls x r) (ap rows_in here) (register_there (rows_in (slice_get p.functions f)) 0 x r e)

  pub registers_if : (x : ℕ) (o : Option ℕ) → register_of p f x ≡ o → Registers p f fn n (if_register x o)
  registers_if x None e = tt
  registers_if x (Some r) e = (r, e)

  registers_by : (o : Referent) → Registers p f fn n (referent_register p f o)
  registers_by (Object o) = tt
  registers_by (Local x) = registers_if x (register_of p f x) refl
  registers_by (Defined g) = tt
  registers_by Declared = tt

  registers_named : (o : Option SymbolRow) → Registers p f fn n (register_named p f o)
  registers_named None = tt
  registers_named (Some s) = registers_by s.refers

  registers_inside : (e : Typed) → Registers p f fn n (register_inside p f e)
  registers_inside (Name h m) = registers_named (slice_get p.symbols m)
  registers_inside (Parens' h x a) = registers_inside a
  registers_inside _ = tt

  pub registers_in : (e : Typed) → Registers p f fn n (register_in p f e)
  registers_in e = by (is_scalar (type_of e))
    where
      by : (b : Bool) → Registers p f fn n (if b then register_inside p f e else None)
      by true = registers_inside e
      by false = tt

  pub no_scalar : (e : Typed) → is_scalar (type_of e) ≡ false → register_in p f e ≡ None
  no_scalar e q = ap (λ b. if b then register_inside p f e else None) q

  pub inside_parens : (h : Head) (a : Typed) → plain (type_of a) ≡ plain h.ctype → (if is_scalar h.ctype then register_inside p f a else None) ≡ None → register_in p f a ≡ None
  inside_parens h a q e = subst (λ b. (if b then register_inside p f a else None) ≡ None) (sym (same_scalar (type_of a) h.ctype q)) e

  module _ (v : List ℕ) where
    abbrev s : Scope
    s = scope_at p f v

    -- ---- names of objects

    -- a local that no register has, since none is named by this scalar or it is no scalar
    none_there : (x : ℕ) (l : ALocal) (t u : CType) → slice_get fn.locals x ≡ Some l → same (plain t) (plain l.ctype) ≡ true → plain t ≡ plain u → (if is_scalar u then if_register x (register_of p f x) else None) ≡ None → register_of p f x ≡ None
    none_there x l t u g k w = by (register_of p f x) refl
      where
        by : (o : Option ℕ) → register_of p f x ≡ o → (if is_scalar u then if_register x o else None) ≡ None → o ≡ None
        by None i e = refl
        by (Some r) i e =
            let q = there x r i in
            let same_row : q.0 ≡ l = some_same q.0 l (sym q.1 ∙ g) in
            let wants : wants_register l ≡ true = subst (λ y. wants_register y ≡ true) same_row q.2 in
            let scalar : is_scalar l.ctype ≡ true = (and_parts l.register (is_scalar l.ctype) wants).1 in
            let scalar_u : is_scalar u ≡ true = scalar_there u ∙ sym (ap scalar_plain w) ∙ told_scalar (plain t) (plain l.ctype) k ∙ sym (scalar_there l.ctype) ∙ scalar in
            some_none x (subst (λ b. (if b then Some x else None) ≡ None) scalar_u e)

    object_there : (t : Plain) (o : ℕ) (row : Option ObjectRow) → slice_get p.objects o ≡ row → IsOfObject p t row → o < length p.objects
    object_there t o None e h = absurd h
    object_there t o (Some row) e h = below_length p.objects o row e

    function_object : (g : Option Function) (u : Plain) → object_type (function_in g) ≡ Some u → ⊥
    function_object None u e = no_none u e
    function_object (Some h) u e = no_none u e

    referent_good : (d : ℕ) (row : SymbolRow) (u : CType) (o : Referent) → IsReferent p (plain row.ctype) row.name o → object_type (denoted_by p f v (plain row.ctype) row.name o) ≡ Some (plain u) → (if is_scalar u then referent_register p f o else None) ≡ None → G p f fn n (referent_code d o)
    referent_good d row u (Object o) i e w = (object_there (plain row.ctype) o (slice_get p.objects o) refl i, tt)
    referent_good d row u (Local x) i e w =
        let q = local_object p accepted f v (plain row.ctype) (plain u) x (slice_get (locals_in (slice_get p.functions f)) x) e in
        let mine : slice_get fn.locals x ≡ Some q.0 = ap (λ o. slice_get (locals_in o) x) (sym here) ∙ q.1 in
        ((below_length fn.locals x q.0 mine, none_there x q.0 row.ctype u mine q.2 q.3 w), tt)
    referent_good d row u (Defined g) i e w = tt
    referent_good d row u Declared i e w = tt

    pub name_good : (d m : ℕ) (u : CType) → name_type s m ≡ Some (plain u) → (if is_scalar u then register_named p f (slice_get p.symbols m) else None) ≡ None → G p f fn n (name_code p f d (slice_get p.symbols m))
    name_good d m u t w =
        let q = name_there p accepted f v m (plain u) t in
        subst (λ o. G p f fn n (name_code p f d o)) (sym q.1)
        (referent_good d q.0 u q.0.refers (symbol_there p accepted m q.0 q.1).1 q.2 (subst (λ o. (if is_scalar u then register_named p f o else None) ≡ None) q.1 w))

    -- ---- what `&` takes is in no register

    flagged_local : (t u : Plain) (x : ℕ) (o : Option ALocal) → object_type (if has v x then local_in t o else Hidden) ≡ Some u
        → (l : ALocal) × (o ≡ Some l) × (flagged (Some (if has v x then local_in t o else Hidden)) ≡ l.register)
    flagged_local t u x o e = by (has v x) o e
      where
        by_same : (b : Bool) (l : ALocal) → object_type (if b then AnObject t l.register else Hidden) ≡ Some u → flagged (Some (if b then AnObject t l.register else Hidden)) ≡ l.register
        by_same true l e = refl
        by_same false l e = no_none u e

        by : (b : Bool) (o : Option ALocal) → object_type (if b then local_in t o else Hidden) ≡ Some u → (l : ALocal) × (o ≡ Some l) × (flagged (Some (if b then local_in t o else Hidden)) ≡ l.register)
        by true (Some l) e = (l, refl, by_same (same t (plain l.ctype)) l e)
        by true None e = no_none u e
        by false o e = no_none u e

    no_register : (x : ℕ) (l : ALocal) → slice_get fn.locals x ≡ Some l → l.register ≡ false → if_register x (register_of p f x) ≡ None
    no_register x l g k = by (register_of p f x) refl
      where
        by : (o : Option ℕ) → register_of p f x ≡ o → if_register x o ≡ None
        by None i = refl
        by (Some r) i =
            let q = there x r i in
            let wants : wants_register l ≡ true = subst (λ y. wants_register y ≡ true) (some_same q.0 l (sym q.1 ∙ g)) q.2 in
            absurd (true≢false (sym (and_parts l.register (is_scalar l.ctype) wants).0 ∙ k))

    referent_none : (row : SymbolRow) (u : Plain) (o : Referent) → object_type (denoted_by p f v (plain row.ctype) row.name o) ≡ Some u → flagged (Some (denoted_by p f v (plain row.ctype) row.name o)) ≡ false → referent_register p f o ≡ None
    referent_none row u (Object o) e k = refl
    referent_none row u (Local x) e k =
        let q = flagged_local (plain row.ctype) u x (slice_get (locals_in (slice_get p.functions f)) x) e in
        let mine : slice_get fn.locals x ≡ Some q.0 = ap (λ o. slice_get (locals_in o) x) (sym here) ∙ q.1 in
        no_register x q.0 mine (sym q.2 ∙ k)
    referent_none row u (Defined g) e k = refl
    referent_none row u Declared e k = refl

    inside_none : (e : Typed) → IsTyped s e → is_register s e ≡ false → register_inside p f e ≡ None
    inside_none (Name h m) t k =
        let q = name_there p accepted f v m (plain h.ctype) t in
        let there : slice_get s.names m ≡ Some (denoted p f v q.0) = slice_get-map (denoted p f v) p.symbols m ∙ ap (λ o. option_map (denoted p f v) o) q.1 in
        ap (λ o. register_named p f o) q.1 ∙ referent_none q.0 (plain h.ctype) q.0.refers q.2 (sym (ap flagged there) ∙ k)
    inside_none (Parens' h x a) t k = inside_none a t.0 k
    inside_none _ t k = refl

    none_if : (b : Bool) (o : Option ℕ) → o ≡ None → (if b then o else None) ≡ None
    none_if true o e = e
    none_if false o e = refl

    pub addressed : (e : Typed) → IsTyped s e → is_register s e ≡ false → register_in p f e ≡ None
    addressed e t k = none_if (is_scalar (type_of e)) (register_inside p f e) (inside_none e t k)

    -- ---- calls

    pub parameters_there : (g : ℕ) (h : Function) → slice_get p.functions g ≡ Some h → h.params ≤ length h.locals
    parameters_there g h e =
        let d = (function_there p accepted g h e).declared in
        let size : length (numbers 0 (length h.locals)) ≡ length (numbers 0 h.params) + length (locals_of h.body) = ap length d ∙ length-append (numbers 0 h.params) (locals_of h.body) in
        omega (arith, size, numbers_length 0 (length h.locals), numbers_length 0 h.params)

    operands_length : {m : _} (row : Row_of-Typed m) → length (operands s row) ≡ length (exprs row)
    operands_length end_of-Typed = refl
    operands_length (more_of-Typed e rest) = ap suc (operands_length rest)

    built_good : (d m : ℕ) (name : List ℕ) → G p f fn n (built_in_code d name m)
    built_good d zero name = by (bytes_eq name (codes "getchar"))
      where
        by : (b : Bool) → G p f fn n (if b then op.GetChar d ∷ [] else [])
        by true = (tt, tt)
        by false = tt
    built_good d (suc m) name = by (bytes_eq name (codes "putchar"))
      where
        by : (b : Bool) → G p f fn n (if b then op.PutChar d ∷ [] else op.Exit d ∷ [])
        by true = (tt, tt)
        by false = (tt, tt)

    function_good : (d m g : ℕ) (o : Option Function) (args : List Operand) (r : Plain) → slice_get p.functions g ≡ o → length args ≡ m → result_type (function_in o) args ≡ Some r → G p f fn n (op.Call d g m ∷ [])
    function_good d m g None args r k w e = no_none r e
    function_good d m g (Some h) args r k w e =
        let size : length (parameters h) ≡ length args = takes_length (parameters h) args (if_taken (takes (parameters h) args) (plain h.result) r e) in
        let all : h.params ≤ length (map local_type h.locals) = subst (λ i. h.params ≤ i) (sym (length-map h.locals local_type)) (parameters_there g h k) in
        let many : length (parameters h) ≡ h.params = take_length h.params (map local_type h.locals) all in
        ((h, k, sym w ∙ sym size ∙ many), tt)

    call_good : (d m : ℕ) (row : SymbolRow) (args : List Operand) (r : Plain) (o : Referent) → length args ≡ m → result_type (denoted_by p f v (plain row.ctype) row.name o) args ≡ Some r → G p f fn n (call_code d o row.name m)
    call_good d m row args r (Object o) w e = tt
    call_good d m row args r (Local x) w e = tt
    call_good d m row args r (Defined g) w e = function_good d m g (slice_get p.functions g) args r refl w e
    call_good d m row args r Declared w e = built_good d m row.name

    pub enter_good : {k : _} (d g : ℕ) (row : Row_of-Typed k) (r : Plain) → call_type s g (operands s row) ≡ Some r → G p f fn n (enter_code d (slice_get p.symbols g) (length (exprs row)))
    enter_good d g row r t =
        let q = callee_there p accepted f v g (operands s row) r t in
        subst (λ o. G p f fn n (enter_code d o (length (exprs row)))) (sym q.1) (call_good d (length (exprs row)) q.0 (operands s row) r q.0.refers (operands_length row) q.2)
