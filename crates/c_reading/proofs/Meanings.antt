-- Typed trees of one expression mean the same.
use Rattle.std.proofs.Common.{◌≡◌, refl, sym, ap, ◌∙◌, subst, ℕ, suc, zero, ◌+◌, ◌*◌, List, [], ◌∷◌, Option, Some, None, map}
use Rattle.std.specs.Prelude.{Result, Ok, Err, slice_get, length, pos, neg_ℤ, ◌*ℤ◌, ◌||◌, if◌then◌else◌}
use Rattle.ldb_words.specs.Word.{signed, word_of_signed}
use Rattle.ldb_words.specs.declared.kinds.Undef.{Undef}
use Rattle.c_lex.specs.declared.token.Place.{Place}
use Rattle.c_symbol.specs.declared.symbol.LeafKind.{LeafKind}
use Rattle.c_symbol.specs.declared.symbol.LeafKind.TheVariants as leaf
use Rattle.c_symbol.specs.declared.symbol.Access.{Access}
use Rattle.c_symbol.specs.declared.symbol.Access.TheVariants as access
use Rattle.c_symbol.specs.declared.symbol.Step.{Step}
use Rattle.c_symbol.specs.declared.symbol.PrefixOp.{PrefixOp}
use Rattle.c_symbol.specs.declared.symbol.PrefixOp.TheVariants as prefix
use Rattle.c_symbol.specs.declared.symbol.BinaryOp.{BinaryOp as Written}
use Rattle.c_symbol.specs.declared.symbol.BinaryOp.TheVariants as written
use Rattle.c_trees.specs.Expressions.{Tree, Leaf, Paren, Index, Call, With, Member, After, Prefix, SizeofType, Cast, Binary, Choice}
use Rattle.c_tree.specs.declared.types.CType.{CType}
use Rattle.c_tree.specs.declared.types.CType.TheVariants as ctype
use Rattle.c_tree.specs.declared.types.StructDef.{StructDef}
use Rattle.c_tree.specs.declared.types.Member.{Member as AMember}
use Rattle.c_tree.specs.declared.typed.BinaryOp.{BinaryOp}
use Rattle.c_tree.specs.declared.typed.BinaryOp.TheVariants as op
use Rattle.c_tree.specs.declared.typed.UnaryOp.{UnaryOp}
use Rattle.c_tree.specs.declared.typed.UnaryOp.TheVariants.{Plus, Minus, Complement, Not}
use Rattle.c_tree.specs.declared.typed.Typed.{Typed}
use Rattle.c_tree.specs.declared.typed.Typed.TheVariants.{Comma', Assign', Choice', Or', And', Binary', Cast', Before', Address', Follow', Unary', SizeOf', SizeOfType, Index', Call', Dot', Arrow', After', Name, Constant, Literal, Parens'}
use Rattle.c_tree.specs.declared.rows.Program.{Program}
use Rattle.c_tree.specs.Types.{type_of, target_of, is_unsigned, is_array, is_struct, kind_of}
use Rattle.c_tree.specs.Layout.{size_of, leaves_within, repeated, members_of}
use Rattle.runs.specs.Runs.{Why, Reason}
use Rattle.c_store.specs.Store.{Value, Number, At, World, load, used, moved, store, load_struct, store_struct, ◌>>=◌}
use Rattle.c_store.specs.Frames.{Here}
use Rattle.c_operators.specs.Bits.{subtract, signed_negate}
use Rattle.c_operators.specs.Arithmetic.{operating_type, number_of, on_ints, on_unsigned}
use Rattle.c_source.specs.Blocks.{converted, cells_of, zero_cell}
use Rattle.c_source.specs.Operators.{bits_in, by_targets, combined, changed, on_integers, pointer_integer, two_pointers}
use Rattle.c_source.specs.Source.{struct_number, place_in, dot_offset, arrow_offset, no_value}
use Rattle.c_source.specs.Meaning.{Meant, or_ill_typed, value_of, place_of, values_meant, assigned, scalar_assigned, struct_assigned}
use Rattle.c_source.proofs.Parts.{value_at, tested, truth_of, chosen_as, member_at}
use Rattle.c_typing.specs.Plain.{Plain, Char, Int, Unsigned, Void, Pointer, Array, Struct, plain, value_type}
use Rattle.c_defs.specs.Members.{member_number}
use Rattle.c_judge.specs.Scope.{Scope, defs_of, pointed_number}
use Rattle.c_judge.specs.Answers.{Answer, Known, Unknown, Broken}
use Rattle.c_judge.specs.Elaboration.{HasHead, Elaborates, IsUnary, IsPrefixed, IsAssigned, IsOperation, IsJoined, IsParen, IsIndex, IsMember, IsAfter, IsChoice, IsCast, IsSizeOfType, IsConstant, IsLeaf, IsCall}
use Rattle.c_judge.specs.Judgement.{compound_of}

-- ---- types that are the same as plain trees

abbrev pub Alike : Plain → Plain → Type 0
Alike Char Char = Unit {0}
Alike Int Int = Unit {0}
Alike Unsigned Unsigned = Unit {0}
Alike Void Void = Unit {0}
Alike (Pointer t) (Pointer u) = Alike t u
Alike (Array t m) (Array u n) = Alike t u × (m ≡ n)
Alike (Struct m) (Struct n) = m ≡ n
Alike _ _ = ⊥

alike_self : (t : Plain) → Alike t t
alike_self Char = tt
alike_self Int = tt
alike_self Unsigned = tt
alike_self Void = tt
alike_self (Pointer t) = alike_self t
alike_self (Array t n) = (alike_self t, refl)
alike_self (Struct s) = refl

pub alike_same : (t u : Plain) → Alike t u → t ≡ u
alike_same Char Char h = refl
alike_same Int Int h = refl
alike_same Unsigned Unsigned h = refl
alike_same Void Void h = refl
alike_same (Pointer t) (Pointer u) h = ap Pointer (alike_same t u h)
alike_same (Array t m) (Array u n) h = ap (λ x. Array x m) (alike_same t u h.0) ∙ ap (Array u) h.1
alike_same (Struct m) (Struct n) h = ap Struct h
alike_same _ _ h = absurd h

-- as types of C
abbrev pub OneType : CType → CType → Type 0
OneType t u = Alike (plain t) (plain u)

one_type : (t u : CType) → plain t ≡ plain u → OneType t u
one_type t u e = subst (Alike (plain t)) e (alike_self (plain t))

-- what only asks what kind of type it is
abbrev Shallow : CType → CType → Type 0
Shallow t u = (is_array t ≡ is_array u) × (is_struct t ≡ is_struct u) × (is_unsigned t ≡ is_unsigned u) × (kind_of t ≡ kind_of u) × (struct_number t ≡ struct_number u) × ((v : Value) → converted t v ≡ converted u v)

shallow : (t u : CType) → OneType t u → Shallow t u
shallow ctype.Char ctype.Char h = (refl, refl, refl, refl, refl, λ v. refl)
shallow ctype.Int ctype.Int h = (refl, refl, refl, refl, refl, λ v. refl)
shallow ctype.Unsigned ctype.Unsigned h = (refl, refl, refl, refl, refl, λ v. refl)
shallow ctype.Void ctype.Void h = (refl, refl, refl, refl, refl, λ v. refl)
shallow (ctype.Pointer' a t) (ctype.Pointer' b u) h = (refl, refl, refl, refl, refl, λ v. refl)
shallow (ctype.Array' a t m) (ctype.Array' b u n) h = (refl, refl, refl, refl, refl, λ v. refl)
shallow (ctype.Struct m) (ctype.Struct n) h = (refl, refl, refl, refl, h, λ v. refl)
shallow _ _ h = absurd h

same_size : (defs : List StructDef) (t u : CType) → OneType t u → size_of defs t ≡ size_of defs u
same_size defs ctype.Char ctype.Char h = refl
same_size defs ctype.Int ctype.Int h = refl
same_size defs ctype.Unsigned ctype.Unsigned h = refl
same_size defs ctype.Void ctype.Void h = refl
same_size defs (ctype.Pointer' a t) (ctype.Pointer' b u) h = refl
same_size defs (ctype.Array' a t m) (ctype.Array' b u n) h = ap (λ k. k * size_of defs t) h.1 ∙ ap (λ k. n * k) (same_size defs t u h.0)
same_size defs (ctype.Struct m) (ctype.Struct n) h = ap (λ s. size_of defs (ctype.Struct s)) h
same_size defs _ _ h = absurd h

same_leaves : (defs : List StructDef) (deep : ℕ) (t u : CType) → OneType t u → leaves_within defs deep t ≡ leaves_within defs deep u
same_leaves defs zero t u h = refl
same_leaves defs (suc deep) ctype.Char ctype.Char h = refl
same_leaves defs (suc deep) ctype.Int ctype.Int h = refl
same_leaves defs (suc deep) ctype.Unsigned ctype.Unsigned h = refl
same_leaves defs (suc deep) ctype.Void ctype.Void h = refl
same_leaves defs (suc deep) (ctype.Pointer' a t) (ctype.Pointer' b u) h = refl
same_leaves defs (suc deep) (ctype.Array' a t m) (ctype.Array' b u n) h =
    ap (λ k. repeated k (size_of defs t) 0 (leaves_within defs deep t)) h.1
    ∙ ap (λ k. repeated n k 0 (leaves_within defs deep t)) (same_size defs t u h.0)
    ∙ ap (λ ls. repeated n (size_of defs u) 0 ls) (same_leaves defs deep t u h.0)
same_leaves defs (suc deep) (ctype.Struct m) (ctype.Struct n) h = ap (λ s. leaves_within defs (suc deep) (ctype.Struct s)) h
same_leaves defs (suc deep) _ _ h = absurd h

same_cells : (defs : List StructDef) (t u : CType) → OneType t u → cells_of defs t ≡ cells_of defs u
same_cells defs t u h = ap (map zero_cell) (same_leaves defs 64 t u h)

-- what two types point to
abbrev OneTarget : Option CType → Option CType → Type 0
OneTarget None None = Unit {0}
OneTarget (Some t) (Some u) = OneType t u
OneTarget _ _ = ⊥

targets : (t u : CType) → OneType t u → OneTarget (target_of t) (target_of u)
targets ctype.Char ctype.Char h = tt
targets ctype.Int ctype.Int h = tt
targets ctype.Unsigned ctype.Unsigned h = tt
targets ctype.Void ctype.Void h = tt
targets (ctype.Pointer' a t) (ctype.Pointer' b u) h = h
targets (ctype.Array' a t m) (ctype.Array' b u n) h = h.0
targets (ctype.Struct m) (ctype.Struct n) h = tt
targets _ _ h = absurd h

-- ---- results

same_bind : {A B : Type 0} (m n : Result A Why) (f g : A → Result B Why) → m ≡ n → ((x : A) → f x ≡ g x) → (m >>= f) ≡ (n >>= g)
same_bind m n f g e k = ap (λ r. r >>= f) e ∙ by n
  where
    by : (n : Result _ Why) → (n >>= f) ≡ (n >>= g)
    by (Ok x) = k x
    by (Err w) = refl

pub no_some : {A B : Type 0} (x : A) → ◌≡◌ {A = Option A} None (Some x) → B
no_some {A} {B} x e = absurd (subst (λ (q : Option A). elim q as (λ _. Type 0) [ None ↦ Unit {0} | Some y ↦ ⊥ ]) e tt)

pub one_some : {A : Type 0} (x y : A) → ◌≡◌ {A = Option A} (Some x) (Some y) → x ≡ y
one_some {A} x y e = ap (λ (q : Option A). elim q as (λ _. A) [ None ↦ x | Some z ↦ z ]) e

pub one_known : {A : Type 0} (x y : A) → ◌≡◌ {A = Answer A} (Known x) (Known y) → x ≡ y
one_known {A} x y e = ap (λ (q : Answer A). elim q as (λ _. A) [ Known z ↦ z | Unknown name ↦ x | Broken r at ↦ x ]) e

abbrev because : Result ℕ Undef → Result Value Why
because (Ok n) = Ok (Number n)
because (Err r) = Err (Reason r)

-- ---- operators

operating : (o : BinaryOp) (s t u v : CType) → is_unsigned s ≡ is_unsigned u → is_unsigned t ≡ is_unsigned v → is_unsigned (operating_type o s t) ≡ is_unsigned (operating_type o u v)
operating op.ShiftLeft s t u v e f = ap (λ b. is_unsigned (if b then ctype.Unsigned else ctype.Int)) e
operating op.ShiftRight s t u v e f = ap (λ b. is_unsigned (if b then ctype.Unsigned else ctype.Int)) e
operating _ s t u v e f = ap (λ b. is_unsigned (if b || is_unsigned t then ctype.Unsigned else ctype.Int)) e ∙ ap (λ b. is_unsigned (if is_unsigned u || b then ctype.Unsigned else ctype.Int)) f

numbers : (t u : CType) (n : ℕ) → is_unsigned t ≡ is_unsigned u → number_of t n ≡ number_of u n
numbers t u n e = ap (λ b. if b then pos n else signed n) e

mixed : (w : World) (o : BinaryOp) (m n : ℕ) (t u : CType) (x y : Value) → m ≡ n → is_unsigned t ≡ is_unsigned u → pointer_integer w o m t x y ≡ pointer_integer w o n u x y
mixed w op.Add m n t u x y e f =
    same_bind (bits_in y) (bits_in y) _ _ refl λ k. ap (λ s. moved w x (pos s *ℤ number_of t k)) e ∙ ap (λ z. moved w x (pos n *ℤ z)) (numbers t u k f)
mixed w op.Subtract m n t u x y e f =
    same_bind (bits_in y) (bits_in y) _ _ refl λ k. ap (λ s. moved w x (pos s *ℤ neg_ℤ (number_of t k))) e ∙ ap (λ z. moved w x (pos n *ℤ neg_ℤ z)) (numbers t u k f)
mixed w op.Equal m n t u x y e f = refl
mixed w op.Unequal m n t u x y e f = refl
mixed w _ m n t u x y e f = refl

integers : (o : BinaryOp) (s t u v : CType) (x y : Value) → is_unsigned (operating_type o s t) ≡ is_unsigned (operating_type o u v) → on_integers o s t x y ≡ on_integers o u v x y
integers o s t u v x y e = same_bind (bits_in x) (bits_in x) _ _ refl λ m. same_bind (bits_in y) (bits_in y) _ _ refl λ n. ap (λ b. because (if b then on_unsigned o m n else on_ints o m n)) e

module _ (defs : List StructDef) (w : World) where
  by_one_target : (o : BinaryOp) (s t u v : CType) (a b c d : Option CType) (x y : Value) → is_unsigned s ≡ is_unsigned u → is_unsigned t ≡ is_unsigned v → OneTarget a c → OneTarget b d
      → by_targets defs w o s t a b x y ≡ by_targets defs w o u v c d x y
  by_one_target o s t u v None None None None x y e f h k = integers o s t u v x y (operating o s t u v e f)
  by_one_target o s t u v (Some a) None (Some c) None x y e f h k = mixed w o (size_of defs a) (size_of defs c) t v x y (same_size defs a c h) f
  by_one_target o s t u v None (Some b) None (Some d) x y e f h k = mixed w o (size_of defs b) (size_of defs d) s u y x (same_size defs b d k) e
  by_one_target o s t u v (Some a) (Some b) (Some c) (Some d) x y e f h k = ap (λ n. two_pointers w o n x y) (same_size defs a c h)
  by_one_target o s t u v None b (Some c) d x y e f h k = absurd h
  by_one_target o s t u v (Some a) b None d x y e f h k = absurd h
  by_one_target o s t u v None None None (Some d) x y e f h k = absurd k
  by_one_target o s t u v None (Some b) None None x y e f h k = absurd k
  by_one_target o s t u v (Some a) None (Some c) (Some d) x y e f h k = absurd k
  by_one_target o s t u v (Some a) (Some b) (Some c) None x y e f h k = absurd k

  same_combined : (o : BinaryOp) (s t u v : CType) (x y : Value) → OneType s u → OneType t v → combined defs w o s t x y ≡ combined defs w o u v x y
  unfolding combined
  same_combined o s t u v x y h k =
      by_one_target o s t u v (target_of s) (target_of t) (target_of u) (target_of v) x y (shallow s u h).2 (shallow t v k).2 (targets s u h) (targets t v k)

same_changed : (w : World) (o : UnaryOp) (t u : CType) (x : Value) → OneType t u → changed w o t x ≡ changed w o u x
unfolding changed
same_changed w Not t u x h = refl
same_changed w Plus t u x h = refl
same_changed w Complement t u x h = refl
same_changed w Minus t u x h =
    same_bind (bits_in x) (bits_in x) _ _ refl λ n. ap (λ b. because (if b then Ok (subtract 0 n) else signed_negate n)) (shallow t u h).2

-- ---- expressions

module _ (p : Program) (h : Here) where
  same_at : (t u : CType) (v : Value) → OneType t u → value_at p h t v ≡ value_at p h u v
  same_at t u v k =
      let s = shallow t u k in
      ap (λ b. if b then Ok v else (load h.world (kind_of t) v >>= converted t)) s.0
      ∙ ap (λ r. if is_array u then Ok v else r) (same_bind (load h.world (kind_of t) v) (load h.world (kind_of u) v) (converted t) (converted u) (ap (λ j. load h.world j v) s.3) s.5)

  -- two typed trees of one expression
  pub record Same (x y : Typed) : Type 0 where
    pub ctype : OneType (type_of x) (type_of y)
    pub value : value_of p h x ≡ value_of p h y
    pub place : place_of p h x ≡ place_of p h y
    pub assigns : assigned p h x ≡ assigned p h y

  same_placed : (t u : CType) (m n : Meant) → OneType t u → m ≡ n → (m >>= value_at p h t) ≡ (n >>= value_at p h u)
  same_placed t u m n k e = same_bind m n _ _ e λ v. same_at t u v k

  same_used : (m n : Meant) → m ≡ n → (m >>= λ v. used h.world v) ≡ (n >>= λ v. used h.world v)
  same_used m n e = ap (λ r. r >>= λ v. used h.world v) e

  same_chosen : (t u : CType) (m n : Meant) → OneType t u → m ≡ n → chosen_as p h t m ≡ chosen_as p h u n
  same_chosen t u m n k e = same_bind m n _ _ e λ v. same_bind (used h.world v) (used h.world v) _ _ refl (shallow t u k).5

  same_joined : (o : BinaryOp) (a b c d : Typed) → Same a c → Same b d
      → (value_of p h a >>= λ x. value_of p h b >>= λ y. combined p.defs h.world o (type_of a) (type_of b) x y) ≡ (value_of p h c >>= λ x. value_of p h d >>= λ y. combined p.defs h.world o (type_of c) (type_of d) x y)
  same_joined o a b c d q r =
      same_bind (value_of p h a) (value_of p h c) _ _ q.value λ x.
      same_bind (value_of p h b) (value_of p h d) _ _ r.value λ y.
      same_combined p.defs h.world o (type_of a) (type_of b) (type_of c) (type_of d) x y q.ctype r.ctype

  abbrev offset_in : Option AMember → ℕ
  offset_in None = 0
  offset_in (Some m) = m.at

  abbrev target_number : Option CType → ℕ
  target_number None = 0
  target_number (Some t) = struct_number t

  same_dot : (a c : Typed) (m n : ℕ) → OneType (type_of a) (type_of c) → m ≡ n → dot_offset p a m ≡ dot_offset p c n
  same_dot a c m n k e = ap (λ j. dot_offset p a j) e ∙ ap (λ s. offset_in (slice_get (members_of p.defs s) n)) (shallow (type_of a) (type_of c) k).4

  one_number : (s t : Option CType) → OneTarget s t → target_number s ≡ target_number t
  one_number None None k = refl
  one_number (Some s) (Some t) k = (shallow s t k).4
  one_number None (Some t) k = absurd k
  one_number (Some s) None k = absurd k

  same_arrow : (a c : Typed) (m n : ℕ) → OneType (type_of a) (type_of c) → m ≡ n → arrow_offset p a m ≡ arrow_offset p c n
  same_arrow a c m n k e =
      ap (λ j. arrow_offset p a j) e ∙ ap (λ s. offset_in (slice_get (members_of p.defs s) n)) (one_number (target_of (type_of a)) (target_of (type_of c)) (targets (type_of a) (type_of c) k))

  same_member : (m n : ℕ) (a b : Meant) → m ≡ n → a ≡ b → member_at p h m a ≡ member_at p h n b
  same_member m n a b e f = ap (λ k. member_at p h k a) e ∙ ap (member_at p h n) f

  same_tested : (a b c d e f : Meant) → a ≡ b → c ≡ d → e ≡ f → tested p h a c e ≡ tested p h b d f
  same_tested a b c d e f i j k = ap (λ x. tested p h x c e) i ∙ ap (λ x. tested p h b x e) j ∙ ap (tested p h b d) k

  -- ---- a plain assignment

  same_scalar : (a b c d : Typed) → Same a c → Same b d → scalar_assigned p h (type_of a) a b ≡ scalar_assigned p h (type_of c) c d
  same_scalar a b c d q r =
      let s = shallow (type_of a) (type_of c) q.ctype in
      same_bind (place_of p h a) (place_of p h c) _ _ q.place λ place.
      same_bind (value_of p h b) (value_of p h d) _ _ r.value λ v.
      same_bind (converted (type_of a) v) (converted (type_of c) v) _ _ (s.5 v) λ x.
      ap (λ k. store h.world k place x >>= λ w. Ok (record { world = w; value = x })) s.3

  same_struct : (a b c d : Typed) → Same a c → Same b d → struct_assigned p h (type_of a) a b ≡ struct_assigned p h (type_of c) c d
  same_struct a b c d q r =
      let e = same_cells p.defs (type_of a) (type_of c) q.ctype in
      same_bind (place_of p h a) (place_of p h c) _ _ q.place λ to.
      same_bind (place_of p h b) (place_of p h d) _ _ r.place λ from.
      same_bind (load_struct h.world (cells_of p.defs (type_of a)) from) (load_struct h.world (cells_of p.defs (type_of c)) from) _ _ (ap (λ ls. load_struct h.world ls from) e) λ xs.
      ap (λ ls. store_struct h.world ls to xs >>= λ w. Ok (record { world = w; value = no_value })) e

  same_assigned : (a b c d : Typed) → Same a c → Same b d
      → (if is_struct (type_of a) then struct_assigned p h (type_of a) a b else scalar_assigned p h (type_of a) a b) ≡ (if is_struct (type_of c) then struct_assigned p h (type_of c) c d else scalar_assigned p h (type_of c) c d)
  same_assigned a b c d q r =
      ap (λ x. if x then struct_assigned p h (type_of a) a b else scalar_assigned p h (type_of a) a b) (shallow (type_of a) (type_of c) q.ctype).1
      ∙ ap (λ x. if is_struct (type_of c) then x else scalar_assigned p h (type_of a) a b) (same_struct a b c d q r)
      ∙ ap (λ x. if is_struct (type_of c) then struct_assigned p h (type_of c) c d else x) (same_scalar a b c d q r)

  -- ---- the forms

  abbrev SameAt : Typed → Typed → Typed → Typed → Type 0
  SameAt a x b y = (a ≡ x) × (b ≡ y) × Same x y

  alike_parts : (a x b y : Typed) → a ≡ x → b ≡ y → Same x y → Same a b
  alike_parts a x b y e f s = subst (λ z. Same z b) (sym e) (subst (λ z. Same x z) (sym f) s)

  -- whatever it is, it has no value, no place and assigns nothing
  nothing : (x y : Typed) → OneType (type_of x) (type_of y) → value_of p h x ≡ value_of p h y → place_of p h x ≡ place_of p h y → assigned p h x ≡ assigned p h y → Same x y
  nothing x y k e f g = record { ctype = k; value = e; place = f; assigns = g }

  abbrev Heads : Typed → Typed → Type 0
  Heads x y = OneType (type_of x) (type_of y)

  paren : (x y a b : Typed) → IsParen a x → IsParen b y → Heads x y → Same a b → Same x y
  paren (Parens' t i c) (Parens' u j d) a b e f k s = let q = alike_parts c a d b e f s in record { ctype = k; value = q.value; place = q.place; assigns = refl }
  paren (Parens' t i c) y a b e f k s = absurd f
  paren x y a b e f k s = absurd e

  index : (x y a b c d : Typed) → IsIndex a b x → IsIndex c d y → Heads x y → Same a c → Same b d → Same x y
  index (Index' t i a' j b') (Index' u k c' l d') a b c d e f z q r =
      let m = alike_parts a' a c' c e.0 f.0 q in
      let n = alike_parts b' b d' d e.1 f.1 r in
      let v = same_joined op.Add a' b' c' d' m n in
      record { ctype = z; value = same_placed t.ctype u.ctype _ _ z v; place = v; assigns = refl }
  index (Index' t i a' j b') y a b c d e f z q r = absurd f
  index x y a b c d e f z q r = absurd e

  member : (defs : List StructDef) (w : Access) (name : List ℕ) (x y a c : Typed) → IsMember defs w name a x → IsMember defs w name c y → Heads x y → Same a c → Same x y
  member defs access.Dot name (Dot' t i a' m) (Dot' u j c' n) a c e f z q =
      let s = alike_parts a' a c' c e.0 f.0 q in
      let k = alike_same (plain (type_of a)) (plain (type_of c)) q.ctype in
      let same : m ≡ n = one_some m n (sym e.1 ∙ ap (λ r. member_number defs r name) k ∙ f.1) in
      let v = same_member (dot_offset p a' m) (dot_offset p c' n) (place_of p h a') (place_of p h c') (same_dot a' c' m n s.ctype same) s.place in
      record { ctype = z; value = same_placed t.ctype u.ctype _ _ z v; place = v; assigns = refl }
  member defs access.Arrow name (Arrow' t i a' m) (Arrow' u j c' n) a c e f z q =
      let s = alike_parts a' a c' c e.0 f.0 q in
      let k = alike_same (plain (type_of a)) (plain (type_of c)) q.ctype in
      let same : m ≡ n = one_some m n (sym e.1 ∙ ap (λ r. pointed_number defs (value_type r) name) k ∙ f.1) in
      let v = same_member (arrow_offset p a' m) (arrow_offset p c' n) (value_of p h a') (value_of p h c') (same_arrow a' c' m n s.ctype same) s.value in
      record { ctype = z; value = same_placed t.ctype u.ctype _ _ z v; place = v; assigns = refl }
  member defs access.Dot name (Dot' t i a' m) y a c e f z q = absurd f
  member defs access.Arrow name (Arrow' t i a' m) y a c e f z q = absurd f
  member defs w name x y a c e f z q = absurd e

  after : (s : Step) (x y a c : Typed) → IsAfter s a x → IsAfter s c y → Heads x y → Same x y
  after s (After' t i a' o) (After' u j c' q) a c e f z = record { ctype = z; value = refl; place = refl; assigns = refl }
  after s (After' t i a' o) y a c e f z = absurd f
  after s x y a c e f z = absurd e

  unary : (o : UnaryOp) (x y a c : Typed) → IsUnary o a x → IsUnary o c y → Heads x y → Same a c → Same x y
  unary o (Unary' t v i a') (Unary' u w j c') a c e f z q =
      let s = alike_parts a' a c' c e.1 f.1 q in
      record {
        ctype = z;
        value = same_bind (value_of p h a') (value_of p h c') _ _ s.value λ x. ap (λ o. changed h.world o (type_of a') x) (e.0 ∙ sym f.0) ∙ same_changed h.world w (type_of a') (type_of c') x s.ctype;
        place = refl;
        assigns = refl;
      }
  unary o (Unary' t v i a') y a c e f z q = absurd f
  unary o x y a c e f z q = absurd e

  prefixed : (o : PrefixOp) (x y a c : Typed) → IsPrefixed o a x → IsPrefixed o c y → Heads x y → Same a c → Same x y
  prefixed (prefix.Step s) (Before' t v i a') (Before' u w j c') a c e f z q = record { ctype = z; value = refl; place = refl; assigns = refl }
  prefixed prefix.Address (Address' t i a') (Address' u j c') a c e f z q = record { ctype = z; value = ap (λ m. m >>= λ v. Ok v) (alike_parts a' a c' c e f q).place; place = refl; assigns = refl }
  prefixed prefix.Dereference (Follow' t i a') (Follow' u j c') a c e f z q =
      let v = same_used (value_of p h a') (value_of p h c') (alike_parts a' a c' c e f q).value in
      record { ctype = z; value = same_placed t.ctype u.ctype _ _ z v; place = v; assigns = refl }
  prefixed prefix.Sizeof (SizeOf' t i a') (SizeOf' u j c') a c e f z q =
      record { ctype = z; value = ap (λ n. Ok (Number n)) (same_size p.defs (type_of a') (type_of c') (alike_parts a' a c' c e f q).ctype); place = refl; assigns = refl }
  prefixed prefix.Plus x y a c e f z q = unary Plus x y a c e f z q
  prefixed prefix.Minus x y a c e f z q = unary Minus x y a c e f z q
  prefixed prefix.Complement x y a c e f z q = unary Complement x y a c e f z q
  prefixed prefix.Not x y a c e f z q = unary Not x y a c e f z q
  prefixed (prefix.Step s) (Before' t v i a') y a c e f z q = absurd f
  prefixed prefix.Address (Address' t i a') y a c e f z q = absurd f
  prefixed prefix.Dereference (Follow' t i a') y a c e f z q = absurd f
  prefixed prefix.Sizeof (SizeOf' t i a') y a c e f z q = absurd f
  prefixed o x y a c e f z q = absurd e

  size_of_type : (t : Plain) (x y : Typed) → IsSizeOfType t x → IsSizeOfType t y → Heads x y → Same x y
  size_of_type t (SizeOfType g u) (SizeOfType k v) e f z = record { ctype = z; value = ap (λ n. Ok (Number n)) (same_size p.defs u v (one_type u v (e ∙ sym f))); place = refl; assigns = refl }
  size_of_type t (SizeOfType g u) y e f z = absurd f
  size_of_type t x y e f z = absurd e

  cast : (x y a c : Typed) → IsCast a x → IsCast c y → Heads x y → Same a c → Same x y
  cast (Cast' t i a') (Cast' u j c') a c e f z q =
      record { ctype = z; value = same_bind (value_of p h a') (value_of p h c') _ _ (alike_parts a' a c' c e f q).value (shallow t.ctype u.ctype z).5; place = refl; assigns = refl }
  cast (Cast' t i a') y a c e f z q = absurd f
  cast x y a c e f z q = absurd e

  operation : (o : BinaryOp) (x y a b c d : Typed) → IsOperation o a b x → IsOperation o c d y → Heads x y → Same a c → Same b d → Same x y
  operation o (Binary' t i a' v j b') (Binary' u k c' w l d') a b c d e f z q r =
      let m = alike_parts a' a c' c e.1 f.1 q in
      let n = alike_parts b' b d' d e.2 f.2 r in
      record {
        ctype = z;
        value = ap (λ o. value_of p h a' >>= λ x. value_of p h b' >>= λ y. combined p.defs h.world o (type_of a') (type_of b') x y) (sym e.0 ∙ f.0) ∙ same_joined w a' b' c' d' m n;
        place = refl;
        assigns = refl;
      }
  operation o (Binary' t i a' v j b') y a b c d e f z q r = absurd f
  operation o x y a b c d e f z q r = absurd e

  assignment : (o : Option BinaryOp) (x y a b c d : Typed) → IsAssigned o a b x → IsAssigned o c d y → Heads x y → Same a c → Same b d → Same x y
  assignment None (Assign' t i a' None j b') (Assign' u k c' None l d') a b c d e f z q r =
      record { ctype = z; value = refl; place = refl; assigns = same_assigned a' b' c' d' (alike_parts a' a c' c e.1 f.1 q) (alike_parts b' b d' d e.2 f.2 r) }
  assignment (Some o) (Assign' t i a' (Some v) j b') (Assign' u k c' (Some w) l d') a b c d e f z q r = record { ctype = z; value = refl; place = refl; assigns = refl }
  assignment None (Assign' t i a' (Some v) j b') y a b c d e f z q r = no_some v e.0
  assignment None (Assign' t i a' None j b') (Assign' u k c' (Some w) l d') a b c d e f z q r = no_some w f.0
  assignment (Some o) (Assign' t i a' None j b') y a b c d e f z q r = no_some o (sym e.0)
  assignment (Some o) (Assign' t i a' (Some v) j b') (Assign' u k c' None l d') a b c d e f z q r = no_some o (sym f.0)
  assignment o (Assign' t i a' v j b') y a b c d e f z q r = absurd f
  assignment o x y a b c d e f z q r = absurd e

  joined : (w : Written) (x y a b c d : Typed) → IsJoined w a b x → IsJoined w c d y → Heads x y → Same a c → Same b d → Same x y
  joined written.Comma (Comma' t i a' j b') (Comma' u k c' l d') a b c d e f z q r =
      let m = alike_parts a' a c' c e.0 f.0 q in
      let n = alike_parts b' b d' d e.1 f.1 r in
      record {
        ctype = z;
        value = same_bind (value_of p h a') (value_of p h c') _ _ m.value λ v. same_bind (used h.world v) (used h.world v) _ _ refl λ x. same_used (value_of p h b') (value_of p h d') n.value;
        place = refl;
        assigns = refl;
      }
  joined written.LogicalOr (Or' t i a' j b') (Or' u k c' l d') a b c d e f z q r =
      let m = alike_parts a' a c' c e.0 f.0 q in
      let n = alike_parts b' b d' d e.1 f.1 r in
      record { ctype = z; value = same_tested _ _ _ _ _ _ m.value refl (ap (truth_of p h) n.value); place = refl; assigns = refl }
  joined written.LogicalAnd (And' t i a' j b') (And' u k c' l d') a b c d e f z q r =
      let m = alike_parts a' a c' c e.0 f.0 q in
      let n = alike_parts b' b d' d e.1 f.1 r in
      record { ctype = z; value = same_tested _ _ _ _ _ _ m.value (ap (truth_of p h) n.value) refl; place = refl; assigns = refl }
  joined (written.Assign o) x y a b c d e f z q r = assignment (compound_of o) x y a b c d e f z q r
  joined written.BitOr x y a b c d e f z q r = operation op.BitOr x y a b c d e f z q r
  joined written.BitXor x y a b c d e f z q r = operation op.BitXor x y a b c d e f z q r
  joined written.BitAnd x y a b c d e f z q r = operation op.BitAnd x y a b c d e f z q r
  joined written.Equal x y a b c d e f z q r = operation op.Equal x y a b c d e f z q r
  joined written.NotEqual x y a b c d e f z q r = operation op.Unequal x y a b c d e f z q r
  joined written.Less x y a b c d e f z q r = operation op.Less x y a b c d e f z q r
  joined written.Greater x y a b c d e f z q r = operation op.Greater x y a b c d e f z q r
  joined written.LessEqual x y a b c d e f z q r = operation op.LessEqual x y a b c d e f z q r
  joined written.GreaterEqual x y a b c d e f z q r = operation op.GreaterEqual x y a b c d e f z q r
  joined written.ShiftLeft x y a b c d e f z q r = operation op.ShiftLeft x y a b c d e f z q r
  joined written.ShiftRight x y a b c d e f z q r = operation op.ShiftRight x y a b c d e f z q r
  joined written.Add x y a b c d e f z q r = operation op.Add x y a b c d e f z q r
  joined written.Subtract x y a b c d e f z q r = operation op.Subtract x y a b c d e f z q r
  joined written.Multiply x y a b c d e f z q r = operation op.Multiply x y a b c d e f z q r
  joined written.Divide x y a b c d e f z q r = operation op.Divide x y a b c d e f z q r
  joined written.Remainder x y a b c d e f z q r = operation op.Remainder x y a b c d e f z q r
  joined written.Comma (Comma' t i a' j b') y a b c d e f z q r = absurd f
  joined written.LogicalOr (Or' t i a' j b') y a b c d e f z q r = absurd f
  joined written.LogicalAnd (And' t i a' j b') y a b c d e f z q r = absurd f
  joined w x y a b c d e f z q r = absurd e

  choice : (x y a b c d e f : Typed) → IsChoice a b c x → IsChoice d e f y → Heads x y → Same a d → Same b e → Same c f → Same x y
  choice (Choice' t i a' j b' k c') (Choice' u l d' m e' n f') a b c d e f g o z q r s =
      let x = alike_parts a' a d' d g.0 o.0 q in
      let y = alike_parts b' b e' e g.1 o.1 r in
      let w = alike_parts c' c f' f g.2 o.2 s in
      record { ctype = z; value = same_tested _ _ _ _ _ _ x.value (same_chosen t.ctype u.ctype (value_of p h b') (value_of p h e') z y.value) (same_chosen t.ctype u.ctype (value_of p h c') (value_of p h f') z w.value); place = refl; assigns = refl }
  choice (Choice' t i a' j b' k c') y a b c d e f g o z q r s = absurd o
  choice x y a b c d e f g o z q r s = absurd g

  call : (P Q : ℕ → Type 0) (xs ys : List Typed) (x y : Typed) → IsCall P xs x → IsCall Q ys y → Heads x y → Same x y
  call P Q xs ys (Call' t f i row) (Call' u g j rows) e k z = record { ctype = z; value = refl; place = refl; assigns = refl }
  call P Q xs ys (Call' t f i row) y e k z = absurd k
  call P Q xs ys x y e k z = absurd e

  constant : (m : ℕ) (x y : Typed) → IsConstant m x → IsConstant m y → Heads x y → Same x y
  constant m (Constant t a) (Constant u b) e f z = record { ctype = z; value = ap (λ n. Ok (Number n)) (e ∙ sym f); place = refl; assigns = refl }
  constant m (Constant t a) y e f z = absurd f
  constant m x y e f z = absurd e

  module _ (v : Scope) where
    leaf_same : (at : Place) (kind : LeafKind) (text : List ℕ) (x y : Typed) → IsLeaf v at kind text x → IsLeaf v at kind text y → Heads x y → Same x y
    leaf_same at leaf.Name text (Name t m) (Name u n) e f z =
        let same = one_some m n (sym e ∙ f) in
        let s = ap (λ k. or_ill_typed (place_in (slice_get p.symbols k) h)) same in
        record { ctype = z; value = same_placed t.ctype u.ctype _ _ z s; place = s; assigns = refl }
    leaf_same at (leaf.Constant i) text x y e f z = constant i.value x y e f z
    leaf_same at (leaf.Character c) text x y e f z = constant (word_of_signed c) x y e f z
    leaf_same at leaf.Text text (Literal t m) (Literal u n) e f z =
        let same = e ∙ sym f in
        record { ctype = z; value = ap (λ k. value_at p h t.ctype (At (length p.objects + k) 0)) same ∙ same_at t.ctype u.ctype (At (length p.objects + n) 0) z; place = ap (λ k. Ok (At (length p.objects + k) 0)) same; assigns = refl }
    leaf_same at leaf.Name text (Name t m) y e f z = absurd f
    leaf_same at leaf.Text text (Literal t m) y e f z = absurd f
    leaf_same at kind text x y e f z = absurd e

    heads : (e : Tree) (x y : Typed) → HasHead v e x → HasHead v e y → Heads x y
    heads e x y a b = one_type (type_of x) (type_of y) (one_some (plain (type_of x)) (plain (type_of y)) (sym a.1 ∙ b.1))

    pub same : (e : Tree) (x y : Typed) → Elaborates v e x → Elaborates v e y → Same x y
    same (Leaf at kind text) x y (i, r) (j, r') = leaf_same at kind text x y r r' (heads (Leaf at kind text) x y i j)
    same (Paren at s) x y (i, (a, r, k)) (j, (c, r', k')) = paren x y a c r r' (heads (Paren at s) x y i j) (same s a c k k')
    same (Index at s t) x y (i, (a, b, r, k, l)) (j, (c, d, r', k', l')) = index x y a b c d r r' (heads (Index at s t) x y i j) (same s a c k k') (same t b d l l')
    same (Call at f) x y (i, r) (j, r') = call _ _ _ _ x y r r' (heads (Call at f) x y i j)
    same (With s t) x y (i, (xs, r, k)) (j, (ys, r', k')) = call _ _ _ _ x y r r' (heads (With s t) x y i j)
    same (Member at s w q name) x y (i, (a, r, k)) (j, (c, r', k')) = member (defs_of v) w name x y a c r r' (heads (Member at s w q name) x y i j) (same s a c k k')
    same (After at s step) x y (i, (a, r, k)) (j, (c, r', k')) = after step x y a c r r' (heads (After at s step) x y i j)
    same (Prefix at w s) x y (i, (a, r, k)) (j, (c, r', k')) = prefixed w x y a c r r' (heads (Prefix at w s) x y i j) (same s a c k k')
    same (SizeofType at s d) x y (i, (t, e, r)) (j, (u, g, r')) = size_of_type t x y r (subst (λ w. IsSizeOfType w y) (one_known u t (sym g ∙ e)) r') (heads (SizeofType at s d) x y i j)
    same (Cast at s d t) x y (i, (a, r, k)) (j, (c, r', k')) = cast x y a c r r' (heads (Cast at s d t) x y i j) (same t a c k k')
    same (Binary at w s t) x y (i, (a, b, r, k, l)) (j, (c, d, r', k', l')) = joined w x y a b c d r r' (heads (Binary at w s t) x y i j) (same s a c k k') (same t b d l l')
    same (Choice at q s t) x y (i, (a, b, c, r, k, l, m)) (j, (d, e, f, r', k', l', m')) = choice x y a b c d e f r r' (heads (Choice at q s t) x y i j) (same q a d k k') (same s b e l l') (same t c f m m')
    same _ x y a b = absurd a

  pub same_values : (x y : Typed) → Same x y → values_meant p h x ≡ values_meant p h y
  same_values x y s =
      let t = type_of x in
      let u = type_of y in
      ap (λ b. if b then (place_of p h x >>= λ v. load_struct h.world (cells_of p.defs t) v) else (value_of p h x >>= λ v. Ok (v ∷ []))) (shallow t u s.ctype).1
      ∙ ap (λ m. if is_struct u then m else (value_of p h x >>= λ v. Ok (v ∷ []))) (same_bind (place_of p h x) (place_of p h y) _ _ s.place λ v. ap (λ ls. load_struct h.world ls v) (same_cells p.defs t u s.ctype))
      ∙ ap (λ m. if is_struct u then (place_of p h y >>= λ v. load_struct h.world (cells_of p.defs u) v) else m) (ap (λ r. r >>= λ v. Ok (v ∷ [])) s.value)

-- two typed trees of one expression have one type
head_agrees : (v : Scope) (e : Tree) (x y : Typed) → HasHead v e x → HasHead v e y → plain (type_of x) ≡ plain (type_of y)
head_agrees v e x y a b = one_some (plain (type_of x)) (plain (type_of y)) (sym a.1 ∙ b.1)

pub heads_agree : (p : Program) (v : Scope) (e : Tree) (x y : Typed) → Elaborates v e x → Elaborates v e y → plain (type_of x) ≡ plain (type_of y)
heads_agree p v (Leaf at kind text) x y a b = head_agrees v (Leaf at kind text) x y a.0 b.0
heads_agree p v (Paren at s) x y a b = head_agrees v (Paren at s) x y a.0 b.0
heads_agree p v (Index at s t) x y a b = head_agrees v (Index at s t) x y a.0 b.0
heads_agree p v (Call at f) x y a b = head_agrees v (Call at f) x y a.0 b.0
heads_agree p v (With s t) x y a b = head_agrees v (With s t) x y a.0 b.0
heads_agree p v (Member at s w q name) x y a b = head_agrees v (Member at s w q name) x y a.0 b.0
heads_agree p v (After at s step) x y a b = head_agrees v (After at s step) x y a.0 b.0
heads_agree p v (Prefix at w s) x y a b = head_agrees v (Prefix at w s) x y a.0 b.0
heads_agree p v (SizeofType at s d) x y a b = head_agrees v (SizeofType at s d) x y a.0 b.0
heads_agree p v (Cast at s d t) x y a b = head_agrees v (Cast at s d t) x y a.0 b.0
heads_agree p v (Binary at w s t) x y a b = head_agrees v (Binary at w s t) x y a.0 b.0
heads_agree p v (Choice at q s t) x y a b = head_agrees v (Choice at q s t) x y a.0 b.0
heads_agree p v _ x y a b = absurd a
