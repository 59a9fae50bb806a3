-- The code of each form of a well-typed expression but a call takes no number but 0 as a pointer.
use Rattle.std.proofs.Common.{◌≡◌, refl, sym, ap, subst, ◌∙◌, arith, ℕ, suc, ◌+◌, ◌<◌, ◌^◌, List, [], ◌∷◌, ◌++◌, length, Bool, true, false, not, ◌&&◌, ◌||◌, Option, Some, None, true≢false, slice_get, ◌⊎◌, inl, inr}
use Rattle.std.specs.Prelude.{Ok, bytes_eq, codes, if◌then◌else◌}
use Rattle.ldb_words.specs.Word.{bit_of}
use Rattle.c_tree.specs.declared.types.CType.{CType}
use Rattle.c_tree.specs.declared.types.CType.TheVariants as ctype
use Rattle.c_tree.specs.declared.typed.BinaryOp.{BinaryOp}
use Rattle.c_tree.specs.declared.typed.BinaryOp.TheVariants.{Equal, Unequal, Less, Greater, LessEqual, GreaterEqual, Add, Subtract}
use Rattle.c_tree.specs.declared.typed.UnaryOp.{UnaryOp}
use Rattle.c_tree.specs.declared.typed.Head.{Head}
use Rattle.c_tree.specs.declared.typed.Typed.{Typed}
use Rattle.c_tree.specs.declared.typed.Typed.TheVariants.{Assign', Choice', Or', And', Cast', Unary'}
use Rattle.c_tree.specs.declared.rows.Program.{Program}
use Rattle.c_tree.specs.declared.rows.Function.{Function}
use Rattle.c_tree.specs.declared.rows.SymbolRow.{SymbolRow}
use Rattle.c_tree.specs.declared.rows.Referent.{Referent}
use Rattle.c_tree.specs.declared.rows.Referent.TheVariants.{Object, Local, Function as Defined, Declared}
use Rattle.c_tree.specs.Types.{type_of, target_of, kind_of, is_struct, is_array, is_unsigned}
use Rattle.c_tree.specs.Layout.{size_of}
use Rattle.c_operators.specs.Arithmetic.{operating_type}
use Rattle.c_source.specs.Source.{struct_number}
use Rattle.c_typing.specs.Plain.{Plain, Int, Unsigned, Void, plain, same, is_integer, is_pointer, is_struct as is_a_struct, is_scalar, value_type}
use Rattle.c_typing.specs.declared.constant.Constant.{Constant}
use Rattle.c_typing.specs.declared.constant.Constant.TheVariants as folds
use Rattle.c_typing.specs.Constants.{constant, operand_type}
use Rattle.c_typing.specs.Values.{operated, works_unsigned, with_one, truth_in, combined, chosen}
use Rattle.c_typing.specs.Rules.{only, is_movable, binary_type, converts, is_copied, is_compound, is_move, compound_type}
use Rattle.c_typing.specs.Expressions.{Function as AFunction, Hidden, Scope, object_type, is_lvalue, operand, value, name_type, IsTyped}
use Rattle.c_typing.specs.Declarations.{function_in, built_in, denoted_by, scope_at}
use Rattle.c_typing.specs.Programs.{KeepsRules}
use Rattle.c_store.specs.Store.{Value, Number, World}
use Rattle.slot_ir.specs.declared.code.Access.{Access}
use Rattle.slot_ir.specs.declared.code.Access.TheVariants as access
use Rattle.slot_ir.specs.declared.code.SlotCode.{SlotCode}
use Rattle.slot_ir.specs.declared.code.SlotOp.{SlotOp}
use Rattle.slot_ir.specs.declared.code.SlotOp.TheVariants as op
use Rattle.slot_ir.specs.declared.code.PointerOp.TheVariants as pointer
use Rattle.slot_ir.specs.Operators.{extended, is_zero, unary, binary}
use Rattle.slot_ir.specs.Slots.{Temps, Frame}
use Rattle.slot_pointers.specs.Taken.{is_pointer as points, serves, holds}
use Rattle.slot_gen.specs.Expressions.{access_of, cast_code, load_code, word_op, unary_op, mixed_op, pointers_op, targets_op, combine_op, choice_code, and_code, or_code, referent_code, unless_register, name_code, read_at, write_at, update_at, register_in, expr_code, place_code}
use Rattle.slot_formed.proofs.Lists.{no_none, and_parts, or_parts}
use Rattle.slot_formed.proofs.Sizes.{Formed, formed_size, size_plain}
use Rattle.slot_formed.proofs.Types.{name_there}
use Rattle.slot_formed.proofs.Constants.{is_constant, two_numbers, chosen_constants}
use Rattle.slot_formed.proofs.Evaluated.{Is, variable_is, binary_is, unary_is, cast_is}
use Rattle.slot_formed.proofs.Safe.{extended_serves}
use Rattle.slot_formed.proofs.Claims.{Held, Moves, Claim, no_both, only_is, target_none, target_some, integer_none, serves_type, binary_moves, converted_points, equal_points, branch_points, choice_value, choice_common, integer_unary, constant_integer, constant_none, integer_same}
use Rattle.slot_formed.proofs.Triples as triples
use Rattle.slot_formed.proofs.Triples.{Enters, Gives, Runs, Any, Below, Sets, Casts, Zero, sets_below, sets_above, sets_held, held_same, below_less, below_then, seq, post, nothing, weaker}
use Rattle.slot_formed.proofs.Scalars.{integer_no, no_array_value, assigned_pointer, struct_no, struct_pointer, movable_pointer, pointer_value, is_wide, common_wide, wide_access, is_true_of, chosen_is, number_is}

-- ---- operators on two temporaries

abbrev Compares : BinaryOp → Temps → ℕ → ℕ → Type 0
Compares Equal t x y = holds points (t x) && holds points (t y) ≡ true
Compares Unequal t x y = holds points (t x) && holds points (t y) ≡ true
Compares _ t x y = Unit {0}

abbrev Moved : BinaryOp → Value → Type 0
Moved Add v = points v ≡ true
Moved Subtract v = points v ≡ true
Moved _ v = Unit {0}

moved_first : (op : BinaryOp) (u : CType) (v : Value) → Moves (Some u) None op → Moved op v → points v ≡ true
moved_first Add u v m h = h
moved_first Subtract u v m h = h
moved_first _ u v m h = absurd m

moved_second : (op : BinaryOp) (u : CType) (v : Value) → Moves None (Some u) op → Moved op v → points v ≡ true
moved_second Add u v m h = h
moved_second _ u v m h = absurd m

module _ (c : SlotCode) (f r : ℕ) (frames : List Frame) (K at : ℕ) (P : Temps → Type 0) where
  loose : (d : ℕ) (o : SlotOp) (C : Value → Type 0) (Q : Temps → Temps → Type 0) → ((t u : Temps) → P t → Q t u → Sets d C t u) → Runs c f r frames K at P (o ∷ []) Q → Runs c f r frames K at P (o ∷ []) (Sets d C)
  loose d o C Q w x = post c f r frames K at P (o ∷ []) Q (Sets d C) w x

  binary_loose : (to x y : ℕ) (o : _) → Runs c f r frames K at P (op.Binary to x y o ∷ []) (Sets to (λ v. Unit {0}))
  binary_loose to x y o =
      loose to (op.Binary to x y o) (λ v. Unit {0}) (λ t u. Sets to (λ v. (m n : Value) × (t x ≡ Some m) × (t y ≡ Some n) × (binary o m n ≡ Ok v)) t u) (λ t u pre s. (s.0, tt, s.2)) (triples.binary_runs c f r frames K at P to x y o)

  mixed_runs : (to x y size : ℕ) (o : BinaryOp) (t : CType) → ((u : Temps) → P u → Compares o u x y) → Runs c f r frames K at P (mixed_op to x y size o t ∷ []) (Sets to (Moved o))
  mixed_runs to x y size Add t w = triples.index_runs c f r frames K at P to x y size (is_unsigned t) false
  mixed_runs to x y size Subtract t w = triples.index_runs c f r frames K at P to x y size (is_unsigned t) true
  mixed_runs to x y size Equal t w = triples.compare_runs c f r frames K at P to x y pointer.Equal (λ s pre. w s.temps pre)
  mixed_runs to x y size Unequal t w = triples.compare_runs c f r frames K at P to x y pointer.Unequal (λ s pre. w s.temps pre)
  mixed_runs to x y size _ t w = binary_loose to x y _

  pointers_runs : (to x y size : ℕ) (o : BinaryOp) → ((u : Temps) → P u → Compares o u x y) → Runs c f r frames K at P (pointers_op to x y size o ∷ []) (Sets to (λ v. Unit {0}))
  pointers_runs to x y size Equal w = triples.compare_runs c f r frames K at P to x y pointer.Equal (λ s pre. w s.temps pre)
  pointers_runs to x y size Unequal w = triples.compare_runs c f r frames K at P to x y pointer.Unequal (λ s pre. w s.temps pre)
  pointers_runs to x y size Less w = triples.compare_runs c f r frames K at P to x y pointer.Less (λ s pre. refl)
  pointers_runs to x y size Greater w = triples.compare_runs c f r frames K at P to x y pointer.Greater (λ s pre. refl)
  pointers_runs to x y size LessEqual w = triples.compare_runs c f r frames K at P to x y pointer.LessEqual (λ s pre. refl)
  pointers_runs to x y size GreaterEqual w = triples.compare_runs c f r frames K at P to x y pointer.GreaterEqual (λ s pre. refl)
  pointers_runs to x y size Subtract w = triples.distance_runs c f r frames K at P to x y size
  pointers_runs to x y size _ w = binary_loose to x y _

swap_compares : (o : BinaryOp) (t : Temps) (x y : ℕ) → Compares o t x y → Compares o t y x
swap_compares Equal t x y h = let q = and_parts (holds points (t x)) (holds points (t y)) h in ap (λ b. b && holds points (t x)) q.1 ∙ q.0
swap_compares Unequal t x y h = let q = and_parts (holds points (t x)) (holds points (t y)) h in ap (λ b. b && holds points (t x)) q.1 ∙ q.0
swap_compares _ t x y h = tt

module _ (p : Program) (accepted : KeepsRules p) (c : SlotCode) (f : ℕ) (v : List ℕ) (r : ℕ) (frames : List Frame) (K : ℕ) where
  abbrev s : Scope
  s = scope_at p f v

  abbrev RR : ℕ → (Temps → Type 0) → List SlotOp → (Temps → Temps → Type 0) → Type 0
  RR at P l Q = Runs c f r frames K at P l Q

  abbrev pub Result : Typed → ℕ → Temps → Temps → Type 0
  Result e d t u = Below d t u × Held (Claim s e) (u d)

  abbrev pub Place : ℕ → Temps → Temps → Type 0
  Place d t u = Below d t u × Held (λ v. points v ≡ true) (u d)

  -- ---- operators

  -- what is claimed of the result of an operator
  abbrev pub Combined : Typed → Typed → BinaryOp → Plain → Value → Type 0
  Combined a b o rt v =
      (is_pointer rt ≡ true → points v ≡ true)
      × Is v (combined o (operand_type a) (operand_type b) (constant p.defs a) (constant p.defs b))

  module _ (a b : Typed) (ta : IsTyped s a) (tb : IsTyped s b) (o : BinaryOp) (rt : Plain) (e : binary_type p.defs o (operand s a) (operand s b) ≡ Some rt) (at to x y : ℕ) (P : Temps → Type 0)
      (ha : (t : Temps) → P t → Held (Claim s a) (t x)) (hb : (t : Temps) → P t → Held (Claim s b) (t y)) where
    abbrev C : Value → Type 0
    C v = Combined a b o rt v

    compared : (A B : Option CType) → target_of (type_of a) ≡ A → target_of (type_of b) ≡ B → ((A ≡ None) × (B ≡ None) → ⊥) → (o : BinaryOp) → binary_type p.defs o (operand s a) (operand s b) ≡ Some rt → (t : Temps) → P t → Compares o t x y
    compared A B i j never o e t pre = by o e
      where
        both : ((target_of (type_of a) ≡ None) × (target_of (type_of b) ≡ None)) ⊎ ((holds points (t x) ≡ true) × (holds points (t y) ≡ true)) → holds points (t x) && holds points (t y) ≡ true
        both (inl q) = absurd (never (sym i ∙ q.0, sym j ∙ q.1))
        both (inr q) = ap (λ z. z && holds points (t y)) q.0 ∙ q.1

        by : (o : BinaryOp) → binary_type p.defs o (operand s a) (operand s b) ≡ Some rt → Compares o t x y
        by Equal e = both (equal_points s a b (t x) (t y) rt e (ha t pre) (hb t pre))
        by Unequal e = both (equal_points s a b (t x) (t y) rt e (ha t pre) (hb t pre))
        by _ e = tt

    abbrev F : ℕ → ℕ → Constant
    F = operated o (works_unsigned o (operand_type a) (operand_type b))

    first_pointer : (u : CType) (v : Value) → target_of (type_of a) ≡ Some u → Is v (combined o (operand_type a) (operand_type b) (constant p.defs a) (constant p.defs b))
    first_pointer u v i n k = let q = two_numbers F (constant p.defs a) (constant p.defs b) n k in no_none u (sym (constant_none s a q.0 ta q.2) ∙ i)

    second_pointer : (u : CType) (v : Value) → target_of (type_of b) ≡ Some u → Is v (combined o (operand_type a) (operand_type b) (constant p.defs a) (constant p.defs b))
    second_pointer u v j n k = let q = two_numbers F (constant p.defs a) (constant p.defs b) n k in no_none u (sym (constant_none s b q.1 tb q.3) ∙ j)

    by_targets : (A B : Option CType) → target_of (type_of a) ≡ A → target_of (type_of b) ≡ B → RR at P (targets_op p to x y o (type_of a) (type_of b) A B ∷ []) (Sets to C)
    by_targets None None i j =
        let w = word_op o (is_unsigned (operating_type o (type_of a) (type_of b))) in
        post c f r frames K at P (op.Binary to x y w ∷ []) (λ t u. Sets to (λ v. (m n : Value) × (t x ≡ Some m) × (t y ≡ Some n) × (binary w m n ≡ Ok v)) t u) (Sets to C)
        (λ t u pre q. (
          q.0,
          (
            λ k. absurd (subst (λ A. Moves A None o) i (subst (λ B. Moves (target_of (type_of a)) B o) j (binary_moves p.defs o s a b rt e k))),
            binary_is o (type_of a) (type_of b) q.1.0 q.1.1 q.0 (constant p.defs a) (constant p.defs b) (ha t pre q.1.0 q.1.2).1 (hb t pre q.1.1 q.1.3).1 q.1.4,
          ),
          q.2,
        )) (triples.binary_runs c f r frames K at P to x y w)
    by_targets (Some u) None i j =
        post c f r frames K at P (mixed_op to x y (size_of p.defs u) o (type_of b) ∷ []) (Sets to (Moved o)) (Sets to C)
        (λ t w pre q. (
          q.0,
          (
            λ k. moved_first o u q.0 (subst (λ A. Moves A None o) i (subst (λ B. Moves (target_of (type_of a)) B o) j (binary_moves p.defs o s a b rt e k))) q.1,
            first_pointer u q.0 i,
          ),
          q.2,
        )) (mixed_runs c f r frames K at P to x y (size_of p.defs u) o (type_of b) (compared (Some u) None i j (λ z. no_none u (sym z.0)) o e))
    by_targets None (Some u) i j =
        post c f r frames K at P (mixed_op to y x (size_of p.defs u) o (type_of a) ∷ []) (Sets to (Moved o)) (Sets to C)
        (λ t w pre q. (
          q.0,
          (
            λ k. moved_second o u q.0 (subst (λ A. Moves A (Some u) o) i (subst (λ B. Moves (target_of (type_of a)) B o) j (binary_moves p.defs o s a b rt e k))) q.1,
            second_pointer u q.0 j,
          ),
          q.2,
        )) (mixed_runs c f r frames K at P to y x (size_of p.defs u) o (type_of a) (λ t pre. swap_compares o t x y (compared None (Some u) i j (λ z. no_none u (sym z.1)) o e t pre)))
    by_targets (Some u) (Some w) i j =
        post c f r frames K at P (pointers_op to x y (size_of p.defs u) o ∷ []) (Sets to (λ v. Unit {0})) (Sets to C)
        (λ t z pre q. (
          q.0,
          (
            λ k. absurd (subst (λ A. Moves A (Some w) o) i (subst (λ B. Moves (target_of (type_of a)) B o) j (binary_moves p.defs o s a b rt e k))),
            first_pointer u q.0 i,
          ),
          q.2,
        )) (pointers_runs c f r frames K at P to x y (size_of p.defs u) o (compared (Some u) (Some w) i j (λ z. no_none u (sym z.0)) o e))

    pub combine_runs : RR at P (combine_op p to x y o (type_of a) (type_of b) ∷ []) (Sets to C)
    combine_runs = by_targets (target_of (type_of a)) (target_of (type_of b)) refl refl

  -- of a compound assignment, whose left side is an integer or is moved
  abbrev Compound : BinaryOp → CType → CType → Type 0
  Compound o t w = (is_integer (value_type (plain w)) ≡ true) × (((is_integer (plain t) ≡ true) ⊎ ((is_pointer (plain t) ≡ true) × (is_move o ≡ true))))

  compound_runs : (at to x y : ℕ) (o : BinaryOp) (t w : CType) (P : Temps → Type 0) → Compound o t w → RR at P (combine_op p to x y o t w ∷ []) (Sets to (λ z. is_pointer (plain t) ≡ true → points z ≡ true))
  compound_runs at to x y o t w P h = by h.1
    where
      C : Value → Type 0
      C z = is_pointer (plain t) ≡ true → points z ≡ true

      target_w : target_of w ≡ None
      target_w = target_none w h.0

      moved : (o : BinaryOp) (u : CType) → is_move o ≡ true → RR at P (mixed_op to x y (size_of p.defs u) o w ∷ []) (Sets to (λ z. is_pointer (plain t) ≡ true → points z ≡ true))
      moved Add u k = post c f r frames K at P (mixed_op to x y (size_of p.defs u) Add w ∷ []) (Sets to (λ z. points z ≡ true)) _ (λ t' u' pre q. (q.0, λ i. q.1, q.2)) (triples.index_runs c f r frames K at P to x y (size_of p.defs u) (is_unsigned w) false)
      moved Subtract u k = post c f r frames K at P (mixed_op to x y (size_of p.defs u) Subtract w ∷ []) (Sets to (λ z. points z ≡ true)) _ (λ t' u' pre q. (q.0, λ i. q.1, q.2)) (triples.index_runs c f r frames K at P to x y (size_of p.defs u) (is_unsigned w) true)
      moved _ u k = absurd (true≢false (sym k))

      by : (is_integer (plain t) ≡ true) ⊎ ((is_pointer (plain t) ≡ true) × (is_move o ≡ true)) → RR at P (combine_op p to x y o t w ∷ []) (Sets to (λ z. is_pointer (plain t) ≡ true → points z ≡ true))
      by (inl i) =
          subst (λ A. RR at P (targets_op p to x y o t w A (target_of w) ∷ []) (Sets to (λ z. is_pointer (plain t) ≡ true → points z ≡ true))) (sym (integer_none t i))
          (subst (λ B. RR at P (targets_op p to x y o t w None B ∷ []) (Sets to (λ z. is_pointer (plain t) ≡ true → points z ≡ true))) (sym target_w)
          (post c f r frames K at P (targets_op p to x y o t w None None ∷ []) (Sets to (λ z. Unit {0})) _ (λ t' u' pre q. (q.0, λ k. absurd (no_both (plain t) i k), q.2)) (binary_loose c f r frames K at P to x y _)))
      by (inr i) =
          let u = target_some t (pointer_value (plain t) i.0) in
          subst (λ A. RR at P (targets_op p to x y o t w A (target_of w) ∷ []) (Sets to (λ z. is_pointer (plain t) ≡ true → points z ≡ true))) (sym u.1)
          (subst (λ B. RR at P (targets_op p to x y o t w (Some u.0) B ∷ []) (Sets to (λ z. is_pointer (plain t) ≡ true → points z ≡ true))) (sym target_w) (moved o u.0 i.1))

  -- ---- reading and writing

  abbrev Loaded : CType → Value → Type 0
  Loaded t z = is_pointer (value_type (plain t)) ≡ true → points z ≡ true

  abbrev pub Kept : ℕ → (Value → Type 0) → Temps → Temps → Type 0
  Kept d C t u = Below d t u × Held C (u d)

  sets_kept : (d : ℕ) (C D : Value → Type 0) (t u : Temps) → ((z : Value) → C z → D z) → Sets d C t u → Kept d D t u
  sets_kept d C D t u w q = (sets_below d C t u q, λ z g. w z (sets_held d C t u q z g))

  read_claim : (t : CType) (z : Value) → value_type (plain t) ≡ plain t → serves (access_of t) z ≡ true → Loaded t z
  read_claim t z e h k = serves_type t z h (subst (λ y. is_pointer y ≡ true) e k)

  load_runs : (at d : ℕ) (t : CType) (P : Temps → Type 0) → ((u : Temps) → P u → Held (λ z. points z ≡ true) (u d)) → RR at P (load_code d t) (Kept d (Loaded t))
  load_runs at d t P w = by (is_array t) refl
    where
      by : (b : Bool) → is_array t ≡ b → RR at P (if b then [] else op.Load d d (kind_of t) (access_of t) ∷ []) (Kept d (Loaded t))
      by true e = nothing c f r frames K at P (Kept d (Loaded t)) (λ u pre. (λ x lt. refl, λ z g k. w u pre z g))
      by false e = post c f r frames K at P (op.Load d d (kind_of t) (access_of t) ∷ []) (Sets d (λ z. serves (access_of t) z ≡ true)) (Kept d (Loaded t))
          (λ u w' pre q. sets_kept d (λ z. serves (access_of t) z ≡ true) (Loaded t) u w' (λ z h. read_claim t z (no_array_value t e) h) q) (triples.load_runs c f r frames K at P d d (kind_of t) (access_of t))

  -- a place is computed where there is no register, and read
  pub read_runs : (at d : ℕ) (o : Option ℕ) (t : CType) (place : List SlotOp) → ((x : ℕ) → o ≡ Some x → value_type (plain t) ≡ plain t) → (o ≡ None → RR at Any place (Place d)) → RR at Any (unless_register o place ++ read_at p f d o t) (Kept d (Loaded t))
  read_runs at d None t place h w =
      seq c f r frames K at Any place (load_code d t) (Place d) (Kept d (Loaded t)) (w refl) λ t0 pre.
      post c f r frames K (at + length place) (Place d t0) (load_code d t) (Kept d (Loaded t)) (λ u z. Kept d (Loaded t) t0 z) (λ u z q k. (below_then d t0 u z q.0 k.0, k.1))
      (load_runs (at + length place) d t (Place d t0) (λ u q. q.1))
  read_runs at d (Some x) t place h w =
      post c f r frames K at Any (op.ReadRegister d x (kind_of t) (access_of t) ∷ []) (Sets d (λ z. serves (access_of t) z ≡ true)) (Kept d (Loaded t))
      (λ u z pre q. sets_kept d (λ z. serves (access_of t) z ≡ true) (Loaded t) u z (λ z g. read_claim t z (h x refl) g) q) (triples.read_runs c f r frames K at Any d x (kind_of t) (access_of t))

  -- a place is computed where there is no register
  pub unless_runs : (at d : ℕ) (o : Option ℕ) (place : List SlotOp) → RR at Any place (Place d) → RR at Any (unless_register o place) (Below d)
  unless_runs at d None place w = post c f r frames K at Any place (Place d) (Below d) (λ t u pre q. q.0) w
  unless_runs at d (Some x) place w = nothing c f r frames K at Any (Below d) (λ t pre x lt. refl)

  module _ (d : ℕ) (t : CType) where
    abbrev pub Fits : Value → Type 0
    Fits z = is_pointer (plain t) ≡ true → points z ≡ true

    cast_fits : (u w : Temps) → Casts (suc d) (access_of t) u w → Held Fits (w (suc d))
    cast_fits u w q z g k = let y = q.2 z g in serves_type t z (extended_serves (access_of t) y.0 z y.2) k

    -- behind a conversion, a write and a value that is taken
    taken : (at from : ℕ) (P : Temps → Type 0) (o : SlotOp) → RR at P (o ∷ []) (λ u w. w ≡ u) → ((u : Temps) → P u → Held Fits (u from)) → RR at P (o ∷ op.Take d from ∷ []) (Kept d Fits)
    taken at from P o x w =
        seq c f r frames K at P (o ∷ []) (op.Take d from ∷ []) (λ u z. z ≡ u) (Kept d Fits) x λ u pre.
        post c f r frames K (at + length (o ∷ [])) (λ z. z ≡ u) (op.Take d from ∷ []) (λ z y. Sets d (λ q. z from ≡ Some q) z y) (λ z y. Kept d Fits u y)
        (λ z y e q. (
          below_then d u z y (λ x lt. ap (λ (g : Temps). g x) e) (sets_below d (λ q. z from ≡ Some q) z y q),
          λ i g k. let m = sets_held d (λ q. z from ≡ Some q) z y q i g in w u pre i (sym (ap (λ (g : Temps). g from) e) ∙ m) k,
        )) (triples.take_runs c f r frames K (at + length (o ∷ [])) (λ z. z ≡ u) d from)

    write_behind : (at from : ℕ) (P : Temps → Type 0) (o : SlotOp) → ((at : ℕ) (P : Temps → Type 0) → RR at P (o ∷ []) (λ u w. w ≡ u)) → ((u : Temps) → P u → Held Fits (u (suc d)))
        → ((u w : Temps) → P u → Casts (suc d) (access_of t) u w → Held Fits (w from)) → RR at P (cast_code (suc d) t ++ (o ∷ op.Take d from ∷ [])) (Kept d Fits)
    write_behind at from P o x w y =
        seq c f r frames K at P (cast_code (suc d) t) (o ∷ op.Take d from ∷ []) (Casts (suc d) (access_of t)) (Kept d Fits) (triples.cast_runs c f r frames K at P (suc d) t w) λ u pre.
        post c f r frames K (at + length (cast_code (suc d) t)) (Casts (suc d) (access_of t) u) (o ∷ op.Take d from ∷ []) (Kept d Fits) (λ z g. Kept d Fits u g)
        (λ z g q k. (below_then d u z g (λ x lt. q.0 x (omega (arith, lt))) k.0, k.1))
        (taken (at + length (cast_code (suc d) t)) from (Casts (suc d) (access_of t) u) o (x (at + length (cast_code (suc d) t)) (Casts (suc d) (access_of t) u)) (λ z q. y u z pre q))

    pub write_runs : (at : ℕ) (o : Option ℕ) (P : Temps → Type 0) → ((u : Temps) → P u → Held Fits (u (suc d))) → RR at P (write_at p f d o t) (Kept d Fits)
    write_runs at None P w = write_behind at (suc d) P (op.Store d (suc d) (kind_of t)) (λ at P. triples.store_runs c f r frames K at P d (suc d) (kind_of t)) w (λ u z pre q. cast_fits u z q)
    write_runs at (Some x) P w = write_behind at (suc d) P (op.WriteRegister (suc d) x (kind_of t)) (λ at P. triples.write_runs c f r frames K at P (suc d) x (kind_of t)) w (λ u z pre q. cast_fits u z q)

    from_fits : (new : Bool) (u w : Temps) → Held Fits (u (suc (suc d))) → Casts (suc d) (access_of t) u w → Held Fits (w (if new then suc d else suc (suc d)))
    from_fits true u w h q = cast_fits u w q
    from_fits false u w h q = held_same Fits (u (suc (suc d))) (w (suc (suc d))) (q.1 (suc (suc d)) (omega arith)) h

    -- what was read, an operator, a conversion and a write
    changed : (at : ℕ) (w : CType) (o : BinaryOp) (new : Bool) (P : Temps → Type 0) (first write : SlotOp) → Compound o t w → RR at P (first ∷ []) (Sets (suc (suc d)) (λ z. serves (access_of t) z ≡ true)) → ((at : ℕ) (P : Temps → Type 0) → RR at P (write ∷ []) (λ u z. z ≡ u))
        → RR at P (first ∷ combine_op p (suc d) (suc (suc d)) (suc d) o t w ∷ (cast_code (suc d) t ++ write ∷ op.Take d (if new then suc d else suc (suc d)) ∷ [])) (Kept d Fits)
    changed at w o new P first write h x y =
        let S1 : Temps → Temps → Type 0 = Sets (suc (suc d)) (λ z. serves (access_of t) z ≡ true) in
        let S2 : Temps → Temps → Type 0 = Sets (suc d) Fits in
        let o2 : SlotOp = combine_op p (suc d) (suc (suc d)) (suc d) o t w in
        let rest : List SlotOp = cast_code (suc d) t ++ write ∷ op.Take d (if new then suc d else suc (suc d)) ∷ [] in
        seq c f r frames K at P (first ∷ []) (o2 ∷ rest) S1 (Kept d Fits) x λ t0 pre.
        seq c f r frames K (at + length (first ∷ [])) (S1 t0) (o2 ∷ []) rest S2 (λ u z. Kept d Fits t0 z) (compound_runs (at + length (first ∷ [])) (suc d) (suc (suc d)) (suc d) o t w (S1 t0) h) λ t1 q1.
        post c f r frames K (at + length (first ∷ []) + length (o2 ∷ [])) (S2 t1) rest (Kept d Fits) (λ u z. Kept d Fits t0 z)
        (λ u z q2 k. (
          below_then d t0 u z (below_then d t0 t1 u (below_less d (suc (suc d)) t0 t1 (omega arith) (sets_below (suc (suc d)) (λ z. serves (access_of t) z ≡ true) t0 t1 q1)) (below_less d (suc d) t1 u (omega arith) (sets_below (suc d) Fits t1 u q2))) k.0,
          k.1,
        ))
        (write_behind (at + length (first ∷ []) + length (o2 ∷ [])) (if new then suc d else suc (suc d)) (S2 t1) write y (λ u q2. sets_held (suc d) Fits t1 u q2)
        (λ u z q2 g. from_fits new u z
        (held_same Fits (t1 (suc (suc d))) (u (suc (suc d))) (sets_above (suc d) (suc (suc d)) Fits t1 u (omega arith) q2)
        (λ i e k. serves_type t i (sets_held (suc (suc d)) (λ z. serves (access_of t) z ≡ true) t0 t1 q1 i e) k)) g))

    pub update_runs : (at : ℕ) (o : Option ℕ) (w : CType) (b : BinaryOp) (new : Bool) (P : Temps → Type 0) → Compound b t w → RR at P (update_at p f d o t b w new) (Kept d Fits)
    update_runs at None w b new P h =
        changed at w b new P (op.Load (suc (suc d)) d (kind_of t) (access_of t)) (op.Store d (suc d) (kind_of t)) h (triples.load_runs c f r frames K at P (suc (suc d)) d (kind_of t) (access_of t)) (λ at P. triples.store_runs c f r frames K at P d (suc d) (kind_of t))
    update_runs at (Some x) w b new P h =
        changed at w b new P (op.ReadRegister (suc (suc d)) x (kind_of t) (access_of t)) (op.WriteRegister (suc d) x (kind_of t)) h (triples.read_runs c f r frames K at P (suc (suc d)) x (kind_of t) (access_of t)) (λ at P. triples.write_runs c f r frames K at P (suc d) x (kind_of t))

  -- ---- places of names

  no_built : (name : List ℕ) (t : Plain) → object_type (built_in name) ≡ Some t → ⊥
  no_built name t e = first (bytes_eq name (codes "getchar")) e
    where
      third : (b : Bool) → object_type (if b then AFunction Void (Int ∷ []) else Hidden) ≡ Some t → ⊥
      third true e = no_none t e
      third false e = no_none t e

      second : (b : Bool) → object_type (if b then AFunction Int (Int ∷ []) else (if bytes_eq name (codes "exit") then AFunction Void (Int ∷ []) else Hidden)) ≡ Some t → ⊥
      second true e = no_none t e
      second false e = third (bytes_eq name (codes "exit")) e

      first : (b : Bool) → object_type (if b then AFunction Int [] else (if bytes_eq name (codes "putchar") then AFunction Int (Int ∷ []) else (if bytes_eq name (codes "exit") then AFunction Void (Int ∷ []) else Hidden))) ≡ Some t → ⊥
      first true e = no_none t e
      first false e = second (bytes_eq name (codes "putchar")) e

  no_function : (o : Option Function) (t : Plain) → object_type (function_in o) ≡ Some t → ⊥
  no_function None t e = no_none t e
  no_function (Some h) t e = no_none t e

  pub set_place : (at d : ℕ) (o : SlotOp) → RR at Any (o ∷ []) (Sets d (λ z. points z ≡ true)) → RR at Any (o ∷ []) (Place d)
  set_place at d o x = post c f r frames K at Any (o ∷ []) (Sets d (λ z. points z ≡ true)) (Place d) (λ u w pre q. sets_kept d (λ z. points z ≡ true) (λ z. points z ≡ true) u w (λ z h. h) q) x

  referent_runs : (at d : ℕ) (row : SymbolRow) (t : Plain) (o : Referent) → object_type (denoted_by p f v (plain row.ctype) row.name o) ≡ Some t → RR at Any (referent_code d o) (Place d)
  referent_runs at d row t (Object o) e = set_place at d (op.StaticAddress d o) (triples.static_runs c f r frames K at Any d o)
  referent_runs at d row t (Local x) e = set_place at d (op.LocalAddress d x) (triples.local_runs c f r frames K at Any d x)
  referent_runs at d row t (Defined g) e = absurd (no_function (slice_get p.functions g) t e)
  referent_runs at d row t Declared e = absurd (no_built row.name t e)

  pub name_runs : (at d m : ℕ) (t : Plain) → name_type s m ≡ Some t → RR at Any (name_code p f d (slice_get p.symbols m)) (Place d)
  name_runs at d m t e = let q = name_there p accepted f v m t e in subst (λ o. RR at Any (name_code p f d o) (Place d)) (sym q.1) (referent_runs at d q.0 t q.0.refers q.2)

  -- ---- pieces of expressions

  abbrev pub Expr : Typed → Type 0
  Expr e = (at d : ℕ) → RR at Any (expr_code p f at d e) (Result e d)

  abbrev pub Spot : Typed → Type 0
  Spot e = (at d : ℕ) → RR at Any (place_code p f at d e) (Place d)

  pub any : (at : ℕ) (P : Temps → Type 0) (l : List SlotOp) (Q : Temps → Temps → Type 0) → RR at Any l Q → RR at P l Q
  any at P l Q x = weaker c f r frames K at Any P l Q (λ t pre. tt) x

  -- two operands and an operator
  pub both_runs : (a b : Typed) (o : BinaryOp) (rt : Plain) → IsTyped s a → IsTyped s b → binary_type p.defs o (operand s a) (operand s b) ≡ Some rt → Expr a → Expr b → (at d : ℕ)
      → RR at Any (expr_code p f at d a ++ (expr_code p f (at + length (expr_code p f at d a)) (suc d) b ++ combine_op p d d (suc d) o (type_of a) (type_of b) ∷ [])) (Kept d (Combined a b o rt))
  both_runs a b o rt ta tb e ea eb at d =
      let ca = expr_code p f at d a in
      let cb = expr_code p f (at + length ca) (suc d) b in
      let last : SlotOp = combine_op p d d (suc d) o (type_of a) (type_of b) in
      let C : Value → Type 0 = Combined a b o rt in
      seq c f r frames K at Any ca (cb ++ last ∷ []) (Result a d) (Kept d C) (ea at d) λ t0 pre.
      seq c f r frames K (at + length ca) (Result a d t0) cb (last ∷ []) (λ u w. Result a d t0 u × Result b (suc d) u w) (λ u w. Kept d C t0 w)
      (post c f r frames K (at + length ca) (Result a d t0) cb (Result b (suc d)) (λ u w. Result a d t0 u × Result b (suc d) u w) (λ u w q k. (q, k)) (any (at + length ca) (Result a d t0) cb (Result b (suc d)) (eb (at + length ca) (suc d)))) λ u q.
      post c f r frames K (at + length ca + length cb) (λ w. Result a d t0 u × Result b (suc d) u w) (last ∷ []) (Sets d C) (λ w z. Kept d C t0 z)
      (λ w z k g. (
        below_then d t0 w z (below_then d t0 u w k.0.0 (below_less d (suc d) u w (omega arith) k.1.0)) (sets_below d C w z g),
        sets_held d C w z g,
      ))
      (combine_runs a b ta tb o rt e (at + length ca + length cb) d d (suc d) (λ w. Result a d t0 u × Result b (suc d) u w)
      (λ w k. held_same (Claim s a) (u d) (w d) (k.1.0 d (omega arith)) k.0.1) (λ w k. k.1.1))

  -- an expression and a load from where it points, as the value of an lvalue
  pub loaded : (at d : ℕ) (t : CType) (place : List SlotOp) → RR at Any place (Place d) → RR at Any (place ++ load_code d t) (Kept d (Loaded t))
  loaded at d t place x =
      seq c f r frames K at Any place (load_code d t) (Place d) (Kept d (Loaded t)) x λ t0 pre.
      post c f r frames K (at + length place) (Place d t0) (load_code d t) (Kept d (Loaded t)) (λ u w. Kept d (Loaded t) t0 w) (λ u w q k. (below_then d t0 u w q.0 k.0, k.1)) (load_runs (at + length place) d t (Place d t0) (λ u q. q.1))

  -- and an offset
  pub offset_runs : (at d n : ℕ) (l : List SlotOp) → RR at Any l (Below d) → RR at Any (l ++ op.Offset d n ∷ []) (Place d)
  offset_runs at d n l x =
      seq c f r frames K at Any l (op.Offset d n ∷ []) (Below d) (Place d) x λ t0 pre.
      post c f r frames K (at + length l) (Below d t0) (op.Offset d n ∷ []) (Sets d (λ z. points z ≡ true)) (λ u w. Place d t0 w)
      (λ u w q k. (below_then d t0 u w q (sets_below d (λ z. points z ≡ true) u w k), sets_held d (λ z. points z ≡ true) u w k)) (triples.offset_runs c f r frames K (at + length l) (Below d t0) d n)

  -- a value that is no constant, of a type
  typed_claim : (e : Typed) (t : CType) → value s e ≡ value_type (plain t) → constant p.defs e ≡ folds.Variable → (z : Value) → Loaded t z → Claim s e z
  typed_claim e t w b z h = (λ k. h (subst (λ y. is_pointer y ≡ true) w k), variable_is z (constant p.defs e) b)

  pub value_runs : (e : Typed) (t : CType) (at d : ℕ) (l : List SlotOp) → value s e ≡ value_type (plain t) → constant p.defs e ≡ folds.Variable → RR at Any l (Kept d (Loaded t)) → RR at Any l (Result e d)
  value_runs e t at d l w b x = post c f r frames K at Any l (Kept d (Loaded t)) (Result e d) (λ u z pre q. (q.0, λ y g. typed_claim e t w b y (q.1 y g))) x

  -- an integer, where it is no constant expression
  no_claim : (e : Typed) → is_integer (value s e) ≡ true → constant p.defs e ≡ folds.Variable → (z : Value) → Claim s e z
  no_claim e i b z = (λ k. absurd (no_both (value s e) i k), variable_is z (constant p.defs e) b)

  pub place_any : (at d : ℕ) (l : List SlotOp) → RR at Any l (Place d) → RR at Any l (Below d)
  place_any at d l x = post c f r frames K at Any l (Place d) (Below d) (λ u w pre q. q.0) x

  pub result_any : (e : Typed) (at d : ℕ) (l : List SlotOp) → RR at Any l (Result e d) → RR at Any l (Below d)
  result_any e at d l x = post c f r frames K at Any l (Result e d) (Below d) (λ u w pre q. q.0) x

  -- ---- assignments

  -- the value behind an assignment
  fits_claim : (e : Typed) (t : CType) → plain t ≡ plain (type_of e) → constant p.defs e ≡ folds.Variable → (is_pointer (value_type (plain t)) ≡ true → is_pointer (plain t) ≡ true) → (z : Value) → Fits 0 t z → Claim s e z
  fits_claim e t w b g z h = (λ k. h (g (subst (λ y. is_pointer (value_type y) ≡ true) (sym w) k)), variable_is z (constant p.defs e) b)

  fits_runs : (e : Typed) (t : CType) (at d : ℕ) (l : List SlotOp) → plain t ≡ plain (type_of e) → constant p.defs e ≡ folds.Variable → (is_pointer (value_type (plain t)) ≡ true → is_pointer (plain t) ≡ true) → RR at Any l (Kept d (Fits 0 t)) → RR at Any l (Result e d)
  fits_runs e t at d l w b g x = post c f r frames K at Any l (Kept d (Fits 0 t)) (Result e d) (λ u z pre q. (q.0, λ y k. fits_claim e t w b g y (q.1 y k))) x

  lvalue_of_only : (b : Bool) (x y : Bool) (t q : Plain) → only (b && (x || y)) t ≡ Some q → (b ≡ true) × (x || y ≡ true) × (t ≡ q)
  lvalue_of_only b x y t q e = let o = only_is (b && (x || y)) t q e in let a = and_parts b (x || y) o.0 in (a.0, a.1, o.1)

  assign_fits : (a b : Typed) → converts (plain (type_of a)) (operand s b) || is_copied (operand s a) (operand s b) ≡ true → (z : Value) → Claim s b z → Fits 0 (type_of a) z
  assign_fits a b h z k i = by (or_parts (converts (plain (type_of a)) (operand s b)) (is_copied (operand s a) (operand s b)) h)
    where
      by : (converts (plain (type_of a)) (operand s b) ≡ true) ⊎ (is_copied (operand s a) (operand s b) ≡ true) → points z ≡ true
      by (inl q) = converted_points s (plain (type_of a)) b z q k i
      by (inr q) =
          let g = and_parts (is_a_struct (plain (type_of a)) && same (plain (type_of a)) (plain (type_of b))) (is_lvalue b) q in
          absurd (struct_pointer (plain (type_of a)) (and_parts (is_a_struct (plain (type_of a))) (same (plain (type_of a)) (plain (type_of b))) g.0).0 i)

  copied_lvalue : (a b : Typed) → is_struct (type_of a) ≡ true → converts (plain (type_of a)) (operand s b) || is_copied (operand s a) (operand s b) ≡ true → is_lvalue b ≡ true
  copied_lvalue a b k h = by (or_parts (converts (plain (type_of a)) (operand s b)) (is_copied (operand s a) (operand s b)) h)
    where
      by : (converts (plain (type_of a)) (operand s b) ≡ true) ⊎ (is_copied (operand s a) (operand s b) ≡ true) → is_lvalue b ≡ true
      by (inl q) = absurd (struct_no (type_of a) (operand s b) k q)
      by (inr q) = (and_parts (is_a_struct (plain (type_of a)) && same (plain (type_of a)) (plain (type_of b))) (is_lvalue b) q).1

  -- a struct is copied
  copy_runs : (e : Typed) (n : ℕ) (a b : List SlotOp) (at d : ℕ) → constant p.defs e ≡ folds.Variable → RR at Any a (Place d) → RR (at + length a) Any b (Place (suc d)) → RR at Any (a ++ (b ++ op.Move d (suc d) n ∷ op.Const d 0 ∷ [])) (Result e d)
  copy_runs e n a b at d k x y =
      let move : SlotOp = op.Move d (suc d) n in
      let zero_op : SlotOp = op.Const d 0 in
      seq c f r frames K at Any a (b ++ move ∷ zero_op ∷ []) (Below d) (Result e d) (place_any at d a x) λ t0 pre.
      seq c f r frames K (at + length a) (Below d t0) b (move ∷ zero_op ∷ []) (λ u w. Below d t0 w) (λ u w. Result e d t0 w)
      (post c f r frames K (at + length a) (Below d t0) b (Place (suc d)) (λ u w. Below d t0 w) (λ u w q g. below_then d t0 u w q (below_less d (suc d) u w (omega arith) g.0)) (any (at + length a) (Below d t0) b (Place (suc d)) y)) λ u q.
      seq c f r frames K (at + length a + length b) (Below d t0) (move ∷ []) (zero_op ∷ []) (λ w z. Below d t0 z) (λ w z. Result e d t0 z)
      (post c f r frames K (at + length a + length b) (Below d t0) (move ∷ []) (λ w z. z ≡ w) (λ w z. Below d t0 z) (λ w z g h. subst (λ y. Below d t0 y) (sym h) g) (triples.move_runs c f r frames K (at + length a + length b) (Below d t0) d (suc d) n)) λ w g.
      post c f r frames K (at + length a + length b + length (move ∷ [])) (Below d t0) (zero_op ∷ []) (Sets d (λ z. z ≡ Number 0)) (λ z y. Result e d t0 y)
      (λ z y g h. (
        below_then d t0 z y g (sets_below d (λ z. z ≡ Number 0) z y h),
        λ i j. (λ m. ap points (sets_held d (λ z. z ≡ Number 0) z y h i j), variable_is i (constant p.defs e) k),
      )) (triples.const_runs c f r frames K (at + length a + length b + length (move ∷ [])) (Below d t0) d 0)

  -- a value is written
  write_value : (t : CType) (b : Typed) (o : Option ℕ) (place : List SlotOp) (at d : ℕ) → RR at Any place (Place d) → Expr b → ((z : Value) → Claim s b z → Fits 0 t z)
      → RR at Any (unless_register o place ++ (expr_code p f (at + length (unless_register o place)) (suc d) b ++ write_at p f d o t)) (Kept d (Fits 0 t))
  write_value t b o place at d x y h =
      let ca = unless_register o place in
      let cb = expr_code p f (at + length ca) (suc d) b in
      seq c f r frames K at Any ca (cb ++ write_at p f d o t) (Below d) (Kept d (Fits 0 t)) (unless_runs at d o place x) λ t0 pre.
      seq c f r frames K (at + length ca) (Below d t0) cb (write_at p f d o t) (λ u w. Below d t0 u × Result b (suc d) u w) (λ u w. Kept d (Fits 0 t) t0 w)
      (post c f r frames K (at + length ca) (Below d t0) cb (Result b (suc d)) (λ u w. Below d t0 u × Result b (suc d) u w) (λ u w q k. (q, k)) (any (at + length ca) (Below d t0) cb (Result b (suc d)) (y (at + length ca) (suc d)))) λ u q.
      post c f r frames K (at + length ca + length cb) (λ w. Below d t0 u × Result b (suc d) u w) (write_at p f d o t) (Kept d (Fits 0 t)) (λ w z. Kept d (Fits 0 t) t0 z)
      (λ w z g k. (below_then d t0 w z (below_then d t0 u w g.0 (below_less d (suc d) u w (omega arith) g.1.0)) k.0, k.1))
      (write_runs d t (at + length ca + length cb) o (λ w. Below d t0 u × Result b (suc d) u w) (λ w g z k. h z (g.1.1 z k)))

  pub assign_runs : (h : Head) (x y : _) (a b : Typed) → IsTyped s (Assign' h x a None y b) → (is_lvalue a ≡ true → Spot a) → (is_lvalue b ≡ true → Spot b) → Expr b → Expr (Assign' h x a None y b)
  assign_runs h x y a b t pa pb eb at d = by (is_struct (type_of a)) refl
    where
      e : Typed
      e = Assign' h x a None y b

      q : (is_lvalue a ≡ true) × (converts (plain (type_of a)) (operand s b) || is_copied (operand s a) (operand s b) ≡ true) × (plain (type_of a) ≡ plain h.ctype)
      q = lvalue_of_only (is_lvalue a) (converts (plain (type_of a)) (operand s b)) (is_copied (operand s a) (operand s b)) (plain (type_of a)) (plain h.ctype) t.2

      by : (o : Bool) → is_struct (type_of a) ≡ o
          → RR at Any (if o then place_code p f at d a ++ (place_code p f (at + length (place_code p f at d a)) (suc d) b ++ op.Move d (suc d) (struct_number (type_of a)) ∷ op.Const d 0 ∷ [])
          else unless_register (register_in p f a) (place_code p f at d a) ++ (expr_code p f (at + length (unless_register (register_in p f a) (place_code p f at d a))) (suc d) b ++ write_at p f d (register_in p f a) (type_of a))) (Result (Assign' h x a None y b) d)
      by true g = copy_runs (Assign' h x a None y b) (struct_number (type_of a)) (place_code p f at d a) (place_code p f (at + length (place_code p f at d a)) (suc d) b) at d refl (pa q.0 at d) (pb (copied_lvalue a b g q.1) (at + length (place_code p f at d a)) (suc d))
      by false g =
          fits_runs (Assign' h x a None y b) (type_of a) at d _ q.2 refl
          (assigned_pointer (plain (type_of a)) (operand s b) (same (plain (type_of a)) (plain (type_of b))) (is_lvalue b) q.1)
          (write_value (type_of a) b (register_in p f a) (place_code p f at d a) at d (pa q.0 at d) eb (assign_fits a b q.1))

  compound_is : (o : BinaryOp) (a : Typed) (w : Plain) (t q : Plain) → compound_type p.defs o (operand s a) w ≡ Some q
      → (is_lvalue a ≡ true) × (plain (type_of a) ≡ q) × (is_integer w ≡ true) × ((is_integer (plain (type_of a)) ≡ true) ⊎ ((is_pointer (plain (type_of a)) ≡ true) × (is_move o ≡ true)))
  compound_is o a w t q e =
      let i = only_is ((is_lvalue a && is_integer w) && ((is_integer (plain (type_of a)) && is_compound o) || (is_movable p.defs (plain (type_of a)) && is_move o))) (plain (type_of a)) q e in
      let j = and_parts (is_lvalue a && is_integer w) ((is_integer (plain (type_of a)) && is_compound o) || (is_movable p.defs (plain (type_of a)) && is_move o)) i.0 in
      let k = and_parts (is_lvalue a) (is_integer w) j.0 in
      (k.0, i.1, k.1, by (or_parts (is_integer (plain (type_of a)) && is_compound o) (is_movable p.defs (plain (type_of a)) && is_move o) j.1))
    where
      by : (is_integer (plain (type_of a)) && is_compound o ≡ true) ⊎ (is_movable p.defs (plain (type_of a)) && is_move o ≡ true) → (is_integer (plain (type_of a)) ≡ true) ⊎ ((is_pointer (plain (type_of a)) ≡ true) × (is_move o ≡ true))
      by (inl g) = inl (and_parts (is_integer (plain (type_of a))) (is_compound o) g).0
      by (inr g) = let m = and_parts (is_movable p.defs (plain (type_of a))) (is_move o) g in inr (movable_pointer p (plain (type_of a)) m.0, m.1)

  -- such a type is no array
  compound_pointer : (t : Plain) (o : BinaryOp) → (is_integer t ≡ true) ⊎ ((is_pointer t ≡ true) × (is_move o ≡ true)) → is_pointer (value_type t) ≡ true → is_pointer t ≡ true
  compound_pointer t o (inl i) h = absurd (integer_no t i h)
  compound_pointer t o (inr i) h = i.0

  pub compound_assign : (h : Head) (x y : _) (a b : Typed) (o : BinaryOp) → IsTyped s (Assign' h x a (Some o) y b) → (is_lvalue a ≡ true → Spot a) → Expr b → Expr (Assign' h x a (Some o) y b)
  compound_assign h x y a b o t pa eb at d =
      let q = compound_is o a (value s b) (plain h.ctype) (plain h.ctype) t.2 in
      let ca = unless_register (register_in p f a) (place_code p f at d a) in
      let cb = expr_code p f (at + length ca) (suc d) b in
      let cu = update_at p f d (register_in p f a) (type_of a) o (type_of b) true in
      let F : Value → Type 0 = Fits 0 (type_of a) in
      fits_runs (Assign' h x a (Some o) y b) (type_of a) at d (ca ++ (cb ++ cu)) q.1 refl (compound_pointer (plain (type_of a)) o q.3)
      (seq c f r frames K at Any ca (cb ++ cu) (Below d) (Kept d F) (unless_runs at d (register_in p f a) (place_code p f at d a) (pa q.0 at d)) λ t0 pre.
      seq c f r frames K (at + length ca) (Below d t0) cb cu (λ u w. Below d t0 w) (λ u w. Kept d F t0 w)
      (post c f r frames K (at + length ca) (Below d t0) cb (Result b (suc d)) (λ u w. Below d t0 w) (λ u w g k. below_then d t0 u w g (below_less d (suc d) u w (omega arith) k.0)) (any (at + length ca) (Below d t0) cb (Result b (suc d)) (eb (at + length ca) (suc d)))) λ u g.
      post c f r frames K (at + length ca + length cb) (Below d t0) cu (Kept d F) (λ w z. Kept d F t0 z) (λ w z g k. (below_then d t0 w z g k.0, k.1))
      (update_runs d (type_of a) (at + length ca + length cb) (register_in p f a) (type_of b) o true (Below d t0) (q.2, q.3)))

  pub step_runs : (e a : Typed) (o : BinaryOp) (new : Bool) → compound_type p.defs o (operand s a) Int ≡ Some (plain (type_of e)) → constant p.defs e ≡ folds.Variable → (is_lvalue a ≡ true → Spot a) → (at d : ℕ)
      → RR at Any (unless_register (register_in p f a) (place_code p f at d a) ++ op.Const (suc d) 1 ∷ update_at p f d (register_in p f a) (type_of a) o ctype.Int new) (Result e d)
  step_runs e a o new t b pa at d =
      let q = compound_is o a Int (plain (type_of e)) (plain (type_of e)) t in
      let ca = unless_register (register_in p f a) (place_code p f at d a) in
      let cu = update_at p f d (register_in p f a) (type_of a) o ctype.Int new in
      let one : SlotOp = op.Const (suc d) 1 in
      let F : Value → Type 0 = Fits 0 (type_of a) in
      fits_runs e (type_of a) at d (ca ++ one ∷ cu) q.1 b (compound_pointer (plain (type_of a)) o q.3)
      (seq c f r frames K at Any ca (one ∷ cu) (Below d) (Kept d F) (unless_runs at d (register_in p f a) (place_code p f at d a) (pa q.0 at d)) λ t0 pre.
      seq c f r frames K (at + length ca) (Below d t0) (one ∷ []) cu (λ u w. Below d t0 w) (λ u w. Kept d F t0 w)
      (post c f r frames K (at + length ca) (Below d t0) (one ∷ []) (Sets (suc d) (λ z. z ≡ Number 1)) (λ u w. Below d t0 w) (λ u w g k. below_then d t0 u w g (below_less d (suc d) u w (omega arith) (sets_below (suc d) (λ z. z ≡ Number 1) u w k))) (triples.const_runs c f r frames K (at + length ca) (Below d t0) (suc d) 1)) λ u g.
      post c f r frames K (at + length ca + length (one ∷ [])) (Below d t0) cu (Kept d F) (λ w z. Kept d F t0 z) (λ w z g k. (below_then d t0 w z g k.0, k.1))
      (update_runs d (type_of a) (at + length ca + length (one ∷ [])) (register_in p f a) ctype.Int o new (Below d t0) (refl, q.3)))

  -- ---- choices

  abbrev Truths : ℕ → Temps → Value → Type 0
  Truths d u z = (x : Value) × (u d ≡ Some x) × (z ≡ Number (bit_of (not (is_zero x))))

  pub choose_runs : (h : Head) (x y z : _) (e a b : Typed) → IsTyped s (Choice' h x e y a z b) → Expr e → Expr a → Expr b → Expr (Choice' h x e y a z b)
  choose_runs h x y z e a b t ge ga gb at d =
      let cc = expr_code p f at d e in
      let ca = expr_code p f (at + length cc + 1) d a ++ cast_code d h.ctype in
      let cb = expr_code p f (at + length cc + 1 + length ca + 1) d b ++ cast_code d h.ctype in
      seq c f r frames K at Any cc (choice_code (at + length cc) d ca cb) (Result e d) (Result (Choice' h x e y a z b) d) (ge at d) λ t0 pre.
      triples.choice_runs c f r frames K (at + length cc) d (Result e d t0) ca cb (λ u w. Result (Choice' h x e y a z b) d t0 w)
      (branch t0 false a (at + length cc + 1) d (ga (at + length cc + 1) d) (λ o i w. (branch_points s a b o None (value s e) (plain h.ctype) t.3 i).0 w) (λ z m. m))
      (branch t0 true b (at + length cc + 1 + length ca + 1) d (gb (at + length cc + 1 + length ca + 1) d) (λ o i w. (branch_points s a b None o (value s e) (plain h.ctype) t.3 i).1 w) (λ z m. m))
    where
      plain_value : value_type (plain h.ctype) ≡ plain h.ctype
      plain_value = choice_value s a b None None (value s e) (plain h.ctype) t.3

      word : is_constant (chosen (constant p.defs e) (constant p.defs a) (constant p.defs b)) ≡ true → access_of h.ctype ≡ access.Word
      word k =
          let q = chosen_constants (constant p.defs e) (constant p.defs a) (constant p.defs b) k in
          let i = constant_integer s a t.1 q.0 in
          let j = constant_integer s b t.2 q.1 in
          let g = choice_common s a b None None (value s e) (plain h.ctype) (subst (λ m. is_integer m ≡ true) (sym (integer_same (plain (type_of a)) i)) i) (subst (λ m. is_integer m ≡ true) (sym (integer_same (plain (type_of b)) j)) j) t.3 in
          wide_access h.ctype (subst (λ m. is_wide m ≡ true) g (common_wide (value s a) (value s b)))

      same_word : (acc : Access) (y z : Value) → acc ≡ access.Word → extended acc y ≡ Ok z → z ≡ y
      same_word acc y z g i = let m : extended access.Word y ≡ Ok z = subst (λ k. extended k y ≡ Ok z) g i in cc

      branch : (t0 : Temps) (zero_side : Bool) (q : Typed) (at d : ℕ) → RR at Any (expr_code p f at d q) (Result q d) → ((o : Option Value) → is_pointer (plain h.ctype) ≡ true → Held (Claim s q) o → Held (λ v. points v ≡ true) o)
          → ((z : Value) → Is z (constant p.defs q) → Is z (if zero_side then constant p.defs b else constant p.defs a))
          → RR at (λ u. Result e d t0 u × Zero c f r frames K d zero_side u) (expr_code p f at d q ++ cast_code d h.ctype) (λ u w. Result (Choice' h x e y a z b) d t0 w)
      branch t0 side q at d gq points_there is_q =
          let cq = expr_code p f at d q in
          let P : Temps → Type 0 = λ u. Result e d t0 u × Zero c f r frames K d side u in
          seq c f r frames K at P cq (cast_code d h.ctype) (Result q d) (λ u w. Result (Choice' h x e y a z b) d t0 w) (any at P cq (Result q d) gq) λ u pre.
          post c f r frames K (at + length cq) (Result q d u) (cast_code d h.ctype) (Casts d (access_of h.ctype)) (λ w g. Result (Choice' h x e y a z b) d t0 g)
          (λ w g qw k. (
            below_then d t0 w g (below_then d t0 u w pre.0.0 qw.0) k.0,
            λ m j. let n = k.2 m j in (
              λ i. serves_type h.ctype m (extended_serves (access_of h.ctype) n.0 m n.2) (subst (λ o. is_pointer o ≡ true) plain_value i),
              λ r i. subst (λ o. Is o (constant p.defs (Choice' h x e y a z b))) (sym (same_word (access_of h.ctype) n.0 m (word (ap is_constant i)) n.2))
                  (chosen_is pre.1.0 n.0 side (constant p.defs e) (constant p.defs a) (constant p.defs b) (pre.0.1 pre.1.0 pre.1.1).1 pre.1.2 (is_q n.0 (qw.1 n.0 n.1).1)) r i,
            ),
          ))
          (triples.cast_runs c f r frames K (at + length cq) (Result q d u) d h.ctype (λ w qw o j i. points_there (w d) i qw.1 o j))

  -- what was tested is a number, where it is constant
  pub and_runs : (h : Head) (x y : _) (a b : Typed) → IsTyped s (And' h x a y b) → Expr a → Expr b → Expr (And' h x a y b)
  and_runs h x y a b t ga gb at d =
      let ca = expr_code p f at d a in
      let cb = expr_code p f (at + length ca + 1) d b in
      seq c f r frames K at Any ca (and_code (at + length ca) d cb) (Result a d) (Result (And' h x a y b) d) (ga at d) λ t0 pre.
      triples.and_runs c f r frames K (at + length ca) d (Result a d t0) cb (Result b d) (λ u w. Result (And' h x a y b) d t0 w)
      (any (at + length ca + 1) (λ u. Result a d t0 u × Zero c f r frames K d false u) cb (Result b d) (gb (at + length ca + 1) d))
      (λ u w g q k m. (
        below_then d t0 w g (below_then d t0 u w q.0.0 k.0) (sets_below d (Truths d w) w g m),
        λ i j. let n = sets_held d (Truths d w) w g m i j in (
          λ o. absurd (integer_no (plain h.ctype) int o),
          chosen_is q.1.0 i false (constant p.defs a) (with_one truth_in (constant p.defs b)) (folds.Number 0) (q.0.1 q.1.0 q.1.1).1 q.1.2 (is_true_of n.0 i (constant p.defs b) (k.1 n.0 n.1).1 n.2),
        ),
      ))
      (λ u w q m. (
        below_then d t0 u w q.0.0 (sets_below d (λ z. z ≡ Number 0) u w m),
        λ i j. let n = sets_held d (λ z. z ≡ Number 0) u w m i j in (
          λ o. absurd (integer_no (plain h.ctype) int o),
          chosen_is q.1.0 i true (constant p.defs a) (with_one truth_in (constant p.defs b)) (folds.Number 0) (q.0.1 q.1.0 q.1.1).1 q.1.2 (number_is i 0 n (omega arith)),
        ),
      ))
    where
      int : is_integer (plain h.ctype) ≡ true
      int = subst (λ m. is_integer m ≡ true) (only_is (is_scalar (value s a) && is_scalar (value s b)) Int (plain h.ctype) t.2).1 refl

  pub or_runs : (h : Head) (x y : _) (a b : Typed) → IsTyped s (Or' h x a y b) → Expr a → Expr b → Expr (Or' h x a y b)
  or_runs h x y a b t ga gb at d =
      let ca = expr_code p f at d a in
      let cb = expr_code p f (at + length ca + 1) d b in
      seq c f r frames K at Any ca (or_code (at + length ca) d cb) (Result a d) (Result (Or' h x a y b) d) (ga at d) λ t0 pre.
      triples.or_runs c f r frames K (at + length ca) d (Result a d t0) cb (Result b d) (λ u w. Result (Or' h x a y b) d t0 w)
      (any (at + length ca + 1) (λ u. Result a d t0 u × Zero c f r frames K d true u) cb (Result b d) (gb (at + length ca + 1) d))
      (λ u w g q k m. (
        below_then d t0 w g (below_then d t0 u w q.0.0 k.0) (sets_below d (Truths d w) w g m),
        λ i j. let n = sets_held d (Truths d w) w g m i j in (
          λ o. absurd (integer_no (plain h.ctype) int o),
          chosen_is q.1.0 i true (constant p.defs a) (folds.Number 1) (with_one truth_in (constant p.defs b)) (q.0.1 q.1.0 q.1.1).1 q.1.2 (is_true_of n.0 i (constant p.defs b) (k.1 n.0 n.1).1 n.2),
        ),
      ))
      (λ u w q m. (
        below_then d t0 u w q.0.0 (sets_below d (λ z. z ≡ Number 1) u w m),
        λ i j. let n = sets_held d (λ z. z ≡ Number 1) u w m i j in (
          λ o. absurd (integer_no (plain h.ctype) int o),
          chosen_is q.1.0 i false (constant p.defs a) (folds.Number 1) (with_one truth_in (constant p.defs b)) (q.0.1 q.1.0 q.1.1).1 q.1.2 (number_is i 1 n (omega arith)),
        ),
      ))
    where
      int : is_integer (plain h.ctype) ≡ true
      int = subst (λ m. is_integer m ≡ true) (only_is (is_scalar (value s a) && is_scalar (value s b)) Int (plain h.ctype) t.2).1 refl

  -- ---- expressions of one operand

  abbrev Applied : UnaryOp → Typed → ℕ → Temps → Value → Type 0
  Applied o a d u z = (w : World) × (y : Value) × (u d ≡ Some y) × (unary w (unary_op o (type_of a)) y ≡ Ok z)

  pub unary_value : (h : Head) (o : _) (x : _) (a : Typed) → IsTyped s (Unary' h o x a) → Expr a → Expr (Unary' h o x a)
  unary_value h o x a t ga at d =
      let ca = expr_code p f at d a in
      let last : SlotOp = op.Unary d (unary_op o (type_of a)) in
      seq c f r frames K at Any ca (last ∷ []) (Result a d) (Result (Unary' h o x a) d) (ga at d) λ t0 pre.
      post c f r frames K (at + length ca) (Result a d t0) (last ∷ []) (λ u w. Sets d (Applied o a d u) u w) (λ u w. Result (Unary' h o x a) d t0 w)
      (λ u w q m. (
        below_then d t0 u w q.0 (sets_below d (Applied o a d u) u w m),
        λ i j. let n = sets_held d (Applied o a d u) u w m i j in (
          λ k. absurd (integer_no (plain h.ctype) (integer_unary s o (value s a) (plain h.ctype) t.1) k),
          unary_is n.0 o (type_of a) n.1 i (constant p.defs a) (q.1 n.1 n.2).1 n.3,
        ),
      )) (triples.unary_runs c f r frames K (at + length ca) (Result a d t0) d (unary_op o (type_of a)))

  pub cast_value : (h : Head) (x : _) (a : Typed) → IsTyped s (Cast' h x a) → Expr a → Expr (Cast' h x a)
  cast_value h x a t ga at d =
      let ca = expr_code p f at d a in
      seq c f r frames K at Any ca (cast_code d h.ctype) (Result a d) (Result (Cast' h x a) d) (ga at d) λ t0 pre.
      post c f r frames K (at + length ca) (Result a d t0) (cast_code d h.ctype) (Casts d (access_of h.ctype)) (λ u w. Result (Cast' h x a) d t0 w)
      (λ u w q m. (
        below_then d t0 u w q.0 m.0,
        λ i j. let n = m.2 i j in (
          λ k. absurd (integer_no (plain h.ctype) int k),
          cast_is h.ctype n.0 i (constant p.defs a) int (q.1 n.0 n.1).1 n.2,
        ),
      )) (triples.cast_runs c f r frames K (at + length ca) (Result a d t0) d h.ctype (λ u q i j k. absurd (no_both (plain h.ctype) int k)))
    where
      int : is_integer (plain h.ctype) ≡ true
      int = (and_parts (is_integer (plain h.ctype)) (is_integer (value s a)) (only_is (is_integer (plain h.ctype) && is_integer (value s a)) (plain h.ctype) (plain h.ctype) t.1).0).0

  -- a constant
  pub constant_value : (e : Typed) (n : ℕ) → is_integer (plain (type_of e)) ≡ true → n < 2 ^ 32 → constant p.defs e ≡ folds.Number n → (at d : ℕ) → RR at Any (op.Const d n ∷ []) (Result e d)
  constant_value e n i lt g at d =
      post c f r frames K at Any (op.Const d n ∷ []) (Sets d (λ z. z ≡ Number n)) (Result e d)
      (λ u w pre m. (
        sets_below d (λ z. z ≡ Number n) u w m,
        λ y j. (λ k. absurd (integer_no (plain (type_of e)) i k), subst (Is y) (sym g) (number_is y n (sets_held d (λ z. z ≡ Number n) u w m y j) lt)),
      )) (triples.const_runs c f r frames K at Any d n)

  pub size_small : (t : CType) → Formed p.defs (plain t) → size_of p.defs t < 2 ^ 32
  size_small t h = omega (arith, size_plain p.defs t, formed_size p.defs (plain t) h)

  pub unsigned_is : (b : Bool) (t : Plain) → only b Unsigned ≡ Some t → is_integer t ≡ true
  unsigned_is b t e = subst (λ m. is_integer m ≡ true) (only_is b Unsigned t e).1 refl
