-- The steps of an expression come to its meaning.
use Rattle.std.proofs.Common.{◌≡◌, refl, subst, sym, ℕ, zero, suc, ◌+◌, ◌*◌, List, ◌∷◌, Option, Some, None, Bool, true, false}
use Rattle.std.specs.Prelude.{Result, Ok, Err, length, pos, slice_get, if◌then◌else◌}
use Rattle.c_tree.specs.declared.types.CType.{CType}
use Rattle.c_tree.specs.declared.typed.BinaryOp.{BinaryOp}
use Rattle.c_tree.specs.declared.typed.BinaryOp.TheVariants.{Add}
use Rattle.c_tree.specs.declared.typed.Head.{Head}
use Rattle.c_tree.specs.declared.typed.Typed.{Typed}
use Rattle.c_tree.specs.declared.typed.Typed.TheVariants.{Comma', Assign', Choice', Or', And', Binary', Cast', Before', Address', Follow', Unary', SizeOf', SizeOfType, Index', Call', Dot', Arrow', After', Name, Constant, Literal, Parens'}
use Rattle.c_tree.specs.declared.rows.Program.{Program}
use Rattle.c_tree.specs.Types.{type_of, kind_of, is_struct, is_array}
use Rattle.c_tree.specs.Layout.{size_of}
use Rattle.runs.specs.Runs.{Next, Goes, Why}
use Rattle.c_store.specs.Store.{Value, Number, At, used, load, store, moved, load_struct, store_struct, ◌>>=◌}
use Rattle.c_store.specs.Frames.{Here, with_world}
use Rattle.c_source.specs.Blocks.{cells_of, converted}
use Rattle.c_source.specs.Operators.{is_zero, combined, changed}
use Rattle.c_source.specs.Control.{Item, Eval, Locate, Load, Convert, Store, Copy, Change, Combine, Offset, Use, Discard, Truth, AndThen, OrElse, Pick, Joined, State, Activation}
use Rattle.c_source.specs.Source.{step, on_ok, on_some, on_test, place_in, dot_offset, arrow_offset, no_value}
use Rattle.c_source.specs.Meaning.{Given, Meant, or_ill_typed, value_of, place_of, assigned, scalar_assigned, struct_assigned, IsPlain, IsAssignment}
use Rattle.c_source.specs.Leads.{Steps, Leads}
use Rattle.c_source.proofs.Parts.{value_at, truth_of, chosen_as, indexed, member_at}

module _ (p : Program) where
  steps_on : (n m : ℕ) (s u w : State) → Steps p n s u → Steps p m u w → (k : ℕ) × Steps p k s w
  steps_on zero m s u w a b = (m, subst (λ x. Steps p m x w) (sym a) b)
  steps_on (suc n) m s u w a b = let r = steps_on n m a.1 u w a.3 b in (suc r.0, (a.0, a.1, a.2, r.1))

  after_steps : {A : Type 0} (n : ℕ) (s u : State) (m : Result A Why) (to : A → State) → Steps p n s u → Leads p u m to → Leads p s m to
  after_steps n s u (Ok x) to a b = steps_on n b.0 s u (to x) a b.1
  after_steps n s u (Err w) to a b = let r = steps_on n b.0 s u b.1 a b.2 in (r.0, b.1, r.1, b.3)

  one_step : {A : Type 0} (c : ℕ) (s u : State) (m : Result A Why) (to : A → State) → step p s ≡ Goes c u → Leads p u m to → Leads p s m to
  one_step c s u m to e b = after_steps 1 s u m to (c, u, e, refl) b

  leads_then : {A B : Type 0} (s : State) (m : Result A Why) (mid : A → State) (to : B → State) (go : A → Result B Why)
      → Leads p s m mid → ((x : A) → Leads p (mid x) (go x) to) → Leads p s (m >>= go) to
  leads_then s (Ok x) mid to go a b = after_steps a.0 s (mid x) (go x) to a.1 (b x)
  leads_then s (Err w) mid to go a b = a

  -- one step that gives a result, and one that gives it in another form
  by_result : {A : Type 0} (m : Result A Why) (c : ℕ) (s : State) (to : A → State) → step p s ≡ on_ok m (λ x. Goes c (to x)) → Leads p s m to
  by_result (Ok x) c s to e = (1, (c, to x, e, refl))
  by_result (Err w) c s to e = (0, s, refl, e)

  by_mapped : {A B : Type 0} (m : Result A Why) (g : A → B) (c : ℕ) (s : State) (to : B → State) → step p s ≡ on_ok m (λ x. Goes c (to (g x))) → Leads p s (m >>= λ x. Ok (g x)) to
  by_mapped (Ok x) g c s to e = (1, (c, to (g x), e, refl))
  by_mapped (Err w) g c s to e = (0, s, refl, e)

  by_option : (o : Option Value) (c : ℕ) (s : State) (to : Value → State) → step p s ≡ on_some o (λ x. Goes c (to x)) → Leads p s (or_ill_typed o) to
  by_option (Some x) c s to e = (1, (c, to x, e, refl))
  by_option None c s to e = (0, s, refl, e)

  module _ (h : Here) (outer : List Activation) where
    abbrev pub now : List Value → List Item → State
    now vs k = record { here = h; values = vs; control = k; outer = outer }

    abbrev Test : Value → (holds fails : Next State) → Next State
    Test v holds fails = on_test p h outer v holds fails

    pick_leads : {A : Type 0} (b : Bool) (s : State) (c d : ℕ) (sh sf : State) (holds fails : Result A Why) (to : A → State)
        → step p s ≡ (if b then Goes d sf else Goes c sh) → Leads p sh holds to → Leads p sf fails to → Leads p s (if b then fails else holds) to
    pick_leads true s c d sh sf holds fails to e lh lf = one_step d s sf fails to e lf
    pick_leads false s c d sh sf holds fails to e lh lf = one_step c s sh holds to e lh

    test_result : {A : Type 0} (m : Meant) (s : State) (c d : ℕ) (sh sf : State) (holds fails : Result A Why) (to : A → State)
        → step p s ≡ on_ok m (λ x. if is_zero x then Goes d sf else Goes c sh) → Leads p sh holds to → Leads p sf fails to
        → Leads p s (m >>= λ x. if is_zero x then fails else holds) to
    test_result (Ok x) s c d sh sf holds fails to e lh lf = pick_leads (is_zero x) s c d sh sf holds fails to e lh lf
    test_result (Err w) s c d sh sf holds fails to e lh lf = (0, s, refl, e)

    use_leads : (v : Value) (vs : List Value) (k : List Item) → Leads p (now (v ∷ vs) (Use ∷ k)) (used h.world v) (λ x. now (x ∷ vs) k)
    use_leads v vs k = by_result (used h.world v) 1 (now (v ∷ vs) (Use ∷ k)) (λ x. now (x ∷ vs) k) refl

    load_by : (b : Bool) (t : CType) (v : Value) (s : State) (to : Value → State)
        → step p s ≡ (if b then Goes 1 (to v) else on_ok (load h.world (kind_of t) v >>= converted t) (λ x. Goes 2 (to x)))
        → Leads p s (if b then Ok v else (load h.world (kind_of t) v >>= converted t)) to
    load_by true t v s to e = (1, (1, to v, e, refl))
    load_by false t v s to e = by_result (load h.world (kind_of t) v >>= converted t) 2 s to e

    load_leads : (t : CType) (v : Value) (vs : List Value) (k : List Item) → Leads p (now (v ∷ vs) (Load t ∷ k)) (value_at p h t v) (λ x. now (x ∷ vs) k)
    load_leads t v vs k = load_by (is_array t) t v (now (v ∷ vs) (Load t ∷ k)) (λ x. now (x ∷ vs) k) refl

    joined : (m : Meant) (s : State) (vs : List Value) (k : List Item) → Leads p s m (λ v. now (v ∷ vs) (Joined ∷ k)) → Leads p s m (λ v. now (v ∷ vs) k)
    joined (Err w) s vs k l = l
    joined (Ok v) s vs k l = steps_on l.0 1 s (now (v ∷ vs) (Joined ∷ k)) (now (v ∷ vs) k) l.1 (1, now (v ∷ vs) k, refl, refl)

    -- a place, and then what stands there
    at_place : (e : Typed) (t : CType) (m : Meant) (vs : List Value) (k : List Item)
        → step p (now vs (Eval e ∷ k)) ≡ Goes 1 (now vs (Locate e ∷ Load t ∷ k))
        → Leads p (now vs (Locate e ∷ Load t ∷ k)) m (λ v. now (v ∷ vs) (Load t ∷ k))
        → Leads p (now vs (Eval e ∷ k)) (m >>= value_at p h t) (λ v. now (v ∷ vs) k)
    at_place e t m vs k s l =
        one_step 1 _ (now vs (Locate e ∷ Load t ∷ k)) (m >>= value_at p h t) (λ v. now (v ∷ vs) k) s
        (leads_then _ m (λ v. now (v ∷ vs) (Load t ∷ k)) (λ v. now (v ∷ vs) k) (value_at p h t) l (λ v. load_leads t v vs k))

    -- what an operand comes to, behind which k remains
    abbrev Operand : Item → Meant → Type 0
    Operand i m = (vs : List Value) (k : List Item) → Leads p (now vs (i ∷ k)) m (λ v. now (v ∷ vs) k)

    name_leads : (t : Head) (n : ℕ) → Operand (Locate (Name t n)) (or_ill_typed (place_in (slice_get p.symbols n) h))
    name_leads t n vs k = by_option (place_in (slice_get p.symbols n) h) 1 (now vs (Locate (Name t n) ∷ k)) (λ v. now (v ∷ vs) k) refl

    both_lead : (first second : Item) (a b : Meant) (op : BinaryOp) (s t : CType) (vs : List Value) (k : List Item) → Operand first a → Operand second b
        → Leads p (now vs (first ∷ second ∷ Combine op s t ∷ k)) (a >>= λ x. b >>= λ y. combined p.defs h.world op s t x y) (λ v. now (v ∷ vs) k)
    both_lead first second a b op s t vs k la lb =
        leads_then _ a (λ x. now (x ∷ vs) (second ∷ Combine op s t ∷ k)) (λ v. now (v ∷ vs) k) (λ x. b >>= λ y. combined p.defs h.world op s t x y) (la vs (second ∷ Combine op s t ∷ k)) (λ x.
        leads_then _ b (λ y. now (y ∷ x ∷ vs) (Combine op s t ∷ k)) (λ v. now (v ∷ vs) k) (λ y. combined p.defs h.world op s t x y) (lb (x ∷ vs) (Combine op s t ∷ k)) (λ y.
        by_result (combined p.defs h.world op s t x y) 1 (now (y ∷ x ∷ vs) (Combine op s t ∷ k)) (λ v. now (v ∷ vs) k) refl))

    used_leads : (i : Item) (m : Meant) (vs : List Value) (k : List Item) → Operand i m → Leads p (now vs (i ∷ Use ∷ k)) (m >>= λ v. used h.world v) (λ v. now (v ∷ vs) k)
    used_leads i m vs k l =
        leads_then _ m (λ v. now (v ∷ vs) (Use ∷ k)) (λ v. now (v ∷ vs) k) (λ v. used h.world v) (l vs (Use ∷ k)) (λ v. use_leads v vs k)

    member_leads : (i : Item) (m : Meant) (n : ℕ) (vs : List Value) (k : List Item) → Operand i m → Leads p (now vs (i ∷ Offset n ∷ k)) (member_at p h n m) (λ v. now (v ∷ vs) k)
    member_leads i m n vs k l =
        leads_then _ m (λ v. now (v ∷ vs) (Offset n ∷ k)) (λ v. now (v ∷ vs) k) (λ v. moved h.world v (pos n)) (l vs (Offset n ∷ k)) (λ v.
        by_result (moved h.world v (pos n)) 1 (now (v ∷ vs) (Offset n ∷ k)) (λ v. now (v ∷ vs) k) refl)

    convert_leads : (t : CType) (v : Value) (vs : List Value) (k : List Item) → Leads p (now (v ∷ vs) (Convert t ∷ k)) (converted t v) (λ x. now (x ∷ vs) k)
    convert_leads t v vs k = by_result (converted t v) 1 (now (v ∷ vs) (Convert t ∷ k)) (λ x. now (x ∷ vs) k) refl

    chosen_leads : (i : Item) (m : Meant) (t : CType) (vs : List Value) (k : List Item) → Operand i m → Leads p (now vs (i ∷ Use ∷ Convert t ∷ k)) (chosen_as p h t m) (λ v. now (v ∷ vs) k)
    chosen_leads i m t vs k l =
        leads_then _ m (λ v. now (v ∷ vs) (Use ∷ Convert t ∷ k)) (λ v. now (v ∷ vs) k) (λ v. used h.world v >>= converted t) (l vs (Use ∷ Convert t ∷ k)) (λ v.
        leads_then _ (used h.world v) (λ x. now (x ∷ vs) (Convert t ∷ k)) (λ v. now (v ∷ vs) k) (converted t) (use_leads v vs (Convert t ∷ k)) (λ x. convert_leads t x vs k))

    truth_leads : (i : Item) (m : Meant) (vs : List Value) (k : List Item) → Operand i m → Leads p (now vs (i ∷ Truth ∷ Joined ∷ k)) (truth_of p h m) (λ v. now (v ∷ vs) k)
    truth_leads i m vs k l =
        joined (truth_of p h m) (now vs (i ∷ Truth ∷ Joined ∷ k)) vs k
        (leads_then _ m (λ v. now (v ∷ vs) (Truth ∷ Joined ∷ k)) (λ v. now (v ∷ vs) (Joined ∷ k)) (λ v. used h.world v >>= λ x. if is_zero x then Ok (Number 0) else Ok (Number 1)) (l vs (Truth ∷ Joined ∷ k)) (λ v.
        test_result (used h.world v) (now (v ∷ vs) (Truth ∷ Joined ∷ k)) 1 1 (now (Number 1 ∷ vs) (Joined ∷ k)) (now (Number 0 ∷ vs) (Joined ∷ k)) (Ok (Number 1)) (Ok (Number 0)) (λ v. now (v ∷ vs) (Joined ∷ k)) refl (0, refl) (0, refl)))

    mutual
      pub eval_leads : (e : Typed) → IsPlain e → Operand (Eval e) (value_of p h e)
      eval_leads (Comma' t x a y b) q vs k =
          one_step 1 _ (now vs (Eval a ∷ Use ∷ Discard ∷ Eval b ∷ Use ∷ k)) (value_of p h (Comma' t x a y b)) (λ v. now (v ∷ vs) k) refl
          (leads_then _ (value_of p h a) (λ v. now (v ∷ vs) (Use ∷ Discard ∷ Eval b ∷ Use ∷ k)) (λ v. now (v ∷ vs) k) _ (eval_leads a q.0 vs (Use ∷ Discard ∷ Eval b ∷ Use ∷ k)) (λ v.
          leads_then _ (used h.world v) (λ u. now (u ∷ vs) (Discard ∷ Eval b ∷ Use ∷ k)) (λ v. now (v ∷ vs) k) _ (use_leads v vs (Discard ∷ Eval b ∷ Use ∷ k)) (λ u.
          one_step 1 _ (now vs (Eval b ∷ Use ∷ k)) (value_of p h b >>= λ w. used h.world w) (λ v. now (v ∷ vs) k) refl (used_leads (Eval b) (value_of p h b) vs k (eval_leads b q.1)))))
      eval_leads (Choice' t x c y a z b) q vs k =
          one_step 1 _ (now vs (Eval c ∷ Pick t.ctype a b ∷ k)) (value_of p h (Choice' t x c y a z b)) (λ v. now (v ∷ vs) k) refl
          (leads_then _ (value_of p h c) (λ v. now (v ∷ vs) (Pick t.ctype a b ∷ k)) (λ v. now (v ∷ vs) k) _ (eval_leads c q.0 vs (Pick t.ctype a b ∷ k)) (λ v.
          test_result (used h.world v) (now (v ∷ vs) (Pick t.ctype a b ∷ k)) 1 1 (now vs (Eval a ∷ Use ∷ Convert t.ctype ∷ Joined ∷ k)) (now vs (Eval b ∷ Use ∷ Convert t.ctype ∷ k)) (chosen_as p h t.ctype (value_of p h a)) (chosen_as p h t.ctype (value_of p h b)) (λ v. now (v ∷ vs) k) refl
          (joined (chosen_as p h t.ctype (value_of p h a)) _ vs k (chosen_leads (Eval a) (value_of p h a) t.ctype vs (Joined ∷ k) (eval_leads a q.1)))
          (chosen_leads (Eval b) (value_of p h b) t.ctype vs k (eval_leads b q.2))))
      eval_leads (Or' t x a y b) q vs k =
          one_step 1 _ (now vs (Eval a ∷ OrElse b ∷ k)) (value_of p h (Or' t x a y b)) (λ v. now (v ∷ vs) k) refl
          (leads_then _ (value_of p h a) (λ v. now (v ∷ vs) (OrElse b ∷ k)) (λ v. now (v ∷ vs) k) _ (eval_leads a q.0 vs (OrElse b ∷ k)) (λ v.
          test_result (used h.world v) (now (v ∷ vs) (OrElse b ∷ k)) 1 1 (now (Number 1 ∷ vs) k) (now vs (Eval b ∷ Truth ∷ Joined ∷ k)) (Ok (Number 1)) (truth_of p h (value_of p h b)) (λ v. now (v ∷ vs) k) refl
          (0, refl) (truth_leads (Eval b) (value_of p h b) vs k (eval_leads b q.1))))
      eval_leads (And' t x a y b) q vs k =
          one_step 1 _ (now vs (Eval a ∷ AndThen b ∷ k)) (value_of p h (And' t x a y b)) (λ v. now (v ∷ vs) k) refl
          (leads_then _ (value_of p h a) (λ v. now (v ∷ vs) (AndThen b ∷ k)) (λ v. now (v ∷ vs) k) _ (eval_leads a q.0 vs (AndThen b ∷ k)) (λ v.
          test_result (used h.world v) (now (v ∷ vs) (AndThen b ∷ k)) 1 1 (now vs (Eval b ∷ Truth ∷ Joined ∷ k)) (now (Number 0 ∷ vs) k) (truth_of p h (value_of p h b)) (Ok (Number 0)) (λ v. now (v ∷ vs) k) refl
          (truth_leads (Eval b) (value_of p h b) vs k (eval_leads b q.1)) (0, refl)))
      eval_leads (Binary' t x a op y b) q vs k =
          one_step 1 _ (now vs (Eval a ∷ Eval b ∷ Combine op (type_of a) (type_of b) ∷ k)) (value_of p h (Binary' t x a op y b)) (λ v. now (v ∷ vs) k) refl
          (both_lead (Eval a) (Eval b) (value_of p h a) (value_of p h b) op (type_of a) (type_of b) vs k (eval_leads a q.0) (eval_leads b q.1))
      eval_leads (Cast' t x a) q vs k =
          one_step 1 _ (now vs (Eval a ∷ Convert t.ctype ∷ k)) (value_of p h (Cast' t x a)) (λ v. now (v ∷ vs) k) refl
          (leads_then _ (value_of p h a) (λ v. now (v ∷ vs) (Convert t.ctype ∷ k)) (λ v. now (v ∷ vs) k) (converted t.ctype) (eval_leads a q vs (Convert t.ctype ∷ k)) (λ v. convert_leads t.ctype v vs k))
      eval_leads (Address' t x a) q vs k =
          one_step 1 _ (now vs (Locate a ∷ k)) (value_of p h (Address' t x a)) (λ v. now (v ∷ vs) k) refl
          (leads_then _ (place_of p h a) (λ v. now (v ∷ vs) k) (λ v. now (v ∷ vs) k) (λ v. Ok v) (locate_leads a q vs k) (λ v. (0, refl)))
      eval_leads (Unary' t op x a) q vs k =
          one_step 1 _ (now vs (Eval a ∷ Change op (type_of a) ∷ k)) (value_of p h (Unary' t op x a)) (λ v. now (v ∷ vs) k) refl
          (leads_then _ (value_of p h a) (λ v. now (v ∷ vs) (Change op (type_of a) ∷ k)) (λ v. now (v ∷ vs) k) (λ v. changed h.world op (type_of a) v) (eval_leads a q vs (Change op (type_of a) ∷ k)) (λ v.
          by_result (changed h.world op (type_of a) v) 1 (now (v ∷ vs) (Change op (type_of a) ∷ k)) (λ v. now (v ∷ vs) k) refl))
      eval_leads (SizeOf' t x a) q vs k = (1, (1, now (Number (size_of p.defs (type_of a)) ∷ vs) k, refl, refl))
      eval_leads (SizeOfType t of) q vs k = (1, (1, now (Number (size_of p.defs of) ∷ vs) k, refl, refl))
      eval_leads (Constant t n) q vs k = (1, (1, now (Number n ∷ vs) k, refl, refl))
      eval_leads (Parens' t x a) q vs k = one_step 1 _ (now vs (Eval a ∷ k)) (value_of p h a) (λ v. now (v ∷ vs) k) refl (eval_leads a q vs k)
      eval_leads (Name t n) q vs k = at_place (Name t n) t.ctype (or_ill_typed (place_in (slice_get p.symbols n) h)) vs k refl (name_leads t n vs (Load t.ctype ∷ k))
      eval_leads (Literal t n) q vs k = at_place (Literal t n) t.ctype (Ok (At (length p.objects + n) 0)) vs k refl (1, (1, now (At (length p.objects + n) 0 ∷ vs) (Load t.ctype ∷ k), refl, refl))
      eval_leads (Follow' t x a) q vs k =
          at_place (Follow' t x a) t.ctype (value_of p h a >>= λ v. used h.world v) vs k refl
          (one_step 1 _ (now vs (Eval a ∷ Use ∷ Load t.ctype ∷ k)) (value_of p h a >>= λ v. used h.world v) (λ v. now (v ∷ vs) (Load t.ctype ∷ k)) refl (used_leads (Eval a) (value_of p h a) vs (Load t.ctype ∷ k) (eval_leads a q)))
      eval_leads (Index' t x a y b) q vs k =
          at_place (Index' t x a y b) t.ctype (indexed p h (type_of a) (type_of b) (value_of p h a) (value_of p h b)) vs k refl
          (one_step 1 _ (now vs (Eval a ∷ Eval b ∷ Combine Add (type_of a) (type_of b) ∷ Load t.ctype ∷ k)) (indexed p h (type_of a) (type_of b) (value_of p h a) (value_of p h b)) (λ v. now (v ∷ vs) (Load t.ctype ∷ k)) refl
          (both_lead (Eval a) (Eval b) (value_of p h a) (value_of p h b) Add (type_of a) (type_of b) vs (Load t.ctype ∷ k) (eval_leads a q.0) (eval_leads b q.1)))
      eval_leads (Dot' t x a m) q vs k =
          at_place (Dot' t x a m) t.ctype (member_at p h (dot_offset p a m) (place_of p h a)) vs k refl
          (one_step 1 _ (now vs (Locate a ∷ Offset (dot_offset p a m) ∷ Load t.ctype ∷ k)) (member_at p h (dot_offset p a m) (place_of p h a)) (λ v. now (v ∷ vs) (Load t.ctype ∷ k)) refl
          (member_leads (Locate a) (place_of p h a) (dot_offset p a m) vs (Load t.ctype ∷ k) (locate_leads a q)))
      eval_leads (Arrow' t x a m) q vs k =
          at_place (Arrow' t x a m) t.ctype (member_at p h (arrow_offset p a m) (value_of p h a)) vs k refl
          (one_step 1 _ (now vs (Eval a ∷ Offset (arrow_offset p a m) ∷ Load t.ctype ∷ k)) (member_at p h (arrow_offset p a m) (value_of p h a)) (λ v. now (v ∷ vs) (Load t.ctype ∷ k)) refl
          (member_leads (Eval a) (value_of p h a) (arrow_offset p a m) vs (Load t.ctype ∷ k) (eval_leads a q)))
      eval_leads (Assign' t x a op y b) q vs k = absurd q
      eval_leads (Before' t op x a) q vs k = absurd q
      eval_leads (After' t x a op) q vs k = absurd q
      eval_leads (Call' t f x row) q vs k = absurd q

      pub locate_leads : (e : Typed) → IsPlain e → Operand (Locate e) (place_of p h e)
      locate_leads (Name t n) q vs k = name_leads t n vs k
      locate_leads (Literal t n) q vs k = (1, (1, now (At (length p.objects + n) 0 ∷ vs) k, refl, refl))
      locate_leads (Follow' t x a) q vs k =
          one_step 1 _ (now vs (Eval a ∷ Use ∷ k)) (value_of p h a >>= λ v. used h.world v) (λ v. now (v ∷ vs) k) refl (used_leads (Eval a) (value_of p h a) vs k (eval_leads a q))
      locate_leads (Index' t x a y b) q vs k =
          one_step 1 _ (now vs (Eval a ∷ Eval b ∷ Combine Add (type_of a) (type_of b) ∷ k)) (indexed p h (type_of a) (type_of b) (value_of p h a) (value_of p h b)) (λ v. now (v ∷ vs) k) refl
          (both_lead (Eval a) (Eval b) (value_of p h a) (value_of p h b) Add (type_of a) (type_of b) vs k (eval_leads a q.0) (eval_leads b q.1))
      locate_leads (Dot' t x a m) q vs k =
          one_step 1 _ (now vs (Locate a ∷ Offset (dot_offset p a m) ∷ k)) (member_at p h (dot_offset p a m) (place_of p h a)) (λ v. now (v ∷ vs) k) refl
          (member_leads (Locate a) (place_of p h a) (dot_offset p a m) vs k (locate_leads a q))
      locate_leads (Arrow' t x a m) q vs k =
          one_step 1 _ (now vs (Eval a ∷ Offset (arrow_offset p a m) ∷ k)) (member_at p h (arrow_offset p a m) (value_of p h a)) (λ v. now (v ∷ vs) k) refl
          (member_leads (Eval a) (value_of p h a) (arrow_offset p a m) vs k (eval_leads a q))
      locate_leads (Parens' t x a) q vs k = one_step 1 _ (now vs (Locate a ∷ k)) (place_of p h a) (λ v. now (v ∷ vs) k) refl (locate_leads a q vs k)
      locate_leads e q vs k = (0, now vs (Locate e ∷ k), refl, refl)

    -- ---- a plain assignment

    abbrev pub done : List Value → List Item → Given → State
    done vs k g = record { here = with_world h g.world; values = g.value ∷ vs; control = k; outer = outer }

    store_by : (t : CType) (place : Value) (m : Meant) (s : State) (vs : List Value) (k : List Item)
        → step p s ≡ on_ok m (λ x. on_ok (store h.world (kind_of t) place x) (λ w. Goes 2 (done vs k (record { world = w; value = x }))))
        → Leads p s (m >>= λ x. store h.world (kind_of t) place x >>= λ w. Ok (record { world = w; value = x })) (done vs k)
    store_by t place (Ok x) s vs k e = by_mapped (store h.world (kind_of t) place x) (λ w. record { world = w; value = x }) 2 s (done vs k) e
    store_by t place (Err w) s vs k e = (0, s, refl, e)

    scalar_leads : (t : CType) (a b : Typed) → IsPlain a → IsPlain b → (vs : List Value) (k : List Item)
        → Leads p (now vs (Locate a ∷ Eval b ∷ Store t ∷ k)) (scalar_assigned p h t a b) (done vs k)
    scalar_leads t a b q r vs k =
        leads_then _ (place_of p h a) (λ place. now (place ∷ vs) (Eval b ∷ Store t ∷ k)) (done vs k) _ (locate_leads a q vs (Eval b ∷ Store t ∷ k)) (λ place.
        leads_then _ (value_of p h b) (λ v. now (v ∷ place ∷ vs) (Store t ∷ k)) (done vs k) _ (eval_leads b r (place ∷ vs) (Store t ∷ k)) (λ v.
        store_by t place (converted t v) (now (v ∷ place ∷ vs) (Store t ∷ k)) vs k refl))

    copy_by : (t : CType) (to : Value) (m : Result (List Value) Why) (s : State) (vs : List Value) (k : List Item)
        → step p s ≡ on_ok m (λ xs. on_ok (store_struct h.world (cells_of p.defs t) to xs) (λ w. Goes (1 + 2 * length xs) (done vs k (record { world = w; value = no_value }))))
        → Leads p s (m >>= λ xs. store_struct h.world (cells_of p.defs t) to xs >>= λ w. Ok (record { world = w; value = no_value })) (done vs k)
    copy_by t to (Ok xs) s vs k e = by_mapped (store_struct h.world (cells_of p.defs t) to xs) (λ w. record { world = w; value = no_value }) (1 + 2 * length xs) s (done vs k) e
    copy_by t to (Err w) s vs k e = (0, s, refl, e)

    struct_leads : (t : CType) (a b : Typed) → IsPlain a → IsPlain b → (vs : List Value) (k : List Item)
        → Leads p (now vs (Locate a ∷ Locate b ∷ Copy t ∷ k)) (struct_assigned p h t a b) (done vs k)
    struct_leads t a b q r vs k =
        leads_then _ (place_of p h a) (λ to. now (to ∷ vs) (Locate b ∷ Copy t ∷ k)) (done vs k) _ (locate_leads a q vs (Locate b ∷ Copy t ∷ k)) (λ to.
        leads_then _ (place_of p h b) (λ from. now (from ∷ to ∷ vs) (Copy t ∷ k)) (done vs k) _ (locate_leads b r (to ∷ vs) (Copy t ∷ k)) (λ from.
        copy_by t to (load_struct h.world (cells_of p.defs t) from) (now (from ∷ to ∷ vs) (Copy t ∷ k)) vs k refl))

    assign_by : (c : Bool) (s : State) (t : CType) (a b : Typed) → IsPlain a → IsPlain b → (vs : List Value) (k : List Item)
        → step p s ≡ Goes 1 (now vs (if c then Locate a ∷ Locate b ∷ Copy t ∷ k else Locate a ∷ Eval b ∷ Store t ∷ k))
        → Leads p s (if c then struct_assigned p h t a b else scalar_assigned p h t a b) (done vs k)
    assign_by true s t a b q r vs k e = one_step 1 s _ (struct_assigned p h t a b) (done vs k) e (struct_leads t a b q r vs k)
    assign_by false s t a b q r vs k e = one_step 1 s _ (scalar_assigned p h t a b) (done vs k) e (scalar_leads t a b q r vs k)

    pub assign_leads : (e : Typed) (vs : List Value) (k : List Item) → IsAssignment e → Leads p (now vs (Eval e ∷ k)) (assigned p h e) (done vs k)
    assign_leads (Assign' t x a None y b) vs k q = assign_by (is_struct (type_of a)) (now vs (Eval (Assign' t x a None y b) ∷ k)) (type_of a) a b q.0 q.1 vs k refl
    assign_leads (Assign' t x a (Some op) y b) vs k q = absurd q
    assign_leads e vs k q = absurd q
