-- What the pieces of operators on numbers leave.
use Rattle.std.proofs.Common.{◌≡◌, refl, sym, ap, subst, ◌∙◌, ℕ, suc, ◌+◌, ◌*◌, ◌%◌, ◌^◌, ◌<◌, ◌≤◌, true, false, Bool, if◌then◌else◌, nat_lt, Some, None, Result, Ok, Err, List, [], ◌∷◌, length, codes, ℤ, pos, lit<, arith}
use Rattle.std.specs.Prelude.{◌==◌, not, int_lt, int_le}
use Rattle.std.specs.Ordering.{int_eq, int_cmp}
use Rattle.std.specs.Bool.{beq}
use Rattle.ldb_words.specs.Word.{signed, word_of_signed}
use Rattle.ldb_words.specs.declared.kinds.Undef.{Undef}
use Rattle.c_tree.specs.declared.types.CType.{CType}
use Rattle.c_tree.specs.declared.types.CType.TheVariants as ctype
use Rattle.c_tree.specs.declared.typed.BinaryOp.{BinaryOp}
use Rattle.c_tree.specs.declared.typed.BinaryOp.TheVariants as binary
use Rattle.c_tree.specs.declared.typed.UnaryOp.{UnaryOp}
use Rattle.c_tree.specs.declared.typed.UnaryOp.TheVariants as unary
use Rattle.c_tree.specs.Types.{is_unsigned}
use Rattle.c_operators.specs.Bits.{signed_negate, subtract, shift_left, signed_shift_right}
use Rattle.c_operators.specs.Arithmetic.{truth, on_ints, on_unsigned, on_integer}
use Rattle.ps_store.specs.declared.object.PsObj.{PsObj}
use Rattle.ps_store.specs.declared.object.PsObj.TheVariants.{Int, Bool as Truth}
use Rattle.ps_store.specs.declared.object.DictId.{DictId}
use Rattle.ps_store.specs.StoreState.{StoreState}
use Rattle.ps_store.specs.Operators.{operator_number}
use Rattle.ps_step.specs.declared.compare.Relation.TheVariants.{Lt, Le, Gt, Ge}
use Rattle.ps_step.specs.declared.fault.PsError.{PsError}
use Rattle.ps_step.specs.declared.fault.PsFault.TheVariants.{Spent}
use Rattle.ps_step.specs.declared.item.Item.{Item}
use Rattle.ps_step.specs.declared.machine.PsCore.{PsCore}
use Rattle.ps_step.specs.Item.{under_stopped}
use Rattle.ps_step.specs.Results.{◌>>=◌}
use Rattle.ps_step.specs.Compare.{holds}
use Rattle.ps_step.specs.Executing.{numbered}
use Rattle.ps_run.specs.Runs.{Answer}
use Rattle.ps_text.specs.Code.{Code, Stop, Num, Word}
use Rattle.ps_terms.specs.Machine.{entered}
use Rattle.ps_terms.specs.Stands.{Frames, core}
use Rattle.ps_words.specs.declared.words.WordOperator.{WordOperator}
use Rattle.ps_words.specs.declared.words.WordOperator.TheVariants as word_op
use Rattle.ps_words.specs.Words.{of_two, defined, error_of}
use Rattle.ps_words.specs.Operators.{integer, on_two, negating, below as less}
use Rattle.ps_emit.specs.Terms.{◌⋯◌}
use Rattle.dialect_model.specs.Dial.{Dial}
use Rattle.dialect_model.specs.Acting.{with_state}
use Rattle.dialect_model.specs.Operators.{act}
use Rattle.c_bytes.specs.Operators.{converted}
use Rattle.expr_serve.specs.Operators as pieces
use Rattle.serving_laws.specs.Left.{AreOperators}
use Rattle.serving_laws.proofs.Numbers.{back, equal_is, less_is, greater_is, at_most_is, at_least_is, not_less, or_is, xor_is, and_is, complement_is, byte_is}
use Rattle.serving_laws.proofs.Names.{exch_is, and_is as and_named, or_is as or_named, xor_is as xor_named, not_is, eq_is, ne_is, lt_is, le_is, gt_is, ge_is, iadd_is, isub_is, imul_is, idivs_is, irem_is, ineg_is, udivs_is, urem_is, uadd_is, usub_is, umul_is, ishl_is, ishr_is, ushr_is, ult_is}
use Rattle.serving_laws.proofs.Stepping.{Reaches, Fails, Then, makes, at_bottom, number_reaches, manual_reaches, dialect_reaches, chosen_reaches}

-- operands that are left
abbrev pub left_by : List PsObj → Result (List PsObj) PsError
left_by o = Ok o

abbrev pub failed_by : PsError → Result (List PsObj) PsError
failed_by e = Err e

pub left_same : (a b : List PsObj) → left_by a ≡ left_by b → a ≡ b
left_same a b h = cc

pub failed_same : (e f : PsError) → failed_by e ≡ failed_by f → e ≡ f
failed_same e f h = cc

pub left_failed : (a : List PsObj) (e : PsError) → left_by a ≡ failed_by e → ⊥
left_failed a e h = cc

beq_true : (b : Bool) → beq b true ≡ b
beq_true true = refl
beq_true false = refl

beq_false : (b : Bool) → beq b false ≡ not b
beq_false true = refl
beq_false false = refl

-- an operator on two words of one type
abbrev pub result_by : Bool → BinaryOp → ℕ → ℕ → Result ℕ Undef
result_by u op x y = if u then on_unsigned op x y else on_ints op x y

-- what the dialect's operators are, by their numbers
abbrev pub asks : (k : ℕ) → Type 0
asks k = (c : PsCore) → numbered (61 + k) c ≡ Ok (c, Some k)

module _ (s : StoreState) (ds : List DictId) (are : AreOperators s ds) (d : Dial) (Good : Answer → ℕ → Dial → PsCore → Type 0)
    (spent : (m : ℕ) (d' : Dial) (c' : PsCore) → Good (Err Spent) m d' c') (under : List Item) (none : under_stopped under ≡ None) where
  abbrev pub Reached : List PsObj → List Item → Type 0
  Reached o items = Reaches s ds are d Good spent o items

  abbrev pub Behind : Code → List PsObj → Type 0
  Behind rest o = Then s ds are d Good spent under rest o

  abbrev pub Failed : PsError → Type 0
  Failed e = Fails s ds are d Good spent e

  abbrev pub At : Code → List Item → Type 0
  At k items = Frames s under items (entered k [])

  -- ---- truths

  module _ (room : length under + 3 ≤ 1000) where
    pub choice_reaches : (b : Bool) (x y rest : Code) (o : List PsObj) (items : List Item) → length o + 3 ≤ 100000 → At (pieces.chosen x y ⋯ rest) items
        → ((below after : List Item) → length below ≤ suc (length under) → At rest below → Frames s below after (entered (if b then x else y) []) → Reached o after)
        → Reached (Truth b ∷ o) items
    choice_reaches b x y rest o items few f go = chosen_reaches s ds are d Good spent under b x y rest o items few room f go

    number_in : (i : ℤ) (o : List PsObj) (rest : Code) (below after : List Item) → length o + 3 ≤ 100000 → At rest below → Frames s below after (Num i Stop ∷ []) → Behind rest (Int i ∷ o) → Reached o after
    number_in i o rest below after few f inner go =
        number_reaches s ds are d Good spent below i Stop o after (omega (arith, few)) inner (λ items at. subst (Reached (Int i ∷ o)) (sym (at_bottom s below items at)) (go below f))

    pub truth_reaches : (b : Bool) (rest : Code) (o : List PsObj) (items : List Item) → length o + 3 ≤ 100000 → At (pieces.truth ⋯ rest) items
        → Behind rest (integer (truth b) ∷ o) → Reached (Truth b ∷ o) items
    truth_reaches true rest o items few f go =
        choice_reaches true (Num (pos 1) Stop) (Num (pos 0) Stop) rest o items few f (λ below after l f₁ f₂. number_in (pos 1) o rest below after few f₁ f₂ go)
    truth_reaches false rest o items few f go =
        choice_reaches false (Num (pos 1) Stop) (Num (pos 0) Stop) rest o items few f (λ below after l f₁ f₂. number_in (pos 0) o rest below after few f₁ f₂ go)

    pub untruth_reaches : (b : Bool) (rest : Code) (o : List PsObj) (items : List Item) → length o + 3 ≤ 100000 → At (pieces.untruth ⋯ rest) items
        → Behind rest (integer (truth (not b)) ∷ o) → Reached (Truth b ∷ o) items
    untruth_reaches true rest o items few f go =
        choice_reaches true (Num (pos 0) Stop) (Num (pos 1) Stop) rest o items few f (λ below after l f₁ f₂. number_in (pos 0) o rest below after few f₁ f₂ go)
    untruth_reaches false rest o items few f go =
        choice_reaches false (Num (pos 0) Stop) (Num (pos 1) Stop) rest o items few f (λ below after l f₁ f₂. number_in (pos 1) o rest below after few f₁ f₂ go)

    -- a comparison of the manual
    compared : (name : List ℕ) (p : ℕ) (b b' : Bool) (rest : Code) (o o' : List PsObj) (items : List Item) → length o + 3 ≤ 100000 → operator_number name ≡ Some p
        → ((after : List Item) → numbered p (core s ds o' after) ≡ Ok (core s ds (Truth b ∷ o) after, None)) → b ≡ b' → At (Word name (pieces.truth ⋯ rest)) items
        → Behind rest (integer (truth b') ∷ o) → Reached o' items
    compared name p b b' rest o o' items few e does same f go =
        manual_reaches s ds are d Good spent under name p (pieces.truth ⋯ rest) o' (Truth b ∷ o) items e does f
        (λ after at. truth_reaches b rest o after few at (subst (λ c. Behind rest (integer (truth c) ∷ o)) (sym same) go))

    -- whether two words are equal
    pub equal_reaches : (x y : ℕ) (rest : Code) (o : List PsObj) (items : List Item) → x < 2 ^ 32 → y < 2 ^ 32 → length o + 3 ≤ 100000 → At (Word (codes "eq") (pieces.truth ⋯ rest)) items
        → Behind rest (integer (truth (x == y)) ∷ o) → Reached (integer y ∷ integer x ∷ o) items
    equal_reaches x y rest o items h k few f go =
        compared (codes "eq") 52 (beq (int_eq (signed x) (signed y)) true) (x == y) rest o (integer y ∷ integer x ∷ o) items few eq_is (λ after. refl)
        (beq_true (int_eq (signed x) (signed y)) ∙ equal_is x y h k) f go

  -- ---- words of the dialect

  abbrev told : Result ℕ Undef → List PsObj → Result (List PsObj) PsError
  told (Ok n) o = Ok (integer n ∷ o)
  told (Err u) o = Err (error_of u)

  made_told : (r : Result ℕ Undef) (o : List PsObj) (after : List Item)
      → with_state d (defined r >>= λ n. Ok (core s ds (integer n ∷ o) after)) ≡ makes s ds are d Good spent (told r o) after
  made_told (Ok n) o after = refl
  made_told (Err u) o after = refl

  two_words : (w : WordOperator) (x y : ℕ) (o : List PsObj) (after : List Item) → x < 2 ^ 32 → y < 2 ^ 32
      → on_two w (core s ds (integer y ∷ integer x ∷ o) after) ≡ (defined (of_two w x y) >>= λ n. Ok (core s ds (integer n ∷ o) after))
  two_words w x y o after h k =
      ap (λ (a : ℕ). defined (of_two w a (word_of_signed (signed y))) >>= λ n. Ok (core s ds (integer n ∷ o) after)) (back x h)
      ∙ ap (λ (b : ℕ). defined (of_two w x b) >>= λ n. Ok (core s ds (integer n ∷ o) after)) (back y k)

  told_ok : (r : Result ℕ Undef) (o o' : List PsObj) → told r o ≡ Ok o' → (v : ℕ) × (r ≡ Ok v) × (integer v ∷ o ≡ o')
  told_ok (Ok n) o o' e = (n, refl, left_same (integer n ∷ o) o' e)
  told_ok (Err u) o o' e = absurd (left_failed o' (error_of u) (sym e))

  told_err : (r : Result ℕ Undef) (o : List PsObj) (e : PsError) → told r o ≡ Err e → (u : Undef) × (r ≡ Err u) × (error_of u ≡ e)
  told_err (Ok n) o e h = absurd (left_failed (integer n ∷ o) e h)
  told_err (Err u) o e h = (u, refl, failed_same (error_of u) e h)

  -- an operator of the dialect that makes a word, or is undefined
  word_reaches : (name : List ℕ) (k : ℕ) (r : Result ℕ Undef) (rest : Code) (o o' : List PsObj) (items : List Item) → operator_number name ≡ Some (61 + k) → asks k
      → ((after : List Item) → act k d (core s ds o' after) ≡ with_state d (defined r >>= λ n. Ok (core s ds (integer n ∷ o) after))) → At (Word name rest) items
      → ((v : ℕ) → r ≡ Ok v → Behind rest (integer v ∷ o)) → ((u : Undef) → r ≡ Err u → Failed (error_of u)) → Reached o' items
  word_reaches name k r rest o o' items e asked does f go bad =
      dialect_reaches s ds are d Good spent under name (61 + k) k rest o' items e (λ after. asked (core s ds o' after)) none (told r o) (λ after. does after ∙ made_told r o after) f
      (λ x h. let t = told_ok r o x h in subst (Behind rest) t.2 (go t.0 t.1)) (λ x h. let t = told_err r o x h in subst Failed t.2 (bad t.0 t.1))

  -- an operator on two words
  pub two_reaches : (name : List ℕ) (k : ℕ) (w : WordOperator) (x y : ℕ) (rest : Code) (o : List PsObj) (items : List Item) → operator_number name ≡ Some (61 + k) → asks k
      → ((c : PsCore) → act k d c ≡ with_state d (on_two w c)) → x < 2 ^ 32 → y < 2 ^ 32 → At (Word name rest) items
      → ((v : ℕ) → of_two w x y ≡ Ok v → Behind rest (integer v ∷ o)) → ((u : Undef) → of_two w x y ≡ Err u → Failed (error_of u)) → Reached (integer y ∷ integer x ∷ o) items
  two_reaches name k w x y rest o items e asked acts hx hy f go bad =
      word_reaches name k (of_two w x y) rest o (integer y ∷ integer x ∷ o) items e asked
      (λ after. acts (core s ds (integer y ∷ integer x ∷ o) after) ∙ ap (with_state d) (two_words w x y o after hx hy)) f go bad

  -- ---- what each operator of the dialect does

  pub uadd_acts : (c : PsCore) → act 16 d c ≡ with_state d (on_two word_op.Add c)
  unfolding act
  uadd_acts c = refl

  usub_acts : (c : PsCore) → act 17 d c ≡ with_state d (on_two word_op.Subtract c)
  unfolding act
  usub_acts c = refl

  umul_acts : (c : PsCore) → act 18 d c ≡ with_state d (on_two word_op.Multiply c)
  unfolding act
  umul_acts c = refl

  iadd_acts : (c : PsCore) → act 8 d c ≡ with_state d (on_two word_op.SignedAdd c)
  unfolding act
  iadd_acts c = refl

  isub_acts : (c : PsCore) → act 9 d c ≡ with_state d (on_two word_op.SignedSubtract c)
  unfolding act
  isub_acts c = refl

  imul_acts : (c : PsCore) → act 10 d c ≡ with_state d (on_two word_op.SignedMultiply c)
  unfolding act
  imul_acts c = refl

  idivs_acts : (c : PsCore) → act 11 d c ≡ with_state d (on_two word_op.SignedDivide c)
  unfolding act
  idivs_acts c = refl

  irem_acts : (c : PsCore) → act 12 d c ≡ with_state d (on_two word_op.SignedRemainder c)
  unfolding act
  irem_acts c = refl

  udivs_acts : (c : PsCore) → act 14 d c ≡ with_state d (on_two word_op.Divide c)
  unfolding act
  udivs_acts c = refl

  urem_acts : (c : PsCore) → act 15 d c ≡ with_state d (on_two word_op.Remainder c)
  unfolding act
  urem_acts c = refl

  ishl_acts : (c : PsCore) → act 19 d c ≡ with_state d (on_two word_op.ShiftLeft c)
  unfolding act
  ishl_acts c = refl

  ishr_acts : (c : PsCore) → act 20 d c ≡ with_state d (on_two word_op.SignedShiftRight c)
  unfolding act
  ishr_acts c = refl

  pub ushr_acts : (c : PsCore) → act 21 d c ≡ with_state d (on_two word_op.ShiftRight c)
  unfolding act
  ushr_acts c = refl

  ineg_acts : (c : PsCore) → act 13 d c ≡ with_state d (negating c)
  unfolding act
  ineg_acts c = refl

  ult_acts : (c : PsCore) → act 22 d c ≡ with_state d (less c)
  unfolding act
  ult_acts c = refl

  -- the order of `unsigned`
  ult_reaches : (x y : ℕ) (rest : Code) (o : List PsObj) (items : List Item) → x < 2 ^ 32 → y < 2 ^ 32 → At (Word (codes "ult") rest) items
      → Behind rest (Truth (nat_lt x y) ∷ o) → Reached (integer y ∷ integer x ∷ o) items
  ult_reaches x y rest o items h k f go =
      dialect_reaches s ds are d Good spent under (codes "ult") 83 22 rest (integer y ∷ integer x ∷ o) items ult_is (λ after. refl) none (Ok (Truth (nat_lt x y) ∷ o))
      (λ after. ult_acts (core s ds (integer y ∷ integer x ∷ o) after)
      ∙ ap (λ (a : ℕ). with_state d (Ok (core s ds (Truth (nat_lt a (word_of_signed (signed y))) ∷ o) after))) (back x h)
      ∙ ap (λ (b : ℕ). with_state d (Ok (core s ds (Truth (nat_lt x b) ∷ o) after))) (back y k)) f
      (λ o' e. subst (Behind rest) (left_same (Truth (nat_lt x y) ∷ o) o' e) go) (λ e' e. absurd (left_failed (Truth (nat_lt x y) ∷ o) e' e))

  -- `-` of an `int`
  negation_reaches : (x : ℕ) (rest : Code) (o : List PsObj) (items : List Item) → x < 2 ^ 32 → At (Word (codes "ineg") rest) items
      → ((v : ℕ) → signed_negate x ≡ Ok v → Behind rest (integer v ∷ o)) → ((u : Undef) → signed_negate x ≡ Err u → Failed (error_of u)) → Reached (integer x ∷ o) items
  negation_reaches x rest o items h f go bad =
      word_reaches (codes "ineg") 13 (signed_negate x) rest o (integer x ∷ o) items ineg_is (λ c. refl)
      (λ after. ineg_acts (core s ds (integer x ∷ o) after) ∙ ap (λ (a : ℕ). with_state d (defined (signed_negate a) >>= λ n. Ok (core s ds (integer n ∷ o) after))) (back x h)) f go bad

  -- operands are exchanged
  pub exchanged : (x y : PsObj) (rest : Code) (o : List PsObj) (items : List Item) → At (Word (codes "exch") rest) items → Behind rest (x ∷ y ∷ o) → Reached (y ∷ x ∷ o) items
  exchanged x y rest o items f go = manual_reaches s ds are d Good spent under (codes "exch") 0 rest (y ∷ x ∷ o) (x ∷ y ∷ o) items exch_is (λ after. refl) f go

  -- bits
  pub bits_reach : (name : List ℕ) (p : ℕ) (z : ℤ) (v : ℕ) (rest : Code) (o o' : List PsObj) (items : List Item) → operator_number name ≡ Some p
      → ((after : List Item) → numbered p (core s ds o' after) ≡ Ok (core s ds (Int z ∷ o) after, None)) → z ≡ signed v → At (Word name rest) items → Behind rest (integer v ∷ o) → Reached o' items
  bits_reach name p z v rest o o' items e does same f go =
      manual_reaches s ds are d Good spent under name p rest o' (Int z ∷ o) items e does f (subst (λ (z : ℤ). Behind rest (Int z ∷ o)) (sym same) go)

  module _ (room : length under + 3 ≤ 1000) where
    -- an operator on two numbers of type `int`
    ints_reach : (op : BinaryOp) (x y : ℕ) (rest : Code) (o : List PsObj) (items : List Item) → x < 2 ^ 32 → y < 2 ^ 32 → length o + 3 ≤ 100000 → At (pieces.on_ints op ⋯ rest) items
        → ((v : ℕ) → on_ints op x y ≡ Ok v → Behind rest (integer v ∷ o)) → ((u : Undef) → on_ints op x y ≡ Err u → Failed (error_of u)) → Reached (integer y ∷ integer x ∷ o) items
    ints_reach binary.BitOr x y rest o items h k few f go bad =
        bits_reach (codes "or") 49 _ _ rest o (integer y ∷ integer x ∷ o) items or_named (λ after. refl) (or_is x y h k) f (go _ refl)
    ints_reach binary.BitXor x y rest o items h k few f go bad =
        bits_reach (codes "xor") 50 _ _ rest o (integer y ∷ integer x ∷ o) items xor_named (λ after. refl) (xor_is x y h k) f (go _ refl)
    ints_reach binary.BitAnd x y rest o items h k few f go bad =
        bits_reach (codes "and") 48 _ _ rest o (integer y ∷ integer x ∷ o) items and_named (λ after. refl) (and_is x y h k) f (go _ refl)
    ints_reach binary.Equal x y rest o items h k few f go bad = equal_reaches room x y rest o items h k few f (go _ refl)
    ints_reach binary.Unequal x y rest o items h k few f go bad =
        compared room (codes "ne") 53 (beq (int_eq (signed x) (signed y)) false) (not (x == y)) rest o (integer y ∷ integer x ∷ o) items few ne_is (λ after. refl)
        (beq_false (int_eq (signed x) (signed y)) ∙ ap not (equal_is x y h k)) f (go _ refl)
    ints_reach binary.Less x y rest o items h k few f go bad =
        compared room (codes "lt") 54 (holds Lt (int_cmp (signed x) (signed y))) (int_lt (signed x) (signed y)) rest o (integer y ∷ integer x ∷ o) items few lt_is (λ after. refl)
        (less_is (signed x) (signed y)) f (go _ refl)
    ints_reach binary.Greater x y rest o items h k few f go bad =
        compared room (codes "gt") 56 (holds Gt (int_cmp (signed x) (signed y))) (int_lt (signed y) (signed x)) rest o (integer y ∷ integer x ∷ o) items few gt_is (λ after. refl)
        (greater_is (signed x) (signed y)) f (go _ refl)
    ints_reach binary.LessEqual x y rest o items h k few f go bad =
        compared room (codes "le") 55 (holds Le (int_cmp (signed x) (signed y))) (int_le (signed x) (signed y)) rest o (integer y ∷ integer x ∷ o) items few le_is (λ after. refl)
        (at_most_is (signed x) (signed y)) f (go _ refl)
    ints_reach binary.GreaterEqual x y rest o items h k few f go bad =
        compared room (codes "ge") 57 (holds Ge (int_cmp (signed x) (signed y))) (int_le (signed y) (signed x)) rest o (integer y ∷ integer x ∷ o) items few ge_is (λ after. refl)
        (at_least_is (signed x) (signed y)) f (go _ refl)
    ints_reach binary.ShiftLeft x y rest o items h k few f go bad = two_reaches (codes "ishl") 19 word_op.ShiftLeft x y rest o items ishl_is (λ c. refl) ishl_acts h k f go bad
    ints_reach binary.ShiftRight x y rest o items h k few f go bad = two_reaches (codes "ishr") 20 word_op.SignedShiftRight x y rest o items ishr_is (λ c. refl) ishr_acts h k f go bad
    ints_reach binary.Add x y rest o items h k few f go bad = two_reaches (codes "iadd") 8 word_op.SignedAdd x y rest o items iadd_is (λ c. refl) iadd_acts h k f go bad
    ints_reach binary.Subtract x y rest o items h k few f go bad = two_reaches (codes "isub") 9 word_op.SignedSubtract x y rest o items isub_is (λ c. refl) isub_acts h k f go bad
    ints_reach binary.Multiply x y rest o items h k few f go bad = two_reaches (codes "imul") 10 word_op.SignedMultiply x y rest o items imul_is (λ c. refl) imul_acts h k f go bad
    ints_reach binary.Divide x y rest o items h k few f go bad = two_reaches (codes "idivs") 11 word_op.SignedDivide x y rest o items idivs_is (λ c. refl) idivs_acts h k f go bad
    ints_reach binary.Remainder x y rest o items h k few f go bad = two_reaches (codes "irem") 12 word_op.SignedRemainder x y rest o items irem_is (λ c. refl) irem_acts h k f go bad

    -- and of type `unsigned`
    unsigned_reach : (op : BinaryOp) (x y : ℕ) (rest : Code) (o : List PsObj) (items : List Item) → x < 2 ^ 32 → y < 2 ^ 32 → length o + 3 ≤ 100000 → At (pieces.on_unsigned op ⋯ rest) items
        → ((v : ℕ) → on_unsigned op x y ≡ Ok v → Behind rest (integer v ∷ o)) → ((u : Undef) → on_unsigned op x y ≡ Err u → Failed (error_of u)) → Reached (integer y ∷ integer x ∷ o) items
    unsigned_reach binary.BitOr x y rest o items h k few f go bad = ints_reach binary.BitOr x y rest o items h k few f go bad
    unsigned_reach binary.BitXor x y rest o items h k few f go bad = ints_reach binary.BitXor x y rest o items h k few f go bad
    unsigned_reach binary.BitAnd x y rest o items h k few f go bad = ints_reach binary.BitAnd x y rest o items h k few f go bad
    unsigned_reach binary.Equal x y rest o items h k few f go bad = ints_reach binary.Equal x y rest o items h k few f go bad
    unsigned_reach binary.Unequal x y rest o items h k few f go bad = ints_reach binary.Unequal x y rest o items h k few f go bad
    unsigned_reach binary.ShiftLeft x y rest o items h k few f go bad = ints_reach binary.ShiftLeft x y rest o items h k few f go bad
    unsigned_reach binary.Less x y rest o items h k few f go bad =
        ult_reaches x y (pieces.truth ⋯ rest) o items h k f (λ after at. truth_reaches room (nat_lt x y) rest o after few at (go _ refl))
    unsigned_reach binary.Greater x y rest o items h k few f go bad =
        exchanged (integer x) (integer y) (Word (codes "ult") (pieces.truth ⋯ rest)) o items f
        (λ after at. ult_reaches y x (pieces.truth ⋯ rest) o after k h at (λ after at. truth_reaches room (nat_lt y x) rest o after few at (go _ refl)))
    unsigned_reach binary.LessEqual x y rest o items h k few f go bad =
        exchanged (integer x) (integer y) (Word (codes "ult") (pieces.untruth ⋯ rest)) o items f
        (λ after at. ult_reaches y x (pieces.untruth ⋯ rest) o after k h at
        (λ after at. untruth_reaches room (nat_lt y x) rest o after few at (subst (λ b. Behind rest (integer (truth b) ∷ o)) (sym (not_less x y)) (go _ refl))))
    unsigned_reach binary.GreaterEqual x y rest o items h k few f go bad =
        ult_reaches x y (pieces.untruth ⋯ rest) o items h k f
        (λ after at. untruth_reaches room (nat_lt x y) rest o after few at (subst (λ b. Behind rest (integer (truth b) ∷ o)) (sym (not_less y x)) (go _ refl)))
    unsigned_reach binary.ShiftRight x y rest o items h k few f go bad = two_reaches (codes "ushr") 21 word_op.ShiftRight x y rest o items ushr_is (λ c. refl) ushr_acts h k f go bad
    unsigned_reach binary.Add x y rest o items h k few f go bad = two_reaches (codes "uadd") 16 word_op.Add x y rest o items uadd_is (λ c. refl) uadd_acts h k f go bad
    unsigned_reach binary.Subtract x y rest o items h k few f go bad = two_reaches (codes "usub") 17 word_op.Subtract x y rest o items usub_is (λ c. refl) usub_acts h k f go bad
    unsigned_reach binary.Multiply x y rest o items h k few f go bad = two_reaches (codes "umul") 18 word_op.Multiply x y rest o items umul_is (λ c. refl) umul_acts h k f go bad
    unsigned_reach binary.Divide x y rest o items h k few f go bad = two_reaches (codes "udivs") 14 word_op.Divide x y rest o items udivs_is (λ c. refl) udivs_acts h k f go bad
    unsigned_reach binary.Remainder x y rest o items h k few f go bad = two_reaches (codes "urem") 15 word_op.Remainder x y rest o items urem_is (λ c. refl) urem_acts h k f go bad

    -- an operator on integers of two types
    pub integers_reach : (u : Bool) (op : BinaryOp) (x y : ℕ) (rest : Code) (o : List PsObj) (items : List Item) → x < 2 ^ 32 → y < 2 ^ 32 → length o + 3 ≤ 100000
        → At ((if u then pieces.on_unsigned op else pieces.on_ints op) ⋯ rest) items
        → ((v : ℕ) → result_by u op x y ≡ Ok v → Behind rest (integer v ∷ o)) → ((w : Undef) → result_by u op x y ≡ Err w → Failed (error_of w)) → Reached (integer y ∷ integer x ∷ o) items
    integers_reach true op x y rest o items h k few f go bad = unsigned_reach op x y rest o items h k few f go bad
    integers_reach false op x y rest o items h k few f go bad = ints_reach op x y rest o items h k few f go bad

    -- an operator on one number
    pub one_reaches : (op : UnaryOp) (t : CType) (x : ℕ) (rest : Code) (o : List PsObj) (items : List Item) → x < 2 ^ 32 → length o + 4 ≤ 100000 → At (pieces.on_one op t ⋯ rest) items
        → ((v : ℕ) → on_integer op t x ≡ Ok v → Behind rest (integer v ∷ o)) → ((u : Undef) → on_integer op t x ≡ Err u → Failed (error_of u)) → Reached (integer x ∷ o) items
    one_reaches unary.Plus t x rest o items h few f go bad = go x refl items f
    one_reaches unary.Minus t x rest o items h few f go bad = by (is_unsigned t) f go bad
      where
        by : (u : Bool) → At ((if u then Num (pos 0) (Word (codes "exch") (Word (codes "usub") Stop)) else Word (codes "ineg") Stop) ⋯ rest) items
            → ((v : ℕ) → (if u then Ok (subtract 0 x) else signed_negate x) ≡ Ok v → Behind rest (integer v ∷ o))
            → ((w : Undef) → (if u then Ok (subtract 0 x) else signed_negate x) ≡ Err w → Failed (error_of w)) → Reached (integer x ∷ o) items
        by true f go bad =
            number_reaches s ds are d Good spent under (pos 0) (Word (codes "exch") (Word (codes "usub") rest)) (integer x ∷ o) items (omega (arith, few)) f
            (λ after at. exchanged (integer x) (integer 0) (Word (codes "usub") rest) o after at
            (λ after at. two_reaches (codes "usub") 17 word_op.Subtract 0 x rest o after usub_is (λ c. refl) usub_acts (lit< tt) h at go bad))
        by false f go bad = negation_reaches x rest o items h f go bad
    one_reaches unary.Complement t x rest o items h few f go bad =
        bits_reach (codes "not") 51 _ _ rest o (integer x ∷ o) items not_is (λ after. refl) (complement_is x h) f (go _ refl)
    one_reaches unary.Not t x rest o items h few f go bad =
        number_reaches s ds are d Good spent under (pos 0) (Word (codes "eq") (pieces.truth ⋯ rest)) (integer x ∷ o) items (omega (arith, few)) f
        (λ after at. equal_reaches room x 0 rest o after h (lit< tt) (omega (arith, few)) at (go _ refl))

    -- one of two pieces, by whether a number is 0
    pub zero_reaches : (x : ℕ) (first other rest : Code) (o : List PsObj) (items : List Item) → x < 2 ^ 32 → length o + 4 ≤ 100000 → At (pieces.by_zero first other ⋯ rest) items
        → ((below after : List Item) → length below ≤ suc (length under) → At rest below → Frames s below after (entered (if x == 0 then first else other) []) → Reached o after)
        → Reached (integer x ∷ o) items
    zero_reaches x first other rest o items h few f go =
        number_reaches s ds are d Good spent under (pos 0) (Word (codes "eq") (pieces.chosen first other ⋯ rest)) (integer x ∷ o) items (omega (arith, few)) f
        (λ after at. manual_reaches s ds are d Good spent under (codes "eq") 52 (pieces.chosen first other ⋯ rest) (integer 0 ∷ integer x ∷ o) (Truth (beq (int_eq (signed x) (signed 0)) true) ∷ o) after eq_is (λ after. refl) at
        (λ after at. subst (λ b. Reached (Truth b ∷ o) after) (sym (beq_true (int_eq (signed x) (signed 0)) ∙ equal_is x 0 h (lit< tt)))
        (choice_reaches room (x == 0) first other rest o after (omega (arith, few)) at go)))

  -- a conversion
  pub conversion_reaches : (t : CType) (x : ℕ) (rest : Code) (o : List PsObj) (items : List Item) → x < 2 ^ 32 → length o + 4 ≤ 100000 → At (pieces.conversion t ⋯ rest) items
      → Behind rest (integer (converted t x) ∷ o) → Reached (integer x ∷ o) items
  conversion_reaches ctype.Char x rest o items h few f go =
      number_reaches s ds are d Good spent under (pos 24) (Word (codes "ishl") (Num (pos 24) (Word (codes "ishr") rest))) (integer x ∷ o) items (omega (arith, few)) f
      (λ after at. two_reaches (codes "ishl") 19 word_op.ShiftLeft x 24 (Num (pos 24) (Word (codes "ishr") rest)) o after ishl_is (λ c. refl) ishl_acts h (lit< tt) at
      (λ v e after at. number_reaches s ds are d Good spent under (pos 24) (Word (codes "ishr") rest) (integer v ∷ o) after (omega (arith, few)) at
      (λ after at. two_reaches (codes "ishr") 20 word_op.SignedShiftRight v 24 rest o after ishr_is (λ c. refl) ishr_acts (shifted_small v e) (lit< tt) at
      (λ w e' after at. go' v w e e' after at) (λ u e'. absurd (never' v u e')))) (λ u e. absurd (never u e)))
    where
      is_shifted : (v : ℕ) → shift_left x 24 ≡ Ok v → v ≡ x * 2 ^ 24 % 2 ^ 32
      is_shifted v e = cc

      shifted_small : (v : ℕ) → shift_left x 24 ≡ Ok v → v < 2 ^ 32
      shifted_small v e = let same = is_shifted v e in omega (arith, same)

      never : (u : Undef) → shift_left x 24 ≡ Err u → ⊥
      never u e = cc

      never' : (v : ℕ) (u : Undef) → signed_shift_right v 24 ≡ Err u → ⊥
      never' v u e = cc

      go' : (v w : ℕ) → shift_left x 24 ≡ Ok v → signed_shift_right v 24 ≡ Ok w → Behind rest (integer w ∷ o)
      go' v w e e' = subst (λ n. Behind rest (integer n ∷ o)) (sym (byte_is x v w (is_shifted v e) e')) go
  conversion_reaches ctype.Int x rest o items h few f go = go items f
  conversion_reaches ctype.Unsigned x rest o items h few f go = go items f
  conversion_reaches ctype.Void x rest o items h few f go = go items f
  conversion_reaches (ctype.Pointer' _ t) x rest o items h few f go = go items f
  conversion_reaches (ctype.Array' _ t n) x rest o items h few f go = go items f
  conversion_reaches (ctype.Struct n) x rest o items h few f go = go items f
