-- The text of an expression is read, and run.
use Rattle.std.proofs.Common.{◌≡◌, ◌≢◌, refl, sym, ap, subst, ◌∙◌, ℕ, zero, suc, ◌+◌, ◌≤◌, ◌==◌, nat_lt, true, false, Bool, Some, None, Result, Ok, Err, List, [], ◌∷◌, ◌++◌, length, drop, take, codes, if◌then◌else◌, ◌-◌, arith, lt-ltb, le-ltb, ne_eqb, length-drop, drop-drop, reverse}
use Rattle.machine_state.specs.Sound.{IsMemory}
use Rattle.c_tree.specs.declared.types.StructDef.{StructDef}
use Rattle.c_tree.specs.declared.typed.Typed.{Typed}
use Rattle.c_tree.specs.Types.{type_of, is_struct}
use Rattle.c_judge.specs.declared.symbol.Symbol.{Symbol}
use Rattle.c_judge.specs.declared.check.Mode.TheVariants.{Value}
use Rattle.ps_scan.specs.declared.token.PsKind.TheVariants.{Name as WordKind}
use Rattle.ps_scan.specs.Bytes.{is_white, is_special, is_regular}
use Rattle.ps_scan.specs.Spans.{blank_len}
use Rattle.ps_scan.specs.Token.{token_end, token_from, next_token_of}
use Rattle.ps_scan.proofs.Exact.{token_exact}
use Rattle.ps_store.specs.declared.object.PsObj.{PsObj}
use Rattle.ps_store.specs.declared.object.PsObj.TheVariants.{Name, Array, Op}
use Rattle.ps_store.specs.declared.object.ArrayId.{ArrayId}
use Rattle.ps_store.specs.declared.object.DictId.{DictId}
use Rattle.ps_store.specs.declared.object.StringId.{StringId}
use Rattle.ps_store.specs.Operators.{operator_number}
use Rattle.ps_store.specs.StoreState.{StoreState}
use Rattle.ps_store.specs.declared.fault.StoreFault.{StoreFault}
use Rattle.ps_store.specs.Store.{bytes_of, elements_of, text_units}
use Rattle.ps_step.specs.declared.fault.PsFault.TheVariants.{NoMemory, Spent}
use Rattle.ps_step.specs.declared.fault.PsError.TheVariants.{SyntaxError as BadSyntax}
use Rattle.ps_step.specs.declared.item.Item.{Item}
use Rattle.ps_step.specs.declared.item.Item.TheVariants.{Object, Text as Reading}
use Rattle.ps_step.specs.declared.machine.PsCore.{PsCore}
use Rattle.ps_step.specs.Item.{under_stopped}
use Rattle.ps_step.specs.Results.{◌>>=◌, stored}
use Rattle.ps_step.specs.Executing.{meeting, numbered}
use Rattle.ps_run.specs.Scan.{Read, More, Whole, Nothing, Bad, word_of, read_token, ended, reading, reading_all, reading_object, placed, naming_text, name_text}
use Rattle.ps_run.specs.Step.{Next, Ended, raising, settled, stepping, step}
use Rattle.ps_run.specs.Runs.{Answer, Runs}
use Rattle.ps_run.specs.Passes.{Closes}
use Rattle.ps_run.proofs.Apart.{apart, behind}
use Rattle.ps_text.specs.Code.{Stop, Word, Proc, render}
use Rattle.ps_text.specs.Grown.{Grown, HasArray, IsString, IsArray}
use Rattle.ps_text.specs.Spells.{Spells, Fine, size, units}
use Rattle.ps_text.specs.Reading.{ReadsFirst, bare}
use Rattle.ps_text.proofs.Tokens.{token, token_first, space_first}
use Rattle.ps_text.proofs.Reading.{token_whole}
use Rattle.ps_text.proofs.Growing.{MadeText, text_made, total, total_grown, string_kept, array_kept, grown_on}
use Rattle.ps_text.proofs.Kept.{spells_kept}
use Rattle.ps_text.proofs.Checks.{fine}
use Rattle.ps_text.proofs.First.{reads_first}
use Rattle.ps_terms.specs.Stands.{core}
use Rattle.ps_terms.proofs.Sound.{push_next, name_acts}
use Rattle.dialect_model.specs.Dial.{Dial}
use Rattle.dialect_model.specs.Operating.{Operates}
use Rattle.dialect_model.specs.TableUse.{TableUse}
use Rattle.c_bytes.specs.Lvalues.{Scene}
use Rattle.expr_serve.specs.Codes.{value_code, struct_code, text_of}
use Rattle.serving_laws.specs.Plain.{IsPlain, RoomFor}
use Rattle.serving_laws.specs.Left.{AreOperators, Leaves, spends, AreServed}
use Rattle.serving_laws.specs.Named.{dial_in, HasSpaces, dictionaries_in, use_in}
use Rattle.serving_laws.specs.Evaluated.{IsEvaluated, Evaluates, spends as is_spent, AreEvaluated}
use Rattle.serving_laws.specs.Texts.{IsWhole, AreReadAndEvaluated}
use Rattle.serving_laws.proofs.Values.{base_room, values_left}
use Rattle.serving_laws.proofs.Evaluated.{room as room_of, values_evaluated}
use Rattle.serving_laws.proofs.Kept.{base_kept, operators_kept, spaces_kept, evaluated_kept}

exec_is : operator_number (codes "exec") ≡ Some 23
unfolding operator_number
exec_is = refl

-- ---- the word at the end of a text, behind a space

exec_fine : Fine (Word (codes "exec") Stop)
unfolding is_regular is_special is_white
exec_fine = fine (Word (codes "exec") Stop) refl

module _ (text : List ℕ) (at : ℕ) (here : drop at text ≡ 32 ∷ codes "exec") where
  long : length text ≡ at + 5
  long = let e : length text - at ≡ 5 = sym (length-drop at text) ∙ ap length here in omega (arith, e)

  behind_space : drop (at + 1) text ≡ codes "exec"
  behind_space = sym (drop-drop 1 at text) ∙ ap (drop 1) here

  blanks : blank_len false (drop at text) ≡ 1
  blanks = ap (blank_len false) here ∙ space_first (codes "exec") 0 (token_first WordKind (codes "exec") [] exec_fine.0)

  last_token : next_token_of text at ≡ Ok (Some (token WordKind (at + 1) 4))
  last_token =
      let l = long in
      let more : (at + 1 == length text) ≡ false = ne_eqb _ _ (λ e. omega (arith, l, e)) in
      let read : token_end (at + 1) (drop (at + 1) text) ≡ Some (WordKind, at + 1 + 4) = ap (token_end (at + 1)) behind_space ∙ token_exact WordKind (at + 1) (codes "exec") [] exec_fine.0 tt in
      ap (λ n. token_from text (at + n)) blanks ∙ rw (more, read) refl

  last_word : word_of text (token WordKind (at + 1) 4) ≡ codes "exec"
  last_word =
      let n : at + 1 + 4 - (at + 1) ≡ 4 = omega arith in
      ap (λ k. take k (drop (at + 1) text)) n ∙ ap (take 4) behind_space

  last_read : (s : StoreState) (t : StringId) → bytes_of s t ≡ text → (m : MadeText 127 s (codes "exec")) → reading_object s t at ≡ Whole (Name m.id true) m.store (at + 1 + 4)
  last_read s t e m =
      let l = long in
      let within : nat_lt (length text) at ≡ false = le-ltb (length text) at (omega (arith, l)) in
      let met : reading s t [] at ≡ read_token s text [] (token WordKind (at + 1) 4) =
      ap (λ (bytes : List ℕ). if nat_lt (length bytes) at then Bad BadSyntax s
      else elim (next_token_of bytes at) [
        | Err e ↦ Bad BadSyntax s
        | Ok found ↦ elim found [ None ↦ ended s [] | Some token ↦ read_token s bytes [] token ]
      ]) e
      ∙ rw (within, last_token) refl in
      let read : reading s t [] at ≡ Whole (Name m.id true) m.store (at + 1 + 4) =
      met
      ∙ ap (λ (w : List ℕ). placed [] (at + 1 + 4) s (naming_text s (name_text w) true)) last_word
      ∙ ap (λ (r : Result (StringId × StoreState) StoreFault). placed [] (at + 1 + 4) s (stored r >>= λ given. Ok (Name given.0 true, given.1))) m.made in
      let one : length (bytes_of s t) + 1 ≡ suc (length (bytes_of s t)) = omega arith in
      ap (λ n. reading_all n s t [] at) one ∙ token_whole (length (bytes_of s t)) s t [] at (Name m.id true) m.store (at + 1 + 4) read

-- ---- a step to another store

abbrev Comes : Dial → (Answer → ℕ → Dial → PsCore → Type 0) → PsCore → Type 0
Comes d Good c = (n : ℕ) (r : Answer) (m : ℕ) (d' : Dial) (c' : PsCore) → r ≢ Err NoMemory → Runs Operates n d c r m d' c' → Good r m d' c'

next_comes : (d : Dial) (Good : Answer → ℕ → Dial → PsCore → Type 0) → ((m : ℕ) (d' : Dial) (c' : PsCore) → Good (Err Spent) m d' c') → (c c₁ : PsCore) → step c ≡ Next c₁ → Comes d Good c₁ → Comes d Good c
next_comes d Good spent c c₁ e p zero r m d' c' other run =
    let h : Closes (Err Spent) zero d c r m d' c' = apart Operates zero d c r m d' c' run in
    subst (λ a. Good a m d' c') (sym h.answered) (spent m d' c')
next_comes d Good spent c c₁ e p (suc n) r m d' c' other run = p n r m d' c' other (behind Operates n d c (Next c₁) r m d' c' e run)

-- a text gives an object, which is met
met_in_text : (s s₁ : StoreState) (ds : List DictId) (o : List PsObj) (items : List Item) (t : StringId) (at to : ℕ) (x : PsObj) → reading_object s t at ≡ Whole x s₁ to
    → step (core s ds o (Reading t at ∷ items)) ≡ settled (meeting x (core s₁ ds o (Reading t to ∷ items)))
met_in_text s s₁ ds o items t at to x e = ap (λ (r : Read). elim r [
  | Nothing s' ↦ stepping items (record (core s ds o (Reading t at ∷ items)) { store = s'; execution = items })
  | Whole x s' next ↦ settled (meeting x (record (core s ds o (Reading t at ∷ items)) { store = s'; execution = Reading t next ∷ items }))
  | Bad e s' ↦ raising e (record (core s ds o (Reading t at ∷ items)) { store = s'; execution = items })
  | More s' xs next ↦ Ended (core s ds o (Reading t at ∷ items))
]) e

-- ---- the text

-- A text is read as one procedure, which is run: what comes of each run of the procedure comes of the text's, whose objects were added to the store.
record IsRead (names : List Symbol) (defs : List StructDef) (e : Typed) (s : StoreState) (ds : List DictId) (o : List PsObj) (items : List Item) (i : StringId) : Type 1 where
  procedure : ArrayId
  store : StoreState
  grown : Grown (units (Proc (value_code names defs e) Stop) + text_units (codes "exec")) s store
  has : HasArray store procedure
  spells : Spells store (elements_of store procedure) (value_code names defs e)
  operators : AreOperators store ds
  comes : (d : Dial) (Good : Answer → ℕ → Dial → PsCore → Type 0) → ((m : ℕ) (d' : Dial) (c' : PsCore) → Good (Err Spent) m d' c')
      → Comes d Good (core store ds o (Object (Array procedure true) ∷ Reading i (length (text_of names defs Value e)) ∷ items)) → Comes d Good (core s ds o (Reading i 0 ∷ items))

text_read : (names : List Symbol) (defs : List StructDef) (e : Typed) (s : StoreState) (ds : List DictId) (o : List PsObj) (items : List Item) (i : StringId)
    → AreOperators s ds → is_struct (type_of e) ≡ false → (length o + 5 ≤ 100000) × (suc (length items) + 3 ≤ 1000)
    → IsString s i (text_of names defs Value e) → Fine (value_code names defs e) → size (value_code names defs e) ≤ 1000000
    → s.table.units + s.command.units + units (Proc (value_code names defs e) (Word (codes "exec") Stop)) ≤ 8000000 → IsRead names defs e s ds o items i
text_read names defs e s ds o items i are scalar base is good few units_left =
    let text : List ℕ = render (Proc (value_code names defs e) Stop) ++ codes "exec" in
    let is' : IsString s i text = subst (λ (b : Bool). IsString s i (render (Proc (if b then struct_code names defs e else (value_code names defs e)) Stop) ++ codes "exec")) scalar is in
    let first : ReadsFirst (Proc (value_code names defs e) Stop) (codes "exec") text s i 0 = reads_first (codes "exec") text [] bare s i 0 is' (Proc (value_code names defs e) Stop) tt (good, few, tt) refl (omega (arith, units_left)) in
    let sp = first.spells in
    let a : ArrayId = sp.0 in
    let grown₁ = first.grown in
    let more : total first.store ≡ total s + units (Proc (value_code names defs e) Stop) = total_grown (units (Proc (value_code names defs e) Stop)) s first.store grown₁ in
    let made : MadeText 127 first.store (codes "exec") = text_made 127 first.store (codes "exec") exec_fine.1 (omega (arith, more, units_left)) in
    let kept₁ : IsString first.store i text = string_kept (units (Proc (value_code names defs e) Stop)) s first.store i text grown₁ is' in
    let last = last_read text first.to first.rest first.store i kept₁.bytes made in
    let there : IsArray made.store a sp.1 = array_kept (text_units (codes "exec")) first.store made.store a sp.1 made.grown sp.4 in
    let are₁ : AreOperators first.store ds = operators_kept (units (Proc (value_code names defs e) Stop)) s first.store ds grown₁ are in
    let are₂ : AreOperators made.store ds = operators_kept (text_units (codes "exec")) first.store made.store ds made.grown are₁ in
    let to : ℕ = first.to + 1 + 4 in
    let long_is = long text first.to first.rest in
    let reached : first.to + 1 + 4 ≡ length text = omega (arith, long_is) in
    let ends : to ≡ length (text_of names defs Value e) =
    reached ∙ ap (λ (b : Bool). length (render (Proc (if b then struct_code names defs e else value_code names defs e) Stop) ++ codes "exec")) (sym scalar) in
    record {
      procedure = a;
      store = made.store;
      grown = grown_on (units (Proc (value_code names defs e) Stop)) (text_units (codes "exec")) s first.store made.store grown₁ made.grown;
      has = there.has;
      spells = subst (λ (l : List PsObj). Spells made.store l (value_code names defs e)) (sym there.items) (spells_kept (value_code names defs e) (text_units (codes "exec")) first.store made.store sp.1 made.grown sp.5);
      operators = are₂;
      comes = λ d Good spent run.
          next_comes d Good spent (core s ds o (Reading i 0 ∷ items)) (core first.store ds (Array a true ∷ o) (Reading i first.to ∷ items))
          (met_in_text s first.store ds o items i 0 first.to first.object first.reads
          ∙ ap (λ (x : PsObj). settled (meeting x (core first.store ds o (Reading i first.to ∷ items)))) (object_is first.object sp.2 a sp.3)
          ∙ push_next (Array a true) (core first.store ds o (Reading i first.to ∷ items)) (omega (arith, base.0)))
          (next_comes d Good spent (core first.store ds (Array a true ∷ o) (Reading i first.to ∷ items)) (core made.store ds o (Object (Array a true) ∷ Reading i to ∷ items))
          (met_in_text first.store made.store ds (Array a true ∷ o) items i first.to to (Name made.id true) last
          ∙ ap settled (name_acts made.store ds (Array a true ∷ o) (Reading i to ∷ items) made.id (codes "exec") (Op 23) made.is.bytes (are₂ (codes "exec") 23 exec_is))
          ∙ executed made.store a to (lt-ltb _ _ (omega (arith, base.1))))
          (subst (λ (n : ℕ). Comes d Good (core made.store ds o (Object (Array a true) ∷ Reading i n ∷ items))) (sym ends) run));
    }
  where
    object_is : (x : PsObj) (ys : List PsObj) (a : ArrayId) → x ∷ [] ≡ Array a true ∷ ys → x ≡ Array a true
    object_is x ys a h = cc

    executed : (now : StoreState) (a : ArrayId) (to : ℕ) → nat_lt (length (Reading i to ∷ items)) 1000 ≡ true
        → settled (numbered 23 (core now ds (Array a true ∷ o) (Reading i to ∷ items))) ≡ Next (core now ds o (Object (Array a true) ∷ Reading i to ∷ items))
    executed now a to low = rw low refl

pub texts_served : (sc : Scene) (t : TableUse) (names : List Symbol) (e : Typed) (s : StoreState) (ds : List DictId) (o : List PsObj) (items : List Item) (i : StringId) (d : Dial)
    → AreOperators s ds → IsPlain sc.defs e → is_struct (type_of e) ≡ false → RoomFor e (length o) (suc (length items)) → under_stopped items ≡ None
    → IsString s i (text_of names sc.defs Value e) → Fine (value_code names sc.defs e) → size (value_code names sc.defs e) ≤ 1000000
    → s.table.units + s.command.units + units (Proc (value_code names sc.defs e) (Word (codes "exec") Stop)) ≤ 8000000 → AreServed names sc e t s ds o items i d
texts_served sc t names e s ds o items i d are plain scalar room none is good few units_left =
    let r = text_read names sc.defs e s ds o items i are scalar (base_room sc.defs e (length o) (suc (length items)) plain room) is good few units_left in
    let at : Item = Reading i (length (text_of names sc.defs Value e)) in
    record {
      store = r.store;
      grown = r.grown;
      leaves = r.comes d (Leaves sc e t r.store ds o (at ∷ items) d) (λ m d' c'. spends m d' c') (values_left sc t names e r.store ds o (at ∷ items) r.procedure d r.operators plain room none r.has r.spells);
    }

-- the same of the larger class, which is kept in the store behind the reading
pub texts_evaluated : (sc : Scene) (s : StoreState) (cell : ℕ) (own : DictId) (names : List Symbol) (e : Typed) (o : List PsObj) (items : List Item) (i : StringId) (out : List ℕ) (raw : Bool)
    → HasSpaces s → IsWhole s → AreOperators s (dictionaries_in s own) → IsMemory sc.target.regions → IsEvaluated sc s names e → is_struct (type_of e) ≡ false → RoomFor e (length o) (suc (length items))
    → under_stopped items ≡ None → IsString s i (text_of names sc.defs Value e) → Fine (value_code names sc.defs e) → size (value_code names sc.defs e) ≤ 1000000
    → s.table.units + s.command.units + units (Proc (value_code names sc.defs e) (Word (codes "exec") Stop)) ≤ 8000000 → AreReadAndEvaluated sc names e s cell own o items i (dial_in sc cell out raw)
texts_evaluated sc s cell own names e o items i out raw spaces whole are memory is scalar room none text good few units_left =
    let ds : List DictId = dictionaries_in s own in
    let r = text_read names sc.defs e s ds o items i are scalar (room_of sc s names e is (length o) (suc (length items)) room) text good few units_left in
    let u : ℕ = units (Proc (value_code names sc.defs e) Stop) + text_units (codes "exec") in
    let at : Item = Reading i (length (text_of names sc.defs Value e)) in
    let d : Dial = dial_in sc cell out raw in
    let same : dictionaries_in r.store own ≡ ds = ap (λ (base : List DictId). own ∷ reverse base) (base_kept u s r.store r.grown) in
    let go : AreEvaluated sc e r.store cell own o (at ∷ items) d (core r.store (dictionaries_in r.store own) o (Object (Array r.procedure true) ∷ at ∷ items)) =
    values_evaluated sc r.store cell own names e o (at ∷ items) r.procedure out raw (spaces_kept u s r.store r.grown spaces) (subst (AreOperators r.store) (sym same) r.operators) memory
    (evaluated_kept u s r.store r.grown whole sc names e is) room none r.has r.spells in
    record {
      store = r.store;
      grown = r.grown;
      evaluated = r.comes d (Evaluates sc e (use_in r.store cell own) r.store (dictionaries_in r.store own) o (at ∷ items) d) (λ m d' c'. is_spent m d' c')
          (subst (λ (x : List DictId). AreEvaluated sc e r.store cell own o (at ∷ items) d (core r.store x o (Object (Array r.procedure true) ∷ at ∷ items))) same go);
    }
