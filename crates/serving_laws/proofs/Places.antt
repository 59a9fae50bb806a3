-- What the procedure of a place makes: of each object, of the whole in a run of its own, and of `Where` in a run that goes on.
use Rattle.std.proofs.Common.{◌≡◌, refl, sym, ap, subst, ◌∙◌, ℕ, suc, ◌+◌, ◌<◌, ◌≤◌, ◌^◌, nat_le, nat_lt, true, false, Bool, Some, None, Ok, List, [], ◌∷◌, length, codes, pos, lit<, lt-ltb, le-leb, arith}
use Rattle.ldb_words.specs.Word.{signed, sum_of}
use Rattle.ps_store.specs.declared.object.PsObj.{PsObj}
use Rattle.ps_store.specs.declared.object.PsObj.TheVariants.{Name, Array}
use Rattle.ps_store.specs.declared.object.ArrayId.{ArrayId}
use Rattle.ps_store.specs.declared.object.DictId.{DictId}
use Rattle.ps_store.specs.declared.object.StringId.{StringId}
use Rattle.ps_store.specs.StoreState.{StoreState}
use Rattle.ps_store.specs.Store.{elements_of, bytes_of}
use Rattle.ps_store.specs.Operators.{operator_number}
use Rattle.ps_step.specs.declared.item.Item.{Item}
use Rattle.ps_step.specs.declared.item.Item.TheVariants.{Object, Procedure}
use Rattle.ps_step.specs.declared.machine.PsCore.{PsCore}
use Rattle.ps_step.specs.Results.{at}
use Rattle.ps_step.specs.State.{Made}
use Rattle.ps_step.specs.Executing.{alone, numbered}
use Rattle.ps_run.specs.Step.{Next, Asks, settled, going_on, step}
use Rattle.ps_run.specs.Runs.{Answer, Runs, next, asked}
use Rattle.ps_text.specs.Code.{Code, Stop, Num, Word, Lit}
use Rattle.ps_text.specs.Grown.{HasArray}
use Rattle.ps_text.specs.Spells.{Spells}
use Rattle.ps_terms.specs.Machine.{entered}
use Rattle.ps_terms.specs.Stands.{Frames, bottom, frame, core}
use Rattle.ps_terms.proofs.Sound.{step_is, then_is, push_next, Enters, enters}
use Rattle.ps_words.specs.Operators.{integer}
use Rattle.ps_places.specs.Places.{space_name}
use Rattle.table_model.specs.Objects.{anchor_of}
use Rattle.frame_bytes.specs.declared.frame.Space.TheVariants.{Memory, Registers}
use Rattle.frame_bytes.specs.declared.frame.Place.{Place}
use Rattle.dialect_model.specs.Dial.{Dial, Act}
use Rattle.dialect_model.specs.Operators.{act}
use Rattle.dialect_model.specs.Operating.{Operates, acted}
use Rattle.c_bytes.specs.Lvalues.{Scene}
use Rattle.serving_laws.specs.Left.{AreOperators}
use Rattle.serving_laws.specs.Named.{dial_in, Leads, at_anchor, in_frame, in_frame_as_register, at_address, in_register}
use Rattle.serving_laws.proofs.Names.{pop_is, anchor_is, absolute_is, local_is, register_is}
use Rattle.serving_laws.proofs.Numbers.{back}
use Rattle.serving_laws.proofs.Stepping.{Meets, meets_number, meets_word, at_bottom}

-- a place as two operands
abbrev pub placed : Place → List PsObj → List PsObj
placed p o = integer p.at ∷ space_name p.space ∷ o

module _ (sc : Scene) (s : StoreState) (ds : List DictId) (cell : ℕ) (out : List ℕ) (raw : Bool) where
  abbrev d : Dial
  d = dial_in sc cell out raw

  -- so far above the base of the frame
  abbrev above : ℕ → Place
  above n = record { space = Memory; at = sum_of sc.frame.base n }

  abbrev pub does : Act → List PsObj → List Item → Type 0
  does a o items = a ≡ Ok (d, core s ds o items)

  -- ---- each operator

  fits : (o : List PsObj) → length o + 2 ≤ 100000 → nat_lt (suc (length o)) 100000 ≡ true
  fits o few = lt-ltb _ _ (omega (arith, few))

  pub absolute_does : (n : ℕ) (o : List PsObj) (items : List Item) → n < 2 ^ 32 → length o + 2 ≤ 100000
      → does (act 1 d (core s ds (integer n ∷ o) items)) (placed (record { space = Memory; at = n }) o) items
  unfolding act
  absolute_does n o items h few = rw (fits o few, back n h) refl

  pub register_does : (n : ℕ) (o : List PsObj) (items : List Item) → n < 2 ^ 32 → length o + 2 ≤ 100000
      → does (act 3 d (core s ds (integer n ∷ o) items)) (placed (record { space = Registers; at = n }) o) items
  unfolding act
  register_does n o items h few = rw (fits o few, back n h) refl

  pub local_does : (n : ℕ) (o : List PsObj) (items : List Item) → n < 2 ^ 32 → length o + 2 ≤ 100000
      → does (act 2 d (core s ds (integer n ∷ o) items)) (placed (record { space = Memory; at = sum_of sc.frame.base n }) o) items
  unfolding act
  local_does n o items h few = rw (fits o few, back n h) refl

  pub anchor_does : (n at : ℕ) (t : StringId) (name : List ℕ) (o : List PsObj) (items : List Item) → n < 2 ^ 32 → bytes_of s t ≡ name → length name ≤ 127 → anchor_of s name ≡ Ok at
      → does (act 0 d (core s ds (Name t false ∷ integer n ∷ o) items)) (integer (sum_of n at) ∷ o) items
  unfolding act
  anchor_does n at t name o items h is short there =
      let e : nat_le (length name) 127 ≡ true = le-leb _ _ short in
      rw (is, back n h, e, there) refl

  -- ---- straight runs: each step is one of the interpreter, or of an operator that leaves operands alone

  pub data Path : ℕ → List PsObj → List Item → List PsObj → List Item → Type 0 where
    here : (o : List PsObj) (items : List Item) → Path 0 o items o items
    goes : (k : ℕ) (o o₁ o' : List PsObj) (items items₁ items' : List Item) → step (core s ds o items) ≡ Next (core s ds o₁ items₁) → Path k o₁ items₁ o' items' → Path (suc k) o items o' items'
    acts : (k op : ℕ) (o o₁ o' : List PsObj) (items items₁ items' : List Item) → step (core s ds o items) ≡ Asks op (core s ds o items₁) → does (act op d (core s ds o items₁)) o₁ items₁
        → Path k o₁ items₁ o' items' → Path (suc k) o items o' items'

  pub record To (o : List PsObj) (items : List Item) (o' : List PsObj) (items' : List Item) : Type 0 where
    pub steps : ℕ
    pub path : Path steps o items o' items'

  -- a run from its end is one from its beginning, with as many steps more
  pub forward : (k : ℕ) (o o' : List PsObj) (items items' : List Item) → Path k o items o' items' → (n : ℕ) (r : Answer) (m : ℕ) (d' : Dial) (c' : PsCore)
      → Runs Operates n d (core s ds o' items') r m d' c' → Runs Operates (k + n) d (core s ds o items) r m d' c'
  forward _ _ _ _ _ (here o items) n r m d' c' run = let same : n ≡ 0 + n = omega arith in subst (λ l. Runs Operates l d (core s ds o items) r m d' c') same run
  forward _ _ _ _ _ (goes k o o₁ o' items items₁ items' e p) n r m d' c' run =
      let same : suc (k + n) ≡ suc k + n = omega arith in
      subst (λ l. Runs Operates l d (core s ds o items) r m d' c') same
      (next (k + n) m d d' (core s ds o items) (core s ds o₁ items₁) c' r e (forward k o₁ o' items₁ items' p n r m d' c' run))
  forward _ _ _ _ _ (acts k op o o₁ o' items items₁ items' e a p) n r m d' c' run =
      let same : suc (k + n) ≡ suc k + n = omega arith in
      subst (λ l. Runs Operates l d (core s ds o items) r m d' c') same
      (asked (k + n) (k + n) m d d d' (core s ds o items) (core s ds o items₁) (core s ds o₁ items₁) c' op r e
      (record { given = Ok tt; core = core s ds o₁ items₁; operates = acted d d (core s ds o items₁) (core s ds o₁ items₁) op (k + n) a; settles = (refl, refl) })
      (forward k o₁ o' items₁ items' p n r m d' c' run))

  module _ (are : AreOperators s ds) (under : List Item) where
    -- a piece, and what follows
    abbrev On : Code → List PsObj → List PsObj → List Item → Type 0
    On rest o o' items' = (after : List Item) → Frames s under after (entered rest []) → To o after o' items'

    number_to : (n : ℕ) (rest : Code) (o o' : List PsObj) (items items' : List Item) → length o < 100000 → Frames s under items (Num (signed n) rest ∷ []) → On rest (integer n ∷ o) o' items' → To o items o' items'
    number_to n rest o o' items items' few f go =
        let m = meets_number s ds are under items (signed n) rest f in
        let p = go m.after m.frames in
        record { steps = suc p.steps; path = goes p.steps o (integer n ∷ o) o' items m.after items' (m.steps o ∙ push_next (integer n) (core s ds o m.after) few) p.path }

    pub record MeetsName (items : List Item) (name : List ℕ) (rest : Code) : Type 0 where
      pub string : StringId
      pub bytes : bytes_of s string ≡ name
      pub meets : Meets s ds are under items (Name string false) rest

    pub meets_name : (items : List Item) (name : List ℕ) (rest : Code) → Frames s under items (Lit name rest ∷ []) → MeetsName items name rest
    meets_name _ name rest (frame a n items k ks has sp below) = record {
      string = sp.0;
      bytes = sp.3.bytes;
      meets = record {
        after = going_on (n + 1) (length (elements_of s a)) (Procedure a (n + 1)) items;
        steps = λ o. step_is s under a n items (Name sp.0 false) sp.1 [] sp.2 has below s refl ds o;
        frames = then_is s under a n items (Name sp.0 false) sp.1 [] sp.2 has below rest sp.4;
      };
    }

    name_to : (name : List ℕ) (rest : Code) (o o' : List PsObj) (items items' : List Item) → length o < 100000 → Frames s under items (Lit name rest ∷ [])
        → ((t : StringId) → bytes_of s t ≡ name → On rest (Name t false ∷ o) o' items') → To o items o' items'
    name_to name rest o o' items items' few f go =
        let l = meets_name items name rest f in
        let p = go l.string l.bytes l.meets.after l.meets.frames in
        record { steps = suc p.steps; path = goes p.steps o (Name l.string false ∷ o) o' items l.meets.after items' (l.meets.steps o ∙ push_next (Name l.string false) (core s ds o l.meets.after) few) p.path }

    -- an operator of the dialect
    word_to : (name : List ℕ) (op : ℕ) (rest : Code) (o o₁ o' : List PsObj) (items items' : List Item) → operator_number name ≡ Some (61 + op)
        → ((c : PsCore) → numbered (61 + op) c ≡ Ok (c, Some op)) → ((after : List Item) → does (act op d (core s ds o after)) o₁ after) → Frames s under items (Word name rest ∷ []) → On rest o₁ o' items' → To o items o' items'
    word_to name op rest o o₁ o' items items' e asks made f go =
        let m = meets_word s ds are under items name (61 + op) rest e f in
        let p = go m.after m.frames in
        record { steps = suc p.steps; path = acts p.steps op o o₁ o' items m.after items' (m.steps o ∙ ap settled (asks (core s ds o m.after))) (made m.after) p.path }

    -- one of the manual
    manual_to : (name : List ℕ) (i : ℕ) (rest : Code) (o o₁ o' : List PsObj) (items items' : List Item) → operator_number name ≡ Some i
        → ((after : List Item) → numbered i (core s ds o after) ≡ Ok (core s ds o₁ after, None)) → Frames s under items (Word name rest ∷ []) → On rest o₁ o' items' → To o items o' items'
    manual_to name i rest o o₁ o' items items' e made f go =
        let m = meets_word s ds are under items name i rest e f in
        let p = go m.after m.frames in
        record { steps = suc p.steps; path = goes p.steps o o₁ o' items m.after items' (m.steps o ∙ ap settled (made m.after)) p.path }

    arrived : (o : List PsObj) → On Stop o o under
    arrived o after f = subst (λ (items : List Item). To o items o under) (sym (at_bottom s under after f)) (record { steps = 0; path = here o under })

    -- a place's procedure leaves it
    body_to : (code : Code) (p : Place) → Leads sc s code p → (o : List PsObj) (items : List Item) → length o + 5 ≤ 100000 → Frames s under items (entered code []) → To o items (placed p o) under
    body_to _ _ (at_anchor n at name h short there) o items few f =
        number_to n (Lit name (Word (codes "Anchor") (Word (codes "Absolute") Stop))) o _ items under (omega (arith, few)) f
        (λ after g. name_to name (Word (codes "Anchor") (Word (codes "Absolute") Stop)) (integer n ∷ o) _ after under (omega (arith, few)) g
        (λ t is after g. word_to (codes "Anchor") 0 (Word (codes "Absolute") Stop) (Name t false ∷ integer n ∷ o) (integer (sum_of n at) ∷ o) _ after under anchor_is (λ c. refl)
        (λ after. anchor_does n at t name o after h is short there) g
        (λ after g. word_to (codes "Absolute") 1 Stop (integer (sum_of n at) ∷ o) _ _ after under absolute_is (λ c. refl)
        (λ after. absolute_does (sum_of n at) o after (omega arith) (omega (arith, few))) g (arrived _))))
    body_to _ _ (in_frame n h) o items few f =
        number_to n (Word (codes "Local") Stop) o _ items under (omega (arith, few)) f
        (λ after g. word_to (codes "Local") 2 Stop (integer n ∷ o) _ _ after under local_is (λ c. refl) (λ after. local_does n o after h (omega (arith, few))) g (arrived _))
    body_to _ _ (in_frame_as_register n h) o items few f =
        number_to n (Word (codes "Local") (Num (pos 0) (Word (codes "Register") (Word (codes "pop") (Word (codes "pop") Stop))))) o _ items under (omega (arith, few)) f
        (λ after g. word_to (codes "Local") 2 (Num (pos 0) (Word (codes "Register") (Word (codes "pop") (Word (codes "pop") Stop)))) (integer n ∷ o) (placed (above n) o) _ after under local_is (λ c. refl)
        (λ after. local_does n o after h (omega (arith, few))) g
        (λ after g. number_to 0 (Word (codes "Register") (Word (codes "pop") (Word (codes "pop") Stop))) (placed (above n) o) _ after under (omega (arith, few)) g
        (λ after g. word_to (codes "Register") 3 (Word (codes "pop") (Word (codes "pop") Stop)) (integer 0 ∷ placed (above n) o) (placed (record { space = Registers; at = 0 }) (placed (above n) o)) _ after under register_is (λ c. refl)
        (λ after. register_does 0 (placed (above n) o) after (lit< tt) (omega (arith, few))) g
        (λ after g. manual_to (codes "pop") 2 (Word (codes "pop") Stop) (placed (record { space = Registers; at = 0 }) (placed (above n) o)) (space_name Registers ∷ placed (above n) o) _ after under pop_is (λ after. refl) g
        (λ after g. manual_to (codes "pop") 2 Stop (space_name Registers ∷ placed (above n) o) (placed (above n) o) _ after under pop_is (λ after. refl) g (arrived _))))))
    body_to _ _ (at_address n h) o items few f =
        number_to n (Word (codes "Absolute") Stop) o _ items under (omega (arith, few)) f
        (λ after g. word_to (codes "Absolute") 1 Stop (integer n ∷ o) _ _ after under absolute_is (λ c. refl) (λ after. absolute_does n o after h (omega (arith, few))) g (arrived _))
    body_to _ _ (in_register n h) o items few f =
        number_to n (Word (codes "Register") Stop) o _ items under (omega (arith, few)) f
        (λ after g. word_to (codes "Register") 3 Stop (integer n ∷ o) _ _ after under register_is (λ c. refl) (λ after. register_does n o after h (omega (arith, few))) g (arrived _))

    -- the same where the procedure is what is executed next
    pub place_to : (a : ArrayId) (code : Code) (p : Place) → HasArray s a → Spells s (elements_of s a) code → Leads sc s code p → (o : List PsObj) → length o + 5 ≤ 100000 → length under < 1000
        → To o (Object (Array a true) ∷ under) (placed p o) under
    place_to a code p has spells leads o few room =
        let inside : Enters s s ds under under a (entered code []) = enters s s ds under under a [] bottom room has refl code spells in
        let rest = body_to code p leads o inside.after few inside.frames in
        record {
          steps = suc rest.steps;
          path =
              goes rest.steps o o (placed p o) (Object (Array a true) ∷ under) inside.after under
              (ap (λ (r : Made). settled (alone (at (core s ds o under) r))) (inside.calls o)) rest.path;
        }
