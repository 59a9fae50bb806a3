-- Runs of pieces: what each kind of object makes of them, in a store and with a dial that stay.
use Rattle.std.proofs.Common.{◌≡◌, ◌≢◌, refl, sym, ap, subst, ◌∙◌, ℕ, zero, suc, ◌+◌, ◌<◌, ◌≤◌, true, false, Bool, if◌then◌else◌, Option, Some, None, Result, Ok, Err, List, [], ◌∷◌, length, ℤ, nat_lt, codes, arith}
use Rattle.ps_store.specs.declared.object.PsObj.{PsObj}
use Rattle.ps_store.specs.declared.object.PsObj.TheVariants.{Int, Bool as Truth, Name, Array, Op}
use Rattle.ps_store.specs.declared.object.ArrayId.{ArrayId}
use Rattle.ps_store.specs.declared.object.DictId.{DictId}
use Rattle.ps_store.specs.StoreState.{StoreState}
use Rattle.ps_store.specs.Store.{elements_of}
use Rattle.ps_store.specs.Operators.{operator_number}
use Rattle.ps_step.specs.declared.fault.PsError.{PsError}
use Rattle.ps_step.specs.declared.fault.PsError.TheVariants.{StackOverflow}
use Rattle.ps_step.specs.declared.fault.PsFault.TheVariants.{Error, Spent, Link, NoMemory}
use Rattle.ps_step.specs.declared.item.Item.{Item}
use Rattle.ps_step.specs.declared.item.Item.TheVariants.{Procedure}
use Rattle.ps_step.specs.declared.machine.PsCore.{PsCore}
use Rattle.ps_step.specs.Item.{under_stopped}
use Rattle.ps_step.specs.Results.{◌>>=◌, at}
use Rattle.ps_step.specs.State.{Made, with_operands}
use Rattle.ps_step.specs.Executing.{alone, meeting, numbered}
use Rattle.ps_run.specs.Step.{Next, Asks, Failed, raising, settled, going_on, step}
use Rattle.ps_run.specs.Runs.{Answer, Settles, Runs, fault_with}
use Rattle.ps_run.specs.Passes.{Closes, Follows, Met}
use Rattle.ps_run.proofs.Apart.{apart, behind}
use Rattle.ps_run.proofs.Going.{no_memory}
use Rattle.ps_text.specs.Code.{Code, Stop, Num, Word, Lit, Text, Proc}
use Rattle.ps_text.specs.Grown.{HasArray}
use Rattle.ps_text.specs.Spells.{Spells}
use Rattle.ps_terms.specs.Machine.{entered}
use Rattle.ps_terms.specs.Stands.{Frames, bottom, frame, core}
use Rattle.ps_terms.proofs.Sound.{step_is, then_is, push_next, name_acts, frames_length, Enters, enters}
use Rattle.dialect_model.specs.Dial.{Dial, Act, Raises, Needs}
use Rattle.dialect_model.specs.Operators.{act}
use Rattle.dialect_model.specs.Operating.{Operates, acted, raised, forced, broken, wanting}
use Rattle.serving_laws.specs.Left.{AreOperators}
use Rattle.serving_laws.proofs.Names.{ifelse_is}

pub at_bottom : (s : StoreState) (under items : List Item) → Frames s under items [] → items ≡ under
at_bottom s under _ bottom = refl

pub entered_few : (k : Code) → length (entered k []) ≤ 1
entered_few Stop = omega arith
entered_few (Num i rest) = omega arith
entered_few (Word name rest) = omega arith
entered_few (Lit name rest) = omega arith
entered_few (Text bytes rest) = omega arith
entered_few (Proc body rest) = omega arith

-- no `stopped` is open above, either
pub not_stopped : (s : StoreState) (under items : List Item) (ks : List Code) → Frames s under items ks → under_stopped under ≡ None → under_stopped items ≡ None
not_stopped s under _ _ bottom e = e
not_stopped s under _ _ (frame a n items k ks has sp below) e = not_stopped s under items ks below e

-- what an operator of the dialect makes: a dial and a state, an error, or it needs a unit
abbrev pub done : Dial → PsCore → Act
done d c = Ok (d, c)

abbrev raises : PsError → Act
raises e = Err (Raises e)

abbrev needs : ℕ → Act
needs u = Err (Needs u)

abbrev dial_in : Dial → Act → Dial
dial_in d (Ok x) = x.0
dial_in d (Err r) = d

abbrev core_in : PsCore → Act → PsCore
core_in c (Ok x) = x.1
core_in c (Err r) = c

same_dial : (d₁ d₂ : Dial) (c₁ c₂ : PsCore) → done d₁ c₁ ≡ done d₂ c₂ → d₁ ≡ d₂
same_dial d₁ d₂ c₁ c₂ h = ap (dial_in d₁) h

same_core : (d₁ d₂ : Dial) (c₁ c₂ : PsCore) → done d₁ c₁ ≡ done d₂ c₂ → c₁ ≡ c₂
same_core d₁ d₂ c₁ c₂ h = ap (core_in c₁) h

same_error : (e f : PsError) → raises e ≡ raises f → e ≡ f
same_error e f h = cc

done_raises : (d : Dial) (c : PsCore) (e : PsError) → done d c ≡ raises e → ⊥
done_raises d c e h = cc

done_needs : (d : Dial) (c : PsCore) (u : ℕ) → done d c ≡ needs u → ⊥
done_needs d c u h = cc

raises_needs : (e : PsError) (u : ℕ) → raises e ≡ needs u → ⊥
raises_needs e u h = cc

module _ (s : StoreState) (ds : List DictId) (are : AreOperators s ds) where
  -- the next object of a procedure is met, and the rest follows
  pub record Meets (under items : List Item) (x : PsObj) (rest : Code) : Type 0 where
    pub after : List Item
    pub steps : (o : List PsObj) → step (core s ds o items) ≡ settled (meeting x (core s ds o after))
    pub frames : Frames s under after (entered rest [])

  pub meets_number : (under items : List Item) (i : ℤ) (rest : Code) → Frames s under items (Num i rest ∷ []) → Meets under items (Int i) rest
  meets_number under _ i rest (frame a n items k ks has sp below) = record {
    after = going_on (n + 1) (length (elements_of s a)) (Procedure a (n + 1)) items;
    steps = λ o. step_is s under a n items (Int i) sp.0 [] sp.1 has below s refl ds o;
    frames = then_is s under a n items (Int i) sp.0 [] sp.1 has below rest sp.2;
  }

  -- a procedure that is met, and its term
  pub record MeetsBody (under items : List Item) (body rest : Code) : Type 0 where
    pub array : ArrayId
    pub there : HasArray s array
    pub spells : Spells s (elements_of s array) body
    pub meets : Meets under items (Array array true) rest

  pub meets_body : (under items : List Item) (body rest : Code) → Frames s under items (Proc body rest ∷ []) → MeetsBody under items body rest
  meets_body under _ body rest (frame a n items k ks has sp below) = record {
    array = sp.0;
    there = sp.4.has;
    spells = subst (λ l. Spells s l body) (sym sp.4.items) sp.5;
    meets = record {
      after = going_on (n + 1) (length (elements_of s a)) (Procedure a (n + 1)) items;
      steps = λ o. step_is s under a n items (Array sp.0 true) sp.2 [] sp.3 has below s refl ds o;
      frames = then_is s under a n items (Array sp.0 true) sp.2 [] sp.3 has below rest sp.6;
    };
  }

  -- a word that is an operator's name
  pub record MeetsWord (under items : List Item) (p : ℕ) (rest : Code) : Type 0 where
    pub after : List Item
    pub steps : (o : List PsObj) → step (core s ds o items) ≡ settled (numbered p (core s ds o after))
    pub frames : Frames s under after (entered rest [])

  pub meets_word : (under items : List Item) (name : List ℕ) (p : ℕ) (rest : Code) → operator_number name ≡ Some p → Frames s under items (Word name rest ∷ []) → MeetsWord under items p rest
  meets_word under _ name p rest e (frame a n items k ks has sp below) = record {
    after = going_on (n + 1) (length (elements_of s a)) (Procedure a (n + 1)) items;
    steps = λ o.
        step_is s under a n items (Name sp.0 true) sp.1 [] sp.2 has below s refl ds o
        ∙ ap settled (name_acts s ds o (going_on (n + 1) (length (elements_of s a)) (Procedure a (n + 1)) items) sp.0 name (Op p) sp.3.bytes (are name p e));
    frames = then_is s under a n items (Name sp.0 true) sp.1 [] sp.2 has below rest sp.4;
  }

  module _ (d : Dial) (Good : Answer → ℕ → Dial → PsCore → Type 0) (spent : (m : ℕ) (d' : Dial) (c' : PsCore) → Good (Err Spent) m d' c') where
    -- each run from here, of which memory does not run out, is good
    abbrev pub Reaches : List PsObj → List Item → Type 0
    Reaches o items = (n : ℕ) (r : Answer) (m : ℕ) (d' : Dial) (c' : PsCore) → r ≢ Err NoMemory → Runs Operates n d (core s ds o items) r m d' c' → Good r m d' c'

    -- so is one that an error ends
    abbrev pub Fails : PsError → Type 0
    Fails e = (m : ℕ) (o : List PsObj) → Good (Err (Error e)) m d (core s ds o [])

    starved : (c : PsCore) (r : Answer) (m : ℕ) (d' : Dial) (c' : PsCore) → Runs Operates zero d c r m d' c' → Good r m d' c'
    starved c r m d' c' run =
        let h : Closes (Err Spent) zero d c r m d' c' = apart Operates zero d c r m d' c' run in
        subst (λ a. Good a m d' c') (sym h.answered) (spent m d' c')

    pub next_reaches : (o o' : List PsObj) (items items' : List Item) → step (core s ds o items) ≡ Next (core s ds o' items') → Reaches o' items' → Reaches o items
    next_reaches o o' items items' e p zero r m d' c' other run = starved (core s ds o items) r m d' c' run
    next_reaches o o' items items' e p (suc n) r m d' c' other run = p n r m d' c' other (behind Operates n d (core s ds o items) (Next (core s ds o' items')) r m d' c' e run)

    -- ---- an operator of the dialect that needs nothing of the target

    -- what it makes of the operands, or its error
    abbrev pub makes : Result (List PsObj) PsError → List Item → Act
    makes (Ok o) items = Ok (d, core s ds o items)
    makes (Err e) items = Err (Raises e)

    -- behind its error
    raised_reaches : (e : PsError) (o : List PsObj) (items : List Item) → under_stopped items ≡ None → Fails e
        → (k : ℕ) (answer : Answer) (c₂ : PsCore) → Settles (Err (Error e)) (core s ds o items) answer c₂
        → (r : Answer) (m : ℕ) (d' : Dial) (c' : PsCore) → r ≢ Err NoMemory → Follows Operates answer k d c₂ r m d' c' → Good r m d' c'
    raised_reaches e o items none bad k (Ok tt) c₂ settles r m d' c' other follows = absurd (never (ends ∙ settles))
      where
        ends : Failed e (core s ds o []) ≡ raising e (core s ds o items)
        ends = sym (ap (λ (u : Option (List Item)). elim u [
          | None ↦ Failed e (core s ds o [])
          | Some rest ↦ if nat_lt (length o) 100000 then Next (core s ds (Truth true ∷ o) rest) else Failed StackOverflow (core s ds o [])
        ]) none)

        never : Failed e (core s ds o []) ≡ Next c₂ → ⊥
        never h = cc
    raised_reaches e o items none bad k (Err (Error e')) c₂ settles r m d' c' other follows = by k follows
      where
        ends : Failed e (core s ds o []) ≡ raising e (core s ds o items)
        ends = sym (ap (λ (u : Option (List Item)). elim u [
          | None ↦ Failed e (core s ds o [])
          | Some rest ↦ if nat_lt (length o) 100000 then Next (core s ds (Truth true ∷ o) rest) else Failed StackOverflow (core s ds o [])
        ]) none)

        one_error : Failed e (core s ds o []) ≡ Failed e' c₂ → e ≡ e'
        one_error h = cc

        one_core : Failed e (core s ds o []) ≡ Failed e' c₂ → core s ds o [] ≡ c₂
        one_core h = cc

        by : (k : ℕ) → Follows Operates (Err (Error e')) k d c₂ r m d' c' → Good r m d' c'
        by zero closes = subst (λ a. Good a m d' c') (sym closes.answered) (spent m d' c')
        by (suc k) closes =
            subst (λ a. Good a m d' c') (ap (λ x. Err (Error x)) (one_error (ends ∙ settles)) ∙ sym closes.answered)
            (subst (λ x. Good (Err (Error e)) m x c') (sym closes.dialect)
            (subst (λ x. Good (Err (Error e)) m d x) (one_core (ends ∙ settles) ∙ sym closes.core) (bad m o)))
    raised_reaches e o items none bad k (Err Spent) c₂ settles r m d' c' other follows = absurd settles
    raised_reaches e o items none bad k (Err Link) c₂ settles r m d' c' other follows = absurd settles
    raised_reaches e o items none bad k (Err NoMemory) c₂ settles r m d' c' other follows = absurd (other (follows.answered ∙ ap Err (no_memory k)))

    operated_reaches : (op n : ℕ) (c : PsCore) (o : List PsObj) (items : List Item) → c ≡ core s ds o items → under_stopped items ≡ None
        → (x : Result (List PsObj) PsError) → act op d c ≡ makes x items
        → ((o' : List PsObj) → x ≡ Ok o' → Reaches o' items) → ((e : PsError) → x ≡ Err e → Fails e)
        → (given : Answer) (d₁ : Dial) (c₁ : PsCore) (k : ℕ) → Operates d c op n given d₁ c₁ k
        → (answer : Answer) (c₂ : PsCore) → Settles given c₁ answer c₂
        → (r : Answer) (m : ℕ) (d' : Dial) (c' : PsCore) → r ≢ Err NoMemory → Follows Operates answer k d₁ c₂ r m d' c' → Good r m d' c'
    operated_reaches op n c o items is none (Ok o') does goes bad _ _ _ _ (acted _ d₁ _ c₁ _ _ e) answer c₂ settles r m d' c' other follows =
        let same : done d₁ c₁ ≡ done d (core s ds o' items) = sym e ∙ does in
        let rest : Runs Operates n d₁ c₂ r m d' c' = subst (λ a. Follows Operates a n d₁ c₂ r m d' c') settles.0 follows in
        goes o' refl n r m d' c' other
        (subst (λ x. Runs Operates n x (core s ds o' items) r m d' c') (same_dial d₁ d c₁ (core s ds o' items) same)
        (subst (λ x. Runs Operates n d₁ x r m d' c') (settles.1 ∙ same_core d₁ d c₁ (core s ds o' items) same) rest))
    operated_reaches op n c o items is none (Err f) does goes bad _ _ _ _ (acted _ d₁ _ c₁ _ _ e) answer c₂ settles r m d' c' other follows = absurd (done_raises d₁ c₁ f (sym e ∙ does))
    operated_reaches op n c o items is none (Ok o') does goes bad _ _ _ _ (raised _ _ _ _ x e) answer c₂ settles r m d' c' other follows =
        absurd (done_raises d (core s ds o' items) x (sym does ∙ e))
    operated_reaches op n c o items is none (Err f) does goes bad _ _ _ _ (raised _ _ _ _ x e) answer c₂ settles r m d' c' other follows =
        raised_reaches x o items none (subst Fails (sym (same_error x f (sym e ∙ does))) (bad f refl)) n answer c₂ (subst (λ y. Settles (Err (Error x)) y answer c₂) is settles) r m d' c' other follows
    operated_reaches op n c o items is none (Ok o') does goes bad _ _ _ _ (forced _ d₁ _ c₃ c₁ _ u _ k k' given e run more) answer c₂ settles r m d' c' other follows =
        absurd (done_needs d (core s ds o' items) u (sym does ∙ e))
    operated_reaches op n c o items is none (Err f) does goes bad _ _ _ _ (forced _ d₁ _ c₃ c₁ _ u _ k k' given e run more) answer c₂ settles r m d' c' other follows = absurd (raises_needs f u (sym does ∙ e))
    operated_reaches op n c o items is none (Ok o') does goes bad _ _ _ _ (broken _ _ c₁ _ u _ k g e run) answer c₂ settles r m d' c' other follows =
        absurd (done_needs d (core s ds o' items) u (sym does ∙ e))
    operated_reaches op n c o items is none (Err f) does goes bad _ _ _ _ (broken _ _ c₁ _ u _ k g e run) answer c₂ settles r m d' c' other follows = absurd (raises_needs f u (sym does ∙ e))
    operated_reaches op n c o items is none x does goes bad _ _ _ _ (wanting _ _ _ _) answer c₂ settles r m d' c' other follows =
        let closes : Closes (Err (fault_with n NoMemory)) n d c₂ r m d' c' = subst (λ a. Follows Operates a n d c₂ r m d' c') settles.0 follows in
        absurd (other (closes.answered ∙ ap Err (no_memory n)))

    pub asked_reaches : (op : ℕ) (o : List PsObj) (items items' : List Item) → step (core s ds o items) ≡ Asks op (core s ds o items') → under_stopped items' ≡ None
        → (x : Result (List PsObj) PsError) → act op d (core s ds o items') ≡ makes x items'
        → ((o' : List PsObj) → x ≡ Ok o' → Reaches o' items') → ((e : PsError) → x ≡ Err e → Fails e) → Reaches o items
    asked_reaches op o items items' asks none x does goes bad zero r m d' c' other run = starved (core s ds o items) r m d' c' run
    asked_reaches op o items items' asks none x does goes bad (suc n) r m d' c' other run =
        let met : Met Operates d (core s ds o items') op n r m d' c' = behind Operates n d (core s ds o items) (Asks op (core s ds o items')) r m d' c' asks run in
        operated_reaches op n (core s ds o items') o items' refl none x does goes bad met.asked.given met.dialect met.asked.core met.left met.asked.operates met.answer met.core met.asked.settles r m d' c' other met.follows

    -- ---- an operator of the dialect that leaves another state

    made_reaches : (op n : ℕ) (c : PsCore) (o' : List PsObj) (items' : List Item) → act op d c ≡ done d (core s ds o' items') → Reaches o' items'
        → (given : Answer) (d₁ : Dial) (c₁ : PsCore) (k : ℕ) → Operates d c op n given d₁ c₁ k
        → (answer : Answer) (c₂ : PsCore) → Settles given c₁ answer c₂
        → (r : Answer) (m : ℕ) (d' : Dial) (c' : PsCore) → r ≢ Err NoMemory → Follows Operates answer k d₁ c₂ r m d' c' → Good r m d' c'
    made_reaches op n c o' items' does go _ _ _ _ (acted _ d₁ _ c₁ _ _ e) answer c₂ settles r m d' c' other follows =
        let same : done d₁ c₁ ≡ done d (core s ds o' items') = sym e ∙ does in
        let rest : Runs Operates n d₁ c₂ r m d' c' = subst (λ a. Follows Operates a n d₁ c₂ r m d' c') settles.0 follows in
        go n r m d' c' other
        (subst (λ x. Runs Operates n x (core s ds o' items') r m d' c') (same_dial d₁ d c₁ (core s ds o' items') same)
        (subst (λ x. Runs Operates n d₁ x r m d' c') (settles.1 ∙ same_core d₁ d c₁ (core s ds o' items') same) rest))
    made_reaches op n c o' items' does go _ _ _ _ (raised _ _ _ _ x e) answer c₂ settles r m d' c' other follows = absurd (done_raises d (core s ds o' items') x (sym does ∙ e))
    made_reaches op n c o' items' does go _ _ _ _ (forced _ d₁ _ c₃ c₁ _ u _ k k' given e run more) answer c₂ settles r m d' c' other follows =
        absurd (done_needs d (core s ds o' items') u (sym does ∙ e))
    made_reaches op n c o' items' does go _ _ _ _ (broken _ _ c₁ _ u _ k g e run) answer c₂ settles r m d' c' other follows = absurd (done_needs d (core s ds o' items') u (sym does ∙ e))
    made_reaches op n c o' items' does go _ _ _ _ (wanting _ _ _ _) answer c₂ settles r m d' c' other follows =
        let closes : Closes (Err (fault_with n NoMemory)) n d c₂ r m d' c' = subst (λ a. Follows Operates a n d c₂ r m d' c') settles.0 follows in
        absurd (other (closes.answered ∙ ap Err (no_memory n)))

    pub acted_reaches : (op : ℕ) (o o' : List PsObj) (items items₁ items' : List Item) → step (core s ds o items) ≡ Asks op (core s ds o items₁)
        → act op d (core s ds o items₁) ≡ done d (core s ds o' items') → Reaches o' items' → Reaches o items
    acted_reaches op o o' items items₁ items' asks does go zero r m d' c' other run = starved (core s ds o items) r m d' c' run
    acted_reaches op o o' items items₁ items' asks does go (suc n) r m d' c' other run =
        let met : Met Operates d (core s ds o items₁) op n r m d' c' = behind Operates n d (core s ds o items) (Asks op (core s ds o items₁)) r m d' c' asks run in
        made_reaches op n (core s ds o items₁) o' items' does go met.asked.given met.dialect met.asked.core met.left met.asked.operates met.answer met.core met.asked.settles r m d' c' other met.follows

    -- ---- objects of a procedure, at its place

    module _ (under : List Item) where
      -- what is reached behind a piece
      abbrev pub Then : Code → List PsObj → Type 0
      Then rest o = (after : List Item) → Frames s under after (entered rest []) → Reaches o after

      pub number_reaches : (i : ℤ) (rest : Code) (o : List PsObj) (items : List Item) → length o < 100000 → Frames s under items (Num i rest ∷ []) → Then rest (Int i ∷ o) → Reaches o items
      number_reaches i rest o items few f p =
          let m = meets_number under items i rest f in
          next_reaches o (Int i ∷ o) items m.after (m.steps o ∙ push_next (Int i) (core s ds o m.after) few) (p m.after m.frames)

      pub body_reaches : (body rest : Code) (o : List PsObj) (items : List Item) → length o < 100000 → Frames s under items (Proc body rest ∷ [])
          → ((a : ArrayId) → HasArray s a → Spells s (elements_of s a) body → Then rest (Array a true ∷ o)) → Reaches o items
      body_reaches body rest o items few f p =
          let b = meets_body under items body rest f in
          next_reaches o (Array b.array true ∷ o) items b.meets.after (b.meets.steps o ∙ push_next (Array b.array true) (core s ds o b.meets.after) few)
          (p b.array b.there b.spells b.meets.after b.meets.frames)

      -- an operator of the manual
      pub manual_reaches : (name : List ℕ) (p : ℕ) (rest : Code) (o o' : List PsObj) (items : List Item) → operator_number name ≡ Some p
          → ((after : List Item) → numbered p (core s ds o after) ≡ Ok (core s ds o' after, None)) → Frames s under items (Word name rest ∷ []) → Then rest o' → Reaches o items
      manual_reaches name p rest o o' items e does f go =
          let m = meets_word under items name p rest e f in
          next_reaches o o' items m.after (m.steps o ∙ ap settled (does m.after)) (go m.after m.frames)

      -- an operator of the dialect
      pub dialect_reaches : (name : List ℕ) (p op : ℕ) (rest : Code) (o : List PsObj) (items : List Item) → operator_number name ≡ Some p
          → ((after : List Item) → numbered p (core s ds o after) ≡ Ok (core s ds o after, Some op)) → under_stopped under ≡ None
          → (x : Result (List PsObj) PsError) → ((after : List Item) → act op d (core s ds o after) ≡ makes x after) → Frames s under items (Word name rest ∷ [])
          → ((o' : List PsObj) → x ≡ Ok o' → Then rest o') → ((e : PsError) → x ≡ Err e → Fails e) → Reaches o items
      dialect_reaches name p op rest o items e asks none x does f go bad =
          let m = meets_word under items name p rest e f in
          asked_reaches op o items m.after (m.steps o ∙ ap settled (asks m.after)) (not_stopped s under m.after (entered rest []) m.frames none) x (does m.after)
          (λ o' h. go o' h m.after m.frames) bad

      -- one of two procedures, by a boolean
      pub chosen_reaches : (b : Bool) (x y rest : Code) (o : List PsObj) (items : List Item) → length o + 3 ≤ 100000 → length under + 3 ≤ 1000
          → Frames s under items (Proc x (Proc y (Word (codes "ifelse") rest)) ∷ [])
          → ((below after : List Item) → length below ≤ suc (length under) → Frames s under below (entered rest []) → Frames s below after (entered (if b then x else y) []) → Reaches o after)
          → Reaches (Truth b ∷ o) items
      chosen_reaches b x y rest o items few room f go =
          body_reaches x (Proc y (Word (codes "ifelse") rest)) (Truth b ∷ o) items (omega (arith, few)) f
          (λ a a_has a_spells items₁ f₁. body_reaches y (Word (codes "ifelse") rest) (Array a true ∷ Truth b ∷ o) items₁ (omega (arith, few)) f₁
          (λ c c_has c_spells items₂ f₂. enter b go a c a_has c_has a_spells c_spells items₂ (meets_word under items₂ (codes "ifelse") 17 rest ifelse_is f₂)))
        where
          few_items : (below : List Item) → Frames s under below (entered rest []) → length below ≤ suc (length under)
          few_items below f = let e = frames_length s under below (entered rest []) f in let k = entered_few rest in omega (arith, e, k)

          enter : (b : Bool)
              → ((below after : List Item) → length below ≤ suc (length under) → Frames s under below (entered rest []) → Frames s below after (entered (if b then x else y) []) → Reaches o after)
              → (a c : ArrayId) → HasArray s a → HasArray s c → Spells s (elements_of s a) x → Spells s (elements_of s c) y → (items₂ : List Item)
              → (m : MeetsWord under items₂ 17 rest)
              → Reaches (Array c true ∷ Array a true ∷ Truth b ∷ o) items₂
          enter true go a c a_has c_has a_spells c_spells items₂ m =
              let low : length m.after < 1000 = (let k = few_items m.after m.frames in omega (arith, k, room)) in
              let inside : Enters s s ds m.after m.after a (entered x []) = enters s s ds m.after m.after a [] bottom low a_has refl x a_spells in
              next_reaches (Array c true ∷ Array a true ∷ Truth true ∷ o) o items₂ inside.after
              (m.steps (Array c true ∷ Array a true ∷ Truth true ∷ o)
              ∙ ap (λ (r : Made). settled (alone (at (core s ds (Array c true ∷ Array a true ∷ Truth true ∷ o) m.after) (r >>= λ (c : PsCore). Ok (with_operands c o)))))
              (inside.calls (Array c true ∷ Array a true ∷ Truth true ∷ o)))
              (go m.after inside.after (few_items m.after m.frames) m.frames inside.frames)
          enter false go a c a_has c_has a_spells c_spells items₂ m =
              let low : length m.after < 1000 = (let k = few_items m.after m.frames in omega (arith, k, room)) in
              let inside : Enters s s ds m.after m.after c (entered y []) = enters s s ds m.after m.after c [] bottom low c_has refl y c_spells in
              next_reaches (Array c true ∷ Array a true ∷ Truth false ∷ o) o items₂ inside.after
              (m.steps (Array c true ∷ Array a true ∷ Truth false ∷ o)
              ∙ ap (λ (r : Made). settled (alone (at (core s ds (Array c true ∷ Array a true ∷ Truth false ∷ o) m.after) (r >>= λ (c : PsCore). Ok (with_operands c o)))))
              (inside.calls (Array c true ∷ Array a true ∷ Truth false ∷ o)))
              (go m.after inside.after (few_items m.after m.frames) m.frames inside.frames)
