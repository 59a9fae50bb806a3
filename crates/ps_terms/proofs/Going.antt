-- Runs that are followed on the machine on terms.
use Rattle.std.proofs.Common.{◌≡◌, ◌≢◌, ℕ, zero, suc, ◌+◌, ◌-◌, ◌<◌, ◌≤◌, true, false, append_assoc, map, Option, Some, None, Result, Ok, Err, List, [], ◌∷◌, ◌++◌, length, refl, sym, ap, ◌∙◌, subst, arith, length-append}
use Rattle.ps_store.specs.declared.object.PsObj.{PsObj}
use Rattle.ps_store.specs.declared.object.PsObj.TheVariants.{Name, Dict, Op as OpObj}
use Rattle.ps_store.specs.declared.object.DictId.{DictId}
use Rattle.ps_store.specs.declared.object.StringId.{StringId}
use Rattle.ps_store.specs.StoreState.{StoreState}
use Rattle.ps_store.specs.declared.key.Key.{Key as NameOrNumber}
use Rattle.ps_store.specs.declared.key.Key.TheVariants.{Name as NameKey}
use Rattle.ps_store.specs.Entries.{value_at}
use Rattle.ps_store.specs.Store.{elements_of, entries_of}
use Rattle.ps_step.specs.declared.fault.PsFault.{PsFault}
use Rattle.ps_step.specs.declared.fault.PsFault.TheVariants.{NoMemory}
use Rattle.ps_step.specs.declared.item.Item.{Item}
use Rattle.ps_step.specs.declared.fault.PsError.{PsError}
use Rattle.ps_step.specs.Results.{◌>>=◌, at}
use Rattle.ps_step.specs.Composites.{value_in}
use Rattle.ps_step.specs.declared.item.Item.TheVariants.{Procedure}
use Rattle.ps_step.specs.declared.machine.PsCore.{PsCore}
use Rattle.ps_step.specs.declared.operator.Operator.{Operator}
use Rattle.ps_step.specs.Operator.{operator_at}
use Rattle.ps_step.specs.Keys.{named, text_key, under as under_key}
use Rattle.ps_step.specs.State.{with_operands}
use Rattle.ps_text.specs.Grown.{IsString}
use Rattle.ps_step.specs.Executing.{alone, operating, numbered}
use Rattle.ps_run.specs.Step.{Next, Asks, settled, going_on, step}
use Rattle.ps_run.specs.Runs.{Answer, Operates, Settles, Runs, fault_with}
use Rattle.ps_run.specs.Passes.{Follows, Met, Closes}
use Rattle.ps_run.proofs.Apart.{apart, behind as behind_step}
use Rattle.ps_run.proofs.Going.{no_memory}
use Rattle.ps_text.specs.Code.{Code, Word}
use Rattle.ps_terms.specs.Machine.{Val, Obj, Key, Bytes, Quoted, State, state, entered, Words, next, go}
use Rattle.ps_terms.specs.Stands.{Is, Are, none, more, Frames, bottom, frame, core, Knows, Keeps}
use Rattle.ps_terms.specs.Printing.{Answers, full, done, Surely, further, HasKey, Printing, Looked, nothing, after, Seeks, lacking, at_once, failed, behind, FindsAt}
use Rattle.ps_terms.specs.Faring.{Aim, Fares, arrives, fails, starves, Comes}
use Rattle.ps_terms.proofs.Sound.{are_length, frames_length, step_is, then_is, name_acts}
use Rattle.ps_terms.proofs.Steps.{Room, Stepped, next_sound}

pub further_is : (k n : ℕ) → further k n ≡ k + n
further_is zero n = omega arith
further_is (suc k) n = let e = further_is k n in omega arith

-- operands, and others below them
pub record Split (s : StoreState) (xs : List PsObj) (vs ws : List Val) : Type 0 where
  pub own : List PsObj
  pub below : List PsObj
  pub whole : xs ≡ own ++ below
  pub are_own : Are s own vs
  pub are_below : Are s below ws

split : (s : StoreState) (vs ws : List Val) (xs : List PsObj) → Are s xs (vs ++ ws) → Split s xs vs ws
split s [] ws xs are = record { own = []; below = xs; whole = refl; are_own = none; are_below = are }
split s (v ∷ vs) ws _ (more x v' xs vs' i are) =
    let r : Split s xs vs ws = split s vs ws xs are in
    record { own = x ∷ r.own; below = r.below; whole = ap (λ l. x ∷ l) r.whole; are_own = more x v r.own vs i r.are_own; are_below = r.are_below }

-- known operands and objects stand at their values
pub are_objects : (s : StoreState) (xs : List PsObj) (ys : List PsObj) (vs : List Val) → Are s ys vs → Are s (xs ++ ys) (map (λ x. Obj x) xs ++ vs)
are_objects s [] ys vs are = are
are_objects s (x ∷ xs) ys vs are = more x (Obj x) (xs ++ ys) (map (λ x. Obj x) xs ++ vs) refl (are_objects s xs ys vs are)

module _ {D : Type 0} (Op : Operates D) (prints : Printing Op) (s : StoreState) (ds : List DictId) (aim : Aim Op prints s ds) where
  -- each run from here, of which memory does not run out, comes to the aim
  abbrev pub Reaches : ℕ → D → PsCore → Type 0
  Reaches n d c = Comes Op prints.needs aim.first n d c ds aim.left aim.dialect aim.operands aim.items

  -- So does each from here, whatever look-ups made of the store, with so many steps left less those that they took.
  abbrev pub Ends : ℕ → D → List PsObj → List Item → Type 0
  Ends n d operands items =
      (now : StoreState) (m j : ℕ) → Looked Op prints.needs aim.first now j → m + j ≡ n → (aim.left ≤ n) × Reaches m d (core now ds operands items)

  enough : (n : ℕ) (d : D) (operands : List PsObj) (items : List Item) → Ends n d operands items → aim.left ≤ n
  enough n d operands items p = (p aim.first n 0 nothing (omega arith)).0

  -- the aim itself
  pub ends_here : Ends aim.left aim.dialect aim.operands aim.items
  ends_here now m j looked e = (omega arith, λ r k d c other run. arrives r k d c now m j looked e run)

  starved : (now : StoreState) (j : ℕ) (d : D) (c : PsCore) → Looked Op prints.needs aim.first now j → aim.left < j → Reaches zero d c
  starved now j d c looked less = λ r m d' c' other run.
      subst (λ a. Fares Op prints.needs aim.first ds aim.left aim.dialect aim.operands aim.items a m d' c') (sym (apart Op zero d c r m d' c' run).answered)
      (starves m d' c' now j looked less)

  -- a step of the interpreter
  next_ends : (n : ℕ) (d : D) (operands operands' : List PsObj) (items items' : List Item) (now : StoreState) (m j : ℕ) → Looked Op prints.needs aim.first now j → m + j ≡ suc n
      → step (core now ds operands items) ≡ Next (core now ds operands' items') → Ends n d operands' items' → (aim.left ≤ suc n) × Reaches m d (core now ds operands items)
  next_ends n d operands operands' items items' now zero j looked e s₁ p =
      let less = enough n d operands' items' p in (omega arith, starved now j d (core now ds operands items) looked (omega arith))
  next_ends n d operands operands' items items' now (suc m) j looked e s₁ p =
      let less = enough n d operands' items' p in
      (omega arith, λ r k d' c' other run. (p now m j looked (omega arith)).1 r k d' c' other (behind_step Op m d (core now ds operands items) (Next (core now ds operands' items')) r k d' c' s₁ run))

  -- behind the answer of an operator
  answer_ends : (n : ℕ) (d d' : D) (op : ℕ) (left : List PsObj) (items : List Item) (c : PsCore) (m j : ℕ) → Looked Op prints.needs aim.first c.store j → m + j ≡ n
      → with_operands c left ≡ core c.store ds left items → ((now : StoreState) → record c { store = now; operands = left } ≡ core now ds left items) → Ends n d' left items
      → (r : Answer) (k : ℕ) (d₂ : D) (c₂ : PsCore) → r ≢ Err NoMemory → (given : Answer) (d₁ : D) (c₁ : PsCore) (m₁ : ℕ) → Op d c op m given d₁ c₁ m₁
      → Seeks (prints.needs d c op) d' c left m given d₁ c₁ m₁ → (answer : Answer) (c₃ : PsCore) → Settles given c₁ answer c₃ → Follows Op answer m₁ d₁ c₃ r k d₂ c₂
      → ((f : PsFault) → given ≡ Err f → prints.needs d c op ≡ true → Fares Op prints.needs aim.first ds aim.left aim.dialect aim.operands aim.items r k d₂ c₂)
      → Fares Op prints.needs aim.first ds aim.left aim.dialect aim.operands aim.items r k d₂ c₂
  answer_ends n d d' op left items c m j looked e same same' p r k d₂ c₂ other _ _ _ _ o (lacking d₁ c₁ m₁) answer c₃ settles follows bad =
      let closes : Closes (Err (fault_with m₁ NoMemory)) m₁ d₁ c₃ r k d₂ c₂ = subst (λ a. Follows Op a m₁ d₁ c₃ r k d₂ c₂) settles.0 follows in
      absurd (other (closes.answered ∙ ap Err (no_memory m₁)))
  answer_ends n d d' op left items c m j looked e same same' p r k d₂ c₂ other _ _ _ _ o at_once answer c₃ settles follows bad =
      let rest : Runs Op m d' c₃ r k d₂ c₂ = subst (λ a. Follows Op a m d' c₃ r k d₂ c₂) settles.0 follows in
      (p c.store m j looked e).1 r k d₂ c₂ other (subst (λ x. Runs Op m d' x r k d₂ c₂) (settles.1 ∙ same) rest)
  answer_ends n d d' op left items c m j looked e same same' p r k d₂ c₂ other _ _ _ _ o (failed f d₁ c₁ m₁ needs) answer c₃ settles follows bad = bad f refl needs
  answer_ends n d d' op left items c m j looked e same same' p r k d₂ c₂ other _ _ _ _ o (behind now m₁ needs fewer kept) answer c₃ settles follows bad =
      let rest : Runs Op m₁ d' c₃ r k d₂ c₂ = subst (λ a. Follows Op a m₁ d' c₃ r k d₂ c₂) settles.0 follows in
      let j' : ℕ = j + (m - m₁) in
      let looked' : Looked Op prints.needs aim.first now j' = after d d' c (record c { store = now; operands = left }) op m m₁ j j' looked needs o kept (omega arith) in
      (p now m₁ j' looked' (omega arith)).1 r k d₂ c₂ other (subst (λ x. Runs Op m₁ d' x r k d₂ c₂) (settles.1 ∙ same' now) rest)

  -- an operator of the dialect is asked for
  asked_ends : (n : ℕ) (d d' : D) (op : ℕ) (operands left : List PsObj) (items items' : List Item) (now : StoreState) (m j : ℕ) → Looked Op prints.needs aim.first now j → m + j ≡ suc n
      → step (core now ds operands items) ≡ Asks op (core now ds operands items')
      → ((k : ℕ) (r : Answer) (d₁ : D) (c₁ : PsCore) (k₁ : ℕ) → Op d (core now ds operands items') op k r d₁ c₁ k₁
      → Seeks (prints.needs d (core now ds operands items') op) d' (core now ds operands items') left k r d₁ c₁ k₁)
      → Ends n d' left items' → (aim.left ≤ suc n) × Reaches m d (core now ds operands items)
  asked_ends n d d' op operands left items items' now zero j looked e asks seeks p =
      let less = enough n d' left items' p in (omega arith, starved now j d (core now ds operands items) looked (omega arith))
  asked_ends n d d' op operands left items items' now (suc m) j looked e asks seeks p = (let less = enough n d' left items' p in omega arith, reached)
    where
      reached : Reaches (suc m) d (core now ds operands items)
      reached r k d₂ c₂ other run =
          let c : PsCore = core now ds operands items' in
          let met : Met Op d c op m r k d₂ c₂ = behind_step Op m d (core now ds operands items) (Asks op c) r k d₂ c₂ asks run in
          answer_ends n d d' op left items' c m j looked (omega arith) refl (λ now. refl) p r k d₂ c₂ other met.asked.given met.dialect met.asked.core met.left met.asked.operates
          (seeks m met.asked.given met.dialect met.asked.core met.left met.asked.operates) met.answer met.core met.asked.settles met.follows
          (λ f is needs. fails r k d₂ c₂ d c op m j f looked (let less = enough n d' left items' p in omega arith) needs met is)

module _ {D : Type 0} (Op : Operates D) (prints : Printing Op) (s : StoreState) (ds : List DictId) (words : Words) (knows : Knows s ds words) (aim : Aim Op prints s ds)
    (o : List PsObj) (under : List Item) where
  -- each run from here, which stands at this state of the machine with so many steps left, comes to the aim
  abbrev pub Goes : ℕ → D → State → Type 0
  Goes n d st = (xs : List PsObj) (items : List Item) → Are s xs st.values → Frames s under items st.frames → Ends Op prints s ds aim n d (xs ++ o) items

  module _ (room : Room o under) where
    pub goes_on : (k n : ℕ) (d : D) (st st' : State) → go words k st ≡ Some st' → Goes n d st' → Goes (further k n) d st
    goes_on zero n d st st' e g = subst (Goes n d) (sym (same e)) g
      where
        same : {x y : State} → Some x ≡ Some y → x ≡ y
        same h = cc
    goes_on (suc k) n d st st' e g = λ xs items are frames now m j looked sum.
        on (λ st₁ h. goes_on k n d st₁ st' h g) (next words st.frames st.values) xs items now m j looked sum
        (next_sound s now ds (aim.stays now j looked) words knows o under room xs st.values items st.frames are frames) e
      where
        on : ((st₁ : State) → go words k st₁ ≡ Some st' → Goes (further k n) d st₁) → (met : Option State) (xs : List PsObj) (items : List Item)
            (now : StoreState) (m j : ℕ) (looked : Looked Op prints.needs aim.first now j) → m + j ≡ suc (further k n)
            → Stepped s now ds (aim.stays now j looked) words knows o under room xs items met
            → (elim met [ None ↦ None | Some st₁ ↦ go words k st₁ ]) ≡ Some st' → (aim.left ≤ suc (further k n)) × Reaches Op prints s ds aim m d (core now ds (xs ++ o) items)
        on rest None xs items now m j looked sum stepped h = absurd cc
        on rest (Some st₁) xs items now m j looked sum stepped h =
            next_ends Op prints s ds aim (further k n) d (xs ++ o) (stepped.0 ++ o) items stepped.1 now m j looked sum stepped.2
            (rest st₁ h stepped.0 stepped.1 stepped.3 stepped.4)

  -- a dialect's operator that may run functions of units first
  pub goes_sought : (p op : ℕ) (name : List ℕ) (rest : Code) (ks : List Code) (vs vs' : List Val) (n : ℕ) (d d' : D)
      → named s ds name ≡ Some (OpObj p) → operator_at p ≡ None → p - 61 ≡ op
      → ((now : StoreState) (j : ℕ) → Looked Op prints.needs aim.first now j → (xs : List PsObj) (items : List Item) → Are s xs vs
      → (xs' : List PsObj) × Are s xs' vs' × ((k : ℕ) (r : Answer) (d₁ : D) (c₁ : PsCore) (k₁ : ℕ) → Op d (core now ds (xs ++ o) items) op k r d₁ c₁ k₁
      → Seeks (prints.needs d (core now ds (xs ++ o) items) op) d' (core now ds (xs ++ o) items) (xs' ++ o) k r d₁ c₁ k₁))
      → Goes n d' (state (entered rest ks) vs') → Goes (suc n) d (state (Word name rest ∷ ks) vs)
  goes_sought p op name rest ks vs vs' n d d' means none_at numbers does g = λ xs items are frames. asked xs items are frames
    where
      asked : (xs : List PsObj) (items : List Item) → Are s xs vs → Frames s under items (Word name rest ∷ ks) → Ends Op prints s ds aim (suc n) d (xs ++ o) items
      asked xs _ are (frame a i items k ks' has sp below) now m j looked sum =
          let keeps : Keeps s ds now = aim.stays now j looked in
          let items' : List Item = going_on (i + 1) (length (elements_of s a)) (Procedure a (i + 1)) items in
          let c' : PsCore = core now ds (xs ++ o) items' in
          let turn : numbered p c' ≡ Ok (c', Some op) =
          ap (λ (r : Option Operator). elim r [ Some op ↦ alone (operating op c') | None ↦ Ok (c', Some (p - 61)) ]) none_at ∙ ap (λ i. Ok (c', Some i)) numbers in
          let stepped : step (core now ds (xs ++ o) (Procedure a i ∷ items)) ≡ Asks op c' =
          step_is s under a i items (Name sp.0 true) sp.1 ks sp.2 has below now (keeps.arrays a has) ds (xs ++ o)
          ∙ ap settled (name_acts now ds (xs ++ o) items' sp.0 name (OpObj p) (keeps.strings sp.0 name sp.3).bytes (keeps.names name (OpObj p) means refl))
          ∙ ap settled turn in
          let made = does now j looked xs items' are in
          asked_ends Op prints s ds aim n d d' op (xs ++ o) (made.0 ++ o) (Procedure a i ∷ items) items' now m j looked sum stepped made.2
          (g made.0 items' made.1 (then_is s under a i items (Name sp.0 true) sp.1 ks sp.2 has below rest sp.4))

  -- a dialect's operator that needs no unit
  pub goes_asked : (p op : ℕ) (name : List ℕ) (rest : Code) (ks : List Code) (vs vs' : List Val) (n : ℕ) (d d' : D)
      → named s ds name ≡ Some (OpObj p) → operator_at p ≡ None → p - 61 ≡ op
      → ((now : StoreState) → Keeps s ds now → (xs : List PsObj) (items : List Item) → Are s xs vs
      → (xs' : List PsObj) × Are s xs' vs' × Surely Op d (core now ds (xs ++ o) items) op d' (core now ds (xs' ++ o) items))
      → Goes n d' (state (entered rest ks) vs') → Goes (suc n) d (state (Word name rest ∷ ks) vs)
  goes_asked p op name rest ks vs vs' n d d' means none_at numbers does g =
      goes_sought p op name rest ks vs vs' n d d' means none_at numbers (λ now j looked xs items are.
      let made = does now (aim.stays now j looked) xs items are in
      (made.0, made.1, λ k r d₁ c₁ k₁ operates. sought now xs made.0 items k r d₁ c₁ k₁ (made.2 k r d₁ c₁ k₁ operates))) g
    where
      sought : (now : StoreState) (xs xs' : List PsObj) (items : List Item) (k : ℕ) (r : Answer) (d₁ : D) (c₁ : PsCore) (k₁ : ℕ)
          → Answers d' (core now ds (xs' ++ o) items) k r d₁ c₁ k₁ → Seeks (prints.needs d (core now ds (xs ++ o) items) op) d' (core now ds (xs ++ o) items) (xs' ++ o) k r d₁ c₁ k₁
      sought now xs xs' items k _ _ _ _ (full d₁ c₁ k₁) = lacking d₁ c₁ k₁
      sought now xs xs' items k _ _ _ _ done = at_once

  -- an operator whose answer is known of some operands, above others
  pub goes_found : (p op : ℕ) (name : List ℕ) (rest : Code) (ks : List Code) (taken : List Val) (left : List PsObj) (vs : List Val) (n : ℕ) (d d' : D)
      → named s ds name ≡ Some (OpObj p) → operator_at p ≡ None → p - 61 ≡ op → FindsAt Op prints s aim.first d d' op taken left
      → Goes n d' (state (entered rest ks) (map (λ x. Obj x) left ++ vs)) → Goes (suc n) d (state (Word name rest ∷ ks) (taken ++ vs))
  goes_found p op name rest ks taken left vs n d d' means none_at numbers finds g =
      goes_sought p op name rest ks (taken ++ vs) (map (λ x. Obj x) left ++ vs) n d d' means none_at numbers does g
    where
      does : (now : StoreState) (j : ℕ) → Looked Op prints.needs aim.first now j → (xs : List PsObj) (items : List Item) → Are s xs (taken ++ vs)
          → (xs' : List PsObj) × Are s xs' (map (λ x. Obj x) left ++ vs) × ((k : ℕ) (r : Answer) (d₁ : D) (c₁ : PsCore) (k₁ : ℕ) → Op d (core now ds (xs ++ o) items) op k r d₁ c₁ k₁
          → Seeks (prints.needs d (core now ds (xs ++ o) items) op) d' (core now ds (xs ++ o) items) (xs' ++ o) k r d₁ c₁ k₁)
      does now j looked xs items are =
          let r : Split s xs taken vs = split s taken vs xs are in
          let whole : xs ++ o ≡ r.own ++ (r.below ++ o) = ap (λ l. l ++ o) r.whole ∙ append_assoc r.own r.below o in (
            left ++ r.below,
            are_objects s left r.below vs r.are_below,
            λ k a d₁ c₁ k₁ operates. subst (λ l. Seeks (prints.needs d (core now ds (xs ++ o) items) op) d' (core now ds (xs ++ o) items) l k a d₁ c₁ k₁)
                (sym (append_assoc left r.below o))
                (finds (core now ds (xs ++ o) items) j r.own (r.below ++ o) looked r.are_own whole k a d₁ c₁ k₁ operates),
          )

  -- an operator of the manual, by what it makes
  pub goes_made : (p : ℕ) (name : List ℕ) (rest : Code) (ks : List Code) (vs vs' : List Val) (n : ℕ) (d : D) → named s ds name ≡ Some (OpObj p)
      → ((now : StoreState) → Keeps s ds now → (xs : List PsObj) (items : List Item) → Are s xs vs
      → (xs' : List PsObj) × Are s xs' vs' × (numbered p (core now ds (xs ++ o) items) ≡ Ok (core now ds (xs' ++ o) items, None)))
      → Goes n d (state (entered rest ks) vs') → Goes (suc n) d (state (Word name rest ∷ ks) vs)
  goes_made p name rest ks vs vs' n d means does g = λ xs items are frames. made xs items are frames
    where
      made : (xs : List PsObj) (items : List Item) → Are s xs vs → Frames s under items (Word name rest ∷ ks) → Ends Op prints s ds aim (suc n) d (xs ++ o) items
      made xs _ are (frame a i items k ks' has sp below) now m j looked sum =
          let keeps : Keeps s ds now = aim.stays now j looked in
          let items' : List Item = going_on (i + 1) (length (elements_of s a)) (Procedure a (i + 1)) items in
          let did = does now keeps xs items' are in
          let stepped : step (core now ds (xs ++ o) (Procedure a i ∷ items)) ≡ Next (core now ds (did.0 ++ o) items') =
          step_is s under a i items (Name sp.0 true) sp.1 ks sp.2 has below now (keeps.arrays a has) ds (xs ++ o)
          ∙ ap settled (name_acts now ds (xs ++ o) items' sp.0 name (OpObj p) (keeps.strings sp.0 name sp.3).bytes (keeps.names name (OpObj p) means refl))
          ∙ ap settled did.2 in
          next_ends Op prints s ds aim n d (xs ++ o) (did.0 ++ o) (Procedure a i ∷ items) items' now m j looked sum stepped
          (g did.0 items' did.1 (then_is s under a i items (Name sp.0 true) sp.1 ks sp.2 has below rest sp.4))

  -- nothing is left to be executed above the other items
  pub goes_end : (n : ℕ) (d : D) (vs : List Val) → ((xs : List PsObj) → Are s xs vs → Ends Op prints s ds aim n d (xs ++ o) under) → Goes n d (state [] vs)
  goes_end n d vs p = λ xs items are frames. ends xs items are frames
    where
      ends : (xs : List PsObj) (items : List Item) → Are s xs vs → Frames s under items [] → Ends Op prints s ds aim n d (xs ++ o) items
      ends xs _ are bottom = p xs are

  -- what the innermost term does with the topmost operand, whatever is below
  pub goes_call : (k : Code) (ks : List Code) (v : Val) (vs : List Val) (n n' : ℕ) (d d' : D)
      → ((o' : List PsObj) (under' : List Item) → length o' ≡ length vs + length o → length under' ≡ length under + length ks → Ends Op prints s ds aim n' d' o' under'
      → (x : PsObj) (items : List Item) → Is s x v → Frames s under' items (k ∷ []) → Ends Op prints s ds aim n d (x ∷ o') items)
      → Goes n' d' (state ks vs) → Goes n d (state (k ∷ ks) (v ∷ vs))
  goes_call k ks v vs n n' d d' inner g = λ xs items are frames. called xs items are frames
    where
      called : (xs : List PsObj) (items : List Item) → Are s xs (v ∷ vs) → Frames s under items (k ∷ ks) → Ends Op prints s ds aim n d (xs ++ o) items
      called _ _ (more x v' xs vs' is are) (frame a m items k' ks' has sp below) =
          inner (xs ++ o) items (length-append xs o ∙ ap (λ i. i + length o) (are_length s xs vs are)) (frames_length s under items ks below) (g xs items are below)
          x (Procedure a m ∷ items) is (frame a m items k [] has sp bottom)

  -- what the innermost term does with the topmost operands, whatever is below: it leaves an object
  pub goes_through : (k : Code) (ks : List Code) (vs ws : List Val) (y : PsObj) (n n' : ℕ) (d d' : D)
      → ((o' : List PsObj) (under' : List Item) → length o' ≡ length ws + length o → length under' ≡ length under + length ks → Ends Op prints s ds aim n' d' (y ∷ o') under'
      → (xs : List PsObj) (items : List Item) → Are s xs vs → Frames s under' items (k ∷ []) → Ends Op prints s ds aim n d (xs ++ o') items)
      → Goes n' d' (state ks (Obj y ∷ ws)) → Goes n d (state (k ∷ ks) (vs ++ ws))
  goes_through k ks vs ws y n n' d d' inner g = λ xs items are frames. through xs items are frames
    where
      through : (xs : List PsObj) (items : List Item) → Are s xs (vs ++ ws) → Frames s under items (k ∷ ks) → Ends Op prints s ds aim n d (xs ++ o) items
      through xs _ are (frame a m items k' ks' has sp below) =
          let r : Split s xs vs ws = split s vs ws xs are in
          let whole : xs ++ o ≡ r.own ++ (r.below ++ o) = ap (λ l. l ++ o) r.whole ∙ append_assoc r.own r.below o in
          subst (λ l. Ends Op prints s ds aim n d l (Procedure a m ∷ items)) (sym whole)
          (inner (r.below ++ o) items (length-append r.below o ∙ ap (λ i. i + length o) (are_length s r.below ws r.are_below)) (frames_length s under items ks below)
          (g (y ∷ r.below) items (more y (Obj y) r.below ws refl r.are_below) below)
          r.own (Procedure a m ∷ items) r.are_own (frame a m items k [] has sp bottom))

  -- what a dictionary holds
  pub goes_get : (name key : List ℕ) (rest : Code) (ks : List Code) (dict : DictId) (v : Val) (vs : List Val) (n : ℕ) (d : D) → named s ds name ≡ Some (OpObj 32) → HasKey s dict key v
      → Goes n d (state (entered rest ks) (v ∷ vs)) → Goes (suc n) d (state (Word name rest ∷ ks) (Key key ∷ Obj (Dict dict) ∷ vs))
  goes_get name key rest ks dict v vs n d means has g = goes_made 32 name rest ks (Key key ∷ Obj (Dict dict) ∷ vs) (v ∷ vs) n d means does g
    where
      got : (now : StoreState) → Keeps s ds now → (t : StringId) → IsString s t key → value_in now (Dict dict) (Name t false) ≡ Ok has.object
      got now keeps t is =
          ap (λ text. (text_key text >>= λ k. Ok (value_at (entries_of now dict) k)) >>= λ found. under_key found) (keeps.strings t key is).bytes
          ∙ ap (λ (r : Result NameOrNumber PsError). (r >>= λ k. Ok (value_at (entries_of now dict) k)) >>= λ found. under_key found) has.key
          ∙ ap under_key (keeps.values dict (NameKey key) has.object has.found has.stays)

      does : (now : StoreState) → Keeps s ds now → (xs : List PsObj) (items : List Item) → Are s xs (Key key ∷ Obj (Dict dict) ∷ vs)
          → (xs' : List PsObj) × Are s xs' (v ∷ vs) × (numbered 32 (core now ds (xs ++ o) items) ≡ Ok (core now ds (xs' ++ o) items, None))
      does now keeps _ items (more x _ _ _ i (more y _ xs vs' j r)) = (
        has.object ∷ xs,
        more has.object v xs vs has.is r,
        ap (λ z. numbered 32 (core now ds (z ∷ y ∷ (xs ++ o)) items)) i.1
            ∙ ap (λ z. numbered 32 (core now ds (Name i.0 false ∷ z ∷ (xs ++ o)) items)) j
            ∙ ap (λ (f : Result PsObj PsError). alone (at (core now ds (Name i.0 false ∷ Dict dict ∷ (xs ++ o)) items) (f >>= λ z. Ok (core now ds (z ∷ (xs ++ o)) items))))
            (got now keeps i.0 i.2),
      )
