-- The unit whose functions are run.
use Rattle.std.proofs.Common.{◌≡◌, ◌≢◌, ◌<◌, ◌≤◌, ℕ, zero, suc, true, false, Option, Some, None, Result, Ok, Err, List, [], ◌∷◌, slice_get, codes, refl, sym, ap, ◌∙◌, subst, arith}
use Rattle.ps_store.specs.declared.object.PsObj.{PsObj}
use Rattle.ps_store.specs.declared.object.PsObj.TheVariants.{Int, Bool as Truth, Name, Str, Array, Dict, Op, Mark as MarkObject, Null}
use Rattle.ps_store.specs.declared.object.DictId.{DictId}
use Rattle.ps_store.specs.declared.object.StringId.{StringId}
use Rattle.ps_store.specs.declared.key.Key.{Key}
use Rattle.ps_store.specs.StoreState.{StoreState}
use Rattle.ps_store.specs.Store.{entries_of}
use Rattle.ps_store.specs.Entries.{value_at}
use Rattle.ps_store.specs.Cut.{mark_of}
use Rattle.ps_step.specs.declared.fault.PsError.{PsError}
use Rattle.ps_step.specs.declared.fault.PsFault.{PsFault}
use Rattle.ps_step.specs.declared.fault.PsFault.TheVariants.{Error, Spent, Link, NoMemory}
use Rattle.ps_step.specs.declared.item.Item.TheVariants.{Object}
use Rattle.ps_step.specs.declared.machine.PsCore.{PsCore}
use Rattle.ps_step.specs.State.{with_execution}
use Rattle.ps_step.specs.Results.{◌>>=◌}
use Rattle.ps_run.specs.Runs.{Answer, Operates, Asked, Runs, RunsObject, Settles, fault_with}
use Rattle.ps_run.specs.Runs as runs
use Rattle.ps_run.specs.Passes.{TakesNone}
use Rattle.ps_run.proofs.Apart.{some_steps}
use Rattle.ps_force.specs.Forcing.{left_on, placing, placing_left, forced_by, apart, Forces, Uses}
use Rattle.table_model.specs.Reading.{Walked, dict_in, entry, or_missing}
use Rattle.table_model.specs.Rows.{units_of}
use Rattle.ps_places.specs.Lacks.{looked}
use Rattle.dialect_model.specs.Dial.{Dial, no_target}
use Rattle.dialect_model.specs.Forcing as model
use Rattle.ps_bare.specs.declared.dialect.NoTarget.{NoTarget}
use Rattle.ps_bare.specs.Bare.{bare, OperatesBare}
use Rattle.ps_bare.specs.Deferred.{unit_of, if_text, deferred_unit, IsDeferred}
use Rattle.ps_bare.proofs.Mapped.{mapped_but}

abbrev gives : DictId → Result DictId PsError
gives x = Ok x

-- what comes after a result was reached, so that was
record Reached {A B E : Type 0} (m : Result A E) (f : A → Result B E) (y : B) : Type 0 where
  pub first : A
  pub is_first : m ≡ Ok first
  pub behind : f first ≡ Ok y

ok_is : (x y : DictId) → gives x ≡ Ok y → x ≡ y
ok_is x y h = cc

reached : {A B E : Type 0} (m : Result A E) (f : A → Result B E) (y : B) → (m >>= f) ≡ Ok y → Reached m f y
reached (Ok x) f y h = record { first = x; is_first = refl; behind = h }
reached (Err e) f y h = absurd (let k = h in cc)

abbrev gives_both : DictId × PsObj → Walked (DictId × PsObj)
gives_both p = Ok p

both_is : (p q : DictId × PsObj) → gives_both p ≡ Ok q → p ≡ q
both_is p q h = cc

pair_is : (e d : DictId) (t x : PsObj) → gives_both (e, t) ≡ Ok (d, x) → (e ≡ d) × (t ≡ x)
pair_is e d t x h = let k : (e, t) ≡ (d, x) = both_is (e, t) (d, x) h in (ap (λ (p : DictId × PsObj). p.0) k, ap (λ (p : DictId × PsObj). p.1) k)

there : (o : Option PsObj) (x : PsObj) → or_missing o ≡ Ok x → o ≡ Some x
there None x h = absurd (let k = h in cc)
there (Some y) x h = let k = h in cc

record Stands (s : StoreState) (u : ℕ) (d : DictId) (x : PsObj) : Type 0 where
  pub unit : unit_of s u ≡ Ok d
  pub value : value_at (entries_of s d) model.FUNCTIONS ≡ Some x

stands : (s : StoreState) (u : ℕ) (d : DictId) (x : PsObj) → model.deferred s u ≡ Ok (d, x) → Stands s u d x
stands s u d x h =
    let us : Reached (units_of s) (λ us. or_missing (slice_get us u) >>= model.deferred_in s) (d, x) = reached _ _ _ h in
    let o : Reached (or_missing (slice_get us.first u)) (model.deferred_in s) (d, x) = reached _ _ _ us.behind in
    let e : Reached (dict_in o.first) (λ d. entry s d (codes "functions") >>= λ text. Ok (d, text)) (d, x) = reached _ _ _ o.behind in
    let t : Reached (entry s e.first (codes "functions")) (λ text. Ok (e.first, text)) (d, x) = reached _ _ _ e.behind in
    let is : (e.first ≡ d) × (t.first ≡ x) = pair_is e.first d t.first x t.behind in
    let same : e.first ≡ d = is.0 in
    let text : t.first ≡ x = is.1 in
    record {
      unit = ap (λ m. m >>= λ us. or_missing (slice_get us u) >>= dict_in) us.is_first ∙ ap (λ m. m >>= dict_in) o.is_first ∙ e.is_first ∙ ap Ok same;
      value = ap (λ d. value_at (entries_of s d) model.FUNCTIONS) (sym same) ∙ there _ _ t.is_first ∙ ap Some text;
    }

-- a unit that is deferred is found so
pub deferred_is : (s : StoreState) (u : ℕ) (h : IsDeferred s u) → deferred_unit s u ≡ Ok h.unit
deferred_is s u h =
    let k : Stands s u h.unit (Str h.text true) = stands s u h.unit (Str h.text true) h.stands in
    ap (λ m. looked m >>= λ d. looked (entry s d (codes "functions")) >>= if_text d) k.unit ∙ ap (λ o. looked (or_missing o) >>= if_text h.unit) k.value

-- so no error is found
pub never_found : (s : StoreState) (u : ℕ) (e : PsError) → IsDeferred s u → deferred_unit s u ≡ Err e → ⊥
never_found s u e h k = let i = deferred_is s u h in let j = k in cc

-- ---- and one that is found so has an executable string

pub record HasText (s : StoreState) (d : DictId) : Type 0 where
  pub text : StringId
  pub value : value_at (entries_of s d) model.FUNCTIONS ≡ Some (Str text true)

text_if : (s : StoreState) (e d : DictId) (o : Option PsObj) → value_at (entries_of s e) model.FUNCTIONS ≡ o → (looked (or_missing o) >>= if_text e) ≡ Ok d → HasText s d
text_if s e d (Some (Str t true)) v h = record { text = t; value = ap (λ d. value_at (entries_of s d) model.FUNCTIONS) (sym (ok_is e d h)) ∙ v }
text_if s e d None v h = absurd (let k = h in cc)
text_if s e d (Some (Str t false)) v h = absurd (let k = h in cc)
text_if s e d (Some (Int n)) v h = absurd (let k = h in cc)
text_if s e d (Some (Truth b)) v h = absurd (let k = h in cc)
text_if s e d (Some (Name t b)) v h = absurd (let k = h in cc)
text_if s e d (Some (Array a b)) v h = absurd (let k = h in cc)
text_if s e d (Some (Dict a)) v h = absurd (let k = h in cc)
text_if s e d (Some (Op n)) v h = absurd (let k = h in cc)
text_if s e d (Some MarkObject) v h = absurd (let k = h in cc)
text_if s e d (Some Null) v h = absurd (let k = h in cc)

pub has_text : (s : StoreState) (u : ℕ) (d : DictId) → deferred_unit s u ≡ Ok d → HasText s d
has_text s u d h =
    let e : Reached (looked (unit_of s u)) (λ d. looked (entry s d (codes "functions")) >>= if_text d) d = reached _ _ _ h in
    text_if s e.first d (value_at (entries_of s e.first) model.FUNCTIONS) refl e.behind

-- ---- the dialect without a target, as the definition's

abbrev pub Op' : Operates NoTarget
Op' d c op left answer d' c' left' = OperatesBare d.cell c op left answer d'.cell c' left'

abbrev pub dial_of : NoTarget → Dial
dial_of d = bare d.cell

bare_over : (d : NoTarget) (c : PsCore) (op n : ℕ) (r : Answer) (d' : NoTarget) (c' : PsCore) (k : ℕ) → r ≢ Err NoMemory → Op' d c op n r d' c' k
    → model.NoTarget (dial_of d) c op n r (dial_of d') c' k
bare_over d c op n r d' c' k other h = subst (λ j. model.NoTarget (dial_of d) c op n r (dial_of d') c' j) (sym h.0) (h.1 other)

bare_none : TakesNone Op'
bare_none d c op n r d' c' k h = omega (arith, h.0)

-- the run of an object by the dialect is one by the definition
pub object_over : (n : ℕ) (x : PsObj) (d : NoTarget) (c : PsCore) (r : Answer) (m : ℕ) (d' : NoTarget) (c' : PsCore) → RunsObject Op' n x d c r m d' c'
    → RunsObject model.NoTarget n x (dial_of d) c r m (dial_of d') c'
object_over n x d c r m d' c' h = λ other.
    let found = h other in
    (found.0, mapped_but Op' model.NoTarget dial_of bare_over n d (with_execution c (Object x ∷ [])) r m d' (with_execution c' found.0) other found.1)

pub forces_over : (n : ℕ) (d : NoTarget) (c : PsCore) (u : DictId) (text : PsObj) (given : Result PsObj PsFault) (m : ℕ) (d' : NoTarget) (c' : PsCore)
    → Forces Op' n d c u model.FUNCTIONS text given m d' c' → Forces model.NoTarget n (dial_of d) c u model.FUNCTIONS text given m (dial_of d') c'
forces_over n d c u text given m d' c' h =
    record { answer = h.answer; core = h.core; runs = object_over n text d (apart c) h.answer m d' h.core h.runs; given = h.given; after = h.after }

-- ---- the answers

pub forces_unit : (u : ℕ) (c : PsCore) (h : IsDeferred c.store u) (n : ℕ) (d : NoTarget) (given : Result PsObj PsFault) (answer : Answer) (m : ℕ) (d' : NoTarget) (c' : PsCore)
    → d.cell ≡ 0 → answer ≡ model.answer_of given → answer ≢ Err NoMemory → Forces Op' n d c h.unit model.FUNCTIONS (Str h.text true) given m d' c' → model.ForcesUnit u c n answer m c'
forces_unit u c h n d given answer m d' c' begins e other f =
    record {
      unit = h.unit;
      text = Str h.text true;
      stands = h.stands;
      given = given;
      dial = dial_of d';
      forces = subst (λ cell. Forces model.NoTarget n (bare cell) c h.unit model.FUNCTIONS (Str h.text true) given m (dial_of d') c') begins (forces_over n d c h.unit (Str h.text true) given m d' c' f);
      answers = e;
      found_memory = other;
    }

-- a value was given where the run came to its end
ended_ok : (s : StoreState) (d : DictId) (answer : Answer) (c : PsCore) (x : PsObj) → (forced_by (mark_of s.table) d model.FUNCTIONS answer c.operands c.store).0 ≡ Ok x → answer ≡ Ok tt
ended_ok s d (Ok tt) c x h = refl
ended_ok s d (Err f) c x h = absurd (let k = h in cc)

pub some_taken : (n : ℕ) (d : NoTarget) (c : PsCore) (u : DictId) (text x : PsObj) (m : ℕ) (d' : NoTarget) (c' : PsCore) → Forces Op' n d c u model.FUNCTIONS text (Ok x) m d' c' → m < n
some_taken n d c u text x m d' c' h =
    some_steps Op' bare_none n text d (apart c) m d' h.core
    (subst (λ a. RunsObject Op' n text d (apart c) a m d' h.core) (ended_ok c.store u h.answer h.core x h.given) h.runs)

-- ---- no answer is a link's fault

abbrev is_fault : PsFault → Answer
is_fault f = Err f

error_link : (n : ℕ) (e : PsError) → is_fault (fault_with n (Error e)) ≡ Err Link → ⊥
error_link zero e h = let k = h in cc
error_link (suc n) e h = let k = h in cc

with_link : (n : ℕ) (g : PsFault) → is_fault (fault_with n g) ≡ Err Link → is_fault g ≡ Err Link
with_link n (Error e) h = absurd (error_link n e h)
with_link zero Spent h = h
with_link (suc n) Spent h = h
with_link n Link h = refl
with_link zero NoMemory h = h
with_link (suc n) NoMemory h = h

defined_link : (d : Dial) (c : PsCore) (op n : ℕ) (r : Answer) (d' : Dial) (c' : PsCore) (k : ℕ) → model.NoTarget d c op n r d' c' k → r ≡ Err Link → ⊥
defined_link _ _ _ _ _ _ _ _ (model.acted d d' c c' op left e) h = let k = h in cc
defined_link _ _ _ _ _ _ _ _ (model.raised d c op left e a) h = let k = h in cc
defined_link _ _ _ _ _ _ _ _ (model.wanting d c op left) h = let k = h in cc

settled_link : (given : Answer) (c : PsCore) (answer : Answer) (c' : PsCore) → Settles given c answer c' → answer ≡ Err Link → given ≡ Err Link
settled_link (Ok x) c answer c' s h = absurd (let a = s.0 in cc)
settled_link (Err (Error e)) c (Ok x) c' s h = absurd (let a = h in cc)
settled_link (Err (Error e)) c (Err (Error f)) c' s h = absurd (let a = h in cc)
settled_link (Err (Error e)) c (Err Spent) c' s h = absurd s
settled_link (Err (Error e)) c (Err Link) c' s h = absurd s
settled_link (Err (Error e)) c (Err NoMemory) c' s h = absurd (let a = h in cc)
settled_link (Err Spent) c answer c' s h = absurd (let a = s.0 in cc)
settled_link (Err Link) c answer c' s h = refl
settled_link (Err NoMemory) c answer c' s h = absurd (let a = s.0 in cc)

asked_link : (d : NoTarget) (c : PsCore) (op n : ℕ) (answer : Answer) (d' : NoTarget) (c' : PsCore) (k : ℕ) → Asked Op' d c op n answer d' c' k → answer ≡ Err Link → ⊥
asked_link d c op n answer d' c' k a h =
    let given : a.given ≡ Err Link = settled_link a.given a.core answer c' a.settles h in
    defined_link (dial_of d) c op n a.given (dial_of d') a.core n (a.operates.1 (λ e. let k = e in let g = given in cc)) given

run_link : (n : ℕ) (d : NoTarget) (c : PsCore) (r : Answer) (m : ℕ) (d' : NoTarget) (c' : PsCore) → Runs Op' n d c r m d' c' → r ≡ Err Link → ⊥
run_link _ _ _ _ _ _ _ (runs.spent d c) h = let k = h in cc
run_link _ _ _ _ _ _ _ (runs.ended n d c c' s) h = let k = h in cc
run_link _ _ _ _ _ _ _ (runs.failed n d c c' x f s told) h = error_link n x (ap is_fault (sym told) ∙ h)
run_link _ _ _ _ _ _ _ (runs.next n m d d' c c₁ c' r s run) h = run_link n d c₁ r m d' c' run h
run_link _ _ _ _ _ _ _ (runs.asked n k m d d₁ d' c c₁ c₂ c' op r s a run) h = run_link k d₁ c₂ r m d' c' run h
run_link _ _ _ _ _ _ _ (runs.broken n k d d₁ c c₁ c₂ op g f s a told) h = asked_link d c₁ op n (Err g) d₁ c₂ k a (with_link k g (ap is_fault (sym told) ∙ h))

-- what is left is no fault of a link
left_link : (xs : List PsObj) → left_on xs ≡ Err Link → ⊥
left_link [] h = let k = h in cc
left_link (Str t true ∷ rest) h = let k = h in cc
left_link (Str t false ∷ rest) h = let k = h in cc
left_link (Int n ∷ rest) h = let k = h in cc
left_link (Truth b ∷ rest) h = let k = h in cc
left_link (Name t b ∷ rest) h = let k = h in cc
left_link (Array a b ∷ rest) h = let k = h in cc
left_link (Dict a ∷ rest) h = let k = h in cc
left_link (Op n ∷ rest) h = let k = h in cc
left_link (MarkObject ∷ rest) h = let k = h in cc
left_link (Null ∷ rest) h = let k = h in cc

module _ (s t : StoreState) (d : DictId) where
  placed_link : (x : PsObj) (o : Option PsObj) → (placing (mark_of s.table) d model.FUNCTIONS x o t).0 ≡ Err Link → ⊥
  placed_link x None k = let j = k in cc
  placed_link x (Some (Str t true)) k = let j = k in cc
  placed_link x (Some (Str t false)) k = let j = k in cc
  placed_link x (Some (Int n)) k = let j = k in cc
  placed_link x (Some (Truth b)) k = let j = k in cc
  placed_link x (Some (Name t b)) k = let j = k in cc
  placed_link x (Some (Array a b)) k = let j = k in cc
  placed_link x (Some (Dict a)) k = let j = k in cc
  placed_link x (Some (Op n)) k = let j = k in cc
  placed_link x (Some MarkObject) k = let j = k in cc
  placed_link x (Some Null) k = let j = k in cc

  placed_left : (l : Result PsObj PsFault) → (placing_left (mark_of s.table) d model.FUNCTIONS l t).0 ≡ Err Link → l ≡ Err Link
  placed_left (Ok x) k = absurd (placed_link x (value_at (entries_of t d) model.FUNCTIONS) k)
  placed_left (Err f) k = let j = k in cc

  ended_link : (answer : Answer) (xs : List PsObj) → (forced_by (mark_of s.table) d model.FUNCTIONS answer xs t).0 ≡ Err Link → answer ≡ Err Link
  ended_link (Err f) xs h = let k = h in cc
  ended_link (Ok tt) xs h = absurd (left_link xs (placed_left (left_on xs) h))

pub no_link : (n : ℕ) (d : NoTarget) (c : PsCore) (u : DictId) (text : PsObj) (m : ℕ) (d' : NoTarget) (c' : PsCore) → Forces Op' n d c u model.FUNCTIONS text (Err Link) m d' c' → ⊥
no_link n d c u text m d' c' h =
    let is : h.answer ≡ Err Link = ended_link c.store h.core.store u h.answer h.core.operands h.given in
    let run = h.runs (λ e. let a = is in cc) in
    run_link n d (with_execution (apart c) (Object text ∷ [])) h.answer m d' (with_execution h.core run.0) run.1 is

-- ---- a use of the functions of a unit

module _ (u n : ℕ) (c : PsCore) (old : NoTarget) (begins : old.cell ≡ 0) (d : DictId) (key : Key) (is_key : key ≡ model.FUNCTIONS) (found : deferred_unit c.store u ≡ Ok d) (given : Result PsObj PsFault) (m : ℕ)
    (new : NoTarget) (c' : PsCore) (uses : Uses Op' n old c d key (value_at (entries_of c.store d) key) given m new c') where
  -- the use, where the key is known
  used : Uses Op' n old c d model.FUNCTIONS (value_at (entries_of c.store d) model.FUNCTIONS) given m new c'
  used = subst (λ k. Uses Op' n old c d k (value_at (entries_of c.store d) k) given m new c') is_key uses

  text : HasText c.store d
  text = has_text c.store u d found

  forces : given ≢ Err NoMemory → Forces Op' n old c d model.FUNCTIONS (Str text.text true) given m new c'
  forces = subst (λ o. Uses Op' n old c d model.FUNCTIONS o given m new c') text.value used

  pub keeps_others : given ≢ Err NoMemory → c' ≡ record c { store = c'.store }
  keeps_others other =
      let h = forces other in
      h.after ∙ ap (λ t. record c { store = t }) (sym (ap (λ (x : PsCore). x.store) h.after))

  pub takes_some : (x : PsObj) → given ≡ Ok x → m < n
  takes_some x e = some_taken n old c d (Str text.text true) x m new c' (subst (λ r. Forces Op' n old c d model.FUNCTIONS (Str text.text true) r m new c') e (forces (λ k. let a = k in let b = e in cc)))

  pub never_linked : given ≡ Err Link → ⊥
  never_linked e = no_link n old c d (Str text.text true) m new c' (subst (λ r. Forces Op' n old c d model.FUNCTIONS (Str text.text true) r m new c') e (forces (λ k. let a = k in let b = e in cc)))

  pub forces_it : (answer : Answer) → answer ≡ model.answer_of given → IsDeferred c.store u → answer ≢ Err NoMemory → model.ForcesUnit u c n answer m c'
  forces_it answer e h other =
      let same : d ≡ h.unit = ok_is d h.unit (sym found ∙ deferred_is c.store u h) in
      let there : Stands c.store u h.unit (Str h.text true) = stands c.store u h.unit (Str h.text true) h.stands in
      let there_used = subst (λ i. Uses Op' n old c i model.FUNCTIONS (value_at (entries_of c.store i) model.FUNCTIONS) given m new c') same used in
      let there_forces : given ≢ Err NoMemory → Forces Op' n old c h.unit model.FUNCTIONS (Str h.text true) given m new c' = subst (λ o. Uses Op' n old c h.unit model.FUNCTIONS o given m new c') there.value there_used in
      forces_unit u c h n old given answer m new c' begins e other (there_forces (λ k. other (e ∙ ap model.answer_of k)))
