-- What operators do where there is no target.
use Rattle.std.proofs.Common.{◌≡◌, ℕ, ℤ, zero, suc, ◌≤◌, true, false, List, [], ◌∷◌, ◌++◌, drop, option_map, Option, Some, None, Result, Ok, Err, refl, sym, ap, ◌∙◌, subst, arith}
use Rattle.ldb_edge.specs.Count.{Rose}
use Rattle.ldb_words.specs.Word.{sum_of}
use Rattle.ldb_words.specs.declared.kinds.Kind.{Kind}
use Rattle.c_show.specs.Printed.{string_text}
use Rattle.ps_store.specs.StoreState.{StoreState}
use Rattle.ps_step.specs.declared.fault.PsError.{PsError}
use Rattle.ps_step.specs.declared.fault.PsError.TheVariants.{RangeCheck, Undefined}
use Rattle.ps_step.specs.declared.fault.PsFault.TheVariants.{Error, Spent, Link, NoMemory}
use Rattle.ps_step.specs.declared.machine.PsCore.{PsCore}
use Rattle.ps_step.specs.Results.{◌>>=◌}
use Rattle.ps_step.specs.State.{Made, with_operands}
use Rattle.ps_step.specs.Effects.{Does}
use Rattle.ps_run.specs.Runs.{Answer}
use Rattle.frame_bytes.specs.declared.frame.Space.{Space}
use Rattle.frame_bytes.specs.declared.frame.Space.TheVariants.{Memory, Registers, Immediate}
use Rattle.frame_bytes.specs.declared.frame.Place.{Place}
use Rattle.frame_bytes.specs.declared.frame.Frame.{Frame}
use Rattle.frame_bytes.specs.Bytes.{Bytes, no_bytes, fetched, stored}
use Rattle.abs_mem.specs.declared.memory.MemFault.TheVariants.{Outside, LinkFault, BadReply}
use Rattle.abs_mem.specs.Layers.{cell_seen, nothing_seen, CellTells}
use Rattle.ps_places.specs.declared.access.Trouble.{Trouble}
use Rattle.ps_places.specs.declared.access.Trouble.TheVariants.{Ps, Broken}
use Rattle.ps_words.specs.Operators.{integer}
use Rattle.ps_places.specs.Places as places
use Rattle.ps_places.specs.Accesses as accesses
use Rattle.ps_places.specs.Accesses.{Over}
use Rattle.ps_append.specs.Appending.{Appends, appending}
use Rattle.ps_append.specs.Characters.{AppendsChars, appending_chars, string_place, bytes_from}
use Rattle.ps_pointers.specs.Pointers as pointers
use Rattle.ps_leaves.specs.Leaves as leaves
use Rattle.ps_leaves.specs.Forms as forms
use Rattle.ps_leaves.specs.declared.leaves.Access.{Access}
use Rattle.ps_symbols.specs.Naming as names
use Rattle.table_model.specs.declared.found.Found.{Found}
use Rattle.dialect_model.specs.Dial.{Dial, Act, Acted, Raises, raised, with_bytes, frame_of}
use Rattle.dialect_model.specs.Acting.{with_state, with_told, with_text, space_bytes, found, found_behind}
use Rattle.dialect_model.specs.Operators.{act}
use Rattle.dialect_model.specs.Forcing as model
use Rattle.ps_bare.proofs.Acts.{acts_2, acts_5, acts_6, acts_7, acts_23, acts_24, acts_25, acts_26, acts_30, acts_31, acts_32, acts_past}
use Rattle.ps_bare.specs.Bare.{bare, ActsAlone, ActsBare, OperatesBare, quiet}

-- an operator on the state alone
pub did_alone : (n : ℕ) (d : Dial) (c c' : PsCore) (r : Answer) (made : Made) → act n d c ≡ with_state d made → Does r c c' made → ActsAlone n d c r c'
did_alone n d c c' (Ok x) made e h = e ∙ ap (with_state d) h
did_alone n d c c' (Err (Error f)) made e h = (e ∙ ap (with_state d) h.0, h.1)
did_alone n d c c' (Err NoMemory) made e h = tt
did_alone n d c c' (Err Spent) made e h = h
did_alone n d c c' (Err Link) made e h = h

pub alone_bare : (op cell : ℕ) (c : PsCore) (r : Answer) (c' : PsCore) → ActsAlone op (bare cell) c r c' → ActsBare op cell c r cell c'
alone_bare op cell c (Ok x) c' h = h
alone_bare op cell c (Err (Error f)) c' h = (h.0, refl, h.1)
alone_bare op cell c (Err NoMemory) c' h = tt
alone_bare op cell c (Err Spent) c' h = h
alone_bare op cell c (Err Link) c' h = h

pub did : (n cell : ℕ) (c c' : PsCore) (r : Answer) (made : Made) → act n (bare cell) c ≡ with_state (bare cell) made → Does r c c' made → ActsBare n cell c r cell c'
did n cell c c' r made e h = alone_bare n cell c r c' (did_alone n (bare cell) c c' r made e h)

pub at_number_alone : (n op : ℕ) (d : Dial) (c : PsCore) (r : Answer) (c' : PsCore) → op ≡ n → ActsAlone n d c r c' → ActsAlone op d c r c'
at_number_alone n op d c r c' e h = subst (λ o. ActsAlone o d c r c') (sym e) h

-- the number is known
pub at_number : (n op cell : ℕ) (c : PsCore) (r : Answer) (cell' : ℕ) (c' : PsCore) → op ≡ n → ActsBare n cell c r cell' c' → ActsBare op cell c r cell' c'
at_number n op cell c r cell' c' e h = subst (λ o. ActsBare o cell c r cell' c') (sym e) h

-- ---- what is looked up where there is no target

pub bytes_bare : (cell : ℕ) (s : StoreState) (space : Space) → space_bytes (bare cell) s space ≡ Ok (no_bytes cell)
bytes_bare cell s Memory = refl
bytes_bare cell s Registers = refl
bytes_bare cell s Immediate = refl

pub none_found : (cell : ℕ) (s : StoreState) (p : ℕ) → found (bare cell) s p ≡ Ok None
none_found cell s zero = refl
none_found cell s (suc p) = refl

-- ---- the memory of no target

told : (cell : ℕ) → CellTells nothing_seen cell (no_bytes cell) tt
told cell = record { cell_is = refl; below = record { regions = refl; registers = refl; cell = refl } }

no_rise : Rose 0 0 → ⊥
no_rise h = omega (arith, h.higher)

cell_of : (n m : ℕ) → Option.Some n ≡ Some m → m ≡ n
cell_of n m h = cc

pub over_bare : (n cell cell' : ℕ) (c c' : PsCore) (r : Result (Unit {0}) Trouble) (f : Bytes → PsCore → accesses.Act) → act n (bare cell) c ≡ with_told (bare cell) (f (no_bytes cell) c)
    → Over f (cell_seen cell nothing_seen) c r (cell_seen cell' nothing_seen) c' → ActsBare n cell c (quiet r) cell' c'
over_bare n cell cell' c c' (Ok x) f e h =
    let t = h.1 (no_bytes cell) tt (told cell) in
    e ∙ ap (with_told (bare cell)) t.2 ∙ ap (λ w. Ok (with_bytes (record t.0 { cell = w }) (bare cell), c')) t.1.cell_is
over_bare n cell cell' c c' (Err (Ps (Error g))) f e h =
    (e ∙ ap (with_told (bare cell)) (h.2 (no_bytes cell) tt (told cell)), cell_of cell cell' (let k = h.0.keeps (no_bytes cell) tt (told cell) in k.cell_is), h.1)
over_bare n cell cell' c c' (Err (Ps NoMemory)) f e h = tt
over_bare n cell cell' c c' (Err (Ps Spent)) f e h = h
over_bare n cell cell' c c' (Err (Ps Link)) f e h = h
over_bare n cell cell' c c' (Err (Broken LinkFault)) f e h = no_rise h
over_bare n cell cell' c c' (Err (Broken (BadReply frame))) f e h = h.never (no_bytes cell) tt (told cell)
over_bare n cell cell' c c' (Err (Broken (Outside p))) f e h = h

-- ---- text that is dropped

pub dropped_text : (n cell : ℕ) (c c' : PsCore) (r : Answer) (k : ℕ) (given : Result (List ℕ) PsError) (out out' : List ℕ) → act n (bare cell) c ≡ with_text (bare cell) (appending k given [] c) → out ≡ []
    → Appends k given out c r out' c' → ActsBare n cell c r cell c'
dropped_text n cell c c' (Ok x) k given out out' e z h = e ∙ ap (with_text (bare cell)) (ap (λ o. appending k given o c) (sym z) ∙ h)
dropped_text n cell c c' (Err (Error f)) k given out out' e z h = (e ∙ ap (with_text (bare cell)) (ap (λ g. appending k g [] c) h.0), refl, h.2)
dropped_text n cell c c' (Err NoMemory) k given out out' e z h = tt
dropped_text n cell c c' (Err Spent) k given out out' e z h = h
dropped_text n cell c c' (Err Link) k given out out' e z h = h

pub dropped_chars : (n cell cell' : ℕ) (c c' : PsCore) (r : Result (Unit {0}) Trouble) (out out' : List ℕ) → act n (bare cell) c ≡ with_text (bare cell) (appending_chars [] (no_bytes cell) c) → out ≡ []
    → AppendsChars out (cell_seen cell nothing_seen) c r out' (cell_seen cell' nothing_seen) c' → ActsBare n cell c (quiet r) cell' c'
dropped_chars n cell cell' c c' (Ok x) out out' e z h =
    let same : cell' ≡ cell = cell_of cell cell' (let k = h.0.keeps (no_bytes cell) tt (told cell) in k.cell_is) in
    e ∙ ap (with_text (bare cell)) (ap (λ o. appending_chars o (no_bytes cell) c) (sym z) ∙ h.1 (no_bytes cell) tt (told cell)) ∙ ap (λ w. Ok (bare w, c')) (sym same)
dropped_chars n cell cell' c c' (Err (Ps (Error g))) out out' e z h = (
  e ∙ ap (with_text (bare cell)) (ap (λ o. appending_chars o (no_bytes cell) c) (sym z) ∙ h.3 (no_bytes cell) tt (told cell)),
  cell_of cell cell' (let k = h.0.keeps (no_bytes cell) tt (told cell) in k.cell_is),
  h.2,
)
dropped_chars n cell cell' c c' (Err (Ps NoMemory)) out out' e z h = tt
dropped_chars n cell cell' c c' (Err (Ps Spent)) out out' e z h = h
dropped_chars n cell cell' c c' (Err (Ps Link)) out out' e z h = h
dropped_chars n cell cell' c c' (Err (Broken LinkFault)) out out' e z h = no_rise h
dropped_chars n cell cell' c c' (Err (Broken (BadReply frame))) out out' e z h = h.never (no_bytes cell) tt (told cell)
dropped_chars n cell cell' c c' (Err (Broken (Outside p))) out out' e z h = h

-- ---- the definitions by what is given

-- what is asked for first is asked for again by what leaves the result
asked_again : {A B C : Type 0} (asked : Result A PsError) (known : C) (look : A → Acted C) (f : C → A → Result B PsError) (g : Result B PsError → Act)
    → ((a : A) → look a ≡ Ok known) → ((e : PsError) → g (Err e) ≡ Err (Raises e)) → (raised asked >>= λ a. look a >>= λ x. g (asked >>= f x)) ≡ g (asked >>= f known)
asked_again (Ok a) known look f g h k = ap (λ m. m >>= λ x. g (f x a)) (h a)
asked_again (Err e) known look f g h k = sym (k e)

then_err : {A : Type 0} (m : Result A PsError) (f : A → Act) (e : PsError) → m ≡ Err e → (raised m >>= f) ≡ Err (Raises e)
then_err m f e h = ap (λ m. raised m >>= f) h

then_ok : {A : Type 0} (m : Result A PsError) (f : A → Act) (a : A) → m ≡ Ok a → (raised m >>= f) ≡ f a
then_ok m f a h = ap (λ m. raised m >>= f) h

module _ (cell : ℕ) (c : PsCore) where
  -- an operator raised an error of its operands
  pub failed : (n : ℕ) (e : PsError) → act n (bare cell) c ≡ Err (Raises e) → ActsBare n cell c (Err (Error e)) cell c
  failed n e h = (h, refl, refl)

  pub local_bare : act 2 (bare cell) c ≡ with_state (bare cell) (places.placing_local None c)
  local_bare =
      acts_2 (bare cell) c
      ∙ asked_again (places.top_word c) None (λ n. frame_of (bare cell) c.store) (λ (f : Option Frame) n. places.base_of (option_map (λ (f : Frame). f.base) f) >>= λ b. places.placing Memory (sum_of b n) c)
      (with_state (bare cell)) (λ a. refl) (λ e. refl)

  pub where_bare : (name : List ℕ) → names.top_name c ≡ Ok name → act 5 (bare cell) c ≡ Err (Raises RangeCheck)
  where_bare name h = acts_5 (bare cell) c ∙ then_ok (names.top_name c) _ name h

  pub where_unnamed : (e : PsError) → names.top_name c ≡ Err e → act 5 (bare cell) c ≡ Err (Raises e)
  where_unnamed e h = acts_5 (bare cell) c ∙ then_err (names.top_name c) _ e h

  pub fetch_bare : act 6 (bare cell) c ≡ with_told (bare cell) (accesses.fetching (no_bytes cell) c)
  fetch_bare =
      acts_6 (bare cell) c
      ∙ asked_again (accesses.fetch_of c) (no_bytes cell) (λ (a : Place × Kind). space_bytes (bare cell) c.store a.0.space)
      (λ (b : Bytes) (a : Place × Kind). accesses.or_outside (fetched b a.0.space a.0.at a.1) >>= λ v. Ok (b, with_operands c (accesses.value_of a.1 v ∷ drop 3 c.operands)))
      (with_told (bare cell)) (λ a. bytes_bare cell c.store a.0.space) (λ e. refl)

  pub store_bare : act 7 (bare cell) c ≡ with_told (bare cell) (accesses.storing false (no_bytes cell) c)
  store_bare =
      acts_7 (bare cell) c
      ∙ asked_again (accesses.store_of false c) (no_bytes cell) (λ (a : Place × Kind × ℕ). space_bytes (bare cell) c.store a.0.space)
      (λ (b : Bytes) (a : Place × Kind × ℕ). accesses.or_outside (stored b a.0.space a.0.at a.1 a.2) >>= λ b'. Ok (b', with_operands c (drop 4 c.operands)))
      (with_told (bare cell)) (λ a. bytes_bare cell c.store a.0.space) (λ e. refl)

  pub sum_bare : (t : ℕ × ℤ × ℤ) → pointers.sum_operands c ≡ Ok t → act 23 (bare cell) c ≡ with_state (bare cell) (pointers.leaving_sum None t.1 t.2 c)
  sum_bare t h = acts_23 (bare cell) c ∙ then_ok (pointers.sum_operands c) _ t h ∙ ap (λ m. m >>= λ o. with_state (bare cell) (pointers.leaving_sum o t.1 t.2 c)) (none_found cell c.store t.0)

  pub sum_failed : (e : PsError) → pointers.sum_operands c ≡ Err e → act 23 (bare cell) c ≡ Err (Raises e)
  sum_failed e h = acts_23 (bare cell) c ∙ then_err (pointers.sum_operands c) _ e h

  pub difference_bare : (t : ℕ × ℕ × ℤ) → pointers.difference_operands c ≡ Ok t → act 24 (bare cell) c ≡ with_state (bare cell) (pointers.leaving_difference None None t.2 c)
  difference_bare t h =
      acts_24 (bare cell) c ∙ then_ok (pointers.difference_operands c) _ t h
      ∙ ap (λ m. m >>= λ o. found_behind o (bare cell) c.store t.1 >>= λ other. with_state (bare cell) (pointers.leaving_difference o other t.2 c)) (none_found cell c.store t.0)

  pub comparison_bare : (t : ℕ × ℕ) → pointers.comparison_operands c ≡ Ok t → act 25 (bare cell) c ≡ with_state (bare cell) (pointers.leaving_order None None c)
  comparison_bare t h =
      acts_25 (bare cell) c ∙ then_ok (pointers.comparison_operands c) _ t h
      ∙ ap (λ m. m >>= λ o. found_behind o (bare cell) c.store t.1 >>= λ other. with_state (bare cell) (pointers.leaving_order o other c)) (none_found cell c.store t.0)

  pub difference_failed : (e : PsError) → pointers.difference_operands c ≡ Err e → act 24 (bare cell) c ≡ Err (Raises e)
  difference_failed e h = acts_24 (bare cell) c ∙ then_err (pointers.difference_operands c) _ e h

  pub comparison_failed : (e : PsError) → pointers.comparison_operands c ≡ Err e → act 25 (bare cell) c ≡ Err (Raises e)
  comparison_failed e h = acts_25 (bare cell) c ∙ then_err (pointers.comparison_operands c) _ e h

  pub run_failed : (e : PsError) → places.top_word c ≡ Err e → act 32 (bare cell) c ≡ Err (Raises e)
  run_failed e h = acts_32 (bare cell) c ∙ then_err (places.top_word c) _ e h

  pub run_bare : (p : ℕ) → places.top_word c ≡ Ok p → act 32 (bare cell) c ≡ with_state (bare cell) (leaves.leaving_run None c)
  run_bare p h = acts_32 (bare cell) c ∙ then_ok (places.top_word c) _ p h ∙ ap (λ m. m >>= λ o. with_state (bare cell) (leaves.leaving_run o c)) (none_found cell c.store p)

  pub leaf_bare : act 26 (bare cell) c ≡ with_state (bare cell) (leaves.leaving_leaf None c)
  leaf_bare =
      acts_26 (bare cell) c
      ∙ asked_again (leaves.leaf_operands c) None (λ (a : ℕ × Access). found (bare cell) c.store a.0)
      (λ (o : Option Found) (a : ℕ × Access). leaves.need_live c.store o a.1 >>= λ u. Ok (with_operands c (integer a.0 ∷ places.space_name Memory ∷ drop 2 c.operands)))
      (with_state (bare cell)) (λ a. none_found cell c.store a.0) (λ e. refl)

  pub pointer_bare : act 30 (bare cell) c ≡ with_text (bare cell) (appending 1 (forms.pointer_text_of None c) [] c)
  pointer_bare =
      acts_30 (bare cell) c
      ∙ asked_again (places.top_word c) None (λ p. found (bare cell) c.store p) (λ (o : Option Found) p. Ok (forms.pointer_text c.store p o))
      (λ given. with_text (bare cell) (appending 1 given [] c)) (λ p. none_found cell c.store p) (λ e. refl)

  pub chars_bare : act 31 (bare cell) c ≡ with_text (bare cell) (appending_chars [] (no_bytes cell) c)
  chars_bare =
      acts_31 (bare cell) c
      ∙ asked_again (string_place c) (no_bytes cell) (λ (a : Place × ℕ). space_bytes (bare cell) c.store a.0.space)
      (λ (b : Bytes) (a : Place × ℕ). bytes_from a.1 b a.0 >>= λ bs. Ok ([] ++ string_text bs, with_operands c (drop 3 c.operands)))
      (with_text (bare cell)) (λ a. bytes_bare cell c.store a.0.space) (λ e. refl)

-- ---- the operators by their numbers

pub words_bare : (op cell : ℕ) (c : PsCore) (r : Answer) (c' : PsCore) → ((d : Dial) → ActsAlone op d c r c') → ActsBare op cell c r cell c'
words_bare op cell c r c' h = alone_bare op cell c r c' (h (bare cell))

pub past_bare : (op cell : ℕ) (c : PsCore) → 33 ≤ op → ActsBare op cell c (Err (Error Undefined)) cell c
past_bare op cell c h = (acts_past (bare cell) c op h, refl, refl)

-- ---- what a dialect's operator does

pub operated : (op left cell : ℕ) (c : PsCore) (r : Answer) (cell' : ℕ) (c' : PsCore) → ActsBare op cell c r cell' c' → OperatesBare cell c op left r cell' c' left
operated op left cell c r cell' c' h = (refl, λ other. known r other h)
  where
    known : (r : Answer) → (r ≡ Err NoMemory → ⊥) → ActsBare op cell c r cell' c' → model.NoTarget (bare cell) c op left r (bare cell') c' left
    known (Ok x) other h = model.acted (bare cell) (bare cell') c c' op left h
    known (Err (Error e)) other h =
        subst (λ k. model.NoTarget (bare cell) c op left (Err (Error e)) (bare cell') k left) (sym h.2)
        (subst (λ w. model.NoTarget (bare cell) c op left (Err (Error e)) (bare w) c left) (sym h.1) (model.raised (bare cell) c op left e h.0))
    known (Err NoMemory) other h = absurd (other refl)
    known (Err Spent) other h = absurd h
    known (Err Link) other h = absurd h

pub never_spent : (op cell : ℕ) (c : PsCore) (r : Answer) (cell' : ℕ) (c' : PsCore) → ActsBare op cell c r cell' c' → r ≡ Err Spent → ⊥
never_spent op cell c (Ok x) cell' c' h e = let k = e in cc
never_spent op cell c (Err (Error f)) cell' c' h e = let k = e in cc
never_spent op cell c (Err NoMemory) cell' c' h e = let k = e in cc
never_spent op cell c (Err Spent) cell' c' h e = h
never_spent op cell c (Err Link) cell' c' h e = let k = e in cc
