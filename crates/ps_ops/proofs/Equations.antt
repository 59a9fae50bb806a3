-- What operators make of a dial, by what is looked up in its memory.
use Rattle.std.proofs.Common.{◌≡◌, ℕ, ℤ, zero, suc, true, List, Option, Some, None, Result, Ok, Err, refl, ap, ◌∙◌, option_map}
use Rattle.machine_state.specs.Regions.{Regions}
use Rattle.ps_store.specs.declared.object.DictId.{DictId}
use Rattle.ps_store.specs.StoreState.{StoreState}
use Rattle.ps_step.specs.declared.fault.PsError.{PsError}
use Rattle.ps_step.specs.declared.machine.PsCore.{PsCore}
use Rattle.ps_step.specs.Results.{◌>>=◌}
use Rattle.frame_bytes.specs.declared.frame.Frame.{Frame}
use Rattle.frame_bytes.specs.declared.frame.Space.{Space}
use Rattle.frame_bytes.specs.declared.frame.Space.TheVariants.{Memory, Registers, Immediate}
use Rattle.frame_bytes.specs.declared.frame.Place.{Place}
use Rattle.frame_bytes.specs.Bytes.{Bytes}
use Rattle.ldb_words.specs.declared.kinds.Kind.{Kind}
use Rattle.table_model.specs.declared.found.Found.{Found}
use Rattle.table_model.specs.Symbols as symbols
use Rattle.ps_places.specs.Places as places
use Rattle.ps_places.specs.Accesses as accesses
use Rattle.ps_append.specs.Appending.{appending}
use Rattle.ps_append.specs.Characters.{string_place, appending_chars}
use Rattle.ps_pointers.specs.Pointers as pointers
use Rattle.ps_leaves.specs.Leaves as leaves
use Rattle.ps_leaves.specs.Forms as forms
use Rattle.ps_leaves.specs.declared.leaves.Access.{Access}
use Rattle.ps_symbols.specs.Naming as names
use Rattle.dialect_model.specs.Dial.{Dial, Act, Acted, Raises, raised, looked, frame_of, scope_of, bytes_in}
use Rattle.dialect_model.specs.Acting.{with_state, with_told, with_text, space_bytes, found, found_behind}
use Rattle.dialect_model.specs.Operators.{act}
use Rattle.ps_bare.proofs.Acts.{acts_2, acts_4, acts_5, acts_6, acts_7, acts_23, acts_24, acts_25, acts_26, acts_30, acts_31, acts_32}
use Rattle.ps_ops.specs.declared.view.View.{View}
use Rattle.ps_ops.specs.declared.view.Standing.{Standing}
use Rattle.ps_ops.specs.declared.view.Standing.TheVariants as standing
use Rattle.ps_ops.specs.Desk.{Desk, dial_of, memory_of}
use Rattle.ps_ops.specs.Asking as asking

pub then_err : {A : Type 0} (m : Result A PsError) (f : A → Act) (e : PsError) → m ≡ Err e → (raised m >>= f) ≡ Err (Raises e)
then_err m f e h = ap (λ m. raised m >>= f) h

pub then_ok : {A : Type 0} (m : Result A PsError) (f : A → Act) (a : A) → m ≡ Ok a → (raised m >>= f) ≡ f a
then_ok m f a h = ap (λ m. raised m >>= f) h

by_ok : {A B : Type 0} (m : Acted A) (f : A → B) (g : B → Act) → ((m >>= λ x. Ok (f x)) >>= g) ≡ (m >>= λ x. g (f x))
by_ok (Ok x) f g = refl
by_ok (Err h) f g = refl

-- one result behind another
abbrev given : {A B : Type 0} → A → Acted B → Acted (A × B)
given x w = w >>= λ y. Ok (x, y)

abbrev paired : {A B : Type 0} → Acted A → (A → Acted B) → Acted (A × B)
paired m n = m >>= λ x. given x (n x)

both_given : {A B : Type 0} (x : A) (w : Acted B) (g : A → B → Act) → (w >>= g x) ≡ (given x w >>= λ (p : A × B). g p.0 p.1)
both_given x (Ok y) g = refl
both_given x (Err h) g = refl

both : {A B : Type 0} (m : Acted A) (n : A → Acted B) (g : A → B → Act) → (m >>= λ x. n x >>= g x) ≡ (paired m n >>= λ (p : A × B). g p.0 p.1)
both (Err h) n g = refl
both (Ok x) n g = both_given x (n x) g

-- ---- what is looked up

frame_on : (st : Standing) (v : View) (k : Desk) (rg : Regions) (t : StoreState) → frame_of (dial_of (record k { view = record v { standing = st } }) rg) t
    ≡ asking.frame_by (record v { standing = st }) t (memory_of (record k { view = record v { standing = st } }) rg)
frame_on standing.NoFrame v k rg t = refl
frame_on (standing.InFrame f scope) v k rg t = refl
frame_on (standing.Numbered n) v k rg t = refl

by_frame : (m : Acted (Option Frame)) (g : Frame → Acted (Option DictId)) → (m >>= asking.or_no_frame >>= g) ≡ (m >>= λ o. asking.or_no_frame o >>= g)
by_frame (Ok o) g = refl
by_frame (Err h) g = refl

scope_on : (st : Standing) (v : View) (k : Desk) (rg : Regions) (t : StoreState) → scope_of (dial_of (record k { view = record v { standing = st } }) rg) t
    ≡ asking.scope_by (record v { standing = st }) t (memory_of (record k { view = record v { standing = st } }) rg)
scope_on standing.NoFrame v k rg t = refl
scope_on (standing.InFrame f scope) v k rg t = refl
scope_on (standing.Numbered n) v k rg t =
    by_frame (asking.frame_by (record v { standing = standing.Numbered n }) t (memory_of (record k { view = record v { standing = standing.Numbered n } }) rg)) (λ f. looked (symbols.scope_of t n f))

module _ (k : Desk) (rg : Regions) where
  pub frame_is : (t : StoreState) → frame_of (dial_of k rg) t ≡ asking.frame_by k.view t (memory_of k rg)
  frame_is t = frame_on k.view.standing k.view k rg t

  scope_is : (t : StoreState) → scope_of (dial_of k rg) t ≡ asking.scope_by k.view t (memory_of k rg)
  scope_is t = scope_on k.view.standing k.view k rg t

  pub found_is : (t : StoreState) (p : ℕ) → found (dial_of k rg) t p ≡ asking.found_by k.view t (memory_of k rg) p
  found_is t zero = refl
  found_is t (suc p) = refl

  pub behind_is : (t : StoreState) (o : Option Found) (p : ℕ) → found_behind o (dial_of k rg) t p ≡ asking.found_behind k.view t (memory_of k rg) o p
  behind_is t None p = refl
  behind_is t (Some o) p = found_is t p

  bytes_are : (t : StoreState) (space : Space) → space_bytes (dial_of k rg) t space ≡ (asking.frame_for k.view t (memory_of k rg) space >>= λ f. Ok (bytes_in (dial_of k rg) f))
  bytes_are t Memory = refl
  bytes_are t Immediate = refl
  bytes_are t Registers = ap (λ m. m >>= λ f. Ok (bytes_in (dial_of k rg) f)) (frame_is t)

  pub by_space : (t : StoreState) (space : Space) (g : Bytes → Act) → (space_bytes (dial_of k rg) t space >>= g) ≡ (asking.frame_for k.view t (memory_of k rg) space >>= λ f. g (bytes_in (dial_of k rg) f))
  by_space t space g = ap (λ m. m >>= g) (bytes_are t space) ∙ by_ok (asking.frame_for k.view t (memory_of k rg) space) (bytes_in (dial_of k rg)) g

  -- ---- operators whose operands are known

  module _ (c : PsCore) where
    pub local_is : (n : ℕ) → places.top_word c ≡ Ok n
        → act 2 (dial_of k rg) c ≡ (asking.frame_by k.view c.store (memory_of k rg) >>= λ f. with_state (dial_of k rg) (places.placing_local (option_map (λ (f : Frame). f.base) f) c))
    local_is n h = acts_2 (dial_of k rg) c ∙ then_ok (places.top_word c) _ n h ∙ ap (λ m. m >>= λ f. with_state (dial_of k rg) (places.placing_local (option_map (λ (f : Frame). f.base) f) c)) (frame_is c.store)

    pub value_is : act 4 (dial_of k rg) c ≡ with_told (dial_of k rg) (accesses.placing_value (bytes_in (dial_of k rg) None) c)
    value_is = acts_4 (dial_of k rg) c

    pub where_is : (name : List ℕ) → names.top_name c ≡ Ok name
        → act 5 (dial_of k rg) c ≡ (asking.scope_by k.view c.store (memory_of k rg) >>= λ scope. with_state (dial_of k rg) (names.locating scope c))
    where_is name h = acts_5 (dial_of k rg) c ∙ then_ok (names.top_name c) _ name h ∙ ap (λ m. m >>= λ scope. with_state (dial_of k rg) (names.locating scope c)) (scope_is c.store)

    pub fetch_is : (a : Place × Kind) → accesses.fetch_of c ≡ Ok a
        → act 6 (dial_of k rg) c ≡ (asking.frame_for k.view c.store (memory_of k rg) a.0.space >>= λ f. with_told (dial_of k rg) (accesses.fetching (bytes_in (dial_of k rg) f) c))
    fetch_is a h = acts_6 (dial_of k rg) c ∙ then_ok (accesses.fetch_of c) _ a h ∙ by_space c.store a.0.space (λ b. with_told (dial_of k rg) (accesses.fetching b c))

    pub store_is : (a : Place × Kind × ℕ) → accesses.store_of k.view.raw c ≡ Ok a
        → act 7 (dial_of k rg) c ≡ (asking.frame_for k.view c.store (memory_of k rg) a.0.space >>= λ f. with_told (dial_of k rg) (accesses.storing k.view.raw (bytes_in (dial_of k rg) f) c))
    store_is a h = acts_7 (dial_of k rg) c ∙ then_ok (accesses.store_of k.view.raw c) _ a h ∙ by_space c.store a.0.space (λ b. with_told (dial_of k rg) (accesses.storing k.view.raw b c))

    pub chars_are : (a : Place × ℕ) → string_place c ≡ Ok a
        → act 31 (dial_of k rg) c ≡ (asking.frame_for k.view c.store (memory_of k rg) a.0.space >>= λ f. with_text (dial_of k rg) (appending_chars k.out (bytes_in (dial_of k rg) f) c))
    chars_are a h = acts_31 (dial_of k rg) c ∙ then_ok (string_place c) _ a h ∙ by_space c.store a.0.space (λ b. with_text (dial_of k rg) (appending_chars k.out b c))

    pub sum_is : (t : ℕ × ℤ × ℤ) → pointers.sum_operands c ≡ Ok t
        → act 23 (dial_of k rg) c ≡ (asking.found_by k.view c.store (memory_of k rg) t.0 >>= λ o. with_state (dial_of k rg) (pointers.leaving_sum o t.1 t.2 c))
    sum_is t h = acts_23 (dial_of k rg) c ∙ then_ok (pointers.sum_operands c) _ t h ∙ ap (λ m. m >>= λ o. with_state (dial_of k rg) (pointers.leaving_sum o t.1 t.2 c)) (found_is c.store t.0)

    pub leaf_is : (a : ℕ × Access) → leaves.leaf_operands c ≡ Ok a
        → act 26 (dial_of k rg) c ≡ (asking.found_by k.view c.store (memory_of k rg) a.0 >>= λ o. with_state (dial_of k rg) (leaves.leaving_leaf o c))
    leaf_is a h = acts_26 (dial_of k rg) c ∙ then_ok (leaves.leaf_operands c) _ a h ∙ ap (λ m. m >>= λ o. with_state (dial_of k rg) (leaves.leaving_leaf o c)) (found_is c.store a.0)

    pub run_is : (p : ℕ) → places.top_word c ≡ Ok p
        → act 32 (dial_of k rg) c ≡ (asking.found_by k.view c.store (memory_of k rg) p >>= λ o. with_state (dial_of k rg) (leaves.leaving_run o c))
    run_is p h = acts_32 (dial_of k rg) c ∙ then_ok (places.top_word c) _ p h ∙ ap (λ m. m >>= λ o. with_state (dial_of k rg) (leaves.leaving_run o c)) (found_is c.store p)

    pub pointer_is : (p : ℕ) → places.top_word c ≡ Ok p
        → act 30 (dial_of k rg) c ≡ (asking.found_by k.view c.store (memory_of k rg) p >>= λ o. with_text (dial_of k rg) (appending 1 (forms.pointer_text_of o c) k.out c))
    pointer_is p h = acts_30 (dial_of k rg) c ∙ then_ok (places.top_word c) _ p h ∙ ap (λ m. m >>= λ o. with_text (dial_of k rg) (appending 1 (forms.pointer_text_of o c) k.out c)) (found_is c.store p)

    two_found : (p q : ℕ) (g : Option Found → Option Found → Act)
        → (found (dial_of k rg) c.store p >>= λ o. found_behind o (dial_of k rg) c.store q >>= g o) ≡ (asking.found_two k.view c.store (memory_of k rg) p q >>= λ x. g x.0 x.1)
    two_found p q g =
        ap (λ m. m >>= λ o. found_behind o (dial_of k rg) c.store q >>= g o) (found_is c.store p)
        ∙ second (asking.found_by k.view c.store (memory_of k rg) p)
        ∙ both (asking.found_by k.view c.store (memory_of k rg) p) (λ o. asking.found_behind k.view c.store (memory_of k rg) o q) g
      where
        second : (m : Acted (Option Found)) → (m >>= λ o. found_behind o (dial_of k rg) c.store q >>= g o) ≡ (m >>= λ o. asking.found_behind k.view c.store (memory_of k rg) o q >>= g o)
        second (Ok o) = ap (λ m. m >>= g o) (behind_is c.store o q)
        second (Err h) = refl

    pub difference_is : (t : ℕ × ℕ × ℤ) → pointers.difference_operands c ≡ Ok t
        → act 24 (dial_of k rg) c ≡ (asking.found_two k.view c.store (memory_of k rg) t.0 t.1 >>= λ x. with_state (dial_of k rg) (pointers.leaving_difference x.0 x.1 t.2 c))
    difference_is t h = acts_24 (dial_of k rg) c ∙ then_ok (pointers.difference_operands c) _ t h ∙ two_found t.0 t.1 (λ o other. with_state (dial_of k rg) (pointers.leaving_difference o other t.2 c))

    pub comparison_is : (t : ℕ × ℕ) → pointers.comparison_operands c ≡ Ok t
        → act 25 (dial_of k rg) c ≡ (asking.found_two k.view c.store (memory_of k rg) t.0 t.1 >>= λ x. with_state (dial_of k rg) (pointers.leaving_order x.0 x.1 c))
    comparison_is t h = acts_25 (dial_of k rg) c ∙ then_ok (pointers.comparison_operands c) _ t h ∙ two_found t.0 t.1 (λ o other. with_state (dial_of k rg) (pointers.leaving_order o other c))
