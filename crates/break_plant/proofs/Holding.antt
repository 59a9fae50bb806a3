-- A word that can't be written is not held.
use Rattle.std.proofs.Common.{◌≡◌, ◌∙◌, refl, sym, ap, subst, ℕ, ◌+◌, ◌%◌, nat_eq, Bool, true, false, if◌then◌else◌, List, [], ◌∷◌, length, Option, Some, None, option_map, Result, Ok, Err}
use Rattle.ldb_words.specs.declared.kinds.Order.{Order}
use Rattle.ldb_words.specs.declared.kinds.Order.TheVariants.{Little, Big}
use Rattle.ldb_words.specs.declared.kinds.Kind.TheVariants.{Word}
use Rattle.ldb_words.specs.declared.event.Outside.{Outside}
use Rattle.machine_state.specs.declared.layout.TheConstants.{TEXT, DATA, STACK, CONTEXT}
use Rattle.machine_state.specs.Regions.{Regions, read_of, write_of, held, readable, overlaid, or_else, or_outside, bytes_from, offset_in, number_of, bytes_of, with_text, with_data, with_stack, with_context}
use Rattle.frame_bytes.specs.declared.frame.Space.TheVariants.{Memory}
use Rattle.frame_bytes.specs.Bytes.{Bytes, fetched, stored, or_none}
use Rattle.break_plant.specs.Planted.{word_at}

none_first : {T : Type 0} (x y : Option T) → or_else x y ≡ None → x ≡ None
none_first None y e = refl
none_first (Some t) y e = cc

none_second : {T : Type 0} (x y : Option T) → or_else x y ≡ None → y ≡ None
none_second None y e = e
none_second (Some t) y e = cc

none_both : {T : Type 0} (x y : Option T) → x ≡ None → y ≡ None → or_else x y ≡ None
none_both x y e f = rw e f

no_bytes : (g : ℕ → Regions) (l : List ℕ) (o : Option ℕ) → option_map g o ≡ None → bytes_from l o ≡ None
no_bytes g l None e = refl
no_bytes g l (Some n) e = cc

-- where bytes of a length can't be put, none of that length are held
held_none : (r : Regions) (at : ℕ) (ys : List ℕ) → overlaid r at ys ≡ None → held r at (length ys) ≡ None
unfolding overlaid held readable
held_none r at ys e =
    let text = offset_in TEXT (length r.text_bytes) at (length ys) in
    let statics = offset_in DATA (length r.data_bytes) at (length ys) in
    let stack = offset_in STACK (length r.stack_bytes) at (length ys) in
    let context = offset_in CONTEXT (length r.context_bytes) at (length ys) in
    let a = option_map (with_text r ys) text in
    let b = option_map (with_data r ys) statics in
    let c = option_map (with_stack r ys) stack in
    let d = option_map (with_context r ys) context in
    let behind = none_second a (or_else b (or_else c d)) e in
    let last = none_second b (or_else c d) behind in
    none_both (or_else (bytes_from r.text_bytes text) (or_else (bytes_from r.data_bytes statics) (bytes_from r.stack_bytes stack))) (bytes_from r.context_bytes context)
    (none_both (bytes_from r.text_bytes text) (or_else (bytes_from r.data_bytes statics) (bytes_from r.stack_bytes stack))
    (no_bytes (with_text r ys) r.text_bytes text (none_first a (or_else b (or_else c d)) e))
    (none_both (bytes_from r.data_bytes statics) (bytes_from r.stack_bytes stack)
    (no_bytes (with_data r ys) r.data_bytes statics (none_first b (or_else c d) behind))
    (no_bytes (with_stack r ys) r.stack_bytes stack (none_first c d last))))
    (no_bytes (with_context r ys) r.context_bytes context (none_second c d last))

four_bytes : (o : Order) (v : ℕ) → length (bytes_of o 4 v) ≡ 4
four_bytes Little v = refl
four_bytes Big v = refl

aligned_none : {A B : Type 0} (b : Bool) (x : A) (y : Option B) (g : A → B) (z : B) → or_none (if b then Ok x else Err (record {})) ≡ None → or_none (if b then Ok z else Err (record {})) ≡ None
aligned_none true x y g z e = cc
aligned_none false x y g z e = refl

outside_both : {A B : Type 0} (at : ℕ) (o : Option A) (q : Option B) → (o ≡ None → q ≡ None) → or_none (or_outside at 4 o) ≡ None → or_none (or_outside at 4 q) ≡ None
outside_both at None q h e = ap (λ y. or_none (or_outside at 4 y)) (h refl)
outside_both at (Some x) None h e = refl
outside_both at (Some x) (Some y) h e = aligned_none (nat_eq (at % 4) 0) x (Some y) (λ z. y) y e

mapped_none : {A B : Type 0} (f : A → B) (o : Option A) → o ≡ None → option_map f o ≡ None
mapped_none f o e = ap (option_map f) e

put_none : (b : Bytes) (o : Option Regions) → elim o as (λ x. Option Bytes) [ None ↦ None | Some r ↦ Some (record b { regions = r }) ] ≡ None → o ≡ None
put_none b None e = refl
put_none b (Some r) e = cc

-- a word that can't be stored can't be fetched
pub word_none : (b : Bytes) (at v : ℕ) → stored b Memory at Word v ≡ None → word_at b at ≡ None
unfolding stored fetched read_of write_of
word_none b at v e =
    outside_both at (overlaid b.regions at (bytes_of b.order 4 v)) (option_map (number_of b.order 4) (held b.regions at 4))
    (λ n. mapped_none (number_of b.order 4) (held b.regions at 4) (subst (λ (k : ℕ). held b.regions at k ≡ None) (four_bytes b.order v) (held_none b.regions at (bytes_of b.order 4 v) n)))
    (put_none b (or_none (or_outside at 4 (overlaid b.regions at (bytes_of b.order 4 v)))) e)
