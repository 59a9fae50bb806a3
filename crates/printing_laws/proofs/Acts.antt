-- The dialect's operators leave the store as it is.
use Rattle.std.proofs.Common.{◌≡◌, refl, subst, ℕ, zero, suc, nat_lt, is_some, option_map, None, Result, Ok, Err, List, [], ◌∷◌, length, slice_get}
use Rattle.ps_step.specs.declared.fault.PsError.{PsError}
use Rattle.ps_step.specs.declared.machine.PsCore.{PsCore}
use Rattle.ps_step.specs.State.{Made}
use Rattle.ldb_words.specs.Word.{sum_of}
use Rattle.ldb_words.specs.declared.kinds.Kind.TheVariants.{Word}
use Rattle.c_operators.specs.Bits.{signed_negate}
use Rattle.ps_step.specs.Operands.{one_of, pair_of}
use Rattle.frame_bytes.specs.Bytes.{Bytes, fetched, stored}
use Rattle.frame_bytes.specs.declared.frame.Space.TheVariants.{Memory, Registers, Immediate}
use Rattle.table_model.specs.Objects.{anchor_of}
use Rattle.frame_bytes.specs.declared.frame.Space.{Space}
use Rattle.ps_words.specs.declared.words.WordOperator.{WordOperator}
use Rattle.ps_words.specs.declared.words.WordOperator.TheVariants.{SignedAdd, SignedSubtract, SignedMultiply, SignedDivide, SignedRemainder, Divide, Remainder, Add, Subtract, Multiply, ShiftLeft, SignedShiftRight, ShiftRight}
use Rattle.ps_words.specs.Words.{of_two, defined}
use Rattle.ps_words.specs.Operators.{word_in, on_two, negating, below}
use Rattle.ps_places.specs.Lacks as lacks
use Rattle.ps_leaves.specs.Forms as forms
use Rattle.ps_places.specs.Places.{placing, placing_at}
use Rattle.ps_places.specs.Places as places
use Rattle.ps_places.specs.Accesses as accesses
use Rattle.ps_append.specs.Appending as texts
use Rattle.ps_append.specs.Characters as characters
use Rattle.ps_pointers.specs.Pointers as pointers
use Rattle.ps_leaves.specs.Leaves as leaves
use Rattle.ps_symbols.specs.Naming as names
use Rattle.dialect_model.specs.Dial.{Dial, Act, raised, bytes_in, frame_of, scope_of}
use Rattle.dialect_model.specs.Acting.{with_state, with_told, with_text, space_bytes, found, found_behind, anchoring, placing_local, placing_value, locating, fetching, storing, adding, subtracting, comparing, taking_leaf, giving_struct, putting, putting_char, putting_pointer, putting_chars, measuring_run}
use Rattle.dialect_model.specs.Operators.{Operator, operators, act_of, act}
use Rattle.printing_laws.proofs.Leaving.{All, behind, either}

module _ (c : PsCore) where
  abbrev Same : PsCore → Type 0
  Same c' = c'.store ≡ c.store

  abbrev Told : Dial × PsCore → Type 0
  Told t = t.1.store ≡ c.store

  abbrev ToldBytes : Bytes × PsCore → Type 0
  ToldBytes t = t.1.store ≡ c.store

  abbrev ToldText : List ℕ × PsCore → Type 0
  ToldText t = t.1.store ≡ c.store

  state_kept : (d : Dial) (r : Made) → All Same r → All Told (with_state d r)
  state_kept d (Ok c') e = e
  state_kept d (Err x) e = tt

  told_kept : (d : Dial) (r : Result (Bytes × PsCore) PsError) → All ToldBytes r → All Told (with_told d r)
  told_kept d (Ok t) e = e
  told_kept d (Err x) e = tt

  text_kept : (d : Dial) (r : Result (List ℕ × PsCore) PsError) → All ToldText r → All Told (with_text d r)
  text_kept d (Ok t) e = e
  text_kept d (Err x) e = tt

  placing_kept : (space : Space) (at : ℕ) → All Same (placing space at c)
  placing_kept space at = either Same (nat_lt (length c.operands) 100000) _ _ refl tt

  at_kept : (space : Space) → All Same (placing_at space c)
  at_kept space = behind Same (places.top_word c) (λ n. placing space n c) (λ n. placing_kept space n)

  two_kept : (op : WordOperator) → All Same (on_two op c)
  two_kept op = behind Same (pair_of c.operands) _ (λ p. behind Same (word_in p.0) _ (λ x. behind Same (word_in p.1) _ (λ y. behind Same (defined (of_two op x y)) _ (λ n. refl))))

  below_kept : All Same (below c)
  below_kept = behind Same (pair_of c.operands) _ (λ p. behind Same (word_in p.0) _ (λ x. behind Same (word_in p.1) _ (λ y. refl)))

  negating_kept : All Same (negating c)
  negating_kept = behind Same (one_of c.operands) _ (λ a. behind Same (word_in a) _ (λ x. behind Same (defined (signed_negate x)) _ (λ n. refl)))

  appending_kept : (n : ℕ) (given : Result (List ℕ) PsError) (out : List ℕ) → All ToldText (texts.appending n given out c)
  appending_kept n given out = behind ToldText given _ (λ text. refl)

  module _ (d : Dial) where
    anchoring_kept : All Told (anchoring d c)
    anchoring_kept =
        state_kept d (names.anchoring (is_some d.target) c)
        (behind Same (pair_of c.operands) _ (λ p. behind Same (word_in p.0) _ (λ n. behind Same (places.name_of c.store p.1) _ (λ name. behind Same (names.if_target (is_some d.target)) _ (λ u.
        behind Same (lacks.looked (anchor_of c.store name)) _ (λ at. refl))))))

    local_kept : All Told (placing_local d c)
    local_kept =
        behind Told (raised (places.top_word c)) _ (λ n. behind Told (frame_of d c.store) _ (λ f. state_kept d (places.placing_local (option_map (λ f. f.base) f) c)
        (behind Same (places.top_word c) _ (λ n. behind Same (places.base_of (option_map (λ f. f.base) f)) _ (λ b. placing_kept Memory (sum_of b n))))))

    value_kept : All Told (placing_value d c)
    value_kept =
        told_kept d (accesses.placing_value (bytes_in d None) c)
        (behind ToldBytes (accesses.immediate_value c) _ (λ v. behind ToldBytes (accesses.or_outside (stored (bytes_in d None) Immediate 0 Word v)) _ (λ b. refl)))

    locating_kept : All Told (locating d c)
    locating_kept =
        behind Told (raised (names.top_name c)) _ (λ name. behind Told (scope_of d c.store) _ (λ scope. state_kept d (names.locating scope c)
        (behind Same (names.asked_where scope c) _ (λ body. either Same (nat_lt (length c.execution) 1000) _ _ refl tt))))

    fetching_kept : All Told (fetching d c)
    fetching_kept =
        behind Told (raised (accesses.fetch_of c)) _ (λ a. behind Told (space_bytes d c.store a.0.space) _ (λ b. told_kept d (accesses.fetching b c)
        (behind ToldBytes (accesses.fetch_of c) _ (λ a. behind ToldBytes (accesses.or_outside (fetched b a.0.space a.0.at a.1)) _ (λ v. refl)))))

    storing_kept : All Told (storing d c)
    storing_kept =
        behind Told (raised (accesses.store_of d.raw c)) _ (λ a. behind Told (space_bytes d c.store a.0.space) _ (λ b. told_kept d (accesses.storing d.raw b c)
        (behind ToldBytes (accesses.store_of d.raw c) _ (λ a. behind ToldBytes (accesses.or_outside (stored b a.0.space a.0.at a.1 a.2)) _ (λ v. refl)))))

    adding_kept : All Told (adding d c)
    adding_kept =
        behind Told (raised (pointers.sum_operands c)) _ (λ t. behind Told (found d c.store t.0) _ (λ o. state_kept d (pointers.leaving_sum o t.1 t.2 c)
        (behind Same (pointers.pointer_sum o t.1 t.2) _ (λ p. refl))))

    subtracting_kept : All Told (subtracting d c)
    subtracting_kept =
        behind Told (raised (pointers.difference_operands c)) _ (λ t. behind Told (found d c.store t.0) _ (λ o. behind Told (found_behind o d c.store t.1) _ (λ q.
        state_kept d (pointers.leaving_difference o q t.2 c) (behind Same (pointers.pointer_difference o q t.2) _ (λ n. refl)))))

    comparing_kept : All Told (comparing d c)
    comparing_kept =
        behind Told (raised (pointers.comparison_operands c)) _ (λ t. behind Told (found d c.store t.0) _ (λ o. behind Told (found_behind o d c.store t.1) _ (λ q.
        state_kept d (pointers.leaving_order o q c) (behind Same (pointers.distance o q) _ (λ n. refl)))))

    leaf_kept : All Told (taking_leaf d c)
    leaf_kept =
        behind Told (raised (leaves.leaf_operands c)) _ (λ a. behind Told (found d c.store a.0) _ (λ o. state_kept d (leaves.leaving_leaf o c)
        (behind Same (leaves.leaf_operands c) _ (λ a. behind Same (leaves.need_live c.store o a.1) _ (λ u. refl)))))

    struct_kept : All Told (giving_struct d c)
    struct_kept =
        state_kept d (names.giving_struct (is_some d.target) c)
        (behind Same (names.top_name c) _ (λ tag. behind Same (names.if_target (is_some d.target)) _ (λ u. behind Same (lacks.looked (names.struct_named c.store tag)) _ (λ t. refl))))

    run_kept : All Told (measuring_run d c)
    run_kept = behind Told (raised (places.top_word c)) _ (λ p. behind Told (found d c.store p) _ (λ o. state_kept d (leaves.leaving_run o c) (behind Same (leaves.run_of c.store o) _ (λ x. refl))))

    putting_kept : All Told (putting d c)
    putting_kept = text_kept d (texts.appending 1 (texts.string_text_of c) d.out c) (appending_kept 1 (texts.string_text_of c) d.out)

    char_kept : All Told (putting_char d c)
    char_kept = text_kept d (texts.appending 1 (texts.char_text_of c) d.out c) (appending_kept 1 (texts.char_text_of c) d.out)

    pointer_kept : All Told (putting_pointer d c)
    pointer_kept =
        behind Told (raised (places.top_word c)) _ (λ p. behind Told (found d c.store p) _ (λ o.
        text_kept d (texts.appending 1 (forms.pointer_text_of o c) d.out c) (appending_kept 1 (forms.pointer_text_of o c) d.out)))

    chars_kept : All Told (putting_chars d c)
    chars_kept =
        behind Told (raised (characters.string_place c)) _ (λ a. behind Told (space_bytes d c.store a.0.space) _ (λ b. text_kept d (characters.appending_chars d.out b c)
        (behind ToldText (characters.string_place c) _ (λ a. behind ToldText (characters.bytes_from a.1 b a.0) _ (λ bs. refl)))))

-- ---- by its number

abbrev Keeps : (Dial → PsCore → Act) → Type 0
Keeps f = (d : Dial) (c : PsCore) → All (Told c) (f d c)

abbrev EachKeeps : List Operator → Type 0
EachKeeps [] = Unit {0}
EachKeeps (o ∷ os) = Keeps o.act × EachKeeps os

numbered : (os : List Operator) → EachKeeps os → (n : ℕ) → Keeps (act_of (slice_get os n))
numbered [] k n d c = tt
numbered (o ∷ os) k zero d c = k.0 d c
numbered (o ∷ os) k (suc n) d c = numbered os k.1 n d c

two : (op : WordOperator) → Keeps (λ d c. with_state d (on_two op c))
two op d c = state_kept c d (on_two op c) (two_kept c op)

each : EachKeeps operators
each = (
  λ d c. anchoring_kept c d,
  (
    λ d c. state_kept c d (placing_at Memory c) (at_kept c Memory),
    (
      λ d c. local_kept c d,
      (
        λ d c. state_kept c d (placing_at Registers c) (at_kept c Registers),
        (
          λ d c. value_kept c d,
          (
            λ d c. locating_kept c d,
            (
              λ d c. fetching_kept c d,
              (
                λ d c. storing_kept c d,
                (
                  two SignedAdd,
                  (
                    two SignedSubtract,
                    (
                      two SignedMultiply,
                      (
                        two SignedDivide,
                        (
                          two SignedRemainder,
                          (
                            λ d c. state_kept c d (negating c) (negating_kept c),
                            (
                              two Divide,
                              (
                                two Remainder,
                                (
                                  two Add,
                                  (
                                    two Subtract,
                                    (
                                      two Multiply,
                                      (
                                        two ShiftLeft,
                                        (
                                          two SignedShiftRight,
                                          (
                                            two ShiftRight,
                                            (
                                              λ d c. state_kept c d (below c) (below_kept c),
                                              (
                                                λ d c. adding_kept c d,
                                                (
                                                  λ d c. subtracting_kept c d,
                                                  (
                                                    λ d c. comparing_kept c d,
                                                    (
                                                      λ d c. leaf_kept c d,
                                                      (
                                                        λ d c. struct_kept c d,
                                                        (λ d c. putting_kept c d, (λ d c. char_kept c d, (λ d c. pointer_kept c d, (λ d c. chars_kept c d, (λ d c. run_kept c d, tt))))),
                                                      ),
                                                    ),
                                                  ),
                                                ),
                                              ),
                                            ),
                                          ),
                                        ),
                                      ),
                                    ),
                                  ),
                                ),
                              ),
                            ),
                          ),
                        ),
                      ),
                    ),
                  ),
                ),
              ),
            ),
          ),
        ),
      ),
    ),
  ),
)

acts : (op : ℕ) → Keeps (act op)
unfolding act
acts op d c = numbered operators each op d c

store_of : (c : PsCore) (a : Act) (d' : Dial) (c' : PsCore) → All (Told c) a → a ≡ Ok (d', c') → c'.store ≡ c.store
store_of c (Ok t) d' c' h e = subst (λ (r : Act). All (Told c) r) e h
store_of c (Err x) d' c' h e = absurd cc

pub acts_leave : (op : ℕ) (d d' : Dial) (c c' : PsCore) → act op d c ≡ Ok (d', c') → c'.store ≡ c.store
acts_leave op d d' c c' e = store_of c (act op d c) d' c' (acts op d c) e
