-- The prelude runs on a new store, by computing.
use Rattle.std.proofs.Common.{◌≡◌, ℕ, zero, suc, ◌+◌, Bool, true, false, ◌&&◌, nat_lt, bytes_eq, ltb-true, ap, subst, ◌<◌, arith, slice_get, is_some, if◌then◌else◌, Option, Some, None, List, [], ◌∷◌, ◌++◌, length, codes, refl}
use Rattle.std.specs.Fmt.{digits}
use Rattle.std.specs.List.{AllByRecursion}
use Rattle.std.specs.Ordering.{int_eq}
use Rattle.std.specs.Cmp.{signed_Decides}
use Rattle.std.specs.Cmp.Lexicographic.{bytes_decides}
use Rattle.std.proofs.lemmas.Bool.{and_parts}
use Rattle.ps_scan.specs.Bytes.{is_white, is_special, is_regular, is_hexadecimal}
use Rattle.ps_store.specs.declared.object.PsObj.{PsObj}
use Rattle.ps_store.specs.declared.object.PsObj.TheVariants.{Int, Name, Str, Array}
use Rattle.ps_store.specs.declared.object.StringId.{StringId}
use Rattle.ps_store.specs.Operators.{operator_number}
use Rattle.ps_store.specs.StoreState.{StoreState}
use Rattle.ps_store.specs.declared.object.DictId.{DictId}
use Rattle.ps_store.specs.Settled.{Settled}
use Rattle.ps_store.specs.Store.{new_store, closed_part, held, bytes_of, elements_of}
use Rattle.ps_store.proofs.Settling.{settled_same}
use Rattle.ps_step.specs.declared.machine.PsCore.{PsCore}
use Rattle.ps_step.specs.Keys.{named}
use Rattle.ps_run.specs.Step.{Outcome, Ended, Next, Asks, Failed, step}
use Rattle.ps_text.specs.Code.{Code, Stop, Num, Word, Lit, Text as Quote, Proc}
use Rattle.ps_text.specs.Grown.{IsString}
use Rattle.ps_text.specs.Spells.{Spells}
use Rattle.ps_store.specs.declared.object.Part.TheVariants.{Table}
use Rattle.ps_terms.specs.Machine.{Does, Words, meaning}
use Rattle.ps_terms.specs.Stands.{Means, Knows}
use Rattle.ps_print.specs.Words.{words, Holds, executed_names, Lacks, IsPrinter, HasPrinters}
use Rattle.ps_print.specs.Loaded.{start, after, or_new, executed, loaded, digits_id}
use Rattle.ps_terms.specs.Faring.{shut, HoldsDicts}
use Rattle.ps_print.specs.Leads.{Leads}
use Rattle.ps_run.specs.Runs.{Operates, Runs}
use Rattle.ps_terms.specs.Printing.{further}
use Rattle.ps_run.proofs.Apart.{behind}
use Rattle.ps_print.proofs.Behind.{holds_behind, printers_behind}
use Rattle.ps_print.specs.Prelude.{digits_body, signed_body, showint_body, showunsigned_body, showchar_body, showpointer_body, items_body, showarray_body, members_body, showstruct_body, show_body, print_body, printers}

-- ---- what the objects are, as a test

abbrev spelled : StoreState → Code → List PsObj → Bool
spelled s Stop [] = true
spelled s (Num n rest) (Int i ∷ xs) = int_eq i n && spelled s rest xs
spelled s (Word name rest) (Name t true ∷ xs) = nat_lt t.index (length (held s t.part).strings) && (bytes_eq (bytes_of s t) name && spelled s rest xs)
spelled s (Lit name rest) (Name t false ∷ xs) = nat_lt t.index (length (held s t.part).strings) && (bytes_eq (bytes_of s t) name && spelled s rest xs)
spelled s (Quote text rest) (Str t false ∷ xs) = nat_lt t.index (length (held s t.part).strings) && (bytes_eq (bytes_of s t) text && spelled s rest xs)
spelled s (Proc body rest) (Array a true ∷ xs) = nat_lt a.index (length (held s a.part).arrays) && (spelled s body (elements_of s a) && spelled s rest xs)
spelled s k xs = false

string_is : (s : StoreState) (t : StringId) (text : List ℕ) (b : Bool) → (nat_lt t.index (length (held s t.part).strings) && (bytes_eq (bytes_of s t) text && b)) ≡ true → IsString s t text × (b ≡ true)
string_is s t text b h =
    let p = and_parts (nat_lt t.index (length (held s t.part).strings)) (bytes_eq (bytes_of s t) text && b) h in
    let q = and_parts (bytes_eq (bytes_of s t) text) b p.1 in
    (record { has = ltb-true _ _ p.0; bytes = (bytes_decides (bytes_of s t) text).0 q.0 }, q.1)

spelled_is : (k : Code) (s : StoreState) (xs : List PsObj) → spelled s k xs ≡ true → Spells s xs k
spelled_is Stop s [] h = refl
spelled_is (Num n rest) s (Int i ∷ xs) h =
    let p = and_parts (int_eq i n) (spelled s rest xs) h in
    (xs, ap (λ z. Int z ∷ xs) ((signed_Decides i n).0 p.0), spelled_is rest s xs p.1)
spelled_is (Word name rest) s (Name t true ∷ xs) h = let p = string_is s t name (spelled s rest xs) h in (t, xs, refl, p.0, spelled_is rest s xs p.1)
spelled_is (Lit name rest) s (Name t false ∷ xs) h = let p = string_is s t name (spelled s rest xs) h in (t, xs, refl, p.0, spelled_is rest s xs p.1)
spelled_is (Quote text rest) s (Str t false ∷ xs) h = let p = string_is s t text (spelled s rest xs) h in (t, xs, refl, p.0, spelled_is rest s xs p.1)
spelled_is (Proc body rest) s (Array a true ∷ xs) h =
    let p = and_parts (nat_lt a.index (length (held s a.part).arrays)) (spelled s body (elements_of s a) && spelled s rest xs) h in
    let q = and_parts (spelled s body (elements_of s a)) (spelled s rest xs) p.1 in
    (a, elements_of s a, xs, refl, record { has = ltb-true _ _ p.0; items = refl }, spelled_is body s (elements_of s a) q.0, spelled_is rest s xs q.1)
spelled_is k s xs h = absurd cc

no_truth : false ≡ true → ⊥
no_truth e = cc

no_state : {c : PsCore} → None ≡ Some c → ⊥
no_state e = cc

-- what is closed behind the prelude, and its dictionaries
abbrev closed : StoreState
closed = shut loaded.store

abbrev lower : List DictId
lower = new_store.base

-- the term under a name is there
abbrev is_body : Option PsObj → Code → Bool
is_body (Some (Array a e)) body = e && (nat_lt a.index (length (held closed a.part).arrays) && spelled closed body (elements_of closed a))
is_body other body = false

body_means : (o : Option PsObj) (name : List ℕ) (body : Code) → named closed lower name ≡ o → is_body o body ≡ true → Means closed lower name (Does body)
body_means None name body e h = absurd (let f : false ≡ true = h in no_truth f)
body_means (Some (Array a true)) name body e h =
    let p = and_parts (nat_lt a.index (length (held closed a.part).arrays)) (spelled closed body (elements_of closed a)) h in
    (a, e, ltb-true _ _ p.0, spelled_is body closed (elements_of closed a) p.1)
body_means o name body e h = absurd (no_truth h)

abbrev there : List ℕ → Code → Type 0
there name body = is_body (named closed lower name) body ≡ true

bodies_there : there (codes "Digits") digits_body × there (codes "Signed") signed_body × there (codes "ShowInt") showint_body × there (codes "Items") items_body
    × there (codes "ShowArray") showarray_body × there (codes "Show") show_body × there (codes "ShowUnsigned") showunsigned_body
    × there (codes "ShowChar") showchar_body × there (codes "ShowPointer") showpointer_body × there (codes "ShowStruct") showstruct_body × there (codes "Members") members_body
unfolding digits is_white is_special is_regular is_hexadecimal operator_number
bodies_there = (refl, refl, refl, refl, refl, refl, refl, refl, refl, refl, refl)

does : (name : List ℕ) (body : Code) → there name body → Means closed lower name (Does body)
does name body h = body_means (named closed lower name) name body refl h

printers_there : AllByRecursion (λ name. there name print_body) printers
unfolding digits is_white is_special is_regular is_hexadecimal operator_number
printers_there = (refl, (refl, (refl, (refl, (refl, (refl, tt))))))

printers_mean : (names : List (List ℕ)) → AllByRecursion (λ name. there name print_body) names → AllByRecursion (λ name. (x : PsObj) × (named closed lower name ≡ Some x) × IsPrinter closed x) names
printers_mean [] h = tt
printers_mean (name ∷ names) h = let it = does name print_body h.0 in ((Array it.0 true, it.1, (it.0, refl, it.2, it.3)), printers_mean names h.1)

abbrev EachMeans : Words → Type 0
EachMeans [] = Unit {0}
EachMeans (e ∷ es) = Means closed lower e.0 e.1 × EachMeans es

known : (ws : Words) → EachMeans ws → Knows closed lower ws
known [] h name entry e = absurd cc
known (w ∷ ws) h name entry e = by_name (known ws h.1 name entry) (bytes_eq w.0 name) refl e
  where
    by_name : (meaning ws name ≡ Some entry → Means closed lower name entry) → (b : Bool) → bytes_eq w.0 name ≡ b → (if b then Some w.1 else meaning ws name) ≡ Some entry → Means closed lower name entry
    by_name rest true f g =
        let same : w.0 ≡ name = (bytes_decides w.0 name).0 f in
        let it : w.1 ≡ entry = cc in
        subst (λ n. Means closed lower n entry) same (subst (Means closed lower w.0) it h.0)
    by_name rest false f g = rest g

digit_there : (r : ℕ) → r < 10 → (t : StringId) × (slice_get (elements_of closed digits_id) r ≡ Some (Str t false)) × IsString closed t ((48 + r) ∷ [])
unfolding digits is_white is_special is_regular is_hexadecimal operator_number
digit_there zero h = (record { part = Table; index = 6 }, refl, record { has = ltb-true _ _ refl; bytes = refl })
digit_there (suc zero) h = (record { part = Table; index = 7 }, refl, record { has = ltb-true _ _ refl; bytes = refl })
digit_there (suc (suc zero)) h = (record { part = Table; index = 8 }, refl, record { has = ltb-true _ _ refl; bytes = refl })
digit_there (suc (suc (suc zero))) h = (record { part = Table; index = 9 }, refl, record { has = ltb-true _ _ refl; bytes = refl })
digit_there (suc (suc (suc (suc zero)))) h = (record { part = Table; index = 10 }, refl, record { has = ltb-true _ _ refl; bytes = refl })
digit_there (suc (suc (suc (suc (suc zero))))) h = (record { part = Table; index = 11 }, refl, record { has = ltb-true _ _ refl; bytes = refl })
digit_there (suc (suc (suc (suc (suc (suc zero)))))) h = (record { part = Table; index = 12 }, refl, record { has = ltb-true _ _ refl; bytes = refl })
digit_there (suc (suc (suc (suc (suc (suc (suc zero))))))) h = (record { part = Table; index = 13 }, refl, record { has = ltb-true _ _ refl; bytes = refl })
digit_there (suc (suc (suc (suc (suc (suc (suc (suc zero)))))))) h = (record { part = Table; index = 14 }, refl, record { has = ltb-true _ _ refl; bytes = refl })
digit_there (suc (suc (suc (suc (suc (suc (suc (suc (suc zero))))))))) h = (record { part = Table; index = 15 }, refl, record { has = ltb-true _ _ refl; bytes = refl })
digit_there (suc (suc (suc (suc (suc (suc (suc (suc (suc (suc r)))))))))) h = absurd (omega arith)

-- what is closed behind the prelude: its words mean what its terms say
closed_holds : Holds closed lower digits_id
unfolding digits is_white is_special is_regular is_hexadecimal operator_number
closed_holds = record {
  knows = known (words digits_id) (
    refl,
    (
      refl,
      (
        refl,
        (
          refl,
          (
            refl,
            (
              refl,
              (
                refl,
                (
                  refl,
                  (
                    refl,
                    (
                      refl,
                      (
                        refl,
                        (
                          (Array digits_id false, refl, refl, tt),
                          (
                            does (codes "Digits") digits_body bodies_there.0,
                            (
                              does (codes "Signed") signed_body bodies_there.1,
                              (
                                does (codes "ShowInt") showint_body bodies_there.2,
                                (
                                  does (codes "ShowUnsigned") showunsigned_body bodies_there.6,
                                  (
                                    does (codes "Items") items_body bodies_there.3,
                                    (
                                      does (codes "ShowArray") showarray_body bodies_there.4,
                                      (
                                        does (codes "Show") show_body bodies_there.5,
                                        (does (codes "ShowChar") showchar_body bodies_there.7, (does (codes "ShowPointer") showpointer_body bodies_there.8, (does (codes "ShowStruct") showstruct_body bodies_there.9, (does (codes "Members") members_body bodies_there.10, tt)))),
                                      ),
                                    ),
                                  ),
                                ),
                              ),
                            ),
                          ),
                        ),
                      ),
                    ),
                  ),
                ),
              ),
            ),
          ),
        ),
      ),
    ),
  );
  get = refl;
  length_of = refl;
  fetch = refl;
  udivs = refl;
  urem = refl;
  usub = refl;
  uadd = refl;
  put_chars = refl;
  put_char = refl;
  put_pointer = refl;
  charrun = refl;
  put = refl;
  digit = digit_there;
}

lower_there : HoldsDicts closed lower
unfolding digits is_white is_special is_regular is_hexadecimal operator_number
lower_there = (ltb-true _ _ refl, tt)

-- in each store behind, where no dictionary on top has the names, they mean the same
module _ (now : StoreState) (settled : Settled (closed_part loaded.store) (closed_part now)) (above : List DictId) where
  pub holds_still : Lacks now above (executed_names digits_id) → Holds now (above ++ lower) digits_id
  holds_still = holds_behind loaded.store now settled lower lower_there above digits_id closed_holds

  pub printers_still : Lacks now above printers → HasPrinters now (above ++ lower)
  printers_still = printers_behind loaded.store now settled lower lower_there above (printers_mean printers printers_there)

-- at once behind it the dictionary on top is empty
abbrev top : List DictId
top = record { part = Table; index = 1 } ∷ []

top_lacks : (names : List (List ℕ)) → Lacks loaded.store top names
unfolding digits is_white is_special is_regular is_hexadecimal operator_number
top_lacks [] = tt
top_lacks (name ∷ names) = (refl, top_lacks names)

on_top : top ++ lower ≡ loaded.dictionaries
unfolding digits is_white is_special is_regular is_hexadecimal operator_number
on_top = refl

pub loaded_holds : Holds loaded.store loaded.dictionaries digits_id
loaded_holds = subst (λ ds. Holds loaded.store ds digits_id) on_top (holds_still loaded.store (settled_same (closed_part loaded.store)) top (top_lacks (executed_names digits_id)))

pub loaded_printers : HasPrinters loaded.store loaded.dictionaries
loaded_printers = subst (HasPrinters loaded.store) on_top (printers_still loaded.store (settled_same (closed_part loaded.store)) top (top_lacks printers))

-- the steps lead there
some_state : (o : Option PsCore) → is_some o ≡ true → o ≡ Some (or_new o)
some_state (Some c) h = refl
some_state None h = absurd (no_truth h)

steps_made : is_some (after 75 start) ≡ true
unfolding digits is_white is_special is_regular is_hexadecimal operator_number
steps_made = refl

steps_there : after 75 start ≡ Some executed
steps_there = some_state (after 75 start) steps_made

module _ {D : Type 0} (Op : Operates D) where
  after_leads : (n left : ℕ) (d : D) (c c' : PsCore) → after n c ≡ Some c' → Leads Op (further n left) d c left d c'
  after_leads zero left d c c' e = λ r m d₂ c₂ other run. let same : c ≡ c' = cc in subst (λ x. Runs Op left d x r m d₂ c₂) same run
  after_leads (suc n) left d c c' e = λ r m d₂ c₂ other run. on (step c) refl e (λ c₁ h. after_leads n left d c₁ c' h) r m d₂ c₂ other run
    where
      on : (o : Outcome) → step c ≡ o → (elim o [ Next c' ↦ after n c' | Ended c' ↦ None | Asks op c' ↦ None | Failed e c' ↦ None ]) ≡ Some c'
          → ((c₁ : PsCore) → after n c₁ ≡ Some c' → Leads Op (further n left) d c₁ left d c') → Leads Op (suc (further n left)) d c left d c'
      on (Next c₁) s h rest = λ r m d₂ c₂ other run. rest c₁ h r m d₂ c₂ other (behind Op (further n left) d c (Next c₁) r m d₂ c₂ s run)
      on (Ended c₁) s h rest = absurd (no_state h)
      on (Asks op c₁) s h rest = absurd (no_state h)
      on (Failed x c₁) s h rest = absurd (no_state h)

  pub loads : (left : ℕ) (d : D) → Leads Op (further 75 left) d start left d executed
  loads left d = after_leads 75 left d start executed steps_there
