-- What the operators that print find, by what is looked up.
use Rattle.std.proofs.Common.{◌≡◌, sym, ap, subst, ◌∙◌, ℕ, ℤ, pos, false, Ok, List, [], ◌∷◌, ◌++◌, append-nil}
use Rattle.ldb_words.specs.Word.{word_of_signed}
use Rattle.ldb_words.specs.declared.kinds.Kind.{Kind}
use Rattle.c_show.specs.Printed.{string_text}
use Rattle.ps_store.specs.declared.object.PsObj.{PsObj}
use Rattle.ps_store.specs.declared.object.PsObj.TheVariants.{Int, Name}
use Rattle.ps_store.specs.declared.object.StringId.{StringId}
use Rattle.ps_store.specs.StoreState.{StoreState}
use Rattle.ps_step.specs.Results.{◌>>=◌}
use Rattle.ps_step.specs.State.{with_operands}
use Rattle.frame_bytes.specs.declared.frame.Space.{Space}
use Rattle.ps_places.specs.Places.{space_named, kind_named}
use Rattle.ps_places.specs.Accesses.{value_of}
use Rattle.ps_terms.specs.Machine.{Val, Obj, Key}
use Rattle.ps_terms.specs.Stands.{none, more}
use Rattle.ps_terms.specs.Printing.{FindsAt}
use Rattle.ps_text.specs.Grown.{IsString}
use Rattle.ps_print.specs.Laid.{Fetches, PutsChars, PutsPointer, Counts}
use Rattle.dialect_model.specs.Dial.{Dial}
use Rattle.dialect_model.specs.Operators.{act}
use Rattle.dialect_model.specs.Operating.{Operates}
use Rattle.printing_laws.specs.Dialect.{append}
use Rattle.printing_laws.specs.Lookups.{Reached, Always, number_there, integer_of, string_there, pointer_there, run_there}
use Rattle.printing_laws.specs.Stays.{Above}
use Rattle.printing_laws.proofs.Printer.{printing, append_twice}
use Rattle.printing_laws.proofs.Asking.{Gives, gives_asked, fetching, putting_chars, putting_pointer, counting, value_is}
use Rattle.printing_laws.proofs.Units.{RunsLeave}
use Rattle.printing_laws.proofs.Finding.{ActsLeave, GivesSo, finds_at}

-- strings are there in each store that is reached
abbrev pub StringsStay : StoreState → StoreState → Type 0
StringsStay s first = (now : StoreState) → Reached first now → (t : StringId) (text : List ℕ) → IsString s t text → IsString now t text

module _ (leaves : RunsLeave) (keeps : ActsLeave) (first : StoreState) (above : Above first) (s : StoreState) (strings : StringsStay s first) where
  module _ (d : Dial) where
    fetch_so : (space kind : List ℕ) (sp : Space) (k : Kind) (n : ℤ) (v : ℕ) → space_named space ≡ Ok sp → kind_named kind ≡ Ok k → Always first (number_there d sp (word_of_signed n) k) v
        → GivesSo first s d d 6 (Key kind ∷ Obj (Int n) ∷ Key space ∷ []) (Int (integer_of k v) ∷ [])
    fetch_so space kind sp k n v named named' always c _ o reached (more x _ _ _ i (more y _ _ _ j (more z _ _ _ l none))) e =
        let ops : c.operands ≡ Name i.0 false ∷ Int n ∷ Name l.0 false ∷ o =
        e ∙ ap (λ q. q ∷ y ∷ z ∷ o) i.1 ∙ ap (λ q. Name i.0 false ∷ q ∷ z ∷ o) j ∙ ap (λ q. Name i.0 false ∷ Int n ∷ q ∷ o) l.1 in
        let is = strings c.store reached l.0 space l.2 in
        let is' = strings c.store reached i.0 kind i.2 in
        let here : act 6 d c ≡ (number_there d sp (word_of_signed n) k c.store >>= λ v. Ok (d, with_operands c (value_of k v ∷ o))) =
        subst (λ q. act 6 d (with_operands c q) ≡ (number_there d sp (word_of_signed n) k c.store >>= λ v. Ok (d, with_operands c (value_of k v ∷ o)))) (sym ops)
        (fetching c o space l.0 n sp is.bytes named d kind i.0 k is'.bytes named') in
        subst (λ q. Gives (act 6 d c) d (with_operands c (q ∷ o))) (value_is k v)
        (gives_asked (act 6 d c) (number_there d sp (word_of_signed n) k c.store) (λ v. d) (λ v. with_operands c (value_of k v ∷ o)) v here (always c.store reached))

    chars_so : (space : List ℕ) (sp : Space) (n : ℤ) (count : ℕ) (bs : List ℕ) → space_named space ≡ Ok sp → Always first (string_there d sp (word_of_signed n) count) bs
        → GivesSo first s d (append d (string_text bs)) 31 (Obj (Int (pos count)) ∷ Obj (Int n) ∷ Key space ∷ []) []
    chars_so space sp n count bs named always c _ o reached (more x _ _ _ i (more y _ _ _ j (more z _ _ _ l none))) e =
        let ops : c.operands ≡ Int (pos count) ∷ Int n ∷ Name l.0 false ∷ o =
        e ∙ ap (λ q. q ∷ y ∷ z ∷ o) i ∙ ap (λ q. Int (pos count) ∷ q ∷ z ∷ o) j ∙ ap (λ q. Int (pos count) ∷ Int n ∷ q ∷ o) l.1 in
        let is = strings c.store reached l.0 space l.2 in
        let here : act 31 d c ≡ (string_there d sp (word_of_signed n) count c.store >>= λ bs. Ok (append d (string_text bs), with_operands c o)) =
        subst (λ q. act 31 d (with_operands c q) ≡ (string_there d sp (word_of_signed n) count c.store >>= λ bs. Ok (append d (string_text bs), with_operands c o))) (sym ops)
        (putting_chars c o space l.0 n sp is.bytes named d count) in
        gives_asked (act 31 d c) (string_there d sp (word_of_signed n) count c.store) (λ bs. append d (string_text bs)) (λ bs. with_operands c o) bs here (always c.store reached)

    pointer_so : (n : ℤ) (text : List ℕ) → Always first (pointer_there d (word_of_signed n)) text → GivesSo first s d (append d text) 30 (Obj (Int n) ∷ []) []
    pointer_so n text always c _ o reached (more x _ _ _ i none) e =
        let ops : c.operands ≡ Int n ∷ o = e ∙ ap (λ q. q ∷ o) i in
        let here : act 30 d c ≡ (pointer_there d (word_of_signed n) c.store >>= λ text. Ok (append d text, with_operands c o)) =
        subst (λ q. act 30 d (with_operands c q) ≡ (pointer_there d (word_of_signed n) c.store >>= λ text. Ok (append d text, with_operands c o))) (sym ops) (putting_pointer d c o n) in
        gives_asked (act 30 d c) (pointer_there d (word_of_signed n) c.store) (λ text. append d text) (λ text. with_operands c o) text here (always c.store reached)

    run_so : (n : ℤ) (x : PsObj) → Always first (run_there d (word_of_signed n)) x → GivesSo first s d d 32 (Obj (Int n) ∷ []) (x ∷ [])
    run_so n x always c _ o reached (more y _ _ _ i none) e =
        let ops : c.operands ≡ Int n ∷ o = e ∙ ap (λ q. q ∷ o) i in
        let here : act 32 d c ≡ (run_there d (word_of_signed n) c.store >>= λ x. Ok (d, with_operands c (x ∷ o))) =
        subst (λ q. act 32 d (with_operands c q) ≡ (run_there d (word_of_signed n) c.store >>= λ x. Ok (d, with_operands c (x ∷ o)))) (sym ops) (counting d c o n) in
        gives_asked (act 32 d c) (run_there d (word_of_signed n) c.store) (λ x. d) (λ x. with_operands c (x ∷ o)) x here (always c.store reached)

  module _ (d : Dial) where
    -- nothing is told
    silent : (op : ℕ) (taken : List Val) (left : List PsObj) → ((told : List ℕ) → FindsAt Operates printing s first (append d told) (append d told) op taken left)
        → (told : List ℕ) → FindsAt Operates printing s first (append d told) (append d (told ++ [])) op taken left
    silent op taken left finds told = subst (λ l. FindsAt Operates printing s first (append d told) (append d l) op taken left) (sym (append-nil told)) (finds told)

    -- a text is told
    telling : (op : ℕ) (taken : List Val) (text : List ℕ) → ((told : List ℕ) → FindsAt Operates printing s first (append d told) (append (append d told) text) op taken [])
        → (told : List ℕ) → FindsAt Operates printing s first (append d told) (append d (told ++ text)) op taken []
    telling op taken text finds told = subst (λ x. FindsAt Operates printing s first (append d told) x op taken []) (append_twice d told text) (finds told)

    pub fetches : (space kind : List ℕ) (sp : Space) (k : Kind) (n : ℤ) (v : ℕ) → space_named space ≡ Ok sp → kind_named kind ≡ Ok k → Always first (number_there d sp (word_of_signed n) k) v
        → Fetches Operates printing s first d space n kind (integer_of k v)
    fetches space kind sp k n v named named' always =
        let taken : List Val = Key kind ∷ Obj (Int n) ∷ Key space ∷ [] in
        silent 6 taken (Int (integer_of k v) ∷ [])
        (λ told. finds_at leaves keeps first above s (append d told) (append d told) 6 taken (Int (integer_of k v) ∷ []) (fetch_so (append d told) space kind sp k n v named named' always))

    pub puts_chars : (space : List ℕ) (sp : Space) (n : ℤ) (count : ℕ) (bs : List ℕ) → space_named space ≡ Ok sp → Always first (string_there d sp (word_of_signed n) count) bs
        → PutsChars Operates printing s first d space n count (string_text bs)
    puts_chars space sp n count bs named always =
        let taken : List Val = Obj (Int (pos count)) ∷ Obj (Int n) ∷ Key space ∷ [] in
        telling 31 taken (string_text bs)
        (λ told. finds_at leaves keeps first above s (append d told) (append (append d told) (string_text bs)) 31 taken [] (chars_so (append d told) space sp n count bs named always))

    pub puts_pointer : (n : ℤ) (text : List ℕ) → Always first (pointer_there d (word_of_signed n)) text → PutsPointer Operates printing s first d n text
    puts_pointer n text always =
        telling 30 (Obj (Int n) ∷ []) text
        (λ told. finds_at leaves keeps first above s (append d told) (append (append d told) text) 30 (Obj (Int n) ∷ []) [] (pointer_so (append d told) n text always))

    pub counts : (n : ℤ) (count : ℕ) → Always first (run_there d (word_of_signed n)) (Int (pos count)) → Counts Operates printing s first d n count
    counts n count always =
        silent 32 (Obj (Int n) ∷ []) (Int (pos count) ∷ [])
        (λ told. finds_at leaves keeps first above s (append d told) (append d told) 32 (Obj (Int n) ∷ []) (Int (pos count) ∷ []) (run_so (append d told) n (Int (pos count)) always))
