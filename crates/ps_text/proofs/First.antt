-- The first object of a rendered term.
use Rattle.std.proofs.Common.{◌≡◌, ℕ, ℤ, zero, suc, ◌+◌, ◌-◌, ◌<◌, ◌≤◌, Bool, true, false, ◌==◌, nat_lt, if◌then◌else◌, Option, Some, None, Result, Ok, Err, List, [], ◌∷◌, ◌++◌, length, take, drop, refl, sym, ap, ◌∙◌, subst, arith, length-append, length-drop, add-one, eq-eqb, le-ltb}
use Rattle.std.specs.Fmt.{signed_decimal}
use Rattle.ps_scan.specs.declared.token.PsKind.{PsKind}
use Rattle.ps_scan.specs.declared.token.PsKind.TheVariants.{Integer, Name as WordKind, LiteralName, Str as TextKind, Open, Close}
use Rattle.ps_scan.specs.Bytes.{is_white}
use Rattle.ps_scan.specs.Spans.{blank_len}
use Rattle.ps_scan.specs.Token.{token_end, token_from, next_token_of}
use Rattle.ps_store.specs.declared.object.PsObj.{PsObj}
use Rattle.ps_store.specs.declared.object.PsObj.TheVariants.{Int, Name, Str, Array, Mark}
use Rattle.ps_store.specs.declared.object.StringId.{StringId}
use Rattle.ps_store.specs.StoreState.{StoreState}
use Rattle.ps_store.specs.Store.{bytes_of, text_units}
use Rattle.ps_step.specs.declared.fault.PsError.TheVariants.{SyntaxError}
use Rattle.ps_run.specs.Scan.{Read, More, Whole, Nothing, Bad, read_token, ended, reading, reading_all, reading_object}
use Rattle.ps_text.specs.Code.{Code, Stop, Num, Word, Lit, Text, Proc, render}
use Rattle.ps_scan.specs.Escaping.{escaped}
use Rattle.ps_text.specs.Grown.{Grown, IsString, IsArray}
use Rattle.ps_text.specs.Spells.{size, units, Fine, Spells}
use Rattle.ps_text.specs.Reading.{first, behind, IsMore, Lead, bare, space, ReadsFirst}
use Rattle.ps_text.proofs.Growing.{total, grown_none, grown_on, total_grown, string_kept, array_kept, MadeText, text_made, MadeArray, array_made}
use Rattle.ps_text.proofs.Tokens.{token, Stands, token_read, word_is, stands, behind_token}
use Rattle.ps_text.proofs.Kept.{spells_kept, spells_size, spells_plain, onto}
use Rattle.ps_scan.proofs.Escaped.{escaped_body, string_of_escaped}
use Rattle.ps_text.proofs.Numbers.{number_token}
use Rattle.ps_scan.specs.Grammar.{IsWord}
use Rattle.ps_scan.specs.Number.{value_of}
use Rattle.ps_text.proofs.Reading.{number_read, name_read, literal_read, text_read, open_read, close_read, token_more, token_whole, fuel, ReadsAll, parts_of, text_parts, proc_parts, is_text, str_token, reads_code}

fuel_plus : (k : Code) (n : ℕ) → fuel k n ≡ fuel k 0 + n
fuel_plus Stop n = omega arith
fuel_plus (Num i rest) n = let e = fuel_plus rest n in omega arith
fuel_plus (Word name rest) n = let e = fuel_plus rest n in omega arith
fuel_plus (Lit name rest) n = let e = fuel_plus rest n in omega arith
fuel_plus (Text bytes rest) n = let e = fuel_plus rest n in omega arith
fuel_plus (Proc body rest) n =
    let e = fuel_plus rest n in
    let f = fuel_plus body (suc (fuel rest n)) in
    let g = fuel_plus body (suc (fuel rest 0)) in
    omega arith

-- each object takes a byte at least
fuel_len : (k : Code) → fuel k 0 ≤ length (render k)
fuel_len Stop = omega arith
fuel_len (Num i rest) = let e = fuel_len rest in omega (arith, length-append (signed_decimal i) (32 ∷ render rest))
fuel_len (Word name rest) = let e = fuel_len rest in omega (arith, length-append name (32 ∷ render rest))
fuel_len (Lit name rest) = let e = fuel_len rest in omega (arith, length-append name (32 ∷ render rest))
fuel_len (Text bytes rest) = let e = fuel_len rest in omega (arith, length-append (escaped bytes) (41 ∷ 32 ∷ render rest))
fuel_len (Proc body rest) =
    let e = fuel_len rest in
    let f = fuel_len body in
    let g = fuel_plus body (suc (fuel rest 0)) in
    omega (arith, length-append (render body) (125 ∷ 32 ∷ render rest))

-- the object is whole at once
whole_read : (s : StoreState) (t : StringId) (at : ℕ) (x : PsObj) (s' : StoreState) (to : ℕ) → reading s t [] at ≡ Whole x s' to → reading_object s t at ≡ Whole x s' to
whole_read s t at x s' to e =
    ap (λ n. reading_all n s t [] at) (add-one (length (bytes_of s t))) ∙ token_whole (length (bytes_of s t)) s t [] at x s' to e

module _ (post text g : List ℕ) (lead : Lead g) (s : StoreState) (t : StringId) (at : ℕ) (is : IsString s t text) where
  pub reads_first : (k : Code) → IsMore k → Fine (first k) → drop at text ≡ g ++ (render k ++ post) → total s + units (first k) ≤ 8000000 → ReadsFirst k post text s t at
  reads_first Stop more fine here room = absurd more
  reads_first (Num i rest) more fine here room =
      let word = signed_decimal i in
      let number : IsWord word × (value_of word ≡ Some i) = number_token i fine.0 in
      let h : Stands text at (length g) Integer word (render rest ++ post) = stands g lead text at Integer word (render rest ++ post) (here ∙ ap (λ l. g ++ l) (parts_of word (render rest) post)) (number.0, rw number.1 refl) in
      record {
        object = Int i;
        store = s;
        to = at + length g + length word;
        reads = whole_read s t at (Int i) s (at + length g + length word) (number_read s t text is [] at (length g) word (render rest ++ post) i number.1 h);
        grown = grown_none s;
        spells = ([], refl, refl);
        rest = behind_token text at (length g) Integer word (render rest ++ post) h;
      }
  reads_first (Word name rest) more fine here room =
      let h : Stands text at (length g) WordKind name (render rest ++ post) = stands g lead text at WordKind name (render rest ++ post) (here ∙ ap (λ l. g ++ l) (parts_of name (render rest) post)) fine.0 in
      let m : MadeText 127 s name = text_made 127 s name fine.1 (omega arith) in
      let to = at + length g + length name in
      let one : Grown (text_units name + 0) s m.store = subst (λ u. Grown u s m.store) (omega arith) m.grown in
      record {
        object = Name m.id true;
        store = m.store;
        to = to;
        reads = whole_read s t at (Name m.id true) m.store to (name_read s t text is [] at (length g) name (render rest ++ post) fine.1 m h);
        grown = one;
        spells = (m.id, [], refl, m.is, refl);
        rest = behind_token text at (length g) WordKind name (render rest ++ post) h;
      }
  reads_first (Lit name rest) more fine here room =
      let word = 47 ∷ name in
      let h : Stands text at (length g) LiteralName word (render rest ++ post) = stands g lead text at LiteralName word (render rest ++ post) (here ∙ ap (λ l. g ++ l) (parts_of word (render rest) post)) (name, refl, fine.0) in
      let m : MadeText 127 s name = text_made 127 s name fine.1 (omega arith) in
      let to = at + length g + length word in
      let one : Grown (text_units name + 0) s m.store = subst (λ u. Grown u s m.store) (omega arith) m.grown in
      record {
        object = Name m.id false;
        store = m.store;
        to = to;
        reads = whole_read s t at (Name m.id false) m.store to (literal_read s t text is [] at (length g) word (render rest ++ post) name refl fine.1 m h);
        grown = one;
        spells = (m.id, [], refl, m.is, refl);
        rest = behind_token text at (length g) LiteralName word (render rest ++ post) h;
      }
  reads_first (Text bytes rest) more fine here room =
      let word = str_token bytes in
      let h : Stands text at (length g) TextKind word (render rest ++ post) = stands g lead text at TextKind word (render rest ++ post) (here ∙ ap (λ l. g ++ l) (text_parts bytes (render rest) post)) (is_text bytes) in
      let m : MadeText 16777216 s bytes = text_made 16777216 s bytes fine.0 (omega arith) in
      let to = at + length g + length word in
      let one : Grown (text_units bytes + 0) s m.store = subst (λ u. Grown u s m.store) (omega arith) m.grown in
      record {
        object = Str m.id false;
        store = m.store;
        to = to;
        reads = whole_read s t at (Str m.id false) m.store to (text_read s t text is [] at (length g) word (render rest ++ post) bytes (string_of_escaped bytes) m h);
        grown = one;
        spells = (m.id, [], refl, m.is, refl);
        rest = behind_token text at (length g) TextKind word (render rest ++ post) h;
      }
  reads_first (Proc body rest) more fine here room =
      let after = render rest ++ post in
      let whole = render body ++ 125 ∷ 32 ∷ after in
      let starts : drop at text ≡ g ++ ((123 ∷ []) ++ 32 ∷ whole) = here ∙ ap (λ l. g ++ l) (proc_parts (render body) (render rest) post) in
      let h : Stands text at (length g) Open (123 ∷ []) whole = stands g lead text at Open (123 ∷ []) whole starts refl in
      let to₁ = at + length g + 1 in
      let r₁ : ReadsAll body (125 ∷ 32 ∷ after) text s t (Mark ∷ []) to₁ = reads_code body (125 ∷ 32 ∷ after) text s t Mark [] to₁ fine.0 is (behind_token text at (length g) Open (123 ∷ []) whole h) (omega arith) in
      let is₁ : IsString r₁.store t text = string_kept _ s r₁.store t text r₁.grown is in
      let now₁ : total r₁.store ≡ total s + units body = total_grown _ s r₁.store r₁.grown in
      let len : length r₁.items ≡ size body = spells_size body r₁.store r₁.items r₁.spells in
      let m : MadeArray r₁.store r₁.items = array_made r₁.store r₁.items (omega arith) (omega arith) in
      let x : PsObj = Array m.id true in
      let h₂ : Stands text r₁.to 1 Close (125 ∷ []) after = stands (32 ∷ []) space text r₁.to Close (125 ∷ []) after r₁.rest refl in
      let to₂ = r₁.to + 1 + 1 in
      let grown₂ : Grown (units body + (1 + length r₁.items)) s m.store = grown_on _ _ s r₁.store m.store r₁.grown m.grown in
      let all : length text - at ≡ length g + suc (suc (length whole)) = sym (length-drop at text) ∙ ap length starts ∙ length-append g (123 ∷ 32 ∷ whole) in
      let enough : fuel body 0 + 1 ≤ length text = omega (arith, fuel_len body, length-append (render body) (125 ∷ 32 ∷ after), all) in
      let spare : ℕ = length text - (fuel body 0 + 1) in
      let turns : length text ≡ fuel body (suc spare) = omega (arith, fuel_plus body (suc spare), enough) in
      let bytes : length (bytes_of s t) + 1 ≡ suc (fuel body (suc spare)) = ap (λ (l : List ℕ). length l + 1) is.bytes ∙ add-one (length text) ∙ ap suc turns in
      record {
        object = x;
        store = m.store;
        to = to₂;
        reads =
            ap (λ n. reading_all n s t [] at) bytes
            ∙ token_more (fuel body (suc spare)) s t [] at s (Mark ∷ []) to₁ (open_read s t text is [] at (length g) (123 ∷ []) whole h)
            ∙ r₁.reads (suc spare)
            ∙ token_whole spare r₁.store t (onto r₁.items (Mark ∷ [])) r₁.to x m.store to₂
            (close_read r₁.store t text is₁ (onto r₁.items (Mark ∷ [])) r₁.to 1 (125 ∷ []) after [] r₁.items refl (spells_plain body r₁.store r₁.items r₁.spells) m h₂);
        grown = subst (λ u. Grown u s m.store) (omega arith) grown₂;
        spells = (m.id, r₁.items, [], refl, m.is, spells_kept body _ r₁.store m.store r₁.items m.grown r₁.spells, refl);
        rest = behind_token text r₁.to 1 Close (125 ∷ []) after h₂;
      }

blank_lead : (g : List ℕ) → Lead g → blank_len false g ≡ length g
unfolding is_white
blank_lead _ bare = refl
blank_lead _ space = refl

-- behind the last object nothing is read
pub reads_end : (g text : List ℕ) (s : StoreState) (t : StringId) (at : ℕ) → Lead g → IsString s t text → at ≤ length text → drop at text ≡ g → reading_object s t at ≡ Nothing s
reads_end g text s t at lead is within here =
    let len : length text - at ≡ length g = sym (length-drop at text) ∙ ap length here in
    let all : (at + length g == length text) ≡ true = eq-eqb _ _ (omega arith) in
    let behind : nat_lt (length text) at ≡ false = le-ltb (length text) at within in
    let none : next_token_of text at ≡ Ok None = ap (λ n. token_from text (at + n)) (ap (blank_len false) here ∙ blank_lead g lead) ∙ rw all refl in
    let read : reading s t [] at ≡ Nothing s =
    ap (λ bytes. if nat_lt (length bytes) at then Bad SyntaxError s
    else elim (next_token_of bytes at) [
      | Err e ↦ Bad SyntaxError s
      | Ok found ↦ elim found [ None ↦ ended s [] | Some token ↦ read_token s bytes [] token ]
    ]) is.bytes
    ∙ rw (behind, none) refl in
    ap (λ n. reading_all n s t [] at) (add-one (length (bytes_of s t)))
    ∙ ap (λ (r : Read). elim r [
      | More s' xs' at' ↦ reading_all (length (bytes_of s t)) s' t xs' at'
      | Whole x s' at' ↦ Whole x s' at'
      | Nothing s' ↦ Nothing s'
      | Bad e s' ↦ Bad e s'
    ]) read
