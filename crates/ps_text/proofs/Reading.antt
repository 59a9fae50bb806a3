-- Reading a rendered term.
use Rattle.std.proofs.Common.{◌≡◌, ℕ, ℤ, zero, suc, ◌+◌, ◌-◌, ◌<◌, ◌≤◌, Bool, true, false, nat_le, if◌then◌else◌, Option, Some, None, Result, Ok, Err, IsSome, List, [], ◌∷◌, ◌++◌, length, take, drop, reverse, refl, sym, ap, ◌∙◌, subst, inl, inr, append_assoc, arith, length-append, length-drop, le-leb, add-one}
use Rattle.std.specs.Fmt.{signed_decimal}
use Rattle.ps_scan.specs.declared.token.PsKind.{PsKind}
use Rattle.ps_scan.specs.declared.token.PsKind.TheVariants.{Integer, Name as WordKind, LiteralName, Str as TextKind, Open, Close}
use Rattle.ps_scan.specs.Number.{value_of}
use Rattle.ps_scan.specs.Characters.{string_value}
use Rattle.ps_scan.specs.Grammar.{IsToken, IsWord, AllRegular}
use Rattle.ps_store.specs.declared.object.PsObj.{PsObj}
use Rattle.ps_store.specs.declared.object.PsObj.TheVariants.{Int, Name, Str, Array, Mark}
use Rattle.ps_store.specs.declared.object.ArrayId.{ArrayId}
use Rattle.ps_store.specs.declared.object.StringId.{StringId}
use Rattle.ps_store.specs.declared.fault.StoreFault.{StoreFault}
use Rattle.ps_store.specs.StoreState.{StoreState}
use Rattle.ps_store.specs.Store.{bytes_of, text_units, making_text, making_array}
use Rattle.ps_step.specs.declared.fault.PsError.TheVariants.{SyntaxError}
use Rattle.ps_step.specs.Marks.{mark_from}
use Rattle.ps_step.specs.Results.{◌>>=◌, stored}
use Rattle.ps_run.specs.Scan.{Read, More, Whole, Nothing, Bad, MadeObject, word_of, naming_text, name_text, procedure_of_top, placed, closed, read_token, reading, reading_all, reading_object}
use Rattle.ps_text.specs.Code.{Code, Stop, Num, Word, Lit, Text, Proc, render}
use Rattle.ps_scan.specs.Escaping.{escaped}
use Rattle.ps_text.specs.Grown.{Grown, IsString, IsArray}
use Rattle.ps_text.specs.Spells.{size, units, Fine, Spells}
use Rattle.ps_text.specs.Reading.{first, behind, IsMore, Lead, bare, space, ReadsFirst}
use Rattle.ps_text.proofs.Growing.{total, grown_none, grown_on, total_grown, string_kept, array_kept, MadeText, text_made, MadeArray, array_made}
use Rattle.ps_text.proofs.Tokens.{token, Stands, token_read, word_is, stands, behind_token}
use Rattle.ps_text.proofs.Kept.{spells_kept, spells_size, AllPlain, spells_plain, onto, mark_onto, take_onto, drop_onto}
use Rattle.ps_scan.proofs.Escaped.{escaped_body, string_of_escaped}
use Rattle.ps_text.proofs.Numbers.{number_token}

-- the bytes of a string are as they were
module _ (s : StoreState) (t : StringId) (text : List ℕ) (is : IsString s t text) (xs : List PsObj) (at skip : ℕ) (word rest : List ℕ) where
  pub number_read : (n : ℤ) → value_of word ≡ Some n → Stands text at skip Integer word rest → reading s t xs at ≡ placed xs (at + skip + length word) s (Ok (Int n, s))
  number_read n v h =
      token_read text at skip Integer word rest h s t xs is.bytes
      ∙ ap (λ (w : List ℕ). placed xs (at + skip + length word) s (elim (value_of w) [ Some n ↦ Ok (Int n, s) | None ↦ Err SyntaxError ])) (word_is text at skip Integer word rest h)
      ∙ ap (λ (o : Option ℤ). placed xs (at + skip + length word) s (elim o [ Some n ↦ Ok (Int n, s) | None ↦ Err SyntaxError ])) v

  pub name_read : length word ≤ 127 → (m : MadeText 127 s word) → Stands text at skip WordKind word rest → reading s t xs at ≡ placed xs (at + skip + length word) s (Ok (Name m.id true, m.store))
  name_read few m h =
      let short : nat_le (length word) 127 ≡ true = le-leb _ _ few in
      token_read text at skip WordKind word rest h s t xs is.bytes
      ∙ ap (λ (w : List ℕ). placed xs (at + skip + length word) s (naming_text s (name_text w) true)) (word_is text at skip WordKind word rest h)
      ∙ ap (λ (b : Bool). placed xs (at + skip + length word) s (naming_text s (if b then Some word else None) true)) short
      ∙ ap (λ (r : Result (StringId × StoreState) StoreFault). placed xs (at + skip + length word) s (stored r >>= λ given. Ok (Name given.0 true, given.1))) m.made

  pub literal_read : (name : List ℕ) → drop 1 word ≡ name → length name ≤ 127 → (m : MadeText 127 s name) → Stands text at skip LiteralName word rest → reading s t xs at ≡ placed xs (at + skip + length word) s (Ok (Name m.id false, m.store))
  literal_read name e few m h =
      let short : nat_le (length name) 127 ≡ true = le-leb _ _ few in
      token_read text at skip LiteralName word rest h s t xs is.bytes
      ∙ ap (λ (w : List ℕ). placed xs (at + skip + length word) s (naming_text s (name_text (drop 1 w)) false)) (word_is text at skip LiteralName word rest h)
      ∙ ap (λ (w : List ℕ). placed xs (at + skip + length word) s (naming_text s (name_text w) false)) e
      ∙ ap (λ (b : Bool). placed xs (at + skip + length word) s (naming_text s (if b then Some name else None) false)) short
      ∙ ap (λ (r : Result (StringId × StoreState) StoreFault). placed xs (at + skip + length word) s (stored r >>= λ given. Ok (Name given.0 false, given.1))) m.made

  pub text_read : (bytes : List ℕ) → string_value word ≡ bytes → (m : MadeText 16777216 s bytes) → Stands text at skip TextKind word rest → reading s t xs at ≡ placed xs (at + skip + length word) s (Ok (Str m.id false, m.store))
  text_read bytes e m h =
      token_read text at skip TextKind word rest h s t xs is.bytes
      ∙ ap (λ (w : List ℕ). placed xs (at + skip + length word) s (stored (making_text 16777216 s (string_value w)) >>= λ given. Ok (Str given.0 false, given.1))) (word_is text at skip TextKind word rest h)
      ∙ ap (λ (w : List ℕ). placed xs (at + skip + length word) s (stored (making_text 16777216 s w) >>= λ given. Ok (Str given.0 false, given.1))) e
      ∙ ap (λ (r : Result (StringId × StoreState) StoreFault). placed xs (at + skip + length word) s (stored r >>= λ given. Ok (Str given.0 false, given.1))) m.made

  pub open_read : Stands text at skip Open word rest → reading s t xs at ≡ More s (Mark ∷ xs) (at + skip + length word)
  open_read h = token_read text at skip Open word rest h s t xs is.bytes

  pub close_read : (ys : List PsObj) (items : List PsObj) → xs ≡ onto items (Mark ∷ ys) → AllPlain items → (m : MadeArray s items) → Stands text at skip Close word rest
      → reading s t xs at ≡ placed ys (at + skip + length word) s (Ok (Array m.id true, m.store))
  close_read ys items e plain m h =
      let to : ℕ = at + skip + length word in
      token_read text at skip Close word rest h s t xs is.bytes
      ∙ ap (λ (zs : List PsObj). closed zs to s) e
      ∙ ap (λ (o : Option ℕ). elim o [ None ↦ Bad SyntaxError s | Some n ↦ placed (drop (n + 1) (onto items (Mark ∷ ys))) to s (procedure_of_top s (onto items (Mark ∷ ys)) n) ]) (mark_onto items ys plain)
      ∙ ap (λ (zs : List PsObj). placed zs to s (procedure_of_top s (onto items (Mark ∷ ys)) (length items))) (drop_onto items ys)
      ∙ ap (λ (zs : List PsObj). placed ys to s (stored (making_array s zs) >>= λ given. Ok (Array given.0 true, given.1))) (take_onto items ys)
      ∙ ap (λ (r : Result (ArrayId × StoreState) StoreFault). placed ys to s (stored r >>= λ given. Ok (Array given.0 true, given.1))) m.made

-- one token more
pub token_more : (n : ℕ) (s : StoreState) (t : StringId) (xs : List PsObj) (at : ℕ) (s' : StoreState) (xs' : List PsObj) (at' : ℕ)
    → reading s t xs at ≡ More s' xs' at' → reading_all (suc n) s t xs at ≡ reading_all n s' t xs' at'
token_more n s t xs at s' xs' at' e = ap (λ (r : Read). elim r [
  | More s' xs' at' ↦ reading_all n s' t xs' at'
  | Whole x s' at' ↦ Whole x s' at'
  | Nothing s' ↦ Nothing s'
  | Bad e s' ↦ Bad e s'
]) e

pub token_whole : (n : ℕ) (s : StoreState) (t : StringId) (xs : List PsObj) (at : ℕ) (x : PsObj) (s' : StoreState) (at' : ℕ)
    → reading s t xs at ≡ Whole x s' at' → reading_all (suc n) s t xs at ≡ Whole x s' at'
token_whole n s t xs at x s' at' e = ap (λ (r : Read). elim r [
  | More s' xs' at' ↦ reading_all n s' t xs' at'
  | Whole x s' at' ↦ Whole x s' at'
  | Nothing s' ↦ Nothing s'
  | Bad e s' ↦ Bad e s'
]) e

-- so many tokens more
abbrev pub fuel : Code → ℕ → ℕ
fuel Stop n = n
fuel (Num i rest) n = suc (fuel rest n)
fuel (Word name rest) n = suc (fuel rest n)
fuel (Lit name rest) n = suc (fuel rest n)
fuel (Text bytes rest) n = suc (fuel rest n)
fuel (Proc body rest) n = suc (fuel body (suc (fuel rest n)))

-- a term in an open procedure was read
pub record ReadsAll (k : Code) (post text : List ℕ) (s : StoreState) (t : StringId) (xs : List PsObj) (at : ℕ) : Type 0 where
  pub items : List PsObj
  pub store : StoreState
  pub to : ℕ
  pub reads : (n : ℕ) → reading_all (fuel k n) s t xs at ≡ reading_all n store t (onto items xs) to
  pub grown : Grown (units k) s store
  pub spells : Spells store items k
  pub rest : drop to text ≡ 32 ∷ post

brace : (kind : PsKind) (word rest : List ℕ) (text : List ℕ) (at : ℕ) → drop at text ≡ 32 ∷ (word ++ 32 ∷ rest) → IsToken kind word → Stands text at 1 kind word rest
brace kind word rest text at e h = stands (32 ∷ []) space text at kind word rest e h

-- the texts of a term's first object, and what follows it
pub parts_of : (word more post : List ℕ) → (word ++ 32 ∷ more) ++ post ≡ word ++ 32 ∷ (more ++ post)
parts_of word more post = append_assoc word (32 ∷ more) post

abbrev pub str_token : List ℕ → List ℕ
str_token bytes = 40 ∷ (escaped bytes ++ 41 ∷ [])

pub text_parts : (bytes more post : List ℕ) → (40 ∷ (escaped bytes ++ 41 ∷ 32 ∷ more)) ++ post ≡ str_token bytes ++ 32 ∷ (more ++ post)
text_parts bytes more post = ap (λ xs. 40 ∷ xs) (append_assoc (escaped bytes) (41 ∷ 32 ∷ more) post ∙ sym (append_assoc (escaped bytes) (41 ∷ []) (32 ∷ (more ++ post))))

pub proc_parts : (body more post : List ℕ) → (123 ∷ 32 ∷ (body ++ 125 ∷ 32 ∷ more)) ++ post ≡ (123 ∷ []) ++ 32 ∷ (body ++ 125 ∷ 32 ∷ (more ++ post))
proc_parts body more post = ap (λ xs. 123 ∷ 32 ∷ xs) (append_assoc body (125 ∷ 32 ∷ more) post)

pub is_text : (bytes : List ℕ) → IsToken TextKind (str_token bytes)
is_text bytes = inl (escaped bytes, refl, escaped_body bytes)

pub reads_code : (k : Code) (post text : List ℕ) (s : StoreState) (t : StringId) (y : PsObj) (xs : List PsObj) (at : ℕ)
    → Fine k → IsString s t text → drop at text ≡ 32 ∷ (render k ++ post) → total s + units k ≤ 8000000 → ReadsAll k post text s t (y ∷ xs) at
reads_code Stop post text s t y xs at fine is here room = record { items = []; store = s; to = at; reads = λ n. refl; grown = grown_none s; spells = refl; rest = here }
reads_code (Num i rest) post text s t y xs at fine is here room =
    let word = signed_decimal i in
    let number : IsWord word × (value_of word ≡ Some i) = number_token i fine.0 in
    let h : Stands text at 1 Integer word (render rest ++ post) = stands (32 ∷ []) space text at Integer word (render rest ++ post) (here ∙ ap (λ l. 32 ∷ l) (parts_of word (render rest) post)) (number.0, rw number.1 refl) in
    let to = at + 1 + length word in
    let r : ReadsAll rest post text s t (Int i ∷ y ∷ xs) to = reads_code rest post text s t (Int i) (y ∷ xs) to fine.1 is (behind_token text at 1 Integer word (render rest ++ post) h) room in
    record {
      items = Int i ∷ r.items;
      store = r.store;
      to = r.to;
      reads = λ n. token_more (fuel rest n) s t (y ∷ xs) at s (Int i ∷ y ∷ xs) to (number_read s t text is (y ∷ xs) at 1 word (render rest ++ post) i number.1 h) ∙ r.reads n;
      grown = r.grown;
      spells = (r.items, refl, r.spells);
      rest = r.rest;
    }
reads_code (Word name rest) post text s t y xs at fine is here room =
    let h : Stands text at 1 WordKind name (render rest ++ post) = stands (32 ∷ []) space text at WordKind name (render rest ++ post) (here ∙ ap (λ l. 32 ∷ l) (parts_of name (render rest) post)) fine.0 in
    let to = at + 1 + length name in
    let m : MadeText 127 s name = text_made 127 s name fine.1 (omega arith) in
    let x : PsObj = Name m.id true in
    let now : total m.store ≡ total s + text_units name = total_grown (text_units name) s m.store m.grown in
    let r : ReadsAll rest post text m.store t (x ∷ y ∷ xs) to =
    reads_code rest post text m.store t x (y ∷ xs) to fine.2 (string_kept _ s m.store t text m.grown is) (behind_token text at 1 WordKind name (render rest ++ post) h) (omega arith) in
    record {
      items = x ∷ r.items;
      store = r.store;
      to = r.to;
      reads = λ n. token_more (fuel rest n) s t (y ∷ xs) at m.store (x ∷ y ∷ xs) to (name_read s t text is (y ∷ xs) at 1 name (render rest ++ post) fine.1 m h) ∙ r.reads n;
      grown = grown_on _ _ s m.store r.store m.grown r.grown;
      spells = (m.id, r.items, refl, string_kept _ m.store r.store m.id name r.grown m.is, r.spells);
      rest = r.rest;
    }
reads_code (Lit name rest) post text s t y xs at fine is here room =
    let word = 47 ∷ name in
    let h : Stands text at 1 LiteralName word (render rest ++ post) = stands (32 ∷ []) space text at LiteralName word (render rest ++ post) (here ∙ ap (λ l. 32 ∷ l) (parts_of word (render rest) post)) (name, refl, fine.0) in
    let to = at + 1 + length word in
    let m : MadeText 127 s name = text_made 127 s name fine.1 (omega arith) in
    let x : PsObj = Name m.id false in
    let now : total m.store ≡ total s + text_units name = total_grown (text_units name) s m.store m.grown in
    let r : ReadsAll rest post text m.store t (x ∷ y ∷ xs) to =
    reads_code rest post text m.store t x (y ∷ xs) to fine.2 (string_kept _ s m.store t text m.grown is) (behind_token text at 1 LiteralName word (render rest ++ post) h) (omega arith) in
    record {
      items = x ∷ r.items;
      store = r.store;
      to = r.to;
      reads = λ n. token_more (fuel rest n) s t (y ∷ xs) at m.store (x ∷ y ∷ xs) to (literal_read s t text is (y ∷ xs) at 1 word (render rest ++ post) name refl fine.1 m h) ∙ r.reads n;
      grown = grown_on _ _ s m.store r.store m.grown r.grown;
      spells = (m.id, r.items, refl, string_kept _ m.store r.store m.id name r.grown m.is, r.spells);
      rest = r.rest;
    }
reads_code (Text bytes rest) post text s t y xs at fine is here room =
    let word = str_token bytes in
    let h : Stands text at 1 TextKind word (render rest ++ post) = stands (32 ∷ []) space text at TextKind word (render rest ++ post) (here ∙ ap (λ l. 32 ∷ l) (text_parts bytes (render rest) post)) (is_text bytes) in
    let to = at + 1 + length word in
    let m : MadeText 16777216 s bytes = text_made 16777216 s bytes fine.0 (omega arith) in
    let x : PsObj = Str m.id false in
    let now : total m.store ≡ total s + text_units bytes = total_grown (text_units bytes) s m.store m.grown in
    let r : ReadsAll rest post text m.store t (x ∷ y ∷ xs) to =
    reads_code rest post text m.store t x (y ∷ xs) to fine.1 (string_kept _ s m.store t text m.grown is) (behind_token text at 1 TextKind word (render rest ++ post) h) (omega arith) in
    record {
      items = x ∷ r.items;
      store = r.store;
      to = r.to;
      reads = λ n. token_more (fuel rest n) s t (y ∷ xs) at m.store (x ∷ y ∷ xs) to (text_read s t text is (y ∷ xs) at 1 word (render rest ++ post) bytes (string_of_escaped bytes) m h) ∙ r.reads n;
      grown = grown_on _ _ s m.store r.store m.grown r.grown;
      spells = (m.id, r.items, refl, string_kept _ m.store r.store m.id bytes r.grown m.is, r.spells);
      rest = r.rest;
    }
reads_code (Proc body rest) post text s t y xs at fine is here room =
    let after = render rest ++ post in
    let whole = render body ++ 125 ∷ 32 ∷ after in
    let h : Stands text at 1 Open (123 ∷ []) whole = stands (32 ∷ []) space text at Open (123 ∷ []) whole (here ∙ ap (λ l. 32 ∷ l) (proc_parts (render body) (render rest) post)) refl in
    let to₁ = at + 1 + 1 in
    let r₁ : ReadsAll body (125 ∷ 32 ∷ after) text s t (Mark ∷ y ∷ xs) to₁ = reads_code body (125 ∷ 32 ∷ after) text s t Mark (y ∷ xs) to₁ fine.0 is (behind_token text at 1 Open (123 ∷ []) whole h) (omega arith) in
    let is₁ : IsString r₁.store t text = string_kept _ s r₁.store t text r₁.grown is in
    let now₁ : total r₁.store ≡ total s + units body = total_grown _ s r₁.store r₁.grown in
    let len : length r₁.items ≡ size body = spells_size body r₁.store r₁.items r₁.spells in
    let m : MadeArray r₁.store r₁.items = array_made r₁.store r₁.items (omega arith) (omega arith) in
    let x : PsObj = Array m.id true in
    let h₂ : Stands text r₁.to 1 Close (125 ∷ []) after = stands (32 ∷ []) space text r₁.to Close (125 ∷ []) after r₁.rest refl in
    let to₂ = r₁.to + 1 + 1 in
    let grown₂ : Grown (units body + (1 + length r₁.items)) s m.store = grown_on _ _ s r₁.store m.store r₁.grown m.grown in
    let now₂ : total m.store ≡ total s + (units body + (1 + length r₁.items)) = total_grown _ s m.store grown₂ in
    let r : ReadsAll rest post text m.store t (x ∷ y ∷ xs) to₂ =
    reads_code rest post text m.store t x (y ∷ xs) to₂ fine.2 (string_kept _ s m.store t text grown₂ is) (behind_token text r₁.to 1 Close (125 ∷ []) after h₂) (omega arith) in
    record {
      items = x ∷ r.items;
      store = r.store;
      to = r.to;
      reads = λ n.
          token_more (fuel body (suc (fuel rest n))) s t (y ∷ xs) at s (Mark ∷ y ∷ xs) to₁ (open_read s t text is (y ∷ xs) at 1 (123 ∷ []) whole h)
          ∙ r₁.reads (suc (fuel rest n))
          ∙ token_more (fuel rest n) r₁.store t (onto r₁.items (Mark ∷ y ∷ xs)) r₁.to m.store (x ∷ y ∷ xs) to₂
          (close_read r₁.store t text is₁ (onto r₁.items (Mark ∷ y ∷ xs)) r₁.to 1 (125 ∷ []) after (y ∷ xs) r₁.items refl (spells_plain body r₁.store r₁.items r₁.spells) m h₂)
          ∙ r.reads n;
      grown = subst (λ n. Grown (units body + (1 + n) + units rest) s r.store) len (grown_on _ _ s m.store r.store grown₂ r.grown);
      spells = (m.id, r₁.items, r.items, refl, array_kept _ m.store r.store m.id r₁.items r.grown m.is, spells_kept body _ r₁.store r.store r₁.items (grown_on _ _ r₁.store m.store r.store m.grown r.grown) r₁.spells, r.spells);
      rest = r.rest;
    }
