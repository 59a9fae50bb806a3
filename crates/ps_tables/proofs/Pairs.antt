-- Pairs of names and values become a dictionary.
use Rattle.std.proofs.Common.{◌≡◌, ℕ, suc, ◌+◌, ◌*◌, ◌%◌, ◌<◌, ◌≤◌, Bool, true, false, ◌==◌, Option, Some, None, Result, Ok, Err, List, [], ◌∷◌, ◌++◌, length, map, reverse, take, drop, codes, refl, sym, ap, ◌∙◌, subst, arith, length-append, take_at, drop_at, append_assoc, if◌then◌else◌}
use Rattle.std.proofs.lemmas.List.{length-reverse, reverse-append}
use Rattle.std.proofs.Math.Nat.{mul-mod_right}
use Rattle.ps_scan.specs.Bytes.{is_regular, is_white, is_special}
use Rattle.ps_store.specs.declared.object.PsObj.{PsObj}
use Rattle.ps_store.specs.declared.object.PsObj.TheVariants.{Name, Dict, Op, Mark}
use Rattle.ps_store.specs.declared.object.DictId.{DictId}
use Rattle.ps_store.specs.declared.object.StringId.{StringId}
use Rattle.ps_store.specs.declared.object.Pair.{Pair}
use Rattle.ps_store.specs.declared.key.Key.{Key}
use Rattle.ps_store.specs.Operators.{operator_number}
use Rattle.ps_store.specs.StoreState.{StoreState}
use Rattle.ps_store.specs.Store.{Given, entries_of, making_dict}
use Rattle.ps_step.specs.declared.fault.PsError.{PsError}
use Rattle.ps_step.specs.declared.fault.PsError.TheVariants.{UnmatchedMark, RangeCheck}
use Rattle.ps_step.specs.declared.item.Item.{Item}
use Rattle.ps_step.specs.declared.item.Item.TheVariants.{Text as TextItem}
use Rattle.ps_step.specs.declared.machine.PsCore.{PsCore}
use Rattle.ps_step.specs.Results.{◌>>=◌, stored, at as at_state}
use Rattle.ps_step.specs.Composites.{MadePart, put_in, putting_objects, filled as filling}
use Rattle.ps_step.specs.CopyOperators.{MadeOrLeft, replacing}
use Rattle.ps_step.specs.Executing.{alone}
use Rattle.ps_run.specs.Step.{Next, settled, step}
use Rattle.ps_text.specs.Code.{Code, Stop, Word, render}
use Rattle.ps_text.specs.Grown.{IsString}
use Rattle.ps_text.specs.Spells.{Fine, units}
use Rattle.ps_text.proofs.Checks.{fine}
use Rattle.ps_terms.specs.Stands.{core}
use Rattle.ps_tables.specs.Dictionaries.{Fields, updated, AreFields, none as no_fields, with_dict, next_dict}
use Rattle.ps_tables.specs.Making.{IsMaking, AreShort, HasFields}
use Rattle.ps_tables.specs.Later.{Later, StandsAt}
use Rattle.ps_tables.specs.Pieces.{Values, Bottom, This, Named, Written, Runs, Quoted, Listed, Entry, Under, Paired, OfType, That, Show, OnlyPairs, pairs}
use Rattle.ps_tables.proofs.Kept.{made_same, kept_string}
use Rattle.ps_tables.proofs.Putting.{put_at, put_made, put_length, fields_at, entries_there}
use Rattle.ps_tables.proofs.Copies.{fields_length}
use Rattle.ps_tables.proofs.Words.{dict_made}
use Rattle.ps_tables.proofs.Stores.{later_then, later_within, later_made, stands_later, fields_are_later}
use Rattle.ps_tables.proofs.Makers.{short_updated}
use Rattle.ps_tables.proofs.Tokens.{Acted, word_acts}
use Rattle.ps_tables.proofs.Values.{mark_shown}

close_fine : Fine (Word (codes ">>") Stop)
unfolding is_white is_special is_regular
close_fine = fine (Word (codes ">>") Stop) refl

close_number : operator_number (codes ">>") ≡ Some 12
unfolding operator_number
close_number = refl

-- ---- objects two by two

abbrev Even : List PsObj → Type 0
Even [] = Unit {0}
Even (x ∷ []) = ⊥
Even (x ∷ y ∷ xs) = Even xs

even_append : (xs ys : List PsObj) → Even xs → Even ys → Even (xs ++ ys)
even_append [] ys h k = k
even_append (x ∷ []) ys h k = absurd h
even_append (x ∷ y ∷ xs) ys h k = even_append xs ys h k

half : (xs : List PsObj) → Even xs → (k : ℕ) × (length xs ≡ 2 * k)
half [] h = (0, refl)
half (x ∷ []) h = absurd h
half (x ∷ y ∷ xs) h = let r = half xs h in (suc r.0, (let e = r.1 in omega arith))

even_length : (xs : List PsObj) → Even xs → (length xs % 2 == 1) ≡ false
even_length xs h =
    let r = half xs h in
    let e : length xs % 2 ≡ 0 = ap (λ n. n % 2) r.1 ∙ mul-mod_right 2 r.0 in
    ap (λ n. n == 1) e

put_append : (d : DictId) (xs ys : List PsObj) (s : StoreState) → Even xs → putting_objects s d (xs ++ ys) ≡ (putting_objects s d xs >>= λ s'. putting_objects s' d ys)
put_append d [] ys s h = refl
put_append d (x ∷ []) ys s h = absurd h
put_append d (x ∷ y ∷ xs) ys s h = by (λ s'. put_append d xs ys s' h) (at_state s (put_in s (Dict d) x y))
  where
    by : ((s' : StoreState) → putting_objects s' d (xs ++ ys) ≡ (putting_objects s' d xs >>= λ s₂. putting_objects s₂ d ys)) → (r : Result StoreState (PsError × StoreState)) → (r >>= λ s'. putting_objects s' d (xs ++ ys)) ≡ ((r >>= λ s'. putting_objects s' d xs) >>= λ s'. putting_objects s' d ys)
    by rest (Ok s') = rest s'
    by rest (Err e) = refl

-- ---- the dictionary

module _ (s : StoreState) (closed : s.closed.dicts ≤ length s.table.dicts) where
  abbrev D : DictId
  D = next_dict s

  pub record Puts (zs : List PsObj) (fields : Fields) : Type 0 where
    pub entries : List (Key × Pair)
    pub are : AreFields s entries fields
    pub short : AreShort (map (λ f. f.0) fields)
    pub even : Even (reverse zs)
    pub few : 2 * length entries ≤ length zs
    pub put : putting_objects (with_dict s []) D (reverse zs) ≡ Ok (with_dict s entries)

  pub puts : (items : Values) (zs : List PsObj) → OnlyPairs items → Show s zs items → length zs ≤ 1000000 → 2 * (s.table.units + s.command.units) + 2 + length zs ≤ 16000000 → Puts zs (pairs items zs)
  puts Bottom zs only h few room =
      subst (λ (l : List PsObj). Puts l (pairs Bottom l)) (sym h)
      (record { entries = []; are = no_fields; short = tt; even = tt; few = omega arith; put = refl })
  puts (Under name value below) zs only h few room =
      let v : PsObj = h.0 in
      let t : StringId = h.1 in
      let ys : List PsObj = h.2 in
      let len : length zs ≡ suc (suc (length ys)) = ap length h.3 in
      let p : Puts ys (pairs below ys) = puts below ys only h.7 (omega arith) (omega arith) in
      let size = p.few in
      let es : List (Key × Pair) = put_at p.entries name t v in
      let longer : length es ≤ length p.entries + 1 = put_length p.entries name t v in
      let two : reverse (v ∷ Name t false ∷ ys) ≡ reverse ys ++ Name t false ∷ v ∷ [] = reverse-append (v ∷ Name t false ∷ []) ys in
      let placed : put_in (with_dict s p.entries) (Dict D) (Name t false) v ≡ Ok (with_dict s es) =
      put_made s closed p.entries name t v (omega arith) (omega arith) h.5 (kept_string s (with_dict s p.entries) (made_same s p.entries) t name h.4).bytes in
      subst (λ (l : List PsObj). Puts l (pairs (Under name value below) l)) (sym h.3)
      (record {
        entries = es;
        are = fields_at s p.entries (pairs below ys) name t v h.4 p.are;
        short = short_updated (pairs below ys) name v p.short h.5;
        even = subst Even (sym two) (even_append (reverse ys) (Name t false ∷ v ∷ []) p.even tt);
        few = omega arith;
        put = ap (putting_objects (with_dict s []) D) two
            ∙ put_append D (reverse ys) (Name t false ∷ v ∷ []) (with_dict s []) p.even
            ∙ ap (λ (r : Result StoreState (PsError × StoreState)). r >>= λ s'. putting_objects s' D (Name t false ∷ v ∷ [])) p.put
            ∙ ap (λ (r : Result StoreState PsError). at_state (with_dict s p.entries) r >>= λ s'. putting_objects s' D []) placed;
      })
  puts (This x below) zs only h few room = absurd only
  puts (Named name below) zs only h few room = absurd only
  puts (Written text below) zs only h few room = absurd only
  puts (Runs text below) zs only h few room = absurd only
  puts (Quoted body below) zs only h few room = absurd only
  puts (Listed items below) zs only h few room = absurd only
  puts (Entry m parts below) zs only h few room = absurd only
  puts (Paired items below) zs only h few room = absurd only
  puts (OfType t' below) zs only h few room = absurd only
  puts (That x below) zs only h few room = absurd only

-- ---- `>>`

module _ (s : StoreState) (ds : List DictId) (is : IsMaking s ds) (t : StringId) (under : List Item) where
  -- a dictionary takes the place of what is above the mark
  pub record ClosesPairs (items : Values) (zs o : List PsObj) (at : ℕ) (text : List ℕ) (cost : ℕ) : Type 0 where
    pub store : StoreState
    pub dict : DictId
    pub to : ℕ
    pub later : Later cost s store
    pub has : HasFields store dict (pairs items zs)
    pub stands : StandsAt store t to text
    pub steps : step (core s ds (zs ++ Mark ∷ o) (TextItem t at ∷ under)) ≡ Next (core store ds (Dict dict ∷ o) (TextItem t to ∷ under))

  abbrev closed_pairs : PsCore → Option ℕ → MadeOrLeft
  closed_pairs c found = elim found [
    | None ↦ Err (UnmatchedMark, c)
    | Some n ↦ if n % 2 == 1 then Err (RangeCheck, c) else replacing (n + 1) c (filling c.store (reverse (take n c.operands)))
  ]

  pub closes_pairs : (items : Values) (k : Code) (post : List ℕ) (zs o : List PsObj) (at n : ℕ) → OnlyPairs items → Show s zs items → length zs ≡ 2 * n → length zs ≤ 1000000
      → s.table.units + s.command.units + (units (Word (codes ">>") Stop) + (1 + n)) ≤ 8000000 → StandsAt s t at (render (Word (codes ">>") k) ++ post)
      → ((s₁ : StoreState) → Later (units (Word (codes ">>") Stop)) s s₁ → IsMaking s₁ ds × Show s₁ zs items)
      → ClosesPairs items zs o at (render k ++ post) (units (Word (codes ">>") Stop) + (1 + n))
  closes_pairs items k post zs o at n only shows double few room h kept =
      let u : ℕ = units (Word (codes ">>") Stop) in
      let all : List PsObj = zs ++ Mark ∷ o in
      let a : Acted s ds all t at under (Op 12) u (render k ++ post) =
      word_acts s ds all t at under (codes ">>") k post (Op 12) close_fine (is.operators (codes ">>") 12 close_number) is.there h (omega arith) in
      let s₁ : StoreState = a.store in
      let counted : s₁.table.units + s₁.command.units ≤ s.table.units + s.command.units + u = a.later.counted in
      let both : IsMaking s₁ ds × Show s₁ zs items = kept s₁ a.later in
      let is₁ : IsMaking s₁ ds = both.0 in
      let p : Puts s₁ is₁.closed zs (pairs items zs) = puts s₁ is₁.closed items zs only both.1 few (omega arith) in
      let half_few = p.few in
      let es : List (Key × Pair) = p.entries in
      let s₂ : StoreState = with_dict s₁ es in
      let made : Later (1 + length es) s₁ s₂ = later_made s₁ es is₁.part in
      let there : entries_of s₂ (next_dict s₁) ≡ es = entries_there s₁ is₁.closed es in
      let c : PsCore = core s₁ ds all (TextItem t a.to ∷ under) in
      let len : length (reverse zs) ≡ length zs = length-reverse zs in
      let even : (length zs % 2 == 1) ≡ false = ap (λ m. m % 2 == 1) (sym len) ∙ even_length (reverse zs) p.even in
      let taken : take (length zs) all ≡ zs = take_at zs (Mark ∷ o) (length zs) refl in
      let left : drop (length zs + 1) all ≡ o =
      ap (drop (length zs + 1)) (sym (append_assoc zs (Mark ∷ []) o)) ∙ drop_at (zs ++ Mark ∷ []) o (length zs + 1) (length-append zs (Mark ∷ [])) in
      let made_dict : making_dict s₁ ≡ Ok (next_dict s₁, with_dict s₁ []) = dict_made s₁ ds is₁ (omega arith) in
      record {
        store = s₂;
        dict = next_dict s₁;
        to = a.to;
        later = later_within (u + (1 + length es)) (u + (1 + n)) s s₂ (omega arith) (later_then u (1 + length es) s s₁ s₂ a.later made);
        has = record {
          is_there = let long : length (s₁.table.dicts ++ es ∷ []) ≡ length s₁.table.dicts + 1 = length-append s₁.table.dicts (es ∷ []) in omega arith;
          are = subst (λ (l : List (Key × Pair)). AreFields s₂ l (pairs items zs)) (sym there) (fields_are_later (1 + length es) s₁ s₂ made es (pairs items zs) p.are);
          short = p.short;
        };
        stands = stands_later (1 + length es) s₁ s₂ made t a.to (render k ++ post) a.stands;
        steps = a.steps
            ∙ ap (λ (found : Option ℕ). settled (alone (closed_pairs c found))) (mark_shown s₁ items zs (Mark ∷ o) 0 both.1)
            ∙ ap (λ (m : ℕ). settled (alone (closed_pairs c (Some m)))) (let zero_more : 0 + length zs ≡ length zs = omega arith in zero_more)
            ∙ ap (λ (b : Bool). settled (alone (if b then Err (RangeCheck, c) else replacing (length zs + 1) c (filling s₁ (reverse (take (length zs) all)))))) even
            ∙ ap (λ (l : List PsObj). settled (alone (replacing (length zs + 1) c (filling s₁ (reverse l))))) taken
            ∙ ap (λ (g : Given DictId). settled (alone (replacing (length zs + 1) c (at_state s₁ (stored g) >>= λ given. putting_objects given.1 given.0 (reverse zs) >>= λ s'. Ok (Dict given.0, s'))))) made_dict
            ∙ ap (λ (r : Result StoreState (PsError × StoreState)). settled (alone (replacing (length zs + 1) c (r >>= λ s'. Ok (Dict (next_dict s₁), s'))))) p.put
            ∙ ap (λ (l : List PsObj). Next (core s₂ ds (Dict (next_dict s₁) ∷ l) (TextItem t a.to ∷ under))) left;
      }
