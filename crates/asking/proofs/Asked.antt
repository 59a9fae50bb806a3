-- Parts of commands one after another that ask the memory of a target alone.
use Rattle.std.proofs.Common.{◌≡◌, ◌≢◌, ◌∙◌, refl, sym, ap, ℕ, zero, suc, ◌+◌, ◌-◌, ◌*◌, arith, List, [], ◌∷◌, ◌++◌, append_assoc, codes, Option, Some, None, option_map, Result, Ok, Err}
use Rattle.std.proofs.lemmas.List.{append-nil}
use Rattle.ldb_words.specs.declared.kinds.Kind.{Kind}
use Rattle.ldb_words.specs.Word.{sum_of}
use Rattle.frame_bytes.specs.Bytes.{Bytes, fetched}
use Rattle.frame_bytes.specs.declared.frame.Place.{Place}
use Rattle.abs_mem.specs.Meaning.{Seen, Same, OnTold, Fetches, Led}
use Rattle.abs_mem.specs.declared.memory.MemFault.{MemFault}
use Rattle.abs_mem.specs.declared.memory.MemFault.TheVariants.{Outside, LinkFault, BadReply}
use Rattle.abs_mem.proofs.Walks.{same_then, rose_then}
use Rattle.ps_leaves.specs.Forms.{hex_text}
use Rattle.break_plant.specs.Planted.{word_at}
use Rattle.table_asks.specs.Faults.{memory_fault}
use Rattle.table_asks.specs.Asking.{LedAsk}
use Rattle.table_asks.specs.declared.fault.AskFault.{AskFault}
use Rattle.table_asks.specs.declared.fault.AskFault.TheVariants.{Refused, Raised, Spent, NoMemory, Broken}
use Rattle.asking.specs.Doing.{Asks}
use Rattle.asking.specs.Lines.{line, target_text, words_text}
use Rattle.asking.specs.Raw.{with_word, context_words, words_behind, regs_line}

-- ---- what is asked

module _ {R : Type 0} (s u v : Seen R) where
  -- what comes behind a word that was told
  pub asks_then : {A : Type 0} (f g : Bytes → Option A) (r : Result A AskFault) → Same s u → OnTold s (λ b. f b ≡ g b) → Asks u g r v → Asks s f r v
  asks_then f g (Ok x) same e h = (same_then s u v same h.0, record { holds = λ (b : Bytes) (r : R) t. e.holds b r t ∙ h.1.holds b r (same.keeps b r t) })
  asks_then f g (Err (Raised x)) same e h = (h.0, same_then s u v same h.1, record { holds = λ (b : Bytes) (r : R) t. e.holds b r t ∙ h.2.holds b r (same.keeps b r t) })
  asks_then f g (Err NoMemory) same e h = same_then s u v same h
  asks_then f g (Err (Broken LinkFault)) same e h = rose_then s.faults u.faults v.faults same.faults h
  asks_then f g (Err (Broken (BadReply frame))) same e h = record { faults = h.faults ∙ same.faults; never = λ (b : Bytes) (r : R) t. h.never b r (same.keeps b r t) }
  asks_then f g (Err (Broken (Outside p))) same e h = absurd h
  asks_then f g (Err (Refused cause)) same e h = absurd h
  asks_then f g (Err Spent) same e h = absurd h

module _ {R : Type 0} (s v : Seen R) where
  -- what is made of an answer, and of a fault
  pub asks_ok : {A B : Type 0} (f : Bytes → Option A) (g : Bytes → Option B) (x : A) (y : B) → ((b : Bytes) → g b ≡ Some y → f b ≡ Some x) → Asks s g (Ok y) v → Asks s f (Ok x) v
  asks_ok f g x y on h = (h.0, record { holds = λ (b : Bytes) (r : R) t. on b (h.1.holds b r t) })

  pub asks_err : {A B : Type 0} (f : Bytes → Option A) (g : Bytes → Option B) (x : AskFault) → ((b : Bytes) → g b ≡ None → f b ≡ None) → Asks s {A = B} g (Err x) v → Asks s {A = A} f (Err x) v
  asks_err f g (Raised x) on h = (h.0, h.1, record { holds = λ (b : Bytes) (r : R) t. on b (h.2.holds b r t) })
  asks_err f g NoMemory on h = h
  asks_err f g (Broken LinkFault) on h = h
  asks_err f g (Broken (BadReply frame)) on h = h
  asks_err f g (Broken (Outside p)) on h = absurd h
  asks_err f g (Refused cause) on h = absurd h
  asks_err f g Spent on h = absurd h

  -- a word that isn't told
  pub asks_fails : {A : Type 0} (f : Bytes → Option A) (p : Place) (k : Kind) (x : MemFault) → Fetches s p k (Err x) v → ((b : Bytes) → fetched b p.space p.at k ≡ None → f b ≡ None) → Asks s f (Err (memory_fault x)) v
  asks_fails f p k (Outside q) h on = (refl, h.1, record { holds = λ (b : Bytes) (r : R) t. on b (h.2.holds b r t) })
  asks_fails f p k LinkFault h on = h
  asks_fails f p k (BadReply frame) h on = h

-- ---- its calls

module _ {M : Type 0} (leads : M → Option (List ℕ) → M → Type 0) (a : M) where
  pub led_fault : (A B : Type 0) (x : MemFault) (b : M) → Led {A = A} leads a (Err x) b → LedAsk {A = B} leads a (Err (memory_fault x)) b
  led_fault A B (Outside q) b h = h
  led_fault A B LinkFault b h = tt
  led_fault A B (BadReply frame) b h = h

  -- the same fault of another result
  pub led_as : (A B : Type 0) (x : AskFault) (b : M) → LedAsk {A = A} leads a (Err x) b → LedAsk {A = B} leads a (Err x) b
  led_as A B (Refused cause) b h = h
  led_as A B (Raised e) b h = h
  led_as A B Spent b h = h
  led_as A B NoMemory b h = h
  led_as A B (Broken LinkFault) b h = tt
  led_as A B (Broken (BadReply frame)) b h = h
  led_as A B (Broken (Outside p)) b h = h

  pub led_then : {A : Type 0} (b c : M) (r : Result A AskFault) → ((o : Option (List ℕ)) → leads a None b → leads b o c → leads a o c) → leads a None b → LedAsk leads b r c → LedAsk leads a r c
  led_then b c (Ok x) go h k = go None h k
  led_then b c (Err (Refused cause)) go h k = go None h k
  led_then b c (Err (Raised e)) go h k = go None h k
  led_then b c (Err Spent) go h k = go None h k
  led_then b c (Err NoMemory) go h k = go None h k
  led_then b c (Err (Broken LinkFault)) go h k = tt
  led_then b c (Err (Broken (BadReply frame))) go h k = go (Some frame.items) h k
  led_then b c (Err (Broken (Outside p))) go h k = go None h k

-- ---- the words of a context block

abbrev some_of : {A : Type 0} → A → Option A
some_of x = Some x

some_is : {A : Type 0} (x y : A) → some_of x ≡ some_of y → x ≡ y
some_is x y h = cc

pub mapped_some : {A B C : Type 0} (f : A → B) (g : A → C) (o : Option A) (x : B) (y : C) → ((a : A) → f a ≡ x → g a ≡ y) → option_map f o ≡ Some x → option_map g o ≡ Some y
mapped_some {C = C} f g (Some a) x y on e = ap (λ (z : C). some_of z) (on a (some_is (f a) x e))
mapped_some f g None x y on e = absurd (let i = e in cc)

pub mapped_none : {A B C : Type 0} (f : A → B) (g : A → C) (o : Option A) → option_map f o ≡ None → option_map g o ≡ None
mapped_none f g (Some a) e = absurd (let i = e in cc)
mapped_none f g None e = refl

module _ (b : Bytes) (context : ℕ) where
  pub no_words : (text : List ℕ) (k n : ℕ) → n ≡ 0 → words_behind text context k n b ≡ Some text
  no_words text k zero e = ap (λ (xs : List ℕ). some_of xs) (append-nil text)
  no_words text k (suc n) e = absurd (let i = e in cc)

  pub words_outside : (text : List ℕ) (k n : ℕ) → n ≢ 0 → word_at b (sum_of context (4 * k)) ≡ None → words_behind text context k n b ≡ None
  words_outside text k zero h e = absurd (h refl)
  words_outside text k (suc n) h e = ap (λ (o : Option ℕ). option_map (λ ws. text ++ words_text ws) (with_word o (context_words b context (suc k) n))) e

  mapped_twice : (text : List ℕ) (w : ℕ) (o : Option (List ℕ)) → option_map (λ ws. text ++ words_text ws) (with_word (Some w) o) ≡ option_map (λ ws. (text ++ (codes " " ++ hex_text 8 w)) ++ words_text ws) o
  mapped_twice text w None = refl
  mapped_twice text w (Some ws) = ap (λ (xs : List ℕ). Some xs) (sym (append_assoc text (codes " " ++ hex_text 8 w) (words_text ws) ∙ ap (λ (xs : List ℕ). text ++ xs) (append_assoc (codes " ") (hex_text 8 w) (words_text ws))))

  pub words_further : (text : List ℕ) (k n w : ℕ) → n ≢ 0 → word_at b (sum_of context (4 * k)) ≡ Some w → words_behind text context k n b ≡ words_behind (text ++ (codes " " ++ hex_text 8 w)) context (k + 1) (n - 1) b
  words_further text k zero w h e = absurd (h refl)
  words_further text k (suc n) w h e =
      let one : suc k ≡ k + 1 = omega arith in
      let less : n ≡ suc n - 1 = omega arith in
      let further : List ℕ = text ++ (codes " " ++ hex_text 8 w) in
      ap (λ (o : Option ℕ). option_map (λ ws. text ++ words_text ws) (with_word o (context_words b context (suc k) n))) e
      ∙ mapped_twice text w (context_words b context (suc k) n)
      ∙ ap (λ (j : ℕ). words_behind further context j n b) one
      ∙ ap (λ (j : ℕ). words_behind further context (k + 1) j b) less

pub regs_told : (target context : ℕ) (b : Bytes) (text : List ℕ) → words_behind (codes "regs " ++ target_text target) context 0 36 b ≡ Some text → regs_line target context b ≡ Some (text ++ 10 ∷ [])
regs_told target context b text e =
    mapped_some (λ ws. (codes "regs " ++ target_text target) ++ words_text ws) (λ ws. line (codes "regs " ++ (target_text target ++ words_text ws))) (context_words b context 0 36) text (text ++ 10 ∷ [])
    (λ ws i. ap (λ (xs : List ℕ). xs ++ 10 ∷ []) (sym (append_assoc (codes "regs ") (target_text target) (words_text ws)) ∙ i)) e

pub regs_untold : (target context : ℕ) (b : Bytes) → words_behind (codes "regs " ++ target_text target) context 0 36 b ≡ None → regs_line target context b ≡ None
regs_untold target context b e =
    mapped_none (λ ws. (codes "regs " ++ target_text target) ++ words_text ws) (λ ws. line (codes "regs " ++ (target_text target ++ words_text ws))) (context_words b context 0 36) e
