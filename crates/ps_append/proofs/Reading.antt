-- Bytes that are read one after another.
use Rattle.std.proofs.Common.{◌≡◌, refl, sym, ap, subst, ◌∙◌, ℕ, zero, suc, ◌%◌, ◌==◌, Bool, true, false, Option, Some, None, Result, Ok, Err, List, [], ◌∷◌, ◌++◌, drop, append-nil, append_assoc}
use Rattle.ldb_edge.specs.Count.{Rose}
use Rattle.ldb_words.specs.Word.{sum_of}
use Rattle.ldb_words.specs.declared.kinds.Kind.TheVariants.{Byte}
use Rattle.c_show.specs.Printed.{string_text}
use Rattle.frame_bytes.specs.declared.frame.Place.{Place}
use Rattle.frame_bytes.specs.Bytes.{Bytes, fetched}
use Rattle.ps_step.specs.declared.fault.PsError.{PsError}
use Rattle.ps_step.specs.declared.fault.PsFault.TheVariants.{Error, Spent, Link, NoMemory}
use Rattle.ps_step.specs.declared.machine.PsCore.{PsCore}
use Rattle.ps_step.specs.Results.{◌>>=◌}
use Rattle.ps_step.specs.State.{with_operands}
use Rattle.abs_mem.specs.Meaning.{Seen, Same, OnTold, Untold, Fetches}
use Rattle.ps_places.specs.Accesses.{or_outside, troubled}
use Rattle.abs_mem.specs.declared.memory.MemFault.{MemFault}
use Rattle.abs_mem.specs.declared.memory.MemFault.TheVariants.{Outside, LinkFault, BadReply}
use Rattle.ps_places.specs.declared.access.Trouble.{Trouble}
use Rattle.ps_places.specs.declared.access.Trouble.TheVariants.{Ps, Broken}
use Rattle.ps_append.specs.Characters.{bytes_from, string_place, appending_chars, ReadsBytes, AppendsChars}

abbrev Given : Type 0
Given = Result (List ℕ) PsError

abbrev behind : ℕ → Bytes → Place → ℕ → Given
behind m b p x = elim (x % 256 == 0) [ true ↦ Ok [] | false ↦ bytes_from m b (record p { at = sum_of p.at 1 }) >>= λ bs. Ok ((x % 256) ∷ bs) ]

bytes_next : (n m : ℕ) (b : Bytes) (p : Place) → n ≡ suc m → bytes_from n b p ≡ (or_outside (fetched b p.space p.at Byte) >>= behind m b p)
bytes_next n m b p e = ap (λ k. bytes_from k b p) e

-- where the byte is known
bytes_at : (n m : ℕ) (b : Bytes) (p : Place) (v : ℕ) → n ≡ suc m → fetched b p.space p.at Byte ≡ Some v → bytes_from n b p ≡ behind m b p v
bytes_at n m b p v e known = bytes_next n m b p e ∙ ap (λ (o : Option ℕ). or_outside o >>= behind m b p) known

module _ {R : Type 0} where
  pub same_same : (s : Seen R) → Same s s
  same_same s = record { faults = refl; keeps = λ b r h. h }

  pub same_on : (s t u : Seen R) → Same s t → Same t u → Same s u
  same_on s t u h k = record { faults = k.faults ∙ h.faults; keeps = λ b r x. k.keeps b r (h.keeps b r x) }

  -- no more is read
  pub none_read : (s : Seen R) (p : Place) (n : ℕ) (old : List ℕ) → n ≡ 0 → ReadsBytes (λ b. bytes_from n b p) old s (Ok tt) old s
  none_read s p n old e =
      (same_same s, record { holds = λ b r h. ap (λ k. bytes_from k b p >>= λ bs. Ok (old ++ bs)) e ∙ ap Ok (append-nil old) })

  -- a byte is outside, or the memory did not answer
  pub fault_read : (s t : Seen R) (p : Place) (n m : ℕ) (old : List ℕ) (f : MemFault) → n ≡ suc m → Fetches s p Byte (Err f) t → ReadsBytes (λ b. bytes_from n b p) old s (Err (troubled f)) old t
  fault_read s t p n m old (Outside q) e h =
      (h.1, record { holds = λ b r x. bytes_next n m b p e ∙ ap (λ (o : Option ℕ). or_outside o >>= behind m b p) (h.2.holds b r x) })
  fault_read s t p n m old LinkFault e h = h
  fault_read s t p n m old (BadReply frame) e h = h

  -- there is no room for a byte
  pub no_room : (s t : Seen R) (p : Place) (n v : ℕ) (old new : List ℕ) → Fetches s p Byte (Ok v) t → ReadsBytes (λ b. bytes_from n b p) old s (Err (Ps NoMemory)) new t
  no_room s t p n v old new h = h.0

  -- a NUL
  pub end_read : (s t : Seen R) (p : Place) (n m v : ℕ) (old : List ℕ) → n ≡ suc m → Fetches s p Byte (Ok v) t → (v % 256 == 0) ≡ true → ReadsBytes (λ b. bytes_from n b p) old s (Ok tt) old t
  end_read s t p n m v old e h z = (
    h.0,
    record {
      holds = λ b r x.
          ap (λ (g : Given). g >>= λ bs. Ok (old ++ bs))
          (bytes_at n m b p v e (h.1.holds b r x) ∙ ap (λ (c : Bool). elim c [ true ↦ Ok [] | false ↦ bytes_from m b (record p { at = sum_of p.at 1 }) >>= λ bs. Ok ((v % 256) ∷ bs) ]) z)
          ∙ ap Ok (append-nil old);
    },
  )

  module _ (s t u : Seen R) (p : Place) (n m v : ℕ) (old new : List ℕ) (e : n ≡ suc m) (h : Fetches s p Byte (Ok v) t) (z : (v % 256 == 0) ≡ false) where
    abbrev next : Place
    next = record p { at = sum_of p.at 1 }

    -- the byte and what is behind it
    read_on : (b : Bytes) (r : R) → s.tells b r → bytes_from n b p ≡ (bytes_from m b next >>= λ bs. Ok ((v % 256) ∷ bs))
    read_on b r x =
        bytes_at n m b p v e (h.1.holds b r x)
        ∙ ap (λ (c : Bool). elim c [ true ↦ Ok [] | false ↦ bytes_from m b (record p { at = sum_of p.at 1 }) >>= λ bs. Ok ((v % 256) ∷ bs) ]) z

    joined : (g : Given) → (g >>= λ bs. Ok ((old ++ (v % 256) ∷ []) ++ bs)) ≡ Ok new → ((g >>= λ bs. Ok ((v % 256) ∷ bs)) >>= λ bs. Ok (old ++ bs)) ≡ Ok new
    joined (Ok bs) k = ap Ok (sym (append_assoc old ((v % 256) ∷ []) bs)) ∙ k
    joined (Err x) k = k

    failed : (g : Given) (x : PsError) → g ≡ Err x → (g >>= λ bs. Ok ((v % 256) ∷ bs)) ≡ Err x
    failed g x k = ap (λ (g : Given). g >>= λ bs. Ok ((v % 256) ∷ bs)) k

    pub more_read : (result : Result (Unit {0}) Trouble) → ReadsBytes (λ b. bytes_from m b next) (old ++ (v % 256) ∷ []) t result new u → ReadsBytes (λ b. bytes_from n b p) old s result new u
    more_read (Ok x) k = (
      same_on s t u h.0 k.0,
      record {
        holds = λ b r y.
            ap (λ (g : Given). g >>= λ bs. Ok (old ++ bs)) (read_on b r y) ∙ joined (bytes_from m b next) (k.1.holds b r (h.0.keeps b r y));
      },
    )
    more_read (Err (Ps (Error x))) k =
        (same_on s t u h.0 k.0, record { holds = λ b r y. read_on b r y ∙ failed (bytes_from m b next) x (k.1.holds b r (h.0.keeps b r y)) })
    more_read (Err (Ps NoMemory)) k = same_on s t u h.0 k
    more_read (Err (Ps Spent)) k = k
    more_read (Err (Ps Link)) k = k
    more_read (Err (Broken LinkFault)) k = subst (λ f. Rose f u.faults) h.0.faults k
    more_read (Err (Broken (BadReply frame))) k = record { faults = k.faults ∙ h.0.faults; never = λ b r y. k.never b r (h.0.keeps b r y) }
    more_read (Err (Broken (Outside q))) k = k

  -- ---- the operator

  module _ (c : PsCore) (out : List ℕ) (s : Seen R) where
    -- what it takes is not there
    pub unasked : (x : PsError) → string_place c ≡ Err x → AppendsChars out s c (Err (Ps (Error x))) out s c
    unasked x e = (same_same s, refl, refl, λ b r h. ap (λ (a : Result (Place × ℕ) PsError). a >>= λ a. bytes_from a.1 b a.0 >>= λ bs. Ok (out ++ string_text bs, with_operands c (drop 3 c.operands))) e)

    module _ (p : Place) (n : ℕ) (e : string_place c ≡ Ok (p, n)) (t : Seen R) where
      asked : (b : Bytes) → appending_chars out b c ≡ (bytes_from n b p >>= λ bs. Ok (out ++ string_text bs, with_operands c (drop 3 c.operands)))
      asked b = ap (λ (a : Result (Place × ℕ) PsError). a >>= λ a. bytes_from a.1 b a.0 >>= λ bs. Ok (out ++ string_text bs, with_operands c (drop 3 c.operands))) e

      plain : (g : Given) (bytes : List ℕ) → (g >>= λ bs. Ok ([] ++ bs)) ≡ Ok bytes → g ≡ Ok bytes
      plain (Ok bs) bytes k = k
      plain (Err x) bytes k = k

      pub chars_appended : (bytes : List ℕ) → ReadsBytes (λ b. bytes_from n b p) [] s (Ok tt) bytes t → AppendsChars out s c (Ok tt) (out ++ string_text bytes) t (with_operands c (drop 3 c.operands))
      chars_appended bytes k =
          (k.0, λ b r h. asked b ∙ ap (λ (g : Given). g >>= λ bs. Ok (out ++ string_text bs, with_operands c (drop 3 c.operands))) (plain (bytes_from n b p) bytes (k.1.holds b r h)))

      -- there is no room for the text
      pub chars_without_room : (bytes out' : List ℕ) (c' : PsCore) → ReadsBytes (λ b. bytes_from n b p) [] s (Ok tt) bytes t → AppendsChars out s c (Err (Ps NoMemory)) out' t c'
      chars_without_room bytes out' c' k = k.0

      pub chars_troubled : (bytes : List ℕ) (trouble : Trouble) → ReadsBytes (λ b. bytes_from n b p) [] s (Err trouble) bytes t → AppendsChars out s c (Err trouble) out t c
      chars_troubled bytes (Ps (Error x)) k =
          (k.0, refl, refl, λ b r h. asked b ∙ ap (λ (g : Given). g >>= λ bs. Ok (out ++ string_text bs, with_operands c (drop 3 c.operands))) (k.1.holds b r h))
      chars_troubled bytes (Ps NoMemory) k = k
      chars_troubled bytes (Ps Spent) k = k
      chars_troubled bytes (Ps Link) k = k
      chars_troubled bytes (Broken LinkFault) k = k
      chars_troubled bytes (Broken (BadReply frame)) k = k
      chars_troubled bytes (Broken (Outside q)) k = k
