-- What the operators that print make of what they look up.
use Rattle.std.proofs.Common.{◌≡◌, ◌⊎◌, inl, inr, ℕ, ℤ, pos, min, Bool, false, if◌then◌else◌, Option, Some, None, Result, Ok, Err, List, ◌∷◌, ◌++◌, refl, ap, ◌∙◌, le-leb, arith}
use Rattle.ldb_words.specs.Word.{word_of_signed}
use Rattle.ldb_words.specs.declared.kinds.Kind.{Kind}
use Rattle.ldb_words.specs.declared.kinds.Kind.TheVariants.{Byte, Word, Address}
use Rattle.c_show.specs.Printed.{string_text}
use Rattle.ps_store.specs.declared.object.PsObj.{PsObj}
use Rattle.ps_store.specs.declared.object.PsObj.TheVariants.{Int, Name}
use Rattle.ps_store.specs.declared.object.StringId.{StringId}
use Rattle.ps_store.specs.StoreState.{StoreState}
use Rattle.ps_store.specs.Store.{bytes_of}
use Rattle.ps_step.specs.declared.fault.PsError.{PsError}
use Rattle.ps_step.specs.declared.fault.PsError.TheVariants.{RangeCheck}
use Rattle.ps_step.specs.declared.machine.PsCore.{PsCore}
use Rattle.ps_step.specs.Results.{◌>>=◌}
use Rattle.ps_step.specs.State.{with_operands}
use Rattle.ps_step.specs.Values.{count_of}
use Rattle.frame_bytes.specs.Bytes.{Bytes, fetched}
use Rattle.frame_bytes.specs.declared.frame.Frame.{Frame}
use Rattle.frame_bytes.specs.declared.frame.Place.{Place}
use Rattle.frame_bytes.specs.declared.frame.Space.{Space}
use Rattle.frame_bytes.specs.declared.frame.Space.TheVariants.{Memory, Registers, Immediate}
use Rattle.table_model.specs.declared.found.Found.{Found}
use Rattle.ps_places.specs.Places.{space_named, kind_named, place}
use Rattle.ps_places.specs.Accesses.{or_outside, value_of, fetch_of}
use Rattle.ps_append.specs.Characters.{MOST_READ, string_place, bytes_from}
use Rattle.ps_leaves.specs.Forms.{pointer_text}
use Rattle.ps_leaves.specs.Leaves.{run_of}
use Rattle.dialect_model.specs.Dial.{Dial, Target, Acted, Act, Needs, raised, bytes_in, with_bytes, frame_of}
use Rattle.dialect_model.specs.Acting.{with_state, with_told, with_text, space_bytes, found}
use Rattle.dialect_model.specs.Operators.{act}
use Rattle.printing_laws.specs.Dialect.{append}
use Rattle.printing_laws.specs.Lookups.{number_there, integer_of, string_there, pointer_there, run_there}
use Rattle.printing_laws.proofs.Printer.{told}

-- ---- a reading changes nothing

same_with : (t : Option Target) (d : Dial) (f : Option Frame) → with_bytes (bytes_in (record d { target = t }) f) (record d { target = t }) ≡ record d { target = t }
same_with None d f = refl
same_with (Some t) d f = refl

same_bytes : (d : Dial) (f : Option Frame) → with_bytes (bytes_in d f) d ≡ d
same_bytes d f = same_with d.target d f

number_read : (d : Dial) (b : Bytes) (leave : ℕ → PsCore) → with_bytes b d ≡ d → (x : Option ℕ)
    → with_told d (or_outside x >>= λ v. Ok (b, leave v)) ≡ (raised (or_outside x) >>= λ v. Ok (d, leave v))
number_read d b leave e None = refl
number_read d b leave e (Some v) = ap (λ d'. Ok (d', leave v)) e

module _ (d : Dial) (s : StoreState) (at : ℕ) (k : Kind) (leave : ℕ → PsCore) where
  reads : (space : Space) → (space_bytes d s space >>= λ b. with_told d (or_outside (fetched b space at k) >>= λ v. Ok (b, leave v))) ≡ (number_there d space at k s >>= λ v. Ok (d, leave v))
  reads Memory = number_read d (bytes_in d None) leave (same_bytes d None) (fetched (bytes_in d None) Memory at k)
  reads Immediate = number_read d (bytes_in d None) leave (same_bytes d None) (fetched (bytes_in d None) Immediate at k)
  reads Registers = by_frame (frame_of d s)
    where
      by_frame : (r : Acted (Option Frame))
          → ((r >>= λ f. Ok (bytes_in d f)) >>= λ b. with_told d (or_outside (fetched b Registers at k) >>= λ v. Ok (b, leave v)))
          ≡ (((r >>= λ f. Ok (bytes_in d f)) >>= λ b. raised (or_outside (fetched b Registers at k))) >>= λ v. Ok (d, leave v))
      by_frame (Ok f) = number_read d (bytes_in d f) leave (same_bytes d f) (fetched (bytes_in d f) Registers at k)
      by_frame (Err h) = refl

-- ---- `fetch`

module _ (c : PsCore) (rest : List PsObj) (space : List ℕ) (t : StringId) (n : ℤ) (sp : Space) (is : bytes_of c.store t ≡ space) (named : space_named space ≡ Ok sp) where
  fetch_is : (kind : List ℕ) (u : StringId) (k : Kind) → bytes_of c.store u ≡ kind → kind_named kind ≡ Ok k
      → fetch_of (with_operands c (Name u false ∷ Int n ∷ Name t false ∷ rest)) ≡ Ok (place sp (word_of_signed n), k)
  fetch_is kind u k is' named' =
      ap (λ x. space_named x >>= λ sp. kind_named (bytes_of c.store u) >>= λ k. Ok (place sp (word_of_signed n), k)) is
      ∙ ap (λ x. space_named space >>= λ sp. kind_named x >>= λ k. Ok (place sp (word_of_signed n), k)) is'
      ∙ ap (λ (r : Result Space PsError). r >>= λ sp. kind_named kind >>= λ k. Ok (place sp (word_of_signed n), k)) named
      ∙ ap (λ (r : Result Kind PsError). r >>= λ k. Ok (place sp (word_of_signed n), k)) named'

  pub fetching : (d : Dial) (kind : List ℕ) (u : StringId) (k : Kind) → bytes_of c.store u ≡ kind → kind_named kind ≡ Ok k
      → act 6 d (with_operands c (Name u false ∷ Int n ∷ Name t false ∷ rest)) ≡ (number_there d sp (word_of_signed n) k c.store >>= λ v. Ok (d, with_operands c (value_of k v ∷ rest)))
  unfolding act
  fetching d kind u k is' named' =
      ap (λ (r : Result (Place × Kind) PsError). raised r >>= λ a. space_bytes d c.store a.0.space >>= λ b.
      with_told d (r >>= λ a. or_outside (fetched b a.0.space a.0.at a.1) >>= λ v. Ok (b, with_operands c (value_of a.1 v ∷ rest)))) (fetch_is kind u k is' named')
      ∙ reads d c.store (word_of_signed n) k (λ v. with_operands c (value_of k v ∷ rest)) sp

  -- ---- `PutChars`

  counted : (count : ℕ) → count_of (Int (pos count)) ≡ Ok count
  counted count = ap (λ (q : Bool). if q then Ok count else Err RangeCheck) (le-leb 0 count (omega arith))

  string_is : (count : ℕ) → string_place (with_operands c (Int (pos count) ∷ Int n ∷ Name t false ∷ rest)) ≡ Ok (place sp (word_of_signed n), min count MOST_READ)
  string_is count =
      ap (λ x. space_named x >>= λ sp. count_of (Int (pos count)) >>= λ m. Ok (place sp (word_of_signed n), min m MOST_READ)) is
      ∙ ap (λ (r : Result Space PsError). r >>= λ sp. count_of (Int (pos count)) >>= λ m. Ok (place sp (word_of_signed n), min m MOST_READ)) named
      ∙ ap (λ (r : Result ℕ PsError). r >>= λ m. Ok (place sp (word_of_signed n), min m MOST_READ)) (counted count)

  string_told : (d : Dial) (r : Acted Bytes) (f : Bytes → Result (List ℕ) PsError) (c' : PsCore)
      → (r >>= λ b. with_text d (f b >>= λ bs. Ok (d.out ++ string_text bs, c'))) ≡ ((r >>= λ b. raised (f b)) >>= λ bs. Ok (append d (string_text bs), c'))
  string_told d (Err h) f c' = refl
  string_told d (Ok b) f c' = by_bytes (f b)
    where
      by_bytes : (r : Result (List ℕ) PsError) → with_text d (r >>= λ bs. Ok (d.out ++ string_text bs, c')) ≡ (raised r >>= λ bs. Ok (append d (string_text bs), c'))
      by_bytes (Ok bs) = told d (string_text bs) c'
      by_bytes (Err e) = refl

  pub putting_chars : (d : Dial) (count : ℕ)
      → act 31 d (with_operands c (Int (pos count) ∷ Int n ∷ Name t false ∷ rest)) ≡ (string_there d sp (word_of_signed n) count c.store >>= λ bs. Ok (append d (string_text bs), with_operands c rest))
  unfolding act
  putting_chars d count =
      ap (λ (r : Result (Place × ℕ) PsError). raised r >>= λ a. space_bytes d c.store a.0.space >>= λ b.
      with_text d (r >>= λ a. bytes_from a.1 b a.0 >>= λ bs. Ok (d.out ++ string_text bs, with_operands c rest))) (string_is count)
      ∙ string_told d (space_bytes d c.store sp) (λ b. bytes_from (min count MOST_READ) b (place sp (word_of_signed n))) (with_operands c rest)

-- ---- `PutPointer`, `charrun`

pub putting_pointer : (d : Dial) (c : PsCore) (rest : List PsObj) (n : ℤ)
    → act 30 d (with_operands c (Int n ∷ rest)) ≡ (pointer_there d (word_of_signed n) c.store >>= λ text. Ok (append d text, with_operands c rest))
unfolding act
putting_pointer d c rest n = by_found (found d c.store (word_of_signed n))
  where
    by_found : (r : Acted (Option Found)) → (r >>= λ o. with_text d (Ok (d.out ++ pointer_text c.store (word_of_signed n) o, with_operands c rest)))
        ≡ ((r >>= λ o. Ok (pointer_text c.store (word_of_signed n) o)) >>= λ text. Ok (append d text, with_operands c rest))
    by_found (Ok o) = told d (pointer_text c.store (word_of_signed n) o) (with_operands c rest)
    by_found (Err h) = refl

run_left : (d : Dial) (c : PsCore) (rest : List PsObj) (r : Result PsObj PsError) → with_state d (r >>= λ x. Ok (with_operands c (x ∷ rest))) ≡ (raised r >>= λ x. Ok (d, with_operands c (x ∷ rest)))
run_left d c rest (Ok x) = refl
run_left d c rest (Err e) = refl

pub counting : (d : Dial) (c : PsCore) (rest : List PsObj) (n : ℤ)
    → act 32 d (with_operands c (Int n ∷ rest)) ≡ (run_there d (word_of_signed n) c.store >>= λ x. Ok (d, with_operands c (x ∷ rest)))
unfolding act
counting d c rest n = by_found (found d c.store (word_of_signed n))
  where
    by_found : (r : Acted (Option Found)) → (r >>= λ o. with_state d (run_of c.store o >>= λ x. Ok (with_operands c (x ∷ rest))))
        ≡ ((r >>= λ o. raised (run_of c.store o)) >>= λ x. Ok (d, with_operands c (x ∷ rest)))
    by_found (Ok o) = run_left d c rest (run_of c.store o)
    by_found (Err h) = refl

-- ---- a look-up that gives one answer, or needs a unit

-- an operator gives this, or needs a unit
abbrev pub Gives : Act → Dial → PsCore → Type 0
Gives a d c = (a ≡ Ok (d, c)) ⊎ ((unit : ℕ) × (a ≡ Err (Needs unit)))

pub gives_asked : {A : Type 0} (a : Act) (q : Acted A) (dial : A → Dial) (core : A → PsCore) (x : A) → a ≡ (q >>= λ y. Ok (dial y, core y)) → (q ≡ Ok x) ⊎ ((unit : ℕ) × (q ≡ Err (Needs unit))) → Gives a (dial x) (core x)
gives_asked a q dial core x h (inl e) = inl (h ∙ ap (λ r. r >>= λ y. Ok (dial y, core y)) e)
gives_asked a q dial core x h (inr n) = inr (n.0, h ∙ ap (λ r. r >>= λ y. Ok (dial y, core y)) n.1)

pub value_is : (k : Kind) (v : ℕ) → value_of k v ≡ Int (integer_of k v)
value_is Byte v = refl
value_is Word v = refl
value_is Address v = refl
