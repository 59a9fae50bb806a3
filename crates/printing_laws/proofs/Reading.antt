-- What is read in memory, in the cell and in a frame's registers needs no unit.
use Rattle.std.proofs.Common.{◌≡◌, inl, refl, ap, ◌∙◌, ℕ, min, codes, Option, Some, None, Ok, List}
use Rattle.ldb_words.specs.declared.kinds.Kind.{Kind}
use Rattle.ps_store.specs.declared.object.DictId.{DictId}
use Rattle.ps_store.specs.StoreState.{StoreState}
use Rattle.ps_step.specs.Results.{◌>>=◌}
use Rattle.frame_bytes.specs.Bytes.{fetched}
use Rattle.frame_bytes.specs.declared.frame.Frame.{Frame}
use Rattle.frame_bytes.specs.declared.frame.Space.TheVariants.{Memory, Registers, Immediate}
use Rattle.ps_places.specs.Places.{place}
use Rattle.ps_places.specs.Accesses.{or_outside}
use Rattle.ps_append.specs.Characters.{bytes_from, MOST_READ}
use Rattle.dialect_model.specs.Dial.{Dial, Standing, InFrame, Acted, raised, bytes_in, frame_of}
use Rattle.printing_laws.specs.Lookups.{Always, number_there, string_there, pointer_there}

module _ (first : StoreState) (d : Dial) where
  pub in_memory : (at v : ℕ) (k : Kind) → fetched (bytes_in d None) Memory at k ≡ Some v → Always first (number_there d Memory at k) v
  in_memory at v k e = λ now reached. inl (ap (λ (x : Option ℕ). raised (or_outside x)) e)

  pub in_cell : (at v : ℕ) (k : Kind) → fetched (bytes_in d None) Immediate at k ≡ Some v → Always first (number_there d Immediate at k) v
  in_cell at v k e = λ now reached. inl (ap (λ (x : Option ℕ). raised (or_outside x)) e)

  framed : (now : StoreState) (f : Frame) (scope : Option DictId) → d.standing ≡ InFrame f scope → frame_of d now ≡ Ok (Some f)
  framed now f scope e = ap (λ (s : Standing). frame_of (record d { standing = s }) now) e

  pub in_register : (f : Frame) (scope : Option DictId) (at v : ℕ) (k : Kind) → d.standing ≡ InFrame f scope → fetched (bytes_in d (Some f)) Registers at k ≡ Some v → Always first (number_there d Registers at k) v
  in_register f scope at v k stands e = λ now reached.
      inl (ap (λ (r : Acted (Option Frame)). (r >>= λ f. Ok (bytes_in d f)) >>= λ b. raised (or_outside (fetched b Registers at k))) (framed now f scope stands) ∙ ap (λ (x : Option ℕ). raised (or_outside x)) e)

  pub string_in_memory : (at count : ℕ) (bs : List ℕ) → bytes_from (min count MOST_READ) (bytes_in d None) (place Memory at) ≡ Ok bs → Always first (string_there d Memory at count) bs
  string_in_memory at count bs e = λ now reached. inl (ap raised e)

  pub null : Always first (pointer_there d 0) (codes "0")
  null = λ now reached. inl refl
