-- Items of lists that were mapped.
use Rattle.std.proofs.Common.{◌≡◌, ℕ, Option, Some, None, List, map, slice_get, option_map, ap, ◌∙◌}
use Rattle.std.proofs.lemmas.Option.{slice_get-map}

pub get_mapped : {A B : Type 0} (f : A → B) (xs : List A) (n : ℕ) (x : A) → slice_get xs n ≡ Some x → slice_get (map f xs) n ≡ Some (f x)
get_mapped f xs n x h = slice_get-map f xs n ∙ ap (option_map f) h

pub none_mapped : {A B : Type 0} (f : A → B) (xs : List A) (n : ℕ) → slice_get xs n ≡ None → slice_get (map f xs) n ≡ None
none_mapped f xs n h = slice_get-map f xs n ∙ ap (option_map f) h
