-- A file that is written piece by piece.
use Rattle.std.proofs.Common.{◌≡◌, ℕ, ◌+◌, List, [], ◌++◌, take, drop, Option, None, Some, true, cond, refl, sym, ap, ◌∙◌}
use Rattle.std.proofs.Math.Seq.{take-add}
use Rattle.std.proofs.lemmas.Slice.Eq.{bytes_eq-Decides}
use Rattle.std.specs.Prelude.{unwrap_or}
use Rattle.std.specs.Str.{bytes_eq}
use Rattle.std.specs.Option.{option_map}
use Rattle.std.specs.FinMap as map
use Rattle.ldb_edge.specs.Known.{FileMap, appended}
use Rattle.ldb_edge.proofs.Maps.{get-insert, insert_again}
use Rattle.cc_call.specs.Outcome.{with_file}

same_name : (name : List ℕ) → bytes_eq name name ≡ true
same_name name = (bytes_eq-Decides name name).1 refl

got : (m : FileMap) (name bytes : List ℕ) → map.get (map.insert m name bytes) name ≡ Some bytes
got m name bytes = get-insert m name bytes name ∙ ap (λ b. cond b (Some bytes) (map.get m name)) (same_name name)

appended_front : (m : FileMap) (name bytes : List ℕ) (d n : ℕ) → appended (map.insert m name (take d bytes)) name (take n (drop d bytes)) ≡ map.insert m name (take (d + n) bytes)
appended_front m name bytes d n =
    ap (λ (held : Option (List ℕ)). map.insert (map.insert m name (take d bytes)) name (unwrap_or held [] ++ take n (drop d bytes))) (got m name (take d bytes)) ∙
    (insert_again m name (take d bytes) (take d bytes ++ take n (drop d bytes)) ∙
    ap (map.insert m name) (sym (take-add d n bytes)))

-- n bytes more of it
pub held_more : (held mid new : Option FileMap) (name bytes : List ℕ) (d n : ℕ) → mid ≡ with_file name (take d bytes) held → new ≡ option_map (λ files. appended files name (take n (drop d bytes))) mid → new ≡ with_file name (take (d + n) bytes) held
held_more None mid new name bytes d n e f = f ∙ ap (option_map (λ files. appended files name (take n (drop d bytes)))) e
held_more (Some m) mid new name bytes d n e f = f ∙ (ap (option_map (λ files. appended files name (take n (drop d bytes)))) e ∙ ap Some (appended_front m name bytes d n))
