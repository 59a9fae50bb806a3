-- Files of which one is written.
use Rattle.std.proofs.Common.{◌≡◌, ◌≢◌, ℕ, Bool, true, false, List, [], ◌++◌, cond, take, Option, None, Some, Ok, Err, refl, ap, ◌∙◌, subst, is_some}
use Rattle.std.specs.Prelude.{unwrap_or, IfOk, OnErr, IfSome, IsSome}
use Rattle.std.specs.declared.result.Result.{Result}
use Rattle.std.specs.Option.{option_map}
use Rattle.std.specs.Str.{bytes_eq}
use Rattle.std.specs.FinMap as map
use Rattle.ldb_edge.specs.Count.{Rose, CountsFault}
use Rattle.ldb_edge.specs.Known.{FileMap, appended, known_and}
use Rattle.ldb_edge.specs.declared.outside.FileErr.{FileErr}
use Rattle.ldb_edge.specs.declared.outside.FileErr.TheVariants.{Absent, Failed}
use Rattle.ldb_edge.proofs.Maps.{get-insert, equal_bytes, same_bytes}
use Rattle.ldb_top.specs.Output.{held_under, is_there, OthersKept}

apart : (name other : List ℕ) (b : Bool) (x y : Option (List ℕ)) → bytes_eq other name ≡ b → other ≢ name → cond b x y ≡ y
apart name other true x y e n = absurd (n (equal_bytes other name e))
apart name other false x y e n = refl

pub others_same : (name : List ℕ) (held held' : Option FileMap) → held' ≡ held → OthersKept name held held'
others_same name held held' e = (ap is_some e, (λ other n. ap (λ h. held_under h other) e, λ t. ap (is_there name) e ∙ t))

set_there : (m : FileMap) (name bytes : List ℕ) → is_some (map.get (map.insert m name bytes) name) ≡ true
set_there m name bytes = ap is_some (get-insert m name bytes name) ∙ ap (λ b. is_some (cond b (Some bytes) (map.get m name))) (same_bytes name)

-- one name was set
pub others_kept : (name : List ℕ) (bytes : FileMap → List ℕ) (held held' : Option FileMap) → held' ≡ option_map (λ files. map.insert files name (bytes files)) held → OthersKept name held held'
others_kept name bytes None held' e = others_same name None held' e
others_kept name bytes (Some m) held' e = (
  ap is_some e,
  (
    λ other n. ap (λ h. held_under h other) e ∙ get-insert m name (bytes m) other ∙ apart name other (bytes_eq other name) (Some (bytes m)) (map.get m other) refl n,
    λ t. ap (is_there name) e ∙ set_there m name (bytes m),
  ),
)

pub others_on : (name : List ℕ) (a b c : Option FileMap) → OthersKept name a b → OthersKept name b c → OthersKept name a c
others_on name a b c p q = (q.0 ∙ p.0, (λ other n. q.1.0 other n ∙ p.1.0 other n, λ t. q.1.1 (p.1.1 t)))

-- an append to it
pub others_appended : (name piece : List ℕ) (a b c : Option FileMap) (r : Result ℕ FileErr) → OthersKept name a b
    → IfOk r (λ n. c ≡ option_map (λ files. appended files name (take n piece)) b) → OnErr r (c ≡ b) → OthersKept name a c
others_appended name piece a b c (Ok n) k o f = others_on name a b c k (others_kept name (λ files. unwrap_or (map.get files name) [] ++ take n piece) b c o)
others_appended name piece a b c (Err x) k o f = others_on name a b c k (others_same name b c f)

-- a fault of a file that is there
pub rose_at : (before now : ℕ) (e : FileErr) → (e ≡ Absent → ⊥) → CountsFault before now e → Rose before now
rose_at before now Absent n c = absurd (n refl)
rose_at before now Failed n c = c

-- a file that was made
pub others_made : (name : List ℕ) (start held held' : Option FileMap) → held' ≡ option_map (λ files. map.insert files name []) held → OthersKept name start held → OthersKept name start held'
others_made name start held held' e k = others_on name start held held' k (others_kept name (λ files. []) held held' e)

pub made_there : (name : List ℕ) (held held' : Option FileMap) → held' ≡ option_map (λ files. map.insert files name []) held → is_there name held' ≡ true
made_there name None held' e = ap (is_there name) e
made_there name (Some m) held' e = ap (is_there name) e ∙ set_there m name []

-- what a file holds behind an append, where it is there
held_appended : (m : FileMap) (name piece : List ℕ) (now : Option (List ℕ)) → map.get m name ≡ now → IsSome now → map.get (map.insert m name (unwrap_or (map.get m name) [] ++ piece)) name ≡ known_and now piece
held_appended m name piece None h there = absurd cc
held_appended m name piece (Some before) h there =
    get-insert m name (unwrap_or (map.get m name) [] ++ piece) name
    ∙ ap (λ b. cond b (Some (unwrap_or (map.get m name) [] ++ piece)) (map.get m name)) (same_bytes name) ∙ ap (λ o. Some (unwrap_or o [] ++ piece)) h

pub taken_appended : (name piece : List ℕ) (a c : Option FileMap) → IfSome a (λ files. IsSome (map.get files name)) → c ≡ option_map (λ files. appended files name piece) a → held_under c name ≡ known_and (held_under a name) piece
taken_appended name piece None c there e = ap (λ h. held_under h name) e
taken_appended name piece (Some m) c there e = ap (λ h. held_under h name) e ∙ held_appended m name piece (map.get m name) refl there

-- a file that was made holds nothing
pub made_empty : (name : List ℕ) (known : FileMap) (held held' : Option FileMap) → held' ≡ option_map (λ files. map.insert files name []) held → held ≡ Some known → held_under held' name ≡ Some []
made_empty name known None held' e h = absurd cc
made_empty name known (Some m) held' e h = ap (λ o. held_under o name) e ∙ get-insert m name [] name ∙ ap (λ b. cond b (Some []) (map.get m name)) (same_bytes name)
