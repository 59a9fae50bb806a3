-- Words that ask to compile.
use Rattle.std.proofs.Common.{◌≡◌, ℕ, List, Option, Some, None, Ok, Err, refl, sym, subst}
use Rattle.std.proofs.lemmas.Bool.{true≢false}
use Rattle.std.specs.Prelude.{IsNone, IfSome}
use Rattle.ldb_edge.specs.Known.{FileMap}
use Rattle.cc_call.specs.declared.call.Answer.{Answer}
use Rattle.cc_call.specs.declared.ended.Fault.{Fault}
use Rattle.cc_call.specs.Words.{Request}
use Rattle.cc_call.specs.Outcome.{Leaves}
use Rattle.ldb_top.specs.declared.status.Status.{Status}
use Rattle.ldb_top.specs.declared.status.Status.TheVariants.{Words}
use Rattle.ldb_top.specs.Compiles.{Compiles}
use Rattle.ldb_top.specs.May.{MayAnswer}
use Rattle.ldb_top.specs.Words.{Form, Debug, Go, Make, Own}

-- what an answer leaves
pub answer_leaves : (r : Request) (held held' : Option FileMap) (taken taken' : Option (List ℕ)) (a b : Answer) → a ≡ b → Leaves r held held' taken taken' (Ok a) → Leaves r held held' taken taken' (Ok b)
answer_leaves r held held' taken taken' a b e l = subst (λ (x : Answer). Leaves r held held' taken taken' (Ok x)) e l

-- what a fault leaves
pub fault_leaves : (r : Request) (held held' : Option FileMap) (taken taken' : Option (List ℕ)) (a b : Fault) → a ≡ b → Leaves r held held' taken taken' (Err a) → Leaves r held held' taken taken' (Err b)
fault_leaves r held held' taken taken' a b e l = subst (λ (x : Fault). Leaves r held held' taken taken' (Err x)) e l

-- a fact of the request that the words are
pub of_request : (asked : Option Request) (r : Request) (P : Request → Type 0) → asked ≡ Some r → P r → IfSome asked P
of_request asked r P e p = subst (λ (o : Option Request). IfSome o P) (sym e) p

-- words that are a request are not none
pub is_asked : (asked : Option Request) (r : Request) → asked ≡ Some r → IsNone asked → ⊥
is_asked asked r e n = true≢false (subst (λ (o : Option Request). IsNone o) e n)

-- this status never comes
pub never_words : (r : Request) (held held' : Option FileMap) (taken taken' : Option (List ℕ)) (status : Status) → Compiles r held held' taken taken' status → status ≡ Words → ⊥
never_words r held held' taken taken' status c e = subst (Compiles r held held' taken taken') e c

-- an option that is none
pub is_none : (asked : Option Request) → asked ≡ None → IsNone asked
is_none asked e = subst (λ (o : Option Request). IsNone o) (sym e) refl

-- words that are answered so have no form
pub words_none : (form : Option Form) (status : Status) → MayAnswer form status → status ≡ Words → IsNone form
words_none None status m e = refl
words_none (Some Debug) status m e = absurd (subst (λ s. MayAnswer (Some Debug) s) e m)
words_none (Some Go) status m e = absurd (subst (λ s. MayAnswer (Some Go) s) e m)
words_none (Some Make) status m e = absurd (subst (λ s. MayAnswer (Some Make) s) e m)
words_none (Some Own) status m e = absurd (subst (λ s. MayAnswer (Some Own) s) e m)
