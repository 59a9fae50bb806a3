-- What words of each form leave and print.
use Rattle.std.proofs.Common.{◌≡◌, ℕ, List, drop, Option, None, Some, Ok, Err, refl, sym, ap, subst, ◌∙◌}
use Rattle.std.specs.Prelude.{OnOk, OnErr, IfSome, unwrap_or}
use Rattle.std.specs.declared.result.Result.{Result}
use Rattle.ldb_edge.specs.Known.{FileMap, known_and}
use Rattle.cc_call.specs.declared.ended.Fault.{Fault}
use Rattle.cc_call.specs.Faults.{TakesFront}
use Rattle.ldb_top.specs.declared.status.Status.{Status}
use Rattle.ldb_top.specs.declared.status.Status.TheVariants.{Words}
use Rattle.ldb_top.specs.declared.words.DebugRequest.{DebugRequest}
use Rattle.ldb_top.specs.declared.words.GoRequest.{GoRequest}
use Rattle.ldb_top.specs.declared.words.Request.{Request}
use Rattle.ldb_top.specs.declared.words.Request.TheVariants as request
use Rattle.ldb_top.specs.Words.{Form, Debug, Go, Make, Own, form_of, form_in}
use Rattle.ldb_top.specs.May.{MayAnswer, status_of}
use Rattle.ldb_top.specs.Names.{Names}
use Rattle.ldb_top.specs.Output.{OthersKept, LeavesFiles, output_of}
use Rattle.ldb_top.specs.Said.{IsNamed, generated, number_in, printed}
use Rattle.ldb_top.proofs.Kept.{others_same}

pub left_debug : (asked : List (List ℕ)) (q : Request) (r : DebugRequest) (held held' : Option FileMap) → q ≡ request.Debug r → Some (form_in q) ≡ form_of asked → IsNamed (drop 1 asked) q
    → ((start : Option FileMap) → OthersKept r.output.now start held → OthersKept r.output.now start held') → LeavesFiles (form_of asked) asked held held'
left_debug asked q r held held' e f n k =
    let named : r.output.now ≡ output_of Debug (drop 1 asked) = ap (λ (x : Names). x.output) (subst (IsNamed (drop 1 asked)) e n) in
    let form : Some Debug ≡ form_of asked = ap (λ (x : Request). Some (form_in x)) (sym e) ∙ f in
    subst (λ o. LeavesFiles o asked held held') form (subst (λ x. OthersKept x held held') named (k held (others_same r.output.now held held refl)))

pub left_go : (asked : List (List ℕ)) (q : Request) (r : GoRequest) (held held' : Option FileMap) → q ≡ request.Go r → Some (form_in q) ≡ form_of asked → IsNamed (drop 1 asked) q
    → ((start : Option FileMap) → OthersKept r.output.now start held → OthersKept r.output.now start held') → LeavesFiles (form_of asked) asked held held'
left_go asked q r held held' e f n k =
    let named : r.output.now ≡ output_of Go (drop 1 asked) = ap (λ (x : Names). x.output) (subst (IsNamed (drop 1 asked)) e n) in
    let form : Some Go ≡ form_of asked = ap (λ (x : Request). Some (form_in x)) (sym e) ∙ f in
    subst (λ o. LeavesFiles o asked held held') form (subst (λ x. OthersKept x held held') named (k held (others_same r.output.now held held refl)))

-- the number that is printed
pub made_in : (asked : List (List ℕ)) (q : Request) (n : ℕ) (taken taken' : Option (List ℕ)) (result : Result Status Fault) → q ≡ request.Make n → IsNamed (drop 1 asked) q
    → OnOk result (taken' ≡ known_and taken (generated n)) → OnOk result (taken' ≡ known_and taken (generated (number_in asked)))
made_in asked q n taken taken' result e m o =
    subst (λ x. OnOk result (taken' ≡ known_and taken (generated x))) (sym (ap (λ x. unwrap_or x 0) (subst (IsNamed (drop 1 asked)) e m))) o

-- words of a form are not answered `words`
pub never_said : (form : Form) (result : Result Status Fault) → MayAnswer (Some form) (status_of result) → result ≡ Ok Words → ⊥
never_said Debug result m e = subst (λ r. MayAnswer (Some Debug) (status_of r)) e m
never_said Go result m e = subst (λ r. MayAnswer (Some Go) (status_of r)) e m
never_said Make result m e = subst (λ r. MayAnswer (Some Make) (status_of r)) e m
never_said Own result m e = subst (λ r. MayAnswer (Some Own) (status_of r)) e m

-- ---- a front of what is printed

-- of a form that prints nothing of which this is said
pub unprinted : (form : Option Form) (asked : List (List ℕ)) (known : Form) (P : List ℕ → Type 0) (result : Result Status Fault) → Some known ≡ form → printed (Some known) asked ≡ None → OnErr result (IfSome (printed form asked) P)
unprinted form asked known P (Ok status) e none = tt
unprinted form asked known P (Err f) e none = subst (λ (o : Option Form). IfSome (printed o asked) P) e (subst (λ (o : Option (List ℕ)). IfSome o P) (sym none) tt)

-- of the program of `make`
pub made_front : (form : Option Form) (asked : List (List ℕ)) (q : Request) (n : ℕ) (taken taken' : Option (List ℕ)) (result : Result Status Fault) → q ≡ request.Make n → Some (form_in q) ≡ form → IsNamed (drop 1 asked) q
    → OnErr result (TakesFront taken taken' (generated n)) → OnErr result (IfSome (printed form asked) (TakesFront taken taken'))
made_front form asked q n taken taken' (Ok status) e f m h = tt
made_front form asked q n taken taken' (Err x) e f m h =
    let form_is : Some Make ≡ form = ap (λ (r : Request). Some (form_in r)) (sym e) ∙ f in
    let number : number_in asked ≡ n = ap (λ o. unwrap_or o 0) (subst (IsNamed (drop 1 asked)) e m) in
    subst (λ (o : Option Form). IfSome (printed o asked) (TakesFront taken taken')) form_is (subst (λ k. TakesFront taken taken' (generated k)) (sym number) h)
