-- A file that is read piece by piece.
use Rattle.std.proofs.Common.{◌≡◌, ℕ, ◌<◌, List, [], ◌++◌, length, take, Option, None, Some, refl, sym, ap, ◌∙◌, arith, length-append, subst}
use Rattle.std.proofs.lemmas.List.{take_all, length-take}
use Rattle.std.specs.Prelude.{IfSome}
use Rattle.std.proofs.Math.Seq.{take-add}
use Rattle.ldb_edge.specs.Known.{HoldsPiece, EndsBy, FileMap}
use Rattle.cc_call.specs.Found.{IsRead}

-- what was read so far
abbrev pub IsFront : Option (List ℕ) → List ℕ → Type 0
IsFront None text = length text ≡ 0
IsFront (Some whole) text = text ≡ take (length text) whole

pub front_nothing : (held : Option (List ℕ)) → IsFront held []
front_nothing None = refl
front_nothing (Some whole) = refl

-- a fact of known files
pub at_known : (known : Option FileMap) (files : FileMap) (P : FileMap → Type 0) → known ≡ Some files → IfSome known P → P files
at_known known files P e h = subst (λ k. IfSome k P) e h

pub front_more : (held : Option (List ℕ)) (text piece : List ℕ) → IsFront held text → HoldsPiece held (length text) piece → IsFront held (text ++ piece)
front_more None text piece f h = absurd h
front_more (Some whole) text piece f h =
    let len = length-append text piece in
    ap (λ t. t ++ piece) f ∙ ap (λ p. take (length text) whole ++ p) h ∙ sym (take-add (length text) (length piece) whole) ∙ ap (λ n. take n whole) (sym len)

pub front_ended : (held : Option (List ℕ)) (text : List ℕ) → IsFront held text → EndsBy held (length text) → IsRead held text
front_ended None text f e = absurd e
front_ended (Some whole) text f e = let all = f ∙ take_all (length text) whole e in record { all = λ _. all; within = omega (arith, ap length all) }

pub front_long : (held : Option (List ℕ)) (text : List ℕ) → IsFront held text → 1048576 < length text → IsRead held text
front_long None text f l = absurd (omega (arith, f))
front_long (Some whole) text f l = record { all = λ s. absurd (omega arith); within = omega (arith, ap length f ∙ length-take (length text) whole) }
