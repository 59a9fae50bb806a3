-- What is left behind a line, byte by byte and line by line.
use Rattle.std.proofs.Common.{◌≡◌, ℕ, Bool, true, false, if◌then◌else◌, ◌==◌, List, [], ◌∷◌, ◌++◌, Option, None, Some, Ok, Err, refl, sym, ap, ◌∙◌, subst, append_assoc}
use Rattle.std.specs.declared.result.Result.{Result}
use Rattle.std.specs.Prelude.{IfOk, IfSome}
use Rattle.cc_call.specs.declared.ended.Fault.{Fault}
use Rattle.ldb_top.specs.Ahead.{without_return}
use Rattle.ldb_top.specs.Behind.{behind_quit, left_behind, LeftByNext}
use Rattle.ldb_edge.specs.Known.{before_known}
use Rattle.ldb_top.specs.Bytes.{with_byte, IsBehind}
use Rattle.ldb_top.specs.Late.{is_quit, Follows}
use Rattle.ldb_top.specs.declared.serving.Next.{Next}
use Rattle.ldb_top.specs.declared.serving.Next.TheVariants as next

-- ---- bytes

-- one that is no end of a line
pub behind_byte : (line : List ℕ) (b : ℕ) (before after : Option (List ℕ)) → before ≡ with_byte (Some b) after → (b == 10) ≡ false → left_behind line before ≡ left_behind (line ++ b ∷ []) after
behind_byte line b before None e n = ap (left_behind line) e
behind_byte line b before (Some rest) e n =
    ap (left_behind line) e ∙ ap (λ c. Some (if c then (if is_quit (without_return line) then rest else behind_quit [] rest) else behind_quit (line ++ b ∷ []) rest)) n

same_none : (c : Bool) → ◌≡◌ {A = Option (List ℕ)} None (if c then None else None)
same_none true = refl
same_none false = refl

some_either : (c : Bool) (x y : List ℕ) → ◌≡◌ {A = Option (List ℕ)} (Some (if c then x else y)) (if c then Some x else Some y)
some_either true x y = refl
some_either false x y = refl

-- the end of a line
pub behind_end : (line : List ℕ) (b : ℕ) (before after : Option (List ℕ)) → before ≡ with_byte (Some b) after → (b == 10) ≡ true
    → left_behind line before ≡ (if is_quit (without_return line) then after else left_behind [] after)
behind_end line b before None e n = ap (left_behind line) e ∙ same_none (is_quit (without_return line))
behind_end line b before (Some rest) e n =
    ap (left_behind line) e ∙ ap (λ c. Some (if c then (if is_quit (without_return line) then rest else behind_quit [] rest) else behind_quit (line ++ b ∷ []) rest)) n
    ∙ some_either (is_quit (without_return line)) rest (behind_quit [] rest)

-- a line that was read
pub behind_line : (line whole : List ℕ) (b : ℕ) (start before after : Option (List ℕ)) → start ≡ left_behind line before → before ≡ with_byte (Some b) after → (b == 10) ≡ true → whole ≡ without_return line
    → start ≡ (if is_quit whole then after else left_behind [] after)
behind_line line whole b start before after s e n w = s ∙ behind_end line b before after e n ∙ ap (λ l. if is_quit l then after else left_behind [] after) (sym w)

-- no byte
pub behind_nothing : (line : List ℕ) (before after : Option (List ℕ)) → before ≡ with_byte None after → IfSome after (λ bytes. bytes ≡ []) → left_behind line before ≡ after
behind_nothing line before None e n = ap (left_behind line) e
behind_nothing line before (Some rest) e n = ap (left_behind line) e ∙ ap (λ x. Some (behind_quit line x)) n ∙ ap Some (sym n)

-- ---- lines

next_left : (line : List ℕ) (before after : Option (List ℕ)) (n : Next) → left_behind [] before ≡ (if is_quit line then after else left_behind [] after) → Follows line n → LeftByNext before after n
next_left line before after next.Line e f = e ∙ ap (λ c. if c then after else left_behind [] after) f
next_left line before after next.End e f = e ∙ ap (λ c. if c then after else left_behind [] after) f
next_left line before after next.Late e f = absurd f

pub line_left : (line : List ℕ) (before after : Option (List ℕ)) (r : Result Next Fault) → left_behind [] before ≡ (if is_quit line then after else left_behind [] after) → IfOk r (Follows line) → IfOk r (LeftByNext before after)
line_left line before after (Ok n) e f = next_left line before after n e f
line_left line before after (Err x) e f = tt

-- ---- what was read

known_behind : (a : Option (List ℕ)) → a ≡ before_known [] a
known_behind None = refl
known_behind (Some xs) = refl

pub behind_same : (a b : Option (List ℕ)) → b ≡ a → IsBehind a b
behind_same a b e = record { read = []; is = subst (λ x. x ≡ before_known [] b) e (known_behind b) }

pub behind_on : (a b c : Option (List ℕ)) → IsBehind a b → IsBehind b c → IsBehind a c
behind_on a b None f g = record { read = []; is = f.is ∙ ap (before_known f.read) g.is }
behind_on a b (Some xs) f g = record { read = f.read ++ g.read; is = f.is ∙ ap (before_known f.read) g.is ∙ ap Some (sym (append_assoc f.read g.read xs)) }

pub behind_one : (b : Option ℕ) (old new : Option (List ℕ)) → old ≡ with_byte b new → IsBehind old new
behind_one None old new e = behind_same old new (sym e)
behind_one (Some x) old None e = record { read = []; is = e }
behind_one (Some x) old (Some xs) e = record { read = x ∷ []; is = e }
