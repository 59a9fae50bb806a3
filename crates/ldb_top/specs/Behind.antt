-- What a source has left behind the line that ends a session.
use Rattle.std.specs.Prelude.{◌≡◌, ℕ, List, [], ◌∷◌, ◌++◌, if◌then◌else◌, ◌==◌, Option, None, Some}
use Rattle.ldb_top.specs.declared.lines.LineEnd.{LineEnd}
use Rattle.ldb_top.specs.declared.lines.LineEnd.TheVariants.{Whole, Last, Cut}
use Rattle.ldb_top.specs.declared.serving.Ending.{Ending}
use Rattle.ldb_top.specs.declared.serving.Ending.TheVariants as ending
use Rattle.ldb_top.specs.declared.serving.Next.{Next}
use Rattle.ldb_top.specs.declared.serving.Next.TheVariants as next
use Rattle.ldb_top.specs.Ahead.{without_return}
use Rattle.ldb_top.specs.Late.{is_quit}

-- What stands behind the first line that is `quit`, in bytes of which the first line began with others. Nothing does where no line is.
abbrev pub behind_quit : List ℕ → List ℕ → List ℕ
behind_quit begun [] = []
behind_quit begun (b ∷ rest) =
    if b == 10 then (if is_quit (without_return begun) then rest else behind_quit [] rest)
    else behind_quit (begun ++ b ∷ []) rest

-- the same of what a source has left, where it tells it
abbrev pub left_behind : List ℕ → Option (List ℕ) → Option (List ℕ)
left_behind begun None = None
left_behind begun (Some bytes) = Some (behind_quit begun bytes)

-- what is left once a line was read
abbrev pub LeftByLine : LineEnd → List ℕ → (before after : Option (List ℕ)) → Type 0
LeftByLine Whole line before after = left_behind [] before ≡ (if is_quit line then after else left_behind [] after)
LeftByLine Last line before after = left_behind [] before ≡ after
LeftByLine Cut line before after = Unit {0}

-- what is left once a line was answered
abbrev pub LeftByNext : (before after : Option (List ℕ)) → Next → Type 0
LeftByNext before after next.Line = left_behind [] before ≡ left_behind [] after
LeftByNext before after next.End = left_behind [] before ≡ after
LeftByNext before after next.Late = Unit {0}

-- what a session leaves whose commands were read to their end or to `quit`
abbrev pub LeftByAll : (before after : Option (List ℕ)) → Ending → Type 0
LeftByAll before after ending.Read = after ≡ left_behind [] before
LeftByAll before after ending.Late = Unit {0}
