-- A line begins with what was written first.
use Rattle.std.proofs.Common.{◌≡◌, ◌∙◌, sym, ap, ℕ, List, [], ◌∷◌, ◌++◌, append_assoc, append-nil}
use Rattle.asking.specs.Lines.{line, BeginsWith}

pub line_begins : (bytes rest text : List ℕ) → text ≡ line (bytes ++ rest) → BeginsWith bytes text
line_begins bytes rest text e = (rest ++ 10 ∷ [], e ∙ append_assoc bytes rest (10 ∷ []))

-- more behind it changes nothing of that
pub begins_more : (bytes text more : List ℕ) → BeginsWith bytes text → BeginsWith bytes (text ++ more)
begins_more bytes text more w = (w.0 ++ more, ap (λ (t : List ℕ). t ++ more) w.1 ∙ append_assoc bytes w.0 more)

pub begins_on : (bytes text longer : List ℕ) → BeginsWith bytes text → BeginsWith text longer → BeginsWith bytes longer
begins_on bytes text longer w v = let x = begins_more bytes text v.0 w in (x.0, v.1 ∙ x.1)

pub begins_same : (text : List ℕ) → BeginsWith text text
begins_same text = ([], sym (append-nil text))
