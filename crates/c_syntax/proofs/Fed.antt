-- Reading tokens as they come is reading the terminals of the text.
use Rattle.std.proofs.Common.{◌≡◌, ℕ, List, [], ◌∷◌, ◌++◌, Option, Some, None, map, refl, sym, ◌∙◌, ap}
use Rattle.c_lex.specs.declared.token.Token.{Token}
use Rattle.c_symbol.specs.declared.terminal.Terminal.{Terminal}
use Rattle.c_symbol.specs.Terminals.{terminal_of, joined, terminals, waiting, pushed}
use Rattle.c_symbol.proofs.Joining.{joins_all}
use Rattle.c_syntax.specs.declared.state.UnitParser.{UnitParser}
use Rattle.c_syntax.specs.Machine.{Next, shift, run, start, whole, reading, shift_some, feed}

abbrev going : List Terminal → Next → Next
going ts n = elim n [ None ↦ None | Some q ↦ run ts q ]

some_next : (n : Next) → going [] n ≡ n
some_next None = refl
some_next (Some q) = refl

last_read : (last : Option Terminal) → joined (waiting last ++ []) ≡ waiting last
last_read None = refl
last_read (Some t) = refl

run_one : (out : Option Terminal) (p : UnitParser) → run (waiting out) p ≡ shift_some out p
run_one None p = refl
run_one (Some t) p = some_next (shift p t)

split_run : (out : Option Terminal) (rest : List Terminal) (p : UnitParser) → run (waiting out ++ rest) p ≡ going rest (shift_some out p)
split_run None rest p = refl
split_run (Some t) rest p = refl

go_on : (ts : List Terminal) (last : Option Terminal) → ((q : UnitParser) → feed ts last q ≡ run (joined (waiting last ++ ts)) q) → (n : Next)
    → elim n [ None ↦ None | Some q ↦ feed ts last q ] ≡ going (joined (waiting last ++ ts)) n
go_on ts last ih None = refl
go_on ts last ih (Some q) = ih q

pub fed : (ts : List Terminal) (last : Option Terminal) (p : UnitParser) → feed ts last p ≡ run (joined (waiting last ++ ts)) p
fed [] last p = sym (ap (λ l. run l p) (last_read last) ∙ run_one last p)
fed (t ∷ ts) last p =
    let out = (pushed last t).0 in
    let next = (pushed last t).1 in
    go_on ts next (λ q. fed ts next q) (shift_some out p)
    ∙ sym (split_run out (joined (waiting next ++ ts)) p)
    ∙ sym (ap (λ l. run l p) (joins_all last t ts))

pub read_is : (text : List ℕ) (tokens : List Token) → whole (feed (map (terminal_of text) tokens) None start) ≡ reading (terminals text tokens)
read_is text tokens = ap whole (fed (map (terminal_of text) tokens) None start)
