-- An expression inside something else ends where it should.
use Rattle.std.proofs.Common.{◌≡◌, Bool, true, false, ◌&&◌, nat_le, List, [], ◌∷◌, ◌++◌, Option, Some, None, refl, sym, ◌∙◌, ap, ap₂, subst, arith, lit≤, le_refl, append_assoc, append-nil}
use Rattle.std.specs.Prelude.{if◌then◌else◌, not}
use Rattle.std.proofs.lemmas.Bool.{leb-false}
use Rattle.c_symbol.specs.declared.terminal.Terminal.{Terminal}
use Rattle.c_symbol.specs.declared.symbol.BinaryOp.{BinaryOp}
use Rattle.c_symbol.specs.declared.symbol.BinaryOp.TheVariants.{Comma}
use Rattle.c_symbol.specs.declared.symbol.Symbol.{Symbol}
use Rattle.c_symbol.specs.declared.symbol.Symbol.TheVariants as symbol
use Rattle.c_expr.specs.declared.grown.Grown.{Grown}
use Rattle.c_expr.specs.declared.frame.Least.{Least}
use Rattle.c_expr.specs.declared.frame.Least.TheVariants.{Expression, Assignment, Constant}
use Rattle.c_expr.specs.declared.frame.Frame.{Frame}
use Rattle.c_expr.specs.declared.frame.Frame.TheVariants as frame
use Rattle.c_expr.specs.declared.state.Mode.TheVariants.{Want, Have}
use Rattle.c_expr.specs.declared.state.Parser.{Parser}
use Rattle.c_expr.specs.declared.inside.Offered.{Offered}
use Rattle.c_expr.specs.declared.inside.Offered.TheVariants.{Goes, Ends}
use Rattle.c_expr.specs.Frames.{least_of, need, is_start, reduce}
use Rattle.c_expr.specs.Machine.{Next, joined, argument, closed, having, shift, run, start, ended, whole}
use Rattle.c_expr.specs.Inside.{comma_closes, closes, ends, takes_comma, behind, wrapped, ends_with, offered_ended, offered, offer, until, EndsThere, EndsBehind}
use Rattle.c_expr.specs.First.{first}
use Rattle.c_expr.proofs.Pieces.{piece, gt-leb}
use Rattle.c_expr.proofs.Numbers.{least_some}
use Rattle.c_expr.proofs.Complete.{Reached, at_mode, reach, ends_whole}
use Rattle.c_expr.proofs.Standing.{Stands, Holds, OnNext}
use Rattle.c_expr.proofs.Sound.{OnWhole, shift_sound, whole_sound, starts}

true_false : true ≡ false → ⊥
true_false e = cc

-- what is found
abbrev got : Grown → List Terminal → Option (Grown × List Terminal)
got g l = Some (g, l)

none_some : (g : Grown) (l : List Terminal) → got g l ≡ None → ⊥
none_some g l e = cc

none_next : (p : Parser) → None ≡ Some p → ⊥
none_next p e = cc

-- what is read from an answer on
abbrev after : Least → Terminal → List Terminal → Option Offered → Option (Grown × List Terminal)
after least t ts o = elim o [ None ↦ None | Some a ↦ elim a [ Goes q ↦ until least ts q | Ends g ↦ Some (g, t ∷ ts) ] ]

abbrev going : List Terminal → Next → Next
going ts n = elim n [ None ↦ None | Some q ↦ run ts q ]

goes_by : (least : Least) (t : Terminal) (ts rest : List Terminal) (p q : Parser) → ((r : Parser) → run ts r ≡ Some q → until least (ts ++ rest) r ≡ until least rest q)
    → (n : Next) → shift p t ≡ n → going ts n ≡ Some q → until least (t ∷ (ts ++ rest)) p ≡ until least rest q
goes_by least t ts rest p q ih None e k = absurd (none_next q k)
goes_by least t ts rest p q ih (Some r) e k =
    ap (λ n. after least t (ts ++ rest) (offered (closes least t.symbol) (whole least (Some p)) n)) e ∙ ih r k

-- tokens that are read are not the end
goes_run : (least : Least) (ts : List Terminal) (p q : Parser) (rest : List Terminal) → run ts p ≡ Some q → until least (ts ++ rest) p ≡ until least rest q
goes_run least [] p q rest e = let same : p ≡ q = cc in ap (λ r. until least rest r) same
goes_run least (t ∷ ts) p q rest e = goes_by least t ts rest p q (λ r k. goes_run least ts r q rest k) (shift p t) refl e

-- nothing that is begun takes a token that may stand behind
and_false : (b c : Bool) (x y : Next) → c ≡ false → (if b && c then x else y) ≡ y
and_false true true x y e = absurd (true_false e)
and_false true false x y e = refl
and_false false c x y e = refl

comma_stops : (least : Least) → comma_closes least ≡ true → (g : Grown) → joined Comma (g, frame.Start least ∷ []) ≡ None
comma_stops Expression k g = absurd (true_false (sym k))
comma_stops Assignment k g = and_false (nat_le 1 g.level) false _ _ refl
comma_stops Constant k g = and_false (nat_le 1 g.level) false _ _ refl

binary_stops : (least : Least) (op : BinaryOp) → closes least (symbol.Binary op) ≡ true → (now g : Grown) (stack : List Frame) → reduce 1 now stack ≡ (g, frame.Start least ∷ [])
    → having stack now (symbol.Binary op) ≡ None
binary_stops least Comma k now g stack e = ap (joined Comma) e ∙ comma_stops least k g
binary_stops least _ k now g stack e = absurd (true_false (sym k))

stops : (least : Least) (y : Symbol) → closes least y ≡ true → (now g : Grown) (stack : List Frame) → reduce 1 now stack ≡ (g, frame.Start least ∷ []) → having stack now y ≡ None
stops least symbol.Colon k now g stack e = ap (closed symbol.Colon) e
stops least symbol.CloseParen k now g stack e = ap (closed symbol.CloseParen) e
stops least symbol.CloseBracket k now g stack e = ap (closed symbol.CloseBracket) e
stops least symbol.CloseBrace k now g stack e = ap (closed symbol.CloseBrace) e
stops least symbol.Semicolon k now g stack e = ap (closed symbol.Semicolon) e
stops least (symbol.Binary op) k now g stack e = binary_stops least op k now g stack e
stops least _ k now g stack e = absurd (true_false (sym k))

pub ends_there : EndsThere
ends_there least e at h ts d t rest k =
    let r : Reached (least_of least) e at h (frame.Start least ∷ []) ts [] = reach d (frame.Start least ∷ []) (le_refl _) [] in
    let p = at_mode (Have r.now) r.stack in
    let g = piece r.level e at h in
    let one : reduce 1 r.now r.stack ≡ (g, frame.Start least ∷ []) = r.folds 1 (least_some least) (lit≤ tt) in
    let all_read : run ts (start least) ≡ Some p = ap (λ l. run l (start least)) (sym (append-nil ts)) ∙ r.runs in
    let over : whole least (Some p) ≡ Some g = ap (ended least) one ∙ ends_whole least r.level e at h r.high in
    let stopped : shift p t ≡ None = stops least t.symbol k r.now g r.stack one in
    let done : offer least p t ≡ Some (Ends g) =
    ap (λ n. offered (closes least t.symbol) (whole least (Some p)) n) stopped ∙ ap (λ b. ends b (whole least (Some p))) k ∙ ap (ends true) over in
    (g, goes_run least ts (start least) p (t ∷ rest) all_read ∙ ap (after least t rest) done, refl, refl)

-- the other way
record Found (least : Least) (all done : List Terminal) (g : Grown) (rest : List Terminal) : Type 0 where
  front : List Terminal
  all_is : all ≡ front ++ rest
  stands : Stands (least_of least) g (done ++ front)

abbrev Finds : Least → List Terminal → Parser → List Terminal → Type 0
Finds least all p done = (g : Grown) (rest : List Terminal) → until least all p ≡ Some (g, rest) → Found least all done g rest

ended_here : (least : Least) (t : Terminal) (ts done : List Terminal) (g' g : Grown) (rest : List Terminal) → Stands (least_of least) g' done → got g' (t ∷ ts) ≡ got g rest → Found least (t ∷ ts) done g rest
ended_here least t ts done g' g rest d e =
    let pair : Grown × List Terminal = (g', t ∷ ts) in
    let other : Grown × List Terminal = (g, rest) in
    let both : pair ≡ other = cc in
    let same : g' ≡ g = ap (λ x. x.0) both in
    let left : t ∷ ts ≡ rest = ap (λ x. x.1) both in
    let P : Grown → Type 0 = λ x. Stands (least_of least) x (done ++ []) in
    let Q : List Terminal → Type 0 = λ l. Stands (least_of least) g' l in
    record { front = []; all_is = left; stands = subst P same (subst Q (sym (append-nil done)) d) }

stopped_here : (least : Least) (t : Terminal) (ts done : List Terminal) (c : Bool) (w : Option Grown) → OnWhole least w done → (g : Grown) (rest : List Terminal)
    → after least t ts (ends c w) ≡ Some (g, rest) → Found least (t ∷ ts) done g rest
stopped_here least t ts done true (Some g') d g rest e = ended_here least t ts done g' g rest d e
stopped_here least t ts done true None d g rest e = absurd (none_some g rest (sym e))
stopped_here least t ts done false None d g rest e = absurd (none_some g rest (sym e))
stopped_here least t ts done false (Some g') d g rest e = absurd (none_some g rest (sym e))

found_by : (least : Least) (t : Terminal) (ts done : List Terminal) → ((q : Parser) → Holds q.mode q.stack (done ++ t ∷ []) → Finds least ts q (done ++ t ∷ []))
    → (n : Next) → OnNext n (done ++ t ∷ []) → (c : Bool) (w : Option Grown) → OnWhole least w done → (g : Grown) (rest : List Terminal)
    → after least t ts (offered c w n) ≡ Some (g, rest) → Found least (t ∷ ts) done g rest
found_by least t ts done ih None d c w dw g rest e = stopped_here least t ts done c w dw g rest e
found_by least t ts done ih (Some q) d c w dw g rest e =
    let f = ih q d g rest e in
    let P : List Terminal → Type 0 = λ l. Stands (least_of least) g l in
    record { front = t ∷ f.front; all_is = ap (λ l. t ∷ l) f.all_is; stands = subst P (append_assoc done (t ∷ []) f.front) f.stands }

finds : (least : Least) (all : List Terminal) (p : Parser) (done : List Terminal) → Holds p.mode p.stack done → Finds least all p done
finds least [] p done d g rest e = absurd (none_some g rest (sym e))
finds least (t ∷ ts) p done d g rest e =
    found_by least t ts done (λ q k. finds least ts q (done ++ t ∷ []) k) (shift p t) (shift_sound p t done d) (closes least t.symbol) (whole least (Some p)) (whole_sound least (Some p) done d) g rest e

pub ends_behind : EndsBehind
ends_behind least all g rest e =
    let f = finds least all (start least) [] (starts least) g rest e in
    let d = f.stands in
    (f.front, f.all_is, (d.tree, d.height, d.is, d.kept))

-- what is found at a token that may stand behind is what the machine does
wrapped_is : (n : Next) (w : Option Grown) → (n ≡ None → w ≡ None) → wrapped n ≡ offered true w n
wrapped_is (Some q) w h = refl
wrapped_is None w h = sym (ap (ends true) (h refl))

ends_are : (w : Option Grown) → ends_with w ≡ ends true w
ends_are None = refl
ends_are (Some g) = refl

ends_is : (n : Next) (w : Option Grown) → n ≡ None → ends_with w ≡ offered true w n
ends_is n w e = ends_are w ∙ sym (ap (offered true w) e)

picked : (b : Bool) (x y : Option Offered) → b ≡ true → (if b then x else y) ≡ x
picked true x y e = refl
picked false x y e = absurd (true_false (sym e))

passed : (b : Bool) (x y : Option Offered) → b ≡ false → (if b then x else y) ≡ y
passed true x y e = absurd (true_false e)
passed false x y e = refl

not_kept : (b c : Bool) (g : Grown) → b ≡ false → (if b && c then Some g else None) ≡ None
not_kept true c g e = absurd (true_false e)
not_kept false c g e = refl

not_level : (b c : Bool) (g : Grown) → c ≡ false → (if b && c then Some g else None) ≡ None
not_level true true g e = absurd (true_false e)
not_level true false g e = refl
not_level false c g e = refl

comma_no : (l : Least) (s : List Frame) (g : Grown) → nat_le (least_of l) 1 ≡ false → joined Comma (g, frame.Start l ∷ s) ≡ None
comma_no l s g e = and_false (nat_le 1 g.level) (nat_le (least_of l) 1) _ _ e

binary_no : (least : Least) (op : BinaryOp) → closes least (symbol.Binary op) ≡ true → (g : Grown) (l : Least) (s : List Frame) → nat_le (least_of l) 1 ≡ false → joined op (g, frame.Start l ∷ s) ≡ None
binary_no least Comma k g l s e = comma_no l s g e
binary_no least _ k g l s e = absurd (true_false (sym k))

start_no : (least : Least) (y : Symbol) → closes least y ≡ true → (g : Grown) (l : Least) (s : List Frame) → takes_comma (frame.Start l ∷ s) y ≡ false → behind y (g, frame.Start l ∷ s) ≡ None
start_no least symbol.Colon k g l s e = refl
start_no least symbol.CloseParen k g l s e = refl
start_no least symbol.CloseBracket k g l s e = refl
start_no least symbol.CloseBrace k g l s e = refl
start_no least symbol.Semicolon k g l s e = refl
start_no least (symbol.Binary op) k g l s e = binary_no least op k g l s e
start_no least _ k g l s e = absurd (true_false (sym k))

none_behind : (least : Least) (y : Symbol) → closes least y ≡ true → (g : Grown) (s : List Frame) → is_start (first s) ≡ true → takes_comma s y ≡ false → behind y (g, s) ≡ None
none_behind least y k g [] b e = absurd (true_false (sym b))
none_behind least y k g (frame.Start l ∷ s) b e = start_no least y k g l s e
none_behind least y k g (_ ∷ s) b e = absurd (true_false (sym b))

some_next : (q : Parser) → Some q ≡ None → ⊥
some_next q e = cc

comma_level : (b c : Bool) (q : Parser) (n : Next) → c ≡ true → (if b && c then Some q else n) ≡ None → b ≡ false
comma_level true true q n e k = absurd (some_next q k)
comma_level true false q n e k = absurd (true_false (sym e))
comma_level false c q n e k = refl

level_no : (least : Least) (g : Grown) → nat_le 1 g.level ≡ false → nat_le (least_of least) g.level ≡ false
level_no least g e = gt-leb (least_of least) g.level (omega (arith, least_some least, leb-false 1 g.level e))

binary_none : (least : Least) (op : BinaryOp) → closes least (symbol.Binary op) ≡ true → (g : Grown) (s : List Frame) → nat_le (need s) 1 ≡ true → joined op (g, s) ≡ None → ended least (g, s) ≡ None
binary_none least Comma k g s e n =
    not_level (is_start (first s)) (nat_le (least_of least) g.level) g
    (level_no least g (comma_level (nat_le 1 g.level) (nat_le (need s) 1) (record { stack = frame.Binary Comma g ∷ s; mode = Want }) (argument Comma g s) e n))
binary_none least _ k g s e n = absurd (true_false (sym k))

comma_none : (least : Least) (y : Symbol) → closes least y ≡ true → (g : Grown) (s : List Frame) → takes_comma s y ≡ true → behind y (g, s) ≡ None → ended least (g, s) ≡ None
comma_none least (symbol.Binary op) k g s e n = binary_none least op k g s e n
comma_none least _ k g s e n = absurd (true_false (sym e))

offered_by : (least : Least) (y : Symbol) → closes least y ≡ true → (g : Grown) (s : List Frame) (b c : Bool) → is_start (first s) ≡ b → takes_comma s y ≡ c
    → offered_ended least y (g, s) ≡ offered true (ended least (g, s)) (behind y (g, s))
offered_by least y k g s false c eb ec =
    passed (is_start (first s) && not (takes_comma s y)) _ _ (ap (λ v. v && not (takes_comma s y)) eb)
    ∙ wrapped_is (behind y (g, s)) (ended least (g, s)) (λ _. not_kept (is_start (first s)) (nat_le (least_of least) g.level) g eb)
offered_by least y k g s true true eb ec =
    passed (is_start (first s) && not (takes_comma s y)) _ _ (ap₂ (λ v w. v && not w) eb ec)
    ∙ wrapped_is (behind y (g, s)) (ended least (g, s)) (λ n. comma_none least y k g s ec n)
offered_by least y k g s true false eb ec =
    picked (is_start (first s) && not (takes_comma s y)) _ _ (ap₂ (λ v w. v && not w) eb ec)
    ∙ ends_is (behind y (g, s)) (ended least (g, s)) (none_behind least y k g s eb ec)

offered_is : (least : Least) (y : Symbol) → closes least y ≡ true → (r : Grown × List Frame) → offered_ended least y r ≡ offered true (ended least r) (behind y r)
offered_is least y k (g, s) = offered_by least y k g s (is_start (first s)) (takes_comma s y) refl refl

binary_behind : (least : Least) (op : BinaryOp) → closes least (symbol.Binary op) ≡ true → (g : Grown) (s : List Frame) → joined op (reduce 1 g s) ≡ having s g (symbol.Binary op)
binary_behind least Comma k g s = refl
binary_behind least _ k g s = absurd (true_false (sym k))

behind_is : (least : Least) (y : Symbol) → closes least y ≡ true → (g : Grown) (s : List Frame) → behind y (reduce 1 g s) ≡ having s g y
behind_is least symbol.Colon k g s = refl
behind_is least symbol.CloseParen k g s = refl
behind_is least symbol.CloseBracket k g s = refl
behind_is least symbol.CloseBrace k g s = refl
behind_is least symbol.Semicolon k g s = refl
behind_is least (symbol.Binary op) k g s = binary_behind least op k g s
behind_is least _ k g s = absurd (true_false (sym k))

pub closer_is : (least : Least) (y : Symbol) → closes least y ≡ true → (g : Grown) (s : List Frame)
    → offered_ended least y (reduce 1 g s) ≡ offered true (ended least (reduce 1 g s)) (having s g y)
closer_is least y k g s = offered_is least y k (reduce 1 g s) ∙ ap (offered true (ended least (reduce 1 g s))) (behind_is least y k g s)
