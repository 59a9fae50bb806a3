-- Expressions as a reader of their own.
use Rattle.std.proofs.Common.{◌≡◌, ℕ, Bool, true, false, List, [], ◌∷◌, ◌++◌, Option, Some, None, refl, sym, ◌∙◌, ap, subst}
use Rattle.std.proofs.lemmas.List.{append_cancel_right}
use Rattle.c_lex.specs.declared.token.Place.{Place}
use Rattle.c_symbol.specs.declared.terminal.Terminal.{Terminal}
use Rattle.c_trees.specs.Expressions.{Tree}
use Rattle.c_expr.specs.Grammar.{IsExpr}
use Rattle.c_expr.specs.Grown as expr
use Rattle.c_expr.specs.Frames.{least_of}
use Rattle.c_expr.specs.Machine.{start}
use Rattle.c_expr.specs.Inside.{closes, offer, until, Keeps}
use Rattle.c_expr.specs.declared.frame.Least.{Least}
use Rattle.c_expr.specs.declared.grown.Grown.{Grown}
use Rattle.c_expr.specs.declared.state.Parser.{Parser}
use Rattle.c_expr.specs.declared.inside.Offered.{Offered}
use Rattle.c_expr.specs.declared.inside.Offered.TheVariants as offered
use Rattle.c_expr.proofs.Embedded.{ends_there, ends_behind}
use Rattle.c_declaration.specs.declared.step.Step.{Step}
use Rattle.c_declaration.specs.declared.step.Step.TheVariants.{Goes, Ends}
use Rattle.c_declaration.specs.Feeding.{feed}
use Rattle.c_declaration.proofs.Fed.{Reader, onward, one_step, then_step}

abbrev pub as_step : Option Offered → Option (Step Parser Grown)
as_step None = None
as_step (Some (offered.Goes q)) = Some (Goes q)
as_step (Some (offered.Ends g)) = Some (Ends g)

abbrev pub expr_offer : Least → Reader Parser Grown
expr_offer least p t = as_step (offer least p t)

-- what is found
abbrev Found : Type 0
Found = Option (Grown × List Terminal)

abbrev pair : Grown → List Terminal → Grown × List Terminal
pair g l = (g, l)

none_found : (g : Grown) (l : List Terminal) → None ≡ Some (pair g l) → ⊥
none_found g l e = cc

none_step : (a : Step Parser Grown) → None ≡ Some a → ⊥
none_step a e = cc

-- what is read up to a token
pub record Read (least : Least) (ts : List Terminal) (t : Terminal) (p : Parser) (g : Grown) : Type 0 where
  pub now : Parser
  pub goes : feed (expr_offer least) ts (Goes p) ≡ Some (Goes now)
  pub ends : offer least now t ≡ Some (offered.Ends g)

record Split (least : Least) (all : List Terminal) (p : Parser) (g : Grown) (rest : List Terminal) : Type 0 where
  front : List Terminal
  behind : Terminal
  tail : List Terminal
  all_is : all ≡ front ++ behind ∷ tail
  rest_is : rest ≡ behind ∷ tail
  read : Read least front behind p g

abbrev after : Least → Terminal → List Terminal → Option Offered → Found
after least t ts o = elim o [ None ↦ None | Some a ↦ elim a [ offered.Goes q ↦ until least ts q | offered.Ends g ↦ Some (g, t ∷ ts) ] ]

split_goes : (least : Least) (t : Terminal) (ts : List Terminal) (p q : Parser) (g : Grown) (rest : List Terminal) → offer least p t ≡ Some (offered.Goes q) → Split least ts q g rest → Split least (t ∷ ts) p g rest
split_goes least t ts p q g rest e s =
    record {
      front = t ∷ s.front;
      behind = s.behind;
      tail = s.tail;
      all_is = ap (λ l. t ∷ l) s.all_is;
      rest_is = s.rest_is;
      read = record { now = s.read.now; goes = one_step (expr_offer least) p t s.front (Some (Goes q)) (ap as_step e) ∙ s.read.goes; ends = s.read.ends };
    }

split_ends : (least : Least) (t : Terminal) (ts : List Terminal) (p : Parser) (g' g : Grown) (rest : List Terminal) → offer least p t ≡ Some (offered.Ends g') → Some (pair g' (t ∷ ts)) ≡ Some (pair g rest) → Split least (t ∷ ts) p g rest
split_ends least t ts p g' g rest e k =
    let both : pair g' (t ∷ ts) ≡ pair g rest = cc in
    record {
      front = [];
      behind = t;
      tail = ts;
      all_is = refl;
      rest_is = sym (ap (λ x. x.1) both);
      read = record { now = p; goes = refl; ends = e ∙ ap (λ x. Some (offered.Ends x.0)) both };
    }

split_by : (least : Least) (t : Terminal) (ts : List Terminal) (p : Parser) (g : Grown) (rest : List Terminal) → ((q : Parser) → until least ts q ≡ Some (g, rest) → Split least ts q g rest)
    → (o : Option Offered) → offer least p t ≡ o → after least t ts o ≡ Some (g, rest) → Split least (t ∷ ts) p g rest
split_by least t ts p g rest ih None e k = absurd (none_found g rest k)
split_by least t ts p g rest ih (Some (offered.Goes q)) e k = split_goes least t ts p q g rest e (ih q k)
split_by least t ts p g rest ih (Some (offered.Ends g')) e k = split_ends least t ts p g' g rest e k

split : (least : Least) (all : List Terminal) (p : Parser) (g : Grown) (rest : List Terminal) → until least all p ≡ Some (g, rest) → Split least all p g rest
split least [] p g rest e = absurd (none_found g rest e)
split least (t ∷ ts) p g rest e = split_by least t ts p g rest (λ q k. split least ts q g rest k) (offer least p t) refl e

-- an expression is read up to a token that may stand behind it
abbrev first_of : List Terminal → Terminal → Terminal
first_of [] t = t
first_of (u ∷ us) t = u

abbrev rest_of : List Terminal → List Terminal
rest_of [] = []
rest_of (u ∷ us) = us

pub record ReadExpr (least : Least) (ts : List Terminal) (t : Terminal) (e : Tree) (at : Place) (h : ℕ) : Type 0 where
  pub grown : Grown
  pub read : Read least ts t (start least) grown
  pub place : grown.place ≡ at
  pub tree : grown.tree ≡ expr.cut e h

cut_off : (least : Least) (ts : List Terminal) (t : Terminal) (g : Grown) → Split least (ts ++ t ∷ []) (start least) g (t ∷ []) → Read least ts t (start least) g
cut_off least ts t g s =
    let behind_is : t ≡ s.behind = ap (λ l. first_of l t) s.rest_is in
    let tail_is : [] ≡ s.tail = ap rest_of s.rest_is in
    let same : ts ++ t ∷ [] ≡ s.front ++ t ∷ [] = s.all_is ∙ sym (ap (λ u. s.front ++ u ∷ []) behind_is ∙ ap (λ l. s.front ++ s.behind ∷ l) tail_is) in
    let front_is : s.front ≡ ts = sym (append_cancel_right ts s.front (t ∷ []) same) in
    let P : List Terminal → Type 0 = λ l. Read least l t (start least) g in
    let Q : Terminal → Type 0 = λ u. Read least s.front u (start least) g in
    subst P front_is (subst Q (sym behind_is) s.read)

pub expr_ends : (least : Least) {e : Tree} {at : Place} {h : ℕ} {ts : List Terminal} → IsExpr (least_of least) e at h ts → (t : Terminal) → closes least t.symbol ≡ true → ReadExpr least ts t e at h
expr_ends least {e} {at} {h} {ts} d t k =
    let r = ends_there least e at h ts d t [] k in
    record { grown = r.0; read = cut_off least ts t r.0 (split least (ts ++ t ∷ []) (start least) r.0 (t ∷ []) r.1); place = r.2; tree = r.3 }

-- what is read up to a token is an expression
ends_here : (least : Least) (t : Terminal) (p : Parser) (g : Grown) (tail : List Terminal) → offer least p t ≡ Some (offered.Ends g) → until least (t ∷ tail) p ≡ Some (g, t ∷ tail)
ends_here least t p g tail e = ap (after least t tail) e

goes_ends : (q : Parser) (g : Grown) → Some (Goes q) ≡ Some (Ends g) → ⊥
goes_ends q g e = cc

joined_by : (least : Least) (u : Terminal) (us : List Terminal) (t : Terminal) (p q : Parser) (g : Grown) → ((r : Parser) → feed (expr_offer least) us (Goes r) ≡ Some (Goes q) → until least (us ++ t ∷ []) r ≡ Some (g, t ∷ []))
    → (o : Option Offered) → offer least p u ≡ o → onward (expr_offer least) us (as_step o) ≡ Some (Goes q) → until least (u ∷ (us ++ t ∷ [])) p ≡ Some (g, t ∷ [])
joined_by least u us t p q g ih None e k = absurd (none_step (Goes q) k)
joined_by least u us t p q g ih (Some (offered.Goes r)) e k = ap (after least u (us ++ t ∷ [])) e ∙ ih r k
joined_by least u [] t p q g ih (Some (offered.Ends g')) e k = absurd (goes_ends q g' (sym k))
joined_by least u (v ∷ vs) t p q g ih (Some (offered.Ends g')) e k = absurd (none_step (Goes q) k)

joined : (least : Least) (ts : List Terminal) (t : Terminal) (p q : Parser) (g : Grown) → feed (expr_offer least) ts (Goes p) ≡ Some (Goes q) → offer least q t ≡ Some (offered.Ends g) → until least (ts ++ t ∷ []) p ≡ Some (g, t ∷ [])
joined least [] t p q g e k = let same : p ≡ q = cc in ends_here least t p g [] (ap (λ r. offer least r t) same ∙ k)
joined least (u ∷ us) t p q g e k = joined_by least u us t p q g (λ r l. joined least us t r q g l k) (offer least p u) refl e

pub expr_is : (least : Least) (ts : List Terminal) (t : Terminal) (q : Parser) (g : Grown) → feed (expr_offer least) ts (Goes (start least)) ≡ Some (Goes q) → offer least q t ≡ Some (offered.Ends g) → Keeps least g ts
expr_is least ts t q g e k =
    let r = ends_behind least (ts ++ t ∷ []) g (t ∷ []) (joined least ts t (start least) q g e k) in
    let P : List Terminal → Type 0 = λ l. Keeps least g l in
    subst P (sym (append_cancel_right ts r.0 (t ∷ []) r.1)) r.2

-- one token more
pub expr_goes : (least : Least) (ts : List Terminal) (t : Terminal) (p q : Parser) → feed (expr_offer least) ts (Goes (start least)) ≡ Some (Goes p) → offer least p t ≡ Some (offered.Goes q)
    → feed (expr_offer least) (ts ++ t ∷ []) (Goes (start least)) ≡ Some (Goes q)
expr_goes least ts t p q e k = then_step (expr_offer least) ts (t ∷ []) (Goes (start least)) (Some (Goes p)) e ∙ one_step (expr_offer least) p t [] (Some (Goes q)) (ap as_step k)
