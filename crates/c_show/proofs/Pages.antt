-- What is written item by item is the page of the whole value.
use Rattle.std.proofs.Common.{◌≡◌, refl, sym, ap, ◌∙◌, ℕ, suc, zero, ◌+◌, ◌-◌, ◌<◌, List, [], ◌∷◌, ◌++◌, length, take, drop, map, arith, Bool, true, false}
use Rattle.std.specs.Prelude.{codes, ◌==◌, if◌then◌else◌}
use Rattle.std.specs.declared.alloc.Global.{Global}
use Rattle.std.specs.declared.rc.Rc.{Rc}
use Rattle.std.proofs.lemmas.Bool.{ne_eqb}
use Rattle.std.proofs.lemmas.List.{take-map, drop-map}
use Rattle.c_tree.specs.declared.types.CType.{CType}
use Rattle.c_tree.specs.declared.types.CType.TheVariants.{Array', Struct}
use Rattle.c_tree.specs.declared.types.StructDef.{StructDef}
use Rattle.c_tree.specs.Layout.{members_of}
use Rattle.c_show.specs.declared.held.Held.{Held}
use Rattle.c_show.specs.declared.page.Page.{Page as Sheet}
use Rattle.c_show.specs.Printed.{Showing, Told, Page, string_text, byte_of, put_scalar, put_string, put_items, put_array, put_within, in_braces, with_text}
use Rattle.c_show.specs.Seen.{all_told, seen, before_item}

abbrev page_of : List ℕ → List Showing → ℕ → Page
page_of t x r = record { text = t; rest = x; room = r }

same_page : (t t' : List ℕ) (x x' : List Showing) (r r' : ℕ) → t ≡ t' → x ≡ x' → r ≡ r' → page_of t x r ≡ page_of t' x' r'
same_page t t' x x' r r' a b c = ap (λ u. page_of u x r) a ∙ ap (λ u. page_of t' u r) b ∙ ap (λ u. page_of t' x' u) c

pub string_put : (text : List ℕ) (room n r : ℕ) (leaves own more : List Held) (t : List ℕ)
    → own ≡ take n leaves → more ≡ drop n leaves → t ≡ text ++ string_text (map byte_of (all_told own)) → r ≡ room - 1
    → page_of t (all_told more) r ≡ put_string n (page_of text (all_told leaves) room)
string_put text room n r leaves own more t o m e f =
    let front : all_told own ≡ take n (all_told leaves) = ap all_told o ∙ sym (take-map Told n leaves) in
    let behind : all_told more ≡ drop n (all_told leaves) = ap all_told m ∙ sym (drop-map Told n leaves) in
    same_page _ _ _ _ _ _ (e ∙ ap (λ xs. text ++ string_text (map byte_of xs)) front) behind f

before_next : (i : ℕ) → before_item (i + 1) ≡ codes ", "
before_next i = ap (λ c. if c then [] else codes ", ") (ne_eqb (i + 1) 0 (λ z. omega (arith, z)))

-- one item more
pub next_item : (i : ℕ) (put : Page → Page) (puts rest : List (Page → Page)) (before page : Sheet) (leaves : List Held) (after all : Page)
    → puts ≡ put ∷ rest → page ≡ record before { text = before.text ++ before_item i } → (page.room ≡ 0 → ⊥) → after ≡ put (seen page leaves)
    → put_items (before_item i) puts (seen before leaves) ≡ all → put_items (before_item (i + 1)) rest after ≡ all
next_item i put puts rest before page leaves after all l e h a inv =
    let sep : List ℕ = before_item i in
    let some : (before.room == 0) ≡ false = ne_eqb before.room 0 (λ z. h (ap (λ (s : Sheet). s.room) e ∙ z)) in
    let full : Page = with_text (with_text (seen before leaves) sep) (codes "...") in
    let more : Page = put_items (codes ", ") rest (put (with_text (seen before leaves) sep)) in
    ap (λ b. put_items b rest after) (before_next i)
    ∙ ap (put_items (codes ", ") rest) a
    ∙ ap (λ (s : Sheet). put_items (codes ", ") rest (put (seen s leaves))) e
    ∙ sym (ap (λ c. if c then full else more) some)
    ∙ ap (λ ps. put_items sep ps (seen before leaves)) (sym l)
    ∙ inv

-- no room is left
pub full_item : (i : ℕ) (puts : List (Page → Page)) (before page : Sheet) (leaves : List Held) (text : List ℕ) (all : Page)
    → 0 < length puts → page ≡ record before { text = before.text ++ before_item i } → page.room ≡ 0 → text ≡ page.text ++ codes "..."
    → put_items (before_item i) puts (seen before leaves) ≡ all → page_of text (all_told leaves) page.room ≡ all
full_item i [] before page leaves text all lt e z t inv = absurd (omega (arith, lt))
full_item i (put ∷ rest) before page leaves text all lt e z t inv =
    let sep : List ℕ = before_item i in
    let room : page.room ≡ before.room = ap (λ (s : Sheet). s.room) e in
    let none : (before.room == 0) ≡ true = ap (λ n. n == 0) (sym room ∙ z) in
    let full : Page = with_text (with_text (seen before leaves) sep) (codes "...") in
    let more : Page = put_items (codes ", ") rest (put (with_text (seen before leaves) sep)) in
    same_page _ _ _ _ _ _ (t ∙ ap (λ (s : Sheet). s.text ++ codes "...") e) refl room
    ∙ sym (ap (λ c. if c then full else more) none)
    ∙ inv

module _ (defs : List StructDef) (deep d : ℕ) (here : deep ≡ suc d) (page : Page) where
  pub array_within : (n : ℕ) (b : Rc (Unit {0}) Global) (t item item' : CType) → t ≡ Array' b item n → item' ≡ item → put_array item' n (put_within defs d item') page ≡ put_within defs deep t page
  array_within n b t item item' e f =
      ap (λ i. put_array i n (put_within defs d i) page) f
      ∙ sym (ap (λ k. put_within defs k (Array' b item n) page) here)
      ∙ ap (λ u. put_within defs deep u page) (sym e)

  pub struct_within : (s : ℕ) (t : CType) → t ≡ Struct s → in_braces (map (λ m. put_within defs d m.ctype) (members_of defs s)) page ≡ put_within defs deep t page
  struct_within s t e =
      sym (ap (λ k. put_within defs k (Struct s) page) here)
      ∙ ap (λ u. put_within defs deep u page) (sym e)

  -- a type that is shown as a scalar
  pub scalar_within : (t u : CType) → t ≡ u → put_within defs (suc d) u page ≡ put_scalar u page → put_scalar t page ≡ put_within defs deep t page
  scalar_within t u e s =
      ap (λ v. put_scalar v page) e
      ∙ sym s
      ∙ sym (ap (λ k. put_within defs k u page) here)
      ∙ ap (λ v. put_within defs deep v page) (sym e)
