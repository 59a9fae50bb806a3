-- What stands in a part of a function, by its numbers in the program: its points and its strings, and that what it calls is there.
use Rattle.std.proofs.Common.{◌≡◌, refl, ap, subst, arith, ℕ, suc, ◌+◌, List, [], ◌∷◌, ◌++◌, length, map, Option, Some, None}
use Rattle.std.specs.Prelude.{slice_get}
use Rattle.std.specs.List.{AllByRecursion}
use Rattle.std.proofs.lemmas.List.{map-append}
use Rattle.c_trees.specs.Expressions.{Tree}
use Rattle.c_tree.specs.declared.rows.Program.{Program}
use Rattle.c_tree.specs.declared.rows.Point.{Point}
use Rattle.c_typing.specs.Plain.{Plain}
use Rattle.c_typing.specs.Expressions.{Function}
use Rattle.c_typing.specs.Declarations.{scope_at}
use Rattle.c_scope.specs.Environment.{Row, Visible, number_of}
use Rattle.c_mentions.specs.Literals.{Literal, texts, in_part, in_tree}
use Rattle.c_body.specs.Stops.{Stop}
use Rattle.c_body.specs.Becoming.{Before, past, past_part}
use Rattle.c_accepted.proofs.Runs.{IsAt, at_first, at_second, all_first, all_second}

pub texts_both : (ls ms : List Literal) → texts (ls ++ ms) ≡ texts ls ++ texts ms
texts_both [] ms = refl
texts_both (l ∷ ls) ms = ap (λ xs. l.text ∷ xs) (texts_both ls ms)

pub texts_length : (ls : List Literal) → length (texts ls) ≡ length ls
texts_length [] = refl
texts_length (l ∷ ls) = ap suc (texts_length ls)

stops_length : (g : Stop → Point) (ss : List Stop) → length (map g ss) ≡ length ss
stops_length g [] = refl
stops_length g (s ∷ ss) = ap suc (stops_length g ss)

module _ (p : Program) (f : ℕ) (ends : List Row) (outside : List Visible) where
  abbrev pub stop_row : Stop → Point
  stop_row s = record { function = f; line = s.line; column = s.column; symbol = s.symbol }

  -- a name of a function that the program has
  abbrev pub Good : List ℕ → Type 0
  Good text = (n : ℕ) (r : Row) (t : Plain) (ts : List Plain) → number_of outside text ≡ Some n → slice_get ends n ≡ Some r → r.denoted ≡ Function t ts → slice_get (scope_at p f []).names n ≡ Some (Function t ts)

  pub record Listed (c : Before) (ss : List Stop) (ls : List Literal) (cs : List (List ℕ)) : Type 0 where
    pub points : IsAt p.points c.points (map stop_row ss)
    pub strings : IsAt p.strings c.strings (texts ls)
    pub calls : AllByRecursion Good cs

  pub listed_first : (c : Before) (ss ts : List Stop) (ls ms : List Literal) (cs ds : List (List ℕ)) → Listed c (ss ++ ts) (ls ++ ms) (cs ++ ds) → Listed c ss ls cs
  listed_first c ss ts ls ms cs ds h = record {
    points = at_first p.points c.points (map stop_row ss) (map stop_row ts) (subst (IsAt p.points c.points) (map-append stop_row ss ts) h.points);
    strings = at_first p.strings c.strings (texts ls) (texts ms) (subst (IsAt p.strings c.strings) (texts_both ls ms) h.strings);
    calls = all_first Good cs ds h.calls;
  }

  pub listed_second : (c : Before) (ss ts : List Stop) (ls ms : List Literal) (cs ds : List (List ℕ)) → Listed c (ss ++ ts) (ls ++ ms) (cs ++ ds) → Listed (past c (length ss) ls) ts ms ds
  listed_second c ss ts ls ms cs ds h =
      let m = stops_length stop_row ss in
      let n = texts_length ls in record {
        points = at_second p.points c.points (c.points + length ss) (map stop_row ss) (map stop_row ts) (omega (arith, m)) (subst (IsAt p.points c.points) (map-append stop_row ss ts) h.points);
        strings = at_second p.strings c.strings (c.strings + length ls) (texts ls) (texts ms) (omega (arith, n)) (subst (IsAt p.strings c.strings) (texts_both ls ms) h.strings);
        calls = all_second Good cs ds h.calls;
      }

  pub listed_moved : (c d : Before) (ss : List Stop) (ls : List Literal) (cs : List (List ℕ)) → c.points ≡ d.points → c.strings ≡ d.strings → Listed c ss ls cs → Listed d ss ls cs
  listed_moved c d ss ls cs a b h = record {
    points = subst (λ n. IsAt p.points n (map stop_row ss)) a h.points;
    strings = subst (λ n. IsAt p.strings n (texts ls)) b h.strings;
    calls = h.calls;
  }

  -- behind a part that may be absent
  pub part_strings : (c : Before) (i : Option Tree) → (past_part c i).strings ≡ c.strings + length (in_part in_tree i)
  part_strings c None = omega arith
  part_strings c (Some e) = refl
