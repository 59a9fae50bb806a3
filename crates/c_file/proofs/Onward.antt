-- Behind the names of a declaration, definitions stand in order, and what was in scope stays so.
use Rattle.std.proofs.Common.{◌≡◌, ◌++◌, ◌∷◌, [], ℕ, suc, List, Option, Some, None, refl, sym, ap, ◌∙◌, subst, append_assoc}
use Rattle.c_trees.specs.Initializers.{InitialTree}
use Rattle.c_trees.specs.Declarators.{DeclaratorTree}
use Rattle.c_trees.specs.declared.declaration.Declared.{Declared}
use Rattle.c_trees.specs.declared.declaration.Storage.{Storage}
use Rattle.c_typing.specs.Plain.{Plain}
use Rattle.c_typing.specs.Expressions.{Denoted}
use Rattle.c_judge.specs.Answers.{Answer, Known, Unknown, Broken}
use Rattle.c_linkage.specs.declared.definitions.Manner.{Manner}
use Rattle.c_scope.specs.Environment.{Environment, Visible}
use Rattle.c_file.specs.Files.{State, with_name, with_strings, with_initial, with_definition, row_of, after_what, after_name, after_all, what, manner_of, defining}
use Rattle.c_linkage.specs.Names.{FileName, Defining}
use Rattle.c_file.specs.Progress.{Onto}
use Rattle.c_file.proofs.Standings.{IsOrdered, one_ordered, none_behind}

-- a part that keeps both
pub record Keeps (p q : State) : Type 0 where
  pub onto : Onto p q
  pub ordered : IsOrdered p.here.unit p.definitions → IsOrdered q.here.unit q.definitions

pub keeps_same : (p : State) → Keeps p p
keeps_same p = record { onto = record { unit = refl; visible = ([], refl) }; ordered = λ h. h }

pub onto_on : (p q r : State) → Onto p q → Onto q r → Onto p r
onto_on p q r h k = record {
  unit = k.unit ∙ h.unit;
  visible = (k.visible.0 ++ h.visible.0, k.visible.1 ∙ (ap (λ l. k.visible.0 ++ l) h.visible.1 ∙ sym (append_assoc k.visible.0 h.visible.0 p.here.visible)));
}

pub keeps_on : (p q r : State) → Keeps p q → Keeps q r → Keeps p r
keeps_on p q r h k = record {
  onto = onto_on p q r h.onto k.onto;
  ordered = λ o. k.ordered (h.ordered o);
}

-- a definition more, or none
pub defining_ordered : (u : ℕ) (ds : List Defining) (f : FileName) (m : Option Manner) → f.unit ≡ u → IsOrdered u ds → IsOrdered u (ds ++ defining f m)
defining_ordered u ds f None e h = subst (IsOrdered u) (sym (none_behind ds)) h
defining_ordered u ds f (Some m) e h = one_ordered u ds (record { name = f.name; unit = f.unit; is_static = f.is_static; manner = m }) e h

module _ (s : Storage) where
  definition_keeps : (p : State) (f : FileName) (i : Option InitialTree) → f.unit ≡ p.here.unit → Keeps p (with_definition s p f i)
  definition_keeps p f None e = record { onto = record { unit = refl; visible = ([], refl) }; ordered = defining_ordered p.here.unit p.definitions f (manner_of s None f.denoted) e }
  definition_keeps p f (Some i) e = record { onto = record { unit = refl; visible = ([], refl) }; ordered = defining_ordered p.here.unit p.definitions f (manner_of s (Some i) f.denoted) e }

  what_keeps : (p : State) (d : Declared) (a : Answer Denoted) → Keeps p (after_what s p d a)
  what_keeps p d (Known x) =
      let f = row_of s p d x in
      let q = with_strings s (with_name p f) d.declarator in
      keeps_on p q (with_definition s q f d.initial) (record { onto = record { unit = refl; visible = (_ ∷ [], refl) }; ordered = λ h. h }) (definition_keeps q f d.initial refl)
  what_keeps p d (Unknown name) = keeps_same p
  what_keeps p d (Broken r at) = keeps_same p

  pub all_keep : (t : Plain) (p : State) (ds : List Declared) → Keeps p (after_all s t p ds)
  all_keep t p [] = keeps_same p
  all_keep t p (d ∷ ds) = keeps_on p (after_name s t p d) (after_all s t (after_name s t p d) ds) (what_keeps p d (what s t p d)) (all_keep t (after_name s t p d) ds)
