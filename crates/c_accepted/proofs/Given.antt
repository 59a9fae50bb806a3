-- An initializer gives the leaves of its object, where its numbers are words and its places are in objects.
use Rattle.std.proofs.Common.{◌≡◌, refl, sym, ap, ◌∙◌, subst, arith, ℕ, zero, suc, true, not, ◌||◌, ◌==◌, List, [], ◌∷◌, length, map, Some, None, bytes_eq, if◌then◌else◌}
use Rattle.std.specs.Prelude.{slice_get}
use Rattle.std.specs.List.{AllByRecursion}
use Rattle.std.proofs.lemmas.Bool.{eqb-true}
use Rattle.std.proofs.lemmas.Slice.Eq.{bytes_eq-Decides}
use Rattle.c_trees.specs.Initializers.{InitialTree, Value, Braces, Item}
use Rattle.c_tree.specs.declared.types.StructDef.{StructDef}
use Rattle.c_tree.specs.declared.types.Member.{Member}
use Rattle.c_tree.specs.declared.rows.Program.{Program}
use Rattle.c_tree.specs.declared.rows.ObjectRow.{ObjectRow}
use Rattle.c_tree.specs.Layout.{members_of}
use Rattle.c_defs.specs.Depths.{deepest}
use Rattle.c_scope.specs.Environment.{Environment}
use Rattle.c_initial.specs.Filled as filled
use Rattle.c_initial.specs.Filled.{AreComplete}
use Rattle.c_linkage.specs.Names.{FileName, Defining, is_here, one_linkage}
use Rattle.c_linkage.specs.FileNames.{AreConsistent}
use Rattle.c_file.specs.Files.{State}
use Rattle.c_linkage.specs.Wanted.{Started}
use Rattle.c_file.specs.Made.{Each, IsObjectOf, started, object_type}
use Rattle.c_linkage.specs.Defined.{objects_from}
use Rattle.c_linkage.proofs.Telling.{same_linkage}
use Rattle.c_accepted.specs.Grown.{IsHeld}
use Rattle.c_accepted.proofs.Completed.{AreSound}
use Rattle.c_accepted.proofs.Declarations.{IsWhole, IsWholeIn}
use Rattle.c_accepted.proofs.Growth.{both_parts}
use Rattle.c_accepted.proofs.Completing.{held_in}
use Rattle.c_accepted.proofs.Composite.{IsOf, object_type_is}
use Rattle.c_accepted.proofs.Differing.{here_is, IsAnObject, all_objects, unseen}
use Rattle.c_accepted.proofs.Objects.{complete_bounded}
use Rattle.c_accepted.proofs.KindsOfLeaves.{kinds_of, kinds_grow, Hold}
use Rattle.c_accepted.proofs.Begun.{GivesLeaves, AllGive}
use Rattle.c_accepted.proofs.Filled.{ValuesGive, fills}
use Rattle.c_accepted.proofs.Starting.{IsWordStart}
use Rattle.c_accepted.proofs.Started.{IsBegun, AreBegun}
use Rattle.c_accepted.proofs.Initializers.{HaveWordBegins, initializer_formed, begins_words, objects_words}
use Rattle.c_accepted.proofs.Values.{value_gives}

-- ---- declarations of a name in a file have one linkage

linkage_at : (f : FileName) (gs : List FileName) (n : ℕ) (g : FileName) → one_linkage f gs ≡ true → slice_get gs n ≡ Some g → g.unit ≡ f.unit → g.name ≡ f.name → f.is_static ≡ g.is_static
linkage_at f [] n g h e u w = absurd (let q : None ≡ Some g = e in cc)
linkage_at f (x ∷ gs) zero g h e u w =
    let q : Some x ≡ Some g = e in
    let k : x ≡ g = cc in
    let p = both_parts (not (is_here f.unit f.name x) || (if f.is_static then x.is_static else not x.is_static)) (one_linkage f gs) h in
    let r = subst (λ (y : FileName). (not (is_here f.unit f.name y) || (if f.is_static then y.is_static else not y.is_static)) ≡ true) k p.0 in
    same_linkage f.is_static g.is_static (sym (ap (λ b. not b || (if f.is_static then g.is_static else not g.is_static)) (here_is f g u w)) ∙ r)
linkage_at f (x ∷ gs) (suc n) g h e u w =
    linkage_at f gs n g (both_parts (not (is_here f.unit f.name x) || (if f.is_static then x.is_static else not x.is_static)) (one_linkage f gs) h).1 e u w

pub one_linkage_in : (fs : List FileName) (m n : ℕ) (f g : FileName) → AreConsistent fs → slice_get fs m ≡ Some f → slice_get fs n ≡ Some g → f.unit ≡ g.unit → f.name ≡ g.name → f.is_static ≡ g.is_static
one_linkage_in [] m n f g c d e u w = absurd (let q : None ≡ Some f = d in cc)
one_linkage_in (x ∷ fs) zero zero f g c d e u w =
    let p : Some x ≡ Some f = d in
    let q : Some x ≡ Some g = e in
    let k : f ≡ g = cc in
    ap (λ (y : FileName). y.is_static) k
one_linkage_in (x ∷ fs) zero (suc n) f g c d e u w =
    let p : Some x ≡ Some f = d in
    let k : x ≡ f = cc in
    linkage_at f fs n g (subst (λ y. one_linkage y fs ≡ true) k c.0) e (sym u) (sym w)
one_linkage_in (x ∷ fs) (suc m) zero f g c d e u w =
    let q : Some x ≡ Some g = e in
    let k : x ≡ g = cc in
    sym (linkage_at g fs m f (subst (λ y. one_linkage y fs ≡ true) k c.0) d u w)
one_linkage_in (x ∷ fs) (suc m) (suc n) f g c d e u w = one_linkage_in fs m n f g c.2 d e u w

-- ---- what an initializer gives

whole_members : (defs : List StructDef) (ms : List Member) → AllByRecursion (IsHeld defs) ms → AreComplete defs ms
whole_members defs [] h = tt
whole_members defs (m ∷ ms) h = (h.0.1, whole_members defs ms h.1)

whole_structs : (defs : List StructDef) → AreSound defs → filled.AreWhole defs
whole_structs defs a s = whole_members defs (members_of defs s) (held_in defs a s)

module _ (p : Program) (q : State) (unit : ℕ) (v : Environment) where
  values : (w : filled.AreWhole v.defs) (i : InitialTree) → ValuesGive p q unit v w i
  values w (Value e) = value_gives p q unit v e
  values w (Braces at) = tt
  values w (Item i j) = (values w i, values w j)

pub gives_leaves : (p : Program) (q : State) (d : Defining) (s : Started) → AreConsistent q.names → length q.strings ≡ length p.strings → IsWhole p.defs q.names d → (b : IsBegun p.defs q.names (length q.strings) s) → GivesLeaves p q d s
gives_leaves p q d s c many h b e =
    let r = both_parts (s.unit == d.unit) (bytes_eq s.name d.name) e in
    let unit : b.declaration.unit ≡ d.unit = b.unit ∙ eqb-true s.unit d.unit r.0 in
    let name : b.declaration.name ≡ d.name = b.name ∙ (bytes_eq-Decides s.name d.name).0 r.1 in
    let linkage : b.declaration.is_static ≡ d.is_static = one_linkage_in q.names b.number h.number b.declaration h.declaration c b.there h.there (unit ∙ sym h.unit) (name ∙ sym h.name) ∙ h.linkage in
    let complete = b.complete in
    let of : IsOf b.declaration.denoted b.ctype = subst (λ x. IsOf x b.ctype) (sym b.denotes) refl in
    let type : object_type q d ≡ b.ctype = object_type_is q d b.number b.declaration b.ctype c (complete_bounded b.place.defs b.ctype complete) b.there name unit linkage of in
    let whole = whole_structs b.place.defs b.sound in
    let strings = b.strings in
    let leaves = fills p q d.unit b.place whole b.initial (initializer_formed b.initial b.formed) (values p q d.unit b.place whole b.initial) b.string b.ctype b.limited complete b.well (omega (arith, strings, many)) in
    let kinds : kinds_of p.defs deepest (object_type q d) ≡ kinds_of b.place.defs deepest b.ctype = ap (kinds_of p.defs deepest) type ∙ kinds_grow b.place.defs p.defs b.grows deepest b.ctype complete in
    subst (λ ks. Hold p ks (map (started q d.unit) s.begins)) (sym kinds) (subst (λ bs. Hold p (kinds_of b.place.defs deepest b.ctype) (map (started q d.unit) bs)) (sym b.begins) leaves)

module _ (p : Program) (q : State) (consistent : AreConsistent q.names) (many : length q.strings ≡ length p.strings) (begun : AreBegun p.defs q) where
  all_starts : (d : Defining) → IsWhole p.defs q.names d → (ss : List Started) → AllByRecursion (IsBegun p.defs q.names (length q.strings)) ss → AllByRecursion (GivesLeaves p q d) ss
  all_starts d w [] b = tt
  all_starts d w (s ∷ ss) b = (gives_leaves p q d s consistent many w b.0, all_starts d w ss b.1)

  each : (ds : List Defining) → AllByRecursion IsAnObject ds → AllByRecursion (IsWholeIn p.defs q.names) ds → AllByRecursion (AllGive p q) ds
  each [] h w = tt
  each (d ∷ ds) h w = (all_starts d (w.0 h.0) q.starts begun, each ds h.1 w.1)

  -- what the initializers of each object give
  pub all_give : (ds : List Defining) → AllByRecursion (IsWholeIn p.defs q.names) ds → AllByRecursion (AllGive p q) (objects_from [] ds)
  all_give ds w = each (objects_from [] ds) (unseen IsAnObject [] ds (λ e x y. x)) (all_objects (IsWholeIn p.defs q.names) [] ds w)

-- ---- words

all_word_begins : (defs : List StructDef) (fs : List FileName) (n : ℕ) (ss : List Started) → AllByRecursion (IsBegun defs fs n) ss → AllByRecursion (λ (s : Started). HaveWordBegins s.begins) ss
all_word_begins defs fs n [] h = tt
all_word_begins defs fs n (s ∷ ss) h = (
  subst HaveWordBegins (sym h.0.begins) (begins_words h.0.place h.0.string h.0.ctype h.0.initial h.0.formed),
  all_word_begins defs fs n ss h.1,
)

-- the numbers that objects begin with
pub words_given : (defs : List StructDef) (q : State) → AreBegun defs q → (ds : List Defining) (os : List ObjectRow) → Each (IsObjectOf q) ds os → AllByRecursion (λ (o : ObjectRow). AllByRecursion IsWordStart o.start) os
words_given defs q h ds os e = objects_words q ds os (all_word_begins defs q.names (length q.strings) q.starts h) e
