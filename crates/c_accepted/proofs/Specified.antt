-- The structs that are declared behind the type that a declaration begins with (C90 6.5.2).
use Rattle.std.proofs.Common.{◌≡◌, ◌≤◌, ◌<◌, refl, sym, ap, ◌∙◌, subst, arith, ℕ, Bool, true, false, not, ◌&&◌, ◌||◌, ◌==◌, true≢false, List, [], ◌∷◌, ◌++◌, length, map, Option, Some, None, bytes_eq, if◌then◌else◌}
use Rattle.std.specs.Prelude.{nat_le, slice_get}
use Rattle.std.specs.List.{AllByRecursion}
use Rattle.std.proofs.lemmas.Bool.{eqb-true}
use Rattle.std.proofs.lemmas.Option.{slice_get_within}
use Rattle.std.proofs.lemmas.Slice.Eq.{bytes_eq-Decides}
use Rattle.c_trees.specs.Declarators.{DeclaratorTree, begins}
use Rattle.c_tree.specs.declared.types.StructDef.{StructDef}
use Rattle.c_tree.specs.declared.types.Member.{Member}
use Rattle.c_tree.specs.Layout.{members_of, members_in, size_in}
use Rattle.c_typing.specs.Plain.{Plain, Struct, is_empty, is_complete, same}
use Rattle.c_typing.specs.Declarations.{Differ, is_named, member_name}
use Rattle.c_defs.specs.Depths.{deepest, is_within, are_within}
use Rattle.c_typing.specs.Values.{size_of}
use Rattle.c_judge.specs.Answers.{Known, Unknown, Broken, ◌then◌}
use Rattle.c_judge.specs.Judgement.{limited}
use Rattle.c_scope.specs.Environment.{Environment, struct_of}
use Rattle.c_scope.specs.Findings.{Finding, fine, nothing, ◌beside◌, holds}
use Rattle.c_scope.specs.Declarators.{Shape, Object, Function, shape, name_in}
use Rattle.c_struct.specs.Structs.{Written, written, Open, written_names, object_member, member, members, IsRow, IsRowOf, Completes, same_members, agrees, completed_found}
use Rattle.c_linkage.proofs.Telling.{same_plain}
use Rattle.c_accepted.specs.Grown.{IsMade, IsHeld, Grows}
use Rattle.c_accepted.proofs.Completed.{IsSound, AreSound, Extends, Agree}
use Rattle.c_accepted.proofs.Growth.{both_parts}
use Rattle.c_accepted.proofs.Known.{never, one_known, then_known, if_known}
use Rattle.c_accepted.proofs.Written.{IsNamed}
use Rattle.c_accepted.proofs.Completing.{held_all, laid_out_grows, sound_grows, extended}
use Rattle.c_accepted.proofs.Shapes.{IsShaped, shape_named}

-- ---- names

or_false : (a b : Bool) → a || b ≡ false → (a ≡ false) × (b ≡ false)
or_false false b h = (refl, h)
or_false true b h = absurd (true≢false h)

other_name : (x y : List ℕ) → bytes_eq x y ≡ false → bytes_eq y x ≡ false
other_name x y h = by (bytes_eq y x) refl
  where
    by : (b : Bool) → bytes_eq y x ≡ b → bytes_eq y x ≡ false
    by false e = e
    by true e = absurd (true≢false (sym ((bytes_eq-Decides x y).1 (sym ((bytes_eq-Decides y x).0 e))) ∙ h))

not_last : (ns : List (List ℕ)) (n x : List ℕ) → is_named ns x ≡ false → bytes_eq n x ≡ false → is_named (ns ++ n ∷ []) x ≡ false
not_last [] n x h e = ap (λ b. b || false) e
not_last (m ∷ ns) n x h e = let q = or_false (bytes_eq m x) (is_named ns x) h in ap (λ b. b || is_named (ns ++ n ∷ []) x) q.0 ∙ not_last ns n x q.1 e

differ_last : (ns : List (List ℕ)) (n : List ℕ) → Differ ns → is_named ns n ≡ false → Differ (ns ++ n ∷ [])
differ_last [] n d h = (refl, tt)
differ_last (m ∷ ns) n d h =
    let q = or_false (bytes_eq m n) (is_named ns n) h in
    (not_last ns n m d.0 (other_name m n q.0), differ_last ns n d.1 q.1)

names_last : (ws : List Written) (w : Written) → written_names (ws ++ w ∷ []) ≡ written_names ws ++ w.name ∷ []
names_last [] w = refl
names_last (x ∷ ws) w = ap (λ l. x.name ∷ l) (names_last ws w)

-- ---- members that stand before the `}`

abbrev pub IsHeldAs : List StructDef → Written → Type 0
IsHeldAs defs w = IsMade defs w.ctype × (is_complete defs w.ctype ≡ true)

abbrev pub AreOpen : List StructDef → List Written → Type 0
AreOpen defs ws = AllByRecursion (IsHeldAs defs) ws × Differ (written_names ws)

abbrev pub AllOpen : List StructDef → List Open → Type 0
AllOpen defs os = AllByRecursion (λ o. AreOpen defs o.members) os

held_last : (P : Written → Type 0) (ws : List Written) (w : Written) → AllByRecursion P ws → P w → AllByRecursion P (ws ++ w ∷ [])
held_last P [] w h k = (k, tt)
held_last P (x ∷ ws) w h k = (h.0, held_last P ws w h.1 k)

not_true : (b : Bool) → not b ≡ true → b ≡ false
not_true false h = refl
not_true true h = absurd (true≢false (sym h))

object_open : (defs : List StructDef) (ms more : List Written) (at : ℕ) (name : List ℕ) (t : Plain) → AreOpen defs ms → IsNamed defs t → object_member defs ms at name t ≡ Known more → AreOpen defs more
object_open defs ms more at name t o m h =
    let w : Written = record { name = name; ctype = t } in
    let q = if_known (is_complete defs t && not (is_named (written_names ms) name)) (ms ++ w ∷ []) more 3 at h in
    let p = both_parts (is_complete defs t) (not (is_named (written_names ms) name)) q.0 in
    subst (AreOpen defs) q.1 (
      held_last (IsHeldAs defs) ms w o.0 (m.0, p.0),
      subst Differ (sym (names_last ms w)) (differ_last (written_names ms) name o.1 (not_true (is_named (written_names ms) name) p.1)),
    )

module _ (v : Environment) where
  member_open : (ms more : List Written) (at : ℕ) (name : List ℕ) (x : Shape) → AreOpen v.defs ms → IsShaped v.defs x → member v ms at name x ≡ Known more → AreOpen v.defs more
  member_open ms more at name (Object t) o m h = object_open v.defs ms more at name t o m h
  member_open ms more at name (Function t ps) o m h = never (Broken 9 at) more (λ k. k) h

  pub members_open : (ms more : List Written) (t : Plain) (ds : List DeclaratorTree) → AreOpen v.defs ms → IsNamed v.defs t → members v ms t ds ≡ Known more → AreOpen v.defs more
  members_open ms more t [] o m h = subst (AreOpen v.defs) (one_known ms more h) o
  members_open ms more t (d ∷ ds) o m h =
      let (some, e, k) = then_known (shape v d t then member v ms (begins d).at (name_in d)) (λ more. members v more t ds) more h in
      let (x, p, q) = then_known (shape v d t) (member v ms (begins d).at (name_in d)) some e in
      members_open some more t ds (member_open ms some (begins d).at (name_in d) x o (shape_named v d t x m p) q) m k

-- ---- a struct is completed

names_of : (ms : List Member) (ws : List Written) (defs : List StructDef) → map written ms ≡ ws → Differ (written_names ws) → Differ (map (member_name defs) ms)
names_of ms ws defs e h = subst Differ (same ms) (subst (λ l. Differ (written_names l)) (sym e) h)
  where
    same : (ms : List Member) → written_names (map written ms) ≡ map (member_name defs) ms
    same [] = refl
    same (m ∷ ms) = ap (λ l. m.name ∷ l) (same ms)

held_of : (defs : List StructDef) (ms : List Member) (ws : List Written) → map written ms ≡ ws → AllByRecursion (IsHeldAs defs) ws → AllByRecursion (IsHeld defs) ms
held_of defs ms ws e h = all ms (subst (AllByRecursion (IsHeldAs defs)) (sym e) h)
  where
    all : (ms : List Member) → AllByRecursion (IsHeldAs defs) (map written ms) → AllByRecursion (IsHeld defs) ms
    all [] k = tt
    all (m ∷ ms) k = (k.0, all ms k.1)

holds_true : (b : Bool) (r at : ℕ) → holds b r at ≡ nothing → b ≡ true
holds_true true r at h = refl
holds_true false r at h = absurd (let x : Broken r at ≡ nothing = h in cc)

both_nothing : (f g : Finding) → (f beside g) ≡ nothing → (f ≡ nothing) × (g ≡ nothing)
both_nothing (Known fine) (Known fine) h = (refl, refl)
both_nothing (Known fine) (Unknown n) h = absurd (let x : Unknown n ≡ nothing = h in cc)
both_nothing (Known fine) (Broken r at) h = absurd (let x : Broken r at ≡ nothing = h in cc)
both_nothing (Unknown n) (Known y) h = absurd (let x : Unknown n ≡ nothing = h in cc)
both_nothing (Unknown n) (Unknown m) h = absurd (let x : Unknown n ≡ nothing = h in cc)
both_nothing (Unknown n) (Broken r at) h = absurd (let x : Broken r at ≡ nothing = h in cc)
both_nothing (Broken r at) g h = absurd (let x : Broken r at ≡ nothing = h in cc)

same_written : (xs ys : List Written) → same_members xs ys ≡ true → xs ≡ ys
same_written [] [] h = refl
same_written (x ∷ xs) (y ∷ ys) h =
    let p = both_parts (bytes_eq x.name y.name && same x.ctype y.ctype) (same_members xs ys) h in
    let q = both_parts (bytes_eq x.name y.name) (same x.ctype y.ctype) p.0 in
    let n : x.name ≡ y.name = (bytes_eq-Decides x.name y.name).0 q.0 in
    let t : x.ctype ≡ y.ctype = same_plain x.ctype y.ctype q.1 in
    λ i. record { name = n i; ctype = t i } ∷ same_written xs ys p.1 i
same_written [] (y ∷ ys) h = absurd (true≢false (sym h))
same_written (x ∷ xs) [] h = absurd (true≢false (sym h))

module _ (others : List StructDef) where
  pub record Holds (v : Environment) : Type 0 where
    pub count : length v.defs ≡ length v.tags
    pub pairs : length others ≡ length v.defs
    pub sound : AreSound v.defs
    pub agree : Agree v.defs others

  pub record Passes (v w : Environment) : Type 0 where
    pub behind : Holds w
    pub extends : Extends v.defs w.defs
    pub only : w ≡ record v { defs = w.defs }

  module _ (v u : Environment) (o : Open) (holds_here : Holds v) (opened : AreOpen v.defs o.members) (completes : Completes v o u) (found : completed_found others v o ≡ nothing) where
    number : ℕ
    number = struct_of v.tags o.tag

    none_before : is_empty (members_of v.defs (struct_of v.tags o.tag)) ≡ true
    none_before =
        let f = both_nothing (holds (not (is_empty o.members)) 3 o.at) (holds (is_empty (members_of v.defs (struct_of v.tags o.tag)) && agrees others (struct_of v.tags o.tag) o.members) 4 o.at) found in
        (both_parts (is_empty (members_of v.defs (struct_of v.tags o.tag))) (agrees others (struct_of v.tags o.tag) o.members) (holds_true _ 4 o.at f.1)).0

    agree_now : agrees others (struct_of v.tags o.tag) o.members ≡ true
    agree_now =
        let f = both_nothing (holds (not (is_empty o.members)) 3 o.at) (holds (is_empty (members_of v.defs (struct_of v.tags o.tag)) && agrees others (struct_of v.tags o.tag) o.members) 4 o.at) found in
        (both_parts (is_empty (members_of v.defs (struct_of v.tags o.tag))) (agrees others (struct_of v.tags o.tag) o.members) (holds_true _ 4 o.at f.1)).1

    equal_numbers : (m n : ℕ) → (m == n) ≡ true → m ≡ n
    equal_numbers m n h = eqb-true m n h

    other_number : (s : ℕ) → is_empty (members_of v.defs s) ≡ false → (s == struct_of v.tags o.tag) ≡ false
    other_number s e = by (s == struct_of v.tags o.tag) refl
      where
        by : (b : Bool) → (s == struct_of v.tags o.tag) ≡ b → (s == struct_of v.tags o.tag) ≡ false
        by false k = k
        by true k = absurd (true≢false (sym none_before ∙ ap (λ n. is_empty (members_of v.defs n)) (sym (equal_numbers s (struct_of v.tags o.tag) k)) ∙ e))

    pub completing : Extends v.defs u.defs
    completing = record { count = completes.1.0; rows = λ s e. completes.1.2 s (other_number s e) }

    grows : Grows v.defs u.defs
    grows = extended v.defs u.defs holds_here.sound completing

    the_row : (r : Option StructDef) → slice_get u.defs (struct_of v.tags o.tag) ≡ r → (d : StructDef) × (slice_get u.defs (struct_of v.tags o.tag) ≡ Some d) × IsRow v.defs o d
    the_row None e = absurd (subst (IsRowOf v.defs o) e completes.1.1)
    the_row (Some d) e = (d, e, subst (IsRowOf v.defs o) e completes.1.1)

    row : (d : StructDef) × (slice_get u.defs (struct_of v.tags o.tag) ≡ Some d) × IsRow v.defs o d
    row = the_row (slice_get u.defs (struct_of v.tags o.tag)) refl

    pub completed_within : struct_of v.tags o.tag < length u.defs
    completed_within = slice_get_within u.defs (struct_of v.tags o.tag) row.0 row.1

    module _ (at : ℕ) (x : Plain) (limits : limited u.defs at (Struct (struct_of v.tags o.tag)) ≡ Known x) where
      within_now : (is_within u.defs 64 (Struct (struct_of v.tags o.tag)) ≡ true) × (nat_le (size_in (slice_get u.defs (struct_of v.tags o.tag))) 1048576 ≡ true)
      unfolding deepest
      within_now =
          both_parts (is_within u.defs 64 (Struct (struct_of v.tags o.tag))) (nat_le (size_of u.defs (Struct (struct_of v.tags o.tag))) 1048576)
          (if_known (is_within u.defs 64 (Struct (struct_of v.tags o.tag)) && nat_le (size_of u.defs (Struct (struct_of v.tags o.tag))) 1048576) (Struct (struct_of v.tags o.tag)) x 1 at limits).0

      at_most : (n k : ℕ) → nat_le n k ≡ true → n ≤ k
      at_most n k h = grind arith

      new_sound : (d : StructDef) → slice_get u.defs (struct_of v.tags o.tag) ≡ Some d → IsRow v.defs o d → IsSound u.defs d
      new_sound d e i =
          let held : AllByRecursion (IsHeld v.defs) d.members = held_of v.defs d.members o.members i.0 opened.0 in
          record {
            small = at_most d.size 1048576 (sym (ap (λ r. nat_le (size_in r) 1048576) e) ∙ within_now.1);
            deep = sym (ap (λ r. are_within (is_within u.defs 63) (members_in r)) e) ∙ within_now.0;
            differ = names_of d.members o.members u.defs i.0 opened.1;
            held = held_all v.defs u.defs grows d.members held;
            laid = laid_out_grows v.defs u.defs grows d held i.2;
          }

      all_sound : (s : ℕ) (d : StructDef) (b : Bool) → (s == struct_of v.tags o.tag) ≡ b → slice_get u.defs s ≡ Some d → IsSound u.defs d
      all_sound s d true k e =
          let same : s ≡ struct_of v.tags o.tag = equal_numbers s (struct_of v.tags o.tag) k in
          let there : slice_get u.defs (struct_of v.tags o.tag) ≡ Some d = ap (slice_get u.defs) (sym same) ∙ e in
          new_sound d there (subst (IsRowOf v.defs o) there completes.1.1)
      all_sound s d false k e = sound_grows v.defs u.defs grows d (holds_here.sound s d (sym (completes.1.2 s k) ∙ e))

      or_written : (c b : Bool) → c || b ≡ true → c ≡ false → b ≡ true
      or_written false b h e = h
      or_written true b h e = absurd (true≢false e)

      new_agrees : is_empty (members_of others (struct_of v.tags o.tag)) ≡ false → map written (members_of u.defs (struct_of v.tags o.tag)) ≡ map written (members_of others (struct_of v.tags o.tag))
      new_agrees e =
          let (d, r, i) = row in
          ap (λ q. map written (members_in q)) r ∙ i.0 ∙
          sym (same_written (map written (members_of others (struct_of v.tags o.tag))) o.members
          (or_written (is_empty (members_of others (struct_of v.tags o.tag))) (same_members (map written (members_of others (struct_of v.tags o.tag))) o.members) agree_now e))

      all_agree : (s : ℕ) (b : Bool) → (s == struct_of v.tags o.tag) ≡ b → is_empty (members_of u.defs s) ≡ false → is_empty (members_of others s) ≡ false → map written (members_of u.defs s) ≡ map written (members_of others s)
      all_agree s true k e f =
          let same : s ≡ struct_of v.tags o.tag = equal_numbers s (struct_of v.tags o.tag) k in
          subst (λ n. is_empty (members_of others n) ≡ false → map written (members_of u.defs n) ≡ map written (members_of others n)) (sym same) new_agrees f
      all_agree s false k e f =
          let stays : slice_get u.defs s ≡ slice_get v.defs s = completes.1.2 s k in
          ap (λ q. map written (members_in q)) stays ∙ holds_here.agree s (sym (ap (λ q. is_empty (members_in q)) stays) ∙ e) f

      tags_stay : u.tags ≡ v.tags
      tags_stay = ap (λ w. w.tags) completes.0

      pub completed : Passes v u
      completed = record {
        behind = record {
          count = sym completes.1.0 ∙ holds_here.count ∙ ap length (sym tags_stay);
          pairs = holds_here.pairs ∙ completes.1.0;
          sound = λ s d e. all_sound s d (s == struct_of v.tags o.tag) refl e;
          agree = λ s e f. all_agree s (s == struct_of v.tags o.tag) refl e f;
        };
        extends = completing;
        only = completes.0;
      }
