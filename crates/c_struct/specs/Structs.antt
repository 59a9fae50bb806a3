-- Structs with their members (C90 6.5.2.1).
use Rattle.std.specs.Prelude.{◌≡◌, ℕ, Bool, true, false, not, ◌&&◌, ◌||◌, if◌then◌else◌, List, [], ◌∷◌, ◌++◌, map, length, Option, Some, None, bytes_eq, slice_get, ◌==◌}
use Rattle.c_trees.specs.Declarators.{DeclaratorTree, begins}
use Rattle.c_tree.specs.declared.types.StructDef.{StructDef}
use Rattle.c_tree.specs.declared.types.Member.{Member as MemberRow}
use Rattle.c_tree.specs.Layout.{IsLaidOut, members_of}
use Rattle.c_typing.specs.Plain.{Plain, plain, is_complete, is_empty, same}
use Rattle.c_typing.specs.Declarations.{is_named}
use Rattle.c_judge.specs.Answers.{Answer, Known, Broken, ◌then◌}
use Rattle.c_scope.specs.Findings.{Finding, ◌beside◌, holds}
use Rattle.c_scope.specs.Environment.{Environment, struct_of}
use Rattle.c_scope.specs.Declarators.{Shape, Object, Function, shape, name_in}

-- a member without where it stands: its name and its type
pub record Written : Type 0 where
  pub name : List ℕ
  pub ctype : Plain

abbrev pub written : MemberRow → Written
written m = record { name = m.name; ctype = plain m.ctype }

-- a struct whose `}` is still to come
pub record Open : Type 0 where
  pub at : ℕ
  pub tag : List ℕ
  pub members : List Written

abbrev pub written_names : List Written → List (List ℕ)
written_names [] = []
written_names (w ∷ ws) = w.name ∷ written_names ws

-- 3. A member is an object of a complete type, and the names of members differ.
abbrev pub object_member : List StructDef → List Written → (at : ℕ) → List ℕ → Plain → Answer (List Written)
object_member defs ms at name t = if is_complete defs t && not (is_named (written_names ms) name) then Known (ms ++ record { name = name; ctype = t } ∷ []) else Broken 3 at

module _ (v : Environment) where
  abbrev pub member : List Written → (at : ℕ) → List ℕ → Shape → Answer (List Written)
  member ms at name (Object t) = object_member v.defs ms at name t
  member ms at name (Function t ps) = Broken 9 at

  abbrev pub members : List Written → Plain → List DeclaratorTree → Answer (List Written)
  members ms t [] = Known ms
  members ms t (d ∷ ds) = shape v d t then member ms (begins d).at (name_in d) then λ more. members more t ds

-- ---- a struct is completed

-- its place among the structs gets its members, laid out, and the others stay
abbrev pub IsRow : List StructDef → Open → StructDef → Type 0
IsRow defs o d = (map written d.members ≡ o.members) × (d.tag ≡ o.tag) × IsLaidOut defs d

abbrev pub IsWith : (Option StructDef → Type 0) → (number : ℕ) → (before behind : List StructDef) → Type 0
IsWith P s before behind = (length before ≡ length behind) × P (slice_get behind s) × ((n : ℕ) → (n == s) ≡ false → slice_get behind n ≡ slice_get before n)

abbrev pub IsRowOf : List StructDef → Open → Option StructDef → Type 0
IsRowOf defs o None = ⊥
IsRowOf defs o (Some d) = IsRow defs o d

-- what is declared behind the `}` of a struct
abbrev pub Completes : Environment → Open → Environment → Type 0
Completes v o w = (w ≡ record v { defs = w.defs }) × IsWith (IsRowOf v.defs o) (struct_of v.tags o.tag) v.defs w.defs

-- 4. Files that complete one tag give it the same members in the same order.
abbrev pub same_members : List Written → List Written → Bool
same_members [] [] = true
same_members (m ∷ ms) (n ∷ ns) = bytes_eq m.name n.name && same m.ctype n.ctype && same_members ms ns
same_members _ _ = false

-- `others` are the structs as the files before complete them
abbrev pub agrees : List StructDef → ℕ → List Written → Bool
agrees others s ms = is_empty (members_of others s) || same_members (map written (members_of others s)) ms

-- 3, 4. A struct has a member, and a tag is completed at most once in a file.
abbrev pub completed_found : List StructDef → Environment → Open → Finding
completed_found others v o =
    holds (not (is_empty o.members)) 3 o.at beside
    holds (is_empty (members_of v.defs (struct_of v.tags o.tag)) && agrees others (struct_of v.tags o.tag) o.members) 4 o.at
