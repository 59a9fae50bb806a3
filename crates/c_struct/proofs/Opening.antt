-- Members of structs that are written.
use Rattle.std.proofs.Common.{◌≡◌, ◌≢◌, ℕ, suc, Bool, true, false, ◌&&◌, ◌||◌, List, [], ◌∷◌, ◌++◌, length, map, not, bytes_eq, ◌∙◌, refl, ap, sym, if◌then◌else◌}
use Rattle.c_tree.specs.declared.types.Member.{Member}
use Rattle.c_tree.specs.declared.types.StructDef.{StructDef}
use Rattle.c_typing.specs.Plain.{plain, same, is_complete}
use Rattle.c_judge.specs.Answers.{Known, Broken}
use Rattle.c_typing.specs.Declarations.{is_named}
use Rattle.c_struct.specs.declared.members.WrittenMember.{WrittenMember}
use Rattle.c_struct.specs.Structs.{written, written_names, same_members, object_member}
use Rattle.c_struct.specs.Opened.{written_member}

and_false : (b : Bool) → (b && false) ≡ false
and_false true = refl
and_false false = refl

-- lists of other lengths
pub other_members : (ms : List Member) (ns : List WrittenMember) → length ms ≢ length ns → same_members (map written ms) (map written_member ns) ≡ false
other_members [] [] h = absurd (h refl)
other_members [] (n ∷ ns) h = refl
other_members (m ∷ ms) [] h = refl
other_members (m ∷ ms) (n ∷ ns) h = ap (λ b. (bytes_eq m.name n.name.now && same (plain m.ctype) (plain n.ctype)) && b) (other_members ms ns (λ e. h (ap suc e))) ∙ and_false (bytes_eq m.name n.name.now && same (plain m.ctype) (plain n.ctype))

or_in : (a b c : Bool) → (a || (b || c)) ≡ (b || (a || c))
or_in true true c = refl
or_in true false c = refl
or_in false b c = refl

pub named_last : (ms : List WrittenMember) (m : WrittenMember) (t : List ℕ) → is_named (written_names (map written_member (ms ++ m ∷ []))) t ≡ (bytes_eq m.name.now t || is_named (written_names (map written_member ms)) t)
named_last [] m t = refl
named_last (n ∷ ms) m t = ap (λ b. bytes_eq n.name.now t || b) (named_last ms m t) ∙ or_in (bytes_eq n.name.now t) (bytes_eq m.name.now t) (is_named (written_names (map written_member ms)) t)

pub member_last : (ms : List WrittenMember) (m : WrittenMember) → map written_member (ms ++ m ∷ []) ≡ (map written_member ms ++ written_member m ∷ [])
member_last [] m = refl
member_last (n ∷ ms) m = ap (λ l. written_member n ∷ l) (member_last ms m)

pub object_added : (defs : List StructDef) (ms new : List WrittenMember) (m : WrittenMember) (at : ℕ) → is_complete defs (plain m.ctype) ≡ true
    → is_named (written_names (map written_member ms)) m.name.now ≡ false → new ≡ (ms ++ m ∷ [])
    → object_member defs (map written_member ms) at m.name.now (plain m.ctype) ≡ Known (map written_member new)
object_added defs ms new m at h n e =
    ap (λ b. if b && not (is_named (written_names (map written_member ms)) m.name.now) then Known (map written_member ms ++ written_member m ∷ []) else Broken 3 at) h ∙
    (ap (λ b. if not b then Known (map written_member ms ++ written_member m ∷ []) else Broken 3 at) n ∙
    ap (λ l. Known l) (sym (ap (λ l. map written_member l) e ∙ member_last ms m)))
