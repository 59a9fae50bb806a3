-- Numbers of the members of a struct by their names.
use Rattle.std.proofs.Common.{arith, ◌≡◌, ◌+◌, ℕ, suc, Bool, true, false, ◌&&◌, ◌||◌, not, List, [], ◌∷◌, ◌++◌, length, map, ◌∙◌, refl, sym, ap, Option, Some, None, bytes_eq, if◌then◌else◌}
use Rattle.std.proofs.lemmas.Slice.Eq.{bytes_eq-Decides}
use Rattle.std.specs.Map.{update}
use Rattle.std.specs.Option.{is_some}
use Rattle.c_tree.specs.declared.types.StructDef.{StructDef}
use Rattle.c_tree.specs.declared.types.Member.{Member}
use Rattle.c_tree.specs.Layout.{members_of}
use Rattle.c_typing.specs.Plain.{is_empty}
use Rattle.c_typing.specs.Declarations.{is_named}
use Rattle.c_defs.specs.declared.numbers.Numbers.{Numbers}
use Rattle.c_defs.specs.Numbers.{number_from, first_number, number_in, Finds}
use Rattle.c_defs.specs.Members.{name_of}
use Rattle.c_judge.specs.Answers.{Known, Unknown, Broken}
use Rattle.c_scope.specs.Findings.{Finding, fine, nothing, ◌beside◌, holds}
use Rattle.c_scope.specs.Environment.{Environment, struct_of}
use Rattle.c_struct.specs.declared.members.WrittenMember.{WrittenMember}
use Rattle.c_struct.specs.Structs.{Open, Written, written, written_names, agrees, completed_found}
use Rattle.c_struct.specs.Opened.{written_member}

some_of : (b : Bool) (n : ℕ) (o : Option ℕ) (c : Bool) → is_some o ≡ c → is_some (if b then Some n else o) ≡ (b || c)
some_of true n o c h = refl
some_of false n o c h = h

named_from : (k : ℕ) (names : List (List ℕ)) (t : List ℕ) → is_some (number_from k names t) ≡ is_named names t
named_from k [] t = refl
named_from k (n ∷ ns) t = some_of (bytes_eq n t) k (number_from (suc k) ns t) (is_named ns t) (named_from (suc k) ns t)

-- whether a map finds a name says whether it is on the list
pub named_found : (m : Numbers) (names : List (List ℕ)) (t : List ℕ) → Finds m names → is_some (number_in m t) ≡ is_named names t
named_found m names t h = ap is_some (h t) ∙ named_from 0 names t

-- ---- one name more, behind the others

same_name : (x y t : List ℕ) → bytes_eq x t ≡ true → bytes_eq y t ≡ true → bytes_eq x y ≡ true
same_name x y t h k = (bytes_eq-Decides x y).1 ((bytes_eq-Decides x t).0 h ∙ sym ((bytes_eq-Decides y t).0 k))

or_left : (a b : Bool) → (a || b) ≡ false → a ≡ false
or_left true b h = h
or_left false b h = refl

or_right : (a b : Bool) → (a || b) ≡ false → b ≡ false
or_right true b h = absurd (let x : true ≡ false = h in cc)
or_right false b h = h

choice : (a b : Bool) (n m : ℕ) (o : Option ℕ) → (a ≡ true → b ≡ true → ⊥) → (if a then Some n else if b then Some m else o) ≡ (if b then Some m else if a then Some n else o)
choice true true n m o h = absurd (h refl refl)
choice true false n m o h = refl
choice false true n m o h = refl
choice false false n m o h = refl

number_last : (k : ℕ) (names : List (List ℕ)) (x t : List ℕ) → is_named names x ≡ false → number_from k (names ++ x ∷ []) t ≡ (if bytes_eq x t then Some (k + length names) else number_from k names t)
number_last k [] x t h = let e : k ≡ k + 0 = omega arith in ap (λ j. if bytes_eq x t then Some j else None) e
number_last k (n ∷ ns) x t h =
    let e : suc k + length ns ≡ k + length (n ∷ ns) = omega arith in
    ap (λ o. if bytes_eq n t then Some k else o) (number_last (suc k) ns x t (or_right (bytes_eq n x) (is_named ns x) h)) ∙
    (choice (bytes_eq n t) (bytes_eq x t) k (suc k + length ns) (number_from (suc k) ns t)
    (λ p q. let u : true ≡ false = sym (same_name n x t p q) ∙ or_left (bytes_eq n x) (is_named ns x) h in absurd cc) ∙
    ap (λ j. if bytes_eq x t then Some j else if bytes_eq n t then Some k else number_from (suc k) ns t) e)

names_last : (ms : List WrittenMember) (m : WrittenMember) → written_names (map written_member (ms ++ m ∷ [])) ≡ (written_names (map written_member ms) ++ m.name.now ∷ [])
names_last [] m = refl
names_last (n ∷ ms) m = ap (λ l. n.name.now ∷ l) (names_last ms m)

names_length : (ms : List WrittenMember) → length (written_names (map written_member ms)) ≡ length ms
names_length [] = refl
names_length (m ∷ ms) = ap suc (names_length ms)

pub names_added : (ms new : List WrittenMember) (m : WrittenMember) (before behind : Numbers) (n : ℕ) → new ≡ (ms ++ m ∷ []) → n ≡ length ms
    → is_named (written_names (map written_member ms)) m.name.now ≡ false → Finds before (written_names (map written_member ms))
    → ((t : List ℕ) → number_in behind t ≡ update bytes_eq (number_in before) m.name.now (Some n) t) → Finds behind (written_names (map written_member new))
names_added ms new m before behind n e l h f u t =
    let names = written_names (map written_member ms) in
    u t ∙ (ap (λ o. if bytes_eq m.name.now t then Some n else o) (f t) ∙
    (ap (λ j. if bytes_eq m.name.now t then Some j else first_number names t) (let j : n ≡ 0 + length names = omega (arith, l, names_length ms) in j) ∙
    (sym (number_last 0 names m.name.now t h) ∙ ap (λ l. first_number l t) (sym (ap (λ l. written_names (map written_member l)) e ∙ names_last ms m)))))

-- ---- the row of a struct

names_of_row : (ms : List Member) → map name_of ms ≡ written_names (map written ms)
names_of_row [] = refl
names_of_row (m ∷ ms) = ap (λ l. m.name ∷ l) (names_of_row ms)

-- the members of a row have the numbers of those that are written
pub row_named : (names : Numbers) (ms : List Member) (ws : List Written) → map written ms ≡ ws → Finds names (written_names ws) → Finds names (map name_of ms)
row_named names ms ws e h t = h t ∙ ap (λ l. first_number l t) (sym (names_of_row ms ∙ ap written_names e))

-- ---- what may be completed has no members yet

second : (f g : Finding) → (f beside g) ≡ nothing → g ≡ nothing
second (Known fine) (Known fine) h = refl
second (Known fine) (Unknown name) h = absurd (let x : Unknown name ≡ nothing = h in cc)
second (Known fine) (Broken r at) h = absurd (let x : Broken r at ≡ nothing = h in cc)
second (Unknown name) (Known fine) h = refl
second (Unknown name) (Unknown n) h = absurd (let x : Unknown name ≡ nothing = h in cc)
second (Unknown name) (Broken r at) h = absurd (let x : Broken r at ≡ nothing = h in cc)
second (Broken r at) g h = absurd (let x : Broken r at ≡ nothing = h in cc)

holds_told : (b : Bool) (r at : ℕ) → holds b r at ≡ nothing → b ≡ true
holds_told true r at h = refl
holds_told false r at h = absurd (let x : Broken r at ≡ nothing = h in cc)

and_left : (a b : Bool) → (a && b) ≡ true → a ≡ true
and_left true b h = refl
and_left false b h = h

none_of : (ms : List Member) → is_empty ms ≡ true → ms ≡ []
none_of [] h = refl
none_of (m ∷ ms) h = absurd (let x : false ≡ true = h in cc)

pub none_yet : (others : List StructDef) (v : Environment) (o : Open) (n : ℕ) → n ≡ struct_of v.tags o.tag → completed_found others v o ≡ nothing → members_of v.defs n ≡ []
none_yet others v o n e h =
    let s = struct_of v.tags o.tag in
    let both = holds_told (is_empty (members_of v.defs s) && agrees others s o.members) 4 o.at
    (second (holds (not (is_empty o.members)) 3 o.at) (holds (is_empty (members_of v.defs s) && agrees others s o.members) 4 o.at) h) in
    none_of (members_of v.defs n) (ap (λ m. is_empty (members_of v.defs m)) e ∙ and_left (is_empty (members_of v.defs s)) (agrees others s o.members) both)
