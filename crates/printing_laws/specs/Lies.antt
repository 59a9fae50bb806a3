-- A value that lies at a place, by what is looked up of it.
use Rattle.std.specs.Prelude.{◌≡◌, ℕ, pos, suc, ◌+◌, ◌<◌, ◌≤◌, ◌%◌, ◌^◌, Bool, true, false, Some, List, [], ◌∷◌, ◌++◌, length, map, codes, bytes_eq}
use Rattle.std.specs.declared.alloc.Global.{Global}
use Rattle.std.specs.declared.rc.Rc.{Rc}
use Rattle.ldb_words.specs.declared.kinds.Kind.TheVariants.{Byte, Word, Address}
use Rattle.c_tree.specs.declared.types.CType.{CType}
use Rattle.c_tree.specs.declared.types.CType.TheVariants.{Char, Int as IntType, Unsigned, Pointer', Array', Struct}
use Rattle.c_tree.specs.declared.types.StructDef.{StructDef}
use Rattle.c_tree.specs.declared.types.Member.{Member}
use Rattle.c_tree.specs.Layout.{members_of}
use Rattle.c_show.specs.declared.held.Held.TheVariants as held
use Rattle.c_show.specs.Printed.{Showing, Told, is_char, byte_of, leaf_text, string_text}
use Rattle.ps_store.specs.declared.object.PsObj.TheVariants.{Int, Array, Dict}
use Rattle.ps_store.specs.declared.object.ArrayId.{ArrayId}
use Rattle.ps_store.specs.declared.object.DictId.{DictId}
use Rattle.ps_store.specs.StoreState.{StoreState}
use Rattle.ps_store.specs.Store.{elements_of}
use Rattle.frame_bytes.specs.declared.frame.Space.{Space}
use Rattle.frame_bytes.specs.declared.frame.Space.TheVariants.{Memory}
use Rattle.ps_terms.specs.Machine.{Obj, Key}
use Rattle.ps_terms.specs.Printing.{word, HasKey}
use Rattle.ps_print.specs.Items.{Thing}
use Rattle.ps_print.specs.Laid.{IsMember}
use Rattle.ps_print.specs.Things.{Tail, Bare, Dangling, Strung, int_thing, unsigned_thing, char_thing, pointer_thing, string_thing, array_thing, struct_thing}
use Rattle.dialect_model.specs.Dial.{Dial}
use Rattle.printing_laws.specs.Dialect.{char_text}
use Rattle.printing_laws.specs.Lookups.{Always, number_there, integer_of, string_there, pointer_there, run_there}

-- The text of a pointer to a type of a kind: its form; and where it leads to characters, a blank and their string.
pub data PointerLies (first : StoreState) (d : Dial) (kind : List ℕ) (p : ℕ) : List ℕ → Tail → Type 0 where
  bare : (text : List ℕ) → bytes_eq kind (codes "char") ≡ false → Always first (pointer_there d p) text → PointerLies first d kind p text Bare
  dangling : (text : List ℕ) → bytes_eq kind (codes "char") ≡ true → Always first (pointer_there d p) text → Always first (run_there d p) (Int (pos 0)) → PointerLies first d kind p text Dangling
  strung : (text bs : List ℕ) (count : ℕ) → bytes_eq kind (codes "char") ≡ true → Always first (pointer_there d p) text → Always first (run_there d p) (Int (pos (suc count)))
      → Always first (string_there d Memory p (suc count)) bs → PointerLies first d kind p (text ++ (codes " " ++ string_text bs)) Strung

mutual
  -- A value of a type that is at most k arrays and structs deep, where at most r leaves more are shown behind its first one: what is
  -- known of its type is in the one store, and its leaves are what is looked up in the other, whichever functions of units are run.
  pub data Lies (s first : StoreState) (d : Dial) (space : Space) (defs : List StructDef) : ℕ → ℕ → CType → DictId → ℕ → List Showing → Thing → Type 0 where
    an_int : (k r : ℕ) (type : DictId) (place v : ℕ) → place < 2 ^ 32 → v < 2 ^ 32 → HasKey s type (codes "kind") (Key (codes "int"))
        → Always first (number_there d space place Word) v → Lies s first d space defs k r IntType type place (Told (held.Number v) ∷ []) (int_thing v)
    an_unsigned : (k r : ℕ) (type : DictId) (place v : ℕ) → place < 2 ^ 32 → v < 2 ^ 32 → HasKey s type (codes "kind") (Key (codes "unsigned"))
        → Always first (number_there d space place Word) v → Lies s first d space defs k r Unsigned type place (Told (held.Number v) ∷ []) (unsigned_thing v)
    a_char : (k r : ℕ) (type : DictId) (place b : ℕ) (x : Showing) → place < 2 ^ 32 → HasKey s type (codes "kind") (Key (codes "char"))
        → Always first (number_there d space place Byte) b → char_text (integer_of Byte b) ≡ leaf_text Char x
        → Lies s first d space defs k r Char type place (x ∷ []) (char_thing (char_text (integer_of Byte b)))
    a_pointer : (k r : ℕ) (b : Rc (Unit {0}) Global) (t : CType) (type target : DictId) (kind : List ℕ) (place p : ℕ) (x : Showing) (text : List ℕ) (tail : Tail)
        → place < 2 ^ 32 → p < 2 ^ 32 → HasKey s type (codes "kind") (Key (codes "pointer")) → HasKey s type (codes "to") (Obj (Dict target)) → HasKey s target (codes "kind") (Key kind)
        → Always first (number_there d space place Address) p → PointerLies first d kind p text tail → text ≡ leaf_text (Pointer' b t) x
        → Lies s first d space defs k r (Pointer' b t) type place (x ∷ []) (pointer_thing tail text)
    a_string : (k r : ℕ) (b : Rc (Unit {0}) Global) (n : ℕ) (type item : DictId) (kind : List ℕ) (place : ℕ) (bs : List ℕ) (xs : List Showing) → place < 2 ^ 32
        → bytes_eq kind (codes "char") ≡ true → length xs ≡ n
        → HasKey s type (codes "kind") (Key (codes "array")) → HasKey s type (codes "to") (Obj (Dict item)) → HasKey s type (codes "count") (Obj (Int (pos n)))
        → HasKey s item (codes "kind") (Key kind) → Always first (string_there d space place n) bs → string_text bs ≡ string_text (map byte_of xs)
        → Lies s first d space defs (suc k) r (Array' b Char n) type place xs (string_thing (string_text (map byte_of xs)))
    an_array : (k r : ℕ) (b : Rc (Unit {0}) Global) (t : CType) (n : ℕ) (type item : DictId) (kind : List ℕ) (size place : ℕ) (xs : List Showing) (is : List Thing)
        → is_char (Some t) ≡ false → bytes_eq kind (codes "char") ≡ false
        → HasKey s type (codes "kind") (Key (codes "array")) → HasKey s type (codes "to") (Obj (Dict item)) → HasKey s type (codes "count") (Obj (Int (pos n)))
        → HasKey s item (codes "kind") (Key kind) → HasKey s item (codes "size") (Obj (Int (word size)))
        → size < 2 ^ 32 → place < 2 ^ 32 → n < 2 ^ 31 → 1 ≤ n
        → EachLies s first d space defs k (suc r) t item size n place xs is → Lies s first d space defs (suc k) r (Array' b t n) type place xs (array_thing is)
    a_struct : (k r number : ℕ) (type : DictId) (members : ArrayId) (executable : Bool) (place : ℕ) (xs : List Showing) (is : List Thing)
        → HasKey s type (codes "kind") (Key (codes "struct")) → HasKey s type (codes "members") (Obj (Array members executable))
        → length (elements_of s members) ≡ length is → place < 2 ^ 32 → length is < 2 ^ 31 → 1 ≤ length is
        → MembersLie s first d space defs k (suc r) (members_of defs number) members 0 place xs is → Lies s first d space defs (suc k) r (Struct number) type place xs (struct_thing is)

  -- So many of a type lie one after another, where there is room for so many leaves: nothing is asked of what follows the last of them.
  pub data EachLies (s first : StoreState) (d : Dial) (space : Space) (defs : List StructDef) : ℕ → ℕ → CType → DictId → ℕ → ℕ → ℕ → List Showing → List Thing → Type 0 where
    none : (k room : ℕ) (t : CType) (item : DictId) (size place : ℕ) → EachLies s first d space defs k room t item size 0 place [] []
    unseen : (k : ℕ) (t : CType) (item : DictId) (size n place : ℕ) (xs : List Showing) (is : List Thing) → length is ≡ suc n → EachLies s first d space defs k 0 t item size (suc n) place xs is
    more : (k r : ℕ) (t : CType) (item : DictId) (size n place : ℕ) (xs ys : List Showing) (i : Thing) (is : List Thing)
        → Lies s first d space defs k r t item place xs i → EachLies s first d space defs k (i.room (suc r)) t item size n ((size + place) % 2 ^ 32) ys is
        → EachLies s first d space defs k (suc r) t item size (suc n) place (xs ++ ys) (i ∷ is)

  -- the members of a struct from one on lie at their offsets, as far as there is room for leaves
  pub data MembersLie (s first : StoreState) (d : Dial) (space : Space) (defs : List StructDef) : ℕ → ℕ → List Member → ArrayId → ℕ → ℕ → List Showing → List Thing → Type 0 where
    no_member : (k room : ℕ) (members : ArrayId) (i place : ℕ) → MembersLie s first d space defs k room [] members i place [] []
    unseen_members : (k : ℕ) (m : Member) (ms : List Member) (members : ArrayId) (i place : ℕ) (xs : List Showing) (is : List Thing) → length is ≡ suc (length ms)
        → MembersLie s first d space defs k 0 (m ∷ ms) members i place xs is
    a_member : (k r : ℕ) (m : Member) (ms : List Member) (members : ArrayId) (i place offset : ℕ) (type : DictId) (xs ys : List Showing) (thing : Thing) (is : List Thing)
        → IsMember s members i offset type → Lies s first d space defs k r m.ctype type ((place + offset) % 2 ^ 32) xs thing
        → MembersLie s first d space defs k (thing.room (suc r)) ms members (suc i) place ys is
        → MembersLie s first d space defs k (suc r) (m ∷ ms) members i place (xs ++ ys) (thing ∷ is)
