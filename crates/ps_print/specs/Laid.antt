-- Values as they lie in memory, with the dictionaries of their types.
use Rattle.std.specs.Prelude.{◌≡◌, ℕ, ℤ, pos, zero, suc, ◌+◌, ◌<◌, ◌≤◌, ◌%◌, ◌^◌, Bool, true, false, Some, List, [], ◌∷◌, ◌++◌, length, map, slice_get, codes, bytes_eq}
use Rattle.std.specs.declared.alloc.Global.{Global}
use Rattle.std.specs.declared.rc.Rc.{Rc}
use Rattle.ps_store.specs.declared.object.PsObj.TheVariants.{Int, Array, Dict}
use Rattle.ps_store.specs.declared.object.ArrayId.{ArrayId}
use Rattle.ps_store.specs.declared.object.DictId.{DictId}
use Rattle.ps_store.specs.StoreState.{StoreState}
use Rattle.ps_store.specs.Store.{elements_of}
use Rattle.c_tree.specs.declared.types.CType.{CType}
use Rattle.c_tree.specs.declared.types.CType.TheVariants.{Char, Int as IntType, Unsigned, Pointer', Array', Struct}
use Rattle.c_tree.specs.declared.types.StructDef.{StructDef}
use Rattle.c_tree.specs.declared.types.Member.{Member}
use Rattle.c_tree.specs.Layout.{members_of}
use Rattle.c_show.specs.declared.held.Held.TheVariants as held
use Rattle.c_show.specs.Printed.{Showing, Told, is_char, byte_of, leaf_text, string_text}
use Rattle.ps_run.specs.Runs.{Operates}
use Rattle.ps_terms.specs.Machine.{Obj, Key}
use Rattle.ps_terms.specs.Printing.{word, Printing, HasKey, Finds}
use Rattle.ps_print.specs.Items.{Thing}
use Rattle.ps_print.specs.Things.{Tail, Bare, Dangling, Strung, int_thing, unsigned_thing, char_thing, pointer_thing, string_thing, array_thing, struct_thing}

-- room for a value of so many arrays and structs within one another
abbrev pub need : ℕ → ℕ
need zero = 13
need (suc k) = 6 + need k

module _ {D : Type 0} (Op : Operates D) (prints : Printing Op) (s first : StoreState) (d : D) where
  -- `fetch` gives a value of a kind
  abbrev pub Fetches : List ℕ → ℤ → List ℕ → ℤ → Type 0
  Fetches space n kind v = Finds Op prints s first d 6 (Key kind ∷ Obj (Int n) ∷ Key space ∷ []) (Int v ∷ []) []

  -- `PutChars` appends a string, `PutPointer` the text of a pointer
  abbrev pub PutsChars : List ℕ → ℤ → ℕ → List ℕ → Type 0
  PutsChars space n count text = Finds Op prints s first d 31 (Obj (Int (pos count)) ∷ Obj (Int n) ∷ Key space ∷ []) [] text

  abbrev pub PutsPointer : ℤ → List ℕ → Type 0
  PutsPointer n text = Finds Op prints s first d 30 (Obj (Int n) ∷ []) [] text

  -- `charrun` counts the characters where a pointer leads
  abbrev pub Counts : ℤ → ℕ → Type 0
  Counts n count = Finds Op prints s first d 32 (Obj (Int n) ∷ []) (Int (pos count) ∷ []) []

-- the text of a pointer to a type of a kind, and what follows it
pub data PointerText {D : Type 0} {Op : Operates D} (prints : Printing Op) (s first : StoreState) (d : D) (kind : List ℕ) (n : ℤ) : List ℕ → Tail → Type 0 where
  bare : (text : List ℕ) → bytes_eq kind (codes "char") ≡ false → PutsPointer Op prints s first d n text → PointerText prints s first d kind n text Bare
  dangling : (text : List ℕ) → bytes_eq kind (codes "char") ≡ true → PutsPointer Op prints s first d n text → Counts Op prints s first d n 0 → PointerText prints s first d kind n text Dangling
  strung : (text string : List ℕ) (count : ℕ) → bytes_eq kind (codes "char") ≡ true → PutsPointer Op prints s first d n text → Counts Op prints s first d n (suc count)
      → PutsChars Op prints s first d (codes "d") n (suc count) string → PointerText prints s first d kind n (text ++ (codes " " ++ string)) Strung

-- a member of a struct, by its place in the array of members: an array of its name, its offset and its type
pub record IsMember (s : StoreState) (members : ArrayId) (i offset : ℕ) (type : DictId) : Type 0 where
  pub member : ArrayId
  pub executable : Bool
  pub at : slice_get (elements_of s members) i ≡ Some (Array member executable)
  pub its_offset : slice_get (elements_of s member) 1 ≡ Some (Int (word offset))
  pub its_type : slice_get (elements_of s member) 2 ≡ Some (Dict type)
  pub small : offset < 2 ^ 32

mutual
  -- A value of a type that is at most k arrays and structs deep lies at a place: its leaves, and what is shown for it where at most r
  -- leaves more are shown behind its first one. What is known of its types is in the one store; the operators give what they give,
  -- whatever look-ups make of the other.
  pub data Laid {D : Type 0} (Op : Operates D) (prints : Printing Op) (s first : StoreState) (d : D) (space : List ℕ) (defs : List StructDef) : ℕ → ℕ → CType → DictId → ℕ → List Showing → Thing → Type 0 where
    an_int : (k r : ℕ) (type : DictId) (place v : ℕ) → v < 2 ^ 32 → HasKey s type (codes "kind") (Key (codes "int"))
        → Fetches Op prints s first d space (word place) (codes "w") (word v) → Laid Op prints s first d space defs k r IntType type place (Told (held.Number v) ∷ []) (int_thing v)
    an_unsigned : (k r : ℕ) (type : DictId) (place v : ℕ) → v < 2 ^ 32 → HasKey s type (codes "kind") (Key (codes "unsigned"))
        → Fetches Op prints s first d space (word place) (codes "w") (word v) → Laid Op prints s first d space defs k r Unsigned type place (Told (held.Number v) ∷ []) (unsigned_thing v)
    a_char : (k r : ℕ) (type : DictId) (place : ℕ) (n : ℤ) (x : Showing) → HasKey s type (codes "kind") (Key (codes "char"))
        → Fetches Op prints s first d space (word place) (codes "c") n → prints.char_text n ≡ leaf_text Char x → Laid Op prints s first d space defs k r Char type place (x ∷ []) (char_thing (prints.char_text n))
    a_pointer : (k r : ℕ) (b : Rc (Unit {0}) Global) (t : CType) (type target : DictId) (kind : List ℕ) (place : ℕ) (n : ℤ) (x : Showing) (text : List ℕ) (tail : Tail)
        → HasKey s type (codes "kind") (Key (codes "pointer")) → HasKey s type (codes "to") (Obj (Dict target)) → HasKey s target (codes "kind") (Key kind)
        → Fetches Op prints s first d space (word place) (codes "p") n → PointerText prints s first d kind n text tail → text ≡ leaf_text (Pointer' b t) x
        → Laid Op prints s first d space defs k r (Pointer' b t) type place (x ∷ []) (pointer_thing tail text)
    a_string : (k r : ℕ) (b : Rc (Unit {0}) Global) (n : ℕ) (type item : DictId) (kind : List ℕ) (place : ℕ) (xs : List Showing) → bytes_eq kind (codes "char") ≡ true → length xs ≡ n
        → HasKey s type (codes "kind") (Key (codes "array")) → HasKey s type (codes "to") (Obj (Dict item)) → HasKey s type (codes "count") (Obj (Int (pos n)))
        → HasKey s item (codes "kind") (Key kind) → PutsChars Op prints s first d space (word place) n (string_text (map byte_of xs))
        → Laid Op prints s first d space defs (suc k) r (Array' b Char n) type place xs (string_thing (string_text (map byte_of xs)))
    an_array : (k r : ℕ) (b : Rc (Unit {0}) Global) (t : CType) (n : ℕ) (type item : DictId) (kind : List ℕ) (size place : ℕ) (xs : List Showing) (is : List Thing)
        → is_char (Some t) ≡ false → bytes_eq kind (codes "char") ≡ false
        → HasKey s type (codes "kind") (Key (codes "array")) → HasKey s type (codes "to") (Obj (Dict item)) → HasKey s type (codes "count") (Obj (Int (pos n)))
        → HasKey s item (codes "kind") (Key kind) → HasKey s item (codes "size") (Obj (Int (word size)))
        → size < 2 ^ 32 → place < 2 ^ 32 → n < 2 ^ 31 → 1 ≤ n
        → EachLaid Op prints s first d space defs k (suc r) t item size n place xs is → Laid Op prints s first d space defs (suc k) r (Array' b t n) type place xs (array_thing is)
    a_struct : (k r number : ℕ) (type : DictId) (members : ArrayId) (executable : Bool) (place : ℕ) (xs : List Showing) (is : List Thing)
        → HasKey s type (codes "kind") (Key (codes "struct")) → HasKey s type (codes "members") (Obj (Array members executable))
        → length (elements_of s members) ≡ length is → place < 2 ^ 32 → length is < 2 ^ 31 → 1 ≤ length is
        → MembersLaid Op prints s first d space defs k (suc r) (members_of defs number) members 0 place xs is → Laid Op prints s first d space defs (suc k) r (Struct number) type place xs (struct_thing is)

  -- So many of a type lie one after another, where there is room for so many leaves: nothing is asked of what follows the last of them.
  pub data EachLaid {D : Type 0} (Op : Operates D) (prints : Printing Op) (s first : StoreState) (d : D) (space : List ℕ) (defs : List StructDef) : ℕ → ℕ → CType → DictId → ℕ → ℕ → ℕ → List Showing → List Thing → Type 0 where
    none : (k room : ℕ) (t : CType) (item : DictId) (size place : ℕ) → EachLaid Op prints s first d space defs k room t item size 0 place [] []
    unseen : (k : ℕ) (t : CType) (item : DictId) (size n place : ℕ) (xs : List Showing) (is : List Thing) → length is ≡ suc n → EachLaid Op prints s first d space defs k 0 t item size (suc n) place xs is
    more : (k r : ℕ) (t : CType) (item : DictId) (size n place : ℕ) (xs ys : List Showing) (i : Thing) (is : List Thing)
        → Laid Op prints s first d space defs k r t item place xs i → EachLaid Op prints s first d space defs k (i.room (suc r)) t item size n ((size + place) % 2 ^ 32) ys is
        → EachLaid Op prints s first d space defs k (suc r) t item size (suc n) place (xs ++ ys) (i ∷ is)

  -- the members of a struct from one on lie at their offsets, as far as there is room for leaves
  pub data MembersLaid {D : Type 0} (Op : Operates D) (prints : Printing Op) (s first : StoreState) (d : D) (space : List ℕ) (defs : List StructDef) : ℕ → ℕ → List Member → ArrayId → ℕ → ℕ → List Showing → List Thing → Type 0 where
    no_member : (k room : ℕ) (members : ArrayId) (i place : ℕ) → MembersLaid Op prints s first d space defs k room [] members i place [] []
    unseen_members : (k : ℕ) (m : Member) (ms : List Member) (members : ArrayId) (i place : ℕ) (xs : List Showing) (is : List Thing) → length is ≡ suc (length ms)
        → MembersLaid Op prints s first d space defs k 0 (m ∷ ms) members i place xs is
    a_member : (k r : ℕ) (m : Member) (ms : List Member) (members : ArrayId) (i place offset : ℕ) (type : DictId) (xs ys : List Showing) (thing : Thing) (is : List Thing)
        → IsMember s members i offset type → Laid Op prints s first d space defs k r m.ctype type ((place + offset) % 2 ^ 32) xs thing
        → MembersLaid Op prints s first d space defs k (thing.room (suc r)) ms members (suc i) place ys is
        → MembersLaid Op prints s first d space defs k (suc r) (m ∷ ms) members i place (xs ++ ys) (thing ∷ is)
