-- The text of a value over the bytes of a target.
use Rattle.std.specs.Prelude.{cond, ℕ, zero, suc, ◌-◌, length, min, take, map, ◌==◌, Bool, true, false, List, [], ◌∷◌, ◌++◌, codes, Option, Some, None, Result, Ok, Err}
use Rattle.ldb_words.specs.declared.kinds.Kind.{Kind}
use Rattle.ldb_words.specs.declared.kinds.Kind.TheVariants.{Byte, Word, Address}
use Rattle.ldb_words.specs.Word.{sum_of}
use Rattle.c_tree.specs.declared.types.CType.{CType}
use Rattle.c_tree.specs.declared.types.CType.TheVariants.{Char, Int, Unsigned, Void, Pointer', Array', Struct}
use Rattle.c_tree.specs.declared.types.StructDef.{StructDef}
use Rattle.c_tree.specs.declared.types.Member.{Member}
use Rattle.c_tree.specs.declared.typed.Typed.{Typed}
use Rattle.c_tree.specs.Types.{type_of}
use Rattle.c_tree.specs.Layout.{members_of}
use Rattle.c_operators.specs.Bits.{low_byte}
use Rattle.c_show.specs.declared.held.Held.TheVariants as held
use Rattle.c_show.specs.Printed.{Showing, Told, Free, put_within, shown}
use Rattle.ps_store.specs.declared.object.PsObj.{PsObj}
use Rattle.ps_store.specs.Store.{bytes_of}
use Rattle.ps_step.specs.declared.fault.PsError.{PsError}
use Rattle.ps_step.specs.Values.{as_count}
use Rattle.frame_bytes.specs.declared.frame.Space.TheVariants.{Memory}
use Rattle.frame_bytes.specs.Bytes.{fetched}
use Rattle.table_model.specs.declared.found.Found.{Found}
use Rattle.ps_append.specs.Characters.{MOST_READ}
use Rattle.table_types.specs.Offsets.{byte_run}
use Rattle.ps_leaves.specs.Forms.{hex_text, activation_text}
use Rattle.dialect_model.specs.TableUse.{Kind as Error, gives, fails, ◌>>=◌}
use Rattle.dialect_model.specs.Near.{looking}
use Rattle.c_bytes.specs.Lvalues.{Means, Scene, object_of, or_range, bytes_with}
use Rattle.c_bytes.specs.Evaluation.{values_of}

-- ---- which leaves are pointers to `char`

abbrev pub to_char : CType → Bool
to_char Char = true
to_char t = false

abbrev repeated : {A : Type 0} → ℕ → List A → List A
repeated zero xs = []
repeated (suc n) xs = xs ++ repeated n xs

-- a leaf's kind, and whether it points to `char`
pub record Shape : Type 0 where
  pub kind : Kind
  pub to_chars : Bool

abbrev one_leaf : Kind → Bool → List Shape
one_leaf k to_chars = record { kind = k; to_chars = to_chars } ∷ []

abbrev of_members : (CType → List Shape) → List Member → List Shape
of_members f [] = []
of_members f (m ∷ ms) = f m.ctype ++ of_members f ms

-- the leaves of a type, in order
abbrev pub shapes_within : List StructDef → (deep : ℕ) → CType → List Shape
shapes_within defs zero t = []
shapes_within defs (suc deep) Char = one_leaf Byte false
shapes_within defs (suc deep) Int = one_leaf Word false
shapes_within defs (suc deep) Unsigned = one_leaf Word false
shapes_within defs (suc deep) Void = []
shapes_within defs (suc deep) (Pointer' _ t) = one_leaf Address (to_char t)
shapes_within defs (suc deep) (Array' _ t n) = repeated n (shapes_within defs deep t)
shapes_within defs (suc deep) (Struct s) = of_members (shapes_within defs deep) (members_of defs s)

-- an array is shown as the pointer that it becomes
abbrev pub shown_type : CType → CType
shown_type (Array' b t n) = Pointer' b t
shown_type t = t

-- a count that no integer holds is out of range
abbrev or_error : Result PsObj PsError → Means (Unit {0})
or_error (Ok x) = gives tt
or_error (Err e) = fails (Error e)

module _ (sc : Scene) where
  -- ---- strings

  -- the bytes of memory from an address on up to the first NUL, at most so many
  abbrev pub characters : (most : ℕ) → (at : ℕ) → Means (List ℕ)
  characters zero at = gives []
  characters (suc n) at = or_range (fetched (bytes_with sc 0) Memory at Byte) >>= λ b. cond (b == 0) (gives []) (characters n (sum_of at 1) >>= λ bs. gives (b ∷ bs))

  -- so many Byte leaves from an address on are a string; where there is none, there is no string
  abbrev string_at : (at count : ℕ) → Means (Option (List ℕ))
  string_at at zero = gives None
  string_at at (suc n) = or_error (as_count (suc n)) >>= λ u. characters (min (suc n) MOST_READ) at >>= λ bs. gives (Some bs)

  abbrev pub string_of : (to_chars : Bool) → Found → Means (Option (List ℕ))
  string_of false o = gives None
  string_of true o = looking (λ s. byte_run s (Some o)) >>= string_at (sum_of o.base o.at)

  -- ---- leaves

  abbrev pub shown_pointer : ℕ → Bool → Option Found → Means Showing
  shown_pointer p to_chars None = gives (Free (codes "?" ++ hex_text 8 p))
  shown_pointer p to_chars (Some o) = do
    label ← looking (λ s. Ok (bytes_of s o.label))
    string ← string_of to_chars o
    gives (Told (held.At (label ++ activation_text o.activation) o.at string))

  abbrev pub shown_address : ℕ → Bool → Means Showing
  shown_address zero to_chars = gives (Told held.Null)
  shown_address (suc p) to_chars = object_of sc (suc p) >>= shown_pointer (suc p) to_chars

  abbrev pub shown_leaf : Shape → ℕ → Means Showing
  shown_leaf l n = elim l.kind [
    | Byte ↦ gives (Told (held.Number (low_byte n)))
    | Word ↦ gives (Told (held.Number n))
    | Address ↦ shown_address n l.to_chars
  ]

  abbrev pub shown_all : List Shape → List ℕ → Means (List Showing)
  shown_all [] vs = gives []
  shown_all (l ∷ ls) [] = gives []
  shown_all (l ∷ ls) (v ∷ vs) = shown_leaf l v >>= λ h. shown_all ls vs >>= λ hs. gives (h ∷ hs)

  -- how many leaves of a type its text shows: they are the first ones
  abbrev pub shown_count : CType → List Shape → ℕ
  shown_count t ls = length ls - length (put_within sc.defs 64 t (record { text = []; rest = map (λ l. Free []) ls; room = 1000 })).rest

  -- only what is shown is looked up
  abbrev pub shown_values : CType → List Shape → List ℕ → Means (List ℕ)
  shown_values t ls vs = shown_all (take (shown_count t ls) ls) vs >>= λ hs. gives (shown sc.defs t hs)

  -- the text of an expression's value
  abbrev pub text_of : Typed → Means (List ℕ)
  text_of e = do
    vs ← values_of sc e
    shown_values (shown_type (type_of e)) (shapes_within sc.defs 64 (shown_type (type_of e))) vs
