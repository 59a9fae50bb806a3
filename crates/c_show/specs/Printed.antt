-- The text of a type's leaf values.
use Rattle.std.specs.Prelude.{ℕ, suc, zero, ◌+◌, ◌-◌, ◌/◌, ◌%◌, ◌^◌, List, [], ◌∷◌, ◌++◌, Bool, true, false, ◌&&◌, ◌||◌, ◌==◌, nat_le, Option, Some, None, map, take, drop, replicate, codes, decimal, if◌then◌else◌}
use Rattle.std.specs.Fmt.{signed_decimal}
use Rattle.c_tree.specs.declared.types.CType.{CType}
use Rattle.c_tree.specs.declared.types.CType.TheVariants.{Char, Int, Unsigned, Void, Pointer', Array', Struct}
use Rattle.c_tree.specs.declared.types.StructDef.{StructDef}
use Rattle.c_tree.specs.Types.{target_of}
use Rattle.c_tree.specs.Layout.{members_of}
use Rattle.ldb_words.specs.Word.{signed}
use Rattle.c_show.specs.declared.held.Held.{Held}
use Rattle.c_show.specs.declared.held.Held.TheVariants as held

-- ---- characters and strings

abbrev pub is_printable : ℕ → Bool
is_printable c = nat_le 32 c && nat_le c 126

-- a character between such quotes
abbrev pub quoted_as : (quote c : ℕ) → List ℕ
quoted_as quote c = if (c == quote) || (c == 92) then 92 ∷ c ∷ [] else c ∷ []

abbrev pub character_text : ℕ → List ℕ
character_text c = if is_printable c then codes " '" ++ quoted_as 39 c ++ codes "'" else []

-- a byte in a string: `\` and three octal digits where it is not printed as it is
abbrev pub in_string : ℕ → List ℕ
in_string c = if is_printable c then quoted_as 34 c else 92 ∷ (48 + c / 64) ∷ (48 + c / 8 % 8) ∷ (48 + c % 8) ∷ []

-- the characters up to the first NUL, at most n, and the closing quote; `...` follows it where there is one more
abbrev pub string_rest : (n : ℕ) → List ℕ → List ℕ
string_rest n [] = codes "\""
string_rest n (c ∷ cs) = if c == 0 then codes "\"" else (if n == 0 then codes "\"..." else in_string c ++ string_rest (n - 1) cs)

-- a string of at most 200 characters
abbrev pub string_text : List ℕ → List ℕ
string_text cs = codes "\"" ++ string_rest 200 cs

-- ---- scalars

abbrev pub number_text : CType → ℕ → List ℕ
number_text Char n = signed_decimal (signed n) ++ character_text (n % 2 ^ 8)
number_text Unsigned n = decimal n
number_text t n = signed_decimal (signed n)

abbrev pub is_char : Option CType → Bool
is_char (Some Char) = true
is_char _ = false

abbrev pub with_string : Bool → Option (List ℕ) → List ℕ
with_string true (Some s) = codes " " ++ string_text s
with_string _ _ = []

-- a pointer; one to `char` shows its string
abbrev pub pointer_text : (to_char : Bool) → List ℕ → ℕ → Option (List ℕ) → List ℕ
pointer_text to_char label offset string = codes "&" ++ label ++ codes "+" ++ decimal offset ++ with_string to_char string

-- a leaf as it is shown: what it holds, or this text in place of a stale pointer's
pub data Showing : Type 0 where
  Told : (h : Held) → Showing
  Free : (text : List ℕ) → Showing

abbrev pub leaf_text : CType → Showing → List ℕ
leaf_text t (Told (held.Number n)) = number_text t n
leaf_text t (Told held.Null) = codes "0"
leaf_text t (Told (held.At label offset string)) = pointer_text (is_char (target_of t)) label offset string
leaf_text t (Free text) = text

-- ---- arrays and structs

-- what was printed, the leaves left, and how many items may still be printed
pub record Page : Type 0 where
  pub text : List ℕ
  pub rest : List Showing
  pub room : ℕ

abbrev pub with_text : Page → List ℕ → Page
with_text page text = record page { text = page.text ++ text }

abbrev pub first_text : CType → List Showing → List ℕ
first_text t [] = []
first_text t (x ∷ xs) = leaf_text t x

abbrev pub put_scalar : CType → Page → Page
put_scalar t page = record { text = page.text ++ first_text t page.rest; rest = drop 1 page.rest; room = page.room - 1 }

abbrev pub byte_of : Showing → ℕ
byte_of (Told (held.Number n)) = n % 2 ^ 8
byte_of _ = 0

abbrev pub put_string : ℕ → Page → Page
put_string n page = record { text = page.text ++ string_text (map byte_of (take n page.rest)); rest = drop n page.rest; room = page.room - 1 }

-- the items after a separator; where no room is left the next one is `...`
abbrev pub put_items : List ℕ → List (Page → Page) → Page → Page
put_items before [] page = page
put_items before (put ∷ puts) page =
    if page.room == 0 then with_text (with_text page before) (codes "...")
    else put_items (codes ", ") puts (put (with_text page before))

abbrev pub in_braces : List (Page → Page) → Page → Page
in_braces puts page = with_text (put_items [] puts (with_text page (codes "{"))) (codes "}")

abbrev pub put_array : CType → ℕ → (Page → Page) → Page → Page
put_array t n put page = if is_char (Some t) then put_string n page else in_braces (replicate n put) page

-- the text of a type that is at most `deep` deep
abbrev pub put_within : List StructDef → (deep : ℕ) → CType → Page → Page
put_within defs zero t page = page
put_within defs (suc deep) Char page = put_scalar Char page
put_within defs (suc deep) Int page = put_scalar Int page
put_within defs (suc deep) Unsigned page = put_scalar Unsigned page
put_within defs (suc deep) Void page = page
put_within defs (suc deep) (Pointer' b t) page = put_scalar (Pointer' b t) page
put_within defs (suc deep) (Array' b t n) page = put_array t n (put_within defs deep t) page
put_within defs (suc deep) (Struct s) page = in_braces (map (λ m. put_within defs deep m.ctype) (members_of defs s)) page

-- the text of a type's leaves: at most 1,000 items
abbrev pub shown : List StructDef → CType → List Showing → List ℕ
shown defs t xs = (put_within defs 64 t (record { text = []; rest = xs; room = 1000 })).text
