-- The words that a table begins with: each takes the parts of a dictionary from the operands, and leaves the dictionary. A table would say the
-- same without them, in more bytes: each key would be scanned again with each dictionary.
use Prim.Native.String.{String}
use Rattle.std.specs.Prelude.{ℕ, pos, negsuc}
use Rattle.ps_text.specs.Code.{Code, Stop, ◌▸◌, n, w, l, p}
use Rattle.ps_emit.specs.Terms.{◌⋯◌}

-- the operand below the dictionary becomes the value of a key
abbrev into : String → Code → Code
into key rest = w "dup" ▸ l key ▸ n (pos 4) ▸ n (negsuc 0) ▸ w "roll" ▸ w "put" ▸ rest

-- a key has a name, a number, or what a word stands for
abbrev called : String → String → Code → Code
called key name rest = w "dup" ▸ l key ▸ l name ▸ w "put" ▸ rest

abbrev sized : ℕ → Code → Code
sized size rest = w "dup" ▸ l "size" ▸ n (pos size) ▸ w "put" ▸ rest

abbrev printed_by : String → Code → Code
printed_by printer rest = w "dup" ▸ l "printer" ▸ l printer ▸ w "load" ▸ w "put" ▸ rest

abbrev new : ℕ → Code → Code
new keys rest = n (pos keys) ▸ w "dict" ▸ rest

-- a dictionary of so many keys that begins as another one
abbrev begun_as : String → ℕ → Code → Code
begun_as begun keys rest = w begun ▸ n (pos keys) ▸ w "dict" ▸ w "copy" ▸ rest

abbrev word_for : String → Code → Code → Code
word_for name body rest = l name ▸ p body ▸ w "def" ▸ rest

-- ---- types

-- what a kind of types has in common
abbrev kind_of_types : String → String → String → Code → Code
kind_of_types name kind printer rest = l name ▸ new 2 ▸ called "kind" kind ▸ printed_by printer ▸ w "def" ▸ rest

-- a type that is the same wherever it stands, or that of all pointers but for what they lead to
abbrev basic : String → String → String → ℕ → Code → Code
basic name kind printer size rest = l name ▸ new 3 ▸ called "kind" kind ▸ sized size ▸ printed_by printer ▸ w "def" ▸ rest

-- `to PointerTo`
abbrev pointer_to : Code
pointer_to = begun_as "PointerType" 4 ▸ into "to" ▸ Stop

-- `to count ArrayOf`, whose size is that of so many items
abbrev array_of : Code
array_of =
    n (pos 2) ▸ w "copy" ▸ w "exch" ▸ l "size" ▸ w "get" ▸ w "mul" ▸ begun_as "ArrayType" 5 ▸ into "size" ▸ into "count" ▸ into "to" ▸ Stop

-- `/tag size NewStruct`: the members come when all structs are there
abbrev new_struct : Code
new_struct = begun_as "StructType" 5 ▸ into "size" ▸ into "tag" ▸ Stop

-- ---- symbols

-- what the symbols of objects have in common
abbrev variable : Code → Code
variable rest = l "Variable" ▸ new 2 ▸ called "kind" "variable" ▸ w "dup" ▸ l "uplink" ▸ w "null" ▸ w "put" ▸ w "def" ▸ rest

-- `(label) where type NewString`
abbrev new_string : Code
new_string = begun_as "Variable" 6 ▸ into "type" ▸ into "where" ▸ into "label" ▸ Stop

-- `(name) (label) where type NewObject`
abbrev new_object : Code
new_object = w "NewString" ▸ into "name" ▸ Stop

-- `uplink object ObjectSymbol`: as the object, whose type is that of its definition, but for what is outward
abbrev object_symbol : Code
object_symbol = n (pos 6) ▸ w "dict" ▸ w "copy" ▸ into "uplink" ▸ Stop

-- `(name) type where uplink NewSymbol`, of a variable whose label is its name
abbrev new_symbol : Code
new_symbol =
    begun_as "Variable" 6 ▸ into "uplink" ▸ into "where" ▸ into "type" ▸ w "dup" ▸ l "name" ▸ n (pos 3) ▸ w "index" ▸ w "put" ▸ into "label" ▸ Stop

-- `(name) type where uplink FunctionSymbol`
abbrev function_symbol : Code
function_symbol = w "NewSymbol" ▸ called "kind" "function" ▸ Stop

-- ---- functions

-- `line column address symbols NewPoint`
abbrev new_point : Code
new_point = new 4 ▸ into "symbols" ▸ into "address" ▸ into "column" ▸ into "line" ▸ Stop

-- `(name) static entry end frame saved points NewFunction`
abbrev new_function : Code
new_function = new 7 ▸ into "points" ▸ into "saved" ▸ into "frame" ▸ into "end" ▸ into "entry" ▸ into "static" ▸ into "name" ▸ Stop

-- `(file) functions NewUnit`
abbrev new_unit : Code
new_unit = new 2 ▸ into "functions" ▸ into "file" ▸ Stop

-- ---- all

abbrev function_words : Code
function_words = word_for "NewPoint" new_point ▸ word_for "NewFunction" new_function ▸ word_for "NewUnit" new_unit ▸ Stop

abbrev symbol_words : Code
symbol_words =
    variable ▸ word_for "NewString" new_string ▸ word_for "NewObject" new_object ▸ word_for "ObjectSymbol" object_symbol ▸
    word_for "NewSymbol" new_symbol ▸ word_for "FunctionSymbol" function_symbol ▸ Stop

abbrev type_words : Code
type_words =
    basic "int" "int" "PrintInt" 4 ▸ basic "unsigned" "unsigned" "PrintUnsigned" 4 ▸ basic "char" "char" "PrintChar" 1 ▸
    basic "PointerType" "pointer" "PrintPointer" 4 ▸ kind_of_types "ArrayType" "array" "PrintArray" ▸ kind_of_types "StructType" "struct" "PrintStruct" ▸
    word_for "PointerTo" pointer_to ▸ word_for "ArrayOf" array_of ▸ word_for "NewStruct" new_struct ▸ Stop

abbrev pub words : Code
words = type_words ⋯ symbol_words ⋯ function_words
