-- How long the items of a table are.
use Rattle.std.proofs.Common.{◌≡◌, ◌≤◌, ◌+◌, ◌-◌, ◌*◌, ℕ, ℤ, pos, suc, Bool, true, false, List, [], ◌∷◌, ◌++◌, length, decimal, Option, Some, None, slice_get, refl, ap, ◌∙◌, arith, length-append, length-take, if◌then◌else◌}
use Rattle.std.proofs.lemmas.Fmt.{length-decimal-le}
use Rattle.c_tree.specs.declared.types.CType.{CType}
use Rattle.c_tree.specs.declared.types.CType.TheVariants.{Char, Int, Unsigned, Void, Pointer', Array', Struct}
use Rattle.c_tree.specs.declared.types.StructDef.{StructDef}
use Rattle.c_tree.specs.declared.types.Member.{Member}
use Rattle.c_tree.specs.declared.rows.Point.{Point}
use Rattle.c_tree.specs.declared.rows.SymbolRow.{SymbolRow}
use Rattle.c_tree.specs.declared.rows.ObjectRow.{ObjectRow}
use Rattle.c_tree.specs.declared.rows.UnitRow.{UnitRow}
use Rattle.c_tree.specs.declared.rows.Function.{Function}
use Rattle.c_tree.specs.declared.rows.Program.{Program}
use Rattle.c_tree.specs.declared.rows.Referent.{Referent}
use Rattle.c_tree.specs.declared.rows.Referent.TheVariants as refers
use Rattle.obj_file.specs.declared.object.LocalPlace.{LocalPlace}
use Rattle.obj_file.specs.declared.object.LocalPlace.TheVariants.{Slot, Reg}
use Rattle.obj_file.specs.declared.object.FunctionRow.{FunctionRow}
use Rattle.ps_scan.specs.Escaping.{escaped}
use Rattle.ps_text.specs.Code.{Code, Text, Proc, render}
use Rattle.ps_emit.specs.Terms.{◌⋯◌, word, string, integer, number, bracketed, anchor_name}
use Rattle.ps_emit.specs.Types.{type_code, struct_code, filled_struct, tag_code, member_code}
use Rattle.ps_emit.specs.Places.{Homes, homes, declared_register, register_told, words_at, home_words, anchored, file_in, without_ending, label_front, object_label, object_code, string_label, string_code}
use Rattle.ps_emit.specs.Symbols.{linked, entry_in, symbol_by, symbol_code}
use Rattle.ps_emit.specs.Functions.{truth, point_code, saved_register, saved_code, points_code, function_code, functions_code, deferred, unit_code}
use Rattle.ps_emit.specs.Table.{anchor_code}
use Rattle.ps_emit.specs.Bounds.{constructors, of_type, of_member, of_named, of_symbol, of_object, per_point, per_saved, per_struct, per_string, function_alone, unit_alone}
use Rattle.ps_emit.specs.Lengths.{size, written, IsWord, IsInteger, IsName, HasWords, IsLink, IsPointRow, IsPlace, IsFound, IsSymbolRow, IsMemberRow, IsStructRow, IsObjectRow, IsFunctionRow}
use Rattle.ps_emit.proofs.Followed.{escaped_append}
use Rattle.ps_emit.proofs.Lengths.{Plain, plain_decimal, short_pos, short_word, short_integer, weight, Neat, weight_followed, neat_followed, neat_written, written_followed, escaped_twice, size_written}

-- ---- types

abbrev known : {bytes : List ℕ} → escaped bytes ≡ bytes → Plain bytes
known e = record { same = e }

neat_type : (t : CType) → HasWords t → Neat (type_code t)
neat_type Char h = (known refl, tt)
neat_type Int h = (known refl, tt)
neat_type Unsigned h = (known refl, tt)
neat_type Void h = (known refl, tt)
neat_type (Pointer' p t) h = neat_followed (type_code t) (word "PointerTo") (neat_type t h) (known refl, tt)
neat_type (Array' p t n) h = neat_followed (type_code t) (number n ⋯ word "ArrayOf") (neat_type t h.0) (short_word n h.1, (known refl, tt))
neat_type (Struct s) h = (known refl, (short_word s h, (known refl, tt)))

weight_type : (t : CType) → weight (type_code t) ≤ 24 * constructors t
weight_type Char = omega arith
weight_type Int = omega arith
weight_type Unsigned = omega arith
weight_type Void = omega arith
weight_type (Pointer' p t) = let l : weight (type_code t) ≤ 24 * constructors t = weight_type t in let e = weight_followed (type_code t) (word "PointerTo") in omega arith
weight_type (Array' p t n) = let l : weight (type_code t) ≤ 24 * constructors t = weight_type t in let e = weight_followed (type_code t) (number n ⋯ word "ArrayOf") in omega arith
weight_type (Struct s) = omega arith

cost_type : (t : CType) → 24 * constructors t ≡ (of_type t).bytes
cost_type t = omega arith

pub types_short : (t : CType) → HasWords t → written (type_code t) ≤ (of_type t).bytes
types_short t h = let a = neat_written (type_code t) (neat_type t h) in let b = weight_type t in let e = cost_type t in omega arith

-- ---- points and symbols

neat_link : (s : Option ℕ) → IsLink s → Neat (linked s)
neat_link None h = (known refl, tt)
neat_link (Some s) h = (short_word s h, (known refl, tt))

weight_link : (s : Option ℕ) → weight (linked s) ≤ 17
weight_link None = omega arith
weight_link (Some s) = omega arith

pub points_short : (address : ℕ) (q : Point) → IsWord address → IsPointRow q → written (point_code address q) ≤ per_point.bytes
points_short address q a h =
    let n = neat_written (point_code address q)
    (short_word q.line h.line, (short_word q.column h.column, (short_word address a, neat_followed (linked q.symbol) (word "NewPoint") (neat_link q.symbol h.symbol) (known refl, tt)))) in
    let e = weight_followed (linked q.symbol) (word "NewPoint") in
    let l = weight_link q.symbol in
    omega arith

pub saved_short : (r : ℕ) (offset : ℤ) → IsWord r → IsInteger offset → written (saved_register r offset) ≤ per_saved.bytes
saved_short r offset h k =
    let n = neat_written (saved_register r offset) (known refl, (short_pos r h, (short_integer offset k.0 k.1 k.2, (known refl, tt)))) in
    omega arith

neat_told : (b : Bool) → Neat (register_told b)
neat_told true = (short_pos 0 (omega arith), (known refl, (known refl, (known refl, tt))))
neat_told false = tt

neat_place : (p : Option LocalPlace) (b : Bool) → IsPlace p → Neat (words_at p b)
neat_place None b h = tt
neat_place (Some (Slot offset)) b h = (short_integer offset h.0 h.1 h.2, (known refl, neat_told b))
neat_place (Some (Reg r)) b h = (short_pos r h, (known refl, tt))

weight_place : (p : Option LocalPlace) (b : Bool) → weight (words_at p b) ≤ 50
weight_place None b = omega arith
weight_place (Some (Slot offset)) true = omega arith
weight_place (Some (Slot offset)) false = omega arith
weight_place (Some (Reg r)) b = omega arith

-- the terms of symbols behind their names: a type, a place, and what is outward
abbrev outward : Option ℕ → Code → Code
outward up end = linked up ⋯ end

abbrev behind_name : SymbolRow → (place end : Code) → Code
behind_name row place end = type_code row.ctype ⋯ Proc place (outward row.up end)

neat_behind : (row : SymbolRow) (place end : Code) → HasWords row.ctype → IsLink row.up → Neat place → Neat end → Neat (behind_name row place end)
neat_behind row place end t u p e =
    neat_followed (type_code row.ctype) (Proc place (outward row.up end)) (neat_type row.ctype t) (p, neat_followed (linked row.up) end (neat_link row.up u) e)

weight_behind : (row : SymbolRow) (place end : Code) → weight (behind_name row place end) ≤ 24 * constructors row.ctype + weight place + 21 + weight end
weight_behind row place end =
    let a = weight_followed (type_code row.ctype) (Proc place (outward row.up end)) in
    let b = weight_followed (linked row.up) end in
    let c = weight_type row.ctype in
    let d = weight_link row.up in
    omega arith

module _ (fs : List FunctionRow) (h : Homes) (row : SymbolRow) where
  neat_by : (r : Referent) → IsName row.name → HasWords row.ctype → IsLink row.up → IsFound fs h r → Neat (symbol_by fs h row r)
  neat_by (refers.Object o) n t u f = neat_followed (linked row.up) _ (neat_link row.up u) (known refl, (short_word o f, (known refl, (known refl, tt))))
  neat_by (refers.Local x) n t u f = (known n.plain, neat_behind row (home_words h x) (word "NewSymbol") t u (neat_place (slice_get h.places x) _ f) (known refl, tt))
  neat_by (refers.Function f) n t u e =
      (known n.plain, neat_behind row (number (entry_in (slice_get fs f)) ⋯ word "Absolute") (word "FunctionSymbol") t u (short_word (entry_in (slice_get fs f)) e, (known refl, tt)) (known refl, tt))
  neat_by refers.Declared n t u e =
      (known n.plain, neat_behind row (number 0 ⋯ word "Absolute") (word "FunctionSymbol") t u (short_word 0 (omega arith), (known refl, tt)) (known refl, tt))

  weight_by : (r : Referent) → length row.name ≤ 63 → weight (symbol_by fs h row r) + 16 ≤ (of_named r row.ctype).bytes
  weight_by (refers.Object o) n =
      let a = weight_followed (linked row.up) (word "objects" ⋯ (number o ⋯ (word "get" ⋯ word "ObjectSymbol"))) in
      let b = weight_link row.up in
      omega arith
  weight_by (refers.Local x) n =
      let a = weight_behind row (home_words h x) (word "NewSymbol") in
      let b = weight_place (slice_get h.places x) (declared_register (slice_get h.locals x)) in
      omega arith
  weight_by (refers.Function f) n = let a = weight_behind row (number (entry_in (slice_get fs f)) ⋯ word "Absolute") (word "FunctionSymbol") in omega arith
  weight_by refers.Declared n = let a = weight_behind row (number 0 ⋯ word "Absolute") (word "FunctionSymbol") in omega arith

  pub symbols_short : (s : ℕ) → IsSymbolRow fs h s row → written (symbol_code fs h s row) ≤ (of_symbol row).bytes
  symbols_short s k =
      let inner = neat_followed (symbol_by fs h row row.refers) (word "def") (neat_by row.refers k.name k.ctype k.up k.found) (known refl, tt) in
      let n = neat_written (symbol_code fs h s row) (short_word s k.number, inner) in
      let a = weight_followed (symbol_by fs h row row.refers) (word "def") in
      let b = weight_by row.refers k.name.short in
      omega arith

-- ---- structs

pub members_short : (m : Member) → IsMemberRow m → written (member_code m) ≤ (of_member m).bytes
members_short m h =
    let inner = neat_followed (type_code m.ctype) (word "]") (neat_type m.ctype h.ctype) (known refl, tt) in
    let n = neat_written (member_code m) (known refl, (known h.name.plain, (short_word m.at h.at, inner))) in
    let a = weight_followed (type_code m.ctype) (word "]") in
    let b = weight_type m.ctype in
    let c = h.name.short in
    omega arith

pub structs_short : (s : ℕ) (d : StructDef) → IsStructRow s d → written (struct_code d) + written (filled_struct s []) + written (tag_code s d) ≤ per_struct.bytes
structs_short s d h =
    let a = neat_written (struct_code d) (known h.tag.plain, (short_word d.size h.size, (known refl, tt))) in
    let b = neat_written (filled_struct s []) (known refl, (short_word s h.number, (known refl, (known refl, (known refl, (known refl, (known refl, tt))))))) in
    let c = neat_written (tag_code s d) (known h.tag.plain, (known refl, (short_word s h.number, (known refl, tt)))) in
    let t = h.tag.short in
    omega arith

-- ---- static objects and strings

short_decimal : (k : ℕ) → IsWord k → length (decimal k) ≤ 10
short_decimal k h = length-decimal-le 10 k (omega arith) (omega arith) (omega arith)

plain_anchor : (k : ℕ) → IsWord k → Plain (anchor_name k)
plain_anchor k h = record { same = ap (λ (ds : List ℕ). 97 ∷ ds) (plain_decimal k (omega arith)).same }

neat_anchored : (k : ℕ) → IsWord k → (rest : Code) → Neat rest → Neat (anchored k ⋯ rest)
neat_anchored k h rest n = ((short_pos 0 (omega arith), (plain_anchor k h, (known refl, (known refl, tt)))), n)

anchor_short : (k address : ℕ) → IsWord k → IsWord address → size (anchor_code k address) ≤ 25
anchor_short k address h a =
    let n = neat_written (anchor_code k address) (plain_anchor k h, (short_word address a, tt)) in
    let s = size_written (anchor_code k address) in
    let l = short_decimal k h in
    omega arith

front_short : (b : Bool) (file : List ℕ) → length file ≤ 255 → length (if b then without_ending file ++ 46 ∷ [] else []) ≤ 254
front_short true file h = let a = length-append (without_ending file) (46 ∷ []) in let t = length-take (length file - 2) file in omega arith
front_short false file h = omega arith

-- two strings, and what is behind them
strings_size : (a b : List ℕ) (rest : Code) → size (Text a (Text b rest)) ≡ length (escaped a) + length (escaped b) + 6 + size rest
strings_size a b rest =
    let x = length-append (escaped a) (41 ∷ 32 ∷ 40 ∷ (escaped b ++ 41 ∷ 32 ∷ render rest)) in
    let y = length-append (escaped b) (41 ∷ 32 ∷ render rest) in
    omega arith

pub objects_short : (us : List UnitRow) (k address : ℕ) (o : ObjectRow) → IsObjectRow us k address o → size (object_code us k o) + size (anchor_code k address) ≤ (of_object o).bytes
objects_short us k address o h =
    let rest : Code = anchored k ⋯ (type_code o.ctype ⋯ word "NewObject") in
    let inner = neat_followed (type_code o.ctype) (word "NewObject") (neat_type o.ctype h.ctype) (known refl, tt) in
    let n = neat_written rest (neat_anchored k h.number (type_code o.ctype ⋯ word "NewObject") inner) in
    let m = size_written rest in
    let a = weight_followed (type_code o.ctype) (word "NewObject") in
    let b = weight_type o.ctype in
    let c = strings_size o.name (object_label us o) rest in
    let d = escaped_append (label_front us o) o.name in
    let e = escaped_twice (label_front us o) in
    let f = front_short o.is_static (file_in (slice_get us o.unit)) h.file in
    let g = anchor_short k address h.number h.address in
    let i = h.name.short in
    let j = short_decimal k h.number in
    let p : length (escaped (object_label us o)) ≡ length (escaped (label_front us o)) + length (escaped o.name) = ap length d ∙ length-append (escaped (label_front us o)) (escaped o.name) in
    let q : length (escaped o.name) ≡ length o.name = ap length h.name.plain in
    omega arith

plain_label : (k : ℕ) → IsWord k → Plain (string_label k)
plain_label k h = record { same = ap (λ (ds : List ℕ). 115 ∷ 116 ∷ 114 ∷ ds) (plain_decimal k (omega arith)).same }

pub literals_short : (k anchor address : ℕ) (text : List ℕ) → IsWord k → IsWord anchor → IsWord address → IsWord (suc (length text))
    → size (string_code k anchor text) + size (anchor_code anchor address) ≤ per_string.bytes
literals_short k anchor address text h i a l =
    let n = neat_written (string_code k anchor text)
    (plain_label k h, neat_anchored anchor i (word "char" ⋯ (number (suc (length text)) ⋯ (word "ArrayOf" ⋯ word "NewString"))) (known refl, (short_word (suc (length text)) l, (known refl, (known refl, tt))))) in
    let m = size_written (string_code k anchor text) in
    let g = anchor_short anchor address i a in
    let d = short_decimal k h in
    let e = short_decimal anchor i in
    omega arith

-- ---- functions and units

written_bracketed : (k : Code) → written (bracketed k) ≡ 4 + written k
written_bracketed k =
    let a : written (bracketed k) ≡ 2 + written (k ⋯ word "]") = written_followed (word "[") (k ⋯ word "]") in
    let b : written (k ⋯ word "]") ≡ written k + 2 = written_followed k (word "]") in
    omega arith

truth_short : (b : Bool) → written (truth b) ≤ 6
truth_short true = omega arith
truth_short false = omega arith

number_short : (n : ℕ) → IsWord n → written (number n) ≤ 12
number_short n h = neat_written (number n) (short_word n h, tt)

pub functions_short : (p : Program) (fs : List FunctionRow) (made : ℕ) (f : Function) (row : FunctionRow) → IsFunctionRow f row
    → written (function_code p fs made f row) ≤ function_alone.bytes + written (saved_code row.saved) + written (points_code p fs (homes row.locals f.locals) made f.points row.points)
functions_short p fs made f row h =
    let saved : Code = saved_code row.saved in
    let points : Code = points_code p fs (homes row.locals f.locals) made f.points row.points in
    let r₆ : Code = bracketed points ⋯ word "NewFunction" in
    let r₅ : Code = bracketed saved ⋯ r₆ in
    let r₄ : Code = number row.frame ⋯ r₅ in
    let r₃ : Code = number row.end ⋯ r₄ in
    let r₂ : Code = number row.entry ⋯ r₃ in
    let r₁ : Code = truth f.is_static ⋯ r₂ in
    let a : written (function_code p fs made f row) ≡ written (string f.name) + written r₁ = written_followed (string f.name) r₁ in
    let b : written r₁ ≡ written (truth f.is_static) + written r₂ = written_followed (truth f.is_static) r₂ in
    let c : written r₂ ≡ written (number row.entry) + written r₃ = written_followed (number row.entry) r₃ in
    let d : written r₃ ≡ written (number row.end) + written r₄ = written_followed (number row.end) r₄ in
    let e : written r₄ ≡ written (number row.frame) + written r₅ = written_followed (number row.frame) r₅ in
    let g : written r₅ ≡ written (bracketed saved) + written r₆ = written_followed (bracketed saved) r₆ in
    let i : written r₆ ≡ written (bracketed points) + 12 = written_followed (bracketed points) (word "NewFunction") in
    let n : written (string f.name) ≤ length f.name + 5 = neat_written (string f.name) (known h.name.plain, tt) in
    let s = h.name.short in
    let t = truth_short f.is_static in
    let x = number_short row.entry h.entry in
    let y = number_short row.end h.end in
    let z = number_short row.frame h.frame in
    let u = written_bracketed saved in
    let v = written_bracketed points in
    omega arith

pub units_short : (p : Program) (fs : List FunctionRow) (u : UnitRow) → length u.file ≤ 255
    → size (unit_code p fs u) ≤ unit_alone.bytes + written (functions_code p fs 0 u.functions)
units_short p fs u h =
    let inner : Code = functions_code p fs 0 u.functions in
    let head : Code = integer (pos 1) ⋯ (word "dict" ⋯ word "begin") in
    let a : size (unit_code p fs u) ≡ length (escaped u.file) + length (escaped (render (deferred p fs u))) + 6 + size (word "cvx" ⋯ word "NewUnit") =
    strings_size u.file (render (deferred p fs u)) (word "cvx" ⋯ word "NewUnit") in
    let b : written (deferred p fs u) ≡ written head + written (bracketed inner ⋯ word "end") = written_followed head (bracketed inner ⋯ word "end") in
    let c : written (bracketed inner ⋯ word "end") ≡ written (bracketed inner) + 4 = written_followed (bracketed inner) (word "end") in
    let d = written_bracketed inner in
    let e : written head ≤ 23 = neat_written head (short_pos 1 (omega arith), (known refl, (known refl, tt))) in
    let f = escaped_twice u.file in
    let g : written (deferred p fs u) ≡ length (escaped (render (deferred p fs u))) = refl in
    omega arith
