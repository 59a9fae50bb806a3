-- How long the text of a table is.
use Rattle.std.proofs.Common.{◌≡◌, ℕ, suc, ◌+◌, ◌*◌, ◌<◌, ◌≤◌, ◌^◌, List, [], ◌∷◌, length, map, codes, pos, Bool, true, false, ◌==◌, if◌then◌else◌, ◌++◌, refl, ap, arith, length-append}
use Rattle.std.specs.List.{AllByRecursion}
use Rattle.std.specs.Fmt.{digits}
use Rattle.machine_state.specs.declared.layout.TheConstants.{SPARC}
use Rattle.c_tree.specs.declared.types.StructDef.{StructDef}
use Rattle.c_tree.specs.declared.types.Member.{Member}
use Rattle.c_tree.specs.declared.rows.Program.{Program}
use Rattle.c_tree.specs.declared.rows.UnitRow.{UnitRow}
use Rattle.c_tree.specs.declared.rows.ObjectRow.{ObjectRow}
use Rattle.ps_scan.specs.Escaping.{escaped}
use Rattle.ps_text.specs.Code.{Code, Stop, Lit, render}
use Rattle.ps_emit.specs.declared.placement.Placement.{Placement}
use Rattle.ps_emit.specs.Terms.{◌⋯◌, word, name, string, integer, bracketed, item}
use Rattle.ps_emit.specs.Words.{words}
use Rattle.ps_emit.specs.Types.{struct_code, each_struct, structs_code, member_code, each_member, filled_struct, filled_structs, tag_code, tags_code}
use Rattle.ps_emit.specs.Places.{object_code, objects_from, string_code, strings_from, objects_code}
use Rattle.ps_emit.specs.Functions.{units_code}
use Rattle.ps_emit.specs.Table.{target_name, anchor_code, anchors_code, paired, top_code, parts_code, table_code, table_text}
use Rattle.ps_emit.specs.Bounds.{all, of_member, of_object, per_struct, ◌and◌, cost_of}
use Rattle.ps_emit.specs.Lengths.{size, written, IsWord, IsMemberRow}
use Rattle.ps_emit.proofs.Items.{members_short, structs_short, objects_short, literals_short}
use Rattle.ps_emit.proofs.Lengths.{written_followed, size_written}
use Rattle.ps_tables.specs.Rows.{IsStruct, IsObject, HasRows, IsParted}
use Rattle.ps_tables.proofs.UnitsShort.{size_followed, units_bytes}

-- ---- structs

abbrev of_struct : StructDef → ℕ
of_struct d = per_struct.bytes + (all (map of_member d.members)).bytes

abbrev of_structs : List StructDef → ℕ
of_structs [] = 0
of_structs (d ∷ ds) = of_struct d + of_structs ds

members_written : (ms : List Member) → AllByRecursion IsMemberRow ms → written (each_member ms) ≤ (all (map of_member ms)).bytes
members_written [] h = omega arith
members_written (m ∷ ms) h =
    let a = members_written ms h.1 in
    let b = members_short m h.0 in
    let e = written_followed (member_code m) (each_member ms) in
    omega arith

filled_written : (s : ℕ) (ms : List Member) → written (filled_struct s ms) ≡ written (filled_struct s []) + written (each_member ms)
filled_written s ms =
    let front : Code = item "structs" s in
    let a = written_followed front (name "members" ⋯ bracketed (each_member ms) ⋯ word "put") in
    let b = written_followed (name "members" ⋯ word "[") ((each_member ms ⋯ word "]") ⋯ word "put") in
    let c = written_followed (each_member ms ⋯ word "]") (word "put") in
    let d = written_followed (each_member ms) (word "]") in
    let e = written_followed front (name "members" ⋯ bracketed (each_member []) ⋯ word "put") in
    let f = written_followed (name "members" ⋯ word "[") (word "]" ⋯ word "put") in
    omega arith

structs_size : (s : ℕ) (ds : List StructDef) → AllByRecursion IsStruct ds → s + length ds < 2 ^ 32 → size (each_struct ds) + size (filled_structs s ds) + size (tags_code s ds) ≤ of_structs ds
structs_size s [] h few = omega arith
structs_size s (d ∷ ds) h few =
    let a = structs_size (suc s) ds h.1 (omega arith) in
    let b = structs_short s d (record { number = omega arith; tag = h.0.tag; size = h.0.size }) in
    let c = filled_written s d.members in
    let m = members_written d.members h.0.members in
    let x = size_written (struct_code d) in
    let y = size_written (filled_struct s d.members) in
    let z = size_written (tag_code s d) in
    let e = size_followed (struct_code d) (each_struct ds) in
    let f = size_followed (filled_struct s d.members) (filled_structs (suc s) ds) in
    let g = size_followed (tag_code s d) (tags_code (suc s) ds) in
    omega arith

-- ---- objects

strings_size : (k anchor : ℕ) (ts : List (List ℕ)) (places : List (List ℕ × ℕ)) → AllByRecursion (λ t. length t < 2 ^ 30) ts → AllByRecursion (λ a. IsWord a.1) places → length places ≡ length ts → anchor + length ts < 2 ^ 32 → k ≤ anchor
    → size (strings_from k anchor ts) + size (anchors_code anchor places) ≤ 123 * length ts
strings_size k anchor [] [] h w e few l = omega arith
strings_size k anchor [] (a ∷ places) h w e few l = absurd (omega arith)
strings_size k anchor (t ∷ ts) [] h w e few l = absurd (omega arith)
strings_size k anchor (t ∷ ts) (a ∷ places) h w e few l =
    let i = strings_size (suc k) (suc anchor) ts places h.1 w.1 (omega arith) (omega arith) (omega arith) in
    let b = literals_short k anchor a.1 t (omega arith) (omega arith) w.0 (let l : length t < 2 ^ 30 = h.0 in omega arith) in
    let f = size_followed (string_code k anchor t) (strings_from (suc k) (suc anchor) ts) in
    let g = size_followed (anchor_code anchor a.1) (anchors_code (suc anchor) places) in
    omega arith

module _ (us : List UnitRow) (n : ℕ) (ts : List (List ℕ)) (strings : AllByRecursion (λ t. length t < 2 ^ 30) ts) where
  objects_size : (k : ℕ) (os : List ObjectRow) (places : List (List ℕ × ℕ)) → AllByRecursion (IsObject us) os → AllByRecursion (λ a. IsWord a.1) places → k + length os ≡ n → length places ≡ length os + length ts → n + length ts < 2 ^ 32
      → size (objects_from us k os) + size (strings_from 0 n ts) + size (anchors_code k places) ≤ (all (map of_object os)).bytes + 123 * length ts
  objects_size k [] places h w s e few =
      let same : k ≡ n = omega arith in
      let b = strings_size 0 n ts places strings w (omega arith) few (omega arith) in
      let c : size (anchors_code k places) ≡ size (anchors_code n places) = ap (λ (x : ℕ). size (anchors_code x places)) same in
      omega arith
  objects_size k (o ∷ os) [] h w s e few = absurd (omega arith)
  objects_size k (o ∷ os) (a ∷ places) h w s e few =
      let i = objects_size (suc k) os places h.1 w.1 (omega arith) (omega arith) few in
      let b = objects_short us k a.1 o (record { number = omega arith; address = w.0; name = h.0.name; ctype = h.0.ctype; file = h.0.file }) in
      let f = size_followed (object_code us k o) (objects_from us (suc k) os) in
      let g = size_followed (anchor_code k a.1) (anchors_code (suc k) places) in
      omega arith

-- ---- all of it

words_size : size words ≤ 1779
unfolding digits
words_size = omega arith

bracketed_size : (k : Code) → size (bracketed k) ≡ 4 + size k
bracketed_size k = let a = size_followed (word "[") (k ⋯ word "]") in let b = size_followed k (word "]") in omega arith

paired_size : (k : Code) → size (paired k) ≡ 6 + size k
paired_size k = let a = size_followed (word "<<") (k ⋯ word ">>") in let b = size_followed k (word ">>") in omega arith

defined_size : (k : Code) (text : List ℕ) → size (Lit text (bracketed k ⋯ word "def")) ≡ length text + 10 + size k
defined_size k text =
    let a = size_followed (Lit text Stop) (bracketed k ⋯ word "def") in
    let b = size_followed (bracketed k) (word "def") in
    let c = bracketed_size k in
    let d : length (text ++ 32 ∷ []) ≡ length text + 1 = length-append text (32 ∷ []) in
    omega arith

-- what a table begins its top with, up to the anchors
abbrev top_front : ℕ → Code
top_front target = name "ldb" ⋯ integer (pos 1) ⋯ name "target" ⋯ string (target_name target) ⋯ name "anchors"

abbrev top_middle : Code
top_middle = name "objects" ⋯ word "objects" ⋯ name "units"

front_size : (b : Bool) → size (name "ldb" ⋯ integer (pos 1) ⋯ name "target" ⋯ string (if b then codes "sparc" else codes "mips") ⋯ name "anchors") ≤ 32
unfolding digits
front_size true = omega arith
front_size false = omega arith

top_size : (p : Program) (at : Placement) → size (top_code p at) ≤ 87 + size (anchors_code 0 at.anchors) + size (tags_code 0 p.defs) + size (units_code p at.functions p.units)
top_size p at =
    let units : Code = bracketed (units_code p at.functions p.units) in
    let tags : Code = paired (tags_code 0 p.defs) in
    let anchors : Code = paired (anchors_code 0 at.anchors) in
    let a = paired_size (top_front at.target ⋯ (anchors ⋯ (name "structs" ⋯ (tags ⋯ (top_middle ⋯ units))))) in
    let b = size_followed (top_front at.target) (anchors ⋯ (name "structs" ⋯ (tags ⋯ (top_middle ⋯ units)))) in
    let c = size_followed anchors (name "structs" ⋯ (tags ⋯ (top_middle ⋯ units))) in
    let d = size_followed (name "structs") (tags ⋯ (top_middle ⋯ units)) in
    let e = size_followed tags (top_middle ⋯ units) in
    let f = size_followed top_middle units in
    let g = bracketed_size (units_code p at.functions p.units) in
    let i = paired_size (tags_code 0 p.defs) in
    let j = paired_size (anchors_code 0 at.anchors) in
    let k = front_size (at.target == SPARC) in
    omega arith

-- the units are a part of it
pub top_units : (p : Program) (at : Placement) → size (units_code p at.functions p.units) ≤ size (top_code p at)
top_units p at =
    let units : Code = bracketed (units_code p at.functions p.units) in
    let tags : Code = paired (tags_code 0 p.defs) in
    let anchors : Code = paired (anchors_code 0 at.anchors) in
    let a = paired_size (top_front at.target ⋯ (anchors ⋯ (name "structs" ⋯ (tags ⋯ (top_middle ⋯ units))))) in
    let b = size_followed (top_front at.target) (anchors ⋯ (name "structs" ⋯ (tags ⋯ (top_middle ⋯ units)))) in
    let c = size_followed anchors (name "structs" ⋯ (tags ⋯ (top_middle ⋯ units))) in
    let d = size_followed (name "structs") (tags ⋯ (top_middle ⋯ units)) in
    let e = size_followed tags (top_middle ⋯ units) in
    let f = size_followed top_middle units in
    let g = bracketed_size (units_code p at.functions p.units) in
    omega arith

-- two strings and what stands behind them
pub strings_apart : (a b : List ℕ) (k : Code) → size (string a ⋯ (string b ⋯ k)) ≡ length (escaped a) + length (escaped b) + 6 + size k
strings_apart a b k =
    let e = length-append (escaped b) (41 ∷ 32 ∷ render k) in
    let f = length-append (escaped a) (41 ∷ 32 ∷ render (string b ⋯ k)) in
    omega arith

structs_bytes : (ds : List StructDef) → (all (map (λ d. per_struct and all (map of_member d.members)) ds)).bytes ≡ of_structs ds
structs_bytes [] = refl
structs_bytes (d ∷ ds) = ap (λ n. of_struct d + n) (structs_bytes ds)

pub code_size : (p : Program) (at : Placement) → HasRows p at → IsParted p → size (table_code p at) ≤ (cost_of p).bytes
code_size p at rows parted =
    let last : Code = objects_code p ⋯ top_code p at in
    let e₁ = size_followed words (parts_code p at) in
    let e₂ = size_followed (structs_code p.defs) (filled_structs 0 p.defs ⋯ last) in
    let e₃ = size_followed (filled_structs 0 p.defs) last in
    let e₄ = size_followed (objects_code p) (top_code p at) in
    let s = defined_size (each_struct p.defs) (codes "structs") in
    let o = defined_size (objects_from p.units 0 p.objects ⋯ strings_from 0 (length p.objects) p.strings) (codes "objects") in
    let f = size_followed (objects_from p.units 0 p.objects) (strings_from 0 (length p.objects) p.strings) in
    let t = top_size p at in
    let w = words_size in
    let few = rows.few_structs in
    let a = structs_size 0 p.defs rows.structs (omega arith) in
    let few' = rows.few_objects in
    let one = rows.one_each in
    let b = objects_size p.units (length p.objects) p.strings rows.strings 0 p.objects at.anchors rows.objects rows.anchors (omega arith) one few' in
    let c = units_bytes p at rows parted in
    let d = structs_bytes p.defs in
    omega arith

pub text_short : (p : Program) (at : Placement) → HasRows p at → IsParted p → length (table_text p at) ≤ (cost_of p).bytes
unfolding table_text
text_short p at rows parted = code_size p at rows parted
