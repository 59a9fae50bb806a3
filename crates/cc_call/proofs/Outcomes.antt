-- What is done, in whole and in part.
use Rattle.std.proofs.Common.{◌≡◌, ◌<◌, inl, inr, ℕ, zero, suc, true, List, [], ◌∷◌, length, map, take, get_or, Option, Some, Result, Ok, Err, String, string_bytes, refl, sym, ap, ◌∙◌, subst, arith}
use Rattle.std.proofs.lemmas.List.{take_all, length-map}
use Rattle.std.specs.Prelude.{slice_get}
use Rattle.std.specs.Global.{Global}
use Rattle.std.specs.FinMap as files
use Rattle.ldb_edge.specs.Known.{FileMap, known_and}
use Rattle.obj_file.specs.Image.{ImageFields, image_bytes}
use Rattle.ldb_cc.specs.declared.fault.BuildFault.{BuildFault}
use Rattle.ldb_cc.specs.Sources.{IsCause}
use Rattle.ldb_cc.specs.Built.{IsBuilt}
use Rattle.cc_call.specs.declared.call.Answer.{Answer}
use Rattle.cc_call.specs.declared.call.Answer.TheVariants.{Built, Refused, Missing}
use Rattle.cc_call.specs.declared.ended.Fault.{Fault}
use Rattle.cc_call.specs.Words.{Request}
use Rattle.cc_call.specs.Lines.{name_in, missing_line, is_refusal, refused_line, built_line}
use Rattle.cc_call.specs.Found.{AreRead, IsMissing}
use Rattle.cc_call.specs.Outcome.{AreBuilt, with_files, Does, IsStage, LeavesAll, HasMissed, IsSaid, with_file, IsWrittenPart, WritesAs}
use Rattle.cc_call.proofs.Fronts.{known_none}
use Rattle.cc_call.proofs.Named.{name_read}

-- ---- files on the way

pub stage_first : (r : Request) (image table : List ℕ) (known : FileMap) (held held' : Option FileMap) → held ≡ Some known → IsWrittenPart r.image image held held' → (after : FileMap) × (held' ≡ Some after) × IsStage r image table known after
stage_first r image table known held held' h (inl e) = (known, e ∙ h, inl refl)
stage_first r image table known held held' h (inr p) = (files.insert known r.image (take p.0 image), p.1 ∙ ap (with_file r.image (take p.0 image)) h, inr (inl (p.0, refl)))

pub stage_second : (r : Request) (image table : List ℕ) (known : FileMap) (mid held' : Option FileMap) → mid ≡ Some (files.insert known r.image image) → IsWrittenPart r.table table mid held' → (after : FileMap) × (held' ≡ Some after) × IsStage r image table known after
stage_second r image table known mid held' m (inl e) = (files.insert known r.image image, e ∙ m, inr (inl (length image, ap (files.insert known r.image) (sym (take_all (length image) image (omega arith))))))
stage_second r image table known mid held' m (inr p) = (files.insert (files.insert known r.image image) r.table (take p.0 table), p.1 ∙ ap (with_file r.table (take p.0 table)) m, inr (inr (p.0, refl)))

-- both files stand, and a line was said
pub said_built : (r : Request) (image table : List ℕ) (known : FileMap) (taken taken' : Option (List ℕ)) (held' : Option FileMap) (result : Result Answer Fault) → held' ≡ Some (with_files r image table known) → IsSaid Built built_line taken taken' result → WritesAs r image table known taken taken' held' result
said_built r image table known taken taken' held' (Ok answer) h s = (s.0, s.1, h)
said_built r image table known taken taken' held' (Err fault) h s = inr (s, h)

-- ---- what the call leaves

pub leaves_nothing : (r : Request) (known : FileMap) (fault : Fault) (taken taken' : Option (List ℕ)) (held : Option FileMap) → taken' ≡ taken → held ≡ Some known → LeavesAll r known (Err fault) taken taken' held
leaves_nothing r known fault taken taken' held t h = record { out = []; after = known; taken_is = t ∙ known_none taken; held_is = h; does = inl (refl, refl) }

-- a line was said, and the files are as they were
pub leaves_line : (r : Request) (known : FileMap) (answer : Answer) (line : List ℕ) (taken taken' : Option (List ℕ)) (held : Option FileMap) (result : Result Answer Fault) → Does r known answer line known → held ≡ Some known → IsSaid answer line taken taken' result → LeavesAll r known result taken taken' held
leaves_line r known answer line taken taken' held (Ok said) d h s = record { out = line; after = known; taken_is = s.1; held_is = h; does = subst (λ (a : Answer). Does r known a line known) (sym s.0) d }
leaves_line r known answer line taken taken' held (Err fault) d h s = record { out = take s.count line; after = known; taken_is = s.front; held_is = h; does = inr (inr (answer, line, s.count, d, refl)) }

pub leaves_built : (r : Request) (known : FileMap) (image table : List ℕ) (taken taken' : Option (List ℕ)) (held' : Option FileMap) (result : Result Answer Fault) → AreBuilt r known image table → WritesAs r image table known taken taken' held' result → LeavesAll r known result taken taken' held'
leaves_built r known image table taken taken' held' (Ok answer) b w = record {
  out = built_line;
  after = with_files r image table known;
  taken_is = w.1;
  held_is = w.2;
  does = subst (λ (a : Answer). Does r known a built_line (with_files r image table known)) (sym w.0) (image, table, b, refl, refl);
}
leaves_built r known image table taken taken' held' (Err fault) b (inl w) = record { out = []; after = w.1.0; taken_is = w.0 ∙ known_none taken; held_is = w.1.1; does = inr (inl (image, table, b, refl, w.1.2)) }
leaves_built r known image table taken taken' held' (Err fault) b (inr w) = record {
  out = take w.0.count built_line;
  after = with_files r image table known;
  taken_is = w.0.front;
  held_is = w.1;
  does = inr (inr (Built, built_line, w.0.count, (image, table, b, refl, refl), refl));
}

-- the bytes that are built of sources
pub built_of : (r : Request) (known : FileMap) (names texts : List (List ℕ)) (fields : ImageFields) (table : List ℕ) → names ≡ r.sources → AreRead known r.sources texts → IsBuilt r.aim names texts fields table → AreBuilt r known (image_bytes fields) table
built_of r known names texts fields table e a b = record { texts = texts; read = a; fields = fields; image_is = refl; built = subst (λ (ns : List (List ℕ)). IsBuilt r.aim ns texts fields table) e b }

-- the line that tells a cause
pub refuses : (r : Request) (known : FileMap) (names texts : List (List ℕ)) (fault : BuildFault) → names ≡ r.sources → AreRead known r.sources texts → IsCause texts fault → is_refusal fault ≡ true → Does r known Refused (refused_line names fault) known
refuses r known names texts fault e a i t = (record { texts = texts; read = a; fault = fault; is_cause = i; is_told = t; line_is = ap (λ (ns : List (List ℕ)). refused_line ns fault) e }, refl)

-- ---- the name of a file that isn't there

got : (vs : List (String Global)) (i : ℕ) (v : String Global) → i < length vs → v ≡ get_or vs i v → slice_get (map string_bytes vs) i ≡ Some (string_bytes v)
got [] i v l e = absurd (omega arith)
got (w ∷ vs) zero v l e = ap (λ (x : String Global). Some (string_bytes x)) (sym e)
got (w ∷ vs) (suc i) v l e = got vs i v (omega arith) e

some_same : (a b : List ℕ) → ◌≡◌ {A = Option (List ℕ)} (Some a) (Some b) → a ≡ b
some_same a b e = cc

pub misses : (r : Request) (known : FileMap) (vs : List (String Global)) (n : ℕ) (v : String Global) (w : List ℕ) → r.sources ≡ map string_bytes vs → n < length vs → v ≡ get_or vs n v → w ≡ string_bytes v → (m : IsMissing known (map string_bytes vs) n) → Does r known Missing (missing_line w) known
misses r known vs n v w s l e b m =
    let same : w ≡ m.text = b ∙ some_same (string_bytes v) m.text (sym (got vs n v l e) ∙ m.is) in
    subst (λ (ns : List (List ℕ)). (k : ℕ) × (q : IsMissing known ns k) × (missing_line w ≡ missing_line q.text) × (known ≡ known)) (sym s) (n, m, ap missing_line same, refl)

-- the files said that the file of the printed name isn't there
pub misses_one : (missed : List ℕ → Type 0) (vs : List (String Global)) (n : ℕ) (v : String Global) (w : List ℕ) (taken taken' : Option (List ℕ)) (result : Result Answer Fault) → n < length vs → v ≡ get_or vs n v → w ≡ string_bytes v
    → missed (name_in (map string_bytes vs) n) → IsSaid Missing (missing_line w) taken taken' result → result ≡ Ok Missing → HasMissed missed (map string_bytes vs) taken taken'
misses_one missed vs n v w taken taken' result l e b m s r =
    let all : length (map string_bytes vs) ≡ length vs = length-map vs string_bytes in
    let said : IsSaid Missing (missing_line w) taken taken' (Ok Missing) = subst (IsSaid Missing (missing_line w) taken taken') r s in
    record {
      number = n;
      below = omega (arith, all, l);
      told = m;
      line_is = said.1 ∙ ap (λ x. known_and taken (missing_line x)) (b ∙ name_read vs n v l e);
    }
