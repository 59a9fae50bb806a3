-- A value that lies at a place, by what is looked up, is laid there for the printers.
use Rattle.std.proofs.Common.{◌≡◌, refl, sym, subst, ℕ, pos, suc, ◌+◌, ◌<◌, ◌%◌, ◌^◌, Ok, List, codes}
use Rattle.std.specs.Int.{w32}
use Rattle.std.proofs.lemmas.Int.{of_z-to_z}
use Rattle.ldb_words.specs.Word.{word_of_signed}
use Rattle.ldb_words.specs.declared.kinds.Kind.{Kind}
use Rattle.ldb_words.specs.declared.kinds.Kind.TheVariants.{Byte, Word, Address}
use Rattle.c_tree.specs.declared.types.CType.{CType}
use Rattle.c_tree.specs.declared.types.StructDef.{StructDef}
use Rattle.c_tree.specs.declared.types.Member.{Member}
use Rattle.c_tree.specs.Layout.{members_of}
use Rattle.c_show.specs.Printed.{Showing, string_text}
use Rattle.ps_store.specs.declared.object.PsObj.TheVariants.{Int}
use Rattle.ps_store.specs.declared.object.ArrayId.{ArrayId}
use Rattle.ps_store.specs.declared.object.DictId.{DictId}
use Rattle.ps_store.specs.StoreState.{StoreState}
use Rattle.frame_bytes.specs.declared.frame.Space.{Space}
use Rattle.frame_bytes.specs.declared.frame.Space.TheVariants.{Memory}
use Rattle.ps_places.specs.Places.{space_named, kind_named}
use Rattle.ps_terms.specs.Printing.{word}
use Rattle.ps_print.specs.Items.{Thing}
use Rattle.ps_print.specs.Laid.{Fetches, PutsChars, PutsPointer, Counts, PointerText, Laid, EachLaid, MembersLaid}
use Rattle.ps_print.specs.Laid as laid
use Rattle.ps_print.specs.Things.{Tail}
use Rattle.dialect_model.specs.Dial.{Dial}
use Rattle.dialect_model.specs.Operating.{Operates}
use Rattle.printing_laws.specs.Lookups.{Always, number_there, integer_of, string_there, pointer_there, run_there}
use Rattle.printing_laws.specs.Lies.{PointerLies, bare, dangling, strung, Lies, an_int, an_unsigned, a_char, a_pointer, a_string, an_array, a_struct, EachLies, none, unseen, more, MembersLie, no_member, unseen_members, a_member}
use Rattle.printing_laws.specs.Stays.{Above}
use Rattle.printing_laws.proofs.Printer.{printing}
use Rattle.printing_laws.proofs.Units.{RunsLeave}
use Rattle.printing_laws.proofs.Finding.{ActsLeave}
use Rattle.printing_laws.proofs.Found.{StringsStay, fetches, puts_chars, puts_pointer, counts}

module _ (leaves : RunsLeave) (keeps : ActsLeave) (first : StoreState) (above : Above first) (s : StoreState) (strings : StringsStay s first) (d : Dial) (space : List ℕ) (sp : Space) (named : space_named space ≡ Ok sp)
    (defs : List StructDef) where
  -- a word is read back as it is written
  back : (n : ℕ) → n < 2 ^ 32 → word_of_signed (word n) ≡ n
  back n small = of_z-to_z w32 n small

  fetched : (kind : List ℕ) (k : Kind) (place v : ℕ) → kind_named kind ≡ Ok k → place < 2 ^ 32 → Always first (number_there d sp place k) v
      → Fetches Operates printing s first d space (word place) kind (integer_of k v)
  fetched kind k place v named' small always =
      fetches leaves keeps first above s strings d space kind sp k (word place) v named named' (subst (λ p. Always first (number_there d sp p k) v) (sym (back place small)) always)

  chars : (place count : ℕ) (bs : List ℕ) → place < 2 ^ 32 → Always first (string_there d sp place count) bs → PutsChars Operates printing s first d space (word place) count (string_text bs)
  chars place count bs small always =
      puts_chars leaves keeps first above s strings d space sp (word place) count bs named (subst (λ p. Always first (string_there d sp p count) bs) (sym (back place small)) always)

  chars_there : (p count : ℕ) (bs : List ℕ) → p < 2 ^ 32 → Always first (string_there d Memory p count) bs → PutsChars Operates printing s first d (codes "d") (word p) count (string_text bs)
  chars_there p count bs small always =
      puts_chars leaves keeps first above s strings d (codes "d") Memory (word p) count bs refl (subst (λ q. Always first (string_there d Memory q count) bs) (sym (back p small)) always)

  pointed : (p : ℕ) (text : List ℕ) → p < 2 ^ 32 → Always first (pointer_there d p) text → PutsPointer Operates printing s first d (word p) text
  pointed p text small always = puts_pointer leaves keeps first above s strings d (word p) text (subst (λ q. Always first (pointer_there d q) text) (sym (back p small)) always)

  counted : (p count : ℕ) → p < 2 ^ 32 → Always first (run_there d p) (Int (pos count)) → Counts Operates printing s first d (word p) count
  counted p count small always = counts leaves keeps first above s strings d (word p) count (subst (λ q. Always first (run_there d q) (Int (pos count))) (sym (back p small)) always)

  pointer_text : (kind : List ℕ) (p : ℕ) (text : List ℕ) (tail : Tail) → p < 2 ^ 32 → PointerLies first d kind p text tail → PointerText printing s first d kind (word p) text tail
  pointer_text kind p _ _ small (bare text test told) = laid.bare text test (pointed p text small told)
  pointer_text kind p _ _ small (dangling text test told run) = laid.dangling text test (pointed p text small told) (counted p 0 small run)
  pointer_text kind p _ _ small (strung text bs count test told run there) =
      laid.strung text (string_text bs) count test (pointed p text small told) (counted p (suc count) small run) (chars_there p (suc count) bs small there)

  mutual
    pub lies_laid : (k r : ℕ) (t : CType) (type : DictId) (place : ℕ) (xs : List Showing) (i : Thing) → Lies s first d sp defs k r t type place xs i → Laid Operates printing s first d space defs k r t type place xs i
    lies_laid _ _ _ _ _ _ _ (an_int k r type place v low small kind always) = laid.an_int k r type place v small kind (fetched (codes "w") Word place v refl low always)
    lies_laid _ _ _ _ _ _ _ (an_unsigned k r type place v low small kind always) = laid.an_unsigned k r type place v small kind (fetched (codes "w") Word place v refl low always)
    lies_laid _ _ _ _ _ _ _ (a_char k r type place b x low kind always told) = laid.a_char k r type place (integer_of Byte b) x kind (fetched (codes "c") Byte place b refl low always) told
    lies_laid _ _ _ _ _ _ _ (a_pointer k r b t type target kind place p x text tail low small its to its_kind always shows told) =
        laid.a_pointer k r b t type target kind place (word p) x text tail its to its_kind (fetched (codes "p") Address place p refl low always) (pointer_text kind p text tail small shows) told
    lies_laid _ _ _ _ _ _ _ (a_string k r b n type item kind place bs xs low e len a to count ik always same) =
        laid.a_string k r b n type item kind place xs e len a to count ik (subst (λ text. PutsChars Operates printing s first d space (word place) n text) same (chars place n bs low always))
    lies_laid _ _ _ _ _ _ _ (an_array k r b t n type item kind size place xs is c e a to count ik sized l1 l2 l3 l4 ls) =
        laid.an_array k r b t n type item kind size place xs is c e a to count ik sized l1 l2 l3 l4 (each_laid k (suc r) t item size n place xs is ls)
    lies_laid _ _ _ _ _ _ _ (a_struct k r number type members e place xs is its has many l2 l3 l4 ms) =
        laid.a_struct k r number type members e place xs is its has many l2 l3 l4 (members_laid k (suc r) (members_of defs number) members 0 place xs is ms)

    each_laid : (k room : ℕ) (t : CType) (item : DictId) (size n place : ℕ) (xs : List Showing) (is : List Thing) → EachLies s first d sp defs k room t item size n place xs is
        → EachLaid Operates printing s first d space defs k room t item size n place xs is
    each_laid _ _ _ _ _ _ _ _ _ (none k room t item size place) = laid.none k room t item size place
    each_laid _ _ _ _ _ _ _ _ _ (unseen k t item size n place xs is many) = laid.unseen k t item size n place xs is many
    each_laid _ _ _ _ _ _ _ _ _ (more k r t item size n place xs ys i is l ls) =
        laid.more k r t item size n place xs ys i is (lies_laid k r t item place xs i l) (each_laid k (i.room (suc r)) t item size n ((size + place) % 2 ^ 32) ys is ls)

    members_laid : (k room : ℕ) (ms : List Member) (members : ArrayId) (i place : ℕ) (xs : List Showing) (is : List Thing) → MembersLie s first d sp defs k room ms members i place xs is
        → MembersLaid Operates printing s first d space defs k room ms members i place xs is
    members_laid _ _ _ _ _ _ _ _ (no_member k room members i place) = laid.no_member k room members i place
    members_laid _ _ _ _ _ _ _ _ (unseen_members k m ms members i place xs is many) = laid.unseen_members k m ms members i place xs is many
    members_laid _ _ _ _ _ _ _ _ (a_member k r m ms members i place offset type xs ys thing is at l ls) =
        laid.a_member k r m ms members i place offset type xs ys thing is at (lies_laid k r m.ctype type ((place + offset) % 2 ^ 32) xs thing l)
        (members_laid k (thing.room (suc r)) ms members (suc i) place ys is ls)
