-- Values are shown as their C type says.
use Rattle.std.proofs.Common.{◌≡◌, ℕ, pos, zero, suc, ◌+◌, ◌-◌, ◌<◌, ◌≤◌, ◌%◌, ◌^◌, ◌==◌, Bool, true, false, if◌then◌else◌, List, [], ◌∷◌, ◌++◌, length, map, take, drop, take_at, drop_at, replicate, codes, refl, sym, ap, ◌∙◌, subst, arith, append_assoc, append-nil, ne_eqb, Some}
use Rattle.std.specs.declared.alloc.Global.{Global}
use Rattle.std.specs.declared.rc.Rc.{Rc}
use Rattle.ps_store.specs.declared.object.PsObj.TheVariants.{Int}
use Rattle.ps_store.specs.declared.object.ArrayId.{ArrayId}
use Rattle.ps_store.specs.declared.object.DictId.{DictId}
use Rattle.ps_store.specs.StoreState.{StoreState}
use Rattle.ps_run.specs.Runs.{Operates}
use Rattle.c_tree.specs.declared.types.CType.{CType}
use Rattle.c_tree.specs.declared.types.CType.TheVariants.{Char, Int as IntType, Unsigned, Pointer'}
use Rattle.c_tree.specs.declared.types.StructDef.{StructDef}
use Rattle.c_tree.specs.declared.types.Member.{Member}
use Rattle.c_tree.specs.Layout.{members_of}
use Rattle.c_show.specs.declared.held.Held.TheVariants as held
use Rattle.c_show.specs.Printed.{Showing, Told, Page, with_text, put_scalar, put_items, in_braces, put_array, put_within, put_string, is_char, byte_of, leaf_text, string_text, shown}
use Rattle.ps_terms.specs.Faring.{Aim}
use Rattle.ps_terms.specs.Machine.{Obj}
use Rattle.ps_terms.specs.Printing.{Printing, HasKey}
use Rattle.ps_print.specs.Words.{Holds}
use Rattle.ps_print.specs.Items.{Thing, items_text, items_left}
use Rattle.ps_print.specs.Things.{Tail, int_thing, unsigned_thing, char_thing, pointer_thing, string_thing, array_thing, struct_thing}
use Rattle.ps_print.specs.Laid.{need, Laid, an_int, an_unsigned, a_char, a_pointer, a_string, an_array, a_struct, EachLaid, none, unseen, more, MembersLaid, no_member, unseen_members, a_member}
use Rattle.ps_print.proofs.Parts.{some_there}
use Rattle.ps_print.proofs.Items.{Shows, EachShows, unseen_shows}
use Rattle.ps_print.proofs.Things.{less_fewer, int_shows, unsigned_shows, list_shows}
use Rattle.ps_print.proofs.Scalars.{char_shows, pointer_shows, string_shows}
use Rattle.ps_print.proofs.Members.{EachMember, unseen_member, struct_shows}

need_some : (k : ℕ) → 13 ≤ need k
need_some zero = omega arith
need_some (suc k) = let e = need_some k in omega arith

unseen_fewer : (is : List Thing) → items_left is 0 ≤ 0
unseen_fewer [] = omega arith
unseen_fewer (i ∷ is) = omega arith

module _ {D : Type 0} (Op : Operates D) (prints : Printing Op) (s first : StoreState) (d : D) (space : List ℕ) (defs : List StructDef) where
  pub each_length : (k room : ℕ) (t : CType) (item : DictId) (size n place : ℕ) (xs : List Showing) (is : List Thing) → EachLaid Op prints s first d space defs k room t item size n place xs is → length is ≡ n
  each_length _ _ _ _ _ _ _ _ _ (none k room t item size place) = refl
  each_length _ _ _ _ _ _ _ _ _ (unseen k t item size n place xs is many) = many
  each_length _ _ _ _ _ _ _ _ _ (more k r t item size n place xs ys i is l ls) = ap suc (each_length k (i.room (suc r)) t item size n ((size + place) % 2 ^ 32) ys is ls)

  mutual
    laid_fewer : (k r : ℕ) (t : CType) (type : DictId) (place : ℕ) (xs : List Showing) (i : Thing) → Laid Op prints s first d space defs k r t type place xs i → i.room (suc r) ≤ suc r
    laid_fewer _ _ _ _ _ _ _ (an_int k r type place v h kind known) = less_fewer (suc r)
    laid_fewer _ _ _ _ _ _ _ (an_unsigned k r type place v h kind known) = less_fewer (suc r)
    laid_fewer _ _ _ _ _ _ _ (a_char k r type place n x kind known told) = less_fewer (suc r)
    laid_fewer _ _ _ _ _ _ _ (a_pointer k r b t type target kind place n x text tail its to its_kind known shows told) = less_fewer (suc r)
    laid_fewer _ _ _ _ _ _ _ (a_string k r b n type item kind place xs e len a to count ik lies) = less_fewer (suc r)
    laid_fewer _ _ _ _ _ _ _ (a_struct k r number type members e place xs is its has many l2 l3 l4 ms) = members_fewer k (suc r) (members_of defs number) members 0 place xs is ms
    laid_fewer _ _ _ _ _ _ _ (an_array k r b t n type item kind size place xs is c e a to count ik sized l1 l2 l3 l4 ls) = each_fewer k (suc r) t item size n place xs is ls

    each_fewer : (k room : ℕ) (t : CType) (item : DictId) (size n place : ℕ) (xs : List Showing) (is : List Thing) → EachLaid Op prints s first d space defs k room t item size n place xs is → items_left is room ≤ room
    each_fewer _ _ _ _ _ _ _ _ _ (none k room t item size place) = omega arith
    each_fewer _ _ _ _ _ _ _ _ _ (unseen k t item size n place xs is many) = unseen_fewer is
    each_fewer _ _ _ _ _ _ _ _ _ (more k r t item size n place xs ys i is l ls) =
        let a = laid_fewer k r t item place xs i l in
        let b = each_fewer k (i.room (suc r)) t item size n ((size + place) % 2 ^ 32) ys is ls in
        omega arith

    members_fewer : (k room : ℕ) (ms : List Member) (members : ArrayId) (i place : ℕ) (xs : List Showing) (is : List Thing) → MembersLaid Op prints s first d space defs k room ms members i place xs is → items_left is room ≤ room
    members_fewer _ _ _ _ _ _ _ _ (no_member k room members i place) = omega arith
    members_fewer _ _ _ _ _ _ _ _ (unseen_members k m ms members i place xs is many) = unseen_fewer is
    members_fewer _ _ _ _ _ _ _ _ (a_member k r m ms members i place offset type xs ys thing is at l ls) =
        let a = laid_fewer k r m.ctype type ((place + offset) % 2 ^ 32) xs thing l in
        let b = members_fewer k (thing.room (suc r)) ms members (suc i) place ys is ls in
        omega arith

module _ {D : Type 0} (Op : Operates D) (prints : Printing Op) (s : StoreState) (ds : List DictId) (digits : ArrayId) (holds : Holds s ds digits) (aim : Aim Op prints s ds) (d : D) (space : List ℕ) (defs : List StructDef) where
  mutual
    -- a run of `Show` shows the value
    pub laid_shows : (k r : ℕ) (t : CType) (type : DictId) (place : ℕ) (xs : List Showing) (i : Thing) → Laid Op prints s aim.first d space defs k r t type place xs i
        → Shows Op prints s ds digits holds aim (need k) d type space 0 r place i
    laid_shows _ _ _ _ _ _ _ (an_int k r type place v h kind known) = int_shows Op prints s ds digits holds aim d space (need k) type place v (need_some k) h kind known r
    laid_shows _ _ _ _ _ _ _ (an_unsigned k r type place v h kind known) = unsigned_shows Op prints s ds digits holds aim d space (need k) type place v (need_some k) h kind known r
    laid_shows _ _ _ _ _ _ _ (a_char k r type place n x kind known told) = char_shows Op prints s ds digits holds aim d space (need k) type place n kind known r
    laid_shows _ _ _ _ _ _ _ (a_pointer k r b t type target kind place n x text tail its to its_kind known shows told) =
        pointer_shows Op prints s ds digits holds aim d space (need k) type target kind text place n tail its to its_kind known shows r
    laid_shows _ _ _ _ _ _ _ (a_string k r b n type item kind place xs e len a to count ik lies) =
        string_shows Op prints s ds digits holds aim d space (6 + need k) type item kind (string_text (map byte_of xs)) place n e a to count ik lies r
    laid_shows _ _ _ _ _ _ _ (a_struct k r number type members e place xs is its has many l2 l3 l4 ms) =
        struct_shows Op prints s ds digits holds aim d space (need k) type members e place is l2 has (some_there s members (length is) many l4) many l3 r
        (members_show k (suc r) (members_of defs number) members e (length is) 0 place xs is ms) its
    laid_shows _ _ _ _ _ _ _ (an_array k r b t n type item kind size place xs is c e a to count ik sized l1 l2 l3 l4 ls) =
        let len : length is ≡ n = each_length Op prints s aim.first d space defs k (suc r) t item size n place xs is ls in
        list_shows Op prints s ds digits holds aim d space type item kind size to ik e sized l1 (need k) is place l2 (omega arith) a
        (subst (λ m. HasKey s type (codes "count") (Obj (Int (pos m)))) (sym len) count) r
        (each_shows k (suc r) t item size n place xs is ls)

    each_shows : (k room : ℕ) (t : CType) (item : DictId) (size n place : ℕ) (xs : List Showing) (is : List Thing) → EachLaid Op prints s aim.first d space defs k room t item size n place xs is
        → EachShows Op prints s ds digits holds aim (need k) d item space size room place is
    each_shows _ _ _ _ _ _ _ _ _ (none k room t item size place) = tt
    each_shows _ _ _ _ _ _ _ _ _ (unseen k t item size n place xs is many) = unseen_shows Op prints s ds digits holds aim (need k) d item space size place is
    each_shows _ _ _ _ _ _ _ _ _ (more k r t item size n place xs ys i is l ls) = (
      laid_shows k r t item place xs i l,
      laid_fewer Op prints s aim.first d space defs k r t item place xs i l,
      each_shows k (i.room (suc r)) t item size n ((size + place) % 2 ^ 32) ys is ls,
    )

    members_show : (k room : ℕ) (ms : List Member) (members : ArrayId) (e : Bool) (count i place : ℕ) (xs : List Showing) (is : List Thing) → MembersLaid Op prints s aim.first d space defs k room ms members i place xs is
        → EachMember Op prints s ds digits holds aim (need k) d space members e count place room i is
    members_show _ _ _ _ e count _ _ _ _ (no_member k room members i place) = tt
    members_show _ _ _ _ e count _ _ _ _ (unseen_members k m ms members i place xs is many) = unseen_member Op prints s ds digits holds aim (need k) d space members e count place i is
    members_show _ _ _ _ e count _ _ _ _ (a_member k r m ms members i place offset type xs ys thing is at l ls) = (
      (offset, type, at, laid_shows k r m.ctype type ((place + offset) % 2 ^ 32) xs thing l),
      laid_fewer Op prints s aim.first d space defs k r m.ctype type ((place + offset) % 2 ^ 32) xs thing l,
      members_show k (thing.room (suc r)) ms members e count (suc i) place ys is ls,
    )

-- ---- the text of the C type

-- What a page becomes by a thing, where there is so much room: its text, its room, and, where room is left behind it, the leaves of what follows.
pub record Puts (r : ℕ) (put : Page → Page) (i : Thing) (xs : List Showing) : Type 0 where
  pub text : (page : Page) (more : List Showing) → page.rest ≡ xs ++ more → page.room ≡ suc r → (put page).text ≡ page.text ++ i.text (suc r)
  pub room : (page : Page) (more : List Showing) → page.rest ≡ xs ++ more → page.room ≡ suc r → (put page).room ≡ i.room (suc r)
  pub rest : (page : Page) (more : List Showing) → page.rest ≡ xs ++ more → page.room ≡ suc r → 0 < i.room (suc r) → (put page).rest ≡ more

int_puts : (r v : ℕ) → Puts r (put_scalar IntType) (int_thing v) (Told (held.Number v) ∷ [])
int_puts r v = record {
  text = λ page more e f. ap (λ (l : List Showing). (put_scalar IntType (record page { rest = l })).text) e;
  room = λ page more e f. ap (λ n. n - 1) f ∙ omega arith;
  rest = λ page more e f g. ap (drop 1) e;
}

unsigned_puts : (r v : ℕ) → Puts r (put_scalar Unsigned) (unsigned_thing v) (Told (held.Number v) ∷ [])
unsigned_puts r v = record {
  text = λ page more e f. ap (λ (l : List Showing). (put_scalar Unsigned (record page { rest = l })).text) e;
  room = λ page more e f. ap (λ n. n - 1) f ∙ omega arith;
  rest = λ page more e f g. ap (drop 1) e;
}

-- one thing after another
pub record PutsAll (puts : List (Page → Page)) (before : List ℕ) (is : List Thing) (xs : List Showing) (page : Page) (more : List Showing) : Type 0 where
  pub text : (put_items before puts page).text ≡ page.text ++ items_text before is page.room
  pub room : (put_items before puts page).room ≡ items_left is page.room
  pub rest : 0 < items_left is page.room → (put_items before puts page).rest ≡ more

abbrev AllPut : ℕ → List (Page → Page) → List Thing → List Showing → Type 0
AllPut room puts is xs = (before : List ℕ) (page : Page) (left : List Showing) → page.room ≡ room → (0 < room → page.rest ≡ xs ++ left) → PutsAll puts before is xs page left

none_put : (room : ℕ) → AllPut room [] [] []
none_put room before page left f e = record { text = sym (append-nil page.text); room = refl; rest = λ h. e (subst (λ n. 0 < n) f h) }

module _ (put : Page → Page) (puts : List (Page → Page)) where
  abbrev cut_page : List ℕ → Page → Page
  cut_page before page = with_text (with_text page before) (codes "...")

  abbrev next_page : List ℕ → Page → Page
  next_page before page = put_items (codes ", ") puts (put (with_text page before))

  -- nothing is looked at where no room is left
  unseen_put : (is : List Thing) (xs : List Showing) (n : ℕ) → length is ≡ suc n → AllPut 0 (put ∷ puts) is xs
  unseen_put [] xs n many before page left f e = absurd cc
  unseen_put (i ∷ is) xs n many before page left f e =
      let cut : (page.room == 0) ≡ true = ap (λ n. n == 0) f in
      record {
        text = ap (λ c. (if c then cut_page before page else next_page before page).text) cut ∙ append_assoc page.text before (codes "...")
            ∙ ap (λ n. page.text ++ items_text before (i ∷ is) n) (sym f);
        room = ap (λ c. (if c then cut_page before page else next_page before page).room) cut ∙ f ∙ ap (items_left (i ∷ is)) (sym f);
        rest = λ h. absurd (let z : items_left (i ∷ is) page.room ≡ 0 = ap (items_left (i ∷ is)) f in omega arith);
      }

  more_put : (r : ℕ) (i : Thing) (is : List Thing) (xs ys : List Showing) → Puts r put i xs → AllPut (i.room (suc r)) puts is ys → AllPut (suc r) (put ∷ puts) (i ∷ is) (xs ++ ys)
  more_put r i is xs ys first others before page left f e =
      let some : (page.room == 0) ≡ false = ne_eqb page.room 0 (λ z. omega (arith, f)) in
      let here : (with_text page before).rest ≡ xs ++ (ys ++ left) = e (omega arith) ∙ append_assoc xs ys left in
      let after : Page = put (with_text page before) in
      let text : after.text ≡ (page.text ++ before) ++ i.text (suc r) = first.text (with_text page before) (ys ++ left) here f in
      let room : after.room ≡ i.room (suc r) = first.room (with_text page before) (ys ++ left) here f in
      let rest : PutsAll puts (codes ", ") is ys after left = others (codes ", ") after left room (λ h. first.rest (with_text page before) (ys ++ left) here f h) in
      record {
        text = ap (λ c. (if c then cut_page before page else next_page before page).text) some ∙ rest.text
            ∙ ap (λ n. after.text ++ items_text (codes ", ") is n) room
            ∙ ap (λ x. x ++ items_text (codes ", ") is (i.room (suc r))) (text ∙ append_assoc page.text before (i.text (suc r)))
            ∙ append_assoc page.text (before ++ i.text (suc r)) (items_text (codes ", ") is (i.room (suc r)))
            ∙ ap (λ n. page.text ++ items_text before (i ∷ is) n) (sym f);
        room = ap (λ c. (if c then cut_page before page else next_page before page).room) some ∙ rest.room ∙ ap (items_left is) room ∙ ap (items_left (i ∷ is)) (sym f);
        rest = λ h.
            ap (λ c. (if c then cut_page before page else next_page before page).rest) some
            ∙ rest.rest (subst (λ n. 0 < n) (ap (items_left (i ∷ is)) f ∙ sym (ap (items_left is) room)) h);
      }

-- things in braces
braces_put : (r : ℕ) (puts : List (Page → Page)) (is : List Thing) (xs : List Showing) → AllPut (suc r) puts is xs → Puts r (in_braces puts) (struct_thing is) xs
braces_put r puts is xs all = record {
  text = λ page left e f.
      let p : PutsAll puts [] is xs (with_text page (codes "{")) left = all [] (with_text page (codes "{")) left f (λ h. e) in
      ap (λ x. x ++ codes "}") (p.text ∙ ap (λ n. (page.text ++ codes "{") ++ items_text [] is n) f ∙ append_assoc page.text (codes "{") (items_text [] is (suc r)))
      ∙ append_assoc page.text (codes "{" ++ items_text [] is (suc r)) (codes "}");
  room = λ page left e f.
      let p : PutsAll puts [] is xs (with_text page (codes "{")) left = all [] (with_text page (codes "{")) left f (λ h. e) in
      p.room ∙ ap (items_left is) f;
  rest = λ page left e f h.
      let p : PutsAll puts [] is xs (with_text page (codes "{")) left = all [] (with_text page (codes "{")) left f (λ h. e) in
      p.rest (subst (λ n. 0 < n) (ap (items_left is) (sym f)) h);
}

array_puts : (r : ℕ) (put : Page → Page) (t : CType) (is : List Thing) (xs : List Showing) → is_char (Some t) ≡ false → AllPut (suc r) (replicate (length is) put) is xs → Puts r (put_array t (length is) put) (array_thing is) xs
array_puts r put t is xs c all =
    let inner : Puts r (in_braces (replicate (length is) put)) (struct_thing is) xs = braces_put r (replicate (length is) put) is xs all in
    record {
      text = λ page left e f. ap (λ b. (if b then put_string (length is) page else in_braces (replicate (length is) put) page).text) c ∙ inner.text page left e f;
      room = λ page left e f. ap (λ b. (if b then put_string (length is) page else in_braces (replicate (length is) put) page).room) c ∙ inner.room page left e f;
      rest = λ page left e f h. ap (λ b. (if b then put_string (length is) page else in_braces (replicate (length is) put) page).rest) c ∙ inner.rest page left e f h;
    }

char_puts : (r : ℕ) (x : Showing) (text : List ℕ) → text ≡ leaf_text Char x → Puts r (put_scalar Char) (char_thing text) (x ∷ [])
char_puts r x text told = record {
  text = λ page more e f. ap (λ (l : List Showing). (put_scalar Char (record page { rest = l })).text) e ∙ ap (λ t. page.text ++ t) (sym told);
  room = λ page more e f. ap (λ n. n - 1) f ∙ omega arith;
  rest = λ page more e f g. ap (drop 1) e;
}

pointer_puts : (r : ℕ) (b : Rc (Unit {0}) Global) (t : CType) (x : Showing) (tail : Tail) (text : List ℕ) → text ≡ leaf_text (Pointer' b t) x → Puts r (put_scalar (Pointer' b t)) (pointer_thing tail text) (x ∷ [])
pointer_puts r b t x tail text told = record {
  text = λ page more e f. ap (λ (l : List Showing). (put_scalar (Pointer' b t) (record page { rest = l })).text) e ∙ ap (λ u. page.text ++ u) (sym told);
  room = λ page more e f. ap (λ n. n - 1) f ∙ omega arith;
  rest = λ page more e f g. ap (drop 1) e;
}

string_puts : (r n : ℕ) (xs : List Showing) → length xs ≡ n → Puts r (put_string n) (string_thing (string_text (map byte_of xs))) xs
string_puts r n xs len = record {
  text = λ page more e f. ap (λ (l : List Showing). page.text ++ string_text (map byte_of (take n l))) e
      ∙ ap (λ (l : List Showing). page.text ++ string_text (map byte_of l)) (take_at xs more n len);
  room = λ page more e f. ap (λ n. n - 1) f ∙ omega arith;
  rest = λ page more e f g. ap (drop n) e ∙ drop_at xs more n len;
}

module _ {D : Type 0} (Op : Operates D) (prints : Printing Op) (s first : StoreState) (d : D) (space : List ℕ) (defs : List StructDef) where
  mutual
    -- the C type's text of the leaves is that of the thing
    pub laid_puts : (k r : ℕ) (t : CType) (type : DictId) (place : ℕ) (xs : List Showing) (i : Thing) → Laid Op prints s first d space defs k r t type place xs i → Puts r (put_within defs (suc k) t) i xs
    laid_puts _ _ _ _ _ _ _ (an_int k r type place v h kind known) = int_puts r v
    laid_puts _ _ _ _ _ _ _ (an_unsigned k r type place v h kind known) = unsigned_puts r v
    laid_puts _ _ _ _ _ _ _ (a_char k r type place n x kind known told) = char_puts r x (prints.char_text n) told
    laid_puts _ _ _ _ _ _ _ (a_pointer k r b t type target kind place n x text tail its to its_kind known shows told) = pointer_puts r b t x tail text told
    laid_puts _ _ _ _ _ _ _ (a_string k r b n type item kind place xs e len a to count ik lies) = string_puts r n xs len
    laid_puts _ _ _ _ _ _ _ (a_struct k r number type members e place xs is its has many l2 l3 l4 ms) =
        braces_put r (map (λ m. put_within defs (suc k) m.ctype) (members_of defs number)) is xs (members_puts k (suc r) (members_of defs number) members 0 place xs is ms)
    laid_puts _ _ _ _ _ _ _ (an_array k r b t n type item kind size place xs is c e a to count ik sized l1 l2 l3 l4 ls) =
        subst (λ m. Puts r (put_array t m (put_within defs (suc k) t)) (array_thing is) xs) (each_length Op prints s first d space defs k (suc r) t item size n place xs is ls)
        (array_puts r (put_within defs (suc k) t) t is xs c (each_puts k (suc r) t item size n place xs is ls))

    each_puts : (k room : ℕ) (t : CType) (item : DictId) (size n place : ℕ) (xs : List Showing) (is : List Thing) → EachLaid Op prints s first d space defs k room t item size n place xs is
        → AllPut room (replicate (length is) (put_within defs (suc k) t)) is xs
    each_puts _ _ _ _ _ _ _ _ _ (none k room t item size place) = none_put room
    each_puts _ _ _ _ _ _ _ _ _ (unseen k t item size n place xs is many) =
        subst (λ m. AllPut 0 (replicate m (put_within defs (suc k) t)) is xs) (sym many) (unseen_put (put_within defs (suc k) t) (replicate n (put_within defs (suc k) t)) is xs n many)
    each_puts _ _ _ _ _ _ _ _ _ (more k r t item size n place xs ys i is l ls) =
        more_put (put_within defs (suc k) t) (replicate (length is) (put_within defs (suc k) t)) r i is xs ys (laid_puts k r t item place xs i l)
        (each_puts k (i.room (suc r)) t item size n ((size + place) % 2 ^ 32) ys is ls)

    members_puts : (k room : ℕ) (ms : List Member) (members : ArrayId) (i place : ℕ) (xs : List Showing) (is : List Thing) → MembersLaid Op prints s first d space defs k room ms members i place xs is
        → AllPut room (map (λ m. put_within defs (suc k) m.ctype) ms) is xs
    members_puts _ _ _ _ _ _ _ _ (no_member k room members i place) = none_put room
    members_puts _ _ _ _ _ _ _ _ (unseen_members k m ms members i place xs is many) =
        unseen_put (put_within defs (suc k) m.ctype) (map (λ m. put_within defs (suc k) m.ctype) ms) is xs (length ms) many
    members_puts _ _ _ _ _ _ _ _ (a_member k r m ms members i place offset type xs ys thing is at l ls) =
        more_put (put_within defs (suc k) m.ctype) (map (λ m. put_within defs (suc k) m.ctype) ms) r thing is xs ys (laid_puts k r m.ctype type ((place + offset) % 2 ^ 32) xs thing l)
        (members_puts k (thing.room (suc r)) ms members (suc i) place ys is ls)

  -- so a whole value's text is what is shown of its leaves
  pub laid_shown : (t : CType) (type : DictId) (place : ℕ) (xs : List Showing) (i : Thing) → Laid Op prints s first d space defs 63 999 t type place xs i → i.text 1000 ≡ shown defs t xs
  laid_shown t type place xs i l = sym ((laid_puts 63 999 t type place xs i l).text (record { text = []; rest = xs; room = 1000 }) [] (sym (append-nil xs)) refl)
