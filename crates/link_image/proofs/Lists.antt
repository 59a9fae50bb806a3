-- Static objects in two parts, and texts and static objects behind one another.
use Rattle.std.proofs.Common.{◌≡◌, ℕ, suc, ◌+◌, ◌-◌, ◌<◌, List, [], ◌∷◌, ◌++◌, length, map, take, drop, get_or, true, false, cond, Option, Some, None, bytes_eq, IsSome, Bool, refl, sym, ap, ap₂, ◌∙◌, if◌then◌else◌, append_assoc, append-nil, length-append, drop-drop, drop_of_length-le, subst, ◌≤◌, arith}
use Rattle.std.specs.List.{AllByRecursion}
use Rattle.std.proofs.Math.Seq.{drop-cons}
use Rattle.std.proofs.lemmas.List.{length-replicate}
use Rattle.machine_state.specs.Regions.{or_else, zeros}
use Rattle.machine_state.specs.declared.layout.TheConstants.{TEXT, DATA}
use Rattle.obj_file.specs.declared.object.Name.{Name}
use Rattle.obj_file.specs.declared.object.StaticDef.{StaticDef}
use Rattle.obj_file.specs.declared.object.Object.{Object}
use Rattle.obj_file.specs.declared.object.Use.{Use}
use Rattle.obj_placed.specs.Placed.{all_statics, joined, cut, placed_statics, placed_texts, placed_text, placed_bytes}
use Rattle.obj_placed.specs.Patched.{patched, patched_by, stands_in}
use Rattle.link_image.specs.Linked.{room_of, addresses_from, next_address, anchors_from, linked_address, linked_addresses, linked_text, linked_statics, data_from}

-- ---- static objects

pub next_after : (at : ℕ) (ss ts : List StaticDef) → next_address at (ss ++ ts) ≡ next_address (next_address at ss) ts
next_after at [] ts = refl
next_after at (s ∷ ss) ts = next_after (at + room_of s) ss ts

pub addresses_after : (at : ℕ) (ss ts : List StaticDef) → addresses_from at (ss ++ ts) ≡ addresses_from at ss ++ addresses_from (next_address at ss) ts
addresses_after at [] ts = refl
addresses_after at (s ∷ ss) ts = ap (λ rest. at ∷ rest) (addresses_after (at + room_of s) ss ts)

pub anchors_after : (at : ℕ) (ss ts : List StaticDef) → anchors_from at (ss ++ ts) ≡ anchors_from at ss ++ anchors_from (next_address at ss) ts
anchors_after at [] ts = refl
anchors_after at (s ∷ ss) ts = ap (λ rest. (s.name, at) ∷ rest) (anchors_after (at + room_of s) ss ts)

pub zeros_length : (n : ℕ) → length (zeros n) ≡ n
unfolding zeros
zeros_length n = length-replicate n 0

length_with : (bytes p : List ℕ) (n : ℕ) → length (bytes ++ zeros n ++ p) ≡ length bytes + n + length p
length_with bytes p n = grind (arith, length-append, zeros_length)

-- one more static object
pub data_more : (bytes p : List ℕ) (a : ℕ) (xs : List ℕ) (ps : List (List ℕ))
    → (bytes ++ zeros (a - DATA - length bytes) ++ p) ++ data_from (length (bytes ++ zeros (a - DATA - length bytes) ++ p)) xs ps ≡ bytes ++ data_from (length bytes) (a ∷ xs) (p ∷ ps)
data_more bytes p a xs ps =
    ap (λ n. (bytes ++ zeros (a - DATA - length bytes) ++ p) ++ data_from n xs ps) (length_with bytes p (a - DATA - length bytes))
    ∙ (append_assoc (bytes ++ zeros (a - DATA - length bytes)) p _
    ∙ (append_assoc bytes (zeros (a - DATA - length bytes)) _ ∙ ap (λ l. bytes ++ l) (sym (append_assoc (zeros (a - DATA - length bytes)) p _))))

-- data in two parts
data_after : (bytes : List ℕ) (at : ℕ) (ss : List StaticDef) (joined : List ℕ) (ys : List ℕ) (qs : List (List ℕ))
    → (bytes ++ data_from (length bytes) (addresses_from at ss) (cut ss joined)) ++ data_from (length (bytes ++ data_from (length bytes) (addresses_from at ss) (cut ss joined))) ys qs
    ≡ bytes ++ data_from (length bytes) (addresses_from at ss ++ ys) (cut ss joined ++ qs)
data_after bytes at [] joined ys qs = ap (λ l. l ++ data_from (length l) ys qs) (append-nil bytes)
data_after bytes at (s ∷ ss) joined ys qs =
    let p : List ℕ = take (length s.bytes) joined in
    let more : List ℕ = bytes ++ zeros (at - DATA - length bytes) ++ p in
    ap (λ l. l ++ data_from (length l) ys qs) (sym (data_more bytes p at (addresses_from (at + room_of s) ss) (cut ss (drop (length s.bytes) joined))))
    ∙ (data_after more (at + room_of s) ss (drop (length s.bytes) joined) ys qs
    ∙ data_more bytes p at (addresses_from (at + room_of s) ss ++ ys) (cut ss (drop (length s.bytes) joined) ++ qs))

-- ---- equal tables of addresses

module _ (f g : List ℕ → Option ℕ) (same : (t : List ℕ) → f t ≡ g t) where
  patched_same : (target base : ℕ) (in_text : _) (us : List Use) (bytes : List ℕ) → patched target base f in_text us bytes ≡ patched target base g in_text us bytes
  patched_same target base in_text [] bytes = refl
  patched_same target base in_text (u ∷ us) bytes =
      patched_same target base in_text us (if stands_in in_text u then patched_by target base (f u.name) u bytes else bytes)
      ∙ ap (λ o. patched target base g in_text us (if stands_in in_text u then patched_by target base o u bytes else bytes)) (same u.name)

  pub texts_same : (base : ℕ) (os : List Object) → placed_texts f base os ≡ placed_texts g base os
  unfolding placed_text
  texts_same base [] = refl
  texts_same base (o ∷ os) = ap₂ (λ l m. l ++ m) (patched_same o.target base true o.uses o.text) (texts_same (base + length o.text) os)

  pub statics_same : (os : List Object) → placed_statics f os ≡ placed_statics g os
  unfolding placed_bytes
  statics_same [] = refl
  statics_same (o ∷ os) = ap₂ (λ l m. cut o.statics l ++ m) (patched_same o.target 0 false o.uses (joined o.statics)) (statics_same os)

-- ---- steps of loops

-- the list from an item on
pub item_of : {T : Type 0} (xs : List T) (i : ℕ) (x : T) → i < length xs → x ≡ get_or xs i x → drop i xs ≡ x ∷ drop (i + 1) xs
item_of xs i x h e = drop-cons xs i x h ∙ (ap (λ y. y ∷ drop (suc i) xs) (sym e) ∙ ap (λ j. x ∷ drop j xs) (let f : suc i ≡ i + 1 = omega arith in f))

pub anchors_step : (before after : List (List ℕ × ℕ)) (at next : ℕ) (o : Object) (ss : List StaticDef) (os : List Object) → ss ≡ o.statics
    → after ≡ before ++ anchors_from at ss → next ≡ next_address at ss
    → after ++ anchors_from next (all_statics os) ≡ before ++ anchors_from at (all_statics (o ∷ os))
anchors_step before after at next o ss os es e n =
    ap₂ (λ l m. l ++ anchors_from m (all_statics os)) e n
    ∙ (append_assoc before _ _ ∙ (ap (λ l. before ++ l) (sym (anchors_after at ss (all_statics os))) ∙ ap (λ l. before ++ anchors_from at (l ++ all_statics os)) es))

pub text_step : (f : List ℕ → Option ℕ) (before after placed : List ℕ) (base size next : ℕ) (o : Object) (text : List ℕ) (os : List Object) → text ≡ o.text
    → after ≡ before ++ placed → placed ≡ placed_text f base o → size ≡ length text → next ≡ base + size
    → after ++ placed_texts f next os ≡ before ++ placed_texts f base (o ∷ os)
text_step f before after placed base size next o text os t e p s n =
    ap₂ (λ l m. l ++ placed_texts f m os) (e ∙ ap (λ l. before ++ l) p) (n ∙ ap (λ m. base + m) (s ∙ ap length t)) ∙ append_assoc before _ _

pub data_step : (f : List ℕ → Option ℕ) (before after : List ℕ) (at next : ℕ) (o : Object) (ss : List StaticDef) (bytes : List ℕ) (os : List Object) → ss ≡ o.statics → bytes ≡ placed_bytes f o
    → after ≡ before ++ data_from (length before) (addresses_from at ss) (cut ss bytes) → next ≡ next_address at ss
    → after ++ data_from (length after) (addresses_from next (all_statics os)) (placed_statics f os)
    ≡ before ++ data_from (length before) (addresses_from at (all_statics (o ∷ os))) (placed_statics f (o ∷ os))
data_step f before after at next o ss bytes os es eb e n =
    ap₂ (λ l m. l ++ data_from (length l) (addresses_from m (all_statics os)) (placed_statics f os)) e n
    ∙ (data_after before at ss bytes _ _
    ∙ (ap (λ l. before ++ data_from (length before) l (cut ss bytes ++ placed_statics f os)) (sym (addresses_after at ss (all_statics os)))
    ∙ ap₂ (λ l b. before ++ data_from (length before) (addresses_from at (l ++ all_statics os)) (cut l b ++ placed_statics f os)) es eb))

-- ---- the image

pub text_linked : (f : List ℕ → Option ℕ) (os : List Object) (text whole : List ℕ) → ((t : List ℕ) → f t ≡ linked_address os t) → text ≡ placed_texts f TEXT os → whole ≡ text → whole ≡ linked_text os
unfolding linked_text
text_linked f os text whole same e w = w ∙ (e ∙ texts_same f (linked_address os) same TEXT os)

pub statics_linked : (f : List ℕ → Option ℕ) (os : List Object) (statics whole : List ℕ) → ((t : List ℕ) → f t ≡ linked_address os t)
    → statics ≡ data_from 0 (linked_addresses os) (placed_statics f os) → whole ≡ statics → whole ≡ linked_statics os
unfolding linked_statics
statics_linked f os statics whole same e w = w ∙ (e ∙ ap (λ ps. data_from 0 (linked_addresses os) ps) (statics_same f (linked_address os) same os))

-- ---- static objects one after another

pub row_step : (before after bytes : List ℕ) (at next from end : ℕ) (s : StaticDef) (ss : List StaticDef)
    → after ≡ before ++ zeros (at - DATA - length before) ++ take (end - from) (drop from bytes) → end ≡ from + length s.bytes → next ≡ at + room_of s
    → after ++ data_from (length after) (addresses_from next ss) (cut ss (drop end bytes))
    ≡ before ++ data_from (length before) (addresses_from at (s ∷ ss)) (cut (s ∷ ss) (drop from bytes))
row_step before after bytes at next from end s ss e f n =
    let size : end - from ≡ length s.bytes = omega (arith, f) in
    let last : drop end bytes ≡ drop (length s.bytes) (drop from bytes) = ap (λ m. drop m bytes) f ∙ sym (drop-drop (length s.bytes) from bytes) in
    let whole : after ≡ before ++ zeros (at - DATA - length before) ++ take (length s.bytes) (drop from bytes) = e ∙ ap (λ m. before ++ zeros (at - DATA - length before) ++ take m (drop from bytes)) size in
    ap₂ (λ l m. l ++ data_from (length l) (addresses_from m ss) (cut ss (drop end bytes))) whole n
    ∙ (ap (λ rest. (before ++ zeros (at - DATA - length before) ++ take (length s.bytes) (drop from bytes)) ++ data_from (length (before ++ zeros (at - DATA - length before) ++ take (length s.bytes) (drop from bytes))) (addresses_from (at + room_of s) ss) (cut ss rest)) last
    ∙ data_more before (take (length s.bytes) (drop from bytes)) at (addresses_from (at + room_of s) ss) (cut ss (drop (length s.bytes) (drop from bytes))))

-- ---- what holds of each item

pub all_from : {T : Type 0} (P : T → Type 0) (xs : List T) (i : ℕ) (x : T) → i < length xs → x ≡ get_or xs i x → P x → AllByRecursion P (drop (i + 1) xs) → AllByRecursion P (drop i xs)
all_from P xs i x h e p rest = subst (λ l. AllByRecursion P l) (sym (item_of xs i x h e)) (p, rest)

pub all_left : {T : Type 0} (P : T → Type 0) (xs : List T) (i : ℕ) → length xs ≤ i → AllByRecursion P (drop i xs)
all_left P xs i h = subst (λ l. AllByRecursion P l) (sym (drop_of_length-le xs h)) tt
