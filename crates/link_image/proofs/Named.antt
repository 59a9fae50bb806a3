-- What is known of names behind their definitions.
use Rattle.std.proofs.Common.{◌≡◌, ℕ, suc, ◌+◌, ◌≤◌, List, [], ◌∷◌, ◌++◌, length, map, true, false, cond, Option, Some, None, bytes_eq, Bool, refl, sym, ap, ap₂, ◌∙◌, if◌then◌else◌, subst, arith}
use Rattle.std.specs.Map.{update}
use Rattle.std.proofs.lemmas.Slice.Eq.{bytes_eq-Decides}
use Rattle.machine_state.specs.declared.layout.TheConstants.{TEXT, DATA}
use Rattle.obj_file.specs.declared.object.Name.{Name}
use Rattle.obj_file.specs.declared.object.StaticDef.{StaticDef}
use Rattle.obj_file.specs.declared.object.Object.{Object}
use Rattle.obj_placed.specs.Placed.{address_of, named_at, text_names, names_of, all_statics}
use Rattle.link_image.specs.declared.addresses.Entry.{Entry}
use Rattle.link_image.specs.Linked.{room_of, next_address, anchors_from, linked_address, linked_addresses}
use Rattle.link_image.specs.Conditions.{definitions, definition_count}
use Rattle.link_image.specs.Tables.{again, seen, address_by, linked_entry, IsOnce, IsTwice}
use Rattle.link_image.proofs.Lists.{anchors_after}

-- ---- one definition more

same_name : (name t : List ℕ) (b : Bool) → b ≡ bytes_eq name t → b ≡ true → name ≡ t
same_name name t b e h = (bytes_eq-Decides name t).0 (sym e ∙ h)

pub defined_more : (f g : List ℕ → Option Entry) (name : List ℕ) (a : ℕ) (e : Entry) → Some e ≡ again (f name) a → ((t : List ℕ) → g t ≡ update bytes_eq f name (Some e) t)
    → (t : List ℕ) → g t ≡ seen (f t) ((name, a) ∷ []) t
defined_more f g name a e k h t = h t ∙ by (bytes_eq name t) (same_name name t (bytes_eq name t) refl)
  where
    by : (b : Bool) → (b ≡ true → name ≡ t) → cond b (Some e) (f t) ≡ (if b then again (f t) a else f t)
    by true n = k ∙ ap (λ m. again (f m) a) (n refl)
    by false n = refl

-- ---- definitions in two parts

seen_after : (o : Option Entry) (ns ms : List (List ℕ × ℕ)) (t : List ℕ) → seen (seen o ns t) ms t ≡ seen o (ns ++ ms) t
seen_after o [] ms t = refl
seen_after o (n ∷ ns) ms t = seen_after (if bytes_eq n.0 t then again o n.1 else o) ns ms t

pub name_step : (p q : Option Entry) (base a : ℕ) (x : Name) (name : List ℕ) (names : List Name) (t : List ℕ) → name ≡ x.name → a ≡ base + x.at → q ≡ seen p ((name, a) ∷ []) t
    → seen q (map (named_at base) names) t ≡ seen p (map (named_at base) (x ∷ names)) t
name_step p q base a x name names t n e h =
    ap (λ o. seen o (map (named_at base) names) t) h ∙ ap₂ (λ m b. seen (seen p ((m, b) ∷ []) t) (map (named_at base) names) t) n e

pub static_step : (p q : Option Entry) (at next : ℕ) (s : StaticDef) (name : List ℕ) (ss : List StaticDef) (t : List ℕ) → name ≡ s.name → q ≡ seen p ((name, at) ∷ []) t → next ≡ at + room_of s
    → seen q (anchors_from next ss) t ≡ seen p (anchors_from at (s ∷ ss)) t
static_step p q at next s name ss t n h e =
    ap₂ (λ o m. seen o (anchors_from m ss) t) h e ∙ ap (λ m. seen (seen p ((m, at) ∷ []) t) (anchors_from (at + room_of s) ss) t) n

pub texts_step : (p q : Option Entry) (base size next : ℕ) (o : Object) (names : List Name) (text : List ℕ) (os : List Object) (t : List ℕ) → names ≡ o.names → text ≡ o.text
    → q ≡ seen p (map (named_at base) names) t → size ≡ length text → next ≡ base + size
    → seen q (text_names next os) t ≡ seen p (text_names base (o ∷ os)) t
texts_step p q base size next o names text os t en et e s n =
    ap₂ (λ r m. seen r (text_names m os) t) e (n ∙ ap (λ m. base + m) (s ∙ ap length et))
    ∙ (ap (λ ns. seen (seen p (map (named_at base) ns) t) (text_names (base + length o.text) os) t) en
    ∙ seen_after p (map (named_at base) o.names) (text_names (base + length o.text) os) t)

pub statics_step : (p q : Option Entry) (at next : ℕ) (o : Object) (ss : List StaticDef) (os : List Object) (t : List ℕ) → ss ≡ o.statics
    → q ≡ seen p (anchors_from at ss) t → next ≡ next_address at ss
    → seen q (anchors_from next (all_statics os)) t ≡ seen p (anchors_from at (all_statics (o ∷ os))) t
statics_step p q at next o ss os t es e n =
    ap₂ (λ r m. seen r (anchors_from m (all_statics os)) t) e n
    ∙ (seen_after p (anchors_from at ss) (anchors_from (next_address at ss) (all_statics os)) t
    ∙ (ap (λ l. seen p l t) (sym (anchors_after at ss (all_statics os)))
    ∙ ap (λ l. seen p (anchors_from at (l ++ all_statics os)) t) es))

pub names_linked : (e f g : Option Entry) (os : List Object) (t : List ℕ) → e ≡ None → f ≡ seen e (text_names TEXT os) t → g ≡ seen f (anchors_from DATA (all_statics os)) t → g ≡ linked_entry os t
unfolding linked_entry names_of
names_linked e f g os t none texts statics =
    statics ∙ (ap (λ o. seen o (anchors_from DATA (all_statics os)) t) (texts ∙ ap (λ o. seen o (text_names TEXT os) t) none)
    ∙ seen_after None (text_names TEXT os) (anchors_from DATA (all_statics os)) t)

-- ---- the first definition gives the address

either : {A : Type 0} (P : A → Type 0) (b : Bool) (x y : A) → P x → P y → P (if b then x else y)
either P true x y p q = p
either P false x y p q = q

first_kept : (e : Entry) (ns : List (List ℕ × ℕ)) (t : List ℕ) → address_by (seen (Some e) ns t) ≡ Some e.address
first_kept e [] t = refl
first_kept e (n ∷ ns) t =
    either (λ o. address_by (seen o ns t) ≡ Some e.address) (bytes_eq n.0 t) (again (Some e) n.1) (Some e) (first_kept (record { address = e.address; doubled = true }) ns t) (first_kept e ns t)

address_seen : (ns : List (List ℕ × ℕ)) (t : List ℕ) → address_by (seen None ns t) ≡ address_of ns t
address_seen [] t = refl
address_seen (n ∷ ns) t = by (bytes_eq n.0 t) (first_kept (record { address = n.1; doubled = false }) ns t) (address_seen ns t)
  where
    by : (b : Bool) → address_by (seen (again None n.1) ns t) ≡ Some n.1 → address_by (seen None ns t) ≡ address_of ns t
        → address_by (seen (if b then again None n.1 else None) ns t) ≡ cond b (Some n.1) (address_of ns t)
    by true h k = h
    by false h k = k

pub same_address : (f : List ℕ → Option Entry) (os : List Object) → ((t : List ℕ) → f t ≡ linked_entry os t) → (t : List ℕ) → address_by (f t) ≡ linked_address os t
unfolding linked_entry linked_address
same_address f os h t = ap address_by (h t) ∙ address_seen (names_of os (linked_addresses os)) t

-- ---- how often a name is defined

abbrev IsCountBy : Bool → ℕ → Type 0
IsCountBy true n = 2 ≤ n
IsCountBy false n = n ≡ 1

abbrev IsCount : Option Entry → ℕ → Type 0
IsCount None n = n ≡ 0
IsCount (Some e) n = IsCountBy e.doubled n

count_again : (o : Option Entry) (n a : ℕ) → IsCount o n → IsCount (again o a) (n + 1)
count_again None n a h = omega (arith, h)
count_again (Some e) n a h = more e.doubled h
  where
    more : (b : Bool) → IsCountBy b n → 2 ≤ n + 1
    more true k = omega (arith, k)
    more false k = omega (arith, k)

counted : (o : Option Entry) (n : ℕ) (ns : List (List ℕ × ℕ)) (t : List ℕ) → IsCount o n → IsCount (seen o ns t) (n + definitions ns t)
counted o n [] t h = subst (IsCount o) (let e : n ≡ n + 0 = omega arith in e) h
counted o n (x ∷ ns) t h = by (bytes_eq x.0 t) (counted (again o x.1) (n + 1) ns t (count_again o n x.1 h)) (counted o n ns t h)
  where
    by : (b : Bool) → IsCount (seen (again o x.1) ns t) (n + 1 + definitions ns t) → IsCount (seen o ns t) (n + definitions ns t)
        → IsCount (seen (if b then again o x.1 else o) ns t) (n + ((if b then 1 else 0) + definitions ns t))
    by true p q = subst (IsCount (seen (again o x.1) ns t)) (let e : n + 1 + definitions ns t ≡ n + (1 + definitions ns t) = omega arith in e) p
    by false p q = subst (IsCount (seen o ns t)) (let e : n + definitions ns t ≡ n + (0 + definitions ns t) = omega arith in e) q

count_is : (os : List Object) (t : List ℕ) → IsCount (linked_entry os t) (definition_count os t)
unfolding linked_entry
count_is os t = subst (IsCount (seen None (names_of os (linked_addresses os)) t)) (let e : 0 + definition_count os t ≡ definition_count os t = omega arith in e) (counted None 0 (names_of os (linked_addresses os)) t refl)

none_count : (n : ℕ) (o : Option Entry) → IsCount o n → o ≡ None → n ≡ 0
none_count n o c e = subst (λ (p : Option Entry). IsCount p n) e c

once_count : (n : ℕ) (o : Option Entry) → IsCount o n → IsOnce o → n ≡ 1
once_count n None c h = absurd h
once_count n (Some e) c h = subst (λ (b : Bool). IsCountBy b n) h c

twice_count : (n : ℕ) (o : Option Entry) → IsCount o n → IsTwice o → 2 ≤ n
twice_count n None c h = absurd h
twice_count n (Some e) c h = subst (λ (b : Bool). IsCountBy b n) h c

module _ (f : List ℕ → Option Entry) (os : List Object) (same : (t : List ℕ) → f t ≡ linked_entry os t) (t : List ℕ) where
  pub not_defined : f t ≡ None → definition_count os t ≡ 0
  not_defined e = none_count (definition_count os t) (linked_entry os t) (count_is os t) (sym (same t) ∙ e)

  pub defined_once : IsOnce (f t) → definition_count os t ≡ 1
  defined_once h = once_count (definition_count os t) (linked_entry os t) (count_is os t) (subst IsOnce (same t) h)

  pub defined_twice : IsTwice (f t) → 2 ≤ definition_count os t
  defined_twice h = twice_count (definition_count os t) (linked_entry os t) (count_is os t) (subst IsTwice (same t) h)
