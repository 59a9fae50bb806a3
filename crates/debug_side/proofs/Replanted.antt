-- Words of a step in the text: what they come to is a function of the text, so put back and put again they are the same.
use Rattle.std.proofs.Common.{◌≡◌, ◌∙◌, refl, sym, ap, subst, ℕ, ◌%◌, ◌<◌, ◌&&◌, nat_eq, nat_lt, Bool, true, false, List, [], ◌∷◌, length, map, Option, Some, None, option_map, arith}
use Rattle.std.specs.List.{list_all}
use Rattle.std.proofs.lemmas.Bool.Decides.{nat_tests}
use Rattle.ldb_words.specs.declared.kinds.Order.{Order}
use Rattle.ldb_words.specs.declared.kinds.Kind.TheVariants.{Word}
use Rattle.machine_state.specs.declared.layout.TheConstants.{TEXT, DATA, STACK, CONTEXT}
use Rattle.machine_state.specs.Regions.{Regions, read_of, write_of, overwritten, or_outside, bytes_from, offset_in, number_of, bytes_of}
use Rattle.machine_state.specs.Sound.{IsMemory}
use Rattle.frame_bytes.specs.declared.frame.Space.TheVariants.{Memory}
use Rattle.frame_bytes.specs.Bytes.{Bytes, stored, or_none}
use Rattle.break_plant.specs.Planted.{noop_of, break_of, word_at}
use Rattle.table_points.specs.declared.row.Point.{Point}
use Rattle.debug_side.specs.Meant.{address_of, stands_in_text}
use Rattle.debug_side.specs.Wrote.{word_put, words_put}
use Rattle.debug_side.specs.Planting.{PutsWords, at_none, is_put, is_passed}
use Rattle.abs_mem.proofs.Wires.{put_back}
use Rattle.debug_side.proofs.Putting.{stored_word, left_of}
use Rattle.debug_side.proofs.Places.{Text, Statics, Stack, Context, Place, place_of, first_of, there, with_word, bytes_at, put_is, read_is, overlaid_is, four_long}
use Rattle.debug_side.proofs.Undoing.{read_word, Wrote, wrote_of, not_some, all_undone, read_some}

-- ---- a word of the text

below_none : (base size at : ℕ) → at < base → offset_in base size at 4 ≡ None
below_none base size at h = grind (arith, nat_tests)

alone : (x : Option Place) (a b c : Option ℕ) → a ≡ None → b ≡ None → c ≡ None → first_of x (first_of (there Statics a) (first_of (there Stack b) (there Context c))) ≡ x
alone (Some p) a b c e f g = refl
alone None a b c e f g = rw (e, f, g) refl

place_is_text : (r : Regions) (at : ℕ) → at < DATA → place_of r at ≡ there Text (offset_in TEXT (length r.text_bytes) at 4)
unfolding place_of
place_is_text r at h =
    let s : at < STACK = omega (arith, h) in
    let c : at < CONTEXT = omega (arith, h) in
    alone (there Text (offset_in TEXT (length r.text_bytes) at 4)) (offset_in DATA (length r.data_bytes) at 4) (offset_in STACK (length r.stack_bytes) at 4) (offset_in CONTEXT (length r.context_bytes) at 4)
    (below_none DATA (length r.data_bytes) at h) (below_none STACK (length r.stack_bytes) at s) (below_none CONTEXT (length r.context_bytes) at c)

-- the text with a word put, and the word that is read of a text
abbrev over_at : Order → (w : ℕ) → Option ℕ → List ℕ → List ℕ
over_at o w None xs = xs
over_at o w (Some n) xs = overwritten xs n (bytes_of o 4 w)

abbrev text_over : Order → (w at : ℕ) → List ℕ → List ℕ
text_over o w at xs = over_at o w (offset_in TEXT (length xs) at 4) xs

abbrev text_word : Order → (at : ℕ) → List ℕ → Option ℕ
text_word o at xs = or_none (or_outside at 4 (option_map (number_of o 4) (bytes_from xs (offset_in TEXT (length xs) at 4))))

there_put : (o : Order) (w : ℕ) (r : Regions) (n : Option ℕ) → with_word (there Text n) (bytes_of o 4 w) r ≡ record r { text_bytes = over_at o w n r.text_bytes }
there_put o w r None = refl
there_put o w r (Some n) = refl

there_read : (r : Regions) (n : Option ℕ) → bytes_at (there Text n) r ≡ bytes_from r.text_bytes n
there_read r None = refl
there_read r (Some n) = refl

text_put : (o : Order) (w at : ℕ) (r : Regions) → nat_eq (at % 4) 0 ≡ true → at < DATA → word_put o w at r ≡ record r { text_bytes = text_over o w at r.text_bytes }
text_put o w at r e h =
    put_is o w at r e
    ∙ (ap (λ (p : Option Place). with_word p (bytes_of o 4 w) r) (place_is_text r at h) ∙ there_put o w r (offset_in TEXT (length r.text_bytes) at 4))

text_read : (o : Order) (at : ℕ) (r : Regions) → at < DATA → or_none (read_of o r at 4) ≡ text_word o at r.text_bytes
text_read o at r h =
    read_is o at r
    ∙ ap (λ (x : Option (List ℕ)). or_none (or_outside at 4 (option_map (number_of o 4) x)))
    (ap (λ (p : Option Place). bytes_at p r) (place_is_text r at h) ∙ there_read r (offset_in TEXT (length r.text_bytes) at 4))

-- ---- points in the text

abbrev pub AreInText : List Point → Type 0
AreInText [] = Unit {0}
AreInText (p ∷ ps) = (nat_eq (p.at % 4) 0 ≡ true) × (p.at < DATA) × AreInText ps

and_both : (a b : Bool) → (a && b) ≡ true → (a ≡ true) × (b ≡ true)
and_both true true e = (refl, refl)
and_both true false e = cc
and_both false b e = cc

less : (n m : ℕ) → nat_lt n m ≡ true → n < m
less n m e = grind (arith, nat_tests)

pub in_text : (ps : List Point) → list_all stands_in_text ps ≡ true → AreInText ps
in_text [] e = tt
in_text (p ∷ ps) e =
    let h = and_both (stands_in_text p) (list_all stands_in_text ps) e in
    let k = and_both (nat_eq (p.at % 4) 0) (nat_lt p.at DATA) h.0 in
    (k.0, less p.at DATA k.1, in_text ps h.1)

kept_in_text : (target : ℕ) (b d : Bytes) (ps kept : List Point) → AreInText ps → PutsWords target b ps kept d → AreInText kept
kept_in_text target b d ps kept h at_none = tt
kept_in_text target b d ps kept h (is_passed {ps = qs} p w there differs rest) = kept_in_text target b d qs kept h.2 rest
kept_in_text target b d ps kept h (is_put {c = c} {ps = qs} {kept = ks} p was put rest) = (h.0, h.1, kept_in_text target c d qs ks h.2 rest)

abbrev texts_over : Order → (w : ℕ) → List Point → List ℕ → List ℕ
texts_over o w [] xs = xs
texts_over o w (p ∷ ps) xs = texts_over o w ps (text_over o w p.at xs)

texts_put : (o : Order) (w : ℕ) (ps : List Point) (r : Regions) → AreInText ps → words_put o w (map address_of ps) r ≡ record r { text_bytes = texts_over o w ps r.text_bytes }
texts_put o w [] r h = refl
texts_put o w (p ∷ ps) r h =
    ap (words_put o w (map address_of ps)) (text_put o w p.at r h.0 h.1) ∙ texts_put o w ps (record r { text_bytes = text_over o w p.at r.text_bytes }) h.2

-- ---- over another memory with the same text

pub record Again (target : ℕ) (y : Bytes) (ps kept : List Point) (text : List ℕ) : Type 0 where
  pub after : Bytes
  pub puts : PutsWords target y ps kept after
  pub is : after ≡ record y { regions = record y.regions { text_bytes = text } }

same_read : (x y : Bytes) (at : ℕ) → at < DATA → y.order ≡ x.order → y.regions.text_bytes ≡ x.regions.text_bytes → word_at y at ≡ word_at x at
same_read x y at h o t =
    read_word y at
    ∙ (text_read y.order at y.regions h
    ∙ (ap (λ (z : Order). text_word z at y.regions.text_bytes) o
    ∙ (ap (text_word x.order at) t ∙ (sym (text_read x.order at x.regions h) ∙ sym (read_word x at)))))

-- what can be read can be stored
data Stores (b : Bytes) (at w : ℕ) : Type 0 where
  stores_to : (c : Bytes) → stored b Memory at Word w ≡ Some c → Stores b at w

test_some : {A : Type 0} (at : ℕ) (y : A) → nat_eq (at % 4) 0 ≡ true → or_none (or_outside at 4 (Some y)) ≡ Some y
test_some at y e = rw e refl

can_by : (o : Order) (w at x : ℕ) (r : Regions) → nat_eq (at % 4) 0 ≡ true → (p : Option Place) → place_of r at ≡ p → option_map (number_of o 4) (bytes_at p r) ≡ Some x → (r' : Regions) × (or_none (write_of o r at 4 w) ≡ Some r')
unfolding write_of
can_by o w at x r e None g h = absurd (not_some h)
can_by o w at x r e (Some p) g h = (
  with_word (Some p) (bytes_of o 4 w) r,
  ap (λ (z : Option Regions). or_none (or_outside at 4 z)) (overlaid_is r at (bytes_of o 4 w) (four_long o w) ∙ ap (option_map (λ (q : Place). with_word (Some q) (bytes_of o 4 w) r)) g)
      ∙ test_some at (with_word (Some p) (bytes_of o 4 w) r) e,
)

stores_by : (b : Bytes) (at w v : ℕ) → word_at b at ≡ Some v → Stores b at w
stores_by b at w v h =
    let k = read_some b.order at v b.regions (sym (read_word b at) ∙ h) in
    let c = can_by b.order w at v b.regions k.0 (place_of b.regions at) refl k.1 in
    stores_to (record b { regions = c.0 }) (stored_word b at w ∙ ap (put_back b) c.1)

text_after : (b c : Bytes) (at w : ℕ) → nat_eq (at % 4) 0 ≡ true → at < DATA → Wrote b at w c → c.regions ≡ record b.regions { text_bytes = text_over b.order w at b.regions.text_bytes }
text_after b c at w e h k = k.regions ∙ text_put b.order w at b.regions e h

-- one word more
again_put : (target : ℕ) (x y c c' : Bytes) (p : Point) (ps kept : List Point) (text : List ℕ) → nat_eq (p.at % 4) 0 ≡ true → p.at < DATA → word_at y p.at ≡ Some (noop_of target) → stored y Memory p.at Word (break_of target) ≡ Some c'
    → Again target c' ps kept text → c' ≡ record y { regions = record y.regions { text_bytes = c'.regions.text_bytes } } → Again target y (p ∷ ps) (p ∷ kept) text
again_put target x y c c' p ps kept text e h was put a same = record {
  after = a.after;
  puts = is_put p was put a.puts;
  is = a.is ∙ ap (λ (z : Bytes). record z { regions = record z.regions { text_bytes = text } }) same;
}

whole_after : (b c : Bytes) (at w : ℕ) → nat_eq (at % 4) 0 ≡ true → at < DATA → stored b Memory at Word w ≡ Some c → c ≡ record b { regions = record b.regions { text_bytes = c.regions.text_bytes } }
whole_after b c at w e h put =
    let l = left_of b c at w put in
    let k = wrote_of b c at w put in
    let t = text_after b c at w e h k in
    let regions : c.regions ≡ record b.regions { text_bytes = c.regions.text_bytes } =
    t ∙ ap (λ (xs : List ℕ). record b.regions { text_bytes = xs }) (sym (ap (λ (r : Regions). r.text_bytes) t)) in
    let same : l.regions ≡ c.regions = sym (ap (λ (z : Bytes). z.regions) l.is) in
    l.is ∙ ap (λ (r : Regions). record b { regions = r }) (same ∙ regions)

same_text : (x y c c' : Bytes) (at w : ℕ) → nat_eq (at % 4) 0 ≡ true → at < DATA → y.order ≡ x.order → y.regions.text_bytes ≡ x.regions.text_bytes → stored x Memory at Word w ≡ Some c → stored y Memory at Word w ≡ Some c' → c'.regions.text_bytes ≡ c.regions.text_bytes
same_text x y c c' at w e h o t put put' =
    ap (λ (r : Regions). r.text_bytes) (text_after y c' at w e h (wrote_of y c' at w put'))
    ∙ (ap (λ (z : Order). text_over z w at y.regions.text_bytes) o
    ∙ (ap (text_over x.order w at) t ∙ sym (ap (λ (r : Regions). r.text_bytes) (text_after x c at w e h (wrote_of x c at w put)))))

same_order : (x y c c' : Bytes) (at w : ℕ) → y.order ≡ x.order → stored x Memory at Word w ≡ Some c → stored y Memory at Word w ≡ Some c' → c'.order ≡ c.order
same_order x y c c' at w o put put' = (wrote_of y c' at w put').order ∙ (o ∙ sym (wrote_of x c at w put).order)

again_by : (target : ℕ) (x c y : Bytes) (p : Point) (ps kept : List Point) (text : List ℕ) → AreInText (p ∷ ps) → y.order ≡ x.order → y.regions.text_bytes ≡ x.regions.text_bytes → stored x Memory p.at Word (break_of target) ≡ Some c
    → ((c' : Bytes) → c'.order ≡ c.order → c'.regions.text_bytes ≡ c.regions.text_bytes → Again target c' ps kept text) → word_at y p.at ≡ Some (noop_of target) → Stores y p.at (break_of target) → Again target y (p ∷ ps) (p ∷ kept) text
again_by target x c y p ps kept text h o t put more read (stores_to c' put') =
    again_put target x y c c' p ps kept text h.0 h.1 read put' (more c' (same_order x y c c' p.at (break_of target) o put put') (same_text x y c c' p.at (break_of target) h.0 h.1 o t put put'))
    (whole_after y c' p.at (break_of target) h.0 h.1 put')

again : (target : ℕ) (x d y : Bytes) (ps kept : List Point) → AreInText ps → y.order ≡ x.order → y.regions.text_bytes ≡ x.regions.text_bytes → PutsWords target x ps kept d → Again target y ps kept d.regions.text_bytes
again target x d y ps kept h o t at_none = record { after = y; puts = at_none; is = ap (λ (xs : List ℕ). record y { regions = record y.regions { text_bytes = xs } }) t }
again target x d y ps kept h o t (is_passed {ps = qs} p w there differs rest) =
    let a = again target x d y qs kept h.2 o t rest in
    record { after = a.after; puts = is_passed p w (same_read x y p.at h.1 o t ∙ there) differs a.puts; is = a.is }
again target x d y ps kept h o t (is_put {c = c} {ps = qs} {kept = ks} p was put rest) =
    let read : word_at y p.at ≡ Some (noop_of target) = same_read x y p.at h.1 o t ∙ was in
    again_by target x c y p qs ks d.regions.text_bytes h o t put (λ (c' : Bytes) o' t'. again target c d c' qs ks h.2 o' t' rest) read (stores_by y p.at (break_of target) (noop_of target) read)

-- Words of a step in the text that are put back after a run, which leaves the text, are put again at the same points, and the memory is as it was.
pub replanted : (target : ℕ) (b d : Bytes) (ps kept : List Point) (r : Regions) → IsMemory b.regions → list_all stands_in_text ps ≡ true → PutsWords target b ps kept d → r.text_bytes ≡ d.regions.text_bytes
    → PutsWords target (record b { regions = words_put b.order (noop_of target) (map address_of kept) r }) ps kept (record b { regions = r })
replanted target b d ps kept r m e h t =
    let o : Order = b.order in
    let w : ℕ = noop_of target in
    let inside = in_text ps e in
    let back : Regions = words_put o w (map address_of kept) r in
    let over : back ≡ record r { text_bytes = texts_over o w kept r.text_bytes } = texts_put o w kept r (kept_in_text target b d ps kept inside h) in
    let undo : record d.regions { text_bytes = texts_over o w kept d.regions.text_bytes } ≡ b.regions = sym (texts_put o w kept d.regions (kept_in_text target b d ps kept inside h)) ∙ all_undone target b d ps kept m h in
    let text : back.text_bytes ≡ b.regions.text_bytes =
    ap (λ (x : Regions). x.text_bytes) over ∙ (ap (texts_over o w kept) t ∙ ap (λ (x : Regions). x.text_bytes) undo) in
    let a = again target b d (record b { regions = back }) ps kept inside refl text h in
    let regions : record back { text_bytes = d.regions.text_bytes } ≡ r =
    ap (λ (x : Regions). record x { text_bytes = d.regions.text_bytes }) over ∙ ap (λ (xs : List ℕ). record r { text_bytes = xs }) (sym t) in
    subst (PutsWords target (record b { regions = back }) ps kept) (a.is ∙ ap (λ (x : Regions). record b { regions = x }) regions) a.puts
