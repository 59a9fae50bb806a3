-- Words that are put one after another.
use Rattle.std.proofs.Common.{◌≡◌, ◌∙◌, refl, sym, ap, subst, ℕ, ◌+◌, ◌<◌, List, [], ◌∷◌, length, drop, get_or, map, Option, Some, None, Result, Ok, Err, add-one, drop-cons}
use Rattle.ldb_words.specs.declared.kinds.Order.{Order}
use Rattle.ldb_words.specs.declared.kinds.Kind.TheVariants.{Word}
use Rattle.ldb_words.specs.declared.event.Outside.{Outside}
use Rattle.ldb_words.specs.Word.{sum_of}
use Rattle.ldb_edge.specs.Count.{Rose}
use Rattle.machine_state.specs.Regions.{Regions, write_of}
use Rattle.frame_bytes.specs.declared.frame.Space.TheVariants.{Memory}
use Rattle.frame_bytes.specs.Bytes.{Bytes, stored, or_none}
use Rattle.abs_mem.specs.Meaning.{Seen, Untold, Stores, Led}
use Rattle.abs_mem.specs.declared.memory.MemFault.{MemFault}
use Rattle.abs_mem.specs.declared.memory.MemFault.TheVariants as mem
use Rattle.abs_mem.proofs.Wires.{in_memory, put_back}
use Rattle.wire_talk.specs.declared.fault.TalkFault.{TalkFault}
use Rattle.wire_talk.specs.declared.fault.TalkFault.TheVariants as talk
use Rattle.table_points.specs.declared.row.Point.{Point}
use Rattle.debug_side.specs.declared.words.TheConstants.{PC_OFFSET, NEXT_PC_OFFSET}
use Rattle.debug_side.specs.Meant.{address_of}
use Rattle.debug_side.specs.Wrote.{Writes, none_written, writes, Wrote, or_same, word_put, words_put, words_put_back, passed, Puts, LedTalk, where_it_can}

-- ---- one word

pub stored_word : (b : Bytes) (at w : ℕ) → stored b Memory at Word w ≡ put_back b (or_none (write_of b.order b.regions at 4 w))
unfolding stored
stored_word b at w = refl

-- the bytes after a store
pub record Left (b : Bytes) (at w : ℕ) (b' : Bytes) : Type 0 where
  pub regions : Regions
  pub wrote : write_of b.order b.regions at 4 w ≡ Ok regions
  pub is : b' ≡ record b { regions = regions }

left_by : (b b' : Bytes) (at w : ℕ) (x : Result Regions Outside) → write_of b.order b.regions at 4 w ≡ x → put_back b (or_none x) ≡ Some b' → Left b at w b'
left_by b b' at w (Ok r) e is = record { regions = r; wrote = e; is = cc }
left_by b b' at w (Err z) e is = cc

pub left_of : (b b' : Bytes) (at w : ℕ) → stored b Memory at Word w ≡ Some b' → Left b at w b'
left_of b b' at w e = left_by b b' at w (write_of b.order b.regions at 4 w) refl (sym (stored_word b at w) ∙ e)

not_by : (b : Bytes) (x : Result Regions Outside) → put_back b (or_none x) ≡ None → or_none x ≡ None
not_by b (Ok r) e = cc
not_by b (Err z) e = refl

pub not_left : (b : Bytes) (at w : ℕ) → stored b Memory at Word w ≡ None → or_none (write_of b.order b.regions at 4 w) ≡ None
not_left b at w e = not_by b (write_of b.order b.regions at 4 w) (sym (stored_word b at w) ∙ e)

abbrev pub IsPutAt : (at w : ℕ) → Bytes → Regions → Type 0
IsPutAt at w b r = r ≡ word_put b.order w at b.regions

pub puts_of : {R : Type 0} (s s' : Seen R) (at w : ℕ) (x : Result Unit MemFault) → Stores s (in_memory at) Word w x s' → Puts s (where_it_can x) (IsPutAt at w) s'
puts_of {R = R} s s' at w (Ok x) h = record {
  faults = h.faults;
  after = λ (b : Bytes) (r : R) t.
      let y = h.after b r t in
      let l = left_of b y.0 at w y.1 in
      (l.regions, writes at w none_written l.wrote, ap (λ (z : Result Regions Outside). or_same b.regions (or_none z)) (sym l.wrote), subst (λ (z : Bytes). s'.tells z r) l.is y.2);
}
puts_of {R = R} s s' at w (Err (mem.Outside place)) h = record {
  faults = h.1.faults;
  after = λ (b : Bytes) (r : R) t.
      (b.regions, none_written, ap (or_same b.regions) (sym (not_left b at w (h.2.holds b r t))), h.1.keeps b r t);
}
puts_of s s' at w (Err mem.LinkFault) h = h
puts_of s s' at w (Err (mem.BadReply frame)) h = h

pub led_where : {M : Type 0} (leads : M → Option (List ℕ) → M → Type 0) (m m' : M) (x : Result Unit MemFault) → Led leads m x m' → LedTalk leads m (where_it_can x) m'
led_where leads m m' (Ok x) h = h
led_where leads m m' (Err (mem.Outside place)) h = h
led_where leads m m' (Err mem.LinkFault) h = tt
led_where leads m m' (Err (mem.BadReply frame)) h = h

-- ---- one after another

pub more_written : {o : Order} {r s t : Regions} → Writes o r s → Writes o s t → Writes o r t
more_written h none_written = h
more_written h (writes at word before e) = writes at word (more_written h before) e

pub wrote_none : {R : Type 0} (s : Seen R) (P : Bytes → Regions → Type 0) → ((b : Bytes) → P b b.regions) → Wrote s s P
wrote_none {R = R} s P p = record { faults = refl; after = λ (b : Bytes) (r : R) t. (b.regions, none_written, p b, t) }

pub wrote_then : {R : Type 0} (s u v : Seen R) (P Q T : Bytes → Regions → Type 0) → Wrote s u P → Wrote u v Q → ((b : Bytes) (m n : Regions) → P b m → Q (record b { regions = m }) n → T b n) → Wrote s v T
wrote_then {R = R} s u v P Q T h k join = record {
  faults = k.faults ∙ h.faults;
  after = λ (b : Bytes) (r : R) t.
      let x = h.after b r t in
      let y = k.after (record b { regions = x.0 }) r x.3 in
      (y.0, more_written x.1 y.1, join b x.0 y.0 x.2 y.2, y.3);
}

pub rose_after : (a b c : ℕ) → b ≡ a → Rose b c → Rose a c
rose_after a b c e h = subst (λ (n : ℕ). Rose n c) e h

pub untold_after : {R : Type 0} (s u v : Seen R) (P : Bytes → Regions → Type 0) → Wrote s u P → Untold u v → Untold s v
untold_after {R = R} s u v P h k = record { faults = k.faults ∙ h.faults; never = λ (b : Bytes) (r : R) t. let x = h.after b r t in k.never (record b { regions = x.0 }) r x.3 }

pub puts_after : {R : Type 0} (s u v : Seen R) (P Q : Bytes → Regions → Type 0) (f : TalkFault) (T : Bytes → Regions → Type 0) → Wrote s u P → Puts u (Err f) Q v → Puts s (Err f) T v
puts_after s u v P Q talk.LinkFault T h k = rose_after s.faults u.faults v.faults h.faults k
puts_after s u v P Q (talk.BadReply frame) T h k = untold_after s u v P h k

-- ---- as the code has it

pub puts_by : {R : Type 0} (s s' : Seen R) (at w : ℕ) (x : Result Unit MemFault) (y : Result Unit TalkFault) → y ≡ where_it_can x → Stores s (in_memory at) Word w x s' → Puts s y (IsPutAt at w) s'
puts_by s s' at w x y e h = subst (λ (z : Result Unit TalkFault). Puts s z (IsPutAt at w) s') (sym e) (puts_of s s' at w x h)

pub led_by : {M : Type 0} (leads : M → Option (List ℕ) → M → Type 0) (m m' : M) (x : Result Unit MemFault) (y : Result Unit TalkFault) → y ≡ where_it_can x → Led leads m x m' → LedTalk leads m y m'
led_by {M = M} leads m m' x y e h = subst (λ (z : Result Unit TalkFault). LedTalk leads m z m') (sym e) (led_where leads m m' x h)

-- ---- at the points of a list

pub front_step : (o : Order) (word : ℕ) (ps : List Point) (i : ℕ) (p : Point) (m n whole : Regions) → drop i ps ≡ p ∷ drop (i + 1) ps → words_put o word (map address_of (drop i ps)) m ≡ whole → n ≡ word_put o word p.at m
    → words_put o word (map address_of (drop (i + 1) ps)) n ≡ whole
front_step o word ps i p m n whole e h is =
    ap (words_put o word (map address_of (drop (i + 1) ps))) is ∙ sym (ap (λ (l : List Point). words_put o word (map address_of l) m) e) ∙ h

pub back_step : (o : Order) (word : ℕ) (ps : List Point) (i : ℕ) (p : Point) (m n r : Regions) → drop i ps ≡ p ∷ drop (i + 1) ps → m ≡ words_put_back o word (map address_of (drop (i + 1) ps)) r → n ≡ word_put o word p.at m
    → n ≡ words_put_back o word (map address_of (drop i ps)) r
back_step o word ps i p m n r e h is =
    is ∙ ap (word_put o word p.at) h ∙ sym (ap (λ (l : List Point). words_put_back o word (map address_of l) r) e)

-- the words of the points from a place on are still to be put, or are put already
abbrev pub FrontLeft : (word : ℕ) → List Point → (i : ℕ) → Bytes → Regions → Type 0
FrontLeft word ps i b r = words_put b.order word (map address_of (drop i ps)) r ≡ words_put b.order word (map address_of ps) b.regions

abbrev pub BackDone : (word : ℕ) → List Point → (i : ℕ) → Bytes → Regions → Type 0
BackDone word ps i b r = r ≡ words_put_back b.order word (map address_of (drop i ps)) b.regions

pub at_drop : (ps : List Point) (i : ℕ) (d : Point) → i < length ps → drop i ps ≡ get_or ps i d ∷ drop (i + 1) ps
at_drop ps i d h = rw (add-one, drop-cons ps i d) refl

pub front_more : {R : Type 0} (word : ℕ) (ps : List Point) (i : ℕ) (p : Point) (s u v : Seen R) → drop i ps ≡ p ∷ drop (i + 1) ps → Wrote s u (FrontLeft word ps i) → Wrote u v (IsPutAt p.at word)
    → Wrote s v (FrontLeft word ps (i + 1))
front_more word ps i p s u v e h k =
    wrote_then s u v (FrontLeft word ps i) (IsPutAt p.at word) (FrontLeft word ps (i + 1)) h k
    (λ (b : Bytes) (m n : Regions) x y. front_step b.order word ps i p m n (words_put b.order word (map address_of ps) b.regions) e x y)

pub back_more : {R : Type 0} (word : ℕ) (ps : List Point) (i j : ℕ) (p : Point) (s u v : Seen R) → j ≡ i + 1 → drop i ps ≡ p ∷ drop (i + 1) ps → Wrote s u (BackDone word ps j) → Wrote u v (IsPutAt p.at word)
    → Wrote s v (BackDone word ps i)
back_more word ps i j p s u v same e h k =
    wrote_then s u v (BackDone word ps j) (IsPutAt p.at word) (BackDone word ps i) h k
    (λ (b : Bytes) (m n : Regions) x y.
    back_step b.order word ps i p m n b.regions e (subst (λ (z : ℕ). m ≡ words_put_back b.order word (map address_of (drop z ps)) b.regions) same x) y)

-- all points were gone through
pub front_all : {R : Type 0} (word : ℕ) (ps : List Point) (i : ℕ) (s u : Seen R) → drop i ps ≡ [] → Wrote s u (FrontLeft word ps i) → Wrote s u (λ b r. r ≡ words_put b.order word (map address_of ps) b.regions)
front_all {R = R} word ps i s u e h = record {
  faults = h.faults;
  after = λ (b : Bytes) (r : R) t.
      let x = h.after b r t in
      (x.0, x.1, sym (ap (λ (l : List Point). words_put b.order word (map address_of l) x.0) e) ∙ x.2, x.3);
}

pub back_all : {R : Type 0} (word : ℕ) (ps : List Point) (i : ℕ) (s u : Seen R) → i ≡ 0 → Wrote s u (BackDone word ps i) → Wrote s u (λ b r. r ≡ words_put_back b.order word (map address_of ps) b.regions)
back_all word ps i s u e h = subst (λ (z : ℕ). Wrote s u (BackDone word ps z)) e h

pub err_puts : {R : Type 0} (s u : Seen R) (f : TalkFault) (P Q : Bytes → Regions → Type 0) → Puts s (Err f) P u → Puts s (Err f) Q u
err_puts s u talk.LinkFault P Q h = h
err_puts s u (talk.BadReply frame) P Q h = h

pub puts_at : {R : Type 0} (s u : Seen R) (x : Result Unit TalkFault) (at at' w w' : ℕ) → at ≡ at' → w ≡ w' → Puts s x (IsPutAt at w) u → Puts s x (IsPutAt at' w') u
puts_at s u x at at' w w' e f h = subst (λ (y : ℕ). Puts s x (IsPutAt at' y) u) f (subst (λ (y : ℕ). Puts s x (IsPutAt y w) u) e h)

puts_then : {R : Type 0} (s u v : Seen R) (x : Result Unit TalkFault) (P Q T : Bytes → Regions → Type 0) → Wrote s u P → Puts u x Q v → ((b : Bytes) (m n : Regions) → P b m → Q (record b { regions = m }) n → T b n) → Puts s x T v
puts_then s u v (Ok x) P Q T h k join = wrote_then s u v P Q T h k join
puts_then s u v (Err f) P Q T h k join = puts_after s u v P Q f T h k

-- past a no-op
pub passes_none : {R : Type 0} (context : ℕ) (at : Option ℕ) (s : Seen R) → at ≡ None → Wrote s s (λ b r. r ≡ passed context at b.order b.regions)
passes_none context at s e = wrote_none s (λ b r. r ≡ passed context at b.order b.regions) (λ (b : Bytes). sym (ap (λ (o : Option ℕ). passed context o b.order b.regions) e))

pub passes_some : {R : Type 0} (context at : ℕ) (stands : Option ℕ) (s u v : Seen R) (x : Result Unit TalkFault) → stands ≡ Some at → Wrote s u (IsPutAt (sum_of context PC_OFFSET) (sum_of at 4))
    → Puts u x (IsPutAt (sum_of context NEXT_PC_OFFSET) (sum_of at 8)) v → Puts s x (λ b r. r ≡ passed context stands b.order b.regions) v
passes_some context at stands s u v x e h k =
    puts_then s u v x (IsPutAt (sum_of context PC_OFFSET) (sum_of at 4)) (IsPutAt (sum_of context NEXT_PC_OFFSET) (sum_of at 8)) (λ b r. r ≡ passed context stands b.order b.regions) h k
    (λ (b : Bytes) (m n : Regions) y z.
    z ∙ ap (word_put b.order (sum_of at 8) (sum_of context NEXT_PC_OFFSET)) y ∙ sym (ap (λ (o : Option ℕ). passed context o b.order b.regions) e))

-- calls go on behind calls that led on
pub led_after : (A B : Type 0) {M : Type 0} (leads : M → Option (List ℕ) → M → Type 0) (law : (a b c : M) (o : Option (List ℕ)) → leads a None b → leads b o c → leads a o c) (a b c : M) (f : TalkFault) → leads a None b
    → LedTalk {A = A} leads b (Err f) c → LedTalk {A = B} leads a (Err f) c
led_after A B leads law a b c talk.LinkFault h k = tt
led_after A B leads law a b c (talk.BadReply frame) h k = law a b c (Some frame.items) h k

pub led_then : {M A : Type 0} (leads : M → Option (List ℕ) → M → Type 0) (law : (a b c : M) (o : Option (List ℕ)) → leads a None b → leads b o c → leads a o c) (a b c : M) (x : Result A TalkFault) → leads a None b
    → LedTalk leads b x c → LedTalk leads a x c
led_then leads law a b c (Ok x) h k = law a b c None h k
led_then leads law a b c (Err talk.LinkFault) h k = tt
led_then leads law a b c (Err (talk.BadReply frame)) h k = law a b c (Some frame.items) h k
