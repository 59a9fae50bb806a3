-- Words that are read one after another, and put back so.
use Rattle.std.proofs.Common.{◌≡◌, ◌∙◌, refl, sym, ap, ℕ, ◌+◌, ◌<◌, List, [], ◌∷◌, ◌++◌, length, drop, take, get_or, Option, Some, None, Result, Ok, Err, add-one, drop-cons}
use Rattle.std.proofs.lemmas.List.{map-append, take_more}
use Rattle.ldb_words.specs.declared.kinds.Order.{Order}
use Rattle.machine_state.specs.Regions.{Regions}
use Rattle.frame_bytes.specs.Bytes.{Bytes}
use Rattle.abs_mem.specs.Meaning.{Seen, Same, OnTold}
use Rattle.table_points.specs.declared.row.Point.{Point}
use Rattle.debug_side.specs.Wrote.{Wrote}
use Rattle.debug_side.specs.There.{there_at, words_at, AreRead, put_there, all_there}
use Rattle.debug_side.specs.declared.there.WordThere.{WordThere}
use Rattle.debug_side.specs.declared.there.ReadFault.{ReadFault}
use Rattle.debug_side.specs.declared.there.ReadFault.TheVariants.{Talk, NoMemory}
use Rattle.debug_side.proofs.Putting.{wrote_none, wrote_then}

-- ---- they are put back

-- where nothing stands
pub puts_none : {R : Type 0} (w : WordThere) (s : Seen R) → w.word ≡ None → Wrote s s (λ b r. r ≡ put_there b.order w b.regions)
puts_none w s e = wrote_none s (λ b r. r ≡ put_there b.order w b.regions) (λ (b : Bytes). sym (ap (λ (x : Option ℕ). put_there b.order (record w { word = x }) b.regions) e))

-- those from a place on are still to be put
abbrev pub AllLeft : List WordThere → (i : ℕ) → Bytes → Regions → Type 0
AllLeft ws i b r = all_there b.order (drop i ws) r ≡ all_there b.order ws b.regions

pub drop_one : (ws : List WordThere) (i : ℕ) (d : WordThere) → i < length ws → drop i ws ≡ get_or ws i d ∷ drop (i + 1) ws
drop_one ws i d h = rw (add-one, drop-cons ws i d) refl

pub one_more : {R : Type 0} (ws : List WordThere) (i : ℕ) (w : WordThere) (s u v : Seen R) → drop i ws ≡ w ∷ drop (i + 1) ws → Wrote s u (AllLeft ws i) → Wrote u v (λ b r. r ≡ put_there b.order w b.regions) → Wrote s v (AllLeft ws (i + 1))
one_more ws i w s u v e h k =
    wrote_then s u v (AllLeft ws i) (λ b r. r ≡ put_there b.order w b.regions) (AllLeft ws (i + 1)) h k
    (λ (b : Bytes) (m n : Regions) x y. ap (all_there b.order (drop (i + 1) ws)) y ∙ sym (ap (λ (l : List WordThere). all_there b.order l m) e) ∙ x)

pub all_put : {R : Type 0} (ws : List WordThere) (i : ℕ) (s u : Seen R) → drop i ws ≡ [] → Wrote s u (AllLeft ws i) → Wrote s u (λ b r. r ≡ all_there b.order ws b.regions)
all_put {R = R} ws i s u e h = record {
  faults = h.faults;
  after = λ (b : Bytes) (r : R) t.
      let x = h.after b r t in
      (x.0, x.1, sym (ap (λ (l : List WordThere). all_there b.order l x.0) e) ∙ x.2, x.3);
}

-- ---- they are read

pub read_more : {R : Type 0} (ps : List Point) (i : ℕ) (d : Point) (ws ws' : List WordThere) (w : WordThere) (s u v : Seen R) → i < length ps → AreRead (take i ps) ws s u → Same u v × OnTold u (λ b. w ≡ there_at b (get_or ps i d).at) → ws' ≡ ws ++ w ∷ [] → AreRead (take (i + 1) ps) ws' s v
read_more {R = R} ps i d ws ws' w s u v inside h k is = (
  record { faults = k.0.faults ∙ h.0.faults; keeps = λ (b : Bytes) (r : R) t. k.0.keeps b r (h.0.keeps b r t) },
  record {
    holds = λ (b : Bytes) (r : R) t.
        is
        ∙ (ap (λ (l : List WordThere). l ++ w ∷ []) (h.1.holds b r t)
        ∙ (ap (λ (x : WordThere). words_at b (take i ps) ++ x ∷ []) (k.1.holds b r (h.0.keeps b r t))
        ∙ (sym (map-append (λ (p : Point). there_at b p.at) (take i ps) (get_or ps i d ∷ [])) ∙ sym (ap (words_at b) (take_more ps i d inside)))));
  },
)
