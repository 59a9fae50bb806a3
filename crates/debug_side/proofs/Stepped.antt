-- The words of a step, point by point.
use Rattle.std.proofs.Common.{◌≡◌, ◌∙◌, refl, sym, ap, subst, ℕ, ◌+◌, ◌≤◌, Bool, true, false, List, [], ◌∷◌, ◌++◌, length, drop, map, Some, Result, Ok, Err, IfOk, append_assoc, append-nil, inr, arith}
use Rattle.std.proofs.lemmas.Grind.{common_steps}
use Rattle.std.proofs.lemmas.List.{drop-drop}
use Rattle.ldb_words.specs.declared.kinds.Order.{Order}
use Rattle.ldb_words.specs.declared.kinds.Kind.TheVariants.{Word}
use Rattle.ldb_words.specs.declared.event.Outside.{Outside}
use Rattle.ldb_edge.specs.Count.{Rose}
use Rattle.machine_state.specs.Regions.{Regions, read_of, write_of}
use Rattle.machine_state.specs.Sound.{IsMemory, IsWidth}
use Rattle.machine_state.proofs.SoundMemory.{write_memory}
use Rattle.frame_bytes.specs.declared.frame.Space.TheVariants.{Memory}
use Rattle.frame_bytes.specs.Bytes.{Bytes, fetched, stored, or_none}
use Rattle.abs_mem.proofs.Wires.{put_back}
use Rattle.abs_mem.specs.Meaning.{Seen, Same}
use Rattle.abs_mem.specs.declared.memory.MemFault.{MemFault}
use Rattle.abs_mem.specs.declared.memory.MemFault.TheVariants as mem
use Rattle.break_plant.specs.Planted.{noop_of, break_of, word_at}
use Rattle.table_points.specs.declared.row.Point.{Point}
use Rattle.debug_side.specs.Meant.{address_of}
use Rattle.debug_side.specs.Wrote.{or_same, word_put, words_put_back}
use Rattle.debug_side.specs.Planting.{kept_with, IsPut, IsOther, PlantsOne, GivesUp, PutsWords, at_none, is_put, is_passed, MeetsNone, is_outside, behind_put, behind_passed, PlantsAll}
use Rattle.debug_side.proofs.Putting.{stored_word, rose_after}
use Rattle.debug_side.proofs.Undone.{undone}

-- Up to a place the words of some points were put, and these points kept.
pub record Upto (target : ℕ) (old : List Point) (b : Bytes) (at : ℕ) (kept : List Point) (c : Bytes) : Type 0 where
  pub all : (more : List Point) (d : Bytes) → PutsWords target c (drop at old) more d → PutsWords target b old (kept ++ more) d
  pub none : MeetsNone target c (drop at old) → MeetsNone target b old
  pub same : c ≡ record b { regions = c.regions }
  pub back : IsMemory b.regions → IsMemory c.regions × (words_put_back b.order (noop_of target) (map address_of kept) c.regions ≡ b.regions)

pub record Stepped {R : Type 0} (target : ℕ) (old : List Point) (at : ℕ) (kept : List Point) (s s' : Seen R) : Type 0 where
  pub faults : s'.faults ≡ s.faults
  pub told : (b : Bytes) (r : R) → s.tells b r → (c : Bytes) × Upto target old b at kept c × s'.tells c r

-- ---- one point more

put_back_last : (o : Order) (w : ℕ) (ps : List ℕ) (p : ℕ) (r : Regions) → words_put_back o w (ps ++ p ∷ []) r ≡ words_put_back o w ps (word_put o w p r)
put_back_last o w [] p r = refl
put_back_last o w (q ∷ ps) p r = ap (word_put o w q) (put_back_last o w ps p r)

map_last : (ps : List Point) (p : Point) → map address_of (ps ++ p ∷ []) ≡ map address_of ps ++ p.at ∷ []
map_last [] p = refl
map_last (q ∷ ps) p = ap (λ (l : List ℕ). q.at ∷ l) (map_last ps p)

written_memory : (x : Result Regions Outside) (r : Regions) → x ≡ Ok r → IfOk x IsMemory → IsMemory r
written_memory x r e h = subst (λ (z : Result Regions Outside). IfOk z IsMemory) e h

read_word : (b : Bytes) (at : ℕ) → word_at b at ≡ or_none (read_of b.order b.regions at 4)
unfolding fetched
read_word b at = refl

four : IsWidth 4
four = inr (inr refl)

-- the no-op that a break word was put over, put back
word_again : (target at : ℕ) (c : Bytes) (r : Regions) → IsMemory c.regions → IsPut target at c r → word_put c.order (noop_of target) at r ≡ c.regions
word_again target at c r m h = ap (or_same r) (undone c.order c.regions r at (break_of target) (noop_of target) m (sym (read_word c at) ∙ h.was) h.is)

put_again : (target : ℕ) (b c : Bytes) (kept : List Point) (p : Point) (r : Regions) → IsMemory c.regions → IsPut target p.at c r → c.order ≡ b.order → words_put_back b.order (noop_of target) (map address_of kept) c.regions ≡ b.regions
    → words_put_back b.order (noop_of target) (map address_of (kept ++ p ∷ [])) r ≡ b.regions
put_again target b c kept p r m h o e =
    ap (λ (l : List ℕ). words_put_back b.order (noop_of target) l r) (map_last kept p)
    ∙ (put_back_last b.order (noop_of target) (map address_of kept) p.at r
    ∙ (ap (words_put_back b.order (noop_of target) (map address_of kept)) (ap (λ (x : Order). word_put x (noop_of target) p.at r) (sym o) ∙ word_again target p.at c r m h) ∙ e))

module _ (target : ℕ) (old : List Point) (b : Bytes) (at : ℕ) (kept : List Point) (c : Bytes) (p : Point) (here : drop at old ≡ p ∷ drop (at + 1) old) (u : Upto target old b at kept c) where
  put_here : (r : Regions) → IsPut target p.at c r → Upto target old b (at + 1) (kept ++ p ∷ []) (record c { regions = r })
  put_here r h =
      let is : stored c Memory p.at Word (break_of target) ≡ Some (record c { regions = r }) = stored_word c p.at (break_of target) ∙ ap (λ (x : Result Regions Outside). put_back c (or_none x)) h.is in
      record {
        all = λ (more : List Point) (d : Bytes) k.
            subst (λ (l : List Point). PutsWords target b old l d) (sym (append_assoc kept (p ∷ []) more))
            (u.all (p ∷ more) d (subst (λ (l : List Point). PutsWords target c l (p ∷ more) d) (sym here) (is_put p h.was is k)));
        none = λ k. u.none (subst (MeetsNone target c) (sym here) (behind_put p h.was is k));
        same = ap (λ (x : Bytes). record x { regions = r }) u.same;
        back = λ m.
            let n = u.back m in
            let o : c.order ≡ b.order = ap (λ (x : Bytes). x.order) u.same in
            (written_memory (write_of c.order c.regions p.at 4 (break_of target)) r h.is (write_memory c.order c.regions p.at 4 (break_of target) four n.0), put_again target b c kept p r n.0 h o n.1);
      }

  pass_here : IsOther target p.at c → Upto target old b (at + 1) kept c
  pass_here h = record {
    all = λ (more : List Point) (d : Bytes) k. u.all more d (subst (λ (l : List Point). PutsWords target c l more d) (sym here) (is_passed p h.word h.there h.differs k));
    none = λ k. u.none (subst (MeetsNone target c) (sym here) (behind_passed p h.word h.there h.differs k));
    same = u.same;
    back = u.back;
  }

-- ---- over a memory

given_up_fails : {R : Type 0} (target : ℕ) (kept : List Point) (v : Seen R) (f : MemFault) (w : Seen R) (x : Unit {0}) → GivesUp target v kept f (Ok x) w → ⊥
given_up_fails target kept v f w x l = l

module _ {R : Type 0} (target : ℕ) (old : List Point) (at : ℕ) (kept : List Point) (p : Point) (s u v : Seen R) (here : drop at old ≡ p ∷ drop (at + 1) old) (h : Stepped target old at kept s u) where
  stepped_put : PlantsOne target p.at u (Ok true) v → Stepped target old (at + 1) (kept ++ p ∷ []) s v
  stepped_put k = record {
    faults = k.faults ∙ h.faults;
    told = λ (b : Bytes) (r : R) t.
        let x = h.told b r t in
        let y = k.after x.0 r x.2 in
        (record x.0 { regions = y.0 }, put_here target old b at kept x.0 p here x.1 y.0 y.2, y.3);
  }

  stepped_pass : PlantsOne target p.at u (Ok false) v → Stepped target old (at + 1) kept s v
  stepped_pass k = record {
    faults = k.0.faults ∙ h.faults;
    told = λ (b : Bytes) (r : R) t.
        let x = h.told b r t in
        (x.0, pass_here target old b at kept x.0 p here x.1 (k.1.holds x.0 r x.2), k.0.keeps x.0 r x.2);
  }

  pub stepped : (x : Bool) → PlantsOne target p.at u (Ok x) v → Stepped target old (at + 1) (kept_with x kept p) s v
  stepped true k = stepped_put k
  stepped false k = stepped_pass k

  as_before : (b c : Bytes) (m : Regions) → Upto target old b at kept c → IsMemory b.regions → m ≡ words_put_back c.order (noop_of target) (map address_of kept) c.regions → record c { regions = m } ≡ b
  as_before b c m x memory e =
      let o : c.order ≡ b.order = ap (λ (y : Bytes). y.order) x.same in
      let is : m ≡ b.regions = e ∙ (ap (λ (z : Order). words_put_back z (noop_of target) (map address_of kept) c.regions) o ∙ (x.back memory).1) in
      ap (λ (y : Bytes). record y { regions = m }) x.same ∙ ap (λ (y : Regions). record b { regions = y }) is

  -- where an address is outside
  stepped_outside : (place : _) (w : Seen R) (g : MemFault) (new : List Point) → PlantsOne target p.at u (Err (mem.Outside place)) v → GivesUp target v kept (mem.Outside place) (Err g) w → PlantsAll target old s (Err g) new w
  stepped_outside place w (mem.Outside other) new k l = (
    l.1.faults ∙ (k.0.faults ∙ h.faults),
    λ (b : Bytes) (r : R) t.
        let x = h.told b r t in
        let y = l.1.after x.0 r (k.0.keeps x.0 r x.2) in (
          x.1.none (subst (MeetsNone target x.0) (sym here) (is_outside p (k.1.holds x.0 r x.2))),
          λ memory. subst (λ (z : Bytes). w.tells z r) (as_before b x.0 y.0 x.1 memory y.2) y.3,
        ),
  )
  stepped_outside place w mem.LinkFault new k l = rose_after s.faults v.faults w.faults (k.0.faults ∙ h.faults) l
  stepped_outside place w (mem.BadReply frame) new k l = record { faults = l.faults ∙ (k.0.faults ∙ h.faults); never = λ (b : Bytes) (r : R) t. let x = h.told b r t in l.never x.0 r (k.0.keeps x.0 r x.2) }

  stepped_link : (w : Seen R) (new : List Point) → PlantsOne target p.at u (Err mem.LinkFault) v → Same v w → PlantsAll target old s (Err mem.LinkFault) new w
  stepped_link w new k l = rose_after s.faults u.faults w.faults h.faults (subst (Rose u.faults) (sym l.faults) k)

  stepped_reply : (frame : _) (w : Seen R) (new : List Point) → PlantsOne target p.at u (Err (mem.BadReply frame)) v → Same v w → PlantsAll target old s (Err (mem.BadReply frame)) new w
  stepped_reply frame w new k l = record { faults = l.faults ∙ (k.faults ∙ h.faults); never = λ (b : Bytes) (r : R) t. let x = h.told b r t in k.never x.0 r x.2 }

  pub stepped_fault : (f : MemFault) (w : Seen R) (x : Result Unit MemFault) (new : List Point) → PlantsOne target p.at u (Err f) v → GivesUp target v kept f x w → PlantsAll target old s x new w
  stepped_fault f w (Ok x) new k l = absurd (given_up_fails target kept v f w x l)
  stepped_fault (mem.Outside place) w (Err g) new k l = stepped_outside place w g new k l
  stepped_fault mem.LinkFault w (Err g) new k l = subst (λ (z : MemFault). PlantsAll target old s (Err z) new w) (sym l.0) (stepped_link w new k l.1)
  stepped_fault (mem.BadReply frame) w (Err g) new k l = subst (λ (z : MemFault). PlantsAll target old s (Err z) new w) (sym l.0) (stepped_reply frame w new k l.1)

-- at the first point nothing is put
pub stepped_none : {R : Type 0} (target : ℕ) (old : List Point) (s : Seen R) → Stepped target old 0 [] s s
stepped_none {R = R} target old s = record {
  faults = refl;
  told = λ (b : Bytes) (r : R) t. (b, record { all = λ (more : List Point) (d : Bytes) k. k; none = λ k. k; same = refl; back = λ m. (m, refl) }, t);
}

-- behind the last one all are
pub stepped_all : {R : Type 0} (target : ℕ) (old : List Point) (at : ℕ) (kept : List Point) (s u : Seen R) → drop at old ≡ [] → Stepped target old at kept s u → PlantsAll target old s (Ok tt) kept u
stepped_all {R = R} target old at kept s u e h = (
  h.faults,
  λ (b : Bytes) (r : R) t.
      let x = h.told b r t in
      (x.0, subst (λ (l : List Point). PutsWords target b old l x.0) (append-nil kept) (x.1.all [] x.0 (subst (λ (l : List Point). PutsWords target x.0 l [] x.0) (sym e) at_none)), x.2),
)

-- ---- the points that are left

pub next_rest : (items old : List Point) (at : ℕ) → drop at items ≡ drop at old → drop (at + 1) items ≡ drop (at + 1) old
next_rest items old at e = sym (drop-drop 1 at items) ∙ (ap (drop 1) e ∙ drop-drop 1 at old)

pub next_here : (items old : List Point) (at : ℕ) (p : Point) → drop at items ≡ drop at old → drop at items ≡ p ∷ drop (at + 1) items → drop at old ≡ p ∷ drop (at + 1) old
next_here items old at p e is = sym e ∙ (is ∙ ap (λ (l : List Point). p ∷ l) (next_rest items old at e))

pub none_left : (old : List Point) (at : ℕ) → length old ≤ at → drop at old ≡ []
none_left old at h = grind (arith, common_steps)
