-- The lines of frames, one frame after another.
use Rattle.std.proofs.Common.{◌≡◌, ◌∙◌, refl, sym, ap, ℕ, zero, suc, ◌+◌, arith, List, [], ◌∷◌, ◌++◌, length, append_assoc, Option, Some, None, Result, Ok, Err}
use Rattle.std.proofs.lemmas.List.{append-nil}
use Rattle.ps_store.specs.StoreState.{StoreState}
use Rattle.ps_step.specs.Results.{◌>>=◌}
use Rattle.frame_bytes.specs.Bytes.{Bytes}
use Rattle.frame_bytes.specs.declared.frame.Frame.{Frame}
use Rattle.abs_mem.specs.Meaning.{Seen, Same, OnTold}
use Rattle.abs_mem.specs.Walking.{Walks, told}
use Rattle.abs_mem.specs.declared.walk.WalkFault.{WalkFault}
use Rattle.abs_mem.specs.declared.walk.WalkFault.TheVariants as walk
use Rattle.abs_mem.specs.declared.memory.MemFault.TheVariants.{Outside, LinkFault, BadReply}
use Rattle.abs_mem.proofs.Walks.{same_here, same_then, walks_then, walks_fail, walks_as, walks_table, walks_on}
use Rattle.table_read.specs.Reads.{in_ok}
use Rattle.table_model.specs.declared.lack.Lack.{Lack}
use Rattle.table_model.specs.declared.row.TargetRow.{TargetRow}
use Rattle.table_model.specs.Reading.{Walked}
use Rattle.table_model.specs.Rows.{PointRow}
use Rattle.table_model.specs.Frames.{first_frame, next_frame, told_frame, told_outward, told_frames}
use Rattle.asking.specs.declared.frames.Listed.{Listed}
use Rattle.asking.specs.Lines.{line, frame_text, frame_lines}
use Rattle.asking.specs.declared.frames.ListFault.{ListFault}
use Rattle.asking.specs.declared.frames.ListFault.TheVariants.{Walk, NoMemory}
use Rattle.asking.specs.Frames.{listed, listed_outward, Lists, LedList}

-- ---- what comes behind

in_ok_behind : {A B C : Type 0} (f : B → C) (w : Walked A) (k : A → Walked B) → in_ok f (w >>= k) ≡ (w >>= λ x. in_ok f (k x))
in_ok_behind f (Ok x) k = refl
in_ok_behind f (Err l) k = refl

behind_same : {A B : Type 0} (w : Walked A) (k h : A → Walked B) → ((x : A) → k x ≡ h x) → (w >>= k) ≡ (w >>= h)
behind_same (Ok x) k h e = e x
behind_same (Err l) k h e = refl

-- ---- frames from one on

-- so many frames and their lines, and those of others behind them
abbrev pub listed_from : (number : ℕ) → (lines : List ℕ) → List PointRow → Listed
listed_from n lines ps = record { count = n + length ps; lines = lines ++ frame_lines n ps }

abbrev pub with_line : (number : ℕ) → (lines : List ℕ) → PointRow → List ℕ
with_line n lines t = lines ++ line (frame_text n t)

abbrev pub one_more : ℕ → List ℕ → PointRow → Listed
one_more n lines t = record { count = n + 1; lines = with_line n lines t }

abbrev a_list : ℕ → List ℕ → Walked Listed
a_list n lines = Ok (record { count = n; lines = lines })

last_is : (n : ℕ) (lines : List ℕ) (t : PointRow) → a_list (n + length (t ∷ [])) (lines ++ frame_lines n (t ∷ [])) ≡ a_list (n + 1) (with_line n lines t)
last_is n lines t =
    let count : n + length (t ∷ []) ≡ n + 1 = omega arith in
    ap (λ (k : ℕ). a_list k (lines ++ frame_lines n (t ∷ []))) count ∙ ap (λ (xs : List ℕ). a_list (n + 1) (lines ++ xs)) (append-nil (line (frame_text n t)))

rest_is : (n : ℕ) (lines : List ℕ) (t : PointRow) (w : Walked (List PointRow)) → in_ok (listed_from n lines) (w >>= λ ts. Ok (t ∷ ts)) ≡ in_ok (listed_from (n + 1) (with_line n lines t)) w
rest_is n lines t (Err l) = refl
rest_is n lines t (Ok ts) =
    let count : n + length (t ∷ ts) ≡ n + 1 + length ts = omega arith in
    let one : suc n ≡ n + 1 = omega arith in
    ap (λ (k : ℕ). a_list k (lines ++ (line (frame_text n t) ++ frame_lines (suc n) ts))) count
    ∙ ap (λ (k : ℕ). a_list (n + 1 + length ts) (lines ++ (line (frame_text n t) ++ frame_lines k ts))) one
    ∙ ap (λ (xs : List ℕ). a_list (n + 1 + length ts) xs) (sym (append_assoc lines (line (frame_text n t)) (frame_lines (n + 1) ts)))

module _ (row : TargetRow) (s : StoreState) (b : Bytes) where
  -- at most so many frames from one on, behind others
  abbrev pub from_frame : (most number : ℕ) → (lines : List ℕ) → Frame → Walked Listed
  from_frame k n lines f = in_ok (listed_from n lines) (told_outward row s b k n f)

  abbrev pub next_or_end : (most number : ℕ) → (lines : List ℕ) → PointRow → Option Frame → Walked Listed
  next_or_end k n lines t None = Ok (one_more n lines t)
  next_or_end k n lines t (Some g) = from_frame k (n + 1) (with_line n lines t) g

  pub lacks_line : (k n : ℕ) (lines : List ℕ) (f : Frame) (l : Lack) → told_frame s n f ≡ Err l → from_frame k n lines f ≡ Err l
  lacks_line zero n lines f l e = ap (λ (w : Walked PointRow). in_ok (listed_from n lines) (w >>= λ t. Ok (t ∷ []))) e
  lacks_line (suc k) n lines f l e = ap (λ (w : Walked PointRow). in_ok (listed_from n lines) (w >>= λ t. next_frame row s b f >>= λ g. elim g [ None ↦ Ok (t ∷ []) | Some g ↦ told_outward row s b k (suc n) g >>= λ ts. Ok (t ∷ ts) ])) e

  pub last_line : (k n : ℕ) (lines : List ℕ) (f : Frame) (t : PointRow) → k ≡ 0 → told_frame s n f ≡ Ok t → from_frame k n lines f ≡ Ok (one_more n lines t)
  last_line zero n lines f t z e = ap (λ (w : Walked PointRow). in_ok (listed_from n lines) (w >>= λ t. Ok (t ∷ []))) e ∙ last_is n lines t
  last_line (suc k) n lines f t z e = absurd (let i = z in cc)

  abbrev on_outward : ℕ → ℕ → PointRow → Option Frame → Walked (List PointRow)
  on_outward k n t g = elim g [ None ↦ Ok (t ∷ []) | Some g ↦ told_outward row s b k (suc n) g >>= λ ts. Ok (t ∷ ts) ]

  outward_is : (k n : ℕ) (lines : List ℕ) (t : PointRow) (g : Option Frame) → in_ok (listed_from n lines) (on_outward k n t g) ≡ next_or_end k n lines t g
  outward_is k n lines t None = last_is n lines t
  outward_is k n lines t (Some g) =
      let one : suc n ≡ n + 1 = omega arith in
      rest_is n lines t (told_outward row s b k (suc n) g) ∙ ap (λ (j : ℕ). in_ok (listed_from (n + 1) (with_line n lines t)) (told_outward row s b k j g)) one

  pub further_line : (k j n : ℕ) (lines : List ℕ) (f : Frame) (t : PointRow) → k ≡ suc j → told_frame s n f ≡ Ok t → from_frame k n lines f ≡ (next_frame row s b f >>= next_or_end j n lines t)
  further_line k j n lines f t z e =
      ap (λ (i : ℕ). from_frame i n lines f) z ∙ ap (λ (w : Walked PointRow). in_ok (listed_from n lines) (w >>= λ t. next_frame row s b f >>= on_outward j n t)) e
      ∙ in_ok_behind (listed_from n lines) (next_frame row s b f) (on_outward j n t)
      ∙ behind_same (next_frame row s b f) (λ g. in_ok (listed_from n lines) (on_outward j n t g)) (next_or_end j n lines t) (outward_is j n lines t)

  -- ---- all frames

  abbrev pub first_or_none : Option Frame → Walked Listed
  first_or_none None = Ok (listed [])
  first_or_none (Some f) = listed_outward row s b f

  first_is : (f : Option Frame) → in_ok listed (elim f [ None ↦ Ok [] | Some f ↦ told_outward row s b 19999 0 f ]) ≡ first_or_none f
  unfolding listed_outward
  first_is None = refl
  first_is (Some f) = refl

  pub all_lines : (context : ℕ) → in_ok listed (told_frames row s b context) ≡ (first_frame row s b context >>= first_or_none)
  unfolding told_frames
  all_lines context =
      in_ok_behind listed (first_frame row s b context) (λ f. elim f [ None ↦ Ok [] | Some f ↦ told_outward row s b 19999 0 f ])
      ∙ behind_same (first_frame row s b context) (λ f. in_ok listed (elim f [ None ↦ Ok [] | Some f ↦ told_outward row s b 19999 0 f ])) first_or_none first_is

-- ---- the walk

as_from_none : (w : Walked (List PointRow)) → in_ok listed w ≡ in_ok (listed_from 0 []) w
as_from_none (Ok ps) =
    let count : length ps ≡ 0 + length ps = omega arith in
    ap (λ (n : ℕ). a_list n (frame_lines 0 ps)) count
as_from_none (Err l) = refl

-- what was told so far is what is told on from here
pub record SoFar {R : Type 0} (s u : Seen R) (w h : Bytes → Walked Listed) : Type 0 where
  pub same : Same s u
  pub onward : OnTold s (λ b. w b ≡ h b)

pub none_so_far : {R : Type 0} (s : Seen R) (row : TargetRow) (t : StoreState) (f : Frame) → SoFar s s (λ b. listed_outward row t b f) (λ b. from_frame row t b 19999 0 [] f)
unfolding listed_outward
none_so_far {R = R} s row t f = record { same = same_here s; onward = record { holds = λ (b : Bytes) (r : R) x. as_from_none (told_outward row t b 19999 0 f) } }

module _ {R : Type 0} (s u v : Seen R) (row : TargetRow) (t : StoreState) (w : Bytes → Walked Listed) (k n : ℕ) (lines : List ℕ) (f : Frame) (far : SoFar s u w (λ b. from_frame row t b k n lines f)) where
  abbrev rest : Bytes → Walked Listed
  rest b = from_frame row t b k n lines f

  pub list_lacks : (l : Lack) → told_frame t n f ≡ Err l → Walks w s (Err (told l)) u
  list_lacks l e = walks_on s u u w rest (Err (told l)) far.same far.onward (walks_table u rest (Err l) (λ b. lacks_line row t b k n lines f l e))

  module _ (p : PointRow) (is : told_frame t n f ≡ Ok p) where
    pub list_last : k ≡ 0 → Walks w s (Ok (one_more n lines p)) u
    list_last z = walks_on s u u w rest (Ok (one_more n lines p)) far.same far.onward (walks_table u rest (Ok (one_more n lines p)) (λ b. last_line row t b k n lines f p z is))

    module _ (j : ℕ) (more : k ≡ suc j) where
      abbrev next : Bytes → Walked (Option Frame)
      next b = next_frame row t b f

      abbrev on_next : Bytes → Option Frame → Walked Listed
      on_next b = next_or_end row t b j n lines p

      further : (b : Bytes) → rest b ≡ (next b >>= on_next b)
      further b = further_line row t b k j n lines f p more is

      pub list_fails : (x : WalkFault) → Walks next u (Err x) v → Walks w s (Err x) v
      list_fails x h = walks_on s u v w rest (Err x) far.same far.onward (walks_as u v (λ b. next b >>= on_next b) rest (Err x) further (walks_fail u v next on_next x h))

      pub list_ends : Walks next u (Ok None) v → Walks w s (Ok (one_more n lines p)) v
      list_ends h = walks_on s u v w rest (Ok (one_more n lines p)) far.same far.onward (h.0, record { holds = λ (b : Bytes) (r : R) x. further b ∙ ap (λ (o : Walked (Option Frame)). o >>= on_next b) (h.1.holds b r x) })

      pub list_goes_on : (g : Frame) → Walks next u (Ok (Some g)) v → SoFar s v w (λ b. from_frame row t b j (n + 1) (with_line n lines p) g)
      list_goes_on g h = record {
        same = same_then s u v far.same h.0;
        onward = record { holds = λ (b : Bytes) (r : R) x. far.onward.holds b r x ∙ further b ∙ ap (λ (o : Walked (Option Frame)). o >>= on_next b) (h.1.holds b r (far.same.keeps b r x)) };
      }

-- ---- all frames

module _ {R : Type 0} (s u v : Seen R) (row : TargetRow) (t : StoreState) (context : ℕ) where
  abbrev all : Bytes → Walked Listed
  all b = in_ok listed (told_frames row t b context)

  abbrev begun : Bytes → Walked (Option Frame)
  begun b = first_frame row t b context

  pub all_fails : (x : WalkFault) → Walks begun s (Err x) u → Walks all s (Err x) u
  all_fails x h = walks_as s u (λ b. begun b >>= first_or_none row t b) all (Err x) (λ b. all_lines row t b context) (walks_fail s u begun (λ b. first_or_none row t b) x h)

  pub all_none : Walks begun s (Ok None) u → Walks all s (Ok (listed [])) u
  all_none h = (h.0, record { holds = λ (b : Bytes) (r : R) x. all_lines row t b context ∙ ap (λ (o : Walked (Option Frame)). o >>= first_or_none row t b) (h.1.holds b r x) })

  pub all_outward : (f : Frame) (r : Result Listed ListFault) → Walks begun s (Ok (Some f)) u → Lists (λ b. listed_outward row t b f) u r v → Lists all s r v
  all_outward f (Ok x) h k = walks_then s u v begun (λ o b. first_or_none row t b o) all (Some f) (Ok x) h k (λ b e. all_lines row t b context ∙ ap (λ (o : Walked (Option Frame)). o >>= first_or_none row t b) e)
  all_outward f (Err (Walk x)) h k = walks_then s u v begun (λ o b. first_or_none row t b o) all (Some f) (Err x) h k (λ b e. all_lines row t b context ∙ ap (λ (o : Walked (Option Frame)). o >>= first_or_none row t b) e)
  all_outward f (Err NoMemory) h k = same_then s u v h.0 k

pub led_list : {M : Type 0} (leads : M → Option (List ℕ) → M → Type 0) (a b c : M) (r : Result Listed ListFault) → ((o : Option (List ℕ)) → leads a None b → leads b o c → leads a o c) → leads a None b → LedList leads b r c → LedList leads a r c
led_list leads a b c (Ok x) go h k = go None h k
led_list leads a b c (Err NoMemory) go h k = go None h k
led_list leads a b c (Err (Walk (walk.Memory (Outside p)))) go h k = go None h k
led_list leads a b c (Err (Walk (walk.Memory LinkFault))) go h k = tt
led_list leads a b c (Err (Walk (walk.Memory (BadReply frame)))) go h k = go (Some frame.items) h k
led_list leads a b c (Err (Walk (walk.Shape m))) go h k = go None h k
led_list leads a b c (Err (Walk (walk.Unforced n))) go h k = go None h k
