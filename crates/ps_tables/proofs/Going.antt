-- Steps that ask nothing of a dialect.
use Rattle.std.proofs.Common.{◌≡◌, ℕ, zero, suc, Bool, true, false, Option, Some, None, List, [], ◌∷◌, ◌++◌, refl, sym, subst, bytes_eq, if◌then◌else◌}
use Rattle.std.specs.Cmp.Lexicographic.{bytes_decides}
use Rattle.ps_store.specs.declared.object.PsObj.{PsObj}
use Rattle.ps_store.specs.declared.object.DictId.{DictId}
use Rattle.ps_store.specs.StoreState.{StoreState}
use Rattle.ps_step.specs.declared.item.Item.{Item}
use Rattle.ps_step.specs.declared.machine.PsCore.{PsCore}
use Rattle.ps_run.specs.Step.{Next, step}
use Rattle.ps_run.specs.Runs.{Answer, Operates, Runs}
use Rattle.ps_run.proofs.Apart.{behind}
use Rattle.ps_terms.specs.Machine.{Entry, State, Words, meaning, next, go}
use Rattle.ps_terms.specs.Stands.{Are, Frames, core, Means, Knows}
use Rattle.ps_terms.specs.Printing.{further}
use Rattle.ps_terms.proofs.Kept.{keeps_same}
use Rattle.ps_terms.proofs.Steps.{Room, Stepped, next_sound}
use Rattle.ps_tables.specs.Taken.{Takes}

pub takes_then : (a b : ℕ) (c c₁ c₂ : PsCore) → Takes a c c₁ → Takes b c₁ c₂ → Takes (further a b) c c₂
takes_then zero b c c₁ c₂ e h = subst (λ (x : PsCore). Takes b x c₂) (sym e) h
takes_then (suc a) b c c₁ c₂ g h = (g.0, g.1, takes_then a b g.0 c₁ c₂ g.2 h)

pub takes_one : (c c₁ : PsCore) → step c ≡ Next c₁ → Takes 1 c c₁
takes_one c c₁ e = (c₁, e, refl)

module _ {D : Type 0} (Op : Operates D) where
  pub taken : (k n m : ℕ) (d d' : D) (c c₁ c' : PsCore) (r : Answer) → Takes k c c₁ → Runs Op (further k n) d c r m d' c' → Runs Op n d c₁ r m d' c'
  taken zero n m d d' c c₁ c' r e run = subst (λ (x : PsCore). Runs Op n d x r m d' c') e run
  taken (suc k) n m d d' c c₁ c' r g run = taken k n m d d' g.0 c₁ c' r g.2 (behind Op (further k n) d c (Next g.0) r m d' c' g.1 run)

-- ---- on terms

abbrev pub EachMeans : StoreState → List DictId → Words → Type 0
EachMeans s ds [] = Unit {0}
EachMeans s ds (e ∷ es) = Means s ds e.0 e.1 × EachMeans s ds es

pub known : (s : StoreState) (ds : List DictId) (ws : Words) → EachMeans s ds ws → Knows s ds ws
known s ds [] h name entry e = absurd cc
known s ds (w ∷ ws) h name entry e = by_name (known s ds ws h.1 name entry) (bytes_eq w.0 name) refl e
  where
    by_name : (meaning ws name ≡ Some entry → Means s ds name entry) → (b : Bool) → bytes_eq w.0 name ≡ b → (if b then Some w.1 else meaning ws name) ≡ Some entry → Means s ds name entry
    by_name rest true f g =
        let same : w.0 ≡ name = (bytes_decides w.0 name).0 f in
        let it : w.1 ≡ entry = cc in
        subst (λ (n : List ℕ). Means s ds n entry) same (subst (λ (x : Entry). Means s ds w.0 x) it h.0)
    by_name rest false f g = rest g

module _ (s : StoreState) (ds : List DictId) (words : Words) (knows : Knows s ds words) (o : List PsObj) (under : List Item) (room : Room o under) where
  -- where so many steps of the machine on terms lead
  pub record Went (n : ℕ) (xs : List PsObj) (items : List Item) (st : State) : Type 0 where
    pub operands : List PsObj
    pub left : List Item
    pub are : Are s operands st.values
    pub frames : Frames s under left st.frames
    pub takes : Takes n (core s ds (xs ++ o) items) (core s ds (operands ++ o) left)

  pub goes : (k : ℕ) (st st' : State) → go words k st ≡ Some st' → (xs : List PsObj) (items : List Item) → Are s xs st.values → Frames s under items st.frames → Went k xs items st'
  goes zero st st' e xs items are frames =
      let same : st ≡ st' = cc in
      record {
        operands = xs;
        left = items;
        are = subst (λ (x : State). Are s xs x.values) same are;
        frames = subst (λ (x : State). Frames s under items x.frames) same frames;
        takes = refl;
      }
  goes (suc k) st st' e xs items are frames =
      on (λ st₁ h. goes k st₁ st' h) (next words st.frames st.values) (next_sound s s ds (keeps_same s ds) words knows o under room xs st.values items st.frames are frames) e
    where
      on : ((st₁ : State) → go words k st₁ ≡ Some st' → (ys : List PsObj) (is : List Item) → Are s ys st₁.values → Frames s under is st₁.frames → Went k ys is st') → (m : Option State)
          → Stepped s s ds (keeps_same s ds) words knows o under room xs items m → (elim m [ None ↦ None | Some st₁ ↦ go words k st₁ ]) ≡ Some st' → Went (suc k) xs items st'
      on rest None stepped h = absurd cc
      on rest (Some st₁) stepped h =
          let w : Went k stepped.0 stepped.1 st' = rest st₁ h stepped.0 stepped.1 stepped.3 stepped.4 in
          record { operands = w.operands; left = w.left; are = w.are; frames = w.frames; takes = (core s ds (stepped.0 ++ o) stepped.1, stepped.2, w.takes) }
