-- Each word that makes a dictionary does so.
use Rattle.std.proofs.Common.{◌≡◌, ℕ, zero, suc, ◌+◌, ◌<◌, ◌≤◌, Bool, true, false, bytes_eq, if◌then◌else◌, List, [], ◌∷◌, ◌++◌, length, map, refl, sym, ap, ◌∙◌, subst, arith, length-append, append_assoc}
use Rattle.ps_store.specs.declared.object.PsObj.{PsObj}
use Rattle.ps_store.specs.declared.object.PsObj.TheVariants.{Name}
use Rattle.ps_store.specs.declared.object.DictId.{DictId}
use Rattle.ps_store.specs.StoreState.{StoreState}
use Rattle.ps_step.specs.declared.item.Item.{Item}
use Rattle.ps_text.specs.Code.{Code, Stop}
use Rattle.ps_terms.specs.Machine.{entered}
use Rattle.ps_terms.specs.Stands.{Frames}
use Rattle.ps_terms.specs.Printing.{further}
use Rattle.ps_tables.specs.Dictionaries.{Fields, updated, filled, joined}
use Rattle.ps_tables.specs.Making.{taking, taking_steps, IsMaking, AreShort, HasFields, Makes}
use Rattle.ps_tables.specs.Makers.{Maker, Fresh, Begun, Twice, More, Told, telling, body, making_steps, taken_by, most, calls, Ready, MadeBy, Leaves}
use Rattle.ps_tables.proofs.Words.{makes}
use Rattle.ps_tables.proofs.Copies.{begins_as}
use Rattle.ps_tables.proofs.Shared.{names_twice, updated_length, joined_length, filled_length}
use Rattle.ps_tables.proofs.Called.{Calls, calls as enters_word, makes_more}
use Rattle.ps_tables.proofs.Told.{MakesTold, makes_told}

-- ---- names and numbers of fields

abbrev Short : Fields → Type 0
Short fields = AreShort (map (λ f. f.0) fields)

pub short_updated : (fs : Fields) (name : List ℕ) (v : PsObj) → Short fs → length name ≤ 127 → Short (updated fs name v)
short_updated [] name v h short = (short, tt)
short_updated (f ∷ fs) name v h short = by (bytes_eq name f.0) (short_updated fs name v h.1 short)
  where
    by : (b : Bool) → Short (updated fs name v) → Short (if b then (f.0, v) ∷ fs else f ∷ updated fs name v)
    by true r = h
    by false r = (h.0, r)

short_filled : (keys : List (List ℕ)) (vs : List PsObj) (fs : Fields) → Short fs → AreShort keys → Short (filled fs keys vs)
short_filled [] vs fs h short = h
short_filled (key ∷ keys) [] fs h short = h
short_filled (key ∷ keys) (v ∷ vs) fs h short = short_filled keys vs (updated fs key v) (short_updated fs key v h short.0) short.1

short_joined : (gs fs : Fields) → Short fs → Short gs → Short (joined fs gs)
short_joined [] fs h k = h
short_joined (g ∷ gs) fs h k = short_joined gs (updated fs g.0 g.1) (short_updated fs g.0 g.1 h k.0) k.1

module _ (s : StoreState) (ds : List DictId) where
  pub short_made : (m : Maker) (vs : List PsObj) (fields : Fields) → Ready s ds m → MadeBy s m vs fields → Short fields
  short_made (Fresh room keys) vs fields r h = subst Short (sym h) (short_filled keys vs [] tt r.0)
  short_made (Begun word dict begun room keys) vs fields r h =
      subst Short (sym h) (short_filled keys vs (joined [] begun) (short_joined begun [] tt r.1.short) r.2)
  short_made (Twice word dict begun room keys first second) vs fields r h =
      let base : Fields = filled (joined [] begun) keys h.0 in
      let one : Short base = short_filled keys h.0 (joined [] begun) (short_joined begun [] tt r.1.short) r.2.1.1 in
      subst Short (sym h.3) (short_updated (updated base first h.1) second h.1 (short_updated base first h.1 one r.2.0) r.2.1.0)
  short_made (More word m keys) vs fields r h = subst Short (sym h.5) (short_filled keys h.1 h.2 (short_made m h.0 h.2 r.1 h.4) r.2)
  short_made (Told word m key name) vs fields r h = subst Short (sym h.4) (short_updated h.0 key (Name h.1 false) (short_made m vs h.0 r.1 h.3) r.2)

  pub most_made : (m : Maker) (vs : List PsObj) (fields : Fields) → MadeBy s m vs fields → length fields ≤ most m
  most_made (Fresh room keys) vs fields h =
      let a : length (filled [] keys vs) ≤ 0 + length keys = filled_length keys vs [] in
      subst (λ (fs : Fields). length fs ≤ length keys) (sym h) (omega arith)
  most_made (Begun word dict begun room keys) vs fields h =
      let a : length (filled (joined [] begun) keys vs) ≤ length (joined [] begun) + length keys = filled_length keys vs (joined [] begun) in
      let b : length (joined [] begun) ≤ 0 + length begun = joined_length begun [] in
      subst (λ (fs : Fields). length fs ≤ length begun + length keys) (sym h) (omega arith)
  most_made (Twice word dict begun room keys first second) vs fields h =
      let base : Fields = filled (joined [] begun) keys h.0 in
      let a : length base ≤ length (joined [] begun) + length keys = filled_length keys h.0 (joined [] begun) in
      let b : length (joined [] begun) ≤ 0 + length begun = joined_length begun [] in
      let c : length (updated base first h.1) ≤ length base + 1 = updated_length base first h.1 in
      let d : length (updated (updated base first h.1) second h.1) ≤ length (updated base first h.1) + 1 = updated_length (updated base first h.1) second h.1 in
      subst (λ (fs : Fields). length fs ≤ length begun + length keys + 2) (sym h.3) (omega arith)
  most_made (More word m keys) vs fields h =
      let a : length (filled h.2 keys h.1) ≤ length h.2 + length keys = filled_length keys h.1 h.2 in
      let b : length h.2 ≤ most m = most_made m h.0 h.2 h.4 in
      subst (λ (fs : Fields). length fs ≤ most m + length keys) (sym h.5) (omega arith)
  most_made (Told word m key name) vs fields h =
      let a : length (updated h.0 key (Name h.1 false)) ≤ length h.0 + 1 = updated_length h.0 key (Name h.1 false) in
      let b : length h.0 ≤ most m = most_made m vs h.0 h.3 in
      subst (λ (fs : Fields). length fs ≤ most m + 1) (sym h.4) (omega arith)

-- ---- operands in two parts

split : (n k : ℕ) (vs : List PsObj) → length vs ≡ n + k → (us ws : List PsObj) × (vs ≡ us ++ ws) × (length us ≡ n) × (length ws ≡ k)
split zero k vs h = ([], vs, refl, refl, omega arith)
split (suc n) k [] h = absurd (omega arith)
split (suc n) k (v ∷ vs) h = let r = split n k vs (omega arith) in (v ∷ r.0, r.1, ap (λ (l : List PsObj). v ∷ l) r.2, ap suc r.3, r.4)

pub only : (ws : List PsObj) → length ws ≡ 1 → (w : PsObj) × (ws ≡ w ∷ [])
only [] h = absurd (omega arith)
only (w ∷ []) h = (w, refl)
only (w ∷ x ∷ ws) h = absurd (omega arith)

-- ---- words

-- a word's procedure is not empty
pub body_frames : (s : StoreState) (m : Maker) (items under : List Item) → Frames s under items (entered (body m) []) → Frames s under items (body m ∷ [])
body_frames s (Fresh room keys) items under h = h
body_frames s (Begun word dict begun room keys) items under h = h
body_frames s (Twice word dict begun room keys first second) items under h = h
body_frames s (More word m keys) items under h = h
body_frames s (Told word m key name) items under h = h

module _ (s : StoreState) (ds : List DictId) (is : IsMaking s ds) where
  pub leaves : (m : Maker) (vs o : List PsObj) (items under : List Item) → Ready s ds m → length vs ≡ taken_by m → s.table.units + s.command.units + (1 + most m) ≤ 8000000
      → length (vs ++ o) + 105 ≤ 100000 → length under + 12 + calls m ≤ 1000 → Frames s under items (body m ∷ []) → Leaves s ds m vs o items under
  leaves (Fresh room keys) vs o items under r same units stack nested frames = record {
    fields = filled [] keys vs;
    are = refl;
    makes = makes s ds room keys vs o items under is r.0 same r.1 (record { units = units; operands = omega arith; items = omega arith }) frames;
  }
  leaves (Begun word dict begun room keys) vs o items under r same units stack nested frames = record {
    fields = filled (joined [] begun) keys vs;
    are = refl;
    makes = begins_as s ds is word room begun keys vs dict o items under r.0 r.1 r.2 same r.3 (record { units = units; operands = omega arith; items = omega arith }) frames;
  }
  leaves (Twice word dict begun room keys first second) vs o items under r same units stack nested frames =
      let parts : (us ws : List PsObj) × (vs ≡ us ++ ws) × (length us ≡ length keys) × (length ws ≡ 1) = split (length keys) 1 vs (omega arith) in
      let last : (w : PsObj) × (parts.1 ≡ w ∷ []) = only parts.1 parts.4 in
      let us : List PsObj = parts.0 in
      let v : PsObj = last.0 in
      let whole : vs ≡ us ++ v ∷ [] = parts.2 ∙ ap (λ (l : List PsObj). us ++ l) last.1 in
      let on : vs ++ o ≡ us ++ v ∷ o = ap (λ (l : List PsObj). l ++ o) whole ∙ append_assoc us (v ∷ []) o in
      let long : length (vs ++ o) ≡ length (us ++ v ∷ o) = ap length on in
      let fields : Fields = updated (updated (filled (joined [] begun) keys us) first v) second v in
      record {
        fields = fields;
        are = (us, v, whole, refl);
        makes = subst (λ (l : List PsObj). Makes (making_steps (Twice word dict begun room keys first second)) s ds fields l items o under) (sym on)
            (names_twice s ds is word room begun keys first second us v dict o items under r.0 r.1 r.2 parts.3 r.3 (record { units = omega arith; operands = omega arith; items = omega arith }) frames);
      }
  leaves (More word m keys) vs o items under r same units stack nested frames =
      let parts : (us ws : List PsObj) × (vs ≡ us ++ ws) × (length us ≡ taken_by m) × (length ws ≡ length keys) = split (taken_by m) (length keys) vs same in
      let us : List PsObj = parts.0 in
      let ws : List PsObj = parts.1 in
      let on : vs ++ o ≡ us ++ (ws ++ o) = ap (λ (l : List PsObj). l ++ o) parts.2 ∙ append_assoc us ws o in
      let long : length (vs ++ o) ≡ length (us ++ (ws ++ o)) = ap length on in
      let longer : length (us ++ (ws ++ o)) ≡ length us + length (ws ++ o) = length-append us (ws ++ o) in
      let c : Calls s ds is (body m) (taking keys Stop) (us ++ (ws ++ o)) under items =
      enters_word s ds is word (body m) (taking keys Stop) (us ++ (ws ++ o)) under items r.0 (omega arith) frames in
      let few : length c.left ≤ length under + 1 = c.few in
      let inner : Leaves s ds m us (ws ++ o) c.after c.left = leaves m us (ws ++ o) c.after c.left r.1 parts.3 (omega arith) (omega arith) (omega arith) (body_frames s m c.after c.left c.inner) in
      let size : length inner.fields ≤ most m = most_made s ds m us inner.fields inner.are in
      record {
        fields = filled inner.fields keys ws;
        are = (us, ws, inner.fields, parts.2, inner.are, refl, parts.3);
        makes = subst (λ (l : List PsObj). Makes (making_steps (More word m keys)) s ds (filled inner.fields keys ws) l items o under) (sym on)
            (makes_more s ds is (making_steps m) inner.fields keys (us ++ (ws ++ o)) ws o items under (body m) c inner.makes r.2 parts.4 (omega arith) (omega arith) (omega arith) (omega arith));
      }
  leaves (Told word m key name) vs o items under r same units stack nested frames =
      let c : Calls s ds is (body m) (telling key name Stop) (vs ++ o) under items =
      enters_word s ds is word (body m) (telling key name Stop) (vs ++ o) under items r.0 (omega arith) frames in
      let few : length c.left ≤ length under + 1 = c.few in
      let inner : Leaves s ds m vs o c.after c.left = leaves m vs o c.after c.left r.1 same (omega arith) stack (omega arith) (body_frames s m c.after c.left c.inner) in
      let size : length inner.fields ≤ most m = most_made s ds m vs inner.fields inner.are in
      let all : length (vs ++ o) ≡ length vs + length o = length-append vs o in
      let t : MakesTold s ds is (making_steps m) inner.fields key name (vs ++ o) o items under =
      makes_told s ds is (making_steps m) inner.fields key name (vs ++ o) o items under (body m) c inner.makes r.2 (omega arith) (omega arith) (omega arith) (omega arith) in
      record {
        fields = updated inner.fields key (Name t.value false);
        are = (inner.fields, t.value, t.is_name, inner.are, refl);
        makes = t.makes;
      }
