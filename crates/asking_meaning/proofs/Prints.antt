-- `print`.
use Rattle.std.proofs.Common.{◌≡◌, ℕ, Bool, true, false, List, [], ◌∷◌, ◌++◌, append-nil, codes, Option, Some, None, Ok, Err, refl, sym}
use Rattle.machine_state.specs.declared.layout.TheConstants.{CONTEXT}
use Rattle.ps_store.specs.declared.object.DictId.{DictId}
use Rattle.ps_store.specs.declared.object.PsObj.{PsObj}
use Rattle.ps_store.specs.declared.object.PsObj.TheVariants.{Dict}
use Rattle.ps_store.specs.StoreState.{StoreState}
use Rattle.ps_step.specs.State.{pushing}
use Rattle.ps_step.specs.Results as results
use Rattle.frame_bytes.specs.declared.frame.Frame.{Frame}
use Rattle.table_model.specs.Reading.{Walked, entry, dict_at}
use Rattle.table_model.specs.Frames.{frame_at}
use Rattle.table_model.specs.Symbols.{scope_of, symbol_named, is_function}
use Rattle.dialect_model.specs.Dial.{Dial, InFrame}
use Rattle.dialect_model.specs.TableUse.{Refused, Eval, Looks, gives, ◌>>=◌}
use Rattle.dialect_model.specs.Running.{Run, or_error, beginning, running}
use Rattle.c_reading.specs.Readings.{is_identifier}
use Rattle.table_asks.specs.declared.fault.Cause.{Cause}
use Rattle.table_asks.specs.declared.fault.Cause.TheVariants as cause
use Rattle.asking.specs.Lines.{line}
use Rattle.asking.specs.Frames as asked_frames
use Rattle.asking.specs.Printing as asked
use Rattle.claims.specs.Side.{SideState, Change, OnSide, row_of, memory_of, target_of, dial_of}
use Rattle.claims.specs.Frames as side_frames
use Rattle.claims.specs.Printing as side
use Rattle.asking_meaning.specs.Meant.{Covers, Says}
use Rattle.asking_meaning.proofs.Covering.{gives_covers, fails_covers, after_gives, looks_cover}
use Rattle.asking_meaning.proofs.Steps.{Same, step, step_asked, step_side, step_both, error_covers, running_covers}
use Rattle.asking_meaning.proofs.Texts.{beginning_covers}

-- ---- refusals

frame_covers : (o : Option Frame) → Covers (Same Frame) (asked_frames.or_no_frame o) (side_frames.or_no_frame o)
frame_covers None = fails_covers (Refused cause.NoFrame)
frame_covers (Some f) = gives_covers f f refl

name_covers : (b : Bool) → Covers (Same (Unit {0})) (asked.one_name b) (side.one_name b)
name_covers true = gives_covers tt tt refl
name_covers false = fails_covers (Refused cause.BadSyntax)

scope_covers : (o : Option DictId) → Covers (Same DictId) (asked.or_no_scope o) (side.or_no_scope o)
scope_covers None = fails_covers (Refused cause.NoScope)
scope_covers (Some x) = gives_covers x x refl

object_covers : (b : Bool) → Covers (Same (Unit {0})) (asked.of_object b) (side.of_object b)
object_covers true = fails_covers (Refused cause.BadType)
object_covers false = gives_covers tt tt refl

-- ---- the type

same_printed : (s : StoreState) (t : DictId) → asked.printed_type s t ≡ side.printed_type s t
unfolding asked.printed_type
same_printed s t = refl

same_behind : (w : Walked DictId) (f g : DictId → Walked DictId) → ((t : DictId) → f t ≡ g t) → results.◌>>=◌ w f ≡ results.◌>>=◌ w g
same_behind (Ok t) f g h = h t
same_behind (Err l) f g h = refl

type_covers : (x : DictId) → Covers (Same DictId) (asked.type_of x) (Looks (λ s. results.◌>>=◌ (dict_at s x (codes "type")) (side.printed_type s)))
type_covers x =
    looks_cover (λ s. results.◌>>=◌ (dict_at s x (codes "type")) (asked.printed_type s)) (λ s. results.◌>>=◌ (dict_at s x (codes "type")) (side.printed_type s))
    (λ s. same_behind (dict_at s x (codes "type")) (asked.printed_type s) (side.printed_type s) (same_printed s))

look : {A : Type 0} (q : StoreState → Walked A) → Covers (Same A) (Looks q) (Looks q)
look q = looks_cover q q (λ s. refl)

module _ (a : SideState) where
  -- ---- the text

  abbrev said : Run → Eval Cause (List ℕ)
  said run = gives (line (codes "value " ++ run.dial.out))

  abbrev tells : List ℕ → OnSide Change
  tells text = gives (record { lines = (codes "value " ++ text) ∷ []; side = a })

  abbrev done : Run → OnSide (List ℕ)
  done run = gives run.dial.out

  said_covers : (run : Run) → Covers (Says a) (said run) (done run >>= tells)
  said_covers run =
      after_gives (said run) run.dial.out tells
      (gives_covers (line (codes "value " ++ run.dial.out)) (record { lines = (codes "value " ++ run.dial.out) ∷ []; side = a }) (sym (append-nil (line (codes "value " ++ run.dial.out))), refl))

  module _ (type : DictId) where
    abbrev printers : OnSide PsObj
    printers = Looks (λ s. entry s type (codes "printer"))

    -- what the machine session does behind the run of the symbol's procedure
    abbrev shows : Run → OnSide (List ℕ)
    shows run = or_error (pushing (Dict type) run.core) >>= λ pushed. printers >>= λ printer. running printer run.dial pushed >>= done

    shown_covers : (run : Run) → Covers (Says a) (asked.shown type run >>= said) (shows run >>= tells)
    shown_covers run =
        let q = λ (s : StoreState). entry s type (codes "printer") in
        step_both {Q = Says a} (or_error (pushing (Dict type) run.core)) (or_error (pushing (Dict type) run.core)) (error_covers (pushing (Dict type) run.core))
        (λ pushed. Looks q >>= λ printer. running printer run.dial pushed) said (λ pushed. printers >>= λ printer. running printer run.dial pushed >>= done) tells (λ pushed.
        step_both {Q = Says a} (Looks q) printers (look q) (λ printer. running printer run.dial pushed) said (λ printer. running printer run.dial pushed >>= done) tells (λ printer.
        step_side {Q = Says a} (running printer run.dial pushed) (running printer run.dial pushed) (running_covers printer run.dial pushed) said done tells said_covers))

    module _ (x : DictId) (d : Dial) where
      abbrev wheres : OnSide PsObj
      wheres = Looks (λ s. asked.procedure_of s x)

      placed_covers : Covers (Says a) (asked.placed x d >>= λ run. asked.shown type run >>= said) ((wheres >>= λ where_is. beginning >>= λ c. running where_is d c >>= shows) >>= tells)
      placed_covers =
          let q = λ (s : StoreState). asked.procedure_of s x in
          let behind = λ (run : Run). asked.shown type run >>= said in
          step_both {Q = Says a} (Looks q) wheres (look q) (λ where_is. beginning >>= λ c. running where_is d c) behind (λ where_is. beginning >>= λ c. running where_is d c >>= shows) tells (λ where_is.
          step_both {Q = Says a} beginning beginning beginning_covers (λ c. running where_is d c) behind (λ c. running where_is d c >>= shows) tells (λ c.
          step_side {Q = Says a} (running where_is d c) (running where_is d c) (running_covers where_is d c) behind shows tells shown_covers))

  -- ---- a variable in a frame

  module _ (f : Frame) (scope : Option DictId) (x : DictId) where
    abbrev dial : Dial
    dial = dial_of a (InFrame f scope) false

    abbrev prints : DictId → OnSide Change
    prints type = side.printed a f scope x type >>= tells

    abbrev behind_type : DictId → Eval Cause (List ℕ)
    behind_type type = asked.placed x dial >>= λ run. asked.shown type run >>= said

    printed_covers : Covers (Says a) (asked.printed x dial)
        (Looks (λ s. is_function s x) >>= λ function. side.of_object function >>= λ v. Looks (λ s. results.◌>>=◌ (dict_at s x (codes "type")) (side.printed_type s)) >>= prints)
    printed_covers =
        let types = Looks (λ s. results.◌>>=◌ (dict_at s x (codes "type")) (side.printed_type s)) in
        step_asked {Q = Says a} (Looks (λ s. is_function s x)) (Looks (λ s. is_function s x)) (look (λ s. is_function s x)) (λ function. asked.of_object function >>= λ v. asked.type_of x) behind_type
        (λ function. side.of_object function >>= λ v. types >>= prints) (λ function.
        step_asked {Q = Says a} (asked.of_object function) (side.of_object function) (object_covers function) (λ v. asked.type_of x) behind_type (λ v. types >>= prints) (λ v.
        step {Q = Says a} (asked.type_of x) types (type_covers x) behind_type prints (λ type. placed_covers type x dial)))

  -- ---- the whole

  module _ (name : List ℕ) where
    abbrev behind_symbol : Frame → Option DictId → DictId → OnSide Change
    behind_symbol f scope x =
        Looks (λ s. is_function s x) >>= λ function. side.of_object function >>= λ v. Looks (λ s. results.◌>>=◌ (dict_at s x (codes "type")) (side.printed_type s)) >>= prints f scope x

    abbrev behind_scope : Frame → Option DictId → OnSide Change
    behind_scope f scope = Looks (λ s. symbol_named s scope name) >>= λ found. side.or_no_scope found >>= behind_symbol f scope

    abbrev behind_frame : Frame → OnSide Change
    behind_frame f = side.one_name (is_identifier name) >>= λ u. Looks (λ s. scope_of s a.frame f) >>= behind_scope f

    in_frame_covers : (f : Frame) → Covers (Says a) (asked.printed_in a.frame f name (target_of a)) (behind_frame f)
    in_frame_covers f =
        let scopes = λ (s : StoreState). scope_of s a.frame f in
        let printed = λ (scope : Option DictId) (x : DictId). asked.printed x (dial_of a (InFrame f scope) false) in
        let found = λ (scope : Option DictId) (o : Option DictId). asked.or_no_scope o >>= printed scope in
        let looked = λ (scope : Option DictId) (s : StoreState). symbol_named s scope name in
        step {Q = Says a} (asked.one_name (is_identifier name)) (side.one_name (is_identifier name)) (name_covers (is_identifier name)) (λ u. Looks scopes >>= λ scope. Looks (looked scope) >>= found scope) (λ u. Looks scopes >>= behind_scope f) (λ u.
        step {Q = Says a} (Looks scopes) (Looks scopes) (look scopes) (λ scope. Looks (looked scope) >>= found scope) (behind_scope f) (λ scope.
        step {Q = Says a} (Looks (looked scope)) (Looks (looked scope)) (look (looked scope)) (found scope) (λ o. side.or_no_scope o >>= behind_symbol f scope) (λ o.
        step {Q = Says a} (asked.or_no_scope o) (side.or_no_scope o) (scope_covers o) (printed scope) (behind_symbol f scope) (λ x. printed_covers f scope x))))

    pub printing_covers : Covers (Says a) (asked.printing a.frame name (target_of a)) (side.printing a name)
    printing_covers =
        let frames = λ (s : StoreState). frame_at (row_of a) s (memory_of a) CONTEXT a.frame in
        let printed = λ (f : Frame). asked.printed_in a.frame f name (target_of a) in
        step_side {Q = Says a} (Looks frames) (Looks frames) (look frames) (λ o. asked_frames.or_no_frame o >>= printed) side_frames.or_no_frame behind_frame (λ o.
        step {Q = Says a} (asked_frames.or_no_frame o) (side_frames.or_no_frame o) (frame_covers o) printed behind_frame in_frame_covers)
