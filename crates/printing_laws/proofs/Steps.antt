-- A step leaves what is closed.
use Rattle.std.proofs.Common.{ℕ, ℤ, pos, ◌+ℤ◌, zero, suc, ◌+◌, ◌-◌, Bool, true, false, nat_lt, if◌then◌else◌, Option, Some, None, Result, Ok, Err, List, [], ◌∷◌, length, drop, take, reverse, option_map, slice_get, slice_index_or}
use Rattle.ps_scan.specs.declared.token.PsKind.{PsKind}
use Rattle.ps_scan.specs.declared.token.PsKind.TheVariants.{Integer, Name as Word, LiteralName, Str as Text', Open, Close}
use Rattle.ps_scan.specs.declared.token.PsToken.{PsToken}
use Rattle.ps_scan.specs.Number.{value_of}
use Rattle.ps_scan.specs.Characters.{string_value}
use Rattle.ps_scan.specs.declared.token.SyntaxError.{SyntaxError as BadToken}
use Rattle.ps_scan.specs.Token.{next_token_of}
use Rattle.ps_store.specs.declared.object.ArrayId.{ArrayId}
use Rattle.ps_store.specs.declared.object.Pair.{Pair}
use Rattle.ps_store.specs.declared.object.PsObj.{PsObj}
use Rattle.ps_store.specs.declared.object.PsObj.TheVariants.{Int, Bool as Truth, Name, Str, Array, Op, Mark, Null}
use Rattle.ps_store.specs.declared.object.StringId.{StringId}
use Rattle.ps_store.specs.StoreState.{StoreState}
use Rattle.ps_store.specs.Store.{bytes_of, elements_of, entries_of, making_string, making_name, making_array}
use Rattle.ps_step.specs.declared.fault.PsError.{PsError}
use Rattle.ps_step.specs.declared.fault.PsError.TheVariants.{StackOverflow, SyntaxError, Undefined}
use Rattle.ps_step.specs.declared.item.Item.{Item}
use Rattle.ps_step.specs.declared.item.Item.TheVariants.{Object, Procedure, Text, Repeat, For, ForArray, ForString, ForDict, Loop, LastTurn, Stopped}
use Rattle.ps_step.specs.declared.machine.PsCore.{PsCore}
use Rattle.ps_step.specs.declared.operator.Operator.{Operator}
use Rattle.ps_step.specs.CopyOperators.{MadeOrLeft}
use Rattle.ps_step.specs.Executing.{Turn, alone, acting, executing, meeting, operating}
use Rattle.ps_step.specs.Item.{under_stopped}
use Rattle.ps_step.specs.Keys.{named}
use Rattle.ps_step.specs.Marks.{mark_from}
use Rattle.ps_step.specs.Operator.{operator_at}
use Rattle.ps_step.specs.Results.{◌>>=◌, at, stored}
use Rattle.ps_step.specs.ControlOperators.{goes_on}
use Rattle.ps_step.specs.State.{Made, with_execution, with_operands, pushing, scheduling, calling}
use Rattle.ps_run.specs.Scan.{MadeObject, name_text, naming_text, object_of, procedure_of_top, Read, More, Whole, Nothing, Bad, placed, closed, read_token, ended, reading, reading_all, reading_object, word_of}
use Rattle.ps_run.specs.Step.{Outcome, Ended, Next, Asks, Failed, raising, settled, turning, turning_pair, going_on, in_turn, stepping, step}
use Rattle.printing_laws.proofs.Leaving.{All, all_map, behind_all, Both, behind_both, at_both, either_both, Leaves, leaves_same, leaves_on}
use Rattle.printing_laws.proofs.Stores.{array_leaves, text_leaves}
use Rattle.printing_laws.proofs.Operators.{After, Raised, pushed, scheduled, called, operated}

-- ---- an object is executed

module _ (c : PsCore) where
  abbrev Turned : Turn → Type 0
  Turned t = Both (λ turn. Leaves c.store turn.0.store) (Raised c) t

  alone_left : (r : MadeOrLeft) → Both (After c) (Raised c) r → Turned (alone r)
  alone_left (Ok c') l = l
  alone_left (Err failed) l = l

  same : Leaves c.store c.store
  same = leaves_same c.store

  numbered_left : (n : ℕ) (o : Option Operator) → Turned (elim o [ Some op ↦ alone (operating op c) | None ↦ Ok (c, Some (n - 61)) ])
  numbered_left n (Some op) = alone_left (operating op c) (operated c op)
  numbered_left n None = same

  made_left : (r : Made) → All (After c) r → Turned (alone (at c r))
  made_left r l = alone_left (at c r) (at_both (After c) (Raised c) c r l (λ e. same))

  acting_left : (x : PsObj) → Turned (acting x c)
  acting_left (Array a true) = made_left (calling a c) (called c a)
  acting_left (Op n) = numbered_left n (operator_at n)
  acting_left (Name t true) = made_left (scheduling (Object (Name t true)) c) (scheduled c (Object (Name t true)))
  acting_left (Str t true) = made_left (scheduling (Text t 0) c) (scheduled c (Text t 0))
  acting_left x = made_left (pushing x c) (pushed c x)

  named_left : (o : Option PsObj) → Turned (elim o [ Some x ↦ acting x c | None ↦ Err (Undefined, c) ])
  named_left (Some x) = acting_left x
  named_left None = same

  executing_left : (x : PsObj) → Turned (executing x c)
  executing_left (Name t true) = named_left (named c.store c.dictionaries (bytes_of c.store t))
  executing_left x = acting_left x

  meeting_left : (x : PsObj) → Turned (meeting x c)
  meeting_left (Array a true) = made_left (pushing (Array a true) c) (pushed c (Array a true))
  meeting_left x = executing_left x

  entered_left : (body : ArrayId) → Turned (alone (at c (calling body c)))
  entered_left body = made_left (calling body c) (called c body)

  turned_left : (x : PsObj) (body : ArrayId) → Turned (alone (turning x body c))
  turned_left x body =
      alone_left (turning x body c)
      (behind_both (After c) (Raised c) (After c) (at c (pushing x c)) (λ c'. at c' (calling body c')) (at_both (After c) (Raised c) c (pushing x c) (pushed c x) (λ e. same))
      (λ c' l. at_both (After c) (Raised c) c' (calling body c') (all_map (After c') (After c) (λ q k. leaves_on c.store c'.store q.store l k) (calling body c') (called c' body)) (λ e. l)))

  pair_left : (o : Option Pair) (body : ArrayId) → Turned (alone (turning_pair o body c))
  pair_left None body = same
  pair_left (Some pair) body =
      let c' : PsCore = with_operands c (pair.value ∷ pair.key ∷ c.operands) in
      alone_left (turning_pair (Some pair) body c)
      (either_both (After c) (Raised c) (nat_lt 99998 (length c.operands)) (Err (StackOverflow, c)) (at c' (calling body c')) same
      (at_both (After c) (Raised c) c' (calling body c') (called c' body) (λ e. same)))

-- ---- objects are read

abbrev ReadLeft : StoreState → Read → Type 0
ReadLeft s (More s' xs at) = Leaves s s'
ReadLeft s (Whole x s' at) = Leaves s s'
ReadLeft s (Nothing s') = Leaves s s'
ReadLeft s (Bad e s') = Leaves s s'

read_on : (s s' : StoreState) → Leaves s s' → (r : Read) → ReadLeft s' r → ReadLeft s r
read_on s s' l (More t xs at) k = leaves_on s s' t l k
read_on s s' l (Whole x t at) k = leaves_on s s' t l k
read_on s s' l (Nothing t) k = leaves_on s s' t l k
read_on s s' l (Bad e t) k = leaves_on s s' t l k

module _ (s : StoreState) where
  abbrev Made' : PsObj × StoreState → Type 0
  Made' made = Leaves s made.1

  name_left : (o : Option (List ℕ)) (x : Bool) → All Made' (naming_text s o x)
  name_left None x = tt
  name_left (Some word) x = behind_all Made' (λ made. Leaves s made.1) (stored (making_name s word)) _ (text_leaves 127 s word) (λ made l. l)

  number_left : (o : Option ℤ) → All Made' (elim o [ Some n ↦ Ok (Int n, s) | None ↦ Err SyntaxError ])
  number_left (Some n) = leaves_same s
  number_left None = tt

  object_left : (text : List ℕ) (token : PsToken) → All Made' (object_of s text token)
  object_left text token = by_kind token.kind
    where
      by_kind : (k : PsKind) → All Made' (elim k [
        | Integer ↦ elim (value_of (word_of text token)) [ Some n ↦ Ok (Int n, s) | None ↦ Err SyntaxError ]
        | Word ↦ naming_text s (name_text (word_of text token)) true
        | LiteralName ↦ naming_text s (name_text (drop 1 (word_of text token))) false
        | Text' ↦ stored (making_string s (string_value (word_of text token))) >>= λ given. Ok (Str given.0 false, given.1)
        | Open ↦ Err SyntaxError
        | Close ↦ Err SyntaxError
      ])
      by_kind Integer = number_left (value_of (word_of text token))
      by_kind Word = name_left (name_text (word_of text token)) true
      by_kind LiteralName = name_left (name_text (drop 1 (word_of text token))) false
      by_kind Text' =
          behind_all Made' (λ made. Leaves s made.1) (stored (making_string s (string_value (word_of text token)))) _ (text_leaves 16777216 s (string_value (word_of text token))) (λ made l. l)
      by_kind Open = tt
      by_kind Close = tt

  placed_read : (xs : List PsObj) (at : ℕ) (r : MadeObject) → All Made' r → ReadLeft s (placed xs at s r)
  placed_read xs at (Err e) l = leaves_same s
  placed_read [] at (Ok made) l = l
  placed_read (y ∷ ys) at (Ok made) l = l

  closed_read : (xs : List PsObj) (at : ℕ) → ReadLeft s (closed xs at s)
  closed_read xs at = by_mark (mark_from 0 xs)
    where
      by_mark : (o : Option ℕ) → ReadLeft s (elim o [ None ↦ Bad SyntaxError s | Some n ↦ placed (drop (n + 1) xs) at s (procedure_of_top s xs n) ])
      by_mark None = leaves_same s
      by_mark (Some n) = placed_read (drop (n + 1) xs) at (procedure_of_top s xs n)
          (behind_all Made' (λ made. Leaves s made.1) (stored (making_array s (reverse (take n xs)))) _ (array_leaves s (reverse (take n xs))) (λ made l. l))

  token_read : (text : List ℕ) (xs : List PsObj) (token : PsToken) → ReadLeft s (read_token s text xs token)
  token_read text xs token = by_kind token.kind
    where
      by_kind : (k : PsKind) → ReadLeft s (elim k [
        | Open ↦ More s (Mark ∷ xs) token.to
        | Close ↦ closed xs token.to s
        | Integer ↦ placed xs token.to s (object_of s text token)
        | Word ↦ placed xs token.to s (object_of s text token)
        | LiteralName ↦ placed xs token.to s (object_of s text token)
        | Text' ↦ placed xs token.to s (object_of s text token)
      ])
      by_kind Open = leaves_same s
      by_kind Close = closed_read xs token.to
      by_kind Integer = placed_read xs token.to (object_of s text token) (object_left text token)
      by_kind Word = placed_read xs token.to (object_of s text token) (object_left text token)
      by_kind LiteralName = placed_read xs token.to (object_of s text token) (object_left text token)
      by_kind Text' = placed_read xs token.to (object_of s text token) (object_left text token)

  ended_read : (xs : List PsObj) → ReadLeft s (ended s xs)
  ended_read [] = leaves_same s
  ended_read (x ∷ xs) = leaves_same s

  maybe_read : (text : List ℕ) (xs : List PsObj) (o : Option PsToken) → ReadLeft s (elim o [ None ↦ ended s xs | Some token ↦ read_token s text xs token ])
  maybe_read text xs None = ended_read xs
  maybe_read text xs (Some token) = token_read text xs token

  one_read : (t : StringId) (xs : List PsObj) (at : ℕ) → ReadLeft s (reading s t xs at)
  one_read t xs at = by_end (nat_lt (length (bytes_of s t)) at) (next_token_of (bytes_of s t) at)
    where
      by_end : (b : Bool) (r : Result (Option PsToken) BadToken) → ReadLeft s (if b then Bad SyntaxError s else elim r [ Err e ↦ Bad SyntaxError s | Ok token ↦ elim token [ None ↦ ended s xs | Some token ↦ read_token s (bytes_of s t) xs token ] ])
      by_end true r = leaves_same s
      by_end false (Err e) = leaves_same s
      by_end false (Ok o) = maybe_read (bytes_of s t) xs o

all_read : (n : ℕ) (s : StoreState) (t : StringId) (xs : List PsObj) (at : ℕ) → ReadLeft s (reading_all n s t xs at)
all_read zero s t xs at = leaves_same s
all_read (suc n) s t xs at = by_read (reading s t xs at) (one_read s t xs at) (λ s' xs' at'. all_read n s' t xs' at')
  where
    by_read : (r : Read) → ReadLeft s r → ((s' : StoreState) (xs' : List PsObj) (at' : ℕ) → ReadLeft s' (reading_all n s' t xs' at')) → ReadLeft s (elim r [
      | More s' xs' at' ↦ reading_all n s' t xs' at'
      | Whole x s' at' ↦ Whole x s' at'
      | Nothing s' ↦ Nothing s'
      | Bad e s' ↦ Bad e s'
    ])
    by_read (More s' xs' at') l rest = read_on s s' l (reading_all n s' t xs' at') (rest s' xs' at')
    by_read (Whole x s' at') l rest = l
    by_read (Nothing s') l rest = l
    by_read (Bad e s') l rest = l

object_read : (s : StoreState) (t : StringId) (at : ℕ) → ReadLeft s (reading_object s t at)
object_read s t at = all_read (length (bytes_of s t) + 1) s t [] at

-- ---- steps

abbrev pub OutcomeLeft : StoreState → Outcome → Type 0
OutcomeLeft s (Ended c) = Leaves s c.store
OutcomeLeft s (Next c) = Leaves s c.store
OutcomeLeft s (Asks op c) = Leaves s c.store
OutcomeLeft s (Failed e c) = Leaves s c.store

outcome_on : (s s' : StoreState) → Leaves s s' → (o : Outcome) → OutcomeLeft s' o → OutcomeLeft s o
outcome_on s s' l (Ended c) k = leaves_on s s' c.store l k
outcome_on s s' l (Next c) k = leaves_on s s' c.store l k
outcome_on s s' l (Asks op c) k = leaves_on s s' c.store l k
outcome_on s s' l (Failed e c) k = leaves_on s s' c.store l k

outcome_if : (s : StoreState) (b : Bool) (x y : Outcome) → OutcomeLeft s x → OutcomeLeft s y → OutcomeLeft s (if b then x else y)
outcome_if s true x y g h = g
outcome_if s false x y g h = h

pub raised_left : (s : StoreState) (e : PsError) (c : PsCore) → Leaves s c.store → OutcomeLeft s (raising e c)
raised_left s e c l = by_stopped (under_stopped c.execution)
  where
    by_stopped : (u : Option (List Item)) → OutcomeLeft s (elim u [
      | None ↦ Failed e (with_execution c [])
      | Some rest ↦
          if nat_lt (length c.operands) 100000 then Next (record c { operands = Truth true ∷ c.operands; execution = rest })
          else Failed StackOverflow (with_execution c [])
    ])
    by_stopped None = l
    by_stopped (Some rest) = outcome_if s (nat_lt (length c.operands) 100000) _ _ l l

asked_left : (s : StoreState) (o : Option ℕ) (c : PsCore) → Leaves s c.store → OutcomeLeft s (elim o [ None ↦ Next c | Some op ↦ Asks op c ])
asked_left s None c l = l
asked_left s (Some op) c l = l

settled_left : (s : StoreState) (t : Turn) → Both (λ turn. Leaves s turn.0.store) (λ failed. Leaves s failed.1.store) t → OutcomeLeft s (settled t)
settled_left s (Ok turn) l = asked_left s turn.1 turn.0 l
settled_left s (Err failed) l = raised_left s failed.0 failed.1 l

stepping_left : (items : List Item) (c : PsCore) → OutcomeLeft c.store (stepping items c)
stepping_left [] c = leaves_same c.store
stepping_left (Stopped ∷ rest) c = outcome_if c.store (nat_lt (length c.operands) 100000) _ _ (stepping_left rest (record c { operands = Truth false ∷ c.operands; execution = rest })) (leaves_same c.store)
stepping_left (Text t n ∷ rest) c = by_read (reading_object c.store t n) (object_read c.store t n) (λ c'. stepping_left rest c')
  where
    by_read : (r : Read) → ReadLeft c.store r → ((c' : PsCore) → OutcomeLeft c'.store (stepping rest c')) → OutcomeLeft c.store (elim r [
      | Nothing s ↦ stepping rest (record c { store = s; execution = rest })
      | Whole x s next ↦ settled (meeting x (record c { store = s; execution = Text t next ∷ rest }))
      | Bad e s ↦ raising e (record c { store = s; execution = rest })
      | More s xs next ↦ Ended c
    ])
    by_read (Nothing s) l on = outcome_on c.store s l (stepping rest (record c { store = s; execution = rest })) (on (record c { store = s; execution = rest }))
    by_read (Whole x s next) l on =
        let c' : PsCore = record c { store = s; execution = Text t next ∷ rest } in
        outcome_on c.store s l (settled (meeting x c')) (settled_left s (meeting x c') (meeting_left c' x))
    by_read (Bad e s) l on = raised_left c.store e (record c { store = s; execution = rest }) l
    by_read (More s xs next) l on = leaves_same c.store
stepping_left (Object x ∷ rest) c = settled_left c.store (executing x (with_execution c rest)) (executing_left (with_execution c rest) x)
stepping_left (Procedure a n ∷ rest) c =
    let items = elements_of c.store a in
    let c' : PsCore = with_execution c (going_on (n + 1) (length items) (Procedure a (n + 1)) rest) in
    settled_left c.store (meeting (slice_index_or items n Null) c') (meeting_left c' (slice_index_or items n Null))
stepping_left (Repeat n body ∷ rest) c =
    let c' : PsCore = with_execution c (in_turn (nat_lt 1 n) (Repeat (n - 1) body) rest) in settled_left c.store (alone (at c' (calling body c'))) (entered_left c' body)
stepping_left (For next by limit body ∷ rest) c =
    let c' : PsCore = with_execution c (in_turn (goes_on (next +ℤ by) by limit) (For (next +ℤ by) by limit body) rest) in
    settled_left c.store (alone (turning (Int next) body c')) (turned_left c' (Int next) body)
stepping_left (ForArray a n body ∷ rest) c =
    let items = elements_of c.store a in
    let c' : PsCore = with_execution c (in_turn (nat_lt (n + 1) (length items)) (ForArray a (n + 1) body) rest) in
    settled_left c.store (alone (turning (slice_index_or items n Null) body c')) (turned_left c' (slice_index_or items n Null) body)
stepping_left (ForString t n body ∷ rest) c =
    let bytes = bytes_of c.store t in
    let c' : PsCore = with_execution c (in_turn (nat_lt (n + 1) (length bytes)) (ForString t (n + 1) body) rest) in
    settled_left c.store (alone (turning (Int (pos (slice_index_or bytes n 0))) body c')) (turned_left c' (Int (pos (slice_index_or bytes n 0))) body)
stepping_left (ForDict d n body ∷ rest) c =
    let pairs = entries_of c.store d in
    let c' : PsCore = with_execution c (in_turn (nat_lt (n + 1) (length pairs)) (ForDict d (n + 1) body) rest) in
    settled_left c.store (alone (turning_pair (option_map (λ e. e.1) (slice_get pairs n)) body c')) (pair_left c' (option_map (λ e. e.1) (slice_get pairs n)) body)
stepping_left (Loop body ∷ rest) c = settled_left c.store (alone (at c (calling body c))) (entered_left c body)
stepping_left (LastTurn ∷ rest) c = stepping_left rest (with_execution c rest)

pub step_left : (c : PsCore) → OutcomeLeft c.store (step c)
step_left c = stepping_left c.execution c
