-- What a query of frames and points may lack: never a type that is too deep, and of units only those whose functions are an executable string.
use Rattle.std.proofs.Common.{◌≡◌, ◌∙◌, refl, ap, subst, ℕ, suc, ◌+◌, arith, Bool, true, false, List, [], ◌∷◌, ◌++◌, slice_get, codes, Option, Some, None, Ok, Err}
use Rattle.ldb_words.specs.Word.{word_of_signed}
use Rattle.ps_store.specs.declared.object.PsObj.{PsObj}
use Rattle.ps_store.specs.declared.object.PsObj.TheVariants.{Int, Bool as Truth, Name, Str, Array, Dict, Op, Mark as MarkObject, Null}
use Rattle.ps_store.specs.declared.object.DictId.{DictId}
use Rattle.ps_store.specs.declared.object.StringId.{StringId}
use Rattle.ps_store.specs.declared.key.Key.TheVariants.{Name as NameKey}
use Rattle.ps_store.specs.StoreState.{StoreState}
use Rattle.ps_store.specs.Store.{elements_of, entries_of, bytes_of}
use Rattle.ps_store.specs.Entries.{value_at}
use Rattle.ps_step.specs.Results.{◌>>=◌}
use Rattle.table_model.specs.declared.lack.Lack.{Lack}
use Rattle.table_model.specs.declared.lack.Lack.TheVariants as lack
use Rattle.table_model.specs.Reading.{Walked, or_missing, entry, dict_in, items_in, text_in, number_in, dict_or_null, truth_in, items_at, text_at, number_at, truth_at, top_of, first_from, first_in, all_from, all_in}
use Rattle.table_model.specs.Rows.{units_of, functions_in, functions_of}
use Rattle.table_read.specs.Reads.{in_ok}
use Rattle.ps_bare.specs.Deferred.{IsDeferred}
use Rattle.dialect_model.specs.Forcing.{deferred_in}

-- ---- what a query may lack

pub record LacksOnly {A : Type 0} (P : Lack → Type 0) (x : Walked A) : Type 0 where
  pub lacks : (l : Lack) → x ≡ Err l → P l

abbrev lacks_it : (A : Type 0) → Lack → Walked A
lacks_it A l = Err l

lack_is : (A : Type 0) (l m : Lack) → lacks_it A l ≡ lacks_it A m → l ≡ m
lack_is A l m h = cc

pub gives_any : {A : Type 0} (P : Lack → Type 0) (y : A) → LacksOnly P (Ok y)
gives_any P y = record { lacks = λ l e. absurd (let k = e in cc) }

pub lacking_any : (A : Type 0) (P : Lack → Type 0) (l : Lack) → P l → LacksOnly P (lacks_it A l)
lacking_any A P l h = record { lacks = λ m e. subst P (lack_is A l m e) h }

pub behind_any : {A B : Type 0} (P : Lack → Type 0) (x : Walked A) (k : A → Walked B) → LacksOnly P x → ((y : A) → x ≡ Ok y → LacksOnly P (k y)) → LacksOnly P (x >>= k)
behind_any P (Ok y) k h g = g y refl
behind_any {B = B} P (Err l) k h g = lacking_any B P l (h.lacks l refl)

-- ---- one value

-- a key or a type may be lacking anywhere
pub record Usual (P : Lack → Type 0) : Type 0 where
  pub key : P lack.Missing
  pub kind : P lack.WrongType

pub record Reads (P : Lack → Type 0) (s : StoreState) (x : PsObj) : Type 0 where
  pub dict : LacksOnly P (dict_in x)
  pub items : LacksOnly P (items_in s x)
  pub text : LacksOnly P (text_in s x)
  pub number : LacksOnly P (number_in x)
  pub link : LacksOnly P (dict_or_null x)
  pub truth : LacksOnly P (truth_in x)

module _ (P : Lack → Type 0) (usual : Usual P) where
  missing_any : {A : Type 0} (o : Option A) → LacksOnly P (or_missing o)
  missing_any {A = A} None = lacking_any A P lack.Missing usual.key
  missing_any (Some x) = gives_any P x

  wrong_any : (A : Type 0) → LacksOnly P (lacks_it A lack.WrongType)
  wrong_any A = lacking_any A P lack.WrongType usual.kind

  pub reads_any : (s : StoreState) (x : PsObj) → Reads P s x
  reads_any s (Int n) = record { dict = wrong_any DictId; items = wrong_any (List PsObj); text = wrong_any (List ℕ); number = gives_any P (word_of_signed n); link = wrong_any (Option DictId); truth = wrong_any Bool }
  reads_any s (Truth b) = record { dict = wrong_any DictId; items = wrong_any (List PsObj); text = wrong_any (List ℕ); number = wrong_any ℕ; link = wrong_any (Option DictId); truth = gives_any P b }
  reads_any s (Name t b) = record { dict = wrong_any DictId; items = wrong_any (List PsObj); text = wrong_any (List ℕ); number = wrong_any ℕ; link = wrong_any (Option DictId); truth = wrong_any Bool }
  reads_any s (Str t b) = record { dict = wrong_any DictId; items = wrong_any (List PsObj); text = gives_any P (bytes_of s t); number = wrong_any ℕ; link = wrong_any (Option DictId); truth = wrong_any Bool }
  reads_any s (Array a b) = record { dict = wrong_any DictId; items = gives_any P (elements_of s a); text = wrong_any (List ℕ); number = wrong_any ℕ; link = wrong_any (Option DictId); truth = wrong_any Bool }
  reads_any s (Dict d) = record { dict = gives_any P d; items = wrong_any (List PsObj); text = wrong_any (List ℕ); number = wrong_any ℕ; link = gives_any P (Some d); truth = wrong_any Bool }
  reads_any s (Op n) = record { dict = wrong_any DictId; items = wrong_any (List PsObj); text = wrong_any (List ℕ); number = wrong_any ℕ; link = wrong_any (Option DictId); truth = wrong_any Bool }
  reads_any s MarkObject = record { dict = wrong_any DictId; items = wrong_any (List PsObj); text = wrong_any (List ℕ); number = wrong_any ℕ; link = wrong_any (Option DictId); truth = wrong_any Bool }
  reads_any s Null = record { dict = wrong_any DictId; items = wrong_any (List PsObj); text = wrong_any (List ℕ); number = wrong_any ℕ; link = gives_any P None; truth = wrong_any Bool }

  pub text_any : (s : StoreState) (d : DictId) (name : List ℕ) → LacksOnly P (text_at s d name)
  text_any s d name = behind_any P (entry s d name) (text_in s) (missing_any (value_at (entries_of s d) (NameKey name))) (λ y e. (reads_any s y).text)

  pub link_any : (s : StoreState) (d : DictId) (name : List ℕ) → LacksOnly P (entry s d name >>= dict_or_null)
  link_any s d name = behind_any P (entry s d name) dict_or_null (missing_any (value_at (entries_of s d) (NameKey name))) (λ y e. (reads_any s y).link)

-- ---- of frames and points

abbrev pub IsFair : StoreState → Lack → Type 0
IsFair s lack.TooDeep = ⊥
IsFair s (lack.Unforced u) = IsDeferred s u
IsFair s lack.Missing = Unit {0}
IsFair s lack.WrongType = Unit {0}
IsFair s lack.Outside = Unit {0}
IsFair s lack.NoPoint = Unit {0}

abbrev pub Fair : {A : Type 0} → StoreState → Walked A → Type 0
Fair s x = LacksOnly (IsFair s) x

fairly : (s : StoreState) → Usual (IsFair s)
fairly s = record { key = tt; kind = tt }

pub gives : {A : Type 0} (s : StoreState) (y : A) → Fair s (Ok y)
gives s y = gives_any (IsFair s) y

pub lacking : (A : Type 0) (s : StoreState) (l : Lack) → IsFair s l → Fair s (lacks_it A l)
lacking A s l h = lacking_any A (IsFair s) l h

pub wrong : (A : Type 0) (s : StoreState) → Fair s (lacks_it A lack.WrongType)
wrong A s = lacking A s lack.WrongType tt

pub behind : {A B : Type 0} (s : StoreState) (x : Walked A) (k : A → Walked B) → Fair s x → ((y : A) → x ≡ Ok y → Fair s (k y)) → Fair s (x >>= k)
behind s x k h g = behind_any (IsFair s) x k h g

missing : {A : Type 0} (s : StoreState) (o : Option A) → Fair s (or_missing o)
missing s o = missing_any (IsFair s) (fairly s) o

pub reads : (s : StoreState) (x : PsObj) → Reads (IsFair s) s x
reads s x = reads_any (IsFair s) (fairly s) s x

pub either : {A : Type 0} (s : StoreState) (b : Bool) (x y : Walked A) → Fair s x → Fair s y → Fair s (elim b [ false ↦ x | true ↦ y ])
either s false x y h k = h
either s true x y h k = k

module _ (s : StoreState) (d : DictId) (name : List ℕ) where
  pub entry_fair : Fair s (entry s d name)
  entry_fair = missing s (value_at (entries_of s d) (NameKey name))

  pub items_fair : Fair s (items_at s d name)
  items_fair = behind s (entry s d name) (items_in s) entry_fair (λ y e. (reads s y).items)

  pub text_fair : Fair s (text_at s d name)
  text_fair = text_any (IsFair s) (fairly s) s d name

  pub number_fair : Fair s (number_at s d name)
  number_fair = behind s (entry s d name) number_in entry_fair (λ y e. (reads s y).number)

  pub link_fair : Fair s (entry s d name >>= dict_or_null)
  link_fair = link_any (IsFair s) (fairly s) s d name

  pub truth_fair : Fair s (truth_at s d name)
  truth_fair = behind s (entry s d name) truth_in entry_fair (λ y e. (reads s y).truth)

pub mapped_fair : {A B : Type 0} (s : StoreState) (f : A → B) (w : Walked A) → Fair s w → Fair s (in_ok f w)
mapped_fair s f (Ok x) h = gives s (f x)
mapped_fair {B = B} s f (Err l) h = lacking B s l (h.lacks l refl)

-- ---- lists

abbrev or_first : {B : Type 0} → Walked (Option B) → Option B → Walked (Option B)
or_first rest found = elim found [ Some y ↦ Ok (Some y) | None ↦ rest ]

first_step : {B : Type 0} (s : StoreState) (w rest : Walked (Option B)) → Fair s w → Fair s rest → Fair s (w >>= λ found. elim found [ Some y ↦ Ok (Some y) | None ↦ rest ])
first_step {B = B} s (Err l) rest h k = lacking (Option B) s l (h.lacks l refl)
first_step s (Ok (Some y)) rest h k = gives s (Some y)
first_step s (Ok None) rest h k = k

module _ {A B : Type 0} (s : StoreState) (test : ℕ → A → Walked (Option B)) where
  pub first_fair : (n : ℕ) (xs : List A) → ((k : ℕ) (x : A) → slice_get xs k ≡ Some x → Fair s (test (n + k) x)) → Fair s (first_from test n xs)
  first_fair n [] h = gives s None
  first_fair n (x ∷ xs) h =
      let here : n + 0 ≡ n = omega arith in
      first_step s (test n x) (first_from test (suc n) xs) (subst (λ (j : ℕ). Fair s (test j x)) here (h 0 x refl))
      (first_fair (suc n) xs (λ k y e. let on : n + suc k ≡ suc n + k = omega arith in subst (λ (j : ℕ). Fair s (test j y)) on (h (suc k) y e)))

pub first_in_fair : {A B : Type 0} (s : StoreState) (test : A → Walked (Option B)) (xs : List A) → ((x : A) → Fair s (test x)) → Fair s (first_in test xs)
first_in_fair s test xs h = first_fair s (λ n x. test x) 0 xs (λ k x e. h x)

module _ {A B : Type 0} (s : StoreState) (test : ℕ → A → Walked (List B)) where
  pub all_fair : (n : ℕ) (xs : List A) → ((k : ℕ) (x : A) → slice_get xs k ≡ Some x → Fair s (test (n + k) x)) → Fair s (all_from test n xs)
  all_fair n [] h = gives s []
  all_fair n (x ∷ xs) h =
      let here : n + 0 ≡ n = omega arith in
      behind s (test n x) (λ ys. all_from test (suc n) xs >>= λ zs. Ok (ys ++ zs)) (subst (λ (j : ℕ). Fair s (test j x)) here (h 0 x refl))
      (λ ys e. behind s (all_from test (suc n) xs) (λ zs. Ok (ys ++ zs))
      (all_fair (suc n) xs (λ k y i. let on : n + suc k ≡ suc n + k = omega arith in subst (λ (j : ℕ). Fair s (test j y)) on (h (suc k) y i)))
      (λ zs i. gives s (ys ++ zs)))

pub all_in_fair : {A B : Type 0} (s : StoreState) (test : A → Walked (List B)) (xs : List A) → ((x : A) → Fair s (test x)) → Fair s (all_in test xs)
all_in_fair s test xs h = all_fair s (λ n x. test x) 0 xs (λ k x e. h x)

-- ---- units

pub record IsUnit (s : StoreState) (u : ℕ) (x : PsObj) : Type 0 where
  pub units : List PsObj
  pub are : units_of s ≡ Ok units
  pub stands : slice_get units u ≡ Some x

pub units_fair : (s : StoreState) → Fair s (units_of s)
units_fair s = behind s (top_of s) (λ top. items_at s top (codes "units")) (missing s s.top) (λ top e. items_fair s top (codes "units"))

pub unit_there : (s : StoreState) (us : List PsObj) → units_of s ≡ Ok us → (k : ℕ) (x : PsObj) → slice_get us k ≡ Some x → IsUnit s (0 + k) x
unit_there s us e k x h = let is : k ≡ 0 + k = omega arith in subst (λ (j : ℕ). IsUnit s j x) is (record { units = us; are = e; stands = h })

module _ {B : Type 0} (s : StoreState) where
  pub units_first : (test : ℕ → PsObj → Walked (Option B)) → ((u : ℕ) (x : PsObj) → IsUnit s u x → Fair s (test u x)) → Fair s (units_of s >>= λ us. first_from test 0 us)
  units_first test h = behind s (units_of s) (λ us. first_from test 0 us) (units_fair s) (λ us e. first_fair s test 0 us (λ k x i. h (0 + k) x (unit_there s us e k x i)))

  pub units_all : (test : ℕ → PsObj → Walked (List B)) → ((u : ℕ) (x : PsObj) → IsUnit s u x → Fair s (test u x)) → Fair s (units_of s >>= λ us. all_from test 0 us)
  units_all test h = behind s (units_of s) (λ us. all_from test 0 us) (units_fair s) (λ us e. all_fair s test 0 us (λ k x i. h (0 + k) x (unit_there s us e k x i)))

module _ (s : StoreState) (u : ℕ) (x : PsObj) (d : DictId) (there : IsUnit s u x) (is : dict_in x ≡ Ok d) where
  is_deferred : (t : StringId) → entry s d (codes "functions") ≡ Ok (Str t true) → IsDeferred s u
  is_deferred t e = record {
    unit = d;
    text = t;
    stands =
        ap (λ (m : Walked (List PsObj)). m >>= λ us. or_missing (slice_get us u) >>= deferred_in s) there.are ∙ ap (λ (o : Option PsObj). or_missing o >>= deferred_in s) there.stands
        ∙ ap (λ (m : Walked DictId). m >>= λ d. entry s d (codes "functions") >>= λ text. Ok (d, text)) is ∙ ap (λ (m : Walked PsObj). m >>= λ text. Ok (d, text)) e;
  }

  functions_in_fair : (y : PsObj) → entry s d (codes "functions") ≡ Ok y → Fair s (functions_in s u y)
  functions_in_fair (Int n) e = wrong (List PsObj) s
  functions_in_fair (Truth b) e = wrong (List PsObj) s
  functions_in_fair (Name t b) e = wrong (List PsObj) s
  functions_in_fair (Str t true) e = lacking (List PsObj) s (lack.Unforced u) (is_deferred t e)
  functions_in_fair (Str t false) e = wrong (List PsObj) s
  functions_in_fair (Array a b) e = gives s (elements_of s a)
  functions_in_fair (Dict d) e = wrong (List PsObj) s
  functions_in_fair (Op n) e = wrong (List PsObj) s
  functions_in_fair MarkObject e = wrong (List PsObj) s
  functions_in_fair Null e = wrong (List PsObj) s

  pub functions_fair : Fair s (functions_of s u d)
  functions_fair = behind s (entry s d (codes "functions")) (functions_in s u) (entry_fair s d (codes "functions")) functions_in_fair
