-- At each place of a program, what its objects with initializers hold at first is told by their initializers.
use Rattle.std.proofs.Common.{◌≡◌, ◌≤◌, refl, sym, ap, ◌∙◌, subst, arith, ℕ, suc, ◌+◌, Bool, true, false, List, [], ◌∷◌, ◌++◌, length, length-append, Option, Some, None}
use Rattle.std.specs.Prelude.{slice_get}
use Rattle.std.specs.List.{AllByRecursion}
use Rattle.c_trees.specs.Declarators.{DeclaratorTree, begins}
use Rattle.c_trees.specs.Initializers.{InitialTree}
use Rattle.c_trees.specs.declared.declaration.Declared.{Declared}
use Rattle.c_trees.specs.declared.declaration.Storage.{Storage}
use Rattle.c_trees.specs.Statements.{StatementTree}
use Rattle.c_trees.specs.declared.unit.External.{External}
use Rattle.c_trees.specs.declared.unit.External.TheVariants.{Declaration, Definition}
use Rattle.c_tree.specs.declared.types.StructDef.{StructDef}
use Rattle.c_tree.specs.Layout.{members_of, members_in}
use Rattle.c_typing.specs.Plain.{Plain, Char, Int, Unsigned, Void, Pointer, Array, Struct, is_empty, is_complete}
use Rattle.c_typing.specs.Expressions as typing
use Rattle.c_typing.specs.Expressions.{Denoted}
use Rattle.c_defs.specs.Depths.{deepest, is_within, are_within}
use Rattle.c_judge.specs.Answers.{Answer, Known, Unknown, Broken, ◌then◌}
use Rattle.c_scope.specs.Environment.{Environment}
use Rattle.c_scope.specs.Declarators.{Shape, Object, Function, shape}
use Rattle.c_scope.specs.Findings.{nothing}
use Rattle.c_initial.specs.Initials.{initial_found}
use Rattle.c_initial.specs.Begins.{strings_of, begins_of}
use Rattle.c_linkage.specs.Names.{FileName, name_found}
use Rattle.c_file.specs.Files.{State, manner_of, with_name, with_head, with_strings, with_definition, row_of, function_row, after_all, after_name, after_what, after_function, what, declared_found, found_as, all_found, initial_or_none, with_spec, Externals}
use Rattle.c_linkage.specs.Wanted.{Started}
use Rattle.c_linkage.specs.Types.{type_or, standing}
use Rattle.c_accepted.specs.Grown.{Grows}
use Rattle.c_accepted.proofs.Completed.{AreSound}
use Rattle.c_accepted.specs.Sources.{IsInitializer, IsInitialized, IsDeclared, IsText}
use Rattle.c_accepted.proofs.Known.{then_known}
use Rattle.c_accepted.proofs.Written.{IsLimited, IsNamed}
use Rattle.c_accepted.proofs.Merged.{as_empty, grows_others}
use Rattle.c_accepted.proofs.Shapes.{shape_named, AreTags, both_tags}
use Rattle.c_accepted.proofs.Inside.{specified}
use Rattle.c_accepted.proofs.Types.{IsDenotedIn}
use Rattle.c_accepted.proofs.Bounds.{standing_named}
use Rattle.c_accepted.proofs.Wholes.{AsksFor, standing_whole}
use Rattle.c_accepted.proofs.Typed.{whole, grows_to, grows_more}
use Rattle.c_accepted.proofs.Walked.{Stands, Goes, all_keep, what_keeps, two_parts, unbroken, behind_one}
use Rattle.c_mentions.specs.Tags.{in_all, in_external, in_file_spec, in_declared}

-- an object of a complete type, what is declared where its initializer stands, and that nothing is wrong with it there
pub record IsBegun (defs : List StructDef) (fs : List FileName) (n : ℕ) (s : Started) : Type 0 where
  pub declaration : FileName
  pub number : ℕ
  pub there : slice_get fs number ≡ Some declaration
  pub name : declaration.name ≡ s.name
  pub unit : declaration.unit ≡ s.unit
  pub ctype : Plain
  pub register : Bool
  pub denotes : declaration.denoted ≡ typing.Object ctype register
  pub place : Environment
  pub grows : Grows place.defs defs
  pub sound : AreSound place.defs
  pub complete : is_complete place.defs ctype ≡ true
  pub limited : is_within place.defs deepest ctype ≡ true
  pub initial : InitialTree
  pub formed : IsInitializer initial
  pub string : ℕ
  pub begins : s.begins ≡ begins_of place string ctype initial
  pub well : initial_found place ctype initial ≡ nothing
  pub strings : string + length (strings_of place ctype initial) ≤ n

-- ---- growth

pub grows_on : (a b c : List StructDef) → Grows a b → Grows b c → Grows a c
grows_on a b c g h =
    let empty : (s : ℕ) → is_empty (members_of a s) ≡ false → is_empty (members_of b s) ≡ false = λ s e. as_empty (members_of b s) (members_of a s) (g.members s e) ∙ e in
    record {
      count = (let x = g.count in let y = h.count in omega (arith, x, y));
      members = λ s e. h.members s (empty s e) ∙ g.members s e;
      size = λ s e. h.size s (empty s e) ∙ g.size s e;
      held = g.held;
    }

all_as : (P Q : Started → Type 0) → ((x : Started) → P x → Q x) → (xs : List Started) → AllByRecursion P xs → AllByRecursion Q xs
all_as P Q w [] h = tt
all_as P Q w (x ∷ xs) h = (w x h.0, all_as P Q w xs h.1)

all_last : (P : Started → Type 0) (xs : List Started) (x : Started) → AllByRecursion P xs → P x → AllByRecursion P (xs ++ x ∷ [])
all_last P [] x h k = (k, tt)
all_last P (y ∷ xs) x h k = (h.0, all_last P xs x h.1 k)

-- more structs, names and strings
begun_more : (before behind : List StructDef) (fs gs : List FileName) (m n : ℕ) (s : Started) → Grows before behind → ((k : ℕ) (f : FileName) → slice_get fs k ≡ Some f → (j : ℕ) × (slice_get gs j ≡ Some f)) → m ≤ n → IsBegun before fs m s → IsBegun behind gs n s
begun_more before behind fs gs m n s g w l h =
    let j = w h.number h.declaration h.there in
    record {
      declaration = h.declaration;
      number = j.0;
      there = j.1;
      name = h.name;
      unit = h.unit;
      ctype = h.ctype;
      register = h.register;
      denotes = h.denotes;
      place = h.place;
      grows = grows_on h.place.defs before behind h.grows g;
      sound = h.sound;
      complete = h.complete;
      limited = h.limited;
      initial = h.initial;
      formed = h.formed;
      string = h.string;
      begins = h.begins;
      well = h.well;
      strings = (let k = h.strings in omega (arith, k, l));
    }

abbrev pub AreBegun : List StructDef → State → Type 0
AreBegun defs p = AllByRecursion (IsBegun defs p.names (length p.strings)) p.starts

more_strings : (xs ys : List (List ℕ)) → length xs ≤ length (xs ++ ys)
more_strings xs ys = let e = length-append xs ys in omega (arith, e)

abbrev Keeping : List FileName → List FileName → Type 0
Keeping fs gs = (k : ℕ) (f : FileName) → slice_get fs k ≡ Some f → (j : ℕ) × (slice_get gs j ≡ Some f)

keeping : (fs : List FileName) → Keeping fs fs
keeping fs k f e = (k, e)

keeping_one : (fs : List FileName) (x : FileName) → Keeping fs (x ∷ fs)
keeping_one fs x k f e = (suc k, e)

module _ (defs : List StructDef) where
  same_structs : Grows defs defs → (p q : State) → Keeping p.names q.names → length p.strings ≤ length q.strings → q.starts ≡ p.starts → AreBegun defs p → AreBegun defs q
  same_structs g p q w l e h =
      subst (AllByRecursion (IsBegun defs q.names (length q.strings))) (sym e) (all_as (IsBegun defs p.names (length p.strings)) (IsBegun defs q.names (length q.strings)) (λ s k. begun_more defs defs p.names q.names (length p.strings) (length q.strings) s g w l k) p.starts h)

within_all : (defs : List StructDef) → AreSound defs → (s : ℕ) → are_within (is_within defs 63) (members_of defs s) ≡ true
within_all defs a s = by (slice_get defs s) refl
  where
    by : (o : Option StructDef) → slice_get defs s ≡ o → are_within (is_within defs 63) (members_in o) ≡ true
    by None e = refl
    by (Some d) e = (a s d e).deep

within_of : (defs : List StructDef) → AreSound defs → (t : Plain) → IsLimited defs t → is_within defs deepest t ≡ true
unfolding deepest
within_of defs a (Struct s) h = within_all defs a s
within_of defs a Char h = h
within_of defs a Int h = h
within_of defs a Unsigned h = h
within_of defs a Void h = h
within_of defs a (Pointer t) h = h
within_of defs a (Array t n) h = h

-- ---- one object more

-- what is known of an initializer where it stands
record IsReady (here : Environment) (f : FileName) (i : InitialTree) : Type 0 where
  ctype : Plain
  register : Bool
  denotes : f.denoted ≡ typing.Object ctype register
  complete : is_complete here.defs ctype ≡ true
  limited : is_within here.defs deepest ctype ≡ true
  formed : IsInitialized (Some i)
  well : initial_found here ctype i ≡ nothing

module _ (defs : List StructDef) (same : Grows defs defs) (s : Storage) where
  definition_begun : (p : State) (f : FileName) (i : Option InitialTree) → AreSound p.here.defs → Grows p.here.defs defs → (n : ℕ) × (slice_get p.names n ≡ Some f) → ((j : InitialTree) → i ≡ Some j → IsReady p.here f j) → AreBegun defs p → AreBegun defs (with_definition s p f i)
  definition_begun p f None a g first w h = h
  definition_begun p f (Some i) a g first w h =
      let r = w i refl in
      let t = type_or f.denoted in
      let of : t ≡ r.ctype = ap type_or r.denotes in
      let all = p.strings ++ strings_of p.here t i in
      let many : length all ≡ length p.strings + length (strings_of p.here t i) = length-append p.strings (strings_of p.here t i) in
      let old = all_as (IsBegun defs p.names (length p.strings)) (IsBegun defs p.names (length all)) (λ x k. begun_more defs defs p.names p.names (length p.strings) (length all) x same (keeping p.names) (more_strings p.strings (strings_of p.here t i)) k) p.starts h in
      all_last (IsBegun defs p.names (length all)) p.starts (record { name = f.name; unit = f.unit; begins = begins_of p.here (length p.strings) t i }) old (record {
        declaration = f;
        number = first.0;
        there = first.1;
        name = refl;
        unit = refl;
        ctype = r.ctype;
        register = r.register;
        denotes = r.denotes;
        place = p.here;
        grows = g;
        sound = a;
        complete = r.complete;
        limited = r.limited;
        initial = i;
        formed = r.formed;
        string = length p.strings;
        begins = ap (λ x. begins_of p.here (length p.strings) x i) of;
        well = r.well;
        strings = (let e : length (strings_of p.here t i) ≡ length (strings_of p.here r.ctype i) = ap (λ x. length (strings_of p.here x i)) of in omega (arith, many, e));
      })

  here_stays : (p : State) (f : FileName) (i : Option InitialTree) → (with_definition s p f i).here ≡ p.here
  here_stays p f None = refl
  here_stays p f (Some i) = refl

  module _ (here : List StructDef) (sound : AreSound here) (g : Grows here defs) (t : Plain) (m : IsNamed here t) where
    one_begun : (p : State) (d : Declared) (a : Answer Denoted) → what s t p d ≡ a → found_as s p d a ≡ nothing → IsDeclared d → p.here.defs ≡ here → AreBegun defs p → AreBegun defs (after_what s p d a)
    one_begun p d (Unknown name) e h n j w = w
    one_begun p d (Broken r at) e h n j w = w
    one_begun p d (Known x) e h n j w =
        let f = row_of s p d x in
        let r = with_strings s (with_name p f) d.declarator in
        let (y, k, l) = then_known (shape p.here d.declarator t) (λ y. standing p.here s d.initial (begins d.declarator).at y) x e in
        let q = two_parts (name_found p.names f (begins d.declarator).at) (initial_or_none s (after_what s p d (Known x)) d.initial x) h in
        let stays : (after_what s p d (Known x)).here ≡ r.here = here_stays r f d.initial in
        let found : (z : InitialTree) → d.initial ≡ Some z → initial_found r.here (type_or x) z ≡ nothing =
        λ z o. ap (λ u. initial_found u (type_or x) z) (sym stays) ∙ sym (ap (λ v. initial_or_none s (after_what s p d (Known x)) v x) o) ∙ q.1 in
        let sound_here : AreSound p.here.defs = subst AreSound (sym j) sound in
        let shaped = shape_named p.here d.declarator t y (subst (λ ds. IsNamed ds t) (sym j) m) k in
        let named : IsDenotedIn p.here.defs x = standing_named p.here sound_here s d.initial (begins d.declarator).at y x shaped l in
        let asks = standing_whole p.here r.here s d.initial (begins d.declarator).at y x l n found in
        let old = same_structs defs same p r (keeping_one p.names f) (more_strings p.strings _) refl w in
        definition_begun r f d.initial sound_here (subst (λ ds. Grows ds defs) (sym j) g) (0, refl)
        (λ z o.
        let a : AsksFor p.here.defs (manner_of s (Some z) x) x = subst (λ v. AsksFor p.here.defs (manner_of s v x) x) o asks in
        let is = a.2 in
        let type : type_or x ≡ a.0 = ap type_or is in
        let limits : IsDenotedIn p.here.defs (typing.Object a.0 a.1) = subst (IsDenotedIn p.here.defs) is named in
        record {
          ctype = a.0;
          register = a.1;
          denotes = is;
          complete = a.3;
          limited = within_of p.here.defs sound_here a.0 limits.1;
          formed = subst IsInitialized o n;
          well = ap (λ u. initial_found r.here u z) (sym type) ∙ found z o;
        })
        old

    all_begun : (p : State) (ds : List Declared) → all_found s t p ds ≡ nothing → AllByRecursion IsDeclared ds → p.here.defs ≡ here → AreBegun defs p → AreBegun defs (after_all s t p ds)
    all_begun p [] h n j w = w
    all_begun p (d ∷ ds) h n j w =
        let q = two_parts (declared_found s t p d) (all_found s t (after_name s t p d) ds) h in
        all_begun (after_name s t p d) ds q.1 n.1 ((what_keeps s p d (what s t p d)).here.defs ∙ j) (one_begun p d (what s t p d) refl q.0 n.0 j w)

function_begun : (defs : List StructDef) → Grows defs defs → (s : Storage) (d : DeclaratorTree) (x : StatementTree) (p : State) (y : Shape) → AreBegun defs p → AreBegun defs (after_function s d x p y)
function_begun defs g s d x p (Object t) w = w
function_begun defs g s d x p (Function t ps) w =
    let f = function_row s d p (Function t ps) in
    let q = with_head p d f in
    let a = more_strings p.strings _ in
    let old = same_structs defs g p q (keeping_one p.names f) a refl w in
    same_structs defs g q (after_function s d x p (Function t ps)) (keeping q.names) (more_strings q.strings _) refl old

module _ (tags : List (List ℕ)) where
  begun_external : (p q m : State) → Stands tags p → Goes tags p q → m.names ≡ p.names → m.starts ≡ p.starts → length p.strings ≤ length m.strings → AreBegun (whole p) p → AreBegun (whole q) m
  begun_external p q m s go e f l w =
      let g = grows_more tags p q s go in
      let there : Keeping p.names m.names = subst (Keeping p.names) (sym e) (keeping p.names) in
      subst (AllByRecursion (IsBegun (whole q) m.names (length m.strings))) (sym f)
      (all_as (IsBegun (whole p) p.names (length p.strings)) (IsBegun (whole q) m.names (length m.strings)) (λ x k. begun_more (whole p) (whole q) p.names m.names (length p.strings) (length m.strings) x g there l k) p.starts w)

  -- the structs of the program stay as they are
  pub external_begun : ((q : State) → Stands tags q → Grows (whole q) (whole q)) → (p : State) (e : External) (q : State) → Stands tags p → AreTags tags (in_external e) → IsText e → Externals p e nothing q → Goes tags p q → AreBegun (whole p) p → AreBegun (whole q) q
  external_begun same p (Declaration h) q s g n (a, v, i, e, k) go w =
      let (u, known) = unbroken a _ (sym e) in
      let m = with_spec p h.spec v in
      let used : AreTags p.here.tags (in_file_spec h.spec) = subst (λ ts. AreTags ts (in_file_spec h.spec)) (sym s.tagged) (both_tags tags (in_file_spec h.spec) (in_all in_declared h.names) g).0 in
      let b = specified p.others h.spec p.here v a u s.here used i known in
      let last = k ∙ behind_one m a _ u known in
      let found : all_found h.storage u m h.names ≡ nothing = ap (λ (b : Answer Plain). b then λ z. all_found h.storage z m h.names) (sym known) ∙ sym e in
      let kept : q.here.defs ≡ v.defs = ap (λ (r : State). r.here.defs) last ∙ (all_keep h.storage u m h.names).here.defs in
      let g1 : Grows v.defs (whole q) = subst (λ ds. Grows ds (whole q)) kept (grows_to tags q go.stands) in
      let now = begun_external p q m s go refl refl (more_strings p.strings _) w in
      subst (AreBegun (whole q)) (sym last) (all_begun (whole q) (same q go.stands) h.storage v.defs b.passes.behind.sound g1 u b.named m h.names found n refl now)
  external_begun same p (Definition h x) q s g n (a, b, v, i, c, e, k) go w =
      let (y, known) = unbroken a _ (sym e) in
      let m = with_spec p h.spec v in
      let last = k ∙ behind_one m a _ y known in
      let now = begun_external p q m s go refl refl (more_strings p.strings _) w in
      subst (AreBegun (whole q)) (sym last) (function_begun (whole q) (same q go.stands) h.storage h.declarator x m y now)

  pub begins_begun : (p : State) → Stands tags p → AreBegun p.others p → AreBegun (whole p) p
  begins_begun p s w =
      let g = grows_others p.others p.here.defs s.here.pairs s.here.sound s.others s.here.agree in
      all_as (IsBegun p.others p.names (length p.strings)) (IsBegun (whole p) p.names (length p.strings)) (λ x k. begun_more p.others (whole p) p.names p.names (length p.strings) (length p.strings) x g (keeping p.names) (omega arith) k) p.starts w
