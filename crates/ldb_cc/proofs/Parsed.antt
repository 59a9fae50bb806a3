-- Trees that are read text by text.
use Rattle.std.proofs.Common.{◌≡◌, ◌<◌, ◌≤◌, inl, inr, ℕ, zero, suc, ◌+◌, List, [], ◌∷◌, ◌++◌, length, map, take, get_or, Option, Some, None, Ok, Err, Result, refl, sym, ap, ◌∙◌, subst, arith}
use Rattle.std.specs.Global.{Vec}
use Rattle.std.specs.List.{AllByRecursion}
use Rattle.c_lex.specs.declared.token.Token.{Token}
use Rattle.c_lex.specs.declared.token.Place.{Place}
use Rattle.c_lex.specs.Grammar.{Lexes, start}
use Rattle.c_symbol.specs.Terminals.{terminals}
use Rattle.c_trees.specs.declared.unit.External.{External}
use Rattle.c_trees.specs.declared.unit.Unit.{Unit as UnitTree}
use Rattle.c_syntax.specs.Grammar.{IsUnit}
use Rattle.c_linkage.specs.FileTags.{externals_of}
use Rattle.c_file.specs.Made.{Each}
use Rattle.ldb_cc.specs.declared.fault.BuildFault.{BuildFault}
use Rattle.ldb_cc.specs.declared.fault.BuildFault.TheVariants as cause
use Rattle.ldb_cc.specs.declared.parsing.Trees.{Trees}
use Rattle.ldb_cc.specs.Sources.{HasTokens, AreFew, HasTree, HasNoTree, IsFile, IsTree, IsShallow, IsDeep, IsFirst, IsCause}
use Rattle.ldb_cc.specs.Scanning.{items_of}
use Rattle.ldb_cc.specs.Parsing.{IsNoUnit, deep_unit, IsDeepIn, GrowsTo, Grows, AreKept, AreParsed, IsShallowOf, AreTrees}
use Rattle.ldb_cc.proofs.Firsts.{all_more, each_more, each_all, more_read, all_read, first_of}

file_of : (text : List ℕ) (ts : List Token) (es : List External) (h : ℕ) → HasTokens text ts → IsUnit es h (terminals text ts) → IsFile text es h
file_of text ts es h l u = record { tokens = ts; lexes = l; unit = u }

-- tokens are the text's only ones
abbrev pub OneReading : Type 0
OneReading = (text : List ℕ) (ts us : List Token) → Lexes start text ts → Lexes start text us → ts ≡ us

no_tree : OneReading → (text : List ℕ) (ts : List Token) → HasTokens text ts → IsNoUnit text ts → HasNoTree text
no_tree one text ts l n = λ es h f. n es h (subst (λ (us : List Token). IsUnit es h (terminals text us)) (one text f.tokens ts f.lexes l) f.unit)

-- the tokens that stand beside a text
pub each_at : (vs : List (Vec ℕ)) (ws : List (Vec Token)) (i : ℕ) (v : Vec ℕ) (w : Vec Token) → i < length vs → v ≡ get_or vs i v → w ≡ get_or ws i w → Each HasTokens (map items_of vs) (map items_of ws) → HasTokens v.items w.items
each_at [] ws i v w l e f a = absurd (omega arith)
each_at (x ∷ vs) [] i v w l e f a = absurd a
each_at (x ∷ vs) (y ∷ ws) zero v w l e f a = subst (λ (p : Vec ℕ). HasTokens p.items w.items) (sym e) (subst (λ (q : Vec Token). HasTokens x.items q.items) (sym f) a.0)
each_at (x ∷ vs) (y ∷ ws) (suc i) v w l e f a = each_at vs ws i v w (omega arith) e f a.1

-- ---- one tree more

kept_more : (texts done : List (List ℕ)) (text : List ℕ) (es : List External) (deep : Option (ℕ × Place)) (units : List (List External)) → IsTree text es → AreKept texts done deep units → AreKept texts (done ++ text ∷ []) deep (units ++ es ∷ [])
kept_more texts done text es None units t k = each_more IsTree done units text es k t
kept_more texts done text es (Some d) units t k = k

-- the texts before are nested less deep
shallow_before : (done : List (List ℕ)) (units : List (List External)) → Each IsTree done units → AllByRecursion IsShallow done
shallow_before done units k = each_all IsTree done units k

module _ (vs : List (Vec ℕ)) (i : ℕ) (v : Vec ℕ) (l : i < length vs) (e : v ≡ get_or vs i v) where
  deep_more : (d : ℕ × Place) (before : Option (ℕ × Place)) (unit : ℕ) (units : List (List External)) → unit ≡ i → IsDeep v.items → d.0 ≡ deep_unit before unit → AreKept (map items_of vs) (map items_of (take i vs)) before units → IsFirst IsShallow IsDeep d.0 (map items_of vs)
  deep_more d None unit units u deep is k = subst (λ (j : ℕ). IsFirst IsShallow IsDeep j (map items_of vs)) (sym (is ∙ u)) (first_of items_of IsShallow IsDeep vs i v l e (shallow_before (map items_of (take i vs)) units k) deep)
  deep_more d (Some b) unit units u deep is k = subst (λ (j : ℕ). IsFirst IsShallow IsDeep j (map items_of vs)) (sym is) k

  deep_kept : (new before : Option (ℕ × Place)) (unit : ℕ) (units units' : List (List External)) (done : List (List ℕ)) → unit ≡ i → IsDeep v.items → IsDeepIn before unit new → AreKept (map items_of vs) (map items_of (take i vs)) before units → AreKept (map items_of vs) done new units'
  deep_kept None before unit units units' done u deep is k = absurd is
  deep_kept (Some d) before unit units units' done u deep is k = deep_more d before unit units u deep is k

  grown : (unit : ℕ) (ts : List Token) (old new : Trees) → unit ≡ i → HasTokens v.items ts → AreParsed (map items_of vs) (map items_of (take i vs)) old → GrowsTo unit v.items ts old new
      → AreParsed (map items_of vs) (map items_of (take i vs) ++ v.items ∷ []) new
  grown unit ts old new u t a (inl g) =
      let file = file_of v.items ts g.0 g.1.0 t g.1.2 in
      record {
        all = all_more HasTree (map items_of (take i vs)) v.items a.all (g.0, g.1.0, file);
        kept = subst (λ (d : Option (ℕ × Place)). AreKept (map items_of vs) (map items_of (take i vs) ++ v.items ∷ []) d (map externals_of new.units.items)) (sym g.2)
            (subst (λ (us : List (List External)). AreKept (map items_of vs) (map items_of (take i vs) ++ v.items ∷ []) old.deep us) (sym g.3)
            (kept_more (map items_of vs) (map items_of (take i vs)) v.items g.0 old.deep (map externals_of old.units.items) (g.1.0, g.1.1, file) a.kept));
      }
  grown unit ts old new u t a (inr g) =
      let file = file_of v.items ts g.0.0 g.0.1 t g.0.3 in
      record {
        all = all_more HasTree (map items_of (take i vs)) v.items a.all (g.0.0, g.0.1, file);
        kept = deep_kept new.deep old.deep unit (map externals_of old.units.items) (map externals_of new.units.items) (map items_of (take i vs) ++ v.items ∷ []) u (g.0.0, g.0.1, g.0.2, file) g.1 a.kept;
      }

  pub parsed_more : (unit : ℕ) (ts : List Token) (old new : Trees) → unit ≡ i → HasTokens v.items ts → AreParsed (map items_of vs) (map items_of (take i vs)) old → GrowsTo unit v.items ts old new → AreParsed (map items_of vs) (map items_of (take (i + 1) vs)) new
  parsed_more unit ts old new u t a g = subst (λ (done : List (List ℕ)). AreParsed (map items_of vs) done new) (sym (more_read items_of vs i v l e)) (grown unit ts old new u t a g)

  -- why a text has no tree
  pub tree_cause : OneReading → (unit : ℕ) (ts : List Token) (old : Trees) (f : BuildFault) → unit ≡ i → HasTokens v.items ts → AreFew (map items_of vs) → AreParsed (map items_of vs) (map items_of (take i vs)) old → Grows unit v.items ts old (Err f) → IsCause (map items_of vs) f
  tree_cause one unit ts old cause.Source u t few a k = absurd k
  tree_cause one unit ts old (cause.Lex _ _ _) u t few a k = absurd k
  tree_cause one unit ts old cause.Tokens u t few a k = absurd k
  tree_cause one unit ts old (cause.Syntax w _ _) u t few a k =
      (few, subst (λ (j : ℕ). IsFirst HasTree HasNoTree j (map items_of vs)) (sym (k.0 ∙ u)) (first_of items_of HasTree HasNoTree vs i v l e a.all (no_tree one v.items ts t k.1)))
  tree_cause one unit ts old (cause.Deep _ _ _) u t few a k = absurd k
  tree_cause one unit ts old cause.Arguments u t few a k = absurd k
  tree_cause one unit ts old (cause.Rule _ _ _ _) u t few a k = absurd k
  tree_cause one unit ts old (cause.Twice _) u t few a k = absurd k
  tree_cause one unit ts old (cause.Unknown _) u t few a k = absurd k
  tree_cause one unit ts old cause.NoMain u t few a k = absurd k
  tree_cause one unit ts old cause.Statics u t few a k = absurd k
  tree_cause one unit ts old cause.NoMemory u t few a k = tt

pub parsed_none : (vs : List (Vec ℕ)) (trees : Trees) → trees.deep ≡ None → trees.units.items ≡ [] → AreParsed (map items_of vs) [] trees
parsed_none vs trees d u = record {
  all = tt;
  kept = subst (λ (x : Option (ℕ × Place)). AreKept (map items_of vs) [] x (map externals_of trees.units.items)) (sym d)
      (subst (λ (us : List UnitTree). Each IsTree [] (map externals_of us)) (sym u) tt);
}

-- ---- all trees

told : (texts : List (List ℕ)) (trees : Trees) (r : Result (Vec UnitTree) BuildFault) → AreFew texts → AreParsed texts texts trees → IsShallowOf trees r → AreTrees texts r
told texts trees (Ok units) few a k = record {
  few = few;
  trees = subst (λ (us : Vec UnitTree). Each IsTree texts (map externals_of us.items)) (sym k.1) (subst (λ (d : Option (ℕ × Place)). AreKept texts texts d (map externals_of trees.units.items)) k.0 a.kept);
}
told texts trees (Err cause.Source) few a k = absurd k
told texts trees (Err (cause.Lex _ _ _)) few a k = absurd k
told texts trees (Err cause.Tokens) few a k = absurd k
told texts trees (Err (cause.Syntax _ _ _)) few a k = absurd k
told texts trees (Err (cause.Deep u _ _)) few a k = (few, a.all, subst (λ (d : Option (ℕ × Place)). AreKept texts texts d (map externals_of trees.units.items)) k.1 a.kept)
told texts trees (Err cause.Arguments) few a k = absurd k
told texts trees (Err (cause.Rule _ _ _ _)) few a k = absurd k
told texts trees (Err (cause.Twice _)) few a k = absurd k
told texts trees (Err (cause.Unknown _)) few a k = absurd k
told texts trees (Err cause.NoMain) few a k = absurd k
told texts trees (Err cause.Statics) few a k = absurd k
told texts trees (Err cause.NoMemory) few a k = absurd k

pub parsed_whole : (vs : List (Vec ℕ)) (i : ℕ) (trees : Trees) (r : Result (Vec UnitTree) BuildFault) → length vs ≤ i → AreFew (map items_of vs) → AreParsed (map items_of vs) (map items_of (take i vs)) trees → IsShallowOf trees r → AreTrees (map items_of vs) r
parsed_whole vs i trees r l few a k = told (map items_of vs) trees r few (subst (λ (done : List (List ℕ)). AreParsed (map items_of vs) done trees) (all_read items_of vs i l) a) k

-- ---- trees of texts and tokens that were read from lists

-- lists beside each other are as long
pub length_beside : {V W A B : Type 0} (f : V → A) (g : W → B) (R : A → B → Type 0) (vs : List V) (ws : List W) → Each R (map f vs) (map g ws) → length vs ≡ length ws
length_beside f g R [] [] e = refl
length_beside f g R [] (w ∷ ws) e = absurd e
length_beside f g R (v ∷ vs) [] e = absurd e
length_beside f g R (v ∷ vs) (w ∷ ws) e = ap suc (length_beside f g R vs ws e.1)

module _ (vs : List (Vec ℕ)) (ws : List (Vec Token)) (i : ℕ) (v : Vec ℕ) (w : Vec Token) (text : List ℕ) (ts : List Token) (unit : ℕ) (old : Trees)
    (l : i < length vs) (e : v ≡ get_or vs i v) (f : w ≡ get_or ws i w) (t : text ≡ v.items) (k : ts ≡ w.items) (u : unit ≡ i)
    (beside : Each HasTokens (map items_of vs) (map items_of ws)) (a : AreParsed (map items_of vs) (map items_of (take i vs)) old) where
  of_read : (r : Result Trees BuildFault) → Grows unit text ts old r → Grows unit v.items w.items old r
  of_read r g = subst (λ (x : List ℕ). Grows unit x w.items old r) t (subst (λ (x : List Token). Grows unit text x old r) k g)

  pub parsed_read : (new : Trees) → Grows unit text ts old (Ok new) → AreParsed (map items_of vs) (map items_of (take (i + 1) vs)) new
  parsed_read new g = parsed_more vs i v l e unit w.items old new u (each_at vs ws i v w l e f beside) a (of_read (Ok new) g)

  pub cause_read : OneReading → (fault : BuildFault) → AreFew (map items_of vs) → Grows unit text ts old (Err fault) → IsCause (map items_of vs) fault
  cause_read one fault few g = tree_cause vs i v l e one unit w.items old fault u (each_at vs ws i v w l e f beside) few a (of_read (Err fault) g)
