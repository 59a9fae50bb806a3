-- What each external declaration keeps holds behind the last file.
use Rattle.std.proofs.Common.{◌≡◌, refl, sym, ap, ◌∙◌, subst, arith, ℕ, suc, ◌+◌, List, [], ◌∷◌, length}
use Rattle.std.specs.List.{AllByRecursion}
use Rattle.c_trees.specs.declared.unit.External.{External}
use Rattle.c_judge.specs.Answers.{Known, Unknown, Broken}
use Rattle.c_scope.specs.Findings.{Finding, nothing, ◌beside◌}
use Rattle.c_mentions.specs.Tags.{in_all, in_external}
use Rattle.c_file.specs.Files.{State, Externals, AllExternals, Onward}
use Rattle.c_file.specs.Programs.{Told, Well, Breaks, in_file, ◌before◌, next_file, AllFiles}
use Rattle.c_accepted.proofs.Shapes.{AreTags, both_tags}
use Rattle.c_accepted.proofs.Walked.{Stands, Goes, external, externals, next_stands, two_parts, well_one, well_both}

-- `I` holds at each place of a file, and `J` between files
module _ (tags : List (List ℕ)) (W : External → Type 0) (I J : State → Type 0)
    (one : (p : State) (e : External) (q : State) → Stands tags p → AreTags tags (in_external e) → W e → Externals p e nothing q → Goes tags p q → I p → I q)
    (begins : (p : State) → Stands tags p → J p → I p)
    (next : (p : State) → Stands tags p → I p → J (next_file tags p)) where
  abbrev Both : State → Type 0
  Both p = Stands tags p × I p

  step : (p : State) (e : External) (k : Finding) (r : State) → Both p → AreTags tags (in_external e) → W e → Externals p e k r → k ≡ nothing → Both r
  step p e k r s t w i z =
      let j : Externals p e nothing r = subst (λ f. Externals p e f r) z i in
      let g = external tags p e nothing r s.0 t j refl in
      (g.stands, one p e r s.0 t w j g s.1)

  abbrev RestOfFile : List External → State → State → Type 0
  RestOfFile es r q = Both r → AreTags tags (in_all in_external es) → AllByRecursion W es → (h : Finding) → AllExternals r es h q → h ≡ nothing → Both q

  walk_externals : (es : List External) (p : State) (f : Finding) (q : State) → Both p → AreTags tags (in_all in_external es) → AllByRecursion W es → AllExternals p es f q → f ≡ nothing → Both q
  walk_externals [] p f q s g w h z = subst Both (sym h.1) s
  walk_externals (e ∷ es) p f q s g w (k, r, i, on) z = by (λ b t v h j y. walk_externals es r h q b t v j y) k i on
    where
      later : RestOfFile es r q → (k : Finding) → Externals p e k r → k ≡ nothing → (h : Finding) → AllExternals r es h q → h ≡ nothing → Both q
      later rest k i x h j y =
          let t = both_tags tags (in_external e) (in_all in_external es) g in
          rest (step p e k r s t.0 w.0 i x) t.1 w.1 h j y

      by : RestOfFile es r q → (k : Finding) → Externals p e k r → Onward k ((f ≡ k) × (q ≡ r)) ((h : Finding) × AllExternals r es h q × (f ≡ (k beside h))) → Both q
      by rest (Broken n at) i on = absurd (let x : Broken n at ≡ nothing = sym on.0 ∙ z in cc)
      by rest (Known x) i (h, j, y) = let u = two_parts (Known x) h (sym y ∙ z) in later rest (Known x) i u.0 h j u.1
      by rest (Unknown n) i (h, j, y) = let u = two_parts (Unknown n) h (sym y ∙ z) in later rest (Unknown n) i u.0 h j u.1

  abbrev Between : State → Type 0
  Between p = Stands tags p × J p

  abbrev RestOfFiles : List (List External) → State → State → Type 0
  RestOfFiles us r q = Between r → AreTags tags (in_all (in_all in_external) us) → AllByRecursion (AllByRecursion W) us → (h : Told) → AllFiles tags r us h q → h ≡ Well → Between q

  pub walk_files : (us : List (List External)) (p : State) (f : Told) (q : State) → Stands tags p × J p → AreTags tags (in_all (in_all in_external) us) → AllByRecursion (AllByRecursion W) us → AllFiles tags p us f q → f ≡ Well → Stands tags q × J q
  walk_files [] p f q s g w h z = subst Between (sym h.1) s
  walk_files (u ∷ us) p f q s g w (k, r, i, on) z = by (λ b t v h j y. walk_files us (next_file tags r) h q b t v j y) k i on
    where
      later : RestOfFiles us (next_file tags r) q → (k : Finding) → AllExternals p u k r → k ≡ nothing → (h : Told) → AllFiles tags (next_file tags r) us h q → h ≡ Well → Between q
      later rest k i x h j y =
          let t = both_tags tags (in_all in_external u) (in_all (in_all in_external) us) g in
          let b = walk_externals u p k r (s.0, begins p s.0 s.1) t.0 w.0 i x in
          rest (next_stands tags r b.0, next r b.0 b.1) t.1 w.1 h j y

      by : RestOfFiles us (next_file tags r) q → (k : Finding) → AllExternals p u k r → Onward k ((f ≡ in_file p.here.unit k) × (q ≡ r)) ((h : Told) × AllFiles tags (next_file tags r) us h q × (f ≡ (in_file p.here.unit k before h))) → Between q
      by rest (Broken n at) i on = absurd (let x : Breaks n p.here.unit at ≡ Well = sym on.0 ∙ z in cc)
      by rest (Known x) i (h, j, y) = let v = well_both tags (in_file p.here.unit (Known x)) h (sym y ∙ z) in later rest (Known x) i (well_one tags p.here.unit (Known x) v.0) h j v.1
      by rest (Unknown n) i (h, j, y) = let v = well_both tags (in_file p.here.unit (Unknown n)) h (sym y ∙ z) in later rest (Unknown n) i (well_one tags p.here.unit (Unknown n) v.0) h j v.1

-- ---- how many files there are

module _ (tags : List (List ℕ)) where
  -- the number of the file behind the last is how many there are
  pub files_counted : (us : List (List External)) (p : State) (f : Told) (q : State) → Stands tags p → AreTags tags (in_all (in_all in_external) us) → AllFiles tags p us f q → f ≡ Well → q.here.unit ≡ p.here.unit + length us
  files_counted [] p f q s g h z = ap (λ (r : State). r.here.unit) h.1 ∙ (let e : p.here.unit ≡ p.here.unit + 0 = omega arith in e)
  files_counted (u ∷ us) p f q s g (k, r, i, on) z = by (λ t v h j y. files_counted us (next_file tags r) h q t v j y) k i on
    where
      later : (Stands tags (next_file tags r) → AreTags tags (in_all (in_all in_external) us) → (h : Told) → AllFiles tags (next_file tags r) us h q → h ≡ Well → q.here.unit ≡ suc r.here.unit + length us)
          → (k : Finding) → AllExternals p u k r → k ≡ nothing → (h : Told) → AllFiles tags (next_file tags r) us h q → h ≡ Well → q.here.unit ≡ p.here.unit + suc (length us)
      later rest k i x h j y =
          let t = both_tags tags (in_all in_external u) (in_all (in_all in_external) us) g in
          let b = externals tags u p k r s t.0 i x in
          let e = rest (next_stands tags r b.stands) t.1 h j y in
          let c = b.unit in
          omega (arith, e, c)

      by : (Stands tags (next_file tags r) → AreTags tags (in_all (in_all in_external) us) → (h : Told) → AllFiles tags (next_file tags r) us h q → h ≡ Well → q.here.unit ≡ suc r.here.unit + length us)
          → (k : Finding) → AllExternals p u k r → Onward k ((f ≡ in_file p.here.unit k) × (q ≡ r)) ((h : Told) × AllFiles tags (next_file tags r) us h q × (f ≡ (in_file p.here.unit k before h))) → q.here.unit ≡ p.here.unit + suc (length us)
      by rest (Broken n at) i on = absurd (let x : Breaks n p.here.unit at ≡ Well = sym on.0 ∙ z in cc)
      by rest (Known x) i (h, j, y) = let v = well_both tags (in_file p.here.unit (Known x)) h (sym y ∙ z) in later rest (Known x) i (well_one tags p.here.unit (Known x) v.0) h j v.1
      by rest (Unknown n) i (h, j, y) = let v = well_both tags (in_file p.here.unit (Unknown n)) h (sym y ∙ z) in later rest (Unknown n) i (well_one tags p.here.unit (Unknown n) v.0) h j v.1
