-- What rows denote, and one row more.
use Rattle.std.proofs.Common.{arith, ◌≡◌, ◌≤◌, ℕ, suc, Bool, true, nat_le, if◌then◌else◌, Result, Ok, Err, OnOk, List, [], ◌∷◌, ◌++◌, length, map, refl, sym, ap, ◌∙◌, Option}
use Rattle.c_tree.specs.declared.types.CType.{CType}
use Rattle.c_typing.specs.Expressions as typing
use Rattle.c_typing.specs.Expressions.{Denoted}
use Rattle.c_judge.specs.declared.symbol.Symbol.{Symbol}
use Rattle.c_judge.specs.Scope.{Scope}
use Rattle.c_judge.specs.Judges.{denoted, denoted_all}
use Rattle.c_scope.specs.declared.link.Link.{Link}
use Rattle.c_scope.specs.declared.environment.Environment.{Environment as Here}
use Rattle.c_scope.specs.Environment.{Visible, denoted_by, declare, innermost}
use Rattle.c_scope.specs.Table.{Names, row, rows, names_from, with_name, AreAligned}
use Rattle.c_scope.specs.Here.{environment_of}

pub rows_denote : (ss : List Symbol) (ps : List (List CType)) (ls : List Link) → length ps ≡ length ss → length ls ≡ length ss → denoted_all ss ps ≡ map denoted_by (rows ss ps ls)
rows_denote [] ps ls h k = refl
rows_denote (s ∷ ss) [] ls h k = absurd (omega (arith, h))
rows_denote (s ∷ ss) (p ∷ ps) [] h k = absurd (omega (arith, k))
rows_denote (s ∷ ss) (p ∷ ps) (l ∷ ls) h k = ap (λ ds. denoted s p ∷ ds) (rows_denote ss ps ls (omega (arith, h)) (omega (arith, k)))

pub rows_more : (ss : List Symbol) (ps : List (List CType)) (ls : List Link) (s : Symbol) (p : List CType) (l : Link) → length ps ≡ length ss → length ls ≡ length ss
    → rows (ss ++ s ∷ []) (ps ++ p ∷ []) (ls ++ l ∷ []) ≡ rows ss ps ls ++ row s p l ∷ []
rows_more [] [] [] s p l h k = refl
rows_more [] (q ∷ ps) ls s p l h k = absurd (omega (arith, h))
rows_more [] [] (m ∷ ls) s p l h k = absurd (omega (arith, k))
rows_more (t ∷ ss) [] ls s p l h k = absurd (omega (arith, h))
rows_more (t ∷ ss) (q ∷ ps) [] s p l h k = absurd (omega (arith, k))
rows_more (t ∷ ss) (q ∷ ps) (m ∷ ls) s p l h k = ap (λ rs. row t q m ∷ rs) (rows_more ss ps ls s p l (omega (arith, h)) (omega (arith, k)))

pub rows_length : (ss : List Symbol) (ps : List (List CType)) (ls : List Link) → length ps ≡ length ss → length ls ≡ length ss → length (rows ss ps ls) ≡ length ss
rows_length [] ps ls h k = refl
rows_length (s ∷ ss) [] ls h k = absurd (omega (arith, h))
rows_length (s ∷ ss) (p ∷ ps) [] h k = absurd (omega (arith, k))
rows_length (s ∷ ss) (p ∷ ps) (l ∷ ls) h k = ap suc (rows_length ss ps ls (omega (arith, h)) (omega (arith, k)))

pub rows_hold : (t : Names) (n : ℕ) → AreAligned t → n ≤ length t.symbols → n ≤ length (rows t.symbols t.parameters t.links)
rows_hold t n a h = omega (arith, h, rows_length t.symbols t.parameters t.links a.parameters a.links)

-- scopes that find the same are the same
pub scope_same : (a b : typing.Scope) (f g : List ℕ → Option ℕ) (h k : List ℕ → ℕ) (l : ℕ → ℕ) (c : Bool) → a ≡ b → ((t : List ℕ) → f t ≡ g t) → ((t : List ℕ) → h t ≡ k t)
    → ◌≡◌ {A = Scope} (record { among = a; number = f; tag = h; literal = l; asks = c }) (record { among = b; number = g; tag = k; literal = l; asks = c })
scope_same a b f g h k l c o p q = λ i. record { among = o i; number = λ t. p t i; tag = λ t. q t i; literal = l; asks = c }

pub ok_then : {A E P Q : Type 0} (r : Result A E) → (P → Q) → OnOk r P → OnOk r Q
ok_then (Ok x) f h = f h
ok_then (Err e) f h = tt

-- a row of this name, and what it denotes
row_is : (s : Symbol) (ps : List CType) (l : Link) (name : List ℕ) (d : Denoted) → s.name ≡ name → denoted s ps ≡ d → row s ps l ≡ record { name = name; denoted = d; up = l.up; unit = l.unit; local = l.local }
row_is s ps l name d e f = λ i. record { name = e i; denoted = f i; up = l.up; unit = l.unit; local = l.local }

block_more : (start n : ℕ) (name : List ℕ) (vs : List Visible) → start ≤ n → names_from start (record { name = name; number = n } ∷ vs) ≡ name ∷ names_from start vs
block_more start n name vs h = let e : nat_le start n ≡ true = grind (arith, h) in ap (λ x. if x then name ∷ names_from start vs else []) e

-- one name more in the environment
pub declare_is : (old : Here) (t : Names) (name : List ℕ) (s : Symbol) (ps : List CType) (up : Option ℕ) (d : Denoted) (x : Option ℕ) → AreAligned old.table → old.table.start ≤ length old.table.symbols
    → s.name ≡ name → denoted s ps ≡ d → up ≡ innermost old.table.visible → t ≡ with_name old.table name s ps (record { up = up; unit = old.unit; local = x })
    → environment_of (record { unit = old.unit; table = t; locals = old.locals; defs = old.defs; tags = old.tags }) ≡ declare (environment_of old) name d x
declare_is old t name s ps up d x a h e f u w =
    let l : Link = record { up = up; unit = old.unit; local = x } in
    let o = old.table in
    let names : rows (o.symbols ++ s ∷ []) (o.parameters ++ ps ∷ []) (o.links ++ l ∷ []) ≡ rows o.symbols o.parameters o.links ++ record { name = name; denoted = d; up = innermost o.visible; unit = old.unit; local = x } ∷ []
    = rows_more o.symbols o.parameters o.links s ps l a.parameters a.links
    ∙ ap (λ r. rows o.symbols o.parameters o.links ++ r ∷ []) (row_is s ps l name d e f ∙ ap (λ v. record { name = name; denoted = d; up = v; unit = old.unit; local = x }) u) in
    let n = sym (rows_length o.symbols o.parameters o.links a.parameters a.links) in
    let b = block_more o.start (length o.symbols) name o.visible h in
    ap (λ v. environment_of (record { unit = old.unit; table = v; locals = old.locals; defs = old.defs; tags = old.tags })) w
    ∙ (λ i. record { unit = old.unit; names = names i; visible = record { name = name; number = n i } ∷ o.visible; block = b i; locals = old.locals; defs = old.defs; tags = old.tags })
