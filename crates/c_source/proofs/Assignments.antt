-- A plain assignment is a list of assignments to leaves.
use Rattle.std.proofs.Common.{◌≡◌, refl, sym, ap, ◌∙◌, ℕ, ◌+◌, List, [], ◌∷◌, Some, None, Bool, true, false}
use Rattle.std.specs.Prelude.{Result, Ok, Err, if◌then◌else◌}
use Rattle.c_tree.specs.declared.types.CType.{CType}
use Rattle.c_tree.specs.declared.typed.Typed.{Typed}
use Rattle.c_tree.specs.declared.typed.Typed.TheVariants.{Assign'}
use Rattle.c_tree.specs.declared.rows.Program.{Program}
use Rattle.c_tree.specs.Types.{type_of, kind_of, is_struct}
use Rattle.ldb_words.specs.declared.kinds.Kind.{Kind}
use Rattle.runs.specs.Runs.{Why}
use Rattle.c_store.specs.Store.{Value, Number, Null, At, World, Cell, store, load_struct, store_struct, store_all, ◌>>=◌}
use Rattle.c_store.specs.Frames.{Here}
use Rattle.c_store.specs.Assigned.{Assignment, all_assigned, stored_or}
use Rattle.c_source.specs.Blocks.{cells_of, converted}
use Rattle.c_source.specs.Source.{no_value}
use Rattle.c_source.specs.Meaning.{Given, place_of, value_of, assigned, scalar_assigned, struct_assigned}

-- one world is another after some assignments
abbrev pub Follows : World → World → Type 0
Follows w w' = (all : List Assignment) × (w' ≡ all_assigned all w)

-- what a result holds
abbrev pub IfStored : World → Result World Why → Type 0
IfStored w (Ok w') = Follows w w'
IfStored w (Err e) = Unit {0}

abbrev pub IfGiven : World → Result Given Why → Type 0
IfGiven w (Ok g) = Follows w g.world
IfGiven w (Err e) = Unit {0}

one_stored : (w : World) (k : Kind) (place v : Value) (r : Result World Why) → store w k place v ≡ r → IfStored w r
one_stored w k place v (Err e) s = tt
one_stored w k place v (Ok w') s = (record { kind = k; place = place; value = v } ∷ [], ap (stored_or w) (sym s))

then_stored : (w : World) (k : Kind) (place v : Value) (r : Result World Why) → store w k place v ≡ r → (go : World → Result World Why)
    → ((w' : World) → IfStored w' (go w')) → IfStored w (r >>= go)
then_stored w k place v (Err e) s go f = tt
then_stored w k place v (Ok w') s go f = after (go w') (f w')
  where
    after : (q : Result World Why) → IfStored w' q → IfStored w q
    after (Err e) i = tt
    after (Ok w'') i = (record { kind = k; place = place; value = v } ∷ i.0, i.1 ∙ ap (λ u. all_assigned i.0 (stored_or w u)) (sym s))

all_stored : (w : World) (o i : ℕ) (ls : List Cell) (vs : List Value) → IfStored w (store_all w o i ls vs)
all_stored w o i [] vs = ([], refl)
all_stored w o i (l ∷ ls) [] = tt
all_stored w o i (l ∷ ls) (v ∷ vs) =
    then_stored w l.kind (At o (i + l.at)) v (store w l.kind (At o (i + l.at)) v) refl (λ w'. store_all w' o i ls vs) (λ w'. all_stored w' o i ls vs)

struct_stored : (w : World) (ls : List Cell) (place : Value) (vs : List Value) → IfStored w (store_struct w ls place vs)
unfolding store_struct
struct_stored w ls (Number n) vs = tt
struct_stored w ls Null vs = tt
struct_stored w ls (At o i) vs = all_stored w o i ls vs

given_of : (w : World) (v : World → Value) (r : Result World Why) → IfStored w r → IfGiven w (r >>= λ u. Ok (record { world = u; value = v u }))
given_of w v (Err e) i = tt
given_of w v (Ok w') i = i

bound_given : {A : Type 0} (w : World) (r : Result A Why) (go : A → Result Given Why) → ((x : A) → IfGiven w (go x)) → IfGiven w (r >>= go)
bound_given w (Err e) go f = tt
bound_given w (Ok x) go f = f x

module _ (p : Program) (h : Here) where
  scalar_given : (t : CType) (a b : Typed) → IfGiven h.world (scalar_assigned p h t a b)
  scalar_given t a b =
      bound_given h.world (place_of p h a) _ (λ place.
      bound_given h.world (value_of p h b) _ (λ v.
      bound_given h.world (converted t v) _ (λ x.
      given_of h.world (λ u. x) (store h.world (kind_of t) place x) (one_stored h.world (kind_of t) place x _ refl))))

  struct_given : (t : CType) (a b : Typed) → IfGiven h.world (struct_assigned p h t a b)
  struct_given t a b =
      bound_given h.world (place_of p h a) _ (λ to.
      bound_given h.world (place_of p h b) _ (λ from.
      bound_given h.world (load_struct h.world (cells_of p.defs t) from) _ (λ xs.
      given_of h.world (λ u. no_value) (store_struct h.world (cells_of p.defs t) to xs) (struct_stored h.world (cells_of p.defs t) to xs))))

  by_kind : (c : Bool) (t : CType) (a b : Typed) → IfGiven h.world (if c then struct_assigned p h t a b else scalar_assigned p h t a b)
  by_kind true t a b = struct_given t a b
  by_kind false t a b = scalar_given t a b

  given_assigned : (e : Typed) → IfGiven h.world (assigned p h e)
  given_assigned (Assign' t x a None y b) = by_kind (is_struct (type_of a)) (type_of a) a b
  given_assigned (Assign' t x a (Some op) y b) = tt
  given_assigned e = tt

  told : (r : Result Given Why) (g : Given) → r ≡ Ok g → IfGiven h.world r → Follows h.world g.world
  told (Err e) g s i = absurd cc
  told (Ok g') g s i =
      let same : g' ≡ g = cc in
      (i.0, ap (λ (x : Given). x.world) (sym same) ∙ i.1)

  pub assigned_follows : (e : Typed) (g : Given) → assigned p h e ≡ Ok g → (all : List Assignment) × (g.world ≡ all_assigned all h.world)
  assigned_follows e g s = told (assigned p h e) g s (given_assigned e)
