-- Activations, and the objects that they make and end.
use Rattle.std.specs.Prelude.{ℕ, List, [], ◌∷◌, ◌++◌, Bool, true, false, ◌==◌, Option, Some, None, slice_get, slice_set, take, drop, length, if◌then◌else◌}
use Rattle.c_store.specs.Store.{Cell, Object, World, Auto}

-- a live local of an activation, and its object
pub record Binding : Type 0 where
  pub local : ℕ
  pub object : ℕ

-- an activation: its number, `main` being 0, its function, its live locals in scope order, and the point that it passed last
pub record ActivationRecord : Type 0 where
  pub number : ℕ
  pub function : ℕ
  pub locals : List Binding
  pub point : Option ℕ

-- the world and the innermost activation
pub record Here : Type 0 where
  pub world : World
  pub activation : ActivationRecord

abbrev pub with_world : Here → World → Here
with_world h w = record h { world = w }

abbrev pub with_point : Here → ℕ → Here
with_point h q = record h { activation = record h.activation { point = Some q } }

-- an activation that begins, without locals yet
abbrev pub new_activation : (number function : ℕ) → ActivationRecord
new_activation n f = record { number = n; function = f; locals = []; point = None }

-- a new object for a local, of a size and with these leaves, which is the innermost activation's last in scope
unfoldable pub made : (local size : ℕ) → List Cell → Here → Here
made x size cells h = record {
  world = record h.world {
    objects = h.world.objects ++ record { origin = Auto h.activation.function x h.activation.number; live = true; size = size; cells = cells } ∷ [];
  };
  activation = record h.activation { locals = h.activation.locals ++ record { local = x; object = length h.world.objects } ∷ [] };
}

abbrev dead : Option Object → List Object → ℕ → List Object
dead None objects o = objects
dead (Some ob) objects o = slice_set objects o (record ob { live = false })

abbrev ended : List Binding → List Object → List Object
ended [] objects = objects
ended (b ∷ bs) objects = ended bs (dead (slice_get objects b.object) objects b.object)

-- blocks are left: the locals from number n in scope on are gone, and their objects' lifetimes have ended
unfoldable pub left : ℕ → Here → Here
left n h = record {
  world = record h.world { objects = ended (drop n h.activation.locals) h.world.objects };
  activation = record h.activation { locals = take n h.activation.locals };
}

-- no live object of the activation is this local's
abbrev pub is_free : ℕ → List Binding → Bool
is_free x [] = true
is_free x (b ∷ bs) = if b.local == x then false else is_free x bs

-- the object of a local
abbrev pub bound : ℕ → List Binding → Option ℕ
bound x [] = None
bound x (b ∷ bs) = if b.local == x then Some b.object else bound x bs
