-- Where a part of a program begins, and what kind of constant one is.
use Rattle.std.specs.Prelude.{ℕ, Bool, true, false}
use Rattle.c_trees.specs.Initializers.{InitialTree, Value, Braces, Item}
use Rattle.c_typing.specs.declared.constant.Constant.{Constant}
use Rattle.c_typing.specs.declared.constant.Constant.TheVariants.{Number}
use Rattle.c_judge.specs.Places.{place_of}

-- where an initializer begins
abbrev pub initial_at : InitialTree → ℕ
initial_at (Value e) = (place_of e).at
initial_at (Braces at) = at.at
initial_at (Item i j) = initial_at i

abbrev pub is_number : Constant → Bool
is_number (Number n) = true
is_number _ = false
