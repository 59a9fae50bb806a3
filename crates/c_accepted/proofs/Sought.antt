-- Each object that is declared is defined, or has to be (C90 6.7).
use Rattle.std.specs.Prelude.{◌≡◌, ℕ, Bool, true, false, ◌&&◌, ◌||◌, ◌==◌, List, [], ◌∷◌, bytes_eq}
use Rattle.std.specs.List.{AllByRecursion}
use Rattle.c_typing.specs.Expressions.{Denoted, Object}
use Rattle.c_linkage.specs.Names.{FileName, Defining, is_defined}
use Rattle.c_file.specs.Files.{State}
use Rattle.c_linkage.specs.Wanted.{Called}

-- a declared name of a file has to be defined
abbrev pub is_wanted : List Called → ℕ → List ℕ → Bool
is_wanted [] u name = false
is_wanted (c ∷ cs) u name = (c.declared && ((c.unit == u) && bytes_eq c.name name)) || is_wanted cs u name

-- of an object
abbrev pub IsSought : List Defining → List Called → FileName → Denoted → Type 0
IsSought ds cs f (Object t r) = (is_defined ds f.unit f.is_static f.name || is_wanted cs f.unit f.name) ≡ true
IsSought ds cs f _ = Unit {0}

abbrev pub IsSoughtIn : List Defining → List Called → FileName → Type 0
IsSoughtIn ds cs f = IsSought ds cs f f.denoted

abbrev pub AreSought : State → Type 0
AreSought p = AllByRecursion (IsSoughtIn p.definitions p.calls) p.names
