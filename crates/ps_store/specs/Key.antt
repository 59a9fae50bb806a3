-- Keys of dictionaries.
use Rattle.std.specs.Prelude.{Bool, false, bytes_eq}
use Rattle.std.specs.Ordering.{int_eq}
use Rattle.std.specs.Bool.{beq}
use Rattle.ps_store.specs.declared.key.Key.{Key}
use Rattle.ps_store.specs.declared.key.Key.TheVariants.{Name, Int, Bool as Truth}

-- whether both are the same key; names are compared by their characters
abbrev pub same_key : Key → Key → Bool
same_key (Name a) (Name b) = bytes_eq a b
same_key (Int a) (Int b) = int_eq a b
same_key (Truth a) (Truth b) = beq a b
same_key k other = false
