-- What names denote stays within the limits of types as structs are completed.
use Rattle.std.proofs.Common.{◌≡◌, sym, zero, suc, true, true≢false, List}
use Rattle.c_tree.specs.declared.types.StructDef.{StructDef}
use Rattle.c_typing.specs.Plain.{Plain, Char, Int, Unsigned, Void, Pointer, Array, Struct}
use Rattle.c_typing.specs.Declarations.{is_result}
use Rattle.c_typing.specs.Expressions.{Denoted, Object, Function, Hidden}
use Rattle.c_defs.specs.Depths.{deepest}
use Rattle.c_linkage.specs.Names.{bounded_one, composite}
use Rattle.c_accepted.specs.Grown.{IsMade, Grows}
use Rattle.c_accepted.proofs.Written.{IsLimited, IsNamed, within_grows}
use Rattle.c_accepted.proofs.Completing.{made_grows}

-- the type of an object, and that of a function's result
abbrev pub IsDenotedIn : List StructDef → Denoted → Type 0
IsDenotedIn defs (Object t r) = IsNamed defs t
IsDenotedIn defs (Function t ps) = IsNamed defs t × (is_result t ≡ true)
IsDenotedIn defs Hidden = Unit {0}

module _ (before behind : List StructDef) (g : Grows before behind) where
  limited_grows : (t : Plain) → IsMade before t → IsLimited before t → IsLimited behind t
  limited_grows (Struct s) m h = tt
  limited_grows Char m h = within_grows before behind g deepest Char m (λ e. absurd (true≢false (sym e))) h
  limited_grows Int m h = within_grows before behind g deepest Int m (λ e. absurd (true≢false (sym e))) h
  limited_grows Unsigned m h = within_grows before behind g deepest Unsigned m (λ e. absurd (true≢false (sym e))) h
  limited_grows Void m h = within_grows before behind g deepest Void m (λ e. absurd (true≢false (sym e))) h
  limited_grows (Pointer t) m h = within_grows before behind g deepest (Pointer t) m (λ e. absurd (true≢false (sym e))) h
  limited_grows (Array t n) m h = within_grows before behind g deepest (Array t n) m (λ e. absurd (true≢false (sym e))) h

  pub named_grows : (t : Plain) → IsNamed before t → IsNamed behind t
  named_grows t h = (made_grows before behind g t h.0, limited_grows t h.0 h.1)

  pub denoted_grows : (d : Denoted) → IsDenotedIn before d → IsDenotedIn behind d
  denoted_grows (Object t r) h = named_grows t h
  denoted_grows (Function t ps) h = (named_grows t h.0, h.1)
  denoted_grows Hidden h = tt

-- ---- the type of two that agree is one of them

module _ (defs : List StructDef) where
  bounded_named : (s t : Plain) → IsNamed defs s → IsNamed defs t → IsNamed defs (bounded_one s t)
  bounded_named (Array s zero) t h k = k
  bounded_named (Array s (suc n)) t h k = h
  bounded_named Char t h k = h
  bounded_named Int t h k = h
  bounded_named Unsigned t h k = h
  bounded_named Void t h k = h
  bounded_named (Pointer s) t h k = h
  bounded_named (Struct s) t h k = h

  pub composite_named : (d e : Denoted) → IsDenotedIn defs d → IsDenotedIn defs e → IsDenotedIn defs (composite d e)
  composite_named (Object s r) (Object t q) h k = bounded_named s t h k
  composite_named (Object s r) (Function t ps) h k = h
  composite_named (Object s r) Hidden h k = h
  composite_named (Function t ps) e h k = h
  composite_named Hidden e h k = h
