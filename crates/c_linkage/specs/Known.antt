-- What is known of the definitions of a name, where they come in the order of their files.
use Rattle.std.specs.Prelude.{ℕ, Bool, true, false, not, ◌&&◌, ◌||◌, ◌==◌, if◌then◌else◌, List, Option, Some, None}
use Rattle.std.specs.BTreeMap.{get_by}
use Rattle.c_defs.specs.Digests.{digest, compared}
use Rattle.c_linkage.specs.declared.definitions.Known.{Known}
use Rattle.c_linkage.specs.declared.definitions.KnownNames.{KnownNames}
use Rattle.c_linkage.specs.declared.definitions.Manner.{Manner}
use Rattle.c_linkage.specs.declared.definitions.Manner.TheVariants.{Body, Initialized}
use Rattle.c_linkage.specs.Names.{Defining}

abbrev pub known_in : KnownNames → List ℕ → Option Known
known_in m t = get_by (compared (digest t) t) m.of

abbrev pub is_body : Manner → Bool
is_body Body = true
is_body _ = false

abbrev pub is_initialized : Manner → Bool
is_initialized Initialized = true
is_initialized _ = false

-- in the same file, and in one behind it
abbrev pub added : Known → Defining → Known
added k d = record {
  unit = d.unit;
  body = k.body || is_body d.manner;
  initialized = k.initialized || is_initialized d.manner;
  external = k.external || not d.is_static;
  elsewhere = k.elsewhere;
}

abbrev pub begun : (elsewhere : Bool) → Defining → Known
begun x d = record { unit = d.unit; body = is_body d.manner; initialized = is_initialized d.manner; external = not d.is_static; elsewhere = x }

abbrev pub behind : Option Known → Defining → Known
behind None d = begun false d
behind (Some k) d = if k.unit == d.unit then added k d else begun (k.elsewhere || k.external) d

-- a definition is one too many
abbrev pub is_again : Option Known → Defining → Bool
is_again None d = false
is_again (Some k) d =
    if k.unit == d.unit then (is_body d.manner && k.body) || (is_initialized d.manner && k.initialized) || (not d.is_static && k.elsewhere)
    else (not d.is_static && (k.external || k.elsewhere))
