-- What is linked: an image of objects and the rows that go with it, or why there is none.
use Rattle.std.specs.Prelude.{◌≡◌, List, Result, Ok, Err}
use Rattle.std.specs.List.{AllByRecursion}
use Rattle.machine_state.specs.declared.layout.TheConstants.{TEXT, DATA}
use Rattle.obj_file.specs.Image.{ImageFields}
use Rattle.obj_file.specs.declared.object.Object.{Object}
use Rattle.obj_file.specs.declared.object.LoaderRows.{LoaderRows}
use Rattle.obj_placed.specs.Placed.{IsPlacing, IsResolved, all_statics, placed_rows}
use Rattle.link_image.specs.Linked.{IsFor, linked_addresses, linked_address, linked_text, linked_statics, anchors_from}
use Rattle.link_image.specs.Conditions.{AreLinkable, IsFault}
use Rattle.link_image.specs.declared.fault.LinkFault.{LinkFault}

-- The image begins with the first word of its text. Static objects lie at addresses that they may have, in order; each use is found. The
-- rows have the static objects with these addresses, and the functions with addresses in place of offsets.
pub record IsLinked (objects : List Object) (image : ImageFields) (rows : LoaderRows) : Type 0 where
  pub linkable : AreLinkable objects
  pub target : AllByRecursion (IsFor image.target) objects
  pub entry : image.entry ≡ TEXT
  pub text : image.text ≡ linked_text objects
  pub statics : image.statics ≡ linked_statics objects
  pub placing : IsPlacing (all_statics objects) (linked_addresses objects)
  pub resolved : AllByRecursion (IsResolved (linked_address objects)) objects
  pub anchors : rows.anchors ≡ anchors_from DATA (all_statics objects)
  pub functions : rows.functions ≡ placed_rows TEXT objects

abbrev pub Links : List Object → Result (ImageFields × LoaderRows) LinkFault → Type 0
Links objects (Ok r) = IsLinked objects r.0 r.1
Links objects (Err f) = IsFault objects f
