-- A side beside another one to which something was done.
use Rattle.std.proofs.Common.{◌≡◌, ◌∙◌, sym, ap, subst, refl, false, [], Option, Some, None}
use Rattle.machine_state.specs.State.{Behaviour}
use Rattle.nub_wire.specs.declared.link.Side.{Side}
use Rattle.nub_wire.specs.declared.link.Side.TheVariants.{First, Second}
use Rattle.nub_wire.specs.Nub.{Host}
use Rattle.nub_wire.specs.Delivery.{Conduct, LinkSide, World, side_of}
use Rattle.nub_wire.specs.Rest.{IsIdle, IsAtRest, other}
use Rattle.abs_mem.specs.WireMeaning.{IsBeside}
use Rattle.resuming.specs.Standing.{Stands}
use Rattle.session.specs.declared.sides.SideRecord.{SideRecord}
use Rattle.session.specs.Meant.{IsThere}

-- an idle side with a host whose nub is at rest is at rest itself
record RestsWith (s : Option LinkSide) (h : Host) : Type 0 where
  now : LinkSide
  there : s ≡ Some now
  rest : IsAtRest now
  host_is : now.host ≡ h

rests_with : (s : Option LinkSide) (h : Host) → IsBeside s (Some h) → h.nub.killed ≡ false → h.nub.output ≡ [] → RestsWith s h
rests_with None h beside lives none = absurd beside
rests_with (Some x) h beside lives none = record {
  now = x;
  there = refl;
  rest = record {
    idle = beside.0;
    lives = ap (λ (g : Host). g.nub.killed) beside.1 ∙ lives;
    none_gathered = ap (λ (g : Host). g.nub.output) beside.1 ∙ none;
  };
  host_is = beside.1;
}

is_beside : (s : Option LinkSide) (now : LinkSide) (h : Host) → s ≡ Some now → IsIdle now → now.host ≡ h → IsBeside s (Some h)
is_beside s now h e idle same = subst (λ (x : Option LinkSide). IsBeside x (Some h)) (sym e) (idle, same)

module _ (b : Behaviour) (c : Conduct) (o o' : Option World) (h it : Host) (before : Option Host) where
  -- where the other side stands with a host of its own now, this one stands beside that
  pub stands_beside : (side : Side) → Stands b c side o h before → Stands b c (other side) o' it (Some h) → Stands b c side o' h (Some it)
  stands_beside First x y =
      let r : RestsWith (side_of First y.world) h =
      rests_with (side_of First y.world) h y.beside_is (ap (λ (g : Host). g.nub.killed) (sym x.host_is) ∙ x.rest.lives) (ap (λ (g : Host). g.nub.output) (sym x.host_is) ∙ x.rest.none_gathered) in
      record {
        conduct = y.conduct;
        world = y.world;
        told = y.told;
        now = r.now;
        there = r.there;
        rest = r.rest;
        host_is = r.host_is;
        fits = x.fits;
        beside_is = is_beside (side_of Second y.world) y.now it y.there y.rest.idle y.host_is;
      }
  stands_beside Second x y =
      let r : RestsWith (side_of Second y.world) h =
      rests_with (side_of Second y.world) h y.beside_is (ap (λ (g : Host). g.nub.killed) (sym x.host_is) ∙ x.rest.lives) (ap (λ (g : Host). g.nub.output) (sym x.host_is) ∙ x.rest.none_gathered) in
      record {
        conduct = y.conduct;
        world = y.world;
        told = y.told;
        now = r.now;
        there = r.there;
        rest = r.rest;
        host_is = r.host_is;
        fits = x.fits;
        beside_is = is_beside (side_of First y.world) y.now it y.there y.rest.idle y.host_is;
      }

  -- so what the session knows of it is there still
  pub there_beside : (side : SideRecord) (which : Side) → IsThere b c o side h before → which ≡ other side.which → Stands b c which o' it (Some h) → IsThere b c o' side h (Some it)
  there_beside side which x e y = record {
    stands = stands_beside side.which x.stands (subst (λ (w : Side). Stands b c w o' it (Some h)) e y);
    context = x.context;
    target = x.target;
    order = x.order;
    names = x.names;
  }

-- ---- two sides of a session

module _ (b : Behaviour) (c : Conduct) (o o' : Option World) (one two : SideRecord) (h it : Host) (before : Option Host) where
  -- the second side, once the first one was asked
  pub second_beside : two.which ≡ Second → IsThere b c o two h before → one.which ≡ First → IsThere b c o' one it (Some h) → IsThere b c o' two h (Some it)
  second_beside e x f y = there_beside b c o o' h it before two one.which x (f ∙ ap other (sym e)) y.stands

  -- the first one, once the second was asked
  pub first_beside : one.which ≡ First → IsThere b c o one h before → two.which ≡ Second → IsThere b c o' two it (Some h) → IsThere b c o' one h (Some it)
  first_beside e x f y = there_beside b c o o' h it before one two.which x (f ∙ ap other (sym e)) y.stands
