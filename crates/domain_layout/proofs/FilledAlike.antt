-- Contents that agree at the homes of files fill their shapes alike.
use Rattle.std.proofs.Common.{◌≡◌, ◌∙◌, Option, Some, None, IsSomeAnd, refl, ap}
use Rattle.std.specs.FinMap.{get}
use Rattle.std.specs.Option.{option_map}
use Rattle.file_release.specs.domain_base.declared.place.Home.{Home}
use Rattle.name_space.specs.fileset_model.Filesets.{FilesetMap}
use Rattle.name_space.specs.fileset_model.declared.fileset.FilesetSlot.{FilesetSlot}
use Rattle.name_space.specs.fileset_model.declared.node.Node.{Node}
use Rattle.name_space.specs.fileset_model.declared.node.Node.TheVariants.{Directory, File}
use Rattle.domain_layout.specs.Filled.{AreFilled, Contents, Fills, FillsThere, IsFilled}
use Rattle.domain_layout.specs.Seen.{SeenFile}
use Rattle.domain_layout.specs.Shape.{FilesetShape, Shapes}
use Rattle.domain_layout.specs.Agreeing.{AgreeOn, AgreeOnFile, AgreeOnShape}

module _ (one other : Contents) where
  same_page : (place : Option Home) → ((home : Home) → place ≡ Some home → one home ≡ other home) → option_map one place ≡ option_map other place
  same_page None agree = refl
  same_page (Some home) agree = ap Some (agree home refl)

  filled : (seen : SeenFile) (node : Node) → AgreeOnFile one other seen → IsFilled one seen node → IsFilled other seen node
  filled seen (File uid gid size logged pages) agree is =
      (is.0, is.1, is.2, is.3, is.4, (λ page. is.5 page ∙ same_page (seen.homes page) (agree page)))
  filled seen (Directory uid gid) agree is = is

  filled_there : (seen : SeenFile) (node : Option Node) → AgreeOnFile one other seen → IsSomeAnd node (IsFilled one seen) → IsSomeAnd node (IsFilled other seen)
  filled_there seen None agree is = absurd is
  filled_there seen (Some node) agree is = filled seen node agree is

  pub fills : (shape : FilesetShape) (slot : FilesetSlot) → AgreeOnShape one other shape → Fills one shape slot → Fills other shape slot
  fills shape slot agree is = record {
    role = is.role;
    valid = is.valid;
    names = is.names;
    files = λ path tag of seen shown led there. filled_there seen _ (agree tag seen there) (is.files path tag of seen shown led there);
    limits = is.limits;
  }

  slot_filled : (shape : FilesetShape) (slot : Option FilesetSlot) → AgreeOnShape one other shape → IsSomeAnd slot (Fills one shape) → IsSomeAnd slot (Fills other shape)
  slot_filled shape None agree is = absurd is
  slot_filled shape (Some slot) agree is = fills shape slot agree is

  fills_there : (shape : Option FilesetShape) (slot : Option FilesetSlot) → ((s : FilesetShape) → shape ≡ Some s → AgreeOnShape one other s) → FillsThere one shape slot
      → FillsThere other shape slot
  fills_there None slot agree is = is
  fills_there (Some shape) slot agree is = slot_filled shape slot (agree shape refl) is

pub filled_at_homes : (one other : Contents) (shapes : Shapes) (all : FilesetMap) → AgreeOn one other shapes → AreFilled one shapes all → AreFilled other shapes all
filled_at_homes one other shapes all agree are name = fills_there one other (shapes name) (get all name) (agree name) (are name)
