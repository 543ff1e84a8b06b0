-- An image has one state of filesets, up to what no reply tells apart.
use Rattle.std.proofs.Common.{◌≡◌, ◌∙◌, ℕ, List, Option, Some, None, IsSomeAnd, sym, ap, subst}
use Rattle.std.specs.FinMap.{get}
use Rattle.std.specs.Option.{option_map}
use Rattle.file_release.specs.domain_base.declared.place.Home.{Home}
use Rattle.file_release.specs.domain_base.declared.place.Kind.{Kind}
use Rattle.file_release.specs.domain_base.declared.place.Tag.{Tag}
use Rattle.file_release.specs.page_store.Bitfiles.{Bitfiles}
use Rattle.file_release.specs.page_store.Pages.{Pages}
use Rattle.log_recovery.specs.volume_disk.Image.{Image}
use Rattle.log_recovery.specs.disk_label.declared.anchor.Anchor.{Anchor}
use Rattle.log_recovery.proofs.OfDiskLabel.Slots.{IsAnchorBelow-unique}
use Rattle.log_recovery.proofs.OfLogRing.HeaderPages.{one_header}
use Rattle.log_recovery.specs.log_ring.Groups.{AreGroups, Group, HasLog, redone}
use Rattle.log_recovery.proofs.OfLogRing.OnImages.{one_way}
use Rattle.file_release.specs.fileset_files.declared.attributes.Attributes.{Attributes}
use Rattle.name_space.specs.fileset_model.Filesets.{FilesetMap}
use Rattle.name_space.specs.fileset_model.LooksLike.{IsShown, LooksLike}
use Rattle.name_space.specs.fileset_values.Orders.{Path}
use Rattle.name_space.specs.fileset_model.declared.fileset.FilesetSlot.{FilesetSlot}
use Rattle.name_space.specs.fileset_model.declared.node.Node.{Node}
use Rattle.name_space.specs.fileset_model.declared.node.Node.TheVariants.{Directory, File}
use Rattle.name_space.specs.Names.{Names, led_to, number_of}
use Rattle.domain_layout.specs.Filled.{Contents, Fills, FillsThere, IsFilled, IsRole}
use Rattle.domain_layout.specs.Read.{Reads, ReadsFrom, contents_of}
use Rattle.domain_layout.specs.Seen.{SeenFile}
use Rattle.domain_layout.specs.Shape.{FilesetShape, IsSameSeen, IsSameShape, IsSameShapeThere, IsSameThere}
use Rattle.domain_layout.proofs.OneShape.{one_shape}
use Rattle.domain_layout.proofs.OneSlot.{one_filling}
use Rattle.domain_layout.proofs.OnePage.{HasOne, one_of, some_same}

-- ---- shapes that are the same are filled alike

module _ (contents : Contents) where
  filled_same : (a b : SeenFile) (node : Node) → IsSameSeen a b → IsFilled contents b node → IsFilled contents a node
  filled_same a b (File uid gid size logged pages) same is =
      let what = same.is in (
        ap (λ (s : Attributes). s.kind) what ∙ is.0,
        ap (λ (s : Attributes). s.uid) what ∙ is.1,
        ap (λ (s : Attributes). s.gid) what ∙ is.2,
        ap (λ (s : Attributes). s.size) what ∙ is.3,
        ap (λ (s : Attributes). s.is_logged) what ∙ is.4,
        (λ page. is.5 page ∙ ap (option_map contents) (sym (same.homes page))),
      )
  filled_same a b (Directory uid gid) same is =
      let what = same.is in
      (ap (λ (s : Attributes). s.kind) what ∙ is.0, ap (λ (s : Attributes). s.uid) what ∙ is.1, ap (λ (s : Attributes). s.gid) what ∙ is.2)

  node_same : (a b : SeenFile) (node : Option Node) → IsSameSeen a b → IsSomeAnd node (IsFilled contents b) → IsSomeAnd node (IsFilled contents a)
  node_same a b None same is = absurd is
  node_same a b (Some node) same is = filled_same a b node same is

  fills_same : (a b : FilesetShape) (slot : FilesetSlot) → IsSameShape a b → Fills contents b slot → Fills contents a slot
  fills_same a b slot same is = record {
    role = subst (λ o. IsRole o slot.role) (sym same.original) is.role;
    valid = is.valid;
    names = subst (λ (s : Bitfiles). Names s slot) (sym shown) is.names;
    files = files;
    limits = λ who. is.limits who ∙ sym (same.limits who);
  }
    where
      shown : a.shown ≡ b.shown
      shown = λ i tag. same.shown tag i

      files : (path : Path) (tag : Tag) (of : Kind) (seen : SeenFile) → IsShown slot path → led_to a.shown path ≡ Some (tag, of) → a.files tag ≡ Some seen
          → IsSomeAnd (get slot.tree.nodes (number_of tag)) (IsFilled contents seen)
      files path tag of seen is_shown led there =
          let other : HasOne (b.files tag) (IsSameSeen seen) = one_of (b.files tag) (IsSameSeen seen) (subst (λ o. IsSameThere o (b.files tag)) there (same.files tag)) in
          node_same seen other.value _ other.is (is.files path tag of other.value is_shown (subst (λ (s : Bitfiles). led_to s path ≡ Some (tag, of)) shown led) other.there)

  slot_same : (a b : FilesetShape) (slot : Option FilesetSlot) → IsSameShape a b → IsSomeAnd slot (Fills contents b) → IsSomeAnd slot (Fills contents a)
  slot_same a b None same is = absurd is
  slot_same a b (Some slot) same is = fills_same a b slot same is

  pub there_same : (a b : Option FilesetShape) (slot : Option FilesetSlot) → IsSameShapeThere a b → FillsThere contents b slot → FillsThere contents a slot
  there_same None b slot none is = subst (λ o. FillsThere contents o slot) none is
  there_same (Some a) None slot same is = absurd same
  there_same (Some a) (Some b) slot same is = slot_same a b slot same is

-- ---- pages and images

reads_once : (pages : Pages) (home : Home) (all other : FilesetMap) → ReadsFrom pages home all → ReadsFrom pages home other → LooksLike all other
reads_once pages home all other one two =
    one_filling pages home (contents_of pages) one.shapes all other one.shaped one.filled
    (λ name. there_same (contents_of pages) (one.shapes name) (two.shapes name) (get other name) (one_shape pages home one.shapes two.shapes name one.shaped two.shaped) (two.filled name))

record IsOneLog (a b : Anchor) (groups others : List Group) : Type 0 where
  anchor : a ≡ b
  same : groups ≡ others

one_log : (sizes : List ℕ) (image : Image) (a b : Anchor) (groups others : List Group) → HasLog sizes a groups image → HasLog sizes b others image → IsOneLog a b groups others
one_log sizes image a b groups others one two =
    let anchor : a ≡ b = some_same a b (IsAnchorBelow-unique 16 sizes image (Some a) (Some b) one.anchor_is two.anchor_is) in
    let moved : AreGroups b b.start b.group groups image = subst (λ (x : Anchor). AreGroups x x.start x.group groups image) anchor one.groups_are in
    record { anchor = anchor; same = one_way one_header b b.start b.group groups others image moved two.groups_are }

pub means_once : (sizes : List ℕ) (image : Image) (all other : FilesetMap) → Reads sizes image all → Reads sizes image other → LooksLike all other
means_once sizes image all other one two =
    let log = one_log sizes image one.anchor two.anchor one.groups two.groups one.log two.log in
    let home : two.home ≡ one.home = some_same two.home one.home (sym two.table ∙ ap (λ (a : Anchor). a.table) (sym log.anchor) ∙ one.table) in
    let pages : redone two.groups image ≡ redone one.groups image = ap (λ groups. redone groups image) (sym log.same) in
    reads_once (redone one.groups image) one.home all other one.reads
    (subst (λ h. ReadsFrom (redone one.groups image) h other) home (subst (λ p. ReadsFrom p two.home other) pages two.reads))
