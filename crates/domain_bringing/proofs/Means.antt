-- What brought pages mean is what the image means of which they were brought.
use Rattle.std.proofs.Common.{◌≡◌, ◌∙◌, ◌↔◌, inr, ℕ, List, [], ◌∷◌, Option, Some, None, IsSome, refl, sym, ap, subst, ⊎_elim}
use Rattle.std.specs.Prelude.{unwrap_or}
use Rattle.std.specs.Option.{option_or}
use Rattle.domain_faults.specs.domain_base.declared.place.Home.{Home}
use Rattle.domain_faults.specs.domain_base.declared.place.Tag.{Tag}
use Rattle.domain_faults.specs.page_store.Pages.{Pages}
use Rattle.domain_faults.specs.log_ring.Images.{image_at}
use Rattle.domain_faults.specs.log_ring.declared.image.PageImage.{PageImage}
use Rattle.domain_faults.specs.volume_disk.Disk.{Disk, Tells}
use Rattle.domain_faults.specs.volume_disk.Image.{Image}
use Rattle.domain_faults.specs.disk_label.declared.anchor.Anchor.{Anchor}
use Rattle.domain_faults.specs.log_ring.Groups.{Group, HasLog, images_of, pages_in, redone}
use Rattle.domain_faults.specs.log_ring.Homes.{IsLoggable}
use Rattle.domain_faults.specs.log_recovery.Outcome.{HasRecovered}
use Rattle.domain_faults.specs.log_recovery.declared.redone.Redone.{Redone}
use Rattle.domain_faults.proofs.OfLogRecovery.OneOutcome.{has_no_fault, has_one_log}
use Rattle.domain_faults.specs.fileset_model.Filesets.{FilesetMap}
use Rattle.domain_faults.specs.fileset_values.Orders.{Name}
use Rattle.domain_faults.specs.fileset_table.Table.{Table}
use Rattle.domain_faults.specs.domain_layout.DirectoryRules.{Has}
use Rattle.domain_faults.specs.domain_layout.Faults.{HasNoFault, SaysTable}
use Rattle.domain_faults.specs.domain_layout.Layout.{IsLayout, Layout}
use Rattle.domain_faults.specs.domain_layout.Owners.{frame_of}
use Rattle.domain_faults.specs.domain_layout.Reached.{Frame}
use Rattle.domain_faults.specs.domain_layout.Read.{Means, ReadsFrom, contents_of}
use Rattle.domain_faults.specs.domain_layout.Seen.{SeenFile}
use Rattle.domain_faults.specs.domain_layout.Shape.{FilesetShape, HaveShapes, Shapes}
use Rattle.domain_faults.proofs.OfDomainLayout.NoTables.{none_of_extents, none_of_tables}
use Rattle.domain_faults.specs.domain_layout.Agreeing.{AgreeOn}
use Rattle.domain_faults.proofs.OfDomainLayout.FilledAlike.{filled_at_homes}
use Rattle.domain_faults.proofs.OfDomainLayout.OnePage.{some_same}
use Rattle.domain_faults.specs.domain_layout.Looks.{AgreeWhereRulesLook}
use Rattle.domain_faults.proofs.OfDomainLayout.SameFaults.{same_faults, same_lists, sides}
use Rattle.domain_faults.proofs.OfDomainLayout.Sides.{AreSides, flipped}
use Rattle.domain_faults.proofs.OfFilesetShapes.InShapes.{HasSome, in_shapes}
use Rattle.domain_faults.proofs.OfFilesetShapes.MayStand.{has_may}
use Rattle.domain_faults.proofs.OfFilesetShapes.SameShapes.{shapes_alike}
use Rattle.domain_faults.specs.filesets_reading.Good.{IsNamed}
use Rattle.image_loading.specs.Loading.{Brings, HasWhereRulesLook}
use Rattle.domain_faults.specs.filesets_reading.Faulty.{HasFaults}
use Rattle.domain_bringing.specs.Brought.{ArePagesOf, HasDomainPages, IsBroughtFrom, IsGoodFrame, images_alone}
use Rattle.domain_bringing.specs.Fault.{BeginsAt, HasFirstRow, IsNoDomain}
use Rattle.domain_bringing.proofs.Loggable.{looks_loggable, may_loggable}
use Rattle.domain_bringing.proofs.Looks.{looked_too, said_table}

-- ---- pages of an image

some_none : {P : Type 0} → (X : Type 0) (o : Option X) → o ≡ None → IsSome o → P
some_none X None is some = absurd (let e : IsSome {T = X} None = some in absurd (cc))
some_none X (Some x) is some = absurd (let e : Some x ≡ None = is in absurd (cc))

-- pages that were brought behind the images of groups are those of the image once these are redone
pub brought_same : (old new : Disk) (images : List PageImage) (after : Pages) (groups : List Group) → Tells old → Brings old new (images_alone images) after → images_of groups ≡ images → ArePagesOf after groups old.now.contents
brought_same old new images after groups told brings same home some = by_image (image_at home images) refl
  where
    laid : option_or (image_at home images) (pages_in old.now.contents home) ≡ redone groups old.now.contents home
    laid = ap (λ (i : List PageImage). option_or (image_at home i) (pages_in old.now.contents home)) (sym same)

    over : (o : Option (List ℕ)) → image_at home images ≡ o → option_or o (pages_in old.now.contents home) ≡ redone groups old.now.contents home
    over o is = ap (λ o. option_or o (pages_in old.now.contents home)) (sym is) ∙ laid

    by_image : (o : Option (List ℕ)) → image_at home images ≡ o → after home ≡ redone groups old.now.contents home
    by_image (Some page) is = brings.kept home (subst IsSome (sym is) refl) ∙ is ∙ over (Some page) is
    by_image None is = ⊎_elim (λ gone. some_none (List ℕ) (after home) gone some) (λ there. there ∙ over None is) (brings.added told home is)

pub agree_by : (pages : Pages) (frame : Frame) (groups : List Group) (image : Image) → HasWhereRulesLook pages frame → ArePagesOf pages groups image → AgreeWhereRulesLook pages (redone groups image) frame
agree_by pages frame groups image looked same home looks = same home (looked home looks)

-- ---- an image with faults

pub no_domain : (sizes : List ℕ) (image : Image) (groups : List Group) (found : Redone) (pages : Pages) (frame : Frame) → HasRecovered sizes image groups found → frame.anchor ≡ found.anchor → IsNamed frame.anchor frame.version
    → AgreeWhereRulesLook pages (redone groups image) frame → (vol at : ℕ) → HasFirstRow pages frame vol at → IsNoDomain sizes image vol at
no_domain sizes image groups found pages frame has anchor named agree vol at row = inr (row.rows, faults, row.first)
  where
    some : BeginsAt row.rows vol at → ¬ row.rows ≡ []
    some (first, more, is, _, _) none = let e : first ∷ more ≡ [] = sym is ∙ none in absurd (cc)

    faults : HasFaults sizes image row.rows
    faults = record {
      anchor = frame.anchor;
      groups = groups;
      version = frame.version;
      log = subst (λ (a : Anchor). HasLog sizes a groups image) (sym anchor) has.log;
      is_version = named.0;
      no_first = λ v p. has_no_fault sizes image found.anchor groups v p has.good has.log;
      faults = (same_lists pages (redone groups image) frame row.rows agree).0 row.faults;
      some = some row.first;
    }

-- ---- an image without one

-- the pages that a log may have, where they are there, are those of an image once groups are redone
abbrev pub AreThoseOf : Pages → Frame → List Group → Image → Type 0
AreThoseOf pages frame groups image = (home : Home) → IsLoggable frame.anchor home → IsSome (pages home) → pages home ≡ redone groups image home

module _ (pages : Pages) (groups : List Group) (image : Image) (layout : Layout) (laid : IsLayout pages layout) (good : IsGoodFrame (frame_of layout)) (has : HasDomainPages pages (frame_of layout)) (same : AreThoseOf pages (frame_of layout) groups image) where
  pub ahead : AgreeWhereRulesLook pages (redone groups image) (frame_of layout)
  ahead home looks = same home (looks_loggable pages layout laid good has.no_fault home looks) (has.looked home looks)

  both : AreSides pages (redone groups image) layout
  both = sides pages (redone groups image) layout ahead (none_of_tables pages (frame_of layout) has.no_fault) laid

  pub behind : AgreeWhereRulesLook (redone groups image) pages (frame_of layout)
  behind home looks = sym (ahead home (looked_too (redone groups image) pages layout (flipped pages (redone groups image) layout both) home looks))

  pub no_fault_there : HasNoFault (redone groups image) (frame_of layout)
  no_fault_there row fault = has.no_fault row ((same_faults pages (redone groups image) (frame_of layout) row ahead).1 fault)

  -- a page is there, and such as a log may have, where a shape has one of a file
  page_there : (home : Home) → layout.anchor.table ≡ Some home → (shapes : Shapes) (shaped : HaveShapes pages home shapes) → (name : Name) (shape : FilesetShape) → shapes name ≡ Some shape
      → (tag : Tag) (seen : SeenFile) → shape.files tag ≡ Some seen → (page : ℕ) (at : Home) → seen.homes page ≡ Some at → IsLoggable layout.anchor at × IsSome (pages at)
  page_there home table shapes shaped name shape there tag seen sees page at is =
      let says : SaysTable pages (frame_of layout) shaped.table = record { home = home; at = table; there = shaped.there } in
      let some : HasSome pages shaped.table tag seen = in_shapes pages shaped.table tag seen shapes shaped.are name shape there sees in
      let here : Has pages layout.table some.number tag some.cells seen = subst (λ (t : Table). Has pages t some.number tag some.cells seen) (said_table pages (redone groups image) layout both shaped.table says) some.has in
      let may = has_may pages layout laid (none_of_extents pages (frame_of layout) has.no_fault) some.number tag some.cells seen here page at is in
      (may_loggable (frame_of layout) at may, has.all shaped.table says some.number tag some.cells seen some.has page at is may.0)

  alike : (home : Home) → layout.anchor.table ≡ Some home → (shapes : Shapes) → HaveShapes pages home shapes → AgreeOn (contents_of pages) (contents_of (redone groups image)) shapes
  alike home table shapes shaped name shape there tag seen sees page at is =
      let of = page_there home table shapes shaped name shape there tag seen sees page at is in ap (λ o. unwrap_or o []) (same at of.0 of.1)

  pub reads_there : (home : Home) → layout.anchor.table ≡ Some home → (all : FilesetMap) → ReadsFrom pages home all → ReadsFrom (redone groups image) home all
  reads_there home table all from = record {
    shapes = from.shapes;
    shaped = shapes_alike pages (redone groups image) layout home from.shapes laid has.no_fault table from.shaped ahead;
    filled = filled_at_homes (contents_of pages) (contents_of (redone groups image)) from.shapes all (alike home table from.shapes from.shaped) from.filled;
  }

  pub reads_here : (home : Home) → layout.anchor.table ≡ Some home → (all : FilesetMap) → ReadsFrom (redone groups image) home all → ReadsFrom pages home all
  reads_here home table all from =
      let shaped : HaveShapes pages home from.shapes = shapes_alike (redone groups image) pages layout home from.shapes both.behind.laid no_fault_there table from.shaped behind in
      record {
        shapes = from.shapes;
        shaped = shaped;
        filled =
            filled_at_homes (contents_of (redone groups image)) (contents_of pages) from.shapes all
            (λ name shape there tag seen sees page at is. sym (alike home table from.shapes shaped name shape there tag seen sees page at is)) from.filled;
      }

-- ---- what it means

value_of : (o : Option Home) → IsSome o → (home : Home) × (o ≡ Some home)
value_of None some = some_none Home None refl some
value_of (Some home) some = (home, refl)

module _ (sizes : List ℕ) (image : Image) (pages : Pages) (groups : List Group) (found : Redone) (frame : Frame) (good : IsGoodFrame frame) (has : HasDomainPages pages frame) (anchor : frame.anchor ≡ found.anchor)
    (recovered : HasRecovered sizes image groups found) (same : AreThoseOf pages frame groups image) where
  log : HasLog sizes frame.anchor groups image
  log = subst (λ (a : Anchor). HasLog sizes a groups image) (sym anchor) recovered.log

  -- of each table
  to_image : (home : Home) → frame.anchor.table ≡ Some home → (all : FilesetMap) → ReadsFrom pages home all → ReadsFrom (redone groups image) home all
  to_image home =
      subst (λ f. IsGoodFrame f → HasDomainPages pages f → AreThoseOf pages f groups image → f.anchor.table ≡ Some home → (all : FilesetMap) → ReadsFrom pages home all → ReadsFrom (redone groups image) home all) has.laid_out.is
      (λ range pages_of those table all reads. reads_there pages groups image has.laid_out.layout has.laid_out.laid range pages_of those home table all reads) good has same

  to_pages : (home : Home) → frame.anchor.table ≡ Some home → (all : FilesetMap) → ReadsFrom (redone groups image) home all → ReadsFrom pages home all
  to_pages home =
      subst (λ f. IsGoodFrame f → HasDomainPages pages f → AreThoseOf pages f groups image → f.anchor.table ≡ Some home → (all : FilesetMap) → ReadsFrom (redone groups image) home all → ReadsFrom pages home all) has.laid_out.is
      (λ range pages_of those table all reads. reads_here pages groups image has.laid_out.layout has.laid_out.laid range pages_of those home table all reads) good has same

  no_fault : HasNoFault (redone groups image) frame
  no_fault =
      subst (λ f. IsGoodFrame f → HasDomainPages pages f → AreThoseOf pages f groups image → HasNoFault (redone groups image) f) has.laid_out.is
      (λ range pages_of those. no_fault_there pages groups image has.laid_out.layout has.laid_out.laid range pages_of those) good has same

  means : (all : FilesetMap) → ((home : Home) → frame.anchor.table ≡ Some home → ReadsFrom pages home all) → Means sizes image all
  means all reads =
      let table = value_of frame.anchor.table good.named.1 in
      record {
        anchor = frame.anchor;
        groups = groups;
        version = frame.version;
        log = log;
        is_version = good.named.0;
        no_first = λ vol at. has_no_fault sizes image found.anchor groups vol at recovered.good recovered.log;
        no_fault = no_fault;
        reads = record { anchor = frame.anchor; groups = groups; log = log; home = table.0; table = table.1; reads = to_image table.0 table.1 all (reads table.0 table.1) };
      }

  meant : (all : FilesetMap) → Means sizes image all → (home : Home) → frame.anchor.table ≡ Some home → ReadsFrom pages home all
  meant all is home table =
      let one = has_one_log sizes image is.reads.anchor is.reads.groups groups found is.reads.log recovered in
      let there : is.reads.home ≡ home = some_same is.reads.home home (sym is.reads.table ∙ ap (λ (a : Anchor). a.table) (one.0 ∙ sym anchor) ∙ table) in
      to_pages home table all
      (subst (λ (h : Home). ReadsFrom (redone groups image) h all) there (subst (λ (g : List Group). ReadsFrom (redone g image) is.reads.home all) one.1 is.reads.reads))

  pub those_mean : (all : FilesetMap) → Means sizes image all ↔ ((home : Home) → frame.anchor.table ≡ Some home → ReadsFrom pages home all)
  those_mean all = (meant all, means all)

-- of pages that were brought
pub mean_same : (sizes : List ℕ) (image : Image) (pages : Pages) (found : Redone) (frame : Frame) → IsGoodFrame frame → HasDomainPages pages frame → frame.anchor ≡ found.anchor → IsBroughtFrom sizes image pages found
    → (all : FilesetMap) → Means sizes image all ↔ ((home : Home) → frame.anchor.table ≡ Some home → ReadsFrom pages home all)
mean_same sizes image pages found frame good has anchor from = those_mean sizes image pages from.groups found frame good has anchor from.recovered (λ home loggable some. from.same home some)
