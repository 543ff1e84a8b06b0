-- Files and directories that are found to have wrong links are those of the rules.
use Rattle.std.proofs.Common.{◌≡◌, ◌∙◌, ◌⊎◌, ◌↔◌, ◌≤◌, ◌<◌, inl, inr, ℕ, List, [], ◌∷◌, length, Contains, refl, sym, ap, subst, arith, ⊎_elim}
use Rattle.std.specs.BTreeMap.{BTreeMap}
use Rattle.fileset_shapes.specs.domain_base.declared.place.CellAt.{CellAt}
use Rattle.fileset_shapes.specs.domain_base.declared.place.Home.{Home}
use Rattle.fileset_shapes.specs.domain_base.declared.place.Kind.{Kind}
use Rattle.fileset_shapes.specs.domain_base.declared.place.Kind.TheVariants.{Directory, File}
use Rattle.fileset_shapes.specs.domain_base.declared.place.Tag.{Tag}
use Rattle.fileset_shapes.specs.page_store.Pages.{Pages}
use Rattle.fileset_shapes.specs.metadata_cells.CellPage.{home_of}
use Rattle.fileset_shapes.specs.metadata_cells.Chain.{PlacedCell}
use Rattle.fileset_shapes.specs.fileset_files.declared.attributes.Attributes.{Attributes}
use Rattle.fileset_shapes.specs.fileset_table.Table.{Table}
use Rattle.fileset_shapes.specs.domain_layout.DirectoryRules.{IsFirstHome}
use Rattle.fileset_shapes.specs.domain_layout.Reached.{Frame}
use Rattle.fileset_shapes.specs.domain_layout.Seen.{SeenFile}
use Rattle.directory_faults.specs.Counts.{AreCounts, count_in, leads_so}
use Rattle.directory_faults.specs.Links.{AreWrongLinks, HasWrongLinks, HaveWrongLinks, IsWrongAt, LeadMore}
use Rattle.directory_faults.specs.Rows.{AreRowsIn}
use Rattle.directory_faults.specs.There.{AreFilesIn, BeginAt}
use Rattle.directory_faults.specs.declared.rows.RowThere.{RowThere}
use Rattle.directory_faults.specs.declared.there.FileThere.{FileThere}
use Rattle.directory_faults.proofs.Inserted.{AreIn, all_in, iff_trans}
use Rattle.directory_faults.proofs.RowPlaces.{as_counted, count_passing, passing, rows_to}

-- the page of the first cell
pub first_home : (cells : List PlacedCell) (at : CellAt) → BeginAt cells at → IsFirstHome cells (home_of at)
first_home [] at begins = begins
first_home (first ∷ rest) at begins = ap home_of begins

pub only_home : (cells : List PlacedCell) (at : CellAt) (home : Home) → BeginAt cells at → IsFirstHome cells home → home ≡ home_of at
only_home [] at home begins is = absurd begins
only_home (first ∷ rest) at home begins is = sym is ∙ ap home_of begins

module _ (pages : Pages) (frame : Frame) (table : Table) (number : ℕ) (files : List FileThere) (rows : List RowThere) (counts : BTreeMap (Tag × Kind) ℕ)
    (are_files : AreFilesIn pages frame table number files) (are : AreRowsIn pages frame table number rows) (counted : AreCounts rows counts) where
  lead_more : (tag : Tag) (of : Kind) (most : ℕ) → (most < count_in counts tag of) ↔ LeadMore pages frame table number tag of most
  lead_more tag of most = (
    λ more. let p = leads_so tag of in (passing p rows, rows_to pages frame table number rows are tag of, omega (arith, more, counted tag of, count_passing p rows)),
    λ (places, to, more). omega (arith, more, counted tag of, as_counted pages frame table number rows are tag of places to),
  )

  by_kind : (file : FileThere) (tag : Tag) (seen : SeenFile) → file.tag ≡ tag → file.seen.is ≡ seen.is → (of : Kind) → HaveWrongLinks counts file of ↔ AreWrongLinks pages frame table number tag seen of
  by_kind file tag seen tags is File =
      let more = lead_more tag File seen.is.links in
      let links : file.seen.is.links ≡ seen.is.links = ap (λ (a : Attributes). a.links) is in (
        λ which. ⊎_elim (λ root. inl (sym tags ∙ root)) (λ many. inr (more.0 (subst (λ (t : Tag). seen.is.links < count_in counts t File) tags (subst (λ n. n < count_in counts file.tag File) links many)))) which,
        λ which. ⊎_elim (λ root. inl (tags ∙ root)) (λ many. inr (subst (λ n. n < count_in counts file.tag File) (sym links) (subst (λ (t : Tag). seen.is.links < count_in counts t File) (sym tags) (more.1 many)))) which,
      )
  by_kind file tag seen tags is Directory =
      let more = lead_more tag Directory 1 in
      let links : file.seen.is.links ≡ seen.is.links = ap (λ (a : Attributes). a.links) is in (
        λ which. ⊎_elim (λ other. inl (λ one. other (links ∙ one))) (λ (apart, many). inr ((λ root. apart (tags ∙ root)), more.0 (subst (λ (t : Tag). 1 < count_in counts t Directory) tags many))) which,
        λ which. ⊎_elim (λ other. inl (λ one. other (sym links ∙ one))) (λ (apart, many). inr ((λ root. apart (sym tags ∙ root)), subst (λ (t : Tag). 1 < count_in counts t Directory) (sym tags) (more.1 many))) which,
      )

  by_files : (home : Home) (old : Type 0) → (old ⊎ ((file : FileThere) × Contains files file × IsWrongAt counts file home)) ↔ (old ⊎ HasWrongLinks pages frame table number home)
  by_files home old = (
    λ which. ⊎_elim (λ first. inl first) (λ (file, among, (wrong, same)). inr (to_rule file among wrong same)) which,
    λ which. ⊎_elim (λ first. inl first) (λ wrong. inr (from_rule wrong)) which,
  )
    where
      to_rule : (file : FileThere) → Contains files file → HaveWrongLinks counts file file.seen.is.kind → home ≡ home_of file.at → HasWrongLinks pages frame table number home
      to_rule file among wrong same =
          let read = are_files.each file among in
          let kind : file.seen.is.kind ≡ read.seen.is.kind = ap (λ (a : Attributes). a.kind) read.read.is in
          record {
            tag = file.tag;
            cells = read.cells;
            seen = read.seen;
            has = read.has;
            at = subst (IsFirstHome read.cells) (sym same) (first_home read.cells file.at read.read.begins);
            wrong = (by_kind file file.tag read.seen refl read.read.is read.seen.is.kind).0 (subst (HaveWrongLinks counts file) kind wrong);
          }

      from_rule : HasWrongLinks pages frame table number home → (file : FileThere) × Contains files file × IsWrongAt counts file home
      from_rule wrong =
          let was = are_files.all wrong.tag wrong.cells wrong.seen wrong.has in
          let kind : was.file.seen.is.kind ≡ wrong.seen.is.kind = ap (λ (a : Attributes). a.kind) was.read.is in (
            was.file,
            was.among,
            (
              subst (HaveWrongLinks counts was.file) (sym kind) ((by_kind was.file wrong.tag wrong.seen was.tag_is was.read.is wrong.seen.is.kind).1 wrong.wrong),
              only_home wrong.cells was.file.at home was.read.begins wrong.at,
            ),
          )

  pub all_links : (old new : Home → Type 0) (count : ℕ) → length files ≤ count → AreIn files (IsWrongAt counts) old new count → (home : Home) → new home ↔ (old home ⊎ HasWrongLinks pages frame table number home)
  all_links old new count whole said home = iff_trans (all_in files (IsWrongAt counts) old new count whole said home) (by_files home (old home))
