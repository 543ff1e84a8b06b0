-- Files that are found to have fewer rows than links are those of the rule.
use Rattle.std.proofs.Common.{◌≡◌, ◌∙◌, ◌⊎◌, ◌↔◌, ◌≤◌, ◌<◌, inl, inr, ℕ, Bool, List, length, IsTrue, Contains, slice_get, sym, ap, subst, arith, ⊎_elim}
use Rattle.std.specs.BTreeMap.{BTreeMap}
use Rattle.fileset_shapes.specs.domain_base.declared.place.Home.{Home}
use Rattle.fileset_shapes.specs.domain_base.declared.place.Kind.{Kind}
use Rattle.fileset_shapes.specs.domain_base.declared.place.Kind.TheVariants.{File}
use Rattle.fileset_shapes.specs.domain_base.declared.place.Tag.{Tag}
use Rattle.fileset_shapes.specs.page_store.Pages.{Pages}
use Rattle.fileset_shapes.specs.metadata_cells.CellPage.{home_of}
use Rattle.fileset_shapes.specs.fileset_files.declared.attributes.Attributes.{Attributes}
use Rattle.fileset_shapes.specs.fileset_table.Table.{Table}
use Rattle.fileset_shapes.specs.domain_layout.CellRules.{of_clone}
use Rattle.fileset_shapes.specs.domain_layout.DirectoryRules.{AreAllRead, IsFirstHome}
use Rattle.fileset_shapes.specs.domain_layout.Reached.{Frame}
use Rattle.directory_faults.specs.Counts.{AreCounts, count_in, leads_so}
use Rattle.directory_faults.specs.Rows.{AreRowsIn}
use Rattle.directory_faults.specs.There.{AreFilesIn}
use Rattle.directory_faults.specs.declared.rows.RowThere.{RowThere}
use Rattle.directory_faults.specs.declared.there.FileThere.{FileThere}
use Rattle.directory_faults.proofs.Inserted.{AreIn, all_in, iff_trans}
use Rattle.directory_faults.proofs.LinksWrong.{first_home, only_home}
use Rattle.directory_faults.proofs.RowPlaces.{as_counted, count_passing, passing, rows_to}
use Rattle.directory_faults.specs.Few.{HasFewAt, HasFewCounted, HasFewRows, LeadFewer}
use Rattle.directory_faults.specs.Tree.{IsTree}
use Rattle.directory_faults.specs.declared.tree.Tree.{Tree}
use Rattle.directory_faults.proofs.OfTree.{all_read}

module _ (pages : Pages) (frame : Frame) (table : Table) (number : ℕ) (files : List FileThere) (rows : List RowThere) (is_clone : Bool) (tree : Tree)
    (are_files : AreFilesIn pages frame table number files) (are : AreRowsIn pages frame table number rows) (slot : of_clone (slice_get table.slots number) ≡ is_clone)
    (is_tree : IsTree files rows is_clone tree) where
  read : IsTrue tree.are_all_read ↔ AreAllRead pages frame table number
  read = all_read pages frame table number files rows is_clone tree are_files are slot is_tree

  -- where a directory may be out of sync no file is told
  pub none_few : ¬ IsTrue tree.are_all_read → (old : Home → Type 0) (home : Home) → old home ↔ (old home ⊎ HasFewRows pages frame table number home)
  none_few never old home = ((λ is. inl is), (λ which. ⊎_elim (λ is. is) (λ wrong. absurd (never (read.1 wrong.read))) which))

  module _ (counts : BTreeMap (Tag × Kind) ℕ) (counted : AreCounts rows counts) (yes : IsTrue tree.are_all_read) where
    lead_fewer : (tag : Tag) (least : ℕ) → (count_in counts tag File < least) ↔ LeadFewer pages frame table number tag least
    lead_fewer tag least = (
      λ few. let p = leads_so tag File in (passing p rows, rows_to pages frame table number rows are tag File, omega (arith, few, counted tag File, count_passing p rows)),
      λ (places, to, few). omega (arith, few, counted tag File, as_counted pages frame table number rows are tag File places to),
    )

    by_files : (home : Home) (old : Type 0) → (old ⊎ ((file : FileThere) × Contains files file × HasFewAt counts file home)) ↔ (old ⊎ HasFewRows pages frame table number home)
    by_files home old = (
      λ which. ⊎_elim (λ first. inl first) (λ (file, among, (wrong, same)). inr (to_rule file among wrong same)) which,
      λ which. ⊎_elim (λ first. inl first) (λ wrong. inr (from_rule wrong)) which,
    )
      where
        to_rule : (file : FileThere) → Contains files file → HasFewCounted counts file → home ≡ home_of file.at → HasFewRows pages frame table number home
        to_rule file among (kind, few) same =
            let was = are_files.each file among in
            record {
              tag = file.tag;
              cells = was.cells;
              seen = was.seen;
              has = was.has;
              at = subst (IsFirstHome was.cells) (sym same) (first_home was.cells file.at was.read.begins);
              kind = sym (ap (λ (a : Attributes). a.kind) was.read.is) ∙ kind;
              read = read.0 yes;
              few = (lead_fewer file.tag was.seen.is.links).0 (subst (λ n. count_in counts file.tag File < n) (ap (λ (a : Attributes). a.links) was.read.is) few);
            }

        from_rule : HasFewRows pages frame table number home → (file : FileThere) × Contains files file × HasFewAt counts file home
        from_rule wrong =
            let was = are_files.all wrong.tag wrong.cells wrong.seen wrong.has in
            let file = was.file in
            let few : count_in counts file.tag File < wrong.seen.is.links =
            subst (λ (t : Tag). count_in counts t File < wrong.seen.is.links) (sym was.tag_is) ((lead_fewer wrong.tag wrong.seen.is.links).1 wrong.few) in (
              file,
              was.among,
              (
                (
                  ap (λ (a : Attributes). a.kind) was.read.is ∙ wrong.kind,
                  subst (λ n. count_in counts file.tag File < n) (sym (ap (λ (a : Attributes). a.links) was.read.is)) few,
                ),
                only_home wrong.cells file.at home was.read.begins wrong.at,
              ),
            )

    pub all_few : (old new : Home → Type 0) (count : ℕ) → length files ≤ count → AreIn files (HasFewAt counts) old new count → (home : Home) → new home ↔ (old home ⊎ HasFewRows pages frame table number home)
    all_few old new count whole said home = iff_trans (all_in files (HasFewAt counts) old new count whole said home) (by_files home (old home))
