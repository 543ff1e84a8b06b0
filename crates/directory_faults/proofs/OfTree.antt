-- What is below a directory by rows that were read is so by the rules.
use Rattle.std.proofs.Common.{◌≡◌, ◌∙◌, ◌⊎◌, ◌↔◌, inl, inr, ℕ, Bool, false, List, IsTrue, slice_get, refl, sym, subst, ⊎_elim}
use Rattle.std.specs.BTreeSet.{BTreeSet}
use Rattle.fileset_shapes.specs.domain_base.declared.place.Home.{Home}
use Rattle.fileset_shapes.specs.domain_base.declared.place.Kind.TheVariants.{Directory}
use Rattle.fileset_shapes.specs.domain_base.declared.place.Tag.{Tag}
use Rattle.fileset_shapes.specs.page_store.Pages.{Pages}
use Rattle.fileset_shapes.specs.directory_pages.declared.row.Row.{Row}
use Rattle.fileset_shapes.specs.fileset_table.Table.{Table}
use Rattle.fileset_shapes.specs.name_space.Names.{root_tag}
use Rattle.fileset_shapes.specs.domain_layout.CellRules.{of_clone}
use Rattle.fileset_shapes.specs.domain_layout.DirectoryRules.{AreAllRead, IsHere, IsRow, RowPlace, RowsLead}
use Rattle.fileset_shapes.specs.domain_layout.DirectoryRules.RowsLead.{one as rows_one, more as rows_more}
use Rattle.fileset_shapes.specs.domain_layout.Reached.{Frame}
use Rattle.directory_faults.specs.Parents.{HasTag}
use Rattle.directory_faults.specs.Rows.{AreRowsIn, place_of}
use Rattle.directory_faults.specs.There.{AreFilesIn}
use Rattle.directory_faults.specs.declared.rows.RowThere.{RowThere}
use Rattle.directory_faults.specs.declared.there.FileThere.{FileThere}
use Rattle.directory_faults.specs.Children.{HasChild}
use Rattle.directory_faults.specs.Tree.{AreThere, HasTagOf, IsTree}
use Rattle.directory_faults.specs.Walk.{IsBelow}
use Rattle.directory_faults.specs.Walk.Leads.{one as leads_one, more as leads_more}
use Rattle.directory_faults.specs.declared.tree.Tree.{Tree}

-- what is there by a set of tags is there
pub read_by_tags : (files : List FileThere) (there reached : BTreeSet Tag) (is_clone read : Bool) → ((tag : Tag) → HasTag there tag ↔ HasTagOf files tag)
    → (IsTrue read ↔ ((is_clone ≡ false) ⊎ (HasTag there root_tag × ((tag : Tag) → HasTag reached tag → HasTag there tag)))) → IsTrue read ↔ ((is_clone ≡ false) ⊎ AreThere files (HasTag reached))
read_by_tags files there reached is_clone read has is = (
  λ yes. ⊎_elim (λ original. inl original) (λ (root, all). inr ((has root_tag).0 root, λ tag to. (has tag).0 (all tag to))) (is.0 yes),
  λ which. is.1 (⊎_elim (λ original. inl original) (λ (root, all). inr ((has root_tag).1 root, λ tag to. (has tag).1 (all tag to))) which),
)

module _ (pages : Pages) (frame : Frame) (table : Table) (number : ℕ) (files : List FileThere) (rows : List RowThere) (is_clone : Bool) (tree : Tree)
    (are_files : AreFilesIn pages frame table number files) (are : AreRowsIn pages frame table number rows) (slot : of_clone (slice_get table.slots number) ≡ is_clone)
    (is_tree : IsTree files rows is_clone tree) where
  -- a row of a directory leads to a tag as to a directory
  pub record LeadsThere (dir tag : Tag) : Type 0 where
    pub at : RowPlace
    pub row : Row
    pub home : Home
    pub from : at.dir ≡ dir
    pub is : IsRow pages frame table number at row home
    pub kind : row.kind ≡ Directory
    pub to : row.tag ≡ tag

  by_child : (dir tag : Tag) → HasChild tree.children dir tag → LeadsThere dir tag
  by_child dir tag child =
      let (r, among, (from, kind, to)) = (is_tree.children dir tag).0 child in
      record { at = place_of r; row = r.row; home = r.at.home; from = from; is = (are.each r).0 among; kind = kind; to = to }

  as_child : (dir : Tag) (at : RowPlace) (row : Row) (home : Home) → at.dir ≡ dir → IsRow pages frame table number at row home → row.kind ≡ Directory → HasChild tree.children dir row.tag
  as_child dir at row home from is kind =
      let r : RowThere = record { at = record { dir = at.dir; page = at.page; home = home }; place = at.place; row = row } in
      (is_tree.children dir row.tag).1 (r, (are.each r).1 is, (from, kind, refl))

  pub to_rows : (dir tag : Tag) → IsBelow tree.children dir tag → RowsLead pages frame table number dir tag
  to_rows dir tag way = elim way as (λ tag way. RowsLead pages frame table number dir tag) [
    | leads_one to child ↦
        let l = by_child dir to child in
        subst (λ (t : Tag). RowsLead pages frame table number dir t) l.to (rows_one l.at l.row l.home l.from l.is l.kind)
    | leads_more middle to (before → there) child ↦
        let l = by_child middle to child in
        subst (λ (t : Tag). RowsLead pages frame table number dir t) l.to (rows_more middle l.at l.row l.home there l.from l.is l.kind)
  ]

  pub from_rows : (dir tag : Tag) → RowsLead pages frame table number dir tag → IsBelow tree.children dir tag
  from_rows dir tag lead = elim lead as (λ tag lead. IsBelow tree.children dir tag) [
    | rows_one at row home from is kind ↦ leads_one row.tag (as_child dir at row home from is kind)
    | rows_more middle at row home (before → way) from is kind ↦ leads_more middle row.tag way (as_child middle at row home from is kind)
  ]

  pub here : (tag : Tag) → HasTagOf files tag ↔ IsHere pages table number tag
  here tag = (
    λ (file, among, same).
        let read = are_files.each file among in
        subst (IsHere pages table number) same (read.cells, read.seen, read.has),
    λ (cells, seen, has).
        let was = are_files.all tag cells seen has in
        (was.file, was.among, was.tag_is),
  )

  pub all_read : IsTrue tree.are_all_read ↔ AreAllRead pages frame table number
  all_read = (
    λ yes. ⊎_elim (λ original. inl (slot ∙ original))
        (λ (root, all). inr (record {
          root = (here root_tag).0 root;
          reached = λ tag lead. (here tag).0 (all tag ((is_tree.reached tag).1 (from_rows root_tag tag lead)));
        }))
        (is_tree.read.0 yes),
    λ which. is_tree.read.1 (⊎_elim (λ original. inl (sym slot ∙ original))
        (λ synced. inr ((here root_tag).1 synced.root, λ tag to. (here tag).1 (synced.reached tag (to_rows root_tag tag ((is_tree.reached tag).0 to)))))
        which),
  )
