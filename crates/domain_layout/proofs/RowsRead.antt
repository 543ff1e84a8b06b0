-- Pages that agree where the rules look: the same rules of directories are broken.
use Rattle.std.proofs.Common.{◌∙◌, inl, inr, ℕ, List, sym, ⊎_elim}
use Rattle.file_release.specs.domain_base.declared.place.Home.{Home}
use Rattle.file_release.specs.domain_base.declared.place.Kind.{Kind}
use Rattle.file_release.specs.domain_base.declared.place.Kind.TheVariants.{Directory, File}
use Rattle.file_release.specs.domain_base.declared.place.Tag.{Tag}
use Rattle.file_release.specs.page_store.Pages.{Pages}
use Rattle.file_release.specs.metadata_cells.Chain.{PlacedCell}
use Rattle.name_space.specs.directory_pages.declared.row.Row.{Row}
use Rattle.name_space.specs.Names.{root_tag}
use Rattle.domain_layout.specs.DirectoryRules as rule
use Rattle.domain_layout.specs.DirectoryRules.{AreAllInSync, AreAllRead, AreRowsTo, HasOfKind, HasWrongParent, IsDirectoryFault, IsDirectoryPage, IsFileFault, IsHere, IsLostTwice, IsMiscounted, IsMisplaced, IsNameTwice, IsOneOfMany, IsRow, IsSecond, IsWrongFile, IsWrongRow, IsWrongRowPage, RowPlace, RowsLead}
use Rattle.domain_layout.specs.Layout.{Layout}
use Rattle.domain_layout.specs.Owners.{frame_of}
use Rattle.domain_layout.specs.Seen.{SeenFile}
use Rattle.domain_layout.proofs.Files.{has_alike}
use Rattle.domain_layout.proofs.Sides.{AreSides, flipped}

-- ---- rows

module _ (one other : Pages) (layout : Layout) (s : AreSides one other layout) where
  pub page_alike : (number : ℕ) (dir : Tag) (page : ℕ) (home : Home) (bytes : List ℕ) → IsDirectoryPage one (frame_of layout) layout.table number dir page home bytes
      → IsDirectoryPage other (frame_of layout) layout.table number dir page home bytes
  page_alike number dir page home bytes is = record {
    cells = is.cells;
    seen = is.seen;
    has = has_alike one other layout s.ahead number dir is.cells is.seen is.has;
    kind = is.kind;
    at = is.at;
    within = is.within;
    there = sym (s.directories number dir is.cells is.seen page home is.has is.kind is.at is.within) ∙ is.there;
  }

  pub row_alike : (number : ℕ) (at : RowPlace) (row : Row) (home : Home) → IsRow one (frame_of layout) layout.table number at row home → IsRow other (frame_of layout) layout.table number at row home
  row_alike number at row home is = record {
    bytes = is.bytes;
    is = page_alike number at.dir at.page home is.bytes is.is;
    good = is.good;
    there = is.there;
  }

  lead_alike : (number : ℕ) (dir tag : Tag) → RowsLead one (frame_of layout) layout.table number dir tag → RowsLead other (frame_of layout) layout.table number dir tag
  lead_alike number dir tag lead = elim lead as (λ tag lead. RowsLead other (frame_of layout) layout.table number dir tag) [
    | rule.one at row home from is kind ↦ rule.one at row home from (row_alike number at row home is) kind
    | rule.more middle at row home (before → earlier) from is kind ↦ rule.more middle at row home earlier from (row_alike number at row home is) kind
  ]

  here_alike : (number : ℕ) (tag : Tag) → IsHere one layout.table number tag → IsHere other layout.table number tag
  here_alike number tag (cells, seen, has) = (cells, seen, has_alike one other layout s.ahead number tag cells seen has)

  of_kind_alike : (number : ℕ) (tag : Tag) (of : Kind) → HasOfKind one layout.table number tag of → HasOfKind other layout.table number tag of
  of_kind_alike number tag of (cells, seen, has, kind) = (cells, seen, has_alike one other layout s.ahead number tag cells seen has, kind)

-- ---- what is said of all rows

module _ (one other : Pages) (layout : Layout) (s : AreSides one other layout) where
  back : AreSides other one layout
  back = flipped one other layout s

  rows_alike : (number : ℕ) (tag : Tag) (of : Kind) (rows : List RowPlace) → AreRowsTo one (frame_of layout) layout.table number tag of rows → AreRowsTo other (frame_of layout) layout.table number tag of rows
  rows_alike number tag of rows are = record {
    each = λ at. (
      (λ among.
          let r = (are.each at).0 among in
          (r.0, r.1, row_alike one other layout s number at r.0 r.1 r.2, r.3, r.4)),
      (λ r. (are.each at).1 (r.0, r.1, row_alike other one layout back number at r.0 r.1 r.2, r.3, r.4)),
    );
    once = are.once;
  }

  in_sync_alike : (number : ℕ) → AreAllInSync one (frame_of layout) layout.table number → AreAllInSync other (frame_of layout) layout.table number
  in_sync_alike number are = record {
    root = here_alike one other layout s number root_tag are.root;
    reached = λ tag lead. here_alike one other layout s number tag (are.reached tag (lead_alike other one layout back number root_tag tag lead));
  }

  all_read_alike : (number : ℕ) → AreAllRead one (frame_of layout) layout.table number → AreAllRead other (frame_of layout) layout.table number
  all_read_alike number are = ⊎_elim (λ original. inl original) (λ sync. inr (in_sync_alike number sync)) are

  -- ---- what pages of directories break

  row_page_alike : (home : Home) → IsWrongRowPage one (frame_of layout) layout.table home → IsWrongRowPage other (frame_of layout) layout.table home
  row_page_alike home (number, dir, page, bytes, is, bad) = (number, dir, page, bytes, page_alike one other layout s number dir page home bytes is, bad)

  name_alike : (home : Home) → IsNameTwice one (frame_of layout) layout.table home → IsNameTwice other (frame_of layout) layout.table home
  name_alike home w = record {
    number = w.number;
    early = w.early;
    late = w.late;
    one = w.one;
    other = w.other;
    first_home = w.first_home;
    is_early = row_alike one other layout s w.number w.early w.one w.first_home w.is_early;
    is_late = row_alike one other layout s w.number w.late w.other home w.is_late;
    same = w.same;
    order = w.order;
    names = w.names;
  }

  wrong_row_alike : (home : Home) → IsWrongRow one (frame_of layout) layout.table home → IsWrongRow other (frame_of layout) layout.table home
  wrong_row_alike home w = record {
    number = w.number;
    at = w.at;
    row = w.row;
    is = row_alike one other layout s w.number w.at w.row home w.is;
    wrong =
        ⊎_elim (λ root. inl root)
        (λ more. inr (⊎_elim (λ none. inl (none.0, (λ has. none.1 (of_kind_alike other one layout back w.number w.row.tag w.row.kind has))))
        (λ kind. inr (kind.0, of_kind_alike one other layout s w.number w.row.tag kind.0 kind.1, kind.2)) more)) w.wrong;
  }

  second_alike : (number : ℕ) (at : RowPlace) (row : Row) → IsSecond one (frame_of layout) layout.table number at row → IsSecond other (frame_of layout) layout.table number at row
  second_alike number at row (place, also, home, is, apart, same, kinds) =
      (place, also, home, row_alike one other layout s number place also home is, apart, same, kinds)

  many_alike : (number : ℕ) (row : Row) → IsOneOfMany one (frame_of layout) layout.table number row → IsOneOfMany other (frame_of layout) layout.table number row
  many_alike number row (rows, are, many) = (rows, rows_alike number row.tag row.kind rows are, many)

  lost_alike : (home : Home) → IsLostTwice one (frame_of layout) layout.table home → IsLostTwice other (frame_of layout) layout.table home
  lost_alike home w = record {
    number = w.number;
    at = w.at;
    row = w.row;
    is = row_alike one other layout s w.number w.at w.row home w.is;
    lost = λ here. w.lost (here_alike other one layout back w.number w.row.tag here);
    wrong = ⊎_elim (λ second. inl (second_alike w.number w.at w.row second)) (λ many. inr (many_alike w.number w.row many)) w.wrong;
  }

  -- ---- what files and directories break

  parent_alike : (number : ℕ) (tag : Tag) (cells : List PlacedCell) → HasWrongParent one (frame_of layout) layout.table number tag cells → HasWrongParent other (frame_of layout) layout.table number tag cells
  parent_alike number tag cells w = record {
    parent = w.parent;
    is =
        ⊎_elim (λ root. inl root)
        (λ row. inr (row.0, row.1, row.2, row_alike one other layout s number row.0 row.1 row.2 row.3, row.4, row.5, row.6, row.7)) w.is;
    wrong = w.wrong;
  }

  misplaced_alike : (number : ℕ) (tag : Tag) → IsMisplaced one (frame_of layout) layout.table number tag → IsMisplaced other (frame_of layout) layout.table number tag
  misplaced_alike number tag (rows, are, wrong) = (
    rows,
    rows_alike number tag Directory rows are,
    ⊎_elim (λ two. inl two)
        (λ more. inr (⊎_elim (λ below. inl (lead_alike one other layout s number tag tag below))
        (λ out. inr (all_read_alike number out.0, (λ lead. out.1 (lead_alike other one layout back number root_tag tag lead)))) more)) wrong,
  )

  miscounted_alike : (number : ℕ) (tag : Tag) (seen : SeenFile) → IsMiscounted one (frame_of layout) layout.table number tag seen → IsMiscounted other (frame_of layout) layout.table number tag seen
  miscounted_alike number tag seen (rows, are, wrong) =
      (rows, rows_alike number tag File rows are, ⊎_elim (λ many. inl many) (λ few. inr (all_read_alike number few.0, few.1)) wrong)

  wrong_file_alike : (number : ℕ) (tag : Tag) (cells : List PlacedCell) (seen : SeenFile) (kind : Kind) → IsWrongFile one (frame_of layout) layout.table number tag cells seen kind
      → IsWrongFile other (frame_of layout) layout.table number tag cells seen kind
  wrong_file_alike number tag cells seen File w = ⊎_elim (λ root. inl root) (λ count. inr (miscounted_alike number tag seen count)) w
  wrong_file_alike number tag cells seen Directory w =
      ⊎_elim (λ size. inl size)
      (λ a. inr (⊎_elim (λ links. inl links)
      (λ b. inr (⊎_elim (λ parent. inl (parent_alike number tag cells parent)) (λ place. inr (place.0, misplaced_alike number tag place.1)) b)) a)) w

  file_fault_alike : (home : Home) → IsFileFault one (frame_of layout) layout.table home → IsFileFault other (frame_of layout) layout.table home
  file_fault_alike home w = record {
    number = w.number;
    tag = w.tag;
    cells = w.cells;
    seen = w.seen;
    has = has_alike one other layout s.ahead w.number w.tag w.cells w.seen w.has;
    at = w.at;
    wrong = wrong_file_alike w.number w.tag w.cells w.seen w.seen.is.kind w.wrong;
  }

  -- code 9
  pub directory_fault_alike : (home : Home) → IsDirectoryFault one (frame_of layout) layout.table home → IsDirectoryFault other (frame_of layout) layout.table home
  directory_fault_alike home fault =
      ⊎_elim (λ w. inl (row_page_alike home w))
      (λ a. inr (⊎_elim (λ w. inl (name_alike home w))
      (λ b. inr (⊎_elim (λ w. inl (wrong_row_alike home w))
      (λ c. inr (⊎_elim (λ w. inl (lost_alike home w)) (λ w. inr (file_fault_alike home w)) c)) b)) a))
      fault
