use Rattle.std.proofs.Common.{List, ℕ, true, ◌≡◌, IsSomeAnd, subst, sym}
use Rattle.file_chains.specs.metadata_cells.CellPage.{home_of, is_cell_page}
use Rattle.tag_dirs.proofs.Slots.{off_slot}
use Rattle.fileset_files.proofs.Created.{entered_there}
use Rattle.fileset_files.proofs.creating.enter_file.Goals as goal

pub write_cell-requires-clause-place : goal.write_cell-requires-clause-place
write_cell-requires-clause-place g c =
    let old = g.M.MetaPages.pages c.args.pages.now in
    let mid = g.M.MetaPages.pages c.enter_as.new.pages in
    let places = c.args.tags.now in
    let sets = entered_there old mid places c.args.tag.now c.args.at.now c.enter_as.result c.requires.tag c.enter_as.ensures.entered (λ is. (c.enter_as.ensures.missing is).0) in
    let home = home_of c.args.at.now in
    (subst (λ o. IsSomeAnd o (λ (page : List ℕ). is_cell_page page ≡ true)) (sym (sets.elsewhere home (off_slot places c.args.tag.now.slot home c.requires.apart))) c.requires.place.0, c.requires.place.1)

pub returns-clause-entered : goal.returns-clause-entered
returns-clause-entered g c =
    record {
      between = g.M.MetaPages.pages c.enter_as.new.pages;
      sets = entered_there (g.M.MetaPages.pages c.args.pages.now) (g.M.MetaPages.pages c.enter_as.new.pages) c.args.tags.now c.args.tag.now c.args.at.now c.enter_as.result c.requires.tag c.enter_as.ensures.entered (λ is. (c.enter_as.ensures.missing is).0);
      stands = c.write_cell.ensures.stands;
      others = c.write_cell.ensures.others;
      elsewhere = c.write_cell.ensures.elsewhere;
      well_formed = c.write_cell.ensures.well_formed;
      headers = c.write_cell.ensures.headers;
    }
