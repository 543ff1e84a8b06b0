-- All goes on to belong together over any number of calls on a tag.
use Rattle.std.proofs.Common.{ℕ, sym, subst, ⊎_elim}
use Rattle.release_list.specs.domain_base.declared.place.Home.{Home}
use Rattle.release_list.specs.domain_base.declared.place.Tag.{Tag}
use Rattle.release_list.specs.domain_base.declared.version.Version.{Version}
use Rattle.release_list.specs.page_store.Pages.{Pages}
use Rattle.release_list.specs.free_cells.Cells.{Cells}
use Rattle.release_list.specs.free_space.Spaces.{Spaces, missed}
use Rattle.release_list.specs.file_chains.Allocated.{AreAllocated}
use Rattle.release_list.proofs.OfFileChains.Allocated.{allocated_missed}
use Rattle.release_list.specs.fileset_files.Together.{AreTogether, IsHeldApart}
use Rattle.release_list.specs.Listing.{Listing}
use Rattle.release_list.specs.Standing.{Files}
use Rattle.release_list.specs.Steps.{IsWell, now_of}
use Rattle.release_steps.specs.Calls.{StandsWell, Call, Calls, FilesetNow, Refuses, cut, described, dropped, given, indexed, made, moved, no_call, one_more, put_in, refused}
use Rattle.release_steps.specs.Tags.{AreAmong}
use Rattle.release_steps.proofs.FirstWell.{attributes_beside, attributes_live, dropped_among, dropped_well, first_among, first_well, index_beside, index_live, parent_beside, parent_live, set_file, truncated_beside, truncated_live}
use Rattle.release_steps.proofs.MakeWell.{made_among, made_well}
use Rattle.release_steps.proofs.PutWell.{among_by, given_among, given_well, moved_among, moved_well}
use Rattle.release_steps.proofs.TagCalls.{together_call}
use Rattle.release_steps.proofs.Wells.{well_by}

-- free space in which no page is held less
pub well_held : (list : Listing) (files : Files) (space space_now : Spaces) (cells : Cells) (pages : Pages) → AreAllocated space_now cells pages → ((home : Home) → IsHeldApart space cells home → IsHeldApart space_now cells home)
    → IsWell (now_of list files space cells pages) → IsWell (now_of list files space_now cells pages)
well_held list files space space_now cells pages allocated held well = record {
  together = record {
    allocated = allocated;
    each = well.together.each;
    apart = well.together.apart;
    held = λ a p home there. held home (well.together.held a p home there);
    once = well.together.once;
    one_deep = well.together.one_deep;
  };
  listed = record {
    each = well.listed.each;
    once = well.listed.once;
    order = well.listed.order;
    pages_once = well.listed.pages_once;
    pages_low = well.listed.pages_low;
    pages_held = λ home inside. held home (well.listed.pages_held home inside);
    pages_apart = well.listed.pages_apart;
  };
}

module _ (fileset : ℕ) (version : Version) (tag : Tag) (old new : FilesetNow) (stood : StandsWell fileset old) where
  was : IsWell (now_of old.domain.list old.domain.files old.domain.space old.domain.cells old.domain.pages)
  was = record { together = stood.well.together; listed = stood.well.listed }

  missed_well : IsWell (now_of old.domain.list old.domain.files (missed old.domain.space) old.domain.cells old.domain.pages)
  missed_well = well_held old.domain.list old.domain.files old.domain.space (missed old.domain.space) old.domain.cells old.domain.pages
      (allocated_missed old.domain.space old.domain.cells old.domain.pages stood.well.together.allocated)
      (λ home is. record { held = is.held; off_table = is.off_table })
      was

  refused_well : Refuses old new → IsWell new.domain
  refused_well s = ⊎_elim
      (λ same. well_by new.domain old.domain.list old.domain.files old.domain.space old.domain.cells s.list s.files same s.cells
      (subst (λ (ps : Pages). IsWell (now_of old.domain.list old.domain.files old.domain.space old.domain.cells ps)) (sym s.pages) was))
      (λ miss. well_by new.domain old.domain.list old.domain.files (missed old.domain.space) old.domain.cells s.list s.files miss s.cells
      (subst (λ (ps : Pages). IsWell (now_of old.domain.list old.domain.files (missed old.domain.space) old.domain.cells ps)) (sym s.pages) missed_well))
      s.space

  well_call : Call fileset version tag old new → IsWell new.domain
  well_call (refused s) = refused_well s
  well_call (given s) = given_well fileset version tag old new stood s
  well_call (moved s) = moved_well fileset version tag old new stood s
  well_call (described value s) = let file = set_file fileset tag old new stood _ s in first_well fileset tag old new stood _ s (attributes_beside old.domain.pages s.first s.rest file value) (attributes_live old.domain.pages s.first s.rest file value)
  well_call (put_in parent s) = let file = set_file fileset tag old new stood _ s in first_well fileset tag old new stood _ s (parent_beside old.domain.pages s.first s.rest file parent) (parent_live old.domain.pages s.first s.rest file parent)
  well_call (indexed index s) = let file = set_file fileset tag old new stood _ s in first_well fileset tag old new stood _ s (index_beside old.domain.pages s.first s.rest file index) (index_live old.domain.pages s.first s.rest file index)
  well_call (cut size lowered s) =
      let file = set_file fileset tag old new stood _ s in
      first_well fileset tag old new stood _ s (truncated_beside old.domain.pages s.first s.rest file size lowered) (truncated_live old.domain.pages s.first s.rest file size lowered)
  well_call (dropped s) = dropped_well fileset tag old new stood s
  well_call (made s) = made_well fileset version tag old new stood s

  among_call : Call fileset version tag old new → AreAmong new.domain new.places new.chains
  among_call (refused s) = among_by new.domain old.places new.places old.chains new.chains old.domain.list old.domain.files new.domain.space new.domain.cells s.list s.files s.places s.chains
      (record { same = stood.among.same; live = stood.among.live; trimmed = stood.among.trimmed; low = stood.among.low; no_tags = stood.among.no_tags; not_listed = stood.among.not_listed })
  among_call (given s) = given_among fileset version tag old new stood s
  among_call (moved s) = moved_among fileset version tag old new stood s
  among_call (described value s) = let file = set_file fileset tag old new stood _ s in first_among fileset tag old new stood _ s (attributes_beside old.domain.pages s.first s.rest file value) (attributes_live old.domain.pages s.first s.rest file value)
  among_call (put_in parent s) = let file = set_file fileset tag old new stood _ s in first_among fileset tag old new stood _ s (parent_beside old.domain.pages s.first s.rest file parent) (parent_live old.domain.pages s.first s.rest file parent)
  among_call (indexed index s) = let file = set_file fileset tag old new stood _ s in first_among fileset tag old new stood _ s (index_beside old.domain.pages s.first s.rest file index) (index_live old.domain.pages s.first s.rest file index)
  among_call (cut size lowered s) =
      let file = set_file fileset tag old new stood _ s in
      first_among fileset tag old new stood _ s (truncated_beside old.domain.pages s.first s.rest file size lowered) (truncated_live old.domain.pages s.first s.rest file size lowered)
  among_call (dropped s) = dropped_among fileset tag old new stood s
  among_call (made s) = made_among fileset version tag old new stood s

  pub stands_call : Call fileset version tag old new → StandsWell fileset new
  stands_call call = record { well = well_call call; together = together_call fileset version tag old new call stood.together; among = among_call call }

pub stands_still : (fileset : ℕ) (version : Version) (tag : Tag) (first last : FilesetNow) → Calls fileset version tag first last → StandsWell fileset first → StandsWell fileset last
stands_still fileset version tag first last calls stood =
    elim calls as (λ last calls. StandsWell fileset last) [
      | no_call ↦ stood
      | one_more between last (calls → was) call ↦ stands_call fileset version tag between last was call
    ]

pub calls_stay_well : (fileset : ℕ) (version : Version) (tag : Tag) (first last : FilesetNow) → Calls fileset version tag first last
    → AreTogether fileset first.places first.domain.space first.domain.cells first.domain.pages first.chains → IsWell first.domain → AreAmong first.domain first.places first.chains
    → IsWell last.domain × AreAmong last.domain last.places last.chains
calls_stay_well fileset version tag first last calls together well among =
    let it = stands_still fileset version tag first last calls (record { well = well; together = together; among = among }) in
    (it.well, it.among)
