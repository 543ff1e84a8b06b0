-- All belongs together after a call.
use Rattle.std.proofs.Common.{◌≡◌, ◌∙◌, ℕ, ◌≤◌, List, Option, IsSome, IsSomeAnd, Some, None, Result, Ok, Err, IfOk, OnOk, OnErr, ap, subst, sym}
use Rattle.std.proofs.lemmas.Bool.{false_from_ne_true}
use Rattle.std.specs.Option.{option_map_or}
use Rattle.index_pages.specs.domain_base.declared.place.Home.{Home}
use Rattle.index_pages.specs.domain_base.declared.place.Tag.{Tag}
use Rattle.index_pages.specs.domain_base.declared.version.Version.{Version}
use Rattle.index_pages.specs.page_store.Pages.{Pages}
use Rattle.index_pages.specs.page_store.declared.fault.StoreFault.{StoreFault}
use Rattle.index_pages.specs.metadata_cells.Chain.{PlacedCell}
use Rattle.index_pages.specs.tag_dirs.declared.dir.TagPlace.{TagPlace}
use Rattle.index_pages.specs.tag_dirs.Directory.{has_home}
use Rattle.index_pages.specs.extent_maps.declared.run.PagePlace.{PagePlace}
use Rattle.index_pages.specs.extent_maps.declared.run.PagePlace.TheVariants.{Absent, At}
use Rattle.index_pages.specs.extent_maps.Runs.{home_at}
use Rattle.index_pages.specs.free_cells.Cells.{Cells}
use Rattle.index_pages.specs.free_space.VolumeSpace.{with_page}
use Rattle.index_pages.specs.free_space.Spaces.{CanTake, Spaces, change_volume}
use Rattle.index_pages.specs.file_chains.Files.{places_of}
use Rattle.index_pages.proofs.OfFileChains.Spaces.{not_held}
use Rattle.index_pages.specs.fileset_files.Changes.{IsLive}
use Rattle.index_pages.specs.fileset_files.declared.new_cells.NewFile.{NewFile}
use Rattle.index_pages.specs.fileset_files.Creation.{Creates}
use Rattle.index_pages.specs.fileset_files.Files.{Chains, place_at}
use Rattle.index_pages.specs.fileset_files.Moves.{MayMove}
use Rattle.index_pages.specs.fileset_files.Pages.{ChangesFile}
use Rattle.index_pages.specs.fileset_files.Together.{AreTogether, HasTogether, IsFilePage}
use Rattle.index_pages.proofs.OfFilesetFiles.Created.{one_chains, together_page}
use Rattle.index_pages.proofs.OfFilesetFiles.Grown.{apart_now}

pub created : (fileset fileset_now : ℕ) (places : List TagPlace) (tag : Tag) (version : Version) (what : NewFile) (chains : Chains) (space : Spaces) (cells cells_now : Cells) (old new : Pages) → fileset_now ≡ fileset
    → Creates fileset places tag version what chains space cells cells_now old new → HasTogether fileset_now places space cells_now new
created fileset fileset_now places tag version what chains space cells cells_now old new same creates =
    subst (λ (f : ℕ). HasTogether f places space cells_now new) (sym same) (_, creates.together)

pub given : (fileset : ℕ) (places : List TagPlace) (tag : Tag) (page : ℕ) (place : PagePlace) (version : Version) (chains : Chains) (space_now : Spaces) (cells cells_now : Cells) (old new : Pages) (o : Option (List PlacedCell))
    → IsSomeAnd o (ChangesFile fileset places tag page place version chains space_now cells cells_now old new) → HasTogether fileset places space_now cells_now new
given fileset places tag page place version chains space_now cells cells_now old new None changes = absurd changes
given fileset places tag page place version chains space_now cells cells_now old new (Some chain) changes = (_, changes.together)

pub given_or_kept : (fileset : ℕ) (places : List TagPlace) (tag : Tag) (page : ℕ) (version : Version) (chains : Chains) (space_now : Spaces) (cells cells_now : Cells) (old new : Pages) (r : Result Home StoreFault)
    → IfOk r (λ home. IsSomeAnd (chains tag) (ChangesFile fileset places tag page (At home) version chains space_now cells cells_now old new)) → OnErr r (AreTogether fileset places space_now cells_now new chains) → HasTogether fileset places space_now cells_now new
given_or_kept fileset places tag page version chains space_now cells cells_now old new (Ok home) changes kept = given fileset places tag page (At home) version chains space_now cells cells_now old new (chains tag) changes
given_or_kept fileset places tag page version chains space_now cells cells_now old new (Err fault) changes kept = (chains, kept)

-- ---- a page is held for a file

module _ (pages : Pages) (fileset : ℕ) (places : List TagPlace) (chains : Chains) (space : Spaces) (cells : Cells) (home : Home) (low : 1 ≤ home.vol) (are : AreTogether fileset places space cells pages chains) (can : CanTake space home.vol home.page) where
  abbrev taken : Spaces
  taken = change_volume (with_page home.page) space home.vol

  pub together : (space_now : Spaces) → space_now ≡ taken → AreTogether fileset places space_now cells pages chains
  together space_now is = subst (λ (s : Spaces). AreTogether fileset places s cells pages chains) (sym is) (together_page pages fileset places chains space cells home are)

  pub held : (space_now : Spaces) → space_now ≡ taken → HasTogether fileset places space_now cells pages
  held space_now is = (chains, together space_now is)

  pub may_move : (space_now : Spaces) → space_now ≡ taken → (tag : Tag) (page : ℕ) (now : Chains) → AreTogether fileset places space_now cells pages now → IsLive tag now → IsSome (home_at (place_at now tag page)) → MayMove tag page home places space_now cells now
  may_move space_now is tag page now are_now live there = record {
    live = live;
    there = there;
    file_page = subst (λ (s : Spaces). IsFilePage s cells places home) (sym is) (record {
      apart = apart_now space cells pages home low are.allocated can;
      no_tags = false_from_ne_true (has_home places home) (λ has. not_held space home.vol home.page can (are.tag_pages home has).held);
    });
    unused = λ t p at. not_held space home.vol home.page can
        (are.file_pages t p home (ap (λ o. option_map_or (λ cs. places_of cs p) o Absent) (one_chains pages fileset places chains now are.files are_now.files t) ∙ at)).apart.held;
  }

pub moved_or_kept : (fileset : ℕ) (places : List TagPlace) (tag : Tag) (page : ℕ) (home : Home) (version : Version) (chains : Chains) (space_now : Spaces) (cells cells_now : Cells) (old new : Pages) (r : Result Home StoreFault)
    → OnOk r (IsSomeAnd (chains tag) (ChangesFile fileset places tag page (At home) version chains space_now cells cells_now old new)) → OnErr r (AreTogether fileset places space_now cells_now new chains) → HasTogether fileset places space_now cells_now new
moved_or_kept fileset places tag page home version chains space_now cells cells_now old new (Ok was) changes kept = given fileset places tag page (At home) version chains space_now cells cells_now old new (chains tag) changes
moved_or_kept fileset places tag page home version chains space_now cells cells_now old new (Err fault) changes kept = (chains, kept)

pub made_or_kept : (fileset fileset_now : ℕ) (places : List TagPlace) (version : Version) (what : NewFile) (chains : Chains) (space : Spaces) (cells cells_now : Cells) (old new : Pages) (r : Result Tag StoreFault) → fileset_now ≡ fileset
    → IfOk r (λ tag. Creates fileset places tag version what chains space cells cells_now old new) → OnErr r (AreTogether fileset_now places space cells_now new chains) → HasTogether fileset_now places space cells_now new
made_or_kept fileset fileset_now places version what chains space cells cells_now old new (Ok tag) same creates kept = created fileset fileset_now places tag version what chains space cells cells_now old new same creates
made_or_kept fileset fileset_now places version what chains space cells cells_now old new (Err fault) same creates kept = (chains, kept)
