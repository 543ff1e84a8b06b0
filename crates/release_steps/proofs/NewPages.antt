-- A page that calls took of the free space stands in a file, or was put elsewhere since.
use Rattle.std.proofs.Common.{◌≡◌, ◌∙◌, ◌⊎◌, inl, inr, ℕ, ◌≤◌, Bool, true, false, cond, nat_eq, List, [], ◌∷◌, Option, Some, Contains, refl, sym, ap, subst, ⊎_elim}
use Rattle.std.proofs.lemmas.Bool.{eq-eqb, eqb-true}
use Rattle.std.specs.Option.{option_map_or}
use Rattle.release_list.specs.domain_base.declared.place.CellAt.{CellAt}
use Rattle.release_list.specs.domain_base.declared.place.Home.{Home}
use Rattle.release_list.specs.domain_base.declared.place.Tag.{Tag}
use Rattle.release_list.specs.domain_base.declared.version.Version.{Version}
use Rattle.release_list.specs.metadata_cells.Cell.{Cell}
use Rattle.release_list.specs.metadata_cells.Chain.{PlacedCell}
use Rattle.release_list.specs.tag_dirs.Directory.{has_home}
use Rattle.release_list.specs.extent_maps.declared.run.PagePlace.TheVariants.{Absent, At}
use Rattle.release_list.specs.extent_maps.Runs.{place_of}
use Rattle.release_list.specs.free_cells.Cells.{table_of}
use Rattle.release_list.specs.file_chains.Files.{places_of}
use Rattle.release_list.specs.fileset_files.Changes.{says_removed, with_first}
use Rattle.release_list.proofs.OfFilesetFiles.FirstTogether.{runs_kept}
use Rattle.release_list.proofs.OfFileRelease.Given.{absent_home}
use Rattle.release_list.specs.Standing.{Files, place_in, with_file}
use Rattle.release_list.proofs.Standings.{file_other, file_there, place_by, same_or_not}
use Rattle.release_steps.specs.Calls.{StandsWell, Call, Calls, Drops, FilesetNow, Makes, PutsPage, cut, described, dropped, given, indexed, made, moved, no_call, one_more, put_in, refused}
use Rattle.release_steps.specs.Tags.{start_of}
use Rattle.release_steps.specs.Taken.{HasHome, IsGiven, IsHeldAt, IsPutElsewhere}
use Rattle.release_steps.proofs.CallsWell.{stands_call, stands_still}
use Rattle.release_steps.proofs.FirstWell.{SaysBeside, are_file, attributes_beside, files_left, index_beside, parent_beside, removed_beside, set_file, truncated_beside}
use Rattle.release_steps.proofs.HeldPages.{held_exactly}
use Rattle.release_steps.proofs.MakeWell.{no_file}
use Rattle.release_steps.proofs.TagFile.{file_is, started}

-- ---- one call

module _ (fileset : ℕ) (version : Version) (tag : Tag) (old new : FilesetNow) (home : Home) where
  -- the page that stood there is put at another home
  record PutsAway : Type 0 where
    to : Home
    chain : List PlacedCell
    puts : PutsPage fileset version tag to chain old new
    was : places_of chain puts.page ≡ At home

  -- another file stays
  other_home : (at : CellAt) (chain : Option (List PlacedCell)) → new.domain.files ≡ with_file at chain old.domain.files → (k : HasHome old.domain.files home) → ¬ k.at ≡ at → HasHome new.domain.files home
  other_home at chain files k not_at = record {
    at = k.at;
    page = k.page;
    there = ap (λ o. option_map_or (λ cs. places_of cs k.page) o Absent) (ap (λ (f : Files). f k.at) files ∙ file_other at chain old.domain.files k.at not_at) ∙ k.there;
  }

  -- a file has the page
  this_home : (at : CellAt) (after : List PlacedCell) (page : ℕ) → new.domain.files ≡ with_file at (Some after) old.domain.files → places_of after page ≡ At home → HasHome new.domain.files home
  this_home at after page files there = record {
    at = at;
    page = page;
    there = place_by new.domain.files at after page (ap (λ (f : Files). f at) files ∙ file_there at (Some after) old.domain.files) ∙ there;
  }

  module _ (stood : StandsWell fileset old) (k : HasHome old.domain.files home) where
    chain_place : (at : CellAt) (chain : List PlacedCell) → old.domain.files at ≡ Some chain → k.at ≡ at → places_of chain k.page ≡ At home
    chain_place at chain is same = sym (place_by old.domain.files at chain k.page is) ∙ ap (λ (a : CellAt). place_in old.domain.files a k.page) (sym same) ∙ k.there

    put_home : (to : Home) (chain : List PlacedCell) → PutsPage fileset version tag to chain old new → HasHome new.domain.files home ⊎ PutsAway
    put_home to chain s = ⊎_elim by_page (λ not_at. inl (other_home s.change.start (Some s.change.change.changes.after) s.files k not_at)) (same_or_not k.at s.change.start)
      where
        begins : (start_of chain ≡ Some s.change.start) × (start_of s.change.change.changes.after ≡ Some s.change.start)
        begins = started new.domain.pages s.change.start chain s.change.change.changes.after s.change.change.changes.first s.change.change.changes.is_file

        there : old.domain.files s.change.start ≡ Some chain
        there = file_is fileset old.places old.domain.pages old.chains stood.together.files old.domain.files stood.among.same tag chain s.is s.change.start begins.0

        by_number : k.at ≡ s.change.start → (b : Bool) → nat_eq k.page s.page ≡ b → HasHome new.domain.files home ⊎ PutsAway
        by_number same true is = inr (record { to = to; chain = chain; puts = s; was = ap (places_of chain) (sym (eqb-true k.page s.page is)) ∙ chain_place s.change.start chain there same })
        by_number same false other = inl (this_home s.change.start s.change.change.changes.after k.page s.files
            (s.change.change.changes.at k.page ∙ ap (λ (b : Bool). cond b (At to) (places_of chain k.page)) other ∙ chain_place s.change.start chain there same))

        by_page : k.at ≡ s.change.start → HasHome new.domain.files home ⊎ PutsAway
        by_page same = by_number same (nat_eq k.page s.page) refl

    first_home : (says : Cell → Cell) (first : PlacedCell) (rest : List PlacedCell) → old.chains tag ≡ Some (first ∷ rest) → SaysBeside says first.cell → new.domain.files ≡ with_file first.at (Some (with_first says (first ∷ rest))) old.domain.files → HasHome new.domain.files home
    first_home says first rest is beside files = ⊎_elim
        (λ same. this_home first.at (with_first says (first ∷ rest)) k.page files
        (ap (λ rs. place_of rs k.page) (runs_kept says first rest beside.maps)
        ∙ chain_place first.at (first ∷ rest) (file_is fileset old.places old.domain.pages old.chains stood.together.files old.domain.files stood.among.same tag (first ∷ rest) is first.at refl) same))
        (λ not_at. other_home first.at (Some (with_first says (first ∷ rest))) files k not_at)
        (same_or_not k.at first.at)

    made_home : Makes fileset version tag old new → HasHome new.domain.files home
    made_home s = other_home s.creates.first.at (Some (s.creates.first ∷ [])) s.files k
        (λ same. absent_home home (ap (λ o. option_map_or (λ cs. places_of cs k.page) o Absent) (no_file fileset version tag old new stood s)) (ap (λ (a : CellAt). place_in old.domain.files a k.page) (sym same) ∙ k.there))

    dropped_home : Drops fileset tag old new → HasHome new.domain.files home
    dropped_home s =
        let file = are_file fileset old.places old.domain.pages old.chains stood.together.files tag s.first s.rest s.is in
        first_home says_removed s.first s.rest s.is (removed_beside old.domain.pages s.first s.rest file) (files_left fileset tag old new stood s)

    call_home : Call fileset version tag old new → HasHome new.domain.files home ⊎ PutsAway
    call_home (refused s) = inl (subst (λ (f : Files). HasHome f home) (sym s.files) k)
    call_home (given s) = put_home s.home s.chain s.puts
    call_home (moved s) = put_home s.home s.chain s.puts
    call_home (described value s) = inl (first_home _ s.first s.rest s.is (attributes_beside old.domain.pages s.first s.rest (set_file fileset tag old new stood _ s) value) s.files)
    call_home (put_in parent s) = inl (first_home _ s.first s.rest s.is (parent_beside old.domain.pages s.first s.rest (set_file fileset tag old new stood _ s) parent) s.files)
    call_home (indexed index s) = inl (first_home _ s.first s.rest s.is (index_beside old.domain.pages s.first s.rest (set_file fileset tag old new stood _ s) index) s.files)
    call_home (cut size lowered s) = inl (first_home _ s.first s.rest s.is (truncated_beside old.domain.pages s.first s.rest (set_file fileset tag old new stood _ s) size lowered) s.files)
    call_home (dropped s) = inl (dropped_home s)
    call_home (made s) = inl (made_home s)

-- ---- any number of calls

module _ (fileset : ℕ) (version : Version) (tag : Tag) where
  calls_then : (first middle last : FilesetNow) → Calls fileset version tag first middle → Calls fileset version tag middle last → Calls fileset version tag first last
  calls_then first middle last calls more =
      elim more as (λ last more. Calls fileset version tag first last) [
        | no_call ↦ calls
        | one_more between last (more → was) call ↦ one_more between last was call
      ]

  record StaysHome (first now : FilesetNow) (home : Home) : Type 0 where
    stood : StandsWell fileset now
    place : HasHome now.domain.files home ⊎ IsPutElsewhere fileset version tag first now home

  home_on : (first last : FilesetNow) (home : Home) → StandsWell fileset first → HasHome first.domain.files home → Calls fileset version tag first last → StaysHome first last home
  home_on first last home stood k calls =
      elim calls as (λ last calls. StaysHome first last home) [
        | no_call ↦ record { stood = stood; place = inl k }
        | one_more between last (calls → was) call ↦ record {
          stood = stands_call fileset version tag between last was.stood call;
          place = ⊎_elim
              (λ has. ⊎_elim
              (λ still. inl still)
              (λ away. inr (record { before = between; after = last; earlier = calls; to = away.to; chain = away.chain; puts = away.puts; was = away.was; later = no_call }))
              (call_home fileset version tag between last home was.stood has call))
              (λ e. inr (record { before = e.before; after = e.after; earlier = e.earlier; to = e.to; chain = e.chain; puts = e.puts; was = e.was; later = one_more between last e.later call }))
              was.place;
        }
      ]

  given_home : (first last : FilesetNow) (home : Home) → StandsWell fileset first → IsGiven fileset version tag first last home → HasHome last.domain.files home ⊎ IsPutElsewhere fileset version tag first last home
  given_home first last home stood g =
      let so_far = one_more g.before g.after g.earlier (given g.gives) in
      let s = g.gives.puts in
      let there : HasHome g.after.domain.files home = this_home fileset version tag g.before g.after home s.change.start s.change.change.changes.after s.page s.files
      (s.change.change.changes.at s.page ∙ ap (λ (b : Bool). cond b (At g.gives.home) (places_of g.gives.chain s.page)) (eq-eqb s.page s.page refl) ∙ ap At g.is) in
      ⊎_elim
      (λ has. inl has)
      (λ e. inr (record { before = e.before; after = e.after; earlier = calls_then first g.after e.before so_far e.earlier; to = e.to; chain = e.chain; puts = e.puts; was = e.was; later = e.later }))
      (home_on g.after last home (stands_still fileset version tag first g.after so_far stood) there g.later).place

pub new_page_home : (fileset : ℕ) (version : Version) (tag : Tag) (first last : FilesetNow) → Calls fileset version tag first last → StandsWell fileset first → (home : Home) → 1 ≤ home.vol
    → IsHeldAt last home → ¬ IsHeldAt first home → ¬ Contains (table_of last.domain.cells home.vol) home.page → ¬ has_home last.places home ≡ true
    → HasHome last.domain.files home ⊎ IsPutElsewhere fileset version tag first last home
new_page_home fileset version tag first last calls stood home low held fresh no_cells no_tags = ⊎_elim
    (λ was. absurd (fresh was))
    (λ taken. ⊎_elim
    (λ g. given_home fileset version tag first last home stood g)
    (λ other. ⊎_elim (λ on. absurd (no_cells on)) (λ has. absurd (no_tags has)) other)
    taken)
    ((held_exactly fileset version tag first last calls stood.together home low).0 held)
