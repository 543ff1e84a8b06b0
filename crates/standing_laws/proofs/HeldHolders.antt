-- What pages are held for before a call and after it.
use Rattle.std.proofs.Common.{◌≡◌, ◌∙◌, ◌⊎◌, ⊎_elim, inl, inr, ℕ, ◌≤◌, ◌||◌, Bool, true, false, cond, nat_eq, List, [], ◌∷◌, Some, Contains, refl, sym, ap, subst}
use Rattle.std.proofs.lemmas.Bool.{eqb-true, or_right, true≢false}
use Rattle.std.proofs.lemmas.List.Folds.{list_any-append}
use Rattle.std.specs.Option.{option_map_or}
use Rattle.domain_standing.specs.domain_base.declared.place.CellAt.{CellAt}
use Rattle.domain_standing.specs.domain_base.declared.place.Home.{Home}
use Rattle.domain_standing.specs.domain_base.declared.place.Tag.{Tag}
use Rattle.domain_standing.specs.domain_base.declared.version.Version.{Version}
use Rattle.domain_standing.specs.page_store.Pages.{same_home}
use Rattle.domain_standing.specs.metadata_cells.Cell.{Cell}
use Rattle.domain_standing.specs.metadata_cells.Chain.{PlacedCell}
use Rattle.domain_standing.proofs.OfMetadataCells.Changed.{homes_same, same_itself}
use Rattle.domain_standing.specs.tag_dirs.declared.dir.TagPlace.{TagPlace}
use Rattle.domain_standing.specs.tag_dirs.Directory.{has_home}
use Rattle.domain_standing.specs.extent_maps.declared.run.PagePlace.{PagePlace}
use Rattle.domain_standing.specs.extent_maps.declared.run.PagePlace.TheVariants.{Absent, At}
use Rattle.domain_standing.specs.extent_maps.Runs.{place_of}
use Rattle.domain_standing.specs.free_cells.Cells.{Cells, table_of}
use Rattle.domain_standing.specs.free_space.VolumeSpace.{with_page}
use Rattle.domain_standing.specs.free_space.Spaces.{CanTake, Spaces, change_volume}
use Rattle.domain_standing.specs.file_chains.Files.{places_of}
use Rattle.domain_standing.specs.fileset_files.Changes.{says_removed, with_first}
use Rattle.domain_standing.proofs.OfFilesetFiles.FirstTogether.{runs_kept}
use Rattle.domain_standing.proofs.OfFileRelease.Given.{absent_home}
use Rattle.domain_standing.specs.release_list.Standing.{Files, place_in, with_file}
use Rattle.domain_standing.proofs.OfReleaseList.Standings.{file_other, file_there, place_by, same_or_not}
use Rattle.domain_standing.specs.release_steps.Calls.{Call, FilesetNow, Gives, Makes, SetsFirst, StandsWell, cut, described, dropped, given, indexed, made, moved, put_in, refused}
use Rattle.domain_standing.specs.release_steps.Tags.{start_of}
use Rattle.domain_standing.specs.release_steps.Taken.{HasHome}
use Rattle.domain_standing.proofs.OfReleaseSteps.CallTables.{at_page, low_put}
use Rattle.domain_standing.proofs.OfReleaseSteps.FirstWell.{SaysBeside, are_file, attributes_beside, files_left, parent_beside, removed_beside, set_file, truncated_beside}
use Rattle.domain_standing.proofs.OfReleaseSteps.MakeWell.{no_file}
use Rattle.domain_standing.proofs.OfReleaseSteps.TagFile.{file_is, started}
use Rattle.standing_laws.specs.Leads.{MayCall}
use Rattle.standing_laws.proofs.HeldSpaces.{SpacesGrow, can_before, one_new, one_spaces, spaces_missed, spaces_page, spaces_same, spaces_then}

-- a page of a volume may be taken
abbrev pub MayTake : Spaces → Home → Type 0
MayTake space home = (1 ≤ home.vol) × CanTake space home.vol home.page

module _ (number : ℕ) (version : Version) (tag : Tag) (old new : FilesetNow) (stood : StandsWell number old) where
  abbrev files : Files
  files = old.domain.files

  abbrev files_now : Files
  files_now = new.domain.files

  abbrev pub SamePlaces : Type 0
  SamePlaces = (a : CellAt) (p : ℕ) → place_in files_now a p ≡ place_in files a p

  -- ---- where pages of files stand

  -- a file with another chain, whose pages stand where they did
  same_chain : (at : CellAt) (after : List PlacedCell) → files_now ≡ with_file at (Some after) files → ((p : ℕ) → places_of after p ≡ place_in files at p) → SamePlaces
  same_chain at after is same a p = ⊎_elim
      (λ here. ap (λ (b : CellAt). place_in files_now b p) here ∙ place_by files_now at after p (ap (λ (f : Files). f at) is ∙ file_there at (Some after) files) ∙ same p ∙ sym (ap (λ (b : CellAt). place_in files b p) here))
      (λ apart. ap (λ o. option_map_or (λ cs. places_of cs p) o Absent) (ap (λ (f : Files). f a) is ∙ file_other at (Some after) files a apart))
      (same_or_not a at)

  first_same : (says : Cell → Cell) (first : PlacedCell) (rest : List PlacedCell) → old.chains tag ≡ Some (first ∷ rest) → SaysBeside says first.cell
      → files_now ≡ with_file first.at (Some (with_first says (first ∷ rest))) files → SamePlaces
  first_same says first rest is beside files_so =
      same_chain first.at (with_first says (first ∷ rest)) files_so
      (λ p. ap (λ rs. place_of rs p) (runs_kept says first rest beside.maps)
      ∙ sym (place_by files first.at (first ∷ rest) p (file_is number old.places old.domain.pages old.chains stood.together.files files stood.among.same tag (first ∷ rest) is first.at refl)))

  made_same : Makes number version tag old new → SamePlaces
  made_same s =
      same_chain s.creates.first.at (s.creates.first ∷ []) s.files
      (λ p. s.creates.no_page p ∙ sym (ap (λ o. option_map_or (λ cs. places_of cs p) o Absent) (no_file number version tag old new stood s)))

  module _ (s : Gives number version tag old new) where
    abbrev start : CellAt
    start = s.puts.change.start

    abbrev after : List PlacedCell
    after = s.puts.change.change.changes.after

    begins : start_of s.chain ≡ Some start
    begins = (started new.domain.pages start s.chain after s.puts.change.change.changes.first s.puts.change.change.changes.is_file).0

    was_there : files start ≡ Some s.chain
    was_there = file_is number old.places old.domain.pages old.chains stood.together.files files stood.among.same tag s.chain s.puts.is start begins

    is_there : files_now start ≡ Some after
    is_there = ap (λ (f : Files). f start) s.puts.files ∙ file_there start (Some after) files

    other_place : (a : CellAt) (p : ℕ) → ¬ a ≡ start → place_in files_now a p ≡ place_in files a p
    other_place a p apart = ap (λ o. option_map_or (λ cs. places_of cs p) o Absent) (ap (λ (f : Files). f a) s.puts.files ∙ file_other start (Some after) files a apart)

    this_place : (p : ℕ) → place_in files_now start p ≡ cond (nat_eq p s.puts.page) (At s.home) (place_in files start p)
    this_place p =
        place_by files_now start after p is_there ∙ s.puts.change.change.changes.at p
        ∙ ap (λ (place : PagePlace). cond (nat_eq p s.puts.page) (At s.home) place) (sym (place_by files start s.chain p was_there))

    -- the page that is given
    pub given_home : HasHome files_now s.home
    given_home = record {
      at = start;
      page = s.puts.page;
      there = place_by files_now start after s.puts.page is_there ∙ at_page number version tag old new s.home s.chain s.puts;
    }

    given_low : 1 ≤ s.home.vol
    given_low = low_put number version tag old new s.home s.chain s.puts

    given_back : (a : CellAt) (p : ℕ) (home : Home) → place_in files_now a p ≡ At home → (place_in files a p ≡ At home) ⊎ MayTake old.domain.space home
    given_back a p home is = ⊎_elim
        (λ here. by_page here (nat_eq p s.puts.page) refl (sym (this_place p) ∙ sym (ap (λ (b : CellAt). place_in files_now b p) here) ∙ is))
        (λ apart. inl (sym (other_place a p apart) ∙ is))
        (same_or_not a start)
      where
        one_home : (h k : Home) → At h ≡ At k → h ≡ k
        one_home h k same = cc

        by_page : a ≡ start → (b : Bool) → nat_eq p s.puts.page ≡ b → cond b (At s.home) (place_in files start p) ≡ At home → (place_in files a p ≡ At home) ⊎ MayTake old.domain.space home
        by_page here true same at = inr (subst (MayTake old.domain.space) (one_home s.home home at) (given_low, s.taken.free))
        by_page here false apart at = inl (ap (λ (b : CellAt). place_in files b p) here ∙ at)

    given_on : places_of s.chain s.puts.page ≡ Absent → (a : CellAt) (p : ℕ) (home : Home) → place_in files a p ≡ At home → place_in files_now a p ≡ At home
    given_on absent a p home is = ⊎_elim
        (λ here. ap (λ (b : CellAt). place_in files_now b p) here ∙ this_place p ∙ by_page here (nat_eq p s.puts.page) refl)
        (λ apart. other_place a p apart ∙ is)
        (same_or_not a start)
      where
        by_page : a ≡ start → (b : Bool) → nat_eq p s.puts.page ≡ b → cond b (At s.home) (place_in files start p) ≡ At home
        by_page here true same =
            absurd (absent_home home
            (ap (λ (b : CellAt). place_in files b p) here ∙ place_by files start s.chain p was_there ∙ ap (places_of s.chain) (eqb-true p s.puts.page same) ∙ absent) is)
        by_page here false apart = sym (ap (λ (b : CellAt). place_in files b p) here) ∙ is

  module _ (call : Call number version tag old new) (so_far : ℕ) (may : MayCall so_far number version tag old new call) where
    -- a page of a file was one there, or it was taken; and what was one there is
    pub record Placed : Type 0 where
      pub back : (a : CellAt) (p : ℕ) (home : Home) → place_in files_now a p ≡ At home → (place_in files a p ≡ At home) ⊎ MayTake old.domain.space home
      pub on : (a : CellAt) (p : ℕ) (home : Home) → place_in files a p ≡ At home → place_in files_now a p ≡ At home

    placed_same : SamePlaces → Placed
    placed_same same = record { back = λ a p home is. inl (sym (same a p) ∙ is); on = λ a p home is. same a p ∙ is }

    set_same : (says : Cell → Cell) (s : SetsFirst number tag says old new) → SaysBeside says s.first.cell → Placed
    set_same says s beside = placed_same (first_same says s.first s.rest s.is beside s.files)

    by_call : (c : Call number version tag old new) → MayCall so_far number version tag old new c → Placed
    by_call (refused s) can = placed_same (λ a p. ap (λ (f : Files). place_in f a p) s.files)
    by_call (given s) can = record { back = given_back s; on = given_on s can }
    by_call (moved s) can = absurd can
    by_call (described value s) can = set_same _ s (attributes_beside old.domain.pages s.first s.rest (set_file number tag old new stood _ s) value)
    by_call (put_in parent s) can = set_same _ s (parent_beside old.domain.pages s.first s.rest (set_file number tag old new stood _ s) parent)
    by_call (indexed index s) can = absurd can
    by_call (cut size lowered s) can = set_same _ s (truncated_beside old.domain.pages s.first s.rest (set_file number tag old new stood _ s) size lowered)
    by_call (dropped s) can =
        placed_same (first_same says_removed s.first s.rest s.is
        (removed_beside old.domain.pages s.first s.rest (are_file number old.places old.domain.pages old.chains stood.together.files tag s.first s.rest s.is)) (files_left number tag old new stood s))
    by_call (made s) can = placed_same (made_same s)

    pub placed : Placed
    placed = by_call call may

    -- ---- tables, and the tag directory

    table_same : new.domain.cells ≡ old.domain.cells → (home : Home) → Contains (table_of new.domain.cells home.vol) home.page → Contains (table_of old.domain.cells home.vol) home.page ⊎ CanTake old.domain.space home.vol home.page
    table_same same home on = inl (subst (λ (c : Cells). Contains (table_of c home.vol) home.page) same on)

    behind_page : (taken : Home) → 1 ≤ taken.vol → (home : Home) → 1 ≤ home.vol
        → Contains (table_of old.domain.cells home.vol) home.page ⊎ CanTake (change_volume (with_page taken.page) old.domain.space taken.vol) home.vol home.page
        → Contains (table_of old.domain.cells home.vol) home.page ⊎ CanTake old.domain.space home.vol home.page
    behind_page taken high home low on = ⊎_elim (λ was. inl was) (λ can. inr (can_before old.domain.space taken home.vol home.page high low can)) on

    pub table_back : (home : Home) → 1 ≤ home.vol → Contains (table_of new.domain.cells home.vol) home.page → Contains (table_of old.domain.cells home.vol) home.page ⊎ CanTake old.domain.space home.vol home.page
    table_back home low on = of_call call may
      where
        of_call : (c : Call number version tag old new) → MayCall so_far number version tag old new c → Contains (table_of old.domain.cells home.vol) home.page ⊎ CanTake old.domain.space home.vol home.page
        of_call (refused s) can = table_same s.cells home on
        of_call (given s) can = ⊎_elim
            (λ same. table_same same.1 home on)
            (λ one. behind_page s.home (given_low s) home low (one_new s.prefer _ new.domain.space old.domain.cells new.domain.cells old.domain.pages one.1 home.vol home.page on))
            s.taken.taken
        of_call (moved s) can = absurd can
        of_call (described value s) can = table_same s.cells home on
        of_call (put_in parent s) can = table_same s.cells home on
        of_call (indexed index s) can = absurd can
        of_call (cut size lowered s) can = table_same s.cells home on
        of_call (dropped s) can = table_same s.cells home on
        of_call (made s) can = ⊎_elim
            (λ cell. one_new s.prefer old.domain.space new.domain.space old.domain.cells new.domain.cells old.domain.pages cell.cell home.vol home.page on)
            (λ page. behind_page page.home page.low home low (one_new s.prefer _ new.domain.space old.domain.cells new.domain.cells old.domain.pages page.cell home.vol home.page on))
            s.taken

    tags_same : new.places ≡ old.places → (home : Home) → has_home new.places home ≡ true → (has_home old.places home ≡ true) ⊎ MayTake old.domain.space home
    tags_same same home has = inl (ap (λ (ps : List TagPlace). has_home ps home) (sym same) ∙ has)

    either : (a b : Bool) → (a || (b || false)) ≡ true → (a ≡ true) ⊎ (b ≡ true)
    either true b is = inl refl
    either false true is = inr refl
    either false false is = absurd (true≢false (sym is))

    pub tags_back : (home : Home) → has_home new.places home ≡ true → (has_home old.places home ≡ true) ⊎ MayTake old.domain.space home
    tags_back home has = of_call call may
      where
        of_call : (c : Call number version tag old new) → MayCall so_far number version tag old new c → (has_home old.places home ≡ true) ⊎ MayTake old.domain.space home
        of_call (refused s) can = tags_same s.places home has
        of_call (given s) can = tags_same s.puts.places home has
        of_call (moved s) can = absurd can
        of_call (described value s) can = tags_same s.places home has
        of_call (put_in parent s) can = tags_same s.places home has
        of_call (indexed index s) can = absurd can
        of_call (cut size lowered s) can = tags_same s.places home has
        of_call (dropped s) can = tags_same s.places home has
        of_call (made s) can = ⊎_elim
            (λ cell. tags_same cell.same home has)
            (λ page.
            let p : TagPlace = record { index = page.index; home = page.home } in
            let there = sym (ap (λ (ps : List TagPlace). has_home ps home) page.joins ∙ list_any-append (λ (q : TagPlace). same_home home q.home) old.places (p ∷ [])) ∙ has in
            ⊎_elim
            (λ was. inl was)
            (λ same. inr (subst (MayTake old.domain.space) (sym (homes_same home page.home same)) (page.low, page.free)))
            (either (has_home old.places home) (same_home home page.home) there))
            s.taken

    -- ---- free space

    -- a page of a file, of cells or of the tag directory
    abbrev pub IsOfFile : Home → Type 0
    IsOfFile home = HasHome files_now home ⊎ (Contains (table_of new.domain.cells home.vol) home.page ⊎ (has_home new.places home ≡ true))

    pub spaces_grow : SpacesGrow IsOfFile old.domain.space new.domain.space
    spaces_grow = of_call call may
      where
        same : new.domain.space ≡ old.domain.space → SpacesGrow IsOfFile old.domain.space new.domain.space
        same is = spaces_same IsOfFile old.domain.space new.domain.space is

        of_call : (c : Call number version tag old new) → MayCall so_far number version tag old new c → SpacesGrow IsOfFile old.domain.space new.domain.space
        of_call (refused s) can = ⊎_elim same (λ miss. spaces_missed IsOfFile old.domain.space new.domain.space miss) s.space
        of_call (given s) can =
            let middle = change_volume (with_page s.home.page) old.domain.space s.home.vol in
            let page = spaces_page IsOfFile old.domain.space s.home (given_low s) (inl (given_home s)) in
            ⊎_elim
            (λ none. spaces_then IsOfFile old.domain.space middle new.domain.space page (spaces_same IsOfFile middle new.domain.space none.0))
            (λ one. spaces_then IsOfFile old.domain.space middle new.domain.space page
            (one_spaces s.prefer middle new.domain.space old.domain.cells new.domain.cells old.domain.pages one.1 IsOfFile (λ h on. inr (inl on))))
            s.taken.taken
        of_call (moved s) can = absurd can
        of_call (described value s) can = same s.space
        of_call (put_in parent s) can = same s.space
        of_call (indexed index s) can = absurd can
        of_call (cut size lowered s) can = same s.space
        of_call (dropped s) can = same s.space
        of_call (made s) can = ⊎_elim
            (λ cell. one_spaces s.prefer old.domain.space new.domain.space old.domain.cells new.domain.cells old.domain.pages cell.cell IsOfFile (λ h on. inr (inl on)))
            (λ page.
            let p : TagPlace = record { index = page.index; home = page.home } in
            let has : has_home new.places page.home ≡ true =
            ap (λ (ps : List TagPlace). has_home ps page.home) page.joins ∙ list_any-append (λ (q : TagPlace). same_home page.home q.home) old.places (p ∷ [])
            ∙ or_right (has_home old.places page.home) (same_home page.home page.home || false) (ap (λ (b : Bool). b || false) (same_itself page.home)) in
            let middle = change_volume (with_page page.home.page) old.domain.space page.home.vol in
            spaces_then IsOfFile old.domain.space middle new.domain.space (spaces_page IsOfFile old.domain.space page.home page.low (inr (inr has)))
            (one_spaces s.prefer middle new.domain.space old.domain.cells new.domain.cells old.domain.pages page.cell IsOfFile (λ h on. inr (inl on))))
            s.taken
