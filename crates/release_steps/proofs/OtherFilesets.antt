-- Another fileset of the domain stays as it is over calls on a tag.
use Rattle.std.proofs.Common.{◌≡◌, ◌∙◌, ℕ, true, false, List, [], ◌∷◌, Option, Some, None, IfSome, IsSomeAnd, Contains, slice_get, refl, sym, ap, subst, arith, ⊎_elim}
use Rattle.std.proofs.lemmas.Bool.{cases_Bool, true≢false}
use Rattle.std.specs.Option.{option_and_then, option_map_or}
use Rattle.release_list.specs.domain_base.declared.place.CellAt.{CellAt}
use Rattle.release_list.specs.domain_base.declared.place.Home.{Home}
use Rattle.release_list.specs.domain_base.declared.place.Tag.{Tag}
use Rattle.release_list.specs.domain_base.declared.version.Version.{Version}
use Rattle.release_list.specs.metadata_cells.Cell.{Cell}
use Rattle.release_list.specs.metadata_cells.Chain.{PlacedCell}
use Rattle.release_list.specs.tag_dirs.declared.dir.TagPlace.{TagPlace}
use Rattle.release_list.specs.tag_dirs.Directory.{cell_of, has_home}
use Rattle.release_list.specs.extent_maps.declared.run.PagePlace.TheVariants.{Absent, At}
use Rattle.release_list.specs.extent_maps.Runs.{place_of}
use Rattle.release_list.specs.free_cells.Cells.{Cells}
use Rattle.release_list.specs.free_space.Spaces.{Spaces, missed}
use Rattle.release_list.specs.file_chains.FileChanges.{AreOnTables}
use Rattle.release_list.specs.file_chains.Files.{IsFile, places_of}
use Rattle.release_list.proofs.OfFileChains.Spaces.{not_held}
use Rattle.release_list.specs.fileset_files.Changes.{says_removed, with_first}
use Rattle.release_list.specs.fileset_files.Files.{AreFiles, Chains, IsOf, LeadsToFile}
use Rattle.release_list.specs.fileset_files.Together.{IsHeldApart}
use Rattle.release_list.proofs.OfFilesetFiles.FirstTogether.{runs_kept}
use Rattle.release_list.proofs.OfFilesetFiles.Tags.{cell_same, directory_same, pages_same}
use Rattle.release_list.specs.Listing.{Listing}
use Rattle.release_list.specs.Standing.{Files, IsStanding, place_in, with_file}
use Rattle.release_list.specs.Steps.{IsWell}
use Rattle.release_list.proofs.Spread.{none_not, some_same}
use Rattle.release_list.proofs.Standings.{file_other, file_there, is_file, place_by, same_or_not, standing}
use Rattle.release_steps.specs.Beside.{AreApartOf, IsApartOf, StandsBeside}
use Rattle.release_steps.specs.Calls.{Call, Calls, FilesetNow, Gives, Makes, Moves, Refuses, StandsWell, cut, described, dropped, given, indexed, made, moved, no_call, one_more, put_in, refused}
use Rattle.release_steps.specs.Tags.{chains_in, start_of}
use Rattle.release_steps.proofs.BesideCalls.{call_beside}
use Rattle.release_steps.proofs.CallsWell.{stands_call}
use Rattle.release_steps.proofs.CallTables.{given_tables, moved_tables}
use Rattle.release_steps.proofs.FirstWell.{SaysBeside, attributes_beside, dropped_was, files_left, index_beside, parent_beside, removed_beside, set_file, truncated_beside}
use Rattle.release_steps.proofs.Listing.{list_call}
use Rattle.release_steps.proofs.MakeWell.{one_home_more}
use Rattle.release_steps.proofs.MakeWell as make
use Rattle.release_steps.proofs.OneFile.{was_there}
use Rattle.release_steps.proofs.OtherPages.{call_pages}
use Rattle.release_steps.proofs.PutWell.{given_held, moved_held, not_free, nowhere}
use Rattle.release_steps.proofs.PutWell as put
use Rattle.release_steps.proofs.StillAmong.{file_of_tag}
use Rattle.release_steps.proofs.TagFile.{file_is}
use Rattle.release_steps.proofs.Tags.{IsNamed, file_start, has_attributes, named}

-- ---- what is to be known of a call

module _ (old new : FilesetNow) (other : ℕ) (places : List TagPlace) (chains : Chains) (was : StandsBeside other places chains old) (well_now : IsWell new.domain) (same_list : new.domain.list ≡ old.domain.list)
    (held : (h : Home) → IsHeldApart old.domain.space old.domain.cells h → IsHeldApart new.domain.space new.domain.cells h) (page_stays : (h : Home) → has_home places h ≡ true → new.domain.pages h ≡ old.domain.pages h)
    (file_stays : (t : Tag) (cs : List PlacedCell) (a : CellAt) → chains t ≡ Some cs → start_of cs ≡ Some a → old.domain.files a ≡ Some cs → new.domain.files a ≡ old.domain.files a)
    (no_tags : (a : CellAt) (p : ℕ) (h : Home) → place_in new.domain.files a p ≡ At h → has_home places h ≡ false) (apart : (h : Home) → has_home new.places h ≡ true → has_home places h ≡ false) where
  -- of each tag that names one
  each : (t : Tag) (P : Option (List PlacedCell) → Type 0) → P None → ((cs : List PlacedCell) → chains t ≡ Some cs → P (Some cs)) → P (chains t)
  each t P nothing some = by_chain (chains t) refl
    where
      by_chain : (o : Option (List PlacedCell)) → chains t ≡ o → P o
      by_chain None is = nothing
      by_chain (Some cs) is = some cs is

  there_now : (t : Tag) (cs : List PlacedCell) → chains t ≡ Some cs → IsNamed new.domain.files cs
  there_now t cs is =
      let n = named old.domain.files chains t cs is (was.among.same t) in
      record { at = n.at; start = n.start; is = file_stays t cs n.at is n.start n.is ∙ n.is }

  stands : (cs : List PlacedCell) (n : IsNamed new.domain.files cs) → IsStanding new.domain.cells new.domain.pages n.at cs
  stands cs n = standing new.domain.space new.domain.cells new.domain.pages new.domain.files well_now.together n.at cs n.is

  tags_stay : (k : ℕ) → IfSome (slice_get places k) (λ place. new.domain.pages place.home ≡ old.domain.pages place.home)
  tags_stay = pages_same old.domain.pages new.domain.pages places page_stays

  cells_lead : (t : Tag) → cell_of new.domain.pages places t ≡ cell_of old.domain.pages places t
  cells_lead = cell_same old.domain.pages new.domain.pages places was.together.files.directory tags_stay

  leads_now : (t : Tag) (cs : List PlacedCell) → chains t ≡ Some cs → LeadsToFile other places new.domain.pages t cs
  leads_now t cs is =
      let led = subst (λ o. IfSome o (LeadsToFile other places old.domain.pages t)) is (was.together.files.some t) in
      record {
        leads = subst (λ o. IsSomeAnd o (λ at. IsFile new.domain.pages at cs)) (sym (cells_lead t)) (by_cell (cell_of old.domain.pages places t) led.leads);
        is_of = led.is_of;
        kinds = led.kinds;
      }
    where
      n : IsNamed new.domain.files cs
      n = there_now t cs is

      by_cell : (o : Option CellAt) → IsSomeAnd o (λ at. IsFile old.domain.pages at cs) → IsSomeAnd o (λ at. IsFile new.domain.pages at cs)
      by_cell None leads = leads
      by_cell (Some a) leads = subst (λ (b : CellAt). IsFile new.domain.pages b cs) (sym (file_start old.domain.pages a n.at cs leads n.start))
          (is_file new.domain.pages n.at cs (stands cs n).stands 1 (λ e. omega (arith, e)) (λ e. omega (arith, e)) (has_attributes old.domain.pages a cs leads))

  files_now : AreFiles other places new.domain.pages chains
  files_now = record {
    directory = directory_same old.domain.pages new.domain.pages places was.together.files.directory tags_stay;
    none = λ t is. cells_lead t ∙ was.together.files.none t is;
    some = λ t. each t (λ o. IfSome o (LeadsToFile other places new.domain.pages t)) tt (λ cs is. leads_now t cs is);
    apart = was.together.files.apart;
  }

  same_now : (t : Tag) → chains_in new.domain.files chains t ≡ chains t
  same_now t = each t (λ o. option_and_then new.domain.files (option_and_then start_of o) ≡ o) refl
      (λ cs is. let n = there_now t cs is in ap (option_and_then new.domain.files) n.start ∙ n.is)

  pub beside_now : StandsBeside other places chains new
  beside_now = record {
    together = record {
      files = files_now;
      allocated = well_now.together.allocated;
      on_tables = λ t. each t (λ o. IfSome o (AreOnTables new.domain.cells)) tt (λ cs is. (stands cs (there_now t cs is)).on_tables);
      tag_pages = λ h has. held h (was.together.tag_pages h has);
      file_pages = λ t p h there. let f = was.together.file_pages t p h there in record { apart = held h f.apart; no_tags = f.no_tags };
      once = was.together.once;
    };
    among = record {
      same = same_now;
      live = was.among.live;
      trimmed = λ e inside. was.among.trimmed e (subst (λ (l : Listing). Contains l.entries e) same_list inside);
      low = was.among.low;
      no_tags = no_tags;
      not_listed = λ h inside. was.among.not_listed h (subst (λ (l : Listing). Contains l.tag_pages h) same_list inside);
    };
    apart = apart;
  }

-- ---- each call

-- a chain is of one fileset
one_fileset : (one two : ℕ) (s t : Tag) (cs : List PlacedCell) → IsOf one s cs → IsOf two t cs → one ≡ two
one_fileset one two s t [] is also = absurd is
one_fileset one two s t (first ∷ rest) is also = some_same one two (sym is.2 ∙ also.2)

module _ (fileset : ℕ) (version : Version) (tag : Tag) (old new : FilesetNow) (stood : StandsWell fileset old) (other : ℕ) (differ : ¬ other ≡ fileset) (places : List TagPlace) (chains : Chains) (was : StandsBeside other places chains old) where
  abbrev pub Held : Type 0
  Held = (h : Home) → IsHeldApart old.domain.space old.domain.cells h → IsHeldApart new.domain.space new.domain.cells h

  same_held : new.domain.space ≡ old.domain.space → new.domain.cells ≡ old.domain.cells → Held
  same_held space cells h is = subst (λ (s : Spaces). IsHeldApart s new.domain.cells h) (sym space) (subst (λ (c : Cells). IsHeldApart old.domain.space c h) (sym cells) is)

  refused_held : Refuses old new → Held
  refused_held s h is = ⊎_elim
      (λ same. same_held same s.cells h is)
      (λ miss. subst (λ (x : Spaces). IsHeldApart x new.domain.cells h) (sym miss) (subst (λ (c : Cells). IsHeldApart (missed old.domain.space) c h) (sym s.cells) (record { held = is.held; off_table = is.off_table })))
      s.space

  pub call_held : Call fileset version tag old new → Held
  call_held (refused s) = refused_held s
  call_held (given s) = given_held fileset version tag old new stood s
  call_held (moved s) = moved_held fileset version tag old new stood s
  call_held (described value s) = same_held s.space s.cells
  call_held (put_in parent s) = same_held s.space s.cells
  call_held (indexed index s) = same_held s.space s.cells
  call_held (cut size lowered s) = same_held s.space s.cells
  call_held (dropped s) = same_held s.space s.cells
  call_held (made s) = make.held fileset version tag old new stood s

  -- ---- the tag directories

  -- a page that was free is none of the other directory
  not_of_other : (h : Home) → (IsHeldApart old.domain.space old.domain.cells h → ⊥) → has_home places h ≡ false
  not_of_other h not_held = ⊎_elim (λ has. absurd (not_held (was.together.tag_pages h has))) (λ none. none) (cases_Bool (has_home places h))

  abbrev Apart : Type 0
  Apart = (h : Home) → has_home new.places h ≡ true → has_home places h ≡ false

  same_apart : new.places ≡ old.places → Apart
  same_apart same h has = was.apart h (ap (λ (ps : List TagPlace). has_home ps h) (sym same) ∙ has)

  made_apart : Makes fileset version tag old new → Apart
  made_apart s h has = ⊎_elim
      (λ cell. same_apart cell.same h has)
      (λ page. ⊎_elim
      (λ had. was.apart h had)
      (λ same. not_of_other h (λ is. not_held old.domain.space page.home.vol page.home.page page.free (subst (IsHeldApart old.domain.space old.domain.cells) same is).held))
      (one_home_more old.places (record { index = page.index; home = page.home }) h (ap (λ (ps : List TagPlace). has_home ps h) (sym page.joins) ∙ has)))
      s.taken

  call_apart : Call fileset version tag old new → Apart
  call_apart (refused s) = same_apart s.places
  call_apart (given s) = same_apart s.puts.places
  call_apart (moved s) = same_apart s.puts.places
  call_apart (described value s) = same_apart s.places
  call_apart (put_in parent s) = same_apart s.places
  call_apart (indexed index s) = same_apart s.places
  call_apart (cut size lowered s) = same_apart s.places
  call_apart (dropped s) = same_apart s.places
  call_apart (made s) = made_apart s

  tag_page_stays : Call fileset version tag old new → (h : Home) → has_home places h ≡ true → new.domain.pages h ≡ old.domain.pages h
  tag_page_stays call h has =
      call_pages fileset version tag old new stood.together h
      (call_held call h (was.together.tag_pages h has)).off_table
      (⊎_elim (λ also. absurd (true≢false (sym has ∙ call_apart call h also))) (λ none. none) (cases_Bool (has_home new.places h)))
      call

  -- ---- the files

  -- the tag's file begins elsewhere
  pub not_of_tag : (t : Tag) (cs : List PlacedCell) (a : CellAt) → chains t ≡ Some cs → old.domain.files a ≡ Some cs → ¬ option_and_then start_of (old.chains tag) ≡ Some a
  not_of_tag t cs a is there = by_chain (old.chains tag) refl
    where
      by_chain : (o : Option (List PlacedCell)) → old.chains tag ≡ o → ¬ option_and_then start_of o ≡ Some a
      by_chain None none start = none_not a start
      by_chain (Some xs) some start =
          let same : xs ≡ cs = some_same xs cs (sym (file_of_tag old.domain.files old.chains tag xs a (stood.among.same tag) some start) ∙ there) in
          let mine = subst (λ o. IfSome o (LeadsToFile fileset old.places old.domain.pages tag)) some (stood.together.files.some tag) in
          let its = subst (λ o. IfSome o (LeadsToFile other places old.domain.pages t)) is (was.together.files.some t) in
          differ (one_fileset other fileset t tag cs its.is_of (subst (IsOf fileset tag) same mine.is_of))

  other_file_stays : Call fileset version tag old new → (t : Tag) (cs : List PlacedCell) (a : CellAt) → chains t ≡ Some cs → start_of cs ≡ Some a → old.domain.files a ≡ Some cs → new.domain.files a ≡ old.domain.files a
  other_file_stays call t cs a is start there = (call_beside fileset version tag old new stood a cs there (not_of_tag t cs a is there) call).same

  -- ---- homes of pages

  abbrev NoTags : Type 0
  NoTags = (a : CellAt) (p : ℕ) (h : Home) → place_in new.domain.files a p ≡ At h → has_home places h ≡ false

  by_files : (files : Files) → new.domain.files ≡ files → ((a : CellAt) (p : ℕ) (h : Home) → place_in files a p ≡ At h → has_home places h ≡ false) → NoTags
  by_files files same none a p h there = none a p h (ap (λ (f : Files). place_in f a p) (sym same) ∙ there)

  module _ (says : Cell → Cell) (first : PlacedCell) (rest : List PlacedCell) (is : old.chains tag ≡ Some (first ∷ rest)) (beside : SaysBeside says first.cell) where
    abbrev after : List PlacedCell
    after = with_first says (first ∷ rest)

    abbrev now : Files
    now = with_file first.at (Some after) old.domain.files

    there : old.domain.files first.at ≡ Some (first ∷ rest)
    there = file_is fileset old.places old.domain.pages old.chains stood.together.files old.domain.files stood.among.same tag (first ∷ rest) is first.at refl

    first_place : (a : CellAt) (p : ℕ) → place_in now a p ≡ place_in old.domain.files a p
    first_place a p = ⊎_elim
        (λ same.
        ap (λ (b : CellAt). place_in now b p) same ∙ place_by now first.at after p (file_there first.at (Some after) old.domain.files)
        ∙ ap (λ rs. place_of rs p) (runs_kept says first rest beside.maps)
        ∙ sym (place_by old.domain.files first.at (first ∷ rest) p there) ∙ ap (λ (b : CellAt). place_in old.domain.files b p) (sym same))
        (λ not_at. ap (λ o. option_map_or (λ cs. places_of cs p) o Absent) (file_other first.at (Some after) old.domain.files a not_at))
        (same_or_not a first.at)

  set_no_tags : (says : Cell → Cell) (first : PlacedCell) (rest : List PlacedCell) → old.chains tag ≡ Some (first ∷ rest) → SaysBeside says first.cell
      → new.domain.files ≡ with_file first.at (Some (with_first says (first ∷ rest))) old.domain.files → NoTags
  set_no_tags says first rest is beside files = by_files _ files (λ a p h there. was.among.no_tags a p h (sym (first_place says first rest is beside a p) ∙ there))

  given_no_tags : Gives fileset version tag old new → NoTags
  given_no_tags s = by_files _ s.puts.files (λ a p h there. ⊎_elim
      (λ had. was.among.no_tags a p h had)
      (λ fresh. not_of_other h (λ is. not_free fileset version tag old new stood s h (sym fresh.1.1) is))
      (was_there old.domain.space new.domain.space old.domain.cells new.domain.cells old.domain.pages new.domain.pages old.domain.files stood.well.together _ _ _
      (put.put fileset version tag old new stood s.home s.chain s.puts (given_tables fileset version tag old new s) (given_held fileset version tag old new stood s) (nowhere fileset version tag old new stood s)
      (λ inside. not_free fileset version tag old new stood s s.home refl (stood.well.listed.pages_held s.home inside)))
      a p h there))

  moved_no_tags : (s : Moves fileset version tag old new) → has_home places s.home ≡ false → NoTags
  moved_no_tags s off = by_files _ s.puts.files (λ a p h there. ⊎_elim
      (λ had. was.among.no_tags a p h had)
      (λ fresh. ap (has_home places) fresh.1.1 ∙ off)
      (was_there old.domain.space new.domain.space old.domain.cells new.domain.cells old.domain.pages new.domain.pages old.domain.files stood.well.together _ _ _
      (put.put fileset version tag old new stood s.home s.chain s.puts (moved_tables fileset version tag old new s) (moved_held fileset version tag old new stood s) s.nowhere s.not_listed)
      a p h there))

  made_no_tags : Makes fileset version tag old new → NoTags
  made_no_tags s = by_files _ s.files (λ a p h there. ⊎_elim
      (λ had. was.among.no_tags a p h had)
      (λ fresh. absurd fresh.1)
      (was_there old.domain.space new.domain.space old.domain.cells new.domain.cells old.domain.pages new.domain.pages old.domain.files stood.well.together _ _ _ (make.put fileset version tag old new stood s) a p h there))

  call_no_tags : (call : Call fileset version tag old new) → IsApartOf fileset version tag places old new call → NoTags
  call_no_tags (refused s) off = by_files old.domain.files s.files was.among.no_tags
  call_no_tags (given s) off = given_no_tags s
  call_no_tags (moved s) off = moved_no_tags s off
  call_no_tags (described value s) off = set_no_tags _ s.first s.rest s.is (attributes_beside old.domain.pages s.first s.rest (set_file fileset tag old new stood _ s) value) s.files
  call_no_tags (put_in parent s) off = set_no_tags _ s.first s.rest s.is (parent_beside old.domain.pages s.first s.rest (set_file fileset tag old new stood _ s) parent) s.files
  call_no_tags (indexed index s) off = set_no_tags _ s.first s.rest s.is (index_beside old.domain.pages s.first s.rest (set_file fileset tag old new stood _ s) index) s.files
  call_no_tags (cut size lowered s) off = set_no_tags _ s.first s.rest s.is (truncated_beside old.domain.pages s.first s.rest (set_file fileset tag old new stood _ s) size lowered) s.files
  call_no_tags (dropped s) off = set_no_tags says_removed s.first s.rest s.is (removed_beside old.domain.pages s.first s.rest (dropped_was fileset tag old new stood s)) (files_left fileset tag old new stood s)
  call_no_tags (made s) off = made_no_tags s

  pub beside_call : (call : Call fileset version tag old new) → IsApartOf fileset version tag places old new call → StandsBeside other places chains new
  beside_call call off =
      beside_now old new other places chains was (stands_call fileset version tag old new stood call).well (list_call fileset version tag old new call)
      (call_held call) (tag_page_stays call) (other_file_stays call) (call_no_tags call off) (call_apart call)

-- ---- any number of calls

record StaysBeside (fileset other : ℕ) (places : List TagPlace) (chains : Chains) (now : FilesetNow) : Type 0 where
  stood : StandsWell fileset now
  beside : StandsBeside other places chains now

pub other_filesets_same : (fileset : ℕ) (version : Version) (tag : Tag) (first last : FilesetNow) → (calls : Calls fileset version tag first last) → StandsWell fileset first → (other : ℕ) → ¬ other ≡ fileset → (places : List TagPlace) (chains : Chains)
    → StandsBeside other places chains first → AreApartOf fileset version tag places first last calls → StandsBeside other places chains last
other_filesets_same fileset version tag first last calls stood other differ places chains beside off = (all off).beside
  where
    all : AreApartOf fileset version tag places first last calls → StaysBeside fileset other places chains last
    all = elim calls as (λ last calls. AreApartOf fileset version tag places first last calls → StaysBeside fileset other places chains last) [
      | no_call ↦ λ off. record { stood = stood; beside = beside }
      | one_more between last (calls → was) call ↦ λ off.
          let so_far = was off.0 in
          record {
            stood = stands_call fileset version tag between last so_far.stood call;
            beside = beside_call fileset version tag between last so_far.stood other differ places chains so_far.beside call off.1;
          }
    ]
