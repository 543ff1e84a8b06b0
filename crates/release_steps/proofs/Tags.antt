-- Files that tags name, their pages and the pages of their directory belong together after steps.
use Rattle.std.proofs.Common.{Contains, IfSome, IsSomeAnd, List, None, Option, Some, [], ℕ, ⊎_elim, ◌∙◌, ◌∷◌, ◌≡◌, ◌≤◌, ap, arith, false, is_some, refl, slice_get, subst, suc, sym, true, zero}
use Rattle.std.proofs.lemmas.Bool.{cases_Bool, true≢false, false_from_ne_true}
use Rattle.std.specs.Option.{option_and_then, option_map_or}
use Rattle.release_list.specs.domain_base.declared.place.CellAt.{CellAt}
use Rattle.release_list.specs.domain_base.declared.place.Home.{Home}
use Rattle.release_list.specs.domain_base.declared.place.Tag.{Tag}
use Rattle.release_list.specs.domain_base.declared.version.Version.{Version}
use Rattle.release_list.specs.page_store.Bitfiles.{same_tag}
use Rattle.release_list.specs.page_store.Pages.{Pages, same_home}
use Rattle.release_list.specs.metadata_cells.Chain.{PlacedCell, places as cell_places}
use Rattle.release_list.specs.tag_dirs.declared.dir.TagPlace.{TagPlace}
use Rattle.release_list.specs.tag_dirs.Directory.{cell_of, has_home, Unlinks}
use Rattle.release_list.specs.extent_maps.declared.run.PagePlace.TheVariants.{Absent, At}
use Rattle.release_list.specs.free_cells.Cells.{Cells, table_of}
use Rattle.release_list.specs.free_space.declared.waiting.PageUse.TheVariants.{Metadata}
use Rattle.release_list.specs.free_space.Spaces.{Spaces}
use Rattle.release_list.specs.file_chains.FileChanges.{AreOnTables}
use Rattle.release_list.specs.file_chains.Files.{IsFile, places_of}
use Rattle.release_list.specs.fileset_files.Changes.{with_first}
use Rattle.release_list.specs.fileset_files.Files.{AreApart, AreFiles, Chains, LeadsToFile, first_record, is_removed, place_at}
use Rattle.release_list.specs.fileset_files.Together.{AreTogether, IsHeldApart}
use Rattle.release_list.proofs.OfFilesetFiles.OneFile.{tags_same}
use Rattle.release_list.proofs.OfFilesetFiles.Tags.{cell_same, directory_same, pages_same}
use Rattle.release_list.proofs.OfFileRelease.Given.{held_given}
use Rattle.release_list.proofs.OfFileRelease.Once.{absent_not}
use Rattle.release_list.specs.Standing.{Files, IsStanding, place_in}
use Rattle.release_list.specs.Steps.{IsWell, Now, Step, Steps, file_ends, more, none, pages_go, quota_goes, reading_ends, says_no_source, says_trimmed, tag_page_goes, trim_ends, last_home}
use Rattle.release_list.proofs.Lists.{in_start, last_in, not_last, last_inside}
use Rattle.release_list.proofs.Spread.{Which, held_still, none_not, other, reading, some_same, source, was_there, which}
use Rattle.release_list.proofs.Standings.{apart_by, is_file, place_by, same_or_not, standing}
use Rattle.release_steps.specs.Tags.{AreAmong, chains_in, start_of}
use Rattle.release_steps.proofs.Ended.{ended_other, file_gone, reading_other, reading_place, reading_there, same_file, trim_front, trim_once, trim_other, trim_there}
use Rattle.release_steps.proofs.FirstCells.{first_place, trimmed_keeps}
use Rattle.release_steps.proofs.Fits.{Fits, trim_maps, well_fits}
use Rattle.release_steps.proofs.Narrower.{in_last, narrower_step}
use Rattle.release_steps.proofs.PagesGo.{at_other, at_source, clone_now, clone_was}
use Rattle.release_steps.proofs.Said.{SaysSame, left_alone, left_first, says_alone, says_first, says_itself, says_trim}
use Rattle.release_steps.proofs.Wells.{well_step}
use Rattle.release_list.specs.declared.list.Entry.{Entry}
use Rattle.release_list.specs.Listed.{left_of}
use Rattle.release_list.specs.cell_records.declared.record.Leftover.TheVariants.{Trim}
use Rattle.release_steps.proofs.QuotaStep.{not_trimmed, quota_beside, quota_places}
use Rattle.release_list.proofs.OfMetadataCells.Changed.{homes_same}

-- ---- what one step does to each file

-- the file is there, and what its first cell says of it is the same
record IsStill (now : Now) (a : CellAt) (cells : List PlacedCell) : Type 0 where
  after : List PlacedCell
  is : now.files a ≡ Some after
  says : SaysSame cells after
  left : (e : Entry) → Contains now.list.entries e → e.at ≡ a → left_of after ≡ left_of cells

module _ (group : ℕ) (version : Version) (old new : Now) (well : IsWell old) where
  fits : Fits old
  fits = well_fits old well

  as_it_was : (a : CellAt) (cells : List PlacedCell) → old.files a ≡ Some cells → new.files a ≡ old.files a → IsStill new a cells
  as_it_was a cells was same = record { after = cells; is = same ∙ was; says = says_itself cells; left = λ e inside at. refl }

  still : Step group version old new → (a : CellAt) (cells : List PlacedCell) → old.files a ≡ Some cells → ((e : Entry) → Contains old.list.entries e → e.at ≡ a → left_of cells ≡ Some Trim) → IsStill new a cells
  still (pages_go s) a cells was trims = by_which (which s.entry.at s.entry.clone a)
    where
      by_which : Which s.entry.at s.entry.clone a → IsStill new a cells
      by_which (source same) =
          let it : s.chain ≡ cells = some_same s.chain cells (sym s.is ∙ sym (ap old.files same) ∙ was) in
          record {
            after = s.releases.after;
            is = ap new.files same ∙ at_source group version old new fits s;
            says = subst (λ (cs : List PlacedCell). SaysSame cs s.releases.after) it (says_first s.chain s.releases.after s.releases.first);
            left = λ e inside at. left_first s.chain s.releases.after s.releases.first ∙ ap left_of it;
          }
      by_which (reading some) =
          let it : s.own ≡ cells = some_same s.own cells (sym (clone_was group version old new fits s a some) ∙ was) in
          record {
            after = s.releases.own_now;
            is = clone_now group version old new fits s a some;
            says = subst (λ (cs : List PlacedCell). SaysSame cs s.releases.own_now) it
                (⊎_elim (λ same. subst (SaysSame s.own) (sym same) (says_itself s.own)) (λ first. says_first s.own s.releases.own_now first) s.releases.own_first);
            left = λ e inside at. ⊎_elim (λ same. ap left_of same) (λ first. left_first s.own s.releases.own_now first) s.releases.own_first ∙ ap left_of it;
          }
      by_which (other not_at not_it) = as_it_was a cells was (at_other group version old new fits s a not_at not_it)
  still (quota_goes s) a cells was trims =
      as_it_was a cells was (quota_beside group version old new s a (λ same. not_trimmed group version old new s cells (sym (ap old.files same) ∙ was) (trims s.entry (in_last old.list s.front s.entry s.last) (sym same))))
  still (trim_ends s) a cells was trims = ⊎_elim
      (λ same.
      let it : s.chain ≡ cells = some_same s.chain cells (sym s.is ∙ sym (ap old.files same) ∙ was) in
      record {
        after = with_first says_trimmed s.chain;
        is = ap new.files same ∙ trim_there group version old new fits s;
        says = subst (λ (cs : List PlacedCell). SaysSame cs (with_first says_trimmed s.chain)) it (says_trim s.chain);
        left = λ e inside at. absurd (not_last s.front s.entry e (trim_once group version old new fits s) (trim_front group version old new fits s e inside) (at ∙ same));
      })
      (λ not_at. as_it_was a cells was (trim_other group version old new fits s a not_at))
      (same_or_not a s.entry.at)
  still (reading_ends s) a cells was trims = ⊎_elim
      (λ same.
      let it : s.own ≡ cells = some_same s.own cells (sym s.own_is ∙ sym (ap old.files same) ∙ was) in
      record {
        after = with_first says_no_source s.own;
        is = ap new.files same ∙ reading_there group version old new fits s;
        says = subst (λ (cs : List PlacedCell). SaysSame cs (with_first says_no_source s.own)) it (says_alone s.own);
        left = λ e inside at. left_alone s.own ∙ ap left_of it;
      })
      (λ not_at. as_it_was a cells was (reading_other group version old new fits s a not_at))
      (same_or_not a s.clone)
  still (file_ends s) a cells was trims = ⊎_elim
      (λ same.
      let it : s.chain ≡ cells = some_same s.chain cells (sym s.is ∙ sym (ap old.files same) ∙ was) in
      absurd (s.whole (ap left_of it ∙ trims s.entry (in_last old.list s.front s.entry s.last) (sym same))))
      (λ not_at. as_it_was a cells was (ended_other group version old new fits s a not_at))
      (same_or_not a s.entry.at)
  still (tag_page_goes s) a cells was trims = as_it_was a cells was (same_file group version old new fits s a)

  -- ---- pages

  -- a page's home was that of some page
  abbrev HadPage : Home → Type 0
  HadPage home = (b : CellAt) × (q : ℕ) × (place_in old.files b q ≡ At home)

  pub had_page : Step group version old new → (a : CellAt) (p : ℕ) (home : Home) → place_in new.files a p ≡ At home → HadPage home
  had_page (pages_go s) a p home there =
      let is_entry = well.listed.each s.entry (in_last old.list s.front s.entry s.last) in
      let now_there = sym (ap (λ (f : Files). place_in f a p) s.files) ∙ there in
      ⊎_elim
      (λ was. (a, p, was))
      (λ h. (s.entry.at, p, h.was))
      (was_there old.space old.cells old.pages old.files well.together s.entry is_entry s.chain s.is s.file s.reader s.own s.given group version new.space new.cells new.pages s.what s.releases s.others s.allocated a p home now_there)
  had_page (quota_goes s) a p home there = (a, p, sym (quota_places group version old new s a p) ∙ there)
  had_page (trim_ends s) a p home there = (a, p, sym (first_place says_trimmed trimmed_keeps old new fits s.entry.at s.chain s.is (trim_maps old new fits s) s.files a p) ∙ there)
  had_page (reading_ends s) a p home there = (a, p, sym (reading_place group version old new fits s a p) ∙ there)
  had_page (file_ends s) a p home there = ⊎_elim
      (λ same. absurd (absent_not home (sym (ap (λ o. option_map_or (λ cs. places_of cs p) o Absent) (ap new.files same ∙ file_gone group version old new fits s)) ∙ there)))
      (λ not_at. (a, p, sym (ap (λ o. option_map_or (λ cs. places_of cs p) o Absent) (ended_other group version old new fits s a not_at)) ∙ there))
      (same_or_not a s.entry.at)
  had_page (tag_page_goes s) a p home there = (a, p, sym (ap (λ (f : Files). place_in f a p) s.same_files) ∙ there)

  pub was_listed : Step group version old new → (home : Home) → Contains new.list.tag_pages home → Contains old.list.tag_pages home
  was_listed (pages_go s) home inside = subst (λ l. Contains l.tag_pages home) s.same_list inside
  was_listed (quota_goes s) home inside = subst (λ l. Contains l.tag_pages home) s.same_list inside
  was_listed (trim_ends s) home inside = subst (λ l. Contains l.tag_pages home) s.list inside
  was_listed (reading_ends s) home inside = subst (λ l. Contains l.tag_pages home) s.list inside
  was_listed (file_ends s) home inside = subst (λ l. Contains l.tag_pages home) s.list inside
  was_listed (tag_page_goes s) home inside =
      subst (λ (hs : List Home). Contains hs home) (sym s.takes.last) (in_start s.takes.front (s.takes.home ∷ []) home (subst (λ l. Contains l.tag_pages home) s.takes.is inside))

  -- a page that is held, no file's and not on the list stays like that
  pub held_on : (home : Home) → 1 ≤ home.vol → ((a : CellAt) (p : ℕ) → ¬ place_in old.files a p ≡ At home) → ¬ Contains old.list.tag_pages home → IsHeldApart old.space old.cells home
      → Step group version old new → IsHeldApart new.space new.cells home
  held_on home low no_file not_listed held (pages_go s) =
      let is_entry = well.listed.each s.entry (in_last old.list s.front s.entry s.last) in
      held_still old.space old.cells old.pages old.files well.together s.entry is_entry s.chain s.is s.file s.reader s.own s.given group version new.space new.cells new.pages s.what s.releases s.others s.allocated home low held
      (λ g. no_file s.entry.at g.page (place_by old.files s.entry.at s.chain g.page s.is ∙ g.was))
  held_on home low no_file not_listed held (quota_goes s) = subst (λ (x : Spaces). IsHeldApart x new.cells home) (sym s.same_space) (record {
    held = held.held;
    off_table = λ on. held.off_table (subst (λ (t : List ℕ). Contains t home.page) (s.frees.tables home.vol) on);
  })
  held_on home low no_file not_listed held (trim_ends s) = subst (λ (x : Spaces). IsHeldApart x new.cells home) (sym s.same_space) (subst (λ (c : Cells). IsHeldApart old.space c home) (sym s.same_cells) held)
  held_on home low no_file not_listed held (reading_ends s) = subst (λ (x : Spaces). IsHeldApart x new.cells home) (sym s.same_space) (subst (λ (c : Cells). IsHeldApart old.space c home) (sym s.same_cells) held)
  held_on home low no_file not_listed held (file_ends s) = subst (λ (x : Spaces). IsHeldApart x new.cells home) (sym s.same_space) (record {
    held = held.held;
    off_table = λ on. held.off_table (subst (λ (t : List ℕ). Contains t home.page) (s.frees.tables home.vol) on);
  })
  held_on home low no_file not_listed held (tag_page_goes s) =
      subst (λ (c : Cells). IsHeldApart new.space c home) (sym s.same_cells)
      (subst (λ (x : Spaces). IsHeldApart x old.cells home) (sym s.takes.waits) (record {
        held = held_given Metadata group (s.takes.home ∷ []) old.space home
            (λ x inside. subst (λ (h : Home). 1 ≤ h.vol) (only x inside) (well.listed.pages_low s.takes.home listed))
            low (λ inside. not_listed (subst (Contains old.list.tag_pages) (only home inside) listed)) held.held;
        off_table = held.off_table;
      }))
    where
      listed : Contains old.list.tag_pages s.takes.home
      listed = subst (λ (hs : List Home). Contains hs s.takes.home) (sym s.takes.last) (last_in s.takes.front s.takes.home)

      only : (h : Home) → Contains (s.takes.home ∷ []) h → s.takes.home ≡ h
      only h (zero, within, is) = is
      only h (suc k, within, is) = absurd (omega (arith, within))

  -- so does what stands on a page that is none of cells and not on the list
  pub page_stays : Step group version old new → (home : Home) → ¬ Contains (table_of new.cells home.vol) home.page → ¬ Contains old.list.tag_pages home → new.pages home ≡ old.pages home
  page_stays (pages_go s) home off out = s.elsewhere home off
  page_stays (quota_goes s) home off out = s.elsewhere home off
  page_stays (trim_ends s) home off out = s.elsewhere home off
  page_stays (reading_ends s) home off out = s.elsewhere home off
  page_stays (file_ends s) home off out = s.elsewhere home off
  page_stays (tag_page_goes s) home off out = by_front (last_home s.takes.front) refl s.takes.unlinks
    where
      other : (f : Home) → last_home s.takes.front ≡ Some f → same_home home f ≡ false
      other f is = false_from_ne_true (same_home home f) (λ same.
          out (subst (Contains old.list.tag_pages) (sym (homes_same home f same)) (subst (λ (hs : List Home). Contains hs f) (sym s.takes.last) (in_start s.takes.front (s.takes.home ∷ []) f (last_inside s.takes.front f is)))))

      by_front : (o : Option Home) → last_home s.takes.front ≡ o → Unlinks o s.takes.home old.pages new.pages → new.pages home ≡ old.pages home
      by_front None is same = ap (λ (pages : Pages). pages home) same
      by_front (Some f) is unlinks = ⊎_elim (λ ends. ends.elsewhere home (other f is)) (λ e. ap (λ (pages : Pages). pages home) e.same) unlinks

-- ---- the file of a tag

-- it begins there
pub record IsNamed (files : Files) (cells : List PlacedCell) : Type 0 where
  pub at : CellAt
  pub start : start_of cells ≡ Some at
  pub is : files at ≡ Some cells

pub named : (files : Files) (chains : Chains) (t : Tag) (cells : List PlacedCell) → chains t ≡ Some cells → chains_in files chains t ≡ chains t → IsNamed files cells
named files chains t cells is same = by_cells cells (sym (ap (λ o. option_and_then files (option_and_then start_of o)) is) ∙ same ∙ is)
  where
    by_cells : (cs : List PlacedCell) → option_and_then files (option_and_then start_of (Some cs)) ≡ Some cs → IsNamed files cs
    by_cells [] there = absurd (none_not [] there)
    by_cells (first ∷ rest) there = record { at = first.at; start = refl; is = there }

start_in : (cells : List PlacedCell) (at : CellAt) → start_of cells ≡ Some at → Contains (cell_places cells) at
start_in [] at start = absurd (none_not at start)
start_in (first ∷ rest) at start = (0, omega arith, some_same first.at at start)

pub has_attributes : (pages : Pages) (a : CellAt) (cells : List PlacedCell) → IsFile pages a cells → ¬ first_record 1 cells ≡ None
has_attributes pages a [] file nothing = file
has_attributes pages a (first ∷ rest) file nothing = true≢false (sym file.1.attributes ∙ ap is_some nothing)

pub file_start : (pages : Pages) (a at : CellAt) (cells : List PlacedCell) → IsFile pages a cells → start_of cells ≡ Some at → a ≡ at
file_start pages a at [] file start = absurd file
file_start pages a at (first ∷ rest) file start = sym file.0 ∙ some_same first.at at start

module _ (fileset : ℕ) (places : List TagPlace) (space : Spaces) (cells : Cells) (pages : Pages) (chains : Chains) (are : AreTogether fileset places space cells pages chains) where
  pub starts_differ : (s t : Tag) (xs ys : List PlacedCell) (a b : CellAt) → same_tag s t ≡ false → chains s ≡ Some xs → chains t ≡ Some ys → start_of xs ≡ Some a → start_of ys ≡ Some b → ¬ a ≡ b
  starts_differ s t xs ys a b differ is_s is_t start_s start_t same =
      let apart = subst (λ o. IfSome o (AreApart xs)) is_t (subst (λ o. IfSome o (λ xs. IfSome (chains t) (AreApart xs))) is_s (are.files.apart s t differ)) in
      apart a (start_in xs a start_s) (subst (Contains (cell_places ys)) (sym same) (start_in ys b start_t))

-- ---- one step

pub record AreStill (fileset : ℕ) (places : List TagPlace) (now : Now) (chains : Chains) : Type 0 where
  pub together : AreTogether fileset places now.space now.cells now.pages chains
  pub among : AreAmong now places chains

module _ (group : ℕ) (version : Version) (old new : Now) (well : IsWell old) (step : Step group version old new) (fileset : ℕ) (places : List TagPlace) (chains : Chains) (was : AreStill fileset places old chains) where
  abbrev now : Chains
  now = chains_in new.files chains

  well_now : IsWell new
  well_now = well_step group version old new well step

  -- what became of a tag's file
  record Goes (t : Tag) (cells : List PlacedCell) : Type 0 where
    at : CellAt
    start : start_of cells ≡ Some at
    after : List PlacedCell
    there : new.files at ≡ Some after
    says : SaysSame cells after
    is : now t ≡ Some after
    live : is_removed after ≡ false
    left : (e : Entry) → Contains new.list.entries e → e.at ≡ at → left_of after ≡ left_of cells

  goes : (t : Tag) (cells : List PlacedCell) → chains t ≡ Some cells → Goes t cells
  goes t cells is =
      let n = named old.files chains t cells is (was.among.same t) in
      let live = subst (λ o. IfSome o (λ cs. is_removed cs ≡ false)) is (was.among.live t) in
      let s = still group version old new well step n.at cells n.is (λ e inside at. ap (option_and_then left_of) (sym is) ∙ was.among.trimmed e inside t (ap (option_and_then start_of) is ∙ n.start ∙ ap Some (sym at))) in
      record {
        at = n.at;
        start = n.start;
        after = s.after;
        there = s.is;
        says = s.says;
        is = ap (λ o. option_and_then new.files (option_and_then start_of o)) is ∙ ap (option_and_then new.files) n.start ∙ s.is;
        live = s.says.live live;
        left = s.left;
      }

  gone : (t : Tag) → chains t ≡ None → now t ≡ None
  gone t is = ap (λ o. option_and_then new.files (option_and_then start_of o)) is

  -- of each tag that names one then
  all_now : (t : Tag) (P : Option (List PlacedCell) → Type 0) → P None → ((cells : List PlacedCell) → chains t ≡ Some cells → (g : Goes t cells) → P (Some g.after)) → P (now t)
  all_now t P nothing each = by_chain (chains t) refl
    where
      by_chain : (o : Option (List PlacedCell)) → chains t ≡ o → P (now t)
      by_chain None is = subst P (sym (gone t is)) nothing
      by_chain (Some cells) is = let g = goes t cells is in subst P (sym g.is) (each cells is g)

  stands : (t : Tag) (cells : List PlacedCell) (g : Goes t cells) → IsStanding new.cells new.pages g.at g.after
  stands t cells g = standing new.space new.cells new.pages new.files well_now.together g.at g.after g.there

  -- ---- the tag directory

  held_now : (home : Home) → has_home places home ≡ true → IsHeldApart new.space new.cells home
  held_now home has = held_on group version old new well home (was.among.low home has)
      (λ a p there. true≢false (sym has ∙ was.among.no_tags a p home there))
      (λ inside. true≢false (sym has ∙ was.among.not_listed home inside))
      (was.together.tag_pages home has) step

  tags_stay : (k : ℕ) → IfSome (slice_get places k) (λ place. new.pages place.home ≡ old.pages place.home)
  tags_stay = pages_same old.pages new.pages places (λ home has. page_stays group version old new well step home (held_now home has).off_table (λ inside. true≢false (sym has ∙ was.among.not_listed home inside)))

  cells_lead : (t : Tag) → cell_of new.pages places t ≡ cell_of old.pages places t
  cells_lead = cell_same old.pages new.pages places was.together.files.directory tags_stay

  -- ---- the files

  leads_now : (t : Tag) (cells : List PlacedCell) → chains t ≡ Some cells → (g : Goes t cells) → LeadsToFile fileset places new.pages t g.after
  leads_now t cells is g =
      let led = subst (λ o. IfSome o (LeadsToFile fileset places old.pages t)) is (was.together.files.some t) in
      record {
        leads = subst (λ o. IsSomeAnd o (λ at. IsFile new.pages at g.after)) (sym (cells_lead t)) (by_cell (cell_of old.pages places t) led.leads);
        is_of = g.says.is_of fileset t led.is_of;
        kinds = g.says.kinds led.kinds;
      }
    where
      by_cell : (o : Option CellAt) → IsSomeAnd o (λ at. IsFile old.pages at cells) → IsSomeAnd o (λ at. IsFile new.pages at g.after)
      by_cell None leads = leads
      by_cell (Some a) leads = subst (λ (b : CellAt). IsFile new.pages b g.after) (sym (file_start old.pages a g.at cells leads g.start))
          (is_file new.pages g.at g.after (stands t cells g).stands 1 (λ e. omega (arith, e)) (λ e. omega (arith, e)) (g.says.attributes (has_attributes old.pages a cells leads)))

  none_now : (t : Tag) → now t ≡ None → cell_of new.pages places t ≡ None
  none_now t nothing = cells_lead t ∙ was.together.files.none t (by_chain (chains t) refl)
    where
      by_chain : (o : Option (List PlacedCell)) → chains t ≡ o → chains t ≡ None
      by_chain None is = is
      by_chain (Some cells) is = let g = goes t cells is in absurd (none_not g.after (sym nothing ∙ g.is))

  differ_now : (s t : Tag) (xs ys : List PlacedCell) → same_tag s t ≡ false → chains s ≡ Some xs → chains t ≡ Some ys → (g : Goes s xs) → (h : Goes t ys) → ¬ g.at ≡ h.at
  differ_now s t xs ys differ is_s is_t g h =
      starts_differ fileset places old.space old.cells old.pages chains was.together s t xs ys g.at h.at differ is_s is_t g.start h.start

  files_now : AreFiles fileset places new.pages now
  files_now = record {
    directory = directory_same old.pages new.pages places was.together.files.directory tags_stay;
    none = none_now;
    some = λ t. all_now t (λ o. IfSome o (LeadsToFile fileset places new.pages t)) tt (λ cells is g. leads_now t cells is g);
    apart = λ s t differ. all_now s (λ o. IfSome o (λ xs. IfSome (now t) (AreApart xs))) tt (λ xs is_s g.
        all_now t (λ o. IfSome o (AreApart g.after)) tt (λ ys is_t h.
        apart_by new.space new.cells new.pages new.files well_now.together g.at h.at g.after h.after g.there h.there (differ_now s t xs ys differ is_s is_t g h)));
  }

  -- ---- their pages

  record PlacedNow (t : Tag) (p : ℕ) (home : Home) : Type 0 where
    cells : List PlacedCell
    was_so : chains t ≡ Some cells
    goes_to : Goes t cells
    there : place_in new.files goes_to.at p ≡ At home

  placed_now : (t : Tag) (p : ℕ) (home : Home) → place_at now t p ≡ At home → PlacedNow t p home
  placed_now t p home = all_now t (λ o. option_map_or (λ cs. places_of cs p) o Absent ≡ At home → PlacedNow t p home)
      (λ is. absurd (absent_not home is))
      (λ cells is g there. record { cells = cells; was_so = is; goes_to = g; there = place_by new.files g.at g.after p g.there ∙ there })

  no_tags_now : (a : CellAt) (p : ℕ) (home : Home) → place_in new.files a p ≡ At home → has_home places home ≡ false
  no_tags_now a p home there = let had = had_page group version old new well step a p home there in was.among.no_tags had.0 had.1 home had.2

  once_now : (s t : Tag) (p q : ℕ) (home : Home) → place_at now s p ≡ At home → place_at now t q ≡ At home → (s ≡ t) × (p ≡ q)
  once_now s t p q home at_s at_t =
      let x = placed_now s p home at_s in
      let y = placed_now t q home at_t in
      let both = well_now.together.once x.goes_to.at y.goes_to.at p q home x.there y.there in (
        ⊎_elim
            (λ same. tags_same s t same)
            (λ differ. absurd (differ_now s t x.cells y.cells differ x.was_so y.was_so x.goes_to y.goes_to both.0))
            (cases_Bool (same_tag s t)),
        both.1,
      )

  pub still_now : AreStill fileset places new now
  still_now = record {
    together = record {
      files = files_now;
      allocated = well_now.together.allocated;
      on_tables = λ t. all_now t (λ o. IfSome o (AreOnTables new.cells)) tt (λ cells is g. (stands t cells g).on_tables);
      tag_pages = held_now;
      file_pages = λ t p home there. let x = placed_now t p home there in record {
        apart = well_now.together.held x.goes_to.at p home x.there;
        no_tags = no_tags_now x.goes_to.at p home x.there;
      };
      once = once_now;
    };
    among = record {
      same = λ t. all_now t (λ o. option_and_then new.files (option_and_then start_of o) ≡ o) refl
          (λ cells is g. ap (option_and_then new.files) (g.says.start ∙ g.start) ∙ g.there);
      live = λ t. all_now t (λ o. IfSome o (λ cells. is_removed cells ≡ false)) tt (λ cells is g. g.live);
      trimmed = λ e inside t. all_now t (λ o. option_and_then start_of o ≡ Some e.at → option_and_then left_of o ≡ Some Trim)
          (λ start. absurd (none_not e.at start))
          (λ cells is g start.
          let n = narrower_step group version old new step e inside in
          let at : g.at ≡ e.at = some_same g.at e.at (sym (g.says.start ∙ g.start) ∙ start) in
          g.left e inside (sym at) ∙ ap (option_and_then left_of) (sym is) ∙ was.among.trimmed n.was n.inside t (ap (option_and_then start_of) is ∙ g.start ∙ ap Some (at ∙ sym n.at)));
      low = was.among.low;
      no_tags = no_tags_now;
      not_listed = λ home inside. was.among.not_listed home (was_listed group version old new well step home inside);
    };
  }

  pub starts_now : (t : Tag) → option_and_then start_of (now t) ≡ option_and_then start_of (chains t)
  starts_now t = by_chain (chains t) refl
    where
      by_chain : (o : Option (List PlacedCell)) → chains t ≡ o → option_and_then start_of (now t) ≡ option_and_then start_of (chains t)
      by_chain None is = ap (option_and_then start_of) (gone t is) ∙ sym (ap (option_and_then start_of) is)
      by_chain (Some cells) is = let g = goes t cells is in ap (option_and_then start_of) g.is ∙ g.says.start ∙ sym (ap (option_and_then start_of) is)

-- ---- any number

record Follows (fileset : ℕ) (places : List TagPlace) (now : Now) (chains : Chains) : Type 0 where
  well : IsWell now
  starts : (t : Tag) → option_and_then start_of (chains_in now.files chains t) ≡ option_and_then start_of (chains t)
  still : AreStill fileset places now (chains_in now.files chains)

by_tags : (fileset : ℕ) (places : List TagPlace) (now : Now) (xs ys : Chains) → ((t : Tag) → xs t ≡ ys t) → AreStill fileset places now xs → AreStill fileset places now ys
by_tags fileset places now xs ys same still = subst (λ (c : Chains). AreStill fileset places now c) (λ i t. same t i) still

follow_step : (group : ℕ) (version : Version) (old new : Now) (fileset : ℕ) (places : List TagPlace) (chains : Chains) → Step group version old new → Follows fileset places old chains → Follows fileset places new chains
follow_step group version old new fileset places chains step f =
    let between = chains_in old.files chains in
    let again = (λ (t : Tag). ap (option_and_then new.files) (f.starts t)) in
    record {
      well = well_step group version old new f.well step;
      starts = λ t. sym (ap (option_and_then start_of) (again t)) ∙ starts_now group version old new f.well step fileset places between f.still t ∙ f.starts t;
      still = by_tags fileset places new (chains_in new.files between) (chains_in new.files chains) again (still_now group version old new f.well step fileset places between f.still);
    }

follow_steps : (group : ℕ) (version : Version) (first : Now) (count : ℕ) (last : Now) → IsWell first → Steps group version first count last → (fileset : ℕ) (places : List TagPlace) (chains : Chains)
    → AreTogether fileset places first.space first.cells first.pages chains → AreAmong first places chains → Follows fileset places last chains
follow_steps group version first count last well steps fileset places chains together among =
    elim steps as (λ count last steps. Follows fileset places last chains) [
      | none ↦ record {
        well = well;
        starts = λ t. ap (option_and_then start_of) (among.same t);
        still = by_tags fileset places first chains (chains_in first.files chains) (λ t. sym (among.same t)) (record { together = together; among = among });
      }
      | more n between last (steps → was) step ↦ follow_step group version between last fileset places chains step was
    ]

pub tags_stay_together : (group : ℕ) (version : Version) (first : Now) (count : ℕ) (last : Now) → IsWell first → Steps group version first count last → (fileset : ℕ) (places : List TagPlace) (chains : Chains)
    → AreTogether fileset places first.space first.cells first.pages chains → AreAmong first places chains
    → AreTogether fileset places last.space last.cells last.pages (chains_in last.files chains) × AreAmong last places (chains_in last.files chains)
tags_stay_together group version first count last well steps fileset places chains together among =
    let f = follow_steps group version first count last well steps fileset places chains together among in
    (f.still.together, f.still.among)
