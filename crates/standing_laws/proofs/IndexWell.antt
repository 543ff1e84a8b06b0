-- All files of a domain belong together once the first cell of one and its index have changed.
use Rattle.std.proofs.Common.{◌≡◌, ◌∙◌, ⊎_elim, inl, ◌≤◌, zero, suc, true, false, List, [], ◌∷◌, Option, Some, None, IfSome, IsSome, Contains, slice_index, refl, sym, ap, subst, arith}
use Rattle.std.proofs.lemmas.Bool.{or_left, or_right}
use Rattle.std.specs.List.{AllByRecursion}
use Rattle.std.specs.Option.{option_and_then}
use Rattle.domain_standing.specs.domain_base.declared.place.CellAt.{CellAt}
use Rattle.domain_standing.specs.domain_base.declared.place.Home.{Home}
use Rattle.domain_standing.specs.page_store.Pages.{Pages, same_home}
use Rattle.domain_standing.specs.cell_records.declared.record.Leftover.{Leftover}
use Rattle.domain_standing.specs.cell_records.declared.record.Leftover.TheVariants.{Remove, Trim}
use Rattle.domain_standing.specs.cell_records.declared.record.Record.{Record}
use Rattle.domain_standing.specs.metadata_cells.Cell.{record_of}
use Rattle.domain_standing.specs.metadata_cells.Chain.{PlacedCell, StandsAt, places as cell_places}
use Rattle.domain_standing.proofs.OfMetadataCells.Changed.{same_itself}
use Rattle.domain_standing.specs.tag_dirs.Directory.{has_home}
use Rattle.domain_standing.specs.tag_dirs.declared.dir.TagPlace.{TagPlace}
use Rattle.domain_standing.specs.free_cells.Belong.{home_at}
use Rattle.domain_standing.specs.free_cells.Cells.{table_of}
use Rattle.domain_standing.specs.free_space.Spaces.{Spaces}
use Rattle.domain_standing.specs.file_chains.Allocated.{AreAllocated}
use Rattle.domain_standing.specs.file_chains.FileChanges.{AreOnTables}
use Rattle.domain_standing.proofs.OfFileChains.ChainChanges.{in_first, in_later}
use Rattle.domain_standing.specs.fileset_files.Files.{is_removed}
use Rattle.domain_standing.specs.fileset_files.Together.{IsHeldApart}
use Rattle.domain_standing.specs.release_list.Listed.{left_of, leftover_in}
use Rattle.domain_standing.specs.release_list.Standing.{Files, IsFileOrQuotas}
use Rattle.domain_standing.specs.release_list.Steps.{IsWell, now_of}
use Rattle.domain_standing.specs.release_list.declared.list.Entry.{Entry}
use Rattle.domain_standing.proofs.OfReleaseList.Spread.{none_not}
use Rattle.domain_standing.proofs.OfReleaseList.Standings.{chain_by, low_home, stand_chain}
use Rattle.domain_standing.specs.release_steps.Links.{homes_of}
use Rattle.domain_standing.specs.release_steps.Tags.{AreAmong, start_of}
use Rattle.domain_standing.proofs.OfReleaseSteps.FirstWell.{set_among, set_well}
use Rattle.domain_standing.proofs.OfReleaseSteps.OneFile.{SaysByFirst}
use Rattle.domain_standing.specs.domain_layout.Filled.{Contents}
use Rattle.domain_standing.specs.Chains.{IndexesAt}
use Rattle.domain_standing.specs.Domain.{DomainNow}
use Rattle.domain_standing.specs.Holders.Holder.{of_cells, of_file, of_tags}
use Rattle.standing_laws.specs.Leads.{StandsBelow, fileset_now}
use Rattle.standing_laws.proofs.IndexSpaces.{can_still, held_still}
use Rattle.standing_laws.proofs.IndexTold.{Told, after, cell_now, files_now, member_of_table, not_gone, same_places, standing_was, start, there_now, was}
use Rattle.standing_laws.proofs.TablesStand.{index_in}

-- what says something to be left is there
some_left : (o : Option Record) (x : Leftover) → option_and_then leftover_in o ≡ Some x → IsSome o
some_left None x is = absurd (none_not x is)
some_left (Some r) x is = refl

-- where the pages of a directory are listed, each is one of it
pub listed_has : (places : List TagPlace) (home : Home) → Contains (homes_of places) home → has_home places home ≡ true
listed_has [] home inside = absurd (omega (arith, inside.1))
listed_has (p ∷ places) home (zero, within, is) = or_left (same_home home p.home) (has_home places home) (subst (λ (h : Home). same_home home h ≡ true) (sym is) (same_itself home))
listed_has (p ∷ places) home (suc k, within, is) = or_right (same_home home p.home) (has_home places home) (listed_has places home (k, omega (arith, within), is))

module _ (d : DomainNow) (files : Files) (indexes : IndexesAt) (below : StandsBelow d files indexes) (pages : Pages) (contents : Contents) (space : Spaces) (homes : List Home) (t : Told d files indexes pages space homes) where
  abbrev begins : CellAt
  begins = start d files indexes below pages contents space homes t

  abbrev chain : List PlacedCell
  chain = was d files indexes below pages contents space homes t

  abbrev chain_now : List PlacedCell
  chain_now = after d files indexes below pages contents space homes t

  abbrev files_then : Files
  files_then = files_now d files indexes below pages contents space homes t

  old_allocated : AreAllocated d.space d.cells d.pages
  old_allocated = t.well.together.allocated

  -- with the free space as it was
  allocated_was : AreAllocated d.space d.cells pages
  allocated_was = record {
    belong = t.belong;
    held = old_allocated.held;
    table = old_allocated.table;
    opened = old_allocated.opened;
    first = old_allocated.first;
    ends = t.ends;
  }

  stand_still : (cs : List PlacedCell) → AreOnTables d.cells cs → ¬ Contains (cell_places cs) begins → AllByRecursion (λ (c : PlacedCell). StandsAt d.pages c.at c.cell) cs → AllByRecursion (λ (c : PlacedCell). StandsAt pages c.at c.cell) cs
  stand_still [] on out stand = tt
  stand_still (c ∷ cs) on out stand = (
    cell_now d files indexes below pages contents space homes t c.at c.cell on.0 (λ same. out (in_first begins c cs same)) stand.0,
    stand_still cs on.1 (λ inside. out (in_later begins c cs inside)) stand.1,
  )

  leaves : (a : CellAt) (cs : List PlacedCell) → files a ≡ Some cs → ¬ Contains (cell_places cs) begins → IsFileOrQuotas pages a cs
  leaves a cs there out =
      let s = standing_was d files indexes below pages contents space homes t a cs there in
      chain_by d.pages pages a cs (stand_still cs s.on_tables out (stand_chain d.pages a cs s.stands)) s.stands

  -- where it is on the list, it is to be trimmed
  says_first : (e : Entry) → Contains d.list.entries e → e.at ≡ begins → SaysByFirst chain_now
  says_first e inside same = ⊎_elim
      (λ live. inl (some_left (record_of 6 (t.says t.first.cell).records) Trim (live.1.trim (ap (option_and_then left_of) (sym t.is) ∙ t.well.among.trimmed e inside t.tag (ap (option_and_then start_of) t.is ∙ ap Some (sym same))))))
      (λ gone. inl (some_left (record_of 6 (t.says t.first.cell).records) Remove gone.1))
      t.whose

  well_was : IsWell (now_of d.list files_then d.space d.cells pages)
  well_was = set_well t.number t.tag (fileset_now d t.number t.chains files) t.well pages t.first t.rest t.is t.says allocated_was t.file leaves t.beside says_first

  -- the fileset's files are among those of the domain
  pub among_now : AreAmong (now_of d.list files_then d.space d.cells pages) (d.tags t.number) t.chains_now
  among_now = set_among t.number t.tag (fileset_now d t.number t.chains files) t.well pages t.first t.rest t.is t.says allocated_was t.file leaves t.beside t.chains_now t.others
      (⊎_elim
      (λ live. ap (λ o. option_and_then files_then (option_and_then start_of o)) live.0 ∙ there_now d files indexes below pages contents space homes t ∙ sym live.0)
      (λ gone. ap (λ o. option_and_then files_then (option_and_then start_of o)) gone.0 ∙ sym gone.0)
      t.whose)
      (⊎_elim
      (λ live. subst (λ o. IfSome o (λ cs. is_removed cs ≡ false)) (sym live.0) (live.1.live (subst (λ o. IfSome o (λ cs. is_removed cs ≡ false)) t.is (t.well.among.live t.tag))))
      (λ gone. subst (λ o. IfSome o (λ cs. is_removed cs ≡ false)) (sym gone.0) tt)
      t.whose)
      trims
    where
      trims : (e : Entry) → Contains d.list.entries e → option_and_then start_of (t.chains_now t.tag) ≡ Some e.at → option_and_then left_of (t.chains_now t.tag) ≡ Some Trim
      trims e inside starts = ⊎_elim
          (λ live. ap (option_and_then left_of) live.0 ∙ live.1.trim (ap (option_and_then left_of) (sym t.is) ∙ t.well.among.trimmed e inside t.tag (ap (option_and_then start_of) t.is ∙ sym (ap (option_and_then start_of) live.0) ∙ starts)))
          (λ gone. absurd (none_not e.at (sym (ap (option_and_then start_of) gone.0) ∙ starts)))
          t.whose

  -- ---- with the free space as it is

  still_apart : (home : Home) → 1 ≤ home.vol → ¬ t.goes home → IsHeldApart d.space d.cells home → IsHeldApart space d.cells home
  still_apart home low stays is = record { held = held_still t.comes t.goes d.space space t.spaces home low stays is.held; off_table = is.off_table }

  allocated_now : AreAllocated space d.cells pages
  allocated_now = record {
    belong = t.belong;
    held = λ vol place low within.
        let on = index_in (table_of d.cells vol) place within in
        held_still t.comes t.goes d.space space t.spaces (home_at d.cells vol place) low
        (not_gone d files indexes below pages contents space homes t of_cells (home_at d.cells vol place) (member_of_table d files indexes below pages contents space homes t vol (slice_index (table_of d.cells vol) place) on, on) (λ k e. cc))
        (old_allocated.held vol place low within);
    table = λ vol p low can. old_allocated.table vol p low (can_still t.comes t.goes d.space space t.spaces vol p low can);
    opened = λ vol p low can. old_allocated.opened vol p low (can_still t.comes t.goes d.space space t.spaces vol p low can);
    first = λ vol p low can. old_allocated.first vol p low (can_still t.comes t.goes d.space space t.spaces vol p low can);
    ends = t.ends;
  }

  list_stays : (home : Home) → Contains d.list.tag_pages home → ¬ t.goes home
  list_stays home inside =
      let empty = below.chains.tag_pages home inside in
      not_gone d files indexes below pages contents space homes t (of_tags empty.0) home
      (listed_has (d.tags empty.0) home (subst (λ (hs : List Home). Contains hs home) (sym empty.1.listed) inside)) (λ k e. cc)

  pub well_now : IsWell (now_of d.list files_then space d.cells pages)
  well_now = record {
    together = record {
      allocated = allocated_now;
      each = well_was.together.each;
      apart = well_was.together.apart;
      held = λ a p home there. still_apart home (low_home d.space d.cells pages files_then well_was.together a p home there)
          (not_gone d files indexes below pages contents space homes t (of_file a p) home (sym (same_places d files indexes below pages contents space homes t a p) ∙ there) (λ k e. cc))
          (well_was.together.held a p home there);
      once = well_was.together.once;
      one_deep = well_was.together.one_deep;
    };
    listed = record {
      each = well_was.listed.each;
      once = well_was.listed.once;
      order = well_was.listed.order;
      pages_once = well_was.listed.pages_once;
      pages_low = well_was.listed.pages_low;
      pages_held = λ home inside. still_apart home (well_was.listed.pages_low home inside) (list_stays home inside) (well_was.listed.pages_held home inside);
      pages_apart = well_was.listed.pages_apart;
    };
  }
