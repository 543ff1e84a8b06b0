-- A list and files that belong together, once the last of an entry is done.
use Rattle.std.proofs.Common.{◌≡◌, ◌∙◌, ℕ, List, [], ◌∷◌, ◌++◌, Option, Some, None, IsSome, IsSomeAnd, is_some, Contains, refl, sym, ap, subst, arith, ⊎_elim}
use Rattle.std.specs.Option.{option_and_then, option_map}
use Rattle.file_release.specs.domain_base.declared.place.CellAt.{CellAt}
use Rattle.file_release.specs.domain_base.declared.place.Home.{Home}
use Rattle.file_release.specs.page_store.Pages.{Pages}
use Rattle.file_release.specs.cell_records.declared.record.Record.{Record}
use Rattle.file_release.specs.cell_records.declared.record.Record.TheVariants as written
use Rattle.file_release.specs.metadata_cells.Cell.{record_of}
use Rattle.file_release.specs.metadata_cells.CellPage.{KeepsHeaders, KeepsWellFormed}
use Rattle.file_release.specs.metadata_cells.Chain.{LeavesOthers, PlacedCell, StandsAt, is_at}
use Rattle.file_release.specs.extent_maps.declared.run.PagePlace.TheVariants.{At}
use Rattle.file_release.specs.free_cells.Cells.{Cells, FreesCell}
use Rattle.file_release.specs.free_space.Spaces.{Spaces}
use Rattle.file_release.specs.file_chains.Allocated.{AreAllocated}
use Rattle.file_release.specs.file_chains.Files.{AreFile, IsFile, map_records}
use Rattle.file_release.proofs.OfFileChains.ChainChanges.{in_first}
use Rattle.file_release.proofs.OfFileChains.MapRecords.{value_has_rows}
use Rattle.file_release.specs.fileset_files.Together.{IsHeldApart}
use Rattle.file_release.proofs.OfFilesetFiles.Grown.{on_grown}
use Rattle.release_list.specs.declared.list.Entry.{Entry}
use Rattle.release_list.specs.Listed.{IsEntry, IsListed, SaysWhatGoes, record_at}
use Rattle.release_list.specs.Listing.{clone_but, without, without_clone}
use Rattle.release_list.specs.Standing.{Files, ReadsThrough, Source, StandTogether, place_in, source_at, source_in, source_of, with_file}
use Rattle.release_list.specs.Steps.{says_no_source, says_trimmed, without_source}
use Rattle.file_release.specs.fileset_files.Files.{first_record}
use Rattle.release_list.proofs.Changed.{first_place, first_together}
use Rattle.release_list.proofs.Firsts.{says_by, says_same}
use Rattle.release_list.proofs.Lists.{IsIn, but_other, but_some, earlier, in_start, in_without, is_in, last_in, not_last, once_front, once_last, once_without, order_front, order_last, order_without, this}
use Rattle.release_list.proofs.Records.{sourceless_maps, sourceless_other, sourceless_there, trimmed_attributes, trimmed_maps, trimmed_other}
use Rattle.release_list.proofs.Spread.{none_not, some_same}
use Rattle.release_list.proofs.Standings.{AreNarrower, apart_by, chain_beside, file_other, file_there, linked_at, narrower_together, reads_by, same_or_not, source_by, standing, was_there}

-- ---- the list without its last entry

-- each earlier entry's file is as it was, and what reads through it
module _ (space : Spaces) (cells cells_now : Cells) (files now : Files) (front : List Entry) (entry : Entry) (pages : List Home)
    (listed : IsListed space cells files (record { entries = front ++ entry ∷ []; tag_pages = pages }))
    (same : (a : CellAt) → ¬ a ≡ entry.at → is_some (now a) ≡ is_some (files a)) (says : (a : CellAt) → ¬ a ≡ entry.at → SaysWhatGoes files a → SaysWhatGoes now a)
    (reads : (a b : CellAt) → ¬ b ≡ entry.at → ReadsThrough now a b → ReadsThrough files a b) (still : (a b : CellAt) → ¬ b ≡ entry.at → (e : Entry) → Contains front e → e.at ≡ b → ReadsThrough files a b → ReadsThrough now a b)
    (places : (a : CellAt) (p : ℕ) (home : Home) → place_in now a p ≡ At home → place_in files a p ≡ At home) (held : (home : Home) → IsHeldApart space cells home → IsHeldApart space cells_now home) where
  earlier_entry : (e : Entry) → Contains front e → IsEntry now e
  earlier_entry e inside =
      let not_at = not_last front entry e listed.once inside in
      let was = listed.each e (in_start front (entry ∷ []) e inside) in
      record {
        there = same e.at not_at ∙ was.there;
        says = says e.at not_at was.says;
        given = λ c some. still c e.at not_at e inside refl (was.given c some);
        all = λ c is. was.all c (reads c e.at not_at is);
      }

  pub listed_front : IsListed space cells_now now (record { entries = front; tag_pages = pages })
  listed_front = record {
    each = earlier_entry;
    once = once_front front entry listed.once;
    order = order_front front entry listed.order;
    pages_once = listed.pages_once;
    pages_low = listed.pages_low;
    pages_held = λ home inside. held home (listed.pages_held home inside);
    pages_apart = λ home inside a p there. listed.pages_apart home inside a p (places a p home there);
  }

  -- or with another in place of it
  pub listed_last : (other : Entry) → other.at ≡ entry.at → other.clone ≡ None → IsEntry now other → IsListed space cells_now now (record { entries = front ++ other ∷ []; tag_pages = pages })
  listed_last other same_at no_clone is_entry = record {
    each = λ e inside. by_place e (is_in front other e inside);
    once = once_last front entry other same_at listed.once;
    order = order_last front entry other same_at no_clone listed.order;
    pages_once = listed.pages_once;
    pages_low = listed.pages_low;
    pages_held = λ home inside. held home (listed.pages_held home inside);
    pages_apart = λ home inside a p there. listed.pages_apart home inside a p (places a p home there);
  }
    where
      by_place : (e : Entry) → IsIn front other e → IsEntry now e
      by_place e (earlier inside) = earlier_entry e inside
      by_place e (this it) = subst (IsEntry now) (sym it) is_entry

-- ---- a trim is done

module _ (space : Spaces) (cells : Cells) (old new : Pages) (files : Files) (together : StandTogether space cells old files) (front : List Entry) (entry : Entry) (pages : List Home) (first : PlacedCell) (rest : List PlacedCell) (is : files entry.at ≡ Some (first ∷ rest)) (file : IsFile old entry.at (first ∷ rest))
    (leaves : LeavesOthers (is_at entry.at) old new) (stands : StandsAt new entry.at (says_trimmed first.cell)) (good : KeepsWellFormed old new) (headers : KeepsHeaders old new) where
  abbrev trimmed : List PlacedCell
  trimmed = record { at = first.at; cell = says_trimmed first.cell } ∷ rest

  abbrev trimmed_now : Files
  trimmed_now = with_file entry.at (Some trimmed) files

  trim_maps : (are : AreFile old first rest) → map_records (says_trimmed first.cell).records ≡ are.value ∷ []
  trim_maps are = trimmed_maps first.cell are.value are.map.only (value_has_rows are.value are.map.is_map)

  trim_attributes : IsSome (record_of 1 (says_trimmed first.cell).records)
  trim_attributes = trimmed_attributes first.cell file.1.attributes

  trim_sources : (a : CellAt) → source_at trimmed_now a ≡ source_at files a
  trim_sources a = ⊎_elim
      (λ same.
      ap (option_and_then source_of) (ap trimmed_now same ∙ file_there entry.at (Some trimmed) files)
      ∙ ap (option_and_then source_in) (trimmed_other first.cell 2 (λ e. omega (arith, e)) (λ e. omega (arith, e)))
      ∙ sym (ap (option_and_then source_of) (ap files same ∙ is)))
      (λ not_at. ap (option_and_then source_of) (file_other entry.at (Some trimmed) files a not_at))
      (same_or_not a entry.at)

  pub trim_together : StandTogether space cells new trimmed_now
  trim_together = first_together space cells old new files together entry.at first rest is file says_trimmed leaves stands good headers refl trim_maps trim_attributes (λ a b x. reads_by files trimmed_now a b (trim_sources a) x)

  pub trim_listed : IsListed space cells files (record { entries = front ++ entry ∷ []; tag_pages = pages }) → IsListed space cells trimmed_now (record { entries = front; tag_pages = pages })
  trim_listed listed = listed_front space cells cells files trimmed_now front entry pages listed
      (λ a not_at. ap is_some (file_other entry.at (Some trimmed) files a not_at))
      (λ a not_at. says_same files trimmed_now a (file_other entry.at (Some trimmed) files a not_at))
      (λ a b not_at x. reads_by files trimmed_now a b (trim_sources a) x)
      (λ a b not_at e inside same x. reads_by trimmed_now files a b (sym (trim_sources a)) x)
      (λ a p home there. sym (first_place space cells old new files together entry.at first rest is file says_trimmed leaves stands good headers refl trim_maps trim_attributes a p) ∙ there)
      (λ home held. held)

-- ---- a clone reads through its source no more

no_source : (r : Record) → source_in (without_source r) ≡ None
no_source (written.Attributes kind uid gid flags size keep links birth unsynced) = refl
no_source (written.CloneFile vol cell page frozen) = refl
no_source (written.Extents rows) = refl
no_source (written.ShortExtents rows) = refl
no_source (written.Holes rows) = refl
no_source (written.Pending what) = refl
no_source (written.UserQuota id files blocks) = refl
no_source (written.GroupQuota id files blocks) = refl
no_source (written.DirIndex vol page entries) = refl
no_source (written.Parent slot seq) = refl
no_source (written.Stripe width mark vols) = refl
no_source (written.Volume vol pages bitmap_pages) = refl
no_source (written.DenseExtents rows) = refl
no_source (written.ShortDense rows) = refl

no_source_in : (o : Option Record) → option_and_then source_in (option_map without_source o) ≡ None
no_source_in None = refl
no_source_in (Some r) = no_source r

one_source : (o : Option Source) (b c : CellAt) → IsSomeAnd o (λ source. source.at ≡ b) → IsSomeAnd o (λ source. source.at ≡ c) → b ≡ c
one_source None b c x y = absurd x
one_source (Some s) b c x y = sym x ∙ y

module _ (space : Spaces) (cells : Cells) (old new : Pages) (files : Files) (together : StandTogether space cells old files) (front : List Entry) (entry : Entry) (pages : List Home)
    (listed : IsListed space cells files (record { entries = front ++ entry ∷ []; tag_pages = pages })) (clone : CellAt) (given : entry.clone ≡ Some clone) (first : PlacedCell) (rest : List PlacedCell) (is : files clone ≡ Some (first ∷ rest)) (file : IsFile old clone (first ∷ rest))
    (leaves : LeavesOthers (is_at clone) old new) (stands : StandsAt new clone (says_no_source first.cell)) (good : KeepsWellFormed old new) (headers : KeepsHeaders old new) where
  abbrev alone : List PlacedCell
  alone = record { at = first.at; cell = says_no_source first.cell } ∷ rest

  abbrev alone_now : Files
  alone_now = with_file clone (Some alone) files

  is_last : IsEntry files entry
  is_last = listed.each entry (last_in front entry)

  apart : ¬ entry.at ≡ clone
  apart same = let reads = is_last.given clone given in together.one_deep clone entry.at entry.at reads (subst (λ (a : CellAt). ReadsThrough files a entry.at) (sym same) reads)

  alone_maps : (are : AreFile old first rest) → map_records (says_no_source first.cell).records ≡ are.value ∷ []
  alone_maps are = sourceless_maps first.cell are.value are.map.only (value_has_rows are.value are.map.is_map)

  alone_attributes : IsSome (record_of 1 (says_no_source first.cell).records)
  alone_attributes = subst IsSome (sym (sourceless_other first.cell 1 (λ e. omega (arith, e)))) file.1.attributes

  clone_source : source_at alone_now clone ≡ None
  clone_source = source_by alone_now clone alone (file_there clone (Some alone) files) ∙ ap (option_and_then source_in) (sourceless_there first.cell) ∙ no_source_in (record_of 2 first.cell.records)

  other_source : (a : CellAt) → ¬ a ≡ clone → source_at alone_now a ≡ source_at files a
  other_source a not_at = ap (option_and_then source_of) (file_other clone (Some alone) files a not_at)

  none_reads : (b : CellAt) → ReadsThrough alone_now clone b → ⊥
  none_reads b reads = subst (λ o. IsSomeAnd o (λ (source : Source). source.at ≡ b)) clone_source reads

  alone_reads : (a b : CellAt) → ReadsThrough alone_now a b → ReadsThrough files a b
  alone_reads a b reads = ⊎_elim
      (λ same. absurd (none_reads b (subst (λ (q : CellAt). ReadsThrough alone_now q b) same reads)))
      (λ not_at. reads_by files alone_now a b (other_source a not_at) reads)
      (same_or_not a clone)

  pub alone_together : StandTogether space cells new alone_now
  alone_together = first_together space cells old new files together clone first rest is file says_no_source leaves stands good headers refl alone_maps alone_attributes alone_reads

  alone_there : (a : CellAt) → is_some (alone_now a) ≡ is_some (files a)
  alone_there a = ⊎_elim
      (λ same. ap is_some (ap alone_now same ∙ file_there clone (Some alone) files) ∙ sym (ap is_some (ap files same ∙ is)))
      (λ not_at. ap is_some (file_other clone (Some alone) files a not_at))
      (same_or_not a clone)

  alone_first : (k : ℕ) → ¬ k ≡ 2 → (a : CellAt) → record_at alone_now k a ≡ record_at files k a
  alone_first k two a = ⊎_elim
      (λ same.
      ap (option_and_then (first_record k)) (ap alone_now same ∙ file_there clone (Some alone) files) ∙ sourceless_other first.cell k two
      ∙ sym (ap (option_and_then (first_record k)) (ap files same ∙ is)))
      (λ not_at. ap (option_and_then (first_record k)) (file_other clone (Some alone) files a not_at))
      (same_or_not a clone)

  alone_says : (a : CellAt) → SaysWhatGoes files a → SaysWhatGoes alone_now a
  alone_says a says = says_by files alone_now a (alone_first 6 (λ e. omega (arith, e)) a) (alone_first 1 (λ e. omega (arith, e)) a) says

  pub alone_listed : IsListed space cells alone_now (record { entries = front ++ record entry { clone = None } ∷ []; tag_pages = pages })
  alone_listed = listed_last space cells cells files alone_now front entry pages listed
      (λ a not_at. alone_there a)
      (λ a not_at. alone_says a)
      (λ a b not_at x. alone_reads a b x)
      (λ a b not_at e inside same x. ⊎_elim
      (λ is_clone. absurd (not_at (one_source (source_at files a) b entry.at x (subst (λ (q : CellAt). ReadsThrough files q entry.at) (sym is_clone) (is_last.given clone given)))))
      (λ not_it. reads_by alone_now files a b (sym (other_source a not_it)) x)
      (same_or_not a clone))
      (λ a p home there. sym (first_place space cells old new files together clone first rest is file says_no_source leaves stands good headers refl alone_maps alone_attributes a p) ∙ there)
      (λ home held. held)
      (record entry { clone = None }) refl refl
      (record {
        there = alone_there entry.at ∙ is_last.there;
        says = alone_says entry.at is_last.says;
        given = λ c some. absurd (none_not c some);
        all = λ c reads. absurd (none_reads entry.at (subst (λ (q : CellAt). ReadsThrough alone_now q entry.at) (some_same c clone (sym (is_last.all c (alone_reads c entry.at reads)) ∙ given)) reads));
      })

-- ---- a file's last cell goes

module _ (space : Spaces) (cells cells_now : Cells) (old new : Pages) (files : Files) (together : StandTogether space cells old files) (front : List Entry) (entry : Entry) (pages : List Home)
    (listed : IsListed space cells files (record { entries = front ++ entry ∷ []; tag_pages = pages })) (first : PlacedCell) (rest : List PlacedCell) (is : files entry.at ≡ Some (first ∷ rest))
    (leaves : LeavesOthers (is_at entry.at) old new) (frees : FreesCell entry.at cells cells_now) (allocated : AreAllocated space cells_now new) where
  abbrev gone_now : Files
  gone_now = with_file entry.at None files

  gone_other : (a : CellAt) → ¬ a ≡ entry.at → gone_now a ≡ files a
  gone_other a not_at = file_other entry.at None files a not_at

  not_there : (a : CellAt) (cs : List PlacedCell) → gone_now a ≡ Some cs → ¬ a ≡ entry.at
  not_there a cs is_a same = none_not cs (sym (file_there entry.at None files) ∙ sym (ap gone_now same) ∙ is_a)

  gone_reads : (a b : CellAt) → ReadsThrough gone_now a b → ReadsThrough files a b
  gone_reads a b reads = ⊎_elim
      (λ same. absurd (subst (λ o. IsSomeAnd o (λ (source : Source). source.at ≡ b)) (ap (option_and_then source_of) (ap gone_now same ∙ file_there entry.at None files)) reads))
      (λ not_at. reads_by files gone_now a b (ap (option_and_then source_of) (gone_other a not_at)) reads)
      (same_or_not a entry.at)

  narrower : AreNarrower files gone_now
  narrower = record {
    was = λ a cs is_a. (cs, sym (gone_other a (not_there a cs is_a)) ∙ is_a, (λ q inside. inside), λ p. refl);
    reads = gone_reads;
  }

  still_held : (home : Home) → IsHeldApart space cells home → IsHeldApart space cells_now home
  still_held home held = record { held = held.held; off_table = λ on. held.off_table (subst (λ (t : List ℕ). Contains t home.page) (frees.tables home.vol) on) }

  pub gone_together : StandTogether space cells_now new gone_now
  gone_together = narrower_together files gone_now narrower space space cells cells_now old new together allocated
      (λ a cs is_a.
      let not_at = not_there a cs is_a in
      let is_was = sym (gone_other a not_at) ∙ is_a in
      let was = standing space cells old files together a cs is_was in
      record {
        stands = chain_beside old new entry.at a cs leaves (λ inside. apart_by space cells old files together entry.at a (first ∷ rest) cs is is_was (λ same. not_at (sym same)) entry.at (in_first entry.at first rest (linked_at old entry.at first rest (standing space cells old files together entry.at (first ∷ rest) is).stands).0) inside) was.stands;
        on_tables = on_grown cells cells_now (λ vol p on. subst (λ (t : List ℕ). Contains t p) (sym (frees.tables vol)) on) cs was.on_tables;
      })
      (λ a p home was held. still_held home held)

  -- what an earlier entry's clone reads through, it does so still, unless it is the file that is gone
  still_reads : (c b : CellAt) → ¬ c ≡ entry.at → ReadsThrough files c b → ReadsThrough gone_now c b
  still_reads c b not_it reads = reads_by gone_now files c b (sym (ap (option_and_then source_of) (gone_other c not_it))) reads

  not_gone : (c b : CellAt) → ReadsThrough gone_now c b → ¬ c ≡ entry.at
  not_gone c b reads same = subst (λ o. IsSomeAnd o (λ (source : Source). source.at ≡ b)) (ap (option_and_then source_of) (ap gone_now same ∙ file_there entry.at None files)) reads

  entry_without : (was : Entry) → Contains front was → IsEntry gone_now (without entry.at was)
  entry_without was inside =
      let is = listed.each was (in_start front (entry ∷ []) was inside) in
      record {
        there = ap is_some (gone_other was.at (not_last front entry was listed.once inside)) ∙ is.there;
        says = says_same files gone_now was.at (gone_other was.at (not_last front entry was listed.once inside)) is.says;
        given = λ c some. let o = but_some entry.at c was.clone some in still_reads c was.at o.1 (is.given c o.0);
        all = λ c reads. ap (clone_but entry.at) (is.all c (gone_reads c was.at reads)) ∙ but_other entry.at c (not_gone c was.at reads);
      }

  pub gone_listed : IsListed space cells_now gone_now (record { entries = without_clone entry.at front; tag_pages = pages })
  gone_listed = record {
    each = λ e inside. let w = in_without entry.at front e inside in subst (IsEntry gone_now) (sym w.2) (entry_without w.0 w.1);
    once = once_without entry.at front (once_front front entry listed.once);
    order = order_without entry.at front (order_front front entry listed.order);
    pages_once = listed.pages_once;
    pages_low = listed.pages_low;
    pages_held = λ home inside. still_held home (listed.pages_held home inside);
    pages_apart = λ home inside a p there. listed.pages_apart home inside a p (was_there files gone_now narrower a p home there);
  }
