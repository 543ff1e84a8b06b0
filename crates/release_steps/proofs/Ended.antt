-- A trim, a clone's reading or a file ends: what is kept, and where pages are read.
use Rattle.std.proofs.Common.{◌≡◌, ◌∙◌, ℕ, ◌<◌, cond, nat_lt, [], ◌∷◌, ◌++◌, Option, Some, None, IsSomeAnd, Contains, refl, sym, ap, subst, arith, ⊎_elim}
use Rattle.std.specs.Option.{option_and_then, option_map_or}
use Rattle.release_list.specs.domain_base.declared.place.CellAt.{CellAt}
use Rattle.release_list.specs.domain_base.declared.version.Version.{Version}
use Rattle.release_list.specs.extent_maps.declared.run.PagePlace.TheVariants.{Absent}
use Rattle.release_list.specs.extent_maps.Runs.{home_at}
use Rattle.release_list.specs.file_chains.Files.{places_of}
use Rattle.release_list.specs.fileset_files.Changes.{with_first}
use Rattle.release_list.specs.file_release.Reading.{own_or}
use Rattle.release_list.specs.declared.list.Entry.{Entry}
use Rattle.release_list.specs.Listed.{left_of, stale_from}
use Rattle.release_list.specs.Listing.{AreInOrder, Listing, clone_but, without, without_clone}
use Rattle.release_list.specs.Standing.{Files, ReadsThrough, Source, place_in, read_at, read_of, source_at, source_of}
use Rattle.release_list.specs.Steps.{EndsFile, EndsReading, EndsTrim, GivesTagPage, Now, file_ends, reading_ends, says_no_source, says_trimmed, tag_page_goes, trim_ends}
use Rattle.release_list.proofs.Lists.{AreEntriesOnce, IsIn, but_other, but_some, earlier, in_without, is_in, not_last, once_front, once_last, once_without, order_front, order_last, order_without, this, without_in}
use Rattle.release_list.proofs.Spread.{none_not, some_same}
use Rattle.release_list.proofs.Standings.{file_other, file_there, place_by, reads_by, same_or_not, source_by}
use Rattle.release_list.proofs.Stepping.{whole_from}
use Rattle.release_steps.specs.Kept.{Stays}
use Rattle.release_steps.proofs.FirstCells.{first_maps, first_other, first_place, first_places, first_there, sourceless_keeps, sourceless_source, trimmed_keeps, trimmed_source}
use Rattle.release_steps.proofs.Fits.{Fits, alone, fits_by, reading_maps, trim_maps}
use Rattle.release_steps.proofs.Narrower.{in_front, in_last, inside_by, narrower_step}
use Rattle.release_steps.proofs.ReadHomes.{none_either, read_beside, read_same, read_there, through}

no_source_there : (files : Files) (a b : CellAt) → source_at files a ≡ None → ¬ ReadsThrough files a b
no_source_there files a b none reads = subst (λ o. IsSomeAnd o (λ (source : Source). source.at ≡ b)) none reads

one_source : (o : Option Source) (b c : CellAt) → IsSomeAnd o (λ source. source.at ≡ b) → IsSomeAnd o (λ source. source.at ≡ c) → b ≡ c
one_source None b c x y = absurd x
one_source (Some s) b c x y = sym x ∙ y

-- ---- a trim is done

module _ (group : ℕ) (version : Version) (old new : Now) (fits : Fits old) (s : EndsTrim old new) where
  pub trim_once : AreEntriesOnce (s.front ++ s.entry ∷ [])
  trim_once = subst AreEntriesOnce s.last fits.once

  pub trim_front : (e : Entry) → Contains new.list.entries e → Contains s.front e
  trim_front e inside = inside_by (record { entries = s.front; tag_pages = old.list.tag_pages }) new.list e s.list inside

  trim_was : (e : Entry) → Contains new.list.entries e → Contains old.list.entries e
  trim_was e inside = in_front old.list s.front s.entry e s.last (trim_front e inside)

  pub trim_there : new.files s.entry.at ≡ Some (with_first says_trimmed s.chain)
  trim_there = first_there says_trimmed trimmed_keeps old new fits s.entry.at s.chain s.is (trim_maps old new fits s) s.files

  pub trim_other : (a : CellAt) → ¬ a ≡ s.entry.at → new.files a ≡ old.files a
  trim_other a not_at = first_other says_trimmed trimmed_keeps old new fits s.entry.at s.chain s.is (trim_maps old new fits s) s.files a not_at

  pub trim_sources : (a : CellAt) → source_at new.files a ≡ source_at old.files a
  trim_sources a = ⊎_elim
      (λ same. ap (option_and_then source_of) (ap new.files same ∙ trim_there) ∙ trimmed_source s.chain ∙ sym (ap (option_and_then source_of) (ap old.files same ∙ s.is)))
      (λ not_at. ap (option_and_then source_of) (trim_other a not_at))
      (same_or_not a s.entry.at)

  pub trim_fits : Fits new
  trim_fits = fits_by group version old new (trim_ends s) fits
      (subst (λ (l : Listing). AreEntriesOnce l.entries) (sym s.list) (once_front s.front s.entry trim_once))
      (subst (λ (l : Listing). AreInOrder l.entries) (sym s.list) (order_front s.front s.entry (subst AreInOrder s.last fits.order)))
      (λ a b reads. reads_by old.files new.files a b (trim_sources a) reads)
      (λ c e inside some reads. reads_by new.files old.files c e.at (sym (trim_sources c)) reads)
      (λ e inside c reads. fits.all e (trim_was e inside) c (reads_by old.files new.files c e.at (trim_sources c) reads))
      (first_maps says_trimmed trimmed_keeps old new fits s.entry.at s.chain s.is (trim_maps old new fits s) s.files)

  pub trim_stays : (a : CellAt) (p : ℕ) → Stays old a p → Stays new a p
  trim_stays a p stays e inside at ds is =
      let apart : ¬ a ≡ s.entry.at = (λ same. not_last s.front s.entry e trim_once (trim_front e inside) (at ∙ same)) in
      stays e (trim_was e inside) at ds (sym (trim_other a apart) ∙ is)

  pub trim_reads : (a : CellAt) (p : ℕ) → read_at new.files a p ≡ read_at old.files a p
  trim_reads a p = ⊎_elim
      (λ same. read_same old.files new.files a p s.chain (with_first says_trimmed s.chain) (ap old.files same ∙ s.is) (ap new.files same ∙ trim_there) (trimmed_source s.chain)
      (first_places says_trimmed trimmed_keeps old new fits s.entry.at s.chain s.is (trim_maps old new fits s) s.files p) (λ x is_x. place x.at))
      (λ not_at. read_beside old.files new.files a p (trim_other a not_at) (λ x is_x. place x.at))
      (same_or_not a s.entry.at)
    where
      place : (b : CellAt) → place_in new.files b p ≡ place_in old.files b p
      place b = first_place says_trimmed trimmed_keeps old new fits s.entry.at s.chain s.is (trim_maps old new fits s) s.files b p

-- ---- a clone reads through its source no more

module _ (group : ℕ) (version : Version) (old new : Now) (fits : Fits old) (s : EndsReading old new) where
  entry_in : Contains old.list.entries s.entry
  entry_in = in_last old.list s.front s.entry s.last

  abbrev sole : Entry
  sole = record s.entry { clone = None }

  reading_once : AreEntriesOnce (s.front ++ s.entry ∷ [])
  reading_once = subst AreEntriesOnce s.last fits.once

  reading_in : (e : Entry) → Contains new.list.entries e → IsIn s.front sole e
  reading_in e inside = is_in s.front sole e (inside_by (record { entries = s.front ++ sole ∷ []; tag_pages = old.list.tag_pages }) new.list e s.list inside)

  pub reading_there : new.files s.clone ≡ Some (with_first says_no_source s.own)
  reading_there = first_there says_no_source sourceless_keeps old new fits s.clone s.own s.own_is (reading_maps old new fits s) s.files

  pub reading_other : (a : CellAt) → ¬ a ≡ s.clone → new.files a ≡ old.files a
  reading_other a not_at = first_other says_no_source sourceless_keeps old new fits s.clone s.own s.own_is (reading_maps old new fits s) s.files a not_at

  clone_source : source_at new.files s.clone ≡ None
  clone_source = ap (option_and_then source_of) reading_there ∙ sourceless_source s.own

  not_the_clone : (c b : CellAt) → ReadsThrough new.files c b → ¬ c ≡ s.clone
  not_the_clone c b reads same = no_source_there new.files s.clone b clone_source (subst (λ (q : CellAt). ReadsThrough new.files q b) same reads)

  other_source : (a : CellAt) → ¬ a ≡ s.clone → source_at new.files a ≡ source_at old.files a
  other_source a not_at = ap (option_and_then source_of) (reading_other a not_at)

  pub reading_back : (a b : CellAt) → ReadsThrough new.files a b → ReadsThrough old.files a b
  reading_back a b reads = reads_by old.files new.files a b (other_source a (not_the_clone a b reads)) reads

  clone_reads_entry : ReadsThrough old.files s.clone s.entry.at
  clone_reads_entry = fits.given s.entry entry_in s.clone s.given

  reading_on : (c : CellAt) (e : Entry) → Contains new.list.entries e → e.clone ≡ Some c → ReadsThrough old.files c e.at → ReadsThrough new.files c e.at
  reading_on c e inside some reads = ⊎_elim
      (λ same. absurd (by_place (one_source (source_at old.files s.clone) e.at s.entry.at (subst (λ (q : CellAt). ReadsThrough old.files q e.at) same reads) clone_reads_entry) (reading_in e inside)))
      (λ not_at. reads_by new.files old.files c e.at (sym (other_source c not_at)) reads)
      (same_or_not c s.clone)
    where
      by_place : e.at ≡ s.entry.at → IsIn s.front sole e → ⊥
      by_place at (earlier is) = not_last s.front s.entry e reading_once is at
      by_place at (this same) = none_not c (sym (ap (λ (x : Entry). x.clone) same) ∙ some)

  reading_all : (e : Entry) → Contains new.list.entries e → (c : CellAt) → ReadsThrough new.files c e.at → e.clone ≡ Some c
  reading_all e inside c reads = by_place (reading_in e inside)
    where
      by_place : IsIn s.front sole e → e.clone ≡ Some c
      by_place (earlier is) = fits.all e (in_front old.list s.front s.entry e s.last is) c (reading_back c e.at reads)
      by_place (this same) =
          let was : ReadsThrough old.files c s.entry.at = subst (ReadsThrough old.files c) (ap (λ (x : Entry). x.at) same) (reading_back c e.at reads) in
          absurd (not_the_clone c e.at reads (some_same c s.clone (sym (fits.all s.entry entry_in c was) ∙ s.given)))

  pub reading_fits : Fits new
  reading_fits = fits_by group version old new (reading_ends s) fits
      (subst (λ (l : Listing). AreEntriesOnce l.entries) (sym s.list) (once_last s.front s.entry sole refl reading_once))
      (subst (λ (l : Listing). AreInOrder l.entries) (sym s.list) (order_last s.front s.entry sole refl refl (subst AreInOrder s.last fits.order)))
      reading_back reading_on reading_all
      (first_maps says_no_source sourceless_keeps old new fits s.clone s.own s.own_is (reading_maps old new fits s) s.files)

  pub reading_stays : (a : CellAt) (p : ℕ) → Stays old a p → Stays new a p
  reading_stays a p stays e inside at ds is =
      let n = narrower_step group version old new (reading_ends s) e inside in
      let apart : ¬ a ≡ s.clone = (λ same. alone old fits s.front s.entry s.last n.was n.inside (s.given ∙ ap Some (sym same ∙ sym at ∙ sym n.at))) in
      stays n.was n.inside (n.at ∙ at) ds (sym (reading_other a apart) ∙ is)

  pub reading_place : (b : CellAt) (p : ℕ) → place_in new.files b p ≡ place_in old.files b p
  reading_place b p = first_place says_no_source sourceless_keeps old new fits s.clone s.own s.own_is (reading_maps old new fits s) s.files b p

  clone_read : (p : ℕ) (o : Option Source) → source_of s.own ≡ o → read_at new.files s.clone p ≡ read_at old.files s.clone p
  clone_read p None is = absurd (no_source_there old.files s.clone s.entry.at (source_by old.files s.clone s.own s.own_is ∙ is) clone_reads_entry)
  clone_read p (Some src) is =
      let at : src.at ≡ s.entry.at = subst (λ o. IsSomeAnd o (λ (x : Source). x.at ≡ s.entry.at)) (source_by old.files s.clone s.own s.own_is ∙ is) clone_reads_entry in
      let absent : place_in old.files src.at p ≡ Absent = ap (λ (b : CellAt). place_in old.files b p) at ∙ place_by old.files s.entry.at s.chain p s.is ∙ s.done.absent p (omega arith) in
      read_there new.files s.clone p (with_first says_no_source s.own) reading_there
      ∙ ap (λ o. read_of new.files o (with_first says_no_source s.own) p) (sourceless_source s.own)
      ∙ ap (own_or (places_of (with_first says_no_source s.own) p)) (none_either (nat_lt p 0) None)
      ∙ ap (λ q. own_or q None) (first_places says_no_source sourceless_keeps old new fits s.clone s.own s.own_is (reading_maps old new fits s) s.files p)
      ∙ sym (ap (own_or (places_of s.own p)) (ap (λ q. cond (nat_lt p src.frozen) (home_at q) None) absent ∙ none_either (nat_lt p src.frozen) None))
      ∙ sym (ap (λ o. read_of old.files o s.own p) is)
      ∙ sym (read_there old.files s.clone p s.own s.own_is)

  pub reading_reads : (a : CellAt) (p : ℕ) → read_at new.files a p ≡ read_at old.files a p
  reading_reads a p = ⊎_elim
      (λ same. ap (λ (b : CellAt). read_at new.files b p) same ∙ clone_read p (source_of s.own) refl ∙ sym (ap (λ (b : CellAt). read_at old.files b p) same))
      (λ not_at. read_beside old.files new.files a p (reading_other a not_at) (λ x is_x. reading_place x.at p))
      (same_or_not a s.clone)

-- ---- a file's last cell goes

module _ (group : ℕ) (version : Version) (old new : Now) (fits : Fits old) (s : EndsFile old new) where
  file_in : Contains old.list.entries s.entry
  file_in = in_last old.list s.front s.entry s.last

  pub file_once : AreEntriesOnce (s.front ++ s.entry ∷ [])
  file_once = subst AreEntriesOnce s.last fits.once

  -- an entry was there, but for its clone
  pub file_was : (e : Entry) → Contains new.list.entries e → (was : Entry) × Contains s.front was × (e ≡ without s.entry.at was)
  file_was e inside = in_without s.entry.at s.front e (inside_by (record { entries = without_clone s.entry.at s.front; tag_pages = old.list.tag_pages }) new.list e s.list inside)

  pub file_now : (e : Entry) → Contains s.front e → Contains new.list.entries (without s.entry.at e)
  file_now e inside = inside_by new.list (record { entries = without_clone s.entry.at s.front; tag_pages = old.list.tag_pages }) (without s.entry.at e) (sym s.list) (without_in s.entry.at s.front e inside)

  -- none gives the file as its clone's
  pub file_forgotten : (e : Entry) → Contains new.list.entries e → ¬ e.clone ≡ Some s.entry.at
  file_forgotten e inside some =
      let w = file_was e inside in
      (but_some s.entry.at s.entry.at w.0.clone (sym (ap (λ (x : Entry). x.clone) w.2) ∙ some)).1 refl

  pub file_gone : new.files s.entry.at ≡ None
  file_gone = ap (λ (f : Files). f s.entry.at) s.files ∙ file_there s.entry.at None old.files

  pub ended_other : (a : CellAt) → ¬ a ≡ s.entry.at → new.files a ≡ old.files a
  ended_other a not_at = ap (λ (f : Files). f a) s.files ∙ file_other s.entry.at None old.files a not_at

  not_the_file : (c b : CellAt) → ReadsThrough new.files c b → ¬ c ≡ s.entry.at
  not_the_file c b reads same = no_source_there new.files s.entry.at b (ap (option_and_then source_of) file_gone) (subst (λ (q : CellAt). ReadsThrough new.files q b) same reads)

  pub ended_back : (a b : CellAt) → ReadsThrough new.files a b → ReadsThrough old.files a b
  ended_back a b reads = reads_by old.files new.files a b (ap (option_and_then source_of) (ended_other a (not_the_file a b reads))) reads

  ended_all : (e : Entry) → Contains new.list.entries e → (c : CellAt) → ReadsThrough new.files c e.at → e.clone ≡ Some c
  ended_all e inside c reads =
      let w = file_was e inside in
      let was : ReadsThrough old.files c w.0.at = subst (ReadsThrough old.files c) (ap (λ (x : Entry). x.at) w.2) (ended_back c e.at reads) in
      ap (λ (x : Entry). x.clone) w.2 ∙ ap (clone_but s.entry.at) (fits.all w.0 (in_front old.list s.front s.entry w.0 s.last w.1) c was) ∙ but_other s.entry.at c (not_the_file c e.at reads)

  pub ended_fits : Fits new
  ended_fits = fits_by group version old new (file_ends s) fits
      (subst (λ (l : Listing). AreEntriesOnce l.entries) (sym s.list) (once_without s.entry.at s.front (once_front s.front s.entry file_once)))
      (subst (λ (l : Listing). AreInOrder l.entries) (sym s.list) (order_without s.entry.at s.front (order_front s.front s.entry (subst AreInOrder s.last fits.order))))
      ended_back
      (λ c e inside some reads. reads_by new.files old.files c e.at
      (sym (ap (option_and_then source_of) (ended_other c (λ same. file_forgotten e inside (some ∙ ap Some same))))) reads)
      ended_all
      (λ a first rest is. fits.maps a first rest (sym (ended_other a (λ same. none_not (first ∷ rest) (sym file_gone ∙ sym (ap new.files same) ∙ is))) ∙ is))

  pub ended_stays : (a : CellAt) (p : ℕ) → Stays old a p → Stays new a p
  ended_stays a p stays e inside at ds is =
      let w = file_was e inside in
      let was_at : w.0.at ≡ a = sym (ap (λ (x : Entry). x.at) w.2) ∙ at in
      let apart : ¬ a ≡ s.entry.at = (λ same. not_last s.front s.entry w.0 file_once w.1 (was_at ∙ same)) in
      (stays w.0 (in_front old.list s.front s.entry w.0 s.last w.1) was_at ds (sym (ended_other a apart) ∙ is))

  pub ended_reads : (a : CellAt) (p : ℕ) → Stays old a p → read_at new.files a p ≡ read_at old.files a p
  ended_reads a p stays = ⊎_elim
      (λ same.
      let less : p < stale_from s.chain = stays s.entry file_in (sym same) s.chain (ap old.files same ∙ s.is) in
      let none : stale_from s.chain ≡ 0 = whole_from (left_of s.chain) s.chain s.whole in
      absurd (omega (arith, less, none)))
      (λ not_at. read_beside old.files new.files a p (ended_other a not_at) (λ x is_x.
      ap (λ o. option_map_or (λ cs. places_of cs p) o Absent) (ended_other x.at (λ it.
      none_not a (sym s.alone ∙ fits.all s.entry file_in a (subst (ReadsThrough old.files a) it (through old.files a x is_x)))))))
      (same_or_not a s.entry.at)

-- ---- a page of a tag directory goes

module _ (group : ℕ) (version : Version) (old new : Now) (fits : Fits old) (s : GivesTagPage group old new) where
  abbrev as_listed : Listing
  as_listed = record { entries = old.list.entries; tag_pages = s.takes.front }

  tag_was : (e : Entry) → Contains new.list.entries e → Contains old.list.entries e
  tag_was e inside = inside_by as_listed new.list e s.takes.is inside

  pub same_file : (a : CellAt) → new.files a ≡ old.files a
  same_file a = ap (λ (f : Files). f a) s.same_files

  pub tag_sources : (a : CellAt) → source_at new.files a ≡ source_at old.files a
  tag_sources a = ap (option_and_then source_of) (same_file a)

  pub tag_fits : Fits new
  tag_fits = fits_by group version old new (tag_page_goes s) fits
      (subst (λ (l : Listing). AreEntriesOnce l.entries) (sym s.takes.is) fits.once)
      (subst (λ (l : Listing). AreInOrder l.entries) (sym s.takes.is) fits.order)
      (λ a b reads. reads_by old.files new.files a b (tag_sources a) reads)
      (λ c e inside some reads. reads_by new.files old.files c e.at (sym (tag_sources c)) reads)
      (λ e inside c reads. fits.all e (tag_was e inside) c (reads_by old.files new.files c e.at (tag_sources c) reads))
      (λ a first rest is. fits.maps a first rest (sym (same_file a) ∙ is))

  pub tag_stays : (a : CellAt) (p : ℕ) → Stays old a p → Stays new a p
  tag_stays a p stays e inside at ds is = stays e (tag_was e inside) at ds (sym (same_file a) ∙ is)

  pub tag_reads : (a : CellAt) (p : ℕ) → read_at new.files a p ≡ read_at old.files a p
  tag_reads a p = ap (λ (f : Files). read_at f a p) s.same_files
