-- Pages of the last entry's file go: what is kept, and where pages are read.
use Rattle.std.proofs.Common.{◌≡◌, ◌∙◌, ◌⊎◌, inl, ℕ, ◌<◌, false, nat_le, cond, nat_lt, List, ◌∷◌, Option, Some, None, IsSomeAnd, Contains, refl, sym, ap, subst, ⊎_elim}
use Rattle.std.specs.Option.{option_and_then, option_map_or}
use Rattle.release_list.specs.domain_base.declared.place.CellAt.{CellAt}
use Rattle.release_list.specs.domain_base.declared.version.Version.{Version}
use Rattle.release_list.specs.metadata_cells.Chain.{PlacedCell}
use Rattle.release_list.specs.extent_maps.declared.run.PagePlace.TheVariants.{Absent}
use Rattle.release_list.specs.extent_maps.Runs.{home_at}
use Rattle.release_list.specs.extent_records.Writing.{most_rows}
use Rattle.release_list.specs.file_chains.Files.{IsFile, places_of}
use Rattle.release_list.specs.fileset_files.Files.{first_record}
use Rattle.release_list.specs.file_release.Reading.{own_or, read_home}
use Rattle.release_list.specs.file_release.Sharing.{IsReader, frozen_of}
use Rattle.release_list.specs.declared.list.Entry.{Entry}
use Rattle.release_list.specs.Listed.{left_of, stale_from}
use Rattle.release_list.specs.Listing.{AreInOrder, Listing}
use Rattle.release_list.specs.Standing.{Files, IsQuotaCell, ReadsThrough, Source, place_in, read_at, read_of, source_at, source_in, source_of, with_file}
use Rattle.release_list.specs.Steps.{LetsPages, Now, pages_go, with_clone}
use Rattle.release_list.proofs.Firsts.{first_same, then_then}
use Rattle.release_list.proofs.Lists.{AreEntriesOnce}
use Rattle.release_list.proofs.Spread.{Reads, Which, has_reader, none_not, other, reading, some_same, source, which}
use Rattle.release_list.proofs.Standings.{file_other, file_there, place_by, reads_by, source_by}
use Rattle.release_steps.specs.Kept.{Stays}
use Rattle.release_steps.proofs.Fits.{Fits, HasOneMap, alone, fits_by, map_in}
use Rattle.release_steps.proofs.Narrower.{in_last, inside_by}
use Rattle.release_steps.proofs.Others.{clone_other}
use Rattle.release_steps.proofs.ReadHomes.{left_same, read_beside, read_same, read_there, stale_same, through}

clone_there : (clone : Option CellAt) (own : List PlacedCell) (files : Files) (a : CellAt) → clone ≡ Some a → with_clone clone own files a ≡ Some own
clone_there None own files a some = absurd (none_not a some)
clone_there (Some c) own files a some = ap (with_file c (Some own) files) (sym (some_same c a some)) ∙ file_there c (Some own) files

module _ (group : ℕ) (version : Version) (old new : Now) (fits : Fits old) (s : LetsPages group version old new) where
  entry_in : Contains old.list.entries s.entry
  entry_in = in_last old.list s.front s.entry s.last

  was_in : (e : Entry) → Contains new.list.entries e → Contains old.list.entries e
  was_in e inside = inside_by old.list new.list e s.same_list inside

  not_clone : ¬ s.entry.clone ≡ Some s.entry.at
  not_clone some = alone old fits s.front s.entry s.last s.entry entry_in some

  reads_at : (a : CellAt) → s.entry.clone ≡ Some a → (q : Reads old.files s.entry.clone s.reader s.own) × (q.clone ≡ a)
  reads_at a some = ⊎_elim
      (λ none. absurd (none_not a (sym none.0 ∙ some)))
      (λ q. (q, some_same q.clone a (sym q.is_clone ∙ some)))
      (has_reader old.files s.entry.clone s.reader s.own s.given)

  pub at_source : new.files s.entry.at ≡ Some s.releases.after
  at_source = ap (λ (f : Files). f s.entry.at) s.files ∙ file_there s.entry.at (Some s.releases.after) (with_clone s.entry.clone s.releases.own_now old.files)

  beside : (a : CellAt) → ¬ a ≡ s.entry.at → new.files a ≡ with_clone s.entry.clone s.releases.own_now old.files a
  beside a not_at = ap (λ (f : Files). f a) s.files ∙ file_other s.entry.at (Some s.releases.after) (with_clone s.entry.clone s.releases.own_now old.files) a not_at

  pub clone_now : (a : CellAt) → s.entry.clone ≡ Some a → new.files a ≡ Some s.releases.own_now
  clone_now a some = beside a (λ same. not_clone (some ∙ ap Some same)) ∙ clone_there s.entry.clone s.releases.own_now old.files a some

  pub clone_was : (a : CellAt) → s.entry.clone ≡ Some a → old.files a ≡ Some s.own
  clone_was a some = let q = reads_at a some in subst (λ (b : CellAt). old.files b ≡ Some s.own) q.1 q.0.own_is

  pub at_other : (a : CellAt) → ¬ a ≡ s.entry.at → ¬ s.entry.clone ≡ Some a → new.files a ≡ old.files a
  at_other a not_at not_it = beside a not_at ∙ clone_other s.entry.clone s.releases.own_now old.files a not_it

  -- ---- first cells

  pub after_first : (k : ℕ) → nat_le 1 (most_rows k) ≡ false → first_record k s.releases.after ≡ first_record k s.chain
  after_first k none = first_same k none s.chain s.releases.after s.releases.first

  pub own_first : (k : ℕ) → nat_le 1 (most_rows k) ≡ false → first_record k s.releases.own_now ≡ first_record k s.own
  own_first k none = ⊎_elim (λ same. ap (first_record k) same) (λ first. first_same k none s.own s.releases.own_now first) s.releases.own_first

  firsts : (k : ℕ) → nat_le 1 (most_rows k) ≡ false → (a : CellAt) → option_and_then (first_record k) (new.files a) ≡ option_and_then (first_record k) (old.files a)
  firsts k none a = by_which (which s.entry.at s.entry.clone a)
    where
      by_which : Which s.entry.at s.entry.clone a → option_and_then (first_record k) (new.files a) ≡ option_and_then (first_record k) (old.files a)
      by_which (source same) =
          ap (option_and_then (first_record k)) (ap new.files same ∙ at_source) ∙ after_first k none
          ∙ sym (ap (option_and_then (first_record k)) (ap old.files same ∙ s.is))
      by_which (reading some) =
          ap (option_and_then (first_record k)) (clone_now a some) ∙ own_first k none
          ∙ sym (ap (option_and_then (first_record k)) (clone_was a some))
      by_which (other not_at not_it) = ap (option_and_then (first_record k)) (at_other a not_at not_it)

  pub sources : (a : CellAt) → source_at new.files a ≡ source_at old.files a
  sources a = then_then source_in (first_record 2) (new.files a) ∙ ap (option_and_then source_in) (firsts 2 refl a) ∙ sym (then_then source_in (first_record 2) (old.files a))

  pub after_left : left_of s.releases.after ≡ left_of s.chain
  after_left = left_same s.chain s.releases.after (after_first 6 refl)

  pub after_stale : stale_from s.releases.after ≡ stale_from s.chain
  after_stale = stale_same s.chain s.releases.after (after_first 6 refl) (after_first 1 refl)

  maps_now : (a : CellAt) (first : PlacedCell) (rest : List PlacedCell) → new.files a ≡ Some (first ∷ rest) → HasOneMap first.cell ⊎ IsQuotaCell first.cell
  maps_now a first rest is = by_which (which s.entry.at s.entry.clone a)
    where
      by_which : Which s.entry.at s.entry.clone a → HasOneMap first.cell ⊎ IsQuotaCell first.cell
      by_which (source same) =
          inl (map_in new.pages s.entry.at first rest
          (subst (IsFile new.pages s.entry.at) (some_same s.releases.after (first ∷ rest) (sym at_source ∙ sym (ap new.files same) ∙ is)) s.releases.again.file))
      by_which (reading some) =
          let q = reads_at a some in
          inl (map_in new.pages q.0.r.at first rest
          (subst (IsFile new.pages q.0.r.at) (some_same s.releases.own_now (first ∷ rest) (sym (clone_now a some) ∙ is))
          (subst (λ o. IsReader new.pages o s.releases.own_now) q.0.is_reader s.releases.again.reads)))
      by_which (other not_at not_it) = fits.maps a first rest (sym (at_other a not_at not_it) ∙ is)

  pub lets_fits : Fits new
  lets_fits = fits_by group version old new (pages_go s) fits
      (subst (λ (l : Listing). AreEntriesOnce l.entries) (sym s.same_list) fits.once)
      (subst (λ (l : Listing). AreInOrder l.entries) (sym s.same_list) fits.order)
      (λ a b reads. reads_by old.files new.files a b (sources a) reads)
      (λ c e inside some reads. reads_by new.files old.files c e.at (sym (sources c)) reads)
      (λ e inside c reads. fits.all e (was_in e inside) c (reads_by old.files new.files c e.at (sources c) reads))
      maps_now

  -- ---- pages

  pub lets_stays : (a : CellAt) (p : ℕ) → Stays old a p → Stays new a p
  lets_stays a p stays e inside at ds is = by_which (which s.entry.at s.entry.clone a)
    where
      by_which : Which s.entry.at s.entry.clone a → p < stale_from ds
      by_which (source same) =
          subst (λ (cs : List PlacedCell). p < stale_from cs) (some_same s.releases.after ds (sym at_source ∙ sym (ap new.files same) ∙ is))
          (subst (λ (n : ℕ). p < n) (sym after_stale) (stays e (was_in e inside) at s.chain (ap old.files same ∙ s.is)))
      by_which (reading some) = absurd (alone old fits s.front s.entry s.last e (was_in e inside) (some ∙ ap Some (sym at)))
      by_which (other not_at not_it) = stays e (was_in e inside) at ds (sym (at_other a not_at not_it) ∙ is)

  place_beside : (a : CellAt) (p : ℕ) → ¬ a ≡ s.entry.at → ¬ s.entry.clone ≡ Some a → place_in new.files a p ≡ place_in old.files a p
  place_beside a p not_at not_it = ap (λ o. option_map_or (λ cs. places_of cs p) o Absent) (at_other a not_at not_it)

  -- the clone's file
  clone_reads : (a : CellAt) (p : ℕ) → s.entry.clone ≡ Some a → (o : Option Source) → source_of s.own ≡ o → read_at new.files a p ≡ read_at old.files a p
  clone_reads a p some None is = absurd (subst (λ o. IsSomeAnd o (λ (x : Source). x.frozen ≡ (reads_at a some).0.r.frozen)) is (reads_at a some).0.frozen)
  clone_reads a p some (Some src) is =
      let q = (reads_at a some).0 in
      let frozen : src.frozen ≡ q.r.frozen = subst (λ o. IsSomeAnd o (λ (x : Source). x.frozen ≡ q.r.frozen)) is q.frozen in
      let reads : ReadsThrough old.files a s.entry.at = fits.given s.entry entry_in a some in
      let at : src.at ≡ s.entry.at = subst (λ o. IsSomeAnd o (λ (x : Source). x.at ≡ s.entry.at)) (source_by old.files a s.own (clone_was a some) ∙ is) reads in
      let n : frozen_of s.reader ≡ src.frozen = ap frozen_of q.is_reader ∙ sym frozen in
      let there : place_in new.files src.at p ≡ places_of s.releases.after p = ap (λ (b : CellAt). place_in new.files b p) at ∙ place_by new.files s.entry.at s.releases.after p at_source in
      let was : place_in old.files src.at p ≡ places_of s.chain p = ap (λ (b : CellAt). place_in old.files b p) at ∙ place_by old.files s.entry.at s.chain p s.is in
      let same : read_home src.frozen (places_of s.releases.own_now) (places_of s.releases.after) p ≡ read_home src.frozen (places_of s.own) (places_of s.chain) p =
      subst (λ (m : ℕ). read_home m (places_of s.releases.own_now) (places_of s.releases.after) p ≡ read_home m (places_of s.own) (places_of s.chain) p) n (s.releases.pages.reads p) in
      read_there new.files a p s.releases.own_now (clone_now a some)
      ∙ ap (λ o. read_of new.files o s.releases.own_now p) (ap (option_and_then source_in) (own_first 2 refl) ∙ is)
      ∙ ap (λ x. own_or (places_of s.releases.own_now p) (cond (nat_lt p src.frozen) (home_at x) None)) there
      ∙ same
      ∙ sym (ap (λ x. own_or (places_of s.own p) (cond (nat_lt p src.frozen) (home_at x) None)) was)
      ∙ sym (ap (λ o. read_of old.files o s.own p) is)
      ∙ sym (read_there old.files a p s.own (clone_was a some))

  pub lets_reads : (a : CellAt) (p : ℕ) → Stays old a p → read_at new.files a p ≡ read_at old.files a p
  lets_reads a p stays = by_which (which s.entry.at s.entry.clone a)
    where
      by_which : Which s.entry.at s.entry.clone a → read_at new.files a p ≡ read_at old.files a p
      by_which (source same) =
          let was = ap old.files same ∙ s.is in
          read_same old.files new.files a p s.chain s.releases.after was (ap new.files same ∙ at_source) (ap (option_and_then source_in) (after_first 2 refl))
          (s.releases.pages.kept p (stays s.entry entry_in (sym same) s.chain was))
          (λ x is_x.
          let reads : ReadsThrough old.files s.entry.at x.at = through old.files s.entry.at x (source_by old.files s.entry.at s.chain s.is ∙ is_x) in
          place_beside x.at p
          (λ it. fits.one_deep s.entry.at x.at x.at reads (subst (λ (b : CellAt). ReadsThrough old.files b x.at) (sym it) reads))
          (λ it. fits.one_deep x.at s.entry.at x.at (fits.given s.entry entry_in x.at it) reads))
      by_which (reading some) = clone_reads a p some (source_of s.own) refl
      by_which (other not_at not_it) =
          read_beside old.files new.files a p (at_other a not_at not_it)
          (λ x is_x.
          let reads : ReadsThrough old.files a x.at = through old.files a x is_x in
          place_beside x.at p
          (λ it. not_it (fits.all s.entry entry_in a (subst (ReadsThrough old.files a) it reads)))
          (λ it. fits.one_deep a x.at s.entry.at reads (fits.given s.entry entry_in x.at it)))
