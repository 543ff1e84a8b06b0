-- The last of the quota cells of what is being removed that is free is a step over the list on which it
-- comes for that; what a table says then that names it no more stands but for that.
use Rattle.std.proofs.Common.{◌≡◌, ◌∙◌, inl, inr, ℕ, List, [], ◌∷◌, Option, Some, None, IsSomeAnd, Contains, refl, sym, ap, subst, arith, ⊎_elim}
use Rattle.std.specs.Option.{option_and_then}
use Rattle.standing_laws.specs.domain_base.declared.place.CellAt.{CellAt}
use Rattle.standing_laws.specs.cell_records.declared.record.Leftover.TheVariants.{Trim}
use Rattle.standing_laws.specs.page_store.Pages.{Pages}
use Rattle.standing_laws.specs.metadata_cells.Chain.{PlacedCell}
use Rattle.standing_laws.specs.fileset_files.Files.{first_record}
use Rattle.standing_laws.specs.fileset_files.Shown.{index_in, index_of}
use Rattle.standing_laws.specs.free_cells.Cells.{Cells}
use Rattle.standing_laws.specs.fileset_table.Table.{Table}
use Rattle.standing_laws.specs.release_list.Listed.{leftover_in}
use Rattle.standing_laws.specs.release_list.Listing.{clone_but, without_clone}
use Rattle.standing_laws.specs.release_list.Standing.{Files, source_at, source_of}
use Rattle.standing_laws.specs.release_list.Steps.{EndsFile, file_ends, more, none}
use Rattle.standing_laws.specs.release_list.declared.list.Entry.{Entry}
use Rattle.standing_laws.proofs.OfReleaseList.Spread.{none_not, some_same}
use Rattle.standing_laws.proofs.OfReleaseList.Standings.{file_other, file_there, quota_first, quota_place, same_or_not}
use Rattle.standing_laws.specs.release_steps.Tags.{chains_in}
use Rattle.standing_laws.specs.domain_layout.Filled.{Contents}
use Rattle.standing_laws.specs.domain_standing.Chains.{AreQuotasOf, HasFilesAmong, IndexesAt, IsQuotaOf, IsRemoved}
use Rattle.standing_laws.specs.domain_standing.Domain.{DomainNow, all_of, item_in}
use Rattle.standing_laws.specs.domain_standing.Sources.{StandAlone}
use Rattle.standing_laws.specs.Leads.{StandsBelow}
use Rattle.standing_laws.specs.Sound.{StandsSound}
use Rattle.standing_laws.proofs.SoundInPlace.{sound_listed}
use Rattle.standing_laws.proofs.SourcesSaid.{files_alone}
use Rattle.release_laws.specs.QuotaCells.{FreesLastQuota}
use Rattle.release_laws.specs.Released.{Releases}
use Rattle.release_laws.proofs.ChainsGo.{indexed_now, listed_now, named_now, tag_pages_now, to_do_now, used_now}
use Rattle.release_laws.proofs.Entries.{gives_none}
use Rattle.release_laws.proofs.HeldGo.{owned_goes}
use Rattle.release_laws.proofs.Led.{well_now}
use Rattle.release_laws.proofs.QuotasListed.{has_listed, not_on, one_slot, quotas_listed, with_quotas}
use Rattle.release_laws.proofs.RestGo.{rest_goes}
use Rattle.release_laws.proofs.SlotsGo.{among_now, files_are, quotas_now, slots_now}
use Rattle.release_laws.proofs.SoundGo.{sound_goes}
use Rattle.release_laws.proofs.TableSays.{NamesQuota, StandsBut}
use Rattle.release_laws.proofs.TablesGo.{tables_go}

-- entries that give no clone's file give none but one
none_without : (at : CellAt) (es : List Entry) → ((e : Entry) → Contains es e → e.clone ≡ None) → without_clone at es ≡ es
none_without at [] gives = refl
none_without at (e ∷ es) gives =
    let first : e.clone ≡ None = gives e (0, omega arith, refl) in
    let later : without_clone at es ≡ es = none_without at es (λ x inside. gives x (ℕ.suc inside.0, omega (arith, inside.1), inside.2)) in
    by_first first later
  where
    by_first : e.clone ≡ None → without_clone at es ≡ es → without_clone at (e ∷ es) ≡ e ∷ es
    by_first first later = λ i. record e { clone = (ap (clone_but at) first ∙ sym first) i } ∷ later i

module _ (d : DomainNow) (files files_now : Files) (indexes : IndexesAt) (below : StandsBelow d files indexes) (alone : StandAlone d) (number : ℕ) (at : CellAt) (quota : IsQuotaOf d number at) (removed : IsRemoved (item_in d number)) (cells : Cells) (pages : Pages) (contents : Contents)
    (s : FreesLastQuota at d cells pages contents files files_now) where
  abbrev pub was : DomainNow
  was = with_quotas at d

  abbrev pub freed : DomainNow
  freed = record d { pages = pages; contents = contents; cells = cells }

  pub listed : StandsBelow was files indexes
  listed = quotas_listed d files indexes below alone number at quota removed s.unlisted

  -- ---- what the cell was

  its : AreQuotasOf d number at (s.last ∷ [])
  its = subst (λ o. IsSomeAnd o (AreQuotasOf d number at)) s.is (below.chains.quotas number at quota)

  pub bare : (k : ℕ) → ¬ k ≡ 7 → ¬ k ≡ 8 → first_record k (s.last ∷ []) ≡ None
  bare = quota_first d.pages at (s.last ∷ []) its.quotas

  gone_at : files_now at ≡ None
  gone_at = ap (λ (f : Files). f at) s.files_are ∙ file_there at None files

  pub stays_at : (a : CellAt) → ¬ a ≡ at → files_now a ≡ files a
  stays_at a other = ap (λ (f : Files). f a) s.files_are ∙ file_other at None files a other

  not_at : (a : CellAt) (chain : List PlacedCell) → files_now a ≡ Some chain → ¬ a ≡ at
  not_at a chain there same = none_not chain (sym gone_at ∙ ap files_now (sym same) ∙ there)

  -- it is of no other slot
  pub other_quota : (n : ℕ) (a : CellAt) → IsQuotaOf d n a → ¬ n ≡ number → ¬ a ≡ at
  other_quota n a is differ same = differ (one_slot d files indexes below n number at (is ∙ ap Some same) quota)

  -- ---- the step

  step : EndsFile (all_of was files) (all_of freed files_now)
  step = record {
    front = d.list.entries;
    entry = record { at = at; clone = None };
    last = refl;
    chain = s.last ∷ [];
    is = s.is;
    whole = λ trim. let e : None ≡ Some Trim = sym (ap (option_and_then leftover_in) (bare 6 (λ e. omega (arith, e)) (λ e. omega (arith, e)))) ∙ trim in absurd (cc);
    done = record { absent = λ p from. quota_place d.pages at (s.last ∷ []) its.quotas p; later = tt };
    alone = refl;
    files = s.files_are;
    list = λ i. record { entries = sym (none_without at d.list.entries (gives_none d files indexes below alone)) i; tag_pages = d.list.tag_pages };
    frees = s.frees;
    same_space = refl;
    allocated = s.allocated;
    others = s.others;
    elsewhere = s.elsewhere;
    few = s.few;
  }

  no_index : (a : CellAt) (chain : List PlacedCell) → files a ≡ Some chain → files_now a ≡ None → index_of chain ≡ None
  no_index a chain there gone = ⊎_elim
      (λ same. ap index_of (some_same chain (s.last ∷ []) (sym there ∙ ap files same ∙ s.is)) ∙ ap (option_and_then index_in) (bare 9 (λ e. omega (arith, e)) (λ e. omega (arith, e))))
      (λ other. absurd (none_not chain (sym gone ∙ stays_at a other ∙ there)))
      (same_or_not a at)

  pub over_list : Releases 0 1 was freed files files_now
  over_list = record {
    steps = more 0 (all_of was files) (all_of freed files_now) none (file_ends step);
    frame = refl;
    table = refl;
    tags = refl;
    bytes = s.bytes;
    tag_pages = refl;
    quotas = not_on d files indexes below alone number at quota removed s.unlisted;
    gone = no_index;
  }

  -- ---- what stands

  pub sound_freed : StandsSound d files indexes → StandsSound freed files_now indexes
  sound_freed sound = sound_goes 0 1 was freed files files_now indexes listed alone (sound_listed d files indexes was.list sound) over_list

  abbrev pub files_freed : (n : ℕ) → HasFilesAmong d files n → HasFilesAmong freed files_now n
  files_freed n has =
      let then = has_listed d files indexes below alone number at quota removed s.unlisted n has in
      record {
        chains = chains_in files_now has.chains;
        are = files_are 0 1 was freed files files_now indexes listed alone over_list n then;
        among = among_now 0 1 was freed files files_now indexes listed alone over_list n then;
      }

  pub alone_freed : (a : CellAt) → source_at files_now a ≡ None
  alone_freed a = ⊎_elim
      (λ same. ap (option_and_then source_of) (ap files_now same ∙ gone_at))
      (λ other. ap (option_and_then source_of) (stays_at a other) ∙ files_alone d files indexes below alone a)
      (same_or_not a at)

  -- a table that names the quota cells of the other slots
  module _ (table : Table) (back : (n : ℕ) (a : CellAt) → NamesQuota table n a → IsQuotaOf d n a × (¬ n ≡ number)) (on : (n : ℕ) (a : CellAt) → IsQuotaOf d n a → ¬ n ≡ number → NamesQuota table n a) where
    there_still : (n : ℕ) (a : CellAt) → IsQuotaOf d n a → ¬ n ≡ number → ¬ files_now a ≡ None
    there_still n a is differ gone = by_chain (files a) (sym (stays_at a (other_quota n a is differ)) ∙ gone) (below.chains.quotas n a is)
      where
        by_chain : (o : Option (List PlacedCell)) → o ≡ None → IsSomeAnd o (AreQuotasOf d n a) → ⊥
        by_chain None missing are = are
        by_chain (Some chain) missing are = none_not chain (sym missing)

    -- where a slot's quota cells are not these, it is another one
    is_other : (n : ℕ) (a : CellAt) → IsQuotaOf d n a → ¬ a ≡ at → ¬ n ≡ number
    is_other n a is other same = other (some_same a at (sym is ∙ subst (λ (k : ℕ). IsQuotaOf d k at) (sym same) quota))

    pub stands_but : StandsBut table freed files_now indexes
    stands_but = record {
      tables = tables_go 0 1 was freed files files_now indexes listed alone over_list;
      owned = owned_goes 0 1 was freed files files_now indexes listed alone over_list;
      rest = rest_goes 0 1 was freed files files_now indexes listed alone over_list;
      well = well_now 0 1 was freed files files_now indexes listed alone over_list;
      slots = slots_now 0 1 was freed files files_now indexes listed alone over_list;
      quotas = λ n a names. let is = back n a names in quotas_now 0 1 was freed files files_now indexes listed alone over_list n a is.0 (there_still n a is.0 is.1);
      indexed = indexed_now 0 1 was freed files files_now indexes listed alone over_list;
      used = used_now 0 1 was freed files files_now indexes listed alone over_list;
      named = λ a chain there. ⊎_elim
          (λ tagged. inl tagged)
          (λ rest. inr (⊎_elim (λ left. inl left) (λ is. inr (is.0, on is.0 a is.1 (is_other is.0 a is.1 (not_at a chain there)))) rest))
          (named_now 0 1 was freed files files_now indexes listed alone over_list a chain there);
      to_do = to_do_now 0 1 was freed files files_now indexes listed alone over_list;
      listed = λ a listed_at. ⊎_elim
          (λ left. inl left)
          (λ is. inr (is.0, is.1, on is.0 a is.2 (is_other is.0 a is.2 (λ same. s.unlisted listed_at.0 listed_at.1 (listed_at.2 ∙ same)))))
          (listed_now 0 1 was freed files files_now indexes listed alone over_list a listed_at);
      tag_pages = tag_pages_now 0 1 was freed files files_now indexes listed alone over_list;
    }
