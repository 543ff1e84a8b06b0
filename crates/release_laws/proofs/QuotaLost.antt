-- A cell of the quota cells of what is being removed that goes is a step over the list on which they
-- come for that.
use Rattle.std.proofs.Common.{◌≡◌, ◌∙◌, ℕ, List, Option, Some, None, IsSomeAnd, Contains, refl, sym, ap, subst, ⊎_elim}
use Rattle.standing_laws.specs.domain_base.declared.place.CellAt.{CellAt}
use Rattle.standing_laws.specs.metadata_cells.Chain.{PlacedCell}
use Rattle.standing_laws.specs.free_space.Spaces.{Spaces}
use Rattle.standing_laws.specs.fileset_model.Filesets.{FilesetMap}
use Rattle.standing_laws.specs.release_list.Standing.{Files, with_file}
use Rattle.standing_laws.specs.release_list.Steps.{LosesQuotaCell, more, none, quota_goes}
use Rattle.standing_laws.proofs.OfReleaseList.Spread.{none_not}
use Rattle.standing_laws.proofs.OfReleaseList.Standings.{file_other, file_there, same_or_not}
use Rattle.standing_laws.specs.domain_layout.TagRules.{quota_of}
use Rattle.standing_laws.specs.domain_standing.Chains.{AreQuotasOf, IndexesAt, IsQuotaOf, IsRemoved}
use Rattle.standing_laws.specs.domain_standing.Domain.{DomainNow, all_of, item_in, named_by}
use Rattle.standing_laws.specs.domain_standing.Sources.{StandAlone}
use Rattle.standing_laws.specs.domain_standing.Slots.{StandSlots}
use Rattle.standing_laws.specs.domain_standing.Standing.{HaveParents, IsMarkedBut}
use Rattle.standing_laws.specs.Leads.{StandsBelow}
use Rattle.standing_laws.specs.Sound.{StandsSound}
use Rattle.standing_laws.proofs.SoundInPlace.{sound_listed}
use Rattle.release_laws.specs.QuotaCells.{LosesQuotaOf}
use Rattle.release_laws.specs.Released.{QuotasStay, Releases}
use Rattle.standing_laws.specs.domain_base.declared.place.Home.{Home}
use Rattle.standing_laws.specs.domain_standing.Holders.{Holder, Holds}
use Rattle.standing_laws.specs.domain_standing.Holders.Holder.{of_cells, of_table}
use Rattle.release_laws.proofs.Led.{member_of_table}
use Rattle.release_laws.proofs.SlotsBeside.{LeavesSlots, bits_left, parents_left, slots_left}
use Rattle.release_laws.proofs.BelowGo.{alone_goes, below_goes}
use Rattle.release_laws.proofs.SoundGo.{sound_goes}
use Rattle.release_laws.proofs.QuotasListed.{not_on, quotas_listed, unlisted, with_quotas}

module _ (d now : DomainNow) (files files_now : Files) (indexes : IndexesAt) (below : StandsBelow d files indexes) (alone : StandAlone d) (number : ℕ) (s : LosesQuotaOf number d now files files_now) where
  abbrev was : DomainNow
  was = with_quotas s.at d

  abbrev it : DomainNow
  it = with_quotas s.at now

  listed : StandsBelow was files indexes
  listed = quotas_listed d files indexes below alone number s.at s.quota s.removed s.unlisted

  step : LosesQuotaCell (all_of was files) (all_of it files_now)
  step = record {
    front = d.list.entries;
    entry = record { at = s.at; clone = None };
    last = refl;
    first = s.first;
    second = s.second;
    rest = s.rest;
    is = s.is;
    quotas = (subst (λ o. IsSomeAnd o (AreQuotasOf d number s.at)) s.is (below.chains.quotas number s.at s.quota)).quotas;
    after = s.after;
    after_is = s.after_is;
    stands = s.stands;
    files = s.files_are;
    same_list = ap (λ (x : DomainNow). (with_quotas s.at x).list) s.same;
    same_space = ap (λ (x : DomainNow). x.space) s.same;
    frees = s.frees;
    allocated = s.allocated;
    others = s.others;
    elsewhere = s.elsewhere;
    few = s.few;
  }

  there_still : (a : CellAt) → files_now a ≡ None → files a ≡ None
  there_still a gone = ⊎_elim
      (λ same. absurd (none_not s.after (sym gone ∙ ap (λ (f : Files). f a) s.files_are ∙ ap (λ (b : CellAt). with_file s.at (Some s.after) files b) same ∙ file_there s.at (Some s.after) files)))
      (λ other. sym (ap (λ (f : Files). f a) s.files_are ∙ file_other s.at (Some s.after) files a other) ∙ gone)
      (same_or_not a s.at)

  pub over_list : Releases 0 1 was it files files_now
  over_list = record {
    steps = more 0 (all_of was files) (all_of it files_now) none (quota_goes step);
    frame = ap (λ (x : DomainNow). x.frame) s.same;
    table = ap (λ (x : DomainNow). x.table) s.same;
    tags = ap (λ (x : DomainNow). x.tags) s.same;
    bytes = s.bytes;
    tag_pages = ap (λ (x : DomainNow). x.list.tag_pages) s.same;
    quotas = not_on d files indexes below alone number s.at s.quota s.removed s.unlisted;
    gone = λ a chain there gone. absurd (none_not chain (sym (there_still a gone) ∙ there));
  }

  quotas_stay : QuotasStay d files_now
  quotas_stay n a quota gone = by_chain n a (files a) (there_still a gone) (below.chains.quotas n a quota)
    where
      by_chain : (n : ℕ) (a : CellAt) (o : Option (List PlacedCell)) → o ≡ None → IsSomeAnd o (AreQuotasOf d n a) → ⊥
      by_chain n a None missing are = are
      by_chain n a (Some chain) missing are = none_not chain (sym missing)

  still_named : IsQuotaOf now number s.at
  still_named = ap (λ (x : DomainNow). named_by quota_of x number) s.same ∙ s.quota

  -- all of the domain but its filesets stands on
  pub below_lost : StandsBelow now files_now indexes
  below_lost = unlisted now files_now indexes number s.at still_named (below_goes 0 1 was it files files_now indexes listed alone over_list quotas_stay)

  pub alone_lost : StandAlone now
  alone_lost = alone_goes 0 1 was it files files_now indexes listed alone over_list quotas_stay

  pub sound_lost : StandsSound d files indexes → StandsSound now files_now indexes
  sound_lost sound = sound_listed it files_now indexes now.list (sound_goes 0 1 was it files files_now indexes listed alone (sound_listed d files indexes was.list sound) over_list)

  -- ---- it stands for the same filesets

  page_was : (holder : Holder) (home : Home) → Holds d files indexes holder home → ¬ holder ≡ of_table → ¬ holder ≡ of_cells → now.pages home ≡ d.pages home
  page_was holder home held no_table no_cells = s.elsewhere home (λ on.
      let then = subst (λ (t : List ℕ). Contains t home.page) (s.frees.tables home.vol) on in
      no_cells (below.owned.once home holder of_cells held (member_of_table d files indexes below home.vol home.page then, then)))

  item_same : (n : ℕ) → item_in now n ≡ item_in d n
  item_same n = ap (λ (x : DomainNow). item_in x n) s.same

  leaves : LeavesSlots number s.at d now files files_now indexes
  leaves = record {
    quota = s.quota;
    was = s.removed;
    is = subst IsRemoved (sym (item_same number)) s.removed;
    items = λ n differ. item_same n;
    stays = λ a other. ap (λ (f : Files). f a) s.files_are ∙ file_other s.at (Some s.after) files a other;
    frame = ap (λ (x : DomainNow). x.frame) s.same;
    tags = ap (λ (x : DomainNow). x.tags) s.same;
    space = ap (λ (x : DomainNow). x.space) s.same;
    pages = page_was;
    bytes = λ holder home held no_table no_cells. s.bytes home (page_was holder home held no_table no_cells);
  }

  -- bits of bitmaps say of free space what they said
  pub bits_lost : (space : Spaces) → IsMarkedBut (record d { space = space }) → IsMarkedBut (record now { space = space })
  bits_lost = bits_left number s.at d now files files_now indexes below below_lost leaves

  module _ (all : FilesetMap) (slots : StandSlots d all) where
    pub slots_lost : StandSlots now all
    slots_lost = slots_left number s.at d now files files_now indexes below below_lost leaves all slots

    pub parents_lost : HaveParents d → HaveParents now
    parents_lost = parents_left number s.at d now files files_now indexes below below_lost leaves all slots
