-- A tag that is taken out of use, with the index of what it named.
use Rattle.std.proofs.Common.{◌≡◌, ◌∙◌, ℕ, Bool, true, false, cond, Option, Some, None, IsSome, IfOk, OnOk, Result, Ok, Err, List, [], ◌∷◌, Contains, refl, sym, ap, subst, arith}
use Rattle.std.proofs.lemmas.Bool.{true≢false}
use Rattle.std.specs.Option.{option_and_then, option_map_or}
use Rattle.domain_changes.specs.domain_base.declared.place.CellAt.{CellAt}
use Rattle.domain_changes.specs.domain_base.declared.place.Home.{Home}
use Rattle.domain_changes.specs.domain_base.declared.place.Tag.{Tag}
use Rattle.domain_changes.specs.page_store.Pages.{Pages}
use Rattle.domain_changes.specs.metadata_cells.Chain.{PlacedCell}
use Rattle.domain_changes.specs.tag_dirs.declared.dir.TagPlace.{TagPlace}
use Rattle.domain_changes.proofs.OfTagDirs.Slots.{off_slot}
use Rattle.domain_changes.specs.free_cells.Cells.{Cells}
use Rattle.domain_changes.specs.free_space.VolumeSpace.{with_waiting}
use Rattle.domain_changes.specs.free_space.declared.waiting.PageUse.TheVariants.{Metadata}
use Rattle.domain_changes.specs.free_space.declared.waiting.Waiting.{Waiting}
use Rattle.domain_changes.specs.free_space.Spaces.{Spaces, change_volume, kept_spaces}
use Rattle.domain_changes.proofs.OfFreeSpace.Kept.{kept-with_waiting}
use Rattle.domain_changes.specs.fileset_files.declared.bitfiles.Bitfiles.{Bitfiles}
use Rattle.domain_changes.specs.fileset_files.declared.indexing.IndexPlace.{IndexPlace}
use Rattle.domain_changes.specs.fileset_files.Changes.{ChangesBeside, IsLive, KeepsSequences, Removes, is_page_of_first, with_chain, with_first, without_chain}
use Rattle.domain_changes.specs.fileset_files.Files.{AreFiles, Chains, attributes_of, is_removed, of_live}
use Rattle.domain_changes.specs.fileset_files.Index.{index_place_of, says_index}
use Rattle.domain_changes.specs.fileset_files.Shown.{index_of}
use Rattle.domain_changes.specs.fileset_files.Together.{AreTogether}
use Rattle.domain_changes.proofs.OfFilesetFiles.Created.{one_chains}
use Rattle.domain_changes.specs.index_pages.Changes.{DropsIndex, with_waiting_at}
use Rattle.domain_changes.specs.index_pages.Homes.{AreIndexHomes}
use Rattle.domain_changes.proofs.OfIndexPages.Homes.{kept_same, one_list}
use Rattle.domain_changes.proofs.OfStoredSet.Indexed.{begins_so, first_of}
use Rattle.domain_changes.specs.stored_set.Sets.{without_index_from}
use Rattle.release_changes.specs.Emptying.{HasIndexApart, TakesOut}

-- ---- where the index of a live file begins

module _ (chain : Option (List PlacedCell)) (live : IsSome (option_and_then (of_live attributes_of) chain)) where
  pub begin_told : (told : Option IndexPlace) → told ≡ option_and_then (of_live index_place_of) chain → option_and_then index_of chain ≡ first_of told
  begin_told told is = by_chain chain live is
    where
      by_removed : (cs : List PlacedCell) (b : Bool) → IsSome (cond b None (attributes_of cs)) → told ≡ cond b None (index_place_of cs) → index_of cs ≡ first_of told
      by_removed cs true live is = absurd (true≢false (sym live))
      by_removed cs false live is = begins_so cs ∙ ap first_of (sym is)

      by_chain : (o : Option (List PlacedCell)) → IsSome (option_and_then (of_live attributes_of) o) → told ≡ option_and_then (of_live index_place_of) o → option_and_then index_of o ≡ first_of told
      by_chain None live is = absurd (true≢false (sym live))
      by_chain (Some cs) live is = by_removed cs (is_removed cs) live is

-- ---- free space as it was kept

pub waiting_kept : (homes : List Home) (group : ℕ) (space : Spaces) → kept_spaces (with_waiting_at homes group space) ≡ kept_spaces space
waiting_kept [] group space = refl
waiting_kept (home ∷ more) group space =
    let one : Waiting = record { page = home.page; kind = Metadata; group = group } in
    waiting_kept more group (change_volume (with_waiting one) space home.vol) ∙ kept-with_waiting one space home.vol

-- ---- what a call leaves

module _ (group fileset : ℕ) (places : List TagPlace) (tag : Tag) (space : Spaces) (old : Pages) (chains : Chains) (are : AreFiles fileset places old chains) (live : IsLive tag chains) where
  begin_any : (told : Option IndexPlace) → told ≡ option_and_then (of_live index_place_of) (chains tag) → (any : Chains) → AreFiles fileset places old any → option_and_then index_of (any tag) ≡ first_of told
  begin_any told is any are_any = ap (option_and_then index_of) (one_chains old fileset places any chains are_any are tag) ∙ begin_told (chains tag) live told is

  module _ (told : None ≡ option_and_then (of_live index_place_of) (chains tag)) (new : Pages) (beside : (any : Chains) → AreFiles fileset places old any → ChangesBeside places (any tag) old new) where
    drops_none : (homes : List Home) → AreIndexHomes old None homes → DropsIndex group space space new new homes
    drops_none [] are = record { waits = refl; gone = λ h inside. absurd (omega (arith, inside.1)); others = λ h off. refl }
    drops_none (home ∷ homes) are = absurd are

    pub takes_none : {E : Type 0} (files_new files_old : Bitfiles) → files_new ≡ files_old → files_old.fileset ≡ fileset → files_old.tags ≡ places → (r : Result CellAt E) → ((any : Chains) → AreFiles fileset places old any → IfOk r (λ at. Removes fileset places tag at any new))
        → ((s : Spaces) (cells : Cells) (any : Chains) → AreTogether fileset places s cells old any → OnOk r (AreTogether files_new.fileset files_new.tags s cells new (without_chain tag any)))
        → OnOk r (KeepsSequences places old new) → IfOk r (λ at. TakesOut group fileset places tag at space space old new)
    takes_none files_new files_old same of in_places (Ok at) removes together sequences = record {
      said = new;
      removes = λ any are_any. subst (λ o. Removes fileset places tag at (without_index_from o tag any) new) (sym (begin_any None told any are_any)) (removes any are_any);
      together = λ s cells any was.
          subst (λ (ps : List TagPlace). AreTogether fileset ps s cells new (without_chain tag any)) in_places
          (subst (λ (n : ℕ). AreTogether n files_old.tags s cells new (without_chain tag any)) of
          (subst (λ (f : Bitfiles). AreTogether f.fileset f.tags s cells new (without_chain tag any)) same (together s cells any was)));
      beside = beside;
      sequences = sequences;
      drops = λ any homes are_any are_homes. drops_none homes (subst (λ o. AreIndexHomes old o homes) (begin_any None told any are_any) are_homes);
    }
    takes_none files_new files_old same of in_places (Err e) removes together sequences = tt

  module _ (index : IndexPlace) (told : Some index ≡ option_and_then (of_live index_place_of) (chains tag)) (apart : HasIndexApart places space old (chains tag)) where
    -- its pages
    pub homes_were : AreIndexHomes old (Some index.first) apart.homes
    homes_were = subst (λ o. AreIndexHomes old o apart.homes) (begin_told (chains tag) live (Some index) told) apart.are

    module _ (mid : Pages) (beside : (any : Chains) → AreFiles fileset places old any → ChangesBeside places (any tag) old mid) where
      page_still : (home : Home) → Contains apart.homes home → mid home ≡ old home
      page_still home inside = by_chain (chains tag) refl
        where
          here : (o : Option (List PlacedCell)) → chains tag ≡ o → ChangesBeside places o old mid
          here o is = subst (λ o. ChangesBeside places o old mid) is (beside chains are)

          off : (o : Option (List PlacedCell)) → chains tag ≡ o → option_map_or (is_page_of_first home) o false ≡ false
          off o is = subst (λ o. option_map_or (is_page_of_first home) o false ≡ false) is (apart.no_first home inside)

          by_chain : (o : Option (List PlacedCell)) → chains tag ≡ o → mid home ≡ old home
          by_chain None is = absurd (true≢false (sym (subst (λ o. IsSome (option_and_then (of_live attributes_of) o)) is live)))
          by_chain (Some []) is = (here (Some []) is).pages home refl refl
          by_chain (Some (first ∷ rest)) is = (here (Some (first ∷ rest)) is).pages home (off_slot places first.cell.head.slot home (apart.no_tags home inside)) (off (Some (first ∷ rest)) is)

      pub homes_still : AreIndexHomes mid (Some index.first) apart.homes
      homes_still = kept_same old mid (Some index.first) apart.homes homes_were page_still

      pub takes_some : (at : CellAt) (space_now : Spaces) (new : Pages) → ((any : Chains) → AreFiles fileset places old any → Removes fileset places tag at (with_chain tag (with_first (says_index None)) any) mid)
          → ((s : Spaces) (cells : Cells) (any : Chains) → AreTogether fileset places s cells old any → AreTogether fileset places s cells mid (without_chain tag any)) → KeepsSequences places old mid
          → ((homes : List Home) → AreIndexHomes mid (Some index.first) homes → DropsIndex group space space_now mid new homes) → TakesOut group fileset places tag at space space_now old new
      takes_some at space_now new removes together sequences dropped = record {
        said = mid;
        removes = λ any are_any. subst (λ o. Removes fileset places tag at (without_index_from o tag any) mid) (sym (begin_any (Some index) told any are_any)) (removes any are_any);
        together = together;
        beside = beside;
        sequences = sequences;
        drops = λ any homes are_any are_homes.
            let here = subst (λ o. AreIndexHomes old o homes) (begin_any (Some index) told any are_any) are_homes in
            subst (DropsIndex group space space_now mid new) (one_list old (Some index.first) apart.homes homes homes_were here) (dropped apart.homes homes_still);
      }
