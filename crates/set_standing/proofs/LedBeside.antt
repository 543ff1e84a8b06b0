-- All that is not of a slot stays beside it after a call on one of its tags.
use Rattle.std.proofs.Common.{◌≡◌, ℕ, Some, sym, subst, ⊎_elim}
use Rattle.std.specs.Option.{option_and_then}
use Rattle.standing_laws.specs.domain_base.declared.place.CellAt.{CellAt}
use Rattle.standing_laws.specs.domain_base.declared.place.Home.{Home}
use Rattle.standing_laws.specs.domain_base.declared.place.Tag.{Tag}
use Rattle.standing_laws.specs.extent_maps.declared.run.PagePlace.TheVariants.{At}
use Rattle.standing_laws.specs.fileset_files.Files.{Chains, place_at}
use Rattle.standing_laws.specs.release_list.Standing.{Files, place_in}
use Rattle.standing_laws.specs.release_steps.Tags.{start_of}
use Rattle.standing_laws.proofs.OfDomainLayout.Reached.{same_number}
use Rattle.standing_laws.specs.domain_standing.Domain.{DomainNow}
use Rattle.standing_laws.specs.domain_standing.Holders.Holder.{of_file, of_volume}
use Rattle.standing_laws.specs.Leads.{LeadsOn}
use Rattle.standing_laws.proofs.OtherSlots.{bytes_same, links_of, slot_stays}
use Rattle.standing_laws.proofs.ParentsElsewhere.{parents_elsewhere}
use Rattle.standing_laws.proofs.SlotsStand.{quotas_stay}
use Rattle.standing_laws.proofs.TablesTaken.{page_stays}
use Rattle.set_standing.specs.Around.{BytesFollow, StandsAround}
use Rattle.set_standing.specs.Beside.{StaysBeside}
use Rattle.set_standing.proofs.Again.{at_slot}
use Rattle.set_standing.proofs.OwnLimits.{limits_still}
use Rattle.set_standing.proofs.OwnPages.{held_for}

module _ (number : ℕ) (tag : Tag) (d now : DomainNow) (around : StandsAround number d) (chains_now : Chains) (files_now : Files) (leads : LeadsOn number tag d now around.chains chains_now around.files files_now) where
  -- a page of a file is the one that it was
  pub file_page : (at : CellAt) (page : ℕ) (home : Home) → place_in around.files at page ≡ At home → now.pages home ≡ d.pages home
  file_page at page home there = page_stays number tag d now around.chains chains_now around.files files_now around.indexes around.below leads (of_file at page) home there (λ e. cc) (λ e. cc)

  pub own_page : (t : Tag) (page : ℕ) (home : Home) → place_at around.chains t page ≡ At home → now.pages home ≡ d.pages home
  own_page t page home at = let h = held_for number d (at_slot number d around) t page home at in file_page h.name.at page home h.placed

  pub beside_as : ((at : CellAt) (page : ℕ) (home : Home) → ¬ option_and_then start_of (around.chains tag) ≡ Some at → place_in around.files at page ≡ At home → d.contents home ≡ now.contents home) → now.tags number ≡ d.tags number → StaysBeside number d now
  beside_as kept same_tags = record {
    frame = leads.frame;
    table = leads.table;
    tags = λ n. ⊎_elim
        (λ same. subst (λ (k : ℕ). now.tags k ≡ d.tags k) (sym same) same_tags)
        (λ differ. leads.tags n differ)
        (same_number n number);
    slots = λ other entry shape fileset differ at stood.
        slot_stays number tag d now around.chains chains_now around.files files_now around.indexes around.below leads other entry shape fileset differ at stood
        (bytes_same number tag d now around.chains chains_now around.files files_now around.indexes around.below leads other entry shape fileset differ at stood kept);
    parents = λ other differ stands had. parents_elsewhere number tag d now around.chains chains_now around.files files_now around.indexes around.below leads other differ stands had;
    limits = λ entry limits at.
        limits_still number d now around.files (around.below.chains.quotas number)
        (λ first cs some quotas.
        links_of now.pages first cs (quotas_stay number tag d now around.chains chains_now around.files files_now around.indexes around.below leads number first cs some quotas)) entry at limits;
    volumes = λ home of. page_stays number tag d now around.chains chains_now around.files files_now around.indexes around.below leads of_volume home of (λ e. cc) (λ e. cc);
  }

  pub beside_led : BytesFollow d now → now.tags number ≡ d.tags number → StaysBeside number d now
  beside_led bytes = beside_as (λ at page home none there. sym (bytes home (file_page at page home there)))
