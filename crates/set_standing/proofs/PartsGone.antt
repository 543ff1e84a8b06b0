-- A domain stands on around a slot where a file of it is taken away, by the parts in which the slot's files stand.
use Rattle.std.proofs.Common.{◌≡◌, ◌∙◌, ℕ, Bool, true, false, cond, List, [], ◌∷◌, Option, Some, None, refl, sym, subst}
use Rattle.std.specs.Option.{option_and_then}
use Rattle.standing_laws.specs.domain_base.declared.place.CellAt.{CellAt}
use Rattle.standing_laws.specs.domain_base.declared.place.Home.{Home}
use Rattle.standing_laws.specs.domain_base.declared.place.Tag.{Tag}
use Rattle.standing_laws.specs.domain_base.declared.version.Version.{Version}
use Rattle.standing_laws.specs.page_store.Bitfiles.{Bitfiles as SetOf, same_tag}
use Rattle.standing_laws.specs.page_store.Pages.{Pages}
use Rattle.standing_laws.specs.tag_dirs.declared.dir.TagPlace.{TagPlace}
use Rattle.standing_laws.specs.free_space.Spaces.{Spaces}
use Rattle.standing_laws.specs.fileset_files.Changes.{KeepsSequences, Removes, with_first, without_chain}
use Rattle.standing_laws.specs.fileset_files.Files.{AreFiles, Chains}
use Rattle.standing_laws.specs.fileset_files.Index.{says_index}
use Rattle.standing_laws.specs.fileset_files.Shown.{index_of}
use Rattle.standing_laws.specs.fileset_files.Together.{AreTogether}
use Rattle.standing_laws.proofs.OfFilesetFiles.Created.{one_chains}
use Rattle.standing_laws.proofs.OfFilesetFiles.OneChain.{chain_other}
use Rattle.standing_laws.specs.index_pages.Homes.{AreIndexHomes}
use Rattle.standing_laws.specs.stored_set.Sets.{GivesIndexBack, StandsAsSet, without_index, without_index_from}
use Rattle.standing_laws.specs.release_list.Listing.{Listing}
use Rattle.standing_laws.specs.domain_standing.Domain.{DomainNow}
use Rattle.standing_laws.proofs.IndexSet.{IsChain}
use Rattle.set_standing.specs.Around.{GoesOnAround, StandsAround}
use Rattle.set_standing.specs.Parts.{AddsFiles, KeepsAround, Parts, Surroundings, TagsOf, domain_of}
use Rattle.set_standing.proofs.Again.{at_slot, there_first}
use Rattle.set_standing.proofs.PartsKept.{same_tags}
use Rattle.set_standing.proofs.Removed.{is_gone, removed_chain}

-- without the tag's file it is of no account whether that named an index
without_both : (tag : Tag) (chains : Chains) (t : Tag) → without_chain tag (without_index tag chains) t ≡ without_chain tag chains t
without_both tag chains t = by_tag (same_tag t tag) refl
  where
    other : same_tag t tag ≡ false → (o : Option Home) → without_index_from o tag chains t ≡ chains t
    other differ None = refl
    other differ (Some home) = chain_other tag (with_first (says_index None)) chains t differ

    by_tag : (b : Bool) → same_tag t tag ≡ b → cond b None (without_index tag chains t) ≡ cond b None (chains t)
    by_tag true same = refl
    by_tag false differ = other differ (option_and_then index_of (chains tag))

module _ (number : ℕ) (version : Version) (born : ℕ) (p : Parts) (pages : Pages) (space : Spaces) (tag : Tag) (at : CellAt) (group : ℕ) (set : SetOf) (stood : StandsAsSet number p.tags space p.cells pages set) (removes : (chains : Chains) → AreFiles number p.tags p.pages chains → Removes number p.tags tag at (without_index tag chains) pages)
    (gives : (chains : Chains) (homes : List Home) → AreFiles number p.tags p.pages chains → AreIndexHomes p.pages (option_and_then index_of (chains tag)) homes → GivesIndexBack group p.tags (chains tag) homes p.space space p.pages pages)
    (sequences : KeepsSequences p.tags p.pages pages)
  where
    abbrev left : Parts
    left = record p { pages = pages; space = space }

    module _ (s : Surroundings) (tags tags_now : ℕ → List TagPlace) (list list_now : Listing) (of : TagsOf number p left tags tags_now) (adds : AddsFiles (at ∷ []) list list_now) (around : StandsAround number (domain_of s tags p list)) where
      abbrev d : DomainNow
      d = domain_of s tags p list

      abbrev now : DomainNow
      now = domain_of s tags left list

      now_is : domain_of s tags_now left list_now ≡ record now { list = adds.0 }
      now_is = λ i. domain_of s (same_tags number p left tags tags_now of refl i) left (adds.2 i)

      are : AreFiles number p.tags p.pages around.chains
      are = (subst (λ (ts : List TagPlace). AreTogether number ts p.space p.cells p.pages around.chains) of.was around.well.together).files

      gone : Removes number p.tags tag at (without_index tag around.chains) pages
      gone = removes around.chains are

      removes_there : Removes number (tags number) tag at (without_index tag around.chains) pages
      removes_there = subst (λ (ts : List TagPlace). Removes number ts tag at (without_index tag around.chains) pages) (sym of.was) gone

      chains_now : stood.chains ≡ without_chain tag around.chains
      chains_now = λ i t. (one_chains pages number p.tags stood.chains (without_chain tag (without_index tag around.chains)) stood.stands.together.files gone.files t ∙ without_both tag around.chains t) i

      together : AreTogether number (tags number) space p.cells pages (without_chain tag around.chains)
      together = subst (λ (ts : List TagPlace). AreTogether number ts space p.cells pages (without_chain tag around.chains)) (sym of.was)
          (subst (λ (c : Chains). AreTogether number p.tags space p.cells pages c) chains_now stood.stands.together)

      indexed : AreIndexHomes p.pages (option_and_then index_of (around.chains tag)) (around.indexes at)
      indexed = by_chain (removed_chain number tag d (at_slot number d around) pages at removes_there)
        where
          by_chain : IsChain around.chains tag at → AreIndexHomes p.pages (option_and_then index_of (around.chains tag)) (around.indexes at)
          by_chain c = subst (λ (a : CellAt). AreIndexHomes p.pages (option_and_then index_of (around.chains tag)) (around.indexes a)) c.at
              (subst (λ o. AreIndexHomes p.pages (option_and_then index_of o) (around.indexes c.first.at)) (there_first number tag d (at_slot number d around) c.first c.rest c.is ∙ sym c.is) (around.below.chains.indexed c.first.at))

      gives_there : GivesIndexBack group (tags number) (around.chains tag) (around.indexes at) p.space space p.pages pages
      gives_there = subst (λ (ts : List TagPlace). GivesIndexBack group ts (around.chains tag) (around.indexes at) p.space space p.pages pages) (sym of.was) (gives around.chains (around.indexes at) are indexed)

      gone_there : GoesOnAround None number d (domain_of s tags_now left list_now)
      gone_there = subst (GoesOnAround None number d) (sym now_is)
          (is_gone number tag at group d now around refl (λ home same. s.alone pages p.pages home same) together removes_there gives_there (subst (λ (ts : List TagPlace). KeepsSequences ts p.pages pages) (sym of.was) sequences) adds.0 adds.1.entries adds.1.tag_pages)

    pub gone_kept : KeepsAround None number version born (at ∷ []) p left
    gone_kept s tags tags_now list list_now v b of adds around = gone_there s tags tags_now list list_now of adds around
