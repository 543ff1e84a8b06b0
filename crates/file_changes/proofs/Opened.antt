-- Pages that may be written can still be written if a file changes.
use Rattle.std.proofs.Common.{◌≡◌, ◌∙◌, ◌<◌, ℕ, Bool, true, false, cond, ◌==◌, Some, IsSomeAnd, refl, sym, ap, subst}
use Rattle.std.specs.Option.{option_and_then, option_map}
use Rattle.domain_memory.specs.domain_base.declared.place.Home.{Home}
use Rattle.domain_memory.specs.domain_base.declared.place.Kind.TheVariants.{File}
use Rattle.domain_memory.specs.domain_base.declared.place.Tag.{Tag}
use Rattle.domain_memory.specs.extent_maps.declared.run.PagePlace.{PagePlace}
use Rattle.domain_memory.specs.extent_maps.declared.run.PagePlace.TheVariants.{Absent, At, Hole}
use Rattle.domain_memory.specs.fileset_files.Files.{Chains, place_at}
use Rattle.domain_memory.specs.fileset_files.Pages.{MayGrow}
use Rattle.domain_memory.specs.fileset_files.State.{FileState, state_of}
use Rattle.domain_memory.proofs.OfFilesetFiles.Created.{one_chains}
use Rattle.domain_memory.specs.fileset_files.States.{placed}
use Rattle.domain_memory.specs.standing_laws.Leads.{IsLiveOf}
use Rattle.set_standing.specs.Beside.{ChangesOneFile}
use Rattle.domain_memory.specs.Staged.{staged_in}
use Rattle.domain_memory.specs.declared.memory.DomainMemory.{DomainMemory}
use Rattle.file_changes.proofs.Seen.{HasStateAt, keep_live, kept_live, place_live, state_of_live}
use Rattle.file_changes.specs.Reading.{IsOpenAt, KeepsOpen}
use Rattle.file_changes.specs.Stages.{AreFilesIn, IsPageOf}

module _ (old new : DomainMemory) (number : ℕ) (tag : Tag) (how : FileState → FileState) (may : ℕ → Type 0) (chains : Chains) (are : AreFilesIn old number chains) (live : IsLiveOf File (chains tag)) (changes : ChangesOneFile number tag how may chains (staged_in old) (staged_in new))
    (keeps : (state : FileState) → (how state).keep ≡ state.keep) (stays : (state : FileState) (page : ℕ) → ¬ state.places page ≡ Hole → ¬ (how state).places page ≡ Hole)
  where
    s : HasStateAt chains tag
    s = state_of_live chains tag live

    module _ (chains_now : Chains) (are_now : AreFilesIn new number chains_now) where
      same_chain : changes.chains_now tag ≡ chains_now tag
      same_chain = let now = staged_in new in one_chains now.pages number (now.tags number) changes.chains_now chains_now changes.are are_now tag

      live_now : IsLiveOf File (chains_now tag)
      live_now = subst (IsLiveOf File) same_chain changes.live

      state_now : option_and_then state_of (chains_now tag) ≡ Some (how s.state)
      state_now = ap (option_and_then state_of) (sym same_chain) ∙ changes.state.own ∙ ap (option_map how) s.is

      open_now : (page : ℕ) → IsOpenAt tag page chains → IsOpenAt tag page chains_now
      open_now page open_was = record {
        kept = subst (λ o. IsSomeAnd o (λ keep. page < keep)) (sym (keep_live chains_now tag live_now (how s.state) state_now))
            (subst (λ k. page < k) (sym (keeps s.state)) (kept_live chains tag live s.state s.is page open_was.kept));
        solid = λ hole. stays s.state page (λ was. open_was.solid (sym (place_live chains tag live s.state s.is page) ∙ was)) (place_live chains_now tag live_now (how s.state) state_now page ∙ hole);
      }

    pub still_open : KeepsOpen number tag old new
    still_open = record {
      file = live_now;
      open_still = λ page open_was chains_now are_now. open_now chains_now are_now page (open_was chains are);
    }

-- a page that gets a home is no hole
pub placed_solid : (page : ℕ) (home : Home) (state : FileState) (q : ℕ) → ¬ state.places q ≡ Hole → ¬ (placed page (At home) state).places q ≡ Hole
placed_solid page home state q solid = by_page (q == page)
  where
    by_page : (b : Bool) → ¬ cond b (At home) (state.places q) ≡ Hole
    by_page true = λ e. cc
    by_page false = solid

-- such a page is there, or may be given
pub open_not_closed : (tag : Tag) (page : ℕ) (chains : Chains) → IsOpenAt tag page chains → (¬ MayGrow tag page chains) × (¬ IsPageOf tag page chains) → ⊥
open_not_closed tag page chains is none = by_place (place_at chains tag page) refl
  where
    by_place : (place : PagePlace) → place_at chains tag page ≡ place → ⊥
    by_place (At home) at = none.1 (record { kept = is.kept; home = home; there = at })
    by_place Hole at = is.solid at
    by_place Absent at = none.0 (record { kept = is.kept; absent = at })

-- and one that is there, or may be given, is such a page
pub open_there : (tag : Tag) (page : ℕ) (chains : Chains) → IsPageOf tag page chains → IsOpenAt tag page chains
open_there tag page chains has = record { kept = has.kept; solid = λ hole. at_hole has.home (sym has.there ∙ hole) }
  where
    at_hole : (home : Home) → At home ≡ Hole → ⊥
    at_hole home e = cc

pub open_lacking : (tag : Tag) (page : ℕ) (chains : Chains) → MayGrow tag page chains → IsOpenAt tag page chains
open_lacking tag page chains grows = record { kept = grows.kept; solid = λ hole. not_hole (sym grows.absent ∙ hole) }
  where
    not_hole : Absent ≡ Hole → ⊥
    not_hole e = cc
