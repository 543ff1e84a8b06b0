-- What any number of calls on one tag of a fileset keeps.
use Rattle.std.proofs.Common.{◌≡◌, ◌∙◌, ℕ, Bool, false, cond, List, ◌∷◌, [], None, Some, refl, sym, ap, subst, ⊎_elim}
use Rattle.release_list.specs.domain_base.declared.place.Tag.{Tag}
use Rattle.release_list.specs.domain_base.declared.version.Version.{Version}
use Rattle.release_list.specs.page_store.Bitfiles.{same_tag}
use Rattle.release_list.specs.page_store.Pages.{Pages}
use Rattle.release_list.specs.metadata_cells.Cell.{Cell}
use Rattle.release_list.specs.tag_dirs.declared.dir.TagPlace.{TagPlace}
use Rattle.release_list.specs.free_cells.Cells.{Cells}
use Rattle.release_list.specs.free_space.Spaces.{Spaces}
use Rattle.release_list.specs.fileset_files.Changes.{with_first}
use Rattle.release_list.specs.fileset_files.Files.{Chains}
use Rattle.release_list.specs.fileset_files.Together.{AreTogether}
use Rattle.release_list.proofs.OfFilesetFiles.Again.{together_missed}
use Rattle.release_list.proofs.OfFilesetFiles.OneChain.{chain_other}
use Rattle.release_list.specs.metadata_cells.Chain.{PlacedCell}
use Rattle.release_list.specs.domain_base.declared.place.Home.{Home}
use Rattle.release_steps.specs.Calls.{Call, Calls, FilesetNow, PutsPage, Refuses, SetsFirst, cut, described, dropped, given, indexed, made, moved, no_call, one_more, put_in, refused}

abbrev pub StandsTogether : ℕ → FilesetNow → Type 0
StandsTogether fileset at = AreTogether fileset at.places at.domain.space at.domain.cells at.domain.pages at.chains

-- ---- other tags

module _ (fileset : ℕ) (version : Version) (tag : Tag) (old new : FilesetNow) (t : Tag) (other : same_tag t tag ≡ false) where
  put_other : (home : Home) (chain : List PlacedCell) → PutsPage fileset version tag home chain old new → new.chains t ≡ old.chains t
  put_other home chain s = ap (λ (c : Chains). c t) s.chains ∙ chain_other tag (λ _. s.change.change.changes.after) old.chains t other

  set_other : (says : Cell → Cell) → SetsFirst fileset tag says old new → new.chains t ≡ old.chains t
  set_other says s = ap (λ (c : Chains). c t) s.chains ∙ chain_other tag (with_first says) old.chains t other

  pub same_call : Call fileset version tag old new → new.chains t ≡ old.chains t
  same_call (refused s) = ap (λ (c : Chains). c t) s.chains
  same_call (given s) = put_other s.home s.chain s.puts
  same_call (moved s) = put_other s.home s.chain s.puts
  same_call (described value s) = set_other _ s
  same_call (put_in parent s) = set_other _ s
  same_call (indexed index s) = set_other _ s
  same_call (cut size lowered s) = set_other _ s
  same_call (dropped s) = ap (λ (c : Chains). c t) s.chains ∙ ap (λ (b : Bool). cond b None (old.chains t)) other
  same_call (made s) = ap (λ (c : Chains). c t) s.chains ∙ ap (λ (b : Bool). cond b (Some (s.creates.first ∷ [])) (old.chains t)) other

pub others_same : (fileset : ℕ) (version : Version) (tag : Tag) (first last : FilesetNow) → Calls fileset version tag first last → (t : Tag) → same_tag t tag ≡ false → last.chains t ≡ first.chains t
others_same fileset version tag first last calls t other =
    elim calls as (λ last calls. last.chains t ≡ first.chains t) [
      | no_call ↦ refl
      | one_more between last (calls → was) call ↦ same_call fileset version tag between last t other call ∙ was
    ]

-- ---- all of the fileset's files

together_by : (fileset : ℕ) (places places_now : List TagPlace) (space space_now : Spaces) (cells cells_now : Cells) (pages pages_now : Pages) (chains chains_now : Chains) → places_now ≡ places → space_now ≡ space → cells_now ≡ cells → pages_now ≡ pages → chains_now ≡ chains
    → AreTogether fileset places space cells pages chains → AreTogether fileset places_now space_now cells_now pages_now chains_now
together_by fileset places places_now space space_now cells cells_now pages pages_now chains chains_now a b c d e together =
    let one = subst (λ ps. AreTogether fileset ps space cells pages chains) (sym a) together in
    let two = subst (λ s. AreTogether fileset places_now s cells pages chains) (sym b) one in
    let three = subst (λ cs. AreTogether fileset places_now space_now cs pages chains) (sym c) two in
    let four = subst (λ ps. AreTogether fileset places_now space_now cells_now ps chains) (sym d) three in
    subst (λ (cs : Chains). AreTogether fileset places_now space_now cells_now pages_now cs) (sym e) four

module _ (fileset : ℕ) (version : Version) (tag : Tag) (old new : FilesetNow) where
  refused_together : Refuses old new → StandsTogether fileset old → StandsTogether fileset new
  refused_together s together = ⊎_elim
      (λ same. together_by fileset old.places new.places old.domain.space new.domain.space old.domain.cells new.domain.cells old.domain.pages new.domain.pages old.chains new.chains s.places same s.cells s.pages s.chains together)
      (λ miss. together_by fileset old.places new.places _ new.domain.space old.domain.cells new.domain.cells old.domain.pages new.domain.pages old.chains new.chains s.places miss s.cells s.pages s.chains
      (together_missed old.domain.pages fileset old.places old.chains old.domain.space old.domain.cells together))
      s.space

  put_together : (home : Home) (chain : List PlacedCell) → PutsPage fileset version tag home chain old new → StandsTogether fileset new
  put_together home chain s = together_by fileset old.places new.places new.domain.space new.domain.space new.domain.cells new.domain.cells new.domain.pages new.domain.pages _ new.chains s.places refl refl refl s.chains s.change.together

  set_together : (says : Cell → Cell) → SetsFirst fileset tag says old new → StandsTogether fileset new
  set_together says s = together_by fileset old.places new.places old.domain.space new.domain.space old.domain.cells new.domain.cells new.domain.pages new.domain.pages _ new.chains s.places s.space s.cells refl s.chains s.together

  pub together_call : Call fileset version tag old new → StandsTogether fileset old → StandsTogether fileset new
  together_call (refused s) together = refused_together s together
  together_call (given s) together = put_together s.home s.chain s.puts
  together_call (moved s) together = put_together s.home s.chain s.puts
  together_call (described value s) together = set_together _ s
  together_call (put_in parent s) together = set_together _ s
  together_call (indexed index s) together = set_together _ s
  together_call (cut size lowered s) together = set_together _ s
  together_call (dropped s) together = together_by fileset old.places new.places old.domain.space new.domain.space old.domain.cells new.domain.cells new.domain.pages new.domain.pages _ new.chains s.places s.space s.cells refl s.chains s.together
  together_call (made s) together = subst (λ (cs : Chains). AreTogether fileset new.places new.domain.space new.domain.cells new.domain.pages cs) (sym s.chains) s.creates.together

pub together_still : (fileset : ℕ) (version : Version) (tag : Tag) (first last : FilesetNow) → Calls fileset version tag first last → StandsTogether fileset first → StandsTogether fileset last
together_still fileset version tag first last calls together =
    elim calls as (λ last calls. StandsTogether fileset last) [
      | no_call ↦ together
      | one_more between last (calls → was) call ↦ together_call fileset version tag between last call was
    ]
