-- What tags name after one change of the chains of a slot.
use Rattle.std.proofs.Common.{◌≡◌, ◌∙◌, ◌≤◌, ◌<◌, ℕ, Bool, true, false, cond, List, [], ◌∷◌, Option, Some, None, IfSome, Contains, sym, ap, subst, arith, ⊎_elim}
use Rattle.std.proofs.lemmas.Bool.{cases_Bool}
use Rattle.std.specs.Option.{option_map, unwrap_or}
use Rattle.standing_laws.specs.domain_base.declared.place.CellAt.{CellAt}
use Rattle.standing_laws.specs.domain_base.declared.place.Home.{Home}
use Rattle.standing_laws.specs.domain_base.declared.place.Tag.{Tag}
use Rattle.standing_laws.specs.page_store.Bitfiles.{same_tag}
use Rattle.standing_laws.specs.page_store.Pages.{Pages}
use Rattle.standing_laws.specs.metadata_cells.Chain.{PlacedCell, places}
use Rattle.standing_laws.specs.tag_dirs.Directory.{IsDirectory, has_home, sequence_of}
use Rattle.standing_laws.specs.tag_dirs.declared.dir.TagPlace.{TagPlace}
use Rattle.standing_laws.specs.fileset_files.Changes.{with_chain, without_chain}
use Rattle.standing_laws.specs.fileset_files.Creation.{last_sequence, with_new}
use Rattle.standing_laws.specs.fileset_files.Files.{AreApart, AreFiles, Chains}
use Rattle.standing_laws.proofs.OfFilesetFiles.OneFile.{tags_same}
use Rattle.standing_laws.proofs.OfFilesetFiles.Tags.{entry_same, pages_same}
use Rattle.standing_laws.specs.tag_dirs.declared.page.TagEntry.{TagEntry}
use Rattle.standing_laws.specs.release_steps.Tags.{start_of}
use Rattle.standing_laws.specs.release_list.Standing.{Files}
use Rattle.standing_laws.proofs.OfReleaseList.Spread.{none_not, some_same}
use Rattle.standing_laws.proofs.OfReleaseSteps.Tags.{IsNamed}
use Rattle.standing_laws.specs.domain_layout.Seen.{SeenFile, seen_in}
use Rattle.standing_laws.specs.domain_standing.Domain.{DomainNow}
use Rattle.set_standing.specs.Follow.{ComesFrom, IsUnsaid, Said, SaysParent, TagFollows, TagsFollow}
use Rattle.set_standing.proofs.FilesKept.{KeepsBytesOf, none_unsaid, tag_changed, tag_gone, tag_unsaid}

module _ (number : ℕ) (d now : DomainNow) (chains : Chains) (tag : Tag) where
  abbrev last : Tag → ℕ
  last t = last_sequence d.pages (d.tags number) t.slot

  -- chains of other tags stay, with the bytes of files
  abbrev pub KeepsOtherBytes : Type 0
  KeepsOtherBytes = (t : Tag) (cells : List PlacedCell) → same_tag t tag ≡ false → chains t ≡ Some cells → KeepsBytesOf d now cells

  -- nothing is said of them
  abbrev pub SaysNoOther : Said → Type 0
  SaysNoOther said = (t : Tag) → same_tag t tag ≡ false → IsUnsaid said t

  other_follows : (said : Said) → SaysNoOther said → KeepsOtherBytes → (t : Tag) → same_tag t tag ≡ false → TagFollows said d now (last t) t (chains t) (chains t)
  other_follows said unsaid bytes t differ = tag_unsaid d now said (last t) t (unsaid t differ) (chains t) (λ cells there. bytes t cells differ there)

  pub chain_said : (said : Said) → SaysNoOther said → (change : List PlacedCell → List PlacedCell) (cells : List PlacedCell) → chains tag ≡ Some cells → KeepsOtherBytes → ((is : SeenFile) → seen_in (change cells) ≡ Some is → ComesFrom d now (Some cells) is)
      → ((is : SeenFile) → seen_in (change cells) ≡ Some is → SaysParent said tag (Some cells) (change cells)) → TagsFollow said number d now chains (with_chain tag change chains)
  chain_said said unsaid change cells there bytes comes says t = ⊎_elim here elsewhere (cases_Bool (same_tag t tag))
    where
      here : same_tag t tag ≡ true → TagFollows said d now (last t) t (chains t) (with_chain tag change chains t)
      here same =
          let was : chains t ≡ Some cells = ap chains (tags_same t tag same) ∙ there in
          let is : with_chain tag change chains t ≡ Some (change cells) = ap (λ (b : Bool). cond b (option_map change (chains t)) (chains t)) same ∙ ap (option_map change) was in
          subst (λ o. TagFollows said d now (last t) t o (with_chain tag change chains t)) (sym was)
          (subst (λ o. TagFollows said d now (last t) t (Some cells) o) (sym is)
          (tag_changed d now said (last t) t cells (change cells) comes (λ i seen. subst (λ (x : Tag). SaysParent said x (Some cells) (change cells)) (sym (tags_same t tag same)) (says i seen))))

      elsewhere : same_tag t tag ≡ false → TagFollows said d now (last t) t (chains t) (with_chain tag change chains t)
      elsewhere differ = subst (λ o. TagFollows said d now (last t) t (chains t) o) (sym (ap (λ (b : Bool). cond b (option_map change (chains t)) (chains t)) differ)) (other_follows said unsaid bytes t differ)

  nothing_said : SaysNoOther None
  nothing_said t differ = none_unsaid t

  pub chain_changed : (change : List PlacedCell → List PlacedCell) (cells : List PlacedCell) → chains tag ≡ Some cells → KeepsOtherBytes → ((is : SeenFile) → seen_in (change cells) ≡ Some is → ComesFrom d now (Some cells) is)
      → ((is : SeenFile) → seen_in (change cells) ≡ Some is → SaysParent None tag (Some cells) (change cells)) → TagsFollow None number d now chains (with_chain tag change chains)
  chain_changed = chain_said None nothing_said

  pub chain_made : (cells : List PlacedCell) → chains tag ≡ None → last tag < tag.seq → KeepsOtherBytes → ((is : SeenFile) → seen_in cells ≡ Some is → ComesFrom d now None is)
      → TagsFollow None number d now chains (with_new tag cells chains)
  chain_made cells none behind bytes comes t = ⊎_elim here elsewhere (cases_Bool (same_tag t tag))
    where
      made : TagFollows None d now (last tag) tag None (Some cells)
      made = record {
        fresh = λ was some. behind;
        from = λ other is there seen. comes is (ap seen_in (some_same cells other there) ∙ seen);
        parent = λ other is there seen. record { told = λ parent says. absurd (none_not (tag, parent) says); kept = λ was some unsaid. absurd (none_not was some) };
      }

      here : same_tag t tag ≡ true → TagFollows None d now (last t) t (chains t) (with_new tag cells chains t)
      here same =
          let was : chains t ≡ None = ap chains (tags_same t tag same) ∙ none in
          let is : with_new tag cells chains t ≡ Some cells = ap (λ (b : Bool). cond b (Some cells) (chains t)) same in
          subst (λ o. TagFollows None d now (last t) t o (with_new tag cells chains t)) (sym was)
          (subst (λ o. TagFollows None d now (last t) t None o) (sym is) (subst (λ (x : Tag). TagFollows None d now (last x) x None (Some cells)) (sym (tags_same t tag same)) made))

      elsewhere : same_tag t tag ≡ false → TagFollows None d now (last t) t (chains t) (with_new tag cells chains t)
      elsewhere differ = subst (λ o. TagFollows None d now (last t) t (chains t) o) (sym (ap (λ (b : Bool). cond b (Some cells) (chains t)) differ)) (other_follows None nothing_said bytes t differ)

  pub chain_gone : KeepsOtherBytes → TagsFollow None number d now chains (without_chain tag chains)
  chain_gone bytes t = ⊎_elim here elsewhere (cases_Bool (same_tag t tag))
    where
      nothing : Option (List PlacedCell)
      nothing = None

      here : same_tag t tag ≡ true → TagFollows None d now (last t) t (chains t) (without_chain tag chains t)
      here same = subst (λ o. TagFollows None d now (last t) t (chains t) o) (sym (ap (λ (b : Bool). cond b nothing (chains t)) same)) (tag_gone d now (last t) t (chains t))

      elsewhere : same_tag t tag ≡ false → TagFollows None d now (last t) t (chains t) (without_chain tag chains t)
      elsewhere differ = subst (λ o. TagFollows None d now (last t) t (chains t) o) (sym (ap (λ (b : Bool). cond b nothing (chains t)) differ)) (other_follows None nothing_said bytes t differ)

-- a chain has the place where it begins
start_in : (cells : List PlacedCell) (at : CellAt) → start_of cells ≡ Some at → Contains (places cells) at
start_in [] at is = absurd (none_not at is)
start_in (first ∷ rest) at is = (0, omega arith, some_same first.at at is)

-- the chain of another tag begins elsewhere
pub other_begins : (number : ℕ) (ps : List TagPlace) (pages : Pages) (chains : Chains) → AreFiles number ps pages chains → (files : Files) (t tag : Tag) (cells mine : List PlacedCell) → chains t ≡ Some cells → chains tag ≡ Some mine → same_tag t tag ≡ false
    → (one : IsNamed files cells) (other : IsNamed files mine) → ¬ one.at ≡ other.at
other_begins number ps pages chains are files t tag cells mine is is_mine differ one other same =
    let apart : AreApart cells mine = subst (λ o. IfSome o (AreApart cells)) is_mine (subst (λ o. IfSome o (λ xs. IfSome (chains tag) (AreApart xs))) is (are.apart t tag differ)) in
    apart one.at (start_in cells one.at one.start) (subst (Contains (places mine)) (sym same) (start_in mine other.at other.start))

-- no sequence is another where the pages of the tag directory stay
pub same_sequences : (number : ℕ) (d now : DomainNow) → now.tags number ≡ d.tags number → ((slot : ℕ) → sequence_of now.pages (d.tags number) slot ≡ sequence_of d.pages (d.tags number) slot) → (slot : ℕ)
    → last_sequence d.pages (d.tags number) slot ≤ last_sequence now.pages (now.tags number) slot
same_sequences number d now same_tags same slot =
    let is : last_sequence now.pages (now.tags number) slot ≡ last_sequence d.pages (d.tags number) slot =
    ap (λ (ts : List TagPlace). last_sequence now.pages ts slot) same_tags ∙ ap (λ o. unwrap_or o 0) (same slot)
    in
    omega (arith, is)

pub kept_sequences : (pages pages_now : Pages) (ps : List TagPlace) → IsDirectory pages ps → ((home : Home) → has_home ps home ≡ true → pages_now home ≡ pages home) → (slot : ℕ) → sequence_of pages_now ps slot ≡ sequence_of pages ps slot
kept_sequences pages pages_now ps directory same slot = ap (option_map (λ (e : TagEntry). e.seq)) (entry_same pages pages_now ps directory (pages_same pages pages_now ps same) slot)
