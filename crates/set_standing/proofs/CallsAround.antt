-- A domain stands on around a slot where a call was refused, a file is made, or its first cell says something else.
use Rattle.std.proofs.Common.{◌≡◌, ◌∙◌, ◌⊎◌, ◌==◌, ◌++◌, true≢false, ℕ, ◌≤◌, Bool, true, cond, List, [], ◌∷◌, Option, Some, None, IfSome, IsSomeAnd, refl, sym, ap, subst, arith, eqb-true, ⊎_elim}
use Rattle.std.proofs.lemmas.Bool.{eq-eqb, false_from_ne_true}
use Rattle.std.proofs.lemmas.List.{append-nil}
use Rattle.std.specs.Option.{option_and_then}
use Rattle.standing_laws.specs.domain_base.Limits.{max_links}
use Rattle.standing_laws.specs.domain_base.declared.place.Home.{Home}
use Rattle.standing_laws.specs.domain_base.declared.place.Kind.TheVariants.{Directory}
use Rattle.standing_laws.specs.domain_base.declared.place.Tag.{Tag}
use Rattle.standing_laws.specs.page_store.Pages.{Pages}
use Rattle.standing_laws.specs.metadata_cells.Cell.{Cell}
use Rattle.standing_laws.specs.metadata_cells.Chain.{PlacedCell}
use Rattle.standing_laws.specs.tag_dirs.Directory.{has_home, sequence_of}
use Rattle.standing_laws.specs.tag_dirs.declared.dir.TagPlace.{TagPlace}
use Rattle.standing_laws.specs.free_space.Spaces.{missed}
use Rattle.standing_laws.specs.page_store.Bitfiles.{same_tag}
use Rattle.standing_laws.specs.file_chains.FileChanges.{LeavesOtherCells}
use Rattle.standing_laws.specs.file_chains.Files.{AreFile}
use Rattle.standing_laws.specs.fileset_files.declared.attributes.Attributes.{Attributes}
use Rattle.standing_laws.specs.fileset_files.declared.new_cells.NewFile.{NewFile}
use Rattle.standing_laws.specs.fileset_files.Changes.{CanSay, ChangesFirst, says_attributes, says_parent, with_chain, with_first}
use Rattle.standing_laws.specs.fileset_files.Creation.{Creates, LeavesBeside, TakesForFile, TakesNext, last_sequence, root_tag, with_new}
use Rattle.standing_laws.specs.fileset_files.Files.{Chains, LeadsToFile, attributes_of, of_live}
use Rattle.standing_laws.specs.fileset_files.State.{FileState, States, state_of}
use Rattle.standing_laws.specs.fileset_files.Together.{AreTogether}
use Rattle.standing_laws.proofs.OfFilesetFiles.OneChain.{same_tag_itself}
use Rattle.standing_laws.specs.fileset_files.States.{described as described_state, new_state, put_in as put_in_state}
use Rattle.standing_laws.proofs.OfFilesetFiles.FirstCells.{attributes_said, parent_said}
use Rattle.standing_laws.proofs.OfFilesetFiles.Parts.{file_at}
use Rattle.standing_laws.proofs.OfFilesetFiles.Placed.{states_made}
use Rattle.standing_laws.specs.stored_set.Sets.{attributes_at}
use Rattle.standing_laws.specs.release_list.Standing.{Files, with_file}
use Rattle.standing_laws.proofs.OfReleaseList.Spread.{some_same}
use Rattle.standing_laws.specs.release_steps.Calls.{Call, SetsFirst, described, made, put_in, refused}
use Rattle.standing_laws.proofs.OfDomainLayout.Reached.{same_number}
use Rattle.standing_laws.specs.domain_layout.Seen.{SeenFile, seen_in}
use Rattle.set_standing.specs.Nodes.{seen_of}
use Rattle.standing_laws.specs.domain_standing.Domain.{DomainNow}
use Rattle.standing_laws.specs.Leads.{IsLiveOf, MayCall, fileset_now}
use Rattle.standing_laws.specs.Left.{LeavesNothing}
use Rattle.standing_laws.specs.OtherPages.{KeepsPlaces}
use Rattle.standing_laws.proofs.IndexWas.{off_first}
use Rattle.set_standing.specs.Around.{BytesFollow, ChangesSlot, GoesOnAround, StandsAround}
use Rattle.set_standing.specs.Follow.{ComesFrom, Said, SaysParent}
use Rattle.set_standing.proofs.FilesKept.{IsAlike, KeepsBytesOf, comes_changed, new_comes, none_unsaid, parent_kept, parent_told, seen_says, tag_same}
use Rattle.set_standing.proofs.Following.{SaysNoOther, chain_made, chain_said, kept_sequences, same_sequences}
use Rattle.set_standing.proofs.Led.{bytes_kept, follow, led}

-- ---- nothing is done

pub is_refused : (number : ℕ) (d now : DomainNow) → StandsAround number d → ChangesSlot number d now → BytesFollow d now → now.tags number ≡ d.tags number → now.cells ≡ d.cells → now.pages ≡ d.pages
    → (now.space ≡ d.space) ⊎ (now.space ≡ missed d.space) → GoesOnAround None number d now
is_refused number d now around changes bytes same_tags same_cells same_pages space =
    let call : Call number d.frame.version root_tag (fileset_now d number around.chains around.files) (fileset_now now number around.chains around.files) =
    refused (record { places = same_tags; chains = refl; list = changes.list; files = refl; space = space; cells = same_cells; pages = same_pages })
    in
    led number root_tag d now around changes around.chains around.files call tt tt bytes
    (follow number root_tag d now around changes around.chains around.files call tt tt [] (same_tags ∙ sym (append-nil (d.tags number)))
    (same_sequences number d now same_tags (λ slot. ap (λ (ps : Pages). sequence_of ps (d.tags number) slot) same_pages))
    (λ tag. tag_same d now (last_sequence d.pages (d.tags number) tag.slot) tag (around.chains tag)
    (λ cells there seen is file page home at. bytes home (ap (λ (ps : Pages). ps home) same_pages))))

-- ---- a file is made

module _ (number : ℕ) (tag : Tag) (what : NewFile) (prefer : ℕ) (d now : DomainNow) (around : StandsAround number d) (changes : ChangesSlot number d now) (bytes : BytesFollow d now) (born : what.birth ≤ d.table.made) (creates : Creates number (now.tags number) tag d.frame.version what around.chains now.space d.cells now.cells d.pages now.pages) where
  abbrev chains_with : Chains
  chains_with = with_new tag (creates.first ∷ []) around.chains

  abbrev files_with : Files
  files_with = with_file creates.first.at (Some (creates.first ∷ [])) around.files

  module _ (taken : TakesForFile prefer (d.tags number) (now.tags number) d.space now.space d.cells now.cells d.pages) (others : LeavesOtherCells d.cells [] d.pages now.pages) (elsewhere : LeavesBeside now.cells (now.tags number) d.pages now.pages) (next : TakesNext tag (d.tags number) (now.tags number) d.pages now.pages) where
    abbrev call : Call number d.frame.version tag (fileset_now d number around.chains around.files) (fileset_now now number chains_with files_with)
    call = made (record {
      what = what;
      creates = creates;
      prefer = prefer;
      taken = taken;
      others = others;
      elsewhere = elsewhere;
      chains = refl;
      list = changes.list;
      files = refl;
    })

    more : (t : List TagPlace) × (now.tags number ≡ d.tags number ++ t)
    more = ⊎_elim
        (λ only. ([], only.same ∙ sym (append-nil (d.tags number))))
        (λ page. (record { index = page.index; home = page.home } ∷ [], page.joins))
        taken

    rises : (slot : ℕ) → last_sequence d.pages (d.tags number) slot ≤ last_sequence now.pages (now.tags number) slot
    rises slot = ⊎_elim
        (λ same.
        let is : last_sequence now.pages (now.tags number) slot ≡ tag.seq = next.sequences slot ∙ ap (λ (b : Bool). cond b tag.seq (last_sequence d.pages (d.tags number) slot)) (eq-eqb slot tag.slot same) in
        let was : last_sequence d.pages (d.tags number) slot ≡ last_sequence d.pages (d.tags number) tag.slot = ap (last_sequence d.pages (d.tags number)) same in
        omega (arith, is, was, next.next))
        (λ differ.
        let is : last_sequence now.pages (now.tags number) slot ≡ last_sequence d.pages (d.tags number) slot =
        next.sequences slot ∙ ap (λ (b : Bool). cond b tag.seq (last_sequence d.pages (d.tags number) slot)) (false_from_ne_true (slot == tag.slot) (λ e. differ (eqb-true slot tag.slot e)))
        in
        omega (arith, is))
        (same_number slot tag.slot)

    is_new : state_of (creates.first ∷ []) ≡ Some (new_state what tag)
    is_new =
        sym (ap (λ (b : Bool). option_and_then state_of (cond b (Some (creates.first ∷ [])) (around.chains tag))) (same_tag_itself tag))
        ∙ ap (λ (s : States). s tag) (states_made d.frame.version what tag creates.first creates.says creates.no_page around.chains)
        ∙ ap (λ (b : Bool). cond b (Some (new_state what tag)) (option_and_then state_of (around.chains tag))) (same_tag_itself tag)

    pub is_made : GoesOnAround None number d now
    is_made = led number tag d now around changes chains_with files_with call born tt bytes
        (follow number tag d now around changes chains_with files_with call born tt more.0 more.1 rises
        (chain_made number d now around.chains tag (creates.first ∷ []) creates.fresh (omega (arith, next.next))
        (λ t cells differ there. bytes_kept number tag d now around changes chains_with files_with call born tt bytes t cells there)
        (new_comes d now what tag (creates.first ∷ []) is_new)))

-- ---- its first cell says something else

-- a live file's chain has a first cell
pub record HasFirst (chains : Chains) (tag : Tag) : Type 0 where
  pub first : PlacedCell
  pub rest : List PlacedCell
  pub is : chains tag ≡ Some (first ∷ rest)

pub first_of : (number : ℕ) (d : DomainNow) (around : StandsAround number d) (tag : Tag) (P : Attributes → Type 0) → IsSomeAnd (option_and_then (of_live attributes_of) (around.chains tag)) P → HasFirst around.chains tag
first_of number d around tag P live = by_chain (around.chains tag) refl live (around.well.together.files.some tag)
  where
    by_chain : (o : Option (List PlacedCell)) → around.chains tag ≡ o → IsSomeAnd (option_and_then (of_live attributes_of) o) P → IfSome o (LeadsToFile number (d.tags number) d.pages tag) → HasFirst around.chains tag
    by_chain None is live leads = absurd live
    by_chain (Some []) is live leads = absurd leads.is_of
    by_chain (Some (first ∷ rest)) is live leads = record { first = first; rest = rest; is = is }

pub slot_of_places : (number : ℕ) (d now : DomainNow) → KeepsPlaces d now → ChangesSlot number d now
slot_of_places number d now same = record {
  frame = ap (λ (x : DomainNow). x.frame) same;
  table = ap (λ (x : DomainNow). x.table) same;
  list = ap (λ (x : DomainNow). x.list) same;
  tags = λ other differ. ap (λ (x : DomainNow). x.tags other) same;
}

module _ (number : ℕ) (tag : Tag) (d now : DomainNow) (around : StandsAround number d) (same : KeepsPlaces d now) (bytes : BytesFollow d now) (changes : ChangesFirst (around.chains tag) d.pages now.pages) where
  pub sets : (says : Cell → Cell) (h : HasFirst around.chains tag) → AreTogether number (d.tags number) d.space d.cells now.pages (with_chain tag (with_first says) around.chains)
      → SetsFirst number tag says (fileset_now d number around.chains around.files) (fileset_now now number (with_chain tag (with_first says) around.chains) (with_file h.first.at (Some (with_first says (h.first ∷ h.rest))) around.files))
  sets says h together = record {
    first = h.first;
    rest = h.rest;
    is = h.is;
    together = together;
    beside = changes;
    places = ap (λ (x : DomainNow). x.tags number) same;
    chains = refl;
    list = ap (λ (x : DomainNow). x.list) same;
    files = refl;
    space = ap (λ (x : DomainNow). x.space) same;
    cells = ap (λ (x : DomainNow). x.cells) same;
  }

  module _ (says : Cell → Cell) (h : HasFirst around.chains tag) where
    abbrev chains_said : Chains
    chains_said = with_chain tag (with_first says) around.chains

    abbrev files_said : Files
    files_said = with_file h.first.at (Some (with_first says (h.first ∷ h.rest))) around.files

    off_first_cell : (home : Home) → has_home (d.tags number) home ≡ true → now.pages home ≡ d.pages home
    off_first_cell home has = changes_first.1 home
        (off_first d around.files around.indexes around.below number tag around.chains around.well h.first h.rest h.is home (around.well.together.tag_pages home has).off_table)
      where
        changes_first : ChangesFirst (Some (h.first ∷ h.rest)) d.pages now.pages
        changes_first = subst (λ o. ChangesFirst o d.pages now.pages) h.is changes

    module _ (call : Call number d.frame.version tag (fileset_now d number around.chains around.files) (fileset_now now number chains_said files_said))
        (may : MayCall d.table.made number d.frame.version tag (fileset_now d number around.chains around.files) (fileset_now now number chains_said files_said) call)
        (nothing : LeavesNothing number d.frame.version tag (fileset_now d number around.chains around.files) (fileset_now now number chains_said files_said) call) where
      file_bytes : (t : Tag) (cells : List PlacedCell) → around.chains t ≡ Some cells → KeepsBytesOf d now cells
      file_bytes = bytes_kept number tag d now around (slot_of_places number d now same) chains_said files_said call may nothing bytes

      is_said : (said : Said) → SaysNoOther number d now around.chains tag said → ((is : SeenFile) → seen_in (with_first says (h.first ∷ h.rest)) ≡ Some is → ComesFrom d now (Some (h.first ∷ h.rest)) is)
          → ((is : SeenFile) → seen_in (with_first says (h.first ∷ h.rest)) ≡ Some is → SaysParent said tag (Some (h.first ∷ h.rest)) (with_first says (h.first ∷ h.rest))) → GoesOnAround said number d now
      is_said said unsaid comes parents =
          let same_tags = ap (λ (x : DomainNow). x.tags number) same in
          led number tag d now around (slot_of_places number d now same) chains_said files_said call may nothing bytes
          (follow number tag d now around (slot_of_places number d now same) chains_said files_said call may nothing [] (same_tags ∙ sym (append-nil (d.tags number)))
          (same_sequences number d now same_tags (kept_sequences d.pages now.pages (d.tags number) around.well.together.files.directory off_first_cell))
          (chain_said number d now around.chains tag said unsaid (with_first says) (h.first ∷ h.rest) h.is (λ t cells differ there. file_bytes t cells there) comes parents))

  its_file : (h : HasFirst around.chains tag) → AreFile d.pages h.first h.rest
  its_file h = (file_at number (d.tags number) d.pages around.chains around.well.together.files tag (h.first ∷ h.rest) h.is).is_file.1

  pub is_linked : (was : Attributes) (links : ℕ) → attributes_at around.chains tag ≡ Some was → 1 ≤ links → links ≤ max_links
      → AreTogether number (d.tags number) d.space d.cells now.pages (with_chain tag (with_first (says_attributes (record was { links = links }))) around.chains) → GoesOnAround None number d now
  is_linked was links is named most together =
      is_said (says_attributes value) h (described value (sets (says_attributes value) h together)) can tt None (λ t differ. none_unsaid t)
      (comes_changed d now (h.first ∷ h.rest) (with_first (says_attributes value) (h.first ∷ h.rest)) (described_state value) (λ s. refl) alike (attributes_said d.pages h.first h.rest (its_file h) value)
      (file_bytes (says_attributes value) h (described value (sets (says_attributes value) h together)) can tt tag (h.first ∷ h.rest) h.is))
      (parent_kept tag (h.first ∷ h.rest) (with_first (says_attributes value) (h.first ∷ h.rest)) (described_state value) (λ s. refl) (λ s. refl) (attributes_said d.pages h.first h.rest (its_file h) value))
    where
      value : Attributes
      value = record was { links = links }

      can : CanSay value tag around.chains
      can = record { kind = subst (λ o. IsSomeAnd o (λ (w : Attributes). w.kind ≡ was.kind)) (sym is) refl; named = named; most = most }

      h : HasFirst around.chains tag
      h = first_of number d around tag (λ w. w.kind ≡ value.kind) can.kind

      alike : (state : FileState) → seen_in (h.first ∷ h.rest) ≡ Some (seen_of state) → IsAlike (seen_of state) (seen_of (described_state value state))
      alike state seen =
          let said : was ≡ state.attributes = some_same was state.attributes (sym is ∙ ap (option_and_then (of_live attributes_of)) h.is ∙ seen_says (h.first ∷ h.rest) (seen_of state) seen) in
          record {
            kind = ap (λ (a : Attributes). a.kind) said;
            uid = ap (λ (a : Attributes). a.uid) said;
            gid = ap (λ (a : Attributes). a.gid) said;
            size = ap (λ (a : Attributes). a.size) said;
            logged = ap (λ (a : Attributes). a.is_logged) said;
            homes = λ page. refl;
          }

  pub is_put_in : (parent : Tag) → IsLiveOf Directory (around.chains tag) → AreTogether number (d.tags number) d.space d.cells now.pages (with_chain tag (with_first (says_parent parent)) around.chains) → GoesOnAround (Some (tag, parent)) number d now
  is_put_in parent directory together =
      is_said (says_parent parent) h (put_in parent (sets (says_parent parent) h together)) directory tt (Some (tag, parent)) no_other
      (comes_changed d now (h.first ∷ h.rest) (with_first (says_parent parent) (h.first ∷ h.rest)) (put_in_state parent) (λ s. refl) (λ state seen. record { kind = refl; uid = refl; gid = refl; size = refl; logged = refl; homes = λ page. refl })
      (parent_said d.pages h.first h.rest (its_file h) parent) (file_bytes (says_parent parent) h (put_in parent (sets (says_parent parent) h together)) directory tt tag (h.first ∷ h.rest) h.is))
      (parent_told tag parent (h.first ∷ h.rest) (with_first (says_parent parent) (h.first ∷ h.rest)) (put_in_state parent) (λ s. refl) (λ s. refl) (parent_said d.pages h.first h.rest (its_file h) parent))
    where
      no_other : SaysNoOther number d now around.chains tag (Some (tag, parent))
      no_other t differ other same =
          let one : tag ≡ t = ap (λ (s : Tag × Tag). s.0) (some_same (tag, parent) (t, other) same) in
          true≢false (sym (same_tag_itself t) ∙ ap (same_tag t) (sym one) ∙ differ)

      h : HasFirst around.chains tag
      h = first_of number d around tag (λ (w : Attributes). w.kind ≡ Directory) directory
