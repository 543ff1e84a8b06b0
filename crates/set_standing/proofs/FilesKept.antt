-- What becomes of what a tag names, as far as the bytes of files are concerned.
use Rattle.std.proofs.Common.{◌≡◌, ◌∙◌, ◌≤◌, ◌<◌, ◌++◌, ℕ, Bool, true, false, append_assoc, cond, nat_lt, List, Option, Some, None, IfSome, IsSome, IsSomeAnd, refl, sym, ap, subst, arith, true≢false}
use Rattle.std.specs.Option.{is_some, option_and_then, option_map, unwrap_or}
use Rattle.standing_laws.specs.domain_base.declared.place.Home.{Home}
use Rattle.standing_laws.specs.domain_base.declared.place.Kind.TheVariants.{Directory, File}
use Rattle.standing_laws.specs.domain_base.declared.place.Tag.{Tag}
use Rattle.standing_laws.specs.page_store.Pages.{Pages}
use Rattle.standing_laws.specs.cell_records.declared.record.Record.{Record}
use Rattle.standing_laws.specs.cell_records.declared.record.Record.TheVariants as written
use Rattle.standing_laws.specs.metadata_cells.Chain.{PlacedCell}
use Rattle.standing_laws.specs.tag_dirs.Directory.{cell_of}
use Rattle.standing_laws.specs.tag_dirs.declared.dir.TagPlace.{TagPlace}
use Rattle.standing_laws.specs.extent_maps.Runs.{home_at}
use Rattle.standing_laws.specs.extent_maps.declared.run.PagePlace.TheVariants.{Absent}
use Rattle.standing_laws.specs.file_chains.Files.{IsFile, places_of}
use Rattle.standing_laws.specs.domain_base.declared.place.CellAt.{CellAt}
use Rattle.standing_laws.specs.fileset_files.Creation.{last_sequence}
use Rattle.standing_laws.specs.fileset_files.Files.{AreFiles, Chains, LeadsToFile, attributes_of, first_record, is_removed, keep_of, of_live}
use Rattle.standing_laws.specs.fileset_files.declared.attributes.Attributes.{Attributes}
use Rattle.standing_laws.specs.fileset_files.State.{FileState, parent_of, state_of, state_with}
use Rattle.standing_laws.specs.fileset_files.declared.new_cells.NewFile.{NewFile}
use Rattle.standing_laws.proofs.OfFilesetFiles.Created.{one_chains}
use Rattle.standing_laws.proofs.OfFilesetFiles.Tags.{used_sequence}
use Rattle.standing_laws.specs.fileset_files.States.{if_live, is_removing, new_state}
use Rattle.standing_laws.proofs.OfReleaseList.Spread.{none_not, some_same}
use Rattle.standing_laws.specs.domain_layout.Seen.{SeenFile, kept_by, seen_in}
use Rattle.standing_laws.specs.Leads.{IsLiveOf}
use Rattle.set_standing.specs.Nodes.{seen_of}
use Rattle.set_standing.proofs.Seen.{live_seen}
use Rattle.standing_laws.specs.domain_standing.Domain.{DomainNow}
use Rattle.set_standing.specs.Follow.{ComesFrom, FilesFollow, IsEmptyFile, IsStill, IsUnsaid, Said, SaysParent, TagFollows, TagsFollow}

-- ---- what is seen of a chain

any_tag : Tag
any_tag = record { slot = 0; seq = 0 }

pub seen_is : (cells : List PlacedCell) → seen_in cells ≡ option_map seen_of (option_and_then if_live (state_of cells))
seen_is cells = live_seen (λ t. Some cells) any_tag

-- the same file or directory, but for how many rows name it
pub record IsAlike (was is : SeenFile) : Type 0 where
  pub kind : is.is.kind ≡ was.is.kind
  pub uid : is.is.uid ≡ was.is.uid
  pub gid : is.is.gid ≡ was.is.gid
  pub size : is.is.size ≡ was.is.size
  pub logged : is.is.is_logged ≡ was.is.is_logged
  pub homes : (page : ℕ) → is.homes page ≡ was.homes page

-- a directory stays one of that owner
pub record IsSameDirectory (was is : SeenFile) : Type 0 where
  pub directory : was.is.kind ≡ Directory
  pub kind : is.is.kind ≡ was.is.kind
  pub uid : is.is.uid ≡ was.is.uid
  pub gid : is.is.gid ≡ was.is.gid

-- what is seen after a change of the state, and what was before
pub record BothSeen (cells : List PlacedCell) (how : FileState → FileState) (seen : SeenFile) : Type 0 where
  pub state : FileState
  pub there : state_of cells ≡ Some state
  pub was : seen_in cells ≡ Some (seen_of state)
  pub is : seen ≡ seen_of (how state)

pub both_seen : (cells cells_now : List PlacedCell) (how : FileState → FileState) → ((state : FileState) → (how state).pending ≡ state.pending) → state_of cells_now ≡ option_map how (state_of cells) → (seen : SeenFile) → seen_in cells_now ≡ Some seen → BothSeen cells how seen
both_seen cells cells_now how pending changed seen is = by_state (state_of cells) refl
  where
    now_is : (o : Option FileState) → state_of cells ≡ o → option_map seen_of (option_and_then if_live (option_map how o)) ≡ Some seen
    now_is o there = ap (λ (s : Option FileState). option_map seen_of (option_and_then if_live s)) (sym (changed ∙ ap (option_map how) there)) ∙ sym (seen_is cells_now) ∙ is

    by_pending : (state : FileState) → state_of cells ≡ Some state → (b : Bool) → is_removing state.pending ≡ b → cond b None (Some (seen_of (how state))) ≡ Some seen → BothSeen cells how seen
    by_pending state there true removed none = absurd (none_not seen none)
    by_pending state there false live same = record {
      state = state;
      there = there;
      was = seen_is cells ∙ ap (λ (s : Option FileState). option_map seen_of (option_and_then if_live s)) there ∙ ap (λ b. option_map seen_of (cond b None (Some state))) live;
      is = sym (some_same (seen_of (how state)) seen same);
    }

    if_seen : (b : Bool) (state : FileState) → option_map seen_of (cond b None (Some state)) ≡ cond b None (Some (seen_of state))
    if_seen true state = refl
    if_seen false state = refl

    by_state : (o : Option FileState) → state_of cells ≡ o → BothSeen cells how seen
    by_state None there = absurd (none_not seen (now_is None there))
    by_state (Some state) there =
        by_pending state there (is_removing state.pending) refl
        (sym (ap (λ p. cond (is_removing p) None (Some (seen_of (how state)))) (pending state)) ∙ sym (if_seen (is_removing (how state).pending) (how state)) ∙ now_is (Some state) there)

-- what is seen is what a live file's attributes say
pub seen_says : (cells : List PlacedCell) (seen : SeenFile) → seen_in cells ≡ Some seen → of_live attributes_of cells ≡ Some seen.is
seen_says cells seen is = by_removed (is_removed cells) is
  where
    by_keep : (a : Attributes) (o : Option ℕ) → option_map (λ keep. record { is = a; homes = λ page. home_at (cond (nat_lt page keep) (places_of cells page) Absent) }) o ≡ Some seen → Some a ≡ Some seen.is
    by_keep a None none = absurd (none_not seen none)
    by_keep a (Some keep) same = ap (option_map (λ (s : SeenFile). s.is)) same

    by_attributes : (o : Option Attributes) → option_and_then (kept_by cells) o ≡ Some seen → o ≡ Some seen.is
    by_attributes None none = absurd (none_not seen none)
    by_attributes (Some a) same = by_keep a (keep_of cells) same

    by_removed : (b : Bool) → cond b None (option_and_then (kept_by cells) (attributes_of cells)) ≡ Some seen → cond b None (attributes_of cells) ≡ Some seen.is
    by_removed true none = absurd (none_not seen none)
    by_removed false same = by_attributes (attributes_of cells) same

-- so a chain of a live directory is seen as one
pub seen_directory : (cells : List PlacedCell) (seen : SeenFile) → IsLiveOf Directory (Some cells) → seen_in cells ≡ Some seen → seen.is.kind ≡ Directory
seen_directory cells seen live is = subst (λ o. IsSomeAnd o (λ (a : Attributes). a.kind ≡ Directory)) (seen_says cells seen is) live

-- ---- what a directory says of its parent

-- cells say the parent that their state has
says_state : (cells : List PlacedCell) (state : FileState) → state_of cells ≡ Some state → parent_of cells ≡ state.parent
says_state cells state is = by_record (first_record 1 cells) is
  where
    by_record : (o : Option Record) → option_and_then (state_with cells) o ≡ Some state → parent_of cells ≡ state.parent
    by_record None none = absurd (none_not state none)
    by_record (Some (written.Attributes kind uid gid flags size keep links birth unsynced)) same = ap (λ (s : FileState). s.parent) (some_same _ state same)
    by_record (Some r) none = absurd (none_not state none)

pub none_unsaid : (tag : Tag) → IsUnsaid None tag
none_unsaid tag parent none = none_not (tag, parent) none

-- where nothing is said of a tag, it says what it said
pub says_still : (said : Said) (tag : Tag) → IsUnsaid said tag → (was cells : List PlacedCell) → parent_of cells ≡ parent_of was → SaysParent said tag (Some was) cells
says_still said tag unsaid was cells same = record {
  told = λ parent says. absurd (unsaid parent says);
  kept = λ w some none. same ∙ ap parent_of (some_same was w some);
}

-- so it does where its state has the same
pub parent_kept : (tag : Tag) (cells cells_now : List PlacedCell) (how : FileState → FileState) → ((state : FileState) → (how state).pending ≡ state.pending) → ((state : FileState) → (how state).parent ≡ state.parent) → state_of cells_now ≡ option_map how (state_of cells)
    → (is : SeenFile) → seen_in cells_now ≡ Some is → SaysParent None tag (Some cells) cells_now
parent_kept tag cells cells_now how pending parent changed is there =
    let both = both_seen cells cells_now how pending changed is there in
    says_still None tag (none_unsaid tag) cells cells_now
    (says_state cells_now (how both.state) (changed ∙ ap (option_map how) both.there) ∙ parent both.state ∙ sym (says_state cells both.state both.there))

-- and where another is said of it, it says that
pub parent_told : (tag parent : Tag) (cells cells_now : List PlacedCell) (how : FileState → FileState) → ((state : FileState) → (how state).pending ≡ state.pending) → ((state : FileState) → (how state).parent ≡ Some parent) → state_of cells_now ≡ option_map how (state_of cells)
    → (is : SeenFile) → seen_in cells_now ≡ Some is → SaysParent (Some (tag, parent)) tag (Some cells) cells_now
parent_told tag parent cells cells_now how pending says changed is there =
    let both = both_seen cells cells_now how pending changed is there in
    record {
      told = λ other same.
          says_state cells_now (how both.state) (changed ∙ ap (option_map how) both.there) ∙ says both.state ∙ ap (λ (o : Option (Tag × Tag)). option_map (λ (s : Tag × Tag). s.1) o) same;
      kept = λ was some unsaid. absurd (unsaid parent refl);
    }

-- ---- from one domain to another

module _ (d now : DomainNow) where
  -- the bytes of a file's pages are what they were
  abbrev pub KeepsBytesOf : List PlacedCell → Type 0
  KeepsBytesOf cells = (seen : SeenFile) → seen_in cells ≡ Some seen → seen.is.kind ≡ File → (page : ℕ) (home : Home) → seen.homes page ≡ Some home → now.contents home ≡ d.contents home

  still_alike : (was is : SeenFile) → IsAlike was is → (was.is.kind ≡ File → (page : ℕ) (home : Home) → was.homes page ≡ Some home → now.contents home ≡ d.contents home) → IsStill d now was is
  still_alike was is alike bytes = record {
    kind = alike.kind;
    uid = alike.uid;
    gid = alike.gid;
    file = λ file. record { size = alike.size; logged = alike.logged; homes = alike.homes; bytes = bytes file };
  }

  pub comes_alike : (cells : List PlacedCell) (is : SeenFile) → KeepsBytesOf cells → IsSomeAnd (seen_in cells) (λ was. IsAlike was is) → ComesFrom d now (Some cells) is
  comes_alike cells is bytes alike = by_seen (seen_in cells) refl alike
    where
      by_seen : (o : Option SeenFile) → seen_in cells ≡ o → IsSomeAnd o (λ was. IsAlike was is) → IsSomeAnd o (λ was. IsStill d now was is)
      by_seen None there alike = absurd alike
      by_seen (Some was) there alike = still_alike was is alike (bytes was there)

  pub comes_directory : (cells : List PlacedCell) (is : SeenFile) → IsSomeAnd (seen_in cells) (λ was. IsSameDirectory was is) → ComesFrom d now (Some cells) is
  comes_directory cells is same = by_seen (seen_in cells) same
    where
      by_seen : (o : Option SeenFile) → IsSomeAnd o (λ was. IsSameDirectory was is) → IsSomeAnd o (λ was. IsStill d now was is)
      by_seen None same = absurd same
      by_seen (Some was) same = record {
        kind = same.kind;
        uid = same.uid;
        gid = same.gid;
        file = λ file. let e : File ≡ Directory = sym file ∙ same.directory in absurd (cc);
      }

  -- a chain that stays
  pub comes_same : (cells : List PlacedCell) (is : SeenFile) → KeepsBytesOf cells → seen_in cells ≡ Some is → ComesFrom d now (Some cells) is
  comes_same cells is bytes there = comes_alike cells is bytes
      (subst (λ o. IsSomeAnd o (λ was. IsAlike was is)) (sym there) (record { kind = refl; uid = refl; gid = refl; size = refl; logged = refl; homes = λ page. refl }))

  -- a chain whose state changes so that nothing of it is seen but for links
  pub comes_changed : (cells cells_now : List PlacedCell) (how : FileState → FileState) → ((state : FileState) → (how state).pending ≡ state.pending)
      → ((state : FileState) → seen_in cells ≡ Some (seen_of state) → IsAlike (seen_of state) (seen_of (how state)))
      → state_of cells_now ≡ option_map how (state_of cells) → KeepsBytesOf cells → (is : SeenFile) → seen_in cells_now ≡ Some is → ComesFrom d now (Some cells) is
  comes_changed cells cells_now how pending alike changed bytes is there =
      let both = both_seen cells cells_now how pending changed is there in
      comes_alike cells is bytes
      (subst (λ o. IsSomeAnd o (λ was. IsAlike was is)) (sym both.was) (subst (IsAlike (seen_of both.state)) (sym both.is) (alike both.state both.was)))

  -- or so that a directory stays one
  pub comes_directory_changed : (cells cells_now : List PlacedCell) (how : FileState → FileState) → ((state : FileState) → (how state).pending ≡ state.pending)
      → ((state : FileState) → seen_in cells ≡ Some (seen_of state) → IsSameDirectory (seen_of state) (seen_of (how state)))
      → state_of cells_now ≡ option_map how (state_of cells) → (is : SeenFile) → seen_in cells_now ≡ Some is → ComesFrom d now (Some cells) is
  comes_directory_changed cells cells_now how pending alike changed is there =
      let both = both_seen cells cells_now how pending changed is there in
      comes_directory cells is
      (subst (λ o. IsSomeAnd o (λ was. IsSameDirectory was is)) (sym both.was) (subst (IsSameDirectory (seen_of both.state)) (sym both.is) (alike both.state both.was)))

  -- a new file is empty
  pub new_comes : (what : NewFile) (tag : Tag) (cells : List PlacedCell) → state_of cells ≡ Some (new_state what tag) → (is : SeenFile) → seen_in cells ≡ Some is → ComesFrom d now None is
  new_comes what tag cells made is there file =
      let same : seen_of (new_state what tag) ≡ is = some_same (seen_of (new_state what tag)) is (sym (ap (λ (s : Option FileState). option_map seen_of (option_and_then if_live s)) made) ∙ sym (seen_is cells) ∙ there) in
      subst IsEmptyFile same (record { size = refl; logged = refl; homes = λ page. nowhere (nat_lt page 65536) })
    where
      nowhere : (b : Bool) → home_at (cond b Absent Absent) ≡ None
      nowhere true = refl
      nowhere false = refl

  -- ---- tag by tag

  -- a tag that names what it named
  pub tag_unsaid : (said : Said) (last : ℕ) (tag : Tag) → IsUnsaid said tag → (o : Option (List PlacedCell)) → ((cells : List PlacedCell) → o ≡ Some cells → KeepsBytesOf cells) → TagFollows said d now last tag o o
  tag_unsaid said last tag unsaid o bytes = record {
    fresh = λ none some. absurd (true≢false (sym some ∙ ap is_some none));
    from = λ cells is there seen. subst (λ (p : Option (List PlacedCell)). ComesFrom d now p is) (sym there) (comes_same cells is (bytes cells there) seen);
    parent = λ cells is there seen. subst (λ (p : Option (List PlacedCell)). SaysParent said tag p cells) (sym there) (says_still said tag unsaid cells cells refl);
  }

  pub tag_same : (last : ℕ) (tag : Tag) (o : Option (List PlacedCell)) → ((cells : List PlacedCell) → o ≡ Some cells → KeepsBytesOf cells) → TagFollows None d now last tag o o
  tag_same last tag o bytes = tag_unsaid None last tag (none_unsaid tag) o bytes

  -- one that names a changed chain
  pub tag_changed : (said : Said) (last : ℕ) (tag : Tag) (cells cells_now : List PlacedCell) → ((is : SeenFile) → seen_in cells_now ≡ Some is → ComesFrom d now (Some cells) is) → ((is : SeenFile) → seen_in cells_now ≡ Some is → SaysParent said tag (Some cells) cells_now) → TagFollows said d now last tag (Some cells) (Some cells_now)
  tag_changed said last tag cells cells_now comes says = record {
    fresh = λ none some. absurd (none_not cells (sym none));
    from = λ other is there seen. comes is (ap seen_in (some_same cells_now other there) ∙ seen);
    parent = λ other is there seen.
        let same = some_same cells_now other there in
        subst (SaysParent said tag (Some cells)) same (says is (ap seen_in same ∙ seen));
  }

  -- one that names nothing any more
  pub tag_gone : (last : ℕ) (tag : Tag) (o : Option (List PlacedCell)) → TagFollows None d now last tag o None
  tag_gone last tag o = record {
    fresh = λ none some. absurd (true≢false (sym some));
    from = λ cells is there seen. absurd (none_not cells there);
    parent = λ cells is there seen. absurd (none_not cells there);
  }

-- ---- one change after another

still_joined : (d between now : DomainNow) (was mid is : SeenFile) → IsStill d between was mid → IsStill between now mid is → IsStill d now was is
still_joined d between now was mid is one two = record {
  kind = two.kind ∙ one.kind;
  uid = two.uid ∙ one.uid;
  gid = two.gid ∙ one.gid;
  file = λ file.
      let first = one.file file in
      let then = two.file (one.kind ∙ file) in
      record {
        size = then.size ∙ first.size;
        logged = then.logged ∙ first.logged;
        homes = λ page. then.homes page ∙ first.homes page;
        bytes = λ page home at. then.bytes page home (first.homes page ∙ at) ∙ first.bytes page home at;
      };
}

empty_joined : (between now : DomainNow) (mid is : SeenFile) → (mid.is.kind ≡ File → IsEmptyFile mid) → IsStill between now mid is → is.is.kind ≡ File → IsEmptyFile is
empty_joined between now mid is empty still file =
    let was : mid.is.kind ≡ File = sym still.kind ∙ file in
    let none = empty was in
    let same = still.file was in
    record { size = same.size ∙ none.size; logged = same.logged ∙ none.logged; homes = λ page. same.homes page ∙ none.homes page }

-- a tag that names something has the last sequence of its slot
used_last : (number : ℕ) (places : List TagPlace) (pages : Pages) (chains : Chains) (tag : Tag) (cells : List PlacedCell) → AreFiles number places pages chains → chains tag ≡ Some cells → last_sequence pages places tag.slot ≡ tag.seq
used_last number places pages chains tag cells are there = ap (λ o. unwrap_or o 0) (used_sequence pages places tag used)
  where
    leads : IsSomeAnd (cell_of pages places tag) (λ at. IsFile pages at cells)
    leads = (subst (λ o. IfSome o (LeadsToFile number places pages tag)) there (are.some tag)).leads

    used : IsSome (cell_of pages places tag)
    used = by_cell (cell_of pages places tag) leads
      where
        by_cell : (o : Option CellAt) → IsSomeAnd o (λ at. IsFile pages at cells) → IsSome o
        by_cell None none = absurd none
        by_cell (Some at) file = refl

module _ (said : Said) (number : ℕ) (d between now : DomainNow) (one : FilesFollow None number d between) (two : FilesFollow said number between now) (mids : Chains) (are_mid : AreFiles number (between.tags number) between.pages mids) (chains chains_now : Chains) (are : AreFiles number (d.tags number) d.pages chains) (are_now : AreFiles number (now.tags number) now.pages chains_now) (tag : Tag) where
  first : TagFollows None d between (last_sequence d.pages (d.tags number) tag.slot) tag (chains tag) (mids tag)
  first = one.files chains mids are are_mid tag

  then : TagFollows said between now (last_sequence between.pages (between.tags number) tag.slot) tag (mids tag) (chains_now tag)
  then = two.files mids chains_now are_mid are_now tag

  -- what named nothing between had named nothing before
  none_twice : mids tag ≡ None → IsSome (chains_now tag) → (cells : List PlacedCell) → chains tag ≡ Some cells → ⊥
  none_twice none some cells there =
      let behind = then.fresh none some in
      let rises = one.sequences tag.slot in
      let last = used_last number (d.tags number) d.pages chains tag cells are there in
      omega (arith, behind, rises, last)

  fresh_joined : chains tag ≡ None → IsSome (chains_now tag) → last_sequence d.pages (d.tags number) tag.slot < tag.seq
  fresh_joined none some = by_mid (mids tag) refl
    where
      by_mid : (o : Option (List PlacedCell)) → mids tag ≡ o → last_sequence d.pages (d.tags number) tag.slot < tag.seq
      by_mid None there = let behind = then.fresh there some in let rises = one.sequences tag.slot in omega (arith, behind, rises)
      by_mid (Some cells) there = first.fresh none (ap is_some there)

  from_joined : (cells : List PlacedCell) (is : SeenFile) → chains_now tag ≡ Some cells → seen_in cells ≡ Some is → ComesFrom d now (chains tag) is
  from_joined cells is there seen = by_mid (mids tag) refl (then.from cells is there seen)
    where
      by_none : mids tag ≡ None → (o : Option (List PlacedCell)) → chains tag ≡ o → (is.is.kind ≡ File → IsEmptyFile is) → ComesFrom d now o is
      by_none none None named empty = empty
      by_none none (Some was) named empty = absurd (none_twice none (ap is_some there) was named)

      by_chain : (mid : SeenFile) → IsStill between now mid is → (o : Option (List PlacedCell)) → ComesFrom d between o mid → ComesFrom d now o is
      by_chain mid still None empty = empty_joined between now mid is empty still
      by_chain mid still (Some was) comes = by_seen (seen_in was) comes
        where
          by_seen : (o : Option SeenFile) → IsSomeAnd o (λ w. IsStill d between w mid) → IsSomeAnd o (λ w. IsStill d now w is)
          by_seen None none = absurd none
          by_seen (Some w) one_still = still_joined d between now w mid is one_still still

      by_seen : (cs : List PlacedCell) → mids tag ≡ Some cs → (o : Option SeenFile) → seen_in cs ≡ o → IsSomeAnd o (λ mid. IsStill between now mid is) → ComesFrom d now (chains tag) is
      by_seen cs named None seen_mid none = absurd none
      by_seen cs named (Some mid) seen_mid still = by_chain mid still (chains tag) (first.from cs mid named seen_mid)

      by_mid : (o : Option (List PlacedCell)) → mids tag ≡ o → ComesFrom between now o is → ComesFrom d now (chains tag) is
      by_mid None named empty = by_none named (chains tag) refl empty
      by_mid (Some cs) named comes = by_seen cs named (seen_in cs) refl comes

  -- what a tag names says what was said of it then, or says what was said before all along
  kept_joined : (cells : List PlacedCell) (is : SeenFile) → chains_now tag ≡ Some cells → seen_in cells ≡ Some is → (was : List PlacedCell) → chains tag ≡ Some was → IsUnsaid said tag → parent_of cells ≡ parent_of was
  kept_joined cells is there seen was some unsaid = by_mid (mids tag) refl (then.from cells is there seen)
    where
      by_seen : (cs : List PlacedCell) → mids tag ≡ Some cs → (o : Option SeenFile) → seen_in cs ≡ o → IsSomeAnd o (λ mid. IsStill between now mid is) → parent_of cells ≡ parent_of was
      by_seen cs named None seen_mid none = absurd none
      by_seen cs named (Some mid) seen_mid still = (then.parent cells is there seen).kept cs named unsaid ∙ (first.parent cs mid named seen_mid).kept was some (none_unsaid tag)

      by_mid : (o : Option (List PlacedCell)) → mids tag ≡ o → ComesFrom between now o is → parent_of cells ≡ parent_of was
      by_mid None named empty = absurd (none_twice named (ap is_some there) was some)
      by_mid (Some cs) named comes = by_seen cs named (seen_in cs) refl comes

  tag_joined : TagFollows said d now (last_sequence d.pages (d.tags number) tag.slot) tag (chains tag) (chains_now tag)
  tag_joined = record {
    fresh = fresh_joined;
    from = from_joined;
    parent = λ cells is there seen. record { told = (then.parent cells is there seen).told; kept = kept_joined cells is there seen };
  }

pub files_joined : (said : Said) (number : ℕ) (d between now : DomainNow) → FilesFollow None number d between → FilesFollow said number between now → (mids : Chains) → AreFiles number (between.tags number) between.pages mids → FilesFollow said number d now
files_joined said number d between now one two mids are_mid = record {
  more = one.more ++ two.more;
  grows = two.grows ∙ ap (λ (l : List TagPlace). l ++ two.more) one.grows ∙ append_assoc (d.tags number) one.more two.more;
  sequences = λ slot. let a = one.sequences slot in let b = two.sequences slot in omega (arith, a, b);
  files = λ chains chains_now are are_now tag. tag_joined said number d between now one two mids are_mid chains chains_now are are_now tag;
}

-- ---- by the chains that there are

pub files_by : {said : Said} (number : ℕ) (d now : DomainNow) (more : List TagPlace) → now.tags number ≡ d.tags number ++ more
    → ((slot : ℕ) → last_sequence d.pages (d.tags number) slot ≤ last_sequence now.pages (now.tags number) slot)
    → (its its_now : Chains) → AreFiles number (d.tags number) d.pages its → AreFiles number (now.tags number) now.pages its_now → TagsFollow said number d now its its_now → FilesFollow said number d now
files_by {said} number d now more grows sequences its its_now are are_now each = record {
  more = more;
  grows = grows;
  sequences = sequences;
  files = λ chains chains_now was is tag.
      subst (λ o. TagFollows said d now (last_sequence d.pages (d.tags number) tag.slot) tag o (chains_now tag)) (one_chains d.pages number (d.tags number) its chains are was tag)
      (subst (λ o. TagFollows said d now (last_sequence d.pages (d.tags number) tag.slot) tag (its tag) o) (one_chains now.pages number (now.tags number) its_now chains_now are_now is tag) (each tag));
}
