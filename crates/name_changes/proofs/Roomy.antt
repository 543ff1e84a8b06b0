-- Memory whose list has more room than it had, with lent files back in it.
use Rattle.std.proofs.Common.{◌≡◌, ◌≢◌, ◌∙◌, ◌≤◌, ◌⊎◌, ℕ, true, Result, Ok, Err, IfOk, IfErr, IsOk, OnErr, OnOk, length, refl, sym, ap, subst, ⊎_elim, arith, true≢false}
use Rattle.std.proofs.Math.Logic.{∥∥₁_map}
use Rattle.fileset_lending.specs.declared.parts.CallSettings.{CallSettings}
use Rattle.fileset_lending.specs.release_list.Listing.{Listing}
use Rattle.fileset_lending.specs.free_space.Spaces.{kept_spaces}
use Rattle.fileset_lending.specs.fileset_model.Fileset.{Fileset}
use Rattle.fileset_lending.specs.fileset_model.Filesets.{FilesetMap}
use Rattle.fileset_lending.specs.fileset_model.declared.fileset.FilesetSlot.{FilesetSlot}
use Rattle.fileset_lending.specs.fileset_table.declared.slot.FilesetEntry.{FilesetEntry}
use Rattle.fileset_lending.specs.name_space.Changes.{IsOriginal}
use Rattle.fileset_lending.specs.name_space.declared.fault.NameFault.{NameFault}
use Rattle.fileset_lending.specs.name_space.declared.fault.NameFault.TheVariants.{NoPage, OutOfMemory}
use Rattle.fileset_lending.specs.quota_book.Sums.{IsBookOf}
use Rattle.fileset_lending.specs.quota_book.Book.{Book}
use Rattle.fileset_lending.specs.domain_layout.CellRules.{of_original}
use Rattle.fileset_lending.specs.domain_standing.Domain.{DomainNow, item_in}
use Rattle.fileset_lending.specs.domain_standing.Sources.{StandAlone}
use Rattle.fileset_lending.specs.domain_standing.Standing.{AreBooksOf, HaveParents, IsMarkedBut, StandsDomain}
use Rattle.fileset_lending.specs.standing_laws.Sound.{IsSound}
use Rattle.fileset_lending.specs.set_standing.Follow.{Said}
use Rattle.fileset_lending.specs.set_standing.Directories.{AreTags}
use Rattle.fileset_lending.specs.set_standing.NamesNodes.{NodesFollow}
use Rattle.fileset_lending.specs.domain_memory.Listing.{HaveOnce, list_with}
use Rattle.fileset_lending.specs.domain_memory.Kept.{KeepsKept}
use Rattle.fileset_lending.specs.domain_memory.Staged.{IsStaged, IsStagedForSome, MayGoBack, staged_books, staged_in}
use Rattle.fileset_lending.specs.domain_memory.declared.memory.DomainMemory.{DomainMemory}
use Rattle.fileset_lending.specs.Chosen.{AreSettingsOf, CallsChange, Lends, files_in}
use Rattle.fileset_lending.specs.declared.chosen.Chosen.{Chosen}
use Rattle.fileset_lending.specs.declared.rest.MemoryRest.{MemoryRest}
use Rattle.name_changes.specs.Room.{HandsBack, with_list_of}
use Rattle.name_changes.specs.Stages.{HasFileset, KeepsBooks, KeepsParents, StandsWith}
use Rattle.name_changes.proofs.Books.{books_kept}
use Rattle.name_changes.proofs.Calls.{back, kept, stands_with}
use Rattle.name_changes.proofs.Parents.{NewNames, parents_kept}

-- ---- answers

pub ok_still : {A E B F : Type 0} (P : A → Type 0) (r answer : Result A E) (room : Result B F) → OnOk r ((r ≡ answer) × IsOk room) → IfOk answer P → IfOk r P
ok_still P (Ok a) answer room same is = subst (λ x. IfOk x P) (sym same.0) is
ok_still P (Err e) answer room same is = tt

pub err_still : {A : Type 0} (P : NameFault → Type 0) (r answer : Result A NameFault) → OnErr r ((r ≡ answer) ⊎ (r ≡ Err OutOfMemory)) → P OutOfMemory → IfErr answer P → IfErr r P
err_still P (Ok a) answer same short is = tt
err_still P (Err e) answer same short is = ⊎_elim (λ same. subst (λ x. IfErr x P) (sym same) is) (λ none. subst (λ x. IfErr x P) (sym none) short) same

pub pages_still : {A : Type 0} (r answer : Result A NameFault) → OnErr r ((r ≡ answer) ⊎ (r ≡ Err OutOfMemory)) → IfErr answer (λ fault. fault ≢ NoPage) → IfErr r (λ fault. fault ≢ NoPage)
pages_still r answer same is = err_still (λ fault. fault ≢ NoPage) r answer same short is
  where
    short : OutOfMemory ≡ NoPage → ⊥
    short e = cc

pub has_room : {A E B F : Type 0} (Q : Type 0) (r answer : Result A E) (room : Result B F) → OnOk r ((r ≡ answer) × IsOk room) → OnOk room Q → OnOk r Q
has_room Q (Ok a) answer (Ok b) same is = is
has_room Q (Ok a) answer (Err e) same is = absurd (true≢false (sym same.1))
has_room Q (Err e) answer room same is = tt

pub with_both : {A E : Type 0} (P : A → Type 0) (Q : Type 0) (r : Result A E) → IfOk r P → OnOk r Q → IfOk r (λ a. P a × Q)
with_both P Q (Ok a) is too = (is, too)
with_both P Q (Err e) is too = is

-- ---- the list

handed_back : (chosen : Chosen) (lent memory : DomainMemory) → Lends lent chosen.rest.number chosen.set.settings chosen → memory ≡ record lent { list = memory.list } → Lends memory chosen.rest.number chosen.set.settings (with_list_of memory chosen)
handed_back chosen lent memory l same = subst (λ (m : DomainMemory). Lends m chosen.rest.number chosen.set.settings (with_list_of m chosen)) (sym same) (record {
  slot = l.slot;
  pages = l.pages;
  space = l.space;
  cells = l.cells;
  listed = l.listed;
  same_settings = l.same_settings;
  frame = l.frame;
  table = l.table;
  list = refl;
  was = l.was;
  same_number = l.same_number;
  others = l.others;
  count = l.count;
})

pub hands_back : (chosen : Chosen) (lent memory : DomainMemory) → Lends lent chosen.rest.number chosen.set.settings chosen → memory ≡ record lent { list = memory.list } → memory.list.list ≡ lent.list.list → lent.list.room ≤ memory.list.room → HandsBack chosen memory
hands_back chosen lent memory l same list more = record {
  lends = handed_back chosen lent memory l same;
  list = list ∙ ap (λ x. x.list) (sym l.list);
  room = subst (λ (n : ℕ). n ≤ memory.list.room) (ap (λ x. x.room) (sym l.list)) more;
}

module _ (memory now : DomainMemory) (list : now.list.list ≡ memory.list.list) (more : memory.list.room ≤ now.list.room) where
  abbrev pub roomy : DomainMemory
  roomy = record memory { list = now.list }

  pub same_staged : staged_in memory ≡ staged_in roomy
  same_staged = ap (λ (l : Listing). record (staged_in memory) { list = list_with memory.listed.items l }) (sym list)

  pub roomy_staged : (all : FilesetMap) → IsStaged memory all → IsStaged roomy all
  roomy_staged all is = record {
    stands = subst (λ (d : DomainNow). StandsDomain d all) same_staged is.stands;
    alone = subst StandAlone same_staged is.alone;
    sound = subst IsSound same_staged is.sound;
    marked = subst (λ (d : DomainNow). IsMarkedBut (record d { space = kept_spaces memory.space })) same_staged is.marked;
    once = subst (λ (l : Listing). HaveOnce l.entries) (sym list) is.once;
    room = omega (arith, is.room, more);
  }

  pub roomy_back : MayGoBack memory → MayGoBack roomy
  roomy_back may = record { has = record { count = may.has.count; numbered = may.has.numbered }; table = may.table; slots = may.slots }

module _ (memory : DomainMemory) (number : ℕ) (settings : CallSettings) (chosen : Chosen) (lends : Lends memory number settings chosen) (right : AreSettingsOf memory settings) {said : Said} (after : Chosen) (now : DomainMemory) (calls : CallsChange said chosen after) (hands : HandsBack after now) where
  list_same : now.list.list ≡ memory.list.list
  list_same = hands.list ∙ ap (λ r. r.list.list) calls.rest ∙ ap (λ l. l.list) lends.list

  more_room : memory.list.room ≤ now.list.room
  more_room = subst (λ (n : ℕ). n ≤ now.list.room) (ap (λ r. r.list.room) calls.rest ∙ ap (λ l. l.room) lends.list) hands.room

  abbrev was : DomainMemory
  was = roomy memory now list_same more_room

  abbrev chosen_then : Chosen
  chosen_then = with_list_of now chosen

  abbrev after_then : Chosen
  after_then = with_list_of now after

  lends_then : Lends was number settings chosen_then
  lends_then = record {
    slot = lends.slot;
    pages = lends.pages;
    space = lends.space;
    cells = lends.cells;
    listed = lends.listed;
    same_settings = lends.same_settings;
    frame = lends.frame;
    table = lends.table;
    list = refl;
    was = lends.was;
    same_number = lends.same_number;
    others = lends.others;
    count = lends.count;
  }

  calls_then : CallsChange said chosen_then after_then
  calls_then = record { set = calls.set; rest = ap (λ (r : MemoryRest). record r { list = now.list }) calls.rest }

  right_then : AreSettingsOf was settings
  right_then = record { version = right.version; born = right.born }

  same_then : after_then.rest.number ≡ chosen_then.rest.number
  same_then = ap (λ r. r.number) calls.rest

  kept_then : KeepsKept was now → KeepsKept memory now
  kept_then k = record {
    frame = k.frame;
    table = k.table;
    places = k.places;
    books = k.books;
    pages = k.pages;
    spaces = k.spaces;
    cells = k.cells;
    marks = k.marks;
    list = list_same;
  }

  has_then : (all : FilesetMap) (entry : FilesetEntry) (fileset : FilesetSlot) → HasFileset memory number all entry fileset → HasFileset was number all entry fileset
  has_then all entry fileset h = record {
    staged = roomy_staged memory now list_same more_room all h.staged;
    may = roomy_back memory now list_same more_room h.may;
    original = h.original;
    there = h.there;
  }

  pub room_books : (all : FilesetMap) (entry : FilesetEntry) (fileset : FilesetSlot) → HasFileset memory number all entry fileset → (tree : Fileset) → ((book : Book) → IsBookOf book fileset.tree → IsBookOf book tree) → KeepsBooks memory now all entry fileset tree
  room_books all entry fileset h tree keeps are =
      books_kept was number settings chosen_then lends_then right_then after_then now calls_then hands.lends same_then all entry fileset (has_then all entry fileset h) tree keeps
      (subst (λ (d : DomainNow). AreBooksOf (staged_books memory) d all) (same_staged memory now list_same more_room) are)

  module _ (staged : ∥ IsStagedForSome memory ∥₁) (may : ∥ MayGoBack memory ∥₁) (original : of_original (item_in (staged_in memory) number) ≡ true) where
    staged_then : ∥ IsStagedForSome was ∥₁
    staged_then = ∥∥₁_map staged (λ s. (s.0, roomy_staged memory now list_same more_room s.0 s.1))

    may_then : ∥ MayGoBack was ∥₁
    may_then = ∥∥₁_map may (roomy_back memory now list_same more_room)

    pub room_kept : ∥ KeepsKept memory now ∥₁
    room_kept = ∥∥₁_map (kept was number settings chosen_then lends_then staged_then may_then original right_then after_then now calls_then hands.lends same_then) kept_then

    pub room_back : ∥ MayGoBack now ∥₁
    room_back = back was number settings chosen_then lends_then staged_then may_then original right_then after_then now calls_then hands.lends same_then

    pub room_stands : (all : FilesetMap) (entry : FilesetEntry) (fileset : FilesetSlot) → HasFileset memory number all entry fileset → (tree : Fileset) → IsOriginal (files_in after) (record fileset { tree = tree }) → NodesFollow fileset.tree tree → length now.listed.items ≤ now.list.room → StandsWith all entry fileset now tree
    room_stands all entry fileset h tree makes follow room =
        stands_with was number settings chosen_then lends_then staged_then may_then original right_then after_then now calls_then hands.lends same_then all entry fileset (has_then all entry fileset h) tree makes follow room

    pub room_parents : AreTags said → ((fileset : FilesetSlot) → IsOriginal (files_in chosen) fileset → NewNames said (files_in after) fileset) → length now.listed.items ≤ now.list.room → KeepsParents memory now
    room_parents tags names room parents =
        parents_kept was number settings chosen_then lends_then staged_then may_then original right_then said after_then now calls_then hands.lends same_then tags names room
        (subst HaveParents (same_staged memory now list_same more_room) parents)
