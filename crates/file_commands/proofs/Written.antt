-- Bytes that are written to a file: what is refused of them, and what is answered.
use Rattle.std.proofs.Common.{◌≡◌, ◌↔◌, ◌∙◌, ◌∷◌, ◌+◌, ◌*◌, ◌<◌, ◌≤◌, ℕ, Any, Bool, false, true, [], List, Option, None, Some, Result, Ok, Err, IfErr, length, nat_lt, not, refl, sym, ap, subst, arith, lt-ltb, true≢false, ⊎_elim}
use Rattle.std.proofs.lemmas.Bool.{cases_lt, le-ltb}
use Rattle.std.specs.FinMap.{contains_key, empty}
use Rattle.std.specs.Option.{option_map_or}
use Rattle.std.specs.Result.{IsErrAnd}
use Rattle.name_commands.specs.domain_base.Limits.{file_bytes}
use Rattle.name_commands.specs.domain_base.declared.place.Kind.TheVariants as kind
use Rattle.name_commands.specs.domain_base.declared.place.Tag.{Tag}
use Rattle.name_commands.specs.page_store.declared.fault.StoreFault.{StoreFault}
use Rattle.name_commands.specs.page_store.declared.fault.StoreFault.TheVariants as fault
use Rattle.name_commands.specs.fileset_files.declared.attributes.Attributes.{Attributes}
use Rattle.name_commands.specs.fileset_model.Apply.{refusal_of, write_quota, written_node}
use Rattle.name_commands.specs.fileset_model.Fileset.{Fileset}
use Rattle.name_commands.specs.fileset_model.Filesets.{FilesetMap}
use Rattle.name_commands.specs.fileset_model.Pages.{Pages, absent_pages, pages_of}
use Rattle.name_commands.specs.fileset_model.Paths.{first_refusal, is_directory, node_at, refuse_if}
use Rattle.name_commands.specs.fileset_model.Usage.{blocks_of, quota_refusal}
use Rattle.name_commands.specs.fileset_values.declared.command.Command.TheVariants.{Write}
use Rattle.name_commands.specs.fileset_values.declared.command.Place.{Place}
use Rattle.name_commands.specs.fileset_model.declared.fileset.FilesetSlot.{FilesetSlot}
use Rattle.name_commands.specs.fileset_model.declared.node.Node.{Node}
use Rattle.name_commands.specs.fileset_model.declared.node.Node.TheVariants.{Directory, File}
use Rattle.name_commands.specs.fileset_values.declared.reply.Refusal.{Refusal}
use Rattle.name_commands.specs.fileset_values.declared.reply.Refusal.TheVariants.{TooFar}
use Rattle.name_commands.specs.fileset_values.declared.reply.Reply.TheVariants.{Count}
use Rattle.name_commands.specs.legal_histories.Step.{TakesSpace}
use Rattle.name_commands.specs.legal_histories.Volumes.{file_pages, pages_at as pages_told}
use Rattle.name_commands.specs.quota_book.Book.{Charges}
use Rattle.name_commands.specs.quota_book.Sums.{gid_of, uid_of}
use Rattle.name_commands.specs.domain_changes.Charging.{ChangesOneBook}
use Rattle.name_commands.specs.domain_standing.Standing.{HaveParents}
use Rattle.name_commands.specs.domain_memory.Memory.{StandsFor}
use Rattle.name_commands.specs.domain_memory.Staged.{MayBeKept, staged_in}
use Rattle.name_commands.specs.domain_memory.declared.memory.DomainMemory.{DomainMemory}
use Rattle.name_commands.proofs.OfFileChanges.HowMany.{blocks_written, some_absent}
use Rattle.name_commands.specs.file_changes.Reading.{IsWhatIs, pages_at, pages_in}
use Rattle.name_commands.specs.file_changes.Stages.{StandsChanged}
use Rattle.name_commands.specs.file_changes.Writing.{WantsPage}
use Rattle.name_commands.specs.Coming.{IsAnswered}
use Rattle.name_commands.specs.Ending.{LacksPage, stop_of}
use Rattle.name_commands.specs.Placing.{IsPlaced}
use Rattle.name_commands.specs.declared.stop.Stop.{Stop}
use Rattle.name_commands.specs.declared.stop.Stop.TheVariants.{NoPage}
use Rattle.file_commands.proofs.Filed.{KeepsIds, answers_changed, books_charged, in_tree, is_file, its}
use Rattle.file_commands.proofs.FileAnswers.{HasIds, filing_file, ids_there}
use Rattle.name_commands.proofs.PlacedThere.{file_of}

-- bytes that are not too far
pub not_far : (far : Bool) (end : ℕ) → ((far ≡ true) ↔ (file_bytes < end)) → far ≡ false → end ≤ file_bytes
not_far far end is near = ⊎_elim (λ behind. absurd (true≢false (sym (is.1 behind) ∙ near))) (λ within. omega (arith, within)) (cases_lt file_bytes end)

written_ids : (offset : ℕ) (bytes : List ℕ) → KeepsIds (written_node offset bytes)
written_ids offset bytes = record { user = user; group = group }
  where
    user : (node : Node) → uid_of (written_node offset bytes node) ≡ uid_of node
    user (File uid gid size logged pages) = refl
    user (Directory uid gid) = refl

    group : (node : Node) → gid_of (written_node offset bytes node) ≡ gid_of node
    group (File uid gid size logged pages) = refl
    group (Directory uid gid) = refl

pages_same : (node : Node) → file_pages node ≡ pages_in node
pages_same (File uid gid size logged pages) = refl
pages_same (Directory uid gid) = refl

asked_of : (tree : Fileset) (offset : ℕ) (bytes : List ℕ) (node : Node) → is_directory node ≡ false → write_quota tree offset bytes node ≡ quota_refusal tree (uid_of node) (gid_of node) 0 (16 * absent_pages (pages_in node) offset (length bytes))
asked_of tree offset bytes (File uid gid size logged pages) is = refl
asked_of tree offset bytes (Directory uid gid) is = absurd (cc)

module _ (memory : DomainMemory) (all : FilesetMap) (place : Place) (number : ℕ) (tag : Tag) (p : IsPlaced memory all place number tag kind.File) (offset : ℕ) (bytes : List ℕ) where
  abbrev node : Node
  node = (its memory all place number tag p).node

  abbrev tree : Fileset
  tree = p.fileset.tree

  node_there : node_at tree place.path ≡ Some node
  node_there = (its memory all place number tag p).there

  pub pages_there : pages_at tree place.path ≡ pages_in node
  pages_there = ap (λ (o : Option Node). option_map_or pages_in o empty) node_there

  -- after the end of all files, and then a quota
  write_refusal : refusal_of all (Write place offset bytes) ≡ first_refusal (refuse_if (nat_lt file_bytes (offset + length bytes)) TooFar ∷ quota_refusal tree (uid_of node) (gid_of node) 0 (16 * absent_pages (pages_in node) offset (length bytes)) ∷ [])
  write_refusal =
      filing_file memory all place number tag kind.File p (λ slot. refuse_if (nat_lt file_bytes (offset + length bytes)) TooFar ∷ option_map_or (write_quota slot.tree offset bytes) (node_at slot.tree place.path) None ∷ []) refl
      ∙ ap (λ (o : Option Node). first_refusal (refuse_if (nat_lt file_bytes (offset + length bytes)) TooFar ∷ option_map_or (write_quota tree offset bytes) o None ∷ [])) node_there
      ∙ ap (λ (o : Option Refusal). first_refusal (refuse_if (nat_lt file_bytes (offset + length bytes)) TooFar ∷ o ∷ [])) (asked_of tree offset bytes node (is_file memory all place number tag p))

  pub refuses_far : file_bytes < offset + length bytes → refusal_of all (Write place offset bytes) ≡ Some TooFar
  refuses_far far = write_refusal ∙ ap (λ b. first_refusal (refuse_if b TooFar ∷ quota_refusal tree (uid_of node) (gid_of node) 0 (16 * absent_pages (pages_in node) offset (length bytes)) ∷ [])) (lt-ltb file_bytes (offset + length bytes) far)

  last_refusal : (o : Option Refusal) → first_refusal (o ∷ []) ≡ o
  last_refusal None = refl
  last_refusal (Some refusal) = refl

  module _ (near : offset + length bytes ≤ file_bytes) (uid gid blocks : ℕ) (ids : HasIds node uid gid) (absent : ℕ) (counted : absent ≡ absent_pages (pages_at tree place.path) offset (length bytes)) (are : blocks ≡ 16 * absent) where
    blocks_are : blocks ≡ 16 * absent_pages (pages_in node) offset (length bytes)
    blocks_are = are ∙ ap (λ n. 16 * n) (counted ∙ ap (λ (pages : Pages). absent_pages pages offset (length bytes)) pages_there)

    -- so nothing but a quota refuses it
    pub refuses_over : (over : Option Refusal) → over ≡ quota_refusal tree uid gid 0 blocks → refusal_of all (Write place offset bytes) ≡ over
    refuses_over over is =
        write_refusal
        ∙ ap (λ b. first_refusal (refuse_if b TooFar ∷ quota_refusal tree (uid_of node) (gid_of node) 0 (16 * absent_pages (pages_in node) offset (length bytes)) ∷ [])) (le-ltb file_bytes (offset + length bytes) near)
        ∙ last_refusal (quota_refusal tree (uid_of node) (gid_of node) 0 (16 * absent_pages (pages_in node) offset (length bytes)))
        ∙ sym (is ∙ (λ i. quota_refusal tree (ids.user i) (ids.group i) 0 (blocks_are i)))

    pub answers_written : (last : DomainMemory) → MayBeKept memory all → StandsChanged place.path (written_node offset bytes) all p.entry p.fileset last → HaveParents (staged_in last)
        → ChangesOneBook number (Charges uid gid 0 blocks) memory last → refusal_of all (Write place offset bytes) ≡ None → IsAnswered last all (Write place offset bytes) (Count (length bytes))
    answers_written last was stands parents one allowed =
        answers_changed memory all place number tag p (written_node offset bytes) (written_ids offset bytes) last stands parents
        (books_charged memory all place number tag p (written_node offset bytes) (written_ids offset bytes) uid gid ids.user ids.group blocks last stands was.books more one)
        (Write place offset bytes) (Count (length bytes)) allowed refl (in_tree memory all place number tag p (written_node offset bytes) (written_ids offset bytes))
      where
        more : blocks_of (written_node offset bytes node) ≡ blocks_of node + blocks
        more = blocks_written offset bytes node (is_file memory all place number tag p) ∙ ap (λ n. blocks_of node + n) (sym blocks_are)

  -- it is asked so
  pub asked_there : offset + length bytes ≤ file_bytes → (what : Attributes) → IsWhatIs place.path tag tree what → (absent blocks : ℕ) → absent ≡ absent_pages (pages_at tree place.path) offset (length bytes) → blocks ≡ 16 * absent
      → (over : Option Refusal) → over ≡ quota_refusal tree what.uid what.gid 0 blocks → refusal_of all (Write place offset bytes) ≡ over
  asked_there near what told absent blocks counted are over asked =
      refuses_over near what.uid what.gid blocks (ids_there (node_at tree place.path) node node_there what told.node) absent counted are over asked

  -- ---- if a page is wanted

  takes_space : Any (λ q. contains_key (pages_at tree place.path) q ≡ false) (pages_of offset (length bytes)) → TakesSpace all (Write place offset bytes)
  takes_space some = subst (λ (pages : Pages). Any (λ q. contains_key pages q ≡ false) (pages_of offset (length bytes))) (pages_there ∙ sym told) some
    where
      told : pages_told all place ≡ pages_in node
      told =
          ap (λ (o : Option FilesetSlot). option_map_or (λ (slot : FilesetSlot). option_map_or file_pages (node_at slot.tree place.path) empty) o empty) p.here
          ∙ ap (λ (o : Option Node). option_map_or file_pages o empty) node_there
          ∙ pages_same node

  pub takes_absent : (absent : ℕ) → absent ≡ absent_pages (pages_at tree place.path) offset (length bytes) → 1 ≤ absent → TakesSpace all (Write place offset bytes)
  takes_absent absent counted some = takes_space (some_absent (pages_at tree place.path) offset (length bytes) (subst (λ n. 1 ≤ n) counted some))

  pub takes_wanted : WantsPage memory number tag offset bytes → TakesSpace all (Write place offset bytes)
  takes_wanted wants =
      let at = wants.within in
      takes_space (at.0, wants.page, at.1, at.2, wants.absent place.path all p.entry p.fileset (file_of memory all place number tag kind.File p))

-- so it is of all filesets that memory stands for
pub wants_all : {X : Type 0} (memory : DomainMemory) (place : Place) (offset : ℕ) (bytes : List ℕ) (r : Result X Stop) → ((all : FilesetMap) → StandsFor memory all → IfErr r (λ stop. stop ≡ NoPage → TakesSpace all (Write place offset bytes)))
    → IfErr r (λ stop. stop ≡ NoPage → LacksPage (Write place offset bytes) memory)
wants_all memory place offset bytes (Ok x) wants = tt
wants_all memory place offset bytes (Err stop) wants = λ wanted all stands. wants all stands wanted

-- if a call wants a page
pub wants_from : {X : Type 0} (T : Type 0) (r : Result X Stop) (why : StoreFault) → IsErrAnd r (λ e. e ≡ stop_of why) → (why ≡ fault.NoPage → T) → IfErr r (λ stop. stop ≡ NoPage → T)
wants_from T (Ok x) why same then = tt
wants_from T (Err e) why same then = λ is. by_fault why (sym same ∙ is) then
  where
    by_fault : (f : StoreFault) → stop_of f ≡ NoPage → (f ≡ fault.NoPage → T) → T
    by_fault fault.NoPage is so = so refl
    by_fault fault.OutOfMemory is so = absurd (cc)

-- ---- a flag, by its contrary

pub not_set : (flag : Bool) → not flag ≡ true → flag ≡ false
not_set false is = refl
not_set true is = absurd (true≢false (sym is))

pub is_set : (flag : Bool) → not flag ≡ false → flag ≡ true
is_set true is = refl
is_set false is = absurd (true≢false is)
