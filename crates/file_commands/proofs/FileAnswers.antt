-- Files that are truncated, and files whose data is logged from now on or not: what is refused of them, and what is answered.
use Rattle.std.proofs.Common.{◌≡◌, ◌≢◌, ◌∙◌, ◌∷◌, ◌+◌, ◌≤◌, ℕ, Bool, [], List, Option, None, Some, IsSomeAnd, Result, Ok, Err, IfErr, nat_lt, refl, sym, ap, subst, arith}
use Rattle.std.proofs.Math.Logic.{∥∥₁_elim, ∥∥₁_map}
use Rattle.std.proofs.lemmas.Bool.{le-ltb}
use Rattle.std.specs.FinMap.{get}
use Rattle.std.specs.Option.{option_and_then, option_map_or}
use Rattle.std.specs.Result.{IsErrAnd}
use Rattle.name_commands.specs.domain_base.Limits.{file_bytes}
use Rattle.name_commands.specs.domain_base.declared.place.Kind.{Kind}
use Rattle.name_commands.specs.domain_base.declared.place.Kind.TheVariants as kind
use Rattle.name_commands.specs.domain_base.declared.place.Tag.{Tag}
use Rattle.name_commands.specs.fileset_files.declared.attributes.Attributes.{Attributes}
use Rattle.name_commands.specs.fileset_files.Files.{attributes_of, of_live}
use Rattle.name_commands.specs.fileset_model.Apply.{flagged_node, in_fileset, read_only, truncated_node}
use Rattle.name_commands.specs.fileset_model.Filesets.{FilesetMap}
use Rattle.name_commands.specs.fileset_model.Paths.{directory_here, first_refusal, refuse_if, target_refusal}
use Rattle.name_commands.specs.fileset_model.Usage.{blocks_of}
use Rattle.name_commands.specs.fileset_values.declared.command.Command.{Command}
use Rattle.name_commands.specs.fileset_values.declared.command.Command.TheVariants.{Chfile, Truncate}
use Rattle.name_commands.specs.fileset_values.declared.command.Place.{Place}
use Rattle.name_commands.specs.fileset_model.declared.fileset.FilesetSlot.{FilesetSlot}
use Rattle.name_commands.specs.fileset_model.declared.node.Node.{Node}
use Rattle.name_commands.specs.fileset_model.declared.node.Node.TheVariants.{Directory, File}
use Rattle.name_commands.specs.fileset_values.declared.reply.Refusal.{Refusal}
use Rattle.name_commands.specs.fileset_values.declared.reply.Refusal.TheVariants.{IsDirectory, NoFileset, TooFar}
use Rattle.name_commands.specs.fileset_values.declared.reply.Reply.{Reply}
use Rattle.name_commands.specs.fileset_values.declared.reply.Reply.TheVariants.{Done}
use Rattle.name_commands.specs.name_space.Names.{is_directory_kind}
use Rattle.name_commands.specs.quota_book.Book.{Refunds}
use Rattle.name_commands.specs.quota_book.Sums.{gid_of, uid_of}
use Rattle.name_commands.specs.domain_changes.Charging.{ChangesOneBook}
use Rattle.name_commands.specs.domain_standing.Standing.{HaveParents}
use Rattle.name_commands.specs.domain_state.History.{StandsForSome}
use Rattle.name_commands.specs.domain_memory.Memory.{StandsFor}
use Rattle.name_commands.specs.domain_memory.Staged.{IsSettled, IsStagedForSome, MayBeKept, staged_books, staged_in}
use Rattle.name_commands.specs.domain_memory.declared.memory.DomainMemory.{DomainMemory}
use Rattle.name_commands.proofs.OfDomainMemory.SettledKept.{settled_kept}
use Rattle.name_commands.specs.name_changes.Looking.{IsLiveIn, IsSame}
use Rattle.name_commands.specs.file_changes.Reading.{IsDescribed, IsThereIn}
use Rattle.name_commands.specs.file_changes.Stages.{StandsChanged}
use Rattle.name_commands.specs.Coming.{IsAnswered}
use Rattle.name_commands.specs.Ending.{EndsAs, StopsAs}
use Rattle.name_commands.specs.Placing.{IsLost, IsPlaced, IsPlacedForSome}
use Rattle.name_commands.specs.declared.stop.Stop.{Stop}
use Rattle.name_commands.specs.declared.stop.Stop.TheVariants.{NoPage, OutOfMemory}
use Rattle.file_commands.proofs.Filed.{KeepsIds, answers_changed, books_charged, books_refunded, charged_nothing, in_tree, its}
use Rattle.name_commands.proofs.Means.{in_this}
use Rattle.name_commands.proofs.PlacedThere.{directory_is, placed_is}
use Rattle.name_commands.proofs.Shares.{is_there}
use Rattle.name_commands.proofs.Still.{stands_still}
use Rattle.name_commands.proofs.ToldAgain.{original_writable}

-- ---- what is known of a place

pub as_kind : (memory : DomainMemory) (all : FilesetMap) (place : Place) (number : ℕ) (tag : Tag) (of is : Kind) → of ≡ is → IsPlaced memory all place number tag of → IsPlaced memory all place number tag is
as_kind memory all place number tag of is same p = subst (IsPlaced memory all place number tag) same p

pub staged_placed : (memory : DomainMemory) (number : ℕ) (tag : Tag) (of : Kind) → IsSettled memory → ∥ IsPlacedForSome memory number tag of ∥₁ → ∥ IsStagedForSome memory ∥₁
staged_placed memory number tag of settled placed = ∥∥₁_map placed (λ s. (s.all, (settled_kept memory s.all settled s.stands).staged))

-- whose it is, by what is told of it
pub record HasIds (node : Node) (uid gid : ℕ) : Type 0 where
  pub user : uid ≡ uid_of node
  pub group : gid ≡ gid_of node

pub ids_told : (node : Node) (what : Attributes) → IsDescribed what node → HasIds node what.uid what.gid
ids_told (File uid gid size logged pages) what is = record { user = is.1; group = is.2 }
ids_told (Directory uid gid) what is = record { user = is.1; group = is.2 }

pub ids_there : (o : Option Node) (node : Node) → o ≡ Some node → (what : Attributes) → IsSomeAnd o (IsDescribed what) → HasIds node what.uid what.gid
ids_there o node there what is = ids_told node what (subst (λ (x : Option Node). IsSomeAnd x (IsDescribed what)) there is)

-- ---- what is refused

module _ (memory : DomainMemory) (all : FilesetMap) (place : Place) (number : ℕ) (tag : Tag) (of : Kind) (p : IsPlaced memory all place number tag of) (rest : FilesetSlot → List (Option Refusal)) where
  filing_refusal : in_fileset all place.fileset (λ slot. read_only slot ∷ target_refusal slot place.path ∷ directory_here slot place.path ∷ rest slot) ≡ first_refusal (refuse_if (is_directory_kind of) IsDirectory ∷ rest p.fileset)
  filing_refusal =
      in_this all place.fileset p.fileset (λ slot. read_only slot ∷ target_refusal slot place.path ∷ directory_here slot place.path ∷ rest slot) p.here
      ∙ (λ i. first_refusal (original_writable p.fileset p.role i ∷ p.leads.allowed i ∷ directory_is memory all place number tag of p i ∷ rest p.fileset))

  -- a directory is, and of a file what is asked after that
  pub filing_directory : of ≡ kind.Directory → in_fileset all place.fileset (λ slot. read_only slot ∷ target_refusal slot place.path ∷ directory_here slot place.path ∷ rest slot) ≡ Some IsDirectory
  filing_directory is = filing_refusal ∙ ap (λ k. first_refusal (refuse_if (is_directory_kind k) IsDirectory ∷ rest p.fileset)) is

  pub filing_file : of ≡ kind.File → in_fileset all place.fileset (λ slot. read_only slot ∷ target_refusal slot place.path ∷ directory_here slot place.path ∷ rest slot) ≡ first_refusal (rest p.fileset)
  filing_file is = filing_refusal ∙ ap (λ k. first_refusal (refuse_if (is_directory_kind k) IsDirectory ∷ rest p.fileset)) is

-- ---- nodes for the same owners

pub flagged_ids : (logged : Bool) → KeepsIds (flagged_node logged)
flagged_ids logged = record { user = user; group = group }
  where
    user : (node : Node) → uid_of (flagged_node logged node) ≡ uid_of node
    user (File uid gid size was pages) = refl
    user (Directory uid gid) = refl

    group : (node : Node) → gid_of (flagged_node logged node) ≡ gid_of node
    group (File uid gid size was pages) = refl
    group (Directory uid gid) = refl

flagged_blocks : (logged : Bool) (node : Node) → blocks_of (flagged_node logged node) ≡ blocks_of node + 0
flagged_blocks logged (File uid gid size was pages) = omega arith
flagged_blocks logged (Directory uid gid) = refl

pub cut_ids : (size : ℕ) → KeepsIds (truncated_node size)
cut_ids size = record { user = user; group = group }
  where
    user : (node : Node) → uid_of (truncated_node size node) ≡ uid_of node
    user (File uid gid was logged pages) = refl
    user (Directory uid gid) = refl

    group : (node : Node) → gid_of (truncated_node size node) ≡ gid_of node
    group (File uid gid was logged pages) = refl
    group (Directory uid gid) = refl

-- ---- what is answered

module _ (memory : DomainMemory) (all : FilesetMap) (place : Place) (number : ℕ) (tag : Tag) (p : IsPlaced memory all place number tag kind.File) (was : MayBeKept memory all) (last : DomainMemory) (parents : HaveParents (staged_in last)) where
  abbrev node : Node
  node = (its memory all place number tag p).node

  pub answers_flagged : (logged : Bool) → StandsChanged place.path (flagged_node logged) all p.entry p.fileset last → last.table ≡ memory.table → staged_books last ≡ staged_books memory → IsAnswered last all (Chfile place logged) Done
  answers_flagged logged stands table books =
      answers_changed memory all place number tag p (flagged_node logged) (flagged_ids logged) last stands parents
      (books_charged memory all place number tag p (flagged_node logged) (flagged_ids logged) (uid_of node) (gid_of node) refl refl 0 last stands was.books (flagged_blocks logged node) (charged_nothing number (uid_of node) (gid_of node) memory last table books))
      (Chfile place logged) Done
      (filing_file memory all place number tag kind.File p (λ slot. []) refl) refl (in_tree memory all place number tag p (flagged_node logged) (flagged_ids logged))

  pub answers_cut : (size : ℕ) → size ≤ file_bytes → StandsChanged place.path (truncated_node size) all p.entry p.fileset last → (uid gid gone : ℕ) → HasIds node uid gid → blocks_of node ≡ blocks_of (truncated_node size node) + gone
      → ChangesOneBook number (Refunds uid gid 0 gone) memory last → IsAnswered last all (Truncate place size) Done
  answers_cut size fits stands uid gid gone ids less one =
      answers_changed memory all place number tag p (truncated_node size) (cut_ids size) last stands parents
      (books_refunded memory all place number tag p (truncated_node size) (cut_ids size) uid gid ids.user ids.group gone less was.books last stands one)
      (Truncate place size) Done
      (filing_file memory all place number tag kind.File p (λ slot. refuse_if (nat_lt file_bytes size) TooFar ∷ []) refl
      ∙ ap (λ b. first_refusal (refuse_if b TooFar ∷ [])) (le-ltb file_bytes size fits))
      refl (in_tree memory all place number tag p (truncated_node size) (cut_ids size))

-- ---- before and after

pub placed_some : (memory last : DomainMemory) → IsSame memory last → (place : Place) (number : ℕ) (tag : Tag) (of : Kind) → ∥ StandsForSome memory ∥₁ → ((all : FilesetMap) → StandsFor memory all → IsPlaced memory all place number tag of) → ∥ IsPlacedForSome last number tag of ∥₁
placed_some memory last same place number tag of stands placed = ∥∥₁_map stands (λ s. record {
  all = s.0;
  stands = stands_still memory last same s.0 s.1;
  place = place;
  placed = placed_is memory last same s.0 place number tag of (placed s.0 s.1);
})

-- what is not found wants no page
lost_found : (all : FilesetMap) (place : Place) → IsLost all place NoPage → ⊥
lost_found all place lost = by_get (get all place.fileset) (lost (λ slot. Some NoFileset ∷ []))
  where
    by_target : (o : Option Refusal) → first_refusal (o ∷ Some NoFileset ∷ []) ≡ None → ⊥
    by_target None e = absurd (cc)
    by_target (Some refusal) e = absurd (cc)

    by_get : (o : Option FilesetSlot) → option_map_or (λ (s : FilesetSlot). first_refusal (target_refusal s place.path ∷ Some NoFileset ∷ [])) o (Some NoFileset) ≡ None → ⊥
    by_get None e = absurd (cc)
    by_get (Some s) e = by_target (target_refusal s place.path) e

pub lost_wants_none : (memory : DomainMemory) (place : Place) (stop : Stop) → ∥ StandsForSome memory ∥₁ → ((all : FilesetMap) → StandsFor memory all → IsLost all place stop) → stop ≢ NoPage
lost_wants_none memory place stop stands lost wanted = ∥∥₁_elim stands (λ x y. absurd x) (λ s. lost_found s.0 place (subst (IsLost s.0 place) wanted (lost s.0 s.1)))

pub is_there_file : (memory : DomainMemory) (number : ℕ) (tag : Tag) (of : Kind) → IsLiveIn memory number tag of → IsThereIn memory number tag
is_there_file memory number tag of live = λ chains are. is_there of (option_and_then (of_live attributes_of) (chains tag)) (live chains are)

-- where memory was short
pub ends_short : (memory : DomainMemory) (all : FilesetMap) (command : Command) (r : Result Reply Stop) → IsErrAnd r (λ e. e ≡ OutOfMemory) → EndsAs memory all command r
ends_short memory all command (Ok reply) same = absurd same
ends_short memory all command (Err e) same = subst (StopsAs all command) (sym same) tt

pub short_wants_none : {X : Type 0} (r : Result X Stop) → IsErrAnd r (λ e. e ≡ OutOfMemory) → IfErr r (λ stop. stop ≢ NoPage)
short_wants_none (Ok x) same = tt
short_wants_none (Err e) same = λ wanted. differ (sym same ∙ wanted)
  where
    differ : OutOfMemory ≡ NoPage → ⊥
    differ is = cc
