-- A file of a domain's memory whose node changes, and the books of its fileset.
use Rattle.std.proofs.Common.{◌≡◌, ◌∙◌, ◌+◌, ◌==◌, ℕ, Bool, true, false, cond, [], Option, Some, None, IsSomeAnd, inl, refl, sym, ap, subst, arith, true≢false}
use Rattle.std.proofs.lemmas.Bool.{eqb-true}
use Rattle.std.specs.FinMap.{get, insert}
use Rattle.std.specs.Option.{option_and_then, option_map, option_map_or}
use Rattle.name_commands.specs.domain_base.declared.place.Kind.TheVariants as kind
use Rattle.name_commands.specs.domain_base.declared.place.Tag.{Tag}
use Rattle.name_commands.proofs.OfReleaseList.Spread.{some_same}
use Rattle.name_commands.specs.legal_histories.Valid.{HasWholePages, IsValidAs, IsValidFileset}
use Rattle.name_commands.specs.fileset_model.Apply.{Changes, answer_of, refusal_of, with_change, with_tree}
use Rattle.name_commands.specs.fileset_model.Fileset.{Fileset}
use Rattle.name_commands.specs.fileset_model.Filesets.{FilesetMap}
use Rattle.name_commands.specs.fileset_values.Orders.{Name}
use Rattle.name_commands.specs.fileset_model.Paths.{is_directory, node_at}
use Rattle.name_commands.specs.fileset_model.Usage.{blocks_of, is_owned}
use Rattle.name_commands.specs.fileset_values.declared.command.Command.{Command}
use Rattle.name_commands.specs.fileset_values.declared.command.Place.{Place}
use Rattle.name_commands.specs.fileset_model.declared.fileset.FilesetSlot.{FilesetSlot}
use Rattle.name_commands.specs.fileset_model.declared.fileset.Role.{Role}
use Rattle.name_commands.specs.fileset_model.declared.fileset.Usage.{Usage}
use Rattle.name_commands.specs.fileset_model.declared.node.Node.{Node}
use Rattle.name_commands.specs.fileset_values.declared.reply.Reply.{Reply}
use Rattle.name_commands.specs.name_space.Names.{number_of}
use Rattle.name_commands.specs.quota_book.Book.{Book, Charges, HasAll, Refunds, raised, used}
use Rattle.name_commands.specs.quota_book.Sums.{ChangesNode, CountsMore, IsNotRoot, gid_of, uid_of}
use Rattle.name_commands.proofs.OfQuotaBook.ModelChanges.{changed as node_changed, grown}
use Rattle.name_commands.proofs.OfQuotaBook.Sums.{charged_book, has_enough, refunded_book}
use Rattle.name_commands.specs.domain_changes.Charging.{ChangesOneBook}
use Rattle.name_commands.specs.domain_standing.Standing.{AreBooksOf, HaveParents}
use Rattle.name_commands.proofs.OfDomainChanges.BooksFollow.{books_follow, own_book}
use Rattle.name_commands.specs.domain_memory.Staged.{staged_books, staged_in}
use Rattle.name_commands.specs.domain_memory.declared.memory.DomainMemory.{DomainMemory}
use Rattle.name_commands.proofs.OfFileChanges.Changed.{is_stood}
use Rattle.name_commands.proofs.OfFileChanges.Twice.{NodeAt, has_node, its_node, whole_node}
use Rattle.name_commands.specs.file_changes.Stages.{HasFile, StandsChanged}
use Rattle.name_commands.specs.Coming.{IsAnswered}
use Rattle.name_commands.specs.Placing.{IsPlaced}
use Rattle.name_commands.proofs.Means.{accepted}
use Rattle.name_commands.proofs.PlacedThere.{file_of}

-- another node for the same owners
pub record KeepsIds (change : Node → Node) : Type 0 where
  pub user : (node : Node) → uid_of (change node) ≡ uid_of node
  pub group : (node : Node) → gid_of (change node) ≡ gid_of node

-- nothing that is charged is no change
nothing_more : (b : Bool) (u : Usage) → u ≡ cond b (raised 0 0 u) u
nothing_more true u =
    let files : u.files ≡ u.files + 0 = omega arith in
    let blocks : u.blocks ≡ u.blocks + 0 = omega arith in
    λ i. record { files = files i; blocks = blocks i }
nothing_more false u = refl

pub charged_nothing : (number uid gid : ℕ) (old new : DomainMemory) → new.table ≡ old.table → staged_books new ≡ staged_books old → ChangesOneBook number (Charges uid gid 0 0) old new
charged_nothing number uid gid old new table books = record {
  table = table;
  book = subst (λ (now : ℕ → Book). Charges uid gid 0 0 (staged_books old number) (now number)) (sym books)
      (record { totals = λ who. nothing_more (is_owned who uid gid) (used (staged_books old number) who); limits = refl });
  others = λ n differ. ap (λ (b : ℕ → Book). b n) books;
}

module _ (memory : DomainMemory) (all : FilesetMap) (place : Place) (number : ℕ) (tag : Tag) (p : IsPlaced memory all place number tag kind.File) where
  abbrev tree : Fileset
  tree = p.fileset.tree

  has : HasFile memory number tag place.path all p.entry p.fileset
  has = file_of memory all place number tag kind.File p

  pub its : NodeAt tree place.path
  its = has_node memory number tag place.path all p.entry p.fileset has

  there : get tree.nodes (number_of tag) ≡ Some its.node
  there = its_node memory memory number tag place.path all p.entry p.fileset has its.node its.there

  pub is_file : is_directory its.node ≡ false
  is_file = some_same (is_directory its.node) false (sym (ap (option_map is_directory) its.there) ∙ p.leads.kind)

  pub whole : HasWholePages its.node
  whole = whole_node memory number tag place.path all p.entry p.fileset has its.node its.there

  valid : IsValidFileset tree
  valid = subst (λ (r : Role). IsValidAs r p.fileset) p.role (is_stood memory number tag place.path all p.entry p.fileset has).stood.filled.valid

  not_root : IsNotRoot tree (number_of tag)
  not_root = by_root (get tree.paths []) refl
    where
      by_node : (o : Option Node) → o ≡ Some its.node → IsSomeAnd o (λ node. is_directory node ≡ true) → ⊥
      by_node None none is = absurd is
      by_node (Some node) same is = true≢false (sym is ∙ ap is_directory (some_same node its.node same) ∙ is_file)

      by_test : (root : ℕ) → get tree.paths [] ≡ Some root → (b : Bool) → (root == number_of tag) ≡ b → b ≡ false
      by_test root at false is = refl
      by_test root at true is =
          absurd (by_node (node_at tree []) (ap (option_and_then (get tree.nodes)) (at ∙ ap (λ (n : ℕ). Some n) (eqb-true root (number_of tag) is)) ∙ there) valid.root)

      by_root : (o : Option ℕ) → get tree.paths [] ≡ o → option_map_or (λ n. n == number_of tag) o false ≡ false
      by_root None at = refl
      by_root (Some root) at = by_test root at (root == number_of tag) refl

  module _ (change : Node → Node) (keeps : KeepsIds change) where
    abbrev pub all_now : FilesetMap
    all_now = insert all p.entry.name (record p.fileset { tree = with_change place.path change tree })

    -- filesets whose named one has this node are those with this change of it
    pub in_tree : all_now ≡ with_tree all place.fileset (with_change place.path change)
    in_tree = ap (λ (n : Name). insert all n (record p.fileset { tree = with_change place.path change tree })) p.named
        ∙ sym (ap (λ (o : Option FilesetSlot). option_map_or (λ (s : FilesetSlot). insert all place.fileset (record s { tree = with_change place.path change s.tree })) o all) p.here)

    changes : ChangesNode (number_of tag) (Some its.node) (Some (change its.node)) tree (with_change place.path change tree)
    changes = node_changed tree place.path (number_of tag) its.node change p.leads.at not_root there

    module _ (uid gid : ℕ) (user : uid ≡ uid_of its.node) (group : gid ≡ gid_of its.node) (blocks : ℕ) (last : DomainMemory) (stands : StandsChanged place.path change all p.entry p.fileset last) (books : AreBooksOf (staged_books memory) (staged_in memory) all) where
      -- it has so many blocks more, and these are charged
      pub books_charged : blocks_of (change its.node) ≡ blocks_of its.node + blocks → ChangesOneBook number (Charges uid gid 0 blocks) memory last → AreBooksOf (staged_books last) (staged_in last) all_now
      books_charged more one =
          books_follow number p.entry memory all p.fileset p.has.original p.has.there last stands.stands.tables (with_change place.path change tree) one.table one.others
          (λ own. charged_book tree (with_change place.path change tree) (number_of tag) (Some its.node) (Some (change its.node)) uid gid 0 blocks (staged_books memory number) (staged_books last number) own changes counts one.book) books
        where
          counts : CountsMore uid gid 0 blocks (Some its.node) (Some (change its.node))
          counts = subst (λ (u : ℕ). CountsMore u gid 0 blocks (Some its.node) (Some (change its.node))) (sym user)
              (subst (λ (g : ℕ). CountsMore (uid_of its.node) g 0 blocks (Some its.node) (Some (change its.node))) (sym group)
              (grown its.node (change its.node) blocks (keeps.user its.node) (keeps.group its.node) more))

    module _ (uid gid : ℕ) (user : uid ≡ uid_of its.node) (group : gid ≡ gid_of its.node) (blocks : ℕ) (less : blocks_of its.node ≡ blocks_of (change its.node) + blocks) (books : AreBooksOf (staged_books memory) (staged_in memory) all) where
      counts_less : CountsMore uid gid 0 blocks (Some (change its.node)) (Some its.node)
      counts_less = subst (λ (u : ℕ). CountsMore u gid 0 blocks (Some (change its.node)) (Some its.node)) (keeps.user its.node ∙ sym user)
          (subst (λ (g : ℕ). CountsMore (uid_of (change its.node)) g 0 blocks (Some (change its.node)) (Some its.node)) (keeps.group its.node ∙ sym group)
          (grown (change its.node) its.node blocks (sym (keeps.user its.node)) (sym (keeps.group its.node)) less))

      -- it has so many blocks less: its owners use these, and they are refunded
      pub enough_used : HasAll uid gid 0 blocks (used (staged_books memory number))
      enough_used = has_enough tree (with_change place.path change tree) (number_of tag) (Some its.node) (Some (change its.node)) uid gid 0 blocks (staged_books memory number) (own_book number p.entry memory all p.fileset p.has.original p.has.there books) changes counts_less

      pub books_refunded : (last : DomainMemory) → StandsChanged place.path change all p.entry p.fileset last → ChangesOneBook number (Refunds uid gid 0 blocks) memory last → AreBooksOf (staged_books last) (staged_in last) all_now
      books_refunded last stands one =
          books_follow number p.entry memory all p.fileset p.has.original p.has.there last stands.stands.tables (with_change place.path change tree) one.table one.others
          (λ own. refunded_book tree (with_change place.path change tree) (number_of tag) (Some its.node) (Some (change its.node)) uid gid 0 blocks (staged_books memory number) (staged_books last number) own changes counts_less one.book) books

    -- so a command that changes it is answered
    pub answers_changed : (last : DomainMemory) → StandsChanged place.path change all p.entry p.fileset last → HaveParents (staged_in last) → AreBooksOf (staged_books last) (staged_in last) all_now
        → (command : Command) (reply : Reply) → refusal_of all command ≡ None → reply ≡ answer_of all command → Changes all command all_now → IsAnswered last all command reply
    answers_changed last stands parents books command reply allowed answer does = record {
      now = all_now;
      kept = record { staged = stands; parents = parents; books = books };
      means = inl (accepted all command reply all_now allowed answer does);
    }
