-- What stands at a path, moved to another in a domain's memory, answered.
use Rattle.std.proofs.Common.{◌≡◌, ◌∙◌, ◌++◌, ◌∷◌, [], ℕ, Bool, true, false, cond, not, Option, Some, None, IsSomeAnd, is_some, inl, refl, sym, ap, subst, true≢false}
use Rattle.std.specs.FinMap.{contains_key, get, insert}
use Rattle.std.specs.Option.{option_and_then, option_map}
use Rattle.domain_changes.specs.domain_base.declared.place.Tag.{Tag}
use Rattle.domain_changes.proofs.OfReleaseList.Spread.{some_same}
use Rattle.domain_changes.specs.fileset_model.Apply.{is_named_elsewhere, moved, move_checks, read_only, refusal_of, rename_checks, renamed, without}
use Rattle.domain_changes.specs.fileset_model.Fileset.{Fileset}
use Rattle.domain_changes.specs.fileset_model.Filesets.{FilesetMap}
use Rattle.domain_changes.specs.fileset_values.Orders.{Path}
use Rattle.domain_changes.specs.fileset_model.Paths.{first_refusal, names_one, node_at, refuse_if, target_refusal, walk_refusal}
use Rattle.domain_changes.specs.fileset_values.declared.command.Command.TheVariants.{Rename}
use Rattle.domain_changes.specs.fileset_values.declared.command.Place.{Place}
use Rattle.domain_changes.specs.fileset_model.declared.fileset.FilesetSlot.{FilesetSlot}
use Rattle.domain_changes.specs.fileset_values.declared.reply.Refusal.{Refusal}
use Rattle.domain_changes.specs.fileset_values.declared.reply.Refusal.TheVariants.{NoPath}
use Rattle.domain_changes.specs.fileset_values.declared.reply.Reply.TheVariants.{Done}
use Rattle.domain_changes.specs.name_space.Changes.{replaced_number}
use Rattle.domain_changes.specs.name_space.Names.{number_of}
use Rattle.domain_changes.specs.name_space.declared.rename.Renamed.{Renamed}
use Rattle.domain_changes.specs.quota_book.Book.{Book, HasAll, Refunds, used}
use Rattle.domain_changes.specs.quota_book.Sums.{IsBookOf}
use Rattle.domain_changes.proofs.OfQuotaBook.Unchanged.{moved_same}
use Rattle.domain_changes.specs.domain_standing.Standing.{AreBooksOf, HaveParents}
use Rattle.domain_changes.specs.domain_memory.Staged.{IsStaged, staged_books, staged_in}
use Rattle.domain_changes.specs.domain_memory.declared.memory.DomainMemory.{DomainMemory}
use Rattle.domain_changes.specs.Charging.{ChangesOneBook}
use Rattle.domain_changes.proofs.BooksFollow.{books_follow, one_before, own_book}
use Rattle.name_changes.specs.Stages.{KeepsParents, Renames}
use Rattle.name_changes.proofs.Books.{book_moved}
use Rattle.name_commands.specs.Coming.{IsAnswered}
use Rattle.name_commands.specs.Ending.{StopsAs, StopsWith}
use Rattle.name_commands.specs.Leaving.{IsShareOf}
use Rattle.name_commands.specs.declared.leaving.Share.{Share}
use Rattle.name_commands.specs.declared.stop.Stop.{Stop}
use Rattle.name_commands.proofs.Given.{Given}
use Rattle.name_commands.proofs.Gone.{IsLast, enough_there, is_last, refunded_there}
use Rattle.name_commands.proofs.Linked.{as_they_are, with_its_tree}
use Rattle.name_commands.proofs.Means.{accepted, in_this}

-- what is gone if a rename replaces it
pub record IsReplaced (tree : Fileset) (from to : Path) (number : ℕ) : Type 0 where
  pub apart : names_one tree from to ≡ false
  pub at : get tree.paths to ≡ Some number
  pub last : is_named_elsewhere tree to number ≡ false

pub is_replaced : (tree : Fileset) (from to : Path) (number : ℕ) → replaced_number from to tree ≡ Some number → IsReplaced tree from to number
is_replaced tree from to number is = by_one (names_one tree from to) refl is
  where
    by_named : (n : ℕ) → names_one tree from to ≡ false → get tree.paths to ≡ Some n → (b : Bool) → is_named_elsewhere tree to n ≡ b → cond b None (Some n) ≡ Some number → IsReplaced tree from to number
    by_named n apart at true more same = absurd (cc)
    by_named n apart at false last same = let e = some_same n number same in record {
      apart = apart;
      at = at ∙ same;
      last = subst (λ (k : ℕ). is_named_elsewhere tree to k ≡ false) e last;
    }

    by_number : (o : Option ℕ) → names_one tree from to ≡ false → get tree.paths to ≡ o → option_and_then (λ n. cond (is_named_elsewhere tree to n) None (Some n)) o ≡ Some number → IsReplaced tree from to number
    by_number None apart at same = absurd (cc)
    by_number (Some n) apart at same = by_named n apart at (is_named_elsewhere tree to n) refl same

    by_one : (b : Bool) → names_one tree from to ≡ b → cond b None (option_and_then (λ n. cond (is_named_elsewhere tree to n) None (Some n)) (get tree.paths to)) ≡ Some number → IsReplaced tree from to number
    by_one true one same = absurd (cc)
    by_one false apart same = by_number (get tree.paths to) apart refl same

-- what stands at a path to which the way is free
second_none : (a b c d : Option Refusal) → first_refusal (a ∷ b ∷ c ∷ d ∷ []) ≡ None → c ≡ None
second_none None None None d is = refl
second_none (Some x) b c d is = absurd (cc)
second_none None (Some x) c d is = absurd (cc)
second_none None None (Some x) d is = absurd (cc)

there_free : (slot : FilesetSlot) (path : Path) (number : ℕ) → walk_refusal slot path ≡ None → get slot.tree.paths path ≡ Some number → target_refusal slot path ≡ None
there_free slot path number walk at =
    ap (λ (o : Option Refusal). first_refusal (o ∷ refuse_if (not (contains_key slot.tree.paths path)) NoPath ∷ [])) walk
    ∙ ap (λ (o : Option ℕ). first_refusal (refuse_if (not (is_some o)) NoPath ∷ [])) at

module _ (memory : DomainMemory) (number : ℕ) (place : Place) (to : Path) (all : FilesetMap) (g : Given memory number place.fileset all) where
  pub rename_refusal : refusal_of all (Rename place to) ≡ first_refusal (rename_checks place.path to g.fileset)
  rename_refusal = in_this all place.fileset g.fileset (rename_checks place.path to) g.here

  pub rename_stops : (stop : Stop) → StopsWith (first_refusal (rename_checks place.path to g.fileset ++ None ∷ [])) stop → StopsAs all (Rename place to) stop
  rename_stops stop stops = subst (λ (o : Option Refusal). StopsWith o stop) (as_they_are (rename_checks place.path to g.fileset) ∙ sym rename_refusal) stops

  module _ (named : ¬ place.path ≡ []) (named_to : ¬ to ≡ []) (share : Share) (its : target_refusal g.fileset to ≡ None → IsSomeAnd (node_at g.fileset.tree to) (IsShareOf share)) (mid : DomainMemory) (answer : Renamed) (renames : Renames place.path to all g.entry g.fileset mid answer) where
    abbrev tree_now : Fileset
    tree_now = renamed place.path to g.fileset.tree

    abbrev all_now : FilesetMap
    all_now = insert all g.entry.name (record g.fileset { tree = tree_now })

    last_there : (n : ℕ) → IsReplaced g.fileset.tree place.path to n → IsLast g.fileset.tree to n share
    last_there n r = is_last g.fileset.tree to n share r.at r.last
        (its (there_free g.fileset to n (second_none (read_only g.fileset) (target_refusal g.fileset place.path) (walk_refusal g.fileset to) (cond (names_one g.fileset.tree place.path to) None (first_refusal (move_checks place.path to g.fileset))) renames.allowed) r.at))

    replaced_there : (o : Option Tag) → answer.replaced ≡ o → is_some o ≡ true → (n : ℕ) × IsReplaced g.fileset.tree place.path to n
    replaced_there None is some = absurd (true≢false (sym some))
    replaced_there (Some tag) is some = (number_of tag, is_replaced g.fileset.tree place.path to (number_of tag) (sym renames.replaced ∙ ap (option_map number_of) is))

    pub enough_replaced : staged_books mid ≡ staged_books memory → is_some answer.replaced ≡ true → HasAll share.uid share.gid 1 share.blocks (used (staged_books mid number))
    enough_replaced counted is =
        let r = replaced_there answer.replaced refl is in
        subst (λ (books : ℕ → Book). HasAll share.uid share.gid 1 share.blocks (used (books number))) (sym counted)
        (enough_there g.fileset.tree g.valid to named_to r.0 share (last_there r.0 r.1) (staged_books memory number) (own_book number g.entry memory all g.fileset g.has.original g.has.there g.kept.books))

    module _ (last : DomainMemory) (parents : KeepsParents memory mid) (table : mid.table ≡ memory.table) (counted : staged_books mid ≡ staged_books memory) (refunds : is_some answer.replaced ≡ true → ChangesOneBook number (Refunds share.uid share.gid 1 share.blocks) mid last)
        (left : is_some answer.replaced ≡ false → last ≡ mid) (domain : staged_in last ≡ staged_in mid) (staged : (every : FilesetMap) → IsStaged mid every → IsStaged last every)
      where
        now_staged : IsStaged last all_now
        now_staged = staged all_now renames.staged

        books_gone : is_some answer.replaced ≡ true → AreBooksOf (staged_books last) (staged_in last) all_now
        books_gone is =
            let r = replaced_there answer.replaced refl is in
            let one = one_before number (Refunds share.uid share.gid 1 share.blocks) memory mid last table counted (refunds is) in
            let there : tree_now ≡ moved place.path to (without to g.fileset.tree) = ap (λ (b : Bool). cond b g.fileset.tree (moved place.path to (without to g.fileset.tree))) r.1.apart in
            books_follow number g.entry memory all g.fileset g.has.original g.has.there last now_staged.stands.tables tree_now one.table one.others
            (λ own. subst (IsBookOf (staged_books last number)) (sym there)
            (moved_same (without to g.fileset.tree) place.path to (staged_books last number) named named_to
            (refunded_there g.fileset.tree g.valid to named_to r.0 share (last_there r.0 r.1) (staged_books memory number) (staged_books last number) own one.book))) g.kept.books

        none_replaced : (o : Option Tag) → answer.replaced ≡ o → is_some o ≡ false → replaced_number place.path to g.fileset.tree ≡ None
        none_replaced None is none = sym renames.replaced ∙ ap (option_map number_of) is
        none_replaced (Some tag) is none = absurd (true≢false none)

        books_left : is_some answer.replaced ≡ false → AreBooksOf (staged_books last) (staged_in last) all_now
        books_left is =
            let same = left is in
            let books : staged_books last ≡ staged_books memory = ap staged_books same ∙ counted in
            books_follow number g.entry memory all g.fileset g.has.original g.has.there last now_staged.stands.tables tree_now (ap (λ (m : DomainMemory). m.table) same ∙ table) (λ n differ. ap (λ (b : ℕ → Book). b n) books)
            (λ own. subst (λ (b : ℕ → Book). IsBookOf (b number) tree_now) (sym books)
            (book_moved place.path to g.fileset.tree named named_to (none_replaced answer.replaced refl is) (staged_books memory number) own)) g.kept.books

        by_replaced : (b : Bool) → is_some answer.replaced ≡ b → AreBooksOf (staged_books last) (staged_in last) all_now
        by_replaced true is = books_gone is
        by_replaced false is = books_left is

        pub answers_renamed : IsAnswered last all (Rename place to) Done
        answers_renamed = record {
          now = all_now;
          kept = record {
            staged = now_staged;
            parents = subst HaveParents (sym domain) (parents g.kept.parents);
            books = by_replaced (is_some answer.replaced) refl;
          };
          means = inl (accepted all (Rename place to) Done all_now (rename_refusal ∙ renames.allowed) refl (with_its_tree memory number place.fileset all g (renamed place.path to)));
        }
