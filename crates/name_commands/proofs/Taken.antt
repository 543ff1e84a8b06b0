-- A path that is taken away in a domain's memory, answered.
use Rattle.std.proofs.Common.{◌≡◌, ◌≢◌, ◌∙◌, ◌++◌, ◌∷◌, [], ℕ, Bool, true, false, not, List, Option, Some, None, Result, Ok, Err, IfErr, IsSomeAnd, inl, refl, sym, ap, subst, true≢false}
use Rattle.std.specs.FinMap.{insert}
use Rattle.std.specs.List.{list_any}
use Rattle.domain_changes.specs.domain_base.declared.place.Kind.{Kind}
use Rattle.domain_changes.specs.domain_base.declared.place.Kind.TheVariants as kind
use Rattle.domain_changes.specs.domain_base.declared.place.Tag.{Tag}
use Rattle.domain_changes.specs.fileset_model.Apply.{Changes, answer_of, is_clone, is_named_elsewhere, not_empty, read_only, refusal_of, without}
use Rattle.domain_changes.specs.fileset_model.Filesets.{FilesetMap}
use Rattle.domain_changes.specs.fileset_model.Paths.{directory_here, file_here, first_refusal, node_at, refuse_if, target_refusal}
use Rattle.domain_changes.specs.fileset_values.declared.command.Place.{Place}
use Rattle.domain_changes.specs.fileset_model.declared.fileset.FilesetSlot.{FilesetSlot}
use Rattle.domain_changes.specs.fileset_model.declared.fileset.Role.{Role}
use Rattle.domain_changes.specs.fileset_values.declared.reply.Refusal.{Refusal}
use Rattle.domain_changes.specs.fileset_values.declared.reply.Refusal.TheVariants.{NoFileset, ReadOnly}
use Rattle.domain_changes.specs.fileset_values.declared.reply.Reply.TheVariants.{Done}
use Rattle.domain_changes.specs.fileset_table.Table.{has_name}
use Rattle.domain_changes.specs.name_space.Changes.{Checks, taking_checks}
use Rattle.domain_changes.specs.name_space.declared.fault.NameFault.{NameFault}
use Rattle.domain_changes.specs.name_space.declared.fault.NameFault.TheVariants as fault
use Rattle.domain_changes.specs.name_space.Names.{number_of}
use Rattle.domain_changes.specs.quota_book.Book.{Book, HasAll, Refunds, used}
use Rattle.domain_changes.specs.quota_book.Sums.{IsBookOf}
use Rattle.domain_changes.proofs.OfQuotaBook.Unchanged.{unlinked_same}
use Rattle.domain_changes.specs.domain_standing.Standing.{AreBooksOf, HaveParents}
use Rattle.domain_changes.specs.domain_memory.Memory.{StandsFor}
use Rattle.domain_changes.specs.domain_memory.Staged.{IsSettled, IsStaged, staged_books, staged_in}
use Rattle.domain_changes.specs.domain_memory.declared.memory.DomainMemory.{DomainMemory}
use Rattle.domain_changes.specs.Charging.{ChangesOneBook}
use Rattle.domain_changes.proofs.BooksFollow.{books_follow, one_before, own_book}
use Rattle.name_changes.specs.Looking.{LeadsTo}
use Rattle.name_changes.specs.Stages.{IsRefused, KeepsParents, Removes}
use Rattle.file_changes.specs.Stages.{HasFile}
use Rattle.name_commands.specs.Coming.{IsAnswered}
use Rattle.name_commands.specs.Ending.{StopsAs, StopsWith}
use Rattle.name_commands.specs.Leaving.{IsShareOf, taking}
use Rattle.name_commands.specs.declared.leaving.Share.{Share}
use Rattle.name_commands.specs.declared.stop.Stop.{Stop}
use Rattle.name_commands.specs.declared.stop.Stop.TheVariants.{NoPage, Refused}
use Rattle.name_commands.proofs.Given.{Given}
use Rattle.name_commands.proofs.Gone.{IsLast, enough_there, is_last, refunded_there}
use Rattle.name_commands.proofs.Linked.{as_they_are, with_its_tree}
use Rattle.name_commands.proofs.Means.{accepted, in_this}
use Rattle.name_commands.proofs.Removal.{refuses_none}

-- no fileset has the name
pub no_taking : (memory : DomainMemory) (place : Place) → IsSettled memory → list_any (has_name place.fileset) memory.table.slots ≡ false → (all : FilesetMap) → StandsFor memory all → (of : Kind) → refusal_of all (taking of place) ≡ Some NoFileset
no_taking memory place settled none all stands kind.File = refuses_none memory place.fileset settled none all stands (λ s. read_only s ∷ target_refusal s place.path ∷ directory_here s place.path ∷ [])
no_taking memory place settled none all stands kind.Directory = refuses_none memory place.fileset settled none all stands (λ s. read_only s ∷ target_refusal s place.path ∷ file_here s place.path ∷ not_empty s place.path ∷ [])

-- if no page was wanted below, none is wanted
some_refused : (refusal : Refusal) → Some refusal ≡ None → ⊥
some_refused refusal e = cc

pub stops_without : (f : NameFault) → f ≢ fault.NoPage → FilesetSlot → (stop : Stop) → ((checks : Checks) (fileset : FilesetSlot) → IsRefused checks fileset f → StopsWith (first_refusal (checks fileset ++ None ∷ [])) stop) → stop ≢ NoPage
stops_without (fault.Refused refusal) other fileset stop told wanted = some_refused refusal (subst (StopsWith (Some refusal)) wanted (told (λ s. Some refusal ∷ []) fileset refl))
stops_without fault.NoPage other fileset stop told wanted = other refl
stops_without fault.OutOfMemory other fileset stop told wanted = some_refused NoFileset (subst (StopsWith (Some NoFileset)) wanted (told (λ s. Some NoFileset ∷ []) fileset tt))

pub never_wanted : {A : Type 0} (P : Type 0) (r : Result A Stop) → IfErr r (λ stop. stop ≢ NoPage) → IfErr r (λ stop. stop ≡ NoPage → P)
never_wanted P (Ok a) never = tt
never_wanted P (Err stop) never = λ wanted. absurd (never wanted)

-- whose it is that a path leads to
pub its_share : (memory : DomainMemory) (number : ℕ) (place : Place) (all : FilesetMap) (g : Given memory number place.fileset all) (tag : Tag) (of : Kind) (share : Share) → LeadsTo place.path g.fileset tag of
    → (HasFile memory number tag place.path all g.entry g.fileset → LeadsTo place.path g.fileset tag of → IsSomeAnd (node_at g.fileset.tree place.path) (IsShareOf share)) → IsSomeAnd (node_at g.fileset.tree place.path) (IsShareOf share)
its_share memory number place all g tag of share leads is = is (record { staged = g.has.staged; original = g.has.original; there = g.has.there; at = leads.at }) leads

module _ (memory : DomainMemory) (number : ℕ) (place : Place) (all : FilesetMap) (g : Given memory number place.fileset all) (of : Kind) where
  pub taking_refusal : refusal_of all (taking of place) ≡ first_refusal (taking_checks of place.path g.fileset)
  taking_refusal = by_kind of
    where
      by_kind : (k : Kind) → refusal_of all (taking k place) ≡ first_refusal (taking_checks k place.path g.fileset)
      by_kind kind.File = in_this all place.fileset g.fileset (λ s. read_only s ∷ target_refusal s place.path ∷ directory_here s place.path ∷ []) g.here
          ∙ ap (λ (r : Role). first_refusal (refuse_if (is_clone r) ReadOnly ∷ target_refusal g.fileset place.path ∷ directory_here g.fileset place.path ∷ [])) g.role
      by_kind kind.Directory = in_this all place.fileset g.fileset (λ s. read_only s ∷ target_refusal s place.path ∷ file_here s place.path ∷ not_empty s place.path ∷ []) g.here
          ∙ ap (λ (r : Role). first_refusal (refuse_if (is_clone r) ReadOnly ∷ target_refusal g.fileset place.path ∷ file_here g.fileset place.path ∷ not_empty g.fileset place.path ∷ [])) g.role

  pub taking_stops : (stop : Stop) → StopsWith (first_refusal (taking_checks of place.path g.fileset ++ None ∷ [])) stop → StopsAs all (taking of place) stop
  taking_stops stop stops = subst (λ (o : Option Refusal). StopsWith o stop) (as_they_are (taking_checks of place.path g.fileset) ∙ sym taking_refusal) stops

  -- what is refused on the way is refused first
  pub taking_led : (refusal : Refusal) → target_refusal g.fileset place.path ≡ Some refusal → StopsAs all (taking of place) (Refused refusal)
  taking_led refusal is = taking_refusal ∙ by_kind of
    where
      first : (rest : List (Option Refusal)) (o : Option Refusal) → o ≡ Some refusal → first_refusal (o ∷ rest) ≡ Some refusal
      first rest None wrong = absurd (cc)
      first rest (Some told) same = same

      by_kind : (k : Kind) → first_refusal (taking_checks k place.path g.fileset) ≡ Some refusal
      by_kind kind.File = first _ (target_refusal g.fileset place.path) is
      by_kind kind.Directory = first _ (target_refusal g.fileset place.path) is

  module _ (named : ¬ place.path ≡ []) (share : Share) (its : IsSomeAnd (node_at g.fileset.tree place.path) (IsShareOf share)) (mid : DomainMemory) (tag : Tag) (gone : Bool) (removes : Removes (taking_checks of place.path) place.path all g.entry g.fileset mid tag gone) where
    not_false : (b : Bool) → true ≡ not b → b ≡ false
    not_false false is = refl
    not_false true is = absurd (true≢false is)

    not_true : (b : Bool) → false ≡ not b → b ≡ true
    not_true true is = refl
    not_true false is = absurd (true≢false (sym is))

    last_there : gone ≡ true → IsLast g.fileset.tree place.path (number_of tag) share
    last_there is = is_last g.fileset.tree place.path (number_of tag) share removes.was (not_false (is_named_elsewhere g.fileset.tree place.path (number_of tag)) (sym is ∙ removes.last)) its

    pub enough_taken : staged_books mid ≡ staged_books memory → gone ≡ true → HasAll share.uid share.gid 1 share.blocks (used (staged_books mid number))
    enough_taken counted is = subst (λ (books : ℕ → Book). HasAll share.uid share.gid 1 share.blocks (used (books number))) (sym counted)
        (enough_there g.fileset.tree g.valid place.path named (number_of tag) share (last_there is) (staged_books memory number) (own_book number g.entry memory all g.fileset g.has.original g.has.there g.kept.books))

    abbrev all_now : FilesetMap
    all_now = insert all g.entry.name (record g.fileset { tree = without place.path g.fileset.tree })

    module _ (last : DomainMemory) (parents : KeepsParents memory mid) (table : mid.table ≡ memory.table) (counted : staged_books mid ≡ staged_books memory) (refunds : gone ≡ true → ChangesOneBook number (Refunds share.uid share.gid 1 share.blocks) mid last) (left : gone ≡ false → last ≡ mid)
        (domain : staged_in last ≡ staged_in mid) (staged : (every : FilesetMap) → IsStaged mid every → IsStaged last every)
      where
        now_staged : IsStaged last all_now
        now_staged = staged all_now removes.staged

        books_gone : gone ≡ true → AreBooksOf (staged_books last) (staged_in last) all_now
        books_gone is =
            let one = one_before number (Refunds share.uid share.gid 1 share.blocks) memory mid last table counted (refunds is) in
            books_follow number g.entry memory all g.fileset g.has.original g.has.there last now_staged.stands.tables (without place.path g.fileset.tree) one.table one.others
            (λ own. refunded_there g.fileset.tree g.valid place.path named (number_of tag) share (last_there is) (staged_books memory number) (staged_books last number) own one.book) g.kept.books

        books_left : gone ≡ false → AreBooksOf (staged_books last) (staged_in last) all_now
        books_left is =
            let same = left is in
            let books : staged_books last ≡ staged_books memory = ap staged_books same ∙ counted in
            books_follow number g.entry memory all g.fileset g.has.original g.has.there last now_staged.stands.tables (without place.path g.fileset.tree) (ap (λ (m : DomainMemory). m.table) same ∙ table) (λ n differ. ap (λ (b : ℕ → Book). b n) books)
            (λ own. subst (λ (b : ℕ → Book). IsBookOf (b number) (without place.path g.fileset.tree)) (sym books)
            (unlinked_same g.fileset.tree place.path (number_of tag) (staged_books memory number) named removes.was (not_true (is_named_elsewhere g.fileset.tree place.path (number_of tag)) (sym is ∙ removes.last)) own)) g.kept.books

        by_gone : (b : Bool) → gone ≡ b → AreBooksOf (staged_books last) (staged_in last) all_now
        by_gone true is = books_gone is
        by_gone false is = books_left is

        done : (k : Kind) → Done ≡ answer_of all (taking k place)
        done kind.File = refl
        done kind.Directory = refl

        changes : (k : Kind) → Changes all (taking k place) all_now
        changes kind.File = with_its_tree memory number place.fileset all g (without place.path)
        changes kind.Directory = with_its_tree memory number place.fileset all g (without place.path)

        pub answers_taken : IsAnswered last all (taking of place) Done
        answers_taken = record {
          now = all_now;
          kept = record {
            staged = now_staged;
            parents = subst HaveParents (sym domain) (parents g.kept.parents);
            books = by_gone gone refl;
          };
          means = inl (accepted all (taking of place) Done all_now (taking_refusal ∙ removes.allowed) (done of) (changes of));
        }
