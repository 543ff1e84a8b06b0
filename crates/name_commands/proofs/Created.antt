-- A file or directory that is made in a domain's memory, and answered.
use Rattle.std.proofs.Common.{◌≡◌, ◌∙◌, ◌==◌, ◌||◌, ◌++◌, ◌∷◌, ◌⊎◌, ◌*◌, [], ℕ, Bool, true, false, List, Option, Some, None, IsSome, IsSomeAnd, Result, Ok, Err, IfOk, IfErr, inl, refl, sym, ap, subst, true≢false, ⊎_elim}
use Rattle.std.proofs.lemmas.Bool.{eqb-true}
use Rattle.std.specs.Cmp.Lexicographic.{bytes_decides}
use Rattle.std.specs.FinMap.{empty, get, insert, len, len-empty}
use Rattle.std.specs.List.{list_any}
use Rattle.std.specs.Option.{option_map_or}
use Rattle.std.specs.Ordering.{nat_cmp}
use Rattle.domain_changes.specs.domain_base.declared.place.Kind.{Kind}
use Rattle.domain_changes.specs.domain_base.declared.place.Kind.TheVariants as kind
use Rattle.domain_changes.proofs.OfReleaseList.Spread.{some_same}
use Rattle.domain_changes.specs.fileset_model.Apply.{Changes, IsUnused, answer_of, create_checks, is_clone, is_clone_of, path_taken, refusal_of, with_node, with_tree}
use Rattle.domain_changes.specs.fileset_model.Fileset.{Fileset}
use Rattle.domain_changes.specs.fileset_model.Filesets.{FilesetMap}
use Rattle.domain_changes.specs.fileset_values.Orders.{Name}
use Rattle.domain_changes.specs.fileset_model.Paths.{first_refusal, refuse_if, same_name, walk_refusal}
use Rattle.domain_changes.specs.fileset_model.Usage.{quota_refusal}
use Rattle.domain_changes.specs.fileset_values.declared.command.Place.{Place}
use Rattle.domain_changes.specs.fileset_model.declared.fileset.FilesetSlot.{FilesetSlot}
use Rattle.domain_changes.specs.fileset_model.declared.fileset.Role.{Role}
use Rattle.domain_changes.specs.fileset_model.declared.fileset.Role.TheVariants as role
use Rattle.domain_changes.specs.fileset_model.declared.node.Node.{Node}
use Rattle.domain_changes.specs.fileset_values.declared.reply.Refusal.{Refusal}
use Rattle.domain_changes.specs.fileset_values.declared.reply.Refusal.TheVariants.{NoFileset, ReadOnly}
use Rattle.domain_changes.specs.fileset_values.declared.reply.Reply.{Reply}
use Rattle.domain_changes.specs.fileset_values.declared.reply.Reply.TheVariants.{Done}
use Rattle.domain_changes.specs.name_space.Changes.{free_checks, new_node}
use Rattle.domain_changes.specs.name_space.Names.{number_of}
use Rattle.domain_changes.specs.name_space.declared.create.Created.{Created}
use Rattle.domain_changes.specs.quota_book.Book.{Charges}
use Rattle.domain_changes.specs.quota_book.Sums.{ChangesNode, CountsMore, IsNotRoot}
use Rattle.domain_changes.proofs.OfQuotaBook.ModelChanges.{made as node_made, one as counts_one}
use Rattle.domain_changes.proofs.OfQuotaBook.Sums.{charged_book}
use Rattle.domain_changes.specs.domain_standing.Standing.{AreBooksOf, HaveParents}
use Rattle.domain_state.proofs.NoClones.{have_no_clone}
use Rattle.domain_changes.specs.fileset_table.Table.{has_name}
use Rattle.domain_changes.specs.domain_memory.Memory.{StandsFor}
use Rattle.domain_changes.specs.domain_memory.Staged.{IsSettled, IsStaged, staged_books, staged_in}
use Rattle.domain_changes.specs.domain_memory.declared.memory.DomainMemory.{DomainMemory}
use Rattle.domain_changes.specs.Charging.{ChangesOneBook}
use Rattle.domain_changes.proofs.BooksFollow.{books_follow, one_before}
use Rattle.name_changes.specs.Stages.{Creates, KeepsParents}
use Rattle.name_changes.proofs.Books.{named_path}
use Rattle.name_commands.specs.Coming.{IsAnswered}
use Rattle.name_commands.specs.Ending.{EndsAs, StopsAs, StopsWith}
use Rattle.name_commands.specs.Naming.{IsNewPath, creation}
use Rattle.name_commands.specs.declared.stop.Stop.{Stop}
use Rattle.name_commands.specs.declared.stop.Stop.TheVariants.{OutOfMemory, Refused}
use Rattle.name_commands.proofs.Given.{Given}
use Rattle.name_commands.proofs.Means.{accepted, in_this}
use Rattle.name_commands.proofs.Removal.{refuses_none}

-- ---- checks with one more after them

pub first_behind : (checks : List (Option Refusal)) (more : Option Refusal) → first_refusal checks ≡ None → first_refusal (checks ++ more ∷ []) ≡ more
first_behind [] None none = refl
first_behind [] (Some refusal) none = refl
first_behind (None ∷ checks) more none = first_behind checks more none
first_behind (Some refusal ∷ checks) more none = absurd (cc)

pub first_before : (checks : List (Option Refusal)) (more : Option Refusal) (refusal : Refusal) → first_refusal checks ≡ Some refusal → first_refusal (checks ++ more ∷ []) ≡ Some refusal
first_before [] more refusal is = absurd (cc)
first_before (None ∷ checks) more refusal is = first_before checks more refusal is
first_before (Some other ∷ checks) more refusal is = is

-- ---- what is refused

module _ (memory : DomainMemory) (number : ℕ) (place : Place) (all : FilesetMap) (g : Given memory number place.fileset all) (uid gid : ℕ) where
  abbrev asked : Option Refusal
  asked = quota_refusal g.fileset.tree uid gid 1 0

  in_create : first_refusal (create_checks place.path uid gid g.fileset) ≡ first_refusal (free_checks place.path g.fileset ++ asked ∷ [])
  in_create = ap (λ (r : Role). first_refusal (refuse_if (is_clone r) ReadOnly ∷ walk_refusal g.fileset place.path ∷ path_taken g.fileset place.path ∷ asked ∷ [])) g.role

  pub creation_refusal : (of : Kind) → refusal_of all (creation of place uid gid) ≡ first_refusal (free_checks place.path g.fileset ++ asked ∷ [])
  creation_refusal kind.File = in_this all place.fileset g.fileset (create_checks place.path uid gid) g.here ∙ in_create
  creation_refusal kind.Directory = in_this all place.fileset g.fileset (create_checks place.path uid gid) g.here ∙ in_create

  pub creation_stops : (of : Kind) (over : Option Refusal) (stop : Stop) → over ≡ asked → StopsWith (first_refusal (free_checks place.path g.fileset ++ over ∷ [])) stop → StopsAs all (creation of place uid gid) stop
  creation_stops of over stop is stops =
      subst (λ (o : Option Refusal). StopsWith o stop) (sym (creation_refusal of)) (subst (λ (o : Option Refusal). StopsWith (first_refusal (free_checks place.path g.fileset ++ o ∷ [])) stop) is stops)

-- ---- what is made

counts_new : (of : Kind) (uid gid : ℕ) → CountsMore uid gid 1 0 None (Some (new_node of uid gid))
counts_new kind.File uid gid =
    let none : 16 * len (empty {X = List ℕ} {R = nat_cmp}) ≡ 0 = ap (λ (n : ℕ). 16 * n) (len-empty nat_cmp (List ℕ)) in
    subst (λ (n : ℕ). CountsMore uid gid 1 n None (Some (new_node kind.File uid gid))) none (counts_one (new_node kind.File uid gid))
counts_new kind.Directory uid gid = counts_one (new_node kind.Directory uid gid)

-- no fileset has the name
pub no_creation : (memory : DomainMemory) (place : Place) (uid gid : ℕ) → IsSettled memory → list_any (has_name place.fileset) memory.table.slots ≡ false → (all : FilesetMap) → StandsFor memory all → (of : Kind) → refusal_of all (creation of place uid gid) ≡ Some NoFileset
no_creation memory place uid gid settled none all stands kind.File = refuses_none memory place.fileset settled none all stands (create_checks place.path uid gid)
no_creation memory place uid gid settled none all stands kind.Directory = refuses_none memory place.fileset settled none all stands (create_checks place.path uid gid)

module _ (memory mid last : DomainMemory) (number : ℕ) (place : Place) (all : FilesetMap) (g : Given memory number place.fileset all) (of : Kind) (uid gid : ℕ) (made : Created) (some : IsNewPath place.path) (creates : Creates place.path (new_node of uid gid) all g.entry g.fileset mid made) where
  abbrev node : Node
  node = new_node of uid gid

  abbrev file : ℕ
  file = number_of made.tag

  abbrev tree : Fileset
  tree = with_node place.path file node g.fileset.tree

  abbrev all_now : FilesetMap
  all_now = insert all g.entry.name (record g.fileset { tree = tree })

  not_root : IsNotRoot g.fileset.tree file
  not_root = by_root (get g.fileset.tree.paths []) refl
    where
      by_test : (root : ℕ) → IsSome (get g.fileset.tree.nodes root) → (b : Bool) → (root == file) ≡ b → b ≡ false
      by_test root there false is = refl
      by_test root there true is = absurd (true≢false (sym (subst IsSome (ap (get g.fileset.tree.nodes) (eqb-true root file is) ∙ creates.fresh) there)))

      by_root : (o : Option ℕ) → get g.fileset.tree.paths [] ≡ o → option_map_or (λ n. n == file) o false ≡ false
      by_root None is = refl
      by_root (Some root) is = by_test root (g.valid.led_to [] root is) (root == file) refl

  grows : ChangesNode file None (Some node) g.fileset.tree tree
  grows = node_made g.fileset.tree place.path file node (named_path place.path some.0) not_root creates.fresh

  unused : IsUnused all place.fileset file
  unused other its at named = ap (λ (t : Fileset). get t.nodes file) (ap (λ (f : FilesetSlot). f.tree) (some_same its g.fileset (sym at ∙ ap (get all) same ∙ g.here))) ∙ creates.fresh
    where
      original : its.role ≡ role.Original
      original = have_no_clone (staged_in memory) all g.kept.staged.stands.slots other its at

      left : (b : Bool) → (b || false) ≡ true → b ≡ true
      left true is = refl
      left false is = is

      same : other ≡ place.fileset
      same = sym ((bytes_decides place.fileset other).0 (left (same_name place.fileset other) (subst (λ (r : Role). (same_name place.fileset other || is_clone_of place.fileset r) ≡ true) original named)))

  in_tree : all_now ≡ with_tree all place.fileset (with_node place.path file node)
  in_tree = ap (λ (n : Name). insert all n (record g.fileset { tree = tree })) g.named
      ∙ sym (ap (λ (o : Option FilesetSlot). option_map_or (λ (s : FilesetSlot). insert all place.fileset (record s { tree = with_node place.path file node s.tree })) o all) g.here)

  changes : (k : Kind) → k ≡ of → Changes all (creation k place uid gid) all_now
  changes kind.File is = (file, unused, in_tree ∙ ap (λ (k : Kind). with_tree all place.fileset (with_node place.path file (new_node k uid gid))) (sym is))
  changes kind.Directory is = (file, unused, in_tree ∙ ap (λ (k : Kind). with_tree all place.fileset (with_node place.path file (new_node k uid gid))) (sym is))

  done : (k : Kind) → Done ≡ answer_of all (creation k place uid gid)
  done kind.File = refl
  done kind.Directory = refl

  module _ (parents : KeepsParents memory mid) (table : mid.table ≡ memory.table) (counted : staged_books mid ≡ staged_books memory) (domain : staged_in last ≡ staged_in mid) (staged : (every : FilesetMap) → IsStaged mid every → IsStaged last every) (over : Option Refusal)
      (is : over ≡ quota_refusal g.fileset.tree uid gid 1 0)
    where
      now_staged : IsStaged last all_now
      now_staged = staged all_now creates.staged

      now_books : ChangesOneBook number (Charges uid gid 1 0) memory last → AreBooksOf (staged_books last) (staged_in last) all_now
      now_books one =
          books_follow number g.entry memory all g.fileset g.has.original g.has.there last now_staged.stands.tables tree one.table one.others
          (λ its. charged_book g.fileset.tree tree file None (Some node) uid gid 1 0 (staged_books memory number) (staged_books last number) its grows (counts_new of uid gid) one.book) g.kept.books

      -- after what names refuse, which is nothing, quotas refuse
      asked_last : refusal_of all (creation of place uid gid) ≡ over
      asked_last = creation_refusal memory number place all g uid gid of ∙ first_behind (free_checks place.path g.fileset) (quota_refusal g.fileset.tree uid gid 1 0) creates.allowed ∙ sym is

      answers_made : ChangesOneBook number (Charges uid gid 1 0) mid last → over ≡ None → IsAnswered last all (creation of place uid gid) Done
      answers_made charged none = record {
        now = all_now;
        kept = record {
          staged = now_staged;
          parents = subst HaveParents (sym domain) (parents g.kept.parents);
          books = now_books (one_before number (Charges uid gid 1 0) memory mid last table counted charged);
        };
        means = inl (accepted all (creation of place uid gid) Done all_now (asked_last ∙ none) (done of) (changes of refl));
      }

      stops_over : (stop : Stop) (o : Option Refusal) → over ≡ o → IsSomeAnd o (λ refusal. stop ≡ Refused refusal) → StopsAs all (creation of place uid gid) stop
      stops_over stop None is told = absurd told
      stops_over stop (Some refusal) is told = subst (StopsAs all (creation of place uid gid)) (sym told) (asked_last ∙ is)

      pub ends_made : (r : Result Reply Stop) → IfOk r (λ reply. (reply ≡ Done) × (over ≡ None) × ChangesOneBook number (Charges uid gid 1 0) mid last) → IfErr r (λ stop. (stop ≡ OutOfMemory) ⊎ IsSomeAnd over (λ refusal. stop ≡ Refused refusal)) → EndsAs last all (creation of place uid gid) r
      ends_made (Ok reply) ok err = subst (IsAnswered last all (creation of place uid gid)) (sym ok.0) (answers_made ok.2 ok.1)
      ends_made (Err stop) ok err = ⊎_elim (λ short. subst (StopsAs all (creation of place uid gid)) (sym short) tt) (stops_over stop over refl) err
