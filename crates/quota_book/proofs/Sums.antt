-- What owners use of a fileset after a change of one file or directory, and the book of it.
use Rattle.std.proofs.Common.{◌≡◌, ◌∙◌, ℕ, ◌+◌, ◌-◌, ◌≤◌, ◌==◌, Bool, true, false, not, cond, ◌&&◌, List, [], ◌∷◌, length, filter, Option, Some, None, unwrap_or, refl, sym, ap, arith}
use Rattle.std.proofs.lemmas.List.Sums.{sum_by-cons}
use Rattle.std.specs.List.{sum_by}
use Rattle.std.specs.Ordering.{eq_by_cmp, nat_cmp}
use Rattle.std.specs.Option.{option_map_or}
use Rattle.std.specs.Cmp.{nat_cmp_total}
use Rattle.std.specs.FinMap as map
use Rattle.std.specs.FinMap.{nat_cmp-IsAntisymmetric}
use Rattle.std.specs.FinMap.Entries.{put}
use Rattle.fileset_model.specs.Fileset.{Fileset}
use Rattle.fileset_model.specs.Usage.{blocks_of, counts_for, is_owned, is_owners, used_blocks, used_files}
use Rattle.fileset_model.specs.fileset_values.declared.command.Owner.{Owner}
use Rattle.fileset_model.specs.fileset_values.declared.command.Owner.TheVariants.{User, Group, Fileset as WholeFileset}
use Rattle.fileset_model.specs.declared.fileset.Usage.{Usage}
use Rattle.fileset_model.specs.declared.node.Node.{Node}
use Rattle.fileset_model.proofs.ChangeLemmas.{remove-from_sorted}
use Rattle.fileset_model.proofs.OfSortedSets.EntryLemmas.{entries-from_sorted, is_sorted_where}
use Rattle.fileset_model.proofs.MoveLemmas.{entries-empty, from_sorted-entries, sorted_entries}
use Rattle.std.proofs.lemmas.Bool.{eq-eqb}
use Rattle.fileset_model.specs.Apply.{empty_fileset}
use Rattle.fileset_model.specs.fileset_values.Orders.{owner_cmp, path_cmp-total}
use Rattle.fileset_model.specs.Paths.{first_refusal, refuse_if}
use Rattle.fileset_model.specs.Usage.{blocks_refusal, files_refusal, limits_of, passes, quota_refusal}
use Rattle.fileset_model.specs.declared.fileset.Limits.{Limits}
use Rattle.fileset_model.specs.declared.node.Node.TheVariants.{Directory}
use Rattle.fileset_model.specs.fileset_values.declared.reply.Refusal.{Refusal}
use Rattle.fileset_model.specs.fileset_values.declared.reply.Refusal.TheVariants.{QuotaFiles, QuotaBlocks}
use Rattle.quota_book.specs.Owners.{nothing}
use Rattle.quota_book.specs.Book.{Book, Charges, HasAll, Refunds, empty_book, limits_in, lowered, raised, refusal_in, used}
use Rattle.quota_book.specs.Sums.{ChangesNode, CountsMore, IsBookOf, blocks_for, files_for, with_entry}
use Rattle.quota_book.proofs.OneNode.{total-others, total-put}
use Rattle.fileset_model.proofs.OfSortedSets.Removal.{others}

abbrev Nodes : Type 0
Nodes = map.FinMap nat_cmp Node

entries-remove : (m : Nodes) (k : ℕ) → map.entries (map.remove m k) ≡ others nat_cmp_total k (map.entries m)
entries-remove m k =
    let es = map.entries m in
    ap map.entries (ap (λ n. map.remove n k) (sym (from_sorted-entries m)) ∙ sym (remove-from_sorted nat_cmp_total nat_cmp-IsAntisymmetric k es (sorted_entries m)))
    ∙ entries-from_sorted nat_cmp (others nat_cmp_total k es) (is_sorted_where nat_cmp (λ x. not (eq_by_cmp nat_cmp k x)) es (sorted_entries m))

-- a number for each list of files and directories that counts a weight for each
module _ (total : List (ℕ × Node) → ℕ) (weight : ℕ × Node → ℕ) (cons : (e : ℕ × Node) (es : List (ℕ × Node)) → total (e ∷ es) ≡ weight e + total es) where
  abbrev counted : ℕ → Option Node → ℕ
  counted number o = option_map_or (λ x. weight (number, x)) o 0

  total_changed : (nodes : Nodes) (number : ℕ) (is : Option Node) → total (map.entries (with_entry number is nodes)) + counted number (map.get nodes number) ≡ total (map.entries nodes) + counted number is
  total_changed nodes number (Some node) =
      let es = map.entries nodes in
      let a = ap total (map.entries-insert nat_cmp_total nodes number node) in
      let b = ap (counted number) (map.get-entries nodes number) in
      let c = total-put total weight cons number node es (map.entries_sorted nodes) in
      omega (arith, a, b, c)
  total_changed nodes number None =
      let es = map.entries nodes in
      let a = ap total (entries-remove nodes number) in
      let b = ap (counted number) (map.get-entries nodes number) in
      let c = total-others total weight cons number es (map.entries_sorted nodes) in
      omega (arith, a, b, c)

and_true : (b : Bool) → b && true ≡ b
and_true true = refl
and_true false = refl

module _ (who : Owner) (root : Option ℕ) where
  abbrev counts : ℕ × Node → Bool
  counts = counts_for who root

  abbrev files_in : List (ℕ × Node) → ℕ
  files_in es = length (filter counts es)

  abbrev blocks_in : List (ℕ × Node) → ℕ
  blocks_in es = sum_by (λ e. blocks_of e.1) (filter counts es)

  files-cons : (e : ℕ × Node) (es : List (ℕ × Node)) → files_in (e ∷ es) ≡ cond (counts e) 1 0 + files_in es
  files-cons e es = by_test (counts e)
    where
      by_test : (b : Bool) → length (cond b (e ∷ filter counts es) (filter counts es)) ≡ cond b 1 0 + files_in es
      by_test true = omega arith
      by_test false = omega arith

  blocks-cons : (e : ℕ × Node) (es : List (ℕ × Node)) → blocks_in (e ∷ es) ≡ cond (counts e) (blocks_of e.1) 0 + blocks_in es
  blocks-cons e es = by_test (counts e)
    where
      by_test : (b : Bool) → sum_by (λ e. blocks_of e.1) (cond b (e ∷ filter counts es) (filter counts es)) ≡ cond b (blocks_of e.1) 0 + blocks_in es
      by_test true = sum_by-cons (λ e. blocks_of e.1) e (filter counts es)
      by_test false = omega arith

  module _ (number : ℕ) (not_root : option_map_or (λ n. n == number) root false ≡ false) where
    counts_there : (node : Node) → counts (number, node) ≡ is_owners who node
    counts_there node = ap (λ b. is_owners who node && not b) not_root ∙ and_true (is_owners who node)

    files_there : (o : Option Node) → option_map_or (λ x. cond (counts (number, x)) 1 0) o 0 ≡ files_for who o
    files_there None = refl
    files_there (Some node) = ap (λ b. cond b 1 0) (counts_there node)

    blocks_there : (o : Option Node) → option_map_or (λ x. cond (counts (number, x)) (blocks_of x) 0) o 0 ≡ blocks_for who o
    blocks_there None = refl
    blocks_there (Some node) = ap (λ b. cond b (blocks_of node) 0) (counts_there node)

-- what an owner uses after a change of one file or directory
module _ (old new : Fileset) (number : ℕ) (was is : Option Node) (changes : ChangesNode number was is old new) (who : Owner) where
  abbrev root : Option ℕ
  root = map.get old.paths []

  pub files_changed : used_files new who + files_for who was ≡ used_files old who + files_for who is
  files_changed =
      let a : used_files new who ≡ files_in who root (map.entries (with_entry number is old.nodes)) = λ i. files_in who (changes.root i) (map.entries (changes.after i)) in
      let b = total_changed (files_in who root) (λ e. cond (counts_for who root e) 1 0) (files-cons who root) old.nodes number is in
      let c = files_there who root number changes.not_root (map.get old.nodes number) ∙ ap (files_for who) changes.before in
      let d = files_there who root number changes.not_root is in
      omega (arith, a, b, c, d)

  pub blocks_changed : used_blocks new who + blocks_for who was ≡ used_blocks old who + blocks_for who is
  blocks_changed =
      let a : used_blocks new who ≡ blocks_in who root (map.entries (with_entry number is old.nodes)) = λ i. blocks_in who (changes.root i) (map.entries (changes.after i)) in
      let b = total_changed (blocks_in who root) (λ e. cond (counts_for who root e) (blocks_of e.1) 0) (blocks-cons who root) old.nodes number is in
      let c = blocks_there who root number changes.not_root (map.get old.nodes number) ∙ ap (blocks_for who) changes.before in
      let d = blocks_there who root number changes.not_root is in
      omega (arith, a, b, c, d)

-- ---- the book

raised_files : (b : Bool) (files blocks : ℕ) (u : Usage) → (cond b (raised files blocks u) u).files ≡ u.files + cond b files 0
raised_files true files blocks u = refl
raised_files false files blocks u = omega arith

raised_blocks : (b : Bool) (files blocks : ℕ) (u : Usage) → (cond b (raised files blocks u) u).blocks ≡ u.blocks + cond b blocks 0
raised_blocks true files blocks u = refl
raised_blocks false files blocks u = omega arith

lowered_files : (b : Bool) (files blocks : ℕ) (u : Usage) → (cond b (lowered files blocks u) u).files ≡ u.files - cond b files 0
lowered_files true files blocks u = refl
lowered_files false files blocks u = omega arith

lowered_blocks : (b : Bool) (files blocks : ℕ) (u : Usage) → (cond b (lowered files blocks u) u).blocks ≡ u.blocks - cond b blocks 0
lowered_blocks true files blocks u = refl
lowered_blocks false files blocks u = omega arith

pub charged_book : (old new : Fileset) (number : ℕ) (was is : Option Node) (uid gid files blocks : ℕ) (book charged : Book) → IsBookOf book old → ChangesNode number was is old new
    → CountsMore uid gid files blocks was is → Charges uid gid files blocks book charged → IsBookOf charged new
charged_book old new number was is uid gid files blocks book charged of changes more charges = record {
  files = λ who.
      let a = ap (λ (u : Usage). u.files) (charges.totals who) ∙ raised_files (is_owned who uid gid) files blocks (used book who) in
      let b = files_changed old new number was is changes who in
      let c = more.more_files who in
      let d = of.files who in
      omega (arith, a, b, c, d);
  blocks = λ who.
      let a = ap (λ (u : Usage). u.blocks) (charges.totals who) ∙ raised_blocks (is_owned who uid gid) files blocks (used book who) in
      let b = blocks_changed old new number was is changes who in
      let c = more.more_blocks who in
      let d = of.blocks who in
      omega (arith, a, b, c, d);
  limits = charges.limits ∙ of.limits ∙ sym changes.limits;
}

pub refunded_book : (old new : Fileset) (number : ℕ) (was is : Option Node) (uid gid files blocks : ℕ) (book refunded : Book) → IsBookOf book old → ChangesNode number was is old new
    → CountsMore uid gid files blocks is was → Refunds uid gid files blocks book refunded → IsBookOf refunded new
refunded_book old new number was is uid gid files blocks book refunded of changes more refunds = record {
  files = λ who.
      let a = ap (λ (u : Usage). u.files) (refunds.totals who) ∙ lowered_files (is_owned who uid gid) files blocks (used book who) in
      let b = files_changed old new number was is changes who in
      let c = more.more_files who in
      let d = of.files who in
      omega (arith, a, b, c, d);
  blocks = λ who.
      let a = ap (λ (u : Usage). u.blocks) (refunds.totals who) ∙ lowered_blocks (is_owned who uid gid) files blocks (used book who) in
      let b = blocks_changed old new number was is changes who in
      let c = more.more_blocks who in
      let d = of.blocks who in
      omega (arith, a, b, c, d);
  limits = refunds.limits ∙ of.limits ∙ sym changes.limits;
}

owned_all : (b : Bool) (n : ℕ) → b ≡ true → cond b n 0 ≡ n
owned_all b n is = ap (λ c. cond c n 0) is

pub has_enough : (old new : Fileset) (number : ℕ) (was is : Option Node) (uid gid files blocks : ℕ) (book : Book) → IsBookOf book old → ChangesNode number was is old new
    → CountsMore uid gid files blocks is was → HasAll uid gid files blocks (used book)
has_enough old new number was is uid gid files blocks book of changes more = record {
  user = (enough_files (User uid) (eq-eqb uid uid refl), enough_blocks (User uid) (eq-eqb uid uid refl));
  group = (enough_files (Group gid) (eq-eqb gid gid refl), enough_blocks (Group gid) (eq-eqb gid gid refl));
  all = (enough_files WholeFileset refl, enough_blocks WholeFileset refl);
}
  where
    enough_files : (who : Owner) → is_owned who uid gid ≡ true → files ≤ (used book who).files
    enough_files who owned =
        let a = files_changed old new number was is changes who in
        let b = more.more_files who in
        let c = owned_all (is_owned who uid gid) files owned in
        let d = of.files who in
        omega (arith, a, b, c, d)

    enough_blocks : (who : Owner) → is_owned who uid gid ≡ true → blocks ≤ (used book who).blocks
    enough_blocks who owned =
        let a = blocks_changed old new number was is changes who in
        let b = more.more_blocks who in
        let c = owned_all (is_owned who uid gid) blocks owned in
        let d = of.blocks who in
        omega (arith, a, b, c, d)

-- ---- what is asked of it

abbrev refused : ℕ → ℕ → Limits → ℕ → ℕ → Option Refusal
refused files blocks limits used_f used_b =
    first_refusal (refuse_if (passes limits.files used_f files) (QuotaFiles limits.files used_f) ∷ refuse_if (passes limits.blocks used_b blocks) (QuotaBlocks limits.blocks used_b blocks) ∷ [])

pub refusal_same : (book : Book) (tree : Fileset) (who : Owner) (files blocks : ℕ) → IsBookOf book tree → first_refusal (files_refusal tree who files ∷ blocks_refusal tree who blocks ∷ []) ≡ refusal_in book who files blocks
refusal_same book tree who files blocks of =
    let limits : limits_in book who ≡ limits_of tree who = ap (λ (m : map.FinMap owner_cmp Limits). unwrap_or (map.get m who) (record { files = 0; blocks = 0 })) of.limits in
    sym (λ i. refused files blocks (limits i) (of.files who i) (of.blocks who i))

pub asked_same : (book : Book) (tree : Fileset) (uid gid files blocks : ℕ) → IsBookOf book tree
    → quota_refusal tree uid gid files blocks ≡ first_refusal (refusal_in book (User uid) files blocks ∷ refusal_in book (Group gid) files blocks ∷ refusal_in book WholeFileset files blocks ∷ [])
asked_same book tree uid gid files blocks of =
    λ i. first_refusal (refusal_same book tree (User uid) files blocks of i ∷ refusal_same book tree (Group gid) files blocks of i ∷ refusal_same book tree WholeFileset files blocks of i ∷ [])

-- ---- a root alone

none_counted : (b : Bool) → b && false ≡ false
none_counted true = refl
none_counted false = refl

module _ (root : ℕ) where
  entries_there : map.entries (empty_fileset root).nodes ≡ (root, Directory 0 0) ∷ []
  entries_there = map.entries-insert nat_cmp_total map.empty root (Directory 0 0) ∙ ap (put nat_cmp root (Directory 0 0)) (entries-empty nat_cmp)

  root_there : map.get (empty_fileset root).paths [] ≡ Some root
  root_there = map.get-insert path_cmp-total map.empty [] root []

  left_out : (who : Owner) → counts_for who (map.get (empty_fileset root).paths []) (root, Directory 0 0) ≡ false
  left_out who =
      ap (λ o. counts_for who o (root, Directory 0 0)) root_there ∙ ap (λ b. is_owners who (Directory 0 0) && not b) (eq-eqb root root refl) ∙ none_counted (is_owners who (Directory 0 0))

  counted_alone : (who : Owner) → filter (counts_for who (map.get (empty_fileset root).paths [])) (map.entries (empty_fileset root).nodes) ≡ []
  counted_alone who = ap (filter (counts_for who (map.get (empty_fileset root).paths []))) entries_there ∙ ap (λ b. cond b ((root, Directory 0 0) ∷ []) []) (left_out who)

  pub empty_is : IsBookOf empty_book (empty_fileset root)
  empty_is = record {
    files = λ who. ap (λ (o : Option Usage). (unwrap_or o nothing).files) (map.get-empty owner_cmp who) ∙ sym (ap length (counted_alone who));
    blocks = λ who. ap (λ (o : Option Usage). (unwrap_or o nothing).blocks) (map.get-empty owner_cmp who) ∙ sym (ap (sum_by (λ (e : ℕ × Node). blocks_of e.1)) (counted_alone who));
    limits = refl;
  }
