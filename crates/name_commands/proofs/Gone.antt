-- What is gone with its last path, and what is refunded for it.
use Rattle.std.proofs.Common.{◌≡◌, ◌∙◌, ◌==◌, ℕ, Bool, true, false, [], Option, Some, None, IsSomeAnd, refl, sym, ap, subst}
use Rattle.std.proofs.lemmas.Bool.{eqb-true}
use Rattle.std.specs.FinMap.{get}
use Rattle.std.specs.Option.{option_and_then, option_map_or}
use Rattle.domain_changes.specs.legal_histories.Valid.{IsValidFileset}
use Rattle.domain_changes.specs.fileset_model.Apply.{is_named_elsewhere, without}
use Rattle.domain_changes.specs.fileset_model.Fileset.{Fileset}
use Rattle.domain_changes.specs.fileset_values.Orders.{Path}
use Rattle.domain_changes.specs.fileset_model.Paths.{node_at}
use Rattle.domain_changes.specs.fileset_model.declared.node.Node.{Node}
use Rattle.domain_changes.specs.quota_book.Book.{Book, HasAll, Refunds, used}
use Rattle.domain_changes.specs.quota_book.Sums.{ChangesNode, CountsMore, IsBookOf, IsNotRoot, gid_of, uid_of}
use Rattle.domain_changes.proofs.OfQuotaBook.ModelChanges.{gone, one as counts_one}
use Rattle.domain_changes.proofs.OfQuotaBook.Sums.{has_enough, refunded_book}
use Rattle.name_commands.specs.Leaving.{IsShareOf}
use Rattle.name_commands.specs.declared.leaving.Share.{Share}

-- what has its last path there, and whose it is
pub record IsLast (tree : Fileset) (path : Path) (number : ℕ) (share : Share) : Type 0 where
  pub node : Node
  pub at : get tree.paths path ≡ Some number
  pub last : is_named_elsewhere tree path number ≡ false
  pub is : get tree.nodes number ≡ Some node
  pub its : IsShareOf share node

pub is_last : (tree : Fileset) (path : Path) (number : ℕ) (share : Share) → get tree.paths path ≡ Some number → is_named_elsewhere tree path number ≡ false → IsSomeAnd (node_at tree path) (IsShareOf share) → IsLast tree path number share
is_last tree path number share at last its = by_node (get tree.nodes number) refl (subst (λ (o : Option ℕ). IsSomeAnd (option_and_then (get tree.nodes) o) (IsShareOf share)) at its)
  where
    by_node : (o : Option Node) → get tree.nodes number ≡ o → IsSomeAnd o (IsShareOf share) → IsLast tree path number share
    by_node None is its = absurd its
    by_node (Some node) is its = record { node = node; at = at; last = last; is = is; its = its }

module _ (tree : Fileset) (valid : IsValidFileset tree) (path : Path) (named : ¬ path ≡ []) (number : ℕ) (share : Share) (l : IsLast tree path number share) where
  not_root : IsNotRoot tree number
  not_root = by_root (get tree.paths []) refl
    where
      by_test : (root : ℕ) → get tree.paths [] ≡ Some root → (b : Bool) → (root == number) ≡ b → b ≡ false
      by_test root at false is = refl
      by_test root at true is = absurd (named (sym (valid.one_path [] path number valid.root (at ∙ ap (λ (n : ℕ). Some n) (eqb-true root number is)) l.at)))

      by_root : (o : Option ℕ) → get tree.paths [] ≡ o → option_map_or (λ n. n == number) o false ≡ false
      by_root None is = refl
      by_root (Some root) is = by_test root is (root == number) refl

  goes : ChangesNode number (Some l.node) None tree (without path tree)
  goes = gone tree path number l.node named l.at l.last not_root l.is

  counts : CountsMore share.uid share.gid 1 share.blocks None (Some l.node)
  counts = subst (λ (n : ℕ). CountsMore n share.gid 1 share.blocks None (Some l.node)) l.its.user
      (subst (λ (n : ℕ). CountsMore (uid_of l.node) n 1 share.blocks None (Some l.node)) l.its.group (subst (λ (n : ℕ). CountsMore (uid_of l.node) (gid_of l.node) 1 n None (Some l.node)) l.its.size (counts_one l.node)))

  pub enough_there : (book : Book) → IsBookOf book tree → HasAll share.uid share.gid 1 share.blocks (used book)
  enough_there book its = has_enough tree (without path tree) number (Some l.node) None share.uid share.gid 1 share.blocks book its goes counts

  pub refunded_there : (book now : Book) → IsBookOf book tree → Refunds share.uid share.gid 1 share.blocks book now → IsBookOf now (without path tree)
  refunded_there book now its refunds = refunded_book tree (without path tree) number (Some l.node) None share.uid share.gid 1 share.blocks book now its goes counts refunds
