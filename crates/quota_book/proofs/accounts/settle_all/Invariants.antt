use Rattle.std.proofs.Common.{◌≡◌, ◌≤◌, length, vec_capacity, vec_len}
use Rattle.fileset_model.specs.fileset_values.declared.command.Owner.{Owner}
use Rattle.quota_book.specs.Accounts.{AreAccounts, share_at}
use Rattle.quota_book.proofs.accounts.settle_all.Given as goal

abbrev pub invariant-loop-who : goal.invariant-loop-who
invariant-loop-who l = record {
  accounts : AreAccounts l.accounts.items l.changed.items;
  shares : (q : Owner) → share_at l.side l.accounts.items q ≡ share_at l.side l.initial.accounts.items q;
  len : vec_len l.accounts ≡ vec_len l.initial.accounts;
  list_room : vec_capacity l.changed ≡ vec_capacity l.initial.changed;
}

abbrev pub decreases-loop-who : goal.decreases-loop-who
decreases-loop-who l = length l.changed.items
