-- What goes with its last path.
use Rattle.std.specs.Prelude.{◌≡◌}
use Rattle.domain_changes.specs.domain_base.declared.place.Kind.{Kind}
use Rattle.domain_changes.specs.domain_base.declared.place.Kind.TheVariants as kind
use Rattle.domain_changes.specs.fileset_model.Usage.{blocks_of}
use Rattle.domain_changes.specs.fileset_values.declared.command.Command.{Command}
use Rattle.domain_changes.specs.fileset_values.declared.command.Command.TheVariants.{Rmdir, Unlink}
use Rattle.domain_changes.specs.fileset_values.declared.command.Place.{Place}
use Rattle.domain_changes.specs.fileset_model.declared.node.Node.{Node}
use Rattle.domain_changes.specs.quota_book.Sums.{gid_of, uid_of}
use Rattle.name_commands.specs.declared.leaving.Share.{Share}

-- whose a file or directory is, and its blocks
pub record IsShareOf (share : Share) (node : Node) : Type 0 where
  pub user : uid_of node ≡ share.uid
  pub group : gid_of node ≡ share.gid
  pub size : blocks_of node ≡ share.blocks

-- the command that takes a path of a thing of a kind away
abbrev pub taking : Kind → Place → Command
taking kind.File place = Unlink place
taking kind.Directory place = Rmdir place
