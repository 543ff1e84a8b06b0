-- The commands that are answered so far.
use Rattle.std.proofs.Common.{◌≡◌, ℕ, Bool, false, List, refl}
use Rattle.file_commands.specs.fileset_values.Orders.{Name, Path}
use Rattle.file_commands.specs.fileset_values.declared.command.Command.{Command}
use Rattle.file_commands.specs.fileset_values.declared.command.Command.TheVariants as command
use Rattle.file_commands.specs.fileset_values.declared.command.Owner.{Owner}
use Rattle.file_commands.specs.fileset_values.declared.command.Place.{Place}
use Rattle.file_commands.specs.legal_histories.VolumeReply.{is_movers}
use Rattle.file_commands.specs.name_commands.Ending.{IsLaid}

-- one of them is one of these
pub data Serving : Command → Type 0 where
  mkfset : (fileset : Name) → Serving (command.Mkfset fileset)
  rmfset : (fileset : Name) → Serving (command.Rmfset fileset)
  showfsets : Serving command.Showfsets
  setquota : (fileset : Name) (who : Owner) (files blocks : ℕ) → Serving (command.Setquota fileset who files blocks)
  showquota : (fileset : Name) (who : Owner) → Serving (command.Showquota fileset who)
  create : (place : Place) (uid gid : ℕ) → Serving (command.Create place uid gid)
  mkdir : (place : Place) (uid gid : ℕ) → Serving (command.Mkdir place uid gid)
  write : (place : Place) (offset : ℕ) (bytes : List ℕ) → Serving (command.Write place offset bytes)
  read : (place : Place) (offset count : ℕ) → Serving (command.Read place offset count)
  truncate : (place : Place) (size : ℕ) → Serving (command.Truncate place size)
  link : (place : Place) (to : Path) → Serving (command.Link place to)
  links : (place : Place) → Serving (command.Links place)
  unlink : (place : Place) → Serving (command.Unlink place)
  rmdir : (place : Place) → Serving (command.Rmdir place)
  rename : (place : Place) (to : Path) → Serving (command.Rename place to)
  list : (place : Place) → Serving (command.List place)
  stat : (place : Place) → Serving (command.Stat place)
  fsync : (place : Place) → Serving (command.Fsync place)
  chfile : (place : Place) (logged : Bool) → Serving (command.Chfile place logged)
  sync : Serving command.Sync
  cancel : Serving command.Cancel

pub serving : (c : Command) → IsLaid c → Serving c
serving (command.Mkfset fileset) is = Serving.mkfset fileset
serving (command.Rmfset fileset) is = Serving.rmfset fileset
serving (command.Setquota fileset who files blocks) is = Serving.setquota fileset who files blocks
serving (command.Clonefset fileset new_name) is = absurd is
serving command.Showfsets is = Serving.showfsets
serving (command.Showquota fileset who) is = Serving.showquota fileset who
serving (command.Create place uid gid) is = Serving.create place uid gid
serving (command.Mkdir place uid gid) is = Serving.mkdir place uid gid
serving (command.Write place offset bytes) is = Serving.write place offset bytes
serving (command.Read place offset count) is = Serving.read place offset count
serving (command.Truncate place size) is = Serving.truncate place size
serving (command.Rename place to) is = Serving.rename place to
serving (command.Link place to) is = Serving.link place to
serving (command.Links place) is = Serving.links place
serving (command.Unlink place) is = Serving.unlink place
serving (command.Rmdir place) is = Serving.rmdir place
serving (command.List place) is = Serving.list place
serving (command.Stat place) is = Serving.stat place
serving (command.Fsync place) is = Serving.fsync place
serving (command.Chfile place logged) is = Serving.chfile place logged
serving (command.Stripe width place) is = absurd is
serving command.Sync is = Serving.sync
serving command.Cancel is = Serving.cancel
serving command.Showfdmn is = absurd is
serving (command.Showfile place) is = absurd is
serving (command.Migrate place first count from to) is = absurd is
serving command.Balance is = absurd is
serving (command.Addvol vol) is = absurd is
serving (command.Rmvol vol) is = absurd is
serving (command.ChvolA vol) is = absurd is
serving (command.Switchlog vol) is = absurd is
serving command.Upgrade is = absurd is
serving (command.Defragment place) is = absurd is

clients : (c : Command) → Serving c → is_movers c ≡ false
clients c (Serving.mkfset fileset) = refl
clients c (Serving.rmfset fileset) = refl
clients c Serving.showfsets = refl
clients c (Serving.setquota fileset who files blocks) = refl
clients c (Serving.showquota fileset who) = refl
clients c (Serving.create place uid gid) = refl
clients c (Serving.mkdir place uid gid) = refl
clients c (Serving.write place offset bytes) = refl
clients c (Serving.read place offset count) = refl
clients c (Serving.truncate place size) = refl
clients c (Serving.link place to) = refl
clients c (Serving.links place) = refl
clients c (Serving.unlink place) = refl
clients c (Serving.rmdir place) = refl
clients c (Serving.rename place to) = refl
clients c (Serving.list place) = refl
clients c (Serving.stat place) = refl
clients c (Serving.fsync place) = refl
clients c (Serving.chfile place logged) = refl
clients c Serving.sync = refl
clients c Serving.cancel = refl

pub served_client : (c : Command) → IsLaid c → is_movers c ≡ false
served_client c is = clients c (serving c is)
