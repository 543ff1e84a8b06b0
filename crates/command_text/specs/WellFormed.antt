-- Commands whose parts are of the forms of words, and what says them.
use Rattle.std.specs.Prelude.{◌≡◌, ℕ, ◌+◌, ◌≤◌, ◌==◌, true, Some, List, ◌∷◌, length}
use Rattle.std.specs.List.{slice_split}
use Rattle.word_forms.specs.fileset_values.declared.command.Command.{Command}
use Rattle.word_forms.specs.fileset_values.declared.command.Command.TheVariants.{Mkfset, Rmfset, Clonefset, Showfsets, Setquota, Showquota, Create, Mkdir, Write, Read, Truncate, Rename, Link, Links, Unlink, Rmdir, List as ListAt, Stat, Fsync, Chfile, Stripe, Sync, Cancel, Showfdmn, Showfile, Migrate, Balance, Addvol, Rmvol, ChvolA, Switchlog, Upgrade, Defragment}
use Rattle.command_text.specs.declared.verb.Verb.{Verb}
use Rattle.command_text.specs.Commands.{command_of, takes, verb_of}
use Rattle.word_forms.specs.WellFormed.{IsContent, IsFileset, IsLarge, IsNamed, IsNamedPath, IsOptional, IsOwner, IsPlace, IsSmall}

-- a command whose parts are of the forms of their words
abbrev pub IsWellFormed : Command → Type 0
IsWellFormed (Mkfset fileset) = IsFileset fileset
IsWellFormed (Rmfset fileset) = IsFileset fileset
IsWellFormed (Clonefset fileset new_name) = IsFileset fileset × IsFileset new_name
IsWellFormed (Setquota fileset who files blocks) =
    IsFileset fileset × IsOwner who × IsLarge files × IsLarge blocks
IsWellFormed (Showquota fileset who) = IsFileset fileset × IsOwner who
IsWellFormed (Create place uid gid) = IsNamed place × IsSmall uid × IsSmall gid
IsWellFormed (Mkdir place uid gid) = IsNamed place × IsSmall uid × IsSmall gid
IsWellFormed (Write place offset bytes) = IsPlace place × IsLarge offset × IsContent bytes
IsWellFormed (Read place offset count) = IsPlace place × IsLarge offset × (count ≤ 8_192)
IsWellFormed (Truncate place size) = IsPlace place × IsLarge size
IsWellFormed (Rename place to) = IsNamed place × IsNamedPath to
IsWellFormed (Link place to) = IsNamed place × IsNamedPath to
IsWellFormed (Links place) = IsPlace place
IsWellFormed (Unlink place) = IsNamed place
IsWellFormed (Rmdir place) = IsNamed place
IsWellFormed (ListAt place) = IsPlace place
IsWellFormed (Stat place) = IsPlace place
IsWellFormed (Fsync place) = IsPlace place
IsWellFormed (Chfile place logged) = IsPlace place
IsWellFormed (Stripe width place) = (2 ≤ width) × (width ≤ 8) × IsPlace place
IsWellFormed (Showfile place) = IsPlace place
IsWellFormed (Migrate place first count from to) =
    IsPlace place × IsOptional first × IsOptional count × IsOptional from × IsSmall to
IsWellFormed (Addvol vol) = IsSmall vol
IsWellFormed (Rmvol vol) = IsSmall vol
IsWellFormed (ChvolA vol) = IsSmall vol
IsWellFormed (Switchlog vol) = IsSmall vol
IsWellFormed (Defragment place) = IsPlace place
IsWellFormed Showfsets = Unit {0}
IsWellFormed Sync = Unit {0}
IsWellFormed Cancel = Unit {0}
IsWellFormed Showfdmn = Unit {0}
IsWellFormed Balance = Unit {0}
IsWellFormed Upgrade = Unit {0}

-- a text, cut at its spaces, says this command by the table of commands
pub record Says (text : List ℕ) (command : Command) : Type 0 where
  pub verb : Verb
  pub first : List ℕ
  pub behind : List (List ℕ)
  pub words : slice_split (λ b. b == 32) text ≡ first ∷ behind
  pub named : verb_of first ≡ Some verb
  pub counted : takes verb (length behind + 1) ≡ true
  pub said : command_of verb behind ≡ Some command
